-- The part of a carry to several hosts, and the names of their journals.
use Rattle.std.proofs.Common.{◌≡◌, ◌≢◌, ◌-◌, ◌+◌, ℕ, List, [], ◌∷◌, ◌++◌, append_assoc, length, take, Option, Some, None, refl, sym, ap, subst, ◌∙◌}
use Rattle.std.specs.Prelude.{IfSome, decimal}
use Rattle.std.proofs.lemmas.List.{append_cancel_right}
use Rattle.std.specs.Option.{MatchOption}
use Rattle.std.specs.Str.Pattern.{FindsTextSuffix}
use denote.Ref.{Bor}
use Rattle.carry_parts.specs.declared.part.Part.{Part}
use Rattle.seat_words.specs.NameWords.{shard_in}
use Rattle.seat_words.specs.declared.names.ShardWord.{ShardWord}
use Rattle.journal_commands.specs.Parting.{HasNoStem, IsMarkName, IsPartAsked, IsStem, IsUnasked, IsWrong, name_of_all}

-- ---- the paths

pub is_stem : (path rest stem : List ℕ) (shard : ℕ) → path ≡ rest ++ decimal shard → rest ≡ stem ++ 46 ∷ [] → IsStem path shard stem
is_stem path rest stem shard e f =
    e ∙ ap (λ (l : List ℕ). l ++ decimal shard) f ∙ append_assoc stem (46 ∷ []) (decimal shard)

pub no_number : (path : List ℕ) (shard : ℕ) → ((front : List ℕ) → path ≢ front ++ decimal shard) → HasNoStem path shard
no_number path shard never stem e = never (stem ++ 46 ∷ []) (e ∙ sym (append_assoc stem (46 ∷ []) (decimal shard)))

pub no_stop : (path rest : List ℕ) (shard : ℕ) → path ≡ rest ++ decimal shard → ((front : List ℕ) → rest ≢ front ++ 46 ∷ []) → HasNoStem path shard
no_stop path rest shard e never stem f =
    never stem (append_cancel_right rest (stem ++ 46 ∷ []) (decimal shard) (sym e ∙ f ∙ sym (append_assoc stem (46 ∷ []) (decimal shard))))

-- what is ahead of the number
pub cut : (path text rest : List ℕ)
    → (n : ℕ) × FindsTextSuffix text path (Some n) × (rest ≡ take (length path - n) path) × (length rest + n ≡ length path) → path ≡ rest ++ text
cut path text rest found = found.1.1 ∙ ap (λ (l : List ℕ). l ++ text) (sym found.2)

pub stem_in : (path rest : List ℕ) (shard : ℕ) (r : Option (Bor (List ℕ))) → path ≡ rest ++ decimal shard
    → MatchOption r ((front : List ℕ) → rest ≢ front ++ 46 ∷ []) (λ x. rest ≡ x.now ++ 46 ∷ []) → IfSome r (λ stem. IsStem path shard stem.now)
stem_in path rest shard None e found = tt
stem_in path rest shard (Some x) e found = is_stem path rest x.now shard e found

pub none_in : (path rest : List ℕ) (shard : ℕ) (r : Option (Bor (List ℕ))) → path ≡ rest ++ decimal shard
    → MatchOption r ((front : List ℕ) → rest ≢ front ++ 46 ∷ []) (λ x. rest ≡ x.now ++ 46 ∷ []) → r ≡ None → HasNoStem path shard
none_in path rest shard None e found h = no_stop path rest shard e found
none_in path rest shard (Some x) e found h = absurd cc

-- ---- what names them

pub own_name : (path name : List ℕ) (part : Option Part) → part ≡ None → name ≡ path → IsMarkName path part (Some name)
own_name path name part e is = subst (λ (p : Option Part). IsMarkName path p (Some name)) (sym e) is

pub all_named : (path stem name : List ℕ) (part : Part) (asked : Option Part) → asked ≡ Some part → IsStem path part.shard stem
    → name ≡ name_of_all stem part.shards → IsMarkName path asked (Some name)
all_named path stem name part asked e is named =
    subst (λ (p : Option Part). IsMarkName path p (Some name)) (sym e) (record { stem = stem; is_stem = is; name_is = named })

pub no_name : (path : List ℕ) (part : Part) (asked : Option Part) → asked ≡ Some part → HasNoStem path part.shard → IsMarkName path asked None
no_name path part asked e none = subst (λ (p : Option Part). IsMarkName path p None) (sym e) none

-- ---- the words

pub part_is : (word new stem : List ℕ) (s : ShardWord) (part : Part) → shard_in word ≡ Some s → part.shard ≡ s.shard → part.shards ≡ s.shards
    → IsStem new s.shard stem → IsPartAsked (Some word) new (Some part)
part_is word new stem s part read a b is = record {
  read = read ∙ ap (λ (x : ShardWord). Some x) same;
  stem = stem;
  is_stem = subst (λ (n : ℕ). IsStem new n stem) (sym a) is;
}
  where
    same : s ≡ record { shard = part.shard; shards = part.shards }
    same = rw (a, b) refl

pub no_word : (word new : List ℕ) → shard_in word ≡ None → IsUnasked (Some word) new
no_word word new e = subst (λ (s : Option ShardWord). IsWrong s new) (sym e) tt

pub no_stem : (word new : List ℕ) (s : ShardWord) → shard_in word ≡ Some s → HasNoStem new s.shard → IsUnasked (Some word) new
no_stem word new s e none = subst (λ (x : Option ShardWord). IsWrong x new) (sym e) none
