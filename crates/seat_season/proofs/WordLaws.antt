-- Words of a command line.
use Rattle.std.proofs.Common.{◌≡◌, ◌∙◌, ℕ, ◌+◌, ◌-◌, ◌<◌, ◌++◌, List, [], ◌∷◌, length, take, drop, get_or, slice_get, option_map, Option, Some, refl, sym, ap, append_assoc, arith}
use Rattle.std.proofs.lemmas.List.{take-map, drop-map, take_all, take_rest}
use Rattle.std.proofs.lemmas.Option.{slice_get-map, slice_get-get_or}
use Rattle.std.specs.List.{before_first, position_or_len, prefix_len}
use denote.Ref.{Bor}
use Rattle.seat_season.specs.Line.{line_in, texts}
use Rattle.seat_season.specs.Options.{Text, is_option, is_sign}

-- the words ahead of the nth, this one, and those behind it
abbrev cut_at : ℕ → List Text → Option (List Text × (Text × List Text))
cut_at n words = option_map (λ command. (take n words, (command, drop (n + 1) words))) (slice_get words n)

cut_texts : (words : List (Bor Text)) (n : ℕ) (d : Bor Text) → n < length words
    → cut_at n (texts words) ≡ Some (texts (take n words), ((get_or words n d).now, texts (drop (n + 1) words)))
cut_texts words n d h = rw (
  slice_get-map (λ (word : Bor Text). word.now) words n,
  slice_get-get_or words n d h,
  take-map (λ (word : Bor Text). word.now) n words,
  drop-map (λ (word : Bor Text). word.now) (n + 1) words,
) refl

-- the line at its command, by the place of that
pub line_cut : (words : List (Bor Text)) (n : ℕ) (d : Bor Text) → n < length words
    → n ≡ 1 + prefix_len is_option (drop 1 (texts words))
    → ◌≡◌ {A = Option (List Text × (Text × List Text))}
    (Some (texts (take n words), ((get_or words n d).now, texts (take (length words - (n + 1)) (drop (n + 1) words)))))
    (line_in (texts words))
line_cut words n d h e = rw (take_rest words (n + 1)) (sym (cut_texts words n d h) ∙ ap (λ (k : ℕ). cut_at k (texts words)) e)

-- how many options stand first of the words behind the program's name
pub place_of : (words : List (Bor Text)) (count : ℕ) → count ≡ prefix_len is_option (texts (take (length words - 1) (drop 1 words)))
    → 1 + count ≡ 1 + prefix_len is_option (drop 1 (texts words))
place_of words count e = ap (λ (k : ℕ). 1 + k) ((rw (take_rest words 1) at e) ∙ ap (prefix_len is_option) (sym (drop-map (λ (word : Bor Text). word.now) 1 words)))

-- a word is put behind those before, ahead of the rest
pub one_more : {A : Type 0} (old new rest : List A) (word : A) → new ≡ old ++ word ∷ [] → new ++ rest ≡ old ++ word ∷ rest
one_more old new rest word e = rw e (append_assoc old (word ∷ []) rest)

-- a word without the sign stands ahead of it whole
pub unsigned : (word : Text) → position_or_len is_sign word ≡ length word → before_first is_sign word ≡ word
unsigned word e = rw e (take_all (length word) word (omega arith))

-- two parts behind what is there, and four
pub two_parts : {A : Type 0} (old mid new a b : List A) → mid ≡ old ++ a → new ≡ mid ++ b → new ≡ old ++ (a ++ b)
two_parts old mid new a b e f = f ∙ rw e (append_assoc old a b)

pub four_parts : {A : Type 0} (old one two three new a c d : List A) (word : A) → one ≡ old ++ a → two ≡ one ++ word ∷ [] → three ≡ two ++ c → new ≡ three ++ d
    → new ≡ old ++ (a ++ (word ∷ (c ++ d)))
four_parts old one two three new a c d word e f g h =
    let last = two_parts two three new c d g h in
    let more = one_more one two (c ++ d) word f in
    last ∙ more ∙ rw e (append_assoc old a (word ∷ (c ++ d)))

-- two words at a time
pub four_pairs : {A : Type 0} (old one two three new : List A) (a b c d e f g h : A) → one ≡ old ++ a ∷ b ∷ [] → two ≡ one ++ c ∷ d ∷ [] → three ≡ two ++ e ∷ f ∷ []
    → new ≡ three ++ g ∷ h ∷ [] → new ≡ old ++ a ∷ b ∷ c ∷ d ∷ e ∷ f ∷ g ∷ h ∷ []
four_pairs old one two three new a b c d e f g h p q r s =
    let last = two_parts two three new (e ∷ f ∷ []) (g ∷ h ∷ []) r s in
    let more = two_parts one two new (c ∷ d ∷ []) (e ∷ f ∷ g ∷ h ∷ []) q last in
    two_parts old one new (a ∷ b ∷ []) (c ∷ d ∷ e ∷ f ∷ g ∷ h ∷ []) p more
