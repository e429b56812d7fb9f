-- The folder of a name.
use Rattle.std.proofs.Common.{◌≡◌, ℕ, ◌≤◌, ◌+◌, List, length, take, drop, Option, Some, None, refl, sym, ◌∙◌, lit<}
use Rattle.std.proofs.lemmas.Str.Pattern.{NoCharPasses-char, drop_at_char}
use Rattle.std.proofs.lemmas.List.{take-append-drop}
use Rattle.std.specs.Option.{MatchOption}
use Rattle.std.specs.Str.Pattern.{RFindsChar}
use denote.Ref.{Bor}
use Rattle.seat_season.specs.Folders.{HasNoSlash, IsFolderOf}

-- the clause of `rsplit_once` at a slash
abbrev pub IsSplitAtLast : List ℕ → Option (Bor (List ℕ) × Bor (List ℕ)) → Type 0
IsSplitAtLast file r = MatchOption r (RFindsChar 47 file None) (λ x. (i : ℕ) × (j : ℕ) × RFindsChar 47 file (Some (i, j))
    × (x.0.now ≡ take i file) × (x.1.now ≡ drop j file) × (i ≤ j) × (length x.0.now ≡ i) × (length x.1.now + j ≡ length file))

pub split_at_last : (file : List ℕ) (r : Option (Bor (List ℕ) × Bor (List ℕ))) → IsSplitAtLast file r
    → MatchOption r (HasNoSlash file) (λ x. IsFolderOf file x.0.now)
split_at_last file None none = λ i h. NoCharPasses-char 47 file i none (lit< tt) h
split_at_last file (Some x) (i, j, (none, at), ahead, behind, within, front, back) = record {
  name = drop j file;
  whole = sym (take-append-drop i file) ∙ rw (drop_at_char 47 file i j at (lit< tt), ← ahead) refl;
  last = λ k h. NoCharPasses-char 47 (drop j file) k none (lit< tt) h;
}
