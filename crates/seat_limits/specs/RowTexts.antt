-- Texts of rows: each line that is not empty is a row, and the first line with a fault is what is wrong with the text.
use Rattle.std.specs.Prelude.{◌≡◌, ℕ, ◌+◌, List, [], ◌∷◌, ◌++◌, length, Result, Ok, Err, IsOk}
use Rattle.std.specs.Str.Lines.{lines}
use Rattle.seat_limits.specs.declared.limit_fault.LimitFault.{LimitFault}
use Rattle.seat_limits.specs.declared.limit_fault.LimitKind.{LimitKind}
use Rattle.seat_limits.specs.declared.limit_fault.LimitKind.TheVariants as kinds

-- how the line of a number is read: its row, or its first fault
abbrev pub Reading : Type 0 → Type 0
Reading Row = ℕ → List ℕ → Result Row LimitKind

abbrev pub row_then : {Row : Type 0} → ℕ → Result Row LimitKind → Result (List Row) LimitFault
    → Result (List Row) LimitFault
row_then n (Err kind) rest = Err (record { line = n; kind = kind })
row_then n (Ok row) (Err fault) = Err fault
row_then n (Ok row) (Ok rows) = Ok (row ∷ rows)

-- the rows of the lines, which are counted from n, or the first line with a fault and its first fault
abbrev pub each_row : {Row : Type 0} → Reading Row → ℕ → List (List ℕ) → Result (List Row) LimitFault
each_row read n [] = Ok []
each_row read n ([] ∷ texts) = each_row read (n + 1) texts
each_row read n ((c ∷ text) ∷ texts) = row_then n (read n (c ∷ text)) (each_row read (n + 1) texts)

-- the lines before this one have no fault, and this one is a row, for which room is wanted
pub record WantsRowRoom {Row : Type 0} (read : Reading Row) (bytes : List ℕ) (line : ℕ) : Type 0 where
  pub front : List (List ℕ)
  pub here : List ℕ
  pub behind : List (List ℕ)
  pub cut : lines bytes ≡ front ++ here ∷ behind
  pub counted : length front + 1 ≡ line
  pub right : IsOk (each_row read 1 front)
  pub row : IsOk (read line here)

-- ---- line by line

-- a row more
pub record AddsRow {Row : Type 0} (read : List ℕ → Result Row LimitKind) (text : List ℕ) (old new : List Row) : Type 0
  where
    pub row : Row
    pub row_is : read text ≡ Ok row
    pub added : new ≡ old ++ row ∷ []

-- an empty line adds nothing, every other one its row
abbrev pub TakesLine : {Row : Type 0} → (List ℕ → Result Row LimitKind) → List ℕ → List Row → List Row → Type 0
TakesLine read [] old new = new ≡ old
TakesLine read (c ∷ text) old new = AddsRow read (c ∷ text) old new

-- why a line is not taken: its first fault, or want of memory for its row
abbrev pub IsStop : {Row : Type 0} → (List ℕ → Result Row LimitKind) → List ℕ → LimitKind → Type 0
IsStop read [] kind = ⊥
IsStop read (c ∷ text) kinds.Memory = IsOk (read (c ∷ text))
IsStop read (c ∷ text) kind = read (c ∷ text) ≡ Err kind
