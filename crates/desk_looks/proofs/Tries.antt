-- A look that is tried once more.
use Rattle.std.proofs.Common.{◌≡◌, ◌≤◌, ◌+◌, ℕ, List, ◌++◌, length, ap, ◌∙◌, subst, arith, append_assoc, length-append}
use Rattle.std.specs.Prelude.{Result, Ok, Err, IfErr}
use Rattle.airline_base.specs.Noting.{noted}
use Rattle.airimp_lines.specs.declared.look.Look.{Look}
use Rattle.desk_answers.specs.Looks.{IsLooked, IsSeen}
use Rattle.seat_journal.specs.declared.entry.Entry.{Entry}
use Rattle.seat_nesting.specs.Nesting.{Ladders}
use Rattle.seat_rules.specs.Journal.{replay}
use Rattle.seat_rules.specs.Prefixes.{Begins}
use Rattle.desk_looks.specs.Asking.{IsUnseen}
use Rattle.desk_looks.specs.Windows.{Flown, Windowed, IsSameTable}
use Rattle.desk_looks.specs.declared.question.Unseen.{Unseen}
use Rattle.desk_looks.specs.declared.question.Unseen.TheVariants.{Refused, Late}

-- what was seen is right where as many lines are seen as were said
pub seen_now : (flown : Flown) (look : Look) (old new : Windowed) (lines : ℕ) (text : List ℕ) → old.grid ≡ flown.grid
    → IsSameTable old new → lines ≡ length new.front
    → IsSeen flown.flights flown.grid (replay new.grid new.front) lines look.flight look text
    → IsLooked flown.flights flown.grid new.front look text
seen_now flown look old new lines text grid same count seen =
    subst (λ (n : ℕ). IsSeen flown.flights flown.grid (replay flown.grid new.front) n look.flight look text) count
    (subst (λ (g : Ladders). IsSeen flown.flights flown.grid (replay g new.front) lines look.flight look text)
    (same.grid_is ∙ grid) seen)

begins_longer : (xs ys : List Entry) → Begins xs ys → length xs ≤ length ys
begins_longer xs ys b =
    let is : length ys ≡ length xs + length b.rest = ap length b.is ∙ length-append xs b.rest in
    omega (arith, is)

-- else lines came in between
pub late_now : (old new : Windowed) → Begins old.front new.front → (length new.front ≡ length old.front → ⊥)
    → new.refused ≡ old.refused → IsUnseen old new Late
late_now old new begins other same =
    let longer : length old.front ≤ length new.front = begins_longer old.front new.front begins in
    (omega (arith, longer, other), same)

pub begins_later : (old mid new : Windowed) → Begins old.front mid.front → Begins mid.front new.front
    → Begins old.front new.front
begins_later old mid new a b = record {
  rest = a.rest ++ b.rest;
  is = b.is ∙ ap (λ (l : List Entry). l ++ b.rest) a.is ∙ append_assoc old.front a.rest b.rest;
}

pub same_later : (old mid new : Windowed) → IsSameTable old mid → IsSameTable mid new → IsSameTable old new
same_later old mid new a b = record { book_is = b.book_is ∙ a.book_is; grid_is = b.grid_is ∙ a.grid_is }

later : (old mid new : Windowed) (why : Unseen) → IsUnseen old mid Late → Begins mid.front new.front → IsUnseen mid new why
    → IsUnseen old new why
later old mid new Refused late begins refused = refused ∙ ap (λ (n : ℕ). noted n) late.1
later old mid new Late late begins more =
    (omega (arith, late.0, more.0), more.1 ∙ late.1)

pub unseen_later : {A : Type 0} (old mid new : Windowed) (r : Result A Unseen) → IsUnseen old mid Late
    → Begins mid.front new.front → IfErr r (IsUnseen mid new) → IfErr r (IsUnseen old new)
unseen_later old mid new (Ok x) late begins unseen = tt
unseen_later old mid new (Err why) late begins unseen = later old mid new why late begins unseen

-- a look by which the count is taken stands ahead of it
behind : (old mid new : Windowed) (why : Unseen) → Begins old.front mid.front → mid.refused ≡ old.refused
    → IsUnseen mid new why → IsUnseen old new why
behind old mid new Refused begins same refused = refused ∙ ap (λ (n : ℕ). noted n) same
behind old mid new Late begins same late =
    let longer : length old.front ≤ length mid.front = begins_longer old.front mid.front begins in
    (omega (arith, longer, late.0), late.1 ∙ same)

pub unseen_behind : {A : Type 0} (old mid new : Windowed) (r : Result A Unseen) → Begins old.front mid.front
    → mid.refused ≡ old.refused → IfErr r (IsUnseen mid new) → IfErr r (IsUnseen old new)
unseen_behind old mid new (Ok x) begins same unseen = tt
unseen_behind old mid new (Err why) begins same unseen = behind old mid new why begins same unseen
