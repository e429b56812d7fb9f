-- What a session keeps of its lines.
use Rattle.std.proofs.Common.{◌≡◌, ℕ, ◌-◌, ◌≤◌, Some, List, [], ◌∷◌, ◌++◌, length, take, refl, ap, sym, ◌∙◌, arith, length-append}
use Rattle.std.specs.Prelude.{slice_get}
use Rattle.std.proofs.lemmas.List.{length-map, length-take, map-append, take-append-le}
use Rattle.std.proofs.Math.Seq.{take-length}
use Rattle.seat_journal.specs.declared.entry.Entry.{Entry}
use Rattle.seat_rules.specs.Prefixes.{Begins}
use Rattle.seat_rules.specs.Histories.{of_session}
use Rattle.seat_rules.proofs.Own.{own_append}
use Rattle.line_booking.specs.Receipts.{Kept, KeepsLine, KeepsSame}
use Rattle.seat_host.specs.Sessions.{KeepsLines}

-- a number for each line
pub many_kept : (kept : Kept) (lines : List Entry) → KeepsLines kept lines → length kept.numbers ≡ length lines
many_kept kept lines keeps = ap length keeps.numbers ∙ length-map lines (λ (line : Entry). line.number)

-- as many lines as there are numbers are all
pub given_all : (kept : Kept) (lines : List Entry) → KeepsLines kept lines → take (length kept.numbers) lines ≡ lines
given_all kept lines keeps = ap (λ (n : ℕ). take n lines) (many_kept kept lines keeps) ∙ take-length lines

last_at : (lines : List Entry) (line : Entry) → slice_get (lines ++ line ∷ []) (length lines) ≡ Some line
last_at [] line = refl
last_at (x ∷ lines) line = last_at lines line

-- of one line more
pub keeps_more : (old new : Kept) (lines : List Entry) (line : Entry) → KeepsLines old lines → KeepsLine old new line
    → KeepsLines new (lines ++ line ∷ [])
keeps_more old new lines line keeps more =
    let at : length (lines ++ line ∷ []) - 1 ≡ length lines = omega (arith, length-append lines (line ∷ [])) in
    record {
      numbers = more.numbers ∙ ap (λ (l : List ℕ). l ++ line.number ∷ []) keeps.numbers ∙ sym (map-append (λ (e : Entry). e.number) lines (line ∷ []));
      last = more.last ∙ sym (ap (slice_get (lines ++ line ∷ [])) at ∙ last_at lines line);
    }

-- of the same lines
pub keeps_same : (old new : Kept) (lines : List Entry) → KeepsLines old lines → KeepsSame old new → KeepsLines new lines
keeps_same old new lines keeps same = record { numbers = same.numbers ∙ keeps.numbers; last = same.last ∙ keeps.last }

-- the lines that were given stay, however much more is seen
pub still_given : (number calls : ℕ) (front later : List Entry) → Begins front later
    → length (take calls (of_session number front)) ≡ calls
    → take calls (of_session number later) ≡ take calls (of_session number front)
still_given number calls front later begins many =
    let own : List Entry = of_session number front in
    let within : calls ≤ length own = omega (arith, many, length-take calls own) in
    ap (take calls) (ap (of_session number) begins.is ∙ own_append number front begins.rest) ∙ take-append-le calls own (of_session number begins.rest) within
