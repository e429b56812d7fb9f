use Rattle.std.proofs.Common.{◌≡◌, ℕ, List, length, refl, subst, sym}
use Rattle.std.proofs.lemmas.Option.{slice_get_past, slice_get_read}
use Rattle.seat_nesting.specs.Nesting.{Ladders}
use Rattle.seat_journal.specs.declared.entry.Entry.{Entry}
use Rattle.seat_rules.specs.Journal.{IsLegal}
use Rattle.seat_rules.specs.Prefixes.{Begins}
use Rattle.seat_scripts.specs.Against.{IsNoBeginning}
use Rattle.seat_scripts.proofs.Beginnings.{begins_all, part_end, part_here, same_more}
use Rattle.seat_scripts.proofs.against.parting.Goals as goal

-- the slices are legal over one grid
over_one : (old grid : Ladders) (older slice : List Entry) → old ≡ grid → slice ≡ older → IsLegal old older
    → IsLegal grid slice
over_one old grid older slice same is legal = subst (IsLegal grid) (sym is) (subst (λ (g : Ladders). IsLegal g older) same legal)

of_slices : (lines older slice journal : List Entry) (session call : ℕ) → lines ≡ older → slice ≡ journal
    → IsNoBeginning lines slice session call → IsNoBeginning older journal session call
of_slices lines older slice journal session call is also parts =
    subst (λ (l : List Entry). IsNoBeginning l journal session call) is (subst (λ (j : List Entry). IsNoBeginning lines j session call) also parts)

begins_slices : (lines older slice journal : List Entry) → lines ≡ older → slice ≡ journal → Begins lines slice
    → Begins older journal
begins_slices lines older slice journal is also begins = subst (λ (l : List Entry). Begins l journal) is (subst (λ (j : List Entry). Begins lines j) also begins)

pub returns-in_default-clause-named : goal.returns-in_default-clause-named
returns-in_default-clause-named c =
    let lines : List Entry = c.journal-lines.result.now in
    let journal : List Entry = c.journal-journal.result.now in
    let line : Entry = c.index-lines-place.result in
    of_slices lines c.args.older.now.journal journal c.args.core.now.journal line.session line.call c.journal-lines.ensures.value c.journal-journal.ensures.value
    (part_end c.args.core.now.grid lines journal
    (over_one c.args.older.now.grid c.args.core.now.grid c.args.older.now.journal lines c.requires.grid c.journal-lines.ensures.value c.journal-lines.ensures.legal)
    (subst (IsLegal c.args.core.now.grid) (sym c.journal-journal.ensures.value) c.journal-journal.ensures.legal)
    c.loop-place.place line (slice_get_read lines (length lines) c.loop-place.place line refl c.loop-place-test.true c.index-lines-place.is) c.loop-place.invariant
    (slice_get_past journal c.loop-place.place c.in_default.ensures.lookup.3))

pub returns-then-not-are_alike-clause-named : goal.returns-then-not-are_alike-clause-named
returns-then-not-are_alike-clause-named c =
    let lines : List Entry = c.journal-lines.result.now in
    let journal : List Entry = c.journal-journal.result.now in
    let line : Entry = c.index-lines-place.result in
    let there : Entry = c.in-Some.there.now in
    let found = c.in-Some.ensures.lookup in
    of_slices lines c.args.older.now.journal journal c.args.core.now.journal there.session there.call c.journal-lines.ensures.value c.journal-journal.ensures.value
    (part_here c.args.core.now.grid lines journal
    (over_one c.args.older.now.grid c.args.core.now.grid c.args.older.now.journal lines c.requires.grid c.journal-lines.ensures.value c.journal-lines.ensures.legal)
    (subst (IsLegal c.args.core.now.grid) (sym c.journal-journal.ensures.value) c.journal-journal.ensures.legal)
    c.loop-place.place line (slice_get_read lines (length lines) c.loop-place.place line refl c.loop-place-test.true c.index-lines-place.is) c.loop-place.invariant
    there (slice_get_read journal (length journal) c.loop-place.place there refl found.3.0 found.1) c.are_alike.result c.if-not-are_alike.true c.are_alike.ensures.1)

pub loop-place-preserved : goal.loop-place-preserved
loop-place-preserved c =
    let lines : List Entry = c.journal-lines.result.now in
    let journal : List Entry = c.journal-journal.result.now in
    let line : Entry = c.index-lines-place.result in
    let there : Entry = c.in-Some.there.now in
    let found = c.in-Some.ensures.lookup in
    same_more c.args.core.now.grid lines journal
    (over_one c.args.older.now.grid c.args.core.now.grid c.args.older.now.journal lines c.requires.grid c.journal-lines.ensures.value c.journal-lines.ensures.legal)
    (subst (IsLegal c.args.core.now.grid) (sym c.journal-journal.ensures.value) c.journal-journal.ensures.legal)
    c.loop-place.place line (slice_get_read lines (length lines) c.loop-place.place line refl c.loop-place-test.true c.index-lines-place.is) c.loop-place.invariant
    there (slice_get_read journal (length journal) c.loop-place.place there refl found.3.0 found.1) (c.are_alike.ensures.0 c.if-not-are_alike.false)

pub returns-clause-begins : goal.returns-clause-begins
returns-clause-begins c =
    let lines : List Entry = c.journal-lines.result.now in
    let journal : List Entry = c.journal-journal.result.now in
    begins_slices lines c.args.older.now.journal journal c.args.core.now.journal c.journal-lines.ensures.value c.journal-journal.ensures.value
    (begins_all lines journal c.loop-place.place c.loop-place-test.false c.loop-place.invariant)
