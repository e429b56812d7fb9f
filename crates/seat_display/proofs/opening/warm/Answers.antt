use Rattle.std.proofs.Common.{List, ◌++◌, ◌∷◌, [], ap, sym, subst, ◌∙◌, true, drop, refl}
use Rattle.left_right.specs.Sides.{view}
use Rattle.seat_nesting.specs.Nesting.{Ladders}
use Rattle.seat_display.specs.declared.table.Op.{Op}
use Rattle.seat_display.specs.declared.table.View.{View}
use Rattle.seat_display.specs.declared.table.Op.TheVariants.{Mark}
use Rattle.seat_display.specs.declared.table.Table.{Table}
use Rattle.seat_display.specs.Shown.{IsEmptyTable}
use Rattle.seat_display.proofs.Steps.{warmed, follows_warmed, empty_as}
use Rattle.seat_display.proofs.opening.warm.Goals as goal

pub turn-requires : goal.turn-requires
turn-requires g c =
    let x : Table = c.mark-2.new.writer.desk.shown.value in
    let g0 : Ladders = c.args.writer.now.desk.shown.value.opening in
    let old : List Op = drop c.args.writer.now.behind c.args.writer.now.log.items in
    let u : View = record { knows = true; grid = []; seen = c.args.seen.now } in
    let same = ap (λ d. d.shown.value) (c.in-Ok-mark.ensures.desk ∙ c.in-Ok.ensures.desk) in
    let empty = subst (λ (t : Table). IsEmptyTable t g0 c.args.seen.now.book) (sym same) c.requires.shown in
    let is = c.in-Ok-mark.ensures.pending ∙ ap (λ l. l ++ Mark u.seen ∷ []) c.in-Ok.ensures.pending in
    follows_warmed x g0 c.args.seen.now.book (view c.mark-2.new.writer.desk.place) u old _ empty refl c.requires.empty c.requires.plain is

pub returns-clause-shown : goal.returns-clause-shown
returns-clause-shown g c =
    let x : Table = c.mark-2.new.writer.desk.shown.value in
    let g0 : Ladders = c.args.writer.now.desk.shown.value.opening in
    let old : List Op = drop c.args.writer.now.behind c.args.writer.now.log.items in
    let u : View = record { knows = true; grid = []; seen = c.args.seen.now } in
    let same = ap (λ d. d.shown.value) (c.in-Ok-mark.ensures.desk ∙ c.in-Ok.ensures.desk) in
    let empty = subst (λ (t : Table). IsEmptyTable t g0 c.args.seen.now.book) (sym same) c.requires.shown in
    let is = c.in-Ok-mark.ensures.pending ∙ ap (λ l. l ++ Mark u.seen ∷ []) c.in-Ok.ensures.pending in
    empty_as _ _ _ _ c.turn.ensures.values.0 (warmed x g0 c.args.seen.now.book u old _ empty refl c.requires.empty c.requires.plain is)

pub returns-clause-knows : goal.returns-clause-knows
returns-clause-knows g c =
    let x : Table = c.mark-2.new.writer.desk.shown.value in
    let y : Table = c.turn.new.writer.desk.shown.value in
    let g0 : Ladders = c.args.writer.now.desk.shown.value.opening in
    let old : List Op = drop c.args.writer.now.behind c.args.writer.now.log.items in
    let u : View = record { knows = true; grid = []; seen = c.args.seen.now } in
    let same = ap (λ d. d.shown.value) (c.in-Ok-mark.ensures.desk ∙ c.in-Ok.ensures.desk) in
    let empty = subst (λ (t : Table). IsEmptyTable t g0 c.args.seen.now.book) (sym same) c.requires.shown in
    let is = c.in-Ok-mark.ensures.pending ∙ ap (λ l. l ++ Mark u.seen ∷ []) c.in-Ok.ensures.pending in
    let now = empty_as y _ g0 c.args.seen.now.book c.turn.ensures.values.0 (warmed x g0 c.args.seen.now.book u old _ empty refl c.requires.empty c.requires.plain is) in
    let sees = c.turn.ensures.sees in
    (sees.known.0, sym sees.leaves.opening ∙ now.leaves.opening, sees.known.1 ∙ now.book_is)
