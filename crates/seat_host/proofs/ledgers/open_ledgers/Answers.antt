use Rattle.std.proofs.Common.{ℕ, List, ap, ◌∙◌}
use Rattle.std.specs.Prelude.{slice_index}
use Rattle.seat_host.proofs.ledgers.open_ledgers.Goals as goal

pub open-zero-requires-clause-name : goal.open-zero-requires-clause-name
open-zero-requires-clause-name g c = ap (λ (l : List ℕ). slice_index l 0) (c.blanks.view_is ∙ c.requires)

pub open-zero-requires-clause-parts : goal.open-zero-requires-clause-parts
open-zero-requires-clause-parts g c = c.blanks.invariant.0

pub open-one-requires-clause-name : goal.open-one-requires-clause-name
open-one-requires-clause-name g c = ap (λ (l : List ℕ). slice_index l 1) (c.blanks.view_is ∙ c.requires)

pub open-one-requires-clause-parts : goal.open-one-requires-clause-parts
open-one-requires-clause-parts g c = c.blanks.invariant.1

pub open-two-requires-clause-name : goal.open-two-requires-clause-name
open-two-requires-clause-name g c = ap (λ (l : List ℕ). slice_index l 2) (c.blanks.view_is ∙ c.requires)

pub open-two-requires-clause-parts : goal.open-two-requires-clause-parts
open-two-requires-clause-parts g c = c.blanks.invariant.2

pub open-three-requires-clause-name : goal.open-three-requires-clause-name
open-three-requires-clause-name g c = ap (λ (l : List ℕ). slice_index l 3) (c.blanks.view_is ∙ c.requires)

pub open-three-requires-clause-parts : goal.open-three-requires-clause-parts
open-three-requires-clause-parts g c = c.blanks.invariant.3

pub open-four-requires-clause-name : goal.open-four-requires-clause-name
open-four-requires-clause-name g c = ap (λ (l : List ℕ). slice_index l 4) (c.blanks.view_is ∙ c.requires)

pub open-four-requires-clause-parts : goal.open-four-requires-clause-parts
open-four-requires-clause-parts g c = c.blanks.invariant.4

pub open-five-requires-clause-name : goal.open-five-requires-clause-name
open-five-requires-clause-name g c = ap (λ (l : List ℕ). slice_index l 5) (c.blanks.view_is ∙ c.requires)

pub open-five-requires-clause-parts : goal.open-five-requires-clause-parts
open-five-requires-clause-parts g c = c.blanks.invariant.5

pub open-six-requires-clause-name : goal.open-six-requires-clause-name
open-six-requires-clause-name g c = ap (λ (l : List ℕ). slice_index l 6) (c.blanks.view_is ∙ c.requires)

pub open-six-requires-clause-parts : goal.open-six-requires-clause-parts
open-six-requires-clause-parts g c = c.blanks.invariant.6

pub open-seven-requires-clause-name : goal.open-seven-requires-clause-name
open-seven-requires-clause-name g c = ap (λ (l : List ℕ). slice_index l 7) (c.blanks.view_is ∙ c.requires)

pub open-seven-requires-clause-parts : goal.open-seven-requires-clause-parts
open-seven-requires-clause-parts g c = c.blanks.invariant.7

pub open-eight-requires-clause-name : goal.open-eight-requires-clause-name
open-eight-requires-clause-name g c = ap (λ (l : List ℕ). slice_index l 8) (c.blanks.view_is ∙ c.requires)

pub open-eight-requires-clause-parts : goal.open-eight-requires-clause-parts
open-eight-requires-clause-parts g c = c.blanks.invariant.8
