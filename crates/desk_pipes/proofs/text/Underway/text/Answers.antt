use Rattle.std.proofs.Common.{◌≡◌, ◌∙◌, List, Some, None, ap, length, refl, slice_get, sym}
use Rattle.std.proofs.lemmas.Option.{slice_get_past, slice_get_read}
use Rattle.desk_pipes.specs.Waiting.{next_text, text_of}
use Rattle.desk_pipes.proofs.text.Underway.text.Goals as goal

pub returns-in-Some : goal.returns-in-Some
returns-in-Some g c =
    let posted = g.L.Letter.posted in
    let found = c.in-Some.ensures.lookup in
    let there : slice_get c.deref.result.now c.self.inside.delivered ≡ Some c.in-Some.letter.now =
    slice_get_read c.deref.result.now (length c.deref.result.now) c.self.inside.delivered c.in-Some.letter.now refl found.3.0 found.1 in
    c.text.ensures ∙ ap (text_of posted) (sym there)
    ∙ ap (λ (l : List g.row.L.Denot). text_of posted (slice_get l c.self.inside.delivered)) c.deref.ensures.value
    ∙ ap (next_text posted) c.self.view_is

pub returns-in-None : goal.returns-in-None
returns-in-None g c =
    let posted = g.L.Letter.posted in
    let past : slice_get c.deref.result.now c.self.inside.delivered ≡ None =
    slice_get_past c.deref.result.now c.self.inside.delivered c.in-None.ensures.lookup.3 in
    ap (text_of posted) (sym past)
    ∙ ap (λ (l : List g.row.L.Denot). text_of posted (slice_get l c.self.inside.delivered)) c.deref.ensures.value
    ∙ ap (next_text posted) c.self.view_is
