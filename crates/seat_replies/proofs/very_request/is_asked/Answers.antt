use Rattle.std.proofs.Common.{◌≡◌, length, Option, Some, None, slice_get, refl, sym, subst}
use Rattle.std.specs.Prelude.{◌↔◌, IsTrue}
use Rattle.std.proofs.lemmas.Option.{slice_get_past, slice_get_read}
use Rattle.seat_replies.specs.VeryRequest.{Agree}
use Rattle.seat_replies.proofs.Common.{Request}
use Rattle.seat_replies.proofs.very_request.is_asked.Goals as goal

pub returns-in-Some : goal.returns-in-Some
returns-in-Some c =
    let requests = c.args.requests.now in
    let request : Request = c.in-Some.request.now in
    let there : slice_get requests c.args.place ≡ Some request = slice_get_read requests (length requests) c.args.place request refl c.in-Some.ensures.lookup.3.0 c.in-Some.ensures.lookup.1 in
    subst (λ (o : Option Request). IsTrue c.is_very_request.result ↔ Agree c.args.flights.now o (Some c.args.work)) (sym there) c.is_very_request.ensures

pub returns-in-None : goal.returns-in-None
returns-in-None c =
    let none : slice_get c.args.requests.now c.args.place ≡ None = slice_get_past c.args.requests.now c.args.place c.in-None.ensures.lookup.3 in
    (λ yes. absurd cc, λ agree. absurd (subst (λ (o : Option Request). Agree c.args.flights.now o (Some c.args.work)) none agree))
