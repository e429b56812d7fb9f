use Rattle.std.proofs.Common.{◌≡◌, ◌∙◌, ◌+◌, ◌<◌, ℕ, List, Result, ap, arith, length, refl, subst}
use Rattle.std.specs.Prelude.{Err, IfErr, IfOk, Ok}
use Rattle.airimp_lines.specs.declared.requests.Request.{Request}
use Rattle.ssim_flights.specs.declared.flight.Flight.{Flight as Flown}
use Rattle.seat_serving.specs.Answering.{with_line}
use Rattle.seat_serving.specs.declared.asked.Asked.{Asked}
use Rattle.desk_answers.specs.Saying.{asked_by}
use Rattle.desk_answers.specs.declared.heard.HearFault.{HearFault}
use Rattle.desk_answers.specs.declared.heard.HearFault.TheVariants.{Untold}
use Rattle.desk_answers.proofs.Wishes.{asked_booked, asked_full, right_request}
use Rattle.desk_answers.proofs.asking.ask.Goals as goal

if_ok : {A E : Type 0} {P Q : A → Type 0} (r : Result A E) → ((x : A) → P x → Q x) → IfOk r P → IfOk r Q
if_ok (Ok x) more p = more x p
if_ok (Err _) more p = tt

asked_over : (flights served : List Flown) (session : ℕ) (wish : Request) (asked : Asked) → asked ≡ asked_by served session wish
    → served ≡ flights → asked ≡ asked_by flights session wish
asked_over flights served session wish asked is same = is ∙ ap (λ (fs : List Flown). asked_by fs session wish) same

pub book-requires-clause-right : goal.book-requires-clause-right
book-requires-clause-right g c =
    right_request c.args.flights.now c.args.served.now c.args.serving.now.grid c.args.session c.args.wish.now c.asked_by-asked.result c.requires.grid c.requires.served c.requires.right c.requires.session.0 c.requires.session.1 c.asked_by-asked.ensures

pub returns-clause-untold : goal.returns-clause-untold
returns-clause-untold g c =
    subst (λ (a : Asked). IfErr c.book.result (λ (f : HearFault). f ≡ Untold → c.book.new.serving.journal ≡ with_line c.args.serving.now.grid c.args.serving.now.journal a))
    (c.asked_by-asked.ensures ∙ ap (λ (fs : List Flown). asked_by fs c.args.session c.args.wish.now) c.requires.served)
    c.book.ensures.untold

pub returns-clause-asked : goal.returns-clause-asked
returns-clause-asked g c =
    let below : length c.args.serving.now.journal < c.args.serving.now.cap = omega (arith, c.room.ensures.room, c.if-room-eq0.false) in
    let is : c.asked_by-asked.result ≡ asked_by c.args.flights.now c.args.session c.args.wish.now =
    asked_over c.args.flights.now c.args.served.now c.args.session c.args.wish.now c.asked_by-asked.result c.asked_by-asked.ensures c.requires.served in
    if_ok c.book.result
    (λ text booked. asked_booked c.args.flights.now c.args.serving.now.grid c.args.serving.now.cap c.args.session c.args.serving.now.journal
    c.book.new.serving.journal c.asked_by-asked.result c.args.wish.now text.items below is booked) c.book.ensures.booked

pub returns-in-Ok-clause-asked : goal.returns-in-Ok-clause-asked
returns-in-Ok-clause-asked g c =
    asked_full c.args.flights.now c.args.serving.now.grid c.args.serving.now.cap c.room.result c.args.session (c.calls_of-call.result + 1)
    c.args.serving.now.journal c.args.serving.now.journal c.args.wish.now c.in-Ok.text.items c.room.ensures.room c.if-room-eq0.true refl
    (ap (λ (n : ℕ). n + 1) c.calls_of-call.ensures.value) c.in-Ok.ensures
