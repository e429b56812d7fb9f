use Rattle.std.proofs.Common.{◌≡◌, ◌==◌, ℕ, List, position, Option, ap, subst, sym, ◌∙◌}
use Rattle.std.proofs.Common.{Some, None}
use Rattle.std.specs.HashMap.{get}
use Rattle.seat_rules.specs.declared.booking.Booking.{Booking}
use Rattle.seat_bookings.specs.declared.live_bookings.Key.{Key}
use Rattle.seat_rules.specs.Bookings.{is_for}
use Rattle.seat_bookings.specs.Live.{key_for, same_key, number_of, Listed, Numbers}
use Rattle.seat_bookings.proofs.Live.Lists.{listed_at}
use Rattle.seat_bookings.proofs.Live.Order.{absent_nowhere}
use Rattle.seat_bookings.proofs.Live.Keys.{no_number}
use Rattle.seat_bookings.proofs.Live.Changes.{number_leads}
use Rattle.seat_bookings.proofs.live_bookings.LiveBookings.find.Goals as goal

pub returns-in-Some-get-clause-value : goal.returns-in-Some-get-clause-value
returns-in-Some-get-clause-value c =
    let i = c.self.inside in
    let l = c.args.command.now.locator in
    let p = c.args.place in
    let k = c.args.command.now.class in
    let n = c.in-Some-get.number.now in
    let P : Listed → Type 0 = λ s. c.find_number.result ≡ position (is_for l p k) s.items in
    let told : Some n ≡ number_of (key_for l p k) i.bookings.items =
    c.in-Some-get.ensures.value
    ∙ (ap (λ (key : Key). get same_key c.deref.result.now key) c.key_for.ensures
    ∙ (ap (λ (m : Numbers). get same_key m (key_for l p k)) c.deref.ensures ∙ listed_at i.bookings.items i.index c.in-Some.numbers (key_for l p k) c.self.invariant c.in-Some.is)) in
    subst P c.self.view_is
    (c.find_number.ensures
    ∙ (ap (λ (xs : List Booking). position (λ (b : Booking). b.number == n) xs) c.as_slice-in-Some-get.ensures
    ∙ number_leads l p k n i.bookings.items c.self.invariant.live.ordered (sym told)))

pub returns-in-None-clause-value : goal.returns-in-None-clause-value
returns-in-None-clause-value c =
    let i = c.self.inside in
    let l = c.args.command.now.locator in
    let p = c.args.place in
    let k = c.args.command.now.class in
    let P : Listed → Type 0 = λ s. ◌≡◌ {A = Option ℕ} None (position (is_for l p k) s.items) in
    let told : ◌≡◌ {A = Option ℕ} None (number_of (key_for l p k) i.bookings.items) =
    c.in-None.ensures.value
    ∙ (ap (λ (key : Key). get same_key c.deref.result.now key) c.key_for.ensures
    ∙ (ap (λ (m : Numbers). get same_key m (key_for l p k)) c.deref.ensures ∙ listed_at i.bookings.items i.index c.in-Some.numbers (key_for l p k) c.self.invariant c.in-Some.is)) in
    subst P c.self.view_is (sym (absent_nowhere (is_for l p k) i.bookings.items (no_number l p k i.bookings.items (sym told))))
