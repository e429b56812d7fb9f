-- The days of a feed, one no earlier than the other.
use Rattle.std.proofs.Common.{◌≡◌, ℕ, ◌<◌, ◌≤◌, Bool, true, false, nat_le, nat_lt, if◌then◌else◌, List, refl, ap, sym, ◌∙◌, subst, arith}
use Rattle.std.specs.Prelude.{IfSome, Option, Some, None}
use Rattle.std.proofs.lemmas.Bool.Decides.{nat_tests}
use Rattle.airline_base.specs.Noting.{noted}
use Rattle.desk_serving.specs.Daily.{IsSealedOn}
use Rattle.desk_stream.specs.Feeds.{read_behind, Feeding}
use Rattle.desk_stream.specs.Leads.{lead_of}
use Rattle.desk_stream.specs.Reading.{counted, later_of, step_by, step_of}
use Rattle.desk_stream.specs.declared.lead.Lead.{Lead}
use Rattle.desk_stream.specs.declared.lead.Lead.TheVariants as leads
use Rattle.desk_stream.specs.declared.reading.Reading.{Reading as Read}
use Rattle.desk_serving.specs.Streaming.{later_day, IsAnswered, IsNoEarlierDay}
use Rattle.seat_desk.specs.Desk.{HasFailed}
use Rattle.seat_seal.specs.declared.seal.Sealed.{Sealed as Belonging}

pub same_day : (o : Option ℕ) → IsNoEarlierDay o o
same_day None = tt
same_day (Some day) = omega arith

pub days_on : (a b c : Option ℕ) → IsNoEarlierDay a b → IsNoEarlierDay b c → IsNoEarlierDay a c
days_on None b c one two = tt
days_on (Some x) None c one two = absurd one
days_on (Some x) (Some y) None one two = absurd two
days_on (Some x) (Some y) (Some z) one two = omega (arith, one, two)

-- ---- behind a line

no_earlier : (today day : ℕ) → today ≤ later_of today day
no_earlier today day = by (nat_lt today day) refl
  where
    by : (b : Bool) → nat_lt today day ≡ b → today ≤ (if b then day else today)
    by true e =
        let less : today < day = grind (arith, nat_tests, e) in
        omega (arith, less)
    by false e = omega arith

by_today : (own : ℕ) (reading : Read) (o : Option ℕ) (lead : Lead) → reading.today ≡ o → IsNoEarlierDay o (step_by own reading o lead).0.today
by_today own reading None lead is = tt
by_today own reading (Some today) (leads.Session session) is = subst (λ (o : Option ℕ). IsNoEarlierDay (Some today) o) (sym is) (same_day (Some today))
by_today own reading (Some today) (leads.Day day) is = no_earlier today day
by_today own reading (Some today) (leads.Epoch epoch) is = subst (λ (o : Option ℕ). IsNoEarlierDay (Some today) o) (sym is) (same_day (Some today))
by_today own reading (Some today) leads.Unknown is = subst (λ (o : Option ℕ). IsNoEarlierDay (Some today) o) (sym is) (same_day (Some today))

step_day : (own : ℕ) (reading : Read) (lead : Lead) → IsNoEarlierDay reading.today (step_of own reading lead).0.today
step_day own reading lead = by_today own reading reading.today lead refl

pub day_read : {D : Type 0} (old new : Feeding D) (line : List ℕ) → new.reading ≡ read_behind old line
    → IsNoEarlierDay old.reading.today new.reading.today
day_read old new line is =
    subst (λ (r : Read). IsNoEarlierDay old.reading.today r.today) (sym is) (step_day old.epoch (counted old.reading) (lead_of line))

-- ---- the later of two

pub since_behind : (day after : ℕ) (o : Option ℕ) → after ≡ later_day day o → IfSome o (λ (it : ℕ). it ≤ after)
since_behind day after None is = tt
since_behind day after (Some today) is = subst (λ (d : ℕ). today ≤ d) (sym is) (by (nat_le today day) refl)
  where
    by : (b : Bool) → nat_le today day ≡ b → today ≤ (if b then day else today)
    by true e =
        let less : today ≤ day = grind (arith, nat_tests, e) in
        omega (arith, less)
    by false e = omega arith

pub day_stays : (day : ℕ) (o : Option ℕ) → IfSome o (λ (it : ℕ). it ≤ day) → day ≡ later_day day o
day_stays day None since = refl
day_stays day (Some today) since =
    let test : nat_le today day ≡ true = grind (arith, nat_tests, since) in
    sym (ap (λ (b : Bool). if b then day else today) test)

greatest : (x y : ℕ) → x ≤ y → (if nat_le y x then x else y) ≡ y
greatest x y le = by (nat_le y x) refl
  where
    by : (b : Bool) → nat_le y x ≡ b → (if b then x else y) ≡ y
    by true e =
        let less : y ≤ x = grind (arith, nat_tests, e) in
        omega (arith, less, le)
    by false e = refl

later_twice : (day : ℕ) (a b : Option ℕ) → IsNoEarlierDay a b → later_day (later_day day a) b ≡ later_day day b
later_twice day None b le = refl
later_twice day (Some x) None le = absurd le
later_twice day (Some x) (Some y) le = by (nat_le x day) refl
  where
    by : (b : Bool) → nat_le x day ≡ b → later_day (if b then day else x) (Some y) ≡ later_day day (Some y)
    by true e = refl
    by false e =
        let over : day < x = grind (arith, nat_tests, e) in
        let none : nat_le y day ≡ false = grind (arith, nat_tests, over, le) in
        greatest x y le ∙ sym (ap (λ (c : Bool). if c then day else y) none)

-- behind what was read so far
pub day_behind : (day mid after : ℕ) (a b : Option ℕ) → mid ≡ later_day day a → IsNoEarlierDay a b → after ≡ later_day mid b
    → after ≡ later_day day b
day_behind day mid after a b so_far le is = is ∙ ap (λ (d : ℕ). later_day d b) so_far ∙ later_twice day a b le

module _ {D : Type 0} where
  reading_is : (mid new : Feeding D) (a b : Option (List ℕ)) → IsAnswered mid new a b → new.reading ≡ mid.reading
  reading_is mid new a b answered = answered.told.reading_is ∙ answered.booked.same.reading_is

  pub day_answered : (mid new : Feeding D) (a b : Option (List ℕ)) (day after : ℕ) → IsAnswered mid new a b
      → after ≡ later_day day mid.reading.today → after ≡ later_day day new.reading.today
  day_answered mid new a b day after answered is =
      is ∙ ap (λ (r : Read). later_day day r.today) (sym (reading_is mid new a b answered))

  pub days_answered : (old mid new : Feeding D) (a b : Option (List ℕ)) → IsAnswered mid new a b
      → IsNoEarlierDay old.reading.today mid.reading.today → IsNoEarlierDay old.reading.today new.reading.today
  days_answered old mid new a b answered le =
      subst (λ (r : Read). IsNoEarlierDay old.reading.today r.today) (sym (reading_is mid new a b answered)) le

-- a failure of the seal's file is counted behind what was sealed
pub dating_behind : {K : Type 0} (named : K → Option (List ℕ)) (leaves : K → List ℕ → Type 0) (kept : K → List (List ℕ) → Type 0)
    (failures : K → ℕ) (day : ℕ) (old mid : Belonging) (before between after : K) → IsSealedOn named leaves kept failures day old mid before between
    → HasFailed failures between after → HasFailed failures before after
dating_behind named leaves kept failures day old mid before between after is failed = failed ∙ ap noted is.counted
