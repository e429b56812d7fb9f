-- A record that is taken is formed so, and what is formed so is taken.
use Rattle.std.proofs.Common.{◌⊎◌, inl, inr, ◌≡◌, ℕ, suc, ◌+◌, ◌-◌, ◌<◌, ◌≤◌, IsTrue, Bool, true, false, not, cond, eqb, List, [], ◌∷◌, ◌++◌, length, Option, Some, None, Result, Ok, Err, refl, sym, ap, subst, ◌∙◌, arith}
use Rattle.std.proofs.lemmas.Bool.{eqb-true}
use Rattle.std.proofs.lemmas.Bool.Decides.{nat_tests}
use Rattle.ssim_records.specs.declared.set_fault.SetKind.{SetKind}
use Rattle.ssim_records.specs.declared.set_fault.SetKind.TheVariants as kinds
use Rattle.ssim_records.specs.declared.carrier.Carrier.{Carrier}
use Rattle.ssim_records.specs.declared.carrier.Leg.{Leg}
use Rattle.ssim_records.specs.declared.state.Phase.TheVariants.{Open, Body, Done}
use Rattle.ssim_records.specs.declared.state.Reader.{Reader}
use Rattle.ssim_records.specs.declared.records.LegName.{LegName}
use Rattle.ssim_records.specs.declared.records.LegPeriod.{LegPeriod}
use Rattle.ssim_records.specs.declared.records.LegPath.{LegPath}
use Rattle.airline_base.specs.Bytes.{field, set_title}
use Rattle.airline_base.specs.Days.{IsDayField}
use Rattle.airline_base.specs.Names.{is_station}
use Rattle.ssim_records.specs.RecordFields.{six_in}
use Rattle.airline_base.specs.Chains.{◌>>=◌, check}
use Rattle.ssim_records.specs.SetSteps.{carrier_at, leg_at, leg_name_at, leg_period_at, leg_path_at, trailer_at, type_of, is_number, has_serial, header_at, second_at, segment_at, numbered_at, header_step, carrier_step, leg_step, segment_step, trailer_step, body_step}
use Rattle.ssim_records.specs.SetText.{IsSix, IsTyped, IsHeader, IsCarrier, IsLeg, IsTrailer, IsDesignator, IsPadded, IsSuffix, IsUntil, IsDays, IsRate, IsTime, IsOffset, IsShift}
use Rattle.airline_base.proofs.Chains.{with_want, with_check, with_step}
use Rattle.ssim_records.proofs.FieldLaws.{same_takes, same_again, padded_takes, padded_again, positive_takes, positive_again, six_takes, six_again, mode_takes, mode_again, designator_takes, designator_again, station_takes, station_again, suffix_takes, suffix_again, byte_takes, byte_again, days_takes, days_again, rate_takes, rate_again, time_takes, time_again, offset_takes, offset_again, shift_takes, shift_again, last_takes, last_again, until_takes, until_again}
use Rattle.airline_base.proofs.DateLaws.{date_takes, date_again}

unfoldable pub done : {A : Type 0} → A → Result A SetKind
done x = Ok x

pub ok_is : {A : Type 0} (x y : A) → done x ≡ done y → x ≡ y
unfolding done
ok_is x y e = cc

-- ---- type and serial

pub typed_takes : (t : ℕ) (text : List ℕ) → 0 < t → eqb (type_of text) t ≡ true → IsTyped t text
typed_takes t [] some h = let no : 0 ≡ t = eqb-true 0 t h in absurd (omega (arith, no))
typed_takes t (c ∷ text) some h = ap (λ (k : ℕ). k ∷ []) (eqb-true c t h)

pub typed_again : (t : ℕ) (text : List ℕ) → IsTyped t text → type_of text ≡ t
typed_again t [] h = absurd cc
typed_again t (c ∷ text) h = ap type_of h

number_takes : (n : ℕ) (o : Option ℕ) → is_number n o ≡ true → o ≡ Some n
number_takes n None h = absurd cc
number_takes n (Some k) h = ap (λ (x : ℕ). Some x) (eqb-true k n h)

pub serial_takes : (serial : ℕ) (text : List ℕ) → has_serial serial text ≡ true → IsSix (field 195 200 text) serial
unfolding has_serial
serial_takes serial text h = six_takes (field 195 200 text) serial (number_takes serial (six_in (field 195 200 text)) h)

eqb_same : (n : ℕ) → eqb n n ≡ true
eqb_same n = grind (arith, nat_tests)

pub serial_again : (serial : ℕ) (text : List ℕ) → IsSix (field 195 200 text) serial → has_serial serial text ≡ true
unfolding has_serial
serial_again serial text h = ap (is_number serial) (six_again (field 195 200 text) serial h) ∙ eqb_same serial

-- ---- steps that are taken

-- ---- the carrier's record

pub carrier_takes : (text : List ℕ) (c : Carrier) → IsTyped 50 text → carrier_at text ≡ Ok c → IsCarrier text c
unfolding carrier_at done
carrier_takes text c typed e =
    with_want (kinds.BadField 2) _ _ c e (λ local e1 k1.
    with_want (kinds.BadField 3) _ _ c k1 (λ airline e2 k2.
    with_want (kinds.BadField 15) _ _ c k2 (λ from e3 k3.
    with_want (kinds.BadField 22) _ _ c k3 (λ to e4 k4.
    subst (IsCarrier text) (ok_is _ c k4) (record {
      typed = typed;
      mode = mode_takes (field 2 2 text) local e1;
      airline = designator_takes (field 3 5 text) airline e2;
      from = date_takes (field 15 21 text) from e3;
      to = until_takes from (field 22 28 text) to e4;
    })))))

pub carrier_again : (text : List ℕ) (c : Carrier) → IsCarrier text c → carrier_at text ≡ Ok c
unfolding carrier_at
carrier_again text c h =
    let e1 = mode_again (field 2 2 text) c.local h.mode in
    let e2 = designator_again (field 3 5 text) c.airline h.airline in
    let e3 = date_again (field 15 21 text) c.from h.from in
    let e4 = until_again c.from (field 22 28 text) c.to h.to in
    rw (e1, e2, e3, e4) refl

-- ---- a leg's record

-- what names a leg
record IsNamed (text : List ℕ) (name : LegName) : Type 0 where
  suffix : IsSuffix (field 2 2 text) name.suffix
  own : IsDesignator (field 3 5 text) name.own
  number : IsPadded (field 6 9 text) name.number × (1 ≤ name.number)
  variation : IsPadded (field 10 11 text) name.variation
  sequence : IsPadded (field 12 13 text) name.sequence × (1 ≤ name.sequence)

name_takes : (text : List ℕ) (name : LegName) → leg_name_at text ≡ Ok name → IsNamed text name
unfolding leg_name_at done
name_takes text name e =
    with_want (kinds.BadField 2) _ _ name e (λ suffix e1 k1.
    with_want (kinds.BadField 3) _ _ name k1 (λ own e2 k2.
    with_want (kinds.BadField 6) _ _ name k2 (λ number e3 k3.
    with_want (kinds.BadField 10) _ _ name k3 (λ variation e4 k4.
    with_want (kinds.BadField 12) _ _ name k4 (λ sequence e5 k5.
    subst (IsNamed text) (ok_is _ name k5) (record {
      suffix = suffix_takes (field 2 2 text) suffix e1;
      own = designator_takes (field 3 5 text) own e2;
      number = positive_takes (field 6 9 text) number e3;
      variation = padded_takes (field 10 11 text) variation e4;
      sequence = positive_takes (field 12 13 text) sequence e5;
    }))))))

name_again : (text : List ℕ) (name : LegName) → IsNamed text name → leg_name_at text ≡ Ok name
unfolding leg_name_at
name_again text name h =
    let e1 = suffix_again (field 2 2 text) name.suffix h.suffix in
    let e2 = designator_again (field 3 5 text) name.own h.own in
    let e3 = positive_again (field 6 9 text) name.number h.number in
    let e4 = padded_again (field 10 11 text) name.variation h.variation in
    let e5 = positive_again (field 12 13 text) name.sequence h.sequence in
    rw (e1, e2, e3, e4, e5) refl

-- its operating days
record IsPeriod (text : List ℕ) (period : LegPeriod) : Type 0 where
  from : IsDayField (field 15 21 text) period.from
  to : IsUntil period.from (field 22 28 text) period.to
  days : IsDays (field 29 35 text) period.days
  rate : IsRate (field 36 36 text) period.second_week

period_takes : (text : List ℕ) (period : LegPeriod) → leg_period_at text ≡ Ok period → IsPeriod text period
unfolding leg_period_at done
period_takes text period e =
    with_want (kinds.BadField 15) _ _ period e (λ from e1 k1.
    with_want (kinds.BadField 22) _ _ period k1 (λ to e2 k2.
    with_want (kinds.BadField 29) _ _ period k2 (λ days e3 k3.
    with_want (kinds.BadField 36) _ _ period k3 (λ second_week e4 k4.
    subst (IsPeriod text) (ok_is _ period k4) (record {
      from = date_takes (field 15 21 text) from e1;
      to = until_takes from (field 22 28 text) to e2;
      days = days_takes (field 29 35 text) days e3;
      rate = rate_takes (field 36 36 text) second_week e4;
    })))))

period_again : (text : List ℕ) (period : LegPeriod) → IsPeriod text period → leg_period_at text ≡ Ok period
unfolding leg_period_at
period_again text period h =
    let e1 = date_again (field 15 21 text) period.from h.from in
    let e2 = until_again period.from (field 22 28 text) period.to h.to in
    let e3 = days_again (field 29 35 text) period.days h.days in
    let e4 = rate_again (field 36 36 text) period.second_week h.rate in
    rw (e1, e2, e3, e4) refl

-- its departure and its arrival
record IsPath (text : List ℕ) (path : LegPath) : Type 0 where
  board : IsTrue (is_station path.board) × (field 37 39 text ≡ path.board)
  std : IsTime (field 44 47 text) path.std
  offset : IsOffset (field 48 52 text) path.offset
  off : IsTrue (is_station path.off) × (field 55 57 text ≡ path.off)
  overflow : field 128 128 text ≡ path.overflow ∷ []
  shift : IsShift (field 193 193 text) path.shift

path_takes : (text : List ℕ) (path : LegPath) → leg_path_at text ≡ Ok path → IsPath text path
unfolding leg_path_at done
path_takes text path e =
    with_want (kinds.BadField 37) _ _ path e (λ board e1 k1.
    with_want (kinds.BadField 44) _ _ path k1 (λ std e2 k2.
    with_want (kinds.BadField 48) _ _ path k2 (λ offset e3 k3.
    with_want (kinds.BadField 55) _ _ path k3 (λ off e4 k4.
    with_want (kinds.BadField 128) _ _ path k4 (λ overflow e5 k5.
    with_want (kinds.BadField 193) _ _ path k5 (λ shift e6 k6.
    subst (IsPath text) (ok_is _ path k6) (record {
      board = station_takes (field 37 39 text) board e1;
      std = time_takes (field 44 47 text) std e2;
      offset = offset_takes (field 48 52 text) offset e3;
      off = station_takes (field 55 57 text) off e4;
      overflow = byte_takes (field 128 128 text) overflow e5;
      shift = shift_takes (field 193 193 text) shift e6;
    })))))))

path_again : (text : List ℕ) (path : LegPath) → IsPath text path → leg_path_at text ≡ Ok path
unfolding leg_path_at
path_again text path h =
    let e1 = station_again (field 37 39 text) path.board h.board in
    let e2 = time_again (field 44 47 text) path.std h.std in
    let e3 = offset_again (field 48 52 text) path.offset h.offset in
    let e4 = station_again (field 55 57 text) path.off h.off in
    let e5 = byte_again (field 128 128 text) path.overflow h.overflow in
    let e6 = shift_again (field 193 193 text) path.shift h.shift in
    rw (e1, e2, e3, e4, e5, e6) refl

pub leg_takes : (airline : List ℕ) (serial : ℕ) (text : List ℕ) (leg : Leg) → IsTyped 51 text
    → leg_at airline serial text ≡ Ok leg → IsLeg airline text leg × (leg.serial ≡ serial)
unfolding leg_at done
leg_takes airline serial text leg typed e =
    with_step (leg_name_at text) _ leg e (λ name n1 k1.
    with_step (leg_period_at text) _ leg k1 (λ period n2 k2.
    with_step (leg_path_at text) _ leg k2 (λ path n3 k3.
    with_check kinds.OtherAirline _ _ leg k3 (λ same k4.
    let a : IsNamed text name = name_takes text name n1 in
    let b : IsPeriod text period = period_takes text period n2 in
    let c : IsPath text path = path_takes text path n3 in
    subst (λ (x : Leg). IsLeg airline text x × (x.serial ≡ serial)) (ok_is _ leg k4) (
      record {
        typed = typed;
        suffix = a.suffix;
        own = subst (IsDesignator (field 3 5 text)) (same_takes name.own airline same) a.own;
        number = a.number;
        variation = a.variation;
        sequence = a.sequence;
        from = b.from;
        to = b.to;
        days = b.days;
        rate = b.rate;
        board = c.board;
        std = c.std;
        offset = c.offset;
        off = c.off;
        overflow = c.overflow;
        shift = c.shift;
      },
      refl,
    )))))

name_of : List ℕ → Leg → LegName
name_of airline leg = record { suffix = leg.suffix; own = airline; number = leg.number; variation = leg.variation; sequence = leg.sequence }

period_of : Leg → LegPeriod
period_of leg = record { from = leg.from; to = leg.to; days = leg.days; second_week = leg.second_week }

path_of : Leg → LegPath
path_of leg = record { board = leg.board; std = leg.std; offset = leg.offset; off = leg.off; overflow = leg.overflow; shift = leg.shift }

pub leg_again : (airline text : List ℕ) (leg : Leg) → IsLeg airline text leg → leg_at airline leg.serial text ≡ Ok leg
unfolding leg_at name_of period_of path_of
leg_again airline text leg h =
    let e1 : leg_name_at text ≡ Ok (name_of airline leg) = name_again text (name_of airline leg) (record { suffix = h.suffix; own = h.own; number = h.number; variation = h.variation; sequence = h.sequence }) in
    let e2 : leg_period_at text ≡ Ok (period_of leg) = period_again text (period_of leg) (record { from = h.from; to = h.to; days = h.days; rate = h.rate }) in
    let e3 : leg_path_at text ≡ Ok (path_of leg) = path_again text (path_of leg) (record { board = h.board; std = h.std; offset = h.offset; off = h.off; overflow = h.overflow; shift = h.shift }) in
    let e4 = same_again airline airline refl in
    rw (e1, e2, e3, e4) refl

-- ---- the trailer's record

serial_less : (reference before : ℕ) → eqb reference before ≡ true → reference ≡ before + 1 - 1
serial_less reference before h = omega (arith, eqb-true reference before h)

pub trailer_takes : (airline : List ℕ) (before : ℕ) (text : List ℕ) (u : Unit {0}) → IsTyped 53 text
    → trailer_at airline before text ≡ Ok u → IsTrailer airline (before + 1) text
unfolding trailer_at
trailer_takes airline before text u typed e =
    with_want (kinds.BadField 3) _ _ u e (λ own e1 k1.
    with_want (kinds.BadField 188) _ _ u k1 (λ reference e2 k2.
    with_want (kinds.BadField 194) _ _ u k2 (λ more e3 k3.
    with_check kinds.OtherAirline _ _ u k3 (λ e4 k4.
    with_check kinds.BadCheck _ _ u k4 (λ e5 k5.
    with_check kinds.Continued _ _ u k5 (λ e6 k6.
    let last : more ≡ false = last_of more e6 in
    let back : reference ≡ before + 1 - 1 = serial_less reference before e5 in
    record {
      typed = typed;
      own = subst (IsDesignator (field 3 5 text)) (same_takes own airline e4) (designator_takes (field 3 5 text) own e1);
      check = subst (IsSix (field 188 193 text)) back (six_takes (field 188 193 text) reference e2);
      end = last_takes (field 194 194 text) (e3 ∙ ap (λ (b : Bool). Some b) last);
    }))))))
  where
    last_of : (b : Bool) → not b ≡ true → b ≡ false
    last_of true h = absurd cc
    last_of false h = refl

pub trailer_again : (airline : List ℕ) (before : ℕ) (text : List ℕ) → IsTrailer airline (before + 1) text
    → trailer_at airline before text ≡ Ok tt
unfolding trailer_at
trailer_again airline before text h =
    let back : before + 1 - 1 ≡ before = omega arith in
    let e1 = designator_again (field 3 5 text) airline h.own in
    let e2 = six_again (field 188 193 text) before (subst (IsSix (field 188 193 text)) back h.check) in
    let e3 = last_again (field 194 194 text) h.end in
    let e4 = same_again airline airline refl in
    let e5 : eqb before before ≡ true = grind (arith, nat_tests) in
    rw (e1, e2, e3, e4, e5) refl

-- ---- steps

abbrev pub opened : Reader → Reader
opened s = record s { phase = Open; count = s.count + 1 }

abbrev pub carried : Carrier → Reader → Reader
carried c s = record s { phase = Body c; count = s.count + 1 }

abbrev pub with_leg : Leg → Reader → Reader
with_leg leg s = record s { legs = s.legs ++ leg ∷ []; count = s.count + 1 }

abbrev pub with_segment : Reader → Reader
with_segment s = record s { segments = s.segments + 1; count = s.count + 1 }

abbrev pub closed : Carrier → Reader → Reader
closed c s = record s { phase = Done c; count = s.count + 1 }

abbrev pub HasSerial : Reader → List ℕ → Type 0
HasSerial s text = IsSix (field 195 200 text) (s.count + 1)

header_takes : (serial : ℕ) (text : List ℕ) (u : Unit {0}) → header_at serial text ≡ Ok u
    → IsHeader text × IsSix (field 195 200 text) serial
unfolding header_at
header_takes serial text u e =
    with_check kinds.NoHeader _ _ u e (λ e1 k1.
    with_check kinds.BadTitle _ _ u k1 (λ e2 k2.
    with_check kinds.BadSerial _ _ u k2 (λ e3 k3.
    ((typed_takes 49 text (omega arith) e1, same_takes (field 2 35 text) set_title e2), serial_takes serial text e3))))

pub header_step_takes : (s : Reader) (text : List ℕ) (t : Reader) → header_step s text ≡ Ok t
    → IsHeader text × HasSerial s text × (opened s ≡ t)
unfolding header_step done
header_step_takes s text t e =
    with_step (header_at (s.count + 1) text) _ t e (λ u k more.
    let h = header_takes (s.count + 1) text u k in
    (h.0, h.1, ok_is (opened s) t more))

type_is : (t : ℕ) (text : List ℕ) → IsTyped t text → eqb (type_of text) t ≡ true
type_is t text h = ap (λ (k : ℕ). eqb k t) (typed_again t text h) ∙ eqb_same t

pub header_step_again : (s : Reader) (text : List ℕ) → IsHeader text → HasSerial s text
    → header_step s text ≡ Ok (opened s)
unfolding header_step header_at
header_step_again s text h serial =
    let e1 = type_is 49 text h.0 in
    let e2 = same_again (field 2 35 text) set_title h.1 in
    let e3 = serial_again (s.count + 1) text serial in
    rw (e1, e2, e3) refl

second_takes : (serial : ℕ) (text : List ℕ) (c : Carrier) → second_at serial text ≡ Ok c
    → IsCarrier text c × IsSix (field 195 200 text) serial
unfolding second_at
second_takes serial text c e =
    with_check kinds.BadOrder _ _ c e (λ e1 k1.
    with_check kinds.BadSerial _ _ c k1 (λ e2 k2.
    (carrier_takes text c (typed_takes 50 text (omega arith) e1) k2, serial_takes serial text e2)))

pub carrier_step_takes : (s : Reader) (text : List ℕ) (t : Reader) → carrier_step s text ≡ Ok t
    → (c : Carrier) × IsCarrier text c × HasSerial s text × (carried c s ≡ t)
unfolding carrier_step done
carrier_step_takes s text t e =
    with_step (second_at (s.count + 1) text) _ t e (λ c k more.
    let h = second_takes (s.count + 1) text c k in
    (c, h.0, h.1, ok_is (carried c s) t more))

pub carrier_step_again : (s : Reader) (text : List ℕ) (c : Carrier) → IsCarrier text c → HasSerial s text
    → carrier_step s text ≡ Ok (carried c s)
unfolding carrier_step second_at
carrier_step_again s text c h serial =
    let e1 = type_is 50 text h.typed in
    let e2 = serial_again (s.count + 1) text serial in
    let e3 = carrier_again text c h in
    rw (e1, e2, e3) refl

numbered_takes : {A : Type 0} (serial : ℕ) (r : Result A SetKind) (text : List ℕ) (x : A)
    → numbered_at serial r text ≡ Ok x → IsSix (field 195 200 text) serial × (r ≡ Ok x)
unfolding numbered_at
numbered_takes serial r text x e = with_check kinds.BadSerial _ _ x e (λ e1 k1. (serial_takes serial text e1, k1))

pub leg_step_takes : (c : Carrier) (s : Reader) (text : List ℕ) (t : Reader) → IsTyped 51 text
    → leg_step c s text ≡ Ok t
    → (leg : Leg) × IsLeg c.airline text leg × (leg.serial ≡ s.count + 1) × HasSerial s text × (with_leg leg s ≡ t)
unfolding leg_step done
leg_step_takes c s text t typed e =
    with_step (numbered_at (s.count + 1) (leg_at c.airline (s.count + 1) text) text) _ t e (λ leg k more.
    let h = numbered_takes (s.count + 1) (leg_at c.airline (s.count + 1) text) text leg k in
    let is = leg_takes c.airline (s.count + 1) text leg typed h.1 in
    (leg, is.0, is.1, h.0, ok_is (with_leg leg s) t more))

pub leg_step_again : (c : Carrier) (s : Reader) (text : List ℕ) (leg : Leg) → IsLeg c.airline text leg
    → leg.serial ≡ s.count + 1 → HasSerial s text → leg_step c s text ≡ Ok (with_leg leg s)
unfolding leg_step numbered_at
leg_step_again c s text leg h number serial =
    let e1 = serial_again (s.count + 1) text serial in
    let e2 : leg_at c.airline (s.count + 1) text ≡ Ok leg = ap (λ (k : ℕ). leg_at c.airline k text) (sym number) ∙ leg_again c.airline text leg h in
    rw (e1, e2) refl

not_none : (b : Bool) → not b ≡ true → b ≡ false
not_none true h = absurd cc
not_none false h = refl

segment_takes : (none : Bool) (serial : ℕ) (text : List ℕ) (u : Unit {0}) → segment_at none serial text ≡ Ok u
    → (none ≡ false) × IsSix (field 195 200 text) serial
unfolding segment_at
segment_takes none serial text u e =
    with_check kinds.BadOrder _ _ u e (λ e1 k1.
    with_check kinds.BadSerial _ _ u k1 (λ e2 k2.
    (not_none none e1, serial_takes serial text e2)))

pub segment_step_takes : (s : Reader) (text : List ℕ) (t : Reader) → segment_step s text ≡ Ok t
    → (s.legs ≡ [] → ⊥) × HasSerial s text × (with_segment s ≡ t)
unfolding segment_step done
segment_step_takes s text t e =
    with_step (segment_at (eqb (length s.legs) 0) (s.count + 1) text) _ t e (λ u k more.
    let h = segment_takes (eqb (length s.legs) 0) (s.count + 1) text u k in
    (λ none. some_legs s.legs h.0 none, h.1, ok_is (with_segment s) t more))
  where
    some_legs : (legs : List Leg) → eqb (length legs) 0 ≡ false → legs ≡ [] → ⊥
    some_legs [] h none = absurd cc
    some_legs (leg ∷ legs) h none = absurd cc

pub segment_step_again : (s : Reader) (text : List ℕ) → (s.legs ≡ [] → ⊥) → HasSerial s text
    → segment_step s text ≡ Ok (with_segment s)
unfolding segment_step segment_at
segment_step_again s text some serial =
    let e1 : not (eqb (length s.legs) 0) ≡ true = has_legs s.legs some in
    let e2 = serial_again (s.count + 1) text serial in
    rw (e1, e2) refl
  where
    has_legs : (legs : List Leg) → (legs ≡ [] → ⊥) → not (eqb (length legs) 0) ≡ true
    has_legs [] some = absurd (some refl)
    has_legs (leg ∷ legs) some = ap not (is_more (length legs))
      where
        is_more : (n : ℕ) → eqb (suc n) 0 ≡ false
        is_more n = grind (arith, nat_tests)

pub trailer_step_takes : (c : Carrier) (s : Reader) (text : List ℕ) (t : Reader) → IsTyped 53 text
    → trailer_step c s text ≡ Ok t → IsTrailer c.airline (s.count + 1) text × HasSerial s text × (closed c s ≡ t)
unfolding trailer_step done
trailer_step_takes c s text t typed e =
    with_step (numbered_at (s.count + 1) (trailer_at c.airline s.count text) text) _ t e (λ u k more.
    let h = numbered_takes (s.count + 1) (trailer_at c.airline s.count text) text u k in
    (trailer_takes c.airline s.count text u typed h.1, h.0, ok_is (closed c s) t more))

pub trailer_step_again : (c : Carrier) (s : Reader) (text : List ℕ) → IsTrailer c.airline (s.count + 1) text
    → HasSerial s text → trailer_step c s text ≡ Ok (closed c s)
unfolding trailer_step numbered_at
trailer_step_again c s text h serial =
    let e1 = serial_again (s.count + 1) text serial in
    let e2 = trailer_again c.airline s.count text h in
    rw (e1, e2) refl

-- ---- a record between the carrier's and the end

pub body_takes_one : (x : ℕ) (c : Carrier) (s : Reader) (text : List ℕ) (t : Reader) → body_step x c s text ≡ Ok t
    → ((eqb x 51 ≡ true) × (leg_step c s text ≡ Ok t))
    ⊎ (((eqb x 52 ≡ true) × (segment_step s text ≡ Ok t)) ⊎ ((eqb x 53 ≡ true) × (trailer_step c s text ≡ Ok t)))
unfolding body_step
body_takes_one x c s text t e = of (eqb x 51) (eqb x 52) (eqb x 53) (leg_step c s text) (segment_step s text) (trailer_step c s text) e
  where
    of : (a b d : Bool) (p q r : Result Reader SetKind) → cond a p (cond b q (cond d r (Err kinds.BadOrder))) ≡ Ok t
        → ((a ≡ true) × (p ≡ Ok t)) ⊎ (((b ≡ true) × (q ≡ Ok t)) ⊎ ((d ≡ true) × (r ≡ Ok t)))
    of true b d p q r e = inl (refl, e)
    of false true d p q r e = inr (inl (refl, e))
    of false false true p q r e = inr (inr (refl, e))
    of false false false p q r e = absurd cc

pub body_leg : (c : Carrier) (s : Reader) (text : List ℕ) → IsTyped 51 text
    → body_step (type_of text) c s text ≡ leg_step c s text
unfolding body_step
body_leg c s text h = ap (λ (x : ℕ). body_step x c s text) (typed_again 51 text h)

pub body_segment : (c : Carrier) (s : Reader) (text : List ℕ) → IsTyped 52 text
    → body_step (type_of text) c s text ≡ segment_step s text
unfolding body_step
body_segment c s text h = ap (λ (x : ℕ). body_step x c s text) (typed_again 52 text h)

pub body_trailer : (c : Carrier) (s : Reader) (text : List ℕ) → IsTyped 53 text
    → body_step (type_of text) c s text ≡ trailer_step c s text
unfolding body_step
body_trailer c s text h = ap (λ (x : ℕ). body_step x c s text) (typed_again 53 text h)
