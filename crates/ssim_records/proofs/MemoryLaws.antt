-- No record's fault is want of memory.
use Rattle.std.proofs.Common.{◌≡◌, ℕ, Bool, true, false, cond, ltb, eqb, ◌+◌, ◌&&◌, not, List, length, take, drop, Option, Some, None, Result, Ok, Err, ap}
use Rattle.std.specs.List.{list_all}
use Rattle.ssim_records.specs.declared.carrier.Carrier.{Carrier}
use Rattle.ssim_records.specs.declared.set_fault.SetKind.{SetKind}
use Rattle.ssim_records.specs.declared.set_fault.SetKind.TheVariants as kinds
use Rattle.ssim_records.specs.declared.state.Phase.{Phase}
use Rattle.ssim_records.specs.declared.state.Phase.TheVariants.{Start, Open, Body, Done}
use Rattle.ssim_records.specs.declared.state.Reader.{Reader}
use Rattle.airline_base.specs.Bytes.{field, same_text, is_printable, is_filler, set_title}
use Rattle.airline_base.specs.Days.{date_in}
use Rattle.ssim_records.specs.RecordFields.{padded_in, positive_in, six_in, mode_in, designator_in, station_in, suffix_in, byte_in, until_in, days_in, rate_in, time_in, offset_in, shift_in, continued_in}
use Rattle.ssim_records.specs.Cut.{cut_at, ended, end_at}
use Rattle.ssim_records.specs.SetFaults.{missing}
use Rattle.ssim_records.specs.SetSteps.{carrier_at, leg_at, leg_name_at, leg_period_at, leg_path_at, trailer_at, header_at, second_at, segment_at, numbered_at, header_step, carrier_step, leg_step, segment_step, trailer_step, body_step, type_of, has_serial, taken, within, is_start, step, moved, cut_then, next}
use Rattle.airline_base.proofs.Chains.{refusal, fault_is, want_none, check_none, step_none}

abbrev answer : {A : Type 0} → A → Result A SetKind
answer x = Ok x

some_none : {A : Type 0} (x : A) → answer x ≡ Err kinds.Memory → ⊥
some_none x e = cc

bad_field : (byte : ℕ) → kinds.BadField byte ≡ kinds.Memory → ⊥
bad_field byte e = cc

bad_serial : kinds.BadSerial ≡ kinds.Memory → ⊥
bad_serial e = cc

-- ---- records

carrier_none : (text : List ℕ) → (carrier_at text) ≡ Err kinds.Memory → ⊥
unfolding carrier_at
carrier_none text e =
    want_none (kinds.BadField 2) (mode_in (field 2 2 text)) _ e (bad_field 2) (λ local e1.
    want_none (kinds.BadField 3) (designator_in (field 3 5 text)) _ e1 (bad_field 3) (λ airline e2.
    want_none (kinds.BadField 15) (date_in (field 15 21 text)) _ e2 (bad_field 15) (λ from e3.
    want_none (kinds.BadField 22) (until_in from (field 22 28 text)) _ e3 (bad_field 22) (λ to e4. some_none _ e4))))

name_none : (text : List ℕ) → (leg_name_at text) ≡ Err kinds.Memory → ⊥
unfolding leg_name_at
name_none text e =
    want_none (kinds.BadField 2) (suffix_in (field 2 2 text)) _ e (bad_field 2) (λ suffix e1.
    want_none (kinds.BadField 3) (designator_in (field 3 5 text)) _ e1 (bad_field 3) (λ own e2.
    want_none (kinds.BadField 6) (positive_in (field 6 9 text)) _ e2 (bad_field 6) (λ number e3.
    want_none (kinds.BadField 10) (padded_in (field 10 11 text)) _ e3 (bad_field 10) (λ variation e4.
    want_none (kinds.BadField 12) (positive_in (field 12 13 text)) _ e4 (bad_field 12) (λ sequence e5. some_none _ e5)))))

period_none : (text : List ℕ) → (leg_period_at text) ≡ Err kinds.Memory → ⊥
unfolding leg_period_at
period_none text e =
    want_none (kinds.BadField 15) (date_in (field 15 21 text)) _ e (bad_field 15) (λ from e1.
    want_none (kinds.BadField 22) (until_in from (field 22 28 text)) _ e1 (bad_field 22) (λ to e2.
    want_none (kinds.BadField 29) (days_in (field 29 35 text)) _ e2 (bad_field 29) (λ days e3.
    want_none (kinds.BadField 36) (rate_in (field 36 36 text)) _ e3 (bad_field 36) (λ second_week e4. some_none _ e4))))

path_none : (text : List ℕ) → (leg_path_at text) ≡ Err kinds.Memory → ⊥
unfolding leg_path_at
path_none text e =
    want_none (kinds.BadField 37) (station_in (field 37 39 text)) _ e (bad_field 37) (λ board e1.
    want_none (kinds.BadField 44) (time_in (field 44 47 text)) _ e1 (bad_field 44) (λ std e2.
    want_none (kinds.BadField 48) (offset_in (field 48 52 text)) _ e2 (bad_field 48) (λ offset e3.
    want_none (kinds.BadField 55) (station_in (field 55 57 text)) _ e3 (bad_field 55) (λ off e4.
    want_none (kinds.BadField 128) (byte_in (field 128 128 text)) _ e4 (bad_field 128) (λ overflow e5.
    want_none (kinds.BadField 193) (shift_in (field 193 193 text)) _ e5 (bad_field 193) (λ shift e6. some_none _ e6))))))

leg_none : (airline : List ℕ) (serial : ℕ) (text : List ℕ) → (leg_at airline serial text) ≡ Err kinds.Memory → ⊥
unfolding leg_at
leg_none airline serial text e =
    step_none (leg_name_at text) _ e (name_none text) (λ name e1.
    step_none (leg_period_at text) _ e1 (period_none text) (λ period e2.
    step_none (leg_path_at text) _ e2 (path_none text) (λ path e3.
    check_none kinds.OtherAirline (same_text name.own airline) _ e3 (λ k. absurd cc) (λ e4. some_none _ e4))))

trailer_none : (airline : List ℕ) (before : ℕ) (text : List ℕ) → (trailer_at airline before text) ≡ Err kinds.Memory → ⊥
unfolding trailer_at
trailer_none airline before text e =
    want_none (kinds.BadField 3) (designator_in (field 3 5 text)) _ e (bad_field 3) (λ own e1.
    want_none (kinds.BadField 188) (six_in (field 188 193 text)) _ e1 (bad_field 188) (λ reference e2.
    want_none (kinds.BadField 194) (continued_in (field 194 194 text)) _ e2 (bad_field 194) (λ more e3.
    check_none kinds.OtherAirline (same_text own airline) _ e3 (λ k. absurd cc) (λ e4.
    check_none kinds.BadCheck (eqb reference before) _ e4 (λ k. absurd cc) (λ e5.
    check_none kinds.Continued (not more) _ e5 (λ k. absurd cc) (λ e6. some_none _ e6))))))

header_none : (serial : ℕ) (text : List ℕ) → (header_at serial text) ≡ Err kinds.Memory → ⊥
unfolding header_at
header_none serial text e =
    check_none kinds.NoHeader (eqb (type_of text) 49) _ e (λ k. absurd cc) (λ e1.
    check_none kinds.BadTitle (same_text (field 2 35 text) set_title) _ e1 (λ k. absurd cc) (λ e2.
    check_none kinds.BadSerial (has_serial serial text) _ e2 bad_serial (λ e3. some_none _ e3)))

second_none : (serial : ℕ) (text : List ℕ) → (second_at serial text) ≡ Err kinds.Memory → ⊥
unfolding second_at
second_none serial text e =
    check_none kinds.BadOrder (eqb (type_of text) 50) _ e (λ k. absurd cc) (λ e1.
    check_none kinds.BadSerial (has_serial serial text) _ e1 bad_serial (λ e2. carrier_none text e2))

segment_none : (none : Bool) (serial : ℕ) (text : List ℕ) → (segment_at none serial text) ≡ Err kinds.Memory → ⊥
unfolding segment_at
segment_none none serial text e =
    check_none kinds.BadOrder (not none) _ e (λ k. absurd cc) (λ e1.
    check_none kinds.BadSerial (has_serial serial text) _ e1 bad_serial (λ e2. some_none _ e2))

numbered_none : {A : Type 0} (serial : ℕ) (r : Result A SetKind) (text : List ℕ)
    → (numbered_at serial r text) ≡ Err kinds.Memory → (r ≡ Err kinds.Memory → ⊥) → ⊥
unfolding numbered_at
numbered_none serial r text e k = check_none kinds.BadSerial (has_serial serial text) _ e bad_serial k

-- ---- steps

leg_step_none : (c : Carrier) (s : Reader) (text : List ℕ) → (leg_step c s text) ≡ Err kinds.Memory → ⊥
unfolding leg_step
leg_step_none c s text h =
    step_none (numbered_at (s.count + 1) (leg_at c.airline (s.count + 1) text) text) _ h
    (λ k. numbered_none (s.count + 1) (leg_at c.airline (s.count + 1) text) text k (leg_none c.airline (s.count + 1) text)) (λ y k. some_none _ k)

segment_step_none : (s : Reader) (text : List ℕ) → (segment_step s text) ≡ Err kinds.Memory → ⊥
unfolding segment_step
segment_step_none s text h = step_none (segment_at (eqb (length s.legs) 0) (s.count + 1) text) _ h (segment_none (eqb (length s.legs) 0) (s.count + 1) text) (λ y k. some_none _ k)

trailer_step_none : (c : Carrier) (s : Reader) (text : List ℕ) → (trailer_step c s text) ≡ Err kinds.Memory → ⊥
unfolding trailer_step
trailer_step_none c s text h =
    step_none (numbered_at (s.count + 1) (trailer_at c.airline s.count text) text) _ h
    (λ k. numbered_none (s.count + 1) (trailer_at c.airline s.count text) text k (trailer_none c.airline s.count text)) (λ y k. some_none _ k)

body_none : (x : ℕ) (c : Carrier) (s : Reader) (text : List ℕ) → (body_step x c s text) ≡ Err kinds.Memory → ⊥
unfolding body_step
body_none x c s text e = of (eqb x 51) (eqb x 52) (eqb x 53) e
  where
    of : (a b d : Bool)
        → (cond a (leg_step c s text) (cond b (segment_step s text)
        (cond d (trailer_step c s text) (Err kinds.BadOrder)))) ≡ Err kinds.Memory → ⊥
    of true b d h = leg_step_none c s text h
    of false true d h = segment_step_none s text h
    of false false true h = trailer_step_none c s text h
    of false false false h = absurd cc

taken_none : (p : Phase) (s : Reader) (text : List ℕ) → (taken p s text) ≡ Err kinds.Memory → ⊥
unfolding header_step carrier_step
taken_none Start s text e = step_none (header_at (s.count + 1) text) _ e (header_none (s.count + 1) text) (λ y k. some_none _ k)
taken_none Open s text e = step_none (second_at (s.count + 1) text) _ e (second_none (s.count + 1) text) (λ y k. some_none _ k)
taken_none (Body c) s text e = body_none (type_of text) c s text e
taken_none (Done c) s text e = absurd cc

within_none : (most : ℕ) (s : Reader) (r : Result Reader SetKind) → (within most s r) ≡ Err kinds.Memory
    → (r ≡ Err kinds.Memory → ⊥) → ⊥
within_none most s (Err kind) e none = none e
within_none most s (Ok t) e none = of (ltb s.count most) e
  where
    of : (b : Bool) → (cond b (Ok t) (Err kinds.TooLarge)) ≡ Err kinds.Memory → ⊥
    of true h = absurd cc
    of false h = absurd cc

step_of_none : (most : ℕ) (s : Reader) (text : List ℕ) → (step most s text) ≡ Err kinds.Memory → ⊥
unfolding step
step_of_none most s text e = of (is_filler text && not (is_start s.phase)) e
  where
    of : (b : Bool) → (cond b (Ok s) (within most s (taken s.phase s text))) ≡ Err kinds.Memory → ⊥
    of true h = absurd cc
    of false h = within_none most s (taken s.phase s text) h (taken_none s.phase s text)

-- ---- the cut

cut_none : (bytes : List ℕ) → (cut_at bytes) ≡ Err kinds.Memory → ⊥
unfolding cut_at
cut_none bytes e = of (ltb (length bytes) 200) (list_all is_printable (take 200 bytes)) (end_at (drop 200 bytes)) e
  where
    of : (a b : Bool) (o : Option (List ℕ))
        → (cond a (Err kinds.Short) (cond b (ended (take 200 bytes) o) (Err kinds.BadByte))) ≡ Err kinds.Memory → ⊥
    of true b o h = absurd cc
    of false true None h = absurd cc
    of false true (Some rest) h = absurd cc
    of false false o h = absurd cc

moved_none : (rest : List ℕ) (r : Result Reader SetKind) → (moved rest r) ≡ Err kinds.Memory
    → (r ≡ Err kinds.Memory → ⊥) → ⊥
moved_none rest (Ok t) e none = absurd cc
moved_none rest (Err kind) e none = none (ap (λ (x : SetKind). refusal {A = Reader} x) (fault_is {A = Reader × List ℕ} kind kinds.Memory e))

pub next_none : (most : ℕ) (s : Reader) (bytes : List ℕ) → (next most s bytes) ≡ Err kinds.Memory → ⊥
unfolding next
next_none most s bytes e = of (cut_at bytes) (cut_none bytes) e
  where
    of : (r : Result (List ℕ × List ℕ) SetKind) → (r ≡ Err kinds.Memory → ⊥) → (cut_then most s r) ≡ Err kinds.Memory
        → ⊥
    of (Err kind) none h = none (ap (λ (x : SetKind). refusal {A = List ℕ × List ℕ} x) (fault_is {A = Reader × List ℕ} kind kinds.Memory h))
    of (Ok p) none h = moved_none p.1 (step most s p.0) h (step_of_none most s p.0)

pub missing_none : (p : Phase) → missing p ≡ Some kinds.Memory → ⊥
missing_none Start e = absurd cc
missing_none Open e = absurd cc
missing_none (Body c) e = absurd cc
missing_none (Done c) e = absurd cc
