-- A field that is read is written so, and what is written so is read.
use Rattle.std.proofs.Common.{◌⊎◌, inl, inr, ◌≡◌, ℕ, ◌+◌, ◌-◌, ◌*◌, ◌/◌, ◌%◌, ◌<◌, ◌≤◌, Bool, true, false, cond, ltb, leb, eqb, ◌&&◌, ◌||◌, List, [], ◌∷◌, ◌++◌, length, take, drop, Option, Some, None, refl, sym, ap, subst, ◌∙◌, IsTrue, arith, ℤ, pos, negsuc}
use Rattle.std.specs.Prelude.{◌-ℤ◌, codes}
use Rattle.std.specs.Char.{is_ascii_digit, is_ascii_uppercase}
use Rattle.std.specs.List.{prefix_len, list_all}
use Rattle.std.specs.Str.Parse.{digits_value}
use Rattle.std.specs.Cmp.Lexicographic.{bytes_decides}
use Rattle.std.proofs.lemmas.Bool.{eqb-true}
use Rattle.std.proofs.lemmas.Bool.Decides.{nat_tests}
use Rattle.std.proofs.lemmas.List.{drop_at, take-append-drop}
use Rattle.airline_base.specs.Names.{is_airline, is_station}
use Rattle.airline_base.specs.Days.{two_digits}
use Rattle.airline_base.specs.Bytes.{open_end, same_text}
use Rattle.airline_base.specs.Fields.{two_are, two_value}
use Rattle.airline_base.specs.Days.{date_in}
use Rattle.ssim_records.specs.RecordFields.{digits_in, padded_in, at_least_one, positive_in, six_in, not_before, until_in, mode_in, designator_in, station_in, suffix_in, byte_in, day_in, with_day, days_from, days_in, rate_in, time_is, time_in, signed_in, offset_is, offset_in, shift_in, continued_in}
use Rattle.ssim_records.specs.SetText.{IsMode, IsUntil, IsPadded, IsSix, IsDesignator, IsSuffix, days_text, IsDays, IsRate, IsTime, IsOffset, IsShift}
use Rattle.airline_base.proofs.Tests.{passed, guarded, kept, second_of, both_true, both_are, some_is, none_some}
use Rattle.airline_base.proofs.LeadingRuns.{run_all, prefix_run}
use Rattle.airline_base.proofs.DateLaws.{two_takes, two_again, date_takes, date_again}

-- ---- texts

pub same_takes : (a b : List ℕ) → same_text a b ≡ true → a ≡ b
same_takes a b h = (bytes_decides a b).0 h

pub same_again : (a b : List ℕ) → a ≡ b → same_text a b ≡ true
same_again a b h = (bytes_decides a b).1 h

-- ---- numbers

pub padded_takes : (text : List ℕ) (n : ℕ) → padded_in text ≡ Some n → IsPadded text n
unfolding padded_in
padded_takes text n e =
    let run = drop (prefix_len (λ c. eqb c 32) text) text in
    let p = passed (ltb 0 (length run) && list_all is_ascii_digit run) (digits_value 10 run) n e in
    let t = both_true (ltb 0 (length run)) (list_all is_ascii_digit run) p.0 in
    let some : 0 < length run = grind (arith, nat_tests, t.0) in
    record { blanks = take (prefix_len (λ c. eqb c 32) text) text; digits = run; parts = sym (take-append-drop (prefix_len (λ c. eqb c 32) text) text); blank = run_all (λ c. eqb c 32) text; digit = t.1; some = some; value = sym p.1 }

padded_of : (blanks digits : List ℕ) → list_all (λ c. eqb c 32) blanks ≡ true → list_all is_ascii_digit digits ≡ true
    → 0 < length digits → padded_in (blanks ++ digits) ≡ Some (digits_value 10 digits)
unfolding padded_in
padded_of blanks [] blank digit some = absurd (omega arith)
padded_of blanks (d ∷ digits) blank digit some =
    let b = both_true (is_ascii_digit d) (list_all is_ascii_digit digits) digit in
    let stop : eqb d 32 ≡ false = grind (arith, nat_tests, b.0) in
    let len : prefix_len (λ c. eqb c 32) (blanks ++ d ∷ digits) ≡ length blanks = prefix_run (λ c. eqb c 32) blanks (d ∷ digits) blank stop in
    let rest : drop (prefix_len (λ c. eqb c 32) (blanks ++ d ∷ digits)) (blanks ++ d ∷ digits) ≡ d ∷ digits = rw len (drop_at blanks (d ∷ digits) (length blanks) refl) in
    let more : ltb 0 (length (d ∷ digits)) ≡ true = grind (arith, nat_tests, some) in
    ap digits_in rest ∙ kept (ltb 0 (length (d ∷ digits)) && list_all is_ascii_digit (d ∷ digits)) (Some (digits_value 10 (d ∷ digits))) (both_are (ltb 0 (length (d ∷ digits))) (list_all is_ascii_digit (d ∷ digits)) more digit)

pub padded_again : (text : List ℕ) (n : ℕ) → IsPadded text n → padded_in text ≡ Some n
padded_again text n h = ap padded_in h.parts ∙ padded_of h.blanks h.digits h.blank h.digit h.some ∙ ap (λ (x : ℕ). Some x) (sym h.value)

at_least_takes : (o : Option ℕ) (n : ℕ) → at_least_one o ≡ Some n → (o ≡ Some n) × (1 ≤ n)
at_least_takes None n e = absurd cc
at_least_takes (Some k) n e =
    let p = passed (leb 1 k) k n e in
    let low : 1 ≤ k = grind (arith, nat_tests, p.0) in
    (ap (λ (x : ℕ). Some x) p.1, omega (arith, p.1))

pub positive_takes : (text : List ℕ) (n : ℕ) → positive_in text ≡ Some n → IsPadded text n × (1 ≤ n)
unfolding positive_in
positive_takes text n e =
    let p = at_least_takes (padded_in text) n e in
    (padded_takes text n p.0, p.1)

pub positive_again : (text : List ℕ) (n : ℕ) → IsPadded text n × (1 ≤ n) → positive_in text ≡ Some n
unfolding positive_in
positive_again text n h =
    let low : leb 1 n ≡ true = grind (arith, nat_tests, h.1) in
    ap at_least_one (padded_again text n h.0) ∙ kept (leb 1 n) (Some n) low

pub six_takes : (text : List ℕ) (n : ℕ) → six_in text ≡ Some n → IsSix text n
unfolding six_in
six_takes text n e =
    let p = passed (eqb (length text) 6 && list_all is_ascii_digit text) (digits_value 10 text) n e in
    let t = both_true (eqb (length text) 6) (list_all is_ascii_digit text) p.0 in
    (eqb-true (length text) 6 t.0, t.1, sym p.1)

pub six_again : (text : List ℕ) (n : ℕ) → IsSix text n → six_in text ≡ Some n
unfolding six_in
six_again text n h =
    let six : eqb (length text) 6 ≡ true = rw (h.0) refl in
    kept (eqb (length text) 6 && list_all is_ascii_digit text) (Some (digits_value 10 text)) (both_are (eqb (length text) 6) (list_all is_ascii_digit text) six h.1) ∙ ap (λ (x : ℕ). Some x) (sym h.2)

-- ---- names

mode_of : (a b : Bool) (c : ℕ) (local : Bool) → eqb c 85 ≡ a → eqb c 76 ≡ b
    → cond a (Some false) (cond b (Some true) None) ≡ Some local → IsMode (c ∷ []) local
mode_of true b c local x y e = subst (IsMode (c ∷ [])) (some_is false local e) (ap (λ (k : ℕ). k ∷ []) (eqb-true c 85 x))
mode_of false true c local x y e = subst (IsMode (c ∷ [])) (some_is true local e) (ap (λ (k : ℕ). k ∷ []) (eqb-true c 76 y))
mode_of false false c local x y e = absurd (none_some local e)

pub mode_takes : (text : List ℕ) (local : Bool) → mode_in text ≡ Some local → IsMode text local
unfolding mode_in
mode_takes [] local e = absurd cc
mode_takes (c ∷ []) local e = mode_of (eqb c 85) (eqb c 76) c local refl refl e
mode_takes (c ∷ d ∷ text) local e = absurd cc

pub mode_again : (text : List ℕ) (local : Bool) → IsMode text local → mode_in text ≡ Some local
unfolding mode_in
mode_again text true h = rw h refl
mode_again text false h = rw h refl

pub designator_takes : (text airline : List ℕ) → designator_in text ≡ Some airline → IsDesignator text airline
unfolding designator_in
designator_takes [] airline e = absurd cc
designator_takes (a ∷ []) airline e = absurd cc
designator_takes (a ∷ b ∷ []) airline e = absurd cc
designator_takes (a ∷ b ∷ c ∷ []) airline e =
    let p = passed (is_airline (a ∷ b ∷ []) && eqb c 32) (a ∷ b ∷ []) airline e in
    let t = both_true (is_airline (a ∷ b ∷ [])) (eqb c 32) p.0 in
    (subst (λ (x : List ℕ). is_airline x ≡ true) p.1 t.0, ap (λ (x : ℕ). a ∷ b ∷ x ∷ []) (eqb-true c 32 t.1) ∙ ap (λ (x : List ℕ). x ++ 32 ∷ []) p.1)
designator_takes (a ∷ b ∷ c ∷ d ∷ text) airline e = absurd cc

pub designator_again : (text airline : List ℕ) → IsDesignator text airline → designator_in text ≡ Some airline
unfolding designator_in
designator_again text [] h = absurd (cc (h.0))
designator_again text (a ∷ []) h = absurd (cc (h.0))
designator_again text (a ∷ b ∷ []) h = ap designator_in h.1 ∙ kept (is_airline (a ∷ b ∷ []) && true) (Some (a ∷ b ∷ [])) (both_are (is_airline (a ∷ b ∷ [])) true h.0 refl)
designator_again text (a ∷ b ∷ c ∷ airline) h = absurd (cc (h.0))

pub station_takes : (text station : List ℕ) → station_in text ≡ Some station
    → IsTrue (is_station station) × (text ≡ station)
unfolding station_in
station_takes text station e =
    let p = passed (is_station text) text station e in
    (subst (λ (x : List ℕ). is_station x ≡ true) p.1 p.0, p.1)

pub station_again : (text station : List ℕ) → IsTrue (is_station station) × (text ≡ station)
    → station_in text ≡ Some station
unfolding station_in
station_again text station h = ap station_in h.1 ∙ kept (is_station station) (Some station) h.0

suffix_of : (a b : Bool) (c : ℕ) (suffix : Option ℕ) → eqb c 32 ≡ a → is_ascii_uppercase c ≡ b
    → cond a (Some None) (cond b (Some (Some c)) None) ≡ Some suffix → IsSuffix (c ∷ []) suffix
suffix_of true b c suffix x y e = subst (IsSuffix (c ∷ [])) (some_is None suffix e) (ap (λ (k : ℕ). k ∷ []) (eqb-true c 32 x))
suffix_of false true c suffix x y e = subst (IsSuffix (c ∷ [])) (some_is (Some c) suffix e) (y, refl)
suffix_of false false c suffix x y e = absurd (none_some suffix e)

pub suffix_takes : (text : List ℕ) (suffix : Option ℕ) → suffix_in text ≡ Some suffix → IsSuffix text suffix
unfolding suffix_in
suffix_takes [] suffix e = absurd cc
suffix_takes (c ∷ []) suffix e = suffix_of (eqb c 32) (is_ascii_uppercase c) c suffix refl refl e
suffix_takes (c ∷ d ∷ text) suffix e = absurd cc

pub suffix_again : (text : List ℕ) (suffix : Option ℕ) → IsSuffix text suffix → suffix_in text ≡ Some suffix
unfolding suffix_in
suffix_again text None h = rw h refl
suffix_again text (Some letter) h =
    let no : eqb letter 32 ≡ false = grind (arith, nat_tests, h.0) in
    ap suffix_in h.1 ∙ second_of (eqb letter 32) (Some None) (cond (is_ascii_uppercase letter) (Some (Some letter)) None) no ∙ kept (is_ascii_uppercase letter) (Some (Some letter)) h.0

pub byte_takes : (text : List ℕ) (c : ℕ) → byte_in text ≡ Some c → text ≡ c ∷ []
unfolding byte_in
byte_takes [] c e = absurd cc
byte_takes (d ∷ []) c e = ap (λ (x : ℕ). x ∷ []) (some_is d c e)
byte_takes (d ∷ k ∷ text) c e = absurd cc

pub byte_again : (text : List ℕ) (c : ℕ) → text ≡ c ∷ [] → byte_in text ≡ Some c
unfolding byte_in
byte_again text c h = rw h refl

-- ---- days of the week

pub length_days : (k : ℕ) (days : List Bool) → length (days_text k days) ≡ length days
length_days k [] = refl
length_days k (day ∷ days) = let e = length_days (k + 1) days in omega (arith, e)

day_of : (a b : Bool) (k c : ℕ) (day : Bool) → eqb c (48 + k) ≡ a → eqb c 32 ≡ b
    → cond a (Some true) (cond b (Some false) None) ≡ Some day → c ≡ cond day (48 + k) 32
day_of true b k c day x y e = eqb-true c (48 + k) x ∙ ap (λ (d : Bool). cond d (48 + k) 32) (some_is true day e)
day_of false true k c day x y e = eqb-true c 32 y ∙ ap (λ (d : Bool). cond d (48 + k) 32) (some_is false day e)
day_of false false k c day x y e = absurd (none_some day e)

day_one : (k c : ℕ) (day : Bool) → day_in k c ≡ Some day → c ≡ cond day (48 + k) 32
unfolding day_in
day_one k c day e = day_of (eqb c (48 + k)) (eqb c 32) k c day refl refl e

day_takes : (k c : ℕ) (rest : List ℕ) (o : Option Bool) (p : Option (List Bool)) (days : List Bool) → day_in k c ≡ o
    → with_day o p ≡ Some days → ((ds : List Bool) → p ≡ Some ds → rest ≡ days_text (k + 1) ds)
    → c ∷ rest ≡ days_text k days
day_takes k c rest None p days x e f = absurd (none_some days e)
day_takes k c rest (Some day) None days x e f = absurd (none_some days e)
day_takes k c rest (Some day) (Some ds) days x e f = ap (λ (z : ℕ). z ∷ rest) (day_one k c day x) ∙ ap (λ (z : List ℕ). cond day (48 + k) 32 ∷ z) (f ds refl) ∙ ap (days_text k) (some_is (day ∷ ds) days e)

days_from_takes : (k : ℕ) (text : List ℕ) (days : List Bool) → days_from k text ≡ Some days → text ≡ days_text k days
days_from_takes k [] days e = ap (days_text k) (some_is [] days e)
days_from_takes k (c ∷ rest) days e = day_takes k c rest (day_in k c) (days_from (k + 1) rest) days refl e (λ ds h. days_from_takes (k + 1) rest ds h)

day_again : (k : ℕ) (day : Bool) → day_in k (cond day (48 + k) 32) ≡ Some day
unfolding day_in
day_again k true =
    let is : eqb (48 + k) (48 + k) ≡ true = grind (arith, nat_tests) in
    rw is refl
day_again k false =
    let other : eqb 32 (48 + k) ≡ false = grind (arith, nat_tests) in
    rw other refl

days_from_again : (k : ℕ) (days : List Bool) → days_from k (days_text k days) ≡ Some days
days_from_again k [] = refl
days_from_again k (day ∷ days) =
    ap (λ (o : Option Bool). with_day o (days_from (k + 1) (days_text (k + 1) days))) (day_again k day) ∙ ap (with_day (Some day)) (days_from_again (k + 1) days)

pub days_takes : (text : List ℕ) (days : List Bool) → days_in text ≡ Some days → IsDays text days
unfolding days_in
days_takes text days e =
    let g = guarded (eqb (length text) 7) (days_from 1 text) days e in
    let t = days_from_takes 1 text days g.1 in
    (sym (length_days 1 days) ∙ ap length (sym t) ∙ eqb-true (length text) 7 g.0, t)

pub days_again : (text : List ℕ) (days : List Bool) → IsDays text days → days_in text ≡ Some days
unfolding days_in
days_again text days h =
    let seven : eqb (length (days_text 1 days)) 7 ≡ true = rw (length_days 1 days, h.0) refl in
    ap days_in h.1 ∙ kept (eqb (length (days_text 1 days)) 7) (days_from 1 (days_text 1 days)) seven ∙ days_from_again 1 days

rate_of : (a b d : Bool) (c : ℕ) (second : Bool) → eqb c 32 ≡ a → eqb c 49 ≡ b → eqb c 50 ≡ d
    → cond (a || b) (Some false) (cond d (Some true) None) ≡ Some second → IsRate (c ∷ []) second
rate_of true b d c second x y z e = subst (IsRate (c ∷ [])) (some_is false second e) (inl (ap (λ (k : ℕ). k ∷ []) (eqb-true c 32 x)))
rate_of false true d c second x y z e = subst (IsRate (c ∷ [])) (some_is false second e) (inr (ap (λ (k : ℕ). k ∷ []) (eqb-true c 49 y)))
rate_of false false true c second x y z e = subst (IsRate (c ∷ [])) (some_is true second e) (ap (λ (k : ℕ). k ∷ []) (eqb-true c 50 z))
rate_of false false false c second x y z e = absurd (none_some second e)

pub rate_takes : (text : List ℕ) (second : Bool) → rate_in text ≡ Some second → IsRate text second
unfolding rate_in
rate_takes [] second e = absurd cc
rate_takes (c ∷ []) second e = rate_of (eqb c 32) (eqb c 49) (eqb c 50) c second refl refl refl e
rate_takes (c ∷ d ∷ text) second e = absurd cc

pub rate_again : (text : List ℕ) (second : Bool) → IsRate text second → rate_in text ≡ Some second
unfolding rate_in
rate_again text true h = rw h refl
rate_again text false (inl h) = rw h refl
rate_again text false (inr h) = rw h refl

-- ---- times

time_takes_of : (a b c d n : ℕ) → two_are a b ≡ true → two_are c d ≡ true
    → time_is (two_value a b) (two_value c d) ≡ Some n → IsTime (a ∷ b ∷ c ∷ d ∷ []) n
time_takes_of a b c d n h k e =
    let p = passed (ltb (two_value c d) 60 && leb (60 * two_value a b + two_value c d) 1440) (60 * two_value a b + two_value c d) n e in
    let t = both_true (ltb (two_value c d) 60) (leb (60 * two_value a b + two_value c d) 1440) p.0 in
    let low : two_value c d < 60 = grind (arith, nat_tests, t.0) in
    let most : 60 * two_value a b + two_value c d ≤ 1440 = grind (arith, nat_tests, t.1) in
    let hour : two_value a b ≡ n / 60 = omega (arith, p.1) in
    let minute : two_value c d ≡ n % 60 = omega (arith, p.1) in
    let x : a ∷ b ∷ [] ≡ two_digits (n / 60) = sym (two_takes a b h) ∙ ap two_digits hour in
    let y : c ∷ d ∷ [] ≡ two_digits (n % 60) = sym (two_takes c d k) ∙ ap two_digits minute in
    (ap (λ (z : List ℕ). a ∷ b ∷ z) y ∙ ap (λ (z : List ℕ). z ++ two_digits (n % 60)) x, omega (arith, p.1))

pub time_takes : (text : List ℕ) (n : ℕ) → time_in text ≡ Some n → IsTime text n
unfolding time_in
time_takes [] n e = absurd cc
time_takes (a ∷ []) n e = absurd cc
time_takes (a ∷ b ∷ []) n e = absurd cc
time_takes (a ∷ b ∷ c ∷ []) n e = absurd cc
time_takes (a ∷ b ∷ c ∷ d ∷ []) n e =
    let g = guarded (two_are a b && two_are c d) (time_is (two_value a b) (two_value c d)) n e in
    let t = both_true (two_are a b) (two_are c d) g.0 in
    time_takes_of a b c d n t.0 t.1 g.1
time_takes (a ∷ b ∷ c ∷ d ∷ f ∷ text) n e = absurd cc

time_again_of : (h m x y n : ℕ) → h ≡ x → m ≡ y → x ≡ n / 60 → y ≡ n % 60 → n ≤ 1440 → time_is h m ≡ Some n
time_again_of h m x y n p q r s most =
    let total : 60 * h + m ≡ n = omega (arith, p, q, r, s) in
    let low : ltb m 60 ≡ true = grind (arith, nat_tests, q, s) in
    let high : leb (60 * h + m) 1440 ≡ true = grind (arith, nat_tests, total, most) in
    kept (ltb m 60 && leb (60 * h + m) 1440) (Some (60 * h + m)) (both_are (ltb m 60) (leb (60 * h + m) 1440) low high) ∙ ap (λ (z : ℕ). Some z) total

pub time_again : (text : List ℕ) (n : ℕ) → IsTime text n → time_in text ≡ Some n
unfolding time_in
time_again text n h =
    let small : n ≤ 1440 = h.1 in
    let hour = two_again (n / 60) (omega arith) in
    let minute = two_again (n % 60) (omega arith) in
    let a = 48 + (n / 60) / 10 in
    let b = 48 + (n / 60) % 10 in
    let c = 48 + (n % 60) / 10 in
    let d = 48 + (n % 60) % 10 in
    ap time_in h.0 ∙ kept (two_are a b && two_are c d) (time_is (two_value a b) (two_value c d)) (both_are (two_are a b) (two_are c d) hour.0 minute.0)
    ∙ time_again_of (two_value a b) (two_value c d) (n / 60) (n % 60) n hour.1 minute.1 refl refl small

offset_sign : (s t : Bool) (sign total : ℕ) (z : ℤ) → eqb sign 43 ≡ s → eqb sign 45 ≡ t
    → cond s (Some (pos total)) (cond t (Some (pos 0 -ℤ pos total)) None) ≡ Some z
    → ((sign ≡ 43) × (z ≡ pos total)) ⊎ ((sign ≡ 45) × (z ≡ pos 0 -ℤ pos total))
offset_sign true t sign total z x y e = inl (eqb-true sign 43 x, sym (some_is (pos total) z e))
offset_sign false true sign total z x y e = inr (eqb-true sign 45 y, sym (some_is (pos 0 -ℤ pos total) z e))
offset_sign false false sign total z x y e = absurd (none_some z e)

offset_signed : (sign total : ℕ) (z : ℤ) → signed_in sign total ≡ Some z
    → ((sign ≡ 43) × (z ≡ pos total)) ⊎ ((sign ≡ 45) × (z ≡ pos 0 -ℤ pos total))
unfolding signed_in
offset_signed sign total z e = offset_sign (eqb sign 43) (eqb sign 45) sign total z refl refl e

offset_takes_of : (sign a b c d : ℕ) (z : ℤ) → two_are a b ≡ true → two_are c d ≡ true
    → offset_is sign (two_value a b) (two_value c d) ≡ Some z → IsOffset (sign ∷ a ∷ b ∷ c ∷ d ∷ []) z
offset_takes_of sign a b c d z h k e =
    let hours = two_value a b in
    let minutes = two_value c d in
    let g = guarded (ltb hours 24 && ltb minutes 60) (signed_in sign (60 * hours + minutes)) z e in
    let t = both_true (ltb hours 24) (ltb minutes 60) g.0 in
    let x : hours < 24 = grind (arith, nat_tests, t.0) in
    let y : minutes < 60 = grind (arith, nat_tests, t.1) in
    let rest : a ∷ b ∷ c ∷ d ∷ [] ≡ two_digits hours ++ two_digits minutes = ap (λ (l : List ℕ). a ∷ b ∷ l) (sym (two_takes c d k)) ∙ ap (λ (l : List ℕ). l ++ two_digits minutes) (sym (two_takes a b h)) in (
      hours,
      minutes,
      x,
      y,
      elim (offset_signed sign (60 * hours + minutes) z g.1) [
        | inl p ↦ inl (ap (λ (l : List ℕ). sign ∷ l) rest ∙ ap (λ (i : ℕ). i ∷ two_digits hours ++ two_digits minutes) p.0, p.1)
        | inr p ↦ inr (ap (λ (l : List ℕ). sign ∷ l) rest ∙ ap (λ (i : ℕ). i ∷ two_digits hours ++ two_digits minutes) p.0, p.1)
      ],
    )

pub offset_takes : (text : List ℕ) (z : ℤ) → offset_in text ≡ Some z → IsOffset text z
unfolding offset_in
offset_takes [] z e = absurd cc
offset_takes (s ∷ []) z e = absurd cc
offset_takes (s ∷ a ∷ []) z e = absurd cc
offset_takes (s ∷ a ∷ b ∷ []) z e = absurd cc
offset_takes (s ∷ a ∷ b ∷ c ∷ []) z e = absurd cc
offset_takes (s ∷ a ∷ b ∷ c ∷ d ∷ []) z e =
    let g = guarded (two_are a b && two_are c d) (offset_is s (two_value a b) (two_value c d)) z e in
    let t = both_true (two_are a b) (two_are c d) g.0 in
    offset_takes_of s a b c d z t.0 t.1 g.1
offset_takes (s ∷ a ∷ b ∷ c ∷ d ∷ f ∷ text) z e = absurd cc

offset_again_of : (sign hours minutes : ℕ) → hours < 24 → minutes < 60
    → offset_in (sign ∷ two_digits hours ++ two_digits minutes) ≡ offset_is sign hours minutes
unfolding offset_in
offset_again_of sign hours minutes x y =
    let p = two_again hours (omega arith) in
    let q = two_again minutes (omega arith) in
    let a = 48 + hours / 10 in
    let b = 48 + hours % 10 in
    let c = 48 + minutes / 10 in
    let d = 48 + minutes % 10 in
    kept (two_are a b && two_are c d) (offset_is sign (two_value a b) (two_value c d)) (both_are (two_are a b) (two_are c d) p.0 q.0)
    ∙ ap (λ (i : ℕ). offset_is sign i (two_value c d)) p.1 ∙ ap (offset_is sign hours) q.1

offset_plus : (hours minutes : ℕ) → hours < 24 → minutes < 60
    → offset_is 43 hours minutes ≡ Some (pos (60 * hours + minutes))
unfolding signed_in
offset_plus hours minutes x y =
    let h : ltb hours 24 ≡ true = grind (arith, nat_tests, x) in
    let m : ltb minutes 60 ≡ true = grind (arith, nat_tests, y) in
    kept (ltb hours 24 && ltb minutes 60) (Some (pos (60 * hours + minutes))) (both_are (ltb hours 24) (ltb minutes 60) h m)

offset_minus : (hours minutes : ℕ) → hours < 24 → minutes < 60
    → offset_is 45 hours minutes ≡ Some (pos 0 -ℤ pos (60 * hours + minutes))
unfolding signed_in
offset_minus hours minutes x y =
    let h : ltb hours 24 ≡ true = grind (arith, nat_tests, x) in
    let m : ltb minutes 60 ≡ true = grind (arith, nat_tests, y) in
    kept (ltb hours 24 && ltb minutes 60) (Some (pos 0 -ℤ pos (60 * hours + minutes))) (both_are (ltb hours 24) (ltb minutes 60) h m)

pub offset_again : (text : List ℕ) (z : ℤ) → IsOffset text z → offset_in text ≡ Some z
offset_again text z h = elim h.4 [
  | inl p ↦ ap offset_in p.0 ∙ offset_again_of 43 h.0 h.1 h.2 h.3 ∙ offset_plus h.0 h.1 h.2 h.3 ∙ ap (λ (i : ℤ). Some i) (sym p.1)
  | inr p ↦ ap offset_in p.0 ∙ offset_again_of 45 h.0 h.1 h.2 h.3 ∙ offset_minus h.0 h.1 h.2 h.3 ∙ ap (λ (i : ℤ). Some i) (sym p.1)
]

shift_of : (a b d f : Bool) (c : ℕ) (z : ℤ) → eqb c 32 ≡ a → (leb 48 c && leb c 55) ≡ b → eqb c 65 ≡ d → eqb c 74 ≡ f
    → cond a (Some (pos 0)) (cond b (Some (pos (c - 48))) (cond (d || f) (Some (negsuc 0)) None)) ≡ Some z
    → IsShift (c ∷ []) z
shift_of true b d f c z x y w v e = inl (ap (λ (k : ℕ). k ∷ []) (eqb-true c 32 x), sym (some_is (pos 0) z e))
shift_of false true d f c z x y w v e =
    let t = both_true (leb 48 c) (leb c 55) y in
    let low : 48 ≤ c = grind (arith, nat_tests, t.0) in
    let high : c ≤ 55 = grind (arith, nat_tests, t.1) in
    let back : c ≡ 48 + (c - 48) = omega arith in
    inr (inl (c - 48, omega arith, ap (λ (k : ℕ). k ∷ []) back, sym (some_is (pos (c - 48)) z e)))
shift_of false false true f c z x y w v e = inr (inr (inl (ap (λ (k : ℕ). k ∷ []) (eqb-true c 65 w)), sym (some_is (negsuc 0) z e)))
shift_of false false false true c z x y w v e = inr (inr (inr (ap (λ (k : ℕ). k ∷ []) (eqb-true c 74 v)), sym (some_is (negsuc 0) z e)))
shift_of false false false false c z x y w v e = absurd (none_some z e)

pub shift_takes : (text : List ℕ) (z : ℤ) → shift_in text ≡ Some z → IsShift text z
unfolding shift_in
shift_takes [] z e = absurd cc
shift_takes (c ∷ []) z e = shift_of (eqb c 32) (leb 48 c && leb c 55) (eqb c 65) (eqb c 74) c z refl refl refl refl e
shift_takes (c ∷ d ∷ text) z e = absurd cc

shift_digit : (n : ℕ) → n ≤ 7 → shift_in ((48 + n) ∷ []) ≡ Some (pos n)
unfolding shift_in
shift_digit n h =
    let no : eqb (48 + n) 32 ≡ false = grind (arith, nat_tests) in
    let low : leb 48 (48 + n) ≡ true = grind (arith, nat_tests) in
    let high : leb (48 + n) 55 ≡ true = grind (arith, nat_tests, h) in
    let back : 48 + n - 48 ≡ n = omega arith in
    rw (no, low, high, back) refl

pub shift_again : (text : List ℕ) (z : ℤ) → IsShift text z → shift_in text ≡ Some z
unfolding shift_in
shift_again text z (inl h) = rw (h.0, h.1) refl
shift_again text z (inr (inl h)) = ap shift_in h.2 ∙ shift_digit h.0 h.1 ∙ ap (λ (i : ℤ). Some i) (sym h.3)
shift_again text z (inr (inr (inl a, k))) = rw (a, k) refl
shift_again text z (inr (inr (inr j, k))) = rw (j, k) refl

more_of : (a b : Bool) (c : ℕ) → eqb c 69 ≡ a → cond a (Some false) (cond b (Some true) None) ≡ Some false
    → c ∷ [] ≡ codes "E"
more_of true b c x e = ap (λ (k : ℕ). k ∷ []) (eqb-true c 69 x)
more_of false true c x e = let no : true ≡ false = some_is true false e in absurd cc
more_of false false c x e = absurd (none_some false e)

pub last_takes : (text : List ℕ) → continued_in text ≡ Some false → text ≡ codes "E"
unfolding continued_in
last_takes [] e = absurd cc
last_takes (c ∷ []) e = more_of (eqb c 69) (eqb c 67) c refl e
last_takes (c ∷ d ∷ text) e = absurd cc

pub last_again : (text : List ℕ) → text ≡ codes "E" → continued_in text ≡ Some false
unfolding continued_in
last_again text h = rw h refl

-- ---- the end of a period

not_before_takes : (from : ℕ) (o to : Option ℕ) (p : Option (Option ℕ)) → not_before from o ≡ Some to
    → (k : ℕ) × (o ≡ Some k) × (from ≤ k) × (Some k ≡ to)
not_before_takes from None to p e = absurd (none_some to e)
not_before_takes from (Some k) to p e =
    let g = passed (leb from k) (Some k) to e in
    let le : from ≤ k = grind (arith, nat_tests, g.0) in
    (k, refl, le, g.1)

until_of : (b : Bool) (from : ℕ) (text : List ℕ) (to : Option ℕ) → same_text text open_end ≡ b
    → cond b (Some None) (not_before from (date_in text)) ≡ Some to → IsUntil from text to
until_of true from text to h e = subst (IsUntil from text) (some_is None to e) (same_takes text open_end h)
until_of false from text to h e =
    let p = not_before_takes from (date_in text) to None e in
    subst (IsUntil from text) p.3 (date_takes text p.0 p.1, p.2)

pub until_takes : (from : ℕ) (text : List ℕ) (to : Option ℕ) → until_in from text ≡ Some to → IsUntil from text to
unfolding until_in
until_takes from text to e = until_of (same_text text open_end) from text to refl e

no_date : date_in open_end ≡ None
unfolding date_in
no_date = refl

not_open : (b : Bool) (text : List ℕ) (n : ℕ) → same_text text open_end ≡ b → date_in text ≡ Some n → b ≡ false
not_open true text n h e = absurd (none_some n (sym no_date ∙ ap date_in (sym (same_takes text open_end h)) ∙ e))
not_open false text n h e = refl

pub until_again : (from : ℕ) (text : List ℕ) (to : Option ℕ) → IsUntil from text to → until_in from text ≡ Some to
unfolding until_in
until_again from text None h = rw h refl
until_again from text (Some to) h =
    let date = date_again text to h.0 in
    let le : leb from to ≡ true = grind (arith, nat_tests, h.1) in
    second_of (same_text text open_end) (Some None) (not_before from (date_in text)) (not_open (same_text text open_end) text to refl date)
    ∙ ap (not_before from) date ∙ kept (leb from to) (Some (Some to)) le
