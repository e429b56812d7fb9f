-- Days read one by one, from Monday on.
use Rattle.std.proofs.Common.{◌≡◌, ℕ, ◌+◌, ◌<◌, ◌≤◌, Bool, List, [], ◌∷◌, ◌++◌, length, get_or, take, drop, set, Option, Some, None, refl, ap, sym, ◌∙◌, add-one, arith}
use Rattle.std.proofs.Math.Seq.{drop-cons}
use Rattle.std.proofs.lemmas.List.{take_more_set, take_all, drop_all, length-set}
use Rattle.ssim_records.specs.RecordFields.{day_in, with_day, days_from, days_in}

-- the days that were read, in front of those that follow
abbrev pub with_days : List Bool → Option (List Bool) → Option (List Bool)
with_days [] more = more
with_days (day ∷ days) more = with_day (Some day) (with_days days more)

pub no_more : (days : List Bool) → with_days days (Some []) ≡ Some days
no_more [] = refl
no_more (day ∷ days) = rw (no_more days) refl

pub not_one : (days : List Bool) → with_days days None ≡ None
not_one [] = refl
not_one (day ∷ days) = rw (not_one days) refl

one_more : (days : List Bool) (day : Bool) (more : Option (List Bool))
    → with_days (days ++ day ∷ []) more ≡ with_days days (with_day (Some day) more)
one_more [] day more = refl
one_more (first ∷ days) day more = rw (one_more days day more) refl

-- the days up to the kth were read so, and those behind them are still to be read
pub record AreRead (text : List ℕ) (days : List Bool) (k : ℕ) : Type 0 where
  pub held : days_from 1 text ≡ with_days (take k days) (days_from (k + 1) (drop k text))
  pub len : length days ≡ 7

front : (text : List ℕ) (k : ℕ) → k < length text
    → days_from (k + 1) (drop k text)
    ≡ with_day (day_in (k + 1) (get_or text k 0)) (days_from (k + 1 + 1) (drop (k + 1) text))
front text k h = ap (days_from (k + 1)) (drop-cons text k 0 h) ∙ ap (λ (n : ℕ). with_day (day_in (k + 1) (get_or text k 0)) (days_from (k + 1 + 1) (drop n text))) (sym (add-one k))

pub day_read : (text : List ℕ) (days : List Bool) (k : ℕ) (day : Bool) → length text ≡ 7 → k < 7
    → AreRead text days k → Some day ≡ day_in (k + 1) (get_or text k 0) → AreRead text (set days k day) (k + 1)
day_read text days k day few h a e = record {
  held =
      a.held ∙ ap (with_days (take k days)) (front text k (omega (arith, few, h)) ∙ ap (λ (o : Option Bool). with_day o (days_from (k + 1 + 1) (drop (k + 1) text))) (sym e))
      ∙ sym (one_more (take k days) day (days_from (k + 1 + 1) (drop (k + 1) text)))
      ∙ ap (λ (x : List Bool). with_days x (days_from (k + 1 + 1) (drop (k + 1) text))) (sym (take_more_set days k day (omega (arith, a.len, h))));
  len = length-set days k day ∙ a.len;
}

in_seven : (text : List ℕ) → length text ≡ 7 → days_in text ≡ days_from 1 text
unfolding days_in
in_seven text few = rw few refl

pub day_wrong : (text : List ℕ) (days : List Bool) (k : ℕ) → length text ≡ 7 → k < 7 → AreRead text days k
    → None ≡ day_in (k + 1) (get_or text k 0) → None ≡ days_in text
day_wrong text days k few h a e =
    sym (in_seven text few ∙ a.held
    ∙ ap (with_days (take k days)) (front text k (omega (arith, few, h)) ∙ ap (λ (o : Option Bool). with_day o (days_from (k + 1 + 1) (drop (k + 1) text))) (sym e))
    ∙ not_one (take k days))

pub all_read : (text : List ℕ) (days : List Bool) (k : ℕ) → length text ≡ 7 → 7 ≤ k → AreRead text days k
    → Some days ≡ days_in text
all_read text days k few past a =
    sym (in_seven text few ∙ a.held
    ∙ ap (λ (x : List ℕ). with_days (take k days) (days_from (k + 1) x)) (drop_all k text (omega (arith, few, past)))
    ∙ no_more (take k days) ∙ ap (λ (x : List Bool). Some x) (take_all k days (omega (arith, a.len, past))))
