-- The lines of a report, part by part.
use Rattle.std.proofs.Common.{◌≡◌, ℕ, List, [], ◌∷◌, ◌++◌, refl, sym, ap, subst, ◌∙◌, append_assoc, append-nil, decimal, Option, Some, None}
use Rattle.std.specs.Prelude.{codes}
use Rattle.airimp_lines.specs.Grammar.{IsPlainLine}
use Rattle.airimp_lines.specs.Grammar.{reply_of}
use Rattle.airimp_lines.specs.declared.segment.Segment.{Segment}
use Rattle.ssim_flights.specs.declared.flight.Flight.{Flight as Flown}
use Rattle.ssim_flights.specs.declared.flight.Wanted.{Wanted}
use Rattle.seat_desk.specs.FlightsDesk.{IsPut}
use Rattle.seat_lists.specs.Named.{status_code}
use Rattle.seat_lists.proofs.LiveTexts.{one_line}
use Rattle.seat_moving.specs.Moving.{name_of}
use Rattle.seat_rules.specs.declared.booking.Booking.{Booking}
use Rattle.carry_reports.specs.Codes.{asked_code, code_of, word_text}
use Rattle.carry_reports.specs.Lines.{IsAsked, IsAskedPut, IsFatedLine, IsNew, IsNewBy, IsNewPut, IsOld, IsOldPut, IsSegmentPut, front_text, in_class, segment_of}
use Rattle.carry_reports.specs.Numbers.{number_text}
use Rattle.carry_reports.specs.Reports.{IsReport}
use Rattle.carry_reports.specs.Sums.{sums_text}
use Rattle.carry_reports.specs.declared.fating.Asked.{Asked as AskedFor}
use Rattle.carry_reports.specs.declared.fating.Fate.{Fate}
use Rattle.carry_reports.specs.declared.fating.Fate.TheVariants.{Departed, Unserved, Unsold, Asked}
use Rattle.carry_reports.specs.declared.fating.Fated.{Fated}

-- ---- segments

pub no_segment : (name : Option Wanted) (b : Booking) (code old new : List ℕ) → name ≡ None → new ≡ old ++ 45 ∷ [] → IsSegmentPut name b code old new
no_segment name b code old new none written =
    subst (λ (n : Option Wanted). IsSegmentPut n b code old new) (sym none) (record { part = 45 ∷ []; is_segment = refl; written = written })

pub segment_put : (name : Option Wanted) (w : Wanted) (b : Booking) (s : Segment) (code old new part : List ℕ) → name ≡ Some w
    → s ≡ segment_of w b code → IsPlainLine (reply_of s s.code s.seats) part → new ≡ old ++ part → IsSegmentPut name b code old new
segment_put name w b s code old new part some same line written =
    subst (λ (n : Option Wanted). IsSegmentPut n b code old new) (sym some)
    (record { part = part; is_segment = subst (λ (t : Segment). IsPlainLine (reply_of t t.code t.seats) part) same line; written = written })

-- ---- what it was

five : (o a b c d e : List ℕ) → ((((o ++ a) ++ b) ++ c) ++ d) ++ e ≡ o ++ (a ++ b ++ c ++ d ++ e)
five o a b c d e = simp append_assoc

pub old_put : (counts : List ℕ) (olds : List Flown) (b : Booking) (n : ℕ) (locator old t1 t2 t3 t4 new code : List ℕ) (name : Option Wanted)
    → t1 ≡ old ++ number_text counts n → n ≡ b.number → t2 ≡ t1 ++ 32 ∷ [] → t3 ≡ t2 ++ locator → locator ≡ b.locator → t4 ≡ t3 ++ 32 ∷ []
    → code ≡ status_code b.status → name ≡ name_of olds b.place → IsSegmentPut name b code t4 new → IsOldPut counts olds b old new
old_put counts olds b n locator old t1 t2 t3 t4 new code name e1 number e2 e3 own e4 coded named put =
    let same : IsSegmentPut (name_of olds b.place) b (status_code b.status) t4 new =
    subst (λ (o : Option Wanted). IsSegmentPut o b (status_code b.status) t4 new) named
    (subst (λ (k : List ℕ). IsSegmentPut name b k t4 new) coded put) in
    record {
      part = number_text counts b.number ++ codes " " ++ b.locator ++ codes " " ++ same.part;
      is_old = record { segment = same.part; is_segment = same.is_segment; written = refl };
      written = rw (same.written, e4, e3, e2, e1, number, own) (five old (number_text counts b.number) (codes " ") b.locator (codes " ") same.part);
    }

-- ---- what it is

four : (o a b c d : List ℕ) → (((o ++ a) ++ b) ++ c) ++ d ≡ o ++ (a ++ b ++ c ++ d)
four o a b c d = simp append_assoc

pub asked_put : (news : List Flown) (b there : Booking) (a : AskedFor) (n : ℕ) (old t0 t1 t2 new code : List ℕ) (name : Option Wanted)
    → t0 ≡ old ++ front_text a.elsewhere → t1 ≡ t0 ++ decimal n → n ≡ a.line → t2 ≡ t1 ++ 32 ∷ [] → code ≡ asked_code b.status a
    → there ≡ in_class a.class b → name ≡ name_of news a.place → IsSegmentPut name there code t2 new → IsAskedPut news b a old new
asked_put news b there a n old t0 t1 t2 new code name e0 e1 number e2 coded is_there named put =
    let same : IsSegmentPut (name_of news a.place) (in_class a.class b) (asked_code b.status a) t2 new =
    subst (λ (x : Booking). IsSegmentPut (name_of news a.place) x (asked_code b.status a) t2 new) is_there
    (subst (λ (o : Option Wanted). IsSegmentPut o there (asked_code b.status a) t2 new) named
    (subst (λ (k : List ℕ). IsSegmentPut name there k t2 new) coded put)) in
    record {
      part = front_text a.elsewhere ++ decimal a.line ++ codes " " ++ same.part;
      is_asked = record { segment = same.part; is_segment = same.is_segment; written = refl };
      written = rw (same.written, e2, e1, e0, number) (four old (front_text a.elsewhere) (decimal a.line) (codes " ") same.part);
    }

by_fate : (news : List Flown) (f : Fated) (fate : Fate) (old new text : List ℕ) → f.fate ≡ fate
    → IsNewBy fate news f.booking (word_text (code_of f)) text → new ≡ old ++ text → IsNewPut news f old new
by_fate news f fate old new text same is written = record {
  part = text;
  is_new = subst (λ (t : Fate). IsNewBy t news f.booking (word_text (code_of f)) text) (sym same) is;
  written = written;
}

word_of : (f : Fated) (code : Option (List ℕ)) (old new : List ℕ) → code ≡ code_of f → new ≡ old ++ word_text code
    → new ≡ old ++ word_text (code_of f)
word_of f code old new same written = written ∙ ap (λ (c : Option (List ℕ)). old ++ word_text c) same

pub departed_put : (news : List Flown) (f : Fated) (code : Option (List ℕ)) (old new : List ℕ) → f.fate ≡ Departed → code ≡ code_of f
    → new ≡ old ++ word_text code → IsNewPut news f old new
departed_put news f code old new fate same written =
    by_fate news f Departed old new (word_text (code_of f)) fate refl (word_of f code old new same written)

pub unserved_put : (news : List Flown) (f : Fated) (code : Option (List ℕ)) (old new : List ℕ) → f.fate ≡ Unserved → code ≡ code_of f
    → new ≡ old ++ word_text code → IsNewPut news f old new
unserved_put news f code old new fate same written =
    by_fate news f Unserved old new (word_text (code_of f)) fate refl (word_of f code old new same written)

pub unsold_put : (news : List Flown) (f : Fated) (code : Option (List ℕ)) (old new : List ℕ) → f.fate ≡ Unsold → code ≡ code_of f
    → new ≡ old ++ word_text code → IsNewPut news f old new
unsold_put news f code old new fate same written =
    by_fate news f Unsold old new (word_text (code_of f)) fate refl (word_of f code old new same written)

pub new_put : (news : List Flown) (f : Fated) (a : AskedFor) (b : Booking) (old new : List ℕ) → f.fate ≡ Asked a → b ≡ f.booking
    → IsAskedPut news b a old new → IsNewPut news f old new
new_put news f a b old new fate same put =
    by_fate news f (Asked a) old new put.part fate (subst (λ (x : Booking). IsAsked news x a put.part) same put.is_asked) put.written

-- ---- the line

pub line_put : (counts : List ℕ) (olds news : List Flown) (f : Fated) (old t1 t2 t3 new : List ℕ) → IsOldPut counts olds f.booking old t1 → t2 ≡ t1 ++ 32 ∷ 45 ∷ 62 ∷ 32 ∷ []
    → IsNewPut news f t2 t3 → new ≡ t3 ++ 10 ∷ [] → IsPut (λ n. IsFatedLine counts olds news) 0 (f ∷ []) old new
line_put counts olds news f old t1 t2 t3 new was arrow is feed =
    let line : List ℕ = was.part ++ codes " -> " ++ is.part ++ codes "\n" in
    let is_line : IsFatedLine counts olds news f line =
    record { old = was.part; new = is.part; is_old = was.is_old; is_new = is.is_new; written = refl } in
    one_line (IsFatedLine counts olds news) f old new line is_line
    (rw (feed, is.written, arrow, was.written) (four old was.part (codes " -> ") is.part (codes "\n")))

-- ---- the whole

pub report_of : (counts : List ℕ) (olds news : List Flown) (all : List Fated) (none lines text : List ℕ) → none ≡ []
    → IsPut (λ n. IsFatedLine counts olds news) 0 all none lines → text ≡ lines ++ sums_text all → IsReport counts olds news all text
report_of counts olds news all none lines text empty put sums = record {
  lines = put.part;
  are_lines = put.is_text;
  written = sums ∙ ap (λ (l : List ℕ). l ++ sums_text all) (put.written ∙ ap (λ (l : List ℕ). l ++ put.part) empty);
}
