-- The lines of messages.
use Rattle.std.proofs.Common.{◌≡◌, ℕ, List, [], ◌∷◌, ◌++◌, take, refl, ap, ◌∙◌, append_assoc}
use Rattle.airline_base.specs.Days.{IsDateText, day_month}
use Rattle.airimp_lines.proofs.Replies.{day_front}
use Rattle.seat_desk.specs.FlightsDesk.{IsPut}
use Rattle.seat_lists.proofs.LiveTexts.{one_line}
use Rattle.seat_availability.specs.Lines.{IsDayPut, IsMessageLine, front_text, tail_text}
use Rattle.seat_availability.specs.declared.segments.Message.{Message}

pub day_put : (n : ℕ) (old new bytes : List ℕ) → IsDateText n bytes → new ≡ old ++ take 5 bytes → IsDayPut n old new
day_put n old new bytes d put = record {
  year = d.year;
  month = d.month;
  day = d.day;
  date = d.date;
  written = put ∙ ap (λ (l : List ℕ). old ++ l) (day_front d.day d.month _ bytes d.date.0.1.0 d.date.0.1.1 d.written);
}

three : (o a b c : List ℕ) → ((o ++ a) ++ b) ++ c ≡ o ++ (a ++ b ++ c)
three o a b c = simp append_assoc

pub message_put : (m : Message) (old a b new : List ℕ) → a ≡ old ++ front_text m.segment → IsDayPut m.segment.run.day a b → new ≡ b ++ tail_text m
    → IsPut (λ n. IsMessageLine) 0 (m ∷ []) old new
message_put m old a b new is_a day is_new =
    let line : List ℕ = front_text m.segment ++ day_month day.day day.month ++ tail_text m in
    let is_line : IsMessageLine m line = record { year = day.year; month = day.month; day = day.day; date = day.date; written = refl } in
    one_line IsMessageLine m old new line is_line
    (is_new ∙ ap (λ (l : List ℕ). l ++ tail_text m) (day.written ∙ ap (λ (l : List ℕ). l ++ day_month day.day day.month) is_a)
    ∙ three old (front_text m.segment) (day_month day.day day.month) (tail_text m))
