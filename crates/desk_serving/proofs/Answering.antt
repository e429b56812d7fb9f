-- What was heard, booked and told.
use Rattle.std.proofs.Common.{◌≡◌, ℕ, ◌≤◌, List, [], ap, sym, ◌∙◌, subst}
use Rattle.std.specs.Prelude.{IfSome, Option}
use Rattle.std.specs.Io.KnownBytes.{Appends}
use Rattle.desk_answers.specs.Hosts.{IsReady}
use Rattle.desk_serving.specs.Going.{GoesOn}
use Rattle.desk_stream.specs.Feeds.{Feeding, HasComeAsFar, IsSameFeed}
use Rattle.desk_stream.specs.Telling.{IsFeedTurn}
use Rattle.desk_stream.specs.declared.reading.Reading.{Reading as Read}
use Rattle.desk_serving.specs.Streaming.{IsAnswered, IsBooked, IsToldTo, Lived}
use Rattle.desk_serving.proofs.Hearing.{lived_far, lived_on, lived_stays}
use Rattle.seat_desk.specs.FlightsDesk.{IsText}
use Rattle.seat_replies.specs.RunDesk.{at_any}
use Rattle.seat_rules.specs.Prefixes.{Begins}
use Rattle.seat_serving.specs.Answering.{behind}

module _ {D : Type 0} where
  pub is_booked : (old new : Feeding D) → new.serving.journal ≡ behind old.serving.grid old.serving.journal old.pending.asked.items
      → new.pending.asked.items ≡ [] → HasComeAsFar old new → new.pending.progress ≡ old.pending.progress → IsSameFeed old new
      → (new.serving.grid ≡ old.serving.grid) × (new.serving.cap ≡ old.serving.cap) → IsBooked old new
  is_booked old new booked none far progress same limits = record {
    booked = booked;
    none_asked = none;
    far = far;
    progress_is = progress;
    same = same;
    grid_is = limits.0;
    cap_is = limits.1;
  }

  pub same_serving : (old new : Feeding D) → new ≡ old → new.serving ≡ old.serving
  same_serving old new is = ap (λ (f : Feeding D). f.serving) is

  pub told_serving : (old mid new : Feeding D) → mid ≡ old
      → (new.serving ≡ mid.serving) × (new.pending.asked.items ≡ mid.pending.asked.items) × (new.pending.progress ≡ mid.pending.progress)
      × (new.reading ≡ mid.reading) × (new.desks ≡ mid.desks) × (new.flights ≡ mid.flights) × (new.epoch ≡ mid.epoch)
      → new.serving ≡ old.serving
  told_serving old mid new is same = same.0 ∙ same_serving old mid is

  pub is_told_to : (old mid new : Feeding D) (text slice : List ℕ) (a b : Option (List ℕ)) → mid ≡ old
      → IsText (at_any (IsFeedTurn old.flights old.serving.grid old.serving.journal)) 0 old.pending.turns.items text
      → slice ≡ text → Appends a b slice → new.pending.turns.items ≡ []
      → (new.serving ≡ mid.serving) × (new.pending.asked.items ≡ mid.pending.asked.items) × (new.pending.progress ≡ mid.pending.progress)
      × (new.reading ≡ mid.reading) × (new.desks ≡ mid.desks) × (new.flights ≡ mid.flights) × (new.epoch ≡ mid.epoch)
      → IsToldTo old new a b
  is_told_to old mid new text slice a b is told sliced put none same = record {
    text = text;
    told = told;
    written = subst (λ (l : List ℕ). Appends a b l) sliced put;
    none_told = none;
    serving_is = same.0 ∙ ap (λ (f : Feeding D). f.serving) is;
    asked_is = same.1 ∙ ap (λ (f : Feeding D). f.pending.asked.items) is;
    progress_is = same.2 ∙ ap (λ (f : Feeding D). f.pending.progress) is;
    reading_is = same.3 ∙ ap (λ (f : Feeding D). f.reading) is;
    desks_are = same.4 ∙ ap (λ (f : Feeding D). f.desks) is;
    flights_are = same.5 ∙ ap (λ (f : Feeding D). f.flights) is;
    epoch_is = same.6 ∙ ap (λ (f : Feeding D). f.epoch) is;
  }

  pub is_answered : (old mid new : Feeding D) (a b : Option (List ℕ)) → IsBooked old mid → IsToldTo mid new a b → IsAnswered old new a b
  is_answered old mid new a b booked told = record { mid = mid; booked = booked; told = told }

  -- the feed has come as far
  pub lived_answered : (old mid new : Feeding D) (a b : Option (List ℕ)) → IsBooked old mid → IsToldTo mid new a b → Lived old new
  lived_answered old mid new a b booked told =
      lived_on old mid new (lived_far old mid booked.far booked.grid_is booked.cap_is booked.same.flights_are)
      (lived_stays mid new told.progress_is told.asked_is told.serving_is told.flights_are)

  -- the day that it is on is sealed
  pub since_booked : (old mid : Feeding D) (today : Option ℕ) (day : ℕ) → IsBooked old mid → today ≡ old.reading.today
      → IfSome today (λ (it : ℕ). it ≤ day) → IfSome mid.reading.today (λ (it : ℕ). it ≤ day)
  since_booked old mid today day booked is since =
      subst (λ (o : Option ℕ). IfSome o (λ (it : ℕ). it ≤ day)) (is ∙ ap (λ (r : Read). r.today) (sym booked.same.reading_is)) since

  module _ (seen : D → Option (List ℕ)) (leaves : D → List ℕ → Type 0) (unsynced failures : D → ℕ) where
    pub goes_booked : (old new : Feeding D) → IsReady seen leaves unsynced new.serving → Begins old.serving.kept new.serving.kept
        → failures new.serving.tape ≡ failures old.serving.tape
        → (new.serving.grid ≡ old.serving.grid) × (new.serving.cap ≡ old.serving.cap)
        → GoesOn seen leaves unsynced failures old.serving new.serving
    goes_booked old new ready grows counted limits = record {
      is_ready = ready;
      grows = grows;
      counted = counted;
      grid_is = limits.0;
      cap_is = limits.1;
    }
