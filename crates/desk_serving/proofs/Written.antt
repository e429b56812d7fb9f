-- What was heard, booked and written of a feed that is broken off.
use Rattle.std.proofs.Common.{◌≡◌, ℕ, ◌≤◌, List, [], length, inl, inr, refl, ap, sym, ◌∙◌, subst, append-nil}
use Rattle.std.specs.Prelude.{Option, Some, None}
use Rattle.std.specs.Io.KnownBytes.{Consumes}
use Rattle.airline_base.specs.Noting.{TookFront}
use Rattle.desk_answers.specs.Hosts.{IsReady}
use Rattle.desk_hall.specs.Booking.{IsBehindSome}
use Rattle.desk_stream.specs.Feeds.{Feeding}
use Rattle.desk_stream.specs.Telling.{IsFeedTurn}
use Rattle.desk_stream.specs.declared.hearing.FeedFault.{FeedFault}
use Rattle.desk_stream.specs.declared.hearing.FeedFault.TheVariants as hearings
use Rattle.desk_serving.specs.Streaming.{broken_by, no_file_line, stopped_by, AreNext, Breaks, EndsBooked, EndsIn, EndsTold, Hears, HearsFront, IsAnswered, IsBooked, IsBrokenOff, IsBrokenPiece, IsBrokenTurn, IsOfTelling, IsTakenFront, Reads, Says, WantsAt}
use Rattle.desk_serving.specs.declared.fault.StreamFault.{StreamFault}
use Rattle.desk_serving.specs.declared.fault.StreamFault.TheVariants.{Input, Output, Memory, Strange, Journal, Dating}
use Rattle.desk_serving.specs.Serving.{IsFedFront, IsFeedOver, IsOfOpening}
use Rattle.desk_serving.specs.declared.fault.FedFault.{FedFault}
use Rattle.desk_serving.specs.declared.fault.FedFault.TheVariants.{Broken, End, Seal}
use Rattle.desk_serving.proofs.Hearing.{same_none}
use Rattle.seat_desk.specs.FlightsDesk.{IsText}
use Rattle.seat_desk.specs.declared.fault.DeskFault.{DeskFault}
use Rattle.ssim_flights.specs.declared.flight.Flight.{Flight as Flown}
use Rattle.seat_replies.specs.RunDesk.{at_any}
use Rattle.seat_serving.specs.Served.{IsOnDisk, Served}
use Rattle.seat_serving.specs.declared.serving.ServeFault.{ServeFault}
use Rattle.seat_serving.specs.declared.serving.ServeFault.TheVariants as serves

next_of : (piece : List ℕ) (i j : Option (List ℕ)) → Consumes i j piece → AreNext piece i
next_of piece None j took = tt
next_of piece (Some xs) None took = absurd took
next_of piece (Some xs) (Some ys) took = record { rest = ys; is = took }

none_next : (i : Option (List ℕ)) → AreNext [] i
none_next None = tt
none_next (Some xs) = record { rest = xs; is = refl }

of_opening : (b : StreamFault) → IsOfOpening (Broken b) → b ≡ Memory
of_opening Memory is = refl
of_opening Input is = absurd is
of_opening Output is = absurd is
of_opening Journal is = absurd is
of_opening (Strange line number) is = absurd is
of_opening (Dating fault) is = absurd is

same_fault : (x b : StreamFault) → Broken x ≡ Broken b → x ≡ b
same_fault x b is = cc is

module _ {D : Type 0} where
  -- of what is told the writer took a front
  pub took_front : (old mid : Feeding D) (text slice : List ℕ) (a b : Option (List ℕ)) → mid ≡ old
      → IsText (at_any (IsFeedTurn old.flights old.serving.grid old.serving.journal)) 0 old.pending.turns.items text
      → slice ≡ text → TookFront a b slice → IsTakenFront old a b
  took_front old mid text slice a b is told sliced took = record {
    text = text;
    told = told;
    took = subst (λ (l : List ℕ). TookFront a b l) sliced took;
  }

  pub ends_undated : (old : Feeding D) (fault : DeskFault) (a b : Option (List ℕ)) → TookFront a b no_file_line → EndsIn (Dating fault) old old a b
  ends_undated old fault a b took = (refl, took)

  pub ends_booked : (old new : Feeding D) (fault : ServeFault) (f : StreamFault) (a b : Option (List ℕ)) → f ≡ broken_by fault
      → EndsBooked fault old new → Says fault a b → EndsIn f old new a b
  ends_booked old new serves.Memory f a b is ends says =
      subst (λ (x : StreamFault). EndsIn x old new a b) (sym is) (inl (record { booked = ends.0; none_asked = ends.1; out_is = says }))
  ends_booked old new serves.Device f a b is ends says = subst (λ (x : StreamFault). EndsIn x old new a b) (sym is) says

  all_booked : (old mid : Feeding D) → IsBooked old mid
      → IsBehindSome old.serving.grid old.serving.journal old.pending.asked.items mid.serving.journal
  all_booked old mid booked = record {
    front = old.pending.asked.items;
    rest = [];
    parts = sym (append-nil old.pending.asked.items);
    journal_is = booked.booked;
  }

  untold : (old mid : Feeding D) (f : StreamFault) (a b : Option (List ℕ)) → IsBooked old mid → IsOfTelling f → EndsTold f mid a b
      → EndsIn f old mid a b
  untold old mid Output a b booked is ends = record { booked = booked; text = ends.text; told = ends.told; took = ends.took }
  untold old mid Memory a b booked is ends =
      inl (record { booked = all_booked old mid booked; none_asked = booked.none_asked; out_is = ends })
  untold old mid Input a b booked is ends = absurd is
  untold old mid Journal a b booked is ends = absurd is
  untold old mid (Strange line number) a b booked is ends = absurd is
  untold old mid (Dating fault) a b booked is ends = absurd is

  pub ends_told : (old mid new : Feeding D) (f : StreamFault) (a b : Option (List ℕ)) → IsBooked old mid → new ≡ mid → IsOfTelling f
      → EndsTold f mid a b → EndsIn f old new a b
  ends_told old mid new f a b booked same is ends =
      subst (λ (x : Feeding D). EndsIn f old x a b) (sym same) (untold old mid f a b booked is ends)

  -- ---- a piece

  all_heard : (old mid : Feeding D) (before piece after : List ℕ) → Hears old before piece mid after → HearsFront old before piece mid
  all_heard old mid before piece after hears = record {
    part = piece;
    rest = [];
    whole = sym (append-nil piece);
    heard = mid;
    held_is = after;
    hears = hears;
    same = record { progress_is = refl; asked_is = refl; turns_are = refl };
    same_but = same_none mid;
  }

  -- it was heard, and not answered
  pub piece_unanswered : (old mid new : Feeding D) (before piece after : List ℕ) (f : StreamFault) (a b : Option (List ℕ))
      → Hears old before piece mid after → EndsIn f mid new a b → IsBrokenPiece old new before f piece a b
  piece_unanswered old mid new before piece after f a b hears ends =
      record { last = mid; hears = all_heard old mid before piece after hears; ends = ends }

  -- a front of it was heard, and not answered
  pub front_unanswered : (old mid new : Feeding D) (before piece : List ℕ) (f : StreamFault) (a b : Option (List ℕ))
      → HearsFront old before piece mid → EndsIn f mid new a b → IsBrokenPiece old new before f piece a b
  front_unanswered old mid new before piece f a b hears ends = record { last = mid; hears = hears; ends = ends }

  answered_so : (mid new : Feeding D) (fault : FeedFault) (f : StreamFault) (a b : Option (List ℕ)) → IsAnswered mid new a b
      → (fault ≡ hearings.Memory → WantsAt mid) → f ≡ stopped_by new fault → EndsIn f mid new a b
  answered_so mid new hearings.Memory f a b answered wants is =
      subst (λ (x : StreamFault). EndsIn x mid new a b) (sym is) (inr (answered, wants refl))
  answered_so mid new hearings.Strange f a b answered wants is = subst (λ (x : StreamFault). EndsIn x mid new a b) (sym is) answered

  -- a front of it was heard and answered
  pub front_answered : (old mid new : Feeding D) (before piece : List ℕ) (fault : FeedFault) (f : StreamFault) (a b : Option (List ℕ))
      → HearsFront old before piece mid → IsAnswered mid new a b → (fault ≡ hearings.Memory → WantsAt mid) → f ≡ stopped_by new fault
      → IsBrokenPiece old new before f piece a b
  front_answered old mid new before piece fault f a b hears answered wants is =
      record { last = mid; hears = hears; ends = answered_so mid new fault f a b answered wants is }

  -- ---- a read

  pub broken_piece : (old new : Feeding D) (before piece : List ℕ) (f : StreamFault) (i j a b : Option (List ℕ)) → Consumes i j piece
      → IsBrokenPiece old new before f piece a b → IsBrokenTurn old new before f i a b
  broken_piece old new before piece f i j a b took broken =
      record { piece = piece; are_next = next_of piece i j took; broken = broken }

  -- nothing was read
  pub broken_input : (old : Feeding D) (before : List ℕ) (i a : Option (List ℕ)) → IsBrokenTurn old old before Input i a a
  broken_input old before i a = record {
    piece = [];
    are_next = none_next i;
    broken = record { last = old; hears = all_heard old old before [] before (refl, refl); ends = (refl, refl) };
  }

  -- ---- a feed

  pub broken_off : (old mid new : Feeding D) (none between : List ℕ) (f : StreamFault) (i j a b c : Option (List ℕ)) → none ≡ []
      → Reads old none mid between i j a b → IsBrokenTurn mid new between f j b c → IsBrokenOff old new [] f i a c
  broken_off old mid new none between f i j a b c empty reads broken = record {
    mid = mid;
    between = between;
    in_mid = j;
    out_mid = b;
    reads = subst (λ (l : List ℕ). Reads old l mid between i j a b) empty reads;
    broken = broken;
  }

  -- the feed was over
  pub no_stream : (flights : List Flown) (serving : Served D) (epoch count : ℕ) (e : ServeFault) (i a c seen : Option (List ℕ))
      (leaves : List ℕ → Type 0) → (b : StreamFault) → End e ≡ Broken b → IsFedFront flights serving epoch count b i a c seen leaves
  no_stream flights serving epoch count e i a c seen leaves b is = absurd (cc is)

  pub no_seal_written : (flights : List Flown) (serving : Served D) (epoch count : ℕ) (e : DeskFault) (i a c seen : Option (List ℕ))
      (leaves : List ℕ → Type 0) → (b : StreamFault) → Seal e ≡ Broken b → IsFedFront flights serving epoch count b i a c seen leaves
  no_seal_written flights serving epoch count e i a c seen leaves b is = absurd (cc is)

  module _ (seen : D → Option (List ℕ)) (leaves : D → List ℕ → Type 0) (unsynced failures : D → ℕ) where
    -- some of what was asked for is booked
    pub ends_unbooked : (old new : Feeding D) (fault : ServeFault) → new.pending.asked.items ≡ []
        → (fault ≡ serves.Memory → IsReady seen leaves unsynced new.serving
        × IsBehindSome old.serving.grid old.serving.journal old.pending.asked.items new.serving.journal) → EndsBooked fault old new
    ends_unbooked old new serves.Memory none memory = ((memory refl).1, none)
    ends_unbooked old new serves.Device none memory = tt

    -- there was no feed yet
    pub nothing_written : (flights : List Flown) (serving : Served D) (epoch count : ℕ) (f : FedFault) (tape : D) (i a : Option (List ℕ))
        → IsReady seen leaves unsynced serving → tape ≡ serving.tape → IsOfOpening f
        → (f ≡ Broken Memory → count ≤ length serving.journal)
        → (b : StreamFault) → f ≡ Broken b → IsFedFront flights serving epoch count b i a a (seen tape) (leaves tape)
    nothing_written flights serving epoch count f tape i a ready same of enough b is =
        let memory : b ≡ Memory = of_opening b (subst IsOfOpening is of) in
        inl (record {
          memory = memory;
          enough = enough (is ∙ ap Broken memory);
          out_is = refl;
          left = subst (λ (t : D). IsOnDisk serving.journal (seen t) (leaves t)) (sym same) ready.disk;
        })

    -- it was broken off
    pub fed_off : (flights : List Flown) (serving : Served D) (epoch count : ℕ) (old new : Feeding D) (before s : Served D) (x : StreamFault) (tape : D)
        (i a c : Option (List ℕ)) → IsFeedOver flights serving epoch count old → IsBrokenOff old new [] x i a c
        → Breaks seen leaves unsynced failures before new.serving x → s ≡ new.serving → tape ≡ s.tape
        → (b : StreamFault) → Broken x ≡ Broken b → IsFedFront flights serving epoch count b i a c (seen tape) (leaves tape)
    fed_off flights serving epoch count old new before s x tape i a c over broken breaks same is b fault =
        subst (λ (f : StreamFault). IsFedFront flights serving epoch count f i a c (seen tape) (leaves tape)) (same_fault x b fault)
        (inr (record {
          old = old;
          new = new;
          over = over;
          broken = broken;
          left = λ other. subst (λ (t : D). IsOnDisk new.serving.journal (seen t) (leaves t)) (sym (is ∙ ap (λ (y : Served D). y.tape) same))
              (breaks.still other).disk;
        }))
