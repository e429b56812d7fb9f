-- The end of the journal of a host of several desks.
use Rattle.std.proofs.Common.{◌≡◌, ℕ, List, subst, sym, ap, ◌∙◌, refl}
use Rattle.std.specs.Prelude.{None, IfSome, Option, [], false}
use Rattle.seat_nesting.specs.Nesting.{Ladders}
use Rattle.seat_journal.specs.declared.entry.Entry.{Entry}
use Rattle.seat_journal.specs.Text.{journal_text, IsJournalText}
use Rattle.seat_rules.specs.Headline.{Headline}
use Rattle.seat_rules.specs.Replaying.{replay_fault}
use Rattle.seat_disk.specs.Growing.{KeepsFront}
use Rattle.seat_disk.specs.Leaving.{Only}
use Rattle.seat_recovery.specs.OpenText.{open_text}
use Rattle.seat_rules.specs.Prefixes.{Begins}
use Rattle.seat_serving.proofs.Holding.{seen_kept}
use Rattle.seat_serving.specs.Served.{Served}
use Rattle.seat_serving.specs.declared.serving.ending.Ended.{Ended}
use Rattle.desk_answers.specs.Hosts.{Attended, IsReady}
use Rattle.desk_lines.specs.declared.desk.Standing.TheVariants.{Between}
use Rattle.desk_serving.specs.Going.{GoesOn}
use Rattle.desk_serving.proofs.Goes.{goes_same, told_ready}
use Rattle.airline_base.specs.Days.{IsCenturyDay}
use Rattle.seat_desk.specs.Loading.{IsGridOf}
use Rattle.seat_restoring.specs.Dating.{IsDated, IsEraOver}
use Rattle.seat_seal.specs.Eras.{IsDateOf}
use Rattle.seat_seal.specs.declared.beside.Beside.{Beside}
use Rattle.seat_seal.specs.declared.seal.Sealed.{Sealed as Belonging}
use Rattle.ssim_flights.specs.declared.flight.Flight.{Flight as Flown}
use Rattle.desk_talk.specs.Opening.{IsOpened}
use Rattle.desk_talk.specs.Ending.{IsEnded, IsLeftOpen}
use Rattle.desk_talk.proofs.Ended.{ended_so as talk_ended_so, left_open as talk_left_open}

module _ {D : Type 0} where
  attended : Served D → Attended D
  attended s = record { flights = []; session = 1; desk = record { today = 0; standing = Between; lines = 0; epoch = 1; is_stranger = false }; serving = s }

  -- a host that is opened is over its flights, and on its day
  pub opened_grid : (flights : List Flown) (grid : Ladders) (cap today : ℕ) (host : Attended D) → IsGridOf flights grid
      → IsOpened flights grid cap today host → IsGridOf flights host.serving.grid
  opened_grid flights grid cap today host g is = subst (IsGridOf flights) (sym is.grid_is) g

  pub opened_today : (flights : List Flown) (grid : Ladders) (cap today : ℕ) (host : Attended D) → IsCenturyDay today
      → IsOpened flights grid cap today host → IsCenturyDay host.desk.today
  opened_today flights grid cap today host day is = subst IsCenturyDay (sym is.today_is) day

  -- and the seal has that day
  pub opened_dated : (flights : List Flown) (grid : Ladders) (cap today : ℕ) (host : Attended D) (beside : Beside) (file : List ℕ) (entry : Belonging)
      → IsEraOver beside file today entry.era → IsOpened flights grid cap today host → IsDated host.desk.today entry.era
  opened_dated flights grid cap today host beside file entry over is = record {
    date = over.is_on.date;
    is_date = subst (λ (d : ℕ). IsDateOf d over.is_on.date) (sym is.today_is) over.is_on.is_date;
    today_is = over.is_on.today_is;
  }

  module _ (seen : D → Option (List ℕ)) (leaves : D → List ℕ → Type 0) (unsynced failures : D → ℕ) where
    -- the journal is that of the host that was opened
    pub ended_so : (old new s : Served D) (day : Ended) (see : Option (List ℕ)) (leave : List ℕ → Type 0) (count : ℕ)
        → GoesOn seen leaves unsynced failures old new → s ≡ new
        → Headline s.grid s.cap 8 day.journal day.receipts day.totals → day.journal ≡ s.journal
        → IfSome see (λ xs. xs ≡ journal_text s.journal) → Only (journal_text s.journal) leave → count ≡ 0
        → IsJournalText (journal_text s.journal) s.journal → replay_fault s.grid s.cap s.journal ≡ None
        → IsEnded old.grid old.cap day see leave count
    unfolding attended
    ended_so old new s day see leave count goes same headline is text disk synced readable faultless =
        talk_ended_so (attended old) (attended new) s day see leave count
        (record { flights_are = refl; session_is = refl; grid_is = goes.grid_is; cap_is = goes.cap_is }) same headline is text disk
        synced readable faultless

    -- its lines begin with those that were kept
    pub ended_front : (old new s : Served D) (journal : List Entry) → GoesOn seen leaves unsynced failures old new → s ≡ new
        → journal ≡ s.journal → Begins old.kept journal
    ended_front old new s journal goes same is =
        subst (Begins old.kept) (sym (is ∙ ap (λ (x : Served D). x.journal) same))
        (subst (Begins old.kept) goes.is_ready.kept_is goes.grows)

    pub lost_none : (old new s : Served D) (leave : List ℕ → Type 0) → GoesOn seen leaves unsynced failures old new → s ≡ new
        → KeepsFront (open_text s.kept) leave → KeepsFront (open_text old.kept) leave
    lost_none old new s leave goes same keeps =
        seen_kept old.kept new.kept leave goes.grows
        (subst (λ (x : Served D). KeepsFront (open_text x.kept) leave) same keeps)

    -- no END line was written
    pub left_open : (old new s : Served D) (tape : D) → IsReady seen leaves unsynced new → s ≡ new → tape ≡ s.tape
        → Begins old.kept new.kept → IsLeftOpen old.kept (seen tape) (leaves tape) (unsynced tape)
    unfolding attended
    left_open old new s tape ready same is front =
        talk_left_open seen leaves unsynced (attended old) (attended new) s tape ready same is front

    -- nothing was served
    pub told_at_once : (s : Served D) (tape : D) → IsReady seen leaves unsynced s → tape ≡ s.tape
        → KeepsFront (open_text s.kept) (leaves tape)
    told_at_once s tape ready is =
        subst (λ (t : D). KeepsFront (open_text s.kept) (leaves t)) (sym is)
        (told_ready seen leaves unsynced failures s s (goes_same seen leaves unsynced failures s s ready refl))

    pub left_at_once : (s : Served D) (tape : D) → IsReady seen leaves unsynced s → tape ≡ s.tape
        → IsLeftOpen s.kept (seen tape) (leaves tape) (unsynced tape)
    left_at_once s tape ready is =
        left_open s s s tape ready refl is (goes_same seen leaves unsynced failures s s ready refl).grows
