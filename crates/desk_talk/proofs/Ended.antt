-- The end of a talk, and of the journal with it.
use Rattle.std.proofs.Common.{◌≡◌, ℕ, true, false, List, subst, sym, ap, ◌∙◌}
use Rattle.std.specs.Prelude.{None, Some, IfSome, Option}
use Rattle.seat_nesting.specs.Nesting.{Ladders}
use Rattle.seat_journal.specs.declared.entry.Entry.{Entry}
use Rattle.seat_journal.specs.Text.{journal_text, IsJournalText}
use Rattle.seat_rules.specs.Headline.{Headline}
use Rattle.seat_rules.specs.Prefixes.{Begins}
use Rattle.seat_rules.specs.Replaying.{replay_fault}
use Rattle.seat_disk.specs.Growing.{KeepsFront}
use Rattle.seat_disk.specs.Leaving.{Only}
use Rattle.seat_recovery.specs.OpenText.{open_text}
use Rattle.seat_serving.proofs.Holding.{seen_kept}
use Rattle.seat_serving.specs.Served.{Served}
use Rattle.seat_serving.specs.declared.serving.ending.Ended.{Ended}
use Rattle.desk_answers.specs.Hosts.{Attended, IsReady}
use Rattle.desk_talk.specs.Ending.{IsEnded, IsLeftOpen, IsTalkedOut, IsTalkTo, IsUntoldIn, is_of_journal}
use Rattle.desk_talk.specs.Talks.{EndsUntold, IsBroken, IsSameHost, IsTalk}
use Rattle.desk_talk.specs.declared.serving.DayFault.{DayFault}
use Rattle.desk_talk.specs.declared.serving.DayFault.TheVariants.{Talk, End}
use Rattle.desk_talk.specs.declared.talk_fault.TalkFault.{TalkFault}
use Rattle.desk_talk.specs.declared.talk_fault.TalkFault.TheVariants.{Journal}

module _ {D : Type 0} where
  -- the journal is that of the host that was opened
  pub ended_so : (old new : Attended D) (s : Served D) (day : Ended) (seen : Option (List ℕ)) (leaves : List ℕ → Type 0) (unsynced : ℕ)
      → IsSameHost old new → s ≡ new.serving
      → Headline s.grid s.cap 8 day.journal day.receipts day.totals → day.journal ≡ s.journal
      → IfSome seen (λ xs. xs ≡ journal_text s.journal) → Only (journal_text s.journal) leaves → unsynced ≡ 0
      → IsJournalText (journal_text s.journal) s.journal → replay_fault s.grid s.cap s.journal ≡ None
      → IsEnded old.serving.grid old.serving.cap day seen leaves unsynced
  ended_so old new s day seen leaves unsynced host same headline is text disk synced readable faultless =
      let grid : s.grid ≡ old.serving.grid = ap (λ (x : Served D). x.grid) same ∙ host.grid_is in
      let most : s.cap ≡ old.serving.cap = ap (λ (x : Served D). x.cap) same ∙ host.cap_is in
      let none : replay_fault s.grid s.cap day.journal ≡ None = subst (λ (l : List Entry). replay_fault s.grid s.cap l ≡ None) (sym is) faultless in
      record {
        headline = subst (λ (x : Ladders × ℕ). Headline x.0 x.1 8 day.journal day.receipts day.totals) (λ i. (grid i, most i)) headline;
        text = subst (λ (l : List Entry). IfSome seen (λ xs. xs ≡ journal_text l)) (sym is) text;
        disk = subst (λ (l : List Entry). Only (journal_text l) leaves) (sym is) disk;
        synced = synced;
        readable = subst (λ (l : List Entry). IsJournalText (journal_text l) l) (sym is) readable;
        faultless = subst (λ (x : Ladders × ℕ). replay_fault x.0 x.1 day.journal ≡ None) (λ i. (grid i, most i)) none;
      }

  -- the whole talk
  pub talk_to : (old new : Attended D) (s : Served D) (a b input : Option (List ℕ)) (journal : List Entry) → s ≡ new.serving
      → journal ≡ s.journal → IfSome input (IsTalk old new a b) → IfSome input (IsTalkTo old a b journal)
  talk_to old new s a b None journal same is talk = tt
  talk_to old new s a b (Some xs) journal same is talk = record {
    new = new;
    talk = talk;
    journal_is = sym (is ∙ ap (λ (x : Served D). x.journal) same);
  }

  pub talked_out : (old new : Attended D) (a b input : Option (List ℕ)) → IfSome input (IsTalk old new a b)
      → IfSome input (IsTalkedOut old a b)
  talked_out old new a b None talk = tt
  talked_out old new a b (Some xs) talk = record { new = new; talk = talk }

  -- what was kept is at the front of what is kept
  pub kept_on : (old new : Attended D) (s : Served D) (leaves : List ℕ → Type 0) → s ≡ new.serving
      → Begins old.serving.kept new.serving.kept → KeepsFront (open_text s.kept) leaves
      → KeepsFront (open_text old.serving.kept) leaves
  kept_on old new s leaves same front keeps =
      seen_kept old.serving.kept new.serving.kept leaves front
      (subst (λ (x : Served D). KeepsFront (open_text x.kept) leaves) same keeps)

  -- a line that was heard and not told of
  pub untold_in : (new : Attended D) (s : Served D) (tape : D) → s ≡ new.serving → tape ≡ s.tape → EndsUntold new → IsUntoldIn tape
  untold_in new s tape same is untold = record {
    new = new;
    untold = untold;
    tape_is = is ∙ ap (λ (x : Served D). x.tape) same;
  }

  -- what was written of a talk that was broken off
  pub broken_left : (leaves : D → List ℕ → Type 0) (old new : Attended D) (s : Served D) (tape : D) (fault other : TalkFault) (input a b : Option (List ℕ))
      → s ≡ new.serving → tape ≡ s.tape → fault ≡ other → IfSome input (IsBroken old fault (leaves new.serving.tape) a b)
      → IfSome input (IsBroken old other (leaves tape) a b)
  broken_left leaves old new s tape fault other input a b same is fault_is broken =
      subst (λ (x : TalkFault). IfSome input (IsBroken old x (leaves tape) a b)) fault_is
      (subst (λ (x : D). IfSome input (IsBroken old fault (leaves x) a b)) (sym (is ∙ ap (λ (x : Served D). x.tape) same)) broken)

  module _ (seen : D → Option (List ℕ)) (leaves : D → List ℕ → Type 0) (unsynced : D → ℕ) where
    -- no END line was written
    pub left_open : (old new : Attended D) (s : Served D) (tape : D) → IsReady seen leaves unsynced new.serving
        → s ≡ new.serving → tape ≡ s.tape → Begins old.serving.kept new.serving.kept
        → IsLeftOpen old.serving.kept (seen tape) (leaves tape) (unsynced tape)
    left_open old new s tape ready same is front =
        subst (λ (x : D). IsLeftOpen old.serving.kept (seen x) (leaves x) (unsynced x))
        (sym (is ∙ ap (λ (x : Served D). x.tape) same))
        (record {
          journal = new.serving.journal;
          front = subst (λ (l : List Entry). Begins old.serving.kept l) ready.kept_is front;
          disk = ready.disk;
          synced = ready.synced;
        })

-- which fault of a talk
un_talk : TalkFault → DayFault → TalkFault
un_talk other (Talk fault) = fault
un_talk other (End fault) = other

pub talk_fault_is : (a b : TalkFault) → Talk a ≡ Talk b → a ≡ b
unfolding un_talk
talk_fault_is a b is = ap (un_talk a) is

-- one that is not of the journal's file
pub other_fault : (fault : TalkFault) → is_of_journal (Talk fault) ≡ false → fault ≡ Journal → ⊥
other_fault fault other is = untrue (sym (ap (λ (f : TalkFault). is_of_journal (Talk f)) is) ∙ other)
  where
    untrue : true ≡ false → ⊥
    untrue e = cc
