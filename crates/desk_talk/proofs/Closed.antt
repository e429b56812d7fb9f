-- The seal of a journal behind the talk with a desk.
use Rattle.std.proofs.Common.{◌≡◌, ◌⊎◌, inl, inr, ℕ, ◌≤◌, arith, List, ◌++◌, length, ap, sym, subst, ◌∙◌, append_assoc}
use Rattle.std.specs.Prelude.{IfSome, Option}
use Rattle.seat_nesting.specs.Nesting.{Ladders}
use Rattle.seat_journal.specs.declared.entry.Entry.{Entry}
use Rattle.seat_journal.specs.Text.{end_text, journal_text}
use Rattle.seat_rules.specs.Prefixes.{Begins}
use Rattle.seat_disk.specs.Growing.{HasFront, KeepsFront}
use Rattle.seat_recovery.specs.OpenText.{lines_text, open_text}
use Rattle.seat_recovery.proofs.Fronts.{open_join}
use Rattle.seat_recovery.proofs.Keeping.{open_is}
use Rattle.seat_sealing.specs.Pairs.{HasEntry, NoneDenied}
use Rattle.seat_serving.specs.declared.serving.ending.Ended.{Ended}
use Rattle.seat_seal.specs.declared.beside.Basis.{Basis}
use Rattle.seat_seal.specs.declared.run.Run.{Run}
use Rattle.seat_desk.specs.AuditDesk.{most_lines}
use Rattle.seat_restoring.specs.Serving.{IsNoEnd, NamesAll, NamesToo}
use Rattle.seat_restoring.proofs.Serving.{has_front, names_front}
use Rattle.seat_desk.specs.declared.fault.DeskFault.{DeskFault}
use Rattle.seat_desk.specs.declared.fault.DeskFault.TheVariants.{TooLarge}
use Rattle.desk_answers.specs.Hosts.{Attended}
use Rattle.desk_talk.specs.Closing.{IsEndedUnsealed, IsTalkUnsealed}
use Rattle.desk_talk.specs.Ending.{IsEnded, IsTalkTo}

-- an ended journal begins with the lines that it began with
ended_front : (kept lines : List Entry) → Begins kept lines → HasFront (open_text kept) (journal_text lines)
ended_front kept lines begins =
    let text : journal_text lines ≡ open_text kept ++ (lines_text begins.rest ++ end_text (length lines)) =
    open_is lines ∙ ap (λ (l : List Entry). open_text l ++ end_text (length lines)) begins.is
    ∙ ap (λ (t : List ℕ). t ++ end_text (length lines)) (open_join kept begins.rest)
    ∙ append_assoc (open_text kept) (lines_text begins.rest) (end_text (length lines)) in
    subst (HasFront (open_text kept)) (sym text) (has_front (open_text kept) (lines_text begins.rest ++ end_text (length lines)))

module _ (kept : List Entry) (seals_old : List ℕ → Type 0) (names : NamesAll kept seals_old) where
  -- what begins with the lines that were kept is named by the seal that stands
  pub still_named : (journals : List ℕ → Type 0) → KeepsFront (open_text kept) journals → NoneDenied journals seals_old
  still_named journals front = record {
    each = λ c s left stands. names_front s (open_text kept) c (names.each s stands) (front c left);
  }

  -- and so is the ended journal, by that one and by the one that takes its place
  pub ended_named : (grid : Ladders) (cap : ℕ) (ended : Ended) (seen : Option (List ℕ)) (journals seals_new : List ℕ → Type 0) (unsynced : ℕ)
      → Begins kept ended.journal → IsEnded grid cap ended seen journals unsynced
      → NamesToo (journal_text ended.journal) seals_old seals_new → NoneDenied journals seals_new
  ended_named grid cap ended seen journals seals_new unsynced begins is left = record {
    each = λ c s stood stands. subst (HasEntry s) (sym (is.disk c stood)) (pick s (left.each s stands));
  }
    where
      pick : (s : List ℕ) → seals_old s ⊎ HasEntry s (journal_text ended.journal) → HasEntry s (journal_text ended.journal)
      pick s (inl before) = names_front s (open_text kept) (journal_text ended.journal) (names.each s before) (ended_front kept ended.journal begins)
      pick s (inr has) = has

-- whatever is left of it begins with what was kept
pub ended_told : (kept : List Entry) (grid : Ladders) (cap : ℕ) (ended : Ended) (seen : Option (List ℕ)) (journals : List ℕ → Type 0)
    (unsynced : ℕ) → Begins kept ended.journal → IsEnded grid cap ended seen journals unsynced → KeepsFront (open_text kept) journals
ended_told kept grid cap ended seen journals unsynced begins is =
    λ c left. subst (HasFront (open_text kept)) (sym (is.disk c left)) (ended_front kept ended.journal begins)

pub ended_unsealed : (kept : List Entry) (grid : Ladders) (cap : ℕ) (ended : Ended) (seen : Option (List ℕ)) (leaves : List ℕ → Type 0)
    (unsynced : ℕ) → Begins kept ended.journal → IsEnded grid cap ended seen leaves unsynced → IsEndedUnsealed kept seen leaves unsynced
ended_unsealed kept grid cap ended seen leaves unsynced begins is = record {
  journal = ended.journal;
  front = begins;
  text = is.text;
  disk = is.disk;
  synced = is.synced;
}

-- and the talk was over
pub talk_unsealed : {D : Type 0} (old : Attended D) (basis : Basis) (runs : List Run) (fault : DeskFault) (input out_old out_new : Option (List ℕ))
    (grid : Ladders) (cap : ℕ) (ended : Ended) (seen : Option (List ℕ)) (leaves : List ℕ → Type 0)
    (unsynced : ℕ) → Begins old.serving.kept ended.journal → IsEnded grid cap ended seen leaves unsynced
    → IfSome input (IsTalkTo old out_old out_new ended.journal) → (fault ≡ TooLarge → IsNoEnd basis runs ended.journal)
    → IsTalkUnsealed old basis runs fault input out_old out_new seen leaves unsynced
unfolding ended_unsealed
talk_unsealed {D} old basis runs fault input out_old out_new grid cap ended seen leaves unsynced begins is talk_over no_end = record {
  over = ended_unsealed old.serving.kept grid cap ended seen leaves unsynced begins is;
  talk = talk_over;
  large = no_end;
}

pub few_ended : (grid : Ladders) (cap : ℕ) (ended : Ended) (seen : Option (List ℕ)) (leaves : List ℕ → Type 0) (unsynced : ℕ)
    → IsEnded grid cap ended seen leaves unsynced → cap ≡ most_lines → length ended.journal ≤ most_lines
few_ended grid cap ended seen leaves unsynced is most = omega (arith, is.headline.capped, most)
