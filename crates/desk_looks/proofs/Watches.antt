-- A look that is answered where it is read, or waits.
use Rattle.std.proofs.Common.{◌≡◌, ◌<◌, ℕ, Bool, true, List, length, inl, inr, sym, subst}
use Rattle.airimp_lines.specs.declared.look.Look.{Look as Looked}
use Rattle.desk_answers.specs.Saying.{HasHeard}
use Rattle.desk_lines.specs.declared.desk.Desk.{Desk}
use Rattle.desk_lines.specs.declared.desk.Meaning.{Meaning}
use Rattle.desk_lines.specs.declared.desk.Meaning.TheVariants.{Look}
use Rattle.desk_pipes.specs.declared.watch.Watched.{Watched}
use Rattle.desk_looks.specs.Asking.{IsUnseen}
use Rattle.desk_looks.specs.Watching.{IsHeardOnly, IsLookedOut, IsPassedWord, begins_word, is_again, IsUnanswered, IsWaitedFor, IsWatchedBy, IsWatchedLook, Looking}
use Rattle.desk_looks.specs.Windows.{Windowed}
use Rattle.desk_looks.specs.declared.question.Unseen.{Unseen}

-- less is seen than what is told
pub told_less : (old new : Windowed) (lines : ℕ) → length new.front < lines → IsUnanswered old new lines
told_less old new lines less = record { none_seen = inl less }

pub not_told : (old new : Windowed) (lines : ℕ) (why : Unseen) → IsUnseen old new why → IsUnanswered old new lines
not_told old new lines why unseen = record { none_seen = inr (why, unseen) }

-- a word and what becomes of it
pub word_heard : (old new : Looking) (today lines : ℕ) (line : List ℕ) (meaning : Meaning) (watched : Watched)
    → HasHeard (record old.desk { today = today }) new.desk line meaning → IsWatchedBy meaning old new lines watched
    → IsLookedOut old new today lines line watched
word_heard old new today lines line meaning watched heard so =
    record { meaning = meaning; has_heard = heard; watched_so = so }

-- a word that waits whatever it is
pub word_passed : (old new : Looking) (today : ℕ) (line : List ℕ) (meaning : Meaning) (awaited : Bool) → begins_word line ≡ true
    → HasHeard (record old.desk { today = today }) new.desk line meaning → awaited ≡ is_again meaning → new.window ≡ old.window
    → IsHeardOnly (begins_word line) old new today line awaited
word_passed old new today line meaning awaited is heard so window =
    subst (λ (b : Bool). IsHeardOnly b old new today line awaited) (sym is)
    (record { meaning = meaning; has_heard = heard; awaited_is = so; window_is = window })

-- the same where no look is answered
pub word_waited : (old new : Desk) (today : ℕ) (line : List ℕ) (meaning : Meaning) (awaited : Bool) → begins_word line ≡ true
    → HasHeard (record old { today = today }) new line meaning → awaited ≡ is_again meaning
    → IsWaitedFor (begins_word line) old new today line awaited
word_waited old new today line meaning awaited is heard so =
    subst (λ (b : Bool). IsWaitedFor b old new today line awaited) (sym is)
    (record { meaning = meaning; has_heard = heard; awaited_is = so })

-- a look, whose window was not used before
pub look_heard : (old mid new : Looking) (today lines : ℕ) (line : List ℕ) (look : Looked) (watched : Watched)
    → HasHeard (record old.desk { today = today }) mid.desk line (Look look) → mid.window ≡ old.window → new.desk ≡ mid.desk
    → IsWatchedLook new.flown mid.window new.window lines look watched → IsLookedOut old new today lines line watched
look_heard old mid new today lines line look watched heard window desk so =
    word_heard old new today lines line (Look look) watched
    (subst (λ (d : Desk). HasHeard (record old.desk { today = today }) d line (Look look)) (sym desk) heard)
    (subst (λ (w : Windowed). IsWatchedLook new.flown w new.window lines look watched) window so)
