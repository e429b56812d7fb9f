-- Desks that have said nothing, and a feed over them.
use Rattle.std.proofs.Common.{◌≡◌, ℕ, ◌≤◌, List, length, sym, subst, ◌∙◌, ap, arith}
use Rattle.std.specs.Prelude.{All, IfSome, Option, false, replicate}
use Rattle.std.proofs.lemmas.List.Elements.{All-replicate}
use Rattle.desk_feed.specs.Progress.{IsProgress}
use Rattle.desk_feed.specs.declared.progress.Progress.{Progress}
use Rattle.desk_lines.specs.declared.desk.Desk.{Desk}
use Rattle.desk_lines.specs.declared.desk.Standing.TheVariants.{Between}
use Rattle.desk_stream.specs.Feeds.{Feeding}
use Rattle.desk_serving.specs.Serving.{IsFeedOver, IsFreshAt}
use Rattle.seat_journal.specs.declared.entry.Entry.{Entry}
use Rattle.seat_serving.specs.Served.{Served}
use Rattle.ssim_flights.specs.declared.flight.Flight.{Flight as Flown}

pub fresh : (epoch : ℕ) (desk : Desk) → desk.standing ≡ Between → desk.lines ≡ 0 → desk.epoch ≡ epoch → desk.is_stranger ≡ false
    → IsFreshAt epoch desk
fresh epoch desk stands none is own = record { standing_is = stands; lines_are = none; epoch_is = is; client_is = own }

-- each of so many
pub all_fresh : (epoch count : ℕ) (desk : Desk) (desks : List Desk) → IsFreshAt epoch desk → desks ≡ replicate count desk
    → All (IsFreshAt epoch) desks
all_fresh epoch count desk desks is same = subst (All (IsFreshAt epoch)) (sym same) (All-replicate (IsFreshAt epoch) count desk is)

-- no day was heard
pub since_begun : {D : Type 0} (flights : List Flown) (serving : Served D) (epoch count day : ℕ) (feed : Feeding D)
    → IsFeedOver flights serving epoch count feed → IfSome feed.reading.today (λ (it : ℕ). it ≤ day)
since_begun flights serving epoch count day feed over =
    subst (λ (o : Option ℕ). IfSome o (λ (it : ℕ). it ≤ day)) (sym over.begun.no_day) tt

-- the journal has the lines
pub enough : {D : Type 0} (serving s : Served D) (journal : List Entry) (progress : Progress) (count : ℕ) → s ≡ serving → journal ≡ s.journal
    → IsProgress journal progress → progress.lines ≡ count → count ≤ length serving.journal
enough {D} serving s journal progress count same is progresses lines =
    omega (arith, progresses.within, lines, ap length (is ∙ ap (λ (x : Served D). x.journal) same))
