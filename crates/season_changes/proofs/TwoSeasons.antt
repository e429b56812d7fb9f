-- What holds of the question about two seasons.
use Rattle.std.proofs.Common.{◌≡◌, ◌+◌, ◌-◌, ℕ, Bool, List, sym, subst, ◌∙◌}
use Rattle.std.specs.Prelude.{max, min}
use Rattle.ssim_flights.specs.declared.flight.Flight.{Flight as Flown}
use Rattle.seat_nesting.specs.Nesting.{Ladders}
use Rattle.seat_desk.specs.Loading.{Bytes, IsLoadedOf}
use Rattle.seat_desk.specs.declared.inputs.Inputs.{Inputs}
use Rattle.season_changes.specs.Seasons.{IsAbout}
use Rattle.season_changes.specs.declared.comparing.Comparison.{Comparison}

pub about_both : {S L : Type 0} (set : Bytes S) (limits : Bytes L) (from to : Inputs S L) (has_journal : Bool) (holds : Comparison → Type 0)
    (asked : Comparison) (flights : List Flown) (grid : Ladders) (first last : ℕ) → IsLoadedOf set limits to flights grid
    → asked.flights.now ≡ flights → asked.grid.now ≡ grid → asked.first ≡ first → asked.last ≡ last → asked.has_journal ≡ has_journal
    → first ≡ max from.first to.first → last ≡ min (from.first + from.days - 1) (to.first + to.days - 1) → holds asked
    → IsAbout set limits from to has_journal holds
about_both set limits from to has_journal holds asked flights grid first last loaded f g a b j first_is last_is held = record {
  asked = asked;
  loaded =
      subst (λ (fs : List Flown). IsLoadedOf set limits to fs asked.grid.now) (sym f)
      (subst (λ (l : Ladders). IsLoadedOf set limits to flights l) (sym g) loaded);
  days = record { first_is = a ∙ first_is; last_is = b ∙ last_is };
  shows = j;
  answered = held;
}
