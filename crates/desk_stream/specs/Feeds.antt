-- A feed over an inventory with its file, and what a line of it leaves.
use Rattle.std.specs.Prelude.{◌≡◌, ◌==◌, ℕ, IfSome, List, length, None}
use Rattle.airline_base.specs.Days.{IsCenturyDay}
use Rattle.desk_calls.specs.declared.call_index.CallIndex.{CallIndex}
use Rattle.desk_lines.specs.declared.desk.Desk.{Desk}
use Rattle.desk_stream.specs.Hearing.{ahead_of, come_to, HearsBy, IsOwnStep, IsStrangeStep, IsWaiting}
use Rattle.desk_stream.specs.Leads.{lead_of}
use Rattle.desk_stream.specs.Reading.{counted, step_of}
use Rattle.desk_stream.specs.declared.hearing.Pending.{Pending}
use Rattle.desk_stream.specs.declared.reading.Reading.{Reading as Read}
use Rattle.desk_stream.specs.declared.reading.Step.{Step}
use Rattle.seat_desk.specs.Loading.{IsGridOf}
use Rattle.seat_serving.specs.Served.{Served}
use Rattle.ssim_flights.specs.declared.flight.Flight.{Flight as Flown}

-- what contracts see of it; the first desk is the manager's. What is asked for is not booked yet, and how each line is answered is not
-- told yet
pub record Feeding (D : Type 0) : Type 0 where
  pub flights : List Flown
  pub serving : Served D
  pub epoch : ℕ
  pub reading : Read
  pub desks : List Desk
  pub pending : Pending

-- the inventory is over the legs of these flights, and the feed has come so far in it
pub record IsFeed {D : Type 0} (flights served : List Flown) (serving : Served D) (reading : Read) (desks : List Desk)
    (calls : List CallIndex) (pending : Pending) : Type 0 where
  pub served_is : served ≡ flights
  pub grid_is : IsGridOf flights serving.grid
  pub today_is : IfSome reading.today IsCenturyDay
  pub desks_are : length desks ≡ 9
  pub calls_are : length calls ≡ 9
  pub waiting : IsWaiting serving pending

-- no line was heard yet
pub record IsBegun (epoch : ℕ) (reading : Read) : Type 0 where
  pub no_day : reading.today ≡ None
  pub epoch_is : reading.epoch ≡ epoch
  pub none : reading.lines ≡ 0

-- where its reading stands behind a line
abbrev pub read_behind : {D : Type 0} → Feeding D → List ℕ → Read
read_behind feed line = (step_of feed.epoch (counted feed.reading) (lead_of line)).0

-- it comes to what stands at its front
pub record IsHeard {D : Type 0} (old new : Feeding D) (line : List ℕ) : Type 0 where
  pub step : Step
  pub step_is : (new.reading, step) ≡ step_of old.epoch (counted old.reading) (lead_of line)
  pub hears : HearsBy step old.flights old.serving (new.reading.epoch == old.epoch) old.desks new.desks old.pending new.pending line

-- the line is a session's, and means a request that is none of this journal's feed
pub record IsStrangeLine {D : Type 0} (feed : Feeding D) (line : List ℕ) : Type 0 where
  pub reading : Read
  pub step : Step
  pub step_is : (reading, step) ≡ step_of feed.epoch (counted feed.reading) (lead_of line)
  pub strange : IsStrangeStep step feed.flights feed.serving (reading.epoch == feed.epoch) feed.desks feed.pending line

-- the line is the manager's, or means what is no stranger's
pub record IsOwnLine {D : Type 0} (feed : Feeding D) (line : List ℕ) : Type 0 where
  pub reading : Read
  pub step : Step
  pub step_is : (reading, step) ≡ step_of feed.epoch (counted feed.reading) (lead_of line)
  pub own : IsOwnStep step feed.flights feed.serving (reading.epoch == feed.epoch) feed.desks feed.pending line

-- the feed has come to the same lines, and the same are ahead of it: how it is cut into groups does not matter
pub record HasComeAsFar {D : Type 0} (old new : Feeding D) : Type 0 where
  pub come : come_to new.serving new.pending ≡ come_to old.serving old.pending
  pub ahead : ahead_of new.serving new.pending ≡ ahead_of old.serving old.pending

-- all but the inventory, what is asked for and how far the feed has come is the same
pub record IsSameFeed {D : Type 0} (old new : Feeding D) : Type 0 where
  pub flights_are : new.flights ≡ old.flights
  pub epoch_is : new.epoch ≡ old.epoch
  pub reading_is : new.reading ≡ old.reading
  pub desks_are : new.desks ≡ old.desks
  pub turns_are : new.pending.turns.items ≡ old.pending.turns.items
