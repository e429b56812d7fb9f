-- A refused expansion says why, and that there are no flights.
use Rattle.std.proofs.Common.{◌≡◌, ◌≢◌, ℕ, List, Option, Some, None, ⊎_elim, refl, sym, ap, ◌∙◌, subst, ◌≤◌, length}
use Rattle.ssim_records.specs.SetText.{IsDataSet}
use Rattle.ssim_records.specs.declared.set.DataSet.{DataSet}
use Rattle.ssim_records.proofs.SetLaws.{one_data_set}
use Rattle.ssim_flights.specs.Flown.{IsRefusal, memory_fault}
use Rattle.ssim_flights.specs.declared.fault.FlightFault.{FlightFault}
use Rattle.ssim_flights.specs.declared.fault.FlightKind.{FlightKind}
use Rattle.ssim_flights.specs.declared.fault.FlightKind.TheVariants as flight_kinds
use Rattle.seat_desk.specs.CheckDesk.{IsRefusedSet, most_set_bytes, most_records}
use Rattle.seat_desk.specs.FlightsDesk.{HasNoSchedule, IsUnscheduled, expansion_fault, expansion_fault_of, flights_fault}
use Rattle.seat_desk.specs.declared.fault.DeskFault.{DeskFault}
use Rattle.seat_desk.specs.declared.fault.DeskFault.TheVariants.{Memory, Set}

-- bytes that are no data set have no flights
no_set : (first days : ℕ) (bytes : List ℕ) → ((set : DataSet) → IsDataSet most_records bytes set → ⊥)
    → HasNoSchedule first days bytes
no_set first days bytes none flights s = none s.set s.is_set

of_set : (first days : ℕ) (bytes : List ℕ) (fault : DeskFault) → IsRefusedSet fault bytes
    → IsUnscheduled first days fault bytes
of_set first days bytes (Set fault) refused = record { within = refused.within; refused = refused; none = no_set first days bytes refused.none }
of_set first days bytes _ refused = absurd refused

pub refused_set : (first days : ℕ) (bytes : List ℕ) (fault : DeskFault) → (fault ≢ Memory → IsRefusedSet fault bytes)
    → fault ≢ Memory → IsUnscheduled first days fault bytes
refused_set first days bytes fault refused not = of_set first days bytes fault (refused not)

-- nor has a data set with a fault
faulty : (first days : ℕ) (bytes : List ℕ) (set : DataSet) (fault : FlightFault) → IsDataSet most_records bytes set
    → flights_fault set first days ≡ Some fault → HasNoSchedule first days bytes
faulty first days bytes set fault is wrong flights s =
    let same : s.set ≡ set = one_data_set most_records most_records bytes s.set set s.is_set is in
    let right : flights_fault set first days ≡ None =
    subst (λ (t : DataSet). flights_fault t first days ≡ None) same s.right in
    let both : Some fault ≡ None = sym wrong ∙ right in
    cc

found : (fault : FlightFault) (first : Option FlightFault) → fault.kind ≢ flight_kinds.Memory → IsRefusal fault first
    → first ≡ Some fault
found fault first not refused =
    ⊎_elim (λ (m : fault ≡ memory_fault). absurd (not (ap (λ (f : FlightFault). f.kind) m))) (λ (s : first ≡ Some fault). s) refused

cases : (first days : ℕ) (bytes : List ℕ) (set : DataSet) (kind : FlightKind) (fault : FlightFault)
    → length bytes ≤ most_set_bytes → IsDataSet most_records bytes set
    → (kind ≢ flight_kinds.Memory → flights_fault set first days ≡ Some fault) → expansion_fault_of kind fault ≢ Memory
    → IsUnscheduled first days (expansion_fault_of kind fault) bytes
cases first days bytes set flight_kinds.Memory fault within is first_is not = absurd (not refl)
cases first days bytes set kind fault within is first_is not =
    let wrong : flights_fault set first days ≡ Some fault = first_is (λ e. cc) in
    record { within = within; refused = record { set = set; is_set = is; wrong = wrong }; none = faulty first days bytes set fault is wrong }

pub refused_expansion : (first days : ℕ) (bytes : List ℕ) (set : DataSet) (fault : FlightFault)
    → length bytes ≤ most_set_bytes → IsDataSet most_records bytes set
    → IsRefusal fault (flights_fault set first days) → expansion_fault fault ≢ Memory
    → IsUnscheduled first days (expansion_fault fault) bytes
refused_expansion first days bytes set fault within is refused =
    cases first days bytes set fault.kind fault within is (λ not. found fault (flights_fault set first days) not refused)
