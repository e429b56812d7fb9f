-- What a line asks for is on a flight of its own name.
use Rattle.std.proofs.Common.{◌≡◌, ℕ, suc, ◌+◌, ◌==◌, ◌&&◌, Bool, true, false, cond, nat_eq, List, [], ◌∷◌, ◌++◌, Option, Some, None, IfSome, refl, sym, ap, subst, ◌∙◌, arith}
use Rattle.std.specs.Prelude.{slice_get}
use Rattle.std.specs.Cmp.Lexicographic.{pointwise, same_text}
use Rattle.std.specs.List.{AllByRecursion}
use Rattle.std.specs.Option.{option_eq}
use Rattle.airline_base.proofs.Tests.{both_true, some_is}
use Rattle.airline_base.specs.declared.place.Place.{Place}
use Rattle.airimp_lines.specs.declared.requests.Request.{Request}
use Rattle.airimp_lines.specs.declared.segment.Segment.{Segment}
use Rattle.ssim_flights.specs.Places.{place_wanted}
use Rattle.ssim_flights.specs.declared.flight.DatedLeg.{DatedLeg}
use Rattle.ssim_flights.specs.declared.flight.Flight.{Flight as Flown}
use Rattle.seat_limits.proofs.RowIndexing.{same_letter}
use Rattle.seat_limits.specs.declared.change_row.ChangeRow.{ChangeRow}
use Rattle.seat_limits.specs.declared.change_row.Cities.{Cities}
use Rattle.seat_limits.specs.declared.change_row.RowSetting.{RowSetting}
use Rattle.seat_limits.specs.declared.change_row.RowSetting.TheVariants.{SetLimit, SetSale}
use Rattle.seat_journal.specs.Controls.{set_by}
use Rattle.seat_journal.specs.declared.entry.Command.{Command}
use Rattle.seat_journal.specs.declared.entry.Control.{Control}
use Rattle.seat_journal.specs.declared.entry.Work.{Work}
use Rattle.seat_rules.proofs.History.Faults.{nat_same}
use Rattle.seat_rules.specs.Flights.{flight_of}
use Rattle.seat_replies.specs.Changes.{is_named, on_flights, on_leg, on_legs, on_place, set_between, some_of, wanted_by}
use Rattle.desk_telling.specs.Segments.{segment_at, segment_between, segment_from, segment_on}
use Rattle.seat_replies.specs.Requests.{command_of, wanted_of}
use Rattle.seat_replies.proofs.Segments.{segments_are_flown}
use Rattle.flight_routes.specs.Shards.{name_text, shard_of}
use Rattle.shard_feeds.specs.Laws.{LinesGoByTheirFlight, RowsGoByTheirFlight, TwoShardsShareNoFlight}
use Rattle.shard_feeds.specs.Owning.{GoesTo, shard_flown, shard_for, shard_for_row, shard_of_flight}

-- ---- a place that is found

abbrev named : ℕ → Segment → ℕ
named shards s = shard_of shards (name_text s.airline s.number s.suffix)

between_named : (shards : ℕ) (c : Command) (flight : Flown) (first last : Option DatedLeg) (s : Segment)
    → segment_between c flight first last ≡ Some s → shard_flown shards (Some flight) ≡ named shards s
between_named shards c flight (Some first) (Some last) s e = ap (named shards) (some_is (segment_from c flight first last) s e)
between_named shards c flight (Some first) None s e = absurd cc
between_named shards c flight None last s e = absurd cc

at_named : (shards : ℕ) (c : Command) (p : Place) (o : Option Flown) (s : Segment) → segment_at c p o ≡ Some s
    → shard_flown shards o ≡ named shards s
at_named shards c p None s e = absurd cc
at_named shards c p (Some flight) s e = between_named shards c flight (slice_get flight.legs p.from) (slice_get flight.legs p.to) s e

found_shard : (shards : ℕ) (flights : List Flown) (q : Request) (p : Place) → place_wanted flights (wanted_of q.segment) ≡ Some p
    → shard_of_flight shards flights p.flight ≡ shard_for shards q
found_shard shards flights q p found =
    let c = command_of flights q in
    let flown : segment_on flights c (Some p) ≡ Some q.segment = ap (segment_on flights c) (sym found) ∙ segments_are_flown flights q p found in
    at_named shards c p (slice_get flights p.flight) q.segment flown

pub lines_go : LinesGoByTheirFlight
lines_go shards flights q = record { own = by (place_wanted flights (wanted_of q.segment)) refl }
  where
    by : (o : Option Place) → place_wanted flights (wanted_of q.segment) ≡ o
        → IfSome (Rattle.std.specs.Option.option_map (λ p. p.flight) o) (λ flight. shard_of_flight shards flights flight ≡ shard_for shards q)
    by None e = tt
    by (Some p) e = found_shard shards flights q p e

-- ---- a row between two cities

-- who flies between them, in whatever class
abbrev asked_by : ChangeRow → Cities → Request
asked_by row pair = record {
  locator = [];
  segment = record {
    airline = row.airline;
    number = row.number;
    suffix = row.suffix;
    class = 0;
    day = row.day;
    board = pair.board;
    off = pair.off;
    code = [];
    seats = 0;
  };
  line = 0;
}

on_goes : (shards : ℕ) (flights : List Flown) (shard flight leg : ℕ) (setting : RowSetting) → shard_of_flight shards flights flight ≡ shard
    → GoesTo shards flights shard (set_by (on_leg setting flight leg))
on_goes shards flights shard flight leg (SetLimit class limit wait) h = record { own = h }
on_goes shards flights shard flight leg (SetSale class closed) h = record { own = h }

abbrev Go : ℕ → List Flown → ℕ → List Control → Type 0
Go shards flights shard controls = AllByRecursion (λ (control : Control). GoesTo shards flights shard (set_by control)) controls

place_goes : (shards : ℕ) (flights : List Flown) (shard : ℕ) (setting : RowSetting) (o : Option Place) (controls : List Control)
    → ((p : Place) → o ≡ Some p → shard_of_flight shards flights p.flight ≡ shard) → on_place setting o ≡ Some controls
    → Go shards flights shard controls
place_goes shards flights shard setting None controls own e = absurd cc
place_goes shards flights shard setting (Some p) controls own e = by (p.from == p.to) e
  where
    by : (b : Bool) → cond b (Some (on_leg setting p.flight p.from ∷ [])) None ≡ Some controls → Go shards flights shard controls
    by true h =
        let is : on_leg setting p.flight p.from ∷ [] ≡ controls = some_is (on_leg setting p.flight p.from ∷ []) controls h in
        subst (Go shards flights shard) is (on_goes shards flights shard p.flight p.from setting (own p refl), tt)
    by false h = absurd cc

-- ---- a row without cities

go_joined : (shards : ℕ) (flights : List Flown) (shard : ℕ) (xs ys : List Control) → Go shards flights shard xs
    → Go shards flights shard ys → Go shards flights shard (xs ++ ys)
go_joined shards flights shard [] ys h k = k
go_joined shards flights shard (x ∷ xs) ys h k = (h.0, go_joined shards flights shard xs ys h.1 k)

legs_go : (shards : ℕ) (flights : List Flown) (row : ChangeRow) (flight leg : ℕ) (legs : List DatedLeg)
    → shard_of_flight shards flights flight ≡ shard_for_row shards row
    → Go shards flights (shard_for_row shards row) (on_legs row flight leg legs)
legs_go shards flights row flight leg [] h = tt
legs_go shards flights row flight leg (l ∷ legs) h =
    go_joined shards flights (shard_for_row shards row) (cond (l.day == row.day) (on_leg row.setting flight leg ∷ []) []) (on_legs row flight (leg + 1) legs)
    (by (l.day == row.day)) (legs_go shards flights row flight (leg + 1) legs h)
  where
    by : (b : Bool) → Go shards flights (shard_for_row shards row) (cond b (on_leg row.setting flight leg ∷ []) [])
    by true = (on_goes shards flights (shard_for_row shards row) flight leg row.setting h, tt)
    by false = tt

named_shard : (shards : ℕ) (row : ChangeRow) (f : Flown) → is_named row f ≡ true → shard_flown shards (Some f) ≡ shard_for_row shards row
named_shard shards row f e =
    let one = both_true (pointwise nat_eq f.airline row.airline) ((f.number == row.number) && option_eq nat_eq f.suffix row.suffix) e in
    let two = both_true (f.number == row.number) (option_eq nat_eq f.suffix row.suffix) one.1 in
    let airline : f.airline ≡ row.airline = same_text f.airline row.airline (sym one.0) in
    let number : f.number ≡ row.number = nat_same f.number row.number two.0 in
    let suffix : f.suffix ≡ row.suffix = same_letter f.suffix row.suffix two.1 in
    ap (λ (a : List ℕ). shard_of shards (name_text a f.number f.suffix)) airline
    ∙ ap (λ (n : ℕ). shard_of shards (name_text row.airline n f.suffix)) number
    ∙ ap (λ (s : Option ℕ). shard_of shards (name_text row.airline row.number s)) suffix

-- these flights are those from this number on
record AreFrom (flights : List Flown) (n : ℕ) (rest : List Flown) : Type 0 where
  each : (i : ℕ) (f : Flown) → slice_get rest i ≡ Some f → slice_get flights (n + i) ≡ Some f

flights_go : (shards : ℕ) (flights : List Flown) (row : ChangeRow) (n : ℕ) (rest : List Flown) → AreFrom flights n rest
    → Go shards flights (shard_for_row shards row) (on_flights row n rest)
flights_go shards flights row n [] are = tt
flights_go shards flights row n (f ∷ rest) are =
    go_joined shards flights (shard_for_row shards row) (cond (is_named row f) (on_legs row n 0 f.legs) []) (on_flights row (n + 1) rest)
    (by (is_named row f) refl)
    (flights_go shards flights row (n + 1) rest (record { each = λ i x there. let e : n + suc i ≡ n + 1 + i = omega arith in subst (λ (k : ℕ). slice_get flights k ≡ Some x) e (are.each (suc i) x there) }))
  where
    here : slice_get flights n ≡ Some f
    here = let e : n + 0 ≡ n = omega arith in subst (λ (k : ℕ). slice_get flights k ≡ Some f) e (are.each 0 f refl)

    by : (b : Bool) → is_named row f ≡ b → Go shards flights (shard_for_row shards row) (cond b (on_legs row n 0 f.legs) [])
    by true e = legs_go shards flights row n 0 f.legs (ap (shard_flown shards) here ∙ named_shard shards row f e)
    by false e = tt

some_are : (found controls : List Control) → some_of found ≡ Some controls → found ≡ controls
some_are [] controls e = absurd cc
some_are (c ∷ found) controls e = some_is (c ∷ found) controls e

set_goes : (shards : ℕ) (flights : List Flown) (row : ChangeRow) (cities : Option Cities) (controls : List Control)
    → set_between flights row cities ≡ Some controls → Go shards flights (shard_for_row shards row) controls
set_goes shards flights row None controls e =
    subst (Go shards flights (shard_for_row shards row)) (some_are (on_flights row 0 flights) controls e)
    (flights_go shards flights row 0 flights (record { each = λ i f there. let e : i ≡ 0 + i = omega arith in subst (λ (k : ℕ). slice_get flights k ≡ Some f) e there }))
set_goes shards flights row (Some pair) controls e =
    place_goes shards flights (shard_for_row shards row) row.setting (place_wanted flights (wanted_by row pair)) controls
    (λ p found. found_shard shards flights (asked_by row pair) p found) e

pub rows_go : RowsGoByTheirFlight
rows_go shards flights row controls e = set_goes shards flights row row.cities controls e

-- ---- two shards

goes_is : (shards : ℕ) (flights : List Flown) (a flight : ℕ) (w : Work) → GoesTo shards flights a w → flight_of w ≡ Some flight
    → shard_of_flight shards flights flight ≡ a
goes_is shards flights a flight w h e =
    subst (λ (o : Option ℕ). IfSome o (λ (f : ℕ). shard_of_flight shards flights f ≡ a)) e h.own

pub two_share_none : TwoShardsShareNoFlight
two_share_none shards flights a b flight v w h k e f =
    sym (goes_is shards flights a flight v h e) ∙ goes_is shards flights b flight w k f
