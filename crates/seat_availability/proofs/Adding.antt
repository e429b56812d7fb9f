-- The messages of segments, part by part.
use Rattle.std.proofs.Common.{◌≡◌, ℕ, ◌+◌, ◌<◌, ◌≤◌, Bool, true, false, List, [], ◌∷◌, ◌++◌, length, map, drop, get_or, arith, if◌then◌else◌, sym, ap, ◌∙◌, append_assoc}
use Rattle.std.proofs.Math.ListN.{drop_of_length-le}
use Rattle.std.proofs.lemmas.List.{append-nil, map-append}
use Rattle.airline_base.specs.declared.place.Place.{Place}
use Rattle.ssim_flights.proofs.Walks.{drop_step}
use Rattle.ssim_flights.specs.declared.flight.DatedLeg.{DatedLeg}
use Rattle.ssim_flights.specs.declared.flight.Flight.{Flight as Flown}
use Rattle.seat_nesting.specs.Nesting.{Ladders, Steps, ladder_at}
use Rattle.seat_questions.specs.Rooms.{is_shown}
use Rattle.seat_questions.specs.declared.rooms.RoomsOf.{RoomsOf}
use Rattle.seat_lists.specs.Picking.{keeps_flight}
use Rattle.seat_availability.specs.Messages.{each_from, rooms_asked, segment_of, segments_of_flight, segments_of_legs, segments_of_run}
use Rattle.seat_availability.specs.declared.segments.Asked.{Asked}
use Rattle.seat_availability.specs.declared.segments.Message.{Message}
use Rattle.seat_availability.specs.declared.segments.Segment.{Segment}

module _ {A B C : Type 0} (f : B → C) where
  -- the part of one item more
  pub part_more : (part : ℕ → A → List B) (k next i : ℕ) (xs : List A) (x : A) (mid new whole : List C)
      → mid ++ map f (each_from part k (drop i xs)) ≡ whole → i < length xs → x ≡ get_or xs i x
      → new ≡ mid ++ map f (part k x) → next ≡ k + 1 → new ++ map f (each_from part next (drop (i + 1) xs)) ≡ whole
  part_more part k next i xs x mid new whole so_far inside is put is_next =
      let rest : drop i xs ≡ x ∷ drop (i + 1) xs = drop_step xs i x inside is in
      ap (λ (l : List C). l ++ map f (each_from part next (drop (i + 1) xs))) put
      ∙ append_assoc mid (map f (part k x)) (map f (each_from part next (drop (i + 1) xs)))
      ∙ ap (λ (n : ℕ). mid ++ (map f (part k x) ++ map f (each_from part n (drop (i + 1) xs)))) is_next
      ∙ ap (λ (l : List C). mid ++ l) (sym (map-append f (part k x) (each_from part (k + 1) (drop (i + 1) xs))))
      ∙ ap (λ (l : List A). mid ++ map f (each_from part k l)) (sym rest)
      ∙ so_far

  pub parts_whole : (part : ℕ → A → List B) (k i count : ℕ) (xs : List A) (all whole : List C)
      → all ++ map f (each_from part k (drop i xs)) ≡ whole → count ≡ length xs → count ≤ i → all ≡ whole
  parts_whole part k i count xs all whole so_far counted over =
      let past : length xs ≤ i = omega (arith, counted, over) in
      sym (append-nil all) ∙ ap (λ (l : List A). all ++ map f (each_from part k l)) (sym (drop_of_length-le xs past)) ∙ so_far

  -- one item more, of which each gives one
  pub one_more : (g : A → B) (i : ℕ) (xs : List A) (x : A) (b : B) (c : C) (mid new whole : List C)
      → mid ++ map f (map g (drop i xs)) ≡ whole → i < length xs → x ≡ get_or xs i x
      → b ≡ g x → c ≡ f b → new ≡ mid ++ c ∷ [] → new ++ map f (map g (drop (i + 1) xs)) ≡ whole
  one_more g i xs x b c mid new whole so_far inside is is_b is_c put =
      let rest : drop i xs ≡ x ∷ drop (i + 1) xs = drop_step xs i x inside is in
      ap (λ (l : List C). l ++ map f (map g (drop (i + 1) xs))) (put ∙ ap (λ (y : C). mid ++ y ∷ []) (is_c ∙ ap f is_b))
      ∙ append_assoc mid (f (g x) ∷ []) (map f (map g (drop (i + 1) xs)))
      ∙ ap (λ (l : List A). mid ++ map f (map g l)) (sym rest)
      ∙ so_far

  pub each_whole : (g : A → B) (i : ℕ) (xs : List A) (all whole : List C)
      → all ++ map f (map g (drop i xs)) ≡ whole → length xs ≤ i → all ≡ whole
  each_whole g i xs all whole so_far over =
      sym (append-nil all) ∙ ap (λ (l : List A). all ++ map f (map g l)) (sym (drop_of_length-le xs over)) ∙ so_far

-- ---- flights

pub flight_left : (f : Segment → Message) (flights : List Flown) (asked : Asked) (grid : Ladders) (i : ℕ) (flight : Flown) (all : List Message)
    → keeps_flight asked.flight flight ≡ false → all ≡ all ++ map f (segments_of_flight flights asked grid i flight)
flight_left f flights asked grid i flight all e =
    sym (append-nil all) ∙ ap (λ (b : Bool). all ++ map f (if b then segments_of_legs flights asked grid i flight else [])) (sym e)

pub flight_kept : (f : Segment → Message) (flights : List Flown) (asked : Asked) (grid : Ladders) (i : ℕ) (flight : Flown) (old new : List Message)
    → keeps_flight asked.flight flight ≡ true → new ≡ old ++ map f (segments_of_legs flights asked grid i flight)
    → new ≡ old ++ map f (segments_of_flight flights asked grid i flight)
flight_kept f flights asked grid i flight old new e put =
    put ∙ ap (λ (b : Bool). old ++ map f (if b then segments_of_legs flights asked grid i flight else [])) (sym e)

-- ---- places

pub run_left : (f : Segment → Message) (flights : List Flown) (asked : Asked) (grid : Ladders) (flight : Flown) (place : Place) (run : DatedLeg)
    (rooms : RoomsOf) (shown : Bool) (all : List Message) → rooms ≡ rooms_asked asked → shown ≡ is_shown flights rooms flight place run
    → shown ≡ false → all ≡ all ++ map f (segments_of_run flights asked grid flight place run)
run_left f flights asked grid flight place run rooms shown all is_rooms is none =
    sym (append-nil all)
    ∙ ap (λ (b : Bool). all ++ map f (if b then map (segment_of flight place run) (ladder_at grid place.flight place.from) else []))
    (sym none ∙ is ∙ ap (λ (r : RoomsOf). is_shown flights r flight place run) is_rooms)

pub run_kept : (f : Segment → Message) (flights : List Flown) (asked : Asked) (grid : Ladders) (flight : Flown) (place : Place) (run : DatedLeg)
    (rooms : RoomsOf) (shown : Bool) (steps : Steps) (old new : List Message) → rooms ≡ rooms_asked asked
    → shown ≡ is_shown flights rooms flight place run → shown ≡ true → steps ≡ ladder_at grid place.flight place.from
    → new ≡ old ++ map f (map (segment_of flight place run) steps) → new ≡ old ++ map f (segments_of_run flights asked grid flight place run)
run_kept f flights asked grid flight place run rooms shown steps old new is_rooms is some is_steps put =
    put ∙ ap (λ (l : Steps). old ++ map f (map (segment_of flight place run) l)) is_steps
    ∙ ap (λ (b : Bool). old ++ map f (if b then map (segment_of flight place run) (ladder_at grid place.flight place.from) else []))
    (sym some ∙ is ∙ ap (λ (r : RoomsOf). is_shown flights r flight place run) is_rooms)
