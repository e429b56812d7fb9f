-- Lines of hosts that have different flights are legal together.
use Rattle.std.proofs.Common.{◌≡◌, ◌≢◌, ◌==◌, ℕ, suc, ◌+◌, ◌-◌, Bool, true, false, List, [], ◌∷◌, ◌++◌, filter, length, map, Option, Some, None, arith, refl, ap, sym, subst, ◌∙◌, append_assoc, length-append}
use Rattle.std.proofs.lemmas.Bool.Decides.{nat_tests}
use Rattle.std.proofs.lemmas.List.{append-nil, map-append}
use Rattle.std.proofs.lemmas.List.Elements.{filter-append}
use Rattle.seat_rules.proofs.Common.{Ladders, legs_of, Advice, Entry, State, Outcome, state_of, answer, replay, AgreeOn, is_on}
use Rattle.seat_rules.specs.declared.booking.Booking.{Booking}
use Rattle.seat_rules.specs.Flights.{advices_anew, flight_of, line_anew}
use Rattle.seat_rules.specs.Journal.{IsNext, IsLegal}
use Rattle.seat_rules.specs.Replaying.{MayCome}
use Rattle.seat_rules.proofs.Flight.View.{view}
use Rattle.seat_rules.proofs.Flight.Seen.{IsSeen, answer_over, answer_off, limits_off, advices_on}
use Rattle.seat_rules.proofs.History.Faults.{nat_same}
use Rattle.seat_rules.proofs.History.Legal.{legal_nil, legal_push}
use Rattle.seat_rules.proofs.History.Lines.{replay_next}
use Rattle.seat_parts.specs.OwnLines.{of_flight, IsAnswered}
use Rattle.seat_parts.specs.ByFlight.{IsUnserved}
use Rattle.seat_parts.proofs.Flights.{on_its_flight}
use Rattle.seat_parts.proofs.Legal.{answered_of_next, answered_of_unserved, next_of_answered, unserved_of_answered}
use Rattle.seat_parts.proofs.OwnLines.{quiet, same}
use Rattle.seat_shards.specs.Shards.{AreShards, IsMix, Tagged, journal_at, lines_of, merged, merged_after, place_in}
use Rattle.seat_shards.specs.Laws.{MergedIsLegal}
use Rattle.seat_shards.proofs.Sums.{lines_away, lines_here, merged_long}

itself : (n : ℕ) → (n == n) ≡ true
itself n = grind (arith, nat_tests)

turned : (a b : ℕ) → (a == b) ≡ false → (b == a) ≡ false
turned a b other = grind (arith, nat_tests)

lines_append : (s : ℕ) (xs ys : List Tagged) → lines_of s (xs ++ ys) ≡ lines_of s xs ++ lines_of s ys
lines_append s xs ys =
    ap (map (λ (t : Tagged). t.line)) (filter-append (λ (t : Tagged). t.shard == s) xs ys)
    ∙ map-append (λ (t : Tagged). t.line) (filter (λ (t : Tagged). t.shard == s) xs) (filter (λ (t : Tagged). t.shard == s) ys)

-- ---- where a line stands in the mix

place_here : (mix : List Tagged) (s n : ℕ) (u : Tagged) → (u.shard == s) ≡ true → (n == 1) ≡ false
    → place_in (u ∷ mix) s n ≡ place_in mix s (n - 1) + 1
place_here mix s n u e other = rw (e, other) refl

place_away : (mix : List Tagged) (s n : ℕ) (u : Tagged) → (u.shard == s) ≡ false → place_in (u ∷ mix) s n ≡ place_in mix s n + 1
place_away mix s n u e = rw e refl

above_one : (n m : ℕ) → n ≡ suc m → ((n + 1) == 1) ≡ false
above_one n m is = grind (arith, nat_tests)

place_next : (s : ℕ) (ms rest : List Tagged) (t : Tagged) → (t.shard == s) ≡ true
    → place_in (ms ++ t ∷ rest) s (length (lines_of s ms) + 1) ≡ length ms + 1
place_next s [] rest t is = rw is refl
place_next s (u ∷ ms) rest t is = cases (u.shard == s) refl (place_next s ms rest t is) where
  cases : (b : Bool) → (u.shard == s) ≡ b → place_in (ms ++ t ∷ rest) s (length (lines_of s ms) + 1) ≡ length ms + 1
      → place_in (u ∷ (ms ++ t ∷ rest)) s (length (lines_of s (u ∷ ms)) + 1) ≡ length (u ∷ ms) + 1
  cases true e more =
      let long : length (lines_of s (u ∷ ms)) ≡ suc (length (lines_of s ms)) = ap length (lines_here s u ms e) in
      let less : (length (lines_of s (u ∷ ms)) + 1) - 1 ≡ length (lines_of s ms) + 1 = omega (arith, long) in
      let last : (length ms + 1) + 1 ≡ length (u ∷ ms) + 1 = omega arith in
      place_here (ms ++ t ∷ rest) s (length (lines_of s (u ∷ ms)) + 1) u e (above_one (length (lines_of s (u ∷ ms))) (length (lines_of s ms)) long)
      ∙ (ap (λ (x : ℕ). place_in (ms ++ t ∷ rest) s x + 1) less ∙ (ap (λ (x : ℕ). x + 1) more ∙ last))
  cases false e more =
      let long : length (lines_of s (u ∷ ms)) ≡ length (lines_of s ms) = ap length (lines_away s u ms e) in
      let last : (length ms + 1) + 1 ≡ length (u ∷ ms) + 1 = omega arith in
      place_away (ms ++ t ∷ rest) s (length (lines_of s (u ∷ ms)) + 1) u e
      ∙ (ap (λ (x : ℕ). place_in (ms ++ t ∷ rest) s (x + 1) + 1) long ∙ (ap (λ (x : ℕ). x + 1) more ∙ last))

-- ---- one line more, of another flight

agree_off : (grid : Ladders) (past : List Entry) (e : Entry) (f : ℕ) → is_on f e.work ≡ false
    → AgreeOn f (replay grid (past ++ e ∷ [])).grid (replay grid past).grid
agree_off grid past e f off =
    ap (λ (s : State). legs_of s.grid f) (replay_next grid past e)
    ∙ limits_off (replay grid past).grid (replay grid past).bookings f e.number e.work off

seen_off : (grid : Ladders) (anew : ℕ → ℕ) (past : List Entry) (e : Entry) (f : ℕ) → is_on f e.work ≡ false
    → view anew f (replay grid (past ++ e ∷ [])).bookings ≡ view anew f (replay grid past).bookings
seen_off grid anew past e f off =
    ap (λ (s : State). view anew f s.bookings) (replay_next grid past e)
    ∙ answer_off (replay grid past).grid anew f (replay grid past).bookings e.number e.work off (quiet grid past)

unnumbered : (advices : List Advice) → advices_anew same advices ≡ advices
unnumbered [] = refl
unnumbered (a ∷ advices) = ap (λ (l : List Advice). a ∷ l) (unnumbered advices)

-- what these lines and those leave on a flight is the same, but for the numbers of the bookings
pub record Alike (grid : Ladders) (anew : ℕ → ℕ) (f : ℕ) (own done : List Entry) : Type 0 where
  pub agree : AgreeOn f (replay grid own).grid (replay grid done).grid
  pub seen : view same f (replay grid done).bookings ≡ view anew f (replay grid own).bookings

-- ---- one line more, of the flight

module _ (grid : Ladders) (anew : ℕ → ℕ) (f : ℕ) (own done : List Entry) (e : Entry) (k : Alike grid anew f own done)
    (on : is_on f e.work ≡ true) (number : anew e.number ≡ length done + 1) (told : IsAnswered grid own e) where
  abbrev its : Outcome
  its = answer (replay grid own) e.number e.work

  abbrev whole : Outcome
  whole = answer (replay grid done) (length done + 1) e.work

  abbrev part : Outcome
  part = answer (state_of (replay grid done).grid (view same f (replay grid done).bookings)) (length done + 1) e.work

  of_own : IsSeen anew f its part
  of_own =
      let Q : List Booking → Type 0 = λ l. IsSeen anew f its (answer (state_of (replay grid done).grid l) (anew e.number) e.work) in
      let R : ℕ → Type 0 = λ n. IsSeen anew f its (answer (state_of (replay grid done).grid (view same f (replay grid done).bookings)) n e.work) in
      subst R number (subst Q (sym k.seen) (answer_over (replay grid own).grid (replay grid done).grid anew f (replay grid own).bookings e.number e.work k.agree on))

  of_whole : IsSeen same f whole part
  of_whole = answer_over (replay grid done).grid (replay grid done).grid same f (replay grid done).bookings (length done + 1) e.work refl on

  advices_are : advices_anew anew its.advices ≡ whole.advices
  advices_are =
      sym (advices_on (replay grid own).grid anew f (replay grid own).bookings e.number e.work on (quiet grid own))
      ∙ (sym (ap (λ (o : Outcome). o.advices) of_own.is)
      ∙ (ap (λ (o : Outcome). o.advices) of_whole.is
      ∙ (advices_on (replay grid done).grid same f (replay grid done).bookings (length done + 1) e.work on (quiet grid done) ∙ unnumbered whole.advices)))

  pub answered_anew : IsAnswered grid done (line_anew anew done e)
  answered_anew = record {
    reply = told.reply ∙ (sym (ap (λ (o : Outcome). o.reply) of_own.is) ∙ ap (λ (o : Outcome). o.reply) of_whole.is);
    released = told.released ∙ (sym (ap (λ (o : Outcome). o.released) of_own.is) ∙ ap (λ (o : Outcome). o.released) of_whole.is);
    advices = ap (advices_anew anew) told.advices ∙ advices_are;
  }

  pub alike_on : Alike grid anew f (own ++ e ∷ []) (done ++ line_anew anew done e ∷ [])
  alike_on = record {
    agree =
        ap (λ (s : State). legs_of s.grid f) (replay_next grid own e)
        ∙ (of_own.agree ∙ (sym of_whole.agree ∙ sym (ap (λ (s : State). legs_of s.grid f) (replay_next grid done (line_anew anew done e)))));
    seen =
        ap (λ (s : State). view same f s.bookings) (replay_next grid done (line_anew anew done e))
        ∙ (sym (ap (λ (o : Outcome). o.state.bookings) of_whole.is)
        ∙ (ap (λ (o : Outcome). o.state.bookings) of_own.is ∙ sym (ap (λ (s : State). view anew f s.bookings) (replay_next grid own e))));
  }

-- ---- all lines

module _ (grid : Ladders) (cap : ℕ) (journals : List (List Entry)) (all : List Tagged) (shards : AreShards grid cap journals) (is : IsMix journals all) where
  -- no other journal has a line of the flight
  abbrev Owns : ℕ → ℕ → Type 0
  Owns s f = (b : ℕ) → (b == s) ≡ false → of_flight f (journal_at journals b) ≡ []

  -- the mixed lines so far, as one journal, are legal, and leave on each flight what its own journal's lines so far leave
  record Goes (ms : List Tagged) (done : List Entry) : Type 0 where
    legal : IsLegal grid done
    long : length done ≡ length ms
    each : (s f : ℕ) → Owns s f → Alike grid (place_in all s) f (lines_of s ms) done

  module _ (ms rest : List Tagged) (t : Tagged) (done : List Entry) (cut : all ≡ ms ++ t ∷ rest) (k : Goes ms done) where
    abbrev anew : ℕ → ℕ
    anew = place_in all t.shard

    abbrev own : List Entry
    own = lines_of t.shard ms

    abbrev e : Entry
    e = t.line

    abbrev line : Entry
    line = line_anew anew done e

    journal : journal_at journals t.shard ≡ own ++ e ∷ lines_of t.shard rest
    journal =
        sym (is.each t.shard)
        ∙ (ap (lines_of t.shard) cut
        ∙ (lines_append t.shard ms (t ∷ rest) ∙ ap (λ (l : List Entry). own ++ l) (lines_here t.shard t rest (itself t.shard))))

    next : IsNext grid own e
    next = (shards.legal t.shard).each own e (record { rest = lines_of t.shard rest; is = journal ∙ sym (append_assoc own (e ∷ []) (lines_of t.shard rest)) })

    number : anew e.number ≡ length done + 1
    number =
        ap anew (ap (λ (x : Entry). x.number) next.line)
        ∙ (ap (λ (l : List Tagged). place_in l t.shard (length own + 1)) cut
        ∙ (place_next t.shard ms rest t (itself t.shard) ∙ ap (λ (n : ℕ). n + 1) (sym k.long)))

    told : IsAnswered grid own e
    told = answered_of_next grid own e next

    some_there : (f : ℕ) → is_on f e.work ≡ true → of_flight f (journal_at journals t.shard) ≢ []
    some_there f on none =
        let kept : of_flight f (e ∷ lines_of t.shard rest) ≡ e ∷ of_flight f (lines_of t.shard rest) = rw on refl in
        let parts : of_flight f (journal_at journals t.shard) ≡ of_flight f own ++ e ∷ of_flight f (lines_of t.shard rest) =
        ap (of_flight f) journal
        ∙ (filter-append (λ (x : Entry). is_on f x.work) own (e ∷ lines_of t.shard rest) ∙ ap (λ (l : List Entry). of_flight f own ++ l) kept) in
        absurd (omega (arith, ap length (sym none ∙ parts), length-append (of_flight f own) (e ∷ of_flight f (lines_of t.shard rest))))

    owned : (f : ℕ) → is_on f e.work ≡ true → Owns t.shard f
    owned f on b other = shards.apart.each t.shard b f (turned b t.shard other) (some_there f on)

    answered_so : IsAnswered grid done line
    answered_so = by_flight (flight_of e.work) refl where
      by_flight : (o : Option ℕ) → flight_of e.work ≡ o → IsAnswered grid done line
      by_flight None none =
          let u : IsUnserved e = unserved_of_answered grid own e none told in
          answered_of_unserved grid done line none (record { reply = u.reply; released = u.released; advices = ap (advices_anew anew) u.advices })
      by_flight (Some f) here =
          let on : is_on f e.work ≡ true = on_its_flight e.work f here in
          answered_anew grid anew f own done e (k.each t.shard f (owned f on)) on number told

    legal_so : IsLegal grid (done ++ line ∷ [])
    legal_so =
        let may : MayCome grid (length done + 1) done line = record { number = refl; below = omega arith; session = next.session; call = refl; fits = next.fits } in
        legal_push grid done line k.legal (next_of_answered grid (length done + 1) done line may answered_so)

    lines_of_it : (s : ℕ) → (t.shard == s) ≡ true → lines_of s (ms ++ t ∷ []) ≡ lines_of s ms ++ e ∷ []
    lines_of_it s here = lines_append s ms (t ∷ []) ∙ ap (λ (l : List Entry). lines_of s ms ++ l) (lines_here s t [] here)

    lines_of_other : (s : ℕ) → (t.shard == s) ≡ false → lines_of s (ms ++ t ∷ []) ≡ lines_of s ms
    lines_of_other s other = lines_append s ms (t ∷ []) ∙ (ap (λ (l : List Entry). lines_of s ms ++ l) (lines_away s t [] other) ∙ append-nil (lines_of s ms))

    alike_so : (s f : ℕ) → Owns s f → Alike grid (place_in all s) f (lines_of s (ms ++ t ∷ [])) (done ++ line ∷ [])
    alike_so s f owns = cases (is_on f e.work) (t.shard == s) refl refl where
      A : List Entry → Type 0
      A l = Alike grid (place_in all s) f l (done ++ line ∷ [])

      cases : (on here : Bool) → is_on f e.work ≡ on → (t.shard == s) ≡ here → A (lines_of s (ms ++ t ∷ []))
      cases true false on other = absurd (some_there f on (owns t.shard other))
      cases true true on here =
          let it : t.shard ≡ s = nat_same t.shard s here in
          let P : ℕ → Type 0 = λ x. Alike grid (place_in all x) f (lines_of x ms ++ e ∷ []) (done ++ line ∷ []) in
          subst A (sym (lines_of_it s here)) (subst P it (alike_on grid anew f own done e (k.each t.shard f (owned f on)) on number told))
      cases false true off here =
          let was : Alike grid (place_in all s) f (lines_of s ms) done = k.each s f owns in
          subst A (sym (lines_of_it s here)) (record {
            agree = agree_off grid (lines_of s ms) e f off ∙ (was.agree ∙ sym (agree_off grid done line f off));
            seen = seen_off grid same done line f off ∙ (was.seen ∙ sym (seen_off grid (place_in all s) (lines_of s ms) e f off));
          })
      cases false false off other =
          let was : Alike grid (place_in all s) f (lines_of s ms) done = k.each s f owns in
          subst A (sym (lines_of_other s other)) (record {
            agree = was.agree ∙ sym (agree_off grid done line f off);
            seen = seen_off grid same done line f off ∙ was.seen;
          })

    step : Goes (ms ++ t ∷ []) (done ++ line ∷ [])
    step = record {
      legal = legal_so;
      long = omega (arith, length-append done (line ∷ []), length-append ms (t ∷ []), k.long);
      each = alike_so;
    }

  goes : (ms rest : List Tagged) (done : List Entry) → all ≡ ms ++ rest → Goes ms done
      → IsLegal grid (merged_after (place_in all) done rest)
  goes ms [] done cut k = k.legal
  goes ms (t ∷ rest) done cut k =
      goes (ms ++ t ∷ []) rest (done ++ line_anew (place_in all t.shard) done t.line ∷ []) (cut ∙ sym (append_assoc ms (t ∷ []) rest))
      (step ms rest t done cut k)

  pub all_legal : IsLegal grid (merged all)
  all_legal = goes [] all [] refl (record { legal = legal_nil grid; long = refl; each = λ s f owns. record { agree = refl; seen = refl } })

pub merged_is_legal : MergedIsLegal
merged_is_legal grid cap journals mix shards is = (all_legal grid cap journals mix shards is, merged_long journals mix is)
