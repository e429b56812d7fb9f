-- The lines that a history adds to the past can be answered: what they and their advices answer is there.
use Rattle.std.proofs.Common.{◌≡◌, ⊎_elim, ℕ, zero, suc, ◌+◌, ◌<◌, ◌≤◌, List, [], ◌∷◌, ◌++◌, length, map, refl, sym, ap, ◌∙◌, subst, arith, get_or, Option, Some, None, take, ◌==◌}
use Rattle.seat_replies.proofs.Common.{slice_get, AllByRecursion, option_map, Request, Segment, Place, DatedLeg, Advice, Command, Entry, Work, Seats, authorised_grid, Fits, Ladders, LimitRow, IsLegal, of_session, by_session, behind, idle, lists_over, commands_of, IsHistoryOf, works_in}
use Rattle.std.specs.Prelude.{unwrap_or}
use Rattle.std.proofs.lemmas.List.{length-map, length-take-le}
use Rattle.std.proofs.lemmas.Option.{get_or_from_slice_get, slice_get-get_or, slice_get-map, slice_get_cases, slice_get_within, unwrap_or-slice_get}
use Rattle.ssim_flights.specs.declared.flight.Flight.{Flight as Flown}
use Rattle.seat_journal.specs.declared.entry.Control.{Control}
use Rattle.seat_journal.specs.declared.entry.Control.TheVariants.{ToLimit, ToSale}
use Rattle.seat_journal.specs.Controls.{set_by}
use Rattle.seat_journal.specs.declared.entry.Work.TheVariants.{Limit, Sale}
use Rattle.desk_telling.specs.Segments.{segment_at, segment_between, segment_from, segment_of, segment_on}
use Rattle.seat_limits.specs.Authorised.{authorised_legs}
use Rattle.seat_nesting.specs.Nesting.{Steps, legs_of}
use Rattle.seat_rules.proofs.Own.{own_append}
use Rattle.seat_desk.specs.FlightsDesk.{IsText}
use Rattle.seat_desk.specs.Loading.{IsGridOf}
use Rattle.seat_replies.specs.declared.past.Past.{Past}
use Rattle.seat_replies.specs.Answering.{AreAllAnswerable, AreAnswerable, AreBooked, IsRequested, IsBooked}
use Rattle.seat_replies.specs.Going.{past_of}
use Rattle.seat_replies.specs.RunDesk.{AreReplies, AreSessions, IsReplied, requests_of, works_of}
use Rattle.seat_replies.proofs.Advised.{AreAdvised, IsPlaced, legal_is_advised}
use Rattle.seat_replies.proofs.Going.{added_lines, idle_at, over_count, lines_at, sessions_count}
use Rattle.seat_replies.proofs.Rows.{all_kept, all_of, each_at}
use Rattle.seat_replies.proofs.Serving.{legs_are}

same_some : {A : Type 0} → (x y : A) → Some x ≡ Some y → x ≡ y
same_some x y e = cc e

-- ---- the segment of a place on the grid

record IsThere (legs : List DatedLeg) (i : ℕ) : Type 0 where
  leg : DatedLeg
  at : slice_get legs i ≡ Some leg

leg_there : (legs : List DatedLeg) (i : ℕ) → i < length legs → IsThere legs i
leg_there [] i lt = absurd (omega (arith, lt))
leg_there (leg ∷ legs) zero lt = record { leg = leg; at = refl }
leg_there (leg ∷ legs) (suc i) lt = let rest = leg_there legs i (omega (arith, lt)) in record { leg = rest.leg; at = rest.at }

record IsFlown (flights : List Flown) (c : Command) : Type 0 where
  segment : Segment
  is : segment_of flights c ≡ Some segment

flown_on : (flights : List Flown) (c : Command) (place : Place) (flight : Flown) → c.place ≡ Some place
    → slice_get flights place.flight ≡ Some flight
    → place.from < length flight.legs → place.to < length flight.legs → IsFlown flights c
flown_on flights c place flight on at from to =
    let first = leg_there flight.legs place.from from in
    let last = leg_there flight.legs place.to to in
    record {
      segment = segment_from c flight first.leg last.leg;
      is = ap (segment_on flights c) on ∙ (ap (segment_at c place) at
          ∙ (ap (λ (o : Option DatedLeg). segment_between c flight o (slice_get flight.legs place.to)) first.at
          ∙ ap (λ (o : Option DatedLeg). segment_between c flight (Some first.leg) o) last.at));
    }

no_legs : (rows : List LimitRow) (flights : List Flown) (i : ℕ) → slice_get flights i ≡ None
    → length (legs_of (authorised_grid rows flights) i) ≡ 0
no_legs rows flights i at =
    let none : slice_get (authorised_grid rows flights) i ≡ None = slice_get-map (authorised_legs rows) flights i ∙ ap (λ (o : Option Flown). option_map (authorised_legs rows) o) at in
    ap (λ (o : Option (List Steps)). length (unwrap_or o [])) none

flown : (flights : List Flown) (grid : Ladders) (c : Command) (place : Place) → IsGridOf flights grid
    → c.place ≡ Some place → Fits grid place → IsFlown flights c
flown flights grid c place g on fits =
    let i = place.flight in
    let to : place.to < length (legs_of (authorised_grid g.rows flights) i) = subst (λ (l : Ladders). place.to < length (legs_of l i)) g.is fits.1 in
    ⊎_elim
    (λ (s : (x : Flown) × (i < length flights) × (slice_get flights i ≡ Some x) × (get_or flights i x ≡ x)).
    let same = legs_are g.rows flights i s.0 s.2 in
    flown_on flights c place s.0 on s.2 (omega (arith, fits.0, to, same)) (omega (arith, to, same)))
    (λ (n : (length flights ≤ i) × (slice_get flights i ≡ None)). absurd (omega (arith, to, no_legs g.rows flights i n.1)))
    (slice_get_cases flights i).1

-- ---- each advice's booking

module _ (flights : List Flown) (grid : Ladders) (history : List Entry) (of_grid : IsGridOf flights grid) where
  booked : (number : ℕ) → IsPlaced grid history number → IsBooked flights history number
  booked number placed =
      let on : IsFlown flights placed.command = flown flights grid placed.command placed.place of_grid placed.place_is placed.fits in
      record {
        within = placed.within;
        line = placed.line;
        at = placed.at;
        command = placed.command;
        work_is = placed.work_is;
        segment = on.segment;
        flown = on.is;
      }

  each_advised : (advices : List Advice) → AllByRecursion (λ (a : Advice). IsPlaced grid history a.number) advices
      → AllByRecursion (λ (a : Advice). IsBooked flights history a.number) advices
  each_advised [] told = tt
  each_advised (a ∷ advices) told = (booked a.number told.0, each_advised advices told.1)

  book_each : (lines : List Entry) → AreAdvised grid history lines
      → AllByRecursion (λ (e : Entry). AreBooked flights history e.advices) lines
  book_each [] told = tt
  book_each (e ∷ es) told = (record { each = all_of (λ (a : Advice). IsBooked flights history a.number) e.advices (each_advised e.advices told.0) }, book_each es told.1)

  added_advised : (xs ys : List Entry) → AreAdvised grid history (xs ++ ys) → AreAdvised grid history ys
  added_advised [] ys all = all
  added_advised (x ∷ xs) ys all = added_advised xs ys all.1

-- the bookings of the advices of lines that were added are there
pub lines_booked : (flights : List Flown) (grid : Ladders) (past added history : List Entry) → IsGridOf flights grid
    → history ≡ past ++ added → IsLegal grid history
    → AllByRecursion (λ (e : Entry). AreBooked flights history e.advices) added
lines_booked flights grid past added history g whole legal =
    book_each flights grid history g added
    (added_advised flights grid history g past added (subst (λ (l : List Entry). AreAdvised grid history l) whole (legal_is_advised grid history legal)))

-- ---- each line's request

-- the list of each session is that of its script, and none beyond the scripts
list_of : (flights : List Flown) (scripts : List (List Request)) (k i : ℕ)
    → get_or (map (commands_of flights) scripts ++ idle k) i [] ≡ commands_of flights (get_or scripts i [])
list_of flights [] k i = idle_at k i
list_of flights (script ∷ scripts) k zero = refl
list_of flights (script ∷ scripts) k (suc i) = list_of flights scripts k i

module _ (grid : Ladders) (past : List Entry) (flights : List Flown) (changes : List Control) (scripts : List (List Request)) (history : List Entry) (told : List (List Entry))
    (h : IsHistoryOf grid past changes (lists_over past (map (commands_of flights) scripts)) history told) where
  abbrev lists : List (List Command)
  lists = lists_over past (map (commands_of flights) scripts)

  -- the lines of a session behind the past are what its script asks
  pub own_works : (i : ℕ) → i < length lists
      → works_in (of_session (suc i) h.added) ≡ map Seats (commands_of flights (get_or scripts i []))
  own_works i lt =
      let within : suc i < length (by_session (length lists) h.added) = omega (arith, lt, sessions_count (length lists) h.added) in
      let here : slice_get (by_session (length lists) h.added) (suc i) ≡ Some (of_session (suc i) h.added) =
      slice_get-get_or (by_session (length lists) h.added) (suc i) [] within ∙ ap Some (lines_at (length lists) (suc i) h.added (omega (arith, lt))) in
      let lines : slice_get (works_of changes lists) (suc i) ≡ Some (works_in (of_session (suc i) h.added)) =
      ap (λ (l : List (List Work)). slice_get l (suc i)) (sym h.asked) ∙ (slice_get-map works_in (by_session (length lists) h.added) (suc i) ∙ ap (option_map works_in) here) in
      let asked : slice_get (works_of changes lists) (suc i) ≡ Some (map Seats (get_or lists i [])) =
      slice_get-map (map Seats) lists i ∙ ap (option_map (map Seats)) (slice_get-get_or lists i [] lt) in
      same_some _ _ (sym lines ∙ asked) ∙ ap (map Seats) (list_of flights scripts _ i)

  -- so it has one for each request
  own_count : (i : ℕ) → i < length lists → length (of_session (suc i) h.added) ≡ length (get_or scripts i [])
  own_count i lt =
      sym (length-map (of_session (suc i) h.added) (λ (e : Entry). e.work))
      ∙ (ap length (own_works i lt) ∙ (length-map (commands_of flights (get_or scripts i [])) Seats ∙ length-map (get_or scripts i []) _))

  -- no line behind the past is of a session that was not opened
  pub no_more : (s : ℕ) → length lists < s → of_session s h.added ≡ []
  no_more s high =
      let all : of_session s past ++ of_session s h.added ≡ [] = sym (ap (of_session s) h.goes_on ∙ own_append s past h.added) ∙ h.headline.only.none s high in
      rest_nil (of_session s past) (of_session s h.added) all
    where
      rest_nil : (xs ys : List Entry) → xs ++ ys ≡ [] → ys ≡ []
      rest_nil [] ys e = e
      rest_nil (x ∷ xs) ys e = absurd cc

  -- the line of a session at a place behind the past asks for what stands there
  work_at : (s : ℕ) (works : List Work) → works_in (of_session s h.added) ≡ works → (k : ℕ) (e : Entry)
      → slice_get (of_session s h.added) k ≡ Some e → slice_get works k ≡ Some e.work
  work_at s works same k e at =
      ap (λ (l : List Work). slice_get l k) (sym same) ∙ (slice_get-map (λ (x : Entry). x.work) (of_session s h.added) k ∙ ap (option_map (λ (x : Entry). x.work)) at)

  -- the manager's are changes
  pub managed : works_in (of_session 0 h.added) ≡ map set_by changes
  managed =
      let within : 0 < length (by_session (length lists) h.added) = omega (arith, sessions_count (length lists) h.added) in
      let here : slice_get (by_session (length lists) h.added) 0 ≡ Some (of_session 0 h.added) =
      slice_get-get_or (by_session (length lists) h.added) 0 [] within ∙ ap Some (lines_at (length lists) 0 h.added (omega arith)) in
      same_some _ _ (sym (ap (option_map works_in) here) ∙ (sym (slice_get-map works_in (by_session (length lists) h.added) 0) ∙ ap (λ (l : List (List Work)). slice_get l 0) h.asked))

  no_seats : (o : Option Control) (c : Command) → option_map set_by o ≡ Some (Seats c) → ⊥
  no_seats None c e = cc
  no_seats (Some (ToLimit x)) c e = cc
  no_seats (Some (ToSale x)) c e = cc

  -- so a line that asks for seats stands beside a request
  is_asked : (s k : ℕ) (e : Entry) → s ≤ length scripts → length scripts ≤ length lists
      → slice_get (of_session s h.added) k ≡ Some e → (w : Work) → e.work ≡ w → IsRequested (requests_of scripts s) k w
  is_asked zero k e low enough at (Seats c) work = absurd (no_seats (slice_get changes k) c (sym (slice_get-map set_by changes k) ∙ (work_at 0 (map set_by changes) managed k e at ∙ ap Some work)))
  is_asked (suc i) k e low enough at (Seats c) work =
      let lt : i < length lists = omega (arith, low, enough) in
      let within : k < length (of_session (suc i) h.added) = slice_get_within (of_session (suc i) h.added) k e at in
      subst (λ (l : List Request). k < length l) (sym (unwrap_or-slice_get scripts i [])) (omega (arith, within, own_count i lt))
  is_asked s k e low enough at (Limit c) work = tt
  is_asked s k e low enough at (Sale c) work = tt

  -- ---- all lines that were added

  all_lines : IsGridOf flights grid → AllByRecursion (λ (e : Entry). AreBooked flights history e.advices) h.added
  all_lines g = lines_booked flights grid past h.added history g h.goes_on h.headline.legal

  -- session by session
  answerable : IsGridOf flights grid → length scripts ≤ length lists
      → AreAllAnswerable flights scripts history (by_session (length scripts) h.added)
  answerable g enough = record { each = of_lines } where
    of_lines : (s : ℕ) (lines : List Entry) → slice_get (by_session (length scripts) h.added) s ≡ Some lines
        → AreAnswerable flights (requests_of scripts s) history lines
    of_lines s lines there =
        let low : s < suc (length scripts) = omega (arith, slice_get_within (by_session (length scripts) h.added) s lines there, sessions_count (length scripts) h.added) in
        let own : lines ≡ of_session s h.added = sym (get_or_from_slice_get (by_session (length scripts) h.added) s lines [] there) ∙ lines_at (length scripts) s h.added low in
        subst (λ (l : List Entry). AreAnswerable flights (requests_of scripts s) history l) (sym own) (record {
          each = λ k e at. record {
            asked = is_asked s k e (omega (arith, low)) enough at e.work refl;
            advised = each_at (λ (x : Entry). AreBooked flights history x.advices) (of_session s h.added) k e
                (all_kept (λ (x : Entry). AreBooked flights history x.advices) (λ (x : Entry). x.session == s) h.added (all_lines g)) at;
          };
        })

  -- what the receipts of the scripts' sessions have behind the past
  receipts_behind : length scripts ≤ 8
      → behind (past_of past).calls (take (length scripts + 1) (by_session (length lists) history))
      ≡ by_session (length scripts) h.added
  receipts_behind few =
      let enough : length scripts ≤ length lists = omega (arith, over_count past (map (commands_of flights) scripts), length-map scripts (commands_of flights)) in
      let up : length scripts + 1 ≡ suc (length scripts) = omega arith in
      ap (λ (k : ℕ). behind (past_of past).calls (take k (by_session (length lists) history))) up
      ∙ (ap (λ (l : List Entry). behind (past_of past).calls (take (suc (length scripts)) (by_session (length lists) l))) h.goes_on
      ∙ added_lines (length scripts) (length lists) past h.added enough few)

  -- so these can be answered, and their answers are the replies
  behind_answerable : IsGridOf flights grid → length scripts ≤ 8
      → AreAllAnswerable flights scripts history
      (behind (past_of past).calls (take (length scripts + 1) (by_session (length lists) history)))
  behind_answerable g few =
      let enough : length scripts ≤ length lists = omega (arith, over_count past (map (commands_of flights) scripts), length-map scripts (commands_of flights)) in
      subst (λ (rows : List (List Entry)). AreAllAnswerable flights scripts history rows) (sym (receipts_behind few)) (answerable g enough)

  pub as_replies : (text : List ℕ) → IsReplied flights past scripts history told text
      → AreReplies flights past scripts h.added text
  as_replies text r =
      let lines = subst (λ (rows : List (List Entry)). IsText (AreSessions flights scripts history) 0 (behind (past_of past).calls (take (length scripts + 1) rows)) text) h.headline.own r.are_answers in
      let rows = subst (λ (rows : List (List Entry)). IsText (AreSessions flights scripts history) 0 rows text) (receipts_behind r.few) lines in
      subst (λ (l : List Entry). IsText (AreSessions flights scripts l) 0 (by_session (length scripts) h.added) text) h.goes_on rows

-- ---- the same, said of what the host was asked and what it gave

module _ (grid : Ladders) (past : List Entry) (flights : List Flown) (changes : List Control) (scripts : List (List Request)) (history slice : List Entry) (before : Past)
    (lists : List (List Command)) (receipts : List (List Entry)) (few : length scripts ≤ 8) (known : before ≡ past_of past) (asked : lists ≡ lists_over past (map (commands_of flights) scripts))
    (same : slice ≡ history) (own : receipts ≡ by_session (length lists) history) where
  abbrev opened_lists : List (List Command)
  opened_lists = lists_over past (map (commands_of flights) scripts)

  own_rows : receipts ≡ by_session (length opened_lists) history
  own_rows = own ∙ ap (λ (l : List (List Command)). by_session (length l) history) asked

  -- each script's session has its receipts
  pub rows_enough : length scripts + 1 ≡ length (take (length scripts + 1) receipts)
  rows_enough =
      let rows : length receipts ≡ suc (length opened_lists) = ap length own_rows ∙ sessions_count (length opened_lists) history in
      let enough : length scripts ≤ length opened_lists = omega (arith, over_count past (map (commands_of flights) scripts), length-map scripts (commands_of flights)) in
      sym (length-take-le (length scripts + 1) receipts (omega (arith, rows, enough)))

  pub lines_answerable : (told : List (List Entry)) → IsGridOf flights grid
      → IsHistoryOf grid past changes lists history told
      → AreAllAnswerable flights scripts slice (behind before.calls (take (length scripts + 1) receipts))
  lines_answerable told g h =
      let on = subst (λ (l : List (List Command)). IsHistoryOf grid past changes l history told) asked h in
      subst (λ (b : Past). AreAllAnswerable flights scripts slice (behind b.calls (take (length scripts + 1) receipts))) (sym known)
      (subst (λ (l : List Entry). AreAllAnswerable flights scripts l (behind (past_of past).calls (take (length scripts + 1) receipts))) (sym same)
      (subst (λ (rows : List (List Entry)). AreAllAnswerable flights scripts history (behind (past_of past).calls (take (length scripts + 1) rows))) (sym own_rows)
      (behind_answerable grid past flights changes scripts history told on g few)))

  pub lines_replied : (told : List (List Entry)) (text : List ℕ) → receipts ≡ told
      → IsText (AreSessions flights scripts slice) 0 (behind before.calls (take (length scripts + 1) receipts)) text
      → IsReplied flights past scripts history told text
  lines_replied told text given said = record {
    few = few;
    are_answers = subst (λ (rows : List (List Entry)). IsText (AreSessions flights scripts history) 0 (behind (past_of past).calls (take (length scripts + 1) rows)) text) given
        (subst (λ (l : List Entry). IsText (AreSessions flights scripts l) 0 (behind (past_of past).calls (take (length scripts + 1) receipts)) text) same
        (subst (λ (b : Past). IsText (AreSessions flights scripts slice) 0 (behind b.calls (take (length scripts + 1) receipts)) text) known said));
  }
