-- What a numbered line comes to, by the calls of then.
use Rattle.std.proofs.Common.{◌≡◌, ◌⊎◌, inl, inr, ℕ, zero, suc, ◌+◌, ◌<◌, ◌≤◌, Bool, true, false, ◌==◌, nat_le, nat_lt, if◌then◌else◌, List, [], ◌∷◌, ◌++◌, length, take, drop, add-one, refl, ap, sym, ◌∙◌, subst, arith, append-nil, length-append}
use Rattle.std.specs.Prelude.{IfSome, Option, Some, None, IsTrue, option_to_list, slice_get}
use Rattle.std.proofs.lemmas.Bool.Decides.{nat_tests}
use Rattle.std.proofs.lemmas.List.{length-take-le}
use Rattle.std.proofs.Math.Seq.{take-length}
use Rattle.desk_feed.specs.Feeding.{behind_asking, is_call, Asking, IsItsLine, IsStrange, IsStrangeBy, Lives, LivesBy, LivesNext}
use Rattle.desk_feed.specs.Progress.{kind_of, HasPassed, IsKind, IsProgress}
use Rattle.desk_feed.specs.declared.progress.CallKind.{CallKind}
use Rattle.desk_feed.specs.declared.progress.CallKind.TheVariants.{Next, There, Beyond}
use Rattle.desk_feed.specs.declared.progress.Progress.{Progress}
use Rattle.desk_feed.proofs.Passing.{calls_then, drop_next, few_more, next_there, passed, progress_longer, take_next}
use Rattle.desk_hall.specs.declared.turn.Turn.{Turn}
use Rattle.desk_hall.specs.declared.turn.Turn.TheVariants.{Line, Full, Quiet}
use Rattle.desk_hall.proofs.Groups.{behind_append, behind_length}
use Rattle.desk_lines.specs.declared.desk.Desk.{Desk}
use Rattle.desk_lines.specs.declared.desk.Meaning.TheVariants.{WrongCall}
use Rattle.desk_lines.specs.declared.desk.Wrong.TheVariants as faults
use Rattle.desk_stream.specs.Hearing.{lines_with, IsRightPlan}
use Rattle.desk_stream.specs.Planning.{IsComeTo, IsNextStrange, IsTold, Passes, Plans, PlansAhead, PlansBooked, PlansBy, PlansLive, PlansNext}
use Rattle.desk_stream.specs.Wanting.{asked_for, asking_of, repeat_of, work_of, IsVery}
use Rattle.desk_stream.specs.declared.hearing.Pending.{Pending}
use Rattle.desk_stream.specs.declared.planning.Called.{Called}
use Rattle.desk_stream.specs.declared.planning.Plan.{Plan}
use Rattle.seat_journal.specs.declared.entry.Entry.{Entry}
use Rattle.seat_journal.specs.declared.entry.Work.{Work}
use Rattle.seat_nesting.specs.Nesting.{Ladders}
use Rattle.seat_rules.specs.Journal.{calls_of, next_line}
use Rattle.seat_serving.specs.Answering.{behind, line_for, lines_for, IsRight}
use Rattle.seat_serving.specs.Served.{Served}
use Rattle.seat_serving.specs.declared.asked.Asked.{Asked}
use Rattle.ssim_flights.specs.declared.flight.Flight.{Flight as Flown}

-- ---- places

front_there : (xs more : List Entry) (i : ℕ) (e : Entry) → slice_get xs i ≡ Some e → slice_get (xs ++ more) i ≡ Some e
front_there [] more i e is = absurd (cc is)
front_there (x ∷ xs) more zero e is = is
front_there (x ∷ xs) more (suc i) e is = front_there xs more i e is

none_past : (xs : List Entry) (i : ℕ) → slice_get xs i ≡ None → length xs ≤ i
none_past [] i is = omega arith
none_past (x ∷ xs) zero is = absurd (cc is)
none_past (x ∷ xs) (suc i) is = omega (arith, none_past xs i is)

seam_there : (xs : List Entry) (e : Entry) → slice_get (xs ++ e ∷ []) (length xs) ≡ Some e
seam_there [] e = refl
seam_there (x ∷ xs) e = seam_there xs e

drop_length : (xs : List Entry) → drop (length xs) xs ≡ []
drop_length [] = refl
drop_length (x ∷ xs) = drop_length xs

take_all_of : (xs : List Entry) (n : ℕ) → n ≡ length xs → take n xs ≡ xs
take_all_of xs n is = ap (λ (k : ℕ). take k xs) is ∙ take-length xs

drop_all_of : (xs : List Entry) (n : ℕ) → n ≡ length xs → drop n xs ≡ []
drop_all_of xs n is = ap (λ (k : ℕ). drop k xs) is ∙ drop_length xs

-- ---- numbers

there_not_next : There ≡ Next → ⊥
there_not_next h = cc h

beyond_not_next : Beyond ≡ Next → ⊥
beyond_not_next h = cc h

abbrev kind_by : Bool → Bool → CallKind
kind_by low next = if low then There else if next then Next else Beyond

are_next : (low next : Bool) → kind_by low next ≡ Next → next ≡ true
are_next true next is = absurd (there_not_next is)
are_next false true is = refl
are_next false false is = absurd (beyond_not_next is)

are_other : (low next : Bool) → (kind_by low next ≡ Next → ⊥) → (low ≡ true) ⊎ (next ≡ false)
are_other true next not = inl refl
are_other false true not = absurd (not refl)
are_other false false not = inr refl

next_call : (calls number : ℕ) → kind_of calls number ≡ Next → number ≡ calls + 1
next_call calls number is =
    let here : (number == calls + 1) ≡ true = are_next (nat_le number calls) (number == calls + 1) is in
    grind (arith, nat_tests)

other_call : (calls number : ℕ) → (kind_of calls number ≡ Next → ⊥) → (number == calls + 1) ≡ false
other_call calls number not = by (are_other (nat_le number calls) (number == calls + 1) not)
  where
    by : (nat_le number calls ≡ true) ⊎ ((number == calls + 1) ≡ false) → (number == calls + 1) ≡ false
    by (inl low) = grind (arith, nat_tests)
    by (inr other) = other

kind_then : (lines : List Entry) (progress : Progress) (session number : ℕ) (kind : CallKind) → IsProgress lines progress
    → session ≤ 8 → IsKind progress session number kind → kind_of (calls_of (take progress.lines lines) session) number ≡ kind
kind_then lines progress session number kind is high at =
    ap (λ (n : ℕ). kind_of n number) (sym (calls_then lines progress session at.calls is high at.stood)) ∙ sym at.kind_is

strange_if : (flights : List Flown) (c : Called) (ahead : List Entry) → IsNextStrange flights c ahead
    → IsStrangeBy true (asking_of flights c) (IsVery flights c.wanted) ahead
strange_if flights c [] strange = strange
strange_if flights c (e ∷ ahead) strange = strange

-- ---- plans

module _ (flights : List Flown) (grid : Ladders) (cap : ℕ) (journal : List Entry) (asked : List Asked) (c : Called)
    (progress : Progress) where
  abbrev Lines : List Entry
  Lines = behind grid journal asked

  abbrev Past : List Entry
  Past = take progress.lines Lines

  abbrev Ahead : List Entry
  Ahead = drop progress.lines Lines

  there : (e : Entry) → slice_get journal progress.lines ≡ Some e → slice_get Lines progress.lines ≡ Some e
  there e at = front_there journal (lines_for grid journal asked) progress.lines e at

  past_length : (e : Entry) → slice_get journal progress.lines ≡ Some e → length Past ≡ progress.lines
  past_length e at =
      let lt : progress.lines < length Lines = next_there Lines progress.lines e (there e at) in
      length-take-le progress.lines Lines (omega (arith, lt))

  pub ahead_planned : (e : Entry) (plan : Plan) → slice_get journal progress.lines ≡ Some e
      → PlansAhead flights c e progress.lines plan → PlansNext flights cap c Past Ahead plan
  ahead_planned e plan at plans =
      subst (λ (l : List Entry). PlansNext flights cap c Past l plan) (sym (drop_next Lines progress.lines e (there e at)))
      (subst (λ (n : ℕ). PlansAhead flights c e n plan) (sym (past_length e at)) plans)

  pub ahead_strange : (e : Entry) → slice_get journal progress.lines ≡ Some e
      → (IsItsLine (asking_of flights c) (IsVery flights c.wanted) e → ⊥) → IsNextStrange flights c Ahead
  ahead_strange e at other =
      subst (λ (l : List Entry). IsNextStrange flights c l) (sym (drop_next Lines progress.lines e (there e at))) other

  pub live_planned : (plan : Plan) → slice_get journal progress.lines ≡ None → IsComeTo grid journal asked progress
      → PlansLive (nat_lt (length Lines) cap) flights c progress.lines plan → PlansNext flights cap c Past Ahead plan
  live_planned plan none come plans =
      let all : progress.lines ≡ length Lines = come.live (none_past journal progress.lines none) in
      subst (λ (l : List Entry). PlansNext flights cap c Past l plan) (sym (drop_all_of Lines progress.lines all))
      (subst (λ (l : List Entry). PlansLive (nat_lt (length l) cap) flights c (length l) plan)
      (sym (take_all_of Lines progress.lines all))
      (subst (λ (n : ℕ). PlansLive (nat_lt (length Lines) cap) flights c n plan) all plans))

  pub planned_by : (desk : Desk) (plan : Plan) (kind : CallKind) → IsComeTo grid journal asked progress → c.session ≤ 8
      → IsKind progress c.session c.number kind → PlansBy kind flights cap c desk Past Ahead plan
      → Plans flights cap c desk Past Ahead plan
  planned_by desk plan kind come high is plans = record {
    comes = subst (λ (k : CallKind). PlansBy k flights cap c desk Past Ahead plan)
        (sym (kind_then Lines progress c.session c.number kind come.is_progress high is)) plans;
  }

  pub planned_next : (desk : Desk) (plan : Plan) (kind : CallKind) → IsComeTo grid journal asked progress → c.session ≤ 8
      → IsKind progress c.session c.number kind → kind ≡ Next → PlansNext flights cap c Past Ahead plan
      → Plans flights cap c desk Past Ahead plan
  planned_next desk plan kind come high is at plans =
      planned_by desk plan kind come high is (subst (λ (k : CallKind). PlansBy k flights cap c desk Past Ahead plan) (sym at) plans)

  pub planned_there : (desk : Desk) (plan : Plan) (kind : CallKind) (turn : Turn) → IsComeTo grid journal asked progress
      → c.session ≤ 8 → IsKind progress c.session c.number kind → kind ≡ There → turn ≡ repeat_of c.session c.number c.wanted
      → IsTold turn plan → Plans flights cap c desk Past Ahead plan
  planned_there desk plan kind turn come high is at repeats plans =
      planned_by desk plan kind come high is
      (subst (λ (k : CallKind). PlansBy k flights cap c desk Past Ahead plan) (sym at) (subst (λ (t : Turn). IsTold t plan) repeats plans))

  pub planned_beyond : (desk : Desk) (plan : Plan) (kind : CallKind) → IsComeTo grid journal asked progress → c.session ≤ 8
      → IsKind progress c.session c.number kind → kind ≡ Beyond
      → IsTold (Quiet c.session desk (WrongCall c.number faults.Beyond)) plan → Plans flights cap c desk Past Ahead plan
  planned_beyond desk plan kind come high is at plans =
      planned_by desk plan kind come high is (subst (λ (k : CallKind). PlansBy k flights cap c desk Past Ahead plan) (sym at) plans)

  is_call_next : (kind_of (calls_of Past c.session) c.number ≡ Next) → is_call Past (asking_of flights c) ≡ true
  is_call_next is =
      let at : c.number ≡ calls_of Past c.session + 1 = next_call (calls_of Past c.session) c.number is in
      let here : (c.number == calls_of Past c.session + 1) ≡ true = grind (arith, nat_tests) in
      here

  pub strange_next : (kind : CallKind) → IsComeTo grid journal asked progress → c.session ≤ 8
      → IsKind progress c.session c.number kind → kind ≡ Next → IsNextStrange flights c Ahead
      → IsStrange (asking_of flights c) (IsVery flights c.wanted) Past Ahead
  strange_next kind come high is at strange =
      let here : is_call Past (asking_of flights c) ≡ true =
      is_call_next (kind_then Lines progress c.session c.number kind come.is_progress high is ∙ at) in
      subst (λ (b : Bool). IsStrangeBy b (asking_of flights c) (IsVery flights c.wanted) Ahead) (sym here) (strange_if flights c Ahead strange)

  -- ---- behind it

  pub record Goes (more : List Asked) (new : Progress) : Type 0 where
    pub lives : Lives grid cap (asking_of flights c) (IsVery flights c.wanted) Past Ahead (take new.lines (behind grid journal more))
        (drop new.lines (behind grid journal more))
    pub come : IsComeTo grid journal more new

  goes_still : (more : List Asked) (new : Progress) → IsComeTo grid journal asked progress → more ≡ asked → new ≡ progress
      → LivesBy (is_call Past (asking_of flights c)) grid cap (asking_of flights c) (IsVery flights c.wanted) Past Ahead Past Ahead
      → Goes more new
  goes_still more new come same stays lives = record {
    lives = subst (λ (p : Progress). Lives grid cap (asking_of flights c) (IsVery flights c.wanted) Past Ahead (take p.lines (behind grid journal more)) (drop p.lines (behind grid journal more))) (sym stays)
        (subst (λ (l : List Asked). Lives grid cap (asking_of flights c) (IsVery flights c.wanted) Past Ahead (take progress.lines (behind grid journal l)) (drop progress.lines (behind grid journal l))) (sym same) lives);
    come = subst (λ (p : Progress). IsComeTo grid journal more p) (sym stays)
        (subst (λ (l : List Asked). IsComeTo grid journal l progress) (sym same) come);
  }

  goes_ahead : (e : Entry) (more : List Asked) (new : Progress) → IsComeTo grid journal asked progress
      → is_call Past (asking_of flights c) ≡ true → slice_get journal progress.lines ≡ Some e
      → IsItsLine (asking_of flights c) (IsVery flights c.wanted) e → more ≡ asked → HasPassed progress new c.session
      → c.session ≤ 8 → length Lines ≤ 999999 → Goes more new
  goes_ahead e more new come is at own same pass high few =
      let here : slice_get Lines progress.lines ≡ Some e = there e at in
      let lt : progress.lines < length Lines = next_there Lines progress.lines e here in
      let low : progress.lines < length journal = next_there journal progress.lines e at in
      let lines : new.lines ≡ progress.lines + 1 = pass.lines_are ∙ few_more progress.lines (omega (arith, lt, few)) in
      let next : new.lines ≡ suc progress.lines = lines ∙ add-one progress.lines in
      let none : asked ≡ [] = come.ahead low in
      let count : length Lines ≡ length journal + length asked = behind_length grid journal asked in
      let taken : take new.lines Lines ≡ Past ++ e ∷ [] =
      ap (λ (n : ℕ). take n Lines) next ∙ take_next Lines progress.lines e here in
      let dropped : drop new.lines Lines ≡ drop (suc progress.lines) Lines = ap (λ (n : ℕ). drop n Lines) next in
      let at_next : LivesNext grid cap (asking_of flights c) (IsVery flights c.wanted) Past Ahead (take new.lines Lines) (drop new.lines Lines) =
      subst (λ (l : List Entry). LivesNext grid cap (asking_of flights c) (IsVery flights c.wanted) Past l (take new.lines Lines) (drop new.lines Lines))
      (sym (drop_next Lines progress.lines e here)) (own, taken, dropped) in
      let lives : Lives grid cap (asking_of flights c) (IsVery flights c.wanted) Past Ahead (take new.lines Lines) (drop new.lines Lines) =
      subst (λ (b : Bool). LivesBy b grid cap (asking_of flights c) (IsVery flights c.wanted) Past Ahead (take new.lines Lines) (drop new.lines Lines))
      (sym is) at_next in
      record {
        lives = subst (λ (l : List Asked). Lives grid cap (asking_of flights c) (IsVery flights c.wanted) Past Ahead (take new.lines (behind grid journal l)) (drop new.lines (behind grid journal l))) (sym same) lives;
        come = subst (λ (l : List Asked). IsComeTo grid journal l new) (sym same) (record {
          is_progress = passed Lines progress new c.session e come.is_progress pass here own.own high few;
          live = λ over. omega (arith, lines, low, count, ap length none, over);
          ahead = λ under. none;
        });
      }

  goes_booked : (more : List Asked) (new : Progress) → IsComeTo grid journal asked progress
      → is_call Past (asking_of flights c) ≡ true → slice_get journal progress.lines ≡ None
      → nat_lt (length Lines) cap ≡ true → more ≡ asked ++ asked_for flights c.session c.wanted ∷ []
      → HasPassed progress new c.session → c.session ≤ 8 → length Lines < 999999 → Goes more new
  goes_booked more new come is none room same pass high few =
      let a : Asked = asked_for flights c.session c.wanted in
      let e : Entry = line_for grid Lines a in
      let all : progress.lines ≡ length Lines = come.live (none_past journal progress.lines none) in
      let past_is : Past ≡ Lines = take_all_of Lines progress.lines all in
      let nothing : Ahead ≡ [] = drop_all_of Lines progress.lines all in
      let whole : behind grid journal more ≡ Lines ++ e ∷ [] =
      ap (behind grid journal) same ∙ behind_append grid journal asked (a ∷ []) in
      let lines : new.lines ≡ progress.lines + 1 = pass.lines_are ∙ few_more progress.lines (omega (arith, all, few)) in
      let longer : length (behind grid journal more) ≡ length Lines + 1 = ap length whole ∙ length-append Lines (e ∷ []) in
      let end : new.lines ≡ length (behind grid journal more) = omega (arith, lines, all, longer) in
      let taken : take new.lines (behind grid journal more) ≡ Lines ++ e ∷ [] = take_all_of (behind grid journal more) new.lines end ∙ whole in
      let dropped : drop new.lines (behind grid journal more) ≡ [] = drop_all_of (behind grid journal more) new.lines end in
      let call : (c.number == calls_of Lines c.session + 1) ≡ true = ap (λ (l : List Entry). is_call l (asking_of flights c)) (sym past_is) ∙ is in
      let number : c.number ≡ calls_of Lines c.session + 1 = grind (arith, nat_tests) in
      let same_line : next_line grid Lines c.session c.number (work_of flights c.wanted) ≡ e =
      ap (λ (n : ℕ). next_line grid Lines c.session n (work_of flights c.wanted)) number in
      let booked : behind_asking grid cap Lines (asking_of flights c) ≡ Lines ++ e ∷ [] =
      booked_is call room ∙ ap (λ (d : Entry). Lines ++ d ∷ []) same_line in
      let at_next : LivesNext grid cap (asking_of flights c) (IsVery flights c.wanted) Past Ahead (take new.lines (behind grid journal more)) (drop new.lines (behind grid journal more)) =
      subst (λ (l : List Entry). LivesNext grid cap (asking_of flights c) (IsVery flights c.wanted) Past l (take new.lines (behind grid journal more)) (drop new.lines (behind grid journal more)))
      (sym nothing)
      (taken ∙ sym booked ∙ ap (λ (l : List Entry). behind_asking grid cap l (asking_of flights c)) (sym past_is), dropped) in
      record {
        lives = subst (λ (b : Bool). LivesBy b grid cap (asking_of flights c) (IsVery flights c.wanted) Past Ahead (take new.lines (behind grid journal more)) (drop new.lines (behind grid journal more))) (sym is) at_next;
        come = record {
          is_progress = subst (λ (l : List Entry). IsProgress l new) (sym whole)
              (passed (Lines ++ e ∷ []) progress new c.session e (progress_longer Lines (e ∷ []) progress come.is_progress) pass
              (ap (slice_get (Lines ++ e ∷ [])) all ∙ seam_there Lines e) refl high (omega (arith, few, length-append Lines (e ∷ []))));
          live = λ over. end;
          ahead = λ under. absurd (omega (arith, under, end, longer, behind_length grid journal asked));
        };
      }
    where
      booked_is : is_call Lines (asking_of flights c) ≡ true → nat_lt (length Lines) cap ≡ true
          → behind_asking grid cap Lines (asking_of flights c) ≡ Lines ++ next_line grid Lines c.session c.number (work_of flights c.wanted) ∷ []
      booked_is p q = rw (p, q) refl

  goes_full : (more : List Asked) (new : Progress) → IsComeTo grid journal asked progress
      → is_call Past (asking_of flights c) ≡ true → slice_get journal progress.lines ≡ None
      → nat_lt (length Lines) cap ≡ false → more ≡ asked → new ≡ progress → Goes more new
  goes_full more new come is none full same stays =
      let all : progress.lines ≡ length Lines = come.live (none_past journal progress.lines none) in
      let past_is : Past ≡ Lines = take_all_of Lines progress.lines all in
      let nothing : Ahead ≡ [] = drop_all_of Lines progress.lines all in
      let no_room : nat_lt (length Past) cap ≡ false = ap (λ (l : List Entry). nat_lt (length l) cap) past_is ∙ full in
      let at_next : LivesNext grid cap (asking_of flights c) (IsVery flights c.wanted) Past Ahead Past Ahead =
      subst (λ (l : List Entry). LivesNext grid cap (asking_of flights c) (IsVery flights c.wanted) Past l Past Ahead) (sym nothing)
      (sym (stays_full no_room), nothing) in
      goes_still more new come same stays
      (subst (λ (b : Bool). LivesBy b grid cap (asking_of flights c) (IsVery flights c.wanted) Past Ahead Past Ahead) (sym is) at_next)
    where
      stays_full : nat_lt (length Past) cap ≡ false → behind_asking grid cap Past (asking_of flights c) ≡ Past
      stays_full p = rw (is, p) refl

  -- ---- whichever it is

  room_few : cap ≤ 999999 → length journal + length asked ≤ cap → length Lines ≤ 999999
  room_few small room = omega (arith, small, room, behind_length grid journal asked)

  goes_told : (plan : Plan) (more : List Asked) (new : Progress) → IsComeTo grid journal asked progress
      → is_call Past (asking_of flights c) ≡ false → more ≡ asked ++ option_to_list plan.asked
      → Passes plan.passes progress new c.session → plan.asked ≡ None → plan.passes ≡ false → Goes more new
  goes_told plan more new come other added passes none stays =
      goes_still more new come (added ∙ ap (λ (o : Option Asked). asked ++ option_to_list o) none ∙ append-nil asked)
      (subst (λ (b : Bool). Passes b progress new c.session) stays passes)
      (subst (λ (b : Bool). LivesBy b grid cap (asking_of flights c) (IsVery flights c.wanted) Past Ahead Past Ahead) (sym other)
      (refl, refl))

  goes_live : (plan : Plan) (more : List Asked) (new : Progress) (b : Bool) → IsComeTo grid journal asked progress → c.session ≤ 8
      → is_call Past (asking_of flights c) ≡ true → slice_get journal progress.lines ≡ None → nat_lt (length Lines) cap ≡ b
      → PlansLive b flights c (length Lines) plan → more ≡ asked ++ option_to_list plan.asked
      → Passes plan.passes progress new c.session → cap ≤ 999999 → length journal + length asked ≤ cap → Goes more new
  goes_live plan more new true come high is none room plans added passes small whole =
      let below : length Lines < cap = grind (arith, nat_tests) in
      goes_booked more new come is none room (added ∙ ap (λ (o : Option Asked). asked ++ option_to_list o) plans.asked_is)
      (subst (λ (p : Bool). Passes p progress new c.session) plans.passes passes) high (omega (arith, below, small))
  goes_live plan more new false come high is none full plans added passes small whole =
      goes_full more new come is none full (added ∙ ap (λ (o : Option Asked). asked ++ option_to_list o) plans.none ∙ append-nil asked)
      (subst (λ (p : Bool). Passes p progress new c.session) plans.stays passes)

  goes_next : (plan : Plan) (more : List Asked) (new : Progress) (o : Option Entry) → IsComeTo grid journal asked progress
      → c.session ≤ 8 → is_call Past (asking_of flights c) ≡ true → slice_get journal progress.lines ≡ o
      → PlansNext flights cap c Past Ahead plan → more ≡ asked ++ option_to_list plan.asked
      → Passes plan.passes progress new c.session → cap ≤ 999999 → length journal + length asked ≤ cap → Goes more new
  goes_next plan more new (Some e) come high is at plans added passes small whole =
      let own : PlansAhead flights c e (length Past) plan =
      subst (λ (l : List Entry). PlansNext flights cap c Past l plan) (drop_next Lines progress.lines e (there e at)) plans in
      goes_ahead e more new come is at own.own (added ∙ ap (λ (x : Option Asked). asked ++ option_to_list x) own.none ∙ append-nil asked)
      (subst (λ (p : Bool). Passes p progress new c.session) own.passes passes) high (room_few small whole)
  goes_next plan more new None come high is none plans added passes small whole =
      let all : progress.lines ≡ length Lines = come.live (none_past journal progress.lines none) in
      let live : PlansLive (nat_lt (length Lines) cap) flights c (length Lines) plan =
      subst (λ (l : List Entry). PlansLive (nat_lt (length l) cap) flights c (length l) plan) (take_all_of Lines progress.lines all)
      (subst (λ (l : List Entry). PlansNext flights cap c Past l plan) (drop_all_of Lines progress.lines all) plans) in
      goes_live plan more new (nat_lt (length Lines) cap) come high is none refl live added passes small whole

  pub goes : (desk : Desk) (plan : Plan) (more : List Asked) (new : Progress) → IsComeTo grid journal asked progress → c.session ≤ 8
      → Plans flights cap c desk Past Ahead plan → more ≡ asked ++ option_to_list plan.asked
      → Passes plan.passes progress new c.session → cap ≤ 999999 → length journal + length asked ≤ cap → Goes more new
  goes desk plan more new come high plans added passes small whole =
      by (kind_of (calls_of Past c.session) c.number) refl plans.comes
    where
      by : (k : CallKind) → kind_of (calls_of Past c.session) c.number ≡ k → PlansBy k flights cap c desk Past Ahead plan → Goes more new
      by Next is at =
          goes_next plan more new (slice_get journal progress.lines) come high (is_call_next is) refl at added passes small whole
      by There is at =
          goes_told plan more new come (other_call (calls_of Past c.session) c.number (λ h. there_not_next (sym is ∙ h))) added passes at.none at.stays
      by Beyond is at =
          goes_told plan more new come (other_call (calls_of Past c.session) c.number (λ h. beyond_not_next (sym is ∙ h))) added passes at.none at.stays

-- ---- what is planned is no stranger's

no_call : (b : Bool) (a : Asking) (Very : Work → Type 0) (ahead : List Entry) → b ≡ false → IsStrangeBy b a Very ahead → ⊥
no_call true a Very ahead is strange = absurd (cc is)
no_call false a Very ahead is strange = strange

next_own : (flights : List Flown) (cap : ℕ) (c : Called) (past : List Entry) (b : Bool) (ahead : List Entry) (plan : Plan)
    → PlansNext flights cap c past ahead plan → IsStrangeBy b (asking_of flights c) (IsVery flights c.wanted) ahead → ⊥
next_own flights cap c past true [] plan plans strange = strange
next_own flights cap c past true (e ∷ ahead) plan plans strange = strange plans.own
next_own flights cap c past false ahead plan plans strange = strange

pub planned_own : (flights : List Flown) (cap : ℕ) (c : Called) (desk : Desk) (past ahead : List Entry) (plan : Plan)
    → Plans flights cap c desk past ahead plan → IsStrange (asking_of flights c) (IsVery flights c.wanted) past ahead → ⊥
planned_own flights cap c desk past ahead plan plans strange = by (kind_of (calls_of past c.session) c.number) refl plans.comes
  where
    by : (k : CallKind) → kind_of (calls_of past c.session) c.number ≡ k → PlansBy k flights cap c desk past ahead plan → ⊥
    by Next is at = next_own flights cap c past (is_call past (asking_of flights c)) ahead plan at strange
    by There is at =
        no_call (is_call past (asking_of flights c)) (asking_of flights c) (IsVery flights c.wanted) ahead
        (other_call (calls_of past c.session) c.number (λ h. there_not_next (sym is ∙ h))) strange
    by Beyond is at =
        no_call (is_call past (asking_of flights c)) (asking_of flights c) (IsVery flights c.wanted) ahead
        (other_call (calls_of past c.session) c.number (λ h. beyond_not_next (sym is ∙ h))) strange

-- ---- the line that is ahead

pub own_line : (flights : List Flown) (c : Called) (e : Entry) (b : Bool) → e.session ≡ c.session
    → (IsTrue b → IsVery flights c.wanted e.work) × (IsVery flights c.wanted e.work → IsTrue b)
    → (IsTrue b → IsItsLine (asking_of flights c) (IsVery flights c.wanted) e)
    × (IsItsLine (asking_of flights c) (IsVery flights c.wanted) e → IsTrue b)
own_line flights c e b own very = (λ h. record { own = own; very = very.0 h }, λ h. very.1 h.very)

-- ---- behind the last line

pub room_is : {D : Type 0} (serving : Served D) (pending : Pending) (count room : ℕ) (b : Bool) → b ≡ nat_lt count room
    → count ≡ length pending.asked.items → length serving.journal + room ≡ serving.cap
    → b ≡ nat_lt (length (lines_with serving pending)) serving.cap
room_is serving pending count room b at is whole =
    at ∙ by (nat_lt count room) (nat_lt (length (lines_with serving pending)) serving.cap) refl refl
  where
    long : length (lines_with serving pending) ≡ length serving.journal + length pending.asked.items
    long = behind_length serving.grid serving.journal pending.asked.items

    by : (b c : Bool) → nat_lt count room ≡ b → nat_lt (length (lines_with serving pending)) serving.cap ≡ c → nat_lt count room ≡ nat_lt (length (lines_with serving pending)) serving.cap
    by true true e f = e ∙ sym f
    by false false e f = e ∙ sym f
    by true false e f =
        let less : count < room = grind (arith, nat_tests) in
        let over : serving.cap ≤ length (lines_with serving pending) = grind (arith, nat_tests) in
        absurd (omega (arith, less, over, is, whole, long))
    by false true e f =
        let more : room ≤ count = grind (arith, nat_tests) in
        let under : length (lines_with serving pending) < serving.cap = grind (arith, nat_tests) in
        absurd (omega (arith, more, under, is, whole, long))

pub room_for : {D : Type 0} (serving : Served D) (pending : Pending) (b : Bool)
    → b ≡ nat_lt (length (lines_with serving pending)) serving.cap → b ≡ true
    → length serving.journal + length pending.asked.items < serving.cap
room_for serving pending b is at =
    let below : nat_lt (length (lines_with serving pending)) serving.cap ≡ true = sym is ∙ at in
    let under : length (lines_with serving pending) < serving.cap = grind (arith, nat_tests) in
    omega (arith, under, behind_length serving.grid serving.journal pending.asked.items)

pub booked_plan : (flights served : List Flown) (c : Called) (place : ℕ) (a : Asked) → a ≡ asked_for served c.session c.wanted → served ≡ flights
    → PlansBooked flights c place (record { turn = Line place; asked = Some a; passes = true })
booked_plan flights served c place a is same = record {
  turn_is = refl;
  asked_is = ap Some (is ∙ ap (λ (fs : List Flown). asked_for fs c.session c.wanted) same);
  passes = refl;
}

pub live_booked : {D : Type 0} (flights : List Flown) (serving : Served D) (pending : Pending) (c : Called) (place : ℕ) (plan : Plan) (b : Bool)
    → b ≡ nat_lt (length (lines_with serving pending)) serving.cap → b ≡ true → PlansBooked flights c place plan
    → PlansLive (nat_lt (length (lines_with serving pending)) serving.cap) flights c place plan
live_booked flights serving pending c place plan b same is booked =
    subst (λ (y : Bool). PlansLive y flights c place plan) (sym is ∙ same) booked

pub live_full : {D : Type 0} (flights : List Flown) (serving : Served D) (pending : Pending) (c : Called) (place : ℕ) (plan : Plan) (b : Bool)
    → b ≡ nat_lt (length (lines_with serving pending)) serving.cap → b ≡ false → IsTold (Full c.session c.number) plan
    → PlansLive (nat_lt (length (lines_with serving pending)) serving.cap) flights c place plan
live_full flights serving pending c place plan b same is told =
    subst (λ (y : Bool). PlansLive y flights c place plan) (sym is ∙ same) told

-- ---- what is asked for is right

pub right_none : {D : Type 0} (serving : Served D) (pending : Pending) (plan : Plan) → plan.asked ≡ None → IsRightPlan serving pending plan
right_none serving pending plan none = record {
  right = subst (λ (o : Option Asked). IfSome o (IsRight serving.grid)) (sym none) tt;
  room = subst (λ (o : Option Asked). IfSome o (λ a. length serving.journal + length pending.asked.items < serving.cap)) (sym none) tt;
}

pub right_told : {D : Type 0} (serving : Served D) (pending : Pending) (turn : Turn) (plan : Plan) → IsTold turn plan → IsRightPlan serving pending plan
right_told serving pending turn plan told = right_none serving pending plan told.none

pub right_some : {D : Type 0} (serving : Served D) (pending : Pending) (plan : Plan) (a : Asked) → plan.asked ≡ Some a → IsRight serving.grid a
    → length serving.journal + length pending.asked.items < serving.cap → IsRightPlan serving pending plan
right_some serving pending plan a some right room = record {
  right = subst (λ (o : Option Asked). IfSome o (IsRight serving.grid)) (sym some) right;
  room = subst (λ (o : Option Asked). IfSome o (λ x. length serving.journal + length pending.asked.items < serving.cap)) (sym some) room;
}
