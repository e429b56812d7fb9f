-- What a host sets by itself, one by one, and what is told of it.
use Rattle.std.proofs.Common.{◌≡◌, ◌<◌, ◌≤◌, nat_lt, ℕ, ◌+◌, ◌&&◌, Bool, true, false, List, [], ◌∷◌, ◌++◌, length, map, take, drop, get_or, refl, sym, ap, ◌∙◌, subst, arith, Option, take-append-drop, append_assoc, append-nil, length-append}
use Rattle.std.specs.Prelude.{option_to_list}
use Rattle.std.proofs.lemmas.Bool.Decides.{nat_tests}
use Rattle.std.proofs.lemmas.List.{take_all, take_more}
use Rattle.desk_hall.proofs.Shut.{closings_close_all}
use Rattle.desk_hall.specs.Departed.{closings, closings_from, is_day_given, limits_behind, AreOnLegs}
use Rattle.desk_hall.specs.Halls.{Hallful, IsSameHost, IsSet}
use Rattle.desk_hall.specs.Planning.{control_asked, PlansRow}
use Rattle.desk_pipes.specs.Waiting.{Posted}
use Rattle.desk_serving.specs.Groups.{unclosed_line, AreFirstSet, AreSet, IsAnswered, IsBooked, IsClosed, IsClosedIf, IsClosing, IsTold, IsWordAnswered, IsWordClosed, SaysUnclosed}
use Rattle.desk_serving.specs.declared.closing.Closing.{Closing}
use Rattle.desk_serving.specs.declared.closing.Closing.TheVariants.{Wanting, Whole}
use Rattle.seat_journal.specs.declared.entry.Control.{Control}
use Rattle.seat_journal.specs.declared.entry.Entry.{Entry}
use Rattle.seat_nesting.specs.Nesting.{Ladders}
use Rattle.seat_rules.specs.Journal.{replay}
use Rattle.seat_serving.proofs.Making.{lines_length}
use Rattle.seat_serving.specs.Answering.{behind, lines_for}
use Rattle.seat_serving.specs.Served.{Served}
use Rattle.seat_serving.specs.declared.asked.Asked.{Asked}
use Rattle.ssim_flights.specs.declared.flight.Flight.{Flight as Flown}

module _ {D : Type 0} where
  pub same_not : (old new : Hallful D) → new ≡ old → IsSameHost old new
  same_not old new is = subst (λ (h : Hallful D). IsSameHost old h) (sym is) (record { serving_is = refl; today_is = refl; flights_are = refl; backlogs_are = refl })

  pub same_more : (old mid new : Hallful D) → IsSameHost old mid → IsSameHost mid new → IsSameHost old new
  same_more old mid new a b = record {
    serving_is = b.serving_is ∙ a.serving_is;
    today_is = b.today_is ∙ a.today_is;
    flights_are = b.flights_are ∙ a.flights_are;
    backlogs_are = b.backlogs_are ∙ a.backlogs_are;
  }

  -- ---- what is set

  pub none_first : (old new : Hallful D) (controls : List Control) → new ≡ old → AreFirstSet old controls new
  none_first old new controls is = record { front = []; rest = controls; parts = refl; are_set = is }

  pub first_as : (old new : Hallful D) (controls all : List Control) → AreFirstSet old controls new → controls ≡ all → AreFirstSet old all new
  first_as old new controls all are is = subst (λ (l : List Control). AreFirstSet old l new) is are

  pub set_as : (old new : Hallful D) (controls all : List Control) → AreSet old controls new → controls ≡ all → AreSet old all new
  set_as old new controls all are is = subst (λ (l : List Control). AreSet old l new) is are

  pub none_set : (hall : Hallful D) → AreSet hall [] hall
  none_set hall = refl

  set_on : (old mid new : Hallful D) (controls : List Control) (control : Control) → AreSet old controls mid → IsSet mid new control
      → AreSet old (controls ++ control ∷ []) new
  set_on old mid new [] control a b = (new, subst (λ (h : Hallful D). IsSet h new control) a b, refl)
  set_on old mid new (c ∷ controls) control a b = (a.0, a.1, set_on a.0 mid new controls control a.2 b)

  pub set_more : (old mid new : Hallful D) (controls : List Control) (i : ℕ) (control : Control) → AreSet old (take i controls) mid
      → i < length controls → control ≡ get_or controls i control → IsSet mid new control → AreSet old (take (i + 1) controls) new
  set_more old mid new controls i control a lt here b =
      let longer : take (i + 1) controls ≡ take i controls ++ control ∷ [] =
      take_more controls i control lt ∙ ap (λ (x : Control). take i controls ++ x ∷ []) (sym here) in
      subst (λ (l : List Control). AreSet old l new) (sym longer) (set_on old mid new (take i controls) control a b)

  pub set_up_to : (old mid new : Hallful D) (controls : List Control) (i : ℕ) → AreSet old (take i controls) mid → new ≡ mid
      → AreFirstSet old controls new
  set_up_to old mid new controls i a is = record {
    front = take i controls;
    rest = drop i controls;
    parts = sym (take-append-drop i controls);
    are_set = subst (λ (h : Hallful D). AreSet old (take i controls) h) (sym is) a;
  }

  pub set_all : (old new : Hallful D) (controls : List Control) (i : ℕ) → AreSet old (take i controls) new → length controls ≤ i
      → AreSet old controls new
  set_all old new controls i a over = subst (λ (l : List Control). AreSet old l new) (take_all i controls over) a

  pub still_on : (old mid : Hallful D) (controls : List Control) → AreOnLegs old.flights controls → IsSameHost old mid → AreOnLegs mid.flights controls
  still_on old mid controls on same = subst (λ (fs : List Flown). AreOnLegs fs controls) (sym same.flights_are) on

  -- ---- what it comes to

  set_same : (old new : Hallful D) (controls : List Control) → AreSet old controls new → IsSameHost old new
  set_same old new [] are = same_not old new are
  set_same old new (c ∷ controls) are = same_more old are.0 new are.1.same_host (set_same are.0 new controls are.2)

  -- each is asked for where the journal has room for its line
  set_asked : (old new : Hallful D) (controls : List Control) → AreSet old controls new
      → length old.serving.journal + length old.asked + length controls ≤ old.serving.cap
      → new.asked ≡ old.asked ++ map control_asked controls
  set_asked old new [] are room = ap (λ (h : Hallful D). h.asked) are ∙ sym (append-nil old.asked)
  set_asked old new (c ∷ controls) are room =
      let mid : Hallful D = are.0 in
      let set : IsSet old mid c = are.1 in
      let past : List Entry = behind old.serving.grid old.serving.journal old.asked in
      let long : length past ≡ length old.serving.journal + length old.asked =
      length-append old.serving.journal (lines_for old.serving.grid old.serving.journal old.asked)
      ∙ ap (λ (n : ℕ). length old.serving.journal + n) (lines_length old.serving.grid old.serving.journal old.asked) in
      let fits : nat_lt (length past) old.serving.cap ≡ true = grind (arith, nat_tests, long, room) in
      let planned : PlansRow true past c set.plan = subst (λ (b : Bool). PlansRow b past c set.plan) fits set.plans in
      let one : mid.asked ≡ old.asked ++ control_asked c ∷ [] =
      set.asked_is ∙ ap (λ (o : Option Asked). old.asked ++ option_to_list o) planned.1 in
      let more : length mid.asked ≡ length old.asked + 1 = ap length one ∙ length-append old.asked (control_asked c ∷ []) in
      let still : length mid.serving.journal + length mid.asked + length controls ≤ mid.serving.cap =
      subst (λ (s : Served D). length s.journal + length mid.asked + length controls ≤ s.cap) (sym set.same_host.serving_is)
      (omega (arith, more, room)) in
      set_asked mid new controls are.2 still ∙ ap (λ (l : List Asked). l ++ map control_asked controls) one
      ∙ append_assoc old.asked (control_asked c ∷ []) (map control_asked controls)

  -- and none has a class open behind their lines
  none_left : (old mid new : Hallful D) → old.asked ≡ [] → AreSet old (closings old) mid → IsAnswered mid new
      → length old.serving.journal + length (closings old) ≤ old.serving.cap → closings new ≡ []
  none_left old mid new none are answered room =
      let all : List Control = closings old in
      let same : IsSameHost old mid = set_same old mid all are in
      let booked : IsBooked mid answered.mid = answered.booked in
      let told : IsTold answered.mid new = answered.told in
      let g : Ladders = old.serving.grid in
      let past : List Entry = old.serving.journal in
      let fits : length past + length old.asked + length all ≤ old.serving.cap = omega (arith, ap length none, room) in
      let asked : mid.asked ≡ map control_asked all =
      set_asked old mid all are fits ∙ ap (λ (l : List Asked). l ++ map control_asked all) none in
      let journal : new.serving.journal ≡ behind g past (map control_asked all) =
      ap (λ (s : Served D). s.journal) told.serving_is ∙ booked.journal_is
      ∙ ap (λ (s : Served D). behind s.grid s.journal mid.asked) same.serving_is ∙ ap (behind g past) asked in
      let grid : new.serving.grid ≡ g =
      ap (λ (s : Served D). s.grid) told.serving_is ∙ booked.same.grid_is ∙ ap (λ (s : Served D). s.grid) same.serving_is in
      let today : new.today ≡ old.today = told.today_is ∙ booked.same.today_is ∙ same.today_is in
      let flights : new.flights ≡ old.flights = told.flights_are ∙ booked.same.flights_are ∙ same.flights_are in
      ap (λ (l : List Entry). closings_from (replay new.serving.grid l).grid new.today 0 new.flights) journal
      ∙ ap (λ (l : Ladders). closings_from (replay l (behind g past (map control_asked all))).grid new.today 0 new.flights) grid
      ∙ ap (λ (n : ℕ). closings_from (limits_behind g past all) n 0 new.flights) today
      ∙ ap (λ (fs : List Flown). closings_from (limits_behind g past all) old.today 0 fs) flights
      ∙ closings_close_all g past old.today old.flights

  pub none_asked : (old new : Hallful D) → IsWordAnswered old new → new.asked ≡ []
  none_asked old new a = a.answered.told.asked_is ∙ a.answered.booked.none_asked

  -- ---- what is told of it

  pub closed_whole : (old mid new : Hallful D) → old.asked ≡ [] → AreSet old (closings old) mid → IsAnswered mid new → IsClosing old new Whole
  closed_whole old mid new none a b = record { mid = mid; closed = a; answered = b; none_left = none_left old mid new none a b }

  pub closed_wanting : (old mid new : Hallful D) (text told : Posted) → AreFirstSet old (closings old) mid → IsAnswered mid new
      → SaysUnclosed text → told ≡ text → IsClosing old new (Wanting told)
  closed_wanting old mid new text told a b says is =
      record { mid = mid; closed = (a, subst SaysUnclosed (sym is) says); answered = b; none_left = tt }

  pub closed_so : (old new : Hallful D) (closes : Bool) (closing : Closing) → closes ≡ true → IsClosing old new closing
      → IsClosedIf closes old new
  closed_so old new closes closing is_so a = subst (λ (t : Bool). IsClosedIf t old new) (sym is_so) (record { closing = closing; is = a })

  pub closed_not : (old new : Hallful D) (closes : Bool) → closes ≡ false → new ≡ old → IsClosedIf closes old new
  closed_not old new closes not is = subst (λ (t : Bool). IsClosedIf t old new) (sym not) is

  pub word_closed : (old mid new : Hallful D) (closes is_to_close : Bool) → IsWordAnswered old mid → IsClosedIf is_to_close mid new
      → is_to_close ≡ (closes && is_day_given old.turns) → IsWordClosed closes old new
  word_closed old mid new closes is_to_close a b is =
      record { mid = mid; answered = a; closed = subst (λ (t : Bool). IsClosedIf t mid new) is b }

pub says_unclosed : (told : Posted) → told.session ≡ 0 → told.text ≡ unclosed_line → SaysUnclosed told
says_unclosed told whose is = record { session_is = whose; text_is = is }
