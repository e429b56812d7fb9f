-- A journal beside an older one, one line after the other.
use Rattle.std.proofs.Common.{◌≡◌, ◌==◌, ◌&&◌, ℕ, ◌+◌, ◌<◌, ◌≤◌, Bool, true, false, nat_eq, List, [], ◌∷◌, ◌++◌, length, take, drop, get_or, slice_get, Option, Some, None, refl, sym, ap, subst, ◌∙◌, arith}
use Rattle.std.specs.Cmp.Lexicographic.{pointwise, same_text}
use Rattle.std.specs.Option.{option_eq}
use Rattle.std.proofs.Math.Bool.{beq}
use Rattle.std.proofs.lemmas.List.{length-append, take-append-drop, take_all, take_more}
use Rattle.std.proofs.lemmas.Option.{slice_get_past, slice_get_read}
use Rattle.airline_base.specs.declared.place.Place.{Place}
use Rattle.airline_base.proofs.Tests.{both_true}
use Rattle.seat_journal.specs.declared.entry.Advice.{Advice}
use Rattle.seat_journal.specs.declared.entry.Change.{Change}
use Rattle.seat_journal.specs.declared.entry.Command.{Command}
use Rattle.seat_journal.specs.declared.entry.Entry.{Entry}
use Rattle.seat_journal.specs.declared.entry.SaleChange.{SaleChange}
use Rattle.seat_journal.specs.declared.entry.Work.{Work}
use Rattle.seat_journal.specs.declared.entry.Work.TheVariants.{Seats, Limit, Sale}
use Rattle.seat_limits.proofs.RowIndexing.{same_letter}
use Rattle.seat_rules.specs.Bookings.{same_place}
use Rattle.seat_rules.specs.Prefixes.{Begins}
use Rattle.seat_rules.specs.Replaying.{same_advice}
use Rattle.seat_rules.proofs.History.Faults.{advice_same, list_is, nat_same, place_same, same_nat}
use Rattle.seat_desk.specs.declared.fault.DeskFault.{DeskFault}
use Rattle.seat_desk.specs.declared.fault.DeskFault.TheVariants.{NoBehind}
use Rattle.seat_pickup.specs.Older.{IsNoBeginning, IsNoPast, IsPast, IsTooShortFor, line_there, same_change, same_command, same_line, same_sale, same_work}
use Rattle.seat_pickup.specs.declared.past.Past.{Past}
use Rattle.seat_pickup.specs.declared.past.Past.TheVariants.{Lines}

-- ---- a test of two lines says whether they are one

texts_itself : (xs : List ℕ) → pointwise nat_eq xs xs ≡ true
texts_itself [] = refl
texts_itself (x ∷ xs) = rw (same_nat x, texts_itself xs) refl

place_itself : (p : Place) → same_place p p ≡ true
place_itself p = rw (same_nat p.flight, same_nat p.from, same_nat p.to) refl

may_itself : (p : Option Place) → option_eq same_place p p ≡ true
may_itself None = refl
may_itself (Some p) = place_itself p

places_same : (p q : Option Place) → option_eq same_place p q ≡ true → p ≡ q
places_same None None e = refl
places_same None (Some q) e = absurd cc
places_same (Some p) None e = absurd cc
places_same (Some p) (Some q) e = ap Some (place_same p q e)

command_is : (a b : Command) → a.locator ≡ b.locator → a.place ≡ b.place → a.class ≡ b.class → a.code ≡ b.code
    → a.seats ≡ b.seats → a ≡ b
command_is a b e f g h k = λ i. record { locator = e i; place = f i; class = g i; code = h i; seats = k i }

command_same : (a b : Command) → same_command a b ≡ true → a ≡ b
command_same a b e =
    let four = both_true (pointwise nat_eq a.locator b.locator && option_eq same_place a.place b.place && (a.class == b.class) && pointwise nat_eq a.code b.code) (a.seats == b.seats) e in
    let three = both_true (pointwise nat_eq a.locator b.locator && option_eq same_place a.place b.place && (a.class == b.class)) (pointwise nat_eq a.code b.code) four.0 in
    let two = both_true (pointwise nat_eq a.locator b.locator && option_eq same_place a.place b.place) (a.class == b.class) three.0 in
    let one = both_true (pointwise nat_eq a.locator b.locator) (option_eq same_place a.place b.place) two.0 in
    command_is a b (same_text a.locator b.locator (sym one.0)) (places_same a.place b.place one.1) (nat_same a.class b.class two.1) (same_text a.code b.code (sym three.1)) (nat_same a.seats b.seats four.1)

command_itself : (a : Command) → same_command a a ≡ true
command_itself a = rw (texts_itself a.locator, may_itself a.place, same_nat a.class, texts_itself a.code, same_nat a.seats) refl

change_is : (a b : Change) → a.flight ≡ b.flight → a.leg ≡ b.leg → a.class ≡ b.class → a.limit ≡ b.limit → a.wait ≡ b.wait → a ≡ b
change_is a b e f g h k = λ i. record { flight = e i; leg = f i; class = g i; limit = h i; wait = k i }

change_same : (a b : Change) → same_change a b ≡ true → a ≡ b
change_same a b e =
    let four = both_true ((a.flight == b.flight) && (a.leg == b.leg) && (a.class == b.class) && (a.limit == b.limit)) (a.wait == b.wait) e in
    let three = both_true ((a.flight == b.flight) && (a.leg == b.leg) && (a.class == b.class)) (a.limit == b.limit) four.0 in
    let two = both_true ((a.flight == b.flight) && (a.leg == b.leg)) (a.class == b.class) three.0 in
    let one = both_true (a.flight == b.flight) (a.leg == b.leg) two.0 in
    change_is a b (nat_same a.flight b.flight one.0) (nat_same a.leg b.leg one.1) (nat_same a.class b.class two.1) (nat_same a.limit b.limit three.1) (nat_same a.wait b.wait four.1)

change_itself : (a : Change) → same_change a a ≡ true
change_itself a = rw (same_nat a.flight, same_nat a.leg, same_nat a.class, same_nat a.limit, same_nat a.wait) refl

class_itself : (a : Option ℕ) → option_eq nat_eq a a ≡ true
class_itself None = refl
class_itself (Some a) = same_nat a

marks_same : (a b : Bool) → beq a b ≡ true → a ≡ b
marks_same true true e = refl
marks_same true false e = absurd cc
marks_same false true e = absurd cc
marks_same false false e = refl

mark_itself : (a : Bool) → beq a a ≡ true
mark_itself true = refl
mark_itself false = refl

sale_is : (a b : SaleChange) → a.flight ≡ b.flight → a.leg ≡ b.leg → a.class ≡ b.class → a.closed ≡ b.closed → a ≡ b
sale_is a b e f g h = λ i. record { flight = e i; leg = f i; class = g i; closed = h i }

sale_same : (a b : SaleChange) → same_sale a b ≡ true → a ≡ b
sale_same a b e =
    let three = both_true ((a.flight == b.flight) && (a.leg == b.leg) && option_eq nat_eq a.class b.class) (beq a.closed b.closed) e in
    let two = both_true ((a.flight == b.flight) && (a.leg == b.leg)) (option_eq nat_eq a.class b.class) three.0 in
    let one = both_true (a.flight == b.flight) (a.leg == b.leg) two.0 in
    sale_is a b (nat_same a.flight b.flight one.0) (nat_same a.leg b.leg one.1) (same_letter a.class b.class two.1) (marks_same a.closed b.closed three.1)

sale_itself : (a : SaleChange) → same_sale a a ≡ true
sale_itself a = rw (same_nat a.flight, same_nat a.leg, class_itself a.class, mark_itself a.closed) refl

work_same : (a b : Work) → same_work a b ≡ true → a ≡ b
work_same (Seats a) (Seats b) e = ap Seats (command_same a b e)
work_same (Seats a) (Limit b) e = absurd cc
work_same (Seats a) (Sale b) e = absurd cc
work_same (Limit a) (Seats b) e = absurd cc
work_same (Limit a) (Limit b) e = ap Limit (change_same a b e)
work_same (Limit a) (Sale b) e = absurd cc
work_same (Sale a) (Seats b) e = absurd cc
work_same (Sale a) (Limit b) e = absurd cc
work_same (Sale a) (Sale b) e = ap Sale (sale_same a b e)

work_itself : (a : Work) → same_work a a ≡ true
work_itself (Seats a) = command_itself a
work_itself (Limit a) = change_itself a
work_itself (Sale a) = sale_itself a

advice_itself : (a : Advice) → same_advice a a ≡ true
advice_itself a = rw (same_nat a.number, place_itself a.place, same_nat a.class, same_nat a.seats) refl

advices_itself : (xs : List Advice) → pointwise same_advice xs xs ≡ true
advices_itself [] = refl
advices_itself (x ∷ xs) = rw (advice_itself x, advices_itself xs) refl

line_is : (a b : Entry) → a.number ≡ b.number → a.session ≡ b.session → a.call ≡ b.call → a.work ≡ b.work → a.reply ≡ b.reply
    → a.released ≡ b.released → a.advices ≡ b.advices → a ≡ b
line_is a b e f g h k l m = λ i. record {
  number = e i;
  session = f i;
  call = g i;
  work = h i;
  reply = k i;
  released = l i;
  advices = m i;
}

line_same : (a b : Entry) → same_line a b ≡ true → a ≡ b
line_same a b e =
    let six = both_true ((a.number == b.number) && (a.session == b.session) && (a.call == b.call) && same_work a.work b.work && pointwise nat_eq a.reply b.reply && (a.released == b.released)) (pointwise same_advice a.advices b.advices) e in
    let five = both_true ((a.number == b.number) && (a.session == b.session) && (a.call == b.call) && same_work a.work b.work && pointwise nat_eq a.reply b.reply) (a.released == b.released) six.0 in
    let four = both_true ((a.number == b.number) && (a.session == b.session) && (a.call == b.call) && same_work a.work b.work) (pointwise nat_eq a.reply b.reply) five.0 in
    let three = both_true ((a.number == b.number) && (a.session == b.session) && (a.call == b.call)) (same_work a.work b.work) four.0 in
    let two = both_true ((a.number == b.number) && (a.session == b.session)) (a.call == b.call) three.0 in
    let one = both_true (a.number == b.number) (a.session == b.session) two.0 in
    line_is a b (nat_same a.number b.number one.0) (nat_same a.session b.session one.1) (nat_same a.call b.call two.1) (work_same a.work b.work three.1)
    (same_text a.reply b.reply (sym four.1)) (nat_same a.released b.released five.1) (list_is same_advice advice_same a.advices b.advices six.1)

line_itself : (a : Entry) → same_line a a ≡ true
line_itself a =
    rw (same_nat a.number, same_nat a.session, same_nat a.call, work_itself a.work, texts_itself a.reply, same_nat a.released, advices_itself a.advices) refl

-- ---- one line after the other

module _ (older journal : List Entry) (i : ℕ) (line : Entry) (lt : i < length older) (own : line ≡ get_or older i line)
    (so_far : take i journal ≡ take i older) where
  at : slice_get older i ≡ Some line
  at = slice_get_read older (length older) i line refl lt own

  pub same_more : (there : Entry) → i < length journal → there ≡ get_or journal i there → (told : Bool) → told ≡ same_line there line
      → told ≡ true → take (i + 1) journal ≡ take (i + 1) older
  same_more there inside here told says yes_told =
      let is : there ≡ line = line_same there line (sym says ∙ yes_told) in
      take_more journal i there inside
      ∙ ap (λ (x : Entry). take i journal ++ x ∷ []) (sym here ∙ is)
      ∙ ap (λ (l : List Entry). l ++ line ∷ []) so_far
      ∙ ap (λ (x : Entry). take i older ++ x ∷ []) own
      ∙ sym (take_more older i line lt)

  pub part_here : (there : Entry) → i < length journal → there ≡ get_or journal i there → (told : Bool) → told ≡ same_line there line
      → told ≡ false → IsNoBeginning older journal there.session there.call
  part_here there inside here told says no_told = record {
    place = i;
    named = there;
    part = record {
      within = lt;
      before = so_far;
      there = λ (same : slice_get journal i ≡ slice_get older i). untrue (one (sym found ∙ same ∙ at));
      named_is = ap (λ (o : Option Entry). line_there o (slice_get older i)) found;
    };
    session_is = refl;
    call_is = refl;
  } where
    found : slice_get journal i ≡ Some there
    found = slice_get_read journal (length journal) i there refl inside here

    one : Some there ≡ Some line → there ≡ line
    one e = cc

    untrue : there ≡ line → ⊥
    untrue e =
        let is : same_line there line ≡ true = subst (λ (x : Entry). same_line x line ≡ true) (sym e) (line_itself line) in
        let bad : false ≡ true = sym no_told ∙ says ∙ is in
        cc

  -- the journal has ended
  pub part_end : length journal ≤ i → IsNoBeginning older journal line.session line.call
  part_end past = record {
    place = i;
    named = line;
    part = record {
      within = lt;
      before = so_far;
      there = λ (same : slice_get journal i ≡ slice_get older i). some_is_none (sym (same ∙ at) ∙ none);
      named_is = ap (λ (o : Option Entry). line_there o (slice_get older i)) none ∙ at;
    };
    session_is = refl;
    call_is = refl;
  } where
    none : slice_get journal i ≡ None
    none = slice_get_past journal i past

    some_is_none : Some line ≡ None → ⊥
    some_is_none e = cc

pub begins_all : (older journal : List Entry) (i : ℕ) → length older ≤ i → take i journal ≡ take i older → Begins older journal
begins_all older journal i whole so_far = record {
  rest = drop i journal;
  is = sym (take-append-drop i journal) ∙ ap (λ (l : List Entry). l ++ drop i journal) (so_far ∙ take_all i older whole);
}

pub older_within : (older journal : List Entry) → Begins older journal → length older ≤ length journal
older_within older journal begins = omega (arith, ap length begins.is, length-append older begins.rest)

-- ---- the past

pub too_short : (n : ℕ) (journal : List Entry) → length journal < n → IsTooShortFor n journal NoBehind
too_short n journal short = short

pub lines_past : (past : Past) (n : ℕ) (journal : List Entry) → past ≡ Lines n → n ≤ length journal → IsPast past journal
lines_past past n journal is within = subst (λ (p : Past). IsPast p journal) (sym is) within

pub short_past : (past : Past) (n : ℕ) (journal : List Entry) (fault : DeskFault) → past ≡ Lines n → IsTooShortFor n journal fault
    → IsNoPast past journal fault
short_past past n journal fault is short = subst (λ (p : Past). IsNoPast p journal fault) (sym is) short
