-- Journals of other flights, one behind the other.
use Rattle.std.proofs.Math.ListN.{get_or-append}
use Rattle.std.proofs.Math.Seq.{get_or-append_seam}
use Rattle.std.proofs.Common.{◌≡◌, ◌≢◌, ◌==◌, ◌||◌, inl, inr, ℕ, zero, suc, ◌+◌, ◌<◌, ◌≤◌, Bool, true, false, nat_lt, List, [], ◌∷◌, ◌++◌, find, length, map, Option, Some, None, IfSome, option_map, if◌then◌else◌, arith, refl, ap, sym, subst, ◌∙◌, length-append, append_assoc}
use Rattle.std.specs.List.{sum_by}
use Rattle.std.proofs.lemmas.Bool.Decides.{nat_tests}
use Rattle.std.proofs.lemmas.List.{append-nil, get_or_past}
use Rattle.std.proofs.lemmas.List.Sums.{sum_by_push}
use Rattle.airline_base.specs.Noting.{noted}
use Rattle.seat_nesting.specs.Nesting.{Ladders}
use Rattle.seat_journal.specs.declared.entry.Entry.{Entry}
use Rattle.seat_journal.specs.declared.entry.Work.{Work}
use Rattle.seat_rules.specs.Agreement.{totals_in}
use Rattle.seat_rules.specs.Flights.{flight_of, is_flight, is_on}
use Rattle.seat_rules.specs.Journal.{IsLegal}
use Rattle.seat_rules.specs.Totals.{totals_of, confirmed_by, released_by}
use Rattle.seat_rules.specs.declared.totals.Totals.{Totals}
use Rattle.seat_rules.proofs.History.Faults.{nat_same}
use Rattle.seat_rules.proofs.History.Legal.{legal_nil}
use Rattle.seat_desk.specs.AuditDesk.{most_lines}
use Rattle.seat_parts.specs.OwnLines.{of_flight}
use Rattle.seat_shards.specs.declared.fault.ShardFault.{ShardFault}
use Rattle.seat_shards.specs.declared.fault.ShardFault.TheVariants.{Desk, Journal, Shared}
use Rattle.taken_journals.specs.declared.taken.Taken.{Taken}
use Rattle.seat_shards.specs.Shards.{AreApart, AreShards, journal_at}
use Rattle.taken_journals.specs.Owners.{first_owned, first_shared, has_line, is_owned, owner_among, owner_at, owner_from, owner_in, owner_of_flight, AreOwners}
use Rattle.taken_journals.specs.Taken.{both_of, IsNone}
use Rattle.seat_shards.specs.Taking.{known, AreShardTexts, AreTakenOn, AreTexts, AreTotalled, HasFailedAmong, HasFailedOn, HasRisenBehind, IsFirstRefused, IsRefusedOn, IsTakenWith, IsTextOf, Merge, RefusedOn, RefusesBehind, RefusesMore, RisenOn, TakenOn}
use Rattle.seat_shards.proofs.Merged.{merged_is_legal}
use Rattle.seat_shards.proofs.Sums.{merged_totals}

-- ---- the steps of the recursion

pub taken_none : (grid : Ladders) (taken : Taken) → AreTakenOn grid [] taken taken
taken_none grid taken = record { each = refl }

pub taken_more : (grid : Ladders) (text : Option (List ℕ)) (texts : List (Option (List ℕ))) (old mid new : Taken)
    → IfSome text (IsTakenWith grid old mid) → AreTakenOn grid texts mid new
    → AreTakenOn grid (text ∷ texts) old new
taken_more grid text texts old mid new one more = record { each = (mid, one, more.each) }

pub refused_here : (grid : Ladders) (text : Option (List ℕ)) (texts : List (Option (List ℕ))) (old : Taken) (fault : ShardFault)
    → IfSome text (RefusesMore grid old fault) → IsRefusedOn grid (text ∷ texts) old fault
refused_here grid text texts old fault is = record { first = inl is }

pub refused_later : (grid : Ladders) (text : Option (List ℕ)) (texts : List (Option (List ℕ))) (old mid : Taken) (fault : ShardFault)
    → IfSome text (IsTakenWith grid old mid) → IsRefusedOn grid texts mid fault
    → IsRefusedOn grid (text ∷ texts) old fault
refused_later grid text texts old mid fault one is = record { first = inr (mid, one, is.first) }

pub failed_here : {D : Type 0} → (grid : Ladders) (text : Option (List ℕ)) (texts : List (Option (List ℕ))) (taken : Taken)
    (failures : D → ℕ) (old new : D) (olds news : List D) → failures new ≡ noted (failures old)
    → HasFailedOn grid (text ∷ texts) taken failures (old ∷ olds) (new ∷ news)
failed_here grid text texts taken failures old new olds news is = record { first = inl is }

pub failed_later : {D : Type 0} → (grid : Ladders) (text : Option (List ℕ)) (texts : List (Option (List ℕ))) (taken mid : Taken)
    (failures : D → ℕ) (old new : D) (olds news : List D) → IfSome text (IsTakenWith grid taken mid)
    → HasFailedOn grid texts mid failures olds news
    → HasFailedOn grid (text ∷ texts) taken failures (old ∷ olds) (new ∷ news)
failed_later grid text texts taken mid failures old new olds news one more = record { first = inr (mid, one, more.first) }

-- of devices that are the first and the rest
pub failed_behind : {D : Type 0} → (grid : Ladders) (remaining : D → Option (List ℕ)) (taken mid : Taken) (failures : D → ℕ)
    (all : List D) (old new : D) (olds news : List D) → all ≡ old ∷ olds → IfSome (remaining old) (IsTakenWith grid taken mid)
    → HasFailedOn grid (map remaining olds) mid failures olds news
    → HasFailedOn grid (map remaining all) taken failures all (new ∷ news)
failed_behind {D} grid remaining taken mid failures all old new olds news is one more =
    let P : List D → Type 0 = λ l. HasFailedOn grid (map remaining l) taken failures l (new ∷ news) in
    subst P (sym is) (failed_later grid (remaining old) (map remaining olds) taken mid failures old new olds news one more)

pub taken_behind : {D : Type 0} → (grid : Ladders) (remaining : D → Option (List ℕ)) (old mid new : Taken) (all : List D) (one : D)
    (later : List D) → all ≡ one ∷ later → IfSome (remaining one) (IsTakenWith grid old mid) → AreTakenOn grid (map remaining later) mid new
    → AreTakenOn grid (map remaining all) old new
taken_behind {D} grid remaining old mid new all one later is first more =
    subst (λ (l : List D). AreTakenOn grid (map remaining l) old new) (sym is)
    (taken_more grid (remaining one) (map remaining later) old mid new first more)

pub refused_among_later : {D : Type 0} → (grid : Ladders) (remaining : D → Option (List ℕ)) (old mid : Taken) (fault : ShardFault)
    (all : List D) (one : D) (later : List D) → all ≡ one ∷ later → IfSome (remaining one) (IsTakenWith grid old mid)
    → IsRefusedOn grid (map remaining later) mid fault → IsRefusedOn grid (map remaining all) old fault
refused_among_later {D} grid remaining old mid fault all one later is first more =
    subst (λ (l : List D). IsRefusedOn grid (map remaining l) old fault) (sym is)
    (refused_later grid (remaining one) (map remaining later) old mid fault first more)

-- ---- lines on a flight

left_false : (a b : Bool) → (a || b) ≡ false → a ≡ false
left_false true b e = absurd (cc e)
left_false false b e = refl

right_false : (a b : Bool) → (a || b) ≡ false → b ≡ false
right_false true b e = absurd (cc e)
right_false false b e = e

has_none : (f : ℕ) (xs : List Entry) → has_line f xs ≡ false → of_flight f xs ≡ []
has_none f [] h = refl
has_none f (e ∷ xs) h = cases (is_on f e.work) refl (has_none f xs) where
  cases : (t : Bool) → is_on f e.work ≡ t → (has_line f xs ≡ false → of_flight f xs ≡ []) → of_flight f (e ∷ xs) ≡ []
  cases true on rest = let none : true ≡ false = sym on ∙ left_false (is_on f e.work) (has_line f xs) h in absurd (cc none)
  cases false off rest =
      let left : of_flight f (e ∷ xs) ≡ of_flight f xs = rw off refl in
      left ∙ rest (right_false (is_on f e.work) (has_line f xs) h)

-- none of the journals has a line on a flight without an owner
none_from : (n f : ℕ) (journals : List (List Entry)) (i : ℕ) → 1 ≤ n → owner_from n journals f ≡ 0
    → of_flight f (journal_at journals i) ≡ []
none_from n f [] i pos h = refl
none_from n f (j ∷ journals) i pos h = cases (has_line f j) refl i (none_from (n + 1) f journals) where
  cases : (t : Bool) → has_line f j ≡ t → (i : ℕ)
      → ((k : ℕ) → 1 ≤ n + 1 → owner_from (n + 1) journals f ≡ 0 → of_flight f (journal_at journals k) ≡ [])
      → of_flight f (journal_at (j ∷ journals) i) ≡ []
  cases true on i rest =
      let is : owner_from n (j ∷ journals) f ≡ n = rw on refl in
      absurd (omega (arith, pos, h, is))
  cases false off zero rest = has_none f j off
  cases false off (suc i) rest =
      let is : owner_from n (j ∷ journals) f ≡ owner_from (n + 1) journals f = rw off refl in
      rest i (omega arith) (sym is ∙ h)

from_push : (n f : ℕ) (journals : List (List Entry)) (j : List Entry) → 1 ≤ n → (has_line f j ≡ true → owner_from n journals f ≡ 0)
    → owner_from n (journals ++ j ∷ []) f ≡ (if has_line f j then n + length journals else owner_from n journals f)
from_push n f [] j pos apart = cases (has_line f j) refl where
  cases : (t : Bool) → has_line f j ≡ t → owner_from n (j ∷ []) f ≡ (if has_line f j then n + 0 else 0)
  cases true on = let last : n ≡ n + 0 = omega arith in rw on last
  cases false off = rw off refl
from_push n f (k ∷ journals) j pos apart = cases (has_line f k) refl (from_push (n + 1) f journals j (omega arith)) where
  cases : (t : Bool) → has_line f k ≡ t
      → ((has_line f j ≡ true → owner_from (n + 1) journals f ≡ 0)
      → owner_from (n + 1) (journals ++ j ∷ []) f ≡ (if has_line f j then (n + 1) + length journals else owner_from (n + 1) journals f))
      → owner_from n (k ∷ (journals ++ j ∷ [])) f ≡ (if has_line f j then n + length (k ∷ journals) else owner_from n (k ∷ journals) f)
  cases true on rest = inner (has_line f j) refl where
    is : owner_from n (k ∷ journals) f ≡ n
    is = rw on refl

    inner : (u : Bool) → has_line f j ≡ u
        → owner_from n (k ∷ (journals ++ j ∷ [])) f ≡ (if has_line f j then n + length (k ∷ journals) else owner_from n (k ∷ journals) f)
    inner true has = absurd (omega (arith, pos, apart has, is))
    inner false has =
        let left : owner_from n (k ∷ (journals ++ j ∷ [])) f ≡ n = rw on refl in
        let right : (if has_line f j then n + length (k ∷ journals) else owner_from n (k ∷ journals) f) ≡ owner_from n (k ∷ journals) f = rw has refl in
        left ∙ sym (right ∙ is)
  cases false off rest =
      let is : owner_from n (k ∷ journals) f ≡ owner_from (n + 1) journals f = rw off refl in
      let left : owner_from n (k ∷ (journals ++ j ∷ [])) f ≡ owner_from (n + 1) (journals ++ j ∷ []) f = rw off refl in
      let long : (n + 1) + length journals ≡ n + length (k ∷ journals) = omega arith in
      left
      ∙ (rest (λ has. sym is ∙ apart has)
      ∙ (ap (λ (x : ℕ). if has_line f j then x else owner_from (n + 1) journals f) long
      ∙ ap (λ (x : ℕ). if has_line f j then n + length (k ∷ journals) else x) (sym is)))

its_flight : (w : Work) (f : ℕ) → is_on f w ≡ true → flight_of w ≡ Some f
its_flight w f on = by (flight_of w) on where
  by : (o : Option ℕ) → is_flight f o ≡ true → o ≡ Some f
  by None on = absurd (cc on)
  by (Some g) on = ap (λ (x : ℕ). Some x) (nat_same g f on)

-- the tests of a line without a number
none_found : (owners : List ℕ) (xs : List Entry) → first_owned owners xs ≡ None → find (λ e. is_owned owners e.work) xs ≡ None
none_found owners xs none = by (find (λ e. is_owned owners e.work) xs) none where
  by : (o : Option Entry) → option_map {U = ℕ × ℕ} (λ (e : Entry). (e.number, owner_in owners e.work)) o ≡ None → o ≡ None
  by None is = refl
  by (Some e) is = absurd (cc is)

not_less : (n : ℕ) → nat_lt 0 n ≡ false → n ≡ 0
not_less n h = grind (arith, nat_tests)

unowned : (owners : List ℕ) (xs : List Entry) (f : ℕ) → find (λ e. is_owned owners e.work) xs ≡ None → has_line f xs ≡ true
    → owner_at owners f ≡ 0
unowned owners [] f none h = absurd (cc h)
unowned owners (e ∷ xs) f none h = cases (is_owned owners e.work) (is_on f e.work) refl refl (unowned owners xs f) where
  cases : (t u : Bool) → is_owned owners e.work ≡ t → is_on f e.work ≡ u
      → (find (λ e. is_owned owners e.work) xs ≡ None → has_line f xs ≡ true → owner_at owners f ≡ 0) → owner_at owners f ≡ 0
  cases true u p on rest =
      let some : find (λ e. is_owned owners e.work) (e ∷ xs) ≡ Some e = rw p refl in
      let both : Some e ≡ None = sym some ∙ none in
      absurd (cc both)
  cases false true p on rest =
      not_less (owner_at owners f) (sym (ap (λ (o : Option ℕ). nat_lt 0 (owner_of_flight owners o)) (its_flight e.work f on)) ∙ p)
  cases false false p off rest =
      let less : find (λ e. is_owned owners e.work) (e ∷ xs) ≡ find (λ e. is_owned owners e.work) xs = rw p refl in
      let left : has_line f (e ∷ xs) ≡ has_line f xs = rw off refl in
      rest (sym less ∙ none) (sym left ∙ h)

-- ---- one journal more

pub texts_push : (texts : List (List ℕ)) (journals : List (List Entry)) (text : List ℕ) (journal : List Entry)
    → AreTexts texts journals → IsTextOf text journal → AreTexts (texts ++ text ∷ []) (journals ++ journal ∷ [])
texts_push [] [] text journal k is = (is, tt)
texts_push [] (j ∷ journals) text journal k is = absurd k
texts_push (t ∷ texts) [] text journal k is = absurd k
texts_push (t ∷ texts) (j ∷ journals) text journal k is = (k.0, texts_push texts journals text journal k.1 is)

module _ (journals : List (List Entry)) (j : List Entry) where
  at_last : journal_at (journals ++ j ∷ []) (length journals) ≡ j
  at_last = get_or-append_seam journals j [] []

  at_here : (i : ℕ) → (i == length journals) ≡ true → journal_at (journals ++ j ∷ []) i ≡ j
  at_here i e = ap (journal_at (journals ++ j ∷ [])) (nat_same i (length journals) e) ∙ at_last

  at_other : (i : ℕ) → (i == length journals) ≡ false → journal_at (journals ++ j ∷ []) i ≡ journal_at journals i
  at_other i e = cases (nat_lt i (length journals)) refl where
    cases : (t : Bool) → nat_lt i (length journals) ≡ t → journal_at (journals ++ j ∷ []) i ≡ journal_at journals i
    cases true a = let lt : i < length journals = grind (arith, nat_tests) in get_or-append journals (j ∷ []) [] i lt
    cases false a =
        let past : length journals ≤ i = grind (arith, nat_tests) in
        let other : i ≢ length journals = grind (arith, nat_tests) in
        let beyond : length (journals ++ j ∷ []) ≤ i = omega (arith, past, length-append journals (j ∷ []), other) in
        get_or_past (journals ++ j ∷ []) i [] beyond ∙ sym (get_or_past journals i [] past)

  totals_push : totals_in (journals ++ j ∷ []) ≡ both_of (totals_in journals) (totals_of j)
  totals_push = λ i. record {
    lines = sum_by_push (λ (x : List Entry). length x) journals j i;
    confirmed = sum_by_push (λ (x : List Entry). sum_by confirmed_by x) journals j i;
    released = sum_by_push (λ (x : List Entry). sum_by released_by x) journals j i;
  }

  module _ (alone : (f : ℕ) → has_line f j ≡ true → owner_from 1 journals f ≡ 0) where
    not_there : (f i : ℕ) → of_flight f j ≢ [] → of_flight f (journal_at journals i) ≡ []
    not_there f i some = cases (has_line f j) refl where
      cases : (t : Bool) → has_line f j ≡ t → of_flight f (journal_at journals i) ≡ []
      cases true h = none_from 1 f journals i (omega arith) (alone f h)
      cases false h = absurd (some (has_none f j h))

    not_both : (f i : ℕ) → of_flight f (journal_at journals i) ≢ [] → of_flight f j ≡ []
    not_both f i some = cases (has_line f j) refl where
      cases : (t : Bool) → has_line f j ≡ t → of_flight f j ≡ []
      cases true h = absurd (some (none_from 1 f journals i (omega arith) (alone f h)))
      cases false h = has_none f j h

    apart_push : AreApart journals → AreApart (journals ++ j ∷ [])
    apart_push apart = record { each = λ a b f other some. cases a b f other some (a == length journals) (b == length journals) refl refl } where
      cases : (a b f : ℕ) → (a == b) ≡ false → of_flight f (journal_at (journals ++ j ∷ []) a) ≢ [] → (t u : Bool)
          → (a == length journals) ≡ t → (b == length journals) ≡ u → of_flight f (journal_at (journals ++ j ∷ []) b) ≡ []
      cases a b f other some true true x y =
          let same : a ≡ b = nat_same a (length journals) x ∙ sym (nat_same b (length journals) y) in
          let not : a ≢ b = grind (arith, nat_tests) in
          absurd (not same)
      cases a b f other some true false x y =
          ap (of_flight f) (at_other b y) ∙ not_there f b (λ empty. some (ap (of_flight f) (at_here a x) ∙ empty))
      cases a b f other some false true x y =
          ap (of_flight f) (at_here b y) ∙ not_both f a (λ empty. some (ap (of_flight f) (at_other a x) ∙ empty))
      cases a b f other some false false x y =
          ap (of_flight f) (at_other b y) ∙ apart.each a b f other (λ empty. some (ap (of_flight f) (at_other a x) ∙ empty))

    shards_push : (grid : Ladders) (cap : ℕ) → AreShards grid cap journals → IsLegal grid j → length j ≤ cap
        → AreShards grid cap (journals ++ j ∷ [])
    shards_push grid cap k legal few = record {
      legal = λ i. legal_at i (i == length journals) refl;
      few = λ i. few_at i (i == length journals) refl;
      apart = apart_push k.apart;
    }
      where
        legal_at : (i : ℕ) (t : Bool) → (i == length journals) ≡ t → IsLegal grid (journal_at (journals ++ j ∷ []) i)
        legal_at i true e = subst (IsLegal grid) (sym (at_here i e)) legal
        legal_at i false e = subst (IsLegal grid) (sym (at_other i e)) (k.legal i)

        few_at : (i : ℕ) (t : Bool) → (i == length journals) ≡ t → length (journal_at (journals ++ j ∷ []) i) ≤ cap
        few_at i true e = let P : List Entry → Type 0 = λ l. length l ≤ cap in subst P (sym (at_here i e)) few
        few_at i false e = let P : List Entry → Type 0 = λ l. length l ≤ cap in subst P (sym (at_other i e)) (k.few i)

-- ---- all journals

-- what is taken is what these journals come to
pub record IsSum (grid : Ladders) (journals : List (List Entry)) (taken : Taken) : Type 0 where
  pub shards : AreShards grid most_lines journals
  pub owners : AreOwners journals taken.owners.items
  pub count : taken.count ≡ length journals
  pub sums : taken.totals ≡ totals_in journals

none_yet : (grid : Ladders) (cap : ℕ) → AreShards grid cap []
none_yet grid cap = record {
  legal = λ i. legal_nil grid;
  few = λ i. omega arith;
  apart = record { each = λ a b f other some. absurd (some refl) };
}

pub sum_none : (grid : Ladders) (taken : Taken) → IsNone taken → IsSum grid [] taken
sum_none grid taken none = record {
  shards = none_yet grid most_lines;
  owners = record { each = none.owners.each };
  count = none.count;
  sums = none.totals;
}

pub sum_more : (grid : Ladders) (journals : List (List Entry)) (text : List ℕ) (old new : Taken) → IsSum grid journals old
    → (one : IsTakenWith grid old new text) → IsSum grid (journals ++ one.entries ∷ []) new
sum_more grid journals text old new k one = record {
  shards = shards_push journals one.entries alone grid most_lines k.shards one.read.legal one.read.few;
  owners = record {
    each = λ f.
        one.owners.each f
        ∙ (ap (λ (n : ℕ). if has_line f one.entries then n else owner_at old.owners.items f) next
        ∙ (ap (λ (n : ℕ). if has_line f one.entries then 1 + length journals else n) (k.owners.each f)
        ∙ sym (from_push 1 f journals one.entries (omega arith) (alone f))));
  };
  count = omega (arith, one.count, k.count, length-append journals (one.entries ∷ []));
  sums = one.sums
      ∙ (ap (λ (t : Totals). both_of t one.own) k.sums
      ∙ (ap (λ (t : Totals). both_of (totals_in journals) t) one.read.sums ∙ sym (totals_push journals one.entries)));
}
  where
    next : old.count + 1 ≡ 1 + length journals
    next = omega (arith, k.count)

    alone : (f : ℕ) → has_line f one.entries ≡ true → owner_from 1 journals f ≡ 0
    alone f h = sym (k.owners.each f) ∙ unowned old.owners.items one.entries f (none_found old.owners.items one.entries one.apart) h

-- what these texts come to, behind those of these journals
pub record Comes (grid : Ladders) (texts before : List (List ℕ)) (new : Taken) : Type 0 where
  pub journals : List (List Entry)
  pub are_texts : AreTexts (before ++ texts) journals
  pub sum : IsSum grid journals new

comes : (grid : Ladders) (readers : List (Option (List ℕ))) (before : List (List ℕ)) (journals : List (List Entry)) (old new : Taken)
    → AreTexts before journals → IsSum grid journals old → TakenOn grid readers old new
    → IfSome (known readers) (λ texts. Comes grid texts before new)
comes grid [] before journals old new are k is = record {
  journals = journals;
  are_texts = (let P : List (List ℕ) → Type 0 = λ l. AreTexts l journals in subst P (sym (append-nil before)) are);
  sum = subst (IsSum grid journals) (sym is) k;
}
comes grid (None ∷ readers) before journals old new are k is = tt
comes grid (Some text ∷ readers) before journals old new are k is =
    let mid : Taken = is.0 in
    let one : IsTakenWith grid old mid text = is.1 in
    let rest = comes grid readers (before ++ text ∷ []) (journals ++ one.entries ∷ []) mid new (texts_push before journals text one.entries are one.read.is_text) (sum_more grid journals text old mid k one) is.2 in
    by (known readers) rest
  where
    by : (o : Option (List (List ℕ))) → IfSome o (λ texts. Comes grid texts (before ++ text ∷ []) new)
        → IfSome (option_map (λ (known : List (List ℕ)). text ∷ known) o) (λ texts. Comes grid texts before new)
    by None r = tt
    by (Some texts) r = record {
      journals = r.journals;
      are_texts = (let P : List (List ℕ) → Type 0 = λ l. AreTexts l r.journals in subst P (append_assoc before (text ∷ []) texts) r.are_texts);
      sum = r.sum;
    }

merge : (grid : Ladders) (journals : List (List Entry)) (totals : Totals) → AreShards grid most_lines journals
    → totals ≡ totals_in journals → Merge grid journals totals
merge grid journals totals shards sums = record {
  legal = λ mix is. (merged_is_legal grid most_lines journals mix shards is).0;
  sums = λ mix is. merged_totals journals mix is ∙ sym sums;
}

pub all_totalled : (grid : Ladders) (readers : List (Option (List ℕ))) (old new : Taken) → IsNone old → AreTakenOn grid readers old new
    → IfSome (known readers) (λ texts. AreTotalled grid texts new.totals)
all_totalled grid readers old new none is =
    by (known readers) (comes grid readers [] [] old new tt (sum_none grid old none) is.each)
  where
    by : (o : Option (List (List ℕ))) → IfSome o (λ texts. Comes grid texts [] new) → IfSome o (λ texts. AreTotalled grid texts new.totals)
    by None r = tt
    by (Some texts) r = record {
      journals = r.journals;
      are_texts = r.are_texts;
      shards = r.sum.shards;
      sums = r.sum.sums;
      merge = merge grid r.journals new.totals r.sum.shards r.sum.sums;
    }

-- ---- the first that is refused

find_same : (p q : Entry → Bool) (xs : List Entry) → ((e : Entry) → p e ≡ q e) → find p xs ≡ find q xs
find_same p q [] same = refl
find_same p q (e ∷ xs) same = cases (p e) refl (find_same p q xs same) where
  cases : (t : Bool) → p e ≡ t → find p xs ≡ find q xs → find p (e ∷ xs) ≡ find q (e ∷ xs)
  cases true is rest = let too : q e ≡ true = sym (same e) ∙ is in rw (is, too) refl
  cases false is rest = let too : q e ≡ false = sym (same e) ∙ is in rw (is, too) rest

map_same : (p q : Entry → ℕ × ℕ) (o : Option Entry) → ((e : Entry) → p e ≡ q e) → option_map p o ≡ option_map q o
map_same p q None same = refl
map_same p q (Some e) same = ap (λ (x : ℕ × ℕ). Some x) (same e)

owner_same : (journals : List (List Entry)) (owners : List ℕ) → AreOwners journals owners → (o : Option ℕ)
    → owner_of_flight owners o ≡ owner_among journals o
owner_same journals owners k None = refl
owner_same journals owners k (Some f) = k.each f

shared_same : (journals : List (List Entry)) (owners : List ℕ) (xs : List Entry) → AreOwners journals owners
    → first_owned owners xs ≡ first_shared journals xs
shared_same journals owners xs k =
    ap (option_map (λ (e : Entry). (e.number, owner_in owners e.work))) (find_same (λ e. is_owned owners e.work) (λ e. nat_lt 0 (owner_among journals (flight_of e.work))) xs (λ e. ap (nat_lt 0) (owner_same journals owners k (flight_of e.work))))
    ∙ map_same (λ e. (e.number, owner_in owners e.work)) (λ e. (e.number, owner_among journals (flight_of e.work))) (find (λ e. nat_lt 0 (owner_among journals (flight_of e.work))) xs) (λ e. ap (λ (n : ℕ). (e.number, n)) (owner_same journals owners k (flight_of e.work)))

pub refused_behind : (grid : Ladders) (journals : List (List Entry)) (taken : Taken) (text : List ℕ) (fault : ShardFault)
    → IsSum grid journals taken → RefusesMore grid taken fault text → RefusesBehind grid journals text fault
refused_behind grid journals taken text (Desk fault) k r = r
refused_behind grid journals taken text (Journal place fault) k r = (r.0 ∙ ap (λ (n : ℕ). n + 1) k.count, r.1)
refused_behind grid journals taken text (Shared place number other) k r = (
  r.0 ∙ ap (λ (n : ℕ). n + 1) k.count,
  record {
    entries = r.1.entries;
    is_text = r.1.read.is_text;
    legal = r.1.read.legal;
    few = r.1.read.few;
    first = sym (shared_same journals taken.owners.items r.1.entries k.owners) ∙ r.1.first;
  },
)

refused_among : (grid : Ladders) (readers : List (Option (List ℕ))) (before : List (List ℕ)) (journals : List (List Entry)) (old : Taken)
    (fault : ShardFault) → AreTexts before journals → IsSum grid journals old → RefusedOn grid readers old fault
    → IfSome (known readers) (λ texts. IsFirstRefused grid (before ++ texts) fault)
refused_among grid [] before journals old fault are k is = absurd is
refused_among grid (None ∷ readers) before journals old fault are k is = tt
refused_among grid (Some text ∷ readers) before journals old fault are k (inl here) = by (known readers) where
  by : (o : Option (List (List ℕ)))
      → IfSome (option_map (λ (known : List (List ℕ)). text ∷ known) o) (λ texts. IsFirstRefused grid (before ++ texts) fault)
  by None = tt
  by (Some texts) = record {
    before = before;
    text = text;
    behind = texts;
    cut = refl;
    journals = journals;
    are_texts = are;
    shards = k.shards;
    refused = refused_behind grid journals old text fault k here;
  }
refused_among grid (Some text ∷ readers) before journals old fault are k (inr later) =
    let mid : Taken = later.0 in
    let one : IsTakenWith grid old mid text = later.1 in
    let rest = refused_among grid readers (before ++ text ∷ []) (journals ++ one.entries ∷ []) mid fault (texts_push before journals text one.entries are one.read.is_text) (sum_more grid journals text old mid k one) later.2 in
    by (known readers) rest
  where
    by : (o : Option (List (List ℕ))) → IfSome o (λ texts. IsFirstRefused grid ((before ++ text ∷ []) ++ texts) fault)
        → IfSome (option_map (λ (known : List (List ℕ)). text ∷ known) o) (λ texts. IsFirstRefused grid (before ++ texts) fault)
    by None r = tt
    by (Some texts) r =
        let P : List (List ℕ) → Type 0 = λ l. IsFirstRefused grid l fault in
        subst P (append_assoc before (text ∷ []) texts) r

pub one_refused : (grid : Ladders) (readers : List (Option (List ℕ))) (old : Taken) (fault : ShardFault) → IsNone old
    → IsRefusedOn grid readers old fault → IfSome (known readers) (λ texts. IsFirstRefused grid texts fault)
one_refused grid readers old fault none is =
    refused_among grid readers [] [] old fault tt (sum_none grid old none) is.first

-- ---- the first that failed

-- what is taken comes of these texts
record IsOf (grid : Ladders) (taken : Taken) (texts : List (List ℕ)) : Type 0 where
  journals : List (List Entry)
  are_texts : AreTexts texts journals
  sum : IsSum grid journals taken

abbrev pushed : Option (List (List ℕ)) → Option (List ℕ) → Option (List (List ℕ))
pushed None text = None
pushed (Some texts) None = None
pushed (Some texts) (Some text) = Some (texts ++ text ∷ [])

known_push : (before : List (Option (List ℕ))) (text : Option (List ℕ)) → known (before ++ text ∷ []) ≡ pushed (known before) text
known_push [] None = refl
known_push [] (Some text) = refl
known_push (None ∷ before) text = refl
known_push (Some first ∷ before) text =
    ap (option_map (λ (known : List (List ℕ)). first ∷ known)) (known_push before text) ∙ by (known before) text
  where
    by : (o : Option (List (List ℕ))) (text : Option (List ℕ))
        → option_map (λ (known : List (List ℕ)). first ∷ known) (pushed o text)
        ≡ pushed (option_map (λ (known : List (List ℕ)). first ∷ known) o) text
    by None text = refl
    by (Some texts) None = refl
    by (Some texts) (Some text) = refl

one_more : (grid : Ladders) (before : List (Option (List ℕ))) (text : Option (List ℕ)) (old mid : Taken)
    → IfSome (known before) (IsOf grid old) → IfSome text (IsTakenWith grid old mid)
    → IfSome (known (before ++ text ∷ [])) (IsOf grid mid)
one_more grid before text old mid are one =
    let P : Option (List (List ℕ)) → Type 0 = λ o. IfSome o (IsOf grid mid) in
    subst P (sym (known_push before text)) (by (known before) text are one)
  where
    by : (o : Option (List (List ℕ))) (text : Option (List ℕ)) → IfSome o (IsOf grid old) → IfSome text (IsTakenWith grid old mid)
        → IfSome (pushed o text) (IsOf grid mid)
    by None text are one = tt
    by (Some texts) None are one = tt
    by (Some texts) (Some text) are one = record {
      journals = are.journals ++ one.entries ∷ [];
      are_texts = texts_push texts are.journals text one.entries are.are_texts one.read.is_text;
      sum = sum_more grid are.journals text old mid are.sum one;
    }

are_right : (grid : Ladders) (taken : Taken) (o : Option (List (List ℕ))) → IfSome o (IsOf grid taken) → IfSome o (AreShardTexts grid)
are_right grid taken None are = tt
are_right grid taken (Some texts) are = record { journals = are.journals; are_texts = are.are_texts; shards = are.sum.shards }

risen_behind : (grid : Ladders) (before readers : List (Option (List ℕ))) (taken : Taken) (olds news : List ℕ)
    → IfSome (known before) (IsOf grid taken) → RisenOn grid readers taken olds news
    → HasRisenBehind grid before readers olds news
risen_behind grid before [] taken olds news are is = absurd is
risen_behind grid before (text ∷ readers) taken [] news are is = absurd is
risen_behind grid before (text ∷ readers) taken (old ∷ olds) [] are is = absurd is
risen_behind grid before (text ∷ readers) taken (old ∷ olds) (new ∷ news) are (inl here) = inl (are_right grid taken (known before) are, here)
risen_behind grid before (text ∷ readers) taken (old ∷ olds) (new ∷ news) are (inr later) =
    inr (risen_behind grid (before ++ text ∷ []) readers later.0 olds news (one_more grid before text taken later.0 are later.1) later.2)

pub one_failed : {D : Type 0} → (grid : Ladders) (readers : List (Option (List ℕ))) (taken : Taken) (failures : D → ℕ) (olds news : List D)
    → IsNone taken → HasFailedOn grid readers taken failures olds news → HasFailedAmong grid readers failures olds news
one_failed grid readers taken failures olds news none failed =
    risen_behind grid [] readers taken (map failures olds) (map failures news) none_before failed.first
  where
    none_before : IfSome (known []) (IsOf grid taken)
    none_before = record { journals = []; are_texts = tt; sum = sum_none grid taken none }
