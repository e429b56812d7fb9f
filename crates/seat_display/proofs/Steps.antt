-- Each step keeps the rule of what is shown.
use Rattle.std.proofs.Common.{◌≡◌, ◌≢◌, ℕ, ◌+◌, ◌^◌, ◌<◌, List, [], ◌∷◌, ◌++◌, Option, Some, None, length, map, set, fold, true, false, true≢false, refl, ap, sym, subst, ◌∙◌, ⊎_elim, arith, append_assoc, length-append}
use Rattle.std.specs.Prelude.{option_map, is_some, IfSome}
use Rattle.std.proofs.lemmas.List.{append-nil}
use Rattle.std.proofs.lemmas.Bool.Decides.{nat_tests}
use mathlib.Core.Option.{some}
use lib.ListN.{get_elem?}
use Rattle.logbook.specs.Pages.{Book}
use Rattle.crossbeam_utils.specs.Register.{Admits, Turns, TurnsAt, Forks, Merges}
use Rattle.atomic_table.proofs.Lists.{at_set, at_snoc}
use Rattle.seat_nesting.specs.Nesting.{Ladders}
use Rattle.seat_nesting.specs.Counting.{Counted, limits_of, table_of}
use Rattle.seat_journal.specs.declared.entry.Entry.{Entry}
use Rattle.seat_rules.specs.Journal.{IsLegal}
use Rattle.seat_rules.proofs.History.Prefixes.{begins_longer}
use Rattle.seat_rules.proofs.History.Legal.{legal_nil, legal_prefix}
use Rattle.seat_rules.specs.Showing.{Standing, shown, standing_of, unsold}
use Rattle.std.proofs.lemmas.List.Sums.{fold_push}
use Rattle.seat_display.specs.declared.table.Table.{Table}
use Rattle.seat_display.specs.declared.table.Op.{Op}
use Rattle.seat_display.specs.declared.table.Op.TheVariants.{Line, Mark}
use Rattle.seat_display.specs.declared.table.View.{View}
use Rattle.seat_display.specs.Shown.{counters_of, standing_in, tidied, left_by, counts_after, one_more, apply, entries_of, nobody, Leaves, IsEmptyTable, KnowsRight, Follows, Kept, Sees, Ready, informed}
use Rattle.seat_rules.proofs.Counters.Shown.{lacks_replay, shown_is_held}
use Rattle.seat_display.proofs.Tidy.{IsOnLadders, written, own}

off : false ≡ true → ⊥
off e = true≢false (sym e)

right_nobody : (grid : Ladders) (x : Table) → KnowsRight grid x nobody
right_nobody grid x e = absurd (off e)

right_set : (grid : Ladders) (x : Table) (views : List View) (seat : ℕ) (w : View)
    → ((j : ℕ) (u : View) → get_elem? views j ≡ some u → KnowsRight grid x u) → KnowsRight grid x w
    → (j : ℕ) (u : View) → get_elem? (set views seat w) j ≡ some u → KnowsRight grid x u
right_set grid x views seat w others mine j u e =
    ⊎_elim (λ (t : (j ≡ seat) × (w ≡ u)). subst (KnowsRight grid x) t.1 mine) (λ (t : (j ≢ seat) × (get_elem? views j ≡ some u)). others j u t.1) (at_set views seat j w u e)

right_snoc : (grid : Ladders) (x : Table) (views : List View) (w : View)
    → ((j : ℕ) (u : View) → get_elem? views j ≡ some u → KnowsRight grid x u) → KnowsRight grid x w
    → (j : ℕ) (u : View) → get_elem? (views ++ w ∷ []) j ≡ some u → KnowsRight grid x u
right_snoc grid x views w others mine j u e =
    ⊎_elim (λ was. others j u was) (λ (same : w ≡ u). subst (KnowsRight grid x) same mine) (at_snoc views w u j e)

-- ---- the rule

pub begins : (x : Table) (grid : Ladders) (book : Book) → IsEmptyTable x grid book → Kept x (nobody ∷ [])
begins x grid book h = record {
  grid = grid;
  leaves = h.leaves;
  each = right_snoc grid x [] nobody (λ i v none. absurd (cc none)) (right_nobody grid x);
}

pub admits : Admits Kept nobody
admits x views h = record { grid = h.grid; leaves = h.leaves; each = right_snoc h.grid x views nobody h.each (right_nobody h.grid x) }

-- a change of the table to one that is right too
pub turns : (seat : ℕ) (v : View) (x y : Table) → Follows v x y → TurnsAt Kept seat v x y Sees
turns seat v x y f views h at =
    let grid : Ladders = h.grid in
    let w : View = record { knows = true; grid = grid; seen = y.seen } in
    let mine : KnowsRight grid x v = h.each seat v at in
    let leaves : Leaves grid y = f.leaves grid (λ e. (mine e).0) h.leaves in
    let move : (u : View) → KnowsRight grid x u → KnowsRight grid y u = λ u k e. ((k e).0, (k e).1 ∙ sym f.book) in (
      w,
      record { grid = grid; leaves = leaves; each = right_set grid y views seat w (λ j u e. move u (h.each j u e)) (λ e. (refl, refl)) },
      record { leaves = leaves; known = (refl, refl); before = move v mine },
    )

pub looks : (seat : ℕ) (v : View) → Turns Kept seat v (λ x. x) Sees
looks seat v x = turns seat v x x (record { leaves = λ grid e l. l; book = refl })

pub forks : (seat : ℕ) (v : View) → Forks Kept seat v v v
forks seat v x views h at =
    let mine = h.each seat v at in
    record { grid = h.grid; leaves = h.leaves; each = right_snoc h.grid x (set views seat v) v (right_set h.grid x views seat v h.each mine) mine }

pub merges : (seat : ℕ) (v : View) (other : ℕ) (w : View) → Merges Kept seat v other w (informed v w) nobody
merges seat v other w x views h at apart there =
    let theirs : KnowsRight h.grid x w =
    ⊎_elim (λ (t : (other ≡ seat) × (w ≡ w)). absurd (apart t.0)) (λ (t : (other ≢ seat) × (get_elem? views other ≡ some w)). h.each other w t.1) (at_set views seat other w w there) in
    record {
      grid = h.grid;
      leaves = h.leaves;
      each = right_set h.grid x (set views seat w) other nobody (right_set h.grid x views seat w h.each theirs) (right_nobody h.grid x);
    }

-- ---- tables and histories

-- the limits and the seats that a history leaves, entry after entry
left_next : (grid : Ladders) (past : List Entry) (e : Entry) → IsLegal grid (past ++ e ∷ [])
    → shown (left_by grid past) e ≡ left_by grid (past ++ e ∷ [])
left_next grid past e legal =
    let before = legal_prefix grid past (past ++ e ∷ []) (begins_longer past (e ∷ [])) legal in
    ap (λ (s : Standing). shown s e) (sym (shown_is_held grid past before)) ∙ sym (fold_push shown (unsold grid) past e) ∙ shown_is_held grid (past ++ e ∷ []) legal

-- the seats stand at the classes of their legs
left_on : (grid : Ladders) (journal : List Entry)
    → IsOnLadders (left_by grid journal).limits (left_by grid journal).seats
left_on grid journal = record { none = lacks_replay grid journal }

-- counters that stand so, where there are any
abbrev Stand : Option Counted → Standing → Type 0
Stand counts s = IfSome counts (λ c. standing_of c ≡ s)

next_if : (n : ℕ) → n + 1 < 2 ^ 32 → one_more n ≡ n + 1
next_if n lt = grind (arith, nat_tests)

-- the counters that a list leaves, where there are counters at all
abbrev left_in : Option Counted → Ladders → List Entry → Option Counted
left_in counts grid log = option_map (λ (c : Counted). counters_of (left_by grid log)) counts

left_stand : (counts : Option Counted) (grid : Ladders) (log : List Entry)
    → Stand (left_in counts grid log) (left_by grid log)
left_stand None grid log = tt
left_stand (Some c) grid log = written (left_by grid log) (left_on grid log)

left_is : (counts : Option Counted) (grid : Ladders) (log : List Entry) → Stand counts (left_by grid log)
    → option_map counters_of (standing_in counts) ≡ left_in counts grid log
left_is None grid log h = refl
left_is (Some c) grid log h = ap (λ (s : Standing). Some (counters_of s)) h

-- the table, so written, whose counters are those that a list leaves
abbrev pub counted : Ladders → Table → List Entry → Table
counted grid t log = record {
  opening = t.opening;
  counts = option_map (λ (c : Counted). counters_of (left_by grid log)) t.counts;
  lines = length log;
  seen = t.seen;
}

table_is : (c d : Option Counted) (n m : ℕ) (t : Table) → c ≡ d → n ≡ m
    → let x : Table = record { opening = t.opening; counts = c; lines = n; seen = t.seen } in let y : Table = record
    { opening = t.opening; counts = d; lines = m; seen = t.seen } in x ≡ y
table_is c d n m t p q i = record { opening = t.opening; counts = p i; lines = q i; seen = t.seen }

-- a right table is the one that its history leaves
counted_is : (grid : Ladders) (x : Table) → Leaves grid x → tidied x ≡ counted grid x x.seen.log
counted_is grid x h = table_is _ _ _ _ x (left_is x.counts grid x.seen.log h.standing) h.lines

-- one entry more, where it is the next one
counts_next : (counts : Option Counted) (grid : Ladders) (log : List Entry) (e : Entry) → IsLegal grid (log ++ e ∷ [])
    → counts_after (left_in counts grid log) e ≡ left_in counts grid (log ++ e ∷ [])
counts_next None grid log e legal = refl
counts_next (Some c) grid log e legal =
    ap (λ (s : Standing). Some (counters_of (shown s e))) (written (left_by grid log) (left_on grid log)) ∙ ap (λ (s : Standing). Some (counters_of s)) (left_next grid log e legal)

show_next : (grid : Ladders) (t : Table) (log : List Entry) (e : Entry) → IsLegal grid (log ++ e ∷ [])
    → length log + 1 < 2 ^ 32
    → apply (counted grid t log) (Line e) ≡ counted grid t (log ++ e ∷ [])
show_next grid t log e legal short =
    let lines : one_more (length log) ≡ length (log ++ e ∷ []) = next_if (length log) short ∙ sym (omega (arith, length-append log (e ∷ []))) in
    table_is _ _ _ _ t (counts_next t.counts grid log e legal) lines

-- the table of a legal history is what its entries leave, one after another
shows : (grid : Ladders) (t : Table) (log es : List Entry) → IsLegal grid (log ++ es) → length (log ++ es) < 2 ^ 32
    → fold apply (counted grid t log) (map Line es) ≡ counted grid t (log ++ es)
shows grid t log [] legal short = ap (counted grid t) (sym (append-nil log))
shows grid t log (e ∷ es) legal short =
    let step : (log ++ e ∷ []) ++ es ≡ log ++ e ∷ es = append_assoc log (e ∷ []) es in
    let legal' : IsLegal grid ((log ++ e ∷ []) ++ es) = subst (IsLegal grid) (sym step) legal in
    let front : IsLegal grid (log ++ e ∷ []) = legal_prefix grid (log ++ e ∷ []) ((log ++ e ∷ []) ++ es) (begins_longer (log ++ e ∷ []) es) legal' in
    let n = length-append log (e ∷ es) in
    let now : apply (counted grid t log) (Line e) ≡ counted grid t (log ++ e ∷ []) = show_next grid t log e front (omega (arith, n, short)) in
    let rest = shows grid t (log ++ e ∷ []) es legal' (subst (λ l. length l < 2 ^ 32) (sym step) short) in
    ap (λ u. fold apply u (map Line es)) now ∙ rest ∙ ap (counted grid t) step

fold-snoc : (t : Table) (ops : List Op) (o : Op) → fold apply t (ops ++ o ∷ []) ≡ apply (fold apply t ops) o
fold-snoc t [] o = refl
fold-snoc t (p ∷ ops) o = fold-snoc (apply t p) ops o

-- ---- a table and its so written form

stand_tidied : (counts : Option Counted) (s : Standing) → Stand (option_map counters_of (standing_in counts)) s
    → Stand counts s
stand_tidied None s h = h
stand_tidied (Some c) s h = sym (own c) ∙ h

stand_of_tidied : (counts : Option Counted) (s : Standing) → Stand counts s
    → Stand (option_map counters_of (standing_in counts)) s
stand_of_tidied None s h = h
stand_of_tidied (Some c) s h = own c ∙ h

-- it is right where the form is, and the other way round
leaves_tidied : (grid : Ladders) (x : Table) → Leaves grid (tidied x) → Leaves grid x
leaves_tidied grid x h = record {
  legal = h.legal;
  opening = h.opening;
  standing = stand_tidied x.counts (left_by grid x.seen.log) h.standing;
  lines = h.lines;
}

leaves_of_tidied : (grid : Ladders) (x : Table) → Leaves grid x → Leaves grid (tidied x)
leaves_of_tidied grid x h = record {
  legal = h.legal;
  opening = h.opening;
  standing = stand_of_tidied x.counts (left_by grid x.seen.log) h.standing;
  lines = h.lines;
}

-- a table with this form
leaves_as : (grid : Ladders) (x y : Table) → tidied x ≡ y → Leaves grid y → Leaves grid x
leaves_as grid x y is h = leaves_tidied grid x (subst (Leaves grid) (sym is) h)

pub follows_as : (v : View) (x y z : Table) → tidied z ≡ y → Follows v x y → Follows v x z
follows_as v x y z is f = record {
  leaves = λ grid e l. leaves_as grid z y is (f.leaves grid e l);
  book = ap (λ (t : Table). t.seen.book) is ∙ f.book;
}

-- ---- the publisher between two calls

pub entries-snoc : (ops : List Op) (e : Entry) → entries_of (ops ++ Line e ∷ []) ≡ entries_of ops ++ e ∷ []
entries-snoc [] e = refl
entries-snoc (Line x ∷ ops) e = ap (λ l. x ∷ l) (entries-snoc ops e)
entries-snoc (Mark s ∷ ops) e = entries-snoc ops e

map-snoc : (es : List Entry) (e : Entry) → map Line (es ++ e ∷ []) ≡ map Line es ++ Line e ∷ []
map-snoc [] e = refl
map-snoc (x ∷ es) e = ap (λ l. Line x ∷ l) (map-snoc es e)

-- an appended entry keeps the publisher ready
pub ready_append : (grid : Ladders) (shown : Table) (log : List Entry) (ops now : List Op) (lines more : ℕ) (e : Entry)
    → Ready grid shown log ops lines more → now ≡ ops ++ Line e ∷ []
    → IsLegal grid ((log ++ entries_of ops) ++ e ∷ []) → lines + more + 1 < 2 ^ 32
    → Ready grid shown log now lines (more + 1)
ready_append grid shown log ops now lines more e r is legal short =
    let es : entries_of now ≡ entries_of ops ++ e ∷ [] = ap entries_of is ∙ entries-snoc ops e in
    record {
      leaves = r.leaves;
      whole = r.whole;
      plain = is ∙ ap (λ l. l ++ Line e ∷ []) r.plain ∙ sym (map-snoc (entries_of ops) e) ∙ ap (map Line) (sym es);
      legal = subst (IsLegal grid) (append_assoc log (entries_of ops) (e ∷ []) ∙ ap (λ l. log ++ l) (sym es)) legal;
      lines = r.lines;
      more = omega (arith, r.more, ap length es, length-append (entries_of ops) (e ∷ []));
      short = omega (arith, short);
    }

-- what is shown once the pending entries and the mark are applied
pub applied_all : (grid : Ladders) (shown : Table) (log : List Entry) (ops : List Op) (lines more : ℕ)
    → Ready grid shown log ops lines more → (m : Op)
    → fold apply (tidied shown) (ops ++ m ∷ []) ≡ apply (counted grid shown (log ++ entries_of ops)) m
applied_all grid shown log ops lines more r m =
    let es = entries_of ops in
    let is : tidied shown ≡ counted grid shown log = counted_is grid shown r.leaves ∙ ap (counted grid shown) r.whole in
    let n : length (log ++ es) < 2 ^ 32 = omega (arith, length-append log es, r.lines, r.more, r.short) in
    fold-snoc (tidied shown) ops m
    ∙ ap (λ t. apply t m) (ap (λ l. fold apply (tidied shown) l) r.plain ∙ ap (λ t. fold apply t (map Line es)) is ∙ shows grid shown log es r.legal n)

-- the table that is shown next: these counters, this count, and a history of all entries
leaves_marked : (grid : Ladders) (all : List Entry) (x y : Table) → IsLegal grid all → y.opening ≡ grid
    → y.counts ≡ left_in x.counts grid all → y.lines ≡ length all → y.seen.log ≡ all → Leaves grid y
leaves_marked grid all x y legal opening counts lines log = record {
  legal = subst (IsLegal grid) (sym log) legal;
  opening = opening;
  standing = subst (λ (l : List Entry). Stand y.counts (left_by grid l)) (sym log) (
      subst (λ (c : Option Counted). Stand c (left_by grid all)) (sym counts) (left_stand x.counts grid all));
  lines = lines ∙ sym (ap length log);
}

-- it follows the one that was shown, for a side that knows the grid
pub follows_marked : (grid : Ladders) (shown : Table) (log : List Entry) (ops : List Op) (lines more : ℕ)
    → Ready grid shown log ops lines more
    → (v u : View) → v.knows ≡ true → v.grid ≡ grid → u.seen.log ≡ log ++ entries_of ops → u.seen.book ≡ shown.seen.book
    → (x y : Table) → x ≡ shown → y ≡ apply (counted grid shown (log ++ entries_of ops)) (Mark u.seen) → Follows v x y
follows_marked grid shown log ops lines more r v u knows same all book x y was is =
    let right : Leaves grid y =
    leaves_marked grid (log ++ entries_of ops) shown y r.legal (ap (λ (t : Table). t.opening) is ∙ r.leaves.opening) (ap (λ (t : Table). t.counts) is) (ap (λ (t : Table). t.lines) is) (ap (λ (t : Table). t.seen.log) is ∙ all) in
    record {
      leaves = λ other may old. subst (λ (g : Ladders). Leaves g y) (sym same ∙ may knows) right;
      book = ap (λ (t : Table). t.seen.book) is ∙ book ∙ sym (ap (λ (t : Table). t.seen.book) was);
    }

-- the publisher is ready again once all that was pending is shown
pub ready_after : (grid : Ladders) (shown : Table) (log : List Entry) (ops : List Op) (n k : ℕ)
    → Ready grid shown log ops n k
    → (y : Table) (all : List Entry) (now : List Op) (grid' : Ladders) → all ≡ log ++ entries_of ops → Leaves grid' y
    → y.seen.log ≡ all → now ≡ [] → Ready grid' y all now (n + k) 0
ready_after grid shown log ops n k r y all now grid' is leaves seen none =
    subst (λ (l : List Op). Ready grid' y all l (n + k) 0) (sym none) (record {
      leaves = leaves;
      whole = seen;
      plain = refl;
      legal = subst (IsLegal grid') (seen ∙ sym (append-nil all)) leaves.legal;
      lines = omega (arith, r.lines, r.more, ap length is, length-append log (entries_of ops));
      more = refl;
      short = omega (arith, r.short);
    })

pub ready_open : (shown : Table) (grid : Ladders) (book : Book) (log : List Entry) (ops : List Op)
    → IsEmptyTable shown grid book → log ≡ [] → ops ≡ [] → Ready grid shown log ops 0 0
ready_open shown grid book log ops h none plain =
    subst (λ (t : List Entry × List Op). Ready grid shown t.0 t.1 0 0) (λ i. (sym none i, sym plain i)) (record {
      leaves = h.leaves;
      whole = h.none;
      plain = refl;
      legal = legal_nil grid;
      lines = refl;
      more = refl;
      short = omega arith;
    })

-- ---- a table with no line

-- what is left over the opening grid where there is no line
left_none : (grid : Ladders) (log : List Entry) → log ≡ [] → left_by grid log ≡ unsold grid
left_none grid log none = ap (left_by grid) none

pub unsold_counts : (counts : Counted) (grid : Ladders) → limits_of counts ≡ grid
    → ((f l k : ℕ) → table_of counts f l k ≡ 0) → standing_of counts ≡ unsold grid
unsold_counts counts grid limits seats = λ i. record { limits = limits i; seats = λ f l k. seats f l k i }

pub empty_leaves : (x : Table) (grid : Ladders) (book : Book) → x.opening ≡ grid
    → IfSome x.counts (λ c. standing_of c ≡ unsold grid) → x.lines ≡ 0 → x.seen.log ≡ [] → x.seen.book ≡ book
    → IsEmptyTable x grid book
empty_leaves x grid book opening stands lines none book_is = record {
  book_is = book_is;
  none = none;
  leaves = record {
    legal = subst (IsLegal grid) (sym none) (legal_nil grid);
    opening = opening;
    standing = subst (λ (s : Standing). Stand x.counts s) (sym (left_none grid x.seen.log none)) stands;
    lines = lines ∙ sym (ap length none);
  };
}

alike_in : (one two : Option Counted) (s : Standing) → is_some one ≡ is_some two → Stand one s → Stand two s
    → option_map counters_of (standing_in one) ≡ option_map counters_of (standing_in two)
alike_in None None s both h k = refl
alike_in None (Some d) s both h k = absurd (off both)
alike_in (Some c) None s both h k = absurd (off (sym both))
alike_in (Some c) (Some d) s both h k = ap (λ (t : Standing). Some (counters_of t)) (h ∙ sym k)

-- two of them with the same history, both with counters or both without, have the same form
pub empty_alike : (x y : Table) (grid : Ladders) (book : Book) → IsEmptyTable x grid book → IsEmptyTable y grid book
    → x.seen ≡ y.seen → is_some x.counts ≡ is_some y.counts → tidied x ≡ tidied y
empty_alike x y grid book h k seen both =
    let log : x.seen.log ≡ y.seen.log = h.none ∙ sym k.none in
    let opening : x.opening ≡ y.opening = h.leaves.opening ∙ sym k.leaves.opening in
    let stands : Stand x.counts (left_by grid y.seen.log) =
    subst (λ (l : List Entry). Stand x.counts (left_by grid l)) log h.leaves.standing in
    let counts = alike_in x.counts y.counts (left_by grid y.seen.log) both stands k.leaves.standing in
    let lines : x.lines ≡ y.lines = h.leaves.lines ∙ ap length log ∙ sym k.leaves.lines in
    λ i. record { opening = opening i; counts = counts i; lines = lines i; seen = seen i }

-- over whatever grid it is right, marks of its own history leave it so
marked_leaves : (grid : Ladders) (x : Table) (u : View) → Leaves grid x → x.seen.log ≡ u.seen.log
    → let y : Table = record { opening = x.opening; counts = (tidied x).counts; lines = x.lines; seen = u.seen } in Leaves grid y
marked_leaves grid x u h log =
    let was = leaves_of_tidied grid x h in
    record {
      legal = subst (IsLegal grid) log was.legal;
      opening = was.opening;
      standing = subst (λ (l : List Entry). Stand (tidied x).counts (left_by grid l)) log was.standing;
      lines = was.lines ∙ ap length log;
    }

-- what two marks leave
twice_marked : (x : Table) (u : View) (old ops : List Op) → old ≡ []
    → ops ≡ (old ++ Mark u.seen ∷ []) ++ Mark u.seen ∷ []
    → let y : Table =
    record { opening = x.opening; counts = (tidied x).counts; lines = x.lines; seen = u.seen } in fold apply (tidied x) ops ≡ y
twice_marked x u old ops plain is = ap (fold apply (tidied x)) (is ∙ ap (λ (l : List Op). (l ++ Mark u.seen ∷ []) ++ Mark u.seen ∷ []) plain)

pub warmed : (x : Table) (grid : Ladders) (book : Book) (u : View) (old ops : List Op) → IsEmptyTable x grid book
    → u.seen.book ≡ book → u.seen.log ≡ [] → old ≡ [] → ops ≡ (old ++ Mark u.seen ∷ []) ++ Mark u.seen ∷ []
    → IsEmptyTable (fold apply (tidied x) ops) grid book
warmed x grid book u old ops h book_is none plain is =
    subst (λ (t : Table). IsEmptyTable t grid book) (sym (twice_marked x u old ops plain is)) (record {
      book_is = book_is;
      none = none;
      leaves = marked_leaves grid x u h.leaves (h.none ∙ sym none);
    })

pub follows_warmed : (x : Table) (grid : Ladders) (book : Book) (v u : View) (old ops : List Op)
    → IsEmptyTable x grid book → u.seen.book ≡ book → u.seen.log ≡ [] → old ≡ []
    → ops ≡ (old ++ Mark u.seen ∷ []) ++ Mark u.seen ∷ []
    → Follows v x (fold apply (tidied x) ops)
follows_warmed x grid book v u old ops h book_is none plain is =
    subst (Follows v x) (sym (twice_marked x u old ops plain is)) (record {
      leaves = λ other may l. marked_leaves other x u l (h.none ∙ sym none);
      book = book_is ∙ sym h.book_is;
    })

pub empty_as : (x y : Table) (grid : Ladders) (book : Book) → tidied x ≡ y → IsEmptyTable y grid book
    → IsEmptyTable x grid book
empty_as x y grid book is h = record {
  book_is = ap (λ (t : Table). t.seen.book) is ∙ h.book_is;
  none = ap (λ (t : Table). t.seen.log) is ∙ h.none;
  leaves = leaves_as grid x y is h.leaves;
}
