-- Words without a fault give each argument that is required a value.
use Rattle.std.proofs.Common.{◌≡◌, ◌∙◌, refl, sym, subst, ℕ, zero, suc, Bool, true, false, not, ◌&&◌, ◌||◌, List, [], ◌∷◌, ◌++◌, Option, Some, None, is_some, find, fold, length, drop, slice_get, encode_utf8, if◌then◌else◌}
use Rattle.std.specs.Option.{option_map_or}
use Rattle.std.specs.List.{list_all, list_any}
use Rattle.std.specs.Str.{bytes_eq, chars}
use Rattle.clap.specs.Lexer.{long_of, short_of}
use Rattle.clap.specs.Words.{Row, Rule, Shape, Text, first_of}
use Rattle.clap.specs.Walk.{Held, Names, Outcome, Step, Waiting, Walk, action_of, after_flag, after_step, arg_by_id, arg_by_index, arg_by_long, arg_by_short, at_row, attached_value, bundle, bundle_met, bundle_step, default_rows, done, finished, flag_met, has_long, has_row, has_short, is_pending, long_met, more_values, long_or_other, most_values, next, nothing_held, option_met, option_word, plain, plain_word, reacted, reading_by, refused, rows_after, settled, settled_rows, short_met, short_or_plain, subcommand_met, subcommand_or_other, subcommand, takes_several, takes_values, to_positional, trailing, used, used_as, used_by_id, value, values_or_missing, waits, walk, walk_from, walked, walked_from, with_default, with_values, without, word_met, idle, option, positional}
use Rattle.clap.specs.Kinds.{Kinds, check_kinds, or_else, range_kinds}
use Rattle.clap.specs.Faults.{bundle_fault, bundle_step_fault, check_fault, defaults_fault, flag_word_fault, flags_fault, level_fault, long_fault, option_fault, other_fault, positional_fault, react_fault, settle_fault, short_fault, step_fault, stray_fault, turn_fault, use_fault, walk_fault, word_fault}
use Rattle.clap.specs.Takes.{is_given}
use Rattle.clap.specs.Facts.{unwrap_or_range}
use Rattle.clap.specs.declared.builder.action.ArgAction.{ArgAction}
use Rattle.clap.specs.declared.builder.action.ArgAction.TheVariants.{Set, Append, Help, SetTrue}
use Rattle.clap.specs.declared.builder.range.ValueRange.{ValueRange}
use Rattle.clap.specs.declared.builder.value_parser.Reading.{Reading}
use Rattle.clap.specs.declared.error.kind.ErrorKind.TheVariants.{TooManyValues}
use Rattle.clap.specs.declared.parser.matches.ValueSource.{ValueSource}
use Rattle.seat_words.proofs.Found.{Each, cases, neither}

-- ---- rows that have values

abbrev has_some : List Text → Bool
has_some [] = false
has_some (v ∷ vs) = true

abbrev HasValue : Row → Type 0
HasValue r = has_some r.values ≡ true

abbrev Filled : List Row → Type 0
Filled rows = Each HasValue rows

some_more : (xs ys : List Text) → has_some xs ≡ true → has_some (xs ++ ys) ≡ true
some_more [] ys h = cc
some_more (x ∷ xs) ys h = refl

filled_both : (xs ys : List Row) → Filled xs → Filled ys → Filled (xs ++ ys)
filled_both [] ys h k = k
filled_both (x ∷ xs) ys h k = (h.0, filled_both xs ys h.1 k)

filled_at : (id : Text) (change : Row → List Row) (missing rows : List Row)
    → ((r : Row) → HasValue r → Filled (change r)) → Filled missing
    → Filled rows → Filled (at_row id change missing rows)
filled_at id change missing [] ch m h = m
filled_at id change missing (r ∷ rs) ch m h =
    let rest : Filled (at_row id change missing rs) = filled_at id change missing rs ch m h.1 in
    elim (bytes_eq r.id id) as (λ b. Filled (if b then change r ++ rs else r ∷ at_row id change missing rs)) [
      | true ↦ filled_both (change r) rs (ch r h.0) h.1
      | false ↦ (h.0, rest)
    ]

filled_without : (id : Text) (rows : List Row) → Filled rows → Filled (without id rows)
filled_without id rows h = filled_at id (λ _. []) [] rows (λ r k. tt) tt h

filled_with : (id : Text) (how : Reading) (s : ValueSource) (v : Text) (vs : List Text) (rows : List Row) → Filled rows
    → Filled (with_values id how s (v ∷ vs) rows)
filled_with id how s v vs rows h = filled_at id (more_values s (v ∷ vs)) (record {
  id = id;
  values = v ∷ vs;
  count = None;
  source = Some s;
  reading = how;
} ∷ []) rows (λ r k. (some_more r.values (v ∷ vs) k, tt)) (refl, tt) h

-- ---- one use of an argument

-- a use that has no fault leaves the rows filled
pub record Keeps (a : Rule) : Type 0 where
  pub use_of : (again : Bool) (values : List Text) (rows : List Row) → use_fault again a values rows ≡ [] → Filled rows
      → Filled (used a values rows)

abbrev one : Option ValueRange
one = Some (record { start_inclusive = 1; end_inclusive = 1 })

is_used : (a : Rule) (range : Option ValueRange) (values : List Text) → a.range ≡ range → range ≡ one
    → range_kinds (unwrap_or_range a.range).start_inclusive (most_values a) (length values) ≡ []
    → has_some values ≡ true
is_used a range [] e f h =
    let bad = subst (λ (r : Option ValueRange). range_kinds (unwrap_or_range r).start_inclusive (unwrap_or_range r).end_inclusive 0 ≡ []) (e ∙ f) h in cc
is_used a range (v ∷ vs) e f h = refl

pub set_keeps : (a : Rule) → action_of a ≡ Set → a.range ≡ one → Keeps a
set_keeps a e range = record { use_of = go }
  where
    go : (again : Bool) (values : List Text) (rows : List Row) → use_fault again a values rows ≡ [] → Filled rows
        → Filled (used a values rows)
    go again [] rows f h = let bad = is_used a one [] range refl (neither _ _ f).0 in cc
    go again (v ∷ vs) rows f h = subst (λ (x : ArgAction). Filled (used_as x a.id (reading_by a) (v ∷ vs) rows)) (sym e)
        (filled_with a.id (reading_by a) _ v vs (without a.id rows) (filled_without a.id rows h))

pub append_keeps : (a : Rule) → action_of a ≡ Append → a.range ≡ one → Keeps a
append_keeps a e range = record { use_of = go }
  where
    go : (again : Bool) (values : List Text) (rows : List Row) → use_fault again a values rows ≡ [] → Filled rows
        → Filled (used a values rows)
    go again [] rows f h = let bad = is_used a one [] range refl (neither _ _ f).0 in cc
    go again (v ∷ vs) rows f h = subst (λ (x : ArgAction). Filled (used_as x a.id (reading_by a) (v ∷ vs) rows)) (sym e)
        (filled_with a.id (reading_by a) _ v vs rows h)

-- a flag has the value that stands for its use
pub flag_keeps : (a : Rule) → action_of a ≡ SetTrue → (v : Text) → a.missing ≡ v ∷ [] → Keeps a
flag_keeps a e v given = record { use_of = go }
  where
    put : (rows : List Row) (values : List Text) → has_some values ≡ true → Filled rows
        → Filled (used_as SetTrue a.id (reading_by a) values rows)
    put rows [] k h = cc
    put rows (w ∷ ws) k h = filled_with a.id (reading_by a) _ w ws (without a.id rows) (filled_without a.id rows h)

    some_given : (values : List Text) → has_some (values_or_missing a values) ≡ true
    some_given [] = rw given refl
    some_given (w ∷ ws) = refl

    go : (again : Bool) (values : List Text) (rows : List Row) → use_fault again a values rows ≡ [] → Filled rows
        → Filled (used a values rows)
    go again values rows f h = subst (λ (x : ArgAction). Filled (used_as x a.id (reading_by a) (values_or_missing a values) rows)) (sym e)
        (put rows (values_or_missing a values) (some_given values) h)

pub help_keeps : (a : Rule) → action_of a ≡ Help → Keeps a
help_keeps a e = record { use_of = go }
  where
    go : (again : Bool) (values : List Text) (rows : List Row) → use_fault again a values rows ≡ [] → Filled rows
        → Filled (used a values rows)
    go again values rows f h = subst (λ (x : ArgAction). Filled (used_as x a.id (reading_by a) (values_or_missing a values) rows)) (sym e) h

-- ---- what is held during the walk

found_keeps : (p : Rule → Bool) (c : List Rule) → Each Keeps c → (a : Rule) → find p c ≡ Some a → Keeps a
found_keeps p [] each a e = cc
found_keeps p (x ∷ xs) each a e =
    cases (p x) (p x) refl
    (λ h. subst Keeps (some_inside x a (rw h at e)) each.0)
    (λ h. found_keeps p xs each.1 a (rw h at e))
  where
    some_inside : (x a : Rule) → Some x ≡ Some a → x ≡ a
    some_inside x a e = cc

by_id : (again : Bool) (found : Option Rule) (values : List Text) (rows : List Row)
    → ((a : Rule) → found ≡ Some a → Keeps a)
    → option_map_or (λ a. use_fault again a values rows) found [] ≡ [] → Filled rows
    → Filled (used_by_id found values rows)
by_id again None values rows keeps f h = h
by_id again (Some a) values rows keeps f h = (keeps a refl).use_of again values rows f h

settled_pending : (c : List Rule) → Each Keeps c
    → (again : Bool) (pending : Option (Text × List Text)) (rows : List Row)
    → option_map_or (λ p. option_map_or (λ a. use_fault again a p.1 rows) (arg_by_id c p.0) []) pending [] ≡ []
    → Filled rows
    → Filled (settled_rows c pending rows)
settled_pending c each again None rows f h = h
settled_pending c each again (Some p) rows f h = by_id again (arg_by_id c p.0) p.1 rows (λ a e. found_keeps (λ a. bytes_eq a.id p.0) c each a e) f h

settled_filled : (c : List Rule) → Each Keeps c → (again : Bool) (h : Held) → settle_fault c again h ≡ []
    → Filled h.rows → Filled (settled c h).rows
settled_filled c each again h f k = settled_pending c each again h.pending h.rows f k

reacted_filled : (c : List Rule) → Each Keeps c → (again : Bool) (a : Rule) → Keeps a → (values : List Text) (h : Held)
    → react_fault c again a values h ≡ [] → Filled h.rows → Filled (reacted c a values h).rows
reacted_filled c each again a keeps values h f k =
    let both = neither (settle_fault c again h) (use_fault again a values (settled c h).rows) f in
    keeps.use_of again values (settled c h).rows both.1 (settled_filled c each again h both.0 k)

option_filled : (c : List Rule) → Each Keeps c → (again : Bool) (a : Rule) → Keeps a → (v : Option Text) (h : Held)
    → option_fault c again a v h ≡ [] → Filled h.rows → Filled (option_met c a v h).0.rows
option_filled c each again a keeps None h f k = settled_filled c each again h f k
option_filled c each again a keeps (Some v) h f k = reacted_filled c each again a keeps (v ∷ []) h f k

long_filled : (c : List Rule) → Each Keeps c → (again : Bool) (found : Option Rule)
    → ((a : Rule) → found ≡ Some a → Keeps a) → (v : Option Text) (h : Held)
    → long_fault c again found v h ≡ [] → Filled h.rows → Filled (long_met c found v h).0.rows
long_filled c each again None keeps v h f k = k
long_filled c each again (Some a) keeps v h f k =
    cases (takes_values a) (takes_values a) refl
    (λ e. rw e (option_filled c each again a (keeps a refl) v h (rw e at f) k))
    (λ e. rw e (flag_filled v (rw e at f)))
  where
    flag_filled : (v : Option Text) → (if is_some v then TooManyValues ∷ [] else react_fault c again a [] h) ≡ []
        → Filled (flag_met c a v h).0.rows
    flag_filled None f = reacted_filled c each again a (keeps a refl) [] h f k
    flag_filled (Some v) f = k

short_filled : (c : List Rule) → Each Keeps c → (again : Bool) (found : Option Rule)
    → ((a : Rule) → found ≡ Some a → Keeps a) → (rest : Text) (h : Held)
    (fault : Held → Kinds) (step : Held → Held × Outcome) → ((h : Held) → fault h ≡ [] → Filled h.rows → Filled (step h).0.rows)
    → short_fault c again found rest h fault ≡ [] → Filled h.rows → Filled (short_met c found rest h step).0.rows
short_filled c each again None keeps rest h fault step after f k = k
short_filled c each again (Some a) keeps rest h fault step after f k =
    cases (takes_values a) (takes_values a) refl
    (λ e. rw e (option_filled c each again a (keeps a refl) (attached_value rest) h (rw e at f) k))
    (λ e. rw e (flag_filled (rw e at f)))
  where
    flag_filled : or_else (react_fault c again a [] h) (fault (reacted c a [] h)) ≡ []
        → Filled (step (reacted c a [] h)).0.rows
    flag_filled g =
        let both = neither (react_fault c again a [] h) (fault (reacted c a [] h)) g in
        after (reacted c a [] h) both.1 (reacted_filled c each again a (keeps a refl) [] h both.0 k)

bundle_filled : (c : List Rule) → Each Keeps c
    → (again : Bool) (k : ℕ) (flags : Text) (skip : ℕ) (so_far : Outcome) (h : Held)
    → flags_fault c again k flags skip h ≡ [] → Filled h.rows → Filled (bundle_met c k flags skip so_far h).0.rows
unfolding flags_fault bundle_met
bundle_filled c each again zero flags skip so_far h f k = k
bundle_filled c each again (suc n) flags skip so_far h f k =
    step_filled c each again (slice_get (chars flags) 0) flags skip so_far h (flags_fault c again n) (bundle_met c n)
    (λ flags skip so_far h g r. bundle_filled c each again n flags skip so_far h g r) f k
  where
    step_filled : (c : List Rule) → Each Keeps c
        → (again : Bool) (x : Option ℕ) (flags : Text) (skip : ℕ) (so_far : Outcome) (h : Held)
        (fault : Text → ℕ → Held → Kinds) (step : Text → ℕ → Outcome → Held → Held × Outcome)
        → ((flags : Text) (skip : ℕ) (so_far : Outcome) (h : Held) → fault flags skip h ≡ [] → Filled h.rows
        → Filled (step flags skip so_far h).0.rows)
        → bundle_step_fault c again x flags skip h fault ≡ [] → Filled h.rows
        → Filled (bundle_step c x flags skip so_far h step).0.rows
    step_filled c each again None flags skip so_far h fault step after f k = k
    step_filled c each again (Some x) flags zero so_far h fault step after f k =
        let rest = drop (length (encode_utf8 x)) flags in
        short_filled c each again (arg_by_short c x) (λ a e. found_keeps (λ a. not (is_some a.index) && has_short a x) c each a e) rest h
        (fault rest 0) (step rest 0 done) (λ h g r. after rest 0 done h g r) f k
    step_filled c each again (Some x) flags (suc skip) so_far h fault step after f k =
        after (drop (length (encode_utf8 x)) flags) skip so_far h f k

plain_rows : (c : List Rule) (waiting : Waiting) (word : Text) (h : Held) → Filled h.rows
    → Filled (plain_word c waiting word h).0.rows
plain_rows c idle word h k = k
plain_rows c (option id) word h k = named (arg_by_id c id)
  where
    named : (found : Option Rule) → Filled (option_word found id word h).0.rows
    named None = k
    named (Some a) = k
plain_rows c positional word h k = k

after_rows : (c : List Rule) (waiting : Waiting) (word : Text) (h : Held) (o : Outcome) → Filled h.rows
    → Filled (after_flag c waiting word h o).0.rows
after_rows c waiting word h done k = k
after_rows c waiting word h (waits id) k = k
after_rows c waiting word h plain k = plain_rows c waiting word h k
after_rows c waiting word h refused k = plain_rows c waiting word h k

short_word_filled : (c : List Rule) → Each Keeps c
    → (again : Bool) (waiting : Waiting) (word : Text) (flags : Option Text) (h : Held)
    → option_map_or (λ flags. bundle_fault c again flags h) flags [] ≡ [] → Filled h.rows
    → Filled (short_or_plain c waiting word flags h).0.rows
short_word_filled c each again waiting word None h f k = plain_rows c waiting word h k
short_word_filled c each again waiting word (Some flags) h f k =
    after_rows c waiting word (bundle c flags h).0 (bundle c flags h).1
    (bundle_filled c each again (length flags) flags h.skip plain (record h { skip = 0 }) f k)

flag_word_filled : (c : List Rule) → Each Keeps c
    → (again : Bool) (waiting : Waiting) (word : Text) (long : Option (Text × Option Text)) (h : Held)
    → flag_word_fault c again long word h ≡ [] → Filled h.rows → Filled (long_or_other c waiting word long h).0.rows
flag_word_filled c each again waiting word None h f k = short_word_filled c each again waiting word (short_of word) h f k
flag_word_filled c each again waiting word (Some p) h f k =
    after_rows c waiting word (long_met c (arg_by_long c p.0) p.1 h).0 (long_met c (arg_by_long c p.0) p.1 h).1
    (long_filled c each again (arg_by_long c p.0) (λ a e. found_keeps (λ a. not (is_some a.index) && has_long a p.0) c each a e) p.1 h f k)

other_filled : (s : Shape) → Each Keeps s.rules
    → (met : Option Text) (waiting : Waiting) (position : ℕ) (word : Text) (h : Held)
    → other_fault s met word h ≡ [] → Filled h.rows
    → Filled (subcommand_or_other s.rules met waiting position word h).0.rows
other_filled s each (Some name) waiting position word h f k = k
other_filled s each None waiting position word h f k =
    cases (bytes_eq word (45 ∷ 45 ∷ [])) (bytes_eq word (45 ∷ 45 ∷ [])) refl
    (λ e. rw e k)
    (λ e. rw e (flag_word_filled s.rules each s.args_override_self waiting word (long_of word) h (rw e at f) k))

word_filled : (s : Shape) → Each Keeps s.rules
    → (names : Names) (is_trailing : Bool) (waiting : Waiting) (position : ℕ) (word : Text) (h : Held)
    → word_fault s names is_trailing waiting word h ≡ [] → Filled h.rows
    → Filled (word_met s.rules names is_trailing waiting position word h).0.rows
word_filled s each names true waiting position word h f k = k
word_filled s each names false waiting position word h f k = other_filled s each (subcommand_met names waiting word) waiting position word h f k

step_filled : (s : Shape) → Each Keeps s.rules → (w : Walk) (word : Text) (h : Held) (step : Step)
    → step_fault s w.position h step ≡ []
    → Filled h.rows → Filled (after_step s.rules word w h step).held.rows
step_filled s each w word h (next waiting) f k = k
step_filled s each w word h (trailing position) f k = k
step_filled s each w word h (subcommand name) f k = k
step_filled s each w word h value f k = taken (arg_by_index s.rules w.position) f
  where
    taken : (found : Option Rule)
        → option_map_or (λ a. positional_fault s.rules s.args_override_self a h) found (stray_fault s) ≡ []
        → Filled (to_positional s.rules found word w h).held.rows
    taken None f = k
    taken (Some a) f =
        cases (is_pending a h.pending && takes_several a) (is_pending a h.pending && takes_several a) refl
        (λ e. rw e k)
        (λ e. rw e (settled_filled s.rules each s.args_override_self h (rw e at f) k))

turn_filled : (s : Shape) → Each Keeps s.rules → (names : Names) (w : Walk) (word : Text)
    → turn_fault s names w word ≡ [] → Filled w.held.rows
    → Filled (walked s.rules names w word).held.rows
unfolding walked
turn_filled s each names w word f k = from w.stopped f
  where
    from : (stopped : Option (Text × List Text))
        → (if is_some stopped then [] else or_else (word_fault s names w.is_trailing w.waiting word w.held)
        (step_fault s w.position (word_met s.rules names w.is_trailing w.waiting w.position word w.held).0
        (word_met s.rules names w.is_trailing w.waiting w.position word w.held).1)) ≡ []
        → Filled (walked_from s.rules names stopped w word).held.rows
    from (Some p) f = k
    from None f =
        let met = word_met s.rules names w.is_trailing w.waiting w.position word w.held in
        let both = neither (word_fault s names w.is_trailing w.waiting word w.held) (step_fault s w.position met.0 met.1) f in
        step_filled s each w word met.0 met.1 both.1
        (word_filled s each names w.is_trailing w.waiting w.position word w.held both.0 k)

walk_filled : (s : Shape) → Each Keeps s.rules → (names : Names) (words : List Text) (w : Walk)
    → walk_fault s names w words ≡ [] → Filled w.held.rows
    → Filled (fold (walked s.rules names) w words).held.rows
unfolding walk_fault
walk_filled s each names [] w f k = k
walk_filled s each names (word ∷ rest) w f k =
    let both = neither (turn_fault s names w word) (walk_fault s names (walked s.rules names w word) rest) f in
    walk_filled s each names rest (walked s.rules names w word) both.1 (turn_filled s each names w word both.0 k)

-- ---- after the walk

default_filled : (id : Text) (how : Reading) (values : List Text) (rows : List Row) → Filled rows
    → Filled (default_rows id how values rows)
default_filled id how [] rows k = k
default_filled id how (v ∷ vs) rows k = filled_with id how _ v vs rows k

defaults_filled : (c : List Rule) (rows : List Row) → Filled rows → Filled (fold with_default rows c)
defaults_filled [] rows k = k
defaults_filled (a ∷ rest) rows k = defaults_filled rest (with_default rows a)
    (cases (has_row a.id rows) (has_row a.id rows) refl (λ e. rw e k) (λ e. rw e (default_filled a.id (reading_by a) a.defaults rows k)))

-- what was given has a first value
given_value : (id : Text) (rows : List Row) → Filled rows → is_given id rows ≡ true → is_some (first_of id rows) ≡ true
given_value id [] k e = cc
given_value id (r ∷ rs) k e =
    cases (bytes_eq r.id id) (bytes_eq r.id id) refl
    (λ h. rw h (first_value r.values k.0))
    (λ h. rw h (given_value id rs k.1 (rw h at e)))
  where
    first_value : (values : List Text) → has_some values ≡ true → is_some (slice_get values 0) ≡ true
    first_value [] h = cc
    first_value (v ∷ vs) h = refl

-- each argument that is required has a value
abbrev pub has_required : List Rule → List Row → Bool
has_required c rows = list_all (λ a. not a.required || is_some (first_of a.id rows)) c

required_given : (c : List Rule) (rows : List Row) → Filled rows
    → list_any (λ a. a.required && not (is_given a.id rows)) c ≡ false → has_required c rows ≡ true
required_given [] rows k e = refl
required_given (a ∷ rest) rows k e =
    let both = neither_true (a.required && not (is_given a.id rows)) _ e in
    rw (required_given rest rows k both.1) (here a.required (is_given a.id rows) both.0 (given_value a.id rows k))
  where
    neither_true : (x y : Bool) → (x || y) ≡ false → (x ≡ false) × (y ≡ false)
    neither_true true y e = cc
    neither_true false y e = (refl, e)

    here : (required given : Bool) → (required && not given) ≡ false
        → (given ≡ true → is_some (first_of a.id rows) ≡ true)
        → ((not required || is_some (first_of a.id rows)) && true) ≡ true
    here false given e h = refl
    here true true e h = rw (h refl) refl
    here true false e h = cc

no_wanting : (help subcommand negates wants : Bool) → check_kinds help subcommand (not (negates && false) && wants) ≡ []
    → wants ≡ false
no_wanting help sub negates false e = refl
no_wanting true sub negates true e = cc
no_wanting false true negates true e = cc
no_wanting false false true true e = cc
no_wanting false false false true e = cc

-- words without a fault give each argument that a leaf requires a value
pub leaf_values : (s : Shape) → Each Keeps s.rules → (words : List Text)
    → level_fault s [] nothing_held words false [] ≡ []
    → has_required s.rules (rows_after s.rules [] words) ≡ true
leaf_values s each words e =
    let end = (walk s.rules [] nothing_held words).held in
    let rows = finished s.rules end in
    let walked = neither (walk_fault s [] (walk_from nothing_held) words) _ e in
    let held = neither (settle_fault s.rules s.args_override_self end) (or_else (defaults_fault (settled s.rules end).rows s.rules) (check_fault s rows false)) walked.1 in
    let given = neither (defaults_fault (settled s.rules end).rows s.rules) (check_fault s rows false) held.1 in
    let filled = walk_filled s each [] words (walk_from nothing_held) walked.0 tt in
    let full = defaults_filled s.rules (settled s.rules end).rows (settled_filled s.rules each s.args_override_self end held.0 filled) in
    required_given s.rules rows full (no_wanting _ _ s.subcommand_negates_reqs _ given.1)
