-- What a command line without a fault says of the line that clap found in it.
use Rattle.std.proofs.Common.{◌≡◌, refl, ℕ, Bool, true, false, not, ◌&&◌, List, [], ◌∷◌, Option, Some, None, is_some, find, fold, option_map, codes, if◌then◌else◌}
use Rattle.std.specs.Option.{option_map_or}
use Rattle.std.specs.Str.{bytes_eq}
use Rattle.clap.specs.Lexer.{long_of, short_of}
use Rattle.clap.specs.Words.{App, Row, Rule, Shape, Text}
use Rattle.clap.specs.Walk.{Held, Names, Outcome, Step, Waiting, Walk, after_flag, after_step, answers_to, arg_by_index, arg_by_long, bundle, done, finished, idle, long_met, long_or_other, next, nothing_held, option, plain, plain_word, positional, refused, settled, short_or_plain, stop_after, subcommand, subcommand_met, subcommand_or_other, to_positional, trailing, value, waits, walk, walk_from, walked, walked_from, word_met}
use Rattle.clap.specs.Simple.{entered, label_of, names_of, rows_at}
use Rattle.clap.specs.Kinds.{Kinds, check_kinds, or_else}
use Rattle.clap.specs.Faults.{built_fault, check_fault, defaults_fault, entered_fault, level_fault, other_fault, settle_fault, step_fault, turn_fault, walk_fault, word_fault}
use Rattle.clap.specs.declared.error.kind.ErrorKind.TheVariants.{DisplayHelp, InvalidSubcommand}
use Rattle.seat_words.specs.Jobs.{Line}

-- P holds of each element
abbrev pub Each : {X : Type 0} → (X → Type 0) → List X → Type 0
Each P [] = Unit {0}
Each P (x ∷ xs) = P x × Each P xs

pub cases : {P : Type 0} (b c : Bool) → b ≡ c → (b ≡ true → P) → (b ≡ false → P) → P
cases b true e if_true if_false = if_true e
cases b false e if_true if_false = if_false e

pub neither : (a b : Kinds) → or_else a b ≡ [] → (a ≡ []) × (b ≡ [])
neither [] b e = (refl, e)
neither (k ∷ ks) b e = cc

-- a subcommand that is wanted is there
pub wanted : (help has needs argument : Bool) → needs ≡ true → check_kinds help (not has && needs) argument ≡ []
    → has ≡ true
wanted help true needs argument n e = refl
wanted help false false argument n e = cc
wanted true false true argument n e = cc
wanted false false true argument n e = cc

needed : (s : Shape) (rows : List Row) (has : Bool) → s.subcommand_required ≡ true → check_fault s rows has ≡ []
    → has ≡ true
needed s rows has needs e = wanted _ has s.subcommand_required _ needs e

-- what holds of each shape's rows, where its words have no fault, holds of the line
pub record Yields (P : Line → Bool) (s : Shape) : Type 0 where
  pub rows : (words : List Text) → level_fault s [] nothing_held words false [] ≡ [] → P (rows_at s words) ≡ true

found_in : (P : Line → Bool) (p : Shape → Bool) (words : List Text) (subs : List Shape)
    → Each (λ s. p s ≡ true → Yields P s) subs
    → is_some (option_map (λ s. rows_at s words) (find p subs)) ≡ true
    → option_map_or (λ s. level_fault s [] nothing_held words false []) (find p subs) [] ≡ []
    → option_map_or P (option_map (λ s. rows_at s words) (find p subs)) false ≡ true
found_in P p words [] each e f = cc
found_in P p words (s ∷ subs) each e f =
    cases (p s) (p s) refl (λ h. rw h ((each.0 h).rows words (rw h at f))) (λ h. rw h (found_in P p words subs each.1 (rw h at e) (rw h at f)))

-- what is met is not the help that clap adds
abbrev pub is_no_help : Text → Bool
is_no_help name = not (bytes_eq name (codes "help"))

abbrev is_other : Option (Text × List Text) → Bool
is_other stop = option_map_or (λ p. is_no_help p.0) stop true

-- each of the subcommands that may be met yields such a line
abbrev pub YieldsBy : (Line → Bool) → Text → List Shape → Type 0
YieldsBy P name subs = Each (λ s. answers_to name (label_of s) ≡ true → Yields P s) subs

entered_in : (P : Line → Bool) (a : App) (stop : Option (Text × List Text))
    → ((name : Text) → is_no_help name ≡ true → YieldsBy P name a.subs)
    → is_other stop ≡ true → is_some (entered a stop) ≡ true → entered_fault a stop ≡ []
    → option_map_or P (entered a stop) false ≡ true
entered_in P a None each o e f = cc
entered_in P a (Some p) each o e f = found_in P (λ s. answers_to p.0 (label_of s)) p.1 a.subs (each p.0 o) e f

-- ---- a walk without a fault meets no help

abbrev is_other_step : Step → Bool
is_other_step (subcommand name) = is_no_help name
is_other_step _ = true

plain_other : (c : List Rule) (waiting : Waiting) (word : Text) (h : Held)
    → is_other_step (plain_word c waiting word h).1 ≡ true
plain_other c idle word h = refl
plain_other c (option id) word h = refl
plain_other c positional word h = refl

flag_other : (c : List Rule) (waiting : Waiting) (word : Text) (h : Held) (o : Outcome)
    → is_other_step (after_flag c waiting word h o).1 ≡ true
flag_other c waiting word h done = refl
flag_other c waiting word h (waits id) = refl
flag_other c waiting word h plain = plain_other c waiting word h
flag_other c waiting word h refused = plain_other c waiting word h

short_other : (c : List Rule) (waiting : Waiting) (word : Text) (flags : Option Text) (h : Held)
    → is_other_step (short_or_plain c waiting word flags h).1 ≡ true
short_other c waiting word None h = plain_other c waiting word h
short_other c waiting word (Some flags) h = flag_other c waiting word (bundle c flags h).0 (bundle c flags h).1

long_other : (c : List Rule) (waiting : Waiting) (word : Text) (long : Option (Text × Option Text)) (h : Held)
    → is_other_step (long_or_other c waiting word long h).1 ≡ true
long_other c waiting word None h = short_other c waiting word (short_of word) h
long_other c waiting word (Some p) h =
    flag_other c waiting word (long_met c (arg_by_long c p.0) p.1 h).0 (long_met c (arg_by_long c p.0) p.1 h).1

helpless : (is_help off : Bool) (kinds : Kinds) → off ≡ false
    → (if is_help && not off then DisplayHelp ∷ InvalidSubcommand ∷ [] else []) ≡ [] → not is_help ≡ true
helpless true true kinds off e = cc
helpless true false kinds off e = cc
helpless false off kinds e f = refl

other_step : (s : Shape) → s.disable_help_subcommand ≡ false
    → (met : Option Text) (waiting : Waiting) (position : ℕ) (word : Text) (h : Held)
    → other_fault s met word h ≡ [] → is_other_step (subcommand_or_other s.rules met waiting position word h).1 ≡ true
other_step s on (Some name) waiting position word h f = helpless (bytes_eq name (codes "help")) s.disable_help_subcommand [] on f
other_step s on None waiting position word h f =
    cases (bytes_eq word (45 ∷ 45 ∷ [])) (bytes_eq word (45 ∷ 45 ∷ [])) refl
    (λ e. rw e refl)
    (λ e. rw e (long_other s.rules waiting word (long_of word) h))

word_step : (s : Shape) → s.disable_help_subcommand ≡ false
    → (names : Names) (is_trailing : Bool) (waiting : Waiting) (position : ℕ) (word : Text) (h : Held)
    → word_fault s names is_trailing waiting word h ≡ []
    → is_other_step (word_met s.rules names is_trailing waiting position word h).1 ≡ true
word_step s on names true waiting position word h f = refl
word_step s on names false waiting position word h f = other_step s on (subcommand_met names waiting word) waiting position word h f

positional_other : (c : List Rule) (found : Option Rule) (word : Text) (w : Walk) (h : Held) → is_other w.stopped ≡ true
    → is_other (to_positional c found word w h).stopped ≡ true
positional_other c None word w h o = o
positional_other c (Some a) word w h o = refl

step_other : (c : List Rule) (w : Walk) (word : Text) (h : Held) (step : Step) → is_other w.stopped ≡ true
    → is_other_step step ≡ true
    → is_other (after_step c word w h step).stopped ≡ true
step_other c w word h (next waiting) o p = o
step_other c w word h (trailing position) o p = o
step_other c w word h (subcommand name) o p = p
step_other c w word h value o p = positional_other c (arg_by_index c w.position) word w h o

turn_other : (s : Shape) → s.disable_help_subcommand ≡ false → (names : Names) (w : Walk) (word : Text)
    → turn_fault s names w word ≡ []
    → is_other w.stopped ≡ true → is_other (walked s.rules names w word).stopped ≡ true
unfolding walked
turn_other s on names w word f o = from w.stopped o f
  where
    from : (stopped : Option (Text × List Text)) → is_other stopped ≡ true
        → (if is_some stopped then [] else or_else (word_fault s names w.is_trailing w.waiting word w.held)
        (step_fault s w.position (word_met s.rules names w.is_trailing w.waiting w.position word w.held).0
        (word_met s.rules names w.is_trailing w.waiting w.position word w.held).1)) ≡ []
        → is_other (walked_from s.rules names stopped w word).stopped ≡ true
    from (Some p) q f = q
    from None q f =
        let met = word_met s.rules names w.is_trailing w.waiting w.position word w.held in
        let both = neither (word_fault s names w.is_trailing w.waiting word w.held) (step_fault s w.position met.0 met.1) f in
        step_other s.rules w word met.0 met.1 o (word_step s on names w.is_trailing w.waiting w.position word w.held both.0)

walk_other : (s : Shape) → s.disable_help_subcommand ≡ false → (names : Names) (words : List Text) (w : Walk)
    → walk_fault s names w words ≡ []
    → is_other w.stopped ≡ true → is_other (fold (walked s.rules names) w words).stopped ≡ true
unfolding walk_fault
walk_other s on names [] w f o = o
walk_other s on names (word ∷ rest) w f o =
    let both = neither (turn_fault s names w word) (walk_fault s names (walked s.rules names w word) rest) f in
    walk_other s on names rest (walked s.rules names w word) both.1 (turn_other s on names w word both.0 o)

-- the line of a command that needs one
pub line_in : (P : Line → Bool) (a : App) (words : List Text) → a.top.subcommand_required ≡ true
    → a.top.disable_help_subcommand ≡ false
    → ((name : Text) → is_no_help name ≡ true → YieldsBy P name a.subs)
    → built_fault a nothing_held words ≡ []
    → option_map_or P (entered a (stop_after a.top.rules (names_of a) words)) false ≡ true
line_in P a words needs on each e =
    let end = (walk a.top.rules (names_of a) nothing_held words).held in
    let has = is_some (entered a (stop_after a.top.rules (names_of a) words)) in
    let walked = neither (walk_fault a.top (names_of a) (walk_from nothing_held) words) _ e in
    let below = neither (entered_fault a (stop_after a.top.rules (names_of a) words)) _ walked.1 in
    let held = neither (settle_fault a.top.rules a.top.args_override_self end) _ below.1 in
    let given = neither (defaults_fault (settled a.top.rules end).rows a.top.rules) (check_fault a.top (finished a.top.rules end) has) held.1 in
    entered_in P a (stop_after a.top.rules (names_of a) words) each
    (walk_other a.top on (names_of a) words (walk_from nothing_held) walked.0 refl)
    (needed a.top (finished a.top.rules end) has needs given.1) below.0
