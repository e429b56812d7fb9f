-- What the reading of the matches cites.
use Rattle.std.proofs.Common.{◌≡◌, ◌∙◌, ap, refl, sym, subst, Bool, true, false, Some, None, Option, List, Box, IsSomeAnd, is_some, option_map, unwrap_or, [], ◌∷◌, codes}
use Rattle.std.proofs.lemmas.Slice.Eq.{bytes_eq-Decides}
use Rattle.std.specs.Box.{box_value}
use Rattle.std.specs.Str.{bytes_eq}
use Rattle.std.specs.Option.{option_map_or}
use Rattle.clap.specs.Words.{Row, Text, all_of, matched_of, raw_values, first_value, first_of, rows_of, subcommand_rows}
use Rattle.clap.specs.declared.parser.matches.Found.{Found}
use Rattle.clap.specs.declared.parser.matches.SubCommand.{SubCommand}
use Rattle.clap.specs.declared.parser.matches.ArgMatches.TheViews.{out-SubCommand}
use Rattle.clap.proofs.WalkLemmas.{first_value-rows, raw_values-rows}
use Rattle.seat_words.specs.Jobs.{Asks, Line, has_values, is_answerable, is_complete, is_flagged, all_named, first_named, named_by, values_of, word_of}
use Rattle.seat_words.specs.declared.job.Job.{Job}
use Rattle.seat_words.specs.declared.naming.Named.{Named}
use Rattle.seat_words.proofs.Found.{cases}

-- a value that was got is the one in the rows
pub some_text : (f : Found) (id t : Text) → Some t ≡ first_value f id → first_of id (rows_of f) ≡ Some t
some_text f id t e = sym (e ∙ first_value-rows f id)

-- and so where there may be none
pub may_text : (f : Found) (id : Text) (found : Option Text) → found ≡ first_value f id
    → first_of id (rows_of f) ≡ found
may_text f id found e = sym (e ∙ first_value-rows f id)

-- a value that is in the rows is got
pub no_text : (f : Found) (id : Text) → None ≡ first_value f id → is_some (first_of id (rows_of f)) ≡ true → ⊥
no_text f id e h = let bad : false ≡ true = ap is_some (e ∙ first_value-rows f id) ∙ h in cc

-- a flag is there where its value says so
abbrev says_so : Option Text → Bool
says_so found = option_map_or (λ text. bytes_eq text (codes "true")) found false

pub some_flag : (f : Found) (id t : Text) → Some t ≡ first_value f id
    → is_flagged id (rows_of f) ≡ bytes_eq t (codes "true")
some_flag f id t e = ap says_so (some_text f id t e)

pub no_flag : (f : Found) (id : Text) → None ≡ first_value f id → is_flagged id (rows_of f) ≡ false
no_flag f id e = ap says_so (may_text f id None e)

-- and so of several values
some_texts : (f : Found) (id : Text) (ts : List Text) → Some ts ≡ option_map raw_values (matched_of f id)
    → all_of id (rows_of f) ≡ Some ts
some_texts f id ts e = sym (e ∙ raw_values-rows f id)

pub any_texts : (f : Found) (id : Text) (ts : List Text) → Some ts ≡ option_map raw_values (matched_of f id)
    → unwrap_or (all_of id (rows_of f)) [] ≡ ts
any_texts f id ts e = ap (λ (found : Option (List Text)). unwrap_or found []) (some_texts f id ts e)

pub none_of_texts : (f : Found) (id : Text) → None ≡ option_map raw_values (matched_of f id)
    → unwrap_or (all_of id (rows_of f)) [] ≡ []
none_of_texts f id e = ap (λ (found : Option (List Text)). unwrap_or found []) (sym (e ∙ raw_values-rows f id))

module _ {Z : Type 0} where
  pub nothing_found : (sub : Option (Box SubCommand Z)) → false ≡ is_some sub
      → is_answerable (subcommand_rows sub) ≡ true → ⊥
  nothing_found None e h = cc
  nothing_found (Some b) e h = cc

  -- the name and the rows of the subcommand are its line
  pub line_found : (sub : Option (Box SubCommand Z)) (name : Text) (rows : List Row)
      → Some name ≡ option_map (λ b. (out-SubCommand (box_value b)).name.now) sub
      → Some rows ≡ option_map (λ p. p.1) (subcommand_rows sub) → subcommand_rows sub ≡ Some (name, rows)
  line_found None name rows e f = cc
  line_found (Some b) name rows e f = cc

-- ---- the command that a name is of

-- the word of a command that was found is the name
named_first : (commands : List Named) (name : Text) (command : Named) → Some command ≡ first_named name commands
    → word_of command ≡ name
named_first [] name command e = cc
named_first (x ∷ xs) name command e =
    cases (bytes_eq name (word_of x)) (bytes_eq name (word_of x)) refl
    (λ h. let found : Some command ≡ Some x = (rw h at e) in
    let same : command ≡ x = cc in
    ap word_of same ∙ sym ((bytes_eq-Decides name (word_of x)).0 h))
    (λ h. named_first xs name command (rw h at e))

pub named_right : (name : Text) (command : Named) → Some command ≡ named_by name → word_of command ≡ name
named_right name command e = named_first all_named name command e

module _ {Z : Type 0} where
  -- a job of the word of the command that a line names is one of the line
  pub asks_of_line : (sub : Option (Box SubCommand Z)) (name : Text) (rows : List Row) (command : Named) (job : Job)
      → Some name ≡ option_map (λ b. (out-SubCommand (box_value b)).name.now) sub
      → Some rows ≡ option_map (λ p. p.1) (subcommand_rows sub) → word_of command ≡ name → Asks job (word_of command, rows)
      → IsSomeAnd (subcommand_rows sub) (Asks job)
  asks_of_line sub name rows command job e f g asks =
      subst (λ (found : Option Line). IsSomeAnd found (Asks job)) (sym (line_found sub name rows e f))
      (subst (λ (word : Text). Asks job (word, rows)) g asks)

abbrev has_all : List Row → Option Named → Bool
has_all rows found = option_map_or (λ command. has_values (values_of command) rows) found false

-- a line that is complete has the values of the command that was found, and one was
pub values_there : (name : Text) (rows : List Row) (command : Named) → Some command ≡ named_by name
    → is_complete (name, rows) ≡ true → has_values (values_of command) rows ≡ true
values_there name rows command e h = subst (λ (found : Option Named). has_all rows found ≡ true) (sym e) h

pub is_named : (name : Text) (rows : List Row) → None ≡ named_by name
    → is_complete (name, rows) ≡ true → ⊥
is_named name rows e h = let bad : false ≡ true = subst (λ (found : Option Named). has_all rows found ≡ true) (sym e) h in cc
