use Rattle.std.proofs.Common.{◌≡◌, ◌≢◌, ◌++◌, ℕ, List, arith, subst}
use Rattle.std.proofs.lemmas.Str.Pattern.{strip_suffix_char}
use Rattle.journal_commands.proofs.PartNames.{cut, no_number, none_in, stem_in}
use Rattle.journal_commands.proofs.parting.stem_of.Goals as goal

pub returns-in_default-clause-none : goal.returns-in_default-clause-none
returns-in_default-clause-none c =
    λ none. no_number c.args.path.now c.args.shard
    (subst (λ (d : List ℕ). (front : List ℕ) → c.args.path.now ≢ front ++ d) c.format.ensures.text c.in_default.ensures.cases)

pub returns-clause-stem : goal.returns-clause-stem
returns-clause-stem c =
    stem_in c.args.path.now c.in-Some.rest.now c.args.shard c.strip_suffix-2.result
    (subst (λ (d : List ℕ). c.args.path.now ≡ c.in-Some.rest.now ++ d) c.format.ensures.text
    (cut c.args.path.now c.format.result.now c.in-Some.rest.now c.in-Some.ensures.cases))
    (strip_suffix_char 46 c.in-Some.rest.now c.strip_suffix-2.result c.strip_suffix-2.ensures.cases (omega arith))

pub returns-clause-none : goal.returns-clause-none
returns-clause-none c =
    none_in c.args.path.now c.in-Some.rest.now c.args.shard c.strip_suffix-2.result
    (subst (λ (d : List ℕ). c.args.path.now ≡ c.in-Some.rest.now ++ d) c.format.ensures.text
    (cut c.args.path.now c.format.result.now c.in-Some.rest.now c.in-Some.ensures.cases))
    (strip_suffix_char 46 c.in-Some.rest.now c.strip_suffix-2.result c.strip_suffix-2.ensures.cases (omega arith))
