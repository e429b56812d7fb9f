-- How a command is built up.
use Rattle.std.proofs.Common.{◌≡◌, ◌∙◌, ap, ap₂, sym, subst, refl, ◌-◌, ◌≤◌, arith, Bool, ◌||◌, false, true, List, [], ◌∷◌, length, get_or, take, drop, Some, Result, Ok, Err, IfOk, IsOkAnd}
use Rattle.std.proofs.lemmas.List.{take_all}
use Rattle.clap.specs.Words.{AddsArg, AddsSubcommand, App, Rule, with_rule, with_subcommand}
use Rattle.clap.specs.declared.builder.action.ArgAction.TheVariants.{Append}
use Rattle.clap.specs.declared.builder.arg.Arg.{Arg}
use Rattle.clap.specs.declared.builder.command.Command.{Command}
use Rattle.seat_words.specs.declared.commands.arguments.Argument.{Argument}
use Rattle.seat_words.specs.CommandLine.{IsBuiltAs, IsReadAs, rule_as, with_arguments}

-- what is added has no global arguments
or_false : (x y : Bool) → y ≡ false → (x || y) ≡ x
or_false false false e = refl
or_false true false e = refl
or_false x true e = absurd cc

-- a command with one more argument
argued_on : (a : App) (r : Rule) (old : Command) (arg : Arg) (new : Command) → IsBuiltAs a old → IsReadAs r arg
    → AddsArg old arg new → IsBuiltAs (with_rule a r) new
argued_on a r old arg new was has adds = record {
  app = adds.shape has.local ∙ ap₂ with_rule was.app has.rule;
  local = adds.globals ∙ (or_false _ _ has.local ∙ was.local);
}

pub argued : {E : Type 0} (a : App) (r : Rule) (old new : Result Command E) (arg : Arg) → IfOk old (IsBuiltAs a)
    → IsReadAs r arg
    → IfOk new (λ x. IsOkAnd old (λ y. AddsArg y arg x)) → IfOk new (IsBuiltAs (with_rule a r))
argued a r (Ok x) (Ok y) arg was has adds = argued_on a r x arg y was has adds
argued a r (Err e) (Ok y) arg was has adds = absurd adds
argued a r old (Err e) arg was has adds = tt

-- a list is its first entry and those behind it
pub parts : {A : Type 0} (xs : List A) (d : A) → 1 ≤ length xs → xs ≡ get_or xs 0 d ∷ take (length xs - 1) (drop 1 xs)
parts [] d some = absurd (omega (arith, some))
parts {A} (x ∷ xs) d some = ap (λ (l : List A). x ∷ l) (sym (take_all (length (x ∷ xs) - 1) xs (omega arith)))

-- a command with several more, the first of which is added ahead of the others
pub added : {E : Type 0} (a : App) (xs rest : List Argument) (x : Argument) (old mid new : Result Command E) (arg : Arg)
    → xs ≡ x ∷ rest → IfOk old (IsBuiltAs a) → IsReadAs (rule_as x) arg
    → IfOk mid (λ n. IsOkAnd old (λ o. AddsArg o arg n))
    → ((b : App) → IfOk mid (IsBuiltAs b) → IfOk new (IsBuiltAs (with_arguments b rest)))
    → IfOk new (IsBuiltAs (with_arguments a xs))
added a xs rest x old mid new arg e was has adds more =
    subst (λ (l : List Argument). IfOk new (IsBuiltAs (with_arguments a l))) (sym e)
    (more (with_rule a (rule_as x)) (argued a (rule_as x) old mid arg was has adds))

-- a command with one more subcommand
joined_on : (a s : App) (old new sub : Command) → IsBuiltAs a old → IsBuiltAs s sub → AddsSubcommand old sub new
    → IsBuiltAs (with_subcommand a s.top) new
joined_on a s old new sub was built adds = record {
  app = adds.shape built.local ∙ ap₂ with_subcommand was.app (ap (λ (y : App). y.top) built.app);
  local = adds.globals ∙ (or_false _ _ built.local ∙ was.local);
}

pub joined : {E : Type 0} (a s : App) (old sub new : Result Command E) → IfOk old (IsBuiltAs a) → IfOk sub (IsBuiltAs s)
    → IfOk new (λ x. IsOkAnd old (λ y. IsOkAnd sub (λ z. AddsSubcommand y z x)))
    → IfOk new (IsBuiltAs (with_subcommand a s.top))
joined a s (Ok x) (Ok z) (Ok y) was built adds = joined_on a s x y z was built adds
joined a s (Err e) sub (Ok y) was built adds = absurd adds
joined a s (Ok x) (Err e) (Ok y) was built adds = absurd adds
joined a s old sub (Err e) was built adds = tt

-- an argument that may be given more than once
pub valued : (r : Rule) (one many : Arg) → many ≡ record one { action = Some Append } → IsReadAs r one
    → IsReadAs (record r { action = Some Append }) many
valued r one many e has = subst (IsReadAs (record r { action = Some Append })) (sym e) (record {
  rule = ap (λ (x : Rule). record x { action = Some Append }) has.rule;
  local = has.local;
})

-- an argument behind whose first value each word is one of its values
pub trailed : (r : Rule) (one more : Arg) → more ≡ record one { trailing_var_arg = true } → IsReadAs r one
    → IsReadAs (record r { trailing_var_arg = true }) more
trailed r one more e has = subst (IsReadAs (record r { trailing_var_arg = true })) (sym e) (record {
  rule = ap (λ (x : Rule). record x { trailing_var_arg = true }) has.rule;
  local = has.local;
})
