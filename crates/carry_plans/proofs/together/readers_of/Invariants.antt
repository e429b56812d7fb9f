use Rattle.std.proofs.Common.{◌≡◌, map, take}
use Rattle.carry_plans.specs.Joining.{text_of}
use Rattle.carry_plans.proofs.together.readers_of.Given as goal

abbrev pub invariant-loop-text : goal.invariant-loop-text
invariant-loop-text l = map text_of l.readers.items ≡ take l.text-index l.texts
