-- The words so far are locators, and these are they.
use Rattle.std.proofs.Common.{map, take}
use Rattle.command_inputs.specs.Asked.{AreLocators}
use Rattle.command_inputs.proofs.locators.locators_asked.Given as goal

abbrev pub invariant-loop-word : goal.invariant-loop-word
invariant-loop-word l = AreLocators (map (λ word. word.now) (take l.word-index l.words)) l.locators.items
