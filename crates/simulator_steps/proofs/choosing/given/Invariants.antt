use Rattle.std.proofs.Common.{◌≡◌, map, take}
use Rattle.rule_model.specs.declared.offer.Field.TheVariants.{Give}
use Rattle.simulator_steps.proofs.choosing.given.Given as goal

abbrev pub invariant-loop-value : goal.invariant-loop-value
invariant-loop-value l = l.all.items ≡ map Give (take l.value-index l.values)
