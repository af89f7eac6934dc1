use Rattle.std.proofs.Common.{take}
use Rattle.path_order.specs.Mentioning.{AreNoted, MentionsAt}
use Rattle.spec_core.specs.Lists.{OneOf}
use Rattle.spec_core.specs.Theories.{equation_of}
use Rattle.path_order.proofs.mentions.Mentions.of.Given as goal

abbrev pub invariant-loop-equation : goal.invariant-loop-equation
invariant-loop-equation l = AreNoted (λ g h. OneOf (λ e. MentionsAt (equation_of e) g h) (take l.equation-index l.equation-items)) l.initial.mentions l.mentions
