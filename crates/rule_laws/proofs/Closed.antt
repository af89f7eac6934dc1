-- Closed behaviours act as behaviours with values for their variables.
use Rattle.std.proofs.Common.{refl}
use Rattle.spec_core.specs.Terms.{variable}
use Rattle.rule_laws.specs.Substitution.{ClosedBehavioursAct}
use Rattle.rule_laws.proofs.Nothing.{same_term}
use Rattle.rule_laws.proofs.Returning.{substitution_keeps_steps}

pub closed_behaviours_act : ClosedBehavioursAct
closed_behaviours_act program s closing b d a c =
    substitution_keeps_steps program variable s s closing (λ x. same_term variable (λ y. refl) (s x)) b d a c
