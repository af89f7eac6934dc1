-- Derivations, one entry after another.
use Rattle.std.proofs.Common.{◌≡◌, refl, subst, List, [], ◌∷◌, ◌++◌}
use Rattle.spec_core.specs.Code.{Program}
use Rattle.rule_model.specs.Events.{Event}
use Rattle.rule_model.specs.Legal.{IsPossible, IsDerivation}
use Rattle.rule_model.specs.States.{State}

module _ (program : Program) where
  pub further : (xs : List Event) (e : Event) (s t u : State) → IsDerivation program xs s t → IsPossible program t e u → IsDerivation program (xs ++ e ∷ []) s u
  further [] e s t u h k = (u, subst (λ z. IsPossible program z e u) h k, refl)
  further (x ∷ xs) e s t u (next, p, d) k = (next, p, further xs e next t u d k)
