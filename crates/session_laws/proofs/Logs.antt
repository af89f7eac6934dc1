-- Logs of entries that come as they have to, one behind another.
use Rattle.std.proofs.Common.{◌≡◌, refl, subst, List, [], ◌∷◌, ◌++◌}
use Rattle.spec_core.specs.Code.{Program}
use Rattle.rule_model.specs.Events.{Event}
use Rattle.rule_model.specs.Legal.{IsPossible, IsDerivation}
use Rattle.rule_model.specs.States.{State}
use Rattle.session_laws.specs.Logs.{IsLogBy}

module _ (program : Program) (Comes : State → Event → Type 0) where
  pub further : (xs : List Event) (e : Event) (s t u : State) → IsLogBy program Comes xs s t → IsPossible program t e u → Comes t e →
      IsLogBy program Comes (xs ++ e ∷ []) s u
  further [] e s t u h p c = (u, subst (λ z. IsPossible program z e u) h p, subst (λ z. Comes z e) h c, refl)
  further (x ∷ xs) e s t u (next, p, c, h) q d = (next, p, c, further xs e next t u h q d)

  pub derives : (xs : List Event) (s t : State) → IsLogBy program Comes xs s t → IsDerivation program xs s t
  derives [] s t h = h
  derives (x ∷ xs) s t (next, p, c, h) = (next, p, derives xs next t h)

  -- one log behind another
  pub behind : (xs ys : List Event) (s t u : State) → IsLogBy program Comes xs s t → IsLogBy program Comes ys t u →
      IsLogBy program Comes (xs ++ ys) s u
  behind [] ys s t u h k = subst (λ z. IsLogBy program Comes ys z u) h k
  behind (x ∷ xs) ys s t u (next, p, c, h) k = (next, p, c, behind xs ys next t u h k)

-- entries that come in one way come in another
pub in_other_way : (program : Program) (C D : State → Event → Type 0) → ((s : State) (e : Event) → C s e → D s e) → (xs : List Event)
    (s t : State) → IsLogBy program C xs s t → IsLogBy program D xs s t
in_other_way program C D f [] s t h = h
in_other_way program C D f (x ∷ xs) s t (next, p, c, h) = (next, p, f s x c, in_other_way program C D f xs next t h)
