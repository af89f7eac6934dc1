-- Behaviours under a relabelling, tidied.
use Rattle.std.proofs.Common.{ℕ, ◌≡◌, ◌∙◌, List, [], ◌∷◌, map, refl, sym, ap}
use Rattle.spec_core.specs.Code.{Relabelling}
use Rattle.spec_core.specs.Terms.{TermTree}
use Rattle.rule_model.specs.Actions.{after, renamed}
use Rattle.rule_model.specs.Behaviours.{Behaviour, stop, exit, inner, action, choice, guarded, bound, value_choice, gate_choice, parallel}
use Rattle.rule_model.specs.Behaviours.{hide, enable, disable, call, relabel}
use Rattle.rule_model.specs.Constructs.{OnCall, OnRelabel}
use Rattle.rule_model.specs.Substitution.{tidied}

-- one relabelling in the place of two
pub joins : (pairs all before : List Relabelling) (b body : Behaviour) → b ≡ relabel before body → all ≡ after pairs before →
    tidied pairs b ≡ tidied all body
joins pairs all before b body is same = ap (tidied pairs) is ∙ ap (λ z. tidied z body) (sym same)

-- a call: its gates are relabelled
pub renames : (pairs : List Relabelling) (b : Behaviour) (p : ℕ) (gates actual : List ℕ) (terms : List TermTree) → b ≡ call p gates terms →
    actual ≡ map (renamed pairs) gates → tidied pairs b ≡ call p actual terms
renames pairs b p gates actual terms is same = ap (tidied pairs) is ∙ ap (λ z. call p z terms) (sym same)

-- any other construct stays under the relabelling
pub stays : (pairs : List Relabelling) (b : Behaviour) → (OnRelabel b (λ _ _. Unit {0}) → ⊥) → (OnCall b (λ _ _ _. Unit {0}) → ⊥) →
    tidied pairs b ≡ relabel pairs b
stays pairs (relabel before b) r c = absurd (r tt)
stays pairs (call p gates terms) r c = absurd (c tt)
stays pairs stop r c = refl
stays pairs (exit fields) r c = refl
stays pairs (inner b) r c = refl
stays pairs (action g fields p b) r c = refl
stays pairs (choice b d) r c = refl
stays pairs (guarded p b) r c = refl
stays pairs (bound bindings b) r c = refl
stays pairs (value_choice x b) r c = refl
stays pairs (gate_choice g gates b) r c = refl
stays pairs (parallel gates b d) r c = refl
stays pairs (hide gates b) r c = refl
stays pairs (enable b xs d) r c = refl
stays pairs (disable b d) r c = refl
