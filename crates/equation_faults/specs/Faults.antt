-- What each equation of orthogonal data must be by itself, and the refusal of one that isn't. (This profile.)
use Rattle.std.specs.Prelude.{ℕ, ◌≡◌, ◌↔◌, List, [], ◌∷◌, Bool}
use Rattle.std.specs.List.{slice_get}
use Rattle.lotos_ast.specs.declared.refusal.Refusal.{Refusal}
use Rattle.lotos_ast.specs.declared.refusal.RefusalKind.{RefusalKind}
use Rattle.lotos_ast.specs.declared.refusal.RefusalKind.TheVariants.{ConstructorHasEquation, PatternHasDefined, NotLeftLinear}
use Rattle.lotos_ast.specs.declared.refusal.RefusalKind.TheVariants.{LooseVariable}
use Rattle.equation_sets.specs.Members.{IsIn}
use Rattle.spec_core.specs.Constructors.{IsMarked}
use Rattle.spec_core.specs.Lists.{OneOf}
use Rattle.spec_core.specs.Orthogonality.{HeadIsUnmarked, HasPatterns, IsLinear, HasNoLooseVariables}
use Rattle.spec_core.specs.Terms.{Occurs}
use Rattle.spec_core.specs.TermText.{name_text, operation_name}
use Rattle.spec_core.specs.Theories.{ConditionalEquation, Theory, Heads}
use Rattle.equation_faults.specs.Firsts.{IsFirstOf, IsFirstRepeated}
use Rattle.equation_faults.specs.Variables.{variables, asked_variables}

-- a left-linear constructor equation without loose variables
pub record IsWellFormed (theory : Theory) (e : ConditionalEquation) : Type 0 where
  pub unmarked : HeadIsUnmarked theory e
  pub patterns : HasPatterns theory e
  pub linear : IsLinear e.left
  pub closed : HasNoLooseVariables e

-- the refusal of this kind at an equation's place, with these names
abbrev pub refusal_at : RefusalKind → ConditionalEquation → List (List ℕ) → Refusal
refusal_at kind e names = record {
  kind = kind;
  place = record { line = e.line; column = e.column };
  names = names;
}

-- the refusal of an equation that isn't well-formed: of the first condition that it doesn't meet. It names the operation that is marked
-- as a constructor; nothing; the variable whose second occurrence in the left side comes first; the first variable, premises before the
-- right side, that isn't in the left side
pub data IsFaultOf (theory : Theory) (e : ConditionalEquation) : Refusal → Type 0 where
  constructor_has_equation : (f : ℕ) → Heads f e → IsMarked theory f →
      IsFaultOf theory e (refusal_at ConstructorHasEquation e (operation_name (slice_get theory.operations f) ∷ []))
  pattern_has_defined : HeadIsUnmarked theory e → (HasPatterns theory e → ⊥) → IsFaultOf theory e (refusal_at PatternHasDefined e [])
  not_left_linear : HeadIsUnmarked theory e → HasPatterns theory e → (x : ℕ) → IsFirstRepeated (variables e.left) x →
      IsFaultOf theory e (refusal_at NotLeftLinear e (name_text (slice_get e.names x) ∷ []))
  loose_variable : HeadIsUnmarked theory e → HasPatterns theory e → IsLinear e.left → (x : ℕ) →
      IsFirstOf (λ y. Occurs y e.left → ⊥) (asked_variables e) x →
      IsFaultOf theory e (refusal_at LooseVariable e (name_text (slice_get e.names x) ∷ []))

-- the set has just the operations that head equations
abbrev pub AreHeads : Theory → List Bool → Type 0
AreHeads theory set = (f : ℕ) → IsIn f set ↔ OneOf (Heads f) theory.equations

-- an operation with this name that is marked as a constructor heads the equation
abbrev pub IsMarkedHead : Theory → ConditionalEquation → List ℕ → Type 0
IsMarkedHead theory e name = (f : ℕ) × Heads f e × IsMarked theory f × (operation_name (slice_get theory.operations f) ≡ name)
