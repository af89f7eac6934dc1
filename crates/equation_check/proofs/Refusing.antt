-- The refusals of equations, one after another, and orthogonality.
use Rattle.std.proofs.Common.{◌≡◌, List, [], ◌∷◌, ◌++◌, Option, None, Some, refl, sym, subst, ap, ◌∙◌, inl}
use Rattle.lotos_ast.specs.declared.refusal.Refusal.{Refusal}
use Rattle.lotos_ast.specs.FirstRefusals.{first_refusal}
use Rattle.spec_core.specs.Lists.{Each, IsOneOf}
use Rattle.spec_core.specs.Orthogonality.{HeadIsUnmarked, HasPatterns, IsLinear, HasNoLooseVariables, AreApart, AllApart, IsOrthogonal}
use Rattle.spec_core.specs.Theories.{ConditionalEquation, Theory}
use Rattle.spec_core.proofs.Lists.{each_push, each_implied}
use Rattle.spec_core.proofs.Members.{each_one, one_right}
use Rattle.equation_faults.specs.Faults.{IsWellFormed, IsFaultOf, constructor_has_equation, pattern_has_defined, not_left_linear}
use Rattle.equation_faults.specs.Faults.{loose_variable}
use Rattle.equation_faults.proofs.Occurrences.{distinct, not_distinct, not_closed}
use Rattle.equation_check.specs.Shape.{IsRefusalOf, IsAccepted, IsAnswerOf, AreRefusals, IsFirstRefusal, listed, none, next}
use Rattle.equation_check.specs.Shape.{fault, overlap}

last_apart : (theory : Theory) (es : List ConditionalEquation) (e : ConditionalEquation) → AllApart theory es →
    Each (λ d. AreApart theory d e) es → AllApart theory (es ++ e ∷ [])
last_apart theory [] e h all = (tt, tt)
last_apart theory (d ∷ es) e h all = (each_push (AreApart theory d) es e h.0 all.0, last_apart theory es e h.1 all.1)

parts_apart : (theory : Theory) (es : List ConditionalEquation) (e : ConditionalEquation) → AllApart theory (es ++ e ∷ []) →
    AllApart theory es × Each (λ d. AreApart theory d e) es
parts_apart theory [] e h = (tt, tt)
parts_apart theory (d ∷ es) e h =
    let r = parts_apart theory es e h.1 in
    ((each_front (AreApart theory d) es e h.0, r.0), (each_end (AreApart theory d) es e h.0, r.1))
  where
    each_front : (P : ConditionalEquation → Type 0) (xs : List ConditionalEquation) (x : ConditionalEquation) → Each P (xs ++ x ∷ []) →
        Each P xs
    each_front P [] x h = tt
    each_front P (y ∷ xs) x h = (h.0, each_front P xs x h.1)

    each_end : (P : ConditionalEquation → Type 0) (xs : List ConditionalEquation) (x : ConditionalEquation) → Each P (xs ++ x ∷ []) → P x
    each_end P [] x h = h.0
    each_end P (y ∷ xs) x h = each_end P xs x h.1

module _ (theory : Theory) where
  -- all equations are well-formed, and pairwise apart
  record Fine (es : List ConditionalEquation) : Type 0 where
    pub formed : Each (IsWellFormed theory) es
    pub apart : AllApart theory es

  accepted : (before : List ConditionalEquation) (e : ConditionalEquation) → Fine before → IsAccepted theory before e →
      Fine (before ++ e ∷ [])
  accepted before e fine a = record {
    formed = each_push (IsWellFormed theory) before e fine.formed a.formed;
    apart = last_apart theory before e fine.apart (together before fine.formed a.apart);
  }
    where
      together : (es : List ConditionalEquation) → Each (IsWellFormed theory) es →
          Each (λ d. IsWellFormed theory d → AreApart theory d e) es → Each (λ d. AreApart theory d e) es
      together [] w h = tt
      together (d ∷ es) w h = (h.0 w.0, together es w.1 h.1)

  nothing : (xs : List Refusal) (answer : Option Refusal) → xs ++ listed answer ≡ [] → (xs ≡ []) × (answer ≡ None)
  nothing [] None e = (refl, refl)
  nothing [] (Some r) e = cc
  nothing (x ∷ xs) answer e = cc

  pub no_refusals : (refusals : List Refusal) → refusals ≡ [] → AreRefusals theory [] refusals
  no_refusals refusals e = subst (AreRefusals theory []) (sym e) none

  all_fine : (es : List ConditionalEquation) (refusals : List Refusal) → AreRefusals theory es refusals → refusals ≡ [] → Fine es
  all_fine [] [] none empty = record { formed = tt; apart = tt }
  all_fine es refusals (next {before} {refusals = old} e answer h a) empty =
      let n = nothing old answer empty in
      accepted before e (all_fine before old h n.0) (subst (IsAnswerOf theory before e) n.1 a)

  pub orthogonal : AreRefusals theory theory.equations [] → IsOrthogonal theory
  orthogonal h =
      let fine = all_fine theory.equations [] h refl in
      record {
        unmarked = each_implied (IsWellFormed theory) (HeadIsUnmarked theory) theory.equations (λ e w. w.unmarked) fine.formed;
        patterns = each_implied (IsWellFormed theory) (HasPatterns theory) theory.equations (λ e w. w.patterns) fine.formed;
        linear = each_implied (IsWellFormed theory) (λ e. IsLinear e.left) theory.equations (λ e w. w.linear) fine.formed;
        closed = each_implied (IsWellFormed theory) HasNoLooseVariables theory.equations (λ e w. w.closed) fine.formed;
        apart = fine.apart;
      }

  pub fault_refuses : (e : ConditionalEquation) (r : Refusal) → IsFaultOf theory e r → IsWellFormed theory e → ⊥
  fault_refuses e r (constructor_has_equation f heads marked) w = w.unmarked f heads marked
  fault_refuses e r (pattern_has_defined u not) w = not w.patterns
  fault_refuses e r (not_left_linear u p x first) w = not_distinct _ x first (distinct e.left w.linear)
  fault_refuses e r (loose_variable u p l x first) w = not_closed e x first w.closed

  refuses : (before : List ConditionalEquation) (e : ConditionalEquation) (r : Refusal) → IsRefusalOf theory before e r →
      IsWellFormed theory e → Each (λ d. AreApart theory d e) before → ⊥
  refuses before e r (fault q f) w apart = fault_refuses e q f w
  refuses before e r (overlap d formed first) w apart =
      first.holds.1 (each_one (λ d. AreApart theory d e) before d apart
      (subst (IsOneOf d) (sym first.parts) (one_right d first.before (d ∷ first.behind) (inl refl))))

  none_refused : (es : List ConditionalEquation) (refusals : List Refusal) → AreRefusals theory es refusals → Fine es → refusals ≡ []
  none_refused [] [] none fine = refl
  none_refused es refusals (next {before} {refusals = old} e answer h a) fine =
      let apart = parts_apart theory before e fine.apart in
      let formed = parts before e fine.formed in
      let empty = none_refused before old h record { formed = formed.0; apart = apart.0 } in
      ap (λ xs. xs ++ listed answer) empty ∙ no_answer answer a formed.1 apart.1
    where
      parts : (es : List ConditionalEquation) (e : ConditionalEquation) → Each (IsWellFormed theory) (es ++ e ∷ []) →
          Each (IsWellFormed theory) es × IsWellFormed theory e
      parts [] e h = (tt, h.0)
      parts (d ∷ es) e h = let r = parts es e h.1 in ((h.0, r.0), r.1)

      no_answer : (answer : Option Refusal) → IsAnswerOf theory before e answer → IsWellFormed theory e →
          Each (λ d. AreApart theory d e) before → listed answer ≡ []
      no_answer None a w apart = refl
      no_answer (Some r) a w apart = absurd (refuses before e r a w apart)

  fine_equations : IsOrthogonal theory → Fine theory.equations
  fine_equations o = record {
    formed = together theory.equations o.unmarked o.patterns o.linear o.closed;
    apart = o.apart;
  }
    where
      together : (es : List ConditionalEquation) → Each (HeadIsUnmarked theory) es → Each (HasPatterns theory) es →
          Each (λ e. IsLinear e.left) es → Each HasNoLooseVariables es → Each (IsWellFormed theory) es
      together [] u p l c = tt
      together (e ∷ es) u p l c =
          (record { unmarked = u.0; patterns = p.0; linear = l.0; closed = c.0 }, together es u.1 p.1 l.1 c.1)

  pub not_orthogonal : (r : Refusal) → IsFirstRefusal theory r → IsOrthogonal theory → ⊥
  not_orthogonal r h o =
      let e : first_refusal [] ≡ Some r =
      ap first_refusal (sym (none_refused theory.equations h.refusals h.are (fine_equations o))) ∙ h.first in cc
