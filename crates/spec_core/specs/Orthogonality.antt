-- Left-linear constructor equations without overlap.
use Rattle.std.specs.Prelude.{ℕ, ◌≡◌, ◌⊎◌, List, [], ◌∷◌, codes}
use Rattle.std.specs.List.{slice_get}
use Rattle.spec_core.specs.Lists.{Each, OneOf, IsOneOf}
use Rattle.spec_core.specs.Terms.{TermTree, TermTrees, variable, apply, no_terms, and_term, constant, instance, Occurs, OccursInAny}
use Rattle.spec_core.specs.Theories.{Premise, premise, ConditionalEquation, Theory, Heads, OccursInPremises}
use Rattle.spec_core.specs.Sorts.{OnSome}
use Rattle.spec_core.specs.Constructors.{IsMarked, IsConstructor, ArePatterns}

-- no operation that is marked as a constructor heads the equation
abbrev pub HeadIsUnmarked : Theory → ConditionalEquation → Type 0
HeadIsUnmarked theory e = (f : ℕ) → Heads f e → IsMarked theory f → ⊥

-- the left side is an operation over patterns
abbrev pub HasPatterns : Theory → ConditionalEquation → Type 0
HasPatterns theory e = (f : ℕ) × (ps : TermTrees) × (e.left ≡ apply f ps) × ArePatterns theory ps

-- no variable stands twice in the term
abbrev mutual
  pub IsLinear : TermTree → Type 0
  IsLinear (variable x) = Unit {0}
  IsLinear (apply f ts) = AreLinear ts

  pub AreLinear : TermTrees → Type 0
  AreLinear no_terms = Unit {0}
  AreLinear (and_term t ts) = IsLinear t × ((x : ℕ) → Occurs x t → OccursInAny x ts → ⊥) × AreLinear ts

-- each variable of the right side and of the premises stands in the left side
pub record HasNoLooseVariables (e : ConditionalEquation) : Type 0 where
  pub right : (x : ℕ) → Occurs x e.right → Occurs x e.left
  pub premises : (x : ℕ) → OccursInPremises x e.premises → Occurs x e.left

-- the operation stands in the library's text, which has line 0, with this name, these argument sorts and this result sort
pub record IsOfLibrary (theory : Theory) (f : ℕ) (name : List ℕ) (args : List ℕ) (result : ℕ) : Type 0 where
  pub declared : OnSome (slice_get theory.operations f) (λ d. (d.name ≡ name) × (d.args ≡ args) × (d.result ≡ result) × (d.line ≡ 0))

-- the equation is unconditional, and has these two sides
abbrev pub IsPlain : ConditionalEquation → TermTree → TermTree → Type 0
IsPlain e l r = (e.premises ≡ []) × (e.left ≡ l) × (e.right ≡ r)

-- `negation` is the library's `not`, `yes` and `no` are its constants `true` and `false`, and `not` heads the library's two
-- equations and no other
pub record IsNegation (theory : Theory) (negation yes no : ℕ) : Type 0 where
  pub bool : ℕ
  pub named : OnSome (slice_get theory.sorts bool) (λ name. name ≡ codes "Bool")
  pub operation : IsOfLibrary theory negation (codes "not") (bool ∷ []) bool
  pub true_constant : IsOfLibrary theory yes (codes "true") [] bool
  pub false_constant : IsOfLibrary theory no (codes "false") [] bool
  pub of_true : OneOf (λ e. IsPlain e (apply negation (and_term (constant yes) no_terms)) (constant no)) theory.equations
  pub of_false : OneOf (λ e. IsPlain e (apply negation (and_term (constant no) no_terms)) (constant yes)) theory.equations
  pub no_other :
      Each (λ e.
      Heads negation e →
      IsPlain e (apply negation (and_term (constant yes) no_terms)) (constant no) ⊎
      IsPlain e (apply negation (and_term (constant no) no_terms)) (constant yes))
      theory.equations

-- the premise is not(t) = true for the library's `not`, and c is the library's `false`
pub record DeniesTerm (theory : Theory) (p : Premise) (t : TermTree) (c : ℕ) : Type 0 where
  pub negation : ℕ
  pub yes : ℕ
  pub library : IsNegation theory negation yes c
  pub form : p ≡ premise (apply negation (and_term t no_terms)) (constant yes)

-- the premise gives the term t the constant constructor c: it is t = c, c = t, or not(t) = true with c for `false`
abbrev pub Gives : Theory → Premise → TermTree → ℕ → Type 0
Gives theory p t c = IsConstructor theory c × ((p ≡ premise t (constant c)) ⊎ (p ≡ premise (constant c) t) ⊎ DeniesTerm theory p t c)

-- the premise with its variables renamed
abbrev pub renamed : (ℕ → ℕ) → Premise → Premise
renamed r (premise a b) = premise (instance (λ x. variable (r x)) a) (instance (λ x. variable (r x)) b)

-- a premise of the first list, under its new names, or one of the second
abbrev pub IsAmong : (ℕ → ℕ) → List Premise → List Premise → Premise → Type 0
IsAmong r ps qs p = OneOf (λ x. p ≡ renamed r x) ps ⊎ IsOneOf p qs

-- the left sides are equal up to names of variables, and two of the premises give one term two different constants
pub record ExcludeEachOther (theory : Theory) (e d : ConditionalEquation) : Type 0 where
  pub name : ℕ → ℕ
  pub lefts : instance (λ x. variable (name x)) e.left ≡ d.left
  pub p : Premise
  pub q : Premise
  pub term : TermTree
  pub one : ℕ
  pub other : ℕ
  pub here : IsAmong name e.premises d.premises p
  pub there : IsAmong name e.premises d.premises q
  pub gives_one : Gives theory p term one
  pub gives_other : Gives theory q term other
  pub differ : one ≡ other → ⊥

-- two equations are apart: the left sides have no common instance, or the premises exclude each other
abbrev pub AreApart : Theory → ConditionalEquation → ConditionalEquation → Type 0
AreApart theory e d = ((s z : ℕ → TermTree) → instance s e.left ≡ instance z d.left → ⊥) ⊎ ExcludeEachOther theory e d

-- each equation is apart from all later ones
abbrev pub AllApart : Theory → List ConditionalEquation → Type 0
AllApart theory [] = Unit {0}
AllApart theory (e ∷ es) = Each (AreApart theory e) es × AllApart theory es

-- left-linear constructor equations without loose variables, pairwise apart
pub record IsOrthogonal (theory : Theory) : Type 0 where
  pub unmarked : Each (HeadIsUnmarked theory) theory.equations
  pub patterns : Each (HasPatterns theory) theory.equations
  pub linear : Each (λ e. IsLinear e.left) theory.equations
  pub closed : Each HasNoLooseVariables theory.equations
  pub apart : AllApart theory theory.equations
