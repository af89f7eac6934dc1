-- The laws of the definitions.
use Rattle.std.proofs.Common.{ℕ, suc, ◌≡◌, ◌<◌, ◌≤◌, ◌+◌, List, [], ◌∷◌, refl, sym, ap, subst, ◌∙◌, arith, inl, inr}
use Rattle.spec_core.specs.Lists.{Each, NoTwo}
use Rattle.spec_core.specs.Terms.{TermTree, TermTrees, variable, apply, no_terms, and_term, instance, instances, IsGround, AreGround}
use Rattle.spec_core.specs.Theories.{ConditionalEquation, Theory, Heads}
use Rattle.spec_core.specs.Constructors.{HeadsNone, IsConstructor, IsConstructed, AreConstructed}
use Rattle.spec_core.specs.Evaluation.{Evaluates, EvaluatesAll, Tries, called, none, more, final, unlike}
use Rattle.spec_core.specs.Orthogonality.{HasPatterns}
use Rattle.spec_core.specs.Order.{IsInside, IsInsideAny, IsSmaller, IsBelow, itself}
use Rattle.spec_core.specs.Executable.{IsExecutable}
use Rattle.spec_core.specs.Windows.{IsLess, IsBefore, IsInOrder}
use Rattle.spec_core.specs.Values.{IsSettled, AreSettled}
use Rattle.spec_core.specs.Laws.{ConstructorsKeepValues, ConstructorTermsStay, ValuesAreGround, PartsOfArgumentsAreBelow}
use Rattle.spec_core.specs.Laws.{LeftSidesAreNotBelowThemselves, WindowsHoldGroundTerms, WindowsAreInOrder}
use Rattle.spec_core.proofs.Members.{each_one}
use Rattle.spec_core.proofs.Lists.{each_implied}

-- in executable data a constructor heads no left side
pub heads_none : (theory : Theory) → IsExecutable theory → (f : ℕ) → IsConstructor theory f → HeadsNone theory f
heads_none theory ex f (inl h) = h
heads_none theory ex f (inr marked) = each_implied _ _ theory.equations (λ e h heads. h f heads marked) ex.orthogonal.unmarked

-- no call of such an operation is an instance of a left side
not_like : (theory : Theory) (e : ConditionalEquation) (f : ℕ) (vs : TermTrees) →
    HasPatterns theory e → (Heads f e → ⊥) → (s : ℕ → TermTree) → instance s e.left ≡ apply f vs → ⊥
not_like theory e f vs (g, ps, left, patterns) no_head s q =
    let k : apply g (instances s ps) ≡ apply f vs = ap (instance s) (sym left) ∙ q in
    let same : g ≡ f = cc in
    no_head (ps, subst (λ h. e.left ≡ apply h ps) same left)

tries_none : (theory : Theory) (f : ℕ) (vs : TermTrees) (es : List ConditionalEquation) →
    Each (HasPatterns theory) es → Each (λ e. Heads f e → ⊥) es → Tries theory es f vs (apply f vs) 0
tries_none theory f vs [] ps hs = final refl refl
tries_none theory f vs (e ∷ es) ps hs = unlike (not_like theory e f vs ps.0 hs.0) (tries_none theory f vs es ps.1 hs.1)

pub constructors_keep_values : ConstructorsKeepValues
constructors_keep_values theory ex f ts vs n c all =
    called vs n 0 all (tries_none theory f vs theory.equations ex.orthogonal.patterns (heads_none theory ex f c)) (omega arith)

module _ (theory : Theory) (ex : IsExecutable theory) where
  mutual
    own_value : (v : TermTree) → IsConstructed theory v → Evaluates theory v v 0
    own_value (variable x) h = absurd h
    own_value (apply f ts) h = constructors_keep_values theory ex f ts ts 0 h.0 (own_values ts h.1)

    own_values : (vs : TermTrees) → AreConstructed theory vs → EvaluatesAll theory vs vs 0
    own_values no_terms h = none refl
    own_values (and_term v vs) h = more 0 0 (own_value v h.0) (own_values vs h.1) (omega arith)

pub constructor_terms_stay : ConstructorTermsStay
constructor_terms_stay theory ex v h = own_value theory ex v h

module _ (theory : Theory) where
  mutual
    constructed_ground : (v : TermTree) → IsConstructed theory v → IsGround v
    constructed_ground (variable x) h = h
    constructed_ground (apply f ts) h = constructed_all_ground ts h.1

    constructed_all_ground : (vs : TermTrees) → AreConstructed theory vs → AreGround vs
    constructed_all_ground no_terms h = tt
    constructed_all_ground (and_term v vs) h = (constructed_ground v h.0, constructed_all_ground vs h.1)

  mutual
    settled_ground : (v : TermTree) → IsSettled theory v → IsGround v
    settled_ground (variable x) h = h
    settled_ground (apply f ts) h = settled_all_ground ts h.0

    settled_all_ground : (vs : TermTrees) → AreSettled theory vs → AreGround vs
    settled_all_ground no_terms h = tt
    settled_all_ground (and_term v vs) h = (settled_ground v h.0, settled_all_ground vs h.1)

pub values_are_ground : ValuesAreGround
values_are_ground theory v h = settled_ground theory v h.settled

pub parts_of_arguments_are_below : PartsOfArgumentsAreBelow
parts_of_arguments_are_below theory f ps (variable x) h = h
parts_of_arguments_are_below theory f ps (apply g ts) h = inl h

-- the number of symbols of a term, variables included
abbrev mutual
  symbols : TermTree → ℕ
  symbols (variable x) = 1
  symbols (apply f ts) = suc (symbols_of_all ts)

  symbols_of_all : TermTrees → ℕ
  symbols_of_all no_terms = 0
  symbols_of_all (and_term t ts) = symbols t + symbols_of_all ts

mutual
  inside_is_less : (u t : TermTree) → IsInside u t → symbols u < symbols t
  inside_is_less u (variable x) h = absurd h
  inside_is_less u (apply f ts) h = let r = inside_any_is_less u ts h in omega (arith, r)

  inside_any_is_less : (u : TermTree) (ts : TermTrees) → IsInsideAny u ts → symbols u ≤ symbols_of_all ts
  inside_any_is_less u no_terms h = absurd h
  inside_any_is_less u (and_term t ts) (inl e) = let r = ap symbols e in omega (arith, r)
  inside_any_is_less u (and_term t ts) (inr (inl h)) = let r = inside_is_less u t h in omega (arith, r)
  inside_any_is_less u (and_term t ts) (inr (inr h)) = let r = inside_any_is_less u ts h in omega (arith, r)

not_smaller : (ps : TermTrees) → IsSmaller ps ps → ⊥
not_smaller no_terms h = h
not_smaller (and_term p ps) (inl h) = let r = inside_is_less p p h in absurd (omega (arith, r))
not_smaller (and_term p ps) (inr h) = not_smaller ps h.1

not_below_itself : (theory : Theory) (f : ℕ) (ps : TermTrees) → (IsConstructor theory f → ⊥) → IsBelow theory f ps (apply f ps) → ⊥
not_below_itself theory f ps defined (inl h) = let r = inside_any_is_less (apply f ps) ps h in absurd (omega (arith, r))
not_below_itself theory f ps defined (inr (below, inl c)) = defined c
not_below_itself theory f ps defined (inr (below, inr (inl above))) = above.1 (itself f)
not_below_itself theory f ps defined (inr (below, inr (inr level))) = not_smaller ps level.1

pub left_sides_are_not_below_themselves : LeftSidesAreNotBelowThemselves
left_sides_are_not_below_themselves theory ex e f ps among left h =
    not_below_itself theory f ps
    (λ c. each_one (λ d. Heads f d → ⊥) theory.equations e (heads_none theory ex f c) among (ps, left))
    (subst (IsBelow theory f ps) left h)

not_less : (xs : List ℕ) → IsLess xs xs → ⊥
not_less [] h = h
not_less (x ∷ xs) (inl h) = absurd (omega arith)
not_less (x ∷ xs) (inr h) = not_less xs h.1

not_before : (xs ys : List ℕ) → IsBefore xs ys → xs ≡ ys → ⊥
not_before xs ys h e = before_itself (subst (IsBefore xs) (sym e) h)
  where
    before_itself : IsBefore xs xs → ⊥
    before_itself (inl h) = absurd (omega arith)
    before_itself (inr h) = not_less xs h.1

in_order_differ : (vs : List (List ℕ)) → IsInOrder vs → NoTwo (λ v w. v ≡ w) vs
in_order_differ [] h = tt
in_order_differ (v ∷ vs) h = (each_implied _ _ vs (λ w b. not_before v w b) h.0, in_order_differ vs h.1)

pub windows_hold_ground_terms : WindowsHoldGroundTerms
windows_hold_ground_terms theory sort k values complete w =
    each_implied _ _ values (λ v m. (m.0, m.1, m.2, constructed_ground theory m.0 m.3)) w.members

pub windows_are_in_order : WindowsAreInOrder
windows_are_in_order theory sort k values complete w = (w.in_order, in_order_differ values w.in_order)
