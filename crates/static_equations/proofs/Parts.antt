-- The parts of an equation.
use Rattle.std.proofs.Common.{◌≡◌, ◌<◌, ◌≤◌, List, [], ◌∷◌, ◌++◌, Option, Some, None, length, refl, ap, sym, subst, ◌∙◌, arith, append_assoc}
use Rattle.std.proofs.lemmas.List.{append-nil}
use Rattle.lotos_ast.specs.declared.place.Place.{Place}
use Rattle.lotos_ast.specs.declared.refusal.Refusal.{Refusal}
use Rattle.lotos_ast.specs.declared.types.Equation.{Equation}
use Rattle.spec_core.specs.declared.items.Sort.{Sort}
use Rattle.spec_core.specs.Theories.{Premise, ConditionalEquation}
use Rattle.sort_overloads.specs.Judged.{Adds}
use Rattle.sort_overloads.specs.Listed.{Typed}
use Rattle.sort_overloads.specs.Readings.{Context}
use Rattle.static_equations.specs.Equations.{listed, ArePremissesJudged, IsSideJudged, equation_unless_refused, IsEquationJudged}
use Rattle.static_equations.specs.Numbered.{equation_of_terms}

none_added : (xs ys : List Refusal) → length (xs ++ ys) ≤ length xs → ys ≡ []
none_added [] [] l = refl
none_added [] (y ∷ ys) l = absurd (omega arith)
none_added (x ∷ xs) ys l = none_added xs ys (omega arith)

not_longer : (xs ys : List Refusal) → length xs < length (xs ++ ys) → ys ≡ [] → ⊥
not_longer xs ys l f = omega (arith, ap (λ z. length (xs ++ z)) f, ap length (append-nil xs))

unread : (c : Context) (place : Place) (premises : List Premise) (left right : Option Typed) (rs : List Refusal) → (rs ≡ [] → ⊥) → None ≡ equation_unless_refused c place premises left right rs
unread c place premises None None [] h = refl
unread c place premises None (Some y) [] h = refl
unread c place premises (Some x) None [] h = refl
unread c place premises (Some x) (Some y) [] h = absurd (h refl)
unread c place premises None None (r ∷ rs) h = refl
unread c place premises None (Some y) (r ∷ rs) h = refl
unread c place premises (Some x) None (r ∷ rs) h = refl
unread c place premises (Some x) (Some y) (r ∷ rs) h = refl

left_missing : (c : Context) (place : Place) (premises : List Premise) (right : Option Typed) (rs : List Refusal) → None ≡ equation_unless_refused c place premises None right rs
left_missing c place premises None [] = refl
left_missing c place premises (Some y) [] = refl
left_missing c place premises None (r ∷ rs) = refl
left_missing c place premises (Some y) (r ∷ rs) = refl

right_missing : (c : Context) (place : Place) (premises : List Premise) (left : Option Typed) (rs : List Refusal) → None ≡ equation_unless_refused c place premises left None rs
right_missing c place premises None [] = refl
right_missing c place premises (Some x) [] = refl
right_missing c place premises None (r ∷ rs) = refl
right_missing c place premises (Some x) (r ∷ rs) = refl

module _ (c : Context) (sort : Sort) (e : Equation) (old a b now : List Refusal) (premises : List Premise) (left right : Option Typed)
    (h : Adds (ArePremissesJudged c (listed e.premisses) premises) old a) (k : Adds (IsSideJudged c sort e.left left) a b) (m : Adds (IsSideJudged c sort e.right right) b now) where
  abbrev all : List Refusal
  all = h.refusals ++ (k.refusals ++ m.refusals)

  behind : now ≡ old ++ all
  behind = m.behind ∙ ap (λ z. z ++ m.refusals) (k.behind ∙ ap (λ z. z ++ k.refusals) h.behind)
      ∙ append_assoc (old ++ h.refusals) k.refusals m.refusals ∙ append_assoc old h.refusals (k.refusals ++ m.refusals)

  by : (found : Option ConditionalEquation) → found ≡ equation_unless_refused c e.place premises left right all → Adds (IsEquationJudged c sort e found) old now
  by found f = record {
    refusals = all;
    such = record {
      premises = premises;
      left = left;
      right = right;
      premise_refusals = h.refusals;
      left_refusals = k.refusals;
      right_refusals = m.refusals;
      premises_judged = h.such;
      left_judged = k.such;
      right_judged = m.such;
      all_refusals = refl;
      equation = f;
    };
    behind = behind;
  }

  pub some-refused : length old < length now → Adds (IsEquationJudged c sort e None) old now
  some-refused longer = by None (unread c e.place premises left right all (not_longer old all (subst (λ z. length old < length z) behind longer)))

  pub no-left : left ≡ None → Adds (IsEquationJudged c sort e None) old now
  no-left f = by None (subst (λ z. None ≡ equation_unless_refused c e.place premises z right all) (sym f) (left_missing c e.place premises right all))

  pub no-right : right ≡ None → Adds (IsEquationJudged c sort e None) old now
  no-right f = by None (subst (λ z. None ≡ equation_unless_refused c e.place premises left z all) (sym f) (right_missing c e.place premises left all))

  pub all-read : (x y : Typed) (found : ConditionalEquation) → left ≡ Some x → right ≡ Some y → length now ≤ length old → found ≡ equation_of_terms c.variables e.place premises x.term y.term → Adds (IsEquationJudged c sort e (Some found)) old now
  all-read x y found f g short e_is = by (Some found)
      (ap (λ z. Some z) e_is
      ∙ sym (ap (λ z. equation_unless_refused c e.place premises z right all) f ∙ ap (λ z. equation_unless_refused c e.place premises (Some x) z all) g
      ∙ ap (equation_unless_refused c e.place premises (Some x) (Some y)) (none_added old all (subst (λ z. length z ≤ length old) behind short))))
