-- What the definitions of this crate say of a text, they say in one way only.
use Rattle.std.proofs.Common.{Option, Some, None, ◌≡◌, List, [], ◌∷◌, ◌++◌, refl, ap, sym, subst, ◌∙◌}
use Rattle.std.specs.Prelude.{option_map, option_to_list}
use Rattle.std.proofs.lemmas.Option.{same_Some}
use Rattle.lotos_ast.specs.declared.expression.Expr.{Expr}
use Rattle.lotos_ast.specs.declared.place.Place.{Place}
use Rattle.lotos_ast.specs.declared.refusal.Refusal.{Refusal}
use Rattle.lotos_ast.specs.declared.types.Equation.{Equation}
use Rattle.lotos_ast.specs.declared.types.EquationBody.{EquationBody}
use Rattle.lotos_ast.specs.declared.types.SortEquations.{SortEquations}
use Rattle.spec_core.specs.declared.items.Sort.{Sort}
use Rattle.spec_core.specs.Theories.{premise}
use Rattle.sort_overloads.specs.Expressions.{Expression}
use Rattle.sort_overloads.specs.Judged.{IsJudged}
use Rattle.sort_overloads.specs.Listed.{Typed}
use Rattle.sort_overloads.specs.Readings.{Context}
use Rattle.sort_overloads.specs.Refused.{unknowns}
use Rattle.static_equations.specs.Bodies.{AreJudgedOfSort, IsPartJudged, IsBodyJudged}
use Rattle.static_equations.specs.Equalities.{Sides, IsEqualityJudged, read, right_unread, left_unread}
use Rattle.static_equations.specs.Equations.{equation_unless_refused, IsEquationJudged}
use Rattle.static_equations.specs.Gathered.{Gathers, none, further, IfRead, UnlessRefused, refused_before, judged}
use Rattle.static_equations.specs.Laws.{IsOne}
use Rattle.static_equations.specs.Premisses.{IsTruthJudged, by_truth, without, IsConditionJudged}
use Rattle.static_equations.specs.Variables.{under}
use Rattle.static_equations.proofs.Judgements.{judged-one}

sort-one : (s t : Sort) → s.0 ≡ t.0 → s ≡ t
sort-one s t h = ap (λ n. record { 0 = n }) h

-- two expressions that are to be equal

-- the sort with which the second is read is that of the first
same-sort : {x y : Typed} (s t : Sort) → Some x ≡ Some y → s.0 ≡ x.sort → t.0 ≡ y.sort → t ≡ s
same-sort {x} {y} s t h e f = sort-one t s (f ∙ sym (ap (λ z. z.sort) (same_Some _ _ h)) ∙ sym e)

pub equality-one : (c : Context) (sides : Sides) → IsOne (IsEqualityJudged c sides)
equality-one c sides _ _ _ _ (read x y s e h k) (read u v t f l m) =
    let one = judged-one h l in
    let other = judged-one k (subst (λ z. IsJudged c sides.right (Some z) sides.right_place (Some v) []) (same-sort s t one.0 e f) m) in
    (ap (λ z. Some (premise z.term y.term)) (same_Some _ _ one.0) ∙ ap (λ z. Some (premise u.term z.term)) (same_Some _ _ other.0), refl)
equality-one c sides _ _ _ _ (read x y s e h k) (right_unread u t rs f l m) =
    let other = judged-one k (subst (λ z. IsJudged c sides.right (Some z) sides.right_place None rs) (same-sort s t (judged-one h l).0 e f) m) in absurd (let z = other.0 in cc)
equality-one c sides _ _ _ _ (read x y s e h k) (left_unread rs l) = absurd (let z = (judged-one h l).0 in cc)
equality-one c sides _ _ _ _ (right_unread u t rs f l m) (read x y s e h k) =
    let other = judged-one m (subst (λ z. IsJudged c sides.right (Some z) sides.right_place (Some y) []) (same-sort t s (judged-one l h).0 f e) k) in absurd (let z = other.0 in cc)
equality-one c sides _ _ _ _ (right_unread u t rs f l m) (right_unread x s ss e h k) =
    let other = judged-one m (subst (λ z. IsJudged c sides.right (Some z) sides.right_place None ss) (same-sort t s (judged-one l h).0 f e) k) in (refl, other.1)
equality-one c sides _ _ _ _ (right_unread u t rs f l m) (left_unread ss h) = absurd (let z = (judged-one l h).0 in cc)
equality-one c sides _ _ _ _ (left_unread rs l) (read x y s e h k) = absurd (let z = (judged-one l h).0 in cc)
equality-one c sides _ _ _ _ (left_unread rs l) (right_unread x s ss e h k) = absurd (let z = (judged-one l h).0 in cc)
equality-one c sides _ _ _ _ (left_unread rs l) (left_unread ss h) = (refl, ap (λ z. z ++ unknowns c sides.right) (judged-one l h).1)

-- conditions
pub truth-one : (c : Context) (e : Expression) (p : Place) → IsOne (IsTruthJudged c e p)
truth-one c e p _ _ _ _ (by_truth t s f rs h k l) (by_truth u r g ss m n q) =
    let same : t ≡ u = same_Some _ _ (sym h ∙ m) in
    let one = judged-one l (subst (λ z. IsJudged c e (Some z) p g ss) (sort-one r s (n ∙ sym (ap (λ z. z.sort) same) ∙ sym k)) q) in
    (ap (option_map (λ x. premise x.term t.term)) one.0 ∙ ap (λ z. option_map (λ x. premise x.term z.term) g) same, one.1)
truth-one c e p _ _ _ _ (by_truth t s f rs h k l) (without m) = absurd (let z : Some t ≡ None = sym h ∙ m in cc)
truth-one c e p _ _ _ _ (without m) (by_truth t s f rs h k l) = absurd (let z : Some t ≡ None = sym h ∙ m in cc)
truth-one c e p _ _ _ _ (without m) (without n) = (refl, refl)

pub condition-one : (c : Context) (left : Expr) (right : Option Expr) → IsOne (IsConditionJudged c left right)
condition-one c left None = truth-one c _ _
condition-one c left (Some right) = equality-one c _

-- parts of a text
pub gathers-one : {A B : Type 0} (P : A → List B → List Refusal → Type 0) → ((x : A) → IsOne (P x)) → (xs : List A) → IsOne (Gathers P xs)
gathers-one P one xs _ _ _ _ none none = (refl, refl)
gathers-one P one xs _ _ _ _ (further x ws ys all rs refusals h k) (further _ _ us more ss others l m) =
    let first = one x ys us rs ss h l in
    let rest = gathers-one P one ws all more refusals others k m in
    (ap (λ z. z ++ all) first.0 ∙ ap (λ z. us ++ z) rest.0, ap (λ z. z ++ refusals) first.1 ∙ ap (λ z. ss ++ z) rest.1)

pub if_read-one : {B : Type 0} (P : Option B → List Refusal → Type 0) → IsOne P → IsOne (IfRead P)
if_read-one P one ys zs rs ss (f, e, h) (g, k, l) = let both = one f g rs ss h l in (e ∙ ap option_to_list both.0 ∙ sym k, both.1)

pub unless-one : {B : Type 0} (declarations : List Refusal) (P : List B → List Refusal → Type 0) → IsOne P → IsOne (UnlessRefused declarations P)
unless-one declarations P one _ _ _ _ (refused_before r rs h) (refused_before s ss k) = (refl, sym h ∙ k)
unless-one declarations P one _ _ _ _ (refused_before r rs h) (judged g ss k l) = absurd (let z : [] ≡ r ∷ rs = sym k ∙ h in cc)
unless-one declarations P one _ _ _ _ (judged g ss k l) (refused_before r rs h) = absurd (let z : [] ≡ r ∷ rs = sym k ∙ h in cc)
unless-one declarations P one _ _ _ _ (judged f rs h l) (judged g ss k m) = one f g rs ss l m

-- equations
pub equation-one : (c : Context) (sort : Sort) (e : Equation) → IsOne (IsEquationJudged c sort e)
equation-one c sort e f g rs ss h k =
    let premises = gathers-one _ (λ p. if_read-one _ (condition-one c p.left p.right)) _ h.premises k.premises h.premise_refusals k.premise_refusals h.premises_judged k.premises_judged in
    let left = judged-one h.left_judged k.left_judged in
    let right = judged-one h.right_judged k.right_judged in
    let all : rs ≡ ss = h.all_refusals ∙ ap (λ z. z ++ (h.left_refusals ++ h.right_refusals)) premises.1 ∙ ap (λ z. k.premise_refusals ++ (z ++ h.right_refusals)) left.1
    ∙ ap (λ z. k.premise_refusals ++ (k.left_refusals ++ z)) right.1 ∙ sym k.all_refusals in (
      h.equation ∙ ap (λ z. equation_unless_refused c e.place z h.left h.right rs) premises.0 ∙ ap (λ z. equation_unless_refused c e.place k.premises z h.right rs) left.0
          ∙ ap (λ z. equation_unless_refused c e.place k.premises k.left z rs) right.0 ∙ ap (equation_unless_refused c e.place k.premises k.left k.right) all ∙ sym k.equation,
      all,
    )

of-sort-one : (c : Context) (part : SortEquations) → IsOne (AreJudgedOfSort c part)
of-sort-one c part f g rs ss (s, e, h) (t, k, l) =
    gathers-one _ (λ q. if_read-one _ (equation-one (under c part.variables.items) s q)) part.equations.items f g rs ss h
    (subst (λ z. Gathers (λ q. IfRead (IsEquationJudged (under c part.variables.items) z q)) part.equations.items g ss) (sort-one t s (k ∙ sym e)) l)

pub part-one : (c : Context) (part : SortEquations) → IsOne (IsPartJudged c part)
part-one c part = unless-one _ (AreJudgedOfSort c part) (of-sort-one c part)

pub body-one : (c : Context) (body : EquationBody) → IsOne (IsBodyJudged c body)
body-one c body = unless-one _ _ (gathers-one _ (part-one (under c body.variables.items)) body.parts.items)
