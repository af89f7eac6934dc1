-- What a construct is read as where it stands, it is read as in one way only.
use Rattle.std.proofs.Common.{ℕ, ◌≡◌, List, [], ◌∷◌, ◌++◌, length, map, refl, sym, ap, subst, ◌∙◌}
use Rattle.std.specs.Prelude.{Option, Some, None, option_map}
use Rattle.std.specs.List.{range_with_len}
use Rattle.lotos_ast.specs.declared.behaviour.Binding.{Binding}
use Rattle.lotos_ast.specs.declared.behaviour.ExitValue.{ExitValue}
use Rattle.lotos_ast.specs.declared.behaviour.GateChoice.{GateChoice}
use Rattle.lotos_ast.specs.declared.behaviour.Offer.{Offer}
use Rattle.lotos_ast.specs.declared.expression.Expr.{Expr}
use Rattle.lotos_ast.specs.declared.expression.Premiss.{Premiss}
use Rattle.lotos_ast.specs.declared.refusal.Refusal.{Refusal}
use Rattle.lotos_ast.specs.declared.token.Token.{Token}
use Rattle.lotos_ast.specs.ExpressionTrees.{expr_tree}
use Rattle.lotos_ast.specs.ListTrees.{tree_place}
use Rattle.spec_core.specs.declared.items.Sort.{Sort}
use Rattle.spec_core.specs.Code as code
use Rattle.spec_core.specs.Terms.{TermTree}
use Rattle.spec_core.specs.Code.{give, exit_given, choice, guarded, hide, inner, gate_choice, disable}
use Rattle.sort_overloads.specs.Expressions.{expression}
use Rattle.sort_overloads.specs.Judged.{IsJudged}
use Rattle.sort_overloads.specs.Listed.{Typed}
use Rattle.sort_overloads.specs.Refused.{unknown_sort}
use Rattle.static_equations.specs.Laws.{IsOne}
use Rattle.static_equations.specs.Variables.{all_variables}
use Rattle.static_equations.proofs.Judgements.{judged-one}
use Rattle.static_equations.proofs.Uniqueness.{condition-one}
use Rattle.type_names.specs.DuplicateNames.{names_twice}
use Rattle.static_constructs.specs.Constructs.{Construct}
use Rattle.static_readings.specs.Calls as read_calls
use Rattle.static_readings.specs.Calls.{IsValueRead, sorted, unsorted, fitting, IsArgumentRead, fitted, AreValuesRead, called, IsCallRead, unknown, miscounted, counted}
use Rattle.static_readings.specs.Calls.{IsBindingRead, bound_to, variable_of}
use Rattle.static_readings.specs.Declarations.{unknown_gate, unknown_gates, gate_numbers, declaration_refusals, declared_variables}
use Rattle.static_readings.specs.Joins.{after, around, either, joined, disagreement}
use Rattle.static_readings.specs.Offers.{IsOfferRead, value, variables, IsPredicateRead, IsExitValueRead, any, AreOffersRead, AreExitValuesRead}
use Rattle.static_readings.specs.Offers.{offered_variables, offered_names, numbered_offers}
use Rattle.static_readings.specs.ReadsAll.{ReadsAll, none, further, before}
use Rattle.static_readings.specs.Readings.{ended, acting, under, chosen, gates_of, synchronised, composed, composed_refusals, enabled}
use Rattle.static_readings.specs.Readings.{enabled_refusals, copied}
use Rattle.static_readings.specs.Readings.{IsRead, stopped, exited, acted_inside, acted, chosen_either, asked, bound_to_values}
use Rattle.static_readings.specs.Readings.{chosen_values, chosen_gates, composed_with, hidden, enabled_by, disabled_by, called_with}
use Rattle.static_readings.specs.Readings.{copied_at, AreGatesChosen, none_left, one_more}
use Rattle.static_readings.specs.Sites.{Site, Heading, gate_number, next_gate, process_named, sort_of, with_gates, with_variables}

-- what is made of parts and their refusals is one where these are

pub of-one : {A X : Type 0} (f : A → List Refusal → X) {x u : A} {rs ss : List Refusal} → (x ≡ u) × (rs ≡ ss) → f x rs ≡ f u ss
of-one f {x} {u} {rs} {ss} h = ap (λ z. f z rs) h.0 ∙ ap (f u) h.1

pub of-two : {A B X : Type 0} (f : A → List Refusal → B → List Refusal → X) {x u : A} {ra sa : List Refusal} {y v : B} {rb sb : List Refusal} →
    (x ≡ u) × (ra ≡ sa) → (y ≡ v) × (rb ≡ sb) → f x ra y rb ≡ f u sa v sb
of-two f {x} {u} {ra} {sa} {y} {v} {rb} {sb} h k = of-one (λ z l. f z l y rb) h ∙ of-one (f u sa) k

-- the elements of a list
pub reads-one : {A B : Type 0} (P : A → Option B → List Refusal → Type 0) → ((x : A) → IsOne (P x)) → (xs : List A) → IsOne (ReadsAll P xs)
reads-one P one xs _ _ _ _ none none = (refl, refl)
reads-one P one xs _ _ _ _ (further x others y ys rs refusals h k) (further _ _ z zs ss rest l m) =
    let first = one x y z rs ss h l in
    let left = reads-one P one others ys zs refusals rest k m in
    (of-two (λ y _ ys _. before y ys) first left, of-two (λ _ rs _ refusals. rs ++ refusals) first left)

sort-one : (s t : Sort) → Some s.0 ≡ Some t.0 → t ≡ s
sort-one s t h =
    let e : t.0 ≡ s.0 = cc in
    ap (λ n. record { 0 = n }) e

module _ (s : Site) where
  offer-one : (o : ℕ × Offer) → IsOne (IsOfferRead s o)
  offer-one o _ _ _ _ (value e x rs h) (value _ y ss k) =
      let one = judged-one h k in
      (ap (option_map (λ (x : Typed). give x.term ∷ [])) one.0, one.1)
  offer-one o _ _ _ _ (variables names sort) (variables _ _) = (refl, refl)

  offers-one : (os : List Offer) → IsOne (AreOffersRead s os)
  offers-one os = reads-one (IsOfferRead s) offer-one (numbered_offers (length s.context.variables) os)

  predicate-one : (p : Option Premiss) → IsOne (IsPredicateRead s p)
  predicate-one None f g rs ss h k = (h.0 ∙ sym k.0, h.1 ∙ sym k.1)
  predicate-one (Some p) f g rs ss (x, e, h) (y, d, k) =
      let one = condition-one s.context p.left p.right x y rs ss h k in
      (e ∙ ap (option_map (λ p. Some p)) one.0 ∙ sym d, one.1)

  exit-value-one : (v : ExitValue) → IsOne (IsExitValueRead s v)
  exit-value-one v _ _ _ _ (any sort) (any _) = (refl, refl)
  exit-value-one v _ _ _ _ (value e x rs h) (value _ y ss k) =
      let one = judged-one h k in
      (ap (option_map (λ (x : Typed). (exit_given x.term, x.sort))) one.0, one.1)

  exit-values-one : (vs : List ExitValue) → IsOne (AreExitValuesRead s vs)
  exit-values-one vs = reads-one (IsExitValueRead s) exit-value-one vs

  -- a value of a sort, which may be said in two ways
  value-one-at : {o q : Option ℕ} (e : Expr) {f g : Option TermTree} {rs ss : List Refusal} → o ≡ q → IsValueRead s o e f rs → IsValueRead s q e g ss →
      (f ≡ g) × (rs ≡ ss)
  value-one-at e same (sorted sort _ x rs h) (sorted t _ y ss k) =
      let one = judged-one h (subst (λ z. IsJudged s.context (expression (expr_tree e)) (Some z) (tree_place (expr_tree e)) y ss) (sort-one sort t same) k) in
      (ap (option_map (λ (x : Typed). x.term)) one.0, one.1)
  value-one-at e same (sorted sort _ x rs h) (unsorted _) = absurd (cc)
  value-one-at e same (unsorted _) (sorted t _ y ss k) = absurd (cc)
  value-one-at e same (unsorted _) (unsorted _) = (refl, refl)

  value-one : (o : Option ℕ) (e : Expr) → IsOne (IsValueRead s o e)
  value-one o e f g rs ss h k = value-one-at e refl h k

  argument-one : (o : Option ℕ) (e : Expr) → IsOne (IsArgumentRead s o e)
  argument-one o e _ _ _ _ (fitted t rs h) (fitted u ss k) =
      let one = value-one o e t u rs ss h k in
      (of-one (λ t rs. fitting o rs t) one, one.1)

  call-one : (name : Token) (gates : List Token) (es : List Expr) (o : Option Heading) → IsOne (IsCallRead s name gates es o)
  call-one name gates es o _ _ _ _ unknown unknown = (refl, refl)
  call-one name gates es o _ _ _ _ (miscounted p e) (miscounted _ d) = (refl, refl)
  call-one name gates es o _ _ _ _ (miscounted p e) (counted _ values rs d h) = absurd (let z = sym e ∙ d in cc)
  call-one name gates es o _ _ _ _ (counted p values rs e h) (miscounted _ d) = absurd (let z = sym e ∙ d in cc)
  call-one name gates es o _ _ _ _ (counted p values rs e h) (counted _ others ss d k) =
      let one = reads-one _ (λ v. argument-one v.0 v.1) _ values others rs ss h k in
      (ap (called p (gate_numbers s gates)) one.0, ap (λ l. unknown_gates s gates ++ l) one.1)

  binding-one : (b : ℕ × Binding) → IsOne (IsBindingRead s b)
  binding-one b _ _ _ _ (read_calls.bound {n = n} c t rs h) (read_calls.bound _ u ss k) =
      let one = value-one (sort_of s c.sort) c.value t u rs ss h k in
      (ap (option_map (bound_to s n c)) one.0, ap (λ l. unknown_sort s.context c.sort ++ l) one.1)

-- three parts of an action
of-three : {A B C X : Type 0} (f : A → List Refusal → B → List Refusal → C → List Refusal → X) {x u : A} {ra sa : List Refusal} {y v : B}
    {rb sb : List Refusal} {z w : C} {rc sc : List Refusal} → (x ≡ u) × (ra ≡ sa) → (y ≡ v) × (rb ≡ sb) → (z ≡ w) × (rc ≡ sc) →
    f x ra y rb z rc ≡ f u sa v sb w sc
of-three f {x} {u} {ra} {sa} {y} {v} {rb} {sb} {z} {w} {rc} {sc} h k l =
    of-two (λ x ra y rb. f x ra y rb z rc) h k ∙ of-one (f u sa v sb) l

mutual
  pub construct-one : (s : Site) (from : ℕ) (b : Construct) → IsOne (IsRead s from b)
  construct-one s from b _ _ _ _ stopped stopped = (refl, refl)
  construct-one s from b _ _ _ _ (exited values f rs h) (exited _ g ss k) =
      let one = exit-values-one s values f g rs ss h k in
      (ap (option_map ended) one.0, one.1)
  construct-one s from b _ _ _ _ (acted_inside c x rs h) (acted_inside _ y ss k) =
      let one = construct-one s from c x y rs ss h k in
      (ap (option_map (around from inner)) one.0, one.1)
  construct-one s from b _ _ _ _ (acted gate offers p c fields guard x ro rp rb o q h) (acted _ _ _ _ others test y so sp sb m n k) =
      let inside : Site = with_variables s (offered_variables s offers) in
      let os = offers-one s offers fields others ro so o m in
      let ps = predicate-one inside p guard test rp sp q n in
      let one = construct-one inside from c x y rb sb h k in (
        of-three (λ fields _ guard _ x _. acting from (gate_number s gate) fields guard x) os ps one,
        of-three (λ _ ro _ rp _ rb. unknown_gate s gate ++ (names_twice (offered_names offers) ++ (ro ++ (rp ++ rb)))) os ps one,
      )
  construct-one s from b _ _ _ _ (chosen_either place c d x y ra rb h k) (chosen_either _ _ _ u v sa sb l m) =
      let left = construct-one s from c x u ra sa h l in
      let right = construct-one s (after from x) d y v rb sb k (subst (λ o. IsRead s (after from o) d v sb) (sym left.0) m) in
      (of-two (λ x _ y _. joined from either choice x y) left right, of-two (λ x ra y rb. (ra ++ rb) ++ disagreement place either x y) left right)
  construct-one s from b _ _ _ _ (asked p c found x rp rb q h) (asked _ _ other y sp sb t k) =
      let ps = condition-one s.context p.left p.right found other rp sp q t in
      let one = construct-one s from c x y rb sb h k in
      (of-two (λ found _ x _. under from guarded found x) ps one, of-two (λ _ rp _ rb. rp ++ rb) ps one)
  construct-one s from b _ _ _ _ (bound_to_values bindings c found x rv rb q h) (bound_to_values _ _ other y sv sb t k) =
      let vs = reads-one _ (binding-one s) _ found other rv sv q t in
      let one = construct-one (with_variables s (map (variable_of s) bindings)) from c x y rb sb h k in (
        of-two (λ found _ x _. under from code.bound found x) vs one,
        of-two (λ _ rv _ rb. names_twice (map (λ b. b.name) bindings) ++ (rv ++ rb)) vs one,
      )
  construct-one s from b _ _ _ _ (chosen_values ds c x rb h) (chosen_values _ _ y sb k) =
      let one = construct-one (with_variables s (all_variables s.context.sorts ds)) from c x y rb sb h k in
      (of-one (λ x _. chosen from (declared_variables s ds) x) one, of-one (λ _ rb. declaration_refusals s ds ++ rb) one)
  construct-one s from b _ _ _ _ (chosen_gates cs c x rs h) (chosen_gates _ _ y ss k) =
      let one = gates-one s from cs c x y rs ss h k in
      (one.0, ap (λ l. names_twice (map (λ c. c.gate) cs) ++ l) one.1)
  construct-one s from b _ _ _ _ (composed_with place operator c d x y ra rb h k) (composed_with _ _ _ _ u v sa sb l m) =
      let left = construct-one s from c x u ra sa h l in
      let right = construct-one s (after from x) d y v rb sb k (subst (λ o. IsRead s (after from o) d v sb) (sym left.0) m) in (
        of-two (λ x _ y _. composed from (synchronised s operator) x y) left right,
        of-two (λ x ra y rb. unknown_gates s (gates_of operator) ++ ((ra ++ rb) ++ composed_refusals place (synchronised s operator) x y)) left right,
      )
  construct-one s from b _ _ _ _ (hidden gates c x rb h) (hidden _ _ y sb k) =
      let one = construct-one (with_gates s gates) from c x y rb sb h k in (
        of-one (λ x _. option_map (around from (hide (range_with_len (next_gate s) (length gates)))) x) one,
        of-one (λ _ rb. names_twice gates ++ rb) one,
      )
  construct-one s from b _ _ _ _ (enabled_by place c ds d x y ra rb h k) (enabled_by _ _ _ _ u v sa sb l m) =
      let inside : Site = with_variables s (all_variables s.context.sorts ds) in
      let left = construct-one s from c x u ra sa h l in
      let right = construct-one inside (after from x) d y v rb sb k (subst (λ o. IsRead inside (after from o) d v sb) (sym left.0) m) in (
        of-two (λ x _ y _. enabled from (declared_variables s ds) x y) left right,
        of-two (λ x ra y rb. ra ++ (declaration_refusals s ds ++ (rb ++ enabled_refusals place (declared_variables s ds) x y))) left right,
      )
  construct-one s from b _ _ _ _ (disabled_by place c d x y ra rb h k) (disabled_by _ _ _ u v sa sb l m) =
      let left = construct-one s from c x u ra sa h l in
      let right = construct-one s (after from x) d y v rb sb k (subst (λ o. IsRead s (after from o) d v sb) (sym left.0) m) in
      (of-two (λ x _ y _. joined from either disable x y) left right, of-two (λ x ra y rb. (ra ++ rb) ++ disagreement place either x y) left right)
  construct-one s from b _ _ _ _ (called_with name gates es x rs h) (called_with _ _ _ y ss k) =
      call-one s name gates es (process_named s name) x y rs ss h k
  construct-one s from b _ _ _ _ (copied_at gate among operator c x rb h) (copied_at _ _ _ _ y sb k) =
      let one = construct-one (with_gates s (gate ∷ [])) from c x y rb sb h k in (
        of-one (λ x _. copied from (next_gate s) (synchronised s operator) (gate_numbers s among) x) one,
        of-one (λ _ rb. unknown_gates s among ++ (unknown_gates s (gates_of operator) ++ rb)) one,
      )

  gates-one : (s : Site) (from : ℕ) (cs : List GateChoice) (b : Construct) → IsOne (AreGatesChosen s from cs b)
  gates-one s from cs b _ _ _ _ (none_left _ x rs h) (none_left _ y ss k) = construct-one s from b x y rs ss h k
  gates-one s from cs b _ _ _ _ (one_more c others _ x rs h) (one_more _ _ _ y ss k) =
      let one = gates-one (with_gates s (c.gate ∷ [])) from others b x y rs ss h k in (
        of-one (λ x _. under from (gate_choice (next_gate s)) (gate_numbers s c.gates.gates.items) x) one,
        of-one (λ _ rs. unknown_gates s c.gates.gates.items ++ rs) one,
      )
