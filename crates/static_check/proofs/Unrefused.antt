-- Where nothing is refused, everything is read.
use Rattle.std.proofs.Common.{ℕ, ◌≡◌, List, [], ◌∷◌, ◌++◌, map, refl, sym, subst, length, true, false, Bool}
use Rattle.std.specs.Prelude.{Option, Some, None, option_map, IsSome, if◌then◌else◌, cond}
use Rattle.std.specs.List.{find, list_all, flat_map}
use Rattle.std.proofs.lemmas.Bool.{and_from, false≢true}
use Rattle.lotos_ast.specs.declared.behaviour.Binding.{Binding}
use Rattle.lotos_ast.specs.declared.behaviour.ExitValue.{ExitValue}
use Rattle.lotos_ast.specs.declared.behaviour.GateChoice.{GateChoice}
use Rattle.lotos_ast.specs.declared.behaviour.Offer.{Offer}
use Rattle.lotos_ast.specs.declared.behaviour.Operator.{Operator}
use Rattle.lotos_ast.specs.declared.behaviour.Operator.TheVariants.{Interleave, Synchronise, Shared}
use Rattle.lotos_ast.specs.declared.declaration.Declaration.{Declaration}
use Rattle.lotos_ast.specs.declared.expression.Expr.{Expr}
use Rattle.lotos_ast.specs.declared.expression.Premiss.{Premiss}
use Rattle.lotos_ast.specs.declared.place.Place.{Place}
use Rattle.lotos_ast.specs.declared.refusal.Refusal.{Refusal}
use Rattle.lotos_ast.specs.declared.token.Token.{Token}
use Rattle.spec_core.specs.declared.items.Sort.{Sort}
use Rattle.spec_core.specs.Code as code
use Rattle.spec_core.specs.Code.{Node, Synchronised, Variable, ActionField, give, exit_given, choice, guarded, hide, inner, gate_choice, disable, these_gates, parallel, enable}
use Rattle.spec_core.specs.Functionality.{Functionality}
use Rattle.spec_core.specs.Terms.{TermTree}
use Rattle.spec_core.specs.Theories.{Premise, premise}
use Rattle.spec_core.proofs.Lists.{left_empty, cons_not_empty, right_empty}
use Rattle.sort_overloads.specs.Expressions.{Expression}
use Rattle.sort_overloads.specs.Judged.{IsJudged, read, unread, unknown}
use Rattle.sort_overloads.specs.Listed.{Typed}
use Rattle.sort_overloads.specs.Readings.{Context}
use Rattle.sort_overloads.specs.Refused.{unknown_sort, is_sort_known}
use Rattle.static_equations.specs.Equalities as equalities
use Rattle.static_equations.specs.Equalities.{IsEqualityJudged, Sides, right_unread, left_unread}
use Rattle.static_equations.specs.Premisses.{IsTruthJudged, by_truth, without, IsConditionJudged, or_no_reading}
use Rattle.static_equations.specs.Variables.{all_variables}
use Rattle.static_constructs.specs.Constructs.{Construct}
use Rattle.static_readings.specs.Calls as read_calls
use Rattle.static_readings.specs.Calls.{IsValueRead, sorted, unsorted, IsArgumentRead, fitted, AreValuesRead, called, IsCallRead, miscounted, counted}
use Rattle.static_readings.specs.Calls.{IsBindingRead, bound_to, variable_of}
use Rattle.static_readings.specs.Declarations.{declared_names, refused_unless, unknown_gate, unknown_gates, gate_numbers, declaration_refusals, declared_variables, are_known}
use Rattle.static_readings.specs.Joins.{Read, after, around, over, either, both, joined, disagreement, refused_if_none}
use Rattle.static_readings.specs.Offers.{IsOfferRead, value, variables, IsPredicateRead, IsExitValueRead, any}
use Rattle.static_readings.specs.Offers.{offered_variables, offered_names, numbered_offers}
use Rattle.static_readings.specs.ReadsAll.{ReadsAll, none, further, before}
use Rattle.static_readings.specs.Readings as readings
use Rattle.static_readings.specs.Readings.{ended, acting, under, chosen, gates_of, synchronised, composed, composed_refusals, enabled}
use Rattle.static_readings.specs.Readings.{enabled_refusals, copied}
use Rattle.static_readings.specs.Readings.{IsRead, stopped, exited, acted_inside, acted, chosen_either, asked, bound_to_values}
use Rattle.static_readings.specs.Readings.{chosen_values, chosen_gates, composed_with, hidden, enabled_by, disabled_by, called_with}
use Rattle.static_readings.specs.Readings.{copied_at, AreGatesChosen}
use Rattle.static_readings.specs.Sites.{Site, Heading, gate_number, next_gate, process_named, sort_of, with_gates, with_variables}
use Rattle.type_names.specs.DuplicateNames.{names_twice}

-- nothing is there, and something

pub some_map : {A B : Type 0} (f : A → B) (x : Option A) → IsSome x → IsSome (option_map f x)
some_map f (Some x) h = refl
some_map f None h = absurd (false≢true h)

pub some_before : {B : Type 0} (y : Option B) (ys : Option (List B)) → IsSome y → IsSome ys → IsSome (before y ys)
some_before (Some y) (Some ys) h k = refl
some_before (Some y) None h k = absurd (false≢true k)
some_before None ys h k = absurd (false≢true h)

pub some_if : {A : Type 0} (b : Bool) (x : A) → b ≡ true → IsSome (if b then Some x else None)
some_if true x h = refl
some_if false x h = absurd (false≢true h)

-- what is read of each element is read of all
pub all_read : {A B : Type 0} (P : A → Option B → List Refusal → Type 0)
    → ((x : A) (y : Option B) (rs : List Refusal) → P x y rs → rs ≡ [] → IsSome y)
    → (xs : List A) (ys : Option (List B)) (rs : List Refusal) → ReadsAll P xs ys rs → rs ≡ [] → IsSome ys
all_read P one xs _ _ none h = refl
all_read P one xs _ _ (further x others y ys rs refusals p q) h =
    some_before y ys (one x y rs p (left_empty rs refusals h)) (all_read P one others ys refusals q (right_empty rs refusals h))

-- sorts and gates

sort_by : (b : Bool) (r : Refusal) → (if b then [] else r ∷ []) ≡ [] → b ≡ true
sort_by true r h = refl
sort_by false r h = absurd (cons_not_empty r [] h)

pub sort_known : (c : Context) (t : Token) → unknown_sort c t ≡ [] → is_sort_known c t.text ≡ true
sort_known c t h = sort_by (is_sort_known c t.text) _ h

pub sorts_known : (c : Context) (ds : List Declaration) → flat_map (λ d. unknown_sort c d.sort) ds ≡ []
    → list_all (λ d. is_sort_known c d.sort.text) ds ≡ true
sorts_known c [] h = refl
sorts_known c (d ∷ ds) h =
    and_from (is_sort_known c d.sort.text) _ (sort_known c d.sort (left_empty (unknown_sort c d.sort) _ h)) (sorts_known c ds (right_empty (unknown_sort c d.sort) _ h))

gate_by : (g : Option ℕ) (place : Place) → refused_unless g place ≡ [] → IsSome g
gate_by (Some g) place h = refl
gate_by None place h = absurd (cons_not_empty _ [] h)

module _ (s : Site) where
  gate_known : (t : Token) → unknown_gate s t ≡ [] → IsSome (gate_number s t)
  gate_known t h = gate_by (gate_number s t) t.place h

  gates_known : (ts : List Token) → unknown_gates s ts ≡ [] → IsSome (gate_numbers s ts)
  gates_known [] h = refl
  gates_known (t ∷ ts) h =
      some_before (gate_number s t) (gate_numbers s ts) (gate_known t (left_empty (unknown_gate s t) _ h)) (gates_known ts (right_empty (unknown_gate s t) _ h))

  synchronised_known : (operator : Operator) → unknown_gates s (gates_of operator) ≡ [] → IsSome (synchronised s operator)
  synchronised_known (Interleave place) h = refl
  synchronised_known (Synchronise place) h = refl
  synchronised_known (Shared place gates) h = some_map these_gates (gate_numbers s gates.items) (gates_known gates.items h)

  variables_known : (ds : List Declaration) → declaration_refusals s ds ≡ [] → IsSome (declared_variables s ds)
  variables_known ds h = some_if (are_known s ds) _ (sorts_known s.context ds (right_empty (names_twice (declared_names ds)) _ h))

  sort_of_known : (t : Token) → unknown_sort s.context t ≡ [] → IsSome (sort_of s t)
  sort_of_known t h = some_if (is_sort_known s.context t.text) _ (sort_known s.context t h)

-- expressions and conditions

pub expression_read : {c : Context} {e : Expression} {wanted : Option Sort} {place : Place} (x : Option Typed) (rs : List Refusal)
    → IsJudged c e wanted place x rs → rs ≡ [] → IsSome x
expression_read _ _ (read x known only) h = refl
expression_read _ _ (unread r known refusal) h = absurd (cons_not_empty r [] h)
expression_read _ _ (unknown r rs are) h = absurd (cons_not_empty r rs h)

not_empty : (place : Place) (rs : List Refusal) → or_no_reading place rs ≡ [] → ⊥
not_empty place [] h = cons_not_empty _ [] h
not_empty place (r ∷ rs) h = cons_not_empty r rs h

truth_read : {c : Context} {e : Expression} {place : Place} (x : Option Premise) (rs : List Refusal) → IsTruthJudged c e place x rs → rs ≡ [] → IsSome x
truth_read _ _ (by_truth t sort found rs is same j) h = some_map (λ (x : Typed). premise x.term t.term) found (expression_read found rs j h)
truth_read _ _ (without is) h = absurd (not_empty _ _ h)

equality_read : {c : Context} {sides : Sides} (x : Option Premise) (rs : List Refusal) → IsEqualityJudged c sides x rs → rs ≡ [] → IsSome x
equality_read _ _ (equalities.read x y sort is left right) h = refl
equality_read _ _ (right_unread x sort rs is left right) h = absurd (false≢true (expression_read None rs right h))
equality_read _ _ (left_unread rs left) h = absurd (false≢true (expression_read None rs left (left_empty rs _ h)))

pub condition_read : (c : Context) (left : Expr) (right : Option Expr) (x : Option Premise) (rs : List Refusal)
    → IsConditionJudged c left right x rs → rs ≡ [] → IsSome x
condition_read c left None x rs j h = truth_read x rs j h
condition_read c left (Some right) x rs j h = equality_read x rs j h

module _ (s : Site) where
  offer_read : (o : ℕ × Offer) (x : Option (List ActionField)) (rs : List Refusal) → IsOfferRead s o x rs → rs ≡ [] → IsSome x
  offer_read o _ _ (value e x rs j) h = some_map (λ (x : Typed). give x.term ∷ []) x (expression_read x rs j h)
  offer_read o _ _ (variables {n = n} names sort) h = some_if (is_sort_known s.context sort.text) _ (sort_known s.context sort h)

  predicate_read : (p : Option Premiss) (x : Option (Option Premise)) (rs : List Refusal) → IsPredicateRead s p x rs → rs ≡ [] → IsSome x
  predicate_read None x rs j h = subst (λ z. IsSome z) (sym j.0) refl
  predicate_read (Some p) x rs (found, is, j) h =
      subst (λ z. IsSome z) (sym is) (some_map (λ p. Some p) found (condition_read s.context p.left p.right found rs j h))

  exit_value_read : (v : ExitValue) (x : Option (code.ExitValue × ℕ)) (rs : List Refusal) → IsExitValueRead s v x rs → rs ≡ [] → IsSome x
  exit_value_read v _ _ (any sort) h = some_map _ (sort_of s sort) (sort_of_known s sort h)
  exit_value_read v _ _ (value e x rs j) h = some_map (λ (x : Typed). (exit_given x.term, x.sort)) x (expression_read x rs j h)

  value_read : {o : Option ℕ} (e : Expr) (x : Option TermTree) (rs : List Refusal) → IsSome o → IsValueRead s o e x rs → rs ≡ [] → IsSome x
  value_read e _ _ known (sorted sort _ x rs j) h = some_map (λ (x : Typed). x.term) x (expression_read x rs j h)
  value_read e _ _ known (unsorted _) h = absurd (false≢true known)

  argument_read : {o : Option ℕ} (e : Expr) (x : Option TermTree) (rs : List Refusal) → IsSome o → IsArgumentRead s o e x rs → rs ≡ [] → IsSome x
  argument_read {o = Some sort} e _ _ known (fitted t rs j) h = value_read e t rs known j h
  argument_read {o = None} e _ _ known (fitted t rs j) h = absurd (false≢true known)

  binding_read : (b : ℕ × Binding) (x : Option code.Binding) (rs : List Refusal) → IsBindingRead s b x rs → rs ≡ [] → IsSome x
  binding_read b _ _ (read_calls.bound {n = n} c t rs j) h =
      some_map (bound_to s n c) t
      (value_read c.value t rs (sort_of_known s c.sort (left_empty (unknown_sort s.context c.sort) rs h)) j (right_empty (unknown_sort s.context c.sort) rs h))

-- processes whose sorts are known

abbrev pub are_all_some : List (Option ℕ) → Type 0
are_all_some [] = Unit {0}
are_all_some (x ∷ xs) = IsSome x × are_all_some xs

pub record IsKnown (p : Heading) : Type 0 where
  pub sorts : are_all_some p.sorts
  pub functionality : IsSome p.functionality

abbrev pub are_all_known : List Heading → Type 0
are_all_known [] = Unit {0}
are_all_known (p ∷ ps) = IsKnown p × are_all_known ps

found_known : (b : Bool) (p q : Heading) (rest : Option Heading) → IsKnown p → (rest ≡ Some q → IsKnown q) → cond b (Some p) rest ≡ Some q → IsKnown q
found_known true p q rest known later h =
    let e : p ≡ q = cc in
    subst IsKnown e known
found_known false p q rest known later h = later h

process_known : (test : Heading → Bool) (ps : List Heading) (q : Heading) → are_all_known ps → find test ps ≡ Some q → IsKnown q
process_known test [] q known h = absurd (let z : None ≡ Some q = h in cc)
process_known test (p ∷ ps) q known h = found_known (test p) p q (find test ps) known.0 (process_known test ps q known.1) h

values_read : (s : Site) (sorts : List (Option ℕ)) (es : List Expr) (x : Option (List TermTree)) (rs : List Refusal) → are_all_some sorts
    → AreValuesRead s sorts es x rs → rs ≡ [] → IsSome x
values_read s [] es _ _ known none h = refl
values_read s (o ∷ os) [] _ _ known none h = refl
values_read s (o ∷ os) (e ∷ es) _ _ known (further _ _ y ys rs refusals p q) h =
    some_before y ys (argument_read s e y rs known.0 p (left_empty rs refusals h)) (values_read s os es ys refusals known.1 q (right_empty rs refusals h))

call_known : (p : Heading) (gates : Option (List ℕ)) (values : Option (List TermTree)) → IsKnown p → IsSome gates → IsSome values → IsSome (called p gates values)
call_known p (Some gates) (Some values) known h k = some_map _ p.functionality known.functionality
call_known p (Some gates) None known h k = absurd (false≢true k)
call_known p None values known h k = absurd (false≢true h)

call_read : (s : Site) (name : Token) (gates : List Token) (es : List Expr) (o : Option Heading) (x : Option Read) (rs : List Refusal)
    → ((p : Heading) → o ≡ Some p → IsKnown p) → IsCallRead s name gates es o x rs → rs ≡ [] → IsSome x
call_read s name gates es o _ _ known read_calls.unknown h = absurd (cons_not_empty _ [] h)
call_read s name gates es o _ _ known (miscounted p e) h = absurd (cons_not_empty _ [] h)
call_read s name gates es o _ _ known (counted p values rs e j) h =
    let is = known p refl in
    call_known p (gate_numbers s gates) values is (gates_known s gates (left_empty (unknown_gates s gates) rs h))
    (values_read s p.sorts es values rs is.sorts j (right_empty (unknown_gates s gates) rs h))

-- what stands around parts

acting_some : (from : ℕ) (g : Option ℕ) (fields : Option (List (List ActionField))) (guard : Option (Option Premise)) (x : Option Read)
    → IsSome g → IsSome fields → IsSome guard → IsSome x → IsSome (acting from g fields guard x)
acting_some from (Some g) (Some fields) (Some guard) (Some x) h k l m = refl
acting_some from (Some g) (Some fields) (Some guard) None h k l m = absurd (false≢true m)
acting_some from (Some g) (Some fields) None x h k l m = absurd (false≢true l)
acting_some from (Some g) None guard x h k l m = absurd (false≢true k)
acting_some from None fields guard x h k l m = absurd (false≢true h)

under_some : {B : Type 0} (from : ℕ) (make : B → ℕ → Node) (y : Option B) (x : Option Read) → IsSome y → IsSome x → IsSome (under from make y x)
under_some from make (Some y) (Some x) h k = refl
under_some from make (Some y) None h k = absurd (false≢true k)
under_some from make None x h k = absurd (false≢true h)

chosen_some : (from : ℕ) (xs : Option (List Variable)) (x : Option Read) → IsSome xs → IsSome x → IsSome (chosen from xs x)
chosen_some from (Some xs) (Some x) h k = refl
chosen_some from (Some xs) None h k = absurd (false≢true k)
chosen_some from None x h k = absurd (false≢true h)

copied_some : (from g : ℕ) (gates : Option Synchronised) (among : Option (List ℕ)) (x : Option Read)
    → IsSome gates → IsSome among → IsSome x → IsSome (copied from g gates among x)
copied_some from g (Some gates) (Some []) (Some x) h k l = refl
copied_some from g (Some gates) (Some (a ∷ among)) (Some x) h k l = refl
copied_some from g (Some gates) (Some []) None h k l = absurd (false≢true l)
copied_some from g (Some gates) (Some (a ∷ among)) None h k l = absurd (false≢true l)
copied_some from g (Some gates) None x h k l = absurd (false≢true k)
copied_some from g None among x h k l = absurd (false≢true h)

joined_by : (f : Option Functionality) (place : Place) → refused_if_none f place ≡ [] → IsSome f
joined_by (Some f) place h = refl
joined_by None place h = absurd (cons_not_empty _ [] h)

joined_some : (from : ℕ) (place : Place) (combine : Functionality → Functionality → Option Functionality) (make : ℕ → ℕ → Node) (x y : Option Read)
    → IsSome x → IsSome y → disagreement place combine x y ≡ [] → IsSome (joined from combine make x y)
joined_some from place combine make (Some x) (Some y) h k l =
    some_map (over from make x y) (combine x.functionality y.functionality) (joined_by (combine x.functionality y.functionality) place l)
joined_some from place combine make (Some x) None h k l = absurd (false≢true k)
joined_some from place combine make None y h k l = absurd (false≢true h)

composed_some : (from : ℕ) (place : Place) (gates : Option Synchronised) (x y : Option Read) → IsSome gates → IsSome x → IsSome y
    → composed_refusals place gates x y ≡ [] → IsSome (composed from gates x y)
composed_some from place (Some gates) x y g h k l = joined_some from place both (parallel gates) x y h k l
composed_some from place None x y g h k l = absurd (false≢true g)

enabled_some : (from : ℕ) (place : Place) (xs : Option (List Variable)) (x y : Option Read) → IsSome xs → IsSome x → IsSome y
    → enabled_refusals place xs x y ≡ [] → IsSome (enabled from xs x y)
enabled_some from place (Some xs) x y g h k l =
    joined_some from place (λ f. readings.accepting f xs) (λ left right. enable left xs right) x y h k l
enabled_some from place None x y g h k l = absurd (false≢true g)

-- a construct of which nothing is refused is read, where the sorts of all processes in scope are known
mutual
  pub construct_read : (s : Site) (from : ℕ) (b : Construct) (x : Option Read) (rs : List Refusal) → are_all_known s.processes
      → IsRead s from b x rs → rs ≡ [] → IsSome x
  construct_read s from b _ _ known stopped h = refl
  construct_read s from b _ _ known (exited values found rs j) h =
      some_map ended found (all_read (IsExitValueRead s) (exit_value_read s) values found rs j h)
  construct_read s from b _ _ known (acted_inside c x rs j) h = some_map (around from inner) x (construct_read s from c x rs known j h)
  construct_read s from b _ _ known (acted gate offers p c fields guard x ro rp rb o q j) h =
      let within = with_variables s (offered_variables s offers) in
      let h2 = right_empty (unknown_gate s gate) (names_twice (offered_names offers) ++ (ro ++ (rp ++ rb))) h in
      let h3 = right_empty (names_twice (offered_names offers)) (ro ++ (rp ++ rb)) h2 in
      let h4 = right_empty ro (rp ++ rb) h3 in
      acting_some from (gate_number s gate) fields guard x
      (gate_known s gate (left_empty (unknown_gate s gate) (names_twice (offered_names offers) ++ (ro ++ (rp ++ rb))) h))
      (all_read (IsOfferRead s) (offer_read s) (numbered_offers (length s.context.variables) offers) fields ro o (left_empty ro (rp ++ rb) h3))
      (predicate_read within p guard rp q (left_empty rp rb h4))
      (construct_read within from c x rb known j (right_empty rp rb h4))
  construct_read s from b _ _ known (chosen_either place c d x y ra rb j k) h =
      let parts = left_empty (ra ++ rb) (disagreement place either x y) h in
      joined_some from place either choice x y (construct_read s from c x ra known j (left_empty ra rb parts))
      (construct_read s (after from x) d y rb known k (right_empty ra rb parts)) (right_empty (ra ++ rb) (disagreement place either x y) h)
  construct_read s from b _ _ known (asked p c found x rp rb q j) h =
      under_some from guarded found x (condition_read s.context p.left p.right found rp q (left_empty rp rb h))
      (construct_read s from c x rb known j (right_empty rp rb h))
  construct_read s from b _ _ known (bound_to_values bindings c found x rv rb q j) h =
      let h2 = right_empty (names_twice (map (λ (b : Binding). b.name) bindings)) (rv ++ rb) h in
      under_some from code.bound found x (all_read (IsBindingRead s) (binding_read s) _ found rv q (left_empty rv rb h2))
      (construct_read (with_variables s (map (variable_of s) bindings)) from c x rb known j (right_empty rv rb h2))
  construct_read s from b _ _ known (chosen_values ds c x rb j) h =
      chosen_some from (declared_variables s ds) x (variables_known s ds (left_empty (declaration_refusals s ds) rb h))
      (construct_read (with_variables s (all_variables s.context.sorts ds)) from c x rb known j (right_empty (declaration_refusals s ds) rb h))
  construct_read s from b _ _ known (chosen_gates cs c x rs j) h =
      gates_read s from cs c x rs known j (right_empty (names_twice (map (λ (c : GateChoice). c.gate) cs)) rs h)
  construct_read s from b _ _ known (composed_with place operator c d x y ra rb j k) h =
      let gates = synchronised s operator in
      let refusals = unknown_gates s (gates_of operator) in
      let behind = composed_refusals place gates x y in
      let h2 = right_empty refusals ((ra ++ rb) ++ behind) h in
      let parts = left_empty (ra ++ rb) behind h2 in
      composed_some from place gates x y (synchronised_known s operator (left_empty refusals ((ra ++ rb) ++ behind) h))
      (construct_read s from c x ra known j (left_empty ra rb parts)) (construct_read s (after from x) d y rb known k (right_empty ra rb parts))
      (right_empty (ra ++ rb) behind h2)
  construct_read s from b _ _ known (hidden gates c x rb j) h =
      some_map _ x (construct_read (with_gates s gates) from c x rb known j (right_empty (names_twice gates) rb h))
  construct_read s from b _ _ known (enabled_by place c ds d x y ra rb j k) h =
      let xs = declared_variables s ds in
      let behind = enabled_refusals place xs x y in
      let h2 = right_empty ra (declaration_refusals s ds ++ (rb ++ behind)) h in
      let h3 = right_empty (declaration_refusals s ds) (rb ++ behind) h2 in
      enabled_some from place xs x y (variables_known s ds (left_empty (declaration_refusals s ds) (rb ++ behind) h2))
      (construct_read s from c x ra known j (left_empty ra (declaration_refusals s ds ++ (rb ++ behind)) h))
      (construct_read (with_variables s (all_variables s.context.sorts ds)) (after from x) d y rb known k (left_empty rb behind h3))
      (right_empty rb behind h3)
  construct_read s from b _ _ known (disabled_by place c d x y ra rb j k) h =
      let parts = left_empty (ra ++ rb) (disagreement place either x y) h in
      joined_some from place either disable x y (construct_read s from c x ra known j (left_empty ra rb parts))
      (construct_read s (after from x) d y rb known k (right_empty ra rb parts)) (right_empty (ra ++ rb) (disagreement place either x y) h)
  construct_read s from b _ _ known (called_with name gates es x rs j) h =
      call_read s name gates es (process_named s name) x rs (λ p e. process_known _ s.processes p known e) j h
  construct_read s from b _ _ known (copied_at gate among operator c x rb j) h =
      let h2 = right_empty (unknown_gates s among) (unknown_gates s (gates_of operator) ++ rb) h in
      copied_some from (next_gate s) (synchronised s operator) (gate_numbers s among) x
      (synchronised_known s operator (left_empty (unknown_gates s (gates_of operator)) rb h2))
      (gates_known s among (left_empty (unknown_gates s among) (unknown_gates s (gates_of operator) ++ rb) h))
      (construct_read (with_gates s (gate ∷ [])) from c x rb known j (right_empty (unknown_gates s (gates_of operator)) rb h2))

  gates_read : (s : Site) (from : ℕ) (cs : List GateChoice) (b : Construct) (x : Option Read) (rs : List Refusal) → are_all_known s.processes
      → AreGatesChosen s from cs b x rs → rs ≡ [] → IsSome x
  gates_read s from cs b _ _ known (readings.none_left _ x rs j) h = construct_read s from b x rs known j h
  gates_read s from cs b _ _ known (readings.one_more c others _ x rs j) h =
      under_some from (gate_choice (next_gate s)) (gate_numbers s c.gates.gates.items) x
      (gates_known s c.gates.gates.items (left_empty (unknown_gates s c.gates.gates.items) rs h))
      (gates_read (with_gates s (c.gate ∷ [])) from others b x rs known j (right_empty (unknown_gates s c.gates.gates.items) rs h))
