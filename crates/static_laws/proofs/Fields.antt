-- The fields of actions.
use Rattle.std.proofs.Common.{ℕ, suc, ◌≡◌, ◌+◌, List, [], ◌∷◌, ◌++◌, length, map, refl, sym, ap, subst, ◌∙◌, arith}
use Rattle.std.proofs.lemmas.List.{length-map}
use Rattle.std.specs.Prelude.{Option, Some, None, IfSome}
use Rattle.std.specs.List.{flat_map}
use Rattle.std.proofs.lemmas.Option.{IfSome_then}
use Rattle.lotos_ast.specs.declared.behaviour.Offer.{Offer}
use Rattle.lotos_ast.specs.declared.behaviour.Offer.TheVariants.{Variables}
use Rattle.lotos_ast.specs.declared.expression.Premiss.{Premiss}
use Rattle.lotos_ast.specs.declared.refusal.Refusal.{Refusal}
use Rattle.lotos_ast.specs.ExpressionTrees.{expr_tree}
use Rattle.lotos_ast.specs.ListTrees.{tree_place}
use Rattle.spec_core.specs.Code.{ActionField, give, accept, Variable}
use Rattle.spec_core.specs.Functionality.{FieldFits, GuardFits, accepted, VariableFits}
use Rattle.spec_core.specs.Lists.{Each}
use Rattle.spec_core.specs.Theories.{Theory, Premise}
use Rattle.spec_core.proofs.Lists.{each_append}
use Rattle.sort_overloads.specs.Expressions.{expression}
use Rattle.sort_overloads.specs.Readings.{Declared}
use Rattle.sort_overloads.specs.Refused.{is_sort_known}
use Rattle.static_equations.specs.Variables.{sort_named}
use Rattle.static_readings.specs.Declarations.{numbered_from, of_one_sort}
use Rattle.static_readings.specs.Offers.{IsOfferRead, value, variables, AreOffersRead, numbered_offers, variables_of, names_of}
use Rattle.static_readings.specs.Offers.{offered_variables, IsPredicateRead}
use Rattle.static_readings.specs.ReadsAll.{ReadsAll, none, further, before}
use Rattle.static_readings.specs.Sites.{Site}
use Rattle.static_laws.specs.Standing.{AgreesWithData}
use Rattle.static_laws.proofs.Judgements.{judged-sort, condition-fits}
use Rattle.static_laws.proofs.Options.{if-map, if-passed}
use Rattle.static_laws.proofs.CompiledVariables.{known-sort, each-numbered, each-of-one-sort}

accepted-append : (xs ys : List ActionField) → accepted (xs ++ ys) ≡ accepted xs ++ accepted ys
accepted-append [] ys = refl
accepted-append (give t ∷ xs) ys = accepted-append xs ys
accepted-append (accept x ∷ xs) ys = ap (λ l. x ∷ l) (accepted-append xs ys)

all-accepted : (xs : List Variable) → accepted (map accept xs) ≡ xs
all-accepted [] = refl
all-accepted (x ∷ xs) = ap (λ l. x ∷ l) (all-accepted xs)

each-accepted : (theory : Theory) (vars : ℕ → Option ℕ) (xs : List Variable) → Each (VariableFits theory) xs →
    Each (FieldFits theory vars) (map accept xs)
each-accepted theory vars [] h = tt
each-accepted theory vars (x ∷ xs) h = (h.0, each-accepted theory vars xs h.1)

numbered-append : (n : ℕ) (vs ws : List Declared) → numbered_from n (vs ++ ws) ≡ numbered_from n vs ++ numbered_from (n + length vs) ws
numbered-append n [] ws = ap (λ m. numbered_from m ws) (omega arith)
numbered-append n (v ∷ vs) ws =
    ap (λ l. record { number = n; sort = v.sort } ∷ l)
    (numbered-append (suc n) vs ws ∙ ap (λ m. numbered_from (suc n) vs ++ numbered_from m ws) (omega arith))

-- an offer has as many names as variables
as-many-names : (s : Site) (o : Offer) → length (variables_of s o) ≡ length (names_of o)
as-many-names s (Offer.Value place e) = refl
as-many-names s (Variables place names sort) =
    length-map names.items (λ t. record { name = t.text; sort = sort_named s.context.sorts sort.text })

-- fields that fit, and accept these variables
abbrev pub FieldsAre : Theory → (ℕ → Option ℕ) → List Variable → List ActionField → Type 0
FieldsAre theory vars xs fields = Each (FieldFits theory vars) fields × (accepted fields ≡ xs)

module _ (theory : Theory) (s : Site) (vars : ℕ → Option ℕ) (agrees : AgreesWithData theory s.context vars) where
  offer-fits : (n : ℕ) (o : Offer) (found : Option (List ActionField)) (rs : List Refusal) → IsOfferRead s (n, o) found rs →
      IfSome found (FieldsAre theory vars (numbered_from n (variables_of s o)))
  offer-fits n (Offer.Value place e) found rs (value e' x refusals h) =
      if-map (FieldsAre theory vars []) (λ x. give x.term ∷ []) x
      (IfSome_then x (judged-sort theory s.context vars agrees (expression (expr_tree e)) None (tree_place (expr_tree e)) x refusals h)
      (λ y j. (((y.sort, j.1), tt), refl)))
  offer-fits n (Variables place names sort) found rs (variables names' sort') =
      let vs : List Declared = of_one_sort s.context.sorts names.items sort in
      if-passed (FieldsAre theory vars (numbered_from n vs)) (is_sort_known s.context sort.text) (map accept (numbered_from n vs))
      (λ k. (
        each-accepted theory vars (numbered_from n vs) (each-numbered theory vs n
            (each-of-one-sort theory (sort_named s.context.sorts sort.text) names.items (known-sort theory s vars agrees sort.text k))),
        all-accepted (numbered_from n vs),
      ))

  fields-before : (xs ys : List Variable) (y : Option (List ActionField)) (all : Option (List (List ActionField))) →
      IfSome y (FieldsAre theory vars xs) → IfSome all (λ fs. FieldsAre theory vars ys (flat_map (λ f. f) fs)) →
      IfSome (before y all) (λ fs. FieldsAre theory vars (xs ++ ys) (flat_map (λ f. f) fs))
  fields-before xs ys None all h hs = tt
  fields-before xs ys (Some y) None h hs = tt
  fields-before xs ys (Some y) (Some all) h hs = (
    each_append (FieldFits theory vars) y (flat_map (λ f. f) all) h.0 hs.0,
    accepted-append y (flat_map (λ f. f) all) ∙ ap (λ l. l ++ accepted (flat_map (λ f. f) all)) h.1 ∙ ap (λ l. xs ++ l) hs.1,
  )

  offers-fit-from : (n : ℕ) (os : List Offer) (found : Option (List (List ActionField))) (rs : List Refusal) →
      ReadsAll (IsOfferRead s) (numbered_offers n os) found rs →
      IfSome found (λ fs. FieldsAre theory vars (numbered_from n (offered_variables s os)) (flat_map (λ f. f) fs))
  offers-fit-from n [] found rs none = (tt, refl)
  offers-fit-from n (o ∷ os) found rs (further p others y ys r refusals h d) =
      let m : ℕ = n + length (names_of o) in
      let same : numbered_from n (variables_of s o) ++ numbered_from m (offered_variables s os) ≡ numbered_from n (offered_variables s (o ∷ os)) =
      ap (λ k. numbered_from n (variables_of s o) ++ numbered_from (n + k) (offered_variables s os)) (sym (as-many-names s o))
      ∙ sym (numbered-append n (variables_of s o) (offered_variables s os)) in
      subst (λ xs. IfSome (before y ys) (λ fs. FieldsAre theory vars xs (flat_map (λ f. f) fs))) same
      (fields-before (numbered_from n (variables_of s o)) (numbered_from m (offered_variables s os)) y ys
      (offer-fits n o y r h) (offers-fit-from m os ys refusals d))

  pub offers-fit : (os : List Offer) (found : Option (List (List ActionField))) (rs : List Refusal) → AreOffersRead s os found rs →
      IfSome found (λ fs. FieldsAre theory vars (numbered_from (length s.context.variables) (offered_variables s os)) (flat_map (λ f. f) fs))
  offers-fit = offers-fit-from (length s.context.variables)

  -- a predicate, if there is one
  pub predicate-fits : (p : Option Premiss) (found : Option (Option Premise)) (rs : List Refusal) → IsPredicateRead s p found rs →
      IfSome found (GuardFits theory vars)
  predicate-fits None found rs h = subst (λ o. IfSome o (GuardFits theory vars)) (sym h.0) tt
  predicate-fits (Some p) found rs h =
      subst (λ o. IfSome o (GuardFits theory vars)) (sym h.1)
      (if-map (GuardFits theory vars) (λ p. Some p) h.0 (condition-fits theory s.context vars agrees p.left p.right h.0 rs h.2))
