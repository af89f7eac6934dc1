-- What is read of the parts of constructs that are alike.
use Rattle.std.proofs.Common.{ℕ, ◌≡◌, ◌+◌, refl, sym, subst, List, [], ◌∷◌, ◌++◌, length, map, ◌&&◌, Option, Some, None, option_map, if◌then◌else◌}
use Rattle.std.specs.List.{zip, enumerate_from}
use Rattle.lotos_ast.specs.declared.behaviour.Binding.{Binding}
use Rattle.lotos_ast.specs.declared.behaviour.ExitValue.{ExitValue}
use Rattle.lotos_ast.specs.declared.behaviour.ExitValue.TheVariants.{Any}
use Rattle.lotos_ast.specs.declared.behaviour.GateChoice.{GateChoice}
use Rattle.lotos_ast.specs.declared.behaviour.Offer.{Offer}
use Rattle.lotos_ast.specs.declared.behaviour.Offer.TheVariants.{Variables}
use Rattle.lotos_ast.specs.declared.behaviour.Operator.{Operator}
use Rattle.lotos_ast.specs.declared.behaviour.Operator.TheVariants.{Interleave, Synchronise, Shared}
use Rattle.lotos_ast.specs.declared.declaration.Declaration.{Declaration}
use Rattle.lotos_ast.specs.declared.expression.Expr.{Expr}
use Rattle.lotos_ast.specs.declared.expression.Premiss.{Premiss}
use Rattle.lotos_ast.specs.declared.refusal.Refusal.{Refusal}
use Rattle.lotos_ast.specs.ListTrees.{tree_place}
use Rattle.spec_core.specs.declared.items.Sort.{Sort}
use Rattle.spec_core.specs.Code as code
use Rattle.spec_core.specs.Code.{ActionField, Variable, Synchronised, these_gates}
use Rattle.spec_core.specs.Terms.{TermTree}
use Rattle.spec_core.specs.Theories.{Premise}
use Rattle.sort_overloads.specs.Expressions.{expression}
use Rattle.sort_overloads.specs.Judged.{IsJudged}
use Rattle.sort_overloads.specs.Listed.{Typed}
use Rattle.sort_overloads.specs.Refused.{is_sort_known, unknown_sort, unknowns}
use Rattle.static_equations.specs.Variables.{variables_of, all_variables, sort_named}
use Rattle.type_names.specs.DuplicateNames.{names_twice}
use Rattle.static_readings.specs.Calls.{IsValueRead, sorted, unsorted, IsArgumentRead, fitted, AreValuesRead, IsBindingRead, bound, bound_to, AreBindingsRead, variable_of}
use Rattle.static_readings.specs.Declarations.{gate_numbers, of_one_sort, numbered_from, declaration_refusals, are_known, declared_variables}
use Rattle.static_readings.specs.Offers as offers
use Rattle.static_readings.specs.Offers.{IsExpressionRead, names_of, offered_variables, offered_names, accepting, IsOfferRead, value, variables, numbered_offers, AreOffersRead, IsPredicateRead, any_value, IsExitValueRead, any, AreExitValuesRead}
use Rattle.static_readings.specs.ReadsAll.{ReadsAll, none, further}
use Rattle.static_readings.specs.Readings.{gates_of, synchronised}
use Rattle.static_readings.specs.Sites.{Site, sort_of}
use Rattle.syntax_laws.specs.Alike.{AreAlike, IfThere, AreDeclarationsAlike, ArePremissesAlike}
use Rattle.static_uniqueness.proofs.Lists.{map-same, flat-same}
use Rattle.static_uniqueness.proofs.Equations.{variables-of-same, unknown-sort-same, premiss-same}
use Rattle.static_uniqueness.specs.ConstructsAlike.{AreExpressionsAlike, AreExitValuesAlike, AreOffersAlike, AreOperatorsAlike, AreBindingsAlike, AreGateChoicesAlike}

pub all-read : {A B : Type 0} (R : A → A → Type 0) (P Q : A → Option B → List Refusal → Type 0) → ((x y : A) → R x y → (found : Option B) (rs : List Refusal) → P x found rs → Q y found rs) → (xs ys : List A) → AreAlike R xs ys →
    (found : Option (List B)) (rs : List Refusal) → ReadsAll P xs found rs → ReadsAll Q ys found rs
all-read R P Q each [] [] h found rs none = none
all-read R P Q each [] (y ∷ ys) h found rs g = absurd h
all-read R P Q each (x ∷ xs) [] h found rs g = absurd h
all-read R P Q each (x ∷ xs) (y ∷ ys) h found rs (further _ _ z zs qs refusals p g) =
    further y ys z zs qs refusals (each x y h.0 z qs p) (all-read R P Q each xs ys h.1 zs refusals g)

module _ (s : Site) where
  expression-same : (wanted : Option Sort) (e d : Expr) → AreExpressionsAlike e d → (x : Option Typed) (rs : List Refusal) → IsExpressionRead s wanted e x rs → IsExpressionRead s wanted d x rs
  expression-same wanted e d k x rs h = subst (λ t. IsJudged s.context (expression t) wanted (tree_place t) x rs) k h

  exit-value-same : (v w : ExitValue) → AreExitValuesAlike v w → (found : Option (code.ExitValue × ℕ)) (rs : List Refusal) → IsExitValueRead s v found rs → IsExitValueRead s w found rs
  exit-value-same (Any p sort) (Any q other) k found rs (any _) = subst (λ z. IsExitValueRead s (Any q other) (any_value s z) (unknown_sort s.context z)) (sym k.1) (any other)
  exit-value-same (Any p sort) (ExitValue.Value q d) k found rs h = absurd k
  exit-value-same (ExitValue.Value p e) (Any q other) k found rs h = absurd k
  exit-value-same (ExitValue.Value p e) (ExitValue.Value q d) k found rs (value _ x qs h) = value d x qs (expression-same None e d k.1 x qs h)

  pub exit-values-same : (vs ws : List ExitValue) → AreAlike AreExitValuesAlike vs ws → (found : Option (List (code.ExitValue × ℕ))) (rs : List Refusal) → AreExitValuesRead s vs found rs → AreExitValuesRead s ws found rs
  exit-values-same vs ws k found rs h = all-read AreExitValuesAlike (IsExitValueRead s) (IsExitValueRead s) exit-value-same vs ws k found rs h

  -- offers

  names-of-same : (o p : Offer) → AreOffersAlike o p → names_of o ≡ names_of p
  names-of-same (Offer.Value p e) (Offer.Value q d) k = refl
  names-of-same (Offer.Value p e) (Variables q names sort) k = absurd k
  names-of-same (Variables p names sort) (Offer.Value q d) k = absurd k
  names-of-same (Variables p names sort) (Variables q others other) k = k.1

  offered-of-same : (o p : Offer) → AreOffersAlike o p → offers.variables_of s o ≡ offers.variables_of s p
  offered-of-same (Offer.Value p e) (Offer.Value q d) k = refl
  offered-of-same (Offer.Value p e) (Variables q names sort) k = absurd k
  offered-of-same (Variables p names sort) (Offer.Value q d) k = absurd k
  offered-of-same (Variables p names sort) (Variables q others other) k = λ i. of_one_sort s.context.sorts (k.1 i) (k.2 i)

  pub offered-names-same : (os ps : List Offer) → AreAlike AreOffersAlike os ps → offered_names os ≡ offered_names ps
  offered-names-same os ps k = flat-same AreOffersAlike names_of names_of names-of-same os ps k

  pub offered-variables-same : (os ps : List Offer) → AreAlike AreOffersAlike os ps → offered_variables s os ≡ offered_variables s ps
  offered-variables-same os ps k = flat-same AreOffersAlike (offers.variables_of s) (offers.variables_of s) offered-of-same os ps k

  abbrev AreNumberedAlike : ℕ × Offer → ℕ × Offer → Type 0
  AreNumberedAlike a b = (a.0 ≡ b.0) × AreOffersAlike a.1 b.1

  numbered-alike : (os ps : List Offer) → AreAlike AreOffersAlike os ps → (n m : ℕ) → n ≡ m → AreAlike AreNumberedAlike (numbered_offers n os) (numbered_offers m ps)
  numbered-alike [] [] k n m e = tt
  numbered-alike [] (p ∷ ps) k n m e = absurd k
  numbered-alike (o ∷ os) [] k n m e = absurd k
  numbered-alike (o ∷ os) (p ∷ ps) k n m e = ((e, k.0), numbered-alike os ps k.1 (n + length (names_of o)) (m + length (names_of p)) (λ i. e i + length (names-of-same o p k.0 i)))

  offer-same : (n m : ℕ) → n ≡ m → (o p : Offer) → AreOffersAlike o p → (found : Option (List ActionField)) (rs : List Refusal) → IsOfferRead s (n, o) found rs → IsOfferRead s (m, p) found rs
  offer-same n m z (Offer.Value p e) (Offer.Value q d) k found rs (value _ x qs h) = value d x qs (expression-same None e d k.1 x qs h)
  offer-same n m z (Offer.Value p e) (Variables q names sort) k found rs h = absurd k
  offer-same n m z (Variables p names sort) (Offer.Value q d) k found rs h = absurd k
  offer-same n m z (Variables p names sort) (Variables q others other) k found rs (variables _ _) =
      let fields : accepting s n names.items sort ≡ accepting s m others.items other = λ i. accepting s (z i) (k.1 i) (k.2 i) in
      let refusals : unknown_sort s.context sort ≡ unknown_sort s.context other = λ i. unknown_sort s.context (k.2 i) in
      subst (λ r. IsOfferRead s (m, Variables q others other) (accepting s n names.items sort) r) (sym refusals)
      (subst (λ f. IsOfferRead s (m, Variables q others other) f (unknown_sort s.context other)) (sym fields) (variables others other))

  pub offers-same : (os ps : List Offer) → AreAlike AreOffersAlike os ps → (found : Option (List (List ActionField))) (rs : List Refusal) → AreOffersRead s os found rs → AreOffersRead s ps found rs
  offers-same os ps k found rs h =
      all-read AreNumberedAlike (IsOfferRead s) (IsOfferRead s) (λ a b r. offer-same a.0 b.0 r.0 a.1 b.1 r.1) (numbered_offers (length s.context.variables) os) (numbered_offers (length s.context.variables) ps)
      (numbered-alike os ps k (length s.context.variables) (length s.context.variables) refl) found rs h

  pub predicate-same : (o p : Option Premiss) → IfThere ArePremissesAlike o p → (found : Option (Option Premise)) (rs : List Refusal) → IsPredicateRead s o found rs → IsPredicateRead s p found rs
  predicate-same None None k found rs h = h
  predicate-same None (Some q) k found rs h = absurd k
  predicate-same (Some p) None k found rs h = absurd k
  predicate-same (Some p) (Some q) k found rs h = (h.0, h.1, premiss-same s.context p q k h.0 rs h.2)

  -- values of calls and bindings

  value-same : (sort : Option ℕ) (e d : Expr) → AreExpressionsAlike e d → (found : Option TermTree) (rs : List Refusal) → IsValueRead s sort e found rs → IsValueRead s sort d found rs
  value-same sort e d k found rs (sorted w _ x qs h) = sorted w d x qs (expression-same (Some w) e d k x qs h)
  value-same sort e d k found rs (unsorted _) = subst (λ t. IsValueRead s None d None (unknowns s.context (expression t))) (sym k) (unsorted d)

  argument-same : (sort : Option ℕ) (e d : Expr) → AreExpressionsAlike e d → (found : Option TermTree) (rs : List Refusal) → IsArgumentRead s sort e found rs → IsArgumentRead s sort d found rs
  argument-same sort e d k _ rs (fitted t _ h) = fitted t rs (value-same sort e d k t rs h)

  abbrev AreSortedAlike : Option ℕ × Expr → Option ℕ × Expr → Type 0
  AreSortedAlike a b = (a.0 ≡ b.0) × AreExpressionsAlike a.1 b.1

  sorted-alike : (sorts : List (Option ℕ)) (es ds : List Expr) → AreAlike AreExpressionsAlike es ds → AreAlike AreSortedAlike (zip sorts es) (zip sorts ds)
  sorted-alike [] es ds k = tt
  sorted-alike (sort ∷ sorts) [] [] k = tt
  sorted-alike (sort ∷ sorts) [] (d ∷ ds) k = absurd k
  sorted-alike (sort ∷ sorts) (e ∷ es) [] k = absurd k
  sorted-alike (sort ∷ sorts) (e ∷ es) (d ∷ ds) k = ((refl, k.0), sorted-alike sorts es ds k.1)

  pub values-same : (sorts : List (Option ℕ)) (es ds : List Expr) → AreAlike AreExpressionsAlike es ds → (found : Option (List TermTree)) (rs : List Refusal) → AreValuesRead s sorts es found rs → AreValuesRead s sorts ds found rs
  values-same sorts es ds k found rs h =
      all-read AreSortedAlike (λ e. IsArgumentRead s e.0 e.1) (λ e. IsArgumentRead s e.0 e.1) (λ a b r found rs h. argument-same b.0 a.1 b.1 r.1 found rs (subst (λ z. IsArgumentRead s z a.1 found rs) r.0 h))
      (zip sorts es) (zip sorts ds) (sorted-alike sorts es ds k) found rs h

  abbrev AreEnumeratedAlike : ℕ × Binding → ℕ × Binding → Type 0
  AreEnumeratedAlike a b = (a.0 ≡ b.0) × AreBindingsAlike a.1 b.1

  enumerated-alike : (vs ws : List Binding) → AreAlike AreBindingsAlike vs ws → (n : ℕ) → AreAlike AreEnumeratedAlike (enumerate_from n vs) (enumerate_from n ws)
  enumerated-alike [] [] k n = tt
  enumerated-alike [] (w ∷ ws) k n = absurd k
  enumerated-alike (v ∷ vs) [] k n = absurd k
  enumerated-alike (v ∷ vs) (w ∷ ws) k n = ((refl, k.0), enumerated-alike vs ws k.1 _)

  binding-same : (n m : ℕ) → n ≡ m → (b c : Binding) → AreBindingsAlike b c → (found : Option code.Binding) (rs : List Refusal) → IsBindingRead s (n, b) found rs → IsBindingRead s (m, c) found rs
  binding-same n m z b c k found rs (bound _ t qs h) =
      let sort : b.sort ≡ c.sort = k.sort in
      let made : option_map (bound_to s n b) t ≡ option_map (bound_to s m c) t =
      λ i. option_map (λ (u : TermTree). record { variable = record { number = z i; sort = sort_named s.context.sorts (sort i).text }; term = u }) t in
      let refusals : unknown_sort s.context b.sort ++ qs ≡ unknown_sort s.context c.sort ++ qs = λ i. unknown_sort s.context (sort i) ++ qs in
      let read = value-same (sort_of s c.sort) b.value c.value k.value t qs (subst (λ y. IsValueRead s (sort_of s y) b.value t qs) sort h) in
      subst (λ r. IsBindingRead s (m, c) (option_map (bound_to s n b) t) r) (sym refusals)
      (subst (λ f. IsBindingRead s (m, c) f (unknown_sort s.context c.sort ++ qs)) (sym made) (bound c t qs read))

  pub bindings-same : (vs ws : List Binding) → AreAlike AreBindingsAlike vs ws → (found : Option (List code.Binding)) (rs : List Refusal) → AreBindingsRead s vs found rs → AreBindingsRead s ws found rs
  bindings-same vs ws k found rs h =
      all-read AreEnumeratedAlike (IsBindingRead s) (IsBindingRead s) (λ a b r. binding-same a.0 b.0 r.0 a.1 b.1 r.1) (enumerate_from (length s.context.variables) vs) (enumerate_from (length s.context.variables) ws)
      (enumerated-alike vs ws k (length s.context.variables)) found rs h

  variable-of-same : (b c : Binding) → AreBindingsAlike b c → variable_of s b ≡ variable_of s c
  variable-of-same b c k = let name : b.name ≡ c.name = k.name in let sort : b.sort ≡ c.sort = k.sort in λ i. record { name = (name i).text; sort = sort_named s.context.sorts (sort i).text }

  pub bound-variables-same : (vs ws : List Binding) → AreAlike AreBindingsAlike vs ws → map (variable_of s) vs ≡ map (variable_of s) ws
  bound-variables-same vs ws k = map-same AreBindingsAlike (variable_of s) (variable_of s) variable-of-same vs ws k

  -- declarations

  pub variables-same : (ds es : List Declaration) → AreAlike AreDeclarationsAlike ds es → all_variables s.context.sorts ds ≡ all_variables s.context.sorts es
  variables-same ds es k = flat-same AreDeclarationsAlike (variables_of s.context.sorts) (variables_of s.context.sorts) (variables-of-same s.context.sorts) ds es k

  known-same : (ds es : List Declaration) → AreAlike AreDeclarationsAlike ds es → are_known s ds ≡ are_known s es
  known-same [] [] k = refl
  known-same [] (e ∷ es) k = absurd k
  known-same (d ∷ ds) [] k = absurd k
  known-same (d ∷ ds) (e ∷ es) k = let sort : d.sort ≡ e.sort = k.0.sort in λ i. is_sort_known s.context (sort i).text && known-same ds es k.1 i

  pub declared-same : (ds es : List Declaration) → AreAlike AreDeclarationsAlike ds es → declared_variables s ds ≡ declared_variables s es
  declared-same ds es k = λ i. if known-same ds es k i then Some (numbered_from (length s.context.variables) (variables-same ds es k i)) else None

  declared-names-same : (d e : Declaration) → AreDeclarationsAlike d e → d.names.items ≡ e.names.items
  declared-names-same d e k = k.names

  pub declarations-refused-same : (ds es : List Declaration) → AreAlike AreDeclarationsAlike ds es → declaration_refusals s ds ≡ declaration_refusals s es
  declarations-refused-same ds es k =
      let names = flat-same AreDeclarationsAlike (λ (d : Declaration). d.names.items) (λ (d : Declaration). d.names.items) declared-names-same ds es k in
      let sorts = flat-same AreDeclarationsAlike (λ (d : Declaration). unknown_sort s.context d.sort) (λ (d : Declaration). unknown_sort s.context d.sort) (unknown-sort-same s.context) ds es k in
      λ i. names_twice (names i) ++ sorts i

  -- operators

  pub synchronised-same : (o p : Operator) → AreOperatorsAlike o p → synchronised s o ≡ synchronised s p
  synchronised-same (Interleave p) (Interleave q) k = refl
  synchronised-same (Interleave p) (Synchronise q) k = absurd k
  synchronised-same (Interleave p) (Shared q others) k = absurd k
  synchronised-same (Synchronise p) (Interleave q) k = absurd k
  synchronised-same (Synchronise p) (Synchronise q) k = refl
  synchronised-same (Synchronise p) (Shared q others) k = absurd k
  synchronised-same (Shared p gates) (Interleave q) k = absurd k
  synchronised-same (Shared p gates) (Synchronise q) k = absurd k
  synchronised-same (Shared p gates) (Shared q others) k = λ i. option_map these_gates (gate_numbers s (k.1 i))

pub gates-of-same : (o p : Operator) → AreOperatorsAlike o p → gates_of o ≡ gates_of p
gates-of-same (Interleave p) (Interleave q) k = refl
gates-of-same (Interleave p) (Synchronise q) k = absurd k
gates-of-same (Interleave p) (Shared q others) k = absurd k
gates-of-same (Synchronise p) (Interleave q) k = absurd k
gates-of-same (Synchronise p) (Synchronise q) k = refl
gates-of-same (Synchronise p) (Shared q others) k = absurd k
gates-of-same (Shared p gates) (Interleave q) k = absurd k
gates-of-same (Shared p gates) (Synchronise q) k = absurd k
gates-of-same (Shared p gates) (Shared q others) k = k.1

binding-name-same : (b c : Binding) → AreBindingsAlike b c → b.name ≡ c.name
binding-name-same b c k = k.name

pub binding-names-same : (vs ws : List Binding) → AreAlike AreBindingsAlike vs ws → map (λ (b : Binding). b.name) vs ≡ map (λ (b : Binding). b.name) ws
binding-names-same vs ws k = map-same AreBindingsAlike (λ (b : Binding). b.name) (λ (b : Binding). b.name) binding-name-same vs ws k

gate-same : (c d : GateChoice) → AreGateChoicesAlike c d → c.gate ≡ d.gate
gate-same c d k = k.gate

pub chosen-gates-same : (vs ws : List GateChoice) → AreAlike AreGateChoicesAlike vs ws → map (λ (c : GateChoice). c.gate) vs ≡ map (λ (c : GateChoice). c.gate) ws
chosen-gates-same vs ws k = map-same AreGateChoicesAlike (λ (c : GateChoice). c.gate) (λ (c : GateChoice). c.gate) gate-same vs ws k
