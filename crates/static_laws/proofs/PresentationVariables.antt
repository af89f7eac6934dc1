-- The variables of equations have the names of variables that types declare.
use Rattle.std.proofs.Common.{ℕ, zero, suc, ◌≡◌, inl, inr, sym, ap, subst, List, [], ◌∷◌, ◌++◌, map, Bool, true, false, cond, Option, Some, None}
use Rattle.std.specs.Prelude.{IfSome}
use Rattle.std.specs.List.{slice_get, slice_index_or, zip}
use Rattle.std.proofs.lemmas.Option.{slice_get_within}
use Rattle.lotos_ast.specs.declared.declaration.Declaration.{Declaration}
use Rattle.lotos_ast.specs.declared.place.Place.{Place}
use Rattle.lotos_ast.specs.declared.refusal.Refusal.{Refusal}
use Rattle.lotos_ast.specs.declared.token.Token.{Token}
use Rattle.lotos_ast.specs.declared.types.Equation.{Equation}
use Rattle.lotos_ast.specs.declared.types.EquationBody.{EquationBody}
use Rattle.lotos_ast.specs.declared.types.ForAll.{ForAll}
use Rattle.lotos_ast.specs.declared.types.SortEquations.{SortEquations}
use Rattle.lotos_ast.specs.declared.types.TypeBody.{TypeBody}
use Rattle.lotos_ast.specs.declared.types.TypeBody.TheVariants.{Declared, Renamed, Actualized}
use Rattle.lotos_ast.specs.declared.types.TypeDef.{TypeDef}
use Rattle.lotos_ast.specs.declared.types.TypeDef.TheVariants.{Library, Definition}
use Rattle.spec_core.specs.declared.items.Sort.{Sort}
use Rattle.spec_core.specs.Lists.{Each, IsOneOf}
use Rattle.spec_core.specs.Names.{IsIdentifier}
use Rattle.spec_core.specs.Theories.{ConditionalEquation}
use Rattle.spec_core.proofs.Lists.{each-map, each_append}
use Rattle.spec_core.proofs.Members.{each_from, each_one, from_flat_map, one_slice_get, from_map}
use Rattle.sort_overloads.specs.Listed.{Typed}
use Rattle.sort_overloads.specs.Readings as readings
use Rattle.sort_overloads.specs.Readings.{Context}
use Rattle.sort_overloads.specs.Refused.{unknown_sort}
use Rattle.static_equations.specs.Bodies.{AreJudgedOfSort, IsPartJudged, IsBodyJudged}
use Rattle.static_equations.specs.Equations.{equation_unless_refused, IsEquationJudged}
use Rattle.static_equations.specs.Gathered.{Gathers, none, further, IfRead}
use Rattle.static_equations.specs.Numbered.{variables_at, equation_variables}
use Rattle.static_equations.specs.Variables.{sort_named, declarations, variables_of, all_variables, unknown_sorts, under}
use Rattle.type_images.specs.Images.{NewNumbers, equation_image}
use Rattle.type_images.specs.Same.{is_same_equation}
use Rattle.type_equation_copies.specs.Contents.{Equations, no_equations, source_in_order, new_image, newly_copied, brings_by, made_by, made_from}
use Rattle.type_equation_copies.specs.Copies.{copy_numbers}
use Rattle.type_contents.specs.Contents.{no_content, contents, formals_of}
use Rattle.type_contents.specs.Numbering.{all_sorts, all_operations}
use Rattle.static_presentation.specs.Moved.{moved_equation}
use Rattle.static_presentation.specs.Own.{bodies, AreRead, AreOwnEquations}
use Rattle.static_presentation.specs.Signatures.{numbers_had}
use Rattle.static_laws.specs.NamedTypes.{IsNamed, AreVariablesNamed, AreEquationsNamed, IsTypeNamed}
use Rattle.static_laws.proofs.Closed.{IsUnrefused, content-there}
use Rattle.static_laws.proofs.Copied.{own-at, in-source, round-at, first-round, equations_within}
use Rattle.static_laws.proofs.Covered.{items_at}
use Rattle.static_laws.proofs.Membership.{paired, pair-at}
use Rattle.static_laws.proofs.Placed.{own_context}
use Rattle.static_laws.proofs.Read.{gathered-each, read-each, unless-each, found-in}
use Rattle.static_laws.proofs.Walking.{IsMadeAt, made, past}

abbrev pub HasNames : ConditionalEquation → Type 0
HasNames e = Each IsIdentifier e.names

-- the variables of which an expression may speak are named
abbrev pub AreDeclaredNamed : Context → Type 0
AreDeclaredNamed c = Each (λ (v : readings.Declared). IsIdentifier v.name) c.variables

under-named : (c : Context) (lists : List ForAll) → AreDeclaredNamed c → AreVariablesNamed lists → AreDeclaredNamed (under c lists)
under-named c lists before named =
    each_append (λ (v : readings.Declared). IsIdentifier v.name) c.variables (all_variables c.sorts (declarations lists)) before
    (each_from (λ (v : readings.Declared). IsIdentifier v.name) (all_variables c.sorts (declarations lists)) (λ v h. by-declaration v (from_flat_map (variables_of c.sorts) (declarations lists) v h)))
  where
    by-name : (d : Declaration) → IsOneOf d (declarations lists) → (v : readings.Declared) → (t : Token) × IsOneOf t d.names.items × (v ≡ record { name = t.text; sort = sort_named c.sorts d.sort.text }) → IsIdentifier v.name
    by-name d i v (t, j, is) =
        subst IsIdentifier (sym (ap (λ (w : readings.Declared). w.name) is)) (each_one IsNamed d.names.items t (each_one (λ (e : Declaration). Each IsNamed e.names.items) (declarations lists) d named i) j)

    by-declaration : (v : readings.Declared) → (d : Declaration) × IsOneOf d (declarations lists) × IsOneOf v (variables_of c.sorts d) → IsIdentifier v.name
    by-declaration v (d, i, j) = by-name d i v (from_map (λ (t : Token). record { name = t.text; sort = sort_named c.sorts d.sort.text }) d.names.items v j)

equation-names : (c : Context) → AreDeclaredNamed c → (sort : Sort) (e : Equation) (found : Option ConditionalEquation) (rs : List Refusal) → IsEquationJudged c sort e found rs → IfSome found HasNames
equation-names c named sort e found rs h = subst (λ o. IfSome o HasNames) (sym h.equation) (by-sides h.left h.right rs)
  where
    over : (numbers : List ℕ) → Each IsIdentifier (map (λ (v : readings.Declared). v.name) (variables_at c.variables numbers))
    over numbers =
        each-map IsIdentifier (λ (v : readings.Declared). v.name) (variables_at c.variables numbers)
        (each_from (λ (v : readings.Declared). IsIdentifier v.name) (variables_at c.variables numbers)
        (λ v i. each_one (λ (w : readings.Declared). IsIdentifier w.name) c.variables v named (found-in c.variables numbers v i)))

    by-sides : (left right : Option Typed) (rs : List Refusal) → IfSome (equation_unless_refused c e.place h.premises left right rs) HasNames
    by-sides None right rs = tt
    by-sides (Some x) None rs = tt
    by-sides (Some x) (Some y) (q ∷ qs) = tt
    by-sides (Some x) (Some y) [] = over (equation_variables h.premises x.term y.term)

part-names : (c : Context) → AreDeclaredNamed c → (part : SortEquations) → AreVariablesNamed part.variables.items → (found : List ConditionalEquation) (rs : List Refusal) → IsPartJudged c part found rs → Each HasNames found
part-names c before part named = unless-each (unknown_sort c part.sort ++ unknown_sorts c (declarations part.variables.items)) (AreJudgedOfSort c part) HasNames of-sort
  where
    of-sort : (found : List ConditionalEquation) (rs : List Refusal) → unknown_sort c part.sort ++ unknown_sorts c (declarations part.variables.items) ≡ [] → AreJudgedOfSort c part found rs → Each HasNames found
    of-sort found rs unrefused (sort, is, h) =
        gathered-each (λ e. IfRead (IsEquationJudged (under c part.variables.items) sort e)) HasNames
        (λ e ys r. read-each (IsEquationJudged (under c part.variables.items) sort e) HasNames
        (λ o q. equation-names (under c part.variables.items) (under-named c part.variables.items before named) sort e o q) ys r)
        part.equations.items found rs h

-- what is gathered of elements of which something holds
gathered-of : {A B : Type 0} (P : A → List B → List Refusal → Type 0) (R : A → Type 0) (Q : B → Type 0) → ((x : A) → R x → (ys : List B) (rs : List Refusal) → P x ys rs → Each Q ys) →
    (xs : List A) → Each R xs → (ys : List B) (rs : List Refusal) → Gathers P xs ys rs → Each Q ys
gathered-of {A = A} {B = B} P R Q h xs each ys rs g = by-gathering xs ys rs g each
  where
    by-gathering : (xs : List A) (ys : List B) (rs : List Refusal) → Gathers P xs ys rs → Each R xs → Each Q ys
    by-gathering xs ys rs none each = tt
    by-gathering xs ys rs (further x others some all r refusals p more) each = each_append Q some all (h x each.0 some r p) (by-gathering others all refusals more each.1)

body-names : (c : Context) → AreDeclaredNamed c → (body : EquationBody) → AreEquationsNamed body → (found : List ConditionalEquation) (rs : List Refusal) → IsBodyJudged c body found rs → Each HasNames found
body-names c before body named =
    unless-each (unknown_sorts c (declarations body.variables.items)) (Gathers (IsPartJudged (under c body.variables.items)) body.parts.items) HasNames
    (λ found rs unrefused. gathered-of (IsPartJudged (under c body.variables.items)) (λ (part : SortEquations). AreVariablesNamed part.variables.items) HasNames
    (part-names (under c body.variables.items) (under-named c body.variables.items before named.variables)) body.parts.items named.parts found rs)

-- the equations that a type writes are named
written-named : (d : TypeDef) → IsTypeNamed d → Each AreEquationsNamed (bodies d)
written-named (Library place names) h = tt
written-named (Definition place name (Declared p imports formals sorts operations equations)) h = h.equations_named
written-named (Definition place name (Renamed p source pairs)) h = tt
written-named (Definition place name (Actualized p source actuals pairs)) h = tt

module _ (types : List TypeDef) (h : IsUnrefused types) (named : Each IsTypeNamed types) (own : List (List ConditionalEquation)) (rs : List Refusal) (read : AreOwnEquations types own rs) where
  own-names : (k : ℕ) (d : TypeDef) (o : List ConditionalEquation) → slice_get types k ≡ Some d → slice_get own k ≡ Some o → Each HasNames o
  own-names k d o at of = by-reading (own-at types h (zip types (contents types)) own rs read k (d, slice_index_or (contents types) k no_content) o
      (paired types (contents types) k d (slice_index_or (contents types) k no_content) at (content-there types h k (slice_get_within types k d at))) of)
    where
      sorts : List ℕ
      sorts = numbers_had (items_at types k) (all_sorts types)

      operations : List ℕ
      operations = numbers_had (items_at types k) (all_operations types)

      by-reading : (r : List Refusal) × AreRead (all_sorts types) (all_operations types) (items_at types k) (bodies d) o r → Each HasNames o
      by-reading (r, (all, judged, is)) =
          subst (λ zs. Each HasNames zs) (sym is)
          (each-map HasNames (moved_equation sorts operations) all
          (gathered-of (IsBodyJudged (own_context types k)) AreEquationsNamed HasNames (body-names (own_context types k) tt) (bodies d)
          (written-named d (each_one IsTypeNamed types d named (one_slice_get types k d at))) all r judged))

  -- by rounds, the equations that a type brings in are named
  abbrev AreNamedWithin : ℕ → Type 0
  AreNamedWithin n = (k : ℕ) (e : ConditionalEquation) → IsOneOf e (slice_index_or (equations_within types h own rs read n) k no_equations).brought → HasNames e

  image-named : (news : NewNumbers) (d e : ConditionalEquation) → IsOneOf e (new_image news d) → HasNames d → HasNames e
  image-named news d e i q = by-test (is_same_equation (equation_image news d) d) i
    where
      by-test : (b : Bool) → IsOneOf e (cond b [] (equation_image news d ∷ [])) → HasNames e
      by-test true i = absurd i
      by-test false (inl is) = subst HasNames (sym is) q
      by-test false (inr i) = absurd i

  copied-named : (n : ℕ) → AreNamedWithin n → (source : Token) (news : NewNumbers) (e : ConditionalEquation) → IsOneOf e (newly_copied types (equations_within types h own rs read n) source news) → HasNames e
  copied-named n before source news e i = by-source (from_flat_map (new_image news) (source_in_order types (equations_within types h own rs read n) source) e i)
    where
      by-source : (d : ConditionalEquation) × IsOneOf d (source_in_order types (equations_within types h own rs read n) source) × IsOneOf e (new_image news d) → HasNames e
      by-source (d, j, m) =
          let r : (k : ℕ) × IsOneOf d (slice_index_or (equations_within types h own rs read n) k no_equations).brought = in-source types h own rs read n source d j in
          image-named news d e m (before r.0 d r.1)

  pub all-named : (n : ℕ) → AreNamedWithin n
  all-named zero k e i = by-round (first-round types h own rs read k)
    where
      by-round : IsMadeAt no_equations (λ (d : TypeDef × List ConditionalEquation). no_equations) (zip types own) (equations_within types h own rs read 0) k → HasNames e
      by-round (made d at is) = absurd (subst (λ (z : Equations). IsOneOf e z.brought) is i)
      by-round (past at is) = absurd (subst (λ (z : Equations). IsOneOf e z.brought) is i)
  all-named (suc n) k e i = by-round (round-at types h own rs read n k) (all-named n)
    where
      by-body : AreNamedWithin n → (place : Place) (name : Token) (body : TypeBody) (o : List ConditionalEquation) → slice_get types k ≡ Some (Definition place name body) → slice_get own k ≡ Some o →
          IsOneOf e (brings_by types (equations_within types h own rs read n) o body) → HasNames e
      by-body before place name (Declared p imports formals sorts operations equations) o at of j =
          each_one HasNames o e (own-names k (Definition place name (Declared p imports formals sorts operations equations)) o at of) j
      by-body before place name (Renamed p source pairs) o at of j = copied-named n before source (copy_numbers types [] pairs) e j
      by-body before place name (Actualized p source actuals pairs) o at of j = copied-named n before source (copy_numbers types (formals_of types (contents types) source) pairs) e j

      by-type : AreNamedWithin n → (d : TypeDef) (o : List ConditionalEquation) → slice_get types k ≡ Some d → slice_get own k ≡ Some o → IsOneOf e (made_by types (equations_within types h own rs read n) o d).brought → HasNames e
      by-type before (Library place names) o at of j = absurd j
      by-type before (Definition place name body) o at of j = by-body before place name body o at of j

      by-round : IsMadeAt no_equations (made_from types (equations_within types h own rs read n)) (zip types own) (equations_within types h own rs read (suc n)) k → AreNamedWithin n → HasNames e
      by-round (past at is) before = absurd (subst (λ (z : Equations). IsOneOf e z.brought) is i)
      by-round (made d at is) before =
          let p = pair-at types own k d at in
          by-type before d.0 d.1 p.0 p.1 (subst (λ (z : Equations). IsOneOf e z.brought) is i)
