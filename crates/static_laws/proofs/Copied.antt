-- The equations of each type fit together over what it has: those that are read, and those that are copied.
use Rattle.std.proofs.Common.{ℕ, zero, suc, ◌≡◌, ◌∙◌, inl, inr, refl, sym, ap, subst, List, [], ◌∷◌, ◌++◌, length, Bool, true, false, cond, nat_eq, Some}
use Rattle.std.specs.List.{filter, flat_map, list_any, range_with_len, slice_get, slice_index_or, zip}
use Rattle.std.proofs.lemmas.List.{length-map}
use Rattle.std.proofs.lemmas.Option.{none-some, same_Some, slice_get_within}
use Rattle.lotos_ast.specs.declared.place.Place.{Place}
use Rattle.lotos_ast.specs.declared.refusal.Refusal.{Refusal}
use Rattle.lotos_ast.specs.declared.token.Token.{Token}
use Rattle.lotos_ast.specs.declared.types.Pairs.{Pairs}
use Rattle.lotos_ast.specs.declared.types.TypeBody.{TypeBody}
use Rattle.lotos_ast.specs.declared.types.TypeBody.TheVariants.{Declared, Renamed, Actualized}
use Rattle.lotos_ast.specs.declared.types.TypeDef.{TypeDef}
use Rattle.lotos_ast.specs.declared.types.TypeDef.TheVariants.{Library, Definition}
use Rattle.spec_core.specs.Lists.{Each, IsOneOf}
use Rattle.spec_core.specs.Sorts.{EquationFits, IsDeclaredSort}
use Rattle.spec_core.specs.Theories.{ConditionalEquation}
use Rattle.spec_core.proofs.Lists.{each-map}
use Rattle.spec_core.proofs.Members.{each_from, each_one, from_flat_map, one_parts, from_filter, from_map}
use Rattle.type_contents.specs.Contents.{Content, no_content, contents, formals_of}
use Rattle.type_contents.specs.Images.{renaming_of}
use Rattle.type_contents.specs.Items.{Item}
use Rattle.type_contents.specs.Lists.{listed}
use Rattle.type_contents.specs.Numbering.{all_sorts, all_operations, itself_and_parts}
use Rattle.type_contents.specs.Own.{sort_item}
use Rattle.type_contents.specs.Rounds.{rounds}
use Rattle.type_contents.specs.Uses.{number_of}
use Rattle.static_presentation.specs.Moved.{number_at, moved_term, moved_terms, moved_premise, moved_equation}
use Rattle.static_presentation.specs.Own.{bodies, AreRead, IsOwnOf, AreOwnEquations}
use Rattle.static_presentation.specs.Signatures.{numbers_had}
use Rattle.static_equations.specs.Gathered.{Gathers, none, further}
use Rattle.type_images.specs.Images.{NewNumbers, new_number, term_image, term_images, premise_image, equation_image}
use Rattle.type_images.specs.Same.{is_same_equation, is_in}
use Rattle.type_equation_copies.specs.Contents.{Equations, no_equations, all_of, brought_by, source_in_order, new_image, copied, newly_copied, all_by, brings_by, made_by, made_from, equations}
use Rattle.type_equation_copies.specs.Copies.{image_in, image_numbers, copy_numbers}
use Rattle.static_laws.proofs.Closed.{IsUnrefused, content-there, used-has, actual-has, renamed-has, actualized-has}
use Rattle.static_laws.proofs.Covered.{items_at}
use Rattle.static_laws.proofs.Membership.{once-from, paired, pair-at}
use Rattle.static_laws.proofs.Placed.{IsSortIn, IsOperationIn, copied-sort-in, copied-operation-in, moved-sort-in, moved-operation-in, own_context}
use Rattle.static_laws.proofs.Read.{read_theory, bodies-fit}
use Rattle.static_laws.proofs.Typed.{IsOperationOf, EquationFitsBy, Changes, to-equation, changed-equation, more-fits}
use Rattle.static_laws.proofs.Walking.{IsMadeAt, made, past, made-at}
use Rattle.static_laws.proofs.WellMade.{renaming-names}

-- the two ways in which terms get other numbers

pub by-image : (news : List ℕ) → Changes (new_number news) (term_image news) (term_images news) (premise_image news)
by-image news = record { at_variable = λ x. refl; at_operation = λ f ts. refl; at_none = refl; at_more = λ t ts. refl; at_premise = λ a b. refl }

by-move : (numbers : List ℕ) → Changes (number_at numbers) (moved_term numbers) (moved_terms numbers) (moved_premise numbers)
by-move numbers = record { at_variable = λ x. refl; at_operation = λ f ts. refl; at_none = refl; at_more = λ t ts. refl; at_premise = λ a b. refl }

-- an equation over what the type of this number has
abbrev pub IsOf : List TypeDef → ℕ → ConditionalEquation → Type 0
IsOf types k e = EquationFitsBy (IsOperationIn types (items_at types k)) (IsSortIn types (items_at types k)) e

-- a type that has all items has the equations too
has-more : (types : List TypeDef) (j k : ℕ) → ((x : Item) → IsOneOf x (items_at types j) → IsOneOf x (items_at types k)) → (e : ConditionalEquation) → IsOf types j e → IsOf types k e
has-more types j k more e h =
    more-fits (IsOperationIn types (items_at types j)) (IsOperationIn types (items_at types k))
    (λ f args s i. record { item = i.item; at = i.at; has = more i.item i.has; arguments = i.arguments; result = i.result })
    (IsSortIn types (items_at types j)) (IsSortIn types (items_at types k)) (λ s i. record { name = i.name; at = i.at; has = more (sort_item i.name) i.has }) e h

module _ (types : List TypeDef) (h : IsUnrefused types) where
  -- the image of an equation in a copy
  copied-fits : (k s : ℕ) (replaced : List Item) (pairs : Pairs) → ((y : Item) → IsOneOf y (items_at types s) → IsOneOf (image_in replaced (renaming_of pairs) y) (items_at types k)) →
      (e : ConditionalEquation) → IsOf types s e → IsOf types k (equation_image (copy_numbers types replaced pairs) e)
  copied-fits k s replaced pairs images e i =
      let renaming = renaming_of pairs in
      let sorts = image_numbers (all_sorts types) (image_in replaced renaming) (all_sorts types) in
      let operations = image_numbers (all_operations types) (image_in replaced renaming) (all_operations types) in
      changed-equation (new_number operations) (new_number sorts) (term_image operations) (term_images operations) (premise_image operations) (by-image operations)
      (IsOperationIn types (items_at types s)) (IsOperationIn types (items_at types k)) (copied-operation-in types h k s replaced renaming (renaming-names pairs) images)
      (IsSortIn types (items_at types s)) (IsSortIn types (items_at types k)) (copied-sort-in types h k s replaced renaming (renaming-names pairs) images) e i

  -- an own equation
  moved-fits : (k : ℕ) (e : ConditionalEquation) → EquationFits (read_theory (own_context types k)) e →
      IsOf types k (moved_equation (numbers_had (items_at types k) (all_sorts types)) (numbers_had (items_at types k) (all_operations types)) e)
  moved-fits k e i =
      let sorts = numbers_had (items_at types k) (all_sorts types) in
      let operations = numbers_had (items_at types k) (all_operations types) in
      let theory = read_theory (own_context types k) in
      changed-equation (number_at operations) (number_at sorts) (moved_term operations) (moved_terms operations) (moved_premise operations) (by-move operations)
      (IsOperationOf theory) (IsOperationIn types (items_at types k)) (moved-operation-in types h k) (IsDeclaredSort theory) (IsSortIn types (items_at types k)) (moved-sort-in types h k) e (to-equation theory e i)

  own-fit : (k : ℕ) (d : TypeDef) (o : List ConditionalEquation) (rs : List Refusal) → AreRead (all_sorts types) (all_operations types) (items_at types k) (bodies d) o rs → Each (IsOf types k) o
  own-fit k d o rs (own, read, is) =
      let sorts = numbers_had (items_at types k) (all_sorts types) in
      let operations = numbers_had (items_at types k) (all_operations types) in
      subst (λ zs. Each (IsOf types k) zs) (sym is)
      (each-map (IsOf types k) (moved_equation sorts operations) own
      (each_from (λ e. IsOf types k (moved_equation sorts operations e)) own
      (λ e i. moved-fits k e (each_one (EquationFits (read_theory (own_context types k))) own e (bodies-fit (own_context types k) tt (bodies d) own rs read) i))))

  pub own-at : (es : List (TypeDef × Content)) (found : List (List ConditionalEquation)) (rs : List Refusal) → Gathers (IsOwnOf (all_sorts types) (all_operations types)) es found rs →
      (k : ℕ) (e : TypeDef × Content) (o : List ConditionalEquation) → slice_get es k ≡ Some e → slice_get found k ≡ Some o → (r : List Refusal) × AreRead (all_sorts types) (all_operations types) e.1.items (bodies e.0) o r
  own-at es found rs none k e o at of = absurd (none-some e at)
  own-at es found rs (further x xs ys all r refusals p more) k e o at of = by-own p k at of (λ j g. own-at xs all refusals more j e o g)
    where
      by-number : (own : List ConditionalEquation) → AreRead (all_sorts types) (all_operations types) x.1.items (bodies x.0) own r → (k : ℕ) → slice_get (x ∷ xs) k ≡ Some e → slice_get (own ∷ all) k ≡ Some o →
          ((j : ℕ) → slice_get xs j ≡ Some e → slice_get all j ≡ Some o → (r : List Refusal) × AreRead (all_sorts types) (all_operations types) e.1.items (bodies e.0) o r) →
          (r : List Refusal) × AreRead (all_sorts types) (all_operations types) e.1.items (bodies e.0) o r
      by-number own read zero at of next = (
        r,
        subst (λ (z : TypeDef × Content). AreRead (all_sorts types) (all_operations types) z.1.items (bodies z.0) o r) (same_Some x e at)
            (subst (λ z. AreRead (all_sorts types) (all_operations types) x.1.items (bodies x.0) z r) (same_Some own o of) read),
      )
      by-number own read (suc j) at of next = next j at of

      by-own : IsOwnOf (all_sorts types) (all_operations types) x ys r → (k : ℕ) → slice_get (x ∷ xs) k ≡ Some e → slice_get (ys ++ all) k ≡ Some o →
          ((j : ℕ) → slice_get xs j ≡ Some e → slice_get all j ≡ Some o → (r : List Refusal) × AreRead (all_sorts types) (all_operations types) e.1.items (bodies e.0) o r) →
          (r : List Refusal) × AreRead (all_sorts types) (all_operations types) e.1.items (bodies e.0) o r
      by-own (own, is, read) k at of next = by-number own read k at (sym (ap (λ zs. slice_get (zs ++ all) k) is) ∙ of) next

  module _ (own : List (List ConditionalEquation)) (rs : List Refusal) (read : AreOwnEquations types own rs) where
    own-equations : (k : ℕ) (d : TypeDef) (o : List ConditionalEquation) → slice_get types k ≡ Some d → slice_get own k ≡ Some o → Each (IsOf types k) o
    own-equations k d o at of =
        let c = slice_index_or (contents types) k no_content in
        let r : (r : List Refusal) × AreRead (all_sorts types) (all_operations types) c.items (bodies d) o r =
        own-at (zip types (contents types)) own rs read k (d, c) o (paired types (contents types) k d c at (content-there types h k (slice_get_within types k d at))) of in
        own-fit k d o r.0 r.1

    abbrev pub equations_within : ℕ → List Equations
    equations_within n = rounds no_equations (made_from types) (zip types own) n

    -- by rounds, the equations of a type are of it, and each that a type brings in has one name for each variable
    pub record AreOf (n : ℕ) : Type 0 where
      pub all : (k : ℕ) (e : ConditionalEquation) → IsOneOf e (slice_index_or (equations_within n) k no_equations).all → IsOf types k e
      pub brought : (k : ℕ) (e : ConditionalEquation) → IsOneOf e (slice_index_or (equations_within n) k no_equations).brought → length e.names ≡ length e.sorts

    some-used : (n k : ℕ) → AreOf n → (ts : List Token) → ((t : Token) (x : Item) → IsOneOf t ts → IsOneOf x (items_at types (number_of types t)) → IsOneOf x (items_at types k)) →
        (e : ConditionalEquation) → IsOneOf e (flat_map (all_of types (equations_within n)) ts) → IsOf types k e
    some-used n k before ts has e i = by-name (from_flat_map (all_of types (equations_within n)) ts e i)
      where
        by-name : (t : Token) × IsOneOf t ts × IsOneOf e (all_of types (equations_within n) t) → IsOf types k e
        by-name (t, j, m) = has-more types (number_of types t) k (λ x o. has t x j o) e (before.all (number_of types t) e m)

    some-copied : (n k : ℕ) → AreOf n → (source : Token) (replaced : List Item) (pairs : Pairs) →
        ((y : Item) → IsOneOf y (items_at types (number_of types source)) → IsOneOf (image_in replaced (renaming_of pairs) y) (items_at types k)) →
        (e : ConditionalEquation) → IsOneOf e (copied types (equations_within n) source (copy_numbers types replaced pairs)) → IsOf types k e
    some-copied n k before source replaced pairs images e i = by-image-of (from_map (equation_image (copy_numbers types replaced pairs)) (all_of types (equations_within n) source) e i)
      where
        by-image-of : (d : ConditionalEquation) × IsOneOf d (all_of types (equations_within n) source) × (e ≡ equation_image (copy_numbers types replaced pairs) d) → IsOf types k e
        by-image-of (d, j, is) = subst (λ z. IsOf types k z) (sym is) (copied-fits k (number_of types source) replaced pairs images d (before.all (number_of types source) d j))

    all-of-body : (n k : ℕ) → AreOf n → (place : Place) (name : Token) (body : TypeBody) (o : List ConditionalEquation) → slice_get types k ≡ Some (Definition place name body) → slice_get own k ≡ Some o →
        (e : ConditionalEquation) → IsOneOf e (all_by types (equations_within n) o body) → IsOf types k e
    all-of-body n k before place name (Declared p imports formals sorts operations equations) o at of e i =
        elim (one_parts e (flat_map (all_of types (equations_within n)) (listed imports)) o i) [
          | inl a ↦ some-used n k before (listed imports) (λ t x j m. used-has types h k place name p imports formals sorts operations equations t x at j m) e a
          | inr a ↦ each_one (IsOf types k) o e (own-equations k (Definition place name (Declared p imports formals sorts operations equations)) o at of) a
        ]
    all-of-body n k before place name (Renamed p source pairs) o at of e i =
        some-copied n k before source [] pairs (λ y j. renamed-has types h k place name p source pairs y at j) e i
    all-of-body n k before place name (Actualized p source actuals pairs) o at of e i =
        elim (one_parts e (flat_map (all_of types (equations_within n)) actuals.items) (copied types (equations_within n) source (copy_numbers types (formals_of types (contents types) source) pairs)) i) [
          | inl a ↦ some-used n k before actuals.items (λ t x j m. actual-has types h k place name p source actuals pairs t x at j m) e a
          | inr a ↦ some-copied n k before source (formals_of types (contents types) source) pairs (λ y j. actualized-has types h k place name p source actuals pairs y at j) e a
        ]

    -- what is brought in

    pub in-source : (n : ℕ) (source : Token) (e : ConditionalEquation) → IsOneOf e (source_in_order types (equations_within n) source) → (k : ℕ) × IsOneOf e (slice_index_or (equations_within n) k no_equations).brought
    in-source n source e i = by-type (from_flat_map found (range_with_len 0 (length types)) e (once-from is_same_equation (flat_map found (range_with_len 0 (length types))) e i))
      where
        found : ℕ → List ConditionalEquation
        found = brought_by (equations_within n) (itself_and_parts types source) (all_of types (equations_within n) source)

        passed-from : (b : Bool) (xs : List ConditionalEquation) → IsOneOf e (cond b xs []) → IsOneOf e xs
        passed-from true xs j = j
        passed-from false xs j = absurd j

        by-type : (k : ℕ) × IsOneOf k (range_with_len 0 (length types)) × IsOneOf e (found k) → (k : ℕ) × IsOneOf e (slice_index_or (equations_within n) k no_equations).brought
        by-type (k, within, j) =
            let r = from_filter (is_in (all_of types (equations_within n) source)) e (slice_index_or (equations_within n) k no_equations).brought
            (passed-from (list_any (nat_eq k) (itself_and_parts types source)) (filter (is_in (all_of types (equations_within n) source)) (slice_index_or (equations_within n) k no_equations).brought) j) in
            (k, r.0)

    image-names : (news : NewNumbers) (d e : ConditionalEquation) → IsOneOf e (new_image news d) → length d.names ≡ length d.sorts → length e.names ≡ length e.sorts
    image-names news d e i q = by-test (is_same_equation (equation_image news d) d) i
      where
        by-test : (b : Bool) → IsOneOf e (cond b [] (equation_image news d ∷ [])) → length e.names ≡ length e.sorts
        by-test true i = absurd i
        by-test false (inl is) = subst (λ (z : ConditionalEquation). length z.names ≡ length z.sorts) (sym is) (q ∙ sym (length-map d.sorts (new_number news.sorts)))
        by-test false (inr i) = absurd i

    copied-names : (n : ℕ) → AreOf n → (source : Token) (news : NewNumbers) (e : ConditionalEquation) → IsOneOf e (newly_copied types (equations_within n) source news) → length e.names ≡ length e.sorts
    copied-names n before source news e i = by-source (from_flat_map (new_image news) (source_in_order types (equations_within n) source) e i)
      where
        by-source : (d : ConditionalEquation) × IsOneOf d (source_in_order types (equations_within n) source) × IsOneOf e (new_image news d) → length e.names ≡ length e.sorts
        by-source (d, j, m) =
            let r : (k : ℕ) × IsOneOf d (slice_index_or (equations_within n) k no_equations).brought = in-source n source d j in
            image-names news d e m (before.brought r.0 d r.1)

    brought-by-body : (n k : ℕ) → AreOf n → (place : Place) (name : Token) (body : TypeBody) (o : List ConditionalEquation) → slice_get types k ≡ Some (Definition place name body) → slice_get own k ≡ Some o →
        (e : ConditionalEquation) → IsOneOf e (brings_by types (equations_within n) o body) → length e.names ≡ length e.sorts
    brought-by-body n k before place name (Declared p imports formals sorts operations equations) o at of e i =
        let f : IsOf types k e = each_one (IsOf types k) o e (own-equations k (Definition place name (Declared p imports formals sorts operations equations)) o at of) i in
        f.one_name_each
    brought-by-body n k before place name (Renamed p source pairs) o at of e i = copied-names n before source (copy_numbers types [] pairs) e i
    brought-by-body n k before place name (Actualized p source actuals pairs) o at of e i = copied-names n before source (copy_numbers types (formals_of types (contents types) source) pairs) e i

    pub round-at : (n k : ℕ) → IsMadeAt no_equations (made_from types (equations_within n)) (zip types own) (equations_within (suc n)) k
    round-at n k = made-at no_equations (made_from types (equations_within n)) (zip types own) (equations_within (suc n)) refl k

    pub first-round : (k : ℕ) → IsMadeAt no_equations (λ (d : TypeDef × List ConditionalEquation). no_equations) (zip types own) (equations_within 0) k
    first-round k = made-at no_equations (λ (d : TypeDef × List ConditionalEquation). no_equations) (zip types own) (equations_within 0) refl k

    pub all-of : (n : ℕ) → AreOf n
    all-of zero = record { all = λ k e i. none-all k e i (first-round k); brought = λ k e i. none-brought k e i (first-round k) }
      where
        none-all : (k : ℕ) (e : ConditionalEquation) → IsOneOf e (slice_index_or (equations_within 0) k no_equations).all →
            IsMadeAt no_equations (λ (d : TypeDef × List ConditionalEquation). no_equations) (zip types own) (equations_within 0) k → IsOf types k e
        none-all k e i (made d at is) = absurd (subst (λ (z : Equations). IsOneOf e z.all) is i)
        none-all k e i (past at is) = absurd (subst (λ (z : Equations). IsOneOf e z.all) is i)

        none-brought : (k : ℕ) (e : ConditionalEquation) → IsOneOf e (slice_index_or (equations_within 0) k no_equations).brought →
            IsMadeAt no_equations (λ (d : TypeDef × List ConditionalEquation). no_equations) (zip types own) (equations_within 0) k → length e.names ≡ length e.sorts
        none-brought k e i (made d at is) = absurd (subst (λ (z : Equations). IsOneOf e z.brought) is i)
        none-brought k e i (past at is) = absurd (subst (λ (z : Equations). IsOneOf e z.brought) is i)
    all-of (suc n) = next (all-of n)
      where
        all-by : AreOf n → (k : ℕ) (d : TypeDef) (o : List ConditionalEquation) → slice_get types k ≡ Some d → slice_get own k ≡ Some o →
            (e : ConditionalEquation) → IsOneOf e (made_by types (equations_within n) o d).all → IsOf types k e
        all-by before k (Library place names) o at of e i = absurd i
        all-by before k (Definition place name body) o at of e i = all-of-body n k before place name body o at of e (once-from is_same_equation (all_by types (equations_within n) o body) e i)

        brought-by-type : AreOf n → (k : ℕ) (d : TypeDef) (o : List ConditionalEquation) → slice_get types k ≡ Some d → slice_get own k ≡ Some o →
            (e : ConditionalEquation) → IsOneOf e (made_by types (equations_within n) o d).brought → length e.names ≡ length e.sorts
        brought-by-type before k (Library place names) o at of e i = absurd i
        brought-by-type before k (Definition place name body) o at of e i = brought-by-body n k before place name body o at of e i

        all-at : AreOf n → (k : ℕ) (e : ConditionalEquation) → IsOneOf e (slice_index_or (equations_within (suc n)) k no_equations).all →
            IsMadeAt no_equations (made_from types (equations_within n)) (zip types own) (equations_within (suc n)) k → IsOf types k e
        all-at before k e i (past at is) = absurd (subst (λ (z : Equations). IsOneOf e z.all) is i)
        all-at before k e i (made d at is) =
            let p = pair-at types own k d at in
            all-by before k d.0 d.1 p.0 p.1 e (subst (λ (z : Equations). IsOneOf e z.all) is i)

        brought-at : AreOf n → (k : ℕ) (e : ConditionalEquation) → IsOneOf e (slice_index_or (equations_within (suc n)) k no_equations).brought →
            IsMadeAt no_equations (made_from types (equations_within n)) (zip types own) (equations_within (suc n)) k → length e.names ≡ length e.sorts
        brought-at before k e i (past at is) = absurd (subst (λ (z : Equations). IsOneOf e z.brought) is i)
        brought-at before k e i (made d at is) =
            let p = pair-at types own k d at in
            brought-by-type before k d.0 d.1 p.0 p.1 e (subst (λ (z : Equations). IsOneOf e z.brought) is i)

        next : AreOf n → AreOf (suc n)
        next before = record { all = λ k e i. all-at before k e i (round-at n k); brought = λ k e i. brought-at before k e i (round-at n k) }
