-- The data presentation of types of which nothing is refused fits together.
use Rattle.std.proofs.Common.{ℕ, ◌≡◌, ◌∙◌, ◌<◌, ◌^◌, ◌-◌, refl, sym, ap, subst, List, [], ◌∷◌, length, map, Bool, true, false, ◌&&◌, not, cond, nat_eq, Some, arith}
use Rattle.std.specs.Prelude.{option_map}
use Rattle.std.specs.Cmp.Lexicographic.{pointwise}
use Rattle.std.specs.List.{flat_map, slice_get, slice_index_or, zip}
use Rattle.std.proofs.lemmas.Bool.{and_parts, eqb-true, not-true}
use Rattle.std.proofs.lemmas.List.{length-map}
use Rattle.std.proofs.lemmas.Option.{get_or_from_slice_get, slice_get-map, slice_get_within}
use Rattle.lotos_ast.specs.declared.refusal.Refusal.{Refusal}
use Rattle.lotos_ast.specs.declared.types.TypeDef.{TypeDef}
use Rattle.spec_core.specs.Lists.{Each, IsOneOf}
use Rattle.spec_core.specs.Sorts.{OnSome, OperationFits, IsDeclaredSort, EquationFits, FitsData}
use Rattle.spec_core.specs.Theories.{Premise, premise, ConditionalEquation, Theory}
use Rattle.spec_core.proofs.Lists.{each-map, each_get_or, each_take}
use Rattle.spec_core.proofs.Members.{each_from, from_flat_map, from_filter, one_slice_get}
use Rattle.type_contents.specs.Contents.{Content, no_content, contents}
use Rattle.type_contents.specs.FormalTypes.{formal_types, is_formal_from}
use Rattle.type_contents.specs.Items.{Item, Described, item_of, is_in}
use Rattle.type_contents.specs.Numbering.{all_sorts, all_operations, number_among, is_data}
use Rattle.type_contents.specs.Own.{sort_item}
use Rattle.type_contents.proofs.Settled.{rounds_length}
use Rattle.type_names.specs.Acyclic.{CyclesAreRefused, ContentsAreMadeFromContents}
use Rattle.type_images.specs.Images.{new_number, term_image, term_images, premise_image, equation_image}
use Rattle.type_images.specs.Same.{is_same_premise, is_same_term, is_same_equation, firsts}
use Rattle.type_images.specs.Same as same
use Rattle.type_equation_copies.proofs.Terms.{one_term}
use Rattle.type_equation_copies.specs.Contents.{Equations, no_equations, equations}
use Rattle.type_data.specs.Data.{data_sorts, data_operations, of_data, all_equations, data_equations, data_numbers, sort_numbers, operation, data_of}
use Rattle.static_presentation.specs.Own.{AreOwnEquations}
use Rattle.static_laws.specs.Presentation.{PresentationsFit}
use Rattle.static_laws.proofs.Closed.{IsUnrefused, unrefused, content-there, closed}
use Rattle.static_laws.proofs.Copied.{IsOf, by-image, AreOf, all-of}
use Rattle.static_laws.proofs.Covered.{items_at, sort-covered}
use Rattle.static_laws.proofs.Items.{IsDescribed, is-among, among-is, described, in-passing, number-there, description-at, image-number}
use Rattle.static_laws.proofs.Membership.{in-any, any-in, once-from, in-at, paired, pair-at}
use Rattle.static_laws.proofs.Placed.{IsSortIn, IsOperationIn, numbers-changed, arguments-changed, result-changed, is-operation}
use Rattle.static_laws.proofs.Typed.{IsOperationOf, HaveOneSortBy, PremiseFitsBy, changed-equation, from-equation}

-- equations that are one have one left side, one right side, the same premises and the same sorts

one-premise : (p q : Premise) → is_same_premise p q ≡ true → p ≡ q
one-premise (premise a b) (premise c d) e =
    let h : (is_same_term a c ≡ true) × (is_same_term b d ≡ true) = and_parts (is_same_term a c) (is_same_term b d) e in
    ap (λ z. premise z b) (one_term a c h.0) ∙ ap (premise c) (one_term b d h.1)

pointwise-one : {A : Type 0} (test : A → A → Bool) → ((x y : A) → test x y ≡ true → x ≡ y) → (xs ys : List A) → pointwise test xs ys ≡ true → xs ≡ ys
pointwise-one test one [] [] e = refl
pointwise-one test one [] (y ∷ ys) e = absurd (cc)
pointwise-one test one (x ∷ xs) [] e = absurd (cc)
pointwise-one test one (x ∷ xs) (y ∷ ys) e =
    let h : (test x y ≡ true) × (pointwise test xs ys ≡ true) = and_parts (test x y) (pointwise test xs ys) e in
    ap (λ z. z ∷ xs) (one x y h.0) ∙ ap (λ zs. y ∷ zs) (pointwise-one test one xs ys h.1)

-- so one fits as the other does
same-fits : (types : List TypeDef) (k : ℕ) (e d : ConditionalEquation) → length e.names ≡ length e.sorts → is_same_equation e d ≡ true → IsOf types k d → IsOf types k e
same-fits types k e d names s h =
    let a = and_parts (is_same_term e.left d.left && is_same_term e.right d.right && pointwise is_same_premise e.premises d.premises) (pointwise nat_eq e.sorts d.sorts) s in
    let b = and_parts (is_same_term e.left d.left && is_same_term e.right d.right) (pointwise is_same_premise e.premises d.premises) a.0 in
    let c = and_parts (is_same_term e.left d.left) (is_same_term e.right d.right) b.0 in
    let left : d.left ≡ e.left = sym (one_term e.left d.left c.0) in
    let right : d.right ≡ e.right = sym (one_term e.right d.right c.1) in
    let premises : d.premises ≡ e.premises = sym (pointwise-one is_same_premise one-premise e.premises d.premises b.1) in
    let sorts : d.sorts ≡ e.sorts = sym (pointwise-one nat_eq eqb-true e.sorts d.sorts a.1) in
    let D = IsOperationIn types (items_at types k) in
    record {
      one_name_each = names;
      sorts = subst (λ zs. Each (IsSortIn types (items_at types k)) zs) sorts h.sorts;
      sides = subst (λ zs. HaveOneSortBy D (slice_get zs) e.left e.right) sorts
          (subst (λ z. HaveOneSortBy D (slice_get d.sorts) e.left z) right (subst (λ z. HaveOneSortBy D (slice_get d.sorts) z d.right) left h.sides));
      premises = subst (λ zs. Each (PremiseFitsBy D (slice_get zs)) e.premises) sorts (subst (λ zs. Each (PremiseFitsBy D (slice_get d.sorts)) zs) premises h.premises);
    }

placed : (all : List Described) (n : ℕ) (x : Item) → slice_get (map item_of all) n ≡ Some x → IsDescribed all x
placed all n x at = one_slice_get (map item_of all) n x at

module _ (types : List TypeDef) (h : IsUnrefused types) where
  -- the type of this number isn't formal
  abbrev pub IsData : ℕ → Type 0
  IsData k = (slice_get (formal_types types) k ≡ Some false) × (slice_get (contents types) k ≡ Some (slice_index_or (contents types) k no_content))

  pub data-has : (k : ℕ) (x : Item) → IsData k → IsOneOf x (items_at types k) → is_data types x ≡ true
  data-has k x d i =
      let c = slice_index_or (contents types) k no_content in
      in-any (λ (e : Bool × Content). not e.0 && is_in e.1.items x) (false, c) (zip (formal_types types) (contents types))
      (one_slice_get (zip (formal_types types) (contents types)) k (false, c) (paired (formal_types types) (contents types) k false c d.0 d.1)) (among-is (items_at types k) x i)

  -- what belongs to the data, a type has that isn't formal
  pub of-type : (x : Item) → is_data types x ≡ true → (k : ℕ) × IsData k × IsOneOf x (items_at types k)
  of-type x e = by-pair (any-in (λ (e : Bool × Content). not e.0 && is_in e.1.items x) (zip (formal_types types) (contents types)) e)
    where
      by-number : (p : Bool × Content) → (not p.0 && is_in p.1.items x) ≡ true → (k : ℕ) × (slice_get (zip (formal_types types) (contents types)) k ≡ Some p) → (k : ℕ) × IsData k × IsOneOf x (items_at types k)
      by-number p e (k, at) =
          let t : (not p.0 ≡ true) × (is_in p.1.items x ≡ true) = and_parts (not p.0) (is_in p.1.items x) e in
          let q = pair-at (formal_types types) (contents types) k p at in
          let c : slice_index_or (contents types) k no_content ≡ p.1 = get_or_from_slice_get (contents types) k p.1 no_content q.1 in
          (k, (q.0 ∙ ap Some (not-true p.0 t.0), q.1 ∙ ap Some (sym c)), subst (λ (z : Content). IsOneOf x z.items) (sym c) (is-among p.1.items x t.1))

      by-pair : (p : Bool × Content) × IsOneOf p (zip (formal_types types) (contents types)) × ((not p.0 && is_in p.1.items x) ≡ true) → (k : ℕ) × IsData k × IsOneOf x (items_at types k)
      by-pair (p, i, e) = by-number p e (in-at p (zip (formal_types types) (contents types)) i)

  module _ (own : List (List ConditionalEquation)) where
    abbrev presented : Theory
    presented = data_of types own

    abbrev sort_number_of : ℕ → ℕ
    sort_number_of = new_number (data_numbers types).sorts

    abbrev operation_number_of : ℕ → ℕ
    operation_number_of = new_number (data_numbers types).operations

    module _ (k : ℕ) (d : IsData k) where
      pub sort-described : (name : List ℕ) → IsDescribed (all_sorts types) (sort_item name) → IsOneOf (sort_item name) (items_at types k) → IsDescribed (data_sorts types) (sort_item name)
      sort-described name i has = in-passing (λ e. is_data types e.item) (all_sorts types) (sort_item name) i (λ e is. ap (is_data types) is ∙ data-has k (sort_item name) d has)

      -- a number of a sort of the data
      sort-declared : (name : List ℕ) → IsDescribed (all_sorts types) (sort_item name) → IsOneOf (sort_item name) (items_at types k) → number_among (data_sorts types) (sort_item name) < length presented.sorts
      sort-declared name i has =
          let within = slice_get_within (map item_of (data_sorts types)) (number_among (data_sorts types) (sort_item name)) (sort_item name) (number-there (data_sorts types) (sort_item name) (sort-described name i has)) in
          omega (arith, within, length-map (data_sorts types) item_of, length-map (data_sorts types) (λ e. e.spelled))

      data-sort : (n : ℕ) → IsSortIn types (items_at types k) n → IsDeclaredSort presented (sort_number_of n)
      data-sort n i =
          subst (λ z. z < length presented.sorts) (sym (image-number (data_sorts types) (all_sorts types) (λ x. x) n (sort_item i.name) i.at))
          (sort-declared i.name (placed (all_sorts types) n (sort_item i.name) i.at) i.has)

      -- the numbers of an operation's sorts
      data-sorts-of : (x : Item) → IsOneOf x (items_at types k) → map sort_number_of (sort_numbers (all_sorts types) x.sorts) ≡ sort_numbers (data_sorts types) x.sorts
      data-sorts-of x has =
          numbers-changed sort_number_of (λ n. number_among (all_sorts types) (sort_item n)) (λ n. number_among (data_sorts types) (sort_item n)) x.sorts
          (λ name j. let i = closed types h k x has name j in
          let all = sort-covered types h.acyclic h.settled k (sort_item name) i refl in
          image-number (data_sorts types) (all_sorts types) (λ y. y) (number_among (all_sorts types) (sort_item name)) (sort_item name) (number-there (all_sorts types) (sort_item name) all))

      data-operation : (f : ℕ) (args : List ℕ) (sort : ℕ) → IsOperationIn types (items_at types k) f args sort → IsOperationOf presented (operation_number_of f) (map sort_number_of args) (sort_number_of sort)
      data-operation f args sort i = by-description (description-at (data_operations types) (operation_number_of f) i.item there)
        where
          known : IsDescribed (data_operations types) i.item
          known = in-passing (λ e. is_data types e.item) (all_operations types) i.item (placed (all_operations types) f i.item i.at) (λ e is. ap (is_data types) is ∙ data-has k i.item d i.has)

          there : slice_get (map item_of (data_operations types)) (operation_number_of f) ≡ Some i.item
          there = ap (slice_get (map item_of (data_operations types))) (image-number (data_operations types) (all_operations types) (λ x. x) f i.item i.at) ∙ number-there (data_operations types) i.item known

          some : 0 < length (sort_numbers (all_sorts types) i.item.sorts)
          some = omega (arith, (is-operation types h f i.item i.at).1, length-map i.item.sorts (λ n. number_among (all_sorts types) (sort_item n)))

          by-description : (e : Described) × (slice_get (data_operations types) (operation_number_of f) ≡ Some e) × (e.item ≡ i.item) → IsOperationOf presented (operation_number_of f) (map sort_number_of args) (sort_number_of sort)
          by-description (e, at, is) =
              let numbers : map sort_number_of (sort_numbers (all_sorts types) i.item.sorts) ≡ sort_numbers (data_sorts types) e.item.sorts =
              data-sorts-of i.item i.has ∙ ap (λ (z : Item). sort_numbers (data_sorts types) z.sorts) (sym is) in
              subst (λ o. OnSome o (λ z. (z.result ≡ sort_number_of sort) × (z.args ≡ map sort_number_of args)))
              (sym (slice_get-map (operation (data_sorts types)) (data_operations types) (operation_number_of f) ∙ ap (option_map (operation (data_sorts types))) at)) (
                sym (ap sort_number_of i.result ∙ result-changed sort_number_of (sort_numbers (all_sorts types) i.item.sorts) (sort_numbers (data_sorts types) e.item.sorts) some numbers),
                sym (ap (map sort_number_of) i.arguments ∙ arguments-changed sort_number_of (sort_numbers (all_sorts types) i.item.sorts) (sort_numbers (data_sorts types) e.item.sorts) numbers),
              )

      data-fits : (e : ConditionalEquation) → IsOf types k e → EquationFits presented (equation_image (data_numbers types) e)
      data-fits e i =
          let operations = (data_numbers types).operations in
          from-equation presented (equation_image (data_numbers types) e)
          (changed-equation operation_number_of sort_number_of (term_image operations) (term_images operations) (premise_image operations) (by-image operations)
          (IsOperationIn types (items_at types k)) (IsOperationOf presented) data-operation (IsSortIn types (items_at types k)) (IsDeclaredSort presented) data-sort e i)

    -- operations
    operation-fits : (d : Described) → IsOneOf d (data_operations types) → OperationFits presented (operation (data_sorts types) d)
    operation-fits d i = by-type (of-type d.item k.1)
      where
        k : IsOneOf d (all_operations types) × (is_data types d.item ≡ true)
        k = from_filter (λ e. is_data types e.item) d (all_operations types) i

        by-type : (j : ℕ) × IsData j × IsOneOf d.item (items_at types j) → OperationFits presented (operation (data_sorts types) d)
        by-type (j, data_type, has) =
            let there = number-there (all_operations types) d.item (described (all_operations types) d k.0) in
            let numbers : Each (IsDeclaredSort presented) (sort_numbers (data_sorts types) d.item.sorts) =
            each-map (IsDeclaredSort presented) (λ name. number_among (data_sorts types) (sort_item name)) d.item.sorts
            (each_from (λ name. number_among (data_sorts types) (sort_item name) < length presented.sorts) d.item.sorts
            (λ name m. let c = closed types h j d.item has name m in sort-declared j data_type name (sort-covered types h.acyclic h.settled j (sort_item name) c refl) c)) in (
              each_get_or (IsDeclaredSort presented) (sort_numbers (data_sorts types) d.item.sorts) (length (sort_numbers (data_sorts types) d.item.sorts) - 1) 0
                  (omega (arith, (is-operation types h (number_among (all_operations types) d.item) d.item there).1, length-map d.item.sorts (λ name. number_among (data_sorts types) (sort_item name)))) numbers,
              each_take (IsDeclaredSort presented) (length (sort_numbers (data_sorts types) d.item.sorts) - 1) (sort_numbers (data_sorts types) d.item.sorts) numbers,
            )

    module _ (rs : List Refusal) (read : AreOwnEquations types own rs) where
      abbrev found : List Equations
      found = equations types own

      known : AreOf types h own rs read (length (zip types own))
      known = all-of types h own rs read (length (zip types own))

      -- an equation that a type brings in
      brought-names : (e : ConditionalEquation) → IsOneOf e (all_equations found) → length e.names ≡ length e.sorts
      brought-names e i = by-type (from_flat_map (λ (z : Equations). z.brought) found e (once-from is_same_equation (flat_map (λ (z : Equations). z.brought) found) e i))
        where
          at-number : (z : Equations) → IsOneOf e z.brought → (k : ℕ) × (slice_get found k ≡ Some z) → length e.names ≡ length e.sorts
          at-number z j (k, at) = known.brought k e (subst (λ (y : Equations). IsOneOf e y.brought) (sym (get_or_from_slice_get found k z no_equations at)) j)

          by-type : (z : Equations) × IsOneOf z found × IsOneOf e z.brought → length e.names ≡ length e.sorts
          by-type (z, i, j) = at-number z j (in-at z found i)

      equation-fits : (e : ConditionalEquation) → IsOneOf e (data_equations types own) → EquationFits presented (equation_image (data_numbers types) e)
      equation-fits e i = by-same (any-in (is_same_equation e) (of_data (λ (z : Equations). z.all) (formal_types types) found) k.1)
        where
          k : IsOneOf e (all_equations found) × (same.is_in (of_data (λ (z : Equations). z.all) (formal_types types) found) e ≡ true)
          k = from_filter (same.is_in (of_data (λ (z : Equations). z.all) (formal_types types) found)) e (all_equations found) i

          if-data : (b : Bool) (d : ConditionalEquation) (all : List ConditionalEquation) → IsOneOf d (cond b [] all) → (b ≡ false) × IsOneOf d all
          if-data true d all j = absurd j
          if-data false d all j = (refl, j)

          at-number : (d : ConditionalEquation) → is_same_equation e d ≡ true → (p : Bool × Equations) → IsOneOf d (cond p.0 [] p.1.all) → (n : ℕ) × (slice_get (zip (formal_types types) found) n ≡ Some p) →
              EquationFits presented (equation_image (data_numbers types) e)
          at-number d s p j (n, at) =
              let q = pair-at (formal_types types) found n p at in
              let t : (p.0 ≡ false) × IsOneOf d p.1.all = if-data p.0 d p.1.all j in
              let of_type : IsOf types n d = known.all n d (subst (λ (y : Equations). IsOneOf d y.all) (sym (get_or_from_slice_get found n p.1 no_equations q.1)) t.1) in
              let within : n < length types = omega (arith, slice_get_within (formal_types types) n p.0 q.0, rounds_length false (is_formal_from types) types (length types)) in
              data-fits n (q.0 ∙ ap Some t.0, content-there types h n within) e (same-fits types n e d (brought-names e k.0) s of_type)

          by-type : (d : ConditionalEquation) → is_same_equation e d ≡ true → (p : Bool × Equations) × IsOneOf p (zip (formal_types types) found) × IsOneOf d (cond p.0 [] p.1.all) → EquationFits presented (equation_image (data_numbers types) e)
          by-type d s (p, i, j) = at-number d s p j (in-at p (zip (formal_types types) found) i)

          by-same : (d : ConditionalEquation) × IsOneOf d (of_data (λ (z : Equations). z.all) (formal_types types) found) × (is_same_equation e d ≡ true) → EquationFits presented (equation_image (data_numbers types) e)
          by-same (d, j, s) = by-type d s (from_flat_map (λ (p : Bool × Equations). cond p.0 [] p.1.all) (zip (formal_types types) found) d j)

      all-fit : length presented.sorts < 2 ^ 32 → length presented.operations < 2 ^ 32 → length presented.equations < 2 ^ 32 → FitsData presented
      all-fit sorts operations equations = record {
        sorts_are_few = sorts;
        operations_are_few = operations;
        equations_are_few = equations;
        operations = each-map (OperationFits presented) (operation (data_sorts types)) (data_operations types) (each_from (λ d. OperationFits presented (operation (data_sorts types) d)) (data_operations types) operation-fits);
        equations = each-map (EquationFits presented) (equation_image (data_numbers types)) (data_equations types own)
            (each_from (λ e. EquationFits presented (equation_image (data_numbers types) e)) (data_equations types own) equation-fits);
      }

pub presentations_fit : CyclesAreRefused → ContentsAreMadeFromContents → PresentationsFit
presentations_fit cycles settled types theory none p sorts operations equations =
    subst (λ t. FitsData t) (sym p.presented)
    (all-fit types (unrefused cycles settled types none) p.own [] p.read
    (subst (λ (t : Theory). length t.sorts < 2 ^ 32) p.presented sorts)
    (subst (λ (t : Theory). length t.operations < 2 ^ 32) p.presented operations)
    (subst (λ (t : Theory). length t.equations < 2 ^ 32) p.presented equations))
