-- Where nothing is refused of types, each has the sorts of its operations, and a copy has the image of each item of what it copies.
use Rattle.std.proofs.Common.{ℕ, zero, suc, ◌≡◌, ◌∙◌, ◌<◌, inl, inr, refl, sym, ap, subst, List, [], ◌∷◌, ◌++◌, length, map, Bool, true, false, ◌||◌, not, cond, arith, Option, Some, Vec, Global}
use Rattle.std.specs.Prelude.{if◌then◌else◌}
use Rattle.std.specs.List.{flat_map, slice_get, slice_index_or, zip}
use Rattle.std.proofs.lemmas.List.{map-append}
use Rattle.std.proofs.lemmas.Option.{none-some, same_Some, slice_get_within, slice_get-get_or}
use Rattle.lotos_ast.specs.declared.place.Place.{Place}
use Rattle.lotos_ast.specs.declared.token.Token.{Token}
use Rattle.lotos_ast.specs.declared.types.DeclaredName.{DeclaredName}
use Rattle.lotos_ast.specs.declared.types.EquationPart.{EquationPart}
use Rattle.lotos_ast.specs.declared.types.Formals.{Formals}
use Rattle.lotos_ast.specs.declared.types.OperationDecl.{OperationDecl}
use Rattle.lotos_ast.specs.declared.types.OperationPart.{OperationPart}
use Rattle.lotos_ast.specs.declared.types.Pairs.{Pairs}
use Rattle.lotos_ast.specs.declared.types.SortPart.{SortPart}
use Rattle.lotos_ast.specs.declared.types.TypeBody.{TypeBody}
use Rattle.lotos_ast.specs.declared.types.TypeBody.TheVariants.{Declared, Renamed, Actualized}
use Rattle.lotos_ast.specs.declared.types.TypeDef.{TypeDef}
use Rattle.lotos_ast.specs.declared.types.TypeDef.TheVariants.{Library, Definition}
use Rattle.spec_core.specs.Lists.{IsOneOf}
use Rattle.spec_core.proofs.Lists.{both_empty}
use Rattle.spec_core.proofs.Members.{from_flat_map, one_parts, one_left, one_flat_map, one_map, one_right, one_slice_get, from_map}
use Rattle.type_cycles.specs.MadeFrom.{AreAcyclic}
use Rattle.type_contents.specs.Contents.{Content, no_content, contents, made_from, content_of, items_by, items_of, formals_of, kept_one, kept}
use Rattle.type_contents.specs.Images.{Renaming, renaming_of, sort_image, image, kept_renaming, kept_image}
use Rattle.type_contents.specs.Items.{Item, Described, item_of, is_in, is_sort, small}
use Rattle.type_contents.specs.Lists.{listed}
use Rattle.type_contents.specs.Numbering.{all_sorts, all_operations}
use Rattle.type_contents.specs.Own.{sort_item, declared_sort, declared_operation, declared_operations, sort_names, part_sort_names, part_operations, formal_sorts, formal_operations, own_items}
use Rattle.type_contents.specs.Uses.{number_of, links}
use Rattle.type_contents.proofs.Settled.{rounds_length}
use Rattle.type_names.specs.DuplicateNames.{duplicate_names}
use Rattle.type_names.specs.TypeCycles.{cycle_refusals}
use Rattle.type_names.specs.UnknownTypes.{unknown_types}
use Rattle.type_names.specs.Acyclic.{CyclesAreRefused, ContentsAreMadeFromContents}
use Rattle.type_copies.specs.BadActuals.{bad_actual, bad_actuals}
use Rattle.type_copies.specs.BadRenamings.{bad_pairs}
use Rattle.type_copies.specs.Copies.{copy}
use Rattle.type_copies.specs.UnknownSorts.{operation_sorts, sorts_in, unknown_sort, unknown_sorts}
use Rattle.flattening.specs.Refusals.{bad_copy, sort_refusals, refusals_of}
use Rattle.type_equation_copies.specs.Copies.{image_in}
use Rattle.static_laws.proofs.Covered.{graph, graph-length, linked, items_at, content-at, sort-covered, operation-covered}
use Rattle.static_laws.proofs.Items.{IsDescribed, is-among, in-union, union-from}
use Rattle.static_laws.proofs.Membership.{paired}
use Rattle.static_laws.proofs.Walking.{IsShort, all-short, short-next, none-short, IsMadeAt, made, past}
use Rattle.static_laws.proofs.WellMade.{NamesOperations, renaming-names, kept-names, kept-sorts, image-sorts, image-of-sort}

-- where lists that are joined are empty, so is each

pub each-empty : {A B : Type 0} (f : A → List B) (xs : List A) (x : A) → flat_map f xs ≡ [] → IsOneOf x xs → f x ≡ []
each-empty f [] x e h = absurd h
each-empty f (y ∷ ys) x e (inl q) = ap f q ∙ (both_empty (f y) (flat_map f ys) e).0
each-empty f (y ∷ ys) x e (inr h) = each-empty f ys x (both_empty (f y) (flat_map f ys) e).1 h

-- a test that would refuse passes
pub passed : {A : Type 0} (b : Bool) (r : A) → cond b [] (r ∷ []) ≡ [] → b ≡ true
passed true r e = refl
passed false r e = absurd (cc)

-- what isn't refused
pub record IsUnrefused (types : List TypeDef) : Type 0 where
  pub acyclic : AreAcyclic (graph types)
  pub settled : map (made_from types (contents types)) types ≡ contents types
  pub sorts : sort_refusals types (contents types) ≡ []
  pub duplicates : duplicate_names types ≡ []
  pub copies : flat_map (bad_copy types (contents types) (all_sorts types ++ all_operations types)) types ≡ []

pub unrefused : CyclesAreRefused → ContentsAreMadeFromContents → (types : List TypeDef) → refusals_of types ≡ [] → IsUnrefused types
unrefused cycles made_so types e =
    let a = both_empty (unknown_types types ++ cycle_refusals types ++ sort_refusals types (contents types) ++ duplicate_names types)
    (flat_map (bad_copy types (contents types) (all_sorts types ++ all_operations types)) types) e in
    let b = both_empty (unknown_types types ++ cycle_refusals types ++ sort_refusals types (contents types)) (duplicate_names types) a.0 in
    let c = both_empty (unknown_types types ++ cycle_refusals types) (sort_refusals types (contents types)) b.0 in
    let d = both_empty (unknown_types types) (cycle_refusals types) c.0 in
    let acyclic : AreAcyclic (graph types) = (cycles types).0 d.1 in
    record { acyclic = acyclic; settled = made_so types acyclic; sorts = c.1; duplicates = b.1; copies = a.1 }

module _ (types : List TypeDef) (h : IsUnrefused types) where
  pub content-there : (k : ℕ) → k < length types → slice_get (contents types) k ≡ Some (slice_index_or (contents types) k no_content)
  content-there k within = slice_get-get_or (contents types) k no_content (omega (arith, within, rounds_length no_content (made_from types) types (length types)))

  -- a sort that a type's declarations name is one that it has
  named-sort : (k : ℕ) (d : TypeDef) (t : Token) → slice_get types k ≡ Some d → IsOneOf t (sorts_in d) → IsOneOf (sort_item (small t)) (items_at types k)
  named-sort k d t at named =
      is-among (items_at types k) (sort_item (small t))
      (passed (is_in (items_at types k) (sort_item (small t))) _
      (each-empty (unknown_sort (items_at types k)) (sorts_in d) t
      (each-empty (λ (e : TypeDef × Content). unknown_sorts e.1.items e.0) (zip types (contents types)) (d, slice_index_or (contents types) k no_content) h.sorts
      (one_slice_get (zip types (contents types)) k (d, slice_index_or (contents types) k no_content)
      (paired types (contents types) k d (slice_index_or (contents types) k no_content) at (content-there k (slice_get_within types k d at)))))
      named))

  -- what a type is made of, it has
  made-has : (k : ℕ) (place : Place) (name : Token) (body : TypeBody) (x : Item) → slice_get types k ≡ Some (Definition place name body) → IsOneOf x (items_by types (contents types) body) → IsOneOf x (items_at types k)
  made-has k place name body x at i = by-content (content-at types h.acyclic h.settled k)
    where
      by-content : IsMadeAt no_content (made_from types (contents types)) types (contents types) k → IsOneOf x (items_at types k)
      by-content (made e there is) =
          subst (λ c. IsOneOf x c.items) (sym (is ∙ ap (made_from types (contents types)) (same_Some e (Definition place name body) (sym there ∙ at)))) (in-union (items_by types (contents types) body) x i)
      by-content (past there is) = absurd (none-some (Definition place name body) (sym there ∙ at))

  -- an item of a type that is used
  pub used-has : (k : ℕ) (place : Place) (name : Token) (p : Place) (imports : Option (Vec Token Global)) (formals : Formals) (sorts : Option SortPart) (operations : Option OperationPart) (equations : Option EquationPart) (t : Token) (x : Item) →
      slice_get types k ≡ Some (Definition place name (Declared p imports formals sorts operations equations)) → IsOneOf t (listed imports) → IsOneOf x (items_at types (number_of types t)) → IsOneOf x (items_at types k)
  used-has k place name p imports formals sorts operations equations t x at i j =
      made-has k place name (Declared p imports formals sorts operations equations) x at
      (one_left x (flat_map (items_of types (contents types)) (listed imports)) (map item_of (own_items formals sorts operations)) (one_flat_map (items_of types (contents types)) t (listed imports) x i j))

  pub actual-has : (k : ℕ) (place : Place) (name : Token) (p : Place) (source : Token) (actuals : Vec Token Global) (pairs : Pairs) (t : Token) (x : Item) →
      slice_get types k ≡ Some (Definition place name (Actualized p source actuals pairs)) → IsOneOf t actuals.items → IsOneOf x (items_at types (number_of types t)) → IsOneOf x (items_at types k)
  actual-has k place name p source actuals pairs t x at i j =
      made-has k place name (Actualized p source actuals pairs) x at
      (one_left x (flat_map (items_of types (contents types)) actuals.items) (kept (content_of types (contents types) source) (renaming_of pairs)) (one_flat_map (items_of types (contents types)) t actuals.items x i j))

  -- the image of an item in a copy

  none-replaced : (renaming : Renaming) (x : Item) → image_in [] renaming x ≡ image renaming x
  none-replaced renaming x = refl

  pub renamed-has : (k : ℕ) (place : Place) (name : Token) (p : Place) (source : Token) (pairs : Pairs) (x : Item) →
      slice_get types k ≡ Some (Definition place name (Renamed p source pairs)) → IsOneOf x (items_at types (number_of types source)) → IsOneOf (image_in [] (renaming_of pairs) x) (items_at types k)
  renamed-has k place name p source pairs x at i =
      subst (λ z. IsOneOf z (items_at types k)) (sym (none-replaced (renaming_of pairs) x))
      (made-has k place name (Renamed p source pairs) (image (renaming_of pairs) x) at (one_map (image (renaming_of pairs)) x (items_of types (contents types) source) i))

  -- the image of a formal item is one of the actual types
  formal-there : (k : ℕ) (place : Place) (name : Token) (p : Place) (source : Token) (actuals : Vec Token Global) (pairs : Pairs) (d : Described) →
      slice_get types k ≡ Some (Definition place name (Actualized p source actuals pairs)) → IsOneOf d (all_sorts types ++ all_operations types) →
      is_in (formals_of types (contents types) source) d.item ≡ true → IsOneOf (image (renaming_of pairs) d.item) (flat_map (items_of types (contents types)) actuals.items)
  formal-there k place name p source actuals pairs d at i formal =
      let all = all_sorts types ++ all_operations types in
      let formals = formals_of types (contents types) source in
      let actual = flat_map (items_of types (contents types)) actuals.items in
      let copies = bad_pairs (copy (items_of types (contents types) source) formals (renaming_of pairs)) pairs in
      let none = (both_empty copies (bad_actuals name.place pairs formals actual all)
      (each-empty (bad_copy types (contents types) all) types (Definition place name (Actualized p source actuals pairs)) h.copies (one_slice_get types k (Definition place name (Actualized p source actuals pairs)) at))).1 in
      is-among actual (image (renaming_of pairs) d.item)
      (by-test (passed (not (is_in formals d.item) || is_in actual (image (renaming_of pairs) d.item)) _ (each-empty (bad_actual name.place pairs formals actual) all d none i)))
    where
      by-test : (not (is_in (formals_of types (contents types) source) d.item) || is_in (flat_map (items_of types (contents types)) actuals.items) (image (renaming_of pairs) d.item)) ≡ true →
          is_in (flat_map (items_of types (contents types)) actuals.items) (image (renaming_of pairs) d.item) ≡ true
      by-test e = sym (ap (λ b. not b || is_in (flat_map (items_of types (contents types)) actuals.items) (image (renaming_of pairs) d.item)) formal) ∙ e

  in-both : (x : Item) (k : ℕ) → IsOneOf x (items_at types k) → IsDescribed (all_sorts types ++ all_operations types) x
  in-both x k i = by-kind (is_sort x) refl
    where
      from-front : (xs ys : List Described) → IsDescribed xs x → IsDescribed (xs ++ ys) x
      from-front xs ys j = subst (λ zs. IsOneOf x zs) (sym (map-append item_of xs ys)) (one_left x (map item_of xs) (map item_of ys) j)

      from-rest : (xs ys : List Described) → IsDescribed ys x → IsDescribed (xs ++ ys) x
      from-rest xs ys j = subst (λ zs. IsOneOf x zs) (sym (map-append item_of xs ys)) (one_right x (map item_of xs) (map item_of ys) j)

      by-kind : (b : Bool) → is_sort x ≡ b → IsDescribed (all_sorts types ++ all_operations types) x
      by-kind true e = from-front (all_sorts types) (all_operations types) (sort-covered types h.acyclic h.settled k x i e)
      by-kind false e = from-rest (all_sorts types) (all_operations types) (operation-covered types h.acyclic h.settled k x i e)

  pub actualized-has : (k : ℕ) (place : Place) (name : Token) (p : Place) (source : Token) (actuals : Vec Token Global) (pairs : Pairs) (x : Item) →
      slice_get types k ≡ Some (Definition place name (Actualized p source actuals pairs)) → IsOneOf x (items_at types (number_of types source)) →
      IsOneOf (image_in (formals_of types (contents types) source) (renaming_of pairs) x) (items_at types k)
  actualized-has k place name p source actuals pairs x at i =
      made-has k place name (Actualized p source actuals pairs) (image_in formals (renaming_of pairs) x) at (by-test (is_in formals x) refl (from_map item_of (all_sorts types ++ all_operations types) x (in-both x (number_of types source) i)))
    where
      formals : List Item
      formals = formals_of types (contents types) source

      actual : List Item
      actual = flat_map (items_of types (contents types)) actuals.items

      others : List Item
      others = kept (content_of types (contents types) source) (renaming_of pairs)

      unless : (b : Bool) → b ≡ false → IsOneOf (kept_image formals (renaming_of pairs) x) (cond b [] (kept_image formals (renaming_of pairs) x ∷ []))
      unless true e = absurd (cc)
      unless false e = inl refl

      by-test : (b : Bool) → is_in formals x ≡ b → (d : Described) × IsOneOf d (all_sorts types ++ all_operations types) × (x ≡ d.item) →
          IsOneOf (if b then image (renaming_of pairs) x else kept_image formals (renaming_of pairs) x) (actual ++ others)
      by-test true e (d, j, is) =
          one_left (image (renaming_of pairs) x) actual others
          (subst (λ z. IsOneOf (image (renaming_of pairs) z) actual) (sym is) (formal-there k place name p source actuals pairs d at j (sym (ap (is_in formals) is) ∙ e)))
      by-test false e d =
          one_right (kept_image formals (renaming_of pairs) x) actual others
          (one_flat_map (kept_one formals (renaming_of pairs)) x (items_of types (contents types) source) (kept_image formals (renaming_of pairs) x) i (unless (is_in formals x) e))

  -- the image of a sort is the sort of the new name

  pub image-in-sorts : (replaced : List Item) (renaming : Renaming) (x : Item) → (image_in replaced renaming x).sorts ≡ map (sort_image renaming.sorts) x.sorts
  image-in-sorts replaced renaming x = by-test (is_in replaced x)
    where
      by-test : (b : Bool) → (if b then image renaming x else kept_image replaced renaming x).sorts ≡ map (sort_image renaming.sorts) x.sorts
      by-test true = image-sorts renaming x
      by-test false = image-sorts (kept_renaming replaced renaming x) x ∙ ap (λ z. map (sort_image z) x.sorts) (kept-sorts replaced renaming x)

  pub image-in-sort : (replaced : List Item) (renaming : Renaming) (name : List ℕ) → NamesOperations renaming.operations → image_in replaced renaming (sort_item name) ≡ sort_item (sort_image renaming.sorts name)
  image-in-sort replaced renaming name names = by-test (is_in replaced (sort_item name))
    where
      by-test : (b : Bool) → (if b then image renaming (sort_item name) else kept_image replaced renaming (sort_item name)) ≡ sort_item (sort_image renaming.sorts name)
      by-test true = image-of-sort renaming name names
      by-test false =
          image-of-sort (kept_renaming replaced renaming (sort_item name)) name (kept-names replaced renaming (sort_item name) names)
          ∙ ap (λ z. sort_item (sort_image z name)) (kept-sorts replaced renaming (sort_item name))

  -- each type has the sorts of its items
  abbrev HasSorts : ℕ → Type 0
  HasSorts k = (x : Item) → IsOneOf x (items_at types k) → (s : List ℕ) → IsOneOf s x.sorts → IsOneOf (sort_item s) (items_at types k)

  operation-sort : (k : ℕ) (d : TypeDef) (ds : List OperationDecl) → slice_get types k ≡ Some d → ((t : Token) → IsOneOf t (flat_map operation_sorts ds) → IsOneOf t (sorts_in d)) →
      (e : Described) → IsOneOf e (flat_map declared_operations ds) → (s : List ℕ) → IsOneOf s e.item.sorts → IsOneOf (sort_item s) (items_at types k)
  operation-sort k d ds at all e i s j = by-declaration (from_flat_map declared_operations ds e i)
    where
      by-token : (o : OperationDecl) → IsOneOf o ds → (t : Token) × IsOneOf t (operation_sorts o) × (s ≡ small t) → IsOneOf (sort_item s) (items_at types k)
      by-token o m (t, named, is) = subst (λ z. IsOneOf (sort_item z) (items_at types k)) (sym is) (named-sort k d t at (all t (one_flat_map operation_sorts o ds t m named)))

      by-name : (o : OperationDecl) → IsOneOf o ds → (n : DeclaredName) × IsOneOf n o.names.items × (e ≡ declared_operation o n) → IsOneOf (sort_item s) (items_at types k)
      by-name o m (n, named, is) =
          by-token o m (from_map small (operation_sorts o) s
          (subst (λ zs. IsOneOf s zs) (sym (map-append small (listed o.arguments) (o.result ∷ []))) (subst (λ z. IsOneOf s z.item.sorts) is j)))

      by-declaration : (o : OperationDecl) × IsOneOf o ds × IsOneOf e (declared_operations o) → IsOneOf (sort_item s) (items_at types k)
      by-declaration (o, m, named) = by-name o m (from_map (declared_operation o) o.names.items e named)

  sort-sorts : (ts : List Token) (e : Described) → IsOneOf e (map declared_sort ts) → (s : List ℕ) → IsOneOf s e.item.sorts → ⊥
  sort-sorts ts e i s j = by-token (from_map declared_sort ts e i)
    where
      by-token : (t : Token) × IsOneOf t ts × (e ≡ declared_sort t) → ⊥
      by-token (t, named, is) = subst (λ z. IsOneOf s z.item.sorts) is j

  own-sort : (k : ℕ) (place : Place) (name : Token) (p : Place) (imports : Option (Vec Token Global)) (formals : Formals) (sorts : Option SortPart) (operations : Option OperationPart) (equations : Option EquationPart) →
      slice_get types k ≡ Some (Definition place name (Declared p imports formals sorts operations equations)) →
      (e : Described) → IsOneOf e (own_items formals sorts operations) → (s : List ℕ) → IsOneOf s e.item.sorts → IsOneOf (sort_item s) (items_at types k)
  own-sort k place name p imports formals sorts operations equations at e i s j =
      elim (one_parts e (formal_sorts formals ++ map declared_sort (part_sort_names sorts) ++ formal_operations formals) (flat_map declared_operations (part_operations operations)) i) [
        | inl a ↦ elim (one_parts e (formal_sorts formals ++ map declared_sort (part_sort_names sorts)) (formal_operations formals) a) [
          | inl b ↦ elim (one_parts e (formal_sorts formals) (map declared_sort (part_sort_names sorts)) b) [
            | inl c ↦ absurd (sort-sorts (sort_names formals.sorts) e c s j)
            | inr c ↦ absurd (sort-sorts (part_sort_names sorts) e c s j)
          ]
          | inr b ↦ operation-sort k d (listed formals.operations) at (λ t m. one_left t (flat_map operation_sorts (listed formals.operations)) (flat_map operation_sorts (part_operations operations)) m) e b s j
        ]
        | inr a ↦ operation-sort k d (part_operations operations) at (λ t m. one_right t (flat_map operation_sorts (listed formals.operations)) (flat_map operation_sorts (part_operations operations)) m) e a s j
      ]
    where
      d : TypeDef
      d = Definition place name (Declared p imports formals sorts operations equations)

  -- of the sorts of an image in a copy
  copied-sort : (k s : ℕ) (replaced : List Item) (renaming : Renaming) → NamesOperations renaming.operations → HasSorts s →
      ((y : Item) → IsOneOf y (items_at types s) → IsOneOf (image_in replaced renaming y) (items_at types k)) →
      (y : Item) → IsOneOf y (items_at types s) → (name : List ℕ) → IsOneOf name (image_in replaced renaming y).sorts → IsOneOf (sort_item name) (items_at types k)
  copied-sort k s replaced renaming names has images y i name j = by-sort (from_map (sort_image renaming.sorts) y.sorts name (subst (λ zs. IsOneOf name zs) (image-in-sorts replaced renaming y) j))
    where
      by-sort : (old : List ℕ) × IsOneOf old y.sorts × (name ≡ sort_image renaming.sorts old) → IsOneOf (sort_item name) (items_at types k)
      by-sort (old, m, is) =
          subst (λ z. IsOneOf z (items_at types k)) (image-in-sort replaced renaming old names ∙ ap sort_item (sym is)) (images (sort_item old) (has y i old m))

  used-sort : (n k : ℕ) (d : TypeDef) (ts : List Token) → ((j : ℕ) → IsShort (graph types) n j → HasSorts j) → IsShort (graph types) (suc n) k → slice_get types k ≡ Some d →
      ((t : Token) → IsOneOf t ts → IsOneOf (number_of types t) (links types d)) → ((t : Token) (x : Item) → IsOneOf t ts → IsOneOf x (items_at types (number_of types t)) → IsOneOf x (items_at types k)) →
      (x : Item) → IsOneOf x (flat_map (items_of types (contents types)) ts) → (s : List ℕ) → IsOneOf s x.sorts → IsOneOf (sort_item s) (items_at types k)
  used-sort n k d ts before short at used has x i s j = by-name (from_flat_map (items_of types (contents types)) ts x i)
    where
      by-name : (t : Token) × IsOneOf t ts × IsOneOf x (items_of types (contents types) t) → IsOneOf (sort_item s) (items_at types k)
      by-name (t, m, o) =
          has t (sort_item s) m (before (number_of types t) (short-next (graph types) n k (number_of types t) short (linked types k d (number_of types t) at (used t m))) x o s j)

  by-body : (n k : ℕ) (place : Place) (name : Token) (body : TypeBody) → ((j : ℕ) → IsShort (graph types) n j → HasSorts j) → IsShort (graph types) (suc n) k → slice_get types k ≡ Some (Definition place name body) →
      (x : Item) → IsOneOf x (items_by types (contents types) body) → (s : List ℕ) → IsOneOf s x.sorts → IsOneOf (sort_item s) (items_at types k)
  by-body n k place name (Declared p imports formals sorts operations equations) before short at x i s j =
      elim (one_parts x (flat_map (items_of types (contents types)) (listed imports)) (map item_of (own_items formals sorts operations)) i) [
        | inl a ↦ used-sort n k (Definition place name (Declared p imports formals sorts operations equations)) (listed imports) before short at (λ t m. one_map (number_of types) t (listed imports) m)
            (λ t y m o. used-has k place name p imports formals sorts operations equations t y at m o) x a s j
        | inr a ↦ by-description (from_map item_of (own_items formals sorts operations) x a)
      ]
    where
      by-description : (e : Described) × IsOneOf e (own_items formals sorts operations) × (x ≡ e.item) → IsOneOf (sort_item s) (items_at types k)
      by-description (e, m, is) = own-sort k place name p imports formals sorts operations equations at e m s (subst (λ z. IsOneOf s z.sorts) is j)
  by-body n k place name (Renamed p source pairs) before short at x i s j = by-item (from_map (image (renaming_of pairs)) (items_of types (contents types) source) x i)
    where
      by-item : (y : Item) × IsOneOf y (items_of types (contents types) source) × (x ≡ image (renaming_of pairs) y) → IsOneOf (sort_item s) (items_at types k)
      by-item (y, m, is) =
          copied-sort k (number_of types source) [] (renaming_of pairs) (renaming-names pairs)
          (before (number_of types source) (short-next (graph types) n k (number_of types source) short (linked types k (Definition place name (Renamed p source pairs)) (number_of types source) at (inl refl))))
          (λ z o. renamed-has k place name p source pairs z at o) y m s (subst (λ z. IsOneOf s z.sorts) (is ∙ sym (none-replaced (renaming_of pairs) y)) j)
  by-body n k place name (Actualized p source actuals pairs) before short at x i s j =
      elim (one_parts x (flat_map (items_of types (contents types)) actuals.items) (kept (content_of types (contents types) source) (renaming_of pairs)) i) [
        | inl a ↦ used-sort n k (Definition place name (Actualized p source actuals pairs)) actuals.items before short at (λ t m. inr (one_map (number_of types) t actuals.items m))
            (λ t y m o. actual-has k place name p source actuals pairs t y at m o) x a s j
        | inr a ↦ by-item (from_flat_map (kept_one formals (renaming_of pairs)) (items_of types (contents types) source) x a)
      ]
    where
      formals : List Item
      formals = formals_of types (contents types) source

      as-image : (y : Item) (b : Bool) → IsOneOf x (cond b [] (kept_image formals (renaming_of pairs) y ∷ [])) → x ≡ (if b then image (renaming_of pairs) y else kept_image formals (renaming_of pairs) y)
      as-image y true o = absurd o
      as-image y false (inl e) = e
      as-image y false (inr e) = absurd e

      by-item : (y : Item) × IsOneOf y (items_of types (contents types) source) × IsOneOf x (kept_one formals (renaming_of pairs) y) → IsOneOf (sort_item s) (items_at types k)
      by-item (y, m, o) =
          copied-sort k (number_of types source) formals (renaming_of pairs) (renaming-names pairs)
          (before (number_of types source) (short-next (graph types) n k (number_of types source) short (linked types k (Definition place name (Actualized p source actuals pairs)) (number_of types source) at (inl refl))))
          (λ z q. actualized-has k place name p source actuals pairs z at q) y m s (subst (λ z. IsOneOf s z.sorts) (as-image y (is_in formals y) o) j)

  all-have-sorts : (n k : ℕ) → IsShort (graph types) n k → HasSorts k
  all-have-sorts zero k short x i s j = by-content (content-at types h.acyclic h.settled k)
    where
      by-content : IsMadeAt no_content (made_from types (contents types)) types (contents types) k → IsOneOf (sort_item s) (items_at types k)
      by-content (made d at is) = absurd (none-short (graph types) k (omega (arith, slice_get_within types k d at, graph-length types)) short)
      by-content (past at is) = absurd (subst (λ c. IsOneOf x c.items) is i)
  all-have-sorts (suc n) k short x i s j = by-content (content-at types h.acyclic h.settled k) (all-have-sorts n)
    where
      by-definition : (d : TypeDef) → slice_get types k ≡ Some d → ((j : ℕ) → IsShort (graph types) n j → HasSorts j) → IsOneOf x (made_from types (contents types) d).items → IsOneOf (sort_item s) (items_at types k)
      by-definition (Library place names) at before m = absurd m
      by-definition (Definition place name body) at before m = by-body n k place name body before short at x (union-from (items_by types (contents types) body) x m) s j

      by-content : IsMadeAt no_content (made_from types (contents types)) types (contents types) k → ((j : ℕ) → IsShort (graph types) n j → HasSorts j) → IsOneOf (sort_item s) (items_at types k)
      by-content (made d at is) before = by-definition d at before (subst (λ c. IsOneOf x c.items) is i)
      by-content (past at is) before = absurd (subst (λ c. IsOneOf x c.items) is i)

  -- each type has the sorts of its items
  pub closed : (k : ℕ) (x : Item) → IsOneOf x (items_at types k) → (s : List ℕ) → IsOneOf s x.sorts → IsOneOf (sort_item s) (items_at types k)
  closed k = all-have-sorts (length (graph types)) k (all-short (graph types) h.acyclic k)
