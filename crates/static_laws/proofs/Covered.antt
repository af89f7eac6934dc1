-- Where no type is made from itself, each item of a type is brought in by a type, and so has a number.
use Rattle.std.proofs.Common.{ℕ, zero, suc, ◌≡◌, ◌∙◌, ◌<◌, ◌≤◌, ◌⊎◌, inl, inr, refl, sym, ap, subst, List, [], ◌∷◌, length, map, Bool, true, false, not, cond, nat_eq, Some, arith}
use Rattle.std.specs.List.{Contains, flat_map, list_any, slice_get, slice_index_or}
use Rattle.std.proofs.lemmas.Bool.{eqb-true, eq-eqb}
use Rattle.std.proofs.lemmas.List.{length-map}
use Rattle.std.proofs.lemmas.Option.{none-some, slice_get_within}
use Rattle.lotos_ast.specs.declared.place.Place.{Place}
use Rattle.lotos_ast.specs.declared.token.Token.{Token}
use Rattle.lotos_ast.specs.declared.types.TypeBody.{TypeBody}
use Rattle.lotos_ast.specs.declared.types.TypeBody.TheVariants.{Declared, Renamed, Actualized}
use Rattle.lotos_ast.specs.declared.types.TypeDef.{TypeDef}
use Rattle.lotos_ast.specs.declared.types.TypeDef.TheVariants.{Library, Definition}
use Rattle.spec_core.specs.Lists.{IsOneOf}
use Rattle.spec_core.proofs.Members.{contains_one, one_contained, from_flat_map, one_parts, one_left, one_flat_map, one_map, one_right, from_map}
use Rattle.type_cycles.specs.MadeFrom.{IsMadeFrom, directly, through, AreAcyclic}
use Rattle.static_call_cycles.proofs.Walks.{linked_within}
use Rattle.type_contents.specs.Contents.{no_content, contents, made_from, content_of, items_by, items_of, formals_of, kept_one, kept}
use Rattle.type_contents.specs.Images.{Renaming, renaming_of, image, described_image, kept_renaming, kept_image}
use Rattle.type_contents.specs.Items.{Item, Described, item_of, is_in, is_sort}
use Rattle.type_contents.specs.Lists.{listed, each_once}
use Rattle.type_contents.specs.Numbering.{parts_from, parts, itself_and_parts, source_in_order, new_image, new_kept, brings, brought, all_items, all_sorts, all_operations}
use Rattle.type_contents.specs.Own.{own_items}
use Rattle.type_contents.specs.Rounds.{rounds}
use Rattle.type_contents.specs.Uses.{number_of, links}
use Rattle.type_contents.proofs.Settled.{rounds_length}
use Rattle.static_laws.proofs.Items.{IsDescribed, described, in-firsts, in-passing, union-from}
use Rattle.static_laws.proofs.Membership.{in-any, in-once}
use Rattle.static_laws.proofs.Ordered.{some-within, in-ordered, newly-copied}
use Rattle.static_laws.proofs.Walking.{IsShort, all-short, short-next, none-short, IsMadeAt, made, past, made-at, image-at}

-- of each type those of which it is made, as they are named
abbrev pub graph : List TypeDef → List (List ℕ)
graph types = map (links types) types

pub graph-length : (types : List TypeDef) → length (graph types) ≡ length types
graph-length types = length-map types (links types)

-- a type that is named is one of which the type is made
pub linked : (types : List TypeDef) (k : ℕ) (d : TypeDef) (j : ℕ) → slice_get types k ≡ Some d → IsOneOf j (links types d) → Contains (slice_index_or (graph types) k []) j
linked types k d j at h = subst (λ zs. Contains zs j) (sym (image-at [] (links types) types k d at)) (contains_one j (links types d) h)

-- what a type has
abbrev pub items_at : List TypeDef → ℕ → List Item
items_at types k = (slice_index_or (contents types) k no_content).items

-- a type itself, or one of which it is made
abbrev IsItselfOrPart : List TypeDef → ℕ → ℕ → Type 0
IsItselfOrPart types k j = (j ≡ k) ⊎ IsMadeFrom (graph types) k j

part-of-part : (types : List TypeDef) (k j i : ℕ) → Contains (slice_index_or (graph types) k []) j → IsItselfOrPart types j i → IsItselfOrPart types k i
part-of-part types k j i c (inl e) = inr (directly (subst (λ z. Contains (slice_index_or (graph types) k []) z) (sym e) c))
part-of-part types k j i c (inr m) = inr (through c m)

-- the parts of a type are all of which it is made

in-numbers-once : (ks : List ℕ) (j : ℕ) → IsOneOf j ks → IsOneOf j (each_once nat_eq ks)
in-numbers-once ks j h = by-same (in-once nat_eq (λ x. eq-eqb x x refl) ks j h)
  where
    by-same : (y : ℕ) × IsOneOf y (each_once nat_eq ks) × (nat_eq j y ≡ true) → IsOneOf j (each_once nat_eq ks)
    by-same (y, i, s) = subst (λ z. IsOneOf z (each_once nat_eq ks)) (sym (eqb-true j y s)) i

-- the parts by rounds
abbrev pub parts_within : List TypeDef → ℕ → List (List ℕ)
parts_within types m = rounds [] (parts_from types) types m

-- one of which it is made, or a part of that
first-part : (types : List TypeDef) (m k j i : ℕ) → Contains (slice_index_or (graph types) k []) j → (i ≡ j) ⊎ IsOneOf i (slice_index_or (parts_within types m) j []) →
    IsOneOf i (slice_index_or (parts_within types (suc m)) k [])
first-part types m k j i c h = by-type (made-at [] (parts_from types (parts_within types m)) types (parts_within types (suc m)) refl k)
  where
    chosen : (i ≡ j) ⊎ IsOneOf i (slice_index_or (parts_within types m) j []) → IsOneOf i (j ∷ slice_index_or (parts_within types m) j [])
    chosen (inl e) = inl e
    chosen (inr more) = inr more

    by-type : IsMadeAt [] (parts_from types (parts_within types m)) types (parts_within types (suc m)) k → IsOneOf i (slice_index_or (parts_within types (suc m)) k [])
    by-type (made d at is) =
        subst (λ zs. IsOneOf i zs) (sym is)
        (in-numbers-once (flat_map (λ z. z ∷ slice_index_or (parts_within types m) z []) (links types d)) i
        (one_flat_map (λ z. z ∷ slice_index_or (parts_within types m) z []) j (links types d) i
        (one_contained j (links types d) (subst (λ zs. Contains zs j) (image-at [] (links types) types k d at) c)) (chosen h)))
    by-type (past at is) = absurd (no-links (made-at [] (links types) types (graph types) refl k))
      where
        none : (z : ℕ) → Contains [] z → ⊥
        none z (n, within, there) = omega (arith, within)

        no-links : IsMadeAt [] (links types) types (graph types) k → ⊥
        no-links (made d there q) = none-some d (sym at ∙ there)
        no-links (past there q) = none j (subst (λ zs. Contains zs j) q c)

parts-reached : (types : List TypeDef) (n k m : ℕ) → IsShort (graph types) n k → n ≤ m → (j : ℕ) → IsMadeFrom (graph types) k j → IsOneOf j (slice_index_or (parts_within types m) k [])
parts-reached types zero k m short le j h = absurd (from-made h (λ within. none-short (graph types) k within short))
  where
    from-made : {j : ℕ} → IsMadeFrom (graph types) k j → (k < length (graph types) → ⊥) → ⊥
    from-made (directly {j = j} c) none = none (linked_within (graph types) k j c)
    from-made (through {j = j} c r) none = none (linked_within (graph types) k j c)
parts-reached types (suc n) k zero short le j h = absurd (omega (arith, le))
parts-reached types (suc n) k (suc m) short le j (directly c) = first-part types m k j j c (inl refl)
parts-reached types (suc n) k (suc m) short le j (through {j = i} c r) =
    first-part types m k i j c (inr (parts-reached types n i m (short-next (graph types) n k i short c) (omega (arith, le)) j r))

module _ (types : List TypeDef) (acyclic : AreAcyclic (graph types)) (settled : map (made_from types (contents types)) types ≡ contents types) where
  -- the first is the second, or one of its parts
  is-part : (s j : ℕ) → IsItselfOrPart types s j → list_any (nat_eq j) (s ∷ slice_index_or (parts types) s []) ≡ true
  is-part s j (inl e) = in-any (nat_eq j) s (s ∷ slice_index_or (parts types) s []) (inl refl) (eq-eqb j s e)
  is-part s j (inr m) =
      in-any (nat_eq j) j (s ∷ slice_index_or (parts types) s [])
      (inr (parts-reached types (length (graph types)) s (length types) (all-short (graph types) acyclic s) (omega (arith, graph-length types)) j m)) (eq-eqb j j refl)

  -- what a type has is what it is made from
  pub content-at : (k : ℕ) → IsMadeAt no_content (made_from types (contents types)) types (contents types) k
  content-at k = made-at no_content (made_from types (contents types)) types (contents types) settled k

  -- what types bring in, by rounds
  abbrev brought_within : ℕ → List (List Described)
  brought_within m = rounds [] (brings types) types m

  -- an item that a type itself brings in, or one of its parts
  record IsBrought (k m : ℕ) (x : Item) : Type 0 where
    by : ℕ
    part : IsItselfOrPart types k by
    there : IsDescribed (slice_index_or (brought_within m) by []) x

  brought-through : (k j m : ℕ) (x : Item) → Contains (slice_index_or (graph types) k []) j → IsBrought j m x → IsBrought k m x
  brought-through k j m x c b = record { by = b.by; part = part-of-part types k j b.by c b.part; there = b.there }

  brought-here : (k m : ℕ) (d : TypeDef) (x : Item) → slice_get types k ≡ Some d → IsDescribed (brings types (brought_within m) d) x → IsBrought k (suc m) x
  brought-here k m d x at h = record {
    by = k;
    part = inl refl;
    there = subst (λ zs. IsDescribed zs x) (sym (image-at [] (brings types (brought_within m)) types k d at)) h;
  }

  -- what a source has stands in its order
  source-has : (source : Token) (m : ℕ) (y : Item) → IsOneOf y (items_at types (number_of types source)) → IsBrought (number_of types source) m y →
      IsDescribed (source_in_order types (brought_within m) source) y
  source-has source m y h b =
      in-ordered (length types) (brought_within m) (itself_and_parts types source) (items_of types (contents types) source) b.by y
      (within (from_map item_of (slice_index_or (brought_within m) b.by []) y b.there))
      (is-part (number_of types source) b.by b.part) h b.there
    where
      within : (d : Described) × IsOneOf d (slice_index_or (brought_within m) b.by []) × (y ≡ d.item) → b.by < length types
      within (d, i, is) = omega (arith, some-within (brought_within m) b.by d i, rounds_length [] (brings types) types m)

  -- the image of an item of the source: brought in by the copy, or the item itself
  copied-there : (k m : ℕ) (source : Token) (f : Described → List Described) (d : TypeDef) (news : Item → Renaming) (y : Item) →
      slice_get types k ≡ Some d → brings types (brought_within m) d ≡ flat_map f (source_in_order types (brought_within m) source) →
      ((e : Described) → e.item ≡ y → f e ≡ new_image (described_image (news e.item)) e) →
      IsDescribed (source_in_order types (brought_within m) source) y → (image (news y) y ≡ y) ⊎ IsBrought k (suc m) (image (news y) y)
  copied-there k m source f d news y at is copies h = by-description (from_map item_of (source_in_order types (brought_within m) source) y h)
    where
      by-image : (e : Described) → y ≡ e.item → (image (news e.item) e.item ≡ e.item) ⊎ IsDescribed (flat_map f (source_in_order types (brought_within m) source)) (image (news e.item) e.item) →
          (image (news y) y ≡ y) ⊎ IsBrought k (suc m) (image (news y) y)
      by-image e same (inl q) = inl (subst (λ z. image (news z) z ≡ z) (sym same) q)
      by-image e same (inr q) =
          inr (brought-here k m d (image (news y) y) at
          (subst (λ zs. IsDescribed zs (image (news y) y)) (sym is) (subst (λ z. IsDescribed (flat_map f (source_in_order types (brought_within m) source)) (image (news z) z)) (sym same) q)))

      by-description : (e : Described) × IsOneOf e (source_in_order types (brought_within m) source) × (y ≡ e.item) → (image (news y) y ≡ y) ⊎ IsBrought k (suc m) (image (news y) y)
      by-description (e, i, same) = by-image e same (newly-copied f (source_in_order types (brought_within m) source) e (news e.item) i (copies e (sym same)))

  unless-formal : (formals : List Item) (renaming : Renaming) (x y : Item) → IsOneOf x (kept_one formals renaming y) → (is_in formals y ≡ false) × (x ≡ kept_image formals renaming y)
  unless-formal formals renaming x y h = by-test (is_in formals y) h
    where
      by-test : (b : Bool) → IsOneOf x (cond b [] (kept_image formals renaming y ∷ [])) → (b ≡ false) × (x ≡ kept_image formals renaming y)
      by-test true h = absurd h
      by-test false (inl e) = (refl, e)
      by-test false (inr e) = absurd e

  not-replaced : (formals : List Item) (renaming : Renaming) (y : Item) → is_in formals y ≡ false → (e : Described) → e.item ≡ y →
      new_kept formals renaming e ≡ new_image (described_image (kept_renaming formals renaming e.item)) e
  not-replaced formals renaming y none e is = by-test (is_in formals e.item) (ap (is_in formals) is ∙ none)
    where
      by-test : (b : Bool) → b ≡ false → cond b [] (new_image (described_image (kept_renaming formals renaming e.item)) e) ≡ new_image (described_image (kept_renaming formals renaming e.item)) e
      by-test true q = absurd (cc)
      by-test false q = refl

  -- of the types of fewer steps all that they have is brought in
  abbrev AreBrought : ℕ → Type 0
  AreBrought n = (k m : ℕ) → IsShort (graph types) n k → n ≤ m → (x : Item) → IsOneOf x (items_at types k) → IsBrought k m x

  used-brought : (n k m : ℕ) (d : TypeDef) (t : Token) (x : Item) → AreBrought n → IsShort (graph types) (suc n) k → suc n ≤ m → slice_get types k ≡ Some d →
      IsOneOf (number_of types t) (links types d) → IsOneOf x (items_at types (number_of types t)) → IsBrought k m x
  used-brought n k m d t x before short le at used h =
      let c = linked types k d (number_of types t) at used in
      brought-through k (number_of types t) m x c (before (number_of types t) m (short-next (graph types) n k (number_of types t) short c) (omega (arith, le)) x h)

  some-used : (n k m : ℕ) (d : TypeDef) (ts : List Token) (x : Item) → AreBrought n → IsShort (graph types) (suc n) k → suc n ≤ m → slice_get types k ≡ Some d →
      ((t : Token) → IsOneOf t ts → IsOneOf (number_of types t) (links types d)) → IsOneOf x (flat_map (items_of types (contents types)) ts) → IsBrought k m x
  some-used n k m d ts x before short le at used h = by-name (from_flat_map (items_of types (contents types)) ts x h)
    where
      by-name : (t : Token) × IsOneOf t ts × IsOneOf x (items_of types (contents types) t) → IsBrought k m x
      by-name (t, i, j) = used-brought n k m d t x before short le at (used t i) j

  -- the image of an item of a source
  image-brought : (n k m : ℕ) (source : Token) (f : Described → List Described) (d : TypeDef) (news : Item → Renaming) (x y : Item) → AreBrought n → IsShort (graph types) (suc n) k → n ≤ m →
      slice_get types k ≡ Some d → IsOneOf (number_of types source) (links types d) →
      brings types (brought_within m) d ≡ flat_map f (source_in_order types (brought_within m) source) →
      ((e : Described) → e.item ≡ y → f e ≡ new_image (described_image (news e.item)) e) →
      IsOneOf y (items_at types (number_of types source)) → x ≡ image (news y) y → IsBrought k (suc m) x
  image-brought n k m source f d news x y before short le at used is copies h same =
      let s = number_of types source in
      let c = linked types k d s at used in
      by-image (copied-there k m source f d news y at is copies (source-has source m y h (before s m (short-next (graph types) n k s short c) le y h)))
    where
      by-image : (image (news y) y ≡ y) ⊎ IsBrought k (suc m) (image (news y) y) → IsBrought k (suc m) x
      by-image (inl q) = subst (λ z. IsBrought k (suc m) z) (sym (same ∙ q)) (used-brought n k (suc m) d source y before short (omega (arith, le)) at used h)
      by-image (inr b) = subst (λ z. IsBrought k (suc m) z) (sym same) b

  by-body : (n k m : ℕ) (place : Place) (name : Token) (body : TypeBody) (x : Item) → AreBrought n → IsShort (graph types) (suc n) k → n ≤ m →
      slice_get types k ≡ Some (Definition place name body) → IsOneOf x (items_by types (contents types) body) → IsBrought k (suc m) x
  by-body n k m place name (Declared p imports formals sorts operations equations) x before short le at h =
      elim (one_parts x (flat_map (items_of types (contents types)) (listed imports)) (map item_of (own_items formals sorts operations)) h) [
        | inl i ↦ some-used n k (suc m) (Definition place name (Declared p imports formals sorts operations equations)) (listed imports) x before short (omega (arith, le)) at (λ t. one_map (number_of types) t (listed imports)) i
        | inr i ↦ brought-here k m (Definition place name (Declared p imports formals sorts operations equations)) x at i
      ]
  by-body n k m place name (Renamed p source pairs) x before short le at h = by-item (from_map (image (renaming_of pairs)) (items_of types (contents types) source) x h)
    where
      by-item : (y : Item) × IsOneOf y (items_of types (contents types) source) × (x ≡ image (renaming_of pairs) y) → IsBrought k (suc m) x
      by-item (y, i, is) =
          image-brought n k m source (new_image (described_image (renaming_of pairs))) (Definition place name (Renamed p source pairs)) (λ _. renaming_of pairs) x y before short le at (inl refl) refl (λ e _. refl) i is
  by-body n k m place name (Actualized p source actuals pairs) x before short le at h =
      elim (one_parts x (flat_map (items_of types (contents types)) actuals.items) (kept (content_of types (contents types) source) (renaming_of pairs)) h) [
        | inl i ↦ some-used n k (suc m) (Definition place name (Actualized p source actuals pairs)) actuals.items x before short (omega (arith, le)) at (λ t g. inr (one_map (number_of types) t actuals.items g)) i
        | inr i ↦ by-item (from_flat_map (kept_one formals (renaming_of pairs)) (items_of types (contents types) source) x i)
      ]
    where
      formals : List Item
      formals = formals_of types (contents types) source

      by-item : (y : Item) × IsOneOf y (items_of types (contents types) source) × IsOneOf x (kept_one formals (renaming_of pairs) y) → IsBrought k (suc m) x
      by-item (y, i, j) =
          let u : (is_in formals y ≡ false) × (x ≡ kept_image formals (renaming_of pairs) y) = unless-formal formals (renaming_of pairs) x y j in
          image-brought n k m source (new_kept formals (renaming_of pairs)) (Definition place name (Actualized p source actuals pairs)) (kept_renaming formals (renaming_of pairs)) x y before short le at (inl refl) refl
          (not-replaced formals (renaming_of pairs) y u.0) i u.1

  all-brought : (n : ℕ) → AreBrought n
  all-brought zero k m short le x h = by-type (content-at k)
    where
      by-type : IsMadeAt no_content (made_from types (contents types)) types (contents types) k → IsBrought k m x
      by-type (made d at is) = absurd (none-short (graph types) k (omega (arith, slice_get_within types k d at, graph-length types)) short)
      by-type (past at is) = absurd (subst (λ c. IsOneOf x c.items) is h)
  all-brought (suc n) k zero short le x h = absurd (omega (arith, le))
  all-brought (suc n) k (suc m) short le x h = by-type (content-at k) (all-brought n)
    where
      by-definition : (d : TypeDef) → slice_get types k ≡ Some d → AreBrought n → IsOneOf x (made_from types (contents types) d).items → IsBrought k (suc m) x
      by-definition (Library place names) at before i = absurd i
      by-definition (Definition place name body) at before i = by-body n k m place name body x before short (omega (arith, le)) at (union-from (items_by types (contents types) body) x i)

      by-type : IsMadeAt no_content (made_from types (contents types)) types (contents types) k → AreBrought n → IsBrought k (suc m) x
      by-type (made d at is) before = by-definition d at before (subst (λ c. IsOneOf x c.items) is h)
      by-type (past at is) before = absurd (subst (λ c. IsOneOf x c.items) is h)

  from-table : {A : Type 0} (table : List (List A)) (k : ℕ) (y : A) → IsOneOf y (slice_index_or table k []) → IsOneOf y (flat_map (λ all. all) table)
  from-table [] k y h = absurd h
  from-table (xs ∷ table) zero y h = one_left y xs (flat_map (λ all. all) table) h
  from-table (xs ∷ table) (suc k) y h = one_right y xs (flat_map (λ all. all) table) (from-table table k y h)

  -- each item of a type is among all items
  pub covered : (k : ℕ) (x : Item) → IsOneOf x (items_at types k) → IsDescribed (all_items types) x
  covered k x h =
      in-firsts (flat_map (λ all. all) (brought types)) x (by-brought (all-brought (length (graph types)) k (length types) (all-short (graph types) acyclic k) (omega (arith, graph-length types)) x h))
    where
      by-description : (j : ℕ) → (d : Described) × IsOneOf d (slice_index_or (brought types) j []) × (x ≡ d.item) → IsDescribed (flat_map (λ all. all) (brought types)) x
      by-description j (d, i, is) = subst (λ z. IsDescribed (flat_map (λ all. all) (brought types)) z) (sym is) (described (flat_map (λ all. all) (brought types)) d (from-table (brought types) j d i))

      by-brought : IsBrought k (length types) x → IsDescribed (flat_map (λ all. all) (brought types)) x
      by-brought b = by-description b.by (from_map item_of (slice_index_or (brought types) b.by []) x b.there)

  pub sort-covered : (k : ℕ) (x : Item) → IsOneOf x (items_at types k) → is_sort x ≡ true → IsDescribed (all_sorts types) x
  sort-covered k x h e = in-passing (λ d. is_sort d.item) (all_items types) x (covered k x h) (λ d is. ap is_sort is ∙ e)

  pub operation-covered : (k : ℕ) (x : Item) → IsOneOf x (items_at types k) → is_sort x ≡ false → IsDescribed (all_operations types) x
  operation-covered k x h e = in-passing (λ d. not (is_sort d.item)) (all_items types) x (covered k x h) (λ d is. ap (λ y. not (is_sort y)) is ∙ ap not e)
