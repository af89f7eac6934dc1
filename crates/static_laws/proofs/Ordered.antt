-- What types bring in, in order.
use Rattle.std.proofs.Common.{ℕ, ◌≡◌, ◌<◌, ◌⊎◌, inl, inr, refl, sym, subst, List, [], ◌∷◌, length, Bool, true, false, cond, nat_eq, arith}
use Rattle.std.specs.List.{filter, flat_map, list_any, range_with_len, slice_index_or}
use Rattle.std.proofs.lemmas.Bool.{cases_lt}
use Rattle.spec_core.specs.Lists.{IsOneOf}
use Rattle.spec_core.proofs.Members.{from_flat_map, one_flat_map, one_filter, one_in_range, from_filter, from_map}
use Rattle.type_contents.specs.Images.{Renaming, image, described_image}
use Rattle.type_contents.specs.Items.{Item, Described, item_of, is_in, is_same_item}
use Rattle.type_contents.specs.Numbering.{brought_by, in_order, new_image}
use Rattle.type_contents.proofs.Keys.{one_item}
use Rattle.type_contents.proofs.Settled.{past_all}
use Rattle.static_laws.proofs.Items.{IsDescribed, described, in-firsts, firsts-from, among-is}

-- a list that has something is one of the table
pub some-within : {A : Type 0} (table : List (List A)) (k : ℕ) (x : A) → IsOneOf x (slice_index_or table k []) → k < length table
some-within table k x h = elim (cases_lt k (length table)) [
  | inl w ↦ w
  | inr p ↦ absurd (subst (λ xs. IsOneOf x xs) (past_all table k [] p) h)
]

if-passed : {A : Type 0} (b : Bool) (x : A) (xs : List A) → b ≡ true → IsOneOf x xs → IsOneOf x (cond b xs [])
if-passed true x xs e h = h
if-passed false x xs e h = absurd (cc)

passed-from : {A : Type 0} (b : Bool) (x : A) (xs : List A) → IsOneOf x (cond b xs []) → IsOneOf x xs
passed-from true x xs h = h
passed-from false x xs h = absurd h

-- an item that one of these types brings in, and that the content has, is there in order
pub in-ordered : (count : ℕ) (table : List (List Described)) (among : List ℕ) (content : List Item) (k : ℕ) (x : Item) → k < count → list_any (nat_eq k) among ≡ true → IsOneOf x content →
    IsDescribed (slice_index_or table k []) x → IsDescribed (in_order count table among content) x
in-ordered count table among content k x within named has h = in-firsts (flat_map (brought_by table among content) (range_with_len 0 count)) x (by-description (from_map item_of (slice_index_or table k []) x h))
  where
    by-description : (d : Described) × IsOneOf d (slice_index_or table k []) × (x ≡ d.item) → IsDescribed (flat_map (brought_by table among content) (range_with_len 0 count)) x
    by-description (d, i, is) =
        subst (λ z. IsDescribed (flat_map (brought_by table among content) (range_with_len 0 count)) z) (sym is)
        (described (flat_map (brought_by table among content) (range_with_len 0 count)) d
        (one_flat_map (brought_by table among content) k (range_with_len 0 count) d (one_in_range count 0 k (omega arith) (omega (arith, within)))
        (if-passed (list_any (nat_eq k) among) d (filter (λ e. is_in content e.item) (slice_index_or table k [])) named
        (one_filter (λ e. is_in content e.item) d (slice_index_or table k []) i (among-is content d.item (subst (λ z. IsOneOf z content) is has))))))

-- what is there in order, a type brings in
pub ordered-from : (count : ℕ) (table : List (List Described)) (among : List ℕ) (content : List Item) (d : Described) → IsOneOf d (in_order count table among content) →
    (k : ℕ) × IsOneOf d (slice_index_or table k []) × (is_in content d.item ≡ true)
ordered-from count table among content d h = by-type (from_flat_map (brought_by table among content) (range_with_len 0 count) d (firsts-from (flat_map (brought_by table among content) (range_with_len 0 count)) d h))
  where
    by-type : (k : ℕ) × IsOneOf k (range_with_len 0 count) × IsOneOf d (brought_by table among content k) → (k : ℕ) × IsOneOf d (slice_index_or table k []) × (is_in content d.item ≡ true)
    by-type (k, within, i) =
        let r = from_filter (λ e. is_in content e.item) d (slice_index_or table k []) (passed-from (list_any (nat_eq k) among) d (filter (λ e. is_in content e.item) (slice_index_or table k [])) i) in
        (k, r.0, r.1)

-- the image of what is there is itself, or is brought in
pub newly-copied : (f : Described → List Described) (all : List Described) (d : Described) (renaming : Renaming) → IsOneOf d all → f d ≡ new_image (described_image renaming) d →
    (image renaming d.item ≡ d.item) ⊎ IsDescribed (flat_map f all) (image renaming d.item)
newly-copied f all d renaming h is = by-test (is_same_item (image renaming d.item) d.item) refl
  where
    unless : (b : Bool) → b ≡ false → IsOneOf (described_image renaming d) (cond b [] (described_image renaming d ∷ []))
    unless true e = absurd (cc)
    unless false e = inl refl

    by-test : (b : Bool) → is_same_item (image renaming d.item) d.item ≡ b → (image renaming d.item ≡ d.item) ⊎ IsDescribed (flat_map f all) (image renaming d.item)
    by-test true e = inl (one_item (image renaming d.item) d.item e)
    by-test false e =
        inr (described (flat_map f all) (described_image renaming d)
        (one_flat_map f d all (described_image renaming d) h (subst (λ zs. IsOneOf (described_image renaming d) zs) (sym is) (unless (is_same_item (image renaming d.item) d.item) e))))

-- what a copy brings in is an image
pub copied-from : (copy : Described → Described) (d e : Described) → IsOneOf e (new_image copy d) → e ≡ copy d
copied-from copy d e h = by-test (is_same_item (copy d).item d.item) h
  where
    by-test : (b : Bool) → IsOneOf e (cond b [] (copy d ∷ [])) → e ≡ copy d
    by-test true h = absurd h
    by-test false (inl q) = q
    by-test false (inr q) = absurd q
