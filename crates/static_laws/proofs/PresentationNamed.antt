-- The names in the data of types whose names are such as the grammar allows.
use Rattle.std.proofs.Common.{ℕ, ◌≡◌, ◌∙◌, ◌<◌, ◌+◌, ◌-◌, inl, inr, refl, sym, ap, subst, List, [], ◌∷◌, ◌++◌, length, map, take, drop, get_or, Bool, true, not, IsTrue, Some, arith}
use Rattle.std.specs.Prelude.{codes, if◌then◌else◌, ◌==◌}
use Rattle.std.specs.Char.{is_ascii_alphanumeric, to_ascii_lowercase}
use Rattle.std.specs.List.{filter, flat_map, slice_get, zip}
use Rattle.std.proofs.lemmas.Bool.{eq-eqb, not-true}
use Rattle.std.proofs.lemmas.Bool.Decides.{nat_tests}
use Rattle.std.proofs.lemmas.List.{append_cancel_right, length-map, length-take-le, map-append, take_all, take_more}
use Rattle.std.proofs.lemmas.Option.{get_or_from_slice_get, same_Some}
use Rattle.lotos_ast.specs.declared.refusal.Refusal.{Refusal}
use Rattle.lotos_ast.specs.declared.types.TypeDef.{TypeDef}
use Rattle.spec_core.specs.Lists.{Each, IsOneOf, NoTwo}
use Rattle.spec_core.specs.Names.{IsSameName, IsIdentifier, IsPlainName, IsOperationName}
use Rattle.spec_core.specs.Ready.{IsSameOperation}
use Rattle.spec_core.specs.Theories.{ConditionalEquation}
use Rattle.spec_core.proofs.Lists.{each-map}
use Rattle.spec_core.proofs.Members.{each_from, each_one, from_flat_map, from_filter}
use Rattle.type_contents.specs.declared.item_kind.ItemKind.{ItemKind}
use Rattle.type_contents.specs.Items.{Item, Described, item_of, is_sort, is_same_item, is_same_kind, is_same_described}
use Rattle.type_contents.specs.Numbering.{all_items, all_sorts, all_operations, brought, number_among, is_data}
use Rattle.type_contents.specs.Own.{sort_item}
use Rattle.type_contents.proofs.Unions.{item_self}
use Rattle.type_names.specs.Acyclic.{CyclesAreRefused, ContentsAreMadeFromContents}
use Rattle.type_images.specs.Images.{equation_image}
use Rattle.type_images.specs.Same.{is_same_equation}
use Rattle.type_images.specs.Same as same
use Rattle.type_equation_copies.specs.Contents.{Equations, no_equations, equations}
use Rattle.type_data.specs.Data.{data_sorts, data_operations, of_data, all_equations, data_equations, data_numbers, operation_name, sort_numbers, all_but_last, last_number, operation, data_of}
use Rattle.type_contents.specs.FormalTypes.{formal_types}
use Rattle.static_presentation.specs.Own.{AreOwnEquations}
use Rattle.static_laws.specs.Presentation.{PresentationsAreNamed}
use Rattle.static_laws.specs.NamedTypes.{IsTypeNamed}
use Rattle.static_laws.specs.CompiledNames.{IsDataNamed}
use Rattle.static_laws.proofs.Closed.{IsUnrefused, unrefused, closed}
use Rattle.static_laws.proofs.Covered.{items_at, sort-covered}
use Rattle.static_laws.proofs.Items.{IsDescribed, described, number-there}
use Rattle.static_laws.proofs.Membership.{in-at, no-two-kept, none-same, once-from, once-unlike}
use Rattle.static_laws.proofs.Placed.{is-operation}
use Rattle.static_laws.proofs.Presented.{IsData, of-type, sort-described}
use Rattle.static_laws.proofs.Spelled.{IsSpelledAs, IsSpelled, spelled-sort, all-spelled}
use Rattle.static_laws.proofs.PresentationVariables.{HasNames, all-named}
use Rattle.static_laws.proofs.WellMade.{IsOperationKind, all-made, operation-kind, sort-is-name}

-- no two images

pub no-two-images : {A B : Type 0} (R : A → A → Type 0) (S : B → B → Type 0) (f : A → B) (xs : List A) → ((x y : A) → IsOneOf x xs → IsOneOf y xs → S (f x) (f y) → R x y) → NoTwo R xs → NoTwo S (map f xs)
no-two-images R S f [] relate h = tt
no-two-images {A = A} R S f (x ∷ xs) relate h = (
  each-map (λ b. S (f x) b → ⊥) f xs (each_from (λ y. S (f x) (f y) → ⊥) xs (λ y i s. each_one (λ z. R x z → ⊥) xs y h.0 i (relate x y (inl refl) (inr i) s))),
  no-two-images R S f xs (λ y z i j s. relate y z (inr i) (inr j) s) h.1,
)

-- names of operations, with and without low lines

alphanumeric-not-low : (b : ℕ) → IsTrue (is_ascii_alphanumeric b) → to_ascii_lowercase b ≡ 95 → ⊥
alphanumeric-not-low b h e = grind (arith, nat_tests, h, e)

operation-byte-not-low : (b : ℕ) → IsOneOf b (codes "#%&*+-./<=>@\\^~{}") → to_ascii_lowercase b ≡ 95 → ⊥
operation-byte-not-low b h e = each_one (λ c. (to_ascii_lowercase c == 95) ≡ true → ⊥) (codes "#%&*+-./<=>@\\^~{}") b (none-same (λ c. to_ascii_lowercase c == 95) (codes "#%&*+-./<=>@\\^~{}") refl) h (eq-eqb (to_ascii_lowercase b) 95 e)

plain-not-low : (s zs : List ℕ) → IsPlainName s → map to_ascii_lowercase s ≡ 95 ∷ zs → ⊥
plain-not-low [] zs (inl w) e = w.first
plain-not-low [] zs (inr o) e = omega (arith, o.some)
plain-not-low (b ∷ bs) zs (inl w) e = alphanumeric-not-low b w.first (ap (λ l. get_or l 0 0) e)
plain-not-low (b ∷ bs) zs (inr o) e = operation-byte-not-low b o.bytes.0 (ap (λ l. get_or l 0 0) e)

-- the name of an operation that stands so
abbrev with-lines : ItemKind → List ℕ → List ℕ
with-lines k s = if is_same_kind k ItemKind.Infix then 95 ∷ s ++ 95 ∷ [] else s

plain-of : (k : ItemKind) (sorts : List (List ℕ)) (s : List ℕ) → IsOperationKind k → IsSpelledAs k sorts s → IsPlainName s
plain-of ItemKind.Sort sorts s o h = absurd o
plain-of ItemKind.Prefix sorts s o h = h
plain-of ItemKind.Infix sorts s o h = h.0

one-name : (j k : ItemKind) (s t : List ℕ) → IsOperationKind j → IsOperationKind k → IsPlainName s → IsPlainName t → IsSameName (with-lines j s) (with-lines k t) → (j ≡ k) × (map to_ascii_lowercase s ≡ map to_ascii_lowercase t)
one-name ItemKind.Sort k s t o p h g e = absurd o
one-name ItemKind.Prefix ItemKind.Sort s t o p h g e = absurd p
one-name ItemKind.Infix ItemKind.Sort s t o p h g e = absurd p
one-name ItemKind.Prefix ItemKind.Prefix s t o p h g e = (refl, e)
one-name ItemKind.Prefix ItemKind.Infix s t o p h g e = absurd (plain-not-low s (map to_ascii_lowercase (t ++ 95 ∷ [])) h e)
one-name ItemKind.Infix ItemKind.Prefix s t o p h g e = absurd (plain-not-low t (map to_ascii_lowercase (s ++ 95 ∷ [])) g (sym e))
one-name ItemKind.Infix ItemKind.Infix s t o p h g e =
    (refl, append_cancel_right (map to_ascii_lowercase s) (map to_ascii_lowercase t) (95 ∷ []) (sym (map-append to_ascii_lowercase s (95 ∷ [])) ∙ ap (drop 1) e ∙ map-append to_ascii_lowercase t (95 ∷ [])))

allowed-name : (k : ItemKind) (sorts : List (List ℕ)) (s : List ℕ) (n : ℕ) → IsOperationKind k → IsSpelledAs k sorts s → (length sorts ≡ 3 → n ≡ 2) → IsOperationName n (with-lines k s)
allowed-name ItemKind.Sort sorts s n o h f = absurd o
allowed-name ItemKind.Prefix sorts s n o h f = inl h
allowed-name ItemKind.Infix sorts s n o h f = inr (f h.1, (s, refl, h.0))

-- lists put together of all but the last and the last

rejoined : (xs : List ℕ) → 0 < length xs → all_but_last xs ++ last_number xs ∷ [] ≡ xs
rejoined xs some = sym (take_more xs (length xs - 1) 0 (omega (arith, some))) ∙ ap (λ n. take n xs) (whole (length xs) some) ∙ take_all (length xs) xs (omega arith)
  where
    whole : (n : ℕ) → 0 < n → n - 1 + 1 ≡ n
    whole n h = omega (arith, h)

same-list : (xs ys : List ℕ) → 0 < length xs → 0 < length ys → all_but_last xs ≡ all_but_last ys → last_number xs ≡ last_number ys → xs ≡ ys
same-list xs ys h g front back = sym (rejoined xs h) ∙ ap (λ z. z ++ last_number xs ∷ []) front ∙ ap (λ z. all_but_last ys ++ z ∷ []) back ∙ rejoined ys g

-- the sorts that have the same numbers are the same
one-number : (all : List Described) (s t : List ℕ) → IsDescribed all (sort_item s) → IsDescribed all (sort_item t) → number_among all (sort_item s) ≡ number_among all (sort_item t) → s ≡ t
one-number all s t h g e =
    ap (λ (x : Item). x.name) (same_Some (sort_item s) (sort_item t) (sym (number-there all (sort_item s) h) ∙ ap (slice_get (map item_of all)) e ∙ number-there all (sort_item t) g))

same-sorts : (all : List Described) (ss ts : List (List ℕ)) → ((s : List ℕ) → IsOneOf s ss → IsDescribed all (sort_item s)) → ((s : List ℕ) → IsOneOf s ts → IsDescribed all (sort_item s)) →
    sort_numbers all ss ≡ sort_numbers all ts → ss ≡ ts
same-sorts all [] [] h g e = refl
same-sorts all [] (t ∷ ts) h g e = absurd (cc)
same-sorts all (s ∷ ss) [] h g e = absurd (cc)
same-sorts all (s ∷ ss) (t ∷ ts) h g e =
    ap (λ z. z ∷ ss) (one-number all s t (h s (inl refl)) (g t (inl refl)) (ap (λ l. get_or l 0 0) e)) ∙ ap (λ zs. t ∷ zs) (same-sorts all ss ts (λ u i. h u (inr i)) (λ u i. g u (inr i)) (ap (drop 1) e))

one-item-of : (x y : Item) → x.kind ≡ y.kind → x.name ≡ y.name → x.sorts ≡ y.sorts → x ≡ y
one-item-of x y e f g =
    ap (λ z. record { kind = z; name = x.name; sorts = x.sorts }) e ∙ ap (λ z. record { kind = y.kind; name = z; sorts = x.sorts }) f ∙ ap (λ z. record { kind = y.kind; name = y.name; sorts = z }) g

alike : (d e : Described) → d.item ≡ e.item → is_same_described e d ≡ true
alike d e h = subst (λ z. is_same_item e.item z ≡ true) (sym h) (item_self e.item)

module _ (types : List TypeDef) (h : IsUnrefused types) (named : Each IsTypeNamed types) where
  -- a sort of the data
  of-sorts : (d : Described) → IsOneOf d (data_sorts types) → IsOneOf d (all_items types) × (is_sort d.item ≡ true)
  of-sorts d i = from_filter (λ e. is_sort e.item) d (all_items types) (from_filter (λ e. is_data types e.item) d (all_sorts types) i).0

  sort-named : (d : Described) → IsOneOf d (data_sorts types) → IsIdentifier d.spelled
  sort-named d i = let k = of-sorts d i in let s = all-spelled types h named d k.0 in spelled-sort d.item.kind d.item.sorts d.spelled k.1 s.1

  one-sort : (d e : Described) → IsOneOf d (data_sorts types) → IsOneOf e (data_sorts types) → IsSameName d.spelled e.spelled → d.item ≡ e.item
  one-sort d e i j s =
      let k = of-sorts d i in
      let l = of-sorts e j in
      sort-is-name d.item (all-made types d k.0) k.1 ∙ ap sort_item (sym (all-spelled types h named d k.0).0 ∙ s ∙ (all-spelled types h named e l.0).0) ∙ sym (sort-is-name e.item (all-made types e l.0) l.1)

  -- an operation of the data
  record IsOperationOfData (d : Described) : Type 0 where
    listed : IsOneOf d (all_items types)
    kind : IsOperationKind d.item.kind
    spelled : IsSpelled d
    some : 0 < length d.item.sorts
    sorts : (s : List ℕ) → IsOneOf s d.item.sorts → IsDescribed (data_sorts types) (sort_item s)

  of-operations : (d : Described) → IsOneOf d (data_operations types) → IsOperationOfData d
  of-operations d i = by-type (of-type types h d.item k.1)
    where
      k : IsOneOf d (all_operations types) × (is_data types d.item ≡ true)
      k = from_filter (λ e. is_data types e.item) d (all_operations types) i

      l : IsOneOf d (all_items types) × (not (is_sort d.item) ≡ true)
      l = from_filter (λ e. not (is_sort e.item)) d (all_items types) k.0

      by-type : (j : ℕ) × IsData types h j × IsOneOf d.item (items_at types j) → IsOperationOfData d
      by-type (j, data_type, has) = record {
        listed = l.0;
        kind = operation-kind d.item.kind (not-true (is_sort d.item) l.1);
        spelled = all-spelled types h named d l.0;
        some = (is-operation types h (number_among (all_operations types) d.item) d.item (number-there (all_operations types) d.item (described (all_operations types) d k.0))).1;
        sorts = λ s m. let c = closed types h j d.item has s m in sort-described types h [] j data_type s (sort-covered types h.acyclic h.settled j (sort_item s) c refl) c;
      }

  operation-named : (d : Described) → IsOneOf d (data_operations types) → IsOperationName (length (operation (data_sorts types) d).args) (operation_name d)
  operation-named d i = allowed-name d.item.kind d.item.sorts d.spelled (length (operation (data_sorts types) d).args) o.kind o.spelled.1 (λ three. count three)
    where
      o : IsOperationOfData d
      o = of-operations d i

      numbers : List ℕ
      numbers = sort_numbers (data_sorts types) d.item.sorts

      many : length numbers ≡ length d.item.sorts
      many = length-map d.item.sorts (λ name. number_among (data_sorts types) (sort_item name))

      count : length d.item.sorts ≡ 3 → length (take (length numbers - 1) numbers) ≡ 2
      count three = length-take-le (length numbers - 1) numbers (omega arith) ∙ two (length numbers) (many ∙ three)
        where
          two : (n : ℕ) → n ≡ 3 → n - 1 ≡ 2
          two n e = omega (arith, e)

  one-operation : (d e : Described) → IsOneOf d (data_operations types) → IsOneOf e (data_operations types) → IsSameOperation (operation (data_sorts types) d) (operation (data_sorts types) e) → d.item ≡ e.item
  one-operation d e i j s =
      let o = of-operations d i in
      let p = of-operations e j in
      let n = one-name d.item.kind e.item.kind d.spelled e.spelled o.kind p.kind (plain-of d.item.kind d.item.sorts d.spelled o.kind o.spelled.1) (plain-of e.item.kind e.item.sorts e.spelled p.kind p.spelled.1) s.0 in
      let numbers : sort_numbers (data_sorts types) d.item.sorts ≡ sort_numbers (data_sorts types) e.item.sorts =
      same-list (sort_numbers (data_sorts types) d.item.sorts) (sort_numbers (data_sorts types) e.item.sorts)
      (omega (arith, o.some, length-map d.item.sorts (λ name. number_among (data_sorts types) (sort_item name)))) (omega (arith, p.some, length-map e.item.sorts (λ name. number_among (data_sorts types) (sort_item name)))) s.1 s.2 in
      one-item-of d.item e.item n.0 (sym o.spelled.0 ∙ n.1 ∙ p.spelled.0) (same-sorts (data_sorts types) d.item.sorts e.item.sorts o.sorts p.sorts numbers)

  -- the descriptions of data stand each once
  unlike : (p q : Described → Bool) → NoTwo (λ d e. is_same_described e d ≡ true) (filter p (filter q (all_items types)))
  unlike p q = no-two-kept (λ d e. is_same_described e d ≡ true) p (filter q (all_items types)) (no-two-kept (λ d e. is_same_described e d ≡ true) q (all_items types) (once-unlike is_same_described (flat_map (λ all. all) (brought types))))

  module _ (own : List (List ConditionalEquation)) (rs : List Refusal) (read : AreOwnEquations types own rs) where
    equation-named : (e : ConditionalEquation) → IsOneOf e (data_equations types own) → HasNames e
    equation-named e i = by-type (from_flat_map (λ (z : Equations). z.brought) (equations types own) e (once-from is_same_equation (flat_map (λ (z : Equations). z.brought) (equations types own)) e k.0))
      where
        k : IsOneOf e (all_equations (equations types own)) × (same.is_in (of_data (λ (z : Equations). z.all) (formal_types types) (equations types own)) e ≡ true)
        k = from_filter (same.is_in (of_data (λ (z : Equations). z.all) (formal_types types) (equations types own))) e (all_equations (equations types own)) i

        at-number : (z : Equations) → IsOneOf e z.brought → (n : ℕ) × (slice_get (equations types own) n ≡ Some z) → HasNames e
        at-number z j (n, at) = all-named types h named own rs read (length (zip types own)) n e (subst (λ (y : Equations). IsOneOf e y.brought) (sym (get_or_from_slice_get (equations types own) n z no_equations at)) j)

        by-type : (z : Equations) × IsOneOf z (equations types own) × IsOneOf e z.brought → HasNames e
        by-type (z, j, m) = at-number z m (in-at z (equations types own) j)

    data-named : IsDataNamed (data_of types own)
    data-named = record {
      sorts = each-map IsIdentifier (λ (d : Described). d.spelled) (data_sorts types) (each_from (λ (d : Described). IsIdentifier d.spelled) (data_sorts types) sort-named);
      operations = each-map (λ o. IsOperationName (length o.args) o.name) (operation (data_sorts types)) (data_operations types)
          (each_from (λ d. IsOperationName (length (operation (data_sorts types) d).args) (operation_name d)) (data_operations types) operation-named);
      variables = each-map HasNames (equation_image (data_numbers types)) (data_equations types own) (each_from (λ e. HasNames (equation_image (data_numbers types) e)) (data_equations types own) equation-named);
      sorts_differ = no-two-images (λ d e. is_same_described e d ≡ true) IsSameName (λ (d : Described). d.spelled) (data_sorts types) (λ d e i j s. alike d e (one-sort d e i j s)) (unlike (λ d. is_data types d.item) (λ d. is_sort d.item));
      operations_differ = no-two-images (λ d e. is_same_described e d ≡ true) IsSameOperation (operation (data_sorts types)) (data_operations types) (λ d e i j s. alike d e (one-operation d e i j s))
          (unlike (λ d. is_data types d.item) (λ d. not (is_sort d.item)));
    }

pub presentations_are_named : CyclesAreRefused → ContentsAreMadeFromContents → PresentationsAreNamed
presentations_are_named cycles settled types theory none named p =
    subst IsDataNamed (sym p.presented) (data-named types (unrefused cycles settled types none) named p.own [] p.read)
