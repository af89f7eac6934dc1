-- How items are written: as their names, which are such as the grammar allows.
use Rattle.std.proofs.Common.{ℕ, zero, suc, ◌≡◌, ◌∙◌, ◌+◌, inl, inr, refl, sym, ap, subst, List, [], ◌∷◌, ◌++◌, length, map, Option, Some, None, Bool, true, false, ◌||◌, ◌&&◌, not, cond, arith}
use Rattle.std.specs.Prelude.{option_map, unwrap_or, if◌then◌else◌, ◌==◌}
use Rattle.std.specs.Char.{to_ascii_lowercase}
use Rattle.std.specs.Str.{bytes_eq}
use Rattle.std.specs.List.{flat_map, list_any, slice_index_or}
use Rattle.std.proofs.lemmas.Bool.{and_from, or_parts, eqb-true, not_from_false}
use Rattle.std.proofs.lemmas.List.{length-append, length-map}
use Rattle.std.proofs.lemmas.Option.{none-some}
use Rattle.lotos_ast.specs.declared.place.Place.{Place}
use Rattle.lotos_ast.specs.declared.refusal.Refusal.{Refusal}
use Rattle.lotos_ast.specs.declared.token.Token.{Token}
use Rattle.lotos_ast.specs.declared.types.DeclaredName.{DeclaredName}
use Rattle.lotos_ast.specs.declared.types.Formals.{Formals}
use Rattle.lotos_ast.specs.declared.types.OperationDecl.{OperationDecl}
use Rattle.lotos_ast.specs.declared.types.OperationName.{OperationName}
use Rattle.lotos_ast.specs.declared.types.OperationName.TheVariants.{Prefix, Infix}
use Rattle.lotos_ast.specs.declared.types.OperationPair.{OperationPair}
use Rattle.lotos_ast.specs.declared.types.OperationPart.{OperationPart}
use Rattle.lotos_ast.specs.declared.types.EquationPart.{EquationPart}
use Rattle.lotos_ast.specs.declared.types.Pairs.{Pairs}
use Rattle.lotos_ast.specs.declared.types.SortPair.{SortPair}
use Rattle.lotos_ast.specs.declared.types.SortPart.{SortPart}
use Rattle.lotos_ast.specs.declared.types.TypeBody.{TypeBody}
use Rattle.lotos_ast.specs.declared.types.TypeBody.TheVariants.{Declared, Renamed, Actualized}
use Rattle.lotos_ast.specs.declared.types.TypeDef.{TypeDef}
use Rattle.lotos_ast.specs.declared.types.TypeDef.TheVariants.{Library, Definition}
use Rattle.spec_core.specs.Lists.{Each, IsOneOf}
use Rattle.spec_core.specs.Names.{IsIdentifier, IsPlainName}
use Rattle.spec_core.proofs.Lists.{both_empty}
use Rattle.spec_core.proofs.Members.{each_one, from_flat_map, one_parts, one_map, one_slice_get, from_map}
use Rattle.type_contents.specs.declared.item_kind.ItemKind.{ItemKind}
use Rattle.type_contents.specs.Contents.{contents, items_of, formals_of}
use Rattle.type_contents.specs.Images.{NewSort, NewOperation, Renaming, new_sort, new_operation, renaming_of, renames, for_sort, for_operation, named_by, sort_image, spelling_of_sort, described_image, has_formal_name, kept_renaming}
use Rattle.type_contents.specs.Items.{Item, Described, is_in, is_sort, is_same_kind, small}
use Rattle.type_contents.specs.Lists.{listed}
use Rattle.type_contents.specs.Numbering.{itself_and_parts, source_in_order, new_image, new_kept, brings_by, brings, brought, all_sorts, all_operations, all_items}
use Rattle.type_contents.specs.Own.{name_of, kind_of, declared_sort, declared_operation, declared_operations, sort_names, part_sort_names, part_operations, formal_sorts, formal_operations, own_items}
use Rattle.type_contents.specs.Rounds.{rounds}
use Rattle.type_copies.specs.BadActuals.{bad_actuals}
use Rattle.type_copies.specs.BadRenamings.{is_bad_operation, is_misplaced, has_clash, has_old_operation, bad_sort_pair, bad_operation_pair, bad_pairs}
use Rattle.type_copies.specs.Copies.{Change, Copy, change_in, copy, gets}
use Rattle.type_names.specs.Refused.{each_after}
use Rattle.flattening.specs.Refusals.{bad_copy}
use Rattle.static_laws.specs.NamedTypes.{IsNamed, IsOperationNamed, HasPlaces, IsDeclarationNamed, ArePairsNamed, AreItemsNamed, IsBodyNamed, IsTypeNamed}
use Rattle.static_laws.proofs.Closed.{IsUnrefused, each-empty}
use Rattle.static_laws.proofs.Items.{is-among, firsts-from}
use Rattle.static_laws.proofs.Membership.{find-passes, none-same}
use Rattle.static_laws.proofs.Ordered.{ordered-from, copied-from}
use Rattle.static_laws.proofs.Walking.{IsMadeAt, made, past, made-at}
use Rattle.static_laws.proofs.WellMade.{IsOperationKind, NamesOperations, given, kept-only, in-some, renaming-names, kept-names}

-- a name of this kind of item, over these sorts
abbrev pub IsSpelledAs : ItemKind → List (List ℕ) → List ℕ → Type 0
IsSpelledAs ItemKind.Sort sorts s = IsIdentifier s
IsSpelledAs ItemKind.Prefix sorts s = IsPlainName s
IsSpelledAs ItemKind.Infix sorts s = IsPlainName s × (length sorts ≡ 3)

abbrev pub IsSpelled : Described → Type 0
IsSpelled d = (map to_ascii_lowercase d.spelled ≡ d.item.name) × IsSpelledAs d.item.kind d.item.sorts d.spelled

sort-not-operation : (k : ItemKind) → is_same_kind k ItemKind.Sort ≡ true → IsOperationKind k → ⊥
sort-not-operation ItemKind.Sort e o = o
sort-not-operation ItemKind.Prefix e o = absurd (cc)
sort-not-operation ItemKind.Infix e o = absurd (cc)

pub sort-spelled : (k : ItemKind) (sorts : List (List ℕ)) (s : List ℕ) → is_same_kind k ItemKind.Sort ≡ true → IsIdentifier s → IsSpelledAs k sorts s
sort-spelled ItemKind.Sort sorts s e h = h
sort-spelled ItemKind.Prefix sorts s e h = absurd (cc)
sort-spelled ItemKind.Infix sorts s e h = absurd (cc)

pub spelled-sort : (k : ItemKind) (sorts : List (List ℕ)) (s : List ℕ) → is_same_kind k ItemKind.Sort ≡ true → IsSpelledAs k sorts s → IsIdentifier s
spelled-sort ItemKind.Sort sorts s e h = h
spelled-sort ItemKind.Prefix sorts s e h = absurd (cc)
spelled-sort ItemKind.Infix sorts s e h = absurd (cc)

still-spelled : (k : ItemKind) (f : List ℕ → List ℕ) (sorts : List (List ℕ)) (s : List ℕ) → IsSpelledAs k sorts s → IsSpelledAs k (map f sorts) s
still-spelled ItemKind.Sort f sorts s h = h
still-spelled ItemKind.Prefix f sorts s h = h
still-spelled ItemKind.Infix f sorts s h = (h.0, length-map sorts f ∙ h.1)

-- new names

abbrev IsSortGiven : NewSort → Type 0
IsSortGiven n = (map to_ascii_lowercase n.spelled ≡ n.new) × IsIdentifier n.spelled

abbrev IsOperationGiven : NewOperation → Type 0
IsOperationGiven n = (map to_ascii_lowercase n.spelled ≡ n.new) × IsPlainName n.spelled

pub record IsRenamingNamed (renaming : Renaming) : Type 0 where
  pub sorts : (n : NewSort) → IsOneOf n renaming.sorts → IsSortGiven n
  pub operations : (n : NewOperation) → IsOneOf n renaming.operations → IsOperationGiven n

pub pairs-give : (pairs : Pairs) → ArePairsNamed pairs → IsRenamingNamed (renaming_of pairs)
pairs-give pairs h = record {
  sorts = λ n i. of-sort n (from_map new_sort (listed pairs.sorts) n i);
  operations = λ n i. of-operation n (from_map new_operation (listed pairs.operations) n i);
}
  where
    of-sort : (n : NewSort) → (p : SortPair) × IsOneOf p (listed pairs.sorts) × (n ≡ new_sort p) → IsSortGiven n
    of-sort n (p, i, is) = subst IsSortGiven (sym is) (refl, each_one (λ (q : SortPair). IsNamed q.new) (listed pairs.sorts) p h.sorts i)

    of-operation : (n : NewOperation) → (p : OperationPair) × IsOneOf p (listed pairs.operations) × (n ≡ new_operation p) → IsOperationGiven n
    of-operation n (p, i, is) = subst IsOperationGiven (sym is) (refl, each_one (λ (q : OperationPair). IsOperationNamed q.new) (listed pairs.operations) p h.operations i)

pub kept-give : (formals : List Item) (renaming : Renaming) (x : Item) → IsRenamingNamed renaming → IsRenamingNamed (kept_renaming formals renaming x)
kept-give formals renaming x h = by-test (has_formal_name formals x)
  where
    by-test : (b : Bool) → IsRenamingNamed (if b then record { sorts = renaming.sorts; operations = [] } else renaming)
    by-test true = record { sorts = h.sorts; operations = λ n i. absurd i }
    by-test false = h

-- an operation that gets a name between arguments has two
abbrev IsPlaced : ItemKind → List (List ℕ) → Type 0
IsPlaced ItemKind.Sort sorts = Unit {0}
IsPlaced ItemKind.Prefix sorts = Unit {0}
IsPlaced ItemKind.Infix sorts = length sorts ≡ 3

as-spelled : (k : ItemKind) (sorts : List (List ℕ)) (s : List ℕ) → IsOperationKind k → IsPlainName s → IsPlaced k sorts → IsSpelledAs k sorts s
as-spelled ItemKind.Sort sorts s o h p = absurd o
as-spelled ItemKind.Prefix sorts s o h p = h
as-spelled ItemKind.Infix sorts s o h p = (h, p)

placed-still : (k : ItemKind) (f : List ℕ → List ℕ) (sorts : List (List ℕ)) → IsPlaced k sorts → IsPlaced k (map f sorts)
placed-still ItemKind.Sort f sorts h = h
placed-still ItemKind.Prefix f sorts h = h
placed-still ItemKind.Infix f sorts h = length-map sorts f ∙ h

-- the image of an item is written as its name
pub image-spelled : (renaming : Renaming) (d : Described) → IsRenamingNamed renaming → NamesOperations renaming.operations →
    ((n : NewOperation) → for_operation renaming.operations d.item ≡ Some n → IsPlaced n.new_kind d.item.sorts) → IsSpelled d → IsSpelled (described_image renaming d)
image-spelled renaming d named names places h = by-cases (is_sort d.item) (for_operation renaming.operations d.item) refl refl
  where
    of-sort : (o : Option NewSort) → for_sort renaming.sorts d.item.name ≡ o → is_sort d.item ≡ true →
        (map to_ascii_lowercase (unwrap_or (option_map (λ n. n.spelled) o) d.spelled) ≡ unwrap_or (option_map (λ n. n.new) o) d.item.name) × IsIdentifier (unwrap_or (option_map (λ n. n.spelled) o) d.spelled)
    of-sort None e s = (h.0, spelled-sort d.item.kind d.item.sorts d.spelled s h.1)
    of-sort (Some n) e s = named.sorts n (find-passes (λ n. bytes_eq n.old d.item.name) renaming.sorts n e).0

    by-cases : (b : Bool) (o : Option NewOperation) → is_sort d.item ≡ b → for_operation renaming.operations d.item ≡ o →
        (map to_ascii_lowercase (if b then spelling_of_sort renaming.sorts d else unwrap_or (option_map (λ n. n.spelled) o) d.spelled)
        ≡ (named_by o (record { kind = d.item.kind; name = if b then sort_image renaming.sorts d.item.name else d.item.name; sorts = map (sort_image renaming.sorts) d.item.sorts })).name)
        × IsSpelledAs (named_by o (record { kind = d.item.kind; name = if b then sort_image renaming.sorts d.item.name else d.item.name; sorts = map (sort_image renaming.sorts) d.item.sorts })).kind
        (named_by o (record { kind = d.item.kind; name = if b then sort_image renaming.sorts d.item.name else d.item.name; sorts = map (sort_image renaming.sorts) d.item.sorts })).sorts
        (if b then spelling_of_sort renaming.sorts d else unwrap_or (option_map (λ n. n.spelled) o) d.spelled)
    by-cases true None s e =
        let t = of-sort (for_sort renaming.sorts d.item.name) refl s in
        (t.0, sort-spelled d.item.kind (map (sort_image renaming.sorts) d.item.sorts) (spelling_of_sort renaming.sorts d) s t.1)
    by-cases true (Some n) s e = absurd (sort-not-operation d.item.kind s (given renaming.operations d.item n names e).0)
    by-cases false None s e = (h.0, still-spelled d.item.kind (sort_image renaming.sorts) d.item.sorts d.spelled h.1)
    by-cases false (Some n) s e =
        let f : IsOneOf n renaming.operations × (renames d.item n ≡ true) = find-passes (renames d.item) renaming.operations n e in
        let g : IsOperationGiven n = named.operations n f.0 in (
          g.0,
          as-spelled n.new_kind (map (sort_image renaming.sorts) d.item.sorts) n.spelled (given renaming.operations d.item n names e).1 g.1
              (placed-still n.new_kind (sort_image renaming.sorts) d.item.sorts (places n e)),
        )

-- what a type declares

operation-spelled : (o : OperationDecl) (n : DeclaredName) → IsOperationNamed n.name × HasPlaces n.name (length (listed o.arguments)) → IsSpelled (declared_operation o n)
operation-spelled o n h = (refl, by-name n.name h)
  where
    many : length (map small (listed o.arguments) ++ small o.result ∷ []) ≡ length (listed o.arguments) + 1
    many = length-append (map small (listed o.arguments)) (small o.result ∷ []) ∙ ap (λ k. k + 1) (length-map (listed o.arguments) small)

    by-name : (m : OperationName) → IsOperationNamed m × HasPlaces m (length (listed o.arguments)) → IsSpelledAs (kind_of m) (map small (listed o.arguments) ++ small o.result ∷ []) (name_of m).text
    by-name (Prefix place name) h = h.0
    by-name (Infix place name) h = (h.0, omega (arith, many, h.1))

operations-spelled : (ds : List OperationDecl) → Each IsDeclarationNamed ds → (d : Described) → IsOneOf d (flat_map declared_operations ds) → IsSpelled d
operations-spelled ds named d h = by-declaration (from_flat_map declared_operations ds d h)
  where
    by-name : (o : OperationDecl) → IsOneOf o ds → (n : DeclaredName) × IsOneOf n o.names.items × (d ≡ declared_operation o n) → IsSpelled d
    by-name o i (n, j, is) =
        subst IsSpelled (sym is)
        (operation-spelled o n (each_one (λ (m : DeclaredName). IsOperationNamed m.name × HasPlaces m.name (length (listed o.arguments))) o.names.items n (each_one IsDeclarationNamed ds o named i) j))

    by-declaration : (o : OperationDecl) × IsOneOf o ds × IsOneOf d (declared_operations o) → IsSpelled d
    by-declaration (o, i, j) = by-name o i (from_map (declared_operation o) o.names.items d j)

sorts-spelled : (ts : List Token) → Each IsNamed ts → (d : Described) → IsOneOf d (map declared_sort ts) → IsSpelled d
sorts-spelled ts named d h = by-token (from_map declared_sort ts d h)
  where
    by-token : (t : Token) × IsOneOf t ts × (d ≡ declared_sort t) → IsSpelled d
    by-token (t, i, is) = subst IsSpelled (sym is) (refl, each_one IsNamed ts t named i)

own-spelled : (formals : Formals) (sorts : Option SortPart) (operations : Option OperationPart) (equations : Option EquationPart) → AreItemsNamed formals sorts operations equations →
    (d : Described) → IsOneOf d (own_items formals sorts operations) → IsSpelled d
own-spelled formals sorts operations equations named d h =
    elim (one_parts d (formal_sorts formals ++ map declared_sort (part_sort_names sorts) ++ formal_operations formals) (flat_map declared_operations (part_operations operations)) h) [
      | inl i ↦ elim (one_parts d (formal_sorts formals ++ map declared_sort (part_sort_names sorts)) (formal_operations formals) i) [
        | inl j ↦ elim (one_parts d (formal_sorts formals) (map declared_sort (part_sort_names sorts)) j) [
          | inl k ↦ sorts-spelled (sort_names formals.sorts) named.formal_sorts d k
          | inr k ↦ sorts-spelled (part_sort_names sorts) named.sorts_named d k
        ]
        | inr j ↦ operations-spelled (listed formals.operations) named.formal_operations d j
      ]
      | inr i ↦ operations-spelled (part_operations operations) named.operations_named d i
    ]

-- what isn't refused of pairs

each-after-empty : {A : Type 0} (f : List A → A → List Refusal) (before xs : List A) (x : A) → each_after f before xs ≡ [] → IsOneOf x xs → (b : List A) × (f b x ≡ [])
each-after-empty f before [] x e h = absurd h
each-after-empty f before (y ∷ ys) x e (inl q) = (before, ap (f before) q ∙ (both_empty (f before y) (each_after f (before ++ y ∷ []) ys) e).0)
each-after-empty f before (y ∷ ys) x e (inr h) = each-after-empty f (before ++ y ∷ []) ys x (both_empty (f before y) (each_after f (before ++ y ∷ []) ys) e).1 h

not-refused : {A : Type 0} (b : Bool) (r : A) → cond b (r ∷ []) [] ≡ [] → b ≡ false
not-refused true r e = absurd (cc)
not-refused false r e = refl

-- an operation that gets a name between arguments has two
well-placed : (c : Copy) (pairs : Pairs) → bad_pairs c pairs ≡ [] → (p : OperationPair) → IsOneOf p (listed pairs.operations) → (x : Change) → IsOneOf x c.changes →
    gets c (new_operation p) x.item ≡ true → IsPlaced (new_operation p).new_kind x.item.sorts
well-placed c pairs none p i x j g = by-pair (each-after-empty (bad_operation_pair c) [] (listed pairs.operations) p (both_empty (each_after (bad_sort_pair c) [] (listed pairs.sorts)) (each_after (bad_operation_pair c) [] (listed pairs.operations)) none).1 i)
  where
    n : NewOperation
    n = new_operation p

    by-kind : (k : ItemKind) → ((is_same_kind k ItemKind.Infix && not (length x.item.sorts == 3) && gets c n x.item) ≡ true → ⊥) → IsPlaced k x.item.sorts
    by-kind ItemKind.Sort h = tt
    by-kind ItemKind.Prefix h = tt
    by-kind ItemKind.Infix h = by-count (length x.item.sorts == 3) refl
      where
        by-count : (b : Bool) → (length x.item.sorts == 3) ≡ b → length x.item.sorts ≡ 3
        by-count true e = eqb-true (length x.item.sorts) 3 e
        by-count false e = absurd (h (and_from (not (length x.item.sorts == 3)) (gets c n x.item) (not_from_false (length x.item.sorts == 3) e) g))

    by-pair : (b : List OperationPair) × (bad_operation_pair c b p ≡ []) → IsPlaced n.new_kind x.item.sorts
    by-pair (b, e) =
        let bad : is_bad_operation c (map new_operation b) n ≡ false = not-refused (is_bad_operation c (map new_operation b) n) _ e in
        let one = or_parts (not (list_any (λ z. renames z.item n) c.changes) || list_any (has_old_operation n) (map new_operation b) || list_any (is_misplaced c n) c.changes) (list_any (has_clash c (map new_operation b) n) c.changes) bad in
        let two = or_parts (not (list_any (λ z. renames z.item n) c.changes) || list_any (has_old_operation n) (map new_operation b)) (list_any (is_misplaced c n) c.changes) one.0 in
        by-kind n.new_kind (each_one (λ (z : Change). is_misplaced c n z ≡ true → ⊥) c.changes x (none-same (is_misplaced c n) c.changes two.1) j)

-- the same of an item that is copied, by the name that it gets
placed-by : (items replaced : List Item) (pairs : Pairs) (x : Item) → bad_pairs (copy items replaced (renaming_of pairs)) pairs ≡ [] → IsOneOf x items → has_formal_name replaced x ≡ false →
    (n : NewOperation) → for_operation (renaming_of pairs).operations x ≡ Some n → IsPlaced n.new_kind x.sorts
placed-by items replaced pairs x none i free n e =
    let f : IsOneOf n (renaming_of pairs).operations × (renames x n ≡ true) = find-passes (renames x) (renaming_of pairs).operations n e in
    by-pair f.1 (from_map new_operation (listed pairs.operations) n f.0)
  where
    c : Copy
    c = copy items replaced (renaming_of pairs)

    by-pair : renames x n ≡ true → (p : OperationPair) × IsOneOf p (listed pairs.operations) × (n ≡ new_operation p) → IsPlaced n.new_kind x.sorts
    by-pair r (p, j, is) =
        subst (λ (z : NewOperation). IsPlaced z.new_kind x.sorts) (sym is)
        (well-placed c pairs none p j (change_in replaced (renaming_of pairs) x) (one_map (change_in replaced (renaming_of pairs)) x items i)
        (and_from (renames x (new_operation p)) (not (has_formal_name replaced x)) (ap (renames x) (sym is) ∙ r) (not_from_false (has_formal_name replaced x) free)))

kept-placed : (items formals : List Item) (pairs : Pairs) (x : Item) → bad_pairs (copy items formals (renaming_of pairs)) pairs ≡ [] → IsOneOf x items →
    (n : NewOperation) → for_operation (kept_renaming formals (renaming_of pairs) x).operations x ≡ Some n → IsPlaced n.new_kind x.sorts
kept-placed items formals pairs x none i n e = by-test (has_formal_name formals x) refl e
  where
    by-test : (b : Bool) → has_formal_name formals x ≡ b → for_operation (if b then record { sorts = (renaming_of pairs).sorts; operations = [] } else renaming_of pairs).operations x ≡ Some n → IsPlaced n.new_kind x.sorts
    by-test true q f = absurd (none-some n f)
    by-test false q f = placed-by items formals pairs x none i q n f

module _ (types : List TypeDef) (h : IsUnrefused types) (named : Each IsTypeNamed types) where
  abbrev AreSpelled : List (List Described) → Type 0
  AreSpelled table = (k : ℕ) (d : Described) → IsOneOf d (slice_index_or table k []) → IsSpelled d

  -- an item of a source, in the order of its content
  source-spelled : (table : List (List Described)) → AreSpelled table → (source : Token) (d : Described) → IsOneOf d (source_in_order types table source) →
      IsSpelled d × IsOneOf d.item (items_of types (contents types) source)
  source-spelled table before source d i =
      let r = ordered-from (length types) table (itself_and_parts types source) (items_of types (contents types) source) d i in
      (before r.0 d r.1, is-among (items_of types (contents types) source) d.item r.2)

  brings-spelled : (table : List (List Described)) → AreSpelled table → (place : Place) (name : Token) (body : TypeBody) → IsOneOf (Definition place name body) types → IsBodyNamed body →
      (e : Described) → IsOneOf e (brings_by types table body) → IsSpelled e
  brings-spelled table before place name (Declared p imports formals sorts operations equations) m b e i = own-spelled formals sorts operations equations b e i
  brings-spelled table before place name (Renamed p source pairs) m b e i = by-source (from_flat_map (new_image (described_image (renaming_of pairs))) (source_in_order types table source) e i)
    where
      unrefused_pairs : bad_pairs (copy (items_of types (contents types) source) [] (renaming_of pairs)) pairs ≡ []
      unrefused_pairs = each-empty (bad_copy types (contents types) (all_sorts types ++ all_operations types)) types (Definition place name (Renamed p source pairs)) h.copies m

      by-source : (d : Described) × IsOneOf d (source_in_order types table source) × IsOneOf e (new_image (described_image (renaming_of pairs)) d) → IsSpelled e
      by-source (d, j, k) =
          let s = source-spelled table before source d j in
          subst IsSpelled (sym (copied-from (described_image (renaming_of pairs)) d e k))
          (image-spelled (renaming_of pairs) d (pairs-give pairs b) (renaming-names pairs)
          (λ n q. placed-by (items_of types (contents types) source) [] pairs d.item unrefused_pairs s.1 refl n q) s.0)
  brings-spelled table before place name (Actualized p source actuals pairs) m b e i = by-source (from_flat_map (new_kept formals (renaming_of pairs)) (source_in_order types table source) e i)
    where
      formals : List Item
      formals = formals_of types (contents types) source

      all : List Described
      all = all_sorts types ++ all_operations types

      unrefused_pairs : bad_pairs (copy (items_of types (contents types) source) formals (renaming_of pairs)) pairs ≡ []
      unrefused_pairs = (both_empty (bad_pairs (copy (items_of types (contents types) source) formals (renaming_of pairs)) pairs)
          (bad_actuals name.place pairs formals (flat_map (items_of types (contents types)) actuals.items) all)
          (each-empty (bad_copy types (contents types) all) types (Definition place name (Actualized p source actuals pairs)) h.copies m)).0

      by-source : (d : Described) × IsOneOf d (source_in_order types table source) × IsOneOf e (new_kept formals (renaming_of pairs) d) → IsSpelled e
      by-source (d, j, k) =
          let s = source-spelled table before source d j in
          let kept = kept_renaming formals (renaming_of pairs) d.item in
          subst IsSpelled (sym (copied-from (described_image kept) d e (kept-only (is_in formals d.item) e (new_image (described_image kept) d) k)))
          (image-spelled kept d (kept-give formals (renaming_of pairs) d.item (pairs-give pairs b)) (kept-names formals (renaming_of pairs) d.item (renaming-names pairs))
          (kept-placed (items_of types (contents types) source) formals pairs d.item unrefused_pairs s.1) s.0)

  round-spelled : (n : ℕ) → AreSpelled (rounds [] (brings types) types n)
  round-spelled zero k d i = by-type (made-at [] (λ _. []) types (rounds [] (brings types) types 0) refl k)
    where
      by-type : IsMadeAt [] (λ _. []) types (rounds [] (brings types) types 0) k → IsSpelled d
      by-type (made e at is) = absurd (subst (λ zs. IsOneOf d zs) is i)
      by-type (past at is) = absurd (subst (λ zs. IsOneOf d zs) is i)
  round-spelled (suc n) k d i = by-type (made-at [] (brings types (rounds [] (brings types) types n)) types (rounds [] (brings types) types (suc n)) refl k) (round-spelled n)
    where
      by-definition : AreSpelled (rounds [] (brings types) types n) → (e : TypeDef) → IsOneOf e types → IsTypeNamed e → IsOneOf d (brings types (rounds [] (brings types) types n) e) → IsSpelled d
      by-definition before (Library place names) m b j = absurd j
      by-definition before (Definition place name body) m b j = brings-spelled (rounds [] (brings types) types n) before place name body m b d j

      by-type : IsMadeAt [] (brings types (rounds [] (brings types) types n)) types (rounds [] (brings types) types (suc n)) k → AreSpelled (rounds [] (brings types) types n) → IsSpelled d
      by-type (made e at is) before = let m = one_slice_get types k e at in by-definition before e m (each_one IsTypeNamed types e named m) (subst (λ zs. IsOneOf d zs) is i)
      by-type (past at is) before = absurd (subst (λ zs. IsOneOf d zs) is i)

  pub all-spelled : (d : Described) → IsOneOf d (all_items types) → IsSpelled d
  all-spelled d i =
      let r : (k : ℕ) × IsOneOf d (slice_index_or (brought types) k []) = in-some (brought types) d (firsts-from (flat_map (λ all. all) (brought types)) d i) in
      round-spelled (length types) r.0 d r.1
