-- Sorts have no sorts, and operations have at least that of their result.
use Rattle.std.proofs.Common.{ℕ, zero, suc, ◌≡◌, ◌<◌, inl, inr, refl, sym, ap, subst, List, [], ◌∷◌, ◌++◌, length, map, Option, Some, None, Bool, true, false, cond, arith}
use Rattle.std.specs.Prelude.{if◌then◌else◌}
use Rattle.std.specs.List.{flat_map, slice_index_or}
use Rattle.std.proofs.lemmas.Bool.{and_parts}
use Rattle.std.proofs.lemmas.List.{length-map}
use Rattle.lotos_ast.specs.declared.token.Token.{Token}
use Rattle.lotos_ast.specs.declared.types.DeclaredName.{DeclaredName}
use Rattle.lotos_ast.specs.declared.types.Formals.{Formals}
use Rattle.lotos_ast.specs.declared.types.OperationDecl.{OperationDecl}
use Rattle.lotos_ast.specs.declared.types.OperationName.{OperationName}
use Rattle.lotos_ast.specs.declared.types.OperationName.TheVariants.{Prefix, Infix}
use Rattle.lotos_ast.specs.declared.types.OperationPair.{OperationPair}
use Rattle.lotos_ast.specs.declared.types.OperationPart.{OperationPart}
use Rattle.lotos_ast.specs.declared.types.Pairs.{Pairs}
use Rattle.lotos_ast.specs.declared.types.SortPart.{SortPart}
use Rattle.lotos_ast.specs.declared.types.TypeBody.{TypeBody}
use Rattle.lotos_ast.specs.declared.types.TypeBody.TheVariants.{Declared, Renamed, Actualized}
use Rattle.lotos_ast.specs.declared.types.TypeDef.{TypeDef}
use Rattle.lotos_ast.specs.declared.types.TypeDef.TheVariants.{Library, Definition}
use Rattle.spec_core.specs.Lists.{Each, IsOneOf}
use Rattle.spec_core.proofs.Members.{from_flat_map, one_parts, from_map}
use Rattle.type_contents.specs.declared.item_kind.ItemKind.{ItemKind}
use Rattle.type_contents.specs.Contents.{contents, items_of, formals_of}
use Rattle.type_contents.specs.Images.{NewOperation, Renaming, new_operation, renaming_of, renames, for_operation, named_by, sort_image, sorts_renamed, image, described_image, has_formal_name, kept_renaming}
use Rattle.type_contents.specs.Items.{Item, Described, is_in, is_sort, is_same_kind, small}
use Rattle.type_contents.specs.Lists.{listed}
use Rattle.type_contents.specs.Numbering.{itself_and_parts, source_in_order, new_image, new_kept, brings_by, brings, brought, all_items}
use Rattle.type_contents.specs.Own.{sort_item, kind_of, declared_sort, declared_operation, declared_operations, sort_names, part_sort_names, part_operations, formal_sorts, formal_operations, own_items}
use Rattle.type_contents.specs.Rounds.{rounds}
use Rattle.static_laws.proofs.Items.{firsts-from}
use Rattle.static_laws.proofs.Membership.{find-passes}
use Rattle.static_laws.proofs.Ordered.{ordered-from, copied-from}
use Rattle.static_laws.proofs.Walking.{IsMadeAt, made, past, made-at}

abbrev pub IsMadeAs : ItemKind → List (List ℕ) → Type 0
IsMadeAs ItemKind.Sort sorts = sorts ≡ []
IsMadeAs ItemKind.Prefix sorts = 0 < length sorts
IsMadeAs ItemKind.Infix sorts = 0 < length sorts

abbrev pub IsWellMade : Item → Type 0
IsWellMade x = IsMadeAs x.kind x.sorts

-- kinds of operations
abbrev pub IsOperationKind : ItemKind → Type 0
IsOperationKind ItemKind.Sort = ⊥
IsOperationKind ItemKind.Prefix = Unit {0}
IsOperationKind ItemKind.Infix = Unit {0}

pub kind-is : (o : OperationName) → IsOperationKind (kind_of o)
kind-is (Prefix place name) = tt
kind-is (Infix place name) = tt

pub some-sorts : (k : ItemKind) (sorts : List (List ℕ)) → IsOperationKind k → IsMadeAs k sorts → 0 < length sorts
some-sorts ItemKind.Sort sorts o h = absurd o
some-sorts ItemKind.Prefix sorts o h = h
some-sorts ItemKind.Infix sorts o h = h

pub as-operation : (k : ItemKind) (sorts : List (List ℕ)) → IsOperationKind k → 0 < length sorts → IsMadeAs k sorts
as-operation ItemKind.Sort sorts o h = absurd o
as-operation ItemKind.Prefix sorts o h = h
as-operation ItemKind.Infix sorts o h = h

pub same-kind-is : (j k : ItemKind) → is_same_kind j k ≡ true → IsOperationKind j → IsOperationKind k
same-kind-is ItemKind.Sort k e o = absurd o
same-kind-is ItemKind.Prefix ItemKind.Sort e o = absurd (cc)
same-kind-is ItemKind.Prefix ItemKind.Prefix e o = tt
same-kind-is ItemKind.Prefix ItemKind.Infix e o = tt
same-kind-is ItemKind.Infix ItemKind.Sort e o = absurd (cc)
same-kind-is ItemKind.Infix ItemKind.Prefix e o = tt
same-kind-is ItemKind.Infix ItemKind.Infix e o = tt

-- an item that isn't a sort
pub operation-kind : (k : ItemKind) → is_same_kind k ItemKind.Sort ≡ false → IsOperationKind k
operation-kind ItemKind.Sort e = absurd (cc)
operation-kind ItemKind.Prefix e = tt
operation-kind ItemKind.Infix e = tt

pub operation-sorts : (x : Item) → IsWellMade x → is_sort x ≡ false → 0 < length x.sorts
operation-sorts x h e = some-sorts x.kind x.sorts (operation-kind x.kind e) h

by-kind : (k : ItemKind) (name : List ℕ) (sorts : List (List ℕ)) → IsMadeAs k sorts → is_same_kind k ItemKind.Sort ≡ true → ◌≡◌ {A = Item} (record { kind = k; name = name; sorts = sorts }) (sort_item name)
by-kind ItemKind.Sort name sorts h e = ap (λ z. record { kind = ItemKind.Sort; name = name; sorts = z }) h
by-kind ItemKind.Prefix name sorts h e = absurd (cc)
by-kind ItemKind.Infix name sorts h e = absurd (cc)

pub sort-is-name : (x : Item) → IsWellMade x → is_sort x ≡ true → x ≡ sort_item x.name
sort-is-name x h e = by-kind x.kind x.name x.sorts h e

-- new names of operations are those of operations
abbrev pub NamesOperations : List NewOperation → Type 0
NamesOperations news = Each (λ n. IsOperationKind n.old_kind × IsOperationKind n.new_kind) news

pairs-name : (ps : List OperationPair) → NamesOperations (map new_operation ps)
pairs-name [] = tt
pairs-name (p ∷ ps) = ((kind-is p.old, kind-is p.new), pairs-name ps)

pub renaming-names : (pairs : Pairs) → NamesOperations (renaming_of pairs).operations
renaming-names pairs = pairs-name (listed pairs.operations)

pub kept-names : (formals : List Item) (renaming : Renaming) (x : Item) → NamesOperations renaming.operations → NamesOperations (kept_renaming formals renaming x).operations
kept-names formals renaming x h = by-test (has_formal_name formals x)
  where
    by-test : (b : Bool) → NamesOperations (if b then record { sorts = renaming.sorts; operations = [] } else renaming).operations
    by-test true = tt
    by-test false = h

pub kept-sorts : (formals : List Item) (renaming : Renaming) (x : Item) → (kept_renaming formals renaming x).sorts ≡ renaming.sorts
kept-sorts formals renaming x = by-test (has_formal_name formals x)
  where
    by-test : (b : Bool) → (if b then record { sorts = renaming.sorts; operations = [] } else renaming).sorts ≡ renaming.sorts
    by-test true = refl
    by-test false = refl

-- the sorts of an image are the images of sorts
pub image-sorts : (renaming : Renaming) (x : Item) → (image renaming x).sorts ≡ map (sort_image renaming.sorts) x.sorts
image-sorts renaming x = by-name (for_operation renaming.operations x)
  where
    by-name : (o : Option NewOperation) → (named_by o (sorts_renamed renaming.sorts x)).sorts ≡ map (sort_image renaming.sorts) x.sorts
    by-name None = refl
    by-name (Some n) = refl

named : (news : List NewOperation) → NamesOperations news → (n : NewOperation) → IsOneOf n news → IsOperationKind n.old_kind × IsOperationKind n.new_kind
named [] h n i = absurd i
named (m ∷ ms) h n (inl e) = subst (λ z. IsOperationKind z.old_kind × IsOperationKind z.new_kind) (sym e) h.0
named (m ∷ ms) h n (inr i) = named ms h.1 n i

-- an operation that gets a name is one, by a name that is one's
pub given : (news : List NewOperation) (x : Item) (n : NewOperation) → NamesOperations news → for_operation news x ≡ Some n → IsOperationKind x.kind × IsOperationKind n.new_kind
given news x n h e =
    let f : IsOneOf n news × (renames x n ≡ true) = find-passes (renames x) news n e in
    let k : IsOperationKind n.old_kind × IsOperationKind n.new_kind = named news h n f.0 in
    (same-kind-is n.old_kind x.kind (and_parts (is_same_kind n.old_kind x.kind) _ f.1).0 k.0, k.1)

renamed-made : (k : ItemKind) (f : List ℕ → List ℕ) (sorts : List (List ℕ)) → IsMadeAs k sorts → IsMadeAs k (map f sorts)
renamed-made ItemKind.Sort f sorts h = ap (map f) h
renamed-made ItemKind.Prefix f sorts h = omega (arith, h, length-map sorts f)
renamed-made ItemKind.Infix f sorts h = omega (arith, h, length-map sorts f)

pub image-made : (renaming : Renaming) (x : Item) → NamesOperations renaming.operations → IsWellMade x → IsWellMade (image renaming x)
image-made renaming x names h = by-name (for_operation renaming.operations x) refl
  where
    by-name : (o : Option NewOperation) → for_operation renaming.operations x ≡ o → IsWellMade (named_by o (sorts_renamed renaming.sorts x))
    by-name None e = renamed-made x.kind (sort_image renaming.sorts) x.sorts h
    by-name (Some n) e =
        let g : IsOperationKind x.kind × IsOperationKind n.new_kind = given renaming.operations x n names e in
        as-operation n.new_kind (map (sort_image renaming.sorts) x.sorts) g.1 (omega (arith, some-sorts x.kind x.sorts g.0 h, length-map x.sorts (sort_image renaming.sorts)))

not-sort : (k : ItemKind) → IsOperationKind k → is_same_kind k ItemKind.Sort ≡ false
not-sort ItemKind.Sort o = absurd o
not-sort ItemKind.Prefix o = refl
not-sort ItemKind.Infix o = refl

-- the image of an operation is an operation
pub image-of-operation : (renaming : Renaming) (x : Item) → NamesOperations renaming.operations → is_sort x ≡ false → is_sort (image renaming x) ≡ false
image-of-operation renaming x names h = by-name (for_operation renaming.operations x) refl
  where
    by-name : (o : Option NewOperation) → for_operation renaming.operations x ≡ o → is_sort (named_by o (sorts_renamed renaming.sorts x)) ≡ false
    by-name None e = h
    by-name (Some n) e = let g : IsOperationKind x.kind × IsOperationKind n.new_kind = given renaming.operations x n names e in not-sort n.new_kind g.1

-- the image of a sort is a sort
pub image-of-sort : (renaming : Renaming) (name : List ℕ) → NamesOperations renaming.operations → image renaming (sort_item name) ≡ sort_item (sort_image renaming.sorts name)
image-of-sort renaming name names = by-name (for_operation renaming.operations (sort_item name)) refl
  where
    by-name : (o : Option NewOperation) → for_operation renaming.operations (sort_item name) ≡ o → named_by o (sorts_renamed renaming.sorts (sort_item name)) ≡ sort_item (sort_image renaming.sorts name)
    by-name None e = refl
    by-name (Some n) e = let g : ⊥ × IsOperationKind n.new_kind = given renaming.operations (sort_item name) n names e in absurd g.0

-- what a type declares

some-behind : (xs : List (List ℕ)) (y : List ℕ) → 0 < length (xs ++ y ∷ [])
some-behind [] y = omega arith
some-behind (x ∷ xs) y = omega arith

operations-made : (ds : List OperationDecl) (d : Described) → IsOneOf d (flat_map declared_operations ds) → IsWellMade d.item
operations-made ds d h = by-declaration (from_flat_map declared_operations ds d h)
  where
    by-name : (o : OperationDecl) → (n : DeclaredName) × IsOneOf n o.names.items × (d ≡ declared_operation o n) → IsWellMade d.item
    by-name o (n, i, is) =
        subst (λ z. IsWellMade z.item) (sym is) (as-operation (kind_of n.name) (map small (listed o.arguments) ++ small o.result ∷ []) (kind-is n.name) (some-behind (map small (listed o.arguments)) (small o.result)))

    by-declaration : (o : OperationDecl) × IsOneOf o ds × IsOneOf d (declared_operations o) → IsWellMade d.item
    by-declaration (o, i, h) = by-name o (from_map (declared_operation o) o.names.items d h)

sorts-made : (ts : List Token) (d : Described) → IsOneOf d (map declared_sort ts) → IsWellMade d.item
sorts-made ts d h = by-name (from_map declared_sort ts d h)
  where
    by-name : (t : Token) × IsOneOf t ts × (d ≡ declared_sort t) → IsWellMade d.item
    by-name (t, i, is) = subst (λ z. IsWellMade z.item) (sym is) refl

own-made : (formals : Formals) (sorts : Option SortPart) (operations : Option OperationPart) (d : Described) → IsOneOf d (own_items formals sorts operations) → IsWellMade d.item
own-made formals sorts operations d h = elim (one_parts d (formal_sorts formals ++ map declared_sort (part_sort_names sorts) ++ formal_operations formals) (flat_map declared_operations (part_operations operations)) h) [
  | inl i ↦ elim (one_parts d (formal_sorts formals ++ map declared_sort (part_sort_names sorts)) (formal_operations formals) i) [
    | inl j ↦ elim (one_parts d (formal_sorts formals) (map declared_sort (part_sort_names sorts)) j) [
      | inl k ↦ sorts-made (sort_names formals.sorts) d k
      | inr k ↦ sorts-made (part_sort_names sorts) d k
    ]
    | inr j ↦ operations-made (listed formals.operations) d j
  ]
  | inr i ↦ operations-made (part_operations operations) d i
]

-- what types bring in

-- each of a table of what types bring in
abbrev AreMade : List (List Described) → Type 0
AreMade table = (k : ℕ) (d : Described) → IsOneOf d (slice_index_or table k []) → IsWellMade d.item

source-made : (types : List TypeDef) (table : List (List Described)) → AreMade table → (source : Token) (d : Described) → IsOneOf d (source_in_order types table source) → IsWellMade d.item
source-made types table h source d i =
    let r = ordered-from (length types) table (itself_and_parts types source) (items_of types (contents types) source) d i in
    h r.0 d r.1

pub kept-only : (b : Bool) (e : Described) (xs : List Described) → IsOneOf e (cond b [] xs) → IsOneOf e xs
kept-only true e xs h = absurd h
kept-only false e xs h = h

brings-made : (types : List TypeDef) (table : List (List Described)) → AreMade table → (body : TypeBody) (e : Described) → IsOneOf e (brings_by types table body) → IsWellMade e.item
brings-made types table h (Declared place imports formals sorts operations equations) e i = own-made formals sorts operations e i
brings-made types table h (Renamed place source pairs) e i = by-source (from_flat_map (new_image (described_image (renaming_of pairs))) (source_in_order types table source) e i)
  where
    by-source : (d : Described) × IsOneOf d (source_in_order types table source) × IsOneOf e (new_image (described_image (renaming_of pairs)) d) → IsWellMade e.item
    by-source (d, j, k) =
        subst (λ z. IsWellMade z.item) (sym (copied-from (described_image (renaming_of pairs)) d e k))
        (image-made (renaming_of pairs) d.item (renaming-names pairs) (source-made types table h source d j))
brings-made types table h (Actualized place source actuals pairs) e i = by-source (from_flat_map (new_kept (formals_of types (contents types) source) (renaming_of pairs)) (source_in_order types table source) e i)
  where
    kept : Described → Renaming
    kept d = kept_renaming (formals_of types (contents types) source) (renaming_of pairs) d.item

    by-source : (d : Described) × IsOneOf d (source_in_order types table source) × IsOneOf e (new_kept (formals_of types (contents types) source) (renaming_of pairs) d) → IsWellMade e.item
    by-source (d, j, k) =
        subst (λ z. IsWellMade z.item)
        (sym (copied-from (described_image (kept d)) d e (kept-only (is_in (formals_of types (contents types) source) d.item) e (new_image (described_image (kept d)) d) k)))
        (image-made (kept d) d.item (kept-names (formals_of types (contents types) source) (renaming_of pairs) d.item (renaming-names pairs)) (source-made types table h source d j))

round-made : (types : List TypeDef) (n : ℕ) → AreMade (rounds [] (brings types) types n)
round-made types zero k d i = by-type (made-at [] (λ _. []) types (rounds [] (brings types) types 0) refl k)
  where
    by-type : IsMadeAt [] (λ _. []) types (rounds [] (brings types) types 0) k → IsWellMade d.item
    by-type (made e at is) = absurd (subst (λ zs. IsOneOf d zs) is i)
    by-type (past at is) = absurd (subst (λ zs. IsOneOf d zs) is i)
round-made types (suc n) k d i = by-type (made-at [] (brings types (rounds [] (brings types) types n)) types (rounds [] (brings types) types (suc n)) refl k) (round-made types n)
  where
    by-definition : AreMade (rounds [] (brings types) types n) → (e : TypeDef) → IsOneOf d (brings types (rounds [] (brings types) types n) e) → IsWellMade d.item
    by-definition h (Library place names) j = absurd j
    by-definition h (Definition place name body) j = brings-made types (rounds [] (brings types) types n) h body d j

    by-type : IsMadeAt [] (brings types (rounds [] (brings types) types n)) types (rounds [] (brings types) types (suc n)) k → AreMade (rounds [] (brings types) types n) → IsWellMade d.item
    by-type (made e at is) h = by-definition h e (subst (λ zs. IsOneOf d zs) is i)
    by-type (past at is) h = absurd (subst (λ zs. IsOneOf d zs) is i)

pub in-some : {A : Type 0} (table : List (List A)) (x : A) → IsOneOf x (flat_map (λ all. all) table) → (k : ℕ) × IsOneOf x (slice_index_or table k [])
in-some [] x h = absurd h
in-some (xs ∷ table) x h = elim (one_parts x xs (flat_map (λ all. all) table) h) [
  | inl i ↦ (zero, i)
  | inr i ↦ let r : (k : ℕ) × IsOneOf x (slice_index_or table k []) = in-some table x i in (suc r.0, r.1)
]

pub all-made : (types : List TypeDef) (d : Described) → IsOneOf d (all_items types) → IsWellMade d.item
all-made types d h =
    let r : (k : ℕ) × IsOneOf d (slice_index_or (brought types) k []) = in-some (brought types) d (firsts-from (flat_map (λ all. all) (brought types)) d h) in
    round-made types (length types) r.0 d r.1
