-- Of alike types the same copies are refused, and the same is refused in all.
use Rattle.std.proofs.Common.{◌≡◌, ◌∙◌, refl, List, [], ◌∷◌, ◌++◌, not, ◌||◌, option_map, if◌then◌else◌}
use Rattle.std.specs.Prelude.{unwrap_or}
use Rattle.std.specs.List.{flat_map, find, zip}
use Rattle.std.specs.Str.{bytes_eq}
use Rattle.lotos_ast.specs.declared.place.Place.{Place}
use Rattle.lotos_ast.specs.declared.refusal.RefusalKind.{RefusalKind}
use Rattle.lotos_ast.specs.declared.token.Token.{Token}
use Rattle.lotos_ast.specs.declared.types.OperationDecl.{OperationDecl}
use Rattle.lotos_ast.specs.declared.types.OperationPair.{OperationPair}
use Rattle.lotos_ast.specs.declared.types.Pairs.{Pairs}
use Rattle.lotos_ast.specs.declared.types.SortPair.{SortPair}
use Rattle.lotos_ast.specs.declared.types.TypeBody.{TypeBody}
use Rattle.lotos_ast.specs.declared.types.TypeBody.TheVariants.{Declared, Renamed, Actualized}
use Rattle.lotos_ast.specs.declared.types.TypeDef.{TypeDef}
use Rattle.lotos_ast.specs.declared.types.TypeDef.TheVariants.{Library, Definition}
use Rattle.type_contents.specs.Contents.{Content, contents, items_of, formals_of}
use Rattle.type_contents.specs.Images.{new_operation, renaming_of, renames, image}
use Rattle.type_contents.specs.Items.{Item, Described, small, is_sort, is_in}
use Rattle.type_contents.specs.Lists.{listed}
use Rattle.type_contents.specs.Numbering.{all_sorts, all_operations}
use Rattle.type_contents.specs.Own.{part_operations}
use Rattle.type_copies.specs.BadActuals.{pair_place, written, bad_actual, bad_actuals}
use Rattle.type_copies.specs.BadRenamings.{bad_sort_pair, bad_operation_pair, bad_pairs}
use Rattle.type_copies.specs.Copies.{Copy, copy}
use Rattle.type_copies.specs.UnknownSorts.{operation_sorts, sorts_by, sorts_in, unknown_sort, unknown_sorts}
use Rattle.type_names.specs.Refused.{each_after}
use Rattle.flattening.specs.Refusals.{bad_renaming, bad_actualization, bad_copy_by, bad_copy, refusals_by, refusals_of}
use Rattle.syntax_laws.specs.Alike.{AreAlike, AreOperationsAlike, ArePairsAlike, AreBodiesAlike, AreTypesAlike}
use Rattle.static_uniqueness.proofs.Lists.{AreBesideSame, flat-same, zip-alike, listed-same, listed-alike}
use Rattle.static_uniqueness.proofs.Own.{part-operations-alike, renaming-same}
use Rattle.static_uniqueness.proofs.Contents.{items-of-same, formals-of-same, contents-same, all-sorts-same, all-operations-same}
use Rattle.static_uniqueness.proofs.Names.{cycles-same, unknown-same, duplicates-same}

operation-sorts-same : (d e : OperationDecl) → AreOperationsAlike d e → operation_sorts d ≡ operation_sorts e
operation-sorts-same d e h =
    let args : listed d.arguments ≡ listed e.arguments = listed-same d.arguments e.arguments h.arguments in
    let result : d.result ≡ e.result = h.result in
    λ i. args i ++ result i ∷ []

sorts-by-same : (b c : TypeBody) → AreBodiesAlike b c → sorts_by b ≡ sorts_by c
sorts-by-same (Declared p imports f s o e) (Declared q others g v r d) k =
    let a = flat-same AreOperationsAlike operation_sorts operation_sorts operation-sorts-same (listed f.operations) (listed g.operations) (listed-alike AreOperationsAlike f.operations g.operations k.2.formals.operations) in
    let b = flat-same AreOperationsAlike operation_sorts operation_sorts operation-sorts-same (part_operations o) (part_operations r) (part-operations-alike o r k.2.operations_alike) in
    λ i. a i ++ b i
sorts-by-same (Declared p imports f s o e) (Renamed q other news) k = absurd k
sorts-by-same (Declared p imports f s o e) (Actualized q other items news) k = absurd k
sorts-by-same (Renamed p source pairs) (Declared q others g v r d) k = absurd k
sorts-by-same (Renamed p source pairs) (Renamed q other news) k = refl
sorts-by-same (Renamed p source pairs) (Actualized q other items news) k = absurd k
sorts-by-same (Actualized p source actuals pairs) (Declared q others g v r d) k = absurd k
sorts-by-same (Actualized p source actuals pairs) (Renamed q other news) k = absurd k
sorts-by-same (Actualized p source actuals pairs) (Actualized q other items news) k = refl

sorts-in-same : (x y : TypeDef) → AreTypesAlike x y → sorts_in x ≡ sorts_in y
sorts-in-same (Library p names) (Library q others) h = refl
sorts-in-same (Library p names) (Definition q other content) h = absurd h
sorts-in-same (Definition p own body) (Library q others) h = absurd h
sorts-in-same (Definition p own body) (Definition q other content) h = sorts-by-same body content h.2

unknown-sorts-same : (a b : TypeDef × Content) → AreBesideSame AreTypesAlike a b → unknown_sorts a.1.items a.0 ≡ unknown_sorts b.1.items b.0
unknown-sorts-same a b r = λ i. flat_map (unknown_sort (r.1 i).items) (sorts-in-same a.0 b.0 r.0 i)

module _ (p q : Pairs) (h : ArePairsAlike p q) where
  pub bad-pairs-same : (c : Copy) → bad_pairs c p ≡ bad_pairs c q
  bad-pairs-same c =
      let s = listed-same p.sorts q.sorts h.sorts in
      let o = listed-same p.operations q.operations h.operations in
      λ i. each_after (bad_sort_pair c) [] (s i) ++ each_after (bad_operation_pair c) [] (o i)

  pair-place-same : (place : Place) (x : Item) → pair_place place p x ≡ pair_place place q x
  pair-place-same place x =
      let s = listed-same p.sorts q.sorts h.sorts in
      let o = listed-same p.operations q.operations h.operations in
      λ i. if is_sort x then unwrap_or (option_map (λ (n : SortPair). n.place) (find (λ (n : SortPair). bytes_eq (small n.old) x.name) (s i))) place
      else unwrap_or (option_map (λ (n : OperationPair). n.place) (find (λ (n : OperationPair). renames x (new_operation n)) (o i))) place

  bad-actual-same : (place : Place) (formals actual : List Item) (d : Described) → bad_actual place p formals actual d ≡ bad_actual place q formals actual d
  bad-actual-same place formals actual d =
      λ i. if not (is_in formals d.item) || is_in actual (image (renaming-same p q h i) d.item) then []
      else record { kind = RefusalKind.BadActual; place = pair-place-same place d.item i; names = written d ∷ [] } ∷ []

  pub bad-actuals-same : (place : Place) (formals actual : List Item) (all : List Described) → bad_actuals place p formals actual all ≡ bad_actuals place q formals actual all
  bad-actuals-same place formals actual all = λ i. flat_map (λ (d : Described). bad-actual-same place formals actual d i) all

module _ (xs ys : List TypeDef) (h : AreAlike AreTypesAlike xs ys) (t : List Content) (all : List Described) where
  renaming-refused-same : (a b : Token) (p q : Pairs) → a ≡ b → ArePairsAlike p q → bad_renaming xs t a p ≡ bad_renaming ys t b q
  renaming-refused-same a b p q e k =
      (λ i. bad_pairs (copy (items-of-same xs ys h t i (e i)) [] (renaming-same p q k i)) p) ∙ bad-pairs-same p q k (copy (items_of ys t b) [] (renaming_of q))

  instance-refused-same : (place : Place) (a b : Token) (ms ns : List Token) (p q : Pairs) → a ≡ b → ms ≡ ns → ArePairsAlike p q →
      bad_actualization xs t all place a ms p ≡ bad_actualization ys t all place b ns q
  instance-refused-same place a b ms ns p q e f k =
      (λ i. bad_pairs (copy (items-of-same xs ys h t i (e i)) (formals-of-same xs ys h t i (e i)) (renaming-same p q k i)) p
      ++ bad_actuals place p (formals-of-same xs ys h t i (e i)) (flat_map (items-of-same xs ys h t i) (f i)) all)
      ∙ (λ i. bad-pairs-same p q k (copy (items_of ys t b) (formals_of ys t b) (renaming_of q)) i
      ++ bad-actuals-same p q k place (formals_of ys t b) (flat_map (items_of ys t) ns) all i)

  bad-copy-by-same : (n m : Place) → n ≡ m → (b c : TypeBody) → AreBodiesAlike b c → bad_copy_by xs t all n b ≡ bad_copy_by ys t all m c
  bad-copy-by-same n m w (Declared p imports f s o e) (Declared q others g v r d) k = refl
  bad-copy-by-same n m w (Declared p imports f s o e) (Renamed q other news) k = absurd k
  bad-copy-by-same n m w (Declared p imports f s o e) (Actualized q other items news) k = absurd k
  bad-copy-by-same n m w (Renamed p source pairs) (Declared q others g v r d) k = absurd k
  bad-copy-by-same n m w (Renamed p source pairs) (Renamed q other news) k = renaming-refused-same source other pairs news k.1 k.2
  bad-copy-by-same n m w (Renamed p source pairs) (Actualized q other items news) k = absurd k
  bad-copy-by-same n m w (Actualized p source actuals pairs) (Declared q others g v r d) k = absurd k
  bad-copy-by-same n m w (Actualized p source actuals pairs) (Renamed q other news) k = absurd k
  bad-copy-by-same n m w (Actualized p source actuals pairs) (Actualized q other items news) k =
      (λ i. bad_actualization xs t all (w i) source actuals.items pairs) ∙ instance-refused-same m source other actuals.items items.items pairs news k.1 k.2 k.3

  bad-copy-same : (x y : TypeDef) → AreTypesAlike x y → bad_copy xs t all x ≡ bad_copy ys t all y
  bad-copy-same (Library p names) (Library q others) k = refl
  bad-copy-same (Library p names) (Definition q other content) k = absurd k
  bad-copy-same (Definition p own body) (Library q others) k = absurd k
  bad-copy-same (Definition p own body) (Definition q other content) k = bad-copy-by-same own.place other.place (λ i. (k.1 i).place) body content k.2

  pub by-same : refusals_by xs t all ≡ refusals_by ys t all
  by-same =
      let a = unknown-same xs ys h in
      let b = cycles-same xs ys h in
      let c = flat-same (AreBesideSame AreTypesAlike) (λ (e : TypeDef × Content). unknown_sorts e.1.items e.0) (λ (e : TypeDef × Content). unknown_sorts e.1.items e.0) unknown-sorts-same (zip xs t) (zip ys t)
      (zip-alike AreTypesAlike xs ys t h) in
      let d = duplicates-same xs ys h in
      let e = flat-same AreTypesAlike (bad_copy xs t all) (bad_copy ys t all) bad-copy-same xs ys h in
      λ i. a i ++ b i ++ c i ++ d i ++ e i

pub refusals_same : (xs ys : List TypeDef) → AreAlike AreTypesAlike xs ys → refusals_of xs ≡ refusals_of ys
refusals_same xs ys h =
    (λ i. refusals_by xs (contents-same xs ys h i) (all-sorts-same xs ys h i ++ all-operations-same xs ys h i))
    ∙ by-same xs ys h (contents ys) (all_sorts ys ++ all_operations ys)
