-- Alike types have the same sorts and operations, in the same order.
use Rattle.std.proofs.Common.{ℕ, ◌≡◌, refl, List, [], ◌∷◌, ◌++◌, length, map, Bool, false, ◌||◌, not, nat_eq, ◌==◌, Option, Some, None}
use Rattle.std.specs.List.{flat_map, filter, list_any, slice_index_or}
use Rattle.std.specs.Str.{bytes_eq}
use Rattle.lotos_ast.specs.declared.token.Token.{Token}
use Rattle.lotos_ast.specs.declared.types.EquationBody.{EquationBody}
use Rattle.lotos_ast.specs.declared.types.Formals.{Formals}
use Rattle.lotos_ast.specs.declared.types.OperationDecl.{OperationDecl}
use Rattle.lotos_ast.specs.declared.types.SortEquations.{SortEquations}
use Rattle.lotos_ast.specs.declared.types.TypeBody.{TypeBody}
use Rattle.lotos_ast.specs.declared.types.TypeBody.TheVariants.{Declared, Renamed, Actualized}
use Rattle.lotos_ast.specs.declared.types.TypeDef.{TypeDef}
use Rattle.lotos_ast.specs.declared.types.TypeDef.TheVariants.{Library, Definition}
use Rattle.type_contents.specs.Contents.{Content, no_content, content_of, items_of, formals_of, kept, items_by, formals_by, made_from, contents}
use Rattle.type_contents.specs.FormalTypes.{is_filled, has_equations, is_declaring, declares_formals, is_formal_by, is_formal_from, formal_types}
use Rattle.type_contents.specs.Images.{image, described_image}
use Rattle.type_contents.specs.Items.{Described, small, item_of, union, firsts, is_sort}
use Rattle.type_contents.specs.Lists.{listed, each_once}
use Rattle.type_contents.specs.Numbering.{parts_from, parts, in_order, itself_and_parts, source_in_order, new_image, new_kept, brings_by, brings, brought, all_items, all_sorts, all_operations}
use Rattle.type_contents.specs.Uses.{is_called, number_of, uses_by, uses, links}
use Rattle.syntax_laws.specs.Alike.{AreAlike, IfThere, AreOperationsAlike, AreEquationsAlike, AreSortEquationsAlike, AreEquationBodiesAlike, AreFormalsAlike, AreBodiesAlike, AreTypesAlike}
use Rattle.static_uniqueness.proofs.Lists.{length-same, any-same, position-same, table-same, listed-same, listed-alike}
use Rattle.static_uniqueness.proofs.Own.{sort-names-same, own-formals-same, own-items-same, renaming-same}

pub is-called-same : (name : List ℕ) (x y : TypeDef) → AreTypesAlike x y → is_called name x ≡ is_called name y
is-called-same name (Library p names) (Library q others) h = refl
is-called-same name (Library p names) (Definition q other content) h = absurd h
is-called-same name (Definition p own body) (Library q others) h = absurd h
is-called-same name (Definition p own body) (Definition q other content) h = λ i. bytes_eq (small (h.1 i)) name

uses-by-same : (b c : TypeBody) → AreBodiesAlike b c → uses_by b ≡ uses_by c
uses-by-same (Declared p imports f s o e) (Declared q others g t r d) h = listed-same imports others h.1
uses-by-same (Declared p imports f s o e) (Renamed q other news) h = absurd h
uses-by-same (Declared p imports f s o e) (Actualized q other items news) h = absurd h
uses-by-same (Renamed p source pairs) (Declared q others g t r d) h = absurd h
uses-by-same (Renamed p source pairs) (Renamed q other news) h = λ i. h.1 i ∷ []
uses-by-same (Renamed p source pairs) (Actualized q other items news) h = absurd h
uses-by-same (Actualized p source actuals pairs) (Declared q others g t r d) h = absurd h
uses-by-same (Actualized p source actuals pairs) (Renamed q other news) h = absurd h
uses-by-same (Actualized p source actuals pairs) (Actualized q other items news) h = λ i. h.1 i ∷ h.2 i

pub uses-same : (x y : TypeDef) → AreTypesAlike x y → uses x ≡ uses y
uses-same (Library p names) (Library q others) h = refl
uses-same (Library p names) (Definition q other content) h = absurd h
uses-same (Definition p own body) (Library q others) h = absurd h
uses-same (Definition p own body) (Definition q other content) h = uses-by-same body content h.2

-- formal types

is-filled-same : (e d : SortEquations) → AreSortEquationsAlike e d → is_filled e ≡ is_filled d
is-filled-same e d h = λ i. not (length-same AreEquationsAlike e.equations.items d.equations.items h.equations i == 0)

has-equations-same : (o p : Option EquationBody) → IfThere AreEquationBodiesAlike o p → has_equations o ≡ has_equations p
has-equations-same None None h = refl
has-equations-same None (Some c) h = absurd h
has-equations-same (Some b) None h = absurd h
has-equations-same (Some b) (Some c) h = any-same AreSortEquationsAlike is_filled is_filled is-filled-same b.parts.items c.parts.items h.parts

is-declaring-same : (d e : OperationDecl) → AreOperationsAlike d e → is_declaring d ≡ is_declaring e
is-declaring-same d e h = let names : d.names.items ≡ e.names.items = h.names in λ i. not (length (names i) == 0)

declares-formals-same : (f g : Formals) → AreFormalsAlike f g → declares_formals f ≡ declares_formals g
declares-formals-same f g h =
    let a = sort-names-same f.sorts g.sorts h.sorts in
    let b = any-same AreOperationsAlike is_declaring is_declaring is-declaring-same (listed f.operations) (listed g.operations) (listed-alike AreOperationsAlike f.operations g.operations h.operations) in
    let c = has-equations-same f.equations g.equations h.equations in
    λ i. not (length (a i) == 0) || b i || c i

module _ (xs ys : List TypeDef) (h : AreAlike AreTypesAlike xs ys) where
  pub number-same : number_of xs ≡ number_of ys
  number-same = λ i. λ (name : Token). position-same AreTypesAlike (is_called (small name)) (is_called (small name)) (is-called-same (small name)) xs ys h i

  pub links-same : (x y : TypeDef) → AreTypesAlike x y → links xs x ≡ links ys y
  links-same x y r = λ i. map (number-same i) (uses-same x y r i)

  content-same : (t : List Content) → content_of xs t ≡ content_of ys t
  content-same t = λ i. λ (name : Token). slice_index_or t (number-same i name) no_content

  pub items-of-same : (t : List Content) → items_of xs t ≡ items_of ys t
  items-of-same t = λ i. λ (name : Token). (slice_index_or t (number-same i name) no_content).items

  pub formals-of-same : (t : List Content) → formals_of xs t ≡ formals_of ys t
  formals-of-same t = λ i. λ (name : Token). (slice_index_or t (number-same i name) no_content).formals

  items-by-same : (t : List Content) (b c : TypeBody) → AreBodiesAlike b c → items_by xs t b ≡ items_by ys t c
  items-by-same t (Declared p imports f s o e) (Declared q others g v r d) k =
      λ i. flat_map (items-of-same t i) (listed-same imports others k.1 i) ++ map item_of (own-items-same f g s v o r e d k.2 i)
  items-by-same t (Declared p imports f s o e) (Renamed q other news) k = absurd k
  items-by-same t (Declared p imports f s o e) (Actualized q other items news) k = absurd k
  items-by-same t (Renamed p source pairs) (Declared q others g v r d) k = absurd k
  items-by-same t (Renamed p source pairs) (Renamed q other news) k = λ i. map (image (renaming-same pairs news k.2 i)) (items-of-same t i (k.1 i))
  items-by-same t (Renamed p source pairs) (Actualized q other items news) k = absurd k
  items-by-same t (Actualized p source actuals pairs) (Declared q others g v r d) k = absurd k
  items-by-same t (Actualized p source actuals pairs) (Renamed q other news) k = absurd k
  items-by-same t (Actualized p source actuals pairs) (Actualized q other items news) k =
      λ i. flat_map (items-of-same t i) (k.2 i) ++ kept (content-same t i (k.1 i)) (renaming-same pairs news k.3 i)

  formals-by-same : (t : List Content) (b c : TypeBody) → AreBodiesAlike b c → formals_by xs t b ≡ formals_by ys t c
  formals-by-same t (Declared p imports f s o e) (Declared q others g v r d) k =
      λ i. flat_map (formals-of-same t i) (listed-same imports others k.1 i) ++ map item_of (own-formals-same f g k.2.formals i)
  formals-by-same t (Declared p imports f s o e) (Renamed q other news) k = absurd k
  formals-by-same t (Declared p imports f s o e) (Actualized q other items news) k = absurd k
  formals-by-same t (Renamed p source pairs) (Declared q others g v r d) k = absurd k
  formals-by-same t (Renamed p source pairs) (Renamed q other news) k = λ i. map (image (renaming-same pairs news k.2 i)) (formals-of-same t i (k.1 i))
  formals-by-same t (Renamed p source pairs) (Actualized q other items news) k = absurd k
  formals-by-same t (Actualized p source actuals pairs) (Declared q others g v r d) k = absurd k
  formals-by-same t (Actualized p source actuals pairs) (Renamed q other news) k = absurd k
  formals-by-same t (Actualized p source actuals pairs) (Actualized q other items news) k = λ i. flat_map (formals-of-same t i) (k.2 i)

  made-same : (t : List Content) (x y : TypeDef) → AreTypesAlike x y → made_from xs t x ≡ made_from ys t y
  made-same t (Library p names) (Library q others) k = refl
  made-same t (Library p names) (Definition q other content) k = absurd k
  made-same t (Definition p own body) (Library q others) k = absurd k
  made-same t (Definition p own body) (Definition q other content) k = λ i. record { items = union (items-by-same t body content k.2 i); formals = union (formals-by-same t body content k.2 i) }

  pub contents-same : contents xs ≡ contents ys
  contents-same = table-same AreTypesAlike no_content (made_from xs) (made_from ys) made-same xs ys h

  formal-by-same : (t : List Bool) (b c : TypeBody) → AreBodiesAlike b c → is_formal_by xs t b ≡ is_formal_by ys t c
  formal-by-same t (Declared p imports f s o e) (Declared q others g v r d) k =
      λ i. declares-formals-same f g k.2.formals i || list_any (λ (name : Token). slice_index_or t (number-same i name) false) (listed-same imports others k.1 i)
  formal-by-same t (Declared p imports f s o e) (Renamed q other news) k = absurd k
  formal-by-same t (Declared p imports f s o e) (Actualized q other items news) k = absurd k
  formal-by-same t (Renamed p source pairs) (Declared q others g v r d) k = absurd k
  formal-by-same t (Renamed p source pairs) (Renamed q other news) k = λ i. slice_index_or t (number-same i (k.1 i)) false
  formal-by-same t (Renamed p source pairs) (Actualized q other items news) k = absurd k
  formal-by-same t (Actualized p source actuals pairs) (Declared q others g v r d) k = absurd k
  formal-by-same t (Actualized p source actuals pairs) (Renamed q other news) k = absurd k
  formal-by-same t (Actualized p source actuals pairs) (Actualized q other items news) k = refl

  formal-from-same : (t : List Bool) (x y : TypeDef) → AreTypesAlike x y → is_formal_from xs t x ≡ is_formal_from ys t y
  formal-from-same t (Library p names) (Library q others) k = refl
  formal-from-same t (Library p names) (Definition q other content) k = absurd k
  formal-from-same t (Definition p own body) (Library q others) k = absurd k
  formal-from-same t (Definition p own body) (Definition q other content) k = formal-by-same t body content k.2

  pub formal-types-same : formal_types xs ≡ formal_types ys
  formal-types-same = table-same AreTypesAlike false (is_formal_from xs) (is_formal_from ys) formal-from-same xs ys h

  parts-from-same : (t : List (List ℕ)) (x y : TypeDef) → AreTypesAlike x y → parts_from xs t x ≡ parts_from ys t y
  parts-from-same t x y r = λ i. each_once nat_eq (flat_map (λ k. k ∷ slice_index_or t k []) (links-same x y r i))

  pub parts-same : parts xs ≡ parts ys
  parts-same = table-same AreTypesAlike [] (parts_from xs) (parts_from ys) parts-from-same xs ys h

  pub itself-same : itself_and_parts xs ≡ itself_and_parts ys
  itself-same = λ i. λ (name : Token). number-same i name ∷ slice_index_or (parts-same i) (number-same i name) []

  -- what the types of these names have
  pub items-same : (a b : Token) → a ≡ b → items_of xs (contents xs) a ≡ items_of ys (contents ys) b
  items-same a b e = λ i. (slice_index_or (contents-same i) (number-same i (e i)) no_content).items

  pub formals-same : (a b : Token) → a ≡ b → formals_of xs (contents xs) a ≡ formals_of ys (contents ys) b
  formals-same a b e = λ i. (slice_index_or (contents-same i) (number-same i (e i)) no_content).formals

  source-same : (t : List (List Described)) (a b : Token) → a ≡ b → source_in_order xs t a ≡ source_in_order ys t b
  source-same t a b e = λ i. in_order (length-same AreTypesAlike xs ys h i) t (itself-same i (e i)) (items-same a b e i)

  brings-by-same : (t : List (List Described)) (b c : TypeBody) → AreBodiesAlike b c → brings_by xs t b ≡ brings_by ys t c
  brings-by-same t (Declared p imports f s o e) (Declared q others g v r d) k = own-items-same f g s v o r e d k.2
  brings-by-same t (Declared p imports f s o e) (Renamed q other news) k = absurd k
  brings-by-same t (Declared p imports f s o e) (Actualized q other items news) k = absurd k
  brings-by-same t (Renamed p source pairs) (Declared q others g v r d) k = absurd k
  brings-by-same t (Renamed p source pairs) (Renamed q other news) k = λ i. flat_map (new_image (described_image (renaming-same pairs news k.2 i))) (source-same t source other k.1 i)
  brings-by-same t (Renamed p source pairs) (Actualized q other items news) k = absurd k
  brings-by-same t (Actualized p source actuals pairs) (Declared q others g v r d) k = absurd k
  brings-by-same t (Actualized p source actuals pairs) (Renamed q other news) k = absurd k
  brings-by-same t (Actualized p source actuals pairs) (Actualized q other items news) k =
      λ i. flat_map (new_kept (formals-same source other k.1 i) (renaming-same pairs news k.3 i)) (source-same t source other k.1 i)

  brings-same : (t : List (List Described)) (x y : TypeDef) → AreTypesAlike x y → brings xs t x ≡ brings ys t y
  brings-same t (Library p names) (Library q others) k = refl
  brings-same t (Library p names) (Definition q other content) k = absurd k
  brings-same t (Definition p own body) (Library q others) k = absurd k
  brings-same t (Definition p own body) (Definition q other content) k = brings-by-same t body content k.2

  brought-same : brought xs ≡ brought ys
  brought-same = table-same AreTypesAlike [] (brings xs) (brings ys) brings-same xs ys h

  pub all-items-same : all_items xs ≡ all_items ys
  all-items-same = λ i. firsts (flat_map (λ all. all) (brought-same i))

  pub all-sorts-same : all_sorts xs ≡ all_sorts ys
  all-sorts-same = λ i. filter (λ (d : Described). is_sort d.item) (all-items-same i)

  pub all-operations-same : all_operations xs ≡ all_operations ys
  all-operations-same = λ i. filter (λ (d : Described). not (is_sort d.item)) (all-items-same i)
