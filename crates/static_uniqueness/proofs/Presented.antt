-- Alike types come to the same data.
use Rattle.std.proofs.Common.{◌≡◌, refl, subst, List, [], ◌++◌, map, Bool, not, ◌&&◌, Option, Some, None}
use Rattle.std.specs.Prelude.{option_to_list}
use Rattle.std.specs.List.{flat_map, filter, list_any, slice_index_or, zip}
use Rattle.lotos_ast.specs.declared.refusal.Refusal.{Refusal}
use Rattle.lotos_ast.specs.declared.token.Token.{Token}
use Rattle.lotos_ast.specs.declared.types.EquationBody.{EquationBody}
use Rattle.lotos_ast.specs.declared.types.EquationPart.{EquationPart}
use Rattle.lotos_ast.specs.declared.types.Pairs.{Pairs}
use Rattle.lotos_ast.specs.declared.types.TypeBody.{TypeBody}
use Rattle.lotos_ast.specs.declared.types.TypeBody.TheVariants.{Declared, Renamed, Actualized}
use Rattle.lotos_ast.specs.declared.types.TypeDef.{TypeDef}
use Rattle.lotos_ast.specs.declared.types.TypeDef.TheVariants.{Library, Definition}
use Rattle.spec_core.specs.Theories.{ConditionalEquation}
use Rattle.type_contents.specs.Contents.{Content, contents}
use Rattle.type_contents.specs.Items.{Item, Described, is_in}
use Rattle.type_contents.specs.Numbering.{all_sorts, all_operations, is_data}
use Rattle.static_equations.specs.Bodies.{IsBodyJudged}
use Rattle.static_equations.specs.Gathered.{Gathers}
use Rattle.type_images.specs.Images.{NewNumbers, equation_image}
use Rattle.type_images.specs.Same as same
use Rattle.type_equation_copies.specs.Copies.{image_in, image_numbers, copy_numbers}
use Rattle.type_equation_copies.specs.Contents.{Equations, no_equations, all_of, in_order, new_image, source_in_order, copied, newly_copied, all_by, brings_by, made_by, made_from, equations}
use Rattle.type_data.specs.Data.{data_sorts, data_operations, equations_in, data_equations, data_numbers, operation, data_of}
use Rattle.static_presentation.specs.Own.{part_body, bodies_by, bodies, AreRead, IsOwnOf, AreOwnEquations}
use Rattle.static_presentation.specs.Signatures.{type_context}
use Rattle.syntax_laws.specs.Alike.{AreAlike, IfThere, AreEquationBodiesAlike, AreEquationPartsAlike, ArePairsAlike, AreBodiesAlike, AreTypesAlike}
use Rattle.static_uniqueness.specs.Types.{SameIsRead, SameIsPresented}
use Rattle.static_uniqueness.proofs.Lists.{AreBesideSame, length-same, append-alike, zip-alike, table-same, gathers-alike, listed-same}
use Rattle.static_uniqueness.proofs.Own.{renaming-same}
use Rattle.static_uniqueness.proofs.Contents.{number-same, itself-same, formals-same, contents-same, formal-types-same, all-sorts-same, all-operations-same}
use Rattle.static_uniqueness.proofs.Equations.{body-same}

-- equations as they are written

there-alike : (o p : Option EquationBody) → IfThere AreEquationBodiesAlike o p → AreAlike AreEquationBodiesAlike (option_to_list o) (option_to_list p)
there-alike None None h = tt
there-alike None (Some c) h = absurd h
there-alike (Some b) None h = absurd h
there-alike (Some b) (Some c) h = (h, tt)

part-body-alike : (o p : Option EquationPart) → IfThere AreEquationPartsAlike o p → AreAlike AreEquationBodiesAlike (part_body o) (part_body p)
part-body-alike None None h = tt
part-body-alike None (Some c) h = absurd h
part-body-alike (Some b) None h = absurd h
part-body-alike (Some b) (Some c) h = (h.body, tt)

bodies-by-alike : (b c : TypeBody) → AreBodiesAlike b c → AreAlike AreEquationBodiesAlike (bodies_by b) (bodies_by c)
bodies-by-alike (Declared p imports f s o e) (Declared q others g v r d) k =
    append-alike AreEquationBodiesAlike (option_to_list f.equations) (option_to_list g.equations) (part_body e) (part_body d) (there-alike f.equations g.equations k.2.formals.equations) (part-body-alike e d k.2.equations_alike)
bodies-by-alike (Declared p imports f s o e) (Renamed q other news) k = absurd k
bodies-by-alike (Declared p imports f s o e) (Actualized q other items news) k = absurd k
bodies-by-alike (Renamed p source pairs) (Declared q others g v r d) k = absurd k
bodies-by-alike (Renamed p source pairs) (Renamed q other news) k = tt
bodies-by-alike (Renamed p source pairs) (Actualized q other items news) k = absurd k
bodies-by-alike (Actualized p source actuals pairs) (Declared q others g v r d) k = absurd k
bodies-by-alike (Actualized p source actuals pairs) (Renamed q other news) k = absurd k
bodies-by-alike (Actualized p source actuals pairs) (Actualized q other items news) k = tt

bodies-alike : (x y : TypeDef) → AreTypesAlike x y → AreAlike AreEquationBodiesAlike (bodies x) (bodies y)
bodies-alike (Library p names) (Library q others) h = tt
bodies-alike (Library p names) (Definition q other content) h = absurd h
bodies-alike (Definition p own body) (Library q others) h = absurd h
bodies-alike (Definition p own body) (Definition q other content) h = bodies-by-alike body content h.2

module _ (sorts operations : List Described) where
  read-same : (items : List Item) (bs ds : List EquationBody) → AreAlike AreEquationBodiesAlike bs ds → (found : List ConditionalEquation) (rs : List Refusal) →
      AreRead sorts operations items bs found rs → AreRead sorts operations items ds found rs
  read-same items bs ds k found rs h =
      (h.0, gathers-alike AreEquationBodiesAlike (IsBodyJudged (type_context sorts operations items)) (IsBodyJudged (type_context sorts operations items)) (body-same (type_context sorts operations items)) bs ds k h.0 rs h.1, h.2)

  own-same : (a b : TypeDef × Content) → AreBesideSame AreTypesAlike a b → (found : List (List ConditionalEquation)) (rs : List Refusal) → IsOwnOf sorts operations a found rs → IsOwnOf sorts operations b found rs
  own-same a b k found rs h =
      (h.0, h.1, subst (λ (z : Content). AreRead sorts operations z.items (bodies b.0) h.0 rs) k.1 (read-same a.1.items (bodies a.0) (bodies b.0) (bodies-alike a.0 b.0 k.0) h.0 rs h.2))

module _ (xs ys : List TypeDef) (h : AreAlike AreTypesAlike xs ys) where
  pub own-equations-same : (found : List (List ConditionalEquation)) (rs : List Refusal) → AreOwnEquations xs found rs → AreOwnEquations ys found rs
  own-equations-same found rs k =
      let over = subst (λ t. Gathers (IsOwnOf (all_sorts xs) (all_operations xs)) (zip xs t) found rs) (contents-same xs ys h) k in
      let sorted = subst (λ s. Gathers (IsOwnOf s (all_operations xs)) (zip xs (contents ys)) found rs) (all-sorts-same xs ys h) over in
      let all = subst (λ o. Gathers (IsOwnOf (all_sorts ys) o) (zip xs (contents ys)) found rs) (all-operations-same xs ys h) sorted in
      gathers-alike (AreBesideSame AreTypesAlike) (IsOwnOf (all_sorts ys) (all_operations ys)) (IsOwnOf (all_sorts ys) (all_operations ys)) (own-same (all_sorts ys) (all_operations ys))
      (zip xs (contents ys)) (zip ys (contents ys)) (zip-alike AreTypesAlike xs ys (contents ys) h) found rs all

  numbers-same : (ms ns : List Item) (p q : Pairs) → ms ≡ ns → ArePairsAlike p q → copy_numbers xs ms p ≡ copy_numbers ys ns q
  numbers-same ms ns p q e k = λ i. record {
    sorts = image_numbers (all-sorts-same xs ys h i) (image_in (e i) (renaming-same p q k i)) (all-sorts-same xs ys h i);
    operations = image_numbers (all-operations-same xs ys h i) (image_in (e i) (renaming-same p q k i)) (all-operations-same xs ys h i);
  }

  module _ (t : List Equations) where
    all-of-same : all_of xs t ≡ all_of ys t
    all-of-same = λ i. λ (name : Token). (slice_index_or t (number-same xs ys h i name) no_equations).all

    source-same : (a b : Token) → a ≡ b → source_in_order xs t a ≡ source_in_order ys t b
    source-same a b e = λ i. in_order (length-same AreTypesAlike xs ys h i) t (itself-same xs ys h i (e i)) (all-of-same i (e i))

    copied-same : (a b : Token) (m n : NewNumbers) → a ≡ b → m ≡ n → copied xs t a m ≡ copied ys t b n
    copied-same a b m n e k = λ i. map (equation_image (k i)) (all-of-same i (e i))

    newly-same : (a b : Token) (m n : NewNumbers) → a ≡ b → m ≡ n → newly_copied xs t a m ≡ newly_copied ys t b n
    newly-same a b m n e k = λ i. flat_map (new_image (k i)) (source-same a b e i)

    all-by-same : (own other : List ConditionalEquation) → own ≡ other → (b c : TypeBody) → AreBodiesAlike b c → all_by xs t own b ≡ all_by ys t other c
    all-by-same own other w (Declared p imports f s o e) (Declared q others g v r d) k = λ i. flat_map (all-of-same i) (listed-same imports others k.1 i) ++ w i
    all-by-same own other w (Declared p imports f s o e) (Renamed q source news) k = absurd k
    all-by-same own other w (Declared p imports f s o e) (Actualized q source items news) k = absurd k
    all-by-same own other w (Renamed p source pairs) (Declared q others g v r d) k = absurd k
    all-by-same own other w (Renamed p source pairs) (Renamed q others news) k = copied-same source others _ _ k.1 (numbers-same [] [] pairs news refl k.2)
    all-by-same own other w (Renamed p source pairs) (Actualized q others items news) k = absurd k
    all-by-same own other w (Actualized p source actuals pairs) (Declared q others g v r d) k = absurd k
    all-by-same own other w (Actualized p source actuals pairs) (Renamed q others news) k = absurd k
    all-by-same own other w (Actualized p source actuals pairs) (Actualized q others items news) k =
        let c = copied-same source others _ _ k.1 (numbers-same _ _ pairs news (formals-same xs ys h source others k.1) k.3) in
        λ i. flat_map (all-of-same i) (k.2 i) ++ c i

    brings-by-same : (own other : List ConditionalEquation) → own ≡ other → (b c : TypeBody) → AreBodiesAlike b c → brings_by xs t own b ≡ brings_by ys t other c
    brings-by-same own other w (Declared p imports f s o e) (Declared q others g v r d) k = w
    brings-by-same own other w (Declared p imports f s o e) (Renamed q source news) k = absurd k
    brings-by-same own other w (Declared p imports f s o e) (Actualized q source items news) k = absurd k
    brings-by-same own other w (Renamed p source pairs) (Declared q others g v r d) k = absurd k
    brings-by-same own other w (Renamed p source pairs) (Renamed q others news) k = newly-same source others _ _ k.1 (numbers-same [] [] pairs news refl k.2)
    brings-by-same own other w (Renamed p source pairs) (Actualized q others items news) k = absurd k
    brings-by-same own other w (Actualized p source actuals pairs) (Declared q others g v r d) k = absurd k
    brings-by-same own other w (Actualized p source actuals pairs) (Renamed q others news) k = absurd k
    brings-by-same own other w (Actualized p source actuals pairs) (Actualized q others items news) k =
        newly-same source others _ _ k.1 (numbers-same _ _ pairs news (formals-same xs ys h source others k.1) k.3)

    made-by-same : (own other : List ConditionalEquation) → own ≡ other → (x y : TypeDef) → AreTypesAlike x y → made_by xs t own x ≡ made_by ys t other y
    made-by-same own other w (Library p names) (Library q others) k = refl
    made-by-same own other w (Library p names) (Definition q name content) k = absurd k
    made-by-same own other w (Definition p name body) (Library q others) k = absurd k
    made-by-same own other w (Definition p name body) (Definition q names content) k =
        λ i. record { all = same.firsts (all-by-same own other w body content k.2 i); brought = brings-by-same own other w body content k.2 i }

    made-from-same : (a b : TypeDef × List ConditionalEquation) → AreBesideSame AreTypesAlike a b → made_from xs t a ≡ made_from ys t b
    made-from-same a b k = made-by-same a.1 b.1 k.1 a.0 b.0 k.0

  equations-same : (own : List (List ConditionalEquation)) → equations xs own ≡ equations ys own
  equations-same own = table-same (AreBesideSame AreTypesAlike) no_equations (made_from xs) (made_from ys) made-from-same (zip xs own) (zip ys own) (zip-alike AreTypesAlike xs ys own h)

  is-data-same : is_data xs ≡ is_data ys
  is-data-same = λ i. λ (x : Item). list_any (λ (e : Bool × Content). not e.0 && is_in e.1.items x) (zip (formal-types-same xs ys h i) (contents-same xs ys h i))

  data-sorts-same : data_sorts xs ≡ data_sorts ys
  data-sorts-same = λ i. filter (λ (d : Described). is-data-same i d.item) (all-sorts-same xs ys h i)

  data-operations-same : data_operations xs ≡ data_operations ys
  data-operations-same = λ i. filter (λ (d : Described). is-data-same i d.item) (all-operations-same xs ys h i)

  data-equations-same : (own : List (List ConditionalEquation)) → data_equations xs own ≡ data_equations ys own
  data-equations-same own = λ i. equations_in (formal-types-same xs ys h i) (equations-same own i)

  data-numbers-same : data_numbers xs ≡ data_numbers ys
  data-numbers-same = λ i. record {
    sorts = image_numbers (data-sorts-same i) (λ x. x) (all-sorts-same xs ys h i);
    operations = image_numbers (data-operations-same i) (λ x. x) (all-operations-same xs ys h i);
  }

  pub data-same : (own : List (List ConditionalEquation)) → data_of xs own ≡ data_of ys own
  data-same own = λ i. record {
    sorts = map (λ (d : Described). d.spelled) (data-sorts-same i);
    operations = map (operation (data-sorts-same i)) (data-operations-same i);
    equations = map (equation_image (data-numbers-same i)) (data-equations-same own i);
  }

pub own_same : SameIsRead
own_same = own-equations-same

pub data_same : SameIsPresented
data_same = data-same
