-- Of alike types the same names are refused.
use Rattle.std.proofs.Common.{ℕ, zero, suc, ◌≡◌, ◌∙◌, refl, ap, List, [], ◌∷◌, ◌++◌, map, ◌&&◌, ◌==◌, Option, Some, None, if◌then◌else◌}
use Rattle.std.specs.List.{flat_map}
use Rattle.std.specs.Str.{bytes_eq}
use Rattle.lotos_ast.specs.declared.declaration.Declaration.{Declaration}
use Rattle.lotos_ast.specs.declared.refusal.RefusalKind.{RefusalKind}
use Rattle.lotos_ast.specs.declared.token.Token.{Token}
use Rattle.lotos_ast.specs.declared.types.EquationBody.{EquationBody}
use Rattle.lotos_ast.specs.declared.types.EquationPart.{EquationPart}
use Rattle.lotos_ast.specs.declared.types.ForAll.{ForAll}
use Rattle.lotos_ast.specs.declared.types.SortEquations.{SortEquations}
use Rattle.lotos_ast.specs.declared.types.TypeBody.{TypeBody}
use Rattle.lotos_ast.specs.declared.types.TypeBody.TheVariants.{Declared, Renamed, Actualized}
use Rattle.lotos_ast.specs.declared.types.TypeDef.{TypeDef}
use Rattle.lotos_ast.specs.declared.types.TypeDef.TheVariants.{Library, Definition}
use Rattle.type_contents.specs.Items.{small}
use Rattle.type_contents.specs.Uses.{is_called, uses, links}
use Rattle.type_cycles.specs.Cycles.{first_cycle}
use Rattle.type_names.specs.DuplicateNames.{names_twice, item_twice, declared_by, declared_in, lists_of, lists_if_there, part_lists, lists_by, lists_in, variables_twice, duplicate_names}
use Rattle.type_names.specs.Refused.{refused, each_after}
use Rattle.type_names.specs.TypeCycles.{type_name, name_at, cycle_refused, names_on, cycle_refusals}
use Rattle.type_names.specs.UnknownTypes.{unknown_type, is_library_type, library_names, unknown_library, unknown_types}
use Rattle.syntax_laws.specs.Alike.{AreAlike, IfThere, AreDeclarationsAlike, AreVariablesAlike, AreSortEquationsAlike, AreEquationBodiesAlike, AreEquationPartsAlike, AreBodiesAlike, AreTypesAlike}
use Rattle.static_uniqueness.proofs.Lists.{map-same, flat-same, any-same, append-alike, flat-alike}
use Rattle.static_uniqueness.proofs.Own.{own-items-same}
use Rattle.static_uniqueness.proofs.Contents.{is-called-same, uses-same, links-same}

type-name-same : (x y : TypeDef) → AreTypesAlike x y → type_name x ≡ type_name y
type-name-same (Library p names) (Library q others) h = refl
type-name-same (Library p names) (Definition q other content) h = absurd h
type-name-same (Definition p own body) (Library q others) h = absurd h
type-name-same (Definition p own body) (Definition q other content) h = λ i. h.1 i ∷ []

pub library-names-same : (x y : TypeDef) → AreTypesAlike x y → library_names x ≡ library_names y
library-names-same (Library p names) (Library q others) h = h.1
library-names-same (Library p names) (Definition q other content) h = absurd h
library-names-same (Definition p own body) (Library q others) h = absurd h
library-names-same (Definition p own body) (Definition q other content) h = refl

library-type-same : (name : List ℕ) (x y : TypeDef) → AreTypesAlike x y → is_library_type name x ≡ is_library_type name y
library-type-same name (Library p names) (Library q others) h = refl
library-type-same name (Library p names) (Definition q other content) h = absurd h
library-type-same name (Definition p own body) (Library q others) h = absurd h
library-type-same name (Definition p own body) (Definition q other content) h = λ i. bytes_eq (small (h.1 i)) name && ((h.1 i).place.line == 0)

-- variables

names-in-same : (d e : Declaration) → AreDeclarationsAlike d e → d.names.items ≡ e.names.items
names-in-same d e h = h.names

variables-twice-same : (f g : ForAll) → AreVariablesAlike f g → variables_twice f ≡ variables_twice g
variables-twice-same f g h =
    ap names_twice (flat-same AreDeclarationsAlike (λ (d : Declaration). d.names.items) (λ (d : Declaration). d.names.items) names-in-same f.declarations.list.items g.declarations.list.items h.list)

variables-of-alike : (e d : SortEquations) → AreSortEquationsAlike e d → AreAlike AreVariablesAlike e.variables.items d.variables.items
variables-of-alike e d h = h.variables

lists-of-alike : (b c : EquationBody) → AreEquationBodiesAlike b c → AreAlike AreVariablesAlike (lists_of b) (lists_of c)
lists-of-alike b c h =
    append-alike AreVariablesAlike b.variables.items c.variables.items (flat_map (λ (p : SortEquations). p.variables.items) b.parts.items) (flat_map (λ (p : SortEquations). p.variables.items) c.parts.items) h.variables
    (flat-alike AreSortEquationsAlike AreVariablesAlike (λ (p : SortEquations). p.variables.items) (λ (p : SortEquations). p.variables.items) variables-of-alike b.parts.items c.parts.items h.parts)

lists-if-there-alike : (o p : Option EquationBody) → IfThere AreEquationBodiesAlike o p → AreAlike AreVariablesAlike (lists_if_there o) (lists_if_there p)
lists-if-there-alike None None h = tt
lists-if-there-alike None (Some c) h = absurd h
lists-if-there-alike (Some b) None h = absurd h
lists-if-there-alike (Some b) (Some c) h = lists-of-alike b c h

part-lists-alike : (o p : Option EquationPart) → IfThere AreEquationPartsAlike o p → AreAlike AreVariablesAlike (part_lists o) (part_lists p)
part-lists-alike None None h = tt
part-lists-alike None (Some c) h = absurd h
part-lists-alike (Some b) None h = absurd h
part-lists-alike (Some b) (Some c) h = lists-of-alike b.body c.body h.body

lists-by-alike : (b c : TypeBody) → AreBodiesAlike b c → AreAlike AreVariablesAlike (lists_by b) (lists_by c)
lists-by-alike (Declared p imports f s o e) (Declared q others g v r d) k =
    append-alike AreVariablesAlike (lists_if_there f.equations) (lists_if_there g.equations) (part_lists e) (part_lists d)
    (lists-if-there-alike f.equations g.equations k.2.formals.equations) (part-lists-alike e d k.2.equations_alike)
lists-by-alike (Declared p imports f s o e) (Renamed q other news) k = absurd k
lists-by-alike (Declared p imports f s o e) (Actualized q other items news) k = absurd k
lists-by-alike (Renamed p source pairs) (Declared q others g v r d) k = absurd k
lists-by-alike (Renamed p source pairs) (Renamed q other news) k = tt
lists-by-alike (Renamed p source pairs) (Actualized q other items news) k = absurd k
lists-by-alike (Actualized p source actuals pairs) (Declared q others g v r d) k = absurd k
lists-by-alike (Actualized p source actuals pairs) (Renamed q other news) k = absurd k
lists-by-alike (Actualized p source actuals pairs) (Actualized q other items news) k = tt

lists-in-alike : (x y : TypeDef) → AreTypesAlike x y → AreAlike AreVariablesAlike (lists_in x) (lists_in y)
lists-in-alike (Library p names) (Library q others) h = tt
lists-in-alike (Library p names) (Definition q other content) h = absurd h
lists-in-alike (Definition p own body) (Library q others) h = absurd h
lists-in-alike (Definition p own body) (Definition q other content) h = lists-by-alike body content h.2

declared-by-same : (b c : TypeBody) → AreBodiesAlike b c → declared_by b ≡ declared_by c
declared-by-same (Declared p imports f s o e) (Declared q others g v r d) k = own-items-same f g s v o r e d k.2
declared-by-same (Declared p imports f s o e) (Renamed q other news) k = absurd k
declared-by-same (Declared p imports f s o e) (Actualized q other items news) k = absurd k
declared-by-same (Renamed p source pairs) (Declared q others g v r d) k = absurd k
declared-by-same (Renamed p source pairs) (Renamed q other news) k = refl
declared-by-same (Renamed p source pairs) (Actualized q other items news) k = absurd k
declared-by-same (Actualized p source actuals pairs) (Declared q others g v r d) k = absurd k
declared-by-same (Actualized p source actuals pairs) (Renamed q other news) k = absurd k
declared-by-same (Actualized p source actuals pairs) (Actualized q other items news) k = refl

declared-in-same : (x y : TypeDef) → AreTypesAlike x y → declared_in x ≡ declared_in y
declared-in-same (Library p names) (Library q others) h = refl
declared-in-same (Library p names) (Definition q other content) h = absurd h
declared-in-same (Definition p own body) (Library q others) h = absurd h
declared-in-same (Definition p own body) (Definition q other content) h = declared-by-same body content h.2

-- the types on a way
name-at-same : (xs ys : List TypeDef) → AreAlike AreTypesAlike xs ys → (k : ℕ) → name_at xs k ≡ name_at ys k
name-at-same [] [] h k = refl
name-at-same [] (y ∷ ys) h k = absurd h
name-at-same (x ∷ xs) [] h k = absurd h
name-at-same (x ∷ xs) (y ∷ ys) h zero = type-name-same x y h.0
name-at-same (x ∷ xs) (y ∷ ys) h (suc k) = name-at-same xs ys h.1 k

module _ (xs ys : List TypeDef) (h : AreAlike AreTypesAlike xs ys) where
  names-on-same : (way : Option (List ℕ)) → names_on xs way ≡ names_on ys way
  names-on-same None = refl
  names-on-same (Some way) = λ i. flat_map (λ (k : ℕ). name-at-same xs ys h k i) way

  pub cycles-same : cycle_refusals xs ≡ cycle_refusals ys
  cycles-same =
      let all = map-same AreTypesAlike (links xs) (links ys) (links-same xs ys h) xs ys h in
      (λ i. cycle_refused (names_on xs (first_cycle (all i)))) ∙ ap cycle_refused (names-on-same (first_cycle (map (links ys) ys)))

  unknown-type-same : (t : Token) → unknown_type xs t ≡ unknown_type ys t
  unknown-type-same t =
      let b = any-same AreTypesAlike (is_called (small t)) (is_called (small t)) (is-called-same (small t)) xs ys h in
      λ i. if b i then [] else refused RefusalKind.UnknownType t.place ∷ []

  unknown-library-same : (t : Token) → unknown_library xs t ≡ unknown_library ys t
  unknown-library-same t =
      let b = any-same AreTypesAlike (is_library_type (small t)) (is_library_type (small t)) (library-type-same (small t)) xs ys h in
      λ i. if b i then [] else refused RefusalKind.UnknownType t.place ∷ []

  pub unknown-same : unknown_types xs ≡ unknown_types ys
  unknown-same =
      let a = flat-same AreTypesAlike uses uses uses-same xs ys h in
      let b = flat-same AreTypesAlike library_names library_names library-names-same xs ys h in
      λ i. flat_map (λ (t : Token). unknown-type-same t i) (a i) ++ flat_map (λ (t : Token). unknown-library-same t i) (b i)

  pub duplicates-same : duplicate_names xs ≡ duplicate_names ys
  duplicates-same =
      let a = flat-same AreTypesAlike type_name type_name type-name-same xs ys h in
      let b = flat-same AreTypesAlike declared_in declared_in declared-in-same xs ys h in
      let c = flat-same AreVariablesAlike variables_twice variables_twice variables-twice-same (flat_map lists_in xs) (flat_map lists_in ys)
      (flat-alike AreTypesAlike AreVariablesAlike lists_in lists_in lists-in-alike xs ys h) in
      λ i. names_twice (a i) ++ each_after item_twice [] (b i) ++ c i
