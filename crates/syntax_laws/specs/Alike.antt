-- Types that are alike: they have the same parts, wherever these lie in memory. A list of the program has a place in memory and room behind
-- its elements, and what is behind a pointer has a place; no tree keeps them, and nothing that is said of types asks for them.
use Rattle.std.specs.Prelude.{◌≡◌, List, [], ◌∷◌, Option, Some, None, Vec}
use Rattle.std.specs.declared.alloc.Global.{Global}
use Rattle.lotos_ast.specs.declared.declaration.Declaration.{Declaration}
use Rattle.lotos_ast.specs.declared.expression.Premiss.{Premiss}
use Rattle.lotos_ast.specs.declared.types.TypeDef.{TypeDef}
use Rattle.lotos_ast.specs.declared.types.TypeDef.TheVariants.{Library, Definition}
use Rattle.lotos_ast.specs.declared.types.TypeBody.{TypeBody}
use Rattle.lotos_ast.specs.declared.types.TypeBody.TheVariants.{Declared, Renamed, Actualized}
use Rattle.lotos_ast.specs.declared.types.Formals.{Formals}
use Rattle.lotos_ast.specs.declared.types.SortPart.{SortPart}
use Rattle.lotos_ast.specs.declared.types.SortList.{SortList}
use Rattle.lotos_ast.specs.declared.types.OperationPart.{OperationPart}
use Rattle.lotos_ast.specs.declared.types.OperationDecl.{OperationDecl}
use Rattle.lotos_ast.specs.declared.types.EquationPart.{EquationPart}
use Rattle.lotos_ast.specs.declared.types.EquationBody.{EquationBody}
use Rattle.lotos_ast.specs.declared.types.ForAll.{ForAll}
use Rattle.lotos_ast.specs.declared.types.SortEquations.{SortEquations}
use Rattle.lotos_ast.specs.declared.types.Equation.{Equation}
use Rattle.lotos_ast.specs.declared.types.Pairs.{Pairs}
use Rattle.lotos_ast.specs.ExpressionTrees.{expr_tree, premiss_tree}

-- as many elements, each related to the one at its place
abbrev pub AreAlike : {A : Type 0} → (A → A → Type 0) → List A → List A → Type 0
AreAlike R [] [] = Unit {0}
AreAlike R (x ∷ xs) (y ∷ ys) = R x y × AreAlike R xs ys
AreAlike R [] (y ∷ ys) = ⊥
AreAlike R (x ∷ xs) [] = ⊥

-- both are left out, or neither is and they are related
abbrev pub IfThere : {A : Type 0} → (A → A → Type 0) → Option A → Option A → Type 0
IfThere R None None = Unit {0}
IfThere R (Some x) (Some y) = R x y
IfThere R None (Some y) = ⊥
IfThere R (Some x) None = ⊥

-- lists of the program with the same elements, and with elements that are related
abbrev pub HaveSame : {A : Type 0} → Vec A Global → Vec A Global → Type 0
HaveSame xs ys = xs.items ≡ ys.items

abbrev pub HaveAlike : {A : Type 0} → (A → A → Type 0) → Vec A Global → Vec A Global → Type 0
HaveAlike R xs ys = AreAlike R xs.items ys.items

pub record AreDeclarationsAlike (d e : Declaration) : Type 0 where
  pub place : d.place ≡ e.place
  pub names : HaveSame d.names e.names
  pub sort : d.sort ≡ e.sort

pub record AreVariablesAlike (f h : ForAll) : Type 0 where
  pub place : f.place ≡ h.place
  pub list_place : f.declarations.place ≡ h.declarations.place
  pub list : HaveAlike AreDeclarationsAlike f.declarations.list h.declarations.list

pub record AreSortListsAlike (l m : SortList) : Type 0 where
  pub place : l.place ≡ m.place
  pub names : HaveSame l.names m.names

pub record AreSortPartsAlike (s t : SortPart) : Type 0 where
  pub place : s.place ≡ t.place
  pub sorts : AreSortListsAlike s.sorts t.sorts

pub record AreOperationsAlike (d e : OperationDecl) : Type 0 where
  pub place : d.place ≡ e.place
  pub names : HaveSame d.names e.names
  pub arguments : IfThere HaveSame d.arguments e.arguments
  pub result : d.result ≡ e.result

pub record AreOperationPartsAlike (o p : OperationPart) : Type 0 where
  pub place : o.place ≡ p.place
  pub operations : HaveAlike AreOperationsAlike o.operations p.operations

-- of conditions and expressions the trees say all that is asked
abbrev pub ArePremissesAlike : Premiss → Premiss → Type 0
ArePremissesAlike p q = premiss_tree p ≡ premiss_tree q

pub record AreEquationsAlike (e d : Equation) : Type 0 where
  pub place : e.place ≡ d.place
  pub premisses : IfThere (HaveAlike ArePremissesAlike) e.premisses d.premisses
  pub left : expr_tree e.left ≡ expr_tree d.left
  pub right : expr_tree e.right ≡ expr_tree d.right

pub record AreSortEquationsAlike (e d : SortEquations) : Type 0 where
  pub place : e.place ≡ d.place
  pub sort : e.sort ≡ d.sort
  pub variables : HaveAlike AreVariablesAlike e.variables d.variables
  pub equations : HaveAlike AreEquationsAlike e.equations d.equations

pub record AreEquationBodiesAlike (b c : EquationBody) : Type 0 where
  pub place : b.place ≡ c.place
  pub variables : HaveAlike AreVariablesAlike b.variables c.variables
  pub parts : HaveAlike AreSortEquationsAlike b.parts c.parts

pub record AreEquationPartsAlike (e d : EquationPart) : Type 0 where
  pub place : e.place ≡ d.place
  pub body : AreEquationBodiesAlike e.body d.body

pub record AreFormalsAlike (f h : Formals) : Type 0 where
  pub place : f.place ≡ h.place
  pub sorts : IfThere AreSortListsAlike f.sorts h.sorts
  pub operations : IfThere (HaveAlike AreOperationsAlike) f.operations h.operations
  pub equations : IfThere AreEquationBodiesAlike f.equations h.equations

pub record ArePairsAlike (p q : Pairs) : Type 0 where
  pub place : p.place ≡ q.place
  pub sorts : IfThere HaveSame p.sorts q.sorts
  pub operations : IfThere HaveSame p.operations q.operations

-- what types declare
pub record AreItemsAlike (f h : Formals) (sorts others : Option SortPart) (operations further : Option OperationPart)
    (equations more : Option EquationPart) : Type 0 where
  pub formals : AreFormalsAlike f h
  pub sorts_alike : IfThere AreSortPartsAlike sorts others
  pub operations_alike : IfThere AreOperationPartsAlike operations further
  pub equations_alike : IfThere AreEquationPartsAlike equations more

abbrev pub AreBodiesAlike : TypeBody → TypeBody → Type 0
AreBodiesAlike (Declared p imports f sorts operations equations) (Declared q others h parts further more) =
    (p ≡ q) × IfThere HaveSame imports others × AreItemsAlike f h sorts parts operations further equations more
AreBodiesAlike (Renamed p source pairs) (Renamed q other news) = (p ≡ q) × (source ≡ other) × ArePairsAlike pairs news
AreBodiesAlike (Actualized p source actuals pairs) (Actualized q other items news) =
    (p ≡ q) × (source ≡ other) × HaveSame actuals items × ArePairsAlike pairs news
AreBodiesAlike _ _ = ⊥

abbrev pub AreTypesAlike : TypeDef → TypeDef → Type 0
AreTypesAlike (Library p names) (Library q others) = (p ≡ q) × HaveSame names others
AreTypesAlike (Definition p name body) (Definition q other content) = (p ≡ q) × (name ≡ other) × AreBodiesAlike body content
AreTypesAlike _ _ = ⊥
