-- Types whose names are such as the grammar allows. (ISO 8807, lexical tokens; and this profile.)
use Rattle.std.specs.Prelude.{ℕ, ◌≡◌, List, ◌++◌, length, Option, option_to_list}
use Rattle.lotos_ast.specs.declared.token.Token.{Token}
use Rattle.lotos_ast.specs.declared.types.EquationBody.{EquationBody}
use Rattle.lotos_ast.specs.declared.types.EquationPart.{EquationPart}
use Rattle.lotos_ast.specs.declared.types.ForAll.{ForAll}
use Rattle.lotos_ast.specs.declared.types.Formals.{Formals}
use Rattle.lotos_ast.specs.declared.types.OperationDecl.{OperationDecl}
use Rattle.lotos_ast.specs.declared.types.OperationName.{OperationName}
use Rattle.lotos_ast.specs.declared.types.OperationName.TheVariants.{Prefix, Infix}
use Rattle.lotos_ast.specs.declared.types.OperationPart.{OperationPart}
use Rattle.lotos_ast.specs.declared.types.Pairs.{Pairs}
use Rattle.lotos_ast.specs.declared.types.SortPart.{SortPart}
use Rattle.lotos_ast.specs.declared.types.TypeBody.{TypeBody}
use Rattle.lotos_ast.specs.declared.types.TypeBody.TheVariants.{Declared, Renamed, Actualized}
use Rattle.lotos_ast.specs.declared.types.TypeDef.{TypeDef}
use Rattle.lotos_ast.specs.declared.types.TypeDef.TheVariants.{Library, Definition}
use Rattle.spec_core.specs.Lists.{Each}
use Rattle.spec_core.specs.Names.{IsIdentifier, IsPlainName}
use Rattle.static_equations.specs.Variables.{declarations}
use Rattle.type_contents.specs.Lists.{listed}
use Rattle.type_contents.specs.Own.{name_of, sort_names, part_sort_names, part_operations}
use Rattle.static_presentation.specs.Own.{part_body}

-- the token is an identifier
abbrev pub IsNamed : Token → Type 0
IsNamed t = IsIdentifier t.text

-- the name of an operation, low lines aside
abbrev pub IsOperationNamed : OperationName → Type 0
IsOperationNamed name = IsPlainName (name_of name).text

-- an operation that stands between its arguments has two
abbrev pub HasPlaces : OperationName → ℕ → Type 0
HasPlaces (Prefix place name) n = Unit {0}
HasPlaces (Infix place name) n = n ≡ 2

abbrev pub IsDeclarationNamed : OperationDecl → Type 0
IsDeclarationNamed d = Each (λ n. IsOperationNamed n.name × HasPlaces n.name (length (listed d.arguments))) d.names.items

-- the variables that lists declare
abbrev pub AreVariablesNamed : List ForAll → Type 0
AreVariablesNamed lists = Each (λ d. Each IsNamed d.names.items) (declarations lists)

pub record AreEquationsNamed (body : EquationBody) : Type 0 where
  pub variables : AreVariablesNamed body.variables.items
  pub parts : Each (λ part. AreVariablesNamed part.variables.items) body.parts.items

-- the new names of pairs
pub record ArePairsNamed (pairs : Pairs) : Type 0 where
  pub sorts : Each (λ p. IsNamed p.new) (listed pairs.sorts)
  pub operations : Each (λ p. IsOperationNamed p.new) (listed pairs.operations)

pub record AreItemsNamed (formals : Formals) (sorts : Option SortPart) (operations : Option OperationPart)
    (equations : Option EquationPart) :
    Type 0 where
  pub formal_sorts : Each IsNamed (sort_names formals.sorts)
  pub sorts_named : Each IsNamed (part_sort_names sorts)
  pub formal_operations : Each IsDeclarationNamed (listed formals.operations)
  pub operations_named : Each IsDeclarationNamed (part_operations operations)
  pub equations_named : Each AreEquationsNamed (option_to_list formals.equations ++ part_body equations)

abbrev pub IsBodyNamed : TypeBody → Type 0
IsBodyNamed (Declared place imports formals sorts operations equations) = AreItemsNamed formals sorts operations equations
IsBodyNamed (Renamed place source pairs) = ArePairsNamed pairs
IsBodyNamed (Actualized place source actuals pairs) = ArePairsNamed pairs

-- what the type declares and renames has names that the grammar allows
abbrev pub IsTypeNamed : TypeDef → Type 0
IsTypeNamed (Library place names) = Unit {0}
IsTypeNamed (Definition place name body) = IsBodyNamed body
