-- Laws of data presentations.
use Rattle.std.specs.Prelude.{◌≡◌, ◌<◌, ◌^◌, ◌↔◌, List, [], length, map}
use Rattle.std.specs.List.{zip}
use Rattle.lotos_ast.specs.declared.types.TypeDef.{TypeDef}
use Rattle.spec_core.specs.Lists.{Each}
use Rattle.spec_core.specs.Sorts.{FitsData}
use Rattle.spec_core.specs.Theories.{ConditionalEquation, Theory}
use Rattle.type_contents.specs.Uses.{links}
use Rattle.type_cycles.specs.MadeFrom.{AreAcyclic}
use Rattle.type_equation_copies.specs.Contents.{Equations, made_from, equations}
use Rattle.flattening.specs.Refusals.{refusals_of}
use Rattle.static_presentation.specs.Presentations.{IsPresentation}
use Rattle.static_laws.specs.NamedTypes.{IsTypeNamed}
use Rattle.static_laws.specs.CompiledNames.{IsDataNamed}

-- Where nothing is refused of types, their data presentation fits together: each operation is over sorts of the data, and each equation's
-- sides and premises are terms of one sort over its variables. Their numbers must fit 32 bits
abbrev pub PresentationsFit : Type 0
PresentationsFit = (types : List TypeDef) (theory : Theory) → refusals_of types ≡ [] → IsPresentation types theory →
    length theory.sorts < 2 ^ 32 → length theory.operations < 2 ^ 32 → length theory.equations < 2 ^ 32 → FitsData theory

-- Where nothing is refused of types, and they declare names that the grammar allows, their data presentation has such names, and no two of
-- its sorts, and no two of its operations, share what tells them apart
abbrev pub PresentationsAreNamed : Type 0
PresentationsAreNamed = (types : List TypeDef) (theory : Theory) → refusals_of types ≡ [] → Each IsTypeNamed types →
    IsPresentation types theory →
    IsDataNamed theory

-- Where no type is made from itself, the equations of types, each with own ones, by rounds are those that the standard gives by recursion:
-- there is one table in which each type has just what it is made from, the others having what they have in it
abbrev pub EquationsAreByRecursion : Type 0
EquationsAreByRecursion = (types : List TypeDef) (own : List (List ConditionalEquation)) → length own ≡ length types →
    AreAcyclic (map (links types) types) → (table : List Equations) →
    (map (made_from types table) (zip types own) ≡ table) ↔ (table ≡ equations types own)
