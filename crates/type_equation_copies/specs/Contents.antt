-- The equations that types have, and those that they bring in (ISO 8807, ACT ONE). Sorts and operations go by their numbers among all.
use Rattle.std.specs.Prelude.{ℕ, nat_eq, List, [], ◌∷◌, ◌++◌, map, length, if◌then◌else◌}
use Rattle.std.specs.List.{flat_map, filter, list_any, slice_index_or, range_with_len, zip}
use Rattle.lotos_ast.specs.declared.token.Token.{Token}
use Rattle.lotos_ast.specs.declared.types.TypeDef.{TypeDef}
use Rattle.lotos_ast.specs.declared.types.TypeDef.TheVariants.{Library, Definition}
use Rattle.lotos_ast.specs.declared.types.TypeBody.{TypeBody}
use Rattle.lotos_ast.specs.declared.types.TypeBody.TheVariants.{Declared, Renamed, Actualized}
use Rattle.spec_core.specs.Theories.{ConditionalEquation}
use Rattle.type_contents.specs.Lists.{listed}
use Rattle.type_contents.specs.Uses.{number_of}
use Rattle.type_contents.specs.Rounds as rounds
use Rattle.type_contents.specs.Contents.{contents, formals_of}
use Rattle.type_contents.specs.Numbering.{itself_and_parts}
use Rattle.type_images.specs.Same.{is_same_equation, is_in, firsts}
use Rattle.type_images.specs.Images.{NewNumbers, equation_image}
use Rattle.type_equation_copies.specs.Copies.{copy_numbers}

pub record Equations : Type 0 where
  -- those that a type has, each once
  pub all : List ConditionalEquation
  -- those that it brings in: its own, or the new ones of a copy
  pub brought : List ConditionalEquation

abbrev pub no_equations : Equations
no_equations = record { all = []; brought = [] }

-- the equations of the type of this name, where each type has what the table says; none where there is no such type
abbrev pub all_of : List TypeDef → List Equations → Token → List ConditionalEquation
all_of types table name = (slice_index_or table (number_of types name) no_equations).all

-- what one of the types brings into a content: if it is one of these, what it brings in, as far as the content has it
abbrev pub brought_by : List Equations → List ℕ → List ConditionalEquation → ℕ → List ConditionalEquation
brought_by table among content k = if list_any (nat_eq k) among then filter (is_in content) (slice_index_or table k no_equations).brought
    else []

-- a content in order: the order of the list of types, and for each type that in which it brings in its own
abbrev pub in_order : ℕ → List Equations → List ℕ → List ConditionalEquation → List ConditionalEquation
in_order count table among content = firsts (flat_map (brought_by table among content) (range_with_len 0 count))

-- the equations of the type of this name in order
abbrev pub source_in_order : List TypeDef → List Equations → Token → List ConditionalEquation
source_in_order types table source = in_order (length types) table (itself_and_parts types source) (all_of types table source)

-- the image of an equation, where it is another equation
abbrev pub new_image : NewNumbers → ConditionalEquation → List ConditionalEquation
new_image news e = if is_same_equation (equation_image news e) e then [] else equation_image news e ∷ []

-- what a copy has: the images of the equations of what it copies
abbrev pub copied : List TypeDef → List Equations → Token → NewNumbers → List ConditionalEquation
copied types table source news = map (equation_image news) (all_of types table source)

-- what it brings in: the images that are other equations
abbrev pub newly_copied : List TypeDef → List Equations → Token → NewNumbers → List ConditionalEquation
newly_copied types table source news = flat_map (new_image news) (source_in_order types table source)

-- all equations of a type with these own ones, by how it is made: its own and those of its imports; the images of those of what it
-- copies; where formal items are replaced, also those of the actual types. The images of formal equations are equations like others
abbrev pub all_by : List TypeDef → List Equations → List ConditionalEquation → TypeBody → List ConditionalEquation
all_by types table own (Declared place imports formals sorts operations equations) = flat_map (all_of types table) (listed imports) ++ own
all_by types table own (Renamed place source pairs) = copied types table source (copy_numbers types [] pairs)
all_by types table own (Actualized place source actuals pairs) = flat_map (all_of types table) actuals.items
    ++ copied types table source (copy_numbers types (formals_of types (contents types) source) pairs)

abbrev pub brings_by : List TypeDef → List Equations → List ConditionalEquation → TypeBody → List ConditionalEquation
brings_by types table own (Declared place imports formals sorts operations equations) = own
brings_by types table own (Renamed place source pairs) = newly_copied types table source (copy_numbers types [] pairs)
brings_by types table own (Actualized place source actuals pairs) = newly_copied types table source
    (copy_numbers types (formals_of types (contents types) source) pairs)

abbrev pub made_by : List TypeDef → List Equations → List ConditionalEquation → TypeDef → Equations
made_by types table own (Library place names) = no_equations
made_by types table own (Definition place name body) = record {
  all = firsts (all_by types table own body);
  brought = brings_by types table own body;
}

-- the same of a type with its own equations
abbrev pub made_from : List TypeDef → List Equations → TypeDef × List ConditionalEquation → Equations
made_from types table d = made_by types table d.1 d.0

-- of each type its equations, where the types have these own ones
abbrev pub equations : List TypeDef → List (List ConditionalEquation) → List Equations
equations types own = rounds.table no_equations (made_from types) (zip types own)
