-- There is one list of own equations for each type.
use Rattle.std.proofs.Common.{suc, ◌≡◌, ◌∙◌, refl, sym, ap, List, [], ◌++◌, length, map, Some, Vec, Global}
use Rattle.std.proofs.lemmas.List.{length-map}
use Rattle.lotos_ast.specs.declared.refusal.Refusal.{Refusal}
use Rattle.lotos_ast.specs.declared.types.TypeDef.{TypeDef}
use Rattle.lotos_ast.specs.FirstRefusals.{first_refusal}
use Rattle.spec_core.specs.declared.equation.Equation.{Equation}
use Rattle.spec_core.specs.Theories.{ConditionalEquation, Theory}
use Rattle.spec_core.proofs.Lists.{length_zip}
use Rattle.static_equations.specs.Gathered.{Gathers, none, further}
use Rattle.type_contents.specs.Contents.{Content, no_content, contents, made_from}
use Rattle.type_contents.specs.Items.{Described}
use Rattle.type_contents.specs.Numbering.{all_sorts, all_operations}
use Rattle.type_contents.proofs.Settled.{rounds_length}
use Rattle.type_data.specs.Data.{data_of}
use Rattle.static_presentation.specs.Own.{IsOwnOf, AreOwnEquations}
use Rattle.static_presentation.specs.Views.{equations_of}
use Rattle.type_equation_copies.specs.Views.{stated_by}
use Rattle.static_presentation.specs.Presentations.{IsPresentation, IsFirstRefusal}

one_each : (sorts operations : List Described) {es : List (TypeDef × Content)} {found : List (List ConditionalEquation)} {rs : List Refusal}
    → Gathers (IsOwnOf sorts operations) es found rs → length found ≡ length es
one_each sorts operations none = refl
one_each sorts operations (further x xs ys all rs refusals (own, is, read) more) = ap (λ z. length (z ++ all)) is ∙ ap suc (one_each sorts operations more)

pub as_many : (types : List TypeDef) (own : List (Vec Equation Global)) → AreOwnEquations types (map equations_of own) [] → length own ≡ length types
as_many types own h = sym (length-map own equations_of) ∙ one_each (all_sorts types) (all_operations types) h ∙ length_zip types (contents types) (rounds_length no_content (made_from types) types (length types))

pub presented : (types : List TypeDef) (own : List (Vec Equation Global)) (theory : Theory) → AreOwnEquations types (map equations_of own) []
    → theory ≡ data_of types (stated_by own) → IsPresentation types theory
presented types own theory read is = record { own = map equations_of own; read = read; presented = is }

pub refused_first : (types : List TypeDef) (r : Refusal) → (all : List (List ConditionalEquation)) × (refusals : List Refusal) × AreOwnEquations types all refusals × (first_refusal refusals ≡ Some r)
    → IsFirstRefusal types r
refused_first types r (all, refusals, read, first) = record { own = all; refusals = refusals; read = read; first = first }
