-- Data put together.
use Rattle.std.proofs.Common.{◌≡◌, ◌∙◌, sym, ap, List, ℕ, Bool, false, length, map, Option, Vec, Global}
use Rattle.std.proofs.lemmas.List.{length-map}
use Rattle.std.specs.List.{zip}
use Rattle.lotos_ast.specs.declared.types.TypeDef.{TypeDef}
use Rattle.spec_core.specs.declared.equation.Equation.{Equation}
use Rattle.spec_core.specs.Theories.{Operation, ConditionalEquation, Theory}
use Rattle.type_contents.specs.FormalTypes.{formal_types, is_formal_from}
use Rattle.type_contents.specs.Items.{Described}
use Rattle.type_contents.proofs.Settled.{rounds_length}
use Rattle.type_images.specs.Images.{NewNumbers}
use Rattle.type_equation_copies.specs.declared.equations.TypeEquations.{TypeEquations}
use Rattle.type_equation_copies.specs.Copies.{image_numbers}
use Rattle.type_equation_copies.specs.Contents.{no_equations, made_from, equations}
use Rattle.type_equation_copies.specs.Views.{made_at, stated_by}
use Rattle.type_equation_copies.proofs.Schedules.{zip_size}

-- as many as there are types
pub as_many : (types : List TypeDef) (own : List (Vec Equation Global)) (formal : List Bool) (found : List (Option TypeEquations)) → length own ≡ length types → formal ≡ formal_types types → map made_at found ≡ equations types (stated_by own) → length formal ≡ length found
as_many types own formal found whole e f =
    ap length e ∙ rounds_length false (is_formal_from types) types (length types)
    ∙ sym (sym (length-map found made_at) ∙ ap length f ∙ rounds_length no_equations (made_from types) (zip types (stated_by own)) (length (zip types (stated_by own))) ∙ zip_size types own whole)

pub same_numbers : (a b c d : List ℕ) → a ≡ b → c ≡ d → ◌≡◌ {A = NewNumbers} (record { sorts = a; operations = c }) (record { sorts = b; operations = d })
same_numbers a b c d e f = ap (λ z. record { sorts = z; operations = c }) e ∙ ap (λ z. record { sorts = b; operations = z }) f

pub numbers_of_those : (a b c d : List Described) → a ≡ b → c ≡ d → image_numbers a (λ x. x) c ≡ image_numbers b (λ x. x) d
numbers_of_those a b c d e f = ap (λ z. image_numbers z (λ x. x) c) e ∙ ap (λ z. image_numbers b (λ x. x) z) f

pub same_theory : (a b : List (List ℕ)) (c d : List Operation) (e f : List ConditionalEquation) → a ≡ b → c ≡ d → e ≡ f → ◌≡◌ {A = Theory} (record { sorts = a; operations = c; equations = e }) (record { sorts = b; operations = d; equations = f })
same_theory a b c d e f g h i =
    ap (λ z. record { sorts = z; operations = c; equations = e }) g ∙ ap (λ z. record { sorts = b; operations = z; equations = e }) h ∙ ap (λ z. record { sorts = b; operations = d; equations = z }) i
