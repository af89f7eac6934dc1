-- What is said of types that are alike is the same: what is refused of them, how their own equations are read, and their data.
use Rattle.std.specs.Prelude.{◌≡◌, List}
use Rattle.lotos_ast.specs.declared.refusal.Refusal.{Refusal}
use Rattle.lotos_ast.specs.declared.types.TypeDef.{TypeDef}
use Rattle.spec_core.specs.Theories.{ConditionalEquation}
use Rattle.flattening.specs.Refusals.{refusals_of}
use Rattle.type_data.specs.Data.{data_of}
use Rattle.static_presentation.specs.Own.{AreOwnEquations}
use Rattle.syntax_laws.specs.Alike.{AreAlike, AreTypesAlike}

abbrev pub SameIsRefused : Type 0
SameIsRefused = (xs ys : List TypeDef) → AreAlike AreTypesAlike xs ys → refusals_of xs ≡ refusals_of ys

abbrev pub SameIsRead : Type 0
SameIsRead = (xs ys : List TypeDef) → AreAlike AreTypesAlike xs ys → (own : List (List ConditionalEquation)) (refusals : List Refusal) →
    AreOwnEquations xs own refusals → AreOwnEquations ys own refusals

abbrev pub SameIsPresented : Type 0
SameIsPresented = (xs ys : List TypeDef) → AreAlike AreTypesAlike xs ys → (own : List (List ConditionalEquation)) →
    data_of xs own ≡ data_of ys own
