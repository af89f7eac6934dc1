-- Types that are made from themselves.
use Rattle.std.specs.Prelude.{ℕ, List, [], ◌∷◌, map, Option, Some, None}
use Rattle.std.specs.List.{flat_map, slice_get}
use Rattle.lotos_ast.specs.declared.token.Token.{Token}
use Rattle.lotos_ast.specs.declared.refusal.Refusal.{Refusal}
use Rattle.lotos_ast.specs.declared.refusal.RefusalKind.{RefusalKind}
use Rattle.lotos_ast.specs.declared.types.TypeDef.{TypeDef}
use Rattle.lotos_ast.specs.declared.types.TypeDef.TheVariants.{Library, Definition}
use Rattle.type_contents.specs.Uses.{links}
use Rattle.type_cycles.specs.Cycles.{first_cycle}

abbrev pub type_name : TypeDef → List Token
type_name (Library place names) = []
type_name (Definition place name body) = name ∷ []

abbrev pub name_of : Option TypeDef → List Token
name_of None = []
name_of (Some d) = type_name d

-- the name of the type of this number, if there is one
abbrev pub name_at : List TypeDef → ℕ → List Token
name_at types k = name_of (slice_get types k)

-- the types of these names are refused at the first of them, with the names of all
abbrev pub cycle_refused : List Token → List Refusal
cycle_refused [] = []
cycle_refused (t ∷ ts) = record { kind = RefusalKind.TypeCycle; place = t.place; names = map (λ u. u.text) (t ∷ ts) } ∷ []

abbrev pub names_on : List TypeDef → Option (List ℕ) → List Token
names_on types None = []
names_on types (Some way) = flat_map (name_at types) way

-- the first type that is made from itself is refused, with the types on the first of the shortest ways back to it
abbrev pub cycle_refusals : List TypeDef → List Refusal
cycle_refusals types = cycle_refused (names_on types (first_cycle (map (links types) types)))
