-- Variables and gates that a construct declares, and gates that it names.
use Rattle.std.specs.Prelude.{ℕ, suc, List, [], ◌∷◌, ◌++◌, map, length, Option, Some, None, Bool, if◌then◌else◌}
use Rattle.std.specs.List.{flat_map, list_all}
use Rattle.lotos_ast.specs.declared.declaration.Declaration.{Declaration}
use Rattle.lotos_ast.specs.declared.place.Place.{Place}
use Rattle.lotos_ast.specs.declared.refusal.Refusal.{Refusal}
use Rattle.lotos_ast.specs.declared.refusal.RefusalKind.TheVariants.{UnknownGate}
use Rattle.lotos_ast.specs.declared.token.Token.{Token}
use Rattle.spec_core.specs.Code.{Variable}
use Rattle.sort_overloads.specs.Readings.{Declared}
use Rattle.sort_overloads.specs.Refused.{refused, is_sort_known, unknown_sort}
use Rattle.static_equations.specs.Variables.{all_variables, sort_named}
use Rattle.type_names.specs.DuplicateNames.{names_twice}
use Rattle.static_readings.specs.Sites.{Site, gate_number}
use Rattle.static_readings.specs.ReadsAll.{before}

-- a gate that isn't in scope is refused

abbrev pub refused_unless : Option ℕ → Place → List Refusal
refused_unless None place = refused UnknownGate place [] ∷ []
refused_unless (Some g) place = []

abbrev pub unknown_gate : Site → Token → List Refusal
unknown_gate s t = refused_unless (gate_number s t) t.place

abbrev pub unknown_gates : Site → List Token → List Refusal
unknown_gates s ts = flat_map (unknown_gate s) ts

-- the numbers of gates, where all are in scope
abbrev pub gate_numbers : Site → List Token → Option (List ℕ)
gate_numbers s [] = Some []
gate_numbers s (t ∷ ts) = before (gate_number s t) (gate_numbers s ts)

-- variables of these names and of one sort; one that isn't known has the number behind the last
abbrev pub of_one_sort : List (List ℕ) → List Token → Token → List Declared
of_one_sort sorts names sort = map (λ t. record { name = t.text; sort = sort_named sorts sort.text }) names

-- variables as code has them, where the first has this number
abbrev pub numbered_from : ℕ → List Declared → List Variable
numbered_from n [] = []
numbered_from n (v ∷ vs) = record { number = n; sort = v.sort } ∷ numbered_from (suc n) vs

-- the variables of declarations, their names, and what is refused of them: a name that is declared twice, a sort that isn't known

abbrev pub declared_names : List Declaration → List Token
declared_names ds = flat_map (λ d. d.names.items) ds

abbrev pub declaration_refusals : Site → List Declaration → List Refusal
declaration_refusals s ds = names_twice (declared_names ds) ++ flat_map (λ d. unknown_sort s.context d.sort) ds

abbrev pub are_known : Site → List Declaration → Bool
are_known s ds = list_all (λ d. is_sort_known s.context d.sort.text) ds

-- the variables of declarations as code has them, where all their sorts are known
abbrev pub declared_variables : Site → List Declaration → Option (List Variable)
declared_variables s ds = if are_known s ds then Some (numbered_from (length s.context.variables) (all_variables s.context.sorts ds))
    else None
