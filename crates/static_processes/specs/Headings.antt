-- The headings of processes, and what is refused of them (ISO 8807, static semantics of process definitions).
use Rattle.std.specs.Prelude.{ℕ, ◌+◌, List, [], ◌∷◌, ◌++◌, map, length, Option, Some, None, option_map, if◌then◌else◌}
use Rattle.std.specs.List.{flat_map, range_with_len}
use Rattle.lotos_ast.specs.declared.declaration.Declaration.{Declaration}
use Rattle.lotos_ast.specs.declared.declaration.Functionality.{Functionality}
use Rattle.lotos_ast.specs.declared.declaration.Functionality.TheVariants.{NoExit, Exit}
use Rattle.lotos_ast.specs.declared.refusal.Refusal.{Refusal}
use Rattle.lotos_ast.specs.declared.spec.Spec.{Spec}
use Rattle.lotos_ast.specs.declared.token.Token.{Token}
use Rattle.static_constructs.specs.Written.{listed, gates_in}
use Rattle.spec_core.specs.Functionality as core
use Rattle.sort_overloads.specs.Readings.{Context}
use Rattle.sort_overloads.specs.Refused.{is_sort_known, unknown_sort}
use Rattle.static_equations.specs.Variables.{sort_named}
use Rattle.type_names.specs.DuplicateNames.{names_twice}
use Rattle.static_readings.specs.Declarations.{declared_names}
use Rattle.static_readings.specs.ReadsAll.{before}
use Rattle.static_readings.specs.Sites.{Heading}
use Rattle.static_processes.specs.Processes.{Defined, Entry, names_in}

-- the sort of this name, if it is known
abbrev pub known_sort : Context → Token → Option ℕ
known_sort c t = if is_sort_known c t.text then Some (sort_named c.sorts t.text) else None

-- those of these names, where all are known
abbrev pub known_sorts : Context → List Token → Option (List ℕ)
known_sorts c [] = Some []
known_sorts c (t ∷ ts) = before (known_sort c t) (known_sorts c ts)

-- a functionality as it is declared, where its sorts are known
abbrev pub declared : Context → Functionality → Option core.Functionality
declared c (NoExit place) = Some core.noexit
declared c (Exit place sorts) = option_map core.exits (known_sorts c (listed sorts))

-- the sorts of parameters, one for each name
abbrev pub parameter_sorts : Context → List Declaration → List (Option ℕ)
parameter_sorts c ds = flat_map (λ d. map (λ t. known_sort c d.sort) d.names.items) ds

-- what a call of the process of this number must fit
abbrev pub heading : Context → ℕ → Defined → Heading
heading c number p = record {
  name = p.name.text;
  number = number;
  gates = length p.gates;
  sorts = parameter_sorts c p.parameters;
  functionality = declared c p.functionality;
}

-- those of all processes, where the first has this number
abbrev pub headings_from : Context → ℕ → List Entry → List Heading
headings_from c number [] = []
headings_from c number (e ∷ es) = heading c number e.process ∷ headings_from c (number + 1) es

-- sorts that aren't known are refused
abbrev pub functionality_refusals : Context → Functionality → List Refusal
functionality_refusals c (NoExit place) = []
functionality_refusals c (Exit place sorts) = flat_map (unknown_sort c) (listed sorts)

-- parameters that are declared twice, and sorts of theirs that aren't known
abbrev pub parameter_refusals : Context → List Declaration → List Refusal
parameter_refusals c ds = names_twice (declared_names ds) ++ flat_map (λ d. unknown_sort c d.sort) ds

abbrev pub heading_refusals : Context → Defined → List Refusal
heading_refusals c p = names_twice p.gates ++ (parameter_refusals c p.parameters ++ functionality_refusals c p.functionality)

-- a process that is declared twice in one `where` part is refused at the second name
abbrev pub twice_refusals : List Entry → List Refusal
twice_refusals table = names_twice (names_in table None)
    ++ flat_map (λ number. names_twice (names_in table (Some number))) (range_with_len 0 (length table))

-- what is refused of the headings of all processes
abbrev pub table_refusals : Context → List Entry → List Refusal
table_refusals c table = twice_refusals table ++ flat_map (λ e. heading_refusals c e.process) table

-- of the heading of the specification
abbrev pub opening_refusals : Context → Spec → List Refusal
opening_refusals c s = names_twice (gates_in s.gates) ++ functionality_refusals c s.functionality
