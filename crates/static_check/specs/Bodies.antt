-- The bodies of processes, read one after another where each stands (ISO 8807, static semantics of process definitions).
use Rattle.std.specs.Prelude.{ℕ, ◌+◌, List, [], ◌∷◌, ◌++◌, map, length, Option, Some, None, option_map, is_some, Bool, true, false, nat_eq, ◌||◌}
use Rattle.std.specs.Prelude.{if◌then◌else◌}
use Rattle.std.specs.Cmp.Lexicographic.{pointwise}
use Rattle.std.specs.List.{filter_map, list_all, slice_get}
use Rattle.lotos_ast.specs.declared.place.Place.{Place}
use Rattle.lotos_ast.specs.declared.refusal.Refusal.{Refusal}
use Rattle.lotos_ast.specs.declared.refusal.RefusalKind.TheVariants.{WrongFunctionality}
use Rattle.spec_core.specs.Functionality.{Functionality, noexit, exits}
use Rattle.sort_overloads.specs.Readings.{Context}
use Rattle.sort_overloads.specs.Refused.{refused}
use Rattle.static_equations.specs.Variables.{all_variables}
use Rattle.static_readings.specs.Joins.{Read, after}
use Rattle.static_readings.specs.ReadsAll.{before}
use Rattle.static_readings.specs.Readings.{IsRead}
use Rattle.static_readings.specs.Sites.{Site, Heading}
use Rattle.static_processes.specs.Headings.{headings_from, declared, parameter_sorts}
use Rattle.static_processes.specs.Processes.{Defined, Entry, visible_in}
use Rattle.static_call_cycles.specs.declared.call.Call.{Call}
use Rattle.static_call_cycles.specs.AtOnce.{calls_at_once}

-- what all bodies are read by: sorts and operations, how many gates the specification has, and all processes
pub record Setting : Type 0 where
  pub context : Context
  pub gates : ℕ
  pub table : List Entry

-- the headings of the processes that can be called within these
abbrev pub headings_within : Setting → List ℕ → List Heading
headings_within all around = filter_map (λ n. slice_get (headings_from all.context 0 all.table) n) (visible_in all.table around)

-- where the body of a process stands: it sees its own gates and parameters alone, and the processes of its own `where` part, then those
-- around it. The numbers of its gates follow those of the specification's
abbrev pub body_site : Setting → ℕ → Entry → Site
body_site all number e = record {
  context = record {
    sorts = all.context.sorts;
    operations = all.context.operations;
    variables = all_variables all.context.sorts e.process.parameters;
  };
  gates = map (λ t. t.text) e.process.gates;
  first_gate = all.gates;
  processes = headings_within all (number ∷ e.around);
}

-- the number that stands for the sorts of parameters that aren't known, where there are such; those that are known have smaller numbers
abbrev pub unknown_in : ℕ → List (Option ℕ) → Option ℕ
unknown_in known sorts = if list_all is_some sorts then None else Some known

-- a sort in which a behaviour ends is the one that is declared; one that isn't known may be any
abbrev pub fits_sort : Option ℕ → ℕ → ℕ → Bool
fits_sort None sort other = nat_eq sort other
fits_sort (Some unknown) sort other = nat_eq sort unknown || nat_eq sort other

-- a behaviour may end as it is declared to, or never

abbrev pub may_end : Option ℕ → Functionality → Functionality → Bool
may_end unknown noexit declared = true
may_end unknown (exits sorts) noexit = false
may_end unknown (exits sorts) (exits others) = pointwise (fits_sort unknown) sorts others

abbrev pub refused_unless : Bool → Place → List Refusal
refused_unless true place = []
refused_unless false place = refused WrongFunctionality place [] ∷ []

-- where it is read, and what is declared is known, it is refused at the name that is declared if it may end otherwise
abbrev pub ending_refusals : Option ℕ → Place → Option Functionality → Option Read → List Refusal
ending_refusals unknown place (Some declared) (Some r) = refused_unless (may_end unknown r.functionality declared) place
ending_refusals unknown place _ _ = []

-- the same of the body of a process
abbrev pub body_ending_refusals : Context → Defined → Option Read → List Refusal
body_ending_refusals c p x =
    ending_refusals (unknown_in (length c.sorts) (parameter_sorts c p.parameters)) p.name.place (declared c p.functionality) x

-- a body, with the number at which its nodes begin
pub record Placed : Type 0 where
  pub from : ℕ
  pub read : Read

abbrev pub placed : ℕ → Read → Placed
placed from r = record { from = from; read = r }

-- the bodies of these processes, the first of which has this number. Their nodes begin at one number and end before another
pub data AreBodiesRead (all : Setting) : ℕ → ℕ → ℕ → List Entry → Option (List Placed) → List Refusal → Type 0 where
  none_left : {number from : ℕ} → AreBodiesRead all number from from [] (Some []) []
  one_more : {number from end : ℕ} (e : Entry) (es : List Entry) (x : Option Read) (xs : Option (List Placed)) (rb rs : List Refusal) →
      IsRead (body_site all number e) from e.process.body x rb →
      AreBodiesRead all (number + 1) (after from x) end es xs rs →
      AreBodiesRead all number from end (e ∷ es) (before (option_map (placed from) x) xs)
      ((rb ++ body_ending_refusals all.context e.process x) ++ rs)

-- the calls that each of these processes makes at once
abbrev pub calls_from : Setting → ℕ → List Entry → List (List Call)
calls_from all number [] = []
calls_from all number (e ∷ es) = calls_at_once (body_site all number e) e.process.body ∷ calls_from all (number + 1) es
