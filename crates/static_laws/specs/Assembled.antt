-- Programs that are put together of constructs that are read: first the definitions of processes, then the nodes of their bodies in the
-- same order, then those of the specification's behaviour (this profile).
use Rattle.std.specs.Prelude.{◌≡◌, ◌⊎◌, ℕ, ◌+◌, List, [], ◌∷◌, ◌++◌, map, length, Some}
use Rattle.std.specs.List.{slice_get, flat_map, range_with_len}
use Rattle.lotos_ast.specs.declared.refusal.Refusal.{Refusal}
use Rattle.spec_core.specs.Code.{Node, Variable, Program, process}
use Rattle.spec_core.specs.Functionality.{Functionality, noexit, VariableFits}
use Rattle.spec_core.specs.Lists.{Each}
use Rattle.spec_core.specs.Theories.{Theory}
use Rattle.static_constructs.specs.Constructs.{Construct}
use Rattle.static_readings.specs.Declarations.{numbered_from}
use Rattle.static_readings.specs.Joins.{Read, root}
use Rattle.static_readings.specs.Readings.{IsRead}
use Rattle.static_readings.specs.Sites.{Site, Heading}
use Rattle.static_call_cycles.specs.AtOnce.{calls_at_once}
use Rattle.static_call_cycles.specs.declared.call.Call.{Call}

-- a construct in its site, and what it is read as
pub record Placed : Type 0 where
  pub site : Site
  pub construct : Construct
  pub read : Read
  pub refusals : List Refusal

abbrev pub IsReadAt : ℕ → Placed → Type 0
IsReadAt from b = IsRead b.site from b.construct (Some b.read) b.refusals

-- a process: its formal gates, its parameters, and its body
pub record Definition : Type 0 where
  pub formal : List ℕ
  pub variables : List Variable
  pub body : Placed

-- the nodes of definitions, where those of the first body begin at this number
abbrev pub process_nodes : ℕ → List Definition → List Node
process_nodes from [] = []
process_nodes from (d ∷ ds) =
    process d.formal d.variables (root from d.body.read) ∷ process_nodes (from + length d.body.read.nodes) ds

abbrev pub body_nodes : List Definition → List Node
body_nodes ds = flat_map (λ d. d.body.read.nodes) ds

-- bodies are read one behind another, the first from this number on
abbrev pub AreBodiesRead : ℕ → List Definition → Type 0
AreBodiesRead from [] = Unit {0}
AreBodiesRead from (d ∷ ds) = IsReadAt from d.body × AreBodiesRead (from + length d.body.read.nodes) ds

-- the heading is that of one of these definitions
pub record HeadingFits (processes : ℕ → Functionality) (ds : List Definition) (h : Heading) : Type 0 where
  pub definition : Definition
  pub defined : slice_get ds h.number ≡ Some definition
  pub gates : h.gates ≡ length definition.formal
  pub sorts : h.sorts ≡ map (λ x. Some x.sort) definition.variables
  pub functionality : h.functionality ≡ Some (processes h.number)

-- the site has the sorts and operations of the data, and headings of these definitions
pub record SiteFits (theory : Theory) (processes : ℕ → Functionality) (ds : List Definition) (s : Site) : Type 0 where
  pub sorts : s.context.sorts ≡ theory.sorts
  pub operations : s.context.operations ≡ theory.operations
  pub headings : Each (HeadingFits processes ds) s.processes

-- the body's site has the parameters, whose sorts are declared, and the formal gates, whose numbers follow those of the specification's
-- heading; the body ends as the process does, or never
pub record DefinitionFits (program : Program) (processes : ℕ → Functionality) (ds : List Definition) (p : ℕ) (d : Definition) : Type 0 where
  pub site : SiteFits program.theory processes ds d.body.site
  pub variables : d.variables ≡ numbered_from 0 d.body.site.context.variables
  pub sorts : Each (VariableFits program.theory) d.variables
  pub first_gate : d.body.site.first_gate ≡ length program.gates
  pub formal : d.formal ≡ range_with_len (length program.gates) (length d.body.site.gates)
  pub ends : (d.body.read.functionality ≡ processes p) ⊎ (d.body.read.functionality ≡ noexit)

-- the calls that each body makes at once
abbrev pub calls_of : List Definition → List (List Call)
calls_of ds = map (λ d. calls_at_once d.body.site d.body.construct) ds

-- where the nodes of the specification's behaviour begin
abbrev pub behind_bodies : List Definition → ℕ
behind_bodies ds = length ds + length (body_nodes ds)

-- the program is put together of these definitions and this behaviour, and they fit there
pub record IsAssembled (program : Program) (processes : ℕ → Functionality) (ds : List Definition) (whole : Placed) : Type 0 where
  pub code : program.code ≡ process_nodes (length ds) ds ++ (body_nodes ds ++ whole.read.nodes)
  pub start : program.start ≡ root (behind_bodies ds) whole.read
  pub bodies_read : AreBodiesRead (length ds) ds
  pub whole_read : IsReadAt (behind_bodies ds) whole
  pub definitions : (p : ℕ) (d : Definition) → slice_get ds p ≡ Some d → DefinitionFits program processes ds p d
  pub whole_site : SiteFits program.theory processes ds whole.site
  pub whole_variables : whole.site.context.variables ≡ []
  pub whole_first_gate : whole.site.first_gate ≡ 0
  pub whole_gates : length whole.site.gates ≡ length program.gates
