-- A compiled specification is ready to run.
use Rattle.std.proofs.Common.{ℕ, ◌≡◌, List, [], ◌∷◌, ◌++◌, length, map, refl, sym, subst}
use Rattle.std.specs.Prelude.{Option, Some, None}
use Rattle.std.specs.List.{slice_get, flat_map}
use Rattle.lotos_ast.specs.declared.refusal.Refusal.{Refusal}
use Rattle.lotos_ast.specs.declared.spec.Spec.{Spec}
use Rattle.lotos_ast.specs.declared.token.Token.{Token}
use Rattle.static_constructs.specs.Written.{gates_in, behaviour_written}
use Rattle.spec_core.specs.Code.{Program}
use Rattle.spec_core.specs.Executable.{IsExecutable}
use Rattle.spec_core.specs.Lists.{Each}
use Rattle.spec_core.specs.Names.{IsIdentifier}
use Rattle.spec_core.specs.Ready.{AreNamed, IsReady}
use Rattle.spec_core.specs.Theories.{Theory}
use Rattle.spec_core.proofs.Lists.{both_empty}
use Rattle.type_cycles.specs.MadeFrom.{AreAcyclic}
use Rattle.type_names.specs.DuplicateNames.{names_twice}
use Rattle.static_readings.specs.Joins.{Read}
use Rattle.static_readings.specs.Readings.{IsRead}
use Rattle.static_processes.specs.Headings.{declared, heading_refusals, twice_refusals, table_refusals, opening_refusals, functionality_refusals}
use Rattle.static_processes.specs.Processes.{Entry, entries}
use Rattle.static_call_cycles.specs.Unguarded.{links, unguarded_refusals}
use Rattle.static_call_cycles.proofs.Acyclic.{nothing_refused_where_acyclic}
use Rattle.static_laws.proofs.Readiness.{ready}
use Rattle.static_check.specs.Bodies.{Setting, Placed, ending_refusals, calls_from}
use Rattle.static_check.specs.Compiled.{data_context, setting, start_site, assembled, program_if_read}
use Rattle.static_laws.specs.Specification.{CompiledIsReady}
use Rattle.static_laws.specs.CompiledNames.{IsDataNamed}
use Rattle.static_laws.specs.SpecificationNames.{AreGatesNamed}
use Rattle.static_laws.proofs.Assembled.{ends_as, whole, is_assembled}
use Rattle.static_laws.proofs.Bodies.{definitions, AreDefined, defined}
use Rattle.static_laws.proofs.Known.{none_of_each}
use Rattle.static_laws.proofs.SpecificationNamed.{no_two_named}

-- all is read, and put together to the program
pub record IsWhole (theory : Theory) (spec : Spec) (program : Program) (bodies : Option (List Placed)) (from : ℕ) (start : Option Read) : Type 0 where
  pub those : List Placed
  pub read : Read
  pub bodies_are : bodies ≡ Some those
  pub start_is : start ≡ Some read
  pub program_is : program ≡ assembled theory spec those (record { from = from; read = read })

whole-of : (theory : Theory) (spec : Spec) (program : Program) (bodies : Option (List Placed)) (from : ℕ) (start : Option Read) →
    Some program ≡ program_if_read theory spec bodies from start → IsWhole theory spec program bodies from start
whole-of theory spec program None from start e = absurd (cc)
whole-of theory spec program (Some bs) from None e = absurd (cc)
whole-of theory spec program (Some bs) from (Some r) e =
    record { those = bs; read = r; bodies_are = refl; start_is = refl; program_is = cc }

gates-named : (ts : List Token) → Each (λ t. IsIdentifier t.text) ts → Each IsIdentifier (map (λ t. t.text) ts)
gates-named [] h = tt
gates-named (t ∷ ts) h = (h.0, gates-named ts h.1)

module _ (theory : Theory) (spec : Spec) where
  abbrev all : Setting
  all = setting theory spec

  names-of : (bs : List Placed) (start : Placed) → IsDataNamed theory → AreGatesNamed spec → names_twice (gates_in spec.gates) ≡ [] →
      AreNamed (assembled theory spec bs start)
  names-of bs start named gates none = record {
    gates = gates-named (gates_in spec.gates) gates;
    sorts = named.sorts;
    operations = named.operations;
    variables = named.variables;
    gates_differ = no_two_named (gates_in spec.gates) none;
    sorts_differ = named.sorts_differ;
    operations_differ = named.operations_differ;
  }

  headings-fit : table_refusals (data_context theory) (entries spec) ≡ [] → (k : ℕ) (e : Entry) → slice_get (entries spec) k ≡ Some e →
      heading_refusals (data_context theory) e.process ≡ []
  headings-fit none k e at =
      none_of_each (λ (e : Entry). heading_refusals (data_context theory) e.process) (entries spec)
      (both_empty (twice_refusals (entries spec)) (flat_map (λ (e : Entry). heading_refusals (data_context theory) e.process) (entries spec)) none).1 k e at

  assembled-ready : (bs : List Placed) (r : Read) (from : ℕ) → AreDefined all 0 (length (entries spec)) from (entries spec) bs →
      table_refusals (data_context theory) (entries spec) ≡ [] →
      IsRead (start_site all spec) from (behaviour_written spec.behaviour) (Some r) [] →
      AreAcyclic (links (calls_from all 0 (entries spec))) → IsExecutable theory →
      AreNamed (assembled theory spec bs (record { from = from; read = r })) → IsReady (assembled theory spec bs (record { from = from; read = r }))
  assembled-ready bs r from h none is_read acyclic executable named =
      ready (assembled theory spec bs (record { from = from; read = r })) (ends_as theory spec) (definitions all 0 (entries spec) bs)
      (whole theory spec bs r from h (headings-fit none) is_read) (is_assembled theory spec bs r from h (headings-fit none) is_read)
      executable named (subst (λ calls. AreAcyclic (links calls)) (sym h.calls) acyclic)

pub compiled_ready : CompiledIsReady
compiled_ready theory spec program c executable named gates =
    let names : List (List ℕ) = map (λ (e : Entry). e.process.name.text) (entries spec) in
    let cycles : List Refusal = unguarded_refusals names (calls_from (setting theory spec) 0 (entries spec)) in
    let ending : List Refusal = ending_refusals None spec.name.place (declared (data_context theory) spec.functionality) c.start in
    let opening = both_empty (opening_refusals (data_context theory) spec)
    (table_refusals (data_context theory) (entries spec) ++ (c.body_refusals ++ (c.start_refusals ++ (ending ++ cycles)))) (sym c.are_refusals) in
    let table = both_empty (table_refusals (data_context theory) (entries spec)) (c.body_refusals ++ (c.start_refusals ++ (ending ++ cycles))) opening.1 in
    let bodies = both_empty c.body_refusals (c.start_refusals ++ (ending ++ cycles)) table.1 in
    let start = both_empty c.start_refusals (ending ++ cycles) bodies.1 in
    let guarded = both_empty ending cycles start.1 in
    let w : IsWhole theory spec program c.bodies c.from c.start = whole-of theory spec program c.bodies c.from c.start c.is_program in
    let twice = both_empty (names_twice (gates_in spec.gates)) (functionality_refusals (data_context theory) spec.functionality) opening.0 in
    subst IsReady (sym w.program_is)
    (assembled-ready theory spec w.those w.read c.from
    (defined (setting theory spec) (entries spec) c.bodies c.body_refusals c.are_read bodies.0 w.those w.bodies_are)
    table.0
    (subst (λ o. IsRead (start_site (setting theory spec) spec) c.from (behaviour_written spec.behaviour) o []) w.start_is
    (subst (IsRead (start_site (setting theory spec) spec) c.from (behaviour_written spec.behaviour) c.start) start.0 c.is_read))
    ((nothing_refused_where_acyclic names (calls_from (setting theory spec) 0 (entries spec))).0 guarded.1)
    executable (names-of theory spec w.those (record { from = c.from; read = w.read }) named gates twice.0))
