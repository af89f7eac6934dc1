-- Bodies that are read without a refusal are the bodies of definitions.
use Rattle.std.proofs.Common.{ℕ, zero, suc, ◌≡◌, ◌+◌, List, [], ◌∷◌, ◌++◌, length, refl, sym, ap, subst, ◌∙◌, arith, length-append}
use Rattle.std.specs.Prelude.{Option, Some, None, option_map}
use Rattle.std.specs.List.{range_with_len, slice_get}
use Rattle.std.proofs.lemmas.Option.{same_Some}
use Rattle.spec_core.proofs.Lists.{both_empty}
use Rattle.lotos_ast.specs.declared.refusal.Refusal.{Refusal}
use Rattle.static_equations.specs.Variables.{all_variables}
use Rattle.static_readings.specs.Declarations.{numbered_from}
use Rattle.static_readings.specs.Joins.{Read, after}
use Rattle.static_readings.specs.ReadsAll.{before}
use Rattle.static_readings.specs.Readings.{IsRead}
use Rattle.static_processes.specs.Headings.{declared}
use Rattle.static_processes.specs.Processes.{Entry}
use Rattle.static_call_cycles.specs.AtOnce.{calls_at_once}
use Rattle.static_laws.specs.Assembled.{Definition, process_nodes, body_nodes, AreBodiesRead, calls_of}
use Rattle.static_check.specs.Bodies as checked
use Rattle.static_check.specs.Bodies.{Setting, Placed, body_site, body_ending_refusals, placed, none_left, one_more, calls_from}
use Rattle.static_check.specs.Compiled as compiled

-- the definition of a process, and those of processes of which the first has this number

abbrev pub definition : Setting → ℕ → Entry → Read → Definition
definition all number e r = record {
  formal = range_with_len all.gates (length e.process.gates);
  variables = numbered_from 0 (all_variables all.context.sorts e.process.parameters);
  body = record { site = body_site all number e; construct = e.process.body; read = r; refusals = [] };
}

abbrev pub definitions : Setting → ℕ → List Entry → List Placed → List Definition
definitions all number (e ∷ es) (b ∷ bs) = definition all number e b.read ∷ definitions all (number + 1) es bs
definitions all number _ _ = []

-- the process of this number among these is defined, and its body may end as it does
pub record IsDefined (all : Setting) (ds : List Definition) (number k : ℕ) (e : Entry) : Type 0 where
  pub read : Read
  pub at : slice_get ds k ≡ Some (definition all (number + k) e read)
  pub ends : body_ending_refusals all.context e.process (Some read) ≡ []

-- the bodies of these processes are the bodies of their definitions
pub record AreDefined (all : Setting) (number from end : ℕ) (es : List Entry) (bs : List Placed) : Type 0 where
  pub as_many : length (definitions all number es bs) ≡ length es
  pub nodes : compiled.process_nodes all es bs ≡ process_nodes from (definitions all number es bs)
  pub bodies : compiled.body_nodes bs ≡ body_nodes (definitions all number es bs)
  pub are_read : AreBodiesRead from (definitions all number es bs)
  pub up_to : end ≡ from + length (body_nodes (definitions all number es bs))
  pub calls : calls_of (definitions all number es bs) ≡ calls_from all number es
  pub each : (k : ℕ) (e : Entry) → slice_get es k ≡ Some e → IsDefined all (definitions all number es bs) number k e

-- a body before others
pub record Begun (from : ℕ) (x : Option Read) (xs : Option (List Placed)) (whole : List Placed) : Type 0 where
  pub read : Read
  pub others : List Placed
  pub first : x ≡ Some read
  pub left : xs ≡ Some others
  pub parts : whole ≡ placed from read ∷ others

begun : (from : ℕ) (x : Option Read) (xs : Option (List Placed)) (whole : List Placed) →
    before (option_map (placed from) x) xs ≡ Some whole → Begun from x xs whole
begun from None xs whole e = absurd (cc)
begun from (Some r) None whole e = absurd (cc)
begun from (Some r) (Some bs) whole e = record { read = r; others = bs; first = refl; left = refl; parts = cc }

module _ (all : Setting) where
  abbrev ending : Entry → Option Read → List Refusal
  ending e x = body_ending_refusals all.context e.process x

  one-defined : (number from end : ℕ) (e : Entry) (es : List Entry) (r : Read) (bs : List Placed) →
      IsRead (body_site all number e) from e.process.body (Some r) [] →
      ending e (Some r) ≡ [] →
      AreDefined all (number + 1) (from + length r.nodes) end es bs → AreDefined all number from end (e ∷ es) (placed from r ∷ bs)
  one-defined number from end e es r bs is_read ends rest =
      let ds : List Definition = definitions all (number + 1) es bs in
      record {
        as_many = ap suc rest.as_many;
        nodes = ap (λ ns. compiled.process_node all e (placed from r) ∷ ns) rest.nodes;
        bodies = ap (λ ns. r.nodes ++ ns) rest.bodies;
        are_read = (is_read, rest.are_read);
        up_to = omega (arith, rest.up_to, length-append r.nodes (body_nodes ds));
        calls = ap (λ cs. calls_at_once (body_site all number e) e.process.body ∷ cs) rest.calls;
        each = by_number;
      }
    where
      by_number : (k : ℕ) (f : Entry) → slice_get (e ∷ es) k ≡ Some f → IsDefined all (definitions all number (e ∷ es) (placed from r ∷ bs)) number k f
      by_number zero f at =
          let same : number ≡ number + zero = omega arith in
          subst (IsDefined all (definitions all number (e ∷ es) (placed from r ∷ bs)) number zero) (same_Some e f at) (record {
            read = r;
            at = ap (λ n. Some (definition all n e r)) same;
            ends = ends;
          })
      by_number (suc k) f at =
          let found : IsDefined all (definitions all (number + 1) es bs) (number + 1) k f = rest.each k f at in
          let same : number + 1 + k ≡ number + suc k = omega arith in
          record {
            read = found.read;
            at = found.at ∙ ap (λ n. Some (definition all n f found.read)) same;
            ends = found.ends;
          }

  pub defined : {number from end : ℕ} (es : List Entry) (found : Option (List Placed)) (rs : List Refusal) →
      checked.AreBodiesRead all number from end es found rs → rs ≡ [] → (bs : List Placed) → found ≡ Some bs →
      AreDefined all number from end es bs
  defined {number} {from} es found rs none_left empty bs e =
      subst (AreDefined all number from from []) (same_Some [] bs e) (record {
        as_many = refl;
        nodes = refl;
        bodies = refl;
        are_read = tt;
        up_to = omega arith;
        calls = refl;
        each = λ k f at. absurd (cc);
      })
  defined {number} {from} {end} es found rs (one_more entry others x xs rb rest is_read left_over) empty bs e =
      let b : Begun from x xs bs = begun from x xs bs e in
      let here = both_empty (rb ++ ending entry x) rest empty in
      let own = both_empty rb (ending entry x) here.0 in
      subst (AreDefined all number from end (entry ∷ others)) (sym b.parts)
      (one-defined number from end entry others b.read b.others
      (subst (λ o. IsRead (body_site all number entry) from entry.process.body o []) b.first
      (subst (IsRead (body_site all number entry) from entry.process.body x) own.0 is_read))
      (subst (λ o. ending entry o ≡ []) b.first own.1)
      (subst (λ o. AreDefined all (number + 1) (after from o) end others b.others) b.first
      (defined others xs rest left_over here.1 b.others b.left)))
