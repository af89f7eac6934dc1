-- Composites of a behaviour: its trees with the values of prefixes and exits left open, and their predicates not asked. (This profile.)
use Rattle.std.specs.Prelude.{ℕ, zero, suc, ◌++◌, ◌&&◌, List, [], ◌∷◌, map, flat_map, Option, Some, None, if◌then◌else◌}
use Rattle.spec_core.specs.Theories.{Theory}
use Rattle.spec_core.specs.Code.{Relabelling, Synchronised}
use Rattle.rule_model.specs.declared.rules.Slot.{Slot}
use Rattle.rule_model.specs.Actions.{Kind, inside, ends, at_gate, pairs_of}
use Rattle.rule_model.specs.Behaviours.{Behaviour, stop, exit, inner, action, choice, guarded, bound, value_choice, gate_choice, parallel}
use Rattle.rule_model.specs.Behaviours.{hide, enable, disable, call, relabel}
use Rattle.rule_model.specs.Derivations.{Derivation, pre, int, exiting, chl, chr, val, gate, guard, letting, parl, parr, both, hiding, pass}
use Rattle.rule_model.specs.Derivations.{enstep, enend, disstep, disend, distake, calling, rel}
use Rattle.symbolic_rules.specs.Windows.{Windows}
use Rattle.symbolic_rules.specs.MarkedTerms.{MarkedAssignment, unmarked, with_marked}
use Rattle.symbolic_rules.specs.MayDerive.{renamed_kind}
use Rattle.symbolic_composites.specs.Evaluations.{Evaluation, premise_may_hold, chosen_term, with_bindings, with_arguments}
use Rattle.symbolic_composites.specs.Kinds.{is_alone, is_joint, is_hidden, is_end, same_kind}
use Rattle.symbolic_composites.specs.OpenFields.{OpenField, all_together, open_fields, open_exit, slots_of, exit_slots_of, window_slots, all_choices}
use Rattle.symbolic_composites.specs.OpenFields.{choices_at_once}

-- A composite: the kind of its action; the fields that are still open; and its trees, in order, where each of these fields may have these
-- values. With one blank for each field that is the one tree that is written for it.
pub record Composite : Type 0 where
  pub kind : Kind
  pub fields : List OpenField
  pub trees : List (List Slot) → List Derivation

-- its trees where each of the fields may have these values, in order
abbrev pub filled : Composite → List (List Slot) → List Derivation
filled c choices = flat_map c.trees (choices_at_once c.fields choices)

abbrev pub from_option : {A B : Type 0} → Option A → (A → List B) → List B
from_option None f = []
from_option (Some a) f = f a

-- below a rule that changes nothing but the tree
abbrev pub under : (Derivation → Derivation) → Composite → Composite
under row c = record { kind = c.kind; fields = c.fields; trees = λ slots. map row (c.trees slots) }

abbrev pub relabelled : List Relabelling → Composite → Composite
relabelled pairs c = record { kind = renamed_kind pairs c.kind; fields = c.fields; trees = λ slots. map rel (c.trees slots) }

-- what turns internal has no open field: nothing gives a value any more
abbrev pub turned : Theory → Windows → (Derivation → Derivation) → Composite → Composite
turned theory w row c =
    record { kind = inside; fields = []; trees = λ slots. map row (filled c (all_choices theory w [] c.fields)) }

-- one side of a parallel composition alone
abbrev pub alone : Synchronised → (Derivation → Derivation) → Composite → List Composite
alone gates row c = if is_alone gates c.kind then under row c ∷ [] else []

-- both sides together, the left tree slowest
abbrev pub paired : Composite → Composite → List OpenField → Composite
paired c d fields = record {
  kind = c.kind;
  fields = fields;
  trees = λ slots. flat_map (λ left. map (both left) (d.trees slots)) (c.trees slots);
}

abbrev pub joint : Theory → Synchronised → Composite → Composite → List Composite
joint theory gates c d =
    if same_kind c.kind d.kind && is_joint gates c.kind
    then from_option (all_together theory c.fields d.fields) (λ fields. paired c d fields ∷ [])
    else []

abbrev pub by_hiding : Theory → Windows → List ℕ → Composite → Composite
by_hiding theory w gates c = if is_hidden gates c.kind then turned theory w hiding c else under pass c

abbrev pub by_enabling : Theory → Windows → Composite → Composite
by_enabling theory w c = if is_end c.kind then turned theory w enend c else under enstep c

abbrev pub by_disabling : Composite → Composite
by_disabling c = if is_end c.kind then under disend c else under disstep c

-- The composites of each construct, from those of its parts.

abbrev pub of_choice : List Composite → List Composite → List Composite
of_choice cs ds = map (under chl) cs ++ map (under chr) ds

abbrev pub of_parallel : Theory → Synchronised → List Composite → List Composite → List Composite
of_parallel theory gates cs ds =
    flat_map (alone gates parl) cs ++ (flat_map (alone gates parr) ds ++ flat_map (λ c. flat_map (joint theory gates c) ds) cs)

abbrev pub of_disable : List Composite → List Composite → List Composite
of_disable cs ds = map by_disabling cs ++ map (under distake) ds

abbrev pub of_relabel : List Relabelling → List Composite → List Composite
of_relabel pairs cs = map (relabelled pairs) cs

-- of a choice of a gate: for each gate, by its place in the list, from n on
abbrev pub of_gates : ℕ → ℕ → List ℕ → List Composite → List Composite
of_gates g n [] cs = []
of_gates g n (h ∷ gates) cs =
    map (under (gate n)) (of_relabel (record { from = g; to = h } ∷ []) cs) ++ of_gates g (suc n) gates cs

module _ (theory : Theory) (e : Evaluation) (w : Windows) where
  -- The composites of a behaviour, with m x, a term or a mark, in the place of each free variable x, in the order of trees; `called` has
  -- those of the bodies of processes. A guard is asked: where it doesn't hold, nothing stands under it.
  abbrev pub composites_in : (MarkedAssignment → Behaviour → List Composite) → MarkedAssignment → Behaviour → List Composite
  composites_in called m stop = []
  composites_in called m (exit fields) =
      from_option (open_exit theory e m fields)
      (λ fs. record { kind = ends; fields = fs; trees = λ slots. map exiting (exit_slots_of fields slots) } ∷ [])
  composites_in called m (inner rest) = record { kind = inside; fields = []; trees = λ slots. int ∷ [] } ∷ []
  composites_in called m (action g fields p rest) =
      from_option (open_fields theory e m fields)
      (λ fs. record { kind = at_gate g; fields = fs; trees = λ slots. map pre (slots_of fields slots) } ∷ [])
  composites_in called m (choice left right) = of_choice (composites_in called m left) (composites_in called m right)
  composites_in called m (guarded p body) = if premise_may_hold theory e m p then map (under guard) (composites_in called m body) else []
  composites_in called m (bound bindings body) =
      from_option (with_bindings theory e m m bindings) (λ l. map (under letting) (composites_in called l body))
  composites_in called m (value_choice x body) =
      flat_map (λ slot. from_option (chosen_term theory e w slot x.sort)
      (λ k. map (under (val slot)) (composites_in called (with_marked x k m) body))) (window_slots w x.sort)
  composites_in called m (gate_choice g gates body) = of_gates g 1 gates (composites_in called m body)
  composites_in called m (parallel gates left right) =
      of_parallel theory gates (composites_in called m left) (composites_in called m right)
  composites_in called m (hide gates body) = map (by_hiding theory w gates) (composites_in called m body)
  composites_in called m (enable left xs right) = map (by_enabling theory w) (composites_in called m left)
  composites_in called m (disable left right) = of_disable (composites_in called m left) (composites_in called m right)
  composites_in called m (call p actual terms) =
      from_option (e.definition p) (λ d. from_option (with_arguments theory e m unmarked d.variables terms)
      (λ l. map (under calling) (of_relabel (pairs_of d.gates actual) (called l d.body))))
  composites_in called m (relabel pairs body) = of_relabel pairs (composites_in called m body)

  -- below so many calls, one in another, nothing is looked for
  abbrev pub below_calls : ℕ → MarkedAssignment → Behaviour → List Composite
  below_calls zero m b = []
  below_calls (suc n) m b = composites_in (below_calls n) m b

  -- the composites with at most n calls in one another
  abbrev pub composites : ℕ → MarkedAssignment → Behaviour → List Composite
  composites n m b = composites_in (below_calls n) m b
