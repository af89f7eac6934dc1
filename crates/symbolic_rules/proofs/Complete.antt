-- Where all windows are complete, nothing is marked.
use Rattle.std.proofs.Common.{ℕ, ◌≡◌, List, [], ◌∷◌, refl, true, false}
use Rattle.std.proofs.lemmas.Bool.{both_ways, or_from}
use Rattle.spec_core.specs.Theories.{Theory}
use Rattle.spec_core.specs.Code.{Program, ExitValue, exit_given, exit_any, ActionField, give, accept}
use Rattle.rule_model.specs.declared.rules.Slot.{Slot}
use Rattle.rule_model.specs.declared.rules.Slot.TheVariants.{Of, Mark, Blank}
use Rattle.rule_model.specs.Actions.{Kind, at_gate, ends, pairs_of}
use Rattle.rule_model.specs.Behaviours.{Behaviour, exit, action, choice, guarded, bound, value_choice, gate_choice, parallel}
use Rattle.rule_model.specs.Behaviours.{hide, enable, disable, call, relabel}
use Rattle.rule_model.specs.Derivations.{Derivation, pre, int, exiting, chl, chr, val, gate, guard, letting, parl, parr, both, hiding, pass}
use Rattle.rule_model.specs.Derivations.{enstep, enend, disstep, disend, distake, calling, rel}
use Rattle.symbolic_rules.specs.Windows.{Windows}
use Rattle.symbolic_rules.specs.MarkedTerms.{MarkedTerm, MarkedAssignment, with_marked}
use Rattle.symbolic_rules.specs.MarkedFields.{MarkedField, Chooses, FieldsMayHave, ExitMayHave}
use Rattle.symbolic_rules.specs.MayDerive.{MayDeriveWith}
use Rattle.symbolic_rules.specs.Trees.{is_mark, has_marks, has_mark}
use Rattle.symbolic_rules.specs.Laws.{CompleteWindowsHaveNoBeyond}

module _ (w : Windows) (complete : (sort : ℕ) → w.complete sort ≡ true) where
  module _ (theory : Theory) where
    slot_unmarked : (slot : Slot) (sort : ℕ) (k : MarkedTerm) → Chooses theory w slot sort k → is_mark slot ≡ false
    slot_unmarked (Of v) sort k h = refl
    slot_unmarked Mark sort k h = absurd (both_ways (w.complete sort) h.0 (complete sort))
    slot_unmarked Blank sort k h = refl

    fields_unmarked : (m l r : MarkedAssignment) (fields : List ActionField) (slots : List Slot) (fs : List MarkedField) →
        FieldsMayHave theory w m l fields slots fs r → has_marks slots ≡ false
    fields_unmarked m l r [] [] [] h = refl
    fields_unmarked m l r (give e ∷ fields) slots (f ∷ fs) h = fields_unmarked m l r fields slots fs h.1
    fields_unmarked m l r (accept x ∷ fields) (slot ∷ slots) (f ∷ fs) h =
        or_from (is_mark slot) (has_marks slots) (slot_unmarked slot x.sort h.0 h.1)
        (fields_unmarked m (with_marked x h.0 l) r fields slots fs h.3)
    fields_unmarked m l r _ _ _ h = absurd h

    exit_unmarked : (m : MarkedAssignment) (fields : List ExitValue) (slots : List Slot) (fs : List MarkedField) →
        ExitMayHave theory w m fields slots fs → has_marks slots ≡ false
    exit_unmarked m [] [] [] h = refl
    exit_unmarked m (exit_given e ∷ fields) slots (f ∷ fs) h = exit_unmarked m fields slots fs h.1
    exit_unmarked m (exit_any sort ∷ fields) (slot ∷ slots) (f ∷ fs) h =
        or_from (is_mark slot) (has_marks slots) (slot_unmarked slot sort h.0.0 h.0.1) (exit_unmarked m fields slots fs h.1)
    exit_unmarked m _ _ _ h = absurd h

  tree_unmarked : (program : Program) (d : Derivation) (b : Behaviour) (m : MarkedAssignment) (k : Kind) (fs : List MarkedField) →
      MayDeriveWith program w m b d k fs → has_mark d ≡ false
  tree_unmarked program (pre slots) (action g fields p rest) m k fs h = fields_unmarked program.theory m m h.0 fields slots fs h.2
  tree_unmarked program int b m k fs h = refl
  tree_unmarked program (exiting slots) (exit fields) m k fs h = exit_unmarked program.theory m fields slots fs h.1
  tree_unmarked program (chl d) (choice x y) m k fs h = tree_unmarked program d x m k fs h
  tree_unmarked program (chr d) (choice x y) m k fs h = tree_unmarked program d y m k fs h
  tree_unmarked program (val slot d) (value_choice x body) m k fs h =
      or_from (is_mark slot) (has_mark d) (slot_unmarked program.theory slot x.sort h.0 h.1)
      (tree_unmarked program d body (with_marked x h.0 m) k fs h.3)
  tree_unmarked program (gate n d) (gate_choice g gates body) m k fs h =
      tree_unmarked program d (relabel (record { from = g; to = h.1 } ∷ []) body) m k fs h.4
  tree_unmarked program (guard d) (guarded p body) m k fs h = tree_unmarked program d body m k fs h.1
  tree_unmarked program (letting d) (bound bindings body) m k fs h = tree_unmarked program d body h.0 k fs h.2
  tree_unmarked program (parl d) (parallel gates x y) m k fs h = tree_unmarked program d x m k fs h.0
  tree_unmarked program (parr d) (parallel gates x y) m k fs h = tree_unmarked program d y m k fs h.0
  tree_unmarked program (both d e) (parallel gates x y) m k fs h =
      or_from (has_mark d) (has_mark e) (tree_unmarked program d x m k h.0 h.2) (tree_unmarked program e y m k h.1 h.3)
  tree_unmarked program (hiding d) (hide gates body) m k fs h = tree_unmarked program d body m (at_gate h.0) h.1 h.2
  tree_unmarked program (pass d) (hide gates body) m k fs h = tree_unmarked program d body m k fs h.0
  tree_unmarked program (enstep d) (enable x xs y) m k fs h = tree_unmarked program d x m k fs h.0
  tree_unmarked program (enend d) (enable x xs y) m k fs h = tree_unmarked program d x m ends h.0 h.1
  tree_unmarked program (disstep d) (disable x y) m k fs h = tree_unmarked program d x m k fs h.0
  tree_unmarked program (disend d) (disable x y) m k fs h = tree_unmarked program d x m k fs h.0
  tree_unmarked program (distake d) (disable x y) m k fs h = tree_unmarked program d y m k fs h
  tree_unmarked program (calling d) (call p actual terms) m k fs h =
      tree_unmarked program d (relabel (pairs_of h.0 actual) h.2) h.3 k fs h.6
  tree_unmarked program (rel d) (relabel pairs body) m k fs h = tree_unmarked program d body m h.0 fs h.1
  tree_unmarked program _ _ m k fs h = absurd h

pub complete_windows_have_no_beyond : CompleteWindowsHaveNoBeyond
complete_windows_have_no_beyond program w complete b o d k h =
    both_ways (has_mark d) (tree_unmarked w complete program d b _ k h.0.fields h.0.derives) h.1
