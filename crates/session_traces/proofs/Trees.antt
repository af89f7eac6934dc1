-- What stands in trees of rules fits.
use Rattle.std.proofs.Common.{ℕ, suc, ◌≡◌, ◌<◌, ◌^◌, List, [], ◌∷◌, Some, arith}
use Rattle.std.specs.List.{slice_get}
use Rattle.std.proofs.lemmas.Option.{slice_get_within}
use Rattle.spec_core.specs.Code.{ActionField, ExitValue, Program, accept, exit_any, exit_given, give}
use Rattle.spec_core.specs.Functionality.{bound_variables, with_variable, with_variables}
use Rattle.spec_core.specs.Lists.{Each}
use Rattle.spec_core.specs.Ready.{IsReady}
use Rattle.spec_core.specs.Sorts.{no_variables}
use Rattle.spec_core.specs.Terms.{TermTree}
use Rattle.spec_core.specs.Theories.{Theory}
use Rattle.rule_model.specs.declared.action.Action.{Action}
use Rattle.rule_model.specs.declared.action.Action.TheVariants.{Exit}
use Rattle.rule_model.specs.declared.rules.Slot.{Slot}
use Rattle.rule_model.specs.declared.rules.Slot.TheVariants.{Blank, Mark, Of}
use Rattle.rule_model.specs.Actions.{Kind, at_gate, doing, ends, pairs_of}
use Rattle.rule_model.specs.Behaviours.{Behaviour, exit, inner, action, choice, guarded, bound, value_choice, gate_choice, parallel}
use Rattle.rule_model.specs.Behaviours.{hide, enable, disable, call, relabel}
use Rattle.rule_model.specs.Derivations.{Derivation, pre, int, exiting, chl, chr, val, gate, guard, letting, parl, parr, both, hiding, pass}
use Rattle.rule_model.specs.Derivations.{enstep, enend, disstep, disend, distake, calling, rel}
use Rattle.rule_model.specs.Derives.{DerivesWith}
use Rattle.rule_model.specs.Fields.{ExitHas, FieldsHave, Spells}
use Rattle.rule_model.specs.Substitution.{Assignment, with_term}
use Rattle.rule_laws.specs.Spelled.{SpellsSome}
use Rattle.rule_sorts.specs.Fitting.{AreFew, BehaviourFits, HasFewGates}
use Rattle.rule_sorts.proofs.Reached.{body_fits}
use Rattle.rule_sorts.proofs.Suiting.{Sorts}
use Rattle.symbolic_rules.specs.MarkedFields.{Chooses, ExitMayHave, FieldsMayHave, MarkedField}
use Rattle.symbolic_rules.specs.MarkedTerms.{MarkedAssignment, MarkedTerm, with_marked}
use Rattle.symbolic_rules.specs.MayDerive.{MayDeriveWith}
use Rattle.symbolic_rules.specs.Windows.{Windows}
use Rattle.trace_text.specs.Fits.{SlotFits, TreeFits}
use Rattle.value_text.specs.Values.{IsGroundList}

spelled_fits : (theory : Theory) (v : List ℕ) (n : TermTree) (sort : ℕ) → Spells theory v n sort → IsGroundList theory v
spelled_fits theory v n sort h = record { term = n; spelled = h.spelled; fits = (sort, h.of_sort) }

pub some_fits : (theory : Theory) (v : List ℕ) → SpellsSome theory v → IsGroundList theory v
some_fits theory v h = record { term = h.0; spelled = h.1; fits = h.2.fits }

-- a place of a gate among few
place_fits : (gates : List ℕ) (j i h : ℕ) → AreFew gates → j ≡ suc i → slice_get gates i ≡ Some h → j < 2 ^ 32
place_fits gates j i h few e is = let low = slice_get_within gates i h is in omega (arith, few, e, low)

module _ (program : Program) where
  fields_fit : (s t u : Assignment) (fields : List ActionField) (slots : List Slot) (values : List (List ℕ)) →
      FieldsHave program.theory s t fields slots values u → Each (SlotFits program) slots
  fields_fit s t u [] [] [] h = tt
  fields_fit s t u (give e ∷ fields) slots (v ∷ values) h = fields_fit s t u fields slots values h.1
  fields_fit s t u (accept x ∷ fields) (Of w ∷ slots) (v ∷ values) h =
      (spelled_fits program.theory w h.1 x.sort h.2, fields_fit s (with_term x h.1 t) u fields slots values h.3)
  fields_fit s t u _ _ _ h = absurd h

  exit_fits : (s : Assignment) (fields : List ExitValue) (slots : List Slot) (values : List (List ℕ)) →
      ExitHas program.theory s fields slots values → Each (SlotFits program) slots
  exit_fits s [] [] [] h = tt
  exit_fits s (exit_given e ∷ fields) slots (v ∷ values) h = exit_fits s fields slots values h.1
  exit_fits s (exit_any sort ∷ fields) (Of w ∷ slots) (v ∷ values) h =
      (spelled_fits program.theory w h.1.0 sort h.1.1, exit_fits s fields slots values h.2)
  exit_fits s _ _ _ h = absurd h

  module _ (w : Windows) where
    chosen_fits : (slot : Slot) (sort : ℕ) (k : MarkedTerm) → Chooses program.theory w slot sort k → SlotFits program slot
    chosen_fits (Of v) sort k h = spelled_fits program.theory v h.0 sort h.1
    chosen_fits Mark sort k h = tt
    chosen_fits Blank sort k h = h

    marked_fields_fit : (m l r : MarkedAssignment) (fields : List ActionField) (slots : List Slot) (fs : List MarkedField) →
        FieldsMayHave program.theory w m l fields slots fs r → Each (SlotFits program) slots
    marked_fields_fit m l r [] [] [] h = tt
    marked_fields_fit m l r (give e ∷ fields) slots (f ∷ fs) h = marked_fields_fit m l r fields slots fs h.1
    marked_fields_fit m l r (accept x ∷ fields) (slot ∷ slots) (f ∷ fs) h =
        (chosen_fits slot x.sort h.0 h.1, marked_fields_fit m (with_marked x h.0 l) r fields slots fs h.3)
    marked_fields_fit m l r _ _ _ h = absurd h

    marked_exit_fits : (m : MarkedAssignment) (fields : List ExitValue) (slots : List Slot) (fs : List MarkedField) →
        ExitMayHave program.theory w m fields slots fs → Each (SlotFits program) slots
    marked_exit_fits m [] [] [] h = tt
    marked_exit_fits m (exit_given e ∷ fields) slots (f ∷ fs) h = marked_exit_fits m fields slots fs h.1
    marked_exit_fits m (exit_any sort ∷ fields) (slot ∷ slots) (f ∷ fs) h =
        (chosen_fits slot sort h.0.0 h.0.1, marked_exit_fits m fields slots fs h.1)
    marked_exit_fits m _ _ _ h = absurd h

  module _ (ready : IsReady program) (few : HasFewGates program) where
    -- the tree by which a behaviour that fits acts fits
    pub tree_fits : (d : Derivation) (vars : Sorts) (b : Behaviour) (s : Assignment) (a : Action) (c : Behaviour) →
        BehaviourFits program vars b → DerivesWith program s b d a c → TreeFits program d
    tree_fits (pre slots) vars (action g fields p rest) s a c i h = fields_fit s s h.1 fields slots h.0 h.3
    tree_fits int vars (inner rest) s a c i h = tt
    tree_fits (exiting slots) vars (exit fields) s a c i h = exit_fits s fields slots h.0 h.2
    tree_fits (chl d) vars (choice left right) s a c i h = tree_fits d vars left s a c i.0 h
    tree_fits (chr d) vars (choice left right) s a c i h = tree_fits d vars right s a c i.1 h
    tree_fits (val (Of u) d) vars (value_choice x body) s a c i h =
        (spelled_fits program.theory u h.0 x.sort h.1, tree_fits d (with_variable x vars) body (with_term x h.0 s) a c i h.2)
    tree_fits (val (Of u) d) vars _ s a c i h = absurd h
    tree_fits (val Mark d) vars b s a c i h = absurd h
    tree_fits (val Blank d) vars b s a c i h = absurd h
    tree_fits (gate j d) vars (gate_choice g gates body) s a c i h = (
      place_fits gates j h.0 h.1 i.0 h.2 h.3,
      tree_fits d vars (relabel (record { from = g; to = h.1 } ∷ []) body) s a c i.1 h.4,
    )
    tree_fits (guard d) vars (guarded p body) s a c i h = tree_fits d vars body s a c i.1 h.1
    tree_fits (letting d) vars (bound bindings body) s a c i h =
        tree_fits d (with_variables (bound_variables bindings) vars) body h.0 a c i.1 h.2
    tree_fits (parl d) vars (parallel gates left right) s a c i h = tree_fits d vars left s a h.0 i.0 h.1
    tree_fits (parr d) vars (parallel gates left right) s a c i h = tree_fits d vars right s a h.0 i.1 h.1
    tree_fits (both d e) vars (parallel gates left right) s a c i h =
        (tree_fits d vars left s a h.0 i.0 h.2, tree_fits e vars right s a h.1 i.1 h.3)
    tree_fits (hiding d) vars (hide gates body) s a c i h = tree_fits d vars body s (doing h.0 h.1) h.2 i h.3
    tree_fits (pass d) vars (hide gates body) s a c i h = tree_fits d vars body s a h.0 i h.1
    tree_fits (enstep d) vars (enable left xs right) s a c i h = tree_fits d vars left s a h.0 i.0 h.1
    tree_fits (enend d) vars (enable left xs right) s a c i h = tree_fits d vars left s (Exit h.0) h.1 i.0 h.3
    tree_fits (disstep d) vars (disable left right) s a c i h = tree_fits d vars left s a h.0 i.0 h.1
    tree_fits (disend d) vars (disable left right) s a c i h = tree_fits d vars left s a c i.0 h.0
    tree_fits (distake d) vars (disable left right) s a c i h = tree_fits d vars right s a c i.1 h
    tree_fits (calling d) vars (call p actual terms) s a c i h =
        tree_fits d (with_variables h.1 no_variables) (relabel (pairs_of h.0 actual) h.2) h.3 a c
        (body_fits program ready few p h.0 h.1 h.2 h.4) h.6
    tree_fits (rel d) vars (relabel pairs body) s a c i h = tree_fits d vars body s h.0 h.1 i h.2
    tree_fits _ vars _ s a c i h = absurd h

    -- the same of a tree whose values may be marks
    pub marked_tree_fits : (w : Windows) (d : Derivation) (vars : Sorts) (b : Behaviour) (m : MarkedAssignment) (k : Kind)
        (fs : List MarkedField) → BehaviourFits program vars b → MayDeriveWith program w m b d k fs → TreeFits program d
    marked_tree_fits w (pre slots) vars (action g fields p rest) m k fs i h = marked_fields_fit w m m h.0 fields slots fs h.2
    marked_tree_fits w int vars (inner rest) m k fs i h = tt
    marked_tree_fits w (exiting slots) vars (exit fields) m k fs i h = marked_exit_fits w m fields slots fs h.1
    marked_tree_fits w (chl d) vars (choice left right) m k fs i h = marked_tree_fits w d vars left m k fs i.0 h
    marked_tree_fits w (chr d) vars (choice left right) m k fs i h = marked_tree_fits w d vars right m k fs i.1 h
    marked_tree_fits w (val slot d) vars (value_choice x body) m k fs i h = (
      chosen_fits w slot x.sort h.0 h.1,
      marked_tree_fits w d (with_variable x vars) body (with_marked x h.0 m) k fs i h.3,
    )
    marked_tree_fits w (gate j d) vars (gate_choice g gates body) m k fs i h = (
      place_fits gates j h.0 h.1 i.0 h.2 h.3,
      marked_tree_fits w d vars (relabel (record { from = g; to = h.1 } ∷ []) body) m k fs i.1 h.4,
    )
    marked_tree_fits w (guard d) vars (guarded p body) m k fs i h = marked_tree_fits w d vars body m k fs i.1 h.1
    marked_tree_fits w (letting d) vars (bound bindings body) m k fs i h =
        marked_tree_fits w d (with_variables (bound_variables bindings) vars) body h.0 k fs i.1 h.2
    marked_tree_fits w (parl d) vars (parallel gates left right) m k fs i h = marked_tree_fits w d vars left m k fs i.0 h.0
    marked_tree_fits w (parr d) vars (parallel gates left right) m k fs i h = marked_tree_fits w d vars right m k fs i.1 h.0
    marked_tree_fits w (both d e) vars (parallel gates left right) m k fs i h =
        (marked_tree_fits w d vars left m k h.0 i.0 h.2, marked_tree_fits w e vars right m k h.1 i.1 h.3)
    marked_tree_fits w (hiding d) vars (hide gates body) m k fs i h = marked_tree_fits w d vars body m (at_gate h.0) h.1 i h.2
    marked_tree_fits w (pass d) vars (hide gates body) m k fs i h = marked_tree_fits w d vars body m k fs i h.0
    marked_tree_fits w (enstep d) vars (enable left xs right) m k fs i h = marked_tree_fits w d vars left m k fs i.0 h.0
    marked_tree_fits w (enend d) vars (enable left xs right) m k fs i h = marked_tree_fits w d vars left m ends h.0 i.0 h.1
    marked_tree_fits w (disstep d) vars (disable left right) m k fs i h = marked_tree_fits w d vars left m k fs i.0 h.0
    marked_tree_fits w (disend d) vars (disable left right) m k fs i h = marked_tree_fits w d vars left m k fs i.0 h.0
    marked_tree_fits w (distake d) vars (disable left right) m k fs i h = marked_tree_fits w d vars right m k fs i.1 h
    marked_tree_fits w (calling d) vars (call p actual terms) m k fs i h =
        marked_tree_fits w d (with_variables h.1 no_variables) (relabel (pairs_of h.0 actual) h.2) h.3 k fs
        (body_fits program ready few p h.0 h.1 h.2 h.4) h.6
    marked_tree_fits w (rel d) vars (relabel pairs body) m k fs i h = marked_tree_fits w d vars body m h.0 fs i h.1
    marked_tree_fits w _ vars _ m k fs i h = absurd h
