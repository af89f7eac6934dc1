-- A tree has one loosened tree.
use Rattle.std.proofs.Common.{◌≡◌, ◌∙◌, sym, ap, subst, List, [], ◌∷◌, Bool, false}
use Rattle.spec_core.specs.Code.{Program}
use Rattle.rule_laws.proofs.OneStep.{one_definition, one_gate}
use Rattle.rule_model.specs.Actions.{pairs_of}
use Rattle.rule_model.specs.Behaviours.{Behaviour, exit, inner, action, choice, guarded, bound, value_choice, gate_choice, parallel}
use Rattle.rule_model.specs.Behaviours.{hide, enable, disable, call, relabel}
use Rattle.rule_model.specs.Derivations.{Derivation, pre, int, exiting, chl, chr, val, gate, guard, letting, parl, parr, both, hiding, pass}
use Rattle.rule_model.specs.Derivations.{enstep, enend, disstep, disend, distake, calling, rel}
use Rattle.symbolic_rules.specs.Windows.{Windows}
use Rattle.symbolic_rules.specs.Trees.{is_mark}
use Rattle.symbolic_laws.specs.Loosened.{Marking, with_mark, no_marks, marks_bound, marks_passed, either_told, given_by}
use Rattle.symbolic_laws.specs.Loosened.{loosened_slot, loosened_slots, loosened_at_exit, LoosensWith}
use Rattle.symbolic_laws.specs.Laws.{OneTreeIsLoosened}

module _ (program : Program) (w : Windows) where
  -- the same places are told, and where the same are given, the tree is the same
  abbrev Same : List Bool → List Bool → Derivation → Derivation → List Bool → List Bool → Type 0
  Same given other e f told others = (told ≡ others) × (given ≡ other → e ≡ f)

  -- the same below one more rule
  under : (row : Derivation → Derivation) (given other : List Bool) (e f d c : Derivation) (told others : List Bool) → e ≡ row d →
      f ≡ row c → Same given other d c told others → Same given other e f told others
  under row given other e f d c told others h k is = (is.0, λ same. h ∙ ap row (is.1 same) ∙ sym k)

  -- the same below a rule whose action isn't seen
  closed : (row : Derivation → Derivation) (given other : List Bool) (e f d c : Derivation) (told others own owns : List Bool) →
      e ≡ row d → f ≡ row c → told ≡ [] → others ≡ [] → Same own owns d c own owns → Same given other e f told others
  closed row given other e f d c told others own owns h k t u is = (t ∙ sym u, λ same. h ∙ ap row (is.1 is.0) ∙ sym k)

  one : (d : Derivation) (b : Behaviour) (marks : Marking) (given other : List Bool) (e f : Derivation) (told others : List Bool) →
      LoosensWith program w marks given b d e told → LoosensWith program w marks other b d f others → Same given other e f told others
  one (pre slots) (action g fields p rest) marks given other e f told others h k =
      (h.1 ∙ sym k.1, λ same. h.0 ∙ ap (λ places. pre (loosened_slots w fields places slots)) same ∙ sym k.0)
  one int (inner rest) marks given other e f told others h k = (h.1 ∙ sym k.1, λ same. h.0 ∙ sym k.0)
  one (exiting slots) (exit fields) marks given other e f told others h k =
      (h.1 ∙ sym k.1, λ same. h.0 ∙ ap (λ places. exiting (loosened_at_exit w fields places slots)) same ∙ sym k.0)
  one (chl d) (choice x y) marks given other e f told others h k =
      under chl given other e f h.0 k.0 told others h.1 k.1 (one d x marks given other h.0 k.0 told others h.2 k.2)
  one (chr d) (choice x y) marks given other e f told others h k =
      under chr given other e f h.0 k.0 told others h.1 k.1 (one d y marks given other h.0 k.0 told others h.2 k.2)
  one (val slot d) (value_choice x body) marks given other e f told others h k =
      under (val (loosened_slot w x.sort false slot)) given other e f h.0 k.0 told others h.1 k.1
      (one d body (with_mark x (is_mark (loosened_slot w x.sort false slot)) marks) given other h.0 k.0 told others h.2 k.2)
  one (gate j d) (gate_choice g gates body) marks given other e f told others h k =
      let same = one_gate gates h.0 h.1 k.0 k.1 (sym h.2 ∙ k.2) h.3 k.3 in
      under (gate j) given other e f h.4.0 k.4.0 told others h.4.1 k.4.1
      (one d (relabel (record { from = g; to = h.1 } ∷ []) body) marks given other h.4.0 k.4.0 told others h.4.2
      (subst (λ z. LoosensWith program w marks other (relabel (record { from = g; to = z } ∷ []) body) d k.4.0 others) (sym same) k.4.2))
  one (guard d) (guarded p body) marks given other e f told others h k =
      under guard given other e f h.0 k.0 told others h.1 k.1 (one d body marks given other h.0 k.0 told others h.2 k.2)
  one (letting d) (bound bindings body) marks given other e f told others h k =
      under letting given other e f h.0 k.0 told others h.1 k.1
      (one d body (marks_bound marks marks bindings) given other h.0 k.0 told others h.2 k.2)
  one (parl d) (parallel gates x y) marks given other e f told others h k =
      under parl given other e f h.0 k.0 told others h.1 k.1 (one d x marks given other h.0 k.0 told others h.2 k.2)
  one (parr d) (parallel gates x y) marks given other e f told others h k =
      under parr given other e f h.0 k.0 told others h.1 k.1 (one d y marks given other h.0 k.0 told others h.2 k.2)
  one (both d c) (parallel gates x y) marks given other e f told others h k =
      let left = one d x marks given other h.0 k.0 h.2 k.2 h.5 k.5 in
      let right = one c y marks given other h.1 k.1 h.3 k.3 h.6 k.6 in (
        h.7 ∙ ap (λ places. either_told places h.3) left.0 ∙ ap (λ places. either_told k.2 places) right.0 ∙ sym k.7,
        λ same. h.4 ∙ ap (λ z. both z h.1) (left.1 same) ∙ ap (λ z. both k.0 z) (right.1 same) ∙ sym k.4,
      )
  one (hiding d) (hide gates body) marks given other e f told others h k =
      closed hiding given other e f h.0 k.0 told others h.1 k.1 h.2 k.2 h.4 k.4 (one d body marks h.1 k.1 h.0 k.0 h.1 k.1 h.3 k.3)
  one (pass d) (hide gates body) marks given other e f told others h k =
      under pass given other e f h.0 k.0 told others h.1 k.1 (one d body marks given other h.0 k.0 told others h.2 k.2)
  one (enstep d) (enable x xs y) marks given other e f told others h k =
      under enstep given other e f h.0 k.0 told others h.1 k.1 (one d x marks given other h.0 k.0 told others h.2 k.2)
  one (enend d) (enable x xs y) marks given other e f told others h k =
      closed enend given other e f h.0 k.0 told others h.1 k.1 h.2 k.2 h.4 k.4 (one d x marks h.1 k.1 h.0 k.0 h.1 k.1 h.3 k.3)
  one (disstep d) (disable x y) marks given other e f told others h k =
      under disstep given other e f h.0 k.0 told others h.1 k.1 (one d x marks given other h.0 k.0 told others h.2 k.2)
  one (disend d) (disable x y) marks given other e f told others h k =
      under disend given other e f h.0 k.0 told others h.1 k.1 (one d x marks given other h.0 k.0 told others h.2 k.2)
  one (distake d) (disable x y) marks given other e f told others h k =
      under distake given other e f h.0 k.0 told others h.1 k.1 (one d y marks given other h.0 k.0 told others h.2 k.2)
  one (calling d) (call p actual terms) marks given other e f told others h k =
      let same = one_definition program p h.0 k.0 h.1 k.1 h.2 k.2 h.4 k.4 in
      under calling given other e f h.3 k.3 told others h.5 k.5
      (one d (relabel (pairs_of h.0 actual) h.2) (marks_passed marks no_marks h.1 terms) given other h.3 k.3 told others h.6
      (subst (λ z. LoosensWith program w (marks_passed marks no_marks z terms) other (relabel (pairs_of h.0 actual) h.2) d k.3 others)
      (sym same.1)
      (subst (λ z. LoosensWith program w (marks_passed marks no_marks k.1 terms) other (relabel (pairs_of z actual) h.2) d k.3 others)
      (sym same.0)
      (subst (λ z. LoosensWith program w (marks_passed marks no_marks k.1 terms) other (relabel (pairs_of k.0 actual) z) d k.3 others)
      (sym same.2) k.6))))
  one (rel d) (relabel pairs body) marks given other e f told others h k =
      under rel given other e f h.0 k.0 told others h.1 k.1 (one d body marks given other h.0 k.0 told others h.2 k.2)
  one _ _ marks given other e f told others h k = absurd h

pub one_tree_is_loosened : OneTreeIsLoosened
one_tree_is_loosened program w b o d e f h k =
    let is = one program w d b no_marks (given_by h.0 o) (given_by k.0 o) e f h.0 k.0 h.1 k.1 in
    is.1 (ap (λ told. given_by told o) is.0)
