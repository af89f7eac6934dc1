-- The terms that trees ask are reached.
use Rattle.std.proofs.Common.{ℕ, zero, suc, ◌≡◌, ◌⊎◌, inl, inr, List, [], ◌∷◌, sym, subst, Some, None}
use Rattle.std.specs.List.{slice_get}
use Rattle.spec_core.specs.Lists.{Each, IsOneOf}
use Rattle.spec_core.specs.Terms.{TermTree}
use Rattle.spec_core.specs.Theories.{Theory}
use Rattle.spec_core.specs.Code.{Program, ActionField, give, accept}
use Rattle.spec_core.proofs.Lists.{each_left, each_right}
use Rattle.rule_model.specs.declared.rules.Slot.{Slot}
use Rattle.rule_model.specs.declared.rules.Slot.TheVariants.{Of, Mark, Blank}
use Rattle.rule_model.specs.Actions.{pairs_of}
use Rattle.rule_model.specs.Behaviours.{Behaviour, exit, action, choice, guarded, bound, value_choice, gate_choice, parallel}
use Rattle.rule_model.specs.Behaviours.{hide, enable, disable, call, relabel}
use Rattle.rule_model.specs.Derivations.{Derivation, pre, exiting, chl, chr, val, gate, guard, letting, parl, parr, both, hiding, pass}
use Rattle.rule_model.specs.Derivations.{enstep, enend, disstep, disend, distake, calling, rel}
use Rattle.symbolic_rules.specs.Windows.{Windows}
use Rattle.symbolic_rules.specs.MarkedTerms.{MarkedTerm, MarkedAssignment, with_marked}
use Rattle.symbolic_rules.specs.MarkedFields.{MarkedField, chosen, IsWithin, Chooses, FieldsMayHave}
use Rattle.symbolic_reach.specs.Reached.{IsWithinOrOther, AcceptsMayHave, Reaches}
use Rattle.node_verdict.specs.Asking.{TreeAsks}
use Rattle.node_verdict.specs.Laws.{values_in, chosen_values, AskedTermsAreReached}

module _ (theory : Theory) (w : Windows) (others : List (List ℕ)) where
  -- a value that may be chosen
  abbrev pub MayBeChosen : List ℕ → Type 0
  MayBeChosen v = IsWithin theory w (chosen v) ⊎ IsOneOf v others

  within_or : (slot : Slot) (slots : List Slot) (sort : ℕ) (k : MarkedTerm) → Chooses theory w slot sort k →
      Each MayBeChosen (values_in (slot ∷ slots)) → IsWithinOrOther theory w others k × Each MayBeChosen (values_in slots)
  within_or (Of v) slots sort k h e = (
    subst (IsWithinOrOther theory w others) (sym h.2) (subst MayBeChosen h.1.spelled e.0),
    e.1,
  )
  within_or Mark slots sort k h e = (subst (IsWithinOrOther theory w others) (sym h.1) tt, e)
  within_or Blank slots sort k h e = absurd h

  accepts : (m : MarkedAssignment) (fields : List ActionField) (slots : List Slot) (fs : List MarkedField) (l r : MarkedAssignment) →
      Each MayBeChosen (values_in slots) → FieldsMayHave theory w m l fields slots fs r → AcceptsMayHave theory w others l fields r
  accepts m [] [] [] l r e h = h
  accepts m [] [] (f ∷ fs) l r e h = absurd h
  accepts m [] (slot ∷ slots) fs l r e h = absurd h
  accepts m (give u ∷ fields) slots [] l r e h = absurd h
  accepts m (give u ∷ fields) slots (f ∷ fs) l r e h = accepts m fields slots fs l r e h.1
  accepts m (accept x ∷ fields) [] fs l r e h = absurd h
  accepts m (accept x ∷ fields) (slot ∷ slots) [] l r e h = absurd h
  accepts m (accept x ∷ fields) (slot ∷ slots) (f ∷ fs) l r e h =
      let q = within_or slot slots x.sort h.0 h.1 e in
      (slot, h.0, h.1, q.0, accepts m fields slots fs (with_marked x h.0 l) r q.1 h.3)

no_gate : (gates : List ℕ) (i h : ℕ) → slice_get gates i ≡ Some h → gates ≡ [] → ⊥
no_gate gates i h there e = none (subst (λ z. slice_get z i ≡ Some h) e there)
  where
    none : slice_get [] i ≡ Some h → ⊥
    none q = let n : None ≡ Some h = q in cc

module _ (program : Program) (w : Windows) (others : List (List ℕ)) (t : TermTree) where
  abbrev Chosen : Derivation → Type 0
  Chosen d = Each (MayBeChosen program.theory w others) (chosen_values d)

  abbrev IsReached : MarkedAssignment → Behaviour → Type 0
  IsReached m b = Reaches program w others m b t

  reached : (d : Derivation) (b : Behaviour) (m : MarkedAssignment) → Chosen d → TreeAsks program w m b d t → IsReached m b
  reached (pre slots) (action g fields p b) m e (inl h) = (zero, inl h)
  reached (pre slots) (action g fields p b) m e (inr h) =
      (zero, inr (h.1, accepts program.theory w others m fields slots h.0 m h.1 e h.2, h.3))
  reached (exiting slots) (exit fields) m e h = (zero, h)
  reached (chl d) (choice x y) m e h = let q = reached d x m e h in (q.0, inl q.1)
  reached (chr d) (choice x y) m e h = let q = reached d y m e h in (q.0, inr q.1)
  reached (val slot d) (value_choice x b) m e h =
      let q = reached d b (with_marked x h.0 m) e h.3 in (q.0, (slot, h.0, h.1, h.2, q.1))
  reached (gate j d) (gate_choice g gates b) m e h =
      let q = reached d (relabel (record { from = g; to = h.1 } ∷ []) b) m e h.4 in (q.0, (no_gate gates h.0 h.1 h.3, q.1))
  reached (guard d) (guarded p b) m e (inl h) = (zero, inl h)
  reached (guard d) (guarded p b) m e (inr h) = let q = reached d b m e h.1 in (q.0, inr (h.0, q.1))
  reached (letting d) (bound bindings b) m e (inl h) = (zero, inl h)
  reached (letting d) (bound bindings b) m e (inr h) = let q = reached d b h.0 e h.2 in (q.0, inr (h.0, h.1, q.1))
  reached (parl d) (parallel gates x y) m e h = let q = reached d x m e h in (q.0, inl q.1)
  reached (parr d) (parallel gates x y) m e h = let q = reached d y m e h in (q.0, inr q.1)
  reached (both d f) (parallel gates x y) m e (inl h) =
      let q = reached d x m (each_left (MayBeChosen program.theory w others) (chosen_values d) (chosen_values f) e) h in (q.0, inl q.1)
  reached (both d f) (parallel gates x y) m e (inr h) =
      let q = reached f y m (each_right (MayBeChosen program.theory w others) (chosen_values d) (chosen_values f) e) h.3 in (q.0, inr q.1)
  reached (hiding d) (hide gates b) m e h = reached d b m e h
  reached (pass d) (hide gates b) m e h = reached d b m e h
  reached (enstep d) (enable x xs y) m e h = reached d x m e h
  reached (enend d) (enable x xs y) m e h = reached d x m e h
  reached (disstep d) (disable x y) m e h = let q = reached d x m e h in (q.0, inl q.1)
  reached (disend d) (disable x y) m e h = let q = reached d x m e h in (q.0, inl q.1)
  reached (distake d) (disable x y) m e h = let q = reached d y m e h in (q.0, inr q.1)
  reached (calling d) (call p actual terms) m e (formal, xs, body, definition, inl h) =
      (zero, (formal, xs, body, definition, inl h))
  reached (calling d) (call p actual terms) m e (formal, xs, body, definition, inr h) =
      let q = reached d (relabel (pairs_of formal actual) body) h.0 e h.2 in
      (suc q.0, (formal, xs, body, definition, inr (h.0, h.1, q.1)))
  reached (rel d) (relabel pairs b) m e h = reached d b m e h
  reached _ _ m e h = absurd h

pub asked_terms_are_reached : AskedTermsAreReached
asked_terms_are_reached program w others m b d t e h = reached program w others t d b m e h
