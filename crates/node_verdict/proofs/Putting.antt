-- What a behaviour with terms put in may do, and is asked, by a tree is what the code with these terms for its variables may do, and is.
use Rattle.std.proofs.Common.{◌↔◌, List, [], ◌∷◌, map, refl, sym, subst, Option, Some, None}
use Rattle.spec_core.specs.Terms.{TermTree, variable}
use Rattle.spec_core.specs.Theories.{Premise, Theory}
use Rattle.spec_core.specs.Code.{Program, ExitValue, exit_given, exit_any, ActionField, give, accept}
use Rattle.spec_core.specs.Functionality.{accepted, bound_variables}
use Rattle.rule_model.specs.declared.rules.Slot.{Slot}
use Rattle.rule_model.specs.Actions.{Kind}
use Rattle.rule_model.specs.Behaviours.{Behaviour, exit, inner, action, choice, guarded, bound, value_choice, gate_choice, parallel}
use Rattle.rule_model.specs.Behaviours.{hide, enable, disable, call, relabel}
use Rattle.rule_model.specs.Derivations.{Derivation, pre, int, exiting, chl, chr, val, gate, guard, letting, parl, parr, both, hiding, pass}
use Rattle.rule_model.specs.Derivations.{enstep, enend, disstep, disend, distake, calling, rel}
use Rattle.rule_model.specs.Substitution.{Assignment, with_term, without, put, put_in_guard, put_in_field, put_in_exit}
use Rattle.rule_model.specs.Substitution.{put_in_binding}
use Rattle.rule_laws.specs.Closing.{IsClosing}
use Rattle.symbolic_rules.specs.Windows.{Windows}
use Rattle.symbolic_rules.specs.MarkedTerms.{plain, MarkedAssignment, unmarked, with_marked}
use Rattle.symbolic_rules.specs.MarkedTerms.{GuardMayHold}
use Rattle.symbolic_rules.specs.MarkedFields.{MarkedField, FieldsMayHave, ExitMayHave}
use Rattle.symbolic_rules.specs.MayDerive.{MayDeriveWith}
use Rattle.symbolic_composites.proofs.Origins.{Leads, with_one_bound, closing_leads}
use Rattle.symbolic_reach.specs.Reached.{FieldAsks, ExitAsks, BindingAsks}
use Rattle.node_values.proofs.Reaching.{either_way, both_ways, one_of_images, asked, premise_asked, guard_asked, field_asked, exit_asked}
use Rattle.node_values.proofs.Reaching.{premise_holds, value_there, bindings_to, bindings_from, arguments_same, call_asked}
use Rattle.node_verdict.specs.Asking.{TreeAsks}

module _ (theory : Theory) (w : Windows) (r : MarkedAssignment) (s : Assignment) (t : MarkedAssignment) (leads : Leads r s t) where
  guard_holds : (p : Option Premise) → GuardMayHold theory r (put_in_guard s p) ↔ GuardMayHold theory t p
  guard_holds None = (λ h. h, λ h. h)
  guard_holds (Some p) = premise_holds theory r s t leads p

  -- the fields of an action, from one side to the other
  fields_to : (i : MarkedAssignment) (j : Assignment) (l : MarkedAssignment) (fields : List ActionField) (slots : List Slot)
      (fs : List MarkedField) → Leads i j l → (a : MarkedAssignment) → FieldsMayHave theory w r i (map (put_in_field s) fields) slots fs a →
      (c : MarkedAssignment) × FieldsMayHave theory w t l fields slots fs c × Leads a (without (accepted fields) j) c
  fields_to i j l [] [] [] lead a h = (l, refl, subst (λ z. Leads z j l) (sym h) lead)
  fields_to i j l [] [] (f ∷ fs) lead a h = absurd h
  fields_to i j l [] (slot ∷ slots) fs lead a h = absurd h
  fields_to i j l (give u ∷ fields) slots [] lead a h = absurd h
  fields_to i j l (give u ∷ fields) slots (f ∷ fs) lead a h =
      let q = fields_to i j l fields slots fs lead a h.1 in
      (q.0, ((h.0.0, (value_there theory r s t leads u h.0.0).0 h.0.1, h.0.2), q.1), q.2)
  fields_to i j l (accept x ∷ fields) [] fs lead a h = absurd h
  fields_to i j l (accept x ∷ fields) (slot ∷ slots) [] lead a h = absurd h
  fields_to i j l (accept x ∷ fields) (slot ∷ slots) (f ∷ fs) lead a h =
      let q = fields_to (with_marked x h.0 i) (with_term x (variable x.number) j) (with_marked x h.0 l) fields slots fs
      (with_one_bound x h.0 i j l lead) a h.3 in
      (q.0, (h.0, h.1, h.2, q.1), q.2)

  fields_from : (i : MarkedAssignment) (j : Assignment) (l : MarkedAssignment) (fields : List ActionField) (slots : List Slot)
      (fs : List MarkedField) → Leads i j l → (c : MarkedAssignment) → FieldsMayHave theory w t l fields slots fs c →
      (a : MarkedAssignment) × FieldsMayHave theory w r i (map (put_in_field s) fields) slots fs a × Leads a (without (accepted fields) j) c
  fields_from i j l [] [] [] lead c h = (i, refl, subst (λ z. Leads i j z) (sym h) lead)
  fields_from i j l [] [] (f ∷ fs) lead c h = absurd h
  fields_from i j l [] (slot ∷ slots) fs lead c h = absurd h
  fields_from i j l (give u ∷ fields) slots [] lead c h = absurd h
  fields_from i j l (give u ∷ fields) slots (f ∷ fs) lead c h =
      let q = fields_from i j l fields slots fs lead c h.1 in
      (q.0, ((h.0.0, (value_there theory r s t leads u h.0.0).1 h.0.1, h.0.2), q.1), q.2)
  fields_from i j l (accept x ∷ fields) [] fs lead c h = absurd h
  fields_from i j l (accept x ∷ fields) (slot ∷ slots) [] lead c h = absurd h
  fields_from i j l (accept x ∷ fields) (slot ∷ slots) (f ∷ fs) lead c h =
      let q = fields_from (with_marked x h.0 i) (with_term x (variable x.number) j) (with_marked x h.0 l) fields slots fs
      (with_one_bound x h.0 i j l lead) c h.3 in
      (q.0, (h.0, h.1, h.2, q.1), q.2)

  exit_same : (fields : List ExitValue) (slots : List Slot) (fs : List MarkedField) →
      ExitMayHave theory w r (map (put_in_exit s) fields) slots fs ↔ ExitMayHave theory w t fields slots fs
  exit_same [] [] [] = (λ h. h, λ h. h)
  exit_same [] [] (f ∷ fs) = (λ h. h, λ h. h)
  exit_same [] (slot ∷ slots) fs = (λ h. h, λ h. h)
  exit_same (exit_given u ∷ fields) slots [] = (λ h. h, λ h. h)
  exit_same (exit_given u ∷ fields) slots (f ∷ fs) =
      let q = exit_same fields slots fs in (
        λ h. ((h.0.0, (value_there theory r s t leads u h.0.0).0 h.0.1, h.0.2), q.0 h.1),
        λ h. ((h.0.0, (value_there theory r s t leads u h.0.0).1 h.0.1, h.0.2), q.1 h.1),
      )
  exit_same (exit_any sort ∷ fields) [] fs = (λ h. h, λ h. h)
  exit_same (exit_any sort ∷ fields) (slot ∷ slots) [] = (λ h. h, λ h. h)
  exit_same (exit_any sort ∷ fields) (slot ∷ slots) (f ∷ fs) =
      let q = exit_same fields slots fs in (λ h. (h.0, q.0 h.1), λ h. (h.0, q.1 h.1))

module _ (program : Program) (w : Windows) where
  abbrev May : MarkedAssignment → Behaviour → Derivation → Kind → List MarkedField → Type 0
  May m b d k fs = MayDeriveWith program w m b d k fs

  derived_put : (d : Derivation) (b : Behaviour) (r : MarkedAssignment) (s : Assignment) (t : MarkedAssignment) → Leads r s t →
      (k : Kind) (fs : List MarkedField) → May r (put s b) d k fs ↔ May t b d k fs
  derived_put (pre slots) (action g fields p b) r s t leads k fs =
      let inside = without (accepted fields) s in (
        λ h.
            let q = fields_to program.theory w r s t leads r s t fields slots fs leads h.0 h.2 in
            (q.0, h.1, q.1, (guard_holds program.theory w h.0 inside q.0 q.2 p).0 h.3),
        λ h.
            let q = fields_from program.theory w r s t leads r s t fields slots fs leads h.0 h.2 in
            (q.0, h.1, q.1, (guard_holds program.theory w q.0 inside h.0 q.2 p).1 h.3),
      )
  derived_put int (inner b) r s t leads k fs = (λ h. h, λ h. h)
  derived_put (exiting slots) (exit fields) r s t leads k fs =
      let q = exit_same program.theory w r s t leads fields slots fs in (λ h. (h.0, q.0 h.1), λ h. (h.0, q.1 h.1))
  derived_put (chl d) (choice x y) r s t leads k fs = derived_put d x r s t leads k fs
  derived_put (chr d) (choice x y) r s t leads k fs = derived_put d y r s t leads k fs
  derived_put (val slot d) (value_choice x b) r s t leads k fs =
      let inside = with_term x (variable x.number) s in (
        λ h. (
          h.0,
          h.1,
          h.2,
          (derived_put d b (with_marked x h.0 r) inside (with_marked x h.0 t) (with_one_bound x h.0 r s t leads) k fs).0 h.3,
        ),
        λ h. (
          h.0,
          h.1,
          h.2,
          (derived_put d b (with_marked x h.0 r) inside (with_marked x h.0 t) (with_one_bound x h.0 r s t leads) k fs).1 h.3,
        ),
      )
  derived_put (gate j d) (gate_choice g gates b) r s t leads k fs = (
    λ h. (h.0, h.1, h.2, h.3, (derived_put d (relabel (record { from = g; to = h.1 } ∷ []) b) r s t leads k fs).0 h.4),
    λ h. (h.0, h.1, h.2, h.3, (derived_put d (relabel (record { from = g; to = h.1 } ∷ []) b) r s t leads k fs).1 h.4),
  )
  derived_put (guard d) (guarded p b) r s t leads k fs =
      both_ways (premise_holds program.theory r s t leads p) (derived_put d b r s t leads k fs)
  derived_put (letting d) (bound bindings b) r s t leads k fs =
      let inside = without (bound_variables bindings) s in (
        λ h.
            let q = bindings_to program.theory r s t leads r s t bindings leads h.0 h.1 in
            (q.0, q.1, (derived_put d b h.0 inside q.0 q.2 k fs).0 h.2),
        λ h.
            let q = bindings_from program.theory r s t leads r s t bindings leads h.0 h.1 in
            (q.0, q.1, (derived_put d b q.0 inside h.0 q.2 k fs).1 h.2),
      )
  derived_put (parl d) (parallel gates x y) r s t leads k fs =
      let q = derived_put d x r s t leads k fs in (λ h. (q.0 h.0, h.1), λ h. (q.1 h.0, h.1))
  derived_put (parr d) (parallel gates x y) r s t leads k fs =
      let q = derived_put d y r s t leads k fs in (λ h. (q.0 h.0, h.1), λ h. (q.1 h.0, h.1))
  derived_put (both d e) (parallel gates x y) r s t leads k fs = (
    λ h. (
      h.0,
      h.1,
      (derived_put d x r s t leads k h.0).0 h.2,
      (derived_put e y r s t leads k h.1).0 h.3,
      h.4,
      h.5,
    ),
    λ h. (
      h.0,
      h.1,
      (derived_put d x r s t leads k h.0).1 h.2,
      (derived_put e y r s t leads k h.1).1 h.3,
      h.4,
      h.5,
    ),
  )
  derived_put (hiding d) (hide gates b) r s t leads k fs = (
    λ h. (h.0, h.1, (derived_put d b r s t leads _ h.1).0 h.2, h.3, h.4, h.5, h.6),
    λ h. (h.0, h.1, (derived_put d b r s t leads _ h.1).1 h.2, h.3, h.4, h.5, h.6),
  )
  derived_put (pass d) (hide gates b) r s t leads k fs =
      let q = derived_put d b r s t leads k fs in (λ h. (q.0 h.0, h.1), λ h. (q.1 h.0, h.1))
  derived_put (enstep d) (enable x xs y) r s t leads k fs =
      let q = derived_put d x r s t leads k fs in (λ h. (q.0 h.0, h.1), λ h. (q.1 h.0, h.1))
  derived_put (enend d) (enable x xs y) r s t leads k fs = (
    λ h. (h.0, (derived_put d x r s t leads _ h.0).0 h.1, h.2, h.3, h.4, h.5),
    λ h. (h.0, (derived_put d x r s t leads _ h.0).1 h.1, h.2, h.3, h.4, h.5),
  )
  derived_put (disstep d) (disable x y) r s t leads k fs =
      let q = derived_put d x r s t leads k fs in (λ h. (q.0 h.0, h.1), λ h. (q.1 h.0, h.1))
  derived_put (disend d) (disable x y) r s t leads k fs =
      let q = derived_put d x r s t leads k fs in (λ h. (q.0 h.0, h.1), λ h. (q.1 h.0, h.1))
  derived_put (distake d) (disable x y) r s t leads k fs = derived_put d y r s t leads k fs
  derived_put (calling d) (call p actual terms) r s t leads k fs = (
    λ h. (
      h.0,
      h.1,
      h.2,
      h.3,
      h.4,
      (arguments_same program.theory r s t leads unmarked h.1 terms h.3).0 h.5,
      h.6,
    ),
    λ h. (
      h.0,
      h.1,
      h.2,
      h.3,
      h.4,
      (arguments_same program.theory r s t leads unmarked h.1 terms h.3).1 h.5,
      h.6,
    ),
  )
  derived_put (rel d) (relabel pairs b) r s t leads k fs = (
    λ h. (h.0, (derived_put d b r s t leads h.0 fs).0 h.1, h.2),
    λ h. (h.0, (derived_put d b r s t leads h.0 fs).1 h.1, h.2),
  )
  derived_put _ _ r s t leads k fs = (λ h. absurd h, λ h. absurd h)

  asked_put : (d : Derivation) (b : Behaviour) (r : MarkedAssignment) (s : Assignment) (t : MarkedAssignment) → Leads r s t →
      (x : TermTree) → TreeAsks program w r (put s b) d x ↔ TreeAsks program w t b d x
  asked_put (pre slots) (action g fields p b) r s t leads x =
      let inside = without (accepted fields) s in
      either_way
      (one_of_images (FieldAsks program.theory r x) (FieldAsks program.theory t x) (put_in_field s)
      (field_asked program.theory r s t leads x) fields) (
        λ h.
            let q = fields_to program.theory w r s t leads r s t fields slots h.0 leads h.1 h.2 in
            (h.0, q.0, q.1, (guard_asked program.theory h.1 inside q.0 q.2 p x).0 h.3),
        λ h.
            let q = fields_from program.theory w r s t leads r s t fields slots h.0 leads h.1 h.2 in
            (h.0, q.0, q.1, (guard_asked program.theory q.0 inside h.1 q.2 p x).1 h.3),
      )
  asked_put int (inner b) r s t leads x = (λ h. h, λ h. h)
  asked_put (exiting slots) (exit fields) r s t leads x =
      one_of_images (ExitAsks program.theory r x) (ExitAsks program.theory t x) (put_in_exit s)
      (exit_asked program.theory r s t leads x) fields
  asked_put (chl d) (choice y z) r s t leads x = asked_put d y r s t leads x
  asked_put (chr d) (choice y z) r s t leads x = asked_put d z r s t leads x
  asked_put (val slot d) (value_choice y b) r s t leads x =
      let inside = with_term y (variable y.number) s in (
        λ h. (
          h.0,
          h.1,
          h.2,
          (asked_put d b (with_marked y h.0 r) inside (with_marked y h.0 t) (with_one_bound y h.0 r s t leads) x).0 h.3,
        ),
        λ h. (
          h.0,
          h.1,
          h.2,
          (asked_put d b (with_marked y h.0 r) inside (with_marked y h.0 t) (with_one_bound y h.0 r s t leads) x).1 h.3,
        ),
      )
  asked_put (gate j d) (gate_choice g gates b) r s t leads x = (
    λ h. (h.0, h.1, h.2, h.3, (asked_put d (relabel (record { from = g; to = h.1 } ∷ []) b) r s t leads x).0 h.4),
    λ h. (h.0, h.1, h.2, h.3, (asked_put d (relabel (record { from = g; to = h.1 } ∷ []) b) r s t leads x).1 h.4),
  )
  asked_put (guard d) (guarded p b) r s t leads x =
      either_way (premise_asked program.theory r s t leads p x)
      (both_ways (premise_holds program.theory r s t leads p) (asked_put d b r s t leads x))
  asked_put (letting d) (bound bindings b) r s t leads x =
      let inside = without (bound_variables bindings) s in
      either_way
      (one_of_images (BindingAsks program.theory r x) (BindingAsks program.theory t x) (put_in_binding s)
      (λ v. asked program.theory r s t leads v.term x) bindings) (
        λ h.
            let q = bindings_to program.theory r s t leads r s t bindings leads h.0 h.1 in
            (q.0, q.1, (asked_put d b h.0 inside q.0 q.2 x).0 h.2),
        λ h.
            let q = bindings_from program.theory r s t leads r s t bindings leads h.0 h.1 in
            (q.0, q.1, (asked_put d b q.0 inside h.0 q.2 x).1 h.2),
      )
  asked_put (parl d) (parallel gates y z) r s t leads x = asked_put d y r s t leads x
  asked_put (parr d) (parallel gates y z) r s t leads x = asked_put d z r s t leads x
  asked_put (both d e) (parallel gates y z) r s t leads x =
      either_way (asked_put d y r s t leads x) (
        λ h. (h.0, h.1, (derived_put d y r s t leads h.0 h.1).0 h.2, (asked_put e z r s t leads x).0 h.3),
        λ h. (h.0, h.1, (derived_put d y r s t leads h.0 h.1).1 h.2, (asked_put e z r s t leads x).1 h.3),
      )
  asked_put (hiding d) (hide gates b) r s t leads x = asked_put d b r s t leads x
  asked_put (pass d) (hide gates b) r s t leads x = asked_put d b r s t leads x
  asked_put (enstep d) (enable y xs z) r s t leads x = asked_put d y r s t leads x
  asked_put (enend d) (enable y xs z) r s t leads x = asked_put d y r s t leads x
  asked_put (disstep d) (disable y z) r s t leads x = asked_put d y r s t leads x
  asked_put (disend d) (disable y z) r s t leads x = asked_put d y r s t leads x
  asked_put (distake d) (disable y z) r s t leads x = asked_put d z r s t leads x
  asked_put (calling d) (call p actual terms) r s t leads x = (
    λ h. (h.0, h.1, h.2, h.3, (call_asked program.theory r s t leads h.1 terms x).0 h.4),
    λ h. (h.0, h.1, h.2, h.3, (call_asked program.theory r s t leads h.1 terms x).1 h.4),
  )
  asked_put (rel d) (relabel pairs b) r s t leads x = asked_put d b r s t leads x
  asked_put _ _ r s t leads x = (λ h. absurd h, λ h. absurd h)

  -- the same of a closed behaviour
  pub derived_of_origin : (s : Assignment) → IsClosing s → (b : Behaviour) (d : Derivation) (k : Kind) (fs : List MarkedField) →
      May unmarked (put s b) d k fs ↔ May (λ x. plain (s x)) b d k fs
  derived_of_origin s closing b d k fs = derived_put d b unmarked s (λ x. plain (s x)) (closing_leads s closing) k fs

  pub asked_of_origin : (s : Assignment) → IsClosing s → (b : Behaviour) (d : Derivation) (t : TermTree) →
      TreeAsks program w unmarked (put s b) d t ↔ TreeAsks program w (λ x. plain (s x)) b d t
  asked_of_origin s closing b d t = asked_put d b unmarked s (λ x. plain (s x)) (closing_leads s closing) t
