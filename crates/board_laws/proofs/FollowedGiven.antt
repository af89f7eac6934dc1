-- A tree by which a behaviour does something chooses values alone.
use Rattle.std.proofs.Common.{ℕ, List, [], ◌∷◌}
use Rattle.spec_core.specs.Lists.{Each}
use Rattle.spec_core.specs.Theories.{Theory}
use Rattle.spec_core.specs.Terms.{variable}
use Rattle.spec_core.specs.Code.{Program, ExitValue, exit_given, exit_any, ActionField, give, accept}
use Rattle.spec_core.proofs.Lists.{each_append}
use Rattle.rule_model.specs.declared.action.Action.{Action}
use Rattle.rule_model.specs.declared.action.Action.TheVariants.{Exit}
use Rattle.rule_model.specs.declared.rules.Slot.{Slot}
use Rattle.rule_model.specs.declared.rules.Slot.TheVariants.{Of, Mark, Blank}
use Rattle.rule_model.specs.Actions.{doing, pairs_of}
use Rattle.rule_model.specs.Behaviours.{Behaviour, exit, action, choice, guarded, bound, value_choice, gate_choice, parallel, hide, enable}
use Rattle.rule_model.specs.Behaviours.{disable, call, relabel}
use Rattle.rule_model.specs.Derivations.{Derivation, pre, int, exiting, chl, chr, val, gate, guard, letting, parl, parr, both, hiding, pass}
use Rattle.rule_model.specs.Derivations.{enstep, enend, disstep, disend, distake, calling, rel}
use Rattle.rule_model.specs.Derives.{DerivesWith}
use Rattle.rule_model.specs.Fields.{FieldsHave, ExitHas}
use Rattle.rule_model.specs.Substitution.{Assignment, with_term}
use Rattle.node_steps.specs.Laws.{IsGiven}
use Rattle.node_trees.specs.Rests.{slots_of}
use Rattle.board_laws.specs.FollowedLaws.{StepsChooseValues}

given_fields : (theory : Theory) (s t : Assignment) (fields : List ActionField) (slots : List Slot) (values : List (List ℕ))
    (u : Assignment) → FieldsHave theory s t fields slots values u → Each IsGiven slots
given_fields theory s t [] [] [] u h = tt
given_fields theory s t (give e ∷ fields) slots (v ∷ values) u h = given_fields theory s t fields slots values u h.1
given_fields theory s t (accept x ∷ fields) (Of w ∷ slots) (v ∷ values) u h =
    (tt, given_fields theory s (with_term x h.1 t) fields slots values u h.3)
given_fields theory s t _ _ _ u h = absurd h

given_exit : (theory : Theory) (s : Assignment) (fields : List ExitValue) (slots : List Slot) (values : List (List ℕ)) →
    ExitHas theory s fields slots values → Each IsGiven slots
given_exit theory s [] [] [] h = tt
given_exit theory s (exit_given e ∷ fields) slots (v ∷ values) h = given_exit theory s fields slots values h.1
given_exit theory s (exit_any sort ∷ fields) (Of w ∷ slots) (v ∷ values) h = (tt, given_exit theory s fields slots values h.2)
given_exit theory s _ _ _ h = absurd h

module _ (program : Program) where
  given : (d : Derivation) (s : Assignment) (b : Behaviour) (a : Action) (c : Behaviour) → DerivesWith program s b d a c →
      Each IsGiven (slots_of d)
  given (pre slots) s (action g fields p rest) a c h = given_fields program.theory s s fields slots h.0 h.1 h.3
  given int s b a c h = tt
  given (exiting slots) s (exit fields) a c h = given_exit program.theory s fields slots h.0 h.2
  given (chl d) s (choice x y) a c h = given d s x a c h
  given (chr d) s (choice x y) a c h = given d s y a c h
  given (val (Of v) d) s (value_choice x body) a c h = (tt, given d (with_term x h.0 s) body a c h.2)
  given (val Mark d) s b a c h = absurd h
  given (val Blank d) s b a c h = absurd h
  given (gate j d) s (gate_choice g gates body) a c h = given d s (relabel (record { from = g; to = h.1 } ∷ []) body) a c h.4
  given (guard d) s (guarded p body) a c h = given d s body a c h.1
  given (letting d) s (bound bindings body) a c h = given d h.0 body a c h.2
  given (parl d) s (parallel gates x y) a c h = given d s x a h.0 h.1
  given (parr d) s (parallel gates x y) a c h = given d s y a h.0 h.1
  given (both d e) s (parallel gates x y) a c h =
      each_append IsGiven (slots_of d) (slots_of e) (given d s x a h.0 h.2) (given e s y a h.1 h.3)
  given (hiding d) s (hide gates body) a c h = given d s body (doing h.0 h.1) h.2 h.3
  given (pass d) s (hide gates body) a c h = given d s body a h.0 h.1
  given (enstep d) s (enable x xs y) a c h = given d s x a h.0 h.1
  given (enend d) s (enable x xs y) a c h = given d s x (Exit h.0) h.1 h.3
  given (disstep d) s (disable x y) a c h = given d s x a h.0 h.1
  given (disend d) s (disable x y) a c h = given d s x a c h.0
  given (distake d) s (disable x y) a c h = given d s y a c h
  given (calling d) s (call p actual terms) a c h = given d h.3 (relabel (pairs_of h.0 actual) h.2) a c h.6
  given (rel d) s (relabel pairs body) a c h = given d s body h.0 h.1 h.2
  given _ s _ a c h = absurd h

pub steps_choose_values : StepsChooseValues
steps_choose_values program b d a c h = given program d variable b a c h
