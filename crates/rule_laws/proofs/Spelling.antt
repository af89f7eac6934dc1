-- Each value of an action that is done spells a value of the data.
use Rattle.std.proofs.Common.{ℕ, ◌≡◌, List, [], ◌∷◌, sym, subst, ◌∙◌}
use Rattle.spec_core.specs.Code.{Program, Relabelling, ActionField, give, accept, ExitValue, exit_given, exit_any}
use Rattle.spec_core.specs.Lists.{Each}
use Rattle.spec_core.specs.Theories.{Theory}
use Rattle.rule_model.specs.declared.action.Action.{Action}
use Rattle.rule_model.specs.declared.action.Action.TheVariants.{Inner, Exit, At}
use Rattle.rule_model.specs.declared.rules.Slot.{Slot}
use Rattle.rule_model.specs.declared.rules.Slot.TheVariants.{Of, Mark, Blank}
use Rattle.rule_model.specs.Actions.{renamed_action, pairs_of}
use Rattle.rule_model.specs.Behaviours.{Behaviour, exit, inner, action, choice, guarded, bound, value_choice, gate_choice, parallel}
use Rattle.rule_model.specs.Behaviours.{hide, enable, disable, call, relabel}
use Rattle.rule_model.specs.Derivations.{Derivation, pre, int, exiting, chl, chr, val, gate, guard, letting, parl, parr, both, hiding, pass}
use Rattle.rule_model.specs.Derivations.{enstep, enend, disstep, disend, distake, calling, rel}
use Rattle.rule_model.specs.Derives.{DerivesWith}
use Rattle.rule_model.specs.Fields.{FieldsHave, ExitHas}
use Rattle.rule_model.specs.Substitution.{Assignment, with_term}
use Rattle.rule_laws.specs.Spelled.{SpellsSome, HasSpelled}

module _ (theory : Theory) where
  fields_spelled : (s t u : Assignment) (fields : List ActionField) (slots : List Slot) (values : List (List ℕ)) →
      FieldsHave theory s t fields slots values u → Each (SpellsSome theory) values
  fields_spelled s t u [] [] [] h = tt
  fields_spelled s t u (give e ∷ fields) slots (v ∷ values) h =
      ((h.0.0, h.0.1.spelled, h.0.1.value.is_value), fields_spelled s t u fields slots values h.1)
  fields_spelled s t u (accept x ∷ fields) (Of w ∷ slots) (v ∷ values) h =
      ((h.1, sym h.0 ∙ h.2.spelled, h.2.is_value), fields_spelled s (with_term x h.1 t) u fields slots values h.3)
  fields_spelled s t u _ _ _ h = absurd h

  exit_spelled : (s : Assignment) (fields : List ExitValue) (slots : List Slot) (values : List (List ℕ)) →
      ExitHas theory s fields slots values → Each (SpellsSome theory) values
  exit_spelled s [] [] [] h = tt
  exit_spelled s (exit_given e ∷ fields) slots (v ∷ values) h =
      ((h.0.0, h.0.1.spelled, h.0.1.value.is_value), exit_spelled s fields slots values h.1)
  exit_spelled s (exit_any sort ∷ fields) (Of w ∷ slots) (v ∷ values) h =
      ((h.1.0, sym h.0 ∙ h.1.1.spelled, h.1.1.is_value), exit_spelled s fields slots values h.2)
  exit_spelled s _ _ _ h = absurd h

  renamed_spelled : (pairs : List Relabelling) (a : Action) → HasSpelled theory a → HasSpelled theory (renamed_action pairs a)
  renamed_spelled pairs Inner h = h
  renamed_spelled pairs (Exit values) h = h
  renamed_spelled pairs (At g values) h = h

module _ (program : Program) where
  pub step_spelled : (d : Derivation) (b : Behaviour) (s : Assignment) (a : Action) (c : Behaviour) → DerivesWith program s b d a c →
      HasSpelled program.theory a
  step_spelled (pre slots) (action g fields p rest) s a c h =
      subst (HasSpelled program.theory) (sym h.2) (fields_spelled program.theory s s h.1 fields slots h.0 h.3)
  step_spelled int (inner rest) s a c h = subst (HasSpelled program.theory) (sym h.0) tt
  step_spelled (exiting slots) (exit fields) s a c h =
      subst (HasSpelled program.theory) (sym h.1) (exit_spelled program.theory s fields slots h.0 h.2)
  step_spelled (chl d) (choice left right) s a c h = step_spelled d left s a c h
  step_spelled (chr d) (choice left right) s a c h = step_spelled d right s a c h
  step_spelled (val (Of v) d) (value_choice x body) s a c h = step_spelled d body (with_term x h.0 s) a c h.2
  step_spelled (val (Of v) d) _ s a c h = absurd h
  step_spelled (val Mark d) b s a c h = absurd h
  step_spelled (val Blank d) b s a c h = absurd h
  step_spelled (gate j d) (gate_choice g gates body) s a c h =
      step_spelled d (relabel (record { from = g; to = h.1 } ∷ []) body) s a c h.4
  step_spelled (guard d) (guarded p body) s a c h = step_spelled d body s a c h.1
  step_spelled (letting d) (bound bindings body) s a c h = step_spelled d body h.0 a c h.2
  step_spelled (parl d) (parallel gates left right) s a c h = step_spelled d left s a h.0 h.1
  step_spelled (parr d) (parallel gates left right) s a c h = step_spelled d right s a h.0 h.1
  step_spelled (both d e) (parallel gates left right) s a c h = step_spelled d left s a h.0 h.2
  step_spelled (hiding d) (hide gates body) s a c h = subst (HasSpelled program.theory) (sym h.5) tt
  step_spelled (pass d) (hide gates body) s a c h = step_spelled d body s a h.0 h.1
  step_spelled (enstep d) (enable left xs right) s a c h = step_spelled d left s a h.0 h.1
  step_spelled (enend d) (enable left xs right) s a c h = subst (HasSpelled program.theory) (sym h.4) tt
  step_spelled (disstep d) (disable left right) s a c h = step_spelled d left s a h.0 h.1
  step_spelled (disend d) (disable left right) s a c h = step_spelled d left s a c h.0
  step_spelled (distake d) (disable left right) s a c h = step_spelled d right s a c h
  step_spelled (calling d) (call p actual terms) s a c h =
      step_spelled d (relabel (pairs_of h.0 actual) h.2) h.3 a c h.6
  step_spelled (rel d) (relabel pairs body) s a c h =
      subst (HasSpelled program.theory) (sym h.3)
      (renamed_spelled program.theory pairs h.0 (step_spelled d body s h.0 h.1 h.2))
  step_spelled _ _ s a c h = absurd h
