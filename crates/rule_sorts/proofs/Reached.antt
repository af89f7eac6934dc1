-- What behaviours that fit become fits.
use Rattle.std.proofs.Common.{ℕ, ◌≡◌, List, [], ◌∷◌, sym, subst}
use Rattle.spec_core.specs.Code.{Program, Relabelling, Variable}
use Rattle.spec_core.specs.Functionality.{accepted, bound_variables, with_variable, with_variables}
use Rattle.spec_core.specs.Ready.{IsReady}
use Rattle.spec_core.specs.Sorts.{no_variables}
use Rattle.spec_core.specs.Terms.{variable}
use Rattle.rule_model.specs.declared.action.Action.{Action}
use Rattle.rule_model.specs.declared.rules.Slot.TheVariants.{Blank, Mark, Of}
use Rattle.rule_model.specs.Actions.{doing, pairs_of}
use Rattle.rule_model.specs.Behaviours.{Behaviour, stop, exit, inner, action, choice, guarded, bound, value_choice, gate_choice, parallel}
use Rattle.rule_model.specs.Behaviours.{hide, enable, disable, call, relabel}
use Rattle.rule_model.specs.Code.{IsDefinition, IsStart}
use Rattle.rule_model.specs.Derivations.{Derivation, pre, int, exiting, chl, chr, val, gate, guard, letting, parl, parr, both, hiding, pass}
use Rattle.rule_model.specs.Derivations.{enstep, enend, disstep, disend, distake, calling, rel}
use Rattle.rule_model.specs.Derives.{DerivesWith}
use Rattle.rule_model.specs.Events as events
use Rattle.rule_model.specs.Events.{Event, acted, pended, replied, stalled}
use Rattle.rule_model.specs.Legal.{IsDerivation, IsPossible}
use Rattle.rule_model.specs.States.{State, start_state}
use Rattle.rule_model.specs.Substitution.{Assignment, put, tidied, with_term, without}
use Rattle.rule_model.specs.Actions.{after}
use Rattle.rule_sorts.specs.Fitting.{BehaviourFits, HasFewGates}
use Rattle.rule_sorts.specs.Laws.{ReachedBehavioursFit}
use Rattle.rule_sorts.proofs.Standing.{stands}
use Rattle.rule_sorts.proofs.Suiting.{Sorts, Suits, arguments_suit, bindings_suit, fields_suit, handed_suit, none_suit, under_binders}
use Rattle.rule_sorts.proofs.Suiting.{with_ground, with_terms}

module _ (program : Program) where
  tidied_fits : (vars : Sorts) (pairs : List Relabelling) (b : Behaviour) → BehaviourFits program vars b →
      BehaviourFits program vars (tidied pairs b)
  tidied_fits vars pairs stop h = h
  tidied_fits vars pairs (exit fields) h = h
  tidied_fits vars pairs (inner b) h = h
  tidied_fits vars pairs (action g fields p b) h = h
  tidied_fits vars pairs (choice b c) h = h
  tidied_fits vars pairs (guarded p b) h = h
  tidied_fits vars pairs (bound bindings b) h = h
  tidied_fits vars pairs (value_choice x b) h = h
  tidied_fits vars pairs (gate_choice g gates b) h = h
  tidied_fits vars pairs (parallel gates b c) h = h
  tidied_fits vars pairs (hide gates b) h = h
  tidied_fits vars pairs (enable b xs c) h = h
  tidied_fits vars pairs (disable b c) h = h
  tidied_fits vars pairs (call p gates terms) h = h
  tidied_fits vars pairs (relabel before b) h = tidied_fits vars (after pairs before) b h

  -- the behaviour fits with no variables in scope
  abbrev IsClosedFit : Behaviour → Type 0
  IsClosedFit b = BehaviourFits program no_variables b

  same : (b c : Behaviour) → c ≡ b → IsClosedFit b → IsClosedFit c
  same b c e h = subst IsClosedFit (sym e) h

  -- with terms for all its variables it does
  closed : (vars : Sorts) (s : Assignment) → Suits program.theory vars s no_variables → (b : Behaviour) → BehaviourFits program vars b →
      IsClosedFit (put s b)
  closed vars s k b h = with_terms program vars s no_variables k b h

  module _ (ready : IsReady program) (few : HasFewGates program) where
    -- the body of a process fits over its variables
    pub body_fits : (p : ℕ) (formal : List ℕ) (xs : List Variable) (body : Behaviour) → IsDefinition program p formal xs body →
        BehaviourFits program (with_variables xs no_variables) body
    body_fits p formal xs body is =
        let fits = (ready.well_formed.processes p formal xs is.part is.defines).1 in
        stands program ready.well_formed.functionalities few body (with_variables xs no_variables) is.part is.stands
        (record { gates = _; f = fits.0; has = fits.1 })

    act : (d : Derivation) (vars : Sorts) (b : Behaviour) (s : Assignment) (a : Action) (c : Behaviour) →
        Suits program.theory vars s no_variables → BehaviourFits program vars b → DerivesWith program s b d a c → IsClosedFit c
    act (pre slots) vars (action g fields p rest) s a c k i h =
        same (put h.1 rest) c h.5
        (closed (with_variables (accepted fields) vars) h.1 (fields_suit program.theory vars s s h.1 fields slots h.0 k h.3) rest i.2)
    act int vars (inner rest) s a c k i h = same (put s rest) c h.1 (closed vars s k rest i)
    act (exiting slots) vars (exit fields) s a c k i h = same stop c h.3 tt
    act (chl d) vars (choice left right) s a c k i h = act d vars left s a c k i.0 h
    act (chr d) vars (choice left right) s a c k i h = act d vars right s a c k i.1 h
    act (val (Of u) d) vars (value_choice x body) s a c k i h =
        act d (with_variable x vars) body (with_term x h.0 s) a c
        (with_ground program.theory vars s no_variables k x h.0 h.1.of_sort) i h.2
    act (val (Of u) d) vars _ s a c k i h = absurd h
    act (val Mark d) vars b s a c k i h = absurd h
    act (val Blank d) vars b s a c k i h = absurd h
    act (gate j d) vars (gate_choice g gates body) s a c k i h =
        act d vars (relabel (record { from = g; to = h.1 } ∷ []) body) s a c k i.1 h.4
    act (guard d) vars (guarded p body) s a c k i h = act d vars body s a c k i.1 h.1
    act (letting d) vars (bound bindings body) s a c k i h =
        act d (with_variables (bound_variables bindings) vars) body h.0 a c
        (bindings_suit program.theory ready.executable.fits vars s k vars s h.0 bindings i.0 k h.1) i.1 h.2
    act (parl d) vars (parallel gates left right) s a c k i h =
        same (parallel gates h.0 (put s right)) c h.3 (act d vars left s a h.0 k i.0 h.1, closed vars s k right i.1)
    act (parr d) vars (parallel gates left right) s a c k i h =
        same (parallel gates (put s left) h.0) c h.3 (closed vars s k left i.0, act d vars right s a h.0 k i.1 h.1)
    act (both d e) vars (parallel gates left right) s a c k i h =
        same (parallel gates h.0 h.1) c h.5 (act d vars left s a h.0 k i.0 h.2, act e vars right s a h.1 k i.1 h.3)
    act (hiding d) vars (hide gates body) s a c k i h =
        same (hide gates h.2) c h.6 (act d vars body s (doing h.0 h.1) h.2 k i h.3)
    act (pass d) vars (hide gates body) s a c k i h = same (hide gates h.0) c h.3 (act d vars body s a h.0 k i h.1)
    act (enstep d) vars (enable left xs right) s a c k i h =
        same (enable h.0 xs (put (without xs s) right)) c h.3 (
          act d vars left s a h.0 k i.0 h.1,
          with_terms program (with_variables xs vars) (without xs s) (with_variables xs no_variables)
              (under_binders program.theory vars s no_variables k xs) right i.1,
        )
    act (enend d) vars (enable left xs right) s a c k i h =
        same (put h.2 right) c h.6
        (closed (with_variables xs vars) h.2 (handed_suit program.theory vars s h.2 xs h.0 k h.5) right i.1)
    act (disstep d) vars (disable left right) s a c k i h =
        same (disable h.0 (put s right)) c h.3 (act d vars left s a h.0 k i.0 h.1, closed vars s k right i.1)
    act (disend d) vars (disable left right) s a c k i h = act d vars left s a c k i.0 h.0
    act (distake d) vars (disable left right) s a c k i h = act d vars right s a c k i.1 h
    act (calling d) vars (call p actual terms) s a c k i h =
        act d (with_variables h.1 no_variables) (relabel (pairs_of h.0 actual) h.2) h.3 a c
        (arguments_suit program.theory ready.executable.fits vars s k no_variables variable h.3 h.1 terms
        (i h.0 h.1 h.4.part h.4.defines) (none_suit program.theory variable) h.5)
        (body_fits p h.0 h.1 h.2 h.4) h.6
    act (rel d) vars (relabel pairs body) s a c k i h =
        same (tidied pairs h.1) c h.4 (tidied_fits no_variables pairs h.1 (act d vars body s h.0 h.1 k i h.2))
    act _ vars _ s a c k i h = absurd h

    start_fits : (b : Behaviour) → IsStart program b → IsClosedFit b
    start_fits b is =
        stands program ready.well_formed.functionalities few b no_variables program.start is
        (record { gates = _; f = ready.well_formed.whole; has = ready.well_formed.start })

    stays : (s : State) (event : Event) (t : State) → IsPossible program s event t → IsClosedFit s.behaviour → IsClosedFit t.behaviour
    stays s (pended client number offer ask) t h i = subst (λ (z : State). IsClosedFit z.behaviour) (sym h.4) i
    stays s (acted a d by) t h i =
        subst (λ (z : State). IsClosedFit z.behaviour) (sym h.3)
        (act d no_variables s.behaviour variable a h.0 (none_suit program.theory variable) i h.1)
    stays s (replied client number answer) t h i = subst (λ (z : State). IsClosedFit z.behaviour) (sym h.2) i
    stays s (stalled names) t h i = subst (λ (z : State). IsClosedFit z.behaviour) (sym h.2) i
    stays s (events.left client) t h i = subst (λ (z : State). IsClosedFit z.behaviour) (sym h.2) i

    reached : (log : List Event) (s t : State) → IsDerivation program log s t → IsClosedFit s.behaviour → IsClosedFit t.behaviour
    reached [] s t h i = subst (λ (z : State). IsClosedFit z.behaviour) (sym h) i
    reached (event ∷ log) s t h i = reached log h.0 t h.2 (stays s event h.0 h.1 i)

pub reached_behaviours_fit : ReachedBehavioursFit
reached_behaviours_fit program ready few start is clients log s h =
    reached program ready few log (start_state start clients) s h (start_fits program ready few start is)
