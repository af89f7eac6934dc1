use Rattle.std.proofs.Common.{rules, ◌∙◌, ap, sym, subst}
use Rattle.std.proofs.lemmas.Bool.{true≢false}
use Rattle.spec_core.specs.Terms.{variable}
use Rattle.rule_model.specs.Behaviours.{behaviour_of}
use Rattle.rule_model.specs.Derivations.{derivation_of}
use Rattle.rule_model.specs.Derives.{Derives}
use Rattle.rule_model.specs.Legal.{IsAgreed}
use Rattle.rule_model.specs.States.{after_action}
use Rattle.rule_walk.specs.Bounds.{FaultBounds}
use Rattle.match_code.specs.Prepared.{program_in}
use Rattle.log_check.specs.Views.{state_of}
use Rattle.log_check.proofs.entry.act.Goals as goal

pub returns-then-not-agrees-clause-next : goal.returns-then-not-agrees-clause-next
returns-then-not-agrees-clause-next c next h =
    absurd (true≢false (sym ((c.agrees.ensures (behaviour_of c.args.state.now.behaviour)).1 h.2) ∙ c.if-not-agrees.true))

pub returns-then-not-agrees-clause-within : goal.returns-then-not-agrees-clause-within
returns-then-not-agrees-clause-within c x h fits =
    absurd (true≢false (sym ((c.agrees.ensures (behaviour_of c.args.state.now.behaviour)).1 h.0) ∙ c.if-not-agrees.true))

pub returns-then-same-clause-next : goal.returns-then-same-clause-next
returns-then-same-clause-next c =
    let program = program_in c.args.prepared.now in
    let s = c.args.state.now in
    let b = behaviour_of s.behaviour in
    let rest = behaviour_of c.in-Ok.rest in
    let is = c.same.ensures.decides.0 c.if-same.true in (
      rest,
      subst (λ a. Derives program b (derivation_of c.args.rules.now) a rest) is c.in-Ok.ensures.derives,
      (c.agrees.ensures b).0 c.if-not-agrees.false,
      c.in_ok-act-in-Ok.ensures.done rest ∙ ap (λ a. after_action (state_of s) a c.args.by rest) is,
    )

pub returns-in-Ok-clause-next : goal.returns-in-Ok-clause-next
returns-in-Ok-clause-next c next (x, derives, agreed, e) =
    let one = c.trees_determine_steps.ensures (program_in c.args.prepared.now) c.requires.ready.executable variable
    (behaviour_of c.args.state.now.behaviour) (derivation_of c.args.rules.now) c.in-Ok.done c.args.action.now (behaviour_of c.in-Ok.rest) x
    c.in-Ok.ensures.derives derives in
    absurd (true≢false (sym (c.same.ensures.decides.1 one.0) ∙ c.if-same.false))

pub returns-in-Err-Unfit-clause-within : goal.returns-in-Err-Unfit-clause-within
returns-in-Err-Unfit-clause-within c x h fits =
    subst (λ f. FaultBounds (program_in c.args.prepared.now).theory c.args.budget f x) c.in-Err-Unfit.field-0-is
    (c.in-Err-Unfit.ensures.within x h.1) fits

pub returns-in-Err-Spent-clause-cause : goal.returns-in-Err-Spent-clause-cause
returns-in-Err-Spent-clause-cause c =
    let agreed : IsAgreed (program_in c.args.prepared.now) (state_of c.args.state.now) c.args.action.now c.args.by =
    (c.agrees.ensures (behaviour_of c.args.state.now.behaviour)).0 c.if-not-agrees.false in
    search rules

pub returns-in-Err-TooLarge-clause-cause : goal.returns-in-Err-TooLarge-clause-cause
returns-in-Err-TooLarge-clause-cause c =
    let agreed : IsAgreed (program_in c.args.prepared.now) (state_of c.args.state.now) c.args.action.now c.args.by =
    (c.agrees.ensures (behaviour_of c.args.state.now.behaviour)).0 c.if-not-agrees.false in
    search rules
