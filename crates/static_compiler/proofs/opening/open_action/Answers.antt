use Rattle.std.proofs.Common.{refl, ap, subst, map, ◌∙◌}
use Rattle.std.specs.Prelude.{option_map}
use Rattle.spec_core.specs.Code.{guard_of}
use Rattle.static_readings.specs.Views.{fields_of}
use Rattle.static_compiler.specs.Frames.{action_if}
use Rattle.static_compiler.proofs.Begun.{action_opens}
use Rattle.static_compiler.proofs.opening.open_action.Goals as goal

pub returns : goal.returns
returns c =
    let fields = option_map (map fields_of) (option_map (λ v. v.items) c.in_ok-read.read) in
    let guard = option_map guard_of c.in_ok-guard.guard in
    action_opens c.args.site.now c.args.gate.now c.args.offers.now (option_map (λ p. p.now) c.args.condition) _ _
    c.add_unknown_gate.new.refusals.items c.add_offered_twice.new.refusals.items c.fields.new.refusals.items c.put_offers.new.site _ fields guard
    c.of-mark.ensures (c.in_ok-frame.ensures ∙ ap (λ g. action_if g fields guard) c.gate-number.ensures) refl
    c.in_ok-add_unknown_gate.ensures c.in_ok-add_offered_twice.ensures c.in_ok-read.ensures c.in_ok-put_offers.ensures c.in_ok-guard.ensures
