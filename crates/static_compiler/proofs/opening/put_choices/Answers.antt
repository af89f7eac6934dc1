use Rattle.std.proofs.Common.{map}
use Rattle.std.specs.Prelude.{option_map}
use Rattle.static_compiler.specs.Views.{maker_of}
use Rattle.static_compiler.proofs.Choices.{one_opened, gate_put, layers_more}
use Rattle.static_compiler.proofs.opening.put_choices.Goals as goal

pub loop-choice-preserved : goal.loop-choice-preserved
loop-choice-preserved c = record {
  layers = one_opened c.args.site.now c.args.choices.now c.loop-choice.site c.put_choice.new.site c.loop-choice.choice-index c.choice-item.result
      (option_map (map maker_of) (option_map (λ v. v.items) c.loop-choice.all)) (option_map (map maker_of) (option_map (λ v. v.items) c.in_ok-all.all)) (option_map maker_of c.in_ok-layer.layer)
      c.args.refusals.now.items c.loop-choice.refusals.items c.put_choice.new.refusals.items c.loop-choice-test.true c.choice-item.is c.loop-choice.invariant.layers
      c.in_ok-layer.ensures.layer c.in_ok-layer.ensures.site c.in_ok-layer.ensures.refusals
      (layers_more maker_of (option_map (λ v. v.items) c.loop-choice.all) (option_map (λ v. v.items) c.in_ok-all.all) c.in_ok-layer.layer c.in_ok-all.ensures);
  site = gate_put c.args.site.now c.loop-choice.site c.put_choice.new.site c.args.choices.now c.loop-choice.choice-index c.choice-item.result
      c.loop-choice-test.true c.choice-item.is c.loop-choice.invariant.site c.in_ok-layer.ensures.site;
}
