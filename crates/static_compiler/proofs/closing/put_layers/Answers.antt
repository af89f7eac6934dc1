use Rattle.std.proofs.Common.{map, ◌∙◌}
use Rattle.spec_core.specs.Code.{node_of}
use Rattle.static_compiler.specs.Views.{maker_of}
use Rattle.static_compiler.proofs.Closed.{one_layer}
use Rattle.static_compiler.proofs.closing.put_layers.Goals as goal

pub loop-layer-preserved : goal.loop-layer-preserved
loop-layer-preserved c = record {
  code = λ base r h. one_layer maker_of base c.loop-layer.all.items c.pop.new.self.items c.in-Some.layer (map maker_of c.args.all.items) r
      (map node_of c.loop-layer.out.code.items) (map node_of c.put_layer.new.out.code.items) c.in-Some.ensures.items (c.loop-layer.invariant.code base r h)
      c.in_ok-put_layer.ensures.code;
  refusals = c.in_ok-put_layer.ensures.refusals ∙ c.loop-layer.invariant.refusals;
}
