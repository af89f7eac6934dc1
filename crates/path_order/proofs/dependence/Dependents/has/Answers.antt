use Rattle.std.proofs.Common.{sym, ◌∙◌}
use Rattle.path_order.proofs.Depending.{any_is_one, one_is_any}
use Rattle.path_order.proofs.dependence.Dependents.has.Goals as goal

pub returns : goal.returns
returns c = record {
  decides = (
    λ h. any_is_one c.args.op.0 c.args.self.now.found.keys (sym c.contains.ensures ∙ h),
    λ i. c.contains.ensures ∙ one_is_any c.args.op.0 c.args.self.now.found.keys i,
  );
}
