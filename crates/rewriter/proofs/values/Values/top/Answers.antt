use Rattle.std.proofs.Common.{rules, ◌≡◌, ◌-◌, length, take, reverse, sym, ap, ◌∙◌}
use Rattle.rewriter.proofs.Tops.{from_top}
use Rattle.rewriter.proofs.values.Values.top.Goals as goal

pub returns : goal.returns
returns c = record {
  seen =
      let v : c.args.self.now ≡ reverse c.deref.result.now = search rules in
      let n : c.saturating_sub.result ≡ length c.deref.result.now - c.args.count = search rules in
      from_top c.deref.result.now c.args.count c.saturating_sub.result n ∙ ap (λ ys. reverse (take c.args.count ys)) (sym v);
}
