use Rattle.static_compiler.proofs.Begun.{inner_opens}
use Rattle.static_compiler.proofs.opening.open_inner.Goals as goal

pub returns : goal.returns
returns c = inner_opens c.args.site.now _ _ c.of-mark.ensures c.in_ok-frame.ensures
