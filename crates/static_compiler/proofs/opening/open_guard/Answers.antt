use Rattle.std.proofs.Common.{refl}
use Rattle.static_equations.specs.Equalities.{premise_if_read}
use Rattle.static_compiler.proofs.Begun.{guard_opens}
use Rattle.static_compiler.proofs.opening.open_guard.Goals as goal

pub returns : goal.returns
returns c = guard_opens c.args.site.now c.args.condition.now _ _ _ (premise_if_read c.in_ok-found.found) c.of-mark.ensures c.in_ok-frame.ensures refl c.in_ok-found.ensures
