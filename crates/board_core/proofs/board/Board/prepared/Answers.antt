use Rattle.std.proofs.Common.{sym, subst}
use Rattle.spec_core.specs.Theories.{theory_of}
use Rattle.match_code.specs.Rights.{AreForms}
use Rattle.board_core.proofs.board.Board.prepared.Goals as goal

pub new-requires : goal.new-requires
new-requires c = record {
  forms = subst (λ k. AreForms (theory_of k.algebra) c.self.inside.forms) (sym c.checked-checked.ensures) c.self.invariant.1;
}
