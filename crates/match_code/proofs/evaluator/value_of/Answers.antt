use Rattle.spec_core.specs.Theories.{theory_of}
use Rattle.match_code.proofs.States.{none_kept}
use Rattle.match_code.proofs.evaluator.value_of.Goals as goal

pub evaluate-requires-clause-store : goal.evaluate-requires-clause-store
evaluate-requires-clause-store c =
    none_kept (theory_of c.args.algebra.now) c.closed-store.result c.closed-store.ensures.nodes c.closed-store.ensures.entries
