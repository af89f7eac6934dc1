use Rattle.lotos_front.proofs.Refusing.{types_read}
use Rattle.lotos_front.proofs.types.types_of.Goals as goal

pub returns-clause-types : goal.returns-clause-types
returns-clause-types c = types_read c.args.tokens.now c.in_ok-spec.spec _ _ c.in_ok-spec.ensures.read c.in_ok-own.ensures c.in_ok-all.ensures
