use Rattle.front_laws.proofs.Ready.{accepted_ready}
use Rattle.front_laws.proofs.accepted.accepted_is_ready.Goals as goal

pub returns : goal.returns
returns c =
    accepted_ready c.tokens_are_named.ensures c.text_types_are_named.ensures c.specifications_are_named.ensures c.presentations_are_named.ensures
    c.compiled_is_ready.ensures
