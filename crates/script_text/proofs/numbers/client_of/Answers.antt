use Rattle.script_text.proofs.Digits.{many_digits}
use Rattle.script_text.proofs.numbers.client_of.Goals as goal

pub returns-in-len3-up-clause-client : goal.returns-in-len3-up-clause-client
returns-in-len3-up-clause-client c = many_digits c.args.digits.now c.in-len3-up.len_at_least c.requires
