use Rattle.client_laws.proofs.Ends.{ends_say_what_is_so}
use Rattle.client_laws.proofs.laws.ends_say_what_is_so.Goals as goal

pub returns : goal.returns
returns c = ends_say_what_is_so
