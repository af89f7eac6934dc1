use Rattle.session_laws.proofs.Others.{clients_alone_offer}
use Rattle.session_laws.proofs.answers.clients_alone_offer.Goals as goal

pub returns : goal.returns
returns c = clients_alone_offer
