use Rattle.spec_core.specs.Code.{program_of}
use Rattle.script_text.proofs.TheOffer.{only_offer, fitting_offer}
use Rattle.script_text.proofs.offer.read_offer.Goals as goal

pub returns-clause-only : goal.returns-clause-only
returns-clause-only c = only_offer (program_of c.args.checked.now) c.args.text.now _ c.offer_in.ensures.spelled

pub returns-clause-fits : goal.returns-clause-fits
returns-clause-fits c = fitting_offer (program_of c.args.checked.now) c.args.text.now _ c.offer_in.ensures.spelled
