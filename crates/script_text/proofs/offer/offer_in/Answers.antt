use Rattle.std.proofs.Common.{◌∙◌, ap, sym}
use Rattle.spec_core.specs.Code.{program_of}
use Rattle.sort_overloads.specs.Views.{context_of}
use Rattle.script_text.proofs.TheOffer.{spelled_answer, faulty_answer}
use Rattle.script_text.proofs.offer.offer_in.Goals as goal

pub returns-clause-spelled : goal.returns-clause-spelled
returns-clause-spelled c =
    spelled_answer (program_of c.args.checked.now) c.args.text.now (context_of c.in_ok-vocabulary.vocabulary.scope) c.deref.result.now
    c.in_ok-offer.offer c.deref-2.result.now c.in_ok-offer.ensures.read c.in_ok-vocabulary.ensures.context c.deref.ensures.value
    c.deref-2.ensures.value c.offer_meaning.result c.offer_meaning.ensures.means c.offer_meaning.ensures.ask

pub returns-clause-none : goal.returns-clause-none
returns-clause-none c =
    faulty_answer (program_of c.args.checked.now) c.args.text.now (context_of c.in_ok-vocabulary.vocabulary.scope) c.deref.result.now
    c.in_ok-offer.offer c.deref-2.result.now c.in_ok-offer.ensures.read c.in_ok-vocabulary.ensures.context c.deref.ensures.value
    c.deref-2.ensures.value c.offer_meaning.result c.offer_meaning.ensures.fault
