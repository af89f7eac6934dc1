use Rattle.spec_core.specs.Order.{HasOperation}
use Rattle.spec_core.specs.Terms.{term_of}
use Rattle.path_order.proofs.Noting.{noted_for_one}
use Rattle.path_order.proofs.mentions.Mentions.note_premise.Goals as goal

pub returns : goal.returns
returns c = noted_for_one (λ g. HasOperation g (term_of c.args.premise.now.0)) (λ g. HasOperation g (term_of c.args.premise.now.1)) c.args.head.0
    c.args.self.now c.note_term.new.self c.note_term-2.new.self c.in_ok-note_term.ensures c.in_ok-note_term-2.ensures
