use Rattle.spec_core.specs.Terms.{term_of}
use Rattle.spec_core.specs.Theories.{theory_of}
use Rattle.cover_groups.proofs.Fullness.{rest_not}
use Rattle.cover_groups.proofs.premises.rest_after.Goals as goal

pub returns-in-None-clause-none : goal.returns-in-None-clause-none
returns-in-None-clause-none c = λ rest b.
    rest_not (theory_of c.args.algebra.now) (term_of c.args.term.now) c.args.constant.0 c.args.list.now c.first-item.result rest
    c.in-len1-up.len_at_least c.first-item.is c.in-None.ensures.none b
