use Rattle.spec_core.specs.Terms.{term_of}
use Rattle.spec_core.specs.Theories.{theory_of}
use Rattle.spec_core.proofs.Lists.{untrue}
use Rattle.cover_groups.proofs.Fullness.{begins_not}
use Rattle.cover_groups.proofs.premises.begins.Goals as goal

pub returns-in-None : goal.returns-in-None
returns-in-None c = (
  λ h. absurd (untrue h),
  λ b. absurd (begins_not (theory_of c.args.algebra.now) (term_of c.args.term.now) c.args.list.now c.first-item.result
      c.in-len1-up.len_at_least c.first-item.is c.in-None.ensures.none b),
)
