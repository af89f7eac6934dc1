use Rattle.type_images.proofs.Terms.{decided}
use Rattle.spec_core.specs.Terms.{term_of}
use Rattle.type_images.proofs.same.is_same_term.Goals as goal

pub returns : goal.returns
returns c = decided c.same.result (term_of c.args.left.now) (term_of c.args.right.now) c.same.ensures.decides
