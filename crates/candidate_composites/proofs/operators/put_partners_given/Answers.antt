use Rattle.std.proofs.Common.{◌++◌, ◌∙◌, map, sym, ap}
use Rattle.std.proofs.lemmas.Result.{IfOk-weaker}
use Rattle.spec_core.specs.Code.{synchronised_of}
use Rattle.spec_core.specs.Theories.{theory_of}
use Rattle.candidate_composites.specs.Known.{found_of, own_or_made, sought_in}
use Rattle.candidate_composites.specs.Kept.{kept_partners}
use Rattle.candidate_composites.proofs.operators.put_partners_given.Goals as goal

pub returns-in-Beneath : goal.returns-in-Beneath
returns-in-Beneath c =
    let partners =
    kept_partners (theory_of c.args.algebra.now) (synchronised_of c.args.gates.now) (sought_in c.args.sought.now)
    (map found_of c.args.right.now) in
    IfOk-weaker c.put_partners_beneath.result _ _
    (λ _ e. e ∙ ap (λ p. map found_of c.args.all.now.items ++ partners p) (sym (ap own_or_made c.in-Beneath.is)))
    c.put_partners_beneath.ensures
