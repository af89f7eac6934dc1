use Rattle.std.proofs.Common.{take, get_or, sym, subst}
use Rattle.std.proofs.lemmas.List.{take_all, take_more}
use Rattle.path_order.specs.Mentioning.{IsGrown}
use Rattle.path_order.proofs.Depending.{grown_begin, grown_next}
use Rattle.path_order.proofs.dependence.add_row.Goals as goal

pub loop-head-init : goal.loop-head-init
loop-head-init c = grown_begin c.args.found.now.keys

pub loop-head-preserved : goal.loop-head-preserved
loop-head-preserved c =
    let row = c.args.row.now in
    let i = c.loop-head.head-index in
    let old = c.args.found.now.keys in
    subst (λ front. IsGrown front old c.insert.new.self.keys) (sym (take_more row i 0 c.loop-head-test.true))
    (grown_next (take i row) old c.loop-head.found.keys c.insert.new.self.keys (get_or row i 0) c.loop-head.invariant c.in_ok-insert.ensures.keys)

pub returns : goal.returns
returns c = subst (λ row. IsGrown row c.args.found.now.keys c.loop-head.found.keys) (take_all c.loop-head.head-index c.args.row.now c.loop-head-test.false) c.loop-head.invariant
