use Rattle.std.proofs.Common.{arith, ◌≡◌, length}
use Rattle.sort_overloads.specs.Tables.{list_of}
use Rattle.sort_overloads.proofs.Loops.{enough, one-added}
use Rattle.sort_overloads.proofs.combine.add_one.Goals as goal

pub returns-then-len-eq2-clause-added : goal.returns-then-len-eq2-clause-added
returns-then-len-eq2-clause-added c tables =
    let e : length c.args.longer.now.items ≡ 2 = (let h = c.len.ensures in let k = c.if-len-eq2.true in omega (arith, h, k)) in
    enough (list_of tables) c.args.longer.now.items _ e

pub returns-clause-added : goal.returns-clause-added
returns-clause-added c tables =
    one-added tables c.args.longer.now.items c.push.new.self.items c.in_ok-longer_list.field-0 c.args.list.now c.args.pick.now
    (let f = c.requires.few in let h = c.len.ensures in let k = c.if-len-eq2.false in omega (arith, f, h, k)) c.in_ok-longer_list.ensures c.in_ok-push.ensures.items
