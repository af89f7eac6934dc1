use Rattle.std.proofs.Common.{map, ap, ◌∙◌, add-one}
use Rattle.spec_core.specs.Theories.{equation_of}
use Rattle.type_equation_copies.specs.Contents.{made_by}
use Rattle.type_equation_copies.specs.Views.{made_at}
use Rattle.type_equation_copies.proofs.Schedules.{round_next, round_all}
use Rattle.type_equation_copies.proofs.schedule.next_round.Goals as goal

pub loop-i-preserved : goal.loop-i-preserved
loop-i-preserved c =
    let types = c.args.prepared.now.types.now in
    let table = map made_at c.args.found.now in
    rw add-one (round_next types c.args.own.now table c.loop-i.next.items c.push.new.self.items c.in_ok-made_from.field-0 c.loop-i.i c.definition-item.result c.index-own-i.result c.requires.own c.loop-i-test.true c.definition-item.is c.index-own-i.is c.loop-i.invariant c.in_ok-push.ensures.items
    (c.in_ok-made_from.ensures ∙ ap (λ o. made_by types table (map equation_of o) c.definition-item.result) c.deref.ensures.value))

pub returns : goal.returns
returns c = c.loop-i.invariant ∙ round_all c.args.prepared.now.types.now c.args.own.now (map made_at c.args.found.now) c.loop-i.i c.requires.own c.loop-i-test.false
