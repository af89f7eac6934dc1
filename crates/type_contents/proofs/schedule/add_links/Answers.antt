use Rattle.type_contents.specs.Uses.{number_of}
use Rattle.type_contents.proofs.Lists.{appended_next}
use Rattle.type_contents.proofs.schedule.add_links.Goals as goal

pub loop-name-preserved : goal.loop-name-preserved
loop-name-preserved c = λ types h.
    appended_next (number_of types) c.args.all.now.items c.loop-name.all.items c.add_link.new.all.items c.args.names.now c.loop-name.name-index c.name-item.result c.loop-name-test.true c.name-item.is (c.loop-name.invariant types h) (c.in_ok-add_link.ensures types h)
