use Rattle.std.proofs.Common.{◌+◌, ◌-◌, rules, arith, string_bytes}
use Rattle.spec_generator.specs.Links.{link}
use Rattle.spec_generator.proofs.Ranges.{text_more}
use Rattle.spec_generator.proofs.specification.put_links.Goals as goal

pub loop-number-preserved : goal.loop-number-preserved
loop-number-preserved c =
    text_more (link c.args.size) (string_bytes c.args.out.now) (string_bytes c.loop-number.out) (string_bytes c.put_link.new.out) 1
    (c.loop-number.number - 1) c.loop-number.number (c.loop-number.number + 1 - 1) (omega arith) (omega arith) c.loop-number.invariant
    (search rules)
