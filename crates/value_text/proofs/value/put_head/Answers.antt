use Rattle.std.proofs.Common.{rules, map, string_bytes}
use Rattle.spec_core.specs.Numbers.{op_number}
use Rattle.value_text.specs.Vocabularies.{theory_in}
use Rattle.value_text.proofs.Values.{head_put}
use Rattle.value_text.proofs.value.put_head.Goals as goal

pub returns : goal.returns
returns c =
    head_put (theory_in c.args.vocabulary.now) (record { op = c.args.first; begun = 0 }) c.args.frames.now.items c.push.new.self.items
    (map op_number c.args.rest.now) (string_bytes c.args.out.now) (string_bytes c.put_opening.new.out) (search rules) (search rules)
    (search rules)
