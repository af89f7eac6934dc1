use Rattle.std.proofs.Common.{◌∙◌}
use Rattle.type_contents.proofs.Keys.{same_key}
use Rattle.type_contents.proofs.item.Item.is_same.Goals as goal

pub returns : goal.returns
returns c = c.eq.ensures ∙ same_key c.args.self.now c.args.other.now
