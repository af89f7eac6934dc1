use Rattle.std.proofs.Common.{◌∙◌, ap}
use Rattle.type_contents.specs.Items.{small}
use Rattle.type_contents.specs.TypeIndexes.{number_at}
use Rattle.type_contents.proofs.type_index.TypeIndex.number.Goals as goal

pub returns : goal.returns
returns c = λ types h. c.number_under.ensures ∙ ap (number_at c.args.self.now) (c.as_str.ensures.value ∙ c.in_ok-text.ensures) ∙ h (small c.args.name.now)
