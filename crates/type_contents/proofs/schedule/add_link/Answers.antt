use Rattle.std.proofs.Common.{◌++◌, ◌∷◌, [], ap, ◌∙◌}
use Rattle.type_contents.proofs.schedule.add_link.Goals as goal

pub returns : goal.returns
returns c = λ types h. c.in_ok-push.ensures.items ∙ ap (λ z. c.args.all.now.items ++ z ∷ []) (c.in_ok-number.ensures types h)
