use Rattle.std.proofs.Common.{◌∙◌, ap₂}
use Rattle.std.proofs.lemmas.Result.{IfOk-weaker}
use Rattle.clap.specs.Words.{with_rule}
use Rattle.command_words.proofs.reader.sim_reader.Goals as goal

pub returns : goal.returns
returns c =
    let spec = c.in_ok-arg.ensures.shape c.named.ensures.local ∙ ap₂ with_rule c.bare.ensures c.named.ensures.rule in
    let budget = c.in_ok-arg-2.ensures.shape c.numbered.ensures.local ∙ ap₂ with_rule spec c.numbered.ensures.rule in
    let values = c.in_ok-arg-3.ensures.shape c.numbered-2.ensures.local ∙ ap₂ with_rule budget c.numbered-2.ensures.rule in
    IfOk-weaker c.arg-4.result _ _ (λ r h. h.shape c.numbered-3.ensures.local ∙ ap₂ with_rule values c.numbered-3.ensures.rule) c.arg-4.ensures
