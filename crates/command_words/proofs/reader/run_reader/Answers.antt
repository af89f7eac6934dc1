use Rattle.std.proofs.Common.{◌∙◌, ap₂}
use Rattle.std.proofs.lemmas.Result.{IfOk-weaker}
use Rattle.clap.specs.Words.{with_rule}
use Rattle.command_words.proofs.reader.run_reader.Goals as goal

pub returns : goal.returns
returns c =
    let spec = c.in_ok-arg.ensures.shape c.named.ensures.local ∙ ap₂ with_rule c.bare.ensures c.named.ensures.rule in
    let script = c.in_ok-arg-2.ensures.shape c.named-2.ensures.local ∙ ap₂ with_rule spec c.named-2.ensures.rule in
    let workers = c.in_ok-arg-3.ensures.shape c.numbered.ensures.local ∙ ap₂ with_rule script c.numbered.ensures.rule in
    let budget = c.in_ok-arg-4.ensures.shape c.numbered-2.ensures.local ∙ ap₂ with_rule workers c.numbered-2.ensures.rule in
    let values = c.in_ok-arg-5.ensures.shape c.numbered-3.ensures.local ∙ ap₂ with_rule budget c.numbered-3.ensures.rule in
    let steps = c.in_ok-arg-6.ensures.shape c.numbered-4.ensures.local ∙ ap₂ with_rule values c.numbered-4.ensures.rule in
    let seed = c.in_ok-arg-7.ensures.shape c.numbered-5.ensures.local ∙ ap₂ with_rule steps c.numbered-5.ensures.rule in
    let draw = c.in_ok-arg-8.ensures.shape c.numbered-6.ensures.local ∙ ap₂ with_rule seed c.numbered-6.ensures.rule in
    IfOk-weaker c.arg-9.result _ _ (λ r h. h.shape c.numbered-7.ensures.local ∙ ap₂ with_rule draw c.numbered-7.ensures.rule) c.arg-9.ensures
