use Rattle.std.proofs.Common.{◌∙◌}
use Rattle.spec_generator.specs.Scripts.{script_text}
use Rattle.spec_generator.specs.Specifications.{specification_text}
use Rattle.command_selfrun.proofs.Given.{of_equal_texts}
use Rattle.command_selfrun.proofs.call.run_generated.Goals as goal

pub returns : goal.returns
returns g c =
    of_equal_texts c.as_bytes.result.now (specification_text c.args.size) c.as_bytes-2.result.now (script_text c.args.seed c.args.size)
    c.run_texts.result (c.as_bytes.ensures.value ∙ c.in_ok-specification.ensures.specification)
    (c.as_bytes-2.ensures.value ∙ c.in_ok-specification.ensures.script) c.run_texts.ensures
