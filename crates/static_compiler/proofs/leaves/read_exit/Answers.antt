use Rattle.std.proofs.Common.{refl, map}
use Rattle.std.specs.Prelude.{option_map}
use Rattle.std.proofs.lemmas.Result.{IfOk-weaker}
use Rattle.static_readings.specs.Views.{functionality_of, exit_value_at, output_of}
use Rattle.static_compiler.proofs.Whole.{exit_read}
use Rattle.static_compiler.proofs.leaves.read_exit.Goals as goal

pub returns : goal.returns
returns c = IfOk-weaker c.put_exit_if.result _ _
    (λ found p. exit_read c.args.site.now c.args.from.now (output_of c.args.out.now) _ (output_of c.put_exit_if.new.out)
    (option_map (map exit_value_at) (option_map (λ v. v.items) c.in_ok-found.found)) (option_map functionality_of found) refl c.in_ok-found.ensures p)
    c.put_exit_if.ensures
