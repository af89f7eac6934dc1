use Rattle.std.specs.Prelude.{option_map}
use Rattle.spec_core.specs.Code.{node_of}
use Rattle.static_readings.specs.Views.{functionality_of, output_of}
use Rattle.static_compiler.specs.Views.{joining_of}
use Rattle.static_compiler.proofs.Joined.{some_joined}
use Rattle.static_compiler.proofs.Whole.{ok_with_both}
use Rattle.static_compiler.proofs.joining.join.Goals as goal

pub returns-in-Some : goal.returns-in-Some
returns-in-Some c = ok_with_both c.put_joined.result
    (λ ends e code refusals base x y s. some_joined base c.args.place (option_map joining_of c.args.joining) x y (output_of c.args.out.now) (output_of c.put_joined.new.out)
    c.args.first c.args.second (joining_of c.in-Some.joining) (option_map functionality_of c.in-Some.ends) (option_map functionality_of ends) (node_of c.behind.result)
    c.in-Some.ensures c.behind.ensures code refusals e s)
    c.put_joined.ensures.ends c.put_joined.ensures.code c.put_joined.ensures.refusals
