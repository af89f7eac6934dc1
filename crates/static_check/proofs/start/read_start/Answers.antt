use Rattle.std.proofs.Common.{sym, None}
use Rattle.std.specs.Prelude.{option_map}
use Rattle.static_constructs.specs.Views.{construct_of}
use Rattle.static_constructs.specs.Written.{behaviour_written}
use Rattle.static_readings.specs.Views.{functionality_of, output_of}
use Rattle.static_compiler.proofs.Whole.{read_as}
use Rattle.static_check.specs.Bodies.{ending_refusals}
use Rattle.static_check.specs.Compiled.{start_site}
use Rattle.static_check.specs.Views.{setting_of}
use Rattle.static_check.proofs.OneByOne.{start_read}
use Rattle.static_check.proofs.start.read_start.Goals as goal

pub returns : goal.returns
returns c =
    let b = behaviour_written c.args.spec.now.behaviour in
    let read = output_of c.read.new.out in
    let found = option_map functionality_of c.in_ok-found.found in
    start_read (start_site (setting_of c.args.site.now.context c.args.setting.now) c.args.spec.now) c.enter.new.site b (output_of c.args.out.now) read
    (output_of c.add_ending.new.out) found (ending_refusals None c.args.spec.now.name.place (option_map functionality_of c.args.declared.now))
    (option_map (λ p. p.0) c.in_ok-start.start) c.in_ok-enter.ensures
    (read_as c.enter.new.site b (construct_of c.in_ok-construct.construct) (output_of c.args.out.now) read found (sym c.in_ok-construct.ensures)
    c.in_ok-found.ensures.read)
    c.in_ok-start.ensures c.in_ok-add_ending.ensures.code c.in_ok-add_ending.ensures.refusals
