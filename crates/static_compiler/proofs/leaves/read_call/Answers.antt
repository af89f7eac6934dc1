use Rattle.std.proofs.Common.{◌∙◌, sym, ap}
use Rattle.std.specs.Prelude.{option_map}
use Rattle.std.proofs.lemmas.Result.{IfOk-weaker}
use Rattle.static_readings.specs.Views.{functionality_of, heading_of, output_of}
use Rattle.static_compiler.proofs.Whole.{unknown_read, call_read}
use Rattle.static_compiler.proofs.leaves.read_call.Goals as goal

pub returns-in_ok-refuse-in-None : goal.returns-in_ok-refuse-in-None
returns-in_ok-refuse-in-None c = unknown_read c.args.site.now c.args.name.now c.args.gates.now c.args.from.now (output_of c.args.out.now) (output_of c.refuse.new.self)
    (ap (option_map (λ h. heading_of h.now)) (sym c.in-None.is) ∙ c.in_ok-process.ensures) c.in_ok-refuse-in-None.ensures.code c.in_ok-refuse-in-None.ensures.refusals

pub returns-in-Some : goal.returns-in-Some
returns-in-Some c = IfOk-weaker c.read_call_of.result _ _
    (λ found h. call_read c.args.site.now c.args.name.now c.args.gates.now c.args.from.now (heading_of c.in-Some.heading.now) (output_of c.args.out.now)
    (output_of c.read_call_of.new.out) (option_map functionality_of found)
    (ap (option_map (λ h. heading_of h.now)) (sym c.in-Some.is) ∙ c.in_ok-process.ensures) h)
    c.read_call_of.ensures
