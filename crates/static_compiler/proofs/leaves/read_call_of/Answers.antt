use Rattle.std.proofs.Common.{refl, map, sym, subst, ◌∙◌}
use Rattle.std.specs.Prelude.{option_map}
use Rattle.std.proofs.lemmas.Result.{IfOk-weaker}
use Rattle.spec_core.specs.Numbers.{gate_number}
use Rattle.spec_core.specs.Terms.{term_of}
use Rattle.sort_overloads.specs.Judged.{Adds}
use Rattle.static_readings.specs.Calls.{AreValuesRead}
use Rattle.static_readings.specs.Views.{functionality_of, heading_of, output_of, sort_if_known}
use Rattle.static_compiler.proofs.Whole.{miscounted_read, counted_read}
use Rattle.static_compiler.proofs.leaves.read_call_of.Goals as goal

pub returns-then-not-fits : goal.returns-then-not-fits
returns-then-not-fits c = miscounted_read c.args.site.now c.args.name.now c.args.gates.now c.args.from.now (heading_of c.args.heading.now) (output_of c.args.out.now)
    (output_of c.refuse.new.self) (sym c.fits.ensures.counts ∙ c.if-not-fits.true) c.in_ok-refuse.ensures.code c.in_ok-refuse.ensures.refusals

pub returns : goal.returns
returns c = IfOk-weaker c.put_call.result _ _
    (λ found p. counted_read c.args.site.now c.args.name.now c.args.gates.now c.args.from.now (heading_of c.args.heading.now) (output_of c.args.out.now) _
    (output_of c.put_call.new.out) c.add_unknown_gates.new.refusals.items (option_map (λ v. map gate_number v.items) c.in_ok-gates.gates)
    (option_map (map term_of) (option_map (λ v. v.items) c.in_ok-found.found)) (option_map functionality_of found) (sym c.fits.ensures.counts ∙ c.if-not-fits.false) refl c.in_ok-add_unknown_gates.ensures
    c.in_ok-gates.ensures
    (subst (λ sorts. Adds (AreValuesRead c.args.site.now (map sort_if_known sorts) c.args.from.now
    (option_map (map term_of) (option_map (λ v. v.items) c.in_ok-found.found))) c.add_unknown_gates.new.refusals.items c.values.new.refusals.items)
    c.deref.ensures.value c.in_ok-found.ensures) p)
    c.put_call.ensures
