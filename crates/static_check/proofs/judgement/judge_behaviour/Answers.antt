use Rattle.std.proofs.Common.{◌∙◌, ◌++◌, ap, sym, map}
use Rattle.std.specs.Prelude.{option_map}
use Rattle.std.proofs.lemmas.List.{length-map}
use Rattle.spec_core.specs.Code.{node_of, program_of}
use Rattle.spec_core.specs.Theories.{theory_of}
use Rattle.static_readings.specs.Views.{functionality_of, output_of}
use Rattle.static_call_cycles.specs.Unguarded.{unguarded_refusals}
use Rattle.static_processes.specs.Headings.{headings_from}
use Rattle.static_processes.specs.Views.{entry_of}
use Rattle.static_check.specs.Views.{setting_of}
use Rattle.static_check.proofs.Judged.{judged_in}
use Rattle.static_check.proofs.judgement.judge_behaviour.Goals as goal

pub read_start-requires : goal.read_start-requires
read_start-requires c = record {
  headings =
      c.requires.headings ∙ ap (λ k. headings_from k 0 (map entry_of c.args.setting.now.table.now)) (sym c.in_ok-bodies.ensures.site);
}

pub returns : goal.returns
returns c =
    let table = map entry_of c.args.setting.now.table.now in
    judged_in (theory_of c.args.algebra.now) c.args.spec.now (setting_of c.args.site.now.context c.args.setting.now)
    (setting_of c.read_bodies.new.site.context c.args.setting.now) (output_of c.args.out) (output_of c.read_bodies.new.out) (output_of c.read_start.new.out)
    (option_map (map node_of) (option_map (λ v. v.items) c.in_ok-bodies.bodies.nodes)) (option_map (λ p. p.0) c.in_ok-start.start) c.in_ok-processes.processes
    (option_map program_of c.in_ok-program.program) c.add_cycles.new.refusals.items (option_map functionality_of c.args.ends.now)
    (map (λ calls. calls.items) c.in_ok-bodies.bodies.calls.items) c.requires.setting
    (ap (λ k. record { context = k; gates = c.args.setting.now.gates; table = table }) c.in_ok-bodies.ensures.site ∙ c.requires.setting)
    c.requires.places c.requires.refusals c.in_ok-bodies.ensures.read c.requires.ends c.in_ok-start.ensures c.in_ok-bodies.ensures.calls
    (c.in_ok-add_cycles.ensures
    ∙ ap (λ calls. c.read_start.new.out.refusals.items ++ unguarded_refusals (map (λ e. e.process.name.text) table) (map (λ calls. calls.items) calls))
    c.deref.ensures.value)
    (c.in_ok-processes.ensures ∙ sym (length-map c.args.setting.now.table.now entry_of)) c.in_ok-program.ensures
