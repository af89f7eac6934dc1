use Rattle.std.proofs.Common.{◌∙◌, ◌++◌, ap, sym, length, map}
use Rattle.spec_core.specs.Theories.{theory_of}
use Rattle.static_processes.specs.Headings.{declared, headings_from, opening_refusals, table_refusals}
use Rattle.static_processes.specs.Views.{entry_of}
use Rattle.static_check.specs.Compiled.{data_context}
use Rattle.static_check.proofs.judgement.judge_in.Goals as goal

pub judge_behaviour-requires : goal.judge_behaviour-requires
judge_behaviour-requires c =
    let table = map entry_of c.args.setting.now.table.now in
    let context = data_context (theory_of c.args.algebra.now) in
    record {
      setting =
          ap (λ k. record { context = k; gates = c.args.setting.now.gates; table = table }) c.in_ok-site.ensures
          ∙ c.requires.setting;
      headings = c.requires.headings ∙ ap (λ k. headings_from k 0 table) (sym c.in_ok-site.ensures);
      ends = c.in_ok-ends.ensures ∙ ap (λ k. declared k c.args.spec.now.functionality) c.requires.context;
      places = c.in_ok-out.ensures.code ∙ ap (λ a. length a.table) c.requires.setting;
      refusals =
          c.in_ok-out.ensures.refusals ∙ ap (λ k. opening_refusals k c.args.spec.now ++ table_refusals k table) c.requires.context
          ∙ ap (λ a. opening_refusals context c.args.spec.now ++ table_refusals context a.table) c.requires.setting;
    }
