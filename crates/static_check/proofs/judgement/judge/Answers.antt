use Rattle.std.proofs.Common.{◌∙◌, ap, sym, subst, length, map}
use Rattle.sort_overloads.specs.Views.{context_of}
use Rattle.spec_core.specs.Theories.{theory_of}
use Rattle.static_readings.specs.Views.{heading_of}
use Rattle.static_processes.specs.Headings.{headings_from}
use Rattle.static_processes.specs.NamedParts.{AreNamedPartsOf}
use Rattle.static_processes.specs.Views.{entry_of}
use Rattle.static_check.specs.Views.{data_of}
use Rattle.static_check.proofs.Judged.{its_setting}
use Rattle.static_check.proofs.judgement.judge.Goals as goal

pub invariant_of-setting : goal.invariant_of-setting
invariant_of-setting c = record {
  parted =
      subst (λ hs. AreNamedPartsOf c.in_ok-parts.parts (map heading_of hs) (map entry_of c.deref-4.result.now))
      (c.deref-3.ensures.value ∙ sym c.deref-5.ensures.value)
      (subst (λ t. AreNamedPartsOf c.in_ok-parts.parts (map heading_of c.deref-3.result.now) (map entry_of t))
      (c.deref-2.ensures.value ∙ sym c.deref-4.ensures.value) c.in_ok-parts.ensures);
}

pub judge_in-requires : goal.judge_in-requires
judge_in-requires c =
    let context = context_of c.in_ok-scope.scope in
    let table = map entry_of c.deref-4.result.now in
    record {
      context = c.in_ok-scope.ensures.context;
      setting =
          its_setting (theory_of c.args.algebra.now) c.args.spec.now context c.in_ok-gates.gates table c.in_ok-scope.ensures.context
          (c.in_ok-gates.ensures ∙ ap length c.gates_in.ensures) (ap (map entry_of) c.deref-4.ensures.value ∙ c.in_ok-table.ensures);
      headings =
          ap (map heading_of) c.deref-5.ensures.value ∙ c.in_ok-headings.ensures
          ∙ ap (λ t. headings_from context 0 (map entry_of t)) (c.deref.ensures.value ∙ sym c.deref-4.ensures.value)
          ∙ ap (λ k. headings_from k 0 table) (c.in_ok-scope.ensures.context ∙ sym (ap data_of c.in_ok-scope.ensures.context));
      few_operations = c.in_ok-scope.ensures.few_operations;
      few_sorts = c.in_ok-scope.ensures.few_sorts;
    }
