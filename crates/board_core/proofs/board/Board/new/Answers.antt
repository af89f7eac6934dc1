use Rattle.std.proofs.Common.{rules, subst, sym}
use Rattle.spec_core.specs.Theories.{theory_of}
use Rattle.sort_windows.specs.Found.{AreBySorts}
use Rattle.match_code.specs.Rights.{AreForms}
use Rattle.board_core.proofs.Giving.{none_offered}
use Rattle.board_core.proofs.board.Board.new.Goals as goal

pub invariant_of-result : goal.invariant_of-result
invariant_of-result c = (
  (
    (
      record {
        rows_are =
            subst (λ k. AreBySorts (theory_of k.algebra) c.args.settings.values c.in_ok-windows.windows.items) (sym c.in_ok-record.ensures.checked)
            c.in_ok-windows.ensures.windows;
        all_sorts = search rules;
        right = search rules;
        complete = search rules;
        expansions = search rules;
        shown = search rules;
        none_from = search rules;
      },
      search rules,
    ),
    search rules,
  ),
  subst (λ k. AreForms (theory_of k.algebra) c.in_ok-forms.forms) (sym c.in_ok-record.ensures.checked) c.in_ok-forms.ensures.forms,
  none_offered c.in_ok-record.record c.in_ok-record.ensures.log,
)
