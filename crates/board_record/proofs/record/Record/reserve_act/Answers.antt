use Rattle.std.proofs.Common.{rules, ◌∙◌, ap, subst, sym}
use Rattle.spec_core.specs.Code.{program_of}
use Rattle.board_tree.specs.Views.{shape, IsNextAction}
use Rattle.rule_model.specs.States.{after_action}
use Rattle.board_record.specs.Records.{state_with}
use Rattle.board_record.proofs.record.Record.reserve_act.Goals as goal

pub returns-clause-reserved : goal.returns-clause-reserved
returns-clause-reserved c =
    let v = c.self.inside in
    let tree = c.reserve_step.new.self in
    let made = sym c.in_ok-ready.ensures.action in
    record {
      tree = c.in_ok-reserve_step.ensures.reserved;
      act = record {
        next = subst (IsNextAction tree.ready) made c.action_next-action.ensures.action;
        state = λ rest.
            c.in_ok-ready.ensures.state rest
            ∙ ap (λ a. after_action (state_with (program_of v.checked) (shape tree) v.session) a c.args.by rest) made;
      };
      room = search rules;
    }
