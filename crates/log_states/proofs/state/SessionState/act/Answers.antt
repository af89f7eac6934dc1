use Rattle.std.proofs.Common.{rules, ◌≡◌, ◌+◌, ◌∙◌, ap, sym}
use Rattle.log_states.specs.Views.{state_at}
use Rattle.log_states.proofs.Entries.{has_acted, taking}
use Rattle.log_states.proofs.state.SessionState.act.Goals as goal
use Rattle.log_states.proofs.state.SessionState.act.Goals.{in-Some-by+in_ok-answer-in-Some, in_default}

pub returns-after-by-clause-done : goal.returns-after-by-clause-done
returns-after-by-clause-done c rest =
    let s = c.args.self.now in
    let taken : state_at rest c.match-by.self ≡ taking rest s c.args.by =
    elim c.match-by.branch [
      | in-Some-by+in_ok-answer-in-Some w ↦
          ap (state_at rest) w.self-is ∙ w.in_ok-answer-in-Some.ensures.answered rest ∙ ap (taking rest s) (sym w.in-Some-by.is)
      | in_default w ↦ ap (state_at rest) w.self-is ∙ ap (taking rest s) (sym w.in_default.is)
    ] in
    let counted : c.in-Some.actions ≡ s.actions + 1 = search rules in
    has_acted rest s c.match-by.self c.args.action c.args.by c.in-Some.actions taken counted
