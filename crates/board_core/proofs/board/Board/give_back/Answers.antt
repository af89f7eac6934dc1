use Rattle.std.proofs.Common.{◌≡◌, ◌∙◌, ap, map, not, rules, subst, sym}
use Rattle.std.proofs.lemmas.Fn.{filter_same}
use Rattle.candidates.specs.Jobs.{same_job}
use Rattle.candidates.specs.Models.{job_of}
use Rattle.board_core.specs.Boards.{AreOfLiving}
use Rattle.board_core.specs.Views.{BoardView, pieces, tree}
use Rattle.board_core.specs.contracts.board.Board.{the_view}
use Rattle.board_core.specs.Working.{left_out}
use Rattle.board_core.proofs.Knowing.{kept_over}
use Rattle.board_core.proofs.Living.{left_living}
use Rattle.board_core.proofs.board.Board.give_back.Goals as goal

pub invariant_of-self : goal.invariant_of-self
invariant_of-self c =
    let v = the_view c.self.inside in
    let task = job_of c.args.task.now in
    let left : map job_of c.retain.new.self.items ≡ left_out task (map job_of v.out) =
    ap (map job_of) (filter_same _ (λ job. not (same_job (job_of job) task)) _ (λ x b f' k. search rules) _ _ c.retain.ensures.filtered)
    ∙ kept_over (λ other. not (same_job other task)) v.out in (
      (
        (
          c.self.invariant.0.0.0,
          subst (AreOfLiving (tree v) (pieces v)) (sym left)
              (left_living (tree v) (pieces v) (map job_of v.out) c.self.invariant.0.0.1 (λ other. not (same_job other task))),
        ),
        c.self.invariant.0.1,
      ),
      c.self.invariant.1,
      c.self.invariant.2,
    )

pub returns-clause-out : goal.returns-clause-out
returns-clause-out c =
    let task = job_of c.args.task.now in
    subst (λ (z : BoardView). map job_of c.retain.new.self.items ≡ left_out task (map job_of z.out)) c.self.view_is
    (ap (map job_of) (filter_same _ (λ job. not (same_job (job_of job) task)) _ (λ x b f' k. search rules) _ _ c.retain.ensures.filtered)
    ∙ kept_over (λ other. not (same_job other task)) c.self.inside.out.items)
