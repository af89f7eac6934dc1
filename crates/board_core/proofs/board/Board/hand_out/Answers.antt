use Rattle.std.proofs.Common.{◌≡◌, ◌∷◌, [], ◌++◌, map, subst}
use Rattle.candidates.specs.Jobs.{is_out}
use Rattle.candidates.specs.Models.{job_of}
use Rattle.board_core.specs.contracts.board.Board.{the_view}
use Rattle.board_core.specs.Views.{BoardView, needed_at}
use Rattle.board_core.proofs.Knowing.{free_is_needed, handed_out}
use Rattle.board_core.proofs.board.Board.hand_out.Goals as goal

pub asked-requires-clause-needed : goal.asked-requires-clause-needed
asked-requires-clause-needed c =
    let v = c.args.self.now in
    free_is_needed (is_out (map job_of v.out)) (needed_at v) (job_of c.args.task) c.requires.first

pub returns-clause-job : goal.returns-clause-job
returns-clause-job c =
    let v = c.args.self.now in
    let u = the_view (record c.self.inside { out = c.push.new.self }) in
    handed_out v u c.args.task c.in_ok-job.job c.in_ok-job.ensures.asked c.in_ok-job.ensures.job c.requires.first
    (subst (λ (z : BoardView). u.out ≡ z.out ++ c.args.task ∷ []) c.self.view_is c.in_ok-push.ensures.items)
