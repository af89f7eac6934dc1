use Rattle.std.proofs.Common.{◌<◌, IsTrue, map, rules, sym, subst}
use Rattle.candidates.specs.Models.{job_of}
use Rattle.node_trees.specs.Shapes.{Lives}
use Rattle.candidate_verdicts.specs.Laws.{IsPieceOf}
use Rattle.candidate_verdicts.specs.Stored.{stored}
use Rattle.board_core.specs.Views.{BoardView, program, tree, pieces, windows}
use Rattle.board_core.specs.contracts.board.Board.{the_view}
use Rattle.board_core.proofs.Keeping.{puts}
use Rattle.board_core.proofs.Living.{put_living}
use Rattle.board_core.proofs.board.Board.judged.Goals as goal

pub invariant_of-self-2 : goal.invariant_of-self-2
invariant_of-self-2 c =
    let v = the_view c.self.inside in
    let lives : IsTrue c.lives.result = search rules in (
      (
        (
          puts (program v) v.settings.values v.windows (tree v) v.session.tree.next c.args.piece (pieces v) (stored c.put.new.self)
              (subst (λ (z : BoardView). IsPieceOf (program z) (windows z) c.args.piece (tree z)) (sym c.self.view_is) c.requires.piece)
              (subst (λ (z : BoardView). c.args.piece.generation.0 < z.session.tree.next) (sym c.self.view_is) (c.lives.ensures.begun lives))
              c.in_ok-put.ensures.put c.self.invariant.0.0.0,
          put_living (tree v) (pieces v) (map job_of v.out) c.self.invariant.0.0.1 c.args.piece (stored c.put.new.self)
              (subst (λ (z : BoardView). Lives (tree z) c.args.piece.generation.0) (sym c.self.view_is) (c.lives.ensures.lives.0 lives))
              c.in_ok-put.ensures.put,
        ),
        c.self.invariant.0.1,
      ),
      c.self.invariant.1,
      c.self.invariant.2,
    )
