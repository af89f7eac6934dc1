use Rattle.std.proofs.Common.{◌∙◌, ap, map, refl, subst, sym}
use Rattle.spec_core.specs.Code.{program_of}
use Rattle.spec_core.specs.Theories.{theory_of}
use Rattle.node_trees.specs.Rests.{expansion_of}
use Rattle.node_trees.specs.Shapes.{Held, IsNodeOf, IsRight, posted}
use Rattle.candidates.specs.Models.{job_of}
use Rattle.match_code.specs.Rights.{AreForms}
use Rattle.board_core.specs.Boards.{AreOfLiving, IsWorkAt}
use Rattle.board_core.specs.Views.{BoardView, program, tree, pieces, windows}
use Rattle.board_core.specs.contracts.board.Board.{the_view}
use Rattle.board_core.specs.Working.{KeepsNodes}
use Rattle.board_core.proofs.Giving.{nothing_more}
use Rattle.board_core.proofs.Keeping.{posts, stays}
use Rattle.board_core.proofs.Living.{posted_living}
use Rattle.board_core.proofs.Origins.{post_keeps}
use Rattle.board_core.proofs.board.Board.post.Goals as goal

pub invariant_of-self : goal.invariant_of-self
invariant_of-self c =
    let v = the_view c.self.inside in
    let u : BoardView = record v { session = c.post.new.self } in
    let g = c.args.generation.0 in
    let work = expansion_of c.args.work in (
      (
        (
          stays (program v) (program u) v.settings.values v.settings.values v.windows v.windows (posted g work (tree v)) (tree u) (pieces v)
              (pieces v) v.session.tree.next u.session.tree.next (ap program_of c.post.ensures.setting.0) refl refl c.post.ensures.posted refl
              c.post.ensures.next
              (posts (program v) v.settings.values v.windows (tree v) g v.session.tree.next work (pieces v)
              (subst (λ (z : BoardView). (n : Held) → IsNodeOf (tree z) g n → IsWorkAt (program z) (windows z) n.source work) (sym c.self.view_is)
              c.requires.work)
              (λ a b. subst (IsRight (program v)) c.post.ensures.posted (c.post.ensures.right a b)) c.self.invariant.0.0.0),
          subst (λ t. AreOfLiving t (pieces v) (map job_of v.out)) (sym c.post.ensures.posted)
              (posted_living g work (tree v) (pieces v) (map job_of v.out) c.self.invariant.0.0.1),
        ),
        record { of_tree = tt },
      ),
      subst (λ k. AreForms (theory_of k.algebra) c.self.inside.forms) (sym c.post.ensures.setting.0) c.self.invariant.1,
      nothing_more v.session u.session c.post.ensures.setting c.self.invariant.2 c.post.ensures.same.0,
    )

pub returns-clause-nodes : goal.returns-clause-nodes
returns-clause-nodes c =
    let same = c.give_back.ensures.nodes in
    subst (λ (z : BoardView). KeepsNodes z c.give_back.new.self) c.self.view_is
    (post_keeps (the_view c.self.inside) c.give_back.new.self c.args.generation.0 (expansion_of c.args.work)
    (same.0 ∙ c.post.ensures.posted) (same.1 ∙ c.post.ensures.next))
