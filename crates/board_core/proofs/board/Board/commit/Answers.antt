use Rattle.std.proofs.Common.{◌≡◌, ◌∙◌, List, ap, map, not, refl, rules, subst, sym}
use Rattle.std.proofs.lemmas.Fn.{filter_same}
use Rattle.board_tree.specs.Views.{TreeView}
use Rattle.candidates.specs.Models.{job_of}
use Rattle.candidate_verdicts.specs.Stored.{is_gone, without}
use Rattle.board_laws.specs.Needed.{generation_of}
use Rattle.rule_model.specs.Derivations.{derivation_of}
use Rattle.spec_core.specs.Code.{program_of}
use Rattle.spec_core.specs.Theories.{theory_of}
use Rattle.node_trees.specs.declared.origin.Gen.{Gen}
use Rattle.match_code.specs.Rights.{AreForms}
use Rattle.board_core.specs.Boards.{AreOfLiving}
use Rattle.board_core.specs.Views.{BoardView, pieces, program, tree}
use Rattle.board_core.specs.contracts.board.Board.{the_view}
use Rattle.board_core.specs.Working.{jobs_left}
use Rattle.board_core.proofs.Giving.{one_more}
use Rattle.board_core.proofs.Keeping.{stays, steps}
use Rattle.board_core.proofs.Knowing.{kept_over}
use Rattle.board_core.proofs.Living.{stepped_living}
use Rattle.board_core.proofs.board.Board.commit.Goals as goal

pub invariant_of-self : goal.invariant_of-self
invariant_of-self c =
    let v = the_view c.self.inside in
    let u : BoardView = record v { session = c.act.new.self; pieces = c.drop_gone.new.self } in
    let gone = c.act.new.self.tree.gone in
    let same : c.gone-gone.result.now ≡ gone = c.gone-gone.ensures.gone ∙ ap (λ (t : TreeView). t.gone) c.tree.ensures in
    let left : map job_of c.retain.new.self.items ≡ jobs_left gone (map job_of v.out) =
    subst (λ (l : List Gen). map job_of c.retain.new.self.items ≡ jobs_left l (map job_of v.out)) same
    (ap (map job_of)
    (filter_same _ (λ job. not (is_gone c.gone-gone.result.now (generation_of (job_of job)))) _ (λ x b f' k. search rules) _ _
    c.retain.ensures.filtered)
    ∙ kept_over (λ job. not (is_gone c.gone-gone.result.now (generation_of job))) v.out) in (
      (
        (
          stays (program v) (program u) v.settings.values v.settings.values v.windows v.windows (tree u) (tree u) (pieces u) (pieces u)
              u.session.tree.next u.session.tree.next (ap program_of c.act.ensures.setting.0) refl refl refl refl refl
              (steps (program v) v.settings.values v.windows (tree v) (tree u) v.session.tree.next u.session.tree.next
              (derivation_of c.args.rules) gone c.act.new.self.tree.came (pieces v) (pieces u) c.act.ensures.step
              (λ g e. c.drop_gone.ensures.gone g e ∙ ap (λ (l : List Gen). without l (pieces v) g e) same)
              c.self.invariant.0.0.0),
          subst (AreOfLiving (tree u) (pieces u)) (sym left)
              (stepped_living (tree v) (tree u) gone c.act.ensures.step.ended (pieces v) (pieces u) (map job_of v.out)
              (λ g e. c.drop_gone.ensures.gone g e ∙ ap (λ (l : List Gen). without l (pieces v) g e) same) c.self.invariant.0.0.1),
        ),
        record { of_tree = tt },
      ),
      subst (λ k. AreForms (theory_of k.algebra) c.self.inside.forms) (sym c.act.ensures.setting.0) c.self.invariant.1,
      one_more v.session u.session c.act.ensures.setting c.self.invariant.2 _ c.act.ensures.acted.log tt,
    )

pub returns-clause-out : goal.returns-clause-out
returns-clause-out c =
    let gone = c.gone-gone.result.now in
    let same : gone ≡ c.act.new.self.tree.gone = c.gone-gone.ensures.gone ∙ ap (λ (t : TreeView). t.gone) c.tree.ensures in
    let left = map job_of c.retain.new.self.items in
    subst (λ (z : BoardView). left ≡ jobs_left c.act.new.self.tree.gone (map job_of z.out)) c.self.view_is
    (subst (λ (l : List Gen). left ≡ jobs_left l (map job_of c.self.inside.out.items)) same
    (ap (map job_of)
    (filter_same _ (λ job. not (is_gone gone (generation_of (job_of job)))) _ (λ x b f' k. search rules) _ _ c.retain.ensures.filtered)
    ∙ kept_over (λ job. not (is_gone gone (generation_of job))) c.self.inside.out.items))
