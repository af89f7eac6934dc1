use Rattle.std.proofs.Common.{◌≡◌, ◌∙◌, [], ◌∷◌, List, None, false, ap, map, option_map, refl, subst, sym}
use Rattle.std.proofs.lemmas.List.{map-append}
use Rattle.candidates.specs.declared.job.NodeJob as declared
use Rattle.candidates.specs.Jobs.{NodeJob, is_out}
use Rattle.candidates.specs.Models.{job_of}
use Rattle.decision_order.specs.Jobs.{first_not_out}
use Rattle.board_core.specs.Views.{needed_at}
use Rattle.board_core.proofs.Knowing.{met_is_needed, none_free, passed_by}
use Rattle.board_core.proofs.board.Board.is_among_needed.Goals as goal

pub returns-in-None : goal.returns-in-None
returns-in-None c =
    let needed = needed_at c.args.self.now in
    let none =
    subst (λ (l : List declared.NodeJob). first_not_out (is_out (map job_of l)) needed ≡ None) c.deref.ensures.value
    (sym c.in_ok-next_besides.ensures.job ∙ ap (option_map job_of) c.in-None.is) in (
      λ h. let no : ⊥ = cc in absurd no,
      λ among. absurd (none_free (is_out (map job_of c.loop.passed.items)) needed (job_of c.args.task.now) none c.loop.invariant among),
    )

pub returns-then-is_same : goal.returns-then-is_same
returns-then-is_same c = (
  λ h. met_is_needed (is_out (map job_of c.deref.result.now)) (needed_at c.args.self.now) (job_of c.in-Some.job) (job_of c.args.task.now)
      (sym c.in_ok-next_besides.ensures.job ∙ ap (option_map job_of) c.in-Some.is) (sym c.is_same.ensures ∙ c.if-is_same.true),
  λ among. refl,
)

pub loop-preserved : goal.loop-preserved
loop-preserved c =
    subst (λ (l : List NodeJob). is_out l (job_of c.args.task.now) ≡ false)
    (sym (ap (map job_of) c.in_ok-push-in-Some.ensures.items ∙ map-append job_of c.loop.passed.items (c.in-Some.job ∷ [])))
    (passed_by (map job_of c.loop.passed.items) (job_of c.in-Some.job) (job_of c.args.task.now) c.loop.invariant
    (sym c.is_same.ensures ∙ c.if-is_same.false))
