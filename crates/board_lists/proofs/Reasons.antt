-- Why a job that a search asks for has no answer is a reason to stop.
use Rattle.std.proofs.Common.{ℕ, ◌≡◌, sym, subst}
use Rattle.std.specs.Prelude.{IfSome}
use Rattle.spec_core.specs.Lists.{IsOneOf}
use Rattle.spec_core.specs.Ready.{IsReady}
use Rattle.spec_core.specs.Theories.{Theory}
use Rattle.rule_model.specs.declared.offer.Offer.{Offer}
use Rattle.rule_model.specs.Derivations.{Derivation}
use Rattle.rule_model.specs.States.{PendingOffer}
use Rattle.decision_trees.specs.Gaps.{OrGap, element, gap}
use Rattle.decision_trees.specs.Rules.{Query, Waiting, any, any_beyond}
use Rattle.candidate_laws.specs.Asked.{TreeQuery, offer_in}
use Rattle.candidate_laws.proofs.Answers.{exact_answers_exist}
use Rattle.candidate_verdicts.specs.Known.{NodePart, missing_parts}
use Rattle.candidate_verdicts.proofs.Missing.{missing_parts_are_missing}
use Rattle.candidates.specs.declared.job.NodeJob as declared
use Rattle.candidates.specs.Jobs.{NodeJob, to_expand, to_judge}
use Rattle.candidates.specs.Listed.{known_trees}
use Rattle.candidates.specs.Models.{job_of}
use Rattle.board_offers.specs.Waiting.{waiting_in}
use Rattle.board_laws.specs.JobValues.{GivesValues, JobChoosesValues}
use Rattle.board_laws.specs.Needed.{IsOfRules, generation_of}
use Rattle.board_laws.proofs.Living.{gap_waits}
use Rattle.board_laws.proofs.StoppingGiven.{part_gives}
use Rattle.board_core.specs.declared.job.Job.{Job}
use Rattle.board_core.specs.Boards.{IsBoard}
use Rattle.node_trees.specs.Origins.{Source, source_of}
use Rattle.node_trees.specs.Shapes.{Held, IsNodeOf, Lives, stands_for}
use Rattle.board_core.specs.Views.{BoardView, pieces, program, state, tree, windows}
use Rattle.board_core.proofs.Due as due
use Rattle.node_trees.specs.Generations.{AreApart}
use Rattle.board_lists.specs.Looking.{AsksForAll, FindsOut, GivesReason, IsForAll, IsSound, looked_through}

of_all : (state : Waiting PendingOffer) (q : TreeQuery) → AsksForAll q → IsOfRules state q
of_all state any all = tt
of_all state any_beyond all = tt
of_all state _ all = absurd all

for_all : (theory : Theory) (q : TreeQuery) → AsksForAll q → IfSome (offer_in q) (GivesValues theory)
for_all theory any all = tt
for_all theory any_beyond all = tt
for_all theory _ all = absurd all

module _ (v : BoardView) (is : IsBoard v) (ready : IsReady (program v)) (apart : AreApart (tree v))
    (reached : (state v).behaviour ≡ stands_for (program v) (tree v)) where
  -- why the job has no answer at a node with this origin is a reason to stop
  abbrev Gives : NodeJob → Source → Type 0
  Gives job o = GivesReason (program v) v.settings (windows v) (state v) o job

  -- the job's tree chooses values, its node lives, and why the job has no answer there is a reason to stop
  pub record IsOfTree (job : NodeJob) : Type 0 where
    pub values : JobChoosesValues (program v).theory job
    pub lives : Lives (tree v) (generation_of job)
    pub gives : (o : Source) → ((n : Held) → IsNodeOf (tree v) (generation_of job) n → n.source ≡ o) → Gives job o

  at_node : (job : NodeJob) → JobChoosesValues (program v).theory job → (n : Held) → IsNodeOf (tree v) (generation_of job) n →
      Gives job n.source → IsOfTree job
  at_node job values n node gives =
      record { values = values; lives = record { node = n; is = node }; gives = λ o origin. subst (Gives job) (origin n node) gives }

  expansion_of_tree : (g : ℕ) → Lives (tree v) g → IsOfTree (to_expand g)
  expansion_of_tree g lives =
      at_node (to_expand g) tt lives.node lives.is (λ reason unexpanded.
      (due.jobs_give_reasons v is ready apart reached).expansions g lives.node lives.is unexpanded.0 unexpanded.1 reason unexpanded.2)

  part_of_tree : (q : TreeQuery) → AsksForAll q → (d : Derivation) →
      IsOneOf (element d) (known_trees (program v).theory (windows v) (tree v) q) → (part : NodePart) →
      IsOneOf part (missing_parts (pieces v) (tree v) d) → IsOfTree (to_judge part)
  part_of_tree q all d listed part missing =
      let lives = (missing_parts_are_missing (program v).theory (windows v) (pieces v) (tree v) d).lives part missing in
      let exact = exact_answers_exist (program v) ready in
      let of = of_all (waiting_in (state v)) q all in
      at_node (to_judge part)
      (due.listed_choose_values v is ready apart reached q (for_all (program v).theory q all) d listed part missing) lives.node lives.is (λ reason unshown.
      part_gives (program v) v.settings exact.0 (windows v) (tree v) (pieces v) (state v)
      (due.known_state v is ready apart reached exact.0 exact.1) part lives.node
      (record { query = q; of_rules = of; tree = d; listed = listed; missing = missing }) lives.is unshown.0
      unshown.1 reason unshown.2)

  of_tree : (q : TreeQuery) → AsksForAll q → (x : OrGap Derivation) → IsOneOf x (known_trees (program v).theory (windows v) (tree v) q) →
      (job : NodeJob) → FindsOut v x job → IsOfTree job
  of_tree q all (gap g) listed (to_expand h) finds =
      let waits = gap_waits (program v).theory (windows v) (tree v) q g listed in
      expansion_of_tree h (subst (Lives (tree v)) (sym finds) (record { node = waits.node; is = waits.is }))
  of_tree q all (element d) listed (to_judge part) finds = part_of_tree q all d listed part finds
  of_tree q all (gap g) listed (to_judge part) finds = absurd finds
  of_tree q all (element d) listed (to_expand h) finds = absurd finds

  pub found_out : (q : Query Offer) → IsForAll q → (x : OrGap Derivation) → IsOneOf x (looked_through v q) → (job : NodeJob) →
      FindsOut v x job → IsOfTree job
  found_out q all x listed job finds =
      of_tree all.query all.all x (subst (λ (z : Query Offer). IsOneOf x (looked_through v z)) (sym all.same) listed) job finds

  pub found_job_is_sound : (q : Query Offer) → IsForAll q → (x : OrGap Derivation) → IsOneOf x (looked_through v q) →
      (task : declared.NodeJob) → FindsOut v x (job_of task) → (job : Job) → job.task ≡ task →
      ((n : Held) → IsNodeOf (tree v) (generation_of (job_of task)) n → n.source ≡ source_of job.origin) → IsSound v job
  found_job_is_sound q all x listed task finds job same origin =
      let of = found_out q all x listed (job_of task) finds in
      subst (λ (t : declared.NodeJob). Gives (job_of t) (source_of job.origin) × JobChoosesValues (program v).theory (job_of t)) (sym same)
      (of.gives (source_of job.origin) origin, of.values)
