-- Jobs that are handed out, and what comes of them.
use Rattle.std.specs.Prelude.{ℕ, ◌≡◌, ◌<◌, ◌≤◌, ◌⊎◌, ◌++◌, ◌∷◌, [], List, map, filter, not, Option, Some, None}
use Rattle.spec_core.specs.Code.{Program}
use Rattle.spec_core.specs.Lists.{Each, IsOneOf}
use Rattle.decision_order.specs.Jobs.{first_not_out, taken_on}
use Rattle.candidates.specs.Jobs.{NodeJob, to_expand, to_judge, same_job, is_out, with_job}
use Rattle.candidates.specs.Models.{job_of}
use Rattle.board_laws.specs.JobValues.{JobChoosesValues}
use Rattle.board_laws.specs.Needed.{Waits, generation_of}
use Rattle.board_laws.specs.Next.{GoesByRules}
use Rattle.candidate_verdicts.specs.Stored.{is_gone}
use Rattle.node_trees.specs.declared.origin.Gen.{Gen}
use Rattle.node_trees.specs.Origins.{Source, source_of}
use Rattle.node_trees.specs.Shapes.{Held, Shape, IsNodeOf, Lives}
use Rattle.board_core.specs.declared.job.Job.{Job}
use Rattle.rule_model.specs.declared.reply.LimitKind.TheVariants.{Offers}
use Rattle.candidate_count.specs.Counts.{offers_limit, offers_of_tree}
use Rattle.board_laws.specs.declared.stop_reason.StopReason.{StopReason}
use Rattle.board_laws.specs.declared.stop_reason.StopReason.TheVariants.{Limit}
use Rattle.board_laws.specs.Reasons.{LooksForTrees}
use Rattle.board_core.specs.Awaiting.{AwaitsClients}
use Rattle.board_core.specs.Views.{BoardView, needed_at, program, state, tree, windows}

-- the first job that the rules need and that isn't out
abbrev pub first_free : BoardView → Option NodeJob
first_free v = first_not_out (is_out (map job_of v.out)) (needed_at v)

-- the job's tree of rules, if it has one, chooses values
abbrev pub IsOfValues : Program → Job → Type 0
IsOfValues program job = JobChoosesValues program.theory (job_of job.task)

-- the job is the first that is needed and wasn't out, it is out now, and its origin is that of its node; the rules look for trees; and its
-- tree, if it has one, chooses values
pub record IsHandedOut (old new : BoardView) (job : Job) : Type 0 where
  pub first : first_free old ≡ Some (job_of job.task)
  pub out : map job_of new.out ≡ map job_of old.out ++ job_of job.task ∷ []
  pub lives : Lives (tree old) (generation_of (job_of job.task))
  pub origin : (n : Held) → IsNodeOf (tree old) (generation_of (job_of job.task)) n → n.source ≡ source_of job.origin
  pub looks : LooksForTrees (state old)
  pub values : IsOfValues (program old) job

-- the rules need the job; its node lives, and its origin is that of the node; the rules look for trees; and its tree, if it has one,
-- chooses values
pub record IsAsked (v : BoardView) (job : Job) : Type 0 where
  pub among : IsOneOf (job_of job.task) (needed_at v)
  pub lives : Lives (tree v) (generation_of (job_of job.task))
  pub origin : (n : Held) → IsNodeOf (tree v) (generation_of (job_of job.task)) n → n.source ≡ source_of job.origin
  pub looks : LooksForTrees (state v)
  pub values : IsOfValues (program v) job

-- the first jobs that the rules need and that aren't out, each once, up to so many
pub record AreAsked (v : BoardView) (limit : ℕ) (jobs : List Job) : Type 0 where
  pub those : map (λ job. job_of job.task) jobs ≡ taken_on (with_job limit (map job_of v.out)) [] (needed_at v)
  pub each : Each (IsAsked v) jobs

-- why no job is handed out: the session has stopped, or ended with an offer pending, or waits for its clients; or no further job is needed
pub data NoneFree (v : BoardView) : Type 0 where
  none_stopped : (v.stop ≡ None → ⊥) → NoneFree v
  none_ended : (GoesByRules (state v) → ⊥) → NoneFree v
  none_awaited : AwaitsClients (state v) → NoneFree v
  none_needed : v.stop ≡ None → GoesByRules (state v) → first_free v ≡ None → NoneFree v

-- The rules still need the job: no reason has stopped the session, they look for trees, and the job is one of those that they ask, as far as is
-- known.
pub record IsNeeded (v : BoardView) (job : NodeJob) : Type 0 where
  pub running : v.stop ≡ None
  pub looks : LooksForTrees (state v)
  pub among : IsOneOf job (needed_at v)

-- the tree of each job that the rules need, if it has one, chooses values
abbrev pub NeededChooseValues : BoardView → Type 0
NeededChooseValues v = (job : NodeJob) → IsOneOf job (needed_at v) → JobChoosesValues (program v).theory job

-- the job is to find what a node shows
abbrev pub IsVerdict : NodeJob → Type 0
IsVerdict (to_expand g) = ⊥
IsVerdict (to_judge p) = Unit {0}

-- What a node shows is needed next, and the behaviour that is reached has more possible agreements than are looked at, of those of which
-- every participant is expanded: this stops the session.
pub record IsTooMany (old new : BoardView) : Type 0 where
  pub running : old.stop ≡ None
  pub looks : LooksForTrees (state old)
  pub job : NodeJob
  pub first : first_free old ≡ Some job
  pub verdict : IsVerdict job
  pub many : offers_limit < offers_of_tree (program old) (windows old) (tree old)
  pub stop : new.stop ≡ Some (Limit Offers)

-- why no job is handed out, or that there are too many possible agreements
abbrev pub WhyNone : BoardView → BoardView → Type 0
WhyNone old new = NoneFree old × (new.stop ≡ old.stop) ⊎ IsTooMany old new

-- the others of the jobs that are out
abbrev pub left_out : NodeJob → List NodeJob → List NodeJob
left_out job out = filter (λ other. not (same_job other job)) out

-- what the job is to find isn't known yet: the node waits; or it lives
abbrev pub IsFree : Shape → NodeJob → Type 0
IsFree t (to_expand g) = Waits t g
IsFree t (to_judge p) = Lives t p.generation

-- the jobs at other nodes than those of these generations
abbrev pub jobs_left : List Gen → List NodeJob → List NodeJob
jobs_left gone jobs = filter (λ job. not (is_gone gone (generation_of job))) jobs

-- Nodes that live on keep what they stand for: each node of the new tree whose generation had begun was one of the old tree, and stands for
-- the same. Generations go on.
pub record KeepsNodes (old new : BoardView) : Type 0 where
  pub more : old.session.tree.next ≤ new.session.tree.next
  pub was : (g : ℕ) (m : Held) → IsNodeOf (tree new) g m → g < old.session.tree.next →
      (n : Held) × IsNodeOf (tree old) g n × (m.source ≡ n.source)

-- the generation has begun, and its node, where it lives, stands for this
pub record IsOrigin (v : BoardView) (g : ℕ) (o : Source) : Type 0 where
  pub begun : g < v.session.tree.next
  pub origin : (n : Held) → IsNodeOf (tree v) g n → n.source ≡ o

-- the node of the generation lives, and stands for this
pub record HasOrigin (t : Shape) (g : ℕ) (o : Source) : Type 0 where
  pub node : Held
  pub is : IsNodeOf t g node
  pub source : node.source ≡ o

-- the first reason stays
abbrev pub first_reason : Option StopReason → StopReason → Option StopReason
first_reason None reason = Some reason
first_reason (Some first) reason = Some first
