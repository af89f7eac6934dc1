-- Steps that work.
use Rattle.std.proofs.Common.{◌≡◌, ◌∙◌, ◌⊎◌, [], inl, inr, map, Option, Some, None, is_some, true, false, refl, sym, ap, subst}
use Rattle.spec_core.specs.Lists.{IsOneOf}
use Rattle.node_trees.specs.Origins.{source_of}
use Rattle.node_trees.specs.Shapes.{Shape}
use Rattle.candidates.specs.Jobs.{NodeJob, is_out}
use Rattle.candidates.specs.Models.{job_of}
use Rattle.decision_trees.specs.Lazy.{first}
use Rattle.board_laws.specs.declared.stop_reason.StopReason.{StopReason}
use Rattle.board_laws.specs.Needed.{generation_of}
use Rattle.board_laws.specs.Reasons.{LooksForTrees}
use Rattle.board_core.specs.declared.job.Job.{Job}
use Rattle.board_core.specs.Settled.{WhyQuiet, quiet_stopped, quiet_undecided, quiet_nothing, quiet_limit}
use Rattle.board_core.specs.Views.{BoardView, needed_at, state, tree}
use Rattle.board_core.specs.Working.{HasOrigin, IsHandedOut, IsNeeded}
use Rattle.board_core.proofs.Knowing.{free_is_needed}
use Rattle.board_work.specs.Handed.{HandsIn, IsOver}
use Rattle.board_work.specs.Settling.{FirstIsDone, HasNoJob, HasStopped, HasWorked, IsLike}
use Rattle.board_work.proofs.Handing.{handed_twice}
use Rattle.board_work.proofs.Quiet.{first_left, hands_nothing, like_twice, same_needed}

-- whether a session has stopped

pub runs : (o : Option StopReason) → is_some o ≡ false → o ≡ None
runs None e = refl
runs (Some reason) e = absurd (let never : ⊥ = cc in never)

pub has_stopped : (o : Option StopReason) → is_some o ≡ true → o ≡ None → ⊥
has_stopped o e none = let f = sym e ∙ ap is_some none in let never : ⊥ = cc in never

-- in one state, where the same is needed
needed_with : (u v : BoardView) (job : NodeJob) → v.stop ≡ None → state v ≡ state u → needed_at v ≡ needed_at u → IsNeeded u job → IsNeeded v job
needed_with u v job running same needed h = record {
  running = running;
  looks = subst LooksForTrees (sym same) h.looks;
  among = subst (IsOneOf job) (sym needed) h.among;
}

needed_there : (a b : BoardView) (job : NodeJob) → IsLike a b → b.stop ≡ None → IsNeeded a job → IsNeeded b job
needed_there a b job like running h = needed_with a b job running like.log.1 (same_needed a b like) h

needed_before : (a b : BoardView) (job : NodeJob) → IsLike a b → a.stop ≡ None → IsNeeded b job → IsNeeded a job
needed_before a b job like running h = needed_with b a job running (sym like.log.1) (sym (same_needed a b like)) h

-- what is done of a board's jobs, or stops it, is so of one before it that is like it
pub worked_later : (a b c : BoardView) → IsLike a b → HandsIn a b → (b.stop ≡ None → a.stop ≡ None) → HasWorked b c → HasWorked a c
worked_later a b c like before runs h = record { handed = handed_twice a b c before h.handed; work = by_case h.work }
  where
    by_case : FirstIsDone b c ⊎ HasStopped b c → FirstIsDone a c ⊎ HasStopped a c
    by_case (inl d) = inl (record {
      job = d.job;
      needed = needed_before a b d.job like (runs d.needed.running) d.needed;
      is_first = ap first (sym (same_needed a b like)) ∙ d.is_first;
      done = d.done;
    })
    by_case (inr s) = inr (record { running = runs s.running; stopped = s.stopped })

-- a board that settles nothing, and runs then, ran before
pub quiet_ran : (a b : BoardView) → WhyQuiet a b → b.stop ≡ None → a.stop ≡ None
quiet_ran a b (quiet_stopped reason e f none) running = absurd (let g = sym f ∙ running in let never : ⊥ = cc in never)
quiet_ran a b (quiet_undecided e f rules busy undecided) running = e
quiet_ran a b (quiet_nothing e f rules next known) running = e
quiet_ran a b (quiet_limit e f limit none) running = e

-- where there was no job, the board is like the one before
pub no_job_like : (a b : BoardView) → HasNoJob a b → IsLike a b × (b.stop ≡ a.stop)
no_job_like a b h = (like_twice a h.freed b h.frees h.stays, h.stop ∙ h.running)

-- All jobs are free again, and the session runs.
module _ (a b : BoardView) (frees : IsLike a b) (stop : b.stop ≡ a.stop) (out : b.out ≡ []) (running : b.stop ≡ None) where
  freed : HandsIn a b
  freed = hands_nothing a b frees.session frees.log frees.nodes stop

  ran : a.stop ≡ None
  ran = sym stop ∙ running

  -- there was no job, and this has stopped the session
  pub stops_for_none : (c : BoardView) → HandsIn b c → (c.stop ≡ None → ⊥) → HasWorked a c
  stops_for_none c h stopped =
      record { handed = handed_twice a b c freed h; work = inr (record { running = ran; stopped = stopped }) }

  -- the first job is handed out, and what came of it, and of others, is handed in
  module _ (d : BoardView) (job : Job) (taken : IsHandedOut b d job) (like : IsLike b d) (same : d.stop ≡ b.stop) where
    needed : IsNeeded b (job_of job.task)
    needed = record {
      running = running;
      looks = taken.looks;
      among = free_is_needed (is_out (map job_of b.out)) (needed_at b) (job_of job.task) taken.first;
    }

    has_origin : HasOrigin (tree d) (generation_of (job_of job.task)) (source_of job.origin)
    has_origin =
        subst (λ (t : Shape). HasOrigin t (generation_of (job_of job.task)) (source_of job.origin)) (sym like.nodes.0)
        (record { node = taken.lives.node; is = taken.lives.is; source = taken.origin taken.lives.node taken.lives.is })

    pub works : (e : BoardView) → HandsIn d e →
        (HasOrigin (tree d) (generation_of (job_of job.task)) (source_of job.origin) → IsNeeded d (job_of job.task) →
        IsOver e (job_of job.task)) → HasWorked a e
    works e h over = record {
      handed =
          handed_twice a b e freed
          (handed_twice b d e (hands_nothing b d like.session like.log like.nodes same) h);
      work = by_case (over has_origin (needed_there b d (job_of job.task) like (same ∙ running) needed));
    }
      where
        by_case : IsOver e (job_of job.task) → FirstIsDone a e ⊎ HasStopped a e
        by_case (inl done) = inl (record {
          job = job_of job.task;
          needed = needed_before a b (job_of job.task) frees ran needed;
          is_first =
              ap first (sym (same_needed a b frees))
              ∙ first_left b (Some (job_of job.task)) out taken.first;
          done = done;
        })
        by_case (inr stopped) = inr (record { running = ran; stopped = stopped })
