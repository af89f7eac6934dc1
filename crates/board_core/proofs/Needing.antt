-- Whether the rules still need a job.
use Rattle.std.proofs.Common.{◌≡◌, ◌↔◌, [], ap, None, is_some, Bool, IsTrue, true, false}
use Rattle.spec_core.specs.Lists.{IsOneOf}
use Rattle.candidates.specs.Jobs.{NodeJob}
use Rattle.board_laws.specs.Next.{HasEnded}
use Rattle.board_laws.specs.Reasons.{LooksForTrees}
use Rattle.board_core.specs.Awaiting.{AwaitsClients}
use Rattle.board_core.specs.Views.{BoardView, needed_at, state}
use Rattle.board_core.specs.Working.{IsNeeded}

module _ (v : BoardView) (job : NodeJob) where
  pub unneeded : (IsNeeded v job → ⊥) → IsTrue false ↔ IsNeeded v job
  unneeded never = (λ h. let no : ⊥ = cc in absurd no, λ n. absurd (never n))

  -- where the session has stopped, has ended with an offer pending, or waits for its clients, no job is needed

  pub stopped_needs_none : is_some v.stop ≡ true → IsNeeded v job → ⊥
  stopped_needs_none some n = let none : is_some v.stop ≡ false = ap is_some n.running in let no : ⊥ = cc in no

  pub ended_needs_none : HasEnded (state v).last × ((state v).pending ≡ [] → ⊥) → IsNeeded v job → ⊥
  ended_needs_none ended n = ended.1 (n.looks.goes ended.0)

  pub awaiting_needs_none : AwaitsClients (state v) → IsNeeded v job → ⊥
  awaiting_needs_none awaits n = n.looks.busy awaits.none awaits.some

  -- else those that the rules ask
  pub needed_where_asked : v.stop ≡ None → LooksForTrees (state v) → (b : Bool) → (IsTrue b ↔ IsOneOf job (needed_at v)) →
      IsTrue b ↔ IsNeeded v job
  needed_where_asked running looks b among =
      (λ h. record { running = running; looks = looks; among = among.0 h }, λ n. among.1 n.among)
