-- A board on which nothing is to be done.
use Rattle.std.proofs.Common.{◌≡◌, ◌∙◌, ◌⊎◌, [], refl, sym, ap, subst, map, true, Option, Some, None, is_some, inl, inr}
use Rattle.spec_core.specs.Code.{program_of}
use Rattle.spec_core.proofs.Options.{not_some}
use Rattle.rule_model.specs.States.{State}
use Rattle.symbolic_rules.specs.Tables.{windows_in}
use Rattle.decision_trees.specs.Rules.{nothing}
use Rattle.board_laws.specs.declared.stop_reason.StopReason.{StopReason}
use Rattle.board_laws.specs.Next.{GoesByRules, IsNextOf}
use Rattle.decision_order.specs.Jobs.{first_not_out}
use Rattle.candidates.specs.Jobs.{is_out}
use Rattle.candidates.specs.Models.{job_of}
use Rattle.candidate_verdicts.specs.Stored.{stored}
use Rattle.board_laws.specs.Needed.{entry_decided, jobs_needed}
use Rattle.board_offers.specs.Waiting.{waiting_in}
use Rattle.board_core.specs.Awaiting.{AwaitsClients}
use Rattle.board_core.specs.Settled.{WhyQuiet, quiet_stopped, quiet_undecided, quiet_nothing, quiet_limit}
use Rattle.board_core.specs.Views.{BoardView, program, state, tree, windows, pieces, decided_at, needed_at}
use Rattle.board_core.specs.Working.{NoneFree, none_stopped, none_ended, none_awaited, none_needed, WhyNone, first_free}
use Rattle.session_board.specs.declared.turning.Turn.{Turn}
use Rattle.session_board.specs.declared.turning.Turn.TheVariants.{Free, Settled, Idle, Over}
use Rattle.session_board.specs.Turning.{is_idle, ComesOfTurn, HasNothingToDo, StaysQuiet, StaysStill}

-- boards that differ at most in what stops the session

still_back : (a b : BoardView) → StaysStill a b → StaysStill b a
still_back a b h = record {
  setting = ((sym h.setting.0.0, sym h.setting.0.1), sym h.setting.1, sym h.setting.2);
  log = (sym h.log.0, sym h.log.1, sym h.log.2);
  nodes = (sym h.nodes.0, sym h.nodes.1, sym h.nodes.2);
  out = sym h.out;
}

pub still_on : (a b c : BoardView) → StaysStill a b → StaysStill b c → StaysStill a c
still_on a b c h k = record {
  setting = ((k.setting.0.0 ∙ h.setting.0.0, k.setting.0.1 ∙ h.setting.0.1), k.setting.1 ∙ h.setting.1, k.setting.2 ∙ h.setting.2);
  log = (k.log.0 ∙ h.log.0, k.log.1 ∙ h.log.1, k.log.2 ∙ h.log.2);
  nodes = (k.nodes.0 ∙ h.nodes.0, k.nodes.1 ∙ h.nodes.1, k.nodes.2 ∙ h.nodes.2);
  out = k.out ∙ h.out;
}

pub quiet_still : (a b : BoardView) → StaysQuiet a b → StaysStill a b
quiet_still a b (setting, quiet) = record { setting = setting; log = quiet.log; nodes = quiet.nodes; out = quiet.out }

stays_quiet : (v : BoardView) → WhyQuiet v v → StaysQuiet v v
stays_quiet v why = (
  ((refl, refl), refl, refl),
  record { log = (refl, refl, refl); nodes = (refl, refl, refl); out = refl; why = why },
)

five : {A B C D E R : Type 0} (f : A → B → C → D → E → R) (a x : A) (b y : B) (c z : C) (d u : D) (e v : E) → a ≡ x → b ≡ y → c ≡ z →
    d ≡ u → e ≡ v → f a b c d e ≡ f x y z u v
five f a x b y c z d u e v p q r s t =
    ap (λ a. f a b c d e) p ∙ ap (λ b. f x b c d e) q ∙ ap (λ c. f x y c d e) r ∙ ap (λ d. f x y z d e) s ∙ ap (λ e. f x y z u e) t

module _ (a b : BoardView) (still : StaysStill a b) where
  decided_same : decided_at b ≡ decided_at a
  decided_same =
      five (λ c w t k s. entry_decided (program_of c).theory (windows_in w) t (stored k) (waiting_in s)) b.session.checked a.session.checked
      b.windows a.windows (tree b) (tree a) b.pieces a.pieces (state b) (state a) still.setting.0.0 still.setting.2 still.nodes.0
      still.nodes.2 still.log.1

  needed_same : needed_at b ≡ needed_at a
  needed_same =
      five (λ c w t k s. jobs_needed (program_of c).theory (windows_in w) t (stored k) (waiting_in s)) b.session.checked a.session.checked
      b.windows a.windows (tree b) (tree a) b.pieces a.pieces (state b) (state a) still.setting.0.0 still.setting.2 still.nodes.0
      still.nodes.2 still.log.1

  free_same : first_free b ≡ first_free a
  free_same =
      ap (λ out. first_not_out (is_out (map job_of out)) (needed_at b)) still.out
      ∙ ap (λ jobs. first_not_out (is_out (map job_of a.out)) jobs) needed_same

  -- a fact of the state that is reached
  in_state : (P : State → Type 0) → P (state a) → P (state b)
  in_state P h = subst P (sym still.log.1) h

  back_in_state : (P : State → Type 0) → P (state b) → P (state a)
  back_in_state P h = subst P still.log.1 h

  none_free_on : b.stop ≡ a.stop → NoneFree a → NoneFree b
  none_free_on stop (none_stopped h) = none_stopped (λ none. h (sym stop ∙ none))
  none_free_on stop (none_ended h) = none_ended (λ goes. h (back_in_state GoesByRules goes))
  none_free_on stop (none_awaited h) = none_awaited (in_state AwaitsClients h)
  none_free_on stop (none_needed none goes free) = none_needed (stop ∙ none) (in_state GoesByRules goes) (free_same ∙ free)

-- where nothing stops the session, nothing did so between the search for an entry and that for a job
stop_same : (old quiet new : BoardView) → WhyQuiet old quiet → WhyNone quiet new → new.stop ≡ old.stop → quiet.stop ≡ old.stop
stop_same old quiet new (quiet_stopped reason e f none) why same = f ∙ sym e
stop_same old quiet new (quiet_undecided e f goes awaits decided) why same = f ∙ sym e
stop_same old quiet new (quiet_nothing e f goes next known) why same = f ∙ sym e
stop_same old quiet new (quiet_limit e f limit none) (inl (free, stop)) same = let never : ⊥ = cc in absurd never
stop_same old quiet new (quiet_limit e f limit none) (inr many) same =
    let running = many.running in
    let never : ⊥ = cc in
    absurd never

quiet_again : (old quiet new : BoardView) → StaysStill old new → new.stop ≡ old.stop → quiet.stop ≡ old.stop → WhyQuiet old quiet →
    WhyQuiet new new
quiet_again old quiet new still stop same (quiet_stopped reason e f none) =
    quiet_stopped reason (stop ∙ e) (stop ∙ e) (in_state old new still (λ s. s.pending ≡ []) none)
quiet_again old quiet new still stop same (quiet_undecided e f goes awaits decided) =
    quiet_undecided (stop ∙ e) (stop ∙ e) (in_state old new still GoesByRules goes)
    (λ waits. awaits (back_in_state old new still AwaitsClients waits)) (decided_same old new still ∙ decided)
quiet_again old quiet new still stop same (quiet_nothing e f goes next known) =
    quiet_nothing (stop ∙ e) (stop ∙ e) (in_state old new still GoesByRules goes)
    (subst (λ c. IsNextOf (program_of c) new.settings (state new) nothing) (sym still.setting.0.0)
    (subst (λ k. IsNextOf (program old) k (state new) nothing) (sym still.setting.1)
    (in_state old new still (λ s. IsNextOf (program old) old.settings s nothing) next)))
    (known_again known)
  where
    known_again : AwaitsClients (state old) ⊎ (decided_at old ≡ Some nothing) → AwaitsClients (state new) ⊎ (decided_at new ≡ Some nothing)
    known_again (inl waits) = inl (in_state old new still AwaitsClients waits)
    known_again (inr decided) = inr (decided_same old new still ∙ decided)
quiet_again old quiet new still stop same (quiet_limit e f limit none) = let never : ⊥ = cc in absurd never

none_again : (quiet new : BoardView) → StaysStill quiet new → new.stop ≡ quiet.stop → WhyNone quiet new → WhyNone new new
none_again quiet new still stop (inl (free, same)) = inl (none_free_on quiet new still stop free, refl)
none_again quiet new still stop (inr many) =
    let running = many.running in
    let stopped = many.stop in
    let never : ⊥ = cc in
    absurd never

-- Where a turn found nothing to do, and nothing stopped the session in it, there is nothing to do after it.
pub idle_again : (old new : BoardView) → StaysStill old new → new.stop ≡ old.stop → HasNothingToDo old new → HasNothingToDo new new
idle_again old new still stop (quiet, stays, none) =
    let same = stop_same old quiet new stays.1.why none stop in
    let onward = still_on quiet old new (still_back old quiet (quiet_still old quiet stays)) still in (
      new,
      stays_quiet new (quiet_again old quiet new still stop same stays.1.why),
      none_again quiet new onward (stop ∙ sym same) none,
    )

-- where the session had stopped just where it has, the reason is the same

none_still : (old new : Option StopReason) → old ≡ None → is_some new ≡ is_some old → new ≡ old
none_still old new none same = not_some new (same ∙ ap is_some none) ∙ sym none

stop_stays : (old quiet new : BoardView) → WhyQuiet old quiet → WhyNone quiet new → is_some new.stop ≡ is_some old.stop → new.stop ≡ old.stop
stop_stays old quiet new (quiet_stopped reason e f none) (inl (free, stop)) same = stop ∙ f ∙ sym e
stop_stays old quiet new (quiet_stopped reason e f none) (inr many) same =
    let running = many.running in
    let never : ⊥ = cc in
    absurd never
stop_stays old quiet new (quiet_undecided e f goes awaits decided) why same = none_still old.stop new.stop e same
stop_stays old quiet new (quiet_nothing e f goes next known) why same = none_still old.stop new.stop e same
stop_stays old quiet new (quiet_limit e f limit none) why same = none_still old.stop new.stop e same

nothing_in : (old new : BoardView) (turn : Turn) → is_idle turn ≡ true → ComesOfTurn old new turn → HasNothingToDo old new
nothing_in old new Settled idle h = let never : ⊥ = cc in absurd never
nothing_in old new (Free job) idle h = let never : ⊥ = cc in absurd never
nothing_in old new Idle idle h = h.0
nothing_in old new Over idle h = h.0

-- the same of a turn
pub rests_again : (old new : BoardView) (turn : Turn) → is_idle turn ≡ true → ComesOfTurn old new turn →
    (is_idle turn ≡ true → StaysStill old new) → is_some new.stop ≡ is_some old.stop → HasNothingToDo new new
rests_again old new turn idle comes still same =
    let h = nothing_in old new turn idle comes in
    idle_again old new (still idle) (stop_stays old h.0 new h.1.1.why h.2 same) h
