-- Where a board settles nothing, and no job is needed.
use Rattle.std.specs.Prelude.{IfSome, IfNone}
use Rattle.std.proofs.Common.{ℕ, is_some, true, false, ◌≡◌, ◌⊎◌, inl, inr, ◌∙◌, List, [], ◌∷◌, refl, sym, ap, subst, map, Option, Some, None}
use Rattle.run_settings.specs.declared.settings.Settings.{Settings}
use Rattle.spec_core.specs.declared.window.Window.{Window}
use Rattle.spec_core.specs.Code.{Program, program_of}
use Rattle.spec_core.specs.Theories.{Theory}
use Rattle.rule_model.specs.declared.reply.LimitKind.TheVariants.{Offers, Steps}
use Rattle.rule_model.specs.States.{PendingOffer, State}
use Rattle.candidate_verdicts.specs.declared.pieces.Pieces.{Pieces}
use Rattle.candidate_verdicts.specs.Known as known
use Rattle.candidate_verdicts.specs.Stored.{stored}
use Rattle.symbolic_rules.specs.Tables.{windows_in}
use Rattle.symbolic_rules.specs.Windows.{Windows}
use Rattle.candidates.specs.declared.job.NodeJob as declared
use Rattle.candidates.specs.Jobs.{NodeJob, is_out}
use Rattle.candidates.specs.Models.{job_of}
use Rattle.decision_trees.specs.Lazy.{first}
use Rattle.board_laws.specs.Needed.{entry_decided, jobs_needed}
use Rattle.board_laws.specs.Next.{GoesByRules, IsNextOf}
use Rattle.decision_trees.specs.Rules.{Waiting, nothing}
use Rattle.board_laws.specs.StoppingLaws.{GiveReasons}
use Rattle.board_laws.specs.declared.stop_reason.StopReason.TheVariants.{Limit}
use Rattle.board_laws.specs.declared.stop_reason.StopReason.{StopReason}
use Rattle.board_laws.proofs.Settling.{nothing_needed_is_decided}
use Rattle.board_core.specs.Awaiting.{AwaitsClients}
use Rattle.decision_order.specs.Jobs.{first_not_out, not_out}
use Rattle.board_core.specs.Settled.{HasSettled, IsQuiet, WhyQuiet, quiet_stopped, quiet_undecided, quiet_nothing, quiet_limit}
use Rattle.node_trees.specs.Shapes.{Shape}
use Rattle.board_core.specs.Views.{BoardView, program, state, tree, windows, pieces, decided_at, needed_at, SameLog, SameNodes, SameSession}
use Rattle.board_offers.specs.Waiting.{waiting_in}
use Rattle.board_core.specs.Working.{NoneFree, WhyNone, first_free, first_reason, none_stopped, none_ended, none_awaited, none_needed}
use Rattle.board_core.proofs.Knowing.{free_is_needed}
use Rattle.board_work.specs.Handed.{HandsIn}
use Rattle.client_laws.specs.Runs.{IsSettledAt, all_told, none_next}
use Rattle.board_work.specs.Settling.{HasComeNext, HasNoJob, IsLike, IsSettledOn}
use Rattle.board_work.proofs.Driving.{asked_at}
use Rattle.board_work.proofs.Handing.{handed_twice, nothing_handed}
use Rattle.board_work.proofs.Keeping.{keeps_nodes}

-- nothing is out, so all that is needed is free
all_kept : (xs : List NodeJob) → not_out (is_out []) xs ≡ xs
all_kept [] = refl
all_kept (x ∷ xs) = ap (λ (l : List NodeJob). x ∷ l) (all_kept xs)

no_first : (xs : List NodeJob) → first xs ≡ None → xs ≡ []
no_first [] e = refl
no_first (x ∷ xs) e = let never : ⊥ = cc in absurd never

pub first_left : (v : BoardView) (o : Option NodeJob) → v.out ≡ [] → first_free v ≡ o → first (needed_at v) ≡ o
first_left v o out free =
    ap first (sym (all_kept (needed_at v)))
    ∙ subst (λ (l : List declared.NodeJob). first_not_out (is_out (map job_of l)) (needed_at v) ≡ o) out free

none_left : (v : BoardView) → v.out ≡ [] → first_free v ≡ None → needed_at v ≡ []
none_left v out free = no_first (needed_at v) (first_left v None out free)

like_itself : (v : BoardView) → IsLike v v
like_itself v =
    record { session = (((refl, refl), refl, refl), refl); log = (refl, refl, refl); nodes = (refl, refl, refl) }

pub like_twice : (a b c : BoardView) → IsLike a b → IsLike b c → IsLike a c
like_twice a b c x y = record {
  session = (
    ((y.session.0.0.0 ∙ x.session.0.0.0, y.session.0.0.1 ∙ x.session.0.0.1), y.session.0.1 ∙ x.session.0.1, y.session.0.2 ∙ x.session.0.2),
    y.session.1 ∙ x.session.1,
  );
  log = (y.log.0 ∙ x.log.0, y.log.1 ∙ x.log.1, y.log.2 ∙ x.log.2);
  nodes = (y.nodes.0 ∙ x.nodes.0, y.nodes.1 ∙ x.nodes.1, y.nodes.2 ∙ x.nodes.2);
}

module _ (old new : BoardView) (like : IsLike old new) where
  -- what is told by the data, the windows, the tree, what is known of it, and the offers that wait is the same
  same : {A : Type 0} (f : Theory → Windows → Shape → known.Pieces → Waiting PendingOffer → A) →
      f (program new).theory (windows new) (tree new) (pieces new) (waiting_in (state new)) ≡
      f (program old).theory (windows old) (tree old) (pieces old) (waiting_in (state old))
  same f =
      ap (λ (p : Program). f p.theory (windows new) (tree new) (pieces new) (waiting_in (state new))) (ap program_of like.session.0.0.0)
      ∙ ap (λ (w : List Window). f (program old).theory (windows_in w) (tree new) (pieces new) (waiting_in (state new))) like.session.0.2
      ∙ ap (λ (t : Shape). f (program old).theory (windows old) t (pieces new) (waiting_in (state new))) like.nodes.0
      ∙ ap (λ (p : Pieces). f (program old).theory (windows old) (tree old) (stored p) (waiting_in (state new))) like.nodes.2
      ∙ ap (λ (s : State). f (program old).theory (windows old) (tree old) (pieces old) (waiting_in s)) like.log.1

  -- the same is decided, and the same is needed

  same_decided : decided_at new ≡ decided_at old
  same_decided = same entry_decided

  pub same_needed : needed_at new ≡ needed_at old
  same_needed = same jobs_needed

  next_there : IsNextOf (program old) old.settings (state old) nothing → IsNextOf (program new) new.settings (state new) nothing
  next_there h =
      subst (λ (s : State). IsNextOf (program new) new.settings s nothing) (sym like.log.1)
      (subst (λ (k : Settings). IsNextOf (program new) k (state old) nothing) (sym like.session.0.1)
      (subst (λ (p : Program). IsNextOf p old.settings (state old) nothing) (ap program_of (sym like.session.0.0.0)) h))

  told_there : (state old).pending ≡ [] → (state new).pending ≡ []
  told_there e = ap (λ (s : State). s.pending) like.log.1 ∙ e

  rules_there : GoesByRules (state old) → GoesByRules (state new)
  rules_there h = subst GoesByRules (sym like.log.1) h

  known_there : AwaitsClients (state old) ⊎ (decided_at old ≡ Some nothing) → AwaitsClients (state new) ⊎ (decided_at new ≡ Some nothing)
  known_there (inl awaits) = inl (subst AwaitsClients (sym like.log.1) awaits)
  known_there (inr decided) = inr (same_decided ∙ decided)

  by_reason : (reason : StopReason) → new.stop ≡ Some reason → (state old).pending ≡ [] → IsSettledOn new
  by_reason reason e none = record { at = all_told reason e (told_there none); known = λ f. absurd (stops_not e f) }
    where
      stops_not : {o : Option StopReason} → o ≡ Some reason → o ≡ None → ⊥
      stops_not {o} g h = cc

  by_rules : new.stop ≡ None → GoesByRules (state old) → IsNextOf (program old) old.settings (state old) nothing →
      AwaitsClients (state old) ⊎ (decided_at old ≡ Some nothing) → IsSettledOn new
  by_rules e rules next known = record { at = none_next e (rules_there rules) (next_there next); known = λ f. known_there known }

  -- where the board settles nothing and no job is needed, nothing is left to be done
  pub nothing_left : WhyQuiet old new → NoneFree new → new.out ≡ [] → IsSettledOn new
  nothing_left (quiet_stopped reason e f none) free out = by_reason reason f none
  nothing_left (quiet_limit e f limit none) free out = by_reason (Limit Steps) f none
  nothing_left (quiet_nothing e f rules next known) free out = by_rules f rules next known
  nothing_left (quiet_undecided e f rules busy undecided) (none_stopped never) out = absurd (never f)
  nothing_left (quiet_undecided e f rules busy undecided) (none_ended never) out = absurd (never (rules_there rules))
  nothing_left (quiet_undecided e f rules busy undecided) (none_awaited awaits) out = absurd (busy (subst AwaitsClients like.log.1 awaits))
  nothing_left (quiet_undecided e f rules busy undecided) (none_needed a b free) out =
      absurd (nothing_needed_is_decided (program new).theory (windows new) (tree new) (pieces new) (waiting_in (state new))
      (none_left new out free) (same_decided ∙ undecided))

  -- it stays so
  pub settled_there : new.stop ≡ old.stop → IsSettledOn old → IsSettledOn new
  settled_there stop h = by_case h.at
    where
      by_case : IsSettledAt (program old) old.settings old.stop (state old) → IsSettledOn new
      by_case (all_told reason e none) = by_reason reason (stop ∙ e) none
      by_case (none_next e rules next) = by_rules (stop ∙ e) rules next (h.known e)

-- why there is no further entry doesn't depend on more than the reason to stop
pub why_stays : (a b c : BoardView) → c.stop ≡ b.stop → WhyQuiet a b → WhyQuiet a c
why_stays a b c e (quiet_stopped reason f g none) = quiet_stopped reason f (e ∙ g) none
why_stays a b c e (quiet_undecided f g rules busy undecided) = quiet_undecided f (e ∙ g) rules busy undecided
why_stays a b c e (quiet_nothing f g rules next known) = quiet_nothing f (e ∙ g) rules next known
why_stays a b c e (quiet_limit f g limit none) = quiet_limit f (e ∙ g) limit none

-- where there was no job, and before that nothing was settled, nothing is left to be done
pub none_left_behind : (a b c : BoardView) → SameSession a b → IsQuiet a b → HasNoJob b c → IsSettledOn c
none_left_behind a b c session quiet h =
    let like = like_twice a b h.freed (record { session = session; log = quiet.log; nodes = quiet.nodes }) h.frees in
    settled_there h.freed c h.stays h.stop
    (nothing_left a h.freed like (why_stays a b h.freed h.running quiet.why) h.none h.out)

-- there was no job, and that didn't stop the session
pub has_no_job : (a b c : BoardView) → IsLike a b → b.stop ≡ a.stop → b.out ≡ [] → IsLike b c → WhyNone b c →
    is_some c.stop ≡ false → HasNoJob a c
has_no_job a b c frees running out stays (inl none) runs =
    record { freed = b; frees = frees; running = running; out = out; none = none.0; stays = stays; stop = none.1 }
has_no_job a b c frees running out stays (inr many) runs = absurd (stops_not (sym (ap is_some many.stop) ∙ runs))
  where
    stops_not : true ≡ false → ⊥
    stops_not e = cc

-- nor was there one where the session had stopped
pub stopped_has_no_job : (a b : BoardView) → IsLike a b → b.stop ≡ a.stop → b.out ≡ [] → (b.stop ≡ None → ⊥) → HasNoJob a b
stopped_has_no_job a b frees running out stopped = record {
  freed = b;
  frees = frees;
  running = running;
  out = out;
  none = none_stopped stopped;
  stays = like_itself b;
  stop = refl;
}

module _ (old new : BoardView) (session : SameSession old new) where
  -- nothing was handed in
  pub hands_nothing : SameLog old new → SameNodes old new → new.stop ≡ old.stop → HandsIn old new
  hands_nothing log nodes stop = record { session = session; log = log; done = keeps_nodes old new nodes; stop = inl stop }

  -- no job was handed out, and that may have stopped the session
  pub hands_none : SameLog old new → SameNodes old new → GiveReasons (program old) old.settings (windows old) (tree old) (pieces old) (state old) →
      WhyNone old new → HandsIn old new
  hands_none log nodes gives (inl none) = hands_nothing log nodes none.1
  hands_none log nodes gives (inr many) = record {
    session = session;
    log = log;
    done = keeps_nodes old new nodes;
    stop = inr (
      Limit Offers,
      gives.offers many.many,
      (many.looks, asked_at old gives many.job many.verdict (free_is_needed (is_out (map job_of old.out)) (needed_at old) many.job many.first)),
      many.stop ∙ sym (ap (λ (o : Option StopReason). first_reason o (Limit Offers)) many.running),
    );
  }

  -- where the board settles nothing, a limit may have stopped the session
  pub hands_quiet : IsQuiet old new → HandsIn old new
  hands_quiet h = by_why h.why
    where
      by_why : WhyQuiet old new → HandsIn old new
      by_why (quiet_stopped reason e f none) = hands_nothing h.log h.nodes (f ∙ sym e)
      by_why (quiet_undecided e f rules busy undecided) = hands_nothing h.log h.nodes (f ∙ sym e)
      by_why (quiet_nothing e f rules next known) = hands_nothing h.log h.nodes (f ∙ sym e)
      by_why (quiet_limit e f limit none) = record {
        session = session;
        log = h.log;
        done = keeps_nodes old new h.nodes;
        stop = inr (Limit Steps, limit, tt, f ∙ sym (ap (λ (o : Option StopReason). first_reason o (Limit Steps)) e));
      }

-- what a board settles, and what it doesn't

pub come_at_once : (a b : BoardView) (o : Option ℕ) (n : ℕ) → is_some o ≡ true → SameSession a b →
    IfSome o (λ m. HasSettled a b × (m ≡ n)) → HasComeNext a b
come_at_once a b (Some m) n e session h = record { ready = a; handed = nothing_handed a; session = session; settled = h.0 }
come_at_once a b None n e session h = absurd (let never : ⊥ = cc in never)

pub was_quiet : (a b : BoardView) (o : Option ℕ) → is_some o ≡ false → IfNone o (IsQuiet a b) → IsQuiet a b
was_quiet a b None e k = k
was_quiet a b (Some m) e k = absurd (let never : ⊥ = cc in never)

-- after what was handed in
pub come_later : (a b c : BoardView) → HandsIn a b → HasComeNext b c → HasComeNext a c
come_later a b c x h = record { ready = h.ready; handed = handed_twice a b h.ready x h.handed; session = h.session; settled = h.settled }
