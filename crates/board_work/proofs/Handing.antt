-- Boards to which several things were handed in, one after another.
use Rattle.std.proofs.Common.{ℕ, ◌≡◌, ◌∙◌, ◌⊎◌, List, ◌∷◌, inl, inr, refl, ap, subst, Option, Some, None}
use Rattle.spec_core.specs.Code.{program_of}
use Rattle.spec_core.specs.Lists.{Each}
use Rattle.spec_core.proofs.Lists.{each_implied}
use Rattle.board_laws.specs.declared.stop_reason.StopReason.{StopReason}
use Rattle.board_laws.specs.Reasons.{IsAskedByRules, IsReasonToStop}
use Rattle.board_core.specs.Views.{BoardView, program, state, SameLog, SameSession}
use Rattle.board_core.specs.declared.job.Job.{Job}
use Rattle.board_core.specs.Working.{AreAsked, IsAsked, IsOfValues, first_reason}
use Rattle.board_work.specs.Handed.{HandsIn, StopsNow}
use Rattle.board_work.proofs.Going.{one_session}

pub nothing_handed : (v : BoardView) → HandsIn v v
nothing_handed v = record {
  session = (((refl, refl), refl, refl), refl);
  log = (refl, refl, refl);
  done = λ job undone. undone;
  stop = inl refl;
}

-- of two reasons the first one stays
first_stays : (o : Option StopReason) (r s : StopReason) → first_reason (first_reason o r) s ≡ first_reason o r
first_stays None r s = refl
first_stays (Some first) r s = refl

module _ (a b c : BoardView) (session : SameSession a b) (log : SameLog a b) where
  -- what is so of the state that the second has is so of that of the first
  there : (reason : StopReason) →
      IsReasonToStop (program b) b.settings (state b) reason × IsAskedByRules (program b) b.settings (state b) reason →
      IsReasonToStop (program a) a.settings (state a) reason × IsAskedByRules (program a) a.settings (state a) reason
  there reason h =
      subst (λ p. IsReasonToStop p a.settings (state a) reason × IsAskedByRules p a.settings (state a) reason)
      (ap program_of session.0.0.0)
      (subst (λ k. IsReasonToStop (program b) k (state a) reason × IsAskedByRules (program b) k (state a) reason) session.0.1
      (subst (λ s. IsReasonToStop (program b) b.settings s reason × IsAskedByRules (program b) b.settings s reason) log.1 h))

  stops : (b.stop ≡ a.stop) ⊎ StopsNow a b → (c.stop ≡ b.stop) ⊎ StopsNow b c → (c.stop ≡ a.stop) ⊎ StopsNow a c
  stops (inl e) (inl f) = inl (f ∙ e)
  stops (inl e) (inr (reason, so, asked, f)) =
      let h = there reason (so, asked) in
      inr (reason, h.0, h.1, f ∙ ap (λ o. first_reason o reason) e)
  stops (inr (reason, so, asked, e)) (inl f) = inr (reason, so, asked, f ∙ e)
  stops (inr (reason, so, asked, e)) (inr (other, so_other, asked_other, f)) =
      inr (reason, so, asked, f ∙ ap (λ o. first_reason o other) e ∙ first_stays a.stop reason other)

pub handed_twice : (a b c : BoardView) → HandsIn a b → HandsIn b c → HandsIn a c
handed_twice a b c x y = record {
  session = one_session a b c x.session y.session;
  log = (y.log.0 ∙ x.log.0, y.log.1 ∙ x.log.1, y.log.2 ∙ x.log.2);
  done = λ job undone. x.done job (y.done job undone);
  stop = stops a b c x.session x.log x.stop y.stop;
}

-- jobs that are asked choose values
pub asked_values : (v : BoardView) (limit : ℕ) (job : Job) (others : List Job) → AreAsked v limit (job ∷ others) →
    Each (IsOfValues (program v)) others
asked_values v limit job others h = (each_implied (IsAsked v) (IsOfValues (program v)) (job ∷ others) (λ j a. a.values) h.each).1
