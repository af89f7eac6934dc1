-- A session has one end.
use Rattle.std.proofs.Common.{◌≡◌, ◌∙◌, refl, sym, ap, subst, inl, inr, Option, Some, None}
use Rattle.run_settings.specs.declared.settings.Settings.{Settings}
use Rattle.spec_core.specs.Code.{Program}
use Rattle.rule_model.specs.Events.{Ending, exits, deadlocked, waiting, ends_beyond, ends_spent, ends_too_large, ends_at_limit}
use Rattle.rule_model.specs.States.{State}
use Rattle.symbolic_rules.specs.Trees.{IsWindowed, IsBeyond}
use Rattle.board_laws.specs.declared.stop_reason.StopReason.{StopReason}
use Rattle.board_laws.specs.Stopping.{ending_by}
use Rattle.client_laws.specs.Ends.{IsDeadEnd, IsWaitingEnd, IsBeyondEnd, IsEndOfTrees, IsEndingOf, ends_by_reason, ends_by_exit, ends_by_trees}
use Rattle.client_laws.specs.Laws.{TreesHaveOneEnd}
use Rattle.client_laws.proofs.OneWindow.{one_windows}

module _ (program : Program) (settings : Settings) (s : State) where
  dead_or_waiting : IsDeadEnd program settings s → IsWaitingEnd program settings s → ⊥
  dead_or_waiting h k =
      let same = one_windows program settings k.windows h.windows k.of_session h.of_session in
      h.none k.kind k.tree (inl (subst (λ w. IsWindowed program w s.behaviour None k.tree k.kind) same k.windowed))

  dead_or_beyond : IsDeadEnd program settings s → IsBeyondEnd program settings s → ⊥
  dead_or_beyond h k =
      let same = one_windows program settings k.windows h.windows k.of_session h.of_session in
      h.none k.kind k.tree (inr (subst (λ w. IsBeyond program w s.behaviour None k.tree k.kind) same k.marked))

  waiting_or_beyond : IsWaitingEnd program settings s → IsBeyondEnd program settings s → ⊥
  waiting_or_beyond h k =
      let same = one_windows program settings h.windows k.windows h.of_session k.of_session in
      k.none h.tree h.kind (subst (λ w. IsWindowed program w s.behaviour None h.tree h.kind) same h.windowed)

  one_of_trees : (ending other : Ending) → IsEndOfTrees program settings s ending → IsEndOfTrees program settings s other → ending ≡ other
  one_of_trees deadlocked deadlocked h k = refl
  one_of_trees waiting waiting h k = refl
  one_of_trees ends_beyond ends_beyond h k = refl
  one_of_trees deadlocked waiting h k = absurd (dead_or_waiting h k)
  one_of_trees deadlocked ends_beyond h k = absurd (dead_or_beyond h k)
  one_of_trees waiting deadlocked h k = absurd (dead_or_waiting k h)
  one_of_trees waiting ends_beyond h k = absurd (waiting_or_beyond h k)
  one_of_trees ends_beyond deadlocked h k = absurd (dead_or_beyond k h)
  one_of_trees ends_beyond waiting h k = absurd (waiting_or_beyond k h)
  one_of_trees exits other h k = absurd h
  one_of_trees (ends_spent term) other h k = absurd h
  one_of_trees (ends_too_large term) other h k = absurd h
  one_of_trees (ends_at_limit kind) other h k = absurd h
  one_of_trees ending exits h k = absurd k
  one_of_trees ending (ends_spent term) h k = absurd k
  one_of_trees ending (ends_too_large term) h k = absurd k
  one_of_trees ending (ends_at_limit kind) h k = absurd k

  differ : (o : Option StopReason) (reason : StopReason) → o ≡ None → o ≡ Some reason → ⊥
  differ o reason e f = cc

  pub one_ending : (stop : Option StopReason) (ending other : Ending) → IsEndingOf program settings s stop ending →
      IsEndingOf program settings s stop other → ending ≡ other
  one_ending stop ending other (ends_by_reason reason e f) (ends_by_reason reason2 e2 f2) =
      let same : reason ≡ reason2 = let both : Some reason ≡ Some reason2 = sym e ∙ e2 in cc in
      f ∙ ap ending_by same ∙ sym f2
  one_ending stop ending other (ends_by_reason reason e f) (ends_by_exit e2 ended f2) = absurd (differ stop reason e2 e)
  one_ending stop ending other (ends_by_reason reason e f) (ends_by_trees e2 on trees) = absurd (differ stop reason e2 e)
  one_ending stop ending other (ends_by_exit e ended f) (ends_by_reason reason e2 f2) = absurd (differ stop reason e e2)
  one_ending stop ending other (ends_by_exit e ended f) (ends_by_exit e2 ended2 f2) = f ∙ sym f2
  one_ending stop ending other (ends_by_exit e ended f) (ends_by_trees e2 on trees) = absurd (on ended)
  one_ending stop ending other (ends_by_trees e on trees) (ends_by_reason reason e2 f2) = absurd (differ stop reason e e2)
  one_ending stop ending other (ends_by_trees e on trees) (ends_by_exit e2 ended f2) = absurd (on ended)
  one_ending stop ending other (ends_by_trees e on trees) (ends_by_trees e2 on2 trees2) = one_of_trees ending other trees trees2

pub trees_have_one_end : TreesHaveOneEnd
trees_have_one_end program settings s ending other h k = one_of_trees program settings s ending other h k
