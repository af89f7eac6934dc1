-- What the ends of sessions say.
use Rattle.std.proofs.Common.{sym, subst, None}
use Rattle.run_settings.specs.declared.settings.Settings.{Settings}
use Rattle.spec_core.specs.Code.{Program}
use Rattle.spec_core.specs.Ready.{IsReady}
use Rattle.rule_model.specs.Events.{Ending, exits, deadlocked, waiting, ends_beyond, ends_spent, ends_too_large, ends_at_limit}
use Rattle.rule_model.specs.States.{State}
use Rattle.symbolic_rules.proofs.Acting.{windowed_trees_act}
use Rattle.symbolic_rules.proofs.Nothing.{no_tree_no_step}
use Rattle.board_laws.specs.declared.stop_reason.StopReason.{StopReason}
use Rattle.board_laws.specs.declared.stop_reason.StopReason.TheVariants.{Spent, TooLarge, Limit}
use Rattle.board_laws.specs.Stopping.{ending_by}
use Rattle.client_laws.specs.Ends.{IsEndOfTrees, ends_by_reason, ends_by_exit, ends_by_trees}
use Rattle.client_laws.specs.Laws.{SaysOfSteps, EndsSayWhatIsSo}

module _ (program : Program) (settings : Settings) (ready : IsReady program) (s : State) where
  by_reason : (reason : StopReason) → SaysOfSteps program s.behaviour (ending_by reason)
  by_reason (Spent term) = tt
  by_reason (TooLarge term) = tt
  by_reason (Limit kind) = tt

  by_trees : (ending : Ending) → IsEndOfTrees program settings s ending → SaysOfSteps program s.behaviour ending
  by_trees deadlocked h =
      no_tree_no_step program settings.values h.windows ready.executable h.of_session.sized s.behaviour h.none
  by_trees waiting h =
      let acts = windowed_trees_act program h.windows ready.executable.fits s.behaviour None h.tree h.kind h.windowed in
      record { tree = h.tree; action = acts.0; rest = acts.1; derives = acts.2 }
  by_trees ends_beyond h = tt
  by_trees exits h = absurd h
  by_trees (ends_spent term) h = absurd h
  by_trees (ends_too_large term) h = absurd h
  by_trees (ends_at_limit kind) h = absurd h

pub ends_say_what_is_so : EndsSayWhatIsSo
ends_say_what_is_so program settings s stop ending ready (ends_by_reason reason e f) =
    subst (SaysOfSteps program s.behaviour) (sym f) (by_reason program settings ready s reason)
ends_say_what_is_so program settings s stop ending ready (ends_by_exit e ended f) = subst (SaysOfSteps program s.behaviour) (sym f) tt
ends_say_what_is_so program settings s stop ending ready (ends_by_trees e on trees) = by_trees program settings ready s ending trees
