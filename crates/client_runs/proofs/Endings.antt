-- How sessions end.
use Rattle.std.proofs.Common.{◌≡◌, inl, inr, List, [], refl, sym, subst, Option, Some, None, Bool}
use Rattle.rule_model.specs.declared.action.Action.{Action}
use Rattle.rule_model.specs.declared.action.Action.TheVariants.{Inner, Exit, At}
use Rattle.rule_model.specs.Derivations.{Derivation}
use Rattle.rule_model.specs.Events.{Ending, exits, deadlocked, waiting, ends_beyond}
use Rattle.rule_model.specs.States.{PendingOffer}
use Rattle.rule_model.specs.Actions.{Kind}
use Rattle.symbolic_rules.specs.Laws.{NoTree}
use Rattle.symbolic_rules.specs.Trees.{IsWindowed, IsBeyond}
use Rattle.decision_trees.specs.Known.{where_known}
use Rattle.decision_trees.specs.Rules.{Next, Query, Waiting, any, any_beyond, if_there, nothing}
use Rattle.decision_order.specs.Rules.{asked_decided, dead_decided, next_decided}
use Rattle.node_trees.specs.Shapes.{stands_for}
use Rattle.board_laws.specs.NeededLaws.{FirstTreesSay}
use Rattle.board_laws.specs.declared.stop_reason.StopReason.{StopReason}
use Rattle.board_laws.specs.Next.{AreSessionWindows, HasEnded}
use Rattle.board_laws.specs.Stopping.{ending_by}
use Rattle.board_offers.specs.Waiting.{waiting_in}
use Rattle.client_laws.specs.Ends.{IsEndingOf, IsEndOfTrees, ends_by_reason, ends_by_exit, ends_by_trees}
use Rattle.board_core.specs.Ends.{end_after, end_found, end_unless, ending_at}
use Rattle.board_core.specs.Views.{BoardView, program, state, tree, windows, pieces, decided_at, first_at, all_at}

-- where the rules decide that nothing comes next, and no offer is pending, it is known how the session ends
module _ (find : Query PendingOffer → Option (Option Derivation)) (all : Query PendingOffer → Option (List Derivation))
    (asks by : List PendingOffer) (waits : Bool) where
  abbrev none_waits : Waiting PendingOffer
  none_waits = record { pending = []; asks = asks; by_client = by; all_wait = waits }

  abbrev by_marked : Option Derivation → Option (Next PendingOffer Derivation)
  by_marked r = if_there r (λ a. asked_decided find all none_waits asks) (dead_decided find all none_waits)

  abbrev by_any : Option (Option Derivation) → Option Derivation → Option (Next PendingOffer Derivation)
  by_any b r = if_there r (λ a. asked_decided find all none_waits asks) (where_known b by_marked)

  found_by : (a b : Option (Option Derivation)) → where_known a (by_any b) ≡ Some nothing → end_found a b ≡ None → ⊥
  found_by None b e f = cc
  found_by (Some None) None e f = cc
  found_by (Some None) (Some None) e f = cc
  found_by (Some None) (Some (Some d)) e f = cc
  found_by (Some (Some d)) b e f = cc

  end_is_found : next_decided find all none_waits ≡ Some nothing → end_found (find any) (find any_beyond) ≡ None → ⊥
  end_is_found e = found_by (find any) (find any_beyond) e

module _ (v : BoardView) where
  no_end : (o : Option StopReason) (l : Option Action) (found : Option Ending) → end_unless o (end_after l found) ≡ None → (o ≡ None) × (found ≡ None)
  no_end None None found e = (refl, e)
  no_end None (Some Inner) found e = (refl, e)
  no_end None (Some (At gate values)) found e = (refl, e)
  no_end None (Some (Exit values)) found e = absurd (let never : ⊥ = cc in never)
  no_end (Some reason) l found e = absurd (let never : ⊥ = cc in never)

  -- where what is known decides that nothing comes next, the end is known
  pub end_is_known : (state v).pending ≡ [] → (v.stop ≡ None → decided_at v ≡ Some nothing) → ending_at v ≡ None → ⊥
  end_is_known none decided e =
      let no = no_end v.stop (state v).last (end_found (first_at v any) (first_at v any_beyond)) e in
      let w = waiting_in (state v) in
      end_is_found (first_at v) (all_at v) w.asks w.by_client w.all_wait
      (subst (λ ps. next_decided (first_at v) (all_at v) (record { pending = ps; asks = w.asks; by_client = w.by_client; all_wait = w.all_wait })
      ≡ Some nothing) none (decided no.0))
      no.1

  module _ (say : FirstTreesSay (program v) (windows v) (tree v) (pieces v))
      (of_session : AreSessionWindows (program v) v.settings (windows v))
      (reached : (state v).behaviour ≡ stands_for (program v) (tree v)) where
    no_tree : first_at v any ≡ Some None → first_at v any_beyond ≡ Some None → (k : Kind) →
        NoTree (program v) (windows v) (stands_for (program v) (tree v)) None k
    no_tree e f k d (inl is) = say.no_windowed e d k is
    no_tree e f k d (inr is) = say.no_beyond f d k is

    by_trees : (a b : Option (Option Derivation)) → first_at v any ≡ a → first_at v any_beyond ≡ b → (ending : Ending) →
        end_found a b ≡ Some ending → IsEndOfTrees (program v) v.settings (state v) ending
    by_trees None b e f ending h = absurd (let never : ⊥ = cc in never)
    by_trees (Some None) None e f ending h = absurd (let never : ⊥ = cc in never)
    by_trees (Some None) (Some None) e f ending h =
        let same : deadlocked ≡ ending = cc in
        subst (IsEndOfTrees (program v) v.settings (state v)) same (record {
          windows = windows v;
          of_session = of_session;
          none = subst (λ b. (k : Kind) → NoTree (program v) (windows v) b None k) (sym reached) (no_tree e f);
        })
    by_trees (Some None) (Some (Some d)) e f ending h =
        let same : ends_beyond ≡ ending = cc in
        let marked = say.is_beyond d f in
        subst (IsEndOfTrees (program v) v.settings (state v)) same (record {
          windows = windows v;
          of_session = of_session;
          none = λ t k is. say.no_windowed e t k (subst (λ b. IsWindowed (program v) (windows v) b None t k) reached is);
          tree = d;
          kind = marked.0;
          marked = subst (λ b. IsBeyond (program v) (windows v) b None d marked.0) (sym reached) marked.1;
        })
    by_trees (Some (Some d)) b e f ending h =
        let same : waiting ≡ ending = cc in
        let windowed = say.is_windowed d e in
        subst (IsEndOfTrees (program v) v.settings (state v)) same (record {
          windows = windows v;
          of_session = of_session;
          tree = d;
          kind = windowed.0;
          windowed = subst (λ b. IsWindowed (program v) (windows v) b None d windowed.0) (sym reached) windowed.1;
        })

    abbrev Ends : Ending → Type 0
    Ends ending = IsEndingOf (program v) v.settings (state v) v.stop ending

    by_last : v.stop ≡ None → (l : Option Action) → (state v).last ≡ l → (ending : Ending) →
        end_after l (end_found (first_at v any) (first_at v any_beyond)) ≡ Some ending → Ends ending
    by_last e None f ending h =
        ends_by_trees e (λ ended. subst HasEnded f ended) (by_trees (first_at v any) (first_at v any_beyond) refl refl ending h)
    by_last e (Some Inner) f ending h =
        ends_by_trees e (λ ended. subst HasEnded f ended) (by_trees (first_at v any) (first_at v any_beyond) refl refl ending h)
    by_last e (Some (At gate values)) f ending h =
        ends_by_trees e (λ ended. subst HasEnded f ended) (by_trees (first_at v any) (first_at v any_beyond) refl refl ending h)
    by_last e (Some (Exit values)) f ending h = ends_by_exit e (subst HasEnded (sym f) tt) (let same : exits ≡ ending = cc in sym same)

    by_stop : (o : Option StopReason) → v.stop ≡ o → (ending : Ending) →
        end_unless o (end_after (state v).last (end_found (first_at v any) (first_at v any_beyond))) ≡ Some ending → Ends ending
    by_stop None e ending h = by_last e (state v).last refl ending h
    by_stop (Some reason) e ending h = ends_by_reason reason e (let same : ending_by reason ≡ ending = cc in sym same)

    -- an end that is known is that of the session
    pub end_is_so : (ending : Ending) → ending_at v ≡ Some ending → Ends ending
    end_is_so ending h = by_stop v.stop refl ending h
