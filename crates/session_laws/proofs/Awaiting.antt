-- Where nothing comes while one open client has no offer pending.
use Rattle.std.proofs.Common.{ℕ, ◌≡◌, ◌∙◌, refl, sym, ap, List, [], Option, Some, None, Contains, Bool, false}
use Rattle.run_settings.specs.declared.settings.Settings.{Settings}
use Rattle.spec_core.specs.Code.{Program}
use Rattle.rule_model.specs.Derivations.{Derivation}
use Rattle.rule_model.specs.Legal.{IsIdle}
use Rattle.rule_model.specs.States.{PendingOffer, State}
use Rattle.symbolic_rules.specs.Windows.{Windows}
use Rattle.decision_trees.specs.Lazy.{first}
use Rattle.decision_trees.specs.Rules.{Next, any, any_beyond, nothing, if_there, next_of}
use Rattle.candidate_laws.specs.Asked.{TreeQuery}
use Rattle.candidate_laws.specs.TreeLaws.{lists_of}
use Rattle.board_laws.specs.Next.{AreSessionWindows, IsNextOf}
use Rattle.log_states.proofs.Tests.{by_cases}
use Rattle.board_offers.specs.Waiting.{by_client, only_asks, waiting_in}
use Rattle.board_offers.proofs.AllWait.{all_wait_is_decided}

always_nothing : (o p : Option Derivation) →
    ◌≡◌ {A = Next PendingOffer Derivation} nothing (if_there o (λ a. nothing) (if_there p (λ a. nothing) nothing))
always_nothing (Some a) p = refl
always_nothing None (Some b) = refl
always_nothing None None = refl

-- where nothing is pending, and not all wait, nothing comes next
nothing_waits : (lists : TreeQuery → List Derivation) (by : List PendingOffer) →
    nothing ≡ next_of lists (record { pending = []; asks = []; by_client = by; all_wait = false })
nothing_waits lists by = always_nothing (first (lists any)) (first (lists any_beyond))

module _ (s : State) (none : s.pending ≡ []) (client : ℕ) (is_open : Contains s.open_clients client) (idle : IsIdle s client) where
  not_all_wait : (waiting_in s).all_wait ≡ false
  not_all_wait = by_cases (waiting_in s).all_wait
      (λ e. let w = ((all_wait_is_decided s).0 e client is_open).1 in absurd (idle w.waits w.among w.client)) (λ e. e)

  asked : waiting_in s ≡ record { pending = []; asks = []; by_client = by_client s.pending; all_wait = false }
  asked =
      ap (λ (ps : List PendingOffer). record {
        pending = ps;
        asks = only_asks (by_client ps);
        by_client = by_client s.pending;
        all_wait = (waiting_in s).all_wait;
      }) none
      ∙ ap (λ (b : Bool). record { pending = []; asks = []; by_client = by_client s.pending; all_wait = b }) not_all_wait

  pub nothing_next : (program : Program) (settings : Settings) (w : Windows) → AreSessionWindows program settings w →
      IsNextOf program settings s nothing
  nothing_next program settings w of_session = record {
    windows = w;
    of_session = of_session;
    next = λ e is_asked exact tests.
        nothing_waits (lists_of program e w s.behaviour is_asked) (by_client s.pending)
        ∙ ap (next_of (lists_of program e w s.behaviour is_asked)) (sym asked);
  }
