-- Where nothing comes next, whatever the behaviour may do.
use Rattle.std.proofs.Common.{◌≡◌, ◌↔◌, List, [], refl, sym, ap, ◌∙◌, inl, Option, Some, None, is_some, Bool, true, false, not, IsTrue}
use Rattle.std.proofs.lemmas.Bool.{false_from_ne_true}
use Rattle.run_settings.specs.declared.settings.Settings.{Settings}
use Rattle.spec_core.specs.Code.{Program}
use Rattle.rule_model.specs.Derivations.{Derivation}
use Rattle.rule_model.specs.Legal.{AllWait}
use Rattle.rule_model.specs.States.{PendingOffer, State}
use Rattle.symbolic_rules.specs.Windows.{Windows}
use Rattle.decision_trees.specs.Lazy.{first}
use Rattle.decision_trees.specs.Rules.{Next, any, any_beyond, nothing, if_there, next_of}
use Rattle.candidate_laws.specs.Asked.{TreeQuery}
use Rattle.candidate_laws.specs.TreeLaws.{lists_of}
use Rattle.board_laws.specs.declared.stop_reason.StopReason.{StopReason}
use Rattle.board_laws.specs.Next.{AreSessionWindows, GoesByRules, IsNextOf}
use Rattle.board_laws.specs.Reasons.{LooksForTrees}
use Rattle.board_offers.specs.Waiting.{by_client, only_asks, waiting_in}
use Rattle.board_offers.proofs.AllWait.{all_wait_is_decided}
use Rattle.board_core.specs.Boards.{IsBoard}
use Rattle.board_core.specs.Awaiting.{AwaitsClients}
use Rattle.board_core.specs.Settled.{IsQuiet, quiet_nothing, quiet_stopped}
use Rattle.board_core.specs.Views.{BoardView, program, state, windows}
use Rattle.board_core.proofs.Tables.{table_of_session}

abbrev by_trees : (o p : Option Derivation) → Next PendingOffer Derivation
by_trees o p = if_there o (λ a. nothing) (if_there p (λ a. nothing) nothing)

always_nothing : (o p : Option Derivation) → nothing ≡ by_trees o p
always_nothing (Some a) p = refl
always_nothing None (Some b) = refl
always_nothing None None = refl

-- where nothing is pending, and not all wait, nothing comes next
nothing_waits : (lists : TreeQuery → List Derivation) (by : List PendingOffer) →
    nothing ≡ next_of lists (record { pending = []; asks = []; by_client = by; all_wait = false })
nothing_waits lists by = always_nothing (first (lists any)) (first (lists any_beyond))

-- whether a session waits for its clients
pub awaits_by : (s : State) (b : Bool) → s.pending ≡ [] → (IsTrue b ↔ AllWait s) →
    (IsTrue (not b) → AwaitsClients s) × (AwaitsClients s → IsTrue (not b))
awaits_by s true none waits = (λ h. let no : ⊥ = cc in absurd no, λ i. absurd (i.some (waits.0 refl)))
awaits_by s false none waits = (λ h. record { none = none; some = λ all. let e = waits.1 all in let no : ⊥ = cc in no }, λ i. refl)

-- what a session that waits for its clients asks
asked_awaiting : (s : State) → AwaitsClients s →
    waiting_in s ≡ record { pending = []; asks = []; by_client = by_client s.pending; all_wait = false }
asked_awaiting s awaits =
    let waits = false_from_ne_true (waiting_in s).all_wait (λ h. awaits.some ((all_wait_is_decided s).0 h)) in
    ap (λ (ps : List PendingOffer). record {
      pending = ps;
      asks = only_asks (by_client ps);
      by_client = by_client s.pending;
      all_wait = (waiting_in s).all_wait;
    }) awaits.none
    ∙ ap (λ (b : Bool). record { pending = []; asks = []; by_client = by_client s.pending; all_wait = b }) waits

pub next_awaiting : (program : Program) (settings : Settings) (w : Windows) (s : State) → AreSessionWindows program settings w →
    AwaitsClients s → IsNextOf program settings s nothing
next_awaiting program settings w s of_session awaits = record {
  windows = w;
  of_session = of_session;
  next = λ e is_asked exact tests.
      nothing_waits (lists_of program e w s.behaviour is_asked) (by_client s.pending)
      ∙ ap (next_of (lists_of program e w s.behaviour is_asked)) (sym (asked_awaiting s awaits));
}

-- a session that goes on by its rules, and doesn't wait for its clients, looks for trees
pub looks_by : (s : State) (b : Bool) → GoesByRules s → (IsTrue b ↔ AwaitsClients s) → IsTrue (not b) → LooksForTrees s
looks_by s true goes waits h = let no : ⊥ = cc in absurd no
looks_by s false goes waits h = record {
  goes = goes;
  busy = λ none some. let e : IsTrue false = waits.1 (record { none = none; some = some }) in let no : ⊥ = cc in no;
}

-- the session has stopped, and no offer is pending
pub quiet_by_reason : (v : BoardView) → is_some v.stop ≡ true → (state v).pending ≡ [] → IsQuiet v v
quiet_by_reason v some none = by_stop v.stop refl some
  where
    by_stop : (o : Option StopReason) → v.stop ≡ o → is_some o ≡ true → IsQuiet v v
    by_stop None e f = absurd (let never : ⊥ = cc in never)
    by_stop (Some reason) e f = record { log = (refl, refl, refl); nodes = (refl, refl, refl); out = refl; why = quiet_stopped reason e e none }

module _ (v : BoardView) (running : v.stop ≡ None) (rules : GoesByRules (state v)) where
  -- the session waits for its clients
  pub quiet_by_clients : IsBoard v → AwaitsClients (state v) → IsQuiet v v
  quiet_by_clients is awaits = record {
    log = (refl, refl, refl);
    nodes = (refl, refl, refl);
    out = refl;
    why =
        quiet_nothing running running rules
        (next_awaiting (program v) v.settings (windows v) (state v)
        (table_of_session (program v) v.settings v.windows is.0.rows_are is.0.all_sorts) awaits)
        (inl awaits);
  }
