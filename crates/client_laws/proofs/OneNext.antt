-- One thing comes next in a state, and it leads to one state.
use Rattle.std.proofs.Common.{ℕ, ◌≡◌, ◌∙◌, ◌≤◌, sym, ap, subst, arith, List, [], ◌∷◌, map, Option, Some, None}
use Rattle.std.proofs.lemmas.Option.{same_Some}
use Rattle.run_settings.specs.declared.settings.Settings.{Settings}
use Rattle.spec_core.specs.Code.{Program}
use Rattle.spec_core.specs.Ready.{IsReady}
use Rattle.rule_laws.proofs.Determined.{trees_determine_steps}
use Rattle.rule_model.specs.declared.action.Action.{Action}
use Rattle.rule_model.specs.Answering.{name_of}
use Rattle.rule_model.specs.Answers.{Answer, deadlock, beyond, not_now, ended}
use Rattle.rule_model.specs.Behaviours.{Behaviour}
use Rattle.rule_model.specs.Derivations.{Derivation}
use Rattle.rule_model.specs.Derives.{Derives}
use Rattle.rule_model.specs.Events.{OfferName, Event, pended, acted, replied, stalled, left}
use Rattle.rule_model.specs.Legal.{IsPossible}
use Rattle.rule_model.specs.States.{PendingOffer, State, after_action}
use Rattle.spec_core.specs.Terms.{variable}
use Rattle.decision_trees.specs.Rules.{Next, takes, deadlocks, is_beyond, is_not_now, goes_on, stalls, nothing, next_of}
use Rattle.candidate_laws.specs.Asked.{TestsAsked}
use Rattle.candidate_laws.specs.TreeLaws.{lists_of}
use Rattle.candidate_laws.proofs.Testing.{asked_can_be_tested}
use Rattle.symbolic_composites.proofs.Answers.{exact_answers_exist}
use Rattle.board_offers.specs.Waiting.{by_client, waiting_in}
use Rattle.board_laws.specs.Next.{GoesByRules, IsLeast, IsNextOf, IsEventOf, IsNextEvent, next_ended, next_by_rules, IsAct, IsAtLimit}
use Rattle.board_laws.specs.Next.{IsStopReply}
use Rattle.board_laws.specs.declared.stop_reason.StopReason.{StopReason}
use Rattle.board_laws.specs.Stopping.{answer_by}
use Rattle.client_laws.proofs.OneWindow.{one_windows}

-- one offer is the least, and where one is, some offer is pending

pub one_least : (s : State) (p q : PendingOffer) → IsLeast s p → IsLeast s q → p ≡ q
one_least s p q (ps, e) (qs, f) = let same : p ∷ ps ≡ q ∷ qs = sym e ∙ f in cc

pub some_least : (s : State) (p : PendingOffer) → IsLeast s p → s.pending ≡ [] → ⊥
some_least s p (ps, e) none = let same : [] ≡ p ∷ ps = sym (ap by_client none) ∙ e in cc

module _ (program : Program) (settings : Settings) (ready : IsReady program) where
  -- by one tree one action is done, and one behaviour is reached
  one_step : (b : Behaviour) (d : Derivation) (a x : Action) (c y : Behaviour) → Derives program b d a c → Derives program b d x y →
      (a ≡ x) × (c ≡ y)
  one_step b d a x c y h k = trees_determine_steps program ready.executable variable b d a x c y h k

  -- one entry comes next
  pub one_entry : (s : State) (entry other : Next PendingOffer Derivation) → IsNextOf program settings s entry →
      IsNextOf program settings s other → entry ≡ other
  one_entry s entry other h k =
      let answers = exact_answers_exist program ready in
      let test = asked_can_be_tested program answers.0 h.windows answers.1 s.behaviour in
      let same = one_windows program settings h.windows k.windows h.of_session k.of_session in
      let tests = subst (λ w. TestsAsked program w s.behaviour test.0) same test.1 in
      h.next answers.0 test.0 answers.1 test.1
      ∙ ap (λ w. next_of (lists_of program answers.0 w s.behaviour test.0) (waiting_in s)) same
      ∙ sym (k.next answers.0 test.0 answers.1 tests)

  -- an entry leads to one state
  pub one_state : (s : State) (event : Event) (t u : State) → IsPossible program s event t → IsPossible program s event u → t ≡ u
  one_state s (pended client number offer ask) t u h k = h.4 ∙ sym k.4
  one_state s (acted action d by) t u h k =
      let same = one_step s.behaviour d action action h.0 k.0 h.1 k.1 in
      h.3 ∙ ap (λ rest. after_action s action by rest) same.1 ∙ sym k.3
  one_state s (replied client number answer) t u h k = h.2 ∙ sym k.2
  one_state s (stalled names) t u h k = h.2 ∙ sym k.2
  one_state s (left client) t u h k = h.2 ∙ sym k.2

  -- an action by one tree is one
  same_act : (s t u : State) (d : Derivation) (by : Option OfferName) (a x : Action) (event other : Event) → event ≡ acted a d by →
      other ≡ acted x d by → IsPossible program s event t → IsPossible program s other u → event ≡ other
  same_act s t u d by a x event other e f h k =
      let p = subst (λ z. IsPossible program s z t) e h in
      let q = subst (λ z. IsPossible program s z u) f k in
      let same = one_step s.behaviour d a x p.0 q.0 p.1 q.1 in
      e ∙ ap (λ z. acted z d by) same.0 ∙ sym f

  -- an entry has one event
  event_of_one : (s t u : State) (entry : Next PendingOffer Derivation) (event other : Event) → IsEventOf program settings s entry event →
      IsEventOf program settings s entry other → IsPossible program s event t → IsPossible program s other u → event ≡ other
  event_of_one s t u (takes p d) event other (few, a, e) (many, x, f) h k = same_act s t u d (Some (name_of p)) a x event other e f h k
  event_of_one s t u deadlocks event other (p, l, e) (q, m, f) h k =
      e ∙ ap (λ z. replied z.client z.number (deadlock s.actions)) (one_least s p q l m) ∙ sym f
  event_of_one s t u (is_beyond p d) event other e f h k = e ∙ sym f
  event_of_one s t u (is_not_now p) event other e f h k = e ∙ sym f
  event_of_one s t u (goes_on trees) event other (few, d, at, a, e) (many, c, at2, x, f) h k =
      let same : c ≡ d = same_Some c d (sym at2 ∙ at) in
      same_act s t u d None a x event other e (f ∙ ap (λ z. acted x z None) same) h k
  event_of_one s t u stalls event other e f h k = e ∙ sym f
  event_of_one s t u nothing event other e f h k = absurd e

  -- one event comes next
  pub one_next_event : (s t u : State) (event other : Event) → IsNextEvent program settings s event → IsNextEvent program settings s other →
      IsPossible program s event t → IsPossible program s other u → event ≡ other
  one_next_event s t u event other (next_ended p done l e) (next_ended q over m f) h k =
      e ∙ ap (λ z. replied z.client z.number (ended s.actions)) (one_least s p q l m) ∙ sym f
  one_next_event s t u event other (next_ended p done l e) (next_by_rules entry goes next of_it) h k = absurd (some_least s p l (goes done))
  one_next_event s t u event other (next_by_rules entry goes next of_it) (next_ended p done l e) h k = absurd (some_least s p l (goes done))
  one_next_event s t u event other (next_by_rules entry goes next of_it) (next_by_rules entry2 goes2 next2 of_other) h k =
      event_of_one s t u entry event other of_it
      (subst (λ z. IsEventOf program settings s z other) (one_entry s entry2 entry next2 next) of_other) h k

  -- where nothing comes next by the rules, no event does, and no action would
  pub nothing_is_no_event : (s : State) (event : Event) → GoesByRules s → IsNextOf program settings s nothing →
      IsNextEvent program settings s event → ⊥
  nothing_is_no_event s event goes next (next_ended p done l e) = some_least s p l (goes done)
  nothing_is_no_event s event goes next (next_by_rules entry goes2 other of_it) =
      subst (λ z. IsEventOf program settings s z event) (one_entry s entry nothing other next) of_it

  pub nothing_is_no_act : (s : State) → IsNextOf program settings s nothing → IsAtLimit program settings s → ⊥
  nothing_is_no_act s next limit = subst (IsAct program settings) (one_entry s limit.entry nothing limit.next next) limit.act

  -- at the limit no event comes next
  limit_is_no_event : (s : State) (event : Event) (entry : Next PendingOffer Derivation) → IsAct program settings entry →
      settings.steps ≤ s.actions → IsEventOf program settings s entry event → ⊥
  limit_is_no_event s event (takes p d) act limit h = let few = h.0 in omega (arith, limit, few)
  limit_is_no_event s event (goes_on trees) act limit h = let few = h.0 in omega (arith, limit, few)
  limit_is_no_event s event deadlocks act limit h = act
  limit_is_no_event s event (is_beyond p d) act limit h = act
  limit_is_no_event s event (is_not_now p) act limit h = act
  limit_is_no_event s event stalls act limit h = act
  limit_is_no_event s event nothing act limit h = act

  pub at_limit_no_event : (s : State) (event : Event) → IsAtLimit program settings s → IsNextEvent program settings s event → ⊥
  at_limit_no_event s event limit (next_ended p done l e) = some_least s p l (limit.by_rules done)
  at_limit_no_event s event limit (next_by_rules entry goes next of_it) =
      limit_is_no_event s event limit.entry limit.act limit.limit
      (subst (λ z. IsEventOf program settings s z event) (one_entry s entry limit.entry next limit.next) of_it)

  -- who is open stays so, but for a client that leaves

  replies_keep : (s t : State) (client number : ℕ) (answer : Answer) (event : Event) → event ≡ replied client number answer →
      IsPossible program s event t → t.open_clients ≡ s.open_clients
  replies_keep s t client number answer event e h = let p = subst (λ z. IsPossible program s z t) e h in ap (λ z. z.open_clients) p.2

  acts_keep : (s t : State) (a : Action) (d : Derivation) (by : Option OfferName) (event : Event) → event ≡ acted a d by →
      IsPossible program s event t → t.open_clients ≡ s.open_clients
  acts_keep s t a d by event e h = let p = subst (λ z. IsPossible program s z t) e h in ap (λ z. z.open_clients) p.3

  stalls_keep : (s t : State) (names : List OfferName) (event : Event) → event ≡ stalled names → IsPossible program s event t →
      t.open_clients ≡ s.open_clients
  stalls_keep s t names event e h = let p = subst (λ z. IsPossible program s z t) e h in ap (λ z. z.open_clients) p.2

  entries_keep : (s t : State) (entry : Next PendingOffer Derivation) (event : Event) → IsEventOf program settings s entry event →
      IsPossible program s event t → t.open_clients ≡ s.open_clients
  entries_keep s t (takes p d) event (few, a, e) h = acts_keep s t a d (Some (name_of p)) event e h
  entries_keep s t deadlocks event (p, l, e) h = replies_keep s t p.client p.number (deadlock s.actions) event e h
  entries_keep s t (is_beyond p d) event e h = replies_keep s t p.client p.number (beyond s.actions d) event e h
  entries_keep s t (is_not_now p) event e h = replies_keep s t p.client p.number (not_now s.actions) event e h
  entries_keep s t (goes_on trees) event (few, d, at, a, e) h = acts_keep s t a d None event e h
  entries_keep s t stalls event e h = stalls_keep s t (map name_of (by_client s.pending)) event e h
  entries_keep s t nothing event e h = absurd e

  pub next_keeps : (s t : State) (event : Event) → IsNextEvent program settings s event → IsPossible program s event t →
      t.open_clients ≡ s.open_clients
  next_keeps s t event (next_ended p done l e) h = replies_keep s t p.client p.number (ended s.actions) event e h
  next_keeps s t event (next_by_rules entry goes next of_it) h = entries_keep s t entry event of_it h

  pub stop_keeps : (s t : State) (reason : StopReason) (event : Event) → IsStopReply s reason event → IsPossible program s event t →
      t.open_clients ≡ s.open_clients
  stop_keeps s t reason event (p, l, e) h = replies_keep s t p.client p.number (answer_by s.actions reason) event e h

  pub one_stop_reply : (s : State) (reason : StopReason) (event other : Event) → IsStopReply s reason event → IsStopReply s reason other →
      event ≡ other
  one_stop_reply s reason event other (p, l, e) (q, m, f) =
      e ∙ ap (λ z. replied z.client z.number (answer_by s.actions reason)) (one_least s p q l m) ∙ sym f
