-- What each entry makes of a state.
use Rattle.std.proofs.Common.{ℕ, ◌+◌, ◌≡◌, ◌∙◌, sym, ap, List, [], ◌∷◌, ◌++◌, map, Contains, Bool, true, false, nat_eq, ◌&&◌, if◌then◌else◌, Option, None, Some}
use Rattle.std.proofs.lemmas.Bool.{eqb-true, and_from, and_parts}
use Rattle.rule_model.specs.declared.action.Action.{Action}
use Rattle.rule_model.specs.declared.offer.Offer.{Offer}
use Rattle.rule_model.specs.Behaviours.{Behaviour}
use Rattle.rule_model.specs.Events.{OfferName}
use Rattle.rule_model.specs.Legal.{AllWait, IsPending, IsPendingAnd, NamesAll}
use Rattle.rule_model.specs.States.{PendingOffer, State, start_state, without_taken, after_offer, after_action, after_leave}
use Rattle.log_states.specs.declared.clients.Client.{Client}
use Rattle.log_states.specs.Clients.{open_among, is_open_among, made_by, closed, having_made, new_client, numbers_from}
use Rattle.log_states.specs.Pending.{WaitsAnd, all_wait_among, waits_among, is_idle_among, names_all, names_only, is_ascending}
use Rattle.log_states.specs.declared.state.SessionState.{SessionState}
use Rattle.log_states.specs.Views.{pending_of, state_at}
use Rattle.log_states.specs.Possible.{HasPending, MayLeave}
use Rattle.log_states.proofs.OpenClients.{is_open, open_is, offers_open, has_made, others_made, closing_keeps_made, closing_leaves, new_open, new_made}
use Rattle.log_states.proofs.AllWaiting.{all_wait, wait_all}
use Rattle.log_states.proofs.Tests.{by_cases}
use Rattle.log_states.proofs.Waiting.{Any, waits_there, there_waits, waits_any, any_waits, waits_some, pending_and, and_pending, idle, is_idle, all_named, named_all, only_named, named_only, ascending, increasing_ascends}

module _ (b : Behaviour) (s : SessionState) where
  abbrev clients : List Client
  clients = s.clients.items

  abbrev waiting : List PendingOffer
  waiting = map pending_of s.pending.items

  pub may_leave : (client : ℕ) → is_open_among clients client ≡ true → is_idle_among waiting client ≡ true → MayLeave (state_at b s) client
  may_leave client h k = record { is_open = is_open clients client h; idle = idle waiting client k }

  pub leave_opens : (client : ℕ) → MayLeave (state_at b s) client → is_open_among clients client ≡ true
  leave_opens client h = open_is clients client h.is_open

  pub leave_idles : (client : ℕ) → MayLeave (state_at b s) client → is_idle_among waiting client ≡ true
  leave_idles client h = is_idle waiting client h.idle

  pub has_pending : (client : ℕ) → is_idle_among waiting client ≡ false → HasPending (state_at b s) client
  has_pending client h =
      let k = waits_some waiting client h in
      (k.0, pending_and Any (state_at b s) (client, k.0) k.1)

  pub each_waits : all_wait_among clients waiting ≡ true → AllWait (state_at b s)
  each_waits h client k =
      let w = all_wait clients waiting h client k in
      (w.0, pending_and Any (state_at b s) (client, w.0) w.1)

  pub waits_each : AllWait (state_at b s) → all_wait_among clients waiting ≡ true
  waits_each h = wait_all clients waiting (λ client k. let w = h client k in (w.0, and_pending Any (state_at b s) (client, w.0) w.1))

  pub is_pending : (client number : ℕ) → waits_among waiting client number ≡ true → IsPending (state_at b s) (client, number)
  is_pending client number h = pending_and Any (state_at b s) (client, number) (waits_there Any waiting client number (waits_any waiting client number h))

  pub pending_is : (client number : ℕ) → IsPending (state_at b s) (client, number) → waits_among waiting client number ≡ true
  pending_is client number h = any_waits waiting client number (there_waits Any waiting client number (and_pending Any (state_at b s) (client, number) h))

  pub are_named : (names : List OfferName) → is_ascending names ≡ true → names_all names waiting && names_only names waiting ≡ true → NamesAll (state_at b s) names
  are_named names a h =
      let k = and_parts (names_all names waiting) (names_only names waiting) h in
      record {
        ascending = ascending names a;
        all = all_named names waiting k.0;
        only = λ name there. pending_and Any (state_at b s) name (waits_there Any waiting name.0 name.1 (only_named names waiting k.1 name there));
      }

  pub named_ascend : (names : List OfferName) → NamesAll (state_at b s) names → is_ascending names ≡ true
  named_ascend names h = increasing_ascends names h.ascending

  pub named_just : (names : List OfferName) → NamesAll (state_at b s) names → names_all names waiting && names_only names waiting ≡ true
  named_just names h =
      and_from (names_all names waiting) (names_only names waiting) (named_all names waiting h.all)
      (named_only names waiting (λ name there. there_waits Any waiting name.0 name.1 (and_pending Any (state_at b s) name (h.only name there))))

  pub takes_pending : (P : Offer → Type 0) (client number : ℕ) → WaitsAnd P waiting client number → IsPendingAnd (state_at b s) (client, number) P
  takes_pending P client number h = pending_and P (state_at b s) (client, number) (waits_there P waiting client number h)

  pub pending_takes : (P : Offer → Type 0) (client number : ℕ) → IsPendingAnd (state_at b s) (client, number) P → WaitsAnd P waiting client number
  pending_takes P client number h = there_waits P waiting client number (and_pending P (state_at b s) (client, number) h)

  -- the state after an entry

  module _ (t : SessionState) where
    pub offered : (client number : ℕ) (offer : Offer) (ask : Bool) → Contains (state_at b s).open_clients client → number ≡ (state_at b s).made client + 1 →
        t.clients.items ≡ map (having_made client number) clients →
        map pending_of t.pending.items ≡ waiting ++ record { client = client; number = number; offer = offer; ask = ask } ∷ [] → t.actions ≡ s.actions → t.last ≡ s.last →
        state_at b t ≡ after_offer (state_at b s) client number offer ask
    offered client number offer ask h e new-clients new-pending same-actions same-last = λ i. record {
      behaviour = b;
      open_clients = (ap open_among new-clients ∙ offers_open client number clients) i;
      pending = new-pending i;
      made = λ other. (ap (λ cs. made_by cs other) new-clients ∙ made_is client number other h e) i;
      actions = same-actions i;
      last = same-last i;
    }
      where
        made_is : (client number other : ℕ) → Contains (state_at b s).open_clients client → number ≡ (state_at b s).made client + 1 →
            made_by (map (having_made client number) clients) other ≡ (if nat_eq other client then made_by clients client + 1 else made_by clients other)
        made_is client number other h e = by_cases (nat_eq other client)
            (λ f. ap (made_by (map (having_made client number) clients)) (eqb-true other client f) ∙ has_made client number clients (open_is clients client h) ∙ e
            ∙ sym (ap (λ z. if z then made_by clients client + 1 else made_by clients other) f))
            (λ f. others_made client number other clients f ∙ sym (ap (λ z. if z then made_by clients client + 1 else made_by clients other) f))

    pub has_left : (client : ℕ) → t.clients.items ≡ map (closed client) clients →
        map pending_of t.pending.items ≡ waiting → t.actions ≡ s.actions → t.last ≡ s.last →
        state_at b t ≡ after_leave (state_at b s) client
    has_left client new-clients same-pending same-actions same-last = λ i. record {
      behaviour = b;
      open_clients = (ap open_among new-clients ∙ closing_leaves client clients) i;
      pending = same-pending i;
      made = λ other. (ap (λ cs. made_by cs other) new-clients ∙ closing_keeps_made client other clients) i;
      actions = same-actions i;
      last = same-last i;
    }

  -- without the offer that an action takes
  abbrev pub taking : Option OfferName → State
  taking by = record (state_at b s) { pending = without_taken by waiting }

  pub has_acted : (t : SessionState) (action : Action) (by : Option OfferName) (count : ℕ) → state_at b t ≡ taking by → count ≡ s.actions + 1 →
      state_at b (record { clients = t.clients; pending = t.pending; actions = count; last = Some action }) ≡ after_action (state_at b s) action by b
  has_acted t action by count e f = λ i. record {
    behaviour = b;
    open_clients = (e i).open_clients;
    pending = (e i).pending;
    made = (e i).made;
    actions = f i;
    last = Some action;
  }

-- the state at the beginning
pub starts : (t : SessionState) (b : Behaviour) (count : ℕ) → t.clients.items ≡ map new_client (numbers_from 1 count) →
    map pending_of t.pending.items ≡ [] → t.actions ≡ 0 → t.last ≡ None → state_at b t ≡ start_state b (numbers_from 1 count)
starts t b count f g h k = λ i. record {
  behaviour = b;
  open_clients = (ap open_among f ∙ new_open (numbers_from 1 count)) i;
  pending = g i;
  made = λ client. (ap (λ cs. made_by cs client) f ∙ new_made (numbers_from 1 count) client) i;
  actions = h i;
  last = k i;
}
