-- How entries are appended.
use Rattle.std.proofs.Common.{ℕ, ◌≡◌, ◌∙◌, ◌≤◌, List, [], ◌∷◌, ◌++◌, refl, sym, ap, subst, map, Option, Some, None, Bool, true, false}
use Rattle.std.proofs.Common.{option_map, Contains, nat_lt, if◌then◌else◌, inl, inr}
use Rattle.std.specs.Prelude.{Result, Ok, Err, OnOk}
use Rattle.spec_core.specs.Code.{Program}
use Rattle.spec_core.specs.Lists.{IsOneOf}
use Rattle.spec_core.proofs.Members.{contains_one}
use Rattle.rule_model.specs.declared.action.Action.{Action}
use Rattle.rule_model.specs.Answering.{name_of}
use Rattle.rule_model.specs.Answers.{Answer, deadlock, ended, limit}
use Rattle.rule_model.specs.declared.rules.Rules.{Rules}
use Rattle.rule_model.specs.Derivations.{Derivation, derivation_of}
use Rattle.rule_model.specs.Events.{Event, OfferName, acted, replied}
use Rattle.rule_model.specs.Legal.{IsPending, IsPossible}
use Rattle.rule_model.specs.States.{PendingOffer, State, start_state}
use Rattle.decision_trees.specs.Lazy.{first}
use Rattle.decision_trees.specs.Rules.{Next, takes, goes_on, deadlocks}
use Rattle.decision_order.specs.declared.settle.Settled.{Settled}
use Rattle.decision_order.specs.declared.settle.Settled.TheVariants.{Takes, GoesOn, Unknown, Deadlocks, IsBeyond, IsNotNow, Stalls, Nothing}
use Rattle.board_record.specs.Records.{IsSession}
use Rattle.board_record.specs.Views.{HasActed}
use Rattle.board_laws.specs.declared.stop_reason.StopReason.{StopReason}
use Rattle.board_laws.specs.Next.{GoesByRules, HasEnded, IsAct, IsEventOf, IsLeast, next_by_rules, next_ended}
use Rattle.run_settings.specs.declared.settings.Draw.{Draw}
use Rattle.board_laws.specs.Drawing.{drawn}
use Rattle.board_laws.specs.Stopping.{answer_by}
use Rattle.log_states.specs.Clients.{numbers_from}
use Rattle.log_states.specs.Possible.{MayStall}
use Rattle.node_trees.specs.Shapes.{stands_for}
use Rattle.board_offers.specs.Offers.{offer_at}
use Rattle.board_offers.specs.Waiting.{by_client, insert_by_client}
use Rattle.board_offers.proofs.Derivations.{pending_clients_differ}
use Rattle.board_offers.proofs.Order.{least_is_least}
use Rattle.board_offers.proofs.Stalls.{stalls_name_all}
use Rattle.board_core.specs.Entries.{entry_of, OfAct}
use Rattle.board_core.specs.Settled.{AnswersLeast, HasSettled, HasStepped, IsDue, IsKnownAtLimit, LeavesNodes, settled_next}
use Rattle.board_core.specs.Settled.{settled_stopped}
use Rattle.board_core.specs.Views.{BoardView, program, events, state, tree, decided_at, HasOneMore}

pub on_ok : {A E : Type 0} {P Q O R : Type 0} (r : Result A E) → (P → Q → O → R) → OnOk r P → OnOk r Q → OnOk r O → OnOk r R
on_ok (Ok x) f p q o = f p q o
on_ok (Err e) f p q o = tt

pub on_ok_both : {A E : Type 0} {P Q R : Type 0} (r : Result A E) → (P → Q → R) → OnOk r P → OnOk r Q → OnOk r R
on_ok_both (Ok x) f p q = f p q
on_ok_both (Err e) f p q = tt

own_name : (s : State) (p : PendingOffer) → Contains s.pending p → IsPending s (name_of p)
own_name s p h = record { waits = p; among = h; client = refl; number = refl; holds = tt }

-- the same reply to the same offer
pub same_reply : (name other : OfferName) (a b : Answer) → name ≡ other → a ≡ b → replied name.0 name.1 a ≡ replied other.0 other.1 b
same_reply name other a b e f = ap (λ (n : OfferName). replied n.0 n.1 a) e ∙ ap (replied other.0 other.1) f

-- an offer that is pending is so by its name
pub named : (s : State) (p : PendingOffer) (name : OfferName) → name ≡ name_of p → IsOneOf p s.pending → IsPending s name
named s p name e h = subst (IsPending s) (sym e) (own_name s p (contains_one p s.pending h))

module _ (old new : BoardView) (entry : Next PendingOffer Derivation) (due : IsDue old entry) (rules : GoesByRules (state old))
    (running : old.stop ≡ None) (same : new.stop ≡ old.stop) where
  -- what comes next by the rules is appended
  pub by_rules : (event : Event) → IsEventOf (program old) old.settings (state old) entry event → events new ≡ events old ++ event ∷ [] →
      IsPossible (program old) (state old) event (state new) → HasOneMore old new → LeavesNodes old new event → HasSettled old new
  by_rules event is log possible one_more leaves = record {
    event = event;
    log = log;
    one_more = one_more;
    possible = possible;
    why = settled_next running (same ∙ running) (next_by_rules entry rules due.next is) (inr (entry, due.decided, is));
    leaves = leaves;
  }

  -- an action is
  pub acts : (d : Derivation) (by : Option OfferName) → ((a : Action) → IsEventOf (program old) old.settings (state old) entry (acted a d by)) →
      HasActed old.session new.session d by → HasStepped old new d → HasSettled old new
  acts d by is h stepped =
      by_rules (acted h.action d by) (is h.action) h.log (stands_for (program old) (tree new), h.derives, h.agreed, h.state) h.one_more stepped

-- all pending offers may be stalled
pub may_stall : (program : Program) (clients : ℕ) (log : List Event) (s : State) → IsSession program clients log s →
    (p : PendingOffer) → IsOneOf p s.pending → MayStall s (map name_of (by_client s.pending))
may_stall program clients log s session p among =
    stalls_name_all s
    (pending_clients_differ program log (start_state session.behaviour (numbers_from 1 clients)) s session.derivation tt)
    (λ none. subst (IsOneOf p) none among)

-- a list with one more offer isn't empty
some_there : (p : PendingOffer) (qs : List PendingOffer) → first (insert_by_client p qs) ≡ None → ⊥
some_there p [] e = let no : ⊥ = cc in no
some_there p (q ∷ qs) e = by_test (nat_lt q.client p.client) e
  where
    by_test : (b : Bool) → first (if b then q ∷ insert_by_client p qs else p ∷ q ∷ qs) ≡ None → ⊥
    by_test true f = let no : ⊥ = cc in no
    by_test false f = let no : ⊥ = cc in no

no_name : (o : Option PendingOffer) → option_map name_of o ≡ None → o ≡ None
no_name None e = refl
no_name (Some p) e = let no : ⊥ = cc in absurd no

-- where no client is the least, none has an offer pending
pub none_least : (ps : List PendingOffer) → option_map name_of (first (by_client ps)) ≡ None → ps ≡ []
none_least [] e = refl
none_least (p ∷ ps) e = absurd (some_there p (by_client ps) (no_name (first (by_client (p ∷ ps))) e))

-- the least client with a pending offer, and the offer's name
pub record LeastIs (s : State) (name : OfferName) : Type 0 where
  pub offer : PendingOffer
  pub least : IsLeast s offer
  pub same : name ≡ name_of offer

pub least_is : (s : State) (name : OfferName) → option_map name_of (first (by_client s.pending)) ≡ Some name → LeastIs s name
least_is s name e = by_list (by_client s.pending) refl e
  where
    by_list : (l : List PendingOffer) → by_client s.pending ≡ l → option_map name_of (first l) ≡ Some name → LeastIs s name
    by_list [] f g = let no : ⊥ = cc in absurd no
    by_list (p ∷ ps) f g = record { offer = p; least = (ps, f); same = let h : name_of p ≡ name = cc in sym h }

pub least_pending : (s : State) (name : OfferName) → option_map name_of (first (by_client s.pending)) ≡ Some name → IsPending s name
least_pending s name e =
    let l = least_is s name e in
    subst (IsPending s) (sym l.same) (own_name s l.offer (least_is_least s l.offer l.least.0 l.least.1).0)

-- replies to the least client

module _ (old new : BoardView) where
  -- the reason that has stopped the session
  pub told_reason : (reason : StopReason) → old.stop ≡ Some reason → new.stop ≡ old.stop → (answer : Answer) →
      answer ≡ answer_by (state old).actions reason → AnswersLeast old new answer → HasSettled old new
  told_reason reason e same answer is h = record {
    event = replied h.0.client h.0.number answer;
    log = h.2;
    possible = h.3;
    one_more = h.4.0;
    leaves = (h.4.1, h.4.2);
    why = settled_stopped reason e (same ∙ e) (h.0, h.1, ap (replied h.0.client h.0.number) is);
  }

  -- the end
  pub told_end : old.stop ≡ None → new.stop ≡ old.stop → HasEnded (state old).last → (at : ℕ) → at ≡ (state old).actions →
      AnswersLeast old new (ended at) → HasSettled old new
  told_end e same end at is h = record {
    event = replied h.0.client h.0.number (ended at);
    log = h.2;
    possible = h.3;
    one_more = h.4.0;
    leaves = (h.4.1, h.4.2);
    why = settled_next e (same ∙ e) (next_ended h.0 end h.1 (ap (λ (n : ℕ). replied h.0.client h.0.number (ended n)) is))
        (inl end);
  }

  -- a deadlock
  pub told_deadlock : old.stop ≡ None → new.stop ≡ old.stop → GoesByRules (state old) → IsDue old deadlocks → (at : ℕ) →
      at ≡ (state old).actions → AnswersLeast old new (deadlock at) → HasSettled old new
  told_deadlock e same rules due at is h =
      by_rules old new deadlocks due rules e same (replied h.0.client h.0.number (deadlock at))
      (h.0, h.1, ap (λ (n : ℕ). replied h.0.client h.0.number (deadlock n)) is) h.2 h.3 h.4.0 (h.4.1, h.4.2)

-- the same number is drawn
pub same_draw : (n : ℕ) (d e : Draw) (s t a b k l : ℕ) → n ≡ drawn d s a k → d ≡ e → s ≡ t → a ≡ b → k ≡ l → n ≡ drawn e t b l
same_draw n d e s t a b k l is same_way same_seed same_actions same_count =
    is ∙ ap (λ z. drawn z s a k) same_way ∙ ap (λ z. drawn e z a k) same_seed ∙ ap (λ z. drawn e t z k) same_actions
    ∙ ap (drawn e t b) same_count

-- an action that the rules decide, where there were as many as are allowed, is at the limit
module _ (v : BoardView) (due : (entry : Next PendingOffer Derivation) → decided_at v ≡ Some entry → IsDue v entry)
    (rules : GoesByRules (state v)) (limit : v.settings.steps ≤ (state v).actions) where
  is_at_limit : (entry : Next PendingOffer Derivation) → IsAct (program v) v.settings entry → Some entry ≡ decided_at v → IsKnownAtLimit v
  is_at_limit entry act e = record {
    at = record { entry = entry; by_rules = rules; next = (due entry (sym e)).next; act = act; limit = limit };
    decided = sym e;
  }

  pub at_limit : (settled : Settled Rules) → OfAct settled → entry_of v settled ≡ decided_at v → IsKnownAtLimit v
  at_limit (Takes number d) act e = is_at_limit (takes (offer_at (state v).pending number) (derivation_of d)) tt e
  at_limit (GoesOn trees) act e = is_at_limit (goes_on (map derivation_of trees.items)) tt e
  at_limit Unknown act e = absurd act
  at_limit Deadlocks act e = absurd act
  at_limit (IsBeyond number d) act e = absurd act
  at_limit (IsNotNow number) act e = absurd act
  at_limit Stalls act e = absurd act
  at_limit Nothing act e = absurd act
