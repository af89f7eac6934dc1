-- The next entry answers an offer that only asks, where it is the only one that is pending.
use Rattle.std.proofs.Common.{ℕ, ◌≡◌, ◌⊎◌, ◌∙◌, inl, inr, refl, sym, ap, subst, List, [], ◌∷◌, ◌++◌, Bool, true, Option, Some, None}
use Rattle.std.proofs.Common.{append_assoc}
use Rattle.std.proofs.lemmas.Option.{same_Some}
use Rattle.run_settings.specs.declared.settings.Settings.{Settings}
use Rattle.spec_core.specs.Code.{Program, program_of}
use Rattle.spec_core.specs.Ready.{IsReady}
use Rattle.rule_model.specs.declared.action.Action.{Action}
use Rattle.rule_model.specs.declared.offer.Offer.{Offer}
use Rattle.rule_model.specs.declared.reply.LimitKind.TheVariants.{Steps}
use Rattle.rule_model.specs.Answering.{name_of}
use Rattle.rule_model.specs.Answers.{Answer, answer_of, deadlock, beyond, not_now, ended}
use Rattle.rule_model.specs.Derivations.{Derivation}
use Rattle.rule_model.specs.declared.reply.Reply.{Reply}
use Rattle.rule_model.specs.Events.{Event, OfferName, acted, pended, replied}
use Rattle.rule_model.specs.Legal.{IsPossible}
use Rattle.rule_model.specs.States.{PendingOffer, State, after_offer, without}
use Rattle.candidate_laws.proofs.Answers.{exact_answers_exist}
use Rattle.candidate_laws.proofs.Testing.{asked_can_be_tested}
use Rattle.decision_trees.specs.Lazy.{first}
use Rattle.decision_trees.specs.Rules.{Next, Query, takes, deadlocks, is_beyond, is_not_now, goes_on, stalls, nothing, meeting, any, any_beyond, if_there, next_of}
use Rattle.decision_trees.specs.Rules as queries
use Rattle.candidate_laws.specs.TreeLaws.{lists_of}
use Rattle.board_laws.specs.declared.stop_reason.StopReason.{StopReason}
use Rattle.board_laws.specs.declared.stop_reason.StopReason.TheVariants.{Limit}
use Rattle.board_laws.specs.Next.{IsEventOf, IsLeast, IsNextEvent, IsNextOf, IsStopReply, next_by_rules, next_ended}
use Rattle.board_laws.specs.Reasons.{IsReasonToStop}
use Rattle.board_laws.specs.Stopping.{answer_by}
use Rattle.board_core.specs.Settled.{HasSettled, IsSettled, settled_limit, settled_next, settled_stopped}
use Rattle.board_core.specs.Views.{BoardView, events, program, state, SameSetting}
use Rattle.board_offers.specs.Waiting.{all_have_offers, by_client, only_asks}
use Rattle.board_lists.specs.Leaving.{IsStoppedRightly}
use Rattle.simulator_steps.specs.declared.asking.Answered.{Answered}
use Rattle.simulator_steps.specs.declared.asking.Answered.TheVariants.{Done, Told}
use Rattle.simulator_steps.specs.Asking.{ComesNext, IsAnswer, by_action, by_reply, IsAnswered, IsAtRest, IsWhy, by_rules, as_before, by_reason}
use Rattle.simulator_steps.specs.Asking.{EndsWith, KeepsBehaviour, OnlyWaits, TellsLast, TellsOf}
use Rattle.simulator_steps.proofs.Pending.{alone, none_behind, pending_one}

-- an ask of the one client
abbrev ask_of : ℕ → Offer → PendingOffer
ask_of n offer = pending_one n offer true

-- an entry that answers it
abbrev AnswersIt : PendingOffer → Next PendingOffer Derivation → Type 0
AnswersIt q (takes p d) = p ≡ q
AnswersIt q deadlocks = Unit {0}
AnswersIt q (is_beyond p d) = p ≡ q
AnswersIt q (is_not_now p) = p ≡ q
AnswersIt q (goes_on trees) = ⊥
AnswersIt q stalls = ⊥
AnswersIt q nothing = ⊥

module _ (q : PendingOffer) where
  asked_answers : (o : Option Derivation) → AnswersIt q (if_there o (is_beyond q) (is_not_now q))
  asked_answers None = refl
  asked_answers (Some d) = refl

  dead_answers : (r x : Option Derivation) → AnswersIt q (if_there r (λ a. if_there x (is_beyond q) (is_not_now q)) deadlocks)
  dead_answers None x = tt
  dead_answers (Some d) x = asked_answers x

  live_answers : (o r x : Option Derivation) →
      AnswersIt q (if_there o (λ a. if_there x (is_beyond q) (is_not_now q)) (if_there r (λ a. if_there x (is_beyond q) (is_not_now q)) deadlocks))
  live_answers None r x = dead_answers r x
  live_answers (Some d) r x = asked_answers x

  all_answers : (t o r x : Option Derivation) → AnswersIt q (if_there t (takes q)
      (if_there o (λ a. if_there x (is_beyond q) (is_not_now q)) (if_there r (λ a. if_there x (is_beyond q) (is_not_now q)) deadlocks)))
  all_answers None o r x = live_answers o r x
  all_answers (Some d) o r x = refl

  next_answers : (lists : Query PendingOffer → List Derivation) (waits : Bool) →
      AnswersIt q (next_of lists (record { pending = q ∷ []; asks = q ∷ []; by_client = q ∷ []; all_wait = waits }))
  next_answers lists waits = all_answers (first (lists (meeting q))) (first (lists any)) (first (lists any_beyond)) (first (lists (queries.beyond q)))

module _ (program : Program) (settings : Settings) (ready : IsReady program) (n : ℕ) (offer : Offer) (s : State)
    (one : s.pending ≡ ask_of n offer ∷ []) where
  least_is : (p : PendingOffer) → IsLeast s p → p ≡ ask_of n offer
  least_is p (others, e) = let same : p ∷ others ≡ ask_of n offer ∷ [] = sym e ∙ ap by_client one in cc

  entry_answers : (entry : Next PendingOffer Derivation) → IsNextOf program settings s entry → AnswersIt (ask_of n offer) entry
  entry_answers entry h =
      let exact = exact_answers_exist program ready in
      let test = asked_can_be_tested program exact.0 h.windows exact.1 s.behaviour in
      let lists = lists_of program exact.0 h.windows s.behaviour test.0 in
      subst (AnswersIt (ask_of n offer))
      (sym (h.next exact.0 test.0 exact.1 test.1
      ∙ ap (λ (ps : List PendingOffer). next_of lists
      (record { pending = ps; asks = only_asks (by_client ps); by_client = by_client ps; all_wait = all_have_offers s.open_clients ps })) one))
      (next_answers (ask_of n offer) lists (all_have_offers s.open_clients (ask_of n offer ∷ [])))

  replied_to : (event : Event) (answer : Answer) (p : PendingOffer) → p ≡ ask_of n offer → event ≡ replied p.client p.number answer →
      IsAnswer n event
  replied_to event answer p same e = by_reply answer (e ∙ ap (λ (z : PendingOffer). replied z.client z.number answer) same)

  event_answers : (entry : Next PendingOffer Derivation) (event : Event) → IsEventOf program settings s entry event →
      AnswersIt (ask_of n offer) entry → IsAnswer n event
  event_answers (takes p d) event (few, a, e) same =
      by_action a d (e ∙ ap (λ (z : PendingOffer). acted a d (Some (name_of z))) same)
  event_answers deadlocks event (p, least, e) same = replied_to event (deadlock s.actions) p (least_is p least) e
  event_answers (is_beyond p d) event e same = replied_to event (beyond s.actions d) p same e
  event_answers (is_not_now p) event e same = replied_to event (not_now s.actions) p same e
  event_answers (goes_on trees) event h same = absurd same
  event_answers stalls event h same = absurd same
  event_answers nothing event h same = absurd same

  by_next : (event : Event) → IsNextEvent program settings s event → IsAnswer n event
  by_next event (next_ended p done least e) = replied_to event (ended s.actions) p (least_is p least) e
  by_next event (next_by_rules entry goes next of_it) = event_answers entry event of_it (entry_answers entry next)

  by_stop : (event : Event) (reason : StopReason) → IsStopReply s reason event → IsAnswer n event
  by_stop event reason (p, least, e) = replied_to event (answer_by s.actions reason) p (least_is p least) e

-- what the board settles answers it
pub settled_answers : (r new : BoardView) → IsReady (program r) → (n : ℕ) (offer : Offer) → (state r).pending ≡ ask_of n offer ∷ [] →
    (h : HasSettled r new) → IsAnswer n h.event
settled_answers r new ready n offer one h = by_why h.why
  where
    by_why : IsSettled r new h.event → IsAnswer n h.event
    by_why (settled_next e f next known) = by_next (program r) r.settings ready n offer (state r) one h.event next
    by_why (settled_stopped reason e f told) = by_stop (program r) r.settings ready n offer (state r) one h.event reason told
    by_why (settled_limit e f known told) = by_stop (program r) r.settings ready n offer (state r) one h.event (Limit Steps) told

-- and why
why_settled : (p r new : BoardView) → OnlyWaits p r → (h : HasSettled r new) → IsWhy (program r) r.settings p.stop new.stop (state r) h.event
why_settled p r new waits h = by_why h.why waits.stop
  where
    by_why : IsSettled r new h.event → (r.stop ≡ p.stop) ⊎ ((p.stop ≡ None) × IsStoppedRightly r) →
        IsWhy (program r) r.settings p.stop new.stop (state r) h.event
    by_why (settled_next e f next known) (inl s) = by_rules (sym s ∙ e) f next
    by_why (settled_next e f next known) (inr (none, t)) = by_rules none f next
    by_why (settled_stopped reason e f told) (inl s) = as_before reason (sym s ∙ e) f told
    by_why (settled_stopped reason e f told) (inr (none, (other, s, so))) =
        by_reason reason none f
        (subst (IsReasonToStop (program r) r.settings (state r)) (same_Some other reason (sym s ∙ e)) so) told
    by_why (settled_limit e f known told) (inl s) = by_reason (Limit Steps) (sym s ∙ e) f known.at told
    by_why (settled_limit e f known told) (inr (none, t)) = by_reason (Limit Steps) none f known.at told

-- once it is answered, none is pending
module _ (program : Program) (s t : State) (n : ℕ) (offer : Offer) (one : s.pending ≡ ask_of n offer ∷ []) where
  by_pending : (rest : List PendingOffer) → rest ≡ without (1, n) s.pending → rest ≡ []
  by_pending rest e = e ∙ none_behind s.pending n offer true one

  pub none_pending : (event : Event) → IsPossible program s event t → IsAnswer n event → t.pending ≡ []
  none_pending event possible (by_action a d e) =
      let p = subst (λ (z : Event). IsPossible program s z t) e possible in
      by_pending t.pending (ap (λ (z : State). z.pending) p.3)
  none_pending event possible (by_reply answer e) =
      let p = subst (λ (z : Event). IsPossible program s z t) e possible in
      by_pending t.pending (ap (λ (z : State). z.pending) p.2)

  pub same_clients : (event : Event) → IsPossible program s event t → IsAnswer n event → t.open_clients ≡ s.open_clients
  same_clients event possible (by_action a d e) =
      let p = subst (λ (z : Event). IsPossible program s z t) e possible in ap (λ (z : State). z.open_clients) p.3
  same_clients event possible (by_reply answer e) =
      let p = subst (λ (z : Event). IsPossible program s z t) e possible in ap (λ (z : State). z.open_clients) p.2

  -- a reply leaves the behaviour
  pub reply_leaves : (event : Event) → IsPossible program s event t → (answer : Answer) → event ≡ replied 1 n answer →
      t.behaviour ≡ s.behaviour
  reply_leaves event possible answer e =
      let p = subst (λ (z : Event). IsPossible program s z t) e possible in ap (λ (z : State). z.behaviour) p.2

-- An ask, jobs, and the entry: what comes of it all. The board is the old one, the one with the ask, and the new one.
module _ (old asked new : BoardView) (n : ℕ) (offer : Offer) (rests : IsAtRest (state old)) (setting : SameSetting old asked)
    (ready : IsReady (program old)) (log : events asked ≡ events old ++ pended 1 n offer true ∷ [])
    (after : state asked ≡ after_offer (state old) 1 n offer true) (stop : asked.stop ≡ old.stop) (next : ComesNext asked new) where
  same_program : program next.ready ≡ program old
  same_program = ap program_of (next.waits.session.0.0.0 ∙ setting.0.0)

  same_settings : next.ready.settings ≡ old.settings
  same_settings = next.waits.session.0.1 ∙ setting.1

  same_state : state next.ready ≡ after_offer (state old) 1 n offer true
  same_state = next.waits.log.1 ∙ after

  only_one : (state next.ready).pending ≡ ask_of n offer ∷ []
  only_one = alone (state old) (state next.ready) n offer true rests.1 same_state

  answers_it : IsAnswer n next.settled.event
  answers_it =
      settled_answers next.ready new (subst IsReady (sym same_program) ready) n offer only_one next.settled

  whole_log : events new ≡ events old ++ pended 1 n offer true ∷ next.settled.event ∷ []
  whole_log =
      next.settled.log ∙ ap (λ (l : List Event). l ++ next.settled.event ∷ []) (next.waits.log.0 ∙ log)
      ∙ append_assoc (events old) (pended 1 n offer true ∷ []) (next.settled.event ∷ [])

  why_so : IsWhy (program old) old.settings old.stop new.stop (after_offer (state old) 1 n offer true) next.settled.event
  why_so =
      subst (λ (o : Option StopReason). IsWhy (program old) old.settings o new.stop (after_offer (state old) 1 n offer true) next.settled.event)
      stop
      (subst (λ (s : State). IsWhy (program old) old.settings asked.stop new.stop s next.settled.event) same_state
      (subst (λ (k : Settings). IsWhy (program old) k asked.stop new.stop (state next.ready) next.settled.event) same_settings
      (subst (λ (p : Program). IsWhy p next.ready.settings asked.stop new.stop (state next.ready) next.settled.event) same_program
      (why_settled asked next.ready new next.waits next.settled))))

  ends_with : EndsWith (events new) next.settled.event
  ends_with = (
    events old ++ pended 1 n offer true ∷ [],
    next.settled.log ∙ ap (λ (l : List Event). l ++ next.settled.event ∷ []) (next.waits.log.0 ∙ log),
  )

  -- the last event of the log is the answer
  pub last_answers : (event : Event) × EndsWith (events new) event × (number : ℕ) × IsAnswer number event
  last_answers = (next.settled.event, ends_with, n, answers_it)

  pub is_answered : (answered : Answered) → TellsLast (events new) answered → IsAnswered old new offer answered
  is_answered answered tells = record {
    number = n;
    event = next.settled.event;
    log = whole_log;
    why = why_so;
    tells = tells next.settled.event ends_with n answers_it;
  }

  pub rests_again : IsAtRest (state new)
  rests_again = (
    same_clients (program next.ready) (state next.ready) (state new) n offer only_one next.settled.event next.settled.possible answers_it
        ∙ ap (λ (s : State). s.open_clients) same_state ∙ rests.0,
    none_pending (program next.ready) (state next.ready) (state new) n offer only_one next.settled.event next.settled.possible answers_it,
  )

  pub keeps_behaviour : (answered : Answered) → TellsLast (events new) answered → KeepsBehaviour old new answered
  keeps_behaviour (Done action) tells = tt
  keeps_behaviour (Told reply) tells =
      reply_leaves (program next.ready) (state next.ready) (state new) n offer only_one next.settled.event next.settled.possible
      (answer_of reply) (tells next.settled.event ends_with n answers_it)
      ∙ ap (λ (s : State). s.behaviour) same_state

-- what an entry tells
pub tells_action : (action copied : Action) (d : Derivation) (by : Option OfferName) → copied ≡ action →
    TellsOf (acted action d by) (Done copied)
tells_action action copied d by same n (by_action a e is) =
    let third : by ≡ Some (1, n) = cc in
    (d, ap (λ (z : Option OfferName). acted action d z) third ∙ ap (λ (z : Action). acted z d (Some (1, n))) (sym same))
tells_action action copied d by same n (by_reply answer is) = let never : ⊥ = cc in absurd never

pub tells_reply : (client number : ℕ) (answer : Answer) (reply : Reply) → answer_of reply ≡ answer → TellsOf (replied client number answer) (Told reply)
tells_reply client number answer reply same n (by_action a e is) = let never : ⊥ = cc in absurd never
tells_reply client number answer reply same n (by_reply other is) =
    let first : client ≡ 1 = cc in
    let second : number ≡ n = cc in
    ap (λ (k : ℕ). replied k number answer) first ∙ ap (λ (k : ℕ). replied 1 k answer) second ∙ ap (replied 1 n) (sym same)
