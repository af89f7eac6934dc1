-- The entries of a session's log fit.
use Rattle.std.proofs.Common.{ℕ, ◌≡◌, ◌<◌, ◌≤◌, ◌^◌, ◌⊎◌, refl, sym, ap, subst, List, [], ◌∷◌, ◌++◌, arith}
use Rattle.std.proofs.Common.{inl, inr, Option, Some, None, Contains}
use Rattle.std.proofs.Math.Nat.{max-le}
use Rattle.std.proofs.lemmas.List.Elements.{Contains-push_cases}
use Rattle.spec_core.specs.Code.{Program}
use Rattle.spec_core.specs.Lists.{Each, IsOneOf}
use Rattle.spec_core.specs.Ready.{IsReady}
use Rattle.spec_core.specs.Sorts.{FitsGround, no_variables}
use Rattle.spec_core.specs.Terms.{TermTree, term_of, variable}
use Rattle.spec_core.specs.Theories.{Theory}
use Rattle.run_settings.specs.declared.settings.Settings.{Settings}
use Rattle.spec_core.proofs.Lists.{each_implied}
use Rattle.spec_core.proofs.Members.{contains_none, contains_one, each_from}
use Rattle.rule_model.specs.declared.action.Action.{Action}
use Rattle.rule_model.specs.declared.action.Action.TheVariants.{At, Exit, Inner}
use Rattle.rule_model.specs.declared.offer.Offer.{Offer}
use Rattle.rule_model.specs.Actions.{Kind, kind_of}
use Rattle.rule_model.specs.Answering.{name_of, offers_in}
use Rattle.rule_model.specs.Answers.{Answer, beyond, deadlock, ended, limit, not_now, spent, stalls, taken, too_large}
use Rattle.rule_model.specs.Behaviours.{Behaviour}
use Rattle.rule_model.specs.Code.{IsStart}
use Rattle.rule_model.specs.Derivations.{Derivation}
use Rattle.rule_model.specs.Events.{Event, OfferName, acted, left, pended, replied, stalled}
use Rattle.rule_model.specs.Legal.{IsDerivation, IsPending, IsPossible}
use Rattle.rule_model.specs.States.{PendingOffer, State, start_state}
use Rattle.rule_laws.specs.Spelled.{HasSpelled, SpellsSome}
use Rattle.rule_laws.proofs.Spelling.{step_spelled}
use Rattle.rule_gates.specs.Acting.{IsAt, IsOfHeading}
use Rattle.rule_gates.specs.Laws.{ActionsAreAtGatesOfTheHeading}
use Rattle.rule_sorts.specs.Fitting.{BehaviourFits, HasFewGates}
use Rattle.rule_sorts.specs.Laws.{ReachedBehavioursFit}
use Rattle.symbolic_rules.specs.Trees.{IsBeyond}
use Rattle.symbolic_rules.specs.Windows.{Windows}
use Rattle.candidate_laws.specs.Asked.{IsUnseenKind}
use Rattle.log_states.proofs.Derivations.{further}
use Rattle.log_states.proofs.Tests.{on_either}
use Rattle.board_offers.specs.Waiting.{waiting_in}
use Rattle.board_offers.proofs.Members.{in_filtered}
use Rattle.log_check.specs.Starting.{greatest_in, greatest_named}
use Rattle.board_laws.specs.declared.stop_reason.StopReason.{StopReason}
use Rattle.board_laws.specs.declared.stop_reason.StopReason.TheVariants.{Limit, Spent, TooLarge}
use Rattle.board_laws.specs.Stopping.{answer_by}
use Rattle.client_laws.specs.Justified.{IsJustified, IsJustifiedLog}
use Rattle.trace_text.specs.Fits.{ActionFits, AnswerFits, CountsActions, EventFits, NameFits, TreeFits}
use Rattle.value_text.specs.Values.{IsGroundList}
use Rattle.session_traces.proofs.Trees.{marked_tree_fits, some_fits, tree_fits}
use Rattle.session_traces.proofs.Wished.{IsFit}

-- one of so many clients
abbrev pub IsAmong : ℕ → ℕ → Type 0
IsAmong n c = (1 ≤ c) × (c ≤ n)

-- the term with which a session stops is a ground term of the data
abbrev pub ReasonFits : Theory → StopReason → Type 0
ReasonFits theory (Spent t) = FitsGround theory (term_of t)
ReasonFits theory (TooLarge t) = FitsGround theory (term_of t)
ReasonFits theory (Limit kind) = Unit {0}

-- the name is one of an offer of one of so many clients
abbrev pub NameIs : ℕ → OfferName → Type 0
NameIs n name = IsAmong n name.0 × (1 ≤ name.1) × (name.1 < 2 ^ 64)

-- each open client is one of so many, and so is whoever has an offer pending
pub record Keeps (n : ℕ) (s : State) : Type 0 where
  pub opened : (c : ℕ) → Contains s.open_clients c → IsAmong n c
  pub pending : (p : PendingOffer) → Contains s.pending p → NameIs n (name_of p)

-- what is known of an entry
record IsTold (program : Program) (n : ℕ) (event : Event) : Type 0 where
  pub fits : EventFits program event
  pub among : greatest_in event ≤ n

module _ (program : Program) (n : ℕ) (few_clients : n ≤ 64) where
  name_fits : (name : OfferName) → NameIs n name → NameFits name
  name_fits name h = let low = h.0.1 in ((h.0.0, omega (arith, low, few_clients)), h.1, h.2)

  pending_name : (s : State) → Keeps n s → (name : OfferName) → IsPending s name → NameIs n name
  pending_name s k name h =
      let p = k.pending h.waits h.among in (
        (subst (λ (c : ℕ). 1 ≤ c) h.client p.0.0, subst (λ (c : ℕ). c ≤ n) h.client p.0.1),
        subst (λ (c : ℕ). 1 ≤ c) h.number p.1,
        subst (λ (c : ℕ). c < 2 ^ 64) h.number p.2,
      )

  greatest_among : (names : List OfferName) → Each (NameIs n) names → greatest_named names ≤ n
  greatest_among [] h = omega arith
  greatest_among (name ∷ names) h = max-le h.0.0.1 (greatest_among names h.1)

  -- what comes of an entry keeps this

  after_entry : (s : State) (event : Event) (t : State) → IsPossible program s event t →
      ((p : PendingOffer) → IsOneOf p (offers_in (event ∷ [])) → IsAmong n p.client → IsFit program p) → Keeps n s → Keeps n t
  after_entry s (pended client number offer ask) t (is_open, idle, next, gate, e) fits k =
      subst (Keeps n) (sym e)
      (record {
        opened = k.opened;
        pending = λ p m. on_either
            (Contains-push_cases s.pending (record { client = client; number = number; offer = offer; ask = ask }) p m) (λ a. k.pending p a)
            (λ f.
            let among = k.opened client is_open in
            let fit = fits (record { client = client; number = number; offer = offer; ask = ask }) (inl refl) among in
            subst (λ (q : PendingOffer). NameIs n (name_of q)) f (among, fit.from_one, fit.small));
      })
  after_entry s (acted action d None) t (rest, derives, agreed, e) fits k =
      subst (Keeps n) (sym e) (record { opened = k.opened; pending = k.pending })
  after_entry s (acted action d (Some name)) t (rest, derives, agreed, e) fits k =
      subst (Keeps n) (sym e) (record { opened = k.opened; pending = λ p m. k.pending p (in_filtered _ s.pending p m) })
  after_entry s (replied client number answer) t (waits, at, e) fits k =
      subst (Keeps n) (sym e) (record { opened = k.opened; pending = λ p m. k.pending p (in_filtered _ s.pending p m) })
  after_entry s (stalled names) t (some, all, e) fits k =
      subst (Keeps n) (sym e) (record { opened = k.opened; pending = λ p m. absurd (contains_none p m) })
  after_entry s (left client) t (is_open, idle, e) fits k =
      subst (Keeps n) (sym e) (record { opened = λ c m. k.opened c (in_filtered _ s.open_clients c m); pending = k.pending })

  module _ (ready : IsReady program) (few : HasFewGates program) (gates : ActionsAreAtGatesOfTheHeading) (sorts : ReachedBehavioursFit)
      (start : Behaviour) (is_start : IsStart program start) (clients : List ℕ) where
    -- the log leads from the beginning to this state
    abbrev LeadsTo : List Event → State → Type 0
    LeadsTo before s = IsDerivation program before (start_state start clients) s

    action_fits : (a : Action) → IsAt (IsOfHeading program) (kind_of a) → HasSpelled program.theory a → ActionFits program a
    action_fits Inner at h = tt
    action_fits (Exit values) at h =
        each_implied (SpellsSome program.theory) (IsGroundList program.theory) values (some_fits program.theory) h
    action_fits (At gate values) at h =
        (at, each_implied (SpellsSome program.theory) (IsGroundList program.theory) values (some_fits program.theory) h)

    beyond_fits : (w : Windows) (b : Behaviour) (o : Option Offer) (d : Derivation) (k : Kind) → BehaviourFits program no_variables b →
        IsBeyond program w b o d k → TreeFits program d
    beyond_fits w b o d k i h = marked_tree_fits program ready few w d no_variables b _ k h.0.fields i h.0.derives

    module _ (settings : Settings) (stop : Option StopReason)
        (reason_fits : (reason : StopReason) → stop ≡ Some reason → ReasonFits program.theory reason) where
      spent_fits : (at m : ℕ) (t : TermTree) (reason : StopReason) → spent at t ≡ answer_by m reason → ReasonFits program.theory reason →
          FitsGround program.theory t
      spent_fits at m t (Spent u) e h = let same : term_of u ≡ t = cc in subst (FitsGround program.theory) same h
      spent_fits at m t (TooLarge u) e h = let never : ⊥ = cc in absurd never
      spent_fits at m t (Limit kind) e h = let never : ⊥ = cc in absurd never

      large_fits : (at m : ℕ) (t : TermTree) (reason : StopReason) → too_large at t ≡ answer_by m reason →
          ReasonFits program.theory reason →
          FitsGround program.theory t
      large_fits at m t (Spent u) e h = let never : ⊥ = cc in absurd never
      large_fits at m t (TooLarge u) e h = let same : term_of u ≡ t = cc in subst (FitsGround program.theory) same h
      large_fits at m t (Limit kind) e h = let never : ⊥ = cc in absurd never

      answer_fits : (s t : State) (client number : ℕ) (answer : Answer) → BehaviourFits program no_variables s.behaviour →
          IsPossible program s (replied client number answer) t → IsJustified program settings s stop (replied client number answer) →
          AnswerFits program answer
      answer_fits s t client number (taken at values) i p h = p.1
      answer_fits s t client number (deadlock at) i p h = tt
      answer_fits s t client number (stalls at) i p h = p.1
      answer_fits s t client number (beyond at d) i p h = by_tree h.holds.tree
        where
          by_tree : ((k : Kind) × IsBeyond program h.windows s.behaviour (Some h.waits.offer) d k) ⊎
              (((waiting_in s).asks ≡ []) × ((k : Kind) × IsBeyond program h.windows s.behaviour None d k × IsUnseenKind k)) →
              TreeFits program d
          by_tree (inl k) = beyond_fits h.windows s.behaviour (Some h.waits.offer) d k.0 i k.1
          by_tree (inr k) = beyond_fits h.windows s.behaviour None d k.1.0 i k.1.1
      answer_fits s t client number (not_now at) i p h = tt
      answer_fits s t client number (ended at) i p h = tt
      answer_fits s t client number (spent at u) i p h = spent_fits at s.actions u h.0 h.2 (reason_fits h.0 h.1)
      answer_fits s t client number (too_large at u) i p h = large_fits at s.actions u h.0 h.2 (reason_fits h.0 h.1)
      answer_fits s t client number (limit at kind) i p h = tt

      event_told : (before : List Event) (s : State) (event : Event) (t : State) → LeadsTo before s → IsPossible program s event t →
          IsJustified program settings s stop event →
          ((p : PendingOffer) → IsOneOf p (offers_in (event ∷ [])) → IsAmong n p.client → IsFit program p) → Keeps n s →
          IsTold program n event
      event_told before s (pended client number offer ask) t leads (is_open, idle, next, gate, e) j fits k =
          let among = k.opened client is_open in
          let fit = fits (record { client = client; number = number; offer = offer; ask = ask }) (inl refl) among in
          record { fits = (name_fits (client, number) (among, fit.from_one, fit.small), fit.offer); among = among.1 }
      event_told before s (acted action d None) t leads (rest, derives, agreed, e) j fits k = record {
        fits = (
          action_fits action (gates program ready start is_start clients before s leads d action rest derives)
              (step_spelled program d s.behaviour variable action rest derives),
          tree_fits program ready few d no_variables s.behaviour variable action rest
              (sorts program ready few start is_start clients before s leads) derives,
          tt,
        );
        among = omega arith;
      }
      event_told before s (acted action d (Some name)) t leads (rest, derives, agreed, e) j fits k =
          let named =
          pending_name s k name
          (record { waits = agreed.waits; among = agreed.among; client = agreed.client; number = agreed.number; holds = tt }) in
          record {
            fits = (
              action_fits action (gates program ready start is_start clients before s leads d action rest derives)
                  (step_spelled program d s.behaviour variable action rest derives),
              tree_fits program ready few d no_variables s.behaviour variable action rest
                  (sorts program ready few start is_start clients before s leads) derives,
              name_fits name named,
            );
            among = named.0.1;
          }
      event_told before s (replied client number answer) t leads (waits, at, e) j fits k =
          let named = pending_name s k (client, number) waits in
          record {
            fits = (
              name_fits (client, number) named,
              answer_fits s t client number answer (sorts program ready few start is_start clients before s leads) (waits, at, e) j,
            );
            among = named.0.1;
          }
      event_told before s (stalled names) t leads (some, all, e) j fits k =
          let named : Each (NameIs n) names =
          each_from (NameIs n) names (λ name i. pending_name s k name (all.only name (contains_one name names i))) in
          record { fits = (some, each_implied (NameIs n) NameFits names name_fits named); among = greatest_among names named }
      event_told before s (left client) t leads (is_open, idle, e) j fits k =
          let among = k.opened client is_open in
          let low = among.1 in
          record { fits = (among.0, omega (arith, low, few_clients)); among = among.1 }

      -- the offers of a log that one of so many clients makes fit
      abbrev pub OffersFitIn : List Event → Type 0
      OffersFitIn log = (p : PendingOffer) → IsOneOf p (offers_in log) → IsAmong n p.client → IsFit program p

      first_offers : (event : Event) (log : List Event) → OffersFitIn (event ∷ log) → OffersFitIn (event ∷ [])
      first_offers (pended client number offer ask) log h p (inl e) = h p (inl e)
      first_offers (pended client number offer ask) log h p (inr i) = absurd i
      first_offers (acted action d None) log h p i = absurd i
      first_offers (acted action d (Some name)) log h p i = absurd i
      first_offers (replied client number answer) log h p i = absurd i
      first_offers (stalled names) log h p i = absurd i
      first_offers (left client) log h p i = absurd i

      later_offers : (event : Event) (log : List Event) → OffersFitIn (event ∷ log) → OffersFitIn log
      later_offers (pended client number offer ask) log h p i = h p (inr i)
      later_offers (acted action d None) log h p i = h p i
      later_offers (acted action d (Some name)) log h p i = h p i
      later_offers (replied client number answer) log h p i = h p i
      later_offers (stalled names) log h p i = h p i
      later_offers (left client) log h p i = h p i

      log_told : (log before : List Event) (s t : State) → LeadsTo before s → IsJustifiedLog program settings stop log s t →
          OffersFitIn log →
          Keeps n s → Each (IsTold program n) log
      log_told [] before s t leads h fits k = tt
      log_told (event ∷ log) before s t leads (next, possible, justified, h) fits k = (
        event_told before s event next leads possible justified (first_offers event log fits) k,
        log_told log (before ++ event ∷ []) next t (further program before event (start_state start clients) s next leads possible) h
            (later_offers event log fits) (after_entry s event next possible (first_offers event log fits) k),
      )

      pub log_fits : (log : List Event) (t : State) → IsJustifiedLog program settings stop log (start_state start clients) t →
          OffersFitIn log → Keeps n (start_state start clients) → Each (EventFits program) log
      log_fits log t h fits k =
          each_implied (IsTold program n) (EventFits program) log (λ e r. r.fits)
          (log_told log [] (start_state start clients) t refl h fits k)

      pub log_among : (log : List Event) (t : State) → IsJustifiedLog program settings stop log (start_state start clients) t →
          OffersFitIn log → Keeps n (start_state start clients) → Each (λ (e : Event). greatest_in e ≤ n) log
      log_among log t h fits k =
          each_implied (IsTold program n) (λ (e : Event). greatest_in e ≤ n) log (λ e r. r.among)
          (log_told log [] (start_state start clients) t refl h fits k)

-- the number in each reply is that of the actions before it
pub counted : (program : Program) (log : List Event) (s t : State) → IsDerivation program log s t → CountsActions s.actions log
counted program [] s t d = tt
counted program (pended client number offer ask ∷ log) s t (next, possible, d) =
    subst (λ (z : ℕ). CountsActions z log) (ap (λ (z : State). z.actions) possible.4) (counted program log next t d)
counted program (acted action tree by ∷ log) s t (next, possible, d) =
    subst (λ (z : ℕ). CountsActions z log) (ap (λ (z : State). z.actions) possible.3) (counted program log next t d)
counted program (replied client number answer ∷ log) s t (next, possible, d) =
    (possible.1, subst (λ (z : ℕ). CountsActions z log) (ap (λ (z : State). z.actions) possible.2) (counted program log next t d))
counted program (stalled names ∷ log) s t (next, possible, d) =
    subst (λ (z : ℕ). CountsActions z log) (ap (λ (z : State). z.actions) possible.2) (counted program log next t d)
counted program (left client ∷ log) s t (next, possible, d) =
    subst (λ (z : ℕ). CountsActions z log) (ap (λ (z : State). z.actions) possible.2) (counted program log next t d)
