-- The offers of each client are numbered in order, and answered.
use Rattle.std.proofs.Common.{ℕ, ◌+◌, ◌≡◌, ◌∙◌, refl, sym, ap, subst, List, [], ◌∷◌, ◌++◌, map, append-nil, Some, None, nat_eq, cond}
use Rattle.std.proofs.lemmas.Bool.{eqb-true, eq-eqb, ne_eqb, true≢false}
use Rattle.spec_core.specs.Code.{Program}
use Rattle.spec_core.proofs.Members.{contains_none}
use Rattle.rule_model.specs.Answering.{name_of}
use Rattle.rule_model.specs.Events.{Event, pended, acted, replied, stalled, left}
use Rattle.rule_model.specs.Legal.{IsPossible, IsDerivation}
use Rattle.rule_model.specs.States.{PendingOffer, State, start_state}
use Rattle.rule_model.specs.Wishes.{Wish}
use Rattle.log_states.specs.Clients.{numbers_from}
use Rattle.log_states.proofs.Tests.{by_cases}
use Rattle.session_laws.specs.Answers.{answered_to, numbered_for, of_client, offers_by}
use Rattle.session_laws.proofs.Answered.{driven_logs_answer_clients}
use Rattle.session_laws.proofs.Driven.{driven_derives}
use Rattle.session_laws.specs.AnswerLaws.{WholeSessionsAnswerClients}
use Rattle.session_laws.specs.Wishes.{wish_in, wishes_by}
use Rattle.session_laws.proofs.Open.{after_log, none_where_none_open}

-- wishes that are numbered are the same wishes
pub wishes_of_numbered : (client n : ℕ) (wishes : List Wish) → map wish_in (numbered_for client n wishes) ≡ wishes
wishes_of_numbered client n [] = refl
wishes_of_numbered client n (wish ∷ wishes) = ap (λ z. wish ∷ z) (wishes_of_numbered client (n + 1) wishes)

module _ (k : ℕ) where
  -- these offers of the client are numbered behind so many that it has made
  abbrev AreNumbered : List PendingOffer → ℕ → Type 0
  AreNumbered ps made = ps ≡ numbered_for k (made + 1) (map wish_in ps)

  -- one more offer in front, which may be another client's
  in_front : (q : PendingOffer) (qs : List PendingOffer) (made next : ℕ) → (q.client ≡ k → (q.number ≡ made + 1) × (next ≡ made + 1)) →
      ((q.client ≡ k → ⊥) → next ≡ made) → AreNumbered qs next → AreNumbered (cond (nat_eq q.client k) (q ∷ qs) qs) made
  in_front q qs made next own other h = by_cases (nat_eq q.client k)
      (λ e.
      let is : q.client ≡ k = eqb-true q.client k e in
      let rest : AreNumbered qs (made + 1) = subst (AreNumbered qs) (own is).1 h in
      subst (λ b. AreNumbered (cond b (q ∷ qs) qs) made) (sym e)
      (λ i. record { client = is i; number = (own is).0 i; offer = q.offer; ask = q.ask } ∷ rest i))
      (λ e.
      let never : q.client ≡ k → ⊥ = λ is. absurd (true≢false (sym (eq-eqb q.client k is) ∙ e)) in
      subst (λ b. AreNumbered (cond b (q ∷ qs) qs) made) (sym e) (subst (AreNumbered qs) (other never) h))

  module _ (program : Program) where
    -- along a log each offer has the next number
    pub numbered : (log : List Event) (s t : State) → IsDerivation program log s t → AreNumbered (offers_by k log) (s.made k)
    numbered [] s t e = refl
    numbered (event ∷ log) s t (next, possible, d) = by_event event possible (numbered log next t d)
      where
        same_made : next.made ≡ s.made → AreNumbered (offers_by k log) (next.made k) → AreNumbered (offers_by k log) (s.made k)
        same_made e h = subst (AreNumbered (offers_by k log)) (ap (λ (f : ℕ → ℕ). f k) e) h

        by_event : (e : Event) → IsPossible program s e next → AreNumbered (offers_by k log) (next.made k) →
            AreNumbered (offers_by k (e ∷ log)) (s.made k)
        by_event (pended client number offer ask) (is_open, idle, is_next, gate, e) h =
            in_front (record { client = client; number = number; offer = offer; ask = ask }) (offers_by k log) (s.made k) (next.made k)
            (λ own. (
              is_next ∙ ap (λ c. s.made c + 1) own,
              ap (λ (z : State). z.made k) e ∙ ap (λ b. cond b (s.made client + 1) (s.made k)) (eq-eqb k client (sym own))
                  ∙ ap (λ c. s.made c + 1) own,
            ))
            (λ other.
            ap (λ (z : State). z.made k) e
            ∙ ap (λ b. cond b (s.made client + 1) (s.made k)) (ne_eqb k client (λ is. other (sym is))))
            h
        by_event (acted action tree None) (rest, derives, agreed, e) h = same_made (ap (λ (z : State). z.made) e) h
        by_event (acted action tree (Some name)) (rest, derives, agreed, e) h = same_made (ap (λ (z : State). z.made) e) h
        by_event (replied client number answer) (pending, at, e) h = same_made (ap (λ (z : State). z.made) e) h
        by_event (stalled names) (some, all, e) h = same_made (ap (λ (z : State). z.made) e) h
        by_event (left client) (is_open, idle, e) h = same_made (ap (λ (z : State). z.made) e) h

pub whole_sessions_answer_clients : WholeSessionsAnswerClients
whole_sessions_answer_clients program settings clients log ending h client =
    let start = start_state h.driven.behaviour (numbers_from 1 clients) in
    let derives = driven_derives program settings start h.stop log h.last h.driven.driven in
    let offers : offers_by client log ≡ numbered_for client 1 (wishes_by client log) = numbered client program log start h.last derives in
    let none : h.last.pending ≡ [] =
    none_where_none_open h.last (after_log program log start h.last derives (λ p m. absurd (contains_none p m))) h.closed in
    record {
      offers = offers;
      answers =
          sym (append-nil (answered_to client log))
          ∙ ap (λ (ps : List PendingOffer). answered_to client log ++ map name_of (of_client client ps)) (sym none)
          ∙ driven_logs_answer_clients program settings clients h.stop log h.last h.driven client
          ∙ ap (map name_of) offers;
    }
