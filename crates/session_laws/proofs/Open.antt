-- Offers are pending of open clients alone.
use Rattle.std.proofs.Common.{ℕ, ◌≡◌, ◌∙◌, refl, sym, ap, subst, List, [], ◌∷◌, Contains, Some, None, not, nat_eq, Bool, true, cond}
use Rattle.std.specs.List.{filter}
use Rattle.std.proofs.lemmas.Bool.{ne_eqb, true≢false}
use Rattle.std.proofs.lemmas.List.Elements.{Contains-push_cases}
use Rattle.spec_core.specs.Code.{Program}
use Rattle.spec_core.proofs.Members.{contains_first, contains_later, contains_none}
use Rattle.rule_model.specs.Events.{Event, pended, acted, replied, stalled, left}
use Rattle.rule_model.specs.Legal.{IsPossible, IsDerivation}
use Rattle.rule_model.specs.States.{PendingOffer, State}
use Rattle.log_states.proofs.Members.{in_cases}
use Rattle.log_states.proofs.Tests.{by_cases, on_either}
use Rattle.board_offers.proofs.Members.{in_filtered}

-- an element at which the test gives true stays
kept : {X : Type 0} (test : X → Bool) (xs : List X) (x : X) → test x ≡ true → Contains xs x → Contains (filter test xs) x
kept test [] x e m = absurd (contains_none x m)
kept test (y ∷ ys) x e m = by_cases (test y)
    (λ f. subst (λ zs. Contains zs x) (sym (ap (λ b. cond b (y ∷ filter test ys) (filter test ys)) f))
    (on_either (in_cases y x ys m) (λ g. subst (λ z. Contains (y ∷ filter test ys) z) g (contains_first y (filter test ys)))
    (λ k. contains_later y x (filter test ys) (kept test ys x e k))))
    (λ f. subst (λ zs. Contains zs x) (sym (ap (λ b. cond b (y ∷ filter test ys) (filter test ys)) f))
    (on_either (in_cases y x ys m) (λ g. absurd (true≢false (sym e ∙ ap test (sym g) ∙ f))) (λ k. kept test ys x e k)))

-- each of these offers is of one of these clients
abbrev pub AreOfClients : List ℕ → List PendingOffer → Type 0
AreOfClients clients ps = (p : PendingOffer) → Contains ps p → Contains clients p.client

-- each pending offer is of an open client
abbrev pub WaitsByOpen : State → Type 0
WaitsByOpen s = AreOfClients s.open_clients s.pending

pub none_where_none_open : (s : State) → WaitsByOpen s → s.open_clients ≡ [] → s.pending ≡ []
none_where_none_open s waits closed = by_offers s.pending waits
  where
    by_offers : (ps : List PendingOffer) → AreOfClients s.open_clients ps → ps ≡ []
    by_offers [] h = refl
    by_offers (p ∷ ps) h = absurd (contains_none p.client (subst (λ cs. Contains cs p.client) closed (h p (contains_first p ps))))

module _ (program : Program) where
  pub after_entry : (s : State) (event : Event) (t : State) → IsPossible program s event t → WaitsByOpen s → WaitsByOpen t
  after_entry s (pended client number offer ask) t (is_open, idle, next, gate, e) h =
      subst WaitsByOpen (sym e) (λ p m.
      on_either (Contains-push_cases s.pending (record { client = client; number = number; offer = offer; ask = ask }) p m)
      (λ k. h p k)
      (λ f. subst (λ (z : PendingOffer). Contains s.open_clients z.client) f is_open))
  after_entry s (acted action tree None) t (rest, derives, agreed, e) h = subst WaitsByOpen (sym e) h
  after_entry s (acted action tree (Some name)) t (rest, derives, agreed, e) h =
      subst WaitsByOpen (sym e) (λ p m. h p (in_filtered _ s.pending p m))
  after_entry s (replied client number answer) t (pending, at, e) h =
      subst WaitsByOpen (sym e) (λ p m. h p (in_filtered _ s.pending p m))
  after_entry s (stalled names) t (some, all, e) h = subst WaitsByOpen (sym e) (λ p m. absurd (contains_none p m))
  after_entry s (left client) t (is_open, idle, e) h =
      subst WaitsByOpen (sym e) (λ p m.
      kept (λ other. not (nat_eq other client)) s.open_clients p.client (ap not (ne_eqb p.client client (idle p m))) (h p m))

  pub after_log : (log : List Event) (s t : State) → IsDerivation program log s t → WaitsByOpen s → WaitsByOpen t
  after_log [] s t e h = subst WaitsByOpen (sym e) h
  after_log (event ∷ log) s t (next, possible, d) h = after_log log next t d (after_entry s event next possible h)
