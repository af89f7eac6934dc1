-- Each offer of a run is answered once.
use Rattle.std.proofs.Common.{ℕ, ◌+◌, ◌≡◌, ◌∙◌, refl, sym, ap, subst, arith, List, [], ◌∷◌, ◌++◌, map, length, Contains, not, nat_eq}
use Rattle.std.proofs.Common.{if◌then◌else◌, append_assoc, Option, Some, None}
use Rattle.std.proofs.lemmas.Bool.{eq-eqb, and_from}
use Rattle.std.proofs.lemmas.List.{append-nil, length-append, map-append}
use Rattle.run_settings.specs.declared.settings.Settings.{Settings}
use Rattle.spec_core.specs.Code.{Program}
use Rattle.spec_core.proofs.Members.{contains_first, contains_none}
use Rattle.rule_model.specs.Answering.{name_of, offers_in, answered_in, numbered}
use Rattle.rule_model.specs.Derivations.{Derivation}
use Rattle.rule_model.specs.Events.{Event, pended, acted, replied, stalled, left}
use Rattle.rule_model.specs.Legal.{IsPossible}
use Rattle.rule_model.specs.Wishes.{Wish}
use Rattle.rule_model.specs.States.{PendingOffer, State, without}
use Rattle.decision_trees.specs.Rules.{Next, takes, deadlocks, is_beyond, is_not_now, goes_on, stalls, nothing}
use Rattle.log_states.proofs.Members.{in_cases}
use Rattle.log_states.proofs.Tests.{on_either}
use Rattle.board_offers.specs.Waiting.{by_client}
use Rattle.board_laws.specs.declared.stop_reason.StopReason.{StopReason}
use Rattle.board_laws.specs.Next.{IsNextEvent, next_ended, next_by_rules, IsEventOf}
use Rattle.client_laws.specs.Laws.{RunsAnswerEach}
use Rattle.client_laws.specs.Runs.{IsRun, run_begins, run_offers, run_leaves, run_goes_on, run_stops, run_tells}

-- the offers and the answers of two logs, one behind the other

offers_behind : (xs ys : List Event) → offers_in (xs ++ ys) ≡ offers_in xs ++ offers_in ys
offers_behind [] ys = refl
offers_behind (pended client number offer ask ∷ xs) ys =
    ap (λ z. record { client = client; number = number; offer = offer; ask = ask } ∷ z) (offers_behind xs ys)
offers_behind (acted action d by ∷ xs) ys = offers_behind xs ys
offers_behind (replied client number answer ∷ xs) ys = offers_behind xs ys
offers_behind (stalled names ∷ xs) ys = offers_behind xs ys
offers_behind (left client ∷ xs) ys = offers_behind xs ys

answers_behind : (xs ys : List Event) → answered_in (xs ++ ys) ≡ answered_in xs ++ answered_in ys
answers_behind [] ys = refl
answers_behind (pended client number offer ask ∷ xs) ys = answers_behind xs ys
answers_behind (acted action d None ∷ xs) ys = answers_behind xs ys
answers_behind (acted action d (Some name) ∷ xs) ys = ap (λ z. name ∷ z) (answers_behind xs ys)
answers_behind (replied client number answer ∷ xs) ys = ap (λ z. (client, number) ∷ z) (answers_behind xs ys)
answers_behind (stalled names ∷ xs) ys =
    ap (λ z. names ++ z) (answers_behind xs ys) ∙ sym (append_assoc names (answered_in xs) (answered_in ys))
answers_behind (left client ∷ xs) ys = answers_behind xs ys

-- one more wish
numbered_behind : (n : ℕ) (made : List Wish) (wish : Wish) →
    numbered n (made ++ wish ∷ []) ≡
    numbered n made ++ record { client = 1; number = n + length made; offer = wish.offer; ask = wish.ask } ∷ []
numbered_behind n [] wish =
    let e : n ≡ n + 0 = omega arith in
    ap (λ k. record { client = 1; number = k; offer = wish.offer; ask = wish.ask } ∷ []) e
numbered_behind n (other ∷ made) wish =
    let e : n + 1 + length made ≡ n + length (other ∷ made) = omega arith in
    ap (λ z. record { client = 1; number = n; offer = other.offer; ask = other.ask } ∷ z)
    (numbered_behind (n + 1) made wish
    ∙ ap (λ k. numbered (n + 1) made ++ record { client = 1; number = k; offer = wish.offer; ask = wish.ask } ∷ []) e)

-- at most one of client 1, and none else
abbrev AreOfOne : List PendingOffer → Type 0
AreOfOne [] = Unit {0}
AreOfOne (p ∷ []) = p.client ≡ 1
AreOfOne (p ∷ q ∷ ps) = ⊥

-- Of the wishes as many are made as there are; the offers of the log are these; those that aren't answered are pending.
record IsTold (wishes : List Wish) (log : List Event) (s : State) : Type 0 where
  made : s.made 1 ≡ length wishes
  offers : offers_in log ≡ numbered 1 wishes
  answers : answered_in log ++ map name_of s.pending ≡ map name_of (offers_in log)
  one : AreOfOne s.pending

-- the only offer is that which is answered
only_one : (ps : List PendingOffer) (p : PendingOffer) (client number : ℕ) → AreOfOne ps → Contains ps p → p.client ≡ client →
    p.number ≡ number → ((client, number) ∷ [] ≡ map name_of ps) × (without (client, number) ps ≡ [])
only_one [] p client number one among e f = absurd (contains_none p among)
only_one (q ∷ []) p client number one among e f = on_either (in_cases q p [] among)
    (λ g.
    let c : q.client ≡ client = ap (λ z. z.client) g ∙ e in
    let n : q.number ≡ number = ap (λ z. z.number) g ∙ f in
    let same = and_from (nat_eq q.client client) (nat_eq q.number number) (eq-eqb q.client client c) (eq-eqb q.number number n) in
    (λ i. (sym c i, sym n i) ∷ [], ap (λ b. if not b then q ∷ [] else []) same))
    (λ k. absurd (contains_none p k))
only_one (q ∷ r ∷ ps) p client number one among e f = absurd one

-- those of at most one are by client already
by_client_same : (ps : List PendingOffer) → AreOfOne ps → by_client ps ≡ ps
by_client_same [] one = refl
by_client_same (p ∷ []) one = refl
by_client_same (p ∷ q ∷ ps) one = absurd one

-- nothing is pending where client 1 has no offer pending
idle_none : (ps : List PendingOffer) → AreOfOne ps → ((p : PendingOffer) → Contains ps p → p.client ≡ 1 → ⊥) → ps ≡ []
idle_none [] one idle = refl
idle_none (p ∷ []) one idle = absurd (idle p (contains_first p []) one)
idle_none (p ∷ q ∷ ps) one idle = absurd one

-- an event that is no offer; a stall is of all that is pending
abbrev Tells : State → Event → Type 0
Tells m (pended client number offer ask) = ⊥
Tells m (acted action d by) = Unit {0}
Tells m (replied client number answer) = Unit {0}
Tells m (stalled names) = names ≡ map name_of (by_client m.pending)
Tells m (left client) = Unit {0}

module _ (wishes : List Wish) (log : List Event) (m : State) (told : IsTold wishes log m) where
  -- an event that neither offers nor answers
  other_event : (event : Event) (s : State) → offers_in (event ∷ []) ≡ [] → answered_in (event ∷ []) ≡ [] → s.made ≡ m.made →
      s.pending ≡ m.pending → IsTold wishes (log ++ event ∷ []) s
  other_event event s none no_answer made same =
      let offers : offers_in (log ++ event ∷ []) ≡ offers_in log =
      offers_behind log (event ∷ []) ∙ ap (λ z. offers_in log ++ z) none ∙ append-nil (offers_in log) in
      let answers : answered_in (log ++ event ∷ []) ≡ answered_in log =
      answers_behind log (event ∷ []) ∙ ap (λ z. answered_in log ++ z) no_answer ∙ append-nil (answered_in log) in
      record {
        made = ap (λ f. f 1) made ∙ told.made;
        offers = offers ∙ told.offers;
        answers = (λ i. answers i ++ map name_of (same i)) ∙ told.answers ∙ sym (ap (map name_of) offers);
        one = subst AreOfOne (sym same) told.one;
      }

  -- an event that answers all that is pending
  answering : (event : Event) (s : State) → offers_in (event ∷ []) ≡ [] → answered_in (event ∷ []) ≡ map name_of m.pending →
      s.made ≡ m.made → s.pending ≡ [] → IsTold wishes (log ++ event ∷ []) s
  answering event s none answer made empty =
      let offers : offers_in (log ++ event ∷ []) ≡ offers_in log =
      offers_behind log (event ∷ []) ∙ ap (λ z. offers_in log ++ z) none ∙ append-nil (offers_in log) in
      let answers : answered_in (log ++ event ∷ []) ≡ answered_in log ++ map name_of m.pending =
      answers_behind log (event ∷ []) ∙ ap (λ z. answered_in log ++ z) answer in
      record {
        made = ap (λ f. f 1) made ∙ told.made;
        offers = offers ∙ told.offers;
        answers = ap (λ z. answered_in (log ++ event ∷ []) ++ map name_of z) empty ∙ append-nil (answered_in (log ++ event ∷ []))
            ∙ answers ∙ told.answers ∙ sym (ap (map name_of) offers);
        one = subst AreOfOne (sym empty) tt;
      }

  module _ (program : Program) where
    tells : (event : Event) (s : State) → Tells m event → IsPossible program m event s → IsTold wishes (log ++ event ∷ []) s
    tells (pended client number offer ask) s fits possible = absurd fits
    tells (acted action d None) s fits (rest, derives, agreed, e) =
        other_event (acted action d None) s refl refl (ap (λ z. z.made) e) (ap (λ z. z.pending) e)
    tells (acted action d (Some (client, number))) s fits (rest, derives, agreed, e) =
        let only = only_one m.pending agreed.waits client number told.one agreed.among agreed.client agreed.number in
        answering (acted action d (Some (client, number))) s refl only.0 (ap (λ z. z.made) e) (ap (λ z. z.pending) e ∙ only.1)
    tells (replied client number answer) s fits (pending, at, e) =
        let only = only_one m.pending pending.waits client number told.one pending.among pending.client pending.number in
        answering (replied client number answer) s refl only.0 (ap (λ z. z.made) e) (ap (λ z. z.pending) e ∙ only.1)
    tells (stalled names) s fits (some, all, e) =
        answering (stalled names) s refl (append-nil names ∙ fits ∙ ap (map name_of) (by_client_same m.pending told.one))
        (ap (λ z. z.made) e) (ap (λ z. z.pending) e)
    tells (left client) s fits (is_open, idle, e) =
        other_event (left client) s refl refl (ap (λ z. z.made) e) (ap (λ z. z.pending) e)

    offering : (wish : Wish) (number : ℕ) (s : State) → IsPossible program m (pended 1 number wish.offer wish.ask) s →
        IsTold (wishes ++ wish ∷ []) (log ++ pended 1 number wish.offer wish.ask ∷ []) s
    offering wish number s (is_open, idle, next, gate, e) =
        let offer : PendingOffer = record { client = 1; number = number; offer = wish.offer; ask = wish.ask } in
        let empty : m.pending ≡ [] = idle_none m.pending told.one idle in
        let pending : s.pending ≡ offer ∷ [] = ap (λ z. z.pending) e ∙ ap (λ z. z ++ offer ∷ []) empty in
        let made : length (wishes ++ wish ∷ []) ≡ length wishes + 1 = length-append wishes (wish ∷ []) in
        let count : s.made 1 ≡ m.made 1 + 1 = ap (λ z. z.made 1) e in
        let number_is : number ≡ 1 + length wishes = omega (arith, next, told.made) in
        let offers : offers_in (log ++ pended 1 number wish.offer wish.ask ∷ []) ≡ offers_in log ++ offer ∷ [] =
        offers_behind log (pended 1 number wish.offer wish.ask ∷ []) in
        let answers : answered_in (log ++ pended 1 number wish.offer wish.ask ∷ []) ≡ answered_in log =
        answers_behind log (pended 1 number wish.offer wish.ask ∷ []) ∙ append-nil (answered_in log) in
        let before : answered_in log ≡ map name_of (offers_in log) =
        sym (append-nil (answered_in log)) ∙ ap (λ z. answered_in log ++ map name_of z) (sym empty) ∙ told.answers in
        record {
          made = count ∙ ap (λ k. k + 1) told.made ∙ sym made;
          offers = offers ∙ ap (λ z. z ++ offer ∷ []) told.offers
              ∙ ap (λ k. numbered 1 wishes ++ record { client = 1; number = k; offer = wish.offer; ask = wish.ask } ∷ []) number_is
              ∙ sym (numbered_behind 1 wishes wish);
          answers = (λ i. answers i ++ map name_of (pending i)) ∙ ap (λ z. z ++ name_of offer ∷ []) before
              ∙ sym (map-append name_of (offers_in log) (offer ∷ [])) ∙ sym (ap (map name_of) offers);
          one = subst AreOfOne (sym pending) refl;
        }

module _ (program : Program) (settings : Settings) where
  entry_tells : (m : State) (entry : Next PendingOffer Derivation) (event : Event) → IsEventOf program settings m entry event →
      Tells m event
  entry_tells m (takes p d) event (some, a, e) = subst (Tells m) (sym e) tt
  entry_tells m deadlocks event (p, least, e) = subst (Tells m) (sym e) tt
  entry_tells m (is_beyond p d) event e = subst (Tells m) (sym e) tt
  entry_tells m (is_not_now p) event e = subst (Tells m) (sym e) tt
  entry_tells m (goes_on trees) event (some, d, at, a, e) = subst (Tells m) (sym e) tt
  entry_tells m stalls event e = subst (Tells m) (sym e) refl
  entry_tells m nothing event e = absurd e

  next_tells : (m : State) (event : Event) → IsNextEvent program settings m event → Tells m event
  next_tells m event (next_ended p ended least e) = subst (Tells m) (sym e) tt
  next_tells m event (next_by_rules entry goes next is) = entry_tells m entry event is

  module _ (start : State) (empty : start.pending ≡ []) (new : start.made 1 ≡ 0) where
    told : (stop : Option StopReason) (wishes : List Wish) (log : List Event) (s : State) →
        IsRun program settings start stop wishes log s → IsTold wishes log s
    told stop wishes log s (run_begins a b e f) =
        subst (λ z. IsTold z log s) (sym b) (subst (λ z. IsTold [] z s) (sym e) (subst (λ z. IsTold [] [] z) (sym f) (record {
          made = new;
          offers = refl;
          answers = ap (map name_of) empty;
          one = subst AreOfOne (sym empty) tt;
        })))
    told stop wishes log s (run_offers made wish before number m w e run settled possible) =
        subst (λ z. IsTold z log s) (sym w) (subst (λ z. IsTold (made ++ wish ∷ []) z s) (sym e)
        (offering made before m (told stop made before m run) program wish number s possible))
    told stop wishes log s (run_leaves before m e run settled possible) =
        subst (λ z. IsTold wishes z s) (sym e) (tells wishes before m (told stop wishes before m run) program (left 1) s tt possible)
    told stop wishes log s (run_goes_on before event m a e run next possible) =
        subst (λ z. IsTold wishes z s) (sym e)
        (tells wishes before m (told stop wishes before m run) program event s (next_tells m event next) possible)
    told stop wishes log s (run_stops reason a run is_so asked) = told None wishes log s run
    told stop wishes log s (run_tells reason before event m a e run (p, least, is) possible) =
        subst (λ z. IsTold wishes z s) (sym e)
        (tells wishes before m (told stop wishes before m run) program event s (subst (Tells m) (sym is) tt) possible)

pub runs_answer_each : RunsAnswerEach
runs_answer_each program settings start stop wishes log s empty new run settled =
    let told = told program settings start empty new stop wishes log s run in
    record {
      offers = told.offers;
      answers = sym (append-nil (answered_in log)) ∙ ap (λ z. answered_in log ++ map name_of z) (sym settled) ∙ told.answers
          ∙ ap (map name_of) told.offers;
    }
