-- Runs, move by move.
use Rattle.std.proofs.Common.{ℕ, zero, suc, ◌≡◌, ◌∙◌, ◌<◌, ◌≤◌, ◌⊎◌, refl, sym, ap, subst, inl, inr, arith, List, [], ◌∷◌, ◌++◌}
use Rattle.std.proofs.Common.{append_assoc, Option, Some, None}
use Rattle.std.proofs.lemmas.Bool.{cases_order}
use Rattle.std.proofs.lemmas.List.{append-nil}
use Rattle.run_settings.specs.declared.settings.Settings.{Settings}
use Rattle.spec_core.specs.Code.{Program}
use Rattle.rule_model.specs.Events.{Event, pended, left}
use Rattle.rule_model.specs.Legal.{IsPossible}
use Rattle.rule_model.specs.Wishes.{Wish}
use Rattle.rule_model.specs.States.{State}
use Rattle.board_laws.specs.declared.stop_reason.StopReason.{StopReason}
use Rattle.board_laws.specs.Next.{IsNextEvent, IsStopReply}
use Rattle.board_laws.specs.Reasons.{IsAskedByRules, IsReasonToStop}
use Rattle.client_laws.specs.Runs.{IsSettledAt, IsRun, run_begins, run_offers, run_leaves, run_goes_on, run_stops}
use Rattle.client_laws.specs.Runs.{run_tells}

-- how far a run has come
pub record Point : Type 0 where
  pub stop : Option StopReason
  pub made : List Wish
  pub log : List Event
  pub state : State

abbrev pub point : Option StopReason → List Wish → List Event → State → Point
point stop made log s = record { stop = stop; made = made; log = log; state = s }

pub same_point : (c d : Point) → c.stop ≡ d.stop → c.made ≡ d.made → c.log ≡ d.log → c.state ≡ d.state → c ≡ d
same_point c d stop made log state = λ i. record { stop = stop i; made = made i; log = log i; state = state i }

module _ (program : Program) (settings : Settings) where
  -- from one point to the next
  pub data Move (c d : Point) : Type 0 where
    offers : (wish : Wish) (number : ℕ) → d.stop ≡ c.stop → d.made ≡ c.made ++ wish ∷ [] →
        d.log ≡ c.log ++ pended 1 number wish.offer wish.ask ∷ [] → IsSettledAt program settings c.stop c.state →
        IsPossible program c.state (pended 1 number wish.offer wish.ask) d.state → Move c d
    leaves : d.stop ≡ c.stop → d.made ≡ c.made → d.log ≡ c.log ++ left 1 ∷ [] → IsSettledAt program settings c.stop c.state →
        IsPossible program c.state (left 1) d.state → Move c d
    goes_on : (event : Event) → c.stop ≡ None → d.stop ≡ c.stop → d.made ≡ c.made → d.log ≡ c.log ++ event ∷ [] →
        IsNextEvent program settings c.state event → IsPossible program c.state event d.state → Move c d
    stops : (reason : StopReason) → c.stop ≡ None → d.stop ≡ Some reason → d.made ≡ c.made → d.log ≡ c.log → d.state ≡ c.state →
        IsReasonToStop program settings c.state reason × IsAskedByRules program settings c.state reason → Move c d
    tells : (reason : StopReason) (event : Event) → c.stop ≡ Some reason → d.stop ≡ c.stop → d.made ≡ c.made →
        d.log ≡ c.log ++ event ∷ [] → IsStopReply c.state reason event → IsPossible program c.state event d.state → Move c d

  module _ (start : State) where
    -- so many moves from the beginning to the point
    abbrev pub Chain : ℕ → Point → Type 0
    Chain zero c = c ≡ point None [] [] start
    Chain (suc n) c = (b : Point) × Chain n b × Move b c

    pub chained : (stop : Option StopReason) (wishes : List Wish) (log : List Event) (s : State) →
        IsRun program settings start stop wishes log s → (n : ℕ) × Chain n (point stop wishes log s)
    chained stop wishes log s (run_begins a b e f) = (zero, same_point (point stop wishes log s) (point None [] [] start) a b e f)
    chained stop wishes log s (run_offers made wish before number m w e run settled possible) =
        let r = chained stop made before m run in
        (suc r.0, (point stop made before m, r.1, offers wish number refl w e settled possible))
    chained stop wishes log s (run_leaves before m e run settled possible) =
        let r = chained stop wishes before m run in
        (suc r.0, (point stop wishes before m, r.1, leaves refl refl e settled possible))
    chained stop wishes log s (run_goes_on before event m a e run next possible) =
        let r = chained stop wishes before m run in
        (suc r.0, (point stop wishes before m, r.1, goes_on event a refl refl e next possible))
    chained stop wishes log s (run_stops reason a run is_so asked) =
        let r = chained None wishes log s run in
        (suc r.0, (point None wishes log s, r.1, stops reason refl a refl refl refl (is_so, asked)))
    chained stop wishes log s (run_tells reason before event m a e run told possible) =
        let r = chained stop wishes before m run in
        (suc r.0, (point stop wishes before m, r.1, tells reason event a refl refl e told possible))

    pub chain_run : (n : ℕ) (c : Point) → Chain n c → IsRun program settings start c.stop c.made c.log c.state
    chain_run zero c e =
        run_begins (ap (λ z. z.stop) e) (ap (λ z. z.made) e) (ap (λ z. z.log) e) (ap (λ z. z.state) e)
    chain_run (suc n) c (b, chain, offers wish number st e f settled possible) =
        run_offers b.made wish b.log number b.state e f
        (subst (λ z. IsRun program settings start z b.made b.log b.state) (sym st) (chain_run n b chain))
        (subst (λ z. IsSettledAt program settings z b.state) (sym st) settled) possible
    chain_run (suc n) c (b, chain, leaves st e f settled possible) =
        run_leaves b.log b.state f
        (subst (λ z. IsRun program settings start z c.made b.log b.state) (sym st)
        (subst (λ z. IsRun program settings start b.stop z b.log b.state) (sym e) (chain_run n b chain)))
        (subst (λ z. IsSettledAt program settings z b.state) (sym st) settled) possible
    chain_run (suc n) c (b, chain, goes_on event none st e f next possible) =
        run_goes_on b.log event b.state (st ∙ none) f
        (subst (λ z. IsRun program settings start z c.made b.log b.state) (sym st)
        (subst (λ z. IsRun program settings start b.stop z b.log b.state) (sym e) (chain_run n b chain))) next possible
    chain_run (suc n) c (b, chain, stops reason none st e f g is_so) =
        run_stops reason st
        (subst (λ z. IsRun program settings start None c.made c.log z) (sym g)
        (subst (λ z. IsRun program settings start None c.made z b.state) (sym f)
        (subst (λ z. IsRun program settings start None z b.log b.state) (sym e)
        (subst (λ z. IsRun program settings start z b.made b.log b.state) none (chain_run n b chain)))))
        (subst (λ z. IsReasonToStop program settings z reason) (sym g) is_so.0)
        (subst (λ z. IsAskedByRules program settings z reason) (sym g) is_so.1)
    chain_run (suc n) c (b, chain, tells reason event some st e f told possible) =
        run_tells reason b.log event b.state (st ∙ some) f
        (subst (λ z. IsRun program settings start z c.made b.log b.state) (sym st)
        (subst (λ z. IsRun program settings start b.stop z b.log b.state) (sym e) (chain_run n b chain))) told possible

  -- any number of moves
  pub data Leads (b : Point) : Point → Type 0 where
    here : {c : Point} → b ≡ c → Leads b c
    further : {c : Point} (d : Point) → Leads b d → Move d c → Leads b c

  pub first_move : (b c : Point) → Leads b c → (b ≡ c) ⊎ ((d : Point) × Move b d × Leads d c)
  first_move b c (here e) = inl e
  first_move b c (further d leads move) = by_first (first_move b d leads)
    where
      by_first : (b ≡ d) ⊎ ((a : Point) × Move b a × Leads a d) → (b ≡ c) ⊎ ((a : Point) × Move b a × Leads a c)
      by_first (inl e) = inr (c, subst (λ z. Move z c) (sym e) move, here refl)
      by_first (inr (a, first, rest)) = inr (a, first, further d rest move)

  -- the log of the second point begins with that of the first
  pub log_begins : (b c : Point) → Leads b c → (after : List Event) × (c.log ≡ b.log ++ after)
  log_begins b c (here e) = ([], ap (λ z. z.log) (sym e) ∙ sym (append-nil b.log))
  log_begins b c (further d leads move) =
      let r = log_begins b d leads in
      let m = by_move move in
      (r.0 ++ m.0, m.1 ∙ ap (λ z. z ++ m.0) r.1 ∙ append_assoc b.log r.0 m.0)
    where
      by_move : Move d c → (more : List Event) × (c.log ≡ d.log ++ more)
      by_move (offers wish number st e f settled possible) = (pended 1 number wish.offer wish.ask ∷ [], f)
      by_move (leaves st e f settled possible) = (left 1 ∷ [], f)
      by_move (goes_on event none st e f next possible) = (event ∷ [], f)
      by_move (stops reason none st e f g is_so) = ([], f ∙ sym (append-nil d.log))
      by_move (tells reason event some st e f told possible) = (event ∷ [], f)

  module _ (start : State) where
    -- the point after so many moves, on the way to another
    pub at : (n k : ℕ) → k ≤ n → (c : Point) → Chain start n c → (b : Point) × Chain start k b × Leads b c
    at zero k h c chain = let e : zero ≡ k = omega arith in (c, subst (λ j. Chain start j c) e chain, here refl)
    at (suc n) k h c (b, chain, move) = by_order (λ l. at n k l b chain) (cases_order k (suc n))
      where
        by_order : (k ≤ n → (a : Point) × Chain start k a × Leads a b) → (k ≡ suc n) ⊎ ((k < suc n) ⊎ (suc n < k)) →
            (a : Point) × Chain start k a × Leads a c
        by_order earlier (inl e) = (c, subst (λ j. Chain start j c) (sym e) (b, chain, move), here refl)
        by_order earlier (inr (inl l)) = let r = earlier (omega (arith, l)) in (r.0, r.1, further b r.2 move)
        by_order earlier (inr (inr l)) = absurd (omega (arith, h, l))

    -- where a run has stopped
    pub record Stopped (c : Point) (reason : StopReason) : Type 0 where
      pub number : ℕ
      pub place : Point
      pub chain : Chain start number place
      pub ran : place.stop ≡ None
      pub is_so : IsReasonToStop program settings place.state reason
      pub leads : Leads place c

    pub stopped : (n : ℕ) (c : Point) → Chain start n c → (reason : StopReason) → c.stop ≡ Some reason → Stopped c reason
    stopped zero c chain reason e = absurd (let none : c.stop ≡ None = ap (λ z. z.stop) chain in let no : ⊥ = cc in no)
    stopped (suc n) c (b, chain, move) reason e = by_move move (λ f. stopped n b chain reason f)
      where
        onward : Stopped b reason → Stopped c reason
        onward r = record {
          number = r.number;
          place = r.place;
          chain = r.chain;
          ran = r.ran;
          is_so = r.is_so;
          leads = further b r.leads move;
        }

        by_move : Move b c → (b.stop ≡ Some reason → Stopped b reason) → Stopped c reason
        by_move (offers wish number st a f settled possible) before = onward (before (sym st ∙ e))
        by_move (leaves st a f settled possible) before = onward (before (sym st ∙ e))
        by_move (goes_on event none st a f next possible) before = onward (before (sym st ∙ e))
        by_move (tells other event some st a f told possible) before = onward (before (sym st ∙ e))
        by_move (stops other none st a f g is_so) before =
            let same : other ≡ reason = let both : Some other ≡ Some reason = sym st ∙ e in cc in
            record {
              number = n;
              place = b;
              chain = chain;
              ran = none;
              is_so = subst (IsReasonToStop program settings b.state) same is_so.0;
              leads = further b (here refl) move;
            }
