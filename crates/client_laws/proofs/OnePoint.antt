-- Runs with the same wishes come to the same points.
use Rattle.std.proofs.Common.{ℕ, zero, suc, ◌≡◌, ◌∙◌, ◌<◌, ◌≤◌, ◌⊎◌, refl, sym, ap, subst, inl, inr, arith, List, [], ◌∷◌, ◌++◌}
use Rattle.std.proofs.Common.{append_assoc, Option, Some, None, Contains, not, nat_eq, Bool, true, false, filter, if◌then◌else◌}
use Rattle.std.proofs.lemmas.Bool.{cases_order}
use Rattle.run_settings.specs.declared.settings.Settings.{Settings}
use Rattle.spec_core.specs.Code.{Program}
use Rattle.spec_core.specs.Ready.{IsReady}
use Rattle.spec_core.proofs.Options.{some_none}
use Rattle.spec_core.proofs.Members.{contains_none}
use Rattle.rule_model.specs.declared.reply.LimitKind.TheVariants.{Steps}
use Rattle.rule_model.specs.Events.{Event, pended, left}
use Rattle.rule_model.specs.Legal.{IsPossible}
use Rattle.rule_model.specs.Wishes.{Wish}
use Rattle.rule_model.specs.States.{State}
use Rattle.log_states.proofs.Members.{in_cases}
use Rattle.board_laws.specs.declared.stop_reason.StopReason.{StopReason}
use Rattle.board_laws.specs.declared.stop_reason.StopReason.TheVariants.{Limit}
use Rattle.board_laws.specs.Next.{IsNextEvent, IsStopReply}
use Rattle.board_laws.specs.Reasons.{IsReasonToStop}
use Rattle.client_laws.specs.Runs.{IsSettledAt, all_told, none_next}
use Rattle.client_laws.proofs.Moves.{Point, same_point, Move, offers, leaves, goes_on, stops, tells, Chain, Leads, here, further, first_move, at}
use Rattle.client_laws.proofs.OneNext.{some_least, one_state, one_next_event, nothing_is_no_event, nothing_is_no_act, at_limit_no_event}
use Rattle.client_laws.proofs.OneNext.{next_keeps, stop_keeps, one_stop_reply}

same_wish : (xs : List Wish) (w v : Wish) (ws vs : List Wish) → (xs ++ w ∷ []) ++ ws ≡ (xs ++ v ∷ []) ++ vs → w ≡ v
same_wish [] w v ws vs e = cc
same_wish (x ∷ xs) w v ws vs e = same_wish xs w v ws vs cc

too_many : (xs : List Wish) (w : Wish) (ws : List Wish) → (xs ++ w ∷ []) ++ ws ≡ xs → ⊥
too_many [] w ws e = cc
too_many (x ∷ xs) w ws e = too_many xs w ws cc

-- a client that has left isn't open
left_out : (xs : List ℕ) → Contains (filter (λ other. not (nat_eq other 1)) xs) 1 → ⊥
left_out [] c = contains_none 1 c
left_out (x ∷ xs) c = by_test (nat_eq x 1) refl (left_out xs) c
  where
    by_test : (b : Bool) → nat_eq x 1 ≡ b → (Contains (filter (λ other. not (nat_eq other 1)) xs) 1 → ⊥) →
        Contains (if not b then x ∷ filter (λ other. not (nat_eq other 1)) xs else filter (λ other. not (nat_eq other 1)) xs) 1 → ⊥
    by_test true e none k = none k
    by_test false e none k = by_place (in_cases x 1 (filter (λ other. not (nat_eq other 1)) xs) k)
      where
        by_place : (x ≡ 1) ⊎ Contains (filter (λ other. not (nat_eq other 1)) xs) 1 → ⊥
        by_place (inl same) = let no : true ≡ false = subst (λ z. nat_eq z 1 ≡ false) same e in cc
        by_place (inr k) = none k

module _ (program : Program) (settings : Settings) (ready : IsReady program) (all : List Wish) where
  -- the wishes that are made are the first of all, and they are all made where the client isn't open
  pub record Ahead (c : Point) : Type 0 where
    pub rest : List Wish
    pub made : c.made ++ rest ≡ all
    pub gone : (Contains c.state.open_clients 1 → ⊥) → c.made ≡ all

  -- the run hasn't stopped, or because there were as many actions as are allowed
  abbrev pub OnlySteps : Point → Type 0
  OnlySteps c = (reason : StopReason) → c.stop ≡ Some reason → reason ≡ Limit Steps

  -- no client is open, and nothing is left to be done
  pub record Final (c : Point) : Type 0 where
    pub closed : c.state.open_clients ≡ []
    pub settled : IsSettledAt program settings c.stop c.state

  ahead_before : (b c : Point) → Move program settings b c → Ahead c → Ahead b
  ahead_before b c (offers wish number st e f settled possible) h = record {
    rest = wish ∷ h.rest;
    made = sym (append_assoc b.made (wish ∷ []) h.rest) ∙ ap (λ z. z ++ h.rest) (sym e) ∙ h.made;
    gone = λ out. absurd (out possible.0);
  }
  ahead_before b c (leaves st e f settled possible) h =
      record { rest = h.rest; made = ap (λ z. z ++ h.rest) (sym e) ∙ h.made; gone = λ out. absurd (out possible.0) }
  ahead_before b c (goes_on event none st e f next possible) h =
      let keeps = next_keeps program settings ready b.state c.state event next possible in
      record {
        rest = h.rest;
        made = ap (λ z. z ++ h.rest) (sym e) ∙ h.made;
        gone = λ out. sym e ∙ h.gone (λ k. out (subst (λ z. Contains z 1) keeps k));
      }
  ahead_before b c (stops reason none st e f g is_so) h = record {
    rest = h.rest;
    made = ap (λ z. z ++ h.rest) (sym e) ∙ h.made;
    gone = λ out. sym e ∙ h.gone (λ k. out (subst (λ z. Contains z.open_clients 1) g k));
  }
  ahead_before b c (tells reason event some st e f told possible) h =
      let keeps = stop_keeps program settings ready b.state c.state reason event told possible in
      record {
        rest = h.rest;
        made = ap (λ z. z ++ h.rest) (sym e) ∙ h.made;
        gone = λ out. sym e ∙ h.gone (λ k. out (subst (λ z. Contains z 1) keeps k));
      }

  steps_before : (b c : Point) → Move program settings b c → OnlySteps c → OnlySteps b
  steps_before b c (offers wish number st e f settled possible) h = λ reason k. h reason (st ∙ k)
  steps_before b c (leaves st e f settled possible) h = λ reason k. h reason (st ∙ k)
  steps_before b c (goes_on event none st e f next possible) h = λ reason k. h reason (st ∙ k)
  steps_before b c (stops other none st e f g is_so) h = λ reason k. absurd (some_none b.stop k none)
  steps_before b c (tells other event some st e f told possible) h = λ reason k. h reason (st ∙ k)

  pub leads_ahead : (b c : Point) → Leads program settings b c → Ahead c → Ahead b
  leads_ahead b c (here e) h = subst Ahead (sym e) h
  leads_ahead b c (further d leads move) h = leads_ahead b d leads (ahead_before d c move h)

  leads_steps : (b c : Point) → Leads program settings b c → OnlySteps c → OnlySteps b
  leads_steps b c (here e) h = subst OnlySteps (sym e) h
  leads_steps b c (further d leads move) h = leads_steps b d leads (steps_before d c move h)

  -- where nothing is left to be done, no entry comes but from the client

  settled_no_event : (stop : Option StopReason) (s : State) (event : Event) → IsSettledAt program settings stop s → stop ≡ None →
      IsNextEvent program settings s event → ⊥
  settled_no_event stop s event (all_told reason e none) f next = some_none stop e f
  settled_no_event stop s event (none_next e goes nothing_next) f next =
      nothing_is_no_event program settings ready s event goes nothing_next next

  settled_no_stop : (stop : Option StopReason) (s : State) (reason : StopReason) → IsSettledAt program settings stop s → stop ≡ None →
      reason ≡ Limit Steps → IsReasonToStop program settings s reason → ⊥
  settled_no_stop stop s reason (all_told other e none) f steps is_so = some_none stop e f
  settled_no_stop stop s reason (none_next e goes nothing_next) f steps is_so =
      nothing_is_no_act program settings ready s nothing_next (subst (IsReasonToStop program settings s) steps is_so)

  settled_no_reply : (stop : Option StopReason) (s : State) (reason : StopReason) (event : Event) → IsSettledAt program settings stop s →
      stop ≡ Some reason → IsStopReply s reason event → ⊥
  settled_no_reply stop s reason event (all_told other e none) f (p, least, is) = some_least s p least none
  settled_no_reply stop s reason event (none_next e goes nothing_next) f told = some_none stop f e

  event_no_stop : (s : State) (event : Event) (reason : StopReason) → IsNextEvent program settings s event → reason ≡ Limit Steps →
      IsReasonToStop program settings s reason → ⊥
  event_no_stop s event reason next steps is_so =
      at_limit_no_event program settings ready s event (subst (IsReasonToStop program settings s) steps is_so) next

  -- by one entry one point is reached
  by_event : (c d e : Point) (event other : Event) → event ≡ other → d.stop ≡ c.stop → e.stop ≡ c.stop → d.made ≡ e.made →
      d.log ≡ c.log ++ event ∷ [] → e.log ≡ c.log ++ other ∷ [] → IsPossible program c.state event d.state →
      IsPossible program c.state other e.state → d ≡ e
  by_event c d e event other same ds es made dl el possible also =
      same_point d e (ds ∙ sym es) made (dl ∙ ap (λ z. c.log ++ z ∷ []) same ∙ sym el)
      (one_state program settings ready c.state event d.state e.state possible
      (subst (λ z. IsPossible program c.state z e.state) (sym same) also))

  -- the client doesn't leave where it still wishes something
  offers_or_leaves : (c d e : Point) (wish : Wish) → d.made ≡ c.made ++ wish ∷ [] → e.made ≡ c.made → Ahead d → Ahead e →
      IsPossible program c.state (left 1) e.state → ⊥
  offers_or_leaves c d e wish dm em h k possible =
      let open_now = ap (λ z. z.open_clients) possible.2 in
      let whole = k.gone (λ m. left_out c.state.open_clients (subst (λ z. Contains z 1) open_now m)) in
      too_many c.made wish h.rest (ap (λ z. z ++ h.rest) (sym dm) ∙ h.made ∙ sym whole ∙ em)

  one_offer : (c d e : Point) (w v : Wish) → d.made ≡ c.made ++ w ∷ [] → e.made ≡ c.made ++ v ∷ [] → Ahead d → Ahead e → w ≡ v
  one_offer c d e w v dm em h k =
      same_wish c.made w v h.rest k.rest
      (ap (λ z. z ++ h.rest) (sym dm) ∙ h.made ∙ sym k.made ∙ ap (λ z. z ++ k.rest) em)

  one_move : (c d e : Point) → Ahead d → OnlySteps d → Ahead e → OnlySteps e → Move program settings c d → Move program settings c e →
      d ≡ e
  one_move c d e hd sd he se (offers w n ds dm dl ds2 dp) (offers v k es em el es2 ep) =
      let wishes = one_offer c d e w v dm em hd he in
      let numbers = dp.2 ∙ sym ep.2 in
      by_event c d e (pended 1 n w.offer w.ask) (pended 1 k v.offer v.ask)
      (ap (λ z. pended 1 z w.offer w.ask) numbers ∙ ap (λ z. pended 1 k z.offer z.ask) wishes) ds es
      (dm ∙ ap (λ z. c.made ++ z ∷ []) wishes ∙ sym em) dl el dp ep
  one_move c d e hd sd he se (offers w n ds dm dl settled dp) (leaves es em el es2 ep) =
      absurd (offers_or_leaves c d e w dm em hd he ep)
  one_move c d e hd sd he se (offers w n ds dm dl settled dp) (goes_on event none es em el next ep) =
      absurd (settled_no_event c.stop c.state event settled none next)
  one_move c d e hd sd he se (offers w n ds dm dl settled dp) (stops reason none es em el eg is_so) =
      absurd (settled_no_stop c.stop c.state reason settled none (se reason es) is_so.0)
  one_move c d e hd sd he se (offers w n ds dm dl settled dp) (tells reason event some es em el told ep) =
      absurd (settled_no_reply c.stop c.state reason event settled some told)
  one_move c d e hd sd he se (leaves ds dm dl settled dp) (offers w n es em el es2 ep) =
      absurd (offers_or_leaves c e d w em dm he hd dp)
  one_move c d e hd sd he se (leaves ds dm dl settled dp) (leaves es em el es2 ep) =
      by_event c d e (left 1) (left 1) refl ds es (dm ∙ sym em) dl el dp ep
  one_move c d e hd sd he se (leaves ds dm dl settled dp) (goes_on event none es em el next ep) =
      absurd (settled_no_event c.stop c.state event settled none next)
  one_move c d e hd sd he se (leaves ds dm dl settled dp) (stops reason none es em el eg is_so) =
      absurd (settled_no_stop c.stop c.state reason settled none (se reason es) is_so.0)
  one_move c d e hd sd he se (leaves ds dm dl settled dp) (tells reason event some es em el told ep) =
      absurd (settled_no_reply c.stop c.state reason event settled some told)
  one_move c d e hd sd he se (goes_on event none ds dm dl next dp) (offers w n es em el settled ep) =
      absurd (settled_no_event c.stop c.state event settled none next)
  one_move c d e hd sd he se (goes_on event none ds dm dl next dp) (leaves es em el settled ep) =
      absurd (settled_no_event c.stop c.state event settled none next)
  one_move c d e hd sd he se (goes_on event none ds dm dl next dp) (goes_on other none2 es em el next2 ep) =
      by_event c d e event other (one_next_event program settings ready c.state d.state e.state event other next next2 dp ep) ds es
      (dm ∙ sym em) dl el dp ep
  one_move c d e hd sd he se (goes_on event none ds dm dl next dp) (stops reason none2 es em el eg is_so) =
      absurd (event_no_stop c.state event reason next (se reason es) is_so.0)
  one_move c d e hd sd he se (goes_on event none ds dm dl next dp) (tells reason other some es em el told ep) =
      absurd (some_none c.stop some none)
  one_move c d e hd sd he se (stops reason none ds dm dl dg is_so) (offers w n es em el settled ep) =
      absurd (settled_no_stop c.stop c.state reason settled none (sd reason ds) is_so.0)
  one_move c d e hd sd he se (stops reason none ds dm dl dg is_so) (leaves es em el settled ep) =
      absurd (settled_no_stop c.stop c.state reason settled none (sd reason ds) is_so.0)
  one_move c d e hd sd he se (stops reason none ds dm dl dg is_so) (goes_on event none2 es em el next ep) =
      absurd (event_no_stop c.state event reason next (sd reason ds) is_so.0)
  one_move c d e hd sd he se (stops reason none ds dm dl dg is_so) (stops other none2 es em el eg is_so2) =
      same_point d e (ds ∙ ap Some (sd reason ds ∙ sym (se other es)) ∙ sym es) (dm ∙ sym em) (dl ∙ sym el) (dg ∙ sym eg)
  one_move c d e hd sd he se (stops reason none ds dm dl dg is_so) (tells other event some es em el told ep) =
      absurd (some_none c.stop some none)
  one_move c d e hd sd he se (tells reason event some ds dm dl told dp) (offers w n es em el settled ep) =
      absurd (settled_no_reply c.stop c.state reason event settled some told)
  one_move c d e hd sd he se (tells reason event some ds dm dl told dp) (leaves es em el settled ep) =
      absurd (settled_no_reply c.stop c.state reason event settled some told)
  one_move c d e hd sd he se (tells reason event some ds dm dl told dp) (goes_on other none es em el next ep) =
      absurd (some_none c.stop some none)
  one_move c d e hd sd he se (tells reason event some ds dm dl told dp) (stops other none es em el eg is_so) =
      absurd (some_none c.stop some none)
  one_move c d e hd sd he se (tells reason event some ds dm dl told dp) (tells other answer some2 es em el told2 ep) =
      let same : other ≡ reason = let both : Some other ≡ Some reason = sym some2 ∙ some in cc in
      by_event c d e event answer
      (one_stop_reply program settings ready c.state reason event answer told (subst (λ z. IsStopReply c.state z answer) same told2)) ds es
      (dm ∙ sym em) dl el dp ep

  no_client : (s : State) → s.open_clients ≡ [] → Contains s.open_clients 1 → ⊥
  no_client s closed c = let k = subst (λ z. Contains z 1) closed c in let l = k.1 in omega arith

  final_no_move : (c d : Point) → Final c → OnlySteps d → Move program settings c d → ⊥
  final_no_move c d final sd (offers w n ds dm dl settled dp) = no_client c.state final.closed dp.0
  final_no_move c d final sd (leaves ds dm dl settled dp) = no_client c.state final.closed dp.0
  final_no_move c d final sd (goes_on event none ds dm dl next dp) = settled_no_event c.stop c.state event final.settled none next
  final_no_move c d final sd (stops reason none ds dm dl dg is_so) =
      settled_no_stop c.stop c.state reason final.settled none (sd reason ds) is_so.0
  final_no_move c d final sd (tells reason event some ds dm dl told dp) =
      settled_no_reply c.stop c.state reason event final.settled some told

  module _ (start : State) where
    -- after as many moves
    same_point_after : (n : ℕ) (c d : Point) → Ahead c → OnlySteps c → Ahead d → OnlySteps d → Chain program settings start n c →
        Chain program settings start n d → c ≡ d
    same_point_after zero c d hc sc hd sd e f = e ∙ sym f
    same_point_after (suc n) c d hc sc hd sd (b, chain, move) (a, other, also) =
        let same = same_point_after n b a (ahead_before b c move hc) (steps_before b c move sc) (ahead_before a d also hd)
        (steps_before a d also sd) chain other in
        one_move b c d hc sc hd sd move (subst (λ z. Move program settings z d) (sym same) also)

    -- one run that is at its end, and another up to any point: the point is on the way of the first
    pub on_the_way : (n k : ℕ) (c b : Point) → Final c → Ahead c → OnlySteps c → Ahead b → OnlySteps b →
        Chain program settings start n c → Chain program settings start k b → Leads program settings b c
    on_the_way n k c b final hc sc hb sb chain other = by_order (cases_order k n)
      where
        earlier : k ≤ n → Leads program settings b c
        earlier l =
            let r = at program settings start n k l c chain in
            let same = same_point_after k r.0 b (leads_ahead r.0 c r.2 hc) (leads_steps r.0 c r.2 sc) hb sb r.1 other in
            subst (λ z. Leads program settings z c) same r.2

        at_end : (c ≡ b) ⊎ ((d : Point) × Move program settings c d × Leads program settings d b) → Leads program settings b c
        at_end (inl e) = here (sym e)
        at_end (inr (d, move, rest)) = absurd (final_no_move c d final (leads_steps d b rest sb) move)

        later : n ≤ k → Leads program settings b c
        later l =
            let r = at program settings start k n l b other in
            let same = same_point_after n r.0 c (leads_ahead r.0 b r.2 hb) (leads_steps r.0 b r.2 sb) hc sc r.1 chain in
            at_end (first_move program settings c b (subst (λ z. Leads program settings z b) same r.2))

        by_order : (k ≡ n) ⊎ ((k < n) ⊎ (n < k)) → Leads program settings b c
        by_order (inl e) = earlier (omega (arith, e))
        by_order (inr (inl l)) = earlier (omega (arith, l))
        by_order (inr (inr l)) = later (omega (arith, l))

    -- two runs that are at their ends
    pub one_end : (n k : ℕ) (c b : Point) → Final c → Ahead c → OnlySteps c → Final b → Ahead b → OnlySteps b →
        Chain program settings start n c → Chain program settings start k b → b ≡ c
    one_end n k c b final hc sc over hb sb chain other =
        by_first (first_move program settings b c (on_the_way n k c b final hc sc hb sb chain other))
      where
        by_first : (b ≡ c) ⊎ ((d : Point) × Move program settings b d × Leads program settings d c) → b ≡ c
        by_first (inl e) = e
        by_first (inr (d, move, rest)) = absurd (final_no_move b d over (leads_steps d c rest sc) move)
