-- Each step of a turn keeps the rule: draw, look, publish, pass, ring.
use Rattle.std.proofs.Common.{◌≡◌, ◌≢◌, ℕ, zero, suc, ◌+◌, ◌-◌, ◌%◌, ◌^◌, ◌<◌, ◌≤◌, eqb, Bool, true, false, true≢false, List, [], ◌∷◌, length, get_or}
use Rattle.std.proofs.Common.{set, Option, Some, refl, sym, ap, ◌∙◌, subst, ⊎_elim, arith, eq-eqb, ne_eqb}
use Rattle.std.proofs.lemmas.List.{set-get_or}
use Rattle.std.proofs.lemmas.Bool.{cases_Bool, both_ways}
use mathlib.Core.Logic.{dite}
use mathlib.Core.Option.{none, some}
use mathlib.Core.Option as maybe
use native.Mathlib.Decide.{ℕ_discrete}
use lib.ListN.{get_elem?}
use prog.Atomic.{either}
use Rattle.atomic_table.specs.Table.{State, Me, step, keeps, takes, gives, stepped, Allows, rest}
use Rattle.atomic_table.proofs.Lists.{at_set, set_again}
use Rattle.turn_lock.specs.declared.rule.View.{View}
use Rattle.turn_lock.specs.declared.rule.Phase.{Phase}
use Rattle.turn_lock.specs.declared.rule.Phase.TheVariants.{Idle, Drawn, Called, Published}
use Rattle.turn_lock.specs.Entries.{Begins, made_by, NamesBelow, Continues}
use Rattle.turn_lock.specs.Rule.{HasTicket, HasSlot, FitsPhase, AnswersFor, accounts_of, origin_of, IsSlot, FitsView, KeepsRule}
use Rattle.turn_lock.specs.Steps.{in_phase, with_lists, drew, passed, rang, looked, published}
use Rattle.turn_lock.proofs.Places.{put, put_here, put_else, set_at, at_changed}
use Rattle.turn_lock.proofs.EntryLists.{begins_all, begins_on, made_by_more, continues_itself, names_below_longer}
use Rattle.turn_lock.proofs.Accounts.{place_of_number, all_fit_longer}

-- a change behind the first three words leaves these
set_behind : (i n a b c : ℕ) (rest : List ℕ) → 3 ≤ i → (rest' : List ℕ) × (set (a ∷ b ∷ c ∷ rest) i n ≡ a ∷ b ∷ c ∷ rest')
set_behind zero n a b c rest behind = absurd (omega arith)
set_behind (suc zero) n a b c rest behind = absurd (omega arith)
set_behind (suc (suc zero)) n a b c rest behind = absurd (omega arith)
set_behind (suc (suc (suc i))) n a b c rest behind = (set rest i n, refl)

module _ {T E F : Type 0} (list : T → List E) (fixed : T → F) (maker : E → Option ℕ) (opened : T) (seats : ℕ) where
  abbrev V : Type 0
  V = View E F

  abbrev St : Type 0
  St = State (Option T) V

  abbrev M : Type 0
  M = Me (Option T) V

  abbrev Homes : Type 0
  Homes = List (maybe.Option (Option T))

  abbrev Rule : St → Type 0
  Rule = KeepsRule list fixed maker opened seats

  -- A step of the seat id, which changes the words, the slot, its phase and its lists. What it owes: the words and the slot
  -- are as the rule says, the list goes on, the seat's new lists and phase fit it, and the other seats' phases, the queue and
  -- whoever has the slot are as the rule says
  moved : (s : St) (r : Rule s) (id : ℕ) (v : V) → get_elem? s.views id ≡ some v → v.spent ≡ false
      → (words' : List ℕ) (homes' : Homes) (ticket' serving' : ℕ) (longest' : List E) (out' : Bool) (holder' : ℕ → ℕ) (phase' : Phase)
      (seen' own' : List E)
      → words' ≡ ticket' ∷ serving' ∷ length longest' ∷ r.bells → (serving' ≤ ticket') × (ticket' < 2 ^ 64) →
      IsSlot list fixed (fixed opened) out' longest' homes'
      → Continues maker v.account.number r.longest longest' → Begins seen' longest' → made_by maker v.account.number longest' ≡ own'
      → FitsPhase serving' ticket' longest' out' holder' id seen' phase'
      → ((j : ℕ) (u : V) → j ≢ id → get_elem? s.views j ≡ some u →
      FitsPhase r.serving r.ticket r.longest r.out r.holder j u.account.seen u.phase →
      FitsPhase serving' ticket' longest' out' holder' j u.account.seen u.phase)
      → ((t : ℕ) → serving' ≤ t → t < ticket' →
      (u : V) × (get_elem? (set s.views id (with_lists v phase' seen' own')) (holder' t) ≡ some u) × HasTicket t u.phase)
      → (out' ≡ true →
      (u : V) × (get_elem? (set s.views id (with_lists v phase' seen' own')) (holder' serving') ≡ some u) × HasSlot u.phase)
      → Rule record { words = words'; homes = homes'; views = set s.views id (with_lists v phase' seen' own') }
  moved s r id v at alive words' homes' ticket' serving' longest' out' holder' phase' seen' own' are ordered slot goes prefix own mine
      others queue busy =
      let w : V = with_lists v phase' seen' own' in
      let me = r.each id v at in let accounts = me.accounts alive in let p = accounts.0 in record {
        ticket = ticket';
        serving = serving';
        bells = r.bells;
        longest = longest';
        out = out';
        made = r.made;
        holder = holder';
        place = r.place;
        first_at = r.first_at;
        words_are = are;
        ordered = (ordered.0, ordered.1, r.ordered.2);
        slot = slot;
        began = begins_on (list opened) r.longest longest' r.began (goes.0, goes.1);
        named =
            names_below_longer maker v.account.number seats r.longest longest' (let b = p.below in let o = r.ordered in omega arith)
            goes r.named;
        unmade = λ n l. made_by_more maker v.account.number n r.longest longest' goes (λ e. let b = p.below in omega arith) ∙ r.unmade n l;
        each = λ j u e. ⊎_elim
            (λ (t : (j ≡ id) × (w ≡ u)).
            subst (λ (x : ℕ × V).
            FitsView list fixed maker (origin_of list fixed opened seats) serving' ticket' r.made longest' out' holder' r.place
            r.first_at x.0 x.1)
            (λ i. (sym t.0 i, t.1 i)) record {
              origin_stays = me.origin_stays;
              spent_is_idle = λ h. absurd (both_ways v.spent alive h);
              phase = mine;
              accounts = λ h. (
                record { prefix = prefix; own = own; below = p.below; here = p.here },
                all_fit_longer maker r.longest longest' r.made r.place id v.account.number goes v.joined (me.different alive).0 accounts.1,
              );
              different = me.different;
              first = me.first;
            })
            (λ (t : (j ≢ id) × (get_elem? s.views j ≡ some u)). let f = r.each j u t.1 in record {
              origin_stays = f.origin_stays;
              spent_is_idle = f.spent_is_idle;
              phase = others j u t.0 t.1 f.phase;
              accounts = λ h. all_fit_longer maker r.longest longest' r.made r.place j v.account.number goes (accounts_of u)
                  (λ has.
                  t.0 (sym (place_of_number maker r.longest r.made r.place j v.account.number (accounts_of u) (f.accounts h) has)
                  ∙ p.here))
                  (f.accounts h);
              different = f.different;
              first = f.first;
            })
            (at_set s.views id j w u e);
        queue = queue;
        busy = busy;
        first_seat = at_changed (λ y. y.is_first ≡ true) s.views id v w at (λ h. h) r.first_at r.first_seat;
        numbers = λ n l. at_changed (AnswersFor n) s.views id v w at (λ a. a) (r.place n) (r.numbers n l);
      }

  -- a step that changes bells alone
  but_bells : (s : St) (r : Rule s) (words' bells' : List ℕ) (id : ℕ) (v : V) →
      words' ≡ r.ticket ∷ r.serving ∷ length r.longest ∷ bells' → get_elem? s.views id ≡ some v →
      Rule record { words = words'; homes = s.homes; views = set s.views id v }
  but_bells s r words' bells' id v are at =
      subst Rule (λ k. let z : St = record { words = words'; homes = s.homes; views = sym (set_again s.views id v at) k } in z) record {
        ticket = r.ticket;
        serving = r.serving;
        bells = bells';
        longest = r.longest;
        out = r.out;
        made = r.made;
        holder = r.holder;
        place = r.place;
        first_at = r.first_at;
        words_are = are;
        ordered = r.ordered;
        slot = r.slot;
        began = r.began;
        named = r.named;
        unmade = r.unmade;
        each = r.each;
        queue = r.queue;
        busy = r.busy;
        first_seat = r.first_seat;
        numbers = r.numbers;
      }

  -- a step that changes nothing
  unchanged : (s : St) (r : Rule s) (i id : ℕ) (v : V) →
      get_elem? s.views id ≡ some v →
      Rule record { words = set s.words i (get_or s.words i 0); homes = s.homes; views = set s.views id v }
  unchanged s r i id v at = but_bells s r (set s.words i (get_or s.words i 0)) r.bells id v (set-get_or s.words i 0 ∙ r.words_are) at

  word : (s : St) (r : Rule s) (i : ℕ) → get_or s.words i 0 ≡ get_or (r.ticket ∷ r.serving ∷ length r.longest ∷ r.bells) i 0
  word s r i = ap (λ w. get_or w i 0) r.words_are

  -- whoever has the slot has a ticket
  below_with_slot : (serving ticket : ℕ) (longest : List E) (out : Bool) (holder : ℕ → ℕ) (j : ℕ) (seen : List E) (p : Phase) →
      FitsPhase serving ticket longest out holder j seen p → HasSlot p → serving < ticket
  below_with_slot serving ticket longest out holder j seen Idle k h = absurd h
  below_with_slot serving ticket longest out holder j seen (Drawn t) k h = absurd h
  below_with_slot serving ticket longest out holder j seen (Called t) k h = let a = k.0 in let b = k.1 in omega arith
  below_with_slot serving ticket longest out holder j seen (Published t) k h = let a = k.0 in let b = k.1 in omega arith

  out_below : (s : St) (r : Rule s) → r.out ≡ true → r.serving < r.ticket
  out_below s r o =
      let b = r.busy o in
      below_with_slot r.serving r.ticket r.longest r.out r.holder (r.holder r.serving) b.0.account.seen b.0.phase
      (r.each (r.holder r.serving) b.0 b.1).phase b.2

  ticket_at : (t : ℕ) (p q : Phase) → p ≡ q → HasTicket t p → HasTicket t q
  ticket_at t p q e h = subst (HasTicket t) e h

  slot_at : (p q : Phase) → p ≡ q → HasSlot p → HasSlot q
  slot_at p q e h = subst HasSlot e h

  phase_at : (s : St) (r : Rule s) (id : ℕ) (v : V) (p : Phase) →
      get_elem? s.views id ≡ some v → v.phase ≡ p → FitsPhase r.serving r.ticket r.longest r.out r.holder id v.account.seen p
  phase_at s r id v p at is = subst (FitsPhase r.serving r.ticket r.longest r.out r.holder id v.account.seen) is (r.each id v at).phase

  slot_is : (s : St) (r : Rule s) (b : Bool) → r.out ≡ b → IsSlot list fixed (fixed opened) b r.longest s.homes
  slot_is s r b e = subst (λ x. IsSlot list fixed (fixed opened) x r.longest s.homes) e r.slot

  ticket_or : ℕ → Phase → ℕ
  ticket_or d Idle = d
  ticket_or d (Drawn t) = t
  ticket_or d (Called t) = t
  ticket_or d (Published t) = t

  -- the other seats after a draw
  beside_draw : (serving ticket id : ℕ) (longest : List E) (out : Bool) (holder : ℕ → ℕ) (j : ℕ) (seen : List E) (p : Phase) →
      FitsPhase serving ticket longest out holder j seen p → FitsPhase serving (ticket + 1) longest out (put holder ticket id) j seen p
  beside_draw serving ticket id longest out holder j seen Idle k = tt
  beside_draw serving ticket id longest out holder j seen (Drawn t) k =
      let l = k.1 in (k.0, omega arith, put_else holder ticket id t (λ e. omega arith) ∙ k.2, k.3)
  beside_draw serving ticket id longest out holder j seen (Called t) k =
      let l = k.1 in (k.0, omega arith, put_else holder ticket id t (λ e. omega arith) ∙ k.2, k.3, k.4)
  beside_draw serving ticket id longest out holder j seen (Published t) k =
      let l = k.1 in (k.0, omega arith, put_else holder ticket id t (λ e. omega arith) ∙ k.2, k.3, k.4)

  pub draw_keeps_rule : (slots id t : ℕ) (me : M) → me.0.phase ≡ Idle → me.0.spent ≡ false → t < 2 ^ 64 - 1
      → Allows Rule slots id me 0 (λ n. either (eqb n t) (t + 1) n) (drew (step slots 0 t (t + 1) none) me)
  draw_keeps_rule slots id t me idle alive small s r deep at _ = let n : ℕ = get_or s.words 0 0 in dite (ℕ_discrete n t)
      (λ hit.
      let v = me.0 in
      let same : r.ticket ≡ t = sym (word s r 0) ∙ hit in
      let p = ((r.each id v at).accounts alive).0 in let o = r.ordered in let w : V = in_phase v (Drawn n) in
      let as_ticket : n ≡ r.ticket = word s r 0 in (
        w,
        keeps,
        tt,
        subst (λ b. Rule (stepped s 0 (either b (t + 1) n) id me.1 w keeps)) (sym (eq-eqb n t hit))
            (moved s r id v at alive (set s.words 0 (t + 1)) s.homes (r.ticket + 1) r.serving r.longest r.out (put r.holder r.ticket id)
            (Drawn n) v.account.seen v.account.own
            (ap (λ ws. set ws 0 (t + 1)) r.words_are ∙ (λ k. (sym same k + 1) ∷ r.serving ∷ length r.longest ∷ r.bells))
            (omega arith, omega arith) r.slot (continues_itself maker v.account.number r.longest) p.prefix p.own (
              omega arith,
              omega arith,
              ap (put r.holder r.ticket id) as_ticket
                  ∙ put_here r.holder r.ticket id,
              λ e. ⊎_elim (λ o. let b = out_below s r o in absurd (omega arith)) (λ o. o) (cases_Bool r.out),
            )
            (λ j u _ _ k. beside_draw r.serving r.ticket id r.longest r.out r.holder j u.account.seen u.phase k)
            (λ u lo hi. dite (ℕ_discrete u r.ticket)
            (λ e. (
              w,
              ap (get_elem? (set s.views id w)) (ap (put r.holder r.ticket id) e ∙ put_here r.holder r.ticket id)
                  ∙ set_at s.views id v w at,
              as_ticket
                  ∙ sym e,
            ))
            (λ ne.
            subst (λ x. (y : V) × (get_elem? (set s.views id w) x ≡ some y) × HasTicket u y.phase)
            (sym (put_else r.holder r.ticket id u ne))
            (at_changed (λ y. HasTicket u y.phase) s.views id v w at (λ h. absurd (ticket_at u v.phase Idle idle h)) (r.holder u)
            (r.queue u lo (omega arith)))))
            (λ o.
            let b = out_below s r o in
            subst (λ x. (y : V) × (get_elem? (set s.views id w) x ≡ some y) × HasSlot y.phase)
            (sym (put_else r.holder r.ticket id r.serving (λ e. omega arith)))
            (at_changed (λ y. HasSlot y.phase) s.views id v w at (λ h. absurd (slot_at v.phase Idle idle h)) (r.holder r.serving)
            (r.busy o)))),
        ((λ _. refl), λ ne. absurd (ne hit)),
      ))
      (λ miss. (
        me.0,
        keeps,
        tt,
        subst (λ b. Rule (stepped s 0 (either b (t + 1) n) id me.1 me.0 keeps)) (sym (ne_eqb n t miss)) (unchanged s r 0 id me.0 at),
        ((λ hit. absurd (miss hit)), λ _. refl),
      ))

  -- the other seats after the seat with the served ticket was called
  beside_call : (serving ticket id t0 : ℕ) (longest : List E) (out : Bool) (holder : ℕ → ℕ) (j : ℕ) (seen : List E) (p : Phase) →
      j ≢ id → holder t0 ≡ id → serving ≡ t0 → out ≡ false
      → FitsPhase serving ticket longest out holder j seen p → FitsPhase serving ticket longest true holder j seen p
  beside_call serving ticket id t0 longest out holder j seen Idle apart mine now home k = tt
  beside_call serving ticket id t0 longest out holder j seen (Drawn t) apart mine now home k =
      (k.0, k.1, k.2, λ e. absurd (apart (sym k.2 ∙ (ap holder (e ∙ now) ∙ mine))))
  beside_call serving ticket id t0 longest out holder j seen (Called t) apart mine now home k = absurd (both_ways out home k.3)
  beside_call serving ticket id t0 longest out holder j seen (Published t) apart mine now home k = absurd (both_ways out home k.3)

  pub look_keeps_rule : (slots id t : ℕ) (fixed_part : Option F) (count : ℕ) (me : M) →
      fixed_part ≡ Some (fixed opened) → count ≡ seats → me.0.phase ≡ Drawn t → me.0.spent ≡ false
      → Allows Rule slots id me 1 (λ n. n) (looked list fixed maker fixed_part count (step slots 1 0 0 none) me)
  unfolding ticket_or
  look_keeps_rule slots id t fixed_part count me fixed_is count_is is alive s r deep at _ =
      let n : ℕ = get_or s.words 1 0 in let v = me.0 in
      let same_ticket : (u : ℕ) → v.phase ≡ Drawn u → t ≡ u = λ u e. ap (ticket_or 0) (sym is ∙ e) in dite (ℕ_discrete n t)
      (λ hit.
      let k = phase_at s r id v (Drawn t) at is in
      let now : r.serving ≡ t = sym (word s r 1) ∙ hit in
      let home = k.3 (sym now) in let x = slot_is s r false home in let p = ((r.each id v at).accounts alive).0 in
      let o = r.ordered in
      let w : V = with_lists v (Called t) (list x.0) v.account.own in
      let one : get_elem? s.homes 0 ≡ some (some (Some x.0)) = ap (λ h. get_elem? h 0) x.1 in (
        w,
        takes 0 (Some x.0),
        one,
        moved s r id v at alive (set s.words 1 n) (set s.homes 0 none) r.ticket r.serving r.longest true r.holder (Called t) (list x.0)
            v.account.own
            (set-get_or s.words 1 0 ∙ r.words_are) (o.0, o.1) (ap (λ h. set h 0 none) x.1)
            (continues_itself maker v.account.number r.longest) (subst (λ l. Begins (list x.0) l) x.2 (begins_all (list x.0))) p.own
            (now, k.1, k.2, refl, x.2)
            (λ j u apart _ known.
            beside_call r.serving r.ticket id t r.longest r.out r.holder j u.account.seen u.phase apart k.2 now home known)
            (λ u lo hi.
            at_changed (λ y. HasTicket u y.phase) s.views id v w at (λ h. ticket_at u v.phase (Drawn t) is h) (r.holder u)
            (r.queue u lo hi))
            (λ _. (w, ap (get_elem? (set s.views id w)) (ap r.holder now ∙ k.2) ∙ set_at s.views id v w at, tt)),
        (λ u e. (
          (λ _. (
            x.0,
            (λ i. (with_lists v (Called (same_ticket u e i)) (list x.0) v.account.own, (0, Some x.0) ∷ me.1)),
            record {
              prefix = subst (λ l. Begins v.account.seen l) (sym x.2) p.prefix;
              own = ap (made_by maker v.account.number) x.2 ∙ p.own;
              named = subst (λ n. NamesBelow maker n (list x.0)) (sym count_is) (subst (NamesBelow maker seats) (sym x.2) r.named);
              fixed_stays = ap Some x.3 ∙ sym fixed_is;
            },
          )),
          λ ne. absurd (ne (hit ∙ same_ticket u e)),
        )),
      ))
      (λ miss. (
        v,
        keeps,
        tt,
        unchanged s r 1 id v at,
        (λ u e. ((λ h. absurd (miss (h ∙ sym (same_ticket u e)))), λ _. refl)),
      ))

  -- the other seats while one has the slot: none of them has it
  beside_slot :
      (serving ticket id t0 : ℕ) (longest longest' : List E) (out : Bool) (holder : ℕ → ℕ) (j : ℕ) (seen : List E) (p : Phase) →
      j ≢ id → holder t0 ≡ id → serving ≡ t0 → out ≡ true
      → FitsPhase serving ticket longest out holder j seen p → FitsPhase serving ticket longest' true holder j seen p
  beside_slot serving ticket id t0 longest longest' out holder j seen Idle apart mine now away k = tt
  beside_slot serving ticket id t0 longest longest' out holder j seen (Drawn t) apart mine now away k =
      (k.0, k.1, k.2, λ e. absurd (both_ways out (k.3 e) away))
  beside_slot serving ticket id t0 longest longest' out holder j seen (Called t) apart mine now away k =
      absurd (apart (sym k.2 ∙ (ap holder (sym k.0 ∙ now) ∙ mine)))
  beside_slot serving ticket id t0 longest longest' out holder j seen (Published t) apart mine now away k =
      absurd (apart (sym k.2 ∙ (ap holder (sym k.0 ∙ now) ∙ mine)))

  pub publish_keeps_rule : (slots id t len : ℕ) (given : List E) (me : M) →
      me.0.phase ≡ Called t → me.0.spent ≡ false → len ≡ length given → Continues maker me.0.account.number me.0.account.seen given
      → Allows Rule slots id me 2 (λ _. len) (λ _. published maker given (step slots 2 len 0 none) me len)
  unfolding ticket_or
  publish_keeps_rule slots id t len given me is alive size goes s r deep at _ =
      let v = me.0 in let k = phase_at s r id v (Called t) at is in let o = r.ordered in
      let own = made_by maker v.account.number given in
      let w : V = with_lists v (Published t) given own in
      let on : Continues maker v.account.number r.longest given = subst (λ l. Continues maker v.account.number l given) k.4 goes in (
        w,
        keeps,
        tt,
        moved s r id v at alive (set s.words 2 len) s.homes r.ticket r.serving given true r.holder (Published t) given own
            (ap (λ ws. set ws 2 len) r.words_are ∙ (λ i. r.ticket ∷ r.serving ∷ size i ∷ r.bells)) (o.0, o.1) (slot_is s r true k.3) on
            (begins_all given) refl
            (k.0, k.1, k.2, refl, refl)
            (λ j u apart _ known.
            beside_slot r.serving r.ticket id t r.longest given r.out r.holder j u.account.seen u.phase apart k.2 k.0 k.3 known)
            (λ u lo hi.
            at_changed (λ y. HasTicket u y.phase) s.views id v w at (λ h. ticket_at u v.phase (Called t) is h) (r.holder u)
            (r.queue u lo hi))
            (λ _. (w, ap (get_elem? (set s.views id w)) (ap r.holder k.0 ∙ k.2) ∙ set_at s.views id v w at, tt)),
        (λ u e. let same : t ≡ u = ap (ticket_or 0) (sym is ∙ e) in (λ i. (with_lists v (Published (same i)) given own, me.1))),
      )

  -- the other seats after the turn was passed
  beside_pass : (serving ticket id t0 : ℕ) (longest : List E) (out : Bool) (holder : ℕ → ℕ) (j : ℕ) (seen : List E) (p : Phase) →
      j ≢ id → holder t0 ≡ id → serving ≡ t0 → out ≡ true
      → FitsPhase serving ticket longest out holder j seen p → FitsPhase (serving + 1) ticket longest false holder j seen p
  beside_pass serving ticket id t0 longest out holder j seen Idle apart mine now away k = tt
  beside_pass serving ticket id t0 longest out holder j seen (Drawn t) apart mine now away k =
      dite (ℕ_discrete t serving) (λ e. absurd (both_ways out (k.3 e) away)) (λ ne. let a = k.0 in (omega arith, k.1, k.2, λ _. refl))
  beside_pass serving ticket id t0 longest out holder j seen (Called t) apart mine now away k =
      absurd (apart (sym k.2 ∙ (ap holder (sym k.0 ∙ now) ∙ mine)))
  beside_pass serving ticket id t0 longest out holder j seen (Published t) apart mine now away k =
      absurd (apart (sym k.2 ∙ (ap holder (sym k.0 ∙ now) ∙ mine)))

  pub pass_keeps_rule : (slots id t : ℕ) (x : T) (me : M) →
      me.0.phase ≡ Published t → me.0.spent ≡ false → me.1 ≡ (0, Some x) ∷ [] → list x ≡ me.0.account.seen → fixed x ≡ fixed opened
      → Allows Rule slots id me 1 (λ n. (n + 1) % 2 ^ 64) (passed (step slots 1 1 0 none) me)
  pass_keeps_rule slots id t x me is alive carried has stays s r deep at _ =
      let v = me.0 in
      let n : ℕ = get_or s.words 1 0 in
      let k = phase_at s r id v (Published t) at is in let o = r.ordered in let p = ((r.each id v at).accounts alive).0 in
      let w : V = in_phase v Idle in
      let n_is : n ≡ r.serving = word s r 1 in
      let lt = k.1 in let at_t = k.0 in let next : (n + 1) % 2 ^ 64 ≡ r.serving + 1 = omega arith in (
        w,
        gives,
        tt,
        subst (λ c. Rule (stepped s 1 ((n + 1) % 2 ^ 64) id c w gives)) (sym carried)
            (moved s r id v at alive (set s.words 1 ((n + 1) % 2 ^ 64)) (set s.homes 0 (some (Some x))) r.ticket (r.serving + 1)
            r.longest false r.holder Idle v.account.seen v.account.own
            (ap (λ ws. set ws 1 ((n + 1) % 2 ^ 64)) r.words_are ∙ (λ i. r.ticket ∷ next i ∷ length r.longest ∷ r.bells)) (omega arith, o.1)
            (x, ap (λ h. set h 0 (some (Some x))) (slot_is s r true k.3), has ∙ k.4, stays)
            (continues_itself maker v.account.number r.longest) p.prefix p.own tt
            (λ j u apart _ known.
            beside_pass r.serving r.ticket id t r.longest r.out r.holder j u.account.seen u.phase apart k.2 k.0 k.3 known)
            (λ u lo hi.
            at_changed (λ y. HasTicket u y.phase) s.views id v w at
            (λ h. let q : t ≡ u = ticket_at u v.phase (Published t) is h in absurd (omega arith)) (r.holder u)
            (r.queue u (omega arith) hi))
            (λ e. absurd (true≢false (sym e)))),
        (λ i. (w, (let left : List (ℕ × Option T) → List (ℕ × Option T) = rest in left (carried i)))),
      )

  pub ring_keeps_rule : (slots id i : ℕ) (me : M) → 3 ≤ i →
      Allows Rule slots id me i (λ n. (n + 1) % 2 ^ 64) (rang (step slots i 1 0 none) me)
  ring_keeps_rule slots id i me behind s r deep at _ =
      let n : ℕ = (get_or s.words i 0 + 1) % 2 ^ 64 in let x = set_behind i n r.ticket r.serving (length r.longest) r.bells behind in (
        me.0,
        keeps,
        tt,
        but_bells s r (set s.words i n) x.0 id me.0 (ap (λ ws. set ws i n) r.words_are ∙ x.1) at,
        refl,
      )
