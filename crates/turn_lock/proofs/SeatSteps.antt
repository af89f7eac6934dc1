-- A new lock keeps the rule, and each seat that is split off or joined does.
use Rattle.std.proofs.Common.{◌≡◌, ◌≢◌, ℕ, ◌+◌, ◌<◌, ◌≤◌, Bool, true, false, true≢false, cond, List, [], ◌∷◌, ◌++◌, length, set, Option}
use Rattle.std.proofs.Common.{Some, refl, sym, ap, ◌∙◌, subst, ⊎_elim, inl, inr, arith, length-set}
use Rattle.std.specs.Prelude.{◌||◌}
use Rattle.std.proofs.lemmas.Bool.{cases_Bool}
use Rattle.spec_core.proofs.Booleans.{or_true}
use mathlib.Core.Logic.{dite}
use mathlib.Core.Option.{some, some-injective}
use native.Mathlib.Decide.{ℕ_discrete}
use lib.ListN.{get_elem?}
use Rattle.atomic_table.specs.Table.{State, Splits, Joins, opening}
use Rattle.atomic_table.proofs.Lists.{at_set, set_else, at_longer, at_last}
use Rattle.turn_lock.specs.declared.rule.Origin.{Origin}
use Rattle.turn_lock.specs.declared.rule.View.{View}
use Rattle.turn_lock.specs.declared.rule.Phase.{Phase}
use Rattle.turn_lock.specs.declared.rule.Phase.TheVariants.{Idle}
use Rattle.turn_lock.specs.Entries.{made_by, NamesBelow}
use Rattle.turn_lock.specs.Rule.{HasTicket, HasSlot, FitsPhase, HasNumber, AnswersFor, accounts_of, origin_of, first_view, FitsView}
use Rattle.turn_lock.specs.Rule.{KeepsRule}
use Rattle.turn_lock.specs.Steps.{after_split, new_view, after_join, spent_view}
use Rattle.turn_lock.proofs.Places.{put, put_here, put_else, set_at, at_end, at_only, at_changed}
use Rattle.turn_lock.proofs.EntryLists.{begins_all, either_begins}
use Rattle.turn_lock.proofs.Accounts.{has_number_left, has_number_right, has_number_cases, differ_append, place_of_number, all_fit_moved}
use Rattle.turn_lock.proofs.Accounts.{all_fit_append}

module _ {T E F : Type 0} (list : T → List E) (fixed : T → F) (maker : E → Option ℕ) (opened : T) (seats : ℕ) where
  abbrev V : Type 0
  V = View E F

  abbrev St : Type 0
  St = State (Option T) V

  abbrev Rule : St → Type 0
  Rule = KeepsRule list fixed maker opened seats

  abbrev O : Origin E F
  O = origin_of list fixed opened seats

  pub opening_keeps_rule : (len : ℕ) (bells : List ℕ) →
      len ≡ length (list opened) → 1 ≤ seats → NamesBelow maker seats (list opened) →
      Rule (opening (0 ∷ 0 ∷ len ∷ bells) (Some opened ∷ []) (first_view list fixed maker opened seats))
  opening_keeps_rule len bells size some_seat named = let v0 : V = first_view list fixed maker opened seats in record {
    ticket = 0;
    serving = 0;
    bells = bells;
    longest = list opened;
    out = false;
    made = 1;
    holder = λ _. 0;
    place = λ _. 0;
    first_at = 0;
    words_are = λ i. 0 ∷ 0 ∷ size i ∷ bells;
    ordered = (omega arith, omega arith, some_seat);
    slot = (opened, refl, refl, refl);
    began = begins_all (list opened);
    named = named;
    unmade = λ _ _. refl;
    each =
        λ j u e.
        let t = at_only j v0 u e in
        subst
        (λ (x : ℕ × V). FitsView list fixed maker O 0 0 1 (list opened) false (λ _. 0) (λ _. 0) 0 x.0 x.1)
        (λ i. (sym t.0 i, t.1 i)) record {
          origin_stays = λ _. refl;
          spent_is_idle = λ h. absurd (true≢false (sym h));
          phase = tt;
          accounts = λ _. (record { prefix = begins_all (list opened); own = refl; below = omega arith; here = refl }, tt);
          different = λ _. ((λ h. h), tt);
          first = λ _. (refl, refl, refl);
        };
    queue = λ t lo hi. absurd (omega arith);
    busy = λ h. absurd (true≢false (sym h));
    first_seat = (v0, refl, refl);
    numbers = λ n l. (v0, refl, (refl, inl (omega arith)));
  }

  pub split_keeps_rule : (id : ℕ) (v : V) →
      v.phase ≡ Idle → v.spent ≡ false → v.is_first ≡ true → v.next < v.origin.seats →
      Splits Rule id v (after_split v) (new_view maker v)
  split_keeps_rule id v idle alive first room s r at =
      let me = r.each id v at in
      let new : V = new_view maker v in
      let left : V = after_split v in
      let end : ℕ = length s.views in let made : ℕ = r.made in let place' : ℕ → ℕ = put r.place made end in
      let next : v.next ≡ made = (me.first first).1 in
      let origin : v.origin ≡ O = me.origin_stays alive in
      let ends : length (set s.views id left) ≡ end = length-set s.views id left in
      let seats_is : v.origin.seats ≡ seats = ap (λ (b : Origin E F). b.seats) origin in
      let same : (n : ℕ) → n < made → place' n ≡ r.place n = λ n l. put_else r.place made end n (λ e. omega arith) in
      let here : (j n : ℕ) → n < made → r.place n ≡ j → place' n ≡ j = λ j n l e. same n l ∙ e in
      let o = r.ordered in let p = (me.accounts alive).0 in record {
        ticket = r.ticket;
        serving = r.serving;
        bells = r.bells;
        longest = r.longest;
        out = r.out;
        made = made + 1;
        holder = r.holder;
        place = place';
        first_at = r.first_at;
        words_are = r.words_are;
        ordered = (o.0, o.1, omega arith);
        slot = r.slot;
        began = r.began;
        named = r.named;
        unmade = λ n l. r.unmade n (omega arith);
        each = λ j u e. ⊎_elim
            (λ was. ⊎_elim
            (λ (t : (j ≡ id) × (left ≡ u)).
            subst (λ (x : ℕ × V).
            FitsView list fixed maker O r.serving r.ticket (made + 1) r.longest r.out r.holder place' r.first_at x.0 x.1)
            (λ i. (sym t.0 i, t.1 i)) record {
              origin_stays = me.origin_stays;
              spent_is_idle = me.spent_is_idle;
              phase = me.phase;
              accounts =
                  λ h.
                  all_fit_moved maker r.longest made (made + 1) r.place place' id id (omega arith) (here id) (accounts_of v)
                  (me.accounts h);
              different = me.different;
              first = λ h. let f = me.first h in (f.0, ap (λ (n : ℕ). n + 1) f.1, f.2);
            })
            (λ (t : (j ≢ id) × (get_elem? s.views j ≡ some u)). let f = r.each j u t.1 in record {
              origin_stays = f.origin_stays;
              spent_is_idle = f.spent_is_idle;
              phase = f.phase;
              accounts =
                  λ h.
                  all_fit_moved maker r.longest made (made + 1) r.place place' j j (omega arith) (here j) (accounts_of u)
                  (f.accounts h);
              different = f.different;
              first = λ h. absurd (t.0 ((f.first h).2 ∙ sym (me.first first).2));
            })
            (at_set s.views id j left u was))
            (λ (t : (j ≡ length (set s.views id left)) × (new ≡ u)). subst
            (λ (x : ℕ × V). FitsView list fixed maker O r.serving r.ticket (made + 1) r.longest r.out r.holder place' r.first_at x.0 x.1)
            (λ i. (sym (t.0 ∙ ends) i, t.1 i)) record {
              origin_stays = λ _. origin;
              spent_is_idle = λ _. refl;
              phase = tt;
              accounts = λ _. (
                record {
                  prefix = p.prefix;
                  own =
                      ap (λ n. made_by maker n r.longest) next
                      ∙ (r.unmade made (omega arith) ∙ (λ i. made_by maker (sym next i) (sym origin i).opening));
                  below = omega arith;
                  here = ap place' next ∙ put_here r.place made end;
                },
                tt,
              );
              different = λ _. ((λ h. h), tt);
              first = λ h. absurd (true≢false (sym h));
            })
            (at_end (set s.views id left) new u j e);
        queue =
            λ t lo hi.
            let x = at_changed (λ y. HasTicket t y.phase) s.views id v left at (λ h. h) (r.holder t) (r.queue t lo hi) in
            (x.0, at_longer (set s.views id left) (new ∷ []) (r.holder t) x.0 x.1, x.2);
        busy =
            λ b.
            let x = at_changed (λ y. HasSlot y.phase) s.views id v left at (λ h. h) (r.holder r.serving) (r.busy b) in
            (x.0, at_longer (set s.views id left) (new ∷ []) (r.holder r.serving) x.0 x.1, x.2);
        first_seat =
            let x = at_changed (λ y. y.is_first ≡ true) s.views id v left at (λ h. h) r.first_at r.first_seat in
            (x.0, at_longer (set s.views id left) (new ∷ []) r.first_at x.0 x.1, x.2);
        numbers = λ n l. dite (ℕ_discrete n made)
            (λ e. (
              new,
              ap (get_elem? (set s.views id left ++ new ∷ [])) (ap place' e ∙ put_here r.place made end)
                  ∙ at_last (set s.views id left) new end ends,
              (refl, inl (next ∙ sym e)),
            ))
            (λ ne. let x = at_changed (AnswersFor n) s.views id v left at (λ h. h) (r.place n) (r.numbers n (omega arith)) in (
              x.0,
              ap (get_elem? (set s.views id left ++ new ∷ [])) (put_else r.place made end n ne)
                  ∙ at_longer (set s.views id left) (new ∷ []) (r.place n) x.0 x.1,
              x.2,
            ));
      }

  pub join_keeps_rule : (id : ℕ) (v : V) (other : ℕ) (w : V) →
      v.phase ≡ Idle → v.spent ≡ false → w.phase ≡ Idle → w.spent ≡ false → Joins Rule id v other w (after_join v w) spent_view
  join_keeps_rule id v other w idle alive rests lives s r at apart there =
      let both : V = after_join v w in
      let vs = set s.views id both in let at' : get_elem? s.views other ≡ some w = sym (set_else s.views id other both apart) ∙ there in
      let me = r.each id v at in
      let them = r.each other w at' in
      let p = (me.accounts alive).0 in let q = (them.accounts lives).0 in let joined = (me.accounts alive).1 in
      let onto : ℕ → ℕ = put (λ k. k) other id in let place' : ℕ → ℕ = λ n. onto (r.place n) in let first_at' : ℕ = onto r.first_at in
      let from_me : (n : ℕ) → n < r.made → r.place n ≡ id → place' n ≡ id =
      λ n _ e. ap onto e ∙ put_else (λ k. k) other id id (λ z. apart (sym z)) in
      let from_them : (n : ℕ) → n < r.made → r.place n ≡ other → place' n ≡ id = λ n _ e. ap onto e ∙ put_here (λ k. k) other id in
      let elsewhere : (j : ℕ) → j ≢ other → (n : ℕ) → n < r.made → r.place n ≡ j → place' n ≡ j =
      λ j ne n _ e. ap onto e ∙ put_else (λ k. k) other id j ne in
      let no_twin : (n : ℕ) → r.place n ≡ id → HasNumber n (accounts_of w) → ⊥ =
      λ n mine theirs.
      apart (sym (place_of_number maker r.longest r.made r.place other n (accounts_of w) (them.accounts lives) theirs) ∙ mine) in
      record {
        ticket = r.ticket;
        serving = r.serving;
        bells = r.bells;
        longest = r.longest;
        out = r.out;
        made = r.made;
        holder = r.holder;
        place = place';
        first_at = first_at';
        words_are = r.words_are;
        ordered = r.ordered;
        slot = r.slot;
        began = r.began;
        named = r.named;
        unmade = r.unmade;
        each = λ j u e. ⊎_elim
            (λ (t : (j ≡ other) × (spent_view ≡ u)).
            subst (λ (y : V). FitsView list fixed maker O r.serving r.ticket r.made r.longest r.out r.holder place' first_at' j y)
            t.1 record {
              origin_stays = λ h. absurd (true≢false h);
              spent_is_idle = λ _. refl;
              phase = tt;
              accounts = λ h. absurd (true≢false h);
              different = λ h. absurd (true≢false h);
              first = λ h. absurd (true≢false (sym h));
            })
            (λ (t : (j ≢ other) × (get_elem? vs j ≡ some u)). ⊎_elim
            (λ (a : (j ≡ id) × (both ≡ u)).
            subst
            (λ (x : ℕ × V).
            FitsView list fixed maker O r.serving r.ticket r.made r.longest r.out r.holder place' first_at' x.0 x.1)
            (λ i. (sym a.0 i, a.1 i)) record {
              origin_stays = me.origin_stays;
              spent_is_idle = me.spent_is_idle;
              phase = subst (λ (x : Phase). FitsPhase r.serving r.ticket r.longest r.out r.holder id both.account.seen x) (sym idle) tt;
              accounts = λ _. (
                record {
                  prefix = either_begins v.account.seen w.account.seen r.longest p.prefix q.prefix;
                  own = p.own;
                  below = p.below;
                  here = from_me v.account.number p.below p.here;
                },
                all_fit_append maker r.longest r.made place' id (accounts_of w) v.joined
                    (all_fit_moved maker r.longest r.made r.made r.place place' other id (omega arith) from_them (accounts_of w)
                    (them.accounts lives))
                    (all_fit_moved maker r.longest r.made r.made r.place place' id id (omega arith) from_me v.joined joined),
              );
              different = λ _. (
                λ h.
                    ⊎_elim (no_twin v.account.number p.here) (me.different alive).0
                    (has_number_cases v.account.number (accounts_of w) v.joined h),
                differ_append (accounts_of w) v.joined (them.different lives) (me.different alive).1
                    (λ n theirs mine. no_twin n (place_of_number maker r.longest r.made r.place id n v.joined joined mine) theirs),
              );
              first = first_stays alive w.is_first refl me.first them.first;
            })
            (λ (a : (j ≢ id) × (get_elem? s.views j ≡ some u)). let f = r.each j u a.1 in record {
              origin_stays = f.origin_stays;
              spent_is_idle = f.spent_is_idle;
              phase = f.phase;
              accounts =
                  λ h.
                  all_fit_moved maker r.longest r.made r.made r.place place' j j (omega arith) (elsewhere j t.0) (accounts_of u)
                  (f.accounts h);
              different = f.different;
              first = λ h. let g = f.first h in (g.0, g.1, g.2 ∙ sym (put_else (λ k. k) other id r.first_at (λ z. t.0 (g.2 ∙ z))));
            })
            (at_set s.views id j both u t.1))
            (at_set vs other j spent_view u e);
        queue =
            λ t lo hi.
            at_changed (λ y. HasTicket t y.phase) vs other w spent_view there (λ h. subst (HasTicket t) rests h) (r.holder t)
            (at_changed (λ y. HasTicket t y.phase) s.views id v both at (λ h. h) (r.holder t) (r.queue t lo hi));
        busy =
            λ b.
            at_changed (λ y. HasSlot y.phase) vs other w spent_view there (λ h. subst HasSlot rests h) (r.holder r.serving)
            (at_changed (λ y. HasSlot y.phase) s.views id v both at (λ h. h) (r.holder r.serving) (r.busy b));
        first_seat = let x = r.first_seat in dite (ℕ_discrete r.first_at other)
            (λ e. let is : x.0 ≡ w = some-injective x.0 w (sym x.1 ∙ (ap (get_elem? s.views) e ∙ at')) in (
              both,
              ap (get_elem? (set vs other spent_view)) (ap onto e ∙ put_here (λ k. k) other id)
                  ∙ (set_else vs other id spent_view (λ z. apart (sym z)) ∙ set_at s.views id v both at),
              ap (λ b. v.is_first || b)
                  (sym (ap (λ (y : V). y.is_first) is) ∙ x.2)
                  ∙ or_true v.is_first,
            ))
            (λ ne. let y = at_changed (λ y. y.is_first ≡ true) s.views id v both at (λ h. ap (λ b. b || w.is_first) h) r.first_at x in (
              y.0,
              ap (get_elem? (set vs other spent_view)) (put_else (λ k. k) other id r.first_at ne)
                  ∙ (set_else vs other r.first_at spent_view ne ∙ y.1),
              y.2,
            ));
        numbers = λ n l. let x = r.numbers n l in dite (ℕ_discrete (r.place n) other)
            (λ e.
            let is : x.0 ≡ w = some-injective x.0 w (sym x.1 ∙ (ap (get_elem? s.views) e ∙ at')) in
            let a = subst (AnswersFor n) is x.2 in (
              both,
              ap (get_elem? (set vs other spent_view)) (from_them n l e)
                  ∙ (set_else vs other id spent_view (λ z. apart (sym z)) ∙ set_at s.views id v both at),
              (alive, inr (has_number_left n (accounts_of w) v.joined a.1)),
            ))
            (λ ne.
            let y =
            at_changed (AnswersFor n) s.views id v both at
            (λ a. (alive, ⊎_elim inl (λ h. inr (has_number_right n (accounts_of w) v.joined h)) a.1)) (r.place n) x in (
              y.0,
              ap (get_elem? (set vs other spent_view)) (put_else (λ k. k) other id (r.place n) ne)
                  ∙ (set_else vs other (r.place n) spent_view ne ∙ y.1),
              y.2,
            ));
      }
    where
      -- one of the two was the first seat, or neither
      first_stays : v.spent ≡ false →
          (b : Bool) → w.is_first ≡ b → (v.is_first ≡ true → (v.spent ≡ false) × (v.next ≡ r.made) × (id ≡ r.first_at)) →
          (w.is_first ≡ true → (w.spent ≡ false) × (w.next ≡ r.made) × (other ≡ r.first_at))
          → (after_join v w).is_first ≡ true →
          (v.spent ≡ false) × ((after_join v w).next ≡ r.made) × (id ≡ put (λ k. k) other id r.first_at)
      first_stays alive true is f g h =
          let t = g is in (
            alive,
            ap (λ b. cond b w.next v.next) is
                ∙ t.1,
            sym (ap (put (λ k. k) other id) (sym t.2) ∙ put_here (λ k. k) other id),
          )
      first_stays alive false is f g h =
          ⊎_elim (λ on.
          let t = f on in (
            alive,
            ap (λ b. cond b w.next v.next) is
                ∙ t.1,
            t.2
                ∙ sym (put_else (λ k. k) other id r.first_at (λ z. apart (sym z ∙ sym t.2))),
          ))
          (λ off. absurd (true≢false (sym h ∙ (λ i. off i || is i)))) (cases_Bool v.is_first)
