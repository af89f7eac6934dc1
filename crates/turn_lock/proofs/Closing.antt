-- What a lock has once all seats are joined into one.
use Rattle.std.proofs.Common.{◌≡◌, ℕ, ◌<◌, true, false, List, [], ◌∷◌, ◌++◌, Option, Some, sym, ap, ◌∙◌, subst, ⊎_elim, inl, inr, arith}
use Rattle.std.specs.Prelude.{All, Contains, map}
use Rattle.std.specs.List.{AllByRecursion}
use Rattle.std.proofs.lemmas.List.Elements.{All-from_recursion}
use Rattle.std.proofs.lemmas.Bool.{cases_Bool}
use mathlib.Core.Option.{some, some-injective}
use lib.ListN.{get_elem?}
use Rattle.atomic_table.specs.Table.{State, Final, Seen}
use Rattle.turn_lock.specs.declared.rule.Account.{Account}
use Rattle.turn_lock.specs.declared.rule.View.{View}
use Rattle.turn_lock.specs.declared.rule.Phase.TheVariants.{Idle}
use Rattle.turn_lock.specs.Entries.{Begins, made_by, NamesBelow}
use Rattle.turn_lock.specs.Seats.{SeatModel, AgreesWith}
use Rattle.turn_lock.specs.Rule.{HasSlot, HasNumber, FitsList, AllFit, accounts_of, IsSlot, KeepsRule}
use Rattle.turn_lock.specs.Closing.{account_of, HasAccount, AllNoted}
use Rattle.turn_lock.proofs.EntryLists.{begins_on}
use Rattle.turn_lock.proofs.Accounts.{place_of_number}
use Rattle.turn_lock.proofs.Rows.{all_and_last, number_is_noted}

module _ {E : Type 0} (maker : E → Option ℕ) (xs : List E) (made : ℕ) (place : ℕ → ℕ) (j : ℕ) where
  noted_fits : (a : Account E) (accounts : List (Account E)) →
      AllFit maker xs made place j accounts → HasAccount accounts a → FitsList maker xs made place j a
  noted_fits a [] fit h = absurd h
  noted_fits a (b ∷ rest) fit h =
      ⊎_elim (λ e. subst (λ (y : Account E). FitsList maker xs made place j y) e fit.0) (λ t. noted_fits a rest fit.1 t) h

  -- seats whose accounts are noted agree with the list that these fit
  noted_agree : (accounts : List (Account E)) (seats : List (SeatModel E)) →
      AllFit maker xs made place j accounts → AllNoted accounts seats → AllByRecursion (AgreesWith maker xs) seats
  noted_agree accounts [] fit noted = tt
  noted_agree accounts (s ∷ ss) fit noted =
      let p = noted_fits (account_of s) accounts fit noted.0 in ((p.prefix, p.own), noted_agree accounts ss fit noted.1)

module _ {T E F : Type 0} (list : T → List E) (fixed : T → F) (maker : E → Option ℕ) (opened : T) (seats : ℕ) where
  abbrev St : Type 0
  St = State (Option T) (View E F)

  abbrev Rule : St → Type 0
  Rule = KeepsRule list fixed maker opened seats

  -- where one idle view answers for all numbers, the slot is at home
  at_home : (s : St) (r : Rule s) (id : ℕ) (v : View E F) →
      get_elem? s.views id ≡ some v → v.phase ≡ Idle → v.spent ≡ false → ((n : ℕ) → n < seats → HasNumber n (accounts_of v)) →
      r.out ≡ false
  at_home s r id v at idle alive all = ⊎_elim (λ out. absurd (no_one out)) (λ home. home) (cases_Bool r.out)
    where
      no_one : r.out ≡ true → ⊥
      no_one out =
          let b = r.busy out in
          let j = r.holder r.serving in let f = r.each j b.0 b.1 in let me = r.each id v at in let o = r.ordered in ⊎_elim
          (λ over. subst HasSlot (f.spent_is_idle over) b.2)
          (λ lives.
          let q = (f.accounts lives).0 in
          let below = q.below in
          let mine : r.place b.0.account.number ≡ id =
          place_of_number maker r.longest r.made r.place id b.0.account.number (accounts_of v) (me.accounts alive)
          (all b.0.account.number (omega arith)) in
          let same : j ≡ id =
          sym q.here
          ∙ mine in
          let is : b.0 ≡ v = some-injective b.0 v (sym b.1 ∙ (ap (get_elem? s.views) same ∙ at)) in
          subst HasSlot (ap (λ (y : View E F). y.phase) is ∙ idle) b.2)
          (cases_Bool b.0.spent)

  -- the value that the slot then has
  pub closing : (id : ℕ) (v : View E F) (words : List ℕ) (slots : List (Option T)) (row : List (SeatModel E)) (last : SeatModel E)
      → Final (Seen Rule id v) words slots → v.phase ≡ Idle → v.spent ≡ false →
      ((n : ℕ) → n < seats → Contains (map (λ (s : SeatModel E). s.number) (row ++ last ∷ [])) n) → AllNoted v.joined row
      → v.account.number ≡ last.number → v.account.own ≡ last.own → Begins last.seen v.account.seen → (out : Option T) →
      get_elem? slots 0 ≡ some out
      → (x : T) × (out ≡ Some x) × (fixed x ≡ fixed opened) × All (AgreesWith maker (list x)) (row ++ last ∷ []) ×
      NamesBelow maker seats (list x)
  closing id v words slots row last f idle alive all noted number own begins out is = let s = f.0 in let r = f.1.0 in let at = f.1.1 in
      let home =
      at_home s r id v at idle alive
      (λ n l. ⊎_elim (λ e. inl (number ∙ e)) inr (number_is_noted n v.joined row last noted (all n l))) in
      let slot = subst (λ b. IsSlot list fixed (fixed opened) b r.longest s.homes) home r.slot in
      let x = slot.0 in let same : r.longest ≡ list x = sym slot.2 in
      let fit = subst (λ l. AllFit maker l r.made r.place id (accounts_of v)) same ((r.each id v at).accounts alive) in let p = fit.0 in (
        x,
        some-injective out (Some x) (sym is ∙ f.4 0 (Some x) (ap (λ h. get_elem? h 0) slot.1)),
        slot.3,
        All-from_recursion (AgreesWith maker (list x)) (row ++ last ∷ [])
            (all_and_last (AgreesWith maker (list x)) row last (noted_agree maker (list x) r.made r.place id v.joined row fit.1 noted)
            (begins_on last.seen v.account.seen (list x) begins p.prefix, ap (λ n. made_by maker n (list x)) (sym number) ∙ (p.own ∙ own))),
        subst (NamesBelow maker seats) same r.named,
      )
