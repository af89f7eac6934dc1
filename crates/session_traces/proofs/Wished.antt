-- What clients of a session offer fits.
use Rattle.std.proofs.Common.{ℕ, suc, ◌+◌, ◌≡◌, ◌<◌, ◌≤◌, ◌^◌, refl, sym, ap, subst, List, [], ◌∷◌, arith, length, nat_eq}
use Rattle.std.proofs.Common.{inl, inr, eqb-true}
use Rattle.std.proofs.Math.Arith.{lt_of_le-ne}
use Rattle.std.proofs.lemmas.Bool.{eq-eqb}
use Rattle.spec_core.specs.Code.{Program}
use Rattle.spec_core.specs.Lists.{Each, IsOneOf}
use Rattle.spec_core.specs.Sorts.{IsDeclaredSort}
use Rattle.spec_core.proofs.Members.{one_filter}
use Rattle.log_states.proofs.Tests.{by_cases}
use Rattle.rule_model.specs.declared.offer.Field.{Field}
use Rattle.rule_model.specs.declared.offer.Field.TheVariants.{Give, Take}
use Rattle.rule_model.specs.Answering.{offers_in}
use Rattle.rule_model.specs.Events.{Event}
use Rattle.rule_model.specs.States.{PendingOffer}
use Rattle.rule_model.specs.Wishes.{Wish}
use Rattle.script_offers.specs.Valued.{AreScriptValued, AreValued, IsValuedField, IsValuedWish, OneByOne}
use Rattle.script_text.specs.Scripts as scripts
use Rattle.script_text.specs.Scripts.{WishFits}
use Rattle.script_text.specs.Wishes.{Wished, WishedField, gives, takes}
use Rattle.session_laws.specs.Answers.{numbered_for, offers_by}
use Rattle.session_threads.specs.Runs.{AnswersClients}
use Rattle.trace_text.specs.Fits.{FieldFits, OfferFits}

-- as many on either side
pub same_length : {A B : Type 0} (R : A → B → Type 0) (xs : List A) (ys : List B) → OneByOne R xs ys → length xs ≡ length ys
same_length R [] [] h = refl
same_length R (x ∷ xs) (y ∷ ys) h = ap suc (same_length R xs ys h.1)
same_length R [] (y ∷ ys) h = absurd h
same_length R (x ∷ xs) [] h = absurd h

-- what holds of each on the left side makes something hold of each on the right side
other_side : {A B : Type 0} (R : A → B → Type 0) (P : A → Type 0) (Q : B → Type 0) → ((x : A) (y : B) → R x y → P x → Q y) →
    (xs : List A) (ys : List B) → OneByOne R xs ys → Each P xs → Each Q ys
other_side R P Q f [] [] h k = tt
other_side R P Q f (x ∷ xs) (y ∷ ys) h k = (f x y h.0 k.0, other_side R P Q f xs ys h.1 k.1)
other_side R P Q f [] (y ∷ ys) h k = absurd h
other_side R P Q f (x ∷ xs) [] h k = absurd h

module _ (program : Program) where
  valued_field : (w : WishedField) (f : Field) → IsValuedField program.theory w f → scripts.FieldFits program.theory w → FieldFits program f
  valued_field (gives t) (Give v) h k = record { term = h.0; spelled = h.1.spelled; fits = h.1.value.is_value.fits }
  valued_field (takes sort) (Take other) h k = subst (IsDeclaredSort program.theory) (sym h) k
  valued_field (gives t) (Take other) h k = absurd h
  valued_field (takes sort) (Give v) h k = absurd h

  valued_wish : (w : Wished) (o : Wish) → IsValuedWish program.theory w o → WishFits program w → OfferFits program o.offer
  valued_wish w o h k = (
    subst (λ (z : ℕ). z < length program.gates) (sym h.gate) k.gate,
    other_side (IsValuedField program.theory) (scripts.FieldFits program.theory) (FieldFits program) valued_field w.fields o.offer.fields
        h.fields k.fields,
  )

  -- a client makes few offers, each of which fits
  abbrev pub OffersFit : List Wish → Type 0
  OffersFit wishes = (length wishes < 2 ^ 64) × Each (λ (o : Wish). OfferFits program o.offer) wishes

  valued_client : (ws : List Wished) (os : List Wish) → AreValued program.theory ws os →
      (length ws < 2 ^ 64) × Each (WishFits program) ws → OffersFit os
  valued_client ws os h k = (
    subst (λ (z : ℕ). z < 2 ^ 64) (same_length (IsValuedWish program.theory) ws os h) k.0,
    other_side (IsValuedWish program.theory) (WishFits program) (λ (o : Wish). OfferFits program o.offer) valued_wish ws os h k.1,
  )

  both_hold : (clients : List (List Wished)) → Each (λ (ws : List Wished). length ws < 2 ^ 64) clients →
      Each (Each (WishFits program)) clients →
      Each (λ (ws : List Wished). (length ws < 2 ^ 64) × Each (WishFits program) ws) clients
  both_hold [] h k = tt
  both_hold (ws ∷ clients) h k = ((h.0, k.0), both_hold clients h.1 k.1)

  pub valued_clients : (clients : List (List Wished)) (offers : List (List Wish)) → AreScriptValued program.theory clients offers →
      Each (λ (ws : List Wished). length ws < 2 ^ 64) clients → Each (Each (WishFits program)) clients → Each OffersFit offers
  valued_clients clients offers h few fits =
      other_side (AreValued program.theory) (λ (ws : List Wished). (length ws < 2 ^ 64) × Each (WishFits program) ws) OffersFit valued_client
      clients offers h (both_hold clients few fits)

  -- an offer of a log fits, with its number
  pub record IsFit (p : PendingOffer) : Type 0 where
    pub from_one : 1 ≤ p.number
    pub small : p.number < 2 ^ 64
    pub offer : OfferFits program p.offer

  record IsNumbered (client n count : ℕ) (p : PendingOffer) : Type 0 where
    pub low : n ≤ p.number
    pub high : p.number < n + count
    pub offer : OfferFits program p.offer

  one_numbered : (client n : ℕ) (wishes : List Wish) (p : PendingOffer) → Each (λ (o : Wish). OfferFits program o.offer) wishes →
      IsOneOf p (numbered_for client n wishes) → IsNumbered client n (length wishes) p
  one_numbered client n [] p h i = absurd i
  one_numbered client n (wish ∷ wishes) p h (inl e) =
      let number : n ≡ p.number = sym (ap (λ (q : PendingOffer). q.number) e) in
      record {
        low = omega (arith, number);
        high = omega (arith, number);
        offer = subst (OfferFits program) (sym (ap (λ (q : PendingOffer). q.offer) e)) h.0;
      }
  one_numbered client n (wish ∷ wishes) p h (inr i) =
      let r = one_numbered client (n + 1) wishes p h.1 i in
      let low = r.low in
      let high = r.high in
      record { low = omega (arith, low); high = omega (arith, high); offer = r.offer }

  -- each offer of a client of the session does
  pub of_clients : (first : ℕ) (offers : List (List Wish)) (log : List Event) → AnswersClients first offers log → Each OffersFit offers →
      (p : PendingOffer) → IsOneOf p (offers_in log) → first ≤ p.client → p.client < first + length offers → IsFit p
  of_clients first [] log h k p i low high = absurd (omega (arith, low, high))
  of_clients first (wishes ∷ offers) log h k p i low high =
      by_cases (nat_eq p.client first)
      (λ e.
      let same = eqb-true p.client first e in
      let mine : IsOneOf p (offers_by first log) = one_filter (λ (q : PendingOffer). nat_eq q.client first) p (offers_in log) i e in
      let r = one_numbered first 1 wishes p k.0.1 (subst (IsOneOf p) h.0.offers mine) in
      let from = r.low in
      let till = r.high in
      let few = k.0.0 in
      record { from_one = from; small = omega (arith, till, few); offer = r.offer })
      (λ e.
      let other : first ≡ p.client → ⊥ = λ is. let on = eq-eqb p.client first (sym is) in let never : ⊥ = cc in never in
      let above = lt_of_le-ne low other in
      of_clients (first + 1) offers log h.1 k.1 p i (omega (arith, above)) (omega (arith, high)))
