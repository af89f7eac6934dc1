-- Lines, and what is none.
use Rattle.std.proofs.Common.{ℕ, ◌≡◌, ◌++◌, List, [], ◌∷◌, Option, Some, None, Result, Ok, Err, IfOk, true, false, codes, refl, sym, subst, ap, ◌∙◌, arith}
use Rattle.std.specs.Prelude.{IfSome, IfNone}
use Rattle.std.proofs.lemmas.List.{append_cancel_left}
use Rattle.spec_core.specs.Code.{Program}
use Rattle.spec_core.specs.declared.memory.Memory.{Memory}
use Rattle.script_text.specs.Offers.{SpellsOffer, SpellsNoOffer}
use Rattle.script_text.specs.Wishes.{Wished}
use Rattle.script_text.proofs.TheOffer.{one_offer}
use Rattle.simulator_lines.specs.declared.line.SimLine.{SimLine}
use Rattle.simulator_lines.specs.Lines.{Asked, menu, step, offered, trace, quit, asked_of, are_digits, number_in, stands_apart}
use Rattle.simulator_lines.specs.Lines.{IsLongLine, step_line, offer_line, IsLine, menu_line, trace_line, quit_line, long_line, IsNoLongLine, IsNoLine}

-- the first byte of a line of one kind
abbrev pub Answer : Type 0
Answer = Result (Option SimLine) Memory

abbrev first : List ℕ → ℕ
first [] = 0
first (b ∷ bs) = b

-- a step's line is no offer's
never_both : (text digits rest : List ℕ) → text ≡ codes "do " ++ digits → text ≡ codes "offer" ++ rest → ⊥
never_both text digits rest h k =
    let same : 100 ≡ 111 = ap first (sym h ∙ k) in
    omega (arith, same)

module _ (program : Program) (text : List ℕ) where
  pub is_step : (digits : List ℕ) → text ≡ codes "do " ++ digits → are_digits digits ≡ true → (n : ℕ) → n ≡ number_in digits →
      IsLongLine program text (step n)
  is_step digits h k n e = subst (λ m. IsLongLine program text (step m)) (sym e) (step_line digits h k)

  pub no_step : (digits : List ℕ) → text ≡ codes "do " ++ digits → are_digits digits ≡ false → IsNoLongLine program text
  no_step digits h k = record { none = λ asked. go }
    where
      go : {asked : Asked} → IsLongLine program text asked → ⊥
      go (step_line others e d) =
          let same : digits ≡ others = append_cancel_left (codes "do ") digits others (sym h ∙ e) in
          let both : false ≡ true = sym k ∙ ap are_digits same ∙ d in cc
      go (offer_line rest w e a s) = never_both text digits rest h e

  pub no_long : ((digits : List ℕ) → text ≡ codes "do " ++ digits → ⊥) → ((rest : List ℕ) → text ≡ codes "offer" ++ rest → ⊥) →
      IsNoLongLine program text
  no_long h k = record { none = λ asked. go }
    where
      go : {asked : Asked} → IsLongLine program text asked → ⊥
      go (step_line digits e d) = h digits e
      go (offer_line rest w e a s) = k rest e

  -- a text that isn't one of the single words, and no long line, is no line
  pub no_line : (text ≡ codes "menu" → ⊥) → (text ≡ codes "trace" → ⊥) → (text ≡ codes "quit" → ⊥) → IsNoLongLine program text →
      IsNoLine program text
  no_line m t q l = record { none = λ asked. go }
    where
      go : {asked : Asked} → IsLine program text asked → ⊥
      go (menu_line e) = m e
      go (trace_line e) = t e
      go (quit_line e) = q e
      go {asked} (long_line h) = l.none asked h

-- the line of an offer
module _ (program : Program) (rest : List ℕ) where
  pub is_offer : (w : Wished) → stands_apart rest ≡ true → SpellsOffer program rest w → IsLongLine program (codes "offer" ++ rest) (offered w)
  is_offer w a s = offer_line rest w refl a s

  no_offer_of : (text : List ℕ) → text ≡ codes "offer" ++ rest → ((w : Wished) → stands_apart rest ≡ true → SpellsOffer program rest w → ⊥) →
      IsNoLongLine program text
  no_offer_of text h n = record { none = λ asked. go }
    where
      go : {asked : Asked} → IsLongLine program text asked → ⊥
      go (step_line digits e d) = never_both text digits rest e h
      go (offer_line others w e a s) =
          let same : others ≡ rest = append_cancel_left (codes "offer") others rest (sym e ∙ h) in
          n w (subst (λ z. stands_apart z ≡ true) same a) (subst (λ z. SpellsOffer program z w) same s)

  pub not_apart : stands_apart rest ≡ false → IsNoLongLine program (codes "offer" ++ rest)
  not_apart h = no_offer_of (codes "offer" ++ rest) refl (λ w a s. let both : false ≡ true = sym h ∙ a in cc)

  pub no_offer : SpellsNoOffer program rest → IsNoLongLine program (codes "offer" ++ rest)
  no_offer h = no_offer_of (codes "offer" ++ rest) refl (λ w a s. h.none w s)

-- a text asks for one thing
module _ (program : Program) (text : List ℕ) where
  not_long : (word : List ℕ) → text ≡ word → (first word ≡ 100 → ⊥) → (first word ≡ 111 → ⊥) → {asked : Asked} → IsLongLine program text asked → ⊥
  not_long word h d o (step_line digits e k) = d (ap first (sym h ∙ e))
  not_long word h d o (offer_line rest w e a s) = o (ap first (sym h ∙ e))

  one_long : (one_offer : (rest : List ℕ) (w v : Wished) → SpellsOffer program rest w → SpellsOffer program rest v → w ≡ v) →
      {a b : Asked} → IsLongLine program text a → IsLongLine program text b → a ≡ b
  one_long one (step_line digits e d) (step_line others f k) =
      ap (λ z. step (number_in z)) (append_cancel_left (codes "do ") digits others (sym e ∙ f))
  one_long one (step_line digits e d) (offer_line rest w f a s) = absurd (never_both text digits rest e f)
  one_long one (offer_line rest w f a s) (step_line digits e d) = absurd (never_both text digits rest e f)
  one_long one (offer_line rest w e a s) (offer_line others v f b t) =
      let same : others ≡ rest = append_cancel_left (codes "offer") others rest (sym f ∙ e) in
      ap offered (one rest w v s (subst (λ z. SpellsOffer program z v) same t))

  pub one_asked : {a b : Asked} → IsLine program text a → IsLine program text b → a ≡ b
  one_asked (menu_line e) (menu_line f) = refl
  one_asked (menu_line e) (trace_line f) = let same : 109 ≡ 116 = ap first (sym e ∙ f) in absurd (omega (arith, same))
  one_asked (menu_line e) (quit_line f) = let same : 109 ≡ 113 = ap first (sym e ∙ f) in absurd (omega (arith, same))
  one_asked (menu_line e) (long_line h) = absurd (not_long (codes "menu") e (λ q. omega (arith, q)) (λ q. omega (arith, q)) h)
  one_asked (trace_line e) (menu_line f) = let same : 116 ≡ 109 = ap first (sym e ∙ f) in absurd (omega (arith, same))
  one_asked (trace_line e) (trace_line f) = refl
  one_asked (trace_line e) (quit_line f) = let same : 116 ≡ 113 = ap first (sym e ∙ f) in absurd (omega (arith, same))
  one_asked (trace_line e) (long_line h) = absurd (not_long (codes "trace") e (λ q. omega (arith, q)) (λ q. omega (arith, q)) h)
  one_asked (quit_line e) (menu_line f) = let same : 113 ≡ 109 = ap first (sym e ∙ f) in absurd (omega (arith, same))
  one_asked (quit_line e) (trace_line f) = let same : 113 ≡ 116 = ap first (sym e ∙ f) in absurd (omega (arith, same))
  one_asked (quit_line e) (quit_line f) = refl
  one_asked (quit_line e) (long_line h) = absurd (not_long (codes "quit") e (λ q. omega (arith, q)) (λ q. omega (arith, q)) h)
  one_asked (long_line h) (menu_line e) = absurd (not_long (codes "menu") e (λ q. omega (arith, q)) (λ q. omega (arith, q)) h)
  one_asked (long_line h) (trace_line e) = absurd (not_long (codes "trace") e (λ q. omega (arith, q)) (λ q. omega (arith, q)) h)
  one_asked (long_line h) (quit_line e) = absurd (not_long (codes "quit") e (λ q. omega (arith, q)) (λ q. omega (arith, q)) h)
  one_asked (long_line h) (long_line k) = one_long (one_offer program) h k

  pub only_this : (a : Asked) → IsLine program text a → (other : Asked) → IsLine program text other → other ≡ a
  only_this a h other k = one_asked k h

  pub menu_at : text ≡ codes "menu" → IsLine program text menu
  menu_at h = menu_line h

  pub trace_at : text ≡ codes "trace" → IsLine program text trace
  trace_at h = trace_line h

  pub quit_at : text ≡ codes "quit" → IsLine program text quit
  quit_at h = quit_line h

  -- what is answered of a line of several words
  pub long_answer : (r : Answer) → IfOk r (λ found. IfSome found (λ l. IsLongLine program text (asked_of l))) →
      IfOk r (λ found. IfSome found (λ l. IsLine program text (asked_of l)))
  long_answer (Ok (Some l)) h = long_line h
  long_answer (Ok None) h = tt
  long_answer (Err e) h = tt

  pub only_answer : (r : Answer) → IfOk r (λ found. IfSome found (λ l. IsLongLine program text (asked_of l))) →
      IfOk r (λ found. IfSome found (λ l. (other : Asked) → IsLine program text other → other ≡ asked_of l))
  only_answer (Ok (Some l)) h = λ other k. one_asked k (long_line h)
  only_answer (Ok None) h = tt
  only_answer (Err e) h = tt

  pub no_answer : (r : Answer) → (text ≡ codes "menu" → ⊥) → (text ≡ codes "trace" → ⊥) → (text ≡ codes "quit" → ⊥) →
      IfOk r (λ found. IfNone found (IsNoLongLine program text)) → IfOk r (λ found. IfNone found (IsNoLine program text))
  no_answer (Ok (Some l)) m t q h = tt
  no_answer (Ok None) m t q h = no_line program text m t q h
  no_answer (Err e) m t q h = tt

pub ruleset offer_steps = (is_offer, not_apart, no_offer)

pub ruleset long_steps = (is_step, no_step, no_long)

pub ruleset line_steps = (menu_at, trace_at, quit_at, only_this, long_answer, only_answer, no_answer)
