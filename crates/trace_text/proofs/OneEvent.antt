-- The line of an event is that of this event alone, and so is the word of an end.
use Rattle.std.proofs.Common.{ℕ, ◌≡◌, inl, inr, ◌<◌, ◌+◌, ◌*◌, Bool, true, false, List, [], ◌∷◌, ◌++◌, codes, refl, ap, sym, ◌∙◌, subst, arith}
use Rattle.std.proofs.Common.{append_assoc, drop, flat_map, decimal, Option, Some, None}
use Rattle.std.proofs.lemmas.List.{append_cancel_left}
use Rattle.spec_core.specs.Code.{Program}
use Rattle.spec_core.specs.Lists.{Each}
use Rattle.spec_core.specs.Ready.{AreNamed}
use Rattle.spec_core.specs.Sorts.{FitsData}
use Rattle.rule_model.specs.declared.action.Action.{Action}
use Rattle.rule_model.specs.declared.offer.Offer.{Offer}
use Rattle.rule_model.specs.declared.reply.LimitKind.{LimitKind}
use Rattle.rule_model.specs.declared.reply.LimitKind.TheVariants.{Steps, Spread, Offers}
use Rattle.rule_model.specs.Derivations.{Derivation}
use Rattle.rule_model.specs.Answers.{Answer, taken, deadlock, stalls, beyond, not_now, ended, spent, too_large, limit}
use Rattle.rule_model.specs.Events.{OfferName, Event, pended, acted, replied, stalled, left, Ending, exits, deadlocked, waiting}
use Rattle.rule_model.specs.Events.{ends_beyond, ends_spent, ends_too_large, ends_at_limit}
use Rattle.rule_model.specs.Legal.{IsReplyAt}
use Rattle.trace_text.specs.Fits.{ActionFits, AnswerFits, ByFits, EventFits, EndingFits, TreeFits}
use Rattle.trace_text.specs.Trace.{Names, name_text, by_text, offer_text, action_text, tree_text, limit_word, answer_word, event_line, end_word}
use Rattle.trace_text.specs.Names.{names_in}
use Rattle.value_text.proofs.Names.{EndsTerm}
use Rattle.trace_text.proofs.OneLine.{first, second, one_action, one_by, one_client, one_ground, one_limit, one_name, one_names, one_offer, names_text}
use Rattle.trace_text.proofs.OneTree.{one_tree, three}

-- the same answer with this number of actions before it
abbrev pub numbered : ℕ → Answer → Answer
numbered n (taken at values) = taken n values
numbered n (deadlock at) = deadlock n
numbered n (stalls at) = stalls n
numbered n (beyond at d) = beyond n d
numbered n (not_now at) = not_now n
numbered n (ended at) = ended n
numbered n (spent at term) = spent n term
numbered n (too_large at term) = too_large n term
numbered n (limit at kind) = limit n kind

pub is_numbered : (n : ℕ) (a : Answer) → IsReplyAt a n → a ≡ numbered n a
is_numbered n (taken at values) h = absurd h
is_numbered n (deadlock at) h = ap deadlock h
is_numbered n (stalls at) h = absurd h
is_numbered n (beyond at d) h = ap (λ k. beyond k d) h
is_numbered n (not_now at) h = ap not_now h
is_numbered n (ended at) h = ap ended h
is_numbered n (spent at term) h = ap (λ k. spent k term) h
is_numbered n (too_large at term) h = ap (λ k. too_large k term) h
is_numbered n (limit at kind) h = ap (λ k. limit k kind) h

-- the same event, but for the number in a reply
abbrev pub renumbered : ℕ → Event → Event
renumbered n (replied client number answer) = replied client number (numbered n answer)
renumbered n (pended client number offer ask) = pended client number offer ask
renumbered n (acted action d by) = acted action d by
renumbered n (stalled all) = stalled all
renumbered n (left client) = left client

abbrev limit_parts : LimitKind → ℕ → Type 0
limit_parts kind n = (r : List ℕ) → three (limit_word kind ++ r) ≡ n

-- the words of limits begin alike
limit_begins : (kind : LimitKind) (r : List ℕ) → three (limit_word kind ++ r) ≡ 108 * 65536 + 105 * 256 + 109
limit_begins Steps r = refl
limit_begins Spread r = refl
limit_begins Offers r = refl

module _ (program : Program) (fits : FitsData program.theory) (named : AreNamed program) where
  abbrev names : Names
  names = names_in program

  -- what begins the word of an answer
  abbrev answer_begins : Answer → ℕ
  answer_begins (taken at values) = 0
  answer_begins (deadlock at) = 100 * 65536 + 101 * 256 + 97
  answer_begins (stalls at) = 0
  answer_begins (beyond at d) = 98 * 65536 + 101 * 256 + 121
  answer_begins (not_now at) = 110 * 65536 + 111 * 256 + 116
  answer_begins (ended at) = 101 * 65536 + 110 * 256 + 100
  answer_begins (spent at term) = 115 * 65536 + 112 * 256 + 101
  answer_begins (too_large at term) = 108 * 65536 + 97 * 256 + 114
  answer_begins (limit at kind) = 108 * 65536 + 105 * 256 + 109

  answer_begins_so : (a : Answer) (r : List ℕ) → AnswerFits program a → three (answer_word names a ++ r) ≡ answer_begins a
  answer_begins_so (taken at values) r h = absurd h
  answer_begins_so (deadlock at) r h = refl
  answer_begins_so (stalls at) r h = absurd h
  answer_begins_so (beyond at d) r h = refl
  answer_begins_so (not_now at) r h = refl
  answer_begins_so (ended at) r h = refl
  answer_begins_so (spent at term) r h = refl
  answer_begins_so (too_large at term) r h = refl
  answer_begins_so (limit at kind) r h = limit_begins kind r

  one_answer : (a b : Answer) (n : ℕ) (r s : List ℕ) → AnswerFits program a → AnswerFits program b →
      answer_word names a ++ (10 ∷ r) ≡ answer_word names b ++ (10 ∷ s) → (numbered n a ≡ numbered n b) × (r ≡ s)
  one_answer (deadlock at) (deadlock to) n r s a b h = (refl, ap (drop 9) h)
  one_answer (beyond at d) (beyond to e) n r s a b h =
      let one =
      one_tree program fits named d e (10 ∷ r) (10 ∷ s) a b (inl refl) (inl refl)
      (ap (drop 7) (sym (append_assoc (codes "beyond ") (tree_text names d) (10 ∷ r)) ∙ h
      ∙ append_assoc (codes "beyond ") (tree_text names e) (10 ∷ s))) in
      (ap (beyond n) one.0, ap (drop 1) one.1)
  one_answer (not_now at) (not_now to) n r s a b h = (refl, ap (drop 7) h)
  one_answer (ended at) (ended to) n r s a b h = (refl, ap (drop 6) h)
  one_answer (spent at t) (spent to u) n r s a b h =
      let one =
      one_ground program fits named t u (10 ∷ r) (10 ∷ s) a b (inl refl) (inl refl)
      (ap (drop 6) (sym (append_assoc (codes "spent ") (names.term t) (10 ∷ r)) ∙ h ∙ append_assoc (codes "spent ") (names.term u) (10 ∷ s))) in
      (ap (spent n) one.0, ap (drop 1) one.1)
  one_answer (too_large at t) (too_large to u) n r s a b h =
      let one =
      one_ground program fits named t u (10 ∷ r) (10 ∷ s) a b (inl refl) (inl refl)
      (ap (drop 6) (sym (append_assoc (codes "large ") (names.term t) (10 ∷ r)) ∙ h ∙ append_assoc (codes "large ") (names.term u) (10 ∷ s))) in
      (ap (too_large n) one.0, ap (drop 1) one.1)
  one_answer (limit at x) (limit to y) n r s a b h =
      let one = one_limit x y (10 ∷ r) (10 ∷ s) h in
      (ap (limit n) one.0, ap (drop 1) one.1)
  one_answer (taken at values) y n r s a b h = absurd a
  one_answer (stalls at) y n r s a b h = absurd a
  one_answer x (taken at values) n r s a b h = absurd b
  one_answer x (stalls at) n r s a b h = absurd b
  one_answer x y n r s a b h =
      let k = answer_begins_so x (10 ∷ r) a in
      let l = answer_begins_so y (10 ∷ s) b in
      absurd (omega (arith, ap three h, k, l))

  pend_parts : (w m o r : List ℕ) → (w ++ m ++ codes " " ++ o) ++ r ≡ w ++ (m ++ (32 ∷ (o ++ r)))
  pend_parts w m o r = simp append_assoc

  pub act_parts : (w a b u t r : List ℕ) → (w ++ a ++ b ++ u ++ t) ++ r ≡ w ++ (a ++ (b ++ (u ++ (t ++ r))))
  act_parts w a b u t r = simp append_assoc

  -- behind an action stands the offer that it takes, or the word `rules`
  by_ends : (by : Option OfferName) (r : List ℕ) → EndsTerm (by_text by ++ (codes " rules " ++ r))
  by_ends None r = inr (inl refl)
  by_ends (Some name) r = inr (inl refl)

  by_second : (by : Option OfferName) (r : List ℕ) (b : ℕ) → b < 98 → second (by_text by ++ (codes " rules " ++ r)) ≡ b → ⊥
  by_second None r b h e = omega (arith, e)
  by_second (Some name) r b h e = omega (arith, e)

  one_pend : (k m : ℕ) (p q : ℕ) (x y : Offer) (r s : List ℕ) → EventFits program (pended k p x true) → EventFits program (pended m q y true) →
      name_text (k, p) ++ (32 ∷ (offer_text names x ++ (10 ∷ r))) ≡ name_text (m, q) ++ (32 ∷ (offer_text names y ++ (10 ∷ s))) →
      ((k ≡ m) × (p ≡ q) × (x ≡ y)) × (r ≡ s)
  one_pend k m p q x y r s a b h =
      let one = one_name (k, p) (m, q) (32 ∷ (offer_text names x ++ (10 ∷ r))) (32 ∷ (offer_text names y ++ (10 ∷ s))) a.0 b.0 refl refl h in
      let offer =
      one_offer program fits named x y (10 ∷ r) (10 ∷ s) a.1 b.1 (line_ends r) (line_ends s) (ap (drop 1) one.1) in
      ((ap (λ z. z.0) one.0, ap (λ z. z.1) one.0, offer.0), ap (drop 1) offer.1)
    where
      line_ends : (r : List ℕ) → EndsTerm (10 ∷ r) × (first (10 ∷ r) ≡ 32 → second (10 ∷ r) ≡ 33 → ⊥) × (first (10 ∷ r) ≡ 32 → second (10 ∷ r) ≡ 63 → ⊥)
      line_ends r = (inl refl, λ e k. omega (arith, e), λ e k. omega (arith, e))

  pended_alike : (k m p q : ℕ) (x y : Offer) (ask : Bool) → (k ≡ m) × (p ≡ q) × (x ≡ y) → pended k p x ask ≡ pended m q y ask
  pended_alike k m p q x y ask h =
      ap (λ z. pended z p x ask) h.0 ∙ ap (λ z. pended m z x ask) h.1 ∙ ap (λ z. pended m q z ask) h.2

  -- behind an action, which offer it takes, and the word `rules` stands one and the same text
  pub one_act : (x y : Action) (by bz : Option OfferName) (t u : List ℕ) → ActionFits program x → ActionFits program y → ByFits by → ByFits bz →
      codes "act " ++ (action_text names x ++ (by_text by ++ (codes " rules " ++ t))) ≡
      codes "act " ++ (action_text names y ++ (by_text bz ++ (codes " rules " ++ u))) → (x ≡ y) × (by ≡ bz) × (t ≡ u)
  one_act x y by bz t u a b c d h =
      let action =
      one_action program fits named x y (by_text by ++ (codes " rules " ++ t)) (by_text bz ++ (codes " rules " ++ u)) a b (
        by_ends by t,
        λ p q. by_second by t 33 (omega arith) q,
        λ p q. by_second by t 63 (omega arith) q,
      ) (
        by_ends bz u,
        λ p q. by_second bz u 33 (omega arith) q,
        λ p q. by_second bz u 63 (omega arith) q,
      ) (ap (drop 4) h) in
      let taker = one_by by bz t u c d action.1 in
      (action.0, taker.0, taker.1)

  pub one_acted : (x y : Action) (by bz : Option OfferName) (d e : Derivation) (r s : List ℕ) → TreeFits program d → TreeFits program e →
      (x ≡ y) × (by ≡ bz) × (tree_text names d ++ (10 ∷ r) ≡ tree_text names e ++ (10 ∷ s)) → (acted x d by ≡ acted y e bz) × (r ≡ s)
  one_acted x y by bz d e r s a b h =
      let tree = one_tree program fits named d e (10 ∷ r) (10 ∷ s) a b (inl refl) (inl refl) h.2 in
      (ap (λ z. acted z d by) h.0 ∙ ap (λ z. acted y z by) tree.0 ∙ ap (λ z. acted y e z) h.1, ap (drop 1) tree.1)

  pub one_event : (x y : Event) (n : ℕ) (r s : List ℕ) → EventFits program x → EventFits program y →
      event_line names x ++ (10 ∷ r) ≡ event_line names y ++ (10 ∷ s) → (renumbered n x ≡ renumbered n y) × (r ≡ s)
  one_event (pended k p x true) (pended m q y true) n r s a b h =
      let one =
      one_pend k m p q x y r s a b
      (ap (drop 4) (sym (pend_parts (codes "ask ") (name_text (k, p)) (offer_text names x) (10 ∷ r)) ∙ h
      ∙ pend_parts (codes "ask ") (name_text (m, q)) (offer_text names y) (10 ∷ s))) in
      (pended_alike k m p q x y true one.0, one.1)
  one_event (pended k p x false) (pended m q y false) n r s a b h =
      let one =
      one_pend k m p q x y r s a b
      (ap (drop 5) (sym (pend_parts (codes "pend ") (name_text (k, p)) (offer_text names x) (10 ∷ r)) ∙ h
      ∙ pend_parts (codes "pend ") (name_text (m, q)) (offer_text names y) (10 ∷ s))) in
      (pended_alike k m p q x y false one.0, one.1)
  one_event (acted x d by) (acted y e bz) n r s a b h =
      let one =
      one_act x y by bz (tree_text names d ++ (10 ∷ r)) (tree_text names e ++ (10 ∷ s)) a.0 b.0 a.2 b.2
      (sym (act_parts (codes "act ") (action_text names x) (by_text by) (codes " rules ") (tree_text names d) (10 ∷ r)) ∙ h
      ∙ act_parts (codes "act ") (action_text names y) (by_text bz) (codes " rules ") (tree_text names e) (10 ∷ s)) in
      one_acted x y by bz d e r s a.1 b.1 one
  one_event (replied k p x) (replied m q y) n r s a b h =
      let one =
      one_name (k, p) (m, q) (32 ∷ (answer_word names x ++ (10 ∷ r))) (32 ∷ (answer_word names y ++ (10 ∷ s))) a.0 b.0 refl refl
      (ap (drop 6) (sym (pend_parts (codes "reply ") (name_text (k, p)) (answer_word names x) (10 ∷ r)) ∙ h
      ∙ pend_parts (codes "reply ") (name_text (m, q)) (answer_word names y) (10 ∷ s))) in
      let answer = one_answer x y n r s a.1 b.1 (ap (drop 1) one.1) in (
        ap (λ z. replied z p (numbered n x)) (ap (λ z. z.0) one.0) ∙ ap (λ z. replied m z (numbered n x)) (ap (λ z. z.1) one.0)
            ∙ ap (replied m q) answer.0,
        answer.1,
      )
  one_event (stalled xs) (stalled ys) n r s a b h =
      let one =
      one_names xs ys r s a.1 b.1
      (ap (drop 5) (sym (append_assoc (codes "stall") (names_text xs) (10 ∷ r)) ∙ h ∙ append_assoc (codes "stall") (names_text ys) (10 ∷ s))) in
      (ap stalled one.0, one.1)
  one_event (left k) (left m) n r s a b h =
      let one =
      one_client k m (10 ∷ r) (10 ∷ s) a b refl refl
      (ap (drop 6) (sym (append_assoc (codes "leave ") (decimal k) (10 ∷ r)) ∙ h ∙ append_assoc (codes "leave ") (decimal m) (10 ∷ s))) in
      (ap left one.0, ap (drop 1) one.1)
  one_event (pended k p x true) (pended m q y false) n r s a b h = absurd (omega (arith, ap three h))
  one_event (pended k p x false) (pended m q y true) n r s a b h = absurd (omega (arith, ap three h))
  one_event (pended k p x true) y n r s a b h = absurd (omega (arith, ap three h))
  one_event (pended k p x false) y n r s a b h = absurd (omega (arith, ap three h))
  one_event x (pended m q y true) n r s a b h = absurd (omega (arith, ap three h))
  one_event x (pended m q y false) n r s a b h = absurd (omega (arith, ap three h))
  one_event _ _ n r s a b h = absurd (omega (arith, ap three h))

  -- what begins the word of an end
  abbrev end_begins : Ending → ℕ
  end_begins exits = 101 * 65536 + 120 * 256 + 105
  end_begins deadlocked = 100 * 65536 + 101 * 256 + 97
  end_begins waiting = 119 * 65536 + 97 * 256 + 105
  end_begins ends_beyond = 98 * 65536 + 101 * 256 + 121
  end_begins (ends_spent term) = 115 * 65536 + 112 * 256 + 101
  end_begins (ends_too_large term) = 108 * 65536 + 97 * 256 + 114
  end_begins (ends_at_limit kind) = 108 * 65536 + 105 * 256 + 109

  end_begins_so : (e : Ending) (r : List ℕ) → three (end_word names e ++ r) ≡ end_begins e
  end_begins_so exits r = refl
  end_begins_so deadlocked r = refl
  end_begins_so waiting r = refl
  end_begins_so ends_beyond r = refl
  end_begins_so (ends_spent term) r = refl
  end_begins_so (ends_too_large term) r = refl
  end_begins_so (ends_at_limit kind) r = limit_begins kind r

  pub one_end : (x y : Ending) (r s : List ℕ) → EndingFits program x → EndingFits program y →
      end_word names x ++ (10 ∷ r) ≡ end_word names y ++ (10 ∷ s) → (x ≡ y) × (r ≡ s)
  one_end exits exits r s a b h = (refl, ap (drop 5) h)
  one_end deadlocked deadlocked r s a b h = (refl, ap (drop 9) h)
  one_end waiting waiting r s a b h = (refl, ap (drop 8) h)
  one_end ends_beyond ends_beyond r s a b h = (refl, ap (drop 7) h)
  one_end (ends_spent t) (ends_spent u) r s a b h =
      let one =
      one_ground program fits named t u (10 ∷ r) (10 ∷ s) a b (inl refl) (inl refl)
      (ap (drop 6) (sym (append_assoc (codes "spent ") (names.term t) (10 ∷ r)) ∙ h ∙ append_assoc (codes "spent ") (names.term u) (10 ∷ s))) in
      (ap ends_spent one.0, ap (drop 1) one.1)
  one_end (ends_too_large t) (ends_too_large u) r s a b h =
      let one =
      one_ground program fits named t u (10 ∷ r) (10 ∷ s) a b (inl refl) (inl refl)
      (ap (drop 6) (sym (append_assoc (codes "large ") (names.term t) (10 ∷ r)) ∙ h ∙ append_assoc (codes "large ") (names.term u) (10 ∷ s))) in
      (ap ends_too_large one.0, ap (drop 1) one.1)
  one_end (ends_at_limit x) (ends_at_limit y) r s a b h =
      let one = one_limit x y (10 ∷ r) (10 ∷ s) h in
      (ap ends_at_limit one.0, ap (drop 1) one.1)
  one_end x y r s a b h =
      let k = end_begins_so x (10 ∷ r) in
      let l = end_begins_so y (10 ∷ s) in
      absurd (omega (arith, ap three h, k, l))
