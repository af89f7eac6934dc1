-- The text of a tree of rules is the text of that tree alone, whatever follows.
use Rattle.std.proofs.Common.{ℕ, ◌≡◌, inl, inr, ◌<◌, ◌+◌, ◌*◌, ◌^◌, List, [], ◌∷◌, ◌++◌, codes, refl, ap, sym, ◌∙◌, subst, arith, append_assoc}
use Rattle.std.proofs.Common.{drop, flat_map, decimal}
use Rattle.std.proofs.lemmas.List.{append_cancel_left}
use Rattle.spec_core.specs.Code.{Program}
use Rattle.spec_core.specs.Lists.{Each}
use Rattle.spec_core.specs.Ready.{AreNamed}
use Rattle.spec_core.specs.Sorts.{FitsData}
use Rattle.rule_model.specs.declared.rules.Slot.{Slot}
use Rattle.rule_model.specs.declared.rules.Slot.TheVariants.{Of, Mark, Blank}
use Rattle.rule_model.specs.Derivations.{Derivation, pre, int, exiting, chl, chr, val, gate, guard, letting, parl, parr, both, hiding, pass}
use Rattle.rule_model.specs.Derivations.{enstep, enend, disstep, disend, distake, calling, rel}
use Rattle.trace_text.specs.Fits.{SlotFits, TreeFits}
use Rattle.trace_text.specs.Trace.{Names, slot_text, slots_text, tree_text}
use Rattle.trace_text.specs.Names.{names_in}
use Rattle.value_text.proofs.Names.{EndsTerm}
use Rattle.trace_text.proofs.OneLine.{first, second, one_list}
use Rattle.value_text.proofs.OneValue.{begins_value}
use Rattle.value_text.proofs.Runs.{one_number}

-- the first three bytes as one number
abbrev pub three : List ℕ → ℕ
three s = first s * 65536 + second s * 256 + first (drop 2 s)

no_square : (r s : List ℕ) → EndsTerm r → r ≡ 91 ∷ s → ⊥
no_square r s h e = go (subst EndsTerm e h)
  where
    go : EndsTerm (91 ∷ s) → ⊥
    go (inl q) = omega (arith, q)
    go (inr (inl q)) = omega (arith, q)
    go (inr (inr (inl q))) = omega (arith, q)
    go (inr (inr (inr (inl q)))) = omega (arith, q)
    go (inr (inr (inr (inr (inl q))))) = omega (arith, q)
    go (inr (inr (inr (inr (inr q))))) = q

module _ (program : Program) (fits : FitsData program.theory) (named : AreNamed program) where
  abbrev names : Names
  names = names_in program

  abbrev tree : Derivation → List ℕ
  tree d = tree_text names d

  no_mark : (v r s : List ℕ) → SlotFits program (Of v) → names.value v ++ r ≡ 63 ∷ s → ⊥
  no_mark v r s a h = begins_value program.theory fits named.operations v 63 r s a refl (λ e. omega (arith, e)) h

  one_slot : (x y : Slot) (r s : List ℕ) → SlotFits program x → SlotFits program y → EndsTerm r → EndsTerm s →
      slot_text names x ++ r ≡ slot_text names y ++ s → (x ≡ y) × (r ≡ s)
  one_slot (Of v) (Of w) r s a b c d h = let one = one_list program fits named v w r s a b c d h in (ap Of one.0, one.1)
  one_slot (Of v) Mark r s a b c d h = absurd (no_mark v r s a h)
  one_slot (Of v) Blank r s a b c d h = absurd b
  one_slot Mark (Of w) r s a b c d h = absurd (no_mark w s r b (sym h))
  one_slot Mark Mark r s a b c d h = (refl, ap (drop 1) h)
  one_slot Mark Blank r s a b c d h = absurd b
  one_slot Blank y r s a b c d h = absurd a

  abbrev more_text : List Slot → List ℕ
  more_text slots = flat_map (λ other. codes "," ++ slot_text names other) slots

  more_end : (slots : List Slot) (r : List ℕ) → EndsTerm (more_text slots ++ (93 ∷ r))
  more_end [] r = inr (inr (inr (inr (inl refl))))
  more_end (x ∷ slots) r = inr (inr (inr (inl refl)))

  one_more_slots : (xs ys : List Slot) (r s : List ℕ) → Each (SlotFits program) xs → Each (SlotFits program) ys →
      more_text xs ++ (93 ∷ r) ≡ more_text ys ++ (93 ∷ s) → (xs ≡ ys) × (r ≡ s)
  one_more_slots [] [] r s a b h = (refl, ap (drop 1) h)
  one_more_slots [] (y ∷ ys) r s a b h = absurd (omega (arith, ap first h))
  one_more_slots (x ∷ xs) [] r s a b h = absurd (omega (arith, ap first h))
  one_more_slots (x ∷ xs) (y ∷ ys) r s a b h =
      let one =
      one_slot x y (more_text xs ++ (93 ∷ r)) (more_text ys ++ (93 ∷ s)) a.0 b.0 (more_end xs r) (more_end ys s)
      (ap (drop 1) (sym (append_assoc (codes "," ++ slot_text names x) (more_text xs) (93 ∷ r)) ∙ h
      ∙ append_assoc (codes "," ++ slot_text names y) (more_text ys) (93 ∷ s))) in
      let rest = one_more_slots xs ys r s a.1 b.1 one.1 in
      (ap (λ z. z ∷ xs) one.0 ∙ ap (λ z. y ∷ z) rest.0, rest.1)

  slots_parts : (o t m c r : List ℕ) → (o ++ t ++ m ++ c) ++ r ≡ o ++ (t ++ (m ++ (c ++ r)))
  slots_parts o t m c r = simp append_assoc

  one_some_slots : (x y : Slot) (xs ys : List Slot) (r s : List ℕ) → Each (SlotFits program) (x ∷ xs) → Each (SlotFits program) (y ∷ ys) →
      slots_text names (x ∷ xs) ++ r ≡ slots_text names (y ∷ ys) ++ s → (x ∷ xs ≡ y ∷ ys) × (r ≡ s)
  one_some_slots x y xs ys r s a b h =
      let one =
      one_slot x y (more_text xs ++ (93 ∷ r)) (more_text ys ++ (93 ∷ s)) a.0 b.0 (more_end xs r) (more_end ys s)
      (ap (drop 1) (sym (slots_parts (codes "[") (slot_text names x) (more_text xs) (codes "]") r) ∙ h
      ∙ slots_parts (codes "[") (slot_text names y) (more_text ys) (codes "]") s)) in
      let rest = one_more_slots xs ys r s a.1 b.1 one.1 in
      (ap (λ z. z ∷ xs) one.0 ∙ ap (λ z. y ∷ z) rest.0, rest.1)

  one_slots : (xs ys : List Slot) (r s : List ℕ) → Each (SlotFits program) xs → Each (SlotFits program) ys → EndsTerm r → EndsTerm s →
      slots_text names xs ++ r ≡ slots_text names ys ++ s → (xs ≡ ys) × (r ≡ s)
  one_slots [] [] r s a b c d h = (refl, h)
  one_slots [] (y ∷ ys) r s a b c d h =
      absurd (no_square r (slot_text names y ++ (more_text ys ++ (93 ∷ s))) c
      (h ∙ slots_parts (codes "[") (slot_text names y) (more_text ys) (codes "]") s))
  one_slots (x ∷ xs) [] r s a b c d h =
      absurd (no_square s (slot_text names x ++ (more_text xs ++ (93 ∷ r))) d
      (sym h ∙ slots_parts (codes "[") (slot_text names x) (more_text xs) (codes "]") r))
  one_slots (x ∷ xs) (y ∷ ys) r s a b c d h = one_some_slots x y xs ys r s a b h

  -- the text is that of this tree alone
  abbrev IsOne : Derivation → Derivation → Type 0
  IsOne d e = (r s : List ℕ) → EndsTerm r → EndsTerm s → tree d ++ r ≡ tree e ++ s → (d ≡ e) × (r ≡ s)

  part_parts : (w t r : List ℕ) → (w ++ t ++ codes ")") ++ r ≡ w ++ (t ++ (41 ∷ r))
  part_parts w t r = append_assoc (w ++ t) (codes ")") r ∙ append_assoc w t (41 ∷ r)

  -- a part in brackets behind a word
  one_part : (w : List ℕ) (f : Derivation → Derivation) (d e : Derivation) (r s : List ℕ) → IsOne d e →
      (w ++ tree d ++ codes ")") ++ r ≡ (w ++ tree e ++ codes ")") ++ s → (f d ≡ f e) × (r ≡ s)
  one_part w f d e r s one h =
      let k =
      one (41 ∷ r) (41 ∷ s) (inr (inr (inl refl))) (inr (inr (inl refl)))
      (append_cancel_left w (tree d ++ (41 ∷ r)) (tree e ++ (41 ∷ s)) (sym (part_parts w (tree d) r) ∙ h ∙ part_parts w (tree e) s)) in
      (ap f k.0, ap (drop 1) k.1)

  both_parts : (w t c u e r : List ℕ) → (w ++ t ++ c ++ u ++ e) ++ r ≡ w ++ (t ++ (c ++ (u ++ (e ++ r))))
  both_parts w t c u e r = simp append_assoc

  pub one_tree : (d e : Derivation) (r s : List ℕ) → TreeFits program d → TreeFits program e → EndsTerm r → EndsTerm s →
      tree d ++ r ≡ tree e ++ s → (d ≡ e) × (r ≡ s)
  one_tree (pre x) (pre y) r s a b c d h =
      let one =
      one_slots x y r s a b c d
      (ap (drop 3) (sym (append_assoc (codes "pre") (slots_text names x) r) ∙ h ∙ append_assoc (codes "pre") (slots_text names y) s)) in
      (ap pre one.0, one.1)
  one_tree int int r s a b c d h = (refl, ap (drop 3) h)
  one_tree (exiting x) (exiting y) r s a b c d h =
      let one =
      one_slots x y r s a b c d
      (ap (drop 4) (sym (append_assoc (codes "exit") (slots_text names x) r) ∙ h ∙ append_assoc (codes "exit") (slots_text names y) s)) in
      (ap exiting one.0, one.1)
  one_tree (chl t) (chl u) r s a b c d h = one_part (codes "chl(") chl t u r s (λ x y k l. one_tree t u x y a b k l) h
  one_tree (chr t) (chr u) r s a b c d h = one_part (codes "chr(") chr t u r s (λ x y k l. one_tree t u x y a b k l) h
  one_tree (val x t) (val y u) r s a b c d h =
      let one =
      one_some_slots x y [] [] (40 ∷ (tree t ++ (41 ∷ r))) (40 ∷ (tree u ++ (41 ∷ s))) (a.0, tt) (b.0, tt)
      (ap (drop 3) (sym (both_parts (codes "val") (slots_text names (x ∷ [])) (codes "(") (tree t) (codes ")") r) ∙ h
      ∙ both_parts (codes "val") (slots_text names (y ∷ [])) (codes "(") (tree u) (codes ")") s)) in
      let part = one_tree t u (41 ∷ r) (41 ∷ s) a.1 b.1 (inr (inr (inl refl))) (inr (inr (inl refl))) (ap (drop 1) one.1) in
      let same : x ≡ y = let e = one.0 in cc in
      (ap (λ z. val z t) same ∙ ap (val y) part.0, ap (drop 1) part.1)
  one_tree (gate m t) (gate n u) r s a b c d h =
      let one =
      one_number m n (93 ∷ (40 ∷ (tree t ++ (41 ∷ r)))) (93 ∷ (40 ∷ (tree u ++ (41 ∷ s)))) (small m a.0) (small n b.0) refl refl
      (ap (drop 5) (sym (both_parts (codes "gate[") (decimal m) (codes "](") (tree t) (codes ")") r) ∙ h
      ∙ both_parts (codes "gate[") (decimal n) (codes "](") (tree u) (codes ")") s)) in
      let part = one_tree t u (41 ∷ r) (41 ∷ s) a.1 b.1 (inr (inr (inl refl))) (inr (inr (inl refl))) (ap (drop 2) one.1) in
      (ap (λ z. gate z t) one.0 ∙ ap (gate n) part.0, ap (drop 1) part.1)
    where
      small : (n : ℕ) → n < 2 ^ 32 → n < 2 ^ 64
      small n h = let more : 2 ^ 32 < 2 ^ 64 = omega arith in omega (arith, h, more)
  one_tree (guard t) (guard u) r s a b c d h = one_part (codes "guard(") guard t u r s (λ x y k l. one_tree t u x y a b k l) h
  one_tree (letting t) (letting u) r s a b c d h = one_part (codes "let(") letting t u r s (λ x y k l. one_tree t u x y a b k l) h
  one_tree (parl t) (parl u) r s a b c d h = one_part (codes "parl(") parl t u r s (λ x y k l. one_tree t u x y a b k l) h
  one_tree (parl t) (parr u) r s a b c d h = absurd (omega (arith, ap (λ l. first (drop 3 l)) h))
  one_tree (parr t) (parl u) r s a b c d h = absurd (omega (arith, ap (λ l. first (drop 3 l)) h))
  one_tree (parr t) (parr u) r s a b c d h = one_part (codes "parr(") parr t u r s (λ x y k l. one_tree t u x y a b k l) h
  one_tree (both t v) (both u w) r s a b c d h =
      let one =
      one_tree t u (44 ∷ (tree v ++ (41 ∷ r))) (44 ∷ (tree w ++ (41 ∷ s))) a.0 b.0 (inr (inr (inr (inl refl)))) (inr (inr (inr (inl refl))))
      (ap (drop 5) (sym (both_parts (codes "both(") (tree t) (codes ",") (tree v) (codes ")") r) ∙ h
      ∙ both_parts (codes "both(") (tree u) (codes ",") (tree w) (codes ")") s)) in
      let part = one_tree v w (41 ∷ r) (41 ∷ s) a.1 b.1 (inr (inr (inl refl))) (inr (inr (inl refl))) (ap (drop 1) one.1) in
      (ap (λ z. both z v) one.0 ∙ ap (both u) part.0, ap (drop 1) part.1)
  one_tree (hiding t) (hiding u) r s a b c d h = one_part (codes "hide(") hiding t u r s (λ x y k l. one_tree t u x y a b k l) h
  one_tree (pass t) (pass u) r s a b c d h = one_part (codes "pass(") pass t u r s (λ x y k l. one_tree t u x y a b k l) h
  one_tree (enstep t) (enstep u) r s a b c d h = one_part (codes "enstep(") enstep t u r s (λ x y k l. one_tree t u x y a b k l) h
  one_tree (enend t) (enend u) r s a b c d h = one_part (codes "enend(") enend t u r s (λ x y k l. one_tree t u x y a b k l) h
  one_tree (disstep t) (disstep u) r s a b c d h = one_part (codes "disstep(") disstep t u r s (λ x y k l. one_tree t u x y a b k l) h
  one_tree (disstep t) (disend u) r s a b c d h = absurd (omega (arith, ap (λ l. first (drop 3 l)) h))
  one_tree (disstep t) (distake u) r s a b c d h = absurd (omega (arith, ap (λ l. first (drop 3 l)) h))
  one_tree (disend t) (disstep u) r s a b c d h = absurd (omega (arith, ap (λ l. first (drop 3 l)) h))
  one_tree (disend t) (disend u) r s a b c d h = one_part (codes "disend(") disend t u r s (λ x y k l. one_tree t u x y a b k l) h
  one_tree (disend t) (distake u) r s a b c d h = absurd (omega (arith, ap (λ l. first (drop 3 l)) h))
  one_tree (distake t) (disstep u) r s a b c d h = absurd (omega (arith, ap (λ l. first (drop 3 l)) h))
  one_tree (distake t) (disend u) r s a b c d h = absurd (omega (arith, ap (λ l. first (drop 3 l)) h))
  one_tree (distake t) (distake u) r s a b c d h = one_part (codes "distake(") distake t u r s (λ x y k l. one_tree t u x y a b k l) h
  one_tree (calling t) (calling u) r s a b c d h = one_part (codes "call(") calling t u r s (λ x y k l. one_tree t u x y a b k l) h
  one_tree (rel t) (rel u) r s a b c d h = one_part (codes "rel(") rel t u r s (λ x y k l. one_tree t u x y a b k l) h
  one_tree _ _ r s a b c d h = absurd (omega (arith, ap three h))
