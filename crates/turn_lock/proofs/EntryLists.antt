-- Lists of entries that go on from one another.
use Rattle.std.proofs.Common.{◌≡◌, ◌≢◌, ◌<◌, ℕ, false, cond, List, [], ◌∷◌, ◌++◌, length, get_or, drop, Option, Some, None, refl, sym, ap}
use Rattle.std.proofs.Common.{◌∙◌, subst, arith, ne_eqb, append_assoc, append-nil}
use Rattle.std.specs.List.{AllByRecursion}
use Rattle.std.specs.Prelude.{All}
use Rattle.std.proofs.lemmas.List.Elements.{All-nil, All-append, filter-append, recursion_from_All}
use Rattle.turn_lock.specs.Entries.{is_named, Begins, made_by, NamesBelow, Continues}

module _ {A : Type 0} where
  pub begins_all : (xs : List A) → Begins xs xs
  begins_all xs = ([], sym (append-nil xs))

  pub begins_on : (xs ys zs : List A) → Begins xs ys → Begins ys zs → Begins xs zs
  begins_on xs ys zs a b = (a.0 ++ b.0, b.1 ∙ (ap (λ l. l ++ b.0) a.1 ∙ append_assoc xs a.0 b.0))

  -- of two beginnings of one list, the one goes on as the other
  pub either_begins : (xs ys zs : List A) → Begins xs zs → Begins ys zs → Begins (xs ++ drop (length xs) ys) zs
  either_begins [] ys zs p q = q
  either_begins (x ∷ xs) [] zs p q = (p.0, p.1 ∙ ap (λ l. l ++ p.0) (sym (append-nil (x ∷ xs))))
  either_begins (x ∷ xs) (y ∷ ys) [] p q = absurd (cc)
  either_begins (x ∷ xs) (y ∷ ys) (z ∷ zs) p q =
      let t = either_begins xs ys zs (p.0, ap (drop 1) p.1) (q.0, ap (drop 1) q.1) in
      (t.0, (λ i. get_or (p.1 i) 0 z ∷ t.1 i))

not_named : (k : ℕ) (m : Option ℕ) → (m ≡ Some k → ⊥) → is_named k m ≡ false
not_named k None other = refl
not_named k (Some j) other = ne_eqb k j (λ e. other (ap Some (sym e)))

module _ {E : Type 0} (maker : E → Option ℕ) where
  none_made : (n k : ℕ) (xs : List E) → AllByRecursion (λ e. (j : ℕ) → maker e ≡ Some j → j ≡ n) xs → k ≢ n → made_by maker k xs ≡ []
  none_made n k [] only other = refl
  none_made n k (e ∷ es) only other =
      ap (λ b. cond b (e ∷ made_by maker k es) (made_by maker k es)) (not_named k (maker e) (λ is. other (only.0 k is)))
      ∙ none_made n k es only.1 other

  -- what the seat n added is none of k's
  pub made_by_more : (n k : ℕ) (xs ys : List E) → Continues maker n xs ys → k ≢ n → made_by maker k ys ≡ made_by maker k xs
  made_by_more n k xs ys c other =
      ap (made_by maker k) c.1
      ∙ (filter-append (λ e. is_named k (maker e)) xs c.0
      ∙ (ap (λ l. made_by maker k xs ++ l) (none_made n k c.0 (recursion_from_All _ c.0 c.2) other) ∙ append-nil (made_by maker k xs)))

  pub continues_itself : (n : ℕ) (xs : List E) → Continues maker n xs xs
  continues_itself n xs = ([], sym (append-nil xs), All-nil _)

  -- the entries name seats of the lock alone, also after a seat of the lock went on
  pub names_below_longer : (n seats : ℕ) (xs ys : List E) →
      n < seats → Continues maker n xs ys → NamesBelow maker seats xs → NamesBelow maker seats ys
  names_below_longer n seats xs ys below c named =
      let P : E → Type 0 = λ e. (k : ℕ) → maker e ≡ Some k → k < seats in
      let added : All P c.0 = λ i d inside k is. let same = c.2 i d inside k is in omega arith in
      subst (NamesBelow maker seats) (sym c.1) (All-append P xs c.0 named added)
