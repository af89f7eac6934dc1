-- The equations of each operation, linked in their order.
use Rattle.std.proofs.Common.{ℕ, zero, suc, ◌≡◌, ◌+◌, ◌<◌, ◌≤◌, ◌⊎◌, inl, inr, List, [], ◌∷◌, length, set, slice_index_or, refl, sym, ap}
use Rattle.std.proofs.Common.{subst, ◌∙◌, arith, replicate, take, drop, ◌++◌}
use Rattle.std.proofs.lemmas.List.{length-set, drop_all, append-nil, take_all}
use Rattle.std.specs.List.{slice_get}
use Rattle.std.proofs.lemmas.Bool.{cases_lt, cases_eq}
use Rattle.std.proofs.lemmas.Option.{slice_get_within}
use Rattle.spec_core.specs.Terms.{apply, Occurs}
use Rattle.spec_core.specs.Theories.{Operation, ConditionalEquation, Theory, Heads}
use Rattle.spec_core.specs.Sorts.{OnSome, HasSort, HaveSorts, EquationFits}
use Rattle.spec_core.specs.Executable.{IsExecutable}
use Rattle.data_laws.proofs.Conditions.{declared}
use Rattle.rewriter.specs.Steps.{equation_at, bound_at}
use Rattle.rewriter.specs.Calls.{HasRoom}
use Rattle.rewriter.specs.Index.{AreLinked}
use Rattle.rewriter.proofs.Calls.{at_place, three_ways}

below_length : (ds : List Operation) (f : ℕ) (P : Operation → Type 0) → OnSome (slice_get ds f) P → f < length ds
below_length [] f P h = absurd h
below_length (d ∷ ds) zero P h = omega arith
below_length (d ∷ ds) (suc f) P h = let r = below_length ds f P h in omega (arith, r)

pub replicated : (m v i : ℕ) → slice_index_or (replicate m v) i v ≡ v
replicated zero v zero = refl
replicated zero v (suc i) = refl
replicated (suc m) v zero = refl
replicated (suc m) v (suc i) = replicated m v i

here : (xs : List ℕ) (i v d : ℕ) → i < length xs → slice_index_or (set xs i v) i d ≡ v
here [] i v d h = absurd (omega arith)
here (x ∷ xs) zero v d h = refl
here (x ∷ xs) (suc i) v d h = here xs i v d (omega arith)

elsewhere : (xs : List ℕ) (i v j d : ℕ) → (j ≡ i → ⊥) → slice_index_or (set xs i v) j d ≡ slice_index_or xs j d
elsewhere [] i v j d h = refl
elsewhere (x ∷ xs) zero v zero d h = absurd (h refl)
elsewhere (x ∷ xs) zero v (suc j) d h = refl
elsewhere (x ∷ xs) (suc i) v zero d h = refl
elsewhere (x ∷ xs) (suc i) v (suc j) d h = elsewhere xs i v j d (λ e. h (ap suc e))

one_head : (e : ConditionalEquation) (f g : ℕ) → Heads f e → Heads g e → f ≡ g
one_head e f g a b = let q : apply f a.0 ≡ apply g b.0 = sym a.1 ∙ b.1 in cc

module _ (theory : Theory) (ex : IsExecutable theory) where
  fits_at : (place : ℕ) → place < length theory.equations → EquationFits theory (equation_at theory place)
  fits_at place h = at_place (EquationFits theory) theory.equations place ex.fits.equations h

  pub head_below : (place f : ℕ) → place < length theory.equations → Heads f (equation_at theory place) → f < length theory.operations
  head_below place f h hd =
      let e = equation_at theory place in
      let s = (fits_at place h).sides in
      let l = subst (λ t. HasSort theory (slice_get e.sorts) t s.0) hd.1 s.1 in
      below_length theory.operations f (λ d. (d.result ≡ s.0) × HaveSorts theory (slice_get e.sorts) hd.0 d.args) l

  pub within_sorts : (place x : ℕ) → place < length theory.equations → Occurs x (equation_at theory place).left →
      x < length (equation_at theory place).sorts
  within_sorts place x h o =
      let e = equation_at theory place in
      let s = (fits_at place h).sides in
      let d = declared theory (slice_get e.sorts) e.left s.0 s.1 x o in
      slice_get_within e.sorts x d.0 d.1

  pub has_room : (room : ℕ) → ((j : ℕ) → j < length theory.equations → length (equation_at theory j).sorts ≤ room) → HasRoom theory room
  has_room room h place l x o = let a = within_sorts place x l o in let b = h place l in omega (arith, a, b)

  -- one equation more
  pub linked : (place op v : ℕ) (first next : List ℕ) → place < length theory.equations → Heads op (equation_at theory place) →
      v ≡ slice_index_or first op (length theory.equations) → AreLinked theory (place + 1) first next →
      AreLinked theory place (set first op place) (set next place v)
  linked place op v first next h hd is old = record {
    as_many = length-set first op place ∙ old.as_many;
    as_long = length-set next place v ∙ old.as_long;
    from_first = λ f j a b k. from_first f j a b k (cases_eq f op);
    after_from = λ f l. after_from f l (cases_eq f op);
    first_heads = λ f l. first_heads f l (cases_eq f op);
    from_next = λ f i j a b c k m. from_next f i j a b c k m (cases_eq i place);
    next_heads = λ f i a b c k. next_heads f i a b c k (cases_eq i place);
    onward = λ i a b. onward i a b (cases_eq i place);
  }
    where
      n : ℕ
      n = length theory.equations

      op_there : op < length first
      op_there = let b = head_below place op h hd in omega (arith, b, old.as_many)

      place_there : place < length next
      place_there = omega (arith, h, old.as_long)

      at_op : slice_index_or (set first op place) op (length theory.equations) ≡ place
      at_op = here first op place (length theory.equations) op_there

      at_place_now : bound_at (set next place v) place ≡ v
      at_place_now = here next place v 0 place_there

      after_place : v < length theory.equations → place + 1 ≤ v
      after_place l = subst (λ w. place + 1 ≤ w) (sym is) (old.after_from op (subst (λ w. w < length theory.equations) is l))

      from_first : (f j : ℕ) → place ≤ j → j < length theory.equations → Heads f (equation_at theory j) → (f ≡ op) ⊎ (f ≡ op → ⊥) →
          slice_index_or (set first op place) f (length theory.equations) ≤ j
      from_first f j a b k (inl e) = let q = ap (λ g. slice_index_or (set first op place) g (length theory.equations)) e ∙ at_op in
          omega (arith, q, a)
      from_first f j a b k (inr d) =
          let other : j ≡ place → ⊥ = λ e. d
          (one_head (equation_at theory place) f op (subst (λ i. Heads f (equation_at theory i)) e k) hd) in
          let q = elsewhere first op place f (length theory.equations) d in
          by_way (three_ways j place) other q
        where
          by_way : (j < place) ⊎ (j ≡ place) ⊎ (place < j) → (j ≡ place → ⊥) →
              slice_index_or (set first op place) f (length theory.equations) ≡ slice_index_or first f (length theory.equations) →
              slice_index_or (set first op place) f (length theory.equations) ≤ j
          by_way (inl l) other q = absurd (omega (arith, a, l))
          by_way (inr (inl e)) other q = absurd (other e)
          by_way (inr (inr l)) other q = let r = old.from_first f j (omega (arith, l)) b k in omega (arith, q, r)

      after_from : (f : ℕ) → slice_index_or (set first op place) f (length theory.equations) < length theory.equations →
          (f ≡ op) ⊎ (f ≡ op → ⊥) → place ≤ slice_index_or (set first op place) f (length theory.equations)
      after_from f l (inl e) = let q = ap (λ g. slice_index_or (set first op place) g (length theory.equations)) e ∙ at_op in
          omega (arith, q)
      after_from f l (inr d) = let q = elsewhere first op place f (length theory.equations) d in
          let r = old.after_from f (subst (λ w. w < length theory.equations) q l) in omega (arith, q, r)

      first_heads : (f : ℕ) → slice_index_or (set first op place) f (length theory.equations) < length theory.equations →
          (f ≡ op) ⊎ (f ≡ op → ⊥) → Heads f (equation_at theory (slice_index_or (set first op place) f (length theory.equations)))
      first_heads f l (inl e) =
          let q = ap (λ g. slice_index_or (set first op place) g (length theory.equations)) e ∙ at_op in
          subst (λ i. Heads f (equation_at theory i)) (sym q) (subst (λ g. Heads g (equation_at theory place)) (sym e) hd)
      first_heads f l (inr d) =
          let q = elsewhere first op place f (length theory.equations) d in
          subst (λ i. Heads f (equation_at theory i)) (sym q) (old.first_heads f (subst (λ w. w < length theory.equations) q l))

      from_next : (f i j : ℕ) → place ≤ i → i < j → j < length theory.equations → Heads f (equation_at theory i) →
          Heads f (equation_at theory j) → (i ≡ place) ⊎ (i ≡ place → ⊥) → bound_at (set next place v) i ≤ j
      from_next f i j a b c k m (inl e) =
          let g : f ≡ op = one_head (equation_at theory place) f op (subst (λ p. Heads f (equation_at theory p)) e k) hd in
          let q = ap (bound_at (set next place v)) e ∙ at_place_now ∙ is in
          let r = old.from_first op j (omega (arith, b, e)) c (subst (λ p. Heads p (equation_at theory j)) g m) in
          omega (arith, q, r)
      from_next f i j a b c k m (inr d) =
          let q = elsewhere next place v i 0 d in
          let r = old.from_next f i j (past i a d (three_ways i place)) b c k m in
          omega (arith, q, r)
        where
          past : (i : ℕ) → place ≤ i → (i ≡ place → ⊥) → (i < place) ⊎ (i ≡ place) ⊎ (place < i) → place + 1 ≤ i
          past i a d (inl l) = absurd (omega (arith, a, l))
          past i a d (inr (inl e)) = absurd (d e)
          past i a d (inr (inr l)) = omega (arith, l)

      next_heads : (f i : ℕ) → place ≤ i → i < length theory.equations → bound_at (set next place v) i < length theory.equations →
          Heads f (equation_at theory i) → (i ≡ place) ⊎ (i ≡ place → ⊥) → Heads f (equation_at theory (bound_at (set next place v) i))
      next_heads f i a b c k (inl e) =
          let g : f ≡ op = one_head (equation_at theory place) f op (subst (λ p. Heads f (equation_at theory p)) e k) hd in
          let q = ap (bound_at (set next place v)) e ∙ at_place_now ∙ is in
          subst (λ p. Heads f (equation_at theory p)) (sym q)
          (subst (λ p. Heads p (equation_at theory (slice_index_or first op (length theory.equations)))) (sym g)
          (old.first_heads op (subst (λ w. w < length theory.equations) q c)))
      next_heads f i a b c k (inr d) =
          let q = elsewhere next place v i 0 d in
          subst (λ p. Heads f (equation_at theory p)) (sym q)
          (old.next_heads f i (past i a d (three_ways i place)) b (subst (λ w. w < length theory.equations) q c) k)
        where
          past : (i : ℕ) → place ≤ i → (i ≡ place → ⊥) → (i < place) ⊎ (i ≡ place) ⊎ (place < i) → place + 1 ≤ i
          past i a d (inl l) = absurd (omega (arith, a, l))
          past i a d (inr (inl e)) = absurd (d e)
          past i a d (inr (inr l)) = omega (arith, l)

      onward : (i : ℕ) → place ≤ i → i < length theory.equations → (i ≡ place) ⊎ (i ≡ place → ⊥) → i < bound_at (set next place v) i
      onward i a b (inl e) = by_value (cases_lt v (length theory.equations))
        where
          by_value : (v < length theory.equations) ⊎ (length theory.equations ≤ v) → i < bound_at (set next place v) i
          by_value (inl l) = let q = ap (bound_at (set next place v)) e ∙ at_place_now in let r = after_place l in omega (arith, q, r, e)
          by_value (inr l) = let q = ap (bound_at (set next place v)) e ∙ at_place_now in omega (arith, q, l, b)
      onward i a b (inr d) =
          let q = elsewhere next place v i 0 d in
          let r = old.onward i (past i a d (three_ways i place)) b in
          omega (arith, q, r)
        where
          past : (i : ℕ) → place ≤ i → (i ≡ place → ⊥) → (i < place) ⊎ (i ≡ place) ⊎ (place < i) → place + 1 ≤ i
          past i a d (inl l) = absurd (omega (arith, a, l))
          past i a d (inr (inl e)) = absurd (d e)
          past i a d (inr (inr l)) = omega (arith, l)

-- no equation yet
pub unlinked : (theory : Theory) (first next : List ℕ) (n from : ℕ) → from ≡ length theory.equations → n ≡ length theory.equations →
    length next ≡ length theory.equations → first ≡ replicate (length theory.operations) n → length first ≡ length theory.operations →
    AreLinked theory from first next
unlinked theory first next n from e q as_long is as_many = record {
  as_many = as_many;
  as_long = as_long;
  from_first = λ f j a b k. absurd (omega (arith, a, b, e));
  after_from = λ f l. absurd (none f l);
  first_heads = λ f l. absurd (none f l);
  from_next = λ f i j a b c k m. absurd (omega (arith, a, b, c, e));
  next_heads = λ f i a b c k. absurd (omega (arith, a, b, e));
  onward = λ i a b. absurd (omega (arith, a, b, e));
}
  where
    none : (f : ℕ) → slice_index_or first f (length theory.equations) < length theory.equations → ⊥
    none f l =
        let r : slice_index_or first f (length theory.equations) ≡ length theory.equations =
        ap (λ xs. slice_index_or xs f (length theory.equations)) (is ∙ ap (replicate (length theory.operations)) q) ∙ replicated
        (length theory.operations) (length theory.equations) f in
        omega (arith, l, r)

pub defaults : (xs : List ℕ) (i a b : ℕ) → i < length xs → slice_index_or xs i a ≡ slice_index_or xs i b
defaults [] i a b h = absurd (omega arith)
defaults (x ∷ xs) zero a b h = refl
defaults (x ∷ xs) (suc i) a b h = defaults xs i a b (omega arith)

-- what a slice of a whole list wrote back
pub written : (xs ys : List ℕ) (k : ℕ) → length ys ≡ length xs → k ≡ length ys → take k (xs ++ drop (length xs) ys) ≡ xs
written xs ys k e q =
    ap (λ zs. take k (xs ++ zs)) (drop_all (length xs) ys (omega (arith, e)))
    ∙ ap (take k) (append-nil xs)
    ∙ take_all k xs (omega (arith, e, q))
