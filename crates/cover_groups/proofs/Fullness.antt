-- Whether lists of premises are full.
use Rattle.std.proofs.Common.{ℕ, zero, suc, ◌≡◌, ◌<◌, ◌≤◌, ◌+◌, ◌-◌, List, [], ◌∷◌, ◌++◌, Option, Some, option_map, length, map, take, get_or, refl, sym, ap, subst, ◌∙◌, arith, inl, inr, ◌⊎◌}
use Rattle.std.specs.List.{slice_get}
use Rattle.std.proofs.lemmas.Option.{same_Some}
use Rattle.spec_core.specs.declared.term.Term.{Term}
use Rattle.spec_core.specs.Lists.{OneOf, IsOneOf}
use Rattle.spec_core.specs.Terms.{TermTree, TermTrees, variable, apply, no_terms, and_term, constant, Occurs, OccursInAny}
use Rattle.spec_core.specs.Theories.{Premise, premise, Theory, OccursInPremises, premise_of}
use Rattle.spec_core.specs.Sorts.{OnSome, HasSort, HaveSorts, PremiseFits}
use Rattle.spec_core.specs.Orthogonality.{Gives}
use Rattle.spec_core.specs.Cover.{BeginWithConstants, IsAfter, IsFull, empty_one, by_constants}
use Rattle.spec_core.proofs.Lists.{map_next}
use Rattle.cover_search.proofs.Options.{both_on, on_some}
use Rattle.equation_overlaps.proofs.Giving.{one_constant, gives_to_candidates}
use Rattle.equation_overlaps.specs.Given.{candidate, under}
use Rattle.equation_shapes.proofs.Linear.{Tells, number}
use Rattle.data_fits.specs.Heads.{head_sort, result_of}
use Rattle.cover_groups.specs.Fullness.{IsFullBy, HaveAtMost, Begins, BeginsWith, IsFirstPremise, HasSomeSort, AllFit}

-- each list of the first is one of the second
abbrev pub Within : List (List Premise) → List (List Premise) → Type 0
Within ls ms = (l : List Premise) → IsOneOf l ls → IsOneOf l ms

-- a term has one sort
pub one_sort : (theory : Theory) (vars : ℕ → Option ℕ) (t : TermTree) (s r : ℕ) → HasSort theory vars t s → HasSort theory vars t r → s ≡ r
one_sort theory vars (variable x) s r h k = same_Some _ _ (sym h ∙ k)
one_sort theory vars (apply f ts) s r h k =
    let d = both_on (slice_get theory.operations f) (λ d. (d.result ≡ s) × HaveSorts theory vars ts d.args) (λ d. (d.result ≡ r) × HaveSorts theory vars ts d.args) h k in
    sym d.2.0 ∙ d.3.0

module _ (theory : Theory) where
  gives : (p : Premise) (t : TermTree) (c d : ℕ) → Gives theory p t d → Tells (Gives theory p t c)
  gives p t c d g = decide (number c d)
    where
      decide : Tells (c ≡ d) → Tells (Gives theory p t c)
      decide (inl e) = inl (subst (Gives theory p t) (sym e) g)
      decide (inr n) = inr (λ h. n (one_constant theory p t c d h.1 g.1))

  -- what is left after a constant
  pub after : (t : TermTree) (c : ℕ) (ls : List (List Premise)) → BeginWithConstants theory t ls →
      (rest : List (List Premise)) × IsAfter theory t c ls rest
  after t c [] b = ([], refl)
  after t c ([] ∷ ls) b = absurd b
  after t c ((p ∷ ps) ∷ ls) b = add (gives p t c b.0.0 b.0.1) (after t c ls b.1)
    where
      add : Tells (Gives theory p t c) → (rest : List (List Premise)) × IsAfter theory t c ls rest →
          (rest : List (List Premise)) × IsAfter theory t c ((p ∷ ps) ∷ ls) rest
      add (inl g) r = (ps ∷ r.0, inl (g, (r.0, refl, r.1)))
      add (inr h) r = (r.0, inr (h, r.1))

  pub one_after : (t : TermTree) (c : ℕ) (ls rest other : List (List Premise)) → IsAfter theory t c ls rest →
      IsAfter theory t c ls other → rest ≡ other
  one_after t c [] rest other a b = a ∙ sym b
  one_after t c ([] ∷ ls) rest other a b = absurd a
  one_after t c ((p ∷ ps) ∷ ls) rest other (inl a) (inl b) = a.1.1 ∙ ap (λ m. ps ∷ m) (one_after t c ls a.1.0 b.1.0 a.1.2 b.1.2) ∙ sym b.1.1
  one_after t c ((p ∷ ps) ∷ ls) rest other (inl a) (inr b) = absurd (b.0 a.0)
  one_after t c ((p ∷ ps) ∷ ls) rest other (inr a) (inl b) = absurd (a.0 b.0)
  one_after t c ((p ∷ ps) ∷ ls) rest other (inr a) (inr b) = one_after t c ls rest other a.1 b.1

  -- the lists after a constant have one premise less
  pub shorter : (n : ℕ) (t : TermTree) (c : ℕ) (ls rest : List (List Premise)) → IsAfter theory t c ls rest → HaveAtMost n ls →
      HaveAtMost (n - 1) rest
  shorter n t c [] rest a b = subst (HaveAtMost (n - 1)) (sym a) tt
  shorter n t c ([] ∷ ls) rest a b = absurd a
  shorter n t c ((p ∷ ps) ∷ ls) rest (inl a) b =
      subst (HaveAtMost (n - 1)) (sym a.1.1) (less ps b.0, shorter n t c ls a.1.0 a.1.2 b.1)
    where
      less : (qs : List Premise) → suc (length qs) ≤ n → length qs ≤ n - 1
      less qs h = omega (arith, h)
  shorter n t c ((p ∷ ps) ∷ ls) rest (inr a) b = shorter n t c ls rest a.1 b.1

  -- one more list
  after_last : (t : TermTree) (c : ℕ) (ls rest : List (List Premise)) (l tail : List Premise) → IsAfter theory t c ls rest →
      BeginsWith theory t c l tail → IsAfter theory t c (ls ++ l ∷ []) (rest ++ tail ∷ [])
  after_last t c [] rest [] tail a b = absurd b
  after_last t c [] rest (p ∷ ps) tail a b = inl (b.0, ([], ap (λ x. x ++ tail ∷ []) a ∙ ap (λ x. x ∷ []) (sym b.1), refl))
  after_last t c ([] ∷ ls) rest l tail a b = absurd a
  after_last t c ((p ∷ ps) ∷ ls) rest l tail (inl a) b =
      inl (a.0, (a.1.0 ++ tail ∷ [], ap (λ x. x ++ tail ∷ []) a.1.1, after_last t c ls a.1.0 l tail a.1.2 b))
  after_last t c ((p ∷ ps) ∷ ls) rest l tail (inr a) b = inr (a.0, after_last t c ls rest l tail a.1 b)

  after_skip : (t : TermTree) (c : ℕ) (ls rest : List (List Premise)) (l : List Premise) → IsAfter theory t c ls rest →
      Begins theory t l → ((tail : List Premise) → BeginsWith theory t c l tail → ⊥) → IsAfter theory t c (ls ++ l ∷ []) rest
  after_skip t c [] rest [] a b n = absurd b
  after_skip t c [] rest (p ∷ ps) a b n = inr ((λ g. n ps (g, refl)), a)
  after_skip t c ([] ∷ ls) rest l a b n = absurd a
  after_skip t c ((p ∷ ps) ∷ ls) rest l (inl a) b n = inl (a.0, (a.1.0, a.1.1, after_skip t c ls a.1.0 l a.1.2 b n))
  after_skip t c ((p ∷ ps) ∷ ls) rest l (inr a) b n = inr (a.0, after_skip t c ls rest l a.1 b n)

  back : (t : TermTree) (c : ℕ) (ls rest : List (List Premise)) → IsAfter theory t c ls rest → (l : List Premise) → IsOneOf l rest →
      (p : Premise) × Gives theory p t c × IsOneOf (p ∷ l) ls
  back t c [] rest a l o = absurd (subst (IsOneOf l) a o)
  back t c ([] ∷ ls) rest a l o = absurd a
  back t c ((p ∷ ps) ∷ ls) rest (inl a) l o = here (subst (IsOneOf l) a.1.1 o) (λ o. back t c ls a.1.0 a.1.2 l o)
    where
      here : IsOneOf l (ps ∷ a.1.0) → (IsOneOf l a.1.0 → (p : Premise) × Gives theory p t c × IsOneOf (p ∷ l) ls) →
          (q : Premise) × Gives theory q t c × IsOneOf (q ∷ l) ((p ∷ ps) ∷ ls)
      here (inl e) more = (p, a.0, inl (ap (λ x. p ∷ x) e))
      here (inr o) more = let r = more o in (r.0, r.1, inr r.2)
  back t c ((p ∷ ps) ∷ ls) rest (inr a) l o = let r = back t c ls rest a.1 l o in (r.0, r.1, inr r.2)

  heads_same : (p q : Premise) (l ps : List Premise) → p ∷ l ≡ q ∷ ps → (p ≡ q) × (l ≡ ps)
  heads_same p q l ps e = (cc, cc)

  forth : (t : TermTree) (c : ℕ) (ls rest : List (List Premise)) → IsAfter theory t c ls rest → (p : Premise) (l : List Premise) →
      Gives theory p t c → IsOneOf (p ∷ l) ls → IsOneOf l rest
  forth t c [] rest a p l g o = absurd o
  forth t c ([] ∷ ls) rest a p l g o = absurd a
  forth t c ((q ∷ ps) ∷ ls) rest (inl a) p l g (inl e) = subst (IsOneOf l) (sym a.1.1) (inl (heads_same p q l ps e).1)
  forth t c ((q ∷ ps) ∷ ls) rest (inl a) p l g (inr o) = subst (IsOneOf l) (sym a.1.1) (inr (forth t c ls a.1.0 a.1.2 p l g o))
  forth t c ((q ∷ ps) ∷ ls) rest (inr a) p l g (inl e) = absurd (a.0 (subst (λ x. Gives theory x t c) (heads_same p q l ps e).0 g))
  forth t c ((q ∷ ps) ∷ ls) rest (inr a) p l g (inr o) = forth t c ls rest a.1 p l g o

  within_after : (t : TermTree) (c : ℕ) (ls ms rest other : List (List Premise)) → Within ls ms → IsAfter theory t c ls rest →
      IsAfter theory t c ms other → Within rest other
  within_after t c ls ms rest other w a b l o = let r = back t c ls rest a l o in forth t c ms other b r.0 l r.1 (w (r.0 ∷ l) r.2)

  begin_of : (t : TermTree) (ls : List (List Premise)) → BeginWithConstants theory t ls → (l : List Premise) → IsOneOf l ls →
      Begins theory t l
  begin_of t [] b l o = absurd o
  begin_of t ([] ∷ ls) b l o = absurd b
  begin_of t ((p ∷ ps) ∷ ls) b l (inl e) = subst (Begins theory t) (sym e) b.0
  begin_of t ((p ∷ ps) ∷ ls) b l (inr o) = begin_of t ls b.1 l o

  all_begin : (t : TermTree) (ms : List (List Premise)) → ((m : List Premise) → IsOneOf m ms → Begins theory t m) →
      BeginWithConstants theory t ms
  all_begin t [] f = tt
  all_begin t ([] ∷ ms) f = f [] (inl refl)
  all_begin t ((p ∷ ps) ∷ ms) f = (f (p ∷ ps) (inl refl), all_begin t ms (λ m o. f m (inr o)))

  an_empty : (ls ms : List (List Premise)) → Within ls ms → OneOf (λ l. l ≡ []) ls → OneOf (λ l. l ≡ []) ms
  an_empty ls ms w o = flip ms (w [] (turn ls o))
    where
      turn : (xs : List (List Premise)) → OneOf (λ l. l ≡ []) xs → IsOneOf [] xs
      turn [] o = o
      turn (x ∷ xs) (inl e) = inl (sym e)
      turn (x ∷ xs) (inr o) = inr (turn xs o)

      flip : (xs : List (List Premise)) → IsOneOf [] xs → OneOf (λ l. l ≡ []) xs
      flip [] o = o
      flip (x ∷ xs) (inl e) = inl (sym e)
      flip (x ∷ xs) (inr o) = inr (flip xs o)

  -- whether lists are full depends on which lists there are alone
  pub full_of_same : (vars : ℕ → Option ℕ) {ls : List (List Premise)} → IsFull theory vars ls → (ms : List (List Premise)) →
      Within ls ms → Within ms ls → IsFull theory vars ms
  full_of_same vars {ls} (empty_one o) ms w v = empty_one (an_empty ls ms w o)
  full_of_same vars (by_constants {l = l} {ls = ls} t s h k b f) [] w v = absurd (w l (inl refl))
  full_of_same vars (by_constants {l = l} {ls = ls} t s h k b f) (m ∷ ms) w v =
      by_constants t s h k (all_begin t (m ∷ ms) (λ x o. begin_of t (l ∷ ls) b x (v x o)))
      (λ c i rest a. let r = after t c (l ∷ ls) b in
      full_of_same vars (f c i r.0 r.1) rest (within_after t c (l ∷ ls) (m ∷ ms) r.0 rest w r.1 a) (within_after t c (m ∷ ms) (l ∷ ls) rest r.0 v a r.1))

  -- a variable of the term that a premise gives a constant is one of the premise
  given_occurs : (p : Premise) (ps : List Premise) (t : TermTree) (c x : ℕ) → Gives theory p t c → Occurs x t → OccursInPremises x (p ∷ ps)
  given_occurs (premise a b) ps t c x (k, inl e) o = let h : t ≡ a = cc in inl (subst (Occurs x) h o)
  given_occurs (premise a b) ps t c x (k, inr (inl e)) o = let h : t ≡ b = cc in inr (inl (subst (Occurs x) h o))
  given_occurs (premise a b) ps t c x (k, inr (inr d)) o =
      let e : premise a b ≡ premise (apply d.negation (and_term t no_terms)) (constant d.yes) = d.form in
      let h : apply d.negation (and_term t no_terms) ≡ a = cc in
      inl (subst (Occurs x) h (inl o))

  -- more sorts of variables do no harm
  mutual
    more_sorts : (vars wars : ℕ → Option ℕ) (t : TermTree) (s : ℕ) → ((x a : ℕ) → Occurs x t → vars x ≡ Some a → wars x ≡ Some a) →
        HasSort theory vars t s → HasSort theory wars t s
    more_sorts vars wars (variable x) s m h = m x s refl h
    more_sorts vars wars (apply f ts) s m h =
        let d = on_some (slice_get theory.operations f) (λ d. (d.result ≡ s) × HaveSorts theory vars ts d.args) h in
        subst (λ o. OnSome o (λ d. (d.result ≡ s) × HaveSorts theory wars ts d.args)) (sym d.1) (d.2.0, all_more_sorts vars wars ts d.0.args m d.2.1)

    all_more_sorts : (vars wars : ℕ → Option ℕ) (ts : TermTrees) (sorts : List ℕ) →
        ((x a : ℕ) → OccursInAny x ts → vars x ≡ Some a → wars x ≡ Some a) → HaveSorts theory vars ts sorts →
        HaveSorts theory wars ts sorts
    all_more_sorts vars wars no_terms [] m h = tt
    all_more_sorts vars wars no_terms (s ∷ sorts) m h = absurd h
    all_more_sorts vars wars (and_term t ts) [] m h = absurd h
    all_more_sorts vars wars (and_term t ts) (s ∷ sorts) m h =
        (more_sorts vars wars t s (λ x a o. m x a (inl o)) h.0, all_more_sorts vars wars ts sorts (λ x a o. m x a (inr o)) h.1)

  tail_occurs : (p : Premise) (ps : List Premise) (x : ℕ) → OccursInPremises x ps → OccursInPremises x (p ∷ ps)
  tail_occurs (premise a b) ps x o = inr (inr o)

  pub full_over : (vars wars : ℕ → Option ℕ) {ls : List (List Premise)} → IsFull theory vars ls →
      ((l : List Premise) → IsOneOf l ls → (x a : ℕ) → OccursInPremises x l → vars x ≡ Some a → wars x ≡ Some a) → IsFull theory wars ls
  full_over vars wars (empty_one o) m = empty_one o
  full_over vars wars (by_constants {l = []} {ls = ls} t s h k b f) m = absurd b
  full_over vars wars (by_constants {l = p ∷ ps} {ls = ls} t s h k b f) m =
      by_constants t s (more_sorts vars wars t s (λ x a o. m (p ∷ ps) (inl refl) x a (given_occurs p ps t b.0.0 x b.0.1 o)) h) k b
      (λ c i rest a. full_over vars wars (f c i rest a) (λ l o x y i. let r = back t c ((p ∷ ps) ∷ ls) rest a l o in m (r.0 ∷ l) r.2 x y (tail_occurs r.0 l x i)))

  pub either : {vars : ℕ → Option ℕ} {ls : List (List Premise)} → IsFull theory vars ls →
      OneOf (λ l. l ≡ []) ls ⊎ ((t : TermTree) × IsFullBy theory vars ls t)
  either (empty_one o) = inl o
  either (by_constants t s h k b f) = inr (t, record { sort = s; sorted = h; all_constant = k; begin = b; each = f })

  pub full_by : (vars : ℕ → Option ℕ) (ls : List (List Premise)) (t : TermTree) → 0 < length ls → IsFullBy theory vars ls t →
      IsFull theory vars ls
  full_by vars [] t w f = absurd (omega (arith, w))
  full_by vars (l ∷ ls) t w f = by_constants t f.sort f.sorted f.all_constant f.begin f.each

  -- where none of the first premise's candidates does it, the lists aren't full
  pub no_candidate : (vars : ℕ → Option ℕ) (p : Premise) (ls : List (List Premise)) → IsFirstPremise ls p →
      (OneOf (λ l. l ≡ []) ls → ⊥) → ((n : ℕ) → n < 3 → IsFullBy theory vars ls (candidate p n) → ⊥) →
      IsFull theory vars ls → ⊥
  no_candidate vars p [] e empty never full = absurd e
  no_candidate vars p ([] ∷ ls) e empty never full = absurd e
  no_candidate vars p ((q ∷ qs) ∷ ls) e empty never full = elim (either full) [
    | inl o ↦ empty o
    | inr f ↦
        let r = gives_to_candidates theory q f.0 f.1.begin.0.0 f.1.begin.0.1 in
        never r.0 r.1 (subst (λ x. IsFullBy theory vars ((q ∷ qs) ∷ ls) (candidate x r.0)) e (subst (IsFullBy theory vars ((q ∷ qs) ∷ ls)) r.2 f.1))
  ]

  pub nothing_full : (vars : ℕ → Option ℕ) (ls : List (List Premise)) → ls ≡ [] → IsFull theory vars ls → ⊥
  nothing_full vars ls e full = go (subst (IsFull theory vars) e full)
    where
      go : IsFull theory vars [] → ⊥
      go f = elim (either f) [ inl o ↦ o | inr k ↦ never f refl ]
        where
          never : {ms : List (List Premise)} → IsFull theory vars ms → ms ≡ [] → ⊥
          never (empty_one o) e = absurd (subst (OneOf (λ l. l ≡ [])) e o)
          never (by_constants t s h k b f) e = cc

  pub first_length : (p : Premise) (ls : List (List Premise)) (n : ℕ) → IsFirstPremise ls p → HaveAtMost n ls → (0 < n) × (0 < length ls)
  first_length p [] n e h = absurd e
  first_length p ([] ∷ ls) n e h = absurd e
  first_length p ((q ∷ qs) ∷ ls) n e h = (let k : suc (length qs) ≤ n = h.0 in omega (arith, k), omega arith)

  -- each candidate of a premise has a sort
  under_sorted : (vars : ℕ → Option ℕ) (a : TermTree) → HasSomeSort theory vars a → HasSomeSort theory vars (under a)
  under_sorted vars (variable x) h = h
  under_sorted vars (apply f no_terms) h = h
  under_sorted vars (apply f (and_term t ts)) h =
      let d = on_some (slice_get theory.operations f) (λ d. (d.result ≡ h.0) × HaveSorts theory vars (and_term t ts) d.args) h.1 in
      first d.0.args d.2.1
    where
      first : (sorts : List ℕ) → HaveSorts theory vars (and_term t ts) sorts → HasSomeSort theory vars t
      first [] k = absurd k
      first (s ∷ sorts) k = (s, k.0)

  sorted_of : (vars : ℕ → Option ℕ) (p : Premise) (n : ℕ) → PremiseFits theory vars p → HasSomeSort theory vars (candidate p n)
  sorted_of vars (premise a b) zero h = (h.0, h.1)
  sorted_of vars (premise a b) (suc zero) h = (h.0, h.2)
  sorted_of vars (premise a b) (suc (suc n)) h = under_sorted vars a (h.0, h.1)

  pub candidate_sorted : (vars : ℕ → Option ℕ) (p : Premise) (ls : List (List Premise)) (n : ℕ) → IsFirstPremise ls p →
      AllFit theory vars ls → HasSomeSort theory vars (candidate p n)
  candidate_sorted vars p [] n e h = absurd e
  candidate_sorted vars p ([] ∷ ls) n e h = absurd e
  candidate_sorted vars p ((q ∷ qs) ∷ ls) n e h = sorted_of vars p n (subst (PremiseFits theory vars) e h.0.0)

  pub after_fit : (vars : ℕ → Option ℕ) (t : TermTree) (c : ℕ) (ls rest : List (List Premise)) → IsAfter theory t c ls rest →
      AllFit theory vars ls → AllFit theory vars rest
  after_fit vars t c [] rest a h = subst (AllFit theory vars) (sym a) tt
  after_fit vars t c ([] ∷ ls) rest a h = absurd a
  after_fit vars t c ((p ∷ ps) ∷ ls) rest (inl a) h = subst (AllFit theory vars) (sym a.1.1) (h.0.1, after_fit vars t c ls a.1.0 a.1.2 h.1)
  after_fit vars t c ((p ∷ ps) ∷ ls) rest (inr a) h = after_fit vars t c ls rest a.1 h.1

  pub head_sort_of : (vars : ℕ → Option ℕ) (t : TermTree) (s : ℕ) → HasSort theory vars t s → head_sort theory vars t ≡ Some s
  head_sort_of vars (variable x) s h = h
  head_sort_of vars (apply f ts) s h =
      let d = on_some (slice_get theory.operations f) (λ d. (d.result ≡ s) × HaveSorts theory vars ts d.args) h in
      ap (option_map result_of) d.1 ∙ ap Some d.2.0

  pub sorted_found : (vars : ℕ → Option ℕ) (t : TermTree) (s : ℕ) → Some s ≡ head_sort theory vars t → HasSomeSort theory vars t →
      HasSort theory vars t s
  sorted_found vars t s e h = subst (HasSort theory vars t) (same_Some _ _ (sym (head_sort_of vars t h.0 h.1) ∙ sym e)) h.1

  -- what the program finds list by list
  pub begins_not : (t : TermTree) (xs : List (Term × Term)) (x : Term × Term) → 1 ≤ length xs → x ≡ get_or xs 0 x →
      ((c : ℕ) → Gives theory (premise_of x) t c → ⊥) → Begins theory t (map premise_of xs) → ⊥
  begins_not t [] x w a n b = omega (arith, w)
  begins_not t (y ∷ xs) x w a n b = n b.0 (subst (λ z. Gives theory (premise_of z) t b.0) (sym a) b.1)

  pub rest_not : (t : TermTree) (c : ℕ) (xs : List (Term × Term)) (x : Term × Term) (rest : List Premise) → 1 ≤ length xs →
      x ≡ get_or xs 0 x → ((c : ℕ) → Gives theory (premise_of x) t c → ⊥) → BeginsWith theory t c (map premise_of xs) rest → ⊥
  rest_not t c [] x rest w a n b = omega (arith, w)
  rest_not t c (y ∷ xs) x rest w a n b = n c (subst (λ z. Gives theory (premise_of z) t c) (sym a) b.0)

  begin_at : {A : Type 0} (f : A → List Premise) (t : TermTree) (xs : List A) (i : ℕ) (x : A) → i < length xs → x ≡ get_or xs i x →
      BeginWithConstants theory t (map f xs) → Begins theory t (f x)
  begin_at f t [] i x w a b = absurd (omega arith)
  begin_at f t (y ∷ xs) zero x w a b = subst (λ z. Begins theory t (f z)) (sym a) (first (f y) b)
    where
      first : (l : List Premise) → BeginWithConstants theory t (l ∷ map f xs) → Begins theory t l
      first [] k = absurd k
      first (p ∷ ps) k = k.0
  begin_at f t (y ∷ xs) (suc i) x w a b = begin_at f t xs i x (omega arith) a (rest (f y) b)
    where
      rest : (l : List Premise) → BeginWithConstants theory t (l ∷ map f xs) → BeginWithConstants theory t (map f xs)
      rest [] k = absurd k
      rest (p ∷ ps) k = k.1

  module _ {A : Type 0} (f : A → List Premise) (t : TermTree) (c : ℕ) (xs : List A) (i : ℕ) (x : A) (within : i < length xs) (at : x ≡ get_or xs i x) where
    pub after_add : (old new : List (List Premise)) (tail : List Premise) → IsAfter theory t c (map f (take i xs)) old →
        BeginsWith theory t c (f x) tail → new ≡ old ++ tail ∷ [] → IsAfter theory t c (map f (take (i + 1) xs)) new
    after_add old new tail a b e = subst (λ ls. IsAfter theory t c ls new) (sym (map_next f xs i x within at)) (subst (IsAfter theory t c (map f (take i xs) ++ f x ∷ [])) (sym e) (after_last t c (map f (take i xs)) old (f x) tail a b))

    pub after_leave : (old : List (List Premise)) → IsAfter theory t c (map f (take i xs)) old → BeginWithConstants theory t (map f xs) →
        ((tail : List Premise) → BeginsWith theory t c (f x) tail → ⊥) → IsAfter theory t c (map f (take (i + 1) xs)) old
    after_leave old a b n = subst (λ ls. IsAfter theory t c ls old) (sym (map_next f xs i x within at)) (after_skip t c (map f (take i xs)) old (f x) a (begin_at f t xs i x within at b) n)
