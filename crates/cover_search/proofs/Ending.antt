-- Each turn of the search makes what is left of it smaller.
use Rattle.std.proofs.Common.{ℕ, zero, suc, ◌≡◌, ◌<◌, ◌≤◌, ◌+◌, ◌*◌, List, [], ◌∷◌, ◌++◌, Option, Some, None, length, refl, sym, ap, subst, ◌∙◌, arith, inl, inr}
use Rattle.std.proofs.lemmas.Nat.{mul-le}
use Rattle.spec_core.specs.Terms.{TermTree, TermTrees, variable, apply, no_terms, and_term}
use Rattle.spec_core.specs.Theories.{Operation, Theory}
use Rattle.cover_search.proofs.Searching.{or_else_some}
use Rattle.cover_search.specs.Search.{variables, faced, faced_any, first_faced, opened, opened_any, OpenBy, IsFirstMeeting, AreAlternatives}
use Rattle.cover_search.specs.Turns.{operations_in, operations_in_all, left_open, left_open_in, open_in_rows, turns, turns_left}

-- no more is left open than there is
mutual
  at_most : (r p : TermTree) → left_open r p ≤ operations_in r
  at_most (variable x) p = omega arith
  at_most (apply g rs) (variable s) = omega arith
  at_most (apply g rs) (apply f ps) = omega (arith, all_at_most rs ps)

  all_at_most : (rs ps : TermTrees) → left_open_in rs ps ≤ operations_in_all rs
  all_at_most no_terms ps = omega arith
  all_at_most (and_term r rs) no_terms = omega arith
  all_at_most (and_term r rs) (and_term p ps) = omega (arith, at_most r p, all_at_most rs ps)

-- where a variable is replaced by an operation, no row has more left open

first_no_more : (o : Option ℕ) (q p replaced : TermTree) (qs ps opened : TermTrees) → left_open q replaced ≤ left_open q p →
    left_open_in qs opened ≤ left_open_in qs ps →
    left_open_in (and_term q qs) (first_faced o (and_term replaced ps) (and_term p opened)) ≤ left_open_in (and_term q qs) (and_term p ps)
first_no_more (Some s) q p replaced qs ps opened h k = omega (arith, h)
first_no_more None q p replaced qs ps opened h k = omega (arith, k)

mutual
  no_more : (q r p : TermTree) (c : ℕ) (us : TermTrees) → left_open q (opened (apply c us) r p) ≤ left_open q p
  no_more q (variable x) p c us = omega arith
  no_more (variable y) (apply g rs) p c us = omega arith
  no_more (apply h qs) (apply g rs) (variable t) c us = omega (arith, all_at_most qs us)
  no_more (apply h qs) (apply g rs) (apply f ps) c us = no_more_in qs rs ps c us

  no_more_in : (qs rs ps : TermTrees) (c : ℕ) (us : TermTrees) → left_open_in qs (opened_any (apply c us) rs ps) ≤ left_open_in qs ps
  no_more_in no_terms rs ps c us = omega arith
  no_more_in (and_term q qs) no_terms ps c us = omega arith
  no_more_in (and_term q qs) (and_term r rs) no_terms c us = omega arith
  no_more_in (and_term q qs) (and_term r rs) (and_term p ps) c us =
      first_no_more (faced r p) q p (opened (apply c us) r p) qs ps (opened_any (apply c us) rs ps) (no_more q r p c us) (no_more_in qs rs ps c us)

-- and the row that faces the variable has less
mutual
  fewer : (r p : TermTree) (s c : ℕ) (us : TermTrees) → faced r p ≡ Some s → left_open r (opened (apply c us) r p) < left_open r p
  fewer (variable x) p s c us e = absurd (cc)
  fewer (apply g rs) (variable t) s c us e = omega (arith, all_at_most rs us)
  fewer (apply g rs) (apply f ps) s c us e = fewer_in rs ps s c us e

  fewer_in : (rs ps : TermTrees) (s c : ℕ) (us : TermTrees) → faced_any rs ps ≡ Some s →
      left_open_in rs (opened_any (apply c us) rs ps) < left_open_in rs ps
  fewer_in no_terms ps s c us e = absurd (cc)
  fewer_in (and_term r rs) no_terms s c us e = absurd (cc)
  fewer_in (and_term r rs) (and_term p ps) s c us e =
      elim (or_else_some (faced r p) (faced_any rs ps) s e) [
        | inl e ↦ subst (λ o. left_open_in (and_term r rs) (first_faced o (and_term (opened (apply c us) r p) ps) (and_term p (opened_any (apply c us) rs ps))) < left_open_in (and_term r rs) (and_term p ps)) (sym e) (omega (arith, fewer r p s c us e))
        | inr e ↦ subst (λ o. left_open_in (and_term r rs) (first_faced o (and_term (opened (apply c us) r p) ps) (and_term p (opened_any (apply c us) rs ps))) < left_open_in (and_term r rs) (and_term p ps)) (sym e.0) (omega (arith, fewer_in rs ps s c us e.1))
      ]

-- so all rows together have less

rows_no_more : (rows : List TermTrees) (row ps : TermTrees) (c : ℕ) (us : TermTrees) →
    open_in_rows rows (opened_any (apply c us) row ps) ≤ open_in_rows rows ps
rows_no_more [] row ps c us = omega arith
rows_no_more (r ∷ rows) row ps c us = omega (arith, no_more_in r row ps c us, rows_no_more rows row ps c us)

rows_fewer : (rows : List TermTrees) (row ps : TermTrees) (s c : ℕ) (us : TermTrees) → IsFirstMeeting rows ps row →
    faced_any row ps ≡ Some s → open_in_rows rows (opened_any (apply c us) row ps) < open_in_rows rows ps
rows_fewer [] row ps s c us first e = absurd first
rows_fewer (r ∷ rows) row ps s c us (inl first) e =
    let less : left_open_in r (opened_any (apply c us) row ps) < left_open_in r ps = subst (λ x. left_open_in x (opened_any (apply c us) row ps) < left_open_in x ps) first.1 (fewer_in row ps s c us e) in
    omega (arith, less, rows_no_more rows row ps c us)
rows_fewer (r ∷ rows) row ps s c us (inr first) e = omega (arith, no_more_in r row ps c us, rows_fewer rows row ps s c us first.1 e)

-- numbers of turns

some_turns : (ways left : ℕ) → 1 ≤ turns ways left
some_turns ways zero = omega arith
some_turns ways (suc left) = omega arith

more_turns : (ways left more : ℕ) → left ≤ more → turns ways left ≤ turns ways more
more_turns ways zero more h = some_turns ways more
more_turns ways (suc left) zero h = absurd (omega (arith, h))
more_turns ways (suc left) (suc more) h =
    let less = mul-le ways (turns ways left) ways (turns ways more) (omega arith) (more_turns ways left more (omega (arith, h))) in
    omega (arith, less)

module _ (theory : Theory) (rows : List TermTrees) where
  turns_together : (qs todo : List TermTrees) → turns_left theory rows (qs ++ todo) ≡ turns_left theory rows qs + turns_left theory rows todo
  turns_together [] todo = omega arith
  turns_together (q ∷ qs) todo = omega (arith, turns_together qs todo)

  opened_turns : (s : ℕ) (row ps : TermTrees) (n : ℕ) (ds : List Operation) (qs : List TermTrees) (left : ℕ) → OpenBy theory s row ps n ds qs →
      ((c : ℕ) (us : TermTrees) → open_in_rows rows (opened_any (apply c us) row ps) ≤ left) →
      turns_left theory rows qs ≤ length ds * turns (length theory.operations) left
  opened_turns s row ps n [] qs left opens most = subst (λ xs. turns_left theory rows xs ≤ 0 * turns (length theory.operations) left) (sym opens) (omega arith)
  opened_turns s row ps n (d ∷ ds) qs left (inl o) most =
      let q = opened_any (apply n (variables d.args)) row ps in
      let head : turns (length theory.operations) (open_in_rows rows q) ≤ turns (length theory.operations) left = more_turns (length theory.operations) (open_in_rows rows q) left (most n (variables d.args)) in
      let rest : turns_left theory rows o.1.0 ≤ length ds * turns (length theory.operations) left = opened_turns s row ps (suc n) ds o.1.0 left o.1.2 most in
      subst (λ xs. turns_left theory rows xs ≤ length (d ∷ ds) * turns (length theory.operations) left) (sym o.1.1) (omega (arith, head, rest))
  opened_turns s row ps n (d ∷ ds) qs left (inr o) most =
      let rest : turns_left theory rows qs ≤ length ds * turns (length theory.operations) left = opened_turns s row ps (suc n) ds qs left o.1 most in
      omega (arith, rest)

  -- a turn after which nothing is left of the pattern
  pub fewer_after : (ps : TermTrees) (todo : List TermTrees) → turns_left theory rows todo < turns_left theory rows (ps ∷ todo)
  fewer_after ps todo = omega (arith, some_turns (length theory.operations) (open_in_rows rows ps))

  -- a turn in which a variable is replaced
  pub fewer_split : (ps row : TermTrees) (s : ℕ) (todo new : List TermTrees) → IsFirstMeeting rows ps row → faced_any row ps ≡ Some s →
      AreAlternatives theory s row ps 0 todo new → turns_left theory rows new < turns_left theory rows (ps ∷ todo)
  fewer_split ps row s todo new first at alts = by_left (open_in_rows rows ps) refl
    where
      less : (c : ℕ) (us : TermTrees) → open_in_rows rows (opened_any (apply c us) row ps) < open_in_rows rows ps
      less c us = rows_fewer rows row ps s c us first at

      by_left : (left : ℕ) → open_in_rows rows ps ≡ left → turns_left theory rows new < turns_left theory rows (ps ∷ todo)
      by_left zero e = absurd (omega (arith, less 0 no_terms, e))
      by_left (suc left) e =
          let opened : turns_left theory rows alts.0 ≤ length theory.operations * turns (length theory.operations) left = opened_turns s row ps 0 theory.operations alts.0 left alts.1 (λ c us. omega (arith, less c us, e)) in
          let together : turns_left theory rows new ≡ turns_left theory rows alts.0 + turns_left theory rows todo = ap (turns_left theory rows) alts.2 ∙ turns_together alts.0 todo in
          let here : turns (length theory.operations) (open_in_rows rows ps) ≡ 1 + length theory.operations * turns (length theory.operations) left = ap (turns (length theory.operations)) e in
          omega (arith, opened, together, here)
