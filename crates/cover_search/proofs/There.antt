-- What other rows have where a pattern is opened.
use Rattle.std.proofs.Common.{ℕ, suc, ◌≡◌, ◌+◌, Option, Some, None, sym, ◌∙◌}
use Rattle.std.proofs.lemmas.Option.{same_Some}
use Rattle.spec_core.specs.Terms.{TermTree, TermTrees, variable, apply, no_terms, and_term}
use Rattle.equation_shapes.specs.Shapes.{Meets, MeetAll}
use Rattle.cover_search.specs.Search.{faced, first_faced, opened, opened_any, there_first, operation_there, operation_there_in}

-- weights of terms, by which the recursion over them ends
abbrev mutual
  pub weight : TermTree → ℕ
  weight (variable x) = 1
  weight (apply f ts) = suc (weights ts)

  pub weights : TermTrees → ℕ
  weights no_terms = 0
  weights (and_term t ts) = suc (weight t + weights ts)

-- what meets a pattern after it is opened met it before

first_before : (o : Option ℕ) (q p replaced : TermTree) (qs ps opened : TermTrees) → (Meets q replaced → Meets q p) →
    (MeetAll qs opened → MeetAll qs ps) → MeetAll (and_term q qs) (first_faced o (and_term replaced ps) (and_term p opened)) →
    Meets q p × MeetAll qs ps
first_before (Some s) q p replaced qs ps opened h k m = (h m.0, m.1)
first_before None q p replaced qs ps opened h k m = (m.0, k m.1)

none_before : (o : Option ℕ) (p q : TermTree) (ps qs : TermTrees) → MeetAll no_terms (first_faced o (and_term p ps) (and_term q qs)) → ⊥
none_before (Some s) p q ps qs m = m
none_before None p q ps qs m = m

mutual
  meets_before : (q r p u : TermTree) → Meets q (opened u r p) → Meets q p
  meets_before q (variable x) p u m = m
  meets_before (variable y) (apply g rs) (variable s) u m = tt
  meets_before (apply h qs) (apply g rs) (variable s) u m = tt
  meets_before (variable y) (apply g rs) (apply f ps) u m = tt
  meets_before (apply h qs) (apply g rs) (apply f ps) u m = (m.0, meet_before qs rs ps u m.1)

  pub meet_before : (qs rs ps : TermTrees) (u : TermTree) → MeetAll qs (opened_any u rs ps) → MeetAll qs ps
  meet_before qs no_terms ps u m = m
  meet_before qs (and_term r rs) no_terms u m = m
  meet_before no_terms (and_term r rs) (and_term p ps) u m =
      absurd (none_before (faced r p) (opened u r p) p ps (opened_any u rs ps) m)
  meet_before (and_term q qs) (and_term r rs) (and_term p ps) u m =
      first_before (faced r p) q p (opened u r p) qs ps (opened_any u rs ps) (λ k. meets_before q r p u k) (λ k. meet_before qs rs ps u k) m

-- the operation that a row has there is the one by which the pattern is opened, where the row meets what comes of it

first_there : (o one other : Option ℕ) (q p replaced : TermTree) (qs ps opened : TermTrees) (g c : ℕ) →
    (one ≡ Some g → Meets q replaced → g ≡ c) → (other ≡ Some g → MeetAll qs opened → g ≡ c) → there_first o one other ≡ Some g →
    MeetAll (and_term q qs) (first_faced o (and_term replaced ps) (and_term p opened)) → g ≡ c
first_there (Some s) one other q p replaced qs ps opened g c h k e m = h e m.0
first_there None one other q p replaced qs ps opened g c h k e m = k e m.1

mutual
  is_there : (q r p : TermTree) (c g : ℕ) (us : TermTrees) → operation_there r p q ≡ Some g → Meets q (opened (apply c us) r p) → g ≡ c
  is_there q (variable x) p c g us e m = absurd (cc)
  is_there (variable y) (apply k rs) (variable s) c g us e m = absurd (cc)
  is_there (apply h qs) (apply k rs) (variable s) c g us e m = sym (same_Some _ _ e) ∙ m.0
  is_there (variable y) (apply k rs) (apply f ps) c g us e m = absurd (cc)
  is_there (apply h qs) (apply k rs) (apply f ps) c g us e m = is_there_in qs rs ps c g us e m.1

  pub is_there_in : (qs rs ps : TermTrees) (c g : ℕ) (us : TermTrees) → operation_there_in rs ps qs ≡ Some g →
      MeetAll qs (opened_any (apply c us) rs ps) → g ≡ c
  is_there_in qs no_terms ps c g us e m = absurd (cc)
  is_there_in qs (and_term r rs) no_terms c g us e m = absurd (cc)
  is_there_in no_terms (and_term r rs) (and_term p ps) c g us e m = absurd (cc)
  is_there_in (and_term q qs) (and_term r rs) (and_term p ps) c g us e m =
      first_there (faced r p) (operation_there r p q) (operation_there_in rs ps qs) q p (opened (apply c us) r p) qs ps (opened_any (apply c us) rs ps) g c
      (λ a b. is_there q r p c g us a b) (λ a b. is_there_in qs rs ps c g us a b) e m
