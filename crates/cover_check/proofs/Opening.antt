-- Which sorts are open.
use Rattle.std.proofs.Common.{ℕ, ◌≡◌, ◌↔◌, ◌∙◌, if◌then◌else◌, List, [], ◌∷◌, Bool, true, false, Option, None, Some, option_map, refl, sym, ap, subst, inl, inr}
use Rattle.std.specs.List.{slice_get}
use Rattle.std.proofs.lemmas.Option.{none-some}
use Rattle.equation_sets.specs.Members.{IsIn}
use Rattle.data_fits.specs.Heads.{head_sort, result_of}
use Rattle.data_fits.proofs.Listing.{found_sort}
use Rattle.spec_core.specs.Lists.{OneOf, IsOneOf}
use Rattle.spec_core.specs.OpenSorts.{GivesSort, IsOfSort, IsOpen, by_partial, by_argument, by_premise}
use Rattle.spec_core.specs.Sorts.{OnSome, HasSort, HaveSorts, PremiseFits}
use Rattle.spec_core.specs.Terms.{TermTree, variable, apply}
use Rattle.spec_core.specs.Theories.{Operation, Premise, premise, ConditionalEquation, Theory, Heads}
use Rattle.cover_search.specs.Heads.{headed, is_headed}
use Rattle.cover_search.specs.Sorts.{IsDeclaredAt}
use Rattle.cover_search.proofs.Heading.{is_applied, not_headed}
use Rattle.cover_search.proofs.Options.{both_on, on_some}
use Rattle.cover_check.specs.Opening.{AllOpen, PremiseAsksIn, EquationAsksIn, GivesOpen, IsClosedFor}

one_in : (set : List Bool) (sorts : List ℕ) → OneOf (λ s. IsIn s set) sorts → (s : ℕ) × IsOneOf s sorts × IsIn s set
one_in set [] o = absurd o
one_in set (s ∷ sorts) (inl h) = (s, inl refl, h)
one_in set (s ∷ sorts) (inr o) = let r = one_in set sorts o in (r.0, inr r.1, r.2)

in_one : (set : List Bool) (s : ℕ) (sorts : List ℕ) → IsIn s set → IsOneOf s sorts → OneOf (λ s. IsIn s set) sorts
in_one set s [] h o = absurd o
in_one set s (x ∷ sorts) h (inl e) = inl (subst (λ y. IsIn y set) e h)
in_one set s (x ∷ sorts) h (inr o) = inr (in_one set s sorts h o)

-- a premise's left side
abbrev pub left_of : Premise → TermTree
left_of (premise a b) = a

module _ (theory : Theory) (set : List Bool) where
  premise_out : (vars : ℕ → Option ℕ) (ps : List Premise) → OneOf (PremiseAsksIn theory vars set) ps →
      (s : ℕ) × OneOf (IsOfSort theory vars s) ps × IsIn s set
  premise_out vars [] o = absurd o
  premise_out vars (p ∷ ps) (inl h) = (h.0, inl h.1, h.2)
  premise_out vars (p ∷ ps) (inr o) = let r = premise_out vars ps o in (r.0, inr r.1, r.2)

  premise_in : (vars : ℕ → Option ℕ) (s : ℕ) (ps : List Premise) → IsIn s set → OneOf (IsOfSort theory vars s) ps →
      OneOf (PremiseAsksIn theory vars set) ps
  premise_in vars s [] h o = absurd o
  premise_in vars s (p ∷ ps) h (inl k) = inl (s, k, h)
  premise_in vars s (p ∷ ps) h (inr o) = inr (premise_in vars s ps h o)

  asked_out : (f : ℕ) (es : List ConditionalEquation) → OneOf (λ e. Heads f e × EquationAsksIn theory set e) es →
      (s : ℕ) × OneOf (λ e. Heads f e × OneOf (IsOfSort theory (slice_get e.sorts) s) e.premises) es × IsIn s set
  asked_out f [] o = absurd o
  asked_out f (e ∷ es) (inl h) = let r = premise_out (slice_get e.sorts) e.premises h.1 in (r.0, inl (h.0, r.1), r.2)
  asked_out f (e ∷ es) (inr o) = let r = asked_out f es o in (r.0, inr r.1, r.2)

  asked_in : (f s : ℕ) (es : List ConditionalEquation) → IsIn s set →
      OneOf (λ e. Heads f e × OneOf (IsOfSort theory (slice_get e.sorts) s) e.premises) es →
      OneOf (λ e. Heads f e × EquationAsksIn theory set e) es
  asked_in f s [] h o = absurd o
  asked_in f s (e ∷ es) h (inl k) = inl (k.0, premise_in (slice_get e.sorts) s e.premises h k.1)
  asked_in f s (e ∷ es) h (inr o) = inr (asked_in f s es h o)

  -- it is the same of an operation's equations alone
  pub of_headed : (f : ℕ) (es : List ConditionalEquation) → OneOf (EquationAsksIn theory set) (headed f es) →
      OneOf (λ e. Heads f e × EquationAsksIn theory set e) es
  of_headed f [] o = absurd o
  of_headed f (e ∷ es) o = chosen (is_headed f e) refl (of_headed f es) o
    where
      chosen : (b : Bool) → is_headed f e ≡ b →
          (OneOf (EquationAsksIn theory set) (headed f es) → OneOf (λ e. Heads f e × EquationAsksIn theory set e) es) →
          OneOf (EquationAsksIn theory set) (if b then e ∷ headed f es else headed f es) →
          OneOf (λ e. Heads f e × EquationAsksIn theory set e) (e ∷ es)
      chosen true is rest (inl h) = inl (is_applied f e.left is, h)
      chosen true is rest (inr o) = inr (rest o)
      chosen false is rest o = inr (rest o)

  pub among_headed : (f : ℕ) (es : List ConditionalEquation) → OneOf (λ e. Heads f e × EquationAsksIn theory set e) es →
      OneOf (EquationAsksIn theory set) (headed f es)
  among_headed f [] o = absurd o
  among_headed f (e ∷ es) o = chosen (is_headed f e) refl (among_headed f es) o
    where
      chosen : (b : Bool) → is_headed f e ≡ b →
          (OneOf (λ e. Heads f e × EquationAsksIn theory set e) es → OneOf (EquationAsksIn theory set) (headed f es)) →
          OneOf (λ e. Heads f e × EquationAsksIn theory set e) (e ∷ es) →
          OneOf (EquationAsksIn theory set) (if b then e ∷ headed f es else headed f es)
      chosen true is rest (inl h) = inl h.1
      chosen true is rest (inr o) = inr (rest o)
      chosen false is rest (inl h) = absurd (not_headed f e is h.0)
      chosen false is rest (inr o) = rest o

  -- a premise asks a sort of the set exactly where the sort of its left side's head is in it
  pub asks_headed : (vars : ℕ → Option ℕ) (p : Premise) → PremiseFits theory vars p → (found : ℕ) →
      Some found ≡ head_sort theory vars (left_of p) → IsIn found set ↔ PremiseAsksIn theory vars set p
  asks_headed vars (premise a b) fits found e =
      let same : fits.0 ≡ found = found_sort theory vars a found fits.0 e fits.1 in (
        λ h. (fits.0, (fits.1, fits.2), subst (λ s. IsIn s set) (sym same) h),
        λ h. subst (λ s. IsIn s set) (found_sort theory vars a found h.0 e h.1.0) h.2,
      )

  -- the head of a term that has a sort has one
  has_head : (vars : ℕ → Option ℕ) (t : TermTree) (s : ℕ) → HasSort theory vars t s → None ≡ head_sort theory vars t → ⊥
  has_head vars (variable x) s h e = none-some s (e ∙ h)
  has_head vars (apply f ts) s h e =
      let d = on_some (slice_get theory.operations f) (λ d. (d.result ≡ s) × HaveSorts theory vars ts d.args) h in
      none-some (result_of d.0) (e ∙ ap (option_map result_of) d.1)

  pub premise_has_head : (vars : ℕ → Option ℕ) (p : Premise) → PremiseFits theory vars p → None ≡ head_sort theory vars (left_of p) → ⊥
  premise_has_head vars (premise a b) fits e = has_head vars a fits.0 fits.1 e

  -- the result sort of an operation that gives an open sort is open
  pub opened_by : (f : ℕ) (args : List ℕ) (result : ℕ) → IsDeclaredAt theory f args result → AllOpen theory set →
      GivesOpen theory set f args → IsOpen theory result
  opened_by f args result declared all h = by_reason h
    where
      d : (d : Operation) × (slice_get theory.operations f ≡ Some d) × ((d.args ≡ args) × (d.result ≡ result))
      d = on_some (slice_get theory.operations f) (λ d. (d.args ≡ args) × (d.result ≡ result)) declared

      gives : GivesSort theory f result
      gives = subst (λ o. OnSome o (λ d. d.result ≡ result)) (sym d.1) d.2.1

      by_reason : GivesOpen theory set f args → IsOpen theory result
      by_reason (inl p) = by_partial f gives p
      by_reason (inr (inl o)) =
          let r = one_in set args o in
          by_argument f r.0 gives
          (subst (λ o. OnSome o (λ d. IsOneOf r.0 d.args)) (sym d.1) (subst (IsOneOf r.0) (sym d.2.0) r.1)) (all r.0 r.2)
      by_reason (inr (inr o)) =
          let r = asked_out f theory.equations o in
          by_premise f r.0 gives r.1 (all r.0 r.2)

  -- a closed set has each open sort
  pub all_open : ((f : ℕ) → IsClosedFor theory set f) → (s : ℕ) → IsOpen theory s → IsIn s set
  all_open closed s (by_partial f gives p) =
      let d = on_some (slice_get theory.operations f) (λ d. d.result ≡ s) gives in
      subst (λ r. IsIn r set) d.2 (closed f d.0 d.1 (inl p))
  all_open closed s (by_argument f other gives takes h) =
      let d = both_on (slice_get theory.operations f) (λ d. d.result ≡ s) (λ d. IsOneOf other d.args) gives takes in
      subst (λ r. IsIn r set) d.2 (closed f d.0 d.1 (inr (inl (in_one set other d.0.args (all_open closed other h) d.3))))
  all_open closed s (by_premise f other gives asks h) =
      let d = on_some (slice_get theory.operations f) (λ d. d.result ≡ s) gives in
      subst (λ r. IsIn r set) d.2
      (closed f d.0 d.1 (inr (inr (asked_in f other theory.equations (all_open closed other h) asks))))
