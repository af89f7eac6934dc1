-- The stack of the search.
use Rattle.std.proofs.Common.{ℕ, suc, ◌≡◌, ◌+◌, ◌≤◌, ◌↔◌, List, [], ◌∷◌, ◌++◌, Some, None, Bool, length, refl, ap, sym, subst, ◌∙◌, arith, inl, inr}
use Rattle.std.specs.List.{slice_get}
use Rattle.std.proofs.lemmas.List.{drop_all}
use Rattle.spec_core.proofs.Lists.{each_append, each_left, each_right}
use Rattle.spec_core.specs.Lists.{Each, OneOf}
use Rattle.spec_core.specs.Sorts.{HaveSorts}
use Rattle.spec_core.specs.Terms.{TermTrees, apply}
use Rattle.spec_core.specs.Theories.{Operation, Theory}
use Rattle.equation_sets.specs.Members.{IsIn}
use Rattle.equation_shapes.specs.Shapes.{AreOfShape, MeetAll}
use Rattle.cover_search.proofs.Facing.{all_cover_if}
use Rattle.cover_search.proofs.Searching.{all_sorted, all_made, covers_through, covered_by_all}
use Rattle.cover_search.specs.declared.pending.Pending.{Pending}
use Rattle.cover_search.specs.Makers.{AreMade}
use Rattle.cover_search.specs.Sorts.{IsInhabited, AreIn}
use Rattle.cover_search.specs.Search.{variables, faced_any, opened_any, OpenBy, IsFirstMeeting, arguments_of, stack_onto, stack_of, IsAlternative, AreAlternatives, IsCovered, LeadsBack}

pub pushed_onto : (todo : List Pending) (a : Pending) (done : List TermTrees) →
    stack_onto (todo ++ a ∷ []) done ≡ arguments_of a.pattern ∷ stack_onto todo done
pushed_onto [] a done = refl
pushed_onto (b ∷ todo) a done = pushed_onto todo a (arguments_of b.pattern ∷ done)

pub makers_in : (theory : Theory) (marks : List Bool) (sorts : List ℕ) → ((s : ℕ) → IsIn s marks ↔ IsInhabited theory s) →
    AreIn marks sorts ↔ Each (IsInhabited theory) sorts
makers_in theory marks [] exact = (λ h. tt, λ h. tt)
makers_in theory marks (s ∷ sorts) exact =
    let r = makers_in theory marks sorts exact in
    (λ h. ((exact s).0 h.0, r.0 h.1), λ h. ((exact s).1 h.0, r.1 h.1))

-- one more alternative, in front
pub one_more : (theory : Theory) (s : ℕ) (row ps : TermTrees) (c : ℕ) (d : Operation) (ds : List Operation) (qs old before new : List TermTrees) → OpenBy theory s row ps (suc c) ds qs → before ≡ qs ++ old → IsAlternative theory s row ps c d before new → (rs : List TermTrees) × OpenBy theory s row ps c (d ∷ ds) rs × (new ≡ rs ++ old)
one_more theory s row ps c d ds qs old before new o e (inl a) = (opened_any (apply c (variables d.args)) row ps ∷ qs, inl (a.0, (qs, refl, o)), a.1 ∙ ap (λ x. opened_any (apply c (variables d.args)) row ps ∷ x) e)
one_more theory s row ps c d ds qs old before new o e (inr a) = (qs, inr (a.0, o), a.1 ∙ e)

pub no_alternatives : (theory : Theory) (s : ℕ) (row ps : TermTrees) (c : ℕ) (old : List TermTrees) → length theory.operations ≤ c →
    AreAlternatives theory s row ps c old old
no_alternatives theory s row ps c old h =
    ([], subst (λ xs. OpenBy theory s row ps c xs []) (sym (drop_all c theory.operations h)) refl, refl)

module _ (theory : Theory) (rows : List TermTrees) where
  -- a stack leads back to itself, and through another one
  pub back_to : (old new : List TermTrees) → old ≡ new → LeadsBack theory rows old new
  back_to old new e = record {
    sorted = λ sorts h. subst (Each (λ p. HaveSorts theory Some p sorts)) e h;
    made = λ h. subst (Each (AreMade theory)) e h;
    covered = λ sorts hs h. subst (Each (IsCovered theory rows sorts)) (sym e) h;
  }

  pub back_through : (old mid new : List TermTrees) → LeadsBack theory rows old mid → LeadsBack theory rows mid new → LeadsBack theory rows old new
  back_through old mid new a b = record {
    sorted = λ sorts h. b.sorted sorts (a.sorted sorts h);
    made = λ h. b.made (a.made h);
    covered = λ sorts hs h. a.covered sorts hs (b.covered sorts (a.sorted sorts hs) h);
  }

  pub after_covered : (ps : TermTrees) (old : List TermTrees) → OneOf (λ r. AreOfShape r ps) rows → LeadsBack theory rows (ps ∷ old) old
  after_covered ps old o = record {
    sorted = λ sorts h. h.1;
    made = λ h. h.1;
    covered = λ sorts hs h. ((λ vs hv c k. covers_through theory rows ps vs rows k o), h);
  }

  pub after_split : (ps row : TermTrees) (s : ℕ) (old new : List TermTrees) → faced_any row ps ≡ Some s →
      AreAlternatives theory s row ps 0 old new → LeadsBack theory rows (ps ∷ old) new
  after_split ps row s old new at alts =
      let qs = alts.0 in record {
        sorted = λ sorts h. subst (Each (λ p. HaveSorts theory Some p sorts)) (sym alts.2)
            (each_append (λ p. HaveSorts theory Some p sorts) qs old
            (all_sorted theory s row ps 0 theory.operations qs sorts (λ i. ap (slice_get theory.operations) (let k : i ≡ 0 + i = omega arith in k)) at alts.1 h.0) h.1);
        made = λ h. subst (Each (AreMade theory)) (sym alts.2)
            (each_append (AreMade theory) qs old (all_made theory s row ps 0 theory.operations qs alts.1 h.0) h.1);
        covered = λ sorts hs h.
            let all : Each (IsCovered theory rows sorts) (qs ++ old) = subst (Each (IsCovered theory rows sorts)) alts.2 h in (
              (λ vs hv c k. covered_by_all theory rows ps row s qs sorts vs at alts.1 hs.0 (each_left (IsCovered theory rows sorts) qs old all) hv c k),
              each_right (IsCovered theory rows sorts) qs old all,
            );
      }

  pub not_facing : (rs : List TermTrees) (ps row : TermTrees) → IsFirstMeeting rs ps row → faced_any row ps ≡ None →
      OneOf (λ r. AreOfShape r ps) rs
  not_facing [] ps row m e = absurd m
  not_facing (r ∷ rs) ps row (inl m) e = inl (all_cover_if r ps m.0 (ap (λ x. faced_any x ps) (sym m.1) ∙ e))
  not_facing (r ∷ rs) ps row (inr m) e = inr (not_facing rs ps row m.1 e)

pub popped : (old new : List Pending) (a : Pending) → old ≡ new ++ a ∷ [] → stack_of old ≡ arguments_of a.pattern ∷ stack_of new
popped old new a e = ap stack_of e ∙ pushed_onto new a []
