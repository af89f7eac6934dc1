-- Readings of expressions have their sorts.
use Rattle.std.proofs.Common.{ℕ, ◌≡◌, List, [], ◌∷◌, sym, ap, subst, ◌∙◌, Option, Some, None, inl, inr}
use Rattle.std.specs.Prelude.{option_map}
use Rattle.std.specs.List.{slice_get}
use Rattle.std.proofs.lemmas.Option.{slice_get-map}
use Rattle.spec_core.specs.Names.{IsSameName}
use Rattle.spec_core.specs.Sorts.{OnSome, HasSort, HaveSorts}
use Rattle.spec_core.specs.Terms.{TermTree, TermTrees, no_terms, and_term}
use Rattle.spec_core.specs.Theories.{Theory, Operation}
use Rattle.sort_overloads.specs.Expressions.{Expression, Expressions, named, applied, said, nothing, no_expressions, and_expression}
use Rattle.sort_overloads.specs.Readings.{Context, Declared, IsReading, AreReadings}
use Rattle.static_laws.specs.Standing.{AgreesWithData}

pub on-some : {A : Type 0} {P Q : A → Type 0} (o : Option A) → ((x : A) → P x → Q x) → OnSome o P → OnSome o Q
on-some None h p = p
on-some (Some x) h p = h x p

sort-there : (A : Declared → Type 0) (sort : ℕ) (o : Option Declared) → OnSome o (λ v. A v × (v.sort ≡ sort)) → option_map (λ v. v.sort) o ≡ Some sort
sort-there A sort None h = absurd h
sort-there A sort (Some v) h = ap Some h.1

module _ (theory : Theory) (c : Context) (vars : ℕ → Option ℕ) (agrees : AgreesWithData theory c vars) where
  of-operation : (f : ℕ) {P Q : Operation → Type 0} → ((d : Operation) → P d → Q d) → OnSome (slice_get c.operations f) P →
      OnSome (slice_get theory.operations f) Q
  of-operation f {P} {Q} h p = subst (λ ops. OnSome (slice_get ops f) Q) agrees.operations (on-some (slice_get c.operations f) h p)

  mutual
    pub reading-sort : (e : Expression) (t : TermTree) (sort : ℕ) → IsReading c e t sort → HasSort theory vars t sort
    reading-sort (named name) t sort (inl h) =
        subst (λ u. HasSort theory vars u sort) (sym h.1)
        (agrees.variables h.0 ∙ slice_get-map (λ v. v.sort) c.variables h.0 ∙ sort-there (λ v. IsSameName v.name name.text) sort (slice_get c.variables h.0) h.2.0)
    reading-sort (named name) t sort (inr h) =
        subst (λ u. HasSort theory vars u sort) (sym h.1.1)
        (of-operation h.1.0 (λ d p. (p.1, subst (λ args. HaveSorts theory vars no_terms args) (sym p.2) tt)) h.1.2)
    reading-sort (applied position name es) t sort h =
        subst (λ u. HasSort theory vars u sort) (sym h.2) (of-operation h.0 (λ d p. (p.1, readings-sorts es h.1 d.args p.2)) h.3)
    reading-sort (said e name) t sort h = reading-sort e t sort h.0
    reading-sort nothing t sort h = absurd h

    readings-sorts : (es : Expressions) (ts : TermTrees) (sorts : List ℕ) → AreReadings c es ts sorts → HaveSorts theory vars ts sorts
    readings-sorts no_expressions no_terms [] h = tt
    readings-sorts no_expressions no_terms (sort ∷ sorts) h = absurd h
    readings-sorts no_expressions (and_term t ts) [] h = absurd h
    readings-sorts no_expressions (and_term t ts) (sort ∷ sorts) h = absurd h
    readings-sorts (and_expression e es) no_terms [] h = absurd h
    readings-sorts (and_expression e es) no_terms (sort ∷ sorts) h = absurd h
    readings-sorts (and_expression e es) (and_term t ts) [] h = absurd h
    readings-sorts (and_expression e es) (and_term t ts) (sort ∷ sorts) h = (reading-sort e t sort h.0, readings-sorts es ts sorts h.1)
