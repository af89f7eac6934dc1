-- Operations with as many arguments as they are declared with, and calls with fewer.
use Rattle.std.proofs.Common.{ℕ, zero, suc, drop, ◌≡◌, ◌<◌, List, [], ◌∷◌, length, refl, sym, ap, subst, ◌∙◌, arith, Option, Some}
use Rattle.std.proofs.lemmas.Option.{same_Some}
use Rattle.std.specs.List.{slice_get}
use Rattle.spec_core.specs.Lists.{Each}
use Rattle.spec_core.specs.Terms.{TermTree, TermTrees, variable, apply, no_terms, and_term, width, instance, instances}
use Rattle.spec_core.specs.Theories.{Operation, Premise, premise, ConditionalEquation, Theory}
use Rattle.spec_core.specs.Sorts.{HasSort, HaveSorts, EquationFits, PremiseFits}
use Rattle.spec_core.specs.Orthogonality.{HasPatterns}
use Rattle.spec_core.specs.Evaluation.{Tries, final, unlike, TriesMeet, passed_over, asked}
use Rattle.spec_core.specs.Executable.{IsExecutable}
use Rattle.spec_core.proofs.Members.{each_one, each_from}
use Rattle.data_laws.proofs.Conditions.{as_many}
use Rattle.data_laws.proofs.Exists.{width_instances}
use Rattle.data_laws.proofs.Staying.{declared_as}
use Rattle.value_nodes.specs.Own.{StaysShort}
use Rattle.rewriter.specs.Calls.{IsCallOf}
use Rattle.rewriter.proofs.Calls.{at_place}
use Rattle.rewriter.specs.Steps.{equation_at, IsWithinArity, AreWithinArity, AllWithinArity}

module _ (theory : Theory) (vars : ℕ → Option ℕ) where
  mutual
    -- a term of a sort has no operation over more arguments than it is declared with
    pub sorted_arities : (t : TermTree) (sort : ℕ) → HasSort theory vars t sort → AreWithinArity theory t
    sorted_arities (variable x) sort h = tt
    sorted_arities (apply f ts) sort h =
        let d = declared_as (λ d. (d.result ≡ sort) × HaveSorts theory vars ts d.args) (slice_get theory.operations f) h in
        let n = as_many theory vars ts d.0.args d.2.1 in (
          λ other e.
              let same : d.0 ≡ other = same_Some d.0 other (sym d.1 ∙ e) in
              let l = ap (λ (o : Operation). length o.args) same in
              omega (arith, n, l),
          all_arities ts d.0.args d.2.1,
        )

    pub all_arities : (ts : TermTrees) (sorts : List ℕ) → HaveSorts theory vars ts sorts → AllWithinArity theory ts
    all_arities no_terms sorts h = tt
    all_arities (and_term t ts) [] h = absurd h
    all_arities (and_term t ts) (c ∷ sorts) h = (sorted_arities t c h.0, all_arities ts sorts h.1)

-- a call that matches a left side has as many arguments as its operation is declared with
matched_width : (theory : Theory) (e : ConditionalEquation) → EquationFits theory e → HasPatterns theory e → (f : ℕ) (vs : TermTrees)
    (s : ℕ → TermTree) → instance s e.left ≡ apply f vs →
    (d : Operation) × (slice_get theory.operations f ≡ Some d) × (width vs ≡ length d.args)
matched_width theory e fits p f vs s q =
    let l : HasSort theory (slice_get e.sorts) (apply p.0 p.1) fits.sides.0 =
    subst (λ t. HasSort theory (slice_get e.sorts) t fits.sides.0) p.2 fits.sides.1 in
    let d = declared_as (λ d. (d.result ≡ fits.sides.0) × HaveSorts theory (slice_get e.sorts) p.1 d.args)
    (slice_get theory.operations p.0) l in
    let k : instance s (apply p.0 p.1) ≡ apply f vs = ap (instance s) (sym p.2) ∙ q in
    let head : p.0 ≡ f = cc in
    let args : instances s p.1 ≡ vs = cc in (
      d.0,
      subst (λ g. slice_get theory.operations g ≡ Some d.0) head d.1,
      ap width (sym args) ∙ width_instances s p.1 ∙ as_many theory (slice_get e.sorts) p.1 d.0.args d.2.1,
    )

module _ (theory : Theory) (f : ℕ) (vs : TermTrees) where
  -- none of the equations matches the call
  abbrev NoneMatch : List ConditionalEquation → Type 0
  NoneMatch es = Each (λ e. (s : ℕ → TermTree) → instance s e.left ≡ apply f vs → ⊥) es

  unmatched_stays : (es : List ConditionalEquation) → NoneMatch es → Tries theory es f vs (apply f vs) 0
  unmatched_stays [] h = final refl refl
  unmatched_stays (e ∷ es) h = unlike h.0 (unmatched_stays es h.1)

  unmatched_meets : {es : List ConditionalEquation} {u : TermTree} → TriesMeet theory es f vs u → NoneMatch es → ⊥
  unmatched_meets (passed_over n t) h = unmatched_meets t h.1
  unmatched_meets (asked s q a) h = h.0 s q

-- a call with fewer arguments than its operation is declared with stays
pub short_stays : (theory : Theory) → IsExecutable theory → (f n : ℕ) → IsWithinArity theory f n → StaysShort theory f n
short_stays theory ex f n within vs few = record {
  tries = unmatched_stays theory f vs theory.equations none;
  small = λ w m big. unmatched_meets theory f vs m none;
}
  where
    none : NoneMatch theory f vs theory.equations
    none = each_from (λ e. (s : ℕ → TermTree) → instance s e.left ≡ apply f vs → ⊥) theory.equations
        (λ e i s q.
        let fits = each_one (EquationFits theory) theory.equations e ex.fits.equations i in
        let patterns = each_one (HasPatterns theory) theory.equations e ex.orthogonal.patterns i in
        let w = matched_width theory e fits patterns f vs s q in
        let m = within w.0 w.1 in
        omega (arith, few, m, w.2))

-- the terms of an equation, and the number of its left side's arguments
module _ (theory : Theory) (ex : IsExecutable theory) (place : ℕ) (h : place < length theory.equations) where
  fits_at : EquationFits theory (equation_at theory place)
  fits_at = at_place (EquationFits theory) theory.equations place ex.fits.equations h

  pub right_arities : AreWithinArity theory (equation_at theory place).right
  right_arities =
      sorted_arities theory (slice_get (equation_at theory place).sorts) (equation_at theory place).right fits_at.sides.0 fits_at.sides.2

  asked_arities : (ps : List Premise) (n : ℕ) (a b : TermTree) (qs : List Premise) →
      Each (PremiseFits theory (slice_get (equation_at theory place).sorts)) ps → drop n ps ≡ premise a b ∷ qs →
      AreWithinArity theory a × AreWithinArity theory b
  asked_arities [] zero a b qs f e = let n : ⊥ = cc in absurd n
  asked_arities [] (suc n) a b qs f e = let n : ⊥ = cc in absurd n
  asked_arities (premise x y ∷ ps) zero a b qs f e =
      let l : x ≡ a = cc in
      let r : y ≡ b = cc in
      let vars = slice_get (equation_at theory place).sorts in (
        subst (AreWithinArity theory) l (sorted_arities theory vars x f.0.0 f.0.1),
        subst (AreWithinArity theory) r (sorted_arities theory vars y f.0.0 f.0.2),
      )
  asked_arities (premise x y ∷ ps) (suc n) a b qs f e = asked_arities ps n a b qs f.1 e

  pub premise_arities : (n : ℕ) (a b : TermTree) (qs : List Premise) → drop n (equation_at theory place).premises ≡ premise a b ∷ qs →
      AreWithinArity theory a × AreWithinArity theory b
  premise_arities n a b qs e = asked_arities (equation_at theory place).premises n a b qs fits_at.premises e

  pub left_arity : (f k : ℕ) → IsCallOf theory place f k → IsWithinArity theory f k
  left_arity f k head =
      let e = equation_at theory place in
      let all = sorted_arities theory (slice_get e.sorts) e.left fits_at.sides.0 fits_at.sides.1 in
      subst (IsWithinArity theory f) (sym head.2) (subst (AreWithinArity theory) head.1 all).0
