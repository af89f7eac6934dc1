-- A covered operation isn't partial. Sets of partial operations.
use Rattle.std.proofs.Common.{ℕ, zero, suc, ◌≡◌, ◌<◌, ◌≤◌, ◌+◌, ◌⊎◌, ◌↔◌, List, [], ◌∷◌, Bool, Some, length, map, get_or, sym, subst, ap, arith, inl, inr}
use Rattle.std.specs.List.{slice_get}
use Rattle.std.proofs.lemmas.Bool.{cases_order}
use Rattle.std.proofs.lemmas.Option.{slice_get_within}
use Rattle.equation_sets.specs.Members.{IsIn}
use Rattle.spec_core.specs.Cover.{IsPartial}
use Rattle.spec_core.specs.Sorts.{OnSome, HaveSorts, no_variables}
use Rattle.spec_core.specs.declared.signature.OpDecl.{OpDecl}
use Rattle.spec_core.specs.Theories.{Operation, Theory, operation_of}
use Rattle.cover_search.proofs.Options.{on_some}
use Rattle.cover_check.specs.Cases.{IsCoveredOperation}
use Rattle.cover_check.specs.Marks.{IsMarked}
use Rattle.cover_check.specs.Opening.{ArePartial}

pub covered_total : (theory : Theory) (f : ℕ) (d : Operation) → slice_get theory.operations f ≡ Some d → IsCoveredOperation theory f d →
    IsPartial theory f → ⊥
covered_total theory f d declared covered p =
    p.uncovered (covered p.arguments p.defined
    (subst (λ o. OnSome o (λ d. HaveSorts theory no_variables p.arguments d.args)) declared p.sorts) p.constructed)

-- a partial operation is declared
pub partial_within : (theory : Theory) (f : ℕ) → IsPartial theory f → f < length theory.operations
partial_within theory f p =
    let d = on_some (slice_get theory.operations f) (λ d. HaveSorts theory no_variables p.arguments d.args) p.sorts in
    slice_get_within theory.operations f d.0 d.1

module _ (theory : Theory) (old : List Bool) (i : ℕ) (found : (f : ℕ) → IsIn f old ↔ ((f < i) × IsPartial theory f)) where
  -- one more operation was looked at
  pub marked_next : (new : List Bool) → i < length old → IsMarked theory i old new → (f : ℕ) → IsIn f new ↔ ((f < i + 1) × IsPartial theory f)
  marked_next new room m f = (λ h. into (m.only f h), λ h. from (cases_order f i) h.0 h.1)
    where
      into : IsIn f old ⊎ ((f ≡ i) × IsPartial theory i) → (f < i + 1) × IsPartial theory f
      into (inl o) = let k = (found f).0 o in let w = k.0 in (omega (arith, w), k.1)
      into (inr h) = let e = h.0 in (omega (arith, e), subst (IsPartial theory) (sym e) h.1)

      from : (f ≡ i) ⊎ ((f < i) ⊎ (i < f)) → f < i + 1 → IsPartial theory f → IsIn f new
      from (inl e) w p = subst (λ n. IsIn n new) (sym e) (m.marked room (subst (IsPartial theory) e p))
      from (inr (inl k)) w p = m.kept f ((found f).1 (k, p))
      from (inr (inr k)) w p = absurd (omega (arith, w, k))

  -- all were looked at
  pub all_marked : length theory.operations ≤ i → ArePartial theory old
  all_marked end f = (λ h. ((found f).0 h).1, λ p. (found f).1 (let w = partial_within theory f p in omega (arith, w, end), p))

-- an operation that a loop goes over is declared
pub declared_at : (ops : List OpDecl) (items : List OpDecl) (i : ℕ) (x : OpDecl) → items ≡ ops → i < length items → x ≡ get_or items i x →
    slice_get (map operation_of ops) i ≡ Some (operation_of x)
declared_at ops items i x same w a = subst (λ zs. slice_get (map operation_of zs) i ≡ Some (operation_of x)) same (go items i w a)
  where
    go : (zs : List OpDecl) (i : ℕ) → i < length zs → x ≡ get_or zs i x → slice_get (map operation_of zs) i ≡ Some (operation_of x)
    go [] i w a = absurd (omega arith)
    go (z ∷ zs) zero w a = ap (λ y. Some (operation_of y)) (sym a)
    go (z ∷ zs) (suc i) w a = go zs i (omega arith) a
