-- The values that trees choose, where one rule stands over itself.
use Rattle.std.proofs.Common.{ℕ, suc, ◌≡◌, ◌+◌, ◌*◌, ◌∙◌, length, refl, sym, ap, subst, Result, IfOk}
use Rattle.std.specs.Fn.{iterate}
use Rattle.symbolic_plans.specs.declared.scheme.Row.{Row}
use Rattle.symbolic_plans.specs.Plans.{Plan, below}
use Rattle.node_trees.proofs.Listing.{counted_run}
use Rattle.node_steps.specs.Blanks.{chosen_by, width}

module _ {E : Type 0} (row : Row) (more : ℕ) (p plan : Plan) (is : plan ≡ below row (iterate (below row) more p)) where
  pub width_run : (own inner : ℕ) (r : Result ℕ E) → own ≡ suc more * length (chosen_by row) → inner ≡ width p →
      IfOk r (λ n. n ≡ own + inner) → IfOk r (λ n. n ≡ width plan)
  width_run own inner r e f h = subst (λ (z : ℕ). IfOk r (λ n. n ≡ z)) (whole ∙ sym (ap width is)) h
    where
      whole : own + inner ≡ width (below row (iterate (below row) more p))
      whole =
          ap (λ n. n + inner) e
          ∙ ap (λ n. suc more * length (chosen_by row) + n) f
          ∙ sym (counted_run (below row) width (length (chosen_by row)) (λ q. refl) more p)
