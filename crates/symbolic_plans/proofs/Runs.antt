-- Runs of one rule.
use Rattle.std.proofs.Common.{ℕ, zero, suc, ◌≡◌, ◌+◌, ◌-◌, ◌<◌, ◌∙◌, refl, sym, ap, arith}
use Rattle.std.specs.Fn.{iterate}
use Rattle.symbolic_plans.specs.declared.scheme.Row.{Row}
use Rattle.symbolic_plans.specs.Plans.{Plan, below}

-- once more is once outermost
once_more : {A : Type 0} (f : A → A) (n : ℕ) (x : A) → iterate f (suc n) x ≡ f (iterate f n x)
once_more f zero x = refl
once_more f (suc n) x = once_more f n (f x)

pub one_more : {A : Type 0} (f : A → A) (n m : ℕ) (x : A) → m ≡ n + 1 → iterate f m x ≡ f (iterate f n x)
one_more f n m x e =
    let is : m ≡ suc n = omega (arith, e) in
    ap (λ k. iterate f k x) is ∙ once_more f n x

-- an image of what is applied so often
pub iterate_through : {A B : Type 0} (f : A → A) (g : B → B) (h : A → B) → ((x : A) → h (f x) ≡ g (h x)) → (n : ℕ) (x : A) →
    h (iterate f n x) ≡ iterate g n (h x)
iterate_through f g h e zero x = refl
iterate_through f g h e (suc n) x = iterate_through f g h e n (f x) ∙ ap (iterate g n) (e x)

pub iterate_same : {A B : Type 0} (f : A → A) (h : A → B) → ((x : A) → h (f x) ≡ h x) → (n : ℕ) (x : A) → h (iterate f n x) ≡ h x
iterate_same f h e zero x = refl
iterate_same f h e (suc n) x = iterate_same f h e n (f x) ∙ e x

-- a run that is longer by one
pub longer : (row : Row) (n m : ℕ) (p : Plan) → m ≡ n + 1 →
    below row (iterate (below row) m p) ≡ below row (below row (iterate (below row) n p))
longer row n m p e = ap (below row) (one_more (below row) n m p e)

-- what is left of a run, where one more of its rules is passed
pub passed : (row : Row) (more n : ℕ) (p : Plan) → n < more →
    below row (below row (iterate (below row) (more - (n + 1)) p)) ≡ below row (iterate (below row) (more - n) p)
passed row more n p h =
    let is : more - n ≡ more - (n + 1) + 1 = omega (arith, h) in
    sym (longer row (more - (n + 1)) (more - n) p is)
