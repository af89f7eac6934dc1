-- Operations that are looked up in order, and sorts that are taken from a stack.
use Rattle.std.proofs.Common.{ℕ, zero, suc, ◌≡◌, ◌<◌, ◌≤◌, ◌+◌, Bool, true, false, if◌then◌else◌, List, [], ◌∷◌, length}
use Rattle.std.proofs.Common.{Some, None, option_map, refl, ap, sym, ◌∙◌, arith, below_more}
use Rattle.std.specs.List.{slice_get}
use Rattle.spec_core.specs.Theories.{Operation}
use Rattle.value_reader.specs.Stands.{first_at}

-- no operation before this place passes
abbrev pub NoneBefore : (Operation → Bool) → List Operation → ℕ → Type 0
NoneBefore p ds i = (k : ℕ) (d : Operation) → k < i → slice_get ds k ≡ Some d → p d ≡ false

pub first_here : (p : Operation → Bool) (ds : List Operation) (i : ℕ) (d : Operation) → NoneBefore p ds i → slice_get ds i ≡ Some d → p d ≡ true →
    first_at p ds ≡ Some i
first_here p [] zero d none at here = absurd (cc)
first_here p [] (suc i) d none at here = absurd (cc)
first_here p (x ∷ ds) zero d none at here =
    let same : x ≡ d = cc in
    ap (λ c. if c then Some 0 else option_map suc (first_at p ds)) (ap p same ∙ here)
first_here p (x ∷ ds) (suc i) d none at here =
    ap (λ c. if c then Some 0 else option_map suc (first_at p ds)) (none 0 x (omega arith) refl)
    ∙ ap (option_map suc) (first_here p ds i d (λ k e before there. none (suc k) e (omega arith) there) at here)

pub none_at_all : (p : Operation → Bool) (ds : List Operation) (i : ℕ) → length ds ≤ i → NoneBefore p ds i → first_at p ds ≡ None
none_at_all p [] i within none = refl
none_at_all p (x ∷ ds) zero within none = absurd (omega arith)
none_at_all p (x ∷ ds) (suc i) within none =
    ap (λ c. if c then Some 0 else option_map suc (first_at p ds)) (none 0 x (omega arith) refl)
    ∙ ap (option_map suc) (none_at_all p ds i (omega arith) (λ k e before there. none (suc k) e (omega arith) there))

pub none_more : (p : Operation → Bool) (ds : List Operation) (i : ℕ) (d : Operation) → NoneBefore p ds i → slice_get ds i ≡ Some d → p d ≡ false →
    NoneBefore p ds (i + 1)
none_more p ds i d none at here k e before there =
    below_more (λ k. (e : Operation) → slice_get ds k ≡ Some e → p e ≡ false) i (λ k h e t. none k e h t)
    (λ e t. let same : d ≡ e = cc in ap p (sym same) ∙ here) k before e there
