-- One window more, behind those of the sorts before.
use Rattle.std.proofs.Common.{ℕ, zero, suc, ◌≡◌, ◌⊎◌, inl, inr, List, [], ◌∷◌, ◌++◌, length, refl, sym, ap, subst, Some}
use Rattle.std.specs.List.{slice_get}
use Rattle.spec_core.specs.Theories.{Theory}
use Rattle.spec_core.specs.Windows.{IsWindow}
use Rattle.spec_core.specs.declared.window.Window.{Window}
use Rattle.sort_windows.specs.Found.{AreBySorts}

-- an item of the longer list is one of the shorter, or the last
before_or_last : {A : Type 0} (xs : List A) (y z : A) (i : ℕ) → slice_get (xs ++ y ∷ []) i ≡ Some z →
    (slice_get xs i ≡ Some z) ⊎ ((i ≡ length xs) × (y ≡ z))
before_or_last [] y z zero e = let same : y ≡ z = cc in inr (refl, same)
before_or_last [] y z (suc i) e = let never : ⊥ = cc in absurd never
before_or_last (x ∷ xs) y z zero e = inl e
before_or_last (x ∷ xs) y z (suc i) e = further (before_or_last xs y z i e)
  where
    further : (slice_get xs i ≡ Some z) ⊎ ((i ≡ length xs) × (y ≡ z)) → (slice_get xs i ≡ Some z) ⊎ ((suc i ≡ length (x ∷ xs)) × (y ≡ z))
    further (inl h) = inl h
    further (inr h) = inr (ap suc h.0, h.1)

pub one_more : (theory : Theory) (k : ℕ) (all : List Window) (next : Window) → AreBySorts theory k all →
    IsWindow theory (length all) k next.values.items next.complete → AreBySorts theory k (all ++ next ∷ [])
one_more theory k all next rows is sort window h = by_place (before_or_last all next window sort h)
  where
    by_place : (slice_get all sort ≡ Some window) ⊎ ((sort ≡ length all) × (next ≡ window)) →
        IsWindow theory sort k window.values.items window.complete
    by_place (inl e) = rows sort window e
    by_place (inr e) =
        subst (λ z. IsWindow theory z k window.values.items window.complete) (sym e.0)
        (subst (λ (z : Window). IsWindow theory (length all) k z.values.items z.complete) e.1 is)
