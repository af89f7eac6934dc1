-- The list of windows.
use Rattle.std.proofs.Common.{ap, ℕ, zero, suc, ◌≡◌, ◌<◌, ◌≤◌, ◌+◌, ◌-◌, Some, inl, inr, List, [], ◌∷◌, ◌++◌, length, map, take, drop, get_or}
use Rattle.std.proofs.Common.{set, refl, sym, subst, ◌∙◌, arith}
use Rattle.std.proofs.lemmas.List.{take_all, get_or-set_same, get_or-set_other, get_or_default}
use Rattle.spec_core.specs.declared.items.Sort.{Sort}
use Rattle.spec_core.specs.Lists.{Each, IsOneOf}
use Rattle.spec_core.specs.Numbers.{sort_number}
use Rattle.spec_core.proofs.Lists.{each-all}
use Rattle.std.specs.List.{slice_get}
use Rattle.spec_core.specs.Theories.{Theory}
use Rattle.spec_core.specs.Windows.{IsMember}
use Rattle.sort_windows.specs.Found.{IsClosedFrom, BeginsMembers, HasGained, HaveGained, windows_of}

-- a window without values at the end changes no window
pub same_with_room : (all : List (List (List ℕ))) (s : ℕ) → windows_of (all ++ [] ∷ []) s ≡ windows_of all s
same_with_room [] zero = refl
same_with_room [] (suc s) = refl
same_with_room (x ∷ all) zero = refl
same_with_room (x ∷ all) (suc s) = same_with_room all s

-- one more value of the first argument's window went through
pub closed_next : (P : List ℕ → Type 0) (xs : List (List ℕ)) (i : ℕ) (w : List ℕ) →
    slice_get xs i ≡ Some w → P w → Each P (take i xs) → Each P (take (i + 1) xs)
closed_next P [] i w at p h = cc
closed_next P (x ∷ xs) zero w at p h = let e : x ≡ w = cc in (subst P (sym e) p, tt)
closed_next P (x ∷ xs) (suc i) w at p h =
    let e : suc i + 1 ≡ suc (i + 1) = omega arith in
    subst (λ n. Each P (take n (x ∷ xs))) (sym e) (h.0, closed_next P xs i w at p h.1)

pub one_of_at : (xs : List (List ℕ)) (i : ℕ) (w : List ℕ) → slice_get xs i ≡ Some w → IsOneOf w xs
one_of_at [] i w at = cc
one_of_at (x ∷ xs) zero w at = inl cc
one_of_at (x ∷ xs) (suc i) w at = inr (one_of_at xs i w at)

pub got_at : (xs : List (List ℕ)) (i : ℕ) (w : List ℕ) → i < length xs → w ≡ get_or xs i w → slice_get xs i ≡ Some w
got_at [] i w within at = absurd (omega arith)
got_at (x ∷ xs) zero w within at = ap Some (sym at)
got_at (x ∷ xs) (suc i) w within at = got_at xs i w (omega arith) at

-- all values of the first argument's window went through
pub closed_at : (limit : ℕ) (windows : ℕ → List (List ℕ)) (sort : ℕ) (args : List Sort) (d : Sort) (front : List ℕ) (i : ℕ) →
    1 ≤ length args → length (windows (get_or args 0 d).0) ≤ i →
    Each (λ w. IsClosedFrom limit windows sort (map sort_number (take (length args - 1) (drop 1 args))) (front ++ w))
    (take i (windows (get_or args 0 d).0)) →
    IsClosedFrom limit windows sort (map sort_number args) front
closed_at limit windows sort [] d front i within end h = absurd (omega arith)
closed_at limit windows sort (a ∷ args) d front i within end h =
    let r : take (length (a ∷ args) - 1) args ≡ args = take_all (length (a ∷ args) - 1) args (omega arith) in
    each-all _ (windows a.0) i end
    (subst (λ rest. Each (λ w. IsClosedFrom limit windows sort (map sort_number rest) (front ++ w)) (take i (windows a.0))) r h)

-- a list longer by a value of the first argument's window begins values of the sort, if the list does
pub begins_at : (theory : Theory) (sort : ℕ) (args : List Sort) (d : Sort) (front v longer : List ℕ) →
    1 ≤ length args → BeginsMembers theory sort (map sort_number args) front → IsMember theory (get_or args 0 d).0 v →
    longer ≡ front ++ v → BeginsMembers theory sort (map sort_number (take (length args - 1) (drop 1 args))) longer
begins_at theory sort [] d front v longer within h m e = absurd (omega arith)
begins_at theory sort (a ∷ args) d front v longer within h m e =
    let r : take (length (a ∷ args) - 1) args ≡ args = take_all (length (a ∷ args) - 1) args (omega arith) in
    subst (λ rest. BeginsMembers theory sort (map sort_number rest) longer) (sym r)
    (subst (BeginsMembers theory sort (map sort_number args)) (sym e) (h v m))

pub begins_none : (theory : Theory) (sort : ℕ) (args : List Sort) (front : List ℕ) →
    length args < 1 → BeginsMembers theory sort (map sort_number args) front → IsMember theory sort front
begins_none theory sort [] front h m = m
begins_none theory sort (a ∷ args) front h m = absurd (omega arith)

-- one window of the list has gained a value
pub gained_at : (limit sort : ℕ) (v : List ℕ) (all : List (List (List ℕ))) (windows : ℕ → List (List ℕ)) (window now : List (List ℕ)) →
    sort < length all → window ≡ get_or all sort window → ((s : ℕ) → windows_of all s ≡ windows s) → HasGained limit v window now →
    HaveGained limit sort v windows (windows_of (set all sort now))
gained_at limit sort v all windows window now within at same h =
    let before : window ≡ windows sort = at ∙ get_or_default all sort window [] within ∙ same sort in
    let after : now ≡ windows_of (set all sort now) sort = sym (get_or-set_same all sort now [] within) in (
      subst (λ x. HasGained limit v x (windows_of (set all sort now) sort)) before (subst (λ x. HasGained limit v window x) after h),
      λ s ne. get_or-set_other all sort s now [] ne ∙ same s,
    )
