-- Loops over lists.
use Rattle.std.proofs.Common.{◌≡◌, ◌∙◌, refl, sym, ap, List, [], ◌∷◌, ◌++◌, ℕ, zero, suc, ◌+◌, ◌<◌, length, map, take, get_or, append_assoc, arith, add-one, Bool, true, false, ◌&&◌, ◌||◌, not, if◌then◌else◌}
use Rattle.std.specs.List.{filter, list_any, slice_index_or, zip}
use Rattle.std.proofs.lemmas.List.{map-append, append-nil}
use Rattle.std.proofs.lemmas.List.Elements.{filter-append, filter_agree}
use Rattle.spec_core.proofs.Lists.{take_next}
use Rattle.type_contents.specs.Items.{Item, Described, is_in}
use Rattle.type_contents.specs.Contents.{Content}
use Rattle.type_data.specs.Data.{of_data}

-- one more type
of_data_more : {A B : Type 0} (f : A → List B) (nothing : A) (formal : List Bool) (all : List A) (i : ℕ) (d : Bool) → i < length formal → length formal ≡ length all
    → of_data f (take (suc i) formal) all ≡ of_data f (take i formal) all ++ (if get_or formal i d then [] else f (slice_index_or all i nothing))
of_data_more f nothing [] all i d h e = absurd (omega (arith, h))
of_data_more f nothing (b ∷ bs) [] i d h e = absurd (cc)
of_data_more f nothing (b ∷ bs) (x ∷ xs) zero d h e = append-nil (if b then [] else f x)
of_data_more f nothing (b ∷ bs) (x ∷ xs) (suc i) d h e =
    ap (λ z. (if b then [] else f x) ++ z) (of_data_more f nothing bs xs i d (omega (arith, h)) (grind (arith, e)))
    ∙ sym (append_assoc (if b then [] else f x) (of_data f (take i bs) xs) (if get_or bs i d then [] else f (slice_index_or xs i nothing)))

pub of_data_next : {A B : Type 0} (f : A → List B) (nothing : A) (formal : List Bool) (all : List A) (i : ℕ) (d : Bool) (now next : List B) → i < length formal → length formal ≡ length all
    → now ≡ of_data f (take i formal) all → next ≡ now ++ (if get_or formal i d then [] else f (slice_index_or all i nothing)) → next ≡ of_data f (take (i + 1) formal) all
of_data_next f nothing formal all i d now next h e before more =
    rw add-one (more ∙ ap (λ z. z ++ (if get_or formal i d then [] else f (slice_index_or all i nothing))) before ∙ sym (of_data_more f nothing formal all i d h e))

-- one more element, if it passes a test
pub kept_next : {A C : Type 0} (p : A → Bool) (g : C → A) (now next : List A) (xs : List C) (i : ℕ) (x : C) → i < length xs → x ≡ get_or xs i x → now ≡ filter p (map g (take i xs)) → next ≡ now ++ (if p (g x) then g x ∷ [] else []) → next ≡ filter p (map g (take (i + 1) xs))
kept_next p g now next xs i x within at before more =
    more ∙ ap (λ z. z ++ (if p (g x) then g x ∷ [] else [])) before
    ∙ sym (ap (λ zs. filter p (map g zs)) (take_next xs i x within at) ∙ ap (filter p) (map-append g (take i xs) (x ∷ [])) ∙ filter-append p (map g (take i xs)) (g x ∷ []))

-- an item is among what belongs to the data where one of its types has it

any_joined : {A : Type 0} (p : A → Bool) (xs ys : List A) → list_any p (xs ++ ys) ≡ list_any p xs || list_any p ys
any_joined p [] ys = refl
any_joined p (x ∷ xs) ys = by_test (any_joined p xs ys) (p x)
  where
    by_test : list_any p (xs ++ ys) ≡ list_any p xs || list_any p ys → (b : Bool) → (b || list_any p (xs ++ ys)) ≡ ((b || list_any p xs) || list_any p ys)
    by_test h true = refl
    by_test h false = h

any_of_data : (formal : List Bool) (all : List Content) (x : Item) → is_in (of_data (λ c. c.items) formal all) x ≡ list_any (λ e. not e.0 && is_in e.1.items x) (zip formal all)
any_of_data [] all x = refl
any_of_data (b ∷ bs) [] x = refl
any_of_data (true ∷ bs) (c ∷ cs) x = any_of_data bs cs x
any_of_data (false ∷ bs) (c ∷ cs) x = any_joined _ c.items (of_data (λ z. z.items) bs cs) ∙ ap (λ z. is_in c.items x || z) (any_of_data bs cs x)

pub same_data : (formal : List Bool) (all : List Content) (ds : List Described) → filter (λ d. is_in (of_data (λ c. c.items) formal all) d.item) ds ≡ filter (λ d. list_any (λ e. not e.0 && is_in e.1.items d.item) (zip formal all)) ds
same_data formal all ds = filter_agree (λ d. is_in (of_data (λ c. c.items) formal all) d.item) (λ d. list_any (λ e. not e.0 && is_in e.1.items d.item) (zip formal all)) (λ d. any_of_data formal all d.item) ds

pub data_filter : (f g : List Bool) (c d : List Content) (s t : List Described) → f ≡ g → c ≡ d → s ≡ t → filter (λ x. is_in (of_data (λ z. z.items) f c) x.item) s ≡ filter (λ x. list_any (λ e. not e.0 && is_in e.1.items x.item) (zip g d)) t
data_filter f g c d s t e h i =
    ap (λ z. filter (λ x. is_in (of_data (λ y. y.items) z c) x.item) s) e ∙ ap (λ z. filter (λ x. is_in (of_data (λ y. y.items) g z) x.item) s) h
    ∙ ap (λ z. filter (λ x. is_in (of_data (λ y. y.items) g d) x.item) z) i ∙ same_data g d t
