-- Equations of types that are found one after another.
use Rattle.std.proofs.Common.{◌≡◌, ◌∙◌, refl, sym, ap, subst, List, [], ◌∷◌, ◌++◌, ℕ, zero, suc, ◌<◌, ◌≤◌, length, map, take, set, get_or, Option, None, Some, is_some, option_map, true, arith, Vec, Global}
use Rattle.std.specs.List.{list_all, slice_index_or, zip}
use Rattle.std.proofs.lemmas.List.{get_or-map, length-map, map-append, take_all}
use Rattle.std.proofs.lemmas.Option.{none-some}
use Rattle.lotos_ast.specs.declared.types.TypeDef.{TypeDef}
use Rattle.spec_core.specs.declared.equation.Equation.{Equation}
use Rattle.spec_core.specs.Theories.{ConditionalEquation, equation_of}
use Rattle.spec_core.proofs.Lists.{length_zip}
use Rattle.type_contents.specs.Settled.{are_ready, known, IsSettled}
use Rattle.type_contents.proofs.Settled.{settle_one, all_settled}
use Rattle.type_contents.proofs.Schedules.{ready_through, set_through, each_through}
use Rattle.type_equation_copies.specs.declared.equations.TypeEquations.{TypeEquations}
use Rattle.type_equation_copies.specs.Contents.{Equations, no_equations, made_by, made_from, equations}
use Rattle.type_equation_copies.specs.Needs.{with_parts, needs}
use Rattle.type_equation_copies.specs.Views.{equations_of, made_at, stated_by, AreEquationsSettled}
use Rattle.type_equation_copies.proofs.Agreeing.{made_agree}

-- types and their own equations

zip_at : {A B : Type 0} (xs : List A) (ys : List B) (k : ℕ) (x : A) (y : B) → k < length xs → k < length ys → x ≡ get_or xs k x → y ≡ get_or ys k y → (x, y) ≡ get_or (zip xs ys) k (x, y)
zip_at [] ys k x y h w e f = absurd (omega (arith, h))
zip_at (a ∷ more) [] k x y h w e f = absurd (omega (arith, w))
zip_at (a ∷ more) (b ∷ bs) zero x y h w e f = ap (λ z. (z, y)) e ∙ ap (λ z. (a, z)) f
zip_at (a ∷ more) (b ∷ bs) (suc k) x y h w e f = zip_at more bs k x y (omega (arith, h)) (omega (arith, w)) e f

zip_next : {A B C : Type 0} (f : A × B → C) (xs : List A) (ys : List B) (i : ℕ) (x : A) (y : B) → i < length xs → i < length ys → x ≡ get_or xs i x → y ≡ get_or ys i y → map f (take (suc i) (zip xs ys)) ≡ map f (take i (zip xs ys)) ++ f (x, y) ∷ []
zip_next f [] ys i x y h w e g = absurd (omega (arith, h))
zip_next f (a ∷ more) [] i x y h w e g = absurd (omega (arith, w))
zip_next f (a ∷ more) (b ∷ bs) zero x y h w e g = ap (λ z. f z ∷ []) (sym (ap (λ z. (z, y)) e ∙ ap (λ z. (a, z)) g))
zip_next f (a ∷ more) (b ∷ bs) (suc i) x y h w e g = ap (λ zs. f (a, b) ∷ zs) (zip_next f more bs i x y (omega (arith, h)) (omega (arith, w)) e g)

-- those stated by a type of a list
pub stated_at : (own : List (Vec Equation Global)) (k : ℕ) (o : Vec Equation Global) → k < length own → o ≡ get_or own k o → map equation_of o.items ≡ get_or (stated_by own) k (map equation_of o.items)
stated_at own k o h e = ap (λ (v : Vec Equation Global). map equation_of v.items) e ∙ sym (get_or-map (λ (v : Vec Equation Global). map equation_of v.items) own k o (map equation_of o.items) h)

-- what is found

known_equations : (found : List (Option TypeEquations)) → known no_equations (map (option_map equations_of) found) ≡ map made_at found
known_equations [] = refl
known_equations (None ∷ xs) = ap (λ z. no_equations ∷ z) (known_equations xs)
known_equations (Some e ∷ xs) = ap (λ z. equations_of e ∷ z) (known_equations xs)

pub one_made : (types : List TypeDef) (own : List (Vec Equation Global)) (found : List (Option TypeEquations)) (n k : ℕ) (one : TypeEquations) (d : TypeDef) (o : Vec Equation Global)
    → length own ≡ length types → length found ≡ length types → k < length types → d ≡ get_or types k d → o ≡ get_or own k o → equations_of one ≡ made_by types (map made_at found) (map equation_of o.items) d
    → are_ready found (slice_index_or (map (needs types) types) k []) ≡ true → AreEquationsSettled types (stated_by own) found n → AreEquationsSettled types (stated_by own) (set found k (Some one)) (suc n)
one_made types own found n k one d o whole same less at owned is ready settled =
    let stated = map equation_of o.items in
    let all = zip types (stated_by own) in
    let w : k < length own = subst (λ z. k < z) (sym whole) less in
    let whole_stated : length (stated_by own) ≡ length types = length-map own (λ (v : Vec Equation Global). map equation_of v.items) ∙ whole in
    let ws : k < length (stated_by own) = subst (λ z. k < z) (sym whole_stated) less in
    let size : length all ≡ length types = length_zip types (stated_by own) whole_stated in
    subst (λ f. IsSettled no_equations (made_from types) all f (suc n)) (sym (set_through equations_of found k one))
    (settle_one no_equations (made_from types) all (map (option_map equations_of) found) n k (d, stated) (equations_of one) (needs types d) (λ t u h. made_agree types (d, stated) t u h) settled
    (length-map found (option_map equations_of) ∙ same ∙ sym size) (subst (λ z. k < z) (sym size) less)
    (zip_at types (stated_by own) k d stated less ws at (stated_at own k o w owned))
    (ready_through equations_of found (needs types d) ∙ ap (are_ready found) (sym (get_or-map (needs types) types k d [] less ∙ ap (needs types) (sym at))) ∙ ready)
    (is ∙ ap (λ z. made_by types z stated d) (sym (known_equations found))))

pub all_made : (types : List TypeDef) (own : List (Vec Equation Global)) (found : List (Option TypeEquations)) (n : ℕ) → AreEquationsSettled types (stated_by own) found n → n ≤ length types → length own ≡ length types → length found ≡ length types → list_all is_some found ≡ true → map made_at found ≡ equations types (stated_by own)
all_made types own found n settled le whole same each =
    let size : length (zip types (stated_by own)) ≡ length types = length_zip types (stated_by own) (length-map own (λ (v : Vec Equation Global). map equation_of v.items) ∙ whole) in
    sym (known_equations found)
    ∙ all_settled no_equations (made_from types) (zip types (stated_by own)) (map (option_map equations_of) found) n settled (subst (λ z. n ≤ z) (sym size) le) (length-map found (option_map equations_of) ∙ same ∙ sym size) (each_through equations_of found ∙ each)

-- nothing is found yet

nothing_read : {A : Type 0} (types : List TypeDef) (f : TypeEquations → A) (k : ℕ) → slice_index_or (map (option_map f) (map (λ _. None) types)) k None ≡ None
nothing_read [] f k = refl
nothing_read (d ∷ ds) f zero = refl
nothing_read (d ∷ ds) f (suc k) = nothing_read ds f k

pub none_settled : (types : List TypeDef) (own : List (List ConditionalEquation)) (found : List (Option TypeEquations)) → found ≡ map (λ _. None) types → AreEquationsSettled types own found 0
none_settled types own found is k x at m le = absurd (none-some x (sym (nothing_read types equations_of k) ∙ sym (ap (λ z. slice_index_or (map (option_map equations_of) z) k None) is) ∙ at))

nothing_made : {B : Type 0} (types : List TypeDef) (own : List B) → length own ≡ length types → map made_at (map (λ _. None) types) ≡ map (λ _. no_equations) (zip types own)
nothing_made [] own e = refl
nothing_made (d ∷ ds) [] e = absurd (cc)
nothing_made (d ∷ ds) (o ∷ os) e = ap (λ z. no_equations ∷ z) (nothing_made ds os (grind (arith, e)))

pub none_made : (types : List TypeDef) (own : List (Vec Equation Global)) (found : List (Option TypeEquations)) → length own ≡ length types → found ≡ map (λ _. None) types → map made_at found ≡ map (λ _. no_equations) (zip types (stated_by own))
none_made types own found whole is = ap (map made_at) is ∙ nothing_made types (stated_by own) (length-map own (λ (v : Vec Equation Global). map equation_of v.items) ∙ whole)

-- one more in a round
pub round_next : (types : List TypeDef) (own : List (Vec Equation Global)) (table : List Equations) (now then : List (Option TypeEquations)) (one : TypeEquations) (i : ℕ) (d : TypeDef) (o : Vec Equation Global)
    → length own ≡ length types → i < length types → d ≡ get_or types i d → o ≡ get_or own i o → map made_at now ≡ map (made_from types table) (take i (zip types (stated_by own)))
    → then ≡ now ++ Some one ∷ [] → equations_of one ≡ made_by types table (map equation_of o.items) d → map made_at then ≡ map (made_from types table) (take (suc i) (zip types (stated_by own)))
round_next types own table now then one i d o whole less at owned before more is =
    let w : i < length own = subst (λ z. i < z) (sym whole) less in
    let ws : i < length (stated_by own) = subst (λ z. i < z) (sym (length-map own (λ (v : Vec Equation Global). map equation_of v.items))) w in
    ap (map made_at) more ∙ map-append made_at now (Some one ∷ []) ∙ ap (λ z. z ++ equations_of one ∷ []) before
    ∙ ap (λ z. map (made_from types table) (take i (zip types (stated_by own))) ++ z ∷ []) is
    ∙ sym (zip_next (made_from types table) types (stated_by own) i d (map equation_of o.items) less ws at (stated_at own i o w owned))

pub round_all : (types : List TypeDef) (own : List (Vec Equation Global)) (table : List Equations) (i : ℕ) → length own ≡ length types → length types ≤ i → map (made_from types table) (take i (zip types (stated_by own))) ≡ map (made_from types table) (zip types (stated_by own))
round_all types own table i whole past = ap (map (made_from types table)) (take_all i (zip types (stated_by own)) (subst (λ z. z ≤ i) (sym (length_zip types (stated_by own) (length-map own (λ (v : Vec Equation Global). map equation_of v.items) ∙ whole))) past))

-- the tables of needs

pub needs_joined : (table : List (List ℕ)) (f : TypeDef → List ℕ) (types : List TypeDef) → map (with_parts table) (map f types) ≡ map (λ d. with_parts table (f d)) types
needs_joined table f [] = refl
needs_joined table f (d ∷ ds) = ap (λ z. with_parts table (f d) ∷ z) (needs_joined table f ds)

pub zip_size : (types : List TypeDef) (own : List (Vec Equation Global)) → length own ≡ length types → length (zip types (stated_by own)) ≡ length types
zip_size types own whole = length_zip types (stated_by own) (length-map own (λ (v : Vec Equation Global). map equation_of v.items) ∙ whole)
