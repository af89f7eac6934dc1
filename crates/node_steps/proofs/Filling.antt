-- Trees of plans, and their tree with blanks.
use Rattle.std.proofs.Common.{ℕ, suc, ◌≡◌, ◌==◌, ◌+◌, List, [], ◌∷◌, ◌++◌, length, map, refl, sym, ap, subst, ◌∙◌, append_assoc, arith}
use Rattle.std.proofs.Common.{Bool, true, false, inl, inr, length-append}
use Rattle.std.specs.List.{flat_map}
use Rattle.std.proofs.lemmas.List.{append-nil}
use Rattle.spec_core.specs.Lists.{Each, IsOneOf}
use Rattle.spec_core.specs.Theories.{Theory}
use Rattle.spec_core.proofs.Members.{from_flat_map}
use Rattle.rule_model.specs.declared.rules.Slot.{Slot}
use Rattle.rule_model.specs.declared.rules.Slot.TheVariants.{Of, Mark, Blank}
use Rattle.rule_model.specs.Derivations.{Derivation, pre, int, exiting, chl, chr, val, gate, guard, letting, parl, parr, both, hiding, pass}
use Rattle.rule_model.specs.Derivations.{enstep, enend, disstep, disend, distake, calling, rel}
use Rattle.symbolic_rules.specs.Windows.{Windows}
use Rattle.symbolic_composites.specs.OpenFields.{all_choices, choices_at_once}
use Rattle.symbolic_plans.specs.declared.scheme.Row.{Row}
use Rattle.symbolic_plans.specs.declared.scheme.Row.TheVariants.{Chl, Chr, Val, Gate, Guard, Let, Parl, Parr, Pass, Enstep, Disstep}
use Rattle.symbolic_plans.specs.declared.scheme.Row.TheVariants.{Disend, Distake, Call, Rel}
use Rattle.symbolic_plans.specs.Plans.{Plan, prefix, internal, termination, below, hidden, handed_on, together, put_row, taken_slots, trees_of}
use Rattle.node_trees.specs.Rests.{rows_of, slots_of, AreFilled, Fills}
use Rattle.node_trees.proofs.Listing.{slots_first}
use Rattle.node_steps.specs.Blanks.{blanks, blank_tree, chosen_by, width, IsTreeOf, IsClosed}
use Rattle.node_steps.specs.Laws.{IsGiven, TreesFillBlanks}

-- the number begins the list
abbrev IfSame : Bool → Type 0
IfSame true = Unit {0}
IfSame false = ⊥

abbrev Begins : ℕ → List ℕ → Type 0
Begins n [] = ⊥
Begins n (m ∷ l) = IfSame (n == m)

abbrev later : List ℕ → List ℕ
later [] = []
later (m ∷ l) = l

abbrev first : List ℕ → ℕ
first [] = 0
first (m ∷ l) = m

-- what fills as many blanks, and what comes after
filled_after : (blanks slots x y : List Slot) → length blanks ≡ length slots → AreFilled (blanks ++ x) (slots ++ y) → AreFilled x y
filled_after [] [] x y e h = h
filled_after [] (slot ∷ slots) x y e h = absurd (omega (arith, e))
filled_after (b ∷ blanks) [] x y e h = absurd (omega (arith, e))
filled_after (Blank ∷ blanks) (Of v ∷ slots) x y e h = filled_after blanks slots x y (omega (arith, e)) h
filled_after (Of w ∷ blanks) (Of v ∷ slots) x y e h = filled_after blanks slots x y (omega (arith, e)) h.1
filled_after (Blank ∷ blanks) (Mark ∷ slots) x y e h = absurd h
filled_after (Blank ∷ blanks) (Blank ∷ slots) x y e h = absurd h
filled_after (Of w ∷ blanks) (Mark ∷ slots) x y e h = absurd h
filled_after (Of w ∷ blanks) (Blank ∷ slots) x y e h = absurd h
filled_after (Mark ∷ blanks) (slot ∷ slots) x y e h = absurd h

-- a tree with the rows of a plan's tree is a tree of the plan
pub tree_by_rows : (p : Plan) (d : Derivation) (r q : List ℕ) (x y : List Slot) → IsClosed p →
    rows_of (blank_tree p) ++ r ≡ rows_of d ++ q → AreFilled (slots_of (blank_tree p) ++ x) (slots_of d ++ y) →
    IsTreeOf p d × (r ≡ q) × AreFilled x y
tree_by_rows (prefix takes) (pre slots) r q x y c h f =
    let e : length (blanks takes) ≡ length slots = ap first (ap later h) in
    ((slots, refl, sym e), ap later (ap later h), filled_after (blanks takes) slots x y e f)
tree_by_rows (prefix takes) _ r q x y c h f = absurd (subst (Begins 0) h tt)
tree_by_rows internal int r q x y c h f = (refl, ap later h, f)
tree_by_rows internal _ r q x y c h f = absurd (subst (Begins 1) h tt)
tree_by_rows (termination takes) (exiting slots) r q x y c h f =
    let e : length (blanks takes) ≡ length slots = ap first (ap later h) in
    ((slots, refl, sym e), ap later (ap later h), filled_after (blanks takes) slots x y e f)
tree_by_rows (termination takes) _ r q x y c h f = absurd (subst (Begins 2) h tt)
tree_by_rows (below Chl p) (chl e) r q x y c h f = let z = tree_by_rows p e r q x y c.1 (ap later h) f in ((e, refl, z.0), z.1, z.2)
tree_by_rows (below Chl p) _ r q x y c h f = absurd (subst (Begins 3) h tt)
tree_by_rows (below Chr p) (chr e) r q x y c h f = let z = tree_by_rows p e r q x y c.1 (ap later h) f in ((e, refl, z.0), z.1, z.2)
tree_by_rows (below Chr p) _ r q x y c h f = absurd (subst (Begins 4) h tt)
tree_by_rows (below Guard p) (guard e) r q x y c h f = let z = tree_by_rows p e r q x y c.1 (ap later h) f in ((e, refl, z.0), z.1, z.2)
tree_by_rows (below Guard p) _ r q x y c h f = absurd (subst (Begins 7) h tt)
tree_by_rows (below Let p) (letting e) r q x y c h f = let z = tree_by_rows p e r q x y c.1 (ap later h) f in ((e, refl, z.0), z.1, z.2)
tree_by_rows (below Let p) _ r q x y c h f = absurd (subst (Begins 8) h tt)
tree_by_rows (below Parl p) (parl e) r q x y c h f = let z = tree_by_rows p e r q x y c.1 (ap later h) f in ((e, refl, z.0), z.1, z.2)
tree_by_rows (below Parl p) _ r q x y c h f = absurd (subst (Begins 9) h tt)
tree_by_rows (below Parr p) (parr e) r q x y c h f = let z = tree_by_rows p e r q x y c.1 (ap later h) f in ((e, refl, z.0), z.1, z.2)
tree_by_rows (below Parr p) _ r q x y c h f = absurd (subst (Begins 10) h tt)
tree_by_rows (below Pass p) (pass e) r q x y c h f = let z = tree_by_rows p e r q x y c.1 (ap later h) f in ((e, refl, z.0), z.1, z.2)
tree_by_rows (below Pass p) _ r q x y c h f = absurd (subst (Begins 13) h tt)
tree_by_rows (below Enstep p) (enstep e) r q x y c h f = let z = tree_by_rows p e r q x y c.1 (ap later h) f in ((e, refl, z.0), z.1, z.2)
tree_by_rows (below Enstep p) _ r q x y c h f = absurd (subst (Begins 14) h tt)
tree_by_rows (below Disstep p) (disstep e) r q x y c h f = let z = tree_by_rows p e r q x y c.1 (ap later h) f in ((e, refl, z.0), z.1, z.2)
tree_by_rows (below Disstep p) _ r q x y c h f = absurd (subst (Begins 16) h tt)
tree_by_rows (below Disend p) (disend e) r q x y c h f = let z = tree_by_rows p e r q x y c.1 (ap later h) f in ((e, refl, z.0), z.1, z.2)
tree_by_rows (below Disend p) _ r q x y c h f = absurd (subst (Begins 17) h tt)
tree_by_rows (below Distake p) (distake e) r q x y c h f = let z = tree_by_rows p e r q x y c.1 (ap later h) f in ((e, refl, z.0), z.1, z.2)
tree_by_rows (below Distake p) _ r q x y c h f = absurd (subst (Begins 18) h tt)
tree_by_rows (below Call p) (calling e) r q x y c h f = let z = tree_by_rows p e r q x y c.1 (ap later h) f in ((e, refl, z.0), z.1, z.2)
tree_by_rows (below Call p) _ r q x y c h f = absurd (subst (Begins 19) h tt)
tree_by_rows (below Rel p) (rel e) r q x y c h f = let z = tree_by_rows p e r q x y c.1 (ap later h) f in ((e, refl, z.0), z.1, z.2)
tree_by_rows (below Rel p) _ r q x y c h f = absurd (subst (Begins 20) h tt)
tree_by_rows (below (Val (Of v)) p) (val (Of w) e) r q x y c h f =
    let z = tree_by_rows p e r q x y c.1 (ap later h) f.1 in ((e, ap (λ (u : List ℕ). val (Of u) e) (sym f.0), z.0), z.1, z.2)
tree_by_rows (below (Val (Of v)) p) (val Mark e) r q x y c h f = absurd f
tree_by_rows (below (Val (Of v)) p) (val Blank e) r q x y c h f = absurd f
tree_by_rows (below (Val (Of v)) p) _ r q x y c h f = absurd (subst (Begins 5) h tt)
tree_by_rows (below (Val Mark) p) d r q x y c h f = absurd c.0
tree_by_rows (below (Val Blank) p) d r q x y c h f = absurd c.0
tree_by_rows (below (Gate j) p) (gate k e) r q x y c h f =
    let z = tree_by_rows p e r q x y c.1 (ap later (ap later h)) f in
    let same : j ≡ k = ap first (ap later h) in ((e, ap (λ (n : ℕ). gate n e) (sym same), z.0), z.1, z.2)
tree_by_rows (below (Gate j) p) _ r q x y c h f = absurd (subst (Begins 6) h tt)
tree_by_rows (hidden fields p) (hiding e) r q x y c h f = let z = tree_by_rows p e r q x y c (ap later h) f in ((e, refl, z.0), z.1, z.2)
tree_by_rows (hidden fields p) _ r q x y c h f = absurd (subst (Begins 12) h tt)
tree_by_rows (handed_on fields p) (enend e) r q x y c h f = let z = tree_by_rows p e r q x y c (ap later h) f in ((e, refl, z.0), z.1, z.2)
tree_by_rows (handed_on fields p) _ r q x y c h f = absurd (subst (Begins 15) h tt)
tree_by_rows (together p p2) (both e e2) r q x y c h f =
    let rows = sym (append_assoc (rows_of (blank_tree p)) (rows_of (blank_tree p2)) r) ∙ ap later h ∙ append_assoc (rows_of e) (rows_of e2) q in
    let fills : AreFilled (slots_of (blank_tree p) ++ (slots_of (blank_tree p2) ++ x)) (slots_of e ++ (slots_of e2 ++ y)) =
    subst (λ (l : List Slot). AreFilled l (slots_of e ++ (slots_of e2 ++ y))) (append_assoc (slots_of (blank_tree p)) (slots_of (blank_tree p2)) x)
    (subst (λ (l : List Slot). AreFilled ((slots_of (blank_tree p) ++ slots_of (blank_tree p2)) ++ x) l) (append_assoc (slots_of e) (slots_of e2) y)
    f) in
    let z = tree_by_rows p e (rows_of (blank_tree p2) ++ r) (rows_of e2 ++ q) (slots_of (blank_tree p2) ++ x) (slots_of e2 ++ y) c.0 rows fills in
    let u = tree_by_rows p2 e2 r q x y c.1 z.1 z.2 in ((e, e2, refl, z.0, u.0), u.1, u.2)
tree_by_rows (together p p2) _ r q x y c h f = absurd (subst (Begins 11) h tt)

pub tree_filled : (p : Plan) (d : Derivation) → IsClosed p → Fills (blank_tree p) d → IsTreeOf p d
tree_filled p d c h =
    (tree_by_rows p d [] [] [] [] c
    (append-nil (rows_of (blank_tree p)) ∙ h.rows ∙ sym (append-nil (rows_of d)))
    (subst (λ (l : List Slot). AreFilled l (slots_of d ++ [])) (sym (append-nil (slots_of (blank_tree p))))
    (subst (λ (l : List Slot). AreFilled (slots_of (blank_tree p)) l) (sym (append-nil (slots_of d))) h.slots))).0

-- a tree of the plan chooses so many values
pub tree_width : (p : Plan) (d : Derivation) → IsTreeOf p d → length (slots_of d) ≡ width p
tree_width (prefix takes) d h = ap (λ (z : Derivation). length (slots_of z)) h.1 ∙ h.2
tree_width internal d h = ap (λ (z : Derivation). length (slots_of z)) h
tree_width (termination takes) d h = ap (λ (z : Derivation). length (slots_of z)) h.1 ∙ h.2
tree_width (below row p) d h =
    ap (λ (z : Derivation). length (slots_of z)) h.1
    ∙ ap (λ (l : List Slot). length l) (slots_first row h.0)
    ∙ length-append (chosen_by row) (slots_of h.0)
    ∙ ap (λ n. length (chosen_by row) + n) (tree_width p h.0 h.2)
tree_width (hidden fields p) d h = ap (λ (z : Derivation). length (slots_of z)) h.1 ∙ tree_width p h.0 h.2
tree_width (handed_on fields p) d h = ap (λ (z : Derivation). length (slots_of z)) h.1 ∙ tree_width p h.0 h.2
tree_width (together p q) d h =
    ap (λ (z : Derivation). length (slots_of z)) h.2
    ∙ length-append (slots_of h.0) (slots_of h.1)
    ∙ ap (λ n. n + length (slots_of h.1)) (tree_width p h.0 h.3)
    ∙ ap (λ n. width p + n) (tree_width q h.1 h.4)

-- rows over equal rows
rows_over : (row : Row) (a b : Derivation) → rows_of a ≡ rows_of b → rows_of (put_row row a) ≡ rows_of (put_row row b)
rows_over Chl a b h = ap (λ (l : List ℕ). 3 ∷ l) h
rows_over Chr a b h = ap (λ (l : List ℕ). 4 ∷ l) h
rows_over (Val slot) a b h = ap (λ (l : List ℕ). 5 ∷ l) h
rows_over Guard a b h = ap (λ (l : List ℕ). 7 ∷ l) h
rows_over Let a b h = ap (λ (l : List ℕ). 8 ∷ l) h
rows_over Parl a b h = ap (λ (l : List ℕ). 9 ∷ l) h
rows_over Parr a b h = ap (λ (l : List ℕ). 10 ∷ l) h
rows_over Pass a b h = ap (λ (l : List ℕ). 13 ∷ l) h
rows_over Enstep a b h = ap (λ (l : List ℕ). 14 ∷ l) h
rows_over Disstep a b h = ap (λ (l : List ℕ). 16 ∷ l) h
rows_over Disend a b h = ap (λ (l : List ℕ). 17 ∷ l) h
rows_over Distake a b h = ap (λ (l : List ℕ). 18 ∷ l) h
rows_over Call a b h = ap (λ (l : List ℕ). 19 ∷ l) h
rows_over Rel a b h = ap (λ (l : List ℕ). 20 ∷ l) h
rows_over (Gate j) a b h = ap (λ (l : List ℕ). 6 ∷ j ∷ l) h

tree_rows : (p : Plan) (d : Derivation) → IsTreeOf p d → rows_of (blank_tree p) ≡ rows_of d
tree_rows (prefix takes) d h = ap (λ (n : ℕ). 0 ∷ n ∷ []) (sym h.2) ∙ sym (ap rows_of h.1)
tree_rows internal d h = sym (ap rows_of h)
tree_rows (termination takes) d h = ap (λ (n : ℕ). 2 ∷ n ∷ []) (sym h.2) ∙ sym (ap rows_of h.1)
tree_rows (below row p) d h = rows_over row (blank_tree p) h.0 (tree_rows p h.0 h.2) ∙ sym (ap rows_of h.1)
tree_rows (hidden fields p) d h = ap (λ (l : List ℕ). 12 ∷ l) (tree_rows p h.0 h.2) ∙ sym (ap rows_of h.1)
tree_rows (handed_on fields p) d h = ap (λ (l : List ℕ). 15 ∷ l) (tree_rows p h.0 h.2) ∙ sym (ap rows_of h.1)
tree_rows (together p q) d h =
    ap (λ (l : List ℕ). 11 ∷ l ++ rows_of (blank_tree q)) (tree_rows p h.0 h.3)
    ∙ ap (λ (l : List ℕ). 11 ∷ rows_of h.0 ++ l) (tree_rows q h.1 h.4)
    ∙ sym (ap rows_of h.2)

-- values fill as many blanks
blanks_filled : (takes : List Bool) (slots : List Slot) → length slots ≡ length (blanks takes) → Each IsGiven slots → AreFilled (blanks takes) slots
blanks_filled [] [] e g = tt
blanks_filled [] (slot ∷ slots) e g = absurd (omega (arith, e))
blanks_filled (true ∷ takes) [] e g = absurd (omega (arith, e))
blanks_filled (true ∷ takes) (Of v ∷ slots) e g = blanks_filled takes slots (omega (arith, e)) g.1
blanks_filled (true ∷ takes) (Mark ∷ slots) e g = absurd g.0
blanks_filled (true ∷ takes) (Blank ∷ slots) e g = absurd g.0
blanks_filled (false ∷ takes) slots e g = blanks_filled takes slots e g

filled_both : (a b c d : List Slot) → AreFilled a c → AreFilled b d → AreFilled (a ++ b) (c ++ d)
filled_both [] b [] d h k = k
filled_both [] b (slot ∷ c) d h k = absurd h
filled_both (z ∷ a) b [] d h k = absurd (none z a h)
  where
    none : (b : Slot) (a : List Slot) → AreFilled (b ∷ a) [] → ⊥
    none (Of v) a h = h
    none Mark a h = h
    none Blank a h = h
filled_both (Blank ∷ a) b (Of v ∷ c) d h k = filled_both a b c d h k
filled_both (Of w ∷ a) b (Of v ∷ c) d h k = (h.0, filled_both a b c d h.1 k)
filled_both (Blank ∷ a) b (Mark ∷ c) d h k = absurd h
filled_both (Blank ∷ a) b (Blank ∷ c) d h k = absurd h
filled_both (Of w ∷ a) b (Mark ∷ c) d h k = absurd h
filled_both (Of w ∷ a) b (Blank ∷ c) d h k = absurd h
filled_both (Mark ∷ a) b (slot ∷ c) d h k = absurd h

each_left : (xs ys : List Slot) → Each IsGiven (xs ++ ys) → Each IsGiven xs
each_left [] ys h = tt
each_left (x ∷ xs) ys h = (h.0, each_left xs ys h.1)

each_right : (xs ys : List Slot) → Each IsGiven (xs ++ ys) → Each IsGiven ys
each_right [] ys h = h
each_right (x ∷ xs) ys h = each_right xs ys h.1

own_filled : (row : Row) → Each IsGiven (chosen_by row) → AreFilled (chosen_by row) (chosen_by row)
own_filled (Val (Of v)) g = (refl, tt)
own_filled (Val Mark) g = absurd g.0
own_filled (Val Blank) g = absurd g.0
own_filled _ g = tt

tree_slots : (p : Plan) (d : Derivation) → IsTreeOf p d → Each IsGiven (slots_of d) → AreFilled (slots_of (blank_tree p)) (slots_of d)
tree_slots (prefix takes) d h g =
    subst (λ (z : Derivation). AreFilled (blanks takes) (slots_of z)) (sym h.1)
    (blanks_filled takes h.0 h.2 (subst (λ (z : Derivation). Each IsGiven (slots_of z)) h.1 g))
tree_slots internal d h g = subst (λ (z : Derivation). AreFilled [] (slots_of z)) (sym h) tt
tree_slots (termination takes) d h g =
    subst (λ (z : Derivation). AreFilled (blanks takes) (slots_of z)) (sym h.1)
    (blanks_filled takes h.0 h.2 (subst (λ (z : Derivation). Each IsGiven (slots_of z)) h.1 g))
tree_slots (below row p) d h g =
    let given : Each IsGiven (chosen_by row ++ slots_of h.0) =
    subst (Each IsGiven) (slots_first row h.0) (subst (λ (z : Derivation). Each IsGiven (slots_of z)) h.1 g) in
    subst (λ (z : Derivation). AreFilled (slots_of (put_row row (blank_tree p))) (slots_of z)) (sym h.1)
    (subst (λ (l : List Slot). AreFilled l (slots_of (put_row row h.0))) (sym (slots_first row (blank_tree p)))
    (subst (λ (l : List Slot). AreFilled (chosen_by row ++ slots_of (blank_tree p)) l) (sym (slots_first row h.0))
    (filled_both (chosen_by row) (slots_of (blank_tree p)) (chosen_by row) (slots_of h.0)
    (own_filled row (each_left (chosen_by row) (slots_of h.0) given))
    (tree_slots p h.0 h.2 (each_right (chosen_by row) (slots_of h.0) given)))))
tree_slots (hidden fields p) d h g =
    subst (λ (z : Derivation). AreFilled (slots_of (blank_tree p)) (slots_of z)) (sym h.1)
    (tree_slots p h.0 h.2 (subst (λ (z : Derivation). Each IsGiven (slots_of z)) h.1 g))
tree_slots (handed_on fields p) d h g =
    subst (λ (z : Derivation). AreFilled (slots_of (blank_tree p)) (slots_of z)) (sym h.1)
    (tree_slots p h.0 h.2 (subst (λ (z : Derivation). Each IsGiven (slots_of z)) h.1 g))
tree_slots (together p q) d h g =
    let given : Each IsGiven (slots_of h.0 ++ slots_of h.1) = subst (λ (z : Derivation). Each IsGiven (slots_of z)) h.2 g in
    subst (λ (z : Derivation). AreFilled (slots_of (blank_tree p) ++ slots_of (blank_tree q)) (slots_of z)) (sym h.2)
    (filled_both (slots_of (blank_tree p)) (slots_of (blank_tree q)) (slots_of h.0) (slots_of h.1)
    (tree_slots p h.0 h.3 (each_left (slots_of h.0) (slots_of h.1) given))
    (tree_slots q h.1 h.4 (each_right (slots_of h.0) (slots_of h.1) given)))

-- what is listed under a function
of_map : {A B : Type 0} (f : A → B) (xs : List A) (y : B) → IsOneOf y (map f xs) → (x : A) × (y ≡ f x) × IsOneOf x xs
of_map f [] y h = absurd h
of_map f (x ∷ xs) y (inl e) = (x, e, inl refl)
of_map f (x ∷ xs) y (inr h) = let z = of_map f xs y h in (z.0, z.1, inr z.2)

taken_length : (takes : List Bool) (choices : List (List Slot)) (slots : List Slot) → IsOneOf slots (taken_slots takes choices) →
    length slots ≡ length (blanks takes)
taken_length [] choices slots (inl e) = ap (λ (l : List Slot). length l) e
taken_length [] choices slots (inr h) = absurd h
taken_length (taken ∷ takes) [] slots h = absurd h
taken_length (false ∷ takes) (c ∷ choices) slots h = taken_length takes choices slots h
taken_length (true ∷ takes) (c ∷ choices) slots h =
    let z = from_flat_map (λ slot. map (λ (l : List Slot). slot ∷ l) (taken_slots takes choices)) c slots h in
    let u = of_map (λ (l : List Slot). z.0 ∷ l) (taken_slots takes choices) slots z.2 in
    ap (λ (l : List Slot). length l) u.1 ∙ ap (λ n. suc n) (taken_length takes choices u.0 u.2)

-- each tree of a plan has its rules
pub tree_among : (theory : Theory) (w : Windows) (p : Plan) (slots : List (List Slot)) (d : Derivation) → IsOneOf d (trees_of theory w p slots) →
    IsTreeOf p d
tree_among theory w (prefix takes) slots d h =
    let z = of_map pre (taken_slots takes slots) d h in (z.0, z.1, taken_length takes slots z.0 z.2)
tree_among theory w internal slots d (inl e) = e
tree_among theory w internal slots d (inr h) = absurd h
tree_among theory w (termination takes) slots d h =
    let z = of_map exiting (taken_slots takes slots) d h in (z.0, z.1, taken_length takes slots z.0 z.2)
tree_among theory w (below row p) slots d h =
    let z = of_map (put_row row) (trees_of theory w p slots) d h in (z.0, z.1, tree_among theory w p slots z.0 z.2)
tree_among theory w (hidden fields p) slots d h =
    let those = choices_at_once fields (all_choices theory w [] fields) in
    let z = of_map hiding (flat_map (λ choices. trees_of theory w p choices) those) d h in
    let u = from_flat_map (λ choices. trees_of theory w p choices) those z.0 z.2 in
    (z.0, z.1, tree_among theory w p u.0 z.0 u.2)
tree_among theory w (handed_on fields p) slots d h =
    let those = choices_at_once fields (all_choices theory w [] fields) in
    let z = of_map enend (flat_map (λ choices. trees_of theory w p choices) those) d h in
    let u = from_flat_map (λ choices. trees_of theory w p choices) those z.0 z.2 in
    (z.0, z.1, tree_among theory w p u.0 z.0 u.2)
tree_among theory w (together p q) slots d h =
    let z = from_flat_map (λ left. map (both left) (trees_of theory w q slots)) (trees_of theory w p slots) d h in
    let u = of_map (both z.0) (trees_of theory w q slots) d z.2 in
    (z.0, u.0, u.1, tree_among theory w p slots z.0 z.1, tree_among theory w q slots u.0 u.2)

pub trees_fill_blanks : TreesFillBlanks
trees_fill_blanks theory w p slots d h g =
    let t = tree_among theory w p slots d h in record { rows = tree_rows p d t; slots = tree_slots p d t g }
