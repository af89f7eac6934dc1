-- The groups of the equations so far, and what is answered of the next one.
use Rattle.std.proofs.Common.{ℕ, ◌≡◌, ◌<◌, List, [], ◌∷◌, ◌++◌, Bool, map, length, refl, sym, subst, ap, ◌∙◌, inl, inr}
use Rattle.equation_check.specs.declared.groups.Group.{Group}
use Rattle.std.proofs.Common.{zero, suc, ◌+◌, Bor, take, drop, get_or, set, arith}
use Rattle.std.proofs.Math.Decide.{ℕ_discrete}
use Rattle.std.proofs.lemmas.List.{map-append}
use Rattle.equation_sets.proofs.Members.{parted}
use Rattle.equation_sets.proofs.Flags.{in_below}
use Rattle.spec_core.specs.declared.equation.Equation.{Equation}
use Rattle.spec_core.specs.Lists.{Each, OneOf, IsOneOf}
use Rattle.spec_core.specs.Orthogonality.{AreApart}
use Rattle.spec_core.specs.Terms.{apply, instance}
use Rattle.spec_core.specs.Theories.{ConditionalEquation, Theory, Heads, equation_of}
use Rattle.equation_faults.specs.Faults.{IsWellFormed, AreHeads}
use Rattle.equation_faults.specs.Firsts.{IsFirstOf}
use Rattle.equation_check.specs.Groups.{AreChosen, AreGroups, group_of, seen, none}
use Rattle.equation_check.specs.Shape.{Overlaps, IsRefusalOf, IsAccepted, overlap_of, overlap}
use Rattle.equation_check.proofs.Choosing.{choose_last, leave_last, each_chosen, all_of, first_of}

some_one : (P : ConditionalEquation → Type 0) (e : ConditionalEquation) (es : List ConditionalEquation) → IsOneOf e es → P e → OneOf P es
some_one P e [] o h = absurd o
some_one P e (d ∷ es) (inl same) h = inl (subst P same h)
some_one P e (d ∷ es) (inr o) h = inr (some_one P e es o h)

-- the operation that heads an equation is in the set of those that do
pub head_below : (theory : Theory) (set : List Bool) (e : ConditionalEquation) (f : ℕ) → AreHeads theory set → IsOneOf e theory.equations →
    Heads f e → f < length set
head_below theory set e f exact one heads = in_below f set ((exact f).1 (some_one (Heads f) e theory.equations one heads))

abbrev Headed : Theory → ℕ → ConditionalEquation → Type 0
Headed theory f e = IsWellFormed theory e × Heads f e

one_head : (e : ConditionalEquation) (f g : ℕ) → Heads f e → Heads g e → f ≡ g
one_head e f g h k = let same : apply f h.0 ≡ apply g k.0 = sym h.1 ∙ k.1 in cc

-- an equation that isn't well-formed changes no group
pub not_grouped : (theory : Theory) (before : List ConditionalEquation) (e : ConditionalEquation)
    (groups : List Group) → (IsWellFormed theory e → ⊥) → AreGroups theory before groups →
    AreGroups theory (before ++ e ∷ []) groups
not_grouped theory before e groups not are f = leave_last (Headed theory f) before (group_of groups f) e (λ h. not h.0) (are f)

-- a well-formed one stands last in the group of its operation
pub grouped : (theory : Theory) (before : List ConditionalEquation) (e : ConditionalEquation)
    (old new : List Group) (g : ℕ) → IsWellFormed theory e → Heads g e → group_of new g ≡ group_of old g ++ e ∷ [] →
    ((f : ℕ) → (f ≡ g → ⊥) → group_of new f ≡ group_of old f) → AreGroups theory before old → AreGroups theory (before ++ e ∷ []) new
grouped theory before e old new g formed heads here others are f = elim (ℕ_discrete f g) [
  | yes same ↦ subst (AreChosen (Headed theory f) (before ++ e ∷ []))
      (sym (ap (group_of new) same ∙ here ∙ ap (λ k. group_of old k ++ e ∷ []) (sym same)))
      (choose_last (Headed theory f) before (group_of old f) e (formed, subst (λ k. Heads k e) (sym same) heads) (are f))
  | no not ↦ subst (AreChosen (Headed theory f) (before ++ e ∷ [])) (sym (others f not))
      (leave_last (Headed theory f) before (group_of old f) e (λ h. not (one_head e f g h.1 heads)) (are f))
]

-- well-formed equations of different operations are apart
apart_heads : (theory : Theory) (d e : ConditionalEquation) (g : ℕ) → Heads g e → (Headed theory g d → ⊥) → IsWellFormed theory d →
    AreApart theory d e
apart_heads theory d e g heads not formed =
    let p = formed.patterns in
    inl (λ s z same.
    let one : instance s d.left ≡ apply p.0 _ = ap (instance s) p.2 in
    let other : instance z e.left ≡ apply g _ = ap (instance z) heads.1 in
    let joined : apply p.0 _ ≡ apply g _ = sym one ∙ same ∙ other in
    let head : p.0 ≡ g = cc in
    not (formed, subst (λ k. Heads k d) head (p.1, p.2)))

pub accepted : (theory : Theory) (before : List ConditionalEquation) (e : ConditionalEquation)
    (groups : List Group) (g : ℕ) → IsWellFormed theory e → Heads g e → AreGroups theory before groups →
    Each (λ d. AreApart theory d e) (group_of groups g) → IsAccepted theory before e
accepted theory before e groups g formed heads are apart = record {
  formed = formed;
  apart = all_of (Headed theory g) (λ d. AreApart theory d e) (λ d. IsWellFormed theory d → AreApart theory d e)
      (λ d h a w. a) (λ d not w. apart_heads theory d e g heads not w) before (group_of groups g) (are g) apart;
}

-- an equation from which it isn't apart has its operation
overlapping_head : (theory : Theory) (d e : ConditionalEquation) (g : ℕ) → Heads g e → Overlaps theory e d → Headed theory g d
overlapping_head theory d e g heads o =
    let p = o.0.patterns in
    elim (ℕ_discrete p.0 g) [
      | yes same ↦ (o.0, subst (λ k. Heads k d) same (p.1, p.2))
      | no not ↦ absurd (o.1 (apart_heads theory d e g heads (λ h. not (one_head d p.0 g (p.1, p.2) h.1)) o.0))
    ]

pub overlapped : (theory : Theory) (before : List ConditionalEquation) (e d : ConditionalEquation)
    (groups : List Group) (g : ℕ) → IsWellFormed theory e → Heads g e → AreGroups theory before groups →
    IsFirstOf (λ earlier. AreApart theory earlier e → ⊥) (group_of groups g) d → IsRefusalOf theory before e (overlap_of theory d e)
overlapped theory before e d groups g formed heads are first =
    overlap d formed (first_of (Headed theory g) (λ earlier. AreApart theory earlier e → ⊥) (Overlaps theory e)
    (λ x h a. (h.0, a)) (λ x o. o.1) (λ x o. overlapping_head theory x e g heads o)
    before (group_of groups g) first.before first.behind d (are g) first.parts first.holds first.none_before)

pub formed_group : (theory : Theory) (before : List ConditionalEquation) (groups : List Group) (g : ℕ) →
    AreGroups theory before groups → Each (IsWellFormed theory) (group_of groups g)
formed_group theory before groups g are = first_parts (group_of groups g) (each_chosen (Headed theory g) before (group_of groups g) (are g))
  where
    first_parts : (es : List ConditionalEquation) → Each (Headed theory g) es → Each (IsWellFormed theory) es
    first_parts [] h = tt
    first_parts (e ∷ es) h = (h.0.0, first_parts es h.1)

-- groups, place by place
pub no_group : (theory : Theory) (groups : List Group) → ((f : ℕ) → group_of groups f ≡ []) → AreGroups theory [] groups
no_group theory groups empty f = subst (AreChosen (Headed theory f) []) (sym (empty f)) none

pub group_at : (groups : List Group) (place : ℕ) (g : Group) → place < length groups → g ≡ get_or groups place g →
    group_of groups place ≡ map seen g.equations.items
group_at [] place g w a = absurd (omega arith)
group_at (h ∷ groups) zero g w a = ap (λ k. map seen k.equations.items) (sym a)
group_at (h ∷ groups) (suc place) g w a = group_at groups place g (omega arith) a

pub group_set : (groups : List Group) (place : ℕ) (g : Group) → place < length groups →
    group_of (set groups place g) place ≡ map seen g.equations.items
group_set [] place g w = absurd (omega arith)
group_set (h ∷ groups) zero g w = refl
group_set (h ∷ groups) (suc place) g w = group_set groups place g (omega arith)

pub group_kept : (groups : List Group) (place : ℕ) (g : Group) (f : ℕ) → (f ≡ place → ⊥) →
    group_of (set groups place g) f ≡ group_of groups f
group_kept [] place g f n = refl
group_kept (h ∷ groups) zero g zero n = absurd (n refl)
group_kept (h ∷ groups) zero g (suc f) n = refl
group_kept (h ∷ groups) (suc place) g zero n = refl
group_kept (h ∷ groups) (suc place) g (suc f) n = group_kept groups place g f (λ e. n (ap suc e))

-- the equations of a group before one of them, the one, and those behind it
pub seen_parted : (xs : List (Bor Equation)) (i : ℕ) (x : Bor Equation) → i < length xs → x ≡ get_or xs i x →
    map seen xs ≡ map seen (take i xs) ++ seen x ∷ map seen (drop (i + 1) xs)
seen_parted xs i x w a =
    ap (map seen) (parted xs i x w) ∙ map-append seen (take i xs) (get_or xs i x ∷ drop (i + 1) xs)
    ∙ ap (λ y. map seen (take i xs) ++ seen y ∷ map seen (drop (i + 1) xs)) (sym a)

-- an equation that a loop goes over
pub listed_at : (xs ys : List Equation) (i : ℕ) (x : Equation) → xs ≡ ys → i < length xs → x ≡ get_or xs i x →
    IsOneOf (equation_of x) (map equation_of ys)
listed_at xs ys i x same w a =
    subst (λ zs. IsOneOf (equation_of x) (map equation_of zs)) same (go xs i w a)
  where
    go : (xs : List Equation) (i : ℕ) → i < length xs → x ≡ get_or xs i x → IsOneOf (equation_of x) (map equation_of xs)
    go [] i w a = absurd (omega arith)
    go (y ∷ xs) zero w a = inl (ap equation_of a)
    go (y ∷ xs) (suc i) w a = inr (go xs i (omega arith) a)
