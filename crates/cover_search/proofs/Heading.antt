-- Equations by their heads.
use Rattle.std.proofs.Common.{ℕ, ◌≡◌, ◌∙◌, ◌<◌, ◌+◌, arith, nat_eq, refl, sym, ap, subst, length, take, map, get_or, List, [], ◌∷◌, ◌++◌, Bool, true, false, if◌then◌else◌}
use Rattle.std.specs.Prelude.{◌↔◌, IsTrue}
use Rattle.std.specs.List.{filter}
use Rattle.std.proofs.lemmas.Bool.{eq-eqb, eqb-true}
use Rattle.std.proofs.lemmas.List.Elements.{filter-append}
use Rattle.spec_core.specs.declared.equation.Equation.{Equation}
use Rattle.spec_core.specs.Lists.{Each}
use Rattle.spec_core.specs.Terms.{TermTree, TermTrees, variable, apply}
use Rattle.spec_core.specs.Theories.{ConditionalEquation, Heads, equation_of}
use Rattle.spec_core.proofs.Lists.{map_next}
use Rattle.type_images.specs.Groups.{key_of}
use Rattle.cover_search.specs.declared.heads.Headed.{Headed}
use Rattle.cover_search.specs.Heads.{is_application, is_headed, headed, headed_equation, equations_at}
use Rattle.cover_search.specs.Lefts.{keyed}

-- one more equation of a list that a loop goes over
pub headed_next : (f : ℕ) (es : List Equation) (i : ℕ) (e : Equation) → i < length es → e ≡ get_or es i e →
    headed f (map equation_of (take (i + 1) es)) ≡
    headed f (map equation_of (take i es)) ++ (if is_headed f (equation_of e) then equation_of e ∷ [] else [])
headed_next f es i e within at =
    ap (headed f) (map_next equation_of es i e within at) ∙ filter-append (is_headed f) (map equation_of (take i es)) (equation_of e ∷ [])

-- the same of a key
pub keyed_next : (k : ℕ) (es : List Equation) (i : ℕ) (e : Equation) → i < length es → e ≡ get_or es i e →
    keyed k (map equation_of (take (i + 1) es)) ≡
    keyed k (map equation_of (take i es)) ++ (if nat_eq k (key_of (equation_of e)) then equation_of e ∷ [] else [])
keyed_next k es i e within at =
    ap (keyed k) (map_next equation_of es i e within at) ∙ filter-append (λ d. nat_eq k (key_of d)) (map equation_of (take i es)) (equation_of e ∷ [])

-- what holds of those that a test chooses, and of all others, holds of all
pub each_back : {A : Type 0} (P : A → Type 0) (p : A → Bool) (xs : List A) → ((x : A) → p x ≡ false → P x) → Each P (filter p xs) → Each P xs
each_back P p [] n h = tt
each_back P p (x ∷ xs) n h = chosen (p x) refl (each_back P p xs n) h
  where
    chosen : (b : Bool) → p x ≡ b → (Each P (filter p xs) → Each P xs) → Each P (if b then x ∷ filter p xs else filter p xs) → Each P (x ∷ xs)
    chosen true e rest k = (k.0, rest k.1)
    chosen false e rest k = (n x e, rest k)

pub false_true : false ≡ true → ⊥
false_true e = cc

-- an equation that has another head isn't of the operation
pub not_headed : (f : ℕ) (e : ConditionalEquation) → is_headed f e ≡ false → Heads f e → ⊥
not_headed f e other h = false_true (sym other ∙ ap (is_application f) h.1 ∙ eq-eqb f f refl)

pub is_applied : (f : ℕ) (t : TermTree) → is_application f t ≡ true → (ts : TermTrees) × (t ≡ apply f ts)
is_applied f (variable x) h = absurd (false_true h)
is_applied f (apply g ts) h = (ts, ap (λ k. apply k ts) (sym (eqb-true f g h)))

-- the operation heads none of these

none_headed : (f : ℕ) (es : List ConditionalEquation) → headed f es ≡ [] → Each (λ e. Heads f e → ⊥) es
none_headed f es is = each_back (λ e. Heads f e → ⊥) (is_headed f) es (not_headed f) (subst (Each (λ e. Heads f e → ⊥)) (sym is) tt)

nothing_headed : (f : ℕ) (es : List ConditionalEquation) → Each (λ e. Heads f e → ⊥) es → headed f es ≡ []
nothing_headed f [] h = refl
nothing_headed f (e ∷ es) h = chosen (is_headed f e) refl (nothing_headed f es h.1)
  where
    chosen : (b : Bool) → is_headed f e ≡ b → headed f es ≡ [] → (if b then e ∷ headed f es else headed f es) ≡ []
    chosen true is rest = absurd (h.0 (is_applied f e.left is))
    chosen false is rest = rest

pub heads_none_by : (f : ℕ) (es : List ConditionalEquation) → [] ≡ headed f es → Each (λ e. Heads f e → ⊥) es
heads_none_by f es none = none_headed f es (sym none)

some : {A : Type 0} (x : A) (xs : List A) → x ∷ xs ≡ [] → ⊥
some x xs e = cc

pub heads_none_where : (f : ℕ) (es : List ConditionalEquation) (xs : List Headed) (b : Bool) → b ≡ nat_eq (length xs) 0 →
    equations_at xs ≡ headed f es → IsTrue b ↔ Each (λ e. Heads f e → ⊥) es
heads_none_where f es [] b is same = ((λ i. none_headed f es (sym same)), (λ n. is ∙ eq-eqb 0 0 refl))
heads_none_where f es (x ∷ xs) b is same = (
  (λ i. absurd (let none = eqb-true (length (x ∷ xs)) 0 (sym is ∙ i) in omega (arith, none))),
  λ n. absurd (some (headed_equation x) (equations_at xs) (same ∙ nothing_headed f es n)),
)
