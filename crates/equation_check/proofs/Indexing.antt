-- The places of a group's equations by their first arguments.
use Rattle.std.proofs.Common.{ℕ, zero, suc, ◌≡◌, ◌∙◌, ◌<◌, ◌≤◌, ◌+◌, ◌⊎◌, nat_eq, refl, sym, ap, subst, arith, length, map, take, set, get_or, List, [], ◌∷◌, ◌++◌, Option, Some, None, Bool, true, false, Bor, inl, inr, if◌then◌else◌}
use Rattle.std.specs.List.{slice_get}
use Rattle.std.specs.Option.{option_map_or}
use Rattle.std.proofs.Math.Decide.{ℕ_discrete}
use Rattle.std.proofs.lemmas.Bool.{eq-eqb}
use Rattle.std.proofs.lemmas.List.{append-nil, length-append, length-map}
use Rattle.std.proofs.lemmas.Option.{same_Some}
use Rattle.indexmap.specs.IndexMap.{get}
use Rattle.spec_core.specs.declared.equation.Equation.{Equation}
use Rattle.spec_core.specs.Lists.{Each, IsOneOf}
use Rattle.spec_core.specs.Orthogonality.{AreApart}
use Rattle.spec_core.specs.Terms.{TermTree, variable, apply, no_terms, and_term, instance}
use Rattle.spec_core.specs.Theories.{ConditionalEquation, Theory}
use Rattle.spec_core.proofs.Lists.{each_append, each_implied, each_left, each_right}
use Rattle.spec_core.proofs.Members.{each_one, one_left, one_right}
use Rattle.equation_faults.specs.Firsts.{IsFirstOf}
use Rattle.equation_check.specs.declared.groups.Group.{Group}
use Rattle.equation_check.specs.Groups.{group_of, seen, argument, places_at, place_if, IsIndexed, IsApartAt, IsOverlappedAt, IsLeast}
use Rattle.equation_check.proofs.Grouping.{seen_parted}

-- an empty group

pub nothing_indexed : (group : Group) → group.equations.items ≡ [] → ((f : ℕ) → places_at group (Some f) ≡ []) → group.others.items ≡ [] →
    IsIndexed group
nothing_indexed group none places others = record {
  within = λ o. subst (Each (λ place. place < length group.equations.items)) (sym (no_places o)) tt;
  whole = λ place e at. absurd (no_equation place e (sym (ap (λ xs. slice_get (map seen xs) place) none) ∙ at));
}
  where
    no_places : (o : Option ℕ) → places_at group o ≡ []
    no_places None = others
    no_places (Some f) = places f

    no_equation : (place : ℕ) (e : ConditionalEquation) → slice_get [] place ≡ Some e → ⊥
    no_equation place e at = cc

pub group_pushed : (groups : List Group) (g : Group) → ((f : ℕ) → group_of groups f ≡ []) → g.equations.items ≡ [] →
    (f : ℕ) → group_of (groups ++ g ∷ []) f ≡ []
group_pushed [] g h none zero = ap (map seen) none
group_pushed [] g h none (suc f) = refl
group_pushed (x ∷ groups) g h none zero = h zero
group_pushed (x ∷ groups) g h none (suc f) = group_pushed groups g (λ k. h (suc k)) none f

-- one more place

pub same_places : (one other : Group) → one.places ≡ other.places → one.others ≡ other.others → (o : Option ℕ) → places_at one o ≡ places_at other o
same_places one other same all None = ap (λ ps. ps.items) all
same_places one other same all (Some f) = ap (λ m. option_map_or (λ ps. ps.items) (get nat_eq m f) []) same

pub noted_other : (old new : Group) (place : ℕ) → new.places ≡ old.places → new.others.items ≡ old.others.items ++ place ∷ [] →
    (o : Option ℕ) → places_at new o ≡ places_at old o ++ place_if o None place
noted_other old new place same more None = more
noted_other old new place same more (Some f) = ap (λ m. option_map_or (λ ps. ps.items) (get nat_eq m f) []) same ∙ sym (append-nil (places_at old (Some f)))

pub noted_under : (old new : Group) (op place : ℕ) → new.others ≡ old.others →
    ((f : ℕ) → places_at new (Some f) ≡ places_at old (Some f) ++ place_if (Some f) (Some op) place) →
    (o : Option ℕ) → places_at new o ≡ places_at old o ++ place_if o (Some op) place
noted_under old new op place same more None = ap (λ ps. ps.items) same ∙ sym (append-nil (places_at old None))
noted_under old new op place same more (Some f) = more f

one_placed : (o : Option ℕ) (place : ℕ) → IsOneOf place (place_if o o place)
one_placed None place = inl refl
one_placed (Some f) place = subst (λ b. IsOneOf place (if b then place ∷ [] else [])) (sym (eq-eqb f f refl)) (inl refl)

all_placed : (P : ℕ → Type 0) (o a : Option ℕ) (place : ℕ) → P place → Each P (place_if o a place)
all_placed P None None place h = (h, tt)
all_placed P (Some f) (Some g) place h = by_test (nat_eq f g)
  where
    by_test : (b : Bool) → Each P (if b then place ∷ [] else [])
    by_test true = (h, tt)
    by_test false = tt
all_placed P None (Some g) place h = tt
all_placed P (Some f) None place h = tt

last_or_before : {A : Type 0} (xs : List A) (x : A) (i : ℕ) (y : A) → slice_get (xs ++ x ∷ []) i ≡ Some y →
    (slice_get xs i ≡ Some y) ⊎ ((i ≡ length xs) × (x ≡ y))
last_or_before [] x zero y e = inr (refl, same_Some x y e)
last_or_before [] x (suc i) y e = absurd (let no : ⊥ = cc in no)
last_or_before (z ∷ xs) x zero y e = inl e
last_or_before (z ∷ xs) x (suc i) y e = elim (last_or_before xs x i y e) [
  | inl before ↦ inl before
  | inr last ↦ inr (ap suc last.0, last.1)
]

pub indexed_more : (old new : Group) (e : ConditionalEquation) → IsIndexed old →
    map seen new.equations.items ≡ map seen old.equations.items ++ e ∷ [] →
    ((o : Option ℕ) → places_at new o ≡ places_at old o ++ place_if o (argument e.left) (length old.equations.items)) → IsIndexed new
indexed_more old new e h more noted =
    let es = map seen old.equations.items in
    let count = length old.equations.items in
    let longer : length new.equations.items ≡ suc count =
    sym (length-map new.equations.items seen) ∙ ap length more ∙ length-append es (e ∷ []) ∙ ap (λ n. n + 1) (length-map old.equations.items seen)
    ∙ (let one : count + 1 ≡ suc count = omega arith in one) in
    record {
      within = λ o.
          subst (Each (λ place. place < length new.equations.items)) (sym (noted o))
          (each_append (λ place. place < length new.equations.items) (places_at old o) (place_if o (argument e.left) count)
          (each_implied (λ place. place < count) (λ place. place < length new.equations.items) (places_at old o)
          (λ place w. omega (arith, w, longer)) (h.within o))
          (all_placed (λ place. place < length new.equations.items) o (argument e.left) count (omega (arith, longer))));
      whole = λ place d at. elim (last_or_before es e place d (sym (ap (λ xs. slice_get xs place) more) ∙ at)) [
        | inl before ↦
            subst (IsOneOf place) (sym (noted (argument d.left)))
            (one_left place (places_at old (argument d.left)) (place_if (argument d.left) (argument e.left) count) (h.whole place d before))
        | inr last ↦
            let here : place ≡ count = last.0 ∙ length-map old.equations.items seen in
            let there : IsOneOf count (places_at new (argument e.left)) =
            subst (IsOneOf count) (sym (noted (argument e.left)))
            (one_right count (places_at old (argument e.left)) (place_if (argument e.left) (argument e.left) count) (one_placed (argument e.left) count)) in
            subst (λ x. IsOneOf place (places_at new (argument x.left))) last.1
            (subst (λ n. IsOneOf n (places_at new (argument e.left))) (sym here) there)
      ];
    }

-- the least place

pub least_joined : (theory : Theory) (es : List ConditionalEquation) (later : ConditionalEquation) (xs ys : List ℕ) (bound mid least : ℕ) →
    IsLeast theory es later xs bound mid → IsLeast theory es later ys mid least → IsLeast theory es later (xs ++ ys) bound least
least_joined theory es later xs ys bound mid least h k = record {
  bounded = omega (arith, h.bounded, k.bounded);
  holds = λ w. elim (ℕ_discrete least mid) [
    | yes same ↦ subst (IsOverlappedAt theory es later) (sym same) (h.holds (subst (λ n. n < bound) same w))
    | no other ↦ k.holds (let e = other in omega (arith, e, k.bounded))
  ];
  before = each_append (λ place. place < least → IsApartAt theory es later place) xs ys
      (each_implied (λ place. place < mid → IsApartAt theory es later place) (λ place. place < least → IsApartAt theory es later place) xs
      (λ place f w. f (omega (arith, w, k.bounded))) h.before)
      k.before;
}

pub least_at_first : (theory : Theory) (es : List ConditionalEquation) (later : ConditionalEquation) (bound : ℕ) → IsLeast theory es later [] bound bound
least_at_first theory es later bound = record { bounded = omega arith; holds = λ w. absurd (omega (arith, w)); before = tt }

pub least_bound : (theory : Theory) (es : List ConditionalEquation) (later : ConditionalEquation) (place bound : ℕ) → bound ≤ place →
    IsLeast theory es later (place ∷ []) bound bound
least_bound theory es later place bound over = record {
  bounded = omega arith;
  holds = λ w. absurd (omega (arith, w));
  before = ((λ w. absurd (omega (arith, w, over))), tt);
}

seen_at : (xs : List (Bor Equation)) (i : ℕ) (x : Bor Equation) → i < length xs → x ≡ get_or xs i x → slice_get (map seen xs) i ≡ Some (seen x)
seen_at [] i x w a = absurd (omega (arith, w))
seen_at (y ∷ xs) zero x w a = ap (λ z. Some (seen z)) (sym a)
seen_at (y ∷ xs) (suc i) x w a = seen_at xs i x (omega (arith, w)) a

module _ (theory : Theory) (xs : List (Bor Equation)) (later : ConditionalEquation) (place bound : ℕ) (x : Bor Equation)
    (there : place < length xs) (at : x ≡ get_or xs place x) where
  pub least_apart : AreApart theory (seen x) later → IsLeast theory (map seen xs) later (place ∷ []) bound bound
  least_apart apart = record {
    bounded = omega arith;
    holds = λ w. absurd (omega (arith, w));
    before = ((λ w e is. subst (λ d. AreApart theory d later) (same_Some (seen x) e (sym (seen_at xs place x there at) ∙ is)) apart), tt);
  }

  pub least_here : place ≤ bound → (AreApart theory (seen x) later → ⊥) → IsLeast theory (map seen xs) later (place ∷ []) bound place
  least_here below not = record {
    bounded = below;
    holds = λ w. (seen x, seen_at xs place x there at, not);
    before = ((λ w. absurd (omega (arith, w))), tt);
  }

-- equations of different first arguments are apart

kept : (s : ℕ → TermTree) (t : TermTree) (f : ℕ) → argument t ≡ Some f → argument (instance s t) ≡ Some f
kept s (variable x) f h = absurd (let no : ⊥ = cc in no)
kept s (apply g no_terms) f h = absurd (let no : ⊥ = cc in no)
kept s (apply g (and_term (variable x) ts)) f h = absurd (let no : ⊥ = cc in no)
kept s (apply g (and_term (apply f ts) us)) e h = h

other_argument : (theory : Theory) (d e : ConditionalEquation) (f g : ℕ) → argument d.left ≡ Some f → argument e.left ≡ Some g →
    (f ≡ g → ⊥) → AreApart theory d e
other_argument theory d e f g h k other = inl (λ s z same.
    other (same_Some f g (sym (kept s d.left f h) ∙ ap argument same ∙ kept z e.left g k)))

-- where no place of the same first argument, nor of none, has one that isn't apart, no place has
pub none_below : (theory : Theory) (group : Group) (later : ConditionalEquation) (op least : ℕ) → IsIndexed group →
    argument later.left ≡ Some op →
    Each (λ place. place < least → IsApartAt theory (map seen group.equations.items) later place) (places_at group (Some op)) →
    Each (λ place. place < least → IsApartAt theory (map seen group.equations.items) later place) (places_at group None) →
    (place : ℕ) → place < least → IsApartAt theory (map seen group.equations.items) later place
none_below theory group later op least h has near others place below e at = by_argument (argument e.left) refl
  where
    P : ℕ → Type 0
    P n = n < least → IsApartAt theory (map seen group.equations.items) later n

    by_argument : (o : Option ℕ) → argument e.left ≡ o → AreApart theory e later
    by_argument None is =
        each_one P (places_at group None) place others (subst (λ o. IsOneOf place (places_at group o)) is (h.whole place e at)) below e at
    by_argument (Some f) is = elim (ℕ_discrete f op) [
      | yes same ↦
          each_one P (places_at group (Some op)) place near
          (subst (λ o. IsOneOf place (places_at group o)) (is ∙ ap Some same) (h.whole place e at)) below e at
      | no other ↦ other_argument theory e later f op is has other
    ]

-- what the two searches for the least place find
pub both_searched : (theory : Theory) (group : Group) (later : ConditionalEquation) (op near least : ℕ) → IsIndexed group →
    argument later.left ≡ Some op →
    IsLeast theory (map seen group.equations.items) later (places_at group (Some op)) (length group.equations.items) near →
    IsLeast theory (map seen group.equations.items) later (places_at group None) near least →
    (least < length group.equations.items → IsOverlappedAt theory (map seen group.equations.items) later least) ×
    ((place : ℕ) → place < least → IsApartAt theory (map seen group.equations.items) later place)
both_searched theory group later op near least h has one other =
    let es = map seen group.equations.items in
    let near_places = places_at group (Some op) in
    let joined = least_joined theory es later near_places (places_at group None) (length group.equations.items) near least one other in (
      joined.holds,
      none_below theory group later op least h has
          (each_left (λ place. place < least → IsApartAt theory es later place) near_places (places_at group None) joined.before)
          (each_right (λ place. place < least → IsApartAt theory es later place) near_places (places_at group None) joined.before),
    )

each_taken : (P : ConditionalEquation → Type 0) (xs : List (Bor Equation)) (n : ℕ) →
    ((place : ℕ) (e : ConditionalEquation) → place < n → slice_get (map seen xs) place ≡ Some e → P e) → Each P (map seen (take n xs))
each_taken P [] zero h = tt
each_taken P [] (suc n) h = tt
each_taken P (x ∷ xs) zero h = tt
each_taken P (x ∷ xs) (suc n) h =
    (h zero (seen x) (omega arith) refl, each_taken P xs n (λ place e w at. h (suc place) e (omega (arith, w)) at))

each_there : (P : ConditionalEquation → Type 0) (es : List ConditionalEquation) →
    ((place : ℕ) (e : ConditionalEquation) → slice_get es place ≡ Some e → P e) → Each P es
each_there P [] h = tt
each_there P (e ∷ es) h = (h zero e refl, each_there P es (λ place d at. h (suc place) d at))

within : {A : Type 0} (xs : List A) (i : ℕ) (x : A) → slice_get xs i ≡ Some x → i < length xs
within [] i x e = absurd (let no : ⊥ = cc in no)
within (y ∷ xs) zero x e = omega arith
within (y ∷ xs) (suc i) x e = let w = within xs i x e in omega (arith, w)

pub none_found : (theory : Theory) (group : Group) (later : ConditionalEquation) (least : ℕ) → length group.equations.items ≤ least →
    ((place : ℕ) → place < least → IsApartAt theory (map seen group.equations.items) later place) →
    Each (λ earlier. AreApart theory earlier later) (map seen group.equations.items)
none_found theory group later least all apart =
    each_there (λ earlier. AreApart theory earlier later) (map seen group.equations.items)
    (λ place e at. let w = within (map seen group.equations.items) place e at in apart place (omega (arith, w, all, length-map group.equations.items seen)) e at)

pub first_found : (theory : Theory) (xs : List (Bor Equation)) (later : ConditionalEquation) (least : ℕ) (x : Bor Equation) →
    least < length xs → x ≡ get_or xs least x → IsOverlappedAt theory (map seen xs) later least →
    ((place : ℕ) → place < least → IsApartAt theory (map seen xs) later place) →
    IsFirstOf (λ earlier. AreApart theory earlier later → ⊥) (map seen xs) (seen x)
first_found theory xs later least x w a o apart = record {
  before = map seen (take least xs);
  behind = _;
  parts = seen_parted xs least x w a;
  holds = subst (λ d. AreApart theory d later → ⊥) (same_Some o.0 (seen x) (sym o.1 ∙ seen_at xs least x w a)) o.2;
  none_before = each_taken (λ d. (AreApart theory d later → ⊥) → ⊥) xs least (λ place e below at k. k (apart place below e at));
}

-- what holds of a group that is put into a list of groups
pub groups_set : (P : Group → Type 0) (groups : List Group) (place : ℕ) (g : Group) → Each P groups → P g → Each P (set groups place g)
groups_set P [] place g h k = tt
groups_set P (x ∷ groups) zero g h k = (k, h.1)
groups_set P (x ∷ groups) (suc place) g h k = (h.0, groups_set P groups place g h.1 k)

pub group_of_place : (P : Group → Type 0) (groups : List Group) (place : ℕ) (g : Group) → place < length groups → g ≡ get_or groups place g →
    Each P groups → P g
group_of_place P [] place g w a h = absurd (omega (arith, w))
group_of_place P (x ∷ groups) zero g w a h = subst P (sym a) h.0
group_of_place P (x ∷ groups) (suc place) g w a h = group_of_place P groups place g (omega (arith, w)) a h.1
