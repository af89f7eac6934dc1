-- What is sought below a step.
use Rattle.std.proofs.Common.{ℕ, ◌≡◌, ◌==◌, ◌++◌, ◌&&◌, ◌||◌, ◌∙◌, not, List, [], ◌∷◌, map, filter, refl, sym, ap, Option, Some, None}
use Rattle.std.proofs.Common.{Bool, true, false, cond, if◌then◌else◌}
use Rattle.std.proofs.lemmas.Bool.Decides.{Decides-eqb}
use Rattle.std.proofs.lemmas.Bool.{or_left}
use Rattle.spec_core.specs.Code.{Relabelling, every_gate, these_gates}
use Rattle.spec_core.proofs.Lists.{filter_none}
use Rattle.rule_model.specs.Actions.{Kind, inside, ends, at_gate, among, renamed}
use Rattle.symbolic_composites.specs.Kinds.{is_alone, is_joint, same_kind}
use Rattle.symbolic_composites.proofs.Tests.{same_kind_so}
use Rattle.node_trees.specs.Shapes.{hidden, relabelled, enabled}
use Rattle.candidate_laws.specs.Sought.{Sought, every_kind, these_kinds, is_one_kind, is_sought, seeks_some, Step, under_one, by_itself, with_another}
use Rattle.candidate_laws.specs.Sought.{as_another, kind_above, changing, is_one_above, becomes_one, sought_below, sought_at, ComesUp}
use Rattle.candidate_laws.specs.ListLaws.{SoughtIsWhatComesUp}

contrary : {A : Type 0} (b : Bool) → b ≡ true → b ≡ false → A
contrary b e f = let n : false ≡ true = sym f ∙ e in absurd cc

pub kinds_same : (j k : Kind) → same_kind j k ≡ true → j ≡ k
kinds_same inside inside e = refl
kinds_same ends ends e = refl
kinds_same (at_gate g) (at_gate h) e = ap at_gate ((Decides-eqb g h).0 e)
kinds_same inside ends e = let n : false ≡ true = e in absurd cc
kinds_same inside (at_gate h) e = let n : false ≡ true = e in absurd cc
kinds_same ends inside e = let n : false ≡ true = e in absurd cc
kinds_same ends (at_gate h) e = let n : false ≡ true = e in absurd cc
kinds_same (at_gate g) inside e = let n : false ≡ true = e in absurd cc
kinds_same (at_gate g) ends e = let n : false ≡ true = e in absurd cc

or_together : (a b c : Bool) → a || (b || c) ≡ (a || b) || c
or_together true b c = refl
or_together false b c = refl

one_of_both : (k : Kind) (js ks : List Kind) → is_one_kind k (js ++ ks) ≡ is_one_kind k js || is_one_kind k ks
one_of_both k [] ks = refl
one_of_both k (j ∷ js) ks =
    ap (λ z. same_kind k j || z) (one_of_both k js ks) ∙ or_together (same_kind k j) (is_one_kind k js) (is_one_kind k ks)

kept : (a b c : Bool) → (a ≡ true → b ≡ true) → a || (b && c) ≡ b && (a || c)
kept true b c h = ap (λ z. z && true) (sym (h refl))
kept false b c h = refl

dropped : (a b c : Bool) → (a ≡ true → b ≡ false) → b && c ≡ b && (a || c)
dropped true b c h = ap (λ z. z && c) (h refl) ∙ ap (λ z. z && true) (sym (h refl))
dropped false b c h = refl

no_other : (b : Bool) → false ≡ b && false
no_other true = refl
no_other false = refl

one_of_those : (p : Kind → Bool) (k : Kind) (ks : List Kind) → is_one_kind k (filter p ks) ≡ p k && is_one_kind k ks
one_of_those p k [] = no_other (p k)
one_of_those p k (j ∷ ks) = by_test (p j) refl (one_of_those p k ks)
  where
    as_first : same_kind k j ≡ true → p k ≡ p j
    as_first e = ap p (kinds_same k j e)

    by_test : (b : Bool) → p j ≡ b → is_one_kind k (filter p ks) ≡ p k && is_one_kind k ks →
        is_one_kind k (cond b (j ∷ filter p ks) (filter p ks)) ≡ p k && (same_kind k j || is_one_kind k ks)
    by_test true f h =
        ap (λ z. same_kind k j || z) h ∙ kept (same_kind k j) (p k) (is_one_kind k ks) (λ e. as_first e ∙ f)
    by_test false f h = h ∙ dropped (same_kind k j) (p k) (is_one_kind k ks) (λ e. as_first e ∙ f)

gate_among : (g : ℕ) (gates : List ℕ) → is_one_kind (at_gate g) (map at_gate gates) ≡ among g gates
gate_among g [] = refl
gate_among g (h ∷ gates) = by_test (g == h) (gate_among g gates)
  where
    by_test : (b : Bool) → is_one_kind (at_gate g) (map at_gate gates) ≡ among g gates →
        b || is_one_kind (at_gate g) (map at_gate gates) ≡ (if b then true else among g gates)
    by_test true e = refl
    by_test false e = e

-- a gate that no pair names stays
unnamed : (g : ℕ) (pairs : List Relabelling) → is_one_kind (at_gate g) (map (λ (m : Relabelling). at_gate m.from) pairs) ≡ false →
    renamed pairs g ≡ g
unnamed g [] e = refl
unnamed g (m ∷ pairs) e = by_test (g == m.from) e (λ f. unnamed g pairs f)
  where
    by_test : (b : Bool) → b || is_one_kind (at_gate g) (map (λ (n : Relabelling). at_gate n.from) pairs) ≡ false →
        (is_one_kind (at_gate g) (map (λ (n : Relabelling). at_gate n.from) pairs) ≡ false → renamed pairs g ≡ g) →
        (if b then m.to else renamed pairs g) ≡ g
    by_test true f rest = let n : true ≡ false = f in absurd cc
    by_test false f rest = rest f

-- what becomes one of these kinds, and isn't one yet, may change
changes : (step : Step) (ks : List Kind) (k : Kind) → becomes_one step ks k ≡ true → is_one_kind k ks ≡ false →
    is_one_kind k (changing step) ≡ true
changes (under_one (hidden gates)) ks inside e f = contrary (is_one_kind inside ks) e f
changes (under_one (hidden gates)) ks ends e f = contrary (is_one_kind ends ks) e f
changes (under_one (hidden gates)) ks (at_gate g) e f = by_test (among g gates) refl e
  where
    by_test : (b : Bool) → among g gates ≡ b → is_one_kind (if b then inside else at_gate g) ks ≡ true →
        is_one_kind (at_gate g) (map at_gate gates) ≡ true
    by_test true h i = gate_among g gates ∙ h
    by_test false h i = contrary (is_one_kind (at_gate g) ks) i f
changes (under_one (relabelled pairs)) ks inside e f = contrary (is_one_kind inside ks) e f
changes (under_one (relabelled pairs)) ks ends e f = contrary (is_one_kind ends ks) e f
changes (under_one (relabelled pairs)) ks (at_gate g) e f = by_test (is_one_kind (at_gate g) (map (λ (m : Relabelling). at_gate m.from) pairs)) refl
  where
    by_test : (b : Bool) → is_one_kind (at_gate g) (map (λ (m : Relabelling). at_gate m.from) pairs) ≡ b → b ≡ true
    by_test true h = refl
    by_test false h =
        contrary (is_one_kind (at_gate g) ks) (ap (λ h. is_one_kind (at_gate h) ks) (sym (unnamed g pairs h)) ∙ e) f
changes (under_one (enabled xs right values)) ks inside e f = contrary (is_one_kind inside ks) e f
changes (under_one (enabled xs right values)) ks ends e f = refl
changes (under_one (enabled xs right values)) ks (at_gate g) e f = contrary (is_one_kind (at_gate g) ks) e f
changes (by_itself gates) ks k e f = by_test (is_alone gates k) e
  where
    by_test : (b : Bool) → is_one_above ks (if b then Some k else None) ≡ true → false ≡ true
    by_test true g = contrary (is_one_kind k ks) g f
    by_test false g = g
changes (with_another gates) ks k e f = by_test (is_joint gates k) e
  where
    by_test : (b : Bool) → is_one_above ks (if b then Some k else None) ≡ true → false ≡ true
    by_test true g = contrary (is_one_kind k ks) g f
    by_test false g = g
changes (as_another j) ks k e f = by_test (same_kind j k) e
  where
    by_test : (b : Bool) → is_one_above ks (if b then Some k else None) ≡ true → false ≡ true
    by_test true g = contrary (is_one_kind k ks) g f
    by_test false g = g

-- the kinds that are sought below are those that become one of these
pub those_below : (step : Step) (ks : List Kind) (k : Kind) → is_sought (sought_below step (these_kinds ks)) k ≡ becomes_one step ks k
those_below step ks k =
    one_of_those (becomes_one step ks) k (ks ++ filter (λ j. not (is_one_kind j ks)) (changing step))
    ∙ ap (λ z. becomes_one step ks k && z) (one_of_both k ks (filter (λ j. not (is_one_kind j ks)) (changing step)))
    ∙ ap (λ z. becomes_one step ks k && (is_one_kind k ks || z)) (one_of_those (λ j. not (is_one_kind j ks)) k (changing step))
    ∙ by_tests (becomes_one step ks k) (is_one_kind k ks) refl refl
  where
    by_tests : (a b : Bool) → becomes_one step ks k ≡ a → is_one_kind k ks ≡ b → a && (b || (not b && is_one_kind k (changing step))) ≡ a
    by_tests true true e f = refl
    by_tests true false e f = changes step ks k e f
    by_tests false b e f = refl

-- what an action becomes above a step is sought there where it is sought below
pub below_is_above : (step : Step) (v : Sought) (k j : Kind) → kind_above step k ≡ Some j →
    is_sought (sought_below step v) k ≡ is_sought v j
below_is_above step (these_kinds ks) k j h = those_below step ks k ∙ ap (is_one_above ks) h
below_is_above (under_one o) every_kind k j h = refl
below_is_above (by_itself every_gate) every_kind inside j h = refl
below_is_above (by_itself every_gate) every_kind ends j h = let no : ⊥ = cc in absurd no
below_is_above (by_itself every_gate) every_kind (at_gate g) j h = let no : ⊥ = cc in absurd no
below_is_above (by_itself (these_gates gates)) every_kind k j h = refl
below_is_above (with_another every_gate) every_kind k j h = refl
below_is_above (with_another (these_gates gates)) every_kind inside j h = let no : ⊥ = cc in absurd no
below_is_above (with_another (these_gates gates)) every_kind ends j h = refl
below_is_above (with_another (these_gates gates)) every_kind (at_gate g) j h = gate_among g gates ∙ by_test (among g gates) h
  where
    by_test : (b : Bool) → (if b then Some (at_gate g) else None) ≡ Some j → b ≡ true
    by_test true e = refl
    by_test false e = let no : ⊥ = cc in absurd no
below_is_above (as_another i) every_kind k j h = by_test (same_kind i k) refl h
  where
    by_test : (b : Bool) → same_kind i k ≡ b → (if b then Some k else None) ≡ Some j → same_kind k i || false ≡ true
    by_test true e f = or_left (same_kind k i) false (same_kind_so k i (sym (kinds_same i k e)))
    by_test false e f = let no : ⊥ = cc in absurd no

-- where nothing is sought, no kind is
pub none_is_sought : (v : Sought) (k : Kind) → seeks_some v ≡ false → is_sought v k ≡ false
none_is_sought every_kind k e = let n : true ≡ false = e in absurd cc
none_is_sought (these_kinds []) k e = refl
none_is_sought (these_kinds (j ∷ ks)) k e = let n : true ≡ false = e in absurd cc

nothing_above : (o : Option Kind) → is_one_above [] o ≡ false
nothing_above None = refl
nothing_above (Some k) = refl

nothing_below : (steps : List Step) → sought_at steps (these_kinds []) ≡ these_kinds []
nothing_below [] = refl
nothing_below (step ∷ steps) =
    ap (sought_below step) (nothing_below steps)
    ∙ ap these_kinds (filter_none (becomes_one step []) (filter (λ k. not (is_one_kind k [])) (changing step)) (λ k. nothing_above (kind_above step k)))

-- beside an action that isn't sought nothing is
pub none_beside : (steps : List Step) (v : Sought) (j : Kind) → is_sought v j ≡ false →
    seeks_some (sought_at steps (sought_below (as_another j) v)) ≡ false
none_beside steps every_kind j e = let n : true ≡ false = e in absurd cc
none_beside steps (these_kinds ks) j e =
    ap (λ z. seeks_some (sought_at steps z)) (ap these_kinds (filter_none (becomes_one (as_another j) ks) (ks ++ []) none))
    ∙ ap seeks_some (nothing_below steps)
  where
    none : (k : Kind) → becomes_one (as_another j) ks k ≡ false
    none k = by_test (same_kind j k) refl
      where
        by_test : (b : Bool) → same_kind j k ≡ b → is_one_above ks (if b then Some k else None) ≡ false
        by_test true f = ap (λ z. is_one_kind z ks) (sym (kinds_same j k f)) ∙ e
        by_test false f = refl

-- what comes up as something that is sought is sought below
comes_down : (steps : List Step) (v : Sought) (k j : Kind) → ComesUp steps k j → is_sought (sought_at steps v) k ≡ is_sought v j
comes_down [] v k j e = ap (is_sought v) e
comes_down (step ∷ steps) v k j h = below_is_above step (sought_at steps v) k h.0 h.1 ∙ comes_down steps v h.0 j h.2

-- of kinds, kinds are sought below steps
these_at : (steps : List Step) (ks : List Kind) → (js : List Kind) × (sought_at steps (these_kinds ks) ≡ these_kinds js)
these_at [] ks = (ks, refl)
these_at (step ∷ steps) ks =
    let r = these_at steps ks in
    (filter (becomes_one step r.0) (r.0 ++ filter (λ k. not (is_one_kind k r.0)) (changing step)), ap (sought_below step) r.1)

-- and what is sought below comes up as one of them
comes_up : (steps : List Step) (ks : List Kind) (k : Kind) → is_sought (sought_at steps (these_kinds ks)) k ≡ true →
    (j : Kind) × ComesUp steps k j × (is_one_kind j ks ≡ true)
comes_up [] ks k e = (k, refl, e)
comes_up (step ∷ steps) ks k e =
    let r = these_at steps ks in
    by_above r.0 (kind_above step k) refl
    (sym (those_below step r.0 k) ∙ ap (λ v. is_sought (sought_below step v) k) (sym r.1) ∙ e)
    (λ i f. comes_up steps ks i (ap (λ v. is_sought v i) r.1 ∙ f))
  where
    by_above : (js : List Kind) (o : Option Kind) → kind_above step k ≡ o → is_one_above js o ≡ true →
        ((i : Kind) → is_one_kind i js ≡ true → (j : Kind) × ComesUp steps i j × (is_one_kind j ks ≡ true)) →
        (j : Kind) × ComesUp (step ∷ steps) k j × (is_one_kind j ks ≡ true)
    by_above js None f g rest = let n : false ≡ true = g in absurd cc
    by_above js (Some i) f g rest = let r = rest i g in (r.0, (i, f, r.1), r.2)

some_kind : (js : List Kind) → seeks_some (these_kinds js) ≡ true → (k : Kind) × (is_one_kind k js ≡ true)
some_kind [] e = let n : false ≡ true = e in absurd cc
some_kind (k ∷ js) e = (k, or_left (same_kind k k) (is_one_kind k js) (same_kind_so k k refl))

pub sought_is_what_comes_up : SoughtIsWhatComesUp
sought_is_what_comes_up steps ks = (up, down)
  where
    up : seeks_some (sought_at steps (these_kinds ks)) ≡ true → (k : Kind) × (j : Kind) × ComesUp steps k j × (is_one_kind j ks ≡ true)
    up e =
        let r = these_at steps ks in
        let s = some_kind r.0 (ap seeks_some (sym r.1) ∙ e) in
        let c = comes_up steps ks s.0 (ap (λ v. is_sought v s.0) r.1 ∙ s.1) in
        (s.0, c.0, c.1, c.2)

    down : (k : Kind) × (j : Kind) × ComesUp steps k j × (is_one_kind j ks ≡ true) → seeks_some (sought_at steps (these_kinds ks)) ≡ true
    down h = by_test (seeks_some (sought_at steps (these_kinds ks))) refl
      where
        by_test : (b : Bool) → seeks_some (sought_at steps (these_kinds ks)) ≡ b → b ≡ true
        by_test true e = refl
        by_test false e =
            contrary (is_sought (sought_at steps (these_kinds ks)) h.0) (comes_down steps (these_kinds ks) h.0 h.1 h.2 ∙ h.3)
            (none_is_sought (sought_at steps (these_kinds ks)) h.0 e)
