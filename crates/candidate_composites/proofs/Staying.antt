-- What stays of a kind that is sought is sought below; and what changes its kind is no longer sought.
use Rattle.std.proofs.Common.{ℕ, ◌≡◌, ◌==◌, ◌++◌, ◌&&◌, ◌||◌, ◌∙◌, not, List, [], ◌∷◌, map, filter, refl, ap, Bool, true, false, cond}
use Rattle.std.proofs.Common.{if◌then◌else◌, Option, Some, None}
use Rattle.std.proofs.lemmas.Bool.Decides.{Decides-eqb}
use Rattle.std.proofs.lemmas.Bool.{or_left}
use Rattle.spec_core.specs.Code.{Variable}
use Rattle.rule_model.specs.Actions.{Kind, inside, ends, at_gate, among}
use Rattle.symbolic_composites.specs.Kinds.{same_kind}
use Rattle.symbolic_composites.proofs.Tests.{same_kind_so}
use Rattle.candidate_laws.specs.Sought.{Sought, every_kind, these_kinds, is_sought, seeks_some, Step, kind_above, is_one_above, becomes_one}
use Rattle.candidate_laws.specs.Sought.{under_one, by_itself, with_another, as_another, changing, is_one_kind, sought_at}
use Rattle.candidate_laws.proofs.Sought.{below_is_above, kinds_same}
use Rattle.node_trees.specs.Shapes.{hidden, relabelled, enabled}
use Rattle.candidate_composites.specs.Staying.{may_become, stays}

parts : (a b : Bool) → a && b ≡ true → (a ≡ true) × (b ≡ true)
parts true b e = (refl, e)
parts false b e = let no : false ≡ true = e in absurd cc

alone : (b : Bool) → b || false ≡ true → b ≡ true
alone true e = refl
alone false e = e

stays_above : (step : Step) (k : Kind) → becomes_one step (k ∷ []) k ≡ true → kind_above step k ≡ Some k
stays_above step k e = by_kind (kind_above step k) e
  where
    by_kind : (o : Option Kind) → is_one_above (k ∷ []) o ≡ true → o ≡ Some k
    by_kind None f = let no : false ≡ true = f in absurd cc
    by_kind (Some j) f = ap (λ i. Some i) (kinds_same j k (alone (same_kind j k) f))

is_sought_below : (steps : List Step) (k : Kind) (v : Sought) → stays steps k ≡ true → is_sought v k ≡ true →
    is_sought (sought_at steps v) k ≡ true
is_sought_below [] k v e h = h
is_sought_below (step ∷ steps) k v e h =
    let p = parts (becomes_one step (k ∷ []) k) (stays steps k) e in
    below_is_above step (sought_at steps v) k k (stays_above step k p.0) ∙ is_sought_below steps k v p.1 h

pub some_is_sought : (v : Sought) (k : Kind) → is_sought v k ≡ true → seeks_some v ≡ true
some_is_sought every_kind k e = refl
some_is_sought (these_kinds []) k e = e
some_is_sought (these_kinds (j ∷ ks)) k e = refl

pub stays_sought : (steps : List Step) (k : Kind) (v : Sought) → stays steps k ≡ true → is_sought v k ≡ true →
    seeks_some (sought_at steps v) ≡ true
stays_sought steps k v e h = some_is_sought (sought_at steps v) k (is_sought_below steps k v e h)

pub stays_first : (steps : List Step) (k : Kind) (ks : List Kind) → stays steps k ≡ true →
    seeks_some (sought_at steps (these_kinds (k ∷ ks))) ≡ true
stays_first steps k ks e =
    stays_sought steps k (these_kinds (k ∷ ks)) e (or_left (same_kind k k) (is_one_kind k ks) (same_kind_so k k refl))

-- what changes its kind

without_last : (p : Kind → Bool) (js ks : List Kind) → filter p ks ≡ [] → filter p (js ++ ks) ≡ filter p js
without_last p [] ks e = e
without_last p (j ∷ js) ks e = ap (λ z. cond (p j) (j ∷ z) z) (without_last p js ks e)

module _ (gates : List ℕ) (ks : List Kind) (none : is_one_kind inside ks ≡ false) where
  abbrev becomes : Kind → Bool
  becomes k = becomes_one (under_one (hidden gates)) ks k

  hidden_not : (g : ℕ) → among g gates ≡ true → becomes (at_gate g) ≡ false
  hidden_not g e = ap (λ b. is_one_kind (if b then inside else at_gate g) ks) e ∙ none

  none_hidden : (p : Kind → Bool) (gs : List ℕ) → ((g : ℕ) → among g gs ≡ true → among g gates ≡ true) →
      filter becomes (filter p (map at_gate gs)) ≡ []
  none_hidden p [] h = refl
  none_hidden p (g ∷ gs) h = by_test (p (at_gate g)) (none_hidden p gs (λ i e. h i (further i (i == g) e)))
    where
      further : (i : ℕ) (b : Bool) → among i gs ≡ true → (if b then true else among i gs) ≡ true
      further i true e = refl
      further i false e = e

      here : among g (g ∷ gs) ≡ true
      here = ap (λ b. if b then true else among g gs) ((Decides-eqb g g).1 refl)

      by_test : (b : Bool) → filter becomes (filter p (map at_gate gs)) ≡ [] →
          filter becomes (cond b (at_gate g ∷ filter p (map at_gate gs)) (filter p (map at_gate gs))) ≡ []
      by_test true e =
          ap (λ b. cond b (at_gate g ∷ filter becomes (filter p (map at_gate gs))) (filter becomes (filter p (map at_gate gs))))
          (hidden_not g (h g here))
          ∙ e
      by_test false e = e

no_end : (xs : List Variable) (right : ℕ) (values : List (ℕ × List ℕ)) (ks : List Kind) (p : Kind → Bool) → is_one_kind inside ks ≡ false →
    filter (becomes_one (under_one (enabled xs right values)) ks) (filter p (ends ∷ [])) ≡ []
no_end xs right values ks p e = by_test (p ends)
  where
    by_test : (b : Bool) → filter (becomes_one (under_one (enabled xs right values)) ks) (cond b (ends ∷ []) []) ≡ []
    by_test true = ap (λ b. cond b (ends ∷ []) []) e
    by_test false = refl

none_changes : (step : Step) (ks : List Kind) (p : Kind → Bool) → may_become step ks ≡ false →
    filter (becomes_one step ks) (filter p (changing step)) ≡ []
none_changes (under_one (hidden gates)) ks p e = none_hidden gates ks e p gates (λ g i. i)
none_changes (under_one (relabelled pairs)) ks p e = let no : true ≡ false = e in absurd cc
none_changes (under_one (enabled xs right values)) ks p e = no_end xs right values ks p e
none_changes (by_itself gates) ks p e = refl
none_changes (with_another gates) ks p e = refl
none_changes (as_another j) ks p e = refl

pub none_becomes : (step : Step) (ks : List Kind) → may_become step ks ≡ false →
    filter (becomes_one step ks) (ks ++ filter (λ k. not (is_one_kind k ks)) (changing step)) ≡ filter (becomes_one step ks) ks
none_becomes step ks e =
    without_last (becomes_one step ks) ks (filter (λ k. not (is_one_kind k ks)) (changing step))
    (none_changes step ks (λ k. not (is_one_kind k ks)) e)
