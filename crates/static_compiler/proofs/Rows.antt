-- What is put around parts meets the rows of the definition.
use Rattle.std.proofs.Common.{ℕ, ◌≡◌, ◌∙◌, ◌+◌, refl, ap, add-one, List, [], ◌∷◌, ◌++◌, map, Option, Some, None}
use Rattle.std.specs.Prelude.{option_map}
use Rattle.std.specs.List.{range_with_len}
use Rattle.spec_core.specs.Code.{Node, Variable, ActionField, Synchronised}
use Rattle.spec_core.specs.Theories.{Premise}
use Rattle.spec_core.proofs.Lists.{range_suc}
use Rattle.static_readings.specs.Joins.{Read, around, either, both, joined, disagreement}
use Rattle.static_readings.specs.Readings.{acting, under, value_choices, chosen, copied, composed, composed_refusals, enabled, enabled_refusals}
use Rattle.static_compiler.specs.Frames.{under_all, value_layer, framed, layers, layers_if, action_if, copies_if}

pub one_framed : (from : ℕ) (make : ℕ → Node) (x : Option Read) → framed from (layers (make ∷ [])) x ≡ option_map (around from make) x
one_framed from make None = refl
one_framed from make (Some r) = refl

pub under_framed : {B : Type 0} (from : ℕ) (make : B → ℕ → Node) (y : Option B) (x : Option Read)
    → framed from (layers_if (option_map (λ z. make z ∷ []) y)) x ≡ under from make y x
under_framed from make None x = refl
under_framed from make (Some y) None = refl
under_framed from make (Some y) (Some r) = refl

choices_under : (from : ℕ) (xs : List Variable) (r : Read) → under_all from (map value_layer xs) r ≡ value_choices from xs r
choices_under from [] r = refl
choices_under from (x ∷ xs) r = ap (around from (value_layer x)) (choices_under from xs r)

pub values_framed : (from : ℕ) (xs : Option (List Variable)) (x : Option Read)
    → framed from (layers_if (option_map (map value_layer) xs)) x ≡ chosen from xs x
values_framed from None x = refl
values_framed from (Some xs) None = refl
values_framed from (Some xs) (Some r) = ap Some (choices_under from xs r)

pub action_framed : (from : ℕ) (g : Option ℕ) (fields : Option (List (List ActionField))) (guard : Option (Option Premise)) (x : Option Read)
    → framed from (action_if g fields guard) x ≡ acting from g fields guard x
action_framed from None fields guard x = refl
action_framed from (Some g) None guard x = refl
action_framed from (Some g) (Some fields) None x = refl
action_framed from (Some g) (Some fields) (Some guard) None = refl
action_framed from (Some g) (Some fields) (Some guard) (Some r) = refl

pub copies_framed : (from g : ℕ) (gates : Option Synchronised) (among : Option (List ℕ)) (x : Option Read)
    → framed from (copies_if g gates among) x ≡ copied from g gates among x
copies_framed from g None among x = refl
copies_framed from g (Some gates) None x = refl
copies_framed from g (Some gates) (Some among) x = refl

-- one more number of a range

pub range_more : (a n : ℕ) → range_with_len a (n + 1) ≡ range_with_len a n ++ (a + n) ∷ []
range_more a n = ap (range_with_len a) (add-one n) ∙ range_suc a n
