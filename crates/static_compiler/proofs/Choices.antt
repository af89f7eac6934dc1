-- Choices of gates are opened one after another.
use Rattle.std.proofs.Common.{ℕ, ◌≡◌, ◌∙◌, ◌<◌, ◌≤◌, ◌+◌, refl, sym, ap, subst, List, [], ◌∷◌, ◌++◌, length, get_or, take, drop, map, append_assoc, append-nil, Option, Some, None}
use Rattle.std.specs.Prelude.{option_map}
use Rattle.std.proofs.lemmas.List.{map-append, drop_all, take_all}
use Rattle.lotos_ast.specs.declared.behaviour.GateChoice.{GateChoice}
use Rattle.lotos_ast.specs.declared.refusal.Refusal.{Refusal}
use Rattle.static_constructs.specs.Constructs.{Construct}
use Rattle.spec_core.specs.Code.{Node}
use Rattle.spec_core.proofs.Lists.{take_next}
use Rattle.sort_overloads.specs.Judged.{Adds}
use Rattle.sort_overloads.proofs.Loops.{dropped-next}
use Rattle.static_readings.specs.Declarations.{unknown_gates, gate_numbers}
use Rattle.static_readings.specs.Joins.{Read, around}
use Rattle.static_readings.specs.ReadsAll.{all_before}
use Rattle.static_readings.specs.Readings.{under, AreGatesChosen, one_more}
use Rattle.static_readings.specs.Sites.{Site, next_gate, with_gates}
use Rattle.static_readings.proofs.Scopes.{gates_joined}
use Rattle.static_readings.proofs.Together.{alone}
use Rattle.static_compiler.specs.Frames.{Frame, under_all, gate_layer, layers_if, framed}
use Rattle.static_compiler.specs.Parts.{OpensChoices}

-- one node more, innermost

pub under_inner : (from : ℕ) (makes : List (ℕ → Node)) (make : ℕ → Node) (r : Read) → under_all from (makes ++ make ∷ []) r ≡ under_all from makes (around from make r)
under_inner from [] make r = refl
under_inner from (m ∷ makes) make r = ap (around from m) (under_inner from makes make r)

framed_inner : {B : Type 0} (from : ℕ) (all : Option (List (ℕ → Node))) (make : B → ℕ → Node) (y : Option B) (x : Option Read)
    → framed from (layers_if (all_before all (alone (option_map make y)))) x ≡ framed from (layers_if all) (under from make y x)
framed_inner from None make y x = refl
framed_inner from (Some makes) make None x = refl
framed_inner from (Some makes) make (Some y) None = refl
framed_inner from (Some makes) make (Some y) (Some r) = ap Some (under_inner from makes (make y) r)

none_around : (from : ℕ) (x : Option Read) → framed from (layers_if (Some [])) x ≡ x
none_around from None = refl
none_around from (Some r) = refl

pub none_opened : (s : Site) (cs : List GateChoice) (old : List Refusal) → Adds (OpensChoices s cs s cs (layers_if (Some []))) old old
none_opened s cs old = record {
  refusals = [];
  such = λ part from x rs p. subst (λ z. AreGatesChosen s from cs part z rs) (sym (none_around from x)) p;
  behind = sym (append-nil old);
}

pub one_opened : (s : Site) (cs : List GateChoice) (now then : Site) (i : ℕ) (c : GateChoice) (all more : Option (List (ℕ → Node))) (layer : Option (ℕ → Node)) (old mid new : List Refusal)
    → i < length cs → c ≡ get_or cs i c → Adds (OpensChoices s cs now (drop i cs) (layers_if all)) old mid
    → layer ≡ option_map (gate_layer (next_gate now)) (gate_numbers now c.gates.gates.items)
    → then ≡ with_gates now (c.gate ∷ []) → new ≡ mid ++ unknown_gates now c.gates.gates.items → more ≡ all_before all (alone layer)
    → Adds (OpensChoices s cs then (drop (i + 1) cs) (layers_if more)) old new
one_opened s cs now then i c all more layer old mid new within at h made put added is =
    let rest = drop (i + 1) cs in
    let numbers = gate_numbers now c.gates.gates.items in
    let unknown = unknown_gates now c.gates.gates.items in
    let make = gate_layer (next_gate now) in
    record {
      refusals = h.refusals ++ unknown;
      such = λ part from x rs p.
          subst (λ z. AreGatesChosen s from cs part z ((h.refusals ++ unknown) ++ rs))
          (sym (ap (λ z. framed from (layers_if z) x) (is ∙ ap (λ z. all_before all (alone z)) made) ∙ framed_inner from all make numbers x))
          (subst (λ z. AreGatesChosen s from cs part (framed from (layers_if all) (under from make numbers x)) z) (sym (append_assoc h.refusals unknown rs))
          (h.such part from (under from make numbers x) (unknown ++ rs)
          (subst (λ z. AreGatesChosen now from z part (under from make numbers x) (unknown ++ rs)) (sym (dropped-next cs i c within at))
          (one_more c rest part x rs (subst (λ z. AreGatesChosen z from rest part x rs) put p)))));
      behind = added ∙ ap (λ z. z ++ unknown) h.behind ∙ append_assoc old h.refusals unknown;
    }

-- the same of the values of the program
mapped : {A B : Type 0} (f : A → B) (all : Option (List A)) (one : Option A)
    → option_map (map f) (all_before all (alone one)) ≡ all_before (option_map (map f) all) (alone (option_map f one))
mapped f None one = refl
mapped f (Some xs) None = refl
mapped f (Some xs) (Some x) = ap Some (map-append f xs (x ∷ []))

pub layers_more : {A B : Type 0} (f : A → B) (all more : Option (List A)) (one : Option A) → more ≡ all_before all (alone one)
    → option_map (map f) more ≡ all_before (option_map (map f) all) (alone (option_map f one))
layers_more f all more one is = ap (option_map (map f)) is ∙ mapped f all one

pub all_opened : (s : Site) (cs : List GateChoice) (now : Site) (i : ℕ) (f : Frame) (old new : List Refusal) → length cs ≤ i
    → Adds (OpensChoices s cs now (drop i cs) f) old new → Adds (OpensChoices s cs now [] f) old new
all_opened s cs now i f old new past h = subst (λ z. Adds (OpensChoices s cs now z f) old new) (drop_all i cs past) h

-- the gates that are put into scope

pub gate_put : (s now then : Site) (cs : List GateChoice) (i : ℕ) (c : GateChoice) → i < length cs → c ≡ get_or cs i c
    → now ≡ with_gates s (map (λ c. c.gate) (take i cs)) → then ≡ with_gates now (c.gate ∷ []) → then ≡ with_gates s (map (λ c. c.gate) (take (i + 1) cs))
gate_put s now then cs i c within at before more =
    more ∙ ap (λ z. with_gates z (c.gate ∷ [])) before ∙ gates_joined s (map (λ c. c.gate) (take i cs)) (c.gate ∷ [])
    ∙ ap (with_gates s) (sym (map-append (λ c. c.gate) (take i cs) (c ∷ [])))
    ∙ ap (λ ds. with_gates s (map (λ c. c.gate) ds)) (sym (take_next cs i c within at))

pub gates_put : (s now : Site) (cs : List GateChoice) (i : ℕ) → length cs ≤ i → now ≡ with_gates s (map (λ c. c.gate) (take i cs))
    → now ≡ with_gates s (map (λ c. c.gate) cs)
gates_put s now cs i past h = h ∙ ap (λ ds. with_gates s (map (λ c. c.gate) ds)) (take_all i cs past)
