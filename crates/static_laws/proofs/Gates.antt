-- Gates that are found are in scope.
use Rattle.std.proofs.Common.{ℕ, suc, ◌≡◌, ◌<◌, ◌≤◌, ◌+◌, List, [], ◌∷◌, ◌++◌, length, map, refl, ap, arith}
use Rattle.std.proofs.Common.{length-append, inl, inr}
use Rattle.std.proofs.lemmas.Bool.{cases_lt}
use Rattle.std.proofs.lemmas.List.{length-map}
use Rattle.std.specs.Prelude.{Option, Some, None, IfSome, Bool, true, false, if◌then◌else◌}
use Rattle.std.specs.List.{range_with_len}
use Rattle.lotos_ast.specs.declared.behaviour.Operator.{Operator}
use Rattle.lotos_ast.specs.declared.behaviour.Operator.TheVariants.{Interleave, Synchronise, Shared}
use Rattle.lotos_ast.specs.declared.token.Token.{Token}
use Rattle.spec_core.specs.Code.{Program, these_gates}
use Rattle.spec_core.specs.Functionality.{IsGateInScope, AreGatesInScope, SynchronisedFits}
use Rattle.spec_core.proofs.Members.{one_in_range, one_right, one_left}
use Rattle.sort_overloads.specs.Listed.{is_same_name}
use Rattle.static_readings.specs.Declarations.{gate_numbers}
use Rattle.static_readings.specs.ReadsAll.{before}
use Rattle.static_readings.specs.Readings.{synchronised}
use Rattle.static_readings.specs.Sites.{Site, gate_number, last_named, next_gate, with_gates}
use Rattle.static_laws.proofs.Options.{if-map, each-before}

if-either : {A : Type 0} (P : A → Type 0) (b : Bool) (x : A) (o : Option A) → P x → IfSome o P → IfSome (if b then Some x else o) P
if-either P true x o h g = h
if-either P false x o h g = g

last-named : (P : ℕ → Type 0) (name : List ℕ) (found : Option ℕ) (i : ℕ) (gs : List (List ℕ)) → IfSome found P →
    ((g : ℕ) → i ≤ g → g < i + length gs → P g) → IfSome (last_named name found i gs) P
last-named P name found i [] h all = h
last-named P name found i (g ∷ gs) h all =
    last-named P name (if is_same_name g name then Some i else found) (suc i) gs
    (if-either P (is_same_name g name) i found (all i (omega arith) (omega arith)) h)
    (λ k low high. all k (omega arith) (omega arith))

-- the gates of the site are in scope
abbrev pub GatesAgree : Program → Site → List ℕ → Type 0
GatesAgree program s gates = (g : ℕ) → s.first_gate ≤ g → g < next_gate s → IsGateInScope program gates g

module _ (program : Program) (s : Site) (gates : List ℕ) (agree : GatesAgree program s gates) where
  pub gate-fits : (t : Token) → IfSome (gate_number s t) (IsGateInScope program gates)
  gate-fits t = last-named (IsGateInScope program gates) t.text None s.first_gate s.gates tt agree

  pub gates-fit : (ts : List Token) → IfSome (gate_numbers s ts) (AreGatesInScope program gates)
  gates-fit [] = tt
  gates-fit (t ∷ ts) = each-before (IsGateInScope program gates) (gate_number s t) (gate_numbers s ts) (gate-fits t) (gates-fit ts)

  pub synchronised-fits : (operator : Operator) → IfSome (synchronised s operator) (SynchronisedFits program gates)
  synchronised-fits (Interleave place) = tt
  synchronised-fits (Synchronise place) = tt
  synchronised-fits (Shared place ts) =
      if-map (SynchronisedFits program gates) these_gates (gate_numbers s ts.items) (gates-fit ts.items)

as-many : {A : Type 0} (n : ℕ) (y : Option A) (ys : Option (List A)) → IfSome ys (λ l. length l ≡ n) → IfSome (before y ys) (λ l. length l ≡ suc n)
as-many n None ys h = tt
as-many n (Some y) None h = tt
as-many n (Some y) (Some ys) h = ap suc h

-- there are as many numbers as gates
pub gates-counted : (s : Site) (ts : List Token) → IfSome (gate_numbers s ts) (λ gs. length gs ≡ length ts)
gates-counted s [] = refl
gates-counted s (t ∷ ts) = as-many (length ts) (gate_number s t) (gate_numbers s ts) (gates-counted s ts)

scope-behind : (program : Program) (xs gates : List ℕ) (g : ℕ) → IsGateInScope program gates g → IsGateInScope program (xs ++ gates) g
scope-behind program xs gates g (inl h) = inl h
scope-behind program xs gates g (inr h) = inr (one_right g xs gates h)

-- with further gates, and their numbers
pub more-gates : (program : Program) (s : Site) (gates : List ℕ) (ts : List Token) → GatesAgree program s gates →
    GatesAgree program (with_gates s ts) (range_with_len (next_gate s) (length ts) ++ gates)
more-gates program s gates ts agree g low high =
    elim (cases_lt g (next_gate s)) as (λ h. IsGateInScope program (range_with_len (next_gate s) (length ts) ++ gates) g) [
      | inl l ↦ scope-behind program (range_with_len (next_gate s) (length ts)) gates g (agree g low l)
      | inr l ↦ inr (one_left g (range_with_len (next_gate s) (length ts)) gates
          (one_in_range (length ts) (next_gate s) g l
          (omega (arith, high, length-append s.gates (map (λ t. t.text) ts), length-map ts (λ t. t.text)))))
    ]
