-- The behaviour at a number is the construct there over the behaviours at its parts.
use Rattle.std.proofs.Common.{ℕ, zero, suc, ◌≡◌, ◌<◌, Option, Some, None, refl, ap, ◌∙◌, arith}
use Rattle.std.specs.List.{slice_get}
use Rattle.spec_core.specs.Code as code
use Rattle.spec_core.specs.Code.{Program, Node}
use Rattle.spec_core.specs.Lists.{Each}
use Rattle.spec_core.specs.Ready.{IsReady, IsProcess, parts_of}
use Rattle.spec_core.proofs.Lists.{each_implied}
use Rattle.rule_model.specs.Behaviours.{Behaviour, stop, inner, action, choice, guarded, bound, value_choice, gate_choice, parallel, hide}
use Rattle.rule_model.specs.Behaviours.{enable, disable, relabel}
use Rattle.rule_origins.specs.Laws.{CodeIsOpened}
use Rattle.rule_origins.specs.Parts.{over_parts, opened, behaviour_at}

-- the parts of what stands at a number, if it isn't a process, have this property
abbrev OnParts : (ℕ → Type 0) → Option Node → Type 0
OnParts P None = Unit {0}
OnParts P (Some node) = (IsProcess node → ⊥) → Each P (parts_of node)

-- constructs over the same parts are the same
same_over : (f g : ℕ → Behaviour) (o : Option Node) → OnParts (λ i. f i ≡ g i) o → over_parts f o ≡ over_parts g o
same_over f g None h = refl
same_over f g (Some code.stop) h = refl
same_over f g (Some (code.exit fields)) h = refl
same_over f g (Some (code.inner i)) h = ap inner (h (λ p. p)).0
same_over f g (Some (code.action k fields guard i)) h = ap (action k fields guard) (h (λ p. p)).0
same_over f g (Some (code.choice i j)) h = ap (λ b. choice b (f j)) (h (λ p. p)).0 ∙ ap (choice (g i)) (h (λ p. p)).1.0
same_over f g (Some (code.guarded p i)) h = ap (guarded p) (h (λ p. p)).0
same_over f g (Some (code.bound bindings i)) h = ap (bound bindings) (h (λ p. p)).0
same_over f g (Some (code.value_choice x i)) h = ap (value_choice x) (h (λ p. p)).0
same_over f g (Some (code.gate_choice k gates i)) h = ap (gate_choice k gates) (h (λ p. p)).0
same_over f g (Some (code.parallel gates i j)) h =
    ap (λ b. parallel gates b (f j)) (h (λ p. p)).0 ∙ ap (parallel gates (g i)) (h (λ p. p)).1.0
same_over f g (Some (code.hide gates i)) h = ap (hide gates) (h (λ p. p)).0
same_over f g (Some (code.enable i xs j)) h =
    ap (λ b. enable b xs (f j)) (h (λ p. p)).0 ∙ ap (enable (g i) xs) (h (λ p. p)).1.0
same_over f g (Some (code.disable i j)) h = ap (λ b. disable b (f j)) (h (λ p. p)).0 ∙ ap (disable (g i)) (h (λ p. p)).1.0
same_over f g (Some (code.call p gates terms)) h = refl
same_over f g (Some (code.relabel pairs i)) h = ap (relabel pairs) (h (λ p. p)).0
same_over f g (Some (code.process gates xs i)) h = refl

module _ (program : Program) (ready : IsReady program) where
  -- the parts of a construct of the code have lower numbers
  parts_below : (n : ℕ) (o : Option Node) → slice_get program.code n ≡ o → OnParts (λ i. i < n) o
  parts_below n None e = tt
  parts_below n (Some node) e = (ready.parts n node e).below

  on_parts : (P Q : ℕ → Type 0) (o : Option Node) → ((i : ℕ) → P i → Q i) → OnParts P o → OnParts Q o
  on_parts P Q None f h = tt
  on_parts P Q (Some node) f h = λ k. each_implied P Q (parts_of node) f (h k)

  -- more depth than the number makes no difference
  steady : (k j n : ℕ) → n < k → n < j → opened program.code k n ≡ opened program.code j n
  steady zero j n h i = absurd (omega (arith, h))
  steady (suc k) zero n h i = absurd (omega (arith, i))
  steady (suc k) (suc j) n h i =
      same_over (opened program.code k) (opened program.code j) (slice_get program.code n)
      (on_parts (λ m. m < n) (λ m. opened program.code k m ≡ opened program.code j m) (slice_get program.code n)
      (λ m l. steady k j m (omega (arith, l, h)) (omega (arith, l, i)))
      (parts_below n (slice_get program.code n) refl))

  pub is_opened : (n : ℕ) → behaviour_at program n ≡ over_parts (behaviour_at program) (slice_get program.code n)
  unfolding behaviour_at
  is_opened n =
      same_over (opened program.code n) (behaviour_at program) (slice_get program.code n)
      (on_parts (λ m. m < n) (λ m. opened program.code n m ≡ behaviour_at program m) (slice_get program.code n)
      (λ m l. steady n (suc m) m l (omega arith))
      (parts_below n (slice_get program.code n) refl))

-- what stands at a number that is known
pub opened_at : (program : Program) → IsReady program → (n : ℕ) (o : Option Node) → slice_get program.code n ≡ o →
    behaviour_at program n ≡ over_parts (behaviour_at program) o
opened_at program ready n o e = is_opened program ready n ∙ ap (over_parts (behaviour_at program)) e

pub code_is_opened : CodeIsOpened
code_is_opened program ready n = is_opened program ready n

-- where nothing stands, and where a process stands, there is `stop`
pub none_opened : (program : Program) → IsReady program → (n : ℕ) → slice_get program.code n ≡ None → behaviour_at program n ≡ stop
none_opened program ready n e = opened_at program ready n None e

process_over : (part : ℕ → Behaviour) (node : Node) → IsProcess node → over_parts part (Some node) ≡ stop
process_over part (code.process gates xs i) h = refl
process_over part code.stop h = absurd h
process_over part (code.exit fields) h = absurd h
process_over part (code.inner i) h = absurd h
process_over part (code.action k fields guard i) h = absurd h
process_over part (code.choice i j) h = absurd h
process_over part (code.guarded p i) h = absurd h
process_over part (code.bound bindings i) h = absurd h
process_over part (code.value_choice x i) h = absurd h
process_over part (code.gate_choice k gates i) h = absurd h
process_over part (code.parallel gates i j) h = absurd h
process_over part (code.hide gates i) h = absurd h
process_over part (code.enable i xs j) h = absurd h
process_over part (code.disable i j) h = absurd h
process_over part (code.call p gates terms) h = absurd h
process_over part (code.relabel pairs i) h = absurd h

pub process_opened : (program : Program) → IsReady program → (n : ℕ) (node : Node) → slice_get program.code n ≡ Some node → IsProcess node →
    behaviour_at program n ≡ stop
process_opened program ready n node e h = opened_at program ready n (Some node) e ∙ process_over (behaviour_at program) node h
