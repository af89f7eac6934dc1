-- The behaviour at a number stands there.
use Rattle.std.proofs.Common.{ℕ, ◌≡◌, ◌<◌, zero, suc, Some, sym, subst, arith}
use Rattle.std.specs.List.{slice_get}
use Rattle.spec_core.specs.Code as code
use Rattle.spec_core.specs.Code.{Program, Node}
use Rattle.spec_core.specs.Lists.{Each}
use Rattle.spec_core.specs.Ready.{IsReady, IsProcess, NamesBehaviour, parts_of}
use Rattle.rule_model.specs.Behaviours.{Behaviour}
use Rattle.rule_model.specs.Code.{StandsAt}
use Rattle.rule_laws.specs.Laws.{CodeIsOneBehaviour}
use Rattle.rule_origins.specs.Laws.{BehavioursStand}
use Rattle.rule_origins.specs.Parts.{over_parts, opened, behaviour_at}

module _ (program : Program) (ready : IsReady program) where
  -- where the behaviours of the parts stand at their numbers, the construct over them stands at its own
  stands_over : (n : ℕ) (part : ℕ → Behaviour) (node : Node) → slice_get program.code n ≡ Some node → (IsProcess node → ⊥) →
      ((i : ℕ) → i < n → NamesBehaviour program i → StandsAt program i (part i)) →
      Each (λ i. i < n) (parts_of node) → Each (NamesBehaviour program) (parts_of node) → StandsAt program n (over_parts part (Some node))
  stands_over n part code.stop e h s b m = e
  stands_over n part (code.exit fields) e h s b m = e
  stands_over n part (code.inner i) e h s b m = (i, e, s i b.0 m.0)
  stands_over n part (code.action g fields guard i) e h s b m = (i, e, s i b.0 m.0)
  stands_over n part (code.choice i j) e h s b m = (i, j, e, s i b.0 m.0, s j b.1.0 m.1.0)
  stands_over n part (code.guarded p i) e h s b m = (i, e, s i b.0 m.0)
  stands_over n part (code.bound bindings i) e h s b m = (i, e, s i b.0 m.0)
  stands_over n part (code.value_choice x i) e h s b m = (i, e, s i b.0 m.0)
  stands_over n part (code.gate_choice g gates i) e h s b m = (i, e, s i b.0 m.0)
  stands_over n part (code.parallel gates i j) e h s b m = (i, j, e, s i b.0 m.0, s j b.1.0 m.1.0)
  stands_over n part (code.hide gates i) e h s b m = (i, e, s i b.0 m.0)
  stands_over n part (code.enable i xs j) e h s b m = (i, j, e, s i b.0 m.0, s j b.1.0 m.1.0)
  stands_over n part (code.disable i j) e h s b m = (i, j, e, s i b.0 m.0, s j b.1.0 m.1.0)
  stands_over n part (code.call p gates terms) e h s b m = e
  stands_over n part (code.relabel pairs i) e h s b m = (i, e, s i b.0 m.0)
  stands_over n part (code.process gates xs i) e h s b m = absurd (h tt)

  stands : (depth n : ℕ) → n < depth → NamesBehaviour program n → StandsAt program n (opened program.code depth n)
  stands zero n l h = absurd (omega (arith, l))
  stands (suc depth) n l h =
      let fit = ready.parts n h.0 h.1 in
      subst (λ o. StandsAt program n (over_parts (opened program.code depth) o)) (sym h.1)
      (stands_over n (opened program.code depth) h.0 h.1 h.2 (λ i b m. stands depth i (omega (arith, b, l)) m) (fit.below h.2) fit.names)

pub behaviours_stand : BehavioursStand
unfolding behaviour_at
behaviours_stand program ready n h = stands program ready (suc n) n (omega arith) h

-- a construct that isn't a process is one of behaviour
pub named_construct : (program : Program) (n : ℕ) (node : Node) → slice_get program.code n ≡ Some node → (IsProcess node → ⊥) →
    NamesBehaviour program n
named_construct program n node e h = (node, e, h)

-- what stands at a number is the behaviour there
pub one_behaviour : CodeIsOneBehaviour → (program : Program) → IsReady program → (n : ℕ) (b : Behaviour) → NamesBehaviour program n →
    StandsAt program n b → b ≡ behaviour_at program n
one_behaviour one program ready n b h k = one program n b (behaviour_at program n) k (behaviours_stand program ready n h)

pub ruleset standing_rows = (one_behaviour, named_construct)
