-- What is known of the work of nodes stays so.
use Rattle.std.proofs.Common.{ℕ, ◌≡◌, ◌==◌, ◌⊎◌, inl, inr, List, [], ◌∷◌, refl, subst, Option, Some, None, Bool, true, false}
use Rattle.std.proofs.Common.{if◌then◌else◌}
use Rattle.std.proofs.lemmas.Bool.{eqb-true}
use Rattle.spec_core.specs.Code.{Program}
use Rattle.rule_model.specs.Derivations.{Derivation}
use Rattle.node_trees.specs.declared.origin.Gen.{Gen}
use Rattle.node_trees.specs.Generations.{IsNew}
use Rattle.node_trees.specs.Origins.{Source}
use Rattle.node_trees.specs.Rests.{Work}
use Rattle.node_trees.specs.Shapes.{Held, Shape, leaf, over, between, under, first_of, second_of, Stands, IsNodeOf, AllWait}
use Rattle.node_trees.specs.Shapes.{with_work, posted}
use Rattle.board_tree.specs.Keeping.{IsUntouched}
use Rattle.board_tree.specs.Views.{IsStep}
use Rattle.board_laws.specs.Complete.{EachExpanded, IsComplete, HasItsPlans}
use Rattle.board_laws.specs.FollowedLaws.{StaysSo, CompletenessStays, ExpansionsStay}

module _ (P : Source → Work → Type 0) where
  no_work : {Q : Type 0} (o : Option Work) (x : Work) → o ≡ None → o ≡ Some x → Q
  no_work o x e h = let no : ⊥ = cc in absurd no

  waits : (t : Shape) → AllWait t → EachExpanded P t
  waits t h up n s x e = no_work n.work x (h up n s) e

  -- what holds of the work of a node
  abbrev IsSo : Held → Type 0
  IsSo n = (x : Work) → n.work ≡ Some x → P n.source x

  with_work_so : (g : ℕ) (work : Work) (m : Held) → (m.generation ≡ g → P m.source work) → IsSo m → IsSo (with_work g work m)
  with_work_so g work m new old = by_test (m.generation == g) refl
    where
      by_test : (b : Bool) → m.generation == g ≡ b →
          IsSo (if b then record { generation = m.generation; source = m.source; work = Some work } else m)
      by_test true e x h = let same : work ≡ x = cc in subst (P m.source) same (new (eqb-true m.generation g e))
      by_test false e x h = old x h

  expands : (g : ℕ) (work : Work) (t : Shape) → ((n : Held) → IsNodeOf t g n → P n.source work) → EachExpanded P t →
      EachExpanded P (posted g work t)
  expands g work (leaf m) new old [] n s =
      subst IsSo s (with_work_so g work m (λ e. new m (record { up = []; stands = refl; same = e })) (old [] m refl))
  expands g work (over o x) new old (under p ∷ up) n s =
      expands g work x (λ m i. new m (record { up = under o ∷ i.up; stands = (refl, i.stands); same = i.same }))
      (λ vp m k. old (under o ∷ vp) m (refl, k)) up n s.1
  expands g work (between o x y) new old (first_of p ∷ up) n s =
      expands g work x (λ m i. new m (record { up = first_of o ∷ i.up; stands = (refl, i.stands); same = i.same }))
      (λ vp m k. old (first_of o ∷ vp) m (refl, k)) up n s.1
  expands g work (between o x y) new old (second_of p ∷ up) n s =
      expands g work y (λ m i. new m (record { up = second_of o ∷ i.up; stands = (refl, i.stands); same = i.same }))
      (λ vp m k. old (second_of o ∷ vp) m (refl, k)) up n s.1
  expands g work _ new old _ n s = absurd s

  steps : (program : Program) (old : Shape) (next : ℕ) (d : Derivation) (new : Shape) (later : ℕ) (gone came : List Gen) →
      IsStep program old next d new later gone came → EachExpanded P old → EachExpanded P new
  steps program old next d new later gone came step h up n s x e = by_case (step.keeps up n s)
    where
      by_case : (Stands old up n × IsUntouched d up) ⊎ IsNew next later n → P n.source x
      by_case (inl k) = h up n k.0 x e
      by_case (inr k) = no_work n.work x k.waits e

  stays : StaysSo P
  stays = record { waiting = waits; expanded = expands; stepped = steps }

pub completeness_stays : CompletenessStays
completeness_stays program = stays (IsComplete program)

pub expansions_stay : ExpansionsStay
expansions_stay program w = stays (HasItsPlans program w)
