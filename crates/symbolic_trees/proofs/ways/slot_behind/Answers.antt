use Rattle.std.proofs.Common.{rules, ◌≡◌, ◌∙◌, ◌∷◌, [], ◌++◌, length, refl, ap, reverse}
use Rattle.rule_model.specs.declared.rules.Slot.{Slot}
use Rattle.symbolic_composites.specs.OpenFields.{one_each}
use Rattle.symbolic_trees.proofs.Rounds.{front_round, last_first}
use Rattle.symbolic_trees.proofs.ways.slot_behind.Goals as goal

pub returns-in_ok-push-in-Some-2 : goal.returns-in_ok-push-in-Some-2
returns-in_ok-push-in-Some-2 c = λ choices n round.
    let slot = c.in-Some.slot.now in
    let pushed : c.push-in-Some.new.self.items ≡ c.args.others.items ++ ((slot ∷ []) ∷ []) = search rules in
    front_round (λ (slot : Slot) others. (slot ∷ []) ∷ others) (one_each choices) c.args.first.now n c.args.rounds (length c.args.first.now)
    _ _ slot (reverse c.args.others.items) (reverse c.push-in-Some.new.self.items) round refl refl refl c.in-Some.ensures.slot
    (ap reverse pushed ∙ last_first c.args.others.items (slot ∷ []))
