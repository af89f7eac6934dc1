use Rattle.std.proofs.Common.{◌≡◌, map}
use Rattle.spec_core.specs.Lists.{OneOf}
use Rattle.spec_core.specs.Order.{PremisesHaveOperation}
use Rattle.spec_core.specs.Theories.{premise_of}
use Rattle.path_order.proofs.Noting.{HasOperationAt, noted_so, noted_next, noted_end, premises_one, one_premises, one_beside, beside_one}
use Rattle.path_order.proofs.mentions.Mentions.note_premises.Goals as goal

pub loop-premise-preserved : goal.loop-premise-preserved
loop-premise-preserved c =
    noted_next (λ p g h. HasOperationAt p g × (h ≡ c.args.head.0)) c.args.premises.now c.loop-premise.premise-index c.premise-item.result
    c.args.self.now c.loop-premise.self c.note_premise.new.self c.loop-premise-test.true c.premise-item.is c.loop-premise.invariant c.in_ok-note_premise.ensures

pub returns : goal.returns
returns c =
    let ps = c.args.premises.now in
    let x = c.args.head.0 in
    noted_so (λ g h. OneOf (λ p. HasOperationAt p g × (h ≡ x)) ps) (λ g h. PremisesHaveOperation g (map premise_of ps) × (h ≡ x))
    c.args.self.now c.loop-premise.self
    (λ g h o. let r = beside_one (λ p. HasOperationAt p g) (h ≡ x) ps o in (one_premises g ps r.0, r.1))
    (λ g h r. one_beside (λ p. HasOperationAt p g) (h ≡ x) ps (premises_one g ps r.0, r.1))
    (noted_end (λ p g h. HasOperationAt p g × (h ≡ x)) ps c.loop-premise.premise-index c.args.self.now c.loop-premise.self c.loop-premise-test.false c.loop-premise.invariant)
