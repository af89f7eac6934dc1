use Rattle.std.proofs.Common.{◌≡◌, option_map}
use Rattle.std.proofs.lemmas.Result.{IfOk-weaker}
use Rattle.rule_model.specs.Derivations.{derivation_of}
use Rattle.decision_order.specs.Numbered.{entry_with, waiting_with}
use Rattle.decision_order.specs.Rules.{next_decided}
use Rattle.decision_order.specs.Searches.{settled_of, waiting_of}
use Rattle.candidates.specs.KnownTrees.{offer_in, numbered, first_in, all_in, first_of_those, all_of_those, trees_for}
use Rattle.candidates.proofs.Numbering.{entry_known}
use Rattle.candidates.proofs.entry.next_entry.Goals as goal

pub returns : goal.returns
returns c =
    let k = c.args.known.now in
    let w = waiting_of c.args.offers.now in
    record {
      next = IfOk-weaker c.settle.result
          (λ s. settled_of derivation_of s ≡ next_decided (λ q. first_of_those k (numbered k q) (trees_for k (numbered k q)))
          (λ q. all_of_those k (numbered k q) (trees_for k (numbered k q))) w)
          (λ s. option_map (entry_with (offer_in k)) (settled_of derivation_of s) ≡
          next_decided (first_in k) (all_in k) (waiting_with (offer_in k) w))
          (λ s e. entry_known k w (settled_of derivation_of s) c.requires.parts e) c.settle.ensures.next;
    }
