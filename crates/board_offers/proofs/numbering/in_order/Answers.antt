use Rattle.std.proofs.Common.{rules, ◌≡◌, ◌<◌, ◌++◌, ◌∷◌, [], ◌∙◌, ap, sym, subst, arith, map, length}
use Rattle.std.proofs.lemmas.List.{length-map, map-append}
use Rattle.spec_core.proofs.Lists.{each_push}
use Rattle.log_states.specs.Views.{pending_of}
use Rattle.board_offers.specs.Numbering.{AreNumbers}
use Rattle.board_offers.specs.Offers.{offer_at}
use Rattle.board_offers.proofs.Places.{taken}
use Rattle.board_offers.proofs.numbering.in_order.Goals as goal

pub loop-number-preserved : goal.loop-number-preserved
loop-number-preserved c =
    let ps = map pending_of c.args.all.now in
    let n = c.loop-number.number in
    let below : n < length c.args.all.now = search rules in
    let there : n < length ps = omega (arith, below, length-map c.args.all.now pending_of) in
    let pushed : c.push.new.self.items ≡ c.loop-number.numbers.items ++ n ∷ [] = search rules in
    record {
      order = ap (map (offer_at ps)) pushed ∙ map-append (offer_at ps) c.loop-number.numbers.items (n ∷ [])
          ∙ ap (λ qs. qs ++ offer_at ps n ∷ []) c.loop-number.invariant.order ∙ sym (taken ps n there);
      numbers = subst (AreNumbers (length c.args.all.now)) (sym pushed)
          (each_push (λ m. m < length c.args.all.now) c.loop-number.numbers.items n c.loop-number.invariant.numbers below);
    }
