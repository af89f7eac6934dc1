use Rattle.std.proofs.Common.{map, refl}
use Rattle.std.proofs.lemmas.Result.{on_ok_weaker}
use Rattle.rule_model.specs.WishViews.{wish_of}
use Rattle.board_laws.proofs.Splitting.{mapped, others}
use Rattle.client_runs.proofs.Running.{all_offered}
use Rattle.client_runs.proofs.run.+offer_all.Goals as goal

pub returns-in_ok-offer_next-in-len1-up-clause-offered : goal.returns-in_ok-offer_next-in-len1-up-clause-offered
returns-in_ok-offer_next-in-len1-up-clause-offered t c =
    let wishes = c.args.wishes.now in
    on_ok_weaker c.offer_all.result
    (all_offered c.args.board.now c.offer_all.new.board (map wish_of wishes) (wish_of c.wish-item.result) (map wish_of (others wishes))
    (mapped wish_of wishes c.wish-item.result c.wish-item.result c.in-len1-up.len_at_least c.wish-item.is refl)
    c.offer_next.new.board c.in_ok-offer_next-in-len1-up.ensures.offered)
    c.offer_all.ensures.offered
