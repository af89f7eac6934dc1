use Rattle.std.proofs.Common.{◌∙◌, ap, cond, false, length, sym}
use Rattle.indexmap.specs.IndexSet.{index_set_len}
use Rattle.rule_model.specs.Events.{OfferName}
use Rattle.trace_text.specs.Pending.{is_among, is_same_offer, without_offer}
use Rattle.trace_text.proofs.OfferSets.{count_without, counted_less, is_without, once_without}
use Rattle.trace_text.proofs.offers.Offers.remove.Goals as goal

pub returns : goal.returns
returns c offers h =
    let name : OfferName = (c.args.client, c.args.number) in
    record {
      has = λ q.
          c.swap_remove.ensures.updates.0 q ∙ ap (cond (is_same_offer name q) false) (h.has q) ∙ sym (is_without q name offers);
      count = counted_less c.swap_remove.result (is_among name offers) (index_set_len c.swap_remove.new.self) (index_set_len c.args.self.now.all)
          (length offers) (length (without_offer name offers)) c.swap_remove.ensures.len (c.swap_remove.ensures.found ∙ h.has name) h.count
          (count_without name offers h.once);
      once = once_without name offers h.once;
    }
