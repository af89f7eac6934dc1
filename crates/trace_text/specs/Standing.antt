-- What a writer of traces keeps of the lines before.
use Rattle.std.specs.Prelude.{◌≡◌, nat_eq, length, List, string_bytes}
use Rattle.indexmap.specs.IndexSet.{contains, index_set_len}
use Rattle.rule_model.specs.Events.{OfferName}
use Rattle.trace_text.specs.declared.format.Format.TheVariants.{Two}
use Rattle.trace_text.specs.declared.lines.LinesBefore.{LinesBefore}
use Rattle.trace_text.specs.declared.offers.Offers.{Offers}
use Rattle.trace_text.specs.Formats.{Before}
use Rattle.trace_text.specs.Pending.{is_same_offer, is_among, IsOnce}

-- the set has just these offers
pub record HasOffers (set : Offers) (offers : List OfferName) : Type 0 where
  pub has : (name : OfferName) → contains is_same_offer set.all name ≡ is_among name offers
  pub count : index_set_len set.all ≡ length offers
  pub once : IsOnce offers

-- the writer stands behind lines of which so much is known; what format 1 doesn't need isn't kept there
pub record StandsBehind (lines : LinesBefore) (before : Before) : Type 0 where
  pub actions : lines.actions ≡ before.actions
  pub tree : lines.format ≡ Two → string_bytes lines.tree ≡ before.tree
  pub offers : lines.format ≡ Two → HasOffers lines.offers before.offers
