use Rattle.std.proofs.Common.{rules}
use Rattle.spec_core.specs.Code.{program_of}
use Rattle.symbolic_rules.specs.Tables.{windows_in}
use Rattle.node_trees.specs.Shapes.{shape_of}
use Rattle.offer_index.proofs.Whole.{is_index, is_empty_index}
use Rattle.offer_index.proofs.index.OfferIndex.new.Goals as goal

pub returns-then-total-gt-OFFERS_LIMIT : goal.returns-then-total-gt-OFFERS_LIMIT
returns-then-total-gt-OFFERS_LIMIT c = record {
  index = is_empty_index (program_of c.args.checked.now) (windows_in c.args.windows.now) (shape_of c.args.tree.now)
      c.count_offers-total.result c.new.result.items c.new.ensures.items c.count_offers-total.ensures.counted (search rules);
}

pub returns : goal.returns
returns c = record {
  index = is_index (program_of c.args.checked.now) (windows_in c.args.windows.now) (shape_of c.args.tree.now)
      c.count_offers-total.result c.in_ok-composites.composites.items c.in_ok-composites.ensures.expanded
      c.count_offers-total.ensures.counted (search rules);
}
