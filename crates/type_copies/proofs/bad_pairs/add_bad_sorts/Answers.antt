use Rattle.std.proofs.Common.{◌∙◌, ap, map, take, ◌++◌}
use Rattle.type_contents.specs.Images.{new_sort}
use Rattle.type_contents.specs.Views.{new_sort_of}
use Rattle.type_names.proofs.Gathered.{each_after_more}
use Rattle.type_copies.specs.BadRenamings.{bad_pair, bad_sort_pair, is_bad_sort}
use Rattle.type_copies.specs.Views.{copy_view}
use Rattle.type_copies.proofs.Pairs.{views_next}
use Rattle.type_copies.proofs.bad_pairs.add_bad_sorts.Goals as goal

pub loop-pair-preserved : goal.loop-pair-preserved
loop-pair-preserved c = record {
  before = views_next new_sort_of new_sort _ _ c.in_ok-new.new c.args.pairs.now c.loop-pair.pair-index c.pair-item.result c.loop-pair-test.true c.pair-item.is c.loop-pair.invariant.before c.in_ok-push.ensures.items c.in_ok-new.ensures;
  refused = each_after_more (bad_sort_pair (copy_view c.args.copy.now)) _ _ _ c.args.pairs.now c.loop-pair.pair-index c.pair-item.result c.loop-pair-test.true c.pair-item.is c.loop-pair.invariant.refused
      (c.in_ok-add_if_bad.ensures ∙ ap (λ b. c.loop-pair.refusals.items ++ bad_pair b c.pair-item.result.place)
      (c.is_bad_sort.ensures ∙ ap (λ zs. is_bad_sort (copy_view c.args.copy.now) (map new_sort_of zs) (new_sort_of c.in_ok-new.new)) c.deref.ensures.value
      ∙ ap (λ zs. is_bad_sort (copy_view c.args.copy.now) zs (new_sort_of c.in_ok-new.new)) c.loop-pair.invariant.before
      ∙ ap (is_bad_sort (copy_view c.args.copy.now) (map new_sort (take c.loop-pair.pair-index c.args.pairs.now))) c.in_ok-new.ensures));
}
