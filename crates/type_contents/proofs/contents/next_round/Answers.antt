use Rattle.std.proofs.Common.{map, Some}
use Rattle.type_contents.specs.Views.{made_at}
use Rattle.std.proofs.Common.{ap, sym, ◌∙◌}
use Rattle.type_contents.proofs.Tables.{grown_more}
use Rattle.type_contents.specs.declared.schedule.Links.{Links}
use Rattle.type_contents.proofs.Made.{made_by_names}
use Rattle.type_contents.proofs.Standings.{linked_at}
use Rattle.type_contents.proofs.Schedules.{round_next, within_behind}
use Rattle.type_contents.proofs.contents.next_round.Goals as goal

pub loop-i-preserved : goal.loop-i-preserved
loop-i-preserved c = record {
  kept = grown_more c.args.table.now c.loop-i.table c.made_from.new.table c.loop-i.invariant.kept c.made_from.ensures.kept;
  within = within_behind c.loop-i.table c.made_from.new.table c.loop-i.next.items c.push.new.self.items (Some c.in_ok-made_from.field-0) c.made_from.ensures.kept c.loop-i.invariant.within c.in_ok-made_from.ensures.within c.in_ok-push.ensures.items;
  contents = round_next c.args.types.now c.args.table.now c.loop-i.table c.made_from.new.table c.args.made.now c.loop-i.next.items c.push.new.self.items c.in_ok-made_from.field-0 c.loop-i.i c.index-types-i.result
      c.loop-i.invariant.kept c.made_from.ensures.kept c.requires.within c.loop-i.invariant.within c.loop-i-test.true c.index-types-i.is c.loop-i.invariant.contents c.in_ok-push.ensures.items
      (c.in_ok-made_from.ensures.content
      ∙ made_by_names c.args.types.now (map (made_at c.loop-i.table) c.args.made.now) c.deref.result.now c.index-types-i.result (c.deref.ensures.value ∙ ap (λ (m : Links). m.numbers.items) (sym c.index-linked-i.is) ∙ linked_at c.args.types.now c.args.linked.now c.loop-i.i c.index-linked-i.result c.index-types-i.result c.requires.linked c.loop-i-test.true c.index-linked-i.is c.index-types-i.is));
}
