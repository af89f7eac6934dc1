use Rattle.std.proofs.Common.{◌∙◌, sym, ap, subst}
use Rattle.type_cycles.specs.Ends.{is_marked}
use Rattle.type_cycles.specs.Closed.{Marks}
use Rattle.type_cycles.proofs.Reaching.{no_cycle_closed, closed_next}
use Rattle.type_cycles.proofs.reach.may_reach_on.Goals as goal

pub returns-then-are_none : goal.returns-then-are_none
returns-then-are_none c = λ h. no_cycle_closed c.args.links.now c.args.from c.loop-round.marks.items c.loop-round.waiting.items
    (sym c.deref.ensures.value ∙ c.are_none.ensures c.if-are_none.true) c.loop-round.invariant.closed
    (sym (ap (λ z. is_marked z c.args.from) c.deref-then-are_none.ensures.value) ∙ sym c.is_marked.ensures ∙ h)

pub loop-round-preserved : goal.loop-round-preserved
loop-round-preserved c = record {
  as_many = c.reach_all.ensures.as_many;
  closed = closed_next c.args.links.now c.args.from _ _ _ _ c.loop-round.invariant.closed
      (subst (λ ws. Marks c.args.links.now ws c.loop-round.marks.items c.reach_all.new.marks.items c.in_ok-waiting-2.waiting.items) c.deref-in-loop-round.ensures.value c.in_ok-waiting-2.ensures.marks);
}
