use Rattle.std.proofs.Common.{◌≡◌, ◌∷◌, [], Some, take, refl, sym, subst, inl, inr}
use Rattle.std.specs.List.{slice_get}
use Rattle.spec_core.specs.Lists.{IsOneOf}
use Rattle.spec_core.specs.Order.{DependsOn, itself, onward}
use Rattle.spec_core.proofs.Members.{one_left, one_slice_get}
use Rattle.path_order.specs.Mentioning.{IsGrown}
use Rattle.path_order.proofs.Depending.{are_dependents, begun, closed_next, taken_whole}
use Rattle.path_order.proofs.dependence.depending_on.Goals as goal

pub loop-place-init : goal.loop-place-init
loop-place-init c =
    let op = c.args.op.0 in
    let keys : c.insert.new.self.keys ≡ op ∷ [] = begun c.new-found.result.keys c.insert.new.self.keys op c.new-found.ensures.empty c.in_ok-insert.ensures.keys in
    record {
      start = subst (IsOneOf op) (sym keys) (inl refl);
      sound = λ theory made g i. elim (subst (IsOneOf g) keys i) [
        | inl e ↦ subst (λ k. DependsOn theory k op) (sym e) (itself op)
        | inr n ↦ absurd n
      ];
      closed = λ g h i. absurd i;
    }

pub returns-in-None : goal.returns-in-None
returns-in-None c =
    let keys = c.loop-place.found.keys in
    let whole : take c.loop-place.place keys ≡ keys = taken_whole keys c.loop-place.place (sym c.in-None.ensures.key) in
    record {
      exact = λ theory made heads. are_dependents theory c.args.mentions.now made c.args.op.0 heads keys c.loop-place.invariant.start
          (λ g h i. c.loop-place.invariant.closed g h (subst (IsOneOf g) (sym whole) i)) (c.loop-place.invariant.sound theory made);
    }

pub loop-place-preserved : goal.loop-place-preserved
loop-place-preserved c =
    let old = c.loop-place.found.keys in
    let new = c.add_row.new.found.keys in
    let next = c.in-Some.next.now in
    let at : slice_get old c.loop-place.place ≡ Some next = sym c.in-Some.ensures.key in
    let grown = c.in_ok-add_row-in-Some.ensures in
    record {
      start = subst (IsOneOf c.args.op.0) (sym grown.grown) (one_left c.args.op.0 old grown.more c.loop-place.invariant.start);
      sound = λ theory made g i. elim (grown.only g i) [
        | inl o ↦ c.loop-place.invariant.sound theory made g o
        | inr r ↦ onward g next c.args.op.0 (made.sound next g (subst (IsOneOf g) c.row.ensures r))
            (c.loop-place.invariant.sound theory made next (one_slice_get old c.loop-place.place next at))
      ];
      closed = closed_next c.args.mentions.now c.loop-place.place next old new at (subst (λ row. IsGrown row old new) c.row.ensures grown) c.loop-place.invariant.closed;
    }
