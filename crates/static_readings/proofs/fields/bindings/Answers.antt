use Rattle.std.proofs.Common.{subst, sym, ap, map, Some, [], length, arith, ◌∙◌, ◌+◌}
use Rattle.std.specs.Prelude.{option_map}
use Rattle.std.specs.List.{enumerate_from}
use Rattle.std.proofs.lemmas.List.FromFn.{length-enumerate_from}
use Rattle.spec_core.specs.Code.{binding_of}
use Rattle.sort_overloads.specs.Judged.{Adds}
use Rattle.static_readings.specs.Calls.{IsBindingRead}
use Rattle.static_readings.specs.ReadsAll.{ReadsAll}
use Rattle.static_readings.proofs.Together.{begun, next, ended, within_numbered, numbered_at}
use Rattle.static_readings.proofs.fields.bindings.Goals as goal

pub loop-i-init : goal.loop-i-init
loop-i-init c = subst (λ xs. Adds (ReadsAll (IsBindingRead c.args.site.now) [] (Some (map binding_of xs))) c.args.refusals.now.items c.args.refusals.now.items)
    (sym c.new.ensures.items) (begun (IsBindingRead c.args.site.now) c.args.refusals.now.items)

pub loop-i-preserved : goal.loop-i-preserved
loop-i-preserved c = next (IsBindingRead c.args.site.now) binding_of (enumerate_from (length c.args.site.now.context.variables) c.args.from.now) c.loop-i.i
    (c.in_ok-number.number, c.index-from-i.result) (option_map (λ v. v.items) c.loop-i.all) (option_map (λ v. v.items) c.in_ok-all.all) c.in_ok-found.found
    c.args.refusals.now.items c.loop-i.refusals.items c.binding.new.refusals.items
    (within_numbered (length c.args.site.now.context.variables) c.args.from.now c.loop-i.i c.loop-i-test.true)
    (numbered_at (length c.args.site.now.context.variables) c.in_ok-number.number c.args.from.now c.loop-i.i c.index-from-i.result
    (c.in_ok-number.ensures ∙ ap (λ n. n + c.loop-i.i) c.variables-first.ensures.count) c.loop-i-test.true c.index-from-i.is)
    c.loop-i.invariant c.in_ok-found.ensures c.in_ok-all.ensures

pub returns : goal.returns
returns c = ended (IsBindingRead c.args.site.now) (enumerate_from (length c.args.site.now.context.variables) c.args.from.now) c.loop-i.i
    (option_map (map binding_of) (option_map (λ v. v.items) c.loop-i.all)) c.args.refusals.now.items c.loop-i.refusals.items
    (omega (arith, length-enumerate_from (length c.args.site.now.context.variables) c.args.from.now, c.loop-i-test.false)) c.loop-i.invariant
