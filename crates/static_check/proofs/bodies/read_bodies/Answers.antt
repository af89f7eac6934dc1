use Rattle.std.proofs.Common.{◌∙◌, ◌≡◌, ◌++◌, ◌∷◌, [], ap, sym, subst, refl, map, Some}
use Rattle.std.specs.Prelude.{option_map}
use Rattle.std.proofs.lemmas.List.{map-append}
use Rattle.sort_overloads.specs.Readings.{Context}
use Rattle.spec_core.specs.Code.{node_of}
use Rattle.static_readings.specs.Views.{output_of}
use Rattle.static_compiler.proofs.Choices.{layers_more}
use Rattle.static_call_cycles.specs.AtOnce.{calls_at_once}
use Rattle.static_processes.specs.Views.{entry_of}
use Rattle.static_check.specs.Bodies as bodies
use Rattle.static_check.specs.Bodies.{body_site, calls_from}
use Rattle.static_check.specs.Steps.{IsBodyRead, AreReadSoFar}
use Rattle.static_check.specs.Views.{setting_of}
use Rattle.static_check.proofs.OneByOne.{none_read, body_next, calls_next}
use Rattle.static_check.proofs.bodies.read_bodies.Goals as goal

pub loop-number-init : goal.loop-number-init
loop-number-init c =
    let all = setting_of c.args.site.now.context c.args.setting.now in
    record {
      read = subst (λ xs. AreReadSoFar all [] (output_of c.args.out.now) (output_of c.args.out.now) (Some (map node_of xs))) (sym c.new.ensures.items)
          (none_read all (output_of c.args.out.now));
      calls = ap (λ xs. map (λ calls. calls.items) xs ++ calls_from all 0 (map entry_of c.args.setting.now.table.now)) c.new-calls.ensures.items;
      site = refl;
    }

pub loop-number-preserved : goal.loop-number-preserved
loop-number-preserved c =
    let all : Context → bodies.Setting = λ d. record { context = d; gates = c.args.setting.now.gates; table = map entry_of c.args.setting.now.table.now } in
    let here = setting_of c.args.site.now.context c.args.setting.now in
    let e = entry_of c.entry-item.result in
    let node = option_map node_of c.in_ok-body.body.node in
    record {
      read = body_next here c.args.setting.now.table.now c.loop-number.number c.entry-item.result (output_of c.args.out.now) (output_of c.loop-number.out)
          (output_of c.read_body.new.out) (option_map (map node_of) (option_map (λ v. v.items) c.loop-number.nodes))
          (option_map (map node_of) (option_map (λ v. v.items) c.in_ok-nodes.nodes)) node c.loop-number-test.true c.entry-item.is c.loop-number.invariant.read
          (subst (λ d. IsBodyRead (all d) c.loop-number.number e (output_of c.loop-number.out) (output_of c.read_body.new.out) node) c.loop-number.invariant.site
          c.in_ok-body.ensures.read)
          (layers_more node_of (option_map (λ v. v.items) c.loop-number.nodes) (option_map (λ v. v.items) c.in_ok-nodes.nodes) c.in_ok-body.body.node c.in_ok-nodes.ensures);
      calls = calls_next here c.args.setting.now.table.now c.loop-number.number c.entry-item.result (map (λ calls. calls.items) c.loop-number.calls.items)
          (map (λ calls. calls.items) c.push.new.self.items) (calls_from here 0 (map entry_of c.args.setting.now.table.now)) c.in_ok-body.body.calls.items
          c.loop-number-test.true c.entry-item.is c.loop-number.invariant.calls
          (subst (λ d. c.in_ok-body.body.calls.items ≡ calls_at_once (body_site (all d) c.loop-number.number e) e.process.body) c.loop-number.invariant.site
          c.in_ok-body.ensures.calls)
          (ap (map (λ calls. calls.items)) c.in_ok-push.ensures.items ∙ map-append (λ calls. calls.items) c.loop-number.calls.items (c.in_ok-body.body.calls ∷ []));
      site = c.in_ok-body.ensures.site ∙ c.loop-number.invariant.site;
    }
