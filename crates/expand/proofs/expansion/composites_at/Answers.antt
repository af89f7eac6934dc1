use Rattle.std.proofs.Common.{rules, ◌≡◌, map, length, sym, ap, ◌∙◌}
use Rattle.std.proofs.lemmas.List.{length-map}
use Rattle.spec_core.specs.Code.{relabelling_of, node_of}
use Rattle.node_values.specs.Scopes.{scope_over}
use Rattle.symbolic_rules.specs.Tables.{windows_in}
use Rattle.match_code.specs.Prepared.{program_in}
use Rattle.expand.proofs.Top.{source_asked, source_expanded, source_stops}
use Rattle.expand.proofs.expansion.composites_at.Goals as goal

pub returns-in-Err : goal.returns-in-Err
returns-in-Err c =
    let long : c.len-calls.result ≡ length c.args.prepared.now.checked.now.code.items = search rules in
    record {
      expansion = tt;
      asked = tt;
      stop =
          source_stops (program_in c.args.prepared.now) c.args.budget (windows_in c.args.windows.now) c.args.values.now
          (map relabelling_of c.args.pairs.now) c.args.node c.len-calls.result c.deref.result.now
          (long ∙ sym (length-map c.args.prepared.now.checked.now.code.items node_of))
          (c.deref.ensures.value ∙ c.in_ok-scope.ensures.known ∙ ap (scope_over c.args.values.now) c.new.ensures.items)
          c.in-Err.stop c.in-Err.ensures.comes;
    }

pub returns-clause-expansion : goal.returns-clause-expansion
returns-clause-expansion c =
    let long : c.len-calls.result ≡ length c.args.prepared.now.checked.now.code.items = search rules in
    source_expanded (program_in c.args.prepared.now) c.args.budget (windows_in c.args.windows.now) c.args.values.now
    (map relabelling_of c.args.pairs.now) c.args.node c.len-calls.result c.deref.result.now
    (long ∙ sym (length-map c.args.prepared.now.checked.now.code.items node_of))
    (c.deref.ensures.value ∙ c.in_ok-scope.ensures.known ∙ ap (scope_over c.args.values.now) c.new.ensures.items)
    c.in-Ok.x c.in-Ok.x.few c.in-Ok.ensures.comes

pub returns-clause-asked : goal.returns-clause-asked
returns-clause-asked c =
    let long : c.len-calls.result ≡ length c.args.prepared.now.checked.now.code.items = search rules in
    source_asked (program_in c.args.prepared.now) c.args.budget (windows_in c.args.windows.now) c.args.values.now
    (map relabelling_of c.args.pairs.now) c.args.node c.len-calls.result c.deref.result.now
    (long ∙ sym (length-map c.args.prepared.now.checked.now.code.items node_of))
    (c.deref.ensures.value ∙ c.in_ok-scope.ensures.known ∙ ap (scope_over c.args.values.now) c.new.ensures.items)
    c.in-Ok.x c.in-Ok.ensures.comes
