use Rattle.std.proofs.Common.{◌≡◌, ◌≤◌, ◌+◌, ◌++◌, map, take, reverse}
use Rattle.value_nodes.specs.Nodes.{all_costs}
use Rattle.rewriter.specs.Steps.{bound_at}
use Rattle.match_code.proofs.uses.put_variables.Given as goal

abbrev pub invariant-loop-x : goal.invariant-loop-x
invariant-loop-x l = record {
  put : l.values ≡ reverse (map (bound_at l.bound) (take l.x-index l.first)) ++ l.fn.values;
  counted : l.used ≡ l.uses + all_costs l.nodes (map (bound_at l.bound) (take l.x-index l.first));
  within : l.used ≤ l.budget;
}
