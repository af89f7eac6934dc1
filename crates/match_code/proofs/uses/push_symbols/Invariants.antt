use Rattle.std.proofs.Common.{List, ◌≡◌, ◌++◌, map, take, reverse}
use Rattle.spec_core.specs.Lists.{Each}
use Rattle.spec_core.specs.Theories.{Theory}
use Rattle.value_nodes.specs.declared.node.Node.{Node}
use Rattle.value_nodes.specs.Nodes.{IsNode}
use Rattle.rewriter.specs.Steps.{bound_at, put_by, task_of, IsStep, IsWithinArity}
use Rattle.match_code.specs.Rights.{task_by, OnVariable, OnOperation}
use Rattle.match_code.proofs.uses.push_symbols.Given as goal

abbrev pub invariant-loop-symbol : goal.invariant-loop-symbol
invariant-loop-symbol l = record {
  planned : (theory : Theory) (rows : List Node) →
      map (task_of theory rows) l.todo ≡
      map (task_by (put_by rows l.bound)) (reverse (take l.symbol-index l.symbols)) ++ map (task_of theory rows) l.fn.todo;
  steps : (theory : Theory) (rows : List Node) → Each (OnVariable (λ x. IsNode rows (bound_at l.bound x))) (take l.symbol-index l.symbols) →
      Each (OnOperation (IsWithinArity theory)) (take l.symbol-index l.symbols) → Each (IsStep theory rows) l.fn.todo → Each (IsStep theory rows) l.todo;
}
