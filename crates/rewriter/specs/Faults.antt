-- Causes of want of a value.
use Rattle.rewriter.specs.declared.fault.Eval.{Eval}
use Rattle.rewriter.specs.declared.fault.Eval.TheVariants.{TooLarge, Memory}
use Rattle.value_nodes.specs.declared.fault.NodeFault.{NodeFault}
use Rattle.value_nodes.specs.declared.fault.NodeFault.TheVariants.{TooLarge as LargeNode, Memory as NoMemory}

-- why there is no value, where a node wasn't made
abbrev pub eval_of : NodeFault → Eval
eval_of LargeNode = TooLarge
eval_of NoMemory = Memory
