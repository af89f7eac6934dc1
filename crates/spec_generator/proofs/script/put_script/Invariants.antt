use Rattle.std.proofs.Common.{string_bytes}
use Rattle.spec_generator.proofs.Scripts.{ArePut}
use Rattle.spec_generator.proofs.script.put_script.Given as goal

abbrev pub invariant-loop-turn : goal.invariant-loop-turn
invariant-loop-turn l = ArePut l.seed l.size l._turn l.number (string_bytes l.initial.out) (string_bytes l.out)
