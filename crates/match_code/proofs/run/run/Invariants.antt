use Rattle.std.proofs.Common.{◌≡◌, length}
use Rattle.spec_core.specs.Terms.{term_of}
use Rattle.spec_core.specs.Theories.{theory_of}
use Rattle.match_code.specs.States.{Stands}
use Rattle.match_code.proofs.run.run.Given as goal

abbrev pub invariant-loop-number : goal.invariant-loop-number
invariant-loop-number l = record {
  room : length l.bound ≡ length l.fn.bound;
  stands : Stands (theory_of l.algebra) (term_of l.term) l.budget l.store l.runs;
}
