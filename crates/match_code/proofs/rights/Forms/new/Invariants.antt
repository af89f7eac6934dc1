use Rattle.spec_core.specs.Lists.{Each}
use Rattle.spec_core.specs.Theories.{theory_of}
use Rattle.match_code.specs.Rights.{IsRight}
use Rattle.match_code.proofs.rights.Forms.new.Given as goal

abbrev pub invariant-loop-place : goal.invariant-loop-place
invariant-loop-place l = record {
  rights : Each (IsRight (theory_of l.algebra)) l.rights.items;
}
