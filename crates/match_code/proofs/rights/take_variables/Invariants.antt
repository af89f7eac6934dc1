use Rattle.std.proofs.Common.{ℕ, ◌≡◌, ◌++◌, map}
use Rattle.spec_core.specs.Lists.{Each}
use Rattle.spec_core.specs.Terms.{TermTree, Occurs}
use Rattle.spec_core.specs.Theories.{Theory}
use Rattle.rewriter.specs.Machine.{put}
use Rattle.rewriter.specs.Steps.{IsWithinArity}
use Rattle.match_code.specs.Rights.{task_by, OnVariable, OnOperation}
use Rattle.match_code.proofs.rights.take_variables.Given as goal

abbrev pub invariant-loop-turn : goal.invariant-loop-turn
invariant-loop-turn l = record {
  same : (s : ℕ → TermTree) → map (λ x. put (s x)) l.first.items ++ map (task_by s) l.symbols ≡ map (task_by s) l.fn.symbols;
  there : (u : TermTree) → Each (OnVariable (λ x. Occurs x u)) l.fn.symbols →
      Each (λ x. Occurs x u) l.first.items × Each (OnVariable (λ x. Occurs x u)) l.symbols;
  arities : (theory : Theory) → Each (OnOperation (IsWithinArity theory)) l.fn.symbols → Each (OnOperation (IsWithinArity theory)) l.symbols;
}
