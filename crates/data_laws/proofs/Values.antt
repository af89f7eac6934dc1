-- Each ground term that fits has a value, and equal terms have one.
use Rattle.std.proofs.Common.{ℕ, length}
use Rattle.spec_core.specs.Terms.{TermTree, TermTrees}
use Rattle.spec_core.specs.Theories.{Theory}
use Rattle.spec_core.specs.Equality.{Equal}
use Rattle.spec_core.specs.Executable.{IsExecutable}
use Rattle.data_laws.proofs.Still.{AreStill}
use Rattle.data_laws.proofs.Fit.{IsFit, Fits}
use Rattle.data_laws.proofs.Exists.{Settles, CallSettles, settles, by_operation}
use Rattle.data_laws.proofs.Depth.{all_end}
use Rattle.data_laws.proofs.Conditions.{widest, headed_of, bare_of, sorted_of, owed_of, numbered_of}
use Rattle.data_laws.proofs.Staying.{staying_ends}
use Rattle.data_laws.proofs.Classes.{SameValue, one_class}

module _ (theory : Theory) (ex : IsExecutable theory) where
  pub value_of : (t : TermTree) → Fits theory t → Settles theory t
  value_of t fits = settles theory (widest theory.operations) (owed_of theory ex) ex.orthogonal.closed (sorted_of theory ex)
      (headed_of theory ex) (bare_of theory ex) (staying_ends theory ex)
      (all_end theory (length theory.operations) (numbered_of theory ex)) t fits

  pub call_of : (f : ℕ) (vs : TermTrees) → IsFit theory f vs → AreStill theory vs → CallSettles theory f vs
  call_of f vs fit still = by_operation theory (widest theory.operations) (owed_of theory ex) ex.orthogonal.closed (sorted_of theory ex)
      (headed_of theory ex) (bare_of theory ex) (staying_ends theory ex) f
      (all_end theory (length theory.operations) (numbered_of theory ex) f) vs fit still

  pub class_of : (a b : TermTree) → Equal theory a b → SameValue theory a b
  class_of a b e = one_class theory ex value_of call_of e
