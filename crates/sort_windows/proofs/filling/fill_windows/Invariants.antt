use Rattle.std.proofs.Common.{ℕ, ◌≡◌, ◌<◌, IsFalse, Some, [], ◌∷◌}
use Rattle.std.specs.List.{slice_get}
use Rattle.spec_core.specs.Constructors.{IsConstructor}
use Rattle.spec_core.specs.Theories.{Operation, theory_of}
use Rattle.sort_windows.specs.Found.{IsClosedFrom, AreWindows, windows_of}
use Rattle.sort_windows.proofs.filling.fill_windows.Given as goal

abbrev pub invariant-loop-i : goal.invariant-loop-i
invariant-loop-i l = record {
  windows : AreWindows (theory_of l.algebra) l.limit (windows_of l.windows.items);
  closed :
      IsFalse l.grown →
      (f : ℕ) →
      f < l.i →
      IsConstructor (theory_of l.algebra) f →
      (d : Operation) →
      slice_get (theory_of l.algebra).operations f ≡ Some d →
      IsClosedFrom l.limit (windows_of l.windows.items) d.result d.args (f ∷ []);
}
