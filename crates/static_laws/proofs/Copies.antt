-- Copies of a part at several gates.
use Rattle.std.proofs.Common.{ℕ, zero, suc, ◌≡◌, ◌<◌, ◌+◌, List, [], ◌∷◌, ◌++◌, length, refl, sym, ap, subst, ◌∙◌, arith}
use Rattle.std.proofs.Common.{length-append}
use Rattle.std.specs.Prelude.{pred, Option, Some, None, IfSome}
use Rattle.std.specs.List.{slice_get}
use Rattle.spec_core.specs.Code.{Node, Program, Synchronised, stop, parallel}
use Rattle.spec_core.specs.Functionality.{Functionality, noexit, HasFunctionality, at_node, stop_fits, relabel_fits, parallel_fits}
use Rattle.spec_core.specs.Functionality.{IsGateInScope, AreGatesInScope, SynchronisedFits}
use Rattle.static_readings.specs.Joins.{Read, root}
use Rattle.static_readings.specs.Readings.{relabelled, copy_nodes, copied}
use Rattle.static_laws.specs.Standing.{StandAt}
use Rattle.static_laws.proofs.Codes.{in-front, behind, node-at}
use Rattle.static_laws.proofs.Endings.{both-same}
use Rattle.static_laws.proofs.Standings.{Stands, stands-single}

module _ (program : Program) (processes : ℕ → Functionality) (gates : List ℕ) (vars : ℕ → Option ℕ) (synchronised : Synchronised)
    (fits : SynchronisedFits program gates synchronised) (part g : ℕ) (f : Functionality)
    (whole : HasFunctionality program processes (g ∷ gates) vars part f) where
  copy-fits : (n a : ℕ) → IsGateInScope program gates a → slice_get program.code n ≡ Some (relabelled part g a) →
      HasFunctionality program processes gates vars n f
  copy-fits n a scope at = at_node (relabelled part g a) at (relabel_fits (scope, tt) whole)

  copies-fit : (a : ℕ) (others : List ℕ) → AreGatesInScope program gates (a ∷ others) →
      StandAt program (suc part) (copy_nodes synchronised part g (a ∷ others)) →
      HasFunctionality program processes gates vars (part + length (copy_nodes synchronised part g (a ∷ others))) f
  copies-fit a [] scope h =
      subst (λ n. HasFunctionality program processes gates vars n f) (omega arith)
      (copy-fits (suc part) a scope.0 (node-at (relabelled part g a) [] h))
  copies-fit a (b ∷ others) scope h =
      let rest : List Node = copy_nodes synchronised part g (b ∷ others) in
      let left : ℕ = suc part + length rest in
      let right : ℕ = part + length rest in
      let end : StandAt program left (relabelled part g a ∷ parallel synchronised left right ∷ []) =
      behind rest (relabelled part g a ∷ parallel synchronised left right ∷ []) h in
      let one : HasFunctionality program processes gates vars left f =
      copy-fits left a scope.0 (node-at (relabelled part g a) (parallel synchronised left right ∷ []) end) in
      let more : HasFunctionality program processes gates vars right f =
      copies-fit b others scope.1 (in-front rest (relabelled part g a ∷ parallel synchronised left right ∷ []) h) in
      let last : slice_get program.code (left + 1) ≡ Some (parallel synchronised left right) =
      node-at (parallel synchronised left right) [] (behind (relabelled part g a ∷ []) (parallel synchronised left right ∷ []) end) in
      subst (λ n. HasFunctionality program processes gates vars n f)
      (omega (arith, length-append rest (relabelled part g a ∷ parallel synchronised left right ∷ [])))
      (at_node (parallel synchronised left right) last (parallel_fits f f fits one more (both-same f)))

pub before-pred : (m n : ℕ) → 0 < m → pred (m + n) ≡ pred m + n
before-pred zero n h = absurd (omega arith)
before-pred (suc m) n h =
    let e : suc m + n ≡ suc (m + n) = omega arith in
    ap pred e

pub suc-pred : (m : ℕ) → 0 < m → suc (pred m) ≡ m
suc-pred zero h = absurd (omega arith)
suc-pred (suc m) h = refl

pub stands-copied : (program : Program) (processes : ℕ → Functionality) (gates : List ℕ) (vars : ℕ → Option ℕ) (from g : ℕ)
    (o : Option Synchronised) (among : Option (List ℕ)) (x : Option Read) → IfSome o (SynchronisedFits program gates) →
    IfSome among (AreGatesInScope program gates) → IfSome x (Stands program processes (g ∷ gates) vars from) →
    IfSome (copied from g o among x) (Stands program processes gates vars from)
stands-copied program processes gates vars from g None among x so sa sx = tt
stands-copied program processes gates vars from g (Some synchronised) None x so sa sx = tt
stands-copied program processes gates vars from g (Some synchronised) (Some []) None so sa sx = tt
stands-copied program processes gates vars from g (Some synchronised) (Some (a ∷ others)) None so sa sx = tt
stands-copied program processes gates vars from g (Some synchronised) (Some []) (Some r) so sa sx =
    stands-single program processes gates vars from stop noexit stop_fits
stands-copied program processes gates vars from g (Some synchronised) (Some (a ∷ others)) (Some r) so sa sx =
    let part : ℕ = root from r in
    let some : 0 < from + length r.nodes = omega (arith, sx.filled) in
    let nodes : List Node = copy_nodes synchronised part g (a ∷ others) in
    let e : (from + length r.nodes) + length nodes ≡ from + length (r.nodes ++ nodes) = omega (arith, length-append r.nodes nodes) in
    record {
      filled = omega (arith, sx.filled, length-append r.nodes nodes);
      fits = λ h.
          subst (λ n. HasFunctionality program processes gates vars n r.functionality)
          (sym (before-pred (from + length r.nodes) (length nodes) some) ∙ ap pred e)
          (copies-fit program processes gates vars synchronised so part g r.functionality (sx.fits (in-front r.nodes nodes h)) a others sa
          (subst (λ n. StandAt program n nodes) (sym (suc-pred (from + length r.nodes) some)) (behind r.nodes nodes h)));
    }
