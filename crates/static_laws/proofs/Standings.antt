-- Constructs that stand for what they are read from: what holds of parts gives what holds of the whole.
use Rattle.std.proofs.Common.{ℕ, ◌≡◌, ◌<◌, ◌+◌, List, [], ◌∷◌, ◌++◌, length, refl, sym, subst, arith}
use Rattle.std.proofs.Common.{length-append, append_assoc}
use Rattle.std.specs.Prelude.{pred, Option, Some, None, option_map, IfSome}
use Rattle.std.specs.List.{slice_get}
use Rattle.spec_core.specs.Code.{Node, Variable, Program, value_choice}
use Rattle.spec_core.specs.Functionality.{Functionality, HasFunctionality, NodeFits, at_node, VariableFits, value_choice_fits, with_variable}
use Rattle.spec_core.specs.Functionality as core
use Rattle.spec_core.specs.Lists.{Each}
use Rattle.static_readings.specs.Joins.{Read, root, after, single, around, over, joined}
use Rattle.static_readings.specs.Readings.{under, value_choices}
use Rattle.static_laws.specs.Standing.{StandAt}
use Rattle.static_laws.proofs.Codes.{in-front, behind, last-at}

-- with these gates and variables in scope, wherever the nodes stand in the program, the last of them fits
pub record Stands (program : Program) (processes : ℕ → Functionality) (gates : List ℕ) (vars : ℕ → Option ℕ) (from : ℕ) (r : Read) : Type 0 where
  pub filled : 0 < length r.nodes
  pub fits : StandAt program from r.nodes → HasFunctionality program processes gates vars (root from r) r.functionality

module _ (program : Program) (processes : ℕ → Functionality) (gates : List ℕ) (vars : ℕ → Option ℕ) (from : ℕ) where
  pub stands-single : (n : Node) (f : Functionality) → NodeFits program processes gates vars n f →
      Stands program processes gates vars from (single n f)
  stands-single n f fit = record { filled = omega arith; fits = λ h. at_node n (last-at [] n h) fit }

  pub stands-around : (gates' : List ℕ) (vars' : ℕ → Option ℕ) (make : ℕ → Node) (r : Read) →
      Stands program processes gates' vars' from r →
      (HasFunctionality program processes gates' vars' (root from r) r.functionality →
      NodeFits program processes gates vars (make (root from r)) r.functionality) →
      Stands program processes gates vars from (around from make r)
  stands-around gates' vars' make r st fit = record {
    filled = omega (arith, length-append r.nodes (make (root from r) ∷ []));
    fits = λ h. at_node (make (root from r)) (last-at r.nodes (make (root from r)) h)
        (fit (st.fits (in-front r.nodes (make (root from r) ∷ []) h)));
  }

  pub stands-over : (gates' gates'' : List ℕ) (vars' vars'' : ℕ → Option ℕ) (make : ℕ → ℕ → Node) (x y : Read) (f : Functionality) →
      Stands program processes gates' vars' from x → Stands program processes gates'' vars'' (from + length x.nodes) y →
      (HasFunctionality program processes gates' vars' (root from x) x.functionality →
      HasFunctionality program processes gates'' vars'' (root (from + length x.nodes) y) y.functionality →
      NodeFits program processes gates vars (make (root from x) (root (from + length x.nodes) y)) f) →
      Stands program processes gates vars from (over from make x y f)
  stands-over gates' gates'' vars' vars'' make x y f sx sy fit =
      let n : Node = make (root from x) (root (from + length x.nodes) y) in
      record {
        filled = omega (arith, length-append x.nodes (y.nodes ++ (n ∷ [])), sx.filled);
        fits = λ h. at_node n
            (subst (λ l. slice_get program.code (pred (from + length l)) ≡ Some n) (append_assoc x.nodes y.nodes (n ∷ []))
            (last-at (x.nodes ++ y.nodes) n (subst (StandAt program from) (sym (append_assoc x.nodes y.nodes (n ∷ []))) h)))
            (fit (sx.fits (in-front x.nodes (y.nodes ++ (n ∷ [])) h))
            (sy.fits (in-front y.nodes (n ∷ []) (behind x.nodes (y.nodes ++ (n ∷ [])) h))));
      }

  joined-if : (gates' : List ℕ) (vars' vars'' : ℕ → Option ℕ) (make : ℕ → ℕ → Node) (x y : Read) (o : Option Functionality) →
      Stands program processes gates' vars' from x → Stands program processes gates' vars'' (from + length x.nodes) y →
      ((f : Functionality) → o ≡ Some f →
      HasFunctionality program processes gates' vars' (root from x) x.functionality →
      HasFunctionality program processes gates' vars'' (root (from + length x.nodes) y) y.functionality →
      NodeFits program processes gates vars (make (root from x) (root (from + length x.nodes) y)) f) →
      IfSome (option_map (over from make x y) o) (Stands program processes gates vars from)
  joined-if gates' vars' vars'' make x y None sx sy fit = tt
  joined-if gates' vars' vars'' make x y (Some f) sx sy fit = stands-over gates' gates' vars' vars'' make x y f sx sy (fit f refl)

  pub stands-joined : (vars' : ℕ → Option ℕ) (combine : Functionality → Functionality → Option Functionality) (make : ℕ → ℕ → Node)
      (x y : Option Read) →
      IfSome x (Stands program processes gates vars from) → IfSome y (Stands program processes gates vars' (after from x)) →
      ((f g h : Functionality) (left right : ℕ) → combine f g ≡ Some h → HasFunctionality program processes gates vars left f →
      HasFunctionality program processes gates vars' right g → NodeFits program processes gates vars (make left right) h) →
      IfSome (joined from combine make x y) (Stands program processes gates vars from)
  stands-joined vars' combine make None y sx sy fit = tt
  stands-joined vars' combine make (Some x) None sx sy fit = tt
  stands-joined vars' combine make (Some x) (Some y) sx sy fit =
      joined-if gates vars vars' make x y (combine x.functionality y.functionality) sx sy
      (λ h e. fit x.functionality y.functionality h (root from x) (root (from + length x.nodes) y) e)

  pub stands-under : {B : Type 0} (make : B → ℕ → Node) (o : Option B) (x : Option Read) →
      IfSome o (λ y. IfSome x (λ r. Stands program processes gates vars from (around from (make y) r))) →
      IfSome (under from make o x) (Stands program processes gates vars from)
  stands-under make None x h = tt
  stands-under make (Some y) None h = tt
  stands-under make (Some y) (Some r) h = h

pub stands-choices : (program : Program) (processes : ℕ → Functionality) (gates : List ℕ) (vars : ℕ → Option ℕ) (from : ℕ)
    (xs : List Variable) (r : Read) → Each (VariableFits program.theory) xs →
    Stands program processes gates (core.with_variables xs vars) from r →
    Stands program processes gates vars from (value_choices from xs r)
stands-choices program processes gates vars from [] r fit st = st
stands-choices program processes gates vars from (x ∷ xs) r fit st =
    stands-around program processes gates vars from gates (with_variable x vars) (value_choice x) (value_choices from xs r)
    (stands-choices program processes gates (with_variable x vars) from xs r fit.1 st)
    (λ h. value_choice_fits fit.0 h)
