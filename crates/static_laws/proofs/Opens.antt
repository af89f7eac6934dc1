-- What the nodes of a construct call at once.
use Rattle.std.proofs.Common.{ℕ, ◌≡◌, ◌<◌, ◌+◌, List, [], ◌∷◌, ◌++◌, length, sym, subst, ◌∙◌, arith}
use Rattle.std.proofs.Common.{length-append, append_assoc, inl, inr}
use Rattle.std.specs.Prelude.{pred, ◌⊎◌, Some}
use Rattle.std.specs.List.{slice_get}
use Rattle.std.proofs.lemmas.Option.{same_Some}
use Rattle.spec_core.specs.Code.{Node, Program}
use Rattle.spec_core.specs.Functionality.{Functionality}
use Rattle.spec_core.specs.Lists.{IsOneOf}
use Rattle.spec_core.specs.Ready.{CallsAtOnce, here, within, IsCallOf, open_parts}
use Rattle.static_readings.specs.Joins.{Read, root, single, around, over}
use Rattle.static_laws.specs.Standing.{StandAt}
use Rattle.static_laws.proofs.Codes.{in-front, behind, last-at}

-- a node that calls the process at once is a call of it, or has an open part that does
abbrev pub Begins : Program → ℕ → Node → Type 0
Begins program p node = IsCallOf p node ⊎ ((inside : ℕ) × IsOneOf inside (open_parts node) × CallsAtOnce program p inside)

module _ (program : Program) (p : ℕ) where
  pub begins : (node : Node) (part : ℕ) → slice_get program.code part ≡ Some node → CallsAtOnce program p part → Begins program p node
  begins node part e (here other f h) = subst (Begins program p) (sym (same_Some node other (sym e ∙ f))) (inl h)
  begins node part e (within other inside f one h) = subst (Begins program p) (sym (same_Some node other (sym e ∙ f))) (inr (inside, one, h))

  pub none-open : (node : Node) → (IsCallOf p node → ⊥) → open_parts node ≡ [] → Begins program p node → ⊥
  none-open node no-call e (inl h) = no-call h
  none-open node no-call e (inr h) = subst (IsOneOf h.0) e h.1

  is-only : (inside part : ℕ) → IsOneOf inside (part ∷ []) → CallsAtOnce program p inside → CallsAtOnce program p part
  is-only inside part (inl e) h = subst (CallsAtOnce program p) e h
  is-only inside part (inr e) h = absurd e

  is-either : (inside left right : ℕ) → IsOneOf inside (left ∷ right ∷ []) → CallsAtOnce program p inside →
      CallsAtOnce program p left ⊎ CallsAtOnce program p right
  is-either inside left right (inl e) h = inl (subst (CallsAtOnce program p) e h)
  is-either inside left right (inr e) h = inr (is-only inside right e h)

  pub one-open : (node : Node) (part : ℕ) → (IsCallOf p node → ⊥) → open_parts node ≡ part ∷ [] → Begins program p node →
      CallsAtOnce program p part
  one-open node part no-call e (inl h) = absurd (no-call h)
  one-open node part no-call e (inr h) = is-only h.0 part (subst (IsOneOf h.0) e h.1) h.2

  pub two-open : (node : Node) (left right : ℕ) → (IsCallOf p node → ⊥) → open_parts node ≡ left ∷ right ∷ [] → Begins program p node →
      CallsAtOnce program p left ⊎ CallsAtOnce program p right
  two-open node left right no-call e (inl h) = absurd (no-call h)
  two-open node left right no-call e (inr h) = is-either h.0 left right (subst (IsOneOf h.0) e h.1) h.2

  -- what calls the process at once wherever the nodes stand in the program; these processes are called at once, and no others
  pub record CallsOf (from : ℕ) (r : Read) (called : List ℕ) : Type 0 where
    pub filled : 0 < length r.nodes
    pub at_once : StandAt program from r.nodes → CallsAtOnce program p (root from r) → IsOneOf p called

  pub calls-single : (from : ℕ) (n : Node) (f : Functionality) (called : List ℕ) → (Begins program p n → IsOneOf p called) →
      CallsOf from (single n f) called
  calls-single from n f called h = record {
    filled = omega arith;
    at_once = λ at c. h (begins n (root from (single n f)) (last-at [] n at) c);
  }

  pub calls-around : (from : ℕ) (make : ℕ → Node) (r : Read) (called : List ℕ) →
      (StandAt program from r.nodes → Begins program p (make (root from r)) → IsOneOf p called) → CallsOf from (around from make r) called
  calls-around from make r called h =
      let n : Node = make (root from r) in
      record {
        filled = omega (arith, length-append r.nodes (n ∷ []));
        at_once = λ at c. h (in-front r.nodes (n ∷ []) at) (begins n (root from (around from make r)) (last-at r.nodes n at) c);
      }

  pub calls-over : (from : ℕ) (make : ℕ → ℕ → Node) (x y : Read) (f : Functionality) (called : List ℕ) →
      (StandAt program from x.nodes → StandAt program (from + length x.nodes) y.nodes →
      Begins program p (make (root from x) (root (from + length x.nodes) y)) → IsOneOf p called) →
      CallsOf from (over from make x y f) called
  calls-over from make x y f called h =
      let n : Node = make (root from x) (root (from + length x.nodes) y) in
      record {
        filled = omega (arith, length-append x.nodes (y.nodes ++ (n ∷ [])), length-append y.nodes (n ∷ []));
        at_once = λ at c. h (in-front x.nodes (y.nodes ++ (n ∷ [])) at)
            (in-front y.nodes (n ∷ []) (behind x.nodes (y.nodes ++ (n ∷ [])) at))
            (begins n (root from (over from make x y f))
            (subst (λ l. slice_get program.code (pred (from + length l)) ≡ Some n) (append_assoc x.nodes y.nodes (n ∷ []))
            (last-at (x.nodes ++ y.nodes) n (subst (StandAt program from) (sym (append_assoc x.nodes y.nodes (n ∷ []))) at))) c);
      }
