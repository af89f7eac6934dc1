-- What tests say.
use Rattle.std.proofs.Common.{ℕ, ◌≡◌, ◌==◌, not, List, refl, ap, subst, Bool, true, false, if◌then◌else◌}
use Rattle.std.specs.Str.{bytes_eq}
use Rattle.std.proofs.lemmas.Bool.Decides.{Decides-eqb}
use Rattle.std.proofs.lemmas.Slice.Eq.{bytes_eq-Decides}
use Rattle.spec_core.specs.Code.{Synchronised}
use Rattle.rule_model.specs.Actions.{Kind, inside, ends, at_gate, IsAlone, IsJoint, IsUnhidden, IsNoEnd, IsEnd}
use Rattle.symbolic_composites.specs.Kinds.{is_alone, is_joint, is_hidden, is_end, same_kind}

pub if_true : {A : Type 0} (b : Bool) (x y : A) → b ≡ true → (if b then x else y) ≡ x
if_true b x y e = ap (λ z. if z then x else y) e

pub if_false : {A : Type 0} (b : Bool) (x y : A) → b ≡ false → (if b then x else y) ≡ y
if_false b x y e = ap (λ z. if z then x else y) e

pub same_value : (v u : List ℕ) → v ≡ u → bytes_eq v u ≡ true
same_value v u e = (bytes_eq-Decides v u).1 e

pub same_number : (a b : ℕ) → a ≡ b → (a == b) ≡ true
same_number a b e = (Decides-eqb a b).1 e

pub is_alone_so : (gates : Synchronised) (k : Kind) → IsAlone gates k → is_alone gates k ≡ true
is_alone_so gates inside h = refl
is_alone_so gates ends h = absurd h
is_alone_so gates (at_gate g) h = ap not h

pub is_joint_so : (gates : Synchronised) (k : Kind) → IsJoint gates k → is_joint gates k ≡ true
is_joint_so gates inside h = absurd h
is_joint_so gates ends h = refl
is_joint_so gates (at_gate g) h = h

pub is_unhidden_so : (gates : List ℕ) (k : Kind) → IsUnhidden gates k → is_hidden gates k ≡ false
is_unhidden_so gates inside h = refl
is_unhidden_so gates ends h = refl
is_unhidden_so gates (at_gate g) h = h

pub is_end_so : (k : Kind) → IsEnd k → is_end k ≡ true
is_end_so inside h = absurd h
is_end_so ends h = refl
is_end_so (at_gate g) h = absurd h

pub is_no_end_so : (k : Kind) → IsNoEnd k → is_end k ≡ false
is_no_end_so inside h = refl
is_no_end_so ends h = absurd h
is_no_end_so (at_gate g) h = refl

own_kind : (k : Kind) → same_kind k k ≡ true
own_kind inside = refl
own_kind ends = refl
own_kind (at_gate g) = same_number g g refl

pub same_kind_so : (j k : Kind) → j ≡ k → same_kind j k ≡ true
same_kind_so j k e = subst (λ z. same_kind j z ≡ true) e (own_kind j)
