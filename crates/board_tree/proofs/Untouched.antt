-- What a step leaves alone.
use Rattle.std.proofs.Common.{◌≡◌, List, [], ◌∷◌, sym, subst}
use Rattle.spec_core.specs.Code.{Relabelling}
use Rattle.rule_model.specs.Derivations.{Derivation, chl, chr, parl, parr, both, hiding, pass, enstep, enend, disstep, disend, distake}
use Rattle.rule_model.specs.Derivations.{rel}
use Rattle.node_trees.specs.Constructs.{IsTidy}
use Rattle.node_trees.specs.Shapes.{Held, Shape, leaf, over, between, Unary, hidden, relabelled, enabled, Binary, choosing, beside}
use Rattle.node_trees.specs.Shapes.{disabling, Above, under, first_of, second_of, Stands}
use Rattle.board_tree.specs.Keeping.{IsUnrelabelled, IsUntouched, Leaves}
use Rattle.board_tree.specs.Steps.{Suits}
use Rattle.board_tree.proofs.Going.{NothingStays}

-- what a step reaches is touched
never_here : (d : Derivation) → IsUntouched d [] → ⊥
never_here (parl d) u = u
never_here _ u = absurd u

pub never_in_leaf : (d : Derivation) (k : Held) (s : Shape) → s ≡ leaf k → NothingStays (IsUntouched d) s
never_in_leaf d k s e up n a u = in_leaf up (subst (λ z. Stands z up n) e a) u
  where
    in_leaf : (up : List Above) → Stands (leaf k) up n → IsUntouched d up → ⊥
    in_leaf [] a u = never_here d u
    in_leaf (x ∷ up) a u = absurd a

-- the rules by which all is new

pub never_in_left_choice : (d : Derivation) (s : Shape) → NothingStays (IsUntouched (chl d)) s
never_in_left_choice d s up n a u = u

pub never_in_right_choice : (d : Derivation) (s : Shape) → NothingStays (IsUntouched (chr d)) s
never_in_right_choice d s up n a u = u

pub never_enabled : (d : Derivation) (s : Shape) → NothingStays (IsUntouched (enend d)) s
never_enabled d s up n a u = u

pub never_ended : (d : Derivation) (s : Shape) → NothingStays (IsUntouched (disend d)) s
never_ended d s up n a u = u

pub never_taken : (d : Derivation) (s : Shape) → NothingStays (IsUntouched (distake d)) s
never_taken d s up n a u = u

-- Where something is untouched the rules suit the operator.

suits_over : (o : Unary) (x : Shape) (up : List Above) (d : Derivation) → IsUntouched d (under o ∷ up) → Suits d (over o x)
suits_over (hidden gates) x up (hiding d) u = tt
suits_over (hidden gates) x up (pass d) u = tt
suits_over (enabled xs node values) x up (enstep d) u = tt
suits_over (relabelled pairs) x up (rel d) u = tt
suits_over _ x up _ u = absurd u

suits_first : (o : Binary) (x y : Shape) (up : List Above) (d : Derivation) → IsUntouched d (first_of o ∷ up) → Suits d (between o x y)
suits_first (beside gates) x y up (parl d) u = tt
suits_first (beside gates) x y up (parr d) u = tt
suits_first (beside gates) x y up (both d e) u = tt
suits_first disabling x y up (disstep d) u = tt
suits_first choosing x y up (parl d) u = absurd u
suits_first _ x y up _ u = absurd u

suits_second : (o : Binary) (x y : Shape) (up : List Above) (d : Derivation) → IsUntouched d (second_of o ∷ up) →
    Suits d (between o x y)
suits_second (beside gates) x y up (parl d) u = tt
suits_second (beside gates) x y up (parr d) u = tt
suits_second (beside gates) x y up (both d e) u = tt
suits_second disabling x y up (disstep d) u = tt
suits_second choosing x y up (parl d) u = absurd u
suits_second _ x y up _ u = absurd u

pub never_unsuited : (d : Derivation) (s : Shape) → (Suits d s → ⊥) → NothingStays (IsUntouched d) s
never_unsuited d (leaf k) never [] n a u = never_here d u
never_unsuited d (over o x) never (under p ∷ up) n a u =
    never (suits_over o x up d (subst (λ q. IsUntouched d (under q ∷ up)) (sym a.0) u))
never_unsuited d (between o x y) never (first_of p ∷ up) n a u =
    never (suits_first o x y up d (subst (λ q. IsUntouched d (first_of q ∷ up)) (sym a.0) u))
never_unsuited d (between o x y) never (second_of p ∷ up) n a u =
    never (suits_second o x y up d (subst (λ q. IsUntouched d (second_of q ∷ up)) (sym a.0) u))
never_unsuited d _ never _ n a u = absurd a

-- Relabellings.

-- what stands in a tidy tree stands under no relabelling first
pub tidy_unrelabelled : (z : Shape) (up : List Above) (n : Held) → IsTidy z → Stands z up n → IsUnrelabelled up
tidy_unrelabelled (leaf m) up n t a = absurd t
tidy_unrelabelled (over (relabelled pairs) x) up n t a = absurd t
tidy_unrelabelled (over (hidden gates) x) (under p ∷ up) n t a = subst (λ q. IsUnrelabelled (under q ∷ up)) a.0 tt
tidy_unrelabelled (over (enabled xs node values) x) (under p ∷ up) n t a = subst (λ q. IsUnrelabelled (under q ∷ up)) a.0 tt
tidy_unrelabelled (between o x y) (first_of p ∷ up) n t a = tt
tidy_unrelabelled (between o x y) (second_of p ∷ up) n t a = tt
tidy_unrelabelled _ _ n t a = absurd a

-- in a tree that isn't tidy nothing stays under a relabelling
untidy_touched : (z : Shape) (up : List Above) (n : Held) (d : Derivation) → (IsTidy z → ⊥) → Stands z up n → IsUntouched d up →
    IsUnrelabelled up → ⊥
untidy_touched (leaf m) [] n d t a u i = never_here d u
untidy_touched (over (relabelled pairs) x) (under p ∷ up) n d t a u i = subst (λ q. IsUnrelabelled (under q ∷ up)) (sym a.0) i
untidy_touched (over (hidden gates) x) up n d t a u i = t tt
untidy_touched (over (enabled xs node values) x) up n d t a u i = t tt
untidy_touched (between o x y) up n d t a u i = t tt
untidy_touched _ _ n d t a u i = absurd a

pub never_tidied : (pairs : List Relabelling) (x z s : Shape) (d : Derivation) → s ≡ over (relabelled pairs) x →
    (IsTidy z → ⊥) → Leaves (IsUntouched d) x z → NothingStays (IsUntouched (rel d)) s
never_tidied pairs x z s d e t leaves up n a u = within up (subst (λ v. Stands v up n) e a) u
  where
    within : (up : List Above) → Stands (over (relabelled pairs) x) up n → IsUntouched (rel d) up → ⊥
    within (under p ∷ up) a u =
        let v = subst (λ q. IsUntouched (rel d) (under q ∷ up)) (sym a.0) u in
        untidy_touched z up n d t (leaves up n a.1 v.0) v.0 v.1
    within _ a u = absurd a
