-- Nodes found by their generations.
use Rattle.std.proofs.Common.{ℕ, ◌≡◌, ◌==◌, Bool, true, false, if◌then◌else◌, List, [], ◌∷◌, Option, Some, None, refl, sym, ap, ◌∙◌}
use Rattle.std.proofs.lemmas.Bool.{eqb-true, eq-eqb}
use Rattle.node_trees.specs.Shapes.{Held, Shape, leaf, ended, over, between, Above, under, first_of, second_of, Stands, IsNodeOf, Lives}
use Rattle.node_trees.specs.Shapes.{first_found, node_at}

at_leaf : (g : ℕ) (m n : Held) (b : Bool) → m.generation == g ≡ b → (if b then Some m else None) ≡ Some n → IsNodeOf (leaf m) g n
at_leaf g m n true t e =
    let same : m ≡ n = cc in record { up = []; stands = same; same = ap (λ k. k.generation) (sym same) ∙ eqb-true m.generation g t }
at_leaf g m n false t e = let no : ⊥ = cc in absurd no

either_side : (P : Type 0) (a b : Option Held) (n : Held) → (a ≡ Some n → P) → (b ≡ Some n → P) → first_found a b ≡ Some n → P
either_side P None b n f k e = k e
either_side P (Some m) b n f k e = f e

-- what is found is a node of the generation
pub found_is_node : (g : ℕ) (t : Shape) (n : Held) → node_at g t ≡ Some n → IsNodeOf t g n
found_is_node g (leaf m) n e = at_leaf g m n (m.generation == g) refl e
found_is_node g ended n e = let no : ⊥ = cc in absurd no
found_is_node g (over o x) n e =
    let r = found_is_node g x n e in record { up = under o ∷ r.up; stands = (refl, r.stands); same = r.same }
found_is_node g (between o x y) n e =
    either_side (IsNodeOf (between o x y) g n) (node_at g x) (node_at g y) n
    (λ h. let r = found_is_node g x n h in record { up = first_of o ∷ r.up; stands = (refl, r.stands); same = r.same })
    (λ h. let r = found_is_node g y n h in record { up = second_of o ∷ r.up; stands = (refl, r.stands); same = r.same }) e

missed_leaf : (g : ℕ) (m : Held) (b : Bool) → m.generation == g ≡ b → (if b then Some m else None) ≡ None → m.generation ≡ g → ⊥
missed_leaf g m true t e h = cc
missed_leaf g m false t e h = let s = eq-eqb m.generation g h in let no : ⊥ = cc in no

none_first : (a b : Option Held) → first_found a b ≡ None → a ≡ None
none_first None b e = refl
none_first (Some m) b e = let no : ⊥ = cc in absurd no

none_second : (a b : Option Held) → first_found a b ≡ None → b ≡ None
none_second None b e = e
none_second (Some m) b e = let no : ⊥ = cc in absurd no

none_stands : (g : ℕ) (t : Shape) (up : List Above) (n : Held) → node_at g t ≡ None → Stands t up n → n.generation ≡ g → ⊥
none_stands g (leaf m) [] n e s h = missed_leaf g m (m.generation == g) refl e (ap (λ k. k.generation) s ∙ h)
none_stands g (over o x) (under p ∷ up) n e s h = none_stands g x up n e s.1 h
none_stands g (between o x y) (first_of p ∷ up) n e s h = none_stands g x up n (none_first (node_at g x) (node_at g y) e) s.1 h
none_stands g (between o x y) (second_of p ∷ up) n e s h = none_stands g y up n (none_second (node_at g x) (node_at g y) e) s.1 h
none_stands g _ _ n e s h = absurd s

-- where none is found, none lives
pub none_lives : (g : ℕ) (t : Shape) → node_at g t ≡ None → Lives t g → ⊥
none_lives g t e l = none_stands g t l.is.up l.node e l.is.stands l.is.same
