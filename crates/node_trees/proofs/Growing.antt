-- Generations of new nodes under operators.
use Rattle.std.proofs.Common.{ℕ, ◌≡◌, ◌≤◌, ◌+◌, List, [], ◌∷◌, None, refl, sym, ap, subst, ◌∙◌, arith}
use Rattle.node_trees.specs.Generations.{AreApart, IsNew, IsFresh}
use Rattle.node_trees.specs.Shapes.{Held, Shape, leaf, ended, over, between, Unary, Binary, Above, under, first_of, second_of, Stands}

-- new nodes are new in a longer range
pub new_within : (low high lower higher : ℕ) (n : Held) → lower ≤ low → high ≤ higher → IsNew low high n → IsNew lower higher n
new_within low high lower higher n l h e = record {
  from = let f = e.from in omega (arith, f, l);
  below = let b = e.below in omega (arith, b, h);
  waits = e.waits;
}

-- Trees of new nodes.

pub fresh_ended : (low : ℕ) → IsFresh low low ended
fresh_ended low = record {
  more = omega arith;
  apart = λ up vp m n a b e. absurd a;
  new = λ up n a. absurd a;
}

leaf_apart : (k : Held) → AreApart (leaf k)
leaf_apart k [] [] m n a b e = (refl, sym a ∙ b)
leaf_apart k [] (x ∷ vp) m n a b e = absurd b
leaf_apart k (x ∷ up) vp m n a b e = absurd a

pub fresh_leaf : (low : ℕ) (k : Held) → k.generation ≡ low → k.work ≡ None → IsFresh low (low + 1) (leaf k)
fresh_leaf low k g w = record {
  more = omega arith;
  apart = leaf_apart k;
  new = new;
}
  where
    new : (up : List Above) (n : Held) → Stands (leaf k) up n → IsNew low (low + 1) n
    new [] n a = subst (IsNew low (low + 1)) a (record { from = omega (arith, g); below = omega (arith, g); waits = w })
    new (x ∷ up) n a = absurd a

pub fresh_later : (low mid high : ℕ) (t : Shape) → low ≤ mid → IsFresh mid high t → IsFresh low high t
fresh_later low mid high t l f = record {
  more = let m = f.more in omega (arith, m, l);
  apart = f.apart;
  new = λ up n a. new_within mid high low high n l (omega arith) (f.new up n a);
}

-- what is new after other new nodes is new
pub fresh_after : (low mid high : ℕ) (t u : Shape) → IsFresh low mid u → IsFresh mid high t → IsFresh low high t
fresh_after low mid high t u g f = fresh_later low mid high t g.more f

pub over_apart : (o : Unary) (x : Shape) → AreApart x → AreApart (over o x)
over_apart o x h (under p ∷ up) (under q ∷ vp) m n a b e = let r = h up vp m n a.1 b.1 e in (over_same p q up vp (sym a.0 ∙ b.0) r.0, r.1)
  where
    over_same : (p q : Unary) (up vp : List Above) → p ≡ q → up ≡ vp → under p ∷ up ≡ under q ∷ vp
    over_same p q up vp e f = ap (λ u. under u ∷ up) e ∙ ap (λ l. under q ∷ l) f
over_apart o x h (under p ∷ up) _ m n a b e = absurd b
over_apart o x h _ _ m n a b e = absurd a

pub fresh_over : (low high : ℕ) (o : Unary) (x t : Shape) → t ≡ over o x → IsFresh low high x → IsFresh low high t
fresh_over low high o x t i f = subst (IsFresh low high) (sym i) (record {
  more = f.more;
  apart = over_apart o x f.apart;
  new = new;
})
  where
    new : (up : List Above) (n : Held) → Stands (over o x) up n → IsNew low high n
    new (under p ∷ up) n a = f.new up n a.1
    new _ n a = absurd a

-- no node of the one side has a generation of the other
abbrev pub NeverMeet : Shape → Shape → Type 0
NeverMeet x y = (up vp : List Above) (m n : Held) → Stands x up m → Stands y vp n → m.generation ≡ n.generation → ⊥

pub between_apart : (o : Binary) (x y : Shape) → AreApart x → AreApart y → NeverMeet x y → AreApart (between o x y)
between_apart o x y h k never (first_of p ∷ up) (first_of q ∷ vp) m n a b e =
    let r = h up vp m n a.1 b.1 e in (ap (λ u. first_of u ∷ up) (sym a.0 ∙ b.0) ∙ ap (λ l. first_of q ∷ l) r.0, r.1)
between_apart o x y h k never (second_of p ∷ up) (second_of q ∷ vp) m n a b e =
    let r = k up vp m n a.1 b.1 e in (ap (λ u. second_of u ∷ up) (sym a.0 ∙ b.0) ∙ ap (λ l. second_of q ∷ l) r.0, r.1)
between_apart o x y h k never (first_of p ∷ up) (second_of q ∷ vp) m n a b e = absurd (never up vp m n a.1 b.1 e)
between_apart o x y h k never (second_of p ∷ up) (first_of q ∷ vp) m n a b e = absurd (never vp up n m b.1 a.1 (sym e))
between_apart o x y h k never (first_of p ∷ up) _ m n a b e = absurd b
between_apart o x y h k never (second_of p ∷ up) _ m n a b e = absurd b
between_apart o x y h k never _ _ m n a b e = absurd a

pub fresh_between : (low mid high : ℕ) (o : Binary) (x y t : Shape) → t ≡ between o x y → IsFresh low mid x → IsFresh mid high y →
    IsFresh low high t
fresh_between low mid high o x y t i f k = subst (IsFresh low high) (sym i) (record {
  more = let a = f.more in let b = k.more in omega (arith, a, b);
  apart = between_apart o x y f.apart k.apart never;
  new = new;
})
  where
    never : NeverMeet x y
    never up vp m n a b e =
        let l = (f.new up m a).below in
        let r = (k.new vp n b).from in
        omega (arith, l, r, e)

    new : (up : List Above) (n : Held) → Stands (between o x y) up n → IsNew low high n
    new (first_of p ∷ up) n a = new_within low mid low high n (omega arith) k.more (f.new up n a.1)
    new (second_of p ∷ up) n a = new_within mid high low high n f.more (omega arith) (k.new up n a.1)
    new _ n a = absurd a
