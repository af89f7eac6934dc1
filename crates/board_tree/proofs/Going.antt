-- Generations under operators, from step to step.
use Rattle.std.proofs.Common.{ℕ, ◌≡◌, ◌≤◌, inl, inr, ⊎_elim, List, ◌∷◌, refl, sym, subst, arith}
use Rattle.node_trees.specs.Generations.{AreApart, IsSound, IsFresh}
use Rattle.node_trees.specs.Shapes.{Held, Shape, over, between, Unary, Binary, Above, under, first_of, second_of, Stands}
use Rattle.node_trees.proofs.Growing.{new_within, fresh_later, over_apart, NeverMeet, between_apart}
use Rattle.board_tree.specs.Keeping.{Keeps, Leaves, Advances, Goes}

differ : (o p : Binary) (up vp : List Above) → first_of o ∷ up ≡ second_of p ∷ vp → ⊥
differ o p up vp e = cc

-- in this tree nothing stays as it is
abbrev pub NothingStays : (List Above → Type 0) → Shape → Type 0
NothingStays same t = (up : List Above) (n : Held) → Stands t up n → same up → ⊥

fresh_advances : (same : List Above → Type 0) (low high : ℕ) (old t : Shape) → NothingStays same old →
    IsFresh low high t → Advances same low high old t
fresh_advances same low high old t never f = record {
  more = f.more;
  apart = f.apart;
  keeps = λ up n a. inr (f.new up n a);
  leaves = λ up n s u. absurd (never up n s u);
}

abbrev everywhere : List Above → Type 0
everywhere up = Unit {0}

still : (low : ℕ) (t : Shape) → AreApart t → Advances everywhere low low t t
still low t a = record {
  more = omega arith;
  apart = a;
  keeps = λ up n h. inl (h, tt);
  leaves = λ up n h u. h;
}

sound_over : (o : Unary) (x : Shape) (next : ℕ) → IsSound (over o x) next → IsSound x next
sound_over o x next s = record {
  apart = λ up vp m n a b e.
      let r = s.apart (under o ∷ up) (under o ∷ vp) m n (refl, a) (refl, b) e in (tails up vp r.0, r.1);
  below = λ up n a. s.below (under o ∷ up) n (refl, a);
}
  where
    tails : (up vp : List Above) → under o ∷ up ≡ under o ∷ vp → up ≡ vp
    tails up vp e = cc

sound_first : (o : Binary) (x y : Shape) (next : ℕ) → IsSound (between o x y) next → IsSound x next
sound_first o x y next s = record {
  apart = λ up vp m n a b e.
      let r = s.apart (first_of o ∷ up) (first_of o ∷ vp) m n (refl, a) (refl, b) e in (tails up vp r.0, r.1);
  below = λ up n a. s.below (first_of o ∷ up) n (refl, a);
}
  where
    tails : (up vp : List Above) → first_of o ∷ up ≡ first_of o ∷ vp → up ≡ vp
    tails up vp e = cc

sound_second : (o : Binary) (x y : Shape) (next later : ℕ) → next ≤ later → IsSound (between o x y) next → IsSound y later
sound_second o x y next later l s = record {
  apart = λ up vp m n a b e.
      let r = s.apart (second_of o ∷ up) (second_of o ∷ vp) m n (refl, a) (refl, b) e in (tails up vp r.0, r.1);
  below = λ up n a. let b = s.below (second_of o ∷ up) n (refl, a) in omega (arith, b, l);
}
  where
    tails : (up vp : List Above) → second_of o ∷ up ≡ second_of o ∷ vp → up ≡ vp
    tails up vp e = cc

pub fresh_goes : (same : List Above → Type 0) (low high : ℕ) (old t : Shape) → NothingStays same old →
    IsFresh low high t → Goes same low high old t
fresh_goes same low high old t never f = record { advances = λ s. fresh_advances same low high old t never f }

-- An operator over one part, of which all stays that stays in the part.
module _ (same part : List Above → Type 0) (low high : ℕ) (o : Unary) (x z : Shape) where
  over_advances : ((up : List Above) (n : Held) → Stands z up n → part up → same (under o ∷ up)) →
      ((up : List Above) → same (under o ∷ up) → part up) → Advances part low high x z → Advances same low high (over o x) (over o z)
  over_advances into from a = record {
    more = a.more;
    apart = over_apart o z a.apart;
    keeps = keeps;
    leaves = leaves;
  }
    where
      keeps : Keeps same low high (over o x) (over o z)
      keeps (under p ∷ up) n b =
          ⊎_elim (λ l. inl ((b.0, l.0), subst (λ q. same (under q ∷ up)) b.0 (into up n b.1 l.1)))
          (λ r. inr r) (a.keeps up n b.1)
      keeps _ n b = absurd b

      leaves : Leaves same (over o x) (over o z)
      leaves (under p ∷ up) n b u = (b.0, a.leaves up n b.1 (from up (subst (λ q. same (under q ∷ up)) (sym b.0) u)))
      leaves _ n b u = absurd b

  pub over_goes : (s t : Shape) → s ≡ over o x → t ≡ over o z →
      ((up : List Above) (n : Held) → Stands z up n → part up → same (under o ∷ up)) →
      ((up : List Above) → same (under o ∷ up) → part up) → Goes part low high x z → Goes same low high s t
  over_goes s t i j into from g = record {
    advances = λ h.
        subst (λ u. Advances same low high u t) (sym i) (subst (λ u. Advances same low high (over o x) u) (sym j)
        (over_advances into from (g.advances (sound_over o x low (subst (λ u. IsSound u low) i h)))));
  }

-- what stays under an operator is what stays in its parts
pub record Splits (o : Binary) (same one two : List Above → Type 0) : Type 0 where
  pub into_first : (up : List Above) → one up → same (first_of o ∷ up)
  pub from_first : (up : List Above) → same (first_of o ∷ up) → one up
  pub into_second : (up : List Above) → two up → same (second_of o ∷ up)
  pub from_second : (up : List Above) → same (second_of o ∷ up) → two up

module _ (same one two : List Above → Type 0) (low mid high : ℕ) (o : Binary) (x y z w : Shape) where
  never_meet : IsSound (between o x y) low → Advances one low mid x z → Advances two mid high y w → NeverMeet z w
  never_meet s a b up vp m n h k e =
      ⊎_elim
      (λ l. ⊎_elim
      (λ r. differ o o up vp (s.apart (first_of o ∷ up) (second_of o ∷ vp) m n (refl, l.0) (refl, r.0) e).0)
      (λ r. let u = s.below (first_of o ∷ up) m (refl, l.0) in let v = r.from in let q = a.more in omega (arith, u, v, q, e))
      (b.keeps vp n k))
      (λ l. ⊎_elim
      (λ r. let u = s.below (second_of o ∷ vp) n (refl, r.0) in let v = l.from in omega (arith, u, v, e))
      (λ r. let u = l.below in let v = r.from in omega (arith, u, v, e))
      (b.keeps vp n k))
      (a.keeps up m h)

  both_advance : Splits o same one two → IsSound (between o x y) low →
      Advances one low mid x z → Advances two mid high y w → Advances same low high (between o x y) (between o z w)
  both_advance c s a b = record {
    more = let u = a.more in let v = b.more in omega (arith, u, v);
    apart = between_apart o z w a.apart b.apart (never_meet s a b);
    keeps = keeps;
    leaves = leaves;
  }
    where
      keeps : Keeps same low high (between o x y) (between o z w)
      keeps (first_of p ∷ up) n h =
          ⊎_elim (λ l. inl ((h.0, l.0), subst (λ q. same (first_of q ∷ up)) h.0 (c.into_first up l.1)))
          (λ r. inr (new_within low mid low high n (omega arith) b.more r)) (a.keeps up n h.1)
      keeps (second_of p ∷ up) n h =
          ⊎_elim (λ l. inl ((h.0, l.0), subst (λ q. same (second_of q ∷ up)) h.0 (c.into_second up l.1)))
          (λ r. inr (new_within mid high low high n a.more (omega arith) r)) (b.keeps up n h.1)
      keeps _ n h = absurd h

      leaves : Leaves same (between o x y) (between o z w)
      leaves (first_of p ∷ up) n h u =
          (h.0, a.leaves up n h.1 (c.from_first up (subst (λ q. same (first_of q ∷ up)) (sym h.0) u)))
      leaves (second_of p ∷ up) n h u =
          (h.0, b.leaves up n h.1 (c.from_second up (subst (λ q. same (second_of q ∷ up)) (sym h.0) u)))
      leaves _ n h u = absurd h

  pub both_go : (s t : Shape) → s ≡ between o x y → t ≡ between o z w →
      Splits o same one two → Goes one low mid x z → Goes two mid high y w → Goes same low high s t
  both_go s t i j c a b = record {
    advances = λ h.
        let k = subst (λ u. IsSound u low) i h in
        let first = a.advances (sound_first o x y low k) in
        let second = b.advances (sound_second o x y low mid first.more k) in
        subst (λ u. Advances same low high u t) (sym i) (subst (λ u. Advances same low high (between o x y) u) (sym j)
        (both_advance c k first second));
  }

-- a side that stays
stays : (low : ℕ) (t : Shape) → Goes everywhere low low t t
stays low t = record { advances = λ s. still low t s.apart }

pub first_goes : (same one : List Above → Type 0) (low high : ℕ) (o : Binary) (x y z s t : Shape) →
    s ≡ between o x y → t ≡ between o z y → Splits o same one everywhere → Goes one low high x z →
    Goes same low high s t
first_goes same one low high o x y z s t i j c a =
    both_go same one everywhere low high high o x y z y s t i j c a (stays high y)

pub second_goes : (same two : List Above → Type 0) (low high : ℕ) (o : Binary) (x y w s t : Shape) →
    s ≡ between o x y → t ≡ between o x w → Splits o same everywhere two → Goes two low high y w →
    Goes same low high s t
second_goes same two low high o x y w s t i j c a =
    both_go same everywhere two low low high o x y x w s t i j c (stays low x) a

-- A part that goes on, and new nodes in the place of the whole.
module _ (same part : List Above → Type 0) (low mid high : ℕ) where
  pub fresh_after_over : (o : Unary) (x z s t : Shape) → s ≡ over o x → (Leaves part x z → NothingStays same s) →
      Goes part low mid x z → IsFresh mid high t → Goes same low high s t
  fresh_after_over o x z s t e never g f = record {
    advances = λ h.
        let a = g.advances (sound_over o x low (subst (λ u. IsSound u low) e h)) in
        fresh_advances same low high s t (never a.leaves) (fresh_later low mid high t a.more f);
  }

  pub fresh_after_first : (o : Binary) (x y z s t : Shape) → s ≡ between o x y → NothingStays same s → Goes part low mid x z →
      IsFresh mid high t → Goes same low high s t
  fresh_after_first o x y z s t e never g f = record {
    advances = λ h.
        fresh_advances same low high s t never
        (fresh_later low mid high t (g.advances (sound_first o x y low (subst (λ u. IsSound u low) e h))).more f);
  }

  pub fresh_after_second : (o : Binary) (x y z s t : Shape) → s ≡ between o x y → NothingStays same s → Goes part low mid y z →
      IsFresh mid high t → Goes same low high s t
  fresh_after_second o x y z s t e never g f = record {
    advances = λ h.
        fresh_advances same low high s t never
        (fresh_later low mid high t
        (g.advances (sound_second o x y low low (omega arith) (subst (λ u. IsSound u low) e h))).more f);
  }
