-- What is known of the nodes of a tree stays so.
use Rattle.std.proofs.Common.{ℕ, ◌≡◌, ◌==◌, List, [], ◌∷◌, refl, sym, ap, subst, ◌∙◌, Option, Some, None, Bool, true, false}
use Rattle.std.proofs.Common.{if◌then◌else◌, option_map, arith}
use Rattle.std.proofs.lemmas.Option.{none-some, same_Some}
use Rattle.spec_core.specs.Code.{Program}
use Rattle.rule_model.specs.Derivations.{Derivation}
use Rattle.symbolic_rules.specs.Windows.{Windows}
use Rattle.symbolic_actions.specs.Shows.{Show, Shows}
use Rattle.symbolic_actions.specs.Models.{show_of}
use Rattle.node_trees.specs.declared.origin.Gen.{Gen}
use Rattle.node_trees.specs.Origins.{meaning}
use Rattle.node_trees.specs.Rests.{Work}
use Rattle.node_trees.specs.Shapes.{Held, Shape, leaf, over, between, Above, under, first_of, second_of, Stands, posted}
use Rattle.candidate_verdicts.specs.declared.pieces.Piece.{Piece}
use Rattle.candidate_verdicts.specs.Known.{KnownShow, Pieces}
use Rattle.candidate_verdicts.specs.Stored.{is_about, pieces_of, unless_none, with_piece, is_gone, without}
use Rattle.candidate_verdicts.specs.Laws.{ArePiecesOf, IsPieceOf, PiecesStaySo}
use Rattle.candidate_verdicts.proofs.Storing.{about_is}

-- what one more piece says is what was known, or what the piece says
put_says : (pieces : Pieces) (p : Piece) (g : ℕ) (d : Derivation) (o : Option Show) (P : Type 0) →
    (pieces g d ≡ Some o → P) → (is_about g d p ≡ true → option_map show_of p.shown ≡ o → P) → with_piece pieces p g d ≡ Some o → P
put_says pieces p g d o P before piece e = by_known (pieces g d) refl e
  where
    by_piece : (b : Bool) → is_about g d p ≡ b → (if b then Some (option_map show_of p.shown) else None) ≡ Some o → P
    by_piece true h q = piece h (same_Some _ _ q)
    by_piece false h q = absurd (none-some _ q)

    by_known : (k : KnownShow) → pieces g d ≡ k →
        unless_none k (if is_about g d p then Some (option_map show_of p.shown) else None) ≡ Some o → P
    by_known None h q = by_piece (is_about g d p) refl q
    by_known (Some s) h q = before (h ∙ q)

dropped_says : (gone : List Gen) (pieces : Pieces) (g : ℕ) (d : Derivation) (o : Option Show) → without gone pieces g d ≡ Some o →
    pieces g d ≡ Some o
dropped_says gone pieces g d o e = by_test (is_gone gone g) e
  where
    by_test : (b : Bool) → (if b then None else pieces g d) ≡ Some o → pieces g d ≡ Some o
    by_test true q = absurd (none-some _ q)
    by_test false q = q

dropped_none : (gone : List Gen) (pieces : Pieces) (g : ℕ) (d : Derivation) → pieces g d ≡ None → without gone pieces g d ≡ None
dropped_none gone pieces g d e = by_test (is_gone gone g)
  where
    by_test : (b : Bool) → (if b then None else pieces g d) ≡ None
    by_test true = refl
    by_test false = e

put_none : (pieces : Pieces) (p : Piece) (g : ℕ) (d : Derivation) → pieces g d ≡ None → (p.generation.0 ≡ g → ⊥) →
    with_piece pieces p g d ≡ None
put_none pieces p g d e other = ap (λ z. unless_none z (pieces_of (p ∷ []) g d)) e ∙ by_test (is_about g d p) refl
  where
    by_test : (b : Bool) → is_about g d p ≡ b → (if b then Some (option_map show_of p.shown) else None) ≡ None
    by_test true h = absurd (other (about_is g d p h).0)
    by_test false h = refl

-- each node after one is expanded was one before, with its generation and its origin

same_node : (g : ℕ) (work : Work) (m : Held) (b : Bool) → (n : Held) →
    (if b then record { generation = m.generation; source = m.source; work = Some work } else m) ≡ n →
    (n.generation ≡ m.generation) × (n.source ≡ m.source)
same_node g work m true n e = (ap (λ (k : Held). k.generation) (sym e), ap (λ (k : Held). k.source) (sym e))
same_node g work m false n e = (ap (λ (k : Held). k.generation) (sym e), ap (λ (k : Held). k.source) (sym e))

node_before : (g : ℕ) (work : Work) (t : Shape) (up : List Above) (n : Held) → Stands (posted g work t) up n →
    (m : Held) × Stands t up m × (n.generation ≡ m.generation) × (n.source ≡ m.source)
node_before g work (leaf m) [] n s =
    let r = same_node g work m (m.generation == g) n s in (m, refl, r.0, r.1)
node_before g work (over o x) (under p ∷ up) n s = let r = node_before g work x up n s.1 in (r.0, (s.0, r.1), r.2, r.3)
node_before g work (between o x y) (first_of p ∷ up) n s = let r = node_before g work x up n s.1 in (r.0, (s.0, r.1), r.2, r.3)
node_before g work (between o x y) (second_of p ∷ up) n s = let r = node_before g work y up n s.1 in (r.0, (s.0, r.1), r.2, r.3)
node_before g work _ _ n s = absurd s

module _ (program : Program) (w : Windows) (pieces others : Pieces) (t : Shape) where
  piece_put_so : (p : Piece) → ((g : ℕ) (d : Derivation) → others g d ≡ with_piece pieces p g d) → ArePiecesOf program w pieces t →
      IsPieceOf program w p t → ArePiecesOf program w others t
  piece_put_so p same h i up n s d o q =
      put_says pieces p n.generation d o (Shows program w (meaning program n.source) d o) (λ e. h up n s d o e) here
      (sym (same n.generation d) ∙ q)
    where
      here : is_about n.generation d p ≡ true → option_map show_of p.shown ≡ o → Shows program w (meaning program n.source) d o
      here a e =
          let r = about_is n.generation d p a in
          subst (λ z. Shows program w (meaning program n.source) d z) e
          (subst (λ z. Shows program w (meaning program n.source) z (option_map show_of p.shown)) r.1 (i up n s (sym r.0)))

  posted_so : (g : ℕ) (work : Work) → ArePiecesOf program w pieces t → ArePiecesOf program w pieces (posted g work t)
  posted_so g work h up n s d o q =
      let r = node_before g work t up n s in
      subst (λ z. Shows program w (meaning program z) d o) (sym r.3)
      (h up r.0 r.1 d o (subst (λ z. pieces z d ≡ Some o) r.2 q))

pub pieces_stay_so : PiecesStaySo
pieces_stay_so program w pieces others t = record {
  put = piece_put_so program w pieces others t;
  put_below = λ p next same below none g d l.
      same g d ∙ put_none pieces p g d (none g d l) (λ e. omega (arith, e, below, l));
  dropped = λ gone same h up n s d o q. h up n s d o (dropped_says gone pieces n.generation d o (sym (same n.generation d) ∙ q));
  dropped_below = λ gone next same none g d l. same g d ∙ dropped_none gone pieces g d (none g d l);
  posted = posted_so program w pieces others t;
}
