-- What is known of nodes, and which jobs are out, speaks of nodes that live.
use Rattle.std.proofs.Common.{ℕ, ◌≡◌, ◌==◌, ◌||◌, ◌∙◌, ◌⊎◌, inl, inr, refl, sym, ap, subst, List, [], ◌∷◌, filter, not, cond, Some, None}
use Rattle.std.proofs.Common.{Bool, true, false, if◌then◌else◌, option_map}
use Rattle.std.proofs.lemmas.Bool.Decides.{Decides-eqb}
use Rattle.std.proofs.lemmas.Bool.{true≢false}
use Rattle.spec_core.specs.Lists.{Each, IsOneOf}
use Rattle.spec_core.proofs.Lists.{each_filter, each_implied}
use Rattle.rule_model.specs.Derivations.{Derivation}
use Rattle.node_trees.specs.declared.origin.Gen.{Gen}
use Rattle.node_trees.specs.Differences.{IsDifference}
use Rattle.node_trees.specs.Posting.{is_there}
use Rattle.node_trees.specs.Rests.{Work}
use Rattle.node_trees.specs.Shapes.{Held, Shape, leaf, over, between, Above, under, first_of, second_of, Stands, Lives, node_at, with_work, posted}
use Rattle.node_trees.proofs.Posts.{is_there_lives, not_there}
use Rattle.candidate_verdicts.specs.Models.{show_of}
use Rattle.candidate_verdicts.specs.declared.pieces.Piece.{Piece}
use Rattle.candidate_verdicts.specs.Known.{Pieces}
use Rattle.candidate_verdicts.specs.Stored.{is_about, is_gone, pieces_of, unless_none, with_piece, without}
use Rattle.candidate_verdicts.proofs.Storing.{about_is}
use Rattle.candidates.specs.Jobs.{NodeJob}
use Rattle.board_laws.specs.Needed.{generation_of}
use Rattle.board_core.specs.Boards.{AreOfLiving}
use Rattle.board_core.specs.Working.{jobs_left}

lives_or_not : (t : Shape) (g : ℕ) → Lives t g ⊎ (Lives t g → ⊥)
lives_or_not t g = by_test (is_there (node_at g t)) refl
  where
    by_test : (b : Bool) → is_there (node_at g t) ≡ b → Lives t g ⊎ (Lives t g → ⊥)
    by_test true e = inl (is_there_lives g t true (node_at g t) refl e refl)
    by_test false e = inr (not_there g t (node_at g t) refl e)

-- lists of jobs

each_passing : {A : Type 0} (P Q : A → Type 0) (p : A → Bool) (xs : List A) → ((x : A) → p x ≡ true → P x → Q x) → Each P xs → Each Q (filter p xs)
each_passing P Q p [] f h = tt
each_passing {A = A} P Q p (x ∷ xs) f h = by_test (p x) refl (each_passing P Q p xs f h.1)
  where
    by_test : (b : Bool) → p x ≡ b → Each Q (filter p xs) → Each Q (cond b (x ∷ filter p xs) (filter p xs))
    by_test true e k = (f x e h.0, k)
    by_test false e k = k

-- every node is as it was

module _ (t : Shape) (pieces : Pieces) (out : List NodeJob) (h : AreOfLiving t pieces out) where
  -- some jobs aren't out any more
  pub left_living : (stays : NodeJob → Bool) → AreOfLiving t pieces (filter stays out)
  left_living stays = record { known = h.known; jobs = each_filter (λ j. Lives t (generation_of j)) stays out h.jobs }

  -- one more piece is known
  pub put_living : (p : Piece) (others : Pieces) → Lives t p.generation.0 →
      ((g : ℕ) (d : Derivation) → others g d ≡ with_piece pieces p g d) → AreOfLiving t others out
  put_living p others lives put = record { known = still; jobs = h.jobs }
    where
      still : (g : ℕ) (d : Derivation) → (Lives t g → ⊥) → others g d ≡ None
      still g d dead = put g d ∙ ap (λ z. unless_none z (pieces_of (p ∷ []) g d)) (h.known g d dead) ∙ by_test (is_about g d p) refl
        where
          by_test : (b : Bool) → is_about g d p ≡ b → (if b then Some (option_map show_of p.shown) else None) ≡ None
          by_test true e = absurd (dead (subst (Lives t) (about_is g d p e).0 lives))
          by_test false e = refl

-- a node is expanded

stands_then : (g : ℕ) (work : Work) (t : Shape) (up : List Above) (n : Held) → Stands t up n → Stands (posted g work t) up (with_work g work n)
stands_then g work (leaf m) [] n s = ap (with_work g work) s
stands_then g work (over o x) (under p ∷ up) n s = (s.0, stands_then g work x up n s.1)
stands_then g work (between o x y) (first_of p ∷ up) n s = (s.0, stands_then g work x up n s.1)
stands_then g work (between o x y) (second_of p ∷ up) n s = (s.0, stands_then g work y up n s.1)
stands_then g work _ _ n s = absurd s

same_generation : (g : ℕ) (work : Work) (n : Held) → (with_work g work n).generation ≡ n.generation
same_generation g work n = by_test (n.generation == g)
  where
    by_test : (b : Bool) →
        (if b then record { generation = n.generation; source = n.source; work = Some work } else n).generation ≡ n.generation
    by_test true = refl
    by_test false = refl

lives_then : (g : ℕ) (work : Work) (t : Shape) (h : ℕ) → Lives t h → Lives (posted g work t) h
lives_then g work t h l = record {
  node = with_work g work l.node;
  is = record {
    up = l.is.up;
    stands = stands_then g work t l.is.up l.node l.is.stands;
    same = same_generation g work l.node ∙ l.is.same;
  };
}

pub posted_living : (g : ℕ) (work : Work) (t : Shape) (pieces : Pieces) (out : List NodeJob) → AreOfLiving t pieces out →
    AreOfLiving (posted g work t) pieces out
posted_living g work t pieces out h = record {
  known = λ i d dead. h.known i d (λ l. dead (lives_then g work t i l));
  jobs = each_implied (λ j. Lives t (generation_of j)) (λ j. Lives (posted g work t) (generation_of j)) out (λ j l. lives_then g work t (generation_of j) l) h.jobs;
}

-- a step

gone_is : (gone : List Gen) (g : Gen) → IsOneOf g gone → is_gone gone g.0 ≡ true
gone_is [] g h = absurd h
gone_is (h ∷ gone) g (inl e) = rw ((Decides-eqb h.0 g.0).1 (ap (λ (z : Gen). z.0) (sym e))) refl
gone_is (h ∷ gone) g (inr more) = by_test (h.0 == g.0) (gone_is gone g more)
  where
    by_test : (b : Bool) → is_gone gone g.0 ≡ true → (b || is_gone gone g.0) ≡ true
    by_test true k = refl
    by_test false k = k

module _ (old new : Shape) (gone : List Gen) (ended : IsDifference gone old new) where
  -- what lived and isn't gone lives
  lives_on : (g : ℕ) → is_gone gone g ≡ false → Lives old g → Lives new g
  lives_on g stays lived = by_living (lives_or_not new g)
    where
      by_living : Lives new g ⊎ (Lives new g → ⊥) → Lives new g
      by_living (inl lives) = lives
      by_living (inr dead) = absurd (true≢false (sym (gone_is gone (record { 0 = g }) ((ended (record { 0 = g })).1 (lived, dead))) ∙ stays))

  pub stepped_living : (pieces others : Pieces) (out : List NodeJob) → ((g : ℕ) (d : Derivation) → others g d ≡ without gone pieces g d) →
      AreOfLiving old pieces out → AreOfLiving new others (jobs_left gone out)
  stepped_living pieces others out left h = record {
    known = λ g d dead. left g d ∙ nothing g d dead (is_gone gone g) refl;
    jobs = each_passing (λ j. Lives old (generation_of j)) (λ j. Lives new (generation_of j)) (λ j. not (is_gone gone (generation_of j))) out
        (λ j stays lived. lives_on (generation_of j) (isnt (is_gone gone (generation_of j)) stays) lived) h.jobs;
  }
    where
      isnt : (b : Bool) → not b ≡ true → b ≡ false
      isnt true e = absurd (true≢false (sym e))
      isnt false e = refl

      nothing : (g : ℕ) (d : Derivation) → (Lives new g → ⊥) → (b : Bool) → is_gone gone g ≡ b → (if b then None else pieces g d) ≡ None
      nothing g d dead true e = refl
      nothing g d dead false e = h.known g d (λ lived. dead (lives_on g e lived))
