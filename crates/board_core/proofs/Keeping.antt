-- What is known stays so.
use Rattle.std.proofs.Common.{ℕ, ◌≡◌, ◌<◌, List, sym, subst}
use Rattle.spec_core.specs.declared.window.Window.{Window}
use Rattle.spec_core.specs.Code.{Program}
use Rattle.rule_model.specs.Derivations.{Derivation}
use Rattle.node_trees.specs.declared.origin.Gen.{Gen}
use Rattle.node_trees.specs.Rests.{Work}
use Rattle.node_trees.specs.Shapes.{Held, Shape, IsNodeOf, IsRight, IsWorkFor, posted}
use Rattle.board_tree.specs.Views.{IsStep}
use Rattle.symbolic_rules.specs.Tables.{windows_in}
use Rattle.candidate_verdicts.specs.declared.pieces.Piece.{Piece}
use Rattle.candidate_verdicts.specs.Known.{Pieces}
use Rattle.candidate_verdicts.specs.Laws.{IsPieceOf}
use Rattle.candidate_verdicts.specs.Stored.{with_piece, without}
use Rattle.candidate_verdicts.proofs.Staying.{pieces_stay_so}
use Rattle.candidate_verdicts.proofs.Verdicts.{pieces_outlive_steps}
use Rattle.board_laws.proofs.Keeping.{completeness_stays, expansions_stay}
use Rattle.board_core.specs.Boards.{IsKnown, IsWorkAt}

-- the same, said of other names for the same things
pub stays : (p q : Program) (k l : ℕ) (rows others : List Window) (t u : Shape) (ps qs : Pieces) (n m : ℕ) → q ≡ p → l ≡ k → others ≡ rows →
    u ≡ t → qs ≡ ps → m ≡ n → IsKnown p k rows t ps n → IsKnown q l others u qs m
stays p q k l rows others t u ps qs n m a b c d e f h =
    subst (λ z. IsKnown z l others u qs m) (sym a)
    (subst (λ z. IsKnown p z others u qs m) (sym b)
    (subst (λ z. IsKnown p k z u qs m) (sym c)
    (subst (λ z. IsKnown p k rows z qs m) (sym d)
    (subst (λ z. IsKnown p k rows t z m) (sym e) (subst (λ z. IsKnown p k rows t ps z) (sym f) h)))))

module _ (program : Program) (size : ℕ) (rows : List Window) where
  -- a step
  pub steps : (old new : Shape) (next later : ℕ) (d : Derivation) (gone came : List Gen) (pieces others : Pieces) →
      IsStep program old next d new later gone came →
      ((g : ℕ) (e : Derivation) → others g e ≡ without gone pieces g e) →
      IsKnown program size rows old pieces next → IsKnown program size rows new others later
  steps old new next later d gone came pieces others step left h =
      let kept = pieces_outlive_steps program (windows_in rows) pieces old next d new later gone came step h.none_from h.shown in
      let stay = pieces_stay_so program (windows_in rows) pieces others new in record {
        rows_are = h.rows_are;
        all_sorts = h.all_sorts;
        right = step.right h.right;
        complete = (completeness_stays program).stepped program old next d new later gone came step h.complete;
        expansions = (expansions_stay program (windows_in rows)).stepped program old next d new later gone came step h.expansions;
        shown = stay.dropped gone left kept.0;
        none_from = stay.dropped_below gone later left kept.1;
      }

  -- a node is expanded
  pub posts : (t : Shape) (g next : ℕ) (work : Work) (pieces : Pieces) →
      ((n : Held) → IsNodeOf t g n → IsWorkAt program (windows_in rows) n.source work) →
      (IsWorkFor program t g work → IsRight program t → IsRight program (posted g work t)) →
      IsKnown program size rows t pieces next → IsKnown program size rows (posted g work t) pieces next
  posts t g next work pieces is right h = record {
    rows_are = h.rows_are;
    all_sorts = h.all_sorts;
    right = right (λ n of. (is n of).ways) h.right;
    complete = (completeness_stays program).expanded g work t (λ n of. (is n of).complete) h.complete;
    expansions = (expansions_stay program (windows_in rows)).expanded g work t (λ n of. (is n of).expansion.plans) h.expansions;
    shown = (pieces_stay_so program (windows_in rows) pieces pieces t).posted g work h.shown;
    none_from = h.none_from;
  }

  -- one more piece is known
  pub puts : (t : Shape) (next : ℕ) (p : Piece) (pieces others : Pieces) → IsPieceOf program (windows_in rows) p t → p.generation.0 < next →
      ((g : ℕ) (d : Derivation) → others g d ≡ with_piece pieces p g d) →
      IsKnown program size rows t pieces next → IsKnown program size rows t others next
  puts t next p pieces others is below put h =
      let stay = pieces_stay_so program (windows_in rows) pieces others t in record {
        rows_are = h.rows_are;
        all_sorts = h.all_sorts;
        right = h.right;
        complete = h.complete;
        expansions = h.expansions;
        shown = stay.put p put h.shown is;
        none_from = stay.put_below p next put below h.none_from;
      }
