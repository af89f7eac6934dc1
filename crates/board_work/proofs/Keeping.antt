-- What is known of nodes stays known.
use Rattle.std.proofs.Common.{ℕ, ◌≡◌, ◌∙◌, ◌==◌, Bool, true, false, if◌then◌else◌, List, [], ◌∷◌, ◌⊎◌, inl, inr, refl, sym, ap, subst}
use Rattle.std.proofs.Common.{Option, Some, None, option_map, Result, Ok, Err, OnOk}
use Rattle.std.proofs.lemmas.Bool.{and_from, eq-eqb, eqb-false}
use Rattle.rule_model.specs.Derivations.{Derivation, derivation_of}
use Rattle.symbolic_actions.specs.Models.{show_of}
use Rattle.node_trees.specs.Rests.{Work}
use Rattle.node_trees.specs.Shapes.{Above, Held, Shape, Stands, between, first_of, leaf, over, posted, second_of, under}
use Rattle.candidate_verdicts.specs.declared.pieces.Pieces.{Pieces}
use Rattle.candidate_verdicts.specs.declared.pieces.Piece.{Piece}
use Rattle.candidate_verdicts.specs.Known.{KnownShow, NodePart}
use Rattle.candidate_verdicts.specs.Same.{same_rules}
use Rattle.candidate_verdicts.specs.Stored.{is_about, pieces_of, stored, unless_none, with_piece}
use Rattle.candidate_verdicts.proofs.Sameness.{rules_same}
use Rattle.candidates.specs.Jobs.{NodeJob, to_expand, to_judge}
use Rattle.board_laws.specs.declared.stop_reason.StopReason.{StopReason}
use Rattle.board_laws.specs.Needed.{Waits}
use Rattle.board_core.specs.declared.job.Post.{Post}
use Rattle.board_core.specs.declared.job.Post.TheVariants.{Posted, Stale}
use Rattle.board_core.specs.Views.{BoardView, pieces, tree, SameNodes}
use Rattle.board_core.specs.Working.{first_reason}
use Rattle.board_work.specs.Handed.{HandsIn, IsDone, IsFound, IsOver, IsUndoneOn, KeepsDone, StopsNow}

pub on_ok : {A E P : Type 0} (r : Result A E) → P → OnOk r P
on_ok (Ok a) h = h
on_ok (Err e) h = tt

something : {A : Type 0} {x : A} → Some x ≡ None → ⊥
something e = cc

-- a node that waits once another is expanded waited before, and isn't that one

held_before : (g : ℕ) (work : Work) (m n : Held) (b : Bool) → (m.generation == g) ≡ b →
    (if b then record { generation = m.generation; source = m.source; work = Some work } else m) ≡ n → n.work ≡ None →
    (m ≡ n) × (n.generation ≡ g → ⊥)
held_before g work m n true e same waits = absurd (something (ap (λ (k : Held). k.work) same ∙ waits))
held_before g work m n false e same waits =
    (same, λ its. eqb-false m.generation g e (ap (λ (k : Held). k.generation) same ∙ its))

node_before : (g : ℕ) (work : Work) (t : Shape) (up : List Above) (n : Held) → Stands (posted g work t) up n → n.work ≡ None →
    Stands t up n × (n.generation ≡ g → ⊥)
node_before g work (leaf m) [] n s waits = held_before g work m n (m.generation == g) refl s waits
node_before g work (over o x) (under p ∷ up) n s waits = let r = node_before g work x up n s.1 waits in ((s.0, r.0), r.1)
node_before g work (between o x y) (first_of p ∷ up) n s waits = let r = node_before g work x up n s.1 waits in ((s.0, r.0), r.1)
node_before g work (between o x y) (second_of p ∷ up) n s waits = let r = node_before g work y up n s.1 waits in ((s.0, r.0), r.1)
node_before g work _ _ n s waits = absurd s

posted_waits : (g h : ℕ) (work : Work) (t : Shape) → Waits (posted g work t) h → Waits t h
posted_waits g h work t u =
    let r = node_before g work t u.is.up u.node u.is.stands u.waits in
    record { node = u.node; is = record { up = u.is.up; stands = r.0; same = u.is.same }; waits = u.waits }

posted_is_expanded : (g : ℕ) (work : Work) (t : Shape) → Waits (posted g work t) g → ⊥
posted_is_expanded g work t u = (node_before g work t u.is.up u.node u.is.stands u.waits).1 u.is.same

-- where nothing is known with one more piece, nothing was known before, and the piece is about something else

nothing_before : (o p : KnownShow) → unless_none o p ≡ None → (o ≡ None) × (p ≡ None)
nothing_before None p e = (refl, e)
nothing_before (Some s) p e = absurd (something e)

about_itself : (p : Piece) → is_about p.generation.0 (derivation_of p.rules) p ≡ true
about_itself p =
    let g = p.generation.0 in
    let d = derivation_of p.rules in
    and_from (g == g) (same_rules d d) (eq-eqb g g refl) (rules_same d)

piece_says : (p : Piece) → pieces_of (p ∷ []) p.generation.0 (derivation_of p.rules) ≡ None → ⊥
piece_says p e =
    something (subst (λ (b : Bool). (if b then Some (option_map show_of p.shown) else None) ≡ None) (about_itself p) e)

module _ (old new : BoardView) where
  -- the same nodes, of which the same is known
  pub keeps_same : tree new ≡ tree old → ((g : ℕ) (d : Derivation) → pieces new g d ≡ pieces old g d) → KeepsDone old new
  keeps_same nodes known (to_expand g) undone = subst (λ (t : Shape). Waits t g) nodes undone
  keeps_same nodes known (to_judge p) undone = sym (known p.generation p.rules) ∙ undone

  pub keeps_nodes : SameNodes old new → KeepsDone old new
  keeps_nodes same = keeps_same same.0 (λ g d. ap (λ (p : Pieces). stored p g d) same.2)

  -- a node is expanded
  pub keeps_posted : (g : ℕ) (work : Work) → tree new ≡ posted g work (tree old) → new.pieces ≡ old.pieces → KeepsDone old new
  keeps_posted g work e known (to_expand h) undone = posted_waits g h work (tree old) (subst (λ (t : Shape). Waits t h) e undone)
  keeps_posted g work e known (to_judge p) undone = sym (ap (λ (s : Pieces). stored s p.generation p.rules) known) ∙ undone

  -- something more is known of nodes

  keeps_judged : (piece : Piece) → ((g : ℕ) (d : Derivation) → pieces new g d ≡ with_piece (pieces old) piece g d) →
      tree new ≡ tree old → KeepsDone old new
  keeps_judged piece known nodes (to_expand g) undone = subst (λ (t : Shape). Waits t g) nodes undone
  keeps_judged piece known nodes (to_judge p) undone =
      (nothing_before (pieces old p.generation p.rules) (pieces_of (piece ∷ []) p.generation p.rules)
      (sym (known p.generation p.rules) ∙ undone)).0

  pub keeps_post : (piece : Piece) (post : Post) →
      (post ≡ Posted → (g : ℕ) (d : Derivation) → pieces new g d ≡ with_piece (pieces old) piece g d) →
      (post ≡ Stale → new.pieces ≡ old.pieces) → tree new ≡ tree old → KeepsDone old new
  keeps_post piece Posted known same nodes = keeps_judged piece (known refl) nodes
  keeps_post piece Stale known same nodes = keeps_same nodes (λ g d. ap (λ (p : Pieces). stored p g d) (same refl))

  -- what is found is done
  found_is_done : (job : NodeJob) → IsFound old new job → IsUndoneOn new job → ⊥
  found_is_done (to_expand g) (work, e) undone = posted_is_expanded g work (tree old) (subst (λ (t : Shape). Waits t g) e undone)
  found_is_done (to_judge part) (piece, about, known) undone =
      let g = piece.generation.0 in
      let d = derivation_of piece.rules in
      let there = subst (λ (p : NodePart). pieces new p.generation p.rules ≡ None) (sym about) undone in
      piece_says piece (nothing_before (pieces old g d) (pieces_of (piece ∷ []) g d) (sym (known g d) ∙ there)).1

  pub done_is_over : (job : NodeJob) → IsDone old new job → IsOver new job
  done_is_over job (inl found) = inl (found_is_done job found)
  done_is_over job (inr stopped) = inr stopped

  -- a session that has stopped doesn't go on
  stays_stopped : (old.stop ≡ None → ⊥) → HandsIn old new → new.stop ≡ None → ⊥
  stays_stopped stopped h e = by_stop h.stop
    where
      first_stays : (o : Option StopReason) (reason : StopReason) → (o ≡ None → ⊥) → first_reason o reason ≡ None → ⊥
      first_stays None reason never f = never refl
      first_stays (Some first) reason never f = something f

      by_stop : (new.stop ≡ old.stop) ⊎ StopsNow old new → ⊥
      by_stop (inl same) = stopped (sym same ∙ e)
      by_stop (inr (reason, is_so, asked, stop)) = first_stays old.stop reason stopped (sym stop ∙ e)

  -- a job that is over stays so, whatever is handed in
  pub stays_over : (job : NodeJob) → IsOver old job → HandsIn old new → IsOver new job
  stays_over job (inl done) h = inl (λ undone. done (h.done job undone))
  stays_over job (inr stopped) h = inr (stays_stopped stopped h)
