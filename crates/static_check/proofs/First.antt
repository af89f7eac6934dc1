-- Nodes of processes stand first in the code.
use Rattle.std.proofs.Common.{ℕ, zero, suc, ◌≡◌, ◌<◌, refl, sym, ap, subst, arith, List, ◌∷◌, ◌++◌, length, Option, Some, None}
use Rattle.std.proofs.lemmas.Option.{same_Some, none-some}
use Rattle.lotos_ast.specs.declared.refusal.Refusal.{Refusal}
use Rattle.lotos_ast.specs.declared.spec.Spec.{Spec}
use Rattle.spec_core.specs.Code.{Node, Program}
use Rattle.spec_core.specs.Theories.{Theory}
use Rattle.static_readings.specs.Joins.{Read}
use Rattle.static_readings.specs.ReadsAll.{before}
use Rattle.static_processes.specs.Processes.{Entry, entries}
use Rattle.static_check.specs.Bodies.{Setting, Placed, AreBodiesRead, none_left, one_more}
use Rattle.static_check.specs.Compiled.{setting, process_nodes, body_nodes, assembled, program_if_read}
use Rattle.static_check.specs.Laws.{IsProcessAt, ProcessesStandFirst}

-- a list before which one stands is the list of that one and the others
pub record Begins {A : Type 0} (rest : Option (List A)) (whole : List A) : Type 0 where
  pub first : A
  pub others : List A
  pub left : rest ≡ Some others
  pub parts : whole ≡ first ∷ others

begins : {A : Type 0} (x : Option A) (rest : Option (List A)) (whole : List A) → before x rest ≡ Some whole → Begins rest whole
begins None rest whole e = absurd (none-some whole e)
begins (Some x) None whole e = absurd (none-some whole e)
begins (Some x) (Some xs) whole e = record { first = x; others = xs; left = refl; parts = sym (same_Some (x ∷ xs) whole e) }

one_further : (node : Node) (code : List Node) (k : ℕ) → IsProcessAt code k → IsProcessAt (node ∷ code) (suc k)
one_further node code k p = record { gates = p.gates; variables = p.variables; body = p.body; at = p.at }

-- the first nodes are those of processes, where those of the others are
by_parts : (all : Setting) (entry : Entry) (others : List Entry) (xs : Option (List Placed)) (more : List Node) (bodies : List Placed) → Begins xs bodies
    → ((bs : List Placed) → xs ≡ Some bs → (j : ℕ) → j < length others → IsProcessAt (process_nodes all others bs ++ more) j)
    → (k : ℕ) → k < length (entry ∷ others) → IsProcessAt (process_nodes all (entry ∷ others) bodies ++ more) k
by_parts all entry others xs more bodies p those k w =
    subst (λ bs. IsProcessAt (process_nodes all (entry ∷ others) bs ++ more) k) (sym p.parts) (by_number k w)
  where
    by_number : (k : ℕ) → k < length (entry ∷ others) → IsProcessAt (process_nodes all (entry ∷ others) (p.first ∷ p.others) ++ more) k
    by_number zero w = record { gates = _; variables = _; body = _; at = refl }
    by_number (suc k) w = one_further _ (process_nodes all others p.others ++ more) k (those p.others p.left k (omega arith))

-- the first nodes are those of processes, whatever stands behind them
stands : (all : Setting) {number from end : ℕ} (es : List Entry) (found : Option (List Placed)) (rs : List Refusal)
    → AreBodiesRead all number from end es found rs → (bodies : List Placed) → found ≡ Some bodies → (more : List Node) (k : ℕ) → k < length es
    → IsProcessAt (process_nodes all es bodies ++ more) k
stands all es found rs none_left bodies e more k within = absurd (omega arith)
stands all es found rs (one_more entry others x xs rb rest body left_over) bodies e more k within =
    by_parts all entry others xs more bodies (begins _ xs bodies e) (λ bs left j w. stands all others xs rest left_over bs left more j w) k within

made : (theory : Theory) (spec : Spec) (program : Program) (bodies : Option (List Placed)) (number from end : ℕ) (start : Option Read) (rs : List Refusal)
    → AreBodiesRead (setting theory spec) number from end (entries spec) bodies rs → Some program ≡ program_if_read theory spec bodies end start
    → (program.processes ≡ length (entries spec)) × ((k : ℕ) → k < program.processes → IsProcessAt program.code k)
made theory spec program None number from end start rs r e = absurd (none-some program (sym e))
made theory spec program (Some bodies) number from end None rs r e = absurd (none-some program (sym e))
made theory spec program (Some bodies) number from end (Some start) rs r e = by_equation (same_Some program whole e)
  where
    whole : Program
    whole = assembled theory spec bodies (record { from = end; read = start })

    by_equation : program ≡ whole → (program.processes ≡ length (entries spec)) × ((k : ℕ) → k < program.processes → IsProcessAt program.code k)
    by_equation same = (
      ap (λ p. p.processes) same,
      λ k w. subst (λ p. IsProcessAt p.code k) (sym same)
          (stands (setting theory spec) (entries spec) (Some bodies) rs r bodies refl (body_nodes bodies ++ start.nodes) k (subst (λ p. k < p.processes) same w)),
    )

pub processes_stand_first : ProcessesStandFirst
processes_stand_first theory spec program c =
    made theory spec program c.bodies 0 (length (entries spec)) c.from c.start c.body_refusals c.are_read c.is_program
