-- What a worker finds in its turn.
use Rattle.std.proofs.Common.{ℕ, ◌<◌, ◌≡◌, ◌∙◌, sym, ap, subst, arith, List, length}
use Rattle.std.proofs.lemmas.List.{length-append}
use Rattle.turn_lock.specs.Entries.{Begins}
use Rattle.spec_core.specs.Code.{program_of}
use Rattle.session_board.specs.declared.line.Line.{Line}
use Rattle.session_board.specs.declared.shared.Work.{Work}
use Rattle.session_board.specs.declared.shared.Work.TheVariants as work
use Rattle.session_board.specs.Lines.{AllHaveLeft}
use Rattle.rule_model.specs.Events.{OfferName}
use Rattle.board_core.specs.declared.job.Job.{Job}
use Rattle.board_core.specs.Views.{BoardView}
use Rattle.board_core.specs.Working.{IsOfValues}
use Rattle.session_board.specs.declared.fixed.FixedPart.{FixedPart}
use Rattle.session_board.specs.declared.shared.Look.{Look}
use Rattle.session_board.specs.declared.shared.Look.TheVariants as look
use Rattle.session_board.specs.declared.spot.Spot.{Spot}
use Rattle.session_board.specs.declared.turning.Turn.TheVariants as turn
use Rattle.session_board.specs.Looks.{ComesOfWork, LooksOn}
use Rattle.session_board.specs.Shared.{SharedView, fixed_part, lines}
use Rattle.session_board.specs.Turning.{ComesOfTurn}
use Rattle.session.specs.Sessions.{SessionView, IsGiven}
use Rattle.session.specs.Working.{ComesOfSeat, OnLook, OnWork}

-- a list that goes on from one that is longer than the first is longer than it
longer_on : (seen old new : List Line) → Begins seen old → length old < length new → length seen < length new
longer_on seen old new begins more = omega (arith, ap length begins.1 ∙ length-append seen begins.0, more)

-- what the board tells of the turn, the seat has seen
pub comes_of_seat : (clients : ℕ) (seen now : List Line) (v w : SharedView) (found : Work) → Begins seen (lines v) → now ≡ lines w →
    w.board.session.clients ≡ clients → ComesOfWork v w found → ComesOfSeat clients seen now found
comes_of_seat clients seen now v w (work.Free job) begins is same h = tt
comes_of_seat clients seen now v w work.Settled begins is same h =
    subst (λ l. length seen < length l) (sym is) (longer_on seen (lines v) (lines w) begins h.1)
comes_of_seat clients seen now v w work.Idle begins is same h =
    subst (λ l. AllHaveLeft clients l → ⊥) (sym is) (subst (λ k. AllHaveLeft k (lines w) → ⊥) same h.1)
comes_of_seat clients seen now v w work.Over begins is same h =
    subst (λ l. AllHaveLeft clients l) (sym is) (subst (λ k. AllHaveLeft k (lines w)) same h.1)

-- a job that a turn hands out has a tree that chooses values, if it has one
module _ (s : SessionView) (v w : SharedView) (same : fixed_part v ≡ s.lock.fixed) where
  by_turn : (job : Job) → ComesOfTurn v.board w.board (turn.Free job) → IsOfValues (program_of s.lock.fixed.checked) job
  by_turn job h =
      subst (λ k. IsOfValues (program_of k) job) (h.1.0.0.0 ∙ ap (λ (f : FixedPart). f.checked) same) h.2.values

  pub given_by_work : (found : Work) → ComesOfWork v w found → OnWork (IsGiven s) found
  given_by_work (work.Free taken) h = by_turn taken.job h
  given_by_work work.Settled h = tt
  given_by_work work.Idle h = tt
  given_by_work work.Over h = tt

  pub given_by_look : (name : OfferName) (spot : Spot) (found : Look) → LooksOn v w name spot found → OnLook (IsGiven s) found
  given_by_look name spot (look.Answered reply) h = tt
  given_by_look name spot (look.Free taken) h = by_turn taken.job h.1
  given_by_look name spot look.Settled h = tt
  given_by_look name spot look.Idle h = tt
