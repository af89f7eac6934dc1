-- Why a client's offer isn't made, and why it doesn't leave.
use Rattle.std.proofs.Common.{ℕ, ◌≤◌, ◌≡◌, ◌∙◌, refl, sym, ap, subst, [], ◌∷◌, ◌++◌, Contains, drop, take}
use Rattle.std.proofs.lemmas.List.{take-append-drop}
use Rattle.rule_model.specs.declared.offer.Offer.{Offer}
use Rattle.rule_model.specs.Answers.{Answer}
use Rattle.rule_model.specs.Events.{OfferName, event_of, left}
use Rattle.board_record.specs.Faults.{ExplainsLeave, ExplainsPend}
use Rattle.board_record.specs.declared.faults.LeaveFault.{LeaveFault}
use Rattle.board_record.specs.declared.faults.LeaveFault.TheVariants as leaving
use Rattle.board_record.specs.declared.faults.PendFault.{PendFault}
use Rattle.board_record.specs.declared.faults.PendFault.TheVariants.{NotOpen, AlreadyPending, NoSuchGate, Memory}
use Rattle.rule_model.specs.Legal.{IsIdle}
use Rattle.rule_model.specs.States.{State, after_leave}
use Rattle.log_states.specs.Possible.{HasPending, MayLeave}
use Rattle.board_core.specs.Views.{events, program, state}
use Rattle.session_laws.specs.Answers.{offers_by}
use Rattle.session_board.specs.declared.line.Line.TheVariants.{Happened}
use Rattle.session_board.specs.Answers.{AnswersAll, EndsWithAnswer, HasItsAnswers}
use Rattle.session_board.specs.Faults.{ExplainsNoLeave, ExplainsNoOffer}
use Rattle.session_board.specs.Lines.{events_in}
use Rattle.session_board.specs.Shared.{HasDrivenLog, IsMarked, SharedView, lines}
use Rattle.session_board.proofs.Answering.{answered_not_pending, answered_up_to, idle_answers_all}
use Rattle.session_board.proofs.Leaving.{not_open_has_left, open_hasnt_left}
use Rattle.session_board.proofs.Lists.{events_behind, events_of_lines}

module _ (v : SharedView) (driven : HasDrivenLog v.board) where
  events_are : events_in (lines v) ≡ events v.board
  events_are = events_of_lines v.board.session.entries v.halted

  has_left : (client : ℕ) → 1 ≤ client → client ≤ v.board.session.clients → (Contains (state v.board).open_clients client → ⊥) →
      Contains (events v.board) (left client)
  has_left =
      not_open_has_left (program v.board) v.board.settings v.board.session.clients v.board.stop (events v.board) (state v.board) driven

  pub hasnt_left : (client : ℕ) → Contains (state v.board).open_clients client → Contains (events v.board) (left client) → ⊥
  hasnt_left = open_hasnt_left (program v.board) v.board.settings v.board.session.clients v.board.stop (events v.board) (state v.board) driven

  -- a client that has its answers has no offer pending
  has_none_pending : (client : ℕ) → HasPending (state v.board) client → HasItsAnswers client (lines v) → ⊥
  has_none_pending client pending h =
      answered_not_pending (program v.board) v.board.settings v.board.session.clients v.board.stop (events v.board) (state v.board) client
      (events_in h.known) (events_in h.begins.0) driven
      (sym events_are ∙ ap events_in h.begins.1 ∙ events_behind h.known h.begins.0)
      (ap (offers_by client) (sym events_are) ∙ h.all) h.answered pending

  module _ (new : SharedView) (client : ℕ) (least : 1 ≤ client) (most : client ≤ v.board.session.clients) where
    -- want of memory aside
    pub no_offer : (offer : Offer) (fault : PendFault) → ExplainsPend (program v.board) (state v.board) client offer fault →
        (fault ≡ Memory → IsMarked new) → ExplainsNoOffer v new client offer fault
    no_offer offer NotOpen h marked = has_left client least most h
    no_offer offer AlreadyPending h marked = has_none_pending client h.1
    no_offer offer NoSuchGate h marked = (hasnt_left client h.0, h.2)
    no_offer offer Memory h marked = marked refl

    pub no_leave : (fault : LeaveFault) → ExplainsLeave (state v.board) client fault → (fault ≡ leaving.Memory → IsMarked new) →
        ExplainsNoLeave v new client fault
    no_leave leaving.NotOpen h marked = has_left client least most h.1
    no_leave leaving.Pending h marked = has_none_pending client h
    no_leave leaving.Memory h marked = marked refl

  -- lines that end with an answer to an offer of a client have the answers to all its offers
  pub answers_all : (n : ℕ) (name : OfferName) (answer : Answer) → EndsWithAnswer (take n (lines v)) name answer →
      AnswersAll name.0 (events_in (take n (lines v)))
  answers_all n name answer h =
      let front : events_in (take n (lines v)) ≡ events_in h.before ++ event_of h.entry ∷ [] =
      ap events_in h.ends ∙ events_behind h.before (Happened h.entry ∷ []) in
      subst (AnswersAll name.0) (sym front)
      (answered_up_to (program v.board) v.board.settings v.board.session.clients v.board.stop (events v.board) (state v.board)
      (events_in h.before) (event_of h.entry) (events_in (drop n (lines v))) _ name answer driven
      (sym events_are ∙ ap events_in (sym (take-append-drop n (lines v))) ∙ events_behind (take n (lines v)) (drop n (lines v))
      ∙ ap (λ l. l ++ events_in (drop n (lines v))) front)
      h.says)

-- a client that may leave has its answers then
pub answers_after_leave : (v : SharedView) (driven : HasDrivenLog v.board) (before : State) (client : ℕ) → MayLeave before client →
    state v.board ≡ after_leave before client → AnswersAll client (events_in (lines v))
answers_after_leave v driven before client may after =
    subst (AnswersAll client) (sym (events_of_lines v.board.session.entries v.halted))
    (idle_answers_all (program v.board) v.board.settings v.board.session.clients v.board.stop (events v.board) (state v.board) client driven
    (subst (λ (s : State). IsIdle s client) (sym after) may.idle))
