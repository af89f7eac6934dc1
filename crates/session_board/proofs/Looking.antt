-- Looks for an answer, behind the lock.
use Rattle.std.proofs.Common.{◌+◌, ◌≤◌, ◌≡◌, ◌∙◌, sym, ap, subst, List, length, map, drop, take, false, Some}
use Rattle.rule_model.specs.Answers.{Answer}
use Rattle.rule_model.specs.Events.{OfferName, event_of}
use Rattle.board_record.specs.declared.answered.Answered as records
use Rattle.board_record.specs.Answered.{answered_of}
use Rattle.board_core.specs.Views.{BoardView}
use Rattle.session_board.specs.declared.line.Line.{Line}
use Rattle.session_board.specs.declared.shared.Look.{Look}
use Rattle.session_board.specs.declared.shared.Look.TheVariants.{Answered, Free, Settled, Idle}
use Rattle.session_board.specs.declared.spot.Spot.{Spot}
use Rattle.session_board.specs.Answers.{AnswersAll, EndsWithAnswer, IsSpot, first_answer}
use Rattle.session_board.specs.Lines.{actions_after, events_in}
use Rattle.session_board.specs.Looks.{ComesOfLook, IsStepOfLook, IsUnanswered, LooksOn}
use Rattle.session_board.specs.Shared.{HasDrivenLog, SharedView, lines}
use Rattle.session_board.specs.Spots.{found_at}
use Rattle.session_board.proofs.Finding.{answer_spot, end_spot, few_at, found_in}
use Rattle.session_board.proofs.Refusing.{answers_all}
use Rattle.session_board.proofs.Sharing.{running_list, spot_running}

-- what is found where an answer stands
abbrev pub IsAnswerAt : SharedView → Spot → OfferName → Answer → Type 0
IsAnswerAt v place name answer =
    EndsWithAnswer (take place.lines (lines v)) name answer × AnswersAll name.0 (events_in (take place.lines (lines v)))

module _ (v : SharedView) (running : v.halted ≡ false) (spot : Spot) (is : IsSpot (lines v) spot) where
  pub few_actions : spot.actions ≤ spot.lines
  few_actions = few_at v.board.session.entries spot (spot_running v spot running is)

  pub found_at_place : (place : Spot) (name : OfferName) (answered : records.Answered) → HasDrivenLog v.board →
      Some (found_at place answered)
      ≡ first_answer spot.lines spot.actions (map event_of (drop spot.lines v.board.session.entries)) name →
      (IsSpot (lines v) place × (spot.lines ≤ place.lines)) × IsAnswerAt v place name (answered_of answered)
  found_at_place place name answered driven found =
      let entries = v.board.session.entries in
      let e = sym (running_list v running) in
      let r = answer_spot entries spot place name (answered_of answered) (spot_running v spot running is)
      (found_in spot.lines spot.actions (drop spot.lines entries) name (found_at place answered) (sym found)) in
      let ends = subst (λ l. EndsWithAnswer (take place.lines l) name (answered_of answered)) e r.2 in
      ((subst (λ l. IsSpot l place) e r.0, r.1), (ends, answers_all v driven place.lines name (answered_of answered) ends))

  pub none_found : (place : Spot) → place.lines ≡ spot.lines + length (drop spot.lines v.board.session.entries) →
      place.actions ≡ actions_after spot.actions (map event_of (drop spot.lines v.board.session.entries)) →
      IsSpot (lines v) place × (place.lines ≡ length (lines v))
  none_found place long actions =
      let e = sym (running_list v running) in
      let r = end_spot v.board.session.entries spot place (spot_running v spot running is) long actions in
      (subst (λ l. IsSpot l place) e r.0, r.1 ∙ ap length e)

-- what a step leaves to find is no answer

pub finds_none : (old new : BoardView) (all : List Line) (name : OfferName) (spot : Spot) (look : Look) → IsStepOfLook old new look →
    ComesOfLook all name spot look
finds_none old new all name spot (Answered reply) h = absurd h
finds_none old new all name spot (Free taken) h = tt
finds_none old new all name spot Settled h = tt
finds_none old new all name spot Idle h = tt

pub looks_on : (old new : SharedView) (name : OfferName) (spot : Spot) (look : Look) → IsUnanswered old name spot →
    IsStepOfLook old.board new.board look → LooksOn old new name spot look
looks_on old new name spot (Answered reply) none h = absurd h
looks_on old new name spot (Free taken) none h = (none, h)
looks_on old new name spot Settled none h = (none, h)
looks_on old new name spot Idle none h = (none, h)
