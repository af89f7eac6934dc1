-- What an offer of the user comes to. (This profile.)
use Rattle.std.specs.Prelude.{ℕ, ◌≡◌}
use Rattle.spec_core.specs.Lists.{Each}
use Rattle.spec_core.specs.Terms.{term_of}
use Rattle.rule_model.specs.declared.reply.Reply.{Reply}
use Rattle.rule_model.specs.Answers.{Answer, answer_of, spent, too_large}
use Rattle.rule_model.specs.Wishes.{Wish}
use Rattle.script_offers.specs.declared.fault.WishFault.{WishFault}
use Rattle.script_offers.specs.declared.fault.WishFault.TheVariants.{Spent, TooLarge, Memory}
use Rattle.script_offers.specs.Faults.{IsFaultOf}
use Rattle.script_offers.specs.Given.{IsValuedWithin, given_by}
use Rattle.script_offers.specs.Valued.{IsValuedWish}
use Rattle.script_text.specs.Wishes.{Wished}
use Rattle.board_core.specs.Views.{BoardView, program, state}
use Rattle.simulator_steps.specs.declared.asking.Answered.{Answered}
use Rattle.simulator_steps.specs.declared.asking.Answered.TheVariants.{Told}
use Rattle.simulator_steps.specs.Asking.{IsAnswered}

-- after so many actions, the answer tells which term has no value, and why
abbrev pub TellsFault : ℕ → WishFault → Answer → Type 0
TellsFault at (Spent t) answer = answer ≡ spent at (term_of t)
TellsFault at (TooLarge t) answer = answer ≡ too_large at (term_of t)
TellsFault at Memory answer = ⊥

-- the answer tells the first term that the offer gives which has no value within the budget, or meets one that is too large
pub record TellsOfTerm (v : BoardView) (w : Wished) (answer : Answer) : Type 0 where
  pub fault : WishFault
  pub first : IsFaultOf (program v).theory v.settings.budget (given_by w.fields) fault
  pub tells : TellsFault (state v).actions fault answer

-- The offer, with the values of its terms, is asked and answered, where each has one within the budget; or a term of it has none, and nothing
-- changes.
pub data ComesOfOffer (old new : BoardView) (w : Wished) (answered : Answered) : Type 0 where
  is_asked : (o : Wish) → IsValuedWish (program old).theory w o →
      Each (IsValuedWithin (program old).theory old.settings.budget) (given_by w.fields) → IsAnswered old new o.offer answered →
      ComesOfOffer old new w answered
  is_without : (reply : Reply) → answered ≡ Told reply → TellsOfTerm old w (answer_of reply) → new ≡ old → ComesOfOffer old new w answered
