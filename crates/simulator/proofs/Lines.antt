-- Lines are answered.
use Rattle.std.proofs.Common.{ℕ, ◌≡◌, ◌<◌, ap, subst, arith, List, length, take, Option, Some, None}
use Rattle.spec_core.specs.Code.{program_of}
use Rattle.spec_core.specs.Ready.{IsReady}
use Rattle.decision_trees.specs.Rules.{any}
use Rattle.board_core.specs.Views.{BoardView, program, state, SameSetting}
use Rattle.simulator_lines.specs.Lines.{Asked, menu, step, offered, trace, quit, IsLine}
use Rattle.simulator_steps.specs.declared.choosing.Chosen.TheVariants as chosen
use Rattle.simulator_steps.specs.Choosing.{ComesOfChoice}
use Rattle.simulator_steps.proofs.TwoLists.{both_hold, holds_on}
use Rattle.simulator.specs.declared.answer.SimFault.{SimFault}
use Rattle.simulator.specs.declared.answer.SimFault.TheVariants.{BadLine, NoStep, Memory}
use Rattle.simulator.specs.Menus.{HasSteps, menu_limit}
use Rattle.simulator.specs.Sims.{CountsSteps, ExplainsFault, HasNoAnswer, HasStep, SimView}
use Rattle.simulator.proofs.Menus.{take_short}

-- while the behaviour stays, the last menu is one of it
pub counts_stay : (old new : BoardView) → SameSetting old new → (state new).behaviour ≡ (state old).behaviour → (last : Option ℕ) →
    CountsSteps old last → CountsSteps new last
counts_stay old new setting behaviour None h = tt
counts_stay old new setting behaviour (Some count) h =
    holds_on old new any (λ all. count ≡ length (take menu_limit all)) (ap program_of setting.0.0) setting.1 behaviour h

-- a step of the last menu isn't missing
pub never_missing : (v new : BoardView) → IsReady (program v) → (last : Option ℕ) (n : ℕ) → CountsSteps v last → HasStep last n →
    ComesOfChoice v new n chosen.Missing → ⊥
never_missing v new ready last n counts has missing =
    let there : HasSteps (program v) v.settings (state v) has.count = subst (CountsSteps v) has.steps counts in
    let both =
    both_hold (program v) v.settings (state v) any (λ all. has.count ≡ length (take menu_limit all)) (λ all. length all < n) ready there missing.1
    in
    let same = both.1 in
    let few = both.2 in
    let short = take_short menu_limit both.0 in
    let within = has.within in
    omega (arith, same, few, short, within)

-- what a line has no answer for
pub explained : (old new : SimView) (text : List ℕ) (asked : Asked) → IsLine (program old.board) text asked → (e : SimFault) →
    HasNoAnswer old new asked e → ExplainsFault old new text e
explained old new text asked line BadLine h = absurd h
explained old new text asked line Memory h = h
explained old new text menu line NoStep h = absurd h.0
explained old new text (step n) line NoStep h = ((n, line, h.0), h.1, h.2)
explained old new text (offered w) line NoStep h = absurd h.0
explained old new text trace line NoStep h = absurd h.0
explained old new text quit line NoStep h = absurd h.0
