use Rattle.std.proofs.Common.{ℕ, ◌≡◌, length, rules, string_bytes, subst, sym}
use Rattle.board_core.specs.Views.{program, state}
use Rattle.simulator.specs.Menus.{HasSteps}
use Rattle.simulator.proofs.Menus.{counted}
use Rattle.simulator.proofs.answering.show_menu.Goals as goal

pub returns-in_ok-text-in-Steps-clause-counts : goal.returns-in_ok-text-in-Steps-clause-counts
returns-in_ok-text-in-Steps-clause-counts c =
    let v = c.steps.new.board in
    let count : c.len-count.result ≡ length c.in-Steps.listing.candidates.items = search rules in
    subst (λ (n : ℕ). HasSteps (program v) v.settings (state v) n) (sym count)
    (counted (program v) v.settings (state v) (string_bytes c.in_ok-text-in-Steps.text) (length c.in-Steps.listing.candidates.items)
    c.in_ok-text-in-Steps.ensures.text)
