use Rattle.std.proofs.Common.{◌≡◌, ◌≤◌, ◌↔◌, ◌++◌, ◌∙◌, IsTrue, List, Option, [], ap, length, map, rules, string_bytes, subst, sym}
use Rattle.std.specs.Vec.{vec_len}
use Rattle.std.proofs.lemmas.Bool.{eqb-true}
use Rattle.std.proofs.lemmas.Result.{IfOk-weaker}
use Rattle.spec_core.specs.declared.code.Checked.{Checked}
use Rattle.spec_core.specs.Code.{program_of}
use Rattle.rule_model.specs.declared.action.Action.{Action}
use Rattle.trace_text.specs.Names.{names_in}
use Rattle.board_core.specs.Views.{program, state, tree}
use Rattle.board_laws.specs.Next.{HasEnded}
use Rattle.board_lists.specs.declared.list.Candidate.{Candidate}
use Rattle.simulator.specs.Menus.{action_in, menu_limit, more_line, step_lines}
use Rattle.simulator.proofs.Menus.{few_listed, menu_of, menu_of_none, none_long}
use Rattle.simulator.proofs.menu.menu_text.Goals as goal

pub returns-then-is_empty-clause-text : goal.returns-then-is_empty-clause-text
returns-then-is_empty-clause-text c =
    let v = c.args.board.now in
    let listing = c.args.listing.now in
    let long : length listing.candidates.items ≡ vec_len listing.candidates = search rules in
    let zero : vec_len listing.candidates ≡ 0 = eqb-true (vec_len listing.candidates) 0 (sym c.is_empty.ensures ∙ c.if-is_empty.true) in
    let none : listing.candidates.items ≡ [] = none_long listing.candidates.items (long ∙ zero) in
    let last : c.last.result.now ≡ (state v).last = search rules in
    let decides : IsTrue c.has_ended-ended.result ↔ HasEnded (state v).last =
    subst (λ (l : Option Action). IsTrue c.has_ended-ended.result ↔ HasEnded l) last c.has_ended-ended.ensures in
    let text : string_bytes c.in_ok-from_str.field-0 ≡ c.word.result.now = search rules in
    menu_of_none (program v) v.settings (state v) (tree v) listing c.requires.listing none c.has_ended-ended.result decides
    (string_bytes c.in_ok-from_str.field-0) (λ h. text ∙ c.word.ensures.ended h) (λ f h. text ∙ c.word.ensures.beyond f h)
    (λ f h. text ∙ c.word.ensures.deadlock f h)

pub steps_text-requires : goal.steps_text-requires
steps_text-requires c =
    let v = c.args.board.now in
    let few =
    few_listed (program v) v.settings (state v) c.log_is_a_derivation.ensures.ready (tree v) menu_limit c.args.listing.now c.requires.listing
    in
    record { few = subst (λ (cs : List Candidate). length cs ≤ menu_limit) (sym c.deref.ensures.value) few }

pub returns-clause-text : goal.returns-clause-text
returns-clause-text c =
    let v = c.args.board.now in
    let listing = c.args.listing.now in
    IfOk-weaker c.steps_text.result _ _
    (λ text e.
    menu_of (program v) v.settings (state v) (tree v) listing c.requires.listing (λ none. search (none, rules)) (string_bytes text)
    (e
    ∙ ap (λ (k : Checked). step_lines (names_in (program_of k)) 1 (map action_in c.deref.result.now) ++ more_line listing.more) c.checked.ensures
    ∙ ap (λ (cs : List Candidate). step_lines (names_in (program v)) 1 (map action_in cs) ++ more_line listing.more) c.deref.ensures.value))
    c.steps_text.ensures

pub returns-clause-few : goal.returns-clause-few
returns-clause-few c =
    let v = c.args.board.now in
    IfOk-weaker c.steps_text.result _ (λ text. length c.args.listing.now.candidates.items ≤ menu_limit)
    (λ text e.
    few_listed (program v) v.settings (state v) c.log_is_a_derivation.ensures.ready (tree v) menu_limit c.args.listing.now c.requires.listing)
    c.steps_text.ensures
