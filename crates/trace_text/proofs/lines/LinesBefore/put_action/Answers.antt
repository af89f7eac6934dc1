use Rattle.std.proofs.Common.{rules, ◌≡◌, ◌∙◌, ◌++◌, ap, codes, append_assoc, string_bytes, List, ℕ}
use Rattle.rule_model.specs.Derivations.{derivation_of}
use Rattle.rule_model.specs.Events.{acted}
use Rattle.trace_text.specs.declared.format.Format.TheVariants.{Two}
use Rattle.trace_text.specs.Formats.{behind, format_line, point_text, rules_text}
use Rattle.trace_text.specs.Names.{names_with}
use Rattle.trace_text.specs.Trace.{action_text, by_text, tree_text}
use Rattle.trace_text.proofs.Answered.{on_ok}
use Rattle.trace_text.proofs.lines.LinesBefore.put_action.Goals as goal

pub returns-clause-text : goal.returns-clause-text
returns-clause-text c =
    let names = names_with c.args.vocabulary.now in
    let action = c.args.action.now in
    let d = derivation_of c.args.rules.now in
    let event = acted action d c.args.by in
    let out = string_bytes c.args.out.now in
    let tree : string_bytes c.put_tree.new.out ≡ tree_text names d = search rules in
    let before_is : c.as_str.result.now ≡ string_bytes c.args.self.now.tree = search rules in
    let tree_is : c.as_str-2.result.now ≡ tree_text names d = search rules in
    let written : List ℕ → List ℕ → List ℕ =
    λ b t. out ++ (codes "act " ++ action_text names action ++ by_text c.args.by ++ codes " rules " ++ rules_text Two b t ++ codes "\n") in
    on_ok c.put_point.result (λ f before h.
    let point = point_text Two (behind names before event) event in
    f (behind names before event) (c.in_ok-pass_act.ensures.stands names before action d h tree) (c.in_ok-pass_act.ensures.format ∙ c.requires.two) action d c.args.by
    ∙ ap (λ o. o ++ point)
    (c.in_ok-put_act.ensures ∙ ap (λ b. written b c.as_str-2.result.now) (before_is ∙ h.tree c.requires.two) ∙ ap (written before.tree) tree_is)
    ∙ append_assoc out (format_line names Two before.tree event ++ codes "\n") point) c.put_point.ensures

pub returns-clause-stands : goal.returns-clause-stands
returns-clause-stands c =
    let names = names_with c.args.vocabulary.now in
    let d = derivation_of c.args.rules.now in
    let tree : string_bytes c.put_tree.new.out ≡ tree_text names d = search rules in
    on_ok c.put_point.result (λ f before h. c.in_ok-pass_act.ensures.stands names before c.args.action.now d h tree) c.put_point.ensures
