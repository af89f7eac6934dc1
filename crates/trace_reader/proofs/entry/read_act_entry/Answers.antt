use Rattle.std.proofs.Common.{◌++◌, ◌∙◌, ap, codes}
use Rattle.rule_model.specs.Derivations.{derivation_of}
use Rattle.rule_model.specs.Events.{acted}
use Rattle.trace_text.specs.Formats.{rules_text}
use Rattle.trace_text.specs.Names.{names_with}
use Rattle.trace_text.specs.Trace.{by_text, tree_text}
use Rattle.trace_reader.specs.Cursors.{past}
use Rattle.trace_reader.proofs.Ends.{by_ends, rules_by}
use Rattle.trace_reader.proofs.entry.read_act_entry.Goals as goal

pub returns-clause-finds : goal.returns-clause-finds
returns-clause-finds c action d by fits fits_tree fits_by e =
    let names = names_with c.args.vocabulary.now in
    let rules = rules_text c.args.format c.args.tree.now (tree_text names d) in
    let one = c.in_ok-action.ensures.finds action (by_text by ++ (codes " rules " ++ rules)) fits (by_ends by rules) e in
    let two = c.read_by-by.ensures.finds by (codes " rules " ++ rules) fits_by (rules_by rules) one.1 in
    let three = c.skip.ensures ∙ ap (past (codes " rules ")) two.1 in
    let q = c.in_ok-rules.ensures.finds d fits_tree three in (
      ap (λ z. acted z (derivation_of c.in_ok-rules.rules) c.read_by-by.result) one.0 ∙ ap (λ z. acted action z c.read_by-by.result) q.0
          ∙ ap (acted action d) two.0,
      q.1,
    )
