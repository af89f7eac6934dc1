use Rattle.std.proofs.Common.{◌∙◌, [], Some, IsSome, ap, sym, subst, refl}
use Rattle.std.proofs.lemmas.List.{append-nil}
use Rattle.std.proofs.lemmas.Result.{IfOk-weaker}
use Rattle.trace_text.specs.Formats.{rules_text}
use Rattle.trace_text.specs.Names.{names_with}
use Rattle.trace_text.specs.Trace.{tree_text}
use Rattle.trace_reader.proofs.Ends.{nothing_tree}
use Rattle.trace_reader.proofs.rules.read_rules.Goals as goal

pub returns-in-One-clause-finds : goal.returns-in-One-clause-finds
returns-in-One-clause-finds c =
    IfOk-weaker c.read_tree.result _ _ (λ r f d fits e.
    let t = tree_text (names_with c.args.vocabulary.now) d in
    let q = f d [] fits (nothing_tree [] refl) (e ∙ ap (λ g. Some (rules_text g c.args.tree.now t)) c.in-One.is ∙ ap Some (sym (append-nil t))) in
    (q.0, subst IsSome (sym q.1) refl)) c.read_tree.ensures.finds
