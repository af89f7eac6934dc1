use Rattle.std.proofs.Common.{rules, ◌≡◌, ◌<◌, ◌^◌, ◌∙◌, IsSome, ap, sym, subst, refl, length}
use Rattle.std.specs.Prelude.{option_map}
use Rattle.std.proofs.lemmas.Result.{IfOk-weaker}
use Rattle.trace_text.specs.Names.{names_with}
use Rattle.trace_text.specs.Trace.{tree_text}
use Rattle.trace_reader.specs.Fronts.{IsFound}
use Rattle.trace_reader.proofs.Shares.{front_read, front_whole}
use Rattle.trace_reader.proofs.rules.read_shared.Goals as goal

pub returns-in-None-clause-finds : goal.returns-in-None-clause-finds
returns-in-None-clause-finds c d fits e =
    let t = tree_text (names_with c.args.vocabulary.now) d in
    let small : length c.args.tree.now < 2 ^ 64 = search rules in
    let k =
    front_read c.args.tree.now t c.args.cursor.now c.read_number-size.new.cursor c.skip.new.self c.read_number-size.result small
    c.read_number-size.ensures.finds c.skip.ensures e in
    let found =
    front_whole c.args.tree.now t c.read_number-size.result (option_map (λ v. v.items) c.in_ok-behind_front.field-0) k.0
    (λ more s m. c.in_ok-behind_front.ensures more s (c.rest.ensures ∙ k.1 ∙ m)) in
    absurd (subst (λ o. IsFound (option_map (λ v. v.items) o) t) c.in-None.is found)

pub returns-in-Some-clause-finds : goal.returns-in-Some-clause-finds
returns-in-Some-clause-finds c =
    let small : length c.args.tree.now < 2 ^ 64 = search rules in
    let bytes : c.as_slice.result.now ≡ c.in-Some.text.items = search rules in
    IfOk-weaker c.tree_in.result _ _ (λ r f d fits e.
    let t = tree_text (names_with c.args.vocabulary.now) d in
    let k =
    front_read c.args.tree.now t c.args.cursor.now c.read_number-size.new.cursor c.skip.new.self c.read_number-size.result small
    c.read_number-size.ensures.finds c.skip.ensures e in
    let found =
    front_whole c.args.tree.now t c.read_number-size.result (option_map (λ v. v.items) c.in_ok-behind_front.field-0) k.0
    (λ more s m. c.in_ok-behind_front.ensures more s (c.rest.ensures ∙ k.1 ∙ m)) in
    let q = f d fits (bytes ∙ subst (λ o. IsFound (option_map (λ v. v.items) o) t) c.in-Some.is found) in
    (q.0, q.1 (subst IsSome (sym k.1) refl))) c.tree_in.ensures.finds
