use Rattle.std.proofs.Common.{rules, ◌≡◌, ◌<◌, ◌≤◌, ◌+◌, ◌-◌, ◌∷◌, ◌++◌, ◌∙◌, [], List, arith, ap, sym, subst, Some, None, length, take}
use Rattle.std.proofs.Common.{drop}
use Rattle.spec_core.specs.Theories.{theory_of}
use Rattle.equal_proof.proofs.Running.{grows_itself, step_applies, step_fails, step_lacks, step_unknown, still_pairs}
use Rattle.std.proofs.lemmas.List.{take_rest}
use Rattle.spec_core.specs.Lists.{Each}
use Rattle.spec_core.proofs.Lists.{each_push, each_take}
use Rattle.equal_proof.specs.Certificates.{Sides, Infers}
use Rattle.equal_proof.specs.Pairs.{sides_at, stack_of, IsPair}
use Rattle.equal_proof.proofs.Inferred.{each_from}
use Rattle.equal_proof.proofs.steps.take_step.Goals as goal

pub returns-then-len-count-clause-grown : goal.returns-then-len-count-clause-grown
returns-then-len-count-clause-grown c =
    grows_itself (theory_of c.args.algebra.now) c.args.table.now c.requires.fit

pub returns-then-len-count-clause-fails : goal.returns-then-len-count-clause-fails
returns-then-len-count-clause-fails c =
    λ f. let counts : (taken : List Sides) (put : Sides) → Infers (theory_of c.args.algebra.now) c.args.step.now taken put →
    Some c.in-Some.count ≡ Some (length taken) = search rules in
    let n : length c.args.stack.now.items < c.in-Some.count = omega (arith, c.if-len-count.true) in
    step_lacks (theory_of c.args.algebra.now) c.args.step.now c.args.table.now c.args.stack.now.items c.in-Some.count n counts

pub infer-requires-clause-there : goal.infer-requires-clause-there
infer-requires-clause-there c =
    let part : (take (length c.deref.result.now - (c.len-in-Some.result - c.in-Some.count)) (drop
    (c.len-in-Some.result - c.in-Some.count) c.deref.result.now)) ≡ drop
    (c.len-in-Some.result - c.in-Some.count) c.args.stack.now.items = take_rest c.deref.result.now
    (c.len-in-Some.result - c.in-Some.count) ∙ ap (drop (c.len-in-Some.result - c.in-Some.count)) c.deref.ensures.value in
    subst (Each (IsPair c.args.table.now)) (sym part) (each_from (IsPair c.args.table.now)
    (c.len-in-Some.result - c.in-Some.count) c.args.stack.now.items c.requires.there)

pub returns-in-None-clause-grown : goal.returns-in-None-clause-grown
returns-in-None-clause-grown c =
    grows_itself (theory_of c.args.algebra.now) c.args.table.now c.requires.fit

pub returns-in-None-clause-fails : goal.returns-in-None-clause-fails
returns-in-None-clause-fails c =
    λ f. let counts : (taken : List Sides) (put : Sides) → Infers (theory_of c.args.algebra.now) c.args.step.now taken put →
    None ≡ Some (length taken) = search rules in
    step_unknown (theory_of c.args.algebra.now) c.args.step.now (stack_of c.args.table.now c.args.stack.now.items) counts

pub returns-in-None-2-clause-grown : goal.returns-in-None-2-clause-grown
returns-in-None-2-clause-grown c =
    c.in_ok-infer-in-Some.ensures.grown

pub returns-in-None-2-clause-fails : goal.returns-in-None-2-clause-fails
returns-in-None-2-clause-fails c =
    λ f. let counts : (taken : List Sides) (put : Sides) → Infers (theory_of c.args.algebra.now) c.args.step.now taken put →
    Some c.in-Some.count ≡ Some (length taken) = search rules in
    let part : (take (length c.deref.result.now - (c.len-in-Some.result - c.in-Some.count)) (drop
    (c.len-in-Some.result - c.in-Some.count) c.deref.result.now)) ≡ drop
    (c.len-in-Some.result - c.in-Some.count) c.args.stack.now.items = take_rest c.deref.result.now
    (c.len-in-Some.result - c.in-Some.count) ∙ ap (drop (c.len-in-Some.result - c.in-Some.count)) c.deref.ensures.value in
    let none : (put : Sides) → Infers (theory_of c.args.algebra.now) c.args.step.now (stack_of c.args.table.now (take
    (length c.deref.result.now - (c.len-in-Some.result - c.in-Some.count)) (drop
    (c.len-in-Some.result - c.in-Some.count) c.deref.result.now))) put → ⊥ = search rules in
    let enough : c.in-Some.count ≤ length c.args.stack.now.items = omega (arith, c.if-len-count.false) in
    let all : c.len-in-Some.result ≡ length c.args.stack.now.items = search rules in
    let from : (c.len-in-Some.result - c.in-Some.count) ≡ length c.args.stack.now.items - c.in-Some.count = omega (arith, all) in
    step_fails (theory_of c.args.algebra.now) c.args.step.now c.args.table.now c.args.stack.now.items c.in-Some.count
    (c.len-in-Some.result - c.in-Some.count) enough from counts
    (λ put h. none put (subst (λ ps. Infers (theory_of c.args.algebra.now) c.args.step.now (stack_of c.args.table.now ps) put)
    (sym part) h))

pub returns-in_ok-push-in-Some-2-clause-grown : goal.returns-in_ok-push-in-Some-2-clause-grown
returns-in_ok-push-in-Some-2-clause-grown c =
    c.in_ok-infer-in-Some.ensures.grown

pub returns-in_ok-push-in-Some-2-clause-there : goal.returns-in_ok-push-in-Some-2-clause-there
returns-in_ok-push-in-Some-2-clause-there c =
    λ f. let pair : IsPair c.infer.new.table c.in-Some-2.pair = search rules in
    let e : c.push.new.self.items ≡ take (c.len-in-Some.result - c.in-Some.count) c.args.stack.now.items ++ c.in-Some-2.pair ∷ [] =
    c.in_ok-push-in-Some-2.ensures.items ∙ ap (λ ps. ps ++ c.in-Some-2.pair ∷ []) c.truncate.ensures.items in
    subst (Each (IsPair c.infer.new.table)) (sym e)
    (each_push (IsPair c.infer.new.table) (take (c.len-in-Some.result - c.in-Some.count) c.args.stack.now.items) c.in-Some-2.pair
    (each_take (IsPair c.infer.new.table) (c.len-in-Some.result - c.in-Some.count) c.args.stack.now.items
    (still_pairs c.args.table.now c.infer.new.table c.in_ok-infer-in-Some.ensures.grown.longer c.args.stack.now.items
    c.requires.there)) pair)

pub returns-in_ok-push-in-Some-2-clause-applies : goal.returns-in_ok-push-in-Some-2-clause-applies
returns-in_ok-push-in-Some-2-clause-applies c =
    λ f. let part : (take (length c.deref.result.now - (c.len-in-Some.result - c.in-Some.count)) (drop
    (c.len-in-Some.result - c.in-Some.count) c.deref.result.now)) ≡ drop
    (c.len-in-Some.result - c.in-Some.count) c.args.stack.now.items = take_rest c.deref.result.now
    (c.len-in-Some.result - c.in-Some.count) ∙ ap (drop (c.len-in-Some.result - c.in-Some.count)) c.deref.ensures.value in
    let e : c.push.new.self.items ≡ take (c.len-in-Some.result - c.in-Some.count) c.args.stack.now.items ++ c.in-Some-2.pair ∷ [] =
    c.in_ok-push-in-Some-2.ensures.items ∙ ap (λ ps. ps ++ c.in-Some-2.pair ∷ []) c.truncate.ensures.items in
    let some : Infers (theory_of c.args.algebra.now) c.args.step.now (stack_of c.args.table.now (take (length c.deref.result.now -
    (c.len-in-Some.result - c.in-Some.count)) (drop (c.len-in-Some.result - c.in-Some.count) c.deref.result.now)))
    (sides_at c.infer.new.table c.in-Some-2.pair) = search rules in
    step_applies (theory_of c.args.algebra.now) c.args.step.now c.args.table.now c.infer.new.table c.args.stack.now.items
    c.push.new.self.items (c.len-in-Some.result - c.in-Some.count) c.in-Some-2.pair c.in_ok-infer-in-Some.ensures.grown c.requires.there
    (subst (λ ps. Infers (theory_of c.args.algebra.now) c.args.step.now (stack_of c.args.table.now ps)
    (sides_at c.infer.new.table c.in-Some-2.pair)) part some) e
