use Rattle.std.proofs.Common.{rules, ℕ, ◌≡◌, ◌<◌, ◌∙◌, None, sym, ap, subst, below_more, length, arith}
use Rattle.value_text.specs.Values.{name_at}
use Rattle.trace_reader.specs.Cursors.{Takes, ending_there, past, size}
use Rattle.trace_reader.proofs.Naming.{name_there, named_here, named_nowhere, taken_not}
use Rattle.trace_reader.proofs.named.read_named.Goals as goal

pub returns-in-Ok-clause-finds : goal.returns-in-Ok-clause-finds
returns-in-Ok-clause-finds c x rest fits ends e =
    let at : name_at c.args.names.now c.loop-i.i ≡ c.as_bytes.result.now =
    name_there c.args.names.now c.loop-i.i c.index-names-i.result c.loop-i-test.true c.index-names-i.is ∙ search rules in
    let place : c.in-Ok.place ≡ c.loop-i.i = search rules in
    let one =
    named_here c.args.names.now c.requires.identifiers c.requires.differ c.loop-i.i c.args.cursor.now c.takes_name.new.self c.takes_name.result
    c.loop-i-test.true
    (subst (λ s. Takes (ending_there (past (name_at c.args.names.now c.loop-i.i) s)) s c.takes_name.result c.takes_name.new.self)
    c.loop-i.invariant.here
    (subst (λ w. Takes (ending_there (past w c.loop-i.cursor)) c.loop-i.cursor c.takes_name.result c.takes_name.new.self) (sym at)
    c.takes_name.ensures.takes)) c.if-takes_name.true x rest fits ends e in
    (place ∙ one.0, one.1)

pub returns-in-Ok-clause-fewer : goal.returns-in-Ok-clause-fewer
returns-in-Ok-clause-fewer c = omega (arith, c.takes_name.ensures.fewer, ap size c.loop-i.invariant.here)

pub loop-i-preserved : goal.loop-i-preserved
loop-i-preserved c =
    let at : name_at c.args.names.now c.loop-i.i ≡ c.as_bytes.result.now =
    name_there c.args.names.now c.loop-i.i c.index-names-i.result c.loop-i-test.true c.index-names-i.is ∙ search rules in
    let no =
    taken_not (ending_there (past c.as_bytes.result.now c.loop-i.cursor)) c.loop-i.cursor c.takes_name.new.self c.takes_name.result
    c.takes_name.ensures.takes c.if-takes_name.false in
    record {
      here = no.1 ∙ c.loop-i.invariant.here;
      none =
          below_more _ _ c.loop-i.invariant.none
          (ap (λ w. ending_there (past w c.args.cursor.now)) at
          ∙ ap (λ s. ending_there (past c.as_bytes.result.now s)) (sym c.loop-i.invariant.here) ∙ no.0);
    }

pub returns-clause-finds : goal.returns-clause-finds
returns-clause-finds c x rest fits ends e =
    let all : (j : ℕ) → j < length c.args.names.now → ending_there (past (name_at c.args.names.now j) c.args.cursor.now) ≡ None =
    λ j within. c.loop-i.invariant.none j (let n = c.loop-i-test.false in omega (arith, n, within)) in
    absurd (named_nowhere c.args.names.now c.requires.identifiers c.requires.differ c.args.cursor.now all x rest fits ends e)
