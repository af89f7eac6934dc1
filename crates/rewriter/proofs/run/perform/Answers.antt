use Rattle.std.proofs.Common.{◌∷◌, sym, subst}
use Rattle.std.proofs.lemmas.Result.{IfErr-weaker, IfOk-weaker}
use Rattle.spec_core.specs.Theories.{theory_of}
use Rattle.spec_core.proofs.Options.{if_ok_two}
use Rattle.rewriter.specs.Machine.{Keeps, Exceeds}
use Rattle.rewriter.specs.Runs.{Coming, IsReady, MeetsLarge}
use Rattle.spec_core.specs.Lists.{Each}
use Rattle.value_nodes.specs.Nodes.{IsNode}
use Rattle.rewriter.proofs.Loop.{put_kept, put_spent, put_counted, step_node}
use Rattle.rewriter.proofs.run.perform.Goals as goal

pub put-requires-clause-there : goal.put-requires-clause-there
put-requires-clause-there c = step_node c.args.step c.in-Put.node c.in-Put.is c.requires.ready

pub returns-in-Put-clause-kept : goal.returns-in-Put-clause-kept
returns-in-Put-clause-kept c =
    let t = theory_of c.args.algebra.now in
    let own = c.requires.ready.own c.in-Put.node (step_node c.args.step c.in-Put.node c.in-Put.is c.requires.ready) in
    if_ok_two c.put.result
    (λ u p f. put_kept t c.args.nodes.now c.args.step c.in-Put.node c.args.todo.now c.args.values.now c.put.new.values c.args.uses u
    c.requires.executable.orthogonal.closed own c.in-Put.is p f)
    c.put.ensures.pushed c.put.ensures.counted

pub returns-in-Put-clause-ready : goal.returns-in-Put-clause-ready
returns-in-Put-clause-ready c =
    let t = theory_of c.args.algebra.now in
    let at = step_node c.args.step c.in-Put.node c.in-Put.is c.requires.ready in
    if_ok_two c.put.result
    (λ u p f. record {
      steps = c.requires.ready.steps.1;
      values = subst (Each (IsNode c.args.nodes.now)) (sym p) (at, c.requires.ready.values);
      own = c.requires.ready.own;
      small = c.requires.ready.small;
      counted = put_counted t c.args.nodes.now c.args.step c.in-Put.node c.args.todo.now c.args.values.now c.put.new.values c.args.uses u
          (c.requires.ready.own c.in-Put.node at) c.in-Put.is p f c.requires.ready.counted;
    })
    c.put.ensures.pushed c.put.ensures.counted

pub returns-in-Put-clause-spent : goal.returns-in-Put-clause-spent
returns-in-Put-clause-spent c =
    let t = theory_of c.args.algebra.now in
    let own = c.requires.ready.own c.in-Put.node (step_node c.args.step c.in-Put.node c.in-Put.is c.requires.ready) in
    IfErr-weaker c.put.result _ _
    (λ e k s. put_spent t c.args.nodes.now c.args.step c.in-Put.node c.args.todo.now c.args.values.now c.args.uses c.args.budget
    c.requires.executable.orthogonal.closed own c.in-Put.is (k s))
    c.put.ensures.spent

pub returns-in-Put-clause-large : goal.returns-in-Put-clause-large
returns-in-Put-clause-large c = IfErr-weaker c.put.result _ _ (λ e k s. absurd (k s)) c.put.ensures.small

pub returns-in-Call-clause-kept : goal.returns-in-Call-clause-kept
returns-in-Call-clause-kept c =
    IfOk-weaker c.call.result _ _
    (λ u k. subst (λ s. Keeps (Coming (theory_of c.args.algebra.now) c.args.nodes.now (s ∷ c.args.todo.now) c.args.values.now) c.args.uses
    (Coming (theory_of c.args.algebra.now) c.call.new.nodes c.call.new.todo c.call.new.values) u) (sym c.in-Call.is)
    (record { back = k.back; on = k.on; met = k.met; large = k.large }))
    c.call.ensures.kept

pub returns-in-Call-clause-spent : goal.returns-in-Call-clause-spent
returns-in-Call-clause-spent c =
    IfErr-weaker c.call.result _ _
    (λ e k s. subst (λ s. Exceeds (Coming (theory_of c.args.algebra.now) c.args.nodes.now (s ∷ c.args.todo.now) c.args.values.now)
    c.args.uses c.args.budget) (sym c.in-Call.is) (k s))
    c.call.ensures.spent

pub returns-in-Call-clause-large : goal.returns-in-Call-clause-large
returns-in-Call-clause-large c =
    IfErr-weaker c.call.result _ _
    (λ e k s. subst (λ s. MeetsLarge (Coming (theory_of c.args.algebra.now) c.args.nodes.now (s ∷ c.args.todo.now) c.args.values.now))
    (sym c.in-Call.is) (k s))
    c.call.ensures.large

pub returns-in-Decide-clause-kept : goal.returns-in-Decide-clause-kept
returns-in-Decide-clause-kept c =
    IfOk-weaker c.decide.result _ _
    (λ u k. subst (λ s. Keeps (Coming (theory_of c.args.algebra.now) c.args.nodes.now (s ∷ c.args.todo.now) c.args.values.now) c.args.uses
    (Coming (theory_of c.args.algebra.now) c.decide.new.nodes c.decide.new.todo c.decide.new.values) u) (sym c.in-Decide.is)
    (record { back = k.back; on = k.on; met = k.met; large = k.large }))
    c.decide.ensures.kept

pub returns-in-Decide-clause-spent : goal.returns-in-Decide-clause-spent
returns-in-Decide-clause-spent c =
    IfErr-weaker c.decide.result _ _
    (λ e k s. subst (λ s. Exceeds (Coming (theory_of c.args.algebra.now) c.args.nodes.now (s ∷ c.args.todo.now) c.args.values.now)
    c.args.uses c.args.budget) (sym c.in-Decide.is) (k s))
    c.decide.ensures.spent

pub returns-in-Decide-clause-large : goal.returns-in-Decide-clause-large
returns-in-Decide-clause-large c =
    IfErr-weaker c.decide.result _ _
    (λ e k s. subst (λ s. MeetsLarge (Coming (theory_of c.args.algebra.now) c.args.nodes.now (s ∷ c.args.todo.now) c.args.values.now))
    (sym c.in-Decide.is) (k s))
    c.decide.ensures.large

pub call-requires-clause-ready : goal.call-requires-clause-ready
call-requires-clause-ready c =
    subst (λ s. IsReady (theory_of c.args.algebra.now) c.args.nodes.now (s ∷ c.args.todo.now) c.args.values.now c.args.uses) c.in-Call.is
    c.requires.ready

pub decide-requires-clause-ready : goal.decide-requires-clause-ready
decide-requires-clause-ready c =
    subst (λ s. IsReady (theory_of c.args.algebra.now) c.args.nodes.now (s ∷ c.args.todo.now) c.args.values.now c.args.uses) c.in-Decide.is
    c.requires.ready
