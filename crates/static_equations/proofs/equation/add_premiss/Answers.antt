use Rattle.std.proofs.Common.{map, subst}
use Rattle.spec_core.specs.Theories.{premise_of}
use Rattle.sort_overloads.specs.Judged.{Adds}
use Rattle.sort_overloads.specs.Views.{context_of}
use Rattle.static_equations.specs.Equalities.{premise_if_read}
use Rattle.static_equations.specs.Premisses.{IsPremissJudged}
use Rattle.static_equations.proofs.Gatherings.{adds-read, adds-unread}
use Rattle.static_equations.proofs.equation.add_premiss.Goals as goal

pub returns-in-None : goal.returns-in-None
returns-in-None c =
    let P = IsPremissJudged (context_of c.args.scope.now) c.args.premiss.now in
    let old = c.args.refusals.now.items in
    let now = c.judge_premiss.new.refusals.items in
    record { judged = adds-unread P (map premise_of c.args.all.now.items) old now (subst (λ z. Adds (P (premise_if_read z)) old now) c.in-None.is c.in_ok-found.ensures.judged) }

pub returns-in_ok-push-in-Some : goal.returns-in_ok-push-in-Some
returns-in_ok-push-in-Some c =
    let P = IsPremissJudged (context_of c.args.scope.now) c.args.premiss.now in
    let old = c.args.refusals.now.items in
    let now = c.judge_premiss.new.refusals.items in
    record {
      judged = adds-read premise_of P c.args.all.now.items c.push.new.self.items c.in-Some.terms old now (c.in_ok-push-in-Some).ensures.items
          (subst (λ z. Adds (P (premise_if_read z)) old now) c.in-Some.is c.in_ok-found.ensures.judged);
    }
