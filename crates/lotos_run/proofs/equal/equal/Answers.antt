use Rattle.std.proofs.Common.{◌≡◌, sym, subst, take}
use Rattle.std.proofs.lemmas.Result.{IfOk-weaker}
use Rattle.lotos_outside.specs.Shelf.{OnFetched}
use Rattle.lotos_run.specs.Outside.{shelved}
use Rattle.lotos_run.proofs.Equals.{compared_due}
use Rattle.lotos_run.proofs.equal.equal.Goals as goal

pub returns-in-Ok-clause-due : goal.returns-in-Ok-clause-due
returns-in-Ok-clause-due g c =
    IfOk-weaker c.compared_in.result _ _
    (λ a h. compared_due (shelved (g.F.Shelf.files c.args.shelf.now) (g.F.Shelf.failed c.args.shelf.now) (g.F.Shelf.failed c.fetch.new.shelf))
    c.args.specification.now c.args.first.now c.args.second.now c.deref.result.now c.args.budget a.text.items
    (subst (λ b. OnFetched (g.F.Shelf.files c.args.shelf.now) c.args.specification.now (λ text. b ≡ take 4194305 text))
    (sym c.deref.ensures.value) c.in-Ok.ensures.ok) a.status h)
    c.compared_in.ensures
