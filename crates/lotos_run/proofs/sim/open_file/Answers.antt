use Rattle.std.proofs.Common.{◌≡◌, sym, subst, take}
use Rattle.std.proofs.lemmas.Result.{IfOk-weaker}
use Rattle.lotos_outside.specs.Shelf.{OnFetched}
use Rattle.lotos_run.specs.Outside.{shelved}
use Rattle.lotos_run.proofs.Sims.{file_opened}
use Rattle.lotos_run.proofs.sim.open_file.Goals as goal

pub returns-in-Ok-clause-opened : goal.returns-in-Ok-clause-opened
returns-in-Ok-clause-opened g c =
    IfOk-weaker c.open_text.result _ _
    (λ opened h. file_opened (shelved (g.F.Shelf.files c.args.shelf.now) (g.F.Shelf.failed c.args.shelf.now) (g.F.Shelf.failed c.fetch.new.shelf))
    c.args.specification.now c.deref.result.now
    (subst (λ b. OnFetched (g.F.Shelf.files c.args.shelf.now) c.args.specification.now (λ text. b ≡ take 4194305 text))
    (sym c.deref.ensures.value) c.in-Ok.ensures.ok) opened h)
    c.open_text.ensures
