use Rattle.std.proofs.Common.{◌∙◌, sym, map}
use Rattle.type_contents.specs.Views.{formal_at}
use Rattle.type_contents.proofs.Indexed.{formal_by_linked}
use Rattle.type_contents.proofs.standing.is_formal_by.Goals as goal

pub returns-else-declares_formals : goal.returns-else-declares_formals
returns-else-declares_formals c = λ types h.
    c.is_one_formal.ensures
    ∙ formal_by_linked types (map formal_at c.args.found.now) c.args.body.now c.args.linked.now c.in-Declared.place c.in-Declared.imports c.in-Declared.formals c.in-Declared.sorts c.in-Declared.operations c.in-Declared.equations
    c.in-Declared.is (sym c.declares_formals.ensures ∙ c.if-declares_formals.false) h
