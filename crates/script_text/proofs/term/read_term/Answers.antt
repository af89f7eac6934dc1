use Rattle.script_text.proofs.term.read_term.Goals as goal

pub returns-in-Ok-clause-only : goal.returns-in-Ok-clause-only
returns-in-Ok-clause-only c = λ other sort h. (c.in-Ok.ensures.only other sort h).0
