use Rattle.session_threads.proofs.serving.make.Goals as goal

pub call-requires-clause-values : goal.call-requires-clause-values
call-requires-clause-values g c = c.requires.gate.0.1
