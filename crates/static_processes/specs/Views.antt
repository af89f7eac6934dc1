-- What the definitions see of the values of the code.
use Rattle.lotos_ast.specs.declared.spec.Process.{Process, fold-Process}
use Rattle.static_processes.specs.Processes as processes
use Rattle.static_processes.specs.Processes.{Defined, defined_by}
use Rattle.static_processes.specs.declared.entry.Entry.{Entry}

-- what a process's definition says
abbrev pub defined : Process → Defined
defined = fold-Process (Unit {0}) Defined (λ item. tt) (λ p. defined_by p)

abbrev pub entry_of : Entry → processes.Entry
entry_of e = record { process = defined e.process.now; around = e.around.items }
