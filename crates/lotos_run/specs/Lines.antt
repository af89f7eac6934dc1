-- Lines that several commands print.
use Rattle.std.specs.Prelude.{ℕ, List, [], ◌++◌, codes, decimal}
use Rattle.lotos_ast.specs.declared.text_kind.TextKind.{TextKind}
use Rattle.lotos_ast.specs.declared.text_kind.TextKind.TheVariants.{Long, Form, Client, Gate, Sort, Term}
use Rattle.spec_core.specs.Terms.{TermTree}
use Rattle.spec_core.specs.TermText.{term_text}
use Rattle.spec_core.specs.Theories.{Theory}

-- what is wrong with a line, in a word
abbrev pub kind_text : TextKind → List ℕ
kind_text Long = codes "long"
kind_text Form = codes "form"
kind_text Client = codes "client"
kind_text Gate = codes "gate"
kind_text Sort = codes "sort"
kind_text Term = codes "term"

-- a script, a term or a trace that isn't as it has to be: its line, and what is wrong with it
abbrev pub script_refusal : ℕ → TextKind → List ℕ
script_refusal line kind = codes "script refused " ++ (decimal line ++ (codes " " ++ (kind_text kind ++ codes "\n")))

-- a ground term, behind a word
abbrev pub term_line : List ℕ → Theory → TermTree → List ℕ
term_line word theory t = word ++ (term_text theory.sorts theory.operations [] t ++ codes "\n")
