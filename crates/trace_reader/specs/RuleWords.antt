-- With which word the text of a tree of rules begins.
use Rattle.std.specs.Prelude.{ℕ, List, codes}
use Rattle.rule_model.specs.Derivations.{Derivation, chl, chr, guard, letting, parl, parr, hiding, pass}
use Rattle.rule_model.specs.Derivations.{enstep, enend, disstep, disend, distake, calling, rel}
use Rattle.trace_reader.specs.declared.rule_word.Unary.{Unary}
use Rattle.trace_reader.specs.declared.rule_word.Unary.TheVariants.{Chl, Chr, Guard, Let, Parl, Parr, Hide, Pass, Enstep}
use Rattle.trace_reader.specs.declared.rule_word.Unary.TheVariants.{Enend, Disstep, Disend, Distake, Call, Rel}
use Rattle.trace_reader.specs.declared.rule_word.RuleWord.{RuleWord}
use Rattle.trace_reader.specs.declared.rule_word.RuleWord.TheVariants.{Pre, Int, Exit, Val, Gate, Both, Over}

abbrev pub unary_word : Unary → List ℕ
unary_word Chl = codes "chl("
unary_word Chr = codes "chr("
unary_word Guard = codes "guard("
unary_word Let = codes "let("
unary_word Parl = codes "parl("
unary_word Parr = codes "parr("
unary_word Hide = codes "hide("
unary_word Pass = codes "pass("
unary_word Enstep = codes "enstep("
unary_word Enend = codes "enend("
unary_word Disstep = codes "disstep("
unary_word Disend = codes "disend("
unary_word Distake = codes "distake("
unary_word Call = codes "call("
unary_word Rel = codes "rel("

-- the tree of such a rule over the tree of its part
abbrev pub over : Unary → Derivation → Derivation
over Chl d = chl d
over Chr d = chr d
over Guard d = guard d
over Let d = letting d
over Parl d = parl d
over Parr d = parr d
over Hide d = hiding d
over Pass d = pass d
over Enstep d = enstep d
over Enend d = enend d
over Disstep d = disstep d
over Disend d = disend d
over Distake d = distake d
over Call d = calling d
over Rel d = rel d

abbrev pub rule_word : RuleWord → List ℕ
rule_word Pre = codes "pre"
rule_word Int = codes "int"
rule_word Exit = codes "exit"
rule_word Val = codes "val["
rule_word Gate = codes "gate["
rule_word Both = codes "both("
rule_word (Over rule) = unary_word rule
