use Rattle.std.proofs.lemmas.Bool.Decides.{Decides-eqb}
use Rattle.std.proofs.lemmas.Slice.Eq.{strip_prefix_is}
use Rattle.trace_reader.proofs.Behind.{stripped}
use Rattle.trace_reader.proofs.cursor.behind.Goals as goal

pub returns-clause-behind : goal.returns-clause-behind
returns-clause-behind c =
    stripped c.args.word.now c.args.text.now c.strip_prefix.result
    (strip_prefix_is Decides-eqb c.args.text.now c.args.word.now c.strip_prefix.result c.strip_prefix.ensures.cases)
