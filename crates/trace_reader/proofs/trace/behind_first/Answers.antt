use Rattle.std.proofs.Common.{rules, ◌≡◌, ◌≢◌, ◌++◌, ℕ, List, subst}
use Rattle.std.specs.Prelude.{MatchOption}
use Rattle.std.proofs.lemmas.Bool.Decides.{Decides-eqb}
use Rattle.std.proofs.lemmas.Slice.Eq.{strip_prefix_is}
use Rattle.trace_text.specs.Formats.{first_line}
use Rattle.trace_reader.proofs.trace.behind_first.Goals as goal

pub returns : goal.returns
returns c =
    let prefix : c.as_bytes.result.now ≡ first_line c.args.format = search rules in
    subst (λ p. MatchOption c.strip_prefix.result ((lines : List ℕ) → c.args.text.now ≢ p ++ lines) (λ x. c.args.text.now ≡ p ++ x.now)) prefix
    (strip_prefix_is Decides-eqb c.args.text.now c.as_bytes.result.now c.strip_prefix.result c.strip_prefix.ensures.cases)
