use Rattle.std.proofs.Common.{rules, arith, ◌∙◌, ◌≡◌, ap, sym, true, [], bytes_eq}
use Rattle.std.proofs.lemmas.Grind.{common_steps}
use Rattle.std.proofs.lemmas.Map.Text.{text_keys}
use Rattle.std.proofs.lemmas.Slice.Eq.{bytes_eq-Decides}
use Rattle.sort_overloads.specs.Variables.{variables_at}
use Rattle.sort_overloads.proofs.InScope.{last_removed}
use Rattle.sort_overloads.proofs.named_variables.NamedVariables.remove_last.Goals as goal

pub returns-in-None : goal.returns-in-None
returns-in-None c = λ other.
    let none : variables_at c.args.self.now c.args.name.now ≡ [] = grind (arith, text_keys) in
    let same : bytes_eq c.args.name.now other ≡ true → variables_at c.args.self.now other ≡ [] =
    λ e. ap (variables_at c.args.self.now) (sym ((bytes_eq-Decides c.args.name.now other).0 e)) ∙ none in
    (search rules) ∙ last_removed (bytes_eq c.args.name.now other) (variables_at c.args.self.now other) same

pub returns-in-Some : goal.returns-in-Some
returns-in-Some c = grind (arith, text_keys, common_steps)
