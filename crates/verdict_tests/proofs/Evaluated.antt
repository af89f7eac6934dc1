-- What is its own value is one.
use Rattle.std.proofs.Common.{ℕ, ◌≡◌, ◌∙◌, sym, List}
use Rattle.spec_core.specs.Terms.{TermTree}
use Rattle.spec_core.specs.Theories.{Theory}
use Rattle.rule_model.specs.declared.rules.Slot.TheVariants.{Of}
use Rattle.rewriter.specs.Answers.{SpellsValue}
use Rattle.node_verdict.specs.Choosing.{ChoosesValue}

pub own_value : (theory : Theory) (t : TermTree) (budget : ℕ) (own v : List ℕ) → SpellsValue theory t budget own → own ≡ v →
    ChoosesValue theory (Of v)
own_value theory t budget own v found same = (found.value, sym same ∙ found.spelled, found.has.is_value)
