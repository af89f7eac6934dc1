use Rattle.std.proofs.Common.{sym, ◌∙◌, map}
use Rattle.spec_core.specs.Theories.{theory_of}
use Rattle.rule_model.specs.Derivations.{derivation_of}
use Rattle.symbolic_plans.specs.Plans.{field_of, plan_of}
use Rattle.symbolic_rules.specs.Tables.{windows_in}
use Rattle.symbolic_trees.specs.Numbers.{trees_at_once}
use Rattle.candidate_search.specs.Searches.{is_wanted, query_of}
use Rattle.candidate_search.proofs.Wanted.{none_at, found_at, passed_at}
use Rattle.candidate_search.proofs.searches.wanted_at.Goals as goal

pub returns-in-None : goal.returns-in-None
returns-in-None c =
    let trees = trees_at_once (theory_of c.args.algebra.now) (windows_in c.args.windows.now) (map field_of c.args.columns.now)
    (plan_of c.args.scheme.now) c.args.choices.now in
    record {
      at = none_at (is_wanted (query_of c.args.search.now)) trees c.args.number (rw c.in-None.is at c.in_ok-nth_at_once.ensures.tree);
    }

pub returns-then-is_wanted : goal.returns-then-is_wanted
returns-then-is_wanted c =
    let trees = trees_at_once (theory_of c.args.algebra.now) (windows_in c.args.windows.now) (map field_of c.args.columns.now)
    (plan_of c.args.scheme.now) c.args.choices.now in
    record {
      at = found_at (is_wanted (query_of c.args.search.now)) trees c.args.number (derivation_of c.in-Some.tree)
          (rw c.in-Some.is at c.in_ok-nth_at_once.ensures.tree)
          (sym c.if-is_wanted.true ∙ c.is_wanted.ensures.wanted);
    }

pub returns-else-is_wanted : goal.returns-else-is_wanted
returns-else-is_wanted c =
    let trees = trees_at_once (theory_of c.args.algebra.now) (windows_in c.args.windows.now) (map field_of c.args.columns.now)
    (plan_of c.args.scheme.now) c.args.choices.now in
    record {
      at = passed_at (is_wanted (query_of c.args.search.now)) trees c.args.number (derivation_of c.in-Some.tree)
          (rw c.in-Some.is at c.in_ok-nth_at_once.ensures.tree)
          (sym c.if-is_wanted.false ∙ c.is_wanted.ensures.wanted);
    }
