-- What values of the program stand for.
use Rattle.std.specs.Prelude.{map}
use Rattle.spec_core.specs.Code.{variable_of, relabelling_of, synchronised_of}
use Rattle.spec_core.specs.Numbers.{gate_number}
use Rattle.rule_model.specs.Derivations.{derivation_of}
pub use Rattle.symbolic_actions.specs.Models.{show_of}
use Rattle.symbolic_actions.specs.Shows as shows
use Rattle.symbolic_actions.specs.Shows.{of_left, of_right, left_alone, right_alone, hidden_in, seen_in, before_end, handed_to, undisabled}
use Rattle.symbolic_actions.specs.Shows.{ended, disabling, renamed_by}
use Rattle.candidate_verdicts.specs.declared.rule.PartRule.{PartRule}
use Rattle.candidate_verdicts.specs.declared.rule.PartRule.TheVariants.{OfLeft, OfRight, LeftAlone, RightAlone, HiddenIn, SeenIn, BeforeEnd}
use Rattle.candidate_verdicts.specs.declared.rule.PartRule.TheVariants.{HandedTo, Undisabled, Ended, Disabling, RenamedBy}
use Rattle.candidate_verdicts.specs.declared.rule.RuledPart.{RuledPart}
use Rattle.candidate_verdicts.specs.declared.rule.Sides.{Sides}
use Rattle.candidate_verdicts.specs.declared.rule.Sides.TheVariants.{Neither, Left, Right, Both}
use Rattle.candidate_verdicts.specs.Parts as parts
use Rattle.candidate_verdicts.specs.Parts.{ruled, neither, left_side, right_side, both_sides}

abbrev pub part_rule_of : PartRule → shows.PartRule
part_rule_of OfLeft = of_left
part_rule_of OfRight = of_right
part_rule_of (LeftAlone gates) = left_alone (synchronised_of gates.now)
part_rule_of (RightAlone gates) = right_alone (synchronised_of gates.now)
part_rule_of (HiddenIn gates) = hidden_in (map gate_number gates.now)
part_rule_of (SeenIn gates) = seen_in (map gate_number gates.now)
part_rule_of BeforeEnd = before_end
part_rule_of (HandedTo vars) = handed_to (map variable_of vars.now)
part_rule_of Undisabled = undisabled
part_rule_of Ended = ended
part_rule_of Disabling = disabling
part_rule_of (RenamedBy pairs) = renamed_by (map relabelling_of pairs.now)

abbrev pub part_in : RuledPart → parts.RuledPart
part_in p = ruled (part_rule_of p.rule) (derivation_of p.rules.now)

abbrev pub sides_in : Sides → parts.Sides
sides_in Neither = neither
sides_in (Left p) = left_side (part_in p)
sides_in (Right p) = right_side (part_in p)
sides_in (Both gates left right) = both_sides (synchronised_of gates.now) (derivation_of left.now) (derivation_of right.now)
