-- Jobs that judge trees of values.
use Rattle.std.specs.Prelude.{ℕ, IfSome}
use Rattle.spec_core.specs.Code.{Program}
use Rattle.spec_core.specs.Lists.{Each, IsOneOf}
use Rattle.spec_core.specs.Theories.{Theory}
use Rattle.rule_model.specs.declared.offer.Field.{Field}
use Rattle.rule_model.specs.declared.offer.Field.TheVariants.{Give, Take}
use Rattle.rule_model.specs.declared.offer.Offer.{Offer}
use Rattle.rule_model.specs.declared.rules.Slot.TheVariants.{Of}
use Rattle.rule_model.specs.Derivations.{Derivation}
use Rattle.rule_model.specs.States.{PendingOffer}
use Rattle.symbolic_rules.specs.Windows.{Windows}
use Rattle.symbolic_composites.specs.Evaluations.{Evaluation, IsExact}
use Rattle.candidate_count.specs.Laws.{AreOwnPlans}
use Rattle.decision_trees.specs.Gaps.{element}
use Rattle.decision_trees.specs.Rules.{Waiting}
use Rattle.candidate_laws.specs.Asked.{TreeQuery, offer_in}
use Rattle.candidate_laws.specs.TreeLaws.{IsSoundWaiting}
use Rattle.node_trees.specs.Shapes.{Shape}
use Rattle.node_verdict.specs.Choosing.{ChoosesValue, ChoosesValues}
use Rattle.candidate_verdicts.specs.Known.{NodePart, Pieces, missing_parts}
use Rattle.candidates.specs.Jobs.{NodeJob, to_expand, to_judge}
use Rattle.candidates.specs.Listed.{known_trees}
use Rattle.board_laws.specs.Needed.{jobs_needed}

-- what a field gives spells a value
abbrev pub FieldGivesValue : Theory → Field → Type 0
FieldGivesValue theory (Give v) = ChoosesValue theory (Of v)
FieldGivesValue theory (Take sort) = Unit {0}

-- so does what each field of the offer gives
abbrev pub GivesValues : Theory → Offer → Type 0
GivesValues theory offer = Each (FieldGivesValue theory) offer.fields

-- and each list of operations that a window holds
abbrev pub HoldValues : Theory → Windows → Type 0
HoldValues theory w = (sort : ℕ) → Each (λ v. ChoosesValue theory (Of v)) (w.values sort)

-- the tree of rules of a job, if it has one, chooses values
abbrev pub JobChoosesValues : Theory → NodeJob → Type 0
JobChoosesValues theory (to_expand g) = Unit {0}
JobChoosesValues theory (to_judge part) = ChoosesValues theory part.rules

-- Where windows hold values, and the offer of a query gives values, each part that is missing of a tree for which the query may ask chooses
-- values.
abbrev pub ListedTreesChooseValues : Type 0
ListedTreesChooseValues =
    (program : Program) (e : Evaluation) →
    IsExact program e →
    (w : Windows) →
    HoldValues program.theory w →
    (t : Shape) →
    AreOwnPlans program e w t →
    (pieces : Pieces) (q : TreeQuery) →
    IfSome (offer_in q) (GivesValues program.theory) →
    (d : Derivation) →
    IsOneOf (element d) (known_trees program.theory w t q) →
    (part : NodePart) →
    IsOneOf part (missing_parts pieces t d) →
    ChoosesValues program.theory part.rules

-- So does each job that the rules still need, where each pending offer gives values.
abbrev pub NeededJobsChooseValues : Type 0
NeededJobsChooseValues =
    (program : Program) (e : Evaluation) →
    IsExact program e →
    (w : Windows) →
    HoldValues program.theory w →
    (t : Shape) →
    AreOwnPlans program e w t →
    (pieces : Pieces) (state : Waiting PendingOffer) →
    IsSoundWaiting state →
    ((p : PendingOffer) → IsOneOf p state.pending → GivesValues program.theory p.offer) →
    (job : NodeJob) →
    IsOneOf job (jobs_needed program.theory w t pieces state) →
    JobChoosesValues program.theory job
