-- Trees of inference rules, without places in memory.
use Rattle.std.specs.Prelude.{ℕ, List}
use Rattle.rule_model.specs.declared.rules.Slot.{Slot}
use Rattle.rule_model.specs.declared.rules.Rules.{Rules}
use Rattle.rule_model.specs.declared.rules.Rules.TheVariants.{Pre, Int, Exit, Chl', Chr', Val', Gate', Guard', Let', Parl', Parr', Both'}
use Rattle.rule_model.specs.declared.rules.Rules.TheVariants.{Hide', Pass', Enstep', Enend', Disstep', Disend', Distake', Call', Rel'}

-- By which rules a behaviour acts: one kind of tree for each rule, with the trees of the parts that act. With a prefix and an exit stand
-- the values that they choose, with a choice of a value its value, and with a choice of a gate the place of the gate in its list, from 1.
pub data Derivation : Type 0 where
  pre : List Slot → Derivation
  int : Derivation
  exiting : List Slot → Derivation
  chl : Derivation → Derivation
  chr : Derivation → Derivation
  val : Slot → Derivation → Derivation
  gate : ℕ → Derivation → Derivation
  guard : Derivation → Derivation
  letting : Derivation → Derivation
  parl : Derivation → Derivation
  parr : Derivation → Derivation
  both : Derivation → Derivation → Derivation
  hiding : Derivation → Derivation
  pass : Derivation → Derivation
  enstep : Derivation → Derivation
  enend : Derivation → Derivation
  disstep : Derivation → Derivation
  disend : Derivation → Derivation
  distake : Derivation → Derivation
  calling : Derivation → Derivation
  rel : Derivation → Derivation

-- the tree that a value of the program stands for
abbrev pub derivation_of : Rules → Derivation
derivation_of (Pre slots) = pre slots
derivation_of Int = int
derivation_of (Exit slots) = exiting slots
derivation_of (Chl' p d) = chl (derivation_of d)
derivation_of (Chr' p d) = chr (derivation_of d)
derivation_of (Val' slot p d) = val slot (derivation_of d)
derivation_of (Gate' place p d) = gate place (derivation_of d)
derivation_of (Guard' p d) = guard (derivation_of d)
derivation_of (Let' p d) = letting (derivation_of d)
derivation_of (Parl' p d) = parl (derivation_of d)
derivation_of (Parr' p d) = parr (derivation_of d)
derivation_of (Both' p d q e) = both (derivation_of d) (derivation_of e)
derivation_of (Hide' p d) = hiding (derivation_of d)
derivation_of (Pass' p d) = pass (derivation_of d)
derivation_of (Enstep' p d) = enstep (derivation_of d)
derivation_of (Enend' p d) = enend (derivation_of d)
derivation_of (Disstep' p d) = disstep (derivation_of d)
derivation_of (Disend' p d) = disend (derivation_of d)
derivation_of (Distake' p d) = distake (derivation_of d)
derivation_of (Call' p d) = calling (derivation_of d)
derivation_of (Rel' p d) = rel (derivation_of d)
