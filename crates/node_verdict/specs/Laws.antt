-- What follows from the definitions.
use Rattle.std.specs.Prelude.{ℕ, ◌⊎◌, ◌++◌, List, [], ◌∷◌}
use Rattle.spec_core.specs.Lists.{Each, IsOneOf}
use Rattle.spec_core.specs.Terms.{TermTree}
use Rattle.spec_core.specs.Code.{Program}
use Rattle.rule_model.specs.declared.rules.Slot.{Slot}
use Rattle.rule_model.specs.declared.rules.Slot.TheVariants.{Of, Mark, Blank}
use Rattle.rule_model.specs.Behaviours.{Behaviour}
use Rattle.rule_model.specs.Derivations.{Derivation, pre, int, exiting, chl, chr, val, gate, guard, letting, parl, parr, both, hiding, pass}
use Rattle.rule_model.specs.Derivations.{enstep, enend, disstep, disend, distake, calling, rel}
use Rattle.symbolic_rules.specs.Windows.{Windows}
use Rattle.symbolic_rules.specs.MarkedTerms.{MarkedAssignment}
use Rattle.symbolic_rules.specs.MarkedFields.{chosen, IsWithin}
use Rattle.symbolic_reach.specs.Reached.{Reaches}
use Rattle.node_verdict.specs.Asking.{TreeAsks}

abbrev pub values_in : List Slot → List (List ℕ)
values_in [] = []
values_in (Of v ∷ slots) = v ∷ values_in slots
values_in (Mark ∷ slots) = values_in slots
values_in (Blank ∷ slots) = values_in slots

-- the values that the actions of a tree choose
abbrev pub chosen_values : Derivation → List (List ℕ)
chosen_values (pre slots) = values_in slots
chosen_values int = []
chosen_values (exiting slots) = []
chosen_values (chl d) = chosen_values d
chosen_values (chr d) = chosen_values d
chosen_values (val slot d) = chosen_values d
chosen_values (gate j d) = chosen_values d
chosen_values (guard d) = chosen_values d
chosen_values (letting d) = chosen_values d
chosen_values (parl d) = chosen_values d
chosen_values (parr d) = chosen_values d
chosen_values (both d e) = chosen_values d ++ chosen_values e
chosen_values (hiding d) = chosen_values d
chosen_values (pass d) = chosen_values d
chosen_values (enstep d) = chosen_values d
chosen_values (enend d) = chosen_values d
chosen_values (disstep d) = chosen_values d
chosen_values (disend d) = chosen_values d
chosen_values (distake d) = chosen_values d
chosen_values (calling d) = chosen_values d
chosen_values (rel d) = chosen_values d

-- A term that a tree asks is asked of the behaviour before its first action, where the values that the tree's actions choose may be chosen:
-- each lies in its window, or is one of the others.
abbrev pub AskedTermsAreReached : Type 0
AskedTermsAreReached =
    (program : Program) (w : Windows) (others : List (List ℕ)) (m : MarkedAssignment) (b : Behaviour) (d : Derivation) (t : TermTree) →
    Each (λ v. IsWithin program.theory w (chosen v) ⊎ IsOneOf v others) (chosen_values d) →
    TreeAsks program w m b d t →
    Reaches program w others m b t
