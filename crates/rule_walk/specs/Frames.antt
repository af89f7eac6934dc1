-- Rules over one part: the part, and what a rule makes of what the part does.
use Rattle.std.specs.Prelude.{ℕ, ◌≡◌, List, Option, Some, None}
use Rattle.spec_core.specs.Code.{Variable, Relabelling, Synchronised}
use Rattle.spec_core.specs.Theories.{Theory}
use Rattle.rule_model.specs.declared.action.Action.{Action}
use Rattle.rule_model.specs.declared.action.Action.TheVariants.{Inner}
use Rattle.rule_model.specs.Actions.{kind_of, IsAlone, IsUnhidden, IsNoEnd, IsEnd, renamed_action}
use Rattle.rule_model.specs.Behaviours.{Behaviour, choice, parallel, hide, enable, disable, relabel}
use Rattle.rule_model.specs.Derivations.{Derivation, chl, chr, parl, parr, hiding, pass, enstep, enend, disstep, disend, distake, rel}
use Rattle.rule_model.specs.Substitution.{Assignment, without, put, tidied}
use Rattle.rule_walk.specs.Ends.{CanHandOn, HandsOn, IsAtHidden}

-- what stands round a part that acts, with what the rule asks of it
pub data Surrounding : Type 0 where
  unchanged : Surrounding
  before_right : Synchronised → Behaviour → Surrounding
  after_left : Synchronised → Behaviour → Surrounding
  hidden_in : List ℕ → Surrounding
  passing : List ℕ → Surrounding
  still_enabling : List Variable → Behaviour → Surrounding
  handing : List Variable → Behaviour → Surrounding
  still_disabled : Behaviour → Surrounding
  ending : Surrounding
  renaming : List Relabelling → Surrounding

-- a part, with what stands round it
pub record Framed : Type 0 where
  pub frame : Surrounding
  pub part : Behaviour

abbrev pub framed : Surrounding → Behaviour → Framed
framed frame part = record { frame = frame; part = part }

-- The part that the rule at the root is over. None: it isn't over one part alone, has more to ask than what the part does, or is about
-- another construct.
abbrev pub part_under : Behaviour → Derivation → Option Framed
part_under (choice left right) (chl d) = Some (framed unchanged left)
part_under (choice left right) (chr d) = Some (framed unchanged right)
part_under (parallel gates left right) (parl d) = Some (framed (before_right gates right) left)
part_under (parallel gates left right) (parr d) = Some (framed (after_left gates left) right)
part_under (hide gates body) (hiding d) = Some (framed (hidden_in gates) body)
part_under (hide gates body) (pass d) = Some (framed (passing gates) body)
part_under (enable left xs right) (enstep d) = Some (framed (still_enabling xs right) left)
part_under (enable left xs right) (enend d) = Some (framed (handing xs right) left)
part_under (disable left right) (disstep d) = Some (framed (still_disabled right) left)
part_under (disable left right) (disend d) = Some (framed ending left)
part_under (disable left right) (distake d) = Some (framed unchanged right)
part_under (relabel pairs body) (rel d) = Some (framed (renaming pairs) body)
part_under _ _ = None

-- the rule at the root of the first tree is one of these, and the second is the tree of its part
abbrev pub IsOver : Derivation → Derivation → Type 0
IsOver (chl d) e = e ≡ d
IsOver (chr d) e = e ≡ d
IsOver (parl d) e = e ≡ d
IsOver (parr d) e = e ≡ d
IsOver (hiding d) e = e ≡ d
IsOver (pass d) e = e ≡ d
IsOver (enstep d) e = e ≡ d
IsOver (enend d) e = e ≡ d
IsOver (disstep d) e = e ≡ d
IsOver (disend d) e = e ≡ d
IsOver (distake d) e = e ≡ d
IsOver (rel d) e = e ≡ d
IsOver _ e = ⊥

-- the rule's condition on what the part does; the other parts have the terms s for their variables
abbrev pub Admits : Theory → Assignment → Surrounding → Action → Type 0
Admits theory s unchanged e = Unit {0}
Admits theory s (before_right gates right) e = IsAlone gates (kind_of e)
Admits theory s (after_left gates left) e = IsAlone gates (kind_of e)
Admits theory s (hidden_in gates) e = IsAtHidden gates e
Admits theory s (passing gates) e = IsUnhidden gates (kind_of e)
Admits theory s (still_enabling xs right) e = IsNoEnd (kind_of e)
Admits theory s (handing xs right) e = CanHandOn theory s xs e
Admits theory s (still_disabled right) e = IsNoEnd (kind_of e)
Admits theory s ending e = IsEnd (kind_of e)
Admits theory s (renaming pairs) e = Unit {0}

-- the part does e and becomes f, and the whole does a and becomes c
abbrev pub Makes : Theory → Assignment → Surrounding → Action → Behaviour → Action → Behaviour → Type 0
Makes theory s unchanged e f a c = (a ≡ e) × (c ≡ f)
Makes theory s (before_right gates right) e f a c = (a ≡ e) × IsAlone gates (kind_of e) × (c ≡ parallel gates f (put s right))
Makes theory s (after_left gates left) e f a c = (a ≡ e) × IsAlone gates (kind_of e) × (c ≡ parallel gates (put s left) f)
Makes theory s (hidden_in gates) e f a c = (a ≡ Inner) × IsAtHidden gates e × (c ≡ hide gates f)
Makes theory s (passing gates) e f a c = (a ≡ e) × IsUnhidden gates (kind_of e) × (c ≡ hide gates f)
Makes theory s (still_enabling xs right) e f a c =
    (a ≡ e) × IsNoEnd (kind_of e) × (c ≡ enable f xs (put (without xs s) right))
Makes theory s (handing xs right) e f a c = (a ≡ Inner) × HandsOn theory s e xs right c
Makes theory s (still_disabled right) e f a c = (a ≡ e) × IsNoEnd (kind_of e) × (c ≡ disable f (put s right))
Makes theory s ending e f a c = (a ≡ e) × (c ≡ f) × IsEnd (kind_of e)
Makes theory s (renaming pairs) e f a c = (a ≡ renamed_action pairs e) × (c ≡ tidied pairs f)
