-- Which trees of rules are seen within windows: windowed trees, and beyond trees. (This profile.)
use Rattle.std.specs.Prelude.{◌≡◌, ◌⊎◌, ◌||◌, List, [], ◌∷◌, Option, Some, None, Bool, true, false}
use Rattle.spec_core.specs.Lists.{Each}
use Rattle.spec_core.specs.Theories.{Theory}
use Rattle.spec_core.specs.Code.{Program}
use Rattle.rule_model.specs.declared.action.Action.{Action}
use Rattle.rule_model.specs.declared.offer.Field.{Field}
use Rattle.rule_model.specs.declared.offer.Field.TheVariants.{Give, Take}
use Rattle.rule_model.specs.declared.offer.Offer.{Offer}
use Rattle.rule_model.specs.declared.rules.Slot.{Slot}
use Rattle.rule_model.specs.declared.rules.Slot.TheVariants.{Of, Mark, Blank}
use Rattle.rule_model.specs.Actions.{Kind, at_gate}
use Rattle.rule_model.specs.Behaviours.{Behaviour}
use Rattle.rule_model.specs.Derivations.{Derivation, pre, int, exiting, chl, chr, val, gate, guard, letting, parl, parr, both, hiding, pass}
use Rattle.rule_model.specs.Derivations.{enstep, enend, disstep, disend, distake, calling, rel}
use Rattle.rule_model.specs.Meets.{Meets}
use Rattle.symbolic_rules.specs.Windows.{Windows, sort_of_value}
use Rattle.symbolic_rules.specs.MarkedFields.{MarkedField, told, chosen, given, free, sort_of_field, IsWithin}
use Rattle.symbolic_rules.specs.MayDerive.{MayDerive}

-- the action meets the offer, if there is one
abbrev pub MeetsIfOffered : Theory → Action → Option Offer → Type 0
MeetsIfOffered theory a None = Unit {0}
MeetsIfOffered theory a (Some offer) = Meets theory a offer

module _ (theory : Theory) (w : Windows) where
  -- A field may meet a field of an offer. `!v` gives its value: it meets just this value, and a given mark of its sort. `?S` meets each
  -- field of the sort S; it gives nothing, so what is only chosen lies in its window.
  abbrev pub FieldMayMeet : MarkedField → Field → Type 0
  FieldMayMeet (told v) (Give u) = v ≡ u
  FieldMayMeet (chosen v) (Give u) = v ≡ u
  FieldMayMeet (given sort) (Give u) = sort_of_value theory u ≡ sort
  FieldMayMeet (free sort) (Give u) = ⊥
  FieldMayMeet f (Take sort) = (sort_of_field theory f ≡ sort.0) × IsWithin theory w f

  -- as many fields as the offer has, each of which may meet its field
  abbrev pub FieldsMayMeet : List MarkedField → List Field → Type 0
  FieldsMayMeet [] [] = Unit {0}
  FieldsMayMeet (f ∷ fs) (field ∷ fields) = FieldMayMeet f field × FieldsMayMeet fs fields
  FieldsMayMeet _ _ = ⊥

  -- an action of this kind with these fields may meet the offer; where there is none, what is only chosen lies in its window
  abbrev pub MayMeet : Kind → List MarkedField → Option Offer → Type 0
  MayMeet k fs None = Each (IsWithin theory w) fs
  MayMeet k fs (Some offer) = (k ≡ at_gate offer.gate.0) × FieldsMayMeet fs offer.fields

-- whether a mark stands in the tree
abbrev pub is_mark : Slot → Bool
is_mark (Of v) = false
is_mark Mark = true
is_mark Blank = false

abbrev pub has_marks : List Slot → Bool
has_marks [] = false
has_marks (slot ∷ slots) = is_mark slot || has_marks slots

abbrev pub has_mark : Derivation → Bool
has_mark (pre slots) = has_marks slots
has_mark int = false
has_mark (exiting slots) = has_marks slots
has_mark (chl d) = has_mark d
has_mark (chr d) = has_mark d
has_mark (val slot d) = is_mark slot || has_mark d
has_mark (gate j d) = has_mark d
has_mark (guard d) = has_mark d
has_mark (letting d) = has_mark d
has_mark (parl d) = has_mark d
has_mark (parr d) = has_mark d
has_mark (both d e) = has_mark d || has_mark e
has_mark (hiding d) = has_mark d
has_mark (pass d) = has_mark d
has_mark (enstep d) = has_mark d
has_mark (enend d) = has_mark d
has_mark (disstep d) = has_mark d
has_mark (disend d) = has_mark d
has_mark (distake d) = has_mark d
has_mark (calling d) = has_mark d
has_mark (rel d) = has_mark d

module _ (program : Program) (w : Windows) where
  -- by the tree, whose values may be marks, the closed behaviour may do an action of this kind that meets the offer, if there is one
  pub record IsSeen (b : Behaviour) (o : Option Offer) (d : Derivation) (k : Kind) : Type 0 where
    pub fields : List MarkedField
    pub derives : MayDerive program w b d k fields
    pub meets : MayMeet program.theory w k fields o

  -- A windowed tree has no mark: each value of it lies in the window of its sort, or is given by an expression of a participant or by the
  -- offer.
  abbrev pub IsWindowed : Behaviour → Option Offer → Derivation → Kind → Type 0
  IsWindowed b o d k = IsSeen b o d k × (has_mark d ≡ false)

  -- A beyond tree has a mark, which stands for values beyond the window of their sort.
  abbrev pub IsBeyond : Behaviour → Option Offer → Derivation → Kind → Type 0
  IsBeyond b o d k = IsSeen b o d k × (has_mark d ≡ true)

-- the same value, or the mark in its place
abbrev pub IsSlotMarkedAs : Slot → Slot → Type 0
IsSlotMarkedAs s t = (t ≡ s) ⊎ (t ≡ Mark)

abbrev pub AreSlotsMarkedAs : List Slot → List Slot → Type 0
AreSlotsMarkedAs [] ts = ts ≡ []
AreSlotsMarkedAs (s ∷ slots) ts = (t : Slot) × (others : List Slot) × (ts ≡ t ∷ others) × IsSlotMarkedAs s t × AreSlotsMarkedAs slots others

-- the second tree is the first one with marks in the places of some of its values
abbrev pub IsMarkedAs : Derivation → Derivation → Type 0
IsMarkedAs (pre slots) t = (others : List Slot) × (t ≡ pre others) × AreSlotsMarkedAs slots others
IsMarkedAs int t = t ≡ int
IsMarkedAs (exiting slots) t = (others : List Slot) × (t ≡ exiting others) × AreSlotsMarkedAs slots others
IsMarkedAs (chl d) t = (e : Derivation) × (t ≡ chl e) × IsMarkedAs d e
IsMarkedAs (chr d) t = (e : Derivation) × (t ≡ chr e) × IsMarkedAs d e
IsMarkedAs (val s d) t = (r : Slot) × (e : Derivation) × (t ≡ val r e) × IsSlotMarkedAs s r × IsMarkedAs d e
IsMarkedAs (gate j d) t = (e : Derivation) × (t ≡ gate j e) × IsMarkedAs d e
IsMarkedAs (guard d) t = (e : Derivation) × (t ≡ guard e) × IsMarkedAs d e
IsMarkedAs (letting d) t = (e : Derivation) × (t ≡ letting e) × IsMarkedAs d e
IsMarkedAs (parl d) t = (e : Derivation) × (t ≡ parl e) × IsMarkedAs d e
IsMarkedAs (parr d) t = (e : Derivation) × (t ≡ parr e) × IsMarkedAs d e
IsMarkedAs (both d f) t = (e g : Derivation) × (t ≡ both e g) × IsMarkedAs d e × IsMarkedAs f g
IsMarkedAs (hiding d) t = (e : Derivation) × (t ≡ hiding e) × IsMarkedAs d e
IsMarkedAs (pass d) t = (e : Derivation) × (t ≡ pass e) × IsMarkedAs d e
IsMarkedAs (enstep d) t = (e : Derivation) × (t ≡ enstep e) × IsMarkedAs d e
IsMarkedAs (enend d) t = (e : Derivation) × (t ≡ enend e) × IsMarkedAs d e
IsMarkedAs (disstep d) t = (e : Derivation) × (t ≡ disstep e) × IsMarkedAs d e
IsMarkedAs (disend d) t = (e : Derivation) × (t ≡ disend e) × IsMarkedAs d e
IsMarkedAs (distake d) t = (e : Derivation) × (t ≡ distake e) × IsMarkedAs d e
IsMarkedAs (calling d) t = (e : Derivation) × (t ≡ calling e) × IsMarkedAs d e
IsMarkedAs (rel d) t = (e : Derivation) × (t ≡ rel e) × IsMarkedAs d e
