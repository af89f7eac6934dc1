-- What a cursor stands before, and what is found there. A cursor that is lost stands before nothing at all.
use Rattle.std.specs.Prelude.{ℕ, ◌≡◌, ◌==◌, Bool, true, false, if◌then◌else◌, List, [], ◌∷◌}
use Rattle.std.specs.Prelude.{◌++◌, codes, flat_map, length, IsSome, Option, Some, None}
use Rattle.spec_core.specs.Code.{program_of}
use Rattle.spec_core.specs.Lists.{Each}
use Rattle.spec_core.specs.Ready.{AreNamed}
use Rattle.spec_core.specs.Sorts.{FitsData}
use Rattle.value_text.specs.declared.vocabulary.Vocabulary.{Vocabulary}
use Rattle.value_text.specs.Vocabularies.{IsWhole, theory_in}
use Rattle.rule_model.specs.declared.rules.Slot.{Slot}
use Rattle.trace_text.specs.Trace.{Names, slot_text}
use Rattle.trace_reader.specs.Digits.{EndsNumber}
use Rattle.value_reader.specs.Ends.{ends_there, ends_value}

-- what stands behind this word, if the text begins with it
abbrev pub behind : List ℕ → List ℕ → Option (List ℕ)
behind [] text = Some text
behind (w ∷ word) [] = None
behind (w ∷ word) (b ∷ text) = if b == w then behind word text else None

abbrev pub past : List ℕ → Option (List ℕ) → Option (List ℕ)
past word None = None
past word (Some text) = behind word text

-- the same, where a name may end behind the word
abbrev pub ending_there : Option (List ℕ) → Option (List ℕ)
ending_there None = None
ending_there (Some text) = if ends_there text then Some text else None

-- the word is taken, or the cursor stays where it was
abbrev pub Takes : Option (List ℕ) → Option (List ℕ) → Bool → Option (List ℕ) → Type 0
Takes None old taken new = (taken ≡ false) × (new ≡ old)
Takes (Some text) old taken new = (taken ≡ true) × (new ≡ Some text)

-- how many bytes are left
abbrev pub size : Option (List ℕ) → ℕ
size None = 0
size (Some text) = length text

-- wherever the text of some thing of a kind stands, with something behind it before which it may end, that thing is found, and the cursor
-- then stands behind it
abbrev pub Finds : {X : Type 0} → (X → List ℕ) → (X → Type 0) → (List ℕ → Type 0) → Option (List ℕ) → Option (List ℕ) →
    (X → Type 0) → Type 0
Finds {X} text_of Fits Ends old new IsIt =
    (x : X) (rest : List ℕ) → Fits x → Ends rest → old ≡ Some (text_of x ++ rest) → IsIt x × (new ≡ Some rest)

-- the things of a list that are still to be read
pub record IsLeft {X : Type 0} (text_of : X → List ℕ) (Fits : X → Type 0) (all done : List X) (rest : List ℕ)
    (now : Option (List ℕ)) : Type 0 where
  pub more : List X
  pub fits : Each Fits more
  pub whole : all ≡ done ++ more
  pub left : now ≡ Some (flat_map text_of more ++ rest)

-- wherever the texts of some things stood one after another, the first of them were read
abbrev pub Collects : {X : Type 0} → (X → List ℕ) → (X → Type 0) → (List ℕ → Type 0) → Option (List ℕ) → List X → List X →
    Option (List ℕ) → Type 0
Collects {X} text_of Fits Ends start before done now =
    (xs : List X) (rest : List ℕ) → Each Fits xs → Ends rest → start ≡ Some (flat_map text_of xs ++ rest) →
    IsLeft text_of Fits (before ++ xs) done rest now

-- the first of some things were read, behind those that were there before, and they fit if those do
pub record Reading {X : Type 0} (text_of : X → List ℕ) (Fits : X → Type 0) (Ends : List ℕ → Type 0) (start : Option (List ℕ))
    (before done : List X) (now : Option (List ℕ)) : Type 0 where
  pub collects : Collects text_of Fits Ends start before done now
  pub fits : Each Fits before → IsSome now → Each Fits done
  pub kept : IsSome now → IsSome start

-- what follows a value, fields, a tree, a line
abbrev pub EndsValue : List ℕ → Type 0
EndsValue rest = ends_value rest ≡ true

abbrev pub EndsFields : List ℕ → Type 0
EndsFields rest = (behind (codes " !") rest ≡ None) × (behind (codes " ?") rest ≡ None) × EndsValue rest

-- behind the offer that an action takes, or where none is taken
abbrev pub EndsBy : List ℕ → Type 0
EndsBy rest = (behind (codes " by ") rest ≡ None) × EndsNumber rest

abbrev pub EndsSlots : List ℕ → Type 0
EndsSlots rest = (behind (codes ",") rest ≡ None) × EndsValue rest

abbrev pub EndsTree : List ℕ → Type 0
EndsTree rest = behind (codes "[") rest ≡ None

abbrev pub IsNothing : List ℕ → Type 0
IsNothing rest = rest ≡ []

-- a value of an action
abbrev pub given_text : Names → List ℕ → List ℕ
given_text names value = codes " !" ++ names.value value

-- further values of a tree
abbrev pub further_text : Names → Slot → List ℕ
further_text names slot = codes "," ++ slot_text names slot

abbrev pub further_texts : Names → List Slot → List ℕ
further_texts names slots = flat_map (further_text names) slots

-- what is asked of a specification so that its traces can be read
pub record IsReadable (v : Vocabulary) : Type 0 where
  pub whole : IsWhole v
  pub fits : FitsData (theory_in v)
  pub named : AreNamed (program_of v.checked.now)
