-- Which operations head the equations in which each operation stands, as rows.
use Rattle.std.specs.Prelude.{ℕ, ◌≡◌, ◌<◌, ◌↔◌, ◌⊎◌, ◌++◌, List, [], Vec, length}
use Rattle.std.specs.List.{slice_index_or}
use Rattle.std.specs.declared.alloc.Global.{Global}
use Rattle.spec_core.specs.Lists.{Each, IsOneOf}
use Rattle.spec_core.specs.Theories.{Theory, ConditionalEquation, Heads}
use Rattle.spec_core.specs.Order.{HasOperation, PremisesHaveOperation, Mentions, DependsOn}

-- the numbers of a row
abbrev pub numbers_of : Vec ℕ Global → List ℕ
numbers_of row = row.items

-- h is in the row of g
abbrev pub IsNoted : List (List ℕ) → ℕ → ℕ → Type 0
IsNoted rows g h = IsOneOf h (slice_index_or rows g [])

-- h was put into the row of g where R holds of them, if g has a row, and nowhere else
pub record AreNoted (R : ℕ → ℕ → Type 0) (old new : List (List ℕ)) : Type 0 where
  pub kept : (g h : ℕ) → IsNoted old g h → IsNoted new g h
  pub only : (g h : ℕ) → IsNoted new g h → IsNoted old g h ⊎ R g h
  pub added : (g h : ℕ) → R g h → g < length old → IsNoted new g h
  pub sized : length new ≡ length old

-- h heads the equation, and g stands in it
abbrev pub MentionsAt : ConditionalEquation → ℕ → ℕ → Type 0
MentionsAt e g h = Heads h e × (HasOperation g e.left ⊎ HasOperation g e.right ⊎ PremisesHaveOperation g e.premises)

-- the operation that heads the equation, if one does, has a number below the bound
abbrev pub HeadIsBelow : ℕ → ConditionalEquation → Type 0
HeadIsBelow bound e = (f : ℕ) → Heads f e → f < bound

-- each operation that heads an equation has a row, and a row has just the operations whose equations mention its own
pub record AreMentions (theory : Theory) (rows : List (List ℕ)) : Type 0 where
  pub sound : (g h : ℕ) → IsNoted rows g h → Mentions theory h g
  pub whole : (g h : ℕ) → Mentions theory h g → g < length rows → IsNoted rows g h
  pub bound : Each (HeadIsBelow (length rows)) theory.equations

-- the list has just the operations that depend on f
abbrev pub AreDependents : Theory → ℕ → List ℕ → Type 0
AreDependents theory f all = (g : ℕ) → IsOneOf g all ↔ DependsOn theory g f

-- a list grew at its end by those of a row that it didn't have
pub record IsGrown (row old new : List ℕ) : Type 0 where
  pub more : List ℕ
  pub grown : new ≡ old ++ more
  pub only : (h : ℕ) → IsOneOf h new → IsOneOf h old ⊎ IsOneOf h row
  pub added : (h : ℕ) → IsOneOf h row → IsOneOf h new
