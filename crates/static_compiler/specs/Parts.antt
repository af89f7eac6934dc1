-- Where reading stands, and what is known of parts that are read, while a construct is read.
use Rattle.std.specs.Prelude.{ℕ, pred, ◌≡◌, List, ◌++◌, length, Option, option_map}
use Rattle.lotos_ast.specs.declared.behaviour.GateChoice.{GateChoice}
use Rattle.lotos_ast.specs.declared.declaration.Declaration.{Declaration}
use Rattle.lotos_ast.specs.declared.place.Place.{Place}
use Rattle.lotos_ast.specs.declared.refusal.Refusal.{Refusal}
use Rattle.static_constructs.specs.Constructs.{Construct}
use Rattle.spec_core.specs.Code.{Node}
use Rattle.spec_core.specs.Functionality.{Functionality}
use Rattle.static_equations.specs.Variables.{all_variables}
use Rattle.static_readings.specs.Joins.{Read}
use Rattle.static_readings.specs.Outputs.{Output, nodes_of, HasRead}
use Rattle.static_readings.specs.Declarations.{declaration_refusals, declared_variables}
use Rattle.static_readings.specs.Readings.{IsRead, AreGatesChosen}
use Rattle.static_readings.specs.Sites.{Site, with_variables, with_first}
use Rattle.static_readings.specs.Views.{functionality_of}
use Rattle.static_compiler.specs.Frames.{Frame, framed, Joining, in_enabling, joined_as, joining_refusals}
use Rattle.static_compiler.specs.Views.{frame_of, joining_of}
use Rattle.static_compiler.specs.declared.mark.Mark.{Mark}
use Rattle.static_compiler.specs.declared.opened.Opened.{Opened}
use Rattle.static_compiler.specs.declared.opened.OpenedRight.{OpenedRight}
use Rattle.static_compiler.specs.declared.read_part.ReadPart.{ReadPart}

abbrev pub ends_of : Option Read → Option Functionality
ends_of x = option_map (λ r. r.functionality) x

-- this and nothing else is put out
pub record Puts (x : Option Read) (old now : Output) (ends : Option Functionality) : Type 0 where
  pub code : now.code ≡ old.code ++ nodes_of x
  pub refused : now.refusals ≡ old.refusals
  pub found : ends ≡ ends_of x

-- how many nodes are put out, and how many variables and gates are in scope
pub record IsMark (s : Site) (out : Output) (m : Mark) : Type 0 where
  pub from : m.from ≡ length out.code
  pub variables : m.variables ≡ length s.context.variables
  pub gates : m.gates ≡ length s.gates

-- In this site a construct over a part is opened. What is refused of it before the part stands behind what was put out before; the part
-- stands in another site, in which this one is found again by the first variables and gates; and, whatever the part is read as, with what
-- is to stand around it the construct is read
pub record Opens (s : Site) (whole : Construct → Construct) (old now : Output) (inside : Site) (o : Opened) : Type 0 where
  pub refusals : List Refusal
  pub code : now.code ≡ old.code
  pub refused : now.refusals ≡ old.refusals ++ refusals
  pub from : o.mark.from ≡ length old.code
  pub left : with_first inside o.mark.variables o.mark.gates ≡ s
  pub such : (part : Construct) (from : ℕ) (x : Option Read) (rs : List Refusal) → IsRead inside from part x rs →
      IsRead s from (whole part) (framed from (frame_of o.frame) x) (refusals ++ rs)

-- of a choice of gates, the first lists are opened: whatever stands behind the others is read as where it stands, with what is to stand
-- around it all is read
abbrev pub OpensChoices : Site → List GateChoice → Site → List GateChoice → Frame → List Refusal → Type 0
OpensChoices s cs inside others frame refusals = (part : Construct) (from : ℕ) (x : Option Read) (rs : List Refusal) →
    AreGatesChosen inside from others part x rs → AreGatesChosen s from cs part (framed from frame x) (refusals ++ rs)

-- before the right part of an enabling, what it declares is put into scope
pub record OpensRight (s : Site) (ds : List Declaration) (old now : Output) (inside : Site) (o : OpenedRight) : Type 0 where
  pub code : now.code ≡ old.code
  pub refused : now.refusals ≡ old.refusals ++ declaration_refusals s ds
  pub put : inside ≡ with_variables s (all_variables s.context.sorts ds)
  pub variables : o.mark.variables ≡ length s.context.variables
  pub gates : o.mark.gates ≡ length s.gates
  pub joining : option_map joining_of o.joining ≡ option_map in_enabling (declared_variables s ds)

-- the code is this, with a part behind it that ends in this way
pub record Stands (base : List Node) (x : Option Read) (code : List Node) (ends : Option Functionality) : Type 0 where
  pub behind : code ≡ base ++ nodes_of x
  pub found : ends ≡ ends_of x

-- a part is read, with the number of the last node that is put out then
pub record IsPartRead (s : Site) (part : Construct) (old now : Output) (p : ReadPart) : Type 0 where
  pub from : p.from ≡ length old.code
  pub last : p.last.0 ≡ pred (length now.code)
  pub read : HasRead (λ from. IsRead s from part) old now (option_map functionality_of p.ends)

-- two parts stand one behind the other
pub record StandBoth (base : List Node) (x y : Option Read) (code : List Node) (p q : ReadPart) : Type 0 where
  pub behind : code ≡ (base ++ nodes_of x) ++ nodes_of y
  pub from : p.from ≡ length base
  pub first : p.last.0 ≡ pred (length (base ++ nodes_of x))
  pub second : q.last.0 ≡ pred (length code)
  pub first_ends : option_map functionality_of p.ends ≡ ends_of x
  pub second_ends : option_map functionality_of q.ends ≡ ends_of y

-- they are joined
pub record AreJoined (base : List Node) (place : Place) (j : Option Joining) (x y : Option Read) (old now : Output)
    (ends : Option Functionality) : Type 0 where
  pub stands : Stands base (joined_as (length base) j x y) now.code ends
  pub refused : now.refusals ≡ old.refusals ++ joining_refusals place j x y
