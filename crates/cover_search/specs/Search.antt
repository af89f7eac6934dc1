-- The search for a case that no left side covers. In a pattern here each variable is one of its own, and its number is its sort.
use Rattle.std.specs.Prelude.{ℕ, suc, ◌≡◌, ◌⊎◌, Bool, List, [], ◌∷◌, ◌++◌, drop, map, Option, Some, None}
use Rattle.spec_core.specs.Constructors.{AreConstructed}
use Rattle.spec_core.specs.Lists.{Each, OneOf}
use Rattle.spec_core.specs.Sorts.{HaveSorts, no_variables}
use Rattle.cover_search.specs.declared.arguments.Arguments.{Arguments}
use Rattle.cover_search.specs.declared.pending.Pending.{Pending}
use Rattle.spec_core.specs.Terms.{TermTree, TermTrees, variable, apply, no_terms, and_term, terms, term_of}
use Rattle.spec_core.specs.Theories.{Operation, Theory}
use Rattle.equation_shapes.specs.Shapes.{AreOfShape, MeetAll}
use Rattle.cover_search.specs.Makers.{IsMaker, AreMade}
use Rattle.cover_search.specs.Sorts.{AreIn}

-- a variable of each sort
abbrev pub variables : List ℕ → TermTrees
variables sorts = terms (map variable sorts)

abbrev pub or_else : Option ℕ → Option ℕ → Option ℕ
or_else None o = o
or_else (Some s) o = Some s

-- the sort of the leftmost variable of the pattern that faces an operation of the row
abbrev mutual
  pub faced : TermTree → TermTree → Option ℕ
  faced (variable x) p = None
  faced (apply g rs) (variable s) = Some s
  faced (apply g rs) (apply f ps) = faced_any rs ps

  pub faced_any : TermTrees → TermTrees → Option ℕ
  faced_any (and_term r rs) (and_term p ps) = or_else (faced r p) (faced_any rs ps)
  faced_any no_terms ps = None
  faced_any (and_term r rs) no_terms = None

-- the first list where there is one, else the second
abbrev pub first_faced : Option ℕ → TermTrees → TermTrees → TermTrees
first_faced (Some s) one other = one
first_faced None one other = other

-- the pattern with u in the place of that variable
abbrev mutual
  pub opened : TermTree → TermTree → TermTree → TermTree
  opened u (variable x) p = p
  opened u (apply g rs) (variable s) = u
  opened u (apply g rs) (apply f ps) = apply f (opened_any u rs ps)

  pub opened_any : TermTree → TermTrees → TermTrees → TermTrees
  opened_any u (and_term r rs) (and_term p ps) = first_faced (faced r p) (and_term (opened u r p) ps) (and_term p (opened_any u rs ps))
  opened_any u no_terms ps = ps
  opened_any u (and_term r rs) no_terms = no_terms

-- the operation of a term that isn't a variable
abbrev pub operation_of : TermTree → Option ℕ
operation_of (variable x) = None
operation_of (apply f ts) = Some f

-- the first answer where there is that variable in the first term of a list, else the second
abbrev pub there_first : Option ℕ → Option ℕ → Option ℕ → Option ℕ
there_first (Some s) one other = one
there_first None one other = other

-- the operation that another row has at the place of that variable; none where it has a variable there, or above it
abbrev mutual
  pub operation_there : TermTree → TermTree → TermTree → Option ℕ
  operation_there (variable x) p q = None
  operation_there (apply g rs) (variable s) q = operation_of q
  operation_there (apply g rs) (apply f ps) (variable y) = None
  operation_there (apply g rs) (apply f ps) (apply h qs) = operation_there_in rs ps qs

  pub operation_there_in : TermTrees → TermTrees → TermTrees → Option ℕ
  operation_there_in no_terms ps qs = None
  operation_there_in (and_term r rs) no_terms qs = None
  operation_there_in (and_term r rs) (and_term p ps) no_terms = None
  operation_there_in (and_term r rs) (and_term p ps) (and_term q qs) =
      there_first (faced r p) (operation_there r p q) (operation_there_in rs ps qs)

-- the patterns in which that variable, of this sort, is replaced by each constructor that has values among these operations, the
-- first of which has the number c
abbrev pub OpenBy : Theory → ℕ → TermTrees → TermTrees → ℕ → List Operation → List TermTrees → Type 0
OpenBy theory s row ps c [] qs = qs ≡ []
OpenBy theory s row ps c (d ∷ ds) qs =
    IsMaker theory s c d ×
    ((rest : List TermTrees) × (qs ≡ opened_any (apply c (variables d.args)) row ps ∷ rest) × OpenBy theory s row ps (suc c) ds rest) ⊎
    (IsMaker theory s c d → ⊥) × OpenBy theory s row ps (suc c) ds qs

-- the row is the first one that meets the pattern
abbrev pub IsFirstMeeting : List TermTrees → TermTrees → TermTrees → Type 0
IsFirstMeeting [] ps row = ⊥
IsFirstMeeting (r ∷ rows) ps row = MeetAll r ps × (row ≡ r) ⊎ (MeetAll r ps → ⊥) × IsFirstMeeting rows ps row

-- what the program's rows and patterns stand for
abbrev pub arguments_of : Arguments → TermTrees
arguments_of a = terms (map term_of a.items.items)

abbrev pub rows_of : List Arguments → List TermTrees
rows_of rows = map arguments_of rows

-- the patterns of a stack, the last one first
abbrev pub stack_onto : List Pending → List TermTrees → List TermTrees
stack_onto [] done = done
stack_onto (p ∷ todo) done = stack_onto todo (arguments_of p.pattern ∷ done)

abbrev pub stack_of : List Pending → List TermTrees
stack_of todo = stack_onto todo []

-- before the stack stands the pattern opened by the operation c, declared as d, if that is a constructor of the sort that has values
abbrev pub IsAlternative : Theory → ℕ → TermTrees → TermTrees → ℕ → Operation → List TermTrees → List TermTrees → Type 0
IsAlternative theory s row ps c d old new =
    IsMaker theory s c d × (new ≡ opened_any (apply c (variables d.args)) row ps ∷ old) ⊎ (IsMaker theory s c d → ⊥) × (new ≡ old)

-- the same, if all its argument sorts are in the set
abbrev pub IsOpened : List Bool → TermTrees → TermTrees → ℕ → Operation → List TermTrees → List TermTrees → Type 0
IsOpened set row ps c d old new =
    AreIn set d.args × (new ≡ opened_any (apply c (variables d.args)) row ps ∷ old) ⊎ (AreIn set d.args → ⊥) × (new ≡ old)

-- before the stack stand the patterns opened by the operations from c on
abbrev pub AreAlternatives : Theory → ℕ → TermTrees → TermTrees → ℕ → List TermTrees → List TermTrees → Type 0
AreAlternatives theory s row ps c old new =
    (qs : List TermTrees) × OpenBy theory s row ps c (drop c theory.operations) qs × (new ≡ qs ++ old)

-- each list of ground constructor terms of these sorts that is of the pattern's shape is of the shape of a row
abbrev pub IsCovered : Theory → List TermTrees → List ℕ → TermTrees → Type 0
IsCovered theory rows sorts ps =
    (vs : TermTrees) → HaveSorts theory no_variables vs sorts → AreConstructed theory vs → AreOfShape ps vs → OneOf (λ r. AreOfShape r vs) rows

-- a pattern for terms of these sorts, of constructors over variables whose sorts have values, that no row meets
pub record IsUncovered (theory : Theory) (rows : List TermTrees) (sorts : List ℕ) (ps : TermTrees) : Type 0 where
  pub sorted : HaveSorts theory Some ps sorts
  pub made : AreMade theory ps
  pub unmet : Each (λ r. MeetAll r ps → ⊥) rows

-- the patterns are covered where those of the new stack are, and the new stack's are of the same sorts, and made as they are
pub record LeadsBack (theory : Theory) (rows old new : List TermTrees) : Type 0 where
  pub sorted : (sorts : List ℕ) → Each (λ p. HaveSorts theory Some p sorts) old → Each (λ p. HaveSorts theory Some p sorts) new
  pub made : Each (AreMade theory) old → Each (AreMade theory) new
  pub covered : (sorts : List ℕ) → Each (λ p. HaveSorts theory Some p sorts) old → Each (IsCovered theory rows sorts) new →
      Each (IsCovered theory rows sorts) old
