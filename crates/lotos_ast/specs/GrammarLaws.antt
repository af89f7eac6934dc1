-- Laws about all lists of tokens, for each part of the grammar of which the conditions hold: they hold of every rule.
use Rattle.std.specs.Prelude.{List, ◌++◌, ◌≡◌, ◌↔◌, ◌⊎◌}
use Rattle.lotos_ast.specs.declared.token.Token.{Token}
use Rattle.lotos_ast.specs.Notation.{Part, Syntax, repeated, part, type_definition}
use Rattle.lotos_ast.specs.declared.fault.Fault.{Fault}
use Rattle.lotos_ast.specs.Nesting.{Nesting, unlimited}
use Rattle.lotos_ast.specs.Reads.{Tree, Reads, Stops}
use Rattle.lotos_ast.specs.Fronts.{Accepts, IsFront, IsLongest, IsWhole, IsViable, UnexpectedAt}
use Rattle.lotos_ast.specs.Spelled.{Spells}
use Rattle.lotos_ast.specs.Conditions.{IsWellFormed}

-- what is read has one tree and one rest
abbrev pub OneTree : Type 0
OneTree = (d : Nesting) (g : Syntax) (s r q : List Token) (x y : Tree) → Reads d g s x r → Reads d g s y q → (x ≡ y) × (r ≡ q)

-- where there is a tree, reading doesn't stop
abbrev pub TreeOrFault : Type 0
TreeOrFault = (d : Nesting) (f : Fault) (g : Syntax) (s r q : List Token) (x : Tree) → Reads d g s x r → Stops d f g s q → ⊥

-- reading stops at one place, for one reason
abbrev pub OneFault : Type 0
OneFault = (d : Nesting) (f e : Fault) (g : Syntax) (s r q : List Token) → Stops d f g s r → Stops d e g s q → (f ≡ e) × (r ≡ q)

-- the conditions hold of every rule, and of types one after another
abbrev pub RulesAreWellFormed : Type 0
RulesAreWellFormed = (p : Part) → IsWellFormed (part p)

abbrev pub TypesAreWellFormed : Type 0
TypesAreWellFormed = IsWellFormed (repeated (part type_definition))

-- where reading stops, no text goes on, and up to there one does
abbrev pub StopsAtFirst : Type 0
StopsAtFirst = (f : Fault) (g : Syntax) (s r : List Token) → IsWellFormed g → Stops unlimited f g s r → UnexpectedAt g s r

-- the fronts of a part are the beginnings of its texts
abbrev pub FrontsAreViable : Type 0
FrontsAreViable = (g : Syntax) (s : List Token) → IsWellFormed g → IsFront g s ↔ IsViable g s

-- what the grammar as it is written spells is what is read with one token ahead
abbrev pub SpelledIsRead : Type 0
SpelledIsRead = (g : Syntax) (s : List Token) → IsWellFormed g → Spells g s ↔ IsWhole g s

-- what is read within limits is read without them
abbrev pub ReadWithoutLimits : Type 0
ReadWithoutLimits = (d : Nesting) (g : Syntax) (s r : List Token) (x : Tree) → Reads d g s x r → Reads unlimited g s x r

-- where reading stops within limits for another reason than these, it stops there without them
abbrev pub StopsWithoutLimits : Type 0
StopsWithoutLimits = (d : Nesting) (f : Fault) (g : Syntax) (s r : List Token) → (f ≡ Fault.TooDeep → ⊥) → Stops d f g s r
    → Stops unlimited f g s r

-- The tokens before a rest are read exactly where they are a whole text and, with the next token, no front: so the longest
-- front is read, where that is a whole text.
abbrev pub LongestIsRead : Type 0
LongestIsRead = (g : Syntax) (before rest : List Token) → IsWellFormed g → (Spells g before × IsLongest g before rest)
    ↔ Accepts unlimited g (before ++ rest) rest

-- reading stops behind the longest front, where that isn't a whole text
abbrev pub StopsAtLongest : Type 0
StopsAtLongest = (f : Fault) (g : Syntax) (before rest : List Token) → IsWellFormed g → Stops unlimited f g (before ++ rest) rest →
    IsFront g before × IsLongest g before rest × (Spells g before → ⊥)

-- what is read without limits is read within them, or reading stops too deep
abbrev pub ReadOrTooDeep : Type 0
ReadOrTooDeep = (d : Nesting) (g : Syntax) (s r : List Token) (x : Tree) → Reads unlimited g s x r →
    Reads d g s x r ⊎ ((q : List Token) × Stops d Fault.TooDeep g s q)

-- where reading stops without limits, it stops there within them, or it stops too deep
abbrev pub StopsOrTooDeep : Type 0
StopsOrTooDeep = (d : Nesting) (f : Fault) (g : Syntax) (s r : List Token) → Stops unlimited f g s r →
    Stops d f g s r ⊎ ((q : List Token) × Stops d Fault.TooDeep g s q)

-- where reading stops, too deep or not, the tokens before are a front
abbrev pub FrontBeforeFault : Type 0
FrontBeforeFault = (d : Nesting) (f : Fault) (g : Syntax) (before rest : List Token) → IsWellFormed g
    → Stops d f g (before ++ rest) rest → IsFront g before
