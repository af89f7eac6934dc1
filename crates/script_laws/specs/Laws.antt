-- Laws: what is printed of a ground term is read as that term, and as no other.
use Rattle.std.specs.Prelude.{ℕ, ◌≡◌, ◌≤◌, List, [], length}
use Rattle.lotos_ast.specs.Tokenizes.{text_limit}
use Rattle.spec_core.specs.Code.{Program}
use Rattle.spec_core.specs.Ready.{AreNamed}
use Rattle.spec_core.specs.Sorts.{FitsData, HasSort, no_variables}
use Rattle.spec_core.specs.TermText.{term_text}
use Rattle.spec_core.specs.Terms.{TermTree}
use Rattle.spec_core.specs.Theories.{Theory}
use Rattle.script_text.specs.Terms.{SpellsTerm}
use Rattle.script_laws.specs.Depths.{depth}

-- the text of a ground term
abbrev pub ground_text : Theory → TermTree → List ℕ
ground_text theory t = term_text theory.sorts theory.operations [] t

-- the text of a ground term spells that term, of its sort, where it isn't too long, and the term isn't deeper than brackets may be nested
abbrev pub PrintedIsSpelled : Type 0
PrintedIsSpelled = (program : Program) → FitsData program.theory → AreNamed program → (t : TermTree) (sort : ℕ) →
    HasSort program.theory no_variables t sort → depth t ≤ 256 → length (ground_text program.theory t) ≤ text_limit →
    SpellsTerm program.theory (ground_text program.theory t) t sort

-- where the text of a ground term spells a term, it is that one, and it is within these limits
abbrev pub SpelledIsPrinted : Type 0
SpelledIsPrinted = (program : Program) → FitsData program.theory → AreNamed program → (t other : TermTree) (sort another : ℕ) →
    HasSort program.theory no_variables t sort → SpellsTerm program.theory (ground_text program.theory t) other another →
    (other ≡ t) × (another ≡ sort) × (depth t ≤ 256) × (length (ground_text program.theory t) ≤ text_limit)
