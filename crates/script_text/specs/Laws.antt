-- Laws: a text spells at most one script, and one term; or it has one fault, and spells none.
use Rattle.std.specs.Prelude.{ℕ, ◌≡◌, ◌↔◌, List}
use Rattle.lotos_ast.specs.declared.text_kind.TextKind.{TextKind}
use Rattle.lotos_ast.specs.declared.token.Token.{Token}
use Rattle.lotos_ast.specs.Fronts.{IsWhole}
use Rattle.lotos_ast.specs.Spelled.{Spells}
use Rattle.spec_core.specs.Code.{Program}
use Rattle.spec_core.specs.Terms.{TermTree}
use Rattle.spec_core.specs.Theories.{Theory}
use Rattle.script_text.specs.Scripts.{SpellsScript, IsScriptFault}
use Rattle.script_text.specs.Terms.{SpellsTerm, IsTermFault}
use Rattle.script_text.specs.Wishes.{Wished}
use Rattle.script_text.specs.Written.{wish_line}

abbrev pub OneScript : Type 0
OneScript = (program : Program) (text : List ℕ) (clients others : List (List Wished)) →
    SpellsScript program text clients → SpellsScript program text others → clients ≡ others

abbrev pub OneScriptFault : Type 0
OneScriptFault = (program : Program) (text : List ℕ) (line other : ℕ) (kind another : TextKind) →
    IsScriptFault program text line kind → IsScriptFault program text other another → (line ≡ other) × (kind ≡ another)

abbrev pub ScriptOrFault : Type 0
ScriptOrFault = (program : Program) (text : List ℕ) (clients : List (List Wished)) (line : ℕ) (kind : TextKind) →
    SpellsScript program text clients → IsScriptFault program text line kind → ⊥

abbrev pub OneTerm : Type 0
OneTerm = (theory : Theory) (text : List ℕ) (t u : TermTree) (sort other : ℕ) →
    SpellsTerm theory text t sort → SpellsTerm theory text u other → (t ≡ u) × (sort ≡ other)

abbrev pub OneTermFault : Type 0
OneTermFault = (theory : Theory) (text : List ℕ) (kind other : TextKind) →
    IsTermFault theory text kind → IsTermFault theory text other → kind ≡ other

abbrev pub TermOrFault : Type 0
TermOrFault = (theory : Theory) (text : List ℕ) (t : TermTree) (sort : ℕ) (kind : TextKind) →
    SpellsTerm theory text t sort → IsTermFault theory text kind → ⊥

-- what the grammar of a line as it is written spells is what is read with one token ahead, limits of nesting aside
abbrev pub LinesAreSpelled : Type 0
LinesAreSpelled = (tokens : List Token) → Spells wish_line tokens ↔ IsWhole wish_line tokens
