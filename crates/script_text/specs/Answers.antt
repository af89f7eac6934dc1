-- What the calls answer where a text isn't in the grammar.
use Rattle.std.specs.Prelude.{ℕ, Result, Ok, Err}
use Rattle.lotos_ast.specs.declared.text_kind.TextKind.{TextKind}
use Rattle.script_text.specs.declared.fault.LineFault.{LineFault}
use Rattle.script_text.specs.declared.fault.LineFault.TheVariants.{Kind, Memory as NoRoom}
use Rattle.script_text.specs.declared.fault.ScriptFault.{ScriptFault}
use Rattle.script_text.specs.declared.fault.ScriptFault.TheVariants.{Line, Memory}

-- what holds of the kind, where the fault has one
abbrev pub OnKind : LineFault → (TextKind → Type 0) → Type 0
OnKind (Kind kind) P = P kind
OnKind NoRoom P = Unit {0}

-- what holds of the kind, where the answer is one
abbrev pub IfKind : {T : Type 0} → Result T LineFault → (TextKind → Type 0) → Type 0
IfKind (Ok value) P = Unit {0}
IfKind (Err fault) P = OnKind fault P

-- what holds of the line's number and the kind, where the fault has them
abbrev pub OnLine : ScriptFault → (ℕ → TextKind → Type 0) → Type 0
OnLine (Line line kind) P = P line kind
OnLine Memory P = Unit {0}

-- what holds of the line's number and the kind, where the answer is a line
abbrev pub IfLine : {T : Type 0} → Result T ScriptFault → (ℕ → TextKind → Type 0) → Type 0
IfLine (Ok value) P = Unit {0}
IfLine (Err fault) P = OnLine fault P
