-- What is answered of a script, and what else holds then.
use Rattle.std.proofs.Common.{ℕ, ◌≡◌, ◌+◌, ◌≤◌, ◌<◌, List, Result, Ok, Err, IfOk, length, refl, subst}
use Rattle.std.specs.Str.Lines.{lines}
use Rattle.lotos_ast.specs.declared.text_kind.TextKind.{TextKind}
use Rattle.lotos_ast.specs.declared.text_kind.TextKind.TheVariants.{Long}
use Rattle.spec_core.specs.Code.{Program}
use Rattle.spec_core.specs.Lists.{Each}
use Rattle.sort_overloads.specs.Readings.{Context}
use Rattle.script_text.specs.declared.fault.ScriptFault.{ScriptFault}
use Rattle.script_text.specs.declared.fault.ScriptFault.TheVariants.{Line, Memory}
use Rattle.script_text.specs.declared.wish.Script.{Script}
use Rattle.script_text.specs.Answers.{IfLine}
use Rattle.script_text.specs.Meanings.{context_in}
use Rattle.script_text.specs.Scripts.{script_limit, LinesSay, by_client, SpellsScript, WishFits, IsFirstFault, IsScriptFault, too_long, at_line}
use Rattle.script_text.specs.Wishes.{Wished, ClientWish, script_of}
use Rattle.script_text.proofs.OneScript.{one_script, one_script_fault, script_or_fault, script_fits, script_few}

pub long_text : (program : Program) (text : List ℕ) → script_limit < length text → IsScriptFault program text 0 Long
long_text program text h = too_long h refl refl

pub spelled_script : (program : Program) (text : List ℕ) (c : Context) (r : Result Script ScriptFault) → length text ≤ script_limit →
    c ≡ context_in program.theory →
    IfOk r (λ s. (said : List ClientWish) × LinesSay c program.gates (lines text) said × (script_of s ≡ by_client said)) →
    IfOk r (λ s. SpellsScript program text (script_of s))
spelled_script program text c (Ok s) short e h =
    record { short = short; said = h.0; say = subst (λ z. LinesSay z program.gates (lines text) h.0) e h.1; each_client = h.2 }
spelled_script program text c (Err e) short i h = tt

pub faulty_script : (program : Program) (text : List ℕ) (c : Context) (r : Result Script ScriptFault) → length text ≤ script_limit →
    c ≡ context_in program.theory →
    IfLine r (λ line kind. (count : ℕ) × (line ≡ count + 1) × IsFirstFault c program.gates (lines text) count kind) →
    IfLine r (IsScriptFault program text)
faulty_script program text c (Ok s) short e h = tt
faulty_script program text c (Err (Line line kind)) short e h =
    at_line h.0 short h.1 (subst (λ z. IsFirstFault z program.gates (lines text) h.0 kind) e h.2)
faulty_script program text c (Err Memory) short e h = tt

pub ruleset script_rows = (long_text, spelled_script, faulty_script)

-- what else holds of the answer
pub only_script : (program : Program) (text : List ℕ) (r : Result Script ScriptFault) → IfOk r (λ s. SpellsScript program text (script_of s)) →
    IfOk r (λ s. (others : List (List Wished)) → SpellsScript program text others → others ≡ script_of s)
only_script program text (Ok s) h = λ others k. one_script program text others (script_of s) k h
only_script program text (Err e) h = tt

pub fitting_script : (program : Program) (text : List ℕ) (r : Result Script ScriptFault) → IfOk r (λ s. SpellsScript program text (script_of s)) →
    IfOk r (λ s. Each (Each (WishFits program)) (script_of s))
fitting_script program text (Ok s) h = script_fits program text (script_of s) h
fitting_script program text (Err e) h = tt

pub few_in_script : (program : Program) (text : List ℕ) (r : Result Script ScriptFault) → IfOk r (λ s. SpellsScript program text (script_of s)) →
    IfOk r (λ s. length (script_of s) ≤ 64)
few_in_script program text (Ok s) h = script_few program text (script_of s) h
few_in_script program text (Err e) h = tt

pub faultless_script : (program : Program) (text : List ℕ) (r : Result Script ScriptFault) → IfOk r (λ s. SpellsScript program text (script_of s)) →
    IfOk r (λ s. (line : ℕ) (kind : TextKind) → IsScriptFault program text line kind → ⊥)
faultless_script program text (Ok s) h = λ line kind k. script_or_fault program text (script_of s) line kind h k
faultless_script program text (Err e) h = tt

pub only_script_fault : (program : Program) (text : List ℕ) (r : Result Script ScriptFault) → IfLine r (IsScriptFault program text) →
    IfLine r (λ line kind. (other : ℕ) (another : TextKind) → IsScriptFault program text other another → (other ≡ line) × (another ≡ kind))
only_script_fault program text (Ok s) h = tt
only_script_fault program text (Err (Line line kind)) h = λ other another k. one_script_fault program text other line another kind k h
only_script_fault program text (Err Memory) h = tt

pub no_script : (program : Program) (text : List ℕ) (r : Result Script ScriptFault) → IfLine r (IsScriptFault program text) →
    IfLine r (λ line kind. (clients : List (List Wished)) → SpellsScript program text clients → ⊥)
no_script program text (Ok s) h = tt
no_script program text (Err (Line line kind)) h = λ clients k. script_or_fault program text clients line kind k h
no_script program text (Err Memory) h = tt
