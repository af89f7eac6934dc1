-- Texts that are read whole, in one way only.
use Rattle.std.proofs.Common.{ℕ, ◌≡◌, ◌≤◌, ◌<◌, ◌==◌, List, [], false, length, sym, subst, ap, arith}
use Rattle.lotos_ast.specs.declared.fault.Fault.{Fault}
use Rattle.lotos_ast.specs.declared.token.Token.{Token}
use Rattle.lotos_ast.specs.Nesting.{Nesting, outermost}
use Rattle.lotos_ast.specs.Notation.{Syntax}
use Rattle.lotos_ast.specs.Reads.{Tree, Reads}
use Rattle.lotos_ast.specs.Tokenizes.{Tokenizes, text_limit}
use Rattle.lotos_ast.proofs.OneReading.{one_reading, never_both}
use Rattle.lotos_ast.proofs.TokenLaws.{one_tokens}
use Rattle.syntax_cursor.specs.declared.parse_fault.ParseFault.{ParseFault}
use Rattle.syntax_cursor.specs.declared.parse_fault.ParseFault.TheVariants.{Stopped}
use Rattle.syntax_cursor.specs.Parsers.{reason_of, Halts}
use Rattle.script_text.specs.Texts.{IsTextOf, IsNoTextOf}

pub one_text : {g : Syntax} {text : List ℕ} {x y : Tree} → IsTextOf g text x → IsTextOf g text y → x ≡ y
one_text {g} {text} {x} {y} h k =
    (one_reading h.read (subst (λ z. Reads outermost g z y []) (one_tokens text k.tokens h.tokens k.cut h.cut) k.read)).0

-- reading that stops reads no tree
pub stopped_unread : (e : ParseFault) (f : Fault) (d : Nesting) (g : Syntax) (tokens s r : List Token) → e ≡ Stopped f → Halts e d g s r →
    d ≡ outermost → s ≡ tokens → (tree : Tree) → Reads outermost g tokens tree [] → ⊥
stopped_unread e f d g tokens s r is h n m tree k =
    never_both (h.stops f (ap reason_of is))
    (subst (λ z. Reads z g s tree []) (sym n) (subst (λ z. Reads outermost g z tree []) (sym m) k))

not_empty : (s : List Token) → s ≡ [] → (length s == 0) ≡ false → ⊥
not_empty s e h = let k : (length s == 0) ≡ (length {A = Token} [] == 0) = ap (λ z. length z == 0) e in cc

-- nor does reading that leaves tokens
pub left_unread : (g : Syntax) (s r : List Token) (x : Tree) → Reads outermost g s x r → (length r == 0) ≡ false →
    (tree : Tree) → Reads outermost g s tree [] → ⊥
left_unread g s r x h left tree k = not_empty r ((one_reading h k).1) left

pub text_read : (g : Syntax) (text : List ℕ) (tokens : List Token) (tree : Tree) → length text ≤ text_limit → Tokenizes text tokens →
    Reads outermost g tokens tree [] → IsTextOf g text tree
text_read g text tokens tree short cut read = record { short = short; tokens = tokens; cut = cut; read = read }

-- a text without tokens is no text of any part
pub uncut_text : (g : Syntax) (text : List ℕ) → ((all : List Token) → length text ≤ text_limit → Tokenizes text all → ⊥) → IsNoTextOf g text
uncut_text g text h = record { none = λ tree k. h k.tokens k.short k.cut }

-- nor is one whose tokens aren't read
pub unread_text : (g : Syntax) (text : List ℕ) (tokens : List Token) → Tokenizes text tokens →
    ((tree : Tree) → Reads outermost g tokens tree [] → ⊥) → IsNoTextOf g text
unread_text g text tokens cut h = record { none = λ tree k. h tree (subst (λ z. Reads outermost g z tree []) (one_tokens text k.tokens tokens k.cut cut) k.read) }

-- where every list of tokens shows that a text is too long, one that isn't has none
pub none_within : (text : List ℕ) → ((all : List Token) → Tokenizes text all → text_limit < length text) →
    (all : List Token) → length text ≤ text_limit → Tokenizes text all → ⊥
none_within text h all short cut = let long = h all cut in absurd (omega (arith, long, short))

pub ruleset whole_steps = (left_unread, text_read, uncut_text, unread_text, none_within)
