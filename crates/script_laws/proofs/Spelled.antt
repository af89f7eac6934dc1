-- What is printed of a ground term spells it, and nothing else.
use Rattle.std.proofs.Common.{ℕ, ◌≡◌, List, [], ◌++◌, false, refl, subst, arith, append-nil, ◌≤◌}
use Rattle.lotos_ast.specs.declared.token.Token.{Token}
use Rattle.lotos_ast.specs.Begins.{place_at}
use Rattle.lotos_ast.specs.Fronts.{Accepts}
use Rattle.lotos_ast.specs.Nesting.{outermost}
use Rattle.lotos_ast.specs.Notation.{part, expression}
use Rattle.lotos_ast.specs.Places.{start_place}
use Rattle.lotos_ast.specs.Reads.{both, absent, node}
use Rattle.lotos_ast.specs.Tokenizes.{IsSpelled, Tokenizes, ends}
use Rattle.lotos_ast.proofs.TokenLaws.{one_tokens}
use Rattle.spec_core.specs.Code.{Program}
use Rattle.spec_core.specs.Ready.{AreNamed}
use Rattle.spec_core.specs.Sorts.{FitsData, HasSort, no_variables}
use Rattle.spec_core.specs.Terms.{TermTree}
use Rattle.script_text.proofs.OneTerm.{one_term}
use Rattle.value_text.proofs.OneTerm.{text}
use Rattle.script_laws.specs.Depths.{depth}
use Rattle.script_laws.specs.Laws.{PrintedIsSpelled, SpelledIsPrinted}
use Rattle.script_laws.proofs.Grammar.{lone_operand}
use Rattle.script_laws.proofs.Terms.{IsOperand, is_read}
use Rattle.script_laws.proofs.Within.{in_expression}

-- a text of a term alone
alone : (program : Program) → FitsData program.theory → AreNamed program → (t : TermTree) (sort : ℕ) →
    HasSort program.theory no_variables t sort → IsOperand program.theory start_place (text program.theory t ++ []) [] t sort
alone program fits named t sort h =
    is_read program.theory fits named.operations named.sorts named.sorts_differ named.operations_differ t sort start_place [] [] h tt
    (refl, refl) ends

pub printed_is_spelled : PrintedIsSpelled
printed_is_spelled program fits named t sort h deep short =
    let one = alone program fits named t sort h in
    record {
      tree = node (place_at one.tokens) (both one.tree absent);
      written = record {
        short = short;
        tokens = one.tokens;
        cut = subst (λ s. IsSpelled false start_place s one.tokens) (append-nil (text program.theory t)) one.cut;
        read = lone_operand outermost one.tokens [] one.tree (one.read outermost (omega (arith, deep), omega (arith, deep))) refl;
      };
      reading = one.one;
    }

deep_enough : (program : Program) (t : TermTree) (sort : ℕ) (one : IsOperand program.theory start_place (text program.theory t ++ []) [] t sort)
    (tokens : List Token) → Tokenizes (text program.theory t) tokens → Accepts outermost (part expression) tokens [] → depth t ≤ 256
deep_enough program t sort one tokens cut read =
    let mine : Tokenizes (text program.theory t) one.tokens =
    subst (λ s. IsSpelled false start_place s one.tokens) (append-nil (text program.theory t)) one.cut in
    let same : tokens ≡ one.tokens = one_tokens (text program.theory t) tokens one.tokens cut mine in
    let k = in_expression outermost one.tokens [] (subst (λ z. Accepts outermost (part expression) z []) same read) in
    let m = one.deep 0 0 k.middle k.first in
    omega (arith, m)

pub spelled_is_printed : SpelledIsPrinted
spelled_is_printed program fits named t other sort another h spelled =
    let one = alone program fits named t sort h in
    let deep = deep_enough program t sort one spelled.written.tokens spelled.written.cut (spelled.tree, spelled.written.read) in
    let short = spelled.written.short in
    let same = one_term program.theory (text program.theory t) other t another sort spelled (printed_is_spelled program fits named t sort h deep short) in
    (same.0, same.1, deep, short)
