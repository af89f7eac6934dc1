-- What is read, or stops, is what a parser is to answer.
use Rattle.std.proofs.Common.{List, subst}
use Rattle.lotos_ast.specs.declared.token.Token.{Token}
use Rattle.lotos_ast.specs.Notation.{Syntax}
use Rattle.lotos_ast.specs.declared.fault.Fault.{Fault}
use Rattle.lotos_ast.specs.Nesting.{unlimited, outermost}
use Rattle.lotos_ast.specs.Reads.{Tree, Reads, Stops}
use Rattle.lotos_ast.specs.Conditions.{IsWellFormed}
use Rattle.lotos_ast.specs.Parsing.{IsParsed, IsRefused}
use Rattle.lotos_ast.proofs.Tails.{reads_cut}
use Rattle.lotos_ast.proofs.Limits.{reads_unlimited, stops_unlimited}
use Rattle.lotos_ast.proofs.Fronts.{before_is_front}
use Rattle.lotos_ast.proofs.Grows.{front_viable}
use Rattle.lotos_ast.proofs.LongestLaws.{longest_is_read, stops_at_longest}

pub parsed : (g : Syntax) (s : List Token) (tree : Tree) (rest : List Token) → IsWellFormed g → Reads outermost g s tree rest → IsParsed g s tree rest
parsed g s tree rest c h =
    let u = reads_unlimited h in
    let k = reads_cut u in
    let w = (longest_is_read g k.taken rest c).1 (tree, subst (λ z. Reads unlimited g z tree rest) k.all u) in
    record { before = k.taken; all = k.all; spelled = w.0; longest = w.1; read = h }

pub refused : (g : Syntax) (s : List Token) (f : Fault) (rest : List Token) → IsWellFormed g → Stops outermost f g s rest → IsRefused g s f rest
refused g s f rest c h =
    let u = before_is_front outermost g f s rest c.0 h in
    record {
      before = u.0;
      all = u.1;
      viable = front_viable g u.0 c.0 c.1 u.2;
      first = λ n. let w = stops_at_longest f g u.0 rest c (stops_unlimited (subst (λ z. Stops outermost f g z rest) u.1 h) n) in (w.1, w.2);
      stopped = h;
    }
