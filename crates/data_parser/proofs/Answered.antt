-- What is read, or halts, is what a call is to answer.
use Rattle.std.proofs.Common.{ℕ, ◌≤◌, ◌+◌, ◌-◌, List, ◌++◌, length, take, drop, ◌≡◌, sym, subst, ap, ◌∙◌, append_assoc, arith}
use Rattle.std.proofs.Math.Seq.{drop-append_seam}
use Rattle.std.proofs.lemmas.List.{take-append-drop, length-append, length-drop}
use Rattle.lotos_ast.specs.declared.token.Token.{Token}
use Rattle.lotos_ast.specs.declared.refusal.FrontFault.{FrontFault}
use Rattle.lotos_ast.specs.declared.refusal.FrontFault.TheVariants.{Refused, Memory}
use Rattle.lotos_ast.specs.Notation.{Syntax}
use Rattle.lotos_ast.specs.Reads.{Tree, Reads, Stops}
use Rattle.lotos_ast.specs.Conditions.{IsWellFormed}
use Rattle.lotos_ast.specs.Nesting.{outermost}
use Rattle.lotos_ast.specs.Parsing.{IsParsed, IsParsedBetween, IsRefusedFrom, refused}
use Rattle.lotos_ast.specs.Refusals.{OnRefusal}
use Rattle.lotos_ast.proofs.GrammarLaws.{rules_are_well_formed, types_are_well_formed}
use Rattle.lotos_ast.proofs.Parsing.{parsed, refused as is_refused}
use Rattle.syntax_cursor.specs.declared.parse_fault.ParseFault.{ParseFault}
use Rattle.syntax_cursor.specs.Parsers.{Halts, Tells}

rest_behind : (front rest : List Token) (n : ℕ) → n ≡ length (front ++ rest) - length rest → rest ≡ drop n (front ++ rest)
rest_behind front rest n h =
    let k : n ≡ length front = omega (arith, h, length-append front rest) in
    subst (λ z. rest ≡ drop z (front ++ rest)) (sym k) (sym (drop-append_seam front rest))

pub parsed_between : (g : Syntax) (tokens s rest : List Token) (from n : ℕ) (tree : Tree) →
    IsWellFormed g → from ≤ length tokens → s ≡ drop from tokens → Reads outermost g s tree rest → n ≡ length tokens - length rest →
    IsParsedBetween g tokens from tree n
parsed_between g tokens s rest from n tree c w e h i =
    let p = parsed g s tree rest c h in
    let a : tokens ≡ (take from tokens ++ p.before) ++ rest =
    sym (take-append-drop from tokens) ∙ ap
    (λ z. take from tokens ++ z) (sym e ∙ p.all) ∙ sym (append_assoc (take from tokens) p.before rest) in
    let b : rest ≡ drop n tokens =
    subst (λ z. rest ≡ drop n z) (sym a) (rest_behind (take from tokens ++ p.before) rest n (i ∙ ap (λ z. length z - length rest) a)) in
    let l : length p.before + length rest ≡ length tokens - from =
    sym (length-append p.before rest) ∙ ap length (sym p.all ∙ e) ∙ length-drop from tokens in
    record {
      parsed = subst (λ z. IsParsed g (drop from tokens) tree z) b (subst (λ z. IsParsed g z tree rest) e p);
      forward = omega (arith, i, l, w);
      within = omega (arith, i);
    }

pub refused_from : (x : FrontFault) (e : ParseFault) (g : Syntax) (tokens s rest : List Token) (from : ℕ) →
    IsWellFormed g → s ≡ drop from tokens → Halts e outermost g s rest → Tells x e tokens rest →
    OnRefusal x (IsRefusedFrom g tokens from)
refused_from (Refused r) e g tokens s rest from c i h t =
    subst (λ z. IsRefusedFrom g tokens from z) (sym t.2)
    (refused t.0 rest (is_refused g (drop from tokens) t.0 rest c (subst (λ z. Stops outermost t.0 g z rest) i (h.stops t.0 t.1))))
refused_from Memory e g tokens s rest from c i h t = tt

pub ruleset answer_steps = (parsed_between, refused_from, rules_are_well_formed, types_are_well_formed)
