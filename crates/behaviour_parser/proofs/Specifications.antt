-- What is read, or fails, is what the call is to answer.
use Rattle.std.proofs.Common.{List, [], ◌∷◌, Some, true, ◌≡◌, sym, subst, ◌∙◌, ◌⊎◌, inl, inr}
use Rattle.std.proofs.lemmas.Option.{same_Some}
use Rattle.lotos_ast.specs.declared.token.Token.{Token}
use Rattle.lotos_ast.specs.declared.refusal.FrontFault.{FrontFault}
use Rattle.lotos_ast.specs.declared.refusal.FrontFault.TheVariants.{Refused, Memory}
use Rattle.lotos_ast.specs.TokenMarks.{mark_of}
use Rattle.lotos_ast.specs.Notation.{part, specification}
use Rattle.lotos_ast.specs.declared.fault.Fault.{Fault}
use Rattle.lotos_ast.specs.Nesting.{fault_at, outermost}
use Rattle.lotos_ast.specs.Reads.{Tree, Reads, Stops}
use Rattle.lotos_ast.specs.Parsing.{IsParsed, refusal_at}
use Rattle.lotos_ast.specs.Refusals.{OnRefusal}
use Rattle.lotos_ast.proofs.Parsing.{parsed, refused}
use Rattle.lotos_ast.proofs.GrammarLaws.{rules_are_well_formed}
use Rattle.syntax_cursor.specs.declared.parse_fault.ParseFault.{ParseFault}
use Rattle.syntax_cursor.specs.Parsers.{reason_of, Halts, Tells}
use Rattle.behaviour_parser.specs.Specifications.{IsNoSpecification, stopped, followed, IsFollowed, Fails}

pub fails_halting : (e : ParseFault) (s r : List Token) → Halts e outermost (part specification) s r → Fails e s r
fails_halting e s r h = record { stops = λ f i. inl (h.stops f i) }

pub fails_followed : (e : ParseFault) (s m u : List Token) (x : Tree) (t : Token) →
    Reads outermost (part specification) s x m → m ≡ t ∷ u → reason_of e ≡ Some (fault_at true (mark_of t)) →
    Fails e s m
fails_followed e s m u x t h i k = record {
  stops = λ f j. inr (record { tree = x; token = t; others = u; left = i; read = h; reason = same_Some _ _ (sym j ∙ k) });
}

pub whole_parsed : (s : List Token) (x : Tree) → Reads outermost (part specification) s x [] → IsParsed (part specification) s x []
whole_parsed s x h = parsed (part specification) s x [] (rules_are_well_formed specification) h

at_rest : (f : Fault) (s r : List Token) →
    Stops outermost f (part specification) s r ⊎ IsFollowed f s r →
    IsNoSpecification s (refusal_at f s r)
at_rest f s r (inl h) = stopped f r (refused (part specification) s f r (rules_are_well_formed specification) h)
at_rest f s r (inr k) =
    let p = parsed (part specification) s k.tree r (rules_are_well_formed specification) k.read in
    subst (λ z. IsNoSpecification s (refusal_at f s z)) (sym k.left)
    (subst (λ z. IsNoSpecification s (refusal_at z s (k.token ∷ k.others))) (sym k.reason)
    (followed k.tree k.token k.others (subst (λ z. IsParsed (part specification) s k.tree z) k.left p)))

pub no_specification : (x : FrontFault) (e : ParseFault) (s r : List Token) →
    Fails e s r → Tells x e s r →
    OnRefusal x (IsNoSpecification s)
no_specification (Refused y) e s r h t = subst (λ z. IsNoSpecification s z) (sym t.2) (at_rest t.0 s r (h.stops t.0 t.1))
no_specification Memory e s r h t = tt
