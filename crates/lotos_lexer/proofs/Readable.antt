-- What else holds of the answer, since a text has one list of tokens or one refusal.
use Rattle.std.proofs.Common.{ℕ, List, ◌<◌, ◌≤◌, ◌≡◌, Result, Ok, Err, Vec, IfOk, OnOk, inl, inr, length, sym, subst}
use Rattle.std.specs.declared.alloc.Global.{Global}
use Rattle.lotos_ast.specs.declared.refusal.FrontFault.{FrontFault}
use Rattle.lotos_ast.specs.declared.refusal.FrontFault.TheVariants.{Refused, Memory}
use Rattle.lotos_ast.specs.declared.refusal.Refusal.{Refusal}
use Rattle.lotos_ast.specs.declared.token.Token.{Token}
use Rattle.lotos_ast.specs.Refusals.{IfRefused}
use Rattle.lotos_ast.specs.Tokenizes.{Tokenizes, Refuses, IsUnreadable, by_length, by_bytes, too_long, text_limit}
use Rattle.lotos_ast.proofs.TokenLaws.{one_tokens, one_refusal, no_refusal}
use Rattle.std.proofs.lemmas.Bool.{cases_lt}

abbrev pub Answer : Type 0
Answer = Result (Vec Token Global) FrontFault

pub too_long_at : (text : List ℕ) (r : Refusal) → text_limit < length text → r ≡ too_long → IsUnreadable text r
too_long_at text r l e = subst (IsUnreadable text) (sym e) (by_length l)

pub only_tokens : (text : List ℕ) (a : Answer) → IfOk a (λ all. Tokenizes text all.items) → IfOk a (λ all. (others : List Token) → Tokenizes text others → others ≡ all.items)
only_tokens text (Ok all) h = λ others k. one_tokens text others all.items k h
only_tokens text (Err fault) h = tt

pub readable : (text : List ℕ) (a : Answer) → length text ≤ text_limit → IfOk a (λ all. Tokenizes text all.items) → OnOk a ((r : Refusal) → IsUnreadable text r → ⊥)
readable text (Ok all) l h = λ r k. no_refusal text all.items r l h k
readable text (Err fault) l h = tt

pub refused : (text : List ℕ) (a : Answer) → length text ≤ text_limit → IfRefused a (Refuses text) → IfRefused a (IsUnreadable text)
refused text (Ok all) l h = tt
refused text (Err (Refused r)) l h = by_bytes l h
refused text (Err Memory) l h = tt

pub only_refusal : (text : List ℕ) (a : Answer) → IfRefused a (IsUnreadable text) → IfRefused a (λ r. (other : Refusal) → IsUnreadable text other → other ≡ r)
only_refusal text (Ok all) h = tt
only_refusal text (Err (Refused r)) h = λ other k. one_refusal text other r k h
only_refusal text (Err Memory) h = tt

pub unreadable : (text : List ℕ) (a : Answer) → IfRefused a (IsUnreadable text) → IfRefused a (λ r. (all : List Token) → Tokenizes text all → text_limit < length text)
unreadable text (Ok all) h = tt
unreadable text (Err (Refused r)) h = λ all k. elim (cases_lt text_limit (length text)) [ inl l ↦ l | inr l ↦ absurd (no_refusal text all r l k h) ]
unreadable text (Err Memory) h = tt
