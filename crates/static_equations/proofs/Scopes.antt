-- Scopes into which variables are put for a while.
use Rattle.std.proofs.Common.{ℕ, ◌≡◌, ◌≤◌, List, ◌++◌, length, take, ap, ◌∙◌, arith}
use Rattle.std.proofs.lemmas.List.{take-append-le, take_all}
use Rattle.sort_overloads.specs.declared.scope.Scope.{Scope}
use Rattle.sort_overloads.specs.Readings.{Context, Declared}
use Rattle.sort_overloads.specs.Views.{context_of}

pub context-same : (a b : Context) → a.sorts ≡ b.sorts → a.operations ≡ b.operations → a.variables ≡ b.variables → a ≡ b
context-same a b e f g =
    ap (λ z. record { sorts = z; operations = a.operations; variables = a.variables }) e
    ∙ ap (λ z. record { sorts = b.sorts; operations = z; variables = a.variables }) f
    ∙ ap (λ z. record { sorts = b.sorts; operations = b.operations; variables = z }) g

cut-back : (old put cut more : List Declared) (n : ℕ) → n ≡ length old → cut ≡ take n put → put ≡ old ++ more → cut ≡ old
cut-back old put cut more n e f g =
    let short : n ≤ length old = omega (arith, e) in
    let long : length old ≤ n = omega (arith, e) in
    f ∙ ap (take n) g ∙ take-append-le n old more short ∙ take_all n old long

-- they are taken away again
pub restored : (old put : Scope) (cut more : List Declared) (n : ℕ) → context_of put ≡ record { sorts = (context_of old).sorts; operations = (context_of old).operations; variables = (context_of old).variables ++ more } →
    n ≡ length old.vars → cut ≡ take n put.vars → record { sorts = (context_of put).sorts; operations = (context_of put).operations; variables = cut } ≡ context_of old
restored old put cut more n same e f =
    context-same (record { sorts = (context_of put).sorts; operations = (context_of put).operations; variables = cut }) (context_of old)
    (ap (λ z. z.sorts) same) (ap (λ z. z.operations) same) (cut-back old.vars put.vars cut more n e f (ap (λ z. z.variables) same))
