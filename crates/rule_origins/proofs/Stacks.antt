-- Terms on a stack.
use Rattle.std.proofs.Common.{ℕ, zero, suc, ◌≡◌, ◌+◌, ◌-◌, ◌<◌, ◌≤◌, List, [], ◌∷◌, ◌++◌, length, map, take, drop, refl, sym, ap}
use Rattle.std.proofs.Common.{◌∙◌, arith, get_or, drop-cons, append_assoc}
use Rattle.std.proofs.lemmas.List.{reverse-append, append-nil, map-append, length-map}
use Rattle.spec_core.specs.declared.items.Op.{Op}
use Rattle.spec_core.specs.declared.term.Term.{Term}
use Rattle.spec_core.specs.Numbers.{op_number}
use Rattle.spec_core.specs.Terms.{TermTree, term_of}
use Rattle.rule_origins.specs.Stacks.{from_top}

pub pushed : (old new : List Term) (t : Term) → new ≡ old ++ t ∷ [] → from_top new ≡ term_of t ∷ from_top old
pushed old new t e = ap from_top e ∙ ap (map term_of) (reverse-append old (t ∷ []))

pub emptied : (old : List Term) → length old ≡ 0 → from_top old ≡ []
emptied [] e = refl
emptied (t ∷ ts) e = absurd (omega (arith, e))

-- the first of so many terms, and the others
first_taken : (k : ℕ) (a b : List TermTree) → length a ≡ k → a ≡ take k (a ++ b)
first_taken zero [] b e = refl
first_taken zero (t ∷ a) b e = absurd (omega (arith, e))
first_taken (suc k) [] b e = absurd (omega (arith, e))
first_taken (suc k) (t ∷ a) b e = ap (λ l. t ∷ l) (first_taken k a b (omega (arith, e)))

others_left : (k : ℕ) (a b : List TermTree) → length a ≡ k → b ≡ drop k (a ++ b)
others_left zero [] b e = refl
others_left zero (t ∷ a) b e = absurd (omega (arith, e))
others_left (suc k) [] b e = absurd (omega (arith, e))
others_left (suc k) (t ∷ a) b e = others_left k a b (omega (arith, e))

all_taken : (k : ℕ) (a : List TermTree) → length a ≤ k → a ≡ take k a
all_taken zero [] e = refl
all_taken zero (t ∷ a) e = absurd (omega (arith, e))
all_taken (suc k) [] e = refl
all_taken (suc k) (t ∷ a) e = ap (λ l. t ∷ l) (all_taken k a (omega (arith, e)))

none_left : (k : ℕ) (a : List TermTree) → length a ≤ k → [] ≡ drop k a
none_left zero [] e = refl
none_left zero (t ∷ a) e = absurd (omega (arith, e))
none_left (suc k) [] e = refl
none_left (suc k) (t ∷ a) e = none_left k a (omega (arith, e))

-- one more term is taken from the top
pub one_more : (whole before left : List TermTree) (args more : List Term) (t : Term) →
    whole ≡ map term_of args ++ before → before ≡ term_of t ∷ left → more ≡ args ++ t ∷ [] → whole ≡ map term_of more ++ left
one_more whole before left args more t is popped pushed =
    is
    ∙ ap (λ l. map term_of args ++ l) popped
    ∙ sym (append_assoc (map term_of args) (term_of t ∷ []) left)
    ∙ ap (λ l. l ++ left) (sym (ap (map term_of) pushed ∙ map-append term_of args (t ∷ [])))

-- as many as are wanted are taken
pub as_wanted : (k : ℕ) (whole left : List TermTree) (args : List Term) →
    whole ≡ map term_of args ++ left → length args ≡ k → map term_of args ≡ take k whole
as_wanted k whole left args is many =
    first_taken k (map term_of args) left (length-map args term_of ∙ many) ∙ ap (take k) (sym is)

pub left_as_wanted : (k : ℕ) (whole left : List TermTree) (args : List Term) →
    whole ≡ map term_of args ++ left → length args ≡ k → left ≡ drop k whole
left_as_wanted k whole left args is many =
    others_left k (map term_of args) left (length-map args term_of ∙ many) ∙ ap (drop k) (sym is)

-- all there are are taken
all_of_them : (whole left : List TermTree) (args : List Term) → whole ≡ map term_of args ++ left → left ≡ [] → whole ≡ map term_of args
all_of_them whole left args is none = is ∙ ap (λ l. map term_of args ++ l) none ∙ append-nil (map term_of args)

few : (k : ℕ) (args : List Term) → length args ≤ k → length (map term_of args) ≤ k
few k args h = let e = length-map args term_of in omega (arith, e, h)

pub as_there_are : (k : ℕ) (whole left : List TermTree) (args : List Term) →
    whole ≡ map term_of args ++ left → left ≡ [] → length args ≤ k → map term_of args ≡ take k whole
as_there_are k whole left args is none h =
    all_taken k (map term_of args) (few k args h) ∙ ap (take k) (sym (all_of_them whole left args is none))

pub none_as_there_are : (k : ℕ) (whole left after : List TermTree) (args : List Term) →
    whole ≡ map term_of args ++ left → left ≡ [] → length args ≤ k → after ≡ [] → after ≡ drop k whole
none_as_there_are k whole left after args is none h gone =
    gone ∙ none_left k (map term_of args) (few k args h) ∙ ap (drop k) (sym (all_of_them whole left args is none))

pub ruleset stack_rows = (one_more, as_wanted, left_as_wanted, as_there_are, none_as_there_are)
