-- What stands behind a word.
use Rattle.std.proofs.Common.{ℕ, ◌≡◌, ◌≢◌, ◌==◌, Bool, true, false, List, [], ◌∷◌, ◌++◌, Option, Some, None, if◌then◌else◌, MatchOption}
use Rattle.std.proofs.Common.{refl, ap, ◌∙◌, eq-eqb}
use Rattle.std.specs.Borrow.{Bor}
use Rattle.std.proofs.lemmas.Bool.{eqb-true}
use Rattle.trace_reader.specs.Cursors.{behind}

behind_joined : (word rest : List ℕ) → behind word (word ++ rest) ≡ Some rest
behind_joined [] rest = refl
behind_joined (w ∷ word) rest =
    ap (λ b. if b then behind word (word ++ rest) else None) (eq-eqb w w refl) ∙ behind_joined word rest

pub behind_so : (word text rest : List ℕ) → text ≡ word ++ rest → behind word text ≡ Some rest
behind_so word text rest e = ap (behind word) e ∙ behind_joined word rest

pub joined_so : (word text rest : List ℕ) → behind word text ≡ Some rest → text ≡ word ++ rest
joined_so [] text rest h = let same : text ≡ rest = cc in same
joined_so (w ∷ word) [] rest h = absurd (cc)
joined_so (w ∷ word) (b ∷ text) rest h = go (b == w) refl h (joined_so word text rest)
  where
    go : (c : Bool) → (b == w) ≡ c → (if c then behind word text else None) ≡ Some rest → (behind word text ≡ Some rest → text ≡ word ++ rest) →
        b ∷ text ≡ w ∷ (word ++ rest)
    go true e k more = ap (λ z. z ∷ text) (eqb-true b w e) ∙ ap (λ z. w ∷ z) (more k)
    go false e k more = absurd (cc)

none_behind : (word text : List ℕ) (o : Option (List ℕ)) → behind word text ≡ o → ((rest : List ℕ) → text ≢ word ++ rest) → o ≡ None
none_behind word text None e h = refl
none_behind word text (Some rest) e h = absurd (h rest (joined_so word text rest e))

pub stripped : (word text : List ℕ) (o : Option (Bor (List ℕ))) →
    MatchOption o ((rest : List ℕ) → text ≢ word ++ rest) (λ x. text ≡ word ++ x.now) →
    MatchOption o (behind word text ≡ None) (λ x. behind word text ≡ Some x.now)
stripped word text None h = none_behind word text (behind word text) refl h
stripped word text (Some x) h = behind_so word text x.now h
