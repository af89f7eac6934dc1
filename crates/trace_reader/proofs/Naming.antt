-- The name that is found among others.
use Rattle.std.proofs.Common.{ℕ, zero, suc, ◌≡◌, ◌<◌, Bool, true, false, List, [], ◌∷◌, ◌++◌, Option, Some, None, refl, sym, ap, subst, ◌∙◌, length}
use Rattle.std.proofs.Common.{if◌then◌else◌, get_or, arith}
use Rattle.spec_core.specs.Lists.{Each, NoTwo}
use Rattle.spec_core.specs.Names.{IsIdentifier, IsSameName}
use Rattle.value_text.specs.Values.{name_at}
use Rattle.value_text.proofs.Names.{EndsTerm, among, one_named}
use Rattle.value_reader.specs.Ends.{ends_there}
use Rattle.value_reader.proofs.Values.{ends_term}
use Rattle.trace_reader.specs.Cursors.{behind, ending_there, past, Takes}
use Rattle.trace_reader.proofs.Behind.{behind_so, joined_so}

pub term_there : (r : List ℕ) → EndsTerm r → ends_there r ≡ true
term_there [] h = refl
term_there (b ∷ r) h = among b (10 ∷ 32 ∷ 41 ∷ 44 ∷ 93 ∷ []) h

-- a word that is taken, and where a name may end behind it
pub at_text : (word text : List ℕ) (o : Option (List ℕ)) (r : List ℕ) → behind word text ≡ o → ending_there o ≡ Some r →
    (text ≡ word ++ r) × EndsTerm r
at_text word text None r e h = absurd (cc)
at_text word text (Some q) r e h = go (ends_there q) refl h
  where
    go : (b : Bool) → ends_there q ≡ b → (if b then Some q else None) ≡ Some r → (text ≡ word ++ r) × EndsTerm r
    go true k s =
        let same : q ≡ r = cc in
        (joined_so word text q e ∙ ap (λ l. word ++ l) same, subst EndsTerm same (ends_term q k))
    go false k s = absurd (cc)

pub there_so : (word text r : List ℕ) → text ≡ word ++ r → EndsTerm r → ending_there (behind word text) ≡ Some r
there_so word text r e h =
    ap ending_there (behind_so word text r e) ∙ ap (λ b. if b then Some r else None) (term_there r h)

module _ (names : List (List ℕ)) (identifiers : Each IsIdentifier names) (differ : NoTwo IsSameName names) where
  pub named_here : (i : ℕ) (start new : Option (List ℕ)) (b : Bool) → i < length names →
      Takes (ending_there (past (name_at names i) start)) start b new → b ≡ true →
      (x : ℕ) (rest : List ℕ) → x < length names → EndsTerm rest → start ≡ Some (name_at names x ++ rest) → (i ≡ x) × (new ≡ Some rest)
  named_here i start new b within takes here x rest fits ends e =
      go (ending_there (behind (name_at names i) (name_at names x ++ rest))) refl
      (subst (λ s. Takes (ending_there (past (name_at names i) s)) s b new) e takes)
    where
      go : (o : Option (List ℕ)) → ending_there (behind (name_at names i) (name_at names x ++ rest)) ≡ o →
          Takes o (Some (name_at names x ++ rest)) b new → (i ≡ x) × (new ≡ Some rest)
      go None k h = absurd (let wrong : true ≡ false = sym here ∙ h.0 in cc)
      go (Some r) k h =
          let t = at_text (name_at names i) (name_at names x ++ rest) (behind (name_at names i) (name_at names x ++ rest)) r refl k in
          let one = one_named names i x r rest identifiers differ within fits t.1 ends (sym t.0) in
          (one.0, h.1 ∙ ap Some one.1)

  pub named_nowhere : (start : Option (List ℕ)) → ((j : ℕ) → j < length names → ending_there (past (name_at names j) start) ≡ None) →
      (x : ℕ) (rest : List ℕ) → x < length names → EndsTerm rest → start ≡ Some (name_at names x ++ rest) → ⊥
  named_nowhere start none x rest fits ends e =
      let k = there_so (name_at names x) (name_at names x ++ rest) rest refl ends in
      let l : ending_there (behind (name_at names x) (name_at names x ++ rest)) ≡ None = subst (λ s. ending_there (past (name_at names x) s) ≡ None) e (none x fits) in
      let wrong : None ≡ Some rest = sym l ∙ k in
      cc

pub taken_not : (o old new : Option (List ℕ)) (b : Bool) → Takes o old b new → b ≡ false → (o ≡ None) × (new ≡ old)
taken_not None old new b h e = (refl, h.1)
taken_not (Some r) old new b h e = absurd (let wrong : true ≡ false = sym h.0 ∙ e in cc)

pub name_there : (names : List (List ℕ)) (i : ℕ) (name : List ℕ) → i < length names → name ≡ get_or names i name → name_at names i ≡ name
name_there [] i name within h = absurd (omega arith)
name_there (x ∷ names) zero name within h = sym h
name_there (x ∷ names) (suc i) name within h = name_there names i name (omega arith) h
