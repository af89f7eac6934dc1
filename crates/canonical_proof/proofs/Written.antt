-- A term that evaluates has lines.
use Rattle.std.proofs.Common.{ℕ, suc, List, [], ◌∷◌, ◌++◌, refl, inl}
use Rattle.spec_core.specs.Equality.{Equal, by_symmetry, by_transitivity}
use Rattle.spec_core.specs.Evaluation.{Evaluates, EvaluatesAll, Tries, Asks, called, none, more, final, unlike, like, used, holds, fails}
use Rattle.spec_core.specs.Terms.{TermTree, TermTrees}
use Rattle.spec_core.specs.Theories.{Premise, ConditionalEquation, Theory}
use Rattle.spec_core.specs.Values.{HasValue}
use Rattle.data_laws.proofs.Settled.{evaluation_gives_values}
use Rattle.data_laws.proofs.Values.{class_of}
use Rattle.canonical_proof.specs.Asking.{Asked, one_fails, all_hold}
use Rattle.canonical_proof.specs.Canonical.{Writes, WritesAll, WritesCall, of_call, none_written, one_written}
use Rattle.canonical_proof.specs.Canonical.{stays, passed, none_left, use_of, IsCanonical}
use Rattle.canonical_proof.specs.Laws.{EqualTermsHaveCanonicalCertificates}
use Rattle.canonical_proof.specs.Lines.{Line, turn, chain, inside}
use Rattle.canonical_proof.proofs.Asking.{one_more, by_asking}
use Rattle.canonical_proof.proofs.Evaluated.{evaluated}

module _ (theory : Theory) where
  mutual
    pub written : {t v : TermTree} {n : ℕ} → Evaluates theory t v n → (before : List Line) →
        (after : List Line) × Writes theory t v before after
    written (called {f} vs n m x y e) before =
        let a = all_written x before in
        let b = call_written y 0 (a.0 ++ inside f ∷ []) in
        (b.0, of_call vs a.0 a.1 b.1)

    all_written : {ts vs : TermTrees} {n : ℕ} → EvaluatesAll theory ts vs n → (before : List Line) →
        (after : List Line) × WritesAll theory ts vs before after
    all_written (none e) before = (before, none_written refl)
    all_written (more n m x y e) before =
        let a = written x before in
        let b = all_written y a.0 in
        (b.0, one_written a.0 a.1 b.1)

    call_written : {es : List ConditionalEquation} {f : ℕ} {vs : TermTrees} {v : TermTree} {n : ℕ} → Tries theory es f vs v n →
        (number : ℕ) (before : List Line) → (after : List Line) × WritesCall theory number es f vs v before after
    call_written (final e k) number before = (before, stays e refl)
    call_written (unlike h x) number before = let r = call_written x (suc number) before in (r.0, passed (inl h) r.1)
    call_written (like {e = e} s g x) number before =
        let r = asks_written x number (use_of e number s) before before in
        (r.0, by_asking theory before r.0 g r.1)

    asks_written : {ps : List Premise} {r : TermTree} {s : ℕ → TermTree} {es : List ConditionalEquation} {f : ℕ} {vs : TermTrees}
        {v : TermTree} {n : ℕ} → Asks theory ps r s es f vs v n → (number : ℕ) (line : Line) (before now : List Line) →
        (after : List Line) × Asked theory s ps r number es f vs v line before now after
    asks_written (used n x e) number line before now =
        let a = written x (now ++ line ∷ [] ++ chain ∷ []) in
        (a.0 ++ chain ∷ [], all_hold now a.0 (none_left refl) a.1 refl)
    asks_written (holds {a} {b} w n m l x y z e) number line before now =
        let p = written x now in
        let q = written y p.0 in
        let rest = asks_written z number line before (q.0 ++ turn ∷ [] ++ chain ∷ []) in
        (rest.0, one_more theory a b w n m now p.0 q.0 x y p.1 q.1 rest.1)
    asks_written (fails w u n m l x y differ z e) number line before now =
        let r = call_written z (suc number) before in
        (r.0, one_fails (w, u, n, m, x, y, inl differ) r.1)

pub have_certificates : EqualTermsHaveCanonicalCertificates
have_certificates theory ex t u f g = (there, back)
  where
    there : Equal theory t u → (lines : List Line) × IsCanonical theory t u lines
    there e =
        let c = class_of theory ex t u e in
        let a = written theory c.left [] in
        let b = written theory c.right a.0 in (
          b.0 ++ turn ∷ [] ++ chain ∷ [],
          record { value = c.value; middle = a.0; last = b.0; of_left = a.1; of_right = b.1; whole = refl },
        )

    back : ((lines : List Line) × IsCanonical theory t u lines) → Equal theory t u
    back c =
        let h = c.1 in
        let a = evaluated theory h.of_left in
        let b = evaluated theory h.of_right in
        let l : HasValue theory t h.value = evaluation_gives_values theory ex t h.value a.0 f a.1 in
        let r : HasValue theory u h.value = evaluation_gives_values theory ex u h.value b.0 g b.1 in
        by_transitivity h.value l.equal (by_symmetry r.equal)
