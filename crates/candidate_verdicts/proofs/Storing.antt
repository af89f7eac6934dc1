-- What pieces say, with one more and with fewer.
use Rattle.std.proofs.Common.{ℕ, ◌≡◌, ◌==◌, ◌&&◌, ◌||◌, nat_eq, List, [], ◌∷◌, ◌++◌, refl, sym, ap, subst, ◌∙◌}
use Rattle.std.proofs.Common.{Option, Some, None, Bool, true, false, if◌then◌else◌, option_map}
use Rattle.std.proofs.lemmas.Bool.Decides.{Decides-eqb}
use Rattle.std.proofs.lemmas.Bool.{and_from, and_parts, eq-eqb, false≢true}
use Rattle.std.proofs.lemmas.List.{append-nil}
use Rattle.rule_model.specs.Derivations.{Derivation, derivation_of}
use Rattle.symbolic_actions.specs.Shows.{Show}
use Rattle.symbolic_actions.specs.Models.{show_of}
use Rattle.node_trees.specs.declared.origin.Gen.{Gen}
use Rattle.candidate_verdicts.specs.declared.pieces.Piece.{Piece}
use Rattle.candidate_verdicts.specs.Known.{KnownShow}
use Rattle.candidate_verdicts.specs.declared.pieces.Pieces as declared
use Rattle.candidate_verdicts.specs.Keys.{key_of}
use Rattle.candidate_verdicts.specs.Same.{same_rules}
use Rattle.candidate_verdicts.specs.Stored.{is_about, pieces_of, group_at, stored, unless_none, with_piece, is_gone, without}
use Rattle.candidate_verdicts.proofs.Sameness.{rules_are}

-- a piece that is about a generation and a tree has them
pub about_is : (g : ℕ) (d : Derivation) (p : Piece) → is_about g d p ≡ true → (p.generation.0 ≡ g) × (derivation_of p.rules ≡ d)
about_is g d p e =
    let r = and_parts (p.generation.0 == g) (same_rules (derivation_of p.rules) d) e in
    ((Decides-eqb p.generation.0 g).0 r.0, rules_are (derivation_of p.rules) d r.1)

-- one more piece at the end
pushed : (ps : List Piece) (p : Piece) (g : ℕ) (d : Derivation) → pieces_of (ps ++ p ∷ []) g d ≡ with_piece (pieces_of ps) p g d
pushed [] p g d = refl
pushed (q ∷ ps) p g d = by_test (is_about g d q) (pushed ps p g d)
  where
    by_test : (b : Bool) → pieces_of (ps ++ p ∷ []) g d ≡ with_piece (pieces_of ps) p g d →
        (if b then Some (option_map show_of q.shown) else pieces_of (ps ++ p ∷ []) g d) ≡
        unless_none (if b then Some (option_map show_of q.shown) else pieces_of ps g d) (pieces_of (p ∷ []) g d)
    by_test true h = refl
    by_test false h = h

unless_nothing : (o : KnownShow) → o ≡ unless_none o None
unless_nothing None = refl
unless_nothing (Some s) = refl

-- whether a piece belongs into the group of a generation and a tree
abbrev is_in : ℕ → Derivation → Piece → Bool
is_in g d p = nat_eq g p.generation.0 && nat_eq (key_of d) (key_of (derivation_of p.rules))

-- a piece that is about a generation and a tree belongs into their group
about_in : (g : ℕ) (d : Derivation) (p : Piece) → is_about g d p ≡ true → is_in g d p ≡ true
about_in g d p e =
    let r = about_is g d p e in
    and_from (nat_eq g p.generation.0) (nat_eq (key_of d) (key_of (derivation_of p.rules)))
    (eq-eqb g p.generation.0 (sym r.0)) (eq-eqb (key_of d) (key_of (derivation_of p.rules)) (ap key_of (sym r.1)))

-- a piece at the end of its group, and of no other
pub piece_put : (old new : declared.Pieces) (p : Piece) →
    ((g k : ℕ) → group_at new g k ≡
    group_at old g k ++ (if nat_eq g p.generation.0 && nat_eq k (key_of (derivation_of p.rules)) then p ∷ [] else [])) →
    (g : ℕ) (d : Derivation) → stored new g d ≡ with_piece (stored old) p g d
piece_put old new p h g d = ap (λ ps. pieces_of ps g d) (h g (key_of d)) ∙ by_test (is_in g d p) refl
  where
    elsewhere : is_in g d p ≡ false → (b : Bool) → is_about g d p ≡ b →
        stored old g d ≡ unless_none (stored old g d) (if b then Some (option_map show_of p.shown) else None)
    elsewhere e true q = absurd (false≢true (sym e ∙ about_in g d p q))
    elsewhere e false q = unless_nothing (stored old g d)

    by_test : (b : Bool) → is_in g d p ≡ b →
        pieces_of (group_at old g (key_of d) ++ (if b then p ∷ [] else [])) g d ≡ with_piece (stored old) p g d
    by_test true e = pushed (group_at old g (key_of d)) p g d
    by_test false e =
        ap (λ ps. pieces_of ps g d) (append-nil (group_at old g (key_of d))) ∙ elsewhere e (is_about g d p) refl

-- a piece about what is known changes nothing
pub piece_known : (pieces : declared.Pieces) (p : Piece) (s : Option Show) →
    stored pieces p.generation.0 (derivation_of p.rules) ≡ Some s →
    (g : ℕ) (d : Derivation) → stored pieces g d ≡ with_piece (stored pieces) p g d
piece_known pieces p s known g d = by_test (is_about g d p) refl
  where
    here : (p.generation.0 ≡ g) × (derivation_of p.rules ≡ d) → stored pieces g d ≡ Some s
    here r = subst (λ z. stored pieces g z ≡ Some s) r.1 (subst (λ z. stored pieces z (derivation_of p.rules) ≡ Some s) r.0 known)

    by_test : (b : Bool) → is_about g d p ≡ b →
        stored pieces g d ≡ unless_none (stored pieces g d) (if b then Some (option_map show_of p.shown) else None)
    by_test true e =
        let r = here (about_is g d p e) in
        r ∙ ap (λ z. unless_none z (Some (option_map show_of p.shown))) (sym r)
    by_test false e = unless_nothing (stored pieces g d)

-- the groups of one generation less, and then of others
pub one_less : (b c : Bool) (old mid ps : List Piece) → mid ≡ (if b then [] else old) → (if c then [] else mid) ≡ ps →
    (if b || c then [] else old) ≡ ps
one_less true true old mid ps e h = h
one_less true false old mid ps e h = sym e ∙ h
one_less false true old mid ps e h = h
one_less false false old mid ps e h = sym e ∙ h

-- the groups of other generations alone
pub pieces_kept : (gone : List Gen) (old new : declared.Pieces) →
    ((g k : ℕ) → group_at new g k ≡ (if is_gone gone g then [] else group_at old g k)) →
    (g : ℕ) (d : Derivation) → stored new g d ≡ without gone (stored old) g d
pieces_kept gone old new h g d = ap (λ ps. pieces_of ps g d) (h g (key_of d)) ∙ by_test (is_gone gone g)
  where
    by_test : (b : Bool) → pieces_of (if b then [] else group_at old g (key_of d)) g d ≡ (if b then None else stored old g d)
    by_test true = refl
    by_test false = refl
