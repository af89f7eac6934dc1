-- Every text has tokens or a refusal.
use Rattle.std.proofs.Common.{ℕ, zero, suc, ◌<◌, ◌≤◌, ◌≡◌, ◌⊎◌, inl, inr, List, [], ◌∷◌, Bool, false, length, take, drop, length-drop, refl, arith}
use Rattle.std.proofs.lemmas.Bool.{cases_lt}
use Rattle.lotos_ast.specs.declared.place.Place.{Place}
use Rattle.lotos_ast.specs.declared.refusal.Refusal.{Refusal}
use Rattle.lotos_ast.specs.declared.token.Token.{Token}
use Rattle.lotos_ast.specs.Places.{start_place, place_after}
use Rattle.lotos_ast.specs.Pieces.{Piece, nothing, gap, spelling, stray, unclosed, first_piece}
use Rattle.lotos_ast.specs.TokenLaws.{TokensOrRefusal}
use Rattle.lotos_ast.specs.Tokenizes.{IsSpelled, ends, parted, spelled, IsStopped, at_byte, at_comment, behind_gap, behind_token, bad_byte, open_comment, token_at, open_after, by_length, by_bytes, too_long, text_limit}
use Rattle.lotos_ast.proofs.Advances.{Advances, advances}

-- tokens or a refusal, from a place on
abbrev IsDecided : Bool → Place → List ℕ → Type 0
IsDecided opened p s = ((ts : List Token) × IsSpelled opened p s ts) ⊎ ((r : Refusal) × IsStopped opened p s r)

-- a text is decided whose rest behind its first piece is
by_piece : (opened : Bool) (p : Place) (s : List ℕ) → ((o : Bool) (q : Place) (n : ℕ) → 0 < n → IsDecided o q (drop n s)) → (x : Piece) → first_piece opened s ≡ x → Advances x → IsDecided opened p s
by_piece opened p s rest nothing e a = absurd a
by_piece opened p s rest (gap n) e a =
    elim (rest opened (place_after p (take n s)) n a) [ inl h ↦ inl (h.0, parted n e h.1) | inr h ↦ inr (h.0, behind_gap n e h.1) ]
by_piece opened p s rest (spelling kind n) e a =
    elim (rest (open_after opened (take n s)) (place_after p (take n s)) n a) [
      | inl h ↦ inl (token_at kind p (take n s) ∷ h.0, spelled kind n e h.1)
      | inr h ↦ inr (h.0, behind_token kind n e h.1)
    ]
by_piece opened p s rest (stray b) e a = inr (bad_byte b p, at_byte b e)
by_piece opened p s rest unclosed e a = inr (open_comment p, at_comment e)

decided : (bound : ℕ) (opened : Bool) (p : Place) (s : List ℕ) → length s ≤ bound → IsDecided opened p s
decided bound opened p [] h = inl ([], ends)
decided zero opened p (b ∷ s) h = absurd (omega (arith, h))
decided (suc bound) opened p (b ∷ s) h =
    by_piece opened p (b ∷ s) (λ o q n k. decided bound o q (drop n (b ∷ s)) (omega (arith, length-drop n (b ∷ s), h, k))) (first_piece opened (b ∷ s)) refl (advances opened b s)

pub tokens_or_refusal : TokensOrRefusal
tokens_or_refusal text =
    elim (cases_lt text_limit (length text)) [
      | inl l ↦ inr (too_long, by_length l)
      | inr l ↦ elim (decided (length text) false start_place text (omega arith)) [ inl h ↦ inl (h.0, l, h.1) | inr h ↦ inr (h.0, by_bytes l h.1) ]
    ]
