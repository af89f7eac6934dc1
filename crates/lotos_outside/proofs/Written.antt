-- What a sink has taken after one more piece.
use Rattle.std.proofs.Common.{◌≡◌, ℕ, ◌+◌, List, ◌++◌, Option, Some, None, take, drop, refl, ap, sym, ◌∙◌}
use Rattle.std.proofs.Common.{append_assoc}
use Rattle.std.proofs.Math.Seq.{take-add}
use Rattle.lotos_outside.specs.Sink.{with_more}

-- two pieces, one after the other, are one piece
pub with_more-next : (text : List ℕ) (done count : ℕ) (written : Option (List ℕ)) →
    with_more (take count (drop done text)) (with_more (take done text) written) ≡ with_more (take (done + count) text) written
with_more-next text done count None = refl
with_more-next text done count (Some held) =
    ap Some
    (append_assoc held (take done text) (take count (drop done text))
    ∙ ap (λ (l : List ℕ). held ++ l) (sym (take-add done count text)))
