-- What holds of an option's value.
use Rattle.std.proofs.Common.{Option, None, Some, IfSome}

pub both_some : {A : Type 0} (found : Option A) (P Q R : A → Type 0) →
    ((x : A) → P x → Q x → R x) → IfSome found P → IfSome found Q → IfSome found R
both_some None P Q R h p q = tt
both_some (Some x) P Q R h p q = h x p q
