-- Facts about what a call answered.
use Rattle.std.proofs.Common.{◌≡◌, Option, Some, None, IfSome, IfNone, false}
use Rattle.std.specs.Option.{is_some}

pub if_some_implied : {A : Type 0} {P Q : A → Type 0} (o : Option A) → ((x : A) → P x → Q x) → IfSome o P → IfSome o Q
if_some_implied None f h = tt
if_some_implied (Some x) f h = f x h

pub if_none_holds : {A : Type 0} {P : Type 0} (o : Option A) → is_some o ≡ false → IfNone o P → P
if_none_holds None e h = h
if_none_holds (Some x) e h = cc
