-- What holds of what is there.
use Rattle.std.proofs.Common.{◌≡◌, List, refl}
use Rattle.std.specs.Prelude.{Option, Some, None, option_map, IfSome, Bool, true, false, if◌then◌else◌}
use Rattle.lotos_ast.specs.declared.refusal.Refusal.{Refusal}
use Rattle.spec_core.specs.Lists.{Each}
use Rattle.static_readings.specs.ReadsAll.{ReadsAll, none, further, before}

pub if-map : {A B : Type 0} (P : B → Type 0) (f : A → B) (o : Option A) → IfSome o (λ x. P (f x)) → IfSome (option_map f o) P
if-map P f None h = tt
if-map P f (Some x) h = h

-- of what is there where a test passes
pub if-passed : {A : Type 0} (P : A → Type 0) (b : Bool) (x : A) → (b ≡ true → P x) → IfSome (if b then Some x else None) P
if-passed P true x h = h refl
if-passed P false x h = tt

pub if-some : {A : Type 0} (b : Bool) (x y : A) → (if b then Some x else None) ≡ Some y → (b ≡ true) × (x ≡ y)
if-some true x y e = (refl, cc)
if-some false x y e = absurd (cc)

pub if-all : {A : Type 0} {P : A → Type 0} → ((x : A) → P x) → (o : Option A) → IfSome o P
if-all h None = tt
if-all h (Some x) = h x

pub each-before : {A : Type 0} (P : A → Type 0) (y : Option A) (ys : Option (List A)) →
    IfSome y P → IfSome ys (Each P) → IfSome (before y ys) (Each P)
each-before P None ys h hs = tt
each-before P (Some y) None h hs = tt
each-before P (Some y) (Some ys) h hs = (h, hs)

-- what holds of all that one element may be read as holds of all that a list is read as
pub each-read : {A B : Type 0} {P : A → Option B → List Refusal → Type 0} (Q : B → Type 0) →
    ((x : A) (y : Option B) (rs : List Refusal) → P x y rs → IfSome y Q) →
    (xs : List A) (found : Option (List B)) (rs : List Refusal) → ReadsAll P xs found rs → IfSome found (Each Q)
each-read Q h xs found rs none = tt
each-read Q h xs found rs (further x others y ys r refusals p d) =
    each-before Q y ys (h x y r p) (each-read Q h others ys refusals d)
