-- What the parts of a text come to, and what is refused of them, in the order of the text. No part stops another.
use Rattle.std.specs.Prelude.{◌≡◌, List, [], ◌∷◌, ◌++◌, Option, option_to_list}
use Rattle.lotos_ast.specs.declared.refusal.Refusal.{Refusal}

-- each element in turn comes to some of these, with some of the refusals
pub data Gathers {A B : Type 0} (P : A → List B → List Refusal → Type 0) : List A → List B → List Refusal → Type 0 where
  none : Gathers P [] [] []
  further : (x : A) (xs : List A) (ys all : List B) (rs refusals : List Refusal) → P x ys rs → Gathers P xs all refusals →
      Gathers P (x ∷ xs) (ys ++ all) (rs ++ refusals)

-- what comes to at most one
abbrev pub IfRead : {B : Type 0} → (Option B → List Refusal → Type 0) → List B → List Refusal → Type 0
IfRead {B = B} P ys refusals = (found : Option B) × (ys ≡ option_to_list found) × P found refusals

-- things and refusals of which P holds stand behind those before
pub record AddsBoth {B : Type 0} (P : List B → List Refusal → Type 0) (ys ys_now : List B) (before now : List Refusal) : Type 0 where
  pub found : List B
  pub refusals : List Refusal
  pub such : P found refusals
  pub found_behind : ys_now ≡ ys ++ found
  pub refused_behind : now ≡ before ++ refusals

-- what stands under declarations: where these are refused, it isn't judged
pub data UnlessRefused {B : Type 0} (declarations : List Refusal) (P : List B → List Refusal → Type 0) :
    List B → List Refusal → Type 0 where
  refused_before : (r : Refusal) (rs : List Refusal) → declarations ≡ r ∷ rs → UnlessRefused declarations P [] (r ∷ rs)
  judged : (found : List B) (refusals : List Refusal) → declarations ≡ [] → P found refusals → UnlessRefused declarations P found refusals
