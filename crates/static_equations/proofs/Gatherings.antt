-- Lists whose elements come to things and to refusals.
use Rattle.std.proofs.Common.{ℕ, ◌≡◌, ◌<◌, ◌≤◌, ◌+◌, List, [], ◌∷◌, ◌++◌, Option, Some, None, length, map, take, get_or, refl, ap, sym, subst, ◌∙◌, arith, append_assoc}
use Rattle.std.proofs.lemmas.List.{append-nil, map-append, take_all}
use Rattle.spec_core.proofs.Lists.{take_next}
use Rattle.lotos_ast.specs.declared.refusal.Refusal.{Refusal}
use Rattle.sort_overloads.specs.Judged as judged
use Rattle.static_equations.specs.Gathered.{Gathers, none, further, AddsBoth, IfRead, UnlessRefused, refused_before}
use Rattle.static_equations.specs.Gathered as gathered

-- the same of equal lists
pub gathers-same : {A B : Type 0} (P : A → List B → List Refusal → Type 0) (xs : List A) (ys ys_too : List B) (rs rs_too : List Refusal) → ys ≡ ys_too → rs ≡ rs_too → Gathers P xs ys rs → Gathers P xs ys_too rs_too
gathers-same P xs ys ys_too rs rs_too e f h = subst (λ z. Gathers P xs z rs_too) e (subst (λ z. Gathers P xs ys z) f h)

-- one more element
pub gathers-more : {A B : Type 0} (P : A → List B → List Refusal → Type 0) (xs : List A) (ys : List B) (rs : List Refusal) (x : A) (zs : List B) (ss : List Refusal) → Gathers P xs ys rs → P x zs ss → Gathers P (xs ++ x ∷ []) (ys ++ zs) (rs ++ ss)
gathers-more P xs ys rs x zs ss none h = gathers-same P (x ∷ []) (zs ++ []) zs (ss ++ []) ss (append-nil zs) (append-nil ss) (further x [] zs [] ss [] h none)
gathers-more P xs ys rs x zs ss (further w ws us all qs refusals p g) h =
    gathers-same P (w ∷ (ws ++ x ∷ [])) (us ++ (all ++ zs)) ((us ++ all) ++ zs) (qs ++ (refusals ++ ss)) ((qs ++ refusals) ++ ss)
    (sym (append_assoc us all zs)) (sym (append_assoc qs refusals ss))
    (further w (ws ++ x ∷ []) us (all ++ zs) qs (refusals ++ ss) p (gathers-more P ws all refusals x zs ss g h))

-- the two joined
pub adds-more : {A B : Type 0} (P : A → List B → List Refusal → Type 0) (xs : List A) (x : A) (ys now later : List B) (before mid after : List Refusal) →
    AddsBoth (Gathers P xs) ys now before mid → AddsBoth (P x) now later mid after → AddsBoth (Gathers P (xs ++ x ∷ [])) ys later before after
adds-more P xs x ys now later before mid after h k = record {
  found = h.found ++ k.found;
  refusals = h.refusals ++ k.refusals;
  such = gathers-more P xs h.found h.refusals x k.found k.refusals h.such k.such;
  found_behind = k.found_behind ∙ ap (λ z. z ++ k.found) h.found_behind ∙ append_assoc ys h.found k.found;
  refused_behind = k.refused_behind ∙ ap (λ z. z ++ k.refusals) h.refused_behind ∙ append_assoc before h.refusals k.refusals;
}

-- nothing is added for no elements
pub adds-none : {A B : Type 0} (P : A → List B → List Refusal → Type 0) (ys : List B) (before : List Refusal) → AddsBoth (Gathers P []) ys ys before before
adds-none P ys before = record { found = []; refusals = []; such = none; found_behind = sym (append-nil ys); refused_behind = sym (append-nil before) }

-- one more element of a list that a loop goes over
pub adds-next : {A B : Type 0} (P : A → List B → List Refusal → Type 0) (xs : List A) (i : ℕ) (x : A) (ys now later : List B) (before mid after : List Refusal) → i < length xs → x ≡ get_or xs i x →
    AddsBoth (Gathers P (take i xs)) ys now before mid → AddsBoth (P x) now later mid after → AddsBoth (Gathers P (take (i + 1) xs)) ys later before after
adds-next P xs i x ys now later before mid after within at h k =
    subst (λ z. AddsBoth (Gathers P z) ys later before after) (sym (take_next xs i x within at)) (adds-more P (take i xs) x ys now later before mid after h k)

pub adds-all : {A B : Type 0} (P : A → List B → List Refusal → Type 0) (xs : List A) (i : ℕ) (ys now : List B) (before after : List Refusal) → length xs ≤ i → AddsBoth (Gathers P (take i xs)) ys now before after → AddsBoth (Gathers P xs) ys now before after
adds-all P xs i ys now before after past h = subst (λ z. AddsBoth (Gathers P z) ys now before after) (take_all i xs past) h

-- what is put behind nothing
pub from-nothing : {B : Type 0} (P : List B → List Refusal → Type 0) (now : List B) (before after : List Refusal) → AddsBoth P [] now before after → judged.Adds (P now) before after
from-nothing P now before after h = record { refusals = h.refusals; such = subst (λ z. P z h.refusals) (sym h.found_behind) h.such; behind = h.refused_behind }

-- what is read is put behind, or nothing
pub adds-read : {A B : Type 0} (view : A → B) (P : Option B → List Refusal → Type 0) (all more : List A) (x : A) (before after : List Refusal) → more ≡ all ++ x ∷ [] → judged.Adds (P (Some (view x))) before after → AddsBoth (IfRead P) (map view all) (map view more) before after
adds-read view P all more x before after e h = record {
  found = view x ∷ [];
  refusals = h.refusals;
  such = (Some (view x), refl, h.such);
  found_behind = ap (map view) e ∙ map-append view all (x ∷ []);
  refused_behind = h.behind;
}

pub adds-unread : {B : Type 0} (P : Option B → List Refusal → Type 0) (all : List B) (before after : List Refusal) → judged.Adds (P None) before after → AddsBoth (IfRead P) all all before after
adds-unread P all before after h = record { found = []; refusals = h.refusals; such = (None, refl, h.such); found_behind = sym (append-nil all); refused_behind = h.behind }

-- declarations are refused
pub refused-alone : {B : Type 0} (declarations : List Refusal) (P : List B → List Refusal → Type 0) (all : List B) (before after : List Refusal) → after ≡ before ++ declarations → length before < length after → AddsBoth (UnlessRefused declarations P) all all before after
refused-alone declarations P all before after e longer = by declarations refl
  where
    too_long : (xs ys : List Refusal) → length xs < length (xs ++ ys) → ys ≡ [] → ⊥
    too_long xs ys l f = omega (arith, ap (λ z. length (xs ++ z)) f, ap length (append-nil xs))

    by : (rs : List Refusal) → declarations ≡ rs → AddsBoth (UnlessRefused declarations P) all all before after
    by [] f = absurd (too_long before declarations (subst (λ z. length before < length z) e longer) f)
    by (r ∷ rs) f = record { found = []; refusals = r ∷ rs; such = refused_before r rs f; found_behind = sym (append-nil all); refused_behind = e ∙ ap (λ z. before ++ z) f }

-- nothing is refused of declarations
pub judged-under : {B : Type 0} (declarations : List Refusal) (P : List B → List Refusal → Type 0) (all more : List B) (before mid after : List Refusal) → mid ≡ before ++ declarations → length mid ≤ length before → AddsBoth P all more mid after → AddsBoth (UnlessRefused declarations P) all more before after
judged-under declarations P all more before mid after e short h =
    let nothing : declarations ≡ [] = none_added before declarations (subst (λ z. length z ≤ length before) e short) in
    record {
      found = h.found;
      refusals = h.refusals;
      such = gathered.judged h.found h.refusals nothing h.such;
      found_behind = h.found_behind;
      refused_behind = h.refused_behind ∙ ap (λ z. z ++ h.refusals) (e ∙ ap (λ z. before ++ z) nothing ∙ append-nil before);
    }
  where
    none_added : (xs ys : List Refusal) → length (xs ++ ys) ≤ length xs → ys ≡ []
    none_added [] [] l = refl
    none_added [] (y ∷ ys) l = absurd (omega arith)
    none_added (x ∷ xs) ys l = none_added xs ys (omega arith)
