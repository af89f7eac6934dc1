-- Lists whose elements are exchanged one by one for others that stand for the same.
use Rattle.std.proofs.Common.{ℕ, ◌≡◌, ◌<◌, ◌≤◌, ◌+◌, List, [], ◌∷◌, ◌++◌, length, map, take, get_or, reverse, sym, ap}
use Rattle.std.proofs.Common.{subst, ◌∙◌}
use Rattle.std.proofs.lemmas.List.{map-append, reverse-reverse, take_all}
use Rattle.spec_core.specs.Lists.{Each}
use Rattle.spec_core.specs.Theories.{Theory}
use Rattle.spec_core.proofs.Lists.{map_reverse, take_next}
use Rattle.value_nodes.specs.declared.node.Node.{Node}
use Rattle.value_nodes.specs.Nodes.{tree_at, cost_at, AreSmall, IsNode}
use Rattle.value_nodes.specs.Own.{IsOwnValue, AreOwnValues}
use Rattle.value_nodes.specs.Sizes.{IsTooLarge}
use Rattle.rewriter.specs.declared.step.Step.{Step}
use Rattle.rewriter.specs.declared.step.Step.TheVariants.{Put, Call, Decide}
use Rattle.rewriter.specs.Steps.{IsStep, IsHeld}
use Rattle.rewriter.proofs.Tops.{each_reversed}

-- one more element, where the earlier ones still stand for the same
pub followed_next : {A B C : Type 0} (f : A → C) (g h : B → C) (items : List A) (done now : List B) (i : ℕ) (x : A) (y : B) →
    i < length items → x ≡ get_or items i x → map g done ≡ map f (take i items) → map h done ≡ map g done → h y ≡ f x →
    now ≡ done ++ y ∷ [] → map h now ≡ map f (take (i + 1) items)
followed_next f g h items done now i x y within at before still here e =
    ap (map h) e
    ∙ map-append h done (y ∷ [])
    ∙ ap (λ zs. zs ++ h y ∷ []) (still ∙ before)
    ∙ ap (λ z. map f (take i items) ++ z ∷ []) here
    ∙ sym (map-append f (take i items) (x ∷ []))
    ∙ ap (map f) (sym (take_next items i x within at))

-- all elements, in the order of a stack
pub followed : {A B C : Type 0} (f : A → C) (g : B → C) (items : List A) (done : List B) (i : ℕ) →
    length items ≤ i → map g done ≡ map f (take i items) → map g (reverse done) ≡ map f (reverse items)
followed f g items done i end h =
    map_reverse g done ∙ ap reverse (h ∙ ap (map f) (take_all i items end)) ∙ sym (map_reverse f items)

pub each_back : {A : Type 0} (P : A → Type 0) (xs : List A) → Each P (reverse xs) → Each P xs
each_back P xs e = subst (Each P) (reverse-reverse xs) (each_reversed P (reverse xs) e)

pub all_held : (theory : Theory) (rows : List Node) (todo : List Step) → Each (IsStep theory rows) todo → Each (IsHeld rows) todo
all_held theory rows [] e = tt
all_held theory rows (Put i ∷ todo) e = (e.0, all_held theory rows todo e.1)
all_held theory rows (Call op k ∷ todo) e = (tt, all_held theory rows todo e.1)
all_held theory rows (Decide i k start ∷ todo) e = (tt, all_held theory rows todo e.1)

-- where no node stands for what is too large, no copy does
pub copied_small : (old new : List Node) → ((n : ℕ) → IsNode new n →
    (i : ℕ) × IsNode old i × (tree_at new n ≡ tree_at old i) × (cost_at new n ≡ cost_at old i)) → AreSmall old → AreSmall new
copied_small old new others small n h big =
    let k = others n h in
    small k.0 k.1 (subst IsTooLarge k.2 big)

-- where nodes stand for their own values, so do their copies
pub copied_own : (theory : Theory) (old new : List Node) → ((n : ℕ) → IsNode new n →
    (i : ℕ) × IsNode old i × (tree_at new n ≡ tree_at old i) × (cost_at new n ≡ cost_at old i)) →
    AreOwnValues theory old → AreOwnValues theory new
copied_own theory old new others own n h =
    let k = others n h in
    subst (λ t. IsOwnValue theory t (cost_at new n)) (sym k.2) (subst (IsOwnValue theory (tree_at old k.0)) (sym k.3) (own k.0 k.1))
