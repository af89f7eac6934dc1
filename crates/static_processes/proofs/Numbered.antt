-- Processes that are put one after another, and those that stand in one `where` part.
use Rattle.std.proofs.Common.{ℕ, ◌≡◌, ◌∙◌, ◌<◌, ◌≤◌, ◌+◌, sym, ap, arith, List, [], ◌∷◌, ◌++◌, length, get_or, take, drop, map, append-nil, append_assoc}
use Rattle.std.specs.Prelude.{Option, if◌then◌else◌}
use Rattle.std.proofs.lemmas.List.{map-append, length-append, drop_all, take_all}
use Rattle.spec_core.proofs.Lists.{take_next}
use Rattle.lotos_ast.specs.declared.spec.WhereItem.{WhereItem}
use Rattle.sort_overloads.proofs.Loops.{dropped-next}
use Rattle.static_processes.specs.Processes as processes
use Rattle.static_processes.specs.Processes.{Entries, one_after_another, item_entries, stands_in, standing_from}
use Rattle.static_processes.specs.declared.entry.Entry.{Entry}
use Rattle.static_processes.specs.Views.{entry_of}

joined : (fs gs : List Entries) (n : ℕ) (around : List ℕ)
    → one_after_another (fs ++ gs) n around ≡ one_after_another fs n around ++ one_after_another gs (n + length (one_after_another fs n around)) around
joined [] gs n around = ap (λ k. one_after_another gs k around) (omega arith)
joined (f ∷ fs) gs n around =
    let here = f n around in
    let rest = one_after_another fs (n + length here) around in
    let sums : (n + length here) + length rest ≡ n + length (here ++ rest) = omega (arith, length-append here rest) in
    ap (λ z. here ++ z) (joined fs gs (n + length here) around)
    ∙ sym (append_assoc here rest (one_after_another gs ((n + length here) + length rest) around))
    ∙ ap (λ k. (here ++ rest) ++ one_after_another gs k around) sums

pub items_next : (base now next : List processes.Entry) (ts : List WhereItem) (i : ℕ) (t : WhereItem) (around : List ℕ) → i < length ts → t ≡ get_or ts i t
    → now ≡ base ++ one_after_another (map item_entries (take i ts)) (length base) around
    → next ≡ now ++ item_entries t (length now) around
    → next ≡ base ++ one_after_another (map item_entries (take (i + 1) ts)) (length base) around
items_next base now next ts i t around within at before more =
    let front = map item_entries (take i ts) in
    let put = one_after_another front (length base) around in
    more ∙ ap (λ z. z ++ item_entries t (length z) around) before
    ∙ ap (λ k. (base ++ put) ++ item_entries t k around) (length-append base put)
    ∙ append_assoc base put (item_entries t (length base + length put) around)
    ∙ ap (λ z. base ++ (put ++ z)) (sym (append-nil (item_entries t (length base + length put) around)))
    ∙ ap (λ z. base ++ z) (sym (joined front (item_entries t ∷ []) (length base) around))
    ∙ ap (λ fs. base ++ one_after_another fs (length base) around) (sym (map-append item_entries (take i ts) (t ∷ [])))
    ∙ ap (λ us. base ++ one_after_another (map item_entries us) (length base) around) (sym (take_next ts i t within at))

pub items_all : (base now : List processes.Entry) (ts : List WhereItem) (i : ℕ) (around : List ℕ) → length ts ≤ i
    → now ≡ base ++ one_after_another (map item_entries (take i ts)) (length base) around
    → now ≡ base ++ one_after_another (map item_entries ts) (length base) around
items_all base now ts i around past h = h ∙ ap (λ us. base ++ one_after_another (map item_entries us) (length base) around) (take_all i ts past)

-- what a loop puts of those that stand in a part, for one more process

pub standing_next : {A : Type 0} (f : List ℕ → List A) → ((ns ms : List ℕ) → f (ns ++ ms) ≡ f ns ++ f ms)
    → (within : Option ℕ) (table : List Entry) (i : ℕ) (e : Entry) (all more whole : List A) → i < length table → e ≡ get_or table i e
    → all ++ f (standing_from within i (map entry_of (drop i table))) ≡ whole
    → more ≡ all ++ f (if stands_in within (entry_of e) then i ∷ [] else [])
    → more ++ f (standing_from within (i + 1) (map entry_of (drop (i + 1) table))) ≡ whole
standing_next f both within table i e all more whole w at before put =
    let here = if stands_in within (entry_of e) then i ∷ [] else [] in
    let rest = standing_from within (i + 1) (map entry_of (drop (i + 1) table)) in
    ap (λ z. z ++ f rest) put ∙ append_assoc all (f here) (f rest) ∙ ap (λ z. all ++ z) (sym (both here rest))
    ∙ ap (λ es. all ++ f (standing_from within i (map entry_of es))) (sym (dropped-next table i e w at)) ∙ before

pub standing_all : {A : Type 0} (f : List ℕ → List A) → f [] ≡ [] → (within : Option ℕ) (table : List Entry) (i : ℕ) (all whole : List A) → length table ≤ i
    → all ++ f (standing_from within i (map entry_of (drop i table))) ≡ whole → all ≡ whole
standing_all f none within table i all whole past h =
    sym (append-nil all) ∙ ap (λ z. all ++ z) (sym none) ∙ ap (λ es. all ++ f (standing_from within i (map entry_of es))) (sym (drop_all i table past)) ∙ h
