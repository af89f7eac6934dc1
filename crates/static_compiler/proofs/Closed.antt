-- What stands around a part is put behind its nodes.
use Rattle.std.proofs.Common.{ℕ, zero, suc, pred, ◌≡◌, ◌∙◌, ◌≤◌, ◌+◌, ◌-◌, ◌==◌, refl, sym, ap, subst, arith, List, [], ◌∷◌, ◌++◌, length, take, map, append_assoc, append-nil, Option, Some, None, true, false, if◌then◌else◌}
use Rattle.std.specs.Prelude.{option_map}
use Rattle.std.proofs.lemmas.Bool.Decides.{nat_tests}
use Rattle.std.proofs.lemmas.List.{map-append, length-append}
use Rattle.std.proofs.Math.Seq.{take-append_seam}
use Rattle.std.proofs.lemmas.Option.{none-some}
use Rattle.spec_core.specs.Code.{Node, Synchronised, stop, parallel}
use Rattle.spec_core.specs.Functionality.{Functionality, noexit}
use Rattle.static_readings.specs.Joins.{Read, root, around}
use Rattle.static_readings.specs.Outputs.{nodes_of}
use Rattle.static_readings.specs.Readings.{relabelled, copy_nodes}
use Rattle.static_compiler.specs.Frames.{under_all, hindered, layers, copies_from, framed, next_copy}
use Rattle.static_compiler.specs.Parts.{ends_of, Stands}
use Rattle.static_compiler.proofs.Choices.{under_inner}

-- one node

pub layer_put : (base : List Node) (r : Read) (make : ℕ → Node) (old new : List Node) (part : ℕ) → old ≡ base ++ r.nodes → part ≡ pred (length old)
    → new ≡ old ++ make part ∷ [] → new ≡ base ++ (under_all (length base) (make ∷ []) r).nodes
layer_put base r make old new part stands is put =
    put ∙ ap (λ p. old ++ make p ∷ []) (is ∙ ap (λ c. pred (length c)) stands ∙ ap pred (length-append base r.nodes))
    ∙ ap (λ c. c ++ make (root (length base) r) ∷ []) stands
    ∙ append_assoc base r.nodes (make (root (length base) r) ∷ [])

-- nodes one after another, the last one first

pub record LayersSoFar (base : List Node) (left all : List (ℕ → Node)) (r : Read) (code : List Node) : Type 0 where
  pub now : Read
  pub behind : code ≡ base ++ now.nodes
  pub whole : under_all (length base) left now ≡ under_all (length base) all r

pub layers_begun : (base : List Node) (all : List (ℕ → Node)) (r : Read) (code : List Node) → code ≡ base ++ r.nodes → LayersSoFar base all all r code
layers_begun base all r code h = record { now = r; behind = h; whole = refl }

pub one_layer : {A : Type 0} (f : A → ℕ → Node) (base : List Node) (left rest : List A) (x : A) (all : List (ℕ → Node)) (r : Read) (old new : List Node) → left ≡ rest ++ x ∷ []
    → LayersSoFar base (map f left) all r old
    → ((b : List Node) (q : Read) → old ≡ b ++ q.nodes → new ≡ b ++ (under_all (length b) (f x ∷ []) q).nodes) → LayersSoFar base (map f rest) all r new
one_layer f base left rest x all r old new is h put = record {
  now = around (length base) (f x) h.now;
  behind = put base h.now h.behind;
  whole =
      sym (under_inner (length base) (map f rest) (f x) h.now)
      ∙ ap (λ z. under_all (length base) z h.now) (sym (map-append f rest (x ∷ [])) ∙ ap (map f) (sym is))
      ∙ h.whole;
}

pub layers_done : {A : Type 0} (f : A → ℕ → Node) (base : List Node) (left : List A) (all : List (ℕ → Node)) (r : Read) (code : List Node) → left ≡ []
    → LayersSoFar base (map f left) all r code → code ≡ base ++ (under_all (length base) all r).nodes
layers_done f base left all r code none h =
    h.behind ∙ ap (λ q. base ++ q.nodes) (ap (λ z. under_all (length base) (map f z) h.now) (sym none) ∙ h.whole)

ends_kept : (from : ℕ) (makes : List (ℕ → Node)) (r : Read) → (under_all from makes r).functionality ≡ r.functionality
ends_kept from [] r = refl
ends_kept from (make ∷ makes) r = ends_kept from makes r

-- copies one before another

copies_some : (gates : Synchronised) (part g b : ℕ) (os : List ℕ) → (n : ℕ) × length (copy_nodes gates part g (b ∷ os)) ≡ suc n
copies_some gates part g b [] = (0, refl)
copies_some gates part g b (c ∷ os) =
    let rest = copy_nodes gates part g (c ∷ os) in
    let more = relabelled part g b ∷ parallel gates (suc part + length rest) (part + length rest) ∷ [] in
    (suc (length rest), length-append rest more ∙ omega arith)

copy_before : (gates : Synchronised) (part g a : ℕ) (bs : List ℕ)
    → copy_nodes gates part g (a ∷ bs) ≡ copy_nodes gates part g bs ++ next_copy gates part g a (length (copy_nodes gates part g bs))
copy_before gates part g a [] = refl
copy_before gates part g a (b ∷ os) = by_length (copies_some gates part g b os)
  where
    rest : List Node
    rest = copy_nodes gates part g (b ∷ os)

    some : (n : ℕ) → (suc n == 0) ≡ false
    some n = grind (arith, nat_tests)

    with_length : (n m : ℕ) → m ≡ suc n
        → rest ++ (relabelled part g a ∷ parallel gates (suc part + m) (part + m) ∷ []) ≡ rest ++ next_copy gates part g a m
    with_length n m e =
        let sums : suc part + suc n ≡ part + suc n + 1 = omega arith in
        subst (λ k. rest ++ (relabelled part g a ∷ parallel gates (suc part + k) (part + k) ∷ []) ≡ rest ++ next_copy gates part g a k) (sym e)
        (ap (λ k. rest ++ (relabelled part g a ∷ parallel gates k (part + suc n) ∷ [])) sums
        ∙ ap (λ b. rest ++ (relabelled part g a ∷ (if b then [] else parallel gates (part + suc n + 1) (part + suc n) ∷ []))) (sym (some n)))

    by_length : (n : ℕ) × length rest ≡ suc n → copy_nodes gates part g (a ∷ b ∷ os) ≡ rest ++ next_copy gates part g a (length rest)
    by_length some = with_length some.0 (length rest) some.1

pub record CopiesSoFar (gates : Synchronised) (part g : ℕ) (left all : List ℕ) (base code : List Node) : Type 0 where
  pub done : List ℕ
  pub whole : left ++ done ≡ all
  pub behind : code ≡ base ++ copy_nodes gates part g done

pub copies_begun : (gates : Synchronised) (part g : ℕ) (all : List ℕ) (base : List Node) → CopiesSoFar gates part g all all base base
copies_begun gates part g all base = record { done = []; whole = append-nil all; behind = sym (append-nil base) }

pub one_copy : {A : Type 0} (f : A → ℕ) (gates : Synchronised) (part g : ℕ) (left rest : List A) (x : A) (all : List ℕ) (base old new : List Node) (count : ℕ)
    → left ≡ rest ++ x ∷ [] → CopiesSoFar gates part g (map f left) all base old → count ≡ length old - length base
    → new ≡ old ++ next_copy gates part g (f x) count → CopiesSoFar gates part g (map f rest) all base new
one_copy f gates part g left rest x all base old new count is h counted put =
    let there = copy_nodes gates part g h.done in
    let count-is : count ≡ length there = omega (arith, counted, ap length h.behind, length-append base there) in
    record {
      done = f x ∷ h.done;
      whole = sym (append_assoc (map f rest) (f x ∷ []) h.done) ∙ ap (λ z. z ++ h.done) (sym (map-append f rest (x ∷ [])) ∙ ap (map f) (sym is)) ∙ h.whole;
      behind =
          put ∙ ap (λ z. z ++ next_copy gates part g (f x) count) h.behind
          ∙ append_assoc base there (next_copy gates part g (f x) count)
          ∙ ap (λ k. base ++ (there ++ next_copy gates part g (f x) k)) count-is
          ∙ ap (λ z. base ++ z) (sym (copy_before gates part g (f x) h.done));
    }

pub copies_done : {A : Type 0} (f : A → ℕ) (gates : Synchronised) (part g : ℕ) (left : List A) (all : List ℕ) (base code : List Node) → left ≡ []
    → CopiesSoFar gates part g (map f left) all base code → code ≡ base ++ copy_nodes gates part g all
copies_done f gates part g left all base code none h =
    h.behind ∙ ap (λ z. base ++ copy_nodes gates part g z) (ap (λ z. map f z ++ h.done) (sym none) ∙ h.whole)

-- a part is closed

pub hindered_closes : (base : List Node) (x : Option Read) (ends : Option Functionality) (from : ℕ) (old new : List Node) → from ≡ length base → new ≡ take from old
    → Stands base x old ends → Stands base (framed from hindered x) new None
hindered_closes base x ends from old new at cut s = record {
  behind = cut ∙ ap (λ n. take n old) at ∙ ap (take (length base)) s.behind ∙ take-append_seam base (nodes_of x) ∙ sym (append-nil base);
  found = refl;
}

pub layers_unread : (base : List Node) (x : Option Read) (from : ℕ) (makes : List (ℕ → Node)) (code : List Node) → Stands base x code None
    → Stands base (framed from (layers makes) x) code None
layers_unread base None from makes code s = s
layers_unread base (Some r) from makes code s = absurd (none-some r.functionality s.found)

pub layers_read : (base : List Node) (x : Option Read) (f : Functionality) (from : ℕ) (makes : List (ℕ → Node)) (old new : List Node) → from ≡ length base
    → ((b : List Node) (q : Read) → old ≡ b ++ q.nodes → new ≡ b ++ (under_all (length b) makes q).nodes) → Stands base x old (Some f)
    → Stands base (framed from (layers makes) x) new (Some f)
layers_read base None f from makes old new at put s = absurd (none-some f (sym s.found))
layers_read base (Some r) f from makes old new at put s = record {
  behind = put base r s.behind ∙ ap (λ n. base ++ (under_all n makes r).nodes) (sym at);
  found = s.found ∙ ap Some (sym (ends_kept from makes r));
}

pub copies_unread : (base : List Node) (x : Option Read) (from g : ℕ) (gates : Synchronised) (among : List ℕ) (code : List Node) → Stands base x code None
    → Stands base (framed from (copies_from g gates among) x) code None
copies_unread base None from g gates [] code s = s
copies_unread base None from g gates (a ∷ among) code s = s
copies_unread base (Some r) from g gates among code s = absurd (none-some r.functionality s.found)

pub no_copies : (base : List Node) (x : Option Read) (f : Functionality) (from g : ℕ) (gates : Synchronised) (among : List ℕ) (old new : List Node) → from ≡ length base
    → among ≡ [] → new ≡ take from old ++ stop ∷ [] → Stands base x old (Some f) → Stands base (framed from (copies_from g gates among) x) new (Some noexit)
no_copies base None f from g gates among old new at none put s = absurd (none-some f (sym s.found))
no_copies base (Some r) f from g gates among old new at none put s =
    subst (λ z. Stands base (framed from (copies_from g gates z) (Some r)) new (Some noexit)) (sym none)
    (record {
      behind = put ∙ ap (λ n. take n old ++ stop ∷ []) at ∙ ap (λ c. take (length base) c ++ stop ∷ []) s.behind ∙ ap (λ c. c ++ stop ∷ []) (take-append_seam base r.nodes);
      found = refl;
    })

copies_of : (base : List Node) (r : Read) (f : Functionality) (from g : ℕ) (gates : Synchronised) (a : ℕ) (among : List ℕ) (part : ℕ) (old new : List Node) → from ≡ length base
    → part ≡ pred (length old) → new ≡ old ++ copy_nodes gates part g (a ∷ among) → Stands base (Some r) old (Some f)
    → Stands base (framed from (copies_from g gates (a ∷ among)) (Some r)) new (Some f)
copies_of base r f from g gates a among part old new at is put s =
    let part-is : part ≡ root from r = is ∙ ap (λ c. pred (length c)) s.behind ∙ ap pred (length-append base r.nodes) ∙ ap (λ n. pred (n + length r.nodes)) (sym at) in
    record {
      behind =
          put ∙ ap (λ p. old ++ copy_nodes gates p g (a ∷ among)) part-is
          ∙ ap (λ c. c ++ copy_nodes gates (root from r) g (a ∷ among)) s.behind
          ∙ append_assoc base r.nodes (copy_nodes gates (root from r) g (a ∷ among));
      found = s.found;
    }

pub some_copies : (base : List Node) (x : Option Read) (f : Functionality) (from g : ℕ) (gates : Synchronised) (among : List ℕ) (part : ℕ) (old new : List Node) → from ≡ length base
    → (among ≡ [] → ⊥) → part ≡ pred (length old) → new ≡ old ++ copy_nodes gates part g among → Stands base x old (Some f)
    → Stands base (framed from (copies_from g gates among) x) new (Some f)
some_copies base None f from g gates among part old new at some is put s = absurd (none-some f (sym s.found))
some_copies base (Some r) f from g gates [] part old new at some is put s = absurd (some refl)
some_copies base (Some r) f from g gates (a ∷ among) part old new at some is put s = copies_of base r f from g gates a among part old new at is put s
