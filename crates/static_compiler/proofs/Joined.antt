-- Two parts are joined.
use Rattle.std.proofs.Common.{ℕ, pred, ◌≡◌, ◌∙◌, ◌+◌, refl, sym, ap, subst, List, [], ◌∷◌, ◌++◌, length, take, append_assoc, append-nil, Option, Some, None}
use Rattle.std.specs.Prelude.{option_map}
use Rattle.std.proofs.lemmas.List.{length-append}
use Rattle.std.proofs.Math.Seq.{take-append_seam}
use Rattle.lotos_ast.specs.declared.place.Place.{Place}
use Rattle.spec_core.specs.Code.{Node}
use Rattle.spec_core.specs.Functionality.{Functionality}
use Rattle.static_readings.specs.Joins.{Read, root, over, refused_if_none}
use Rattle.static_readings.specs.Outputs.{Output, nodes_of}
use Rattle.static_readings.specs.Views.{functionality_of}
use Rattle.static_compiler.specs.Frames.{Joining, together, node_behind, ready, with_node, joined_as, joining_refusals}
use Rattle.static_compiler.specs.Parts.{ends_of, Stands, StandBoth, AreJoined}
use Rattle.static_compiler.specs.declared.read_part.ReadPart.{ReadPart}

-- only what stood before the parts is left
cut_both : (base one other code : List Node) (from : ℕ) → code ≡ (base ++ one) ++ other → from ≡ length base → take from code ≡ base ++ []
cut_both base one other code from behind at =
    ap (λ n. take n code) at ∙ ap (take (length base)) (behind ∙ append_assoc base one other) ∙ take-append_seam base (one ++ other) ∙ sym (append-nil base)

asked_ready : (j : Option Joining) (x y : Option Read) (left right : Option Functionality) → left ≡ ends_of x → right ≡ ends_of y
    → ready j left right ≡ ready j (ends_of x) (ends_of y)
asked_ready j x y left right l r = ap (λ z. ready j z right) l ∙ ap (λ z. ready j (ends_of x) z) r

none_of : (place : Place) (j : Option Joining) (x y : Option Read) (base : List Node) (from : ℕ) (old now : Output) → None ≡ ready j (ends_of x) (ends_of y)
    → now.code ≡ base ++ [] → now.refusals ≡ old.refusals → from ≡ length base → AreJoined base place j x y old now None
none_of place None x y base from old now e cut same at =
    record { stands = record { behind = cut; found = refl }; refused = same ∙ sym (append-nil old.refusals) }
none_of place (Some j) None y base from old now e cut same at =
    record { stands = record { behind = cut; found = refl }; refused = same ∙ sym (append-nil old.refusals) }
none_of place (Some j) (Some x) None base from old now e cut same at =
    record { stands = record { behind = cut; found = refl }; refused = same ∙ sym (append-nil old.refusals) }
none_of place (Some j) (Some x) (Some y) base from old now e cut same at = absurd (differ e)
  where
    whole : Joining × Option Functionality
    whole = (j, together j x.functionality y.functionality)

    differ : None ≡ Some whole → ⊥
    differ e = cc

pub none_joined : (base : List Node) (place : Place) (j : Option Joining) (x y : Option Read) (old now : Output) (p q : ReadPart)
    → None ≡ ready j (option_map functionality_of p.ends) (option_map functionality_of q.ends) → now.code ≡ take p.from old.code → now.refusals ≡ old.refusals
    → StandBoth base x y old.code p q → AreJoined base place j x y old now None
none_joined base place j x y old now p q none cut same s =
    none_of place j x y base p.from old now (none ∙ asked_ready j x y _ _ s.first_ends s.second_ends)
    (cut ∙ cut_both base (nodes_of x) (nodes_of y) old.code p.from s.behind s.from) same s.from

-- both are read, and it is asked whether they may stand together

node_put : (base : List Node) (x y : Read) (j : Joining) (first second : ℕ) (code : List Node) → code ≡ (base ++ x.nodes) ++ y.nodes
    → first ≡ pred (length (base ++ x.nodes)) → second ≡ pred (length code)
    → code ++ node_behind j first second ∷ []
    ≡ base ++ (x.nodes ++ (y.nodes ++ node_behind j (root (length base) x) (root (length base + length x.nodes) y) ∷ []))
node_put base x y j first second code behind one other =
    let l : first ≡ root (length base) x = one ∙ ap pred (length-append base x.nodes) in
    let r : second ≡ root (length base + length x.nodes) y =
    other ∙ ap (λ c. pred (length c)) behind ∙ ap pred (length-append (base ++ x.nodes) y.nodes) ∙ ap (λ n. pred (n + length y.nodes)) (length-append base x.nodes) in
    let node = node_behind j (root (length base) x) (root (length base + length x.nodes) y) in
    ap (λ n. code ++ node_behind j n second ∷ []) l
    ∙ ap (λ n. code ++ node_behind j (root (length base) x) n ∷ []) r
    ∙ ap (λ c. c ++ node ∷ []) behind
    ∙ append_assoc (base ++ x.nodes) y.nodes (node ∷ [])
    ∙ append_assoc base x.nodes (y.nodes ++ node ∷ [])

asked_of : (place : Place) (j : Joining) (x y : Read) (base : List Node) (old now : Output) (p q : ReadPart) (e : Option Functionality)
    → together j x.functionality y.functionality ≡ e
    → now.code ≡ with_node e p.from (node_behind j p.last.0 q.last.0) old.code → now.refusals ≡ old.refusals ++ refused_if_none e place
    → StandBoth base (Some x) (Some y) old.code p q → AreJoined base place (Some j) (Some x) (Some y) old now e
asked_of place j x y base old now p q None is put refused s = record {
  stands = record {
    behind =
        put ∙ cut_both base x.nodes y.nodes old.code p.from s.behind s.from
        ∙ ap (λ o. base ++ nodes_of (option_map (over (length base) (node_behind j) x y) o)) (sym is);
    found = ap (λ o. ends_of (option_map (over (length base) (node_behind j) x y) o)) (sym is);
  };
  refused = refused ∙ ap (λ o. old.refusals ++ refused_if_none o place) (sym is);
}
asked_of place j x y base old now p q (Some f) is put refused s = record {
  stands = record {
    behind =
        put ∙ node_put base x y j p.last.0 q.last.0 old.code s.behind s.first s.second
        ∙ ap (λ o. base ++ nodes_of (option_map (over (length base) (node_behind j) x y) o)) (sym is);
    found = ap (λ o. ends_of (option_map (over (length base) (node_behind j) x y) o)) (sym is);
  };
  refused = refused ∙ ap (λ o. old.refusals ++ refused_if_none o place) (sym is);
}

some_of : (place : Place) (j : Option Joining) (x y : Option Read) (base : List Node) (old now : Output) (p q : ReadPart) (k : Joining) (e : Option Functionality)
    → ◌≡◌ {A = Option (Joining × Option Functionality)} (Some (k, e)) (ready j (ends_of x) (ends_of y))
    → now.code ≡ with_node e p.from (node_behind k p.last.0 q.last.0) old.code → now.refusals ≡ old.refusals ++ refused_if_none e place
    → StandBoth base x y old.code p q → AreJoined base place j x y old now e
some_of place None x y base old now p q k e is put refused s = absurd (differ is)
  where
    asked : Joining × Option Functionality
    asked = (k, e)

    differ : Some asked ≡ None → ⊥
    differ h = cc
some_of place (Some j) None y base old now p q k e is put refused s = absurd (differ is)
  where
    asked : Joining × Option Functionality
    asked = (k, e)

    differ : Some asked ≡ None → ⊥
    differ h = cc
some_of place (Some j) (Some x) None base old now p q k e is put refused s = absurd (differ is)
  where
    asked : Joining × Option Functionality
    asked = (k, e)

    differ : Some asked ≡ None → ⊥
    differ h = cc
some_of place (Some j) (Some x) (Some y) base old now p q k e is put refused s =
    asked_of place j x y base old now p q e (sym (ends-are is))
    (put ∙ ap (λ z. with_node e p.from (node_behind z p.last.0 q.last.0) old.code) (joining-is is)) refused s
  where
    asked : Joining × Option Functionality
    asked = (k, e)

    whole : Joining × Option Functionality
    whole = (j, together j x.functionality y.functionality)

    inside : {A : Type 0} (a b : A) → Some a ≡ Some b → a ≡ b
    inside a b h = cc

    joining-is : Some asked ≡ Some whole → k ≡ j
    joining-is h = ap (λ z. z.0) (inside asked whole h)

    ends-are : Some asked ≡ Some whole → e ≡ together j x.functionality y.functionality
    ends-are h = ap (λ z. z.1) (inside asked whole h)

pub some_joined : (base : List Node) (place : Place) (j : Option Joining) (x y : Option Read) (old now : Output) (p q : ReadPart) (k : Joining) (e ends : Option Functionality)
    (node : Node) → ◌≡◌ {A = Option (Joining × Option Functionality)} (Some (k, e)) (ready j (option_map functionality_of p.ends) (option_map functionality_of q.ends))
    → node ≡ node_behind k p.last.0 q.last.0 → now.code ≡ with_node e p.from node old.code → now.refusals ≡ old.refusals ++ refused_if_none e place
    → ends ≡ e → StandBoth base x y old.code p q → AreJoined base place j x y old now ends
some_joined base place j x y old now p q k e ends node is made put refused found s =
    subst (λ z. AreJoined base place j x y old now z) (sym found)
    (some_of place j x y base old now p q k e (is ∙ asked_ready j x y _ _ s.first_ends s.second_ends)
    (put ∙ ap (λ n. with_node e p.from n old.code) made) refused s)
