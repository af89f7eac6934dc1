-- Where the parts of a program stand that is put together of constructs that are read.
use Rattle.std.proofs.Common.{ℕ, zero, suc, ◌≡◌, ◌+◌, List, [], ◌∷◌, ◌++◌, length, map, refl, sym, ap, subst, ◌∙◌, arith}
use Rattle.std.proofs.Common.{append_assoc, append-nil, inl, inr}
use Rattle.std.specs.Prelude.{◌⊎◌, Some}
use Rattle.std.specs.List.{slice_get}
use Rattle.spec_core.specs.Code.{Node, Program, process}
use Rattle.spec_core.specs.Functionality.{Functionality}
use Rattle.spec_core.specs.Functionality as core
use Rattle.spec_core.specs.Lists.{Each, IsOneOf}
use Rattle.spec_core.specs.Sorts.{no_variables}
use Rattle.spec_core.proofs.Members.{one_in_range}
use Rattle.sort_overloads.specs.Readings.{Declared}
use Rattle.static_readings.specs.Sites.{Site, Heading}
use Rattle.static_readings.specs.Joins.{root}
use Rattle.static_laws.specs.Assembled.{HeadingFits, Placed, Definition, IsReadAt, process_nodes, body_nodes, AreBodiesRead, IsAssembled, behind_bodies}
use Rattle.static_laws.specs.Standing.{StandAt, HeadingAgrees, Agrees}
use Rattle.static_laws.proofs.Codes.{in-front, behind, node-at}
use Rattle.static_laws.proofs.CompiledVariables.{numbered-sorts}
use Rattle.static_laws.proofs.Parts.{AreBehaviourNodes, append-fit}
use Rattle.static_laws.proofs.PartsRows.{nodes-fit}

-- an element of two lists, one behind the other, is one of the first or one of the second
pub of-either : {A : Type 0} (xs ys : List A) (k : ℕ) (v : A) → slice_get (xs ++ ys) k ≡ Some v →
    (slice_get xs k ≡ Some v) ⊎ ((j : ℕ) × (k ≡ length xs + j) × (slice_get ys j ≡ Some v))
of-either [] ys k v e = inr (k, omega arith, e)
of-either (x ∷ xs) ys zero v e = inl e
of-either (x ∷ xs) ys (suc k) v e =
    elim (of-either xs ys k v e)
    as (λ _. (slice_get xs k ≡ Some v) ⊎ ((j : ℕ) × (suc k ≡ length (x ∷ xs) + j) × (slice_get ys j ≡ Some v))) [
      | inl h ↦ inl h
      | inr h ↦ inr (h.0, omega (arith, h.1), h.2)
    ]

length-heads : (from : ℕ) (ds : List Definition) → length (process_nodes from ds) ≡ length ds
length-heads from [] = refl
length-heads from (d ∷ ds) = ap suc (length-heads (from + length d.body.read.nodes) ds)

-- the definition of a process: its node has this number, and the nodes of its body stand where it was read
pub record Located (program : Program) (number : ℕ) (d : Definition) : Type 0 where
  pub from : ℕ
  pub node : slice_get program.code number ≡ Some (process d.formal d.variables (root from d.body.read))
  pub nodes : StandAt program from d.body.read.nodes
  pub read : IsReadAt from d.body

module _ (program : Program) where
  located : (ds : List Definition) (base from : ℕ) (rest : List Node) → StandAt program base (process_nodes from ds) →
      StandAt program from (body_nodes ds ++ rest) → AreBodiesRead from ds → (p : ℕ) (d : Definition) → slice_get ds p ≡ Some d →
      Located program (base + p) d
  located [] base from rest heads at read p d e = absurd (cc)
  located (x ∷ ds) base from rest heads at read zero d e =
      let same : x ≡ d = cc in
      subst (Located program (base + zero)) same (record {
        from = from;
        node = subst (λ n. slice_get program.code n ≡ Some (process x.formal x.variables (root from x.body.read))) (omega arith)
            (node-at (process x.formal x.variables (root from x.body.read)) (process_nodes (from + length x.body.read.nodes) ds) heads);
        nodes = in-front x.body.read.nodes (body_nodes ds ++ rest)
            (subst (StandAt program from) (append_assoc x.body.read.nodes (body_nodes ds) rest) at);
        read = read.0;
      })
  located (x ∷ ds) base from rest heads at read (suc p) d e =
      let ns : List Node = process_nodes (from + length x.body.read.nodes) ds in
      subst (λ n. Located program n d) (omega arith)
      (located ds (base + 1) (from + length x.body.read.nodes) rest
      (behind (process x.formal x.variables (root from x.body.read) ∷ []) ns heads)
      (behind x.body.read.nodes (body_nodes ds ++ rest)
      (subst (StandAt program from) (append_assoc x.body.read.nodes (body_nodes ds) rest) at))
      read.1 p d e)

  -- a node among those of definitions is that of one of them
  pub headed : (from : ℕ) (ds : List Definition) (k : ℕ) (node : Node) → slice_get (process_nodes from ds) k ≡ Some node →
      (d : Definition) × (slice_get ds k ≡ Some d)
  headed from [] k node e = absurd (cc)
  headed from (d ∷ ds) zero node e = (d, refl)
  headed from (d ∷ ds) (suc k) node e = headed (from + length d.body.read.nodes) ds k node e

module _ (program : Program) (processes : ℕ → Functionality) where
  bodies-fit : (ds : List Definition) (from : ℕ) (rest : List Node) →
      ((p : ℕ) (d : Definition) → slice_get ds p ≡ Some d → Each (HeadingAgrees program processes) d.body.site.processes) →
      StandAt program from (body_nodes ds ++ rest) → AreBodiesRead from ds → AreBehaviourNodes program from (body_nodes ds)
  bodies-fit [] from rest headings at read = tt
  bodies-fit (d ∷ ds) from rest headings at read =
      let at' : StandAt program from (d.body.read.nodes ++ (body_nodes ds ++ rest)) =
      subst (StandAt program from) (append_assoc d.body.read.nodes (body_nodes ds) rest) at in
      append-fit program from d.body.read.nodes (body_nodes ds)
      ((nodes-fit program processes read.0 (headings zero d refl)).nodes (in-front d.body.read.nodes (body_nodes ds ++ rest) at'))
      (bodies-fit ds (from + length d.body.read.nodes) rest (λ p e. headings (suc p) e)
      (behind d.body.read.nodes (body_nodes ds ++ rest) at') read.1)

  module _ (ds : List Definition) (whole : Placed) (h : IsAssembled program processes ds whole) where
    heads-stand : StandAt program 0 (process_nodes (length ds) ds)
    heads-stand = record { prior = []; more = body_nodes ds ++ whole.read.nodes; code = h.code; number = refl }

    tail-stands : StandAt program (length ds) (body_nodes ds ++ whole.read.nodes)
    tail-stands = record {
      prior = process_nodes (length ds) ds;
      more = [];
      code = h.code ∙ ap (λ l. process_nodes (length ds) ds ++ l) (sym (append-nil (body_nodes ds ++ whole.read.nodes)));
      number = length-heads (length ds) ds;
    }

    pub whole-stands : StandAt program (behind_bodies ds) whole.read.nodes
    whole-stands = behind (body_nodes ds) whole.read.nodes tail-stands

    pub definition-located : (p : ℕ) (d : Definition) → slice_get ds p ≡ Some d → Located program p d
    definition-located p d e =
        subst (λ n. Located program n d) (omega arith)
        (located program ds 0 (length ds) whole.read.nodes heads-stand tail-stands h.bodies_read p d e)

    heading-agrees : (g : Heading) → HeadingFits processes ds g → HeadingAgrees program processes g
    heading-agrees g f =
        let l = definition-located g.number f.definition f.defined in
        record {
          formal = f.definition.formal;
          variables = f.definition.variables;
          body = root l.from f.definition.body.read;
          defined = l.node;
          gates = sym f.gates;
          sorts = f.sorts;
          functionality = f.functionality;
        }

    headings-agree : (gs : List Heading) → Each (HeadingFits processes ds) gs → Each (HeadingAgrees program processes) gs
    headings-agree [] f = tt
    headings-agree (g ∷ gs) f = (heading-agrees g f.0, headings-agree gs f.1)

    -- the sites of bodies, and that of the specification's behaviour, agree with the program

    pub definition-agrees : (p : ℕ) (d : Definition) → slice_get ds p ≡ Some d →
        Agrees program processes d.body.site d.formal (core.with_variables d.variables no_variables)
    definition-agrees p d e =
        let f = h.definitions p d e in
        let s : Site = d.body.site in
        record {
          data_agrees = record {
            sorts = f.site.sorts;
            operations = f.site.operations;
            variables = λ x. ap (λ xs. core.with_variables xs no_variables x) f.variables
                ∙ numbered-sorts s.context.variables 0 [] no_variables refl (λ y. refl) x;
          };
          gates_in_scope = λ g low high. inr (subst (IsOneOf g) (sym f.formal)
              (one_in_range (length s.gates) (length program.gates) g (omega (arith, low, f.first_gate)) (omega (arith, high, f.first_gate))));
          headings = headings-agree s.processes f.site.headings;
        }

    pub whole-agrees : Agrees program processes whole.site [] no_variables
    whole-agrees = record {
      data_agrees = record {
        sorts = h.whole_site.sorts;
        operations = h.whole_site.operations;
        variables = λ x. ap (λ vs. slice_get (map (λ (v : Declared). v.sort) vs) x) (sym h.whole_variables);
      };
      gates_in_scope = λ g low high. inl (omega (arith, high, h.whole_first_gate, h.whole_gates));
      headings = headings-agree whole.site.processes h.whole_site.headings;
    }

    pub tail-fits : AreBehaviourNodes program (length ds) (body_nodes ds ++ whole.read.nodes)
    tail-fits =
        append-fit program (length ds) (body_nodes ds) whole.read.nodes
        (bodies-fit ds (length ds) whole.read.nodes (λ p d e. (definition-agrees p d e).headings) tail-stands h.bodies_read)
        ((nodes-fit program processes h.whole_read whole-agrees.headings).nodes whole-stands)

    -- a node is that of a definition, or one behind them
    pub defined-or-behind : (number : ℕ) (node : Node) → slice_get program.code number ≡ Some node →
        ((d : Definition) × (slice_get ds number ≡ Some d))
        ⊎ ((j : ℕ) × (number ≡ length ds + j) × (slice_get (body_nodes ds ++ whole.read.nodes) j ≡ Some node))
    defined-or-behind number node e =
        elim (of-either (process_nodes (length ds) ds) (body_nodes ds ++ whole.read.nodes) number node
        (subst (λ c. slice_get c number ≡ Some node) h.code e))
        as (λ _. ((d : Definition) × (slice_get ds number ≡ Some d))
        ⊎ ((j : ℕ) × (number ≡ length ds + j) × (slice_get (body_nodes ds ++ whole.read.nodes) j ≡ Some node))) [
          | inl g ↦ inl (headed program (length ds) ds number node g)
          | inr g ↦ inr (g.0, g.1 ∙ ap (λ n. n + g.0) (length-heads (length ds) ds), g.2)
        ]
