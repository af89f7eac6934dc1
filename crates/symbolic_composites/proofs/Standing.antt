-- Which behaviour stands at a number of a specification that is ready, and which process a number names.
use Rattle.std.proofs.Common.{ℕ, zero, suc, ◌≡◌, ◌<◌, inl, inr, List, refl, sym, ap, subst, ◌∙◌, arith, Option, Some, None}
use Rattle.std.specs.List.{slice_get}
use Rattle.std.proofs.lemmas.Option.{none-some, same_Some}
use Rattle.spec_core.specs.Code as code
use Rattle.spec_core.specs.Code.{Program, Variable}
use Rattle.spec_core.specs.Ready.{IsProcess, IsReady}
use Rattle.rule_model.specs.Behaviours.{Behaviour, stop, exit, inner, action, choice, guarded, bound, value_choice, gate_choice, parallel}
use Rattle.rule_model.specs.Behaviours.{hide, enable, disable, call, relabel}
use Rattle.rule_model.specs.Code.{StandsAt, IsDefinition}
use Rattle.rule_laws.proofs.OneStep.{one_behaviour}
use Rattle.symbolic_composites.specs.Evaluations.{Definition}
use Rattle.symbolic_composites.proofs.One.{One}

module _ (program : Program) (ready : IsReady program) where
  abbrev Stands : ℕ → Type 0
  Stands n = (b : Behaviour) × StandsAt program n b

  -- some behaviour stands at each number that names a construct of behaviour
  standing : (bound n : ℕ) → n < bound → (node : code.Node) → slice_get program.code n ≡ Some node → (IsProcess node → ⊥) → Stands n
  standing zero n l node q np = absurd (omega arith)
  standing (suc m) n l code.stop q np = (stop, q)
  standing (suc m) n l (code.exit fields) q np = (exit fields, q)
  standing (suc m) n l (code.inner i) q np =
      let p = ready.parts n (code.inner i) q in
      let less : i < n = (p.below np).0 in
      let r = standing m i (omega arith) p.names.0.0 p.names.0.1 p.names.0.2 in
      (inner r.0, (i, q, r.1))
  standing (suc m) n l (code.action g fields guard i) q np =
      let p = ready.parts n (code.action g fields guard i) q in
      let less : i < n = (p.below np).0 in
      let r = standing m i (omega arith) p.names.0.0 p.names.0.1 p.names.0.2 in
      (action g fields guard r.0, (i, q, r.1))
  standing (suc m) n l (code.choice i j) q np =
      let p = ready.parts n (code.choice i j) q in
      let less : i < n = (p.below np).0 in
      let lower : j < n = (p.below np).1.0 in
      let r = standing m i (omega arith) p.names.0.0 p.names.0.1 p.names.0.2 in
      let s = standing m j (omega arith) p.names.1.0.0 p.names.1.0.1 p.names.1.0.2 in
      (choice r.0 s.0, (i, j, q, r.1, s.1))
  standing (suc m) n l (code.guarded pr i) q np =
      let p = ready.parts n (code.guarded pr i) q in
      let less : i < n = (p.below np).0 in
      let r = standing m i (omega arith) p.names.0.0 p.names.0.1 p.names.0.2 in
      (guarded pr r.0, (i, q, r.1))
  standing (suc m) n l (code.bound bindings i) q np =
      let p = ready.parts n (code.bound bindings i) q in
      let less : i < n = (p.below np).0 in
      let r = standing m i (omega arith) p.names.0.0 p.names.0.1 p.names.0.2 in
      (bound bindings r.0, (i, q, r.1))
  standing (suc m) n l (code.value_choice x i) q np =
      let p = ready.parts n (code.value_choice x i) q in
      let less : i < n = (p.below np).0 in
      let r = standing m i (omega arith) p.names.0.0 p.names.0.1 p.names.0.2 in
      (value_choice x r.0, (i, q, r.1))
  standing (suc m) n l (code.gate_choice g gates i) q np =
      let p = ready.parts n (code.gate_choice g gates i) q in
      let less : i < n = (p.below np).0 in
      let r = standing m i (omega arith) p.names.0.0 p.names.0.1 p.names.0.2 in
      (gate_choice g gates r.0, (i, q, r.1))
  standing (suc m) n l (code.parallel gates i j) q np =
      let p = ready.parts n (code.parallel gates i j) q in
      let less : i < n = (p.below np).0 in
      let lower : j < n = (p.below np).1.0 in
      let r = standing m i (omega arith) p.names.0.0 p.names.0.1 p.names.0.2 in
      let s = standing m j (omega arith) p.names.1.0.0 p.names.1.0.1 p.names.1.0.2 in
      (parallel gates r.0 s.0, (i, j, q, r.1, s.1))
  standing (suc m) n l (code.hide gates i) q np =
      let p = ready.parts n (code.hide gates i) q in
      let less : i < n = (p.below np).0 in
      let r = standing m i (omega arith) p.names.0.0 p.names.0.1 p.names.0.2 in
      (hide gates r.0, (i, q, r.1))
  standing (suc m) n l (code.enable i xs j) q np =
      let p = ready.parts n (code.enable i xs j) q in
      let less : i < n = (p.below np).0 in
      let lower : j < n = (p.below np).1.0 in
      let r = standing m i (omega arith) p.names.0.0 p.names.0.1 p.names.0.2 in
      let s = standing m j (omega arith) p.names.1.0.0 p.names.1.0.1 p.names.1.0.2 in
      (enable r.0 xs s.0, (i, j, q, r.1, s.1))
  standing (suc m) n l (code.disable i j) q np =
      let p = ready.parts n (code.disable i j) q in
      let less : i < n = (p.below np).0 in
      let lower : j < n = (p.below np).1.0 in
      let r = standing m i (omega arith) p.names.0.0 p.names.0.1 p.names.0.2 in
      let s = standing m j (omega arith) p.names.1.0.0 p.names.1.0.1 p.names.1.0.2 in
      (disable r.0 s.0, (i, j, q, r.1, s.1))
  standing (suc m) n l (code.call c gates terms) q np = (call c gates terms, q)
  standing (suc m) n l (code.relabel pairs i) q np =
      let p = ready.parts n (code.relabel pairs i) q in
      let less : i < n = (p.below np).0 in
      let r = standing m i (omega arith) p.names.0.0 p.names.0.1 p.names.0.2 in
      (relabel pairs r.0, (i, q, r.1))
  standing (suc m) n l (code.process gates xs i) q np = absurd (np tt)

  process_parts : (gates hates : List ℕ) (xs ys : List Variable) (i j : ℕ) → code.process gates xs i ≡ code.process hates ys j →
      (gates ≡ hates) × (xs ≡ ys) × (i ≡ j)
  process_parts gates hates xs ys i j e = (cc, cc, cc)

  abbrev Defines : ℕ → Definition → Type 0
  Defines p d = IsDefinition program p d.gates d.variables d.body

  -- what isn't a process is no definition
  no_definition : (p : ℕ) (node : code.Node) → slice_get program.code p ≡ Some node → (IsProcess node → ⊥) → One (Defines p)
  no_definition p node q np = inr (λ d h. np (subst IsProcess (sym (same_Some _ _ (sym q ∙ h.defines))) tt))

  by_node : (p : ℕ) (node : code.Node) → slice_get program.code p ≡ Some node → One (Defines p)
  by_node p (code.process gates xs part) q =
      let names = (ready.parts p (code.process gates xs part) q).names.0 in
      let r = standing (suc part) part (omega arith) names.0 names.1 names.2 in
      inl (
        record { gates = gates; variables = xs; body = r.0 },
        record { part = part; defines = q; stands = r.1 },
        λ d h. only r d h,
      )
    where
      only : (r : Stands part) (d : Definition) → Defines p d → d ≡ record { gates = gates; variables = xs; body = r.0 }
      only r d h =
          let e = process_parts d.gates gates d.variables xs h.part part (same_Some _ _ (sym h.defines ∙ q)) in
          let same : d.body ≡ r.0 = one_behaviour program part d.body r.0 (subst (λ n. StandsAt program n d.body) e.2 h.stands) r.1 in
          let definition : List ℕ → List Variable → Behaviour → Definition =
          λ g x b. record { gates = g; variables = x; body = b } in
          ap (λ g. definition g d.variables d.body) e.0 ∙ ap (λ x. definition gates x d.body) e.1 ∙ ap (definition gates xs) same
  by_node p node q = no_definition p node q (λ h. h)

  pub one_definition : (p : ℕ) → One (Defines p)
  one_definition p = by_place (slice_get program.code p) refl
    where
      by_place : (o : Option code.Node) → slice_get program.code p ≡ o → One (Defines p)
      by_place None q = inr (λ d h. none-some _ (sym q ∙ h.defines))
      by_place (Some node) q = by_node p node q
