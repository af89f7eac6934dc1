-- Constructs that one tree says are alike.
use Rattle.std.proofs.Common.{◌≡◌, ◌∙◌, sym, subst}
use Rattle.lotos_ast.specs.declared.place.Place.{Place}
use Rattle.lotos_ast.specs.BehaviourTrees.{choice_declarations_tree}
use Rattle.lotos_ast.specs.Reads.{Tree, unkept, leaf, both, left, right, absent, present, node}
use Rattle.static_constructs.specs.Constructs.{Construct}
use Rattle.static_constructs.specs.Constructs.{hides, calls, copies}
use Rattle.static_constructs.specs.Written.{listed}
use Rattle.syntax_laws.proofs.Trees.{tokens-one}
use Rattle.static_uniqueness.specs.ConstructsAlike.{AreConstructsAlike, alike_stops, alike_exits, alike_inside, alike_acts, alike_chooses, alike_asks}
use Rattle.static_uniqueness.specs.ConstructsAlike.{alike_binds, alike_values, alike_gates, alike_composes, alike_hides, alike_enables, alike_disables}
use Rattle.static_uniqueness.specs.ConstructsAlike.{alike_calls, alike_copies}
use Rattle.static_uniqueness.proofs.Meanings.{SaysBehaviour, SaysDisable, SaysParallel, SaysChoice, SaysUnary, SaysAtom}
use Rattle.static_uniqueness.proofs.TreeParts.{accepted-alike, operators-alike, premisses-alike, predicates-alike, offers-alike, gates-same}
use Rattle.static_uniqueness.proofs.TreeParts.{gate-lists-same, values-alike, exit-values-alike, bindings-alike, gate-choices-alike, chosen-alike}

-- constructs that are those that are alike
at : {a b c d : Construct} → c ≡ a → d ≡ b → AreConstructsAlike a b → AreConstructsAlike c d
at {a = a} {b = b} {c = c} {d = d} e f h = subst (λ z. AreConstructsAlike z d) (sym e) (subst (λ z. AreConstructsAlike a z) (sym f) h)

there : {p : Place} {x : Tree} (y : Tree) → y ≡ node p x → y ≡ unkept → ⊥
there y e f = cc

mutual
  pub behaviours-alike : (t : Tree) (c d : Construct) → SaysBehaviour t c → SaysBehaviour t d → AreConstructsAlike c d
  behaviours-alike (node p (both x absent)) c d h k = disables-alike x c d h k
  behaviours-alike (node p (both x (present (node q (both unkept (both variables y)))))) c d (a, b, o, f, g, m, e) (a', b', o', f', g', m', e') =
      at e e' (alike_enables (disables-alike x a a' f f') (accepted-alike o o' (m ∙ sym m')) (behaviours-alike y b b' g g'))
  behaviours-alike _ c d h k = absurd h

  disables-alike : (t : Tree) (c d : Construct) → SaysDisable t c → SaysDisable t d → AreConstructsAlike c d
  disables-alike (node p (both x absent)) c d h k = parallels-alike x c d h k
  disables-alike (node p (both x (present (node q (both unkept y))))) c d (a, b, f, g, e) (a', b', f', g', e') =
      at e e' (alike_disables (parallels-alike x a a' f f') (disables-alike y b b' g g'))
  disables-alike _ c d h k = absurd h

  parallels-alike : (t : Tree) (c d : Construct) → SaysParallel t c → SaysParallel t d → AreConstructsAlike c d
  parallels-alike (node p (both x absent)) c d h k = choices-alike x c d h k
  parallels-alike (node p (both x (present (node q (both operator y))))) c d (a, b, o, f, g, m, e) (a', b', o', f', g', m', e') =
      at e e' (alike_composes (operators-alike o o' (m ∙ sym m')) (choices-alike x a a' f f') (parallels-alike y b b' g g'))
  parallels-alike _ c d h k = absurd h

  choices-alike : (t : Tree) (c d : Construct) → SaysChoice t c → SaysChoice t d → AreConstructsAlike c d
  choices-alike (node p (both x absent)) c d h k = unaries-alike x c d h k
  choices-alike (node p (both x (present (node q (both unkept y))))) c d (a, b, f, g, e) (a', b', f', g', e') =
      at e e' (alike_chooses (unaries-alike x a a' f f') (choices-alike y b b' g g'))
  choices-alike _ c d h k = absurd h

  unaries-alike : (t : Tree) (c d : Construct) → SaysUnary t c → SaysUnary t d → AreConstructsAlike c d
  unaries-alike (node p (left (both predicate (both unkept x)))) c d (b, v, f, m, e) (b', v', f', m', e') =
      at e e' (alike_asks (premisses-alike v v' (m ∙ sym m')) (unaries-alike x b b' f f'))
  unaries-alike (node p (right (left (both (node q unkept) (both unkept x))))) c d (b, f, e) (b', f', e') =
      at e e' (alike_inside (unaries-alike x b b' f f'))
  unaries-alike (node p (right (right (left (node q (both (leaf gate) (left (both unkept x)))))))) c d (b, f, e) (b', f', e') =
      at e e' (alike_acts tt tt (unaries-alike x b b' f f'))
  unaries-alike (node p (right (right (left (node q (both (leaf gate) (right (left (both first (both further (both predicate (both unkept x)))))))))))) c d (b, os, v, f, l, m, e) (b', os', v', f', l', m', e') =
      at e e' (alike_acts (offers-alike os os' (l ∙ sym l')) (predicates-alike v v' (m ∙ sym m')) (unaries-alike x b b' f f'))
  unaries-alike (node p (right (right (left (node q (both (leaf name) (right (right (both gates values))))))))) c d (o, v, l, m, e) (o', v', l', m', e') =
      at e (subst (λ z. d ≡ calls name z (listed v')) (sym (gates-same o o' (l ∙ sym l'))) e') (alike_calls (values-alike v v' (m ∙ sym m')))
  unaries-alike (node p (right (right (right (node q x))))) c d h k = atoms-alike x c d h k
  unaries-alike _ c d h k = absurd h

  atoms-alike : (t : Tree) (c d : Construct) → SaysAtom t c → SaysAtom t d → AreConstructsAlike c d
  atoms-alike (left (both unkept (both x unkept))) c d h k = behaviours-alike x c d h k
  atoms-alike (right (left (both unkept (both gates (both unkept x))))) c d (b, ts, f, m, e) (b', ts', f', m', e') =
      at e (subst (λ z. d ≡ hides z b') (sym (tokens-one ts ts' (m ∙ sym m'))) e') (alike_hides (behaviours-alike x b b' f f'))
  atoms-alike (right (right (left (both unkept (both bindings (both unkept x)))))) c d (b, bs, f, m, e) (b', bs', f', m', e') =
      at e e' (alike_binds (bindings-alike bs bs' (m ∙ sym m')) (behaviours-alike x b b' f f'))
  atoms-alike (right (right (right (left (both unkept (node q (node r (both (leaf gate) (left (both unkept (both gates (both further (both (node s unkept) x))))))))))))) c d (b, cs, f, m, e) (b', cs', f', m', e') =
      at e e' (alike_gates (gate-choices-alike cs cs' (m ∙ sym m')) (behaviours-alike x b b' f f'))
  atoms-alike (right (right (right (left (both unkept (node q (node r (both (leaf first) (right (both names (both unkept (both (leaf sort) (both further (both (node s unkept) x)))))))))))))) c d (b, ds, f, m, e) (b', ds', f', m', e') =
      at e e' (alike_values (chosen-alike ds ds' (there (choice_declarations_tree ds unkept) m) (m ∙ sym m')) (behaviours-alike x b b' f f'))
  atoms-alike (right (right (right (right (left (both unkept (both (leaf gate) (both unkept (both gates (both operator x)))))))))) c d (b, g, o, f, l, m, e) (b', g', o', f', l', m', e') =
      at e (subst (λ z. d ≡ copies gate z o' b') (sym (gate-lists-same g g' (l ∙ sym l'))) e') (alike_copies (operators-alike o o' (m ∙ sym m')) (behaviours-alike x b b' f f'))
  atoms-alike (right (right (right (right (right (left (both unkept values))))))) c d (v, m, e) (v', m', e') =
      at e e' (alike_exits (exit-values-alike v v' (m ∙ sym m')))
  atoms-alike (right (right (right (right (right (right unkept)))))) c d e e' = at e e' alike_stops
  atoms-alike _ c d h k = absurd h
