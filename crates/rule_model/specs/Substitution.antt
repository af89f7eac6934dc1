-- Terms in the places of variables.
use Rattle.std.specs.Prelude.{ℕ, ◌==◌, if◌then◌else◌, List, [], ◌∷◌, map, Option, Some, None}
use Rattle.spec_core.specs.Terms.{TermTree, variable, instance}
use Rattle.spec_core.specs.Theories.{Premise, premise}
use Rattle.spec_core.specs.Code.{Variable, Binding, ExitValue, exit_given, exit_any, ActionField, give, accept, Relabelling}
use Rattle.spec_core.specs.Functionality.{accepted, bound_variables}
use Rattle.rule_model.specs.Actions.{renamed, after}
use Rattle.rule_model.specs.Behaviours.{Behaviour, stop, exit, inner, action, choice, guarded, bound, value_choice, gate_choice, parallel}
use Rattle.rule_model.specs.Behaviours.{hide, enable, disable, call, relabel}

-- a term for each variable; a variable that has none stands for itself
abbrev pub Assignment : Type 0
Assignment = ℕ → TermTree

-- the term v for the variable x, and for each other one what it had
abbrev pub with_term : Variable → TermTree → Assignment → Assignment
with_term x v s y = if y == x.number then v else s y

-- nothing for these variables: each stands for itself
abbrev pub without : List Variable → Assignment → Assignment
without [] s = s
without (x ∷ xs) s = without xs (with_term x (variable x.number) s)

abbrev pub put_in_premise : Assignment → Premise → Premise
put_in_premise s (premise a b) = premise (instance s a) (instance s b)

abbrev pub put_in_guard : Assignment → Option Premise → Option Premise
put_in_guard s None = None
put_in_guard s (Some p) = Some (put_in_premise s p)

abbrev pub put_in_field : Assignment → ActionField → ActionField
put_in_field s (give t) = give (instance s t)
put_in_field s (accept x) = accept x

abbrev pub put_in_exit : Assignment → ExitValue → ExitValue
put_in_exit s (exit_given t) = exit_given (instance s t)
put_in_exit s (exit_any sort) = exit_any sort

abbrev pub put_in_binding : Assignment → Binding → Binding
put_in_binding s b = record { variable = b.variable; term = instance s b.term }

-- The behaviour with s x in the place of each free variable x. What a construct binds isn't free in the part that it binds it in: the
-- binders of an action in its predicate and what follows, those of `let` and `choice` in their body, those of `accept` on the right.
abbrev pub put : Assignment → Behaviour → Behaviour
put s stop = stop
put s (exit fields) = exit (map (put_in_exit s) fields)
put s (inner b) = inner (put s b)
put s (action g fields guard b) =
    action g (map (put_in_field s) fields) (put_in_guard (without (accepted fields) s) guard) (put (without (accepted fields) s) b)
put s (choice b c) = choice (put s b) (put s c)
put s (guarded p b) = guarded (put_in_premise s p) (put s b)
put s (bound bindings b) = bound (map (put_in_binding s) bindings) (put (without (bound_variables bindings) s) b)
put s (value_choice x b) = value_choice x (put (without (x ∷ []) s) b)
put s (gate_choice g gates b) = gate_choice g gates (put s b)
put s (parallel gates b c) = parallel gates (put s b) (put s c)
put s (hide gates b) = hide gates (put s b)
put s (enable b xs c) = enable (put s b) xs (put (without xs s) c)
put s (disable b c) = disable (put s b) (put s c)
put s (call p gates terms) = call p gates (map (instance s) terms)
put s (relabel pairs b) = relabel pairs (put s b)

-- What is left under a relabelling. Two relabellings one over the other are one, and a call is relabelled in its gates; nothing else
-- is changed. (This profile.)
abbrev pub tidied : List Relabelling → Behaviour → Behaviour
tidied pairs (relabel before b) = tidied (after pairs before) b
tidied pairs (call p gates terms) = call p (map (renamed pairs) gates) terms
tidied pairs b = relabel pairs b
