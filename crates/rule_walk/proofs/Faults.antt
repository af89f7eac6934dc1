-- What faults say.
use Rattle.std.proofs.Common.{ℕ, ◌≡◌, List, [], Result, Err, IfErr, refl, sym, subst}
use Rattle.spec_core.specs.Terms.{TermTree}
use Rattle.spec_core.specs.Theories.{Theory}
use Rattle.rule_walk.specs.declared.fault.FireFault.{FireFault}
use Rattle.rule_walk.specs.declared.fault.FireFault.TheVariants.{Unfit, Spent, TooLarge, Memory}
use Rattle.rule_walk.specs.Faults.{Explains, Here, IsMisfit}

-- want of memory explains itself
pub memory : (theory : Theory) (budget : ℕ) (U : List ℕ → Type 0) (A : TermTree → Type 0) (f : FireFault) → f ≡ Memory →
    Explains theory budget U A f
memory theory budget U A f is = subst (Explains theory budget U A) (sym is) (record { unfit = tt; spent = tt; too_large = tt })

pub explains_on : (theory : Theory) (budget : ℕ) (U V : List ℕ → Type 0) (A B : TermTree → Type 0) (f : FireFault) →
    ((path : List ℕ) → U path → V path) → ((x : TermTree) → A x → B x) → Explains theory budget U A f → Explains theory budget V B f
explains_on theory budget U V A B (Unfit at) u a h = record { unfit = u at.items h.unfit; spent = tt; too_large = tt }
explains_on theory budget U V A B (Spent term) u a h = record { unfit = tt; spent = (a _ h.spent.0, h.spent.1); too_large = tt }
explains_on theory budget U V A B (TooLarge term) u a h =
    record { unfit = tt; spent = tt; too_large = (a _ h.too_large.0, h.too_large.1) }
explains_on theory budget U V A B Memory u a h = record { unfit = tt; spent = tt; too_large = tt }

-- a fault that is handed on
pub handed_on : {A : Type 0} (r : Result A FireFault) (P : FireFault → Type 0) (f : FireFault) → r ≡ Err f → P f → IfErr r P
handed_on {A} r P f is h = subst (λ (q : Result A FireFault). IfErr q P) (sym is) h

pub misfit_on : (P Q : Type 0) (f : FireFault) → (P → Q) → IsMisfit P f → IsMisfit Q f
misfit_on P Q (Unfit at) k h = (h.0, k h.1)
misfit_on P Q (Spent term) k h = absurd h
misfit_on P Q (TooLarge term) k h = absurd h
misfit_on P Q Memory k h = tt

pub misfit_explains : (theory : Theory) (budget : ℕ) (P : Type 0) (U : List ℕ → Type 0) (A : TermTree → Type 0) (f : FireFault) →
    (P → U []) → IsMisfit P f → Explains theory budget U A f
misfit_explains theory budget P U A (Unfit at) k h =
    record { unfit = subst U (sym h.0) (k h.1); spent = tt; too_large = tt }
misfit_explains theory budget P U A (Spent term) k h = absurd h
misfit_explains theory budget P U A (TooLarge term) k h = absurd h
misfit_explains theory budget P U A Memory k h = record { unfit = tt; spent = tt; too_large = tt }

-- the rule at the root doesn't fit, since no step is there
pub here_explains : (theory : Theory) (budget : ℕ) (P : Type 0) (A : TermTree → Type 0) (f : FireFault) →
    IsMisfit (Unit {0}) f → P → Explains theory budget (Here P) A f
here_explains theory budget P A f here p = misfit_explains theory budget (Unit {0}) (Here P) A f (λ u. (refl, p)) here
