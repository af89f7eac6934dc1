-- What stops say.
use Rattle.std.proofs.Common.{ℕ, ◌≡◌, List, Result, Err, IfErr, sym, subst}
use Rattle.spec_core.specs.Terms.{TermTree, term_of}
use Rattle.spec_core.specs.Theories.{Theory}
use Rattle.node_values.specs.declared.stop.Stop.{Stop}
use Rattle.node_values.specs.declared.stop.Stop.TheVariants.{Spent, TooLarge, Wide, Memory}
use Rattle.node_values.specs.Stops.{Stops}

-- want of memory explains itself
pub memory : (theory : Theory) (budget : ℕ) (A : TermTree → Type 0) (W : ℕ → Type 0) (s : Stop) → s ≡ Memory → Stops theory budget A W s
memory theory budget A W s is = subst (Stops theory budget A W) (sym is) (record { spent = tt; too_large = tt; wide = tt })

pub stops_on : (theory : Theory) (budget : ℕ) (A B : TermTree → Type 0) (V W : ℕ → Type 0) (s : Stop) → ((x : TermTree) → A x → B x) →
    ((n : ℕ) → V n → W n) → Stops theory budget A V s → Stops theory budget B W s
stops_on theory budget A B V W (Spent term) a v h =
    record { spent = (a (term_of term) h.spent.0, h.spent.1); too_large = tt; wide = tt }
stops_on theory budget A B V W (TooLarge term) a v h =
    record { spent = tt; too_large = (a (term_of term) h.too_large.0, h.too_large.1); wide = tt }
stops_on theory budget A B V W (Wide n) a v h = record { spent = tt; too_large = tt; wide = v n h.wide }
stops_on theory budget A B V W Memory a v h = record { spent = tt; too_large = tt; wide = tt }

-- a stop that is handed on
pub handed_on : {A : Type 0} (r : Result A Stop) (P : Stop → Type 0) (s : Stop) → r ≡ Err s → P s → IfErr r P
handed_on {A} r P s is h = subst (λ (q : Result A Stop). IfErr q P) (sym is) h
