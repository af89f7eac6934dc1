-- Why what clients wish comes to no offers. Want of memory is free.
use Rattle.std.specs.Prelude.{ℕ, ◌≡◌, List}
use Rattle.spec_core.specs.Budgets.{IsBeyond}
use Rattle.spec_core.specs.Terms.{TermTree, term_of}
use Rattle.spec_core.specs.Theories.{Theory}
use Rattle.rewriter.specs.Answers.{MeetsTooLarge}
use Rattle.script_offers.specs.declared.fault.WishFault.{WishFault}
use Rattle.script_offers.specs.declared.fault.WishFault.TheVariants.{Spent, TooLarge, Memory}
use Rattle.script_offers.specs.Given.{IsFirstWithout}

-- the fault tells why this term has no value
abbrev pub HasNoValue : Theory → ℕ → TermTree → WishFault → Type 0
HasNoValue theory budget t (Spent x) = (term_of x ≡ t) × IsBeyond theory (term_of x) budget
HasNoValue theory budget t (TooLarge x) = (term_of x ≡ t) × MeetsTooLarge theory (term_of x)
HasNoValue theory budget t Memory = Unit {0}

-- The fault tells the first of these terms for which no value is found, and why.
--   spent: it takes more uses of equations than the budget;
--   too large: its evaluation meets a value that is too large.
abbrev pub IsFaultOf : Theory → ℕ → List TermTree → WishFault → Type 0
IsFaultOf theory budget terms (Spent x) = IsFirstWithout theory budget terms (term_of x) × IsBeyond theory (term_of x) budget
IsFaultOf theory budget terms (TooLarge x) = IsFirstWithout theory budget terms (term_of x) × MeetsTooLarge theory (term_of x)
IsFaultOf theory budget terms Memory = Unit {0}
