-- The words that are taken.
use Rattle.std.proofs.Common.{ℕ, ◌≡◌, List, ◌++◌, Option, Some, refl, subst}
use Rattle.rule_model.specs.declared.reply.LimitKind.TheVariants.{Steps, Spread, Offers}
use Rattle.trace_reader.specs.declared.rule_word.RuleWord.{RuleWord}
use Rattle.trace_reader.specs.declared.rule_word.RuleWord.TheVariants as rules
use Rattle.trace_reader.specs.declared.rule_word.Unary.TheVariants as unary
use Rattle.trace_reader.specs.declared.line_word.EntryWord.{EntryWord}
use Rattle.trace_reader.specs.declared.line_word.EntryWord.TheVariants as entries
use Rattle.trace_reader.specs.declared.line_word.ReplyWord.{ReplyWord}
use Rattle.trace_reader.specs.declared.line_word.ReplyWord.TheVariants as replies
use Rattle.trace_reader.specs.declared.line_word.EndWord.{EndWord}
use Rattle.trace_reader.specs.declared.line_word.EndWord.TheVariants as ends
use Rattle.trace_reader.specs.declared.line_word.TheConstants.{ENDS, ENTRIES, REPLIES}
use Rattle.trace_reader.specs.declared.rule_word.TheConstants.{RULES}
use Rattle.trace_reader.specs.Cursors.{Finds}
use Rattle.trace_reader.specs.LineWords.{ending_word, entry_word, reply_word}
use Rattle.trace_reader.specs.RuleWords.{rule_word}
use Rattle.trace_reader.specs.Words.{word, first_word, TakesFirst}

abbrev pub AnyWord : {W : Type 0} → W → Type 0
AnyWord w = Unit {0}

-- words that are told apart by how they begin
pub found : {W : Type 0} (text_of : W → List ℕ) (all : List W) → ((w : W) (rest : List ℕ) → first_word text_of all (Some (text_of w ++ rest)) ≡ word w rest) →
    (old new : Option (List ℕ)) (o : Option W) → TakesFirst (first_word text_of all old) old o new →
    Finds text_of (λ w. Unit {0}) (λ rest. Unit {0}) old new (λ w. o ≡ Some w)
found text_of all one old new o h w rest fits ends e =
    subst (λ f. TakesFirst f (Some (text_of w ++ rest)) o new) (one w rest)
    (subst (λ s. TakesFirst (first_word text_of all s) s o new) e h)

pub at_rule : (w : RuleWord) (rest : List ℕ) → first_word rule_word RULES (Some (rule_word w ++ rest)) ≡ word w rest
at_rule rules.Pre rest = refl
at_rule rules.Int rest = refl
at_rule rules.Exit rest = refl
at_rule rules.Val rest = refl
at_rule rules.Gate rest = refl
at_rule rules.Both rest = refl
at_rule (rules.Over unary.Chl) rest = refl
at_rule (rules.Over unary.Chr) rest = refl
at_rule (rules.Over unary.Guard) rest = refl
at_rule (rules.Over unary.Let) rest = refl
at_rule (rules.Over unary.Parl) rest = refl
at_rule (rules.Over unary.Parr) rest = refl
at_rule (rules.Over unary.Hide) rest = refl
at_rule (rules.Over unary.Pass) rest = refl
at_rule (rules.Over unary.Enstep) rest = refl
at_rule (rules.Over unary.Enend) rest = refl
at_rule (rules.Over unary.Disstep) rest = refl
at_rule (rules.Over unary.Disend) rest = refl
at_rule (rules.Over unary.Distake) rest = refl
at_rule (rules.Over unary.Call) rest = refl
at_rule (rules.Over unary.Rel) rest = refl

pub at_entry : (w : EntryWord) (rest : List ℕ) → first_word entry_word ENTRIES (Some (entry_word w ++ rest)) ≡ word w rest
at_entry entries.Pend rest = refl
at_entry entries.Ask rest = refl
at_entry entries.Act rest = refl
at_entry entries.Reply rest = refl
at_entry entries.Stall rest = refl
at_entry entries.Leave rest = refl

pub at_reply : (w : ReplyWord) (rest : List ℕ) → first_word reply_word REPLIES (Some (reply_word w ++ rest)) ≡ word w rest
at_reply replies.Deadlock rest = refl
at_reply replies.NotNow rest = refl
at_reply replies.Ended rest = refl
at_reply replies.Beyond rest = refl
at_reply replies.Spent rest = refl
at_reply replies.Large rest = refl
at_reply (replies.Limit Steps) rest = refl
at_reply (replies.Limit Spread) rest = refl
at_reply (replies.Limit Offers) rest = refl

pub at_end : (w : EndWord) (rest : List ℕ) → first_word ending_word ENDS (Some (ending_word w ++ rest)) ≡ word w rest
at_end ends.Exit rest = refl
at_end ends.Deadlock rest = refl
at_end ends.Waiting rest = refl
at_end ends.Beyond rest = refl
at_end ends.Spent rest = refl
at_end ends.Large rest = refl
at_end (ends.Limit Steps) rest = refl
at_end (ends.Limit Spread) rest = refl
at_end (ends.Limit Offers) rest = refl
