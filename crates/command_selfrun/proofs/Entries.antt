-- One entry more.
use Rattle.std.proofs.Common.{ℕ, ◌≡◌, ◌<◌, ◌+◌, ap, sym, ◌∙◌, List, [], ◌∷◌, ◌++◌, length, map, take, get_or, add-one}
use Rattle.std.proofs.Math.Seq.{take-suc}
use Rattle.std.proofs.lemmas.List.{map-append}
use Rattle.std.proofs.lemmas.List.Sums.{sum_by_push}
use Rattle.rule_model.specs.declared.log.Entry.{Entry}
use Rattle.rule_model.specs.Events.{Event, event_of}
use Rattle.command_selfrun.specs.declared.counts.Counts.{Counts}
use Rattle.command_selfrun.specs.Tallies.{counts_in, counts_of, plus}

abbrev of_four : ℕ → ℕ → ℕ → ℕ → Counts
of_four a t i o = record { actions = a; taken = t; internal = i; other = o }

alike : (a t i o b u j p : ℕ) → a ≡ b → t ≡ u → i ≡ j → o ≡ p → of_four a t i o ≡ of_four b u j p
alike a t i o b u j p e f g h =
    ap (λ x. of_four x t i o) e ∙ ap (λ x. of_four b x i o) f ∙ ap (λ x. of_four b u x o) g ∙ ap (λ x. of_four b u j x) h

event_more : (log : List Event) (event : Event) → counts_of (log ++ event ∷ []) ≡ plus (counts_of log) (counts_in event)
event_more log event =
    alike _ _ _ _ _ _ _ _ (sum_by_push (λ e. (counts_in e).actions) log event) (sum_by_push (λ e. (counts_in e).taken) log event)
    (sum_by_push (λ e. (counts_in e).internal) log event) (sum_by_push (λ e. (counts_in e).other) log event)

pub counted_more : (entries : List Entry) (i : ℕ) (x : Entry) (old new : Counts) → i < length entries → x ≡ get_or entries i x →
    old ≡ counts_of (map event_of (take i entries)) → new ≡ plus old (counts_in (event_of x)) →
    new ≡ counts_of (map event_of (take (i + 1) entries))
counted_more entries i x old new within at before counted =
    counted
    ∙ ap (λ c. plus c (counts_in (event_of x))) before
    ∙ sym (event_more (map event_of (take i entries)) (event_of x))
    ∙ ap counts_of (sym (map-append event_of (take i entries) (x ∷ [])))
    ∙ ap (λ y. counts_of (map event_of (take i entries ++ y ∷ []))) at
    ∙ ap (λ es. counts_of (map event_of es)) (sym (take-suc entries i x within))
    ∙ ap (λ k. counts_of (map event_of (take k entries))) (sym (add-one i))
