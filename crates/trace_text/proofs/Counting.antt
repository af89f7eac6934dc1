-- One entry more.
use Rattle.std.proofs.Common.{ℕ, ◌≡◌, ◌<◌, ◌+◌, ap, sym, ◌∙◌, List, [], ◌∷◌, ◌++◌, length, map, take, get_or, add-one}
use Rattle.std.proofs.Math.Seq.{take-suc}
use Rattle.std.proofs.lemmas.List.{map-append}
use Rattle.std.proofs.lemmas.List.Sums.{sum_by_push}
use Rattle.rule_model.specs.declared.log.Entry.{Entry}
use Rattle.rule_model.specs.Events.{Event, event_of}
use Rattle.trace_text.specs.Formats.{actions_in, actions_of}

-- the events of one entry more
pub events_more : (entries : List Entry) (i : ℕ) (x : Entry) → i < length entries → x ≡ get_or entries i x →
    map event_of (take (i + 1) entries) ≡ map event_of (take i entries) ++ event_of x ∷ []
events_more entries i x within at =
    ap (λ k. map event_of (take k entries)) (add-one i)
    ∙ ap (map event_of) (take-suc entries i x within)
    ∙ ap (λ y. map event_of (take i entries ++ y ∷ [])) (sym at)
    ∙ map-append event_of (take i entries) (x ∷ [])

pub actions_more : (entries : List Entry) (i : ℕ) (x : Entry) (old new : ℕ) → i < length entries → x ≡ get_or entries i x →
    old ≡ actions_in (map event_of (take i entries)) → new ≡ old + actions_of (event_of x) →
    new ≡ actions_in (map event_of (take (i + 1) entries))
actions_more entries i x old new within at before counted =
    counted ∙ ap (λ n. n + actions_of (event_of x)) before
    ∙ sym (sum_by_push actions_of (map event_of (take i entries)) (event_of x))
    ∙ ap actions_in (sym (events_more entries i x within at))
