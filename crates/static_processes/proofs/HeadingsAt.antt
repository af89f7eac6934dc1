-- The headings of numbers.
use Rattle.std.proofs.Common.{ℕ, ◌≡◌, ◌∙◌, ◌≤◌, refl, sym, ap, List, [], ◌∷◌, ◌++◌, length, map, Bool, true, false, Some, None, if◌then◌else◌}
use Rattle.std.specs.List.{slice_get, cons_option}
use Rattle.std.specs.Prelude.{option_map}
use Rattle.std.proofs.lemmas.List.Elements.{filter_map-append}
use Rattle.std.proofs.lemmas.Option.{slice_get-map, slice_get_past}
use Rattle.static_readings.specs.declared.heading.Heading.{Heading}
use Rattle.static_readings.specs.Sites as sites
use Rattle.static_readings.specs.Views.{heading_of}
use Rattle.static_processes.specs.Processes.{Entry, standing_in, visible_in}
use Rattle.static_processes.specs.NamedParts.{headings_at, processes_within, AreNamedPartsOf}
use Rattle.static_processes.specs.declared.named_parts.NamedParts.{NamedParts}

pub headings_both : (headings : List sites.Heading) (ns ms : List ℕ) → headings_at headings (ns ++ ms) ≡ headings_at headings ns ++ headings_at headings ms
headings_both headings = filter_map-append (λ n. slice_get headings n)

-- there is no heading of a number past the last
pub no_heading : (headings : List Heading) (b : Bool) (n : ℕ) → length headings ≤ n → headings_at (map heading_of headings) (if b then n ∷ [] else []) ≡ []
no_heading headings true n past = ap (λ o. cons_option o []) (slice_get-map heading_of headings n ∙ ap (option_map heading_of) (slice_get_past headings n past))
no_heading headings false n past = refl

pub visible_by : (parts : NamedParts) (headings : List sites.Heading) (table : List Entry) (around : List ℕ) → AreNamedPartsOf parts headings table
    → processes_within parts around ≡ headings_at headings (visible_in table around)
visible_by parts headings table [] are = are None
visible_by parts headings table (p ∷ around) are =
    ap (λ hs. hs ++ processes_within parts around) (are (Some p))
    ∙ ap (λ hs. headings_at headings (standing_in table (Some p)) ++ hs) (visible_by parts headings table around are)
    ∙ sym (headings_both headings (standing_in table (Some p)) (visible_in table around))
