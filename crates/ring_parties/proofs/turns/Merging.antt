-- Logs of deeds, without what was done to links, are logs of events, and so is their merge.
use Rattle.std.proofs.Common.{◌≡◌, ℕ, List, [], ◌∷◌, ◌++◌, map, refl, sym, ap, ◌∙◌}
use Rattle.std.specs.List.{flat_map}
use Rattle.std.proofs.lemmas.List.{map-append}
use Rattle.ring_rules.specs.declared.event.Event.{Event}
use Rattle.lamport_merge.specs.Merge.{Entry, Log, entries_of, entries_in, in_order, merged, events_of, RiseAbove, IsNoneOf, AreLogs}
use Rattle.lamport_merge.proofs.Merging.{strip, strip_in_order}
use Rattle.ring_parties.specs.Round.{Deed, events_in}

-- an entry of a log, as an event at its time
abbrev pub event_at : ℕ × Deed → ℕ × Event
event_at e = (e.0, e.1.event)

-- a log, as one of events
abbrev pub event_log : Log Deed → Log Event
event_log l = record { party = l.party; entries = map event_at l.entries }

-- what is left of an entry of a merge
abbrev told_event : Deed → Event
told_event d = d.event

entries_told : (p : ℕ) (es : List (ℕ × Deed)) → entries_of p (map event_at es) ≡ map (strip told_event) (entries_of p es)
entries_told p [] = refl
entries_told p (e ∷ es) = ap (λ xs. record { time = e.0; party = p; event = e.1.event } ∷ xs) (entries_told p es)

all_told : (logs : List (Log Deed)) → flat_map entries_in (map event_log logs) ≡ map (strip told_event) (flat_map entries_in logs)
all_told [] = refl
all_told (l ∷ ls) =
    ap (λ xs. xs ++ flat_map entries_in (map event_log ls)) (entries_told l.party l.entries) ∙ ap (λ xs. map (strip told_event) (entries_in l) ++ xs) (all_told ls)
    ∙ sym (map-append (strip told_event) (entries_in l) (flat_map entries_in ls))

events_told : (es : List (Entry Deed)) → events_of (map (strip told_event) es) ≡ events_in es
events_told [] = refl
events_told (e ∷ es) = ap (λ xs. e.event.event ∷ xs) (events_told es)

-- the merge of logs of events is that of the deeds
pub merge_told : (logs : List (Log Deed)) → events_of (merged (map event_log logs)) ≡ events_in (merged logs)
merge_told logs = ap (λ es. events_of (in_order es)) (all_told logs) ∙ ap events_of (sym (strip_in_order told_event (flat_map entries_in logs))) ∙ events_told (merged logs)

-- ---- the logs of a round

rise_told : (low : ℕ) (es : List (ℕ × Deed)) → RiseAbove low (map event_at es) → RiseAbove low es
rise_told low [] h = tt
rise_told low (e ∷ es) h = (h.0, rise_told e.0 es h.1)

none_told : (p : ℕ) (ls : List (Log Deed)) → IsNoneOf p (map event_log ls) → IsNoneOf p ls
none_told p [] h = tt
none_told p (l ∷ ls) h = (h.0, none_told p ls h.1)

pub are_told : (ls : List (Log Deed)) → AreLogs (map event_log ls) → AreLogs ls
are_told [] h = tt
are_told (l ∷ ls) h = (rise_told 0 l.entries h.0, none_told l.party ls h.1, are_told ls h.2)
