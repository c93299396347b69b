use Rattle.std.proofs.Common.{rules, ◌≡◌, ◌<◌, ◌+◌, ◌∷◌, ◌++◌, [], length, get_or, set, false, nat_lt, sym, ap, subst, ◌∙◌}
use Rattle.std.specs.Prelude.{replicate}
use Rattle.std.specs.List.{flat_map}
use Rattle.std.proofs.lemmas.List.{length-set, length-replicate}
use Rattle.ring_rules.specs.declared.event.Event.{Event as AnEvent}
use Rattle.lamport_merge.specs.Merge.{Entry, merged, events_of, entries_in, AreLogs, PartiesDiffer}
use Rattle.lamport_merge.specs.Next.{IsFirstAt, NothingIsLeft, dropped}
use Rattle.lamport_merge.specs.Logs.{logs_of, left_of}
use Rattle.lamport_merge.proofs.Nexts.{next_less, dropped_are, there_event}
use Rattle.lamport_merge.proofs.Rising.{are_differ}
use Rattle.lamport_merge.proofs.Steps.{all_left, next_there, next_step, merged_more, all_merged, never_past}
use Rattle.lamport_merge.proofs.order.merge.Goals as goal

pub each-init : goal.each-init
each-init c =
    let zero : c.in_ok-nexts.nexts.items ≡ replicate (length c.args.logs.now) 0 = search rules in
    let all : left_of c.args.logs.now c.in_ok-nexts.nexts.items ≡ logs_of c.args.logs.now = all_left c.args.logs.now c.in_ok-nexts.nexts.items zero in
    let none : c.new-events.result.items ≡ [] = search rules in
    (ap length zero ∙ length-replicate (length c.args.logs.now) 0, subst AreLogs (sym all) c.tell.ensures, ap (λ es. es ++ events_of (merged (left_of c.args.logs.now c.in_ok-nexts.nexts.items))) none ∙ ap (λ rs. events_of (merged rs)) all)

pub first-requires-clause-parties : goal.first-requires-clause-parties
first-requires-clause-parties c =
    subst (λ ns. PartiesDiffer (left_of c.args.logs.now ns)) (sym c.deref.ensures.value) (are_differ (left_of c.args.logs.now c.each.nexts.items) c.each.invariant.1)

pub returns-in_default-clause-merged : goal.returns-in_default-clause-merged
returns-in_default-clause-merged c = all_merged c.each.events.items (events_of (merged (logs_of c.args.logs.now))) (left_of c.args.logs.now c.each.nexts.items) (subst (λ ns. NothingIsLeft (left_of c.args.logs.now ns)) c.deref.ensures.value c.in_default.ensures.first) c.each.invariant.2

pub unreachable-requires : goal.unreachable-requires
unreachable-requires c =
    let f = c.in-Some.ensures.first in
    let x : Entry AnEvent = record { time = c.in-Some.field-0-1; party = c.in-Some.field-0-2; event = f.0 } in
    let at : IsFirstAt c.in-Some.place x (left_of c.args.logs.now c.each.nexts.items) = subst (λ ns. IsFirstAt c.in-Some.place x (left_of c.args.logs.now ns)) c.deref.ensures.value f.1 in
    let here : c.index-logs-place.result ≡ get_or c.args.logs.now c.in-Some.place c.index-logs-place.result = search rules in
    let t = next_there c.args.logs.now c.each.nexts.items c.in-Some.place c.index.result.now x c.index-logs-place.result at c.each.invariant.0 c.index.ensures here in
    let same : c.entries.result.now ≡ c.index-logs-place.result.entries = c.entries.ensures.value in
    let past : false ≡ nat_lt c.index.result.now (length c.entries.result.now) = search rules in
    never_past c.index-logs-place.result.entries c.entries.result.now t.0 c.index.result.now x.time x.event same t.1 past

pub each-smaller : goal.each-smaller
each-smaller c =
    let f = c.in-Some.ensures.first in
    let x : Entry AnEvent = record { time = c.in-Some.field-0-1; party = c.in-Some.field-0-2; event = f.0 } in
    let at : IsFirstAt c.in-Some.place x (left_of c.args.logs.now c.each.nexts.items) = subst (λ ns. IsFirstAt c.in-Some.place x (left_of c.args.logs.now ns)) c.deref.ensures.value f.1 in
    let value : c.index_mut.result.now ≡ get_or c.each.nexts.items c.in-Some.place c.index_mut.result.now = search rules in
    let on : left_of c.args.logs.now (set c.each.nexts.items c.in-Some.place (c.index_mut.result.now + 1)) ≡ dropped c.in-Some.place (left_of c.args.logs.now c.each.nexts.items) =
    next_step c.args.logs.now c.each.nexts.items c.in-Some.place c.index_mut.result.now c.in-Some.ensures.within c.each.invariant.0 value in
    subst (λ rs. length (flat_map entries_in rs) < length (flat_map entries_in (left_of c.args.logs.now c.each.nexts.items))) (sym on) (next_less c.in-Some.place x (left_of c.args.logs.now c.each.nexts.items) c.each.invariant.1 at)

pub each-preserved : goal.each-preserved
each-preserved c =
    let f = c.in-Some.ensures.first in
    let x : Entry AnEvent = record { time = c.in-Some.field-0-1; party = c.in-Some.field-0-2; event = f.0 } in
    let at : IsFirstAt c.in-Some.place x (left_of c.args.logs.now c.each.nexts.items) = subst (λ ns. IsFirstAt c.in-Some.place x (left_of c.args.logs.now ns)) c.deref.ensures.value f.1 in
    let here : c.index-logs-place.result ≡ get_or c.args.logs.now c.in-Some.place c.index-logs-place.result = search rules in
    let t = next_there c.args.logs.now c.each.nexts.items c.in-Some.place c.index.result.now x c.index-logs-place.result at c.each.invariant.0 c.index.ensures here in
    let same : c.entries.result.now ≡ c.index-logs-place.result.entries = c.entries.ensures.value in
    let found : c.in-Some-get.entry.now ≡ get_or c.entries.result.now c.index.result.now c.in-Some-get.entry.now = search rules in
    let event : c.in-Some-get.entry.now.1 ≡ x.event = there_event c.index-logs-place.result.entries t.0 c.index.result.now x.time x.event c.in-Some-get.entry.now t.1 (found ∙ ap (λ es. get_or es c.index.result.now c.in-Some-get.entry.now) same) in
    let copy : c.in_ok-copy.copy ≡ c.in-Some-get.entry.now.1 = search rules in
    let pushed : c.push.new.self.items ≡ c.each.events.items ++ c.in_ok-copy.copy ∷ [] = search rules in
    let value : c.index_mut.result.now ≡ get_or c.each.nexts.items c.in-Some.place c.index_mut.result.now = search rules in
    let rs = left_of c.args.logs.now c.each.nexts.items in
    let on : left_of c.args.logs.now (set c.each.nexts.items c.in-Some.place (c.index_mut.result.now + 1)) ≡ dropped c.in-Some.place rs =
    next_step c.args.logs.now c.each.nexts.items c.in-Some.place c.index_mut.result.now c.in-Some.ensures.within c.each.invariant.0 value in (
      length-set c.each.nexts.items c.in-Some.place (c.index_mut.result.now + 1) ∙ c.each.invariant.0,
      subst AreLogs (sym on) (dropped_are c.in-Some.place rs c.each.invariant.1),
      ap (λ es. es ++ events_of (merged (left_of c.args.logs.now (set c.each.nexts.items c.in-Some.place (c.index_mut.result.now + 1))))) pushed
          ∙ ap (λ ks. (c.each.events.items ++ c.in_ok-copy.copy ∷ []) ++ events_of (merged ks)) on
          ∙ merged_more c.each.events.items (events_of (merged (logs_of c.args.logs.now))) c.in_ok-copy.copy c.in-Some.place x rs c.each.invariant.1 at (copy ∙ event) c.each.invariant.2,
    )
