use Rattle.std.proofs.Common.{◌≡◌, ◌+◌, ◌<◌, ◌≤◌, ◌++◌, length, sym, ap, subst, ◌∙◌, arith}
use Rattle.std.specs.Prelude.{replicate}
use Rattle.std.specs.List.{flat_map}
use Rattle.std.specs.Vec.{vec_len, vec_capacity}
use Rattle.std.proofs.lemmas.List.{length-set, length-replicate}
use Rattle.ring_rules.specs.declared.event.Event.{Event as AnEvent}
use Rattle.lamport_merge.specs.Merge.{Entry, merged, events_of, entries_in, AreLogs, PartiesDiffer}
use Rattle.lamport_merge.specs.Next.{IsFirstAt, NothingIsLeft, dropped}
use Rattle.lamport_merge.specs.Logs.{GatheredSeen, logs_of, left_of}
use Rattle.lamport_merge.proofs.Nexts.{next_less, dropped_are}
use Rattle.lamport_merge.proofs.Rising.{are_differ}
use Rattle.lamport_merge.proofs.Steps.{all_left, merged_more, all_merged}
use Rattle.lamport_merge.proofs.Moves.{next_within, taken_step, entries_count}
use Rattle.lamport_merge.proofs.gathered.Gathered.merge_behind.Goals as goal

pub each-init : goal.each-init
each-init c =
    let seen : logs_of c.self.inside.logs.items ≡ c.args.self.logs = ap (λ (g : GatheredSeen). g.logs) c.self.view_is in
    let zero : c.self.inside.nexts.items ≡ replicate (length c.self.inside.logs.items) 0 = c.self.invariant in
    let all : left_of c.self.inside.logs.items c.self.inside.nexts.items ≡ logs_of c.self.inside.logs.items = all_left c.self.inside.logs.items c.self.inside.nexts.items zero in
    let are : AreLogs (logs_of c.self.inside.logs.items) = subst (λ ls. AreLogs (logs_of ls)) c.deref.ensures.value c.tell.ensures in
    let count = ap (λ rs. length (flat_map entries_in rs)) (all ∙ seen) ∙ entries_count c.args.self.logs in (
      ap length zero ∙ length-replicate (length c.self.inside.logs.items) 0,
      subst AreLogs (sym all) are,
      ap (λ rs. c.args.events.now.items ++ events_of (merged rs)) (all ∙ seen),
      subst (λ n. vec_len c.args.events.now + n ≤ vec_capacity c.args.events.now) (sym count) c.requires.room,
    )

pub first-requires-clause-parties : goal.first-requires-clause-parties
first-requires-clause-parties c =
    let here : left_of c.deref-in-each.result.now c.deref-in-each-2.result.now ≡ left_of c.each.logs.items c.each.nexts.items =
    ap (λ ls. left_of ls c.deref-in-each-2.result.now) c.deref-in-each.ensures.value ∙ ap (left_of c.each.logs.items) c.deref-in-each-2.ensures.value in
    subst PartiesDiffer (sym here) (are_differ (left_of c.each.logs.items c.each.nexts.items) c.each.invariant.1)

pub returns-in_default-clause-merged : goal.returns-in_default-clause-merged
returns-in_default-clause-merged c =
    let here : left_of c.deref-in-each.result.now c.deref-in-each-2.result.now ≡ left_of c.each.logs.items c.each.nexts.items =
    ap (λ ls. left_of ls c.deref-in-each-2.result.now) c.deref-in-each.ensures.value ∙ ap (left_of c.each.logs.items) c.deref-in-each-2.ensures.value in
    all_merged c.each.events.items (c.args.events.now.items ++ events_of (merged c.args.self.logs)) (left_of c.each.logs.items c.each.nexts.items) (subst NothingIsLeft here c.in_default.ensures.first) c.each.invariant.2

pub take_next-event-requires : goal.take_next-event-requires
take_next-event-requires c =
    let here : left_of c.deref-in-each.result.now c.deref-in-each-2.result.now ≡ left_of c.each.logs.items c.each.nexts.items =
    ap (λ ls. left_of ls c.deref-in-each-2.result.now) c.deref-in-each.ensures.value ∙ ap (left_of c.each.logs.items) c.deref-in-each-2.ensures.value in
    let f = c.in-Some.ensures.first in
    let x : Entry AnEvent = record { time = c.in-Some.field-0-1; party = c.in-Some.field-0-2; event = f.0 } in
    let at : IsFirstAt c.in-Some.place x (left_of c.each.logs.items c.each.nexts.items) = subst (IsFirstAt c.in-Some.place x) here f.1 in
    next_within c.each.logs.items c.each.nexts.items c.in-Some.place c.index_mut-in-each.result.now x c.index_mut.result.now at c.each.invariant.0 c.index_mut-in-each.ensures.value c.index_mut.ensures.value

pub push_reserved-requires : goal.push_reserved-requires
push_reserved-requires c =
    let here : left_of c.deref-in-each.result.now c.deref-in-each-2.result.now ≡ left_of c.each.logs.items c.each.nexts.items =
    ap (λ ls. left_of ls c.deref-in-each-2.result.now) c.deref-in-each.ensures.value ∙ ap (left_of c.each.logs.items) c.deref-in-each-2.ensures.value in
    let f = c.in-Some.ensures.first in
    let x : Entry AnEvent = record { time = c.in-Some.field-0-1; party = c.in-Some.field-0-2; event = f.0 } in
    let at : IsFirstAt c.in-Some.place x (left_of c.each.logs.items c.each.nexts.items) = subst (IsFirstAt c.in-Some.place x) here f.1 in
    omega (arith, next_less c.in-Some.place x (left_of c.each.logs.items c.each.nexts.items) c.each.invariant.1 at, c.each.invariant.3)

pub each-smaller : goal.each-smaller
each-smaller c =
    let here : left_of c.deref-in-each.result.now c.deref-in-each-2.result.now ≡ left_of c.each.logs.items c.each.nexts.items =
    ap (λ ls. left_of ls c.deref-in-each-2.result.now) c.deref-in-each.ensures.value ∙ ap (left_of c.each.logs.items) c.deref-in-each-2.ensures.value in
    let f = c.in-Some.ensures.first in
    let x : Entry AnEvent = record { time = c.in-Some.field-0-1; party = c.in-Some.field-0-2; event = f.0 } in
    let at : IsFirstAt c.in-Some.place x (left_of c.each.logs.items c.each.nexts.items) = subst (IsFirstAt c.in-Some.place x) here f.1 in
    let inside : c.in-Some.place < length c.each.logs.items = subst (λ ls. c.in-Some.place < length ls) c.deref-in-each.ensures.value c.in-Some.ensures.within in
    let k = taken_step c.each.logs.items c.each.nexts.items c.in-Some.place c.index_mut-in-each.result.now c.take_next-event.new.next x c.index_mut.result.now c.take_next-event.new.self c.take_next-event.ensures.event.0 c.take_next-event.result at inside c.each.invariant.0 c.index_mut-in-each.ensures.value c.take_next-event.ensures.next c.index_mut.ensures.value c.take_next-event.ensures.party c.take_next-event.ensures.event.1 in
    subst (λ rs. length (flat_map entries_in rs) < length (flat_map entries_in (left_of c.each.logs.items c.each.nexts.items))) (sym k.0) (next_less c.in-Some.place x (left_of c.each.logs.items c.each.nexts.items) c.each.invariant.1 at)

pub each-preserved : goal.each-preserved
each-preserved c =
    let here : left_of c.deref-in-each.result.now c.deref-in-each-2.result.now ≡ left_of c.each.logs.items c.each.nexts.items =
    ap (λ ls. left_of ls c.deref-in-each-2.result.now) c.deref-in-each.ensures.value ∙ ap (left_of c.each.logs.items) c.deref-in-each-2.ensures.value in
    let f = c.in-Some.ensures.first in
    let x : Entry AnEvent = record { time = c.in-Some.field-0-1; party = c.in-Some.field-0-2; event = f.0 } in
    let at : IsFirstAt c.in-Some.place x (left_of c.each.logs.items c.each.nexts.items) = subst (IsFirstAt c.in-Some.place x) here f.1 in
    let inside : c.in-Some.place < length c.each.logs.items = subst (λ ls. c.in-Some.place < length ls) c.deref-in-each.ensures.value c.in-Some.ensures.within in
    let k = taken_step c.each.logs.items c.each.nexts.items c.in-Some.place c.index_mut-in-each.result.now c.take_next-event.new.next x c.index_mut.result.now c.take_next-event.new.self c.take_next-event.ensures.event.0 c.take_next-event.result at inside c.each.invariant.0 c.index_mut-in-each.ensures.value c.take_next-event.ensures.next c.index_mut.ensures.value c.take_next-event.ensures.party c.take_next-event.ensures.event.1 in
    let rs = left_of c.each.logs.items c.each.nexts.items in
    let less = next_less c.in-Some.place x rs c.each.invariant.1 at in
    let room : vec_len c.push_reserved.new.self + length (flat_map entries_in (dropped c.in-Some.place rs)) ≤ vec_capacity c.push_reserved.new.self =
    omega (arith, less, c.push_reserved.ensures.len, c.push_reserved.ensures.capacity, c.each.invariant.3) in (
      length-set c.each.nexts.items c.in-Some.place c.take_next-event.new.next ∙ c.each.invariant.0 ∙ sym (length-set c.each.logs.items c.in-Some.place c.take_next-event.new.self),
      subst AreLogs (sym k.0) (dropped_are c.in-Some.place rs c.each.invariant.1),
      ap (λ ks. c.push_reserved.new.self.items ++ events_of (merged ks)) k.0
          ∙ ap (λ es. es ++ events_of (merged (dropped c.in-Some.place rs))) c.push_reserved.ensures.items
          ∙ merged_more c.each.events.items (c.args.events.now.items ++ events_of (merged c.args.self.logs)) c.take_next-event.result c.in-Some.place x rs c.each.invariant.1 at k.1 c.each.invariant.2,
      subst (λ ks. vec_len c.push_reserved.new.self + length (flat_map entries_in ks) ≤ vec_capacity c.push_reserved.new.self) (sym k.0) room,
    )
