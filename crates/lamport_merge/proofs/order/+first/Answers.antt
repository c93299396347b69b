use Rattle.std.proofs.Common.{rules, ◌≡◌, List, ◌∷◌, drop, true, false, sym, subst, ◌+◌, suc, arith}
use Rattle.ring_rules.specs.declared.event.Event.{Event as AnEvent}
use Rattle.lamport_merge.specs.Merge.{Log, Entry, PartiesDiffer, is_before}
use Rattle.lamport_merge.specs.Next.{IsFirstAt}
use Rattle.lamport_merge.specs.Logs.{left_of}
use Rattle.lamport_merge.proofs.Nexts.{only_first, sooner_first, later_first}
use Rattle.lamport_merge.proofs.order.+first.Goals as goal

pub returns-in-None-later-clause-first : goal.returns-in-None-later-clause-first
returns-in-None-later-clause-first t c =
    let l : Log AnEvent = record { party = c.party.result; entries = drop c.in-Some-split_first.next.now c.in-Some.log.now.entries } in
    let ls : List (Log AnEvent) = left_of c.in-Some.logs.now c.in-Some-split_first.nexts.now in
    let whole : left_of c.args.logs.now c.args.nexts.now ≡ l ∷ ls = search rules in
    let e = c.in-Some-next_time.ensures in
    (e.0, subst (λ all. IsFirstAt 0 (record { time = c.in-Some-next_time.time; party = c.party.result; event = e.0 }) all) (sym whole) (only_first l ls c.in-Some-next_time.time e.0 e.1 e.2 c.in-None-later.ensures.first))

pub returns-then-is_sooner-clause-first : goal.returns-then-is_sooner-clause-first
returns-then-is_sooner-clause-first t c =
    let l : Log AnEvent = record { party = c.party-then-is_sooner.result; entries = drop c.in-Some-split_first.next.now c.in-Some.log.now.entries } in
    let ls : List (Log AnEvent) = left_of c.in-Some.logs.now c.in-Some-split_first.nexts.now in
    let whole : left_of c.args.logs.now c.args.nexts.now ≡ l ∷ ls = search rules in
    let e = c.in-Some-next_time.ensures in
    let f = c.in-Some-later-2.ensures.first in
    let y : Entry AnEvent = record { time = c.in-Some-later-2.other; party = c.in-Some-later-2.party; event = f.0 } in
    let sooner : is_before (record { time = c.in-Some-next_time.time; party = c.party-then-is_sooner.result; event = e.0 }) y ≡ true = search rules in
    (e.0, subst (λ all. IsFirstAt 0 (record { time = c.in-Some-next_time.time; party = c.party-then-is_sooner.result; event = e.0 }) all) (sym whole) (sooner_first l ls c.in-Some-later-2.place c.in-Some-next_time.time e.0 e.1 y e.2 f.1 sooner))

pub returns-else-is_sooner-clause-first : goal.returns-else-is_sooner-clause-first
returns-else-is_sooner-clause-first t c =
    let l : Log AnEvent = record { party = c.in-Some.log.now.party; entries = drop c.in-Some-split_first.next.now c.in-Some.log.now.entries } in
    let ls : List (Log AnEvent) = left_of c.in-Some.logs.now c.in-Some-split_first.nexts.now in
    let whole : left_of c.args.logs.now c.args.nexts.now ≡ l ∷ ls = search rules in
    let e = c.in-Some-next_time.ensures in
    let f = c.in-Some-later-2.ensures.first in
    let y : Entry AnEvent = record { time = c.in-Some-later-2.other; party = c.in-Some-later-2.party; event = f.0 } in
    let later : is_before (record { time = c.in-Some-next_time.time; party = c.in-Some.log.now.party; event = e.0 }) y ≡ false = search rules in
    let differ : PartiesDiffer (l ∷ ls) = subst PartiesDiffer whole c.requires.parties in
    let on : suc c.in-Some-later-2.place ≡ c.in-Some-later-2.place + 1 = omega arith in
    let at = later_first l ls c.in-Some-later-2.place c.in-Some-next_time.time e.0 e.1 y e.2 differ.0 f.1 later in
    (f.0, subst (λ all. IsFirstAt (c.in-Some-later-2.place + 1) y all) (sym whole) (subst (λ i. IsFirstAt i y (l ∷ ls)) on at))
