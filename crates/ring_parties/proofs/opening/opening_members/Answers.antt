use Rattle.std.proofs.Common.{◌≡◌, ℕ, ◌+◌, ◌-◌, ◌<◌, [], length, get_or, map, sym, ap, subst, ◌∙◌, arith}
use Rattle.std.specs.List.{range_with_len}
use Rattle.std.proofs.lemmas.List.{get_or_default}
use Rattle.group_view.specs.Change.{opening as opening_group}
use Rattle.group_view.specs.Ring.{is_in}
use Rattle.ring_rules.specs.View.{ids}
use Rattle.ordered_link.specs.Names.{PairName}
use Rattle.gm_member.specs.Held.{founded}
use Rattle.ring_parties.specs.Parties.{keeps_in, out_seen, in_seen}
use Rattle.ring_parties.specs.Keeps.{no_keeps}
use Rattle.ring_parties.specs.Opened.{two_ends}
use Rattle.ring_parties.proofs.lists.Lists.{grown}
use Rattle.ring_parties.proofs.standing.Begins.{opened_stands}
use Rattle.ring_parties.proofs.standing.Founding.{AreMade, none_made, made_more, all_made}
use Rattle.ring_parties.proofs.opening.opening_members.Goals as goal

pub loop-k-init : goal.loop-k-init
loop-k-init c = record {
  made = none_made c.args.credit c.args.names.now c.new-members.result.items c.in_ok-last.last c.in_ok-last.link c.new-members.ensures.items c.in_ok-last.ensures;
  keeps = ap (map keeps_in) c.new-members.ensures.items;
}

pub opening_node-requires-clause-stands : goal.opening_node-requires-clause-stands
opening_node-requires-clause-stands c = ap (λ g. is_in (c.loop-k.k + 1) (ids g)) c.requires.view ∙ opened_stands c.args.names.now c.loop-k.k (omega (arith, c.loop-k-test.true))

pub loop-k-preserved : goal.loop-k-preserved
loop-k-preserved c =
    let made = c.loop-k.invariant.made in
    let kl : c.loop-k.k < length c.args.names.now = omega (arith, c.loop-k-test.true) in
    let name : c.index-names-k.result ≡ get_or c.args.names.now c.loop-k.k [] = c.index-names-k.is ∙ get_or_default c.args.names.now c.loop-k.k c.index-names-k.result [] kl in
    let shown = c.in_ok-founding.ensures.shown ∙ c.in_ok-node.ensures
    ∙ ap (λ g. record { held = founded c.args.credit c.index-names-k.result (c.loop-k.k + 1) g; ends = two_ends (out_seen c.in_ok-out.out) (in_seen c.replace-mine.result) }) c.requires.view
    ∙ ap (λ n. record { held = founded c.args.credit n (c.loop-k.k + 1) (opening_group c.args.names.now); ends = two_ends (out_seen c.in_ok-out.out) (in_seen c.replace-mine.result) }) name
    ∙ ap (λ i. record { held = founded c.args.credit (get_or c.args.names.now c.loop-k.k []) (c.loop-k.k + 1) (opening_group c.args.names.now); ends = two_ends (out_seen c.in_ok-out.out) (in_seen i) }) c.replace-mine.ensures.value in
    record {
      made = subst (λ i. (rings : ℕ → PairName) × AreMade rings c.args.credit c.args.names.now (c.loop-k.k + 1) c.push_member.new.members.items (out_seen c.in_ok-last.last) (in_seen i)) (sym c.replace-mine.ensures.after)
          (made_more made.0 c.args.credit c.args.names.now c.loop-k.k c.loop-k.members.items c.push_member.new.members.items c.in_ok-founding.field-0 (out_seen c.in_ok-last.last) (in_seen c.loop-k.link) c.in_ok-out.out c.in_ok-out.next made.1 c.in_ok-out.ensures c.in_ok-push_member.ensures shown);
      keeps = grown keeps_in (λ (k : ℕ). no_keeps) c.loop-k.members.items _ c.in_ok-founding.field-0 c.loop-k.k c.in_ok-push_member.ensures c.loop-k.invariant.keeps c.in_ok-founding.ensures.keeps;
    }

pub opening_node-requires-2-clause-stands : goal.opening_node-requires-2-clause-stands
opening_node-requires-2-clause-stands c = ap (λ g. is_in (length c.args.names.now - 1 + 1) (ids g)) c.requires.view ∙ opened_stands c.args.names.now (length c.args.names.now - 1) (omega (arith, c.requires.some))

pub returns-clause-shown : goal.returns-clause-shown
returns-clause-shown c =
    let made = c.loop-k.invariant.made in
    let last : length c.args.names.now - 1 ≡ c.loop-k.k = omega (arith, c.loop-k.auto.k-end, c.loop-k-test.false) in
    let all : length c.args.names.now ≡ c.loop-k.k + 1 = omega (arith, last, c.requires.some) in
    let lt : length c.args.names.now - 1 < length c.args.names.now = omega (arith, c.requires.some) in
    let name : c.index-names-k-2.result ≡ get_or c.args.names.now (length c.args.names.now - 1) [] = c.index-names-k-2.is ∙ get_or_default c.args.names.now (length c.args.names.now - 1) c.index-names-k-2.result [] lt in
    let shown = c.in_ok-founding-2.ensures.shown ∙ c.in_ok-node-2.ensures
    ∙ ap (λ g. record { held = founded c.args.credit c.index-names-k-2.result (length c.args.names.now - 1 + 1) g; ends = two_ends (out_seen c.in_ok-last.last) (in_seen c.loop-k.link) }) c.requires.view
    ∙ ap (λ n. record { held = founded c.args.credit n (length c.args.names.now - 1 + 1) (opening_group c.args.names.now); ends = two_ends (out_seen c.in_ok-last.last) (in_seen c.loop-k.link) }) name
    ∙ ap (λ j. record { held = founded c.args.credit (get_or c.args.names.now j []) (j + 1) (opening_group c.args.names.now); ends = two_ends (out_seen c.in_ok-last.last) (in_seen c.loop-k.link) }) last in
    all_made made.0 c.args.credit c.args.names.now c.loop-k.k c.loop-k.members.items c.push_member-2.new.members.items c.in_ok-founding-2.field-0 (out_seen c.in_ok-last.last) (in_seen c.loop-k.link) (length c.args.names.now) made.1 all c.in_ok-push_member-2.ensures shown

pub returns-clause-keeps : goal.returns-clause-keeps
returns-clause-keeps c =
    let all : c.loop-k.k + 1 ≡ length c.args.names.now = omega (arith, c.loop-k.auto.k-end, c.loop-k-test.false, c.requires.some) in
    grown keeps_in (λ (k : ℕ). no_keeps) c.loop-k.members.items _ c.in_ok-founding-2.field-0 c.loop-k.k c.in_ok-push_member-2.ensures c.loop-k.invariant.keeps c.in_ok-founding-2.ensures.keeps
    ∙ ap (λ n. map (λ (k : ℕ). no_keeps) (range_with_len 0 n)) all
