use Rattle.std.proofs.Common.{◌≡◌, ℕ, ◌<◌, ◌≤◌, length, map, get_or, option_map, ap, sym, ◌∙◌, arith}
use Rattle.std.proofs.lemmas.List.{length-map, get_or-map}
use Rattle.ring_copies.specs.Copies.{CopyLink, no_copy_link}
use Rattle.ring_world.specs.Copied.{copy_of, copy_in_list, room_of, followed_copy}
use Rattle.ring_world.proofs.code.ShownParts.{at_mapped_set}
use Rattle.ring_world.proofs.code.OfCopies.{changed_each}
use Rattle.ring_world.proofs.copies.follow.Goals as goal

pub follow-requires : goal.follow-requires
follow-requires c =
    let k : ℕ = c.loop-k.k in
    let kl : k < length c.loop-k.copies = omega (arith, c.loop-k.auto.copies, c.loop-k-test.true) in
    let read = get_or-map room_of c.loop-k.copies k c.index-copies-k.result 0 kl in
    omega (arith, read, c.loop-k.invariant.room k (omega arith), c.requires k c.loop-k-test.true)

pub loop-k-preserved : goal.loop-k-preserved
loop-k-preserved c =
    let k : ℕ = c.loop-k.k in
    let kl : k < length c.loop-k.copies = omega (arith, c.loop-k.auto.copies, c.loop-k-test.true) in
    let read : copy_of (get_or c.loop-k.copies k c.index-copies-k.result) ≡ copy_in_list c.args.copies.now k = sym (get_or-map copy_of c.loop-k.copies k c.index-copies-k.result no_copy_link kl) ∙ c.loop-k.invariant.rest k (omega arith) in
    let f : CopyLink → CopyLink = followed_copy c.args.stops (option_map (λ v. v.now) c.args.view) c.args.blocked c.args.id in
    record {
      done = λ j l. at_mapped_set (λ i d. d ≡ f (copy_in_list c.args.copies.now i)) copy_of c.loop-k.copies k j c.follow.new.self no_copy_link kl (c.follow.ensures ∙ ap f read) (λ ne. c.loop-k.invariant.done j (omega (arith, l, ne)));
      rest = λ j l. at_mapped_set (λ i d. k < i → d ≡ copy_in_list c.args.copies.now i) copy_of c.loop-k.copies k j c.follow.new.self no_copy_link kl (λ x. absurd (omega arith)) (λ _ x. c.loop-k.invariant.rest j (omega arith)) (omega arith);
      room = λ j l. at_mapped_set (λ i r. k < i → r ≡ get_or (map room_of c.args.copies.now) i 0) room_of c.loop-k.copies k j c.follow.new.self 0 kl (λ x. absurd (omega arith)) (λ _ x. c.loop-k.invariant.room j (omega arith)) (omega arith);
    }

pub returns : goal.returns
returns c =
    changed_each (followed_copy c.args.stops (option_map (λ v. v.now) c.args.view) c.args.blocked c.args.id) (map copy_of c.args.copies.now) (map copy_of c.loop-k.copies)
    (length-map c.loop-k.copies copy_of ∙ c.loop-k.auto.copies ∙ sym (length-map c.args.copies.now copy_of))
    (λ j l. c.loop-k.invariant.done j (omega (arith, l, length-map c.args.copies.now copy_of, c.loop-k-test.false)))
