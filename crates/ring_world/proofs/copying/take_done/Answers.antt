use Rattle.std.proofs.Common.{◌≡◌, suc, ◌<◌, ◌∷◌, length, map, get_or, set, ap, sym, subst, ◌∙◌, arith}
use Rattle.std.proofs.lemmas.List.{with_items_is, get_or-map, length-map}
use Rattle.queue_core.specs.Queue.{no_items}
use Rattle.queue_sync.specs.Copy as sync
use Rattle.queue_sync.specs.Seen.{Taking}
use Rattle.queue_mirror.specs.Mirror.{MirrorState}
use Rattle.ring_rules.specs.Machine.{no_member}
use Rattle.ring_rules.specs.Step.{copied, copied_at}
use Rattle.ring_copies.specs.Copies.{CopyLink, no_copy_link, all_kept, since_copy, copied_mirror}
use Rattle.ring_world.specs.Shows.{world_of, member_of, member_in}
use Rattle.ring_world.specs.Copied.{copy_of, copy_in_list, state_in}
use Rattle.ring_world.proofs.code.OfCopies.{brought_at}
use Rattle.ring_world.proofs.copying.take_done.Goals as goal

pub returns-clause-ok : goal.returns-clause-ok
returns-clause-ok c =
    let r = c.args.ring.now in
    let place = c.args.place in
    let cs = c.args.copies.now in
    let i = c.args.i in
    let m = member_in r.members.items place in
    let many : length c.put_in_place.new.members ≡ r.members.len = omega (arith, c.put_in_place.auto.members, c.deref_mut.ensures.len, ap length c.deref_mut.ensures.value, r.members.ok.0) in
    let read : copy_of (get_or cs i c.index-copies-i.result) ≡ copy_in_list cs i = sym (get_or-map copy_of cs i c.index-copies-i.result no_copy_link c.requires.there) in
    let mirror =
    ap (λ (t : Taking). sync.copied_mirror m.mirror t.aside t.since) c.in_ok-taken.ensures
    ∙ ap (λ (d : CopyLink). sync.copied_mirror m.mirror (all_kept d.aside no_items) (since_copy (world_of r) (suc place) d)) read
    ∙ brought_at (state_in r cs) (suc place) i c.requires.copied (subst (λ n. i < n) (sym (length-map cs copy_of)) c.requires.there) in
    let members =
    ap (map member_of) (with_items_is r.members c.put_in_place.new.members many)
    ∙ subst (λ ss. map member_of c.put_in_place.new.members ≡ set (map member_of ss) place (copied (sync.copied_mirror (member_in ss place).mirror c.in_ok-taken.taken.aside c.in_ok-taken.taken.since) (member_in ss place))) c.deref_mut.ensures.value c.in_ok-put_in_place.ensures.ok
    ∙ ap (λ (k : MirrorState). set (map member_of r.members.items) place (copied k m)) mirror in
    ap (λ ms. record { ring = record (world_of r) { members = no_member ∷ ms }; copies = map copy_of c.finish.new.copies }) members
    ∙ ap (λ ds. record { ring = copied_at (world_of r) (suc place) (copied_mirror (world_of r) (suc place) (copy_in_list cs i)); copies = ds }) c.finish.ensures.finished
