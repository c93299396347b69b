use Rattle.std.proofs.Common.{◌≡◌, map, take, length, ap, ◌∙◌, arith}
use Rattle.std.proofs.lemmas.List.{with_items_is}
use Rattle.ring_world.specs.Shows.{row_of}
use Rattle.ring_world.proofs.code.Padded.{dropped_rows}
use Rattle.ring_world.proofs.plain_member.make_ready.Goals as goal

pub returns-then-is_err-clause-err : goal.returns-then-is_err-clause-err
returns-then-is_err-clause-err c =
    let rows = c.args.rows.now.items in
    let padded = c.pad_rows.new.rows in
    let many : length c.make_room.new.rows ≡ padded.len = omega (arith, c.make_room.auto.rows, c.deref_mut.ensures.len, ap length c.deref_mut.ensures.value, padded.ok.0) in
    let known : c.len-known.result ≡ length rows = omega (arith, c.len-known.ensures, c.args.rows.now.ok.0) in
    dropped_rows rows padded.items c.make_room.new.rows c.truncate.new.self.items c.len-known.result
    (ap (λ n. take n (map row_of padded.items)) known ∙ c.in_ok-pad_rows.ensures.known)
    (c.make_room.ensures.same ∙ ap (map row_of) c.deref_mut.ensures.value)
    (c.truncate.ensures.items ∙ ap (take c.len-known.result) (with_items_is padded c.make_room.new.rows many))
