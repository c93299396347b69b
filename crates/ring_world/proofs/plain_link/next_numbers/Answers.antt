use Rattle.std.proofs.Common.{◌≡◌, ℕ, [], ◌∷◌, ◌++◌, ◌+◌, length, map, get_or, sym, ap, ◌∙◌, arith}
use Rattle.std.proofs.lemmas.Grind.{common_steps}
use Rattle.std.specs.List.{range_with_len}
use Rattle.std.proofs.lemmas.List.{length-map}
use Rattle.std.proofs.lemmas.List.FromFn.{map-range_with_len_more}
use Rattle.ring_rules.specs.declared.numbers.Numbers.{Numbers}
use Rattle.ring_rules.specs.Rows.{no_row, no_numbers, next_numbers}
use Rattle.ring_world.specs.Shows.{row_of}
use Rattle.ring_world.proofs.code.Sent.{next_lines_range, lines_to}
use Rattle.ring_world.proofs.plain_link.next_numbers.Goals as goal

pub loop-id-preserved : goal.loop-id-preserved
loop-id-preserved c =
    let id : ℕ = c.loop-id.id in
    let f : ℕ → Numbers = λ p. next_numbers c.args.fresh (get_or (map row_of c.args.sender.now.rows.items) p no_row) (get_or c.args.sent.now p no_numbers) in
    let e : map f (range_with_len 0 (id + 1)) ≡ map f (range_with_len 0 id) ++ f id ∷ [] = map-range_with_len_more f 0 id id (omega arith) in
    grind (arith, common_steps, e)

pub returns : goal.returns
returns c =
    let rows = map row_of c.args.sender.now.rows.items in
    let many : length rows ≡ c.loop-id.id = omega (arith, length-map c.args.sender.now.rows.items row_of, c.len-id-end.ensures, c.loop-id.auto.id-end, c.loop-id-test.false, c.args.sender.now.rows.ok.0) in
    c.loop-id.invariant ∙ sym (next_lines_range c.args.fresh rows c.args.sent.now ∙ ap (lines_to c.args.fresh rows c.args.sent.now) many)
