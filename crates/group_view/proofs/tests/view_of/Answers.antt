use Rattle.std.proofs.Common.{◌≡◌, ◌+◌, ◌<◌, ◌≤◌, ap, sym, subst, arith, true, List, length, None, nat_lt}
use Rattle.std.specs.List.{sum_by, list_all}
use Rattle.group_view.specs.declared.entry.Entry.{Entry}
use Rattle.group_view.specs.Ring.{AreDistinct}
use Rattle.group_view.specs.View.{ids}
use Rattle.group_view.specs.Kept.{IsGroup, changes_of}
use Rattle.group_view.proofs.tests.view_of.Goals as goal

pub invariant_of-result : goal.invariant_of-result
invariant_of-result c =
    let few : length c.args.entries.items ≤ 64 = omega (arith, c.len.ensures, c.if-len-gt64.false) in
    let next : c.len-2.result ≡ length c.args.entries.items = omega (arith, c.len-2.ensures) in
    subst (λ (es : List Entry). IsGroup (record { version = 1; entries = es; master = None; term = 0; next_id = c.len-2.result + 1 })) (sym c.from_vec.ensures)
    (record {
      few = few;
      distinct = subst (λ (es : List Entry). AreDistinct (ids es)) c.deref-2.ensures.value c.if-not-are_view_ids.ensures.distinct;
      numbered = ap (λ n. n + 1) next;
      fresh = subst (λ (es : List Entry). list_all (λ n. nat_lt n (c.len-2.result + 1)) (ids es) ≡ true) c.deref-2.ensures.value c.if-not-are_view_ids.ensures.fresh;
      counted = subst (λ (es : List Entry). 1 < sum_by changes_of es) c.deref.ensures.value c.if-not-begins_synced.ensures;
      led = omega arith;
    })
