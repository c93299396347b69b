use Rattle.std.proofs.Common.{◌+◌, [], ◌∷◌, ◌++◌, length, map, sym, ap, ◌∙◌, arith}
use Rattle.std.specs.List.{range_with_len}
use Rattle.std.proofs.lemmas.List.FromFn.{map-range_with_len_more, length-map-range_with_len}
use Rattle.ring_cluster.specs.Seen.{state_of}
use Rattle.ring_report.specs.Report.{stands_at}
use Rattle.ring_report.specs.Summary.{published_by}
use Rattle.ringplay.proofs.summing.summary.Goals as goal

pub loop-place-preserved : goal.loop-place-preserved
loop-place-preserved c =
    let w = state_of c.args.cluster.now in
    let place = c.loop-place.place in
    record {
      states =
          c.in_ok-push.ensures.items ∙ ap (λ xs. xs ++ c.state_at.result ∷ []) c.loop-place.invariant.states
          ∙ ap (λ x. map (stands_at w) (range_with_len 1 place) ++ x ∷ []) c.state_at.ensures
          ∙ sym (map-range_with_len_more (stands_at w) 1 place (place + 1) (omega arith));
      counts =
          c.in_ok-push-2.ensures.items ∙ ap (λ xs. xs ++ c.counts_at.result ∷ []) c.loop-place.invariant.counts
          ∙ ap (λ x. map (published_by w) (range_with_len 1 place) ++ x ∷ []) c.counts_at.ensures
          ∙ sym (map-range_with_len_more (published_by w) 1 place (place + 1) (omega arith));
    }

pub push_summary-requires : goal.push_summary-requires
push_summary-requires c =
    let w = state_of c.args.cluster.now in
    record {
      few = omega (arith, ap length c.deref-2.ensures.value, ap length c.loop-place.invariant.counts, length-map-range_with_len (published_by w) 1 c.loop-place.place, c.loop-place.auto.place-end, c.members-place-end.ensures.few);
    }
