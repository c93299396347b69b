use Rattle.std.proofs.Common.{◌≡◌, ◌∙◌, ◌<◌, ◌≤◌, ap, sym, arith, true, false, Bool, ◌++◌, ◌-◌, List, [], ◌∷◌, ℕ, map, drop, length, get_or, append_assoc, cond}
use Rattle.std.specs.Prelude.{reverse, ◌&&◌}
use Rattle.std.specs.List.{filter}
use Rattle.std.proofs.lemmas.List.{map-append, append-nil}
use Rattle.group_view.specs.declared.entry.Entry.{Entry}
use Rattle.group_view.specs.Parts.{AreFound}
use Rattle.group_view.specs.View.{ids, number, is_alias, found_is, is_dead_mark, owner_of}
use Rattle.group_view.proofs.Cuts.{found_at, filter_back}
use Rattle.group_view.proofs.ring.push_aliases.Goals as goal

-- what the next entry adds, going back
step : (entries part : List Entry) (end id : ℕ) (x : Entry) (b : Bool) → AreFound entries part → 0 < end → end ≤ length part → x ≡ get_or part (end - 1) x → b ≡ (is_dead_mark x.mark && found_is (owner_of entries x.id.0) id) → filter (is_alias entries id) (reverse (ids (drop (end - 1) part))) ≡ filter (is_alias entries id) (reverse (ids (drop end part))) ++ cond b (x.id.0 ∷ []) []
step entries part end id x b found pos within is test =
    let inside : end - 1 < length part = omega arith in
    filter_back (is_alias entries id) part end x pos within is
    ∙ ap (λ t. filter (is_alias entries id) (reverse (ids (drop end part))) ++ cond t (x.id.0 ∷ []) [])
    (ap (λ (e : Entry). is_dead_mark e.mark && found_is (owner_of entries x.id.0) id) (found_at entries part (end - 1) x found inside is) ∙ sym test)

pub loop-end-preserved-in-Continue-1 : goal.loop-end-preserved-in-Continue-1
loop-end-preserved-in-Continue-1 c =
    let es : List Entry = c.args.entries.now in
    let more = step es c.args.part.now c.loop-end.end c.args.id.0 c.index-part-end.result true c.requires.part c.loop-end-test.true c.loop-end.invariant.within c.index-part-end.is (sym c.if-is_alias.true ∙ c.is_alias.ensures) in
    record {
      within = omega arith;
      pushed =
          ap (map number) c.in_ok-push.ensures.items
          ∙ map-append number c.loop-end.aliases.items (c.index-part-end.result.id ∷ [])
          ∙ ap (λ us. us ++ c.index-part-end.result.id.0 ∷ []) c.loop-end.invariant.pushed
          ∙ append_assoc (map number c.args.aliases.now.items) (filter (is_alias es c.args.id.0) (reverse (ids (drop c.loop-end.end c.args.part.now)))) (c.index-part-end.result.id.0 ∷ [])
          ∙ ap (λ us. map number c.args.aliases.now.items ++ us) (sym more);
    }

pub loop-end-preserved : goal.loop-end-preserved
loop-end-preserved c =
    let es : List Entry = c.args.entries.now in
    let more = step es c.args.part.now c.loop-end.end c.args.id.0 c.index-part-end.result false c.requires.part c.loop-end-test.true c.loop-end.invariant.within c.index-part-end.is (sym c.if-is_alias.false ∙ c.is_alias.ensures) in
    record {
      within = omega arith;
      pushed = c.loop-end.invariant.pushed ∙ ap (λ us. map number c.args.aliases.now.items ++ us) (sym (more ∙ append-nil (filter (is_alias es c.args.id.0) (reverse (ids (drop c.loop-end.end c.args.part.now))))));
    }
