-- Where members have taken their turns by the links of which they have ends, they have by all links.
use Rattle.std.proofs.Common.{◌≡◌, ◌≢◌, ◌⊎◌, ⊎_elim, ℕ, ◌<◌, ◌≤◌, Bool, true, false, cond, List, [], ◌++◌, length, Some, refl, sym, ap, subst, ◌∙◌}
use Rattle.std.specs.List.{filter}
use Rattle.std.proofs.lemmas.Bool.{false≢true, false_from_ne_true}
use Rattle.lamport_merge.specs.Merge.{Log}
use Rattle.group_view.specs.Ring.{is_in}
use Rattle.group_view.proofs.Rings.{nat_eq-same}
use Rattle.ring_rules.specs.Machine.{World, member_at, link_at}
use Rattle.ring_rules.specs.OpenLinks.{is_place}
use Rattle.ring_rules.specs.Step.{size}
use Rattle.ring_rules.proofs.work.OwnEnds.{OwnEnds}
use Rattle.gm_member.specs.Stands.{door_links}
use Rattle.ring_parties.specs.Standing.{is_to, has_in, has_out}
use Rattle.ring_parties.specs.RoundActs.{Stamped, puts, takes}
use Rattle.ring_parties.specs.Round.{Deed, IsLocalRun, Configuration, IsIn, TookTurns, items_at, grants_at, entries_by}
use Rattle.ring_parties.specs.Seated.{has_in_at, has_out_at}
use Rattle.ring_parties.specs.Closed.{put_on, given_on, TookTurnsByEnds, completed}
use Rattle.ring_parties.proofs.standing.Placing.{in_door_is, waits_has, current_has}
use Rattle.ring_parties.proofs.rounds.Deeds.{AllBut, IsApart, but_first, local_sends, local_takes}
use Rattle.ring_parties.proofs.rounds.Ended.{but_absent}
use Rattle.ring_parties.proofs.rounds.Merged.{member_or_not}
use Rattle.ring_parties.proofs.rounds.Parts.{items_put, items_taken, grants_put, grants_taken}
use Rattle.ring_parties.proofs.rounds.Seated.{there_at}

-- the local runs of a round
abbrev pub AreRuns : World → List (Log Deed) → Configuration → Configuration → Type 0
AreRuns w logs a b = (x : ℕ) → 1 ≤ x → x < size w → IsLocalRun (entries_by x logs) (a.seats x) (b.seats x)

module _ (w : World) (post : List ℕ) (logs : List (Log Deed)) (a b : Configuration) (own : OwnEnds w) (h : IsIn w post a) (runs : AreRuns w logs a b) (nobody : (x : ℕ) → (x < 1) ⊎ (size w ≤ x) → entries_by x logs ≡ []) where
  -- who has no in end of a link takes nothing from it, and gives nothing back
  pub without_in : (s : ℕ) → has_in_at w s ≡ false → (takes (items_at s (entries_by (link_at w s).receiver logs)) ≡ []) × (given_on w logs s ≡ [])
  without_in s none = ⊎_elim
      (λ (k : (1 ≤ y) × (y < size w)).
      let l = local_takes s (entries_by y logs) (a.seats y) (b.seats y) (apart k.0 k.1) (runs y k.0 k.1) in
      (items_taken s (entries_by y logs) ∙ l.0, grants_put s (entries_by y logs) ∙ l.1))
      (λ (k : (y < 1) ⊎ (size w ≤ y)). (ap (λ es. takes (items_at s es)) (nobody y k), ap (λ es. puts (grants_at s es)) (nobody y k)))
      (member_or_not (size w) y)
    where
      y : ℕ
      y = (link_at w s).receiver

      apart : 1 ≤ y → y < size w → IsApart s (a.seats y)
      apart some lt =
          let k = h.seats y some lt in (
            (λ (e : (a.seats y).current ≡ Some s).
                let c : (member_at w y).current ≡ Some s = sym k.current ∙ e in
                false≢true (sym none ∙ there_at s (length w.links) (has_in w s) (own.current y s c).0 (current_has w y s own c))),
            but_first s (a.seats y).door (filter (is_to w y) post) (subst (AllBut s) k.door (but_absent s (door_links w y) (false_from_ne_true (is_in s (door_links w y)) (λ i.
                let d = in_door_is w y s i in
                false≢true (sym none ∙ there_at s (length w.links) (has_in w s) d.0 (waits_has w y s refl d.1)))))),
          )

  -- who has no out end of a link puts nothing on it, and gains nothing
  pub without_out : (s : ℕ) → has_out_at w s ≡ false → (put_on w logs s ≡ []) × (takes (grants_at s (entries_by (link_at w s).sender logs)) ≡ [])
  without_out s none = ⊎_elim
      (λ (k : (1 ≤ x) × (x < size w)).
      let l = local_sends s (entries_by x logs) (a.seats x) (b.seats x) (apart k.0 k.1) (runs x k.0 k.1) in
      (items_put s (entries_by x logs) ∙ l.0, grants_taken s (entries_by x logs) ∙ l.1))
      (λ (k : (x < 1) ⊎ (size w ≤ x)). (ap (λ es. puts (items_at s es)) (nobody x k), ap (λ es. takes (grants_at s es)) (nobody x k)))
      (member_or_not (size w) x)
    where
      x : ℕ
      x = (link_at w s).sender

      apart : 1 ≤ x → x < size w → (a.seats x).out ≢ Some s
      apart some lt e =
          let c : (member_at w x).out ≡ Some s = sym (h.seats x some lt).out ∙ e in
          false≢true (sym none ∙ there_at s (length w.links) (has_out w s) (own.out x s c).0 (ap (λ o. is_place o s) c ∙ nat_eq-same s))

-- of a link of which the one that takes has an end, and of one of which it has none
on_a_link : {X : Type 0} (has : Bool) (held puts gone rest : List (Stamped X)) → (has ≡ true → held ++ puts ≡ gone ++ rest) → (has ≡ false → gone ≡ []) → held ++ puts ≡ gone ++ cond has rest (held ++ puts)
on_a_link true held puts gone rest some none = some refl
on_a_link false held puts gone rest some none = ap (λ xs. xs ++ (held ++ puts)) (sym (none refl))

pub took_turns : (w : World) (post : List ℕ) (logs : List (Log Deed)) (a b : Configuration) → OwnEnds w → IsIn w post a → TookTurnsByEnds w logs a b → TookTurns w logs a (completed w logs a b)
took_turns w post logs a b own h turns = record {
  runs = turns.runs;
  nobody_else = turns.nobody_else;
  items = λ s. on_a_link (has_in_at w s) (a.items s) (put_on w logs s) (takes (items_at s (entries_by (link_at w s).receiver logs))) (b.items s) (turns.items s) (λ none. (without_in w post logs a b own h turns.runs turns.nobody_else s none).0);
  grants = λ s. on_a_link (has_out_at w s) (a.grants s) (given_on w logs s) (takes (grants_at s (entries_by (link_at w s).sender logs))) (b.grants s) (turns.grants s) (λ none. (without_out w post logs a b own h turns.runs turns.nobody_else s none).1);
}
