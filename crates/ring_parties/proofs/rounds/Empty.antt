-- A round in which nobody does anything is closed from the beginning.
use Rattle.std.proofs.Common.{◌≡◌, ℕ, ◌-◌, ◌<◌, ◌≤◌, true, cond, nat_lt, List, [], length, map, Some, refl, sym, ap, ◌∙◌, arith, append-nil}
use Rattle.std.proofs.lemmas.Bool.{and_parts, ltb-true}
use Rattle.ring_rules.specs.Machine.{World, link_at}
use Rattle.ring_rules.specs.Step.{size}
use Rattle.ring_rules.specs.Event.{is_stopped}
use Rattle.gm_member.specs.Held.{Held}
use Rattle.ring_parties.specs.Ends.{Carries, items_in}
use Rattle.ring_parties.specs.Parties.{Keeps, Parties, node_at}
use Rattle.ring_parties.specs.Keeps.{KeepsStand}
use Rattle.ring_parties.specs.Standing.{Places, MemberStands, Stand, has_in, has_out}
use Rattle.ring_parties.specs.Round.{Configuration}
use Rattle.ring_parties.specs.Seated.{seat_of, has_in_at, items_known, grants_known, seated}
use Rattle.ring_parties.specs.Closed.{ShowsSeat, may_take, LinkCloses, TookTurnsByEnds, HasClosed}
use Rattle.ring_parties.proofs.lists.Truth.{or_nothing}
use Rattle.ring_parties.proofs.rounds.Acts.{things-early}
use Rattle.ring_parties.proofs.rounds.Seated.{seat_door}

module _ (initial : ℕ) (w : World) (q : Parties) (ks : List Keeps) (st : Stand initial w q) (keeps : KeepsStand w ks) where
  abbrev p : Places
  p = st.places

  abbrev a : Configuration
  a = seated w st.places q ks

  pub nobody_took : TookTurnsByEnds w [] a a
  nobody_took = record {
    runs = λ x _ _. refl;
    nobody_else = λ x _. refl;
    items = λ s _. append-nil (a.items s);
    grants = λ s _. append-nil (a.grants s);
  }

  shows : (x : ℕ) → 1 ≤ x → x < size w → ShowsSeat p (seat_of w q ks x) (node_at q (x - 1))
  shows x some lt =
      let h : MemberStands w p x (node_at q (x - 1)) = st.stand.each x some lt in
      record {
        held = refl;
        out = h.out;
        returned = h.returned;
        link = h.link;
        ends = h.ends ∙ ap (map (λ s. Some (p.ins s))) (sym (seat_door w p q ks x h));
        old_outs = h.old_outs;
        old_ins = h.old_ins;
      }

  link_closes : (s : ℕ) → s < length w.links → has_in w s ≡ true → LinkCloses (has_out w s) (p.outs s) (p.ins s) (p.outs s) (p.ins s) [] []
  link_closes s l has =
      let c : Carries w initial (link_at w s) (p.outs s) (p.ins s) = st.stand.carry s l has in
      record {
        met = st.met s l has;
        ended = or_nothing (p.outs s).ended;
        late = c.late;
        dropped = λ _. (refl, sym (append-nil (p.ins s).given));
        out_initial = refl;
        in_initial = refl;
        out_ring = refl;
        in_ring = refl;
      }

  pub empty_closed : HasClosed w q p [] a q ks p
  empty_closed = record {
    count = refl;
    each = shows;
    keeps_count = omega (arith, keeps.count, st.stand.count);
    keeps = λ x _ _. refl;
    views = refl;
    stopped = λ x some lt. st.stand.stopped x some lt ∙ ap (λ (g : Held). is_stopped g.phase) (sym (st.stand.each x some lt).held);
    nobody_else = st.stand.nobody_else;
    post = refl;
    deposits = st.stand.deposits;
    ends = λ s on.
        let has = and_parts (nat_lt s (length w.links)) (has_in w s) (and_parts (has_in_at w s) (may_take p.deposits (a.seats (link_at w s).receiver) s) on).0 in
        link_closes s (ltb-true s (length w.links) has.0) has.1;
    stand = λ s on.
        things-early (items_known w p s) ∙ ap (λ v. cond v (p.ins s).items (items_in w (link_at w s))) (and_parts (has_in_at w s) (may_take p.deposits (a.seats (link_at w s).receiver) s) on).0;
    back = λ s on. things-early (grants_known w p s) ∙ ap (λ v. cond v (p.outs s).back (link_at w s).flow.grants) on;
  }
