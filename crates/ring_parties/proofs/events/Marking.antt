-- A refresh, a mark, an erasure and a registration, as steps of the ring: the parties stand in the state after them.
use Rattle.std.proofs.Common.{◌≡◌, ℕ, ◌+◌, ◌-◌, ◌<◌, ◌≤◌, Bool, true, false, not, nat_eq, nat_le, List, [], ◌∷◌, ◌++◌, length, get_or, max, Option, Some, None, refl, sym, ap, subst, ◌∙◌, arith}
use Rattle.std.specs.Prelude.{◌&&◌}
use Rattle.std.specs.List.{filter}
use Rattle.std.proofs.lemmas.Bool.{false≢true}
use Rattle.ring_names.specs.declared.numbers.CreditSpec.{CreditSpec}
use Rattle.group_view.specs.declared.link.LinkName.{LinkName}
use Rattle.group_view.specs.View.{Group, entry_in}
use Rattle.group_view.specs.Change.{marked, erased, registered}
use Rattle.group_view.specs.Since.{no_group}
use Rattle.group_view.specs.Since as since
use Rattle.promotion.specs.Elect.{installed}
use Rattle.ring_rules.specs.Rows.{no_numbers}
use Rattle.ring_rules.specs.declared.kind.ViewChange.TheVariants as change
use Rattle.ring_rules.specs.Kind.{Changes, Reads}
use Rattle.ring_rules.specs.declared.phase.Phase.TheVariants.{Up}
use Rattle.ring_rules.specs.View.{right_of}
use Rattle.ring_rules.specs.Machine.{World, Link, no_sending, numbers_at, member_at, link_at, view_in, newest, left, row_at}
use Rattle.ring_rules.specs.OpenLinks.{version_of, since_in, comes_from_left, is_door_link}
use Rattle.ring_rules.specs.Step.{size, log_of, next_lines, with_view}
use Rattle.ring_rules.specs.Event.{id_of, of_member, mark_refusal, erase_refusal, synced_refusal, erased_view, refresh_refusal, refused_as, refreshed, done_as}
use Rattle.ring_rules.proofs.events.WhatRefuses.{MayLook, MayMark, MayErase, MaySync}
use Rattle.ring_rules.proofs.events.Enabled.{up_none}
use Rattle.ring_rules.proofs.events.Cases.{IsUp, may_look, may_mark, may_erase, may_sync}
use Rattle.ring_rules.proofs.walks.Views.{view_old, left_old}
use Rattle.ring_rules.proofs.invariants.Happens.{IsGood, mark_good, erase_good, sync_there, sync_good, newer_look, newer_good}
use Rattle.activity.specs.LastSent.{never_sent}
use Rattle.activity.specs.Diff.{next_line}
use Rattle.gm_member.specs.Packets.{places, known_at, last_sent_at}
use Rattle.gm_member.specs.Held.{Held, nothing_sent, lines_on, sends_to, refreshed_held, fresh_out as unsent_on}
use Rattle.gm_member.specs.View.{ring_link}
use Rattle.gm_member.specs.Shown.{When}
use Rattle.gm_member.specs.Stands.{kept_by, line_for, waits_for, held_in, lines_in}
use Rattle.gm_member.proofs.Places.{map-range_same, tabled_at}
use Rattle.gm_member.proofs.Knowing.{line_same}
use Rattle.gm_member.proofs.DoorLists.{filter_agree}
use Rattle.gm_member.proofs.Facts.{held_known, right_row}
use Rattle.gm_member.proofs.Fit.{IsFit}
use Rattle.gm_member.proofs.MarkStands.{view_held, view_newest}
use Rattle.gm_member.proofs.OpenDoors.{sends_right}
use Rattle.ring_rules.proofs.work.OwnEnds.{OwnEnds}
use Rattle.gm_member.proofs.RefreshStands.{first_lines}
use Rattle.ordered_link.specs.Names.{PairName}
use Rattle.ring_parties.specs.Ends.{OutSeen, opened_out, fresh_in}
use Rattle.ring_parties.specs.Parties.{Parties, node_at, with_node, Keeps}
use Rattle.ring_parties.specs.Standing.{Places, Stand, has_in}
use Rattle.ring_parties.specs.Acting.{Replacing, looked_ends, first_sent, LooksAt, Acts, newest_of, viewing, depositing, waits_at}
use Rattle.ring_parties.proofs.work.Lawful.{IsLawfulAt}
use Rattle.ring_parties.proofs.meetings.Known.{all_know}
use Rattle.ring_parties.proofs.standing.Frames.{carries_logs, StandMoved}
use Rattle.ring_parties.proofs.standing.Lookers.{whole_held, beholder, had_before}
use Rattle.ring_parties.proofs.events.OneEvent.{found_later, found_does}
use Rattle.ring_parties.proofs.events.Refreshing.{IsLooking, looks_on, none_waits}
use Rattle.ring_parties.proofs.events.Opens.{opens_on}

-- ---- the first packet of a link

-- its lines are the ring's
pub first_packet : (w : World) (x i m z n k : ℕ) → IsFit w → lines_on (held_in w x).known (unsent_on i m z n) ≡ lines_in w no_sending (record { version = k; numbers = next_lines true (member_at w x).rows [] })
unfolding places
first_packet w x i m z n k f =
    map-range_same (λ p. next_line true (p + 1) (known_at (held_in w x).known p) (last_sent_at nothing_sent p)) (λ p. line_for true (log_of w (p + 1)) p (numbers_at (record { version = k; numbers = next_lines true (member_at w x).rows [] }) (p + 1)) no_numbers) 64
    (λ p l. ap (λ a. next_line true (p + 1) a (last_sent_at nothing_sent p)) (held_known w x p l)
    ∙ ap (next_line true (p + 1) (kept_by (log_of w (p + 1)) (row_at (member_at w x) (p + 1)))) (tabled_at (λ (_ : ℕ). never_sent) 64 p never_sent l)
    ∙ line_same true p (log_of w (p + 1)) (row_at (member_at w x) (p + 1)) no_numbers (right_row w x (p + 1) f) (λ e. cc)
    ∙ ap (λ a. line_for true (log_of w (p + 1)) p a no_numbers) (sym (first_lines (member_at w x).rows (p + 1))))

-- ---- one of the two ways to look

-- what holds where a test passes
pub when_true : (c : Bool) (A : Type 0) → c ≡ true → When c A → A
when_true true A e a = a
when_true false A e a = absurd (false≢true e)

-- what a member holds for which no link waits
pub held_whole : (initial : ℕ) (w : World) (q : Parties) (x : ℕ) → 1 ≤ x → x < size w → Stand initial w q → filter (waits_at x) q.deposits ≡ [] → (node_at q (x - 1)).held ≡ held_in w x
held_whole initial w q x a l st none =
    whole_held w st.places x (node_at q (x - 1)) (st.stand.each x a l) (none_waits initial w q x st none)

pub looks_stand : (initial : ℕ) (u : World) (x v : ℕ) (q q' : Parties) (replaced : Option (LinkName × OutSeen)) → IsLooking initial u x v → Stand initial u q → filter (waits_at x) q.deposits ≡ [] → LooksAt (view_in u v) (x - 1) q q' replaced → StandMoved initial x (refreshed u x v) q' replaced
looks_stand initial u x v q q' replaced k st none (b, new, how, is) = subst (λ t. StandMoved initial x (refreshed u x v) t replaced) (sym is) (by_out (sends_right u x v) refl (subst (λ (h : Held). sends_of h ≡ sends_right u x v) (sym (held_whole initial u q x k.some k.may.is_member st none)) refl))
  where
    sends_of : Held → Bool
    sends_of h = sends_to h.out (right_of (view_in u v) h.id)

    by_out : (c : Bool) → sends_right u x v ≡ c → sends_of (node_at q (x - 1)).held ≡ sends_right u x v → StandMoved initial x (refreshed u x v) (depositing new (with_node q (x - 1) b)) replaced
    by_out true e s =
        let w : (b ≡ record { held = refreshed_held (node_at q (x - 1)).held (view_in u v); ends = looked_ends (view_in u v) (node_at q (x - 1)) }) × (new ≡ None) × (replaced ≡ None) = when_true (sends_of (node_at q (x - 1)).held) _ (s ∙ e) how.0 in
        subst (λ n. StandMoved initial x (refreshed u x v) (depositing n (with_node q (x - 1) b)) replaced) (sym w.1)
        (subst (StandMoved initial x (refreshed u x v) (with_node q (x - 1) b)) (sym w.2) (looks_on initial u x v q b k e st none w.0))
    by_out false e s =
        let w : (ring : PairName) × (ring.slots ≡ (node_at q (x - 1)).held.initial + 1) × (b ≡ record { held = refreshed_held (node_at q (x - 1)).held (view_in u v); ends = record (looked_ends (view_in u v) (node_at q (x - 1))) { out = Some (opened_out ring (node_at q (x - 1)).held.initial (first_sent (node_at q (x - 1)) (view_in u v))) } })
        × (new ≡ Some (record { name = ring_link (node_at q (x - 1)).held.id (right_of (view_in u v) (node_at q (x - 1)).held.id) (view_in u v).version; end = Some (fresh_in ring (node_at q (x - 1)).held.initial) }))
        × Replacing (node_at q (x - 1)).held.id (node_at q (x - 1)).held.out (node_at q (x - 1)).ends.out replaced
        = when_true (not (sends_of (node_at q (x - 1)).held)) _ (ap not (s ∙ e)) how.1 in
        subst (λ n. StandMoved initial x (refreshed u x v) (depositing n (with_node q (x - 1) b)) replaced) (sym w.3) (opens_on w.0 initial u x v q b _ replaced k e st none w.1 w.2 refl w.4)

-- ---- a refresh

-- who is found may look
pub refresh_may : (w : World) (x v : ℕ) → refused_as w x (Reads v) ≡ None → x < size w → MayLook w x v
refresh_may w x v r lt = let a = up_none w x (refresh_refusal w x v) r in may_look w x v lt a.0 a.1

refresh_looking : (credit : CreditSpec) (w : World) (x v : ℕ) → IsLawfulAt credit w → IsLawfulAt credit (done_as w x (Reads v)) → refused_as w x (Reads v) ≡ None → 1 ≤ x → x < size w → IsLooking credit.initial w x v
refresh_looking credit w x v g g' r some lt = record {
  may = refresh_may w x v r lt;
  some = some;
  good = g.fit.good;
  later = g'.fit.good;
  own = g.fit.own_ends;
  ends = g.fit.ends;
  initial_is = g.initial_is;
  right = λ p. right_row w x p g.fit;
  first = first_packet w x w.initial w.more (right_of (view_in w v) x) v v g.fit;
}

-- the view that it reads is the state's
view_is : (w : World) (q : Parties) (v : ℕ) → w.views ≡ no_group ∷ q.views → since.view_at q.views v ≡ view_in w v
view_is w q v e = ap (λ vs. get_or vs v no_group) (sym e)

pub refresh_between : (credit : CreditSpec) (w : World) (keeps : Keeps) (q q' : Parties) (i d v : ℕ) (replaced : Option (LinkName × OutSeen)) → IsLawfulAt credit w → IsLawfulAt credit (done_as w (i + 1) (Reads v)) → refused_as w (i + 1) (Reads v) ≡ None → i + 1 < size w
    → Stand credit.initial w q → filter (waits_at (i + 1)) q.deposits ≡ [] → Acts (Reads v) keeps i d q q' replaced → StandMoved credit.initial (i + 1) (done_as w (i + 1) (Reads v)) q' replaced
refresh_between credit w keeps q q' i d v replaced g g' r lt st none acts =
    let back : i + 1 - 1 ≡ i = omega arith in
    let at : LooksAt (view_in w v) (i + 1 - 1) q q' replaced = subst (λ k. LooksAt (view_in w v) k q q' replaced) (sym back) (subst (λ t. LooksAt t i q q' replaced) (view_is w q v st.stand.views) acts) in
    looks_stand credit.initial w (i + 1) v q q' replaced (refresh_looking credit w (i + 1) v g g' r (omega arith) lt) st none at

-- ---- a view is added

-- it changes no test in an earlier one
comes_old : (w : World) (g : Group) (y u : ℕ) (l : Link) → u < length w.views → comes_from_left (with_view w g) y l u ≡ comes_from_left w y l u
comes_old w g y u l lt =
    ap (λ (v : Group). nat_eq l.sender (left (with_view w g) u y) && nat_le ((entry_in v.entries y).since) l.opened) (view_old w g u lt)
    ∙ ap (λ q. nat_eq l.sender q && nat_le (since_in w u y) l.opened) (left_old w g u y lt)

pub waits_view : (w : World) (g : Group) (y s : ℕ) → IsGood w → s < length w.links → waits_for (with_view w g) y s ≡ waits_for w y s
waits_view w g y s h l =
    let some : 0 < length w.views = h.inv.is_ring.some in
    let upto : version_of w y ≤ newest w = h.inv.is_ring.held y in
    let early : (link_at w s).opened ≤ newest w = h.inv.linked.opened s l in
    ap (λ p. is_door_link w y s && p) (comes_old w g y (max (version_of w y) (link_at w s).opened) (link_at w s) (omega arith))

pub view_stands : (initial : ℕ) (w : World) (g : Group) (q : Parties) → IsGood w → OwnEnds w → Stand initial w q → Stand initial (with_view w g) (viewing g q)
view_stands initial w g q h own st = record {
  places = p;
  stand = record {
    count = st.stand.count;
    each = λ z c m. beholder w u p p z (node_at q (z - 1)) own (st.stand.each z c m) refl refl
        (λ ds. ap (λ (k : Held). record k { door = ds }) (view_held w g z h))
        (λ s e. refl) (λ s l. refl) (λ s l. refl)
        (λ ds e. filter_agree (waits_for u z) (waits_for w z) 0 (length w.links) (λ s a b. waits_view w g z s h (omega arith)) ∙ e);
    views = ap (λ vs. vs ++ g ∷ []) st.stand.views;
    stopped = st.stand.stopped;
    nobody_else = st.stand.nobody_else;
    deposits = st.stand.deposits;
    within = st.stand.within;
    carry = λ s l i. carries_logs initial w u (link_at w s) (p.outs s) (p.ins s) (λ y. refl) (st.stand.carry s l (had s l i));
  };
  met = λ s l i. st.met s l (had s l i);
  known = λ s l _ o. all_know initial w q st s l o;
}
  where
    p : Places
    p = st.places

    u : World
    u = with_view w g

    had : (s : ℕ) → s < length w.links → has_in u s ≡ true → has_in w s ≡ true
    had s l i = had_before w u s own refl (λ y e. e) (λ y e. sym (waits_view w g y s h l) ∙ e) i

-- ---- a member has a view follow the newest, and reads it

-- What is needed of the view, and of who has it follow: the ring is good with it, and the member is up.
pub record MayFollow (w : World) (x : ℕ) (g : Group) : Type 0 where
  pub some : 1 ≤ x
  pub is_member : x < size w
  pub up : (member_at w x).phase ≡ Up
  pub good : IsGood (with_view w g)

follow_looking : (credit : CreditSpec) (w : World) (x : ℕ) (g : Group) → IsLawfulAt credit w → MayFollow w x g → IsLooking credit.initial (with_view w g) x (newest w + 1)
follow_looking credit w x g h m = record {
  may = newer_look w x g m.is_member m.up h.fit.good.inv.is_ring;
  some = m.some;
  good = m.good;
  later = newer_good w x g m.is_member m.up h.fit.good m.good;
  own = record { out = h.fit.own_ends.out; current = h.fit.own_ends.current };
  ends = record { ended = h.fit.ends.ended; nothing = h.fit.ends.nothing; sends = h.fit.ends.sends; takes = h.fit.ends.takes };
  initial_is = h.initial_is;
  right = λ p. right_row w x p h.fit;
  first = first_packet w x w.initial w.more (right_of (view_in (with_view w g) (newest w + 1)) x) (newest w + 1) (newest w + 1) h.fit;
}

-- so the parties stand in the state after that
follow_stand : (credit : CreditSpec) (w w' : World) (q q' : Parties) (i : ℕ) (g : Group) (replaced : Option (LinkName × OutSeen)) → IsLawfulAt credit w → MayFollow w (i + 1) g → w' ≡ refreshed (with_view w g) (i + 1) (newest w + 1)
    → Stand credit.initial w q → filter (waits_at (i + 1)) q.deposits ≡ [] → LooksAt g i (viewing g q) q' replaced → StandMoved credit.initial (i + 1) w' q' replaced
follow_stand credit w w' q q' i g replaced h m is st none looks =
    let back : i + 1 - 1 ≡ i = omega arith in
    let u : World = with_view w g in
    let v : ℕ = newest w + 1 in
    let new : view_in u v ≡ g = view_newest w g h.fit.good in
    let at : LooksAt (view_in u v) (i + 1 - 1) (viewing g q) q' replaced = subst (λ k. LooksAt (view_in u v) k (viewing g q) q' replaced) (sym back) (subst (λ t. LooksAt t i (viewing g q) q' replaced) (sym new) looks) in
    subst (λ t. StandMoved credit.initial (i + 1) t q' replaced) (sym is)
    (looks_stand credit.initial u (i + 1) v (viewing g q) q' replaced (follow_looking credit w (i + 1) g h m) (view_stands credit.initial w g q h.fit.good h.fit.own_ends st) none at)

-- the newest view of the parties is the state's
pub newest_is : (w : World) (q : Parties) → w.views ≡ no_group ∷ q.views → newest_of q ≡ view_in w (newest w)
newest_is w q e = let many : length q.views ≡ newest w = omega (arith, ap length e) in ap (since.view_at q.views) many ∙ view_is w q (newest w) e

-- where the parties' view is the state's, made of the newest
follow_between : (credit : CreditSpec) (w w' : World) (q q' : Parties) (i : ℕ) (made : Group → Group) (replaced : Option (LinkName × OutSeen)) → IsLawfulAt credit w → MayFollow w (i + 1) (made (view_in w (newest w)))
    → w' ≡ refreshed (with_view w (made (view_in w (newest w)))) (i + 1) (newest w + 1) → Stand credit.initial w q → filter (waits_at (i + 1)) q.deposits ≡ []
    → LooksAt (made (newest_of q)) i (viewing (made (newest_of q)) q) q' replaced → StandMoved credit.initial (i + 1) w' q' replaced
follow_between credit w w' q q' i made replaced h m is st none looks =
    follow_stand credit w w' q q' i (made (view_in w (newest w))) replaced h m is st none
    (subst (λ t. LooksAt (made t) i (viewing (made t) q) q' replaced) (newest_is w q st.stand.views) looks)

-- ---- a mark

pub mark_between : (credit : CreditSpec) (w : World) (keeps : Keeps) (q q' : Parties) (i d : ℕ) (dead : List ℕ) (replaced : Option (LinkName × OutSeen)) → IsLawfulAt credit w → refused_as w (i + 1) (Changes (change.Mark dead)) ≡ None → i + 1 < size w → id_of w dead ≡ Some d
    → Stand credit.initial w q → filter (waits_at (i + 1)) q.deposits ≡ [] → Acts (Changes (change.Mark dead)) keeps i d q q' replaced → StandMoved credit.initial (i + 1) (done_as w (i + 1) (Changes (change.Mark dead))) q' replaced
mark_between credit w keeps q q' i d dead replaced h r lt there =
    let a = up_none w (i + 1) (of_member (id_of w dead) (mark_refusal w (i + 1))) r in
    let m : MayMark w (i + 1) d = may_mark w (i + 1) d lt a.0 (found_later (id_of w dead) d (mark_refusal w (i + 1)) there a.1) in
    follow_between credit w (done_as w (i + 1) (Changes (change.Mark dead))) q q' i (λ g. marked g d) replaced h
    (record { some = omega arith; is_member = m.is_member; up = m.up; good = mark_good w d m.rests m.lives h.fit.good })
    (found_does (id_of w dead) d w (λ e. refreshed (with_view w (marked (view_in w (newest w)) e)) (i + 1) (newest w + 1)) there)

-- ---- an erasure

pub erase_between : (credit : CreditSpec) (w : World) (keeps : Keeps) (q q' : Parties) (i p : ℕ) (origin : List ℕ) (replaced : Option (LinkName × OutSeen)) → IsLawfulAt credit w → refused_as w (i + 1) (Changes (change.Erase origin)) ≡ None → i + 1 < size w → id_of w origin ≡ Some p
    → Stand credit.initial w q → filter (waits_at (i + 1)) q.deposits ≡ [] → Acts (Changes (change.Erase origin)) keeps i p q q' replaced → StandMoved credit.initial (i + 1) (done_as w (i + 1) (Changes (change.Erase origin))) q' replaced
erase_between credit w keeps q q' i p origin replaced h r lt there =
    let a = up_none w (i + 1) (of_member (id_of w origin) (erase_refusal w (i + 1))) r in
    let m : MayErase w (i + 1) p = may_erase w (i + 1) p lt a.0 (found_later (id_of w origin) p (erase_refusal w (i + 1)) there a.1) in
    follow_between credit w (done_as w (i + 1) (Changes (change.Erase origin))) q q' i (λ g. installed (erased g p)) replaced h
    (record { some = omega arith; is_member = m.is_member; up = m.up; good = erase_good w p m.dead h.fit.good })
    (found_does (id_of w origin) p w (λ e. refreshed (with_view w (erased_view w e)) (i + 1) (newest w + 1)) there)

-- ---- a registration

pub register_between : (credit : CreditSpec) (w : World) (keeps : Keeps) (q q' : Parties) (i d : ℕ) (replaced : Option (LinkName × OutSeen)) → IsLawfulAt credit w → refused_as w (i + 1) (Changes change.Register) ≡ None → i + 1 < size w
    → Stand credit.initial w q → filter (waits_at (i + 1)) q.deposits ≡ [] → Acts (Changes change.Register) keeps i d q q' replaced → StandMoved credit.initial (i + 1) (done_as w (i + 1) (Changes change.Register)) q' replaced
register_between credit w keeps q q' i d replaced h r lt =
    let a = up_none w (i + 1) (synced_refusal w (i + 1)) r in
    let u : IsUp w (i + 1) = record { some = omega arith; lt = lt; up = a.0 } in
    let m : MaySync w (i + 1) = may_sync w (i + 1) u a.1 in
    follow_between credit w (done_as w (i + 1) (Changes change.Register)) q q' i (λ g. installed (registered g (i + 1))) replaced h
    (record { some = omega arith; is_member = m.is_member; up = m.up; good = sync_good w (i + 1) (sync_there w (i + 1) m h.fit.good) h.fit.good }) refl
