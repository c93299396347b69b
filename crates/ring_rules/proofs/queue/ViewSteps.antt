-- The events that make a view are moves of the queue's laws.
use Rattle.std.proofs.Common.{◌≡◌, ◌≢◌, ℕ, ◌<◌, ◌≤◌, ◌+◌, Bool, true, false, cond, not, List, [], ◌∷◌, ◌++◌, length, map, get_or, refl, sym, ap, ◌∙◌, subst, arith, ⊎_elim, ◌⊎◌, inl, inr, Option, Some, None, option_map}
use Rattle.std.specs.Prelude.{◌&&◌}
use Rattle.std.proofs.lemmas.Bool.{cases_eq, cases_Bool, false≢true, and_from}
use Rattle.std.proofs.lemmas.List.{length-set, length_push, get_or_append_left, get_or_push}
use Rattle.ring_names.specs.declared.numbers.MemberId.{MemberId}
use Rattle.group_view.specs.declared.entry.Mark.TheVariants.{Dead, Erased}
use Rattle.group_view.specs.declared.entry.Entry.{Entry}
use Rattle.group_view.specs.Ring.{is_in, AreDistinct}
use Rattle.group_view.specs.View.{Group, ids, entry_in, is_erased, stands_in}
use Rattle.group_view.specs.Since.{no_group}
use Rattle.group_view.specs.Change.{marked, erased, with_mark, with_synced, next as next_group}
use Rattle.group_view.proofs.Groups.{ids-remarked_group}
use Rattle.group_view.proofs.Syncing.{same_ring_registered}
use Rattle.promotion.specs.Elect.{elected, term_after, installed, IsLeader}
use Rattle.promotion.proofs.Leading.{elected_leads, leader_stands}
use Rattle.ring_rules.specs.declared.phase.Phase.TheVariants.{Waiting, Up, Stopped}
use Rattle.ring_rules.specs.declared.phase.Ending.TheVariants.{Moved}
use Rattle.ring_rules.specs.Rows.{Row}
use Rattle.ring_rules.specs.Machine.{World, Member, no_member, row_at, numbers_at, member_at, link_at, view_in, newest, runs, runs_phase, oldest}
use Rattle.ring_rules.specs.Step.{size, log_of, with_view, with_link, look_at, moved_to, opened_link, joiner, come_to, admitted_view, ended}
use Rattle.ring_rules.specs.Event.{refreshed, erased_view, synced_view}
use Rattle.ring_rules.specs.OpenLinks.{first_packet, own_number}
use Rattle.ring_rules.proofs.rings.Lists.{get_or_beyond}
use Rattle.ring_rules.proofs.events.Leaves.{member_leaves, come_member}
use Rattle.ring_rules.proofs.events.WhatRefuses.{MayMark, MayErase, MaySync}
use Rattle.ring_rules.proofs.walks.Put.{number_up}
use Rattle.ring_rules.proofs.invariants.KeptAdmit.{CanJoin, joined_state, JoinFirst, came, was, join_first, join_log}
use Rattle.ring_rules.proofs.invariants.Happens.{newest_is, admit_composed}
use Rattle.queue_mirror.specs.Mirror.{joining}
use Rattle.queue_laws.specs.Part.{ops, is_up}
use Rattle.queue_laws.specs.Moves.{IsNextView, see, elect, enter}
use Rattle.queue_laws.specs.Part as part
use Rattle.queue_laws.proofs.Good.{HaveTerms}
use Rattle.queue_laws.proofs.Good.{IsGood as IsGoodPart}
use Rattle.queue_laws.proofs.Seen.{in_cases}
use Rattle.ring_rules.specs.Masters.{masters_of, earlier_of, last_of, top}
use Rattle.ring_rules.specs.QueuePart.{phase_of, sight_of, got_of, masters_in, sent_of, sent_by, part_of}
use Rattle.ring_rules.proofs.queue.Views.{remarked_synced, admitted_synced, synced_there, remarked_gone, admitted_gone, registered_gone, registered_synced, registered_newly}
use Rattle.ring_rules.proofs.queue.Masters.{same_top, next_top, earlier_push, last_push, earlier_last}
use Rattle.ring_rules.proofs.queue.Likes.{IsLike, IsQuiet, link_quiet, number_alike, refreshed_quiet, same_row}
use Rattle.ring_rules.proofs.queue.Facts.{Facts, HasMasters, entry_below, running_is}
use Rattle.ring_rules.proofs.queue.Steps.{Result, not_both, logs_sent, logs_same, masters_are, same_front, like_phases, like_since, like_got, like_rises}
use Rattle.ring_rules.proofs.queue.Sent.{sent_casts, sent_same, sent_more, since_kept, since_more}

module _ (w : World) where
  abbrev v : Group
  v = view_in w (newest w)

  -- who was registered is, and whoever else then is has all
  pub record Enrols (es : List Entry) : Type 0 where
    pub stays : (q : ℕ) → (entry_in v.entries q).synced ≡ true → (entry_in es q).synced ≡ true
    pub newly : (q : ℕ) → (entry_in es q).synced ≡ true → ((entry_in v.entries q).synced ≡ true) ⊎ (((member_at w q).phase ≡ Up) × ((member_at w q).mirror.missing ≡ Some 0))

  enrols_same : (es : List Entry) → ((q : ℕ) → (entry_in es q).synced ≡ (entry_in v.entries q).synced) → Enrols es
  enrols_same es same = record { stays = λ q e. same q ∙ e; newly = λ q e. inl (sym (same q) ∙ e) }

  -- ---- a view more, which x reads

  module _ (x : ℕ) (g : Group) (lt : x < size w) (up : (member_at w x).phase ≡ Up) (f : Facts w) where
    abbrev seen_by : World
    seen_by = refreshed (with_view w g) x (newest w + 1)

    reads : IsQuiet (with_view w g) seen_by
    reads = refreshed_quiet (with_view w g) x (newest w + 1) (record { lt = lt; up = up; there = λ q s e c. f.good.inv.current.lt q s (ap runs_phase e) c })

    like : IsLike w seen_by
    like = record { many = reads.like.many; rows = reads.like.rows; log = reads.like.log; phase = reads.like.phase; got = reads.like.got; mirror = reads.like.mirror; whole = reads.like.whole }

    some : 0 < length w.views
    some = f.good.inv.is_ring.some

    many : newest seen_by ≡ newest w + 1
    many = omega (arith, ap length reads.views, length_push w.views g, some)

    old : (u : ℕ) → u ≤ newest w → sight_of (view_in seen_by u) ≡ sight_of (view_in w u)
    old u le = ap (λ vs. sight_of (get_or vs u no_group)) reads.views ∙ ap sight_of (get_or_append_left w.views (g ∷ []) no_group u (omega (arith, some)))

    new : view_in seen_by (newest seen_by) ≡ g
    new = ap (λ u. view_in seen_by u) many ∙ ap (λ vs. get_or vs (newest w + 1) no_group) reads.views ∙ get_or_push w.views g no_group (newest w + 1) (omega (arith, some))

    next : ((q : ℕ) → (sight_of v).is_erased q ≡ true → (sight_of g).is_erased q ≡ true) → Enrols g.entries → IsNextView (part_of w) (part_of seen_by)
    next gone same = record {
      newest = many;
      old = old;
      stays_erased = λ q e. ap (λ k. (sight_of k).is_erased q) new ∙ gone q e;
      stays_registered = λ q e. ap (λ k. (sight_of k).is_registered q) new ∙ same.stays q e;
      newly = λ q e. ⊎_elim
          (λ (was : (entry_in v.entries q).synced ≡ true). inl was)
          (λ (k : ((member_at w q).phase ≡ Up) × ((member_at w q).mirror.missing ≡ Some 0)). inr (ap (λ f. is_up (phase_of f)) k.0, k.1))
          (same.newly q (sym (ap (λ k. (sight_of k).is_registered q) new) ∙ e));
    }

    -- no new master
    pub sees : ((q : ℕ) → (sight_of v).is_erased q ≡ true → (sight_of g).is_erased q ≡ true) → Enrols g.entries
        → (g.master ≡ v.master) ⊎ ((g.master ≡ None) × ((sight_of g).is_erased (last_of (masters_of w.views)) ≡ true)) → g.term ≡ v.term → HasMasters w → Result w seen_by
    sees gone same master term h = record {
      move = see (record {
        next = next gone same;
        master = ⊎_elim
            (λ (a : g.master ≡ v.master). inl (ap (λ k. (sight_of k).master) new ∙ ap (option_map (λ id. id.0)) a))
            (λ (b : (g.master ≡ None) × ((sight_of g).is_erased (last_of (masters_of w.views)) ≡ true)).
            inr (ap (λ k. (sight_of k).master) new ∙ ap (option_map (λ id. id.0)) b.0, ap (λ k. (sight_of k).is_erased (last_of (masters_of w.views))) new ∙ b.1))
            master;
        masters = masters_are w seen_by same_ms;
        logs = logs_same w seen_by like.log;
        phases = like_phases w seen_by like;
        got = like_got w seen_by like;
        mirrors = record { mirror = like.mirror; since = like_since w seen_by like same_ms };
        sent = logs_sent w seen_by same_ms like.log;
      });
      rises = like_rises w seen_by like;
      masters = record {
        some = omega (arith, ap length same_ms, h.some);
        member = omega (arith, ap last_of same_ms, like.many, h.member);
        term = ap (top 0) reads.views ∙ tops.1 ∙ sym (ap (λ (k : Group). k.term) new);
      };
    }
      where
        tops : (masters_of (w.views ++ g ∷ []) ≡ masters_of w.views) × (top 0 (w.views ++ g ∷ []) ≡ g.term)
        tops = same_top w.views g (term ∙ sym h.term)

        same_ms : masters_of seen_by.views ≡ masters_of w.views
        same_ms = ap masters_of reads.views ∙ tops.0

    -- and one
    pub elects : ((q : ℕ) → (sight_of v).is_erased q ≡ true → (sight_of g).is_erased q ≡ true) → Enrols g.entries
        → (id : MemberId) → g.master ≡ Some id → g.term ≡ v.term + 1 → (sight_of g).is_erased (last_of (masters_of w.views)) ≡ true → (sight_of g).is_erased id.0 ≡ false → (entry_in g.entries id.0).synced ≡ true
        → id.0 < size w → ops (log_of w id.0) ≡ [] → HasMasters w → Result w seen_by
    elects gone same id master term last lives enrolled there silent h = record {
      move = elect id.0 (record {
        next = next gone same;
        gone = ap (λ k. (sight_of k).is_erased (last_of (masters_of w.views))) new ∙ last;
        master = ap (λ k. (sight_of k).master) new ∙ ap (option_map (λ id. id.0)) master;
        lives = ap (λ k. (sight_of k).is_erased id.0) new ∙ lives;
        enrolled = ap (λ k. (sight_of k).is_registered id.0) new ∙ enrolled;
        earlier = ap earlier_of more_ms ∙ earlier_push (masters_of w.views) id.0 ∙ sym (earlier_last (masters_of w.views) h.some);
        last = ap last_of more_ms ∙ last_push (masters_of w.views) id.0;
        logs = logs_same w seen_by like.log;
        phases = like_phases w seen_by like;
        got = like_got w seen_by like;
        mirrors = record {
          mirror = like.mirror;
          since = λ q. since_more w seen_by q id.0 (like.whole q) more_ms (λ p. same_front w seen_by q p (ap (λ (r : Row). r.base) (same_row w seen_by q p (like.rows q))) (like.log p)) (ap ops (like.log id.0) ∙ silent);
        };
        sent = record {
          sent = ap (λ ms. sent_by (log_of seen_by) ms []) more_ms ∙ sent_more (log_of seen_by) (masters_in w) id.0 []
              ∙ ap (λ ms. sent_of id.0 0 ms (sent_by (log_of seen_by) (masters_in w) [])) (like.log id.0) ∙ sent_casts id.0 0 (log_of w id.0) (sent_by (log_of seen_by) (masters_in w) []) silent
              ∙ sent_same (log_of w) (log_of seen_by) (masters_in w) [] (λ p xs _. ap (λ ms. sent_of p 0 ms xs) (like.log p));
        };
      });
      rises = like_rises w seen_by like;
      masters = record {
        some = omega (arith, ap length more_ms, length_push (masters_of w.views) id.0);
        member = omega (arith, ap last_of more_ms, last_push (masters_of w.views) id.0, like.many, there);
        term = ap (top 0) reads.views ∙ tops.1 ∙ sym (ap (λ (k : Group). k.term) new);
      };
    }
      where
        tops : (masters_of (w.views ++ g ∷ []) ≡ masters_of w.views ++ id.0 ∷ []) × (top 0 (w.views ++ g ∷ []) ≡ g.term)
        tops = next_top w.views g id (omega (arith, term, h.term)) master

        more_ms : masters_of seen_by.views ≡ masters_of w.views ++ id.0 ∷ []
        more_ms = ap masters_of reads.views ∙ tops.0

  -- ---- a mark

  pub marks : (x d : ℕ) → x < size w → MayMark w x d → Facts w → HasMasters w → Result w (refreshed (with_view w (marked v d)) x (newest w + 1))
  marks x d lt m f h = sees x (marked v d) lt m.up f (λ q e. remarked_gone Dead v d q (inr m.lives) e) (enrols_same (marked v d).entries (λ q. remarked_synced Dead v d q)) (inl refl) refl h

  -- ---- an election, where it is one, with an erasure or a registration

  module _ (x : ℕ) (es : List Entry) (lt : x < size w) (up : (member_at w x).phase ≡ Up) (f : Facts w) (good : IsGoodPart (part_of w)) (h : HasMasters w)
      (same_ids : ids (next_group v es).entries ≡ ids v.entries) (gone_still : (q : ℕ) → (sight_of v).is_erased q ≡ true → (sight_of (next_group v es)).is_erased q ≡ true) (enrols : Enrols (next_group v es).entries) where
    abbrev t : HaveTerms (part_of w)
    t = good.terms

    abbrev without : Group
    without = next_group v es

    distinct : AreDistinct (ids without.entries)
    distinct = subst AreDistinct (sym same_ids) (newest_is w f.good.views).distinct

    -- where no master stands, the last one is erased
    last_gone : stands_in without.entries v.master ≡ false → (sight_of without).is_erased (last_of (masters_of w.views)) ≡ true
    last_gone none = by_master v.master refl none
      where
        by_master : (o : Option MemberId) → v.master ≡ o → stands_in without.entries o ≡ false → (sight_of without).is_erased (last_of (masters_of w.views)) ≡ true
        by_master None e n = gone_still (last_of (masters_of w.views)) (t.vacant (ap (option_map (λ id. id.0)) e))
        by_master (Some id) e n =
            let is : id.0 ≡ last_of (masters_of w.views) = t.present id.0 (ap (option_map (λ id. id.0)) e) in
            let here : is_in id.0 (ids v.entries) ≡ true = synced_there v.entries id.0 (t.enrolled (newest w) id.0 (omega arith) (ap (option_map (λ id. id.0)) e)) in
            subst (λ k. (sight_of without).is_erased k ≡ true) is
            (and_from (is_in id.0 (ids without.entries)) (is_erased without.entries id.0) (ap (is_in id.0) same_ids ∙ here) (not_false (is_erased without.entries id.0) n))
          where
            not_false : (b : Bool) → not b ≡ false → b ≡ true
            not_false true e = refl
            not_false false e = absurd (false≢true (sym e))

    leader_gone : (n : ℕ) → is_erased without.entries n ≡ false → (sight_of without).is_erased n ≡ false
    leader_gone n e = ap (λ b. is_in n (ids without.entries) && b) e ∙ and_none (is_in n (ids without.entries))
      where
        and_none : (b : Bool) → (b && false) ≡ false
        and_none true = refl
        and_none false = refl

    -- who wasn't master before has published nothing to the queue
    new_silent : (n : ℕ) → (sight_of without).is_erased (last_of (masters_in w)) ≡ true → (sight_of without).is_erased n ≡ false → ops (log_of w n) ≡ []
    new_silent n gone lives = good.placed.only_masters n (by_in (part.is_in n (earlier_of (masters_in w) ++ last_of (masters_in w) ∷ [])) refl)
      where
        by_in : (b : Bool) → part.is_in n (earlier_of (masters_in w) ++ last_of (masters_in w) ∷ []) ≡ b → b ≡ false
        by_in false e = refl
        by_in true e = absurd (false≢true (sym lives ∙ ⊎_elim
            (λ (i : part.is_in n (earlier_of (masters_in w)) ≡ true). gone_still n (t.gone n i))
            (λ (is : n ≡ last_of (masters_in w)). ap (λ k. (sight_of without).is_erased k) is ∙ gone)
            (in_cases n (earlier_of (masters_in w)) (last_of (masters_in w)) e)))

    by_stands : (b : Bool) → stands_in without.entries v.master ≡ b → (o : Option MemberId) → elected without.entries ≡ o
        → Result w (refreshed (with_view w (record without { master = cond b v.master o; term = cond b v.term (term_after o v.term) })) x (newest w + 1))
    by_stands true e o is = sees x without lt up f gone_still enrols (inl refl) refl h
    by_stands false e None is = sees x (record without { master = None }) lt up f gone_still enrols (inr (refl, last_gone e)) refl h
    by_stands false e (Some id) is =
        let leads : IsLeader without.entries id.0 = elected_leads without.entries id distinct is in
        let stands : is_erased without.entries id.0 ≡ false = leader_stands without.entries id.0 leads in
        elects x (record without { master = Some id; term = v.term + 1 }) lt up f gone_still enrols id refl refl (last_gone e) (leader_gone id.0 stands) leads.enrolled
        (entry_below w id.0 f.good (sym (ap (is_in id.0) same_ids) ∙ synced_there without.entries id.0 leads.enrolled)) (new_silent id.0 (last_gone e) (leader_gone id.0 stands)) h

    installs : Result w (refreshed (with_view w (installed without)) x (newest w + 1))
    installs = by_stands (stands_in without.entries v.master) refl (elected without.entries) refl

  pub erases : (x d : ℕ) → x < size w → MayErase w x d → Facts w → IsGoodPart (part_of w) → HasMasters w → Result w (refreshed (with_view w (erased_view w d)) x (newest w + 1))
  erases x d lt m f good h = installs x (map (with_mark Erased d) v.entries) lt m.up f good h (ids-remarked_group Erased v d) (λ q e. remarked_gone Erased v d q (inl refl) e) (enrols_same (erased v d).entries (λ q. remarked_synced Erased v d q))

  pub syncs : (x : ℕ) → x < size w → MaySync w x → Facts w → IsGoodPart (part_of w) → HasMasters w → Result w (refreshed (with_view w (synced_view w x)) x (newest w + 1))
  syncs x lt m f good h = installs x (map (with_synced x) v.entries) lt m.up f good h (same_ring_registered v x).same_ids (λ q e. registered_gone v x q e) (record {
    stays = λ q e. registered_synced v x q e;
    newly = λ q e. ⊎_elim
        (λ (was : (entry_in v.entries q).synced ≡ true). inl was)
        (λ (is : q ≡ x). inr (ap (λ i. (member_at w i).phase) is ∙ m.up, ap (λ i. (member_at w i).mirror.missing) is ∙ m.full))
        (registered_newly v x q e);
  })

  -- ---- an admission

  module _ (x : ℕ) (name : List ℕ) (j : CanJoin w x) (f : Facts w) where
    abbrev n : ℕ
    n = size w

    abbrev coming : World
    coming = come_to w x name

    abbrev joined : World
    joined = joined_state w x name

    abbrev entered_state : World
    entered_state = refreshed coming x (newest w + 1)

    -- what an admission leaves of the others, and how one comes
    record Entered (u : World) : Type 0 where
      pub many : size u ≡ size w + 1
      pub views : u.views ≡ w.views ++ admitted_view w x name ∷ []
      pub log : (q : ℕ) → log_of u q ≡ log_of w q
      pub phase_n : (member_at u n).phase ≡ Waiting
      pub phase : (q : ℕ) → q ≢ n → (member_at u q).phase ≡ (member_at w q).phase
      pub rows : (q : ℕ) → q ≢ n → (member_at u q).rows ≡ (member_at w q).rows
      pub got_n : (p : ℕ) → got_of u n p ≡ got_of w x p
      pub got : (q p : ℕ) → q ≢ n → got_of u q p ≡ got_of w q p
      pub mirror_n : (member_at u n).mirror ≡ joining
      pub mirror : (q : ℕ) → q ≢ n → (member_at u q).mirror ≡ (member_at w q).mirror
      pub whole : (q : ℕ) → q ≢ n → (member_at u q).whole ≡ (member_at w q).whole

    entered_then : (u u' : World) → IsQuiet u u' → Entered u → Entered u'
    entered_then u u' k h = record {
      many = k.like.many ∙ h.many;
      views = k.views ∙ h.views;
      log = λ q. k.like.log q ∙ h.log q;
      phase_n = k.like.phase n ∙ h.phase_n;
      phase = λ q d. k.like.phase q ∙ h.phase q d;
      rows = λ q d. k.like.rows q ∙ h.rows q d;
      got_n = λ p. k.like.got n p ∙ h.got_n p;
      got = λ q p d. k.like.got q p ∙ h.got q p d;
      mirror_n = k.like.mirror n ∙ h.mirror_n;
      mirror = λ q d. k.like.mirror q ∙ h.mirror q d;
      whole = λ q d. k.like.whole q ∙ h.whole q d;
    }

    -- a member, as it was
    record Same (a b : Member) : Type 0 where
      pub phase : b.phase ≡ a.phase
      pub rows : b.rows ≡ a.rows
      pub current : a.phase ≡ Waiting → b.current ≡ a.current
      pub mirror : b.mirror ≡ a.mirror
      pub whole : b.whole ≡ a.whole

    looked_same : (q : ℕ) → Same (member_at coming q) (member_at (look_at coming x (newest w + 1)) q)
    looked_same q = member_leaves (λ _ a b. Same a b) coming x (moved_to coming x (newest w + 1)) (record { phase = refl; rows = refl; current = λ e. absurd (not_both (member_at coming x).phase up_x e); mirror = refl; whole = refl }) (λ _. record { phase = refl; rows = refl; current = λ _. refl; mirror = refl; whole = refl }) q
      where
        up_x : (member_at coming x).phase ≡ Up
        up_x = ap (λ (a : Member). a.phase) (get_or_append_left w.members (joiner w name ∷ []) no_member x j.is_member) ∙ j.up

    joined_same : (q : ℕ) → Same (member_at coming q) (member_at joined q)
    joined_same q =
        let a = looked_same q in
        let b : Same (member_at wl q) (member_at joined q) = member_leaves (λ _ a b. Same a b) opened x (record (member_at wl x) { out = Some (length wl.links) }) (record { phase = refl; rows = refl; current = λ _. refl; mirror = refl; whole = refl }) (λ _. record { phase = refl; rows = refl; current = λ _. refl; mirror = refl; whole = refl }) q in
        record { phase = b.phase ∙ a.phase; rows = b.rows ∙ a.rows; current = λ e. b.current (a.phase ∙ e) ∙ a.current e; mirror = b.mirror ∙ a.mirror; whole = b.whole ∙ a.whole }
      where
        wl : World
        wl = look_at coming x (newest w + 1)

        opened : World
        opened = record wl { links = wl.links ++ opened_link wl x n ∷ [] }

    coming_old : (q : ℕ) → q ≢ n → member_at coming q ≡ member_at w q
    coming_old q d = come_member w x name q (λ i a. i ≡ q → a ≡ member_at w q) (λ is. absurd (d (sym is))) (λ _. refl) refl

    coming_new : member_at coming n ≡ joiner w name
    coming_new = get_or_push w.members (joiner w name) no_member n refl

    new_phase : (member_at joined n).phase ≡ Waiting
    new_phase = (joined_same n).phase ∙ ap (λ (a : Member). a.phase) coming_new

    old_phase : (q : ℕ) → q ≢ n → (member_at joined q).phase ≡ (member_at w q).phase
    old_phase q d = (joined_same q).phase ∙ ap (λ (a : Member). a.phase) (coming_old q d)

    new_current : (member_at joined n).current ≡ Some (length w.links)
    new_current = (joined_same n).current (ap (λ (a : Member). a.phase) coming_new) ∙ ap (λ (a : Member). a.current) coming_new

    old_current : (q : ℕ) → q ≢ n → (member_at w q).phase ≡ Waiting → (member_at joined q).current ≡ (member_at w q).current
    old_current q d e = (joined_same q).current (ap (λ (a : Member). a.phase) (coming_old q d) ∙ e) ∙ ap (λ (a : Member). a.current) (coming_old q d)

    -- who comes counts with the packet of x
    new_got : (p : ℕ) → got_of joined n p ≡ got_of w x p
    new_got p = ap (λ f. own_number (λ k. k.got) (λ r. r.got) joined p f (member_at joined n)) new_phase ∙ ap (λ c. (numbers_at (first_packet joined c) p).got) new_current
        ∙ by_first (join_first w x name j n (length w.links) new_phase new_current) ∙ sym (number_up (λ k. k.got) (λ r. r.got) w p x j.up)
      where
        by_first : JoinFirst w x name n (length w.links) → (numbers_at (oldest (link_at joined (length w.links))) p).got ≡ (row_at (member_at w x) p).got
        by_first (came is k) = k p
        by_first (was d e c k) = absurd (d refl)

    old_got : (q p : ℕ) → q ≢ n → got_of joined q p ≡ got_of w q p
    old_got q p d = number_alike (λ k. k.got) (λ r. r.got) w joined p q (old_phase q d) ((joined_same q).rows ∙ ap (λ (a : Member). a.rows) (coming_old q d)) (old_current q d)
        (λ s e c. by_first s (join_first w x name j q s (old_phase q d ∙ e) (old_current q d e ∙ c)))
      where
        by_first : (s : ℕ) → JoinFirst w x name q s → oldest (link_at joined s) ≡ oldest (link_at w s)
        by_first s (came is k) = absurd (d is)
        by_first s (was d e c k) = k

    joined_entered : Entered joined
    joined_entered = record {
      many = length-set (look_at coming x (newest w + 1)).members x (record (member_at (look_at coming x (newest w + 1)) x) { out = Some (length w.links) }) ∙ length-set coming.members x (moved_to coming x (newest w + 1)) ∙ length_push w.members (joiner w name);
      views = refl;
      log = λ q. join_log w x name j q;
      phase_n = new_phase;
      phase = old_phase;
      rows = λ q d. (joined_same q).rows ∙ ap (λ (a : Member). a.rows) (coming_old q d);
      got_n = new_got;
      got = old_got;
      mirror_n = (joined_same n).mirror ∙ ap (λ (a : Member). a.mirror) coming_new;
      mirror = λ q d. (joined_same q).mirror ∙ ap (λ (a : Member). a.mirror) (coming_old q d);
      whole = λ q d. (joined_same q).whole ∙ ap (λ (a : Member). a.whole) (coming_old q d);
    }

    entered : Entered entered_state
    entered = admit_composed Entered w x name j
        (λ o e there old. entered_then joined (with_link joined o (ended Moved (link_at w o))) (link_quiet joined o (ended Moved (link_at w o)) (ap (λ a. a.packets) (sym old))) joined_entered)
        joined_entered

    none_there : (member_at w n).phase ≡ Stopped
    none_there = ap (λ (a : Member). a.phase) (get_or_beyond w.members n no_member (omega arith))

    -- who comes wasn't registered
    unregistered : (entry_in v.entries v.next_id).synced ≡ false
    unregistered = ⊎_elim
        (λ (yes : (entry_in v.entries v.next_id).synced ≡ true). absurd (let lt : v.next_id < size w = entry_below w v.next_id f.good (synced_there v.entries v.next_id yes) in omega (arith, f.good.next_id)))
        (λ (ne : (entry_in v.entries v.next_id).synced ≡ false). ne)
        (cases_Bool (entry_in v.entries v.next_id).synced)

    same_synced : (q : ℕ) → (entry_in (admitted_view w x name).entries q).synced ≡ (entry_in v.entries q).synced
    same_synced q = admitted_synced v x name q unregistered

    pub admits : HasMasters w → Result w entered_state
    admits h = record {
      move = enter n x (record {
        next = record {
          newest = newest_now;
          old = λ u le. ap (λ vs. sight_of (get_or vs u no_group)) entered.views ∙ ap sight_of (get_or_append_left w.views (admitted_view w x name ∷ []) no_group u (omega (arith, f.good.inv.is_ring.some)));
          stays_erased = λ q e. ap (λ k. (sight_of k).is_erased q) view_now ∙ admitted_gone v x name j.may q e;
          stays_registered = λ q e. ap (λ k. (sight_of k).is_registered q) view_now ∙ same_synced q ∙ e;
          newly = λ q e. inl (sym (same_synced q) ∙ sym (ap (λ k. (sight_of k).is_registered q) view_now) ∙ e);
        };
        master = ap (λ k. (sight_of k).master) view_now;
        masters = masters_are w entered_state same_ms;
        admitter = running_is (member_at w x).phase ∙ ap runs_phase j.up;
        other = λ is. omega (arith, is, j.is_member);
        phase = ap phase_of entered.phase_n;
        others_phase = λ q d. ap phase_of (entered.phase q d);
        got = entered.got_n;
        others_got = λ q p d _. entered.got q p d;
        mirror = entered.mirror_n;
        others_mirror = λ q d. entered.mirror q d;
        others_since = λ q d. since_kept w entered_state q (entered.whole q d) same_ms (λ p. same_front w entered_state q p (ap (λ rs. (row_at (record (member_at w q) { rows = rs }) p).base) (entered.rows q d)) (entered.log p));
        unknown = ap (λ k. (sight_of k).is_registered n) view_now ∙ same_synced n ∙ ap (λ i. (entry_in v.entries i).synced) (sym f.good.next_id) ∙ unregistered;
        logs = logs_same w entered_state entered.log;
        sent = logs_sent w entered_state same_ms entered.log;
      });
      rises = λ q p r _. ⊎_elim
          (λ (is : q ≡ n). absurd (false≢true (sym (ap runs_phase none_there) ∙ ap (runs w) (sym is) ∙ r)))
          (λ (d : q ≢ n). omega (arith, entered.got q p d))
          (cases_eq q n);
      masters = record {
        some = omega (arith, ap length same_ms, h.some);
        member = omega (arith, ap last_of same_ms, entered.many, h.member);
        term = ap (top 0) entered.views ∙ tops.1 ∙ sym (ap (λ (k : Group). k.term) view_now);
      };
    }
      where
        newest_now : newest entered_state ≡ newest w + 1
        newest_now = omega (arith, ap length entered.views, length_push w.views (admitted_view w x name), f.good.inv.is_ring.some)

        view_now : view_in entered_state (newest entered_state) ≡ admitted_view w x name
        view_now = ap (view_in entered_state) newest_now ∙ ap (λ vs. get_or vs (newest w + 1) no_group) entered.views ∙ get_or_push w.views (admitted_view w x name) no_group (newest w + 1) (omega (arith, f.good.inv.is_ring.some))

        tops : (masters_of (w.views ++ admitted_view w x name ∷ []) ≡ masters_of w.views) × (top 0 (w.views ++ admitted_view w x name ∷ []) ≡ (admitted_view w x name).term)
        tops = same_top w.views (admitted_view w x name) (sym h.term)

        same_ms : masters_of entered_state.views ≡ masters_of w.views
        same_ms = ap masters_of entered.views ∙ tops.0
