-- Each event of the ring is a move of the queue's laws.
use Rattle.std.proofs.Common.{◌≡◌, ◌≢◌, ℕ, ◌<◌, ◌≤◌, ◌+◌, ◌-◌, Bool, true, false, cond, max, List, [], ◌∷◌, ◌++◌, length, take, drop, get_or, refl, sym, ap, ◌∙◌, subst, arith, ⊎_elim, Some, None}
use Rattle.std.proofs.lemmas.Bool.{cases_eq, cases_lt, false≢true}
use Rattle.std.proofs.lemmas.List.{take-append-le, take_all, drop_at, length-set, get_or-set_same, get_or-set_other}
use Rattle.queue_core.specs.declared.message.Message.{Message}
use Rattle.queue_core.specs.declared.message.Message.TheVariants.{Cast, Queue}
use Rattle.queue_mirror.specs.Mirror.{apply_ops}
use Rattle.queue_laws.specs.Part.{ops, is_up, seen, past_of}
use Rattle.queue_laws.specs.Moves.{RingGives, IsLet, slice, sent_after, Move, rest, publish, grow, join, leave, SameMasters, SameViews, SameLogs, SamePhases, SameGot, SameSent}
use Rattle.queue_laws.proofs.Good.{HaveTerms}
use Rattle.queue_laws.proofs.Terms.{acting_last, not_earlier}
use Rattle.group_view.specs.Since.{no_group}
use Rattle.ring_rules.specs.declared.phase.Phase as ring
use Rattle.ring_rules.specs.declared.phase.Phase.TheVariants.{Waiting, Up, Stopped}
use Rattle.ring_rules.specs.declared.phase.Ending.TheVariants.{Halted}
use Rattle.ring_rules.specs.Rows.{Row, no_row, published_row, taken_row, brought, messages_between}
use Rattle.ring_rules.specs.Machine.{World, Member, no_member, row_at, numbers_at, member_at, link_at, view_in, runs, runs_phase, oldest}
use Rattle.ring_rules.specs.Step.{size, log_of, published, publish_at, is_owned, brought_at, taker, take_from, begun, begin_from, stopped, stop_at, end_out}
use Rattle.ring_rules.specs.Lawful.{row_of}
use Rattle.ring_rules.specs.Laws.{GoesOn}
use Rattle.ring_rules.specs.Event.{MayPublish}
use Rattle.ring_rules.specs.OpenLinks.{first_packet, own_number}
use Rattle.ring_rules.specs.Masters.{masters_of, earlier_of, last_of, top}
use Rattle.ring_rules.specs.QueuePart.{phase_of, sight_of, got_of, masters_in, based, since_of, sent_of, sent_by, sent_in, part_of}
use Rattle.ring_rules.proofs.rings.Lists.{at_set}
use Rattle.ring_rules.proofs.rings.Maps.{flat-range_same}
use Rattle.ring_rules.proofs.events.WhatRefuses.{MayTake, MayBegin}
use Rattle.ring_rules.proofs.walks.Put.{number_up}
use Rattle.ring_rules.proofs.walks.Take.{take_number_other, row_at-taker}
use Rattle.ring_rules.proofs.walks.Begin.{begin_number_other}
use Rattle.ring_rules.proofs.invariants.KeptTake.{can_take}
use Rattle.ring_rules.proofs.invariants.KeptBegin.{begin_can, begin_row, begin_none}
use Rattle.ring_rules.proofs.runs.OwnLogs.{cast_log, cast_log_other, take_log, begin_log}
use Rattle.ring_rules.proofs.queue.Asked.{may_let}
use Rattle.ring_rules.proofs.queue.Masters.{earlier_last}
use Rattle.ring_rules.proofs.queue.Sent.{sent_push, sent_same, sent_more, past_push, since_kept}
use Rattle.ring_rules.proofs.queue.Likes.{IsLike, IsQuiet, number_alike, end_quiet, same_row}
use Rattle.ring_rules.proofs.queue.Facts.{Facts, HasMasters, Rises, got_within, log_beyond, running_is}

-- what an event is: a move, at which no counted number falls, and the masters are members
pub record Result (w w' : World) : Type 0 where
  pub move : Move (part_of w) (part_of w')
  pub rises : Rises w w'
  pub masters : HasMasters w'

pub not_both : (f : ring.Phase) → f ≡ Up → f ≡ Waiting → ⊥
not_both Waiting a b = cc
not_both Up a b = cc
not_both Stopped a b = cc

module _ (w : World) where
  pub logs_same : (w' : World) → ((p : ℕ) → log_of w' p ≡ log_of w p) → SameLogs (part_of w) (part_of w')
  logs_same w' k = record { log = k }

  pub same_views : (w' : World) → w'.views ≡ w.views → SameViews (part_of w) (part_of w')
  same_views w' e = record { newest = ap (λ vs. length vs - 1) e; view = λ v. ap (λ vs. sight_of (get_or vs v no_group)) e }

  pub masters_are : (w' : World) → masters_in w' ≡ masters_in w → SameMasters (part_of w) (part_of w')
  masters_are w' e = record { earlier = ap earlier_of e; last = ap last_of e }

  pub same_masters : (w' : World) → w'.views ≡ w.views → SameMasters (part_of w) (part_of w')
  same_masters w' e = masters_are w' (ap masters_of e)

  -- the records stay where the masters and the logs do
  pub logs_sent : (w' : World) → masters_in w' ≡ masters_in w → ((p : ℕ) → log_of w' p ≡ log_of w p) → SameSent (part_of w) (part_of w')
  logs_sent w' e k = record { sent = ap (λ ms. sent_by (log_of w') ms []) e ∙ sent_same (log_of w) (log_of w') (masters_in w) [] (λ p xs _. ap (λ l. sent_of p 0 l xs) (k p)) }

  -- with as many members and the same views
  pub masters_stay : (w' : World) → size w' ≡ size w → w'.views ≡ w.views → HasMasters w → HasMasters w'
  masters_stay w' many e h = record {
    some = omega (arith, ap (λ vs. length (masters_of vs)) e, h.some);
    member = omega (arith, ap (λ vs. last_of (masters_of vs)) e, many, h.member);
    term = ap (top 0) e ∙ h.term ∙ sym (ap (λ vs. (get_or vs (length vs - 1) no_group).term) e);
  }

  pub like_phases : (w' : World) → IsLike w w' → SamePhases (part_of w) (part_of w')
  like_phases w' k = record { phase = λ q. ap phase_of (k.phase q) }

  -- the same of a row and a log
  pub same_front : (w' : World) (q p : ℕ) → (row_of w' q p).base ≡ (row_of w q p).base → log_of w' p ≡ log_of w p → ops (take (row_of w' q p).base (log_of w' p)) ≡ ops (take (row_of w q p).base (log_of w p))
  same_front w' q p b l = ap (λ n. ops (take n (log_of w' p))) b ∙ ap (λ ms. ops (take (row_of w q p).base ms)) l

  pub like_since : (w' : World) → IsLike w w' → masters_in w' ≡ masters_in w → (q : ℕ) → since_of w' q ≡ since_of w q
  like_since w' k ms q = since_kept w w' q (k.whole q) ms (λ p. same_front w' q p (ap (λ (r : Row). r.base) (same_row w w' q p (k.rows q))) (k.log p))

  pub like_got : (w' : World) → IsLike w w' → SameGot (part_of w) (part_of w')
  like_got w' k = record { got = λ q p _. k.got q p }

  pub like_rises : (w' : World) → IsLike w w' → Rises w w'
  like_rises w' k q p _ _ = omega (arith, k.got q p)

  -- a number of one that is up
  pub rises_up : (w' : World) → GoesOn w w' → (q p : ℕ) → (member_at w q).phase ≡ Up → (member_at w' q).phase ≡ Up → got_of w q p ≤ got_of w' q p
  rises_up w' on q p a b = omega (arith, number_up (λ k. k.got) (λ r. r.got) w p q a, number_up (λ k. k.got) (λ r. r.got) w' p q b, on.never_falls.got q p)

  -- ---- what the queue doesn't see

  pub quiet : (w' : World) → IsQuiet w w' → HasMasters w → Result w w'
  quiet w' k h = record {
    move = rest (record {
      masters = same_masters w' k.views;
      views = same_views w' k.views;
      logs = logs_same w' k.like.log;
      phases = like_phases w' k.like;
      got = like_got w' k.like;
      mirrors = record { mirror = k.like.mirror; since = like_since w' k.like (ap masters_of k.views) };
      sent = logs_sent w' (ap masters_of k.views) k.like.log;
    });
    rises = like_rises w' k.like;
    masters = masters_stay w' k.like.many k.views h;
  }

  -- ---- a message

  module _ (x : ℕ) (m : Message) (some : 1 ≤ x) (lt : x < size w) (up : (member_at w x).phase ≡ Up) (f : Facts w) where
    abbrev cast : World
    cast = publish_at w x m

    cast_other : (q : ℕ) → q ≢ x → member_at cast q ≡ member_at w q
    cast_other q ne = get_or-set_other w.members x q (published x m (member_at w x)) no_member ne

    cast_me : member_at cast x ≡ published x m (member_at w x)
    cast_me = get_or-set_same w.members x (published x m (member_at w x)) no_member lt

    cast_phase : (q : ℕ) → (member_at cast q).phase ≡ (member_at w q).phase
    cast_phase q = at_set (λ k y. y.phase ≡ (member_at w k).phase) w.members x q (published x m (member_at w x)) no_member lt refl (λ _. refl)

    cast_whole : (q : ℕ) → (member_at cast q).whole ≡ (member_at w q).whole
    cast_whole q = at_set (λ k y. y.whole ≡ (member_at w k).whole) w.members x q (published x m (member_at w x)) no_member lt refl (λ _. refl)

    cast_row : (p : ℕ) → p ≢ x → row_of cast x p ≡ row_of w x p
    cast_row p ne = ap (λ y. row_at y p) cast_me ∙ get_or-set_other (member_at w x).rows x p (published_row (row_of w x x) m) no_row ne

    cast_own : row_of cast x x ≡ published_row (row_of w x x) m
    cast_own = ap (λ y. row_at y x) cast_me ∙ get_or-set_same (member_at w x).rows x (published_row (row_of w x x) m) no_row (f.logged.sized x some lt)

    other_got : (q p : ℕ) → q ≢ x → got_of cast q p ≡ got_of w q p
    other_got q p ne = number_alike (λ k. k.got) (λ r. r.got) w cast p q (cast_phase q) (ap (λ (a : Member). a.rows) (cast_other q ne)) (λ _. ap (λ (a : Member). a.current) (cast_other q ne)) (λ s _ _. refl)

    own_got : (p : ℕ) → p ≢ x → got_of cast x p ≡ got_of w x p
    own_got p ne = number_up (λ k. k.got) (λ r. r.got) cast p x (cast_phase x ∙ up) ∙ ap (λ (r : Row). r.got) (cast_row p ne) ∙ sym (number_up (λ k. k.got) (λ r. r.got) w p x up)

    cast_got : (q p : ℕ) → (q ≡ x → p ≢ x) → got_of cast q p ≡ got_of w q p
    cast_got q p h = ⊎_elim
        (λ (is : q ≡ x). ap (λ k. got_of cast k p) is ∙ own_got p (h is) ∙ ap (λ k. got_of w k p) (sym is))
        (λ (ne : q ≢ x). other_got q p ne)
        (cases_eq q x)

    -- no base changes, and none is beyond the log that was there
    cast_base : (q p : ℕ) → (row_of cast q p).base ≡ (row_of w q p).base
    cast_base q p = ⊎_elim
        (λ (is : q ≡ x). ap (λ k. (row_of cast k p).base) is ∙ mine p ∙ ap (λ k. (row_of w k p).base) (sym is))
        (λ (ne : q ≢ x). ap (λ a. (row_at a p).base) (cast_other q ne))
        (cases_eq q x)
      where
        mine : (p : ℕ) → (row_of cast x p).base ≡ (row_of w x p).base
        mine p = ⊎_elim
            (λ (is : p ≡ x). ap (λ k. (row_of cast x k).base) is ∙ ap (λ (r : Row). r.base) cast_own ∙ ap (λ k. (row_of w x k).base) (sym is))
            (λ (ne : p ≢ x). ap (λ (r : Row). r.base) (cast_row p ne))
            (cases_eq p x)

    cast_front : (q p : ℕ) → ops (take (row_of cast q p).base (log_of cast p)) ≡ ops (take (row_of w q p).base (log_of w p))
    cast_front q p = ap (λ n. ops (take n (log_of cast p))) (cast_base q p) ∙ ⊎_elim
        (λ (is : p ≡ x). ap (λ k. ops (take (row_of w q p).base (log_of cast k))) is ∙ ap (λ ms. ops (take (row_of w q p).base ms)) (cast_log w x m lt)
        ∙ ap ops (take-append-le (row_of w q p).base (log_of w x) (m ∷ []) (subst (λ k. (row_of w q p).base ≤ length (log_of w k)) is (omega (arith, f.lawful.joins.base q p, f.lawful.joins.born q p))))
        ∙ ap (λ k. ops (take (row_of w q p).base (log_of w k))) (sym is))
        (λ (ne : p ≢ x). ap (λ ms. ops (take (row_of w q p).base ms)) (cast_log_other w x p m ne))
        (cases_eq p x)

    -- a cast isn't recorded; an operation is the last master's
    cast_sent : RingGives (part_of w) → HaveTerms (part_of w) → HasMasters w → IsLet (part_of w) x m → sent_in cast ≡ sent_after x (length (log_of w x) + 1) m (sent_in w)
    cast_sent g t h let_it = by_message m refl let_it
      where
        by_message : (k : Message) → m ≡ k → IsLet (part_of w) x k → sent_in cast ≡ sent_after x (length (log_of w x) + 1) k (sent_in w)
        by_message (Cast b) e k = sent_same (log_of w) (log_of cast) (masters_in w) [] (λ p xs _. ⊎_elim
            (λ (is : p ≡ x). ap (λ j. sent_of p 0 (log_of cast j) xs) is ∙ ap (λ ms. sent_of p 0 ms xs) (cast_log w x m lt) ∙ sent_push p 0 (log_of w x) m xs
            ∙ ap (λ j. sent_after p (0 + length (log_of w x) + 1) j (sent_of p 0 (log_of w x) xs)) e ∙ ap (λ j. sent_of p 0 (log_of w j) xs) (sym is))
            (λ (ne : p ≢ x). ap (λ ms. sent_of p 0 ms xs) (cast_log_other w x p m ne))
            (cases_eq p x))
        by_message (Queue o) e k =
            let last : x ≡ last_of (masters_in w) = acting_last (part_of w) x g t (ap (λ f. is_up (phase_of f)) up) k.0 in
            let all : masters_in w ≡ earlier_of (masters_in w) ++ last_of (masters_in w) ∷ [] = sym (earlier_last (masters_in w) h.some) in
            let front : sent_by (log_of cast) (earlier_of (masters_in w)) [] ≡ sent_by (log_of w) (earlier_of (masters_in w)) [] =
            sent_same (log_of w) (log_of cast) (earlier_of (masters_in w)) [] (λ p xs i. ap (λ ms. sent_of p 0 ms xs) (cast_log_other w x p m (not_earlier (part_of w) x p g t (running_is (member_at w x).phase ∙ ap runs_phase up) i))) in
            ap (λ ms. sent_by (log_of cast) ms []) all
            ∙ sent_more (log_of cast) (earlier_of (masters_in w)) (last_of (masters_in w)) []
            ∙ ap (λ j. sent_of j 0 (log_of cast j) (sent_by (log_of cast) (earlier_of (masters_in w)) [])) (sym last)
            ∙ ap (λ rs. sent_of x 0 (log_of cast x) rs) front
            ∙ ap (λ ms. sent_of x 0 ms (sent_by (log_of w) (earlier_of (masters_in w)) [])) (cast_log w x m lt)
            ∙ sent_push x 0 (log_of w x) m (sent_by (log_of w) (earlier_of (masters_in w)) [])
            ∙ ap (λ j. sent_after x (0 + length (log_of w x) + 1) j (sent_of x 0 (log_of w x) (sent_by (log_of w) (earlier_of (masters_in w)) []))) e
            ∙ ap (λ n. sent_after x n (Queue o) (sent_of x 0 (log_of w x) (sent_by (log_of w) (earlier_of (masters_in w)) []))) (let same : 0 + length (log_of w x) + 1 ≡ length (log_of w x) + 1 = omega arith in same)
            ∙ ap (λ j. sent_after x (length (log_of w x) + 1) (Queue o) (sent_of j 0 (log_of w j) (sent_by (log_of w) (earlier_of (masters_in w)) []))) last
            ∙ ap (sent_after x (length (log_of w x) + 1) (Queue o)) (sym (sent_more (log_of w) (earlier_of (masters_in w)) (last_of (masters_in w)) []))
            ∙ ap (λ ms. sent_after x (length (log_of w x) + 1) (Queue o) (sent_by (log_of w) ms [])) (sym all)

    pub casts : MayPublish w x m → GoesOn w cast → RingGives (part_of w) → HaveTerms (part_of w) → HasMasters w → Result w cast
    casts may on g t h = record {
      move = publish x m (record {
        is_up = ap (λ f. is_up (phase_of f)) up;
        is_let = may_let w x m f.good may;
        log = cast_log w x m lt;
        others_log = λ p ne. cast_log_other w x p m ne;
        others_got = cast_got;
        mirror = ap (λ (a : Member). a.mirror) cast_me;
        others_mirror = λ q ne. ap (λ (a : Member). a.mirror) (cast_other q ne);
        since = λ q. since_kept w cast q (cast_whole q) refl (cast_front q);
        sent = cast_sent g t h (may_let w x m f.good may);
        masters = masters_are cast refl;
        views = record { newest = refl; view = λ v. refl };
        phases = record { phase = λ q. ap phase_of (cast_phase q) };
      });
      rises = λ q p _ _. ⊎_elim
          (λ (is : q ≡ x). subst (λ k. got_of w k p ≤ got_of cast k p) (sym is) (rises_up cast on x p up (cast_phase x ∙ up)))
          (λ (ne : q ≢ x). omega (arith, other_got q p ne))
          (cases_eq q x);
      masters = masters_stay cast (length-set w.members x (published x m (member_at w x))) refl h;
    }

  -- ---- a take

  module _ (y s : ℕ) (m : MayTake w y s) (f : Facts w) where
    abbrev took : World
    took = take_from w y s

    took_other : (q : ℕ) → q ≢ y → member_at took q ≡ member_at w q
    took_other q ne = get_or-set_other w.members y q (taker w y s) no_member ne

    took_me : member_at took y ≡ taker w y s
    took_me = get_or-set_same w.members y (taker w y s) no_member m.is_member

    took_phase : (q : ℕ) → (member_at took q).phase ≡ (member_at w q).phase
    took_phase q = at_set (λ k z. z.phase ≡ (member_at w k).phase) w.members y q (taker w y s) no_member m.is_member refl (λ _. refl)

    took_whole : (q : ℕ) → (member_at took q).whole ≡ (member_at w q).whole
    took_whole q = at_set (λ k z. z.whole ≡ (member_at w k).whole) w.members y q (taker w y s) no_member m.is_member refl (λ _. refl)

    took_got : (q p : ℕ) → q ≢ y → got_of took q p ≡ got_of w q p
    took_got q p ne = take_number_other (λ k. k.got) (λ r. r.got) w y s p q (can_take w y s f.good.inv m) ne

    took_up : (member_at took y).phase ≡ Up
    took_up = took_phase y ∙ m.up

    abbrev own : ℕ → Bool
    own p = is_owned (view_in w (member_at w y).version) y (link_at w s).sender p

    took_row : (p : ℕ) → p < size w → row_of took y p ≡ taken_row (own p) (log_of w p) (row_of w y p) (numbers_at (oldest (link_at w s)) p)
    took_row p pl = ap (λ a. row_at a p) took_me ∙ row_at-taker w y s p pl

    took_base : (q p : ℕ) → p < size w → (row_of took q p).base ≡ (row_of w q p).base
    took_base q p pl = ⊎_elim
        (λ (is : q ≡ y). ap (λ k. (row_of took k p).base) is ∙ ap (λ (r : Row). r.base) (took_row p pl) ∙ by_own (own p) ∙ ap (λ k. (row_of w k p).base) (sym is))
        (λ (ne : q ≢ y). ap (λ a. (row_at a p).base) (took_other q ne))
        (cases_eq q y)
      where
        by_own : (b : Bool) → (taken_row b (log_of w p) (row_of w y p) (numbers_at (oldest (link_at w s)) p)).base ≡ (row_of w y p).base
        by_own true = refl
        by_own false = refl

    took_front : (q p : ℕ) → ops (take (row_of took q p).base (log_of took p)) ≡ ops (take (row_of w q p).base (log_of w p))
    took_front q p = ⊎_elim
        (λ (pl : p < size w). same_front took q p (took_base q p pl) (take_log w y s p m.is_member))
        (λ (ge : size w ≤ p). ap (λ ms. ops (take (row_of took q p).base ms)) (take_log w y s p m.is_member) ∙ none (row_of took q p).base (log_of w p) (log_beyond w p ge) ∙ sym (none (row_of w q p).base (log_of w p) (log_beyond w p ge)))
        (cases_lt p (size w))
      where
        none : (n : ℕ) (ms : List Message) → ms ≡ [] → ops (take n ms) ≡ []
        none n ms e = ap (λ k. ops (take n k)) e ∙ ap ops (take_all n [] (omega arith))

    -- what is brought is the log from one number to the other
    took_news : GoesOn w took → (p : ℕ) → p < 0 + size w → brought_at w y s p ≡ slice (part_of w) (part_of took) y p
    took_news on p lt =
        let pl : p < size w = omega arith in
        let a : got_of w y p ≡ (row_of w y p).got = number_up (λ k. k.got) (λ r. r.got) w p y m.up in
        let b : got_of took y p ≡ (row_of took y p).got = number_up (λ k. k.got) (λ r. r.got) took p y took_up in
        let from : max (row_of w y p).got (row_of took y p).base ≡ (row_of w y p).got = omega (arith, took_base y p pl, (f.order y p).base) in
        ap ops (behind (row_of w y p).heard _ _ (sym (heard_is (own p)) ∙ ap (λ (r : Row). r.heard) (sym (took_row p pl)) ∙ on.hears y p))
        ∙ ap (λ n. ops (messages_between n (row_of took y p).got (log_of took p))) (from ∙ sym a)
        ∙ ap (λ n. ops (messages_between (got_of w y p) n (log_of took p))) (sym b)
        ∙ ap (λ g. ops (messages_between (got_of w y p) (got_of took y p) g)) (take_log w y s p m.is_member)
      where
        append_none : (xs : List Message) → xs ++ [] ≡ xs
        append_none [] = refl
        append_none (x ∷ xs) = ap (λ ys. x ∷ ys) (append_none xs)

        heard_is : (c : Bool) → (taken_row c (log_of w p) (row_of w y p) (numbers_at (oldest (link_at w s)) p)).heard ≡ (row_of w y p).heard ++ brought c (log_of w p) (row_of w y p) (numbers_at (oldest (link_at w s)) p)
        heard_is true = sym (append_none (row_of w y p).heard)
        heard_is false = refl

        behind : (xs ys zs : List Message) → xs ++ ys ≡ xs ++ zs → ys ≡ zs
        behind xs ys zs e = sym (drop_at xs ys (length xs) refl) ∙ ap (drop (length xs)) e ∙ drop_at xs zs (length xs) refl

    pub takes : GoesOn w took → HasMasters w → Result w took
    takes on h = record {
      move = grow y (record {
        is_up = ap (λ f. is_up (phase_of f)) m.up;
        others_got = λ q p ne _. took_got q p ne;
        mirror = ap (λ (a : Member). a.mirror) took_me ∙ ap (apply_ops (member_at w y).mirror) (flat-range_same (brought_at w y s) (slice (part_of w) (part_of took) y) 0 (size w) (took_news on));
        others_mirror = λ q ne. ap (λ (a : Member). a.mirror) (took_other q ne);
        since = λ q. since_kept w took q (took_whole q) refl (took_front q);
        sent = logs_sent took refl (λ p. take_log w y s p m.is_member);
        masters = masters_are took refl;
        views = record { newest = refl; view = λ v. refl };
        logs = logs_same took (λ p. take_log w y s p m.is_member);
        phases = record { phase = λ q. ap phase_of (took_phase q) };
      });
      rises = λ q p _ _. ⊎_elim
          (λ (is : q ≡ y). subst (λ k. got_of w k p ≤ got_of took k p) (sym is) (rises_up took on y p m.up took_up))
          (λ (ne : q ≢ y). omega (arith, took_got q p ne))
          (cases_eq q y);
      masters = masters_stay took (length-set w.members y (taker w y s)) refl h;
    }

  -- ---- a first take

  module _ (y s : ℕ) (m : MayBegin w y s) (f : Facts w) where
    abbrev began : World
    began = begin_from w y s

    began_other : (q : ℕ) → q ≢ y → member_at began q ≡ member_at w q
    began_other q ne = get_or-set_other w.members y q (begun (size w) (member_at w y) (oldest (link_at w s))) no_member ne

    began_y : member_at began y ≡ begun (size w) (member_at w y) (oldest (link_at w s))
    began_y = get_or-set_same w.members y (begun (size w) (member_at w y) (oldest (link_at w s))) no_member m.is_member

    began_up : (member_at began y).phase ≡ Up
    began_up = ap (λ (a : Member). a.phase) began_y

    other_phase : (q : ℕ) → q ≢ y → (member_at began q).phase ≡ (member_at w q).phase
    other_phase q ne = ap (λ (a : Member). a.phase) (began_other q ne)

    -- it counted with its first packet, and now has these numbers
    first_number : (p : ℕ) → got_of w y p ≡ (numbers_at (oldest (link_at w s)) p).got
    first_number p = ap (λ f. own_number (λ k. k.got) (λ r. r.got) w p f (member_at w y)) m.waits ∙ ap (λ c. (numbers_at (first_packet w c) p).got) m.current

    no_number : (p : ℕ) → size w ≤ p → got_of w y p ≡ 0
    no_number p ge = let none : length (log_of w p) ≡ 0 = ap length (log_beyond w p ge) in omega (arith, got_within w y p f, none)

    began_itself : (p : ℕ) → got_of began y p ≡ got_of w y p
    began_itself p = number_up (λ k. k.got) (λ r. r.got) began p y began_up ∙ ap (λ a. (row_at a p).got) began_y ∙ ⊎_elim
        (λ (pl : p < size w). ap (λ (r : Row). r.got) (begin_row w y s p pl) ∙ sym (first_number p))
        (λ (ge : size w ≤ p). ap (λ (r : Row). r.got) (begin_none w y s p ge) ∙ sym (no_number p ge))
        (cases_lt p (size w))

    -- which are its bases
    began_base : (p : ℕ) → (row_of began y p).base ≡ got_of w y p
    began_base p = ap (λ a. (row_at a p).base) began_y ∙ ⊎_elim
        (λ (pl : p < size w). ap (λ (r : Row). r.base) (begin_row w y s p pl) ∙ sym (first_number p))
        (λ (ge : size w ≤ p). ap (λ (r : Row). r.base) (begin_none w y s p ge) ∙ sym (no_number p ge))
        (cases_lt p (size w))

    began_got : (q p : ℕ) → got_of began q p ≡ got_of w q p
    began_got q p = ⊎_elim
        (λ (is : q ≡ y). ap (λ k. got_of began k p) is ∙ began_itself p ∙ ap (λ k. got_of w k p) (sym is))
        (λ (ne : q ≢ y). ap (λ a. own_number (λ k. k.got) (λ r. r.got) began p a.phase a) (began_other q ne) ∙ begin_number_other (λ k. k.got) (λ r. r.got) w y s p q (begin_can w y s f.good.inv m) ne)
        (cases_eq q y)

    -- what its bases count is what it has seen
    began_based : HasMasters w → based began y ≡ seen (part_of w) y
    began_based h =
        ap (λ ms. past_of (log_of began) (λ p. (row_of began y p).base) ms) (sym (earlier_last (masters_in w) h.some))
        ∙ past_push (log_of began) (λ p. (row_of began y p).base) (earlier_of (masters_in w)) (last_of (masters_in w))
        ∙ rw (past_is (earlier_of (masters_in w)), front (last_of (masters_in w))) refl
      where
        front : (p : ℕ) → ops (take (row_of began y p).base (log_of began p)) ≡ ops (take (got_of w y p) (log_of w p))
        front p = ap (λ n. ops (take n (log_of began p))) (began_base p) ∙ ap (λ ms. ops (take (got_of w y p) ms)) (begin_log w y s p m.is_member)

        past_is : (ms : List ℕ) → past_of (log_of began) (λ p. (row_of began y p).base) ms ≡ past_of (log_of w) (got_of w y) ms
        past_is [] = refl
        past_is (k ∷ ms) = ap (λ os. os ++ past_of (log_of began) (λ p. (row_of began y p).base) ms) (front k) ∙ ap (λ os. ops (take (got_of w y k) (log_of w k)) ++ os) (past_is ms)

    began_since : (q : ℕ) → q ≢ y → since_of began q ≡ since_of w q
    began_since q ne = since_kept w began q (ap (λ (a : Member). a.whole) (began_other q ne)) refl (λ p. same_front began q p (ap (λ a. (row_at a p).base) (began_other q ne)) (begin_log w y s p m.is_member))

    pub first_takes : HasMasters w → Result w began
    first_takes h = record {
      move = join y (record {
        waited = ap phase_of m.waits;
        phase = ap phase_of began_up;
        others_phase = λ q ne. ap phase_of (other_phase q ne);
        got = record { got = λ q p _. began_got q p };
        mirror = λ q. at_set (λ k z. z.mirror ≡ (member_at w k).mirror) w.members y q (begun (size w) (member_at w y) (oldest (link_at w s))) no_member m.is_member refl (λ _. refl);
        since = ap (λ (a : Member). cond a.whole None (Some (length (based began y)))) began_y ∙ ap (λ os. Some (length os)) (began_based h);
        others_since = began_since;
        sent = logs_sent began refl (λ p. begin_log w y s p m.is_member);
        masters = masters_are began refl;
        views = record { newest = refl; view = λ v. refl };
        logs = logs_same began (λ p. begin_log w y s p m.is_member);
      });
      rises = λ q p _ _. omega (arith, began_got q p);
      masters = masters_stay began (length-set w.members y (begun (size w) (member_at w y) (oldest (link_at w s)))) refl h;
    }

  -- ---- a stop

  module _ (x : ℕ) (lt : x < size w) where
    abbrev stopping : World
    stopping = stop_at w x

    abbrev halted : World
    halted = end_out Halted stopping (member_at w x).out

    ends : IsQuiet stopping halted
    ends = end_quiet Halted stopping (member_at w x).out

    stop_other : (q : ℕ) → q ≢ x → member_at stopping q ≡ member_at w q
    stop_other q ne = get_or-set_other w.members x q (stopped (member_at w x)) no_member ne

    halted_phase : (member_at halted x).phase ≡ Stopped
    halted_phase = ends.like.phase x ∙ ap (λ (y : Member). y.phase) (get_or-set_same w.members x (stopped (member_at w x)) no_member lt)

    halted_other : (q : ℕ) → q ≢ x → (member_at halted q).phase ≡ (member_at w q).phase
    halted_other q ne = ends.like.phase q ∙ ap (λ (y : Member). y.phase) (stop_other q ne)

    halted_rows : (q : ℕ) → (member_at halted q).rows ≡ (member_at w q).rows
    halted_rows q = ends.like.rows q ∙ at_set (λ k z. z.rows ≡ (member_at w k).rows) w.members x q (stopped (member_at w x)) no_member lt refl (λ _. refl)

    halted_log : (q : ℕ) → log_of halted q ≡ log_of w q
    halted_log q = ends.like.log q ∙ at_set (λ k z. z.log ≡ (member_at w k).log) w.members x q (stopped (member_at w x)) no_member lt refl (λ _. refl)

    halted_mirror : (q : ℕ) → (member_at halted q).mirror ≡ (member_at w q).mirror
    halted_mirror q = ends.like.mirror q ∙ at_set (λ k z. z.mirror ≡ (member_at w k).mirror) w.members x q (stopped (member_at w x)) no_member lt refl (λ _. refl)

    halted_whole : (q : ℕ) → (member_at halted q).whole ≡ (member_at w q).whole
    halted_whole q = ends.like.whole q ∙ at_set (λ k z. z.whole ≡ (member_at w k).whole) w.members x q (stopped (member_at w x)) no_member lt refl (λ _. refl)

    halted_got : (q p : ℕ) → q ≢ x → got_of halted q p ≡ got_of w q p
    halted_got q p ne = ends.like.got q p ∙ number_alike (λ k. k.got) (λ r. r.got) w stopping p q (ap (λ (a : Member). a.phase) (stop_other q ne)) (ap (λ (a : Member). a.rows) (stop_other q ne)) (λ _. ap (λ (a : Member). a.current) (stop_other q ne)) (λ s _ _. refl)

    -- who runs afterwards is another
    runs_other : (q : ℕ) → runs halted q ≡ true → q ≢ x
    runs_other q r is = false≢true (sym (ap runs_phase halted_phase) ∙ ap (runs halted) (sym is) ∙ r)

    pub stops : HasMasters w → Result w halted
    stops h = record {
      move = leave x (record {
        phase = ap phase_of halted_phase;
        others_phase = λ q ne. ap phase_of (halted_other q ne);
        got = record { got = λ q p r. halted_got q p (runs_other q (sym (running_is (member_at halted q).phase) ∙ r)) };
        mirrors = record {
          mirror = halted_mirror;
          since = λ q. since_kept w halted q (halted_whole q) (ap masters_of ends.views) (λ p. same_front halted q p (ap (λ (r : Row). r.base) (same_row w halted q p (halted_rows q))) (halted_log p));
        };
        sent = logs_sent halted (ap masters_of ends.views) halted_log;
        masters = same_masters halted ends.views;
        views = same_views halted ends.views;
        logs = logs_same halted halted_log;
      });
      rises = λ q p _ r. omega (arith, halted_got q p (runs_other q r));
      masters = masters_stay halted (ends.like.many ∙ length-set w.members x (stopped (member_at w x))) ends.views h;
    }
