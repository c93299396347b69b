-- Links that were taken to their end hold nothing, and nothing is put on them later.
use Rattle.std.proofs.Common.{◌≡◌, ◌≢◌, ℕ, zero, suc, ◌+◌, ◌<◌, ◌≤◌, Bool, true, false, cond, not, nat_eq, List, [], ◌∷◌, ◌++◌, length, drop, get_or, map, Option, Some, None, is_some, if◌then◌else◌, refl, sym, ap, subst, ◌∙◌, ⊎_elim, arith}
use Rattle.std.specs.Prelude.{◌&&◌}
use Rattle.std.specs.List.{range_with_len}
use Rattle.std.proofs.lemmas.Bool.{false≢true, cases_lt}
use Rattle.std.proofs.lemmas.List.{length-set, length_push, get_or_append_left, get_or_push, get_or-set_same}
use Rattle.ring_names.specs.declared.numbers.CreditSpec.{CreditSpec}
use Rattle.ring_names.specs.declared.reason.Reason.TheVariants as reason
use Rattle.ring_rules.specs.Refusal.{is_empty}
use Rattle.group_view.specs.View.{Group}
use Rattle.group_view.specs.Change.{marked}
use Rattle.ring_rules.specs.View.{right_of}
use Rattle.ring_rules.specs.Machine.{Phase, Waiting, Up, Stopped, Packet, Member, Ending, Moved, Halted, Link, World, no_link, no_member, member_at, link_at, view_in, newest, runs, runs_phase, oldest}
use Rattle.ring_rules.specs.Step.{copied, size, published, pushed, popped, next_packet, put_on, gain_on, taker, begun, current_is, with_current, leave_link, finished, ended, ended_so, stop_at, stopped, end_out, with_member, with_link, with_view, look_at, moved_to, kept_current, open_to, opened_link, opening_link, opening, come_to}
use Rattle.ring_rules.specs.Event.{end_refusal, holds_nothing, at_door, send_to, refreshed, taken_by, erased_view, synced_view}
use Rattle.ring_rules.specs.Act.{Act, refusal, effect, IsRun, last}
use Rattle.ring_rules.proofs.rings.Lists.{at_set, at_push, get_or_beyond}
use Rattle.ring_rules.proofs.invariants.Kept.{Inv}
use Rattle.ring_rules.proofs.invariants.Opening.{opening_inv}
use Rattle.ring_rules.proofs.events.Refusals.{none_of, refuse_none, open_after_end}
use Rattle.ring_rules.proofs.events.Cases.{each_act}
use Rattle.ring_rules.proofs.invariants.Happens.{IsGood, run_acts, can_join, admit_composed, joined_links}
use Rattle.ring_rules.proofs.invariants.FromLeft.{found_at_door}
use Rattle.ring_rules.proofs.invariants.KeptAdmit.{CanJoin, joined_state, join_member}

-- ---- what holds in every state

-- the link on which x sends: it is x's, and hasn't ended
pub record SendsOn (ls : List Link) (x o : ℕ) : Type 0 where
  pub lt : o < length ls
  pub sender : (get_or ls o no_link).sender ≡ x
  pub goes_on : (get_or ls o no_link).ending ≡ None

-- the link from which y takes: it goes to y, and y hasn't taken its end
pub record TakesOn (ls : List Link) (y s : ℕ) : Type 0 where
  pub lt : s < length ls
  pub receiver : (get_or ls s no_link).receiver ≡ y
  pub goes_on : (get_or ls s no_link).over ≡ false

-- a link that was taken to its end has ended, and holds no packet
pub record EndsRight (w : World) : Type 0 where
  pub ended : (s : ℕ) → (link_at w s).over ≡ true → is_some (link_at w s).ending ≡ true
  pub nothing : (s : ℕ) → (link_at w s).over ≡ true → (link_at w s).packets ≡ []
  pub sends : (x o : ℕ) → runs w x ≡ true → (member_at w x).out ≡ Some o → SendsOn w.links x o
  pub takes : (y s : ℕ) → runs w y ≡ true → (member_at w y).current ≡ Some s → TakesOn w.links y s

-- ---- one member or one link is written

-- who runs has an id
pub runs_lt : (w : World) (x : ℕ) → runs w x ≡ true → x < size w
runs_lt w x r =
    ⊎_elim
    (λ (lt : x < size w). lt)
    (λ (ge : size w ≤ x). absurd (false≢true (sym (ap (λ (y : Member). runs_phase y.phase) (get_or_beyond w.members x no_member ge)) ∙ r)))
    (cases_lt x (size w))

-- what is written of a member sends and takes rightly
ends_member : (w : World) (x : ℕ) (y : Member) → x < size w → ((o : ℕ) → runs_phase y.phase ≡ true → y.out ≡ Some o → SendsOn w.links x o) → ((s : ℕ) → runs_phase y.phase ≡ true → y.current ≡ Some s → TakesOn w.links x s) → EndsRight w → EndsRight (with_member w x y)
ends_member w x y lt out current h = record {
  ended = h.ended;
  nothing = h.nothing;
  sends = λ q o. at_set (λ k z. runs_phase z.phase ≡ true → z.out ≡ Some o → SendsOn w.links k o) w.members x q y no_member lt (out o) (λ _. h.sends q o);
  takes = λ q s. at_set (λ k z. runs_phase z.phase ≡ true → z.current ≡ Some s → TakesOn w.links k s) w.members x q y no_member lt (current s) (λ _. h.takes q s);
}

-- the links that it sends on and takes from stay
ends_same : (w : World) (x : ℕ) (y : Member) → runs w x ≡ true → y.out ≡ (member_at w x).out → y.current ≡ (member_at w x).current → EndsRight w → EndsRight (with_member w x y)
ends_same w x y rx out current h = ends_member w x y (runs_lt w x rx) (λ o _ e. h.sends x o rx (sym out ∙ e)) (λ s _ e. h.takes x s rx (sym current ∙ e)) h

-- what is written of a link goes the same way, and ends rightly
ends_link : (w : World) (s : ℕ) (l : Link) → s < length w.links → l.sender ≡ (link_at w s).sender → l.receiver ≡ (link_at w s).receiver → (l.over ≡ true → is_some l.ending ≡ true) → (l.over ≡ true → l.packets ≡ [])
    → ((x : ℕ) → runs w x ≡ true → (member_at w x).out ≡ Some s → l.ending ≡ None) → ((y : ℕ) → runs w y ≡ true → (member_at w y).current ≡ Some s → l.over ≡ false) → EndsRight w → EndsRight (with_link w s l)
ends_link w s l lt sender receiver ends holds sent taken h = record {
  ended = λ j. at_set (λ k a. a.over ≡ true → is_some a.ending ≡ true) w.links s j l no_link lt ends (λ _. h.ended j);
  nothing = λ j. at_set (λ k a. a.over ≡ true → a.packets ≡ []) w.links s j l no_link lt holds (λ _. h.nothing j);
  sends = λ x o rx e. record {
    lt = omega (arith, (h.sends x o rx e).lt, length-set w.links s l);
    sender = at_set (λ k a. a.sender ≡ (link_at w k).sender) w.links s o l no_link lt sender (λ _. refl) ∙ (h.sends x o rx e).sender;
    goes_on = at_set (λ k a. (member_at w x).out ≡ Some k → a.ending ≡ None) w.links s o l no_link lt (sent x rx) (λ _ k. (h.sends x o rx k).goes_on) e;
  };
  takes = λ y t ry e. record {
    lt = omega (arith, (h.takes y t ry e).lt, length-set w.links s l);
    receiver = at_set (λ k a. a.receiver ≡ (link_at w k).receiver) w.links s t l no_link lt receiver (λ _. refl) ∙ (h.takes y t ry e).receiver;
    goes_on = at_set (λ k a. (member_at w y).current ≡ Some k → a.over ≡ false) w.links s t l no_link lt (taken y ry) (λ _ k. (h.takes y t ry k).goes_on) e;
  };
}

-- a link opens
ends_push : (w : World) (l : Link) → l.over ≡ false → EndsRight w → EndsRight (record w { links = w.links ++ l ∷ [] })
ends_push w l goes_on h = record {
  ended = λ j over. (old j over).0;
  nothing = λ j over. (old j over).1;
  sends = λ x o rx e.
      let k = h.sends x o rx e in
      let same = get_or_append_left w.links (l ∷ []) no_link o k.lt in
      record { lt = omega (arith, k.lt, length_push w.links l); sender = ap (λ (a : Link). a.sender) same ∙ k.sender; goes_on = ap (λ (a : Link). a.ending) same ∙ k.goes_on };
  takes = λ y s ry e.
      let k = h.takes y s ry e in
      let same = get_or_append_left w.links (l ∷ []) no_link s k.lt in
      record { lt = omega (arith, k.lt, length_push w.links l); receiver = ap (λ (a : Link). a.receiver) same ∙ k.receiver; goes_on = ap (λ (a : Link). a.over) same ∙ k.goes_on };
}
  where
    old : (j : ℕ) → (get_or (w.links ++ l ∷ []) j no_link).over ≡ true → (is_some (get_or (w.links ++ l ∷ []) j no_link).ending ≡ true) × ((get_or (w.links ++ l ∷ []) j no_link).packets ≡ [])
    old j = ⊎_elim
        (λ (lt : j < length w.links + 1). at_push (λ k a. a.over ≡ true → (is_some a.ending ≡ true) × (a.packets ≡ [])) w.links j l no_link lt (λ e. absurd (false≢true (sym goes_on ∙ e))) (λ _ e. (h.ended j e, h.nothing j e)))
        (λ (ge : length w.links + 1 ≤ j) e. absurd (false≢true (sym (ap (λ (a : Link). a.over) (get_or_beyond (w.links ++ l ∷ []) j no_link (omega (arith, ge, length_push w.links l)))) ∙ e)))
        (cases_lt j (length w.links + 1))

-- ---- single events

-- a link that somebody sends on isn't over
not_over : (w : World) (x o : ℕ) → EndsRight w → SendsOn w.links x o → (link_at w o).over ≢ true
not_over w x o h k over = false≢true (sym (ap is_some k.goes_on) ∙ h.ended o over)

-- a packet goes on the out link, which isn't over
ends_put : (w : World) (x o : ℕ) → runs w x ≡ true → (member_at w x).out ≡ Some o → EndsRight w → EndsRight (put_on w x o)
ends_put w x o rx e h =
    let k = h.sends x o rx e in
    ends_link w o (pushed (link_at w o) (next_packet (member_at w x) (link_at w o).sending)) k.lt refl refl
    (h.ended o) (λ over. absurd (not_over w x o h k over)) (λ z rz ez. (h.sends z o rz ez).goes_on) (λ z rz ez. (h.takes z o rz ez).goes_on) h

-- the oldest packet is taken
ends_pop : (w : World) (s : ℕ) → s < length w.links → EndsRight w → EndsRight (with_link w s (popped (link_at w s)))
ends_pop w s lt h = ends_link w s (popped (link_at w s)) lt refl refl (h.ended s) (λ over. ap (drop 1) (h.nothing s over)) (λ z rz ez. (h.sends z s rz ez).goes_on) (λ z rz ez. (h.takes z s rz ez).goes_on) h

-- a take
ends_take : (w : World) (y s : ℕ) → runs w y ≡ true → (member_at w y).current ≡ Some s → EndsRight w → (f : Phase) → (member_at w y).phase ≡ f → EndsRight (taken_by f w y s)
ends_take w y s ry e h Waiting p = ends_pop (with_member w y (begun (size w) (member_at w y) (oldest (link_at w s)))) s (h.takes y s ry e).lt (ends_same w y (begun (size w) (member_at w y) (oldest (link_at w s))) ry refl refl h)
ends_take w y s ry e h Up p = ends_pop (with_member w y (taker w y s)) s (h.takes y s ry e).lt (ends_same w y (taker w y s) ry refl refl h)
ends_take w y s ry e h Stopped p = h

-- an empty link that ended is taken to its end
ends_leave : (w : World) (y s : ℕ) → runs w y ≡ true → (member_at w y).current ≡ Some s → is_some (link_at w s).ending ≡ true → (link_at w s).packets ≡ [] → EndsRight w → EndsRight (leave_link w y s)
ends_leave w y s ry e ending holds h =
    ends_link w1 s (finished (link_at w s)) k.lt refl refl (λ _. ending) (λ _. holds) (λ z rz ez. (h1.sends z s rz ez).goes_on)
    (λ z rz ez. absurd (another z ez (sym (h1.takes z s rz ez).receiver ∙ k.receiver))) h1
  where
    k : TakesOn w.links y s
    k = h.takes y s ry e

    w1 : World
    w1 = current_is w y None

    h1 : EndsRight w1
    h1 = ends_member w y (with_current None (member_at w y)) (runs_lt w y ry) (λ o _ eo. h.sends y o ry eo) (λ t _ et. cc) h

    another : (z : ℕ) → (member_at w1 z).current ≡ Some s → z ≢ y
    another z = at_set (λ q m. m.current ≡ Some s → q ≢ y) w.members y z (with_current None (member_at w y)) no_member (runs_lt w y ry) (λ n. cc) (λ ne _. ne)

-- a grant becomes credit
ends_gain : (w : World) (x o : ℕ) → runs w x ≡ true → (member_at w x).out ≡ Some o → EndsRight w → EndsRight (gain_on w o)
ends_gain w x o rx e h =
    ends_link w o _ (h.sends x o rx e).lt refl refl (h.ended o) (h.nothing o) (λ z rz ez. (h.sends z o rz ez).goes_on) (λ z rz ez. (h.takes z o rz ez).goes_on) h

-- a link ends on which nobody sends any more
ended_is : (why : Ending) (e : Option Ending) → is_some (ended_so why e) ≡ true
ended_is why None = refl
ended_is why (Some first) = refl

-- such a link may end
ends_end : (w : World) (why : Ending) (o : ℕ) (l : Link) → l ≡ link_at w o → o < length w.links → ((x : ℕ) → runs w x ≡ true → (member_at w x).out ≢ Some o) → EndsRight w → EndsRight (with_link w o (ended why l))
ends_end w why o l is lt nobody h =
    ends_link w o (ended why l) lt (ap (λ (a : Link). a.sender) is) (ap (λ (a : Link). a.receiver) is) (λ _. ended_is why l.ending)
    (λ over. ap (λ (a : Link). a.packets) is ∙ h.nothing o (sym (ap (λ (a : Link). a.over) is) ∙ over))
    (λ z rz ez. absurd (nobody z rz ez)) (λ z rz ez. ap (λ (a : Link). a.over) is ∙ (h.takes z o rz ez).goes_on) h

-- a stop
ends_stop : (w : World) (x : ℕ) → runs w x ≡ true → EndsRight w → EndsRight (end_out Halted (stop_at w x) (member_at w x).out)
ends_stop w x rx h = by_out (member_at w x).out refl
  where
    w1 : World
    w1 = stop_at w x

    h1 : EndsRight w1
    h1 = ends_member w x (stopped (member_at w x)) (runs_lt w x rx) (λ o r _. absurd (false≢true r)) (λ s r _. absurd (false≢true r)) h

    another : (z : ℕ) → runs w1 z ≡ true → z ≢ x
    another z = at_set (λ q m. runs_phase m.phase ≡ true → q ≢ x) w.members x z (stopped (member_at w x)) no_member (runs_lt w x rx) (λ r. absurd (false≢true r)) (λ ne _. ne)

    by_out : (o : Option ℕ) → (member_at w x).out ≡ o → EndsRight (end_out Halted w1 o)
    by_out None e = h1
    by_out (Some o) e = ends_end w1 Halted o (link_at w o) refl (h.sends x o rx e).lt (λ z rz ez. another z rz (sym (h1.sends z o rz ez).sender ∙ (h.sends x o rx e).sender)) h1

-- ---- a refresh

-- what stays of a current link was it before
kept_was : (kept : ℕ → Bool) (c : Option ℕ) (s : ℕ) → kept_current kept c ≡ Some s → c ≡ Some s
kept_was kept None s e = e
kept_was kept (Some t) s e = by_test (kept t) e
  where
    by_test : (b : Bool) → cond b (Some t) None ≡ Some s → Some t ≡ Some s
    by_test true k = k
    by_test false k = cc

-- a member has another view
ends_look : (w : World) (x v : ℕ) → runs w x ≡ true → EndsRight w → EndsRight (look_at w x v)
ends_look w x v rx h = ends_member w x (moved_to w x v) (runs_lt w x rx) (λ o _ e. h.sends x o rx e) (λ s _ e. h.takes x s rx (kept_was _ (member_at w x).current s e)) h

-- a link opens, on which its sender sends from then on
ends_open : (w : World) (x z : ℕ) → runs w x ≡ true → EndsRight w → EndsRight (open_to w x z)
ends_open w x z rx h =
    ends_member w1 x (record (member_at w x) { out = Some (length w.links) }) (runs_lt w x rx) (λ o _ e. subst (SendsOn w1.links x) (let is : length w.links ≡ o = cc in is) new) (λ s _ e. h1.takes x s rx e) h1
  where
    w1 : World
    w1 = record w { links = w.links ++ opened_link w x z ∷ [] }

    h1 : EndsRight w1
    h1 = ends_push w (opened_link w x z) refl h

    here : get_or w1.links (length w.links) no_link ≡ opened_link w x z
    here = get_or_push w.links (opened_link w x z) no_link (length w.links) refl

    new : SendsOn w1.links x (length w.links)
    new = record { lt = omega (arith, length_push w.links (opened_link w x z)); sender = ap (λ (a : Link). a.sender) here; goes_on = ap (λ (a : Link). a.ending) here }

-- the link that x sent on ends, and another opens
ends_move : (w : World) (x z o : ℕ) → runs w x ≡ true → (member_at w x).out ≡ Some o → EndsRight w → EndsRight (open_to (with_link w o (ended Moved (link_at w o))) x z)
ends_move w x z o rx e h =
    subst EndsRight (sym (open_after_end w x z o (ended Moved (link_at w o)) k.lt))
    (ends_end w2 Moved o (link_at w o) (sym same) (omega (arith, k.lt, length_push w.links (opened_link w x z))) (λ q rq eq. another q eq (sym (h2.sends q o rq eq).sender ∙ ap (λ (a : Link). a.sender) same ∙ k.sender)) h2)
  where
    k : SendsOn w.links x o
    k = h.sends x o rx e

    w2 : World
    w2 = open_to w x z

    h2 : EndsRight w2
    h2 = ends_open w x z rx h

    same : link_at w2 o ≡ link_at w o
    same = get_or_append_left w.links (opened_link w x z ∷ []) no_link o k.lt

    another : (q : ℕ) → (member_at w2 q).out ≡ Some o → q ≢ x
    another q = at_set (λ j m. m.out ≡ Some o → j ≢ x) w.members x q (record (member_at w x) { out = Some (length w.links) }) no_member (runs_lt w x rx)
        (λ n. let is : length w.links ≡ o = cc in absurd (omega (arith, is, k.lt))) (λ ne _. ne)

-- a whole refresh
ends_refresh : (w : World) (x v : ℕ) → runs w x ≡ true → EndsRight w → EndsRight (refreshed w x v)
ends_refresh w x v rx h = by_out (member_at w x).out refl
  where
    z : ℕ
    z = right_of (view_in w v) x

    w1 : World
    w1 = look_at w x v

    h1 : EndsRight w1
    h1 = ends_look w x v rx h

    now : member_at w1 x ≡ moved_to w x v
    now = get_or-set_same w.members x (moved_to w x v) no_member (runs_lt w x rx)

    r1 : runs w1 x ≡ true
    r1 = ap (λ (y : Member). runs_phase y.phase) now ∙ rx

    by_receiver : (o : ℕ) → (member_at w x).out ≡ Some o → (b : Bool) → EndsRight (if b then w1 else open_to (with_link w1 o (ended Moved (link_at w o))) x z)
    by_receiver o e true = h1
    by_receiver o e false = ends_move w1 x z o r1 (ap (λ (y : Member). y.out) now ∙ e) h1

    by_out : (o : Option ℕ) → (member_at w x).out ≡ o → EndsRight (send_to w1 x z o)
    by_out None e = ends_open w1 x z r1 h1
    by_out (Some o) e = by_receiver o e (nat_eq (link_at w o).receiver z)

-- a view is added
ends_view : (w : World) (v : Group) → EndsRight w → EndsRight (with_view w v)
ends_view w v h = record { ended = h.ended; nothing = h.nothing; sends = h.sends; takes = h.takes }

-- ---- an admission

-- the new link is what m sends on and what the new member takes from
ends_join : (w : World) (m : ℕ) (name : List ℕ) → CanJoin w m → EndsRight w → EndsRight (joined_state w m name)
ends_join w m name j h = record {
  ended = h1.ended;
  nothing = h1.nothing;
  sends = λ x o. join_member w m name j x (λ i a. runs_phase a.phase ≡ true → a.out ≡ Some o → SendsOn w1.links i o)
      (λ a out current _ e. let is : length w.links ≡ o = (let both : Some (length w.links) ≡ Some o = sym out ∙ e in cc) in subst (SendsOn w1.links m) is new)
      (λ _ e. cc) (λ _ _ r e. h1.sends x o r e) (λ _ r. absurd (false≢true r));
  takes = λ y s. join_member w m name j y (λ i a. runs_phase a.phase ≡ true → a.current ≡ Some s → TakesOn w1.links i s)
      (λ a out current _ e. h1.takes m s (ap runs_phase j.up) (current s e))
      (λ _ e. let is : length w.links ≡ s = cc in subst (TakesOn w1.links (size w)) is came) (λ _ _ r e. h1.takes y s r e) (λ _ r. absurd (false≢true r));
}
  where
    wl : World
    wl = look_at (come_to w m name) m (newest w + 1)

    l : Link
    l = opened_link wl m (size w)

    w1 : World
    w1 = record w { links = w.links ++ l ∷ [] }

    h1 : EndsRight w1
    h1 = ends_push w l refl h

    here : get_or w1.links (length w.links) no_link ≡ l
    here = get_or_push w.links l no_link (length w.links) refl

    new : SendsOn w1.links m (length w.links)
    new = record { lt = omega (arith, length_push w.links l); sender = ap (λ (a : Link). a.sender) here; goes_on = ap (λ (a : Link). a.ending) here }

    came : TakesOn w1.links (size w) (length w.links)
    came = record { lt = omega (arith, length_push w.links l); receiver = ap (λ (a : Link). a.receiver) here; goes_on = ap (λ (a : Link). a.over) here }

-- a whole admission
ends_admit : (w : World) (m : ℕ) (name : List ℕ) → CanJoin w m → EndsRight w → EndsRight (refreshed (come_to w m name) m (newest w + 1))
ends_admit w m name j h = admit_composed EndsRight w m name j
    (λ o e there old.
    let k : SendsOn w.links m o = h.sends m o (ap runs_phase j.up) e in
    ends_end (joined_state w m name) Moved o (link_at w o) (sym old) (omega (arith, there, joined_links w m name))
    (λ q. join_member w m name j q (λ i a. runs_phase a.phase ≡ true → a.out ≢ Some o)
    (λ a out current _ e2. let both : Some (length w.links) ≡ Some o = sym out ∙ e2 in let is : length w.links ≡ o = cc in omega (arith, is, there))
    (λ _ e2. cc) (λ d _ r e2. d (sym (h.sends q o r e2).sender ∙ k.sender)) (λ _ r. absurd (false≢true r)))
    (ends_join w m name j h))
    (ends_join w m name j h)

-- ---- a pick

-- the link at y's door
pub door_link : (w : World) (y s : ℕ) → at_door w y ≡ Some s → TakesOn w.links y s
door_link w y s e = let d = found_at_door w y s e in record { lt = d.there; receiver = d.receiver; goes_on = d.goes_on }

-- y takes from it
ends_pick : (w : World) (y s : ℕ) → runs w y ≡ true → at_door w y ≡ Some s → EndsRight w → EndsRight (current_is w y (Some s))
ends_pick w y s ry e h = ends_member w y (with_current (Some s) (member_at w y)) (runs_lt w y ry) (λ o _ eo. h.sends y o ry eo) (λ t _ et. subst (TakesOn w.links y) (let is : s ≡ t = cc in is) (door_link w y s e)) h

-- ---- events

-- an empty link that holds something holds its end
end_parts : (e : Bool) (b : Bool) → not e ≡ false → (e && not b) ≡ false → (e ≡ true) × (b ≡ true)
end_parts true true h k = (refl, refl)
end_parts true false h k = cc
end_parts false b h k = cc

-- a list with nothing in it
empty_is : (ks : List Packet) → is_empty ks ≡ true → ks ≡ []
empty_is [] h = refl
empty_is (k ∷ ks) h = cc

-- the conditions of the take of an end
end_none : (w : World) (s : ℕ) → end_refusal w s ≡ None → (is_some (link_at w s).ending ≡ true) × ((link_at w s).packets ≡ [])
end_none w s h =
    let a = none_of (holds_nothing (link_at w s)) reason.NothingToTake _ h in
    let b = refuse_none (not (is_empty (link_at w s).packets)) reason.PacketNext a.1 in
    let c = end_parts (is_empty (link_at w s).packets) (is_some (link_at w s).ending) b a.0 in
    (c.1, empty_is (link_at w s).packets c.0)

-- one event more
pub ends_step : (w : World) (e : Act) → IsGood w → refusal w e ≡ None → EndsRight w → EndsRight (effect w e)
ends_step w e g r h = each_act EndsRight w e g (record {
  casts = λ x m u _. ends_same w x (published x m (member_at w x)) (ap runs_phase u.up) refl refl h;
  puts = λ x o u out k. ends_put w x o (ap runs_phase u.up) out h;
  takes = λ y s u m. ends_take w y s (ap runs_phase u.up) m.current h Up u.up;
  begins = λ y s u m. ends_take w y s u.runs_on m.current h Waiting m.waits;
  leaves = λ y s u current k. let n = end_none w s k in ends_leave w y s (ap runs_phase u.up) current n.0 n.1 h;
  gains = λ x o u out k. ends_gain w x o (ap runs_phase u.up) out h;
  stops = λ x u. ends_stop w x u.runs_on h;
  marks = λ x d u m. let v : Group = marked (view_in w (newest w)) d in ends_refresh (with_view w v) x (newest w + 1) (ap runs_phase u.up) (ends_view w v h);
  erases = λ x d u m. ends_refresh (with_view w (erased_view w d)) x (newest w + 1) (ap runs_phase u.up) (ends_view w (erased_view w d) h);
  syncs = λ x u m. ends_refresh (with_view w (synced_view w x)) x (newest w + 1) (ap runs_phase u.up) (ends_view w (synced_view w x) h);
  admits = λ x name u k. ends_admit w x name (can_join w x name u.lt u.up k g) h;
  refreshes = λ x v u m. ends_refresh w x v (ap runs_phase u.up) h;
  picks = λ y s u none e upto. ends_pick w y s (ap runs_phase u.up) e h;
  refuses = h;
}) (λ x m u _. ends_same w x (copied m (member_at w x)) (ap runs_phase u.up) refl refl h) r

-- every state of every run
pub ends_run : (w : World) (es : List Act) → IsGood w → IsRun w es → EndsRight w → EndsRight (last w es)
ends_run = run_acts EndsRight ends_step

-- ---- the opening

-- no link has ended yet
pub opening_ends : (credit : CreditSpec) (names : List (List ℕ)) → EndsRight (opening credit names)
opening_ends credit names = record {
  ended = λ s over. absurd (false≢true (sym (fresh s).0 ∙ over));
  nothing = λ s over. absurd (false≢true (sym (fresh s).0 ∙ over));
  sends = λ x o rx e. record { lt = i.linked.out_lt x o rx e; sender = i.linked.out_from x o rx e; goes_on = (fresh o).1 };
  takes = λ y s ry e. record { lt = i.current.lt y s ry e; receiver = i.current.receiver y s ry e; goes_on = (fresh s).0 };
}
  where
    i : Inv (opening credit names)
    i = opening_inv credit names

    each : (xs : List ℕ) (s : ℕ) → ((get_or (map (opening_link credit names) xs) s no_link).over ≡ false) × ((get_or (map (opening_link credit names) xs) s no_link).ending ≡ None)
    each [] s = (refl, refl)
    each (x ∷ xs) zero = (refl, refl)
    each (x ∷ xs) (suc s) = each xs s

    fresh : (s : ℕ) → ((link_at (opening credit names) s).over ≡ false) × ((link_at (opening credit names) s).ending ≡ None)
    fresh s = each (range_with_len 1 (length names)) s
