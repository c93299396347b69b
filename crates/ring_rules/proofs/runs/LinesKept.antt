-- How the events keep where the packets of a link begin and end.
use Rattle.std.proofs.Common.{◌≡◌, ◌≢◌, ℕ, ◌+◌, ◌<◌, ◌≤◌, Bool, true, false, cond, nat_eq, List, [], ◌∷◌, ◌++◌, length, drop, get_or, Option, Some, None, is_some, refl, sym, ap, subst, ◌∙◌, if◌then◌else◌, arith, ⊎_elim}
use Rattle.queue_mirror.specs.Mirror.{MirrorState}
use Rattle.std.proofs.lemmas.Bool.{false≢true, cases_lt}
use Rattle.std.proofs.lemmas.List.{length-set, length_push, get_or_append_left}
use Rattle.queue_core.specs.declared.message.Message.{Message}
use Rattle.group_view.specs.Ring.{is_in}
use Rattle.group_view.specs.View.{Group, between as group_between}
use Rattle.group_view.specs.Since.{no_group, KeepsLeft}
use Rattle.ring_rules.proofs.events.Composed.{end_composed}
use Rattle.ring_rules.specs.View.{ids, right_of, between, left_by, left_of}
use Rattle.ring_rules.specs.Machine.{Waiting, Up, Packet, Member, Ending, Moved, Halted, Link, World, no_link, no_member, no_sending, row_at, numbers_at, member_at, link_at, view_in, newest, runs, runs_phase, is_kept, oldest, Sending, left}
use Rattle.ring_rules.specs.Step.{copied, copied_at, size, log_of, next_packet, pushed, popped, put_on, gain_on, publish_at, published, take_from, taker, is_owned, current_is, with_current, leave_link, finished, ended, stop_at, stopped, end_out, with_member, with_link, with_view, look_at, moved_to, kept_current, open_to, opened_link, begun, begin_from, joiner, admitted_view, come_to}
use Rattle.ring_rules.specs.Rows.{taken_row, Row}
use Rattle.ring_rules.proofs.events.WhatRefuses.{MayTake, MayBegin}
use Rattle.ring_rules.specs.Event.{at_door, send_to, refreshed}
use Rattle.ring_rules.proofs.rings.Lists.{at_set, at_push, get_or_beyond}
use Rattle.ring_rules.proofs.invariants.Good.{IsRing, true_kept}
use Rattle.group_view.specs.Since as group
use Rattle.ring_rules.proofs.invariants.Shape.{shaped_kept}
use Rattle.ring_rules.proofs.walks.Views.{view_old, view_new, kept_old}
use Rattle.ring_rules.proofs.walks.Refresh.{kept_less}
use Rattle.ring_rules.proofs.walks.Open.{with_opened}
use Rattle.ring_rules.proofs.walks.Take.{row_at-taker}
use Rattle.ring_rules.proofs.walks.Packets.{reads_forgot, line_of_packet}
use Rattle.ring_rules.proofs.invariants.Kept.{Inv}
use Rattle.ring_rules.proofs.invariants.KeptLook.{kept_current-Some}
use Rattle.ring_rules.proofs.invariants.KeptCast.{gained_rows}
use Rattle.ring_rules.proofs.invariants.FromLeft.{version_some, HasViews, IsGood, StandsAtDoor, found_at_door, door_kept}
use Rattle.ring_rules.proofs.invariants.Happens.{come_views}
use Rattle.ring_rules.proofs.invariants.KeptAdmit.{CanJoin, there_still, receivers}
use Rattle.ring_rules.proofs.invariants.KeptBegin.{begin_row}
use Rattle.ring_rules.proofs.runs.OwnLogs.{IsLogged}
use Rattle.ring_rules.specs.Lawful.{PacketsAreWithin, NumbersAreWithin}
use Rattle.ring_rules.proofs.runs.Apart.{forgot_below, first_below}
use Rattle.ring_rules.proofs.runs.Lines.{IsChain, HasFirst, BeginsBy, chain_push, chain_drop, first_push, begins_push, begins_drop, next_later, next_first, LinesRight, SameLine, Still, lines_still}
use Rattle.ring_rules.proofs.events.Leaves.{come_each}

-- ---- links and members that change alone

-- a link as it was
same_line : (l : Link) → SameLine l l
same_line l = record { sender = refl; receiver = refl; opened = refl; packets = refl; sending = refl; had = refl; over = λ o. o }

-- it is kept as long
same_kept : (w : World) (l l' : Link) (v : ℕ) → SameLine l l' → is_kept w l' v ≡ is_kept w l v
same_kept w l l' v k = shaped_kept w l l' v (record { sender = k.sender; receiver = k.receiver; opened = k.opened })

-- a link that keeps its packets
pub link_still : (w : World) (s : ℕ) (l : Link) → s < length w.links → SameLine (link_at w s) l → Still w (with_link w s l)
link_still w s l lt k =
    let lines : (j : ℕ) → SameLine (link_at w j) (link_at (with_link w s l) j) = λ j. at_set (λ i a. SameLine (link_at w i) a) w.links s j l no_link lt k (λ _. same_line (link_at w j)) in
    record {
      many = length-set w.links s l;
      same_size = refl;
      lines = lines;
      runs_less = λ y r. r;
      ups = λ y e. e;
      waits = λ y e. e;
      keeps = λ y j r e. sym (same_kept w (link_at w j) (link_at (with_link w s l) j) (member_at w y).version (lines j)) ∙ e;
      current = λ y j e. e;
      stays = λ y j l o e c. c;
      owned = λ y j p r e. ap (λ z. is_owned (view_in w (member_at w y).version) y z p) (lines j).sender;
      got = λ y p. omega arith;
    }

-- what is asked of a member that changes
pub record Eases (w : World) (x : ℕ) (m : Member) : Type 0 where
  pub runs_less : runs_phase m.phase ≡ true → runs w x ≡ true
  pub ups : m.phase ≡ Up → (member_at w x).phase ≡ Up
  pub waits : m.phase ≡ Waiting → (member_at w x).phase ≡ Waiting
  pub keeps : (s : ℕ) → is_kept w (link_at w s) m.version ≡ true → is_kept w (link_at w s) (member_at w x).version ≡ true
  pub current : (s : ℕ) → m.current ≡ Some s → (member_at w x).current ≡ Some s
  pub stays : (s : ℕ) → is_kept w (link_at w s) m.version ≡ true → (member_at w x).current ≡ Some s → m.current ≡ Some s
  pub owned : (s p : ℕ) → m.current ≡ Some s → is_owned (view_in w m.version) x (link_at w s).sender p ≡ is_owned (view_in w (member_at w x).version) x (link_at w s).sender p
  pub got : (p : ℕ) → (row_at (member_at w x) p).got ≤ (row_at m p).got

-- it runs, has its view and takes as before
eases : (w : World) (x : ℕ) (m : Member) → m.phase ≡ (member_at w x).phase → m.version ≡ (member_at w x).version → m.current ≡ (member_at w x).current → ((p : ℕ) → (row_at (member_at w x) p).got ≤ (row_at m p).got) → Eases w x m
eases w x m phase version current got = record {
  runs_less = λ r. sym (ap runs_phase phase) ∙ r;
  ups = λ e. sym phase ∙ e;
  waits = λ e. sym phase ∙ e;
  keeps = λ s e. sym (ap (is_kept w (link_at w s)) version) ∙ e;
  current = λ s e. sym current ∙ e;
  stays = λ s _ e. current ∙ e;
  owned = λ s p _. ap (λ v. is_owned (view_in w v) x (link_at w s).sender p) version;
  got = got;
}

-- a member that changes so
pub member_still : (w : World) (x : ℕ) (m : Member) → x < size w → Eases w x m → Still w (with_member w x m)
member_still w x m lt k = record {
  many = refl;
  same_size = length-set w.members x m;
  lines = λ s. same_line (link_at w s);
  runs_less = λ y. at_set (λ i a. runs_phase a.phase ≡ true → runs w i ≡ true) w.members x y m no_member lt k.runs_less (λ _ r. r);
  ups = λ y. at_set (λ i a. a.phase ≡ Up → (member_at w i).phase ≡ Up) w.members x y m no_member lt k.ups (λ _ e. e);
  waits = λ y. at_set (λ i a. a.phase ≡ Waiting → (member_at w i).phase ≡ Waiting) w.members x y m no_member lt k.waits (λ _ e. e);
  keeps = λ y s _. at_set (λ i a. is_kept w (link_at w s) a.version ≡ true → is_kept w (link_at w s) (member_at w i).version ≡ true) w.members x y m no_member lt (k.keeps s) (λ _ e. e);
  current = λ y s. at_set (λ i a. a.current ≡ Some s → (member_at w i).current ≡ Some s) w.members x y m no_member lt (k.current s) (λ _ e. e);
  stays = λ y s _ _. at_set (λ i a. is_kept w (link_at w s) a.version ≡ true → (member_at w i).current ≡ Some s → a.current ≡ Some s) w.members x y m no_member lt (k.stays s) (λ _ _ e. e);
  owned = λ y s p _. at_set (λ i a. a.current ≡ Some s → is_owned (view_in w a.version) i (link_at w s).sender p ≡ is_owned (view_in w (member_at w i).version) i (link_at w s).sender p) w.members x y m no_member lt (k.owned s p) (λ _ _. refl);
  got = λ y p. at_set (λ i a. (row_at (member_at w i) p).got ≤ (row_at a p).got) w.members x y m no_member lt (k.got p) (λ _. omega arith);
}

-- ---- a publish, a stop, an end that is taken

-- a publish
pub cast_still : (w : World) (x : ℕ) (m : Message) → x < size w → Still w (publish_at w x m)
cast_still w x m lt = member_still w x (published x m (member_at w x)) lt
    (eases w x (published x m (member_at w x)) refl refl refl (λ p. gained_rows m (λ a b. a.got ≤ b.got) x p (member_at w x) (λ r. omega arith) (omega arith)))

-- a copy that is done
pub copied_still : (w : World) (x : ℕ) (m : MirrorState) → x < size w → Still w (copied_at w x m)
copied_still w x m lt = member_still w x (copied m (member_at w x)) lt (eases w x (copied m (member_at w x)) refl refl refl (λ p. omega arith))

-- a gain of credit
pub gain_still : (w : World) (o : ℕ) → o < length w.links → Still w (gain_on w o)
gain_still w o lt = link_still w o _ lt (record { sender = refl; receiver = refl; opened = refl; packets = refl; sending = refl; had = refl; over = λ e. e })

-- the end of a link
pub end_still : (w : World) (o : ℕ) (why : Ending) → o < length w.links → Still w (with_link w o (ended why (link_at w o)))
end_still w o why lt = link_still w o (ended why (link_at w o)) lt (record { sender = refl; receiver = refl; opened = refl; packets = refl; sending = refl; had = refl; over = λ e. e })

-- a stop, before the out link ends
pub stop_still : (w : World) (x : ℕ) → x < size w → Still w (stop_at w x)
stop_still w x lt = member_still w x (stopped (member_at w x)) lt (record {
  runs_less = λ r. absurd (false≢true r);
  ups = λ e. cc;
  waits = λ e. cc;
  keeps = λ s e. e;
  current = λ s e. e;
  stays = λ s _ e. e;
  owned = λ s p e. refl;
  got = λ p. omega arith;
})

-- a whole stop
pub stop_lines : (w : World) (x : ℕ) → x < size w → runs w x ≡ true → Inv w → LinesRight w → LinesRight (end_out Halted (stop_at w x) (member_at w x).out)
stop_lines w x lt rx inv h = end_composed LinesRight Halted (stop_at w x) (member_at w x).out
    (λ o e k. lines_still (stop_at w x) _ (end_still (stop_at w x) o Halted (inv.linked.out_lt x o rx e)) k)
    (lines_still w (stop_at w x) (stop_still w x lt) h)

-- the current link was taken to its end
pub leave_still : (w : World) (y s : ℕ) → y < size w → s < length w.links → (member_at w y).current ≡ Some s → Still w (leave_link w y s)
leave_still w y s yl lt c =
    let w' : World = leave_link w y s in
    let m : Member = with_current None (member_at w y) in
    let l : Link = finished (link_at w s) in
    let lines : (j : ℕ) → SameLine (link_at w j) (link_at w' j) = λ j. at_set (λ i a. SameLine (link_at w i) a) w.links s j l no_link lt
    (record { sender = refl; receiver = refl; opened = refl; packets = refl; sending = refl; had = refl; over = λ e. absurd (false≢true (sym e)) }) (λ _. same_line (link_at w j)) in
    let version : (q : ℕ) → (member_at w' q).version ≡ (member_at w q).version = λ q. at_set (λ i a. a.version ≡ (member_at w i).version) w.members y q m no_member yl refl (λ _. refl) in
    let done : (j : ℕ) → s ≡ j → (link_at w' j).over ≡ true = λ j e. at_set (λ i a. i ≡ s → a.over ≡ true) w.links s j l no_link lt (λ _. refl) (λ d is. absurd (d is)) (sym e) in
    record {
      many = length-set w.links s l;
      same_size = length-set w.members y m;
      lines = lines;
      runs_less = λ q. at_set (λ i a. runs_phase a.phase ≡ true → runs w i ≡ true) w.members y q m no_member yl (λ r. r) (λ _ r. r);
      ups = λ q. at_set (λ i a. a.phase ≡ Up → (member_at w i).phase ≡ Up) w.members y q m no_member yl (λ e. e) (λ _ e. e);
      waits = λ q. at_set (λ i a. a.phase ≡ Waiting → (member_at w i).phase ≡ Waiting) w.members y q m no_member yl (λ e. e) (λ _ e. e);
      keeps = λ q j _ e. sym (same_kept w (link_at w j) (link_at w' j) (member_at w q).version (lines j)) ∙ ap (is_kept w (link_at w' j)) (sym (version q)) ∙ e;
      current = λ q j. at_set (λ i a. a.current ≡ Some j → (member_at w i).current ≡ Some j) w.members y q m no_member yl (λ e. cc) (λ _ e. e);
      stays = λ q j _ o _. at_set (λ i a. (member_at w i).current ≡ Some j → a.current ≡ Some j) w.members y q m no_member yl
          (λ e. let same : s ≡ j = (let both : Some s ≡ Some j = sym c ∙ e in cc) in absurd (false≢true (sym o ∙ done j same))) (λ _ e. e);
      owned = λ q j p _ _. ap (λ v. is_owned (view_in w v) q (link_at w' j).sender p) (version q) ∙ ap (λ z. is_owned (view_in w (member_at w q).version) q z p) (lines j).sender;
      got = λ q p. at_set (λ i a. (row_at (member_at w i) p).got ≤ (row_at a p).got) w.members y q m no_member yl (omega arith) (λ _. omega arith);
    }

-- ---- a put

-- The first packet of a link begins where its sender had forgotten, and each later one where the last one ended.
pub put_lines : (w : World) (x o : ℕ) → (member_at w x).phase ≡ Up → (member_at w x).out ≡ Some o → Inv w → LinesRight w → LinesRight (put_on w x o)
put_lines w x o up out inv h = record {
  begun = λ s l. at_set (λ i a. i < length w.links → a.sending.fresh ≡ true → a.packets ≡ []) w.links o s new no_link lt (λ _ e. absurd (false≢true e)) (λ _ l2. h.begun s l2) (within s l);
  chain = λ s l. at_set (λ i a. i < length w.links → IsChain a.packets a.sending.sent) w.links o s new no_link lt
      (λ _. chain_push old.packets old.sending k (h.begun o lt) (h.chain o lt) (λ e p. next_later (member_at w x) old.sending p e)) (λ _ l2. h.chain s l2) (within s l);
  untouched = λ y s l r. at_set (λ i a. i < length w.links → a.receiver ≡ y → a.over ≡ false → is_kept w a (member_at w y).version ≡ true → (member_at w y).current ≢ Some i → HasFirst a.had a.packets) w.links o s new no_link lt
      (λ _ to over kept c. first_push old.had old.packets k (h.untouched y o lt r to over kept c)) (λ _ l2. h.untouched y s l2 r) (within s l);
  waits = λ y s e. at_set (λ i a. (member_at w y).current ≡ Some i → a.had.fresh ≡ true) w.links o s new no_link lt (h.waits y o e) (λ _. h.waits y s e);
  current = λ y s p r e some l. at_set (λ i a. (member_at w y).current ≡ Some i → is_owned (view_in w (member_at w y).version) y a.sender p ≡ false → BeginsBy a.packets a.sending p (row_at (member_at w y) p).got) w.links o s new no_link lt
      (λ c own. begins_push old.packets old.sending new.sending k p (row_at (member_at w y) p).got (h.current y o p r c some l own)
      (λ fresh.
      let first : (numbers_at k p).lo ≤ (numbers_at k p).forgot = next_first (member_at w x) old.sending p fresh in
      let same : (numbers_at k p).forgot ≡ (row_at (member_at w x) p).forgot = line_of_packet (λ j. j.forgot) (λ a. a.forgot) (member_at w x) old.sending p reads_forgot in
      let below : (row_at (member_at w x) p).forgot ≤ (row_at (member_at w y) p).got = forgot_below w x y p inv.is_ring (inv.walks p some l) up r in
      omega arith)
      (next_later (member_at w x) old.sending p))
      (λ _ c own. h.current y s p r c some l own) e;
}
  where
    lt : o < length w.links
    lt = inv.linked.out_lt x o (ap runs_phase up) out

    old : Link
    old = link_at w o

    k : Packet
    k = next_packet (member_at w x) old.sending

    new : Link
    new = pushed old k

    within : (s : ℕ) → s < length (put_on w x o).links → s < length w.links
    within s l = omega (arith, length-set w.links o new)

-- ---- a take

-- a member has the same view, and takes from the same link
pub record StandsAs (a b : Member) : Type 0 where
  pub current : b.current ≡ a.current
  pub version : b.version ≡ a.version
  pub runs : runs_phase b.phase ≡ runs_phase a.phase

-- y becomes b, and the oldest packet of link s is gone
abbrev pub popped_at : World → ℕ → ℕ → Member → World
popped_at w y s b = with_link (with_member w y b) s (popped (link_at w s))

-- of each member that is up, its row of each origin and the link from which it takes
abbrev pub EachTakes : (ℕ → ℕ → Row → ℕ → Link → Type 0) → World → Type 0
EachTakes F w = (y s p : ℕ) → (member_at w y).phase ≡ Up → (member_at w y).current ≡ Some s → p < size w → F (member_at w y).version y (row_at (member_at w y) p) p (link_at w s)

-- where a member takes from its current link, and what holds of its own row and that link is known
module _ (w : World) (y s : ℕ) (b : Member) (yl : y < size w) (ry : runs w y ≡ true) (takes : (member_at w y).current ≡ Some s) (stands : StandsAs (member_at w y) b) (inv : Inv w) where
  abbrev w' : World
  w' = popped_at w y s b

  abbrev new : Link
  new = popped (link_at w s)

  is_there : s < length w.links
  is_there = inv.current.lt y s ry takes

  receiver : (link_at w s).receiver ≡ y
  receiver = inv.current.receiver y s ry takes

  stands_still : (z : ℕ) → StandsAs (member_at w z) (member_at w' z)
  stands_still z = at_set (λ i a. StandsAs (member_at w i) a) w.members y z b no_member yl stands (λ _. record { current = refl; version = refl; runs = refl })

  pub pop_takes : (F : ℕ → ℕ → Row → ℕ → Link → Type 0) → ((p : ℕ) → p < size w → F (member_at w y).version y (row_at b p) p (popped (link_at w s))) → EachTakes F w → EachTakes F (popped_at w y s b)
  pop_takes F here h z t p up e l =
      let pl : p < size w = omega (arith, length-set w.members y b) in
      let c : (member_at w z).current ≡ Some t = sym ((stands_still z).current) ∙ e in
      subst (λ v. F v z (row_at (member_at w' z) p) p (link_at w' t)) (sym ((stands_still z).version))
      (at_set (λ i a. i ≡ z → a.phase ≡ Up → F (member_at w z).version z (row_at a p) p (link_at w' t)) w.members y z b no_member yl
      (λ is _. mine is c pl) (λ d _ uz. others d uz c pl) refl up)
    where
      mine : y ≡ z → (member_at w z).current ≡ Some t → p < size w → F (member_at w z).version z (row_at b p) p (link_at w' t)
      mine is c pl =
          let it : t ≡ s = (let both : Some s ≡ Some t = sym takes ∙ ap (λ q. (member_at w q).current) is ∙ c in cc) in
          at_set (λ i a. i ≡ s → F (member_at w z).version z (row_at b p) p a) w.links s t new no_link is_there
          (λ _. subst (λ q. F (member_at w q).version q (row_at b p) p new) is (here p pl)) (λ d k. absurd (d k)) it

      others : z ≢ y → (member_at w z).phase ≡ Up → (member_at w z).current ≡ Some t → p < size w → F (member_at w z).version z (row_at (member_at w z) p) p (link_at w' t)
      others d uz c pl =
          at_set (λ i a. (member_at w z).current ≡ Some i → F (member_at w z).version z (row_at (member_at w z) p) p a) w.links s t new no_link is_there
          (λ c2. absurd (d (sym (inv.current.receiver z s (ap runs_phase uz) c2) ∙ receiver))) (λ _ c2. h z t p uz c2 pl) c

  -- so where the next packet begins no later than the member stands then
  pub pop_lines : b.phase ≡ Up → ((p : ℕ) → p < size w → is_owned (view_in w (member_at w y).version) y (link_at w s).sender p ≡ false → BeginsBy (drop 1 (link_at w s).packets) (link_at w s).sending p (row_at b p).got)
      → LinesRight w → LinesRight (popped_at w y s b)
  pop_lines up begins h = record {
    begun = λ t l. at_set (λ i a. i < length w.links → a.sending.fresh ≡ true → a.packets ≡ []) w.links s t new no_link is_there (λ l2 e. ap (drop 1) (h.begun s l2 e)) (λ _ l2. h.begun t l2) (within t l);
    chain = λ t l. at_set (λ i a. i < length w.links → IsChain a.packets a.sending.sent) w.links s t new no_link is_there
        (λ l2. chain_drop (link_at w s).packets (link_at w s).sending.sent (h.chain s l2)) (λ _ l2. h.chain t l2) (within t l);
    untouched = λ z t l r to over kept c.
        let c2 : (member_at w z).current ≢ Some t = λ e. c ((stands_still z).current ∙ e) in
        let kept2 : is_kept w (link_at w' t) (member_at w z).version ≡ true = ap (is_kept w (link_at w' t)) (sym ((stands_still z).version)) ∙ kept in
        at_set (λ i a. i < length w.links → a.receiver ≡ z → a.over ≡ false → is_kept w a (member_at w z).version ≡ true → (member_at w z).current ≢ Some i → HasFirst a.had a.packets) w.links s t new no_link is_there
        (λ _ to2 _ _ none. absurd (none (ap (λ q. (member_at w q).current) (sym to2 ∙ receiver) ∙ takes)))
        (λ _ l2. h.untouched z t l2 (sym ((stands_still z).runs) ∙ r)) (within t l) to over kept2 c2;
    waits = λ z t e c.
        let waited : (z ≢ y) × ((member_at w z).phase ≡ Waiting) = at_set (λ i a. a.phase ≡ Waiting → (i ≢ y) × ((member_at w i).phase ≡ Waiting)) w.members y z b no_member yl (λ e2. let bad : Up ≡ Waiting = sym up ∙ e2 in absurd (cc)) (λ ne k. (ne, k)) e in
        at_set (λ i a. (member_at w z).current ≡ Some i → a.had.fresh ≡ true) w.links s t new no_link is_there
        (λ c2. absurd (waited.0 (sym (inv.current.receiver z s (ap runs_phase waited.1) c2) ∙ receiver))) (λ _ c2. h.waits z t waited.1 c2) (sym ((stands_still z).current) ∙ c);
    current = λ z t p up e some l own.
        pop_takes (λ v i r q a. 1 ≤ q → is_owned (view_in w v) i a.sender q ≡ false → BeginsBy a.packets a.sending q r.got) (λ q ql _. begins q ql) (λ q u o uq c ol k. h.current q u o uq c k ol) z t p up e (omega (arith, l)) some own;
  }
    where
      within : (t : ℕ) → t < length w'.links → t < length w.links
      within t l = omega (arith, length-set w.links s new)

-- The next packet begins where the taken one ends, and there the taker stands now.
pub take_lines : (w : World) (y s : ℕ) → MayTake w y s → Inv w → LinesRight w → LinesRight (take_from w y s)
take_lines w y s m inv h =
    let old : Link = link_at w s in
    let ry : runs w y ≡ true = ap runs_phase m.up in
    pop_lines w y s (taker w y s) m.is_member ry m.current (record { current = refl; version = refl; runs = refl }) inv m.up
    (λ p pl own.
    let row : (row_at (taker w y s) p).got ≡ (numbers_at (oldest old) p).got =
    ap (λ a. a.got) (row_at-taker w y s p pl) ∙ ap (λ b. (taken_row b (log_of w p) (row_at (member_at w y) p) (numbers_at (oldest old) p)).got) own in
    subst (BeginsBy (drop 1 old.packets) old.sending p) (sym row) (begins_drop old.packets old.sending p m.has (h.chain s (inv.current.lt y s ry m.current)))) h

-- and where the first one ends, there the member stands that waited for it
pub begin_lines : (w : World) (y s : ℕ) → MayBegin w y s → Inv w → LinesRight w → LinesRight (begin_from w y s)
begin_lines w y s m inv h =
    let old : Link = link_at w s in
    let ry : runs w y ≡ true = ap runs_phase m.waits in
    pop_lines w y s (begun (size w) (member_at w y) (oldest old)) m.is_member ry m.current (record { current = refl; version = refl; runs = sym ry }) inv refl
    (λ p pl _. subst (BeginsBy (drop 1 old.packets) old.sending p) (sym (ap (λ a. a.got) (begin_row w y s p pl))) (begins_drop old.packets old.sending p m.has (h.chain s (inv.current.lt y s ry m.current)))) h

-- ---- a pick

-- Nothing was taken from the link that is picked, so that it has its first packet.
pub pick_lines : (w : World) (y s : ℕ) → y < size w → (member_at w y).phase ≡ Up → is_some (member_at w y).current ≡ false → at_door w y ≡ Some s → (link_at w s).opened ≤ (member_at w y).version → IsGood w → LinesRight w → LinesRight (current_is w y (Some s))
pick_lines w y s yl up none door upto good h = record {
  begun = h.begun;
  chain = h.chain;
  untouched = λ z t l. at_set (λ i a. runs_phase a.phase ≡ true → (link_at w t).receiver ≡ i → (link_at w t).over ≡ false → is_kept w (link_at w t) a.version ≡ true → a.current ≢ Some t → HasFirst (link_at w t).had (link_at w t).packets) w.members y z m no_member yl
      (λ r to over kept _. h.untouched y t l r to over kept (no_current t)) (λ _. h.untouched z t l);
  waits = λ z t. at_set (λ i a. a.phase ≡ Waiting → a.current ≡ Some t → (link_at w t).had.fresh ≡ true) w.members y z m no_member yl
      (λ e2 _. let bad : Up ≡ Waiting = sym up ∙ e2 in absurd (cc)) (λ _. h.waits z t);
  current = λ z t p r e some l.
      let pl : p < size w = omega (arith, length-set w.members y m) in
      at_set (λ i a. a.phase ≡ Up → a.current ≡ Some t → is_owned (view_in w a.version) i (link_at w t).sender p ≡ false → BeginsBy (link_at w t).packets (link_at w t).sending p (row_at a p).got) w.members y z m no_member yl
      (λ _ c _. let same : s ≡ t = cc in subst (λ j. BeginsBy (link_at w j).packets (link_at w j).sending p (row_at (member_at w y) p).got) same (begins p some pl))
      (λ _ r2 c own. h.current z t p r2 c some pl own) r e;
}
  where
    m : Member
    m = with_current (Some s) (member_at w y)

    ry : runs w y ≡ true
    ry = ap runs_phase up

    d : StandsAtDoor w y s
    d = found_at_door w y s door

    no_current : (t : ℕ) → (member_at w y).current ≢ Some t
    no_current t e = false≢true (sym none ∙ ap is_some e)

    begins : (p : ℕ) → 1 ≤ p → p < size w → BeginsBy (link_at w s).packets (link_at w s).sending p (row_at (member_at w y) p).got
    begins p some l = by_packets (link_at w s).packets refl (h.untouched y s d.there ry d.receiver d.goes_on (door_kept w y s good d upto) (no_current s))
      where
        by_packets : (ks : List Packet) → (link_at w s).packets ≡ ks → HasFirst (link_at w s).had ks → BeginsBy ks (link_at w s).sending p (row_at (member_at w y) p).got
        by_packets [] e f = absurd f
        by_packets (k ∷ ks) e f = omega (arith, f.1 p, first_below w y s p k ks good.inv.is_ring (good.inv.walks p some l) up d.there d.receiver (door_kept w y s good d upto) e)

-- the current links of those that are up are there
abbrev pub TakesWithin : World → Type 0
TakesWithin w = (y s : ℕ) → (member_at w y).phase ≡ Up → (member_at w y).current ≡ Some s → s < length w.links

-- ---- a link that opens

-- it has its first packet
opened_lines : (w : World) (x z : ℕ) → TakesWithin w → LinesRight w → LinesRight (with_opened w (opened_link w x z))
opened_lines w x z within h = record {
  begun = λ s l. at_push (λ i a. a.sending.fresh ≡ true → a.packets ≡ []) w.links s new no_link (upto s l) (λ e. absurd (false≢true e)) (h.begun s);
  chain = λ s l. at_push (λ i a. IsChain a.packets a.sending.sent) w.links s new no_link (upto s l) refl (h.chain s);
  untouched = λ y s l r. at_push (λ i a. a.receiver ≡ y → a.over ≡ false → is_kept w a (member_at w y).version ≡ true → (member_at w y).current ≢ Some i → HasFirst a.had a.packets) w.links s new no_link (upto s l)
      (λ _ _ _ _. (refl, λ p. next_first (member_at w x) no_sending p refl)) (λ l2. h.untouched y s l2 r);
  waits = λ y s e c. ⊎_elim
      (λ (l : s < length w.links + 1). at_push (λ i a. (member_at w y).current ≡ Some i → a.had.fresh ≡ true) w.links s new no_link l (λ _. refl) (λ _. h.waits y s e) c)
      (λ (ge : length w.links + 1 ≤ s). ap (λ (a : Link). a.had.fresh) (get_or_beyond (w.links ++ new ∷ []) s no_link (omega (arith, length_push w.links new))))
      (cases_lt s (length w.links + 1));
  current = λ y s p r e some l.
      at_push (λ i a. i < length w.links → is_owned (view_in w (member_at w y).version) y a.sender p ≡ false → BeginsBy a.packets a.sending p (row_at (member_at w y) p).got) w.links s new no_link (omega (arith, within y s r e))
      (λ bad _. absurd (omega arith)) (λ _ _. h.current y s p r e some l) (within y s r e);
}
  where
    new : Link
    new = opened_link w x z

    upto : (s : ℕ) → s < length (w.links ++ new ∷ []) → s < length w.links + 1
    upto s l = omega (arith, length_push w.links new)

-- its sender knows it as its out link
pub out_still : (w : World) (x z : ℕ) → x < size w → Still (with_opened w (opened_link w x z)) (open_to w x z)
out_still w x z lt = let y : Member = record (member_at w x) { out = Some (length w.links) } in
    member_still (with_opened w (opened_link w x z)) x y lt (eases (with_opened w (opened_link w x z)) x y refl refl refl (λ p. omega arith))

-- both together
open_lines : (w : World) (x z : ℕ) → x < size w → TakesWithin w → LinesRight w → LinesRight (open_to w x z)
open_lines w x z lt within h = lines_still (with_opened w (opened_link w x z)) (open_to w x z) (out_still w x z lt) (opened_lines w x z within h)

-- ---- a refresh

-- what a member answers for against the sender of its current link is the same in a later view up to which that is kept
abbrev pub OwnedStays : World → ℕ → ℕ → Type 0
OwnedStays w x v = (s p : ℕ) → (member_at w x).current ≡ Some s → is_kept w (link_at w s) v ≡ true → is_owned (view_in w v) x (link_at w s).sender p ≡ is_owned (view_in w (member_at w x).version) x (link_at w s).sender p

-- the member has a later view
pub look_still : (w : World) (x v : ℕ) → x < size w → (member_at w x).version ≤ v → OwnedStays w x v → Still w (look_at w x v)
look_still w x v lt later same = member_still w x (moved_to w x v) lt (record {
  runs_less = λ r. r;
  ups = λ e. e;
  waits = λ e. e;
  keeps = λ s e. kept_less w (link_at w s) (member_at w x).version v later e;
  current = λ s e. (kept_current-Some (λ j. is_kept w (link_at w j) v) (member_at w x).current s e).0;
  stays = λ s k e. ap (kept_current (λ j. is_kept w (link_at w j) v)) e ∙ ap (λ b. cond b (Some s) None) k;
  owned = λ s p e. let k = kept_current-Some (λ j. is_kept w (link_at w j) v) (member_at w x).current s e in same s p k.0 k.1;
  got = λ p. omega arith;
})

-- they are
pub takes_within : (w : World) → Inv w → TakesWithin w
takes_within w inv y s up e = inv.current.lt y s (ap runs_phase up) e

-- also where a member looks at another view
pub look_within : (w : World) (x v : ℕ) → x < size w → TakesWithin w → TakesWithin (look_at w x v)
look_within w x v lt within y s =
    at_set (λ i a. a.phase ≡ Up → a.current ≡ Some s → s < length w.links) w.members x y (moved_to w x v) no_member lt
    (λ r e. within x s r (kept_current-Some (λ j. is_kept w (link_at w j) v) (member_at w x).current s e).0) (λ _ r e. within y s r e)

-- a whole refresh, of what holds of the current links that are there
pub refresh_takes : (P : World → Type 0) (w : World) (x v : ℕ) → x < size w → TakesWithin w → ((o : ℕ) → (member_at w x).out ≡ Some o → o < length w.links)
    → ((o : ℕ) → o < length w.links → P (look_at w x v) → P (with_link (look_at w x v) o (ended Moved (link_at w o))))
    → ((u : World) (z : ℕ) → x < size u → TakesWithin u → P u → P (open_to u x z))
    → P (look_at w x v) → P (refreshed w x v)
refresh_takes P w x v lt inside outs ends opens h = by_out (member_at w x).out refl
  where
    w1 : World
    w1 = look_at w x v

    z : ℕ
    z = right_of (view_in w v) x

    there_too : x < size w1
    there_too = omega (arith, length-set w.members x (moved_to w x v))

    by_receiver : (o : ℕ) → (member_at w x).out ≡ Some o → (b : Bool) → P (if b then w1 else open_to (with_link w1 o (ended Moved (link_at w o))) x z)
    by_receiver o e true = h
    by_receiver o e false = opens (with_link w1 o (ended Moved (link_at w o))) z there_too
        (λ y s r c. let l : s < length w.links = look_within w x v lt inside y s r c in omega (arith, length-set w.links o (ended Moved (link_at w o))))
        (ends o (outs o e) h)

    by_out : (o : Option ℕ) → (member_at w x).out ≡ o → P (send_to w1 x z o)
    by_out None e = opens w1 z there_too (look_within w x v lt inside) h
    by_out (Some o) e = by_receiver o e (nat_eq (link_at w o).receiver z)

pub refresh_lines : (w : World) (x v : ℕ) → x < size w → (member_at w x).version ≤ v → OwnedStays w x v → TakesWithin w → ((o : ℕ) → (member_at w x).out ≡ Some o → o < length w.links) → LinesRight w → LinesRight (refreshed w x v)
refresh_lines w x v lt later same inside outs h = refresh_takes LinesRight w x v lt inside outs
    (λ o there k. lines_still (look_at w x v) _ (end_still (look_at w x v) o Moved there) k) (λ u z. open_lines u x z)
    (lines_still w (look_at w x v) (look_still w x v lt later same) h)

-- ---- what a member answers for

-- it answers for the same ones as long as its left neighbour stays
pub owned_same : (w : World) (x z u v p : ℕ) → HasViews w → 1 ≤ u → u ≤ v → v < length w.views → ((k : ℕ) → u ≤ k → k ≤ v → is_in x (ids (view_in w k)) ≡ true) → ((k : ℕ) → u ≤ k → k ≤ v → left w k x ≡ z) → is_owned (view_in w v) x z p ≡ is_owned (view_in w u) x z p
unfolding left_by group.left_at
owned_same w x z u v p h some later upto there lefts =
    ap (λ us. cond (nat_eq p x) true (is_in p us)) (view_between v ∙ stays ∙ sym (view_between u))
  where
    view_between : (k : ℕ) → between (view_in w k) z x ≡ group_between (group.view_at h.groups k).entries z x
    view_between k = ap (λ vs. between (get_or vs k no_group) z x) h.is

    keeps : KeepsLeft h.groups x z u v
    keeps k a b = sym (ap (λ vs. left_of (get_or vs k no_group) x) h.is) ∙ lefts k a b

    stays : group_between (group.view_at h.groups v).entries z x ≡ group_between (group.view_at h.groups u).entries z x
    stays = h.ends.history.between_stays u v x z some later (omega (arith, ap length h.is))
        (ap (λ vs. is_in x (ids (get_or vs u no_group))) (sym h.is) ∙ there u (omega arith) later) keeps

pub owned_stays : (w : World) (x v : ℕ) → IsGood w → runs w x ≡ true → (member_at w x).version ≤ v → v ≤ newest w → OwnedStays w x v
owned_stays w x v good rx later upto s p c kept =
    let inv : Inv w = good.inv in
    owned_same w x (link_at w s).sender (member_at w x).version v p good.views (version_some w x good rx) later (omega (arith, inv.is_ring.some))
    (λ k a b. inv.is_ring.stands x k rx a (omega arith))
    (λ k a b. ap (left w k) (sym (inv.current.receiver x s rx c)) ∙ true_kept w (link_at w s) v kept k (omega (arith, inv.current.opened x s rx c)) b)

-- ---- a mark

-- each view that a member has is there
pub held_lt : (w : World) → IsRing w → (y : ℕ) → (member_at w y).version < length w.views
held_lt w h y = omega (arith, h.held y, h.some)

-- a view more
pub mark_still : (w : World) (g : Group) → IsRing w → Still w (with_view w g)
mark_still w g hr =
    record {
      many = refl;
      same_size = refl;
      lines = λ s. same_line (link_at w s);
      runs_less = λ y r. r;
      ups = λ y e. e;
      waits = λ y e. e;
      keeps = λ y s r e. sym (kept_old w g (link_at w s) (member_at w y).version (held_lt w hr y)) ∙ e;
      current = λ y s e. e;
      stays = λ y s l o k e. e;
      owned = λ y s p r e. ap (λ a. is_owned a y (link_at w s).sender p) (view_old w g (member_at w y).version (held_lt w hr y));
      got = λ y p. omega arith;
    }

-- a whole mark, or an erasure
pub mark_lines : (w : World) (x : ℕ) (g : Group) → x < size w → (member_at w x).phase ≡ Up → IsGood w → IsGood (with_view w g) → LinesRight w → LinesRight (refreshed (with_view w g) x (newest w + 1))
mark_lines w x g lt up good after h =
    let held : (member_at w x).version ≤ newest w = good.inv.is_ring.held x in
    let more : length (w.views ++ g ∷ []) ≡ length w.views + 1 = length_push w.views g in
    let some : 0 < length w.views = good.inv.is_ring.some in
    refresh_lines (with_view w g) x (newest w + 1) lt (omega arith)
    (owned_stays (with_view w g) x (newest w + 1) after (ap runs_phase up) (omega arith) (omega arith))
    (takes_within (with_view w g) after.inv) (λ o e. after.inv.linked.out_lt x o (ap runs_phase up) e) (lines_still w (with_view w g) (mark_still w g good.inv.is_ring) h)

-- ---- an admission

-- it has no link yet, and nothing is said of it
come_lines : (w : World) (m : ℕ) (name : List ℕ) → CanJoin w m → IsLogged w → LinesRight w → LinesRight (come_to w m name)
come_lines w m name j l h = record {
  begun = h.begun;
  chain = h.chain;
  untouched = λ y s lt r to over. come_each w m name y (λ i a. i ≡ y → runs_phase a.phase ≡ true → is_kept w1 (link_at w s) a.version ≡ true → a.current ≢ Some s → HasFirst (link_at w s).had (link_at w s).packets)
      (λ is _ _ _. absurd (let less : (link_at w s).receiver < size w = receivers w m name j s lt in omega (arith, less, to, is)))
      (λ yl _ r2 kept c. h.untouched y s lt r2 to over (sym (kept_old w g (link_at w s) (member_at w y).version (held_lt w j.inv.is_ring y)) ∙ kept) c)
      (λ _ _ r2. absurd (false≢true r2)) refl r;
  waits = λ y s e c. come_each w m name y (λ i a. a.phase ≡ Waiting → a.current ≡ Some s → (link_at w s).had.fresh ≡ true)
      (λ _ c2. let is : length w.links ≡ s = cc in ap (λ (a : Link). a.had.fresh) (get_or_beyond w.links s no_link (omega (arith, is))))
      (λ _. h.waits y s) (λ _ bad. cc) e c;
  current = λ y s p up c some lt. come_each w m name y (λ i a. i ≡ y → a.phase ≡ Up → a.current ≡ Some s → is_owned (view_in w1 a.version) i (link_at w s).sender p ≡ false → BeginsBy (link_at w s).packets (link_at w s).sending p (row_at a p).got)
      (λ _ bad. cc)
      (λ yl _ up2 c2 own. ⊎_elim
      (λ (pl : p < size w). h.current y s p up2 c2 some pl (ap (λ a. is_owned a y (link_at w s).sender p) (sym (view_old w g (member_at w y).version (held_lt w j.inv.is_ring y))) ∙ own))
      (λ (ge : size w ≤ p). nothing (length (log_of w p)) (link_at w s).packets (link_at w s).sending p (row_at (member_at w y) p).got (ap (λ a. length a.log) (get_or_beyond w.members p no_member ge)) (l.within.packets s p) (l.within.sent s p))
      (cases_lt p (size w)))
      (λ _ _ bad. cc) refl up c;
}
  where
    g : Group
    g = admitted_view w m name

    w1 : World
    w1 = come_to w m name

    nothing : (n : ℕ) (ks : List Packet) (s : Sending) (p got : ℕ) → n ≡ 0 → PacketsAreWithin n p ks → NumbersAreWithin n (numbers_at s.sent p) → BeginsBy ks s p got
    nothing n [] s p got z a b = λ _. omega (arith, b.got, z)
    nothing n (k ∷ ks) s p got z a b = omega (arith, a.0.lo, z)

-- m answers for the same ones in the view in which it admits one
pub come_owned : (w : World) (m : ℕ) (name : List ℕ) → CanJoin w m → IsGood w → OwnedStays (come_to w m name) m (newest w + 1)
come_owned w m name j good = owned
  where
    g : Group
    g = admitted_view w m name

    w1 : World
    w1 = come_to w m name

    rm : runs w m ≡ true
    rm = ap runs_phase j.up

    was_m : member_at w1 m ≡ member_at w m
    was_m = get_or_append_left w.members (joiner w name ∷ []) no_member m j.is_member

    some : 0 < length w.views
    some = j.inv.is_ring.some

    held : (member_at w m).version ≤ newest w
    held = j.inv.is_ring.held m

    stands : (k : ℕ) → (member_at w m).version ≤ k → k ≤ newest w + 1 → is_in m (ids (view_in w1 k)) ≡ true
    stands k a b = ⊎_elim
        (λ (lt : k < length w.views). ap (λ v. is_in m (ids v)) (view_old w g k lt) ∙ j.inv.is_ring.stands m k rm a (omega arith))
        (λ (ge : length w.views ≤ k). ap (λ v. is_in m (ids v)) (view_new w g k (omega arith)) ∙ there_still w m name j m (j.inv.is_ring.stands m (newest w) rm held (omega arith)))
        (cases_lt k (length w.views))

    owned : OwnedStays w1 m (newest w + 1)
    owned s p c kept =
        let takes : (member_at w m).current ≡ Some s = sym (ap (λ a. a.current) was_m) ∙ c in
        owned_same (with_view w g) m (link_at w s).sender (member_at w m).version (newest w + 1) p (come_views w m name j good.views) (version_some w m good rm) (omega arith) (omega (arith, length_push w.views g)) stands
        (λ k a b. ap (left w1 k) (sym (j.inv.current.receiver m s rm takes)) ∙ true_kept w1 (link_at w s) (newest w + 1) kept k (omega (arith, j.inv.current.opened m s rm takes)) b)
        ∙ ap (λ v. is_owned (view_in w1 v) m (link_at w s).sender p) (sym (ap (λ a. a.version) was_m))

-- the current links of those that are up are there
pub come_within : (w : World) (m : ℕ) (name : List ℕ) → CanJoin w m → TakesWithin (come_to w m name)
come_within w m name j y s = come_each w m name y (λ i a. a.phase ≡ Up → a.current ≡ Some s → s < length w.links) (λ bad. cc) (λ _ up c. takes_within w j.inv y s up c) (λ _ bad. cc)

-- m is as it was
pub come_was : (w : World) (m : ℕ) (name : List ℕ) → m < size w → member_at (come_to w m name) m ≡ member_at w m
come_was w m name lt = get_or_append_left w.members (joiner w name ∷ []) no_member m lt

-- a whole admission
pub admit_lines : (w : World) (m : ℕ) (name : List ℕ) → CanJoin w m → IsGood w → IsLogged w → LinesRight w → LinesRight (refreshed (come_to w m name) m (newest w + 1))
admit_lines w m name j good l h =
    let was_m : member_at (come_to w m name) m ≡ member_at w m = come_was w m name j.is_member in
    refresh_lines (come_to w m name) m (newest w + 1) (omega (arith, j.is_member, length_push w.members (joiner w name))) (omega (arith, ap (λ a. a.version) was_m, j.inv.is_ring.held m))
    (come_owned w m name j good) (come_within w m name j)
    (λ o e. j.inv.linked.out_lt m o (ap runs_phase j.up) (sym (ap (λ a. a.out) was_m) ∙ e))
    (come_lines w m name j l h)
