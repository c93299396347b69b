-- What was last sent over a current link that holds no packet, its receiver has; and so it has what it took last there.
use Rattle.std.proofs.Common.{◌≡◌, ◌≢◌, ℕ, ◌+◌, ◌<◌, ◌≤◌, Bool, true, false, cond, not, nat_eq, List, [], ◌∷◌, ◌++◌, length, drop, get_or, set, Some, None, is_some, refl, sym, ap, subst, ◌∙◌, ⊎_elim, arith}
use Rattle.queue_mirror.specs.Mirror.{MirrorState}
use Rattle.std.proofs.lemmas.Bool.{and_parts, false≢true, cases_eq, cases_lt, not-true}
use Rattle.std.proofs.lemmas.List.{length-set, length_push, get_or-set_other}
use Rattle.std.proofs.lemmas.List.Quantifiers.{position-Some}
use Rattle.queue_core.specs.declared.message.Message.{Message}
use Rattle.ring_names.specs.declared.numbers.CreditSpec.{CreditSpec}
use Rattle.group_view.specs.Ring.{is_in}
use Rattle.group_view.specs.View.{Group}
use Rattle.group_view.specs.Change.{AreOpeningNames, marked}
use Rattle.ring_rules.proofs.events.Composed.{end_composed}
use Rattle.ring_rules.specs.declared.numbers.Numbers.{Numbers}
use Rattle.ring_rules.specs.Rows.{Row, no_row, published_row, taken_row}
use Rattle.ring_rules.specs.Refusal.{is_empty}
use Rattle.ring_rules.specs.View.{between}
use Rattle.ring_rules.specs.Machine.{Up, Moved, Halted, Packet, Member, Link, World, no_packet, no_link, no_member, row_at, numbers_at, member_at, link_at, view_in, newest, runs, runs_phase, is_kept, oldest, Ending}
use Rattle.ring_rules.specs.Step.{copied, copied_at, size, log_of, put_on, pushed, next_packet, gain_on, publish_at, published, take_from, taker, begun, begun_row, begin_from, is_owned, current_is, with_current, leave_link, stop_at, stopped, end_out, ended, with_member, with_link, with_view, look_at, moved_to, open_to, opened_link, opening_link, popped, joiner, admitted_view, come_to, opening}
use Rattle.ring_rules.specs.Event.{is_at_door, at_door, refreshed, erased_view, synced_view}
use Rattle.ring_rules.specs.Act.{Act, refusal, effect, IsRun, last}
use Rattle.ring_rules.specs.Lawful.{RowIsWithin, NumbersAreWithin}
use Rattle.ring_rules.specs.Compact.{Has}
use Rattle.ring_rules.proofs.events.WhatRefuses.{MayTake, MayBegin}
use Rattle.ring_rules.proofs.rings.Lists.{at_set, at_push, get_or_beyond}
use Rattle.ring_rules.proofs.rings.Rounds.{nat_eq-is, nat_eq-same}
use Rattle.ring_rules.proofs.walks.Views.{view_old}
use Rattle.ring_rules.proofs.walks.Open.{with_opened}
use Rattle.ring_rules.proofs.walks.Take.{row_at-taker}
use Rattle.ring_rules.proofs.invariants.Kept.{Inv}
use Rattle.ring_rules.proofs.invariants.KeptCast.{gained_rows}
use Rattle.ring_rules.proofs.invariants.KeptBegin.{begin_row}
use Rattle.ring_rules.proofs.invariants.KeptAdmit.{CanJoin}
use Rattle.ring_rules.proofs.invariants.Happens.{IsGood, opening_good, can_join, door_pickable, mark_good, run_acts, erase_good, sync_there, sync_good}
use Rattle.ring_rules.proofs.events.Cases.{each_act}
use Rattle.ring_rules.proofs.events.First.{first_row, first_link}
use Rattle.ring_rules.proofs.runs.Lines.{IsChain, HasFirst, LinesRight, SameLine, Still}
use Rattle.ring_rules.proofs.runs.LinesKept.{copied_still, OwnedStays, TakesWithin, takes_within, cast_still, gain_still, end_still, stop_still, leave_still, look_still, out_still, mark_still, owned_stays, come_owned, come_within, come_was, StandsAs, pop_takes, popped_at, refresh_takes, held_lt}
use Rattle.ring_rules.proofs.events.Leaves.{come_each}
use Rattle.ring_rules.proofs.runs.NoGap.{act_lines, reached_lines}
use Rattle.ring_rules.proofs.runs.OwnLogs.{IsLogged, opening_logged, act_logged, oldest_within}
use Rattle.ring_rules.proofs.invariants.Moves.{act_moves}
use Rattle.ring_rules.proofs.invariants.Beside.{IsBeside, move_beside, opening_beside}

-- the two packets of a link of which this is so: the one put last and the one taken last
pub data Last : Type 0 where
  put_last : Last
  taken_last : Last

-- where it is so: of the one put last if the link is empty, of the one taken last if one was taken
abbrev pub Tells : Last → Link → Type 0
Tells put_last l = l.packets ≡ []
Tells taken_last l = l.had.fresh ≡ false

abbrev pub said : Last → Link → Packet
said put_last l = l.sending.sent
said taken_last l = l.had.sent

-- in a state: of each current link, and each origin
abbrev pub HasSaid : Last → World → Type 0
HasSaid t w = (y s p : ℕ) → (member_at w y).phase ≡ Up → (member_at w y).current ≡ Some s → p < size w → Tells t (link_at w s) → Has (is_owned (view_in w (member_at w y).version) y (link_at w s).sender p) (row_at (member_at w y) p) (numbers_at (said t (link_at w s)) p)

-- of what was last sent over a link without packets
abbrev pub HasSent : World → Type 0
HasSent w = HasSaid put_last w

-- ---- steps that leave the packets where they are

-- what a row had it has still
abbrev pub StillHas : World → World → Type 0
StillHas w w' = (y z p : ℕ) (k : Numbers) → Has (is_owned (view_in w (member_at w y).version) y z p) (row_at (member_at w y) p) k → Has (is_owned (view_in w (member_at w y).version) y z p) (row_at (member_at w' y) p) k

-- what such a step leaves
said_same : (t : Last) (l l' : Link) → SameLine l l' → Tells t l' → Tells t l × (said t l' ≡ said t l)
said_same put_last l l' k tells = (sym k.packets ∙ tells, ap (λ a. a.sent) k.sending)
said_same taken_last l l' k tells = (ap (λ a. a.fresh) (sym k.had) ∙ tells, ap (λ a. a.sent) k.had)

-- such a step keeps it
still_has : (t : Last) (w w' : World) → Still w w' → StillHas w w' → HasSaid t w → HasSaid t w'
still_has t w w' k rows h y s p up e l tells =
    let same = said_same t (link_at w s) (link_at w' s) (k.lines s) tells in
    let old : Has (is_owned (view_in w (member_at w y).version) y (link_at w s).sender p) (row_at (member_at w y) p) (numbers_at (said t (link_at w s)) p) =
    h y s p (k.ups y up) (k.current y s e) (omega (arith, k.same_size)) same.0 in
    let now : Has (is_owned (view_in w (member_at w y).version) y (link_at w s).sender p) (row_at (member_at w' y) p) (numbers_at (said t (link_at w s)) p) = rows y (link_at w s).sender p (numbers_at (said t (link_at w s)) p) old in
    subst (λ a. Has (is_owned (view_in w' (member_at w' y).version) y (link_at w' s).sender p) (row_at (member_at w' y) p) (numbers_at a p)) (sym same.1)
    (subst (λ b. Has b (row_at (member_at w' y) p) (numbers_at (said t (link_at w s)) p)) (sym (k.owned y s p up e)) now)

-- a member is written with its rows
same_rows : (w : World) (x : ℕ) (m : Member) (ls : List Link) → x < size w → m.rows ≡ (member_at w x).rows → StillHas w (record w { members = set w.members x m; links = ls })
same_rows w x m ls lt same y z p k h =
    let rows : (member_at (with_member w x m) y).rows ≡ (member_at w y).rows = at_set (λ i a. a.rows ≡ (member_at w i).rows) w.members x y m no_member lt same (λ _. refl) in
    subst (λ rs. Has (is_owned (view_in w (member_at w y).version) y z p) (get_or rs p no_row) k) (sym rows) h

-- nobody is written
no_rows : (w w' : World) → w'.members ≡ w.members → StillHas w w'
no_rows w w' e y z p k h = subst (λ ms. Has (is_owned (view_in w (member_at w y).version) y z p) (row_at (get_or ms y no_member) p) k) (sym e) h

-- ---- single events

-- a copy that is done writes nothing that anybody got
copied_rows : (w : World) (x : ℕ) (m : MirrorState) → x < size w → StillHas w (copied_at w x m)
copied_rows w x m lt y z p k =
    at_set (λ i a. Has (is_owned (view_in w (member_at w i).version) i z p) (row_at (member_at w i) p) k → Has (is_owned (view_in w (member_at w i).version) i z p) (row_at a p) k) w.members x y (copied m (member_at w x)) no_member lt
    (λ h. h) (λ _ h. h)

-- a publish writes what its publisher got of itself alone
cast_rows : (w : World) (x : ℕ) (m : Message) → x < size w → StillHas w (publish_at w x m)
cast_rows w x m lt y z p k =
    at_set (λ i a. Has (is_owned (view_in w (member_at w i).version) i z p) (row_at (member_at w i) p) k → Has (is_owned (view_in w (member_at w i).version) i z p) (row_at a p) k) w.members x y (published x m (member_at w x)) no_member lt
    (⊎_elim mine other (cases_eq p x)) (λ _ h. h)
  where
    own : Bool
    own = is_owned (view_in w (member_at w x).version) x z p

    mine : p ≡ x → Has own (row_at (member_at w x) p) k → Has own (row_at (published x m (member_at w x)) p) k
    mine e =
        let answers : own ≡ true = rw (ap (λ q. nat_eq q x) e ∙ nat_eq-same x) refl in
        subst (λ b. Has b (row_at (member_at w x) p) k → Has b (row_at (published x m (member_at w x)) p) k) (sym answers)
        (gained_rows m (λ a b. Has true a k → Has true b k) x p (member_at w x) (λ r h. h) (λ h. record { got = h.got; forgot = h.forgot }))

    other : p ≢ x → Has own (row_at (member_at w x) p) k → Has own (row_at (published x m (member_at w x)) p) k
    other ne h = subst (λ r. Has own r k) (sym (get_or-set_other (member_at w x).rows x p (published_row (row_at (member_at w x) x) m) no_row ne)) h

-- a packet joins, and so the link isn't empty
not_nothing : (ks : List Packet) (k : Packet) → ks ++ k ∷ [] ≢ []
not_nothing [] k e = cc
not_nothing (j ∷ ks) k e = cc

-- what a put leaves
said_put : (t : Last) (l : Link) (k : Packet) → Tells t (pushed l k) → Tells t l × (said t (pushed l k) ≡ said t l)
said_put put_last l k tells = absurd (not_nothing l.packets k tells)
said_put taken_last l k tells = (tells, refl)

-- a put
put_has : (t : Last) (w : World) (x o : ℕ) → o < length w.links → HasSaid t w → HasSaid t (put_on w x o)
put_has t w x o lt h y s p r e l tells =
    let k : Packet = next_packet (member_at w x) (link_at w o).sending in
    let own : ℕ → Bool = λ z. is_owned (view_in w (member_at w y).version) y z p in
    at_set (λ i a. (member_at w y).current ≡ Some i → Tells t a → Has (own a.sender) (row_at (member_at w y) p) (numbers_at (said t a) p)) w.links o s (pushed (link_at w o) k) no_link lt
    (λ c now. let same = said_put t (link_at w o) k now in subst (λ a. Has (own (link_at w o).sender) (row_at (member_at w y) p) (numbers_at a p)) (sym same.1) (h y o p r c l same.0))
    (λ _ c now. h y s p r c l now) e tells

-- the last packet of a link is what was last sent
last_is_sent : (ks : List Packet) (sent : Packet) → is_empty ks ≡ false → drop 1 ks ≡ [] → IsChain ks sent → sent ≡ get_or ks 0 no_packet
last_is_sent [] sent some none h = absurd (false≢true (sym some))
last_is_sent (k ∷ []) sent some none h = h
last_is_sent (k ∷ (j ∷ js)) sent some none h = let bad : j ∷ js ≡ [] = none in cc

-- what is said after a take
said_popped : (t : Last) (l : Link) → is_empty l.packets ≡ false → IsChain l.packets l.sending.sent → Tells t (popped l) → said t (popped l) ≡ oldest l
said_popped put_last l some chain tells = last_is_sent l.packets l.sending.sent some tells chain
said_popped taken_last l some chain tells = refl

-- a take, after which the taker has what the packet says
pop_has : (t : Last) (w : World) (y s : ℕ) (b : Member) → y < size w → runs w y ≡ true → (member_at w y).current ≡ Some s → StandsAs (member_at w y) b → is_empty (link_at w s).packets ≡ false → Inv w → LinesRight w
    → ((p : ℕ) → p < size w → Has (is_owned (view_in w (member_at w y).version) y (link_at w s).sender p) (row_at b p) (numbers_at (oldest (link_at w s)) p))
    → HasSaid t w → HasSaid t (popped_at w y s b)
pop_has t w y s b yl ry takes stands has inv lines here = pop_takes w y s b yl ry takes stands inv
    (λ v i r p l. Tells t l → Has (is_owned (view_in w v) i l.sender p) r (numbers_at (said t l) p))
    (λ p pl tells. subst (λ k. Has (is_owned (view_in w (member_at w y).version) y old.sender p) (row_at b p) (numbers_at k p))
    (sym (said_popped t old has (lines.chain s (inv.current.lt y s ry takes)) tells)) (here p pl))
  where
    old : Link
    old = link_at w s

-- who takes a packet has what it says
taken_has : (own : Bool) (log : List Message) (r : Row) (k : Numbers) → Has own (taken_row own log r k) k
taken_has true log r k = record { got = refl; forgot = refl }
taken_has false log r k = record { got = refl; forgot = refl }

-- a take
take_has : (t : Last) (w : World) (y s : ℕ) → MayTake w y s → Inv w → LinesRight w → HasSaid t w → HasSaid t (take_from w y s)
take_has t w y s m inv lines = pop_has t w y s (taker w y s) m.is_member (ap runs_phase m.up) m.current (record { current = refl; version = refl; runs = refl }) m.has inv lines
    (λ p pl. let own : Bool = is_owned (view_in w (member_at w y).version) y (link_at w s).sender p in
    subst (λ a. Has own a (numbers_at (oldest (link_at w s)) p)) (sym (row_at-taker w y s p pl)) (taken_has own (log_of w p) (row_at (member_at w y) p) (numbers_at (oldest (link_at w s)) p)))

-- who takes its first packet has what it says
begun_has : (own : Bool) (r : Row) (k : Numbers) → (own ≡ true → (k.got ≡ 0) × ((k.forgot ≡ 0) × (r.retired ≡ 0))) → Has own (begun_row r k) k
begun_has true r k z = let a = z refl in record { got = a.1.0 ∙ sym a.0; forgot = a.1.1 ∙ sym a.1.0 }
begun_has false r k z = record { got = refl; forgot = refl }

-- a first take
begin_has : (t : Last) (w : World) (y s : ℕ) → MayBegin w y s → Inv w → IsLogged w → IsBeside w → LinesRight w → HasSaid t w → HasSaid t (begin_from w y s)
begin_has t w y s m inv lg beside lines = pop_has t w y s (begun (size w) (member_at w y) (oldest old)) m.is_member ry m.current (record { current = refl; version = refl; runs = sym ry }) m.has inv lines
    (λ p pl. let own : Bool = is_owned (view_in w (member_at w y).version) y old.sender p in
    subst (λ a. Has own a (k p)) (sym (begin_row w y s p pl)) (begun_has own (row_at (member_at w y) p) (k p) (zeros p)))
  where
    ry : runs w y ≡ true
    ry = ap runs_phase m.waits

    old : Link
    old = link_at w s

    k : ℕ → Numbers
    k p = numbers_at (oldest old) p

    -- it answers for itself alone
    itself_alone : (p : ℕ) → is_owned (view_in w (member_at w y).version) y old.sender p ≡ true → p ≡ y
    itself_alone p own = by_same (nat_eq p y) refl own
      where
        by_same : (c : Bool) → nat_eq p y ≡ c → cond c true (is_in p (between (view_in w (member_at w y).version) old.sender y)) ≡ true → p ≡ y
        by_same true x o = nat_eq-is p y x
        by_same false x o = absurd (false≢true (ap (is_in p) (sym (beside y s m.waits m.current)) ∙ o))

    -- and nobody knows anything of it
    nothing : length (log_of w y) ≡ 0
    nothing = sym (lg.own y) ∙ (inv.joining.rows y y m.waits).0

    zeros : (p : ℕ) → is_owned (view_in w (member_at w y).version) y old.sender p ≡ true → ((k p).got ≡ 0) × (((k p).forgot ≡ 0) × ((row_at (member_at w y) p).retired ≡ 0))
    zeros p own =
        let is : p ≡ y = itself_alone p own in
        let said : NumbersAreWithin (length (log_of w p)) (k p) = oldest_within (length (log_of w p)) p old.packets (lg.within.packets s p) in
        let none : length (log_of w p) ≡ 0 = ap (λ q. length (log_of w q)) is ∙ nothing in
        (omega (arith, said.got, none), (omega (arith, said.forgot, none), omega (arith, (lg.within.rows y p).retired, none)))

-- the end of a link was taken
leave_has : (t : Last) (w : World) (y s : ℕ) → y < size w → s < length w.links → (member_at w y).current ≡ Some s → HasSaid t w → HasSaid t (leave_link w y s)
leave_has t w y s yl lt c h = still_has t w (leave_link w y s) (leave_still w y s yl lt c) (same_rows w y (with_current None (member_at w y)) (leave_link w y s).links yl refl) h

-- a link ends
end_has : (t : Last) (why : Ending) (w : World) (o : ℕ) → o < length w.links → HasSaid t w → HasSaid t (with_link w o (ended why (link_at w o)))
end_has t why w o lt h = still_has t w (with_link w o (ended why (link_at w o))) (end_still w o why lt) (no_rows w (with_link w o (ended why (link_at w o))) refl) h

-- a stop
stop_has : (t : Last) (w : World) (x : ℕ) → x < size w → runs w x ≡ true → Inv w → HasSaid t w → HasSaid t (end_out Halted (stop_at w x) (member_at w x).out)
stop_has t w x lt rx inv h = end_composed (HasSaid t) Halted (stop_at w x) (member_at w x).out (λ o e. end_has t Halted (stop_at w x) o (inv.linked.out_lt x o rx e))
    (still_has t w (stop_at w x) (stop_still w x lt) (same_rows w x (stopped (member_at w x)) w.links lt refl) h)

-- a link that has its first packet tells nothing
said_none : (t : Last) (l : Link) → HasFirst l.had l.packets → Tells t l → ⊥
said_none put_last l first tells = has_none l.packets first tells
  where
    has_none : (ks : List Packet) → HasFirst l.had ks → ks ≢ []
    has_none [] f k = f
    has_none (j ∷ ks) f k = cc
said_none taken_last l first tells = has_none l.packets first
  where
    has_none : (ks : List Packet) → HasFirst l.had ks → ⊥
    has_none [] f = f
    has_none (j ∷ ks) f = false≢true (sym tells ∙ f.0)

-- the link that is picked has its first packet
pick_has : (t : Last) (w : World) (y s : ℕ) → y < size w → runs w y ≡ true → is_some (member_at w y).current ≡ false → at_door w y ≡ Some s → is_kept w (link_at w s) (member_at w y).version ≡ true → LinesRight w → HasSaid t w → HasSaid t (current_is w y (Some s))
pick_has t w y s yl ry none door kept lines h z j p r e l tells =
    let pl : p < size w = omega (arith, length-set w.members y m) in
    at_set (λ i a. a.phase ≡ Up → a.current ≡ Some j → Has (is_owned (view_in w a.version) i (link_at w j).sender p) (row_at a p) (numbers_at (said t (link_at w j)) p)) w.members y z m no_member yl
    (λ _ c. let same : s ≡ j = cc in absurd (said_none t (link_at w s) first (subst (λ i. Tells t (link_at w i)) (sym same) tells)))
    (λ _ r2 c. h z j p r2 c pl tells) r e
  where
    m : Member
    m = with_current (Some s) (member_at w y)

    found : (s < length w.links) × (is_at_door w y (link_at w s) ≡ true)
    found = let f = position-Some (is_at_door w y) w.links s no_link door in (f.0, f.1)

    first : HasFirst (link_at w s).had (link_at w s).packets
    first =
        let a = and_parts (nat_eq (link_at w s).receiver y) _ found.1 in
        lines.untouched y s found.0 ry (nat_eq-is (link_at w s).receiver y a.0) (not-true (link_at w s).over (and_parts (not (link_at w s).over) _ a.1).0) kept (λ c. false≢true (sym none ∙ ap is_some c))

-- ---- a refresh

-- the current link was there before another opened
open_has : (t : Last) (w : World) (x z : ℕ) → x < size w → TakesWithin w → HasSaid t w → HasSaid t (open_to w x z)
open_has t w x z lt within h = still_has t w1 (open_to w x z) (out_still w x z lt) (same_rows w1 x (record (member_at w x) { out = Some (length w.links) }) w1.links lt refl) now
  where
    new : Link
    new = opened_link w x z

    w1 : World
    w1 = with_opened w new

    now : HasSaid t w1
    now y s p r e l =
        let sl : s < length w.links = within y s r e in
        at_push (λ i a. i < length w.links → Tells t a → Has (is_owned (view_in w (member_at w y).version) y a.sender p) (row_at (member_at w y) p) (numbers_at (said t a) p)) w.links s new no_link (omega arith)
        (λ bad _. absurd (omega arith)) (λ _ _ none. h y s p r e l none) sl

-- a whole refresh
refresh_has : (t : Last) (w : World) (x v : ℕ) → x < size w → (member_at w x).version ≤ v → OwnedStays w x v → TakesWithin w → ((o : ℕ) → (member_at w x).out ≡ Some o → o < length w.links) → HasSaid t w → HasSaid t (refreshed w x v)
refresh_has t w x v lt later same inside outs h = refresh_takes (HasSaid t) w x v lt inside outs (end_has t Moved (look_at w x v)) (λ u z. open_has t u x z)
    (still_has t w (look_at w x v) (look_still w x v lt later same) (same_rows w x (moved_to w x v) w.links lt refl) h)

-- a mark, or an erasure
mark_has : (t : Last) (w : World) (x : ℕ) (g : Group) → x < size w → (member_at w x).phase ≡ Up → IsGood w → IsGood (with_view w g) → HasSaid t w → HasSaid t (refreshed (with_view w g) x (newest w + 1))
mark_has t w x g lt up good after h =
    let held : (member_at w x).version ≤ newest w = good.inv.is_ring.held x in
    let more : length (w.views ++ g ∷ []) ≡ length w.views + 1 = length_push w.views g in
    let some : 0 < length w.views = good.inv.is_ring.some in
    refresh_has t (with_view w g) x (newest w + 1) lt (omega arith)
    (owned_stays (with_view w g) x (newest w + 1) after (ap runs_phase up) (omega arith) (omega arith))
    (takes_within (with_view w g) after.inv) (λ o e. after.inv.linked.out_lt x o (ap runs_phase up) e)
    (still_has t w (with_view w g) (mark_still w g good.inv.is_ring) (no_rows w (with_view w g) refl) h)

-- nobody knows anything of the one that comes
-- and what is said is within the logs
said_within : (t : Last) (w : World) (s p : ℕ) → IsLogged w → NumbersAreWithin (length (log_of w p)) (numbers_at (said t (link_at w s)) p)
said_within put_last w s p lg = lg.within.sent s p
said_within taken_last w s p lg = lg.within.had s p

come_has : (t : Last) (w : World) (m : ℕ) (name : List ℕ) → CanJoin w m → IsLogged w → HasSaid t w → HasSaid t (come_to w m name)
come_has t w m name j lg h y s p up c lt tells = come_each w m name y (λ i a. a.phase ≡ Up → a.current ≡ Some s → Has (is_owned (view_in w1 a.version) i (link_at w s).sender p) (row_at a p) (numbers_at (said t (link_at w s)) p))
    (λ bad. cc)
    (λ yl uy cy. subst (λ v. Has (is_owned v y (link_at w s).sender p) (row_at (member_at w y) p) (numbers_at (said t (link_at w s)) p)) (sym (view_old w g (member_at w y).version (held_lt w j.inv.is_ring y)))
    (⊎_elim
    (λ (pl : p < size w). h y s p uy cy pl tells)
    (λ (ge : size w ≤ p).
    let none : length (log_of w p) ≡ 0 = ap (λ a. length a.log) (get_or_beyond w.members p no_member ge) in
    zeros (is_owned (view_in w (member_at w y).version) y (link_at w s).sender p) (length (log_of w p)) (row_at (member_at w y) p) (numbers_at (said t (link_at w s)) p) none (lg.within.rows y p) (said_within t w s p lg))
    (cases_lt p (size w))))
    (λ _ bad. cc) up c
  where
    g : Group
    g = admitted_view w m name

    w1 : World
    w1 = come_to w m name

    zeros : (own : Bool) (n : ℕ) (r : Row) (k : Numbers) → n ≡ 0 → RowIsWithin n r → NumbersAreWithin n k → Has own r k
    zeros true n r k z a b = record { got = omega (arith, a.forgot, b.got, z); forgot = omega (arith, a.retired, b.forgot, z) }
    zeros false n r k z a b = record { got = omega (arith, a.got, b.got, z); forgot = omega (arith, a.forgot, b.forgot, z) }

-- a whole admission
admit_has : (t : Last) (w : World) (m : ℕ) (name : List ℕ) → CanJoin w m → IsGood w → IsLogged w → HasSaid t w → HasSaid t (refreshed (come_to w m name) m (newest w + 1))
admit_has t w m name j good lg h =
    let was_m : member_at (come_to w m name) m ≡ member_at w m = come_was w m name j.is_member in
    refresh_has t (come_to w m name) m (newest w + 1) (omega (arith, j.is_member, length_push w.members (joiner w name))) (omega (arith, ap (λ a. a.version) was_m, j.inv.is_ring.held m))
    (come_owned w m name j good) (come_within w m name j)
    (λ o e. j.inv.linked.out_lt m o (ap runs_phase j.up) (sym (ap (λ a. a.out) was_m) ∙ e))
    (come_has t w m name j lg h)

-- ---- every state of every run

-- what is known beside it
record IsTold (t : Last) (w : World) : Type 0 where
  pub logged : IsLogged w
  pub beside : IsBeside w
  pub lines : LinesRight w
  pub has : HasSaid t w

-- one event more
act_has : (t : Last) (w : World) (e : Act) → IsGood w → refusal w e ≡ None → IsTold t w → HasSaid t (effect w e)
act_has t w e g r k = each_act (HasSaid t) w e g (record {
  casts = λ x m u _. still_has t w (publish_at w x m) (cast_still w x m u.lt) (cast_rows w x m u.lt) k.has;
  puts = λ x o u out _. put_has t w x o (g.inv.linked.out_lt x o (ap runs_phase u.up) out) k.has;
  takes = λ y s u m. take_has t w y s m g.inv k.lines k.has;
  begins = λ y s u m. begin_has t w y s m g.inv k.logged k.beside k.lines k.has;
  leaves = λ y s u current _. leave_has t w y s u.lt (g.inv.current.lt y s (ap runs_phase u.up) current) current k.has;
  gains = λ x o u out _. still_has t w (gain_on w o) (gain_still w o (g.inv.linked.out_lt x o (ap runs_phase u.up) out)) (no_rows w (gain_on w o) refl) k.has;
  stops = λ x u. stop_has t w x u.lt u.runs_on g.inv k.has;
  marks = λ x d u m. mark_has t w x (marked (view_in w (newest w)) d) u.lt u.up g (mark_good w d m.rests m.lives g) k.has;
  erases = λ x p u m. mark_has t w x (erased_view w p) u.lt u.up g (erase_good w p m.dead g) k.has;
  syncs = λ x u m. mark_has t w x (synced_view w x) u.lt u.up g (sync_good w x (sync_there w x m g) g) k.has;
  admits = λ x name u may. admit_has t w x name (can_join w x name u.lt u.up may g) g k.logged k.has;
  refreshes = λ x v u m.
      let rx : runs w x ≡ true = ap runs_phase u.up in
      refresh_has t w x v u.lt m.later (owned_stays w x v g rx m.later m.upto) (takes_within w g.inv) (λ o e2. g.inv.linked.out_lt x o rx e2) k.has;
  picks = λ y s u none door upto. pick_has t w y s u.lt (ap runs_phase u.up) (ap is_some none) door ((door_pickable w y s door upto g).kept_yet s refl) k.lines k.has;
  refuses = k.has;
}) (λ x m u _. still_has t w (copied_at w x m) (copied_still w x m u.lt) (copied_rows w x m u.lt) k.has) r

-- every event of a run
run_told : (t : Last) (w : World) (es : List Act) → IsGood w → IsRun w es → IsTold t w → IsTold t (last w es)
run_told t = run_acts (IsTold t) (λ w e g r k. record {
  logged = act_logged w e g r k.logged;
  beside = act_moves IsGood IsBeside move_beside w e g g r k.beside;
  lines = act_lines w e g r k.logged k.lines;
  has = act_has t w e g r k;
})

-- nobody knows anything, and nothing was sent
said_nothing : (t : Last) (credit : CreditSpec) (names : List (List ℕ)) (i : ℕ) → said t (opening_link credit names i) ≡ no_packet
said_nothing put_last credit names i = refl
said_nothing taken_last credit names i = refl

said_nowhere : (t : Last) → said t no_link ≡ no_packet
said_nowhere put_last = refl
said_nowhere taken_last = refl

opening_has : (t : Last) (credit : CreditSpec) (names : List (List ℕ)) → HasSaid t (opening credit names)
opening_has t credit names y s p r e l tells =
    let w : World = opening credit names in
    let own : Bool = is_owned (view_in w (member_at w y).version) y (link_at w s).sender p in
    let nothing : numbers_at (said t (link_at w s)) p ≡ numbers_at no_packet p = ap (λ k. numbers_at k p) (first_link credit names s (λ a. said t a ≡ no_packet) (said_nothing t credit names) (said_nowhere t)) in
    subst (λ k. Has own (row_at (member_at w y) p) k) (sym nothing) (subst (λ a. Has own a (numbers_at no_packet p)) (sym (first_row credit names y p)) (zeros own))
  where
    zeros : (own : Bool) → Has own no_row (numbers_at no_packet p)
    zeros true = record { got = refl; forgot = refl }
    zeros false = record { got = refl; forgot = refl }

-- so in every state of every run of a ring with these names
pub reached_has : (t : Last) (credit : CreditSpec) (names : List (List ℕ)) (es : List Act) → AreOpeningNames names → IsRun (opening credit names) es → HasSaid t (last (opening credit names) es)
reached_has t credit names es are r = (run_told t (opening credit names) es (opening_good credit names are) r (record {
  logged = opening_logged credit names;
  beside = opening_beside credit names;
  lines = reached_lines credit names [] are tt;
  has = opening_has t credit names;
})).has
