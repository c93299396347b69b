-- A link that hasn't ended is the one on which its running sender sends.
use Rattle.std.proofs.Common.{◌≡◌, ◌≢◌, ℕ, ◌+◌, ◌-◌, ◌<◌, Bool, true, false, nat_eq, List, [], ◌∷◌, length, set, Option, ◌≤◌, ⊎_elim, Some, None, if◌then◌else◌, refl, sym, ap, subst, ◌∙◌, arith}
use Rattle.std.proofs.lemmas.List.{length-set, length_push, get_or_append_left}
use Rattle.std.proofs.lemmas.Bool.{false≢true, cases_lt}
use Rattle.ring_names.specs.declared.numbers.CreditSpec.{CreditSpec}
use Rattle.group_view.specs.Change.{AreOpeningNames, marked}
use Rattle.ring_rules.specs.Act.{Act, refusal, effect, IsRun, last}
use Rattle.ring_rules.specs.View.{right_of}
use Rattle.ring_rules.specs.Machine.{Ending, Moved, Halted, Member, Link, World, no_link, no_member, member_at, link_at, view_in, newest, runs, runs_phase, oldest}
use Rattle.ring_rules.specs.Step.{copied, size, published, taker, begun, joiner, come_to, popped, pushed, next_packet, current_is, with_current, finished, ended, ended_so, stop_at, stopped, end_out, with_member, with_link, with_view, look_at, moved_to, open_to, opened_link, opening, opening_member}
use Rattle.group_view.specs.View.{Group}
use Rattle.ring_rules.specs.Event.{erased_view, send_to, refreshed, synced_view}
use Rattle.ring_rules.proofs.rings.Lists.{at_set, at_push, get_or_beyond}
use Rattle.ring_rules.proofs.invariants.Kept.{Inv}
use Rattle.ring_rules.proofs.invariants.KeptAdmit.{CanJoin}
use Rattle.ring_rules.proofs.runs.LinesKept.{come_was}
use Rattle.ring_rules.proofs.events.Cases.{each_act}
use Rattle.ring_rules.proofs.invariants.Happens.{IsGood, opening_good, can_join, run_acts}
use Rattle.ring_rules.proofs.events.First.{first_at, first_link_is, first_links}

-- x runs and sends on the link o
abbrev pub SendsThere : Member → ℕ → Type 0
SendsThere x o = (runs_phase x.phase ≡ true) × (x.out ≡ Some o)

-- each link that hasn't ended has a sender that runs and sends on it
abbrev pub GoOn : World → Type 0
GoOn w = (s : ℕ) → s < length w.links → (link_at w s).ending ≡ None → SendsThere (member_at w (link_at w s).sender) s

-- ---- what is written

-- a link that keeps its sender
link_goes : (w : World) (o : ℕ) (l : Link) → o < length w.links → l.sender ≡ (link_at w o).sender → (l.ending ≡ None → (link_at w o).ending ≡ None) → GoOn w → GoOn (with_link w o l)
link_goes w o l lt from ends h s sl =
    at_set (λ i a. i < length w.links → a.ending ≡ None → SendsThere (member_at w a.sender) i) w.links o s l no_link lt
    (λ k e. subst (λ q. SendsThere (member_at w q) o) (sym from) (h o k (ends e))) (λ _ k e. h s k e) (omega (arith, length-set w.links o l))

-- a member that runs as before and sends on the same link
member_goes : (w : World) (x : ℕ) (y : Member) → x < size w → runs_phase y.phase ≡ runs_phase (member_at w x).phase → y.out ≡ (member_at w x).out → GoOn w → GoOn (with_member w x y)
member_goes w x y lt phase out h s sl e =
    at_set (λ i a. SendsThere (member_at w i) s → SendsThere a s) w.members x (link_at w s).sender y no_member lt
    (λ k. (phase ∙ k.0, out ∙ k.1)) (λ _ k. k) (h s sl e)

-- a link that ended so has ended
has_ended : (why : Ending) (e : Option Ending) → ended_so why e ≢ None
has_ended why None k = cc
has_ended why (Some first) k = cc

-- a take
pop_goes : (w : World) (y s : ℕ) (b : Member) → y < size w → s < length w.links → runs_phase b.phase ≡ runs_phase (member_at w y).phase → b.out ≡ (member_at w y).out → GoOn w → GoOn (with_link (with_member w y b) s (popped (link_at w s)))
pop_goes w y s b lt there phase out h = link_goes (with_member w y b) s (popped (link_at w s)) there refl (λ e. e) (member_goes w y b lt phase out h)

-- a stop
stop_goes : (w : World) (x : ℕ) → x < size w → runs w x ≡ true → Inv w → GoOn w → GoOn (end_out Halted (stop_at w x) (member_at w x).out)
stop_goes w x lt rx inv h = by_out (member_at w x).out refl
  where
    w1 : World
    w1 = stop_at w x

    still : (s : ℕ) → s < length w.links → (link_at w s).ending ≡ None → (member_at w x).out ≢ Some s → SendsThere (member_at w1 (link_at w s).sender) s
    still s sl e other =
        at_set (λ i a. SendsThere (member_at w i) s → SendsThere a s) w.members x (link_at w s).sender (stopped (member_at w x)) no_member lt
        (λ k. absurd (other k.1)) (λ _ k. k) (h s sl e)

    by_out : (o : Option ℕ) → (member_at w x).out ≡ o → GoOn (end_out Halted w1 o)
    by_out None out s sl e = still s sl e (λ k. let bad : None ≡ Some s = sym out ∙ k in cc)
    by_out (Some o) out s sl e =
        let l : Link = ended Halted (link_at w o) in
        at_set (λ i a. i < length w.links → a.ending ≡ None → SendsThere (member_at w1 a.sender) i) w.links o s l no_link (inv.linked.out_lt x o rx out)
        (λ _ e. absurd (has_ended Halted (link_at w o).ending e))
        (λ ne k e. still s k e (λ both. let same : Some o ≡ Some s = sym out ∙ both in ne (let is : s ≡ o = cc in is))) (omega (arith, length-set w.links o l)) e

-- a link opens, where its sender had no other that hasn't ended
open_goes : (w : World) (x z : ℕ) → x < size w → runs w x ≡ true → ((s : ℕ) → s < length w.links → (link_at w s).ending ≡ None → (link_at w s).sender ≢ x) → GoOn w → GoOn (open_to w x z)
open_goes w x z lt rx no_other h s sl =
    at_push (λ i a. a.ending ≡ None → SendsThere (member_at w1 a.sender) i) w.links s new no_link (omega (arith, length_push w.links new))
    (λ _. at_set (λ i a. i ≡ x → SendsThere a (length w.links)) w.members x x m no_member lt (λ _. (rx, refl)) (λ ne e. absurd (ne e)) refl)
    (λ l e. at_set (λ i a. i ≢ x → SendsThere (member_at w i) s → SendsThere a s) w.members x (link_at w s).sender m no_member lt (λ ne. absurd (ne refl)) (λ _ _ k. k) (no_other s l e) (h s l e))
  where
    new : Link
    new = opened_link w x z

    m : Member
    m = record (member_at w x) { out = Some (length w.links) }

    w1 : World
    w1 = open_to w x z

-- a refresh
refresh_goes : (w : World) (x v : ℕ) → x < size w → runs w x ≡ true → ((o : ℕ) → (member_at w x).out ≡ Some o → o < length w.links) → GoOn w → GoOn (refreshed w x v)
refresh_goes w x v lt rx outs h = by_out (member_at w x).out refl
  where
    w1 : World
    w1 = look_at w x v

    z : ℕ
    z = right_of (view_in w v) x

    h1 : GoOn w1
    h1 = member_goes w x (moved_to w x v) lt refl refl h

    there : x < size w1
    there = omega (arith, length-set w.members x (moved_to w x v))

    runs_still : runs w1 x ≡ true
    runs_still = at_set (λ i a. runs w i ≡ true → runs_phase a.phase ≡ true) w.members x x (moved_to w x v) no_member lt (λ r. r) (λ _ r. r) rx

    -- what x sends on, it has as its out link
    its : (s : ℕ) → s < length w.links → (link_at w s).ending ≡ None → (link_at w s).sender ≡ x → (member_at w x).out ≡ Some s
    its s sl e from = subst (λ q. (member_at w q).out ≡ Some s) from (h s sl e).1

    by_receiver : (o : ℕ) → (member_at w x).out ≡ Some o → (b : Bool) → GoOn (if b then w1 else open_to (with_link w1 o (ended Moved (link_at w o))) x z)
    by_receiver o out true = h1
    by_receiver o out false =
        let l : Link = ended Moved (link_at w o) in
        let ol : o < length w.links = outs o out in
        let many : length (set w.links o l) ≡ length w.links = length-set w.links o l in
        open_goes (with_link w1 o l) x z there runs_still
        (λ s sl. at_set (λ i a. i < length w.links → a.ending ≡ None → a.sender ≢ x) w.links o s l no_link ol
        (λ _ e. absurd (has_ended Moved (link_at w o).ending e))
        (λ ne k e from. let both : Some o ≡ Some s = sym out ∙ its s k e from in ne (let is : s ≡ o = cc in is)) (omega arith))
        (link_goes w1 o l ol refl (λ e. absurd (has_ended Moved (link_at w o).ending e)) h1)

    by_out : (o : Option ℕ) → (member_at w x).out ≡ o → GoOn (send_to w1 x z o)
    by_out None out = open_goes w1 x z there runs_still (λ s sl e from. let bad : None ≡ Some s = sym out ∙ its s sl e from in cc) h1
    by_out (Some o) out = by_receiver o out (nat_eq (link_at w o).receiver z)

-- ---- every state of every run

-- a view more, and its refresh
view_goes : (w : World) (x : ℕ) (g : Group) → x < size w → runs w x ≡ true → Inv w → GoOn w → GoOn (refreshed (with_view w g) x (newest w + 1))
view_goes w x g lt rx inv h = refresh_goes (with_view w g) x (newest w + 1) lt rx (λ o e. inv.linked.out_lt x o rx e) h

-- one that comes sends nothing yet, and its admitter opens a link to it
admit_goes : (w : World) (m : ℕ) (name : List ℕ) → CanJoin w m → GoOn w → GoOn (refreshed (come_to w m name) m (newest w + 1))
admit_goes w m name j h =
    let was_m : member_at (come_to w m name) m ≡ member_at w m = come_was w m name j.is_member in
    refresh_goes (come_to w m name) m (newest w + 1) (omega (arith, j.is_member, length_push w.members (joiner w name)))
    (ap (λ a. runs_phase a.phase) was_m ∙ ap runs_phase j.up)
    (λ o e. j.inv.linked.out_lt m o (ap runs_phase j.up) (sym (ap (λ a. a.out) was_m) ∙ e)) came
  where
    came : GoOn (come_to w m name)
    came s lt e = ⊎_elim
        (λ (l : (link_at w s).sender < size w). subst (λ a. SendsThere a s) (sym (get_or_append_left w.members (joiner w name ∷ []) no_member (link_at w s).sender l)) (h s lt e))
        (λ (ge : size w ≤ (link_at w s).sender). absurd (false≢true (ap (λ a. runs_phase a.phase) (sym (get_or_beyond w.members (link_at w s).sender no_member ge)) ∙ (h s lt e).0)))
        (cases_lt (link_at w s).sender (size w))

-- one event more
act_goes : (w : World) (e : Act) → IsGood w → refusal w e ≡ None → GoOn w → GoOn (effect w e)
act_goes w e g r h = each_act GoOn w e g (record {
  casts = λ x m u _. member_goes w x (published x m (member_at w x)) u.lt refl refl h;
  puts = λ x o u out k. link_goes w o (pushed (link_at w o) (next_packet (member_at w x) (link_at w o).sending)) (g.inv.linked.out_lt x o (ap runs_phase u.up) out) refl (λ e2. e2) h;
  takes = λ y s u m. pop_goes w y s (taker w y s) u.lt (g.inv.current.lt y s (ap runs_phase u.up) m.current) refl refl h;
  begins = λ y s u m. pop_goes w y s (begun (size w) (member_at w y) (oldest (link_at w s))) m.is_member (g.inv.current.lt y s (ap runs_phase m.waits) m.current) (sym (ap runs_phase m.waits)) refl h;
  leaves = λ y s u current k. link_goes (current_is w y None) s (finished (link_at w s)) (g.inv.current.lt y s (ap runs_phase u.up) current) refl (λ e2. e2) (member_goes w y (with_current None (member_at w y)) u.lt refl refl h);
  gains = λ x o u out k. link_goes w o _ (g.inv.linked.out_lt x o (ap runs_phase u.up) out) refl (λ e2. e2) h;
  stops = λ x u. stop_goes w x u.lt u.runs_on g.inv h;
  marks = λ x d u m. view_goes w x (marked (view_in w (newest w)) d) u.lt (ap runs_phase u.up) g.inv h;
  erases = λ x p u m. view_goes w x (erased_view w p) u.lt (ap runs_phase u.up) g.inv h;
  syncs = λ x u m. view_goes w x (synced_view w x) u.lt (ap runs_phase u.up) g.inv h;
  admits = λ x name u k. admit_goes w x name (can_join w x name u.lt u.up k g) h;
  refreshes = λ x v u m. refresh_goes w x v u.lt (ap runs_phase u.up) (λ o e2. g.inv.linked.out_lt x o (ap runs_phase u.up) e2) h;
  picks = λ y s u none door upto. member_goes w y (with_current (Some s) (member_at w y)) u.lt refl refl h;
  refuses = h;
}) (λ x m u _. member_goes w x (copied m (member_at w x)) u.lt refl refl h) r

-- each member of the opening sends on the link at its own place
opening_goes : (credit : CreditSpec) (names : List (List ℕ)) → GoOn (opening credit names)
opening_goes credit names s sl e =
    let w : World = opening credit names in
    let from : (link_at w s).sender ≡ s + 1 = ap (λ a. a.sender) (first_link_is credit names s sl) in
    let member : member_at w (s + 1) ≡ opening_member names (s + 1) = first_at credit names (s + 1) (omega arith) (omega (arith, sl, first_links credit names)) in
    let place : s + 1 - 1 ≡ s = omega arith in
    subst (λ q. SendsThere (member_at w q) s) (sym from) (subst (λ a. SendsThere a s) (sym member) (refl, ap (λ k. Some k) place))

-- so in every state of every run of a ring with these names
pub reached_goes : (credit : CreditSpec) (names : List (List ℕ)) (es : List Act) → AreOpeningNames names → IsRun (opening credit names) es → GoOn (last (opening credit names) es)
reached_goes credit names es are r = run_acts GoOn act_goes (opening credit names) es (opening_good credit names are) r (opening_goes credit names)
