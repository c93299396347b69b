-- A put repeats the sender's number.
use Rattle.std.proofs.Common.{◌≡◌, ◌≢◌, ℕ, ◌<◌, Bool, true, false, cond, List, [], ◌∷◌, ◌++◌, length, get_or, set, refl, sym, ap, subst, ◌∙◌, arith, nat_eq, Option, Some, None, ⊎_elim}
use Rattle.std.specs.Prelude.{◌&&◌}
use Rattle.std.proofs.lemmas.Bool.{cases_eq, false≢true}
use Rattle.ring_rules.specs.Refusal.{is_empty}
use Rattle.ring_rules.specs.View.{is_live}
use Rattle.group_view.specs.Ring.{rotated, is_in}
use Rattle.ring_rules.specs.Machine.{Phase, Waiting, Up, Stopped, Packet, Link, World, no_link, no_packet, row_at, numbers_at, member_at, link_at, view_in, newest, ring, left, runs, is_kept, is_waiting, runs_phase, oldest}
use Rattle.ring_rules.specs.Rows.{Row}
use Rattle.ring_rules.specs.declared.numbers.Numbers.{Numbers}
use Rattle.ring_rules.proofs.walks.CountedWalk.{numbers, when, only, no_but, past_first, counted, is_early, round_of, retired_by, stopped_from, running_from, stopped_prefix, walk_over, walk}
use Rattle.ring_rules.specs.OpenLinks.{first_packet, own_number, number}
use Rattle.ring_rules.specs.Step.{next_packet, pushed, put_on, with_link}
use Rattle.ring_rules.proofs.rings.Lists.{at_set}
use Rattle.ring_rules.proofs.rings.Weakens.{Weakens, same, joined, joined_left}
use Rattle.ring_rules.proofs.walks.Links.{numbers_set, numbers_put}
use Rattle.group_view.proofs.Lists.{cond_empty_late}
use Rattle.group_view.proofs.Rings.{nat_eq-is, nat_eq-same, nat_eq-not}
use Rattle.ring_rules.proofs.rings.Rounds.{round_back}
use Rattle.ring_rules.proofs.walks.Views.{left_in_view}
use Rattle.ring_rules.proofs.rings.Ring.{Follows, follows, follows_none}
use Rattle.ring_rules.proofs.walks.Edits.{round_front}
use Rattle.ring_rules.proofs.invariants.Good.{IsRing, IsLinked, IsWaitingRight, out_newest}
use Rattle.ring_rules.proofs.walks.Packets.{Reads, reads_got, reads_forgot, line_of_packet}

-- ---- what counts of the link

pub counted_other : (w : World) (q : ℕ) (l : Link) → l.receiver ≢ q → counted w q l ≡ []
counted_other w q l differs = rw (nat_eq-not l.receiver q differs) refl

pub past_first_push : (b : Bool) (ks : List Packet) (k : Packet) → (b ≡ true → is_empty ks ≡ false) → past_first b (ks ++ k ∷ []) ≡ past_first b ks ++ k ∷ []
past_first_push true [] k h = absurd (false≢true (sym (h refl)))
past_first_push true (j ∷ js) k h = refl
past_first_push false ks k h = refl

pub counted_push : (w : World) (l : Link) (k : Packet) → is_kept w l (member_at w l.receiver).version ≡ true → ((is_waiting (member_at w l.receiver).phase && nat_eq l.opened (member_at w l.receiver).version) ≡ true → is_empty l.packets ≡ false) → counted w l.receiver (pushed l k) ≡ counted w l.receiver l ++ k ∷ []
counted_push w l k h first =
    rw (nat_eq-same l.receiver, h) (past_first_push (is_waiting (member_at w l.receiver).phase && nat_eq l.opened (member_at w l.receiver).version) l.packets k first)

pub counted_not_kept : (w : World) (z : ℕ) (l : Link) → is_kept w l (member_at w z).version ≡ false → counted w z l ≡ []
counted_not_kept w z l h = by_case (nat_eq l.receiver z)
  where
    by_case : (b : Bool) → when (b && is_kept w l (member_at w z).version) (past_first (is_waiting (member_at w z).phase && nat_eq l.opened (member_at w z).version) l.packets) ≡ []
    by_case true = rw h refl
    by_case false = refl

-- ---- numbers of members

pub oldest_pushed : (l : Link) (k : Packet) → is_empty l.packets ≡ false → oldest (pushed l k) ≡ oldest l
oldest_pushed l k h = by_packets l.packets h
  where
    by_packets : (ks : List Packet) → is_empty ks ≡ false → get_or (ks ++ k ∷ []) 0 no_packet ≡ get_or ks 0 no_packet
    by_packets [] e = absurd (false≢true (sym e))
    by_packets (j ∷ js) e = refl

-- a push leaves each member's number
pub number_pushed : (g : Numbers → ℕ) (r : Row → ℕ) (w : World) (o p q : ℕ) (k : Packet) → o < length w.links → IsWaitingRight w → number g r (with_link w o (pushed (link_at w o) k)) p q ≡ number g r w p q
number_pushed g r w o p q k lt h = by_phase (member_at w q).phase refl
  where
    by_current : (c : Option ℕ) → ((s : ℕ) → c ≡ Some s → is_empty (link_at w s).packets ≡ false) → first_packet (with_link w o (pushed (link_at w o) k)) c ≡ first_packet w c
    by_current None e = refl
    by_current (Some s) e =
        at_set (λ j l. is_empty (link_at w j).packets ≡ false → oldest l ≡ oldest (link_at w j)) w.links o s (pushed (link_at w o) k) no_link lt
        (λ ne. oldest_pushed (link_at w o) k ne) (λ _ _. refl) (e s refl)

    by_phase : (f : Phase) → (member_at w q).phase ≡ f → own_number g r (with_link w o (pushed (link_at w o) k)) p f (member_at w q) ≡ own_number g r w p f (member_at w q)
    by_phase Waiting e = ap (λ j. g (numbers_at j p)) (by_current (member_at w q).current (λ s c. h.first q s e c))
    by_phase Up e = refl
    by_phase Stopped e = refl

pub number_up : (g : Numbers → ℕ) (r : Row → ℕ) (w : World) (p x : ℕ) → (member_at w x).phase ≡ Up → number g r w p x ≡ r (row_at (member_at w x) p)
number_up g r w p x e = ap (λ f. own_number g r w p f (member_at w x)) e

-- ---- the sender isn't among the stopped ones

pub not_in_prefix : (r : ℕ → Bool) (x : ℕ) (c : List ℕ) → r x ≡ true → is_in x (stopped_prefix r c) ≡ false
not_in_prefix r x [] h = refl
not_in_prefix r x (y ∷ ys) h = by_case (r y) refl (nat_eq x y) refl (not_in_prefix r x ys h)
  where
    by_case : (a : Bool) → r y ≡ a → (t : Bool) → nat_eq x y ≡ t → is_in x (stopped_prefix r ys) ≡ false → is_in x (cond a [] (y ∷ stopped_prefix r ys)) ≡ false
    by_case true ea t et ih = refl
    by_case false ea true et ih = absurd (false≢true (sym ea ∙ ap r (sym (nat_eq-is x y et)) ∙ h))
    by_case false ea false et ih = rw et ih

-- ---- among the running members the receiver follows the sender

pub runs_phase-Up : (w : World) (x : ℕ) → (member_at w x).phase ≡ Up → runs w x ≡ true
runs_phase-Up w x e = ap runs_phase e

pub receiver_follows : (w : World) (x z p y : ℕ) (ys : List ℕ) → IsRing w → runs w x ≡ true → left w (newest w) z ≡ x → running_from w p ≡ y ∷ ys → Follows x z y ys
receiver_follows w x z p y ys h rx l e = by_case (runs w z) refl
  where
    by_case : (b : Bool) → runs w z ≡ b → Follows x z y ys
    by_case true rz =
        follows (is_live (view_in w (newest w))) (runs w) x z p y ys (ring w) (h.distinct (newest w) (omega arith))
        (h.stands z (newest w) rz (h.held z) (omega arith))
        (λ q rq. h.lives q (newest w) rq (h.held q) (omega arith)) rx rz (sym (left_in_view w (newest w) z (h.stands z (newest w) rz (h.held z) (omega arith))) ∙ l) e
    by_case false rz = follows_none (runs w) x z y ys (rotated p (ring w)) rz e

-- ---- the walk

-- a link that was pushed counts as before for all but its receiver
pub numbers_other : (f : Packet → ℕ) (w : World) (o q : ℕ) (k : Packet) → (link_at w o).receiver ≢ q → numbers f (counted w q) (set w.links o (pushed (link_at w o) k)) ≡ numbers f (counted w q) w.links
numbers_other f w o q k differs =
    numbers_set f (counted w q) w.links o (pushed (link_at w o) k)
    (counted_other w q (pushed (link_at w o) k) differs ∙ sym (counted_other w q (link_at w o) differs))

pub numbers_other_late : (f : Packet → ℕ) (early : Link → Bool) (w : World) (o q : ℕ) (k : Packet) → (link_at w o).receiver ≢ q → numbers f (no_but early (counted w q)) (set w.links o (pushed (link_at w o) k)) ≡ numbers f (no_but early (counted w q)) w.links
numbers_other_late f early w o q k differs =
    numbers_set f (no_but early (counted w q)) w.links o (pushed (link_at w o) k)
    (cond_empty_late (early (pushed (link_at w o) k)) _ (counted_other w q (pushed (link_at w o) k) differs) ∙ sym (cond_empty_late (early (link_at w o)) _ (counted_other w q (link_at w o) differs)))

-- no early link was pushed
pub numbers_early : (f : Packet → ℕ) (stopped : List ℕ) (w : World) (o q : ℕ) (k : Packet) → is_in (link_at w o).sender stopped ≡ false → numbers f (only (is_early stopped) (counted w q)) (set w.links o (pushed (link_at w o) k)) ≡ numbers f (only (is_early stopped) (counted w q)) w.links
numbers_early f stopped w o q k late =
    numbers_set f (only (is_early stopped) (counted w q)) w.links o (pushed (link_at w o) k) (rw late refl)

pub first_there : (w : World) (o : ℕ) → IsWaitingRight w → o < length w.links → (is_waiting (member_at w (link_at w o).receiver).phase && nat_eq (link_at w o).opened (member_at w (link_at w o).receiver).version) ≡ true → is_empty (link_at w o).packets ≡ false
first_there w o hw lt e = by_phase (member_at w (link_at w o).receiver).phase refl (nat_eq (link_at w o).opened (member_at w (link_at w o).receiver).version) refl e
  where
    by_phase : (f : Phase) → (member_at w (link_at w o).receiver).phase ≡ f → (b : Bool) → nat_eq (link_at w o).opened (member_at w (link_at w o).receiver).version ≡ b → (is_waiting f && b) ≡ true → is_empty (link_at w o).packets ≡ false
    by_phase Waiting ef true eb t = hw.admission (link_at w o).receiver o ef lt refl (nat_eq-is _ _ eb)
    by_phase Waiting ef false eb t = absurd (false≢true t)
    by_phase Up ef b eb t = absurd (false≢true t)
    by_phase Stopped ef b eb t = absurd (false≢true t)

pub numbers_put_at : (f : Packet → ℕ) (w : World) (x o : ℕ) (k : Packet) → IsRing w → IsLinked w → IsWaitingRight w → (member_at w x).phase ≡ Up → (member_at w x).out ≡ Some o → is_kept w (link_at w o) (member_at w (link_at w o).receiver).version ≡ true → numbers f (counted w (link_at w o).receiver) (set w.links o (pushed (link_at w o) k)) ≡ f k ∷ numbers f (counted w (link_at w o).receiver) w.links
numbers_put_at f w x o k hr hl hw up out kept =
    let rx : runs w x ≡ true = runs_phase-Up w x up in
    let lt : o < length w.links = hl.out_lt x o rx out in
    numbers_put f (counted w (link_at w o).receiver) w.links o (pushed (link_at w o) k) k lt
    (counted_push w (link_at w o) k kept (λ e. first_there w o hw lt e))
    (λ j l m. counted_other w (link_at w o).receiver (link_at w j) (out_newest w x o j hr hl rx out l m))

pub sender_late : (w : World) (x o p : ℕ) → IsLinked w → runs w x ≡ true → (member_at w x).out ≡ Some o → is_in (link_at w o).sender (stopped_from w p) ≡ false
sender_late w x o p hl rx out = subst (λ s. is_in s (stopped_from w p) ≡ false) (sym (hl.out_from x o rx out)) (not_in_prefix (runs w) x (rotated p (ring w)) rx)

pub numbers_at_late : (f : Packet → ℕ) (st : List ℕ) (w : World) (x o : ℕ) (k : Packet) → IsRing w → IsLinked w → IsWaitingRight w → (member_at w x).phase ≡ Up → (member_at w x).out ≡ Some o → is_kept w (link_at w o) (member_at w (link_at w o).receiver).version ≡ true → is_in (link_at w o).sender st ≡ false → numbers f (no_but (is_early st) (counted w (link_at w o).receiver)) (set w.links o (pushed (link_at w o) k)) ≡ f k ∷ numbers f (no_but (is_early st) (counted w (link_at w o).receiver)) w.links
numbers_at_late f st w x o k hr hl hw up out kept late =
    let rx : runs w x ≡ true = runs_phase-Up w x up in
    let lt : o < length w.links = hl.out_lt x o rx out in
    numbers_put f (no_but (is_early st) (counted w (link_at w o).receiver)) w.links o (pushed (link_at w o) k) k lt
    (rw late (counted_push w (link_at w o) k kept (λ e. first_there w o hw lt e)))
    (λ j l m. cond_empty_late (is_early st (link_at w j)) _ (counted_other w (link_at w o).receiver (link_at w j) (out_newest w x o j hr hl rx out l m)))

pub numbers_unkept : (f : Packet → ℕ) (w : World) (o q : ℕ) (k : Packet) → is_kept w (link_at w o) (member_at w (link_at w o).receiver).version ≡ false → numbers f (counted w q) (set w.links o (pushed (link_at w o) k)) ≡ numbers f (counted w q) w.links
numbers_unkept f w o q k kept =
    ⊎_elim
    (λ (is : q ≡ (link_at w o).receiver). numbers_set f (counted w q) w.links o (pushed (link_at w o) k)
    (subst (λ z. counted w z (pushed (link_at w o) k) ≡ counted w z (link_at w o)) (sym is) (counted_not_kept w (link_at w o).receiver (pushed (link_at w o) k) kept ∙ sym (counted_not_kept w (link_at w o).receiver (link_at w o) kept))))
    (λ (differs : q ≢ (link_at w o).receiver). numbers_other f w o q k (λ s. differs (sym s)))
    (cases_eq q (link_at w o).receiver)

pub numbers_unkept_late : (f : Packet → ℕ) (st : List ℕ) (w : World) (o q : ℕ) (k : Packet) → is_kept w (link_at w o) (member_at w (link_at w o).receiver).version ≡ false → is_in (link_at w o).sender st ≡ false → numbers f (no_but (is_early st) (counted w q)) (set w.links o (pushed (link_at w o) k)) ≡ numbers f (no_but (is_early st) (counted w q)) w.links
numbers_unkept_late f st w o q k kept late =
    ⊎_elim
    (λ (is : q ≡ (link_at w o).receiver). numbers_set f (no_but (is_early st) (counted w q)) w.links o (pushed (link_at w o) k)
    (rw late (subst (λ z. counted w z (pushed (link_at w o) k) ≡ counted w z (link_at w o)) (sym is) (counted_not_kept w (link_at w o).receiver (pushed (link_at w o) k) kept ∙ sym (counted_not_kept w (link_at w o).receiver (link_at w o) kept)))))
    (λ (differs : q ≢ (link_at w o).receiver). numbers_other_late f (is_early st) w o q k (λ s. differs (sym s)))
    (cases_eq q (link_at w o).receiver)

-- one round of a put on link o from x
pub put_round : (g : Numbers → ℕ) (r : Row → ℕ) (w : World) (x o p y : ℕ) (ys : List ℕ) → Reads g r → IsRing w → IsLinked w → IsWaitingRight w → (member_at w x).phase ≡ Up → (member_at w x).out ≡ Some o → running_from w p ≡ y ∷ ys → (b : Bool) → is_kept w (link_at w o) (member_at w (link_at w o).receiver).version ≡ b → Weakens (round_of g r w p (stopped_from w p) (y ∷ ys)) (round_of g r (put_on w x o) p (stopped_from w p) (y ∷ ys))
put_round g r w x o p y ys gr hr hl hw up out e true kept =
    let f : Packet → ℕ = λ k. g (numbers_at k p) in
    let k : Packet = next_packet (member_at w x) (link_at w o).sending in
    let z : ℕ = (link_at w o).receiver in
    let st : List ℕ = stopped_from w p in
    let rx : runs w x ≡ true = runs_phase-Up w x up in
    let lt : o < length w.links = hl.out_lt x o rx out in
    let is : f k ≡ number g r w p x = line_of_packet g r (member_at w x) (link_at w o).sending p gr ∙ sym (number_up g r w p x up) in
    let late : is_in (link_at w o).sender st ≡ false = sender_late w x o p hl rx out in
    round_front (λ q. numbers f (only (is_early st) (counted w q)) w.links) (λ q. numbers f (only (is_early st) (counted w q)) (set w.links o (pushed (link_at w o) k)))
    (λ q. numbers f (counted w q) w.links) (λ q. numbers f (counted w q) (set w.links o (pushed (link_at w o) k)))
    (λ q. numbers f (no_but (is_early st) (counted w q)) w.links) (λ q. numbers f (no_but (is_early st) (counted w q)) (set w.links o (pushed (link_at w o) k)))
    (number g r w p) (number g r (put_on w x o) p) x z y ys
    (λ q. number_pushed g r w o p q k lt hw)
    (λ q. numbers_early f st w o q k late)
    (λ q differs. numbers_other f w o q k (λ s. differs (sym s)))
    (numbers_put_at f w x o k hr hl hw up out kept ∙ ap (λ a. a ∷ numbers f (counted w z) w.links) is)
    (λ q differs. numbers_other_late f (is_early st) w o q k (λ s. differs (sym s)))
    (numbers_at_late f st w x o k hr hl hw up out kept late ∙ ap (λ a. a ∷ numbers f (no_but (is_early st) (counted w z)) w.links) is)
    (receiver_follows w x z p y ys hr rx (ap (left w (newest w)) (hl.out_to x o rx out) ∙ hr.front x (member_at w x).version (newest w) rx (omega arith) (hr.held x) (omega arith)) e)
put_round g r w x o p y ys gr hr hl hw up out e false kept =
    let f : Packet → ℕ = λ k. g (numbers_at k p) in
    let k : Packet = next_packet (member_at w x) (link_at w o).sending in
    let st : List ℕ = stopped_from w p in
    let rx : runs w x ≡ true = runs_phase-Up w x up in
    let lt : o < length w.links = hl.out_lt x o rx out in
    let late : is_in (link_at w o).sender st ≡ false = sender_late w x o p hl rx out in
    round_back (λ q. numbers f (only (is_early st) (counted w q)) w.links) (λ q. numbers f (only (is_early st) (counted w q)) (set w.links o (pushed (link_at w o) k)))
    (λ q. numbers f (counted w q) w.links) (λ q. numbers f (counted w q) (set w.links o (pushed (link_at w o) k)))
    (λ q. numbers f (no_but (is_early st) (counted w q)) w.links) (λ q. numbers f (no_but (is_early st) (counted w q)) (set w.links o (pushed (link_at w o) k)))
    (number g r w p) (number g r (put_on w x o) p) y ys
    (λ q. rw (numbers_unkept f w o q k kept, number_pushed g r w o p q k lt hw) (same _))
    (rw (numbers_early f st w o y k late, number_pushed g r w o p y k lt hw) (same _))
    (rw (numbers_unkept_late f st w o y k kept late) (same _))

-- the walk of a put
pub put_walk : (w : World) (x o p : ℕ) → IsRing w → IsLinked w → IsWaitingRight w → (member_at w x).phase ≡ Up → (member_at w x).out ≡ Some o → Weakens (walk w p) (walk (put_on w x o) p)
put_walk w x o p hr hl hw up out = by_running (running_from w p) refl
  where
    by_running : (ys : List ℕ) → running_from w p ≡ ys → Weakens (walk_over w p (stopped_from w p) ys) (walk_over (put_on w x o) p (stopped_from w p) ys)
    by_running [] e = same []
    by_running (y ∷ ys) e =
        joined (round_of (λ k. k.got) (λ r. r.got) w p (stopped_from w p) (y ∷ ys)) (round_of (λ k. k.got) (λ r. r.got) (put_on w x o) p (stopped_from w p) (y ∷ ys))
        (round_of (λ k. k.forgot) (λ r. r.forgot) w p (stopped_from w p) (y ∷ ys) ++ retired_by w p (y ∷ ys)) (round_of (λ k. k.forgot) (λ r. r.forgot) (put_on w x o) p (stopped_from w p) (y ∷ ys) ++ retired_by w p (y ∷ ys))
        (put_round (λ k. k.got) (λ r. r.got) w x o p y ys reads_got hr hl hw up out e _ refl)
        (joined_left (round_of (λ k. k.forgot) (λ r. r.forgot) w p (stopped_from w p) (y ∷ ys)) (round_of (λ k. k.forgot) (λ r. r.forgot) (put_on w x o) p (stopped_from w p) (y ∷ ys)) (retired_by w p (y ∷ ys))
        (put_round (λ k. k.forgot) (λ r. r.forgot) w x o p y ys reads_forgot hr hl hw up out e _ refl))
