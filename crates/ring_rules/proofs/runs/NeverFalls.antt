-- Numbers never fall, and logs only grow.
use Rattle.std.proofs.Common.{◌≡◌, ◌≢◌, ℕ, zero, suc, ◌<◌, ◌≤◌, Bool, true, false, cond, nat_eq, List, [], ◌∷◌, ◌++◌, length, take, get_or, Some, refl, sym, ap, subst, ◌∙◌, ⊎_elim, arith}
use Rattle.std.proofs.lemmas.Bool.{cases_eq}
use Rattle.std.proofs.lemmas.List.{length-set, length_push, length-take, take-append-le, take-take, take_all}
use Rattle.queue_core.specs.declared.message.Message.{Message}
use Rattle.ring_names.specs.declared.numbers.CreditSpec.{CreditSpec}
use Rattle.ring_rules.specs.declared.numbers.Numbers.{Numbers}
use Rattle.ring_rules.specs.Rows.{Row, no_row, published_row, taken_row}
use Rattle.group_view.specs.Ring.{is_in}
use Rattle.group_view.specs.Change.{AreOpeningNames}
use Rattle.ring_rules.specs.Machine.{Up, Packet, World, no_member, row_at, numbers_at, member_at, link_at, view_in}
use Rattle.ring_rules.specs.OpenLinks.{NeverRises, number}
use Rattle.ring_rules.proofs.walks.CountedWalk.{numbers, counted, only, no_but, is_early, round_of, retired_by, stopped_from, running_from, walk_over}
use Rattle.ring_rules.specs.Step.{size, log_of, put_on, gain_on, published, publish_at, is_owned, taker, take_from, stopped, stop_at, opened_link, open_to, opening, begun, begin_from, joiner, come_to}
use Rattle.ring_rules.proofs.events.WhatRefuses.{MayTake}
use Rattle.ring_rules.specs.Act.{Act, IsRun, last}
use Rattle.ring_rules.specs.Lawful.{row_of, RowIsWithin, NeverFalls}
use Rattle.ring_rules.proofs.events.Leaves.{with_opened, come_member}
use Rattle.ring_rules.proofs.rings.Lists.{at_set, get_or_beyond}
use Rattle.group_view.proofs.Rings.{nat_eq-is, in_first, in_second, in_head}
use Rattle.ring_rules.proofs.walks.Put.{runs_phase-Up, number_up}
use Rattle.ring_rules.proofs.walks.Take.{CanTake, Standing, elsewhere, first_time, unknown, come_round, taken_packet, take_numbers, take_early, take_late, links_after}
use Rattle.ring_rules.proofs.invariants.Kept.{Inv}
use Rattle.ring_rules.proofs.invariants.KeptTake.{can_take, take_standing}
use Rattle.ring_rules.proofs.rings.Falling.{rises_first, rises_second, falls_across, owner_in_round, late_in_round, round_falls, early_falls}
use Rattle.ring_rules.proofs.runs.Confirmed.{runs_in_walk}
use Rattle.ring_rules.proofs.invariants.Happens.{IsGood, reached_good}
use Rattle.ring_rules.proofs.events.Parts.{IsSameRows, links_same, member_same, Part, cast_part, put_part, take_part, gain_part, stop_part, open_part, still_part, run_keeps, begin_part, come_part, KnowsNothing}
use Rattle.ring_rules.proofs.runs.OwnLogs.{IsLogged, taker_row, take_log, cast_log, cast_log_other, published_at, part_logged, run_logged, begin_log, begun_at, come_log}

-- no number of a row is less than it was
pub record RowRises (r r' : Row) : Type 0 where
  pub got : r.got ≤ r'.got
  pub forgot : r.forgot ≤ r'.forgot
  pub retired : r.retired ≤ r'.retired
  pub base : 0 < r.got → r'.base ≡ r.base

-- nor of one that stays
pub row_stays : (r : Row) → RowRises r r
row_stays r = record { got = omega arith; forgot = omega arith; retired = omega arith; base = λ _. refl }

-- ---- the row of a taker

-- what is in a list and isn't its head is behind it
pub in_behind : (z x : ℕ) (xs : List ℕ) → x ≢ z → is_in z (x ∷ xs) ≡ true → is_in z xs ≡ true
in_behind z x xs d i = by_case (nat_eq z x) refl i
  where
    by_case : (b : Bool) → nat_eq z x ≡ b → cond b true (is_in z xs) ≡ true → is_in z xs ≡ true
    by_case true e k = absurd (d (sym (nat_eq-is z x e)))
    by_case false e k = k

-- the packet that y takes counts at y before y's own number, where y isn't the owner
pub taken_elsewhere : (g : Numbers → ℕ) (r : Row → ℕ) (w : World) (y s p q : ℕ) (qs : List ℕ) → CanTake w y s → is_in y qs ≡ true → NeverRises (round_of g r w p (stopped_from w p) (q ∷ qs)) → r (row_of w y p) ≤ g (numbers_at (taken_packet w s) p)
taken_elsewhere g r w y s p q qs c i h =
    let f : Packet → ℕ = λ k. g (numbers_at k p) in
    let st : List ℕ = stopped_from w p in
    let there : is_in (f (taken_packet w s)) (numbers f (counted w y) w.links) ≡ true =
    subst (λ xs. is_in (f (taken_packet w s)) xs ≡ true) (sym (take_numbers f w y s c))
    (in_second (f (taken_packet w s)) (numbers f (counted (take_from w y s) y) (links_after w s)) (f (taken_packet w s) ∷ []) (in_head (f (taken_packet w s)) [])) in
    subst (λ a. a ≤ f (taken_packet w s)) (number_up g r w p y c.up)
    (round_falls (λ q. numbers f (only (is_early st) (counted w q)) w.links) (λ q. numbers f (counted w q) w.links) (λ q. numbers f (no_but (is_early st) (counted w q)) w.links)
    (number g r w p) q y (f (taken_packet w s)) qs h i there)

-- and where it is, but the packet is early
pub taken_early : (g : Numbers → ℕ) (r : Row → ℕ) (w : World) (y s p : ℕ) (qs : List ℕ) → CanTake w y s → is_early (stopped_from w p) (link_at w s) ≡ true → NeverRises (round_of g r w p (stopped_from w p) (y ∷ qs)) → r (row_of w y p) ≤ g (numbers_at (taken_packet w s) p)
taken_early g r w y s p qs c e h =
    let f : Packet → ℕ = λ k. g (numbers_at k p) in
    let st : List ℕ = stopped_from w p in
    let there : is_in (f (taken_packet w s)) (numbers f (only (is_early st) (counted w y)) w.links) ≡ true =
    subst (λ xs. is_in (f (taken_packet w s)) xs ≡ true) (sym (take_early f st w y s c e))
    (in_second (f (taken_packet w s)) (numbers f (only (is_early st) (counted (take_from w y s) y)) (links_after w s)) (f (taken_packet w s) ∷ []) (in_head (f (taken_packet w s)) [])) in
    subst (λ a. a ≤ f (taken_packet w s)) (number_up g r w p y c.up)
    (early_falls (λ q. numbers f (only (is_early st) (counted w q)) w.links) (λ q. numbers f (counted w q) w.links) (λ q. numbers f (no_but (is_early st) (counted w q)) w.links)
    (number g r w p) y (f (taken_packet w s)) qs h there)

-- a late packet of the owner is in the round
pub taken_late : (g : Numbers → ℕ) (r : Row → ℕ) (w : World) (y s p : ℕ) (qs : List ℕ) → CanTake w y s → is_early (stopped_from w p) (link_at w s) ≡ false → is_in (g (numbers_at (taken_packet w s) p)) (round_of g r w p (stopped_from w p) (y ∷ qs)) ≡ true
taken_late g r w y s p qs c e =
    let f : Packet → ℕ = λ k. g (numbers_at k p) in
    let st : List ℕ = stopped_from w p in
    late_in_round (λ q. numbers f (only (is_early st) (counted w q)) w.links) (λ q. numbers f (counted w q) w.links) (λ q. numbers f (no_but (is_early st) (counted w q)) w.links)
    (number g r w p) y (f (taken_packet w s)) qs
    (subst (λ xs. is_in (f (taken_packet w s)) xs ≡ true) (sym (take_late f st w y s c e))
    (in_second (f (taken_packet w s)) (numbers f (no_but (is_early st) (counted (take_from w y s) y)) (links_after w s)) (f (taken_packet w s) ∷ []) (in_head (f (taken_packet w s)) [])))

-- the owner's own number is in the round
pub owner_there : (g : Numbers → ℕ) (r : Row → ℕ) (w : World) (y p : ℕ) (qs : List ℕ) → (member_at w y).phase ≡ Up → is_in (r (row_of w y p)) (round_of g r w p (stopped_from w p) (y ∷ qs)) ≡ true
owner_there g r w y p qs up =
    let f : Packet → ℕ = λ k. g (numbers_at k p) in
    let st : List ℕ = stopped_from w p in
    subst (λ a. is_in a (round_of g r w p st (y ∷ qs)) ≡ true) (number_up g r w p y up)
    (owner_in_round (λ q. numbers f (only (is_early st) (counted w q)) w.links) (λ q. numbers f (counted w q) w.links) (λ q. numbers f (no_but (is_early st) (counted w q)) w.links)
    (number g r w p) y qs)

-- the row of the taker for an origin of the ring
pub taker_rises : (w : World) (y s p : ℕ) → Inv w → MayTake w y s → 1 ≤ p → p < size w → RowRises (row_of w y p) (taken_row (is_owned (view_in w (member_at w y).version) y (link_at w s).sender p) (log_of w p) (row_of w y p) (numbers_at (taken_packet w s) p))
taker_rises w y s p h m some lt = by_standing (take_standing w y s p h m (h.origins p some lt) lt)
  where
    c : CanTake w y s
    c = can_take w y s h m

    st : List ℕ
    st = stopped_from w p

    k : Numbers
    k = numbers_at (taken_packet w s) p

    falls : (ys : List ℕ) → running_from w p ≡ ys → NeverRises (walk_over w p st ys)
    falls ys e = subst (λ zs. NeverRises (walk_over w p st zs)) e (h.walks p some lt)

    first_round : (ys : List ℕ) → List ℕ
    first_round ys = round_of (λ k. k.got) (λ r. r.got) w p st ys

    second_round : (ys : List ℕ) → List ℕ
    second_round ys = round_of (λ k. k.forgot) (λ r. r.forgot) w p st ys

    got_falls : (ys : List ℕ) → running_from w p ≡ ys → NeverRises (first_round ys)
    got_falls ys e = rises_first (first_round ys) (second_round ys ++ retired_by w p ys) (falls ys e)

    rest_falls : (ys : List ℕ) → running_from w p ≡ ys → NeverRises (second_round ys ++ retired_by w p ys)
    rest_falls ys e = rises_second (first_round ys) (second_round ys ++ retired_by w p ys) (falls ys e)

    forgot_falls : (ys : List ℕ) → running_from w p ≡ ys → NeverRises (second_round ys)
    forgot_falls ys e = rises_first (second_round ys) (retired_by w p ys) (rest_falls ys e)

    -- of an origin that y doesn't answer for
    outside : is_owned (view_in w (member_at w y).version) y (link_at w s).sender p ≡ false → (row_of w y p).got ≤ k.got → (row_of w y p).forgot ≤ k.forgot → RowRises (row_of w y p) (taken_row (is_owned (view_in w (member_at w y).version) y (link_at w s).sender p) (log_of w p) (row_of w y p) k)
    outside own a b = subst (λ o. RowRises (row_of w y p) (taken_row o (log_of w p) (row_of w y p) k)) (sym own) (record { got = a; forgot = b; retired = omega arith; base = λ _. refl })

    by_standing : Standing w y s p → RowRises (row_of w y p) (taken_row (is_owned (view_in w (member_at w y).version) y (link_at w s).sender p) (log_of w p) (row_of w y p) k)
    by_standing (elsewhere q qs e d own) =
        let inside : is_in y qs ≡ true = in_behind y q qs d (subst (λ ys. is_in y ys ≡ true) e (runs_in_walk w y p h (runs_phase-Up w y m.up))) in
        outside own
        (taken_elsewhere (λ k. k.got) (λ r. r.got) w y s p q qs c inside (got_falls (q ∷ qs) e))
        (taken_elsewhere (λ k. k.forgot) (λ r. r.forgot) w y s p q qs c inside (forgot_falls (q ∷ qs) e))
    by_standing (first_time qs e early own) =
        outside own
        (taken_early (λ k. k.got) (λ r. r.got) w y s p qs c early (got_falls (y ∷ qs) e))
        (taken_early (λ k. k.forgot) (λ r. r.forgot) w y s p qs c early (forgot_falls (y ∷ qs) e))
    by_standing (unknown qs e late own g f) = outside own (omega arith) (omega arith)
    by_standing (come_round qs e own none late) =
        subst (λ o. RowRises (row_of w y p) (taken_row o (log_of w p) (row_of w y p) k)) (sym own) (record {
          got = omega arith;
          forgot = falls_across k.got (row_of w y p).forgot (first_round (y ∷ qs)) (second_round (y ∷ qs) ++ retired_by w p (y ∷ qs)) (falls (y ∷ qs) e)
              (taken_late (λ k. k.got) (λ r. r.got) w y s p qs c late)
              (in_first (row_of w y p).forgot (second_round (y ∷ qs)) (retired_by w p (y ∷ qs)) (owner_there (λ k. k.forgot) (λ r. r.forgot) w y p qs m.up));
          retired = falls_across k.forgot (row_of w y p).retired (second_round (y ∷ qs)) (retired_by w p (y ∷ qs)) (rest_falls (y ∷ qs) e)
              (taken_late (λ k. k.forgot) (λ r. r.forgot) w y s p qs c late)
              (in_head (row_of w y p).retired []);
          base = λ _. refl;
        })

-- a row within nothing can't fall
pub none_rises : (r r' : Row) → RowIsWithin 0 r → RowRises r r'
none_rises r r' h = record { got = omega (arith, h.got); forgot = omega (arith, h.forgot); retired = omega (arith, h.retired); base = λ some. absurd (omega (arith, h.got, some)) }

-- at 0 stands nobody
pub nobody_within : (w : World) (q : ℕ) → IsLogged w → RowIsWithin 0 (row_of w q 0)
nobody_within w q l = subst (λ n. RowIsWithin n (row_of w q 0)) (ap length l.nobody) (l.within.rows q 0)

-- nor beyond the members
pub beyond_within : (w : World) (q p : ℕ) → size w ≤ p → IsLogged w → RowIsWithin 0 (row_of w q p)
beyond_within w q p ge l = subst (λ n. RowIsWithin n (row_of w q p)) (ap (λ z. length z.log) (get_or_beyond w.members p no_member ge)) (l.within.rows q p)

-- and for any
pub taker_rises_all : (w : World) (y s p : ℕ) → Inv w → IsLogged w → MayTake w y s → p < size w → RowRises (row_of w y p) (taken_row (is_owned (view_in w (member_at w y).version) y (link_at w s).sender p) (log_of w p) (row_of w y p) (numbers_at (taken_packet w s) p))
taker_rises_all w y s zero h l m lt = none_rises (row_of w y 0) _ (nobody_within w y l)
taker_rises_all w y s (suc p) h l m lt = taker_rises w y s (suc p) h m (omega arith) lt

-- ---- logs

-- a prefix of a prefix
pub prefix_of_prefix : {A : Type 0} (xs ys zs : List A) → take (length xs) ys ≡ xs → take (length ys) zs ≡ ys → take (length xs) zs ≡ xs
prefix_of_prefix xs ys zs e f =
    let l : length xs ≤ length ys = omega (arith, sym (length-take (length xs) ys) ∙ ap length e) in
    sym (take-take (length xs) (length ys) zs l) ∙ ap (take (length xs)) f ∙ e

-- one state after another
pub falls_after : (w w' w'' : World) → NeverFalls w w' → NeverFalls w' w'' → NeverFalls w w''
falls_after w w' w'' a b = record {
  more = omega (arith, a.more, b.more);
  logs = λ p. prefix_of_prefix (log_of w p) (log_of w' p) (log_of w'' p) (a.logs p) (b.logs p);
  got = λ q p. omega (arith, a.got q p, b.got q p);
  forgot = λ q p. omega (arith, a.forgot q p, b.forgot q p);
  retired = λ q p. omega (arith, a.retired q p, b.retired q p);
  base = λ q p some. b.base q p (omega (arith, a.got q p, some)) ∙ a.base q p some;
}

-- ---- parts of events

-- by rows
pub rows_rise : (w w' : World) → size w ≤ size w' → ((p : ℕ) → take (length (log_of w p)) (log_of w' p) ≡ log_of w p) → ((q p : ℕ) → RowRises (row_of w q p) (row_of w' q p)) → NeverFalls w w'
rows_rise w w' many logs rises = record {
  more = many;
  logs = logs;
  got = λ q p. (rises q p).got;
  forgot = λ q p. (rises q p).forgot;
  retired = λ q p. (rises q p).retired;
  base = λ q p. (rises q p).base;
}

-- what leaves the rows and logs
pub same_rises : (w w' : World) → IsSameRows w w' → NeverFalls w w'
same_rises w w' k =
    rows_rise w w' (omega (arith, k.many)) (λ p. ap (take (length (log_of w p))) (k.log p) ∙ take_all (length (log_of w p)) (log_of w p) (omega arith))
    (λ q p. subst (λ rs. RowRises (row_of w q p) (get_or rs p no_row)) (sym (k.rows q)) (row_stays (row_of w q p)))

-- a state itself
pub nothing_falls : (w : World) → NeverFalls w w
nothing_falls w = same_rises w w (links_same w w.links)

-- a link that opens leaves rows and logs
pub open_same : (w : World) (x z : ℕ) → IsSameRows w (open_to w x z)
open_same w x z =
    let w1 : World = with_opened w (opened_link w x z) in
    let k : IsSameRows w1 (open_to w x z) = member_same w1 x (record (member_at w x) { out = Some (length w.links) }) refl refl in
    record { many = k.many; rows = k.rows; log = k.log }

-- a cast
pub cast_rises : (w : World) (x : ℕ) (m : Message) → 1 ≤ x → x < size w → IsLogged w → NeverFalls w (publish_at w x m)
cast_rises w x m some lt l =
    let rows_lt : x < length (member_at w x).rows = omega (arith, l.sized x some lt) in
    rows_rise w (publish_at w x m) (omega (arith, length-set w.members x (published x m (member_at w x))))
    (λ p. ⊎_elim
    (λ (is : p ≡ x). subst (λ k. take (length (log_of w k)) (log_of (publish_at w x m) k) ≡ log_of w k) (sym is)
    (ap (take (length (log_of w x))) (cast_log w x m lt) ∙ take-append-le (length (log_of w x)) (log_of w x) (m ∷ []) (omega arith) ∙ take_all (length (log_of w x)) (log_of w x) (omega arith)))
    (λ (d : p ≢ x). ap (take (length (log_of w p))) (cast_log_other w x p m d) ∙ take_all (length (log_of w p)) (log_of w p) (omega arith))
    (cases_eq p x))
    (λ q p. at_set (λ k z. RowRises (row_of w k p) (row_at z p)) w.members x q (published x m (member_at w x)) no_member lt
    (published_at (RowRises (row_of w x p)) w x p m rows_lt
    (λ is. subst (λ k. RowRises (row_of w x k) (published_row (row_of w x x) m)) (sym is) (record { got = omega arith; forgot = omega arith; retired = omega arith; base = λ _. refl }))
    (λ _. row_stays (row_of w x p)))
    (λ _. row_stays (row_of w q p)))

-- a take
pub take_rises : (w : World) (y s : ℕ) → MayTake w y s → Inv w → IsLogged w → NeverFalls w (take_from w y s)
take_rises w y s m h l =
    rows_rise w (take_from w y s) (omega (arith, length-set w.members y (taker w y s)))
    (λ p. ap (take (length (log_of w p))) (take_log w y s p m.is_member) ∙ take_all (length (log_of w p)) (log_of w p) (omega arith))
    (λ q p. at_set (λ k z. RowRises (row_of w k p) (row_at z p)) w.members y q (taker w y s) no_member m.is_member
    (taker_row (RowRises (row_of w y p)) w y s p (λ lt. taker_rises_all w y s p h l m lt) (λ ge. none_rises (row_of w y p) no_row (beyond_within w y p ge l)))
    (λ _. row_stays (row_of w q p)))

-- a first take, by one who has got nothing yet
pub begin_rises : (w : World) (y s : ℕ) → y < size w → KnowsNothing (member_at w y) → IsLogged w → NeverFalls w (begin_from w y s)
begin_rises w y s lt none l =
    rows_rise w (begin_from w y s) (omega (arith, length-set w.members y (begun (size w) (member_at w y) (taken_packet w s))))
    (λ p. ap (take (length (log_of w p))) (begin_log w y s p lt) ∙ take_all (length (log_of w p)) (log_of w p) (omega arith))
    (λ q p. at_set (λ k z. RowRises (row_of w k p) (row_at z p)) w.members y q (begun (size w) (member_at w y) (taken_packet w s)) no_member lt
    (begun_at (RowRises (row_of w y p)) w y s p
    (λ _. record { got = omega (arith, (none p).0); forgot = omega (arith, (none p).1); retired = omega arith; base = λ some. absurd (omega (arith, (none p).0, some)) })
    (λ ge. none_rises (row_of w y p) no_row (beyond_within w y p ge l)))
    (λ _. row_stays (row_of w q p)))

-- one that comes has nothing yet
pub come_rises : (w : World) (m : ℕ) (name : List ℕ) → NeverFalls w (come_to w m name)
come_rises w m name =
    rows_rise w (come_to w m name) (omega (arith, length_push w.members (joiner w name)))
    (λ p. ap (take (length (log_of w p))) (come_log w m name p) ∙ take_all (length (log_of w p)) (log_of w p) (omega arith))
    (λ q p. come_member w m name q (λ i a. i ≡ q → RowRises (row_of w q p) (row_at a p))
    (λ is. subst (λ r. RowRises r (row_at (joiner w name) p)) (ap (λ a. row_at a p) (sym (get_or_beyond w.members q no_member (omega (arith, is)))))
    (record { got = omega arith; forgot = omega arith; retired = omega arith; base = λ some. absurd (omega (arith, some)) }))
    (λ _. row_stays (row_of w q p)) refl)

-- any part of an event
pub part_rises : (w w' : World) → Part IsGood w w' → IsLogged w → NeverFalls w w'
part_rises w w' (cast_part x m some lt e) l = subst (NeverFalls w) (sym e) (cast_rises w x m some lt l)
part_rises w w' (put_part x o lt free e) l = subst (NeverFalls w) (sym e) (same_rises w (put_on w x o) (links_same w (put_on w x o).links))
part_rises w w' (take_part y s some m lt g e) l = subst (NeverFalls w) (sym e) (take_rises w y s m g.inv l)
part_rises w w' (begin_part y s some m lt none e) l = subst (NeverFalls w) (sym e) (begin_rises w y s m.is_member none l)
part_rises w w' (come_part m name e) l = subst (NeverFalls w) (sym e) (come_rises w m name)
part_rises w w' (gain_part o lt some e) l = subst (NeverFalls w) (sym e) (same_rises w (gain_on w o) (links_same w (gain_on w o).links))
part_rises w w' (stop_part x lt e) l = subst (NeverFalls w) (sym e) (same_rises w (stop_at w x) (member_same w x (stopped (member_at w x)) refl refl))
part_rises w w' (open_part x z e) l = subst (NeverFalls w) (sym e) (same_rises w (open_to w x z) (open_same w x z))
part_rises w w' (still_part k) l = same_rises w w' k.same

-- ---- events and runs

-- a later state of which the logs are known
pub record HasRisen (w w' : World) : Type 0 where
  pub falls : NeverFalls w w'
  pub logged : IsLogged w'

-- one part more
pub part_later : (w0 w w' : World) → Part IsGood w w' → HasRisen w0 w → HasRisen w0 w'
part_later w0 w w' k h = record { falls = falls_after w0 w w' h.falls (part_rises w w' k h.logged); logged = part_logged IsGood w w' k h.logged }

-- in every run, from every state to the next, and so to each later one
pub run_never_falls : (credit : CreditSpec) (names : List (List ℕ)) (es later : List Act) → AreOpeningNames names → IsRun (opening credit names) es → IsRun (last (opening credit names) es) later → NeverFalls (last (opening credit names) es) (last (last (opening credit names) es) later)
run_never_falls credit names es later are r k =
    let w : World = last (opening credit names) es in
    (run_keeps (HasRisen w) (part_later w) w later (reached_good credit names es are r) k
    (record { falls = nothing_falls w; logged = run_logged credit names es are r })).falls
