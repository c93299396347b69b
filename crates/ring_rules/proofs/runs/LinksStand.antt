-- The links of a ring stand as it is said of them, in every state of every run.
use Rattle.std.proofs.Common.{◌≡◌, ◌≢◌, ℕ, ◌<◌, ◌≤◌, Bool, true, false, not, cond, nat_eq, List, [], ◌∷◌, ◌++◌, length, drop, get_or, max, Some, None, refl, sym, ap, subst, ◌∙◌, ⊎_elim, ◌⊎◌, inl, inr, arith}
use Rattle.std.specs.Prelude.{◌&&◌, ◌||◌}
use Rattle.std.proofs.lemmas.Bool.{false≢true, and_parts, and_from, not-true, cases_lt}
use Rattle.ring_names.specs.declared.numbers.CreditSpec.{CreditSpec}
use Rattle.group_view.specs.Change.{AreOpeningNames}
use Rattle.group_view.specs.Ring.{is_in, others, first}
use Rattle.group_view.specs.View.{Group, entry_in}
use Rattle.group_view.specs.Since as group
use Rattle.group_view.specs.Since.{no_group, IsSince, since_at}
use Rattle.group_view.proofs.Rings.{nat_eq-is, nat_eq-same, in_before, in_first, others_inside, distinct_others}
use Rattle.group_view.proofs.Neighbours.{left_gap, filter_empty_at}
use Rattle.ring_rules.specs.Refusal.{is_empty}
use Rattle.ring_rules.specs.View.{ids, is_live, between}
use Rattle.ring_rules.specs.Machine.{Packet, Link, World, no_packet, row_at, numbers_at, member_at, link_at, view_in, newest, left, runs, is_kept, is_waiting, oldest}
use Rattle.ring_rules.specs.Step.{size, opening}
use Rattle.ring_rules.specs.Act.{Act, IsRun, last}
use Rattle.ring_rules.specs.OpenLinks.{version_of, since_in, comes_from_left, passes, is_place, is_current, is_door_link, is_open, packets_of, owner, number}
use Rattle.ring_rules.specs.LinksStand.{ComesFromLeft, HasNeverSent, HavePeriods, BeginsNear, IsGone, LinksStand}
use Rattle.ring_rules.proofs.invariants.Good.{Kept, kept_true}
use Rattle.ring_rules.proofs.invariants.FromLeft.{IsGood, came, comes_is, left_of_group, nobody_first, opened_right}
use Rattle.ring_rules.proofs.walks.Views.{left_in_view}
use Rattle.ring_rules.proofs.walks.CountedWalk.{numbers, only, no_but, counted, is_early, retired_by, stopped_from, running_from}
use Rattle.ring_rules.proofs.walks.Ended.{EndsRight}
use Rattle.ring_rules.proofs.walks.OpenWalk.{passes_is, counts, reached_ends}
use Rattle.ring_rules.proofs.walks.Twice.{gots, forgots}
use Rattle.ring_rules.proofs.rings.Falling.{falls_across}
use Rattle.ring_rules.proofs.runs.Apart.{packet_in_round, in_numbers}
use Rattle.ring_rules.proofs.runs.Confirmed.{runs_in_walk, number_in_gots}
use Rattle.ring_rules.proofs.runs.Lines.{HasFirst, LinesRight}
use Rattle.ring_rules.proofs.runs.LongerWalk.{longer_walk_falls}
use Rattle.ring_rules.proofs.runs.NoGap.{reached_lines}
use Rattle.ring_rules.proofs.invariants.Happens.{reached_good}
use Rattle.ring_rules.proofs.invariants.NeverSent.{reached_never_sent}
use Rattle.ring_rules.proofs.compact.InTurn.{IsTurned, reached_turned}
use Rattle.ring_rules.proofs.compact.SentForgot.{HoldsBack, reached_holds}

-- ---- since

-- in a view that knows a member, its left neighbour has been it since the version that its entry says
dated : (w : World) (y v : ℕ) → (g : IsGood w) → is_in y (ids (view_in w v)) ≡ true → v ≤ newest w → IsSince g.views.groups y v (since_in w v y)
dated w y v g i upto = subst (IsSince groups y v) since_is
    (g.views.ends.history.dated v y (nobody_first w g.views v y i) (omega (arith, ap length g.views.is, g.inv.is_ring.some)) (sym (ap (λ k. is_in y (ids k)) same_view) ∙ i))
  where
    groups : List Group
    groups = g.views.groups

    same_view : view_in w v ≡ group.view_at groups v
    same_view = ap (λ vs. get_or vs v no_group) g.views.is

    since_is : since_at groups v y ≡ since_in w v y
    since_is = sym (ap (λ (k : Group). (entry_in k.entries y).since) same_view)

-- so it is the same from that version on
left_since : (w : World) (y v u : ℕ) → IsGood w → is_in y (ids (view_in w v)) ≡ true → v ≤ newest w → since_in w v y ≤ u → u ≤ v → left w u y ≡ left w v y
left_since w y v u g i upto from to = left_of_group w g.views u y ∙ (dated w y v g i upto).same u from to ∙ sym (left_of_group w g.views v y)

-- ---- where a member takes from

-- a link that is kept up to its receiver's view comes from the left there
kept_comes : (w : World) (y s : ℕ) → IsGood w → s < length w.links → (link_at w s).receiver ≡ y → (link_at w s).opened ≤ version_of w y → is_kept w (link_at w s) (version_of w y) ≡ true → ((link_at w s).sender ≡ left w (version_of w y) y) × (since_in w (version_of w y) y ≤ (link_at w s).opened)
kept_comes w y s g lt to upto kept =
    let l : Link = link_at w s in
    let v : ℕ = version_of w y in
    came w y v l
    (ap (λ x. comes_from_left w x l v) (sym to)
    ∙ ap (comes_from_left w l.receiver l) (let is : v ≡ max v l.opened = omega arith in is)
    ∙ comes_is w l v g (opened_right w s g lt) (g.inv.is_ring.held y)
    ∙ kept)

takes_from_left : (w : World) (y s : ℕ) → IsGood w → EndsRight w → runs w y ≡ true → (member_at w y).current ≡ Some s → ComesFromLeft w y s
takes_from_left w y s g ends ry e =
    let lt : s < length w.links = g.inv.current.lt y s ry e in
    let to : (link_at w s).receiver ≡ y = g.inv.current.receiver y s ry e in
    let upto : (link_at w s).opened ≤ version_of w y = g.inv.current.opened y s ry e in
    let a = kept_comes w y s g lt to upto (g.inv.current.kept_yet y s ry e) in
    record { there = lt; receiver = to; sender = a.0; since = a.1; upto = upto; goes_on = (ends.takes y s ry e).goes_on }

-- ---- the links to a member

-- who became a left neighbour before a link opened from it
opened_since : (w : World) (s : ℕ) → IsGood w → s < length w.links → since_in w (link_at w s).opened (link_at w s).receiver ≤ (link_at w s).opened
opened_since w s g lt = (dated w (link_at w s).receiver (link_at w s).opened g (g.inv.history.known s lt) (g.inv.linked.opened s lt)).upto

opened_apart : (w : World) (i j : ℕ) → IsGood w → i < j → j < length w.links → (link_at w i).receiver ≡ (link_at w j).receiver → (link_at w i).opened < since_in w (link_at w j).opened (link_at w j).receiver
opened_apart w i j g ij jl same = by_since (cases_lt a.opened (since_in w b.opened b.receiver))
  where
    a : Link
    a = link_at w i

    b : Link
    b = link_at w j

    lost : is_kept w a b.opened ≡ false
    lost = g.inv.linked.period i j ij jl same

    upto : b.opened ≤ newest w
    upto = g.inv.linked.opened j jl

    -- where the left neighbour has been the same since before the earlier one, that one is still kept
    never : since_in w b.opened b.receiver ≤ a.opened → ⊥
    never from = false≢true (sym lost ∙ kept_true w a b.opened stays)
      where
        left_stays : (u : ℕ) → a.opened ≤ u → u ≤ b.opened → left w u b.receiver ≡ left w b.opened b.receiver
        left_stays u x z = left_since w b.receiver b.opened u g (g.inv.history.known j jl) upto (omega (arith, from, x)) z

        stays : Kept w a b.opened
        stays u x z =
            ap (left w u) same ∙ left_stays u x z ∙ sym (left_stays a.opened (omega arith) (omega (arith, x, z)))
            ∙ ap (left w a.opened) (sym same) ∙ g.inv.linked.from_left i (omega (arith, ij, jl))

    by_since : (a.opened < since_in w b.opened b.receiver) ⊎ (since_in w b.opened b.receiver ≤ a.opened) → a.opened < since_in w b.opened b.receiver
    by_since k = ⊎_elim (λ (lt : a.opened < since_in w b.opened b.receiver). lt) (λ (ge : since_in w b.opened b.receiver ≤ a.opened). absurd (never ge)) k

have_periods : (w : World) → IsGood w → HavePeriods w
have_periods w g = record {
  sender = λ s lt. sym (g.inv.linked.from_left s lt);
  since = λ s lt. opened_since w s g lt;
  rising = λ i j ij jl same. omega (arith, opened_apart w i j g ij jl same, opened_since w j g jl);
  apart = λ i j ij jl same. opened_apart w i j g ij jl same;
}

-- ---- who answers for whom

between_gone : (w : World) (y p : ℕ) → IsGood w → runs w y ≡ true → is_in p (between (view_in w (version_of w y)) (left w (version_of w y) y) y) ≡ true → IsGone w p
between_gone w y p g ry i = record { stands = g.inv.history.grows p v (newest w) known vn (omega arith); gone = by_live (is_live (view_in w (newest w)) p) refl }
  where
    v : ℕ
    v = version_of w y

    s : ℕ
    s = left w v y

    vn : v ≤ newest w
    vn = g.inv.is_ring.held y

    yv : is_in y (ids (view_in w v)) ≡ true
    yv = g.inv.is_ring.stands y v ry (omega arith) vn

    known : is_in p (ids (view_in w v)) ≡ true
    known = others_inside s p (ids (view_in w v)) (in_before p y (others s (ids (view_in w v))) i)

    dead : is_live (view_in w v) p ≡ false
    dead = filter_empty_at (is_live (view_in w v)) p (between (view_in w v) s y)
        (left_gap (is_live (view_in w v)) s y (ids (view_in w v)) (g.inv.is_ring.distinct v vn) (distinct_others y (ids (view_in w v)) (g.inv.is_ring.distinct v vn) yv) yv (sym (left_in_view w v y yv))) i

    by_live : (b : Bool) → is_live (view_in w (newest w)) p ≡ b → b ≡ false
    by_live false e = refl
    by_live true e = absurd (false≢true (sym dead ∙ g.inv.history.dies p v (newest w) known vn (omega arith) e))

-- who runs and doesn't own an origin has nothing retired of it
retired_elsewhere : (w : World) (y p : ℕ) → IsGood w → 1 ≤ p → p < size w → runs w y ≡ true → owner w p ≢ Some y → (row_at (member_at w y) p).retired ≡ 0
retired_elsewhere w y p g some lt ry other = by_running (running_from w p) refl
  where
    by_running : (us : List ℕ) → running_from w p ≡ us → (row_at (member_at w y) p).retired ≡ 0
    by_running [] e = absurd (false≢true (ap (is_in y) (sym e) ∙ runs_in_walk w y p g.inv ry))
    by_running (x ∷ us) e = by_head (nat_eq y x) refl (ap (is_in y) (sym e) ∙ runs_in_walk w y p g.inv ry)
      where
        by_head : (b : Bool) → nat_eq y x ≡ b → cond b true (is_in y us) ≡ true → (row_at (member_at w y) p).retired ≡ 0
        by_head true t i = absurd (other (ap first e ∙ ap (λ k. Some k) (sym (nat_eq-is y x t))))
        by_head false t i = g.inv.retired.none p x y us (g.inv.origins p some lt) e i

-- ---- a link at a door

-- its packets all count
all_packets : (a b : Bool) (ks : List Packet) → b ≡ false → cond (a && b) (drop 1 ks) ks ≡ ks
all_packets true true ks e = absurd (false≢true (sym e))
all_packets true false ks e = refl
all_packets false b ks e = refl

door_near : (w : World) (y s : ℕ) → IsGood w → EndsRight w → LinesRight w → runs w y ≡ true → s < length w.links → is_door_link w y s ≡ true → passes w y (link_at w s) ≡ true → BeginsNear w y s
door_near w y s g ends lines ry lt door pass = by_packets l.packets refl (lines.untouched y s lt ry to goes_on kept elsewhere)
  where
    l : Link
    l = link_at w s

    parts : (nat_eq l.receiver y ≡ true) × ((not (is_current w y s) && not l.over) ≡ true)
    parts = and_parts (nat_eq l.receiver y) (not (is_current w y s) && not l.over) door

    rest : (not (is_current w y s) ≡ true) × (not l.over ≡ true)
    rest = and_parts (not (is_current w y s)) (not l.over) parts.1

    to : l.receiver ≡ y
    to = nat_eq-is l.receiver y parts.0

    not_current : is_current w y s ≡ false
    not_current = not-true (is_current w y s) rest.0

    goes_on : l.over ≡ false
    goes_on = not-true l.over rest.1

    kept : is_kept w l (version_of w y) ≡ true
    kept = sym (passes_is w y s g lt to) ∙ pass

    elsewhere : (member_at w y).current ≢ Some s
    elsewhere e = false≢true (sym not_current ∙ ap (λ c. is_place c s) e ∙ nat_eq-same s)

    is_open_there : is_open w y s ≡ true
    is_open_there = ap (λ b. b || (is_door_link w y s && passes w y l)) not_current ∙ and_from (is_door_link w y s) (passes w y l) door pass

    by_packets : (ks : List Packet) → l.packets ≡ ks → HasFirst l.had ks → BeginsNear w y s
    by_packets [] e f = absurd f
    by_packets (k ∷ ks) e f = record {
      untaken = f.0;
      some = ap is_empty e;
      lo = λ p some pl.
          let first_is : oldest l ≡ k = ap (λ js. get_or js 0 no_packet) e in
          omega (
            arith,
            ap (λ j. (numbers_at j p).lo) first_is,
            f.1 p,
            falls_across (number (λ j. j.got) (λ r. r.got) w p y) (numbers_at k p).forgot (gots w p) (forgots w p ++ retired_by w p (running_from w p)) (g.inv.walks p some pl)
                (number_in_gots w y p g.inv ry) (in_first (numbers_at k p).forgot (forgots w p) (retired_by w p (running_from w p)) (stands p)),
          );
    }
      where
        all : counted w y l ≡ k ∷ ks
        all = counts w y s g ends ry lt ∙ ap (λ b. cond b (packets_of w y s) []) is_open_there ∙ all_packets (is_waiting (member_at w y).phase) (is_current w y s) l.packets not_current ∙ e

        stands : (p : ℕ) → is_in (numbers_at k p).forgot (forgots w p) ≡ true
        stands p =
            packet_in_round _ (λ q. numbers f2 (counted w q) w.links) _ (number (λ j. j.forgot) (λ r. r.forgot) w p) y (f2 k) (running_from w p) (runs_in_walk w y p g.inv ry)
            (in_numbers f2 (counted w y) w.links s k ks lt all)
            (by_early (is_early (stopped_from w p) l) refl)
          where
            f2 : Packet → ℕ
            f2 j = (numbers_at j p).forgot

            by_early : (b : Bool) → is_early (stopped_from w p) l ≡ b → (is_in (f2 k) (numbers f2 (only (is_early (stopped_from w p)) (counted w y)) w.links) ≡ true) ⊎ (is_in (f2 k) (numbers f2 (no_but (is_early (stopped_from w p)) (counted w y)) w.links) ≡ true)
            by_early true b = inl (in_numbers f2 (only (is_early (stopped_from w p)) (counted w y)) w.links s k ks lt (ap (λ t. cond t (counted w y l) []) b ∙ all))
            by_early false b = inr (in_numbers f2 (no_but (is_early (stopped_from w p)) (counted w y)) w.links s k ks lt (ap (λ t. cond t [] (counted w y l)) b ∙ all))

-- ---- together

links_stand : (w : World) → IsGood w → EndsRight w → LinesRight w → HoldsBack w → IsTurned w → ((x : ℕ) → runs w x ≡ true → (member_at w x).out ≡ None → HasNeverSent w x) → LinksStand w
links_stand w g ends lines holds turned never = record {
  current = λ y s ry e. takes_from_left w y s g ends ry e;
  waits = λ y e. record { some = g.inv.joining.some y e; opened = λ s c. g.inv.joining.opened y s e c; first = λ s c. g.inv.waiting.first y s e c };
  out = λ x o rx e. record { there = g.inv.linked.out_lt x o rx e; sender = g.inv.linked.out_from x o rx e; receiver = g.inv.linked.out_to x o rx e; goes_on = (ends.sends x o rx e).goes_on };
  nowhere = never;
  silent = holds.silent;
  periods = have_periods w g;
  longer = λ p some lt. longer_walk_falls w p g ends holds turned some lt;
  door = λ y s ry lt door pass. door_near w y s g ends lines ry lt door pass;
  between_gone = λ y p ry i. between_gone w y p g ry i;
  retired = λ y p some lt ry other. retired_elsewhere w y p g some lt ry other;
}

-- in every state of every run
pub reached_links_stand : (credit : CreditSpec) (names : List (List ℕ)) (es : List Act) → AreOpeningNames names → IsRun (opening credit names) es → LinksStand (last (opening credit names) es)
reached_links_stand credit names es are r =
    links_stand (last (opening credit names) es) (reached_good credit names es are r) (reached_ends credit names es are r) (reached_lines credit names es are r) (reached_holds credit names es are r) (reached_turned credit names es are r)
    (reached_never_sent credit names es are r)
