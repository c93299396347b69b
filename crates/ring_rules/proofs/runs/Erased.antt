-- All numbers of an erased origin agree, and never change.
use Rattle.std.proofs.Common.{◌≡◌, ℕ, zero, suc, ◌<◌, ◌≤◌, Bool, true, false, cond, List, [], ◌∷◌, ◌++◌, length, get_or, refl, sym, ap, subst, ◌∙◌, append_assoc, arith, nat_eq, ⊎_elim, ◌⊎◌, inl, inr}
use Rattle.std.specs.List.{filter, flat_map}
use Rattle.std.proofs.lemmas.Bool.{false≢true, cases_lt}
use Rattle.ring_names.specs.declared.numbers.CreditSpec.{CreditSpec}
use Rattle.group_view.specs.declared.entry.Mark.{Mark}
use Rattle.group_view.specs.declared.entry.Mark.TheVariants.{Live, Dead, Erased}
use Rattle.group_view.specs.Ring.{is_in, rotated, after}
use Rattle.group_view.specs.View.{Group, entry_in, is_live_mark, is_erased_mark, is_erased}
use Rattle.group_view.specs.Change.{AreOpeningNames}
use Rattle.group_view.proofs.Neighbours.{passes_in}
use Rattle.group_view.proofs.Erasing.{mark-remarked, mark-admitted}
use Rattle.ring_rules.proofs.invariants.Newest.{NewestAfter, newest_stays, newest_marked, newest_erased, newest_synced, newest_admitted, newest_after, move_more}
use Rattle.ring_rules.specs.View.{is_live}
use Rattle.ring_rules.specs.declared.numbers.Numbers.{Numbers}
use Rattle.ring_rules.specs.Rows.{Row}
use Rattle.ring_rules.specs.Machine.{World, runs_phase, Packet, Link, no_packet, no_link, numbers_at, link_at, view_in, newest, ring, runs}
use Rattle.ring_rules.specs.OpenLinks.{NeverRises, number, is_open, packets_of}
use Rattle.ring_rules.proofs.walks.CountedWalk.{newest_first, numbers, counted, only, no_but, is_early, block, round_of, retired_by, stopped_from, running_from, walk}
use Rattle.ring_rules.specs.Step.{size, admitted_view, opening}
use Rattle.ring_rules.specs.Act.{Act, IsRun, last}
use Rattle.ring_rules.specs.Lawful.{row_of, has_erased, AgreesOn, ErasedAgrees, StaysErased}
use Rattle.ring_rules.proofs.rings.Rounds.{nat_eq-is, nat_eq-not}
use Rattle.ring_rules.proofs.walks.Links.{numbers_none}
use Rattle.group_view.proofs.Rings.{in_first, in_second}
use Rattle.ring_rules.proofs.rings.Falling.{in_head}
use Rattle.ring_rules.proofs.runs.Apart.{packet_in_round}
use Rattle.ring_rules.proofs.walks.Put.{number_up}
use Rattle.ring_rules.proofs.walks.Views.{dead_rests}
use Rattle.ring_rules.proofs.invariants.Kept.{Inv}
use Rattle.ring_rules.proofs.invariants.Opening.{opening_live_at}
use Rattle.ring_rules.proofs.invariants.KeptAdmit.{live_in_new}
use Rattle.ring_rules.proofs.invariants.Happens.{IsGood, opening_good, reached_good, run_good}
use Rattle.group_view.proofs.Syncing.{mark_registered}
use Rattle.ring_rules.proofs.events.WhatRefuses.{MayErase}
use Rattle.ring_rules.proofs.walks.Ended.{EndsRight, ends_run}
use Rattle.ring_rules.proofs.walks.OpenWalk.{counts, reached_ends}
use Rattle.ring_rules.proofs.invariants.Standing.{OwnsAlone, owns_alone}
use Rattle.ring_rules.proofs.walks.Aliases.{alias_facts}
use Rattle.ring_rules.proofs.walks.Twice.{gots, forgots, Edits}
use Rattle.ring_rules.proofs.walks.Agreed.{AllAre, all_are_kept, all_are_at, squeezed}
use Rattle.ring_rules.proofs.runs.Confirmed.{runs_in_walk, number_in_gots, number_in_forgots}
use Rattle.ring_rules.proofs.invariants.Moves.{Move, run_moves}
use Rattle.ring_rules.proofs.walks.MoveEdits.{move_edits}

-- ---- at an erasure

-- the walk of the one that is erased begins and ends with the same number
pub erased_now : (w : World) (x p : ℕ) → Inv w → 1 ≤ p → p < size w → MayErase w x p → AllAre (row_of w x p).got (gots w p ++ forgots w p)
erased_now w x p h some lt m = subst (λ us. AllAre c us) (sym head_is) (squeezed c rest (subst NeverRises walk_is (h.walks p some lt)))
  where
    c : ℕ
    c = (row_of w x p).got

    rx : runs w x ≡ true
    rx = ap runs_phase m.up

    alone : OwnsAlone w x p
    alone = owns_alone w x p h.is_ring h.linked h.history rx (alias_facts w x p h.is_ring h.history h.ordered rx m.owned)

    qs : List ℕ
    qs = filter (runs w) (after x (rotated p (ring w)))

    st : List ℕ
    st = stopped_from w p

    body : List ℕ
    body = flat_map (block (λ q. numbers (λ k. (numbers_at k p).got) (counted w q) w.links) (number (λ k. k.got) (λ r. r.got) w p)) qs ++ numbers (λ k. (numbers_at k p).got) (no_but (is_early st) (counted w x)) w.links

    rest : List ℕ
    rest = body ++ forgots w p

    gots_is : gots w p ≡ c ∷ body
    gots_is =
        ap (round_of (λ k. k.got) (λ r. r.got) w p st) alone.running
        ∙ ap (λ us. us ++ (number (λ k. k.got) (λ r. r.got) w p x ∷ body)) (numbers_none (λ k. (numbers_at k p).got) (only (is_early st) (counted w x)) w.links (λ j _. alone.none j))
        ∙ ap (λ a. a ∷ body) (number_up (λ k. k.got) (λ r. r.got) w p x m.up)

    head_is : gots w p ++ forgots w p ≡ c ∷ rest
    head_is = ap (λ us. us ++ forgots w p) gots_is

    retired_is : retired_by w p (running_from w p) ≡ c ∷ []
    retired_is = ap (retired_by w p) alone.running ∙ ap (λ a. a ∷ []) (sym m.come_round)

    walk_is : walk w p ≡ c ∷ (rest ++ c ∷ [])
    walk_is =
        ap (λ us. us ++ (forgots w p ++ retired_by w p (running_from w p))) gots_is
        ∙ ap (λ us. c ∷ (body ++ (forgots w p ++ us))) retired_is
        ∙ ap (λ us. c ∷ us) (sym (append_assoc body (forgots w p) (c ∷ [])))

-- ---- who is erased

-- it isn't live
apart : (m : Mark) → is_erased_mark m ≡ true → is_live_mark m ≡ true → ⊥
apart Live a b = false≢true a
apart Dead a b = false≢true b
apart Erased a b = false≢true b

-- and doesn't run
pub erased_rests : (w : World) (p : ℕ) → Inv w → has_erased w p ≡ true → runs w p ≡ false
erased_rests w p h e = by_runs (runs w p) refl
  where
    by_runs : (b : Bool) → runs w p ≡ b → b ≡ false
    by_runs false r = refl
    by_runs true r = absurd (apart (entry_in (view_in w (newest w)).entries p).mark e (h.is_ring.lives p (newest w) r (h.is_ring.held p) (omega arith)))

-- it was erased before the step, or the step erases it
data Was (w w' : World) (p : ℕ) : Type 0 where
  before_it : has_erased w p ≡ true → Was w w' p
  by_it : (x : ℕ) → MayErase w x p → Edits w w' p → Was w w' p

record Before (w w' : World) (p : ℕ) : Type 0 where
  pub pl : p < size w
  pub was : Was w w' p

-- what is erased afterwards
erased_before : (w w' : World) (p : ℕ) → IsGood w → Move IsGood w w' → 1 ≤ p → p < size w' → has_erased w' p ≡ true → Before w w' p
erased_before w w' p g k some pl er = by_newest (newest_after IsGood w w' g k)
  where
    v : Group
    v = view_in w (newest w)

    by_newest : NewestAfter w w' → Before w w' p
    by_newest (newest_stays sizes is) = record { pl = omega (arith, pl, sizes); was = before_it (ap (λ (a : Group). is_erased a.entries p) (sym is) ∙ er) }
    by_newest (newest_marked d live sizes is) =
        let lt : p < size w = omega (arith, pl, sizes) in
        record { pl = lt; was = before_it (by_test (nat_eq p d) (ap is_erased_mark (sym (mark-remarked Dead v d p (g.inv.origins p some lt))) ∙ ap (λ (a : Group). is_erased a.entries p) (sym is) ∙ er)) }
      where
        by_test : (b : Bool) → is_erased_mark (cond b Dead (entry_in v.entries p).mark) ≡ true → has_erased w p ≡ true
        by_test true t = absurd (false≢true t)
        by_test false t = t
    by_newest (newest_erased x d m sizes is) =
        let lt : p < size w = omega (arith, pl, sizes) in
        record { pl = lt; was = by_test (nat_eq p d) refl (ap is_erased_mark (sym (mark-remarked Erased v d p (g.inv.origins p some lt))) ∙ ap (λ (a : Group). is_erased a.entries p) (sym is) ∙ er) lt }
      where
        by_test : (b : Bool) → nat_eq p d ≡ b → is_erased_mark (cond b Erased (entry_in v.entries p).mark) ≡ true → p < size w → Was w w' p
        by_test true t _ lt =
            let m2 : MayErase w x p = subst (MayErase w x) (sym (nat_eq-is p d t)) m in
            by_it x m2 (move_edits IsGood w w' p g k some lt (dead_rests w p g.inv.is_ring m2.dead))
        by_test false t er2 lt = before_it er2
    by_newest (newest_synced x m sizes is) =
        let lt : p < size w = omega (arith, pl, sizes) in
        record { pl = lt; was = before_it (ap is_erased_mark (sym (mark_registered v x p (g.inv.origins p some lt))) ∙ ap (λ (a : Group). is_erased a.entries p) (sym is) ∙ er) }
    by_newest (newest_admitted m name j sizes is) = ⊎_elim
        (λ (old : p < size w). record { pl = old; was = before_it (ap is_erased_mark (sym (mark-admitted v m name j.may p (g.inv.origins p some old))) ∙ ap (λ (a : Group). is_erased a.entries p) (sym is) ∙ er) })
        (λ (ge : size w ≤ p).
        let new : p ≡ size w = omega (arith, pl, sizes, ge) in
        absurd (apart (entry_in (admitted_view w m name).entries p).mark (ap (λ (a : Group). is_erased a.entries p) (sym is) ∙ er) (ap (is_live (admitted_view w m name)) new ∙ live_in_new w m name j)))
        (cases_lt p (size w))

-- what is erased stays it
pub erased_stays : (w w' : World) (p : ℕ) → IsGood w → Move IsGood w w' → 1 ≤ p → p < size w → has_erased w p ≡ true → has_erased w' p ≡ true
erased_stays w w' p g k some pl er = by_newest (newest_after IsGood w w' g k)
  where
    v : Group
    v = view_in w (newest w)

    not_live : is_live v p ≡ true → ⊥
    not_live = apart (entry_in v.entries p).mark er

    by_newest : NewestAfter w w' → has_erased w' p ≡ true
    by_newest (newest_stays sizes is) = ap (λ (a : Group). is_erased a.entries p) is ∙ er
    by_newest (newest_marked d live sizes is) =
        ap (λ (a : Group). is_erased a.entries p) is ∙ ap is_erased_mark (mark-remarked Dead v d p (g.inv.origins p some pl))
        ∙ ap (λ b. is_erased_mark (cond b Dead (entry_in v.entries p).mark)) (nat_eq-not p d (λ same. not_live (ap (is_live v) same ∙ live))) ∙ er
    by_newest (newest_erased x d m sizes is) =
        ap (λ (a : Group). is_erased a.entries p) is ∙ ap is_erased_mark (mark-remarked Erased v d p (g.inv.origins p some pl)) ∙ either (nat_eq p d)
      where
        either : (b : Bool) → is_erased_mark (cond b Erased (entry_in v.entries p).mark) ≡ true
        either true = refl
        either false = er
    by_newest (newest_synced x m sizes is) = ap (λ (a : Group). is_erased a.entries p) is ∙ ap is_erased_mark (mark_registered v x p (g.inv.origins p some pl)) ∙ er
    by_newest (newest_admitted m name j sizes is) = ap (λ (a : Group). is_erased a.entries p) is ∙ ap is_erased_mark (mark-admitted v m name j.may p (g.inv.origins p some pl)) ∙ er

-- ---- states

-- all that is said of an erased origin is one number
pub record IsSettled (w : World) (p : ℕ) : Type 0 where
  pub on : ℕ
  pub all : AllAre on (gots w p ++ forgots w p)

abbrev pub ErasedSettled : World → Type 0
ErasedSettled w = (p : ℕ) → 1 ≤ p → p < size w → has_erased w p ≡ true → IsSettled w p

move_settled : (w w' : World) → IsGood w → Move IsGood w w' → ErasedSettled w → ErasedSettled w'
move_settled w w' g k h p some pl er = by_was (erased_before w w' p g k some pl er)
  where
    by_was : Before w w' p → IsSettled w' p
    by_was b = go b.was
      where
        go : Was w w' p → IsSettled w' p
        go (before_it e) =
            let s : IsSettled w p = h p some b.pl e in
            record { on = s.on; all = all_are_kept s.on (gots w p ++ forgots w p) (gots w' p ++ forgots w' p) (move_edits IsGood w w' p g k some b.pl (erased_rests w p g.inv e)).both s.all }
        go (by_it x m edits) = record { on = (row_of w x p).got; all = all_are_kept (row_of w x p).got (gots w p ++ forgots w p) (gots w' p ++ forgots w' p) edits.both (erased_now w x p g.inv some b.pl m) }

-- and stays that number
pub record SettledOn (p n : ℕ) (w : World) : Type 0 where
  pub some : 1 ≤ p
  pub pl : p < size w
  pub erased : has_erased w p ≡ true
  pub all : AllAre n (gots w p ++ forgots w p)

move_on : (p n : ℕ) (w w' : World) → IsGood w → Move IsGood w w' → SettledOn p n w → SettledOn p n w'
move_on p n w w' g k h = record {
  some = h.some;
  pl = omega (arith, h.pl, move_more IsGood w w' g k);
  erased = erased_stays w w' p g k h.some h.pl h.erased;
  all = all_are_kept n (gots w p ++ forgots w p) (gots w' p ++ forgots w' p) (move_edits IsGood w w' p g k h.some h.pl (erased_rests w p g.inv h.erased)).both h.all;
}

-- ---- what the rounds hold

newest_in : (f : Packet → ℕ) (ks : List Packet) (i : ℕ) → i < length ks → is_in (f (get_or ks i no_packet)) (newest_first f ks) ≡ true
newest_in f [] i lt = absurd (omega arith)
newest_in f (k ∷ ks) zero lt = in_second (f k) (newest_first f ks) (f k ∷ []) (in_head (f k) [])
newest_in f (k ∷ ks) (suc i) lt = in_first (f (get_or ks i no_packet)) (newest_first f ks) (f k ∷ []) (newest_in f ks i (omega arith))

link_in : (f : Packet → ℕ) (c : Link → List Packet) (ls : List Link) (j a : ℕ) → j < length ls → is_in a (newest_first f (c (get_or ls j no_link))) ≡ true → is_in a (numbers f c ls) ≡ true
link_in f c [] j a lt e = absurd (omega arith)
link_in f c (l ∷ ls) zero a lt e = in_second a (numbers f c ls) (newest_first f (c l)) e
link_in f c (l ∷ ls) (suc j) a lt e = in_first a (numbers f c ls) (newest_first f (c l)) (link_in f c ls j a (omega arith) e)

-- each packet that is open to a running member
packet_in : (g : Numbers → ℕ) (r : Row → ℕ) (w : World) (p q s i : ℕ) → IsGood w → EndsRight w → runs w q ≡ true → s < length w.links → is_open w q s ≡ true → i < length (packets_of w q s)
    → is_in (g (numbers_at (get_or (packets_of w q s) i no_packet) p)) (round_of g r w p (stopped_from w p) (running_from w p)) ≡ true
packet_in g r w p q s i good ends rq there opens lt =
    packet_in_round _ (λ q. numbers f (counted w q) w.links) _ (number g r w p) q a (running_from w p) (runs_in_walk w q p good.inv rq)
    (link_in f (counted w q) w.links s a there (subst (λ ks. is_in a (newest_first f ks) ≡ true) (sym all) (newest_in f (packets_of w q s) i lt)))
    (by_early (is_early (stopped_from w p) (link_at w s)) refl)
  where
    f : Packet → ℕ
    f k = g (numbers_at k p)

    a : ℕ
    a = f (get_or (packets_of w q s) i no_packet)

    all : counted w q (link_at w s) ≡ packets_of w q s
    all = counts w q s good ends rq there ∙ ap (λ b. cond b (packets_of w q s) []) opens

    by_early : (b : Bool) → is_early (stopped_from w p) (link_at w s) ≡ b → (is_in a (numbers f (only (is_early (stopped_from w p)) (counted w q)) w.links) ≡ true) ⊎ (is_in a (numbers f (no_but (is_early (stopped_from w p)) (counted w q)) w.links) ≡ true)
    by_early true b = inl (link_in f (only (is_early (stopped_from w p)) (counted w q)) w.links s a there (subst (λ ks. is_in a (newest_first f ks) ≡ true) (sym (ap (λ t. cond t (counted w q (link_at w s)) []) b ∙ all)) (newest_in f (packets_of w q s) i lt)))
    by_early false b = inr (link_in f (no_but (is_early (stopped_from w p)) (counted w q)) w.links s a there (subst (λ ks. is_in a (newest_first f ks) ≡ true) (sym (ap (λ t. cond t [] (counted w q (link_at w s))) b ∙ all)) (newest_in f (packets_of w q s) i lt)))

pub settled_agrees : (w : World) (p n : ℕ) → IsGood w → EndsRight w → AllAre n (gots w p ++ forgots w p) → AgreesOn w p n
settled_agrees w p n good ends all = record {
  got = λ q rq. all_are_at n _ (gots w p ++ forgots w p) all (in_first _ (gots w p) (forgots w p) (number_in_gots w q p good.inv rq));
  forgot = λ q rq. all_are_at n _ (gots w p ++ forgots w p) all (in_second _ (gots w p) (forgots w p) (number_in_forgots w q p good.inv rq));
  packets = λ q s i rq there opens lt. (
    all_are_at n _ (gots w p ++ forgots w p) all (in_first _ (gots w p) (forgots w p) (packet_in (λ k. k.got) (λ r. r.got) w p q s i good ends rq there opens lt)),
    all_are_at n _ (gots w p ++ forgots w p) all (in_second _ (gots w p) (forgots w p) (packet_in (λ k. k.forgot) (λ r. r.forgot) w p q s i good ends rq there opens lt)),
  );
}

-- what the members agree on is what all numbers are
agrees_settled : (w : World) (p n : ℕ) → AgreesOn w p n → IsSettled w p → IsGood w → AllAre n (gots w p ++ forgots w p)
agrees_settled w p n a s good = by_running (running_from w p) refl
  where
    by_running : (ys : List ℕ) → running_from w p ≡ ys → AllAre n (gots w p ++ forgots w p)
    by_running [] e = subst (λ us. AllAre n (round_of (λ k. k.got) (λ r. r.got) w p (stopped_from w p) us ++ round_of (λ k. k.forgot) (λ r. r.forgot) w p (stopped_from w p) us)) (sym e) tt
    by_running (y ∷ ys) e =
        let ry : runs w y ≡ true = passes_in (runs w) y (rotated p (ring w)) (ap (is_in y) e ∙ in_head y ys) in
        let is : n ≡ s.on = sym (a.got y ry) ∙ all_are_at s.on _ (gots w p ++ forgots w p) s.all (in_first _ (gots w p) (forgots w p) (number_in_gots w y p good.inv ry)) in
        subst (λ k. AllAre k (gots w p ++ forgots w p)) (sym is) s.all

-- ---- runs

-- nobody is erased in the opening
opening_settled : (credit : CreditSpec) (names : List (List ℕ)) → ErasedSettled (opening credit names)
opening_settled credit names p some lt er = absurd (apart (entry_in (view_in (opening credit names) (newest (opening credit names))).entries p).mark er (opening_live_at credit names p some lt))

pub run_erased_settled : (credit : CreditSpec) (names : List (List ℕ)) (es : List Act) → AreOpeningNames names → IsRun (opening credit names) es → ErasedSettled (last (opening credit names) es)
run_erased_settled credit names es are r = run_moves ErasedSettled move_settled (opening credit names) es (opening_good credit names are) r (opening_settled credit names)

-- in every state of every run all numbers of an erased origin agree
pub run_erased_agrees : (credit : CreditSpec) (names : List (List ℕ)) (es : List Act) → AreOpeningNames names → IsRun (opening credit names) es → ErasedAgrees (last (opening credit names) es)
run_erased_agrees credit names es are r p some lt er =
    let w : World = last (opening credit names) es in
    let s : IsSettled w p = run_erased_settled credit names es are r p some lt er in
    record { on = s.on; agrees = settled_agrees w p s.on (reached_good credit names es are r) (reached_ends credit names es are r) s.all }

-- and never change
pub run_stays_erased : (credit : CreditSpec) (names : List (List ℕ)) (es later : List Act) → AreOpeningNames names → IsRun (opening credit names) es → IsRun (last (opening credit names) es) later → StaysErased (last (opening credit names) es) (last (last (opening credit names) es) later)
run_stays_erased credit names es later are r k = record {
  erased = λ p some lt er. let s = settled p some lt er in (on p s.on some lt er s.all).erased;
  agrees = λ p n some lt er a. settled_agrees w2 p n good2 ends2 (on p n some lt er (agrees_settled w p n a (settled p some lt er) good)).all;
}
  where
    w : World
    w = last (opening credit names) es

    w2 : World
    w2 = last w later

    good : IsGood w
    good = reached_good credit names es are r

    good2 : IsGood w2
    good2 = run_good w later good k

    ends2 : EndsRight w2
    ends2 = ends_run w later good k (reached_ends credit names es are r)

    settled : (p : ℕ) → 1 ≤ p → p < size w → has_erased w p ≡ true → IsSettled w p
    settled p some lt er = run_erased_settled credit names es are r p some lt er

    on : (p n : ℕ) → 1 ≤ p → p < size w → has_erased w p ≡ true → AllAre n (gots w p ++ forgots w p) → SettledOn p n w2
    on p n some lt er all = run_moves (SettledOn p n) (move_on p n) w later good k (record { some = some; pl = lt; erased = er; all = all })
