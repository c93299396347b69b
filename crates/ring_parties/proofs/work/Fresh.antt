-- In every state of every run nobody has taken from a link at a door.
use Rattle.std.proofs.Common.{◌≡◌, ◌≢◌, ℕ, ◌+◌, ◌<◌, ◌≤◌, Bool, true, false, not, nat_eq, List, length, set, [], ◌∷◌, ◌++◌, Option, Some, None, refl, sym, ap, ◌∙◌, arith, ⊎_elim}
use Rattle.std.specs.Prelude.{◌&&◌}
use Rattle.std.proofs.lemmas.Bool.{false≢true, and_parts, and_from, not-true, cases_lt, cases_eq, false_from_ne_true, true_from_ne_false}
use Rattle.std.proofs.lemmas.List.{length-set, length_push, get_or_append_left, get_or-set_same, get_or-set_other}
use Rattle.ring_names.specs.declared.numbers.CreditSpec.{CreditSpec}
use Rattle.credit_flow.specs.Credit.{none_taken}
use Rattle.group_view.specs.View.{Group}
use Rattle.group_view.specs.Change.{AreOpeningNames, marked}
use Rattle.ring_rules.specs.declared.event.Event.{Event}
use Rattle.ring_rules.specs.declared.phase.Ending.TheVariants.{Halted}
use Rattle.ring_rules.specs.Machine.{Member, Link, World, no_link, no_member, member_at, link_at, view_in, newest, runs_phase, is_kept, is_kept_of, oldest}
use Rattle.ring_rules.specs.OpenLinks.{is_place, is_current, is_door_link, passes}
use Rattle.ring_rules.specs.Step.{size, published, publish_at, put_on, gain_on, taker, take_from, begun, begin_from, joiner, come_to, pushed, popped, next_packet, finished, stopped, stop_at, ended, end_out, kept_current, moved_to, look_at, opening}
use Rattle.ring_rules.specs.Event.{erased_view, synced_view, refreshed, refusal, effect, IsRun, last}
use Rattle.ring_rules.proofs.rings.Lists.{get_or_beyond}
use Rattle.ring_rules.proofs.events.Cases.{each_event, up_runs}
use Rattle.ring_rules.proofs.events.Composed.{end_composed}
use Rattle.ring_rules.proofs.events.First.{first_link_is}
use Rattle.ring_rules.proofs.rings.Lists.{at_set}
use Rattle.ring_rules.proofs.rings.Rounds.{nat_eq-is, nat_eq-same}
use Rattle.ring_rules.proofs.invariants.Happens.{IsGood, opening_good}
use Rattle.ring_rules.proofs.runs.OfEvents.{event_good, reached_good, run_events, event_later, reached_nobody}
use Rattle.ring_rules.proofs.invariants.Shape.{SameEnds}
use Rattle.ring_rules.specs.Work.{place_by, place_at}
use Rattle.ring_rules.proofs.walks.LeftLinks.{IsLater, fails_later}
use Rattle.ring_rules.proofs.work.Places.{IsWritten, KeepsPlaces, left_fails, written, unwritten, written_places, leave_places, refresh_places, pick_places}
use Rattle.ring_rules.proofs.work.Refreshed.{opened_world, old_links, sending_member, link_old, link_new, links_more, refresh_cases}
use Rattle.gm_member.specs.Stands.{waits_for}
use Rattle.ring_parties.proofs.standing.Placing.{GoBetween, go_between}
use Rattle.ring_parties.proofs.deposits.Collections.{AreFresh}

-- ---- the place of a link that waits

-- it is the highest one
waits_high : (w : World) (z s : ℕ) → waits_for w z s ≡ true → place_at w s ≡ 2
waits_high w z s e =
    let l : Link = link_at w s in
    let a = and_parts (is_door_link w z s) (passes w z l) e in
    let b = and_parts (nat_eq l.receiver z) (not (is_current w z s) && not l.over) a.0 in
    let c = and_parts (not (is_current w z s)) (not l.over) b.1 in
    ap (λ q. place_by l.over (is_current w q s) (passes w q l)) (nat_eq-is l.receiver z b.0)
    ∙ ap (λ t. place_by t (is_current w z s) (passes w z l)) (not-true l.over c.1)
    ∙ ap (λ t. place_by false t (passes w z l)) (not-true (is_current w z s) c.0)
    ∙ ap (λ t. place_by false false t) a.1

-- what a link there is like
high_is : (o c d : Bool) → 2 ≤ place_by o c d → (o ≡ false) × (c ≡ false) × (d ≡ true)
high_is true c d h = absurd (omega arith)
high_is false true d h = absurd (omega arith)
high_is false false true h = (refl, refl, refl)
high_is false false false h = absurd (omega arith)

-- so it waits for its receiver, which doesn't take from it
high_waits : (w : World) (s : ℕ) → 2 ≤ place_at w s → (waits_for w (link_at w s).receiver s ≡ true) × (is_current w (link_at w s).receiver s ≡ false)
high_waits w s h =
    let l : Link = link_at w s in
    let taken : Bool = is_current w l.receiver s in
    let k = high_is l.over taken (passes w l.receiver l) h in
    (and_from (is_door_link w l.receiver s) (passes w l.receiver l) (and_from (nat_eq l.receiver l.receiver) (not taken && not l.over) (nat_eq-same l.receiver) (and_from (not taken) (not l.over) (ap not k.1) (ap not k.0))) k.2, k.1)

-- ---- one event

-- what the receiver of a link has counted stays where it doesn't take from that link, and is nothing where the link is new
record Keeps (w w' : World) : Type 0 where
  credit : none_taken w'.initial w'.more ≡ none_taken w.initial w.more
  counted : (s : ℕ) → s < length w.links → is_current w (link_at w s).receiver s ≡ false → (link_at w' s).flow.receiver ≡ (link_at w s).flow.receiver
  opened : (s : ℕ) → length w.links ≤ s → s < length w'.links → (link_at w' s).flow.receiver ≡ none_taken w.initial w.more

-- the links stay
keeps_links : (w : World) (vs : List Group) (ms : List Member) → Keeps w (record w { views = vs; members = ms })
keeps_links w vs ms = record { credit = refl; counted = λ s sl free. refl; opened = λ s ge lt. absurd (omega arith) }

-- or one is written, and its receiver has counted the same, or takes from it
keeps_set : (w : World) (ms : List Member) (s : ℕ) (l : Link) → s < length w.links → (is_current w (link_at w s).receiver s ≡ false → l.flow.receiver ≡ (link_at w s).flow.receiver) → Keeps w (record w { members = ms; links = set w.links s l })
keeps_set w ms s l sl same = record {
  credit = refl;
  counted = λ j _. at_set (λ k (a : Link). is_current w (link_at w k).receiver k ≡ false → a.flow.receiver ≡ (link_at w k).flow.receiver) w.links s j l no_link sl same (λ _ _. refl);
  opened = λ j ge lt. absurd (omega (arith, length-set w.links s l));
}

-- a stop
stop_keeps : (w : World) (x : ℕ) (o : Option ℕ) → ((k : ℕ) → o ≡ Some k → k < length w.links) → Keeps w (end_out Halted (stop_at w x) o)
stop_keeps w x None there = keeps_links w w.views (stop_at w x).members
stop_keeps w x (Some o) there = keeps_set w (stop_at w x).members o (ended Halted (link_at w o)) (there o refl) (λ _. refl)

-- x refreshes, of these members and these views
refresh_keeps : (w : World) (vs : List Group) (ms : List Member) (x v : ℕ) → x < length ms → Keeps w (refreshed (record w { views = vs; members = ms }) x v)
refresh_keeps w vs ms x v lt = refresh_cases (Keeps w) seen x v lt (λ _. keeps_links w vs _) (λ _. record {
  credit = refl;
  counted = λ s sl _. ap (λ (a : Link). a.flow.receiver) (link_old seen x v s sl);
  opened = λ s ge l.
      let is : s ≡ length w.links = omega (arith, ge, l, links_more seen x v) in
      ap (λ k. (link_at (opened_world seen x v (old_links seen x)) k).flow.receiver) is ∙ ap (λ (a : Link). a.flow.receiver) (link_new seen x v);
})
  where
    seen : World
    seen = record w { views = vs; members = ms }

-- each event
event_keeps : (w : World) (e : Event) → IsGood w → refusal w e ≡ None → Keeps w (effect w e)
event_keeps w e g r = each_event (Keeps w) w e g (record {
  casts = λ x m u _. keeps_links w w.views _;
  puts = λ x o u out k. keeps_set w w.members o (pushed (link_at w o) (next_packet (member_at w x) (link_at w o).sending)) (g.inv.linked.out_lt x o (ap runs_phase u.up) out) (λ _. refl);
  takes = λ y s u m. taken y s (ap runs_phase u.up) m.current _;
  begins = λ y s u m. taken y s u.runs_on m.current _;
  leaves = λ y s u current k. keeps_set w _ s (finished (link_at w s)) (g.inv.current.lt y s (ap runs_phase u.up) current) (λ _. refl);
  gains = λ x o u out k. keeps_set w w.members o _ (g.inv.linked.out_lt x o (ap runs_phase u.up) out) (λ _. refl);
  stops = λ x u. stop_keeps w x (member_at w x).out (λ k out. g.inv.linked.out_lt x k u.runs_on out);
  marks = λ x d u m. refresh_keeps w (w.views ++ marked (view_in w (newest w)) d ∷ []) w.members x (newest w + 1) u.lt;
  erases = λ x d u m. refresh_keeps w (w.views ++ erased_view w d ∷ []) w.members x (newest w + 1) u.lt;
  syncs = λ x u m. refresh_keeps w (w.views ++ synced_view w x ∷ []) w.members x (newest w + 1) u.lt;
  admits = λ x name u k. refresh_keeps w (come_to w x name).views (come_to w x name).members x (newest w + 1) (omega (arith, u.lt, length_push w.members (joiner w name)));
  refreshes = λ x v u m. refresh_keeps w w.views w.members x v u.lt;
  picks = λ y s u none at upto. keeps_links w w.views _;
  refuses = keeps_links w w.views w.members;
}) r
  where
    -- a packet is taken
    taken : (y s : ℕ) → runs_phase (member_at w y).phase ≡ true → (member_at w y).current ≡ Some s → (ms : List Member) → Keeps w (record w { members = ms; links = set w.links s (popped (link_at w s)) })
    taken y s run current ms = keeps_set w ms s (popped (link_at w s)) (g.inv.current.lt y s run current)
        (λ free. absurd (false≢true (sym free ∙ ap (λ q. is_current w q s) (g.inv.current.receiver y s run current) ∙ ap (λ c. is_place c s) current ∙ nat_eq-same s)))

-- ---- no link comes to stand at a door

-- a link that waits then has waited before
abbrev NoneComes : World → World → Type 0
NoneComes w w' = (t : ℕ) → t < length w.links → 2 ≤ place_at w' t → 2 ≤ place_at w t

-- in a good state that is later
abbrev KeepsDoors : World → World → Type 0
KeepsDoors w w' = IsGood w' → IsLater w w' → NoneComes w w'

-- so where no link rises from its place
doors_of : (w w' : World) → KeepsPlaces w w' → KeepsDoors w w'
doors_of w w' h g' k t tl high = let falls : place_at w' t ≤ place_at w t = h g' k t tl in omega (arith, falls, high)

-- where x reads a view and becomes y, and the others that were there take from the same links, whoever joins them
module _ (w w' : World) (x t : ℕ) (y : Member) (h : IsGood w) (h' : IsGood w') (k : IsLater w w') (tl : t < length w.links) (here : member_at w' x ≡ y) (others : (q : ℕ) → q ≢ x → q < size w → member_at w' q ≡ member_at w q)
    (reads : y.current ≡ kept_current (λ s. is_kept_of w'.views (link_at w s).receiver (link_at w s).sender (link_at w s).opened y.version) (member_at w x).current) where
  looks_at_doors : 2 ≤ place_at w' t → 2 ≤ place_at w t
  looks_at_doors high = omega (arith, is)
    where
      l : Link
      l = link_at w t

      l' : Link
      l' = link_at w' t

      r : ℕ
      r = l.receiver

      ends : SameEnds l l'
      ends = k.ends t tl

      high_then : (l'.over ≡ false) × (is_current w' l'.receiver t ≡ false) × (passes w' l'.receiver l' ≡ true)
      high_then = high_is l'.over (is_current w' l'.receiver t) (passes w' l'.receiver l') high

      free_then : is_current w' r t ≡ false
      free_then = ap (λ q. is_current w' q t) (sym ends.receiver) ∙ high_then.1

      passes_then : passes w' r l' ≡ true
      passes_then = ap (λ q. passes w' q l') (sym ends.receiver) ∙ high_then.2

      goes_on : l.over ≡ false
      goes_on = false_from_ne_true l.over (λ e. false≢true (sym high_then.0 ∙ k.over t tl e))

      passes_now : passes w r l ≡ true
      passes_now = true_from_ne_false (passes w r l) (λ e. false≢true (sym (fails_later w w' r t h h' k tl refl e) ∙ passes_then))

      -- x leaves only a link that fails the test
      mine : r ≡ x → is_current w r t ≡ true → ⊥
      mine same e =
          let gone : is_place y.current t ≡ false = ap (λ (z : Member). is_place z.current t) (sym here) ∙ ap (λ q. is_current w' q t) (sym same) ∙ free_then in
          false≢true (sym (left_fails w w' x t y h' k tl here reads (ap (λ q. is_current w q t) (sym same) ∙ e) gone same) ∙ passes_then)

      -- and another none
      other : r ≢ x → is_current w r t ≡ true → ⊥
      other ne e = ⊎_elim
          (λ (lt : r < size w). false≢true (sym free_then ∙ ap (λ (z : Member). is_place z.current t) (others r ne lt) ∙ e))
          (λ (ge : size w ≤ r). false≢true (ap (λ (z : Member). is_place z.current t) (sym (get_or_beyond w.members r no_member ge)) ∙ e))
          (cases_lt r (size w))

      free_now : is_current w r t ≡ false
      free_now = false_from_ne_true (is_current w r t) (λ e. ⊎_elim (λ (same : r ≡ x). mine same e) (λ (ne : r ≢ x). other ne e) (cases_eq r x))

      is : place_at w t ≡ 2
      is =
          ap (λ b. place_by b (is_current w r t) (passes w r l)) goes_on
          ∙ ap (λ b. place_by false b (passes w r l)) free_now
          ∙ ap (λ b. place_by false false b) passes_now

-- an admission
admit_doors : (w : World) (x : ℕ) (name : List ℕ) → IsGood w → x < size w → KeepsDoors w (refreshed (come_to w x name) x (newest w + 1))
admit_doors w x name g lt = refresh_cases (KeepsDoors w) seen x v within
    (λ _ h k t tl. looks_at_doors w (look_at seen x v) x t (moved_to seen x v) g h k tl (get_or-set_same seen.members x (moved_to seen x v) no_member within) (others (moved_to seen x v)) reads)
    (λ _ h k t tl. looks_at_doors w (opened_world seen x v (old_links seen x)) x t (sending_member seen x v (length w.links)) g h k tl
    (get_or-set_same seen.members x (sending_member seen x v (length w.links)) no_member within) (others (sending_member seen x v (length w.links))) reads)
  where
    seen : World
    seen = come_to w x name

    v : ℕ
    v = newest w + 1

    within : x < size seen
    within = omega (arith, lt, length_push w.members (joiner w name))

    old : (q : ℕ) → q < size w → member_at seen q ≡ member_at w q
    old q l = get_or_append_left w.members (joiner w name ∷ []) no_member q l

    others : (y : Member) (q : ℕ) → q ≢ x → q < size w → member_at (record seen { members = set seen.members x y }) q ≡ member_at w q
    others y q ne l = get_or-set_other seen.members x q y no_member ne ∙ old q l

    reads : (moved_to seen x v).current ≡ kept_current (λ s. is_kept seen (link_at w s) v) (member_at w x).current
    reads = ap (λ (z : Member). kept_current (λ s. is_kept seen (link_at w s) v) z.current) (old x lt)

-- each event
event_doors : (w : World) (e : Event) → IsGood w → refusal w e ≡ None → NoneComes w (effect w e)
event_doors w e g r = each_event (KeepsDoors w) w e g (record {
  casts = λ x m u _. doors_of w _ (written_places w (publish_at w x m) x (published x m (member_at w x)) g (written w w.views x (published x m (member_at w x)) w.links u.lt) refl);
  puts = λ x o u out k. doors_of w _ (written_places w (put_on w x o) x (member_at w x) g (unwritten w x (put_on w x o).links) refl);
  takes = λ y s u m. doors_of w _ (written_places w (take_from w y s) y (taker w y s) g (written w w.views y (taker w y s) (take_from w y s).links u.lt) refl);
  begins = λ y s u m. doors_of w _ (written_places w (begin_from w y s) y (begun (size w) (member_at w y) (oldest (link_at w s))) g (written w w.views y (begun (size w) (member_at w y) (oldest (link_at w s))) (begin_from w y s).links u.lt) refl);
  leaves = λ y s u current k. doors_of w _ (leave_places w y s g (up_runs w y u) current);
  gains = λ x o u out k. doors_of w _ (written_places w (gain_on w o) x (member_at w x) g (unwritten w x (gain_on w o).links) refl);
  stops = λ x u. doors_of w _ (written_places w (end_out Halted (stop_at w x) (member_at w x).out) x (stopped (member_at w x)) g
      (end_composed (λ w'. IsWritten w w' x (stopped (member_at w x))) Halted (stop_at w x) (member_at w x).out (λ _ _ m. record { many = m.many; here = m.here; others = m.others }) (written w w.views x (stopped (member_at w x)) w.links u.lt)) refl);
  marks = λ x d u m. doors_of w _ (refresh_places w (w.views ++ marked (view_in w (newest w)) d ∷ []) x (newest w + 1) g u.lt);
  erases = λ x d u m. doors_of w _ (refresh_places w (w.views ++ erased_view w d ∷ []) x (newest w + 1) g u.lt);
  syncs = λ x u m. doors_of w _ (refresh_places w (w.views ++ synced_view w x ∷ []) x (newest w + 1) g u.lt);
  admits = λ x name u k. admit_doors w x name g u.lt;
  refreshes = λ x v u m. doors_of w _ (refresh_places w w.views x v g u.lt);
  picks = λ y s u none at upto. doors_of w _ (pick_places w y s g u.lt none at upto);
  refuses = doors_of w w (written_places w w 0 (member_at w 0) g (unwritten w 0 w.links) refl);
}) r (event_good w e g r) (event_later w e g r)

-- a link that waits then has waited before, or is new
event_fresh : (w : World) (e : Event) → IsGood w → refusal w e ≡ None → AreFresh w → AreFresh (effect w e)
event_fresh w e g r f z s l waits =
    let k = event_keeps w e g r in
    ⊎_elim
    (λ (lt : s < length w.links).
    let was = high_waits w s (event_doors w e g r s lt (let high = waits_high (effect w e) z s waits in omega (arith, high))) in
    k.counted s lt was.1 ∙ f (link_at w s).receiver s lt was.0 ∙ sym k.credit)
    (λ (ge : length w.links ≤ s). k.opened s ge l ∙ sym k.credit)
    (cases_lt s (length w.links))

-- ---- runs

opening_fresh : (credit : CreditSpec) (names : List (List ℕ)) → AreFresh (opening credit names)
opening_fresh credit names z s l e = ap (λ (a : Link). a.flow.receiver) (first_link_is credit names s l)

pub reached_fresh : (credit : CreditSpec) (names : List (List ℕ)) (events : List Event) → AreOpeningNames names → IsRun (opening credit names) events → AreFresh (last (opening credit names) events)
reached_fresh credit names events are r = run_events AreFresh event_fresh (opening credit names) events (opening_good credit names are) r (opening_fresh credit names)

-- and each link goes from a member to a member
pub reached_go : (credit : CreditSpec) (names : List (List ℕ)) (events : List Event) → AreOpeningNames names → IsRun (opening credit names) events → GoBetween (last (opening credit names) events)
reached_go credit names events are r = go_between (last (opening credit names) events) (reached_good credit names events are r) (reached_nobody credit names events are r)
