-- A running member that sends nowhere joined, has the view of its admission still, and has opened no link.
use Rattle.std.proofs.Common.{◌≡◌, ◌≢◌, ℕ, ◌+◌, ◌-◌, ◌<◌, ◌≤◌, Bool, true, false, cond, nat_eq, nat_lt, List, length, map, get_or, Some, None, refl, sym, ap, subst, ◌∙◌, ⊎_elim, arith}
use Rattle.std.proofs.lemmas.Bool.{false≢true, cases_lt, cases_eq}
use Rattle.std.proofs.lemmas.Bool.Decides.{nat_tests}
use Rattle.std.proofs.lemmas.List.{length-set, length_push, get_or-set_other, get_or-set_same, get_or_push}
use Rattle.ring_names.specs.declared.numbers.CreditSpec.{CreditSpec}
use Rattle.group_view.specs.declared.entry.Entry.{Entry}
use Rattle.group_view.specs.Ring.{is_in}
use Rattle.group_view.specs.View.{Group, ids, entry_in, left_of}
use Rattle.group_view.specs.Since.{no_group}
use Rattle.group_view.specs.Change.{AreOpeningNames, marked, admitted, new_entry, with_entry, dated}
use Rattle.group_view.proofs.Marks.{dated_keeps}
use Rattle.group_view.proofs.History.{entry_keeps}
use Rattle.group_view.proofs.Joining.{MayAdmit, entry_new, below_at}
use Rattle.group_view.proofs.Passing.{live_in}
use Rattle.ring_rules.specs.View.{right_of}
use Rattle.ring_rules.specs.Machine.{Member, Halted, Link, World, no_link, no_member, member_at, link_at, view_in, newest, runs, runs_phase, oldest}
use Rattle.ring_rules.specs.Step.{copied, size, published, pushed, popped, next_packet, taker, begun, with_current, current_is, finished, ended, stopped, stop_at, with_member, with_link, with_view, look_at, moved_to, joiner, admitted_view, come_to, opening, opening_member}
use Rattle.ring_rules.specs.Event.{refreshed, erased_view, synced_view}
use Rattle.ring_rules.specs.Act.{Act, refusal, effect, IsRun, last}
use Rattle.ring_rules.specs.LinksStand.{HasNeverSent}
use Rattle.ring_rules.proofs.events.Cases.{each_act}
use Rattle.ring_rules.proofs.events.Composed.{end_composed}
use Rattle.ring_rules.proofs.events.First.{first_each}
use Rattle.ring_rules.proofs.events.Leaves.{member_leaves, link_leaves, come_each}
use Rattle.ring_rules.proofs.walks.Views.{view_old}
use Rattle.ring_rules.proofs.walks.OpenWalk.{sender_stands}
use Rattle.ring_rules.proofs.invariants.FromLeft.{version_some}
use Rattle.ring_rules.proofs.invariants.Happens.{IsGood, opening_good, run_acts, ring_below, can_join}
use Rattle.ring_rules.proofs.invariants.KeptAdmit.{CanJoin}
use Rattle.ring_rules.proofs.work.Refreshed.{goes_to, sends_right, sending_member, opened_world, old_links, link_old, link_new, links_more, refresh_cases}

-- ---- what is said of one

-- the member a of id q, where views and links are these
record NeverIn (views : List Group) (links : List Link) (q : ℕ) (a : Member) : Type 0 where
  pub joined : 1 < a.version
  pub version : (entry_in (get_or views a.version no_group).entries q).joined ≡ a.version
  pub none : (s : ℕ) → s < length links → (get_or links s no_link).sender ≢ q

-- where one runs and sends nowhere
abbrev IsSo : World → ℕ → Member → Type 0
IsSo w q a = runs_phase a.phase ≡ true → a.out ≡ None → NeverIn w.views w.links q a

-- of each
abbrev AreSo : World → Type 0
AreSo w = (q : ℕ) → IsSo w q (member_at w q)

-- one that sends somewhere
sends_so : (w : World) (q n : ℕ) (a : Member) → a.out ≡ Some n → IsSo w q a
sends_so w q n a e r none = let bad : None ≡ Some n = sym none ∙ e in absurd (cc)

-- ---- single writes

-- a member is written
set_so : (w : World) (x : ℕ) (y : Member) → IsSo w x y → AreSo w → AreSo (with_member w x y)
set_so w x y here h q = member_leaves (λ i _ b. IsSo w i (member_at w i) → IsSo w i b) w x y (λ _. here) (λ _ k. k) q (h q)

-- with the view and the out link that it had
same_so : (w : World) (x : ℕ) (y : Member) → (runs_phase y.phase ≡ true → runs w x ≡ true) → y.out ≡ (member_at w x).out → y.version ≡ (member_at w x).version → AreSo w → AreSo (with_member w x y)
same_so w x y less out version h = set_so w x y
    (λ r e. let n : NeverIn w.views w.links x (member_at w x) = h x (less r) (sym out ∙ e) in
    record {
      joined = subst (λ v. 1 < v) (sym version) n.joined;
      version = ap (λ v. (entry_in (get_or w.views v no_group).entries x).joined) version ∙ n.version ∙ sym version;
      none = n.none;
    }) h

-- a link is written
link_so : (w : World) (s : ℕ) (l : Link) → l.sender ≡ (link_at w s).sender → AreSo w → AreSo (with_link w s l)
link_so w s l from h q r e =
    let n : NeverIn w.views w.links q (member_at w q) = h q r e in
    record {
      joined = n.joined;
      version = n.version;
      none = λ j lt is. n.none j (omega (arith, lt, length-set w.links s l)) (sym (link_leaves (λ _ a b. b.sender ≡ a.sender) w s l from (λ _. refl) j) ∙ is);
    }

-- a view comes
view_so : (w : World) (v : Group) → IsGood w → AreSo w → AreSo (with_view w v)
view_so w v g h q r e =
    let n : NeverIn w.views w.links q (member_at w q) = h q r e in
    record {
      joined = n.joined;
      version = ap (λ (k : Group). (entry_in k.entries q).joined) (view_old w v (member_at w q).version (omega (arith, g.inv.is_ring.held q, g.inv.is_ring.some))) ∙ n.version;
      none = n.none;
    }

-- ---- a refresh

-- who refreshes sends somewhere then
refresh_so : (w : World) (x v : ℕ) → x < size w → AreSo w → AreSo (refreshed w x v)
refresh_so w x v lt h = refresh_cases AreSo w x v lt looks opens
  where
    z : ℕ
    z = right_of (view_in w v) x

    looks : sends_right w x v ≡ true → AreSo (look_at w x v)
    looks t = set_so w x (moved_to w x v) (λ r e. absurd (false≢true (ap (goes_to w z) (sym e) ∙ t))) h

    old_from : (s : ℕ) → s < length w.links → (link_at (opened_world w x v (old_links w x)) s).sender ≡ (link_at w s).sender
    old_from s l = ap (λ (k : Link). k.sender) (link_old w x v s l)

    opens : sends_right w x v ≡ false → AreSo (opened_world w x v (old_links w x))
    opens t q = ⊎_elim
        (λ (is : q ≡ x).
        subst (λ k. IsSo w' k (member_at w' k)) (sym is)
        (sends_so w' x (length w.links) (member_at w' x) (ap (λ (a : Member). a.out) (get_or-set_same w.members x (sending_member w x v (length w.links)) no_member lt))))
        (λ (ne : q ≢ x). other ne)
        (cases_eq q x)
      where
        w' : World
        w' = opened_world w x v (old_links w x)

        other : q ≢ x → IsSo w' q (member_at w' q)
        other ne = subst (IsSo w' q) (sym (get_or-set_other w.members x q (sending_member w x v (length w.links)) no_member ne))
            (λ r e. let n : NeverIn w.views w.links q (member_at w q) = h q r e in
            record {
              joined = n.joined;
              version = n.version;
              none = λ s l is. ⊎_elim
                  (λ (old : s < length w.links). n.none s old (sym (old_from s old) ∙ is))
                  (λ (new : length w.links ≤ s).
                  let at : s ≡ length w.links = omega (arith, l, new, links_more w x v) in
                  ne (sym is ∙ ap (λ k. (link_at w' k).sender) at ∙ ap (λ (k : Link). k.sender) (link_new w x v)))
                  (cases_lt s (length w.links));
            })

-- ---- an admission

dated_joined : (version : ℕ) (old new : List Entry) (e : Entry) → (dated version old new e).joined ≡ e.joined
dated_joined version old new e = by_case (nat_eq (left_of old e.id.0) (left_of new e.id.0))
  where
    by_case : (b : Bool) → (cond b e (record e { since = version })).joined ≡ e.joined
    by_case true = refl
    by_case false = refl

-- the next view leaves when an entry came
pub next_joined : (g : Group) (new : List Entry) (q : ℕ) → (entry_in (map (dated (g.version + 1) g.entries new) new) q).joined ≡ (entry_in new q).joined
next_joined g new q = entry_keeps (λ (e : Entry). e.joined) (dated (g.version + 1) g.entries new) (dated_keeps (g.version + 1) g.entries new).keeps_id (dated_joined (g.version + 1) g.entries new) new q

-- who is admitted comes in the view that admits it
pub admitted_joined : (g : Group) (m : ℕ) (name : List ℕ) → MayAdmit g m → (entry_in (admitted g m name).entries g.next_id).joined ≡ g.version + 1
admitted_joined g m name k = next_joined g new g.next_id ∙ ap (λ (e : Entry). e.joined) (entry_new m the_new g.entries (live_in g.entries m k.lives) (by_case (is_in g.next_id (ids g.entries)) refl))
  where
    the_new : Entry
    the_new = new_entry g.next_id name (g.version + 1)

    new : List Entry
    new = with_entry m the_new g.entries

    by_case : (b : Bool) → is_in g.next_id (ids g.entries) ≡ b → b ≡ false
    by_case false e = refl
    by_case true e = absurd (let l : nat_lt g.next_id g.next_id ≡ true = below_at g.next_id g.next_id (ids g.entries) k.is_group.fresh e in let n : nat_lt g.next_id g.next_id ≡ false = grind (arith, nat_tests) in false≢true (sym n ∙ l))

-- the newest view has its version's number
newest_numbered : (w : World) → IsGood w → (view_in w (newest w)).version ≡ newest w
newest_numbered w g =
    let is : newest w ≡ length g.views.groups = omega (arith, ap length g.views.is) in
    ap (λ (k : Group). k.version) (ap (λ vs. get_or vs (newest w) no_group) g.views.is)
    ∙ g.views.ends.history.numbered (newest w) (omega (arith, is, g.views.ends.some)) (omega (arith, is))

-- one comes
come_so : (w : World) (m : ℕ) (name : List ℕ) → CanJoin w m → IsGood w → AreSo w → AreSo (come_to w m name)
come_so w m name j g h q = come_each w m name q (IsSo (come_to w m name))
    (λ r e. record {
      joined = (let late : 1 ≤ (member_at w m).version = version_some w m g (ap runs_phase j.up) in let held : (member_at w m).version ≤ newest w = g.inv.is_ring.held m in omega (arith, late, held));
      version = ap (λ (k : Group). (entry_in k.entries (size w)).joined) (get_or_push w.views (admitted_view w m name) no_group (length w.views) refl)
          ∙ ap (λ i. (entry_in (admitted_view w m name).entries i).joined) (sym g.next_id)
          ∙ admitted_joined (view_in w (newest w)) m name j.may
          ∙ ap (λ n. n + 1) (newest_numbered w g)
          ∙ (let some : 0 < length w.views = g.inv.is_ring.some in omega arith);
      none = λ s lt is. let l : size w < size w = subst (λ k. k < size w) is (ring_below w g (link_at w s).sender (sender_stands w s g lt)) in omega (arith, l);
    })
    (λ lt r e. (view_so w (admitted_view w m name) g h q r e))
    (λ gt r. absurd (false≢true r))

-- ---- events

-- one event more
act_so : (w : World) (e : Act) → IsGood w → refusal w e ≡ None → AreSo w → AreSo (effect w e)
act_so w e g r h = each_act AreSo w e g (record {
  casts = λ x m u _. same_so w x (published x m (member_at w x)) (λ r. r) refl refl h;
  puts = λ x o u out k. link_so w o (pushed (link_at w o) (next_packet (member_at w x) (link_at w o).sending)) refl h;
  takes = λ y s u m. link_so (with_member w y (taker w y s)) s (popped (link_at w s)) refl (same_so w y (taker w y s) (λ r. r) refl refl h);
  begins = λ y s u m.
      let b : Member = begun (size w) (member_at w y) (oldest (link_at w s)) in
      link_so (with_member w y b) s (popped (link_at w s)) refl (same_so w y b (λ _. u.runs_on) refl refl h);
  leaves = λ y s u current k. link_so (current_is w y None) s (finished (link_at w s)) refl (same_so w y (with_current None (member_at w y)) (λ r. r) refl refl h);
  gains = λ x o u out k. link_so w o _ refl h;
  stops = λ x u. end_composed AreSo Halted (stop_at w x) (member_at w x).out
      (λ o _ k. link_so (stop_at w x) o (ended Halted (link_at w o)) refl k)
      (set_so w x (stopped (member_at w x)) (λ r. absurd (false≢true r)) h);
  marks = λ x d u m. refresh_so (with_view w (marked (view_in w (newest w)) d)) x (newest w + 1) u.lt (view_so w (marked (view_in w (newest w)) d) g h);
  erases = λ x d u m. refresh_so (with_view w (erased_view w d)) x (newest w + 1) u.lt (view_so w (erased_view w d) g h);
  syncs = λ x u m. refresh_so (with_view w (synced_view w x)) x (newest w + 1) u.lt (view_so w (synced_view w x) g h);
  admits = λ x name u k. refresh_so (come_to w x name) x (newest w + 1) (omega (arith, u.lt, length_push w.members (joiner w name))) (come_so w x name (can_join w x name u.lt u.up k g) g h);
  refreshes = λ x v u m. refresh_so w x v u.lt h;
  picks = λ y s u none door upto. same_so w y (with_current (Some s) (member_at w y)) (λ r. r) refl refl h;
  refuses = h;
}) (λ x m u _. same_so w x (copied m (member_at w x)) (λ r. r) refl refl h) r

-- each member of the opening sends somewhere
opening_so : (credit : CreditSpec) (names : List (List ℕ)) → AreSo (opening credit names)
opening_so credit names q = first_each credit names q (IsSo (opening credit names) q) (λ _ _. sends_so (opening credit names) q (q - 1) (opening_member names q) refl) (λ r. absurd (false≢true r))

-- in every state of every run
pub reached_never_sent : (credit : CreditSpec) (names : List (List ℕ)) (es : List Act) → AreOpeningNames names → IsRun (opening credit names) es
    → (x : ℕ) → runs (last (opening credit names) es) x ≡ true → (member_at (last (opening credit names) es) x).out ≡ None → HasNeverSent (last (opening credit names) es) x
reached_never_sent credit names es are r x rx e =
    let n = run_acts AreSo act_so (opening credit names) es (opening_good credit names are) r (opening_so credit names) x rx e in
    record { joined = n.joined; version = n.version; none = n.none }
