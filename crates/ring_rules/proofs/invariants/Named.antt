-- Each member is the one that its name finds, also where others have joined.
use Rattle.std.proofs.Common.{◌≡◌, ℕ, zero, suc, ◌+◌, ◌<◌, ◌≤◌, Bool, true, false, cond, bytes_eq, nat_eq, List, [], ◌∷◌, length, drop, get_or, Option, Some, None, if◌then◌else◌, refl, sym, ap, ◌∙◌, ⊎_elim, arith}
use Rattle.std.specs.Prelude.{option_map}
use Rattle.std.proofs.lemmas.Bool.{false≢true, cases_lt}
use Rattle.std.proofs.lemmas.List.{length-set, length_push, length-drop, get_or-drop, get_or_append_left, get_or_push}
use Rattle.ring_names.specs.declared.numbers.CreditSpec.{CreditSpec}
use Rattle.ring_names.specs.declared.reason.Reason.TheVariants as reason
use Rattle.group_view.specs.View.{Group, entry_in}
use Rattle.group_view.specs.Change.{AreOpeningNames, opening_entries, marked, is_taken}
use Rattle.group_view.specs.declared.entry.Mark.TheVariants.{Live, Dead, Erased}
use Rattle.group_view.proofs.Named.{name-remarked, name-admitted, name-new, name_taken}
use Rattle.ring_rules.specs.View.{right_of}
use Rattle.ring_rules.specs.Machine.{Member, Link, Ending, Moved, Halted, World, no_member, member_at, link_at, view_in, newest, runs_phase, oldest}
use Rattle.ring_rules.specs.Step.{copied, size, published, taker, begun, with_current, ended, stop_at, stopped, end_out, with_member, with_link, with_view, look_at, moved_to, open_to, joiner, admitted_view, come_to, opening}
use Rattle.group_view.proofs.Syncing.{name_registered}
use Rattle.ring_rules.specs.Event.{id_of, send_to, refreshed, erased_view, synced_view}
use Rattle.ring_rules.specs.Act.{Act, refusal, effect, IsRun, last}
use Rattle.ring_rules.proofs.rings.Lists.{at_set}
use Rattle.ring_rules.proofs.events.Names.{same_bytes, own_bytes, found_at}
use Rattle.ring_rules.proofs.rings.Rounds.{nat_eq-is, nat_eq-same}
use Rattle.ring_rules.proofs.events.Refusals.{none_of}
use Rattle.ring_rules.proofs.events.First.{first_at, first_size}
use Rattle.ring_rules.proofs.invariants.KeptAdmit.{CanJoin}
use Rattle.ring_rules.proofs.invariants.Happens.{IsGood, can_join, run_acts, opening_good}
use Rattle.ring_rules.proofs.events.Cases.{each_act}
use Rattle.ring_rules.proofs.walks.Views.{newest_view}

-- each entry of the newest view has its member's name, and no two members have the same
pub record AreNamed (w : World) : Type 0 where
  pub same : (x : ℕ) → 1 ≤ x → x < size w → (entry_in (view_in w (newest w)).entries x).name ≡ (member_at w x).name
  pub different : (x y : ℕ) → 1 ≤ x → x < size w → 1 ≤ y → y < size w → (member_at w x).name ≡ (member_at w y).name → x ≡ y

-- the same members, with the same names, and so the entries
record SameNames (w w' : World) : Type 0 where
  pub many : size w' ≡ size w
  pub members : (q : ℕ) → (member_at w' q).name ≡ (member_at w q).name
  pub entries : (x : ℕ) → 1 ≤ x → x < size w → (entry_in (view_in w' (newest w')).entries x).name ≡ (entry_in (view_in w (newest w)).entries x).name

then_names : (a b c : World) → SameNames a b → SameNames b c → SameNames a c
then_names a b c h k = record {
  many = k.many ∙ h.many;
  members = λ q. k.members q ∙ h.members q;
  entries = λ x some lt. k.entries x some (omega (arith, lt, h.many)) ∙ h.entries x some lt;
}

same_named : (w w' : World) → SameNames w w' → AreNamed w → AreNamed w'
same_named w w' k h = record {
  same = λ x some lt. let l : x < size w = omega (arith, lt, k.many) in k.entries x some l ∙ h.same x some l ∙ sym (k.members x);
  different = λ x y sx lx sy ly e. h.different x y sx (omega (arith, lx, k.many)) sy (omega (arith, ly, k.many)) (sym (k.members x) ∙ e ∙ k.members y);
}

itself_names : (w : World) → SameNames w w
itself_names w = record { many = refl; members = λ q. refl; entries = λ x _ _. refl }

set_names : (w : World) (x : ℕ) (y : Member) → x < size w → y.name ≡ (member_at w x).name → SameNames w (with_member w x y)
set_names w x y lt e = record {
  many = length-set w.members x y;
  members = λ q. at_set (λ i a. a.name ≡ (member_at w i).name) w.members x q y no_member lt e (λ _. refl);
  entries = λ z _ _. refl;
}

end_names : (why : Ending) (w : World) (o : Option ℕ) → SameNames w (end_out why w o)
end_names why w None = itself_names w
end_names why w (Some o) = record { many = refl; members = λ q. refl; entries = λ x _ _. refl }

send_names : (w : World) (x z : ℕ) (o : Option ℕ) → x < size w → SameNames w (send_to w x z o)
send_names w x z None lt = let k = set_names w x (record (member_at w x) { out = Some (length w.links) }) lt refl in record { many = k.many; members = k.members; entries = k.entries }
send_names w x z (Some o) lt = by_test (nat_eq (link_at w o).receiver z)
  where
    w1 : World
    w1 = with_link w o (ended Moved (link_at w o))

    by_test : (b : Bool) → SameNames w (if b then w else open_to (with_link w o (ended Moved (link_at w o))) x z)
    by_test true = itself_names w
    by_test false = let k = set_names w x (record (member_at w x) { out = Some (length w1.links) }) lt refl in record { many = k.many; members = k.members; entries = k.entries }

refreshed_names : (w : World) (x v : ℕ) → x < size w → SameNames w (refreshed w x v)
refreshed_names w x v lt =
    then_names w (look_at w x v) (refreshed w x v) (set_names w x (moved_to w x v) lt refl)
    (send_names (look_at w x v) x (right_of (view_in w v) x) (member_at w x).out (omega (arith, lt, length-set w.members x (moved_to w x v))))

-- a view more
mark_names : (w : World) (d : ℕ) → IsGood w → SameNames w (with_view w (marked (view_in w (newest w)) d))
mark_names w d g = record {
  many = refl;
  members = λ q. refl;
  entries = λ x some lt. ap (λ (a : Group). (entry_in a.entries x).name) (newest_view w (marked (view_in w (newest w)) d) g.inv.is_ring) ∙ name-remarked Dead (view_in w (newest w)) d x (g.inv.origins x some lt);
}

erase_names : (w : World) (d : ℕ) → IsGood w → SameNames w (with_view w (erased_view w d))
erase_names w d g = record {
  many = refl;
  members = λ q. refl;
  entries = λ x some lt. ap (λ (a : Group). (entry_in a.entries x).name) (newest_view w (erased_view w d) g.inv.is_ring) ∙ name-remarked Erased (view_in w (newest w)) d x (g.inv.origins x some lt);
}

sync_names : (w : World) (d : ℕ) → IsGood w → SameNames w (with_view w (synced_view w d))
sync_names w d g = record {
  many = refl;
  members = λ q. refl;
  entries = λ x some lt. ap (λ (a : Group). (entry_in a.entries x).name) (newest_view w (synced_view w d) g.inv.is_ring) ∙ name_registered (view_in w (newest w)) d x (g.inv.origins x some lt);
}

-- one that comes has a new name
come_named : (w : World) (m : ℕ) (name : List ℕ) → CanJoin w m → IsGood w → is_taken (view_in w (newest w)).entries name ≡ false → AreNamed w → AreNamed (come_to w m name)
come_named w m name j g free h = record {
  same = λ x some lt. ⊎_elim
      (λ (l : x < size w). entry_now x ∙ name-admitted v m name j.may x (g.inv.origins x some l) ∙ h.same x some l ∙ sym (ap (λ (a : Member). a.name) (old x l)))
      (λ (ge : size w ≤ x).
      let is : x ≡ size w = omega (arith, ge, lt, many) in
      entry_now x ∙ ap (λ q. (entry_in (admitted_view w m name).entries q).name) (is ∙ sym j.new_id) ∙ name-new v m name j.may (g.inv.is_ring.stands m (newest w) (ap runs_phase j.up) (g.inv.is_ring.held m) (omega arith)) ∙ sym (ap (λ (a : Member). a.name) (new x is)))
      (cases_lt x (size w));
  different = λ x y sx lx sy ly e. ⊎_elim
      (λ (xl : x < size w). ⊎_elim
      (λ (yl : y < size w). h.different x y sx xl sy yl (sym (ap (λ (a : Member). a.name) (old x xl)) ∙ e ∙ ap (λ (a : Member). a.name) (old y yl)))
      (λ (yg : size w ≤ y). absurd (taken x sx xl (sym (ap (λ (a : Member). a.name) (old x xl)) ∙ e ∙ ap (λ (a : Member). a.name) (new y (omega (arith, yg, ly, many))))))
      (cases_lt y (size w)))
      (λ (xg : size w ≤ x). ⊎_elim
      (λ (yl : y < size w). absurd (taken y sy yl (sym (ap (λ (a : Member). a.name) (old y yl)) ∙ sym e ∙ ap (λ (a : Member). a.name) (new x (omega (arith, xg, lx, many))))))
      (λ (yg : size w ≤ y). omega (arith, xg, lx, yg, ly, many))
      (cases_lt y (size w)))
      (cases_lt x (size w));
}
  where
    v : Group
    v = view_in w (newest w)

    w1 : World
    w1 = come_to w m name

    many : size w1 ≡ size w + 1
    many = length_push w.members (joiner w name)

    entry_now : (x : ℕ) → (entry_in (view_in w1 (newest w1)).entries x).name ≡ (entry_in (admitted_view w m name).entries x).name
    entry_now x = ap (λ (a : Group). (entry_in a.entries x).name) (newest_view w (admitted_view w m name) g.inv.is_ring)

    old : (x : ℕ) → x < size w → member_at w1 x ≡ member_at w x
    old x l = get_or_append_left w.members (joiner w name ∷ []) no_member x l

    new : (x : ℕ) → x ≡ size w → member_at w1 x ≡ joiner w name
    new x is = get_or_push w.members (joiner w name) no_member x (sym is)

    taken : (x : ℕ) → 1 ≤ x → x < size w → (member_at w x).name ≡ name → ⊥
    taken x some l e = false≢true (sym free ∙ name_taken v.entries x name (g.inv.origins x some l) (ap (λ a. bytes_eq a name) (h.same x some l ∙ e) ∙ own_bytes name))

-- ---- every state of every run

pub act_named : (w : World) (e : Act) → IsGood w → refusal w e ≡ None → AreNamed w → AreNamed (effect w e)
act_named w e g r h = each_act AreNamed w e g (record {
  casts = λ x m u _. same_named w _ (set_names w x (published x m (member_at w x)) u.lt refl) h;
  puts = λ x o u out k. record { same = h.same; different = h.different };
  takes = λ y s u m. same_links _ _ (same_named w _ (set_names w y (taker w y s) u.lt refl) h);
  begins = λ y s u m. same_links _ _ (same_named w _ (set_names w y (begun (size w) (member_at w y) (oldest (link_at w s))) u.lt refl) h);
  leaves = λ y s u current k. same_links _ _ (same_named w _ (set_names w y (with_current None (member_at w y)) u.lt refl) h);
  gains = λ x o u out k. record { same = h.same; different = h.different };
  stops = λ x u. same_named w _ (then_names w (stop_at w x) _ (set_names w x (stopped (member_at w x)) u.lt refl) (end_names Halted (stop_at w x) (member_at w x).out)) h;
  marks = λ x d u m. newer_named x (marked (view_in w (newest w)) d) u.lt (mark_names w d g);
  erases = λ x d u m. newer_named x (erased_view w d) u.lt (erase_names w d g);
  syncs = λ x u m. newer_named x (synced_view w x) u.lt (sync_names w x g);
  admits = λ x name u k.
      let free : is_taken (view_in w (newest w)).entries name ≡ false = (none_of (is_taken (view_in w (newest w)).entries name) reason.NameTaken _ k).0 in
      same_named (come_to w x name) _ (refreshed_names (come_to w x name) x (newest w + 1) (omega (arith, u.lt, length_push w.members (joiner w name)))) (come_named w x name (can_join w x name u.lt u.up k g) g free h);
  refreshes = λ x v u m. same_named w _ (refreshed_names w x v u.lt) h;
  picks = λ y s u none door upto. same_named w _ (set_names w y (with_current (Some s) (member_at w y)) u.lt refl) h;
  refuses = h;
}) (λ x m u _. same_named w _ (set_names w x (copied m (member_at w x)) u.lt refl) h) r
  where
    same_links : (v : World) (ls : List Link) → AreNamed v → AreNamed (record v { links = ls })
    same_links v ls k = record { same = k.same; different = k.different }

    newer_named : (x : ℕ) (v : Group) → x < size w → SameNames w (with_view w v) → AreNamed (refreshed (with_view w v) x (newest w + 1))
    newer_named x v lt k = same_named w _ (then_names w (with_view w v) _ k (refreshed_names (with_view w v) x (newest w + 1) lt)) h

-- the names of the opening
opening_name : (n : ℕ) (names : List (List ℕ)) (k : ℕ) → k < length names → (entry_in (opening_entries n names) (n + k)).name ≡ get_or names k []
opening_name n [] k lt = absurd (omega arith)
opening_name n (a ∷ names) zero lt = first (nat_eq n (n + zero)) refl
  where
    first : (b : Bool) → nat_eq n (n + zero) ≡ b → (cond b (record { id = record { 0 = n }; name = a; mark = Live; synced = true; joined = 1; since = 1 }) (entry_in (opening_entries (n + 1) names) (n + zero))).name ≡ a
    first true e = refl
    first false e = absurd (let is : n ≡ n + zero = omega arith in false≢true (sym e ∙ ap (nat_eq n) (sym is) ∙ nat_eq-same n))
opening_name n (a ∷ names) (suc k) lt = later (nat_eq n (n + suc k)) refl (ap (λ q. (entry_in (opening_entries (n + 1) names) q).name) (omega arith) ∙ opening_name (n + 1) names k (omega arith))
  where
    later : (b : Bool) → nat_eq n (n + suc k) ≡ b → (entry_in (opening_entries (n + 1) names) (n + suc k)).name ≡ get_or names k []
        → (cond b (record { id = record { 0 = n }; name = a; mark = Live; synced = true; joined = 1; since = 1 }) (entry_in (opening_entries (n + 1) names) (n + suc k))).name ≡ get_or names k []
    later true e ih = absurd (let is : n ≡ n + suc k = nat_eq-is n (n + suc k) e in omega arith)
    later false e ih = ih

opening_named : (credit : CreditSpec) (names : List (List ℕ)) → AreOpeningNames names → AreNamed (opening credit names)
opening_named credit names are = record {
  same = λ x some lt. same_at x some (upto x lt);
  different = λ x y sx lx sy ly e. apart x y sx (upto x lx) sy (upto y ly) e;
}
  where
    w : World
    w = opening credit names

    upto : (x : ℕ) → x < size w → x ≤ length names
    upto x lt = omega (arith, lt, first_size credit names)

    name_of : (k : ℕ) → suc k ≤ length names → (member_at w (suc k)).name ≡ get_or names k []
    name_of k l = ap (λ (a : Member). a.name) (first_at credit names (suc k) (omega arith) l)

    same_at : (x : ℕ) → 1 ≤ x → x ≤ length names → (entry_in (opening_entries 1 names) x).name ≡ (member_at w x).name
    same_at zero some l = absurd (omega arith)
    same_at (suc k) some l = (let is : suc k ≡ 1 + k = omega arith in ap (λ q. (entry_in (opening_entries 1 names) q).name) is) ∙ opening_name 1 names k (omega arith) ∙ sym (name_of k l)

    apart : (x y : ℕ) → 1 ≤ x → x ≤ length names → 1 ≤ y → y ≤ length names → (member_at w x).name ≡ (member_at w y).name → x ≡ y
    apart zero y sx lx sy ly e = absurd (omega arith)
    apart (suc i) zero sx lx sy ly e = absurd (omega arith)
    apart (suc i) (suc k) sx lx sy ly e = ap suc (are.different i k (omega arith) (omega arith) (sym (name_of i lx) ∙ e ∙ name_of k ly))

pub reached_named : (credit : CreditSpec) (names : List (List ℕ)) (es : List Act) → AreOpeningNames names → IsRun (opening credit names) es → AreNamed (last (opening credit names) es)
reached_named credit names es are r = run_acts AreNamed act_named (opening credit names) es (opening_good credit names are) r (opening_named credit names are)

-- so each member is the one that its name finds
pub named_found : (w : World) (x : ℕ) → AreNamed w → 1 ≤ x → x < size w → id_of w (member_at w x).name ≡ Some x
named_found w zero h some lt = absurd (omega arith)
named_found w (suc k) h some lt =
    ap (option_map (λ i. i + 1))
    (found_at (λ (y : Member). bytes_eq y.name (member_at w (suc k)).name) (drop 1 w.members) k no_member (omega (arith, lt, length-drop 1 w.members))
    (ap (λ (a : Member). bytes_eq a.name (member_at w (suc k)).name) (there k) ∙ own_bytes (member_at w (suc k)).name)
    (λ j jl e.
    let both : suc j ≡ suc k = h.different (suc j) (suc k) (omega arith) (omega (arith, jl, length-drop 1 w.members)) some lt (ap (λ (a : Member). a.name) (sym (there j)) ∙ same_bytes _ _ e) in
    omega (arith, both)))
    ∙ (let is : k + 1 ≡ suc k = omega arith in ap (λ n. Some n) is)
  where
    there : (j : ℕ) → get_or (drop 1 w.members) j no_member ≡ member_at w (suc j)
    there j = get_or-drop 1 w.members j no_member ∙ (let is : 1 + j ≡ suc j = omega arith in ap (member_at w) is)
