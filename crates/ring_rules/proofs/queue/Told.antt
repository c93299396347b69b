-- Whom a member has told how many messages there are: each member that had come by the version at which it last did has a
-- Depth or a Start of it behind its own admission.
use Rattle.std.proofs.Common.{◌≡◌, ◌≢◌, ℕ, suc, ◌+◌, ◌<◌, ◌≤◌, Bool, true, false, cond, nat_eq, nat_lt, List, [], ◌∷◌, ◌++◌, length, take, drop, map, refl, sym, ap, subst, ◌∙◌, ⊎_elim, ◌⊎◌, inl, inr, arith, Option, Some, None, Result, Ok, Err}
use Rattle.std.specs.Prelude.{◌||◌}
use Rattle.std.specs.List.{list_any}
use Rattle.std.proofs.lemmas.Bool.{cases_eq, cases_lt, false≢true}
use Rattle.std.proofs.lemmas.Bool.Decides.{nat_tests}
use Rattle.std.proofs.lemmas.List.{drop-append-le, take-append-drop, get_or-set_same, get_or-set_other}
use Rattle.std.proofs.lemmas.List.Folds.{list_any-append}
use Rattle.std.proofs.Math.Bool.{or-true}
use Rattle.std.proofs.Math.ListN.{drop_of_length-le}
use Rattle.ring_names.specs.declared.reason.Reason.{Reason}
use Rattle.queue_core.specs.declared.message.Message.{Message}
use Rattle.queue_core.specs.declared.message.Message.TheVariants as message
use Rattle.queue_core.specs.declared.op.Op.{Op}
use Rattle.queue_mirror.specs.Mirror.{is_tell}
use Rattle.queue_laws.specs.Part.{ops_of, ops}
use Rattle.queue_laws.proofs.Seen.{ops-append}
use Rattle.group_view.specs.declared.entry.Entry.{Entry}
use Rattle.group_view.specs.declared.entry.Mark.{Mark}
use Rattle.group_view.specs.declared.entry.Mark.TheVariants.{Dead, Erased}
use Rattle.group_view.specs.Ring.{is_in}
use Rattle.group_view.specs.View.{Group, ids, entry_in}
use Rattle.group_view.specs.Change.{AreOpeningNames, opening_entry, opening_entries, with_mark, with_synced, with_entry, new_entry, remarked, registered, admitted}
use Rattle.group_view.proofs.Rings.{nat_eq-is, sym_test}
use Rattle.group_view.proofs.Groups.{ids-remarked_group}
use Rattle.group_view.proofs.Marks.{with_mark_id}
use Rattle.group_view.proofs.History.{entry_keeps}
use Rattle.group_view.proofs.Syncing.{synced_keeps, same_ring_registered}
use Rattle.group_view.proofs.Joining.{MayAdmit, entry_other, below_at, not_in_after_other, ids-admitted, stays_in}
use Rattle.ring_rules.specs.Act.{Deed, OfKind, Copies, deed_refusal, deed_done, Act, refusal, effect, IsRun, last}
use Rattle.ring_rules.specs.Machine.{World, Member, no_member, member_at, view_in, newest, ring}
use Rattle.ring_rules.specs.Step.{copied, size, log_of, published, publish_at, opening}
use Rattle.ring_rules.specs.Lawful.{row_of, JoinsInTime}
use Rattle.ring_rules.specs.Laws.{GoesOn}
use Rattle.ring_rules.specs.Event.{Saying, Own, OfQueue, Kind, id_of, of_member, MayPublish, op_as, op_refusal, op_done, queue_message, saying_refusal, said, refused_as, done_as, at_found, erased_view, synced_view}
use Rattle.ring_rules.proofs.rings.Lists.{get_or_beyond}
use Rattle.ring_rules.proofs.events.Refusals.{id_within}
use Rattle.ring_rules.proofs.events.Enabled.{up_none}
use Rattle.ring_rules.proofs.invariants.FromLeft.{IsGood, HasViews}
use Rattle.ring_rules.proofs.invariants.Happens.{ring_below, reached_good}
use Rattle.ring_rules.proofs.invariants.Moves.{Move, act_moves}
use Rattle.ring_rules.proofs.invariants.NeverSent.{next_joined, admitted_joined}
use Rattle.ring_rules.proofs.invariants.Newest.{NewestAfter, newest_stays, newest_marked, newest_erased, newest_synced, newest_admitted, newest_after}
use Rattle.ring_names.specs.declared.numbers.CreditSpec.{CreditSpec}
use Rattle.ring_rules.proofs.events.First.{first_each}
use Rattle.ring_rules.proofs.runs.AllRuns.{every_run_goes_on}
use Rattle.ring_rules.proofs.runs.JoinsInTime.{run_joins_in_time}
use Rattle.ring_rules.proofs.runs.InOrder.{run_append, last_append}
use Rattle.ring_rules.proofs.runs.OwnLogs.{cast_log}
use Rattle.ring_rules.proofs.runs.Published.{write_keeps, KeepsLogs, KindStep, keeps_all, says_one, kind_step}

-- ---- when an entry came

marked_joined : (m : Mark) (d : ℕ) (e : Entry) → (with_mark m d e).joined ≡ e.joined
marked_joined m d e = by_case (nat_eq e.id.0 d)
  where
    by_case : (b : Bool) → (cond b (record e { mark = m }) e).joined ≡ e.joined
    by_case true = refl
    by_case false = refl

synced_joined : (d : ℕ) (e : Entry) → (with_synced d e).joined ≡ e.joined
synced_joined d e = by_case (nat_eq e.id.0 d)
  where
    by_case : (b : Bool) → (cond b (record e { synced = true }) e).joined ≡ e.joined
    by_case true = refl
    by_case false = refl

remarked_joined : (m : Mark) (g : Group) (d q : ℕ) → (entry_in (remarked m g d).entries q).joined ≡ (entry_in g.entries q).joined
remarked_joined m g d q = next_joined g (map (with_mark m d) g.entries) q ∙ entry_keeps (λ (e : Entry). e.joined) (with_mark m d) (with_mark_id m d) (marked_joined m d) g.entries q

registered_joined : (g : Group) (d q : ℕ) → (entry_in (registered g d).entries q).joined ≡ (entry_in g.entries q).joined
registered_joined g d q = next_joined g (map (with_synced d) g.entries) q ∙ entry_keeps (λ (e : Entry). e.joined) (with_synced d) (synced_keeps d).keeps_id (synced_joined d) g.entries q

-- from a view to a later one: entries stay, with the version at which they came, and one that comes does so later
record SeesJoined (v v' : Group) : Type 0 where
  pub more : v.version ≤ v'.version
  pub stays : (n : ℕ) → is_in n (ids v.entries) ≡ true → is_in n (ids v'.entries) ≡ true
  pub old : (n : ℕ) → is_in n (ids v.entries) ≡ true → (entry_in v'.entries n).joined ≡ (entry_in v.entries n).joined
  pub new : (n : ℕ) → is_in n (ids v'.entries) ≡ true → (is_in n (ids v.entries) ≡ true) ⊎ ((v.version < (entry_in v'.entries n).joined) × ((entry_in v'.entries n).joined ≤ v'.version))

sees_same : (v v' : Group) → v.version ≤ v'.version → ids v'.entries ≡ ids v.entries → ((n : ℕ) → (entry_in v'.entries n).joined ≡ (entry_in v.entries n).joined) → SeesJoined v v'
sees_same v v' more same joined = record {
  more = more;
  stays = λ n i. ap (is_in n) same ∙ i;
  old = λ n _. joined n;
  new = λ n i. inl (ap (is_in n) (sym same) ∙ i);
}

sees_then : (a b c : Group) → SeesJoined a b → SeesJoined b c → SeesJoined a c
sees_then a b c h k = record {
  more = omega (arith, h.more, k.more);
  stays = λ n i. k.stays n (h.stays n i);
  old = λ n i. k.old n (h.stays n i) ∙ h.old n i;
  new = λ n i. ⊎_elim
      (λ (there : is_in n (ids b.entries) ≡ true). ⊎_elim
      (λ (was : is_in n (ids a.entries) ≡ true). inl was)
      (λ (came : (a.version < (entry_in b.entries n).joined) × ((entry_in b.entries n).joined ≤ b.version)).
      inr (omega (arith, came.0, k.old n there), omega (arith, came.1, k.old n there, k.more)))
      (h.new n there))
      (λ (came : (b.version < (entry_in c.entries n).joined) × ((entry_in c.entries n).joined ≤ c.version)). inr (omega (arith, came.0, h.more), came.1))
      (k.new n i);
}

admitted_sees : (g : Group) (m : ℕ) (name : List ℕ) → MayAdmit g m → SeesJoined g (admitted g m name)
admitted_sees g m name k = record {
  more = omega arith;
  stays = λ n i. stays_in g m name k n i;
  old = λ n i. next_joined g new n ∙ ap (λ (e : Entry). e.joined) (entry_other m the_new n g.entries (apart n i));
  new = λ n i. by_in n (is_in n (ids g.entries)) refl (nat_eq n g.next_id) refl i;
}
  where
    the_new : Entry
    the_new = new_entry g.next_id name (g.version + 1)

    new : List Entry
    new = with_entry m the_new g.entries

    fresh : (n : ℕ) → is_in n (ids g.entries) ≡ true → nat_lt n g.next_id ≡ true
    fresh n i = below_at g.next_id n (ids g.entries) k.is_group.fresh i

    apart : (n : ℕ) → is_in n (ids g.entries) ≡ true → nat_eq g.next_id n ≡ false
    apart n i = grind (arith, nat_tests, fresh n i)

    by_in : (n : ℕ) (b : Bool) → is_in n (ids g.entries) ≡ b → (c : Bool) → nat_eq n g.next_id ≡ c → is_in n (ids (admitted g m name).entries) ≡ true
        → (b ≡ true) ⊎ ((g.version < (entry_in (admitted g m name).entries n).joined) × ((entry_in (admitted g m name).entries n).joined ≤ g.version + 1))
    by_in n true eb c ec i = inl refl
    by_in n false eb true ec i =
        let at : (entry_in (admitted g m name).entries n).joined ≡ g.version + 1 = ap (λ q. (entry_in (admitted g m name).entries q).joined) (nat_eq-is n g.next_id ec) ∙ admitted_joined g m name k in
        inr (omega (arith, at), omega (arith, at))
    by_in n false eb false ec i = absurd (false≢true (sym (ap (is_in n) (ids-admitted g m name k) ∙ not_in_after_other m g.next_id n (ids g.entries) ec eb) ∙ i))

-- ---- an event

move_joined : (G : World → Type 0) (w w' : World) → IsGood w → Move G w w' → SeesJoined (view_in w (newest w)) (view_in w' (newest w'))
move_joined G w w' g k = by_newest (newest_after G w w' g k)
  where
    v : Group
    v = view_in w (newest w)

    by_newest : NewestAfter w w' → SeesJoined v (view_in w' (newest w'))
    by_newest (newest_stays sizes is) = subst (SeesJoined v) (sym is) (sees_same v v (omega arith) refl (λ n. refl))
    by_newest (newest_marked d live sizes is) = subst (SeesJoined v) (sym is) (sees_same v (remarked Dead v d) (omega arith) (ids-remarked_group Dead v d) (remarked_joined Dead v d))
    by_newest (newest_erased x d m sizes is) = subst (SeesJoined v) (sym is) (sees_same v (erased_view w d) (omega arith) (ids-remarked_group Erased v d) (remarked_joined Erased v d))
    by_newest (newest_synced x m sizes is) = subst (SeesJoined v) (sym is) (sees_same v (synced_view w x) (omega arith) (same_ring_registered v x).same_ids (registered_joined v x))
    by_newest (newest_admitted m name j sizes is) = subst (SeesJoined v) (sym is) (admitted_sees v m name j.may)

act_joined : (w : World) (e : Act) → IsGood w → refusal w e ≡ None → SeesJoined (view_in w (newest w)) (view_in (effect w e) (newest (effect w e)))
act_joined w e g r =
    act_moves IsGood (λ u. SeesJoined (view_in w (newest w)) (view_in u (newest u)))
    (λ u u' gu k h. sees_then (view_in w (newest w)) (view_in u (newest u)) (view_in u' (newest u')) h (move_joined IsGood u u' gu k))
    w e g g r (sees_same (view_in w (newest w)) (view_in w (newest w)) (omega arith) refl (λ n. refl))

-- nobody tells, or one publishes
pub data ToldStep (w w' : World) : Type 0 where
  told_stays : KeepsLogs w w' → ToldStep w w'
  told_now : (y : ℕ) (m : Message) → 1 ≤ y → y < size w → MayPublish w y m → w' ≡ publish_at w y m → ToldStep w w'

pub act_told : (w : World) (e : Act) → refusal w e ≡ None → ToldStep w (effect w e)
act_told w e r = by_id (id_of w e.by) refl r
  where
    by_id : (o : Option ℕ) → id_of w e.by ≡ o → of_member o (λ y. deed_refusal w y e.deed) ≡ None → ToldStep w (at_found o w (λ y. deed_done w y e.deed))
    by_id None found h = cc
    by_id (Some y) found h = by_deed e.deed h
      where
        by_saying : (s : Saying) → saying_refusal w y s ≡ None → ToldStep w (said w y s)
        by_saying (Own body) k = let i = id_within w e.by y found in told_now y (message.Cast body) i.0 i.1 (Own body, refl) refl
        by_saying (OfQueue q) k = by_op (op_as w y q) refl k
          where
            by_op : (o : Result Op Reason) → op_as w y q ≡ o → op_refusal o ≡ None → ToldStep w (op_done w y o)
            by_op (Ok o) is n = let i = id_within w e.by y found in told_now y (message.Queue o) i.0 i.1 (OfQueue q, ap queue_message is) refl
            by_op (Err q) is n = cc

        by_step : (k : Kind) → refused_as w y k ≡ None → KindStep w y k → ToldStep w (done_as w y k)
        by_step k h (keeps_all kept nothing) = told_stays kept
        by_step k h (says_one s same) = subst (λ k. ToldStep w (done_as w y k)) (sym same) (by_saying s (up_none w y _ (ap (refused_as w y) (sym same) ∙ h)).1)

        by_deed : (d : Deed) → deed_refusal w y d ≡ None → ToldStep w (deed_done w y d)
        by_deed (OfKind k) h = by_step k h (kind_step w y k)
        by_deed (Copies m) h = told_stays (write_keeps w y (copied m (member_at w y)) refl refl refl refl)

-- ---- logs that grow

-- whether a Depth or a Start stands behind the first k messages
abbrev pub tells_behind : ℕ → List Message → Bool
tells_behind k ms = list_any is_tell (ops (drop k ms))

-- it does in a longer log
longer_tells : (k : ℕ) (l l' : List Message) → take (length l) l' ≡ l → tells_behind k l ≡ true → tells_behind k l' ≡ true
longer_tells k l l' front h = ⊎_elim
    (λ (lt : length l < k). absurd (false≢true (ap (λ ms. list_any is_tell (ops ms)) (sym (drop_of_length-le l (omega (arith, lt)))) ∙ h)))
    (λ (ge : k ≤ length l).
    ap (λ ms. tells_behind k ms) (sym (take-append-drop (length l) l') ∙ ap (λ ms. ms ++ drop (length l) l') front)
    ∙ ap (λ ms. list_any is_tell (ops ms)) (drop-append-le k l (drop (length l) l') ge)
    ∙ ap (list_any is_tell) (ops-append (drop k l) (drop (length l) l'))
    ∙ list_any-append is_tell (ops (drop k l)) (ops (drop (length l) l'))
    ∙ ap (λ b. b || list_any is_tell (ops (drop (length l) l'))) h)
    (cases_lt (length l) k)

-- and where one is published
now_tells : (k : ℕ) (l : List Message) (m : Message) → k ≤ length l → list_any is_tell (ops_of m) ≡ true → tells_behind k (l ++ m ∷ []) ≡ true
now_tells k l m ge h =
    ap (λ ms. list_any is_tell (ops ms)) (drop-append-le k l (m ∷ []) ge)
    ∙ ap (list_any is_tell) (ops-append (drop k l) (m ∷ []))
    ∙ list_any-append is_tell (ops (drop k l)) (ops (m ∷ []))
    ∙ ap (λ b. list_any is_tell (ops (drop k l)) || b) (one m h) ∙ or-true (list_any is_tell (ops (drop k l)))
  where
    one : (m : Message) → list_any is_tell (ops_of m) ≡ true → list_any is_tell (ops (m ∷ [])) ≡ true
    one (message.Cast body) e = e
    one (message.Queue o) e = e

-- ---- the invariant

-- the number of the newest view is its version
pub newest_version : (w : World) → IsGood w → (view_in w (newest w)).version ≡ newest w
newest_version w g =
    let h : HasViews w = g.views in
    let numbered = h.ends.history.numbered (length h.groups) h.ends.some (omega arith) in
    let is : (view_in w (newest w)).version ≡ length h.groups = ap (λ (k : Group). k.version) (sym h.ends.last) ∙ numbered in
    let many : length w.views ≡ suc (length h.groups) = ap length h.is in
    omega (arith, is, many)

-- what was told is of no later version than the newest, nobody came later, and whoever had come by then was told
pub record Tells (w : World) : Type 0 where
  pub within : (x : ℕ) → (member_at w x).told ≤ (view_in w (newest w)).version
  pub joined : (n : ℕ) → is_in n (ring w) ≡ true → (entry_in (view_in w (newest w)).entries n).joined ≤ (view_in w (newest w)).version
  pub tells : (x n : ℕ) → is_in n (ring w) ≡ true → (entry_in (view_in w (newest w)).entries n).joined ≤ (member_at w x).told → tells_behind (row_of w n x).born (log_of w x) ≡ true

module _ (w : World) (e : Act) (g : IsGood w) (r : refusal w e ≡ None) (on : GoesOn w (effect w e)) (born : JoinsInTime w) (h : Tells w) where
  abbrev w' : World
  w' = effect w e

  abbrev v : Group
  v = view_in w (newest w)

  abbrev v' : Group
  v' = view_in w' (newest w')

  s : SeesJoined v v'
  s = act_joined w e g r

  -- who was told before is told
  lift : (x n : ℕ) → is_in n (ring w) ≡ true → (entry_in v.entries n).joined ≤ (member_at w x).told → tells_behind (row_of w' n x).born (log_of w' x) ≡ true
  lift x n i le = ⊎_elim
      (λ (lt : x < size w).
      ap (λ k. tells_behind k (log_of w' x)) (on.born n x (ring_below w g n i) lt)
      ∙ longer_tells (row_of w n x).born (log_of w x) (log_of w' x) (on.never_falls.logs x) (h.tells x n i le))
      (λ (ge : size w ≤ x).
      let none : log_of w x ≡ [] = ap (λ (a : Member). a.log) (get_or_beyond w.members x no_member ge) in
      absurd (false≢true (sym (nothing (row_of w n x).born) ∙ ap (tells_behind (row_of w n x).born) (sym none) ∙ h.tells x n i le)))
      (cases_lt x (size w))
    where
      nothing : (k : ℕ) → tells_behind k [] ≡ false
      nothing k = ap (λ ms. list_any is_tell (ops ms)) (drop_of_length-le [] (omega arith))

  record Still (x : ℕ) : Type 0 where
    pub within : (member_at w' x).told ≤ v.version
    pub tells : (n : ℕ) → is_in n (ring w) ≡ true → (entry_in v.entries n).joined ≤ (member_at w' x).told → tells_behind (row_of w' n x).born (log_of w' x) ≡ true

  still_same : (x : ℕ) → (member_at w' x).told ≡ (member_at w x).told → Still x
  still_same x same = record { within = omega (arith, same, h.within x); tells = λ n i le. lift x n i (omega (arith, le, same)) }

  still : (x : ℕ) → Still x
  still x = by_step (act_told w e r)
    where
      by_step : ToldStep w w' → Still x
      by_step (told_stays same) = still_same x (same.told x)
      by_step (told_now y m some lt may is) = ⊎_elim
          (λ (here : x ≡ y). by_tell here (list_any is_tell (ops_of m)) refl)
          (λ (ne : x ≢ y). still_same x (ap (λ u. (member_at u x).told) is ∙ ap (λ (a : Member). a.told) (get_or-set_other w.members y x (published y m (member_at w y)) no_member ne)))
          (cases_eq x y)
        where
          told_is : x ≡ y → (member_at w' x).told ≡ cond (list_any is_tell (ops_of m)) (member_at w x).version (member_at w x).told
          told_is here =
              ap (λ u. (member_at u x).told) is ∙ ap (λ q. (member_at (publish_at w y m) q).told) here
              ∙ ap (λ (a : Member). a.told) (get_or-set_same w.members y (published y m (member_at w y)) no_member lt)
              ∙ ap (λ q. cond (list_any is_tell (ops_of m)) (member_at w q).version (member_at w q).told) (sym here)

          by_tell : x ≡ y → (b : Bool) → list_any is_tell (ops_of m) ≡ b → Still x
          by_tell here false eb = still_same x (told_is here ∙ ap (λ b. cond b (member_at w x).version (member_at w x).told) eb)
          by_tell here true eb =
              let now : (member_at w' x).told ≡ (member_at w x).version = told_is here ∙ ap (λ b. cond b (member_at w x).version (member_at w x).told) eb in
              record {
                within = omega (arith, now, g.inv.is_ring.held x, newest_version w g);
                tells = λ n i le.
                    let xl : x < size w = omega (arith, here, lt) in
                    ap (λ k. tells_behind k (log_of w' x)) (on.born n x (ring_below w g n i) xl)
                    ∙ ap (tells_behind (row_of w n x).born) (ap (λ u. log_of u x) is ∙ ap (λ q. log_of (publish_at w q m) x) (sym here) ∙ cast_log w x m xl)
                    ∙ now_tells (row_of w n x).born (log_of w x) m (born.born n x) eb;
              }

  pub act_tells : Tells w'
  act_tells = record {
    within = λ x. let k = (still x).within in omega (arith, k, s.more);
    joined = λ n i. ⊎_elim
        (λ (was : is_in n (ids v.entries) ≡ true). let k = h.joined n was in omega (arith, k, s.old n was, s.more))
        (λ (came : (v.version < (entry_in v'.entries n).joined) × ((entry_in v'.entries n).joined ≤ v'.version)). came.1)
        (s.new n i);
    tells = λ x n i le. ⊎_elim
        (λ (was : is_in n (ids v.entries) ≡ true). (still x).tells n was (omega (arith, le, s.old n was)))
        (λ (came : (v.version < (entry_in v'.entries n).joined) × ((entry_in v'.entries n).joined ≤ v'.version)). absurd (let k = (still x).within in omega (arith, k, came.0, le)))
        (s.new n i);
  }

-- ---- every state of every run

-- all came with the first version
opening_joined : (k : ℕ) (names : List (List ℕ)) (n : ℕ) → is_in n (ids (opening_entries k names)) ≡ true → (entry_in (opening_entries k names) n).joined ≡ 1
opening_joined k [] n i = absurd (false≢true i)
opening_joined k (name ∷ names) n i = by_case (nat_eq n k) refl i (λ j. opening_joined (k + 1) names n j)
  where
    by_case : (b : Bool) → nat_eq n k ≡ b → cond b true (is_in n (ids (opening_entries (k + 1) names))) ≡ true
        → (is_in n (ids (opening_entries (k + 1) names)) ≡ true → (entry_in (opening_entries (k + 1) names) n).joined ≡ 1) → (entry_in (opening_entries k (name ∷ names)) n).joined ≡ 1
    by_case true e j ih = ap (λ b. (cond b (opening_entry k name) (entry_in (opening_entries (k + 1) names) n)).joined) (sym_test n k true e)
    by_case false e j ih = ap (λ b. (cond b (opening_entry k name) (entry_in (opening_entries (k + 1) names) n)).joined) (sym_test n k false e) ∙ ih j

opening_tells : (credit : CreditSpec) (names : List (List ℕ)) → Tells (opening credit names)
opening_tells credit names = record {
  within = λ x. let none = none_told x in omega (arith, none);
  joined = λ n i. let one = opening_joined 1 names n i in omega (arith, one);
  tells = λ x n i le. absurd (let one = opening_joined 1 names n i in let none = none_told x in omega (arith, one, none, le));
}
  where
    none_told : (x : ℕ) → (member_at (opening credit names) x).told ≡ 0
    none_told x = first_each credit names x (λ a. a.told ≡ 0) (λ _ _. refl) refl

module _ (credit : CreditSpec) (names : List (List ℕ)) (are : AreOpeningNames names) where
  run_tells_from : (done : List Act) (w : World) (es : List Act) → IsRun (opening credit names) done → w ≡ last (opening credit names) done → IsRun w es → Tells w → Tells (last w es)
  run_tells_from done w [] run is q k = k
  run_tells_from done w (e ∷ es) run is q k =
      let more : IsRun (opening credit names) (done ++ e ∷ []) = run_append (opening credit names) done (e ∷ []) run (subst (λ u. refusal u e ≡ None) is q.0, tt) in
      run_tells_from (done ++ e ∷ []) (effect w e) es more (ap (λ u. effect u e) is ∙ sym (last_append (opening credit names) done (e ∷ []))) q.1
      (act_tells w e (subst IsGood (sym is) (reached_good credit names done are run)) q.0
      (subst (λ u. GoesOn u (effect u e)) (sym is) (every_run_goes_on credit names done (e ∷ []) are run (subst (λ u. refusal u e ≡ None) is q.0, tt)))
      (subst JoinsInTime (sym is) (run_joins_in_time credit names done are run)) k)

  pub run_tells : (events : List Act) → IsRun (opening credit names) events → Tells (last (opening credit names) events)
  run_tells events r = run_tells_from [] (opening credit names) events tt refl r (opening_tells credit names)
