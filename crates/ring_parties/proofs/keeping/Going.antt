-- What the parties keep of their queue stands after each event.
use Rattle.std.proofs.Common.{◌≡◌, ◌≢◌, ℕ, ◌+◌, ◌-◌, ◌<◌, ◌≤◌, true, false, cond, List, [], ◌∷◌, ◌++◌, length, map, get_or, set, Option, Some, None, Result, Ok, Err, refl, sym, ap, subst, ◌∙◌, ⊎_elim, arith}
use Rattle.std.specs.Prelude.{option_map}
use Rattle.std.proofs.lemmas.Bool.{false≢true, cases_eq, cases_lt}
use Rattle.std.proofs.lemmas.List.{length-set, length_push, get_or-set_same, get_or-set_other, get_or_append_left, get_or_push}
use Rattle.queue_core.specs.declared.message.Message.{Message}
use Rattle.queue_core.specs.declared.message.Message.TheVariants as message
use Rattle.queue_core.specs.declared.op.Op.{Op}
use Rattle.queue_mirror.specs.Mirror.{apply_ops}
use Rattle.confirm_book.specs.Book.{book_in, without_room, came_round}
use Rattle.ring_names.specs.declared.numbers.CreditSpec.{CreditSpec}
use Rattle.ring_names.specs.declared.reason.Reason.{Reason}
use Rattle.group_view.specs.View.{Group}
use Rattle.group_view.specs.Change.{marked}
use Rattle.ring_rules.specs.declared.kind.LinkStep.TheVariants as step
use Rattle.ring_rules.specs.declared.kind.ViewChange.TheVariants as change
use Rattle.ring_rules.specs.Kind.{Saying, Own, OfQueue, Kind, Says, Steps, Copying, Changes, Stops, Reads, Tells}
use Rattle.ring_rules.specs.declared.phase.Phase.{Phase}
use Rattle.ring_rules.specs.declared.phase.Phase.TheVariants.{Waiting, Up, Stopped}
use Rattle.ring_rules.specs.declared.phase.Ending.TheVariants.{Moved, Halted}
use Rattle.ring_rules.specs.Refusal.{is_empty}
use Rattle.ring_rules.specs.Machine.{World, Member, Packet, Sending, no_member, no_packet, member_at, link_at, row_at, view_in, newest, oldest, is_waiting}
use Rattle.ring_rules.specs.View.{right_of}
use Rattle.ring_rules.specs.Step.{size, log_of, is_owned, with_member, with_link, with_view, with_current, put_on, gain_on, published, publish_at, news_of as ring_news, taker, take_from, begun, begin_from, current_is, leave_link, ended, end_out, stopped, stop_at, joiner, come_to, look_at, moved_to, opened_link, open_to}
use Rattle.ring_rules.specs.Event.{message_of, queue_message, op_as, op_done, said, is_stopped, at_found, taken_by, at_door, id_of, refreshed, erased_view, synced_view, refused_as, done_as}
use Rattle.ring_rules.proofs.events.Composed.{end_composed, refresh_composed}
use Rattle.ring_rules.proofs.events.Enabled.{take_effect}
use Rattle.ring_rules.proofs.events.Leaves.{member_leaves}
use Rattle.ring_rules.proofs.queue.Likes.{not_both}
use Rattle.gm_member.specs.Held.{Held, Incoming, at_some}
use Rattle.gm_member.specs.News.{news_of}
use Rattle.gm_member.specs.Stands.{held_in, lines_in, taken_in, taken_below}
use Rattle.gm_member.proofs.Facts.{version_is}
use Rattle.gm_member.proofs.Fit.{IsFit}
use Rattle.gm_member.proofs.BeginStands.{BeginsFrom, begin_brings}
use Rattle.gm_member.proofs.TakeStands.{TakesFrom, news_are}
use Rattle.ring_parties.specs.Ends.{PacketShown, InSeen, packets_in, end_items}
use Rattle.ring_parties.specs.Parties.{Shown, Keeps, Parties, node_at}
use Rattle.ring_parties.specs.Keeps.{no_keeps, joining_keeps, keeps_at, keeps_of, KeepsStand, kind_of_message, kinds_of, round_of, said_by, publishing, having_said, ops_taken, ops_first, ops_next, round_next, kept_after, all_kept_after}
use Rattle.ring_parties.specs.Standing.{Places, MemberStands, Stand, has_in}
use Rattle.ring_parties.proofs.work.Lawful.{IsLawfulAt}
use Rattle.ring_parties.proofs.meetings.NamedLinks.{current_has}
use Rattle.ring_parties.proofs.events.OneEvent.{stands_at, held_but_door}
use Rattle.ring_parties.proofs.events.Ready.{all_settled, settled_items}
use Rattle.ring_parties.proofs.events.TakeGoes.{TakesNext, takes_next}
use Rattle.ring_parties.proofs.keeping.Brought.{brings}
use Rattle.ring_parties.proofs.keeping.Rounds.{published_book, joiner_round, oldest_of, TakesRound, takes_round}

-- ---- where each member has of its queue what it had

-- what a member has of its queue, where so many of its messages have come round
abbrev kept_with : ℕ → Member → Keeps
kept_with round y = record { mirror = y.mirror; started = y.started; told = y.told; book = book_in round (map kind_of_message y.log) }

-- what the member of an id has
abbrev kept_of : ℕ → Member → Keeps
kept_of x y = kept_with (row_at y x).forgot y

-- Each member has what it had.
pub record Same (w w' : World) : Type 0 where
  pub many : size w' ≡ size w
  pub each : (q : ℕ) → keeps_of w' q ≡ keeps_of w q

-- nothing happens
same : (w : World) → Same w w
same w = record { many = refl; each = λ q. refl }

-- two steps, one after the other
same_then : (w u w' : World) → Same w u → Same u w' → Same w w'
same_then w u w' a b = record { many = b.many ∙ a.many; each = λ q. b.each q ∙ a.each q }

-- the members are the same
pub same_members : (w w' : World) → w'.members ≡ w.members → Same w w'
same_members w w' e = record { many = ap length e; each = λ q. ap (λ ms. kept_of q (get_or ms q no_member)) e }

-- one member is another, with the same of its queue
same_member : (w : World) (x : ℕ) (y : Member) → kept_of x y ≡ kept_of x (member_at w x) → Same w (with_member w x y)
same_member w x y e = record { many = length-set w.members x y; each = λ q. member_leaves (λ p a b. kept_of p b ≡ kept_of p a) w x y e (λ _. refl) q }

-- something is done where it is found
same_found : (o : Option ℕ) (w : World) (f : ℕ → World) → ((s : ℕ) → Same w (f s)) → Same w (at_found o w f)
same_found None w f h = same w
same_found (Some s) w f h = h s

-- a member takes from another link, or from none
pub same_current : (w : World) (x : ℕ) (c : Option ℕ) → Same w (current_is w x c)
same_current w x c = same_member w x (with_current c (member_at w x)) refl

-- it has taken a link to its end
pub same_left : (w : World) (x s : ℕ) → Same w (leave_link w x s)
same_left w x s = same_then w (current_is w x None) (leave_link w x s) (same_current w x None) (same_members (current_is w x None) (leave_link w x s) refl)

-- it stops
pub same_stopped : (w : World) (x : ℕ) → Same w (end_out Halted (stop_at w x) (member_at w x).out)
same_stopped w x = end_composed (Same w) Halted (stop_at w x) (member_at w x).out
    (λ k e h. same_then w (stop_at w x) (with_link (stop_at w x) k (ended Halted (link_at (stop_at w x) k))) h (same_members (stop_at w x) (with_link (stop_at w x) k (ended Halted (link_at (stop_at w x) k))) refl))
    (same_member w x (stopped (member_at w x)) refl)

-- it opens a link
same_opened : (w : World) (x z : ℕ) → Same w (open_to w x z)
same_opened w x z = same_then w longer (open_to w x z) (same_members w longer refl) (same_member longer x (record (member_at w x) { out = Some (length w.links) }) refl)
  where
    longer : World
    longer = record w { links = w.links ++ opened_link w x z ∷ [] }

-- it reads a view
same_refreshed : (w : World) (x v : ℕ) → Same w (refreshed w x v)
same_refreshed w x v = refresh_composed (Same w) w x v
    (λ k e h. same_then w (look_at w x v) (with_link (look_at w x v) k (ended Moved (link_at w k))) h (same_members (look_at w x v) (with_link (look_at w x v) k (ended Moved (link_at w k))) refl))
    (λ u e h. same_then w u (open_to u x (right_of (view_in w v) x)) h (same_opened u x (right_of (view_in w v) x)))
    (same_member w x (moved_to w x v) refl)

-- it reads one that has just been made
same_viewed : (w : World) (x : ℕ) (g : Group) → Same w (refreshed (with_view w g) x (newest w + 1))
same_viewed w x g = same_then w (with_view w g) (refreshed (with_view w g) x (newest w + 1)) (same_members w (with_view w g) refl) (same_refreshed (with_view w g) x (newest w + 1))

-- ---- where one member has something else

-- One member has this afterwards, and each other has what it had.
pub record Changed (w w' : World) (x : ℕ) (k : Keeps) : Type 0 where
  pub many : size w' ≡ size w
  pub here : keeps_of w' x ≡ k
  pub others : (q : ℕ) → q ≢ x → keeps_of w' q ≡ keeps_of w q

-- none has something else
pub same_changed : (w w' : World) (x : ℕ) → Same w w' → Changed w w' x (keeps_of w x)
same_changed w w' x s = record { many = s.many; here = s.each x; others = λ q _. s.each q }

-- a member is written
written_changed : (w w' : World) (x : ℕ) (y : Member) → x < size w → w'.members ≡ set w.members x y → Changed w w' x (kept_with (round_of w' x) y)
written_changed w w' x y lt e = record {
  many = ap length e ∙ length-set w.members x y;
  here = ap (λ ms. kept_with (round_of w' x) (get_or ms x no_member)) e ∙ ap (kept_with (round_of w' x)) (get_or-set_same w.members x y no_member lt);
  others = λ q ne. ap (λ ms. kept_of q (get_or ms q no_member)) e ∙ ap (kept_of q) (get_or-set_other w.members x q y no_member ne);
}

-- a member publishes a message
pub published_changed : (w : World) (x : ℕ) (m : Message) → IsFit w → x < size w → Changed w (publish_at w x m) x (publishing m (member_at w x).version (keeps_of w x))
published_changed w x m f lt =
    let y : Member = published x m (member_at w x) in
    let round : round_of (publish_at w x m) x ≡ (row_at y x).forgot = ap (λ (z : Member). (row_at z x).forgot) (get_or-set_same w.members x y no_member lt) in
    subst (Changed w (publish_at w x m) x)
    (ap (λ n. kept_with n y) round ∙ ap (λ b. record (kept_of x y) { book = b }) (sym (published_book m w x f)))
    (written_changed w (publish_at w x m) x y lt refl)

-- a member says something
said_changed : (w : World) (x : ℕ) (s : Saying) → IsFit w → x < size w → Changed w (said w x s) x (having_said (message_of w x s) (member_at w x).version (keeps_of w x))
said_changed w x (Own body) f lt = published_changed w x (message.Cast body) f lt
said_changed w x (OfQueue q) f lt = by_op (op_as w x q)
  where
    by_op : (r : Result Op Reason) → Changed w (op_done w x r) x (having_said (queue_message r) (member_at w x).version (keeps_of w x))
    by_op (Ok o) = published_changed w x (message.Queue o) f lt
    by_op (Err r) = same_changed w w x (same w)

-- ---- what the parties keep

-- the party at a place keeps what its member has
own_kept : (w : World) (i : ℕ) (ks : List Keeps) → KeepsStand w ks → i + 1 < size w → keeps_at ks i ≡ keeps_of w (i + 1)
own_kept w i ks st lt = let back : i + 1 - 1 ≡ i = omega arith in subst (λ k. keeps_at ks k ≡ keeps_of w (i + 1)) back (st.each (i + 1) (omega arith) lt)

-- where one member has something else, its party keeps that
changed_stands : (w w' : World) (i : ℕ) (ks : List Keeps) (k : Keeps) → KeepsStand w ks → i + 1 < size w → Changed w w' (i + 1) k → KeepsStand w' (set ks i k)
changed_stands w w' i ks k st lt c = record {
  count = ap (λ n. n + 1) (length-set ks i k) ∙ st.count ∙ sym c.many;
  each = λ x some xl. ⊎_elim
      (λ (is : x ≡ i + 1).
      let place : x - 1 ≡ i = omega (arith, is) in
      ap (keeps_at (set ks i k)) place ∙ get_or-set_same ks i k no_keeps (omega (arith, lt, st.count)) ∙ sym c.here ∙ ap (keeps_of w') (sym is))
      (λ (ne : x ≢ i + 1).
      get_or-set_other ks i (x - 1) k no_keeps (λ (e : x - 1 ≡ i). ne (omega arith)) ∙ st.each x some (omega (arith, xl, c.many)) ∙ sym (c.others x ne))
      (cases_eq x (i + 1));
}

-- where none has, it keeps what it kept
same_stands : (w w' : World) (i : ℕ) (ks : List Keeps) → KeepsStand w ks → i + 1 < size w → Same w w' → KeepsStand w' (set ks i (keeps_at ks i))
same_stands w w' i ks st lt s =
    changed_stands w w' i ks (keeps_at ks i) st lt (record { many = s.many; here = s.each (i + 1) ∙ sym (own_kept w i ks st lt); others = λ q _. s.each q })

-- and all do
all_stand : (w w' : World) (ks : List Keeps) → KeepsStand w ks → Same w w' → KeepsStand w' ks
all_stand w w' ks st s = record { count = st.count ∙ sym s.many; each = λ x some lt. st.each x some (omega (arith, lt, s.many)) ∙ sym (s.each x) }

-- a member comes, whose party keeps what one that joins begins with
come_stands : (w : World) (x : ℕ) (name : List ℕ) (ks : List Keeps) → KeepsStand w ks → KeepsStand (come_to w x name) (ks ++ joining_keeps ∷ [])
come_stands w x name ks st = record {
  count = omega (arith, length_push ks joining_keeps, length_push w.members (joiner w name), st.count);
  each = λ z some zl. ⊎_elim
      (λ (lt : z < size w).
      get_or_append_left ks (joining_keeps ∷ []) no_keeps (z - 1) (omega (arith, st.count))
      ∙ st.each z some lt ∙ sym (ap (kept_of z) (get_or_append_left w.members (joiner w name ∷ []) no_member z lt)))
      (λ (ge : size w ≤ z).
      let is : size w ≡ z = omega (arith, zl, length_push w.members (joiner w name)) in
      get_or_push ks joining_keeps no_keeps (z - 1) (omega (arith, st.count))
      ∙ ap (λ n. kept_with n (joiner w name)) (sym (joiner_round w name z)) ∙ sym (ap (kept_of z) (get_or_push w.members (joiner w name) no_member z is)))
      (cases_lt z (size w));
}

-- ---- what a member says

-- the message is that of the ring, by what the member holds and what its party keeps
said_same : (w : World) (x : ℕ) (s : Saying) (door : List Incoming) → said_by s (record (held_in w x) { door = door }) (keeps_of w x) ≡ message_of w x s
said_same w x (Own body) door = refl
said_same w x (OfQueue q) door = refl

-- so what is kept then is what the member has
said_kept : (w : World) (p : Places) (x : ℕ) (s : Saying) (m : Shown) (k : Keeps) → IsFit w → MemberStands w p x m → k ≡ keeps_of w x
    → having_said (said_by s m.held k) m.held.view.version k ≡ having_said (message_of w x s) (member_at w x).version (keeps_of w x)
said_kept w p x s m k f a is =
    let door : List Incoming = m.held.door in
    ap (λ (h : Held). having_said (said_by s h k) h.view.version k) (held_but_door w p x m a)
    ∙ ap (λ (j : Keeps). having_said (said_by s (record (held_in w x) { door = door }) j) (view_in w (member_at w x).version).version j) is
    ∙ ap (λ n. having_said (said_by s (record (held_in w x) { door = door }) (keeps_of w x)) n (keeps_of w x)) (version_is w x f)
    ∙ ap (λ r. having_said r (member_at w x).version (keeps_of w x)) (said_same w x s door)

-- ---- what a member takes

-- the oldest packet of a link is the first of its items
first_brings : (w : World) (h : Held) (before : Sending) (ks : List Packet) (es : List (Option PacketShown)) → is_empty ks ≡ false
    → ops_first h (packets_in w before ks ++ es) ≡ ops_taken (news_of h (record { view = (get_or ks 0 no_packet).version; first = false; lines = lines_in w before (get_or ks 0 no_packet) }))
first_brings w h before [] es e = absurd (false≢true (sym e))
first_brings w h before (k ∷ ks) es e = refl

-- so the next packet of a member's link brings what the oldest of the ring's does
next_brings : (credit : CreditSpec) (w : World) (q : Parties) (x s : ℕ) (m : Shown) (st : Stand credit.initial w q) → IsLawfulAt credit w → MemberStands w st.places x m → (member_at w x).current ≡ Some s → is_empty (link_at w s).packets ≡ false
    → ops_next m ≡ ops_taken (news_of (held_in w x) (oldest_of w s))
next_brings credit w q x s m st h a current some =
    let p : Places = st.places in
    let sl : s < length w.links = (h.fit.own_ends.current x s current).0 in
    let has : has_in w s ≡ true = current_has credit w x s h current in
    ap (λ o. ops_first m.held (at_some o [] (λ (n : InSeen). n.items))) (a.link ∙ ap (option_map p.ins) current)
    ∙ ap (ops_first m.held) (settled_items credit.initial w s (p.outs s) (p.ins s) (all_settled w p s st.met sl has) (st.stand.carry s sl has))
    ∙ first_brings w m.held (link_at w s).had (link_at w s).packets (end_items (link_at w s).ending) some
    ∙ ap (λ (g : Held). ops_taken (news_of g (oldest_of w s))) (held_but_door w p x m a)

-- what a member has whose mirror takes these operations, and to whom so many messages have come round
abbrev pub with_ops : World → ℕ → ℕ → List Op → Keeps
with_ops w x round os = record (keeps_of w x) { mirror = apply_ops (member_at w x).mirror os; book = book_in round (kinds_of w x) }

-- the state after a take
abbrev pub after_take : World → ℕ → World
after_take w x = at_found (member_at w x).current w (taken_by (member_at w x).phase w x)

-- a member takes a packet: who waits has what it had, and the mirror of who is up takes what is brought
pub take_changed : (w : World) (x s : ℕ) (g : Phase) → IsFit w → (member_at w x).phase ≡ g → is_stopped g ≡ false → 1 ≤ x → x < size w → (member_at w x).current ≡ Some s → is_empty (link_at w s).packets ≡ false → (oldest (link_at w s)).version ≤ (member_at w x).version
    → Changed w (after_take w x) x (with_ops w x (round_of (after_take w x) x) (ops_taken (news_of (held_in w x) (oldest_of w s))))
take_changed w x s Waiting f waits runs some lt current has version =
    let b : BeginsFrom w x s = record { some = some; is_member = lt; waits = waits; current = current; has = has; version = version } in
    let state : at_found (member_at w x).current w (taken_by (member_at w x).phase w x) ≡ begin_from w x s =
    ap (λ c. at_found c w (taken_by (member_at w x).phase w x)) current ∙ ap (λ g. taken_by g w x s) waits in
    let none : ops_taken (news_of (held_in w x) (oldest_of w s)) ≡ [] =
    ap ops_taken (begin_brings w x s (oldest_of w s) b ∙ ap (λ c. taken_in w c x) current ∙ ap (λ (g : Phase). cond (is_waiting g) [] (taken_below 64 w x s)) waits) in
    subst (λ v. Changed w v x (with_ops w x (round_of v x) (ops_taken (news_of (held_in w x) (oldest_of w s))))) (sym state)
    (subst (λ os. Changed w (begin_from w x s) x (with_ops w x (round_of (begin_from w x s) x) os)) (sym none)
    (written_changed w (begin_from w x s) x (begun (size w) (member_at w x) (oldest (link_at w s))) lt refl))
take_changed w x s Up f up runs some lt current has version =
    let t : TakesFrom w x s = record { some = some; is_member = lt; up = up; current = current; has = has; version = version } in
    let state : at_found (member_at w x).current w (taken_by (member_at w x).phase w x) ≡ take_from w x s = take_effect w x s (member_at w x).current (member_at w x).phase current up in
    let news : ops_taken (news_of (held_in w x) (oldest_of w s)) ≡ ring_news (size w) (is_owned (view_in w (member_at w x).version) x (link_at w s).sender) (log_of w) (member_at w x) (oldest (link_at w s)) =
    ap ops_taken (news_are w x s (oldest_of w s) f t (record { view = refl; lines = refl }) ∙ ap (λ c. taken_in w c x) current)
    ∙ brings w x s f (λ waits. not_both (member_at w x).phase up waits) in
    subst (λ v. Changed w v x (with_ops w x (round_of v x) (ops_taken (news_of (held_in w x) (oldest_of w s))))) (sym state)
    (subst (λ os. Changed w (take_from w x s) x (with_ops w x (round_of (take_from w x s) x) os)) (sym news) (written_changed w (take_from w x s) x (taker w x s) lt refl))
take_changed w x s Stopped f rests runs some lt current has version = absurd (false≢true (sym runs))

-- and its party keeps that
take_stands : (credit : CreditSpec) (w : World) (i : ℕ) (q : Parties) (ks : List Keeps) → IsLawfulAt credit w → IsFit (done_as w (i + 1) (Steps step.Take)) → refused_as w (i + 1) (Steps step.Take) ≡ None → i + 1 < size w → Stand credit.initial w q → KeepsStand w ks
    → KeepsStand (done_as w (i + 1) (Steps step.Take)) (set ks i (kept_after (Steps step.Take) (node_at q i) (keeps_at ks i)))
take_stands credit w i q ks h later enabled lt st kept =
    let x : ℕ = i + 1 in
    let m : Shown = node_at q i in
    let n : TakesNext w x = takes_next w x enabled in
    let a : MemberStands w st.places x m = stands_at credit.initial w q st.places i st.stand lt in
    let round : TakesRound w x m = takes_round credit w q x m st h later a enabled (omega arith) lt in
    let ops : List Op = ops_taken (news_of (held_in w x) (oldest_of w n.link)) in
    let k : Keeps = with_ops w x (round_of (done_as w x (Steps step.Take)) x) ops in
    let is : kept_after (Steps step.Take) m (keeps_at ks i) ≡ k =
    ap (kept_after (Steps step.Take) m) (own_kept w i ks kept lt)
    ∙ ap (λ os. record (keeps_of w x) { mirror = apply_ops (member_at w x).mirror os; book = without_room (came_round (round_next m) (keeps_of w x).book) }) (next_brings credit w q x n.link m st h a n.current n.some)
    ∙ ap (λ r. record (keeps_of w x) { mirror = apply_ops (member_at w x).mirror ops; book = without_room (came_round r (keeps_of w x).book) }) round.next
    ∙ ap (λ b. record (keeps_of w x) { mirror = apply_ops (member_at w x).mirror ops; book = b }) round.book in
    subst (λ c. KeepsStand (done_as w x (Steps step.Take)) (set ks i c)) (sym is)
    (changed_stands w (done_as w x (Steps step.Take)) i ks k kept lt (take_changed w x n.link (member_at w x).phase h.fit refl n.runs (omega arith) lt n.current n.some n.version))

-- ---- each event

-- whatever a member does, the parties keep what their members then have
pub keeps_go : (credit : CreditSpec) (w : World) (kind : Kind) (i : ℕ) (q : Parties) (ks : List Keeps) → IsLawfulAt credit w → IsFit (done_as w (i + 1) kind) → refused_as w (i + 1) kind ≡ None → i + 1 < size w → Stand credit.initial w q → KeepsStand w ks
    → KeepsStand (done_as w (i + 1) kind) (all_kept_after kind i q ks)
keeps_go credit w (Says s) i q ks h later r lt st kept =
    let x : ℕ = i + 1 in
    let is : having_said (said_by s (node_at q i).held (keeps_at ks i)) (node_at q i).held.view.version (keeps_at ks i) ≡ having_said (message_of w x s) (member_at w x).version (keeps_of w x) =
    said_kept w st.places x s (node_at q i) (keeps_at ks i) h.fit (stands_at credit.initial w q st.places i st.stand lt) (own_kept w i ks kept lt) in
    subst (λ k. KeepsStand (said w x s) (set ks i k)) (sym is)
    (changed_stands w (said w x s) i ks (having_said (message_of w x s) (member_at w x).version (keeps_of w x)) kept lt (said_changed w x s h.fit lt))
keeps_go credit w (Steps step.Put) i q ks h later r lt st kept =
    same_stands w (done_as w (i + 1) (Steps step.Put)) i ks kept lt (same_found (member_at w (i + 1)).out w (put_on w (i + 1)) (λ o. same_members w (put_on w (i + 1) o) refl))
keeps_go credit w (Steps step.Take) i q ks h later r lt st kept = take_stands credit w i q ks h later r lt st kept
keeps_go credit w (Steps step.TakeEnd) i q ks h later r lt st kept =
    same_stands w (done_as w (i + 1) (Steps step.TakeEnd)) i ks kept lt (same_found (member_at w (i + 1)).current w (leave_link w (i + 1)) (λ s. same_left w (i + 1) s))
keeps_go credit w (Steps step.Gain) i q ks h later r lt st kept =
    same_stands w (done_as w (i + 1) (Steps step.Gain)) i ks kept lt (same_found (member_at w (i + 1)).out w (gain_on w) (λ o. same_members w (gain_on w o) refl))
keeps_go credit w (Steps step.Pick) i q ks h later r lt st kept =
    same_stands w (done_as w (i + 1) (Steps step.Pick)) i ks kept lt (same_found (at_door w (i + 1)) w (λ s. current_is w (i + 1) (Some s)) (λ s. same_current w (i + 1) (Some s)))
keeps_go credit w (Copying s) i q ks h later r lt st kept = same_stands w w i ks kept lt (same w)
keeps_go credit w (Changes (change.Mark dead)) i q ks h later r lt st kept =
    same_stands w (done_as w (i + 1) (Changes (change.Mark dead))) i ks kept lt
    (same_found (id_of w dead) w (λ d. refreshed (with_view w (marked (view_in w (newest w)) d)) (i + 1) (newest w + 1)) (λ d. same_viewed w (i + 1) (marked (view_in w (newest w)) d)))
keeps_go credit w (Changes (change.Erase origin)) i q ks h later r lt st kept =
    same_stands w (done_as w (i + 1) (Changes (change.Erase origin))) i ks kept lt
    (same_found (id_of w origin) w (λ d. refreshed (with_view w (erased_view w d)) (i + 1) (newest w + 1)) (λ d. same_viewed w (i + 1) (erased_view w d)))
keeps_go credit w (Changes (change.Admit name)) i q ks h later r lt st kept =
    all_stand (come_to w (i + 1) name) (refreshed (come_to w (i + 1) name) (i + 1) (newest w + 1)) (ks ++ joining_keeps ∷ []) (come_stands w (i + 1) name ks kept) (same_refreshed (come_to w (i + 1) name) (i + 1) (newest w + 1))
keeps_go credit w (Changes change.Register) i q ks h later r lt st kept = same_stands w (done_as w (i + 1) (Changes change.Register)) i ks kept lt (same_viewed w (i + 1) (synced_view w (i + 1)))
keeps_go credit w Stops i q ks h later r lt st kept = same_stands w (done_as w (i + 1) Stops) i ks kept lt (same_stopped w (i + 1))
keeps_go credit w (Reads version) i q ks h later r lt st kept = same_stands w (done_as w (i + 1) (Reads version)) i ks kept lt (same_refreshed w (i + 1) version)
keeps_go credit w (Tells code inner) i q ks h later r lt st kept = same_stands w w i ks kept lt (same w)
