-- Whether all is sent on a link stays right: at first, once a packet is put, once a message joins, once a packet is taken.
use Rattle.std.proofs.Common.{◌≡◌, ◌⊎◌, inl, inr, ℕ, ◌+◌, ◌≤◌, Bool, true, false, cond, not, nat_eq, nat_le, List, [], ◌∷◌, Option, Some, None, refl, sym, ap, subst, ◌∙◌, ⊎_elim, arith, length-append, map}
use Rattle.std.specs.Prelude.{◌&&◌, Result, Ok, Err, OnOk, OnErr, is_ok}
use Rattle.std.specs.List.{list_all, range_with_len, cons_option}
use Rattle.std.proofs.lemmas.Bool.{and_parts, true≢false, not-true, not-false}
use Rattle.std.proofs.lemmas.Bool.Decides.{nat_tests}
use Rattle.group_view.proofs.Lists.{all_range}
use Rattle.queue_core.specs.declared.message.Message.{Message}
use Rattle.ring_names.specs.declared.reason.Reason.TheVariants.{NoCredit, NothingNew}
use Rattle.credit_flow.specs.Credit.{is_blocked}
use Rattle.ring_rules.specs.Refusal.{refuse_if}
use Rattle.ring_rules.proofs.events.Refusals.{none_of, refuse_none}
use Rattle.ring_rules.proofs.rings.Rounds.{nat_eq-is, nat_eq-same, nat_eq-not}
use Rattle.activity.specs.declared.change.Change.{Change}
use Rattle.activity.specs.Kept.{Kept, KeptRow, no_kept, got_of, kept_of, joined, KeepsRows}
use Rattle.activity.specs.LastSent.{LastSent, LastSentRow, never_sent, sent_of}
use Rattle.activity.specs.Packets.{LineSeen, line_of}
use Rattle.activity.specs.Diff.{is_last_sent, tells_new, IsNotAbove}
use Rattle.activity.specs.Plan.{fits, change_in, change_of, changes_of, accepted, origin_of}
use Rattle.activity.proofs.Above.{got_raised}
use Rattle.activity.proofs.Marks.{accepted_passed}
use Rattle.activity.proofs.LastSent.{says_something}
use Rattle.gm_member.specs.declared.links.OutLink.{OutLink}
use Rattle.gm_member.specs.Packets.{places, known_at, last_sent_at, last_sent_now}
use Rattle.gm_member.specs.Held.{Outgoing, at_some, has_nothing_new, all_last_sent, put_on, out_refused}
use Rattle.gm_member.specs.View.{out_of, last_sent_on, count_of}
use Rattle.gm_member.specs.Telling.{says_changed, SaysAllIsSent, is_all_still_sent}
use Rattle.gm_member.specs.Within.{IsWithin}
use Rattle.gm_member.proofs.Accepting.{keeps_all}
use Rattle.gm_member.proofs.Beginning.{none_counts}
use Rattle.gm_member.proofs.Places.{tabled_at}
use Rattle.gm_member.proofs.Putting.{last_sent_by_places}
use Rattle.gm_member.proofs.Within.{within_above}

-- ---- all of the first ids, and each of them

-- a test of a conjunction's last part
last_holds : (a b c : Bool) → a ≡ true → b ≡ true → (a && b && not c) ≡ false → c ≡ true
last_holds true true c ea eb h = not-false c h
last_holds true false c ea eb h = cc
last_holds false b c ea eb h = cc

-- nothing is new of any id where all was sent
none_new : (sent : List LastSentRow) (rows : List KeptRow) (n : ℕ) → list_all (λ p. is_last_sent (kept_of rows (p + 1)) (sent_of sent (p + 1))) (range_with_len 0 n) ≡ true → (id : ℕ) → tells_new sent rows n id ≡ false
none_new sent rows n all id = by (tells_new sent rows n id) refl
  where
    by : (b : Bool) → tells_new sent rows n id ≡ b → b ≡ false
    by true e = absurd (true≢false (sym all ∙ says_something sent rows n id e))
    by false e = refl

-- and only there
none_new_sent : (sent : List LastSentRow) (rows : List KeptRow) (n : ℕ) → ((id : ℕ) → tells_new sent rows n id ≡ false) → list_all (λ p. is_last_sent (kept_of rows (p + 1)) (sent_of sent (p + 1))) (range_with_len 0 n) ≡ true
none_new_sent sent rows n h = all_range (λ p. is_last_sent (kept_of rows (p + 1)) (sent_of sent (p + 1))) 0 n
    (λ p _ u.
    let some : nat_le 1 (p + 1) ≡ true = grind (arith, nat_tests) in
    let few : nat_le (p + 1) n ≡ true = grind (arith, nat_tests) in
    last_holds (nat_le 1 (p + 1)) (nat_le (p + 1) n) (is_last_sent (kept_of rows (p + 1)) (sent_of sent (p + 1))) some few (h (p + 1)))

-- ---- changes come in

-- what was sent once more was kept, was sent before
sent_before : (k k' : Kept) (t : LastSent) → t.got ≤ got_of k → t.forgot ≤ k.forgot → (got_of k ≤ got_of k') × (k.forgot ≤ k'.forgot) → is_last_sent k' t ≡ true → is_last_sent k t ≡ true
sent_before k k' t got forgot rises e =
    let parts = and_parts (nat_eq (got_of k') t.got) (nat_eq k'.forgot t.forgot) e in
    let last : got_of k ≡ t.got = omega (arith, rises.0, nat_eq-is (got_of k') t.got parts.0) in
    let gone : k.forgot ≡ t.forgot = omega (arith, rises.1, nat_eq-is k'.forgot t.forgot parts.1) in
    ap (λ n. nat_eq n t.got && nat_eq k.forgot t.forgot) last
    ∙ ap (λ b. b && nat_eq k.forgot t.forgot) (nat_eq-same t.got)
    ∙ ap (λ n. nat_eq n t.forgot) gone ∙ nat_eq-same t.forgot

still_none : (a c c' : Bool) → (c' ≡ true → c ≡ true) → (a && not c') ≡ false → (a && not c) ≡ false
still_none true c c' f h = ap not (f (not-false c' h))
still_none false c c' f h = refl

none_new_before : (sent : List LastSentRow) (old new : List KeptRow) (n : ℕ) → IsNotAbove sent old → ((p : ℕ) → (got_of (kept_of old p) ≤ got_of (kept_of new p)) × ((kept_of old p).forgot ≤ (kept_of new p).forgot))
    → (id : ℕ) → tells_new sent new n id ≡ false → tells_new sent old n id ≡ false
none_new_before sent old new n above rises id =
    still_none (nat_le 1 id && nat_le id n) (is_last_sent (kept_of old id) (sent_of sent id)) (is_last_sent (kept_of new id) (sent_of sent id))
    (sent_before (kept_of old id) (kept_of new id) (sent_of sent id) (above.got id) (above.forgot id) (rises id))

-- a line has no change, or its change passes a test that all changes pass
line_passes : (test : ℕ → Bool) (own : Bool) (k : Kept) (c : LineSeen) (rest : List Change) → list_all (λ x. test (origin_of x).0) (cons_option (change_of own k c) rest) ≡ true
    → ((fits own k c ≡ false) ⊎ (test c.origin.0 ≡ true)) × (list_all (λ x. test (origin_of x).0) rest ≡ true)
line_passes test own k c rest = by (fits own k c) refl
  where
    origin_is : (o : Bool) → test (origin_of (change_in o k c)).0 ≡ test c.origin.0
    origin_is true = refl
    origin_is false = refl

    by : (b : Bool) → fits own k c ≡ b → list_all (λ x. test (origin_of x).0) (cons_option (cond b (Some (change_in own k c)) None) rest) ≡ true
        → ((fits own k c ≡ false) ⊎ (test c.origin.0 ≡ true)) × (list_all (λ x. test (origin_of x).0) rest ≡ true)
    by false e h = (inl e, h)
    by true e h =
        let parts = and_parts (test (origin_of (change_in own k c)).0) (list_all (λ x. test (origin_of x).0) rest) h in
        (inr (sym (origin_is own) ∙ parts.0), parts.1)

-- what is kept of an origin stays, or the origin passes it
stays_or_passes : (test : ℕ → Bool) (own : ℕ → Bool) (rows : List KeptRow) (lines : List LineSeen) (p : ℕ) → list_all (λ x. test (origin_of x).0) (changes_of own rows lines) ≡ true
    → (accepted (own p) (kept_of rows p) (line_of lines p) ≡ kept_of rows p) ⊎ (test p ≡ true)
stays_or_passes test own rows [] p h = inl refl
stays_or_passes test own rows (c ∷ lines) p h =
    let parts = line_passes test (own c.origin.0) (kept_of rows c.origin.0) c (changes_of own rows lines) h in
    by_here (nat_eq p c.origin.0) refl parts.0 (stays_or_passes test own rows lines p parts.1)
  where
    by_here : (b : Bool) → nat_eq p c.origin.0 ≡ b → (fits (own c.origin.0) (kept_of rows c.origin.0) c ≡ false) ⊎ (test c.origin.0 ≡ true)
        → (accepted (own p) (kept_of rows p) (line_of lines p) ≡ kept_of rows p) ⊎ (test p ≡ true)
        → (accepted (own p) (kept_of rows p) (cond b (Some c) (line_of lines p)) ≡ kept_of rows p) ⊎ (test p ≡ true)
    by_here false e here later = later
    by_here true e here later =
        let is : p ≡ c.origin.0 = nat_eq-is p c.origin.0 e in
        ⊎_elim
        (λ (passed : fits (own c.origin.0) (kept_of rows c.origin.0) c ≡ false). inl (accepted_passed (own p) (kept_of rows p) c (ap (λ q. fits (own q) (kept_of rows q) c) is ∙ passed)))
        (λ (passes : test c.origin.0 ≡ true). inr (ap test is ∙ passes))
        here

-- changes say nothing new where no id does
changes_say : (sent : List LastSentRow) (rows : List KeptRow) → ((id : ℕ) → tells_new sent rows 64 id ≡ false) → (changes : List Change) → says_changed sent rows changes ≡ true
changes_say sent rows h [] = refl
changes_say sent rows h (c ∷ changes) = ap (λ b. not b && says_changed sent rows changes) (h (origin_of c).0) ∙ changes_say sent rows h changes

both_ways : (a b : Bool) → (a ≡ true → b ≡ true) → (b ≡ true → a ≡ true) → a ≡ b
both_ways true b f g = sym (f refl)
both_ways false true f g = g refl
both_ways false false f g = refl

-- all is sent then exactly where all was sent before, and of the changes nothing is new
still_all : (all_is_sent : Bool) (sent : List LastSentRow) (own : ℕ → Bool) (old mid new : List KeptRow) (lines : List LineSeen) (changes : List Change) → KeepsRows old mid → changes ≡ changes_of own mid lines
    → ((p : ℕ) → kept_of new p ≡ accepted (own p) (kept_of mid p) (line_of lines p)) → IsNotAbove sent old
    → all_is_sent ≡ list_all (λ p. is_last_sent (kept_of old (p + 1)) (sent_of sent (p + 1))) (range_with_len 0 64)
    → (all_is_sent && says_changed sent new changes) ≡ list_all (λ p. is_last_sent (kept_of new (p + 1)) (sent_of sent (p + 1))) (range_with_len 0 64)
still_all all_is_sent sent own old mid new lines changes kept plan made above right = both_ways _ _ after before
  where
    rises : (p : ℕ) → (got_of (kept_of old p) ≤ got_of (kept_of new p)) × ((kept_of old p).forgot ≤ (kept_of new p).forgot)
    rises p = subst (λ (r : Kept). (got_of r ≤ got_of (kept_of new p)) × (r.forgot ≤ (kept_of new p).forgot)) (kept.kept p)
        (subst (λ (r : Kept). (got_of (kept_of mid p) ≤ got_of r) × ((kept_of mid p).forgot ≤ r.forgot)) (sym (made p)) (got_raised (own p) (kept_of mid p) (line_of lines p)))

    after : (all_is_sent && says_changed sent new changes) ≡ true → list_all (λ p. is_last_sent (kept_of new (p + 1)) (sent_of sent (p + 1))) (range_with_len 0 64) ≡ true
    after e =
        let parts = and_parts all_is_sent (says_changed sent new changes) e in
        none_new_sent sent new 64 (λ id. ⊎_elim
        (λ (same : accepted (own id) (kept_of mid id) (line_of lines id) ≡ kept_of mid id).
        ap (λ k. nat_le 1 id && nat_le id 64 && not (is_last_sent k (sent_of sent id))) (made id ∙ same ∙ kept.kept id) ∙ none_new sent old 64 (sym right ∙ parts.0) id)
        (λ (passes : not (tells_new sent new 64 id) ≡ true). not-true (tells_new sent new 64 id) passes)
        (stays_or_passes (λ q. not (tells_new sent new 64 q)) own mid lines id (ap (says_changed sent new) (sym plan) ∙ parts.1)))

    before : list_all (λ p. is_last_sent (kept_of new (p + 1)) (sent_of sent (p + 1))) (range_with_len 0 64) ≡ true → (all_is_sent && says_changed sent new changes) ≡ true
    before e =
        let now = none_new sent new 64 e in
        ap (λ b. b && says_changed sent new changes) (right ∙ none_new_sent sent old 64 (λ id. none_new_before sent old new 64 above rises id (now id)))
        ∙ changes_say sent new now changes

-- ---- a packet is put

last_sent_now_is : (k : Kept) → is_last_sent k (last_sent_now k) ≡ true
last_sent_now_is k = ap (λ b. b && nat_eq k.forgot k.forgot) (nat_eq-same (got_of k)) ∙ nat_eq-same k.forgot

-- nothing is new then
put_last_sent : (known : List Kept) (o : Outgoing) → has_nothing_new known (put_on known o) ≡ true
unfolding places
put_last_sent known o = all_range (λ p. is_last_sent (known_at known p) (last_sent_at (all_last_sent known) p)) 0 64
    (λ p _ l. ap (is_last_sent (known_at known p)) (tabled_at (λ q. last_sent_now (known_at known q)) 64 p never_sent (omega (arith, l))) ∙ last_sent_now_is (known_at known p))

-- and only where something was, one may be put
pub put_right : {A E : Type 0} (r : Result A E) (known : List Kept) (o o' : Outgoing) → OnOk r (o' ≡ put_on known o) → OnErr r (o' ≡ o) → out_refused known o ≡ None → is_ok r ≡ has_nothing_new known o'
put_right (Ok a) known o o' ok err enabled = sym (ap (has_nothing_new known) ok ∙ put_last_sent known o)
put_right (Err e) known o o' ok err enabled =
    sym (ap (has_nothing_new known) err ∙ refuse_none (has_nothing_new known o) NothingNew (none_of (is_blocked o.credit) NoCredit (refuse_if (has_nothing_new known o) NothingNew) enabled).1)

-- ---- at first

-- where nothing is kept and nothing was sent, all was sent
pub nothing_last_sent : (rows : List KeptRow) (sent : List LastSentRow) → rows ≡ [] → sent ≡ []
    → true ≡ list_all (λ p. is_last_sent (known_at (map (λ q. kept_of rows (q + 1)) places) p) (last_sent_at (map (λ q. sent_of sent (q + 1)) places) p)) places
nothing_last_sent rows sent none unsent =
    sym
    (sym (last_sent_by_places rows sent)
    ∙ all_range (λ p. is_last_sent (kept_of rows (p + 1)) (sent_of sent (p + 1))) 0 64
    (λ p _ _. ap (λ rs. is_last_sent (kept_of rs (p + 1)) (sent_of sent (p + 1))) none ∙ ap (λ ts. is_last_sent no_kept (sent_of ts (p + 1))) unsent))

-- ---- of a member

module _ {O : Type 0} where
  -- the same is kept
  pub keeps_right : (all_is_sent : Bool) (out : Option (OutLink O)) (old new : List KeptRow) → KeepsRows old new → SaysAllIsSent all_is_sent out old → SaysAllIsSent all_is_sent out new
  keeps_right all_is_sent out old new k = subst (λ ks. all_is_sent ≡ at_some out all_is_sent (λ l. has_nothing_new ks (out_of l))) (sym (keeps_all old new k))

  -- the member sends on no link
  pub silent_right : (all_is_sent : Bool) (out : Option (OutLink O)) (rows : List KeptRow) → count_of out ≡ 0 → SaysAllIsSent all_is_sent out rows
  silent_right all_is_sent out rows e = subst (λ o. SaysAllIsSent all_is_sent o rows) (sym (none_counts out e)) refl

  -- a message joins what is kept of one
  pub joined_right : (out : Option (OutLink O)) (old mid new : List KeptRow) (id : ℕ) (m : Message) → 1 ≤ id → id ≤ 64 → KeepsRows old mid
      → ((p : ℕ) → kept_of new p ≡ cond (nat_eq p id) (joined m (kept_of mid p)) (kept_of mid p)) → IsWithin (last_sent_on out) old → SaysAllIsSent false out new
  joined_right None old mid new id m some few k h within = refl
  joined_right (Some link) old mid new id m some few k h within =
      let above = within_above link.sent old within in
      let e : kept_of new id ≡ joined m (kept_of old id) = h id ∙ ap (λ b. cond b (joined m (kept_of mid id)) (kept_of mid id)) (nat_eq-same id) ∙ ap (joined m) (k.kept id) in
      let more : got_of (kept_of new id) ≡ got_of (kept_of old id) + 1 = omega (arith, ap got_of e, length-append (kept_of old id).messages (m ∷ [])) in
      let unsent : nat_eq (got_of (kept_of new id)) (sent_of link.sent id).got ≡ false = nat_eq-not (got_of (kept_of new id)) (sent_of link.sent id).got (λ (s : got_of (kept_of new id) ≡ (sent_of link.sent id).got). omega (arith, more, s, above.got id)) in
      let lo : nat_le 1 id ≡ true = grind (arith, nat_tests) in
      let hi : nat_le id 64 ≡ true = grind (arith, nat_tests) in
      sym
      (sym (last_sent_by_places new link.sent)
      ∙ says_something link.sent new 64 id
      (ap (λ b. b && nat_le id 64 && not (is_last_sent (kept_of new id) (sent_of link.sent id))) lo
      ∙ ap (λ b. b && not (is_last_sent (kept_of new id) (sent_of link.sent id))) hi
      ∙ ap (λ b. not (b && nat_eq (kept_of new id).forgot (sent_of link.sent id).forgot)) unsent))

  -- a packet is taken
  pub still_right : (all_is_sent : Bool) (out : Option (OutLink O)) (own : ℕ → Bool) (old mid new : List KeptRow) (lines : List LineSeen) (changes : List Change) → KeepsRows old mid → changes ≡ changes_of own mid lines
      → ((p : ℕ) → kept_of new p ≡ accepted (own p) (kept_of mid p) (line_of lines p)) → IsWithin (last_sent_on out) old → SaysAllIsSent all_is_sent out old → SaysAllIsSent (is_all_still_sent all_is_sent out new changes) out new
  still_right all_is_sent None own old mid new lines changes k plan made within right = refl
  still_right all_is_sent (Some link) own old mid new lines changes k plan made within right =
      still_all all_is_sent link.sent own old mid new lines changes k plan made (within_above link.sent old within) (right ∙ sym (last_sent_by_places old link.sent))
      ∙ last_sent_by_places new link.sent
