-- What a member keeps of each origin, by places, from what its tables keep.
use Rattle.std.proofs.Common.{◌≡◌, ℕ, ◌+◌, ◌-◌, ◌<◌, ◌≤◌, Bool, true, cond, nat_eq, List, [], ◌∷◌, map, set, None, refl, sym, ap, ◌∙◌, arith, length-append}
use Rattle.std.specs.List.{cons_option}
use Rattle.std.proofs.lemmas.List.{get_or_past}
use Rattle.std.proofs.lemmas.List.FromFn.{length-map-range_with_len}
use Rattle.queue_core.specs.declared.message.Message.{Message}
use Rattle.activity.specs.Kept.{Kept, KeptRow, no_kept, got_of, kept_of, joined, KeepsRows}
use Rattle.activity.specs.LastSent.{LastSent, LastSentRow, never_sent, sent_of, KeepsSent}
use Rattle.activity.specs.Packets.{LineSeen, line_of, noted}
use Rattle.activity.specs.Diff.{next_line, IsNotAbove}
use Rattle.activity.specs.Plan.{accepted, begun, change_of, changes_of}
use Rattle.ring_rules.proofs.rings.Rounds.{nat_eq-same, nat_eq-not}
use Rattle.gm_member.specs.Packets.{places, known_at, last_sent_at, line_at, last_sent_now, emptied}
use Rattle.gm_member.specs.Held.{all_last_sent, all_accepted, all_begun}
use Rattle.gm_member.proofs.Noting.{noted_now, noted_emptied}
use Rattle.gm_member.proofs.Places.{map-range_same, tabled_at, tabled_set}

-- by places
abbrev kept_all : List KeptRow → List Kept
kept_all rows = map (λ p. kept_of rows (p + 1)) places

abbrev sent_all : List LastSentRow → List LastSent
sent_all rows = map (λ p. sent_of rows (p + 1)) places

pub kept_there : (rows : List KeptRow) (p : ℕ) → p < 64 → known_at (map (λ q. kept_of rows (q + 1)) places) p ≡ kept_of rows (p + 1)
unfolding places
kept_there rows p l = tabled_at (λ q. kept_of rows (q + 1)) 64 p no_kept l

-- by ids
pub kept_by_id : (rows : List KeptRow) (id : ℕ) → 1 ≤ id → id ≤ 64 → known_at (map (λ q. kept_of rows (q + 1)) places) (id - 1) ≡ kept_of rows id
kept_by_id rows id some few =
    let back : id - 1 + 1 ≡ id = omega arith in
    kept_there rows (id - 1) (omega arith) ∙ ap (kept_of rows) back

-- nothing is kept at a place that no ring has
pub kept_nowhere : (rows : List KeptRow) (p : ℕ) → 64 ≤ p → known_at (map (λ q. kept_of rows (q + 1)) places) p ≡ no_kept
unfolding places
kept_nowhere rows p l = get_or_past (kept_all rows) p no_kept (omega (arith, length-map-range_with_len (λ q. kept_of rows (q + 1)) 0 64, l))

pub sent_there : (rows : List LastSentRow) (p : ℕ) → p < 64 → last_sent_at (map (λ q. sent_of rows (q + 1)) places) p ≡ sent_of rows (p + 1)
unfolding places
sent_there rows p l = tabled_at (λ q. sent_of rows (q + 1)) 64 p never_sent l

-- the same is kept of each
pub keeps_all : (old new : List KeptRow) → KeepsRows old new → map (λ p. kept_of new (p + 1)) places ≡ map (λ p. kept_of old (p + 1)) places
unfolding places
keeps_all old new k = map-range_same (λ p. kept_of new (p + 1)) (λ p. kept_of old (p + 1)) 64 (λ p _. k.kept (p + 1))

-- a packet is taken in
pub all_applied : (own : ℕ → Bool) (old mid new : List KeptRow) (lines : List LineSeen) → KeepsRows old mid → ((p : ℕ) → kept_of new p ≡ accepted (own p) (kept_of mid p) (line_of lines p))
    → map (λ p. kept_of new (p + 1)) places ≡ all_accepted (λ p. own (p + 1)) (map (λ p. kept_of old (p + 1)) places) (map (λ p. line_of lines (p + 1)) places)
unfolding places
all_applied own old mid new lines k h = map-range_same (λ p. kept_of new (p + 1)) (λ p. accepted (own (p + 1)) (known_at (kept_all old) p) (line_at (map (λ q. line_of lines (q + 1)) places) p)) 64
    (λ p l. h (p + 1)
    ∙ ap (λ c. accepted (own (p + 1)) c (line_of lines (p + 1))) (k.kept (p + 1) ∙ sym (kept_there old p l))
    ∙ ap (accepted (own (p + 1)) (known_at (kept_all old) p)) (sym (tabled_at (λ q. line_of lines (q + 1)) 64 p None l)))

-- a first packet is taken in
pub all_filled : (new : List KeptRow) (lines : List LineSeen) → ((p : ℕ) → kept_of new p ≡ begun (line_of lines p)) → map (λ p. kept_of new (p + 1)) places ≡ all_begun (map (λ p. line_of lines (p + 1)) places)
unfolding places
all_filled new lines h = map-range_same (λ p. kept_of new (p + 1)) (λ p. begun (line_at (map (λ q. line_of lines (q + 1)) places) p)) 64
    (λ p l. h (p + 1) ∙ ap begun (sym (tabled_at (λ q. line_of lines (q + 1)) 64 p None l)))

-- the numbers last sent after a put
pub all_noted : (first : Bool) (rows : List KeptRow) (old new : List LastSentRow) (lines : List LineSeen) → IsNotAbove old rows → ((p : ℕ) → first ≡ true → ((sent_of old p).got ≡ 0) × ((sent_of old p).forgot ≡ 0))
    → ((p : ℕ) → line_of lines p ≡ next_line first p (kept_of rows p) (sent_of old p)) → ((p : ℕ) → sent_of new p ≡ noted (line_of lines p) (sent_of old p)) → (p : ℕ) → sent_of new p ≡ last_sent_now (kept_of rows p)
all_noted first rows old new lines below fresh says notes p =
    notes p ∙ ap (λ o. noted o (sent_of old p)) (says p)
    ∙ noted_now first p (kept_of rows p) (sent_of old p) (below.got p)
    (λ e. let none = fresh p e in ap (λ n. record { got = n; forgot = (sent_of old p).forgot }) none.0 ∙ ap (λ n. record { got = 0; forgot = n }) none.1)

-- the same after a first packet, before which nothing was sent
pub first_noted : (rows : List KeptRow) (none old new : List LastSentRow) (lines : List LineSeen) → none ≡ [] → ((p : ℕ) → sent_of old p ≡ sent_of none p)
    → ((p : ℕ) → line_of lines p ≡ next_line true p (kept_of rows p) (sent_of none p)) → ((p : ℕ) → sent_of new p ≡ noted (line_of lines p) (sent_of old p)) → (p : ℕ) → sent_of new p ≡ last_sent_now (kept_of rows p)
first_noted rows none old new lines empty same says notes =
    let zero_last_sent : (p : ℕ) → sent_of old p ≡ never_sent = λ p. same p ∙ ap (λ ts. sent_of ts p) empty in
    all_noted true rows old new lines
    (record {
      got = λ p. let e : (sent_of old p).got ≡ 0 = ap (λ (t : LastSent). t.got) (zero_last_sent p) in omega (arith, e);
      forgot = λ p. let e : (sent_of old p).forgot ≡ 0 = ap (λ (t : LastSent). t.forgot) (zero_last_sent p) in omega (arith, e);
    })
    (λ p _. (ap (λ (t : LastSent). t.got) (zero_last_sent p), ap (λ (t : LastSent). t.forgot) (zero_last_sent p)))
    (λ p. says p ∙ ap (next_line true p (kept_of rows p)) (sym (same p))) notes

-- where the same is kept, the same changes
pub changes_kept : (own : ℕ → Bool) (old new : List KeptRow) → KeepsRows old new → (lines : List LineSeen) → changes_of own new lines ≡ changes_of own old lines
changes_kept own old new k [] = refl
changes_kept own old new k (c ∷ lines) =
    ap (λ s. cons_option (change_of (own c.origin.0) s c) (changes_of own new lines)) (k.kept c.origin.0)
    ∙ ap (cons_option (change_of (own c.origin.0) (kept_of old c.origin.0) c)) (changes_kept own old new k lines)

pub all_sent_now : (rows : List KeptRow) (new : List LastSentRow) → ((p : ℕ) → sent_of new p ≡ last_sent_now (kept_of rows p)) → map (λ p. sent_of new (p + 1)) places ≡ all_last_sent (map (λ p. kept_of rows (p + 1)) places)
unfolding places
all_sent_now rows new h = map-range_same (λ p. sent_of new (p + 1)) (λ p. last_sent_now (known_at (kept_all rows) p)) 64 (λ p l. h (p + 1) ∙ ap last_sent_now (sym (kept_there rows p l)))

-- what was sent is there then
pub sent_is_there : (rows : List KeptRow) (new : List LastSentRow) → ((p : ℕ) → sent_of new p ≡ last_sent_now (kept_of rows p)) → IsNotAbove new rows
sent_is_there rows new h = record {
  got = λ p. let e : (sent_of new p).got ≡ got_of (kept_of rows p) = ap (λ (t : LastSent). t.got) (h p) in omega (arith, e);
  forgot = λ p. let e : (sent_of new p).forgot ≡ (kept_of rows p).forgot = ap (λ (t : LastSent). t.forgot) (h p) in omega (arith, e);
}

-- ---- room is made for what is to be noted

-- nothing more was sent
pub room_below : (rows : List KeptRow) (old new : List LastSentRow) → KeepsSent old new → IsNotAbove old rows → IsNotAbove new rows
room_below rows old new k h = record {
  got = λ p. let e : (sent_of new p).got ≡ (sent_of old p).got = ap (λ (t : LastSent). t.got) (k.sent p) in omega (arith, e, h.got p);
  forgot = λ p. let e : (sent_of new p).forgot ≡ (sent_of old p).forgot = ap (λ (t : LastSent). t.forgot) (k.sent p) in omega (arith, e, h.forgot p);
}

-- nothing where nothing was
pub room_unsent : (fresh : Bool) (old new : List LastSentRow) → KeepsSent old new → ((p : ℕ) → fresh ≡ true → ((sent_of old p).got ≡ 0) × ((sent_of old p).forgot ≡ 0))
    → (p : ℕ) → fresh ≡ true → ((sent_of new p).got ≡ 0) × ((sent_of new p).forgot ≡ 0)
room_unsent fresh old new k h p e =
    (ap (λ (t : LastSent). t.got) (k.sent p) ∙ (h p e).0, ap (λ (t : LastSent). t.forgot) (k.sent p) ∙ (h p e).1)

-- by places
pub room_all : (old new : List LastSentRow) → KeepsSent old new → map (λ p. sent_of new (p + 1)) places ≡ map (λ p. sent_of old (p + 1)) places
unfolding places
room_all old new k = map-range_same (λ p. sent_of new (p + 1)) (λ p. sent_of old (p + 1)) 64 (λ p _. k.sent (p + 1))

-- the numbers last sent after a put of which only the numbers were noted, where room was made
pub all_noted_bare : (first : Bool) (rows : List KeptRow) (old mid new : List LastSentRow) (lines bare : List LineSeen) → IsNotAbove old rows
    → ((p : ℕ) → first ≡ true → ((sent_of old p).got ≡ 0) × ((sent_of old p).forgot ≡ 0))
    → ((p : ℕ) → line_of lines p ≡ next_line first p (kept_of rows p) (sent_of old p)) → KeepsSent old mid → bare ≡ map emptied lines
    → ((p : ℕ) → sent_of new p ≡ noted (line_of bare p) (sent_of mid p)) → (p : ℕ) → sent_of new p ≡ last_sent_now (kept_of rows p)
all_noted_bare first rows old mid new lines bare below fresh says k same notes =
    all_noted first rows old new lines below fresh says
    (λ p. notes p ∙ ap (λ ls. noted (line_of ls p) (sent_of mid p)) same ∙ noted_emptied lines p (sent_of mid p) ∙ ap (noted (line_of lines p)) (k.sent p))

-- a message joins
pub all_joined : (old mid new : List KeptRow) (id : ℕ) (m : Message) → 1 ≤ id → id ≤ 64 → KeepsRows old mid → ((p : ℕ) → kept_of new p ≡ cond (nat_eq p id) (joined m (kept_of mid p)) (kept_of mid p))
    → map (λ p. kept_of new (p + 1)) places ≡ set (map (λ p. kept_of old (p + 1)) places) (id - 1) (joined m (known_at (map (λ p. kept_of old (p + 1)) places) (id - 1)))
unfolding places
all_joined old mid new id m some few k h =
    let back : id - 1 + 1 ≡ id = omega arith in
    let lt : id - 1 < 64 = omega arith in
    sym (tabled_set (λ p. kept_of old (p + 1)) (λ p. kept_of new (p + 1)) 64 (id - 1) (joined m (known_at (kept_all old) (id - 1))) no_kept lt
    (ap (joined m) (kept_there old (id - 1) lt)
    ∙ ap (λ q. joined m (kept_of old q)) back
    ∙ ap (joined m) (sym (k.kept id))
    ∙ sym (h id ∙ ap (λ b. cond b (joined m (kept_of mid id)) (kept_of mid id)) (nat_eq-same id))
    ∙ ap (kept_of new) (sym back))
    (λ p l ne. sym (h (p + 1) ∙ ap (λ b. cond b (joined m (kept_of mid (p + 1))) (kept_of mid (p + 1))) (nat_eq-not (p + 1) id (λ (e : p + 1 ≡ id). ne (omega arith))) ∙ k.kept (p + 1))))

-- its number there
pub joined_number : (old mid new : List KeptRow) (id : ℕ) (m : Message) → 1 ≤ id → id ≤ 64 → KeepsRows old mid → ((p : ℕ) → kept_of new p ≡ cond (nat_eq p id) (joined m (kept_of mid p)) (kept_of mid p))
    → got_of (kept_of new id) ≡ got_of (known_at (map (λ p. kept_of old (p + 1)) places) (id - 1)) + 1
joined_number old mid new id m some few k h =
    let e : kept_of new id ≡ joined m (kept_of old id) = h id ∙ ap (λ b. cond b (joined m (kept_of mid id)) (kept_of mid id)) (nat_eq-same id) ∙ ap (joined m) (k.kept id) in
    omega (arith, ap got_of e, length-append (kept_of old id).messages (m ∷ []), ap got_of (kept_by_id old id some few))
