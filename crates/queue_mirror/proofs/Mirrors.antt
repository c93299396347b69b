-- A mirror is what its member has seen: kept by each operation.
use Rattle.std.proofs.Common.{◌≡◌, ℕ, ◌≤◌, ◌+◌, Bool, true, false, cond, List, [], ◌∷◌, ◌++◌, length, take, drop, refl, sym, ap, ◌∙◌, subst, arith, ⊎_elim, append_assoc, nat_eq, Option, Some, None}
use Rattle.std.specs.Prelude.{◌||◌}
use Rattle.std.specs.List.{filter, list_any}
use Rattle.std.proofs.lemmas.Bool.{cases_Bool, false≢true, and_parts, eqb-true}
use Rattle.std.proofs.lemmas.List.{length-append, append-nil, length-map, take-append-le, drop-append-le, take-append-drop}
use Rattle.std.proofs.lemmas.List.Folds.{list_any-append}
use Rattle.queue_core.specs.declared.op.Op.{Op}
use Rattle.queue_core.specs.declared.op.Op.TheVariants.{Publish, Deliver, Drop, Ack, Requeue, Depth, Start, SyncMark}
use Rattle.queue_core.specs.Queue.{Item, is_at, is_ready, is_ready_at, is_unacked_at, is_handed, stays, changed, kept, step}
use Rattle.queue_core.specs.Legal.{run, queue_of, least_ready, is_found, is_legal, are_legal}
use Rattle.ring_names.specs.declared.numbers.Position.{Position}
use Rattle.queue_mirror.specs.Mirror.{MirrorState, content, left_out, from, is_tell, is_told, lacks, missing_after, apply_op, apply_ops}
use Rattle.queue_core.proofs.Lists.{number, number-append, number_le, length-filter_not, filter_all, some_number, none_number}
use Rattle.queue_core.proofs.Split.{run-split, run-append, remains-append, legal_front, legal_back, IsSingle, queue-single}

-- the queue is what a member leaves out, and then what it holds
pub queue-split : (f : ℕ) (l : List Op) → are_legal [] l ≡ true → queue_of l ≡ left_out f l ++ content f l
queue-split f l h =
    let cut : take f l ++ drop f l ≡ l = take-append-drop f l in
    let back : are_legal (queue_of (take f l)) (drop f l) ≡ true = legal_back (take f l) (drop f l) (ap (are_legal []) cut ∙ h) in
    ap (run []) (sym cut) ∙ run-append [] (take f l) (drop f l)
    ∙ ap (λ xs. run xs (drop f l)) (sym (append-nil (queue_of (take f l))))
    ∙ run-split (queue_of (take f l)) [] (drop f l) (ap (λ xs. are_legal xs (drop f l)) (append-nil (queue_of (take f l))) ∙ back)

-- ---- how many items an operation leaves

pub kept_all : (op : Op) (xs : List Item) → ((i : Item) → stays op i ≡ true) → length (kept op xs) ≡ length xs
kept_all op xs h = length-map (filter (stays op) xs) (changed op) ∙ ap length (filter_all (stays op) h xs)

pub kept_drop : (a : Position) (xs : List Item) → length (kept (Drop a) xs) + number (is_ready_at a.0) xs ≡ length xs
kept_drop a xs = omega (arith, length-map (filter (stays (Drop a)) xs) (changed (Drop a)), length-filter_not (is_ready_at a.0) xs)

pub kept_ack : (a : Position) (xs : List Item) → length (kept (Ack a) xs) + number (is_unacked_at a.0) xs ≡ length xs
kept_ack a xs = omega (arith, length-map (filter (stays (Ack a)) xs) (changed (Ack a)), length-filter_not (is_unacked_at a.0) xs)

-- who is found first stands there
pub least_stands : (a : ℕ) (xs : List Item) → is_found (least_ready xs) a ≡ true → 1 ≤ number (is_ready_at a) xs
least_stands a [] h = absurd (false≢true h)
least_stands a (i ∷ xs) h = ⊎_elim
    (λ (ready : is_ready i ≡ true).
    let e : nat_eq i.at a ≡ true = rw ready at h in
    rw (e, ready) (omega arith))
    (λ (no : is_ready i ≡ false).
    let e : is_found (least_ready xs) a ≡ true = rw no at h in
    omega (arith, least_stands a xs e))
    (cases_Bool (is_ready i))

-- one that is gone from the first part where the second doesn't hold the position, and none elsewhere
pub gone_one : (t : Item → Bool) (a : ℕ) (xs ys : List Item) → ((i : Item) → t i ≡ true → is_at a i ≡ true) → IsSingle (xs ++ ys) → 1 ≤ number t (xs ++ ys) → number t xs ≡ cond (list_any (is_at a) ys) 0 1
gone_one t a xs ys h single some =
    let both : number (is_at a) (xs ++ ys) ≡ number (is_at a) xs + number (is_at a) ys = number-append (is_at a) xs ys in
    let two : number t (xs ++ ys) ≡ number t xs + number t ys = number-append t xs ys in
    let fx : number t xs ≤ number (is_at a) xs = number_le t (is_at a) h xs in
    let fy : number t ys ≤ number (is_at a) ys = number_le t (is_at a) h ys in
    let one : number (is_at a) (xs ++ ys) ≤ 1 = single a in
    ⊎_elim
    (λ (yes : list_any (is_at a) ys ≡ true). rw yes (omega (arith, some_number (is_at a) ys yes)))
    (λ (no : list_any (is_at a) ys ≡ false). rw no (omega (arith, none_number (is_at a) ys no)))
    (cases_Bool (list_any (is_at a) ys))

-- the number of the items that a member leaves out goes as the mirror counts
pub counts : (op : Op) (xs ys : List Item) (k : Bool) → IsSingle (xs ++ ys) → is_legal op (xs ++ ys) ≡ true
    → missing_after op ys (cond k (Some (length xs)) None) ≡ cond (k || is_tell op) (Some (length (kept op xs))) None
counts (Publish a b) xs ys true s h = ap Some (sym (kept_all (Publish a b) xs (λ i. refl)))
counts (Publish a b) xs ys false s h = refl
counts (Deliver a) xs ys true s h = ap Some (sym (kept_all (Deliver a) xs (λ i. refl)))
counts (Deliver a) xs ys false s h = refl
counts (Drop a) xs ys true s h =
    let g : number (is_ready_at a.0) xs ≡ cond (list_any (is_at a.0) ys) 0 1 = gone_one (is_ready_at a.0) a.0 xs ys (λ i e. (and_parts (is_at a.0 i) (is_ready i) e).0) s (least_stands a.0 (xs ++ ys) h) in
    ⊎_elim
    (λ (yes : list_any (is_at a.0) ys ≡ true). let z : number (is_ready_at a.0) xs ≡ 0 = rw yes at g in rw yes (ap Some (omega (arith, kept_drop a xs))))
    (λ (no : list_any (is_at a.0) ys ≡ false). let z : number (is_ready_at a.0) xs ≡ 1 = rw no at g in rw no (ap Some (omega (arith, kept_drop a xs))))
    (cases_Bool (list_any (is_at a.0) ys))
counts (Drop a) xs ys false s h = refl
counts (Ack a) xs ys true s h =
    let g : number (is_unacked_at a.0) xs ≡ cond (list_any (is_at a.0) ys) 0 1 = gone_one (is_unacked_at a.0) a.0 xs ys (λ i e. (and_parts (is_at a.0 i) (is_handed i.state) e).0) s (some_number (is_unacked_at a.0) (xs ++ ys) h) in
    ⊎_elim
    (λ (yes : list_any (is_at a.0) ys ≡ true). let z : number (is_unacked_at a.0) xs ≡ 0 = rw yes at g in rw yes (ap Some (omega (arith, kept_ack a xs))))
    (λ (no : list_any (is_at a.0) ys ≡ false). let z : number (is_unacked_at a.0) xs ≡ 1 = rw no at g in rw no (ap Some (omega (arith, kept_ack a xs))))
    (cases_Bool (list_any (is_at a.0) ys))
counts (Ack a) xs ys false s h = refl
counts (Requeue a) xs ys true s h = ap Some (sym (kept_all (Requeue a) xs (λ i. refl)))
counts (Requeue a) xs ys false s h = refl
counts (Depth d) xs ys true s h = ap Some (omega (arith, kept_all (Depth d) xs (λ i. refl), length-append xs ys, eqb-true d (length (xs ++ ys)) h))
counts (Depth d) xs ys false s h = ap Some (omega (arith, kept_all (Depth d) xs (λ i. refl), length-append xs ys, eqb-true d (length (xs ++ ys)) h))
counts (Start d) xs ys true s h = ap Some (omega (arith, kept_all (Start d) xs (λ i. refl), length-append xs ys, eqb-true d (length (xs ++ ys)) h))
counts (Start d) xs ys false s h = ap Some (omega (arith, kept_all (Start d) xs (λ i. refl), length-append xs ys, eqb-true d (length (xs ++ ys)) h))
counts (SyncMark n) xs ys true s h = ap Some (sym (kept_all (SyncMark n) xs (λ i. refl)))
counts (SyncMark n) xs ys false s h = refl

-- ---- the mirror of a member, by what the member has seen

-- the items and the number are those of what was seen; only next is the mirror's own
pub record IsMirrorOf (since : Option ℕ) (l : List Op) (m : MirrorState) : Type 0 where
  pub within : from since ≤ length l
  pub items : m.queue.items ≡ content (from since) l
  pub missing : m.missing ≡ lacks since l

pub content_push : (f : ℕ) (l : List Op) (op : Op) → f ≤ length l → content f (l ++ op ∷ []) ≡ step op (content f l)
content_push f l op le = ap (run []) (drop-append-le f l (op ∷ []) le) ∙ run-append [] (drop f l) (op ∷ [])

pub left_out_push : (f : ℕ) (l : List Op) (op : Op) → f ≤ length l → left_out f (l ++ op ∷ []) ≡ kept op (left_out f l)
left_out_push f l op le = rw (drop-append-le f l (op ∷ []) le, take-append-le f l (op ∷ []) le) (remains-append (queue_of (take f l)) (drop f l) (op ∷ []))

pub told_push : (since : Option ℕ) (l : List Op) (op : Op) → from since ≤ length l → is_told since (l ++ op ∷ []) ≡ (is_told since l || is_tell op)
told_push None l op le = refl
told_push (Some f) l op le =
    ap (list_any is_tell) (drop-append-le f l (op ∷ []) le) ∙ list_any-append is_tell (drop f l) (op ∷ [])
    ∙ elim (list_any is_tell (drop f l)) as (λ b. (b || (is_tell op || false)) ≡ (b || is_tell op)) [ true ↦ refl | false ↦ elim (is_tell op) as (λ b. (b || false) ≡ b) [ true ↦ refl | false ↦ refl ] ]

-- the central step: a mirror takes a legal operation
pub mirror-step : (since : Option ℕ) (l : List Op) (op : Op) (m : MirrorState) → are_legal [] (l ++ op ∷ []) ≡ true → IsMirrorOf since l m → IsMirrorOf since (l ++ op ∷ []) (apply_op m op)
mirror-step since l op m legal h =
    let f : ℕ = from since in
    let is : queue_of l ≡ left_out f l ++ content f l = queue-split f l (legal_front l (op ∷ []) legal) in
    let here : is_legal op (queue_of l) ≡ true = (and_parts (is_legal op (queue_of l)) true (legal_back l (op ∷ []) legal)).0 in
    record {
      within = omega (arith, h.within, length-append l (op ∷ []));
      items = ap (step op) h.items ∙ sym (content_push f l op h.within);
      missing =
          ap (λ xs. missing_after op xs m.missing) h.items ∙ ap (missing_after op (content f l)) h.missing
          ∙ counts op (left_out f l) (content f l) (is_told since l) (subst IsSingle is (queue-single l)) (ap (is_legal op) (sym is) ∙ here)
          ∙ rw (told_push since l op h.within, left_out_push f l op h.within) refl;
    }

-- and some one after another
pub mirror-steps : (since : Option ℕ) (l n : List Op) (m : MirrorState) → are_legal [] (l ++ n) ≡ true → IsMirrorOf since l m → IsMirrorOf since (l ++ n) (apply_ops m n)
mirror-steps since l [] m legal h = rw append-nil h
mirror-steps since l (op ∷ n) m legal h =
    let e : (l ++ op ∷ []) ++ n ≡ l ++ op ∷ n = append_assoc l (op ∷ []) n in
    let k : are_legal [] ((l ++ op ∷ []) ++ n) ≡ true = ap (are_legal []) e ∙ legal in
    subst (λ z. IsMirrorOf since z (apply_ops (apply_op m op) n)) e
    (mirror-steps since (l ++ op ∷ []) n (apply_op m op) k (mirror-step since l op m (legal_front (l ++ op ∷ []) n k) h))
