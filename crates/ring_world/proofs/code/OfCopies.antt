-- The structs of copies and what they show.
use Rattle.std.proofs.Common.{◌≡◌, ℕ, zero, suc, ◌≤◌, ◌<◌, arith, ◌-◌, Bool, true, false, not, List, [], ◌∷◌, ◌++◌, length, map, get_or, set, ◌+◌, Option, Some, None, position, refl, sym, ap, ◌∙◌}
use Rattle.std.specs.Prelude.{◌||◌, take, Result, Ok, Err, OnOk}
use Rattle.std.specs.List.{list_any}
use Rattle.queue_core.specs.declared.message.Message.{Message}
use Rattle.queue_core.specs.declared.message.Message.TheVariants.{Cast, Queue}
use Rattle.queue_core.specs.Queue.{Item, QueueState, no_items}
use Rattle.queue_core.specs.declared.op.Op.{Op}
use Rattle.queue_laws.specs.Part.{ops}
use Rattle.queue_sync.specs.Copy as sync
use Rattle.ring_rules.specs.Refusal.{is_empty}
use Rattle.ring_rules.specs.Machine.{World, no_member, member_at}
use Rattle.ring_rules.specs.Step.{log_of, copied, copied_at}
use Rattle.ring_rules.specs.Rows.{messages_between}
use Rattle.std.proofs.lemmas.List.{ext_get_or, length-map, length-set, get_or-map, take_more}
use Rattle.queue_laws.proofs.Seen.{ops-append}
use Rattle.queue_sync.specs.declared.load.CopyItem.{CopyItem}
use Rattle.queue_sync.specs.Copy.{Load, OneItem, Done, item_of, kept_aside}
use Rattle.ring_copies.specs.Copies.{CopyLink, CopyWorld, no_copy_link, copy_link_at, all_kept, is_put_by, is_taken_by, copy_out, copy_in, copy_put, copy_gained, item_taken, done_taken, dropped, copied_mirror, since_copy, is_blocked_at}
use Rattle.ring_copies.specs.Laws.{items_in}
use Rattle.ring_copies.proofs.Rise.{AreRising, front_rising}
use Rattle.ring_copies.proofs.Brought.{brought}
use Rattle.ring_copies.specs.Events.{is_mark_of, is_done_next, take_load}
use Rattle.ring_copies.proofs.EachCopy.{puts_some}
use Rattle.std.proofs.lemmas.List.Quantifiers.{position-Some}
use Rattle.ring_world.specs.declared.plain_copy.PlainCopy.{PlainCopy}
use Rattle.ring_world.specs.declared.plain_member.PlainMember.{PlainMember}
use Rattle.ring_world.specs.declared.plain_link.PlainLink.{PlainLink}
use Rattle.ring_world.specs.declared.state.Ring.{Ring}
use Rattle.ring_world.specs.Shows.{world_of, member_of, link_of, member_in}
use Rattle.ring_world.specs.Copied.{copy_of, copy_in_list, marks_copy, room_of, HaveRoom, AreCopied}
use Rattle.ring_world.proofs.code.ShownParts.{position_map, mapped_read, mapped_write, mapped_rewrite, at_mapped_set}

-- ---- copies

pub read_copy : (cs : List PlainCopy) (i : ℕ) (c : PlainCopy) → i < length cs → c ≡ get_or cs i c → copy_in_list cs i ≡ copy_of c
read_copy cs i c l e = sym (mapped_read copy_of cs i c no_copy_link l e)

pub rewrite_copy : (cs : List PlainCopy) (i : ℕ) (c d : PlainCopy) → i < length cs → c ≡ get_or cs i c → copy_of d ≡ copy_of c → map copy_of (set cs i d) ≡ map copy_of cs
rewrite_copy cs i c d l e g = mapped_rewrite copy_of cs i c d l e g

pub put_copies : (cs : List PlainCopy) (i : ℕ) (c d : PlainCopy) → i < length cs → c ≡ get_or cs i c → copy_of d ≡ copy_put (copy_of c) → map copy_of (set cs i d) ≡ set (map copy_of cs) i (copy_put (copy_in_list cs i))
put_copies cs i c d l e g = mapped_write copy_of copy_put cs i c d no_copy_link l e g

pub gained_copies : (cs : List PlainCopy) (i : ℕ) (c d : PlainCopy) → i < length cs → c ≡ get_or cs i c → copy_of d ≡ copy_gained (copy_of c) → map copy_of (set cs i d) ≡ set (map copy_of cs) i (copy_gained (copy_in_list cs i))
gained_copies cs i c d l e g = mapped_write copy_of copy_gained cs i c d no_copy_link l e g

pub finished_copies : (cs : List PlainCopy) (i : ℕ) (c d : PlainCopy) (b : Bool) → i < length cs → c ≡ get_or cs i c → copy_of d ≡ done_taken b (copy_of c) → map copy_of (set cs i d) ≡ set (map copy_of cs) i (done_taken b (copy_in_list cs i))
finished_copies cs i c d b l e g = mapped_write copy_of (done_taken b) cs i c d no_copy_link l e g

pub taken_copies : (cs : List PlainCopy) (i : ℕ) (c d : PlainCopy) (b : Bool) (a : Item) → i < length cs → c ≡ get_or cs i c → copy_of d ≡ item_taken b a (copy_of c) → map copy_of (set cs i d) ≡ set (map copy_of cs) i (item_taken b a (copy_in_list cs i))
taken_copies cs i c d b a l e g = mapped_write copy_of (item_taken b a) cs i c d no_copy_link l e g

pub closed_copies : (cs : List PlainCopy) (i : ℕ) (c d : PlainCopy) → i < length cs → c ≡ get_or cs i c → copy_of d ≡ dropped (copy_of c) → map copy_of (set cs i d) ≡ set (map copy_of cs) i (dropped (copy_in_list cs i))
closed_copies cs i c d l e g = mapped_write copy_of dropped cs i c d no_copy_link l e g

pub out_found : (x : ℕ) (cs : List PlainCopy) → position (λ c. is_put_by x (copy_of c)) cs ≡ copy_out (map copy_of cs) x
out_found x cs = sym (position_map (is_put_by x) copy_of cs)

pub in_found : (y : ℕ) (cs : List PlainCopy) → position (λ c. is_taken_by y (copy_of c)) cs ≡ copy_in (map copy_of cs) y
in_found y cs = sym (position_map (is_taken_by y) copy_of cs)

-- ---- marks

any_marks : (n : ℕ) (log : List Message) → list_any (marks_copy n) log ≡ list_any (is_mark_of n) (ops log)
any_marks n [] = refl
any_marks n (Cast body ∷ log) = any_marks n log
any_marks n (Queue o ∷ log) = ap (λ b. is_mark_of n o || b) (any_marks n log)

pub marked : (n : ℕ) (log : List Message) → list_any (marks_copy n) log ≡ list_any (is_mark_of n) (ops log)
marked n log = any_marks n log

-- ---- a member's log and its out link, where they are there

pub none_between : (lo hi : ℕ) → [] ≡ messages_between {A = Message} lo hi []
none_between zero zero = refl
none_between zero (suc hi) = refl
none_between (suc lo) zero = refl
none_between (suc lo) (suc hi) = refl

pub nobody_said : (r : Ring) (id lo hi : ℕ) → id ≡ 0 → [] ≡ messages_between lo hi (log_of (world_of r) id)
nobody_said r id lo hi e = none_between lo hi ∙ ap (λ j. messages_between lo hi (log_of (world_of r) j)) (sym e)

pub said_by : (r : Ring) (id place : ℕ) → 1 ≤ id → place ≡ id - 1 → (member_in r.members.items place).log ≡ log_of (world_of r) id
said_by r zero place some e = absurd (omega (arith, some))
said_by r (suc id) place some e = ap (λ j. (member_in r.members.items j).log) (let same : place ≡ id = omega (arith, e) in same)

pub copied_members : (ms : List PlainMember) (i : ℕ) (x y : PlainMember) (aside : QueueState) (since : List Op) → i < length ms → x ≡ get_or ms i x → member_of y ≡ copied (sync.copied_mirror (member_of x).mirror aside since) (member_of x)
    → map member_of (set ms i y) ≡ set (map member_of ms) i (copied (sync.copied_mirror (member_in ms i).mirror aside since) (member_in ms i))
copied_members ms i x y aside since l e g = mapped_write member_of (λ m. copied (sync.copied_mirror m.mirror aside since) m) ms i x y no_member l e g

-- ---- items that are kept aside, one after another

pub kept_more : (xs : List CopyItem) (k : ℕ) (x : CopyItem) (q : QueueState) → k < length xs → x ≡ get_or xs k x
    → all_kept (map item_of (take (k + 1) xs)) q ≡ kept_aside (item_of x) (all_kept (map item_of (take k xs)) q)
kept_more [] k x q l e = absurd (omega (arith, l))
kept_more (y ∷ xs) zero x q l e = ap (λ i. kept_aside (item_of i) q) (sym e)
kept_more (y ∷ xs) (suc k) x q l e =
    ap (λ n. all_kept (map item_of (take n (y ∷ xs))) q) (let next : suc k + 1 ≡ suc (k + 1) = omega arith in next)
    ∙ kept_more xs k x (kept_aside (item_of y) q) (omega (arith, l)) e

-- the operations among one message more
pub ops_more : (ms : List Message) (k : ℕ) (m : Message) → k < length ms → m ≡ get_or ms k m → ops (take (k + 1) ms) ≡ ops (take k ms) ++ ops (m ∷ [])
ops_more ms k m l e = ap ops (take_more ms k m l) ∙ ops-append (take k ms) (get_or ms k m ∷ []) ∙ ap (λ n. ops (take k ms) ++ ops (n ∷ [])) (sym e)

-- ---- a change of each copy

pub changed_each : (f : CopyLink → CopyLink) (xs ys : List CopyLink) → length ys ≡ length xs → ((j : ℕ) → j < length xs → get_or ys j no_copy_link ≡ f (get_or xs j no_copy_link)) → ys ≡ map f xs
changed_each f xs ys many each = ext_get_or no_copy_link ys (map f xs) (many ∙ sym (length-map xs f)) (λ j l. let there : j < length xs = omega (arith, many, l) in each j there ∙ sym (get_or-map f xs j no_copy_link no_copy_link there))

-- ---- room for grants

-- a change of one copy that takes at most two
pub room_left : (cs : List PlainCopy) (i : ℕ) (x y : PlainCopy) → i < length cs → x ≡ get_or cs i x → HaveRoom 3 cs → room_of x ≤ room_of y + 2 → HaveRoom 1 (set cs i y)
room_left cs i x y l e room few j lj =
    let there : j < length cs = omega (arith, lj, length-set cs i y) in
    let here : room_of x ≡ get_or (map room_of cs) i 0 = mapped_read room_of cs i x 0 l e in
    let some : 3 ≤ get_or (map room_of cs) i 0 = room i l in
    at_mapped_set (λ _ r. 1 ≤ r) room_of cs i j y 0 l (omega (arith, here, some, few)) (λ _. let more : 3 ≤ get_or (map room_of cs) j 0 = room j there in omega (arith, more))

pub less_room : (m n : ℕ) (cs : List PlainCopy) → m ≤ n → HaveRoom n cs → HaveRoom m cs
less_room m n cs le room j lj = let some : n ≤ get_or (map room_of cs) j 0 = room j lj in omega (arith, some, le)

pub always : {T E P : Type 0} (r : Result T E) → P → OnOk r P
always (Ok x) p = p
always (Err e) p = tt

-- ---- the copy on which a member puts

pub puts_there : (cs : List CopyLink) (x i : ℕ) → copy_out cs x ≡ Some i → is_empty (copy_link_at cs i).to_put ≡ false
puts_there cs x i e = puts_some x (copy_link_at cs i) (position-Some (is_put_by x) cs i no_copy_link e).1

-- ---- what is taken, by what is next

pub done_case : (W : CopyWorld) (y i : ℕ) (c : CopyLink) (ls : List Load) (w : World) (cs : List CopyLink) → is_done_next ls ≡ true → w ≡ copied_at W.ring y (copied_mirror W.ring y c)
    → cs ≡ set W.copies i (done_taken (is_blocked_at W.ring y) c) → record { ring = w; copies = cs } ≡ take_load W y i c ls
done_case W y i c (Done ∷ ls) w cs is e f = rw (e, f) refl
done_case W y i c (OneItem a ∷ ls) w cs is e f = cc
done_case W y i c [] w cs is e f = cc

pub item_case : (W : CopyWorld) (y i : ℕ) (c : CopyLink) (ls : List Load) (cs : List CopyLink) → not (is_empty ls) ≡ true → is_done_next ls ≡ false
    → ((a : Item) (l : List Load) → ls ≡ OneItem a ∷ l → cs ≡ set W.copies i (item_taken (is_blocked_at W.ring y) a c)) → record { ring = W.ring; copies = cs } ≡ take_load W y i c ls
item_case W y i c (Done ∷ ls) cs some item f = cc
item_case W y i c (OneItem a ∷ ls) cs some item f = ap (λ (k : List CopyLink). record { ring = W.ring; copies = k }) (f a ls refl)
item_case W y i c [] cs some item f = cc

pub end_case : (W : CopyWorld) (y i : ℕ) (c : CopyLink) (ls : List Load) (cs : List CopyLink) → not (is_empty ls) ≡ false → cs ≡ set W.copies i (dropped c) → record { ring = W.ring; copies = cs } ≡ take_load W y i c ls
end_case W y i c (l ∷ ls) cs none f = cc
end_case W y i c [] cs none f = ap (λ (k : List CopyLink). record { ring = W.ring; copies = k }) f

-- ---- what was brought

-- what a receiver makes of the items that it has kept aside is what the copy makes of its mirror
pub brought_at : (W : CopyWorld) (y i : ℕ) → AreCopied W → i < length W.copies
    → sync.copied_mirror (member_at W.ring y).mirror (all_kept (copy_link_at W.copies i).aside no_items) (since_copy W.ring y (copy_link_at W.copies i)) ≡ copied_mirror W.ring y (copy_link_at W.copies i)
brought_at W y i a l =
    let c : CopyLink = copy_link_at W.copies i in
    let k = a.rise i l in
    let front : AreRising c.aside = front_rising c.aside (items_in (c.loads ++ c.to_put)) k in
    brought W.ring y c (a.some y) front.0 front.1
