-- What a taken packet does to the structs.
use Rattle.std.proofs.Common.{◌≡◌, ℕ, zero, suc, ◌<◌, ◌≤◌, Bool, true, false, List, [], ◌∷◌, length, map, get_or, set, drop, take, max, refl, sym, ap, ◌∙◌, arith}
use Rattle.std.specs.List.{range_with_len}
use Rattle.std.proofs.lemmas.List.FromFn.{get_or-map-range_with_len, length-map-range_with_len}
use Rattle.std.proofs.lemmas.List.{length-map, map-set}
use Rattle.queue_core.specs.declared.message.Message.{Message}
use Rattle.ring_rules.specs.declared.numbers.Numbers.{Numbers}
use Rattle.ring_rules.specs.Rows.{Row, brought, taken_with}
use Rattle.group_view.specs.View.{Group}
use Rattle.group_view.specs.Since.{no_group}
use Rattle.ring_world.specs.declared.plain_link.PlainLink.{PlainLink}
use Rattle.ring_world.specs.declared.state.Ring.{Ring}
use Rattle.ring_world.specs.declared.plain_member.PlainMember.{PlainMember}
use Rattle.ring_world.specs.declared.plain_member.Brought.{Brought}
use Rattle.ring_rules.specs.Machine.{Packet, Member, Link, World, no_link, no_member, row_at, numbers_at, oldest}
use Rattle.ring_rules.specs.Step.{is_owned, taken, begun, popped, take_from, begin_from, news_of as brought_operations}
use Rattle.queue_laws.specs.Part.{ops}
use Rattle.std.proofs.lemmas.List.Folds.{flat_map-map}
use Rattle.ring_world.specs.Placed.{IsPlaced}
use Rattle.ring_world.specs.Shows.{world_of, link_of, link_in, member_of, member_in, news_of, news_at, no_news, news_in, with_news, operations_in, News}
use Rattle.ring_rules.proofs.rings.Maps.{map-range_same}
use Rattle.ring_world.proofs.code.ShownParts.{mapped_read, mapped_write, mapped_rewrite}

abbrev nothing : List Message
nothing = []

take_none : (n : ℕ) → take n nothing ≡ []
take_none zero = refl
take_none (suc n) = refl

drop_none : (n : ℕ) → drop n nothing ≡ []
drop_none zero = refl
drop_none (suc n) = refl

-- an empty log brings nothing
pub nobody_brings : (own : Bool) (r : Row) (k : Numbers) → brought own [] r k ≡ []
nobody_brings true r k = refl
nobody_brings false r k = ap (drop (max k.lo r.got)) (take_none k.got) ∙ drop_none (max k.lo r.got)

-- what a packet brings of one origin, and whether the taker answers for that
pub brought_news : (v : Group) (ms : List Member) (y s : ℕ) (k : Packet) (p : ℕ) (b : Brought) (n : Numbers) → b.own ≡ is_owned v y s p → n ≡ numbers_at k p → b.messages.items ≡ brought b.own (get_or ms p no_member).log (row_at (get_or ms y no_member) p) n → news_of b ≡ news_at v ms y s k p
brought_news v ms y s k p b n own en em =
    let told : Bool → Numbers → News = λ o m. record no_news { own = o; messages = brought o (get_or ms p no_member).log (row_at (get_or ms y no_member) p) m } in
    ap (λ (news : List Message). record no_news { own = b.own; messages = news }) em ∙ ap (λ o. told o n) own ∙ ap (told (is_owned v y s p)) en

abbrev pub all_of : List PlainMember → List Member
all_of members = no_member ∷ map member_of members

abbrev pub logs_of : List PlainMember → ℕ → List Message
logs_of members p = (get_or (all_of members) p no_member).log

pub news_count : (members : List PlainMember) (v : Group) (y s : ℕ) (k : Packet) (n : ℕ) (news : List Brought) → map news_of news ≡ map (news_at v (all_of members) y s k) (range_with_len 0 n) → length news ≡ n
news_count members v y s k n news e = sym (length-map news news_of) ∙ ap length e ∙ length-map-range_with_len (news_at v (all_of members) y s k) 0 n

-- the operations that are taken are those of the machine's take
news_operations : (members : List PlainMember) (i s n : ℕ) (v : Group) (k : Packet) (news : List Brought) → map news_of news ≡ map (news_at v (all_of members) (suc i) s k) (range_with_len 0 n) → operations_in (map news_of news) ≡ brought_operations n (is_owned v (suc i) s) (logs_of members) (member_in members i) k
news_operations members i s n v k news en = ap operations_in en ∙ flat_map-map (λ (b : News). ops b.messages) (news_at v (all_of members) (suc i) s k) (range_with_len 0 n)

-- the rows that are written are those of the machine's take
pub taken_member : (members : List PlainMember) (i s m n : ℕ) (v : Group) (x y : PlainMember) (k : Packet) (news : List Brought) → i < length members → x ≡ get_or members i x → map news_of news ≡ map (news_at v (all_of members) (suc i) s k) (range_with_len 0 n) → m ≡ n → member_of y ≡ with_news (member_of x) (map (λ p. taken_with (news_in news p).own (row_at (member_of x) p) (numbers_at k p) (news_in news p).messages) (range_with_len 0 m)) (operations_in (map news_of news)) → member_of y ≡ taken n (is_owned v (suc i) s) (logs_of members) (member_in members i) k
taken_member members i s m n v x y k news l e en em ey =
    let member : member_of x ≡ member_in members i = mapped_read member_of members i x no_member l e in
    let f : Member → ℕ → Row = λ z p. taken_with (is_owned v (suc i) s p) (row_at z p) (numbers_at k p) (brought (is_owned v (suc i) s p) (logs_of members p) (row_at z p) (numbers_at k p)) in
    let rows : List Row = map (λ p. taken_with (is_owned v (suc i) s p) (row_at (member_of x) p) (numbers_at k p) (brought (is_owned v (suc i) s p) (logs_of members p) (row_at (member_in members i) p) (numbers_at k p))) (range_with_len 0 n) in
    ey ∙ ap (λ rs. with_news (member_of x) rs (operations_in (map news_of news)))
    (ap (λ j. map (λ p. taken_with (news_in news p).own (row_at (member_of x) p) (numbers_at k p) (news_in news p).messages) (range_with_len 0 j)) em
    ∙ map-range_same _ (λ p. taken_with (is_owned v (suc i) s p) (row_at (member_of x) p) (numbers_at k p) (brought (is_owned v (suc i) s p) (logs_of members p) (row_at (member_in members i) p) (numbers_at k p))) n
    (λ p pl.
    let here : news_in news p ≡ news_at v (all_of members) (suc i) s k p = ap (λ zs. get_or zs p no_news) en ∙ get_or-map-range_with_len (news_at v (all_of members) (suc i) s k) 0 n p p no_news pl (omega arith) in
    ap (λ (b : News). taken_with b.own (row_at (member_of x) p) (numbers_at k p) b.messages) here))
    ∙ ap (with_news (member_of x) rows) (news_operations members i s n v k news en)
    ∙ ap (λ z. with_news z (map (λ p. taken_with (is_owned v (suc i) s p) (row_at z p) (numbers_at k p) (brought (is_owned v (suc i) s p) (logs_of members p) (row_at (member_in members i) p) (numbers_at k p))) (range_with_len 0 n)) (brought_operations n (is_owned v (suc i) s) (logs_of members) (member_in members i) k)) member

pub taken_members : (members : List PlainMember) (i s m n : ℕ) (v : Group) (x y : PlainMember) (k : Packet) (news : List Brought) → i < length members → x ≡ get_or members i x → map news_of news ≡ map (news_at v (all_of members) (suc i) s k) (range_with_len 0 n) → m ≡ n → member_of y ≡ with_news (member_of x) (map (λ p. taken_with (news_in news p).own (row_at (member_of x) p) (numbers_at k p) (news_in news p).messages) (range_with_len 0 m)) (operations_in (map news_of news)) → map member_of (set members i y) ≡ set (map member_of members) i (taken n (is_owned v (suc i) s) (logs_of members) (member_in members i) k)
taken_members members i s m n v x y k news l e en em ey = map-set member_of members i y ∙ ap (set (map member_of members) i) (taken_member members i s m n v x y k news l e en em ey)

-- the state after a take
pub take_ring : (r : Ring) (i s : ℕ) (x : PlainMember) (l z : PlainLink) (v : Group) (members' : List PlainMember) → i < length r.members.items → x ≡ get_or r.members.items i x → v ≡ get_or (no_group ∷ r.views.items) x.version no_group → s < length r.links.items → l ≡ get_or r.links.items s l
    → map member_of members' ≡ set (map member_of r.members.items) i (taken (suc (length r.members.items)) (is_owned v (suc i) l.sender) (logs_of r.members.items) (member_in r.members.items i) (oldest (link_of l)))
    → link_of z ≡ popped (link_of l)
    → record (world_of r) { members = no_member ∷ map member_of members'; links = map link_of (set r.links.items s z) } ≡ take_from (world_of r) (suc i) s
take_ring r i s x l z v members' il ex ev sl el em ez =
    let members = r.members.items in
    let links = r.links.items in
    let member : member_of x ≡ member_in members i = mapped_read member_of members i x no_member il ex in
    let link : link_of l ≡ link_in links s = mapped_read link_of links s l no_link sl el in
    let sizes : suc (length members) ≡ suc (length (map member_of members)) = ap suc (sym (length-map members member_of)) in
    let views : v ≡ get_or (no_group ∷ r.views.items) (member_in members i).version no_group = ev ∙ ap (λ y. get_or (no_group ∷ r.views.items) y.version no_group) member in
    let after : ℕ → Group → Link → Member = λ n g k. taken n (is_owned g (suc i) k.sender) (logs_of members) (member_in members i) (oldest k) in
    let state : List Member → List Link → World = λ ms ks. record (world_of r) { members = no_member ∷ ms; links = ks } in
    ap (λ ms. state ms (map link_of (set links s z))) em
    ∙ ap (λ ks. state (set (map member_of members) i (after (suc (length members)) v (link_of l))) ks) (mapped_write link_of popped links s l z no_link sl el ez)
    ∙ ap (λ n. state (set (map member_of members) i (after n v (link_of l))) (set (map link_of links) s (popped (link_in links s)))) sizes
    ∙ ap (λ g. state (set (map member_of members) i (after (suc (length (map member_of members))) g (link_of l))) (set (map link_of links) s (popped (link_in links s)))) views
    ∙ ap (λ k. state (set (map member_of members) i (after (suc (length (map member_of members))) (get_or (no_group ∷ r.views.items) (member_in members i).version no_group) k)) (set (map link_of links) s (popped (link_in links s)))) link

-- and after the first take of a member that waits
pub begin_ring : (r : Ring) (i s : ℕ) (l z : PlainLink) (members' : List PlainMember) → s < length r.links.items → l ≡ get_or r.links.items s l
    → map member_of members' ≡ set (map member_of r.members.items) i (begun (suc (length r.members.items)) (member_in r.members.items i) (oldest (link_of l)))
    → link_of z ≡ popped (link_of l)
    → record (world_of r) { members = no_member ∷ map member_of members'; links = map link_of (set r.links.items s z) } ≡ begin_from (world_of r) (suc i) s
begin_ring r i s l z members' sl el em ez =
    let members = r.members.items in
    let links = r.links.items in
    let link : link_of l ≡ link_in links s = mapped_read link_of links s l no_link sl el in
    let sizes : suc (length members) ≡ suc (length (map member_of members)) = ap suc (sym (length-map members member_of)) in
    let after : ℕ → Link → Member = λ n k. begun n (member_in members i) (oldest k) in
    let state : Member → List Link → World = λ m ks. record (world_of r) { members = no_member ∷ set (map member_of members) i m; links = ks } in
    ap (λ ms. record (world_of r) { members = no_member ∷ ms; links = map link_of (set links s z) }) em
    ∙ ap (λ ks. state (after (suc (length members)) (link_of l)) ks) (mapped_write link_of popped links s l z no_link sl el ez)
    ∙ ap (λ n. state (after n (link_of l)) (set (map link_of links) s (popped (link_in links s)))) sizes
    ∙ ap (λ k. state (after (suc (length (map member_of members))) k) (set (map link_of links) s (popped (link_in links s)))) link

-- a member has no more rows than there are members
pub few_rows : (r : Ring) (i : ℕ) → IsPlaced (world_of r) → i < length r.members.items → length (member_in r.members.items i).rows ≤ suc (length r.members.items)
few_rows r i h l =
    let many = length-map r.members.items member_of in
    let fits : length (member_in r.members.items i).rows ≤ suc (length (map member_of r.members.items)) = h.rows (suc i) (omega arith) (omega (arith, many)) in
    omega (arith, many, fits)

-- and after one for which memory wanted
pub same_ring : (r : Ring) (s : ℕ) (l z : PlainLink) (members' : List PlainMember) → s < length r.links.items → l ≡ get_or r.links.items s l → map member_of members' ≡ map member_of r.members.items → link_of z ≡ link_of l
    → record (world_of r) { members = no_member ∷ map member_of members'; links = map link_of (set r.links.items s z) } ≡ world_of r
same_ring r s l z members' sl el em ez =
    ap (λ ms. record (world_of r) { members = no_member ∷ ms; links = map link_of (set r.links.items s z) }) em
    ∙ ap (λ ks. record (world_of r) { links = ks }) (mapped_rewrite link_of r.links.items s l z sl el ez)
