-- The structs and what they show.
use Rattle.std.proofs.Common.{◌≡◌, ℕ, zero, suc, ◌≤◌, arith, ◌-◌, List, ◌∷◌, length, map, get_or, set, ◌<◌, sym, ap, ◌∙◌}
use Rattle.queue_core.specs.declared.message.Message.{Message}
use Rattle.ring_rules.specs.Rows.{no_row, published_row}
use Rattle.ring_world.specs.declared.plain_member.KnownOrigin.{KnownOrigin}
use Rattle.ring_world.specs.declared.plain_member.PlainMember.{PlainMember}
use Rattle.ring_world.specs.declared.plain_link.PlainLink.{PlainLink}
use Rattle.std.specs.Prelude.{Option}
use Rattle.ring_rules.specs.Machine.{Packet, Member, no_member, no_link}
use Rattle.ring_rules.specs.declared.phase.Ending.{Ending}
use Rattle.ring_rules.specs.Step.{published, begun, with_current, stopped, pushed, next_packet, finished, ended}
use Rattle.ring_world.specs.Shows.{row_of, member_of, link_of, row_in, member_in, link_in, gained_on, looked, with_out}
pub use Rattle.ring_rules.proofs.rings.Maps.{position_map, mapped_read, mapped_write, mapped_rewrite, at_mapped_set}

-- ---- reads

pub read_row : (rows : List KnownOrigin) (i : ℕ) (x : KnownOrigin) → i < length rows → x ≡ get_or rows i x → row_in rows i ≡ row_of x
read_row rows i x l e = sym (mapped_read row_of rows i x no_row l e)

pub read_member : (members : List PlainMember) (i : ℕ) (x : PlainMember) → i < length members → x ≡ get_or members i x → member_in members i ≡ member_of x
read_member members i x l e = sym (mapped_read member_of members i x no_member l e)

pub read_link : (links : List PlainLink) (i : ℕ) (x : PlainLink) → i < length links → x ≡ get_or links i x → link_in links i ≡ link_of x
read_link links i x l e = sym (mapped_read link_of links i x no_link l e)

-- ---- writes that show nothing

pub rewrite_row : (rows : List KnownOrigin) (i : ℕ) (x y : KnownOrigin) → i < length rows → x ≡ get_or rows i x → row_of y ≡ row_of x → map row_of (set rows i y) ≡ map row_of rows
rewrite_row rows i x y l e g = mapped_rewrite row_of rows i x y l e g

pub rewrite_member : (members : List PlainMember) (i : ℕ) (x y : PlainMember) → i < length members → x ≡ get_or members i x → member_of y ≡ member_of x → map member_of (set members i y) ≡ map member_of members
rewrite_member members i x y l e g = mapped_rewrite member_of members i x y l e g

pub rewrite_link : (links : List PlainLink) (i : ℕ) (x y : PlainLink) → i < length links → x ≡ get_or links i x → link_of y ≡ link_of x → map link_of (set links i y) ≡ map link_of links
rewrite_link links i x y l e g = mapped_rewrite link_of links i x y l e g

-- ---- publishing

pub published_rows : (rows : List KnownOrigin) (i : ℕ) (x y : KnownOrigin) (m : Message) → i < length rows → x ≡ get_or rows i x → row_of y ≡ published_row (row_of x) m → map row_of (set rows i y) ≡ set (map row_of rows) i (published_row (row_in rows i) m)
published_rows rows i x y m l e g = mapped_write row_of (λ r. published_row r m) rows i x y no_row l e g

-- ---- views

-- the view of a version, among those from version 1 on
pub view_read : {A : Type 0} (nobody d : A) (views : List A) (v : ℕ) → 1 ≤ v → get_or (nobody ∷ views) v d ≡ get_or views (v - 1) d
view_read nobody d views zero l = absurd (omega arith)
view_read nobody d views (suc v) l = ap (λ k. get_or views k d) (let same : v ≡ suc v - 1 = omega arith in same)

-- ---- members that change

pub published_members : (members : List PlainMember) (i id : ℕ) (x y : PlainMember) (m : Message) → i < length members → x ≡ get_or members i x → member_of y ≡ published id m (member_of x) → map member_of (set members i y) ≡ set (map member_of members) i (published id m (member_in members i))
published_members members i id x y m l e g = mapped_write member_of (published id m) members i x y no_member l e g

pub current_members : (members : List PlainMember) (i : ℕ) (x y : PlainMember) (s : Option ℕ) → i < length members → x ≡ get_or members i x → member_of y ≡ with_current s (member_of x) → map member_of (set members i y) ≡ set (map member_of members) i (with_current s (member_in members i))
current_members members i x y s l e g = mapped_write member_of (with_current s) members i x y no_member l e g

pub stopped_members : (members : List PlainMember) (i : ℕ) (x y : PlainMember) → i < length members → x ≡ get_or members i x → member_of y ≡ stopped (member_of x) → map member_of (set members i y) ≡ set (map member_of members) i (stopped (member_in members i))
stopped_members members i x y l e g = mapped_write member_of stopped members i x y no_member l e g

pub begun_members : (members : List PlainMember) (i n m : ℕ) (x y : PlainMember) (k : Packet) → i < length members → x ≡ get_or members i x → n ≡ m → member_of y ≡ begun n (member_of x) k → map member_of (set members i y) ≡ set (map member_of members) i (begun m (member_in members i) k)
begun_members members i n m x y k l e same g = mapped_write member_of (λ z. begun m z k) members i x y no_member l e (g ∙ ap (λ j. begun j (member_of x) k) same)

-- ---- links that change

pub pushed_links : (links : List PlainLink) (i : ℕ) (x y : PlainLink) (m : Member) → i < length links → x ≡ get_or links i x → link_of y ≡ pushed (link_of x) (next_packet m (link_of x).sending) → map link_of (set links i y) ≡ set (map link_of links) i (pushed (link_in links i) (next_packet m (link_in links i).sending))
pushed_links links i x y m l e g = mapped_write link_of (λ z. pushed z (next_packet m z.sending)) links i x y no_link l e g

pub gained_links : (links : List PlainLink) (i : ℕ) (x y : PlainLink) → i < length links → x ≡ get_or links i x → link_of y ≡ gained_on (link_of x) → map link_of (set links i y) ≡ set (map link_of links) i (gained_on (link_in links i))
gained_links links i x y l e g = mapped_write link_of gained_on links i x y no_link l e g

pub finished_links : (links : List PlainLink) (i : ℕ) (x y : PlainLink) → i < length links → x ≡ get_or links i x → link_of y ≡ finished (link_of x) → map link_of (set links i y) ≡ set (map link_of links) i (finished (link_in links i))
finished_links links i x y l e g = mapped_write link_of finished links i x y no_link l e g

pub ended_links : (links : List PlainLink) (i : ℕ) (x y : PlainLink) (why : Ending) → i < length links → x ≡ get_or links i x → link_of y ≡ ended why (link_of x) → map link_of (set links i y) ≡ set (map link_of links) i (ended why (link_in links i))
ended_links links i x y why l e g = mapped_write link_of (ended why) links i x y no_link l e g

pub looked_members : (members : List PlainMember) (i v : ℕ) (x y : PlainMember) (s : Option ℕ) → i < length members → x ≡ get_or members i x → member_of y ≡ looked v s (member_of x) → map member_of (set members i y) ≡ set (map member_of members) i (looked v s (member_in members i))
looked_members members i v x y s l e g = mapped_write member_of (looked v s) members i x y no_member l e g

pub sending_members : (members : List PlainMember) (i : ℕ) (x y : PlainMember) (o : Option ℕ) → i < length members → x ≡ get_or members i x → member_of y ≡ with_out o (member_of x) → map member_of (set members i y) ≡ set (map member_of members) i (with_out o (member_in members i))
sending_members members i x y o l e g = mapped_write member_of (with_out o) members i x y no_member l e g
