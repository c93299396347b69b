-- Two states that differ in one member's rows alone, and what steps do to both.
use Rattle.std.proofs.Common.{◌≡◌, ◌≢◌, ℕ, ◌+◌, ◌-◌, ◌<◌, ◌≤◌, Bool, true, false, nat_eq, List, [], ◌∷◌, ◌++◌, length, map, get_or, set, Option, Some, None, refl, sym, ap, subst, ◌∙◌, ⊎_elim, if◌then◌else◌, arith}
use Rattle.std.specs.List.{range_with_len, flat_map}
use Rattle.std.proofs.lemmas.Bool.{cases_eq, cases_lt}
use Rattle.std.proofs.lemmas.List.{length-set, length_push, get_or-set_other, get_or-set_same, get_or_append_left, get_or_push}
use Rattle.queue_core.specs.declared.message.Message.{Message}
use Rattle.queue_core.specs.declared.op.Op.{Op}
use Rattle.queue_mirror.specs.Mirror.{MirrorState, apply_ops}
use Rattle.queue_laws.specs.Part.{ops}
use Rattle.group_view.specs.View.{Group}
use Rattle.ring_rules.specs.Rows.{Row, born_row, brought, taken_row}
use Rattle.ring_rules.specs.Machine.{Member, Moved, Halted, Link, World, no_link, no_member, row_at, numbers_at, member_at, link_at, view_in, newest, is_kept, is_kept_of, oldest}
use Rattle.ring_rules.specs.Step.{copied, copied_at, size, log_of, taker, begun, is_owned, with_member, with_link, with_view, look_at, moved_to, kept_current, open_to, opened_link, ended, end_out, joiner, admitted_view, come_to, current_is, with_current}
use Rattle.ring_rules.specs.Event.{send_to, refreshed}
use Rattle.ring_rules.specs.View.{right_of}
use Rattle.ring_rules.proofs.rings.Lists.{at_set, get_or_beyond}
use Rattle.ring_rules.proofs.rings.Maps.{map-range_same, flat-range_same}

-- v is w but for the rows of x
pub record Like (w v : World) (x : ℕ) : Type 0 where
  pub many : size v ≡ size w
  pub links : v.links ≡ w.links
  pub views : v.views ≡ w.views
  pub initial : v.initial ≡ w.initial
  pub more : v.more ≡ w.more
  pub others : (z : ℕ) → z ≢ x → member_at v z ≡ member_at w z
  pub phase : (member_at v x).phase ≡ (member_at w x).phase
  pub version : (member_at v x).version ≡ (member_at w x).version
  pub log : (member_at v x).log ≡ (member_at w x).log
  pub out : (member_at v x).out ≡ (member_at w x).out
  pub current : (member_at v x).current ≡ (member_at w x).current

-- a state and itself
pub like_same : (w : World) (x : ℕ) → Like w w x
like_same w x = record { many = refl; links = refl; views = refl; initial = refl; more = refl; others = λ z ne. refl; phase = refl; version = refl; log = refl; out = refl; current = refl }

-- two members that differ in rows alone
pub record LikeMember (m m' : Member) : Type 0 where
  pub phase : m'.phase ≡ m.phase
  pub version : m'.version ≡ m.version
  pub log : m'.log ≡ m.log
  pub out : m'.out ≡ m.out
  pub current : m'.current ≡ m.current

module _ (w v : World) (x : ℕ) (h : Like w v x) where
  -- the links
  pub like_link : (s : ℕ) → link_at v s ≡ link_at w s
  like_link s = ap (λ ls. get_or ls s no_link) h.links

  -- each field of each member
  pub like_phase : (z : ℕ) → (member_at v z).phase ≡ (member_at w z).phase
  like_phase z = ⊎_elim (λ (is : z ≡ x). subst (λ k. (member_at v k).phase ≡ (member_at w k).phase) (sym is) h.phase) (λ (ne : z ≢ x). ap (λ a. a.phase) (h.others z ne)) (cases_eq z x)

  pub like_version : (z : ℕ) → (member_at v z).version ≡ (member_at w z).version
  like_version z = ⊎_elim (λ (is : z ≡ x). subst (λ k. (member_at v k).version ≡ (member_at w k).version) (sym is) h.version) (λ (ne : z ≢ x). ap (λ a. a.version) (h.others z ne)) (cases_eq z x)

  pub like_log : (z : ℕ) → log_of v z ≡ log_of w z
  like_log z = ⊎_elim (λ (is : z ≡ x). subst (λ k. log_of v k ≡ log_of w k) (sym is) h.log) (λ (ne : z ≢ x). ap (λ a. a.log) (h.others z ne)) (cases_eq z x)

  pub like_out : (z : ℕ) → (member_at v z).out ≡ (member_at w z).out
  like_out z = ⊎_elim (λ (is : z ≡ x). subst (λ k. (member_at v k).out ≡ (member_at w k).out) (sym is) h.out) (λ (ne : z ≢ x). ap (λ a. a.out) (h.others z ne)) (cases_eq z x)

  pub like_current : (z : ℕ) → (member_at v z).current ≡ (member_at w z).current
  like_current z = ⊎_elim (λ (is : z ≡ x). subst (λ k. (member_at v k).current ≡ (member_at w k).current) (sym is) h.current) (λ (ne : z ≢ x). ap (λ a. a.current) (h.others z ne)) (cases_eq z x)

  pub like_newest : newest v ≡ newest w
  like_newest = ap (λ vs. length vs - 1) h.views

  pub like_view : (u : ℕ) → view_in v u ≡ view_in w u
  like_view u = ap (λ vs. view_in (record w { views = vs }) u) h.views

  pub like_kept : (s u : ℕ) → is_kept v (link_at v s) u ≡ is_kept w (link_at w s) u
  like_kept s u = ap (λ (l : Link). is_kept_of v.views l.receiver l.sender l.opened u) (like_link s) ∙ ap (λ vs. is_kept_of vs (link_at w s).receiver (link_at w s).sender (link_at w s).opened u) h.views

  -- ---- steps

  -- another member is written
  pub like_member : (a : ℕ) (m m' : Member) → a ≢ x → a < size w → m' ≡ m → Like (with_member w a m) (with_member v a m') x
  like_member a m m' ne lt e = subst (λ k. Like (with_member w a m) (with_member v a k) x) (sym e) (record {
    many = length-set v.members a m ∙ h.many ∙ sym (length-set w.members a m);
    links = h.links;
    views = h.views;
    initial = h.initial;
    more = h.more;
    others = λ z nz. at_set (λ i k. i ≢ x → k ≡ get_or (set w.members a m) i no_member) v.members a z m no_member (omega (arith, h.many))
        (λ _. sym (get_or-set_same w.members a m no_member lt))
        (λ nza nzx. h.others z nzx ∙ sym (get_or-set_other w.members a z m no_member nza)) nz;
    phase = ap (λ k. k.phase) here2 ∙ h.phase ∙ ap (λ k. k.phase) (sym here);
    version = ap (λ k. k.version) here2 ∙ h.version ∙ ap (λ k. k.version) (sym here);
    log = ap (λ k. k.log) here2 ∙ h.log ∙ ap (λ k. k.log) (sym here);
    out = ap (λ k. k.out) here2 ∙ h.out ∙ ap (λ k. k.out) (sym here);
    current = ap (λ k. k.current) here2 ∙ h.current ∙ ap (λ k. k.current) (sym here);
  })
    where
      nx : x ≢ a
      nx is = ne (sym is)

      here : get_or (set w.members a m) x no_member ≡ member_at w x
      here = get_or-set_other w.members a x m no_member nx

      here2 : get_or (set v.members a m) x no_member ≡ member_at v x
      here2 = get_or-set_other v.members a x m no_member nx

  -- x itself is written
  pub like_me : (m m' : Member) → x < size w → LikeMember m m' → Like (with_member w x m) (with_member v x m') x
  like_me m m' lt k = record {
    many = length-set v.members x m' ∙ h.many ∙ sym (length-set w.members x m);
    links = h.links;
    views = h.views;
    initial = h.initial;
    more = h.more;
    others = λ z nz. get_or-set_other v.members x z m' no_member nz ∙ h.others z nz ∙ sym (get_or-set_other w.members x z m no_member nz);
    phase = ap (λ a. a.phase) here2 ∙ k.phase ∙ ap (λ a. a.phase) (sym here);
    version = ap (λ a. a.version) here2 ∙ k.version ∙ ap (λ a. a.version) (sym here);
    log = ap (λ a. a.log) here2 ∙ k.log ∙ ap (λ a. a.log) (sym here);
    out = ap (λ a. a.out) here2 ∙ k.out ∙ ap (λ a. a.out) (sym here);
    current = ap (λ a. a.current) here2 ∙ k.current ∙ ap (λ a. a.current) (sym here);
  }
    where
      here : get_or (set w.members x m) x no_member ≡ m
      here = get_or-set_same w.members x m no_member lt

      here2 : get_or (set v.members x m') x no_member ≡ m'
      here2 = get_or-set_same v.members x m' no_member (omega (arith, h.many))

  -- the links change alike
  pub like_links : (ls ls' : List Link) → ls' ≡ ls → Like (record w { links = ls }) (record v { links = ls' }) x
  like_links ls ls' e = record { many = h.many; links = e; views = h.views; initial = h.initial; more = h.more; others = h.others; phase = h.phase; version = h.version; log = h.log; out = h.out; current = h.current }

  -- one link is written
  pub like_one : (s : ℕ) (l l' : Link) → l' ≡ l → Like (with_link w s l) (with_link v s l') x
  like_one s l l' e = like_links (set w.links s l) (set v.links s l') (ap (λ k. set v.links s k) e ∙ ap (λ ls. set ls s l) h.links)

  -- a view more
  pub like_viewed : (g : Group) → Like (with_view w g) (with_view v g) x
  like_viewed g = record { many = h.many; links = h.links; views = ap (λ vs. vs ++ g ∷ []) h.views; initial = h.initial; more = h.more; others = h.others; phase = h.phase; version = h.version; log = h.log; out = h.out; current = h.current }

  -- what another member is after a look
  like_moved : (a ver : ℕ) → a ≢ x → moved_to v a ver ≡ moved_to w a ver
  like_moved a ver ne =
      ap (λ (k : Member). record k { version = ver; current = kept_current (λ s. is_kept v (link_at v s) ver) k.current }) (h.others a ne)
      ∙ ap (λ (ls : List Link). record (member_at w a) { version = ver; current = kept_current (λ s. is_kept_of v.views (get_or ls s no_link).receiver (get_or ls s no_link).sender (get_or ls s no_link).opened ver) (member_at w a).current }) h.links
      ∙ ap (λ (vs : List Group). record (member_at w a) { version = ver; current = kept_current (λ s. is_kept_of vs (link_at w s).receiver (link_at w s).sender (link_at w s).opened ver) (member_at w a).current }) h.views

  pub like_look : (a ver : ℕ) → a ≢ x → a < size w → Like (look_at w a ver) (look_at v a ver) x
  like_look a ver ne lt = like_member a (moved_to w a ver) (moved_to v a ver) ne lt (like_moved a ver ne)

  -- and what x is
  pub like_my_look : (ver : ℕ) → x < size w → Like (look_at w x ver) (look_at v x ver) x
  like_my_look ver lt = like_me (moved_to w x ver) (moved_to v x ver) lt (record {
    phase = h.phase;
    version = refl;
    log = h.log;
    out = h.out;
    current = ap (kept_current (λ s. is_kept v (link_at v s) ver)) h.current
        ∙ ap (λ (ls : List Link). kept_current (λ s. is_kept_of v.views (get_or ls s no_link).receiver (get_or ls s no_link).sender (get_or ls s no_link).opened ver) (member_at w x).current) h.links
        ∙ ap (λ (vs : List Group). kept_current (λ s. is_kept_of vs (link_at w s).receiver (link_at w s).sender (link_at w s).opened ver) (member_at w x).current) h.views;
  })

  -- another taker
  pub like_taker : (y s : ℕ) → y ≢ x → taker v y s ≡ taker w y s
  like_taker y s ne =
      ap (λ (k : Member). made v k (link_at v s) (size v)) (h.others y ne)
      ∙ ap (λ (l : Link). made v (member_at w y) l (size v)) (like_link s)
      ∙ ap (λ (n : ℕ). made v (member_at w y) (link_at w s) n) h.many
      ∙ ap (λ (rs : List Row). record (made v (member_at w y) (link_at w s) (size w)) { rows = rs })
      (map-range_same (λ p. row v (member_at w y) (link_at w s) p) (λ p. row w (member_at w y) (link_at w s) p) (size w)
      (λ p _. ap (λ (g : Group). taken_row (is_owned g y (link_at w s).sender p) (log_of v p) (row_at (member_at w y) p) (numbers_at (oldest (link_at w s)) p)) (like_view (member_at w y).version)
      ∙ ap (λ (l : List Message). taken_row (is_owned (view_in w (member_at w y).version) y (link_at w s).sender p) l (row_at (member_at w y) p) (numbers_at (oldest (link_at w s)) p)) (like_log p)))
      ∙ ap (λ (os : List Op). record (made w (member_at w y) (link_at w s) (size w)) { mirror = apply_ops (member_at w y).mirror os })
      (flat-range_same (λ p. brings v (member_at w y) (link_at w s) p) (λ p. brings w (member_at w y) (link_at w s) p) 0 (size w)
      (λ p _. ap (λ (g : Group). ops (brought (is_owned g y (link_at w s).sender p) (log_of v p) (row_at (member_at w y) p) (numbers_at (oldest (link_at w s)) p))) (like_view (member_at w y).version)
      ∙ ap (λ (l : List Message). ops (brought (is_owned (view_in w (member_at w y).version) y (link_at w s).sender p) l (row_at (member_at w y) p) (numbers_at (oldest (link_at w s)) p))) (like_log p)))
    where
      row : World → Member → Link → ℕ → Row
      row u k l p = taken_row (is_owned (view_in u k.version) y l.sender p) (log_of u p) (row_at k p) (numbers_at (oldest l) p)

      brings : World → Member → Link → ℕ → List Op
      brings u k l p = ops (brought (is_owned (view_in u k.version) y l.sender p) (log_of u p) (row_at k p) (numbers_at (oldest l) p))

      made : World → Member → Link → ℕ → Member
      made u k l n = record k { rows = map (λ p. row u k l p) (range_with_len 0 n); mirror = apply_ops k.mirror (flat_map (λ p. brings u k l p) (range_with_len 0 n)) }

  pub like_begun : (y s : ℕ) → y ≢ x → begun (size v) (member_at v y) (oldest (link_at v s)) ≡ begun (size w) (member_at w y) (oldest (link_at w s))
  like_begun y s ne =
      ap (λ (n : ℕ). begun n (member_at v y) (oldest (link_at v s))) h.many
      ∙ ap (λ (k : Member). begun (size w) k (oldest (link_at v s))) (h.others y ne)
      ∙ ap (λ (l : Link). begun (size w) (member_at w y) (oldest l)) (like_link s)

  -- the link that another opens
  pub like_opened : (a z : ℕ) → a ≢ x → Like (record w { links = w.links ++ opened_link w a z ∷ [] }) (record v { links = v.links ++ opened_link v a z ∷ [] }) x
  like_opened a z ne =
      like_links (w.links ++ opened_link w a z ∷ []) (v.links ++ opened_link v a z ∷ [])
      (ap (λ k. v.links ++ k ∷ []) (rw (h.others a ne, h.initial, h.more) refl) ∙ ap (λ ls. ls ++ opened_link w a z ∷ []) h.links)

-- another opens a link
pub like_open : (w v : World) (x a z : ℕ) → Like w v x → a ≢ x → a < size w → Like (open_to w a z) (open_to v a z) x
like_open w v x a z h ne lt =
    like_member (record w { links = w.links ++ opened_link w a z ∷ [] }) (record v { links = v.links ++ opened_link v a z ∷ [] }) x (like_opened w v x h a z ne)
    a (record (member_at w a) { out = Some (length w.links) }) (record (member_at v a) { out = Some (length v.links) }) ne lt
    (ap (λ (n : ℕ). record (member_at v a) { out = Some n }) (ap length h.links) ∙ ap (λ (k : Member). record k { out = Some (length w.links) }) (h.others a ne))

-- another sends to its right neighbour
pub like_send : (w v : World) (x a z : ℕ) (out : Option ℕ) → Like w v x → a ≢ x → a < size w → Like (send_to w a z out) (send_to v a z out) x
like_send w v x a z None h ne lt = like_open w v x a z h ne lt
like_send w v x a z (Some o) h ne lt =
    subst (λ b. Like (send_to w a z (Some o)) (if b then v else open_to (with_link v o (ended Moved (link_at v o))) a z) x) (ap (λ (l : Link). nat_eq l.receiver z) (sym (like_link w v x h o)))
    (by_receiver (nat_eq (link_at w o).receiver z))
  where
    by_receiver : (b : Bool) → Like (if b then w else open_to (with_link w o (ended Moved (link_at w o))) a z) (if b then v else open_to (with_link v o (ended Moved (link_at v o))) a z) x
    by_receiver true = h
    by_receiver false = like_open _ _ x a z (like_one w v x h o (ended Moved (link_at w o)) (ended Moved (link_at v o)) (ap (ended Moved) (like_link w v x h o))) ne lt

-- one that joins
pub like_come : (w v : World) (x m : ℕ) (name : List ℕ) → Like w v x → x < size w → Like (come_to w m name) (come_to v m name) x
like_come w v x m name h lt = record {
  many = length_push v.members (joiner v name) ∙ ap (λ n. n + 1) h.many ∙ sym (length_push w.members (joiner w name));
  links = h.links;
  views = ap (λ (vs : List Group). vs ++ admitted_view (record v { views = vs }) m name ∷ []) h.views;
  initial = h.initial;
  more = h.more;
  others = λ z ne. ⊎_elim
      (λ (l : z < size w). get_or_append_left v.members (joiner v name ∷ []) no_member z (omega (arith, h.many)) ∙ h.others z ne ∙ sym (get_or_append_left w.members (joiner w name ∷ []) no_member z l))
      (λ (ge : size w ≤ z). ⊎_elim
      (λ (is : z ≡ size w). get_or_push v.members (joiner v name) no_member z (omega (arith, h.many, is)) ∙ joins ∙ sym (get_or_push w.members (joiner w name) no_member z (sym is)))
      (λ (d : z ≢ size w). get_or_beyond (v.members ++ joiner v name ∷ []) z no_member (omega (arith, length_push v.members (joiner v name), h.many)) ∙ sym (get_or_beyond (w.members ++ joiner w name ∷ []) z no_member (omega (arith, length_push w.members (joiner w name)))))
      (cases_eq z (size w)))
      (cases_lt z (size w));
  phase = ap (λ a. a.phase) here2 ∙ h.phase ∙ ap (λ a. a.phase) (sym here);
  version = ap (λ a. a.version) here2 ∙ h.version ∙ ap (λ a. a.version) (sym here);
  log = ap (λ a. a.log) here2 ∙ h.log ∙ ap (λ a. a.log) (sym here);
  out = ap (λ a. a.out) here2 ∙ h.out ∙ ap (λ a. a.out) (sym here);
  current = ap (λ a. a.current) here2 ∙ h.current ∙ ap (λ a. a.current) (sym here);
}
  where
    here : member_at (come_to w m name) x ≡ member_at w x
    here = get_or_append_left w.members (joiner w name ∷ []) no_member x lt

    here2 : member_at (come_to v m name) x ≡ member_at v x
    here2 = get_or_append_left v.members (joiner v name ∷ []) no_member x (omega (arith, h.many))

    made : ℕ → List Row → ℕ → Member
    made version rows s = record (joiner w name) { version = version; rows = rows; current = Some s }

    joins : joiner v name ≡ joiner w name
    joins =
        ap (λ (n : ℕ). made n (map (λ p. born_row (log_of v p)) (range_with_len 0 (size v + 1))) (length v.links)) (ap length h.views)
        ∙ ap (λ (n : ℕ). made (length w.views) (map (λ p. born_row (log_of v p)) (range_with_len 0 (n + 1))) (length v.links)) h.many
        ∙ ap (λ (rs : List Row). made (length w.views) rs (length v.links)) (map-range_same (λ p. born_row (log_of v p)) (λ p. born_row (log_of w p)) (size w + 1) (λ p _. ap born_row (like_log w v x h p)))
        ∙ ap (λ (n : ℕ). made (length w.views) (map (λ p. born_row (log_of w p)) (range_with_len 0 (size w + 1))) n) (ap length h.links)

-- another refreshes
pub like_refreshed : (w v : World) (x a ver : ℕ) → Like w v x → a ≢ x → a < size w → Like (refreshed w a ver) (refreshed v a ver) x
like_refreshed w v x a ver h ne lt =
    subst (λ g. Like (refreshed w a ver) (send_to (look_at v a ver) a (right_of g a) (member_at v a).out) x) (sym (like_view w v x h ver))
    (subst (λ k. Like (refreshed w a ver) (send_to (look_at v a ver) a (right_of (view_in w ver) a) k.out) x) (sym (h.others a ne))
    (like_send (look_at w a ver) (look_at v a ver) x a (right_of (view_in w ver) a) (member_at w a).out (like_look w v x h a ver ne lt) ne (omega (arith, length-set w.members a (moved_to w a ver)))))

-- the rows of x alone are other ones
pub like_rows : (w v : World) (x : ℕ) (m : Member) → Like w v x → x < size w → LikeMember m (member_at w x) → Like (with_member w x m) v x
like_rows w v x m h lt k = record {
  many = h.many ∙ sym (length-set w.members x m);
  links = h.links;
  views = h.views;
  initial = h.initial;
  more = h.more;
  others = λ z nz. h.others z nz ∙ sym (get_or-set_other w.members x z m no_member nz);
  phase = h.phase ∙ k.phase ∙ ap (λ a. a.phase) (sym (get_or-set_same w.members x m no_member lt));
  version = h.version ∙ k.version ∙ ap (λ a. a.version) (sym (get_or-set_same w.members x m no_member lt));
  log = h.log ∙ k.log ∙ ap (λ a. a.log) (sym (get_or-set_same w.members x m no_member lt));
  out = h.out ∙ k.out ∙ ap (λ a. a.out) (sym (get_or-set_same w.members x m no_member lt));
  current = h.current ∙ k.current ∙ ap (λ a. a.current) (sym (get_or-set_same w.members x m no_member lt));
}

-- somebody takes from another link, or from none
pub like_current_is : (w v : World) (x y : ℕ) (c : Option ℕ) → Like w v x → y < size w → Like (current_is w y c) (current_is v y c) x
like_current_is w v x y c h lt = ⊎_elim
    (λ (is : x ≡ y). subst (λ k. k < size w → Like (current_is w k c) (current_is v k c) x) is (λ l. like_me w v x h (with_current c (member_at w x)) (with_current c (member_at v x)) l (record { phase = h.phase; version = h.version; log = h.log; out = h.out; current = refl })) lt)
    (λ (ne : x ≢ y). let na : y ≢ x = λ is. ne (sym is) in like_member w v x h y (with_current c (member_at w y)) (with_current c (member_at v y)) na lt (ap (with_current c) (h.others y na)))
    (cases_eq x y)

-- somebody's mirror is the one that a copy has made
pub like_copied : (w v : World) (x y : ℕ) (m : MirrorState) → Like w v x → y < size w → Like (copied_at w y m) (copied_at v y m) x
like_copied w v x y m h lt = ⊎_elim
    (λ (is : x ≡ y). subst (λ k. k < size w → Like (copied_at w k m) (copied_at v k m) x) is (λ l. like_me w v x h (copied m (member_at w x)) (copied m (member_at v x)) l (record { phase = h.phase; version = h.version; log = h.log; out = h.out; current = h.current })) lt)
    (λ (ne : x ≢ y). let na : y ≢ x = λ is. ne (sym is) in like_member w v x h y (copied m (member_at w y)) (copied m (member_at v y)) na lt (ap (copied m) (h.others y na)))
    (cases_eq x y)

-- the out link of another ends
pub like_end : (w v : World) (x : ℕ) (out : Option ℕ) → Like w v x → Like (end_out Halted w out) (end_out Halted v out) x
like_end w v x None h = h
like_end w v x (Some o) h = like_one w v x h o (ended Halted (link_at w o)) (ended Halted (link_at v o)) (ap (ended Halted) (like_link w v x h o))
