-- What holds in every state of every run.
use Rattle.std.proofs.Common.{◌≡◌, ◌≢◌, ℕ, ◌<◌, ◌≤◌, ⊎_elim, true, false, [], ◌+◌, ◌-◌, List, ◌∷◌, length, sym, ap, subst, ◌∙◌, arith, nat_eq, Some, is_some}
use Rattle.std.proofs.lemmas.Bool.{cases_lt, false≢true}
use Rattle.ring_rules.specs.Refusal.{is_empty}
use Rattle.group_view.proofs.Lists.{all_range, at_range}
use Rattle.group_view.proofs.Rings.{nat_eq-is, nat_eq-same}
use Rattle.ring_rules.specs.View.{ids, is_live}
use Rattle.group_view.specs.Ring.{first_or, is_in, AreDistinct}
use Rattle.ring_rules.specs.Machine.{ring, is_kept_of, Waiting, Link, World, member_at, link_at, view_in, newest, left, right, runs, is_kept, row_at}
use Rattle.ring_rules.specs.OpenLinks.{FallsFrom, NeverRises}
use Rattle.ring_rules.specs.Step.{size}
use Rattle.ring_rules.proofs.rings.Weakens.{FallsTo, Weakens, FallsFrom-FallsTo, FallsTo-FallsFrom}

-- ---- the numbers fall round the ring

-- the receiver has had the sender at its left in each view up to v
abbrev pub Kept : World → Link → ℕ → Type 0
Kept w l v = (u : ℕ) → l.opened ≤ u → u ≤ v → left w u l.receiver ≡ l.sender

-- ---- of views and members alone

pub record IsRing (w : World) : Type 0 where
  pub some : 0 < length w.views
  pub distinct : (v : ℕ) → v ≤ newest w → AreDistinct (ids (view_in w v))
  pub held : (x : ℕ) → (member_at w x).version ≤ newest w
  -- a running member stands live in each view from its own on
  pub stands : (x v : ℕ) → runs w x ≡ true → (member_at w x).version ≤ v → v ≤ newest w → is_in x (ids (view_in w v)) ≡ true
  pub lives : (x v : ℕ) → runs w x ≡ true → (member_at w x).version ≤ v → v ≤ newest w → is_live (view_in w v) x ≡ true
  -- nobody comes between a running member and its right neighbour unless by itself
  pub front : (x v u : ℕ) → runs w x ≡ true → (member_at w x).version ≤ v → v ≤ u → u ≤ newest w → left w u (right w v x) ≡ x

-- ---- of links

-- who runs stands in the newest ring, and lives there
pub stands_now : (w : World) → IsRing w → (y : ℕ) → runs w y ≡ true → is_in y (ring w) ≡ true
stands_now w h y r = h.stands y (newest w) r (h.held y) (omega arith)

pub lives_now : (w : World) → IsRing w → (y : ℕ) → runs w y ≡ true → is_live (view_in w (newest w)) y ≡ true
lives_now w h y r = h.lives y (newest w) r (h.held y) (omega arith)

pub record IsLinked (w : World) : Type 0 where
  pub opened : (s : ℕ) → s < length w.links → (link_at w s).opened ≤ newest w
  pub from_left : (s : ℕ) → s < length w.links → left w (link_at w s).opened (link_at w s).receiver ≡ (link_at w s).sender
  pub seen : (s : ℕ) → s < length w.links → (link_at w s).opened ≤ (member_at w (link_at w s).sender).version
  -- an earlier link to a member isn't kept up to the opening of a later one
  pub period : (i j : ℕ) → i < j → j < length w.links → (link_at w i).receiver ≡ (link_at w j).receiver → is_kept w (link_at w i) (link_at w j).opened ≡ false
  pub out_lt : (x o : ℕ) → runs w x ≡ true → (member_at w x).out ≡ Some o → o < length w.links
  pub out_from : (x o : ℕ) → runs w x ≡ true → (member_at w x).out ≡ Some o → (link_at w o).sender ≡ x
  pub out_to : (x o : ℕ) → runs w x ≡ true → (member_at w x).out ≡ Some o → (link_at w o).receiver ≡ right w (member_at w x).version x
  pub out_kept : (x o : ℕ) → runs w x ≡ true → (member_at w x).out ≡ Some o → Kept w (link_at w o) (member_at w x).version
  -- a link that its running sender has as kept is its out link
  pub is_out : (s : ℕ) → s < length w.links → runs w (link_at w s).sender ≡ true → Kept w (link_at w s) (member_at w (link_at w s).sender).version → is_live (view_in w (member_at w (link_at w s).sender).version) (link_at w s).receiver ≡ true → (member_at w (link_at w s).sender).out ≡ Some s

pub record IsWaitingRight (w : World) : Type 0 where
  -- a waiting member's current link has its first packet
  pub first : (y s : ℕ) → (member_at w y).phase ≡ Waiting → (member_at w y).current ≡ Some s → is_empty (link_at w s).packets ≡ false
  pub mine : (y s : ℕ) → (member_at w y).phase ≡ Waiting → (member_at w y).current ≡ Some s → (link_at w s).receiver ≡ y
  pub admission : (y s : ℕ) → (member_at w y).phase ≡ Waiting → s < length w.links → (link_at w s).receiver ≡ y → (link_at w s).opened ≡ (member_at w y).version → is_empty (link_at w s).packets ≡ false

-- what a member that waits has: a current link, opened at its version, and nothing else
pub record IsJoining (w : World) : Type 0 where
  pub some : (y : ℕ) → (member_at w y).phase ≡ Waiting → is_some (member_at w y).current ≡ true
  pub opened : (y s : ℕ) → (member_at w y).phase ≡ Waiting → (member_at w y).current ≡ Some s → (link_at w s).opened ≡ (member_at w y).version
  pub rows : (y p : ℕ) → (member_at w y).phase ≡ Waiting → ((row_at (member_at w y) p).got ≡ 0) × ((row_at (member_at w y) p).forgot ≡ 0)

-- ---- kept links

pub kept_true : (w : World) (l : Link) (v : ℕ) → Kept w l v → is_kept w l v ≡ true
unfolding is_kept_of
kept_true w l v h =
    all_range (λ u. nat_eq (left w u l.receiver) l.sender) l.opened (v + 1 - l.opened)
    (λ u a b. subst (λ q. nat_eq q l.sender ≡ true) (sym (h u a (omega arith))) (nat_eq-same l.sender))

pub true_kept : (w : World) (l : Link) (v : ℕ) → is_kept w l v ≡ true → Kept w l v
unfolding is_kept_of
true_kept w l v h = λ u a b. nat_eq-is (left w u l.receiver) l.sender (at_range (λ u. nat_eq (left w u l.receiver) l.sender) l.opened (v + 1 - l.opened) u h a (omega arith))

-- the out link of a running member is kept up to the newest view
pub out_stays : (w : World) (x o : ℕ) → IsRing w → IsLinked w → runs w x ≡ true → (member_at w x).out ≡ Some o → Kept w (link_at w o) (newest w)
out_stays w x o hr hl rx e = λ u a b.
    ⊎_elim
    (λ (early : u < (member_at w x).version). hl.out_kept x o rx e u a (omega arith))
    (λ (late : (member_at w x).version ≤ u). ap (left w u) (hl.out_to x o rx e) ∙ hr.front x (member_at w x).version u rx (omega arith) late b ∙ sym (hl.out_from x o rx e))
    (cases_lt u (member_at w x).version)

-- and the newest link to its receiver
pub out_newest : (w : World) (x o j : ℕ) → IsRing w → IsLinked w → runs w x ≡ true → (member_at w x).out ≡ Some o → o < j → j < length w.links → (link_at w j).receiver ≢ (link_at w o).receiver
out_newest w x o j hr hl rx e l m same =
    false≢true (sym (hl.period o j l m (sym same)) ∙ kept_true w (link_at w o) (link_at w j).opened (λ u a b. out_stays w x o hr hl rx e u a (omega (arith, hl.opened j m))))

-- ---- the walk of a later state

pub NeverRises-FallsTo : (xs : List ℕ) → NeverRises xs → FallsTo (first_or 0 xs) xs 0
NeverRises-FallsTo [] h = omega arith
NeverRises-FallsTo (x ∷ xs) h = (omega arith, FallsFrom-FallsTo x xs h)

pub FallsFrom-NeverRises : (a : ℕ) (xs : List ℕ) → FallsFrom a xs → NeverRises xs
FallsFrom-NeverRises a [] h = tt
FallsFrom-NeverRises a (x ∷ xs) h = h.1

pub never_rises_still : (xs ys : List ℕ) → Weakens xs ys → NeverRises xs → NeverRises ys
never_rises_still xs ys k h = FallsFrom-NeverRises (first_or 0 xs) ys (FallsTo-FallsFrom (first_or 0 xs) ys 0 (k (first_or 0 xs) 0 (NeverRises-FallsTo xs h)))

-- each member has a row for each id
abbrev pub HasRows : World → Type 0
HasRows w = (q : ℕ) → 1 ≤ q → q < size w → length (member_at w q).rows ≡ size w
