-- What a member looks at, takes from and sends on.
use Rattle.std.proofs.Common.{◌≡◌, ℕ, ◌<◌, ◌≤◌, Bool, true, false, refl, ap, arith, nat_eq, Option}
use Rattle.queue_mirror.specs.Mirror.{MirrorState}
use Rattle.std.specs.Prelude.{◌&&◌}
use Rattle.ring_rules.specs.Machine.{Up, Member, Link, World, no_member, row_at, member_at, link_at, runs, is_kept, runs_phase}
use Rattle.ring_rules.specs.Rows.{Row}
use Rattle.ring_rules.specs.declared.numbers.Numbers.{Numbers}
use Rattle.ring_rules.proofs.walks.CountedWalk.{when, counted_by, counted, walk}
use Rattle.ring_rules.specs.OpenLinks.{own_number, number}
use Rattle.ring_rules.specs.Step.{size, with_member, with_current, moved_to, look_at}
use Rattle.ring_rules.proofs.rings.Lists.{at_set}
use Rattle.ring_rules.proofs.rings.Weakens.{Weakens}
use Rattle.ring_rules.proofs.walks.Links.{IsOr, kept, gone}
use Rattle.ring_rules.proofs.walks.Back.{Closes, closes_walk}
use Rattle.ring_rules.proofs.invariants.Good.{kept_true, true_kept}

-- ---- what the walk doesn't read: an up member's current link, and every member's out link

pub blind : (w : World) (x p : ℕ) (y : Member) → x < size w → y.phase ≡ (member_at w x).phase → y.version ≡ (member_at w x).version → row_at y p ≡ row_at (member_at w x) p → ((g : Numbers → ℕ) (r : Row → ℕ) → own_number g r w p y.phase y ≡ number g r w p x) → Closes w (with_member w x y) p
blind w x p y l hp hv hr hn = record {
  many = refl;
  senders = λ j. refl;
  is_ring = refl;
  runs_same = λ q. at_set (λ k z. runs_phase z.phase ≡ runs w k) w.members x q y no_member l (ap runs_phase hp) (λ _. refl);
  counts = λ q j. at_set (λ k z. IsOr (counted_by (is_kept w) k z (link_at w j)) (counted w k (link_at w j))) w.members x q y no_member l
      (kept (rw (hp, hv) refl)) (λ _. kept refl);
  own_got = λ q. at_set (λ k z. own_number (λ k. k.got) (λ r. r.got) w p z.phase z ≡ number (λ k. k.got) (λ r. r.got) w p k) w.members x q y no_member l (hn (λ k. k.got) (λ r. r.got)) (λ _. refl);
  own_forgot = λ q. at_set (λ k z. own_number (λ k. k.forgot) (λ r. r.forgot) w p z.phase z ≡ number (λ k. k.forgot) (λ r. r.forgot) w p k) w.members x q y no_member l (hn (λ k. k.forgot) (λ r. r.forgot)) (λ _. refl);
  retires = λ q. at_set (λ k z. (row_at z p).retired ≡ (row_at (member_at w k) p).retired) w.members x q y no_member l (ap (λ a. a.retired) hr) (λ _. refl);
}

-- a member takes from another link, and its mirror is another
abbrev pub settled : Option ℕ → MirrorState → Bool → Member → Member
settled c m b y = record y { current = c; mirror = m; whole = b }

-- pick, takeend, and a copy that is done
pub settled_closes : (w : World) (x p : ℕ) (c : Option ℕ) (m : MirrorState) (b : Bool) → x < size w → (member_at w x).phase ≡ Up → Closes w (with_member w x (settled c m b (member_at w x))) p
settled_closes w x p c m b l up = blind w x p (settled c m b (member_at w x)) l refl refl refl (λ g r. rw up refl)

pub current_closes : (w : World) (x p : ℕ) (c : Option ℕ) → x < size w → (member_at w x).phase ≡ Up → Closes w (with_member w x (with_current c (member_at w x))) p
current_closes w x p c l up = settled_closes w x p c (member_at w x).mirror (member_at w x).whole l up

pub settled_walk : (w : World) (x p : ℕ) (c : Option ℕ) (m : MirrorState) (b : Bool) → x < size w → (member_at w x).phase ≡ Up → Weakens (walk w p) (walk (with_member w x (settled c m b (member_at w x))) p)
settled_walk w x p c m b l up = closes_walk w (with_member w x (settled c m b (member_at w x))) p (settled_closes w x p c m b l up)

pub kept_less : (w : World) (l : Link) (u v : ℕ) → u ≤ v → is_kept w l v ≡ true → is_kept w l u ≡ true
kept_less w l u v le h = kept_true w l u (λ k a b. true_kept w l v h k a (omega arith))

-- a later view keeps fewer links
pub later_counts : (w : World) (x j : ℕ) (y : Member) → (member_at w x).phase ≡ Up → y.phase ≡ Up → (member_at w x).version ≤ y.version → IsOr (counted_by (is_kept w) x y (link_at w j)) (counted w x (link_at w j))
later_counts w x j y up yup le =
    rw (up, yup) (by_case (nat_eq (link_at w j).receiver x) (is_kept w (link_at w j) y.version) (is_kept w (link_at w j) (member_at w x).version) (λ e. kept_less w (link_at w j) (member_at w x).version y.version le e))
  where
    by_case : (a b c : Bool) → (b ≡ true → c ≡ true) → IsOr (when (a && b) (link_at w j).packets) (when (a && c) (link_at w j).packets)
    by_case true true c h = kept (rw (h refl) refl)
    by_case true false c h = gone refl
    by_case false b c h = kept refl

pub look_counts : (w : World) (x v j : ℕ) → (member_at w x).phase ≡ Up → (member_at w x).version ≤ v → IsOr (counted_by (is_kept w) x (moved_to w x v) (link_at w j)) (counted w x (link_at w j))
look_counts w x v j up le = later_counts w x j (moved_to w x v) up up le

pub look_closes : (w : World) (x v p : ℕ) → x < size w → (member_at w x).phase ≡ Up → (member_at w x).version ≤ v → Closes w (look_at w x v) p
look_closes w x v p l up le =
    record {
      many = refl;
      senders = λ j. refl;
      is_ring = refl;
      runs_same = λ q. at_set (λ k z. runs_phase z.phase ≡ runs w k) w.members x q (moved_to w x v) no_member l refl (λ _. refl);
      counts = λ q j. at_set (λ k z. IsOr (counted_by (is_kept w) k z (link_at w j)) (counted w k (link_at w j))) w.members x q (moved_to w x v) no_member l
          (look_counts w x v j up le) (λ _. kept refl);
      own_got = λ q. at_set (λ k z. own_number (λ k. k.got) (λ r. r.got) w p z.phase z ≡ number (λ k. k.got) (λ r. r.got) w p k) w.members x q (moved_to w x v) no_member l (rw up refl) (λ _. refl);
      own_forgot = λ q. at_set (λ k z. own_number (λ k. k.forgot) (λ r. r.forgot) w p z.phase z ≡ number (λ k. k.forgot) (λ r. r.forgot) w p k) w.members x q (moved_to w x v) no_member l (rw up refl) (λ _. refl);
      retires = λ q. at_set (λ k z. (row_at z p).retired ≡ (row_at (member_at w k) p).retired) w.members x q (moved_to w x v) no_member l refl (λ _. refl);
    }

pub look_walk : (w : World) (x v p : ℕ) → x < size w → (member_at w x).phase ≡ Up → (member_at w x).version ≤ v → Weakens (walk w p) (walk (look_at w x v) p)
look_walk w x v p l up le = closes_walk w (look_at w x v) p (look_closes w x v p l up le)
