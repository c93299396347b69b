-- What leaves rows, logs, phases and the counted numbers, and what is then heard and recorded.
use Rattle.std.proofs.Common.{◌≡◌, ℕ, zero, suc, ◌<◌, ◌+◌, List, [], ◌∷◌, ◌++◌, length, set, get_or, refl, sym, ap, ◌∙◌, arith, Option, Some, None}
use Rattle.std.specs.List.{flat_map, range_with_len}
use Rattle.std.proofs.lemmas.List.{length-set, length_push, get_or_append_left}
use Rattle.ring_rules.specs.declared.numbers.Numbers.{Numbers}
use Rattle.ring_rules.specs.declared.phase.Phase.{Phase}
use Rattle.ring_rules.specs.declared.phase.Phase.TheVariants.{Waiting, Up, Stopped}
use Rattle.ring_rules.specs.declared.phase.Ending.{Ending}
use Rattle.ring_rules.specs.declared.phase.Ending.TheVariants.{Moved}
use Rattle.ring_rules.specs.Rows.{Row, no_row}
use Rattle.ring_rules.specs.Machine.{Member, Link, World, no_link, no_member, no_packet, numbers_at, member_at, link_at, view_in, oldest}
use Rattle.ring_rules.specs.View.{right_of}
use Rattle.ring_rules.specs.Step.{size, with_member, with_link, put_on, gain_on, current_is, with_current, leave_link, finished, open_to, look_at, moved_to, ended, end_out, opened_link}
use Rattle.ring_rules.specs.Event.{refreshed}
use Rattle.ring_rules.specs.Lawful.{row_of}
use Rattle.ring_rules.specs.OpenLinks.{first_packet, own_number, number}
use Rattle.ring_rules.proofs.rings.Lists.{at_set}
use Rattle.ring_rules.proofs.events.Leaves.{member_leaves, link_leaves}
use Rattle.ring_rules.proofs.events.Composed.{end_composed, refresh_composed}
use Rattle.ring_rules.proofs.walks.Put.{number_pushed}
use Rattle.ring_rules.proofs.invariants.Happens.{IsGood}
use Rattle.ring_rules.specs.QueuePart.{got_of}

-- ---- counted numbers

-- the number of a member that is as it was, for one that waits with the packet that it takes first
pub number_alike : (g : Numbers → ℕ) (r : Row → ℕ) (w w' : World) (p q : ℕ) → (member_at w' q).phase ≡ (member_at w q).phase → (member_at w' q).rows ≡ (member_at w q).rows
    → ((member_at w q).phase ≡ Waiting → (member_at w' q).current ≡ (member_at w q).current)
    → ((s : ℕ) → (member_at w q).phase ≡ Waiting → (member_at w q).current ≡ Some s → oldest (link_at w' s) ≡ oldest (link_at w s))
    → number g r w' p q ≡ number g r w p q
number_alike g r w w' p q phase rows current first = ap (λ f. own_number g r w' p f (member_at w' q)) phase ∙ by_phase (member_at w q).phase refl
  where
    by_current : (c : Option ℕ) → ((s : ℕ) → c ≡ Some s → oldest (link_at w' s) ≡ oldest (link_at w s)) → first_packet w' c ≡ first_packet w c
    by_current None h = refl
    by_current (Some s) h = h s refl

    by_phase : (f : Phase) → (member_at w q).phase ≡ f → own_number g r w' p f (member_at w' q) ≡ own_number g r w p f (member_at w q)
    by_phase Waiting e = ap (λ c. g (numbers_at (first_packet w' c) p)) (current e) ∙ ap (λ k. g (numbers_at k p)) (by_current (member_at w q).current (λ s c. first s e c))
    by_phase Up e = ap (λ rs. r (get_or rs p no_row)) rows
    by_phase Stopped e = ap (λ rs. r (get_or rs p no_row)) rows

-- ---- what is as before

-- the members' rows, logs, phases, counted numbers and mirrors
pub record IsLike (w w' : World) : Type 0 where
  pub many : size w' ≡ size w
  pub rows : (q : ℕ) → (member_at w' q).rows ≡ (member_at w q).rows
  pub log : (q : ℕ) → (member_at w' q).log ≡ (member_at w q).log
  pub phase : (q : ℕ) → (member_at w' q).phase ≡ (member_at w q).phase
  pub got : (q p : ℕ) → got_of w' q p ≡ got_of w q p
  pub mirror : (q : ℕ) → (member_at w' q).mirror ≡ (member_at w q).mirror
  pub whole : (q : ℕ) → (member_at w' q).whole ≡ (member_at w q).whole

-- and the views
pub record IsQuiet (w w' : World) : Type 0 where
  pub like : IsLike w w'
  pub views : w'.views ≡ w.views

pub quiet_same : (w : World) → IsQuiet w w
quiet_same w = record { like = record { many = refl; rows = λ q. refl; log = λ q. refl; phase = λ q. refl; got = λ q p. refl; mirror = λ q. refl; whole = λ q. refl }; views = refl }

pub quiet_then : (w w' w'' : World) → IsQuiet w w' → IsQuiet w' w'' → IsQuiet w w''
quiet_then w w' w'' a b = record {
  like = record { many = b.like.many ∙ a.like.many; rows = λ q. b.like.rows q ∙ a.like.rows q; log = λ q. b.like.log q ∙ a.like.log q; phase = λ q. b.like.phase q ∙ a.like.phase q; got = λ q p. b.like.got q p ∙ a.like.got q p; mirror = λ q. b.like.mirror q ∙ a.like.mirror q; whole = λ q. b.like.whole q ∙ a.like.whole q };
  views = b.views ∙ a.views;
}

-- members as they are, and links with the same oldest packets
pub links_quiet : (w : World) (ls : List Link) → ((q s : ℕ) → (member_at w q).phase ≡ Waiting → (member_at w q).current ≡ Some s → oldest (get_or ls s no_link) ≡ oldest (link_at w s)) → IsQuiet w (record w { links = ls })
links_quiet w ls h = record {
  like = record {
    many = refl;
    rows = λ q. refl;
    log = λ q. refl;
    phase = λ q. refl;
    got = λ q p. number_alike (λ k. k.got) (λ r. r.got) w (record w { links = ls }) p q refl refl (λ _. refl) (λ s e c. h q s e c);
    mirror = λ q. refl;
    whole = λ q. refl;
  };
  views = refl;
}

-- a link with the same packets
pub link_quiet : (w : World) (s : ℕ) (l : Link) → l.packets ≡ (link_at w s).packets → IsQuiet w (with_link w s l)
link_quiet w s l same = links_quiet w (set w.links s l) (λ q t _ _. link_leaves (λ _ a b. oldest b ≡ oldest a) w s l (ap (λ ks. get_or ks 0 no_packet) same) (λ _. refl) t)

-- who is up doesn't wait
pub not_both : (f : Phase) → f ≡ Up → f ≡ Waiting → ⊥
not_both Waiting a b = cc
not_both Up a b = cc
not_both Stopped a b = cc

-- a member that is up, with the same rows and log
pub member_quiet : (w : World) (x : ℕ) (y : Member) → x < size w → (member_at w x).phase ≡ Up → y.phase ≡ Up → y.rows ≡ (member_at w x).rows → y.log ≡ (member_at w x).log → y.mirror ≡ (member_at w x).mirror → y.whole ≡ (member_at w x).whole → IsQuiet w (with_member w x y)
member_quiet w x y lt up f rs l mi wh = record {
  like = record {
    many = length-set w.members x y;
    rows = λ q. member_leaves (λ _ a b. b.rows ≡ a.rows) w x y rs (λ _. refl) q;
    log = λ q. member_leaves (λ _ a b. b.log ≡ a.log) w x y l (λ _. refl) q;
    phase = phase;
    got = λ q p. number_alike (λ k. k.got) (λ r. r.got) w (with_member w x y) p q (phase q)
        (member_leaves (λ _ a b. b.rows ≡ a.rows) w x y rs (λ _. refl) q)
        (λ e. member_leaves (λ _ a b. a.phase ≡ Waiting → b.current ≡ a.current) w x y (λ e2. absurd (not_both (member_at w x).phase up e2)) (λ _ _. refl) q e)
        (λ s _ _. refl);
    mirror = λ q. member_leaves (λ _ a b. b.mirror ≡ a.mirror) w x y mi (λ _. refl) q;
    whole = λ q. member_leaves (λ _ a b. b.whole ≡ a.whole) w x y wh (λ _. refl) q;
  };
  views = refl;
}
  where
    phase : (q : ℕ) → (member_at (with_member w x y) q).phase ≡ (member_at w q).phase
    phase q = member_leaves (λ _ a b. b.phase ≡ a.phase) w x y (f ∙ sym up) (λ _. refl) q

-- ---- events that the queue doesn't see

pub put_quiet : (w : World) (x o : ℕ) → IsGood w → o < length w.links → IsQuiet w (put_on w x o)
put_quiet w x o g lt = record {
  like = record { many = refl; rows = λ q. refl; log = λ q. refl; phase = λ q. refl; got = λ q p. number_pushed (λ k. k.got) (λ r. r.got) w o p q _ lt g.inv.waiting; mirror = λ q. refl; whole = λ q. refl };
  views = refl;
}

pub gain_quiet : (w : World) (o : ℕ) → IsQuiet w (gain_on w o)
gain_quiet w o = link_quiet w o _ refl

pub current_quiet : (w : World) (y : ℕ) (s : Option ℕ) → y < size w → (member_at w y).phase ≡ Up → IsQuiet w (current_is w y s)
current_quiet w y s lt up = member_quiet w y (with_current s (member_at w y)) lt up up refl refl refl refl

pub leave_quiet : (w : World) (y s : ℕ) → y < size w → (member_at w y).phase ≡ Up → IsQuiet w (leave_link w y s)
leave_quiet w y s lt up = quiet_then w (current_is w y None) (leave_link w y s) (current_quiet w y None lt up) (link_quiet (current_is w y None) s (finished (link_at w s)) refl)

pub end_quiet : (why : Ending) (w : World) (o : Option ℕ) → IsQuiet w (end_out why w o)
end_quiet why w o = end_composed (IsQuiet w) why w o (λ k e h. quiet_then w w (with_link w k (ended why (link_at w k))) h (link_quiet w k (ended why (link_at w k)) refl)) (quiet_same w)

-- x may look: it is up, and who waits takes from a link that is there
pub record IsLooking (w : World) (x : ℕ) : Type 0 where
  pub lt : x < size w
  pub up : (member_at w x).phase ≡ Up
  pub there : (q s : ℕ) → (member_at w q).phase ≡ Waiting → (member_at w q).current ≡ Some s → s < length w.links

-- a state on the way of a refresh
record OnWay (w : World) (x : ℕ) (u : World) : Type 0 where
  pub quiet : IsQuiet w u
  pub lt : x < size u
  pub up : (member_at u x).phase ≡ Up
  pub there : (q s : ℕ) → (member_at u q).phase ≡ Waiting → (member_at u q).current ≡ Some s → s < length u.links

open_quiet : (u : World) (x z : ℕ) → x < size u → (member_at u x).phase ≡ Up → ((q s : ℕ) → (member_at u q).phase ≡ Waiting → (member_at u q).current ≡ Some s → s < length u.links) → IsQuiet u (open_to u x z)
open_quiet u x z lt up there =
    quiet_then u w1 (open_to u x z)
    (links_quiet u (u.links ++ opened_link u x z ∷ []) (λ q s e c. ap oldest (get_or_append_left u.links (opened_link u x z ∷ []) no_link s (there q s e c))))
    (member_quiet w1 x (record (member_at u x) { out = Some (length u.links) }) lt up up refl refl refl refl)
  where
    w1 : World
    w1 = record u { links = u.links ++ opened_link u x z ∷ [] }

pub refreshed_quiet : (w : World) (x v : ℕ) → IsLooking w x → IsQuiet w (refreshed w x v)
refreshed_quiet w x v k = (refresh_composed (OnWay w x) w x v
    (λ o e h. record {
      quiet = quiet_then w (look_at w x v) _ h.quiet (link_quiet (look_at w x v) o (ended Moved (link_at w o)) refl);
      lt = h.lt;
      up = h.up;
      there = λ q s e2 c. omega (arith, h.there q s e2 c, length-set w.links o (ended Moved (link_at w o)));
    })
    (λ u e h. record {
      quiet = quiet_then w u _ h.quiet (open_quiet u x (right_of (view_in w v) x) h.lt h.up h.there);
      lt = omega (arith, h.lt, length-set u.members x (record (member_at u x) { out = Some (length u.links) }));
      up = at_set (λ i a. i ≡ x → a.phase ≡ Up) u.members x x (record (member_at u x) { out = Some (length u.links) }) no_member h.lt (λ _. h.up) (λ d i. absurd (d i)) refl;
      there = λ q s e2 c.
          let a = member_leaves (λ _ a b. b.phase ≡ Waiting → b.current ≡ Some s → (a.phase ≡ Waiting) × (a.current ≡ Some s)) u x (record (member_at u x) { out = Some (length u.links) }) (λ m n. (m, n)) (λ _ m n. (m, n)) q e2 c in
          omega (arith, h.there q s a.0 a.1, length_push u.links (opened_link u x (right_of (view_in w v) x)));
    })
    (record {
      quiet = member_quiet w x (moved_to w x v) k.lt k.up k.up refl refl refl refl;
      lt = omega (arith, k.lt, length-set w.members x (moved_to w x v));
      up = at_set (λ i a. i ≡ x → a.phase ≡ Up) w.members x x (moved_to w x v) no_member k.lt (λ _. k.up) (λ d i. absurd (d i)) refl;
      there = λ q s e2 c.
          let a = member_leaves (λ _ a b. b.phase ≡ Waiting → b.current ≡ Some s → (a.phase ≡ Waiting) × (a.current ≡ Some s)) w x (moved_to w x v) (λ m n. absurd (not_both (member_at w x).phase k.up m)) (λ _ m n. (m, n)) q e2 c in
          k.there q s a.0 a.1;
    })).quiet

-- ---- lists

pub flat_nil : {A : Type 0} (f : ℕ → List A) (a n : ℕ) → ((p : ℕ) → p < a + n → f p ≡ []) → flat_map f (range_with_len a n) ≡ []
flat_nil f a zero h = refl
flat_nil f a (suc n) h = rw (h a (omega arith)) (flat_nil f (a + 1) n (λ p lt. h p (omega arith)))

pub flat_same : {A : Type 0} (f g : ℕ → List A) (a n : ℕ) → ((p : ℕ) → f p ≡ g p) → flat_map f (range_with_len a n) ≡ flat_map g (range_with_len a n)
flat_same f g a zero h = refl
flat_same f g a (suc n) h = rw (h a, flat_same f g (a + 1) n h) refl

pub same_row : (w w' : World) (q p : ℕ) → (member_at w' q).rows ≡ (member_at w q).rows → row_of w' q p ≡ row_of w q p
same_row w w' q p e = ap (λ rs. get_or rs p no_row) e
