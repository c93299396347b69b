-- The links, as views and out links change.
use Rattle.std.proofs.Common.{◌≡◌, ◌≢◌, ℕ, ◌<◌, ◌≤◌, ◌+◌, true, false, List, [], ◌∷◌, ◌++◌, length, refl, sym, ap, subst, ◌∙◌, arith, ⊎_elim, Some}
use Rattle.std.proofs.lemmas.Bool.{cases_eq}
use Rattle.std.proofs.lemmas.List.{length_push, get_or_append_left, get_or_push}
use Rattle.ring_rules.specs.View.{is_live, right_of}
use Rattle.ring_rules.specs.Machine.{World, Member, Link, no_link, member_at, link_at, view_in, newest, left, right, runs, is_kept}
use Rattle.group_view.proofs.Passing.{are_mutual}
use Rattle.ring_rules.proofs.invariants.Good.{Kept, IsRing, IsLinked, out_stays}
use Rattle.ring_rules.proofs.walks.Views.{left_is, right_is}
use Rattle.ring_rules.proofs.invariants.Period.{IsHistory, opens_period}
use Rattle.ring_rules.proofs.rings.Lists.{at_push}

-- ---- x looks at a later view, and its out link still goes to its right neighbour

-- The members stand so that x has the view v, which isn't older than its own; the others have theirs, and nobody runs who didn't.
pub record HasLaterView (w : World) (ms : List Member) (x v : ℕ) : Type 0 where
  pub later : (member_at w x).version ≤ v
  pub upto : v ≤ newest w
  pub runs_less : (q : ℕ) → runs (record w { members = ms }) q ≡ true → runs w q ≡ true
  pub its_view : (member_at (record w { members = ms }) x).version ≡ v
  pub other_view : (q : ℕ) → q ≢ x → (member_at (record w { members = ms }) q).version ≡ (member_at w q).version

pub look_views : (w : World) (ms : List Member) (x v q : ℕ) → HasLaterView w ms x v → (member_at w q).version ≤ (member_at (record w { members = ms }) q).version
look_views w ms x v q h =
    ⊎_elim
    (λ (is : q ≡ x). subst (λ k. (member_at w k).version ≤ (member_at (record w { members = ms }) k).version) (sym is) (omega (arith, h.later, h.its_view)))
    (λ (d : q ≢ x). omega (arith, h.other_view q d))
    (cases_eq q x)

-- what is live in the later view is live in the earlier one
pub look_lives : (w : World) (ms : List Member) (x v q s : ℕ) → IsRing w → IsLinked w → IsHistory w → HasLaterView w ms x v → s < length w.links → (link_at w s).sender ≡ q → is_live (view_in w (member_at (record w { members = ms }) q).version) (link_at w s).receiver ≡ true → is_live (view_in w (member_at w q).version) (link_at w s).receiver ≡ true
look_lives w ms x v q s hr hl hh h sl mine l =
    ⊎_elim
    (λ (is : q ≡ x).
    let at_v : is_live (view_in w v) (link_at w s).receiver ≡ true = subst (λ k. is_live (view_in w k) (link_at w s).receiver ≡ true) (ap (λ k. (member_at (record w { members = ms }) k).version) is ∙ h.its_view) l in
    subst (λ k. is_live (view_in w (member_at w k).version) (link_at w s).receiver ≡ true) (sym is)
    (hh.dies (link_at w s).receiver (member_at w x).version v
    (hh.grows (link_at w s).receiver (link_at w s).opened (member_at w x).version (hh.known s sl) (subst (λ k. (link_at w s).opened ≤ (member_at w k).version) (mine ∙ is) (hl.seen s sl)) (hr.held x))
    h.later h.upto at_v))
    (λ (d : q ≢ x). subst (λ k. is_live (view_in w k) (link_at w s).receiver ≡ true) (h.other_view q d) l)
    (cases_eq q x)

pub linked_look : (w : World) (ms : List Member) (x v : ℕ) → IsRing w → IsLinked w → IsHistory w → HasLaterView w ms x v → ((q : ℕ) → (member_at (record w { members = ms }) q).out ≡ (member_at w q).out) → ((o : ℕ) → runs w x ≡ true → (member_at w x).out ≡ Some o → (link_at w o).receiver ≡ right w v x) → IsLinked (record w { members = ms })
linked_look w ms x v hr hl hh h same to_right = record {
  opened = hl.opened;
  from_left = hl.from_left;
  seen = λ s l. omega (arith, hl.seen s l, look_views w ms x v (link_at w s).sender h);
  period = hl.period;
  out_lt = λ q o r e. hl.out_lt q o (h.runs_less q r) (sym (same q) ∙ e);
  out_from = λ q o r e. hl.out_from q o (h.runs_less q r) (sym (same q) ∙ e);
  out_to = λ q o r e. ⊎_elim
      (λ (is : q ≡ x). subst (λ k. (link_at w o).receiver ≡ right w (member_at (record w { members = ms }) k).version k) (sym is)
      (to_right o (subst (λ k. runs w k ≡ true) is (h.runs_less q r)) (subst (λ k. (member_at w k).out ≡ Some o) is (sym (same q) ∙ e)) ∙ ap (λ k. right w k x) (sym h.its_view)))
      (λ (d : q ≢ x). hl.out_to q o (h.runs_less q r) (sym (same q) ∙ e) ∙ ap (λ k. right w k q) (sym (h.other_view q d)))
      (cases_eq q x);
  out_kept = λ q o r e u a b. out_stays w q o hr hl (h.runs_less q r) (sym (same q) ∙ e) u a (bounded q u b);
  is_out = λ s l r k lv.
      same (link_at w s).sender
      ∙ hl.is_out s l (h.runs_less (link_at w s).sender r) (λ u a b. k u a (omega (arith, b, look_views w ms x v (link_at w s).sender h)))
      (look_lives w ms x v (link_at w s).sender s hr hl hh h l refl lv);
}
  where
    bounded : (q u : ℕ) → u ≤ (member_at (record w { members = ms }) q).version → u ≤ newest w
    bounded q u b = ⊎_elim
        (λ (is : q ≡ x). omega (arith, b, ap (λ k. (member_at (record w { members = ms }) k).version) is, h.its_view, h.upto))
        (λ (d : q ≢ x). omega (arith, b, h.other_view q d, hr.held q))
        (cases_eq q x)

-- ---- x looks at a later view and opens a link there

abbrev pub with_one : World → List Member → Link → World
with_one w ms l = record w { members = ms; links = w.links ++ l ∷ [] }

pub link_old : (w : World) (ms : List Member) (l : Link) (s : ℕ) → s < length w.links → link_at (with_one w ms l) s ≡ link_at w s
link_old w ms l s lt = get_or_append_left w.links (l ∷ []) no_link s lt

pub link_new : (w : World) (ms : List Member) (l : Link) (s : ℕ) → length w.links ≡ s → link_at (with_one w ms l) s ≡ l
link_new w ms l s e = get_or_push w.links l no_link s e

pub record Opens (w : World) (ms : List Member) (x v : ℕ) (l : Link) : Type 0 where
  pub looks : HasLaterView w ms x v
  pub x_runs : runs w x ≡ true
  -- its out link, if any, doesn't go to its right neighbour in v
  pub moves : (o : ℕ) → (member_at w x).out ≡ Some o → (link_at w o).receiver ≢ right w v x
  pub sender : l.sender ≡ x
  pub receiver : l.receiver ≡ right w v x
  pub opened : l.opened ≡ v
  pub its_out : (member_at (record w { members = ms }) x).out ≡ Some (length w.links)
  pub other_out : (q : ℕ) → q ≢ x → (member_at (record w { members = ms }) q).out ≡ (member_at w q).out

pub linked_open : (w : World) (ms : List Member) (x v : ℕ) (l : Link) → IsRing w → IsLinked w → IsHistory w → Opens w ms x v l → IsLinked (with_one w ms l)
linked_open w ms x v l hr hl hh h = record {
  opened = λ s lt. at_push (λ i k. k.opened ≤ newest w) w.links s l no_link (within s lt) (omega (arith, h.opened, k.upto)) (λ old. hl.opened s old);
  from_left = λ s lt. at_push (λ i k. left w k.opened k.receiver ≡ k.sender) w.links s l no_link (within s lt) new_left (λ old. hl.from_left s old);
  seen = λ s lt. at_push (λ i k. k.opened ≤ (member_at w2 k.sender).version) w.links s l no_link (within s lt)
      (omega (arith, h.opened, ap (λ q. (member_at w2 q).version) h.sender, k.its_view))
      (λ old. omega (arith, hl.seen s old, look_views w ms x v (link_at w s).sender k));
  period = λ i j ij jl e.
      let old_i : link_at (with_one w ms l) i ≡ link_at w i = link_old w ms l i (omega (arith, within j jl)) in
      subst (λ a. is_kept w a (link_at (with_one w ms l) j).opened ≡ false) (sym old_i)
      (at_push (λ b a. i < b → (link_at w i).receiver ≡ a.receiver → is_kept w (link_at w i) a.opened ≡ false) w.links j l no_link (within j jl)
      (λ lt same. subst (λ a. is_kept w (link_at w i) a ≡ false) (sym h.opened) (opens_period w x v i hr hl hh h.x_runs k.later k.upto h.moves lt (same ∙ h.receiver)))
      (λ old lt same. hl.period i j lt old same) ij (ap (λ a. a.receiver) (sym old_i) ∙ e));
  out_lt = λ q o r e. by_x q o r e (λ _. (o < length (with_one w ms l).links)) (let m : length (w.links ++ l ∷ []) ≡ length w.links + 1 = length_push w.links l in λ is. omega (arith, is))
      (λ d. let m : length (w.links ++ l ∷ []) ≡ length w.links + 1 = length_push w.links l in omega (arith, hl.out_lt q o (k.runs_less q r) (old_out q o d e)));
  out_from = λ q o r e. by_x q o r e (λ z. (link_at (with_one w ms l) o).sender ≡ z) (λ is. ap (λ a. a.sender) (link_new w ms l o (sym is)) ∙ h.sender)
      (λ d. ap (λ a. a.sender) (link_old w ms l o (hl.out_lt q o (k.runs_less q r) (old_out q o d e))) ∙ hl.out_from q o (k.runs_less q r) (old_out q o d e));
  out_to = λ q o r e. by_x q o r e (λ z. (link_at (with_one w ms l) o).receiver ≡ right w (member_at w2 z).version z)
      (λ is. ap (λ a. a.receiver) (link_new w ms l o (sym is)) ∙ h.receiver ∙ ap (λ a. right w a x) (sym k.its_view))
      (λ d. ap (λ a. a.receiver) (link_old w ms l o (hl.out_lt q o (k.runs_less q r) (old_out q o d e))) ∙ hl.out_to q o (k.runs_less q r) (old_out q o d e) ∙ ap (λ a. right w a q) (sym (k.other_view q d)));
  out_kept = λ q o r e. by_x q o r e (λ z. Kept w (link_at (with_one w ms l) o) (member_at w2 z).version)
      (λ is. subst (λ a. Kept w a (member_at w2 x).version) (sym (link_new w ms l o (sym is)))
      (λ u a b. let now : u ≡ l.opened = omega (arith, a, b, k.its_view, h.opened) in ap (λ t. left w t l.receiver) now ∙ new_left))
      (λ d. subst (λ a. Kept w a (member_at w2 q).version) (sym (link_old w ms l o (hl.out_lt q o (k.runs_less q r) (old_out q o d e))))
      (λ u a b. out_stays w q o hr hl (k.runs_less q r) (old_out q o d e) u a (omega (arith, b, k.other_view q d, hr.held q))));
  is_out = λ s lt. at_push (λ i a. runs w2 a.sender ≡ true → Kept w a (member_at w2 a.sender).version → is_live (view_in w (member_at w2 a.sender).version) a.receiver ≡ true → (member_at w2 a.sender).out ≡ Some i) w.links s l no_link (within s lt)
      (λ r kp lv. ap (λ q. (member_at w2 q).out) h.sender ∙ h.its_out)
      (λ old r kp lv. old_is_out s old r kp lv);
}
  where
    w2 : World
    w2 = record w { members = ms }

    k : HasLaterView w ms x v
    k = h.looks

    within : (s : ℕ) → s < length (w.links ++ l ∷ []) → s < length w.links + 1
    within s lt = let m : length (w.links ++ l ∷ []) ≡ length w.links + 1 = length_push w.links l in omega arith

    new_left : left w l.opened l.receiver ≡ l.sender
    new_left = ap (λ a. left w a l.receiver) h.opened ∙ ap (left w v) h.receiver ∙ hr.front x v v h.x_runs k.later (omega arith) k.upto ∙ sym h.sender

    old_out : (q o : ℕ) → q ≢ x → (member_at w2 q).out ≡ Some o → (member_at w q).out ≡ Some o
    old_out q o d e = sym (h.other_out q d) ∙ e

    by_x : (q o : ℕ) → runs w2 q ≡ true → (member_at w2 q).out ≡ Some o → (P : ℕ → Type 0) → (o ≡ length w.links → P x) → (q ≢ x → P q) → P q
    by_x q o r e P new old =
        ⊎_elim
        (λ (is : q ≡ x).
        let now : Some o ≡ Some (length w.links) = sym e ∙ ap (λ z. (member_at w2 z).out) is ∙ h.its_out in
        let here : o ≡ length w.links = cc in
        subst P (sym is) (new here))
        (λ (d : q ≢ x). old d)
        (cases_eq q x)

    old_is_out : (s : ℕ) → s < length w.links → runs w2 (link_at w s).sender ≡ true → Kept w (link_at w s) (member_at w2 (link_at w s).sender).version → is_live (view_in w (member_at w2 (link_at w s).sender).version) (link_at w s).receiver ≡ true → (member_at w2 (link_at w s).sender).out ≡ Some s
    old_is_out s sl r kp lv =
        let before_is : (member_at w (link_at w s).sender).out ≡ Some s =
        hl.is_out s sl (k.runs_less (link_at w s).sender r) (λ u a b. kp u a (omega (arith, b, look_views w ms x v (link_at w s).sender k)))
        (look_lives w ms x v (link_at w s).sender s hr hl hh k sl refl lv) in
        ⊎_elim
        (λ (is : (link_at w s).sender ≡ x).
        let at_v : (member_at w2 (link_at w s).sender).version ≡ v = ap (λ q. (member_at w2 q).version) is ∙ k.its_view in
        let open_before : (link_at w s).opened ≤ v = omega (arith, hl.seen s sl, ap (λ q. (member_at w q).version) is, k.later) in
        let left_is_x : left w v (link_at w s).receiver ≡ x = kp v open_before (omega (arith, at_v)) ∙ is in
        let live : is_live (view_in w v) (link_at w s).receiver ≡ true = subst (λ a. is_live (view_in w a) (link_at w s).receiver ≡ true) at_v lv in
        let right_is_it : right w v x ≡ (link_at w s).receiver =
        right_is w v x (view_in w v) refl ∙ ap (right_of (view_in w v)) (sym left_is_x ∙ left_is w v (link_at w s).receiver (view_in w v) refl)
        ∙ (are_mutual (view_in w v).entries (link_at w s).receiver (hr.distinct v k.upto) live).right_of_left in
        absurd (h.moves s (ap (λ q. (member_at w q).out) (sym is) ∙ before_is) (sym right_is_it)))
        (λ (d : (link_at w s).sender ≢ x). h.other_out (link_at w s).sender d ∙ before_is)
        (cases_eq (link_at w s).sender x)
