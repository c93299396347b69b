-- Events that change no view, no link's ends and no member's view and out link.
use Rattle.std.proofs.Common.{◌≡◌, ℕ, ◌<◌, ◌≤◌, true, List, length, refl, sym, ap, subst, ◌∙◌, arith}
use Rattle.ring_rules.specs.View.{ids, is_live}
use Rattle.ring_rules.specs.Machine.{World, Member, Link, no_member, no_link, member_at, link_at, view_in, left, right, runs, is_kept}
use Rattle.group_view.specs.Ring.{is_in}
use Rattle.ring_rules.proofs.invariants.Good.{Kept, IsRing, IsLinked}
use Rattle.ring_rules.proofs.invariants.Period.{IsHistory}
use Rattle.ring_rules.proofs.walks.Views.{ring_less}
use Rattle.ring_rules.proofs.invariants.Standing.{IsOrdered}
use Rattle.std.proofs.lemmas.List.{length-set}
use Rattle.ring_rules.specs.Step.{size, with_member, with_link, popped}
use Rattle.ring_rules.proofs.rings.Lists.{at_set}

-- the ends and version of a link
pub record SameEnds (l l' : Link) : Type 0 where
  pub sender : l'.sender ≡ l.sender
  pub receiver : l'.receiver ≡ l.receiver
  pub opened : l'.opened ≡ l.opened

-- w' has w's views
pub record IsShaped (w : World) (ms : List Member) (ls : List Link) : Type 0 where
  pub many : length ls ≡ length w.links
  pub ends : (j : ℕ) → SameEnds (link_at w j) (link_at (record w { members = ms; links = ls }) j)
  pub runs_less : (q : ℕ) → runs (record w { members = ms; links = ls }) q ≡ true → runs w q ≡ true
  pub version : (q : ℕ) → (member_at (record w { members = ms; links = ls }) q).version ≡ (member_at w q).version
  pub out : (q : ℕ) → (member_at (record w { members = ms; links = ls }) q).out ≡ (member_at w q).out

abbrev pub shaped : World → List Member → List Link → World
shaped w ms ls = record w { members = ms; links = ls }

-- where one member changes, and has its view and its out link as before
pub member_shaped : (w : World) (y : ℕ) (m : Member) → y < size w → ((q : ℕ) → runs (with_member w y m) q ≡ true → runs w q ≡ true) → m.version ≡ (member_at w y).version → m.out ≡ (member_at w y).out → IsShaped w (with_member w y m).members w.links
member_shaped w y m lt runs_less version out = record {
  many = refl;
  ends = λ j. record { sender = refl; receiver = refl; opened = refl };
  runs_less = runs_less;
  version = λ q. at_set (λ i a. a.version ≡ (member_at w i).version) w.members y q m no_member lt version (λ _. refl);
  out = λ q. at_set (λ i a. a.out ≡ (member_at w i).out) w.members y q m no_member lt out (λ _. refl);
}

-- and where it takes a packet besides
pub taker_shaped : (w : World) (y s : ℕ) (m : Member) → y < size w → s < length w.links → ((q : ℕ) → runs (with_member w y m) q ≡ true → runs w q ≡ true) → m.version ≡ (member_at w y).version → m.out ≡ (member_at w y).out
    → IsShaped w (with_member w y m).members (with_link w s (popped (link_at w s))).links
taker_shaped w y s m lt there runs_less version out =
    let sh : IsShaped w (with_member w y m).members w.links = member_shaped w y m lt runs_less version out in
    record {
      many = length-set w.links s (popped (link_at w s));
      ends = λ j. at_set (λ i l. SameEnds (link_at w i) l) w.links s j (popped (link_at w s)) no_link there
          (record { sender = refl; receiver = refl; opened = refl }) (λ _. record { sender = refl; receiver = refl; opened = refl });
      runs_less = sh.runs_less;
      version = sh.version;
      out = sh.out;
    }

pub shaped_ring : (w : World) (ms : List Member) (ls : List Link) → IsShaped w ms ls → IsRing w → IsRing (shaped w ms ls)
shaped_ring w ms ls h hr = ring_less w (shaped w ms ls) refl h.runs_less (λ q r. omega (arith, h.version q)) (λ q. omega (arith, h.version q, hr.held q)) hr

pub shaped_history : (w : World) (ms : List Member) (ls : List Link) → IsShaped w ms ls → IsHistory w → IsHistory (shaped w ms ls)
shaped_history w ms ls h hh = record {
  grows = hh.grows;
  dies = hh.dies;
  known = λ s l. subst (λ v. is_in (link_at (shaped w ms ls) s).receiver (ids (view_in w v)) ≡ true) (sym (h.ends s).opened)
      (subst (λ q. is_in q (ids (view_in w (link_at w s).opened)) ≡ true) (sym (h.ends s).receiver) (hh.known s (omega (arith, h.many))));
}

pub shaped_ordered : (w : World) (ms : List Member) (ls : List Link) → IsOrdered w → IsOrdered (shaped w ms ls)
shaped_ordered w ms ls h = record { part = h.part; order = h.order }

pub shaped_kept : (w : World) (l l' : Link) (v : ℕ) → SameEnds l l' → is_kept w l' v ≡ is_kept w l v
shaped_kept w l l' v e = rw (e.sender, e.receiver, e.opened) refl

pub shaped_Kept : (w : World) (l l' : Link) (v : ℕ) → SameEnds l l' → Kept w l v → Kept w l' v
shaped_Kept w l l' v e k = λ u a b. ap (left w u) e.receiver ∙ k u (omega (arith, e.opened)) b ∙ sym e.sender

pub Kept_shaped : (w : World) (l l' : Link) (v : ℕ) → SameEnds l l' → Kept w l' v → Kept w l v
Kept_shaped w l l' v e k = λ u a b. ap (left w u) (sym e.receiver) ∙ k u (omega (arith, e.opened)) b ∙ e.sender

pub shaped_linked : (w : World) (ms : List Member) (ls : List Link) → IsShaped w ms ls → IsLinked w → IsLinked (shaped w ms ls)
shaped_linked w ms ls h hl = record {
  opened = λ s l. omega (arith, (h.ends s).opened, hl.opened s (omega (arith, h.many)));
  from_left = λ s l. rw ((h.ends s).opened, (h.ends s).receiver, (h.ends s).sender) (hl.from_left s (omega (arith, h.many)));
  seen = λ s l. subst (λ q. (link_at (shaped w ms ls) s).opened ≤ (member_at (shaped w ms ls) q).version) (sym (h.ends s).sender)
      (omega (arith, (h.ends s).opened, h.version (link_at w s).sender, hl.seen s (omega (arith, h.many))));
  period = λ i j ij l e.
      shaped_kept w (link_at w i) (link_at (shaped w ms ls) i) (link_at (shaped w ms ls) j).opened (h.ends i)
      ∙ ap (is_kept w (link_at w i)) (h.ends j).opened
      ∙ hl.period i j ij (omega (arith, h.many)) (sym (h.ends i).receiver ∙ e ∙ (h.ends j).receiver);
  out_lt = λ q o r e. omega (arith, h.many, hl.out_lt q o (h.runs_less q r) (sym (h.out q) ∙ e));
  out_from = λ q o r e. (h.ends o).sender ∙ hl.out_from q o (h.runs_less q r) (sym (h.out q) ∙ e);
  out_to = λ q o r e. (h.ends o).receiver ∙ hl.out_to q o (h.runs_less q r) (sym (h.out q) ∙ e) ∙ ap (λ v. right w v q) (sym (h.version q));
  out_kept = λ q o r e. shaped_Kept w (link_at w o) (link_at (shaped w ms ls) o) (member_at (shaped w ms ls) q).version (h.ends o)
      (subst (Kept w (link_at w o)) (sym (h.version q)) (hl.out_kept q o (h.runs_less q r) (sym (h.out q) ∙ e)));
  is_out = λ s l r k lv.
      let lt : s < length w.links = omega (arith, h.many) in
      let sender : (link_at (shaped w ms ls) s).sender ≡ (link_at w s).sender = (h.ends s).sender in
      ap (λ q. (member_at (shaped w ms ls) q).out) sender ∙ h.out (link_at w s).sender
      ∙ hl.is_out s lt (h.runs_less (link_at w s).sender (subst (λ q. runs (shaped w ms ls) q ≡ true) sender r))
      (Kept_shaped w (link_at w s) (link_at (shaped w ms ls) s) (member_at w (link_at w s).sender).version (h.ends s)
      (subst (λ v. Kept w (link_at (shaped w ms ls) s) v) (ap (λ q. (member_at (shaped w ms ls) q).version) sender ∙ h.version (link_at w s).sender) k))
      (subst (λ v. is_live (view_in w v) (link_at w s).receiver ≡ true) (ap (λ q. (member_at (shaped w ms ls) q).version) sender ∙ h.version (link_at w s).sender)
      (subst (λ q. is_live (view_in w (member_at (shaped w ms ls) (link_at (shaped w ms ls) s).sender).version) q ≡ true) (h.ends s).receiver lv));
}
