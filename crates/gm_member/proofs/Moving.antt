-- A member that reads a view, by its structs.
use Rattle.std.specs.List.{remove}
use Rattle.std.proofs.Common.{◌≡◌, ℕ, suc, arith, ◌+◌, ◌<◌, length, get_or, take, drop, Bool, true, false, not, cond, ◌++◌, List, Some, map, sym, ap, subst, ◌∙◌}
use Rattle.std.proofs.lemmas.List.{get_or-map}
use Rattle.std.specs.Prelude.{option_map}
use Rattle.ring_names.specs.declared.numbers.MemberId.{MemberId}
use Rattle.group_view.specs.View.{Group}
use Rattle.group_view.specs.declared.request.Request.{Request}
use Rattle.ordered_link.specs.declared.ends.LinkOut.{Ghosts}
use Rattle.ordered_link.specs.declared.item.Item.{Item}
use Rattle.ring_rules.specs.View.{right_of}
use Rattle.activity.specs.declared.packet.Load.{Load}
use Rattle.gm_member.specs.declared.member.Member.{Member}
use Rattle.gm_member.specs.View.{all_kept, in_of, out_of}
use Rattle.gm_member.specs.declared.links.InLink.{InLink}
use Rattle.gm_member.specs.Held.{Held, no_incoming, door_at, without, looked_held, first_out, sends_to, refreshed_held}
use Rattle.gm_member.specs.Spares.{IsSpareFor, OpensOn}
use Rattle.gm_member.specs.Shown.{When, SendsOn, held_of}
use Rattle.gm_member.specs.Ends.{Replaces}

-- a member that has to send to another does so after a refresh
pub refreshed_moves : (h : Held) (v : Group) (to : ℕ) → sends_to h.out (right_of v h.id) ≡ false → to ≡ right_of v h.id → record (looked_held h v) { out = Some (first_out (looked_held h v) to) } ≡ refreshed_held h v
refreshed_moves h v to b e =
    ap (λ z. record (looked_held h v) { out = Some (first_out (looked_held h v) z) }) e
    ∙ ap (λ c. record (looked_held h v) { out = cond c h.out (Some (first_out (looked_held h v) (right_of v h.id))) }) (sym b)

module _ {O I : Type 0} {g : Ghosts O Load} where
  -- what a member had before it looked, or made room, it had all the same
  pub sends_from : (are_fresh : ℕ → O → I → Type 0) (free : O → ℕ) (ended : O → Bool) (puts : O → Item Load → O → Type 0) (version : ℕ) (to : MemberId) (m l n : Member O I g) (requests : List (Request I))
      → l.id ≡ m.id → l.credit ≡ m.credit → l.tables ≡ m.tables → l.out ≡ m.out → l.old_outs.items ≡ m.old_outs.items
      → SendsOn are_fresh free ended puts version to l n requests → SendsOn are_fresh free ended puts version to m n requests
  sends_from are_fresh free ended puts version to m l n requests ei ec ek eo es s = record {
    spare = s.spare;
    ready =
        subst (λ c. IsSpareFor are_fresh free ended c.initial (all_kept m.tables) s.spare) ec
        (subst (λ ks. IsSpareFor are_fresh free ended l.credit.initial (all_kept ks) s.spare) ek s.ready);
    link = s.link;
    out = s.out;
    opens =
        subst (λ c. OpensOn puts c (all_kept m.tables) m.id to version s.spare s.link requests) ec
        (subst (λ i. OpensOn puts l.credit (all_kept m.tables) i to version s.spare s.link requests) ei
        (subst (λ ks. OpensOn puts l.credit (all_kept ks) l.id to version s.spare s.link requests) ek s.opens));
    old_outs =
        subst (λ i. Replaces puts i.0 m.out m.old_outs.items n.old_outs.items) ei
        (subst (λ xs. Replaces puts l.id.0 m.out xs n.old_outs.items) es
        (subst (λ p. Replaces puts l.id.0 p l.old_outs.items n.old_outs.items) eo s.old_outs));
  }

  -- what the link on which it sends then shows
  pub sends_out : (are_fresh : ℕ → O → I → Type 0) (free : O → ℕ) (ended : O → Bool) (puts : O → Item Load → O → Type 0) (to : MemberId) (m n : Member O I g) (requests : List (Request I))
      → SendsOn are_fresh free ended puts m.view.version to m n requests → option_map out_of n.out ≡ Some (first_out (held_of m) to.0)
  sends_out are_fresh free ended puts to m n requests s = ap (option_map out_of) s.out ∙ ap Some s.opens.held

-- of two cases the one that is there
pub when_not : (b : Bool) (P Q : Type 0) → b ≡ false → Q → When b P × When (not b) Q
when_not b P Q e q = subst (λ c. When c P × When (not c) Q) (sym e) (tt, q)

-- what holds holds where a test passes
pub when_so : (b : Bool) (P : Type 0) → P → When b P
when_so true P p = p
when_so false P p = tt

-- what is shown of a link of a door
pub door_seen_at : {I : Type 0} (l : InLink I) (links : List (InLink I)) (i : ℕ) → i < length links → l ≡ get_or links i l → in_of l ≡ door_at (map in_of links) i
door_seen_at l links i lt e = ap in_of e ∙ sym (get_or-map in_of links i l no_incoming lt)

-- a list after a removal
pub removed : {A : Type 0} (i : ℕ) (xs : List A) → remove xs i ≡ without i xs
removed i xs = let next : suc i ≡ i + 1 = omega arith in ap (λ n. take i xs ++ drop n xs) next
