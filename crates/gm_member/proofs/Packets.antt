-- Lines of packets, by the places of their origins.
use Rattle.std.proofs.Common.{◌≡◌, ℕ, ◌+◌, ◌<◌, Bool, true, false, cond, nat_eq, List, [], ◌∷◌, Some, None, refl, sym, ap, ◌∙◌}
use Rattle.std.specs.List.{find}
use Rattle.std.proofs.lemmas.Bool.{false≢true}
use Rattle.activity.specs.Packets.{LineSeen, PacketSeen, line_of}
use Rattle.ring_rules.proofs.rings.Rounds.{nat_eq-is, nat_eq-same, nat_eq-not}
use Rattle.gm_member.specs.Packets.{places, line_at, packet_by_id}
use Rattle.gm_member.proofs.Places.{tabled_at}

-- the line at the place of an origin is the packet's
pub line_there : (k : PacketSeen) (p : ℕ) → p < 64 → line_at (packet_by_id k).lines p ≡ line_of k.lines (p + 1)
unfolding places
line_there k p l = tabled_at (λ q. line_of k.lines (q + 1)) 64 p None l

nat_eq-swap : (a b : ℕ) → nat_eq a b ≡ nat_eq b a
nat_eq-swap a b = by_test (nat_eq a b) refl
  where
    by_test : (t : Bool) → nat_eq a b ≡ t → nat_eq a b ≡ nat_eq b a
    by_test true e = e ∙ sym (ap (λ c. nat_eq b c) (nat_eq-is a b e) ∙ nat_eq-same b)
    by_test false e = e ∙ sym (nat_eq-not b a (λ (h : b ≡ a). false≢true (sym e ∙ ap (λ c. nat_eq a c) h ∙ nat_eq-same a)))

-- the line of an origin is the first of it
pub line_found : (p : ℕ) (lines : List LineSeen) → find (λ c. nat_eq c.origin.0 p) lines ≡ line_of lines p
line_found p [] = refl
line_found p (c ∷ lines) =
    ap (λ b. cond b (Some c) (find (λ x. nat_eq x.origin.0 p) lines)) (nat_eq-swap c.origin.0 p)
    ∙ ap (λ o. cond (nat_eq p c.origin.0) (Some c) o) (line_found p lines)
