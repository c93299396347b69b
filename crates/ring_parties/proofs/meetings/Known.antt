-- Of a link that its receiver has left, the sender knows every grant that was given.
use Rattle.std.proofs.Common.{◌≡◌, ◌≢◌, ℕ, ◌<◌, Bool, true, false, length, refl, sym, ap, ◌∙◌, arith}
use Rattle.std.proofs.lemmas.Bool.{false≢true}
use Rattle.std.proofs.lemmas.List.{append_cancel_left}
use Rattle.ring_rules.specs.Machine.{World, link_at}
use Rattle.ring_parties.specs.Ends.{OutSeen, InSeen, HaveMet}
use Rattle.ring_parties.specs.Parties.{Parties}
use Rattle.ring_parties.specs.Standing.{Places, Stand, SendersKnow, has_out, has_in}
use Rattle.ring_parties.proofs.standing.Writing.{placed_other}
use Rattle.ring_parties.proofs.standing.Showing.{with_outs, with_ins}
use Rattle.ring_parties.proofs.events.OneEvent.{met_both}

-- each grant on a link has come back to its out end
abbrev pub Knows : World → Places → ℕ → Type 0
Knows w p s = (p.outs s).back ≡ (link_at w s).flow.grants

-- between events that holds of each link that its sender still has, since the two ends have met where its receiver hasn't left it
pub all_know : (initial : ℕ) (w : World) (q : Parties) (st : Stand initial w q) (s : ℕ) → s < length w.links → has_out w s ≡ true → Knows w st.places s
all_know initial w q st s l o = by_in (has_in w s) refl
  where
    p : Places
    p = st.places

    by_in : (b : Bool) → has_in w s ≡ b → Knows w p s
    by_in true i =
        let met : HaveMet (p.outs s) (p.ins s) = met_both (has_out w s) (p.outs s) (p.ins s) o (st.met s l i) in
        append_cancel_left (p.outs s).gained (p.outs s).back (link_at w s).flow.grants (met.grants ∙ sym (st.stand.carry s l i).grants)
    by_in false i = st.known s l i o

-- senders still know where they have the out ends that they had, and of each link that its receiver has left by then the same grants have come
-- back, and the same were given
pub known_still : (initial : ℕ) (w w' : World) (q : Parties) (p' : Places) (st : Stand initial w q) → length w'.links ≡ length w.links → ((s : ℕ) → has_out w' s ≡ has_out w s)
    → ((s : ℕ) → has_in w' s ≡ false → ((p'.outs s).back ≡ (st.places.outs s).back) × ((link_at w' s).flow.grants ≡ (link_at w s).flow.grants)) → SendersKnow w' p'
known_still initial w w' q p' st many outs same s l i o = let k = same s i in k.0 ∙ all_know initial w q st s (omega (arith, many)) (sym (outs s) ∙ o) ∙ sym k.1

-- a link that its receiver has left isn't one from which its receiver may take
pub not_left : (w : World) (j s : ℕ) → has_in w j ≡ false → has_in w s ≡ true → j ≢ s
not_left w j s gone there same = false≢true (sym gone ∙ ap (has_in w) same ∙ there)

-- senders still know where the ends of a link have met from which its receiver may take
pub known_met : (w : World) (p : Places) (s : ℕ) (o : OutSeen) (n : InSeen) → has_in w s ≡ true → SendersKnow w p → SendersKnow w (with_ins (with_outs p s o) s n)
known_met w p s o n there k t l i h = ap (λ (e : OutSeen). e.back) (placed_other p.outs s o t (not_left w t s i there)) ∙ k t l i h
