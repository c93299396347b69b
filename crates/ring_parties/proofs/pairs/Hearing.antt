-- The mark of those that hear nobody goes, one after another.
use Rattle.std.proofs.Common.{◌≡◌, ⊎_elim, ℕ, ◌+◌, ◌<◌, ◌≤◌, Bool, true, List, set, refl, sym, ap, subst, ◌∙◌}
use Rattle.std.specs.Prelude.{◌&&◌}
use Rattle.std.proofs.lemmas.Bool.{cases_lt, and_parts}
use Rattle.gm_member.specs.Shown.{held_of, out_name_of, in_name_of}
use Rattle.ring_parties.specs.declared.party.Party.{Party}
use Rattle.ring_parties.specs.Pairing.{IsAt, IsHeardAt, IsHeardIf}
use Rattle.ring_parties.proofs.pairs.Each.{one_at, same_at}
use Rattle.ring_parties.proofs.pairs.Done.{Done, done_next}

-- the node of a party so far is the one that it had
node_was : (k : ℕ) (old xs : List Party) → Done (λ _ p q. IsHeardIf old p q) k old xs → (i : ℕ) (p q : Party) → IsAt old i p → IsAt xs i q → q.node ≡ p.node
node_was k old xs d i p q at now = ⊎_elim
    (λ (l : i < k). ((d.each i p q at now).0 l).node)
    (λ (g : k ≤ i). ap (λ (z : Party). z.node) ((d.each i p q at now).1 g))
    (cases_lt i k)

-- the mark stays with one that had it, where somebody sends to it
pub heard_next : (k : ℕ) (old xs : List Party) (x : Party) (heard marked : Bool) → Done (λ _ p q. IsHeardIf old p q) k old xs → IsAt xs k x → (heard ≡ true → IsHeardAt xs k) → marked ≡ (x.meets && heard) → Done (λ _ p q. IsHeardIf old p q) (k + 1) old (set xs k (record x { meets = marked }))
heard_next k old xs x heard marked d at hears is = done_next (λ _ p q. IsHeardIf old p q) k old xs x (record x { meets = marked }) d at (record {
  node = refl;
  keeps = refl;
  heard = λ m.
      let parts = and_parts x.meets heard (sym is ∙ m) in
      let from = hears parts.1 in
      let sender = one_at xs old from.0 from.1.sender (sym d.count) from.1.sends in
      let receiver : from.1.receiver ≡ x = same_at xs k from.1.receiver x from.1.takes at in (
        parts.0,
        (
          from.0,
          sender.0,
          sender.1,
          (
            from.1.paired.0,
            ap (λ c. out_name_of (held_of c)) (sym (node_was k old xs d from.0 sender.0 from.1.sender sender.1 from.1.sends)) ∙ from.1.paired.1,
            ap (λ (z : Party). in_name_of (held_of z.node) 0) (sym receiver) ∙ from.1.paired.2,
          ),
        ),
      );
})

pub heard_set : (k : ℕ) (old xs : List Party) (x y : Party) (heard : Bool) → Done (λ _ p q. IsHeardIf old p q) k old xs → IsAt xs k x → (heard ≡ true → IsHeardAt xs k) → y ≡ record x { meets = x.meets && heard } → Done (λ _ p q. IsHeardIf old p q) (k + 1) old (set xs k y)
heard_set k old xs x y heard d at hears is =
    subst (λ z. Done (λ _ p q. IsHeardIf old p q) (k + 1) old (set xs k z)) (sym is) (heard_next k old xs x heard (x.meets && heard) d at hears refl)
