-- What a round leaves of a ring pair.
use Rattle.std.proofs.Common.{◌≡◌, List, ◌++◌, sym, ap, ◌∙◌, append_assoc}
use Rattle.std.proofs.lemmas.List.{append_cancel_left}
use Rattle.rtrb.specs.Ring.{sent, received, known_items}
use Rattle.ordered_link.specs.declared.grant.Grant.{Grant}
use Rattle.ordered_link.specs.declared.item.Item.{Item}
use Rattle.ordered_link.specs.declared.ring.RingOut.{RingOut}
use Rattle.ordered_link.specs.declared.ring.RingIn.{RingIn}
use Rattle.ordered_link.specs.RingSteps.{RingsHaveMet}
use Rattle.ordered_link.specs.Rounds.{Grew, Balances}

-- of one ring, whose consumer knew all that it held before and after
balance : {X : Type 0} (past known all puts takes past' known' all' : List X) → past ++ known ≡ all → past' ++ known' ≡ all' → past' ≡ past ++ takes → all' ≡ all ++ puts → known ++ puts ≡ takes ++ known'
balance past known all puts takes past' known' all' before after took put =
    append_cancel_left past (known ++ puts) (takes ++ known')
    (sym (append_assoc past known puts) ∙ ap (λ xs. xs ++ puts) before ∙ sym put ∙ sym after ∙ ap (λ xs. xs ++ known') took ∙ append_assoc past takes known')

-- of both rings
pub balances : {T : Type 0} (o o' : RingOut T) (i i' : RingIn T) (puts takes : List (Item T)) (gives gains : List Grant) → RingsHaveMet o i → Grew o i o' i' puts takes gives gains → RingsHaveMet o' i' → Balances o i o' i' puts takes gives gains
balances o o' i i' puts takes gives gains before grew after = (
  balance (received i.items) (known_items i.items) (sent o.items) puts takes (received i'.items) (known_items i'.items) (sent o'.items) before.items after.items grew.took grew.put,
  balance (received o.back) (known_items o.back) (sent i.back) gives gains (received o'.back) (known_items o'.back) (sent i'.back) before.grants after.grants grew.gained grew.gave,
)
