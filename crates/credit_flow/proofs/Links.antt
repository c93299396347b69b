-- What every call on a link keeps.
use Rattle.std.proofs.Common.{◌≡◌, ℕ, ◌+◌, ◌<◌, ◌≤◌, Bool, true, false, List, [], ◌∷◌, sum, drop, refl, ap, arith}
use Rattle.std.proofs.lemmas.Bool.Decides.{nat_tests}
use Rattle.std.proofs.lemmas.Grind.{common_steps}
use Rattle.credit_flow.specs.Link.{Link, Call, Send, Take, Hold, Release, Gain, CanCall, IsCalls, KeepsCredit, after, after_call, new_link, oldest}

-- the sender's and the receiver's numbers are those with which the link was made
pub record AreNumbers (initial more sender_initial receiver_initial receiver_more : ℕ) : Type 0 where
  pub sender : sender_initial ≡ initial
  pub receiver : receiver_initial ≡ initial
  pub counts : receiver_more ≡ more

-- the credit is kept, and so are the numbers of both ends
pub record IsKept (initial more : ℕ) (l : Link) : Type 0 where
  pub numbers : AreNumbers initial more l.sender.initial l.receiver.initial l.receiver.more
  pub below : l.receiver.taken < more
  pub none : l.receiver.holding ≡ false → l.receiver.held ≡ 0
  pub kept : l.sender.credit + l.loads + l.receiver.taken + sum l.grants + l.receiver.held ≡ initial

-- the grants are the oldest one and the others
pub sum-oldest : (grants : List ℕ) → sum grants ≡ oldest grants + sum (drop 1 grants)
sum-oldest [] = refl
sum-oldest (grant ∷ grants) = grind (arith, common_steps)

-- what has a sum is held back
pub is_held : (holding : Bool) (held : ℕ) → (holding ≡ false → held ≡ 0) → 0 < held → holding ≡ true
is_held true held none some = refl
is_held false held none some = absurd (omega (arith, none refl))

-- an opening keeps it
pub new_keeps : (initial more : ℕ) → 1 ≤ more → IsKept initial more (new_link initial more)
new_keeps initial more positive = record {
  numbers = record { sender = refl; receiver = refl; counts = refl };
  below = positive;
  none = λ _. refl;
  kept = omega arith;
}

-- and so does each call
pub send_keeps : (initial more : ℕ) (l : Link) → CanCall l Send → IsKept initial more l → IsKept initial more (after_call l Send)
send_keeps initial more l can h = record {
  numbers = h.numbers;
  below = h.below;
  none = h.none;
  kept = grind (arith, common_steps, h.kept);
}

pub take_keeps : (initial more : ℕ) (l : Link) → 1 ≤ more → CanCall l Take → IsKept initial more l → IsKept initial more (after_call l Take)
take_keeps initial more l positive can h = record {
  numbers = h.numbers;
  below = grind (arith, common_steps, h.below);
  none = grind (arith, common_steps, h.none);
  kept = grind (arith, common_steps, h.kept, h.none, h.numbers.counts, h.numbers.receiver);
}

pub hold_keeps : (initial more : ℕ) (l : Link) → IsKept initial more l → IsKept initial more (after_call l Hold)
hold_keeps initial more l h = record {
  numbers = h.numbers;
  below = h.below;
  none = grind arith;
  kept = h.kept;
}

pub release_keeps : (initial more : ℕ) (l : Link) → IsKept initial more l → IsKept initial more (after_call l Release)
release_keeps initial more l h = record {
  numbers = h.numbers;
  below = h.below;
  none = λ _. refl;
  kept = grind (arith, common_steps, h.kept);
}

pub gain_keeps : (initial more : ℕ) (l : Link) → CanCall l Gain → IsKept initial more l → IsKept initial more (after_call l Gain)
gain_keeps initial more l can h = record {
  numbers = h.numbers;
  below = h.below;
  none = h.none;
  kept = omega (arith, h.kept, h.numbers.sender, sum-oldest l.grants);
}

-- any call
pub call_keeps : (initial more : ℕ) (l : Link) (call : Call) → 1 ≤ more → CanCall l call → IsKept initial more l → IsKept initial more (after_call l call)
call_keeps initial more l Send positive can h = send_keeps initial more l can h
call_keeps initial more l Take positive can h = take_keeps initial more l positive can h
call_keeps initial more l Hold positive can h = hold_keeps initial more l h
call_keeps initial more l Release positive can h = release_keeps initial more l h
call_keeps initial more l Gain positive can h = gain_keeps initial more l can h

-- any list of them
pub after_keeps : (initial more : ℕ) (l : Link) (calls : List Call) → 1 ≤ more → IsCalls l calls → IsKept initial more l → IsKept initial more (after l calls)
after_keeps initial more l [] positive can h = h
after_keeps initial more l (call ∷ calls) positive can h =
    after_keeps initial more (after_call l call) calls positive can.1 (call_keeps initial more l call positive can.0 h)

-- the law, of a link that is kept
pub kept_law : (initial more : ℕ) (l : Link) → more ≤ initial → IsKept initial more l → KeepsCredit initial l
kept_law initial more l covered h = record {
  kept = h.kept;
  few = omega (arith, h.kept);
  within = omega (arith, h.kept, sum-oldest l.grants);
  whole = omega (arith, h.kept, h.numbers.sender, sum-oldest l.grants);
  held_whole = grind (arith, common_steps, h.kept, h.numbers.counts);
  waits = λ blocked none empty.
      let spent : l.sender.credit ≡ 0 = grind (arith, nat_tests, blocked) in
      let held : 0 < l.receiver.held = omega (arith, h.kept, h.below, ap sum empty) in
      (is_held _ _ h.none held, held);
}

-- the law, after any list of calls
pub calls_keep : (initial more : ℕ) (calls : List Call) → 1 ≤ more → more ≤ initial → IsCalls (new_link initial more) calls → KeepsCredit initial (after (new_link initial more) calls)
calls_keep initial more calls positive covered can =
    kept_law initial more _ covered (after_keeps initial more _ calls positive can (new_keeps initial more positive))
