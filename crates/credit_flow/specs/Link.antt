-- One link, over any list of calls of its two ends.
use Rattle.std.specs.Prelude.{◌≡◌, ℕ, ◌+◌, ◌-◌, ◌<◌, ◌≤◌, ◌==◌, true, false, length, if◌then◌else◌, List, [], ◌∷◌, ◌++◌, sum, drop, Option, Some, None, ⊤}
use Rattle.credit_flow.specs.Credit.{Credit, Counted, full_credit, is_blocked, sent, gained, none_taken, is_grant_next, took, grant_due, holding_back, released}

-- the sender, the loads under way to the receiver, the receiver, and the grants under way back, the oldest first
pub record Link : Type 0 where
  pub sender : Credit
  pub loads : ℕ
  pub receiver : Counted
  pub grants : List ℕ

-- what one of the ends does
pub data Call : Type 0 where
  Send : Call
  Take : Call
  Hold : Call
  Release : Call
  Gain : Call

-- a link on which nothing was sent
abbrev pub new_link : ℕ → ℕ → Link
new_link initial more = record { sender = full_credit initial more; loads = 0; receiver = none_taken initial more; grants = [] }

-- where each call can be: a load is sent by a sender that isn't blocked, and what comes is under way
abbrev pub CanCall : Link → Call → Type 0
CanCall l Send = is_blocked l.sender ≡ false
CanCall l Take = 0 < l.loads
CanCall l Hold = ⊤
CanCall l Release = ⊤
CanCall l Gain = 0 < length l.grants

-- the grant that comes next, or 0
abbrev pub oldest : List ℕ → ℕ
oldest [] = 0
oldest (grant ∷ grants) = grant

-- a grant goes under way, if there is one
abbrev pub with_grant : List ℕ → Option ℕ → List ℕ
with_grant grants None = grants
with_grant grants (Some grant) = grants ++ grant ∷ []

-- the sum that is released, if there is one
abbrev pub grant_of : ℕ → Option ℕ
grant_of held = if held == 0 then None else Some held

-- the link after a call
abbrev pub after_call : Link → Call → Link
after_call l Send = record l { sender = sent l.sender; loads = l.loads + 1 }
after_call l Take = record l { loads = l.loads - 1; receiver = took l.receiver; grants = with_grant l.grants (grant_due l.receiver) }
after_call l Hold = record l { receiver = holding_back l.receiver }
after_call l Release = record l { receiver = released l.receiver; grants = with_grant l.grants (grant_of l.receiver.held) }
after_call l Gain = record l { sender = gained l.sender (oldest l.grants); grants = drop 1 l.grants }

-- each call can be where the earlier ones leave the link
abbrev pub IsCalls : Link → List Call → Type 0
IsCalls l [] = ⊤
IsCalls l (call ∷ calls) = CanCall l call × IsCalls (after_call l call) calls

-- the link after all of them
abbrev pub after : Link → List Call → Link
after l [] = l
after l (call ∷ calls) = after (after_call l call) calls

-- no credit is lost and none is made, and what follows from it
pub record KeepsCredit (initial : ℕ) (l : Link) : Type 0 where
  -- all that was spent is under way, counted or held back
  pub kept : l.sender.credit + l.loads + l.receiver.taken + sum l.grants + l.receiver.held ≡ initial
  -- never more loads are under way than the initial credit
  pub few : l.loads ≤ initial
  -- the grant that comes next makes no more of it, and is gained whole
  pub within : l.sender.credit + oldest l.grants ≤ initial
  pub whole : (gained l.sender (oldest l.grants)).credit ≡ l.sender.credit + oldest l.grants
  -- and so is the grant that is held back next
  pub held_whole : 0 < l.loads → is_grant_next l.receiver ≡ true → l.receiver.held + l.receiver.more ≤ initial
  -- where the sender is blocked and nothing is under way, the receiver holds a grant back
  pub waits : is_blocked l.sender ≡ true → l.loads ≡ 0 → l.grants ≡ [] → (l.receiver.holding ≡ true) × (0 < l.receiver.held)
