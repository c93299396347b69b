-- The credit that a side of a copy lends.
use Rattle.std.specs.Borrow.{Lends, MutBor, Fml}
use Rattle.credit_flow.specs.Credit.{Credit}
use Rattle.credit_flow.specs.contracts.sender.CreditOut.{the_row as credit_row}
use Rattle.queue_sync.specs.Seen.{Sending}
use Rattle.queue_sync.specs.contracts.sender.SyncOut.{the_row}

-- a sender ends with the last credit behind r
abbrev pub LendsCredit : MutBor Sending → MutBor Credit → Fml
LendsCredit s r = Lends the_row credit_row s r (λ w. record s.now { credit = w })
