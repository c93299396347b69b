-- What the meeting of an out end with the in end of its link does to the parties.
use Rattle.std.specs.Prelude.{◌≡◌, ◌⊎◌, ℕ, ◌-◌, ◌<◌, ◌≤◌, List, length, Option, Some, None, slice_index_or, slice_set}
use Rattle.group_view.specs.declared.link.LinkName.{LinkName}
use Rattle.gm_member.specs.Held.{Held}
use Rattle.gm_member.specs.Shown.{in_name_of, out_name_of, in_end}
use Rattle.ring_parties.specs.Ends.{OutSeen, InSeen, Fits, Meets}
use Rattle.ring_parties.specs.Parties.{Shown, Deposit, Parties, no_deposit, node_at, with_node, with_in, with_out}

-- an end is there, which may meet the out end
abbrev pub IsToMeet : OutSeen → Option InSeen → Type 0
IsToMeet o end = (n : InSeen) × (end ≡ Some n) × Fits o n

-- it is there, and has met the out end
abbrev pub MeetsEnd : OutSeen → Option InSeen → OutSeen → InSeen → Type 0
MeetsEnd o end o' met = (n : InSeen) × (end ≡ Some n) × Meets o n o' met

-- ---- a link to a member

-- no link to it has the name
abbrev pub HasNone : Held → LinkName → Type 0
HasNone h name = (place : ℕ) → in_name_of h place ≡ Some name → ⊥

-- the end of each that has it may meet the out end
abbrev pub NodeMayMeet : Shown → LinkName → OutSeen → Type 0
NodeMayMeet m name o = (place : ℕ) → in_name_of m.held place ≡ Some name → IsToMeet o (in_end m.ends place)

-- One of that name has met it, and else the member shows what another did.
pub record NodeMeets (m : Shown) (name : LinkName) (o : OutSeen) (other m' : Shown) (o' : OutSeen) : Type 0 where
  pub place : ℕ
  pub named : in_name_of m.held place ≡ Some name
  pub met : InSeen
  pub meets : MeetsEnd o (in_end m.ends place) o' met
  pub shows : m' ≡ with_in other place met

-- ---- a link that waits for its receiver

-- the one at a place
abbrev pub deposit_in : List Deposit → LinkName → ℕ → Deposit
deposit_in deposits name place = slice_index_or deposits place (no_deposit name)

-- none has the name
abbrev pub NoneIsDeposited : List Deposit → LinkName → Type 0
NoneIsDeposited deposits name = (place : ℕ) (other : Deposit) → place < length deposits → (slice_index_or deposits place other).name ≡ name → ⊥

-- the end of each that has it may meet the out end
abbrev pub DepositsMayMeet : List Deposit → LinkName → OutSeen → Type 0
DepositsMayMeet deposits name o = (place : ℕ) → place < length deposits → (deposit_in deposits name place).name ≡ name → IsToMeet o (deposit_in deposits name place).end

-- One of that name has met it.
pub record DepositMeets (deposits : List Deposit) (name : LinkName) (o : OutSeen) (post' : List Deposit) (o' : OutSeen) : Type 0 where
  pub place : ℕ
  pub within : place < length deposits
  pub named : (deposit_in deposits name place).name ≡ name
  pub met : InSeen
  pub meets : MeetsEnd o (deposit_in deposits name place).end o' met
  pub shows : post' ≡ slice_set deposits place (record { name = name; end = Some met })

-- ---- all parties

-- the receiver of a link
abbrev pub receiver_of : Parties → LinkName → Shown
receiver_of q name = node_at q (name.to.0 - 1)

-- The name is that of a link to a member, and wherever a link of that name stands its end is there, and may meet the out end.
pub record MayMeet (q : Parties) (name : LinkName) (o : OutSeen) : Type 0 where
  pub from_one : 1 ≤ name.to.0
  pub member : NodeMayMeet (receiver_of q name) name o
  pub deposits : DepositsMayMeet q.deposits name o

-- The in end stood at its receiver, and has met the out end.
pub record MeetsAt (q : Parties) (name : LinkName) (o : OutSeen) (other q' : Parties) (o' : OutSeen) : Type 0 where
  pub inside : name.to.0 - 1 < length q.nodes
  pub receiver : Shown
  pub meets : NodeMeets (receiver_of q name) name o (receiver_of other name) receiver o'
  pub parties : q' ≡ with_node other (name.to.0 - 1) receiver

-- It waited for its receiver, and has met the out end.
pub record MeetsDeposit (q : Parties) (name : LinkName) (o : OutSeen) (other q' : Parties) (o' : OutSeen) : Type 0 where
  pub deposits : List Deposit
  pub meets : DepositMeets q.deposits name o deposits o'
  pub parties : q' ≡ record other { deposits = deposits }

-- It stands nowhere, and nothing has changed.
pub record MeetsNone (q : Parties) (name : LinkName) (o : OutSeen) (other q' : Parties) (o' : OutSeen) : Type 0 where
  pub member : HasNone (receiver_of q name).held name
  pub deposits : NoneIsDeposited q.deposits name
  pub parties : q' ≡ other
  pub out : o' ≡ o

-- The out end of the link of that name has met its in end, where that stands anywhere, and else the parties show what others did.
abbrev pub MeetsIn : Parties → LinkName → OutSeen → Parties → Parties → OutSeen → Type 0
MeetsIn q name o other q' o' = MeetsAt q name o other q' o' ⊎ (MeetsDeposit q name o other q' o' ⊎ MeetsNone q name o other q' o')

-- ---- the out end of a member

-- a member that has lent its out end
abbrev pub lent_out : Shown → Shown
lent_out m = record m { ends = record m.ends { out = None } }

-- the out end of the member at a place may meet its other end
abbrev pub MayMeetOut : Parties → ℕ → Type 0
MayMeetOut q i = (name : LinkName) (o : OutSeen) → out_name_of (node_at q i).held ≡ Some name → (node_at q i).ends.out ≡ Some o → MayMeet q name o

-- it has met that, where the member has an out end
abbrev pub MeetsOut : ℕ → Parties → Parties → Type 0
MeetsOut i q q' =
    (((node_at q i).ends.out ≡ None) × (q' ≡ q))
    ⊎ (name : LinkName) × (o : OutSeen) × (o' : OutSeen) × (out_name_of (node_at q i).held ≡ Some name) × ((node_at q i).ends.out ≡ Some o)
    × MeetsIn q name o (with_node q i (with_out (node_at q i) o')) q' o'
