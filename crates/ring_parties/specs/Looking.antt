-- What a member that has another view hands on: the link that it opens, and the out end that it replaces.
use Rattle.std.specs.Prelude.{ℕ, Bool, true, false, List, [], ◌∷◌, Option, Some, None, option_map}
use Rattle.ordered_link.specs.declared.ring.RingOut.{RingOut}
use Rattle.ordered_link.specs.declared.ring.RingIn.{RingIn}
use Rattle.group_view.specs.declared.link.LinkName.{LinkName}
use Rattle.group_view.specs.declared.request.Request.{Request}
use Rattle.group_view.specs.declared.request.Answer.{Answer}
use Rattle.group_view.specs.declared.request.Answer.TheVariants.{Viewed, Admitted}
use Rattle.ring_names.specs.declared.reason.Reason.{Reason}
use Rattle.activity.specs.declared.packet.Load.{Load}
use Rattle.group_view.specs.Request.{handed_over}
use Rattle.group_view.specs.View.{Group}
use Rattle.group_view.specs.Change.{marked}
use Rattle.registrar.specs.Registry.{Registry, newest}
use Rattle.registrar.specs.Asked.{request_refusal}
use Rattle.registrar.specs.Handled.{admitted_view, erased_view, synced_view}
use Rattle.gm_member.specs.declared.questions.Ask.{Ask}
use Rattle.gm_member.specs.declared.questions.Ask.TheVariants.{Mark, Admit, Erase, Register, Refresh, Collect}
use Rattle.gm_member.specs.Held.{up_refused, answered_held}
use Rattle.gm_member.specs.Questions.{asked_for}
use Rattle.ring_parties.specs.declared.pending_deposit.PendingDeposit.{PendingDeposit}
use Rattle.ring_parties.specs.Ends.{OutSeen}
use Rattle.ring_parties.specs.Acting.{Looks}
use Rattle.ring_parties.specs.Parties.{Shown, Deposit, in_seen, named_out}

-- the first of a list, where it has one
abbrev pub first_of : {A : Type 0} → List A → Option A
first_of [] = None
first_of (a ∷ rest) = Some a

-- the link that is to wait at the registrar, of the requests that follow
abbrev pub to_deposit : List (Request (RingIn Load)) → Option Deposit
to_deposit [] = None
to_deposit (first ∷ rest) = option_map (λ d. record { name = d.0; end = Some (in_seen d.1) }) (handed_over first)

-- the same of one that is kept till it is handed over
abbrev pub pending_shown : Option PendingDeposit → Option Deposit
pending_shown pending = option_map (λ u. record { name = u.name; end = Some (in_seen u.link) }) pending

-- an out end that was replaced
abbrev pub replaced_seen : Option (LinkName × RingOut Load) → Option (LinkName × OutSeen)
replaced_seen replaced = option_map named_out replaced

-- a member that has given up the ends that it has replaced or left
abbrev pub tidied : Shown → Shown
tidied a = record a { ends = record a.ends { old_outs = []; old_ins = [] } }

-- one whose question is closed
abbrev pub without_question : Shown → Shown
without_question a = record a { held = answered_held a.held }

-- A member has another view (`Looks`).
pub record HasLooked (v : Group) (a b : Shown) (opened : Option Deposit) (replaced : Option (LinkName × OutSeen)) : Type 0 where
  pub looks : Looks v a b opened replaced

-- ---- a member that asks for a view

-- whether the registrar is to make one
abbrev pub makes_view : Ask → Bool
makes_view (Mark dead) = true
makes_view (Admit name) = true
makes_view (Erase origin) = true
makes_view (Register missing) = true
makes_view Refresh = false
makes_view Collect = false

-- why a member doesn't ask, or isn't answered
abbrev pub ask_refused : {I : Type 0} → Registry I → Shown → Ask → Option Reason
ask_refused r m what = up_refused m.held (request_refusal r (asked_for m.held what))

-- the view that the registrar makes for the member of an id; where it makes none, its newest
abbrev pub view_for : {I : Type 0} → Registry I → ℕ → Ask → Group
view_for r x (Mark dead) = marked (newest r) dead.0
view_for r x (Admit name) = admitted_view r x name
view_for r x (Erase origin) = erased_view r origin.0
view_for r x (Register missing) = synced_view r x
view_for r x Refresh = newest r
view_for r x Collect = newest r

-- the view that an answer brings, where it brings one
abbrev pub brought : {I : Type 0} → Answer I → Option Group
brought (Viewed v) = Some v
brought (Admitted v id) = Some v
brought a = None
