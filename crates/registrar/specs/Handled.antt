-- What is done for a request, and what is answered.
use Rattle.std.specs.Prelude.{ℕ, cond, List, [], ◌∷◌, ◌++◌, Option, Some, None}
use Rattle.group_view.specs.declared.link.LinkKind.{LinkKind}
use Rattle.group_view.specs.declared.link.LinkName.{LinkName}
use Rattle.group_view.specs.declared.request.Request.{Request}
use Rattle.group_view.specs.declared.request.Request.TheVariants.{Mark, Refresh, Admit, Erase, Synced, Stopped, Deposit, Collect}
use Rattle.group_view.specs.declared.request.Answer.{Answer}
use Rattle.group_view.specs.declared.request.Answer.TheVariants.{Viewed, Admitted, Links, Noted}
use Rattle.group_view.specs.declared.request.Deposited.{Deposited}
use Rattle.group_view.specs.View.{Group, as_id}
use Rattle.group_view.specs.Change.{marked, erased, registered, admitted}
use Rattle.promotion.specs.Elect.{installed}
use Rattle.ring_names.specs.declared.numbers.MemberId.{MemberId}
use Rattle.registrar.specs.declared.waiting_link.WaitingLink.{WaitingLink}
use Rattle.registrar.specs.Registry.{Registry, newest, is_for, beside}

module _ {I : Type 0} where
  -- a view follows the others
  abbrev pub with_view : Registry I → Group → Registry I
  with_view r g = record r { views = r.views ++ g ∷ [] }

  -- the view in which x has admitted one of this name
  abbrev pub admitted_view : Registry I → ℕ → List ℕ → Group
  admitted_view r x name = admitted (newest r) x name

  -- the view in which p is erased, and a master is elected where none stands
  abbrev pub erased_view : Registry I → ℕ → Group
  erased_view r p = installed (erased (newest r) p)

  -- the view in which x is registered as synchronised, and a master is elected where none stands
  abbrev pub synced_view : Registry I → ℕ → Group
  synced_view r x = installed (registered (newest r) x)

  -- p gave notice
  abbrev pub with_stopped : Registry I → ℕ → Registry I
  with_stopped r p = record r { stopped = r.stopped ++ p ∷ [] }

  -- a link that waits, as its sender deposits it
  abbrev pub waiting : MemberId → MemberId → ℕ → LinkKind → I → WaitingLink I
  waiting from to view kind link = record { name = record { from = from; to = to; view = view; kind = kind }; link = Some link }

  -- a link waits behind the others
  abbrev pub with_link : Registry I → WaitingLink I → Registry I
  with_link r s = record r { links = r.links ++ s ∷ [] }

  -- the links for p wait no more
  abbrev pub without_links : Registry I → ℕ → Registry I
  without_links r p = record r { links = beside p r.links }

  -- a link as its receiver gets it; of a link that is lent there is none
  abbrev pub deposited : LinkName → Option I → List (Deposited I)
  deposited name None = []
  deposited name (Some link) = record { from = name.from; view = name.view; kind = name.kind; link = link } ∷ []

  -- the links that wait for p, in their order
  abbrev pub links_for : ℕ → List (WaitingLink I) → List (Deposited I)
  links_for p [] = []
  links_for p (s ∷ ss) = cond (is_for p s) (deposited s.name s.link ++ links_for p ss) (links_for p ss)

  -- what stands after a request that nothing refuses
  abbrev pub handled : Registry I → Request I → Registry I
  handled r (Mark by dead view has_current) = with_view r (marked (newest r) dead.0)
  handled r (Refresh by) = r
  handled r (Admit by name) = with_view r (admitted_view r by.0 name)
  handled r (Erase by origin got retired view) = with_view r (erased_view r origin.0)
  handled r (Synced by missing) = with_view r (synced_view r by.0)
  handled r (Stopped by) = with_stopped r by.0
  handled r (Deposit by to view kind link) = with_link r (waiting by to view kind link)
  handled r (Collect by) = without_links r by.0

  -- and what is answered
  abbrev pub answered : Registry I → Request I → Answer I
  answered r (Mark by dead view has_current) = Viewed (marked (newest r) dead.0)
  answered r (Refresh by) = Viewed (newest r)
  answered r (Admit by name) = Admitted (admitted_view r by.0 name) (as_id (newest r).next_id)
  answered r (Erase by origin got retired view) = Viewed (erased_view r origin.0)
  answered r (Synced by missing) = Viewed (synced_view r by.0)
  answered r (Stopped by) = Noted
  answered r (Deposit by to view kind link) = Noted
  answered r (Collect by) = Links (links_for by.0 r.links)
