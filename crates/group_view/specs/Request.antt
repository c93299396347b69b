-- Requests that hand over a link.
use Rattle.std.specs.Prelude.{Option, Some, None}
use Rattle.group_view.specs.declared.link.LinkName.{LinkName}
use Rattle.group_view.specs.declared.request.Request.{Request}
use Rattle.group_view.specs.declared.request.Request.TheVariants.{Mark, Refresh, Admit, Erase, Synced, Stopped, Deposit, Collect}

module _ {I : Type 0} where
  -- the request to hand over the receiving end of a link of this name
  abbrev pub deposit_of : LinkName → I → Request I
  deposit_of name link = Deposit name.from name.to name.view name.kind link

  -- the link that a request hands over, by its name and its receiving end
  abbrev pub handed_over : Request I → Option (LinkName × I)
  handed_over (Mark by dead view has_current) = None
  handed_over (Refresh by) = None
  handed_over (Admit by name) = None
  handed_over (Erase by origin got retired view) = None
  handed_over (Synced by missing) = None
  handed_over (Stopped by) = None
  handed_over (Deposit by to view kind link) = Some (record { from = by; to = to; view = view; kind = kind }, link)
  handed_over (Collect by) = None
