-- Links that are lent, and come back.
use Rattle.std.proofs.Common.{◌≡◌, Result, Ok, Err, not, refl, sym, subst}
use Rattle.std.specs.Prelude.{IsSome, OnOk, OnErr}
use Rattle.std.proofs.lemmas.List.Elements.{All-push, All-filter}
use Rattle.group_view.specs.declared.request.Request.{Request}
use Rattle.group_view.specs.declared.request.Request.TheVariants.{Mark, Refresh, Admit, Erase, Synced, Stopped, Deposit, Collect}
use Rattle.registrar.specs.Registry.{Registry, AreHere, is_for}
use Rattle.registrar.specs.Handled.{handled, waiting}

module _ {I : Type 0} where
  -- no request lends a link
  handled_here : (r : Registry I) (request : Request I) → AreHere r.links → AreHere (handled r request).links
  handled_here r (Mark by dead view has_current) h = h
  handled_here r (Refresh by) h = h
  handled_here r (Admit by name) h = h
  handled_here r (Erase by origin got retired view) h = h
  handled_here r (Synced by missing) h = h
  handled_here r (Stopped by) h = h
  handled_here r (Deposit by to view kind link) h = All-push (λ s. IsSome s.link) r.links (waiting by to view kind link) h refl
  handled_here r (Collect by) h = All-filter (λ s. not (is_for by.0 s)) (λ s. IsSome s.link) r.links h

  pub done_here : {A E : Type 0} (r r' : Registry I) (request : Request I) (result : Result A E) → AreHere r.links
      → OnOk result (r' ≡ handled r request) → OnErr result (r' ≡ r) → AreHere r'.links
  done_here r r' request (Ok x) h e k = subst (λ q. AreHere q.links) (sym e) (handled_here r request h)
  done_here r r' request (Err x) h k e = subst (λ q. AreHere q.links) (sym e) h
