-- What the registrar keeps.
use Rattle.std.specs.Prelude.{◌≡◌, ◌≢◌, ℕ, ◌<◌, Bool, not, nat_eq, IsSome, List, [], ◌∷◌, length, slice_get, slice_set, slice_index_or, option_map, Option, Some, None}
use Rattle.std.specs.List.{filter, All}
use Rattle.group_view.specs.declared.link.LinkName.{LinkName}
use Rattle.group_view.specs.Ring.{is_in}
use Rattle.group_view.specs.View.{Group, ids}
use Rattle.group_view.specs.Change.{opening as opening_group}
use Rattle.group_view.specs.Since.{view_at}
use Rattle.registrar.specs.declared.waiting_link.WaitingLink.{WaitingLink}

-- All views by version, the first of version 1; the ids of those that gave notice that they stopped; and the links that wait
-- for their receivers, in the order of deposit.
pub record Registry (I : Type 0) : Type 0 where
  pub views : List Group
  pub stopped : List ℕ
  pub links : List (WaitingLink I)

module _ {I : Type 0} where
  -- the newest view
  abbrev pub newest : Registry I → Group
  newest r = view_at r.views (length r.views)

  -- whether an id has an entry there
  abbrev pub is_known : Registry I → ℕ → Bool
  is_known r p = is_in p (ids (newest r).entries)

  -- whether a link waits for p
  abbrev pub is_for : ℕ → WaitingLink I → Bool
  is_for p s = nat_eq s.name.to.0 p

  -- the links that wait for others than p
  abbrev pub beside : ℕ → List (WaitingLink I) → List (WaitingLink I)
  beside p links = filter (λ s. not (is_for p s)) links

  -- no link is lent
  abbrev pub AreHere : List (WaitingLink I) → Type 0
  AreHere links = All (λ s. IsSome s.link) links

  -- no other link is lent than the one at this place
  abbrev pub AreHereBut : ℕ → List (WaitingLink I) → Type 0
  AreHereBut place links = (k : ℕ) (d : WaitingLink I) → k < length links → k ≢ place → IsSome (slice_index_or links k d).link

  -- the name of the link at a place
  abbrev pub name_in : Registry I → ℕ → Option LinkName
  name_in r place = option_map (λ s. s.name) (slice_get r.links place)

  -- the end of one that was found
  abbrev pub end_of : Option (WaitingLink I) → Option I
  end_of None = None
  end_of (Some s) = s.link

  -- the end of the link at a place: none where no link stands there, and where it is lent
  abbrev pub end_in : Registry I → ℕ → Option I
  end_in r place = end_of (slice_get r.links place)

  -- the links, with another end at the place where this one was found
  abbrev pub with_end : List (WaitingLink I) → ℕ → Option I → Option (WaitingLink I) → List (WaitingLink I)
  with_end links place link None = links
  with_end links place link (Some s) = slice_set links place (record s { link = link })

  -- the end at a place is another, or none
  abbrev pub end_is : Registry I → ℕ → Option I → Registry I
  end_is r place link = record r { links = with_end r.links place link (slice_get r.links place) }

  -- a link stands at a place, and its end is lent
  pub record IsLent (r : Registry I) (place : ℕ) : Type 0 where
    pub stands : IsSome (name_in r place)
    pub lent : end_in r place ≡ None

  -- The end at a place is lent, where one is there.
  pub record Lends (old : Registry I) (place : ℕ) (result : Option I) (new : Registry I) : Type 0 where
    pub lent : result ≡ end_in old place
    pub stands : new ≡ end_is old place None
    pub found : IsSome result → IsSome (name_in new place)
    pub away : end_in new place ≡ None
    pub others : AreHere old.links → AreHereBut place new.links

  -- an end comes back to a place
  pub record Gives (old : Registry I) (place : ℕ) (end : I) (new : Registry I) : Type 0 where
    pub stands : new ≡ end_is old place (Some end)
    pub here : AreHereBut place old.links → AreHere new.links

-- the group opens, nobody has stopped, and no link waits
abbrev pub founded : {I : Type 0} → List (List ℕ) → Registry I
founded names = record { views = opening_group names ∷ []; stopped = []; links = [] }
