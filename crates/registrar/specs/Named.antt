-- Ends that are lent by the names of their links.
use Rattle.std.specs.Prelude.{◌≡◌, ◌⊎◌, ℕ, ◌<◌, slice_get, slice_set, Option, Some, None}
use Rattle.group_view.specs.declared.link.LinkName.{LinkName}
use Rattle.registrar.specs.declared.waiting_link.WaitingLink.{WaitingLink}
use Rattle.registrar.specs.Registry.{Registry, name_in}

module _ {I : Type 0} where
  -- no link has a name
  abbrev pub HasNone : Registry I → LinkName → Type 0
  HasNone r name = (k : ℕ) → name_in r k ≡ Some name → ⊥

  -- the first link that has it, and its place
  pub record IsFirst (r : Registry I) (name : LinkName) (place : ℕ) (s : WaitingLink I) : Type 0 where
    pub there : slice_get r.links place ≡ Some s
    pub named : s.name ≡ name
    pub first : (k : ℕ) → k < place → name_in r k ≡ Some name → ⊥

  -- another end of the link at a place
  abbrev pub with_end_at : Registry I → ℕ → WaitingLink I → Option I → Registry I
  with_end_at r place s end = record r { links = slice_set r.links place (record s { link = end }) }

  -- Nothing is lent, and nothing changes, where no link has a name. Else the first that has it lends its end, where it is there, and
  -- is that still.
  abbrev pub LendsNamed : LinkName → Registry I → Option I → Registry I → Type 0
  LendsNamed name old result new =
      (HasNone old name × (result ≡ None) × (new ≡ old))
      ⊎ ((place : ℕ) × (s : WaitingLink I) × IsFirst old name place s × (result ≡ s.link) × (new ≡ with_end_at old place s None)
      × IsFirst new name place (record s { link = None }))

  -- the end of the first link that has the name is lent
  abbrev pub IsLentNamed : LinkName → Registry I → Type 0
  IsLentNamed name r = (place : ℕ) × (s : WaitingLink I) × IsFirst r name place s × (s.link ≡ None)

  -- an end comes back to it
  abbrev pub GivesNamed : LinkName → Registry I → I → Registry I → Type 0
  GivesNamed name old end new = (place : ℕ) (s : WaitingLink I) → IsFirst old name place s → new ≡ with_end_at old place s (Some end)
