-- Ends that are lent by the names of their links.
use Rattle.std.specs.Prelude.{◌≡◌, ◌⊎◌, ℕ, ◌<◌, Option, Some, None}
use Rattle.ordered_link.specs.declared.ends.LinkOut.{Ghosts}
use Rattle.group_view.specs.declared.link.LinkName.{LinkName}
use Rattle.activity.specs.declared.packet.Load.{Load}
use Rattle.gm_member.specs.declared.member.Member.{Member}
use Rattle.gm_member.specs.Held.{Held}
use Rattle.gm_member.specs.Shown.{held_of, ends_of, in_name_of, in_end}
use Rattle.gm_member.specs.Calls.{LendsIn, GivesIn}

-- no link to a member has a name
abbrev pub HasNone : Held → LinkName → Type 0
HasNone h name = (place : ℕ) → in_name_of h place ≡ Some name → ⊥

-- the first that has it stands at a place
pub record IsFirst (h : Held) (name : LinkName) (place : ℕ) : Type 0 where
  pub named : in_name_of h place ≡ Some name
  pub first : (k : ℕ) → k < place → in_name_of h k ≡ Some name → ⊥

module _ {O I : Type 0} {g : Ghosts O Load} where
  -- Nothing is lent, and nothing changes, where no link has a name. Else the first that has it lends its end, where it is there.
  abbrev pub LendsNamed : LinkName → Member O I g → Member O I g → Option I → Type 0
  LendsNamed name m n result =
      (HasNone (held_of m) name × (result ≡ None) × (n ≡ m))
      ⊎ ((place : ℕ) × IsFirst (held_of m) name place × LendsIn place m n result)

  -- the end of the first link that has the name is lent
  abbrev pub IsLentNamed : LinkName → Member O I g → Type 0
  IsLentNamed name m = (place : ℕ) × IsFirst (held_of m) name place × (in_end (ends_of m) place ≡ None)

  -- an end comes back to it
  abbrev pub GivesNamed : LinkName → I → Member O I g → Member O I g → Type 0
  GivesNamed name end m n = (place : ℕ) → IsFirst (held_of m) name place → GivesIn place end m n
