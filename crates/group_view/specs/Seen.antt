-- What a View shows, and what it keeps.
use Rattle.group_view.specs.View.{Group}
use Rattle.group_view.specs.Kept.{IsGroup}
use Rattle.group_view.specs.declared.view.View.TheInside.{Inside}

-- the group that a View holds
abbrev pub group_of : Inside → Group
group_of a = record { version = a.version; entries = a.entries; master = a.master; term = a.term; next_id = a.next_id }

-- a View holds one of these
abbrev pub KeepsGroup : Inside → Type 0
KeepsGroup a = IsGroup (group_of a)
