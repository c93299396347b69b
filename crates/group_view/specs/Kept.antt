-- What every view keeps.
use Rattle.std.specs.Prelude.{◌≡◌, ℕ, ◌+◌, ◌≤◌, ◌<◌, true, cond, nat_lt, length, sum_by}
use Rattle.std.specs.List.{list_all}
use Rattle.group_view.specs.declared.entry.Entry.{Entry}
use Rattle.group_view.specs.declared.entry.Mark.{Mark}
use Rattle.group_view.specs.declared.entry.Mark.TheVariants.{Live, Dead, Erased}
use Rattle.group_view.specs.Ring.{AreDistinct}
use Rattle.group_view.specs.View.{Group, ids, stands_in}
use Rattle.group_view.specs.Change.{most_entries}

-- how many changes a mark stands for: an entry is marked dead once, and erased once
abbrev pub changes_of_mark : Mark → ℕ
changes_of_mark Live = 0
changes_of_mark Dead = 1
changes_of_mark Erased = 2

-- how many changes an entry stands for: its admission, its mark, and its registration as synchronised
abbrev pub changes_of : Entry → ℕ
changes_of e = 1 + changes_of_mark e.mark + cond e.synced 1 0

-- At most 64 entries of different ids below the next one, and fewer versions than changes, since the first version has all
-- that its entries stand for at once. So a version is below 256. A term is at most the version, and below it where no
-- master stands: between two elections a master is erased.
pub record IsGroup (g : Group) : Type 0 where
  pub few : length g.entries ≤ most_entries
  pub distinct : AreDistinct (ids g.entries)
  pub numbered : g.next_id ≡ length g.entries + 1
  pub fresh : list_all (λ n. nat_lt n g.next_id) (ids g.entries) ≡ true
  pub counted : g.version < sum_by changes_of g.entries
  pub led : g.term + cond (stands_in g.entries g.master) 0 1 ≤ g.version
