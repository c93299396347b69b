-- When a step of a member may happen.
use Rattle.std.specs.Prelude.{◌≡◌, ℕ, ◌<◌, ◌≤◌, true, false, length, Option, Some}
use Rattle.group_view.specs.View.{is_dead, is_alias, entry_in}
use Rattle.ring_rules.specs.View.{is_live}
use Rattle.ring_rules.specs.Machine.{Up, Stopped, Link, World, row_at, member_at, link_at, view_in, newest, is_kept, oldest, Waiting}
use Rattle.ring_rules.specs.Step.{size}
use Rattle.ring_rules.specs.Refusal.{is_empty}

-- the conditions of a take of y from its current link s
pub record MayTake (w : World) (y s : ℕ) : Type 0 where
  pub is_member : y < size w
  pub up : (member_at w y).phase ≡ Up
  pub current : (member_at w y).current ≡ Some s
  pub has : is_empty (link_at w s).packets ≡ false
  pub version : (oldest (link_at w s)).version ≤ (member_at w y).version

-- the conditions of the first take of a y that waits; versions begin with 1
pub record MayBegin (w : World) (y s : ℕ) : Type 0 where
  pub is_member : y < size w
  pub waits : (member_at w y).phase ≡ Waiting
  pub current : (member_at w y).current ≡ Some s
  pub has : is_empty (link_at w s).packets ≡ false
  pub version : (oldest (link_at w s)).version ≤ (member_at w y).version
  pub late : 0 < (member_at w y).version

-- what y may take from: nothing, or a link to it that is kept up to its view and isn't newer
pub record IsPickable (w : World) (y : ℕ) (c : Option ℕ) : Type 0 where
  pub lt : (s : ℕ) → c ≡ Some s → s < length w.links
  pub receiver : (s : ℕ) → c ≡ Some s → (link_at w s).receiver ≡ y
  pub kept_yet : (s : ℕ) → c ≡ Some s → is_kept w (link_at w s) (member_at w y).version ≡ true
  pub opened : (s : ℕ) → c ≡ Some s → (link_at w s).opened ≤ (member_at w y).version

-- x may refresh to v
pub record MayLook (w : World) (x v : ℕ) : Type 0 where
  pub is_member : x < size w
  pub up : (member_at w x).phase ≡ Up
  pub later : (member_at w x).version ≤ v
  pub upto : v ≤ newest w

-- x may have d marked dead
pub record MayMark (w : World) (x d : ℕ) : Type 0 where
  pub is_member : x < size w
  pub up : (member_at w x).phase ≡ Up
  pub rests : (member_at w d).phase ≡ Stopped
  pub lives : is_live (view_in w (newest w)) d ≡ true

-- x may have a dead d erased
pub record MayErase (w : World) (x d : ℕ) : Type 0 where
  pub is_member : x < size w
  pub up : (member_at w x).phase ≡ Up
  pub dead : is_dead (view_in w (newest w)).entries d ≡ true
  pub owned : is_alias (view_in w (member_at w x).version).entries x d ≡ true
  pub come_round : (row_at (member_at w x) d).got ≡ (row_at (member_at w x) d).retired

-- x may be registered as synchronised
pub record MaySync (w : World) (x : ℕ) : Type 0 where
  pub is_member : x < size w
  pub up : (member_at w x).phase ≡ Up
  pub unsynced : (entry_in (view_in w (newest w)).entries x).synced ≡ false
  pub full : (member_at w x).mirror.missing ≡ Some 0

-- a link goes the same way with the same packets, whatever its credit and its end are
pub record IsSameWay (l l' : Link) : Type 0 where
  pub sender : l'.sender ≡ l.sender
  pub receiver : l'.receiver ≡ l.receiver
  pub opened : l'.opened ≡ l.opened
  pub packets : l'.packets ≡ l.packets
