-- Which rings an end belongs to.
use Rattle.std.specs.Prelude.{ℕ, ◌+◌}
use denote.RawPtr.{Ptr}
use Rattle.std.specs.Global.{Global}
use Rattle.rtrb.specs.Shared.{Names}
use Rattle.rtrb.specs.Ring.{producer_capacity}
use Rattle.ordered_link.specs.declared.ring.RingOut.{RingOut}
use Rattle.ordered_link.specs.declared.ring.RingIn.{RingIn}

-- a ring, by what both its ends know it by
pub record RingName : Type 0 where
  pub words : Ptr
  pub slots : Ptr
  pub names : Names
  pub heap : Global

-- the two rings of a link, and how many items the first has slots for
pub record PairName : Type 0 where
  pub there : RingName
  pub back : RingName
  pub slots : ℕ

module _ {T : Type 0} where
  -- those of an out end
  abbrev pub out_pair : RingOut T → PairName
  out_pair o = record {
    there = record { words = o.items.end.words; slots = o.items.end.slots; names = o.items.end.names; heap = o.items.end.heap };
    back = record { words = o.back.end.words; slots = o.back.end.slots; names = o.back.end.names; heap = o.back.end.heap };
    slots = producer_capacity o.items;
  }

  -- those of an in end, whose way back has one slot less
  abbrev pub in_pair : RingIn T → PairName
  in_pair i = record {
    there = record { words = i.items.end.words; slots = i.items.end.slots; names = i.items.end.names; heap = i.items.end.heap };
    back = record { words = i.back.end.words; slots = i.back.end.slots; names = i.back.end.names; heap = i.back.end.heap };
    slots = producer_capacity i.back + 1;
  }
