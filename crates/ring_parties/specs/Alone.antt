-- A member that is alone in its round.
use Rattle.std.specs.Prelude.{◌≡◌, ◌<◌, true, false}
use Rattle.lamport_merge.specs.Recorder.{is_used_up}
use Rattle.gm_member.specs.Shown.{recorded_of, spare_of}
use Rattle.ring_parties.specs.Parties.{ANode}

-- What such a member gives carries time 0; and it has room to record what it does next.
pub record IsAlone (m : ANode) : Type 0 where
  pub alone : (recorded_of m).is_alone ≡ true
  pub lasts : is_used_up (recorded_of m) ≡ false
  pub room : 0 < spare_of m
