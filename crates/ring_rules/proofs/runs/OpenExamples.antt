-- Small rings, computed: whose packets are open, and which of them are early and late.
use Rattle.std.proofs.Common.{◌≡◌, ◌++◌, List, [], ◌∷◌, refl, arith}
use Rattle.ring_rules.specs.View.{left_by, right_by}
use Rattle.ring_rules.specs.Machine.{World, is_kept_of}
use Rattle.ring_rules.specs.Step.{opening}
use Rattle.ring_rules.specs.Event.{Event, Cast, Put, Take, TakeEnd, Stop, Mark, Refresh, Pick, IsRun, last}
use Rattle.ring_rules.specs.OpenLinks.{open_links, the_walk}
use Rattle.ring_rules.proofs.runs.Examples.{a, b, c}

-- a ring of three
abbrev pub three : World
three = opening (record { initial = 4; more = 2; positive = omega arith; covered = omega arith; small = omega arith }) (a ∷ b ∷ c ∷ [])

-- a has put its message, and the packet stands on the link to b
abbrev put : List Event
put = Cast a [] ∷ Put a ∷ []

put_runs : IsRun three put
unfolding left_by right_by is_kept_of
put_runs = (refl, (refl, tt))

put_walk : the_walk (last three put) 1 ≡ 1 ∷ 1 ∷ 0 ∷ 0 ∷ 0 ∷ 0 ∷ 0 ∷ 0 ∷ 0 ∷ []
unfolding left_by right_by is_kept_of
put_walk = refl

-- a stops, and b is the owner; the packet is early
stop_walk : the_walk (last three (put ++ Stop a ∷ [])) 1 ≡ 1 ∷ 0 ∷ 0 ∷ 0 ∷ 0 ∷ 0 ∷ 0 ∷ []
unfolding left_by right_by is_kept_of
stop_walk = refl

-- c marks a and opens a link to b, which hasn't that view yet; both links are open to b, and what comes on the new one is late
abbrev ahead : List Event
ahead = put ++ Stop a ∷ Mark c a ∷ []

ahead_runs : IsRun three ahead
unfolding left_by right_by is_kept_of
ahead_runs = (refl, (refl, (refl, (refl, tt))))

ahead_links : open_links (last three ahead) 2 ≡ 0 ∷ 3 ∷ []
unfolding left_by right_by is_kept_of
ahead_links = refl

ahead_walk : the_walk (last three ahead) 1 ≡ 1 ∷ 0 ∷ 0 ∷ 0 ∷ 0 ∷ 0 ∷ 0 ∷ 0 ∷ 0 ∷ []
unfolding left_by right_by is_kept_of
ahead_walk = refl

-- b takes what a put, and the end, and marks a; c opens its link to b, and the message goes round to it: the link at b's door
-- counts before b picks it, and the link from a no longer
abbrev round_again : List Event
round_again = put ++ Stop a ∷ Take b ∷ TakeEnd b ∷ Mark b a ∷ Refresh c 2 ∷ Put b ∷ Take c ∷ Put c ∷ []

round_again_runs : IsRun three round_again
unfolding left_by right_by is_kept_of
round_again_runs = (refl, (refl, (refl, (refl, (refl, (refl, (refl, (refl, (refl, (refl, tt))))))))))

round_again_links : open_links (last three round_again) 2 ≡ 3 ∷ []
unfolding left_by right_by is_kept_of
round_again_links = refl

round_again_walk : the_walk (last three round_again) 1 ≡ 1 ∷ 1 ∷ 1 ∷ 0 ∷ 0 ∷ 0 ∷ 0 ∷ 0 ∷ 0 ∷ []
unfolding left_by right_by is_kept_of
round_again_walk = refl

-- a walk of the link that is current then
picked_walk : the_walk (last three (round_again ++ Pick b ∷ Take b ∷ Take b ∷ [])) 1 ≡ 1 ∷ 1 ∷ 1 ∷ 0 ∷ 0 ∷ []
unfolding left_by right_by is_kept_of
picked_walk = refl
