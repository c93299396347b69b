-- A party that rests.
use Rattle.std.proofs.Common.{◌≡◌, ℕ, Bool, true, false, cond, List, [], Option, Some, None, refl, sym, append-nil}
use Rattle.rtrb.specs.Ring.{sent, received as got}
use Rattle.ordered_link.specs.declared.ring.RingOut.{RingOut}
use Rattle.ordered_link.specs.declared.ring.RingIn.{RingIn}
use Rattle.activity.specs.declared.packet.Load.{Load}
use Rattle.ring_rules.specs.OpenLinks.{is_place}
use Rattle.gm_member.specs.Shown.{ends_of, recorded_of}
use Rattle.ring_parties.specs.Turn.{timed_items, timed_grants, OutsPass, InsPass}
use Rattle.ring_parties.proofs.turns.Named.{names_none}
use Rattle.ring_parties.proofs.turns.Sides.{RestsAt}

nothing_if : {X : Type 0} (b : Bool) (xs : List X) → xs ≡ [] → xs ≡ cond b [] []
nothing_if true xs e = e
nothing_if false xs e = e

outs_rest : (round : ℕ) (c : Option (RingOut Load)) → OutsPass round [] [] c c
outs_rest round None = (refl, refl, refl)
outs_rest round (Some o) = (o, refl, record { items = sym (append-nil (timed_items round (sent o.items))); unended = refl; grants = sym (append-nil (timed_grants round (got o.back))); back = refl; ended = refl; initial = refl; ring = refl })

ins_rest : (round : ℕ) (c : Option (RingIn Load)) → ((n : RingIn Load) → c ≡ Some n → n.late ≡ None) → InsPass round [] [] c c
ins_rest round None late = (refl, refl, refl)
ins_rest round (Some n) late = (
  n,
  refl,
  record {
    items = sym (append-nil (timed_items round (got n.items)));
    grants = sym (append-nil (timed_grants round (sent n.back)));
    late = late n refl;
    initial = refl;
    ring = refl;
    rests = λ e. record { items = refl; end_stands = e; room = refl };
  },
)

-- it has come nowhere, by no entries
pub rests_at : RestsAt
rests_at round a p sits late = record {
  run = refl;
  sits = sits;
  same_out = refl;
  same_current = refl;
  same_door = refl;
  names = names_none a.held;
  put = [];
  gained = [];
  taken = [];
  given = [];
  puts_are = λ s. nothing_if (is_place a.out s) [] refl;
  gains_are = λ s. nothing_if (is_place a.out s) [] refl;
  takes_are = λ s. nothing_if (is_place a.current s) [] refl;
  gives_are = λ s. nothing_if (is_place a.current s) [] refl;
  out_end = outs_rest round (ends_of p.node).out;
  in_end = ins_rest round (ends_of p.node).link late;
  others = refl;
  recorded = sym (append-nil (recorded_of p.node).entries);
}
