-- What a member has that begins with its first packet: it sent on no link.
use Rattle.std.proofs.Common.{◌≡◌, Bool, true, false, List, Option, Some, None, refl, sym, subst}
use Rattle.ring_rules.specs.declared.phase.Phase.TheVariants.{Up}
use Rattle.activity.specs.Kept.{KeptRow}
use Rattle.gm_member.specs.declared.links.OutLink.{OutLink}
use Rattle.gm_member.specs.View.{count_of, last_sent_on, has_ended, is_up_where}
use Rattle.gm_member.specs.Within.{IsWithin}
use Rattle.gm_member.proofs.Within.{none_within}

-- nothing is there where none counts
pub none_counts : {A : Type 0} (there : Option A) → count_of there ≡ 0 → there ≡ None
none_counts None e = refl
none_counts (Some a) e = cc

-- so nothing was sent
pub silent_within : {O : Type 0} (out : Option (OutLink O)) (rows : List KeptRow) → count_of out ≡ 0 → IsWithin (last_sent_on out) rows
silent_within out rows e = subst (λ o. IsWithin (last_sent_on o) rows) (sym (none_counts out e)) (none_within rows)

-- and nothing has ended
pub silent_unended : {O : Type 0} (ended : O → Bool) (out : Option (OutLink O)) → count_of out ≡ 0 → has_ended ended out ≡ false
silent_unended ended out e = subst (λ o. has_ended ended o ≡ false) (sym (none_counts out e)) refl

-- who is up may have a question open
pub up_where : (asked : Bool) → is_up_where asked Up ≡ true
up_where true = refl
up_where false = refl
