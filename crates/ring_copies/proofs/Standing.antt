-- A copy under way brings the queue as of its mark.
use Rattle.std.proofs.Common.{◌≡◌, ◌<◌, Bool, true, false, List, [], ◌∷◌, ◌++◌, sym, ap, ◌∙◌, arith}
use Rattle.queue_core.specs.Queue.{Item}
use Rattle.queue_sync.specs.Copy.{Load, OneItem}
use Rattle.queue_laws.specs.Copies.{Copy}
use Rattle.queue_laws.proofs.Copied.{IsCopied, copied_onward}
use Rattle.ring_rules.specs.Machine.{World, member_at, runs}
use Rattle.ring_rules.specs.Step.{size}
use Rattle.ring_rules.specs.QueuePart.{part_of}
use Rattle.ring_copies.specs.Copies.{CopyLink, copy_put, item_taken}
use Rattle.ring_copies.specs.Laws.{items_in}
use Rattle.ring_copies.proofs.Rise.{put_items, taken_items}
use Rattle.ring_copies.proofs.Sights.{AreSighted, Around, copying, onward, part_runs}

-- the items that are to come
abbrev pub to_come : CopyLink → List Item
to_come c = items_in (c.loads ++ c.to_put)

-- a copy, as the laws of the queue see it
abbrev pub as_copy : CopyLink → Copy
as_copy c = record { from = c.sender; to = c.receiver; mark = c.mark; aside = c.aside; rest = to_come c }

-- its receiver is a member, and with what is to come it has the queue as of the mark
pub record CopyStands (w : World) (c : CopyLink) : Type 0 where
  pub receiver : c.receiver < size w
  pub copied : IsCopied (copying w) (as_copy c)

-- ---- a step on it

with_items : (w : World) (c : Copy) (aside rest : List Item) → aside ++ rest ≡ c.aside ++ c.rest → IsCopied (copying w) c → IsCopied (copying w) (record c { aside = aside; rest = rest })
with_items w c aside rest e h = record { origin = h.origin; unseen = h.unseen; mark = h.mark; content = λ r. e ∙ h.content r }

pub put_stands : (w : World) (c : CopyLink) → CopyStands w c → CopyStands w (copy_put c)
put_stands w c h = record {
  receiver = h.receiver;
  copied = with_items w (as_copy c) c.aside (to_come (copy_put c)) (put_items c) h.copied;
}

pub item_stands : (w : World) (b : Bool) (a : Item) (c : CopyLink) (ls : List Load) → c.loads ≡ OneItem a ∷ ls → CopyStands w c → CopyStands w (item_taken b a c)
item_stands w b a c ls e h = record {
  receiver = h.receiver;
  copied = with_items w (as_copy c) (c.aside ++ a ∷ []) (to_come (item_taken b a c)) (taken_items b a c ls e) h.copied;
}

-- where Done is next, all has come
pub all_come : (w : World) (c : CopyLink) → to_come c ≡ [] → CopyStands w c → IsCopied (copying w) (record { from = c.sender; to = c.receiver; mark = c.mark; aside = c.aside; rest = [] })
all_come w c none h = with_items w (as_copy c) c.aside [] (ap (λ ks. c.aside ++ ks) (sym none)) h.copied

-- ---- an act of the ring

pub stands_then : (w w' : World) → Around w w' → AreSighted w → (c : CopyLink) → (runs w' c.receiver ≡ true → runs w c.receiver ≡ true)
    → (runs w' c.receiver ≡ true → ((part_of w').view (member_at w' c.receiver).version).is_erased c.sender ≡ false) → CopyStands w c → CopyStands w' c
stands_then w w' a h c back unseen s = record {
  receiver = omega (arith, s.receiver, a.more);
  copied = copied_onward (copying w) (copying w') (as_copy c) (onward w w' a h) a.gives
      (λ r. part_runs w c.receiver ∙ back (sym (part_runs w' c.receiver) ∙ r)) (λ r. unseen (sym (part_runs w' c.receiver) ∙ r)) s.copied;
}

-- the receiver has the view that it had
pub same_view : (w w' : World) → Around w w' → AreSighted w → (c : CopyLink) → runs w c.receiver ≡ true → (member_at w' c.receiver).version ≡ (member_at w c.receiver).version → CopyStands w c
    → ((part_of w').view (member_at w' c.receiver).version).is_erased c.sender ≡ false
same_view w w' a h c r e s =
    ap (λ v. ((part_of w').view v).is_erased c.sender) e
    ∙ ap (λ g. g.is_erased c.sender) ((onward w w' a h).views (member_at w c.receiver).version (a.held c.receiver))
    ∙ s.copied.unseen (part_runs w c.receiver ∙ r)
