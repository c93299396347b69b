-- Done is the last load of each copy.
use Rattle.std.proofs.Common.{◌≡◌, Bool, List, [], ◌∷◌, ◌++◌, refl, sym, ap, subst, ◌∙◌, arith}
use Rattle.std.specs.Prelude.{take, drop, ⊤}
use Rattle.std.proofs.lemmas.List.{append_assoc, take-append-drop}
use Rattle.queue_core.specs.Queue.{Item}
use Rattle.queue_sync.specs.Copy.{Load, OneItem, Done, loads_of}
use Rattle.ring_rules.specs.Machine.{World, member_at}
use Rattle.ring_copies.specs.Copies.{CopyLink, load_taken}
use Rattle.ring_copies.specs.Events.{CopyEvent, IsRun, last, without_copies}
use Rattle.ring_copies.proofs.EachCopy.{EachKept, OfAll, run_kept}

-- Done is the last of these
abbrev pub IsClosed : List Load → Type 0
IsClosed [] = ⊤
IsClosed (OneItem i ∷ ls) = IsClosed ls
IsClosed (Done ∷ ls) = ls ≡ []

-- and of those on the way and those to be put
abbrev pub Closes : CopyLink → Type 0
Closes c = IsClosed (c.loads ++ c.to_put)

items_closed : (xs : List Item) → IsClosed (loads_of xs)
items_closed [] = refl
items_closed (x ∷ xs) = items_closed xs

tail_closed : (l : Load) (ls ts : List Load) → IsClosed ((l ∷ ls) ++ ts) → IsClosed (ls ++ ts)
tail_closed (OneItem i) ls ts h = h
tail_closed Done ls ts h = subst IsClosed (sym h) tt

-- so where Done is next, nothing is left behind it
pub done_last : (c : CopyLink) (ls : List Load) → Closes c → c.loads ≡ Done ∷ ls → ls ++ c.to_put ≡ []
done_last c ls h e = subst (λ ks. IsClosed (ks ++ c.to_put)) e h

load_closed : (b : Bool) (c : CopyLink) (l : Load) (ls : List Load) → c.loads ≡ l ∷ ls → Closes c → Closes (load_taken b c)
load_closed b c l ls e h = subst (λ ks. IsClosed (drop 1 ks ++ c.to_put)) (sym e) (tail_closed l ls c.to_put (subst (λ ks. IsClosed (ks ++ c.to_put)) e h))

pub closes_each : EachKept (λ w. ⊤) Closes
closes_each = record {
  opens = λ w x n _. items_closed (member_at w x).mirror.queue.items;
  steps = record {
    puts = λ c some can h. subst IsClosed (sym (append_assoc c.loads (take 1 c.to_put) (drop 1 c.to_put) ∙ ap (λ ls. c.loads ++ ls) (take-append-drop 1 c.to_put))) h;
    gains = λ c some h. h;
    items = λ b a c ls e h. load_closed b c (OneItem a) ls e h;
    done = λ b c ls e h. load_closed b c Done ls e h;
    drops = λ c h. h;
    halts = λ c h. h;
    closes = λ c h. h;
    frees = λ c h. h;
  };
}

-- in every state of every run
pub copies_are_closed : (w : World) (es : List CopyEvent) → IsRun (without_copies w) es → OfAll Closes (last (without_copies w) es).copies
copies_are_closed w es r = run_kept (λ w. ⊤) Closes closes_each (λ W e k p. tt) (without_copies w) es r tt (λ j bad. absurd (omega arith))
