-- What a copy under way has: its ends are members, Done is still to come, and who doesn't go on with it has a reason.
use Rattle.std.proofs.Common.{◌≡◌, ◌≢◌, ℕ, ◌+◌, ◌<◌, ◌≤◌, Bool, true, false, not, cond, min, nat_eq, if◌then◌else◌, List, [], ◌∷◌, ◌++◌, length, refl, sym, ap, ◌∙◌, subst, arith, ⊎_elim}
use Rattle.std.specs.Prelude.{◌&&◌, take, drop, ⊤}
use Rattle.std.proofs.lemmas.Bool.{cases_eq, cases_Bool, false≢true}
use Rattle.std.proofs.lemmas.List.{append_assoc, take-append-drop}
use Rattle.credit_flow.specs.Credit.{is_grant_next}
use Rattle.group_view.specs.View.{Group}
use Rattle.group_view.proofs.Rings.{nat_eq-same}
use Rattle.queue_core.specs.Queue.{Item}
use Rattle.queue_sync.specs.Copy.{Load, OneItem, Done, loads_of}
use Rattle.ring_rules.specs.Refusal.{is_empty}
use Rattle.ring_rules.specs.Rows.{Flow, counted}
use Rattle.ring_rules.specs.View.{is_live}
use Rattle.ring_rules.specs.Machine.{World, member_at, view_in, newest, runs}
use Rattle.ring_rules.specs.Step.{size}
use Rattle.ring_rules.specs.Kind.{Kind, Says, Steps, Copying, Changes, Stops, Reads, Tells}
use Rattle.ring_copies.specs.Copies.{CopyLink, copy_link_at, is_put_by, is_taken_by, is_gone, is_blocked_at, copy_put, copy_gained, judged, item_taken, dropped, halted_one, looked_one, let_go_one, let_go}
use Rattle.ring_copies.specs.Events.{copies_after}
use Rattle.ring_copies.proofs.EachCopy.{OfAll, map_to}
use Rattle.ring_copies.proofs.Stays.{Stays, reads_view}
use Rattle.ring_copies.proofs.Others.{Leaves, is_stop}

-- Done is among these
abbrev pub HasDone : List Load → Type 0
HasDone [] = ⊥
HasDone (OneItem i ∷ ls) = HasDone ls
HasDone (Done ∷ ls) = ⊤

pub items_done : (xs : List Item) → HasDone (loads_of xs)
items_done [] = tt
items_done (i ∷ xs) = items_done xs

-- its ends are members, and it was opened by the newest view; Done is still to come; a master that has stopped has put an end,
-- and one that goes on sees its mirror live
pub record GoesOn (w : World) (c : CopyLink) : Type 0 where
  pub some : 1 ≤ c.sender
  pub sender : c.sender < size w
  pub least : 1 ≤ c.receiver
  pub receiver : c.receiver < size w
  pub opened : c.opened ≤ newest w
  pub finishes : HasDone (c.loads ++ c.to_put)
  pub halted : runs w c.sender ≡ false → c.to_put ≢ [] → c.ended ≡ true
  pub live : runs w c.sender ≡ true → c.to_put ≢ [] → is_live (view_in w (member_at w c.sender).version) c.receiver ≡ true

-- and grants are held back only while the mirror is blocked
pub record Fits (w : World) (c : CopyLink) : Type 0 where
  pub going : GoesOn w c
  pub blocked : 0 < c.flow.receiver.held → is_blocked_at w c.receiver ≡ true

abbrev pub MayFit : World → CopyLink → Type 0
MayFit w c = c.over ≡ false → Fits w c

pub over_fits : (w : World) (c : CopyLink) → c.over ≡ true → MayFit w c
over_fits w c e o = absurd (false≢true (sym o ∙ e))

-- whatever its credit is
with_flow : (w : World) (c : CopyLink) (fl : Flow) → GoesOn w c → GoesOn w (record c { flow = fl })
with_flow w c fl g = record { some = g.some; sender = g.sender; least = g.least; receiver = g.receiver; opened = g.opened; finishes = g.finishes; halted = g.halted; live = g.live }

-- ---- a step on it

pub put_fits : (w : World) (c : CopyLink) → MayFit w c → MayFit w (copy_put c)
put_fits w c h o =
    let f : Fits w c = h o in
    let g : GoesOn w c = f.going in
    record {
      going = record {
        some = g.some;
        sender = g.sender;
        least = g.least;
        receiver = g.receiver;
        opened = g.opened;
        finishes = subst HasDone (sym (append_assoc c.loads (take 1 c.to_put) (drop 1 c.to_put) ∙ ap (λ ls. c.loads ++ ls) (take-append-drop 1 c.to_put))) g.finishes;
        halted = λ r some. g.halted r (some_before c.to_put some);
        live = λ r some. g.live r (some_before c.to_put some);
      };
      blocked = f.blocked;
    }
  where
    some_before : (ls : List Load) → drop 1 ls ≢ [] → ls ≢ []
    some_before ls n e = n (ap (drop 1) e)

pub gain_fits : (w : World) (c : CopyLink) → MayFit w c → MayFit w (copy_gained c)
gain_fits w c h o = let f : Fits w c = h o in record { going = with_flow w c (copy_gained c).flow f.going; blocked = f.blocked }

-- an item that is taken: where the receiver isn't blocked, nothing is held back
pub item_fits : (w : World) (b : Bool) (a : Item) (c : CopyLink) (ls : List Load) → c.loads ≡ OneItem a ∷ ls → b ≡ is_blocked_at w c.receiver → MayFit w c → MayFit w (item_taken b a c)
item_fits w b a c ls e is h o =
    let f : Fits w c = h o in
    let g : GoesOn w c = f.going in
    record {
      going = record {
        some = g.some;
        sender = g.sender;
        least = g.least;
        receiver = g.receiver;
        opened = g.opened;
        finishes = subst (λ ks. HasDone (drop 1 ks ++ c.to_put)) (sym e) (subst (λ ks. HasDone (ks ++ c.to_put)) e g.finishes);
        halted = g.halted;
        live = g.live;
      };
      blocked = λ held. by_blocked b is held;
    }
  where
    by_blocked : (b : Bool) → b ≡ is_blocked_at w c.receiver → 0 < (counted (judged b c.flow)).receiver.held → is_blocked_at w c.receiver ≡ true
    by_blocked true is held = sym is
    by_blocked false is held = absurd (none (is_grant_next c.flow.receiver) held)
      where
        none : (n : Bool) → 0 < (if n && false then min (0 + c.flow.receiver.more) c.flow.receiver.initial else 0) → ⊥
        none true l = absurd (omega (arith, l))
        none false l = absurd (omega (arith, l))

-- grants that are let go, of a member that isn't blocked
freed_fits : (w : World) (x : ℕ) (c : CopyLink) → MayFit w c → MayFit w (let_go_one x c)
freed_fits w x c h = by_case (nat_eq c.receiver x)
  where
    by_case : (b : Bool) → MayFit w (cond b (record c { flow = judged false c.flow }) c)
    by_case true o =
        let f : Fits w c = h o in
        record { going = with_flow w c (judged false c.flow) f.going; blocked = λ held. absurd (omega (arith, held)) }
    by_case false o = h o

-- but for its grants, which are let go then, a copy of x fits
pub record AlmostFits (w : World) (x : ℕ) (c : CopyLink) : Type 0 where
  pub going : GoesOn w c
  pub blocked : c.receiver ≢ x → 0 < c.flow.receiver.held → is_blocked_at w c.receiver ≡ true

abbrev pub MayAlmost : World → ℕ → CopyLink → Type 0
MayAlmost w x c = c.over ≡ false → AlmostFits w x c

pub almost : (w : World) (x : ℕ) (c : CopyLink) → MayFit w c → MayAlmost w x c
almost w x c h o = let f : Fits w c = h o in record { going = f.going; blocked = λ _. f.blocked }

pub let_go_fits : (w : World) (x : ℕ) (b : Bool) (cs : List CopyLink) → b ≡ is_blocked_at w x → OfAll (MayAlmost w x) cs → OfAll (MayFit w) (let_go b x cs)
let_go_fits w x true cs is h = λ i il. held_fits (copy_link_at cs i) (h i il)
  where
    held_fits : (c : CopyLink) → MayAlmost w x c → MayFit w c
    held_fits c k o =
        let f : AlmostFits w x c = k o in
        record {
          going = f.going;
          blocked = λ held. ⊎_elim
              (λ (me : c.receiver ≡ x). ap (is_blocked_at w) me ∙ sym is)
              (λ (ne : c.receiver ≢ x). f.blocked ne held)
              (cases_eq c.receiver x);
        }
let_go_fits w x false cs is h = map_to (MayAlmost w x) (MayFit w) (let_go_one x) one cs h
  where
    one : (c : CopyLink) → MayAlmost w x c → MayFit w (let_go_one x c)
    one c k = ⊎_elim
        (λ (me : c.receiver ≡ x). subst (λ b. MayFit w (cond b (record c { flow = judged false c.flow }) c)) (sym (ap (nat_eq c.receiver) (sym me) ∙ nat_eq-same c.receiver))
        (λ o. let f = k o in record { going = with_flow w c (judged false c.flow) f.going; blocked = λ held. absurd (omega (arith, held)) }))
        (λ (ne : c.receiver ≢ x). freed_fits w x c (λ o. let f = k o in record { going = f.going; blocked = f.blocked ne }))
        (cases_eq c.receiver x)

-- ---- an event of the ring, of kind k of member x

module _ (w : World) (x : ℕ) (w' : World) (k : Kind) (st : Stays w x (reads_view k) w') (le : Leaves w x (is_stop k) w') (lt : x < size w) (more : size w ≤ size w') (newer : newest w ≤ newest w') (held : (q : ℕ) → (member_at w q).version < length w.views) where
  abbrev seen_by : Group
  seen_by = view_in w' (member_at w' x).version

  -- a copy that isn't x's goes on as before; of x's own what has to hold then
  goes : (c c' : CopyLink) → c'.sender ≡ c.sender → c'.receiver ≡ c.receiver → c'.opened ≡ c.opened → c'.loads ≡ c.loads → c'.to_put ≡ c.to_put → c'.flow ≡ c.flow
      → (c.ended ≡ true → c'.ended ≡ true)
      → (c.sender ≡ x → is_stop k ≡ true → c.to_put ≢ [] → c'.ended ≡ true)
      → (c.sender ≡ x → reads_view k ≡ true → c.to_put ≢ [] → is_live seen_by c.receiver ≡ true)
      → Fits w c → AlmostFits w' x c'
  goes c c' s r op l t fl ended stops reads f =
      record {
        going = record {
          some = subst (λ n. 1 ≤ n) (sym s) g.some;
          sender = omega (arith, s, g.sender, more);
          least = subst (λ n. 1 ≤ n) (sym r) g.least;
          receiver = omega (arith, r, g.receiver, more);
          opened = omega (arith, op, g.opened, newer);
          finishes = subst HasDone (sym (ap (λ ls. ls ++ c'.to_put) l ∙ ap (λ ls. c.loads ++ ls) t)) g.finishes;
          halted = λ n some. halted (ap (runs w') (sym s) ∙ n) (λ e. some (t ∙ e));
          live = λ n some. subst (λ q. is_live (view_in w' (member_at w' q).version) c'.receiver ≡ true) (sym s) (subst (λ q. is_live (view_in w' (member_at w' c.sender).version) q ≡ true) (sym r) (live (ap (runs w') (sym s) ∙ n) (λ e. some (t ∙ e))));
        };
        blocked = λ ne h.
            let other : c.receiver ≢ x = λ e. ne (r ∙ e) in
            ap (is_blocked_at w') r ∙ le.blocked c.receiver g.receiver other ∙ f.blocked (subst (λ fl. 0 < fl.receiver.held) fl h);
      }
    where
      g : GoesOn w c
      g = f.going

      halted : runs w' c.sender ≡ false → c.to_put ≢ [] → c'.ended ≡ true
      halted n some = ⊎_elim
          (λ (ran : runs w c.sender ≡ true). by_stop (is_stop k) refl ran)
          (λ (none : runs w c.sender ≡ false). ended (g.halted none some))
          (cases_Bool (runs w c.sender))
        where
          by_stop : (b : Bool) → is_stop k ≡ b → runs w c.sender ≡ true → c'.ended ≡ true
          by_stop false e ran = absurd (false≢true (sym n ∙ le.alive c.sender g.sender (λ _. e) ran))
          by_stop true e ran = ⊎_elim
              (λ (me : c.sender ≡ x). stops me e some)
              (λ (ne : c.sender ≢ x). absurd (false≢true (sym n ∙ le.alive c.sender g.sender (λ me. absurd (ne me)) ran)))
              (cases_eq c.sender x)

      live : runs w' c.sender ≡ true → c.to_put ≢ [] → is_live (view_in w' (member_at w' c.sender).version) c.receiver ≡ true
      live n some =
          let ran : runs w c.sender ≡ true = st.ran c.sender g.sender n in
          ⊎_elim
          (λ (me : c.sender ≡ x). by_reads (reads_view k) refl me ran)
          (λ (ne : c.sender ≢ x). stays (st.others c.sender g.sender ne) ran)
          (cases_eq c.sender x)
        where
          stays : (member_at w' c.sender).version ≡ (member_at w c.sender).version → runs w c.sender ≡ true → is_live (view_in w' (member_at w' c.sender).version) c.receiver ≡ true
          stays e ran = ap (λ v. is_live (view_in w' v) c.receiver) e ∙ ap (λ g. is_live g c.receiver) (le.views (member_at w c.sender).version (held c.sender)) ∙ g.live ran some

          by_reads : (b : Bool) → reads_view k ≡ b → c.sender ≡ x → runs w c.sender ≡ true → is_live (view_in w' (member_at w' c.sender).version) c.receiver ≡ true
          by_reads true e me ran = subst (λ q. is_live (view_in w' (member_at w' q).version) c.receiver ≡ true) (sym me) (reads me e some)
          by_reads false e me ran = stays (ap (λ q. (member_at w' q).version) me ∙ st.mine e lt ∙ sym (ap (λ q. (member_at w q).version) me)) ran

  puts_yet : (c : CopyLink) → c.sender ≡ x → c.over ≡ false → c.to_put ≢ [] → is_put_by x c ≡ true
  puts_yet c me o some = ap (λ b. b && (not c.over && not (is_empty c.to_put))) (ap (nat_eq c.sender) (sym me) ∙ nat_eq-same c.sender) ∙ ap (λ b. not b && not (is_empty c.to_put)) o ∙ by_loads c.to_put some
    where
      by_loads : (ls : List Load) → ls ≢ [] → not (is_empty ls) ≡ true
      by_loads [] n = absurd (n refl)
      by_loads (l ∷ ls) n = refl

  still : is_stop k ≡ false → reads_view k ≡ false → (c : CopyLink) → MayFit w c → MayAlmost w' x c
  still a b c h o = goes c c refl refl refl refl refl refl (λ e. e) (λ _ e _. absurd (false≢true (sym a ∙ e))) (λ _ e _. absurd (false≢true (sym b ∙ e))) (h o)

  halts : reads_view k ≡ false → (c : CopyLink) → MayFit w c → MayAlmost w' x (halted_one x c)
  halts b c h = by_put (is_put_by x c) refl
    where
      by_put : (t : Bool) → is_put_by x c ≡ t → MayAlmost w' x (cond t (record c { ended = true }) c)
      by_put true e o = goes c (record c { ended = true }) refl refl refl refl refl refl (λ _. refl) (λ _ _ _. refl) (λ _ r _. absurd (false≢true (sym b ∙ r))) (h o)
      by_put false e o = goes c c refl refl refl refl refl refl (λ d. d) (λ me _ some. absurd (false≢true (sym e ∙ puts_yet c me o some))) (λ _ r _. absurd (false≢true (sym b ∙ r))) (h o)

  looks : is_stop k ≡ false → (c : CopyLink) → MayFit w c → MayAlmost w' x (looked_one seen_by x c)
  looks a c h = by_gone (is_taken_by x c && is_gone seen_by c.sender)
    where
      by_lost : (t : Bool) → (is_put_by x c && not (is_live seen_by c.receiver)) ≡ t → MayAlmost w' x (cond t (record c { over = true }) c)
      by_lost true e o = absurd (false≢true (sym o))
      by_lost false e o = goes c c refl refl refl refl refl refl (λ d. d) (λ _ s _. absurd (false≢true (sym a ∙ s)))
          (λ me _ some. lives (is_live seen_by c.receiver) (sym (ap (λ b. b && not (is_live seen_by c.receiver)) (puts_yet c me o some)) ∙ e)) (h o)
        where
          lives : (b : Bool) → not b ≡ false → b ≡ true
          lives true _ = refl
          lives false n = absurd (false≢true (sym n))

      by_gone : (t : Bool) → MayAlmost w' x (cond t (dropped c) (cond (is_put_by x c && not (is_live seen_by c.receiver)) (record c { over = true }) c))
      by_gone true o = absurd (false≢true (sym o))
      by_gone false o = by_lost (is_put_by x c && not (is_live seen_by c.receiver)) refl o

pub after_fits : (w : World) (x : ℕ) (w' : World) (k : Kind) → Stays w x (reads_view k) w' → Leaves w x (is_stop k) w' → x < size w → size w ≤ size w' → newest w ≤ newest w' → ((q : ℕ) → (member_at w q).version < length w.views)
    → (cs : List CopyLink) → OfAll (MayFit w) cs → OfAll (MayAlmost w' x) (copies_after k w' x cs)
after_fits w x w' Stops st le lt more newer held cs h = map_to (MayFit w) (MayAlmost w' x) (halted_one x) (halts w x w' Stops st le lt more newer held refl) cs h
after_fits w x w' (Changes c) st le lt more newer held cs h = map_to (MayFit w) (MayAlmost w' x) (looked_one (view_in w' (member_at w' x).version) x) (looks w x w' (Changes c) st le lt more newer held refl) cs h
after_fits w x w' (Reads v) st le lt more newer held cs h = map_to (MayFit w) (MayAlmost w' x) (looked_one (view_in w' (member_at w' x).version) x) (looks w x w' (Reads v) st le lt more newer held refl) cs h
after_fits w x w' (Says s) st le lt more newer held cs h = λ i il. still w x w' (Says s) st le lt more newer held refl refl (copy_link_at cs i) (h i il)
after_fits w x w' (Steps s) st le lt more newer held cs h = λ i il. still w x w' (Steps s) st le lt more newer held refl refl (copy_link_at cs i) (h i il)
after_fits w x w' (Copying s) st le lt more newer held cs h = λ i il. still w x w' (Copying s) st le lt more newer held refl refl (copy_link_at cs i) (h i il)
after_fits w x w' (Tells code inner) st le lt more newer held cs h = λ i il. still w x w' (Tells code inner) st le lt more newer held refl refl (copy_link_at cs i) (h i il)
