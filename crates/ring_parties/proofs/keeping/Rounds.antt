-- Up to which number a member's own messages have come round, in a state and after a packet.
use Rattle.std.proofs.Common.{◌≡◌, ℕ, ◌+◌, ◌-◌, ◌<◌, ◌≤◌, List, [], ◌∷◌, ◌++◌, length, map, get_or, Option, Some, None, false, refl, sym, ap, subst, ◌∙◌, arith, zero, suc, true}
use Rattle.std.specs.Prelude.{option_map}
use Rattle.std.specs.List.{range_with_len}
use Rattle.std.proofs.lemmas.Bool.{false≢true}
use Rattle.std.proofs.lemmas.List.{length-map, map-append, get_or-set_same}
use Rattle.queue_core.specs.declared.message.Message.{Message}
use Rattle.ring_names.specs.declared.numbers.CreditSpec.{CreditSpec}
use Rattle.confirm_book.specs.Book.{last_of, book_in, without_room, published as published_in, came_round}
use Rattle.confirm_book.proofs.Books.{last_in, book_in_published, book_in_round}
use Rattle.ring_rules.specs.declared.event.Event.TheVariants as event
use Rattle.ring_rules.specs.declared.kind.LinkStep.TheVariants as step
use Rattle.ring_rules.specs.Kind.{Steps}
use Rattle.ring_rules.specs.Refusal.{is_empty}
use Rattle.ring_rules.specs.Rows.{no_row, born_row}
use Rattle.ring_rules.specs.Machine.{World, Member, Packet, Sending, no_member, no_packet, member_at, link_at, row_at, oldest}
use Rattle.ring_rules.specs.Step.{size, log_of, published, joiner}
use Rattle.ring_rules.specs.Event.{refused_as, done_as}
use Rattle.ring_rules.proofs.invariants.KeptCast.{gained_rows}
use Rattle.activity.specs.Kept.{Kept, got_of}
use Rattle.gm_member.specs.Packets.{PacketById}
use Rattle.gm_member.specs.Held.{Held, at_some, took_held}
use Rattle.gm_member.specs.Stands.{held_in, lines_in}
use Rattle.gm_member.proofs.Facts.{held_known, right_row, own_row, refused_there, done_there}
use Rattle.gm_member.proofs.Fit.{IsFit}
use Rattle.ring_parties.specs.Ends.{PacketShown, InSeen, packets_in, end_items}
use Rattle.ring_parties.specs.Parties.{Shown, Parties}
use Rattle.ring_parties.specs.Keeps.{kind_of_message, kinds_of, round_of, own_known, round_first, round_next}
use Rattle.ring_parties.specs.Standing.{Places, MemberStands, Stand, has_in}
use Rattle.ring_parties.proofs.work.Lawful.{IsLawfulAt}
use Rattle.ring_parties.proofs.meetings.NamedLinks.{current_has}
use Rattle.ring_parties.proofs.events.OneEvent.{held_but_door}
use Rattle.ring_parties.proofs.events.Ready.{all_settled, settled_items}
use Rattle.ring_parties.proofs.events.TakeGoes.{took_door, takes_in, TakesNext, takes_next, takes_as}

-- ---- in a state

-- no more have come round than there are
pub round_within : (w : World) (x : ℕ) → IsFit w → round_of w x ≤ length (kinds_of w x)
round_within w x f =
    let r = right_row w x x f in
    let own = f.own x in
    let many : length (kinds_of w x) ≡ length (log_of w x) = length-map (log_of w x) kind_of_message in
    omega (arith, r.forgot, own, many)

-- the member keeps this number of itself
pub own_round : (w : World) (x : ℕ) → 1 ≤ x → x ≤ 64 → (own_known (held_in w x)).forgot ≡ round_of w x
own_round w x some few =
    let back : x - 1 + 1 ≡ x = omega arith in
    ap (λ (k : Kept). k.forgot) (held_known w x (x - 1) (omega arith)) ∙ ap (λ p. (row_at (member_at w x) p).forgot) back

-- and how many there are
pub own_last : (w : World) (x : ℕ) → IsFit w → 1 ≤ x → x < size w → last_of (book_in (round_of w x) (kinds_of w x)) ≡ got_of (own_known (held_in w x))
own_last w x f some lt = last_in (kinds_of w x) (round_of w x) (round_within w x f) ∙ length-map (log_of w x) kind_of_message ∙ sym (own_row w x f some lt)

-- ---- a member publishes a message

-- none comes round by that
pub published_round : (m : Message) (x : ℕ) (y : Member) → (row_at (published x m y) x).forgot ≡ (row_at y x).forgot
published_round m x y = gained_rows m (λ a b. b.forgot ≡ a.forgot) x x y (λ _. refl) refl

-- and its book has it
pub published_book : (m : Message) (w : World) (x : ℕ) → IsFit w → published_in (kind_of_message m) (book_in (round_of w x) (kinds_of w x)) ≡ book_in (row_at (published x m (member_at w x)) x).forgot (map kind_of_message (log_of w x ++ m ∷ []))
published_book m w x f =
    book_in_published (kinds_of w x) (round_of w x) (kind_of_message m) (round_within w x f)
    ∙ ap (book_in (round_of w x)) (sym (map-append kind_of_message (log_of w x) (m ∷ [])))
    ∙ ap (λ n. book_in n (map kind_of_message (log_of w x ++ m ∷ []))) (sym (published_round m x (member_at w x)))

-- ---- one that joins

-- none of its messages has
pub joiner_round : (w : World) (name : List ℕ) (x : ℕ) → (row_at (joiner w name) x).forgot ≡ 0
joiner_round w name x = born x 0 (size w + 1)
  where
    born : (x a n : ℕ) → (get_or (map (λ p. born_row (log_of w p)) (range_with_len a n)) x no_row).forgot ≡ 0
    born x a zero = refl
    born zero a (suc n) = refl
    born (suc x) a (suc n) = born x (a + 1) n

-- ---- a packet

-- it is the first of the items
first_round : (w : World) (h : Held) (before : Sending) (ks : List Packet) (es : List (Option PacketShown)) → is_empty ks ≡ false
    → round_first h (packets_in w before ks ++ es) ≡ (own_known (took_held h (record { view = (get_or ks 0 no_packet).version; first = false; lines = lines_in w before (get_or ks 0 no_packet) }))).forgot
first_round w h before [] es e = absurd (false≢true (sym e))
first_round w h before (k ∷ ks) es e = refl

-- the oldest packet of the link that a member takes from, as it sees it
abbrev pub oldest_of : World → ℕ → PacketById
oldest_of w s = record { view = (oldest (link_at w s)).version; first = false; lines = lines_in w (link_at w s).had (oldest (link_at w s)) }

-- the next packet of its link tells the member what this one does
next_round : (credit : CreditSpec) (w : World) (q : Parties) (x s : ℕ) (m : Shown) (st : Stand credit.initial w q) → IsLawfulAt credit w → MemberStands w st.places x m → (member_at w x).current ≡ Some s → is_empty (link_at w s).packets ≡ false
    → round_next m ≡ (own_known (took_held (held_in w x) (oldest_of w s))).forgot
next_round credit w q x s m st h a current some =
    let p : Places = st.places in
    let k : PacketById = oldest_of w s in
    let sl : s < length w.links = (h.fit.own_ends.current x s current).0 in
    let has : has_in w s ≡ true = current_has credit w x s h current in
    ap (λ o. round_first m.held (at_some o [] (λ (n : InSeen). n.items))) (a.link ∙ ap (option_map p.ins) current)
    ∙ ap (round_first m.held) (settled_items credit.initial w s (p.outs s) (p.ins s) (all_settled w p s st.met sl has) (st.stand.carry s sl has))
    ∙ first_round w m.held (link_at w s).had (link_at w s).packets (end_items (link_at w s).ending) some
    ∙ ap (λ (g : Held). (own_known (took_held g k)).forgot) (held_but_door w p x m a)
    ∙ ap (λ (g : Held). (own_known g).forgot) (took_door (held_in w x) m.held.door k)

-- What a member's take of the oldest packet of link s makes of its own messages: up to this number they have come round then, which isn't less
-- than before, and none is there that wasn't.
pub record RoundTaken (w : World) (x s : ℕ) : Type 0 where
  pub next : (own_known (took_held (held_in w x) (oldest_of w s))).forgot ≡ round_of (done_as w x (Steps step.Take)) x
  pub within : round_of (done_as w x (Steps step.Take)) x ≤ length (kinds_of w x)
  pub book : without_room (came_round (round_of (done_as w x (Steps step.Take)) x) (book_in (round_of w x) (kinds_of w x))) ≡ book_in (round_of (done_as w x (Steps step.Take)) x) (kinds_of w x)

pub round_taken : (w : World) (x : ℕ) (n : TakesNext w x) → IsFit w → IsFit (done_as w x (Steps step.Take)) → refused_as w x (Steps step.Take) ≡ None → 1 ≤ x → x < size w → RoundTaken w x n.link
round_taken w x n f later enabled first lt =
    let s : ℕ = n.link in
    let w' : World = done_as w x (Steps step.Take) in
    let t = takes_as w x s (oldest_of w s) (member_at w x).phase f refl n.runs first lt n.current n.some n.version in
    let y : Member = t.0 in
    let is : member_at (takes_in w x s y) x ≡ y = get_or-set_same w.members x y no_member lt in
    let log : log_of w' x ≡ log_of w x = ap (λ v. log_of v x) t.2 ∙ ap (λ (z : Member). z.log) is ∙ t.1.same.3 in
    let few = f.few in
    let e = event.Take (member_at w x).name in
    let named = f.named x first lt in
    let rises : round_of w x ≤ round_of w' x =
    subst (λ v. round_of w x ≤ round_of v x) (done_there w x e named) ((f.goes e (refused_there w x e named ∙ enabled)).never_falls.forgot x x) in
    let within : round_of w' x ≤ length (kinds_of w x) = subst (λ (l : List Message). round_of w' x ≤ length (map kind_of_message l)) log (round_within w' x later) in
    record {
      next = ap (λ (g : Held). (own_known g).forgot) (t.1.stands refl) ∙ own_round (takes_in w x s y) x first (omega (arith, lt, few)) ∙ ap (λ v. round_of v x) (sym t.2);
      within = within;
      book = book_in_round (kinds_of w x) (round_of w x) (round_of w' x) rises within;
    }

-- The same by the next packet of its link.
pub record TakesRound (w : World) (x : ℕ) (m : Shown) : Type 0 where
  pub next : round_next m ≡ round_of (done_as w x (Steps step.Take)) x
  pub within : round_of (done_as w x (Steps step.Take)) x ≤ length (kinds_of w x)
  pub book : without_room (came_round (round_of (done_as w x (Steps step.Take)) x) (book_in (round_of w x) (kinds_of w x))) ≡ book_in (round_of (done_as w x (Steps step.Take)) x) (kinds_of w x)

pub takes_round : (credit : CreditSpec) (w : World) (q : Parties) (x : ℕ) (m : Shown) (st : Stand credit.initial w q) → IsLawfulAt credit w → IsFit (done_as w x (Steps step.Take)) → MemberStands w st.places x m → refused_as w x (Steps step.Take) ≡ None → 1 ≤ x → x < size w
    → TakesRound w x m
takes_round credit w q x m st h later a enabled first lt =
    let n : TakesNext w x = takes_next w x enabled in
    let r : RoundTaken w x n.link = round_taken w x n h.fit later enabled first lt in
    record { next = next_round credit w q x n.link m st h a n.current n.some ∙ r.next; within = r.within; book = r.book }
