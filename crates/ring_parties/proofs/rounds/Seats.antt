-- What one entry of a merge leaves: where its member did something, and the others nothing, all are those of the state after it.
use Rattle.std.proofs.Common.{◌≡◌, ◌≢◌, ℕ, ◌<◌, ◌≤◌, false, nat_eq, List, [], ◌++◌, map, None, sym, ap, subst, ◌∙◌, ⊎_elim, arith}
use Rattle.std.specs.List.{filter}
use Rattle.std.proofs.lemmas.Bool.{cases_eq}
use Rattle.ring_names.specs.declared.numbers.CreditSpec.{CreditSpec}
use Rattle.group_view.specs.declared.link.LinkName.{LinkName}
use Rattle.ring_rules.specs.Kind.{Kind}
use Rattle.ring_rules.specs.Machine.{World, Link, link_at}
use Rattle.ring_rules.specs.Step.{size, log_of}
use Rattle.ring_rules.specs.Event.{refused_as, done_as}
use Rattle.gm_member.specs.Held.{Held, Incoming}
use Rattle.gm_member.specs.Stands.{held_in, incoming_in, door_links, door_in}
use Rattle.ring_parties.specs.Ends.{end_items, items_in}
use Rattle.ring_parties.specs.Parties.{Keeps}
use Rattle.ring_parties.specs.Standing.{is_to}
use Rattle.ring_parties.specs.RoundActs.{things, acts_at, timed}
use Rattle.ring_parties.specs.Round.{Seat, Deed, Sits, Configuration, IsIn, SameLinks}
use Rattle.ring_parties.proofs.work.Lawful.{IsLawfulAt}
use Rattle.ring_parties.proofs.standing.Frames.{SameWays, made_first, same_filter, same_doors, same_packets}
use Rattle.ring_parties.proofs.events.Says.{SpeaksThere}
use Rattle.ring_parties.proofs.events.Steps.{Leaves, ways_leave}
use Rattle.ring_parties.proofs.keeping.Going.{Same, Changed, same_changed}
use Rattle.ring_parties.proofs.rounds.Acts.{Replays, none_done}

-- Where the member x was, at a time, it did this, and is m then; a and b are all before and after.
pub record Moves (x t : ℕ) (d : Deed) (m : Seat) (a b : Configuration) : Type 0 where
  pub it : b.seats x ≡ m
  pub others : (y : ℕ) → y ≢ x → b.seats y ≡ a.seats y
  pub items : (s : ℕ) → Replays (a.items s) (timed t (acts_at s d.there)) (b.items s)
  pub grants : (s : ℕ) → Replays (a.grants s) (timed t (acts_at s d.back)) (b.grants s)

-- The others hold and keep what they did, and have their links; the party of x keeps this.
pub record Follows (w w' : World) (x : ℕ) (kept : Keeps) : Type 0 where
  pub leaves : Leaves w w' x
  pub held : (y : ℕ) → y ≢ x → held_in w y ≡ held_in w' y
  pub keeps : Changed w w' x kept

-- links go to whom they went
pub goes_to_same : (w w' : World) (x y s : ℕ) → Leaves w w' x → is_to w' y s ≡ is_to w y s
goes_to_same w w' x y s l = ap (λ (n : LinkName). nat_eq n.to.0 y) (l.names s)

-- what a party keeps stays
pub keeps_still : (w w' : World) (post : List ℕ) (x : ℕ) (a : Seat) → Same w w' → Sits w post x a → Changed w w' x a.keeps
keeps_still w w' post x a same h = subst (Changed w w' x) (sym h.keeps) (same_changed w w' x same)

-- ---- who does nothing

-- the links at the part of a door that was collected show what they showed
door_made : (w w' : World) (y : ℕ) (door later : List ℕ) → door_links w y ≡ door ++ later → door_links w' y ≡ door_links w y → door_in w y ≡ door_in w' y → map (incoming_in w) door ≡ map (incoming_in w') door
door_made w w' y door later e same made = made_first (incoming_in w) (incoming_in w') door later (ap (map (incoming_in w)) (sym e) ∙ made ∙ ap (map (incoming_in w')) (same ∙ e))

-- another member sits there still
sits_still : (w w' : World) (post : List ℕ) (x y : ℕ) (kept : Keeps) (m : Seat) → Follows w w' x kept → y ≢ x → Sits w post y m → Sits w' post y m
sits_still w w' post x y kept m f ne h =
    let doors : door_links w' y ≡ door_links w y = f.leaves.doors y ne in
    record {
      held =
          h.held ∙ ap (λ (g : Held). record g { door = map (incoming_in w) m.door }) (f.held y ne)
          ∙ ap (λ ds. record (held_in w' y) { door = ds }) (door_made w w' y m.door (filter (is_to w y) post) h.door doors (ap (λ (g : Held). g.door) (f.held y ne)));
      keeps = h.keeps ∙ sym (f.keeps.others y ne);
      out = h.out ∙ sym (f.leaves.outs y ne);
      current = h.current ∙ sym (f.leaves.currents y ne);
      door = doors ∙ h.door ∙ ap (λ ks. m.door ++ ks) (sym (same_filter (is_to w' y) (is_to w y) post (λ s. goes_to_same w w' x y s f.leaves)));
    }

-- ---- who does something

-- A member does something to what it holds, but for its door, and holds then what the new state has for it.
pub record Doing (w w' : World) (x : ℕ) : Type 0 where
  pub does : Held → Held
  pub but_door : (g : Held) (ds : List Incoming) → does (record g { door = ds }) ≡ record (does g) { door = ds }
  pub stands : does (held_in w x) ≡ held_in w' x

-- it holds that of its door which it held
keeps_door : (does : Held → Held) (g : Held) → ((g : Held) (ds : List Incoming) → does (record g { door = ds }) ≡ record (does g) { door = ds }) → (does g).door ≡ g.door
keeps_door does g but = ap (λ (k : Held). k.door) (but g g.door)

pub does_held : (w w' : World) (post : List ℕ) (x : ℕ) (a : Seat) (k : Doing w w' x) → door_links w' x ≡ door_links w x → Sits w post x a → k.does a.held ≡ record (held_in w' x) { door = map (incoming_in w') a.door }
does_held w w' post x a k doors h =
    let same : door_in w x ≡ door_in w' x = sym (keeps_door k.does (held_in w x) k.but_door) ∙ ap (λ (g : Held). g.door) k.stands in
    ap k.does h.held ∙ k.but_door (held_in w x) (map (incoming_in w) a.door) ∙ ap (λ (g : Held). record g { door = map (incoming_in w) a.door }) k.stands
    ∙ ap (λ ds. record (held_in w' x) { door = ds }) (door_made w w' x a.door (filter (is_to w x) post) h.door doors same)

-- it sits there then, where its door has the links that it had
pub door_still : (w w' : World) (post : List ℕ) (x : ℕ) (a : Seat) → door_links w' x ≡ door_links w x → Leaves w w' x → Sits w post x a → door_links w' x ≡ a.door ++ filter (is_to w' x) post
door_still w w' post x a doors l h = doors ∙ h.door ∙ ap (λ ks. a.door ++ ks) (sym (same_filter (is_to w' x) (is_to w x) post (λ s. goes_to_same w w' x x s l)))

-- ---- links

-- what stands on one, where the logs are the same
pub items_logs : (w w' : World) (l : Link) → ((p : ℕ) → log_of w' p ≡ log_of w p) → items_in w' l ≡ items_in w l
items_logs w w' l logs = ap (λ ks. ks ++ end_items l.ending) (same_packets w w' l.had l.packets logs)

-- one link is written
pub items_by : (w w' : World) (s : ℕ) (l : Link) (a b : Configuration) → ((p : ℕ) → log_of w' p ≡ log_of w p) → link_at w' s ≡ l → ((j : ℕ) → j ≢ s → link_at w' j ≡ link_at w j) → ((j : ℕ) → j ≢ s → b.items j ≡ a.items j)
    → ((j : ℕ) → (link_at w j).over ≡ false → things (a.items j) ≡ items_in w (link_at w j)) → (l.over ≡ false → things (b.items s) ≡ items_in w l) → (j : ℕ) → (link_at w' j).over ≡ false → things (b.items j) ≡ items_in w' (link_at w' j)
items_by w w' s l a b logs now others queues h here j over = ⊎_elim
    (λ (is : j ≡ s).
    let gone : l.over ≡ false = sym (ap (λ (k : Link). k.over) now) ∙ ap (λ i. (link_at w' i).over) (sym is) ∙ over in
    ap (λ i. things (b.items i)) is ∙ here gone ∙ sym (items_logs w w' l logs) ∙ ap (items_in w') (sym now) ∙ ap (λ i. items_in w' (link_at w' i)) (sym is))
    (λ (ne : j ≢ s).
    ap things (queues j ne) ∙ h j (ap (λ (k : Link). k.over) (sym (others j ne)) ∙ over) ∙ sym (items_logs w w' (link_at w j) logs) ∙ ap (items_in w') (sym (others j ne)))
    (cases_eq j s)

-- and its way back
pub grants_by : (w w' : World) (s : ℕ) (l : Link) (a b : Configuration) → link_at w' s ≡ l → ((j : ℕ) → j ≢ s → link_at w' j ≡ link_at w j) → ((j : ℕ) → j ≢ s → b.grants j ≡ a.grants j)
    → ((j : ℕ) → things (a.grants j) ≡ (link_at w j).flow.grants) → things (b.grants s) ≡ l.flow.grants → (j : ℕ) → things (b.grants j) ≡ (link_at w' j).flow.grants
grants_by w w' s l a b now others queues h here j = ⊎_elim
    (λ (is : j ≡ s). ap (λ i. things (b.grants i)) is ∙ here ∙ ap (λ (k : Link). k.flow.grants) (sym now) ∙ ap (λ i. (link_at w' i).flow.grants) (sym is))
    (λ (ne : j ≢ s). ap things (queues j ne) ∙ h j ∙ ap (λ (k : Link). k.flow.grants) (sym (others j ne)))
    (cases_eq j s)

-- ---- all members

pub in_after : (w w' : World) (post : List ℕ) (x t : ℕ) (d : Deed) (kept : Keeps) (m : Seat) (a b : Configuration) → IsIn w post a → Moves x t d m a b → Follows w w' x kept → Sits w' post x m
    → ((s : ℕ) → (link_at w' s).over ≡ false → things (b.items s) ≡ items_in w' (link_at w' s)) → ((s : ℕ) → things (b.grants s) ≡ (link_at w' s).flow.grants) → IsIn w' post b
in_after w w' post x t d kept m a b h moves f sits items grants = record {
  seats = λ y some lt. ⊎_elim
      (λ (is : y ≡ x). subst (λ k. Sits w' post k (b.seats k)) (sym is) (subst (Sits w' post x) (sym moves.it) sits))
      (λ (ne : y ≢ x). subst (Sits w' post y) (sym (moves.others y ne)) (sits_still w w' post x y kept (a.seats y) f ne (h.seats y some (omega (arith, lt, f.leaves.size_is)))))
      (cases_eq y x);
  items = items;
  grants = grants;
}

-- where links go their ways, and the member does something to what it holds, but for its door
pub ways_after : (w w' : World) (post : List ℕ) (x t : ℕ) (d : Deed) (kept : Keeps) (m : Seat) (a b : Configuration) (k : Doing w w' x) → IsIn w post a → Moves x t d m a b → SameWays w w' → ((y : ℕ) → y ≢ x → held_in w y ≡ held_in w' y)
    → Changed w w' x kept → Sits w post x (a.seats x) → m ≡ record (a.seats x) { held = k.does (a.seats x).held; keeps = kept }
    → ((s : ℕ) → (link_at w' s).over ≡ false → things (b.items s) ≡ items_in w' (link_at w' s)) → ((s : ℕ) → things (b.grants s) ≡ (link_at w' s).flow.grants) → IsIn w' post b
ways_after w w' post x t d kept m a b k h moves ways held keeps me is items grants =
    let leaves : Leaves w w' x = ways_leave w w' x ways in
    let doors : door_links w' x ≡ door_links w x = same_doors w w' x ways in
    in_after w w' post x t d kept m a b h moves (record { leaves = leaves; held = held; keeps = keeps })
    (subst (Sits w' post x) (sym is) (record {
      held = does_held w w' post x (a.seats x) k doors me;
      keeps = sym keeps.here;
      out = me.out ∙ sym (ways.outs x);
      current = me.current ∙ sym (ways.currents x);
      door = door_still w w' post x (a.seats x) doors leaves me;
    }))
    items grants

-- ---- what an event of this kind by the member x does

-- it is enabled, and all are those of the state after it, in which no link has opened
pub record GoesAs (w : World) (post : List ℕ) (x : ℕ) (kind : Kind) (b : Configuration) : Type 0 where
  pub enabled : refused_as w x kind ≡ None
  pub after : IsIn (done_as w x kind) post b
  pub links : SameLinks w (done_as w x kind)

-- no link opens by what leaves the others theirs
pub leaves_links : (w w' : World) (x : ℕ) → Leaves w w' x → SameLinks w w'
leaves_links w w' x l = record { size_is = l.size_is; views = l.views; many = l.many; names = l.names; has_outs = l.has_outs; opens = l.opens }

-- where that is this state
pub goes_to : (w w' : World) (post : List ℕ) (x : ℕ) (kind : Kind) (b : Configuration) → refused_as w x kind ≡ None → done_as w x kind ≡ w' → IsIn w' post b → Leaves w w' x → GoesAs w post x kind b
goes_to w w' post x kind b enabled does after l = record {
  enabled = enabled;
  after = subst (λ v. IsIn v post b) (sym does) after;
  links = subst (SameLinks w) (sym does) (leaves_links w w' x l);
}

-- ---- a turn

-- A state that a run reaches, a member of it, and what that did there at a time.
pub record Turn (credit : CreditSpec) (w : World) (post : List ℕ) (x t : ℕ) (d : Deed) (m : Seat) (a b : Configuration) : Type 0 where
  pub lawful : IsLawfulAt credit w
  pub before : IsIn w post a
  pub some : 1 ≤ x
  pub is_member : x < size w
  pub moves : Moves x t d m a b

module _ (credit : CreditSpec) (w : World) (post : List ℕ) (x t : ℕ) (d : Deed) (m : Seat) (a b : Configuration) (turn : Turn credit w post x t d m a b) where
  pub sits_there : Sits w post x (a.seats x)
  sits_there = turn.before.seats x turn.some turn.is_member

  -- it holds what the state has for it, but for its door
  pub held_there : (a.seats x).held ≡ record (held_in w x) { door = (a.seats x).held.door }
  held_there = sits_there.held ∙ ap (λ ds. record (held_in w x) { door = ds }) (sym (ap (λ (g : Held). g.door) sits_there.held))

  -- what it says is what the ring has it say
  pub speaks_there : SpeaksThere w x (a.seats x).held (a.seats x).keeps
  speaks_there = record { view = ap (λ (g : Held). g.view) sits_there.held; id = ap (λ (g : Held). g.id) sits_there.held; keeps = sits_there.keeps }

  -- nothing was done to any link
  pub items_still : d.there ≡ [] → (s : ℕ) → b.items s ≡ a.items s
  items_still e s = none_done t s d.there (a.items s) (b.items s) e (turn.moves.items s)

  pub grants_still : d.back ≡ [] → (s : ℕ) → b.grants s ≡ a.grants s
  grants_still e s = none_done t s d.back (a.grants s) (b.grants s) e (turn.moves.grants s)
