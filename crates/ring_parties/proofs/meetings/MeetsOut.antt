-- What the meeting of the out end of a member shows, which lends it meanwhile.
use Rattle.std.proofs.Common.{◌≡◌, ◌≢◌, ℕ, ◌-◌, ◌<◌, Bool, true, false, nat_eq, List, map, length, get_or, set, Option, Some, None, refl, sym, ap, subst, ◌∙◌, ⊎_elim, inl, inr, arith, rules}
use Rattle.std.specs.Prelude.{◌⊎◌, IsSome, option_map, if◌then◌else◌}
use Rattle.std.proofs.lemmas.Bool.{cases_eq}
use Rattle.std.proofs.lemmas.List.{set-set, set_comm, length-set, length-map, map-set, get_or-map, set-get_or, get_or-set_same, get_or-set_other}
use Rattle.group_view.specs.declared.link.LinkName.{LinkName}
use Rattle.ordered_link.specs.declared.ring.RingIn.{RingIn}
use Rattle.registrar.specs.Registry.{Registry}
use Rattle.activity.specs.declared.packet.Load.{Load}
use Rattle.gm_member.specs.Held.{Held, Outgoing}
use Rattle.gm_member.specs.View.{ring_link}
use Rattle.gm_member.specs.Shown.{in_name_of, out_name_of, in_end}
use Rattle.ring_parties.specs.Ends.{OutSeen, InSeen}
use Rattle.ring_parties.specs.declared.party.Party.{Party}
use Rattle.ring_parties.specs.Parties.{parties, Shown, Deposit, Parties, EndsSeen, no_shown, node_at, with_node, with_in, with_out, shown_in}
use Rattle.ring_parties.specs.Meeting.{IsToMeet, MayMeet, MeetsAt, MeetsDeposit, MeetsNone, MeetsIn, MayMeetOut, MeetsOut, receiver_of, lent_out}

-- ---- one member

-- an end of a link to it is no out end
out_by : (b : Bool) (e : EndsSeen) (i : ℕ) (n : Option InSeen) → (if b then record e { link = n } else record e { door = set e.door i n }).out ≡ e.out
out_by true e i n = refl
out_by false e i n = refl

same_out : (m : Shown) (place : ℕ) (n : InSeen) → (with_in m place n).ends.out ≡ m.ends.out
same_out m place n = out_by (nat_eq place 0) m.ends (place - 1) (Some n)

-- and the out end no end of one
end_by : (b : Bool) (e : EndsSeen) (i : ℕ) (o : Option OutSeen) → (if b then (record e { out = o }).link else get_or (record e { out = o }).door i None) ≡ (if b then e.link else get_or e.door i None)
end_by true e i o = refl
end_by false e i o = refl

same_end : (e : EndsSeen) (place : ℕ) (o : Option OutSeen) → in_end (record e { out = o }) place ≡ in_end e place
same_end e place o = end_by (nat_eq place 0) e (place - 1) o

-- one given back after the other met
both_by : (b : Bool) (e : EndsSeen) (i : ℕ) (n : Option InSeen) (o : Option OutSeen) → record (if b then record (record e { out = None }) { link = n } else record (record e { out = None }) { door = set e.door i n }) { out = o } ≡ (if b then record (record e { out = o }) { link = n } else record (record e { out = o }) { door = set e.door i n })
both_by true e i n o = refl
both_by false e i n o = refl

both_back : (m : Shown) (place : ℕ) (n : InSeen) (o : OutSeen) → with_out (with_in (lent_out m) place n) o ≡ with_in (with_out m o) place n
both_back m place n o = ap (λ e. record m { ends = e }) (both_by (nat_eq place 0) m.ends (place - 1) (Some n) (Some o))

-- ---- all of them

-- the member at a place has lent its out end
abbrev pub lending : Parties → ℕ → Parties
lending q i = with_node q i (lent_out (node_at q i))

-- another is the one that lends its out end, or shows what it did
lent_at : (q : Parties) (i j : ℕ) → i < length q.nodes → ((j ≡ i) × (node_at (lending q i) j ≡ lent_out (node_at q j))) ⊎ ((j ≢ i) × (node_at (lending q i) j ≡ node_at q j))
lent_at q i j l = ⊎_elim
    (λ (e : j ≡ i). inl (e, ap (node_at (lending q i)) e ∙ get_or-set_same q.nodes i (lent_out (node_at q i)) no_shown l ∙ ap (λ k. lent_out (node_at q k)) (sym e)))
    (λ (ne : j ≢ i). inr (ne, get_or-set_other q.nodes i j (lent_out (node_at q i)) no_shown ne))
    (cases_eq j i)

lent_held : (q : Parties) (i j : ℕ) → i < length q.nodes → (node_at (lending q i) j).held ≡ (node_at q j).held
lent_held q i j l = ⊎_elim
    (λ (x : (j ≡ i) × (node_at (lending q i) j ≡ lent_out (node_at q j))). ap (λ m. m.held) x.1)
    (λ (x : (j ≢ i) × (node_at (lending q i) j ≡ node_at q j)). ap (λ m. m.held) x.1)
    (lent_at q i j l)

lent_end : (q : Parties) (i j place : ℕ) → i < length q.nodes → in_end (node_at (lending q i) j).ends place ≡ in_end (node_at q j).ends place
lent_end q i j place l = ⊎_elim
    (λ (x : (j ≡ i) × (node_at (lending q i) j ≡ lent_out (node_at q j))). ap (λ m. in_end m.ends place) x.1 ∙ same_end (node_at q j).ends place None)
    (λ (x : (j ≢ i) × (node_at (lending q i) j ≡ node_at q j)). ap (λ m. in_end m.ends place) x.1)
    (lent_at q i j l)

-- what may meet may meet while the out end is lent
pub lent_may : (q : Parties) (i : ℕ) (name : LinkName) (o : OutSeen) → i < length q.nodes → MayMeet q name o → MayMeet (lending q i) name o
lent_may q i name o l may = record {
  from_one = may.from_one;
  member = λ place e. subst (IsToMeet o) (sym (lent_end q i (name.to.0 - 1) place l)) (may.member place (ap (λ h. in_name_of h place) (sym (lent_held q i (name.to.0 - 1) l)) ∙ e));
  deposits = may.deposits;
}

-- the member from which the out end was lent, once it has met
pub lent_still : (q q' : Parties) (i : ℕ) (name : LinkName) (o o' : OutSeen) → MeetsIn q name o q q' o' → ((node_at q' i).held ≡ (node_at q i).held) × ((node_at q' i).ends.out ≡ (node_at q i).ends.out)
lent_still q q' i name o o' m = ⊎_elim
    (λ (a : MeetsAt q name o q q' o'). at_member a)
    (λ (b : MeetsDeposit q name o q q' o' ⊎ MeetsNone q name o q q' o'). ⊎_elim
    (λ (p : MeetsDeposit q name o q q' o'). (ap (λ x. (node_at x i).held) p.parties, ap (λ x. (node_at x i).ends.out) p.parties))
    (λ (n : MeetsNone q name o q q' o'). (ap (λ x. (node_at x i).held) n.parties, ap (λ x. (node_at x i).ends.out) n.parties))
    b)
    m
  where
    at_member : MeetsAt q name o q q' o' → ((node_at q' i).held ≡ (node_at q i).held) × ((node_at q' i).ends.out ≡ (node_at q i).ends.out)
    at_member a = ⊎_elim
        (λ (e : i ≡ name.to.0 - 1).
        let l : name.to.0 - 1 < length q.nodes = a.inside in
        let is : node_at q' i ≡ with_in (receiver_of q name) a.meets.place a.meets.met = ap (λ x. node_at x i) a.parties ∙ ap (node_at (with_node q (name.to.0 - 1) a.receiver)) e ∙ get_or-set_same q.nodes (name.to.0 - 1) a.receiver no_shown l ∙ a.meets.shows in
        (ap (λ x. x.held) is ∙ ap (λ k. (node_at q k).held) (sym e), ap (λ x. x.ends.out) is ∙ same_out (receiver_of q name) a.meets.place a.meets.met ∙ ap (λ k. (node_at q k).ends.out) (sym e)))
        (λ (ne : i ≢ name.to.0 - 1).
        let is : node_at q' i ≡ node_at q i = ap (λ x. node_at x i) a.parties ∙ get_or-set_other q.nodes (name.to.0 - 1) i a.receiver no_shown ne in
        (ap (λ x. x.held) is, ap (λ x. x.ends.out) is))
        (cases_eq i (name.to.0 - 1))

-- the members, after one has got its out end back
back_at : (ns : List Shown) (i j place : ℕ) (n : InSeen) (o : OutSeen) → i < length ns → j < length ns
    → set (set (set ns i (lent_out (get_or ns i no_shown))) j (with_in (get_or (set ns i (lent_out (get_or ns i no_shown))) j no_shown) place n)) i (with_out (get_or (set (set ns i (lent_out (get_or ns i no_shown))) j (with_in (get_or (set ns i (lent_out (get_or ns i no_shown))) j no_shown) place n)) i no_shown) o)
    ≡ set (set ns i (with_out (get_or ns i no_shown) o)) j (with_in (get_or (set ns i (with_out (get_or ns i no_shown) o)) j no_shown) place n)
back_at ns i j place n o il jl = ⊎_elim
    (λ (e : j ≡ i). subst (λ k. set (set lent k (with_in (get_or lent k no_shown) place n)) i (with_out (get_or (set lent k (with_in (get_or lent k no_shown) place n)) i no_shown) o) ≡ set given k (with_in (get_or given k no_shown) place n)) (sym e) here)
    (λ (ne : j ≢ i). there ne)
    (cases_eq j i)
  where
    a : Shown
    a = get_or ns i no_shown

    lent : List Shown
    lent = set ns i (lent_out a)

    given : List Shown
    given = set ns i (with_out a o)

    lent_long : i < length lent
    lent_long = rw length-set il

    at_lent : get_or lent i no_shown ≡ lent_out a
    at_lent = get_or-set_same ns i (lent_out a) no_shown il

    at_given : get_or given i no_shown ≡ with_out a o
    at_given = get_or-set_same ns i (with_out a o) no_shown il

    -- one member is both
    here : set (set lent i (with_in (get_or lent i no_shown) place n)) i (with_out (get_or (set lent i (with_in (get_or lent i no_shown) place n)) i no_shown) o) ≡ set given i (with_in (get_or given i no_shown) place n)
    here =
        set-set lent i (with_in (get_or lent i no_shown) place n) (with_out (get_or (set lent i (with_in (get_or lent i no_shown) place n)) i no_shown) o)
        ∙ set-set ns i (lent_out a) (with_out (get_or (set lent i (with_in (get_or lent i no_shown) place n)) i no_shown) o)
        ∙ ap (λ x. set ns i (with_out x o)) (get_or-set_same lent i (with_in (get_or lent i no_shown) place n) no_shown lent_long ∙ ap (λ x. with_in x place n) at_lent)
        ∙ ap (set ns i) (both_back a place n o ∙ ap (λ x. with_in x place n) (sym at_given))
        ∙ sym (set-set ns i (with_out a o) (with_in (get_or given i no_shown) place n))

    there : j ≢ i → set (set lent j (with_in (get_or lent j no_shown) place n)) i (with_out (get_or (set lent j (with_in (get_or lent j no_shown) place n)) i no_shown) o) ≡ set given j (with_in (get_or given j no_shown) place n)
    there ne =
        let other : i ≢ j = λ e. ne (sym e) in
        let x : Shown = with_in (get_or lent j no_shown) place n in
        let mine : get_or (set lent j x) i no_shown ≡ lent_out a = get_or-set_other lent j i x no_shown other ∙ at_lent in
        ap (λ m. set (set lent j x) i (with_out m o)) mine
        ∙ set_comm lent j i x (with_out a o) ne
        ∙ ap (λ ms. set ms j x) (set-set ns i (lent_out a) (with_out a o))
        ∙ ap (λ m. set given j (with_in m place n)) (get_or-set_other ns i j (lent_out a) no_shown ne ∙ sym (get_or-set_other ns i j (with_out a o) no_shown ne))

-- and all parties
pub met_out : (q q' : Parties) (i : ℕ) (name : LinkName) (o o' : OutSeen) → i < length q.nodes → out_name_of (node_at q i).held ≡ Some name → (node_at q i).ends.out ≡ Some o → MeetsIn (lending q i) name o (lending q i) q' o' → MeetsOut i q (with_node q' i (with_out (node_at q' i) o'))
met_out q q' i name o o' il named there m = inr (
  name,
  o,
  o',
  named,
  there,
  ⊎_elim
      (λ (a : MeetsAt (lending q i) name o (lending q i) q' o'). inl (at_member a))
      (λ (b : MeetsDeposit (lending q i) name o (lending q i) q' o' ⊎ MeetsNone (lending q i) name o (lending q i) q' o'). ⊎_elim
      (λ (p : MeetsDeposit (lending q i) name o (lending q i) q' o'). inr (inl (record {
        deposits = p.deposits;
        meets = p.meets;
        parties = ap (λ x. with_node x i (with_out (node_at x i) o')) p.parties ∙ ap (λ ns. record q { nodes = ns; deposits = p.deposits }) mine;
      })))
      (λ (n : MeetsNone (lending q i) name o (lending q i) q' o'). inr (inr (record {
        member = λ place e. n.member place (ap (λ h. in_name_of h place) (lent_held q i (name.to.0 - 1) il) ∙ e);
        deposits = n.deposits;
        parties = ap (λ x. with_node x i (with_out (node_at x i) o')) n.parties ∙ ap (λ ns. record q { nodes = ns }) mine;
        out = n.out;
      })))
      b)
      m,
)
  where
    a : Shown
    a = node_at q i

    mine : set (set q.nodes i (lent_out a)) i (with_out (get_or (set q.nodes i (lent_out a)) i no_shown) o') ≡ set q.nodes i (with_out a o')
    mine = set-set q.nodes i (lent_out a) (with_out (get_or (set q.nodes i (lent_out a)) i no_shown) o') ∙ ap (λ m. set q.nodes i (with_out m o')) (get_or-set_same q.nodes i (lent_out a) no_shown il)

    at_member : MeetsAt (lending q i) name o (lending q i) q' o' → MeetsAt q name o (with_node q i (with_out a o')) (with_node q' i (with_out (node_at q' i) o')) o'
    at_member k =
        let long : length (lending q i).nodes ≡ length q.nodes = length-set q.nodes i (lent_out a) in
        let jl : name.to.0 - 1 < length q.nodes = omega (arith, k.inside, long) in
        let is : q' ≡ with_node (lending q i) (name.to.0 - 1) (with_in (receiver_of (lending q i) name) k.meets.place k.meets.met) = k.parties ∙ ap (with_node (lending q i) (name.to.0 - 1)) k.meets.shows in
        record {
          inside = jl;
          receiver = with_in (receiver_of (with_node q i (with_out a o')) name) k.meets.place k.meets.met;
          meets = record {
            place = k.meets.place;
            named = ap (λ h. in_name_of h k.meets.place) (sym (lent_held q i (name.to.0 - 1) il)) ∙ k.meets.named;
            met = k.meets.met;
            meets = (k.meets.meets.0, sym (lent_end q i (name.to.0 - 1) k.meets.place il) ∙ k.meets.meets.1, k.meets.meets.2);
            shows = refl;
          };
          parties = ap (λ x. with_node x i (with_out (node_at x i) o')) is ∙ ap (λ ns. record q { nodes = ns }) (back_at q.nodes i (name.to.0 - 1) k.meets.place k.meets.met o' il jl);
        }

-- ---- as many members

meets_many : (q q' : Parties) (name : LinkName) (o o' : OutSeen) → MeetsIn q name o q q' o' → length q'.nodes ≡ length q.nodes
meets_many q q' name o o' m = ⊎_elim
    (λ (a : MeetsAt q name o q q' o'). ap (λ (p : Parties). length p.nodes) a.parties ∙ length-set q.nodes (name.to.0 - 1) a.receiver)
    (λ (b : MeetsDeposit q name o q q' o' ⊎ MeetsNone q name o q q' o'). ⊎_elim
    (λ (p : MeetsDeposit q name o q q' o'). ap (λ (x : Parties). length x.nodes) p.parties)
    (λ (n : MeetsNone q name o q q' o'). ap (λ (x : Parties). length x.nodes) n.parties)
    b)
    m

pub still_inside : (ns ms : List Party) (i : ℕ) (y : Party) (r r' : Registry (RingIn Load)) (back back' : List Deposit) (name : LinkName) (o o' : OutSeen) → i < length ns → MeetsIn (parties (set ns i y) r back) name o (parties (set ns i y) r back) (parties ms r' back') o' → i < length ms
still_inside ns ms i y r r' back back' name o o' l m =
    omega (arith, l, meets_many (parties (set ns i y) r back) (parties ms r' back') name o o' m, length-map ms shown_in, length-map (set ns i y) shown_in, length-set ns i y)

-- ---- members that lend an out end

shown_at : (ns : List Party) (i : ℕ) (x : Party) → i < length ns → get_or (map shown_in ns) i no_shown ≡ shown_in (get_or ns i x)
shown_at ns i x l = get_or-map shown_in ns i x no_shown l

lent_parties : (ns : List Party) (i : ℕ) (x y : Party) (r : Registry (RingIn Load)) (back : List Deposit) → i < length ns → shown_in y ≡ lent_out (shown_in (get_or ns i x)) → parties (set ns i y) r back ≡ lending (parties ns r back) i
lent_parties ns i x y r back l e =
    ap (λ ms. record (parties ns r back) { nodes = ms }) (map-set shown_in ns i y ∙ ap (set (map shown_in ns) i) (e ∙ ap lent_out (sym (shown_at ns i x l))))

given_parties : (ns : List Party) (i : ℕ) (x y : Party) (r : Registry (RingIn Load)) (back : List Deposit) (o : OutSeen) → i < length ns → shown_in y ≡ with_out (shown_in (get_or ns i x)) o → parties (set ns i y) r back ≡ with_node (parties ns r back) i (with_out (node_at (parties ns r back) i) o)
given_parties ns i x y r back o l e =
    ap (λ ms. record (parties ns r back) { nodes = ms }) (map-set shown_in ns i y ∙ ap (set (map shown_in ns) i) (e ∙ ap (λ m. with_out m o) (sym (shown_at ns i x l))))

named_at : (ns : List Party) (i : ℕ) (x : Party) (name : LinkName) → i < length ns → out_name_of (shown_in (get_or ns i x)).held ≡ Some name → out_name_of (get_or (map shown_in ns) i no_shown).held ≡ Some name
named_at ns i x name l e = ap (λ (m : Shown). out_name_of m.held) (shown_at ns i x l) ∙ e

there_at : (ns : List Party) (i : ℕ) (x : Party) (o : OutSeen) → i < length ns → (shown_in (get_or ns i x)).ends.out ≡ Some o → (get_or (map shown_in ns) i no_shown).ends.out ≡ Some o
there_at ns i x o l e = ap (λ (m : Shown). m.ends.out) (shown_at ns i x l) ∙ e

-- The member at a place has lent its out end, whose link has this name: it is y meanwhile.
pub record HasLent (ns : List Party) (i : ℕ) (x y : Party) (name : LinkName) (o : OutSeen) : Type 0 where
  pub within : i < length ns
  pub named : out_name_of (shown_in (get_or ns i x)).held ≡ Some name
  pub there : (shown_in (get_or ns i x)).ends.out ≡ Some o
  pub lent : shown_in y ≡ lent_out (shown_in (get_or ns i x))

-- the same of what stands at the place
pub has_lent : (ns : List Party) (i : ℕ) (x y : Party) (name : LinkName) (o : OutSeen) → i < length ns → x ≡ get_or ns i x → out_name_of (shown_in x).held ≡ Some name → (shown_in x).ends.out ≡ Some o → shown_in y ≡ lent_out (shown_in x) → HasLent ns i x y name o
has_lent ns i x y name o l is named there lent = record {
  within = l;
  named = subst (λ z. out_name_of (shown_in z).held ≡ Some name) is named;
  there = subst (λ z. (shown_in z).ends.out ≡ Some o) is there;
  lent = subst (λ z. shown_in y ≡ lent_out (shown_in z)) is lent;
}

-- an out end that was lent may meet
pub out_may : (ns : List Party) (i : ℕ) (x y : Party) (r : Registry (RingIn Load)) (back : List Deposit) (name : LinkName) (o : OutSeen) → MayMeetOut (parties ns r back) i → HasLent ns i x y name o → MayMeet (parties (set ns i y) r back) name o
out_may ns i x y r back name o may h =
    let l = h.within in
    let many : i < length (map shown_in ns) = rw length-map l in
    subst (λ q. MayMeet q name o) (sym (lent_parties ns i x y r back l h.lent))
    (lent_may (parties ns r back) i name o many (may name o (named_at ns i x name l h.named) (there_at ns i x o l h.there)))

-- the member still sends on the link, and hasn't its end
pub out_away : (ns ms : List Party) (i : ℕ) (x y z : Party) (r r' : Registry (RingIn Load)) (back back' : List Deposit) (name : LinkName) (o o' : OutSeen) → HasLent ns i x y name o → MeetsIn (parties (set ns i y) r back) name o (parties (set ns i y) r back) (parties ms r' back') o'
    → ((shown_in (get_or ms i z)).held ≡ (shown_in (get_or ns i x)).held) × ((shown_in (get_or ms i z)).ends.out ≡ None)
out_away ns ms i x y z r r' back back' name o o' h m =
    let l = h.within in
    let lm = still_inside ns ms i y r r' back back' name o o' l m in
    let k = lent_still (parties (set ns i y) r back) (parties ms r' back') i name o o' m in
    let long : i < length (set ns i y) = rw length-set l in
    let is : get_or (map shown_in (set ns i y)) i no_shown ≡ lent_out (shown_in (get_or ns i x)) = shown_at (set ns i y) i y long ∙ ap shown_in (get_or-set_same ns i y y l) ∙ h.lent in (
      ap (λ (a : Shown). a.held) (sym (shown_at ms i z lm)) ∙ k.0 ∙ ap (λ (a : Shown). a.held) is,
      ap (λ (a : Shown). a.ends.out) (sym (shown_at ms i z lm)) ∙ k.1 ∙ ap (λ (a : Shown). a.ends.out) is,
    )

-- an end that has met has ended where it had
pub met_ended : (q q' : Parties) (name : LinkName) (o o' : OutSeen) → MeetsIn q name o q q' o' → o'.ended ≡ o.ended
met_ended q q' name o o' m = ⊎_elim
    (λ (a : MeetsAt q name o q q' o'). a.meets.meets.2.ended)
    (λ (b : MeetsDeposit q name o q q' o' ⊎ MeetsNone q name o q q' o'). ⊎_elim
    (λ (p : MeetsDeposit q name o q q' o'). p.meets.meets.2.ended)
    (λ (n : MeetsNone q name o q q' o'). ap (λ e. e.ended) n.out)
    b)
    m

some_out : (h : Held) (o : Option Outgoing) (name : LinkName) → option_map (λ (l : Outgoing). ring_link h.id l.to l.opened) o ≡ Some name → IsSome o
some_out h None name e = absurd (cc)
some_out h (Some l) name e = search rules

pub out_sends : (a b : Held) (name : LinkName) → b ≡ a → out_name_of a ≡ Some name → IsSome b.out
out_sends a b name same e = some_out b b.out name (ap out_name_of same ∙ e)

pub out_met : (ns ms : List Party) (i : ℕ) (x y z v : Party) (r r' : Registry (RingIn Load)) (back back' : List Deposit) (name : LinkName) (o o' : OutSeen) → HasLent ns i x y name o → MeetsIn (parties (set ns i y) r back) name o (parties (set ns i y) r back) (parties ms r' back') o' → shown_in v ≡ with_out (shown_in (get_or ms i z)) o'
    → MeetsOut i (parties ns r back) (parties (set ms i v) r' back')
out_met ns ms i x y z v r r' back back' name o o' h m given =
    let l = h.within in
    let lm = still_inside ns ms i y r r' back back' name o o' l m in
    let many : i < length (map shown_in ns) = rw length-map l in
    subst (MeetsOut i (parties ns r back)) (sym (given_parties ms i z v r' back' o' lm given))
    (met_out (parties ns r back) (parties ms r' back') i name o o' many (named_at ns i x name l h.named) (there_at ns i x o l h.there)
    (subst (λ q. MeetsIn q name o q (parties ms r' back') o') (lent_parties ns i x y r back l h.lent) m))

-- a member without an out end
pub out_none : (ns : List Party) (i : ℕ) (x y : Party) (r : Registry (RingIn Load)) (back : List Deposit) → i < length ns → (shown_in (get_or ns i x)).ends.out ≡ None → shown_in y ≡ shown_in (get_or ns i x) → MeetsOut i (parties ns r back) (parties (set ns i y) r back)
out_none ns i x y r back l none same = inl (
  ap (λ (m : Shown). m.ends.out) (shown_at ns i x l) ∙ none,
  ap (λ ms. record (parties ns r back) { nodes = ms }) (map-set shown_in ns i y ∙ ap (set (map shown_in ns) i) (same ∙ sym (shown_at ns i x l)) ∙ set-get_or (map shown_in ns) i no_shown),
)
