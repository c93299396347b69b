-- What every view keeps, at its opening and under a mark.
use Rattle.std.proofs.Common.{◌≡◌, ◌≢◌, ℕ, suc, ◌+◌, ◌*◌, ◌≤◌, ◌<◌, Bool, true, false, cond, not, List, [], ◌∷◌, map, length, get_or, refl, sym, ap, subst, ◌∙◌, arith, nat_lt, Option, Some, None, Ok, Err}
use Rattle.std.specs.List.{sum_by, list_all}
use Rattle.std.specs.Prelude.{◌&&◌}
use Rattle.std.proofs.lemmas.Bool.{lt-ltb, false≢true}
use Rattle.std.proofs.lemmas.List.{length-map}
use Rattle.std.proofs.lemmas.List.Sums.{sum_by-cons, sum_by-le}
use Rattle.ring_names.specs.declared.reason.Reason.{Reason}
use Rattle.ring_names.specs.declared.reason.Reason.TheVariants.{UnknownMember, AlreadyDead, NotDead}
use Rattle.group_view.specs.declared.entry.Entry.{Entry}
use Rattle.group_view.specs.declared.entry.Mark.{Mark}
use Rattle.group_view.specs.declared.entry.Mark.TheVariants.{Live, Dead, Erased}
use Rattle.group_view.specs.Ring.{is_in, AreDistinct}
use Rattle.group_view.specs.View.{Group, as_id, ids, stands_in, entry_in, is_live, is_dead, is_live_mark, is_dead_mark, is_erased_mark}
use Rattle.group_view.specs.Change.{AreOpeningNames, opening_entry, opening_entries, opening, dated, with_mark, remarked, marked, erased, mark_refusal, erase_refusal, answer_of, IsFault}
use Rattle.group_view.specs.declared.fault.ViewFault.{ViewFault}
use Rattle.group_view.specs.declared.fault.ViewFault.TheVariants as faults
use Rattle.group_view.specs.Kept.{changes_of, changes_of_mark, IsGroup}
use Rattle.group_view.specs.Laws.{KeepsNeighbours}
use Rattle.group_view.specs.Parts.{mark_in}
use Rattle.group_view.proofs.Rings.{nat_eq-not}
use Rattle.group_view.proofs.Cuts.{mark_is}
use Rattle.group_view.proofs.Marks.{SameRing, same_left, same_right, same_ring_all, dated_keeps, ids-marked, changes-dated, dated_changes, dated_same, marked_same, changes-marked}

-- ---- the opening

pub length-opening_entries : (n : ℕ) (names : List (List ℕ)) → length (opening_entries n names) ≡ length names
length-opening_entries n [] = refl
length-opening_entries n (name ∷ names) = ap suc (length-opening_entries (n + 1) names)

-- no id below the first one is there
pub opening_above : (n k : ℕ) (names : List (List ℕ)) → k < n → is_in k (ids (opening_entries n names)) ≡ false
opening_above n k [] h = refl
opening_above n k (name ∷ names) h =
    let ne : k ≢ n = omega arith in
    ap (λ b. cond b true (is_in k (ids (opening_entries (n + 1) names)))) (nat_eq-not k n ne) ∙ opening_above (n + 1) k names (omega arith)

pub opening_distinct : (n : ℕ) (names : List (List ℕ)) → AreDistinct (ids (opening_entries n names))
opening_distinct n [] = tt
opening_distinct n (name ∷ names) = (opening_above (n + 1) n names (omega arith), opening_distinct (n + 1) names)

pub opening_fresh : (n m : ℕ) (names : List (List ℕ)) → n + length names ≤ m → list_all (λ k. nat_lt k m) (ids (opening_entries n names)) ≡ true
opening_fresh n m [] h = refl
opening_fresh n m (name ∷ names) h =
    let lt : n < m = omega arith in
    ap (λ b. b && list_all (λ k. nat_lt k m) (ids (opening_entries (n + 1) names))) (lt-ltb n m lt) ∙ opening_fresh (n + 1) m names (omega arith)

pub opening_changes : (n : ℕ) (names : List (List ℕ)) → sum_by changes_of (opening_entries n names) ≡ 2 * length names
opening_changes n [] = refl
opening_changes n (name ∷ names) = sum_by-cons changes_of (opening_entry n name) (opening_entries (n + 1) names) ∙ (let ih : sum_by changes_of (opening_entries (n + 1) names) ≡ 2 * length names = opening_changes (n + 1) names in let sum : 2 + sum_by changes_of (opening_entries (n + 1) names) ≡ 2 * suc (length names) = omega arith in sum)

pub opening_is : (names : List (List ℕ)) → AreOpeningNames names → IsGroup (opening names)
opening_is names h = record {
  few = omega (arith, length-opening_entries 1 names, h.few);
  distinct = opening_distinct 1 names;
  numbered = ap (λ n. n + 1) (sym (length-opening_entries 1 names));
  fresh = opening_fresh 1 (length names + 1) names (omega arith);
  counted = omega (arith, opening_changes 1 names, h.some);
  led = by_names names h.some;
}
  where
    by_names : (names : List (List ℕ)) → 0 < length names → 1 + cond (stands_in (opening_entries 1 names) (Some (as_id 1))) 0 1 ≤ 1
    by_names [] some = absurd (omega arith)
    by_names (name ∷ names) some = omega arith

-- ---- a version is small

pub few_changes : (e : Entry) → changes_of e ≤ 4
few_changes e = by_case e.mark e.synced
  where
    by_case : (mark : Mark) (synced : Bool) → 1 + changes_of_mark mark + cond synced 1 0 ≤ 4
    by_case Live true = omega arith
    by_case Live false = omega arith
    by_case Dead true = omega arith
    by_case Dead false = omega arith
    by_case Erased true = omega arith
    by_case Erased false = omega arith

pub small_version : (g : Group) → IsGroup g → g.version < 256
small_version g h = omega (arith, h.counted, h.few, sum_by-le changes_of 4 g.entries (λ k d l. few_changes (get_or g.entries k d)))

-- ---- a mark

pub ids-remarked_group : (m : Mark) (g : Group) (d : ℕ) → ids (remarked m g d).entries ≡ ids g.entries
ids-remarked_group m g d =
    let s : SameRing (remarked m g d).entries (map (with_mark m d) g.entries) = same_ring_all (dated (g.version + 1) g.entries (map (with_mark m d) g.entries)) (map (with_mark m d) g.entries) (dated_keeps (g.version + 1) g.entries (map (with_mark m d) g.entries)) in
    s.same_ids ∙ ids-marked m d g.entries

pub ids-marked_group : (g : Group) (d : ℕ) → ids (marked g d).entries ≡ ids g.entries
ids-marked_group g d = ids-remarked_group Dead g d

pub length-remarked_group : (m : Mark) (g : Group) (d : ℕ) → length (remarked m g d).entries ≡ length g.entries
length-remarked_group m g d = simp length-map

pub changes-remarked_group : (m : Mark) (g : Group) (d : ℕ) → AreDistinct (ids g.entries) → is_in d (ids g.entries) ≡ true → changes_of_mark m ≡ changes_of_mark (entry_in g.entries d).mark + 1 → sum_by changes_of (remarked m g d).entries ≡ sum_by changes_of g.entries + 1
changes-remarked_group m g d dx i l =
    changes-dated (dated (g.version + 1) g.entries (map (with_mark m d) g.entries)) (map (with_mark m d) g.entries) (dated_changes (g.version + 1) g.entries (map (with_mark m d) g.entries))
    ∙ changes-marked m d g.entries dx i l

-- a version more leaves room for another term
pub led_on : (a b : Bool) (term version : ℕ) → term + cond a 0 1 ≤ version → term + cond b 0 1 ≤ version + 1
led_on true true term version h = omega arith
led_on true false term version h = omega arith
led_on false true term version h = omega arith
led_on false false term version h = omega arith

-- an entry that gets the next mark
pub remarked_is : (m : Mark) (g : Group) (d : ℕ) → IsGroup g → is_in d (ids g.entries) ≡ true → changes_of_mark m ≡ changes_of_mark (entry_in g.entries d).mark + 1 → IsGroup (remarked m g d)
remarked_is m g d h i l = record {
  few = omega (arith, h.few, length-remarked_group m g d);
  distinct = subst AreDistinct (sym (ids-remarked_group m g d)) h.distinct;
  numbered = h.numbered ∙ ap (λ n. n + 1) (sym (length-remarked_group m g d));
  fresh = ap (list_all (λ n. nat_lt n g.next_id)) (ids-remarked_group m g d) ∙ h.fresh;
  counted = omega (arith, h.counted, changes-remarked_group m g d h.distinct i l);
  led = led_on (stands_in g.entries g.master) (stands_in (remarked m g d).entries g.master) g.term g.version h.led;
}

-- a live entry has had no mark
pub live_changes : (m : Mark) → is_live_mark m ≡ true → changes_of_mark Dead ≡ changes_of_mark m + 1
live_changes Live h = refl
live_changes Dead h = absurd (false≢true h)
live_changes Erased h = absurd (false≢true h)

-- and a dead one that of its death
pub dead_changes : (m : Mark) → is_dead_mark m ≡ true → changes_of_mark Erased ≡ changes_of_mark m + 1
dead_changes Live h = absurd (false≢true h)
dead_changes Dead h = refl
dead_changes Erased h = absurd (false≢true h)

pub marked_is : (g : Group) (d : ℕ) → IsGroup g → is_in d (ids g.entries) ≡ true → is_live g.entries d ≡ true → IsGroup (marked g d)
marked_is g d h i l = remarked_is Dead g d h i (live_changes (entry_in g.entries d).mark l)

-- ---- refusals

-- by what the id stands for
abbrev pub refusal_by : Option Mark → Option Reason
refusal_by None = Some UnknownMember
refusal_by (Some mark) = cond (is_live_mark mark) None (Some AlreadyDead)

pub mark_refusal_is : (es : List Entry) (p : ℕ) → mark_refusal es p ≡ refusal_by (mark_in es p)
mark_refusal_is es p = by_in (is_in p (ids es)) ∙ ap refusal_by (sym (mark_is es p))
  where
    by_live : (b : Bool) → cond (not b) (Some AlreadyDead) None ≡ cond b None (Some AlreadyDead)
    by_live true = refl
    by_live false = refl

    by_in : (a : Bool) → cond (not a) (Some UnknownMember) (cond (not (is_live es p)) (Some AlreadyDead) None) ≡ refusal_by (cond a (Some (entry_in es p).mark) None)
    by_in true = by_live (is_live es p)
    by_in false = refl

-- of an erasure likewise
abbrev pub erase_refusal_by : Option Mark → Option Reason
erase_refusal_by None = Some UnknownMember
erase_refusal_by (Some mark) = cond (is_dead_mark mark) None (Some NotDead)

pub erase_refusal_is : (es : List Entry) (p : ℕ) → erase_refusal es p ≡ erase_refusal_by (mark_in es p)
erase_refusal_is es p = by_in (is_in p (ids es)) ∙ ap erase_refusal_by (sym (mark_is es p))
  where
    by_dead : (b : Bool) → cond (not b) (Some NotDead) None ≡ cond b None (Some NotDead)
    by_dead true = refl
    by_dead false = refl

    by_in : (a : Bool) → cond (not a) (Some UnknownMember) (cond (not (is_dead es p)) (Some NotDead) None) ≡ erase_refusal_by (cond a (Some (entry_in es p).mark) None)
    by_in true = by_dead (is_dead es p)
    by_in false = refl

-- where it is answered that nothing fails, nothing does
pub answer_none : (r : Option Reason) (u : Unit {0}) → answer_of r ≡ Ok u → r ≡ None
answer_none None u h = refl
answer_none (Some reason) u h = cc

-- and where a reason is answered, it is the fault
pub fault_told : (r : Option Reason) (reason : Reason) (fault : ViewFault) → answer_of r ≡ Err reason → fault ≡ faults.Refused reason → IsFault r fault
fault_told None reason fault h is = cc
fault_told (Some other) reason fault h is = is ∙ ap faults.Refused (let same : reason ≡ other = cc in same)

-- what is live is there
pub record LivesThere (es : List Entry) (p : ℕ) : Type 0 where
  pub there : is_in p (ids es) ≡ true
  pub lives : is_live es p ≡ true

pub lives_there : (es : List Entry) (p : ℕ) (mark : Mark) → mark_in es p ≡ Some mark → is_live_mark mark ≡ true → LivesThere es p
lives_there es p mark h l = by_in (is_in p (ids es)) refl (sym (mark_is es p) ∙ h)
  where
    by_in : (b : Bool) → is_in p (ids es) ≡ b → cond b (Some (entry_in es p).mark) None ≡ Some mark → LivesThere es p
    by_in true e k = record { there = e; lives = let m : (entry_in es p).mark ≡ mark = cc in ap is_live_mark m ∙ l }
    by_in false e k = cc

-- what is dead is there
pub record DeadThere (es : List Entry) (p : ℕ) : Type 0 where
  pub there : is_in p (ids es) ≡ true
  pub dead : is_dead es p ≡ true

-- who is dead isn't live
pub dead_not_live : (m : Mark) → is_dead_mark m ≡ true → is_live_mark m ≡ false
dead_not_live Live h = absurd (false≢true h)
dead_not_live Dead h = refl
dead_not_live Erased h = refl

-- nor is who lives erased
pub live_not_erased : (m : Mark) → is_live_mark m ≡ true → is_erased_mark m ≡ false
live_not_erased Live h = refl
live_not_erased Dead h = refl
live_not_erased Erased h = absurd (false≢true h)

-- an erasure dates nobody
pub erased_entries : (g : Group) (d : ℕ) → is_dead g.entries d ≡ true → map (with_mark Erased d) g.entries ≡ (erased g d).entries
erased_entries g d h =
    sym (dated_same (g.version + 1) g.entries (map (with_mark Erased d) g.entries) (marked_same Erased d g.entries refl (dead_not_live (entry_in g.entries d).mark h)) (map (with_mark Erased d) g.entries))

-- and leaves all neighbours
pub erased_neighbours : (g : Group) (d : ℕ) → is_dead g.entries d ≡ true → KeepsNeighbours g.entries (erased g d).entries
erased_neighbours g d h = record { left = λ p. same_left (erased g d).entries g.entries p same; right = λ p. same_right (erased g d).entries g.entries p same }
  where
    same : SameRing (erased g d).entries g.entries
    same = subst (λ es. SameRing es g.entries) (erased_entries g d h) (marked_same Erased d g.entries refl (dead_not_live (entry_in g.entries d).mark h))
