-- What a member that waits makes of its first packet, line by line.
use Rattle.std.proofs.Common.{◌≡◌, ℕ, ◌+◌, ◌-◌, Bool, true, false, cond, ◌&&◌, nat_eq, nat_le, List, [], ◌∷◌, length, drop, max, Option, Some, None, is_some, refl, sym, ap, subst, ◌∙◌, arith}
use Rattle.std.proofs.lemmas.Bool.{false≢true, le-leb, and_parts}
use Rattle.std.specs.Option.{option_map_or}
use Rattle.group_view.specs.Ring.{is_in, AreDistinct}
use Rattle.group_view.proofs.Rings.{nat_eq-is, nat_eq-same}
use Rattle.activity.specs.declared.change.Change.TheVariants.{Receive}
use Rattle.activity.specs.Kept.{Kept, KeptRow, no_kept, kept_of, has_room}
use Rattle.activity.specs.Packets.{LineSeen, got_in, origins, line_of}
use Rattle.activity.specs.Plan.{change_of, changed, arrivals, begins, opened, begun, whole_change}
use Rattle.activity.proofs.Lines.{line_absent}
use Rattle.activity.proofs.Rows.{same_written, kept_absent}

-- ---- lines of different origins

module _ (x : LineSeen) (rest : List LineSeen) (apart : is_in x.origin.0 (origins rest) ≡ false) where
  -- the first line's origin has no line behind it
  pub none_behind : (p : ℕ) → nat_eq p x.origin.0 ≡ true → line_of rest p ≡ None
  none_behind p at = line_absent p rest (subst (λ q. is_in q (origins rest) ≡ false) (sym (nat_eq-is p x.origin.0 at)) apart)

  -- so an origin with a line behind it is another
  pub other_behind : (p : ℕ) (c : LineSeen) → line_of rest p ≡ Some c → nat_eq p x.origin.0 ≡ false
  other_behind p c h = by (nat_eq p x.origin.0) refl
    where
      by : (b : Bool) → nat_eq p x.origin.0 ≡ b → b ≡ false
      by false e = refl
      by true e = absurd (false≢true (ap is_some (sym (none_behind p e) ∙ h)))

  pub line_behind : (p : ℕ) (o : Option LineSeen) → nat_eq p x.origin.0 ≡ false → line_of rest p ≡ o → line_of (x ∷ rest) p ≡ o
  line_behind p o other h = ap (λ b. cond b (Some x) (line_of rest p)) other ∙ h

  line_stays : (p : ℕ) (c : LineSeen) → line_of rest p ≡ Some c → line_of (x ∷ rest) p ≡ Some c
  line_stays p c h = line_behind p (Some c) (other_behind p c h) h

  pub line_first : (p : ℕ) → nat_eq p x.origin.0 ≡ true → line_of (x ∷ rest) p ≡ Some x
  line_first p at = ap (λ b. cond b (Some x) (line_of rest p)) at

-- the lines that a loop has left: each is its origin's line
pub record AreLeft (all rest : List LineSeen) : Type 0 where
  pub distinct : AreDistinct (origins rest)
  pub same : (p : ℕ) (c : LineSeen) → line_of rest p ≡ Some c → line_of all p ≡ Some c

left_behind : (all : List LineSeen) (x : LineSeen) (rest : List LineSeen) → AreLeft all (x ∷ rest) → AreLeft all rest
left_behind all x rest l = record { distinct = l.distinct.1; same = λ p c h. l.same p c (line_stays x rest l.distinct.0 p c h) }

-- ---- a line that is used

-- what is kept before its messages join, and after
pub opened_used : (c : LineSeen) → begins c ≡ true → opened (Some c) ≡ record { forgot = c.lo; messages = []; retired = 0; base = got_in c }
opened_used c h = ap (λ b. cond b (record { forgot = c.lo; messages = []; retired = 0; base = got_in c }) no_kept) h

pub begun_used : (c : LineSeen) → begins c ≡ true → begun (Some c) ≡ record { forgot = c.forgot; messages = drop (c.forgot - c.lo) c.messages; retired = 0; base = got_in c }
begun_used c h = ap (λ b. cond b (record { forgot = c.forgot; messages = drop (c.forgot - c.lo) c.messages; retired = 0; base = got_in c }) no_kept) h

pub opened_passed : (c : LineSeen) → begins c ≡ false → opened (Some c) ≡ begun (Some c)
opened_passed c h = ap (λ b. cond b (record { forgot = c.lo; messages = []; retired = 0; base = got_in c }) no_kept) h
    ∙ sym (ap (λ b. cond b (record { forgot = c.forgot; messages = drop (c.forgot - c.lo) c.messages; retired = 0; base = got_in c }) no_kept) h)

whole_fits : (c : LineSeen) → nat_le c.lo c.forgot ≡ true → nat_le c.forgot (got_in c) ≡ true → change_of false (record { forgot = c.lo; messages = []; retired = 0; base = got_in c }) c ≡ Some (whole_change c)
whole_fits c a b =
    let one : nat_le c.lo (c.lo + 0) ≡ true = le-leb c.lo (c.lo + 0) (omega arith) in
    let two : nat_le (c.lo + 0) (got_in c) ≡ true = le-leb (c.lo + 0) (got_in c) (omega arith) in
    let top : max c.lo (c.lo + 0) ≡ c.lo = omega arith in
    ap (λ t. cond t (Some (Receive c.origin (max c.lo (c.lo + 0)) (got_in c) c.forgot)) None)
    (λ i. one i && two i && a i && b i)
    ∙ ap (λ n. Some (Receive c.origin n (got_in c) c.forgot)) top

pub first_planned : (k : Kept) (c : LineSeen) → begins c ≡ true → k ≡ opened (Some c) → change_of false k c ≡ Some (whole_change c)
first_planned k c h e =
    let parts = and_parts (nat_le c.lo c.forgot) (nat_le c.forgot (got_in c)) h in
    ap (λ k. change_of false k c) (e ∙ opened_used c h) ∙ whole_fits c parts.0 parts.1

pub first_made : (k : Kept) (c : LineSeen) → begins c ≡ true → k ≡ opened (Some c) → changed k c (whole_change c) ≡ begun (Some c)
first_made k c h e =
    let z : c.lo - c.lo ≡ 0 = omega arith in
    ap (λ k. changed k c (whole_change c)) (e ∙ opened_used c h) ∙ ap (λ n. record { forgot = c.forgot; messages = drop (c.forgot - c.lo) (drop n c.messages); retired = 0; base = got_in c }) z ∙ sym (begun_used c h)

pub first_arrivals : (c : LineSeen) → arrivals (whole_change c) ≡ length c.messages
first_arrivals c = omega arith

-- ---- filling

-- how far the tables are, while the messages of lines join
pub record Filling (cur : List KeptRow) (all rest : List LineSeen) : Type 0 where
  pub left : AreLeft all rest
  pub opened : (p : ℕ) (c : LineSeen) → line_of rest p ≡ Some c → kept_of cur p ≡ opened (Some c)
  pub room : (p : ℕ) (c : LineSeen) → line_of rest p ≡ Some c → begins c ≡ true → has_room cur p (length c.messages) ≡ true
  pub done : (p : ℕ) → line_of rest p ≡ None → kept_of cur p ≡ begun (line_of all p)

module _ (cur : List KeptRow) (all its : List LineSeen) (x : LineSeen) (rest : List LineSeen) (id : ℕ) (f : Filling cur all its) (step : its ≡ x ∷ rest) (at : id ≡ x.origin.0) where
  pub fill_holds : Filling cur all (x ∷ rest)
  fill_holds = subst (Filling cur all) step f

  pub fill_kept : kept_of cur id ≡ opened (Some x)
  fill_kept = fill_holds.opened id x (line_first x rest fill_holds.left.distinct.0 id (ap (λ n. nat_eq n x.origin.0) at ∙ nat_eq-same x.origin.0))

  pub fill_room : begins x ≡ true → has_room cur id (arrivals (whole_change x)) ≡ true
  fill_room h = ap (has_room cur id) (first_arrivals x) ∙ fill_holds.room id x (line_first x rest fill_holds.left.distinct.0 id (ap (λ n. nat_eq n x.origin.0) at ∙ nat_eq-same x.origin.0)) h

  pub fill_line : (new : List KeptRow) → kept_of new id ≡ begun (Some x) → ((p : ℕ) → nat_eq p id ≡ false → kept_of new p ≡ kept_of cur p)
      → ((p n : ℕ) → nat_eq p id ≡ false → has_room new p n ≡ has_room cur p n) → Filling new all rest
  fill_line new first others room = record {
    left = left_behind all x rest fill_holds.left;
    opened = λ p c h. others p (apart p c h) ∙ fill_holds.opened p c (line_stays x rest fill_holds.left.distinct.0 p c h);
    room = λ p c h used. room p (length c.messages) (apart p c h) ∙ fill_holds.room p c (line_stays x rest fill_holds.left.distinct.0 p c h) used;
    done = λ p h. by p (nat_eq p x.origin.0) refl h;
  }
    where
      apart : (p : ℕ) (c : LineSeen) → line_of rest p ≡ Some c → nat_eq p id ≡ false
      apart p c h = ap (nat_eq p) at ∙ other_behind x rest fill_holds.left.distinct.0 p c h

      by : (p : ℕ) (b : Bool) → nat_eq p x.origin.0 ≡ b → line_of rest p ≡ None → kept_of new p ≡ begun (line_of all p)
      by p false e h = others p (ap (nat_eq p) at ∙ e) ∙ fill_holds.done p (line_behind x rest fill_holds.left.distinct.0 p None e h)
      by p true e h = ap (kept_of new) (nat_eq-is p x.origin.0 e ∙ sym at) ∙ first ∙ sym (ap begun (fill_holds.left.same p x (line_first x rest fill_holds.left.distinct.0 p e)))

-- ---- opening

-- how far the tables are, while rows are made for lines
pub record Opening (cur : List KeptRow) (all rest : List LineSeen) : Type 0 where
  pub left : AreLeft all rest
  pub absent : (p : ℕ) (c : LineSeen) → line_of rest p ≡ Some c → has_room cur p 0 ≡ false
  pub done : (p : ℕ) → line_of rest p ≡ None → kept_of cur p ≡ opened (line_of all p)
  pub room : (p : ℕ) (c : LineSeen) → line_of rest p ≡ None → line_of all p ≡ Some c → begins c ≡ true → has_room cur p (length c.messages) ≡ true

module _ (cur : List KeptRow) (all : List LineSeen) (x : LineSeen) (rest : List LineSeen) (f : Opening cur all (x ∷ rest)) where
  pub open_absent : has_room cur x.origin.0 0 ≡ false
  open_absent = f.absent x.origin.0 x (line_first x rest f.left.distinct.0 x.origin.0 (nat_eq-same x.origin.0))

  pub open_line : (new : List KeptRow) → ((p : ℕ) → kept_of new p ≡ cond (nat_eq p x.origin.0) (opened (Some x)) (kept_of cur p))
      → (begins x ≡ true → has_room new x.origin.0 (length x.messages) ≡ true)
      → ((p m : ℕ) → nat_eq p x.origin.0 ≡ false → has_room new p m ≡ has_room cur p m) → Opening new all rest
  open_line new kept room others = record {
    left = left_behind all x rest f.left;
    absent = λ p c h. others p 0 (other_behind x rest f.left.distinct.0 p c h) ∙ f.absent p c (line_stays x rest f.left.distinct.0 p c h);
    done = λ p h. kept p ∙ by p (nat_eq p x.origin.0) refl h;
    room = λ p c h there used. roomy p c (nat_eq p x.origin.0) refl h there used;
  }
    where
      by : (p : ℕ) (b : Bool) → nat_eq p x.origin.0 ≡ b → line_of rest p ≡ None → cond b (opened (Some x)) (kept_of cur p) ≡ opened (line_of all p)
      by p false e h = f.done p (line_behind x rest f.left.distinct.0 p None e h)
      by p true e h = sym (ap opened (f.left.same p x (line_first x rest f.left.distinct.0 p e)))

      roomy : (p : ℕ) (c : LineSeen) (b : Bool) → nat_eq p x.origin.0 ≡ b → line_of rest p ≡ None → line_of all p ≡ Some c → begins c ≡ true → has_room new p (length c.messages) ≡ true
      roomy p c false e h there used = others p (length c.messages) e ∙ f.room p c (line_behind x rest f.left.distinct.0 p None e h) there used
      roomy p c true e h there used =
          let is : x ≡ c = ap (λ o. option_map_or (λ y. y) o x) (sym (f.left.same p x (line_first x rest f.left.distinct.0 p e)) ∙ there) in
          subst (λ y. has_room new p (length y.messages) ≡ true) is (ap (λ q. has_room new q (length x.messages)) (nat_eq-is p x.origin.0 e) ∙ room (subst (λ y. begins y ≡ true) (sym is) used))

-- an origin without a row has what nothing is
pub absent_stays : (rows : List KeptRow) (id : ℕ) (k : Kept) → has_room rows id 0 ≡ false → k ≡ no_kept → (p : ℕ) → kept_of rows p ≡ cond (nat_eq p id) k (kept_of rows p)
absent_stays rows id k absent e p = sym (same_written (kept_of rows) id k (e ∙ sym (kept_absent rows id absent)) p)
