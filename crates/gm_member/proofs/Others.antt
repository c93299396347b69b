-- Where one member steps, each other holds what it held, whether it runs or has stopped.
use Rattle.gm_member.specs.Packets.{places}
use Rattle.ring_rules.proofs.work.OwnEnds.{other_out}
use Rattle.std.proofs.Common.{◌≡◌, ◌≢◌, ℕ, ◌+◌, ◌<◌, [], ◌∷◌, ⊎_elim, length, map, Some, None, refl, sym, ap, ◌∙◌}
use Rattle.std.specs.Prelude.{option_map}
use Rattle.std.specs.List.{filter, range_with_len}
use Rattle.std.proofs.lemmas.Bool.{cases_eq}
use Rattle.std.proofs.lemmas.List.{length-set, get_or-set_same, get_or-set_other}
use Rattle.queue_core.specs.declared.message.Message.{Message}
use Rattle.ring_rules.specs.declared.phase.Ending.TheVariants.{Halted}
use Rattle.ring_rules.specs.Machine.{World, Member, Link, no_link, no_member, row_at, member_at, link_at, view_in, oldest}
use Rattle.ring_rules.specs.Step.{size, log_of, with_member, with_link, publish_at, published, put_on as put_in, pushed, gain_on, take_from, taker, begun, begin_from, popped, leave_link, with_current, finished, stop_at, stopped, end_out}
use Rattle.ring_rules.proofs.rings.Maps.{map-range_same}
use Rattle.gm_member.specs.Stands.{kept_by, held_in, outgoing_in, incoming_in}
use Rattle.gm_member.proofs.Fit.{IsFit}
use Rattle.gm_member.proofs.Facts.{right_row}
use Rattle.gm_member.proofs.Knowing.{kept_grown}
use Rattle.ring_rules.proofs.runs.OwnLogs.{cast_log, cast_log_other}
use Rattle.gm_member.proofs.Parts.{known_by, known_same, log_written, held_is, held_by, seen, incoming_seen, outgoing_of, outgoing_same, there_same, waits_same, door_but, other_waits_not, link_held, still_held}
use Rattle.gm_member.proofs.DoorParts.{waits_by, member_other}
use Rattle.gm_member.proofs.PutStands.{leaving}
use Rattle.gm_member.proofs.GainStands.{regained_on}

-- ---- whose a link is

-- nobody else takes from the link from which x takes
pub other_current : (w : World) (x y s j : ℕ) → IsFit w → (member_at w x).current ≡ Some s → (member_at w y).current ≡ Some j → y ≢ x → j ≢ s
other_current w x y s j f ex ey ne same = ne (sym (f.own_ends.current y j ey).1 ∙ ap (λ k. (link_at w k).receiver) same ∙ (f.own_ends.current x s ex).1)

-- nor finds it at its door
other_door : (w : World) (x y s : ℕ) → IsFit w → (member_at w x).current ≡ Some s → y ≢ x → (link_at w s).receiver ≢ y
other_door w x y s f ex ne is = ne (sym is ∙ (f.own_ends.current x s ex).1)

-- ---- steps

-- another member is written, with the log that it had
pub member_others : (w : World) (x y : ℕ) (m : Member) → m.log ≡ (member_at w x).log → y ≢ x → held_in (with_member w x m) y ≡ held_in w y
member_others w x y m logged ne =
    let w' : World = with_member w x m in
    ap (λ k. held_by y k (known_by w' k) (view_in w k.version) (option_map (outgoing_in w) k.out) (option_map (incoming_in w) k.current) (map (incoming_in w) (filter (waits_by w y k.current k.version) (range_with_len 0 (length w.links)))) w.initial w.more) (member_other w x y m ne)
    ∙ ap (λ ks. record (held_in w y) { known = ks }) (known_same w w' (member_at w y) (log_written w x m logged))

-- x publishes: what y keeps of x stays as it was
pub publish_others : (w : World) (x y : ℕ) (m : Message) → IsFit w → x < size w → y ≢ x → held_in w y ≡ held_in (publish_at w x m) y
unfolding places
publish_others w x y m f lt ne =
    let w' : World = publish_at w x m in
    sym (ap (λ k. held_by y k (known_by w' k) (view_in w k.version) (option_map (outgoing_in w) k.out) (option_map (incoming_in w) k.current) (map (incoming_in w) (filter (waits_by w y k.current k.version) (range_with_len 0 (length w.links)))) w.initial w.more) (member_other w x y (published x m (member_at w x)) ne)
    ∙ ap (λ ks. record (held_in w y) { known = ks })
    (map-range_same (λ p. kept_by (log_of w' (p + 1)) (row_at (member_at w y) (p + 1))) (λ p. kept_by (log_of w (p + 1)) (row_at (member_at w y) (p + 1))) 64 (λ p _. stays (p + 1))))
  where
    stays : (p : ℕ) → kept_by (log_of (publish_at w x m) p) (row_at (member_at w y) p) ≡ kept_by (log_of w p) (row_at (member_at w y) p)
    stays p = ⊎_elim
        (λ (is : p ≡ x).
        ap (λ q. kept_by (log_of (publish_at w x m) q) (row_at (member_at w y) q)) is
        ∙ ap (λ ms. kept_by ms (row_at (member_at w y) x)) (cast_log w x m lt)
        ∙ kept_grown (log_of w x) (m ∷ []) (row_at (member_at w y) x) (right_row w y x f).got
        ∙ sym (ap (λ q. kept_by (log_of w q) (row_at (member_at w y) q)) is))
        (λ (no : p ≢ x). ap (λ ms. kept_by ms (row_at (member_at w y) p)) (cast_log_other w x p m no))
        (cases_eq p x)

-- the link on which x sends is written, and shows its receiver the same
out_others : (w : World) (x o y : ℕ) (l : Link) → IsFit w → (member_at w x).out ≡ Some o → y ≢ x → seen l ≡ seen (link_at w o) → held_in w y ≡ held_in (with_link w o l) y
out_others w x o y l f is ne shows = link_held w o y l (f.own_ends.out x o is).0 shows (λ j e. ap outgoing_of (get_or-set_other w.links o j l no_link (other_out w x y o j f.own_ends is e ne)))

pub put_others : (w : World) (x o y : ℕ) → IsFit w → (member_at w x).out ≡ Some o → y ≢ x → held_in w y ≡ held_in (put_in w x o) y
put_others w x o y f is ne = out_others w x o y (pushed (link_at w o) (leaving w x o)) f is ne refl

pub gain_others : (w : World) (x o y : ℕ) → IsFit w → (member_at w x).out ≡ Some o → y ≢ x → held_in w y ≡ held_in (gain_on w o) y
gain_others w x o y f is ne = out_others w x o y (regained_on w o) f is ne refl

-- x and the link from which it takes are written, and the link shows its sender the same
current_others : (w : World) (x s y : ℕ) (m : Member) (l : Link) → IsFit w → m.log ≡ (member_at w x).log → (member_at w x).current ≡ Some s → y ≢ x → l.receiver ≡ (link_at w s).receiver → outgoing_of l ≡ outgoing_of (link_at w s)
    → held_in w y ≡ held_in (with_link (with_member w x m) s l) y
current_others w x s y m l f logged is ne to shows =
    let w' : World = with_link (with_member w x m) s l in
    let h = held_in w y in
    let sl : s < length w.links = (f.own_ends.current x s is).0 in
    let same : member_at w' y ≡ member_at w y = get_or-set_other w.members x y m no_member ne in
    let other : (j : ℕ) → j ≢ s → link_at w' j ≡ link_at w j = λ j no. get_or-set_other w.links s j l no_link no in
    let apart : (link_at w s).receiver ≢ y = other_door w x y s f is ne in
    sym (held_is w' y (member_at w y) h.known h.out h.current h.door same
    (known_same w w' (member_at w y) (log_written w x m logged))
    (there_same (outgoing_in w') (outgoing_in w) (member_at w y).out (λ j _. outgoing_same (with_member w x m) s j l sl shows))
    (there_same (incoming_in w') (incoming_in w) (member_at w y).current (λ j e. ap (λ k. incoming_seen (seen k)) (other j (other_current w x y s j f is e ne))))
    (door_but w w' y s (length-set w.links s l) (other_waits_not w y s apart)
    (other_waits_not w' y s (λ e. apart (sym to ∙ sym (ap (λ (k : Link). k.receiver) (get_or-set_same w.links s l no_link sl)) ∙ e)))
    (λ j no. (
      waits_same w w' y j refl (ap (λ (z : Member). z.current) same) (ap (λ (z : Member). z.version) same) (ap seen (other j no)),
      ap (λ k. incoming_seen (seen k)) (other j no),
    ))))

pub take_others : (w : World) (x s y : ℕ) → IsFit w → (member_at w x).current ≡ Some s → y ≢ x → held_in w y ≡ held_in (take_from w x s) y
take_others w x s y f is ne = current_others w x s y (taker w x s) (popped (link_at w s)) f refl is ne refl refl

pub begin_others : (w : World) (x s y : ℕ) → IsFit w → (member_at w x).current ≡ Some s → y ≢ x → held_in w y ≡ held_in (begin_from w x s) y
begin_others w x s y f is ne = current_others w x s y (begun (size w) (member_at w x) (oldest (link_at w s))) (popped (link_at w s)) f refl is ne refl refl

pub end_others : (w : World) (x s y : ℕ) → IsFit w → (member_at w x).current ≡ Some s → y ≢ x → held_in w y ≡ held_in (leave_link w x s) y
end_others w x s y f is ne = current_others w x s y (with_current None (member_at w x)) (finished (link_at w s)) f refl is ne refl refl

pub stop_others : (w : World) (x y : ℕ) → IsFit w → y ≢ x → held_in w y ≡ held_in (end_out Halted (stop_at w x) (member_at w x).out) y
stop_others w x y f ne = sym (member_others w x y (stopped (member_at w x)) refl ne) ∙ still_held Halted (stop_at w x) (member_at w x).out y (λ o e. (f.own_ends.out x o e).0)
