-- A text read line by line: what is read so far, and what is left.
use Rattle.std.proofs.Common.{◌≡◌, ℕ, ◌+◌, ◌<◌, ◌≤◌, List, [], ◌∷◌, ◌++◌, Option, Some, None, Err, length, take, drop, sym, ap, ◌∙◌, subst, inl, arith}
use Rattle.std.proofs.Math.Seq.{take-append_seam}
use Rattle.ring_script.specs.declared.fault.Kind.{Kind}
use Rattle.ring_script.specs.declared.fault.LineFault.{LineFault}
use Rattle.ring_script.specs.declared.fault.LineFault.TheVariants.{Wrong, OutOfMemory}
use Rattle.ring_script.specs.declared.fault.ScriptFault.TheVariants as told
use Rattle.ring_script.specs.declared.reader.Reader.{Reader}
use Rattle.ring_script.specs.declared.text.Text.{Text}
use Rattle.ring_script.specs.Words.{lines_of}
use Rattle.ring_script.specs.Fault.{code_of, told_at, Tells}
use Rattle.ring_script.specs.Line.{Grammar}
use Rattle.ring_script.specs.Reading.{used_of, members_of, joined_in, fault_at, fault_behind, AreRight, IsFirstFault, Spells}
use Rattle.ring_script.specs.Standing.{HasRead, used_line}
use Rattle.ring_script.proofs.Lines.{used_more, take_more, drop_more, line_at, length_first, all_lines, right_more}

-- The lines before this number are read and right, the reader has what they say, and the rest is left.
pub record IsReadUpTo {X : Type 0} (grammar : Grammar) (says : List ℕ → List ℕ → X) (bytes rest : List ℕ) (number : ℕ) (reader : Reader X) : Type 0 where
  pub done : ℕ
  pub is : number ≡ done + 1
  pub within : done ≤ length (lines_of bytes)
  pub left : drop done (lines_of bytes) ≡ lines_of rest
  pub right : AreRight grammar (lines_of bytes) done
  pub read : HasRead grammar says (used_of (take done (lines_of bytes))) reader

-- the used lines before the next
abbrev pub used_before : {X : Type 0} {grammar : Grammar} {says : List ℕ → List ℕ → X} {bytes rest : List ℕ} {number : ℕ} {reader : Reader X} → IsReadUpTo grammar says bytes rest number reader → List (ℕ × List ℕ)
used_before {bytes = bytes} h = used_of (take h.done (lines_of bytes))

fault_here : {X : Type 0} {grammar : Grammar} {says : List ℕ → List ℕ → X} {bytes rest : List ℕ} {number : ℕ} {reader : Reader X} (h : IsReadUpTo grammar says bytes rest number reader) (line behind : List ℕ) → lines_of rest ≡ line ∷ lines_of behind
    → fault_at grammar (lines_of bytes) h.done ≡ fault_behind grammar (used_before h) line
fault_here {grammar = grammar} {bytes = bytes} h line behind e =
    ap (fault_behind grammar (used_before h)) (line_at h.done (lines_of bytes) (lines_of behind) line (h.left ∙ e)).1

-- a right line more
pub read_more : {X : Type 0} {grammar : Grammar} {says : List ℕ → List ℕ → X} {bytes rest : List ℕ} {number : ℕ} {reader : Reader X} (h : IsReadUpTo grammar says bytes rest number reader) (line behind : List ℕ) (new : Reader X) → lines_of rest ≡ line ∷ lines_of behind
    → fault_behind grammar (used_before h) line ≡ None → HasRead grammar says (used_before h ++ used_line number line) new → IsReadUpTo grammar says bytes behind (number + 1) new
read_more {grammar = grammar} {says = says} {bytes = bytes} {number = number} h line behind new e right read =
    let lines = lines_of bytes in
    let at = h.left ∙ e in
    let here = line_at h.done lines (lines_of behind) line at in
    let numbered : length (take h.done lines) + 1 ≡ number = ap (λ n. n + 1) (length_first h.done lines (lines_of behind) line at) ∙ sym h.is in
    let more : used_of (take (h.done + 1) lines) ≡ used_before h ++ used_line number line =
    ap used_of (take_more h.done lines (lines_of behind) line at) ∙ used_more (take h.done lines) line ∙ ap (λ n. used_before h ++ used_line n line) numbered in
    record {
      done = h.done + 1;
      is = ap (λ n. n + 1) h.is;
      within = omega (arith, here.0);
      left = drop_more h.done lines (lines_of behind) line at;
      right = right_more grammar lines h.done h.right (fault_here h line behind e ∙ right);
      read = subst (λ used. HasRead grammar says used new) (sym more) read;
    }

-- ---- faults

told_by : (X : Type 0) (wrong : Option Kind) (fault : LineFault) (number line code : ℕ) → Tells {X = X} wrong (Err fault) → told_at number fault ≡ told.At line code
    → (kind : Kind) × (wrong ≡ Some kind) × (code ≡ code_of kind) × (line ≡ number)
told_by X wrong (Wrong kind) number line code t e =
    let a : code_of kind ≡ code = cc in
    let b : number ≡ line = cc in
    (kind, t, sym a, sym b)
told_by X wrong OutOfMemory number line code t e = cc

-- the fault of the next line is the first
pub first_fault : {X : Type 0} {grammar : Grammar} {says : List ℕ → List ℕ → X} {bytes rest : List ℕ} {number : ℕ} {reader : Reader X} (h : IsReadUpTo grammar says bytes rest number reader) (line behind : List ℕ) (fault : LineFault) (told_line code : ℕ)
    → lines_of rest ≡ line ∷ lines_of behind → Tells {X = X} (fault_behind grammar (used_before h) line) (Err fault) → told_at number fault ≡ told.At told_line code
    → IsFirstFault grammar bytes told_line code
first_fault {X = X} {grammar = grammar} {bytes = bytes} {number = number} h line behind fault told_line code e t same =
    let found = told_by X (fault_behind grammar (used_before h) line) fault number told_line code t same in
    record {
      kind = found.0;
      is = found.2;
      stands = inl (record {
        place = h.done;
        is = found.3 ∙ h.is;
        there = (line_at h.done (lines_of bytes) (lines_of behind) line (h.left ∙ e)).0;
        right = h.right;
        wrong = fault_here h line behind e ∙ found.1;
      });
    }

-- ---- the end

-- all lines are read
pub read_all : {X : Type 0} {grammar : Grammar} {says : List ℕ → List ℕ → X} {bytes rest : List ℕ} {number : ℕ} {reader : Reader X} (h : IsReadUpTo grammar says bytes rest number reader) → rest ≡ []
    → (number ≡ length (lines_of bytes) + 1) × AreRight grammar (lines_of bytes) (length (lines_of bytes)) × HasRead grammar says (used_of (lines_of bytes)) reader
read_all {grammar = grammar} {says = says} {bytes = bytes} {reader = reader} h e =
    let all = all_lines h.done (lines_of bytes) (h.left ∙ ap lines_of e) h.within in
    (h.is ∙ ap (λ n. n + 1) all.0, subst (AreRight grammar (lines_of bytes)) all.0 h.right, subst (λ lines. HasRead grammar says (used_of lines) reader) all.1 h.read)

-- else the reader has what the text spells
pub text_read : {X : Type 0} {grammar : Grammar} {says : List ℕ → List ℕ → X} {bytes rest : List ℕ} {number : ℕ} {reader : Reader X} (h : IsReadUpTo grammar says bytes rest number reader) (text : Text X) → rest ≡ []
    → ((used : List (ℕ × List ℕ)) → HasRead grammar says used reader → 0 < length used)
    → text.members ≡ take reader.opening reader.known.items → text.credit ≡ reader.credit → text.lines ≡ reader.lines.items → Spells grammar says bytes text
text_read {grammar = grammar} {bytes = bytes} {reader = reader} h text e some m c l =
    let all = read_all h e in
    let used = used_of (lines_of bytes) in
    let front : take reader.opening reader.known.items ≡ members_of used =
    ap (λ n. take n reader.known.items) all.2.opening ∙ ap (take (length (members_of used))) all.2.known ∙ take-append_seam (members_of used) (joined_in grammar used) in
    record {
      right = record { lines = all.1; some = some (used_of (lines_of bytes)) all.2 };
      members = m ∙ front;
      credit = ap (λ credit. (credit.initial, credit.more)) c ∙ all.2.credit;
      lines = l ∙ all.2.lines;
    }
