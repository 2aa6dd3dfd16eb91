-- A cutter keeps what it is given, up to 201 bytes, and makes a block of one line of it.
-- Assumes nothing.
use Prim.Native.Nat.{ℕ, suc, ◌+◌, ◌-◌, ◌<◌, ◌≤◌, min}
use native.Mathlib.Omega.{arith}
use native.Mathlib.Numerals.{add-one}
use mathlib.Core.Path.{◌≡◌, refl, sym, ap, ◌∙◌}
use mathlib.Core.List.{List, [], ◌∷◌, ◌++◌, append_assoc, append-nil}
use lib.Dec.{leb, ltb}
use lib.ListN.{length, take, drop, length-append, length-take, length-set, set, take-append-drop, drop_of_length-le}
use lib.Seq.{take-suc-set, take-take, take-length, take_all, take_at, drop-drop, length-take-le}
use borrow.Author.Tests.{leb-true, leb-false, le-leb, lt-leb, ltb-true, ltb-false}
use Rattle.std.proofs.lemmas.List.{drop-set-lt}
use borrow.Rule.Slice.PartMut.{put_mid}
use borrow.Table.Steps.{cases}
use Rattle.lines.specs.declared.Cutter.{Cutter}
use Rattle.lines.specs.Lines.{before, pieces, up_to}
use Rattle.lines.specs.Line.{kind_of, words_say, malformed, line_of}
use Rattle.lines.specs.Way.{most, clip, held, byte_kept, list_kept, Kept, one_line, line_ended, Ended}
use Rattle.lines.proofs.Fields.{from-malformed}
use Rattle.lines.proofs.Words.{all-before}
use Rattle.lines.proofs.Newlines.{newline-malformed}
use Rattle.lines.proofs.Clips.{clip-append}

-- whatever its length says, a cutter keeps no more than 201 bytes
pub held-clip : (c : Cutter) → clip (held c) ≡ held c
unfolding clip held
held-clip c = take_all most (take (min c.len most) c.bytes) (rw (length-take (min c.len most) c.bytes) (omega arith))

byte-long : (c : Cutter) (b : ℕ) → length (byte_kept c b).bytes ≡ length c.bytes
unfolding byte_kept
byte-long c b = cases (leb most c.len) (λ e. rw e) λ e. rw (e, length-set c.bytes c.len b)

held-byte : (c : Cutter) (b : ℕ) → most < length c.bytes → held (byte_kept c b) ≡ clip (held c ++ (b ∷ []))
unfolding byte_kept held clip
held-byte c b long =
    cases (leb most c.len)
    (λ e.
    let full : min c.len most ≡ most = omega (arith, leb-true most c.len e) in
    rw (e, full, take_at (take most c.bytes) (b ∷ []) most (length-take-le most c.bytes (omega arith))))
    λ e. let few : c.len < most = leb-false most c.len e in
    let now : min c.len most ≡ c.len = omega arith in
    let next : min (c.len + 1) most ≡ c.len + 1 = omega arith in
    let short : length (take c.len c.bytes ++ (b ∷ [])) ≤ most = rw (length-append (take c.len c.bytes) (b ∷ []), length-take-le c.len c.bytes (omega arith)) (omega arith) in
    rw (e, now, next, add-one c.len, take-suc-set c.bytes c.len b (omega arith), take_all most (take c.len c.bytes ++ (b ∷ [])) short)

pub held-list : (s : List ℕ) (c : Cutter) → most < length c.bytes → held (list_kept c s) ≡ clip (held c ++ s)
unfolding list_kept
held-list [] c long = rw (append-nil (held c)) (sym (held-clip c))
held-list (b ∷ s) c long =
    held-list s (byte_kept c b) (rw (byte-long c b) long) ∙ rw (held-byte c b long, clip-append (held c ++ (b ∷ [])) s, append_assoc (held c) (b ∷ []) s)

-- a list that has room is kept in one go
kept-room : (s : List ℕ) (bytes : List ℕ) (len : ℕ) → len + length s ≤ most → most < length bytes
    → list_kept (record { bytes = bytes; len = len }) s ≡ record { bytes = put_mid len (length s) bytes s; len = len + length s }
unfolding list_kept byte_kept
kept-room [] bytes len h long = let all : bytes ≡ put_mid len 0 bytes [] = sym (take-append-drop len bytes) in let same : len ≡ len + 0 = omega arith in (λ i. record { bytes = all i; len = same i })
kept-room (b ∷ s) bytes len h long =
    let few : len < most = omega arith in
    let more : list_kept (record { bytes = set bytes len b; len = len + 1 }) s ≡ record { bytes = put_mid (len + 1) (length s) (set bytes len b) s; len = len + 1 + length s } =
    kept-room s (set bytes len b) (len + 1) (omega arith) (rw length-set long) in
    let on : len + 1 + length s ≡ len + suc (length s) = omega arith in
    let end : len + suc (length s) ≡ suc len + length s = omega arith in
    let front : put_mid (len + 1) (length s) (set bytes len b) s ≡ put_mid len (suc (length s)) bytes (b ∷ s) =
    rw (add-one len, take-suc-set bytes len b (omega arith), append_assoc, drop-set-lt (suc len) bytes len b (omega arith), drop-drop (length s) (suc len) bytes, drop-drop (suc (length s)) len bytes, end) in
    rw (lt-leb most len few, more, on, front)

kept-full : (s : List ℕ) (c : Cutter) → most ≤ c.len → list_kept c s ≡ c
unfolding list_kept byte_kept
kept-full [] c h = refl
kept-full (b ∷ s) c h = rw (le-leb most c.len h) (kept-full s c h)

kept-append : (a b : List ℕ) (c : Cutter) → list_kept c (a ++ b) ≡ list_kept (list_kept c a) b
unfolding list_kept
kept-append [] b c = refl
kept-append (x ∷ a) b c = kept-append a b (byte_kept c x)

module _ (c : Cutter) (s : List ℕ) (long : most < length c.bytes) where
  -- without room nothing more is kept
  pub kept-none : most ≤ c.len → Kept c s c
  kept-none h = let all = kept-full s c h in record { whole = sym all; line = ap held (sym all) ∙ held-list s c long }

  -- with it as much as it takes
  pub kept-some : (n : ℕ) (new : List ℕ) → c.len < most → n ≡ min (length s) (most - c.len) → new ≡ take n s
      → Kept c s (record { bytes = put_mid c.len (c.len + n - c.len) c.bytes new; len = c.len + n })
  unfolding list_kept
  kept-some n new h e is =
      let room : Cutter = record { bytes = put_mid c.len n c.bytes (take n s); len = c.len + n } in
      let few : length (take n s) ≡ n = length-take-le n s (omega arith) in
      let first : list_kept c (take n s) ≡ room = rw few at (kept-room (take n s) c.bytes c.len (rw few (omega arith)) long) in
      let none : list_kept room (drop n s) ≡ room =
      cases (leb most (c.len + n))
      (λ t. kept-full (drop n s) room (leb-true most (c.len + n) t))
      (λ t. let all : length s ≤ n = omega (arith, leb-false most (c.len + n) t) in rw (drop_of_length-le s all) refl) in
      let all : list_kept c s ≡ room = ap (list_kept c) (sym (take-append-drop n s)) ∙ kept-append (take n s) (drop n s) c ∙ ap (λ (d : Cutter). list_kept d (drop n s)) first ∙ none in
      let same : c.len + n - c.len ≡ n = omega arith in
      rw (same, is) (record { whole = sym all; line = ap held (sym all) ∙ held-list s c long })

-- ---- the block of one line

-- as many bytes as are kept
pub held-few : (c : Cutter) (n : ℕ) → n ≡ length (held c) → n ≤ length c.bytes
unfolding held
held-few c n e = omega (arith, length-take (min c.len most) c.bytes)

pub held-take : (c : Cutter) (n : ℕ) → n ≡ length (held c) → take n c.bytes ≡ held c
unfolding held
held-take c n e =
    let line = take (min c.len most) c.bytes in
    sym (take-take n (min c.len most) c.bytes (omega (arith, length-take (min c.len most) c.bytes))) ∙ ap (λ (k : ℕ). take k line) e ∙ take-length line

empty : line_of [] ≡ malformed
unfolding line_of words_say pieces kind_of
empty = from-malformed []

-- it says what is kept, has no newline in it, and its newline stands behind it
pub one-says : (c : Cutter) → line_of (one_line c) ≡ line_of (held c)
unfolding one_line
one-says c =
    cases (ltb (length (up_to (held c))) (length (held c)))
    (λ e. rw e (empty ∙ sym (newline-malformed (held c) (ltb-true _ _ e)))) (λ e. rw e)

pub one_free : (c : Cutter) → up_to (one_line c) ≡ one_line c
unfolding one_line before
one_free c = cases (ltb (length (up_to (held c))) (length (held c))) (λ e. rw e) (λ e. rw e (all-before 10 (held c) (ltb-false _ _ e)))

one-take : (c : Cutter) → take (length (one_line c)) c.bytes ≡ one_line c
unfolding one_line
one-take c = cases (ltb (length (up_to (held c))) (length (held c))) (λ e. rw e) (λ e. rw e (held-take c (length (held c)) refl))

pub one-short : (c : Cutter) → length (one_line c) ≤ most
unfolding one_line held
one-short c =
    cases (ltb (length (up_to (held c))) (length (held c))) (λ e. rw e (omega arith)) (λ e. rw e (omega (arith, length-take (min c.len most) c.bytes)))

one_block : (c : Cutter) → most < length c.bytes → take (line_ended c).len (line_ended c).bytes ≡ one_line c ++ (10 ∷ [])
unfolding line_ended
one_block c long = rw (add-one (length (one_line c)), take-suc-set c.bytes (length (one_line c)) 10 (omega (arith, one-short c)), one-take c)

pub line-ends : (c next : Cutter) → next ≡ line_ended c → most < length c.bytes → Ended c next
line-ends c next e long = record { whole = e; block = rw e (one_block c long) }
