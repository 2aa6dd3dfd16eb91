-- Writing what was read gives the bytes that were read (02, ticket 11): what the tests of each piece say where they pass, and the piece written again.
-- Assumes nothing.
use Prim.Native.Nat.{ℕ, zero, suc, ◌+◌, ◌*◌, ◌-◌, ◌/◌, ◌%◌, ◌<◌, ◌≤◌}
use native.Mathlib.Omega.{arith}
use mathlib.Core.Path.{◌≡◌, refl, sym, ap, ◌∙◌}
use mathlib.Core.Bool.{Bool, true, false, true≢false, cond, not, ◌||◌}
use mathlib.Core.List.{List, [], ◌∷◌, ◌++◌, map}
use lib.Dec.{eqb}
use lib.ListN.{length, take, drop, length-append, length-drop, take-append-drop}
use lib.Seq.{length-take-le, drop-drop}
use borrow.Author.Tests.{ltb-false, lt-ltb, le-leb, eqb-true, eqb-false, not-false}
use Rattle.lists.specs.Compare.{◌above◌, ◌below◌, outside}
use Rattle.lists.specs.Every.{every}
use Rattle.lists.proofs.Split.{split}
use Rattle.refusal.specs.Said.{first}
use Rattle.format.specs.Format.{little, all_bytes, fits, twos, header, board_bytes, Sent, frame, reading, kind_of, body_of, widths, fields, answer_bytes, act_bytes, recording, fields_fit, recordable, answer_fits, board_fits, act_fits}
use Rattle.format.specs.Read.{number_in, numbers_in, pairs_in, signed, board_count, act_count, board_in, boards_from, boards_in, kind_in, long_in, sample_in, sent_by, sent_in, answer_from, number_of, widths_by, values_long, answer_in, act_in, act_long, acts_from, acts_at, acts_in, bar_of, field, head_tests, board_tests, wrong_long, act_tests, boards_tests, acts_tests, read_tests, read_bars, reads, board_fine, WrittenAgain}
use Rattle.format.proofs.Sizes.{sample-length}
use Rattle.format.proofs.Fronts.{every_drop, next-front, fronts, number-below, number_fits, number-front, number_at, twos-signed, signed-fits, pairs-length, pairs-fit, pairs-front, wide, wide_by, numbers_fit, numbers-front, append-clear, field-clear, head-real, board-real, boards-real, act-real}

neither : (a b : Bool) → (a || b) ≡ false → (a ≡ false) × (b ≡ false)
neither true b e = absurd (true≢false e)
neither false b e = (refl, e)

-- ---- what an act sent
pub record SentAgain (which long : ℕ) (body : List ℕ) (s : Sent) : Type 0 where
  pub whole : body_of s ++ drop long body ≡ body
  pub kind : kind_of s ≡ which
  pub size : length (body_of s) ≡ long
  pub fit : fields_fit s ≡ true
  pub wide-as : widths s ≡ widths_by which

sample-whole : (cells : ℕ) (body : List ℕ) → every (fits 1) body ≡ true → 12 + 2 * cells ≤ length body
    → (little 1 (number_in 1 body) ++ (little 4 (number_in 4 (drop 1 body)) ++ (little 1 (number_in 1 (drop 5 body)) ++ (little 2 (number_in 2 (drop 6 body))
    ++ (little 4 (twos (signed (number_in 4 (drop 8 body)))) ++ all_bytes (little 2) (pairs_in cells (drop 12 body)))))))
    ++ drop (1 + (4 + (1 + (2 + (4 + 2 * cells))))) body ≡ body
sample-whole cells body h p =
    let shunt : little 4 (twos (signed (number_in 4 (drop 8 body)))) ++ drop 4 (drop 8 body) ≡ drop 8 body
    = rw (twos-signed (number_in 4 (drop 8 body)) (number-below 4 (drop 8 body) (every_drop (fits 1) 8 body h))) (number_at 4 8 body h (omega (arith, p))) in
    let n3 = number_at 2 6 body h (omega (arith, p)) in
    let n2 = number_at 1 5 body h (omega (arith, p)) in
    let n1 = number_at 4 1 body h (omega (arith, p)) in
    let n0 = number_at 1 0 body h (omega (arith, p)) in
    let s5 = pairs-front cells (drop 12 body) (every_drop (fits 1) 12 body h) (omega (arith, p, length-drop 12 body)) in
    let s4 = next-front (little 4 (twos (signed (number_in 4 (drop 8 body))))) (all_bytes (little 2) (pairs_in cells (drop 12 body))) body 8 4 (2 * cells) shunt s5 in
    let s3 = next-front (little 2 (number_in 2 (drop 6 body))) _ body 6 2 (4 + 2 * cells) n3 s4 in
    let s2 = next-front (little 1 (number_in 1 (drop 5 body))) _ body 5 1 (2 + (4 + 2 * cells)) n2 s3 in
    let s1 = next-front (little 4 (number_in 4 (drop 1 body))) _ body 1 4 (1 + (2 + (4 + 2 * cells))) n1 s2 in
    next-front (little 1 (number_in 1 body)) _ body 0 1 (4 + (1 + (2 + (4 + 2 * cells)))) n0 s1

sample-again : (long : ℕ) (body : List ℕ) → every (fits 1) body ≡ true → wrong_long 1 long ≡ false → long ≤ length body → SentAgain 1 long body (sample_in long body)
unfolding body_of
sample-again long body h w p =
    let fine = neither (long below 12) (not (eqb (long % 2) 0)) w in
    let least : 12 ≤ long = ltb-false long 12 fine.0 in
    let even : long % 2 ≡ 0 = eqb-true (long % 2) 0 (not-false (eqb (long % 2) 0) fine.1) in
    let cells = (long - 12) / 2 in
    let all : 1 + (4 + (1 + (2 + (4 + 2 * cells)))) ≡ long = omega (arith, least, even) in
    let shunt = signed-fits (number_in 4 (drop 8 body)) (number-below 4 (drop 8 body) (every_drop (fits 1) 8 body h)) in
    record {
      whole = rw all at (sample-whole cells body h (omega (arith, all, p)));
      kind = refl;
      size = sample-length (number_in 1 body) (number_in 4 (drop 1 body)) (number_in 1 (drop 5 body)) (number_in 2 (drop 6 body)) (signed (number_in 4 (drop 8 body))) (pairs_in cells (drop 12 body))
          ∙ rw (pairs-length cells (drop 12 body)) (omega (arith, all));
      fit = rw (
        number_fits 1 body h,
        number_fits 4 (drop 1 body) (every_drop (fits 1) 1 body h),
        number_fits 1 (drop 5 body) (every_drop (fits 1) 5 body h),
        number_fits 2 (drop 6 body) (every_drop (fits 1) 6 body h),
        shunt,
      ) (pairs-fit cells (drop 12 body) (every_drop (fits 1) 12 body h));
      wide-as = refl;
    }

frame-again : (long : ℕ) (body : List ℕ) → long ≤ length body → SentAgain 2 long body (frame (take long body))
unfolding body_of
frame-again long body p = record { whole = take-append-drop long body; kind = refl; size = length-take-le long body p; fit = refl; wide-as = refl }

reading-again : (long : ℕ) (body : List ℕ) → wrong_long 3 long ≡ false → SentAgain 3 long body reading
unfolding body_of
reading-again long body w =
    let none : long ≡ 0 = eqb-true long 0 (not-false (eqb long 0) w) in
    record { whole = rw none; kind = refl; size = sym none; fit = refl; wide-as = refl }

pub sent-again : (kind long : ℕ) (body : List ℕ) → every (fits 1) body ≡ true → outside 1 3 kind ≡ false → wrong_long kind long ≡ false → long ≤ length body
    → SentAgain kind long body (sent_by kind long body)
sent-again kind long body h o w p =
    split (eqb kind 1)
    (λ e. let one = eqb-true kind 1 e in rw one (sample-again long body h (rw one at w) p))
    (λ e. split (eqb kind 2)
    (λ f. let two = eqb-true kind 2 f in rw two (frame-again long body p))
    (λ f. let range = neither (kind below 1) (kind above 3) o in
    let three : kind ≡ 3 = last kind (eqb-false kind 1 e) (eqb-false kind 2 f) (ltb-false kind 1 range.0) (ltb-false 3 kind range.1) in
    rw three (reading-again long body (rw three at w))))
  where
    last : (k : ℕ) → (k ≡ 1 → ⊥) → (k ≡ 2 → ⊥) → 1 ≤ k → k ≤ 3 → k ≡ 3
    last k a b c d = omega (arith, a, b)

-- ---- an act, where its tests pass
pub act-clear : (at : ℕ) (rest : List ℕ) → first (map bar_of (act_tests at rest)) ≡ 0
    → (outside 1 3 (kind_in rest) ≡ false) × (wrong_long (kind_in rest) (long_in rest) ≡ false) × (act_long rest ≤ length rest)
unfolding act_tests act_long
act-clear at rest e =
    let long = long_in rest in
    let values = values_long (kind_in rest) (number_of rest) in
    let t4 = field at rest (3 + long) values false in
    let t3 = field at rest (2 + long) 1 false ++ t4 in
    let t2 = field at rest 2 long false ++ t3 in
    let t1 = field at rest 1 1 (wrong_long (kind_in rest) long) ++ t2 in
    let f0 = field-clear at rest 0 1 (outside 1 3 (kind_in rest)) t1 e in
    let f1 = field-clear at rest 1 1 (wrong_long (kind_in rest) long) t2 f0.2 in
    let f2 = field-clear at rest 2 long false t3 f1.2 in
    let f3 = field-clear at rest (2 + long) 1 false t4 f2.2 in
    let f4 = field-clear at rest (3 + long) values false [] f3.2 in
    (f0.1, f1.1, f4.0)

pub record ActAgain (rest : List ℕ) : Type 0 where
  pub whole : act_bytes (act_in rest) ++ drop (act_long rest) rest ≡ rest
  pub inside : act_long rest ≤ length rest
  pub size : length (act_bytes (act_in rest)) ≡ act_long rest
  pub fit : act_fits (act_in rest) ≡ true

pub act-again : (at : ℕ) (rest : List ℕ) → every (fits 1) rest ≡ true → first (map bar_of (act_tests at rest)) ≡ 0 → ActAgain rest
unfolding act_long sent_in answer_in act_bytes answer_bytes recordable answer_fits
act-again at rest h e =
    let fine = act-clear at rest e in
    let kind = kind_in rest in
    let long = long_in rest in
    let tail = answer_from rest in
    let number = number_of rest in
    let ws = cond (eqb number 0) (widths_by kind) [] in
    let values = values_long kind number in
    let inside : 3 + long + values ≤ length rest = fine.2 in
    let wides : wide ws ≡ values = wide_by kind number in
    let fit-tail = every_drop (fits 1) (2 + long) rest h in
    let sent = sent-again kind long (drop 2 rest) (every_drop (fits 1) 2 rest h) fine.0 fine.1 (omega (arith, inside, length-drop 2 rest)) in
    let s = sent_by kind long (drop 2 rest) in
    let vs = numbers_in ws (drop 1 tail) in
    let answer : (little 1 number ++ fields ws vs) ++ drop (1 + values) tail ≡ tail
    = fronts (little 1 number) (fields ws vs) tail 1 values (number-front 1 tail fit-tail (omega (arith, inside, length-drop (2 + long) rest)))
    (rw wides at (numbers-front ws (drop 1 tail) (every_drop (fits 1) 1 tail fit-tail) (omega (arith, wides, inside, length-drop 1 tail, length-drop (2 + long) rest)))) in
    let a2 = next-front (body_of s) (little 1 number ++ fields ws vs) rest 2 long (1 + values) sent.whole answer in
    let a1 = next-front (little 1 long) (body_of s ++ (little 1 number ++ fields ws vs)) rest 1 1 (long + (1 + values)) (number_at 1 1 rest h (omega (arith, inside))) a2 in
    let a0 = next-front (little 1 kind) (little 1 long ++ (body_of s ++ (little 1 number ++ fields ws vs))) rest 0 1 (1 + (long + (1 + values))) (number_at 1 0 rest h (omega (arith, inside))) a1 in
    let all : 1 + (1 + (long + (1 + values))) ≡ 3 + long + values = omega arith in
    let whole : act_bytes (act_in rest) ++ drop (act_long rest) rest ≡ rest = rw (sent.kind, sent.size, sent.wide-as) (rw all at a0) in
    let short : long < 256 = number-below 1 (drop 1 rest) (every_drop (fits 1) 1 rest h) in
    record {
      whole = whole;
      inside = inside;
      size = omega (arith, ap length whole, length-append (act_bytes (act_in rest)) (drop (act_long rest) rest), length-drop (act_long rest) rest, inside);
      fit = rw (sent.fit, sent.size, sent.wide-as, le-leb long 255 (omega (arith, short)), number_fits 1 tail fit-tail) (numbers_fit ws (drop 1 tail) (every_drop (fits 1) 1 tail fit-tail));
    }

-- ---- acts, one behind the other: where all tests pass, those of the first and those of the rest do
pub acts-clear : (n at : ℕ) (rest : List ℕ) → first (map bar_of (acts_tests (suc n) at rest)) ≡ 0
    → (first (map bar_of (act_tests at rest)) ≡ 0) × (first (map bar_of (acts_tests n (at + act_long rest) (drop (act_long rest) rest))) ≡ 0)
unfolding acts_tests
acts-clear n at rest e = append-clear (act_tests at rest) (acts_tests n (at + act_long rest) (drop (act_long rest) rest)) (act-real at rest) e

pub end-clear : (at : ℕ) (rest : List ℕ) → first (map bar_of (acts_tests 0 at rest)) ≡ 0 → rest ≡ []
unfolding acts_tests
end-clear at [] e = refl
end-clear at (x ∷ rest) e = absurd (omega (arith, rw (lt-ltb 0 (suc (length rest)) (omega arith)) at e))

pub acts-length : (n : ℕ) (rest : List ℕ) → length (acts_from n rest) ≡ n
unfolding acts_from
acts-length zero rest = refl
acts-length (suc n) rest = ap suc (acts-length n (drop (act_long rest) rest))

pub acts-again : (n at : ℕ) (rest : List ℕ) → every (fits 1) rest ≡ true → first (map bar_of (acts_tests n at rest)) ≡ 0
    → (all_bytes act_bytes (acts_from n rest) ≡ rest) × (every act_fits (acts_from n rest) ≡ true)
unfolding acts_from every
acts-again zero at rest h e = (sym (end-clear at rest e), refl)
acts-again (suc n) at rest h e =
    let clear = acts-clear n at rest e in
    let one = act-again at rest h clear.0 in
    let more = acts-again n (at + act_long rest) (drop (act_long rest) rest) (every_drop (fits 1) (act_long rest) rest h) clear.1 in
    (rw more.0 one.whole, rw one.fit more.1)

-- ---- boards
pub board-clear : (at : ℕ) (rest : List ℕ) → first (map bar_of (board_tests at rest)) ≡ 0
    → (2 ≤ length rest) × (((board_in rest).kind above 1) ≡ false) × (outside 5 10 (board_in rest).cells ≡ false)
unfolding board_tests
board-clear at rest e =
    let f0 = field-clear at rest 0 1 ((board_in rest).kind above 1) (field at rest 1 1 (outside 5 10 (board_in rest).cells)) e in
    let f1 = field-clear at rest 1 1 (outside 5 10 (board_in rest).cells) [] f0.2 in
    (f1.0, f0.1, f1.1)

pub board-again : (rest : List ℕ) → every (fits 1) rest ≡ true → 2 ≤ length rest → (board_bytes (board_in rest) ++ drop 2 rest ≡ rest) × (board_fits (board_in rest) ≡ true)
unfolding board_bytes board_in
board-again rest h p = (
  next-front (little 1 (number_in 1 rest)) (little 1 (number_in 1 (drop 1 rest))) rest 0 1 1 (number_at 1 0 rest h (omega (arith, p))) (number_at 1 1 rest h (omega (arith, p))),
  rw (number_fits 1 rest h, number_fits 1 (drop 1 rest) (every_drop (fits 1) 1 rest h)),
)

pub boards-clear : (n at : ℕ) (rest : List ℕ) → first (map bar_of (boards_tests (suc n) at rest)) ≡ 0
    → (first (map bar_of (board_tests at rest)) ≡ 0) × (first (map bar_of (boards_tests n (at + 2) (drop 2 rest))) ≡ 0)
unfolding boards_tests
boards-clear n at rest e = append-clear (board_tests at rest) (boards_tests n (at + 2) (drop 2 rest)) (board-real at rest) e

pub boards-length : (n : ℕ) (rest : List ℕ) → length (boards_from n rest) ≡ n
unfolding boards_from
boards-length zero rest = refl
boards-length (suc n) rest = ap suc (boards-length n (drop 2 rest))

pub boards-again : (n at : ℕ) (rest : List ℕ) → every (fits 1) rest ≡ true → first (map bar_of (boards_tests n at rest)) ≡ 0
    → (all_bytes board_bytes (boards_from n rest) ++ drop (2 * n) rest ≡ rest) × (every board_fits (boards_from n rest) ≡ true) × (every board_fine (boards_from n rest) ≡ true)
unfolding boards_from every
boards-again zero at rest h e = (refl, refl, refl)
boards-again (suc n) at rest h e =
    let clear = boards-clear n at rest e in
    let fine = board-clear at rest clear.0 in
    let one = board-again rest h fine.0 in
    let more = boards-again n (at + 2) (drop 2 rest) (every_drop (fits 1) 2 rest h) clear.1 in
    let twos : 2 * suc n ≡ 2 + 2 * n = omega arith in (
      rw twos (fronts (board_bytes (board_in rest)) (all_bytes board_bytes (boards_from n (drop 2 rest))) rest 2 (2 * n) one.0 more.0),
      rw one.1 more.1,
      rw (fine.1, fine.2) more.2,
    )

-- ---- the header
pub head_clear : (bytes : List ℕ) → first (map bar_of (head_tests bytes)) ≡ 0 → (8 ≤ length bytes) × (number_in 2 bytes ≡ 1) × (outside 1 16 (board_count bytes) ≡ false)
unfolding head_tests
head_clear bytes e =
    let edition = not (eqb (number_in 2 bytes) 1) in
    let t2 = field 0 bytes 4 4 false in
    let t1 = field 0 bytes 2 2 (outside 1 16 (board_count bytes)) ++ t2 in
    let f0 = field-clear 0 bytes 0 2 edition t1 e in
    let f1 = field-clear 0 bytes 2 2 (outside 1 16 (board_count bytes)) t2 f0.2 in
    let f2 = field-clear 0 bytes 4 4 false [] f1.2 in
    (f2.0, eqb-true (number_in 2 bytes) 1 (not-false (eqb (number_in 2 bytes) 1) f0.1), f1.1)

head-again : (bytes : List ℕ) → every (fits 1) bytes ≡ true → 8 ≤ length bytes → number_in 2 bytes ≡ 1 → header (board_count bytes) (act_count bytes) ++ drop 8 bytes ≡ bytes
unfolding header
head-again bytes h p e =
    let one : little 2 1 ++ drop 2 bytes ≡ bytes = rw e at (number_at 2 0 bytes h (omega (arith, p))) in
    let counts = next-front (little 2 (board_count bytes)) (little 4 (act_count bytes)) bytes 2 2 4 (number_at 2 2 bytes h (omega (arith, p))) (number_at 4 4 bytes h (omega (arith, p))) in
    next-front (little 2 1) (little 2 (board_count bytes) ++ little 4 (act_count bytes)) bytes 0 2 6 one counts

-- ---- the whole: where all tests pass, those of each part do
pub reads-clear : (bytes : List ℕ) → reads bytes ≡ true
    → (first (map bar_of (head_tests bytes)) ≡ 0) × (first (map bar_of (boards_tests (board_count bytes) 8 (drop 8 bytes))) ≡ 0)
    × (first (map bar_of (acts_tests (act_count bytes) (acts_at bytes) (drop (acts_at bytes) bytes))) ≡ 0)
unfolding read_tests
reads-clear bytes e =
    let boards = boards_tests (board_count bytes) 8 (drop 8 bytes) in
    let acts = acts_tests (act_count bytes) (acts_at bytes) (drop (acts_at bytes) bytes) in
    let head = append-clear (head_tests bytes) (boards ++ acts) (head-real bytes) (eqb-true (first (read_bars bytes)) 0 e) in
    let rest = append-clear boards acts (boards-real (board_count bytes) 8 (drop 8 bytes)) head.1 in
    (head.0, rest.0, rest.1)

pub boards-read : (bytes : List ℕ) → length (boards_in bytes) ≡ board_count bytes
unfolding boards_in
boards-read bytes = boards-length (board_count bytes) (drop 8 bytes)

pub acts-read : (bytes : List ℕ) → length (acts_in bytes) ≡ act_count bytes
unfolding acts_in
acts-read bytes = acts-length (act_count bytes) (drop (acts_at bytes) bytes)

pub written-again : WrittenAgain
unfolding recording boards_in acts_in
written-again bytes h e =
    let clear = reads-clear bytes e in
    let head = head_clear bytes clear.0 in
    let boards = boards-again (board_count bytes) 8 (drop 8 bytes) (every_drop (fits 1) 8 bytes h) clear.1 in
    let acts = acts-again (act_count bytes) (acts_at bytes) (drop (acts_at bytes) bytes) (every_drop (fits 1) (acts_at bytes) bytes h) clear.2 in
    let behind : drop (2 * board_count bytes) (drop 8 bytes) ≡ drop (acts_at bytes) bytes = drop-drop (2 * board_count bytes) 8 bytes in
    let counts : (fits 2 (board_count bytes) ≡ true) × (fits 4 (act_count bytes) ≡ true) = (number_fits 2 (drop 2 bytes) (every_drop (fits 1) 2 bytes h), number_fits 4 (drop 4 bytes) (every_drop (fits 1) 4 bytes h)) in (
      rw (boards-read bytes, acts-read bytes, acts.0, ← behind, boards.0) (head-again bytes h head.0 head.1),
      rw (boards-read bytes, acts-read bytes, counts.0, counts.1, boards.1) acts.1,
      rw (boards-read bytes, head.2) boards.2,
    )
