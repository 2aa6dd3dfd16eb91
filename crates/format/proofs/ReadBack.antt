-- Every recording is read without refusal, and as its boards and acts (02, ticket 11): each piece read back in front of any rest, and its tests, which pass.
-- Assumes nothing.
use Prim.Native.Nat.{ℕ, ◌+◌, ◌*◌, ◌-◌, ◌/◌, ◌%◌, ◌^◌, ◌<◌, ◌≤◌}
use native.Mathlib.Omega.{arith}
use mathlib.Core.Path.{◌≡◌, refl, sym, ap, ap₂, ◌∙◌}
use mathlib.Core.Bool.{true, false, cond, not}
use mathlib.Core.List.{List, [], ◌∷◌, ◌++◌, append_assoc, map}
use lib.Dec.{eqb, leb}
use lib.ListN.{length, drop, length-append}
use lib.Seq.{take-append_seam, drop_at, drop-append-add, drop-append_seam, drop-drop}
use borrow.Author.Tests.{ltb-true, leb-true, le-ltb, eq-eqb}
use Rattle.lists.specs.Compare.{◌above◌, outside}
use Rattle.lists.specs.Every.{every}
use Rattle.lists.proofs.Split.{both, not_yes}
use Rattle.refusal.specs.Said.{first}
use Rattle.format.specs.Format.{little, all_bytes, fits, twos, fits_signed, Listed, listed, header, board_bytes, Sent, sample, frame, reading, Noted, noted, kind_of, body_of, widths, fields, valued, answer_bytes, act_bytes, recording, fields_fit, recordable, values_fit, answer_fits, board_fits, act_fits}
use Rattle.format.specs.Read.{number_in, numbers_in, pairs_in, signed, board_count, act_count, board_in, boards_from, boards_in, kind_in, long_in, sent_by, sent_in, answer_from, number_of, widths_by, values_long, answer_in, act_in, act_long, acts_from, acts_at, acts_in, bar_of, field, head_tests, board_tests, wrong_long, act_tests, boards_tests, acts_tests, read_tests, read_bars, reads, board_fine, ReadBack}
use Rattle.format.proofs.Sizes.{little-length, all-twos, sample-length, board-length, header-length}
use Rattle.format.proofs.OneToOne.{all_fit, four, twos-below}
use Rattle.format.proofs.Fronts.{number-back, signed-twos, pairs-back, wide, wide_by, fields_back, fields-length, clear-append, clear-field, head-real, board-real, boards-real, act-real}

-- ---- what an act sent
kind_fits : (s : Sent) → kind_of s < 256 ^ 1
kind_fits (sample board elapsed load thermistor shunt cells) = omega arith
kind_fits (frame bytes) = omega arith
kind_fits reading = omega arith

kind-right : (s : Sent) → outside 1 3 (kind_of s) ≡ false
kind-right (sample board elapsed load thermistor shunt cells) = refl
kind-right (frame bytes) = refl
kind-right reading = refl

kind-wide : (s : Sent) → widths_by (kind_of s) ≡ widths s
kind-wide (sample board elapsed load thermistor shunt cells) = refl
kind-wide (frame bytes) = refl
kind-wide reading = refl

none-long : length (body_of reading) ≡ 0
unfolding body_of
none-long = refl

long-right : (s : Sent) → wrong_long (kind_of s) (length (body_of s)) ≡ false
long-right (sample board elapsed load thermistor shunt cells) =
    let size = sample-length board elapsed load thermistor shunt cells in
    rw (size, le-ltb (12 + 2 * length cells) 12 (omega arith), eq-eqb ((12 + 2 * length cells) % 2) 0 (omega arith))
long-right (frame bytes) = refl
long-right reading = rw none-long

pub sent_back : (s : Sent) (r : List ℕ) → fields_fit s ≡ true → sent_by (kind_of s) (length (body_of s)) (body_of s ++ r) ≡ s
unfolding body_of little
sent_back (sample board elapsed load thermistor shunt cells) r h =
    let f = all_fit (fits 1 board) (fits 4 elapsed) (fits 1 load) (fits 2 thermistor) (fits_signed shunt) (every (fits 2) cells) h in
    let l5 = all_bytes (little 2) cells ++ r in
    let l4 = little 4 (twos shunt) ++ l5 in
    let l3 = little 2 thermistor ++ l4 in
    let l2 = little 1 load ++ l3 in
    let l1 = little 4 elapsed ++ l2 in
    let size = sample-length board elapsed load thermistor shunt cells in
    let many : (length (body_of (sample board elapsed load thermistor shunt cells)) - 12) / 2 ≡ length cells = omega (arith, size) in
    let e0 = number-back 1 board l1 (ltb-true board 256 f.0) in
    let e1 = number-back 4 elapsed l2 (ltb-true elapsed 4294967296 f.1) in
    let e2 = number-back 1 load l3 (ltb-true load 256 f.2) in
    let e3 = number-back 2 thermistor l4 (ltb-true thermistor 65536 f.3) in
    let e4 = ap signed (number-back 4 (twos shunt) l5 (twos-below shunt f.4)) ∙ signed-twos shunt f.4 in
    let e5 : pairs_in ((length (body_of (sample board elapsed load thermistor shunt cells)) - 12) / 2) l5 ≡ cells = rw many (pairs-back cells r f.5) in
    λ i. sample (e0 i) (e1 i) (e2 i) (e3 i) (e4 i) (e5 i)
sent_back (frame bytes) r h = ap frame (take-append_seam bytes r)
sent_back reading r h = refl

-- ---- an act, where its tests pass
pub clear-act : (at : ℕ) (rest : List ℕ) → outside 1 3 (kind_in rest) ≡ false → wrong_long (kind_in rest) (long_in rest) ≡ false → act_long rest ≤ length rest
    → first (map bar_of (act_tests at rest)) ≡ 0
unfolding act_tests act_long
clear-act at rest o w p =
    let long = long_in rest in
    let values = values_long (kind_in rest) (number_of rest) in
    let t4 = field at rest (3 + long) values false in
    let t3 = field at rest (2 + long) 1 false ++ t4 in
    let t2 = field at rest 2 long false ++ t3 in
    let t1 = field at rest 1 1 (wrong_long (kind_in rest) long) ++ t2 in
    clear-field at rest 0 1 (outside 1 3 (kind_in rest)) t1 (omega (arith, p)) o
    ∙ clear-field at rest 1 1 (wrong_long (kind_in rest) long) t2 (omega (arith, p)) w
    ∙ clear-field at rest 2 long false t3 (omega (arith, p)) refl
    ∙ clear-field at rest (2 + long) 1 false t4 (omega (arith, p)) refl
    ∙ clear-field at rest (3 + long) values false [] p refl

-- its pieces, in front of any rest
abbrev laid : Noted → List ℕ → List ℕ
laid n r = little 1 (kind_of n.sent) ++ (little 1 (length (body_of n.sent)) ++ (body_of n.sent ++ (little 1 n.answer.number ++ (fields (valued n.sent n.answer) n.answer.values ++ r))))

act-laid : (n : Noted) (r : List ℕ) → act_bytes n ++ r ≡ laid n r
unfolding act_bytes answer_bytes
act-laid n r = simp append_assoc

pub record ActBack (n : Noted) (rest : List ℕ) : Type 0 where
  pub read : act_in rest ≡ n
  pub size : act_long rest ≡ length (act_bytes n)
  pub clear : (at : ℕ) → first (map bar_of (act_tests at rest)) ≡ 0

answer-front : (a b : ℕ) (body tail : List ℕ) → drop (2 + length body) (little 1 a ++ (little 1 b ++ (body ++ tail))) ≡ tail
unfolding little
answer-front a b body tail = drop-append-add (a % 256 ∷ b % 256 ∷ []) (body ++ tail) (length body) ∙ drop-append_seam body tail

long-front : (a b : ℕ) (tail : List ℕ) → b < 256 ^ 1 → number_in 1 (drop 1 (little 1 a ++ (little 1 b ++ tail))) ≡ b
unfolding little
long-front a b tail p = number-back 1 b tail p

body-front : (a b : ℕ) (tail : List ℕ) → drop 2 (little 1 a ++ (little 1 b ++ tail)) ≡ tail
unfolding little
body-front a b tail = refl

sized : (k m x : ℕ) (body values : List ℕ) (w : ℕ) → length values ≡ w → 3 + length body + w ≡ length (little 1 k ++ (little 1 m ++ (body ++ (little 1 x ++ values))))
unfolding little
sized k m x body values w e = rw (length-append body (x % 256 ∷ values)) (omega (arith, e))

laid-back : (n : Noted) (r : List ℕ) → act_fits n ≡ true → ActBack n (laid n r)
unfolding recordable answer_fits sent_in answer_in act_long act_bytes answer_bytes
laid-back n r h =
    let s = n.sent in
    let a = n.answer in
    let hn = both (recordable s) (answer_fits s a) h in
    let hs = both (fields_fit s) (leb (length (body_of s)) 255) hn.0 in
    let ha = both (fits 1 a.number) (values_fit (valued s a) a.values) hn.1 in
    let short : length (body_of s) ≤ 255 = leb-true (length (body_of s)) 255 hs.1 in
    let values = fields (valued s a) a.values in
    let tail = little 1 a.number ++ (values ++ r) in
    let rest = laid n r in
    let kind : kind_in rest ≡ kind_of s = number-back 1 (kind_of s) (little 1 (length (body_of s)) ++ (body_of s ++ tail)) (kind_fits s) in
    let long : long_in rest ≡ length (body_of s) = long-front (kind_of s) (length (body_of s)) (body_of s ++ tail) (omega (arith, short)) in
    let body : drop 2 rest ≡ body_of s ++ tail = body-front (kind_of s) (length (body_of s)) (body_of s ++ tail) in
    let answer : answer_from rest ≡ tail = rw long (answer-front (kind_of s) (length (body_of s)) (body_of s) tail) in
    let number : number_of rest ≡ a.number = ap (λ (l : List ℕ). number_in 1 l) answer ∙ number-back 1 a.number (values ++ r) (ltb-true a.number 256 ha.0) in
    let behind : drop 1 (answer_from rest) ≡ values ++ r = ap (λ (l : List ℕ). drop 1 l) answer ∙ drop_at (little 1 a.number) (values ++ r) 1 (little-length 1 a.number) in
    let sent : sent_in rest ≡ s = ap₂ (λ (k m : ℕ). sent_by k m (drop 2 rest)) kind long ∙ ap (λ (l : List ℕ). sent_by (kind_of s) (length (body_of s)) l) body ∙ sent_back s tail hs.0 in
    let said : numbers_in (cond (eqb (number_of rest) 0) (widths_by (kind_in rest)) []) (drop 1 (answer_from rest)) ≡ a.values
    = ap₂ (λ (m k : ℕ). numbers_in (cond (eqb m 0) (widths_by k) []) (drop 1 (answer_from rest))) number kind
    ∙ ap₂ (λ (ws l : List ℕ). numbers_in (cond (eqb a.number 0) ws []) l) (kind-wide s) behind
    ∙ fields_back (valued s a) a.values r ha.1 in
    let wides : values_long (kind_in rest) (number_of rest) ≡ wide (valued s a)
    = ap₂ (λ (k m : ℕ). values_long k m) kind number ∙ sym (wide_by (kind_of s) a.number) ∙ ap (λ (ws : List ℕ). wide (cond (eqb a.number 0) ws [])) (kind-wide s) in
    let size : act_long rest ≡ length (act_bytes n)
    = ap₂ (λ (m v : ℕ). 3 + m + v) long wides ∙ sized (kind_of s) (length (body_of s)) a.number (body_of s) values (wide (valued s a)) (fields-length (valued s a) a.values ha.1) in
    let whole : length rest ≡ length (act_bytes n) + length r = ap length (sym (act-laid n r)) ∙ length-append (act_bytes n) r in
    record {
      read = λ i. noted (sent i) (record { number = number i; values = said i });
      size = size;
      clear = λ at. clear-act at rest (ap (λ (k : ℕ). outside 1 3 k) kind ∙ kind-right s) (ap₂ (λ (k m : ℕ). wrong_long k m) kind long ∙ long-right s) (omega (arith, size, whole));
    }

pub act-back : (n : Noted) (r : List ℕ) → act_fits n ≡ true → ActBack n (act_bytes n ++ r)
act-back n r h = rw (act-laid n r) (laid-back n r h)

pub acts-back : (acts : List Noted) → every act_fits acts ≡ true → (at : ℕ)
    → (first (map bar_of (acts_tests (length acts) at (all_bytes act_bytes acts))) ≡ 0) × (acts_from (length acts) (all_bytes act_bytes acts) ≡ acts)
unfolding every acts_tests acts_from
acts-back [] h at = (refl, refl)
acts-back (n ∷ acts) h at =
    let hn = both (act_fits n) (every act_fits acts) h in
    let r = all_bytes act_bytes acts in
    let rest = act_bytes n ++ r in
    let one = act-back n r hn.0 in
    let behind : drop (act_long rest) rest ≡ r = drop_at (act_bytes n) r (act_long rest) (sym one.size) in
    let more = acts-back acts hn.1 (at + act_long rest) in (
      clear-append (act_tests at rest) (acts_tests (length acts) (at + act_long rest) (drop (act_long rest) rest)) (one.clear at) (rw behind more.0) (act-real at rest),
      rw (behind, one.read, more.1),
    )

-- ---- boards
board-back : (b : Listed) (r : List ℕ) → board_fits b ≡ true → board_in (board_bytes b ++ r) ≡ b
unfolding board_bytes board_in little
board-back b r h =
    let hb = both (fits 1 b.kind) (fits 1 b.cells) h in
    ap₂ listed (number-back 1 b.kind (little 1 b.cells ++ r) (ltb-true b.kind 256 hb.0)) (number-back 1 b.cells r (ltb-true b.cells 256 hb.1))

pub clear-board : (at : ℕ) (rest : List ℕ) → 2 ≤ length rest → board_fine (board_in rest) ≡ true → first (map bar_of (board_tests at rest)) ≡ 0
unfolding board_tests
clear-board at rest p h =
    let hb = both (not ((board_in rest).kind above 1)) (not (outside 5 10 (board_in rest).cells)) h in
    clear-field at rest 0 1 ((board_in rest).kind above 1) (field at rest 1 1 (outside 5 10 (board_in rest).cells)) (omega (arith, p)) (not_yes ((board_in rest).kind above 1) hb.0)
    ∙ clear-field at rest 1 1 (outside 5 10 (board_in rest).cells) [] p (not_yes (outside 5 10 (board_in rest).cells) hb.1)

pub boards-back : (boards : List Listed) (r : List ℕ) → every board_fits boards ≡ true → every board_fine boards ≡ true → (at : ℕ)
    → (first (map bar_of (boards_tests (length boards) at (all_bytes board_bytes boards ++ r))) ≡ 0) × (boards_from (length boards) (all_bytes board_bytes boards ++ r) ≡ boards)
unfolding every boards_tests boards_from
boards-back [] r h k at = (refl, refl)
boards-back (b ∷ boards) r h k at =
    let hb = both (board_fits b) (every board_fits boards) h in
    let kb = both (board_fine b) (every board_fine boards) k in
    let behind = all_bytes board_bytes boards ++ r in
    let rest = board_bytes b ++ behind in
    let same : (board_bytes b ++ all_bytes board_bytes boards) ++ r ≡ rest = append_assoc (board_bytes b) (all_bytes board_bytes boards) r in
    let one : board_in rest ≡ b = board-back b behind hb.0 in
    let left : drop 2 rest ≡ behind = drop_at (board_bytes b) behind 2 (board-length b) in
    let long : length rest ≡ 2 + length behind = length-append (board_bytes b) behind ∙ ap (λ (m : ℕ). m + length behind) (board-length b) in
    let more = boards-back boards r hb.1 kb.1 (at + 2) in (
      rw same (clear-append (board_tests at rest) (boards_tests (length boards) (at + 2) (drop 2 rest)) (clear-board at rest (omega (arith, long)) (rw one kb.0)) (rw left more.0) (board-real at rest)),
      rw (same, one, left, more.1),
    )

-- ---- the header
pub clear-head : (bytes : List ℕ) → 8 ≤ length bytes → number_in 2 bytes ≡ 1 → outside 1 16 (board_count bytes) ≡ false → first (map bar_of (head_tests bytes)) ≡ 0
unfolding head_tests
clear-head bytes p e o =
    let t2 = field 0 bytes 4 4 false in
    let t1 = field 0 bytes 2 2 (outside 1 16 (board_count bytes)) ++ t2 in
    clear-field 0 bytes 0 2 (not (eqb (number_in 2 bytes) 1)) t1 (omega (arith, p)) (rw e)
    ∙ clear-field 0 bytes 2 2 (outside 1 16 (board_count bytes)) t2 (omega (arith, p)) o
    ∙ clear-field 0 bytes 4 4 false [] p refl

head-back : (boards acts : ℕ) (r : List ℕ) → fits 2 boards ≡ true → fits 4 acts ≡ true → let bytes = header boards acts ++ r in
    (number_in 2 bytes ≡ 1) × (board_count bytes ≡ boards) × (act_count bytes ≡ acts) × (drop 8 bytes ≡ r)
unfolding header little
head-back boards acts r h k =
    (number-back 2 1 (little 2 boards ++ (little 4 acts ++ r)) (omega arith), number-back 2 boards (little 4 acts ++ r) (ltb-true boards 65536 h), number-back 4 acts r (ltb-true acts 4294967296 k), refl)

-- ---- the whole
pub clear_reads : (bytes : List ℕ) → first (map bar_of (head_tests bytes)) ≡ 0 → first (map bar_of (boards_tests (board_count bytes) 8 (drop 8 bytes))) ≡ 0
    → first (map bar_of (acts_tests (act_count bytes) (acts_at bytes) (drop (acts_at bytes) bytes))) ≡ 0 → reads bytes ≡ true
unfolding read_tests
clear_reads bytes e f g =
    let boards = boards_tests (board_count bytes) 8 (drop 8 bytes) in
    let acts = acts_tests (act_count bytes) (acts_at bytes) (drop (acts_at bytes) bytes) in
    let rest = clear-append boards acts f g (boards-real (board_count bytes) 8 (drop 8 bytes)) in
    eq-eqb (first (read_bars bytes)) 0 (clear-append (head_tests bytes) (boards ++ acts) e rest (head-real bytes))

pub read_back : ReadBack
unfolding recording boards_in acts_in
read_back boards acts h w =
    let hb = both (not (outside 1 16 (length boards))) (every board_fine boards) h in
    let fit = four (fits 2 (length boards)) (fits 4 (length acts)) (every board_fits boards) (every act_fits acts) w in
    let last = all_bytes act_bytes acts in
    let lists = all_bytes board_bytes boards ++ last in
    let front = header (length boards) (length acts) in
    let bytes = front ++ lists in
    let head = head-back (length boards) (length acts) lists fit.0 fit.1 in
    let long : length bytes ≡ 8 + length lists = length-append front lists ∙ ap (λ (m : ℕ). m + length lists) (header-length (length boards) (length acts)) in
    let behind : drop (acts_at bytes) bytes ≡ last
    = rw head.1 (sym (drop-drop (2 * length boards) 8 bytes) ∙ rw head.3 (drop_at (all_bytes board_bytes boards) last (2 * length boards) (all-twos board_bytes board-length boards))) in
    let bs = boards-back boards last fit.2 hb.1 8 in
    let ns = acts-back acts fit.3 (acts_at bytes) in
    let head-fine = clear-head bytes (omega (arith, long)) head.0 (rw head.1 (not_yes (outside 1 16 (length boards)) hb.0)) in
    (clear_reads bytes head-fine (rw (head.1, head.3) bs.0) (rw (head.2, behind) ns.0), rw (head.1, head.3) bs.1, rw (head.2, behind) ns.1)
