-- The encoding is one-to-one on what can be recorded: equal bytes, equal boards, acts and answers (02, ticket 10). Each piece is read off the front: equal
-- bytes in front of any rests are equal pieces and equal rests.
-- Assumes nothing.
use Prim.Native.Nat.{ℕ, zero, suc, ◌*◌, ◌/◌, ◌%◌, ◌^◌, ◌<◌, ◌≤◌}
use native.Mathlib.Nat.{pow-suc}
use native.Mathlib.Omega.{arith}
use mathlib.Core.Path.{◌≡◌, refl, sym, ap, ap₂, ◌∙◌}
use mathlib.Core.Bool.{Bool, true, false, true≢false, cond, ◌&&◌}
use mathlib.Core.List.{List, [], ◌∷◌, ◌++◌, append_assoc, append-nil}
use lib.Dec.{leb, eqb}
use lib.IntN.{ℤ, pos, negsuc}
use lib.ListN.{length, get_or, drop}
use borrow.Author.Tests.{ltb-true, leb-true}
use Rattle.lists.specs.Every.{every}
use Rattle.lists.proofs.Split.{both}
use Rattle.refusal.specs.Said.{Said}
use Rattle.format.specs.Format.{little, fits, twos, fits_signed, Listed, listed, header, board_bytes, Sent, sample, frame, reading, Noted, noted, kind_of, body_of, widths, fields, valued, answer_bytes, act_bytes, all_bytes, recording, fields_fit, recordable, values_fit, answer_fits, board_fits, act_fits, OneToOne}
use Rattle.format.proofs.Sizes.{sample-length}

-- ---- lists that begin alike
same_head : {x y : ℕ} {r s : List ℕ} → x ∷ r ≡ y ∷ s → x ≡ y
same_head e = ap (λ (l : List ℕ). get_or l 0 0) e

same-tail : {x y : ℕ} {r s : List ℕ} → x ∷ r ≡ y ∷ s → r ≡ s
same-tail e = ap (λ (l : List ℕ). drop 1 l) e

pub list-apart : (a b r s : List ℕ) → length a ≡ length b → a ++ r ≡ b ++ s → (a ≡ b) × (r ≡ s)
list-apart [] [] r s n e = (refl, e)
list-apart [] (y ∷ b) r s n e = absurd (omega (arith, n))
list-apart (x ∷ a) [] r s n e = absurd (omega (arith, n))
list-apart (x ∷ a) (y ∷ b) r s n e =
    let rest = list-apart a b r s (omega (arith, n)) (same-tail e) in
    (ap₂ (λ (h : ℕ) (t : List ℕ). h ∷ t) (same_head e) rest.0, rest.1)

-- ---- numbers
fits_below : (w n : ℕ) → fits w n ≡ true → n < 256 ^ w
fits_below w n h = ltb-true n (256 ^ w) h

pub little-apart : (w m n : ℕ) (r s : List ℕ) → m < 256 ^ w → n < 256 ^ w → little w m ++ r ≡ little w n ++ s → (m ≡ n) × (r ≡ s)
unfolding little
little-apart zero m n r s p q e = (omega (arith, p, q), e)
little-apart (suc w) m n r s p q e =
    let power : 256 ^ suc w ≡ 256 ^ w * 256 = pow-suc 256 w in
    let low : m % 256 ≡ n % 256 = same_head e in
    let rest = little-apart w (m / 256) (n / 256) r s (omega (arith, p, power)) (omega (arith, q, power)) (same-tail e) in
    (omega (arith, low, rest.0), rest.1)

-- a field that fits
field_apart : (w m n : ℕ) (r s : List ℕ) → fits w m ≡ true → fits w n ≡ true → little w m ++ r ≡ little w n ++ s → (m ≡ n) × (r ≡ s)
field_apart w m n r s h k e = little-apart w m n r s (fits_below w m h) (fits_below w n k) e

twos-apart : (y z : ℤ) → fits_signed y ≡ true → fits_signed z ≡ true → twos y ≡ twos z → y ≡ z
twos-apart (pos m) (pos n) h k e = ap pos e
twos-apart (negsuc m) (negsuc n) h k e =
    let same : m ≡ n = omega (arith, ltb-true m 2147483648 h, ltb-true n 2147483648 k, e) in ap negsuc same
twos-apart (pos m) (negsuc n) h k e = absurd (omega (arith, ltb-true m 2147483648 h, ltb-true n 2147483648 k, e))
twos-apart (negsuc m) (pos n) h k e = absurd (omega (arith, ltb-true m 2147483648 h, ltb-true n 2147483648 k, e))

pub twos-below : (z : ℤ) → fits_signed z ≡ true → twos z < 256 ^ 4
twos-below (pos n) h = omega (arith, ltb-true n 2147483648 h)
twos-below (negsuc k) h = omega (arith, ltb-true k 2147483648 h)

-- ---- lists of pieces that are read off the front, so many of them
module _ {A : Type 0} (bytes : A → List ℕ) (ok : A → Bool)
    (apart : (x y : A) (r s : List ℕ) → ok x ≡ true → ok y ≡ true → bytes x ++ r ≡ bytes y ++ s → (x ≡ y) × (r ≡ s)) where
  all_apart : (xs ys : List A) (r s : List ℕ) → length xs ≡ length ys → every ok xs ≡ true → every ok ys ≡ true → all_bytes bytes xs ++ r ≡ all_bytes bytes ys ++ s → (xs ≡ ys) × (r ≡ s)
  unfolding every
  all_apart [] [] r s n h k e = (refl, e)
  all_apart [] (y ∷ ys) r s n h k e = absurd (omega (arith, n))
  all_apart (x ∷ xs) [] r s n h k e = absurd (omega (arith, n))
  all_apart (x ∷ xs) (y ∷ ys) r s n h k e =
      let hx = both (ok x) (every ok xs) h in
      let ky = both (ok y) (every ok ys) k in
      let first = apart x y (all_bytes bytes xs ++ r) (all_bytes bytes ys ++ s) hx.0 ky.0 (sym (append_assoc (bytes x) (all_bytes bytes xs) r) ∙ e ∙ append_assoc (bytes y) (all_bytes bytes ys) s) in
      let rest = all_apart xs ys r s (omega (arith, n)) hx.1 ky.1 first.1 in
      (ap₂ (λ (z : A) (zs : List A). z ∷ zs) first.0 rest.0, rest.1)

-- ---- an act: its kind and the length of its body stand in front, so two bodies are of one form
pub all_fit : (a b c d e f : Bool) → (a && b && c && d && e && f) ≡ true → (a ≡ true) × (b ≡ true) × (c ≡ true) × (d ≡ true) × (e ≡ true) × (f ≡ true)
all_fit true true true true true true h = (refl, refl, refl, refl, refl, refl)
all_fit true true true true true false h = absurd (true≢false (sym h))
all_fit true true true true false f h = absurd (true≢false (sym h))
all_fit true true true false e f h = absurd (true≢false (sym h))
all_fit true true false d e f h = absurd (true≢false (sym h))
all_fit true false c d e f h = absurd (true≢false (sym h))
all_fit false b c d e f h = absurd (true≢false (sym h))

sent-apart : (a b : Sent) (r s : List ℕ) → kind_of a ≡ kind_of b → fields_fit a ≡ true → fields_fit b ≡ true → length (body_of a) ≡ length (body_of b) → body_of a ++ r ≡ body_of b ++ s → (a ≡ b) × (r ≡ s)
unfolding body_of
sent-apart (sample board elapsed load thermistor shunt cells) (sample board' elapsed' load' thermistor' shunt' cells') r s kind h k n e =
    let fa = all_fit (fits 1 board) (fits 4 elapsed) (fits 1 load) (fits 2 thermistor) (fits_signed shunt) (every (fits 2) cells) h in
    let fb = all_fit (fits 1 board') (fits 4 elapsed') (fits 1 load') (fits 2 thermistor') (fits_signed shunt') (every (fits 2) cells') k in
    let e0 : little 1 board ++ (little 4 elapsed ++ (little 1 load ++ (little 2 thermistor ++ (little 4 (twos shunt) ++ (all_bytes (little 2) cells ++ r)))))
    ≡ little 1 board' ++ (little 4 elapsed' ++ (little 1 load' ++ (little 2 thermistor' ++ (little 4 (twos shunt') ++ (all_bytes (little 2) cells' ++ s))))) = simp append_assoc at e in
    let e1 = field_apart 1 board board' _ _ fa.0 fb.0 e0 in
    let e2 = field_apart 4 elapsed elapsed' _ _ fa.1 fb.1 e1.1 in
    let e3 = field_apart 1 load load' _ _ fa.2 fb.2 e2.1 in
    let e4 = field_apart 2 thermistor thermistor' _ _ fa.3 fb.3 e3.1 in
    let e5 = little-apart 4 (twos shunt) (twos shunt') _ _ (twos-below shunt fa.4) (twos-below shunt' fb.4) e4.1 in
    let many : length cells ≡ length cells' = omega (arith, sample-length board elapsed load thermistor shunt cells, sample-length board' elapsed' load' thermistor' shunt' cells', n) in
    let e6 = all_apart (little 2) (fits 2) (field_apart 2) cells cells' r s many fa.5 fb.5 e5.1 in
    (rw (e1.0, e2.0, e3.0, e4.0, twos-apart shunt shunt' fa.4 fb.4 e5.0, e6.0), e6.1)
sent-apart (frame bytes) (frame bytes') r s kind h k n e = let same = list-apart bytes bytes' r s n e in (ap frame same.0, same.1)
sent-apart reading reading r s kind h k n e = (refl, e)
sent-apart (sample board elapsed load thermistor shunt cells) (frame bytes) r s kind h k n e = absurd (omega (arith, kind))
sent-apart (sample board elapsed load thermistor shunt cells) reading r s kind h k n e = absurd (omega (arith, kind))
sent-apart (frame bytes) (sample board elapsed load thermistor shunt cells) r s kind h k n e = absurd (omega (arith, kind))
sent-apart (frame bytes) reading r s kind h k n e = absurd (omega (arith, kind))
sent-apart reading (sample board elapsed load thermistor shunt cells) r s kind h k n e = absurd (omega (arith, kind))
sent-apart reading (frame bytes) r s kind h k n e = absurd (omega (arith, kind))

-- ---- an answer: its number says which values follow
fields-apart : (ws us vs r s : List ℕ) → values_fit ws us ≡ true → values_fit ws vs ≡ true → fields ws us ++ r ≡ fields ws vs ++ s → (us ≡ vs) × (r ≡ s)
unfolding fields
fields-apart [] [] [] r s h k e = (refl, e)
fields-apart [] (u ∷ us) vs r s h k e = absurd (true≢false (sym h))
fields-apart [] [] (v ∷ vs) r s h k e = absurd (true≢false (sym k))
fields-apart (w ∷ ws) [] vs r s h k e = absurd (true≢false (sym h))
fields-apart (w ∷ ws) (u ∷ us) [] r s h k e = absurd (true≢false (sym k))
fields-apart (w ∷ ws) (u ∷ us) (v ∷ vs) r s h k e =
    let hu = both (fits w u) (values_fit ws us) h in
    let kv = both (fits w v) (values_fit ws vs) k in
    let first = field_apart w u v (fields ws us ++ r) (fields ws vs ++ s) hu.0 kv.0 (sym (append_assoc (little w u) (fields ws us) r) ∙ e ∙ append_assoc (little w v) (fields ws vs) s) in
    let rest = fields-apart ws us vs r s hu.1 kv.1 first.1 in
    (ap₂ (λ (x : ℕ) (xs : List ℕ). x ∷ xs) first.0 rest.0, rest.1)

answer-apart : (sent : Sent) (a b : Said) (r s : List ℕ) → answer_fits sent a ≡ true → answer_fits sent b ≡ true → answer_bytes sent a ++ r ≡ answer_bytes sent b ++ s → (a ≡ b) × (r ≡ s)
unfolding answer_bytes answer_fits
answer-apart sent a b r s h k e =
    let ha = both (fits 1 a.number) (values_fit (valued sent a) a.values) h in
    let kb = both (fits 1 b.number) (values_fit (valued sent b) b.values) k in
    let front : little 1 a.number ++ (fields (valued sent a) a.values ++ r) ≡ little 1 b.number ++ (fields (valued sent b) b.values ++ s) = simp append_assoc at e in
    let number = field_apart 1 a.number b.number _ _ ha.0 kb.0 front in
    let same : valued sent b ≡ valued sent a = ap (λ (n : ℕ). cond (eqb n 0) (widths sent) []) (sym number.0) in
    let values = fields-apart (valued sent a) a.values b.values r s ha.1 (rw same at kb.1) (rw same at number.1) in
    (ap₂ (λ (n : ℕ) (vs : List ℕ). record { number = n; values = vs }) number.0 values.0, values.1)

-- ---- a recorded act, and a listed board
kind-below : (s : Sent) → kind_of s < 256 ^ 1
kind-below (sample board elapsed load thermistor shunt cells) = omega arith
kind-below (frame bytes) = omega arith
kind-below reading = omega arith

act-apart : (m n : Noted) (r s : List ℕ) → act_fits m ≡ true → act_fits n ≡ true → act_bytes m ++ r ≡ act_bytes n ++ s → (m ≡ n) × (r ≡ s)
unfolding act_bytes recordable
act-apart m n r s h k e =
    let hm = both (recordable m.sent) (answer_fits m.sent m.answer) h in
    let kn = both (recordable n.sent) (answer_fits n.sent n.answer) k in
    let sm = both (fields_fit m.sent) (leb (length (body_of m.sent)) 255) hm.0 in
    let sn = both (fields_fit n.sent) (leb (length (body_of n.sent)) 255) kn.0 in
    let lm : length (body_of m.sent) ≤ 255 = leb-true (length (body_of m.sent)) 255 sm.1 in
    let ln : length (body_of n.sent) ≤ 255 = leb-true (length (body_of n.sent)) 255 sn.1 in
    let e0 : little 1 (kind_of m.sent) ++ (little 1 (length (body_of m.sent)) ++ (body_of m.sent ++ (answer_bytes m.sent m.answer ++ r)))
    ≡ little 1 (kind_of n.sent) ++ (little 1 (length (body_of n.sent)) ++ (body_of n.sent ++ (answer_bytes n.sent n.answer ++ s))) = simp append_assoc at e in
    let kind = little-apart 1 (kind_of m.sent) (kind_of n.sent) _ _ (kind-below m.sent) (kind-below n.sent) e0 in
    let long = little-apart 1 (length (body_of m.sent)) (length (body_of n.sent)) _ _ (omega (arith, lm)) (omega (arith, ln)) kind.1 in
    let sent = sent-apart m.sent n.sent _ _ kind.0 sm.0 sn.0 long.0 long.1 in
    let back = sym sent.0 in
    let answer = answer-apart m.sent m.answer n.answer r s hm.1 (rw back at kn.1) (rw back at sent.1) in
    (ap₂ noted sent.0 answer.0, answer.1)

board-apart : (b c : Listed) (r s : List ℕ) → board_fits b ≡ true → board_fits c ≡ true → board_bytes b ++ r ≡ board_bytes c ++ s → (b ≡ c) × (r ≡ s)
unfolding board_bytes
board-apart b c r s h k e =
    let hb = both (fits 1 b.kind) (fits 1 b.cells) h in
    let kc = both (fits 1 c.kind) (fits 1 c.cells) k in
    let e0 : little 1 b.kind ++ (little 1 b.cells ++ r) ≡ little 1 c.kind ++ (little 1 c.cells ++ s) = simp append_assoc at e in
    let kind = field_apart 1 b.kind c.kind _ _ hb.0 kc.0 e0 in
    let cells = field_apart 1 b.cells c.cells r s hb.1 kc.1 kind.1 in
    (ap₂ listed kind.0 cells.0, cells.1)

-- ---- the whole
pub four : (a b c d : Bool) → (a && b && c && d) ≡ true → (a ≡ true) × (b ≡ true) × (c ≡ true) × (d ≡ true)
four true true true true h = (refl, refl, refl, refl)
four true true true false h = absurd (true≢false (sym h))
four true true false d h = absurd (true≢false (sym h))
four true false c d h = absurd (true≢false (sym h))
four false b c d h = absurd (true≢false (sym h))

pub one-to-one : OneToOne
unfolding recording header
one-to-one bs cs ms ns h k e =
    let hb = four (fits 2 (length bs)) (fits 4 (length ms)) (every board_fits bs) (every act_fits ms) h in
    let kc = four (fits 2 (length cs)) (fits 4 (length ns)) (every board_fits cs) (every act_fits ns) k in
    let e0 : little 2 1 ++ (little 2 (length bs) ++ (little 4 (length ms) ++ (all_bytes board_bytes bs ++ (all_bytes act_bytes ms ++ []))))
    ≡ little 2 1 ++ (little 2 (length cs) ++ (little 4 (length ns) ++ (all_bytes board_bytes cs ++ (all_bytes act_bytes ns ++ [])))) = rw (append-nil, append-nil) (simp append_assoc at e) in
    let edition = field_apart 2 1 1 _ _ refl refl e0 in
    let boards = field_apart 2 (length bs) (length cs) _ _ hb.0 kc.0 edition.1 in
    let acts = field_apart 4 (length ms) (length ns) _ _ hb.1 kc.1 boards.1 in
    let same = all_apart board_bytes board_fits board-apart bs cs _ _ boards.0 hb.2 kc.2 acts.1 in
    let done = all_apart act_bytes act_fits act-apart ms ns [] [] acts.0 hb.3 kc.3 same.1 in
    (same.0, done.0)
