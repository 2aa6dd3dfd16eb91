-- A recording with one act more: how long it is, and how it comes about in memory, the act behind what stands there and the header's count anew.
-- Assumes nothing.
use Prim.Native.Nat.{ℕ, ◌+◌, ◌*◌, ◌≤◌}
use native.Mathlib.Omega.{arith}
use mathlib.Core.Path.{◌≡◌, refl, ap, ◌∙◌}
use mathlib.Core.List.{List, [], ◌∷◌, ◌++◌, append_assoc, append-nil}
use lib.ListN.{length, drop, length-append, length-drop}
use lib.Seq.{sets, sets-eq, take-append_seam, drop-append-add, drop-drop}
use Rattle.format.specs.Format.{little, all_bytes, Listed, header, board_bytes, Noted, act_bytes, recording}
use Rattle.format.proofs.Sizes.{all_append, act-long, recording-length}

pub more-length : (boards : List Listed) (acts : List Noted) (n : Noted) → length (recording boards (acts ++ (n ∷ []))) ≡ length (recording boards acts) + length (act_bytes n)
more-length boards acts n =
    let one : length (all_bytes act_bytes (acts ++ (n ∷ []))) ≡ length (all_bytes act_bytes acts) + length (act_bytes n)
    = ap length (all_append act_bytes acts (n ∷ [])) ∙ length-append (all_bytes act_bytes acts) (act_bytes n ++ []) ∙ rw (append-nil (act_bytes n)) in
    omega (arith, one, recording-length boards acts, recording-length boards (acts ++ (n ∷ [])))

-- no act has under three bytes, so a recording has a third as many acts at most
pub few-acts : (acts : List Noted) → 3 * length acts ≤ length (all_bytes act_bytes acts)
few-acts [] = omega arith
few-acts (n ∷ acts) = rw (length-append (act_bytes n) (all_bytes act_bytes acts)) (omega (arith, act-long n, few-acts acts))

behind : (front new old : List ℕ) → length front + length new ≤ length old → sets (front ++ drop (length front) old) (length front) new ≡ front ++ (new ++ drop (length front + length new) old)
behind front new old h =
    let l = front ++ drop (length front) old in
    let long : length l ≡ length front + length (drop (length front) old) = length-append front (drop (length front) old) in
    let rest : drop (length front + length new) l ≡ drop (length front + length new) old = drop-append-add front (drop (length front) old) (length new) ∙ drop-drop (length new) (length front) old in
    sets-eq new l (length front) (omega (arith, h, long, length-drop (length front) old)) ∙ rw (take-append_seam front (drop (length front) old), rest) (append_assoc front new (drop (length front + length new) old))

recounted : (boards acts count : ℕ) (rest : List ℕ) → sets (header boards acts ++ rest) 4 (little 4 count) ≡ header boards count ++ rest
unfolding header little
recounted boards acts count rest = refl

pub grows : (boards : List Listed) (acts : List Noted) (n : Noted) (old : List ℕ) → length (recording boards acts) + length (act_bytes n) ≤ length old
    → sets (sets (recording boards acts ++ drop (length (recording boards acts)) old) (length (recording boards acts)) (act_bytes n)) 4 (little 4 (length acts + 1))
    ≡ recording boards (acts ++ (n ∷ [])) ++ drop (length (recording boards acts) + length (act_bytes n)) old
unfolding recording
grows boards acts n old h =
    let whole = recording boards acts in
    let lists = all_bytes board_bytes boards ++ all_bytes act_bytes acts in
    let rest = drop (length whole + length (act_bytes n)) old in
    let one : length (acts ++ (n ∷ [])) ≡ length acts + 1 = length-append acts (n ∷ []) in
    let all : all_bytes act_bytes (acts ++ (n ∷ [])) ≡ all_bytes act_bytes acts ++ act_bytes n = all_append act_bytes acts (n ∷ []) ∙ ap (λ (l : List ℕ). all_bytes act_bytes acts ++ l) (append-nil (act_bytes n)) in
    ap (λ (l : List ℕ). sets l 4 (little 4 (length acts + 1))) (behind whole (act_bytes n) old h ∙ append_assoc (header (length boards) (length acts)) lists (act_bytes n ++ rest))
    ∙ recounted (length boards) (length acts) (length acts + 1) (lists ++ (act_bytes n ++ rest))
    ∙ rw (one, all) (simp append_assoc)
