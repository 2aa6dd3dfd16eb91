-- A property of a board's history that holds at the start and is kept by every accepted act holds of every board after any acts.
-- Assumes nothing.
use Prim.Native.Nat.{ℕ, zero, suc}
use mathlib.Core.Path.{◌≡◌, refl}
use mathlib.Core.Bool.{Bool, true, false, cond}
use mathlib.Core.List.{List, [], ◌∷◌}
use lib.Dec.{eqb}
use lib.ListN.{set}
use Rattle.refusal.specs.Said.{Bar, first, unless_refused}
use Rattle.board.specs.declared.Readings.{Readings}
use Rattle.frame.specs.Frame.{byte, writes}
use Rattle.registers.specs.Registers.{access_bars}
use Rattle.stack.specs.Row.{place_of}
use Rattle.stack.specs.Frame.{frame_place}
use Rattle.demands.specs.Paper.{Entry, sampled, History}
use Rattle.demands.specs.Acts.{Act, sample, frame, listing, reading, up, bars, final}
use Rattle.demands.specs.Demands.{Log, begun, log_at, joined, board_given, row_given, frame_entry, joins, taken}
use Rattle.demands.proofs.Tells.{frame-fits}

-- a frame that its board does not refuse
abbrev pub Obeys : Log → List ℕ → Type 0
Obeys l bytes = eqb (first (access_bars (board_given l) (writes (byte bytes 0)) (byte bytes 1) (byte bytes 2))) 0 ≡ true

module _ (P : History → Type 0) (starts : P []) (samples-keep : (x : Readings) (mv : List ℕ) (h : History) → P h → P (sampled x mv ∷ h)) (frames-keep : (l : Log) (bytes : List ℕ) → Obeys l bytes → P l.acts → P (frame_entry bytes ∷ l.acts)) where
  abbrev EachSo : List Log → Type 0
  EachSo logs = (i : ℕ) → P (log_at logs i).acts

  so-set : (logs : List Log) (at : ℕ) (l : Log) → P l.acts → EachSo logs → EachSo (set logs at l)
  so-set [] at l p h i = h i
  so-set (m ∷ logs) zero l p h zero = p
  so-set (m ∷ logs) zero l p h (suc i) = h (suc i)
  so-set (m ∷ logs) (suc at) l p h zero = h zero
  so-set (m ∷ logs) (suc at) l p h (suc i) = so-set logs at l p (λ j. h (suc j)) i

  so-kept : (refusals : List Bar) (logs : List Log) (at : ℕ) (e : Entry) → (eqb (first refusals) 0 ≡ true → P (e ∷ (log_at logs at).acts)) → EachSo logs → EachSo (unless_refused refusals logs (joins logs at e))
  so-kept refusals logs at e p h = by (eqb (first refusals) 0) p
    where
      by : (t : Bool) → (t ≡ true → P (e ∷ (log_at logs at).acts)) → EachSo (cond t (joins logs at e) logs)
      by true q = so-set logs at (joined (log_at logs at) e) (q refl) h
      by false q = h

  so-taken : (logs : List Log) (a : Act) → EachSo logs → EachSo (taken logs a)
  so-taken logs (sample n x mv) h = so-kept (bars (row_given logs) (sample n x mv)) logs (place_of n) (sampled x mv) (λ accepted. samples-keep x mv (log_at logs (place_of n)).acts (h (place_of n))) h
  so-taken logs (frame bytes buffer) h =
      so-kept (bars (row_given logs) (frame bytes buffer)) logs (frame_place bytes) (frame_entry bytes) (λ accepted. frames-keep (log_at logs (frame_place bytes)) bytes (frame-fits logs bytes buffer accepted).1 (h (frame_place bytes))) h
  so-taken logs (listing n buffer) h = h
  so-taken logs reading h = h
  so-taken logs up h = h

  so-final : (logs : List Log) (acts : List Act) → EachSo logs → EachSo (final taken logs acts)
  so-final logs [] h = h
  so-final logs (a ∷ acts) h = so-final (taken logs a) acts (so-taken logs a h)

  so-begun : (plans : List ℕ) → EachSo (begun plans)
  so-begun [] i = starts
  so-begun (n ∷ plans) zero = starts
  so-begun (n ∷ plans) (suc i) = so-begun plans i

  pub always : (plans : List ℕ) (acts : List Act) (i : ℕ) → P (log_at (final taken (begun plans) acts) i).acts
  always plans acts = so-final (begun plans) acts (so-begun plans)
