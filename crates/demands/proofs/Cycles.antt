-- What holds of every board after any acts: the cycles spent are at most three, and the working levels are never crossed.
-- Assumes nothing.
use Prim.Native.Nat.{ℕ, ◌+◌, ◌<◌, ◌≤◌}
use native.Mathlib.Omega.{arith}
use mathlib.Core.Path.{◌≡◌, refl, sym, ap, subst, ◌∙◌}
use mathlib.Core.Bool.{Bool, true, false, cond, not, ◌&&◌}
use mathlib.Core.List.{List, [], ◌∷◌}
use lib.Dec.{leb}
use borrow.Author.Tests.{leb-false}
use Rattle.refusal.specs.Said.{bar}
use Rattle.settings.specs.declared.Settings.{Settings}
use Rattle.settings.specs.Bytes.{same}
use Rattle.settings.specs.Levels.{crossed}
use Rattle.board.specs.declared.Board.{Board}
use Rattle.frame.specs.Frame.{byte, writes}
use Rattle.registers.specs.Map.{no_register, fits}
use Rattle.registers.specs.Registers.{programs, lacks_cycle}
use Rattle.stack.specs.Row.{board_at}
use Rattle.demands.specs.Paper.{History, staged, working, spends, how_many, spent}
use Rattle.demands.specs.Acts.{Act, next, opened_row, final}
use Rattle.demands.specs.Demands.{Log, begun, log_at, board_given, frame_entry, taken, opens}
use Rattle.demands.proofs.Clear.{clear}
use Rattle.demands.proofs.Tells.{board-at}
use Rattle.demands.proofs.Demanded.{demand2}
use Rattle.demands.proofs.Always.{Obeys, always}

-- a frame that its board does not refuse: neither 13 nor 11 holds
module _ (l : Log) (bytes : List ℕ) (obeys : Obeys l bytes) where
  abbrev is-programming : Bool
  is-programming = programs (writes (byte bytes 0)) (byte bytes 1)

  free : ((is-programming && crossed (staged l.acts)) ≡ false) × ((is-programming && lacks_cycle (board_given l)) ≡ false)
  free =
      let k = l.plan.kind in
      let w = writes (byte bytes 0) in
      let r = byte bytes 1 in
      let b9 = bar 9 (no_register k w r) in
      let b10 = bar 10 (not (fits w r (byte bytes 2))) in
      let b13 = bar 13 (is-programming && crossed (staged l.acts)) in
      let b11 = bar 11 (is-programming && lacks_cycle (board_given l)) in
      let c9 = clear b9 (b10 ∷ b13 ∷ b11 ∷ []) refl obeys in
      let c10 = clear b10 (b13 ∷ b11 ∷ []) refl c9.1 in
      let c13 = clear b13 (b11 ∷ []) refl c10.1 in
      (c13.0, (clear b11 [] refl c13.1).0)

-- ---- at most three

-- a programming that differs needs a free cycle
three-by : (programs differ : Bool) (spent : ℕ) → (programs && (differ && leb 3 spent)) ≡ false → spent ≤ 3 → cond (programs && differ) (spent + 1) spent ≤ 3
three-by true true spent free p = let fewer : spent < 3 = leb-false 3 spent free in omega arith
three-by true false spent free p = p
three-by false differ spent free p = p

three-frame : (l : Log) (bytes : List ℕ) → Obeys l bytes → spent l.acts ≤ 3 → spent (frame_entry bytes ∷ l.acts) ≤ 3
three-frame l bytes obeys p = three-by (is-programming l bytes obeys) (not (same (staged l.acts) (working l.acts))) (spent l.acts) (free l bytes obeys).1 p

-- ---- never crossed

-- what becomes working at a programming is staged, and staged levels that are crossed are refused
crossed-by : (programs : Bool) (staged working : Settings) → (programs && crossed staged) ≡ false → crossed working ≡ false → crossed (cond programs staged working) ≡ false
crossed-by true staged working fine p = fine
crossed-by false staged working fine p = p

crossed-frame : (l : Log) (bytes : List ℕ) → Obeys l bytes → crossed (working l.acts) ≡ false → crossed (working (frame_entry bytes ∷ l.acts)) ≡ false
crossed-frame l bytes obeys p = crossed-by (is-programming l bytes obeys) (staged l.acts) (working l.acts) (free l bytes obeys).0 p

pub uncrossed : (plans : List ℕ) (acts : List Act) (i : ℕ) → crossed (working (log_at (final taken (begun plans) acts) i).acts) ≡ false
uncrossed = always (λ h. crossed (working h) ≡ false) refl (λ x mv h p. p) crossed-frame

-- of any board of any stack that came from an opening, whatever the acts: its record holds the count of its differing programmings, and
-- that is at most three; and its working levels are not crossed
module _ (plans : List ℕ) (e : opens plans ≡ true) (acts : List Act) (i : ℕ) where
  abbrev acts-of : History
  acts-of = (log_at (final taken (begun plans) acts) i).acts

  record_is : board_at (final next (opened_row plans) acts) i ≡ board_given (log_at (final taken (begun plans) acts) i)
  record_is = ap (λ (row : List Board). board_at row i) (demand2 plans e acts).1 ∙ board-at (final taken (begun plans) acts) i

  pub cycles-count : (board_at (final next (opened_row plans) acts) i).cycles ≡ how_many spends acts-of
  cycles-count = ap (λ (b : Board). b.cycles) record_is

  pub at-most-three : (board_at (final next (opened_row plans) acts) i).cycles ≤ 3
  at-most-three = subst (λ (k : ℕ). k ≤ 3) (sym cycles-count) (always (λ h. spent h ≤ 3) (omega arith) (λ x mv h p. p) three-frame plans acts i)

  pub never-crossed : crossed (board_at (final next (opened_row plans) acts) i).working ≡ false
  never-crossed = ap (λ (b : Board). crossed b.working) record_is ∙ uncrossed plans acts i
