-- The library's table of refusals is the paper's, row by row; so every act is refused by the paper's.
-- Assumes nothing.
use Prim.Native.Nat.{ℕ, zero, suc, ◌+◌, ◌-◌, ◌/◌, ◌%◌, ◌<◌, ◌≤◌}
use native.Mathlib.Omega.{arith}
use mathlib.Core.Path.{◌≡◌, refl, sym, ap, ◌∙◌, subst}
use mathlib.Core.Logic.Iff
use mathlib.Core.Logic.{◌⊎◌, inl, inr, ◌≢◌, ◌↔◌}
use mathlib.Core.Bool.{Bool, true, false, true≢false, cond, not, ◌&&◌, ◌||◌, or-false}
use mathlib.Core.List.{List, [], ◌∷◌, ◌++◌}
use lib.Dec.{leb, ltb, eqb}
use lib.IntN.{ℤ, pos, negsuc}
use lib.ListN.{length, set, length-map, get_or-eq_default}
use borrow.Author.Tests.{eqb-true, eqb-false, eq-eqb, ne_eqb, leb-true, leb-false, ltb-true, ltb-false, le-ltb}
use Rattle.lists.specs.Every.{every}
use Rattle.lists.proofs.Split.{split, both, not_yes}
use Rattle.refusal.specs.Said.{Said, Bar, bar, first}
use Rattle.settings.specs.declared.Settings.{Settings}
use Rattle.settings.specs.Bytes.{same, allowed}
use Rattle.settings.specs.Levels.{ocd_level, scd_level, crossed}
use Rattle.settings.proofs.Laws.{same_self, same-yes}
use Rattle.cells.specs.Cells.{readable}
use Rattle.board.specs.declared.Board.{Board}
use Rattle.board.specs.declared.Readings.{Readings}
use Rattle.board.specs.Shunt.{shunt_outside}
use Rattle.lists.specs.Compare.{outside}
use Rattle.board.specs.declared.Plan.{Plan}
use Rattle.board.specs.Plan.{is_host, is_garden, bad_garden, bad_plan, plan_of}
use Rattle.board.specs.Sample.{plan_in, bad_board, out_of_range, reading_bars}
use Rattle.frame.specs.Frame.{byte, board_of, writes, frame_bars}
use Rattle.frame.specs.Check.{check_of}
use Rattle.registers.specs.Map.{Register, register_map, in_map, no_register, fits}
use Rattle.registers.specs.Registers.{programs, lacks_cycle, access_bars}
use Rattle.registers.proofs.Map.{below, above, between, past-settings, between-tallies, away-below, control-there, low-there, high-there, takes-setting}
use Rattle.journal.specs.Ring as journal
use Rattle.stack.specs.Row.{bad_count, good_row, no_board, past_end, place_of, board_at}
use Rattle.stack.specs.Open.{good_plans, open_bars, opening_said, open_answer}
use Rattle.stack.specs.Sample.{sample_row_bars}
use Rattle.stack.specs.Frame.{frame_place, frame_row_bars}
use Rattle.stack.specs.List.{entries_of, list_bars}
use Rattle.demands.specs.Paper.{Entry, History, staged, working, spent}
use Rattle.demands.specs.Acts.{Act, sample, frame, listing, reading, up, bars, outcome, next, opened_row, final}
use Rattle.demands.specs.Table.{FirstIs, NoneHolds, ByTable}
use Rattle.demands.specs.Demands.{Log, no_log, begun, log_at, joined, board_given, row_given, joins, taken, listing_says, opens}
use Rattle.demands.specs.Refused.{Rule, Some, NoGarden, NoPlan, NoStack, plans_by, plans_of, plans_in, log_of, NoBoard, WrongCells, WrongShunt, WrongReading, ReadOf, WriteOf, Reads, Writes, NoBoardNamed, Named, OfTallies, Known, OnlyRead, WrongRegister, MayCarry, WrongValue, Programs, Crossed, Worn, NoRoom, opening_rules, sample_rules, frame_rules, list_rules, rules, SameRows, SameTable, FirstOf, NoneOf, ByRules, ActOf, entered, RefusedByPaper}
use Rattle.demands.proofs.Asked.{Asks, asks-no, asks-so, asks-same, asks-lt, asks-le, asks-eq, asks-above, asks-or, asks-and, asks-not, asks-twice, asks-or3, asks-outside, asks-some, every_of}
use Rattle.demands.proofs.Table.{is-first, is_none, kept-old, demand1, demand1-opening}
use Rattle.demands.proofs.Tells.{board-at, listed-is}
use Rattle.demands.proofs.Demanded.{begun-plans, demand2, final-plans}

-- ---- 1: of an opening by its plans, of a row by those of its records

abbrev good : List Plan → Bool
good plans = every (λ p. not (bad_plan p)) plans

garden-ask : (p : Plan) → Asks (bad_garden p) (NoGarden p)
garden-ask p =
    let a = outside 3 5 p.cells in
    let b = ltb 2 p.row in
    let c = outside 1 255 p.trigger in
    asks-or3 a b c (asks-or a (b || c) (asks-outside 3 5 p.cells) (asks-or b c (asks-lt 2 p.row) (asks-outside 1 255 p.trigger)))

plan-ask : (p : Plan) → Asks (bad_plan p) (NoPlan p)
plan-ask p =
    let g = is_garden p.kind in
    let a = bad_garden p in
    let b = outside 5 10 p.cells in
    asks-or (ltb 2 p.kind) (cond g a b) (asks-lt 2 p.kind)
    (asks-same (cond g a b) ((g && a) || (not g && b)) (either g a b)
    (asks-or (g && a) (not g && b)
    (asks-and g a (asks-eq p.kind 2) (garden-ask p))
    (asks-and (not g) b (asks-not g (asks-eq p.kind 2)) (asks-outside 5 10 p.cells))))
  where
    either : (g a b : Bool) → cond g a b ≡ ((g && a) || (not g && b))
    either true true b = refl
    either true false b = refl
    either false a b = refl

plans-ask : (plans : List Plan) → Asks (bad_count (length plans) || not (good plans)) (NoStack plans)
plans-ask plans =
    asks-or (bad_count (length plans)) (not (good plans)) (asks-outside 1 16 (length plans))
    (asks-some (plan_of 0) NoPlan (λ p. not (bad_plan p)) (λ p. asks-twice (bad_plan p) (plan-ask p)) plans)

numbers-ask : (plans : List ℕ) → Asks (bad_count (length plans) || not (good_plans plans)) (NoStack (plans_by plans))
numbers-ask plans =
    asks-same (bad_count (length plans) || not (good_plans plans)) (bad_count (length (plans_by plans)) || not (good (plans_by plans)))
    (rw (length-map plans plan_of, every_of (λ p. not (bad_plan p)) plan_of plans))
    (plans-ask (plans_by plans))

opening-ask : (records : ℕ) (plans : List ℕ) → Asks (not (eqb (length plans) records) || bad_count (length plans) || not (good_plans plans)) ((length plans ≢ records) ⊎ NoStack (plans_by plans))
opening-ask records plans =
    let other = not (eqb (length plans) records) in
    asks-or3 other (bad_count (length plans)) (not (good_plans plans)) (asks-or other (bad_count (length plans) || not (good_plans plans)) (asks-not (eqb (length plans) records) (asks-eq (length plans) records)) (numbers-ask plans))

row-ask : (row : List Board) → Asks (not (good_row row)) (NoStack (plans_in row))
unfolding good_row
row-ask row =
    let plans = plans_in row in
    let good-is : every (λ b. not (bad_board b)) row ≡ good plans = every_of (λ p. not (bad_plan p)) plan_in row in
    asks-same (not (good_row row)) (bad_count (length plans) || not (good plans))
    (rw (good-is, length-map row plan_in) (not-both (bad_count (length row)) (good plans)))
    (plans-ask plans)
  where
    not-both : (a b : Bool) → not (not a && b) ≡ (a || not b)
    not-both true b = refl
    not-both false b = refl

-- ---- the board of a number, in a row of few boards

log-of : (logs : List Log) → length logs ≤ 16 → (n : ℕ) → log_at logs (place_of n) ≡ log_of logs n
log-of logs few zero = get_or-eq_default logs no_log {n = past_end} (omega arith)
log-of logs few (suc at) =
    let back : suc at - 1 ≡ at = omega arith in
    rw (ne_eqb (suc at) 0 (λ e. omega arith), back)

board-of : (logs : List Log) → length logs ≤ 16 → (n : ℕ) → board_at (row_given logs) (place_of n) ≡ board_given (log_of logs n)
board-of logs few n = board-at logs (place_of n) ∙ ap board_given (log-of logs few n)

few-boards : (logs : List Log) → ¬ NoStack (plans_of logs) → length logs ≤ 16
few-boards logs fine =
    let long = length-map logs (λ (l : Log). l.plan) in
    split (leb (length logs) 16) (λ e. leb-true (length logs) 16 e)
    (λ e. absurd (fine (inl (inr (omega (arith, long, leb-false (length logs) 16 e))))))

-- 2
board-ask : (logs : List Log) (n : ℕ) → Asks (no_board (row_given logs) n) (NoBoard logs n)
board-ask logs n = rw (length-map logs board_given) (asks-outside 1 (length logs) n)

-- ---- 3, 4, 5

cells-ask : (l : Log) (mv : List ℕ) → Asks (not (eqb (length mv) l.plan.cells)) (WrongCells l mv)
cells-ask l mv = asks-not (eqb (length mv) l.plan.cells) (asks-eq (length mv) l.plan.cells)

shunt-ask : (shunt : ℤ) → Asks (shunt_outside shunt) (WrongShunt shunt)
shunt-ask (pos d) = asks-lt 500000 d
shunt-ask (negsuc k) =
    asks-so (ltb 499999 k || false) (asks-or (ltb 499999 k) false (asks-lt 499999 k) never) out (λ p. inl (omega arith))
  where
    never : Asks false ⊥
    never = (λ e. true≢false (sym e), λ z. absurd z)

    out : (499999 < k) ⊎ ⊥ → 500000 < k + 1
    out (inl p) = omega arith
    out (inr z) = absurd z

load-ask : (load : ℕ) → Asks (ltb 1 load) ((load ≢ 0) × (load ≢ 1))
load-ask load =
    asks-so (ltb 1 load) (asks-lt 1 load) (λ p. (λ e. omega arith, λ e. omega arith)) (λ (no0, no1). omega (arith, no0, no1))

reading-ask : (x : Readings) (mv : List ℕ) → Asks (out_of_range x mv) (WrongReading x mv)
reading-ask x mv =
    let a = not (readable mv) in
    let b = ltb 5000 x.thermistor in
    let c = shunt_outside x.shunt in
    let d = ltb 1 x.load in
    let cell : Asks a (Some 0 (λ v. 5000 < v) mv) = asks-some 0 (λ v. 5000 < v) (λ v. leb v 5000) (λ v. asks-above v 5000) mv in
    asks-or3 (a || b) c d (asks-or3 a b (c || d)
    (asks-or a (b || (c || d)) cell
    (asks-or b (c || d) (asks-lt 5000 x.thermistor)
    (asks-or c d (shunt-ask x.shunt) (load-ask x.load)))))

-- ---- 2, 9, 10, 11 by the address, register and value

writes-ask : (address : ℕ) → Asks (writes address) (Writes address)
writes-ask address =
    asks-so (writes address) (asks-eq (address % 2) 1) (λ e. (address / 2, omega arith)) (λ (n, e). omega arith)

reads-ask : (address : ℕ) → Asks (not (writes address)) (Reads address)
reads-ask address =
    asks-so (not (writes address)) (asks-not (writes address) (asks-eq (address % 2) 1)) (λ even. (address / 2, omega (arith, even))) (λ (n, e) odd. omega arith)

-- the address names one board
named : (n address : ℕ) → ReadOf n address ⊎ WriteOf n address → board_of address ≡ n
named n address (inl e) = omega arith
named n address (inr e) = omega arith

names : (address : ℕ) → ReadOf (board_of address) address ⊎ WriteOf (board_of address) address
names address = split (writes address) (λ e. inr (omega (arith, eqb-true (address % 2) 1 e))) (λ e. inl (omega (arith, eqb-false (address % 2) 1 e)))

named-ask : (logs : List Log) (address : ℕ) → Asks (no_board (row_given logs) (board_of address)) (NoBoardNamed logs address)
named-ask logs address =
    asks-so (no_board (row_given logs) (board_of address)) (board-ask logs (board_of address))
    (λ none. (board_of address, names address, none))
    (λ (n, is, none). subst (NoBoard logs) (sym (named n address is)) none)

-- a board that is named is the one of the address
of-named : (So : Log → Type 0) (logs : List Log) (address : ℕ) → So (log_of logs (board_of address)) ↔ Named So logs address
of-named So logs address = (
  λ so. (board_of address, names address, so),
  λ (n, is, so). subst (λ (k : ℕ). So (log_of logs k)) (sym (named n address is)) so,
)

-- 9, by the ranges of the map: register 0 and the tallies' are refused to a write, 1 to a board that is no host, 6 to 11 to a garden board, any other to everybody
module _ (logs : List Log) (address r : ℕ) where
  abbrev l : Log
  l = log_of logs (board_of address)

  abbrev k : ℕ
  k = l.plan.kind

  abbrev RegisterAsk : Type 0
  RegisterAsk = Asks (no_register k (writes address) r) (WrongRegister logs address r)

  -- none refuses the register itself
  here-known : Known r l → ¬ OnlyRead r → no_register k (writes address) r ≡ false → RegisterAsk
  here-known is other e = asks-same (no_register k (writes address) r) false e (λ t. absurd (true≢false (sym t)), back)
    where
      back : WrongRegister logs address r → false ≡ true
      back (inl so) = absurd ((of-named (λ l. ¬ Known r l) logs address).1 so is)
      back (inr (w, z)) = absurd (other z)

  here-unknown : ¬ Known r l → no_register k (writes address) r ≡ true → RegisterAsk
  here-unknown never e = (λ t. inl ((of-named (λ l. ¬ Known r l) logs address).0 never), λ wrong. e)

  only-read : Known r l → OnlyRead r → no_register k (writes address) r ≡ writes address → RegisterAsk
  only-read is only e = asks-same (no_register k (writes address) r) (writes address) e (asks-so (writes address) (writes-ask address) (λ w. inr (w, only)) back)
    where
      back : WrongRegister logs address r → Writes address
      back (inl so) = absurd ((of-named (λ l. ¬ Known r l) logs address).1 so is)
      back (inr (w, z)) = w

  -- from 1 to 11 none is only read
  stored : 0 < r → r < 16 → ¬ OnlyRead r
  stored low high (inl z) = omega arith
  stored low high (inr (inl (from, to))) = omega arith
  stored low high (inr (inr (from, to))) = omega arith

  control : r ≡ 1 → RegisterAsk
  control e =
      split (is_host k)
      (λ h. here-known (inr (inl (e, eqb-true k 1 h))) (stored (omega arith) (omega arith)) (rw e (control-there k (writes address) ∙ ap not h)))
      (λ h. here-unknown (other h) (rw e (control-there k (writes address) ∙ ap not h)))
    where
      other : is_host k ≡ false → ¬ Known r l
      other h (inl z) = omega arith
      other h (inr (inl (z, is))) = eqb-false k 1 h is
      other h (inr (inr (inl (low, high, kind)))) = omega arith
      other h (inr (inr (inr (inl (low, high))))) = omega arith
      other h (inr (inr (inr (inr (low, high))))) = omega arith

  settings : 6 ≤ r → r ≤ 11 → RegisterAsk
  settings from to =
      split (is_garden k)
      (λ g. here-unknown (other g) (between k (writes address) r from to ∙ g))
      (λ g. here-known (inr (inr (inl (from, to, eqb-false k 2 g)))) (stored (omega arith) (omega arith)) (between k (writes address) r from to ∙ g))
    where
      other : is_garden k ≡ true → ¬ Known r l
      other g (inl z) = omega arith
      other g (inr (inl (z, is))) = omega arith
      other g (inr (inr (inl (low, high, kind)))) = kind (eqb-true k 2 g)
      other g (inr (inr (inr (inl (low, high))))) = omega arith
      other g (inr (inr (inr (inr (low, high))))) = omega arith

  -- below the settings, and between and past the tallies
  none-there : r ≢ 0 → r ≢ 1 → ((6 ≤ r) × (r ≤ 11) → ⊥) → (OfTallies r → ⊥) → ¬ Known r l
  none-there n0 n1 no-setting no-tally (inl z) = n0 z
  none-there n0 n1 no-setting no-tally (inr (inl (z, is))) = n1 z
  none-there n0 n1 no-setting no-tally (inr (inr (inl (low, high, kind)))) = no-setting (low, high)
  none-there n0 n1 no-setting no-tally (inr (inr (inr t))) = no-tally t

  too-low : r ≢ 0 → r ≢ 1 → r < 6 → RegisterAsk
  too-low n0 n1 p = here-unknown (none-there n0 n1 (λ (low, high). omega arith) away) (below k (writes address) r n0 n1 p)
    where
      away : OfTallies r → ⊥
      away (inl (low, high)) = omega arith
      away (inr (low, high)) = omega arith

  -- past 11
  module _ (past : 11 < r) where
    unknown : (OfTallies r → ⊥) → no_register k (writes address) r ≡ true → RegisterAsk
    unknown away e = here-unknown (none-there (λ z. omega arith) (λ z. omega arith) (λ (low, high). omega arith) away) e

    upper : RegisterAsk
    upper =
        let w = writes address in
        split (ltb r 16) (λ e. let p = ltb-true r 16 e in unknown (before p) (past-settings k w r past (away-below r p)))
        (λ e16. let from = ltb-false r 16 e16 in split (leb r 20)
        (λ e. let to = leb-true r 20 e in only-read (inr (inr (inr (inl (from, to))))) (inr (inl (from, to))) (low-there k w r from to))
        (λ e20. let past20 = leb-false r 20 e20 in split (ltb r 24) (λ e. let p = ltb-true r 24 e in unknown (amid past20 p) (between-tallies k w r past20 p))
        (λ e24. let high = ltb-false r 24 e24 in split (leb r 28)
        (λ e. let to = leb-true r 28 e in only-read (inr (inr (inr (inr (high, to))))) (inr (inr (high, to))) (high-there k w r high to))
        (λ e28. let past28 = leb-false r 28 e28 in unknown (beyond past28) (above k w r past28)))))
      where
        before : r < 16 → OfTallies r → ⊥
        before p (inl (low, high)) = omega arith
        before p (inr (low, high)) = omega arith

        amid : 20 < r → r < 24 → OfTallies r → ⊥
        amid p q (inl (low, high)) = omega arith
        amid p q (inr (low, high)) = omega arith

        beyond : 28 < r → OfTallies r → ⊥
        beyond p (inl (low, high)) = omega arith
        beyond p (inr (low, high)) = omega arith

  register-ask : RegisterAsk
  register-ask =
      split (eqb r 0) (λ e. let z = eqb-true r 0 e in only-read (inl z) (inl z) (rw z))
      (λ n0. split (eqb r 1) (λ e. control (eqb-true r 1 e))
      (λ n1. split (leb 6 r)
      (λ low. split (leb r 11) (λ high. settings (leb-true 6 r low) (leb-true r 11 high)) (λ high. upper (leb-false r 11 high)))
      (λ low. too-low (eqb-false r 0 n0) (eqb-false r 1 n1) (leb-false 6 r low))))

-- 10, by what a register takes
abbrev takes : ℕ → ℕ → Bool
takes r v = in_map register_map r false (λ (x : Register). x.takes v)

takes-is : (r v : ℕ) → takes r v ≡ ((eqb r 1 && ltb v 8) || (allowed r v || (eqb r 11 && eqb v 0x41)))
takes-is r v =
    split (eqb r 1)
    (λ e. rw (eqb-true r 1 e) (sym (or-false (ltb v 8))))
    (λ n. split (eqb r 11)
    (λ e. rw (eqb-true r 11 e))
    (λ e. takes-setting r v n e ∙ sym (rw (n, e) (or-false (allowed r v)))))

takes-ask : (r v : ℕ) → Asks (takes r v) (MayCarry r v)
takes-ask r v =
    let z = eqb r 1 && ltb v 8 in
    let a = eqb r 6 in
    let b = eqb r 7 && ltb v 64 in
    let c = eqb r 8 && ltb v 32 in
    let d = eqb r 9 in
    let e = eqb r 10 in
    let f = eqb r 11 && eqb v 0x41 in
    asks-same (takes r v) (z || (allowed r v || f)) (takes-is r v)
    (asks-or z (allowed r v || f) (asks-and (eqb r 1) (ltb v 8) (asks-eq r 1) (asks-lt v 8))
    (asks-or3 (a || b || c || d) e f (asks-or3 (a || b || c) d (e || f) (asks-or3 (a || b) c (d || (e || f)) (asks-or3 a b (c || (d || (e || f)))
    (asks-or a (b || (c || (d || (e || f)))) (asks-eq r 6)
    (asks-or b (c || (d || (e || f))) (asks-and (eqb r 7) (ltb v 64) (asks-eq r 7) (asks-lt v 64))
    (asks-or c (d || (e || f)) (asks-and (eqb r 8) (ltb v 32) (asks-eq r 8) (asks-lt v 32))
    (asks-or d (e || f) (asks-eq r 9)
    (asks-or e f (asks-eq r 10)
    (asks-and (eqb r 11) (eqb v 0x41) (asks-eq r 11) (asks-eq v 0x41))))))))))))

value-ask : (address r v : ℕ) → Asks (not (fits (writes address) r v)) (WrongValue address r v)
value-ask address r v =
    let w = writes address in
    let t = takes r v in
    asks-same (not (fits w r v)) ((not w && not (eqb v 0)) || (w && not t)) (either w t (eqb v 0))
    (asks-or (not w && not (eqb v 0)) (w && not t)
    (asks-and (not w) (not (eqb v 0)) (reads-ask address) (asks-not (eqb v 0) (asks-eq v 0)))
    (asks-and w (not t) (writes-ask address) (asks-not t (takes-ask r v))))
  where
    either : (w t z : Bool) → not (cond w t z) ≡ ((not w && not z) || (w && not t))
    either true t z = refl
    either false t true = refl
    either false t false = refl

-- 11
same-ask : (s t : Settings) → Asks (same s t) (s ≡ t)
same-ask s t = (same-yes s t, λ p. ap (same s) (sym p) ∙ same_self s)

worn-ask : (l : Log) → Asks (lacks_cycle (board_given l)) (Worn l.acts)
worn-ask l =
    let s = staged l.acts in
    let t = working l.acts in
    asks-and (not (same s t)) (leb 3 (spent l.acts)) (asks-not (same s t) (same-ask s t)) (asks-le 3 (spent l.acts))

-- 13
crossed-ask : (l : Log) → Asks (crossed (staged l.acts)) (Crossed l.acts)
crossed-ask l =
    let s = staged l.acts in
    (λ e. ltb-false (ocd_level s) (scd_level s) (not_yes (ltb (ocd_level s) (scd_level s)) e), λ p. rw (le-ltb (ocd_level s) (scd_level s) p))

-- both are asked of a programming alone, and of the board that it names
program-ask : (So : History → Type 0) (test : Log → Bool) → ((l : Log) → Asks (test l) (So l.acts)) → (logs : List Log) (address r : ℕ)
    → Asks (programs (writes address) r && test (log_of logs (board_of address))) (Programs So logs address r)
program-ask So test asks logs address r =
    let l = log_of logs (board_of address) in
    asks-so (programs (writes address) r && test l)
    (asks-and (programs (writes address) r) (test l) (asks-and (writes address) (eqb r 11) (writes-ask address) (asks-eq r 11)) (asks l))
    (λ (((n, is), e), so). (n, is, e, subst (λ (k : ℕ). So (log_of logs k).acts) (named n address (inr is)) so))
    (λ (n, is, e, so). (((n, is), e), subst (λ (k : ℕ). So (log_of logs k).acts) (sym (named n address (inr is))) so))

-- ---- the table, row by row

-- a row of this number on both sides, and the rows after it
also : {A B : Type 0} (n : ℕ) → A → B → ((n ≡ n) × A) × B
also n here later = ((refl, here), later)

given-plans : (logs : List Log) → plans_in (row_given logs) ≡ plans_of logs
given-plans [] = refl
given-plans (l ∷ logs) = ap (λ (plans : List Plan). l.plan ∷ plans) (given-plans logs)

logs-ask : (logs : List Log) → Asks (not (good_row (row_given logs))) (NoStack (plans_of logs))
logs-ask logs = subst (λ (plans : List Plan). Asks (not (good_row (row_given logs))) (NoStack plans)) (given-plans logs) (row-ask (row_given logs))

module _ (logs : List Log) (few : length logs ≤ 16) where
  abbrev row : List Board
  row = row_given logs

  sample-rows : (n : ℕ) (x : Readings) (mv : List ℕ) → SameRows (sample_row_bars row n x mv) (sample_rules logs n x mv)
  sample-rows n x mv =
      subst (λ (b : Board). SameRows (bar 1 (not (good_row row)) ∷ bar 2 (no_board row n) ∷ reading_bars b x mv) (sample_rules logs n x mv))
      (sym (board-of logs few n))
      (also 1 (logs-ask logs)
      (also 2 (board-ask logs n)
      (also 3 (cells-ask (log_of logs n) mv)
      (also 4 (asks-outside 1 100000 x.elapsed)
      (also 5 (reading-ask x mv) tt)))))

  frame-rows : (bytes buffer : List ℕ) → SameRows (frame_row_bars row bytes buffer) (frame_rules logs bytes buffer)
  frame-rows bytes buffer =
      let address = byte bytes 0 in
      let r = byte bytes 1 in
      let v = byte bytes 2 in
      let check = check_of (address ∷ r ∷ v ∷ []) in
      subst (λ (b : Board). SameRows (bar 1 (not (good_row row)) ∷ (frame_bars bytes (length buffer) ++ (bar 2 (no_board row (board_of address)) ∷ access_bars b (writes address) r v))) (frame_rules logs bytes buffer))
      (sym (board-of logs few (board_of address)))
      (also 1 (logs-ask logs)
      (also 6 (asks-not (eqb (length bytes) 4) (asks-eq (length bytes) 4))
      (also 7 (asks-lt (length buffer) 4)
      (also 8 (asks-not (eqb (byte bytes 3) check) (asks-eq (byte bytes 3) check))
      (also 2 (named-ask logs address)
      (also 9 (register-ask logs address r)
      (also 10 (value-ask address r v)
      (also 13 (program-ask Crossed (λ l. crossed (staged l.acts)) crossed-ask logs address r)
      (also 11 (program-ask Worn (λ l. lacks_cycle (board_given l)) worn-ask logs address r) tt)))))))))

  list-rows : (n : ℕ) (buffer : List ℕ) → SameRows (list_bars row n buffer) (list_rules logs n buffer)
  list-rows n buffer =
      subst (λ (b : Board). SameRows (bar 1 (not (good_row row)) ∷ bar 2 (no_board row n) ∷ bar 14 (ltb (length buffer / 3) (length (journal.listing b.journal))) ∷ []) (list_rules logs n buffer))
      (sym (board-of logs few n))
      (also 1 (logs-ask logs)
      (also 2 (board-ask logs n)
      (also 14 (subst (λ (es : List journal.Entry). Asks (ltb (length buffer / 3) (length es)) (NoRoom (log_of logs n) buffer)) (sym (listed-is (log_of logs n))) (asks-lt (length buffer / 3) (length (listing_says (log_of logs n))))) tt)))

  act-rows : (a : Act) → SameRows (bars row a) (rules logs a)
  act-rows (sample n x mv) = sample-rows n x mv
  act-rows (frame bytes buffer) = frame-rows bytes buffer
  act-rows (listing n buffer) = list-rows n buffer
  act-rows reading = also 1 (logs-ask logs) tt
  act-rows up = also 1 (logs-ask logs) tt

pub same-table : SameTable
same-table =
    record {
      opening = λ records plans. also 1 (opening-ask records plans) tt;
      handed-in = λ row. also 1 (row-ask row) tt;
      act = λ logs fine. act-rows logs (few-boards logs fine);
    }

-- ---- the first that holds, by either table

first-same : (bs : List Bar) (rs : List Rule) → SameRows bs rs → (n : ℕ) → FirstIs n bs ↔ FirstOf n rs
first-same [] [] s n = (λ z. z, λ z. z)
first-same [] (r ∷ rs) s n = absurd s
first-same (b ∷ bs) [] s n = absurd s
first-same (b ∷ bs) (r ∷ rs) ((number_is, asks), later) n = let rest = first-same bs rs later n in (there rest, back rest)
  where
    there : FirstIs n bs ↔ FirstOf n rs → FirstIs n (b ∷ bs) → FirstOf n (r ∷ rs)
    there rest (inl (h, e)) = inl (asks.0 h, sym number_is ∙ e)
    there rest (inr (h, f)) = inr ((asks-no b.when asks).0 h, rest.0 f)

    back : FirstIs n bs ↔ FirstOf n rs → FirstOf n (r ∷ rs) → FirstIs n (b ∷ bs)
    back rest (inl (h, e)) = inl (asks.1 h, number_is ∙ e)
    back rest (inr (h, f)) = inr ((asks-no b.when asks).1 h, rest.1 f)

none-same : (bs : List Bar) (rs : List Rule) → SameRows bs rs → NoneHolds bs ↔ NoneOf rs
none-same [] [] s = (λ z. z, λ z. z)
none-same [] (r ∷ rs) s = absurd s
none-same (b ∷ bs) [] s = absurd s
none-same (b ∷ bs) (r ∷ rs) ((number_is, asks), later) =
    let here = asks-no b.when asks in
    let rest = none-same bs rs later in
    (λ (h, f). (here.0 h, rest.0 f), λ (h, f). (here.1 h, rest.1 f))

by-rules : (bs : List Bar) (rs : List Rule) (said : Said) → SameRows bs rs → ByTable bs said → ByRules rs said
by-rules bs rs said s t =
    record {
      refused = λ n p. Iff.trans (t.refused n p) (first-same bs rs s n);
      accepted = Iff.trans t.accepted (none-same bs rs s);
    }

-- ---- 1 before all else

-- no row has this number
abbrev lacks : ℕ → List Bar → Bool
lacks n [] = true
lacks n (b ∷ bs) = not (eqb b.number n) && lacks n bs

not_first : (n : ℕ) (bs : List Bar) → lacks n bs ≡ true → FirstIs n bs → ⊥
not_first n [] u f = f
not_first n (b ∷ bs) u (inl (h, e)) = eqb-false b.number n (not_yes (eqb b.number n) (both (not (eqb b.number n)) (lacks n bs) u).0) e
not_first n (b ∷ bs) u (inr (h, f)) = not_first n bs (both (not (eqb b.number n)) (lacks n bs) u).1 f

one-first : (c : Bool) (bs : List Bar) → lacks 1 bs ≡ true → FirstIs 1 (bar 1 c ∷ bs) ↔ (c ≡ true)
one-first c bs u = (there, λ h. inl (h, refl))
  where
    there : FirstIs 1 (bar 1 c ∷ bs) → c ≡ true
    there (inl (h, e)) = h
    there (inr (h, f)) = absurd (not_first 1 bs u f)

bad-first : (row : List Board) (a : Act) → FirstIs 1 (bars row a) ↔ (not (good_row row) ≡ true)
bad-first row (sample n x mv) = one-first (not (good_row row)) (bar 2 (no_board row n) ∷ reading_bars (board_at row (place_of n)) x mv) refl
bad-first row (frame bytes buffer) =
    let late = access_bars (board_at row (frame_place bytes)) (writes (byte bytes 0)) (byte bytes 1) (byte bytes 2) in
    one-first (not (good_row row)) (frame_bars bytes (length buffer) ++ (bar 2 (no_board row (board_of (byte bytes 0))) ∷ late)) refl
bad-first row (listing n buffer) = one-first (not (good_row row)) (bar 2 (no_board row n) ∷ bar 14 (ltb (length buffer / 3) (length (entries_of row n))) ∷ []) refl
bad-first row reading = one-first (not (good_row row)) [] refl
bad-first row up = one-first (not (good_row row)) [] refl

-- ---- an act in its board's log

entered-is : (logs : List Log) → length logs ≤ 16 → (n : ℕ) → ¬ NoBoard logs n → (e : Entry) → joins logs (place_of n) e ≡ entered logs n e
entered-is logs few zero there e = absurd (there (inl (omega arith)))
entered-is logs few (suc at) there e =
    let placed : place_of (suc at) ≡ suc at - 1 = rw (ne_eqb (suc at) 0 (λ z. omega arith)) in
    ap (λ (l : Log). set logs (place_of (suc at)) (joined l e)) (log-of logs few (suc at)) ∙ ap (λ (k : ℕ). set logs k (joined (log_at logs at) e)) placed

module _ (logs : List Log) (fine : ¬ NoStack (plans_of logs)) where
  abbrev few : length logs ≤ 16
  few = few-boards logs fine

  none_first : (a : Act) → NoneOf (rules logs a) → first (bars (row_given logs) a) ≡ 0
  none_first a none-holds = is_none (bars (row_given logs) a) ((none-same (bars (row_given logs) a) (rules logs a) (act-rows logs few a)).1 none-holds)

  act-enters : (a : Act) (n : ℕ) (e : Entry) → ActOf n e a → NoneOf (rules logs a) → taken logs a ≡ entered logs n e
  act-enters (sample m x mv) n e (is, entry) none-holds =
      rw (none_first (sample m x mv) none-holds, is, ← entry) (entered-is logs few n (rw is at none-holds.1.0) e)
  act-enters (frame bytes buffer) n e (is, entry) none-holds =
      rw (none_first (frame bytes buffer) none-holds, named n (byte bytes 0) is, ← entry)
      (entered-is logs few n (λ none. none-holds.1.1.1.1.0 (n, is, none)) e)
  act-enters (listing m buffer) n e is none-holds = absurd is
  act-enters reading n e is none-holds = absurd is
  act-enters up n e is none-holds = absurd is

  act-leaves : (a : Act) (n : ℕ) → 0 < n → FirstOf n (rules logs a) → taken logs a ≡ logs
  act-leaves a n p f =
      left a (is-first (bars (row_given logs) a) n ((first-same (bars (row_given logs) a) (rules logs a) (act-rows logs few a) n).1 f))
    where
      left : (a : Act) → first (bars (row_given logs) a) ≡ n → taken logs a ≡ logs
      left (sample m x mv) e = kept-old (bars (row_given logs) (sample m x mv)) n p e logs _
      left (frame bytes buffer) e = kept-old (bars (row_given logs) (frame bytes buffer)) n p e logs _
      left (listing m buffer) e = refl
      left reading e = refl
      left up e = refl

-- ---- refused by the paper's table

pub opens-so : (plans : List ℕ) → ¬ NoStack (plans_by plans) → opens plans ≡ true
opens-so plans fine = rw (eq-eqb (length plans) (length plans) refl, (asks-no (bad_count (length plans) || not (good_plans plans)) (numbers-ask plans)).1 fine)

act_by : (plans : List ℕ) → ¬ NoStack (plans_by plans) → (acts : List Act) (a : Act)
    → ByRules (rules (final taken (begun plans) acts) a) (outcome (final next (opened_row plans) acts) a).said
act_by plans fine acts a =
    let logs = final taken (begun plans) acts in
    let row = row_given logs in
    let plans-are : plans_by plans ≡ plans_of logs = sym (final-plans (begun plans) acts ∙ begun-plans plans) in
    subst (λ (r : List Board). ByRules (rules logs a) (outcome r a).said) (sym (demand2 plans (opens-so plans fine) acts).1)
    (by-rules (bars row a) (rules logs a) (outcome row a).said (act-rows logs (few-boards logs (subst (λ (c : List Plan). ¬ NoStack c) plans-are fine)) a) ((demand1 row).by-table a))

pub refused-by-paper : RefusedByPaper
refused-by-paper =
    record {
      opening = λ row plans. by-rules (open_bars (length row) plans) (opening_rules (length row) plans) (opening_said (open_answer row plans)) (same-table.opening (length row) plans) (demand1-opening row plans).by-table;
      handed-in = λ row a. Iff.trans (((demand1 row).by-table a).refused 1 (omega arith)) (Iff.trans (bad-first row a) (row-ask row));
      act = act_by;
      enters = act-enters;
      leaves = act-leaves;
    }
