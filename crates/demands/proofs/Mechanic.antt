-- What a mechanic would ask of the library after any opening and any acts, answered.
-- Assumes nothing.
use Prim.Native.Nat.{ℕ, ◌+◌, ◌/◌, ◌%◌, ◌<◌, ◌≤◌}
use native.Mathlib.Omega.{arith}
use mathlib.Core.Path.{◌≡◌, refl, sym, ap, ◌∙◌, subst}
use mathlib.Core.Logic.{◌⊎◌, inl, inr, ◌↔◌}
use mathlib.Core.Bool.{Bool, true, false, true≢false, cond, not, ◌&&◌, ◌||◌, and-false, or-true}
use mathlib.Core.List.{List, [], ◌∷◌}
use mathlib.Core.Option.{Option, some, none}
use lib.Dec.{leb, ltb, eqb}
use lib.ListN.{length, set, length-set, get_or-eq_default}
use lib.Seq.{set-get_or, get_or-set_same, get_or-set_other}
use borrow.Author.Tests.{leb-true, le-leb, lt-ltb, eq-eqb, ne_eqb, eqb-true, eqb-false, ltb-true, ltb-false}
use Rattle.refusal.specs.Said.{Said, Bar, accepts, refuses, first}
use Rattle.lists.proofs.Split.{split, both, not_yes}
use Rattle.settings.specs.Bytes.{same}
use Rattle.settings.specs.Levels.{crossed}
use Rattle.settings.proofs.Laws.{same-yes}
use Rattle.settings.specs.Faults.{Fault, SCD, OCD, OV, UV, OT, delay}
use Rattle.runs.specs.Run.{past}
use Rattle.latches.specs.Latches.{latch, latches_of, latch_next}
use Rattle.latches.proofs.Packed.{latches-kept, latch-of}
use Rattle.board.specs.declared.Board.{Board}
use Rattle.board.specs.declared.Readings.{Readings}
use Rattle.board.specs.Plan.{is_garden}
use Rattle.board.specs.Host.{holds_on}
use Rattle.board.specs.Sample.{fresh}
use Rattle.frame.specs.Frame.{byte, writes}
use Rattle.frame.specs.Reply.{reply_bytes}
use Rattle.registers.specs.Registers.{board_after}
use Rattle.registers.proofs.Map.{read-setting}
use Rattle.stack.specs.Row.{good_row, place_of}
use Rattle.stack.specs.Frame.{frame_place, frame_row}
use Rattle.demands.specs.Paper.{sampled, History, programming, staged, working, spent, sample_of, run_of, stood_delay, places, stands, lets_go, clears, counted, Filter, count_at, trips, counting, back_at, recovers, recovering, filter, latched, latches_at, tallied}
use Rattle.demands.specs.Acts.{Act, sample, frame, listing, reading, up, Outcome, bars, outcome, next, final}
use Rattle.demands.specs.Demands.{Log, no_log, begun, log_at, joined, row_given, frame_entry, joins, taken, shown_given, frame_says}
use Rattle.demands.specs.Mechanic.{Stood, bit_of, is_latched, Accepted, Answers, Mechanic}
use Rattle.demands.proofs.Lists.{some_at, some-yes}
use Rattle.demands.proofs.Table.{judged-number, stays, values, act-judged, demand1}
use Rattle.demands.proofs.Tells.{board-at, sample-joins, tells, gives}
use Rattle.demands.proofs.Demanded.{demand2, final-good}
use Rattle.demands.proofs.Cycles.{uncrossed}
use Rattle.demands.proofs.Filtered.{garden-latched}
use Rattle.demands.proofs.Turns.{never-latched, calm-never}

-- ---- a condition that has stood its delay

-- a run has stood a delay exactly if there is one that is longer, or there is one and the delay is zero
past-yes : (d : ℕ) (o : Option ℕ) → past d o ≡ true → (t : ℕ) × (o ≡ some t) × ((d < t) ⊎ (d ≡ 0))
past-yes d none e = absurd (true≢false (sym e))
past-yes d (some t) e = split (eqb d 0) (λ z. (t, refl, inr (eqb-true d 0 z))) (λ z. (t, refl, inl (ltb-true d t (rw z at e))))

is-past : (d : ℕ) (o : Option ℕ) (t : ℕ) → o ≡ some t → (d < t) ⊎ (d ≡ 0) → past d o ≡ true
is-past d o t e (inl longer) = ap (past d) e ∙ rw (lt-ltb d t longer) (or-true (eqb d 0))
is-past d o t e (inr zero) = ap (past d) e ∙ rw (eq-eqb d 0 zero)

stood : (n : ℕ) (f : Fault) (h : History) → (stands n f h ≡ true) ↔ Stood n f h
stood n f h = (
  λ e.
      let there = some_at (places f n) (λ k. stood_delay f k h) e in
      let long = past-yes (delay f (working h)) (run_of f there.0 h) there.2 in
      (there.0, there.1, long.0, long.1, long.2),
  λ (k, p, t, e, q). some-yes (places f n) (λ k. stood_delay f k h) k p (is-past (delay f (working h)) (run_of f k h) t e q),
)

-- ---- the library

not-true : (b : Bool) → (not b ≡ false) ↔ (b ≡ true)
not-true true = (λ e. refl, λ e. refl)
not-true false = (λ e. absurd (true≢false e), λ e. absurd (true≢false (sym e)))

-- a refusal is given only if a row of its number holds
abbrev holds_of : ℕ → List Bar → Bool
holds_of n [] = false
holds_of n (b ∷ rows) = (eqb b.number n && b.when) || holds_of n rows

given_holds : (n : ℕ) (rows : List Bar) → 0 < n → first rows ≡ n → holds_of n rows ≡ true
given_holds n [] p e = absurd (omega arith)
given_holds n (b ∷ rows) p e =
    split b.when
    (λ h. let is : b.number ≡ n = rw h at e in rw (h, eq-eqb b.number n is))
    (λ h. rw h (later (eqb b.number n) (given_holds n rows p (rw h at e))))
  where
    later : (t : Bool) → holds_of n rows ≡ true → ((t && false) || holds_of n rows) ≡ true
    later true r = r
    later false r = r

module _ (logs : List Log) (good : good_row (row_given logs) ≡ true) (fine : (at : ℕ) → crossed (working (log_at logs at).acts) ≡ false) where
  abbrev row : List Board
  row = row_given logs

  -- a latch of the record is a latch of the history
  abbrev latched_of : Fault → Log → Bool
  latched_of f l = latched l.plan f l.acts

  latched-in : (f : Fault) (logs : List Log) (at : ℕ) → is_latched f (row_given logs) at ≡ latched_of f (log_at logs at)
  latched-in f logs at =
      let l = log_at logs at in
      ap (λ (b : Board). latch f (latches_of b.latches)) (board-at logs at)
      ∙ ap (latch f) (latches-kept (latches_at l.plan l.acts))
      ∙ latch-of f (λ f. latched_of f l)

  clear_of : (a : Act) → Accepted row a → eqb (first (bars row a)) 0 ≡ true
  clear_of a e =
      let none-given : first (bars row a) ≡ 0 = sym (judged-number (bars row a) (values row a)) ∙ ap (λ (s : Said). s.number) (sym (act-judged row a)) ∙ e in
      eq-eqb (first (bars row a)) 0 none-given

  module _ (f : Fault) (n : ℕ) (x : Readings) (mv : List ℕ) (taken_in : Accepted row (sample n x mv)) where
    abbrev l : Log
    l = log_at logs (place_of n)

    abbrev stood_now : Bool
    stood_now = stands l.plan.cells f (sampled x mv ∷ l.acts)

    abbrev goes_now : Bool
    goes_now = not (holds_on l.plan.kind f) && lets_go l.plan.cells f (working l.acts) (sample_of x mv)

    after : is_latched f (next row (sample n x mv)) (place_of n) ≡ latched l.plan f (sampled x mv ∷ l.acts)
    after =
        ap (λ (r : List Board). is_latched f r (place_of n)) (gives logs (sample n x mv))
        ∙ latched-in f (taken logs (sample n x mv)) (place_of n)
        ∙ ap (latched_of f) (sample-joins logs n x mv (clear_of (sample n x mv) taken_in))

    -- ---- a garden board, by its counts

    module _ (g : is_garden l.plan.kind ≡ true) (c : counted f ≡ true) where
      abbrev held : Filter
      held = filter l.plan f l.acts

      by-filter : (h : History) → latched l.plan f h ≡ (filter l.plan f h).latched
      by-filter h = garden-latched l.plan g f h ∙ ap (λ (t : Bool). t && (filter l.plan f h).latched) c

      held_was : (t : Bool) → is_latched f row (place_of n) ≡ t → held.latched ≡ t
      held_was t e = sym (by-filter l.acts) ∙ sym (latched-in f logs (place_of n)) ∙ e

      held_after : (t : Bool) → is_latched f row (place_of n) ≡ t → is_latched f (next row (sample n x mv)) (place_of n)
          ≡ cond t (not (recovers l.plan f held (sample_of x mv))) (trips l.plan f held (sample_of x mv))
      held_after t e = after ∙ by-filter (sampled x mv ∷ l.acts) ∙ rw (held_was t e) (either t)
        where
          either : (t : Bool) → (cond t (recovering l.plan f held (sample_of x mv)) (counting l.plan f held (sample_of x mv))).latched
              ≡ cond t (not (recovers l.plan f held (sample_of x mv))) (trips l.plan f held (sample_of x mv))
          either true = refl
          either false = refl

      counts-when : is_latched f row (place_of n) ≡ false → (is_latched f (next row (sample n x mv)) (place_of n) ≡ true)
          ↔ ((k : ℕ) × (k < l.plan.cells) × (l.plan.trigger ≤ count_at l.plan f held (sample_of x mv) k))
      counts-when e =
          let at : ℕ → Bool = λ k. leb l.plan.trigger (count_at l.plan f held (sample_of x mv) k) in (
            λ h. let there = some_at l.plan.cells at (sym (held_after false e) ∙ h) in (there.0, there.1, leb-true l.plan.trigger _ there.2),
            λ (k, q, long). held_after false e ∙ some-yes l.plan.cells at k q (le-leb l.plan.trigger _ long),
          )

      counts-free : is_latched f row (place_of n) ≡ true → (is_latched f (next row (sample n x mv)) (place_of n) ≡ false)
          ↔ (l.plan.trigger ≤ back_at l.plan f held (sample_of x mv))
      counts-free e =
          let goes = not-true (recovers l.plan f held (sample_of x mv)) in (
            λ h. leb-true l.plan.trigger _ (goes.0 (sym (held_after true e) ∙ h)),
            λ long. held_after true e ∙ goes.1 (le-leb l.plan.trigger _ long),
          )

    -- ---- any other, by its runs

    module _ (g : is_garden l.plan.kind ≡ false) where
      was : (t : Bool) → is_latched f row (place_of n) ≡ t → is_latched f (next row (sample n x mv)) (place_of n) ≡ latch_next t stood_now goes_now
      was t e =
          after
          ∙ ap (λ (b : Bool). cond b (counted f && (filter l.plan f (sampled x mv ∷ l.acts)).latched) (latch_next (latched_of f l) stood_now goes_now)) g
          ∙ ap (λ (b : Bool). latch_next b stood_now goes_now) (sym (latched-in f logs (place_of n)) ∙ e)

      latches-when : is_latched f row (place_of n) ≡ false → (is_latched f (next row (sample n x mv)) (place_of n) ≡ true) ↔ Stood l.plan.cells f (sampled x mv ∷ l.acts)
      latches-when e =
          let both = stood l.plan.cells f (sampled x mv ∷ l.acts) in
          (λ h. both.0 (sym (was false e) ∙ h), λ s. was false e ∙ both.1 s)

      lets-go-when : is_latched f row (place_of n) ≡ true → (is_latched f (next row (sample n x mv)) (place_of n) ≡ false)
          ↔ ((holds_on l.plan.kind f ≡ false) × (lets_go l.plan.cells f (working l.acts) (sample_of x mv) ≡ true))
      lets-go-when e =
          let goes = not-true goes_now in
          let holds = holds_on l.plan.kind f in
          let freed = lets_go l.plan.cells f (working l.acts) (sample_of x mv) in (
            λ h. let so = both (not holds) freed (goes.0 (sym (was true e) ∙ h)) in (not_yes holds so.0, so.1),
            λ (loose, free). was true e ∙ goes.1 (rw (loose, free)),
          )

  accepted-of : (a : Act) → eqb (first (bars row a)) 0 ≡ true → Accepted row a
  accepted-of a e = ap (λ (s : Said). s.number) (act-judged row a) ∙ judged-number (bars row a) (values row a) ∙ eqb-true (first (bars row a)) 0 e

  -- ---- a frame: the latches of the board that it names, and of any other

  module _ (f : Fault) (bytes buffer : List ℕ) (at : ℕ) where
    abbrev sends : Act
    sends = frame bytes buffer

    abbrev fp : ℕ
    fp = frame_place bytes

    abbrev mine : Log
    mine = log_at logs at

    abbrev cleared : Bool
    cleared = clears mine.plan f (frame_entry bytes) mine.acts

    frame-after : (t : Bool) → eqb (first (bars row sends)) 0 ≡ t → is_latched f (next row sends) at ≡ latched_of f (log_at (cond t (joins logs fp (frame_entry bytes)) logs) at)
    frame-after t e =
        ap (λ (r : List Board). is_latched f r at) (gives logs sends)
        ∙ latched-in f (taken logs sends) at
        ∙ ap (λ (t : Bool). latched_of f (log_at (cond t (joins logs fp (frame_entry bytes)) logs) at)) e

    frame_refused : eqb (first (bars row sends)) 0 ≡ false → is_latched f (next row sends) at ≡ is_latched f row at
    frame_refused e = frame-after false e ∙ sym (latched-in f logs at)

    frame-elsewhere : eqb (first (bars row sends)) 0 ≡ true → eqb at fp ≡ false → is_latched f (next row sends) at ≡ is_latched f row at
    frame-elsewhere e o =
        frame-after true e
        ∙ ap (latched_of f) (get_or-set_other logs fp at (joined (log_at logs fp) (frame_entry bytes)) no_log (eqb-false at fp o))
        ∙ sym (latched-in f logs at)

    -- past the end of the row there is no board, and so no latch
    there : is_latched f row at ≡ true → at < length logs
    there on =
        split (ltb at (length logs)) (λ e. ltb-true at (length logs) e)
        (λ e. absurd (true≢false (sym on ∙ latched-in f logs at ∙ ap (latched_of f) (get_or-eq_default logs no_log {n = at} (ltb-false at (length logs) e)))))

    frame_here : eqb (first (bars row sends)) 0 ≡ true → eqb at fp ≡ true → at < length logs → is_latched f (next row sends) at ≡ (not cleared && latched_of f mine)
    frame_here e o p =
        let is : at ≡ fp = eqb-true at fp o in
        let here = ap (λ (k : ℕ). log_at (joins logs k (frame_entry bytes)) at) (sym is) ∙ get_or-set_same logs at (joined (log_at logs at) (frame_entry bytes)) no_log p in
        frame-after true e ∙ ap (latched_of f) here

    clears-when : is_latched f row at ≡ true → (is_latched f (next row sends) at ≡ false) ↔ (Accepted row sends × (fp ≡ at) × (cleared ≡ true))
    clears-when on =
        split (eqb (first (bars row sends)) 0)
        (λ e. split (eqb at fp)
        (λ o.
        let after = frame_here e o (there on) ∙ ap (λ (t : Bool). not cleared && t) (sym (latched-in f logs at) ∙ on) in (
          λ off. (accepted-of sends e, sym (eqb-true at fp o), gone cleared (sym after ∙ off)),
          λ (a, is, c). after ∙ rw c,
        ))
        (λ o. (
          λ off. absurd (true≢false (sym on ∙ sym (frame-elsewhere e o) ∙ off)),
          λ (a, is, c). absurd (eqb-false at fp o (sym is)),
        )))
        (λ e. (
          λ off. absurd (true≢false (sym on ∙ sym (frame_refused e) ∙ off)),
          λ (a, is, c). absurd (true≢false (sym (clear_of sends a) ∙ e)),
        ))
      where
        gone : (c : Bool) → (not c && true) ≡ false → c ≡ true
        gone true e = refl
        gone false e = absurd (true≢false e)

    latches-none : is_latched f row at ≡ false → is_latched f (next row sends) at ≡ false
    latches-none off =
        split (eqb (first (bars row sends)) 0)
        (λ e. split (eqb at fp)
        (λ o. split (ltb at (length logs))
        (λ p. frame_here e o (ltb-true at (length logs) p) ∙ ap (λ (t : Bool). not cleared && t) (sym (latched-in f logs at) ∙ off) ∙ and-false (not cleared))
        (λ p. past e (ltb-false at (length logs) p)))
        (λ o. frame-elsewhere e o ∙ off))
        (λ e. frame_refused e ∙ off)
      where
        past : eqb (first (bars row sends)) 0 ≡ true → length logs ≤ at → is_latched f (next row sends) at ≡ false
        past e p =
            let other = joined (log_at logs fp) (frame_entry bytes) in
            frame-after true e ∙ ap (latched_of f) (get_or-eq_default (set logs fp other) no_log {n = at} (subst (λ (m : ℕ). m ≤ at) (sym (length-set logs fp other)) p))

    leaves-alone : mine.plan.kind ≡ 0 → is_latched f (next row sends) at ≡ is_latched f row at
    leaves-alone alone =
        split (is_latched f row at)
        (λ on. split (is_latched f (next row sends) at) (λ still. still ∙ sym on) (λ off. absurd (true≢false (sym ((clears-when on).0 off).2 ∙ not-cleared))))
        (λ off. latches-none off ∙ sym off)
      where
        not-cleared : cleared ≡ false
        not-cleared = rw alone

  module _ (bytes buffer : List ℕ) (taken_in : Accepted row (frame bytes buffer)) where
    replied : (outcome row (frame bytes buffer)).said ≡ accepts (frame_says (joined (log_at logs (frame_place bytes)) (frame_entry bytes)) bytes)
    replied = ap (λ (o : Outcome). o.said) (tells logs good (frame bytes buffer)) ∙ rw (clear_of (frame bytes buffer) taken_in)

  module _ (bytes buffer : List ℕ) (w : writes (byte bytes 0) ≡ true) (r : byte bytes 1 ≡ 11) where
    abbrev m : Log
    m = log_at logs (frame_place bytes)

    equal-leaves : same (staged m.acts) (working m.acts) ≡ true → next row (frame bytes buffer) ≡ row
    unfolding frame_row board_after
    equal-leaves e =
        split (eqb (first (bars row (frame bytes buffer))) 0)
        (λ c. rw (c, w, r, board-at logs (frame_place bytes), e) (ap (set row (frame_place bytes)) (sym (board-at logs (frame_place bytes))) ∙ set-get_or row (frame_place bytes) (fresh 0)))
        (λ c. rw c)

    -- a refusal of this number was not given
    not-given : (n : ℕ) → 0 < n → holds_of n (bars row (frame bytes buffer)) ≡ false → (outcome row (frame bytes buffer)).said ≡ refuses n → ⊥
    not-given n p holds_not s =
        let rows = bars row (frame bytes buffer) in
        let first-is : first rows ≡ n = sym (judged-number rows (values row (frame bytes buffer))) ∙ ap (λ (a : Said). a.number) (sym (act-judged row (frame bytes buffer)) ∙ s) in
        true≢false (sym (given_holds n rows p first-is) ∙ holds_not)

    never-thirteen : same (staged m.acts) (working m.acts) ≡ true → (outcome row (frame bytes buffer)).said ≡ refuses 13 → ⊥
    never-thirteen e =
        let level = ap crossed (same-yes (staged m.acts) (working m.acts) e) ∙ fine (frame_place bytes) in
        not-given 13 (omega arith) (rw (w, r, board-at logs (frame_place bytes), level))

    never-eleven : same (staged m.acts) (working m.acts) ≡ true → (outcome row (frame bytes buffer)).said ≡ refuses 11 → ⊥
    never-eleven e = not-given 11 (omega arith) (rw (w, r, board-at logs (frame_place bytes), e))

  refused-leaves : (a : Act) (n : ℕ) → 0 < n → (outcome row a).said ≡ refuses n → taken logs a ≡ logs
  refused-leaves (sample k x mv) n p e =
      let a = sample k x mv in
      stays (bars row a) (values row a) n p (sym (act-judged row a) ∙ e) logs (joins logs (place_of k) (sampled x mv))
  refused-leaves (frame bytes buffer) n p e =
      let a = frame bytes buffer in
      stays (bars row a) (values row a) n p (sym (act-judged row a) ∙ e) logs (joins logs (frame_place bytes) (frame_entry bytes))
  refused-leaves (listing k buffer) n p e = refl
  refused-leaves reading n p e = refl
  refused-leaves up n p e = refl

  -- a tally's bytes
  module _ (bytes buffer : List ℕ) (taken_in : Accepted row (frame bytes buffer)) (w : writes (byte bytes 0) ≡ false) where
    abbrev of : Fault → ℕ
    of f = let l = log_at logs (frame_place bytes) in tallied l.plan f l.acts

    low_of : (f : Fault) → byte bytes 1 ≡ 16 + bit_of f → (outcome row (frame bytes buffer)).said ≡ accepts (reply_bytes (byte bytes 0) (16 + bit_of f) (of f % 256))
    low_of SCD is = replied bytes buffer taken_in ∙ rw (w, is)
    low_of OCD is = replied bytes buffer taken_in ∙ rw (w, is)
    low_of OV is = replied bytes buffer taken_in ∙ rw (w, is)
    low_of UV is = replied bytes buffer taken_in ∙ rw (w, is)
    low_of OT is = replied bytes buffer taken_in ∙ rw (w, is)

    high-of : (f : Fault) → byte bytes 1 ≡ 24 + bit_of f → (outcome row (frame bytes buffer)).said ≡ accepts (reply_bytes (byte bytes 0) (24 + bit_of f) (of f / 256))
    high-of SCD is = replied bytes buffer taken_in ∙ rw (w, is)
    high-of OCD is = replied bytes buffer taken_in ∙ rw (w, is)
    high-of OV is = replied bytes buffer taken_in ∙ rw (w, is)
    high-of UV is = replied bytes buffer taken_in ∙ rw (w, is)
    high-of OT is = replied bytes buffer taken_in ∙ rw (w, is)

  answered : Answers row logs
  answered =
      record {
        latches = λ f n x mv g a. latches-when f n x mv a g;
        lets_go_lem = λ f n x mv g a. lets-go-when f n x mv a g;
        counts-latch = λ f n x mv g c a. counts-when f n x mv a g c;
        counts-let-go = λ f n x mv g c a. counts-free f n x mv a g c;
        counts-no-other = λ f at g c. let l = log_at logs at in latched-in f logs at ∙ garden-latched l.plan g f l.acts ∙ ap (λ (t : Bool). t && (filter l.plan f l.acts).latched) c;
        frames-latch-none = latches-none;
        frames-clear = clears-when;
        frames-leave = leaves-alone;
        no-pooling = λ f at g u. let l = log_at logs at in latched-in f logs at ∙ never-latched l.plan g f l.acts u;
        calm = λ f at g c. let l = log_at logs at in latched-in f logs at ∙ calm-never l.plan g f l.acts c;
        reads-working = λ bytes buffer a w low high.
            let r = byte bytes 1 in
            let then = joined (log_at logs (frame_place bytes)) (frame_entry bytes) in
            let byte-is = read-setting (shown_given then) r (omega (arith, high)) (ne_eqb r 0 (λ z. omega arith)) (ne_eqb r 1 (λ z. omega arith)) (ne_eqb r 11 (λ z. omega arith)) in
            replied bytes buffer a
            ∙ ap (λ (v : ℕ). accepts (reply_bytes (byte bytes 0) r (cond (programming (frame_entry bytes)) (spent then.acts) (cond (writes (byte bytes 0)) (byte bytes 2) v)))) byte-is
            ∙ rw w;
        reads-cycles = λ bytes buffer a w is. replied bytes buffer a ∙ rw (w, is);
        reads-control = λ bytes buffer a w is host. replied bytes buffer a ∙ rw (w, is, host);
        reads-low = λ f bytes buffer a w is. low_of bytes buffer a w f is;
        reads-high = λ f bytes buffer a w is. high-of bytes buffer a w f is;
        equal-programming = λ bytes buffer w r e. (equal-leaves bytes buffer w r e, never-thirteen bytes buffer w r e, never-eleven bytes buffer w r e);
        never-crossed = fine;
        refused = λ a n p e. let same = (demand1 row).unchanged a n p e in (same.0, same.1, refused-leaves a n p e);
        reading-accepted = ap (λ (o : Outcome). o.said.number) (tells logs good reading);
        up-accepted = ap (λ (o : Outcome). o.said.number) (tells logs good up);
      }

pub mechanic : Mechanic
mechanic plans e acts =
    let logs = final taken (begun plans) acts in
    subst (λ (r : List Board). Answers r logs) (sym (demand2 plans e acts).1) (answered logs (final-good plans e acts) (uncrossed plans acts))
