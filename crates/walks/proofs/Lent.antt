-- A `&mut [T]` that is lent on for one call: one element as a `&mut T`, the whole row as a `&[T]`, or the whole row as a `&mut [T]`. And a `&mut T` whose record is read and stored.
-- Assumes nothing.
--     lent-as, elem    a row under another name and with other elements, and an element of it
--     opens_row, shuts-row     [the token; the row] to [its elements; the open borrow], and back at other elements
--     lends-elem, elem-home     the element at i is lent for a new lifetime, and comes home with what the callee left in it
--     shows-row, row-home       the row is shown for a new lifetime, and comes home as it was
--     lends_row, lent-home      the row is lent as a `&mut [T]` for a new lifetime, and comes home with what the callee left in it
--     settles, settles-as     a row that is let go is seen for good as it is, or with other elements, as many
--     opens-ref        the record behind a `&mut T` is taken out.        settles-ref, shuts-ref     it is put back as the last one, and as it was for more to come.        moves-ref     another is put in its place for more to come, behind `ref-as`
-- Each lending begins with [the token; the row] and each coming home ends with them.
use mathlib.Core.Path.{◌≡◌, refl, sym, subst}
use Prim.Native.Nat.{ℕ, ◌<◌}
use mathlib.Core.List.{List, [], ◌∷◌}
use lib.ListN.{length, get_or, set, length-set}
use seplogic.Ra.Ura.{Ura}
use base.Fraction.{full_share}
use mir.Syntax.{named}
use mir.Val.{Val}
use base.Logic.{ent}
use base.Fml.{Lft, Share, GName, Fml, fsep, flft, fobs, fauth, fres, fbor, fobor, flent}
use types.Logic.{Logic, sem}
use types.Kit.{Goal, Soaks, Step, step, Item, ‵, some, later, ◌⊛◌, Seq, ◌$◌, ◌∵◌, !, qed, done, move, drop, use1, use2, use3, split, pick, fsplit, fsplit3, fjoin, fjoin3, feq_i, rewrite, await}
use types.SemTy.{Body, cells, Arr}
use types.Hole.{Holey}
use types.Share.{arr_parts}
use types.Tokens.{lft_new, lft_end, lent_back}
use denote.RattleType.{RattleType}
use denote.Laws.{Is, shows}
use denote.Memory.{mem, cell_at, part_at, shares}
use denote.Steps.{opens, closes, facts, owned}
use denote.Struct.Steps.{spelt}
use denote.Ref.{MutBor, mut_vals, as_bor}
use denote.Copied.{Copied}
use denote.Shadow.{pure_i}
use denote.Slice.{Room, mut_slice_vals, mut_slice_at, heres, coded_holeys, finally, res-finally}
use denote.Lend.{Held, lends_ref, ref_back, lends_shr_slice, lends_slice, slice_back}
use denote.Index.{place, row, others, takes, puts, whole_in, whole_out, opens_slice, closes_slice}
use Rattle.walks.proofs.Plain.{PlainType}
use Rattle.walks.proofs.Form.{shared, mut_slice, mut-ref, slice-last, ref-last}

module _ (R : RattleType) (y : MutBor (List R.Denot)) where
  -- the row under another name and with other elements, and its element at i
  abbrev pub lent-as : GName → List R.Denot → MutBor (List R.Denot)
  lent-as δ zs = record { ref_ptr = y.ref_ptr; ghost_name = δ; now = zs }

  abbrev elem_at : ℕ → ℕ
  elem_at i = place (mem R).size y.ref_ptr.1 i

  abbrev pub elem : ℕ → GName → R.Denot → MutBor R.Denot
  elem i δ h = record { ref_ptr = (y.ref_ptr.0, elem_at i); ghost_name = δ; now = h }

  abbrev elems : List R.Denot → Fml
  elems zs = row R full_share zs y.ref_ptr.0 y.ref_ptr.1

  -- the borrow while it is open, with the list that its holder sees
  abbrev Open : Lft → Share → Fml
  Open κ q =
      fsep (fobor κ q (Held R (length y.now) y.ref_ptr.0 y.ref_ptr.1 y.ghost_name)) (fsep (fobs y.ghost_name ((coded_holeys R).code (heres R y.now))) (fauth y.ghost_name ((coded_holeys R).code (heres R y.now))))

  -- what the lender keeps meanwhile
  abbrev lent-elem : ℕ → ℕ → GName → Fml
  lent-elem i ν δ = flent (ν ∷ []) (Body (mem R) y.ref_ptr.0 (elem_at i) δ)

  abbrev shown-row : ℕ → Fml
  shown-row ν = flent (ν ∷ []) ((arr_parts (shares R) (length y.now)).part full_share y.now y.ref_ptr.0 y.ref_ptr.1)

  abbrev lent_row : ℕ → GName → Fml
  lent_row ν δ = flent (ν ∷ []) (Held R (length y.now) y.ref_ptr.0 y.ref_ptr.1 δ)

  abbrev pub ElemKept : Lft → Share → ℕ → ℕ → GName → Fml
  ElemKept κ q i ν δ = fsep (lent-elem i ν δ) (fsep (others (shares R) full_share y.now i y.ref_ptr.0 y.ref_ptr.1) (Open κ q))

  abbrev pub RowKept : Lft → Share → ℕ → Fml
  RowKept κ q ν = fsep (shown-row ν) (Open κ q)

  abbrev pub LentKept : Lft → Share → ℕ → GName → Fml
  LentKept κ q ν δ = fsep (lent_row ν δ) (Open κ q)

module _ {M : Type 1} {𝓤 : Ura M} {𝓛 : Logic 𝓤} {K : Type 0} {Γ : List (Item 𝓤)} {G : Goal 𝓤 𝓛.H} (R : RattleType) (y : MutBor (List R.Denot)) where
  opens_row : K → Soaks G → {κ : Lft} {q : Share} → Step K 𝓛 (‵ (elems R y y.now) ∷ ‵ (Open R y κ q) ∷ Γ) G (‵ (flft κ q) ∷ ‵ (mut_slice R κ y) ∷ Γ) G
  opens_row t z = step (λ s. move t (1 ∷ []) $ fsplit t $ drop t $ fsplit t $ opens_slice t z R y.now y.ref_ptr.0 y.ref_ptr.1 $ move t (2 ∷ 3 ∷ []) $ fjoin t $ move t (2 ∷ 0 ∷ []) $ fjoin t $ move t (1 ∷ 0 ∷ []) $ s)

  shuts-row : K → Soaks G → {κ : Lft} {q : Share} → Room R (length y.now) → (zs : List R.Denot) → length zs ≡ length y.now
      → Step K 𝓛 (‵ (flft κ q) ∷ ‵ (mut_slice R κ (lent-as R y y.ghost_name zs)) ∷ Γ) G (‵ (elems R y zs) ∷ ‵ (Open R y κ q) ∷ Γ) G
  shuts-row t z space zs e = step (λ s.
      move t (1 ∷ []) $ fsplit t $ move t (1 ∷ []) $ fsplit t $ move t (3 ∷ 2 ∷ 0 ∷ 1 ∷ []) $ closes_slice t z R y.now zs e y.ref_ptr.0 y.ref_ptr.1 $ fjoin t $
      pure_i t (mut_slice_at R (lent-as R y y.ghost_name zs) (mut_slice_vals (lent-as R y y.ghost_name zs))) (tt, (tt, tt)) (refl, subst (Room R) (sym e) space) $ fjoin t $ move t (1 ∷ 0 ∷ []) $ s)

  pub settles : K → (κ : Lft) → Step K 𝓛 (‵ (slice-last R κ y y.now) ∷ Γ) G (‵ (mut_slice R κ y) ∷ Γ) G
  settles t κ = step (λ s.
      fsplit t $ drop t $ fsplit t $ use1 𝓛 (‵ (fres y.ghost_name ((coded_holeys R).code (heres R y.now)))) (𝓛.names.obs-res y.ghost_name ((coded_holeys R).code (heres R y.now))) $
      use1 𝓛 (‵ (finally R y.ghost_name y.now)) (res-finally 𝓛 (named 0) κ R y.ghost_name y.now) $ fjoin t $ s)

module _ {M : Type 1} {𝓤 : Ura M} {𝓛 : Logic 𝓤} {K : Type 0} {Γ : List (Item 𝓤)} {G : Goal 𝓤 𝓛.H} (R : RattleType) (y : MutBor (List R.Denot)) where
  -- the same of the row with other elements, as many
  pub settles-as : K → (κ : Lft) (zs : List R.Denot) → length zs ≡ length y.now → Step K 𝓛 (‵ (slice-last R κ y zs) ∷ Γ) G (‵ (mut_slice R κ (lent-as R y y.ghost_name zs)) ∷ Γ) G
  settles-as t κ zs e = step (λ s.
      settles R (lent-as R y y.ghost_name zs) t κ $
      rewrite t 0 (λ (m : ℕ). ‵ (fsep (finally R y.ghost_name zs) (fbor κ (Body (Arr (Holey (mem R)) m) y.ref_ptr.0 y.ref_ptr.1 y.ghost_name)))) e refl $ s)

  pub lends-elem : K → Soaks G → {κ : Lft} {q : Share} (i : ℕ) (none : R.Denot) → i < length y.now
      → ((ν : ℕ) (δ : GName) → Seq K 𝓛 (‵ (flft (ν ∷ []) full_share) ∷ ‵ (mut-ref R (ν ∷ []) (elem R y i δ (get_or y.now i none))) ∷ ‵ (ElemKept R y κ q i ν δ) ∷ Γ) G) → Seq K 𝓛 (‵ (flft κ q) ∷ ‵ (mut_slice R κ y) ∷ Γ) G
  lends-elem t z i none l k =
      let h = get_or y.now i none in
      opens_row R y t z $ use1 𝓛 (‵ (part_at R full_share h y.ref_ptr.0 (elem_at R y i)) ⊛ ‵ (others (shares R) full_share y.now i y.ref_ptr.0 y.ref_ptr.1)) (takes (shares R) full_share 𝓛 y.now i none y.ref_ptr.0 y.ref_ptr.1 l) $
      split t $ move t (1 ∷ 2 ∷ []) $ fjoin t $ lft_new t z (λ ν. move t (2 ∷ []) $
      use1 𝓛 (later (some (λ (δ : GName). ‵ (mut-ref R (ν ∷ []) (elem R y i δ h)) ⊛ ‵ (lent-elem R y i ν δ)))) (lends_ref 𝓛 R (named 0) (ν ∷ []) h y.ref_ptr.0 (elem_at R y i)) $ await t z $ pick t (λ δ. split t $
      -- [the element's reference; the lender's part; the new token; the others and the open borrow]
      move t (1 ∷ 3 ∷ []) $ fjoin t $ move t (2 ∷ 1 ∷ 0 ∷ []) $ k ν δ))

  pub elem-home : K → Soaks G → {κ : Lft} {q : Share} (i ν : ℕ) (δ : GName) (h : R.Denot) → i < length y.now → Room R (length y.now)
      → Step K 𝓛 (‵ (flft κ q) ∷ ‵ (mut_slice R κ (lent-as R y y.ghost_name (set y.now i h))) ∷ Γ) G (‵ (flft (ν ∷ []) full_share) ∷ ‵ (ref-last R (ν ∷ []) (elem R y i δ h) h) ∷ ‵ (ElemKept R y κ q i ν δ) ∷ Γ) G
  elem-home t z i ν δ h l space = step (λ s.
      lft_end t z $ move t (1 ∷ []) $ fsplit t $ move t (1 ∷ []) $ drop t $ move t (1 ∷ 0 ∷ []) $ move t (2 ∷ []) $ fsplit t $ move t (2 ∷ 0 ∷ 3 ∷ []) $ use3 𝓛 (later (‵ ((mem R).own_at h y.ref_ptr.0 (elem_at R y i)))) (ref_back 𝓛 R (ν ∷ []) δ h y.ref_ptr.0 (elem_at R y i)) $ await t z $ move t (1 ∷ []) $ fsplit t $ move t (2 ∷ 0 ∷ []) $
      use2 𝓛 (‵ (elems R y (set y.now i h))) (puts (shares R) full_share 𝓛 y.now i h y.ref_ptr.0 y.ref_ptr.1 l) $ shuts-row R y t z space (set y.now i h) (length-set y.now i h) $ s)

  pub shows-row : K → Soaks G → {κ : Lft} {q : Share} → Copied 𝓛 R → Room R (length y.now)
      → ((ν : ℕ) → Seq K 𝓛 (‵ (flft (ν ∷ []) full_share) ∷ ‵ (shared R (ν ∷ []) (as_bor y)) ∷ ‵ (RowKept R y κ q ν) ∷ Γ) G) → Seq K 𝓛 (‵ (flft κ q) ∷ ‵ (mut_slice R κ y) ∷ Γ) G
  shows-row t z c space k =
      opens_row R y t z $ feq_i t ℕ (length y.now) (length y.now) refl $ fjoin t $ lft_new t z (λ ν. move t (1 ∷ 0 ∷ []) $
      use2 𝓛 (later ((‵ (shared R (ν ∷ []) (as_bor y)) ⊛ ‵ (shown-row R y ν)) ⊛ ‵ (flft (ν ∷ []) full_share)))
      (lends_shr_slice 𝓛 R (named 0) (ν ∷ []) full_share y.now y.ref_ptr.0 y.ref_ptr.1 space (ν ∷ []) (c.shares full_share (ν ∷ [])) ((ν ∷ [], full_share) ∷ []) (λ x m. m) (λ x m. m)) $ await t z $ split t $ split t $
      -- [the slice; the lender's part; the new token; the open borrow]
      move t (1 ∷ 3 ∷ []) $ fjoin t $ move t (2 ∷ 1 ∷ 0 ∷ []) $ k ν)

  pub row-home : K → Soaks G → {κ : Lft} {q : Share} → Room R (length y.now) → (ν : ℕ)
      → Step K 𝓛 (‵ (flft κ q) ∷ ‵ (mut_slice R κ y) ∷ Γ) G (‵ (flft (ν ∷ []) full_share) ∷ ‵ (shared R (ν ∷ []) (as_bor y)) ∷ ‵ (RowKept R y κ q ν) ∷ Γ) G
  row-home t z space ν = step (λ s. lft_end t z $ move t (1 ∷ []) $ drop t $ move t (1 ∷ []) $ fsplit t $ move t (2 ∷ 0 ∷ []) $ lent_back t z $ fsplit t $ drop t $ shuts-row R y t z space y.now refl $ s)

  pub lends_row : K → Soaks G → {κ : Lft} {q : Share} → Room R (length y.now)
      → ((ν : ℕ) (δ : GName) → Seq K 𝓛 (‵ (flft (ν ∷ []) full_share) ∷ ‵ (mut_slice R (ν ∷ []) (lent-as R y δ y.now)) ∷ ‵ (LentKept R y κ q ν δ) ∷ Γ) G) → Seq K 𝓛 (‵ (flft κ q) ∷ ‵ (mut_slice R κ y) ∷ Γ) G
  lends_row t z space k =
      opens_row R y t z $ use1 𝓛 (‵ (cells (mem R) y.now y.ref_ptr.0 y.ref_ptr.1)) (whole_in 𝓛 R y.now y.ref_ptr.0 y.ref_ptr.1) $ lft_new t z (λ ν. move t (1 ∷ []) $
      use1 𝓛 (later (some (λ (δ : GName). ‵ (mut_slice R (ν ∷ []) (lent-as R y δ y.now)) ⊛ ‵ (lent_row R y ν δ)))) (lends_slice 𝓛 R (named 0) (ν ∷ []) y.now y.ref_ptr.0 y.ref_ptr.1 space) $ await t z $ pick t (λ δ. split t $
      -- [the row; the lender's part; the new token; the open borrow]
      move t (1 ∷ 3 ∷ []) $ fjoin t $ move t (2 ∷ 1 ∷ 0 ∷ []) $ k ν δ))

  pub lent-home : K → Soaks G → {κ : Lft} {q : Share} → Room R (length y.now) → (ν : ℕ) (δ : GName) (zs : List R.Denot) → length zs ≡ length y.now
      → Step K 𝓛 (‵ (flft κ q) ∷ ‵ (mut_slice R κ (lent-as R y y.ghost_name zs)) ∷ Γ) G (‵ (flft (ν ∷ []) full_share) ∷ ‵ (slice-last R (ν ∷ []) (lent-as R y δ y.now) zs) ∷ ‵ (LentKept R y κ q ν δ) ∷ Γ) G
  lent-home t z space ν δ zs e = step (λ s.
      lft_end t z $ move t (1 ∷ []) $ fsplit t $ move t (1 ∷ []) $ drop t $ move t (1 ∷ 0 ∷ []) $ move t (2 ∷ []) $ fsplit t $ move t (2 ∷ 0 ∷ 3 ∷ []) $ use3 𝓛 (later (‵ ((Arr (mem R) (length y.now)).own_at zs y.ref_ptr.0 y.ref_ptr.1))) (slice_back 𝓛 R (ν ∷ []) δ zs (length y.now) y.ref_ptr.0 y.ref_ptr.1) $ await t z $ fsplit t $ drop t $
      use1 𝓛 (‵ (elems R y zs)) (whole_out 𝓛 R zs y.ref_ptr.0 y.ref_ptr.1) $ shuts-row R y t z space zs e $ s)

-- the same of a row and of a reference as they stand
module _ {M : Type 1} {𝓤 : Ura M} (𝓛 : Logic 𝓤) (R : RattleType) where
  pub seen-row : (y : MutBor (List R.Denot)) (κ : Lft) → ent 𝓤 (sem 𝓛 (mut_slice R κ y)) (sem 𝓛 (slice-last R κ y y.now))
  seen-row y κ = qed 𝓛 (‵ (mut_slice R κ y) ∷ []) ∵ settles R y ! κ $ done !

  pub seen_ref : (y : MutBor R.Denot) (κ : Lft) → ent 𝓤 (sem 𝓛 (mut-ref R κ y)) (sem 𝓛 (ref-last R κ y y.now))
  seen_ref y κ = qed 𝓛 (‵ (mut-ref R κ y) ∷ []) ∵ fsplit3 ! $ drop ! $ use1 𝓛 (‵ (fres y.ghost_name (R.coded.code y.now))) (𝓛.names.obs-res y.ghost_name (R.coded.code y.now)) $ fjoin ! $ done !

-- ---- the record behind a `&mut T`, at its machine value
abbrev OpenRef : (R : RattleType) → MutBor R.Denot → Lft → Share → Fml
OpenRef R y κ q = fsep (fobor κ q (Body (mem R) y.ref_ptr.0 y.ref_ptr.1 y.ghost_name)) (fsep (fobs y.ghost_name (R.coded.code y.now)) (fauth y.ghost_name (R.coded.code y.now)))

-- the reference with another record behind it
abbrev pub ref-as : (R : RattleType) → MutBor R.Denot → R.Denot → MutBor R.Denot
ref-as R y h = record { ref_ptr = y.ref_ptr; ghost_name = y.ghost_name; now = h }

abbrev pub held_at : (R : RattleType) → MutBor R.Denot → Val → Fml
held_at R y v = cell_at full_share R.mir (v ∷ []) y.ref_ptr.0 y.ref_ptr.1

module _ {M : Type 1} {𝓤 : Ura M} {𝓛 : Logic 𝓤} {K : Type 0} {Γ : List (Item 𝓤)} {G : Goal 𝓤 𝓛.H} (R : RattleType) (P : PlainType 𝓛 R) (y : MutBor R.Denot) where
  pub opens-ref : K → Soaks G → {κ : Lft} {q : Share} → (Is R y.now (P.val y.now ∷ []) → Seq K 𝓛 (‵ (held_at R y (P.val y.now)) ∷ ‵ (OpenRef R y κ q) ∷ Γ) G) → Seq K 𝓛 (‵ (flft κ q) ∷ ‵ (mut-ref R κ y) ∷ Γ) G
  opens-ref t z k =
      move t (1 ∷ []) $ fsplit3 t $ drop t $ opens t z R {h = y.now} y.ref_ptr.0 y.ref_ptr.1 (λ vs. spelt t R (Is R) (shows 𝓛 R) (λ x. P.val x ∷ []) P.tells full_share y.now vs y.ref_ptr.0 y.ref_ptr.1 $
      -- [the cell; what the record owns; the open borrow; what is seen; what is said]
      move t (3 ∷ 4 ∷ []) $ fjoin t $ move t (3 ∷ 0 ∷ []) $ fjoin t $ move t (2 ∷ []) $ facts t R (Is R) (shows 𝓛 R) y.now (P.val y.now ∷ []) (λ g. move t (1 ∷ []) $ k g))

  -- the cell is put back, with what the record owns made anew of the relation: [what is seen; the borrow; the token]
  closes-ref : K → Soaks G → {κ : Lft} {q : Share} (h : R.Denot) → Is R h (P.val h ∷ [])
      → Step K 𝓛 (‵ (fobs y.ghost_name (R.coded.code h)) ∷ ‵ (fbor κ (Body (mem R) y.ref_ptr.0 y.ref_ptr.1 y.ghost_name)) ∷ ‵ (flft κ q) ∷ Γ) G (‵ (held_at R y (P.val h)) ∷ ‵ (OpenRef R y κ q) ∷ Γ) G
  closes-ref t z h g = step (λ s.
      move t (1 ∷ []) $ fsplit t $ move t (1 ∷ []) $ fsplit t $ owned t R (Is R) P.makes h (P.val h ∷ []) g $ move t (4 ∷ 0 ∷ 3 ∷ 1 ∷ 2 ∷ []) $ closes t z R h (P.val h ∷ []) y.ref_ptr.0 y.ref_ptr.1 $ s)

  pub settles-ref : K → Soaks G → {κ : Lft} {q : Share} (h : R.Denot) → Is R h (P.val h ∷ [])
      → Step K 𝓛 (‵ (flft κ q) ∷ ‵ (ref-last R κ y h) ∷ Γ) G (‵ (held_at R y (P.val h)) ∷ ‵ (OpenRef R y κ q) ∷ Γ) G
  settles-ref t z h g = step (λ s.
      closes-ref t z h g $ use1 𝓛 (‵ (fres y.ghost_name (R.coded.code h))) (𝓛.names.obs-res y.ghost_name (R.coded.code h)) $ fjoin t $ move t (1 ∷ 0 ∷ []) $ s)

  pub shuts-ref : K → Soaks G → {κ : Lft} {q : Share} → Is R y.now (P.val y.now ∷ []) → Step K 𝓛 (‵ (flft κ q) ∷ ‵ (mut-ref R κ y) ∷ Γ) G (‵ (held_at R y (P.val y.now)) ∷ ‵ (OpenRef R y κ q) ∷ Γ) G
  shuts-ref t z g = step (λ s. closes-ref t z y.now g $ feq_i t (List Val) (mut_vals y) (mut_vals y) refl $ fjoin3 t $ move t (1 ∷ 0 ∷ []) $ s)

  pub moves-ref : K → Soaks G → {κ : Lft} {q : Share} (h : R.Denot) → Is R h (P.val h ∷ []) → Step K 𝓛 (‵ (flft κ q) ∷ ‵ (mut-ref R κ (ref-as R y h)) ∷ Γ) G (‵ (held_at R y (P.val h)) ∷ ‵ (OpenRef R y κ q) ∷ Γ) G
  moves-ref t z h g = step (λ s. closes-ref t z h g $ feq_i t (List Val) (mut_vals y) (mut_vals y) refl $ fjoin3 t $ move t (1 ∷ 0 ∷ []) $ s)
