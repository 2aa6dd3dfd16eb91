-- The forms of function that several shapes call or have themselves, and steps for calls of the simplest.
-- Assumes nothing.
--     a-value          fn no() -> O                                                        says r ≡ z
--     of_one           fn h(x: X) -> O                                                     says r ≡ F x
--     of_two           fn h(x: X, y: Y) -> O                                               says r ≡ F x y
--     on_one           fn f(b: &mut R, x: X) -> O                                          says OneTold: (r ≡ F b x) × (b' ≡ G b x)
--     on-record        fn f(b: &mut R, x: X, cells: &[E]) -> O                             says RecordTold: (r ≡ F b x cells) × (b' ≡ G b x cells)
--     on-found         fn f(b: &mut R, x: X, z: Z, cells: &[E]) -> O                       says FoundTold: (r ≡ F b x z cells) × (b' ≡ G b x z cells)
--     of-slice         fn f(row: &[R]) -> O                                                says r ≡ F row
--     on_row           fn f(row: &mut [R], x: X) -> O                                      says Told: (r ≡ F row x) × (row' ≡ B row x)
--     on-cells         fn f(row: &mut [R], n: N, x: X, cells: &[E]) -> O                   says CellsTold: (r ≡ F row n x cells) × (row' ≡ B row n x cells)
--     on-frame         fn f(row: &mut [R], bytes: &[E], reply: &mut [G]) -> O              says FrameTold: (r ≡ F ..) × ((row' ≡ B ..) × (reply' ≡ C ..))
--     on_list          fn f(row: &[R], n: N, out: &mut [G]) -> O                           says ListTold: (r ≡ F row n out) × (out' ≡ C row n out)
--     of-into          fn f(x: X, out: &mut [G]) -> O                                      says Told of the buffer, (r ≡ F x out) × (out' ≡ C x out)
--     on_line          fn f(row: &mut [R], s: S, block: &[E], out: &mut [G]) -> O          says LineTold: (r ≡ F ..) × ((row' ≡ B ..) × (out' ≡ C ..))
-- Arguments by value and results are plain. A step for a call by value goes on at what the callee's contract says.
--     keeps-copy       a shared slice is handed on as a copy.        at_value     a result that is z is stored at z's machine value
--     calls-nothing, calls-one, calls-two     the calls by value.        calls-slice     a call on a shared row, of which the caller keeps a copy
use mathlib.Core.Path.{◌≡◌, sym, subst}
use mathlib.Core.List.{[], ◌∷◌, List}
use seplogic.Ra.Ura.{Ura}
use mir.Syntax.{Callee, Place, Opd as Operand, Body, seq, call}
use base.Fml.{Lft, Share, flft}
use prog.Wp.{Env, Loops, Tables}
use types.Logic.{Logic}
use types.Kit.{Goal, Item, ‵, ◌⊛◌, Post, runs, lands, Seq, Step, step, ◌$◌, move, use1, split}
use types.Run.{Opds, no_more}
use denote.RattleType.{RattleType}
use denote.Laws.{Is}
use denote.Ref.{Bor}
use denote.Slice.{shr_slice_vals}
use denote.Triple.Statement.{Triple}
use Rattle.walks.proofs.Plain.{PlainType, Shown-twice}
use Rattle.walks.proofs.Form.{Form, value, shown, handed, behind, met, asks, slice-val, shared, calls}

-- ---- what a contract says of a row of Y: functions of the row and the other arguments, and the equations that they give
abbrev pub Answers : Type 0 → Type 0 → Type 0 → Type 0
Answers Y X O = List Y → X → O

abbrev pub Changes : Type 0 → Type 0 → Type 0
Changes Y X = List Y → X → List Y

abbrev pub Told : {Y X O : Type 0} → Answers Y X O → Changes Y X → List Y → X → O → List Y → Type 0
Told F B ys x r zs = (r ≡ F ys x) × (zs ≡ B ys x)

-- of one record B and an argument, and what a contract says of it
abbrev pub OfOne : Type 0 → Type 0 → Type 0 → Type 0
OfOne B X O = B → X → O

abbrev pub OneTold : {B X O : Type 0} → OfOne B X O → OfOne B X B → B → X → O → B → Type 0
OneTold F G b x r c = (r ≡ F b x) × (c ≡ G b x)

-- and cells beside
abbrev pub OfRecord : Type 0 → Type 0 → Type 0 → Type 0 → Type 0
OfRecord B X E O = B → X → List E → O

abbrev pub RecordTold : {B X E O : Type 0} → OfRecord B X E O → OfRecord B X E B → B → X → List E → O → B → Type 0
RecordTold F G b x cs r c = (r ≡ F b x cs) × (c ≡ G b x cs)

-- and something that was found of them
abbrev pub OfFound : Type 0 → Type 0 → Type 0 → Type 0 → Type 0 → Type 0
OfFound B X Z E O = B → X → Z → List E → O

abbrev pub FoundTold : {B X Z E O : Type 0} → OfFound B X Z E O → OfFound B X Z E B → B → X → Z → List E → O → B → Type 0
FoundTold F G b x z cs r c = (r ≡ F b x z cs) × (c ≡ G b x z cs)

-- beside a number, an argument and cells
abbrev pub OfCells : Type 0 → Type 0 → Type 0 → Type 0 → Type 0 → Type 0
OfCells Y N X E O = List Y → N → X → List E → O

abbrev pub CellsTold : {Y N X E O : Type 0} → OfCells Y N X E O → OfCells Y N X E (List Y) → List Y → N → X → List E → O → List Y → Type 0
CellsTold F B ys n x cs r zs = (r ≡ F ys n x cs) × (zs ≡ B ys n x cs)

-- of a row that is only looked at, a number and a buffer
abbrev pub OfList : Type 0 → Type 0 → Type 0 → Type 0 → Type 0
OfList Y N G O = List Y → N → List G → O

abbrev pub ListTold : {Y N G O : Type 0} → OfList Y N G O → OfList Y N G (List G) → List Y → N → List G → O → List G → Type 0
ListTold F C ys n us r vs = (r ≡ F ys n us) × (vs ≡ C ys n us)

-- with bytes and a reply, or with a state, a block and an output
abbrev pub OfFrame : Type 0 → Type 0 → Type 0 → Type 0 → Type 0
OfFrame Y E G O = List Y → List E → List G → O

abbrev pub FrameTold : {Y E G O : Type 0} → OfFrame Y E G O → OfFrame Y E G (List Y) → OfFrame Y E G (List G) → List Y → List E → List G → O → List Y → List G → Type 0
FrameTold F B C ys bs rs r zs us = (r ≡ F ys bs rs) × ((zs ≡ B ys bs rs) × (us ≡ C ys bs rs))

abbrev pub OfLine : Type 0 → Type 0 → Type 0 → Type 0 → Type 0 → Type 0
OfLine Y S E G O = List Y → S → List E → List G → O

abbrev pub LineTold : {Y S E G O : Type 0} → OfLine Y S E G O → OfLine Y S E G (List Y) → OfLine Y S E G (List G) → List Y → S → List E → List G → O → List Y → List G → Type 0
LineTold F B C ys x bs rs r zs us = (r ≡ F ys x bs rs) × ((zs ≡ B ys x bs rs) × (us ≡ C ys x bs rs))

-- ---- the forms
module _ (O : RattleType) where
  abbrev pub a-value : O.Denot → Form
  a-value z = record { lifetimes = 0; params = []; result = O; says_of = λ κs a r e. r ≡ z }

  abbrev pub of_one : (X : RattleType) → (X.Denot → O.Denot) → Form
  of_one X F = record { lifetimes = 0; params = value X ∷ []; result = O; says_of = λ κs a r e. r ≡ F a.0 }

  abbrev pub of_two : (X Y : RattleType) → (X.Denot → Y.Denot → O.Denot) → Form
  of_two X Y F = record { lifetimes = 0; params = value X ∷ value Y ∷ []; result = O; says_of = λ κs a r e. r ≡ F a.0 a.1.0 }

  -- into a buffer, of something by value
  abbrev pub of-into : (X G : RattleType) → (X.Denot → List G.Denot → O.Denot) → (X.Denot → List G.Denot → List G.Denot) → Form
  of-into X G F C = record { lifetimes = 1; params = value X ∷ handed 0 tt G ∷ []; result = O; says_of = λ κs a r e. (r ≡ F a.0 a.1.0.now) × (e.1.0.now ≡ C a.0 a.1.0.now) }

  module _ (R : RattleType) where
    abbrev pub on_one : (X : RattleType) → OfOne R.Denot X.Denot O.Denot → OfOne R.Denot X.Denot R.Denot → Form
    on_one X F G = record { lifetimes = 1; params = behind 0 tt R ∷ value X ∷ []; result = O; says_of = λ κs a r e. OneTold F G a.0.now a.1.0 r e.0.now }

    abbrev pub on-record : (X E : RattleType) → OfRecord R.Denot X.Denot E.Denot O.Denot → OfRecord R.Denot X.Denot E.Denot R.Denot → Form
    on-record X E F G = record { lifetimes = 2; params = behind 0 tt R ∷ value X ∷ shown 1 tt E ∷ []; result = O; says_of = λ κs a r e. RecordTold F G a.0.now a.1.0 a.1.1.0.now r e.0.now }

    abbrev pub on-found : (X Z E : RattleType) → OfFound R.Denot X.Denot Z.Denot E.Denot O.Denot → OfFound R.Denot X.Denot Z.Denot E.Denot R.Denot → Form
    on-found X Z E F G = record {
      lifetimes = 2;
      params = behind 0 tt R ∷ value X ∷ value Z ∷ shown 1 tt E ∷ [];
      result = O;
      says_of = λ κs a r e. FoundTold F G a.0.now a.1.0 a.1.1.0 a.1.1.1.0.now r e.0.now;
    }

    abbrev pub of-slice : (List R.Denot → O.Denot) → Form
    of-slice F = record { lifetimes = 1; params = shown 0 tt R ∷ []; result = O; says_of = λ κs a r e. r ≡ F a.0.now }

    abbrev pub on_row : (X : RattleType) → Answers R.Denot X.Denot O.Denot → Changes R.Denot X.Denot → Form
    on_row X F B = record { lifetimes = 1; params = handed 0 tt R ∷ value X ∷ []; result = O; says_of = λ κs a r e. Told F B a.0.now a.1.0 r e.0.now }

    abbrev pub on-cells : (N X E : RattleType) → OfCells R.Denot N.Denot X.Denot E.Denot O.Denot → OfCells R.Denot N.Denot X.Denot E.Denot (List R.Denot) → Form
    on-cells N X E F B = record {
      lifetimes = 2;
      params = handed 0 tt R ∷ value N ∷ value X ∷ shown 1 tt E ∷ [];
      result = O;
      says_of = λ κs a r e. CellsTold F B a.0.now a.1.0 a.1.1.0 a.1.1.1.0.now r e.0.now;
    }

    abbrev pub on_list : (N G : RattleType) → OfList R.Denot N.Denot G.Denot O.Denot → OfList R.Denot N.Denot G.Denot (List G.Denot) → Form
    on_list N G F C = record {
      lifetimes = 2;
      params = shown 0 tt R ∷ value N ∷ handed 1 tt G ∷ [];
      result = O;
      says_of = λ κs a r e. ListTold F C a.0.now a.1.0 a.1.1.0.now r e.1.1.0.now;
    }

    module _ (E G : RattleType) where
      abbrev pub on-frame : OfFrame R.Denot E.Denot G.Denot O.Denot → OfFrame R.Denot E.Denot G.Denot (List R.Denot) → OfFrame R.Denot E.Denot G.Denot (List G.Denot) → Form
      on-frame F B C = record {
        lifetimes = 3;
        params = handed 0 tt R ∷ shown 1 tt E ∷ handed 2 tt G ∷ [];
        result = O;
        says_of = λ κs a r e. FrameTold F B C a.0.now a.1.0.now a.1.1.0.now r e.0.now e.1.1.0.now;
      }

      abbrev pub on_line : (S : RattleType) → OfLine R.Denot S.Denot E.Denot G.Denot O.Denot → OfLine R.Denot S.Denot E.Denot G.Denot (List R.Denot) → OfLine R.Denot S.Denot E.Denot G.Denot (List G.Denot) → Form
      on_line S F B C = record {
        lifetimes = 3;
        params = handed 0 tt R ∷ value S ∷ shown 1 tt E ∷ handed 2 tt G ∷ [];
        result = O;
        says_of = λ κs a r e. LineTold F B C a.0.now a.1.0 a.1.1.0.now a.1.1.1.0.now r e.0.now e.1.1.1.0.now;
      }

module _ {M : Type 1} {𝓤 : Ura M} {𝓛 : Logic 𝓤} {K : Type 0} {Γ : List (Item 𝓤)} {E : Env 𝓤 𝓛.H} {Λ : Loops 𝓤 𝓛.H} {q : Post 𝓤 𝓛.H} {d : Place} {rest : Body} where
  -- a result r that is z: it is stored at z's machine value
  open 𝓛 use {H}

  pub at_value : (𝓣 : Tables 𝓤 H) (O : RattleType) (P : PlainType 𝓛 O) (z : O.Denot) → (Is O z (P.val z ∷ []) → Seq K 𝓛 Γ (lands 𝓣.C Λ E d (P.val z) rest q)) → (r : O.Denot) → r ≡ z → Is O r (P.val r ∷ []) → Seq K 𝓛 Γ (lands 𝓣.C Λ E d (P.val r) rest q)
  at_value 𝓣 O P z k r e is = subst (λ (x : O.Denot). Seq K 𝓛 Γ (lands 𝓣.C Λ E d (P.val x) rest q)) (sym e) (k (subst (λ (x : O.Denot). Is O x (P.val x ∷ [])) e is))

  pub calls-nothing : {f : Callee} → K → (𝓣 : Tables 𝓤 H) → (O : RattleType) (P : PlainType 𝓛 O) (z : O.Denot) → Triple 𝓤 (𝓣.C f) (met (a-value O z) 𝓤 𝓛)
      → (Is O z (P.val z ∷ []) → Seq K 𝓛 Γ (lands 𝓣.C Λ E d (P.val z) rest q)) → Seq K 𝓛 Γ (runs 𝓣.C Λ E (seq (call f [] d) rest) q)
  calls-nothing t 𝓣 O P z known k = calls 𝓛 (a-value O z) tt tt tt tt P 𝓣 known tt t (no_more t) (λ r _ e _ is. at_value 𝓣 O P z k r e is)

  pub calls-one : {f : Callee} → K → (𝓣 : Tables 𝓤 H) → {X O : RattleType} (N : PlainType 𝓛 X) (P : PlainType 𝓛 O) (F : X.Denot → O.Denot) → Triple 𝓤 (𝓣.C f) (met (of_one O X F) 𝓤 𝓛) → (x : X.Denot) → Is X x (N.val x ∷ []) → {o : Operand}
      → Opds K 𝓛 (asks 𝓛 (of_one O X F) (N, tt) tt tt (x, tt) ∷ Γ) E (o ∷ []) (N.val x ∷ []) → (Is O (F x) (P.val (F x) ∷ []) → Seq K 𝓛 Γ (lands 𝓣.C Λ E d (P.val (F x)) rest q)) → Seq K 𝓛 Γ (runs 𝓣.C Λ E (seq (call f (o ∷ []) d) rest) q)
  calls-one t 𝓣 {X} {O} N P F known x so opds k = calls 𝓛 (of_one O X F) (N, tt) tt tt (x, tt) P 𝓣 known (so, tt) t opds (λ r _ e _ is. at_value 𝓣 O P (F x) k r e is)

  pub calls-two : {f : Callee} → K → (𝓣 : Tables 𝓤 H) → {X Y O : RattleType} (N : PlainType 𝓛 X) (L : PlainType 𝓛 Y) (P : PlainType 𝓛 O) (F : X.Denot → Y.Denot → O.Denot) → Triple 𝓤 (𝓣.C f) (met (of_two O X Y F) 𝓤 𝓛)
      → (x : X.Denot) → Is X x (N.val x ∷ []) → (y : Y.Denot) → Is Y y (L.val y ∷ []) → {o o' : Operand} → Opds K 𝓛 (asks 𝓛 (of_two O X Y F) (N, (L, tt)) tt tt (x, (y, tt)) ∷ Γ) E (o ∷ o' ∷ []) (N.val x ∷ L.val y ∷ [])
      → (Is O (F x y) (P.val (F x y) ∷ []) → Seq K 𝓛 Γ (lands 𝓣.C Λ E d (P.val (F x y)) rest q)) → Seq K 𝓛 Γ (runs 𝓣.C Λ E (seq (call f (o ∷ o' ∷ []) d) rest) q)
  calls-two t 𝓣 {X} {Y} {O} N L P F known x so y so' opds k =
      calls 𝓛 (of_two O X Y F) (N, (L, tt)) tt tt (x, (y, tt)) P 𝓣 known (so, (so', tt)) t opds (λ r _ e _ is. at_value 𝓣 O P (F x y) k r e is)

-- a shared slice is handed on as a copy
pub keeps-copy : {M : Type 1} {𝓤 : Ura M} {𝓛 : Logic 𝓤} {K : Type 0} {Γ : List (Item 𝓤)} {G : Goal 𝓤 𝓛.H} → K → (R : RattleType) → Shown-twice 𝓛 R → (κ : Lft) (y : Bor (List R.Denot)) → Step K 𝓛 (‵ (shared R κ y) ∷ ‵ (shared R κ y) ∷ Γ) G (‵ (shared R κ y) ∷ Γ) G
keeps-copy {𝓤 = 𝓤} {𝓛 = 𝓛} t R two κ y = step (λ s. use1 𝓛 (‵ (shared R κ y) ⊛ ‵ (shared R κ y)) ((two κ).twice y (shr_slice_vals y)) $ split t $ s)

module _ {M : Type 1} {𝓤 : Ura M} {𝓛 : Logic 𝓤} {K : Type 0} {Γ : List (Item 𝓤)} {E : Env 𝓤 𝓛.H} {Λ : Loops 𝓤 𝓛.H} {q : Post 𝓤 𝓛.H} {d : Place} {rest : Body} where
  -- [the token; the row]  to the same. While the operand is read, what the callee asks stands in the token's place
  open 𝓛 use {H}

  pub calls-slice : {f : Callee} → K → (𝓣 : Tables 𝓤 H) → (R : RattleType) → Shown-twice 𝓛 R → {O : RattleType} (P : PlainType 𝓛 O) (F : List R.Denot → O.Denot) → Triple 𝓤 (𝓣.C f) (met (of-slice O R F) 𝓤 𝓛) → (κ : Lft) (p : Share) (ys : Bor (List R.Denot)) → {o : Operand}
      → Opds K 𝓛 (asks 𝓛 (of-slice O R F) tt (κ, tt) (p, tt) (ys, tt) ∷ ‵ (shared R κ ys) ∷ Γ) E (o ∷ []) (slice-val ys ∷ [])
      → ((r : O.Denot) → r ≡ F ys.now → Is O r (P.val r ∷ []) → Seq K 𝓛 (‵ (flft κ p) ∷ ‵ (shared R κ ys) ∷ Γ) (lands 𝓣.C Λ E d (P.val r) rest q))
      → Seq K 𝓛 (‵ (flft κ p) ∷ ‵ (shared R κ ys) ∷ Γ) (runs 𝓣.C Λ E (seq (call f (o ∷ []) d) rest) q)
  calls-slice t 𝓣 R two {O} P F known κ p ys opds k =
      move t (1 ∷ []) $ keeps-copy t R two κ ys $ move t (2 ∷ 0 ∷ []) $
      calls 𝓛 (of-slice O R F) tt (κ, tt) (p, tt) (ys, tt) P 𝓣 known tt t opds (λ r _ e _ is. k r e is)
