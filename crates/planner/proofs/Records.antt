-- Records in the area: one compared number by number, one among the first, and one put behind them.
use mathlib.Core.Path.{◌≡◌, refl, sym, ap, ap₂, ◌∙◌}
use mathlib.Core.Logic.{◌⊎◌, inl, inr}
use mathlib.Core.Bool.{Bool, true, false, ◌&&◌, ◌||◌, or-true}
use mathlib.Core.List.{List, [], ◌∷◌, ◌++◌, append_assoc}
use Prim.Native.Nat.{ℕ, zero, suc, ◌+◌, ◌-◌, ◌*◌, ◌≤◌, ◌<◌}
use native.Mathlib.Nat.{suc-mul}
use native.Mathlib.Numerals.{add-one}
use native.Mathlib.Omega.{arith}
use borrow.Author.Tests.{eq-eqb, ne_eqb, eqb-true}
use lib.Dec.{T, eqb}
use lib.ListN.{length, get_or, take, drop, length-drop, length-append}
use lib.Seq.{drop-cons, drop-length, length-take-le, get_or-take, get_or-drop, take_at, drop-append-add, drop-drop}
use Rattle.rules.specs.Lists.{In, same_list}
use Rattle.rules.specs.Positions.{Position}
use Rattle.rules.specs.Planner.{records}
use Rattle.rules.proofs.Lists.{clash-bool}
use Rattle.rules.proofs.Laws.{T_true, true-T, T_and, T-or}
use Rattle.rules.proofs.Plan.Ends.{records-last}
use Rattle.planner.specs.Area.{record_at, among}

-- ── a record, number by number ──────────────────────────────────────────────

same_next : (a b : List ℕ) (i : ℕ) → i < length a → i < length b
    → same_list (drop i a) (drop i b) ≡ eqb (get_or a i 0) (get_or b i 0) && same_list (drop (suc i) a) (drop (suc i) b)
unfolding same_list
same_next a b i h k = rw (drop-cons a i 0 h, drop-cons b i 0 k)

same_end : (a b : List ℕ) (i : ℕ) → i ≡ length a → i ≡ length b → same_list (drop i a) (drop i b) ≡ true
unfolding same_list
same_end a b i p q = rw (p, drop-length) (rw (sym p ∙ q, drop-length))

module _ (area : List ℕ) (at n slot : ℕ) (progress : List ℕ) where
  abbrev wanted : List ℕ
  wanted = slot ∷ take n progress

  abbrev there : List ℕ
  there = take (n + 1) (drop at area)

  -- the numbers before place j + 1 agree
  pub record Alike (j : ℕ) : Type 0 where
    pub few : j ≤ n
    pub most : n ≤ length progress
    pub fits : at + (n + 1) ≤ length area
    pub rest : same_list wanted there ≡ same_list (drop (suc j) wanted) (drop (suc j) there)

  wanted-length : n ≤ length progress → length wanted ≡ suc n
  wanted-length m = ap suc (length-take-le n progress m)

  there-length : at + (n + 1) ≤ length area → length there ≡ suc n
  there-length f = length-take-le (n + 1) (drop at area) (omega (arith, length-drop at area)) ∙ add-one n

  there-at : (j : ℕ) → j < n + 1 → get_or there j 0 ≡ get_or area (at + j) 0
  there-at j h = get_or-take (n + 1) (drop at area) j 0 h ∙ get_or-drop at area j 0

  -- at the slot
  first : n ≤ length progress → at + (n + 1) ≤ length area → same_list wanted there ≡ eqb slot (get_or area at 0) && same_list (drop 1 wanted) (drop 1 there)
  first m f =
      let k = there-length f in
      let z : at + 0 ≡ at = omega arith in
      same_next wanted there 0 (omega arith) (omega arith) ∙ rw (there-at 0 (omega arith), z)

  pub alike-never : n ≤ length progress → at + (n + 1) ≤ length area → (get_or area at 0 ≡ slot → ⊥) → false ≡ same_list wanted there
  alike-never m f d = sym (first m f ∙ rw (ne_eqb slot (get_or area at 0) (λ q. d (sym q))))

  pub alike-start : n ≤ length progress → at + (n + 1) ≤ length area → get_or area at 0 ≡ slot → Alike 0
  alike-start m f d = record { few = omega arith; most = m; fits = f; rest = first m f ∙ rw (eq-eqb slot (get_or area at 0) (sym d)) }

  -- at a task's progress
  further : (j : ℕ) → Alike j → j < n → same_list wanted there ≡ eqb (get_or progress j 0) (get_or area (at + 1 + j) 0) && same_list (drop (suc (suc j)) wanted) (drop (suc (suc j)) there)
  further j v h =
      let f = v.fits in
      let k = wanted-length v.most in
      let l = there-length v.fits in
      let z : at + suc j ≡ at + 1 + j = omega arith in
      v.rest ∙ same_next wanted there (suc j) (omega arith) (omega arith) ∙ rw (there-at (suc j) (omega arith), z, get_or-take n progress j 0 h)

  pub alike-off : (j : ℕ) → Alike j → j < n → (get_or area (at + 1 + j) 0 ≡ get_or progress j 0 → ⊥) → false ≡ same_list wanted there
  alike-off j v h d = sym (further j v h ∙ rw (ne_eqb (get_or progress j 0) (get_or area (at + 1 + j) 0) (λ q. d (sym q))))

  pub alike-step : (j : ℕ) → Alike j → j < n → get_or area (at + 1 + j) 0 ≡ get_or progress j 0 → Alike (j + 1)
  alike-step j v h d = record {
    few = omega arith;
    most = v.most;
    fits = v.fits;
    rest = further j v h ∙ rw (eq-eqb (get_or progress j 0) (get_or area (at + 1 + j) 0) (sym d), add-one j);
  }

  pub alike_end : (j : ℕ) → Alike j → n ≤ j → true ≡ same_list wanted there
  alike_end j v h =
      let a = v.few in
      let k = wanted-length v.most in
      let l = there-length v.fits in
      sym (v.rest ∙ same_end wanted there (suc j) (omega arith) (omega arith))

pub ruleset alike = (alike-never, alike-start, alike-off, alike-step, alike_end)

-- ── among the first records ─────────────────────────────────────────────────

-- of the first m records only the first k are left
module _ (w : ℕ) (area x : List ℕ) (m : ℕ) where
  newest : (k : ℕ) (b : Bool) → 0 < k → b ≡ same_list x (take w (drop ((k - 1) * w) area)) → among w area x k ≡ b || among w area x (k - 1)
  unfolding among record_at
  newest zero b h f = let z : ⊥ = omega arith in absurd z
  newest (suc k) b h f = let z : suc k - 1 ≡ k = omega arith in rw z (ap (λ q. q || among w area x k) (sym (rw z at f)))

  pub left-found : (k : ℕ) (b : Bool) → among w area x m ≡ among w area x k → 0 < k → b ≡ same_list x (take w (drop ((k - 1) * w) area)) → b ≡ true → true ≡ among w area x m
  left-found k b l h f e = sym (l ∙ newest k b h f ∙ rw e)

  pub left_step : (k : ℕ) (b : Bool) → among w area x m ≡ among w area x k → 0 < k → b ≡ same_list x (take w (drop ((k - 1) * w) area)) → b ≡ false → among w area x m ≡ among w area x (k - 1)
  left_step k b l h f e = l ∙ newest k b h f ∙ rw e

  pub left_end : (k : ℕ) → among w area x m ≡ among w area x k → k ≤ 0 → false ≡ among w area x m
  unfolding among
  left_end k l h = let z : k ≡ 0 = omega arith in sym (rw z at l)

pub ruleset left_laws = (left-found, left_step, left_end)

-- ── the records of positions ────────────────────────────────────────────────

same-equal : (a b : List ℕ) → same_list a b ≡ true → a ≡ b
unfolding same_list
same-equal [] [] e = refl
same-equal [] (y ∷ b) e = clash-bool e
same-equal (x ∷ a) [] e = clash-bool e
same-equal (x ∷ a) (y ∷ b) e =
    let t = T_and (eqb x y) (same_list a b) (true-T _ e) in
    ap₂ (λ n l. n ∷ l) (eqb-true x y (T_true _ t.0)) (same-equal a b (T_true _ t.1))

same_self : (a : List ℕ) → same_list a a ≡ true
unfolding same_list
same_self [] = refl
same_self (x ∷ a) = rw (eq-eqb x x refl) (same_self a)

same-position : (x y : Position) → ◌≡◌ {A = List ℕ} (x.slot ∷ x.progress) (y.slot ∷ y.progress) → x ≡ y
same-position x y e =
    let a : x.slot ≡ y.slot = cc in
    let b : x.progress ≡ y.progress = cc in
    ap₂ {C = Position} (λ t p. record { slot = t; progress = p }) a b

-- the first record apart
among_first : (w : ℕ) (a b x : List ℕ) (k : ℕ) → length a ≡ w → among w (a ++ b) x (suc k) ≡ same_list x a || among w b x k
unfolding among record_at
among_first w a b x zero e = let z : 0 * w ≡ 0 = omega arith in rw (z, take_at a b w e)
among_first w a b x (suc k) e =
    let z : suc k * w ≡ length a + k * w = omega (arith, suc-mul k w) in
    rw (z, drop-append-add a b (k * w), among_first w a b x k e) (or_swap (same_list x (take w (drop (k * w) b))) (same_list x a) (among w b x k))
  where
    or_swap : (p q r : Bool) → p || (q || r) ≡ q || (p || r)
    or_swap true true r = refl
    or_swap true false r = refl
    or_swap false q r = refl

-- a position of n tasks is recorded exactly where its record is among the records
module _ (n : ℕ) (x : Position) where
  abbrev wide : List Position → Type 0
  wide R = (y : Position) → In y R → length y.progress ≡ n

  opened : (y : Position) (R : List Position) (rest : List ℕ) → wide (y ∷ R)
      → among (n + 1) (records (y ∷ R) ++ rest) (x.slot ∷ x.progress) (length (y ∷ R)) ≡ same_list (x.slot ∷ x.progress) (y.slot ∷ y.progress) || among (n + 1) (records R ++ rest) (x.slot ∷ x.progress) (length R)
  unfolding records
  opened y R rest w =
      rw (append_assoc y.progress (records R) rest)
      (among_first (n + 1) (y.slot ∷ y.progress) (records R ++ rest) (x.slot ∷ x.progress) (length R) (let e = w y (inl refl) in omega arith))

  found : (R : List Position) (rest : List ℕ) → wide R → among (n + 1) (records R ++ rest) (x.slot ∷ x.progress) (length R) ≡ true → In x R
  unfolding among
  found [] rest w e = clash-bool e
  found (y ∷ R) rest w e = go (T-or (same_list (x.slot ∷ x.progress) (y.slot ∷ y.progress)) (among (n + 1) (records R ++ rest) (x.slot ∷ x.progress) (length R)) (true-T _ (sym (opened y R rest w) ∙ e))) (found R rest (λ z k. w z (inr k)))
    where
      go : T (same_list (x.slot ∷ x.progress) (y.slot ∷ y.progress)) ⊎ T (among (n + 1) (records R ++ rest) (x.slot ∷ x.progress) (length R))
          → (among (n + 1) (records R ++ rest) (x.slot ∷ x.progress) (length R) ≡ true → In x R) → In x (y ∷ R)
      go (inl h) ih = inl (same-position x y (same-equal (x.slot ∷ x.progress) (y.slot ∷ y.progress) (T_true _ h)))
      go (inr h) ih = inr (ih (T_true _ h))

  stands : (R : List Position) (rest : List ℕ) → wide R → In x R → among (n + 1) (records R ++ rest) (x.slot ∷ x.progress) (length R) ≡ true
  stands [] rest w x3 = elim x3 [ ]
  stands (y ∷ R) rest w (inl e) = opened y R rest w ∙ rw (← e, same_self (x.slot ∷ x.progress))
  stands (y ∷ R) rest w (inr h) = opened y R rest w ∙ rw (stands R rest (λ z k. w z (inr k)) h) (or-true (same_list (x.slot ∷ x.progress) (y.slot ∷ y.progress)))

  module _ (R : List Position) (rest area : List ℕ) (is : area ≡ records R ++ rest) (w : (y : Position) → In y R → length y.progress ≡ n) where
    pub among_in : among (n + 1) area (x.slot ∷ x.progress) (length R) ≡ true → In x R
    among_in e = found R rest w (rw is at e)

    pub among-out : among (n + 1) area (x.slot ∷ x.progress) (length R) ≡ false → ¬ In x R
    among-out e h = clash-bool (sym e ∙ rw is (stands R rest w h))

pub records-length : (n : ℕ) (R : List Position) → ((y : Position) → In y R → length y.progress ≡ n) → length (records R) ≡ length R * (n + 1)
unfolding records
records-length n [] w = omega arith
records-length n (y ∷ R) w =
    omega (arith, length-append y.progress (records R), w y (inl refl), records-length n R (λ z k. w z (inr k)), suc-mul (length R) (n + 1))

-- what `put` leaves: one record more, and the rest as it was
pub records-put : (n : ℕ) (x : Position) (R : List Position) (d area after : List ℕ) → ((y : Position) → In y R → length y.progress ≡ n)
    → area ≡ records R ++ drop (length R * (n + 1)) d
    → after ≡ take (length R * (n + 1)) area ++ ((x.slot ∷ x.progress) ++ drop ((length R + 1) * (n + 1)) area)
    → after ≡ records (R ++ x ∷ []) ++ drop ((length R + 1) * (n + 1)) d
records-put n x R d area after w e f =
    let k = records-length n R w in
    let z : (length R + 1) * (n + 1) ≡ length R * (n + 1) + (n + 1) = rw (add-one (length R)) (suc-mul (length R) (n + 1)) in
    f
    ∙ rw (e, z, take_at (records R) (drop (length R * (n + 1)) d) (length R * (n + 1)) k, records-last x R, append_assoc (records R) (x.slot ∷ x.progress))
    (ap (λ l. records R ++ ((x.slot ∷ x.progress) ++ l)) (rw (← k) (drop-append-add (records R) (drop (length (records R)) d) (n + 1) ∙ drop-drop (n + 1) (length (records R)) d)))
