-- Slots in lines of 64.
use mathlib.Core.Path.{◌≡◌, refl, ap}
use mathlib.Core.Logic.{◌⊎◌, inl, inr}
use mathlib.Core.Bool.{Bool, true, false, cond}
use mathlib.Core.List.{List, [], ◌∷◌, ◌++◌}
use Prim.Native.Nat.{ℕ, zero, suc, ◌+◌, ◌/◌, ◌≤◌, ◌<◌}
use native.Mathlib.Omega.{arith}
use native.Mathlib.Numerals.{add-one}
use borrow.Author.Tests.{eq-eqb, ne_eqb, eqb-true, eqb-false}
use lib.Dec.{eqb}
use lib.ListN.{length, get_or, take, length-append}
use lib.Seq.{take-suc, take_all}
use Rattle.std.specs.Prelude.{All, min, map}
use Rattle.std.proofs.lemmas.List.{map-append}
use Rattle.rules.specs.Lists.{is_zero}
use Rattle.rules.specs.Positions.{idle}
use Rattle.report.specs.Texts.{slot_byte, slot_lines}
use Rattle.report.specs.Put.{Choice}
use Rattle.report.proofs.Adds.{adds-none, adds-more}

-- ── one slot ────────────────────────────────────────────────────────────────

pub byte-idle : (c : ℕ) → c ≡ 255 → 46 ≡ slot_byte c
unfolding slot_byte idle
byte-idle c e = rw (eq-eqb c 255 e)

pub byte-task : (c : ℕ) → (c ≡ 255 → ⊥) → 49 + c ≡ slot_byte c
unfolding slot_byte idle
byte-task c h = rw (ne_eqb c 255 h)

pub task-small : (c : ℕ) → Choice c → (c ≡ 255 → ⊥) → c < 8
unfolding idle
task-small c (inl e) h = absurd (h e)
task-small c (inr k) h = k

-- ── one line ────────────────────────────────────────────────────────────────

-- one slot more
pub bytes-next : (cs : List ℕ) (i : ℕ) → i < length cs → map slot_byte (take (i + 1) cs) ≡ map slot_byte (take i cs) ++ slot_byte (get_or cs i 0) ∷ []
bytes-next cs i h = rw (add-one i, take-suc cs i 0 h, map-append slot_byte (take i cs) (get_or cs i 0 ∷ [])) refl

-- slots from column i on that fill a line, or are the last
line-from : (i : ℕ) (cs ds : List ℕ) → 0 < length cs → (i + length cs ≡ 64) ⊎ ((i + length cs < 64) × (ds ≡ [])) → slot_lines i (cs ++ ds) ≡ (map slot_byte cs ++ 10 ∷ []) ++ slot_lines 0 ds
unfolding slot_lines is_zero
line-from i [] ds p h = absurd (omega arith)
line-from i (c ∷ []) ds p (inl e) = rw (eq-eqb i 63 (omega arith)) refl
line-from i (c ∷ []) ds p (inr h) = rw (h.1, ne_eqb i 63 (omega arith), ne_eqb (suc i) 0 (omega arith)) refl
line-from i (c ∷ d ∷ cs) ds p h = rw (ne_eqb i 63 (below h)) (ap (λ l. slot_byte c ∷ l) (line-from (suc i) (d ∷ cs) ds (omega arith) (next h)))
  where
    below : (i + suc (suc (length cs)) ≡ 64) ⊎ ((i + suc (suc (length cs)) < 64) × (ds ≡ [])) → i ≡ 63 → ⊥
    below (inl e) = omega arith
    below (inr k) = omega arith

    next : (i + suc (suc (length cs)) ≡ 64) ⊎ ((i + suc (suc (length cs)) < 64) × (ds ≡ [])) → (suc i + suc (length cs) ≡ 64) ⊎ ((suc i + suc (length cs) < 64) × (ds ≡ []))
    next (inl e) = inl (omega arith)
    next (inr k) = inr (omega arith, k.1)

none : (ds : List ℕ) → length ds ≡ 0 → ds ≡ []
none [] e = refl
none (d ∷ ds) e = absurd (omega arith)

pub lines-none : (ds : List ℕ) → length ds ≡ 0 → slot_lines 0 ds ≡ []
unfolding slot_lines is_zero
lines-none ds e = rw (none ds e) refl

-- what is behind some slots can be shown too
pub choices-behind : (cs ds : List ℕ) → All Choice (cs ++ ds) → All Choice ds
choices-behind [] ds a = a
choices-behind (c ∷ cs) ds a = choices-behind cs ds (λ k d h. a (suc k) d (omega arith))

-- all slots begin with a line of 64, or are one line
pub lines-next : (cs ds : List ℕ) → length cs ≡ min 64 (length (cs ++ ds)) → 0 < length (cs ++ ds) → slot_lines 0 (cs ++ ds) ≡ (map slot_byte cs ++ 10 ∷ []) ++ slot_lines 0 ds
lines-next cs ds e h = let l = length-append cs ds in line-from 0 cs ds (omega arith) (go (eqb (length cs) 64) refl)
  where
    go : (b : Bool) → eqb (length cs) 64 ≡ b → (0 + length cs ≡ 64) ⊎ ((0 + length cs < 64) × (ds ≡ []))
    go true q = inl (let k = eqb-true (length cs) 64 q in omega arith)
    go false q = let k = eqb-false (length cs) 64 q in let l = length-append cs ds in inr (omega arith, none ds (omega arith))

-- ── how long the lines are ──────────────────────────────────────────────────

pub lines-length : (i : ℕ) (cs : List ℕ) → i < 64 → length (slot_lines i cs) ≤ length cs + (i + length cs + 63) / 64
unfolding slot_lines is_zero
lines-length zero [] h = omega arith
lines-length (suc i) [] h = rw (ne_eqb (suc i) 0 (λ e. omega arith)) (omega arith)
lines-length i (c ∷ cs) h = go (eqb i 63) refl (lines-length 0 cs (omega arith)) (lines-length (suc i) cs)
  where
    go : (b : Bool) → eqb i 63 ≡ b → length (slot_lines 0 cs) ≤ length cs + (0 + length cs + 63) / 64 → (suc i < 64 → length (slot_lines (suc i) cs) ≤ length cs + (suc i + length cs + 63) / 64)
        → length (slot_byte c ∷ cond b (10 ∷ slot_lines 0 cs) (slot_lines (suc i) cs)) ≤ suc (length cs) + (i + suc (length cs) + 63) / 64
    go true e m n = let q = eqb-true i 63 e in omega arith
    go false e m n = let q = eqb-false i 63 e in let k = n (omega arith) in omega arith

pub ruleset byte_laws = (byte-idle, byte-task)

pub ruleset line_laws = (adds-none, adds-more, bytes-next, take_all)
