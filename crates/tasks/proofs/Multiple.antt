-- The hyper-period in the code's terms: the divisor by a falling remainder, the multiple with its bound, and the set from its last task to its first.
use mathlib.Core.Path.{◌≡◌, refl, sym, ap, ◌∙◌}
use mathlib.Core.Logic.{⊎_elim}
use Rattle.std.specs.Prelude.{Option, Some, None, ◌+◌}
use native.Mathlib.Numerals.{add-one}
use Prim.Native.Nat.{ℕ, zero, suc, ◌*◌, ◌/◌, ◌%◌, ◌≤◌, ◌<◌}
use native.Mathlib.Nat.{mod-lt, pos_of_ne-zero, le_of_dvd, pos_of_dvd_of_pos, zero-div, zero-mul, div-le_self, mul-le-mul, le_trans}
use native.Mathlib.Omega.{arith}
use borrow.Author.Tests.{ne_eqb, le-leb, lt-leb}
use lib.ListN.{length, get_or, drop}
use lib.Seq.{drop-cons}
use Rattle.rules.specs.Hyper.{gcd_in, gcd, lcm, hyper}
use Rattle.rules.specs.Records.{task_in, record_refusal}
use Rattle.rules.proofs.Laws.{le-or-lt}
use Rattle.rules.proofs.Set.Widths.{hyper-small}
use Rattle.rules.proofs.Set.Multiple.{gcd-left, lcm-right, lcm-pos}
use Rattle.tasks.specs.declared.Task.{Task}
use Rattle.tasks.specs.declared.TaskSet.{TaskSet}
use Rattle.std.proofs.lemmas.List.{drop_all}
use Rattle.std.specs.Prelude.{List, map}
use Rattle.tasks.specs.Views.{entry_of, record_of, task_of, set_of, within, joined}

-- ── the divisor ─────────────────────────────────────────────────────────────

-- fuel above b does not matter
fuel : (k l a b : ℕ) → b < k → b < l → gcd_in k a b ≡ gcd_in l a b
unfolding gcd_in
fuel zero l a b h j = let z : ⊥ = omega arith in absurd z
fuel (suc k) zero a b h j = let z : ⊥ = omega arith in absurd z
fuel (suc k) (suc l) a zero h j = refl
fuel (suc k) (suc l) a (suc b) h j =
    let m : a % suc b < suc b = mod-lt a (omega arith) in
    fuel k l (suc b) (a % suc b) (omega arith) (omega arith)

pub divisor-zero : (a b : ℕ) → b ≡ 0 → a ≡ gcd a b
unfolding gcd gcd_in
divisor-zero a b e = rw e

pub divisor-step : (a b r : ℕ) → 0 < b → r ≡ gcd b (a % b) → r ≡ gcd a b
unfolding gcd gcd_in
divisor-step a zero r h e = let z : ⊥ = omega arith in absurd z
divisor-step a (suc b) r h e =
    let m : a % suc b < suc b = mod-lt a (omega arith) in
    e ∙ fuel (suc (a % suc b)) (suc b) (suc b) (a % suc b) (omega arith) (omega arith)

pub divisor-pos : (a b g : ℕ) → 0 < a → g ≡ gcd a b → 0 < g
divisor-pos a b g h e = rw e (pos_of_dvd_of_pos (gcd-left a b) h)

-- ── the multiple with its bound ─────────────────────────────────────────────

pub within-few : (h : ℕ) → h ≤ 4096 → within h ≡ Some h
unfolding within
within-few h k = rw (le-leb h 4096 k)

pub within-many : (h : ℕ) → 4096 < h → within h ≡ None
unfolding within
within-many h k = rw (lt-leb h 4096 k)

lcm-zero : (b : ℕ) → lcm 0 b ≡ 0
unfolding lcm
lcm-zero b = rw (zero-div, zero-mul)

pub multiple-none : (a b : ℕ) → a ≡ 0 → Some 0 ≡ within (lcm a b)
multiple-none a b e = rw (e, lcm-zero) (sym (within-few 0 (omega arith)))

pub multiple-many : (a b g : ℕ) → g ≡ gcd a b → 4096 < a / g * b → None ≡ within (lcm a b)
unfolding lcm
multiple-many a b g e h = sym (within-many (a / gcd a b * b) (rw (sym e) h))

pub multiple-few : (a b g : ℕ) → g ≡ gcd a b → a / g * b ≤ 4096 → Some (a / g * b) ≡ within (lcm a b)
unfolding lcm
multiple-few a b g e h = rw (← e) (sym (within-few (a / g * b) h))

-- an admissible set's hyper-period is within the bound
pub hyper-whole : (s : TaskSet) → record_refusal (record_of s) ≡ 0 → within (hyper (set_of s)) ≡ Some (hyper (set_of s))
unfolding set_of
hyper-whole s ok = within-few (hyper (set_of s)) (hyper-small (record_of s) ok)

-- ── the set ─────────────────────────────────────────────────────────────────

lcm-over : (a h : ℕ) → 0 < a → 4096 < h → within (lcm a h) ≡ None
lcm-over a h k l =
    let m : h ≤ lcm a h = le_of_dvd (lcm-pos a h k (omega arith)) (lcm-right a h) in
    within-many (lcm a h) (omega arith)

-- a bound taken on the way does not change the answer
pub joined-within : (a h : ℕ) → joined a (within h) ≡ within (lcm a h)
unfolding joined
joined-within a h =
    ⊎_elim (λ few. rw (within-few h few) refl)
    (λ many. rw (within-many h many) (past a many))
    (le-or-lt h 4096)
  where
    past : (a : ℕ) → 4096 < h → joined a None ≡ within (lcm a h)
    past zero many = sym (rw (lcm-zero h) (within-few 0 (omega arith)))
    past (suc a) many = rw (ne_eqb (suc a) 0 (λ e. absurd (omega arith))) (sym (lcm-over (suc a) h (omega arith) many))

pub hyper_end : (ts : List Task) (i : ℕ) → i ≡ length ts → within (hyper (map task_of (drop i ts))) ≡ Some 1
unfolding hyper
hyper_end ts i e = rw (drop_all i ts (omega arith)) (within-few 1 (omega arith))

pub hyper_on : (ts : List Task) (i j : ℕ) (h : Option ℕ) (d : Task) → i ≡ j + 1 → j < length ts → within (hyper (map task_of (drop i ts))) ≡ h
    → within (hyper (map task_of (drop j ts))) ≡ joined (get_or ts j d).period h
unfolding hyper task_of task_in entry_of
hyper_on ts i j h d p l e =
    ap (λ us. within (hyper (map task_of us))) (drop-cons ts j d l)
    ∙ sym (joined-within _ _)
    ∙ ap (joined (get_or ts j d).period) (rw (p, add-one) at e)

pub ruleset hyper_laws = (hyper_end, hyper_on)

-- ── a period with the multiple of those behind it ───────────────────────────

pub joined-zero : (p : ℕ) (o : Option ℕ) → p ≡ 0 → Some 0 ≡ joined p o
unfolding joined
joined-zero p None e = rw e refl
joined-zero p (Some h) e = multiple-none p h e

pub joined-lost : (p : ℕ) (o r : Option ℕ) → (p ≡ 0 → ⊥) → o ≡ None → r ≡ None → r ≡ joined p o
unfolding joined
joined-lost p o r n e f = rw (e, f, ne_eqb p 0 n) refl

pub joined-kept : (p h : ℕ) (o r : Option ℕ) → o ≡ Some h → r ≡ within (lcm p h) → r ≡ joined p o
unfolding joined
joined-kept p h o r e f = rw (e, f) refl

pub ruleset multiple_laws = (multiple-none, multiple-many, multiple-few, divisor-pos, pos_of_ne-zero)

pub ruleset joined_laws = (joined-zero, joined-lost, joined-kept)
