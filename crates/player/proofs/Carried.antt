-- The strings carry just the numbers that fit: what is written is bytes, and what is read fits.
use mathlib.Core.Path.{◌≡◌, ap, ◌∙◌}
use mathlib.Core.List.{List, [], ◌∷◌, ◌++◌}
use Prim.Native.Nat.{ℕ, zero, suc, ◌+◌, ◌*◌, ◌<◌, ◌/◌, ◌%◌}
use native.Mathlib.Nat.{mod-lt, mod-add-div}
use native.Mathlib.Omega.{arith}
use lib.ListN.{length, get_or}
use Rattle.rules.specs.Lists.{tabulate}
use Rattle.rules.specs.Records.{TaskRecord, no_record, SetRecord, Arrays}
use Rattle.rules.specs.Jobs.{overrun, late, untrue, Stand, Ready, Waiting, Done, Stopped, Job, finished}
use Rattle.rules.specs.States.{StateRecord, StateArrays}
use Rattle.rules.proofs.Lists.{tabulate-length, tabulate-at}
use Rattle.player.specs.Bytes.{low, high, pair, joined, task_bytes, set_bytes, stand_byte, job_bytes, state_bytes, pair_at, task_at, set_at, job_at, state_at}
use Rattle.player.specs.Widths.{AllBytes, TaskFits, SetFits, JobFits, StateFits}

-- ── what is written ─────────────────────────────────────────────────────────

none : AllBytes []
none k = omega arith

more : (x : ℕ) (xs : List ℕ) → x < 256 → AllBytes xs → AllBytes (x ∷ xs)
more x xs h a zero = h
more x xs h a (suc k) = a k

both : (xs ys : List ℕ) → AllBytes xs → AllBytes ys → AllBytes (xs ++ ys)
both [] ys a b = b
both (x ∷ xs) ys a b = more x (xs ++ ys) (a 0) (both xs ys (λ k. a (suc k)) b)

all : {A : Type 0} (f : A → List ℕ) (d : A) (xs : List A) → ((k : ℕ) → k < length xs → AllBytes (f (get_or xs k d))) → AllBytes (joined f xs)
unfolding joined
all f d [] h = none
all f d (x ∷ xs) h = both (f x) (joined f xs) (h 0 (omega arith)) (all f d xs (λ k l. h (suc k) (omega arith)))

pair-bytes : (x : ℕ) → x < 65536 → AllBytes (pair x)
unfolding pair low high
pair-bytes x h = more (x % 256) (x / 256 ∷ []) (mod-lt x (omega arith)) (more (x / 256) [] (omega (arith, mod-add-div x 256)) none)

stand-byte : (k : Stand) → stand_byte k < 256
unfolding stand_byte
stand-byte Ready = omega arith
stand-byte Waiting = omega arith
stand-byte Done = omega arith
stand-byte (Stopped overrun) = omega arith
stand-byte (Stopped late) = omega arith
stand-byte (Stopped untrue) = omega arith

job-bytes : (j : Job) → JobFits j → AllBytes (job_bytes j)
unfolding job_bytes
job-bytes j f = more (stand_byte j.stand) (j.step ∷ j.given ∷ []) (stand-byte j.stand) (more j.step (j.given ∷ []) f.step (more j.given [] f.given none))

task-bytes : (r : TaskRecord) → TaskFits r → AllBytes (task_bytes r)
unfolding task_bytes
task-bytes r f =
    both (pair r.period) (pair r.deadline ++ (r.steps ∷ r.units)) (pair-bytes r.period f.period)
    (both (pair r.deadline) (r.steps ∷ r.units) (pair-bytes r.deadline f.deadline) (more r.steps r.units f.steps f.units))

pub set-bytes : (r : SetRecord) → SetFits r → AllBytes (set_bytes r)
unfolding set_bytes
set-bytes r f = more r.count (joined task_bytes r.entries) f.count (all task_bytes no_record r.entries (λ k h. task-bytes (get_or r.entries k no_record) (f.entries k h)))

pub state-bytes : (w : StateRecord) → StateFits w → AllBytes (state_bytes w)
unfolding state_bytes
state-bytes w f =
    let P = pair w.slot in
    let Q = joined pair w.planned in
    let J = joined job_bytes w.jobs in
    let L = w.last ∷ [] in
    both (set_bytes w.set) (P ++ (Q ++ (J ++ L))) (set-bytes w.set f.set)
    (both P (Q ++ (J ++ L)) (pair-bytes w.slot f.slot)
    (both Q (J ++ L) (all pair 0 w.planned (λ k h. pair-bytes (get_or w.planned k 0) (f.planned k)))
    (both J L (all job_bytes finished w.jobs (λ k h. job-bytes (get_or w.jobs k finished) (f.jobs k h))) (more w.last [] f.last none))))

-- ── what is read ────────────────────────────────────────────────────────────

-- a property of what a table holds is had at each of its places
table_at : {A : Type 0} (P : A → Type 0) (g : ℕ → A) (i n : ℕ) (d : A) → ((k : ℕ) → P (g k)) → (k : ℕ) → k < length (tabulate g i n) → P (get_or (tabulate g i n) k d)
unfolding tabulate
table_at P g i zero d h k l = absurd (omega arith)
table_at P g i (suc n) d h zero l = h i
table_at P g i (suc n) d h (suc k) l = table_at P g (suc i) n d h k (omega arith)

-- the same past its end, where the default has it
table-all : (m : ℕ) (g : ℕ → ℕ) (i n : ℕ) → 0 < m → ((k : ℕ) → g k < m) → (k : ℕ) → get_or (tabulate g i n) k 0 < m
unfolding tabulate
table-all m g i zero z h k = z
table-all m g i (suc n) z h zero = h i
table-all m g i (suc n) z h (suc k) = table-all m g (suc i) n z h k

module _ (bs : List ℕ) where
  units-seven : (i : ℕ) → length (task_at bs i).units ≡ 7
  unfolding task_at
  units-seven i = tabulate-length (λ k. get_or bs (5 + i + k) 0) 0 7

  pub set-arrays : Arrays (set_at bs)
  unfolding set_at
  set-arrays = record {
    eight = tabulate-length (λ k. task_at bs (1 + k * 12)) 0 8;
    seven = λ j h. ap (λ r. length r.units) (tabulate-at (λ k. task_at bs (1 + k * 12)) 0 8 j no_record h) ∙ units-seven (1 + (0 + j) * 12);
  }

  pub state-arrays : StateArrays (state_at bs)
  unfolding state_at
  state-arrays = record { in_set = set-arrays; plans = tabulate-length (λ k. pair_at bs (99 + k * 2)) 0 8; standings = tabulate-length (λ k. job_at bs (115 + k * 3)) 0 8 }

  module _ (a : AllBytes bs) where
    pair_fits : (i : ℕ) → pair_at bs i < 65536
    unfolding pair_at
    pair_fits i = omega (arith, a i, a (suc i))

    task-fits : (i : ℕ) → TaskFits (task_at bs i)
    unfolding task_at
    task-fits i = record { period = pair_fits i; deadline = pair_fits (2 + i); steps = a (4 + i); units = table-all 256 (λ k. get_or bs (5 + i + k) 0) 0 7 (omega arith) (λ k. a (5 + i + k)) }

    job-fits : (i : ℕ) → JobFits (job_at bs i)
    unfolding job_at
    job-fits i = record { step = a (1 + i); given = a (2 + i) }

    pub set-fits : SetFits (set_at bs)
    unfolding set_at
    set-fits = record { count = a 0; entries = table_at TaskFits (λ k. task_at bs (1 + k * 12)) 0 8 no_record (λ k. task-fits (1 + k * 12)) }

    pub state-fits : StateFits (state_at bs)
    unfolding state_at
    state-fits = record {
      set = set-fits;
      slot = pair_fits 97;
      planned = table-all 65536 (λ k. pair_at bs (99 + k * 2)) 0 8 (omega arith) (λ k. pair_fits (99 + k * 2));
      jobs = table_at JobFits (λ k. job_at bs (115 + k * 3)) 0 8 finished (λ k. job-fits (115 + k * 3));
      last = a 139;
    }
