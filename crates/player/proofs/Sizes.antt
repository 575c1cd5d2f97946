-- How long the strings are, and their parts.
use mathlib.Core.Path.{◌≡◌, refl, ap}
use mathlib.Core.List.{List, [], ◌∷◌, ◌++◌}
use Prim.Native.Nat.{ℕ, suc, ◌*◌, ◌<◌}
use native.Mathlib.Omega.{arith}
use lib.ListN.{length, get_or, length-append}
use Rattle.rules.specs.Records.{TaskRecord, no_record, SetRecord, Arrays}
use Rattle.rules.specs.Jobs.{Job, finished}
use Rattle.rules.specs.States.{StateRecord, StateArrays}
use Rattle.player.specs.Bytes.{pair, joined, task_bytes, set_bytes, job_bytes, state_bytes}

-- ── entries ─────────────────────────────────────────────────────────────────

pub pair_size : (x : ℕ) → length (pair x) ≡ 2
unfolding pair
pair_size x = refl

pub job-size : (j : Job) → length (job_bytes j) ≡ 3
unfolding job_bytes
job-size j = refl

joined-size : {A : Type 0} (f : A → List ℕ) (n : ℕ) (d : A) (xs : List A) → ((k : ℕ) → k < length xs → length (f (get_or xs k d)) ≡ n) → length (joined f xs) ≡ length xs * n
unfolding joined
joined-size f n d [] h = omega arith
joined-size f n d (x ∷ xs) h = omega (arith, length-append (f x) (joined f xs), h 0 (omega arith), joined-size f n d xs (λ k l. h (suc k) (omega arith)))

pub task-size : (r : TaskRecord) → length r.units ≡ 7 → length (task_bytes r) ≡ 12
unfolding task_bytes pair
task-size r e = ap (λ n. suc (suc (suc (suc (suc n))))) e

pub set-size : (r : SetRecord) → Arrays r → length (set_bytes r) ≡ 97
unfolding set_bytes
set-size r a =
    let e = a.eight in
    let s = joined-size task_bytes 12 no_record r.entries (λ k h. task-size (get_or r.entries k no_record) (a.seven k (omega arith))) in
    omega arith

-- ── a state ─────────────────────────────────────────────────────────────────

module _ (w : StateRecord) where
  -- what stands behind the jobs, the planned progress, the slot and the set
  abbrev pub after_jobs : List ℕ
  after_jobs = w.last ∷ []

  abbrev pub after_planned : List ℕ
  after_planned = joined job_bytes w.jobs ++ after_jobs

  abbrev pub after_slot : List ℕ
  after_slot = joined pair w.planned ++ after_planned

  abbrev pub after_set : List ℕ
  after_set = pair w.slot ++ after_slot

  pub parts : state_bytes w ≡ set_bytes w.set ++ after_set
  unfolding state_bytes
  parts = refl

  module _ (a : StateArrays w) where
    pub planned-size : length (joined pair w.planned) ≡ 16
    planned-size = let e = a.plans in let s = joined-size pair 2 0 w.planned (λ k h. pair_size (get_or w.planned k 0)) in omega arith

    pub jobs-size : length (joined job_bytes w.jobs) ≡ 24
    jobs-size = let e = a.standings in let s = joined-size job_bytes 3 finished w.jobs (λ k h. job-size (get_or w.jobs k finished)) in omega arith

    pub state-size : length (state_bytes w) ≡ 140
    state-size =
        rw parts
        (omega (
          arith,
          length-append (set_bytes w.set) after_set,
          length-append (pair w.slot) after_slot,
          length-append (joined pair w.planned) after_planned,
          length-append (joined job_bytes w.jobs) after_jobs,
          set-size w.set a.in_set,
          pair_size w.slot,
          planned-size,
          jobs-size,
        ))
