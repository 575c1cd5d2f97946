-- Laws of the functions that read and write the strings, in the code's terms.
use mathlib.Core.Path.{◌≡◌, refl, sym, ap, ◌∙◌}
use mathlib.Core.Bool.{false}
use mathlib.Core.List.{List, ◌++◌, append_assoc, append-nil}
use Prim.Native.Nat.{ℕ, ◌+◌, ◌*◌, ◌≤◌}
use native.Mathlib.Omega.{arith}
use lib.ListN.{length, get_or, set, take, drop, drop_of_length-le}
use lib.Seq.{sets, sets-eq, drop-drop}
use Rattle.std.specs.Prelude.{Option, Some, None, unwrap_or}
use borrow.Author.Tests.{ne_eqb}
use Rattle.rules.specs.Lists.{tabulate}
use Rattle.rules.specs.States.{StateRecord, StateArrays}
use Rattle.tasks.specs.declared.Task.{Task}
use Rattle.tasks.specs.declared.TaskSet.{TaskSet}
use Rattle.tasks.specs.Views.{no_entry, entry_of, record_of}
use Rattle.tasks.proofs.Views.{arrays}
use Rattle.player.specs.declared.Job.{Job}
use Rattle.player.specs.declared.State.{State}
use Rattle.player.proofs.Views.{eight-length, jobs-length}
use Rattle.player.specs.Views.{eight, jobs_of, runner_number, state_of}
use Rattle.player.specs.Bytes.{state_size, pair, joined, set_bytes, job_bytes, state_bytes, pair_at, task_at, set_at, state_at, readable}
use Rattle.player.proofs.Sizes.{pair_size, set-size, after_jobs, after_planned, after_slot, after_set, parts, planned-size, jobs-size, state-size}
use Rattle.player.proofs.Places.{sets-next, sets-all}

-- ── reading ─────────────────────────────────────────────────────────────────

module _ (bs : List ℕ) where
  pub set-read : (ts : List Task) → tabulate (λ k. entry_of (get_or ts k no_entry)) 0 8 ≡ tabulate (λ k. task_at bs (1 + k * 12)) 0 8
      → record_of (record { count = get_or bs 0 0; tasks = ts }) ≡ set_at bs
  unfolding record_of set_at
  set-read ts e = rw e

  pub state-read : (s : TaskSet) (slot : ℕ) (ps : List ℕ) (js : List Job) (last : Option ℕ) → record_of s ≡ set_at bs → slot ≡ get_or bs 97 0 + get_or bs 98 0 * 256 → eight ps ≡ (state_at bs).planned → jobs_of js ≡ (state_at bs).jobs
      → runner_number last ≡ get_or bs 139 0 → state_of (record { set = s; slot = slot; planned = ps; jobs = js; last = last }) ≡ state_at bs
  unfolding state_of state_at pair_at
  state-read s slot ps js last e f g h l =
      let low : slot ≡ get_or bs 97 0 + 256 * get_or bs 98 0 = omega arith in
      rw (e, low, g, h, l)

  pub short : (length bs ≡ 140 → ⊥) → false ≡ readable bs
  unfolding readable state_size
  short n = rw (ne_eqb (length bs) 140 n)

-- ── writing ─────────────────────────────────────────────────────────────────

-- a part put over what was there
pub placed : (o xs : List ℕ) (at n : ℕ) → n ≡ length xs → at + length xs ≤ length o → take at o ++ (xs ++ drop n (drop at o)) ≡ sets o at xs
placed o xs at n e h = rw (e, drop-drop (length xs) at o) (sym (sets-eq xs o at h ∙ append_assoc (take at o) xs (drop (at + length xs) o)))

-- the byte of who ran last

pub last_byte : (last : Option ℕ) → unwrap_or last 255 ≡ runner_number last
last_byte None = refl
last_byte (Some i) = refl

-- what a state stands for has arrays of the lengths that the rules ask
pub struct-arrays : (st : State) → StateArrays (state_of st)
unfolding state_of
struct-arrays st = record { in_set = arrays st.set; plans = eight-length st.planned; standings = jobs-length st.jobs }

-- one part behind the other
pub stored : (o a b c d : List ℕ) (w : StateRecord) → StateArrays w → length o ≡ 140 → a ≡ sets o 0 (set_bytes w.set) → b ≡ sets a 97 (pair w.slot)
    → c ≡ sets b 99 (joined pair w.planned) → d ≡ sets c 115 (joined job_bytes w.jobs) → set d 139 w.last ≡ state_bytes w
stored o a b c d w A h p q r s =
    let e1 = sets-next o 0 97 (set_bytes w.set) (after_set w) (set-size w.set A.in_set) in
    let e2 = sets-next (sets o 0 (set_bytes w.set)) 97 2 (pair w.slot) (after_slot w) (pair_size w.slot) in
    let e3 = sets-next (sets (sets o 0 (set_bytes w.set)) 97 (pair w.slot)) 99 16 (joined pair w.planned) (after_planned w) (planned-size w A) in
    let e4 = sets-next (sets (sets (sets o 0 (set_bytes w.set)) 97 (pair w.slot)) 99 (joined pair w.planned)) 115 24 (joined job_bytes w.jobs) (after_jobs w) (jobs-size w A) in
    rw (s, r, q, p)
    (sym (ap (λ l. sets o 0 l) (parts w) ∙ e1 ∙ e2 ∙ e3 ∙ e4) ∙ sets-all o (state_bytes w) 140 (state-size w A) (omega arith) ∙ ap (λ l. state_bytes w ++ l) (drop_of_length-le o {i = 140} (omega arith)) ∙ append-nil (state_bytes w))
