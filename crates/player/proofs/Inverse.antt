-- What is written is read back, and what is read is written back.
use mathlib.Core.Path.{◌≡◌, refl, sym, ap, ◌∙◌}
use mathlib.Core.Bool.{Bool, true}
use mathlib.Core.List.{List, [], ◌∷◌, ◌++◌, append_assoc, map, map-id}
use Prim.Native.Nat.{ℕ, zero, suc, ◌+◌, ◌*◌, ◌≤◌, ◌<◌}
use native.Mathlib.Nat.{mod-add-div, add-mul-mod_self_left, mod-eq_of_lt, zero-add, add-zero}
use native.Mathlib.Omega.{arith}
use lib.Dec.{T, leb, leb→le, eqb}
use lib.ListN.{length, get_or, drop, drop_of_length-le}
use lib.Seq.{get_or-drop, drop-cons, drop-drop, drop_at}
use borrow.Author.Tests.{le-leb, eq-eqb, eqb-true}
use Rattle.rules.specs.Lists.{tabulate, all_of}
use Rattle.rules.specs.Records.{TaskRecord, no_record, SetRecord, Arrays}
use Rattle.rules.specs.Jobs.{overrun, late, untrue, Stand, Ready, Waiting, Done, Stopped, Job, finished}
use Rattle.rules.specs.States.{StateRecord, StateArrays}
use Rattle.rules.proofs.Laws.{T_true, true-T, T_and}
use Rattle.rules.proofs.Lists.{tabulate-length, tabulate-at}
use Rattle.player.specs.Bytes.{state_size, low, high, pair, joined, task_bytes, set_bytes, stand_byte, job_bytes, state_bytes, pair_at, task_at, set_at, stand_of_byte, job_at, state_at, readable}
use Rattle.player.specs.Widths.{AllBytes}
use Rattle.player.proofs.Places.{joined-single}
use Rattle.player.proofs.Sizes.{pair_size, job-size, task-size, set-size, after_jobs, after_planned, after_slot, after_set, parts, planned-size, jobs-size, state-size}

-- ── a string from a place on ────────────────────────────────────────────────

module _ (bs : List ℕ) where
  -- what stands at a place, from what the string is from an earlier place on
  pub byte_at : (i k : ℕ) (ys : List ℕ) → drop i bs ≡ ys → get_or bs (i + k) 0 ≡ get_or ys k 0
  byte_at i k ys e = sym (get_or-drop i bs k 0) ∙ ap (λ l. get_or l k 0) e

  pub past : (i n : ℕ) (vs ws : List ℕ) → drop i bs ≡ vs ++ ws → length vs ≡ n → drop (i + n) bs ≡ ws
  past i n vs ws e l = sym (drop-drop n i bs) ∙ ap (drop n) e ∙ drop_at vs ws n l

-- ── entries of one width, one behind the other ──────────────────────────────

-- f writes an entry in n bytes; `read` reads v of it at a place; `place` is where the entries stand
module _ {A B : Type 0} (f : A → List ℕ) (n : ℕ) (v : A → B) (bs : List ℕ) (read : ℕ → B) (place : ℕ → ℕ) (next : (k : ℕ) → place (suc k) ≡ place k + n) where
  -- what is written is read back
  pub read_all : (d : A) (xs : List A) (rest : List ℕ) (j : ℕ)
      → ((k : ℕ) → k < length xs → length (f (get_or xs k d)) ≡ n)
      → ((k i : ℕ) (rest : List ℕ) → k < length xs → drop i bs ≡ f (get_or xs k d) ++ rest → read i ≡ v (get_or xs k d))
      → drop (place j) bs ≡ joined f xs ++ rest
      → tabulate (λ k. read (place k)) j (length xs) ≡ map v xs
  unfolding tabulate joined
  read_all d [] rest j l r e = refl
  read_all d (x ∷ xs) rest j l r e =
      let s : drop (place j) bs ≡ f x ++ (joined f xs ++ rest) = e ∙ append_assoc (f x) (joined f xs) rest in
      let t : drop (place (suc j)) bs ≡ joined f xs ++ rest = rw (next j) (past bs (place j) n (f x) (joined f xs ++ rest) s (l 0 (omega arith))) in
      rw (r 0 (place j) (joined f xs ++ rest) (omega arith) s, read_all d xs rest (suc j) (λ k h. l (suc k) (omega arith)) (λ k i q h. r (suc k) i q (omega arith)) t)

module _ {A : Type 0} (f : A → List ℕ) (n : ℕ) (bs : List ℕ) (read : ℕ → A) (place : ℕ → ℕ) (next : (k : ℕ) → place (suc k) ≡ place k + n) where
  -- what is read is written back
  pub write-all : (j m : ℕ) → ((k : ℕ) → k < j + m → f (read (place k)) ++ drop (place k + n) bs ≡ drop (place k) bs)
      → joined f (tabulate (λ k. read (place k)) j m) ++ drop (place (j + m)) bs ≡ drop (place j) bs
  unfolding tabulate joined
  write-all j zero h = ap (λ k. drop (place k) bs) (add-zero j)
  write-all j (suc m) h =
      let s : j + suc m ≡ suc j + m = omega arith in
      append_assoc (f (read (place j))) (joined f (tabulate (λ k. read (place k)) (suc j) m)) (drop (place (j + suc m)) bs)
      ∙ ap (λ k. f (read (place j)) ++ (joined f (tabulate (λ k. read (place k)) (suc j) m) ++ drop (place k) bs)) s
      ∙ ap (λ l. f (read (place j)) ++ l) (write-all (suc j) m (λ k l. h k (omega arith)) ∙ ap (λ k. drop k bs) (next j))
      ∙ h j (omega arith)

-- ── numbers and standings ───────────────────────────────────────────────────

split : (x : ℕ) → low x + 256 * high x ≡ x
unfolding low high
split x = mod-add-div x 256

low_of : (a b : ℕ) → a < 256 → low (a + 256 * b) ≡ a
unfolding low
low_of a b h = add-mul-mod_self_left a 256 b ∙ mod-eq_of_lt h

high-of : (a b : ℕ) → a < 256 → high (a + 256 * b) ≡ b
high-of a b h = let s = split (a + 256 * b) in let l = low_of a b h in omega arith

stand-back : (k : Stand) → stand_of_byte (stand_byte k) ≡ k
unfolding stand_of_byte stand_byte
stand-back Ready = refl
stand-back Waiting = refl
stand-back Done = refl
stand-back (Stopped overrun) = refl
stand-back (Stopped late) = refl
stand-back (Stopped untrue) = refl

stand-known : (k : Stand) → stand_byte k ≤ 5
unfolding stand_byte
stand-known Ready = omega arith
stand-known Waiting = omega arith
stand-known Done = omega arith
stand-known (Stopped overrun) = omega arith
stand-known (Stopped late) = omega arith
stand-known (Stopped untrue) = omega arith

pub byte-back : (b : ℕ) → b ≤ 5 → stand_byte (stand_of_byte b) ≡ b
unfolding stand_of_byte stand_byte
byte-back zero h = refl
byte-back (suc zero) h = refl
byte-back (suc (suc zero)) h = refl
byte-back (suc (suc (suc zero))) h = refl
byte-back (suc (suc (suc (suc zero)))) h = refl
byte-back (suc (suc (suc (suc (suc zero))))) h = refl
byte-back (suc (suc (suc (suc (suc (suc b)))))) h = absurd (omega arith)

-- ── what is written is read back ────────────────────────────────────────────

module _ (bs : List ℕ) where
  head_at : (i b : ℕ) (ys : List ℕ) → drop i bs ≡ b ∷ ys → get_or bs i 0 ≡ b
  head_at i b ys e = ap (λ k. get_or bs k 0) (sym (add-zero i)) ∙ byte_at bs i 0 (b ∷ ys) e

  pair-back : (i x : ℕ) (rest : List ℕ) → drop i bs ≡ pair x ++ rest → pair_at bs i ≡ x
  unfolding pair_at pair
  pair-back i x rest e =
      let one : i + 1 ≡ suc i = omega arith in
      let a = head_at i (low x) (high x ∷ rest) e in
      let b : get_or bs (suc i) 0 ≡ high x = ap (λ k. get_or bs k 0) (sym one) ∙ byte_at bs i 1 (low x ∷ high x ∷ rest) e in
      rw (a, b) (split x)

  job-back : (i : ℕ) (j : Job) (rest : List ℕ) → drop i bs ≡ job_bytes j ++ rest → job_at bs i ≡ j
  unfolding job_at job_bytes
  job-back i j rest e =
      let one : 1 + i ≡ i + 1 = omega arith in
      let two : 2 + i ≡ i + 2 = omega arith in
      let ys = stand_byte j.stand ∷ j.step ∷ j.given ∷ rest in
      let a = head_at i (stand_byte j.stand) (j.step ∷ j.given ∷ rest) e in
      let b : get_or bs (1 + i) 0 ≡ j.step = ap (λ k. get_or bs k 0) one ∙ byte_at bs i 1 ys e in
      let c : get_or bs (2 + i) 0 ≡ j.given = ap (λ k. get_or bs k 0) two ∙ byte_at bs i 2 ys e in
      rw (a, b, c, stand-back j.stand)

  stand-at : (i : ℕ) (j : Job) (rest : List ℕ) → drop i bs ≡ job_bytes j ++ rest → get_or bs i 0 ≡ stand_byte j.stand
  unfolding job_bytes
  stand-at i j rest e = head_at i (stand_byte j.stand) (j.step ∷ j.given ∷ rest) e

  units-back : (i : ℕ) (us rest : List ℕ) → drop (5 + i) bs ≡ us ++ rest → tabulate (λ k. get_or bs (5 + i + k) 0) 0 (length us) ≡ us
  units-back i us rest e =
      read_all (λ (u : ℕ). u ∷ []) 1 (λ (u : ℕ). u) bs (λ k. get_or bs k 0) (λ k. 5 + i + k) (λ k. omega arith) 0 us rest 0 (λ k h. refl) (λ k i q h e. head_at i (get_or us k 0) q e)
      (ap (λ k. drop k bs) (add-zero (5 + i)) ∙ e ∙ ap (λ l. l ++ rest) (sym (joined-single us)))
      ∙ map-id us

  task-back : (i : ℕ) (r : TaskRecord) (rest : List ℕ) → length r.units ≡ 7 → drop i bs ≡ task_bytes r ++ rest → task_at bs i ≡ r
  unfolding task_at task_bytes
  task-back i r rest l e =
      let P = pair r.period in
      let D = pair r.deadline in
      let two : i + 2 ≡ 2 + i = omega arith in
      let four : (2 + i) + 2 ≡ 4 + i = omega arith in
      let five : (4 + i) + 1 ≡ 5 + i = omega arith in
      let e0 : drop i bs ≡ P ++ ((D ++ (r.steps ∷ r.units)) ++ rest) = e ∙ append_assoc P (D ++ (r.steps ∷ r.units)) rest in
      let e2 : drop (2 + i) bs ≡ D ++ ((r.steps ∷ r.units) ++ rest) = ap (λ k. drop k bs) (sym two) ∙ past bs i 2 P ((D ++ (r.steps ∷ r.units)) ++ rest) e0 (pair_size r.period) ∙ append_assoc D (r.steps ∷ r.units) rest in
      let e4 : drop (4 + i) bs ≡ r.steps ∷ (r.units ++ rest) = ap (λ k. drop k bs) (sym four) ∙ past bs (2 + i) 2 D ((r.steps ∷ r.units) ++ rest) e2 (pair_size r.deadline) in
      let e5 : drop (5 + i) bs ≡ r.units ++ rest = ap (λ k. drop k bs) (sym five) ∙ past bs (4 + i) 1 (r.steps ∷ []) (r.units ++ rest) e4 refl in
      rw (
        pair-back i r.period ((D ++ (r.steps ∷ r.units)) ++ rest) e0,
        pair-back (2 + i) r.deadline ((r.steps ∷ r.units) ++ rest) e2,
        head_at (4 + i) r.steps (r.units ++ rest) e4,
        ← l,
        units-back i r.units rest e5,
      )

  pub set_back : (r : SetRecord) (rest : List ℕ) → Arrays r → bs ≡ set_bytes r ++ rest → set_at bs ≡ r
  unfolding set_at set_bytes
  set_back r rest a e =
      let eight = a.eight in
      let e1 : drop 1 bs ≡ joined task_bytes r.entries ++ rest = ap (drop 1) e in
      let entries : tabulate (λ k. task_at bs (1 + k * 12)) 0 (length r.entries) ≡ r.entries =
      read_all task_bytes 12 (λ (t : TaskRecord). t) bs (task_at bs) (λ k. 1 + k * 12) (λ k. omega arith) no_record r.entries rest 0
      (λ k h. task-size (get_or r.entries k no_record) (a.seven k (omega arith)))
      (λ k i q h e. task-back i (get_or r.entries k no_record) q (a.seven k (omega arith)) e) e1
      ∙ map-id r.entries in
      rw (head_at 0 r.count (joined task_bytes r.entries ++ rest) e, ← a.eight, entries)

-- the byte stands for a standing
abbrev known : ℕ → Bool
known b = leb b 5

-- a test of what a list holds
all_known : (js : List Job) → all_of known (map (λ j. stand_byte j.stand) js) ≡ true
unfolding all_of
all_known [] = refl
all_known (j ∷ js) = rw (le-leb (stand_byte j.stand) 5 (stand-known j.stand), all_known js)

module _ (w : StateRecord) (a : StateArrays w) where
  from97 : drop 97 (state_bytes w) ≡ after_set w
  from97 = past (state_bytes w) 0 97 (set_bytes w.set) (after_set w) (parts w) (set-size w.set a.in_set)

  from99 : drop 99 (state_bytes w) ≡ after_slot w
  from99 = past (state_bytes w) 97 2 (pair w.slot) (after_slot w) from97 (pair_size w.slot)

  from115 : drop 115 (state_bytes w) ≡ after_planned w
  from115 = past (state_bytes w) 99 16 (joined pair w.planned) (after_planned w) from99 (planned-size w a)

  from139 : drop 139 (state_bytes w) ≡ after_jobs w
  from139 = past (state_bytes w) 115 24 (joined job_bytes w.jobs) (after_jobs w) from115 (jobs-size w a)

  planned-back : tabulate (λ k. pair_at (state_bytes w) (99 + k * 2)) 0 8 ≡ w.planned
  planned-back =
      rw (← a.plans)
      (read_all pair 2 (λ (p : ℕ). p) (state_bytes w) (pair_at (state_bytes w)) (λ k. 99 + k * 2) (λ k. omega arith) 0 w.planned (after_planned w) 0
      (λ k h. pair_size (get_or w.planned k 0)) (λ k i q h e. pair-back (state_bytes w) i (get_or w.planned k 0) q e) from99
      ∙ map-id w.planned)

  jobs-back : tabulate (λ k. job_at (state_bytes w) (115 + k * 3)) 0 8 ≡ w.jobs
  jobs-back =
      rw (← a.standings)
      (read_all job_bytes 3 (λ (j : Job). j) (state_bytes w) (job_at (state_bytes w)) (λ k. 115 + k * 3) (λ k. omega arith) finished w.jobs (after_jobs w) 0
      (λ k h. job-size (get_or w.jobs k finished)) (λ k i q h e. job-back (state_bytes w) i (get_or w.jobs k finished) q e) from115
      ∙ map-id w.jobs)

  stands-back : tabulate (λ k. get_or (state_bytes w) (115 + k * 3) 0) 0 8 ≡ map (λ j. stand_byte j.stand) w.jobs
  stands-back =
      rw (← a.standings)
      (read_all job_bytes 3 (λ j. stand_byte j.stand) (state_bytes w) (λ i. get_or (state_bytes w) i 0) (λ k. 115 + k * 3) (λ k. omega arith) finished w.jobs (after_jobs w) 0
      (λ k h. job-size (get_or w.jobs k finished)) (λ k i q h e. stand-at (state_bytes w) i (get_or w.jobs k finished) q e) from115)

  pub state-back : state_at (state_bytes w) ≡ w
  unfolding state_at
  state-back =
      rw (
        set_back (state_bytes w) w.set (after_set w) a.in_set (parts w),
        pair-back (state_bytes w) 97 w.slot (after_slot w) from97,
        planned-back,
        jobs-back,
        head_at (state_bytes w) 139 w.last [] from139,
      )

  pub readable-back : readable (state_bytes w) ≡ true
  unfolding readable state_size
  readable-back = rw (eq-eqb (length (state_bytes w)) 140 (state-size w a), stands-back, all_known w.jobs)

-- ── what is read is written back ────────────────────────────────────────────

-- a test that passes everywhere passes at a place
all-at : (l : List ℕ) → T (all_of known l) → (k : ℕ) → k < length l → get_or l k 0 ≤ 5
unfolding all_of
all-at [] t k h = absurd (omega arith)
all-at (x ∷ xs) t zero h = leb→le x 5 (T_and (known x) (all_of known xs) t).0
all-at (x ∷ xs) t (suc k) h = all-at xs (T_and (known x) (all_of known xs) t).1 k (omega arith)

module _ (bs : List ℕ) (ok : readable bs ≡ true) where
  pub readable-size : length bs ≡ 140
  unfolding readable state_size
  readable-size = eqb-true (length bs) 140 (T_true (eqb (length bs) 140) (T_and (eqb (length bs) 140) (all_of known (tabulate (λ k. get_or bs (115 + k * 3) 0) 0 8)) (true-T (readable bs) ok)).0)

  readable-stands : T (all_of known (tabulate (λ k. get_or bs (115 + k * 3) 0) 0 8))
  unfolding readable state_size
  readable-stands = (T_and (eqb (length bs) 140) (all_of known (tabulate (λ k. get_or bs (115 + k * 3) 0) 0 8)) (true-T (readable bs) ok)).1

  pub stand-fits : (k : ℕ) → k < 8 → get_or bs (115 + k * 3) 0 ≤ 5
  stand-fits k h =
      let e = tabulate-at (λ k. get_or bs (115 + k * 3) 0) 0 8 k 0 h ∙ ap (λ k. get_or bs (115 + k * 3) 0) (zero-add k) in
      let l = tabulate-length (λ k. get_or bs (115 + k * 3) 0) 0 8 in
      rw e at (all-at (tabulate (λ k. get_or bs (115 + k * 3) 0) 0 8) readable-stands k (omega arith))

module _ (bs : List ℕ) (bytes : AllBytes bs) where
  pair-whole : (i : ℕ) → i + 2 ≤ length bs → pair (pair_at bs i) ++ drop (i + 2) bs ≡ drop i bs
  unfolding pair pair_at
  pair-whole i h =
      let two : i + 2 ≡ suc (suc i) = omega arith in
      rw (low_of (get_or bs i 0) (get_or bs (suc i) 0) (bytes i), high-of (get_or bs i 0) (get_or bs (suc i) 0) (bytes i), two)
      (sym (drop-cons bs i 0 (omega arith) ∙ ap (λ l. get_or bs i 0 ∷ l) (drop-cons bs (suc i) 0 (omega arith))))

  job-whole : (i : ℕ) → i + 3 ≤ length bs → get_or bs i 0 ≤ 5 → job_bytes (job_at bs i) ++ drop (i + 3) bs ≡ drop i bs
  unfolding job_bytes job_at
  job-whole i h k =
      let one : 1 + i ≡ suc i = omega arith in
      let two : 2 + i ≡ suc (suc i) = omega arith in
      let three : i + 3 ≡ suc (suc (suc i)) = omega arith in
      rw (byte-back (get_or bs i 0) k, one, two, three)
      (sym (drop-cons bs i 0 (omega arith) ∙ ap (λ l. get_or bs i 0 ∷ l) (drop-cons bs (suc i) 0 (omega arith) ∙ ap (λ l. get_or bs (suc i) 0 ∷ l) (drop-cons bs (suc (suc i)) 0 (omega arith)))))

  one-whole : (i : ℕ) → i < length bs → (get_or bs i 0 ∷ []) ++ drop (i + 1) bs ≡ drop i bs
  one-whole i h = let one : i + 1 ≡ suc i = omega arith in rw one (sym (drop-cons bs i 0 h))

  units-whole : (i : ℕ) → 5 + i + 7 ≤ length bs → tabulate (λ k. get_or bs (5 + i + k) 0) 0 7 ++ drop (5 + i + 7) bs ≡ drop (5 + i) bs
  units-whole i h =
      rw (← joined-single (tabulate (λ k. get_or bs (5 + i + k) 0) 0 7))
      (write-all (λ (u : ℕ). u ∷ []) 1 bs (λ k. get_or bs k 0) (λ k. 5 + i + k) (λ k. omega arith) 0 7 (λ k l. one-whole (5 + i + k) (omega arith)))
      ∙ ap (λ k. drop k bs) (add-zero (5 + i))

  task-whole : (i : ℕ) → i + 12 ≤ length bs → task_bytes (task_at bs i) ++ drop (i + 12) bs ≡ drop i bs
  unfolding task_bytes task_at
  task-whole i h =
      let P = pair (pair_at bs i) in
      let D = pair (pair_at bs (2 + i)) in
      let U = tabulate (λ k. get_or bs (5 + i + k) 0) 0 7 in
      let m = get_or bs (4 + i) 0 in
      let R = drop (i + 12) bs in
      let two : 2 + i ≡ i + 2 = omega arith in
      let four : 2 + i + 2 ≡ 4 + i = omega arith in
      let five : 5 + i ≡ 4 + i + 1 = omega arith in
      let all : i + 12 ≡ 5 + i + 7 = omega arith in
      let u : U ++ R ≡ drop (5 + i) bs = ap (λ k. U ++ drop k bs) all ∙ units-whole i (omega arith) in
      let s : (m ∷ U) ++ R ≡ drop (4 + i) bs = ap (λ l. m ∷ l) (u ∙ ap (λ k. drop k bs) five) ∙ one-whole (4 + i) (omega arith) in
      let d : (D ++ (m ∷ U)) ++ R ≡ drop (2 + i) bs = append_assoc D (m ∷ U) R ∙ ap (λ l. D ++ l) (s ∙ ap (λ k. drop k bs) (sym four)) ∙ pair-whole (2 + i) (omega arith) in
      append_assoc P (D ++ (m ∷ U)) R ∙ ap (λ l. P ++ l) (d ∙ ap (λ k. drop k bs) two) ∙ pair-whole i (omega arith)

  pub set-whole : 97 ≤ length bs → set_bytes (set_at bs) ++ drop 97 bs ≡ bs
  unfolding set_bytes set_at
  set-whole h =
      ap (λ l. get_or bs 0 0 ∷ l) (write-all task_bytes 12 bs (task_at bs) (λ k. 1 + k * 12) (λ k. omega arith) 0 8 (λ k l. task-whole (1 + k * 12) (omega arith)))
      ∙ sym (drop-cons bs 0 0 (omega arith))

  pub state-whole : readable bs ≡ true → state_bytes (state_at bs) ≡ bs
  unfolding state_bytes state_at
  state-whole ok =
      let n = readable-size bs ok in
      let S = set_bytes (set_at bs) in
      let P = pair (pair_at bs 97) in
      let Q = joined pair (tabulate (λ k. pair_at bs (99 + k * 2)) 0 8) in
      let J = joined job_bytes (tabulate (λ k. job_at bs (115 + k * 3)) 0 8) in
      let l : get_or bs 139 0 ∷ [] ≡ drop 139 bs = sym (drop-cons bs 139 0 (omega arith) ∙ ap (λ l. get_or bs 139 0 ∷ l) (drop_of_length-le bs {i = 140} (omega arith))) in
      let j : J ++ drop 139 bs ≡ drop 115 bs = write-all job_bytes 3 bs (job_at bs) (λ k. 115 + k * 3) (λ k. omega arith) 0 8 (λ k l. job-whole (115 + k * 3) (omega arith) (stand-fits bs ok k (omega arith))) in
      let q : Q ++ drop 115 bs ≡ drop 99 bs = write-all pair 2 bs (pair_at bs) (λ k. 99 + k * 2) (λ k. omega arith) 0 8 (λ k l. pair-whole (99 + k * 2) (omega arith)) in
      let p : P ++ drop 99 bs ≡ drop 97 bs = pair-whole 97 (omega arith) in
      rw (l, j, q, p) (set-whole (omega arith))
