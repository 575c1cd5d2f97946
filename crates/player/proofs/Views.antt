-- The views by place: the numbers and the jobs of an array, and those of the tasks in use.
use mathlib.Core.Path.{◌≡◌, refl, sym, ap, ◌∙◌}
use mathlib.Core.List.{List, ◌∷◌, map}
use Prim.Native.Nat.{ℕ, zero, suc, ◌<◌}
use native.Mathlib.Nat.{zero-add}
use native.Mathlib.Omega.{arith}
use lib.ListN.{length, get_or, take, replicate, length-map, get_or-map}
use lib.Seq.{ext_get_or, get_or-take}
use Rattle.std.specs.Prelude.{Result, Ok, Err, IsErrAnd}
use Rattle.rules.specs.Lists.{tabulate}
use Rattle.rules.specs.Jobs as model
use Rattle.rules.proofs.Lists.{tabulate-at, tabulate-length}
use Rattle.player.specs.declared.Job.{Job}
use Rattle.player.specs.Views.{no_job, job_of, eight, jobs_of}

-- a list of n numbers is the table of them
pub listed : (l : List ℕ) (n : ℕ) → length l ≡ n → tabulate (λ i. get_or l i 0) 0 n ≡ l
listed l n e =
    let t = tabulate-length (λ i. get_or l i 0) 0 n in
    ext_get_or 0 (tabulate (λ i. get_or l i 0) 0 n) l (omega arith) (λ i h. tabulate-at (λ i. get_or l i 0) 0 n i 0 (omega arith) ∙ ap (λ i. get_or l i 0) (omega arith))

-- a list of which each entry is read through f
pub mapped : {A B : Type 0} (f : A → B) (l : List A) (d : A) (n : ℕ) → length l ≡ n → tabulate (λ i. f (get_or l i d)) 0 n ≡ map f l
mapped f l d n e =
    let t = tabulate-length (λ i. f (get_or l i d)) 0 n in
    let m = length-map l f in
    ext_get_or (f d) (tabulate (λ i. f (get_or l i d)) 0 n) (map f l) (omega arith) (λ i h. tabulate-at (λ i. f (get_or l i d)) 0 n i (f d) (omega arith) ∙ rw zero-add (sym (get_or-map f l i d)))

-- ── the arrays ──────────────────────────────────────────────────────────────

number : List ℕ → ℕ → ℕ
number p i = get_or p i 0

job : List Job → ℕ → model.Job
job js i = job_of (get_or js i no_job)

pub eight-length : (p : List ℕ) → length (eight p) ≡ 8
unfolding eight number
eight-length p = tabulate-length (number p) 0 8

pub eight-at : (p : List ℕ) (i d : ℕ) → i < 8 → get_or (eight p) i d ≡ get_or p i 0
unfolding eight number
eight-at p i d h = tabulate-at (number p) 0 8 i d h ∙ ap (number p) (omega arith)

-- an array of eight numbers is its view
pub eight-same : (p : List ℕ) → length p ≡ 8 → eight p ≡ p
unfolding eight
eight-same p e = listed p 8 e

pub jobs-length : (js : List Job) → length (jobs_of js) ≡ 8
unfolding jobs_of job
jobs-length js = tabulate-length (job js) 0 8

pub jobs-at : (js : List Job) (i : ℕ) (d : model.Job) → i < 8 → get_or (jobs_of js) i d ≡ job_of (get_or js i no_job)
unfolding jobs_of job
jobs-at js i d h = tabulate-at (job js) 0 8 i d h ∙ ap (job js) (omega arith)

pub jobs-map : (js : List Job) → length js ≡ 8 → jobs_of js ≡ map job_of js
unfolding jobs_of
jobs-map js e = mapped job_of js no_job 8 e

-- those of the first n tasks
pub plan-at : (p : List ℕ) (n i : ℕ) → i < n → i < 8 → get_or (take n (eight p)) i 0 ≡ get_or p i 0
plan-at p n i h k = get_or-take n (eight p) i 0 h ∙ eight-at p i 0 k

pub job-at : (js : List Job) (n i : ℕ) (d : model.Job) → i < n → i < 8 → get_or (take n (jobs_of js)) i d ≡ job_of (get_or js i no_job)
job-at js n i d h k = get_or-take n (jobs_of js) i d h ∙ jobs-at js i d k

pub map-replicate : {A B : Type 0} (f : A → B) (n : ℕ) (x : A) → map f (replicate n x) ≡ replicate n (f x)
map-replicate f zero x = refl
map-replicate f (suc n) x = ap (λ l. f x ∷ l) (map-replicate f n x)

-- ── an error passed on ──────────────────────────────────────────────────────

pub passed_on : {A E : Type 0} (q : Result A E) (r : E) → IsErrAnd q (λ o. o ≡ r) → q ≡ Err r
passed_on (Ok x) r h = absurd h
passed_on (Err o) r h = ap Err h
