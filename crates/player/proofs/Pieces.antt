-- A string in pieces of one length: what is read from a piece, and pieces one behind the other.
use Rattle.std.proofs.Common.{◌≡◌, true, false, ◌/◌, ◌%◌, ℕ, zero, suc, ◌+◌, ◌*◌, ◌≤◌, ◌<◌, List, [], ◌∷◌, ◌++◌, length, get_or, take, drop, map, refl, sym, ap, ◌∙◌, arith}
use Rattle.std.proofs.lemmas.List.{get_or-drop, get_or-take}
use Rattle.std.specs.Prelude.{Option, None, IsSome}
use Rattle.std.specs.Simd.{first_chunks}
use Rattle.std.specs.List.{flat_map}
use mathlib.Core.Bool.{Bool, cond}
use lib.Dec.{leb}
use borrow.Author.Tests.{eq-eqb, le-leb}
use lib.Seq.{ext_get_or}
use Rattle.rules.specs.Lists.{tabulate, all_of}
use Rattle.rules.specs.Records.{TaskRecord}
use Rattle.rules.specs.Jobs.{Job}
use Rattle.rules.proofs.Lists.{clash-bool, tabulate-length, tabulate-at}
use Rattle.player.specs.Bytes.{low, high, pair, joined, pair_at, task_at, set_at, job_at, state_size, readable}
use Rattle.player.proofs.Inverse.{stand-fits}
use Rattle.player.proofs.Places.{tabulate-same, Got}

-- ── reading ─────────────────────────────────────────────────────────────────

-- the first n bytes of xs are those of bs from a place on
pub record Holds (xs bs : List ℕ) (at n : ℕ) : Type 0 where
  pub byte : (j : ℕ) → j < n → get_or xs j 0 ≡ get_or bs (at + j) 0

chunk_byte : (n m k j : ℕ) (xs : List ℕ) → k < m → j < n → get_or (get_or (first_chunks n m xs) k []) j 0 ≡ get_or xs (k * n + j) 0
chunk_byte n zero k j xs h l = absurd (omega arith)
chunk_byte n (suc m) zero j xs h l = get_or-take n xs j 0 l ∙ ap (λ i. get_or xs i 0) (omega arith)
chunk_byte n (suc m) (suc k) j xs h l = chunk_byte n m k j (drop n xs) (omega arith) l ∙ get_or-drop n xs (k * n + j) 0 ∙ ap (λ i. get_or xs i 0) (omega arith)

-- piece k, of n bytes, of the w bytes from place a on
pub piece_holds : (bs : List ℕ) (a w n m k : ℕ) → k < m → k * n + n ≤ w → Holds (get_or (first_chunks n m (take w (drop a bs))) k []) bs (a + k * n) n
piece_holds bs a w n m k h l = record {
  byte = λ j i. chunk_byte n m k j (take w (drop a bs)) h i ∙ get_or-take w (drop a bs) (k * n + j) 0 (omega arith) ∙ get_or-drop a bs (k * n + j) 0 ∙ ap (λ i. get_or bs i 0) (omega arith);
}

-- what stands at place i of xs stands at place j of bs
module _ (xs bs : List ℕ) (at n : ℕ) (h : Holds xs bs at n) where
  byte_held : (i j : ℕ) → i < n → j ≡ at + i → get_or xs i 0 ≡ get_or bs j 0
  byte_held i j l e = h.byte i l ∙ ap (λ k. get_or bs k 0) (sym e)

  pub pair_held : (i j : ℕ) → i + 2 ≤ n → j ≡ at + i → pair_at xs i ≡ pair_at bs j
  unfolding pair_at
  pair_held i j l e = rw (byte_held i j (omega arith) e, byte_held (suc i) (suc j) (omega arith) (omega arith))

  pub job_held : (i j : ℕ) → i + 3 ≤ n → j ≡ at + i → job_at xs i ≡ job_at bs j
  unfolding job_at
  job_held i j l e = rw (byte_held i j (omega arith) e, byte_held (1 + i) (1 + j) (omega arith) (omega arith), byte_held (2 + i) (2 + j) (omega arith) (omega arith))

  pub task_held : (i j : ℕ) → i + 12 ≤ n → j ≡ at + i → task_at xs i ≡ task_at bs j
  unfolding task_at
  task_held i j l e =
      let units = tabulate-same (λ k. get_or xs (5 + i + k) 0) (λ k. get_or bs (5 + j + k) 0) 0 7 (λ k m. byte_held (5 + i + k) (5 + j + k) (omega arith) (omega arith)) in
      rw (pair_held i j (omega arith) e, pair_held (2 + i) (2 + j) (omega arith) (omega arith), byte_held (4 + i) (4 + j) (omega arith) (omega arith), units)

-- a set stands at the start of a string
pub set_start : (xs bs : List ℕ) → xs ≡ take 97 bs → set_at xs ≡ set_at bs
unfolding set_at
set_start xs bs e =
    let h : Holds xs bs 0 97 = record { byte = λ j l. ap (λ l. get_or l j 0) e ∙ get_or-take 97 bs j 0 l ∙ ap (λ i. get_or bs i 0) (omega arith) } in
    let tasks = tabulate-same (λ k. task_at xs (1 + k * 12)) (λ k. task_at bs (1 + k * 12)) 0 8 (λ k l. task_held xs bs 0 97 h (1 + k * 12) (1 + k * 12) (omega arith) (omega arith)) in
    rw (byte_held xs bs 0 97 h 0 0 (omega arith) refl, tasks)

count : (n m : ℕ) (xs : List ℕ) → length (first_chunks n m xs) ≡ m
count n zero xs = refl
count n (suc m) xs = ap suc (count n m (drop n xs))

low_first : (xs : List ℕ) (x : ℕ) → x ≡ get_or xs 0 0 + get_or xs 1 0 * 256 → x ≡ pair_at xs 0
unfolding pair_at
low_first xs x q = omega arith

-- what is read from piece k of the w bytes from place a on
module _ (bs : List ℕ) (a w m k : ℕ) (ps : List (List ℕ)) where
  piece : (n : ℕ) → ps ≡ first_chunks n m (take w (drop a bs)) → k < length ps → k * n + n ≤ w → Holds (get_or ps k []) bs (a + k * n) n
  piece n e h l =
      let c = count n m (take w (drop a bs)) in
      let d = ap length e in
      rw e (piece_holds bs a w n m k (omega arith) l)

  pub number_read : (x : ℕ) → ps ≡ first_chunks 2 m (take w (drop a bs)) → k < length ps → k * 2 + 2 ≤ w → x ≡ get_or (get_or ps k []) 0 0 + get_or (get_or ps k []) 1 0 * 256 → x ≡ pair_at bs (a + k * 2)
  number_read x e h l q = low_first (get_or ps k []) x q ∙ pair_held (get_or ps k []) bs (a + k * 2) 2 (piece 2 e h l) 0 (a + k * 2) (omega arith) (omega arith)

  pub task_read : (r : TaskRecord) → ps ≡ first_chunks 12 m (take w (drop a bs)) → k < length ps → k * 12 + 12 ≤ w → r ≡ task_at (get_or ps k []) 0 → r ≡ task_at bs (a + k * 12)
  task_read r e h l q = q ∙ task_held (get_or ps k []) bs (a + k * 12) 12 (piece 12 e h l) 0 (a + k * 12) (omega arith) (omega arith)

  pub job_read : (j : Job) → ps ≡ first_chunks 3 m (take w (drop a bs)) → k < length ps → k * 3 + 3 ≤ w → j ≡ job_at (get_or ps k []) 0 → j ≡ job_at bs (a + k * 3)
  job_read j e h l q = q ∙ job_held (get_or ps k []) bs (a + k * 3) 3 (piece 3 e h l) 0 (a + k * 3) (omega arith) (omega arith)

  pub stand_read : ps ≡ first_chunks 3 m (take w (drop a bs)) → k < length ps → k * 3 + 3 ≤ w → get_or (get_or ps k []) 0 0 ≡ get_or bs (a + k * 3) 0
  stand_read e h l = (piece 3 e h l).byte 0 (omega arith) ∙ ap (λ i. get_or bs i 0) (omega arith)

-- every standing is known
all_below : (bs : List ℕ) (i n : ℕ) → ((k : ℕ) → k < i + n → get_or bs (115 + k * 3) 0 ≤ 5) → all_of (λ b. leb b 5) (tabulate (λ k. get_or bs (115 + k * 3) 0) i n) ≡ true
unfolding all_of tabulate
all_below bs i zero h = refl
all_below bs i (suc n) h = rw (le-leb (get_or bs (115 + i * 3) 0) 5 (h i (omega arith)), all_below bs (suc i) n (λ k l. h k (omega arith)))

pub all_known : (bs : List ℕ) → length bs ≡ 140 → ((k : ℕ) → k < 8 → get_or bs (115 + k * 3) 0 ≤ 5) → readable bs ≡ true
unfolding readable state_size
all_known bs long h = rw (eq-eqb (length bs) 140 long) (all_below bs 0 8 h)

-- a standing that is none: the string can't be read
pub none_readable : {X : Type 0} (bs : List ℕ) (r : Option X) (k : ℕ) → r ≡ None → k < 8 → (get_or bs (115 + k * 3) 0 ≤ 5 → ◌≡◌ {A = Bool} false true) → (IsSome r → readable bs ≡ true) × (readable bs ≡ true → IsSome r)
none_readable bs r k e l h = rw e (λ z. clash-bool z, λ t. h (stand-fits bs t k l))

-- ── writing ─────────────────────────────────────────────────────────────────

pub number_held : (x : ℕ) (bs : List ℕ) → x < 65536 → bs ≡ x % 256 ∷ x / 256 % 256 ∷ [] → bs ≡ pair x
unfolding pair low high
number_held x bs h e = let high : x / 256 % 256 ≡ x / 256 = omega arith in e ∙ rw high refl

module _ {A : Type 0} (f : A → List ℕ) where
  pub joined_map : (xs : List A) → flat_map (λ x. x) (map f xs) ≡ joined f xs
  unfolding joined
  joined_map [] = refl
  joined_map (x ∷ xs) = ap (λ l. f x ++ l) (joined_map xs)

  map_tabulate : (g : ℕ → A) (i n : ℕ) → map f (tabulate g i n) ≡ tabulate (λ k. f (g k)) i n
  unfolding tabulate
  map_tabulate g i zero = refl
  map_tabulate g i (suc n) = ap (λ l. f (g i) ∷ l) (map_tabulate g (suc i) n)

  -- the pieces one behind the other
  pub flat_pieces : (l : List (List ℕ)) (xs : List A) (all : List ℕ) → l ≡ map f xs → all ≡ flat_map (λ x. x) l → all ≡ joined f xs
  flat_pieces l xs all e q = q ∙ ap (flat_map (λ x. x)) e ∙ joined_map xs

  -- all pieces are made
  pub got_map : (g : ℕ → A) (m i : ℕ) (l : List (List ℕ)) → Got m (λ (x : List ℕ). x) [] (λ k. f (g k)) i l → m ≤ i → l ≡ map f (tabulate g 0 m)
  got_map g m i l s h =
      let t = tabulate-length (λ k. f (g k)) 0 m in
      let long = s.long in
      ext_get_or [] l (tabulate (λ k. f (g k)) 0 m) (omega arith) (λ k n. s.done k (omega arith) ∙ sym (tabulate-at (λ k. f (g k)) 0 m k [] (omega arith) ∙ ap (λ k. f (g k)) (omega arith)))
      ∙ sym (map_tabulate g 0 m)

-- a string that has room
pub cond_room : (n m : ℕ) (xs ys : List ℕ) → n ≤ m → cond (leb n m) xs ys ≡ xs
cond_room n m xs ys h = rw (le-leb n m h)

pub ruleset piece_laws = (got_map, flat_pieces)
