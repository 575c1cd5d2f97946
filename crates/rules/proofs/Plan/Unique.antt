-- Two replies to one call agree.
use mathlib.Core.Path.{◌≡◌, refl, sym, ap, ap₂, ◌∙◌}
use mathlib.Core.Logic.{◌⊎◌, inl, inr, ◌≢◌}
use mathlib.Core.Bool.{Bool, true, false}
use mathlib.Core.List.{List, [], ◌∷◌, ◌++◌}
use Prim.Native.Nat.{ℕ, suc, ◌*◌, ◌≤◌, ◌<◌}
use native.Mathlib.Omega.{arith}
use lib.Dec.{T}
use lib.ListN.{length, drop, length-append}
use lib.Seq.{drop_at}
use Rattle.rules.specs.Lists.{In, Distinct}
use Rattle.rules.specs.Tasks.{Task}
use Rattle.rules.specs.Hyper.{hyper}
use Rattle.rules.specs.Positions.{Position, start}
use Rattle.rules.specs.Choices.{before, First, Counted}
use Rattle.rules.specs.Planner.{records, room, Precede, Word, out_of_room, Verdict, no_room, found, failed, Reply, Planned}
use Rattle.rules.proofs.Laws.{true-T, le-or-lt}
use Rattle.rules.proofs.Run.Reach.{run_length, start-length}
use Rattle.rules.proofs.Plan.Decide.{In-left, In-right, In-append, cons-before}
use Rattle.rules.proofs.Plan.Answer.{member, member-In, In-member}

-- ── the order is total on lists of one length ───────────────────────────────

neither : (f g : List ℕ) → length f ≡ length g → ¬ T (before f g) → ¬ T (before g f) → f ≡ g
neither [] [] e p q = refl
neither [] (d ∷ g) e p q = let z : ⊥ = omega arith in absurd z
neither (c ∷ f) [] e p q = let z : ⊥ = omega arith in absurd z
neither (c ∷ f) (d ∷ g) e p q = go (le-or-lt c d) (le-or-lt d c) (neither f g (omega arith))
  where
    go : (c ≤ d) ⊎ (d < c) → (d ≤ c) ⊎ (c < d) → (¬ T (before f g) → ¬ T (before g f) → f ≡ g) → ◌≡◌ {A = List ℕ} (c ∷ f) (d ∷ g)
    go (inr h) k ih = absurd (q (cons-before d c g f (inl h)))
    go (inl h) (inr k) ih = absurd (p (cons-before c d f g (inl k)))
    go (inl h) (inl k) ih =
        let w : c ≡ d = omega arith in
        ap₂ {C = List ℕ} (λ a l. a ∷ l) w (ih (λ t. p (cons-before c d f g (inr (w, t)))) (λ t. q (cons-before d c g f (inr (sym w, t)))))

pub first-unique : (s : List Task) (f g : List ℕ) → First s f → First s g → f ≡ g
first-unique s f g F G = neither f g (F.schedule.long ∙ sym G.schedule.long) (G.least f F.schedule) (F.least g G.schedule)

-- ── distinct lists of one set have one length ───────────────────────────────

split : (x : Position) (ys : List Position) → In x ys → (us : List Position) × (bs : List Position) × (ys ≡ us ++ x ∷ bs)
split x [] h = absurd h
split x (y ∷ ys) (inl e) = ([], ys, ap {B = List Position} (λ z. z ∷ ys) (sym e))
split x (y ∷ ys) (inr h) = let r = split x ys h in (y ∷ r.0, r.1, ap {B = List Position} (λ l. y ∷ l) r.2)

In-middle : (z x : Position) (us bs : List Position) → In z (us ++ x ∷ bs) → (z ≡ x) ⊎ In z (us ++ bs)
In-middle z x us bs h = go (In-append z us (x ∷ bs) h)
  where
    go : In z us ⊎ In z (x ∷ bs) → (z ≡ x) ⊎ In z (us ++ bs)
    go (inl k) = inr (In-left z us bs k)
    go (inr (inl e)) = inl e
    go (inr (inr k)) = inr (In-right z us bs k)

pub pigeon : (xs ys : List Position) → Distinct xs → ((x : Position) → In x xs → In x ys) → length xs ≤ length ys
pigeon [] ys d sub = omega arith
pigeon (x ∷ xs) ys d sub =
    let r = split x ys (sub x (inl refl)) in
    let ih = pigeon xs (r.0 ++ r.1) d.1 (λ z h. go z r.0 r.1 h (In-middle z x r.0 r.1 (rw r.2 at (sub z (inr h))))) in
    let a = length-append r.0 r.1 in
    let b = length-append r.0 (x ∷ r.1) in
    rw r.2 (omega arith)
  where
    go : (z : Position) (us bs : List Position) → In z xs → (z ≡ x) ⊎ In z (us ++ bs) → In z (us ++ bs)
    go z us bs h (inl e) = absurd (d.0 (rw e at h))
    go z us bs h (inr k) = k

pub precede-size : (s : List Task) (a b : List Position) → Precede s a → Precede s b → length a ≡ length b
precede-size s a b A B =
    let p = pigeon a b A.distinct (λ x h. B.all x (A.only x h)) in
    let q = pigeon b a B.distinct (λ x h. A.all x (B.only x h)) in
    omega arith

-- us many us all are all
pub full : (xs ys : List Position) → Distinct xs → ((x : Position) → In x xs → In x ys) → length xs ≡ length ys → (y : Position) → In y ys → In y xs
full xs ys d sub e y h = go (member y xs) refl
  where
    go : (b : Bool) → member y xs ≡ b → In y xs
    go true m = member-In y xs (true-T _ m)
    go false m =
        let n : ¬ In y xs = λ k. rw m at (In-member y xs k) in
        let p = pigeon (y ∷ xs) ys (n, d) sub' in
        let z : ⊥ = omega arith in absurd z
      where
        sub' : (x : Position) → In x (y ∷ xs) → In x ys
        sub' x (inl q) = rw q h
        sub' x (inr q) = sub x q

-- ── the verdict is one ──────────────────────────────────────────────────────

pub record SameVerdict (w w' : Word) (n n' : ℕ) (f f' : List ℕ) : Type 0 where
  pub word : w ≡ w'
  pub count : n ≡ n'
  pub front : f ≡ f'

verdict-unique : (s : List Task) (K B : ℕ) {w w' : Word} {n n' : ℕ} {f f' : List ℕ} → Verdict s K B w n f → Verdict s K B w' n' f' → SameVerdict w w' n n' f f'
verdict-unique s K B (no_room h) (no_room k) = record { word = refl; count = refl; front = refl }
verdict-unique s K B (no_room h) (found k G) = let z : ⊥ = omega arith in absurd z
verdict-unique s K B (no_room h) (failed k G) = let z : ⊥ = omega arith in absurd z
verdict-unique s K B (found h F) (no_room k) = let z : ⊥ = omega arith in absurd z
verdict-unique s K B (found {f = f} h F) (found {f = g} k G) = record { word = refl; count = refl; front = first-unique s f g F G }
verdict-unique s K B (found {f = f} h F) (failed k G) = absurd (G f F.schedule)
verdict-unique s K B (failed h F) (no_room k) = let z : ⊥ = omega arith in absurd z
verdict-unique s K B (failed h F) (found {f = g} k G) = absurd (F g G.schedule)
verdict-unique s K B (failed h F) (failed k G) = record { word = refl; count = refl; front = refl }

-- ── the reply is one ────────────────────────────────────────────────────────

counted-length : (s : List Task) (x : Position) → Counted s x → length x.progress ≡ length s
counted-length s x C = rw C.reached at (run_length s (start s) C.by (start-length s))

records-length : (n : ℕ) (xs : List Position) → ((x : Position) → In x xs → length x.progress ≡ n) → length (records xs) ≡ length xs * suc n
unfolding records
records-length n [] h = omega arith
records-length n (x ∷ xs) h =
    let a = length-append x.progress (records xs) in
    let b = h x (inl refl) in
    let c = records-length n xs (λ y k. h y (inr k)) in
    omega arith

-- what two replies share: word, count, the whole table, and the area beyond the records
pub record Agree (s : List Task) (r q : Reply) : Type 0 where
  pub word : r.word ≡ q.word
  pub count : r.count ≡ q.count
  pub table : r.table ≡ q.table
  pub beyond : drop (r.count * suc (length s)) r.area ≡ drop (q.count * suc (length s)) q.area

area-beyond : (s : List Task) (table area : List ℕ) (r : Reply) → Planned s table area r → drop (r.count * suc (length s)) r.area ≡ drop (r.count * suc (length s)) area
area-beyond s table area r P =
    let l = records-length (length s) P.kept (λ x h. counted-length s x (P.kept_only x h)) in
    rw P.area_is (drop_at (records P.kept) (drop (r.count * suc (length s)) area) (r.count * suc (length s)) (l ∙ ap (λ n. n * suc (length s)) P.kept_many))

pub planned-unique : (s : List Task) (table area : List ℕ) (r q : Reply) → Planned s table area r → Planned s table area q → Agree s r q
planned-unique s table area r q P Q =
    let e = precede-size s P.dead Q.dead P.precede Q.precede in
    let W = verdict-unique s (room s area) (length Q.dead) (rw e at P.verdict) Q.verdict in
    record {
      word = W.word;
      count = W.count;
      table = P.table_is ∙ ap (λ f. f ++ drop (hyper s) table) W.front ∙ sym Q.table_is;
      beyond = area-beyond s table area r P ∙ ap (λ n. drop (n * suc (length s)) area) W.count ∙ sym (area-beyond s table area q Q);
    }

-- and, where it isn't out of room, the records are exactly those counted
pub planned-records : (s : List Task) (table area : List ℕ) (r : Reply) (P : Planned s table area r) → r.word ≢ out_of_room → (x : Position) → Counted s x → In x P.kept
planned-records s table area r P w x C = full P.kept P.dead P.kept_distinct (λ y h. P.precede.all y (P.kept_only y h)) (P.kept_many ∙ go P.verdict w) x (P.precede.all x C)
  where
    go : {w : Word} {n : ℕ} {f : List ℕ} → Verdict s (room s area) (length P.dead) w n f → w ≢ out_of_room → n ≡ length P.dead
    go (no_room h) k = absurd (k refl)
    go (found h F) k = refl
    go (failed h F) k = refl

-- ── a larger area ───────────────────────────────────────────────────────────

verdict-room : (s : List Task) (K L B : ℕ) {w : Word} {n : ℕ} {f : List ℕ} → B ≤ K → B ≤ L → Verdict s K B w n f → Verdict s L B w n f
verdict-room s K L B k l (no_room h) = let z : ⊥ = omega arith in absurd z
verdict-room s K L B k l (found {f = f} h F) = found {f = f} l F
verdict-room s K L B k l (failed h F) = failed l F

-- With room for every dead position that precedes the reply, a larger area changes neither word nor count nor table
pub room-enough : (s : List Task) (table a b : List ℕ) (r q : Reply) (P : Planned s table a r) (Q : Planned s table b q) → length P.dead ≤ room s a → length P.dead ≤ room s b
    → (r.word ≡ q.word) × (r.count ≡ q.count) × (r.table ≡ q.table)
room-enough s table a b r q P Q h k =
    let e = precede-size s P.dead Q.dead P.precede Q.precede in
    let W = verdict-unique s (room s b) (length P.dead) (verdict-room s (room s a) (room s b) (length P.dead) h k P.verdict) (rw (sym e) at Q.verdict) in
    (W.word, W.count, P.table_is ∙ ap (λ f. f ++ drop (hyper s) table) W.front ∙ sym Q.table_is)
