-- The freedom of the area, told of its numbers alone.
use mathlib.Core.Path.{◌≡◌, refl, sym, ap, ◌∙◌}
use mathlib.Core.Logic.{inl, inr, ◌≢◌}
use mathlib.Core.List.{List, [], ◌∷◌, ◌++◌}
use Prim.Native.Nat.{ℕ, zero, suc, ◌+◌, ◌*◌, ◌<◌}
use native.Mathlib.Omega.{arith}
use lib.ListN.{length, get_or, take, drop}
use lib.Seq.{take_at, drop-append-add}
use Rattle.rules.specs.Lists.{In}
use Rattle.rules.specs.Tasks.{Task}
use Rattle.rules.specs.Positions.{Position, start}
use Rattle.rules.specs.Choices.{Counted}
use Rattle.rules.specs.Planner.{records, out_of_room, Reply, Planned}
use Rattle.rules.proofs.Run.Reach.{run_length, start-length}
use Rattle.rules.proofs.Plan.Unique.{planned-unique, planned-records}

-- record i (from 0) of an area: n + 1 numbers
unfoldable pub record_at : List Task → List ℕ → ℕ → List ℕ
record_at s area i = take (suc (length s)) (drop (i * suc (length s)) area)

-- a position as a record
unfoldable pub record_of : Position → List ℕ
record_of x = x.slot ∷ x.progress

pub no_position : Position
no_position = record { slot = 0; progress = [] }

append_assoc : {A : Type 0} (a b c : List A) → (a ++ b) ++ c ≡ a ++ (b ++ c)
append_assoc [] b c = refl
append_assoc (x ∷ a) b c = ap (λ l. x ∷ l) (append_assoc a b c)

drop-split : (m n : ℕ) (xs ys : List ℕ) → length xs ≡ m → drop (m + n) (xs ++ ys) ≡ drop n ys
drop-split m n xs ys e = rw (sym e) (drop-append-add xs ys n)

records-read : (n : ℕ) (xs : List Position) (rest : List ℕ) → ((x : Position) → In x xs → length x.progress ≡ n) → (i : ℕ) → i < length xs
    → take (suc n) (drop (i * suc n) (records xs ++ rest)) ≡ record_of (get_or xs i no_position)
unfolding records record_of
records-read n [] rest w i h = let z : ⊥ = omega arith in absurd z
records-read n (x ∷ xs) rest w zero h =
    let z : 0 * suc n ≡ 0 = omega arith in
    rw (z, append_assoc x.progress (records xs) rest) (take_at (x.slot ∷ x.progress) (records xs ++ rest) (suc n) (ap suc (w x (inl refl))))
records-read n (x ∷ xs) rest w (suc i) h =
    let z : suc i * suc n ≡ suc n + i * suc n = omega arith in
    rw (z, append_assoc x.progress (records xs) rest) (ap (λ l. take (suc n) l) (drop-split (suc n) (i * suc n) (x.slot ∷ x.progress) (records xs ++ rest) (ap suc (w x (inl refl))))
    ∙ records-read n xs rest (λ y k. w y (inr k)) i (omega arith))

In-at : (xs : List Position) (i : ℕ) → i < length xs → In (get_or xs i no_position) xs
In-at [] i h = let z : ⊥ = omega arith in absurd z
In-at (x ∷ xs) zero h = inl refl
In-at (x ∷ xs) (suc i) h = inr (In-at xs i (omega arith))

at-In : (y : Position) (xs : List Position) → In y xs → (i : ℕ) × (i < length xs) × (get_or xs i no_position ≡ y)
at-In y [] h = absurd h
at-In y (x ∷ xs) (inl e) = (0, omega arith, sym e)
at-In y (x ∷ xs) (inr h) = let r = at-In y xs h in (suc r.0, (let l = r.1 in omega arith), r.2)

module _ (s : List Task) (table area : List ℕ) (q : Reply) (P : Planned s table area q) where
  long : (x : Position) → In x P.kept → length x.progress ≡ length s
  long x h = let C = P.kept_only x h in rw C.reached at (run_length s (start s) C.by (start-length s))

  -- record i is a counted position's
  pub record_is : (i : ℕ) → i < q.count → record_at s q.area i ≡ record_of (get_or P.kept i no_position)
  unfolding record_at
  record_is i h = let m = P.kept_many in rw P.area_is (records-read (length s) P.kept (drop (q.count * suc (length s)) area) long i (omega arith))

  -- Out of room or not: each of the first records is that of a dead position that precedes the reply
  pub record-counted : (i : ℕ) → i < q.count → (x : Position) × Counted s x × (record_at s q.area i ≡ record_of x)
  record-counted i h = let m = P.kept_many in (get_or P.kept i no_position, P.kept_only (get_or P.kept i no_position) (In-at P.kept i (omega arith)), record_is i h)

  -- Not out of room: every dead position that precedes the reply has its record
  pub counted-record : q.word ≢ out_of_room → (x : Position) → Counted s x → (i : ℕ) × (i < q.count) × (record_at s q.area i ≡ record_of x)
  counted-record w x C =
      let r = at-In x P.kept (planned-records s table area q P w x C) in
      let m = P.kept_many in
      let l = r.1 in
      let h : r.0 < q.count = omega arith in
      (r.0, h, record_is r.0 h ∙ ap record_of r.2)

-- Two replies to one call, not out of room: each record of the one is a record of the other
pub same-records : (s : List Task) (table area : List ℕ) (p q : Reply) → Planned s table area p → Planned s table area q → p.word ≢ out_of_room
    → (i : ℕ) → i < p.count → (k : ℕ) × (k < q.count) × (record_at s p.area i ≡ record_at s q.area k)
same-records s table area p q P Q w i h =
    let a = record-counted s table area p P i h in
    let e = (planned-unique s table area p q P Q).word in
    let b = counted-record s table area q Q (λ z. w (e ∙ z)) a.0 a.1 in
    (b.0, b.1, a.2 ∙ sym b.2)
