-- Laws of a list read from C, in the code's terms, and how far a refused line can stand.
use mathlib.Core.Path.{◌≡◌, refl, sym, ap}
use mathlib.Core.Bool.{Bool, true, false, cond}
use mathlib.Core.List.{List, [], ◌∷◌, ◌++◌}
use Prim.Native.Nat.{ℕ, zero, suc, ◌+◌, ◌*◌, ◌≤◌, ◌<◌}
use native.Mathlib.Omega.{arith}
use lib.Dec.{ltb}
use lib.ListN.{length, drop}
use borrow.Author.Tests.{ne_eqb, le-leb, lt-leb}
use Rattle.rules.specs.Lists.{is_zero}
use Rattle.rules.specs.Hyper.{hyper}
use Rattle.rules.specs.Records.{TaskRecord, or_else, tasks_in}
use Rattle.tasks.specs.Views.{record_of}
use Rattle.std.specs.Prelude.{Ok, Err}
use Rattle.tasks.specs.declared.TaskSet.{TaskSet}
use Rattle.tasks.proofs.Refusals.{number-some}
use Rattle.tasks.specs.Refusals.{number_of}
use Rattle.list.specs.declared.Refused.{Refused}
use Rattle.list.specs.Text.{ends_line, onto, lines}
use Rattle.list.specs.Reading.{ReadReply, line_task, refused_whole, refused_line, accepted, finish, read_from, read_list, reply_of}
use Rattle.list.proofs.Meaning.Reader.{read_step, list-step}
use Rattle.player.specs.Bytes.{set_size, set_bytes}
use Rattle.kiluvsaat.specs.Plans.{read_number, read_buffer, place_number}

-- ── a list read ─────────────────────────────────────────────────────────────

-- what a call returns and leaves in the buffer
module _ (bs o : List ℕ) where
  abbrev Listed : ℕ → List ℕ → Type 0
  Listed n out = (n ≡ read_number bs o) × (out ≡ read_buffer bs o)

  refuses : (k : ℕ) → read_number bs o ≡ suc k → Listed (suc k) o
  unfolding read_buffer
  refuses k e = rw (e, ne_eqb (suc k) 0 (λ z. omega arith)) (refl, refl)

  -- the list was refused
  pub read-refused : (e : Refused) → reply_of (Err e) ≡ read_list bs → Listed (number_of e.why) o
  unfolding read_number reply_of or_else
  read-refused e er = go (number_of e.why) refl
    where
      go : (k : ℕ) → number_of e.why ≡ k → Listed k o
      go zero q = absurd (number-some e.why q)
      go (suc k) q = refuses k (rw (← er, q) refl)

  pub number-refused : (e : Refused) → reply_of (Err e) ≡ read_list bs → read_number bs o ≡ number_of e.why
  number-refused e er = sym (read-refused e er).0

  pub buffer-refused : (e : Refused) → reply_of (Err e) ≡ read_list bs → read_buffer bs o ≡ o
  buffer-refused e er = sym (read-refused e er).1

  -- it was accepted
  module _ (s : TaskSet) (er : reply_of (Ok s) ≡ read_list bs) where
    pub number-short : length o < 97 → read_number bs o ≡ 8
    unfolding read_number or_else set_size reply_of
    number-short h = rw (← er, lt-leb 97 (length o) h) refl

    pub buffer-short : length o < 97 → read_buffer bs o ≡ o
    unfolding read_buffer
    buffer-short h = rw (number-short h) refl

    pub number-done : 97 ≤ length o → read_number bs o ≡ 0
    unfolding read_number or_else set_size reply_of
    number-done h = rw (← er, le-leb 97 (length o) h) refl

    pub buffer-done : 97 ≤ length o → read_buffer bs o ≡ set_bytes (record_of s) ++ drop 97 o
    unfolding read_buffer set_size reply_of
    buffer-done h = rw (number-done h, ← er) refl

pub ruleset read_laws = (number-refused, buffer-refused, number-short, buffer-short, number-done, buffer-done)

-- ── where a refused line stands ─────────────────────────────────────────────

-- the bytes of lines, each with its line feed
total : List (List ℕ) → ℕ
total [] = 0
total (l ∷ ls) = suc (length l) + total ls

lines-total : (bs : List ℕ) → total (lines bs) ≤ suc (length bs)
unfolding lines onto total
lines-total [] = omega arith
lines-total (b ∷ bs) = go (ends_line b) (lines bs) (lines-total bs)
  where
    go : (t : Bool) (ls : List (List ℕ)) → total ls ≤ suc (length bs) → total (cond t ([] ∷ ls) (onto b ls)) ≤ suc (suc (length bs))
    go true ls h = omega arith
    go false [] h = omega arith
    go false (l ∷ ls) h = omega arith

-- the reply's numbers, for n bytes of lines behind line i, which starts at byte `at`
record Near (i at n : ℕ) (x : ReadReply) : Type 0 where
  line : x.line ≤ i + n
  start : x.start ≤ at + n
  size : x.size ≤ n

whole-near : (k i at n : ℕ) → Near i at n (refused_whole k)
unfolding refused_whole
whole-near k i at n = record { line = omega arith; start = omega arith; size = omega arith }

finish-near : (rs : List TaskRecord) (i at n : ℕ) → Near i at n (finish rs)
unfolding finish accepted
finish-near rs i at n = go (is_zero (length rs)) (ltb 4096 (hyper (tasks_in rs)))
  where
    go : (a b : Bool) → Near i at n (cond a (refused_whole 5) (cond b (refused_whole 6) (accepted rs)))
    go true b = whole-near 5 i at n
    go false true = whole-near 6 i at n
    go false false = record { line = omega arith; start = omega arith; size = omega arith }

wider : (i at n j to m : ℕ) (x : ReadReply) → Near i at n x → i + n ≤ j + m → at + n ≤ to + m → n ≤ m → Near j to m x
wider i at n j to m x N h k l = let a = N.line in let b = N.start in let c = N.size in record { line = omega arith; start = omega arith; size = omega arith }

from-near : (ls : List (List ℕ)) (i at : ℕ) (rs : List TaskRecord) → Near i at (total ls) (read_from i at rs ls)
unfolding read_from refused_line total
from-near [] i at rs = finish-near rs i at 0
from-near (l ∷ ls) i at rs = read_step i at rs l ls (Near i at (suc (length l) + total ls))
    (λ _. wider (suc i) (at + suc (length l)) (total ls) i at (suc (length l) + total ls) _ (from-near ls (suc i) (at + suc (length l)) rs) (omega arith) (omega arith) (omega arith))
    (λ _ _. wider (suc i) (at + suc (length l)) (total ls) i at (suc (length l) + total ls) _ (from-near ls (suc i) (at + suc (length l)) (rs ++ line_task l ∷ [])) (omega arith) (omega arith) (omega arith))
    (λ m _ _. record { line = omega arith; start = omega arith; size = omega arith })

list-near : (bs : List ℕ) → Near 1 0 4097 (read_list bs)
list-near bs = list-step (Near 1 0 4097) bs
    (λ _. whole-near 1 1 0 4097)
    (λ h. let t = lines-total bs in wider 1 0 (total (lines bs)) 1 0 4097 _ (from-near (lines bs) 1 0 []) (omega arith) (omega arith) (omega arith))

module _ (bs : List ℕ) (e : Refused) (er : reply_of (Err e) ≡ read_list bs) where
  near : Near 1 0 4097 (reply_of (Err e))
  near = rw er (list-near bs)

  -- the three numbers are small
  pub line-small : e.line ≤ 4098
  unfolding reply_of
  line-small = near.line

  pub start-small : e.start ≤ 4097
  unfolding reply_of
  start-small = near.start

  pub size-small : length e.text.now ≤ 4097
  unfolding reply_of
  size-small = near.size

  pub place-refused : place_number (read_list bs) ≡ e.line * 4294967296 + e.start * 65536 + length e.text.now
  unfolding place_number reply_of
  place-refused = ap place_number (sym er)

pub place-none : (bs : List ℕ) (s : TaskSet) → reply_of (Ok s) ≡ read_list bs → place_number (read_list bs) ≡ 0
unfolding place_number reply_of
place-none bs s e = ap place_number (sym e)

pub ruleset place_laws = (line-small, start-small, size-small, place-refused, place-none)
