-- Numbers in decimal.
use mathlib.Core.Path.{◌≡◌, refl, sym}
use mathlib.Core.Logic.{◌⊎◌, inl, inr}
use mathlib.Core.Bool.{Bool, true, false, cond}
use mathlib.Core.List.{List, [], ◌∷◌, ◌++◌, append_assoc, append-nil}
use Prim.Native.Nat.{ℕ, zero, suc, ◌+◌, ◌-◌, ◌%◌, ◌/◌, ◌≤◌, ◌<◌}
use native.Mathlib.Omega.{arith}
use borrow.Author.Tests.{eq-eqb, ne_eqb}
use native.Mathlib.Numerals.{add-one}
use lib.ListN.{length, get_or, take, length-append}
use lib.Seq.{take-suc, take_all}
use Rattle.rules.specs.Lists.{is_zero}
use Rattle.list.specs.Plain.{digits_in}
use Rattle.report.specs.Texts.{decimal, one_number, two_numbers}
use Rattle.report.specs.Put.{fields}
use Rattle.report.specs.Adds.{Adds}
use Rattle.report.specs.declared.write.Text.{Text}
use Rattle.report.proofs.Adds.{adds-none, adds-more}

zero-yes : (n : ℕ) → n ≡ 0 → is_zero n ≡ true
unfolding is_zero
zero-yes n e = eq-eqb n 0 e

zero-no : (n : ℕ) → (n ≡ 0 → ⊥) → is_zero n ≡ false
unfolding is_zero
zero-no n h = ne_eqb n 0 h

pub digits-length : (k n : ℕ) → length (digits_in k n) ≤ k
unfolding digits_in
digits-length zero n = omega arith
digits-length (suc k) n = go (is_zero n) (digits-length k (n / 10))
  where
    go : (b : Bool) → length (digits_in k (n / 10)) ≤ k → length (cond b [] (digits_in k (n / 10) ++ (48 + n % 10) ∷ [])) ≤ suc k
    go true h = omega arith
    go false h = let l = length-append (digits_in k (n / 10)) ((48 + n % 10) ∷ []) in omega arith

pub decimal-length : (n : ℕ) → length (decimal n) ≤ 20
unfolding decimal
decimal-length n = go (is_zero n)
  where
    go : (b : Bool) → length (cond b (48 ∷ []) (digits_in 20 n)) ≤ 20
    go true = omega arith
    go false = digits-length 20 n

-- no digits
pub digits-none : (k n : ℕ) → (k ≡ 0) ⊎ ((k ≡ 0 → ⊥) × (n ≡ 0)) → digits_in k n ≡ []
unfolding digits_in
digits-none zero n h = refl
digits-none (suc k) n (inl e) = absurd (omega arith)
digits-none (suc k) n (inr h) = rw (zero-yes n h.1)

-- the last digit behind the others
pub digits_more : {a b c : Text} (k n : ℕ) → (k ≡ 0 → ⊥) → (n ≡ 0 → ⊥) → Adds a (digits_in (k - 1) (n / 10)) b → Adds b ((48 + n % 10) ∷ []) c → Adds a (digits_in k n) c
unfolding digits_in
digits_more zero n h g A B = absurd (h refl)
digits_more (suc k) n h g A B = let j : suc k - 1 ≡ k = omega arith in rw (zero-no n g) (adds-more _ _ (rw j at A) B)

pub decimal-zero : (n : ℕ) → n ≡ 0 → decimal n ≡ 48 ∷ []
unfolding decimal
decimal-zero n e = rw (zero-yes n e)

pub decimal-digits : (n : ℕ) → (n ≡ 0 → ⊥) → decimal n ≡ digits_in 20 n
unfolding decimal
decimal-digits n h = rw (zero-no n h)

pub ruleset number_laws = (adds-none, digits-none, decimal-zero, decimal-digits)

-- ── numbers in a line ───────────────────────────────────────────────────────

fields-append : (ms ns : List ℕ) → fields (ms ++ ns) ≡ fields ms ++ fields ns
unfolding fields
fields-append [] ns = refl
fields-append (m ∷ ms) ns = rw (fields-append ms ns) (sym (append_assoc (32 ∷ decimal m) (fields ms) (fields ns)))

fields-one : (n : ℕ) → fields (n ∷ []) ≡ 32 ∷ decimal n
unfolding fields
fields-one n = append-nil (32 ∷ decimal n)

-- one number more
pub fields-more : {a b c d : Text} (ns : List ℕ) (i : ℕ) → i < length ns → Adds a (fields (take i ns)) b → Adds b (32 ∷ []) c → Adds c (decimal (get_or ns i 0)) d → Adds a (fields (take (i + 1) ns)) d
fields-more ns i h A B C =
    rw (add-one i, take-suc ns i 0 h, fields-append (take i ns) (get_or ns i 0 ∷ []), fields-one (get_or ns i 0)) (adds-more _ _ A (adds-more (32 ∷ []) _ B C))

-- the word, all numbers, and the line's end
pub fields-all : {a b c d : Text} (word ns : List ℕ) (i : ℕ) → length ns ≤ i → Adds a word b → Adds b (fields (take i ns)) c → Adds c (10 ∷ []) d → Adds a (word ++ fields ns ++ 10 ∷ []) d
fields-all word ns i h A B C = adds-more _ _ (adds-more _ _ A (rw (take_all i ns h) at B)) C

pub one-line : (word : List ℕ) (n : ℕ) → word ++ fields (n ∷ []) ++ 10 ∷ [] ≡ one_number word n
unfolding one_number
one-line word n = rw (fields-one n) refl

pub two-line : (word : List ℕ) (a b : ℕ) → word ++ fields (a ∷ b ∷ []) ++ 10 ∷ [] ≡ two_numbers word a b
unfolding two_numbers
two-line word a b = rw (fields-append (a ∷ []) (b ∷ []), fields-one a, fields-one b, append_assoc word (32 ∷ decimal a) (32 ∷ decimal b)) refl

pub one-length : (word : List ℕ) (n : ℕ) → length (one_number word n) ≤ length word + 22
unfolding one_number
one-length word n = let d = decimal-length n in let l = length-append (word ++ (32 ∷ decimal n)) (10 ∷ []) in let m = length-append word (32 ∷ decimal n) in omega arith

pub two-length : (word : List ℕ) (a b : ℕ) → length (two_numbers word a b) ≤ length word + 43
unfolding two_numbers
two-length word a b =
    let d = decimal-length a in let e = decimal-length b in
    let l = length-append (word ++ (32 ∷ decimal a) ++ (32 ∷ decimal b)) (10 ∷ []) in
    let m = length-append (word ++ (32 ∷ decimal a)) (32 ∷ decimal b) in
    let n = length-append word (32 ∷ decimal a) in
    omega arith
