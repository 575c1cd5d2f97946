-- Laws of the plain text: what its lines say.
use mathlib.Core.Path.{◌≡◌, refl, sym, ap, ap₂, ◌∙◌}
use mathlib.Core.Logic.{⊎_elim}
use mathlib.Core.Bool.{Bool, true, false, not}
use mathlib.Core.List.{List, [], ◌∷◌, ◌++◌, map, append_assoc}
use Prim.Native.Nat.{ℕ, zero, suc, ◌+◌, ◌-◌, ◌*◌, ◌/◌, ◌%◌, ◌^◌, ◌≤◌, ◌<◌}
use native.Mathlib.Omega.{arith}
use native.Mathlib.Nat.{pow-suc, mod-lt}
use borrow.Author.Tests.{not-true, leb-true, le-leb, ne_eqb}
use lib.Dec.{leb, eqb}
use lib.ListN.{length, length-append, length-map}
use Rattle.rules.specs.Lists.{all_of, is_zero, padded}
use Rattle.rules.specs.Records.{TaskRecord, between, all_between, pattern_of}
use Rattle.rules.specs.States.{tidy_task}
use Rattle.rules.proofs.Set.Admitted.{between_le}
use Rattle.rules.proofs.Lists.{and_parts}
use Rattle.list.specs.Text.{ends_line, parts_fields, lines}
use Rattle.list.specs.Reading.{is_digit, is_field, number_from, number, is_comment, skipped, right_count, task_from, line_task, well_formed}
use Rattle.list.specs.Plain.{digits_in, digits, spaced, plain_line, plain_lines}
use Rattle.list.specs.Content.{in_line}
use Rattle.list.proofs.Meaning.Lists.{decide, both, zero-true, is-zero, not-zero, all_append, all-weaken, Each}
use Rattle.list.proofs.Meaning.Text.{lines-first, in_word, is_word, words-spaced}

-- ── the digits of a number ──────────────────────────────────────────────────

digit-is : (d : ℕ) → d < 10 → is_digit (48 + d) ≡ true
unfolding is_digit
digit-is d h = both (leb 48 (48 + d)) (leb (48 + d) 57) (le-leb 48 (48 + d) (omega arith)) (le-leb (48 + d) 57 (omega arith))

digits-all : (k n : ℕ) → all_of is_digit (digits_in k n) ≡ true
unfolding digits_in all_of
digits-all zero n = refl
digits-all (suc k) n = ⊎_elim (λ e. rw e refl)
    (λ e. rw e (all_append is_digit (digits_in k (n / 10)) _ (digits-all k (n / 10)) (both (is_digit (48 + n % 10)) true (digit-is (n % 10) (mod-lt n (omega arith))) refl)))
    (decide (is_zero n))

digits_more : (k n : ℕ) → is_zero n ≡ false → length (digits_in (suc k) n) ≡ length (digits_in k (n / 10)) + 1
unfolding digits_in
digits_more k n e = rw e (length-append (digits_in k (n / 10)) ((48 + n % 10) ∷ []))

-- a number of j digits is written by j digits
digits-short : (k j n : ℕ) → n < 10 ^ j → length (digits_in k n) ≤ j
unfolding digits_in
digits-short zero j n h = omega arith
digits-short (suc k) zero n h = rw (is-zero n (omega arith)) (omega arith)
digits-short (suc k) (suc j) n h = ⊎_elim (λ e. rw e (omega arith))
    (λ e. let p = pow-suc 10 j in let l = digits-short k j (n / 10) (omega arith) in let q = digits_more k n e in omega arith)
    (decide (is_zero n))

digits-some : (k n : ℕ) → 1 ≤ n → 1 ≤ length (digits_in (suc k) n)
digits-some k n h = let q = digits_more k n (not-zero n h) in omega arith

number_append : (v : ℕ) (xs ys : List ℕ) → number_from v (xs ++ ys) ≡ number_from (number_from v xs) ys
unfolding number_from
number_append v [] ys = refl
number_append v (x ∷ xs) ys = number_append (v * 10 + (x - 48)) xs ys

-- digits write the number
number_digits : (k n : ℕ) → n < 10 ^ k → number_from 0 (digits_in k n) ≡ n
unfolding number_from digits_in
number_digits zero n h = omega arith
number_digits (suc k) n h = ⊎_elim (λ e. rw e (sym (zero-true n e)))
    (λ e. rw (e, number_append 0 (digits_in k (n / 10)) ((48 + n % 10) ∷ []), number_digits k (n / 10) (let p = pow-suc 10 k in omega arith)) (omega arith))
    (decide (is_zero n))

-- ── the fields of a line ────────────────────────────────────────────────────

pub digit-in_line : (b : ℕ) → is_digit b ≡ true → in_line b ≡ true
unfolding is_digit in_line ends_line
digit-in_line b e = let h = leb-true 48 b (and_parts (leb 48 b) (leb b 57) e).0 in rw (ne_eqb b 10 (omega arith)) refl

pub digit-in_word : (b : ℕ) → is_digit b ≡ true → in_word b ≡ true
unfolding is_digit in_word parts_fields
digit-in_word b e = let h = leb-true 48 b (and_parts (leb 48 b) (leb b 57) e).0 in rw (ne_eqb b 32 (omega arith)) refl

unfoldable pub no_hash : ℕ → Bool
no_hash b = not (eqb b 35)

pub digit-no_hash : (b : ℕ) → is_digit b ≡ true → no_hash b ≡ true
unfolding is_digit no_hash
digit-no_hash b e = let h = leb-true 48 b (and_parts (leb 48 b) (leb b 57) e).0 in rw (ne_eqb b 35 (omega arith)) refl

digits-word : (n : ℕ) → between 1 9999 n ≡ true → is_word (digits n) ≡ true
unfolding is_word digits
digits-word n e = both (leb 1 (length (digits_in 4 n))) _ (le-leb 1 (length (digits_in 4 n)) (digits-some 3 n (between_le 1 9999 n e).0))
    (all-weaken is_digit in_word digit-in_word (digits_in 4 n) (digits-all 4 n))

digits-field : (n : ℕ) → between 1 9999 n ≡ true → is_field (digits n) ≡ true
unfolding is_field digits
digits-field n e = both (all_of is_digit (digits_in 4 n)) _ (digits-all 4 n) (le-leb (length (digits_in 4 n)) 4 (digits-short 4 4 n (let h = (between_le 1 9999 n e).1 in omega arith)))

digits_number : (n : ℕ) → between 1 9999 n ≡ true → number (digits n) ≡ n
unfolding number digits
digits_number n e = number_digits 4 n (let h = (between_le 1 9999 n e).1 in omega arith)

-- what holds of the digits of each number
digits-each : (f : List ℕ → Bool) → ((n : ℕ) → between 1 9999 n ≡ true → f (digits n) ≡ true) → (ns : List ℕ) → all_between 1 9999 ns ≡ true → all_of f (map digits ns) ≡ true
unfolding all_between all_of
digits-each f h [] e = refl
digits-each f h (n ∷ ns) e = let a = and_parts (between 1 9999 n) _ e in both (f (digits n)) _ (h n a.0) (digits-each f h ns a.1)

digits-words : (ns : List ℕ) → all_between 1 9999 ns ≡ true → all_of is_word (map digits ns) ≡ true
digits-words = digits-each is_word digits-word

digits-fields : (ns : List ℕ) → all_between 1 9999 ns ≡ true → all_of is_field (map digits ns) ≡ true
digits-fields = digits-each is_field digits-field

digits-numbers : (ns : List ℕ) → all_between 1 9999 ns ≡ true → map number (map digits ns) ≡ ns
unfolding all_between
digits-numbers [] e = refl
digits-numbers (n ∷ ns) e = let a = and_parts (between 1 9999 n) _ e in ap₂ {C = List ℕ} (λ x xs. x ∷ xs) (digits_number n a.0) (digits-numbers ns a.1)

-- what holds of every digit and of a space holds of every byte of the line
spaced-all : (f : ℕ → Bool) → f 32 ≡ true → (ws : List (List ℕ)) → all_of (all_of f) ws ≡ true → all_of f (spaced ws) ≡ true
unfolding spaced all_of
spaced-all f s [] e = refl
spaced-all f s (w ∷ []) e = (and_parts (all_of f w) true e).0
spaced-all f s (w ∷ (v ∷ ws)) e =
    let a = and_parts (all_of f w) _ e in
    all_append f w (32 ∷ spaced (v ∷ ws)) a.0 (both (f 32) _ s (spaced-all f s (v ∷ ws) a.1))

line-all : (f : ℕ → Bool) → ((b : ℕ) → is_digit b ≡ true → f b ≡ true) → f 32 ≡ true → (ns : List ℕ) → all_of f (spaced (map digits ns)) ≡ true
unfolding all_of digits
line-all f h s ns = spaced-all f s (map digits ns) (go ns)
  where
    go : (ns : List ℕ) → all_of (all_of f) (map digits ns) ≡ true
    go [] = refl
    go (n ∷ ns) = both (all_of f (digits_in 4 n)) _ (all-weaken is_digit f h (digits_in 4 n) (digits-all 4 n)) (go ns)

-- a line of fields has no line feed
line-in_line : (ns : List ℕ) → all_of in_line (spaced (map digits ns)) ≡ true
unfolding in_line ends_line
line-in_line ns = line-all in_line digit-in_line refl ns

calm-comment : (l : List ℕ) → all_of no_hash l ≡ true → is_comment l ≡ false
unfolding is_comment all_of no_hash
calm-comment [] e = refl
calm-comment (b ∷ l) e = not-true (eqb b 35) (and_parts (no_hash b) _ e).0

-- and is not skipped
line-stands : (n : ℕ) (ns : List ℕ) → all_between 1 9999 (n ∷ ns) ≡ true → skipped (spaced (map digits (n ∷ ns))) ≡ false
unfolding skipped no_hash
line-stands n ns e = rw (calm-comment (spaced (map digits (n ∷ ns))) (line-all no_hash digit-no_hash refl (n ∷ ns)), words-spaced (map digits (n ∷ ns)) (digits-words (n ∷ ns) e))
    (not-zero (suc (length (map digits ns))) (omega arith))

-- its task is that of its numbers
line-task : (ns : List ℕ) → all_between 1 9999 ns ≡ true → line_task (spaced (map digits ns)) ≡ task_from ns
unfolding line_task
line-task ns e = rw (words-spaced (map digits ns) (digits-words ns e), digits-numbers ns e) refl

count-right : (m : ℕ) → 1 ≤ m → m ≤ 4 → right_count (suc (suc (m + m - 1))) ≡ true
unfolding right_count
count-right zero h k = let z : ⊥ = omega arith in absurd z
count-right (suc zero) h k = refl
count-right (suc (suc zero)) h k = refl
count-right (suc (suc (suc zero))) h k = refl
count-right (suc (suc (suc (suc zero)))) h k = refl
count-right (suc (suc (suc (suc (suc m))))) h k = let z : ⊥ = omega arith in absurd z

-- ── the line of a task ──────────────────────────────────────────────────────

-- a task of which the plain text tells all
pub record Plain (u : TaskRecord) : Type 0 where
  pub few : u.steps ≤ 4
  pub some : 1 ≤ u.steps
  pub period : between 1 4096 u.period ≡ true
  pub deadline : between 1 4096 u.deadline ≡ true
  pub units : all_between 1 255 (pattern_of u) ≡ true
  pub whole : length (pattern_of u) ≡ u.steps + u.steps - 1

abbrev pub numbers : TaskRecord → List ℕ
numbers u = u.period ∷ u.deadline ∷ pattern_of u

abbrev pub line_of : TaskRecord → List ℕ
line_of u = spaced (map digits (numbers u))

between_more : (b c n : ℕ) → b ≤ c → between 1 b n ≡ true → between 1 c n ≡ true
unfolding between
between_more b c n h e = let a = and_parts (leb 1 n) _ e in both (leb 1 n) _ a.0 (le-leb n c (let k = leb-true n b a.1 in omega arith))

all_more : (b c : ℕ) → b ≤ c → (ns : List ℕ) → all_between 1 b ns ≡ true → all_between 1 c ns ≡ true
unfolding all_between
all_more b c h [] e = refl
all_more b c h (n ∷ ns) e = let a = and_parts (between 1 b n) _ e in both (between 1 c n) _ (between_more b c n h a.0) (all_more b c h ns a.1)

numbers-fine : (u : TaskRecord) → Plain u → all_between 1 9999 (numbers u) ≡ true
unfolding all_between
numbers-fine u p = both (between 1 9999 u.period) _ (between_more 4096 9999 u.period (omega arith) p.period)
    (both (between 1 9999 u.deadline) _ (between_more 4096 9999 u.deadline (omega arith) p.deadline) (all_more 255 9999 (omega arith) (pattern_of u) p.units))

module _ (u : TaskRecord) (p : Plain u) where
  pub plain-stands : skipped (line_of u) ≡ false
  plain-stands = line-stands u.period (u.deadline ∷ pattern_of u) (numbers-fine u p)

  pub plain-task : line_task (line_of u) ≡ tidy_task u
  unfolding task_from tidy_task
  plain-task =
      let w = p.whole in let m = p.some in
      line-task (numbers u) (numbers-fine u p) ∙ ap (λ n. record { period = u.period; deadline = u.deadline; steps = n; units = padded 7 0 (pattern_of u) }) (omega arith)

  pub plain-formed : well_formed (line_of u) ≡ true
  unfolding well_formed
  plain-formed = rw (words-spaced (map digits (numbers u)) (digits-words (numbers u) (numbers-fine u p)))
      (both (all_of is_field (map digits (numbers u))) _ (digits-fields (numbers u) (numbers-fine u p))
      (rw (length-map (pattern_of u) digits, p.whole) (count-right u.steps p.some p.few)))

-- ── its length ──────────────────────────────────────────────────────────────

digits-within : (j n : ℕ) → n < 10 ^ j → length (digits n) ≤ j
unfolding digits
digits-within j n h = digits-short 4 j n h

spaced-more : (w v : List ℕ) (ws : List (List ℕ)) → length (spaced (w ∷ v ∷ ws)) ≡ length w + suc (length (spaced (v ∷ ws)))
unfolding spaced
spaced-more w v ws = length-append w (32 ∷ spaced (v ∷ ws))

units-short : (n : ℕ) (ns : List ℕ) → all_between 1 255 (n ∷ ns) ≡ true → length (spaced (map digits (n ∷ ns))) ≤ 3 + 4 * length ns
unfolding all_between spaced
units-short n [] e = digits-within 3 n (let h = (between_le 1 255 n (and_parts (between 1 255 n) _ e).0).1 in omega arith)
units-short n (m ∷ ns) e =
    let a = and_parts (between 1 255 n) _ e in
    let d = digits-within 3 n (let h = (between_le 1 255 n a.0).1 in omega arith) in
    let ih = units-short m ns a.1 in
    let s = spaced-more (digits n) (digits m) (map digits ns) in
    omega arith

-- two numbers of four digits and seven of three, a byte behind each
line-short : (u : TaskRecord) → Plain u → length (line_of u) ≤ 37
line-short u p =
    let t = digits-within 4 u.period (let h = (between_le 1 4096 u.period p.period).1 in omega arith) in
    let d = digits-within 4 u.deadline (let h = (between_le 1 4096 u.deadline p.deadline).1 in omega arith) in
    let a = spaced-more (digits u.period) (digits u.deadline) (map digits (pattern_of u)) in
    let w = p.whole in let f = p.few in
    let g = go (pattern_of u) p.units (let s = p.some in omega arith) in
    omega arith
  where
    go : (ns : List ℕ) → all_between 1 255 ns ≡ true → 1 ≤ length ns → length (spaced (digits u.deadline ∷ map digits ns)) ≤ length (digits u.deadline) + 4 * length ns
    go [] e h = let z : ⊥ = omega arith in absurd z
    go (n ∷ ns) e h = let b = spaced-more (digits u.deadline) (digits n) (map digits ns) in let c = units-short n ns e in omega arith

pub text-short : (us : List TaskRecord) → Each Plain us → length (plain_lines us) ≤ 38 * length us
unfolding plain_lines plain_line
text-short [] e = omega arith
text-short (u ∷ us) e =
    let h = line-short u e.0 in let ih = text-short us e.1 in
    let a = length-append (line_of u ++ 10 ∷ []) (plain_lines us) in let b = length-append (line_of u) (10 ∷ []) in
    omega arith

-- the lines of the text
pub text-lines : (us : List TaskRecord) → lines (plain_lines us) ≡ map line_of us
unfolding plain_lines plain_line lines
text-lines [] = refl
text-lines (u ∷ us) = ap lines (append_assoc (line_of u) (10 ∷ []) (plain_lines us)) ∙ lines-first (line_of u) (plain_lines us) (line-in_line (numbers u)) ∙ ap (λ x. line_of u ∷ x) (text-lines us)
