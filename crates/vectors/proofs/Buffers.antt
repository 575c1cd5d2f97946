-- What stands in a buffer after bytes are put behind its first ones.
use mathlib.Core.Path.{◌≡◌, sym, ap, ◌∙◌}
use mathlib.Core.Logic.{◌⊎◌, inl, inr}
use mathlib.Core.List.{List, ◌++◌, map}
use Prim.Native.Nat.{ℕ, ◌+◌, ◌-◌, ◌≤◌, ◌<◌, min}
use native.Mathlib.Omega.{arith}
use borrow.Rule.Slice.PartMut.{put_mid, mid_of, post_of}
use lib.ListN.{length, take, drop, replicate, length-drop}
use lib.Seq.{length-take-le, take-append-le, take-append-add, take_all}
use Rattle.std.proofs.lemmas.Bool.{cases_lt}
use Rattle.std.proofs.lemmas.List.{take-replicate, length-replicate}
use Rattle.std.proofs.lemmas.Slice.{take-put_mid}

-- n bytes read behind the first a
pub take-read : (a k n : ℕ) (xs ys : List ℕ) → a ≤ length xs → n ≤ length ys → take (a + n) (put_mid a k xs ys) ≡ take a xs ++ take n ys
take-read a k n xs ys within fits =
    ap (λ m. take (m + n) (put_mid a k xs ys)) (sym (length-take-le a xs within))
    ∙ take-append-add (take a xs) (ys ++ post_of a k xs) n
    ∙ ap (λ l. take a xs ++ l) (take-append-le n ys (post_of a k xs) fits)

-- one byte so many times behind the first a, of which there is room for n
module _ (a n t b : ℕ) (fits : a + t ≤ 8192 → n ≡ t) (full : 8192 ≤ a + t → a + n ≡ 8192) (xs : List ℕ) (within : a ≤ length xs) where
  put-room : a ≤ 8192 → replicate n b ≡ take (8192 - a) (replicate t b)
  put-room most = go (cases_lt 8192 (a + t))
    where
      go : (8192 < a + t) ⊎ (a + t ≤ 8192) → replicate n b ≡ take (8192 - a) (replicate t b)
      go (inl h) = ap (λ m. replicate m b) (let f = full (omega arith) in omega arith) ∙ sym (take-replicate (8192 - a) t b (omega arith))
      go (inr h) = ap (λ m. replicate m b) (fits h) ∙ sym (take_all (8192 - a) (replicate t b) (let l = length-replicate t b in omega arith))

  pub put_times : (e : ℕ) (ys : List ℕ) → a + n ≤ length xs → a ≤ 8192 → e ≡ a + n → ys ≡ replicate (length (mid_of a n xs)) b → take e (put_mid a n xs ys) ≡ take 8192 (take a xs ++ replicate t b)
  put_times e ys room most end are =
      let l = length-take-le a xs within in
      let m : length (mid_of a n xs) ≡ n = length-take-le n (drop a xs) (let d = length-drop a xs in omega arith) in
      let new : ys ≡ replicate n b = are ∙ ap (λ k. replicate k b) m in
      take-put_mid a n xs ys e (let r = length-replicate n b in let s = ap length new in omega arith) within
      ∙ ap (λ zs. take a xs ++ zs) (new ∙ put-room most)
      ∙ sym (take-append-add (take a xs) (replicate t b) (8192 - a))
      ∙ ap (λ m. take m (take a xs ++ replicate t b)) {y = 8192} (omega arith)

-- numbers made of the first ones of a word, one by one
module _ (f : ℕ → ℕ) (n i : ℕ) (held word : List ℕ) (cut : n ≡ min (length word) 8192) where
  first-ones : take n word ≡ take 8192 word
  first-ones = go (cases_lt 8192 (length word))
    where
      go : (8192 < length word) ⊎ (length word ≤ 8192) → take n word ≡ take 8192 word
      go (inl h) = ap (λ m. take m word) {y = 8192} (omega arith)
      go (inr h) = take_all n word (omega arith) ∙ sym (take_all 8192 word h)

  pub values_all : take i held ≡ map f (take i (take n word)) → i ≤ length (take n word) → length (take n word) ≤ i → take (length (take n word)) held ≡ map f (take 8192 word)
  values_all are most all =
      ap (λ m. take m held) {y = i} (omega arith)
      ∙ are
      ∙ ap (map f) (take_all i (take n word) all ∙ first-ones)
