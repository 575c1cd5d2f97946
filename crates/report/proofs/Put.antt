-- Bytes put after bytes.
use mathlib.Core.Path.{◌≡◌, refl, sym, ap, ap₂, ◌∙◌}
use mathlib.Core.List.{List, [], ◌∷◌, ◌++◌, append_assoc, append-nil}
use Prim.Native.Nat.{ℕ, zero, suc, ◌+◌, ◌-◌, ◌≤◌, ◌<◌}
use native.Mathlib.Omega.{arith}
use native.Mathlib.Numerals.{add-one}
use lib.ListN.{length, take, drop, set, length-append, length-drop, take-append-drop}
use lib.Seq.{length-take-le, take-nil, set_split, append_snoc, take_at, drop-append-add, drop-drop, take_all}
use Rattle.report.specs.Put.{Put, PutCut}

-- nothing more
pub put-none : (o : List ℕ) (at : ℕ) → at ≤ length o → Put o at [] at o
put-none o at h = record {
  text = let e : at + 0 ≡ at = omega arith in sym (rw (append-nil (take at o), e) (take-append-drop at o));
  behind = omega arith;
  within = h;
}

-- one byte
put-single : (o : List ℕ) (at b : ℕ) → at < length o → Put o at (b ∷ []) (at + 1) (set o at b)
put-single o at b h = record {
  text = set_split o at b h ∙ sym (append_snoc (take at o) b (drop (suc at) o)) ∙ ap (λ k. take at o ++ (b ∷ []) ++ drop k o) (sym (add-one at));
  behind = refl;
  within = omega arith;
}

module _ {o : List ℕ} {at : ℕ} {xs : List ℕ} {r : ℕ} {p : List ℕ} (P : Put o at xs r p) where
  -- what stands before the end
  put_front : length (take at o ++ xs) ≡ r
  put_front = let b = P.behind in let w = P.within in let l = length-append (take at o) xs in let k = length-take-le at o (omega arith) in omega arith

  pub put-length : length p ≡ length o
  put-length =
      let b = P.behind in let w = P.within in let f = put_front in
      let l = length-append (take at o ++ xs) (drop (at + length xs) o) in
      let d = length-drop (at + length xs) o in
      ap length P.text ∙ omega arith

  pub put-fits : r ≤ length p
  put-fits = let w = P.within in let l = put-length in omega arith

  pub put-taken : take r p ≡ take at o ++ xs
  put-taken = rw P.text (take_at (take at o ++ xs) (drop (at + length xs) o) r put_front)

  put-kept : (m : ℕ) → drop (r + m) p ≡ drop (r + m) o
  put-kept m =
      rw P.text (ap (λ k. drop (k + m) (take at o ++ xs ++ drop (at + length xs) o)) (sym put_front)
      ∙ drop-append-add (take at o ++ xs) (drop (at + length xs) o) m
      ∙ drop-drop m (at + length xs) o
      ∙ ap (λ k. drop (k + m) o) (sym P.behind))

  -- bytes, and more bytes behind them
  put-more : {ys : List ℕ} {s : ℕ} {q : List ℕ} → Put p r ys s q → Put o at (xs ++ ys) s q
  put-more {ys = ys} {s = s} {q = q} Q =
      let b = P.behind in let c = Q.behind in let w = Q.within in let n = length-append xs ys in let l = put-length in
      let e : r + length ys ≡ at + length (xs ++ ys) = omega arith in
      record {
        text = Q.text
            ∙ ap₂ (λ f g. f ++ ys ++ g) put-taken (put-kept (length ys))
            ∙ ap₂ (λ f k. f ++ drop k o) (append_assoc (take at o) xs ys) e;
        behind = omega arith;
        within = omega arith;
      }

-- ── cut to the room ─────────────────────────────────────────────────────────

take-parts : (n : ℕ) (xs ys : List ℕ) → take n (xs ++ ys) ≡ take n xs ++ take (n - length (take n xs)) ys
take-parts zero xs ys = refl
take-parts (suc n) [] ys = let e : suc n - 0 ≡ suc n = omega arith in rw e refl
take-parts (suc n) (x ∷ xs) ys = let e : suc n - suc (length (take n xs)) ≡ n - length (take n xs) = omega arith in rw e (ap (λ l. x ∷ l) (take-parts n xs ys))

pub cut-more : {o : List ℕ} {at : ℕ} (xs : List ℕ) {r : ℕ} {p : List ℕ} (ys : List ℕ) {s : ℕ} {q : List ℕ} → PutCut o at xs r p → PutCut p r ys s q → PutCut o at (xs ++ ys) s q
cut-more {o = o} {at = at} xs {r = r} {p = p} ys C D =
    let l = put-length C.put in let b = C.put.behind in
    let e : length p - r ≡ length o - at - length (take (length o - at) xs) = omega arith in
    record { put = rw (take-parts (length o - at) xs ys, ← e) (put-more C.put D.put) }

pub cut-none : (o : List ℕ) (at : ℕ) → at ≤ length o → PutCut o at [] at o
cut-none o at h = record { put = rw (take-nil (length o - at)) (put-none o at h) }

-- one byte, if there is room
pub cut-single : (o : List ℕ) (at b : ℕ) → at < length o → PutCut o at (b ∷ []) (at + 1) (set o at b)
cut-single o at b h = record { put = rw (take_all (length o - at) (b ∷ []) (omega arith)) (put-single o at b h) }

pub cut-full : (o : List ℕ) (at : ℕ) (xs : List ℕ) → at ≤ length o → length o ≤ at → PutCut o at xs at o
cut-full o at xs h k = let e : length o - at ≡ 0 = omega arith in record { put = rw e (put-none o at h) }

-- with room for all, all stands
pub cut-whole : {o : List ℕ} {at : ℕ} {xs : List ℕ} {r : ℕ} {p : List ℕ} → length xs ≤ length o - at → PutCut o at xs r p → Put o at xs r p
cut-whole {o = o} {at = at} {xs = xs} h C = rw (take_all (length o - at) xs h) at C.put

-- what a byte does
pub ruleset byte_laws = (cut-single, cut-full)
