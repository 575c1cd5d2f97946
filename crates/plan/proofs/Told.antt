-- What is read into the buffer, and what is written for it.
use mathlib.Core.Path.{◌≡◌, refl, sym, ap, ◌∙◌}
use mathlib.Core.Logic.{◌⊎◌, inl, inr}
use mathlib.Core.List.{List, ◌++◌}
use Prim.Native.Nat.{ℕ, ◌+◌, ◌≤◌, ◌<◌}
use native.Mathlib.Omega.{arith}
use borrow.Author.Tests.{lt-ltb}
use borrow.Rule.Slice.PartMut.{put_mid, post_of}
use lib.ListN.{length, take, length-take}
use lib.Seq.{length-take-le, take-append-le, take-append-add, take_all}
use Rattle.std.specs.Prelude.{Option, Some, None, IfSome, Result, Ok, Err, OnOk, replicate}
use Rattle.std.specs.Io.KnownBytes.{Appends}
use Rattle.rules.proofs.Laws.{le-or-lt}
use Rattle.rules.specs.Lists.{is_zero}
use Rattle.list.specs.Reading.{read_list, refused_whole}
use Rattle.report.specs.Texts.{Writes}
use Rattle.report.specs.Help.{sentence, explained, explanation}
use Rattle.plan.specs.Output.{TellsPlan}

-- n bytes read behind the first a
pub take-read : (a k n : ℕ) (xs ys : List ℕ) → a ≤ length xs → n ≤ length ys → take (a + n) (put_mid a k xs ys) ≡ take a xs ++ take n ys
take-read a k n xs ys within fits =
    ap (λ m. take (m + n) (put_mid a k xs ys)) (sym (length-take-le a xs within))
    ∙ take-append-add (take a xs) (ys ++ post_of a k xs) n
    ∙ ap (λ l. take a xs ++ l) (take-append-le n ys (post_of a k xs) fits)

-- a list that is too long is refused whole, and so are its first 4,097 bytes
too_long : (xs : List ℕ) → 4097 ≤ length xs → read_list xs ≡ refused_whole 1
unfolding read_list
too_long xs h = rw (lt-ltb 4096 (length xs) (omega arith)) refl

same-reply : (xs : List ℕ) → read_list (take 4097 xs) ≡ read_list xs
same-reply xs = go (le-or-lt (length xs) 4096)
  where
    go : (length xs ≤ 4096) ⊎ (4096 < length xs) → read_list (take 4097 xs) ≡ read_list xs
    go (inl h) = rw (take_all 4097 xs (omega arith)) refl
    go (inr h) = too_long (take 4097 xs) (let l = length-take {A = ℕ} 4097 xs in omega arith) ∙ sym (too_long xs (omega arith))

-- no line of it is shown
long-explained : (xs : List ℕ) → 4097 ≤ length xs → explanation xs ≡ sentence 1
unfolding explanation explained refused_whole is_zero
long-explained xs h = rw (too_long xs h) refl

same-explanation : (xs : List ℕ) → explanation (take 4097 xs) ≡ explanation xs
same-explanation xs = go (le-or-lt (length xs) 4096)
  where
    go : (length xs ≤ 4096) ⊎ (4096 < length xs) → explanation (take 4097 xs) ≡ explanation xs
    go (inl h) = rw (take_all 4097 xs (omega arith)) refl
    go (inr h) = long-explained (take 4097 xs) (let l = length-take {A = ℕ} 4097 xs in omega arith) ∙ sym (long-explained xs (omega arith))

same-text : {area text : List ℕ} (xs : List ℕ) → Writes (take 4097 xs) area text → Writes xs area text
same-text xs W = record { refuses = rw (same-reply xs) at W.refuses; plans = rw (same-reply xs) at W.plans }

-- a text that is written is told
pub told-plan : {E : Type 0} (r : Result (Unit {0}) E) {list text : List ℕ} (out out_after : Option (List ℕ)) → Writes list (replicate 24000 0) text → OnOk r (Appends out out_after text) → OnOk r (TellsPlan list out out_after)
told-plan (Ok u) {text = text} out out_after W A = record { text = text; writes = W; appended = A }
told-plan (Err e) out out_after W A = tt

-- what is told of the bytes that are read is told of the whole input
module _ {E : Type 0} (r : Result (Unit {0}) E) (known before after : Option (List ℕ)) (list : List ℕ) {m : ℕ} where
  pub plan-all : m ≡ 4097 → IfSome known (λ bytes. list ≡ take m bytes) → TellsPlan list before after → OnOk r (IfSome known (λ bytes. TellsPlan bytes before after))
  plan-all e read T = go r known (rw e at read)
    where
      go : (r : Result (Unit {0}) E) (known : Option (List ℕ)) → IfSome known (λ bytes. list ≡ take 4097 bytes) → OnOk r (IfSome known (λ bytes. TellsPlan bytes before after))
      go (Err x) known read = tt
      go (Ok u) None read = tt
      go (Ok u) (Some bytes) read = record { text = T.text; writes = same-text bytes (rw read at T.writes); appended = T.appended }

  pub said-all : m ≡ 4097 → IfSome known (λ bytes. list ≡ take m bytes) → OnOk r (Appends before after (explanation list)) → OnOk r (IfSome known (λ bytes. Appends before after (explanation bytes)))
  said-all e read A = go r known (rw e at read) A
    where
      go : (r : Result (Unit {0}) E) (known : Option (List ℕ)) → IfSome known (λ bytes. list ≡ take 4097 bytes) → OnOk r (Appends before after (explanation list)) → OnOk r (IfSome known (λ bytes. Appends before after (explanation bytes)))
      go (Err x) known read A = tt
      go (Ok u) None read A = tt
      go (Ok u) (Some bytes) read A = rw (read, same-explanation bytes) at A
