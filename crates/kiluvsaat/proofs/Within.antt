-- The refused line lies within the list.
use mathlib.Core.Bool.{Bool, true, false, cond}
use mathlib.Core.Path.{◌≡◌}
use mathlib.Core.List.{List, [], ◌∷◌, ◌++◌}
use Prim.Native.Nat.{ℕ, zero, suc, ◌+◌, ◌-◌, ◌≤◌}
use native.Mathlib.Omega.{arith}
use lib.Dec.{ltb}
use lib.ListN.{length}
use Rattle.rules.specs.Lists.{is_zero}
use Rattle.rules.specs.Hyper.{hyper}
use Rattle.rules.specs.Records.{TaskRecord, tasks_in}
use Rattle.list.specs.Text.{ends_line, onto, lines}
use Rattle.list.specs.Reading.{skipped, line_task, line_refusal, ReadReply, refused_whole, refused_line, accepted, finish, go_on, read_from, read_list}

abbrev Within : ℕ → ReadReply → Type 0
Within n r = r.start + r.size ≤ n

cond-within : (n : ℕ) (t : Bool) (x y : ReadReply) → Within n x → Within n y → Within n (cond t x y)
cond-within n true x y h k = h
cond-within n false x y h k = k

go-within : (n m : ℕ) (x y : ReadReply) → Within n x → Within n y → Within n (go_on m x y)
unfolding go_on
go-within n zero x y h k = k
go-within n (suc m) x y h k = h

-- the bytes of some lines with their line feeds
unfoldable spread : List (List ℕ) → ℕ
spread [] = 0
spread (l ∷ ls) = suc (length l) + spread ls

onto-spread : (b n : ℕ) (ls : List (List ℕ)) → spread ls ≤ suc n → spread (onto b ls) ≤ suc (suc n)
unfolding onto spread
onto-spread b n [] h = omega arith
onto-spread b n (l ∷ ls) h = omega arith

lines-spread : (bs : List ℕ) → spread (lines bs) ≤ suc (length bs)
unfolding lines spread
lines-spread [] = omega arith
lines-spread (b ∷ bs) =
    let h = lines-spread bs in
    elim (ends_line b) as (λ t. spread (cond t ([] ∷ lines bs) (onto b (lines bs))) ≤ suc (suc (length bs))) [ true ↦ omega arith | false ↦ onto-spread b (length bs) (lines bs) h ]

finish-within : (rs : List TaskRecord) (n : ℕ) → Within n (finish rs)
unfolding finish refused_whole accepted
finish-within rs n =
    cond-within n (is_zero (length rs)) (refused_whole 5) _ (omega arith)
    (cond-within n (ltb 4096 (hyper (tasks_in rs))) (refused_whole 6) (accepted rs) (omega arith) (omega arith))

from-within : (ls : List (List ℕ)) (i at : ℕ) (rs : List TaskRecord) → Within (at + spread ls - 1) (read_from i at rs ls)
unfolding read_from spread refused_line
from-within [] i at rs = finish-within rs (at + 0 - 1)
from-within (l ∷ ls) i at rs =
    let n = at + (suc (length l) + spread ls) - 1 in
    let m : at + suc (length l) + spread ls - 1 ≡ n = omega arith in
    let bad = refused_line (line_refusal (length rs) l) i at (length l) in
    cond-within n (skipped l) _ _ (omega (arith, from-within ls (suc i) (at + suc (length l)) rs))
    (go-within n (line_refusal (length rs) l) bad _ (omega arith) (omega (arith, from-within ls (suc i) (at + suc (length l)) (rs ++ line_task l ∷ []))))

-- the line that a reading shows lies in the list
pub shown-within : (s : List ℕ) → (read_list s).start + (read_list s).size ≤ length s
unfolding read_list refused_whole
shown-within s =
    cond-within (length s) (ltb 4096 (length s)) (refused_whole 1) (read_from 1 0 [] (lines s)) (omega arith)
    (omega (arith, from-within (lines s) 1 0 [], lines-spread s))
