-- Two reports of one call agree, but for the planner's freedom in the area.
use mathlib.Core.Path.{◌≡◌, refl, sym, ap, ◌∙◌}
use mathlib.Core.Logic.{◌⊎◌, inl, inr}
use mathlib.Core.List.{List, ◌++◌}
use Prim.Native.Nat.{ℕ, zero, suc, ◌+◌, ◌*◌, ◌≤◌, ◌<◌}
use native.Mathlib.Omega.{arith}
use lib.ListN.{length, take, drop, length-replicate}
use Rattle.rules.specs.Records.{set_in}
use Rattle.rules.proofs.Laws.{le-or-lt}
use Rattle.rules.proofs.Plan.Replies.{reply-unique}
use Rattle.list.specs.Reading.{read_list}
use Rattle.list.proofs.Promises.{read-admissible}
use Rattle.report.specs.Texts.{program_table}
use Rattle.report.specs.Put.{Put}
use Rattle.report.specs.Reports.{Told, Untouched, Reported}
use Rattle.report.proofs.Put.{put-fits}
use Rattle.report.proofs.Reply.{not-refused, moved-reply}

pub put-unique : {o : List ℕ} {at : ℕ} {xs ys : List ℕ} {r s : ℕ} {p q : List ℕ} → xs ≡ ys → Put o at xs r p → Put o at ys s q → (r ≡ s) × (p ≡ q)
put-unique {o = o} {at = at} e P Q = (P.behind ∙ ap (λ l. at + length l) e ∙ sym Q.behind, P.text ∙ ap (λ l. take at o ++ l ++ drop (at + length l) o) e ∙ sym Q.text)

-- what is written lies within `out`
pub report-fits : (list table area out : List ℕ) {r : ℕ} {t x p : List ℕ} → Reported list table area out r t x p → r ≤ length p
report-fits list table area out {r = r} {t = t} {x = x} {p = p} R = go (le-or-lt 4096 (length table)) (le-or-lt 4300 (length out))
  where
    none : Untouched table area out r t x p → r ≤ length p
    none U = let z = U.none in omega arith

    go : (4096 ≤ length table) ⊎ (length table < 4096) → (4300 ≤ length out) ⊎ (length out < 4300) → r ≤ length p
    go (inr h) k = none (R.short (inl h))
    go (inl h) (inr k) = none (R.short (inr k))
    go (inl h) (inl k) = put-fits (R.told h k).put

-- what two reports share: all but the first records of the area
pub record SameReport (list : List ℕ) (r s : ℕ) (t u x y p q : List ℕ) : Type 0 where
  pub size : r ≡ s
  pub out : p ≡ q
  pub table : t ≡ u
  pub area : (x ≡ y) ⊎ ((n : ℕ) × (drop (n * suc (length (set_in (read_list list).set))) x ≡ drop (n * suc (length (set_in (read_list list).set))) y))

module _ (list table area out : List ℕ) {r s : ℕ} {t u x y p q : List ℕ} where
  kept_same : Untouched table area out r t x p → Untouched table area out s u y q → SameReport list r s t u x y p q
  kept_same A B = record { size = A.none ∙ sym B.none; out = A.out_kept ∙ sym B.out_kept; table = A.table_kept ∙ sym B.table_kept; area = inl (A.area_kept ∙ sym B.area_kept) }

  refused-same : (n : ℕ) → (read_list list).refusal ≡ suc n → Told list table area out r t x p → Told list table area out s u y q → SameReport list r s t u x y p q
  refused-same n e T U =
      let k = put-unique (T.writes.refuses n e ∙ sym (U.writes.refuses n e)) T.put U.put in
      record { size = k.0; out = k.1; table = (T.refuses n e).0 ∙ sym (U.refuses n e).0; area = inl ((T.refuses n e).1 ∙ sym (U.refuses n e).1) }

  planned-same : (read_list list).refusal ≡ 0 → Told list table area out r t x p → Told list table area out s u y q → SameReport list r s t u x y p q
  unfolding program_table
  planned-same e T U =
      let A = read-admissible list e in
      let P = T.plans e in
      let G = reply-unique (read_list list).set table area P.2 (U.plans e).2 in
      let M = moved-reply (read_list list).set table program_table area (not-refused (read_list list).set A.arrays A.fine program_table area (let l = length-replicate {A = ℕ} 4096 0 in omega arith)) P.2 in
      let k = put-unique (T.writes.plans e M.1 ∙ sym (U.writes.plans e M.1)) T.put U.put in
      record { size = k.0; out = k.1; table = G.table; area = inr (P.1, G.beyond P.0 P.1 refl) }

  pub report-same : Reported list table area out r t x p → Reported list table area out s u y q → SameReport list r s t u x y p q
  report-same R S = go (le-or-lt 4096 (length table)) (le-or-lt 4300 (length out))
    where
      by-refusal : (n : ℕ) → (read_list list).refusal ≡ n → Told list table area out r t x p → Told list table area out s u y q → SameReport list r s t u x y p q
      by-refusal zero e T U = planned-same e T U
      by-refusal (suc n) e T U = refused-same n e T U

      go : (4096 ≤ length table) ⊎ (length table < 4096) → (4300 ≤ length out) ⊎ (length out < 4300) → SameReport list r s t u x y p q
      go (inr h) k = kept_same (R.short (inl h)) (S.short (inl h))
      go (inl h) (inr k) = kept_same (R.short (inr k)) (S.short (inr k))
      go (inl h) (inl k) = by-refusal (read_list list).refusal refl (R.told h k) (S.told h k)
