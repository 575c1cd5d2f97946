-- The promises about what the program writes.
use mathlib.Core.Path.{◌≡◌}
use mathlib.Core.Logic.{◌↔◌}
use mathlib.Core.List.{List}
use Prim.Native.Nat.{ℕ, ◌≤◌}
use native.Mathlib.Omega.{arith}
use lib.ListN.{length, take}
use Rattle.list.specs.Reading.{read_list}
use Rattle.report.specs.Texts.{Writes}
use Rattle.report.specs.Put.{PutCut}
use Rattle.report.specs.Reports.{Reported}
use Rattle.report.specs.Help.{explanation}
use Rattle.report.proofs.Put.{put-fits, put-taken, cut-whole}
use Rattle.report.proofs.Unique.{SameReport, report-same, report-fits}
use Rattle.report.proofs.Said.{silent, explanation-length}

-- two reports of one call agree in length, text and table, and in the area but for the planner's freedom
pub report-unique : (list table area out : List ℕ) {r s : ℕ} {t u x y p q : List ℕ} → Reported list table area out r t x p → Reported list table area out s u y q → SameReport list r s t u x y p q
report-unique list table area out R S = report-same list table area out R S

-- what is written lies within the buffer
pub report-within : (list table area out : List ℕ) {r : ℕ} {t x p : List ℕ} → Reported list table area out r t x p → r ≤ length p
report-within list table area out R = report-fits list table area out R

pub explain-within : (out text : List ℕ) {r : ℕ} {p : List ℕ} → PutCut out 0 text r p → r ≤ length p
explain-within out text C = put-fits C.put

-- a long enough buffer holds the whole text, and what is said of a list of at most 4,097 bytes
pub report-text : (list table area out : List ℕ) {r : ℕ} {t x p : List ℕ} → Reported list table area out r t x p → 4096 ≤ length table → 4300 ≤ length out → Writes list area (take r p)
report-text list table area out R long room = let T = R.told long room in rw (put-taken T.put) T.writes

pub explain-text : (list out : List ℕ) {r : ℕ} {p : List ℕ} → PutCut out 0 (explanation list) r p → length list ≤ 4097 → 4300 ≤ length out → take r p ≡ explanation list
explain-text list out C few room = put-taken (cut-whole (let l = explanation-length list few in omega arith) C)

-- nothing is explained exactly if the list is accepted
pub explains-refusals : (bs : List ℕ) → (length (explanation bs) ≡ 0) ↔ ((read_list bs).refusal ≡ 0)
explains-refusals bs = silent bs
