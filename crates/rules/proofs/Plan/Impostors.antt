-- Planners that cannot stand in the relation.
use mathlib.Core.Path.{◌≡◌, refl, sym, ap, ap₂, ◌∙◌, subst}
use mathlib.Core.Bool.{Bool}
use mathlib.Core.List.{List, [], ◌∷◌, ◌++◌}
use Prim.Native.Nat.{ℕ, zero, suc, ◌<◌}
use native.Mathlib.Omega.{arith}
use lib.Dec.{T, eqb, eqb→eq}
use lib.ListN.{length, get_or, drop}
use Rattle.rules.specs.Lists.{all_of, open_lists}
use Rattle.rules.specs.Hyper.{hyper}
use Rattle.rules.specs.Records.{TaskRecord, no_record, SetRecord, Arrays, set_in, open_records}
use Rattle.rules.specs.Planner.{Word, schedule, infeasible, Planned, plan_refusal, refused, answered, plans, AnyPlanner, Right}
use Rattle.rules.specs.States.{open_states}
use Rattle.rules.specs.Impostors.{one, twice, half, busy, one_more, off_by_one, open_impostors}
use Rattle.rules.specs.Examples.{Row, Holds}
use Rattle.rules.proofs.Laws.{T_and}
use Rattle.rules.proofs.Plan.Replies.{reply-unique}
use Rattle.rules.proofs.Settle.Examples.{passes, passes-holds, open_row}

-- ── sets to try them on ─────────────────────────────────────────────────────

unfoldable pub seven_units : TaskRecord → Bool
seven_units r = eqb (length r.units) 7

seven_at : (rs : List TaskRecord) → T (all_of seven_units rs) → (j : ℕ) → j < length rs → length (get_or rs j no_record).units ≡ 7
unfolding all_of seven_units
seven_at [] t j h = let z : ⊥ = omega arith in absurd z
seven_at (r ∷ rs) t zero h = eqb→eq (length r.units) 7 (T_and (eqb (length r.units) 7) _ t).0
seven_at (r ∷ rs) t (suc j) h = seven_at rs (T_and (eqb (length r.units) 7) _ t).1 j (omega arith)

arrays-by : (r : SetRecord) → length r.entries ≡ 8 → T (all_of seven_units r.entries) → Arrays r
arrays-by r e t = record { eight = e; seven = λ j h. seven_at r.entries t j (omega arith) }

arrays-one : Arrays one
unfolding one open_states open_lists seven_units
arrays-one = arrays-by one refl tt

arrays-twice : Arrays twice
unfolding twice open_states open_lists seven_units
arrays-twice = arrays-by twice refl tt

arrays-half : Arrays half
unfolding half open_states open_lists seven_units
arrays-half = arrays-by half refl tt

arrays-busy : Arrays busy
unfolding busy open_states open_lists seven_units
arrays-busy = arrays-by busy refl tt

-- ── what a right planner must reply to them ─────────────────────────────────

-- a row of the table of examples settles the reply of every right planner
pub must : (P : AnyPlanner) → Right P → (r : SetRecord) → Arrays r → (table area : List ℕ) → plan_refusal r table ≡ 0
    → (x : Row) → x.set ≡ set_in r → length area ≡ x.numbers → T (passes x)
    → ((P r table area).answer ≡ answered x.word x.count) × ((P r table area).table ≡ x.slots ++ drop (hyper (set_in r)) table)
unfolding Right Holds
must P R r A table area e x s n t =
    let h = passes-holds x t table area n in
    let Q : Planned (set_in r) table area h.0 = subst (λ z. Planned z table area h.0) s h.1 in
    let U = reply-unique r table area (R r table area A) (plans {q = h.0} e Q) in
    (U.answer ∙ ap₂ (λ w k. answered w k) h.2 h.3, U.table ∙ h.4 ∙ ap (λ z. x.slots ++ drop (hyper z) table) s)

module _ (P : AnyPlanner) (R : Right P) where
  at_one : (P one (9 ∷ []) []).answer ≡ answered schedule 0
  unfolding open_impostors open_states open_records plan_refusal open_row
  at_one = (must P R one arrays-one (9 ∷ []) [] refl (record { set = set_in one; numbers = 0; word = schedule; count = 0; slots = 0 ∷ [] }) refl refl tt).0

  at-twice : (P twice (9 ∷ []) (9 ∷ 9 ∷ 9 ∷ [])).answer ≡ answered infeasible 1
  unfolding open_impostors open_states open_records plan_refusal open_row
  at-twice = (must P R twice arrays-twice (9 ∷ []) (9 ∷ 9 ∷ 9 ∷ []) refl (record { set = set_in twice; numbers = 3; word = infeasible; count = 1; slots = 255 ∷ [] }) refl refl tt).0

  at-half : (P half (9 ∷ 9 ∷ []) []).table ≡ 0 ∷ 255 ∷ []
  unfolding open_impostors open_states open_records plan_refusal open_row
  at-half = (must P R half arrays-half (9 ∷ 9 ∷ []) [] refl (record { set = set_in half; numbers = 0; word = schedule; count = 0; slots = 0 ∷ 255 ∷ [] }) refl refl tt).1

  at-busy : (P busy (9 ∷ 9 ∷ []) []).table ≡ 0 ∷ 0 ∷ []
  unfolding open_impostors open_states open_records plan_refusal open_row
  at-busy = (must P R busy arrays-busy (9 ∷ 9 ∷ []) [] refl (record { set = set_in busy; numbers = 0; word = schedule; count = 0; slots = 0 ∷ 0 ∷ [] }) refl refl tt).1

-- ── the impostors ───────────────────────────────────────────────────────────

-- one that always refuses, by whatever numbers
pub always_refuses : (P : AnyPlanner) → ((r : SetRecord) (table area : List ℕ) → (n : ℕ) × ((P r table area).answer ≡ refused n)) → ¬ Right P
always_refuses P f R = let a = at_one P R in let b = f one (9 ∷ []) [] in let e = b.1 in let z : ◌≡◌ {A = ℕ} 0 1 = cc in omega arith

-- one that always says infeasible, with whatever counts
pub always-infeasible : (P : AnyPlanner) → ((r : SetRecord) (table area : List ℕ) → (n : ℕ) × ((P r table area).answer ≡ answered infeasible n)) → ¬ Right P
always-infeasible P f R = let a = at_one P R in let b = f one (9 ∷ []) [] in let e = b.1 in let z : ◌≡◌ {A = ℕ} 0 1 = cc in omega arith

-- one whose table does not depend on the list, but only on the lent table and area, even for lists that it need not refuse
pub one_table : (P : AnyPlanner) (f : List ℕ → List ℕ → List ℕ) → ((r : SetRecord) (table area : List ℕ) → (P r table area).table ≡ f table area) → ¬ Right P
one_table P f e R =
    let a = at-half P R in let b = at-busy P R in
    let p = e half (9 ∷ 9 ∷ []) [] in let q = e busy (9 ∷ 9 ∷ []) [] in
    let z : ◌≡◌ {A = ℕ} 255 0 = cc in omega arith

-- one whose count is the same for all lists
pub one-count : (P : AnyPlanner) (c : ℕ) → ((r : SetRecord) (table area : List ℕ) → (w : Word) × ((P r table area).answer ≡ answered w c)) → ¬ Right P
one-count P c f R =
    let a = at_one P R in let b = at-twice P R in
    let p = f one (9 ∷ []) [] in let q = f twice (9 ∷ []) (9 ∷ 9 ∷ 9 ∷ []) in
    let p' = p.1 in let q' = q.1 in
    let u : c ≡ 0 = cc in let v : c ≡ 1 = cc in omega arith

pub off-by-one : (P : AnyPlanner) → Right P → ¬ Right (off_by_one P)
unfolding off_by_one one_more
off-by-one P R Q =
    let a = at_one P R in let b : one_more (P one (9 ∷ []) []).answer ≡ answered schedule 0 = at_one (off_by_one P) Q in
    let c : answered schedule 1 ≡ answered schedule 0 = sym (ap one_more a) ∙ b in
    let z : ◌≡◌ {A = ℕ} 1 0 = cc in omega arith

-- any other count: two right planners report the same answer to every call
pub count-settled : (P Q : AnyPlanner) → Right P → Right Q → (r : SetRecord) (table area : List ℕ) → Arrays r → (P r table area).answer ≡ (Q r table area).answer
unfolding Right
count-settled P Q RP RQ r table area A = (reply-unique r table area (RP r table area A) (RQ r table area A)).answer
