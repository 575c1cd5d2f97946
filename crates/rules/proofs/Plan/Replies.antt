-- Every input has a reply, and its replies agree.
use mathlib.Core.Path.{◌≡◌, refl, sym, ap, ap₂, ◌∙◌}
use mathlib.Core.Bool.{Bool, true, false, cond}
use mathlib.Core.List.{List}
use Prim.Native.Nat.{ℕ, zero, suc, ◌*◌, ◌≤◌}
use native.Mathlib.Omega.{arith}
use borrow.Author.Tests.{ltb-false}
use lib.Dec.{ltb}
use lib.ListN.{length, drop}
use Rattle.rules.specs.Hyper.{hyper}
use Rattle.rules.specs.Records.{or_else, SetRecord, set_in, record_refusal}
use Rattle.rules.specs.Planner.{Word, plan_refusal, Answer, refused, answered, PlanReply, refuses, plans, Outcome, AnyPlanner, Right}
use Rattle.rules.proofs.Set.Tidy.{set-fit, set-small}
use Rattle.rules.proofs.Plan.Answer.{answer, answer-planned}
use Rattle.rules.proofs.Plan.Unique.{planned-unique}
use Rattle.rules.proofs.Lists.{clash-01}

-- what two replies share: the answer, the whole table, and the area but for the records
pub record SameReply (r : SetRecord) (a b : Answer) (t u : List ℕ) (x y : List ℕ) : Type 0 where
  pub answer : a ≡ b
  pub table : t ≡ u
  pub area : (n : ℕ) → a ≡ refused n → x ≡ y
  pub beyond : (w : Word) (n : ℕ) → a ≡ answered w n → drop (n * suc (length (set_in r))) x ≡ drop (n * suc (length (set_in r))) y

pub reply-unique : (r : SetRecord) (table area : List ℕ) {a b : Answer} {t u x y : List ℕ} → PlanReply r table area a t x → PlanReply r table area b u y → SameReply r a b t u x y
reply-unique r table area (refuses {n = n} e) (refuses {n = m} f) = record
    { answer = (let k : suc n ≡ suc m = sym e ∙ f in ap refused k); table = refl; area = λ i q. refl; beyond = λ w i q. clash-01 (cc) }
reply-unique r table area (refuses {n = n} e) (plans {q = q} f Q) = let k : suc n ≡ 0 = sym e ∙ f in let z : ⊥ = omega arith in absurd z
reply-unique r table area (plans {q = p} e P) (refuses {n = n} f) = let k : suc n ≡ 0 = sym f ∙ e in let z : ⊥ = omega arith in absurd z
reply-unique r table area (plans {q = p} e P) (plans {q = q} f Q) =
    let G = planned-unique (set_in r) table area p q P Q in
    record {
      answer = ap₂ (λ w n. answered w n) G.word G.count;
      table = G.table;
      area = λ i k. clash-01 (cc);
      beyond = λ w n k. beyond' w n k G.beyond G.count;
    }
  where
    beyond' : (w : Word) (n : ℕ) → answered p.word p.count ≡ answered w n → drop (p.count * suc (length (set_in r))) p.area ≡ drop (q.count * suc (length (set_in r))) q.area → p.count ≡ q.count
        → drop (n * suc (length (set_in r))) p.area ≡ drop (n * suc (length (set_in r))) q.area
    beyond' w n k e c = let m : p.count ≡ n = cc in
        ap (λ i. drop (i * suc (length (set_in r))) p.area) (sym m) ∙ e ∙ ap (λ i. drop (i * suc (length (set_in r))) q.area) (sym c ∙ m)

-- ── every input has a reply ─────────────────────────────────────────────────

pub plan-parts : (r : SetRecord) (table : List ℕ) → plan_refusal r table ≡ 0 → (record_refusal r ≡ 0) × (hyper (set_in r) ≤ length table)
unfolding plan_refusal or_else
plan-parts r table e = go (record_refusal r) refl e
  where
    two : (b : Bool) → ltb (length table) (hyper (set_in r)) ≡ b → ◌≡◌ {A = ℕ} (cond b 7 0) 0 → hyper (set_in r) ≤ length table
    two true q e = let z : ⊥ = omega arith in absurd z
    two false q e = ltb-false (length table) (hyper (set_in r)) q

    go : (n : ℕ) → record_refusal r ≡ n → or_else n (cond (ltb (length table) (hyper (set_in r))) 7 0) ≡ 0 → (record_refusal r ≡ 0) × (hyper (set_in r) ≤ length table)
    go zero q e = (q, two (ltb (length table) (hyper (set_in r))) refl e)
    go (suc n) q e = let z : ⊥ = omega arith in absurd z

-- the rules' own planner, by exhaustive search
unfoldable pub outcome_of : SetRecord → List ℕ → List ℕ → ℕ → Outcome
outcome_of r table area zero = record {
  answer = answered (answer (set_in r) table area).word (answer (set_in r) table area).count;
  table = (answer (set_in r) table area).table;
  area = (answer (set_in r) table area).area;
}
outcome_of r table area (suc n) = record { answer = refused (suc n); table = table; area = area }

unfoldable pub rules_planner : AnyPlanner
rules_planner r table area = outcome_of r table area (plan_refusal r table)

pub rules_planner-right : Right rules_planner
unfolding Right rules_planner outcome_of
rules_planner-right r table area A = go (plan_refusal r table) refl
  where
    go : (n : ℕ) → plan_refusal r table ≡ n → PlanReply r table area (outcome_of r table area n).answer (outcome_of r table area n).table (outcome_of r table area n).area
    go zero e = let ok = (plan-parts r table e).0 in plans {q = answer (set_in r) table area} e (answer-planned (set_in r) (set-fit r A ok) (set-small r A ok) table area)
    go (suc n) e = refuses {n = n} e
