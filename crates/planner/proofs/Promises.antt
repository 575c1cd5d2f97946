-- The planner's promises, each in one place under one name.
use mathlib.Core.Path.{◌≡◌, refl}
use mathlib.Core.List.{List}
use Prim.Native.Nat.{ℕ}
use lib.ListN.{take}
use Rattle.rules.specs.Hyper.{hyper}
use Rattle.rules.specs.Positions.{Position}
use Rattle.rules.specs.Planner as model
use Rattle.rules.specs.Planner.{Precede, plan_refusal, PlanReply}
use Rattle.rules.specs.Condition2.{Condition2}
use Rattle.rules.proofs.Lists.{clash-01}
use Rattle.rules.proofs.Plan.Condition2.{condition2}
use Rattle.tasks.specs.declared.TaskSet.{TaskSet}
use Rattle.tasks.specs.Views.{record_of, set_of}
use Rattle.tasks.proofs.Views.{arrays}
use Rattle.planner.specs.declared.Word.{Word}
use Rattle.planner.specs.declared.Answer.{Answer}
use Rattle.tasks.specs.declared.refusal.Refusal.{Refusal}
use Rattle.tasks.specs.Refusals.{number_of}
use Rattle.std.specs.Prelude.{Result, Ok, Err}
use Rattle.planner.specs.Views.{word_of, answer_of}
use Rattle.planner.proofs.plan.Statement.{statement}
use Rattle.planner.proofs.plan.Met.{met}

-- every call of `planner::plan`, with any values, ends with a reply that is as the rules say
pub plan-exact : {M : Type 1} → statement M
plan-exact = met

-- what a call gives: what is returned, and what the lent table and area hold afterwards
pub record Given : Type 0 where
  pub answer : Result Answer Refusal
  pub table : List ℕ
  pub area : List ℕ

-- any planner, and one that meets the contract of `plan`
abbrev pub AnyPlan : Type 0
AnyPlan = TaskSet → List ℕ → List ℕ → Given

abbrev pub Exact : AnyPlan → Type 0
Exact P = (s : TaskSet) (table area : List ℕ) → PlanReply (record_of s) table area (answer_of (P s table area).answer) (P s table area).table (P s table area).area

-- condition 2 of any planner that meets it: an admissible set with a table long enough gets a word and a count, as the condition says
pub condition-2 : (P : AnyPlan) → Exact P → (s : TaskSet) (table area : List ℕ) → plan_refusal (record_of s) table ≡ 0
    → (w : Word) × (n : ℕ) × ((P s table area).answer ≡ Ok (record { word = w; dead = n }))
    × ((dead : List Position) → Precede (set_of s) dead → Condition2 (set_of s) dead area (word_of w) n (take (hyper (set_of s)) (P s table area).table))
unfolding set_of answer_of
condition-2 P E s table area e =
    let c = condition2 (record_of s) (arrays s) table area e (E s table area) in
    go (P s table area).answer refl c.0 c.1 c.2 c.3
  where
    Meets : model.Word → ℕ → Type 0
    Meets v n = (dead : List Position) → Precede (set_of s) dead → Condition2 (set_of s) dead area v n (take (hyper (set_of s)) (P s table area).table)

    go : (a : Result Answer Refusal) → (P s table area).answer ≡ a → (v : model.Word) (n : ℕ) → answer_of (P s table area).answer ≡ model.answered v n → Meets v n
        → (w : Word) × (k : ℕ) × ((P s table area).answer ≡ Ok (record { word = w; dead = k })) × Meets (word_of w) k
    go (Err x) q v n f C = let z : model.refused (number_of x) ≡ model.answered v n = rw q at f in clash-01 (cc)
    go (Ok w) q v n f C =
        let z : model.answered (word_of w.word) w.dead ≡ model.answered v n = rw q at f in
        let a : word_of w.word ≡ v = cc in
        let b : w.dead ≡ n = cc in
        (w.word, w.dead, q, rw (a, b) C)
