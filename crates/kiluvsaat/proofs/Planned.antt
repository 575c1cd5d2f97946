-- Laws of a set's slots and of a plan as they are called from C, in the code's terms.
use mathlib.Core.Path.{◌≡◌, refl, sym, ap, subst, ◌∙◌}
use mathlib.Core.List.{List, [], append-nil}
use Prim.Native.Nat.{ℕ, zero, suc, ◌≤◌, ◌<◌}
use native.Mathlib.Omega.{arith}
use lib.ListN.{length, take, drop}
use lib.Seq.{take_at}
use borrow.Author.Tests.{eq-eqb, ne_eqb}
use Rattle.rules.specs.Hyper.{hyper}
use Rattle.rules.specs.Records.{SetRecord, Arrays, or_else, set_in, record_refusal}
use Rattle.rules.proofs.Set.Multiple.{hyper-pos}
use Rattle.rules.proofs.Set.Tidy.{set-fit}
use Rattle.std.specs.Prelude.{Result, Ok, Err, IfOk, IfErr}
use Rattle.std.specs.Result.{result_unwrap_or}
use Rattle.tasks.specs.declared.TaskSet.{TaskSet}
use Rattle.tasks.specs.Views.{record_of, set_of}
use Rattle.tasks.specs.declared.refusal.Refusal.{Refusal}
use Rattle.tasks.proofs.Refusals.{number-some}
use Rattle.tasks.specs.Refusals.{number_of}
use Rattle.planner.specs.declared.Answer.{Answer}
use Rattle.planner.specs.Views.{word_of, answer_of}
use Rattle.rules.specs.Planner as model
use Rattle.rules.specs.Planner.{PlanReply}
use Rattle.list.specs.Reading.{read_list}
use Rattle.list.proofs.Promises.{read-admissible}
use Rattle.player.specs.Bytes.{set_size, set_bytes, set_at}
use Rattle.kiluvsaat.specs.Plans.{read_number, read_buffer, slots_number, word_number, plan_number, plan_count, PlanCall, no_set, replied}
use Rattle.player.proofs.Sizes.{set-size}
use Rattle.player.proofs.Inverse.{set_back}

-- ── the slots of a set ──────────────────────────────────────────────────────

module _ (bs : List ℕ) where
  pub slots_length : (length bs ≡ 97 → ⊥) → slots_number bs ≡ 0
  unfolding slots_number set_size
  slots_length h = rw (ne_eqb (length bs) 97 h) refl

  -- the set was read, and judged
  module _ (sized : length bs ≡ 97) (s : TaskSet) (es : record_of s ≡ set_at bs) where
    slots-refused : (r : Refusal) → record_refusal (record_of s) ≡ number_of r → 0 ≡ slots_number bs
    unfolding slots_number set_size
    slots-refused r e = rw (eq-eqb (length bs) 97 sized, ne_eqb (record_refusal (set_at bs)) 0 (λ z. number-some r (sym e ∙ ap record_refusal es ∙ z))) refl

    slots-done : (h : ℕ) → record_refusal (record_of s) ≡ 0 → h ≡ hyper (set_of s) → h ≡ slots_number bs
    unfolding slots_number set_size set_of
    slots-done h ok e = rw (eq-eqb (length bs) 97 sized, eq-eqb (record_refusal (set_at bs)) 0 (sym (ap record_refusal es) ∙ ok)) (e ∙ ap (λ r. hyper (set_in r)) es)

    pub slots-is : (r : Result ℕ Refusal) → IfOk r (λ h. (record_refusal (record_of s) ≡ 0) × (h ≡ hyper (set_of s))) → IfErr r (λ e. record_refusal (record_of s) ≡ number_of e) → slots_number bs ≡ result_unwrap_or r 0
    slots-is (Ok h) admitted refused = sym (slots-done h admitted.0 admitted.1)
    slots-is (Err e) admitted refused = sym (slots-refused e refused)

-- the string of an admissible set has slots
some-slots : (r : SetRecord) → Arrays r → record_refusal r ≡ 0 → 1 ≤ slots_number (set_bytes r)
unfolding slots_number set_size
some-slots r a ok =
    let back : set_at (set_bytes r) ≡ r = set_back (set_bytes r) r [] a (sym (append-nil (set_bytes r))) in
    let f = set-fit r a ok in
    let p : 0 < hyper (set_in r) = hyper-pos (set_in r) (λ j h. let d = f.due j h in let e = f.fits j h in omega arith) in
    rw (eq-eqb (length (set_bytes r)) 97 (set-size r a), back, eq-eqb (record_refusal r) 0 ok) (omega arith)

read-fine : (bs o : List ℕ) → read_number bs o ≡ 0 → (read_list bs).refusal ≡ 0
unfolding read_number or_else
read-fine bs o e = first (read_list bs).refusal _ e
  where
    first : (m n : ℕ) → or_else m n ≡ 0 → m ≡ 0
    first zero n e = refl
    first (suc m) n e = e

-- what a list read wrote has slots
pub read-slots : (bs o : List ℕ) → read_number bs o ≡ 0 → 1 ≤ slots_number (take 97 (read_buffer bs o))
unfolding read_buffer set_size
read-slots bs o e =
    let A = read-admissible bs (read-fine bs o e) in
    rw (e, take_at (set_bytes (read_list bs).set) (drop 97 o) 97 (set-size (read_list bs).set A.arrays)) (some-slots (read_list bs).set A.arrays A.fine)

-- ── a plan ──────────────────────────────────────────────────────────────────

-- what a call returns and leaves in the table, the area and the count
module _ (bs t a : List ℕ) (k : ℕ) where
  pub plan-length : (length bs ≡ 97 → ⊥) → PlanCall bs t a k 5 t a k
  unfolding set_size
  plan-length h = no_set h

  -- the set was read, and the planner replied
  module _ (sized : length bs ≡ 97) (s : TaskSet) (es : record_of s ≡ set_at bs) (t' a' : List ℕ) where
    reply : (x : model.Answer) → PlanReply (record_of s) t a x t' a' → PlanCall bs t a k (plan_number x) t' a' (plan_count x k)
    unfolding set_size
    reply x er = replied {a = x} sized (subst (λ r. PlanReply r t a x t' a') es er)

    pub plan-refused : (r : Refusal) → PlanReply (record_of s) t a (answer_of (Err r)) t' a' → PlanCall bs t a k (number_of r) t' a' k
    unfolding plan_number plan_count answer_of
    plan-refused r er = reply (answer_of (Err r)) er

    pub plan-answered : (x : Answer) (n : ℕ) → n ≡ word_number (word_of x.word) → PlanReply (record_of s) t a (answer_of (Ok x)) t' a' → PlanCall bs t a k n t' a' x.dead
    unfolding plan_number plan_count answer_of
    plan-answered x n q er = rw q (reply (answer_of (Ok x)) er)

pub ruleset plan_laws = (plan-length, plan-refused, plan-answered)
