-- What is told of a list: the text of an answer, and the whole report.
use mathlib.Core.Path.{◌≡◌, refl, sym, ap, ◌∙◌}
use mathlib.Core.Logic.{◌⊎◌, inl, inr}
use mathlib.Core.List.{List, [], ◌∷◌, ◌++◌}
use Prim.Native.Nat.{ℕ, ◌≤◌, ◌<◌}
use native.Mathlib.Omega.{arith}
use lib.ListN.{length, take, length-append, length-take}
use lib.Seq.{length-take-le, get_or-take}
use Rattle.std.specs.Prelude.{All, Some, None, Ok, Err}
use Rattle.std.proofs.lemmas.List.Elements.{All-from_get_or}
use Rattle.rules.specs.Hyper.{hyper}
use Rattle.rules.specs.Records.{set_in}
use Rattle.rules.specs.Planner.{Word, schedule, infeasible, out_of_room, Answer, refused, answered, PlanReply}
use Rattle.rules.proofs.Lists.{clash}
use Rattle.rules.proofs.Set.Widths.{hyper-small}
use Rattle.tasks.specs.declared.TaskSet.{TaskSet}
use Rattle.tasks.specs.Refusals.{number_of}
use Rattle.tasks.specs.Views.{record_of, set_of, within}
use Rattle.tasks.proofs.Multiple.{within-few}
use Rattle.tasks.proofs.Refusals.{number-some}
use Rattle.list.specs.Reading.{read_list, reply_of}
use Rattle.list.specs.declared.Refused.{Refused}
use Rattle.list.specs.Replies.{Admissible}
use Rattle.list.proofs.Promises.{read-admissible}
use Rattle.report.specs.Texts.{two_numbers, schedule_word, infeasible_word, out_of_room_word, refused_word, slot_lines, word_text, refused_text, program_table, Writes}
use Rattle.report.specs.Put.{PutCut, Choice, fields}
use Rattle.report.specs.Adds.{Adds}
use Rattle.report.specs.declared.write.Text.{Text}
use Rattle.report.specs.Reports.{answer_text, Tellable, Told, Reported}
use Rattle.report.proofs.Adds.{adds-more}
use Rattle.report.proofs.Put.{cut-whole}
use Rattle.report.proofs.Numbers.{one-line, two-line, one-length, two-length}
use Rattle.report.proofs.Slots.{lines-length}
use Rattle.report.proofs.Reply.{same_text, answers, tellable}

-- ── the text of an answer ───────────────────────────────────────────────────

-- 4,096 slots in 64 lines: 4,300 bytes hold any text
answer-length : (h : ℕ) (a : Answer) (table : List ℕ) → h ≤ 4096 → length (answer_text h a table) ≤ 4300
unfolding answer_text word_text schedule_word infeasible_word out_of_room_word
answer-length h (refused m) table w = omega arith
answer-length h (answered schedule n) table w =
    let f = two-length schedule_word h n in let m = lines-length 0 (take h table) (omega arith) in let t = length-take {A = ℕ} h table in
    let l = length-append (two_numbers schedule_word h n) (slot_lines 0 (take h table)) in
    omega arith
answer-length h (answered infeasible n) table w = let f = one-length infeasible_word n in omega arith
answer-length h (answered out_of_room n) table w = let f = one-length out_of_room_word n in omega arith

refused-length : (n line : ℕ) → length (two_numbers refused_word n line) ≤ 4300
unfolding refused_word
refused-length n line = let f = two-length refused_word n line in omega arith

pub slots-shown : (h n : ℕ) (a : Answer) (table : List ℕ) → Tellable h a table → a ≡ answered schedule n → All Choice (take h table)
slots-shown h n a table L q =
    let t = length-take-le h table L.slots in
    All-from_get_or Choice (take h table) 0 (λ k i. rw (get_or-take h table k 0 (omega arith)) (L.choices n q k (omega arith)))

module _ {a b : Text} (h n : ℕ) (table : List ℕ) where
  pub answer-schedule : {c : Text} → Adds a (schedule_word ++ fields (h ∷ n ∷ []) ++ 10 ∷ []) b → Adds b (slot_lines 0 (take h table)) c → Adds a (answer_text h (answered schedule n) table) c
  unfolding answer_text word_text
  answer-schedule A B = adds-more _ _ (rw (two-line schedule_word h n) at A) B

  pub answer-infeasible : Adds a (infeasible_word ++ fields (n ∷ []) ++ 10 ∷ []) b → Adds a (answer_text h (answered infeasible n) table) b
  unfolding answer_text word_text
  answer-infeasible A = rw (one-line infeasible_word n) at A

  pub answer-room : Adds a (out_of_room_word ++ fields (n ∷ []) ++ 10 ∷ []) b → Adds a (answer_text h (answered out_of_room n) table) b
  unfolding answer_text word_text
  answer-room A = rw (one-line out_of_room_word n) at A

-- ── enough lent ─────────────────────────────────────────────────────────────

module _ (list table area out : List ℕ) (long : 4096 ≤ length table) (room : 4300 ≤ length out) where
  not_short : {A : Type 0} → (length table < 4096) ⊎ (length out < 4300) → A
  not_short (inl h) = let z : ⊥ = omega arith in absurd z
  not_short (inr h) = let z : ⊥ = omega arith in absurd z

  told : {r : ℕ} {t u p : List ℕ} → Told list table area out r t u p → Reported list table area out r t u p
  told T = record { short = λ h. not_short h; told = λ a b. T }

  pub refused-told : (x : Refused) → reply_of (Err x) ≡ read_list list → {r : ℕ} {p : List ℕ} → PutCut out 0 (refused_word ++ fields (number_of x.why ∷ x.line ∷ []) ++ 10 ∷ []) r p → Reported list table area out r table area p
  unfolding refused_text reply_of
  refused-told x e P =
      let is-refusal : number_of x.why ≡ (read_list list).refusal = ap (λ y. y.refusal) e in
      let is-line : x.line ≡ (read_list list).line = ap (λ y. y.line) e in
      told record {
        text = two_numbers refused_word (number_of x.why) x.line;
        writes = record { refuses = λ n q. rw (is-refusal, is-line, q) refl; plans = λ q _. absurd (number-some x.why (is-refusal ∙ q)) };
        put = cut-whole (let l = refused-length (number_of x.why) x.line in omega arith) (rw (two-line refused_word (number_of x.why) x.line) at P);
        refuses = λ n q. (refl, refl);
        plans = λ q. absurd (number-some x.why (is-refusal ∙ q));
      }

  module _ (set : TaskSet) (e : reply_of (Ok set) ≡ read_list list) where
    is-refusal : 0 ≡ (read_list list).refusal
    unfolding reply_of
    is-refusal = ap (λ y. y.refusal) e

    is_set : record_of set ≡ (read_list list).set
    unfolding reply_of
    is_set = ap (λ y. y.set) e

    admissible : Admissible (record_of set)
    admissible = rw is_set (read-admissible list (sym is-refusal))

    -- a set that is read has a hyper-period, and the planner doesn't refuse it
    whole : within (hyper (set_of set)) ≡ Some (hyper (set_in (record_of set)))
    unfolding set_of
    whole = within-few _ (hyper-small (record_of set) admissible.fine)

    pub never-none : None ≡ within (hyper (set_of set)) → ⊥
    never-none q = let w = whole in cc

    pub never-refused : {a : Answer} {t u : List ℕ} → PlanReply (record_of set) table area a t u → (m : ℕ) → a ≡ refused m → ⊥
    never-refused {a = a} R m q = let A = answers (record_of set) admissible.arrays admissible.fine table area long R in let e : refused m ≡ answered A.0 A.1 = sym q ∙ A.2 in cc

    module _ (k : ℕ) (hk : Some k ≡ within (hyper (set_of set))) where
      is-hyper : k ≡ hyper (set_in (record_of set))
      is-hyper = let w = whole in cc

      module _ {a : Answer} {t u : List ℕ} (R : PlanReply (record_of set) table area a t u) where
        pub planned-tellable : Tellable k a t
        planned-tellable = rw is-hyper (tellable (record_of set) admissible.arrays admissible.fine table area long R)

        writes-it : (w : Word) (n : ℕ) → a ≡ answered w n → Writes list area (answer_text k a t)
        unfolding answer_text
        writes-it w n q = record { refuses = λ m z. clash m (sym z ∙ sym is-refusal); plans = λ _ P. same P }
          where
            same : {v : Word} {m : ℕ} {s y : List ℕ} → PlanReply (read_list list).set program_table area (answered v m) s y
                → answer_text k a t ≡ word_text (hyper (set_in (read_list list).set)) v m (take (hyper (set_in (read_list list).set)) s)
            same P =
                let G = same_text (record_of set) table program_table area (rw q at R) (rw (← is_set) at P) in
                rw (q, is-hyper, G.word, G.count, G.slots, is_set) refl

        pub planned-told : {r : ℕ} {p : List ℕ} → PutCut out 0 (answer_text k a t) r p → Reported list table area out r t u p
        planned-told P =
            let A = answers (record_of set) admissible.arrays admissible.fine table area long R in
            told record {
              text = answer_text k a t;
              writes = writes-it A.0 A.1 A.2;
              put = cut-whole (let l = answer-length k a t planned-tellable.few in omega arith) P;
              refuses = λ n q. clash n (sym q ∙ sym is-refusal);
              plans = λ q. (A.0, A.1, rw (← is_set, ← A.2) R);
            }
