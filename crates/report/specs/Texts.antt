-- Document 01, "Program `plan`": the text that it writes for a list.
use Rattle.std.specs.Prelude.{◌≡◌, cond, List, [], ◌∷◌, ◌++◌, ℕ, suc, ◌+◌, eqb, take, replicate}
use Rattle.rules.specs.Lists.{is_zero}
use Rattle.rules.specs.Hyper.{hyper}
use Rattle.rules.specs.Positions.{idle}
use Rattle.rules.specs.Records.{set_in}
use Rattle.rules.specs.Planner.{Word, schedule, infeasible, out_of_room, answered, PlanReply}
use Rattle.list.specs.Reading.{read_list}
use Rattle.list.specs.Plain.{digits_in}

-- a number in decimal, with no leading zero
unfoldable pub decimal : ℕ → List ℕ
decimal n = cond (is_zero n) (48 ∷ []) (digits_in 20 n)

-- "One space parts words and numbers; every line ends in a line feed."
unfoldable pub one_number : List ℕ → ℕ → List ℕ
one_number word n = word ++ (32 ∷ decimal n) ++ 10 ∷ []

unfoldable pub two_numbers : List ℕ → ℕ → ℕ → List ℕ
two_numbers word a b = word ++ (32 ∷ decimal a) ++ (32 ∷ decimal b) ++ 10 ∷ []

-- the words `schedule`, `infeasible`, `out-of-room` and `refused`
unfoldable pub schedule_word : List ℕ
schedule_word = 115 ∷ 99 ∷ 104 ∷ 101 ∷ 100 ∷ 117 ∷ 108 ∷ 101 ∷ []

unfoldable pub infeasible_word : List ℕ
infeasible_word = 105 ∷ 110 ∷ 102 ∷ 101 ∷ 97 ∷ 115 ∷ 105 ∷ 98 ∷ 108 ∷ 101 ∷ []

unfoldable pub out_of_room_word : List ℕ
out_of_room_word = 111 ∷ 117 ∷ 116 ∷ 45 ∷ 111 ∷ 102 ∷ 45 ∷ 114 ∷ 111 ∷ 111 ∷ 109 ∷ []

unfoldable pub refused_word : List ℕ
refused_word = 114 ∷ 101 ∷ 102 ∷ 117 ∷ 115 ∷ 101 ∷ 100 ∷ []

-- a slot: "task number or a dot for idle"
unfoldable pub slot_byte : ℕ → ℕ
slot_byte c = cond (eqb c idle) 46 (49 + c)

-- "Then the slots, 64 to a line": i slots stand in the line already
unfoldable pub slot_lines : ℕ → List ℕ → List ℕ
slot_lines i [] = cond (is_zero i) [] (10 ∷ [])
slot_lines i (c ∷ cs) = slot_byte c ∷ cond (eqb i 63) (10 ∷ slot_lines 0 cs) (slot_lines (suc i) cs)

-- "First line: word, H, count. Then the slots. Otherwise one line: infeasible and count, out-of-room and K"
unfoldable pub word_text : ℕ → Word → ℕ → List ℕ → List ℕ
word_text h schedule n slots = two_numbers schedule_word h n ++ slot_lines 0 slots
word_text h infeasible n slots = one_number infeasible_word n
word_text h out_of_room n slots = one_number out_of_room_word n

-- "or refused, number and line number"
unfoldable pub refused_text : ℕ → ℕ → List ℕ
refused_text n line = two_numbers refused_word n line

-- the table that the program lends
unfoldable pub program_table : List ℕ
program_table = replicate 4096 0

-- what the program writes for a list: the reader's refusal, else the planner's reply, of which the rules settle word, count and slots
pub record Writes (list area : List ℕ) (text : List ℕ) : Type 0 where
  pub refuses : (n : ℕ) → (read_list list).refusal ≡ suc n → text ≡ refused_text (suc n) (read_list list).line
  pub plans : (read_list list).refusal ≡ 0 → {w : Word} {n : ℕ} {t u : List ℕ} → PlanReply (read_list list).set program_table area (answered w n) t u
      → text ≡ word_text (hyper (set_in (read_list list).set)) w n (take (hyper (set_in (read_list list).set)) t)
