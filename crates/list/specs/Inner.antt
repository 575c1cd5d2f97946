-- What the reader's own functions give, for their contracts: the fields of words, the units of a pattern, and the tasks after a line.
use Rattle.std.specs.Prelude.{true, cond, ◌&&◌, List, [], ◌∷◌, ◌++◌, map, ◌≡◌, ◌<◌, ℕ, ◌+◌, leb, nat_lt, length, take, drop, Option, Some, None, if◌then◌else◌}
use Rattle.rules.specs.Lists.{all_of, padded}
use Rattle.rules.specs.Records.{TaskRecord, all_between}
use Rattle.tasks.specs.declared.refusal.Refusal.{Refusal}
use Rattle.list.specs.declared.Refused.{Refused}
use Rattle.list.specs.Text.{lines}
use Rattle.list.specs.Reading.{is_field, number, skipped, line_task, line_refusal}
use Rattle.list.specs.declared.numbers.Digits.{Digits}
use Rattle.list.specs.declared.numbers.Numbers.{Numbers}

-- ── lines ───────────────────────────────────────────────────────────────────

-- l is the first line of a text without its line feed, and ms is what is behind that
pub record IsFirstLine (text l ms : List ℕ) : Type 0 where
  pub parts : 0 < length text → lines text ≡ l ∷ lines ms
  pub line : l ≡ take (length l) text
  pub behind : ms ≡ drop (length l + 1) text

-- ── fields ──────────────────────────────────────────────────────────────────

-- p are the digits of a field's beginning
pub record Begun (p : List ℕ) (d : Digits) : Type 0 where
  pub field : is_field p ≡ true
  pub many : length p ≡ d.count
  pub worth : number p ≡ d.value

-- the numbers of a line's fields
abbrev pub numbers_of : Numbers → List ℕ
numbers_of f = take f.count f.values

-- the numbers, if there are fields
abbrev pub numbers_in : Option Numbers → Option (List ℕ)
numbers_in None = None
numbers_in (Some f) = Some (numbers_of f)

-- the numbers that a call leaves, if it finds fields
abbrev pub numbers_after : Option (Unit {0}) → Numbers → Option (List ℕ)
numbers_after None f = None
numbers_after (Some u) f = Some (numbers_of f)

-- the numbers of some words, if each is a field and there are nine at most
unfoldable pub fields_of : List (List ℕ) → Option (List ℕ)
fields_of ws = cond (all_of is_field ws && leb (length ws) 9) (Some (map number ws)) None

-- the numbers with one more, if there is room
abbrev pub one_more : List ℕ → ℕ → Option (List ℕ)
one_more ns n = if nat_lt (length ns) 9 then Some (ns ++ n ∷ []) else None

-- ── a pattern ───────────────────────────────────────────────────────────────

-- the units as bytes, zeros behind them, if none is above 255
unfoldable pub units_of : List ℕ → Option (List ℕ)
units_of us = cond (all_between 0 255 us) (Some (padded 7 0 us)) None

-- ── a line after some tasks ─────────────────────────────────────────────────

unfoldable pub refusal_after : List TaskRecord → List ℕ → ℕ
refusal_after rs l = cond (skipped l) 0 (line_refusal (length rs) l)

unfoldable pub tasks_after : List TaskRecord → List ℕ → List TaskRecord
tasks_after rs l = cond (skipped l) rs (rs ++ line_task l ∷ [])

-- ── a list ──────────────────────────────────────────────────────────────────

-- a refusal for which no line is to blame
pub record BlamesNoLine (why : Refusal) (e : Refused) : Type 0 where
  pub same : e.why ≡ why
  pub line : e.line ≡ 0
  pub start : e.start ≡ 0
  pub text : e.text.now ≡ []
