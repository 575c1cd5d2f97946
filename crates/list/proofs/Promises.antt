-- The promises about task lists. Each is one statement about the definitions of specs/.
use mathlib.Core.Path.{◌≡◌, refl}
use mathlib.Core.Bool.{true, false}
use mathlib.Core.List.{List, [], ◌∷◌, ◌++◌, map}
use Prim.Native.Nat.{ℕ, suc, ◌≤◌}
use lib.ListN.{length}
use Rattle.rules.specs.Lists.{all_of, open_lists}
use Rattle.rules.specs.Hyper.{open_hyper}
use Rattle.rules.specs.Records.{SetRecord, Arrays, record_refusal, open_records}
use Rattle.rules.specs.States.{tidied, open_states}
use Rattle.list.specs.Text.{lines, open_text}
use Rattle.list.specs.Reading.{is_digit, number, is_comment, skipped, read_list, shown, open_reading}
use Rattle.list.specs.Plain.{plain_text}
use Rattle.list.specs.Content.{content, in_line, starts_line, starts_word, ends_word}
use Rattle.list.specs.Replies.{Admissible, Agree, ShowsLine}
use Rattle.list.specs.Examples.{settled_as, read_as, examples, open_examples}
use Rattle.list.proofs.Meaning.Back.{text-within, reads-back}
use Rattle.list.proofs.Meaning.Admissible.{reads-admissible}
use Rattle.list.proofs.Meaning.Content.{agrees}
use Rattle.list.proofs.Meaning.Ignored.{skipped-ignored, space-before, space-after, zero_number, zero-ignored, last-lines, last-ignored}
use Rattle.list.proofs.Meaning.Shown.{shows-line, shows-none}

-- ── reading back ────────────────────────────────────────────────────────────

-- "The fields are T, D, then the whole pattern C E C ..": the plain text of every admissible set reads back as that set, with all steps and waits of every task
pub read_back : (r : SetRecord) → Arrays r → record_refusal r ≡ 0 → read_list (plain_text r) ≡ record { refusal = 0; line = 0; start = 0; size = 0; set = tidied r }
read_back r A ok = reads-back r A ok

-- "At most 4,096 bytes": the plain text of a set is far shorter
pub plain-short : (r : SetRecord) → Arrays r → record_refusal r ≡ 0 → length (plain_text r) ≤ 304
plain-short r A ok = text-within r A ok

-- "Order for a list": what gets none of its refusals is an admissible set, with zeros in the parts not in use
pub read-admissible : (bs : List ℕ) → (read_list bs).refusal ≡ 0 → Admissible (read_list bs).set
read-admissible bs e = reads-admissible bs e

-- ── what a list's layout changes ────────────────────────────────────────────

-- "leading and trailing spaces are allowed", "leading zeros allowed", "is skipped": texts of the same content have the same refusal and the same set: the layout changes only line number and place
pub same-content : (a b : List ℕ) → length a ≤ 4096 → length b ≤ 4096 → content a ≡ content b → Agree (read_list a) (read_list b)
same-content a b h k e = agrees a b h k e

-- "A line whose first byte is `#` is skipped, whatever follows in it." and "A line empty or of spaces alone is skipped.": such a line more, between two lines or before the first, changes nothing
pub skipped-line : (a l b : List ℕ) → starts_line a ≡ true → all_of in_line l ≡ true → skipped l ≡ true → content (a ++ (l ++ 10 ∷ b)) ≡ content (a ++ b)
skipped-line a l b s i e = skipped-ignored a l b s i e

-- "leading and trailing spaces are allowed": a space more where a word may start (not before `#`, where it would undo a comment)
pub space-more-before : (a b : List ℕ) → starts_word a ≡ true → is_comment b ≡ false → content (a ++ 32 ∷ b) ≡ content (a ++ b)
space-more-before a b s e = space-before a b s e

-- "leading and trailing spaces are allowed": a space more where a word ends, or before another space
pub space-more-after : (a b : List ℕ) → ends_word b ≡ true → content (a ++ 32 ∷ b) ≡ content (a ++ b)
space-more-after a b e = space-after a b e

-- "leading zeros allowed": the number stays the same
pub zero-more-number : (w : List ℕ) → number (48 ∷ w) ≡ number w
zero-more-number w = zero_number w

-- "a field is 1 to 4 decimal digits, leading zeros allowed": a zero more before one to three digits
pub zero_more : (a w b : List ℕ) → starts_word a ≡ true → 1 ≤ length w → length w ≤ 3 → all_of is_digit w ≡ true → ends_word b ≡ true → content (a ++ 48 ∷ (w ++ b)) ≡ content (a ++ (w ++ b))
zero_more a w b s h k e n = zero-ignored a w b s h k e n

-- "the last may lack one": of a text that does not end in a line feed, and is not empty, the lines are the same with one more
pub last-feed : (bs : List ℕ) → starts_line bs ≡ false → lines (bs ++ 10 ∷ []) ≡ lines bs
last-feed bs e = last-lines bs e

-- "the last may lack one": a line feed more at the end of any text leaves the content alone
pub last-feed-content : (bs : List ℕ) → content (bs ++ 10 ∷ []) ≡ content bs
last-feed-content bs = last-ignored bs

-- ── what a refusal shows ────────────────────────────────────────────────────

-- "the first bad line deciding" and "A refused line is shown as it stands in the list, without its line feed, with its number counted from 1 over all lines."
pub shown-line : (bs : List ℕ) (i : ℕ) → (read_list bs).line ≡ suc i → ShowsLine bs i (read_list bs)
shown-line bs i e = shows-line bs i e

-- "Refusals 1, 6 and none show an empty part at the list's start and line 0."
pub shown-none : (bs : List ℕ) → (read_list bs).line ≡ 0 → ((read_list bs).start ≡ 0) × ((read_list bs).size ≡ 0) × (shown bs (read_list bs) ≡ [])
shown-none bs e = shows-none bs e

-- ── "Settled examples" ──────────────────────────────────────────────────────

-- "`4096 1 1` admissible; `4097 4 1` is 3; `7 8 1` is 4; `7 8 0` is 3; `7 7 1 4` is 2; periods 64 and 63 give 4,032; 65 and 64 give 4,160, refusal 6."
pub settled : map read_as examples ≡ map settled_as examples
unfolding open_examples open_text open_reading open_records open_states open_hyper open_lists
settled = refl
