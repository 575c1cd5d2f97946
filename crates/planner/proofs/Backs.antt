-- A dead position is recorded: the last choice taken back, or the start left, in the code's terms.
use mathlib.Core.Path.{◌≡◌, refl, sym, ◌∙◌}
use Rattle.std.specs.Prelude.{Option, Some, None}
use mathlib.Core.List.{List, ◌∷◌, ◌++◌}
use Prim.Native.Nat.{ℕ, ◌+◌, ◌-◌, ◌*◌}
use native.Mathlib.Numerals.{add-one}
use borrow.Author.Tests.{eq-eqb, ne_eqb}
use lib.ListN.{get_or, take, drop}
use Rattle.rules.specs.Lists.{is_zero}
use Rattle.rules.specs.Positions.{each}
use Rattle.planner.specs.declared.search.Search.{Search}
use Rattle.planner.specs.declared.Word.TheVariants.{Infeasible}
use Rattle.planner.specs.declared.search.Choice.{Choice}
use Rattle.planner.specs.declared.rows.Rows.{Rows}
use Rattle.planner.specs.Rows.{row_tasks}
use Rattle.planner.specs.Marks.{lowered, unstarted, chosen}
use Rattle.planner.specs.Machine.{giving, following, noted, last_mark, earlier, last_choice, backed, emptied}
use Rattle.planner.specs.Views.{number_in, machine_of, end_of, Gives, shut}
use Rattle.planner.proofs.Places.{rows-length}

module _ (rows : Rows) (at : Search) (t a b : List ℕ)
    (put : b ≡ take (at.recorded * (rows.count + 1)) a ++ ((at.slot ∷ take rows.count at.progress) ++ drop ((at.recorded + 1) * (rows.count + 1)) a)) where
  put_is : b ≡ noted (row_tasks rows) (machine_of rows.count at t a)
  unfolding noted machine_of
  put_is = put ∙ rw (rows-length rows, add-one rows.count, add-one at.recorded)

  pub start-dead : at.slot ≡ 0 → Gives rows.count at (Some (record { word = Infeasible; dead = at.recorded + 1 })) t b (shut (row_tasks rows) (machine_of rows.count at t a))
  unfolding Gives shut emptied machine_of end_of is_zero giving
  start-dead e = rw (eq-eqb at.slot 0 e) (record { word_is = refl; counted = sym (add-one at.recorded); table_is = refl; area_is = sym put_is })

  pub taken_back : (before : List ℕ) (c : ℕ) (d : Option Choice) → (at.slot ≡ 0 → ⊥)
      → take rows.count before ≡ lowered (get_or t (at.slot - 1) 0) (each (unstarted at.slot) 0 (row_tasks rows) (take rows.count at.progress))
      → c ≡ chosen 0 (get_or t (at.slot - 1) 0) (row_tasks rows) (take rows.count before) → number_in d ≡ following rows.count c
      → Gives rows.count (record { slot = at.slot - 1; progress = before; choice = d; recorded = at.recorded + 1 }) None t b (shut (row_tasks rows) (machine_of rows.count at t a))
  unfolding Gives shut backed machine_of is_zero last_mark earlier last_choice
  taken_back before c d e f g h =
      let p = put_is in
      rw (ne_eqb at.slot 0 e, h, g, f, p, rows-length rows, add-one)

pub ruleset back_laws = (start-dead, taken_back)
