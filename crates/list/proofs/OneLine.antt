-- A line's refusal and task, by the numbers of its fields.
use mathlib.Core.Bool.{Bool, true, false, ◌&&◌, ◌||◌, and-false}
use mathlib.Core.List.{List, [], ◌∷◌, map}
use mathlib.Core.Logic.{◌⊎◌, inl, inr, ⊎_elim}
use mathlib.Core.Path.{◌≡◌, refl, sym, ap, ◌∙◌}
use Prim.Native.Nat.{ℕ, ◌+◌, ◌-◌, ◌/◌, ◌≤◌, ◌<◌}
use native.Mathlib.Omega.{arith}
use Rattle.std.specs.Prelude.{Option, Some, None}
use Rattle.std.proofs.lemmas.List.{take_rest}
use borrow.Author.Tests.{eqb-true, ne_eqb, leb-false, le-leb}
use lib.Dec.{leb, eqb, leb-zero}
use lib.ListN.{length, get_or, take, drop, replicate, length-map, length-drop, length-append, length-replicate}
use lib.Seq.{ext_get_or}
use Rattle.rules.specs.Lists.{all_of, padded, tabulate}
use Rattle.rules.specs.Records.{TaskRecord, between, all_between, pattern_of, task_refusal}
use Rattle.rules.proofs.Lists.{tabulate-length, tabulate-at}
use Rattle.rules.proofs.Set.Tidy.{padded-take}
use Rattle.tasks.specs.declared.Task.{Task}
use Rattle.tasks.specs.Views.{entry_of}
use Rattle.list.specs.Text.{words}
use Rattle.list.specs.Reading.{is_field, number, right_count, well_formed, task_from, line_task, line_refusal}
use Rattle.list.specs.Inner.{fields_of, units_of}
use Rattle.list.proofs.Reader.{held}

-- ── the number of fields ────────────────────────────────────────────────────

-- what a right number of fields is: m steps and m - 1 waits behind T and D
record Right (n : ℕ) : Type 0 where
  low : 3 ≤ n
  high : n ≤ 9
  some : 1 ≤ (n - 1) / 2
  most : (n - 1) / 2 ≤ 4
  odd : (n - 1) / 2 + (n - 1) / 2 - 1 ≡ n - 2

or_cases : (a b : Bool) → (a || b) ≡ true → (a ≡ true) ⊎ (b ≡ true)
or_cases true b e = inl e
or_cases false b e = inr e

right-at : (m : ℕ) → 1 ≤ m → m ≤ 4 → Right (m + m + 1)
right-at m h k =
    let e : (m + m + 1 - 1) / 2 ≡ m = omega arith in
    record { low = omega arith; high = omega arith; some = omega arith; most = omega arith; odd = omega arith }

right : (n : ℕ) → right_count n ≡ true → Right n
unfolding right_count
right n e =
    ⊎_elim (at 1 (omega arith) (omega arith))
    (λ f. ⊎_elim (at 2 (omega arith) (omega arith))
    (λ g. ⊎_elim (at 3 (omega arith) (omega arith))
    (at 4 (omega arith) (omega arith))
    (or_cases (eqb n 7) (eqb n 9) g))
    (or_cases (eqb n 5) (eqb n 7 || eqb n 9) f))
    (or_cases (eqb n 3) (eqb n 5 || (eqb n 7 || eqb n 9)) e)
  where
    at : (m : ℕ) → 1 ≤ m → m ≤ 4 → eqb n (m + m + 1) ≡ true → Right n
    at m h k q = rw (eqb-true n (m + m + 1) q) (right-at m h k)

many-wrong : (n : ℕ) → 9 < n → right_count n ≡ false
unfolding right_count
many-wrong n h = rw (ne_eqb n 3 (omega arith), ne_eqb n 5 (omega arith), ne_eqb n 7 (omega arith), ne_eqb n 9 (omega arith))

-- ── units ───────────────────────────────────────────────────────────────────

-- a unit above 255 is outside 1 to 255
above : (us : List ℕ) → all_between 0 255 us ≡ false → all_between 1 255 us ≡ false
unfolding all_between between
above [] e = e
above (x ∷ us) e = go (leb x 255) refl (above us)
  where
    go : (t : Bool) → leb x 255 ≡ t → (all_between 0 255 us ≡ false → all_between 1 255 us ≡ false) → ((leb 1 x && leb x 255) && all_between 1 255 us) ≡ false
    go false h f = rw (h, and-false)
    go true h f = rw (f (rw (leb-zero, h) at e), and-false)

units-none : (us : List ℕ) → None ≡ units_of us → all_between 0 255 us ≡ false
unfolding units_of
units-none us e = go (all_between 0 255 us) refl
  where
    go : (t : Bool) → all_between 0 255 us ≡ t → all_between 0 255 us ≡ false
    go true h = let k : ◌≡◌ {A = Option (List ℕ)} None (Some (padded 7 0 us)) = e ∙ rw h in absurd cc
    go false h = h

units-some : (p us : List ℕ) → Some p ≡ units_of us → p ≡ padded 7 0 us
unfolding units_of
units-some p us e = go (all_between 0 255 us) refl
  where
    go : (t : Bool) → all_between 0 255 us ≡ t → p ≡ padded 7 0 us
    go true h = let k : ◌≡◌ {A = Option (List ℕ)} (Some p) (Some (padded 7 0 us)) = e ∙ rw h in cc
    go false h = let k : ◌≡◌ {A = Option (List ℕ)} (Some p) None = e ∙ rw h in absurd cc

-- an array of seven read by place is itself
tabulated : (p : List ℕ) → length p ≡ 7 → tabulate (λ i. get_or p i 0) 0 7 ≡ p
tabulated p e =
    let m = tabulate-length (λ i. get_or p i 0) 0 7 in
    ext_get_or 0 (tabulate (λ i. get_or p i 0) 0 7) p (m ∙ sym e) (λ i h. tabulate-at (λ i. get_or p i 0) 0 7 i 0 (omega arith) ∙ ap (λ (j : ℕ). get_or p j 0) (omega arith))

padded-seven : (us : List ℕ) → length us ≤ 7 → length (padded 7 0 us) ≡ 7
unfolding padded
padded-seven us h = length-append us (replicate (7 - length us) 0) ∙ omega (arith, length-replicate {A = ℕ} (7 - length us) 0)

-- a task with right steps and a unit outside its range
refused-three : (r : TaskRecord) → 1 ≤ r.steps → r.steps ≤ 4 → all_between 1 255 (pattern_of r) ≡ false → task_refusal r ≡ 3
unfolding task_refusal between
refused-three r a b e = rw (le-leb 1 r.steps a, le-leb r.steps 4 b, e, and-false, and-false)

-- ── a line ──────────────────────────────────────────────────────────────────

module _ (l : List ℕ) where
  ill : well_formed l ≡ false → line_refusal 0 l ≡ 2
  unfolding line_refusal
  ill h = rw h

  pub refuse_words : None ≡ fields_of (words l) → line_refusal 0 l ≡ 2
  unfolding fields_of well_formed
  refuse_words e = ill (go (all_of is_field (words l)) (leb (length (words l)) 9) refl refl)
    where
      go : (t u : Bool) → all_of is_field (words l) ≡ t → leb (length (words l)) 9 ≡ u → (all_of is_field (words l) && right_count (length (words l))) ≡ false
      go false u p q = rw p
      go true false p q = rw (p, many-wrong (length (words l)) (leb-false (length (words l)) 9 q))
      go true true p q = let k : ◌≡◌ {A = Option (List ℕ)} None (Some (map number (words l))) = e ∙ rw (p, q) in absurd cc

  module _ (ns : List ℕ) (e : Some ns ≡ fields_of (words l)) where
    ns-are : ns ≡ map number (words l)
    ns-are = (held ns (words l) e).numbers

    many : length (words l) ≡ length ns
    many = sym (ap length ns-are ∙ length-map (words l) number)

    pub refuse_count : right_count (length ns) ≡ false → line_refusal 0 l ≡ 2
    unfolding well_formed
    refuse_count h = ill (rw (many, h, and-false))

    module _ (k : right_count (length ns) ≡ true) where
      -- a well-formed line is refused as its task is
      by-task : line_refusal 0 l ≡ task_refusal (line_task l)
      unfolding line_refusal well_formed
      by-task = rw ((held ns (words l) e).all, many, k)

      steps-are : (line_task l).steps ≡ (length ns - 1) / 2
      unfolding line_task task_from
      steps-are = rw (← ns-are)

      pattern-is : pattern_of (line_task l) ≡ drop 2 ns
      unfolding pattern_of line_task task_from
      pattern-is = rw (← ns-are) (padded-take 7 0 (drop 2 ns) ((length ns - 1) / 2 + (length ns - 1) / 2 - 1) (length-drop 2 ns ∙ sym (right (length ns) k).odd))

      -- the units are the numbers behind the first two
      units : take (length ns - 2) (drop 2 ns) ≡ drop 2 ns
      units = take_rest ns 2

      -- refusal 3 by a unit above 255
      pub refuse_units : None ≡ units_of (take (length ns - 2) (drop 2 ns)) → line_refusal 0 l ≡ 3
      refuse_units h =
          by-task
          ∙ refused-three (line_task l) (rw steps-are (right (length ns) k).some) (rw steps-are (right (length ns) k).most)
          (rw pattern-is (above (drop 2 ns) (units-none (drop 2 ns) (rw units at h))))

      module _ (p : List ℕ) (h : Some p ≡ units_of (take (length ns - 2) (drop 2 ns))) where
        abbrev task : Task
        task = record { period = get_or ns 0 0; deadline = get_or ns 1 0; steps = (length ns - 1) / 2; pattern = p }

        pub task_is : entry_of task ≡ line_task l
        unfolding entry_of line_task task_from
        task_is =
            let q = units-some p (drop 2 ns) (rw units at h) in
            let m : length p ≡ 7 = ap length q ∙ padded-seven (drop 2 ns) (omega (arith, length-drop 2 ns, (right (length ns) k).high)) in
            rw (tabulated p m, q, ← ns-are)

        pub refuse_task : line_refusal 0 l ≡ task_refusal (entry_of task)
        refuse_task = by-task ∙ ap task_refusal (sym task_is)

pub ruleset line_laws = (refuse_words, refuse_count, refuse_units, task_is, refuse_task)
