-- Bytes added after bytes.
use mathlib.Core.Path.{refl, ◌∙◌}
use mathlib.Core.List.{List, [], ◌++◌}
use Prim.Native.Nat.{ℕ}
use Rattle.report.specs.Adds.{Adds}
use Rattle.report.specs.declared.write.Text.{Text}
use Rattle.report.proofs.Put.{cut-more, cut-none}

pub adds-none : (a : Text) → Adds a [] a
adds-none a = record { same = refl; put = cut-none _ _ a.within }

pub adds-more : {a b c : Text} (xs ys : List ℕ) → Adds a xs b → Adds b ys c → Adds a (xs ++ ys) c
adds-more xs ys A B = record { same = B.same ∙ A.same; put = cut-more xs ys A.put B.put }

pub ruleset none_laws = (adds-none)
