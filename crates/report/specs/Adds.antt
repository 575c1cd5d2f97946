-- What is added to a text.
use Rattle.std.specs.Prelude.{◌≡◌, List, ℕ}
use Rattle.report.specs.Put.{PutCut}
use Rattle.report.specs.declared.write.Text.{Text}

-- in the same lent buffer, as many of the bytes as there is room for stand behind the text before
pub record Adds (before : Text) (bytes : List ℕ) (after : Text) : Type 0 where
  pub same : after.out.ghost_name ≡ before.out.ghost_name
  pub put : PutCut before.out.now before.end bytes after.end after.out.now
