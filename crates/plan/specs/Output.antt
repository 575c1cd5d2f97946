-- What the program writes for its input.
use Rattle.std.specs.Prelude.{List, ℕ, Option, replicate}
use Rattle.std.specs.Io.KnownBytes.{Appends}
use Rattle.report.specs.Texts.{Writes}

-- the text for a list, of the area that the program lends, goes to the output
pub record TellsPlan (list : List ℕ) (out out_after : Option (List ℕ)) : Type 0 where
  pub text : List ℕ
  pub writes : Writes list (replicate 24000 0) text
  pub appended : Appends out out_after text
