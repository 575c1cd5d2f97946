-- `list::numbers::Digits::new` has no digit. Assumes nothing.
use Rattle.std.proofs.Common.{refl}
use Rattle.list.proofs.Words.{begun_none}
use Rattle.list.proofs.numbers.Digits.new.Goals as goal

pub returns : goal.returns
returns c = begun_none _ refl refl
