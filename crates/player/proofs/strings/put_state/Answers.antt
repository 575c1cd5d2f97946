-- A state's string has 140 bytes.
use mathlib.Core.Path.{ap}
use native.Mathlib.Omega.{arith}
use lib.ListN.{length}
use lib.Seq.{length-take-le}
use Rattle.player.specs.Views.{state_of}
use Rattle.player.proofs.Codes.{struct-arrays}
use Rattle.player.proofs.Sizes.{state-size}
use Rattle.player.proofs.strings.put_state.Goals as goal

pub copy_from_slice-requires : goal.copy_from_slice-requires
copy_from_slice-requires c = let st = c.args.state.now in omega (arith, length-take-le 140 c.args.out.now c.requires, ap length c.to_bytes.ensures, state-size (state_of st) (struct-arrays st))
