-- What a byte is read as.
use Rattle.std.specs.Prelude.{◌≡◌, ◌≤◌, ◌<◌, ℕ, Result, Ok, Err}
use Rattle.tasks.specs.declared.refusal.Refusal.{Refusal}
use Rattle.tasks.specs.declared.refusal.Refusal.TheVariants.{BadState}
use Rattle.player.specs.declared.Stand.{Stand}
use Rattle.player.specs.Views.{stand_of}
use Rattle.player.specs.Bytes.{stand_of_byte}

-- the standing that the byte stands for; above 5 a state is refused
abbrev pub StandIn : ℕ → Result Stand Refusal → Type 0
StandIn b (Ok stand) = (b ≤ 5) × (stand_of stand ≡ stand_of_byte b)
StandIn b (Err refusal) = (5 < b) × (refusal ≡ BadState)
