-- What the test of the form gives.
use Rattle.std.specs.Prelude.{◌≡◌, ℕ, false, Result, MatchResult}
use Rattle.rules.specs.States.{form}
use Rattle.tasks.specs.declared.refusal.Refusal.{Refusal}
use Rattle.tasks.specs.declared.refusal.Refusal.TheVariants.{BadState}
use Rattle.tasks.specs.declared.position.Onward.{Onward}
use Rattle.player.specs.declared.State.{State}
use Rattle.player.specs.declared.form.Formed.{Formed}
use Rattle.player.specs.Forms.{Leads}
use Rattle.player.specs.Views.{state_of}

-- a state of the form is kept as it is, with where the choice leads, and any other is refused
abbrev pub Tests : State → ℕ → Result (Formed × Onward) Refusal → Type 0
Tests st choice made = MatchResult made (λ found. (found.0.state.now ≡ st) × Leads st choice found.1) (λ refusal. (refusal ≡ BadState) × (form (state_of st) ≡ false))
