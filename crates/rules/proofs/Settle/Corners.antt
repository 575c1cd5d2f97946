-- The corners hold, by computing.
use lib.Dec.{T}
use Rattle.rules.specs.Lists.{all_of, open_lists}
use Rattle.rules.specs.Tasks.{open_tasks}
use Rattle.rules.specs.Hyper.{open_hyper}
use Rattle.rules.specs.Positions.{open_positions}
use Rattle.rules.specs.Choices.{open_choices}
use Rattle.rules.specs.Records.{open_records}
use Rattle.rules.specs.Jobs.{open_jobs}
use Rattle.rules.specs.Player.{open_player}
use Rattle.rules.specs.States.{open_states}
use Rattle.rules.specs.Corners.{agrees, corners, open_corners}

pub corners-agree : T (all_of agrees corners)
unfolding open_lists open_corners open_states open_player open_jobs open_tasks open_records open_hyper open_positions open_choices
corners-agree = tt
