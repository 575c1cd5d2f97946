-- Which numbers a string can carry: bytes, and numbers of 16 bits.
use Rattle.std.specs.Prelude.{List, ℕ, ◌<◌, length, get_or}
use Rattle.rules.specs.Records.{TaskRecord, no_record, SetRecord}
use Rattle.rules.specs.Jobs.{Job, finished}
use Rattle.rules.specs.States.{StateRecord}

-- every number of the list is a byte
abbrev pub AllBytes : List ℕ → Type 0
AllBytes bs = (k : ℕ) → get_or bs k 0 < 256

pub record TaskFits (r : TaskRecord) : Type 0 where
  pub period : r.period < 65536
  pub deadline : r.deadline < 65536
  pub steps : r.steps < 256
  pub units : AllBytes r.units

pub record SetFits (r : SetRecord) : Type 0 where
  pub count : r.count < 256
  pub entries : (k : ℕ) → k < length r.entries → TaskFits (get_or r.entries k no_record)

pub record JobFits (j : Job) : Type 0 where
  pub step : j.step < 256
  pub given : j.given < 256

pub record StateFits (w : StateRecord) : Type 0 where
  pub set : SetFits w.set
  pub slot : w.slot < 65536
  pub planned : (k : ℕ) → get_or w.planned k 0 < 65536
  pub jobs : (k : ℕ) → k < length w.jobs → JobFits (get_or w.jobs k finished)
  pub last : w.last < 256
