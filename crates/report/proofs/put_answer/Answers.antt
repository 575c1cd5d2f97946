-- The text of each answer.
use mathlib.Core.Path.{ap}
use Rattle.rules.specs.Planner.{answered}
use Rattle.planner.specs.Views.{word_of, answer_of}
use Rattle.report.specs.Texts.{schedule_word, infeasible_word, out_of_room_word}
use Rattle.report.proofs.Told.{slots-shown, answer-schedule, answer-infeasible, answer-room}
use Rattle.report.proofs.put_answer.Goals as goal

pub slots-requires : goal.slots-requires
unfolding answer_of word_of
slots-requires c = rw (c.from-in-Schedule.ensures) (slots-shown _ c.args.answer.dead _ _ c.requires (ap (λ v. answered (word_of v) c.args.answer.dead) c.in-Schedule.is))

pub returns-in-Schedule : goal.returns-in-Schedule
unfolding answer_of word_of schedule_word
returns-in-Schedule c = rw c.in-Schedule.is (answer-schedule c.args.h _ c.args.table.now (rw (c.from.ensures) at c.line.ensures) (rw (c.from-in-Schedule.ensures) at c.slots.ensures))

pub returns-in-Infeasible : goal.returns-in-Infeasible
unfolding answer_of word_of infeasible_word
returns-in-Infeasible c = rw c.in-Infeasible.is (answer-infeasible c.args.h _ c.args.table.now c.line-in-Infeasible.ensures)

pub returns-in-OutOfRoom : goal.returns-in-OutOfRoom
unfolding answer_of word_of out_of_room_word
returns-in-OutOfRoom c = rw c.in-OutOfRoom.is (answer-room c.args.h _ c.args.table.now c.line-in-OutOfRoom.ensures)
