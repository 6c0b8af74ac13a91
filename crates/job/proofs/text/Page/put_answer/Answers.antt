-- Each variant writes its word, its number where it has one, and its place.
use native.Mathlib.Omega.{arith}
use Rattle.job.proofs.Writing.{◌▸◌, spelled, looser}
use Rattle.job.proofs.Choices.{line_done, line_fault, line_stopped, line_spent, line_refused}
use Rattle.job.proofs.text.Page.put_answer.Goals as goal

pub returns-in-Done : goal.returns-in-Done
returns-in-Done c = looser (omega arith) (spelled (line_done c.in-Done.is) c.put_word.ensures)

pub returns-in-Fault : goal.returns-in-Fault
returns-in-Fault c = spelled (line_fault _ _ c.in-Fault.is) c.put_numbered.ensures

pub returns-in-Stopped : goal.returns-in-Stopped
returns-in-Stopped c = spelled (line_stopped _ _ c.in-Stopped.is) c.put_numbered-in-Stopped.ensures

pub returns-in-Spent : goal.returns-in-Spent
returns-in-Spent c = looser (omega arith) (spelled (line_spent _ c.in-Spent.is) (c.put_word-in-Spent.ensures ▸ c.put_line.ensures))

pub returns-in-Refused : goal.returns-in-Refused
returns-in-Refused c = spelled (line_refused _ _ c.in-Refused.is) c.put_numbered-in-Refused.ensures
