-- What a call answers: a number or a count, or why it is not done.
use Rattle.std.specs.Prelude.{ℕ, List, ◌++◌, Ok, Err, codes, Result}
use Rattle.faults.specs.declared.fault.Fault.{Fault}
use Rattle.faults.specs.Faults.{report, text as fault_text}
use Rattle.lives.specs.declared.answer.Refused.{Refused}
use Rattle.lives.specs.declared.answer.Refused.TheVariants.{OutOfTurn, Fault as by_fault}

abbrev pub Answer : Type 0
Answer = Result ℕ Refused

-- the same answer as it is written down
abbrev pub written_as : Result ℕ Fault → Answer
written_as (Ok n) = Ok n
written_as (Err f) = Err (by_fault f)

-- why a call is not done, as text
abbrev pub text : Refused → List ℕ
text OutOfTurn = codes "out of turn"
text (by_fault f) = codes "refused, " ++ fault_text (report f)
