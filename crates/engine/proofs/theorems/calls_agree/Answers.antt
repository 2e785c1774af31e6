use Rattle.engine.proofs.Again.{calls_extend, equal_handles, second_call, call_counted, call_decided}
use Rattle.engine.proofs.theorems.calls_agree.Goals as goal

pub returns : goal.returns
returns c = record { extend = calls_extend; equal = equal_handles; again = second_call; counted = call_counted; decided = call_decided }
