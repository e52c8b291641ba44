use Rattle.std.proofs.Common.{arith}
use Rattle.restore.proofs.Served.{listed_served, listed_kept}
use Rattle.restore.proofs.Requests.{request_reads}
use Rattle.restore.proofs.again.list.Goals as goal

pub returns-in-Ok-clause-listed : goal.returns-in-Ok-clause-listed
returns-in-Ok-clause-listed c = listed_served _ _ _ _ _ _ _ _ _ c.answer.ensures.serves (omega arith) c.args.number (request_reads _ _ c.in-Ok.end c.args.number c.requires c.in-Ok.ensures.written c.in-Ok.ensures.back)

pub returns-in-Ok-clause-kept : goal.returns-in-Ok-clause-kept
returns-in-Ok-clause-kept c = listed_kept _ _ _ _ _ _ _ _ _ c.answer.ensures.serves (omega arith) c.args.number (request_reads _ _ c.in-Ok.end c.args.number c.requires c.in-Ok.ensures.written c.in-Ok.ensures.back)
