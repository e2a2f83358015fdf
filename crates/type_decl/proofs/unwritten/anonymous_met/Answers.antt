use Rattle.type_decl.proofs.unwritten.anonymous_met.Goals as goal

pub returns-in-StandsBehindNew-clause-ok : goal.returns-in-StandsBehindNew-clause-ok
returns-in-StandsBehindNew-clause-ok c = rw c.in-StandsBehindNew.is c.anonymous_at.ensures.ok

pub returns-in-StandsBehindNew-clause-err : goal.returns-in-StandsBehindNew-clause-err
returns-in-StandsBehindNew-clause-err c = rw c.in-StandsBehindNew.is c.anonymous_at.ensures.err
