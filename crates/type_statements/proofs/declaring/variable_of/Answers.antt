use Rattle.type_statements.proofs.declaring.variable_of.Goals as goal

pub returns-in-Some-clause-ok : goal.returns-in-Some-clause-ok
returns-in-Some-clause-ok c = rw c.in-Some.is (rw c.requires.counted at c.with_initializer.ensures.ok)

pub returns-in-Some-clause-err : goal.returns-in-Some-clause-err
returns-in-Some-clause-err c = rw c.in-Some.is (rw c.requires.counted at c.with_initializer.ensures.err)
