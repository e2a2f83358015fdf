-- Each turn takes a step.
use Rattle.je_lexer.proofs.Underway.{underway_more, underway_done, underway_fails}
use Rattle.je_lexer.proofs.lexer.lex_characters.Goals as goal

pub loop-c-preserved : goal.loop-c-preserved
loop-c-preserved c =
    rw c.split_at.ensures.back
    (underway_more c.args.file c.args.file_end c.in-Ok-step.len c.args.characters.now c.loop-c.rest.now c.loop-c.tokens c.step.new.tokens c.loop-c.invariant c.in-Ok-step.ensures.ok)

pub returns-in-Err-step-clause-fault : goal.returns-in-Err-step-clause-fault
returns-in-Err-step-clause-fault c =
    underway_fails c.args.file c.args.file_end c.args.characters.now c.loop-c.rest.now c.loop-c.tokens.list.items c.loop-c.tokens.names c.loop-c.tokens.texts.items
    c.in-Err-step.fault c.loop-c.invariant c.in-Err-step.ensures.fault

pub returns-clause-ok : goal.returns-clause-ok
returns-clause-ok c = (
  underway_done c.args.file c.args.file_end c.args.characters.now c.loop-c.rest.now c.loop-c.tokens.list.items c.loop-c.tokens.names c.loop-c.tokens.texts.items
      c.loop-c.invariant c.in_default.ensures.cases,
  c.loop-c.invariant.named,
)
