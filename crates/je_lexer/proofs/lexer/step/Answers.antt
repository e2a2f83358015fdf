-- What is cut is the next element, or none begins.
use Rattle.std.proofs.Common.{refl}
use Rattle.je_lexer.proofs.Underway.{token_step, blank_step, fault_step}
use Rattle.je_lexer.proofs.lexer.step.Goals as goal

pub returns-in_ok-push-in-Ok-Some-clause-ok : goal.returns-in_ok-push-in-Ok-Some-clause-ok
returns-in_ok-push-in-Ok-Some-clause-ok c =
    token_step c.args.file c.args.file_end c.len_of-len.result c.args.c c.args.behind.now c.args.text.now c.args.tokens.now
    (record { list = c.push.new.self; names = c.lex_piece.new.names; texts = c.lex_piece.new.texts }) c.in-Ok-Some.token c.cut_at-cut.result
    c.requires.parts c.cut_at-cut.ensures.value c.cut_at-cut.ensures.within c.len_of-len.ensures (rw c.in-Ok-Some.field-0-is at c.in-Ok-Some.ensures.ok)
    c.in_ok-push-in-Ok-Some.ensures.items

pub returns-in-Ok-None-clause-ok : goal.returns-in-Ok-None-clause-ok
returns-in-Ok-None-clause-ok c =
    let h = rw c.in-Ok-None.field-0-is at c.in-Ok-None.ensures.ok in
    blank_step c.args.file c.args.file_end c.len_of-len.result c.args.c c.args.behind.now c.args.text.now c.args.tokens.now
    (record { list = c.args.tokens.now.list; names = c.lex_piece.new.names; texts = c.lex_piece.new.texts }) c.cut_at-cut.result
    c.requires.parts c.cut_at-cut.ensures.value c.cut_at-cut.ensures.within c.len_of-len.ensures h.0 refl h.1 h.2

pub returns-in-Err-clause-fault : goal.returns-in-Err-clause-fault
returns-in-Err-clause-fault c =
    fault_step c.args.file c.args.file_end c.len_of-len.result c.args.c c.args.behind.now c.args.text.now c.cut_at-cut.result c.in-Err.fault
    c.requires.parts c.cut_at-cut.ensures.value c.len_of-len.ensures c.in-Err.ensures.fault
