-- A file's first fault.
use Rattle.std.proofs.Common.{refl}
use Rattle.je_lexer.proofs.Refusing.{whole_fails}
use Rattle.je_lexer.proofs.lexer.lex.Goals as goal

pub returns-in-Err-lex_characters-clause-fault : goal.returns-in-Err-lex_characters-clause-fault
returns-in-Err-lex_characters-clause-fault c =
    whole_fails c.in-Err-lex_characters.fault c.args.file _ c.args.bytes.now c.in-Ok.characters.items refl c.in-Ok.ensures.ok
    (rw c.deref.ensures.value at c.in-Err-lex_characters.ensures.fault)
