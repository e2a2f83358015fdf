-- A fault of the bytes is the first of all.
use Rattle.std.proofs.Common.{◌+◌}
use Rattle.je_lexer.specs.Lexing.{HasFault}
use Rattle.je_lexer.specs.declared.fault.FaultKind.TheVariants as kind
use Rattle.je_lexer.proofs.Refusing.{refused}
use Rattle.je_lexer.proofs.lexer.undecoded.Goals as goal

pub returns-in-NotUtf8 : goal.returns-in-NotUtf8
returns-in-NotUtf8 c =
    refused c.fault_at.result c.args.file c.args.bytes.now kind.NotUtf8 c.in-NotUtf8.at (c.in-NotUtf8.at + 1) c.fault_at.ensures (HasFault.not_utf8 (rw c.in-NotUtf8.is at c.requires.why))

pub returns-in-BadEscape : goal.returns-in-BadEscape
returns-in-BadEscape c =
    refused c.fault_at-in-BadEscape.result c.args.file c.args.bytes.now kind.BadEscape c.in-BadEscape.bad.start c.in-BadEscape.bad.end c.fault_at-in-BadEscape.ensures (HasFault.malformed (rw c.in-BadEscape.is at c.requires.why))
