-- Each kind of piece is the token that it says.
use Rattle.std.proofs.Common.{refl}
use Rattle.std.proofs.Common.{ap, ◌∙◌}
use Rattle.je_lexer.specs.Tokens.{token, no_name, number_kind}
use Rattle.je_lexer.proofs.Giving.{passed, sign_gives, number_gives, blank_gives, fault_at}
use Rattle.je_lexer.proofs.pieces.lex_piece.Goals as goal

pub returns-in-Fault-clause-fault : goal.returns-in-Fault-clause-fault
returns-in-Fault-clause-fault c = (refl, fault_at c.args.cut c.args.front.now c.in-Fault.kind c.in-Fault.start c.in-Fault.end c.in-Fault.is)

pub returns-in-Symbol-clause-ok : goal.returns-in-Symbol-clause-ok
returns-in-Symbol-clause-ok c = sign_gives c.args.file c.args.names.now c.args.texts.now.items c.args.cut c.in-Symbol.s c.in-Symbol.field-1 c.args.front.now c.make_token-token.result c.in-Symbol.is c.make_token-token.ensures

pub returns-in-Number-clause-ok : goal.returns-in-Number-clause-ok
returns-in-Number-clause-ok c =
    number_gives c.args.file c.args.names.now c.args.texts.now.items c.args.cut c.in-Number.n c.in-Number.field-1 c.args.front.now c.make_token-token-in-Number.result c.in-Number.is
    (c.make_token-token-in-Number.ensures
    ∙ (λ i. token c.args.file (c.number_kind.ensures i) no_name (passed c.number_value.result c.number_value.type_inv i) c.args.front.now)
    ∙ ap (λ v. token c.args.file (number_kind c.in-Number.n) no_name v c.args.front.now) c.number_value.ensures)

pub returns-in-Blank-clause-ok : goal.returns-in-Blank-clause-ok
returns-in-Blank-clause-ok c = (blank_gives c.args.cut c.args.front.now c.in-Blank.field-0 c.in-Blank.is, refl, refl)
