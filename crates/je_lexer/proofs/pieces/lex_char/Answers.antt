-- A character literal is one unit.
use Rattle.std.proofs.Common.{length, ◌∙◌, ap}
use Rattle.je_token.specs.declared.token.TokenKind.TheVariants as kind
use Rattle.je_lexer.specs.Tokens.{token, no_name}
use Rattle.je_lexer.proofs.Giving.{passed, char_gives, no_unit_at, body_fails}
use Rattle.je_lexer.proofs.pieces.lex_char.Goals as goal

pub returns-in-Err-clause-fault : goal.returns-in-Err-clause-fault
returns-in-Err-clause-fault c = body_fails c.args.file c.args.len c.args.front.now c.in-Err.fault c.in-Err.ensures.fault

pub returns-then-units-ne1-clause-fault : goal.returns-then-units-ne1-clause-fault
returns-then-units-ne1-clause-fault c =
    no_unit_at c.args.file c.args.len c.args.front.now c.in-Ok.units c.span_of.result c.requires c.in-Ok.ensures.ok (λ e. c.if-units-ne1.true (ap length c.as_slice-units.ensures ∙ e)) c.span_of.ensures

pub returns-clause-ok : goal.returns-clause-ok
returns-clause-ok c names texts =
    char_gives c.args.file names texts c.args.len c.args.front.now c.as_slice-units.result.now c.make_token.result c.requires (rw c.as_slice-units.ensures c.in-Ok.ensures.ok) c.if-units-ne1.false
    (c.make_token.ensures ∙ ap (λ v. token c.args.file kind.CharLiteral no_name v c.args.front.now) (passed c.from.result c.from.type_inv ∙ c.from.ensures))
