-- A string literal's units get the next place.
use Rattle.std.proofs.Common.{◌≡◌, length, ◌∙◌, ap, arith}
use mir.Syntax.{w128}
use Rattle.std.proofs.Common.{pos}
use Rattle.std.proofs.lemmas.Int.{to_z_pos}
use Rattle.je_token.specs.declared.token.TokenKind.TheVariants as kind
use Rattle.je_lexer.specs.Tokens.{token, no_name}
use Rattle.je_lexer.proofs.Giving.{text_gives, body_fails}
use Rattle.je_lexer.proofs.pieces.lex_text.Goals as goal

pub returns-in-Err-clause-fault : goal.returns-in-Err-clause-fault
returns-in-Err-clause-fault c = body_fails c.args.file c.args.len c.args.front.now c.in-Err.fault c.in-Err.ensures.fault

pub returns-clause-ok : goal.returns-clause-ok
returns-clause-ok c names =
    let place : c.len-place.result ≡ length c.args.texts.now.items = c.len-place.ensures ∙ c.args.texts.now.ok.0 in
    rw c.in_ok-push.ensures.items (text_gives c.args.file names c.args.texts.now.items c.args.len c.args.front.now c.in-Ok.units c.make_token.result c.requires c.in-Ok.ensures.ok
    (c.make_token.ensures ∙ ap (λ v. token c.args.file kind.TextLiteral no_name v c.args.front.now) (to_z_pos w128 c.len-place.result (omega arith) ∙ ap pos place)))
