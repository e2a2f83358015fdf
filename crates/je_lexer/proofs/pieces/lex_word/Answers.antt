-- The word is interned as it is spelled.
use Rattle.std.proofs.Common.{◌≡◌, ◌∙◌, refl, sym}
use Rattle.je_lexer.specs.Tokens.{spelled}
use Rattle.je_lexer.proofs.Giving.{word_gives}
use Rattle.je_lexer.proofs.pieces.lex_word.Goals as goal

pub returns : goal.returns
returns c texts =
    let spells : c.deref.result.now ≡ spelled c.args.front.now = c.deref.ensures ∙ c.in_ok-text.ensures in
    let again : c.deref-2.result.now ≡ c.deref.result.now = c.deref-2.ensures ∙ sym c.deref.ensures in
    word_gives c.args.file c.args.names.now c.intern.new.self texts c.deref.result.now c.args.len c.args.front.now c.in_ok-id.id c.make_token.result spells c.in_ok-id.ensures.names c.in_ok-id.ensures.found
    (rw (c.make_token.ensures, c.word_kind.ensures, again) refl)
