-- What the tokens of a file are to the parser: whole, and few.
use Rattle.std.specs.Prelude.{◌+◌, ◌≤◌, ◌^◌, length}
use Rattle.je_lexer.specs.declared.file_tokens.Tokens.{Tokens}
use Rattle.parse_expr.specs.Answers.{IsFile}

pub record IsReady (f : Tokens) : Type 0 where
  pub whole : IsFile f
  pub few : length f.list.items ≤ 2 ^ 20 + 1
  pub few_names : length f.names ≤ 2 ^ 20 + 1
