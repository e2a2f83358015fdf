-- What is read of at most some height is read right, by induction on the height.
use Rattle.std.proofs.Common.{ℕ, zero, suc, List, arith}
use Rattle.je_ast.specs.Height.{declaration_height}
use Rattle.je_grammar.specs.Grammar.{SpellsDeclaration}
use Rattle.parse_laws.specs.way.Readers.{IsReader, IsBelow, any, never}
use Rattle.parse_laws.specs.way.Knot.{nothing, at, declaration_at}
use Rattle.knot_laws.proofs.Positive.{expression_positive, statement_positive, member_positive, declaration_positive}
use Rattle.knot_laws.proofs.Layers.{layer_is_below, declarations_read}

module _ (names texts : List (List ℕ)) where
  nothing_is_below : IsBelow names texts zero (nothing names texts)
  unfolding nothing
  nothing_is_below = record {
    expression = λ least above small. record { sound = λ ts. tt; exact = λ e ts rest d fits low. absurd (let a = expression_positive e in omega arith) };
    initializer = record { sound = λ ts. tt; exact = λ e ts rest d fits low. absurd (let a = expression_positive e in omega arith) };
    statement = record { sound = λ ts. tt; exact = λ b ts rest d fits low. absurd (let a = statement_positive b in omega arith) };
    block_statement = record { sound = λ ts. tt; exact = λ b ts rest d fits low. absurd (let a = statement_positive b in omega arith) };
    block = record { sound = λ ts. tt; exact = λ b ts rest d fits low. absurd (omega arith) };
    member = record { sound = λ ts. tt; exact = λ m ts rest d fits low. absurd (let a = member_positive m in omega arith) };
  }

  pub at_is_below : (h : ℕ) → IsBelow names texts h (at names texts h)
  unfolding at
  at_is_below zero = nothing_is_below
  at_is_below (suc h) = layer_is_below names texts h (at names texts h) (at_is_below h)

  pub declaration_is_read : (h : ℕ) → IsReader (SpellsDeclaration names texts) declaration_height any never h (declaration_at names texts h)
  unfolding declaration_at
  declaration_is_read zero = record { sound = λ ts. tt; exact = λ d ts rest s fits low. absurd (let a = declaration_positive d in omega arith) }
  declaration_is_read (suc h) = declarations_read names texts h (at names texts h) (at_is_below h)
