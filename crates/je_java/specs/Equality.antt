-- What an operator comes to on two values of any type: `==` and `!=` take references too (JLS 15.21.3).
use Rattle.std.specs.Prelude.{nat_eq, Bool, true, false, not, Option, Some, None}
use Rattle.je_core.specs.declared.expr.BinOp.{BinOp}
use Rattle.je_core.specs.declared.expr.BinOp.TheVariants.{Eq, Ne}
use Rattle.je_core.specs.declared.value.Value.{Value}
use Rattle.je_core.specs.declared.value.Value.TheVariants.{Bool as Truth, Null, Ref}
use Rattle.je_arith.specs.Operators.{binary}
use Rattle.je_arith.specs.declared.outcome.Outcome.{Outcome}
use Rattle.je_arith.specs.declared.outcome.Outcome.TheVariants.{Gives, Unfit}

-- whether two references are to one object, or both null; none where one of the values is no reference
abbrev pub same_reference : Value → Value → Option Bool
same_reference (Ref a) (Ref b) = Some (nat_eq a.0 b.0)
same_reference (Ref a) Null = Some false
same_reference Null (Ref b) = Some false
same_reference Null Null = Some true
same_reference _ _ = None

abbrev pub equality : BinOp → Bool → Outcome
equality Eq same = Gives (Truth same)
equality Ne same = Gives (Truth (not same))
equality _ same = Unfit

abbrev pub on_references : BinOp → Option Bool → Outcome → Outcome
on_references op None otherwise = otherwise
on_references op (Some same) otherwise = equality op same

abbrev pub operated : BinOp → Value → Value → Outcome
operated op a b = on_references op (same_reference a b) (binary op a b)
