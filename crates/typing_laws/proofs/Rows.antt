-- Literals fit in any program, so the premises on operands are met: `true && false` is a constant that fits, and `true && 1` a fault.
use Rattle.std.proofs.Common.{◌≡◌, pos, List, [], refl}
use Rattle.std.specs.Prelude.{Bool, true, false}
use Rattle.je_base.specs.declared.span.Span.{Span}
use Rattle.je_core.specs.declared.types.Base.TheVariants as base
use Rattle.je_core.specs.declared.value.Value.TheVariants as value
use Rattle.je_core.specs.Core.{Const, CoreProgram}
use Rattle.je_fitting.specs.Expressions.{Body}
use Rattle.source_types.specs.Heads.{ClassHead}
use Rattle.je_typing.specs.declared.fault.TypeRule.TheVariants.{BadOperand}
use Rattle.je_typing.specs.Judged.{bind, breaks, check, gives}
use Rattle.je_typing.specs.Operators.{logical}
use Rattle.je_typing.specs.Typed.{TypedNode, typed_as}
use Rattle.typing_laws.specs.Fitting.{FitsAs}
use Rattle.typing_laws.proofs.Literals.{value-fits}
use Rattle.typing_laws.proofs.Unary.{logical_fit}

module _ (p : CoreProgram) (body : Body) (heads : List ClassHead) (at span : Span) where
  abbrev truth : Bool → Span → TypedNode
  truth b token = typed_as base.Bool (Const (value.Bool b) []) span token

  fits : (b : Bool) → FitsAs p body heads (truth b span)
  fits b = value-fits p body heads base.Bool (value.Bool b) span span refl

  both : logical true at span (truth true span) (truth false span) ≡ gives (truth false at)
  unfolding logical bind check
  both = refl

  both-fits : FitsAs p body heads (truth false at)
  unfolding logical bind check
  both-fits = logical_fit p body heads true at span (truth true span) (truth false span) (fits true) (fits false)

  no-truth : logical true at span (truth true span) (typed_as base.Int (Const (value.Int (pos 1)) []) span span) ≡ breaks BadOperand at
  unfolding logical bind check
  no-truth = refl
