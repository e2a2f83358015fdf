-- Casts to primitive types fit where their operands do.
use Rattle.std.proofs.Common.{◌≡◌, zero, suc, List, refl, inr}
use Rattle.std.specs.Prelude.{Bool, true, false}
use Rattle.je_base.specs.declared.span.Span.{Span}
use Rattle.je_core.specs.declared.types.Base.{Base}
use Rattle.je_core.specs.declared.types.Base.TheVariants as base
use Rattle.je_core.specs.Core.{CoreProgram}
use Rattle.je_fitting.specs.Expressions.{Body}
use Rattle.je_fitting.specs.Types.{is_number_base}
use Rattle.je_scopes.specs.SourceTypes.{SourceType, plain, of_class, of_variable}
use Rattle.source_types.specs.Heads.{ClassHead}
use Rattle.je_typing.specs.declared.fault.TypeRule.TheVariants.{BadCast}
use Rattle.je_typing.specs.Casts.{casts_to, primitive_cast, primitive_cast_node}
use Rattle.je_typing.specs.Constants.{constant_value, uses_of, value_in}
use Rattle.je_typing.specs.Judged.{bind, check, gives}
use Rattle.je_typing.specs.Operators.{of_base}
use Rattle.je_typing.specs.Typed.{TypedNode, is_numeric, is_primitive_base}
use Rattle.typing_laws.specs.Fitting.{FitsAs, Gives}
use Rattle.typing_laws.specs.Laws.{PrimitiveCastsFit}
use Rattle.typing_laws.proofs.Nodes.{Operand, operand, constant-or-fits, converted-as}
use Rattle.typing_laws.proofs.Values.{typed-in}
use Rattle.typing_laws.proofs.Operators.{boolean-operand}

number-operand : (b : Base) → is_number_base b ≡ true → (s : SourceType) → is_numeric s ≡ true → Operand s b
number-operand b h (plain a zero) e = operand (inr (e, h))
number-operand b h (plain a (suc n)) e = absurd cc
number-operand b h (of_class c ts n) e = absurd cc
number-operand b h (of_variable c at n) e = absurd cc

cast-operand : (b : Base) → is_primitive_base b ≡ true → (s : SourceType) → casts_to b s ≡ true → Operand s b
cast-operand base.Bool h s e = boolean-operand s e
cast-operand base.Byte h s e = number-operand base.Byte refl s e
cast-operand base.Short h s e = number-operand base.Short refl s e
cast-operand base.Char h s e = number-operand base.Char refl s e
cast-operand base.Int h s e = number-operand base.Int refl s e
cast-operand base.Long h s e = number-operand base.Long refl s e
cast-operand base.Null h s e = absurd cc
cast-operand base.Void h s e = absurd cc
cast-operand (base.Class c) h s e = absurd cc

module _ (p : CoreProgram) (body : Body) (heads : List ClassHead) (b : Base) (type_span span : Span) (t : TypedNode) (known : is_primitive_base b ≡ true) (fit : FitsAs p body heads t) where
  cast-fits : casts_to b t.type ≡ true → FitsAs p body heads (of_base b (primitive_cast_node b type_span span t.node))
  cast-fits e =
      let own = cast-operand b known t.type e in
      constant-or-fits p body heads (value_in b (constant_value t.node)) (uses_of t.node) b span type_span _ (typed-in b (constant_value t.node)) fit.uses (converted-as p body heads t b fit own)

  cast-gives : Gives (FitsAs p body heads) (primitive_cast b type_span span t)
  unfolding primitive_cast bind check
  cast-gives = by (casts_to b t.type) refl
    where
      by : (x : Bool) → casts_to b t.type ≡ x → Gives (FitsAs p body heads) (bind (check BadCast type_span x) (λ u. gives (of_base b (primitive_cast_node b type_span span t.node))))
      by false e = tt
      by true e = cast-fits e

pub casts_fit : (p : CoreProgram) (body : Body) (heads : List ClassHead) → PrimitiveCastsFit p body heads
casts_fit p body heads b type_span span t known fit = cast-gives p body heads b type_span span t known fit
