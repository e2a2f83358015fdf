-- Literals fit.
use Rattle.std.proofs.Common.{◌≡◌, ℕ, ℤ, List, [], Option, Some, None, refl, sym}
use Rattle.std.specs.Prelude.{count_by, nat_eq, if◌then◌else◌}
use Rattle.std.specs.Str.{bytes_eq}
use Rattle.std.proofs.lemmas.Bool.{eqb-true}
use Rattle.je_base.specs.declared.span.Span.{Span}
use Rattle.je_core.specs.declared.types.Base.{Base}
use Rattle.je_core.specs.declared.types.Base.TheVariants as base
use Rattle.je_core.specs.declared.value.Value.{Value}
use Rattle.je_core.specs.declared.value.Value.TheVariants as value
use Rattle.je_core.specs.Core.{CoreProgram}
use Rattle.je_core.specs.Core as core
use Rattle.je_ast.specs.declared.expr.Literal.{Literal}
use Rattle.je_ast.specs.declared.expr.Literal.TheVariants as literal
use Rattle.je_classes.proofs.Lists.{bool_cases}
use Rattle.je_fitting.specs.Expressions.{Body}
use Rattle.je_fitting.specs.Expressions as fits
use Rattle.je_fitting.specs.Types.{of, type_of_value}
use Rattle.je_fitting.proofs.Booleans.{two}
use Rattle.source_types.specs.Erasure.{erased}
use Rattle.source_types.specs.Heads.{ClassHead}
use Rattle.je_typing.specs.Judged.{bind, need}
use Rattle.je_typing.specs.Literals.{char_value, int_value, literal_of, long_value, number_literal}
use Rattle.je_typing.specs.Typed.{typed_as, typed_text}
use Rattle.typing_laws.specs.Fitting.{FitsAs, Gives}
use Rattle.typing_laws.specs.Laws.{LiteralsFit}
use Rattle.typing_laws.proofs.Nodes.{erased-plain, no-uses}
use Rattle.typing_laws.proofs.Values.{HasType}

pub int-typed : (z : ℤ) → HasType (of base.Int) (int_value z)
int-typed z = bool_cases (λ b. HasType (of base.Int) (if b then Some (value.Int z) else None)) _ (λ e. refl) (λ e. tt)

pub long-typed : (z : ℤ) → HasType (of base.Long) (long_value z)
long-typed z = bool_cases (λ b. HasType (of base.Long) (if b then Some (value.Long z) else None)) _ (λ e. refl) (λ e. tt)

module _ (p : CoreProgram) (body : Body) (heads : List ClassHead) where
  pub value-fits : (b : Base) (v : Value) (span at : Span) → type_of_value v ≡ Some (of b) → FitsAs p body heads (typed_as b (core.Const v []) span at)
  value-fits b v span at h = record { node = λ texts q. fits.const h (no-uses p body heads); uses = no-uses p body heads; type = sym (erased-plain heads b) }

  number-fits : (b : Base) (o : Option Value) (span at : Span) → HasType (of b) o → Gives (FitsAs p body heads) (number_literal b o at span)
  unfolding number_literal bind need
  number-fits b None span at h = tt
  number-fits b (Some v) span at h = value-fits b v span at h

  text-fits : (units : List ℕ) (span : Span) → FitsAs p body heads (typed_text (core.Text units []) span span)
  unfolding erased
  text-fits units span = record {
    node = λ texts h. fits.text (eqb-true (count_by (λ t. bytes_eq t units) texts) 1 (two {a = nat_eq (count_by (λ t. bytes_eq t units) texts) 1} h).0) (no-uses p body heads);
    uses = no-uses p body heads;
    type = refl;
  }

  literal-fits : (l : Literal) (span : Span) → Gives (FitsAs p body heads) (literal_of l span)
  unfolding literal_of
  literal-fits (literal.Int z) span = number-fits base.Int (int_value z) span span (int-typed z)
  literal-fits (literal.Long z) span = number-fits base.Long (long_value z) span span (long-typed z)
  literal-fits (literal.Char z) span = value-fits base.Char (char_value z) span span refl
  literal-fits (literal.Text units) span = text-fits units span
  literal-fits (literal.Bool b) span = value-fits base.Bool (value.Bool b) span span refl
  literal-fits literal.Null span = value-fits base.Null value.Null span span refl

pub literals_fit : (p : CoreProgram) (body : Body) (heads : List ClassHead) → LiteralsFit p body heads
literals_fit p body heads l span = literal-fits p body heads l span
