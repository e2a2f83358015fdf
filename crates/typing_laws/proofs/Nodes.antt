-- Constants, conversions and operands of primitive types that fit.
use Rattle.std.proofs.Common.{◌≡◌, ℕ, zero, suc, List, [], ◌++◌, Option, Some, None, refl, sym, ap, ◌∙◌, subst, inl, inr}
use Rattle.std.specs.Prelude.{Bool, true, false, ◌⊎◌, is_some, if◌then◌else◌}
use Rattle.std.proofs.lemmas.List.Elements.{All-nil, All-append}
use Rattle.je_base.specs.declared.span.Span.{Span}
use Rattle.je_core.specs.declared.expr.Use.{Use}
use Rattle.je_core.specs.declared.types.Base.{Base}
use Rattle.je_core.specs.declared.types.Base.TheVariants as base
use Rattle.je_core.specs.declared.types.Ty.{Ty}
use Rattle.je_core.specs.declared.value.Value.{Value}
use Rattle.je_core.specs.declared.value.Value.TheVariants as value
use Rattle.je_core.specs.Core.{Core, CoreForm, CoreProgram, node, form_of, ty_of}
use Rattle.je_core.specs.Core as core
use Rattle.je_classes.specs.Subtypes.{same_type}
use Rattle.je_classes.proofs.Lists.{bool_cases}
use Rattle.je_classes.proofs.Same.{same_base-refl, same_type-equal}
use Rattle.je_fitting.specs.Expressions.{Body, Fits, are_there, field_at}
use Rattle.je_fitting.specs.Expressions as fits
use Rattle.je_fitting.specs.Types.{bool, is_number, is_number_base, of, type_of_value}
use Rattle.je_scopes.specs.SourceTypes.{SourceType, plain}
use Rattle.plain_programs.specs.Nodes.{every}
use Rattle.source_types.specs.Erasure.{erased, erased_within}
use Rattle.source_types.specs.Heads.{ClassHead, variable_count}
use Rattle.je_typing.specs.Constants.{constant_or, constant_value, unless_null, uses_of}
use Rattle.je_typing.specs.Conversions.{converted, span_of, token_of}
use Rattle.je_typing.specs.Operators.{of_base}
use Rattle.je_typing.specs.Typed.{TypedNode}
use Rattle.typing_laws.specs.Fitting.{FitsAs, stands_once, with_texts}
use Rattle.typing_laws.proofs.Values.{HasType}

-- ---- types

erased-in : (heads : List ClassHead) (steps : ℕ) (b : Base) → erased_within heads steps (plain b 0) ≡ of b
erased-in heads zero b = refl
erased-in heads (suc n) b = refl

pub erased-plain : (heads : List ClassHead) (b : Base) → erased heads (plain b 0) ≡ of b
unfolding erased
erased-plain heads b = erased-in heads (variable_count heads) b

-- a value of the one type may stand for one of the other: the same, or both are numbers
abbrev pub CanBe : Base → Base → Type 0
CanBe a b = (a ≡ b) ⊎ ((is_number_base a ≡ true) × (is_number_base b ≡ true))

-- an operand of a type that is promoted to a base
pub data Operand : SourceType → Base → Type 0 where
  operand : {a b : Base} → CanBe a b → Operand (plain a 0) b

-- ---- conversions

pub converted-type : (b : Base) (n : Core) → ty_of (converted b n) ≡ of b
unfolding converted
converted-type b n = bool_cases (λ s. same_type (ty_of n) (of b) ≡ s → ty_of (if s then n else node (core.Convert n) (of b) (span_of n) (token_of n)) ≡ of b) (same_type (ty_of n) (of b))
    (λ _ e. same_type-equal (ty_of n) (of b) e) (λ _ e. refl) refl

pub converted-texts : (texts : List (List ℕ)) (b : Base) (n : Core) → every (stands_once texts) (converted b n) ≡ true → every (stands_once texts) n ≡ true
unfolding converted
converted-texts texts b n h = bool_cases (λ s. every (stands_once texts) (if s then n else node (core.Convert n) (of b) (span_of n) (token_of n)) ≡ true → every (stands_once texts) n ≡ true) (same_type (ty_of n) (of b))
    (λ _ e. e) (λ _ e. e) h

not-same : (a b : Base) → CanBe a b → same_type (of a) (of b) ≡ false → (is_number (of a) ≡ true) × (is_number (of b) ≡ true)
not-same a b (inl e) h = let same : same_type (of a) (of b) ≡ true = subst (λ (c : Base). same_type (of a) (of c) ≡ true) e (same_base-refl a) in absurd cc
not-same a b (inr k) h = k

module _ (p : CoreProgram) (body : Body) where
  pub converted-fits : (n : Core) (a b : Base) → ty_of n ≡ of a → CanBe a b → Fits p body n → Fits p body (converted b n)
  unfolding converted
  converted-fits n a b t can fit = bool_cases (λ s. same_type (ty_of n) (of b) ≡ s → Fits p body (if s then n else node (core.Convert n) (of b) (span_of n) (token_of n))) (same_type (ty_of n) (of b))
      (λ _ e. fit)
      (λ _ e. let q = not-same a b can (ap (λ (u : Ty). same_type u (of b)) (sym t) ∙ e) in fits.convert fit (ap is_number t ∙ q.0) q.1 e) refl

-- ---- constants

module _ (p : CoreProgram) (body : Body) (heads : List ClassHead) where
  null-or-typed : (v : Value) (t : Ty) → type_of_value v ≡ Some t → HasType t (unless_null v)
  null-or-typed value.Null t h = tt
  null-or-typed (value.Bool b) t h = h
  null-or-typed (value.Byte z) t h = h
  null-or-typed (value.Short z) t h = h
  null-or-typed (value.Char n) t h = h
  null-or-typed (value.Int z) t h = h
  null-or-typed (value.Long z) t h = h
  null-or-typed (value.Ref o) t h = h

  const-typed : {q : CoreProgram} (v : Value) (uses : List Use) (t : Ty) (span at : Span) → Fits q body (node (core.Const v uses) t span at) → HasType t (unless_null v)
  const-typed v uses t span at (fits.const h k) = null-or-typed v t h

  pub value-typed : (n : Core) → ((texts : List (List ℕ)) → every (stands_once texts) n ≡ true → Fits (with_texts p texts) body n) → HasType (ty_of n) (constant_value n)
  value-typed (node (core.Const v uses) t span at) fit = const-typed v uses t span at (fit [] refl)
  value-typed (node _ t span at) fit = tt

  pub operand-fits : (texts : List (List ℕ)) (t : TypedNode) (b : Base) → FitsAs p body heads t → Operand t.type b → every (stands_once texts) (converted b t.node) ≡ true → Fits (with_texts p texts) body (converted b t.node)
  operand-fits texts t b fit o h = by t.type fit.type o
    where
      by : (s : SourceType) → ty_of t.node ≡ erased heads s → Operand s b → Fits (with_texts p texts) body (converted b t.node)
      by _ e (operand {a = a} can) = converted-fits (with_texts p texts) body t.node a b (e ∙ erased-plain heads a) can (fit.node texts (converted-texts texts b t.node h))

  -- a constant, where there is one, or else a node that fits
  pub constant-or-fits : (v : Option Value) (uses : List Use) (b : Base) (span at : Span) (n : Core) → HasType (of b) v → are_there p uses →
      FitsAs p body heads (of_base b n) → FitsAs p body heads (of_base b (constant_or v uses b span at n))
  constant-or-fits None uses b span at n h k fit = fit
  constant-or-fits (Some v) uses b span at n h k fit = record { node = λ texts q. fits.const h k; uses = k; type = sym (erased-plain heads b) }

  pub no-uses : are_there p []
  no-uses = All-nil _

  pub uses-together : (us vs : List Use) → are_there p us → are_there p vs → are_there p (us ++ vs)
  uses-together us vs h k = All-append (λ (u : Use). is_some (field_at p u.class u.field) ≡ true) us vs h k

  kept-uses : (same : Bool) (b : Base) (n : Core) → are_there p (uses_of n) → are_there p (uses_of (if same then n else node (core.Convert n) (of b) (span_of n) (token_of n)))
  kept-uses true b n h = h
  kept-uses false b n h = no-uses

  -- an operand in its base
  pub converted-as : (t : TypedNode) (b : Base) → FitsAs p body heads t → Operand t.type b → FitsAs p body heads (of_base b (converted b t.node))
  unfolding converted
  converted-as t b fit o = record {
    node = λ texts h. operand-fits texts t b fit o h;
    uses = kept-uses (same_type (ty_of t.node) (of b)) b t.node fit.uses;
    type = converted-type b t.node ∙ sym (erased-plain heads b);
  }

  boolean-by : (a b : Base) → CanBe a b → b ≡ base.Bool → of a ≡ bool
  boolean-by a b (inl e) k = ap of (e ∙ k)
  boolean-by a b (inr q) k = let none : false ≡ true = ap is_number_base (sym k) ∙ q.1 in absurd cc

  -- a boolean operand has that type itself
  pub boolean-type : (t : TypedNode) → FitsAs p body heads t → Operand t.type base.Bool → ty_of t.node ≡ bool
  boolean-type t fit o = by t.type fit.type o
    where
      by : (s : SourceType) → ty_of t.node ≡ erased heads s → Operand s base.Bool → ty_of t.node ≡ bool
      by _ e (operand {a = a} can) = e ∙ erased-plain heads a ∙ boolean-by a base.Bool can refl
