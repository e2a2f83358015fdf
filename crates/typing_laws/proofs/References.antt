-- Equality of references, casts between them and `instanceof` fit where their operands do.
use Rattle.std.proofs.Common.{◌≡◌, ℕ, zero, suc, List, ◌++◌, Option, Some, None, refl, sym, ap, ◌∙◌, subst}
use Rattle.std.specs.Prelude.{Bool, true, false, ◌&&◌, ◌||◌, count_by, nat_eq, if◌then◌else◌}
use Rattle.std.specs.Str.{bytes_eq}
use Rattle.std.proofs.lemmas.Bool.{eqb-true}
use Rattle.je_base.specs.declared.span.Span.{Span}
use Rattle.je_core.specs.declared.expr.BinOp.{BinOp}
use Rattle.je_core.specs.declared.expr.BinOp.TheVariants as op
use Rattle.je_core.specs.declared.types.Base.{Base}
use Rattle.je_core.specs.declared.types.Base.TheVariants as base
use Rattle.je_core.specs.declared.types.Ty.{Ty}
use Rattle.je_core.specs.Core.{Core, CoreProgram, node, ty_of}
use Rattle.je_core.specs.Core as core
use Rattle.je_classes.specs.Subtypes as types
use Rattle.je_fitting.specs.Expressions.{Body, Fits, are_there}
use Rattle.je_fitting.specs.Expressions as fits
use Rattle.je_fitting.specs.Operators.{both_bool, both_promoted, equality, gives as gives_type, sort_of, takes}
use Rattle.je_fitting.specs.Types.{bool, is_variable_type, of, string}
use Rattle.je_fitting.proofs.Booleans.{two, both}
use Rattle.je_scopes.specs.SourceTypes.{SourceType, plain, of_class, of_variable}
use Rattle.plain_programs.specs.Nodes.{every}
use Rattle.source_types.specs.Erasure.{erased, erased_within}
use Rattle.source_types.specs.Heads.{ClassHead, variable_count}
use Rattle.source_types.specs.Subtypes.{is_reference}
use Rattle.source_types.proofs.Same.{same-equal}
use Rattle.je_typing.specs.declared.fault.TypeRule.TheVariants.{BadCast, BadInstanceOf, BadOperand}
use Rattle.je_typing.specs.Castable.{may_be}
use Rattle.je_typing.specs.Casts.{instance_of, is_reifiable, reference_cast, reference_cast_node, tests_as, text_kept}
use Rattle.je_typing.specs.Constants.{constant_text, uses_of}
use Rattle.je_typing.specs.Judged.{bind, check, gives}
use Rattle.je_typing.specs.Operators.{of_base, reference_equality, reference_node, same_texts, text_or}
use Rattle.je_typing.specs.Typed.{TypedNode, is_string, string_type, typed_as}
use Rattle.typing_laws.specs.Fitting.{BoundsFit, FitsAs, Gives, stands_once, with_texts}
use Rattle.typing_laws.specs.Laws.{ReferenceCastsFit, ReferenceEqualitiesFit, TypeTestsFit}
use Rattle.typing_laws.proofs.Erased.{is_class_base, variable-class}
use Rattle.typing_laws.proofs.Nodes.{constant-or-fits, erased-plain, no-uses, uses-together}
use Rattle.typing_laws.proofs.Subtypes.{or-right}
use Rattle.typing_laws.proofs.Texts.{string-erased}
use Rattle.typing_laws.proofs.Values.{HasType}

-- ---- references are erased to references

class-reference : (b : Base) (n : ℕ) → is_class_base b ≡ true → types.is_reference_of b n ≡ true
class-reference b (suc n) h = refl
class-reference (base.Class c) zero h = refl
class-reference base.Bool zero h = absurd cc
class-reference base.Byte zero h = absurd cc
class-reference base.Short zero h = absurd cc
class-reference base.Char zero h = absurd cc
class-reference base.Int zero h = absurd cc
class-reference base.Long zero h = absurd cc
class-reference base.Null zero h = absurd cc
class-reference base.Void zero h = absurd cc

module _ (heads : List ClassHead) (bounds : BoundsFit heads) where
  reference-within : (steps : ℕ) (t : SourceType) → is_reference t ≡ true → types.is_reference (erased_within heads steps t) ≡ true
  reference-within zero (plain b n) h = h
  reference-within (suc k) (plain b n) h = h
  reference-within zero (of_class c ts n) h = class-reference (base.Class (record { 0 = c })) n refl
  reference-within (suc k) (of_class c ts n) h = class-reference (base.Class (record { 0 = c })) n refl
  reference-within steps (of_variable c at n) h = class-reference (erased_within heads steps (of_variable c at n)).base (erased_within heads steps (of_variable c at n)).dims (variable-class heads bounds steps c at n)

  pub reference-erased : (t : SourceType) → is_reference t ≡ true → types.is_reference (erased heads t) ≡ true
  unfolding erased
  reference-erased t h = reference-within (variable_count heads) t h

-- what may be of a type, and the type, are references
both-references : (heads : List ClassHead) (s t : SourceType) → may_be heads s t ≡ true → (is_reference s ≡ true) × (is_reference t ≡ true)
unfolding may_be
both-references heads s t h = two {a = is_reference s} {b = is_reference t} (two {a = is_reference s && is_reference t} h).0

texts-typed : (o : BinOp) (a b : Option (List ℕ)) → HasType bool (same_texts o a b)
texts-typed op.Eq (Some a) (Some b) = refl
texts-typed op.Ne (Some a) (Some b) = refl
texts-typed op.Mul (Some a) (Some b) = refl
texts-typed op.Div (Some a) (Some b) = refl
texts-typed op.Rem (Some a) (Some b) = refl
texts-typed op.Add (Some a) (Some b) = refl
texts-typed op.Sub (Some a) (Some b) = refl
texts-typed op.Shl (Some a) (Some b) = refl
texts-typed op.Shr (Some a) (Some b) = refl
texts-typed op.Ushr (Some a) (Some b) = refl
texts-typed op.Lt (Some a) (Some b) = refl
texts-typed op.Gt (Some a) (Some b) = refl
texts-typed op.Le (Some a) (Some b) = refl
texts-typed op.Ge (Some a) (Some b) = refl
texts-typed op.BitAnd (Some a) (Some b) = refl
texts-typed op.BitXor (Some a) (Some b) = refl
texts-typed op.BitOr (Some a) (Some b) = refl
texts-typed _ _ _ = tt

module _ (p : CoreProgram) (body : Body) (heads : List ClassHead) (bounds : BoundsFit heads) where
  -- a reference, where it stands
  reference-type : (t : TypedNode) → FitsAs p body heads t → is_reference t.type ≡ true → types.is_reference (ty_of t.node) ≡ true
  reference-type t fit h = ap types.is_reference fit.type ∙ reference-erased heads bounds t.type h

  -- ---- JLS 15.21.3

  module _ (o : BinOp) (at span : Span) (left right : TypedNode) (is : sort_of o ≡ equality) (l : FitsAs p body heads left) (r : FitsAs p body heads right) where
    abbrev compared : Core
    compared = node (core.Binary o left.node right.node) (of base.Bool) span at

    takes-them : may_be heads left.type right.type ≡ true → takes (sort_of o) (ty_of left.node) (ty_of right.node) ≡ true
    takes-them h =
        let sides = both-references heads left.type right.type h in
        ap (λ s. takes s (ty_of left.node) (ty_of right.node)) is
        ∙ or-right (both_promoted (ty_of left.node) (ty_of right.node) || both_bool (ty_of left.node) (ty_of right.node)) (types.is_reference (ty_of left.node) && types.is_reference (ty_of right.node))
        (both (reference-type left l sides.0) (reference-type right r sides.1))

    compared-fits : may_be heads left.type right.type ≡ true → FitsAs p body heads (of_base base.Bool compared)
    compared-fits h = record {
      node = λ texts e. let sides = two {a = every (stands_once texts) left.node} e in
          subst (λ (u : Ty). Fits (with_texts p texts) body (node (core.Binary o left.node right.node) u span at)) (ap (λ s. gives_type s (ty_of left.node)) is)
          (fits.binary (l.node texts sides.0) (r.node texts sides.1) (takes-them h));
      uses = no-uses p body heads;
      type = sym (erased-plain heads base.Bool);
    }

    equality-gives : Gives (FitsAs p body heads) (reference_equality heads o at span left right)
    unfolding reference_equality bind check
    equality-gives = by (may_be heads left.type right.type) refl
      where
        by : (x : Bool) → may_be heads left.type right.type ≡ x
            → Gives (FitsAs p body heads) (bind (check BadOperand at x) (λ u. gives (of_base base.Bool (reference_node o at span left.node right.node))))
        by false e = tt
        by true e = constant-or-fits p body heads (same_texts o (constant_text left.node) (constant_text right.node)) (uses_of left.node ++ uses_of right.node) base.Bool span at _
            (texts-typed o (constant_text left.node) (constant_text right.node)) (uses-together p body heads (uses_of left.node) (uses_of right.node) l.uses r.uses) (compared-fits e)

  -- ---- JLS 5.5, 15.20.2

  module _ (to : SourceType) (type_span span : Span) (t : TypedNode) (there : is_variable_type p (erased heads to) ≡ true) (fit : FitsAs p body heads t) where
    abbrev cast_node : Core
    cast_node = node (core.Cast t.node) (erased heads to) span type_span

    cast-fits : tests_as heads to t.type ≡ true → FitsAs p body heads (record { node = cast_node; type = to })
    cast-fits h =
        let sides = both-references heads t.type to (two {a = is_reifiable heads to} h).1 in
        record { node = λ texts e. fits.cast (fit.node texts e) (reference-type t fit sides.0) (reference-erased heads bounds to sides.1) there; uses = no-uses p body heads; type = refl }

    text-node-fits : (units : List ℕ) → (texts : List (List ℕ)) → every (stands_once texts) (node (core.Text units (uses_of t.node)) string span type_span) ≡ true
        → Fits (with_texts p texts) body (node (core.Text units (uses_of t.node)) string span type_span)
    text-node-fits units texts h = fits.text (eqb-true (count_by (λ u. bytes_eq u units) texts) 1 (two {a = nat_eq (count_by (λ u. bytes_eq u units) texts) 1} h).0) fit.uses

    kept-fits : tests_as heads to t.type ≡ true → (b : Bool) → is_string to ≡ b → (o : Option (List ℕ)) → (if b then constant_text t.node else None) ≡ o
        → FitsAs p body heads (record { node = text_or o (uses_of t.node) span type_span cast_node; type = to })
    kept-fits h b s None e = cast-fits h
    kept-fits h true s (Some units) e = record { node = text-node-fits units; uses = fit.uses; type = sym (ap (erased heads) (same-equal to string_type s) ∙ string-erased heads) }
    kept-fits h false s (Some units) e = absurd cc

    cast-gives : Gives (FitsAs p body heads) (reference_cast heads to type_span span t)
    unfolding reference_cast bind check
    cast-gives = by (tests_as heads to t.type) refl
      where
        by : (x : Bool) → tests_as heads to t.type ≡ x → Gives (FitsAs p body heads) (bind (check BadCast type_span x) (λ u. gives (record { node = reference_cast_node heads to type_span span t.node; type = to })))
        by false e = tt
        by true e = kept-fits e (is_string to) refl (text_kept to t.node) refl

    test-fits : (at : Span) → tests_as heads to t.type ≡ true → FitsAs p body heads (typed_as base.Bool (core.InstanceOf t.node (erased heads to)) span at)
    test-fits at h =
        let sides = both-references heads t.type to (two {a = is_reifiable heads to} h).1 in
        record { node = λ texts e. fits.instance_of (fit.node texts e) (reference-type t fit sides.0) (reference-erased heads bounds to sides.1) there; uses = no-uses p body heads; type = sym (erased-plain heads base.Bool) }

    test-gives : (at : Span) → Gives (FitsAs p body heads) (instance_of heads to type_span at span t)
    unfolding instance_of bind check
    test-gives at = by (tests_as heads to t.type) refl
      where
        by : (x : Bool) → tests_as heads to t.type ≡ x → Gives (FitsAs p body heads) (bind (check BadInstanceOf type_span x) (λ u. gives (typed_as base.Bool (core.InstanceOf t.node (erased heads to)) span at)))
        by false e = tt
        by true e = test-fits at e

pub reference_equalities_fit : (p : CoreProgram) (body : Body) (heads : List ClassHead) → ReferenceEqualitiesFit p body heads
reference_equalities_fit p body heads o at span left right bounds is l r = equality-gives p body heads bounds o at span left right is l r

pub reference_casts_fit : (p : CoreProgram) (body : Body) (heads : List ClassHead) → ReferenceCastsFit p body heads
reference_casts_fit p body heads to type_span span operand bounds there fit = cast-gives p body heads bounds to type_span span operand there fit

pub type_tests_fit : (p : CoreProgram) (body : Body) (heads : List ClassHead) → TypeTestsFit p body heads
type_tests_fit p body heads to type_span at span operand bounds there fit = test-gives p body heads bounds to type_span span operand there fit at
