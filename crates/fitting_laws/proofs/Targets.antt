-- Assignments to variables whose declared type may lie above the one that they have where they are named (JLS 15.26).
use Rattle.std.proofs.Common.{◌≡◌, ℕ, List, [], refl, sym, ◌∙◌, subst, inl, inr}
use Rattle.std.specs.Prelude.{Bool, true, false, ◌⊎◌}
use Rattle.je_base.specs.declared.span.Span.{Span}
use Rattle.je_core.specs.declared.expr.BinOp.{BinOp}
use Rattle.je_core.specs.Core.{Core, CoreProgram, form_of, ty_of}
use Rattle.je_ast.specs.declared.operator.BinaryOp.{BinaryOp}
use Rattle.je_classes.specs.Hierarchy.{object_class, supers_of}
use Rattle.je_classes.proofs.Lists.{bool_cases}
use Rattle.je_fitting.specs.Expressions.{Body, Fits, IsPlace, are_there}
use Rattle.je_fitting.specs.Operators as core_ops
use Rattle.je_scopes.specs.SourceTypes.{SourceType}
use Rattle.plain_programs.specs.Nodes.{every}
use Rattle.source_types.specs.Erasure.{erased}
use Rattle.source_types.specs.Heads.{ClassHead}
use Rattle.je_typing.specs.declared.fault.TypeRule.TheVariants.{BadOperand, BadTarget}
use Rattle.je_typing.specs.Assignments.{assign_node, assignment, compound, is_place, place, step_node, stepped, update, update_node}
use Rattle.je_typing.specs.Constants.{uses_of}
use Rattle.je_typing.specs.Conversions.{assigned}
use Rattle.je_typing.specs.Judged.{Judged, bind, faulty, gives}
use Rattle.je_typing.specs.Operators.{core_op}
use Rattle.je_typing.specs.Typed.{TypedNode, is_void}
use Rattle.typing_laws.specs.Correspondence.{HasHeads}
use Rattle.typing_laws.specs.Fitting.{FitsAs, FitsAsVariable, Gives, stands_once, with_texts}
use Rattle.typing_laws.proofs.Assignments.{agrees-itself, assignments_fit, steps_fit, updates_fit}
use Rattle.typing_laws.proofs.Erased.{erased-not-void}
use Rattle.fitting_laws.specs.Sound.{IsType, SameOrBelow, a_type}
use Rattle.fitting_laws.specs.Values.{FitsBelow, IsValue}
use Rattle.fitting_laws.proofs.Below.{agrees-above, agrees-texts}
use Rattle.fitting_laws.proofs.Gives.{behind, behind-check, behind-need}
use Rattle.fitting_laws.proofs.Sound.{type-dims}

module _ (q : CoreProgram) (body : Body) (heads : List ClassHead) (known : HasHeads q heads) (top : supers_of q object_class ≡ []) where
  -- a variable, by what is asked of both kinds
  pub record IsAbove (t : TypedNode) : Type 0 where
    pub node : (texts : List (List ℕ)) → every (stands_once texts) t.node ≡ true → Fits (with_texts q texts) body t.node
    pub uses : are_there q (uses_of t.node)
    pub below : SameOrBelow q (erased heads t.type) (ty_of t.node)
    pub type : IsType q heads t.type

  pub is-above : (t : TypedNode) → IsValue q body heads t ⊎ FitsBelow q body heads t → IsAbove t
  is-above t (inl v) = record { node = v.fits.node; uses = v.fits.uses; below = inl (sym v.fits.type); type = v.type }
  is-above t (inr f) = record { node = f.node; uses = f.uses; below = f.below; type = a_type f.type }

  -- but for `void` it takes what has its type where it is named
  as-variable : (t : TypedNode) → is_void t.type ≡ false → IsAbove t → FitsAsVariable q body heads t
  as-variable t value a = record {
    node = a.node;
    takes = λ texts. agrees-texts q texts (erased heads t.type) (ty_of t.node) ∙ agrees-above q top (erased heads t.type) (erased heads t.type) (ty_of t.node)
        (agrees-itself q (erased heads t.type).base (erased heads t.type).dims (erased-not-void heads known.bounds t.type value)) a.below;
  }

  value-type : (j : Judged TypedNode) (t : SourceType) → IsType q heads t → Gives (FitsAs q body heads) j → Gives (λ u. u.type ≡ t) j → Gives (IsValue q body heads) j
  value-type (gives u) t i h e = record { fits = h; type = subst (IsType q heads) (sym e) i }
  value-type (faulty fault) t i h e = tt

  behind-place : (P : TypedNode → Type 0) (span : Span) (t a : TypedNode) → (is_place (form_of t.node) ≡ true → P a) → Gives P (bind (place span t) (λ u. gives a))
  unfolding place
  behind-place P span t a h = behind-check P BadTarget span (is_place (form_of t.node)) (gives a) h

  no-place : {P : Type 0} (t : TypedNode) → is_place (form_of t.node) ≡ false → is_place (form_of t.node) ≡ true → P
  no-place t f e = absurd (let none : true ≡ false = sym e ∙ f in cc)

  -- a variable, and where it may be assigned
  abbrev Variable : TypedNode → Type 0
  Variable t = IsAbove t × IsPlace q body (form_of t.node)

  -- ---- JLS 15.26.1

  module _ (at left_span right_span span : Span) (left right : TypedNode) where
    nothing-known : {A : Type 0} (j : Judged A) → Gives (λ a. Unit {0}) j
    nothing-known (gives a) = tt
    nothing-known (faulty fault) = tt

    assigned-then : (P : TypedNode → Type 0) → ((v : Core) → is_place (form_of left.node) ≡ true → P (assign_node heads at span left v)) → Gives P (assignment heads at left_span right_span span left right)
    unfolding assignment
    assigned-then P h = behind (λ v. Unit {0}) P (assigned heads left.type right_span right) (λ v. bind (place left_span left) (λ u. gives (assign_node heads at span left v))) (nothing-known (assigned heads left.type right_span right))
        (λ v _. behind-place P left_span left (assign_node heads at span left v) (h v))

    pub assigned-fits : is_void left.type ≡ false → IsValue q body heads right → (is_place (form_of left.node) ≡ true → Variable left) → Gives (IsValue q body heads) (assignment heads at left_span right_span span left right)
    assigned-fits value r a = bool_cases (λ b. is_place (form_of left.node) ≡ b → Gives (IsValue q body heads) (assignment heads at left_span right_span span left right)) (is_place (form_of left.node))
        (λ _ e. let k = a e in value-type (assignment heads at left_span right_span span left right) left.type k.0.type
        (assignments_fit q body heads at left_span right_span span left right known (type-dims q heads k.0.type) (type-dims q heads r.type) k.1 (as-variable left value k.0) r.fits)
        (assigned-then (λ u. u.type ≡ left.type) (λ v _. refl)))
        (λ _ e. assigned-then (IsValue q body heads) (λ v. no-place left e)) refl

  -- ---- JLS 15.26.2

  module _ (at left_span span : Span) (left right : TypedNode) where
    updated-then : (o : BinOp) (P : TypedNode → Type 0) → (is_place (form_of left.node) ≡ true → P (update_node heads o at span left right.node)) → Gives P (update heads o at left_span span left right)
    unfolding update
    updated-then o P h = behind-check P BadOperand at _ _ (λ _. behind-place P left_span left (update_node heads o at span left right.node) h)

    updated-fits : (o : BinOp) → is_void left.type ≡ false → IsValue q body heads right → (is_place (form_of left.node) ≡ true → Variable left) → Gives (IsValue q body heads) (update heads o at left_span span left right)
    updated-fits o value r a = bool_cases (λ b. is_place (form_of left.node) ≡ b → Gives (IsValue q body heads) (update heads o at left_span span left right)) (is_place (form_of left.node))
        (λ _ e. let k = a e in value-type (update heads o at left_span span left right) left.type k.0.type
        (updates_fit q body heads o at left_span span left right known.bounds k.1 (as-variable left value k.0) r.fits) (updated-then o (λ u. u.type ≡ left.type) (λ _. refl)))
        (λ _ e. updated-then o (IsValue q body heads) (no-place left e)) refl

    pub compound-fits : (o : BinaryOp) → is_void left.type ≡ false → IsValue q body heads right → (is_place (form_of left.node) ≡ true → Variable left) → Gives (IsValue q body heads) (compound heads o at left_span span left right)
    unfolding compound
    compound-fits o value r a = behind-need (IsValue q body heads) BadOperand at (core_op o) (λ c. update heads c at left_span span left right) (λ c e. updated-fits c value r a)

  -- ---- JLS 15.14, 15.15

  module _ (o : BinOp) (old : Bool) (at operand_span span : Span) (t : TypedNode) where
    stepped-then : (P : TypedNode → Type 0) → (is_place (form_of t.node) ≡ true → P (step_node o old at span t)) → Gives P (stepped o old at operand_span span t)
    unfolding stepped
    stepped-then P h = behind-check P BadOperand at _ _ (λ _. behind-place P operand_span t (step_node o old at span t) h)

    pub stepped-fits : core_ops.is_step o ≡ true → is_void t.type ≡ false → (is_place (form_of t.node) ≡ true → Variable t) → Gives (IsValue q body heads) (stepped o old at operand_span span t)
    stepped-fits step value a = bool_cases (λ b. is_place (form_of t.node) ≡ b → Gives (IsValue q body heads) (stepped o old at operand_span span t)) (is_place (form_of t.node))
        (λ _ e. let k = a e in value-type (stepped o old at operand_span span t) t.type k.0.type
        (steps_fit q body heads o old at operand_span span t step k.1 (as-variable t value k.0)) (stepped-then (λ u. u.type ≡ t.type) (λ _. refl)))
        (λ _ e. stepped-then (IsValue q body heads) (no-place t e)) refl
