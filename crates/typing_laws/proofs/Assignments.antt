-- Assignments fit where the variable may be assigned, and both sides fit.
use Rattle.std.proofs.Common.{◌≡◌, ℕ, zero, suc, ◌≤◌, List, [], refl, sym, ap, ◌∙◌}
use Rattle.std.specs.Prelude.{Bool, true, false, not, ◌&&◌}
use Rattle.je_base.specs.declared.span.Span.{Span}
use Rattle.je_core.specs.declared.expr.BinOp.{BinOp}
use Rattle.je_core.specs.declared.expr.BinOp.TheVariants as op
use Rattle.je_core.specs.declared.types.Base.{Base}
use Rattle.je_core.specs.declared.types.Base.TheVariants as base
use Rattle.je_core.specs.declared.types.Ty.{Ty}
use Rattle.je_core.specs.Core.{Core, CoreForm, CoreProgram, node, form_of, ty_of}
use Rattle.je_classes.specs.Hierarchy.{is_below, object_class, same_class}
use Rattle.je_classes.specs.Subtypes as types
use Rattle.je_classes.proofs.Below.{below-itself}
use Rattle.je_classes.proofs.Same.{same_base-refl, same_type-equal}
use Rattle.je_fitting.specs.Expressions.{Body, Fits, IsPlace}
use Rattle.je_fitting.specs.Expressions as fits
use Rattle.je_fitting.specs.Operators as core_ops
use Rattle.je_fitting.specs.Types.{agrees, bool, is_number, is_primitive, is_void as is_void_type, of, string}
use Rattle.je_fitting.proofs.Booleans.{two, both, is_false, is_not}
use Rattle.je_scopes.specs.SourceTypes.{SourceType, plain, of_class, of_variable}
use Rattle.plain_programs.specs.Nodes.{every}
use Rattle.source_types.specs.Erasure.{erased}
use Rattle.source_types.specs.Heads.{ClassHead}
use Rattle.source_types.specs.Subtypes.{dims_of}
use Rattle.je_typing.specs.declared.fault.TypeRule.TheVariants.{BadOperand, BadTarget}
use Rattle.je_typing.specs.Assignments.{appends, are_numeric, assign_node, assignment, combines, is_place, place, step_node, stepped, update, update_node, updates}
use Rattle.je_typing.specs.Conversions.{assigned, span_of, token_of}
use Rattle.je_typing.specs.Judged.{Judged, bind, check, faulty, gives}
use Rattle.je_typing.specs.Typed.{TypedNode, is_boolean, is_numeric, is_string}
use Rattle.typing_laws.specs.Correspondence.{HasHeads}
use Rattle.typing_laws.specs.Fitting.{BoundsFit, FitsAs, FitsAsVariable, Gives, stands_once, with_texts}
use Rattle.typing_laws.specs.Laws.{AssignmentsFit, StepsFit, UpdatesFit}
use Rattle.typing_laws.specs.Passing.{PassesAs}
use Rattle.typing_laws.proofs.Assigned.{assigned_values_pass}
use Rattle.typing_laws.proofs.Erased.{erased-not-void}
use Rattle.typing_laws.proofs.Nodes.{erased-plain, no-uses}
use Rattle.typing_laws.proofs.Subtypes.{either, or-left, or-right}
use Rattle.typing_laws.proofs.Texts.{string-typed}

pub whole : (n : Core) → n ≡ node (form_of n) (ty_of n) (span_of n) (token_of n)
whole (node form t span at) = refl

-- ---- a type agrees with itself, but for `void`

module _ (p : CoreProgram) where
  components : (b : Base) (n : ℕ) → types.are_components_below p b n b n ≡ true
  components b zero = or-right (types.is_base_below p b b) (types.same_base b b) (same_base-refl b)
  components b (suc n) = components b n

  array-below : (b : Base) (n : ℕ) → types.is_subtype p (record { base = b; dims = suc n }) (record { base = b; dims = suc n }) ≡ true
  unfolding types.is_subtype
  array-below b n = components b n

  class-below : (b : Base) → types.is_base_below p b b ≡ true → types.is_subtype p (of b) (of b) ≡ true
  unfolding types.is_subtype
  class-below b h = h

  pub agrees-itself : (b : Base) (n : ℕ) → is_void_type (record { base = b; dims = n }) ≡ false → agrees p (record { base = b; dims = n }) (record { base = b; dims = n }) ≡ true
  agrees-itself b (suc n) h = or-right (is_primitive (record { base = b; dims = suc n }) && types.same_type (record { base = b; dims = suc n }) (record { base = b; dims = suc n })) _ (array-below b n)
  agrees-itself (base.Class c) zero h = or-right (is_primitive (of (base.Class c)) && types.same_type (of (base.Class c)) (of (base.Class c))) _ (class-below (base.Class c) (or-right (same_class c object_class) (is_below p c c) (below-itself p c)))
  agrees-itself base.Null zero h = or-right (is_primitive (of base.Null) && types.same_type (of base.Null) (of base.Null)) _ (class-below base.Null refl)
  agrees-itself base.Void zero h = absurd cc
  agrees-itself base.Bool zero h = or-left true (types.is_subtype p bool bool) refl
  agrees-itself base.Byte zero h = or-left true (types.is_subtype p (of base.Byte) (of base.Byte)) refl
  agrees-itself base.Short zero h = or-left true (types.is_subtype p (of base.Short) (of base.Short)) refl
  agrees-itself base.Char zero h = or-left true (types.is_subtype p (of base.Char) (of base.Char)) refl
  agrees-itself base.Int zero h = or-left true (types.is_subtype p (of base.Int) (of base.Int)) refl
  agrees-itself base.Long zero h = or-left true (types.is_subtype p (of base.Long) (of base.Long)) refl

  -- no type is above a numeric one
  none-above : (b c : Base) (n : ℕ) → is_number (of b) ≡ true → types.are_below p b 0 c n ≡ true → ⊥
  none-above base.Byte c zero h e = absurd cc
  none-above base.Byte c (suc n) h e = absurd cc
  none-above base.Short c zero h e = absurd cc
  none-above base.Short c (suc n) h e = absurd cc
  none-above base.Char c zero h e = absurd cc
  none-above base.Char c (suc n) h e = absurd cc
  none-above base.Int c zero h e = absurd cc
  none-above base.Int c (suc n) h e = absurd cc
  none-above base.Long c zero h e = absurd cc
  none-above base.Long c (suc n) h e = absurd cc
  none-above base.Bool c n h e = absurd cc
  none-above base.Null c n h e = absurd cc
  none-above base.Void c n h e = absurd cc
  none-above (base.Class d) c n h e = absurd cc

  pub number-agrees : (b : Base) (t : Ty) → is_number (of b) ≡ true → agrees p (of b) t ≡ true → t ≡ of b
  unfolding types.is_subtype
  number-agrees b t h e = sym (same_type-equal (of b) t (either _ (is_primitive (of b) && types.same_type (of b) t) (types.are_below p b 0 t.base t.dims) e
      (λ k. (two {a = is_primitive (of b)} k).1) (λ k. absurd (none-above b t.base t.dims h k))))

pub numeric-type : (heads : List ClassHead) (s : SourceType) → is_numeric s ≡ true → is_number (erased heads s) ≡ true
numeric-type heads (plain b zero) e = ap is_number (erased-plain heads b) ∙ e
numeric-type heads (plain b (suc n)) e = absurd cc
numeric-type heads (of_class c ts n) e = absurd cc
numeric-type heads (of_variable c at n) e = absurd cc

pub boolean-erased : (heads : List ClassHead) (s : SourceType) → is_boolean s ≡ true → types.same_type (erased heads s) bool ≡ true
boolean-erased heads (plain base.Bool zero) e = ap (λ (u : Ty). types.same_type u bool) (erased-plain heads base.Bool)
boolean-erased heads (plain base.Byte zero) e = absurd cc
boolean-erased heads (plain base.Short zero) e = absurd cc
boolean-erased heads (plain base.Char zero) e = absurd cc
boolean-erased heads (plain base.Int zero) e = absurd cc
boolean-erased heads (plain base.Long zero) e = absurd cc
boolean-erased heads (plain base.Null zero) e = absurd cc
boolean-erased heads (plain base.Void zero) e = absurd cc
boolean-erased heads (plain (base.Class c) zero) e = absurd cc
boolean-erased heads (plain b (suc n)) e = absurd cc
boolean-erased heads (of_class c ts n) e = absurd cc
boolean-erased heads (of_variable c at n) e = absurd cc

-- ---- which operands an update takes

numbers-change : (heads : List ClassHead) (s t : SourceType) → are_numeric s t ≡ true → (is_number (erased heads s) && is_number (erased heads t)) ≡ true
numbers-change heads s t h = let k = two {a = is_numeric s} h in both (numeric-type heads s k.0) (numeric-type heads t k.1)

changes : (heads : List ClassHead) (sort : core_ops.Sort) (s t : SourceType) → combines sort s t ≡ true → core_ops.changes sort (erased heads s) (erased heads t) ≡ true
changes heads core_ops.arithmetic s t h = numbers-change heads s t h
changes heads core_ops.shift s t h = numbers-change heads s t h
changes heads core_ops.bitwise s t h = either _ (are_numeric s t) (is_boolean s && is_boolean t) h
    (λ k. or-left (is_number (erased heads s) && is_number (erased heads t)) (core_ops.both_bool (erased heads s) (erased heads t)) (numbers-change heads s t k))
    (λ k. let m = two {a = is_boolean s} k in or-right (is_number (erased heads s) && is_number (erased heads t)) (core_ops.both_bool (erased heads s) (erased heads t)) (both (boolean-erased heads s m.0) (boolean-erased heads t m.1)))
changes heads core_ops.comparison s t h = absurd cc
changes heads core_ops.equality s t h = absurd cc

appended : (heads : List ClassHead) → BoundsFit heads → (o : BinOp) (s t : SourceType) → appends o s t ≡ true
    → (core_ops.is_addition o && types.same_type (erased heads s) string && not (is_void_type (erased heads t))) ≡ true
appended heads bounds op.Add s t h = let k = two {a = is_string s} h in both (string-typed heads s k.0) (is_not (erased-not-void heads bounds t (is_false k.1)))
appended heads bounds op.Sub s t h = absurd cc
appended heads bounds op.Mul s t h = absurd cc
appended heads bounds op.Div s t h = absurd cc
appended heads bounds op.Rem s t h = absurd cc
appended heads bounds op.Shl s t h = absurd cc
appended heads bounds op.Shr s t h = absurd cc
appended heads bounds op.Ushr s t h = absurd cc
appended heads bounds op.Lt s t h = absurd cc
appended heads bounds op.Gt s t h = absurd cc
appended heads bounds op.Le s t h = absurd cc
appended heads bounds op.Ge s t h = absurd cc
appended heads bounds op.Eq s t h = absurd cc
appended heads bounds op.Ne s t h = absurd cc
appended heads bounds op.BitAnd s t h = absurd cc
appended heads bounds op.BitXor s t h = absurd cc
appended heads bounds op.BitOr s t h = absurd cc

pub updated : (heads : List ClassHead) → BoundsFit heads → (o : BinOp) (s t : SourceType) → updates o s t ≡ true → core_ops.updates o (erased heads s) (erased heads t) ≡ true
updated heads bounds o s t h = either _ (combines (core_ops.sort_of o) s t) (appends o s t) h
    (λ k. or-left (core_ops.changes (core_ops.sort_of o) (erased heads s) (erased heads t)) _ (changes heads (core_ops.sort_of o) s t k))
    (λ k. or-right (core_ops.changes (core_ops.sort_of o) (erased heads s) (erased heads t)) _ (appended heads bounds o s t k))

module _ (p : CoreProgram) (body : Body) (heads : List ClassHead) where
  -- the constant strings of a program say nothing of its variables
  pub with-place : (texts : List (List ℕ)) (form : CoreForm) → IsPlace p body form → IsPlace (with_texts p texts) body form
  with-place texts _ fits.a_local = fits.a_local
  with-place texts _ fits.an_element = fits.an_element
  with-place texts _ (fits.a_field there blank) = fits.a_field there blank
  with-place texts _ (fits.an_own_field this builds) = fits.an_own_field this builds
  with-place texts _ (fits.a_static there blank) = fits.a_static there blank
  with-place texts _ (fits.an_own_static starts) = fits.an_own_static starts

  behind-place : {A : Type 0} (P : A → Type 0) (span : Span) (t : TypedNode) (a : A) → P a → Gives P (bind (place span t) (λ u. gives a))
  unfolding bind place check
  behind-place P span t a h = by (is_place (form_of t.node))
    where
      by : (x : Bool) → Gives P (bind (check BadTarget span x) (λ u. gives a))
      by true = h
      by false = tt

  -- ---- JLS 15.26.1

  module _ (at left_span right_span span : Span) (left right : TypedNode) (known : HasHeads p heads) (m : dims_of left.type ≤ 255) (n : dims_of right.type ≤ 255)
      (is : IsPlace p body (form_of left.node)) (l : FitsAsVariable p body heads left) (r : FitsAs p body heads right) where
    pub assign-fits : (v : Core) → PassesAs p body heads left.type v → FitsAs p body heads (assign_node heads at span left v)
    assign-fits v passes = record {
      node = λ texts h. let sides = two {a = every (stands_once texts) left.node} (two {a = true} h).1 in
          fits.assign (whole left.node) (l.node texts sides.0) (with-place texts (form_of left.node) is) (passes.node texts sides.1) (passes.agree texts) (l.takes texts);
      uses = no-uses p body heads;
      type = refl;
    }

    assignment-gives : Gives (FitsAs p body heads) (assignment heads at left_span right_span span left right)
    unfolding assignment bind
    assignment-gives = by (assigned heads left.type right_span right) (assigned_values_pass p body heads left.type right_span right known n m r)
      where
        by : (j : Judged Core) → Gives (PassesAs p body heads left.type) j → Gives (FitsAs p body heads) (bind j (λ v. bind (place left_span left) (λ u. gives (assign_node heads at span left v))))
        by (faulty fault) h = tt
        by (gives v) h = behind-place (FitsAs p body heads) left_span left (assign_node heads at span left v) (assign-fits v h)

  -- ---- JLS 15.26.2

  module _ (o : BinOp) (at left_span span : Span) (left right : TypedNode) (bounds : BoundsFit heads) (is : IsPlace p body (form_of left.node)) (l : FitsAsVariable p body heads left) (r : FitsAs p body heads right) where
    update-fits : updates o left.type right.type ≡ true → FitsAs p body heads (update_node heads o at span left right.node)
    update-fits e = record {
      node = λ texts h. let sides = two {a = every (stands_once texts) left.node} (two {a = true} h).1 in
          fits.update (whole left.node) (l.node texts sides.0) (with-place texts (form_of left.node) is) (l.takes texts) (r.node texts sides.1) taken;
      uses = no-uses p body heads;
      type = refl;
    }
      where
        taken : core_ops.updates o (erased heads left.type) (ty_of right.node) ≡ true
        taken = ap (core_ops.updates o (erased heads left.type)) r.type ∙ updated heads bounds o left.type right.type e

    update-gives : Gives (FitsAs p body heads) (update heads o at left_span span left right)
    unfolding update bind check
    update-gives = by (updates o left.type right.type) refl
      where
        by : (x : Bool) → updates o left.type right.type ≡ x → Gives (FitsAs p body heads) (bind (check BadOperand at x) (λ u. bind (place left_span left) (λ v. gives (update_node heads o at span left right.node))))
        by false e = tt
        by true e = behind-place (FitsAs p body heads) left_span left (update_node heads o at span left right.node) (update-fits e)

  -- ---- `++` and `--`

  -- a variable of a numeric type is declared of that type
  numeric-same : (s : SourceType) (t : Ty) → is_numeric s ≡ true → agrees (with_texts p []) (erased heads s) t ≡ true → t ≡ erased heads s
  numeric-same (plain b zero) t h e = number-agrees (with_texts p []) b t h (ap (λ (u : Ty). agrees (with_texts p []) u t) (sym (erased-plain heads b)) ∙ e) ∙ sym (erased-plain heads b)
  numeric-same (plain b (suc n)) t h e = absurd cc
  numeric-same (of_class c ts n) t h e = absurd cc
  numeric-same (of_variable c at n) t h e = absurd cc

  module _ (o : BinOp) (old : Bool) (at operand_span span : Span) (operand : TypedNode) (step : core_ops.is_step o ≡ true) (is : IsPlace p body (form_of operand.node)) (fit : FitsAsVariable p body heads operand) where
    step-fits : is_numeric operand.type ≡ true → FitsAs p body heads (step_node o old at span operand)
    step-fits e = record {
      node = λ texts h. fits.step (whole operand.node) (fit.node texts (two {a = every (stands_once texts) operand.node} (two {a = true} h).1).0) (with-place texts (form_of operand.node) is)
          (ap (λ (u : Ty). agrees (with_texts p texts) u (ty_of operand.node)) same ∙ fit.takes texts) (ap is_number same ∙ numeric-type heads operand.type e) step;
      uses = no-uses p body heads;
      type = same;
    }
      where
        same : ty_of operand.node ≡ erased heads operand.type
        same = numeric-same operand.type (ty_of operand.node) e (fit.takes [])

    step-gives : Gives (FitsAs p body heads) (stepped o old at operand_span span operand)
    unfolding stepped bind check
    step-gives = by (is_numeric operand.type) refl
      where
        by : (x : Bool) → is_numeric operand.type ≡ x → Gives (FitsAs p body heads) (bind (check BadOperand at x) (λ u. bind (place operand_span operand) (λ v. gives (step_node o old at span operand))))
        by false e = tt
        by true e = behind-place (FitsAs p body heads) operand_span operand (step_node o old at span operand) (step-fits e)

pub assignments_fit : (p : CoreProgram) (body : Body) (heads : List ClassHead) → AssignmentsFit p body heads
assignments_fit p body heads at left_span right_span span left right known m n is l r = assignment-gives p body heads at left_span right_span span left right known m n is l r

pub updates_fit : (p : CoreProgram) (body : Body) (heads : List ClassHead) → UpdatesFit p body heads
updates_fit p body heads o at left_span span left right bounds is l r = update-gives p body heads o at left_span span left right bounds is l r

pub steps_fit : (p : CoreProgram) (body : Body) (heads : List ClassHead) → StepsFit p body heads
steps_fit p body heads o old at operand_span span operand step is fit = step-gives p body heads o old at operand_span span operand step is fit
