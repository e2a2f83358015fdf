-- The walk over an expression gives what fits.
use Rattle.std.proofs.Common.{◌≡◌, ℕ, ℤ, pos, negsuc, zero, suc, ◌+◌, ◌<◌, ◌≤◌, List, ◌∷◌, length, Option, Some, None, refl, sym, ap, ◌∙◌, subst, inl, inr, arith, min}
use Rattle.std.specs.Prelude.{Bool, true, false, not, if◌then◌else◌, nat_le, unwrap_or}
use Rattle.std.proofs.lemmas.Bool.Decides.{nat_tests}
use Rattle.std.proofs.lemmas.Option.{none-some}
use Rattle.je_base.specs.declared.span.Span.{Span}
use Rattle.je_core.specs.declared.types.Base.TheVariants as base
use Rattle.je_core.specs.declared.expr.BinOp.{BinOp}
use Rattle.je_core.specs.declared.expr.BinOp.TheVariants.{Add, Sub}
use Rattle.je_core.specs.declared.expr.UnOp.TheVariants as unary_op
use Rattle.je_core.specs.Core.{Core, CoreProgram, form_of}
use Rattle.je_ast.specs.declared.expr.Literal.{Literal}
use Rattle.je_ast.specs.declared.expr.Literal.TheVariants as literal
use Rattle.je_ast.specs.declared.name.Identifier.{Identifier}
use Rattle.je_ast.specs.declared.operator.BinaryOp.{BinaryOp}
use Rattle.je_ast.specs.declared.operator.PrefixOp.{PrefixOp}
use Rattle.je_ast.specs.declared.operator.PrefixOp.TheVariants as prefix_op
use Rattle.je_ast.specs.declared.operator.PostfixOp.{PostfixOp}
use Rattle.je_ast.specs.declared.operator.PostfixOp.TheVariants as postfix_op
use Rattle.je_ast.specs.declared.ty_name.Primitive.{Primitive}
use Rattle.je_ast.specs.declared.ty_name.Primitive.TheVariants as primitive_word
use Rattle.je_ast.specs.Spans as written
use Rattle.je_ast.specs.Trees.{Expression, Expressions}
use Rattle.je_ast.specs.Trees as tree
use Rattle.je_ast.specs.Types.{QualifiedName, TypeName, primitive, class_type}
use Rattle.je_classes.proofs.Lists.{bool_cases}
use Rattle.je_classes.proofs.Sets.{by_either}
use Rattle.je_fitting.specs.Expressions.{Body, IsPlace}
use Rattle.je_fitting.specs.Operators as core_ops
use Rattle.je_fitting.proofs.Booleans.{is_false, two}
use Rattle.je_scopes.specs.Looks.{Look}
use Rattle.je_scopes.specs.Looks as look
use Rattle.je_scopes.specs.SourceTypes.{SourceType, base_of, no_source_types, of_class, of_variable, plain, with_dims}
use Rattle.source_types.specs.Subtypes.{dims_of}
use Rattle.header_typing.specs.WrittenTypes as types
use Rattle.je_typing.specs.declared.fault.TypeRule.TheVariants.{BadArray, BadIndex, BadTarget, FinalAssign, NotAccessible, UnknownName, VoidValue}
use Rattle.je_typing.specs.Arrays.{Part, array_of, array_type, element, elements_if, elements_node, int_index, may_be_made, new_array}
use Rattle.je_typing.specs.Assignments.{is_place, stepped}
use Rattle.je_typing.specs.Casts.{is_reifiable}
use Rattle.je_typing.specs.Conversions.{span_of, token_of}
use Rattle.je_typing.specs.Judged.{Judged, bind, check, faulty, gives}
use Rattle.je_typing.specs.Constants.{folded_unary}
use Rattle.je_typing.specs.Literals.{int_value, is_number, literal_of, long_value, negative_int, negative_long}
use Rattle.je_typing.specs.Operators.{plus, unary}
use Rattle.je_typing.specs.Typed.{TypedNode, element_type, is_primitive_base, is_void}
use Rattle.name_typing.specs.Accesses.{super_field}
use Rattle.name_typing.specs.Instances.{this}
use Rattle.name_typing.specs.Program.{Program}
use Rattle.name_typing.specs.Qualified.{Qualifier, a_value, assigned_select, select_before}
use Rattle.body_types.specs.BodyTypes.{bare_type, body_type, is_type, look_at, may_be_named, type_at, type_of_look}
use Rattle.call_typing.specs.Calls.{call_on, receiver, simple_call, super_call, used}
use Rattle.call_typing.specs.Creations.{anonymous_creation, creation}
use Rattle.body_typing.specs.Expressions.{Known, Purpose, anonymous_at, anonymous_type, array_over, assign_step, assigned, assigned_by, before, class_of_look, class_or_zero, element_or, elements_for, elements_in, expression, initial, innermost, is_variable, may_be_target, name_span, named_before, negative_literal, one_more, or_else, outer, part, parts, prefix_purpose, prefixed, read, selected, simple, step, step_of, taken_for, target_purpose, updated, value, values}
use Rattle.body_typing.specs.FinalVariables.{Scope, may_be_assigned, not_final}
use Rattle.typing_laws.specs.Fitting.{Gives}
use Rattle.je_fitting.specs.Types.{agrees, of}
use Rattle.source_types.specs.Erasure.{erased}
use Rattle.typing_laws.proofs.Elements.{elements_fit}
use Rattle.typing_laws.proofs.Literals.{int-typed, long-typed}
use Rattle.typing_laws.proofs.Values.{HasType, unary-typed}
use Rattle.fitting_laws.specs.ArraysMade.{PartsFit}
use Rattle.fitting_laws.specs.Calls.{ArgumentsFit, ReceiverFits}
use Rattle.fitting_laws.specs.Methods.{HasMethods}
use Rattle.fitting_laws.specs.Names.{IsTarget, IsVariable, QualifierFits, ScopeStands, value_fits}
use Rattle.fitting_laws.specs.Represented.{IsThere, NameIsReached, Represents}
use Rattle.fitting_laws.specs.Sound.{IsSound, IsType, a_type, no_arguments, of_null, of_void, sound_class, sound_primitive, sound_variable}
use Rattle.fitting_laws.specs.Values.{FitsBelow, IsValue}
use Rattle.fitting_laws.specs.Walk.{AllStand, Comes, ExpressionsFit, PurposeStands, Stands, count}
use Rattle.fitting_laws.proofs.ArraysMade.{Each, EachValue, arrays_with_fit, element-sound, elements-if-fit, elements-node-fits, more_parts, new_arrays_fit, no_parts}
use Rattle.fitting_laws.proofs.Calls.{calls_on_fit, receivers_fit, simple_calls_fit, super_calls_fit}
use Rattle.fitting_laws.proofs.Creations.{anonymous_creations_fit, creations_fit}
use Rattle.fitting_laws.proofs.Gives.{behind, behind-check, behind-given, behind-need, checked, weaker}
use Rattle.fitting_laws.proofs.Instances.{variable-there}
use Rattle.fitting_laws.proofs.Lists.{in-cases}
use Rattle.fitting_laws.proofs.Names.{assigned_names_fit, outer_this_fits, simple_names_fit, this_fits, updated_names_fit}
use Rattle.fitting_laws.proofs.Places.{below-target, value-target}
use Rattle.fitting_laws.proofs.Qualified.{assigned_selects_fit, names_before_fit, selects_before_fit, selects_fit, super_fields_fit}
use Rattle.fitting_laws.proofs.Sound.{type-dims}
use Rattle.fitting_laws.proofs.StepTypes.{binary-values, cast-values, choice-values, literal-values, number-values, plus-values, test-values, unary-values}
use Rattle.fitting_laws.proofs.Targets.{assigned-fits, compound-fits, is-above, stepped-fits, IsAbove}
use Rattle.fitting_laws.proofs.Taken.{taken-fits}

-- ---- what is written

negative-int-typed : (z : ℤ) → HasType (of base.Int) (negative_int z)
negative-int-typed z = bool_cases (λ b. HasType (of base.Int) (if b then Some (Rattle.je_core.specs.declared.value.Value.TheVariants.Int (negsuc 2147483647)) else folded_unary unary_op.Minus (int_value z))) (is_number (pos 2147483648) z)
    (λ _. refl) (λ _. unary-typed unary_op.Minus (of base.Int) (int_value z) (int-typed z))

negative-long-typed : (z : ℤ) → HasType (of base.Long) (negative_long z)
negative-long-typed z = bool_cases (λ b. HasType (of base.Long) (if b then Some (Rattle.je_core.specs.declared.value.Value.TheVariants.Long (negsuc 9223372036854775807)) else folded_unary unary_op.Minus (long_value z))) (is_number (pos 9223372036854775808) z)
    (λ _. refl) (λ _. unary-typed unary_op.Minus (of base.Long) (long_value z) (long-typed z))

primitive-word : (w : Primitive) → is_primitive_base (base_of w) ≡ true
primitive-word primitive_word.Boolean = refl
primitive-word primitive_word.Byte = refl
primitive-word primitive_word.Short = refl
primitive-word primitive_word.Char = refl
primitive-word primitive_word.Int = refl
primitive-word primitive_word.Long = refl

module _ (p : Program) (k : Known) (q : CoreProgram) (body : Body) (s : Scope) (represents : Represents p q) (has : HasMethods p q) (stands : ScopeStands p q body k.is_blank s) where
  abbrev pub Value : TypedNode → Type 0
  Value t = IsValue q body p.heads t

  abbrev Target : TypedNode → Type 0
  Target t = IsTarget p q body k.is_blank s t

  abbrev Sound : SourceType → Type 0
  Sound t = IsSound q p.heads 255 t

  -- ---- types without arguments

  look-sound : (l : Look) (dims : ℕ) → is_type p s.place.here l ≡ true → dims ≤ 255 → ((c : ℕ) → l ≡ look.a_class c → IsThere q c) → Sound (type_of_look p s.place.here l no_source_types dims)
  look-sound (look.a_class c) dims h few there = sound_class (there c refl) few no_arguments
  look-sound (look.a_variable c at) dims h few there = sound_variable (variable-there q p.heads represents.heads represents.sound c at) few
  look-sound look.nothing dims h few there = absurd cc
  look-sound look.waits dims h few there = absurd cc
  look-sound look.unclear dims h few there = absurd cc

  in-limit : (n : ℕ) → types.is_in_limit n ≡ true → n ≤ 255
  in-limit n h = let e : nat_le n 255 ≡ true = h in grind (arith, nat_tests)

  pub bare-sound : (t : TypeName) → Gives Sound (bare_type p s.place.here t)
  unfolding bare_type
  bare-sound (primitive w dims span) = behind-check Sound BadArray span (types.is_in_limit dims) _ (λ h. sound_primitive (primitive-word w) (in-limit dims h))
  bare-sound (class_type n args dims span) = behind-check Sound UnknownName n.span (is_type p s.place.here (look_at p s.place.here n.parts)) _ (λ h.
      behind-check Sound NotAccessible n.span (may_be_named p s.place.here n.parts) _ (λ g.
      behind-check Sound BadArray span (types.is_in_limit dims) (gives (type_at p s.place.here n no_source_types dims)) (λ f.
      look-sound (look_at p s.place.here n.parts) dims h (in-limit dims f) (λ c e. stands.place.written n.parts c e))))

  innermost-sound : (t : SourceType) → Sound t → Sound (innermost t)
  innermost-sound _ (sound_primitive h few) = sound_primitive h (omega arith)
  innermost-sound _ (sound_class h few args) = sound_class h (omega arith) args
  innermost-sound _ (sound_variable h few) = sound_variable h (omega arith)

  innermost-flat : (t : SourceType) → dims_of (innermost t) ≡ 0
  innermost-flat (plain b n) = refl
  innermost-flat (of_class c ts n) = refl
  innermost-flat (of_variable c at n) = refl

  over-sound : (t : SourceType) (n : ℕ) → Sound t → Sound (array_over t n)
  over-sound _ n (sound_primitive h few) = sound_primitive h (omega arith)
  over-sound _ n (sound_class h few args) = sound_class h (omega arith) args
  over-sound _ n (sound_variable h few) = sound_variable h (omega arith)

  element-or-sound : (t : SourceType) → Sound t → Sound (element_or t)
  element-or-sound t h = by (element_type t) refl
    where
      by : (o : Option SourceType) → element_type t ≡ o → Sound (unwrap_or o t)
      by None e = h
      by (Some u) e = element-sound q body p.heads represents.heads t u h e

  -- ---- values that are used

  not-void : (P : TypedNode → Type 0) (j : Judged TypedNode) → Gives P j → Gives (λ t. P t × (is_void t.type ≡ false)) (value j)
  unfolding used
  not-void P j h = behind P (λ t. P t × (is_void t.type ≡ false)) j used h (λ t g. behind-check (λ u. P u × (is_void u.type ≡ false)) VoidValue (span_of t.node) (not (is_void t.type)) (gives t) (λ e. (g, is_false e)))

  abbrev pub Used : TypedNode → Type 0
  Used t = Value t × (is_void t.type ≡ false)

  pub used-value : (j : Judged TypedNode) → Gives Value j → Gives Used (value j)
  used-value j h = not-void Value j h

  -- ---- what an expression is for

  comes-value : (purpose : Purpose) (t : TypedNode) → Value t → Comes p k q body s purpose t
  comes-value read t v = v
  comes-value (initial u) t v = v
  comes-value assigned t v = value-target p q body k.is_blank s represents stands t v
  comes-value updated t v = value-target p q body k.is_blank s represents stands t v

  all-come : (purpose : Purpose) (j : Judged TypedNode) → Gives Value j → Gives (Comes p k q body s purpose) j
  all-come purpose j h = weaker Value (Comes p k q body s purpose) j h (λ t v. comes-value purpose t v)

  variable-target : (t : TypedNode) → IsVariable p q body t → Target t
  variable-target t (inl v) = value-target p q body k.is_blank s represents stands t v
  variable-target t (inr f) = below-target p q body k.is_blank s represents stands t f

  simple-comes : (purpose : Purpose) (id : Identifier) → NameIsReached p q body s.place id.name → Gives (Comes p k q body s purpose) (simple p k s purpose id)
  simple-comes read id h = simple_names_fit p q body s.place id represents stands.place h
  simple-comes (initial t) id h = simple_names_fit p q body s.place id represents stands.place h
  simple-comes assigned id h = assigned_names_fit p q body k.is_blank s id represents stands h
  simple-comes updated id h = updated_names_fit p q body k.is_blank s id represents stands h

  selected-comes : (purpose : Purpose) (id : Identifier) (span : Span) (x : Qualifier) → QualifierFits p q body x → Gives (Comes p k q body s purpose) (selected p k s purpose id span x)
  selected-comes read id span x h = selects_fit p q body s.place id span x represents h
  selected-comes (initial t) id span x h = selects_fit p q body s.place id span x represents h
  selected-comes assigned id span x h = weaker (IsVariable p q body) Target (assigned_select p s.place id span x) (assigned_selects_fit p q body s.place id span x represents h) variable-target
  selected-comes updated id span x h = weaker (IsVariable p q body) Target (assigned_select p s.place id span x) (assigned_selects_fit p q body s.place id span x represents h) variable-target

  super-comes : (purpose : Purpose) (t : TypedNode) → FitsBelow q body p.heads t → Comes p k q body s purpose (taken_for p k s purpose t)
  super-comes read t f = taken-fits q body p.heads represents.heads t f
  super-comes (initial u) t f = taken-fits q body p.heads represents.heads t f
  super-comes assigned t f = below-target p q body k.is_blank s represents stands t f
  super-comes updated t f = below-target p q body k.is_blank s represents stands t f

  -- ---- what stands before a point

  data BeforeFits : Option (Judged Qualifier) → Type 0 where
    none_before : BeforeFits None
    one_before : {j : Judged Qualifier} → Gives (QualifierFits p q body) j → BeforeFits (Some j)

  one-more-before : (id : Identifier) (span : Span) (o : Option (Judged Qualifier)) → BeforeFits o → BeforeFits (one_more p k s id span o)
  one-more-before id span _ none_before = none_before
  one-more-before id span _ (one_before {j = j} h) = one_before (behind (QualifierFits p q body) (QualifierFits p q body) j (λ x. select_before p s.place id span x) h (λ x f. selects_before_fit p q body s.place id span x represents f))

  named-fits : (e : Expression) → Stands p k q body s e → BeforeFits (named_before p k s e)
  named-fits (tree.name id) h = one_before (names_before_fit p q body s.place id represents stands.place h)
  named-fits (tree.select e id span) h = one-more-before id span (named_before p k s e) (named-fits e h)
  named-fits (tree.literal l span) h = none_before
  named-fits (tree.this span) h = none_before
  named-fits (tree.outer_this n w span) h = none_before
  named-fits (tree.parens e span) h = none_before
  named-fits (tree.super_select w id span) h = none_before
  named-fits (tree.call id es span) h = none_before
  named-fits (tree.call_on e id es span) h = none_before
  named-fits (tree.super_call w id es span) h = none_before
  named-fits (tree.index e i span) h = none_before
  named-fits (tree.new_object w t es span) h = none_before
  named-fits (tree.new_anonymous w t es inner span) h = none_before
  named-fits (tree.new_array t es dims span) h = none_before
  named-fits (tree.new_array_of t dims e span) h = none_before
  named-fits (tree.array_init es span) h = none_before
  named-fits (tree.cast t e span) h = none_before
  named-fits (tree.prefix o at e span) h = none_before
  named-fits (tree.postfix o at e span) h = none_before
  named-fits (tree.binary o at e f span) h = none_before
  named-fits (tree.instance_of at e t span) h = none_before
  named-fits (tree.conditional at c e f span) h = none_before
  named-fits (tree.assign o at e f span) h = none_before

  before-fits : (o : Option (Judged Qualifier)) (j : Judged TypedNode) → BeforeFits o → Gives Value j → Gives (QualifierFits p q body) (before p k s o j)
  before-fits _ j (one_before h) g = h
  before-fits _ j none_before g = behind (λ t. Value t × (is_void t.type ≡ false)) (QualifierFits p q body) (value j) (λ t. gives (a_value t)) (used-value j g) (λ t v. value_fits v.0)

  -- ---- literals behind a minus

  negative-values : (l : Literal) (own span : Span) (j : Judged TypedNode) → Gives Value j → Gives Value (or_else (negative_literal prefix_op.Minus (tree.literal l own) span) j)
  negative-values (literal.Int z) own span j h = number-values q body p.heads represents.heads represents.string base.Int (negative_int z) own span refl (negative-int-typed z)
  negative-values (literal.Long z) own span j h = number-values q body p.heads represents.heads represents.string base.Long (negative_long z) own span refl (negative-long-typed z)
  negative-values (literal.Char z) own span j h = h
  negative-values (literal.Text units) own span j h = h
  negative-values (literal.Bool b) own span j h = h
  negative-values literal.Null own span j h = h

  behind-minus : (e : Expression) (span : Span) (j : Judged TypedNode) → Gives Value j → Gives Value (or_else (negative_literal prefix_op.Minus e span) j)
  behind-minus (tree.literal l own) span j h = negative-values l own span j h
  behind-minus (tree.name id) span j h = h
  behind-minus (tree.select e id own) span j h = h
  behind-minus (tree.this own) span j h = h
  behind-minus (tree.outer_this n w own) span j h = h
  behind-minus (tree.parens e own) span j h = h
  behind-minus (tree.super_select w id own) span j h = h
  behind-minus (tree.call id es own) span j h = h
  behind-minus (tree.call_on e id es own) span j h = h
  behind-minus (tree.super_call w id es own) span j h = h
  behind-minus (tree.index e i own) span j h = h
  behind-minus (tree.new_object w t es own) span j h = h
  behind-minus (tree.new_anonymous w t es inner own) span j h = h
  behind-minus (tree.new_array t es dims own) span j h = h
  behind-minus (tree.new_array_of t dims e own) span j h = h
  behind-minus (tree.array_init es own) span j h = h
  behind-minus (tree.cast t e own) span j h = h
  behind-minus (tree.prefix o at e own) span j h = h
  behind-minus (tree.postfix o at e own) span j h = h
  behind-minus (tree.binary o at e f own) span j h = h
  behind-minus (tree.instance_of at e t own) span j h = h
  behind-minus (tree.conditional at c e f own) span j h = h
  behind-minus (tree.assign o at e f own) span j h = h

  behind-prefix : (o : PrefixOp) (e : Expression) (span : Span) (j : Judged TypedNode) → Gives Value j → Gives Value (or_else (negative_literal o e span) j)
  behind-prefix prefix_op.Minus e span j h = behind-minus e span j h
  behind-prefix prefix_op.Plus e span j h = h
  behind-prefix prefix_op.Not e span j h = h
  behind-prefix prefix_op.Tilde e span j h = h
  behind-prefix prefix_op.Increment e span j h = h
  behind-prefix prefix_op.Decrement e span j h = h

  -- ---- what is assigned

  any : {A : Type 0} (j : Judged A) → Gives (λ a. Unit {0}) j
  any (gives a) = tt
  any (faulty fault) = tt

  assigned-by : (span : Span) (variable : Bool) (target : TypedNode) (j : Judged TypedNode) → (may_be_assigned p k.is_blank s (form_of target.node) ≡ true → Gives Value j) → Gives Value (assigned_by p k s span variable target j)
  unfolding may_be_target not_final
  assigned-by span variable target j h = bool_cases (λ b. may_be_assigned p k.is_blank s (form_of target.node) ≡ b → Gives Value (assigned_by p k s span variable target j)) (may_be_assigned p k.is_blank s (form_of target.node))
      (λ _ e. behind Value Value j _ (h e) (λ t v. judged t (λ _. v)))
      (λ _ e. behind (λ t. Unit {0}) Value j _ (any j) (λ t _. judged t (λ g. absurd (let none : true ≡ false = sym g ∙ e in cc)))) refl
    where
      not-final : Gives (λ u. may_be_assigned p k.is_blank s (form_of target.node) ≡ true) (not_final p k.is_blank s target)
      not-final = checked FinalAssign (token_of target.node) (may_be_assigned p k.is_blank s (form_of target.node))

      judged : (t : TypedNode) → (may_be_assigned p k.is_blank s (form_of target.node) ≡ true → Value t) → Gives Value (bind (may_be_target p k s span variable target) (λ u. gives t))
      judged t v = behind (λ u. may_be_assigned p k.is_blank s (form_of target.node) ≡ true) Value (may_be_target p k s span variable target) (λ u. gives t)
          (behind-check (λ u. may_be_assigned p k.is_blank s (form_of target.node) ≡ true) BadTarget span variable (not_final p k.is_blank s target) (λ _. not-final)) (λ u. v)

  above : (t : TypedNode) → Target t → may_be_assigned p k.is_blank s (form_of t.node) ≡ true → is_place (form_of t.node) ≡ true → IsAbove q body p.heads represents.heads represents.top t × IsPlace q body (form_of t.node)
  above t h m e = let r = h m e in (is-above q body p.heads represents.heads represents.top t r.0, r.1)

  stepped-by : (o : BinOp) (old : Bool) (at operand_span : Span) (variable : Bool) (span : Span) (t : TypedNode) → core_ops.is_step o ≡ true → Target t × (is_void t.type ≡ false) → Gives Value (step p k s o old at operand_span variable span t)
  stepped-by o old at operand_span variable span t is h =
      assigned-by operand_span variable t (stepped o old at operand_span span t) (λ m. stepped-fits q body p.heads represents.heads represents.top o old at operand_span span t is h.1 (above t h.0 m))

  abbrev Assigned : TypedNode → Type 0
  Assigned t = Target t × (is_void t.type ≡ false)

  prefix-steps : (o : PrefixOp) (at operand_span : Span) (variable : Bool) (span : Span) (j : Judged TypedNode) → Gives (Comes p k q body s (prefix_purpose o)) j → Gives Value (prefixed p k s o at operand_span variable span j)
  prefix-steps prefix_op.Plus at operand_span variable span j h = behind Used Value (value j) _ (used-value j h) (λ t v. plus-values q body p.heads represents.heads represents.string at span t v.0)
  prefix-steps prefix_op.Minus at operand_span variable span j h = behind Used Value (value j) _ (used-value j h) (λ t v. unary-values q body p.heads represents.heads represents.string unary_op.Minus at span t v.0)
  prefix-steps prefix_op.Not at operand_span variable span j h = behind Used Value (value j) _ (used-value j h) (λ t v. unary-values q body p.heads represents.heads represents.string unary_op.Not at span t v.0)
  prefix-steps prefix_op.Tilde at operand_span variable span j h = behind Used Value (value j) _ (used-value j h) (λ t v. unary-values q body p.heads represents.heads represents.string unary_op.Tilde at span t v.0)
  prefix-steps prefix_op.Increment at operand_span variable span j h = behind Assigned Value (value j) _ (not-void Target j h) (λ t v. stepped-by Add false at operand_span variable span t refl v)
  prefix-steps prefix_op.Decrement at operand_span variable span j h = behind Assigned Value (value j) _ (not-void Target j h) (λ t v. stepped-by Sub false at operand_span variable span t refl v)

  postfix-steps : (o : PostfixOp) (at operand_span : Span) (variable : Bool) (span : Span) (j : Judged TypedNode) → Gives Target j → Gives Value (bind (value j) (λ t. step p k s (step_of o) true at operand_span variable span t))
  postfix-steps postfix_op.Increment at operand_span variable span j h = behind Assigned Value (value j) _ (not-void Target j h) (λ t v. stepped-by Add true at operand_span variable span t refl v)
  postfix-steps postfix_op.Decrement at operand_span variable span j h = behind Assigned Value (value j) _ (not-void Target j h) (λ t v. stepped-by Sub true at operand_span variable span t refl v)

  assign-steps : (o : Option BinaryOp) (at left_span right_span : Span) (variable : Bool) (span : Span) (left right : TypedNode) → Assigned left → Value right
      → Gives Value (assigned_by p k s left_span variable left (assign_step p k s o at left_span right_span span left right))
  assign-steps None at left_span right_span variable span left right h v = assigned-by left_span variable left _ (λ m. assigned-fits q body p.heads represents.heads represents.top at left_span right_span span left right h.1 v (above left h.0 m))
  assign-steps (Some o) at left_span right_span variable span left right h v = assigned-by left_span variable left _ (λ m. compound-fits q body p.heads represents.heads represents.top at left_span span left right o h.1 v (above left h.0 m))

  -- ---- elements of arrays

  elements-typed : (array_span index_span span : Span) (array index : TypedNode) → Value array → Gives (λ t. IsType q p.heads t.type) (element p.heads array_span index_span span array index)
  unfolding element
  elements-typed array_span index_span span array index v = behind-need (λ t. IsType q p.heads t.type) BadIndex array_span (element_type array.type) _
      (λ t e. behind (λ n. Unit {0}) (λ u. IsType q p.heads u.type) (int_index index_span index) _ (any (int_index index_span index)) (λ n h. by array.type v.type t e))
    where
      by : (u : SourceType) → IsType q p.heads u → (t : SourceType) → element_type u ≡ Some t → IsType q p.heads t
      by u (a_type h) t e = a_type (element-sound q body p.heads represents.heads u t h e)
      by _ of_null t e = absurd (none-some t e)
      by _ of_void t e = absurd (none-some t e)

  element-values : (array_span index_span span : Span) (array index : TypedNode) → Value array → Value index → Gives Value (element p.heads array_span index_span span array index)
  element-values array_span index_span span array index v w = Rattle.fitting_laws.proofs.StepTypes.values q body p.heads represents.heads represents.string (element p.heads array_span index_span span array index)
      (elements_fit q body p.heads array_span index_span span array index represents.heads.bounds (type-dims q p.heads v.type) v.fits w.fits) (elements-typed array_span index_span span array index v)

  -- ---- arrays with elements

  limit-same : (n : ℕ) → nat_le n 255 ≡ true → min 255 n ≡ n
  limit-same n h = let few : n ≤ 255 = grind (arith, nat_tests) in omega (arith, few)

  dims-in : (t : SourceType) (n : ℕ) → 0 < n → (u : SourceType) × (element_type (with_dims (innermost t) n) ≡ Some u)
  dims-in (plain b m) zero h = absurd (omega (arith, h))
  dims-in (of_class c ts m) zero h = absurd (omega (arith, h))
  dims-in (of_variable c at m) zero h = absurd (omega (arith, h))
  dims-in (plain b m) (suc n) h = (plain b n, ap (λ (i : ℕ). element_type (plain b i)) (let z : 0 + suc n ≡ suc n = omega arith in z))
  dims-in (of_class c ts m) (suc n) h = (of_class c ts n, ap (λ (i : ℕ). element_type (of_class c ts i)) (let z : 0 + suc n ≡ suc n = omega arith in z))
  dims-in (of_variable c at m) (suc n) h = (of_variable c at n, ap (λ (i : ℕ). element_type (of_variable c at i)) (let z : 0 + suc n ≡ suc n = omega arith in z))

  array-with : (of : SourceType) (dims : ℕ) (at span : Span) (ps : List Part) → Sound of → 0 < dims → EachValue q body p.heads ps
      → Gives Value (bind (elements_if p.heads (element_type (array_over of dims)) ps) (λ given. bind (array_type p.heads (innermost of) dims at) (λ made. gives (elements_node p.heads made span given))))
  unfolding array_type
  array-with of dims at span ps sound some vs = behind _ Value (elements_if p.heads (element_type (array_over of dims)) ps) _
      (elements-if-fit q body p.heads represents.heads (array_over of dims) ps (over-sound of dims sound) vs (element_type (array_over of dims)) refl)
      (λ given h. behind-check-then given h)
    where
      made-value : (given : List Core) → ((e : SourceType) → element_type (array_over of dims) ≡ Some e → Each q body (λ t. agrees q t (erased p.heads e) ≡ true) given) → may_be_made p.heads (innermost of) dims ≡ true
          → Value (elements_node p.heads (with_dims (innermost of) dims) span given)
      made-value given h e =
          let same : min 255 dims ≡ dims = limit-same dims (two {a = is_reifiable p.heads (innermost of)} e).1 in
          let d = dims-in of dims some in
          let over : array_over of dims ≡ with_dims (innermost of) dims = ap (λ (n : ℕ). with_dims (innermost of) n) same in
          elements-node-fits q body p.heads represents.heads (with_dims (innermost of) dims) d.0 span given (subst Sound over (over-sound of dims sound)) d.1 (h d.0 (ap element_type over ∙ d.1))

      behind-check-then : (given : List Core) → ((e : SourceType) → element_type (array_over of dims) ≡ Some e → Each q body (λ t. agrees q t (erased p.heads e) ≡ true) given)
          → Gives Value (bind (bind (check BadArray at (may_be_made p.heads (innermost of) dims)) (λ u. gives (with_dims (innermost of) dims))) (λ made. gives (elements_node p.heads made span given)))
      behind-check-then given h = behind (λ made. (may_be_made p.heads (innermost of) dims ≡ true) × (made ≡ with_dims (innermost of) dims)) Value _ _
          (behind-check (λ made. (may_be_made p.heads (innermost of) dims ≡ true) × (made ≡ with_dims (innermost of) dims)) BadArray at (may_be_made p.heads (innermost of) dims) (gives (with_dims (innermost of) dims)) (λ e. (e, refl)))
          (λ made g. subst (λ (u : SourceType). Value (elements_node p.heads u span given)) (sym g.1) (made-value given h g.0))

  -- ---- lists of expressions

  arguments-more : (t : TypedNode) (ts : List TypedNode) → Value t → ArgumentsFit q body p.heads ts → ArgumentsFit q body p.heads (t ∷ ts)
  arguments-more t ts v vs u i = by_either (λ e. subst Value (sym e) v) (λ r. vs u r) (in-cases t u ts i)

  each-part : (ps : List Part) → EachValue q body p.heads ps → PartsFit q body p.heads ps
  each-part _ (more_parts {part = x} {parts = xs} v vs) u i = by_either (λ e. subst (λ (y : Part). Value y.value) (sym e) v) (λ r. each-part xs vs u r) (in-cases x u xs i)
  each-part _ no_parts u i = elim i [ ]

  counted : (m n : ℕ) → m ≡ n → suc m ≡ n + 1
  counted m n e = omega (arith, e)

  abbrev Lengths : Expressions → List Part → Type 0
  Lengths es ps = EachValue q body p.heads ps × (length ps ≡ count p k q body s es)

  target-comes : (o : Option BinaryOp) (j : Judged TypedNode) → Gives (Comes p k q body s (target_purpose o)) j → Gives Target j
  target-comes None j h = h
  target-comes (Some o) j h = h

  target-stands : (o : Option BinaryOp) → PurposeStands p k q body s (target_purpose o)
  target-stands None = tt
  target-stands (Some o) = tt

  prefix-stands : (o : PrefixOp) → PurposeStands p k q body s (prefix_purpose o)
  prefix-stands prefix_op.Increment = tt
  prefix-stands prefix_op.Decrement = tt
  prefix-stands prefix_op.Plus = tt
  prefix-stands prefix_op.Minus = tt
  prefix-stands prefix_op.Not = tt
  prefix-stands prefix_op.Tilde = tt

  outer-values : (n : QualifiedName) (w : Span) → Gives Value (outer p k s n w)
  outer-values n w = behind-need Value UnknownName n.span (class_of_look (look_at p s.place.here n.parts)) _ (λ c e. outer_this_fits p q body s.place c n.span w represents stands.place)

  mutual
    walk : (purpose : Purpose) (e : Expression) → PurposeStands p k q body s purpose → Stands p k q body s e → Gives (Comes p k q body s purpose) (expression p k s purpose e)
    walk purpose (tree.literal l span) w h = all-come purpose (literal_of l span) (literal-values q body p.heads represents.heads represents.string l span)
    walk purpose (tree.this span) w h = all-come purpose (this p s.place span) (this_fits p q body s.place span represents stands.place)
    walk purpose (tree.outer_this n word span) w h = all-come purpose (outer p k s n word) (outer-values n word)
    walk purpose (tree.parens e span) w h = weaker (λ t. Comes p k q body s purpose t × (is_void t.type ≡ false)) (Comes p k q body s purpose) (value (expression p k s purpose e)) (not-void (Comes p k q body s purpose) (expression p k s purpose e) (walk purpose e w h)) (λ t v. v.0)
    walk purpose (tree.name id) w h = simple-comes purpose id h
    walk purpose (tree.select e id span) w h = behind (QualifierFits p q body) (Comes p k q body s purpose) (before p k s (named_before p k s e) (expression p k s read e)) (λ x. selected p k s purpose id span x)
        (before-fits (named_before p k s e) (expression p k s read e) (named-fits e h) (walk read e tt h)) (λ x f. selected-comes purpose id span x f)
    walk purpose (tree.super_select word id span) w h = behind (FitsBelow q body p.heads) (Comes p k q body s purpose) (super_field p s.place word id span) (λ t. gives (taken_for p k s purpose t))
        (super_fields_fit p q body s.place word id span represents stands.place) (super-comes purpose)
    walk purpose (tree.call id es span) w h = all-come purpose (expression p k s purpose (tree.call id es span)) (behind (ArgumentsFit q body p.heads) Value (values p k s es) (λ args. simple_call p s.place id span args) (walk-values es h)
        (λ args vs. simple_calls_fit p q body s.place id span args represents has stands.place vs))
    walk purpose (tree.call_on e id es span) w h = all-come purpose (expression p k s purpose (tree.call_on e id es span))
        (behind (QualifierFits p q body) Value (before p k s (named_before p k s e) (expression p k s read e)) (λ x. bind (receiver x) (λ on. bind (values p k s es) (λ args. call_on p s.place id span args on)))
        (before-fits (named_before p k s e) (expression p k s read e) (named-fits e h.0) (walk read e tt h.0))
        (λ x f. behind (ReceiverFits p q body) Value (receiver x) (λ on. bind (values p k s es) (λ args. call_on p s.place id span args on)) (receivers_fit p q body x f)
        (λ on g. behind (ArgumentsFit q body p.heads) Value (values p k s es) (λ args. call_on p s.place id span args on) (walk-values es h.1)
        (λ args vs. calls_on_fit p q body s.place id span args on represents has vs g))))
    walk purpose (tree.super_call word id es span) w h = all-come purpose (expression p k s purpose (tree.super_call word id es span)) (behind (ArgumentsFit q body p.heads) Value (values p k s es) (λ args. super_call p s.place word id span args) (walk-values es h)
        (λ args vs. super_calls_fit p q body s.place word id span args represents has stands.place vs))
    walk purpose (tree.index e i span) w h = all-come purpose (expression p k s purpose (tree.index e i span))
        (behind Used Value (value (expression p k s read e)) (λ array. bind (value (expression p k s read i)) (λ at. element p.heads (written.span_of e) (written.span_of i) span array at)) (used-value (expression p k s read e) (walk read e tt h.0))
        (λ array v. behind Used Value (value (expression p k s read i)) (λ at. element p.heads (written.span_of e) (written.span_of i) span array at) (used-value (expression p k s read i) (walk read i tt h.1))
        (λ at u. element-values (written.span_of e) (written.span_of i) span array at v.0 u.0)))
    walk purpose (tree.new_object word t es span) w h = all-come purpose (expression p k s purpose (tree.new_object word t es span))
        (behind-given (λ u. Unit {0}) Value (body_type p s.place.here t) (λ made. bind (values p k s es) (λ args. creation p s.place made word (name_span t) span args (k.captures s.place (class_or_zero made)))) (any (body_type p s.place.here t))
        (λ made e u. behind (ArgumentsFit q body p.heads) Value (values p k s es) (λ args. creation p s.place made word (name_span t) span args (k.captures s.place (class_or_zero made))) (walk-values es h.1)
        (λ args vs. creations_fit p q body s.place made word (name_span t) span args (k.captures s.place (class_or_zero made)) represents has (h.0 made e) vs)))
    walk purpose (tree.new_anonymous word t es inner span) w h = all-come purpose (expression p k s purpose (tree.new_anonymous word t es inner span))
        (behind-given (ArgumentsFit q body p.heads) Value (values p k s es) (λ args. anonymous_creation p s.place (anonymous_at p word) (anonymous_type p word t) word (name_span t) span args (k.captures s.place (anonymous_at p word))) (walk-values es h.1)
        (λ args e vs. anonymous_creations_fit p q body s.place (anonymous_at p word) (anonymous_type p word t) word (name_span t) span args (k.captures s.place (anonymous_at p word)) represents has h.0.class h.0.sound h.0.default
        (λ m g. h.0.hands_on args (name_span t) m e g) h.0.captures vs))
    walk purpose (tree.new_array t es dims span) w h = all-come purpose (expression p k s purpose (tree.new_array t es dims span))
        (behind Sound Value (bare_type p s.place.here t) (λ of. bind (parts p k s es) (λ lengths. new_array p.heads (innermost of) dims (name_span t) span lengths)) (bare-sound t)
        (λ of sound. behind (Lengths es) Value (parts p k s es) (λ lengths. new_array p.heads (innermost of) dims (name_span t) span lengths) (walk-parts es h.1)
        (λ ps g. new_arrays_fit q body p.heads (innermost of) dims (name_span t) span ps represents.heads (innermost-sound of sound) (innermost-flat of) (subst (λ (n : ℕ). 0 < n) (sym g.1) h.0) (each-part ps g.0))))
    walk purpose (tree.new_array_of t dims e span) w h = all-come purpose (expression p k s purpose (tree.new_array_of t dims e span))
        (behind Sound Value (bare_type p s.place.here t) (λ of. bind (elements_in p k s (array_over of dims) e) (λ elements. bind (elements_if p.heads (element_type (array_over of dims)) elements) (λ given. bind (array_type p.heads (innermost of) dims (name_span t)) (λ made. gives (elements_node p.heads made span given))))) (bare-sound t)
        (λ of sound. behind (EachValue q body p.heads) Value (elements_in p k s (array_over of dims) e) (λ elements. bind (elements_if p.heads (element_type (array_over of dims)) elements) (λ given. bind (array_type p.heads (innermost of) dims (name_span t)) (λ made. gives (elements_node p.heads made span given))))
        (walk-in (array_over of dims) e (over-sound of dims sound) h.1) (λ ps vs. array-with of dims (name_span t) span ps sound h.0 vs)))
    walk (initial t) (tree.array_init es span) w h = behind (EachValue q body p.heads) Value (elements_for p k s (element_or t) es) (λ elements. array_of p.heads t span elements) (walk-elements (element_or t) es (element-or-sound t w) h)
        (λ ps vs. arrays_with_fit q body p.heads t span ps represents.heads w (each-part ps vs))
    walk read (tree.array_init es span) w h = tt
    walk assigned (tree.array_init es span) w h = tt
    walk updated (tree.array_init es span) w h = tt
    walk purpose (tree.prefix o at e span) w h = all-come purpose (expression p k s purpose (tree.prefix o at e span)) (behind-prefix o e span (prefixed p k s o at (written.span_of e) (is_variable e) span (expression p k s (prefix_purpose o) e))
        (prefix-steps o at (written.span_of e) (is_variable e) span (expression p k s (prefix_purpose o) e) (walk (prefix_purpose o) e (prefix-stands o) h)))
    walk purpose (tree.postfix o at e span) w h = all-come purpose (expression p k s purpose (tree.postfix o at e span)) (postfix-steps o at (written.span_of e) (is_variable e) span (expression p k s updated e) (walk updated e tt h))
    walk purpose (tree.cast t e span) w h = all-come purpose (expression p k s purpose (tree.cast t e span))
        (behind Sound Value (bare_type p s.place.here t) (λ to. bind (value (expression p k s read e)) (λ operand. Rattle.je_typing.specs.Casts.cast p.heads to (types.span_of t) span operand)) (bare-sound t)
        (λ to sound. behind Used Value (value (expression p k s read e)) (λ operand. Rattle.je_typing.specs.Casts.cast p.heads to (types.span_of t) span operand) (used-value (expression p k s read e) (walk read e tt h))
        (λ operand v. cast-values q body p.heads represents.heads represents.string to (types.span_of t) span operand sound v.0)))
    walk purpose (tree.instance_of at e t span) w h = all-come purpose (expression p k s purpose (tree.instance_of at e t span))
        (behind Used Value (value (expression p k s read e)) (λ operand. bind (bare_type p s.place.here t) (λ of. Rattle.je_typing.specs.Casts.instance_of p.heads of (types.span_of t) at span operand)) (used-value (expression p k s read e) (walk read e tt h))
        (λ operand v. behind Sound Value (bare_type p s.place.here t) (λ of. Rattle.je_typing.specs.Casts.instance_of p.heads of (types.span_of t) at span operand) (bare-sound t)
        (λ of sound. test-values q body p.heads represents.heads represents.string of (types.span_of t) at span operand sound v.0)))
    walk purpose (tree.binary o at e f span) w h = all-come purpose (expression p k s purpose (tree.binary o at e f span))
        (behind Used Value (value (expression p k s read e)) (λ left. bind (value (expression p k s read f)) (λ right. Rattle.je_typing.specs.Operators.binary p.heads o at span left right)) (used-value (expression p k s read e) (walk read e tt h.0))
        (λ left v. behind Used Value (value (expression p k s read f)) (λ right. Rattle.je_typing.specs.Operators.binary p.heads o at span left right) (used-value (expression p k s read f) (walk read f tt h.1))
        (λ right u. binary-values q body p.heads represents.heads represents.string o at span left right v.0 u.0)))
    walk purpose (tree.conditional at c e f span) w h = all-come purpose (expression p k s purpose (tree.conditional at c e f span))
        (behind Used Value (value (expression p k s read c)) (λ condition. bind (value (expression p k s read e)) (λ y. bind (value (expression p k s read f)) (λ n. Rattle.je_typing.specs.Conditionals.choice p.heads at (written.span_of c) span condition y n))) (used-value (expression p k s read c) (walk read c tt h.0))
        (λ condition v. behind Used Value (value (expression p k s read e)) (λ y. bind (value (expression p k s read f)) (λ n. Rattle.je_typing.specs.Conditionals.choice p.heads at (written.span_of c) span condition y n)) (used-value (expression p k s read e) (walk read e tt h.1))
        (λ y u. behind Used Value (value (expression p k s read f)) (λ n. Rattle.je_typing.specs.Conditionals.choice p.heads at (written.span_of c) span condition y n) (used-value (expression p k s read f) (walk read f tt h.2))
        (λ n x. choice-values q body p.heads represents.heads represents.string at (written.span_of c) span condition y n u.1 x.1 v.0 u.0 x.0))))
    walk purpose (tree.assign o at e f span) w h = all-come purpose (expression p k s purpose (tree.assign o at e f span))
        (behind Assigned Value (value (expression p k s (target_purpose o) e))
        (λ target. bind (value (expression p k s read f)) (λ right. assigned_by p k s (written.span_of e) (is_variable e) target (assign_step p k s o at (written.span_of e) (written.span_of f) span target right)))
        (not-void Target (expression p k s (target_purpose o) e) (target-comes o (expression p k s (target_purpose o) e) (walk (target_purpose o) e (target-stands o) h.0)))
        (λ target v. behind Used Value (value (expression p k s read f)) (λ right. assigned_by p k s (written.span_of e) (is_variable e) target (assign_step p k s o at (written.span_of e) (written.span_of f) span target right)) (used-value (expression p k s read f) (walk read f tt h.1))
        (λ right u. assign-steps o at (written.span_of e) (written.span_of f) (is_variable e) span target right v u.0)))

    walk-values : (es : Expressions) → AllStand p k q body s es → Gives (ArgumentsFit q body p.heads) (values p k s es)
    walk-values tree.no_expressions h = λ t i. elim i [ ]
    walk-values (tree.more_expressions e es) h = behind Used (ArgumentsFit q body p.heads) (value (expression p k s read e)) (λ t. bind (values p k s es) (λ ts. gives (t ∷ ts))) (used-value (expression p k s read e) (walk read e tt h.0))
        (λ t v. behind (ArgumentsFit q body p.heads) (ArgumentsFit q body p.heads) (values p k s es) (λ ts. gives (t ∷ ts)) (walk-values es h.1) (λ ts vs. arguments-more t ts v.0 vs))

    walk-parts : (es : Expressions) → AllStand p k q body s es → Gives (Lengths es) (parts p k s es)
    walk-parts tree.no_expressions h = (no_parts, refl)
    walk-parts (tree.more_expressions e es) h = behind Used (Lengths (tree.more_expressions e es)) (value (expression p k s read e)) (λ t. bind (parts p k s es) (λ ts. gives (part (written.span_of e) t ∷ ts))) (used-value (expression p k s read e) (walk read e tt h.0))
        (λ t v. behind (Lengths es) (Lengths (tree.more_expressions e es)) (parts p k s es) (λ ts. gives (part (written.span_of e) t ∷ ts)) (walk-parts es h.1)
        (λ ts g. (more_parts v.0 g.0, counted (length ts) (count p k q body s es) g.1)))

    walk-elements : (t : SourceType) (es : Expressions) → Sound t → AllStand p k q body s es → Gives (EachValue q body p.heads) (elements_for p k s t es)
    walk-elements t tree.no_expressions sound h = no_parts
    walk-elements t (tree.more_expressions e es) sound h = behind Used (EachValue q body p.heads) (value (expression p k s (initial t) e)) (λ v. bind (elements_for p k s t es) (λ vs. gives (part (written.span_of e) v ∷ vs))) (used-value (expression p k s (initial t) e) (walk (initial t) e sound h.0))
        (λ u v. behind (EachValue q body p.heads) (EachValue q body p.heads) (elements_for p k s t es) (λ vs. gives (part (written.span_of e) u ∷ vs)) (walk-elements t es sound h.1) (λ ts vs. more_parts v.0 vs))

    walk-in : (t : SourceType) (e : Expression) → Sound t → Stands p k q body s e → Gives (EachValue q body p.heads) (elements_in p k s t e)
    walk-in t (tree.array_init es span) sound h = walk-elements (element_or t) es (element-or-sound t sound) h
    walk-in t _ sound h = no_parts

pub expressions_fit : ExpressionsFit
expressions_fit p k q body s represents has stands purpose e w h = walk p k q body s represents has stands purpose e w h
