-- The types of literals, operators, casts and choices are sound.
use Rattle.std.proofs.Common.{◌≡◌, zero, suc, List, Option, Some, None, refl, sym, ap, ◌∙◌, subst, arith}
use Rattle.std.specs.Prelude.{Bool, true, false, ◌&&◌, ◌||◌, if◌then◌else◌, codes, is_some, option_map}
use Rattle.std.proofs.lemmas.Option.{none-some, same_Some}
use Rattle.je_base.specs.declared.span.Span.{Span}
use Rattle.je_core.specs.declared.expr.BinOp.{BinOp}
use Rattle.je_core.specs.declared.expr.BinOp.TheVariants as op
use Rattle.je_core.specs.declared.expr.UnOp.{UnOp}
use Rattle.je_core.specs.declared.expr.UnOp.TheVariants as unary_op
use Rattle.je_core.specs.declared.types.Base.{Base}
use Rattle.je_core.specs.declared.types.Base.TheVariants as base
use Rattle.je_core.specs.declared.value.Value.{Value}
use Rattle.je_core.specs.Core.{CoreProgram}
use Rattle.je_ast.specs.declared.expr.Literal.{Literal}
use Rattle.je_ast.specs.declared.expr.Literal.TheVariants as literal
use Rattle.je_ast.specs.declared.operator.BinaryOp.{BinaryOp}
use Rattle.je_classes.specs.Hierarchy.{class_at, library_class}
use Rattle.je_classes.specs.Subtypes.{same_base}
use Rattle.je_classes.proofs.Lists.{bool_cases}
use Rattle.je_fitting.specs.Expressions.{Body}
use Rattle.je_fitting.specs.Operators.{Sort, arithmetic, bitwise, comparison, equality, shift, sort_of}
use Rattle.je_fitting.specs.Types.{of}
use Rattle.je_fitting.proofs.Booleans.{two}
use Rattle.je_scopes.specs.SourceTypes.{SourceType, plain, of_class, of_variable}
use Rattle.source_types.specs.Heads.{ClassHead}
use Rattle.source_types.specs.Subtypes.{is_subtype}
use Rattle.je_typing.specs.declared.fault.TypeRule.TheVariants.{BadCast, BadCondition, BadInstanceOf, BadOperand, LiteralRange}
use Rattle.je_typing.specs.declared.operands.Operands.{Operands}
use Rattle.je_typing.specs.Casts.{cast, cast_to, instance_of, primitive_cast, reference_cast}
use Rattle.je_typing.specs.Conditionals.{choice, choice_of, choice_type, is_byte_or_short, number_choice, primitive_choice, takes_constant}
use Rattle.je_typing.specs.Constants.{constant_value}
use Rattle.je_typing.specs.Judged.{Judged}
use Rattle.je_typing.specs.Literals.{int_value, literal_of, long_value, number_literal}
use Rattle.je_typing.specs.Operators.{alike, apart, binary, compares_references, concatenation, core_op, is_and, is_equality, joins, logical, operand_base, operands, operation, operation_or_logical, plus, primitive_operation, reference_equality, result_base, truths_or_numbers, unary}
use Rattle.je_typing.specs.Promotion.{promoted, promoted_base, promoted_together, wider, wider_if}
use Rattle.je_typing.specs.Typed.{TypedNode, is_boolean, is_primitive_base, is_string, is_void, primitive, primitive_type, string_type}
use Rattle.typing_laws.specs.Correspondence.{HasHeads}
use Rattle.typing_laws.specs.Fitting.{FitsAs, Gives}
use Rattle.typing_laws.proofs.Assigned.{primitive-is}
use Rattle.typing_laws.proofs.Casts.{casts_fit}
use Rattle.typing_laws.proofs.Choices.{choices_fit}
use Rattle.typing_laws.proofs.Literals.{literals_fit, value-fits}
use Rattle.typing_laws.proofs.Operators.{operations_fit}
use Rattle.typing_laws.proofs.References.{reference_casts_fit, reference_equalities_fit, type_tests_fit}
use Rattle.typing_laws.proofs.Texts.{concatenations_fit}
use Rattle.typing_laws.proofs.Values.{HasType}
use Rattle.typing_laws.proofs.Unary.{logical_fit, plus_fits, unary_fit}
use Rattle.fitting_laws.specs.Sound.{IsSound, IsType, a_type, no_arguments, of_null, sound_class, sound_primitive}
use Rattle.fitting_laws.specs.Values.{IsValue}
use Rattle.fitting_laws.proofs.Gives.{behind-check, behind-need, together}
use Rattle.fitting_laws.proofs.Sound.{sound-variable, type-dims}

-- ---- promoted types

data IntOrLong : Base → Type 0 where
  an_int : IntOrLong base.Int
  a_long : IntOrLong base.Long

promoted-is : (s : SourceType) (b : Base) → promoted s ≡ Some b → IntOrLong b
promoted-is (plain base.Byte zero) b e = subst IntOrLong (same_Some base.Int b e) an_int
promoted-is (plain base.Short zero) b e = subst IntOrLong (same_Some base.Int b e) an_int
promoted-is (plain base.Char zero) b e = subst IntOrLong (same_Some base.Int b e) an_int
promoted-is (plain base.Int zero) b e = subst IntOrLong (same_Some base.Int b e) an_int
promoted-is (plain base.Long zero) b e = subst IntOrLong (same_Some base.Long b e) a_long
promoted-is (plain base.Bool zero) b e = absurd (none-some b e)
promoted-is (plain base.Null zero) b e = absurd (none-some b e)
promoted-is (plain base.Void zero) b e = absurd (none-some b e)
promoted-is (plain (base.Class c) zero) b e = absurd (none-some b e)
promoted-is (plain c (suc n)) b e = absurd (none-some b e)
promoted-is (of_class c ts n) b e = absurd (none-some b e)
promoted-is (of_variable c at n) b e = absurd (none-some b e)

wider-is : {a b : Base} → IntOrLong a → IntOrLong b → IntOrLong (wider a b)
wider-is an_int an_int = an_int
wider-is an_int a_long = a_long
wider-is a_long an_int = a_long
wider-is a_long a_long = a_long

if-is : (o k : Option Base) → ((a : Base) → o ≡ Some a → IntOrLong a) → ((a : Base) → k ≡ Some a → IntOrLong a) → (b : Base) → wider_if o k ≡ Some b → IntOrLong b
if-is (Some a) (Some c) f g b e = subst IntOrLong (same_Some (wider a c) b e) (wider-is (f a refl) (g c refl))
if-is None k f g b e = absurd (none-some b e)
if-is (Some a) None f g b e = absurd (none-some b e)

together-is : (s t : SourceType) (b : Base) → promoted_together s t ≡ Some b → IntOrLong b
together-is s t b e = if-is (promoted s) (promoted t) (promoted-is s) (promoted-is t) b e

of-promoted : {b : Base} → IntOrLong b → is_primitive_base b ≡ true
of-promoted an_int = refl
of-promoted a_long = refl

-- ---- operands

alike-primitive : (o : Option Base) (p : Operands) → ((b : Base) → o ≡ Some b → is_primitive_base b ≡ true) → alike o ≡ Some p → is_primitive_base p.left ≡ true
alike-primitive None p f e = absurd (none-some p e)
alike-primitive (Some b) p f e = let same : record { left = b; right = b } ≡ p = same_Some (record { left = b; right = b }) p e in ap (λ (q : Operands). is_primitive_base q.left) (sym same) ∙ f b refl

apart-primitive : (o k : Option Base) (p : Operands) → ((b : Base) → o ≡ Some b → is_primitive_base b ≡ true) → apart o k ≡ Some p → is_primitive_base p.left ≡ true
apart-primitive (Some a) (Some b) p f e = let same : record { left = a; right = b } ≡ p = same_Some (record { left = a; right = b }) p e in ap (λ (q : Operands). is_primitive_base q.left) (sym same) ∙ f a refl
apart-primitive None k p f e = absurd (none-some p e)
apart-primitive (Some a) None p f e = absurd (none-some p e)

truths-primitive : (s t : SourceType) (p : Operands) → truths_or_numbers s t ≡ Some p → is_primitive_base p.left ≡ true
truths-primitive s t p e = bool_cases (λ b. (if b then alike (Some base.Bool) else alike (promoted_together s t)) ≡ Some p → is_primitive_base p.left ≡ true) (is_boolean s && is_boolean t)
    (λ _ h. alike-primitive (Some base.Bool) p (λ b k. ap is_primitive_base (sym (same_Some base.Bool b k))) h)
    (λ _ h. alike-primitive (promoted_together s t) p (λ b k. of-promoted (together-is s t b k)) h) e

operands-primitive : (x : Sort) (s t : SourceType) (p : Operands) → operands x s t ≡ Some p → is_primitive_base p.left ≡ true
operands-primitive shift s t p e = apart-primitive (promoted s) (promoted t) p (λ b k. of-promoted (promoted-is s b k)) e
operands-primitive equality s t p e = truths-primitive s t p e
operands-primitive bitwise s t p e = truths-primitive s t p e
operands-primitive arithmetic s t p e = alike-primitive (promoted_together s t) p (λ b k. of-promoted (together-is s t b k)) e
operands-primitive comparison s t p e = alike-primitive (promoted_together s t) p (λ b k. of-promoted (together-is s t b k)) e

result-primitive : (x : Sort) (b : Base) → is_primitive_base b ≡ true → is_primitive_base (result_base x b) ≡ true
result-primitive comparison b h = refl
result-primitive equality b h = refl
result-primitive arithmetic b h = h
result-primitive shift b h = h
result-primitive bitwise b h = h

operand-primitive : (o : UnOp) (s : SourceType) (b : Base) → operand_base o s ≡ Some b → is_primitive_base b ≡ true
operand-primitive unary_op.Not s b e = bool_cases (λ x. (if x then Some base.Bool else None) ≡ Some b → is_primitive_base b ≡ true) (is_boolean s)
    (λ _ h. ap is_primitive_base (sym (same_Some base.Bool b h))) (λ _ h. absurd (none-some b h)) e
operand-primitive unary_op.Minus s b e = of-promoted (promoted-is s b e)
operand-primitive unary_op.Tilde s b e = of-promoted (promoted-is s b e)

equality-is : (x : Sort) → is_equality x ≡ true → x ≡ equality
equality-is equality h = refl
equality-is arithmetic h = absurd cc
equality-is shift h = absurd cc
equality-is comparison h = absurd cc
equality-is bitwise h = absurd cc

-- ---- steps

module _ (q : CoreProgram) (body : Body) (heads : List ClassHead) (known : HasHeads q heads) (string : is_some (class_at q (library_class (codes "java.lang.String"))) ≡ true) where
  abbrev Typed : TypedNode → Type 0
  Typed t = IsType q heads t.type

  primitive-typed : (b : Base) → is_primitive_base b ≡ true → IsType q heads (plain b 0)
  primitive-typed b h = a_type (sound_primitive h (omega arith))

  string-typed : IsType q heads string_type
  string-typed = a_type (sound_class string (omega arith) no_arguments)

  pub values : (j : Judged TypedNode) → Gives (FitsAs q body heads) j → Gives Typed j → Gives (IsValue q body heads) j
  values j h k = together (FitsAs q body heads) Typed (IsValue q body heads) j h k (λ t f i. record { fits = f; type = i })

  number-typed : (b : Base) (v : Option Value) (at span : Span) → is_primitive_base b ≡ true → Gives Typed (number_literal b v at span)
  unfolding number_literal
  number-typed b v at span h = behind-need Typed LiteralRange at v _ (λ w e. primitive-typed b h)

  pub number-values : (b : Base) (v : Option Value) (at span : Span) → is_primitive_base b ≡ true → HasType (of b) v → Gives (IsValue q body heads) (number_literal b v at span)
  unfolding number_literal
  number-values b v at span h k = behind-need (IsValue q body heads) LiteralRange at v _ (λ w e. record {
    fits = value-fits q body heads b w span at (subst (HasType (of b)) e k);
    type = primitive-typed b h;
  })

  literal-typed : (l : Literal) (span : Span) → Gives Typed (literal_of l span)
  unfolding literal_of
  literal-typed (literal.Int z) span = number-typed base.Int (int_value z) span span refl
  literal-typed (literal.Long z) span = number-typed base.Long (long_value z) span span refl
  literal-typed (literal.Char z) span = primitive-typed base.Char refl
  literal-typed (literal.Text units) span = string-typed
  literal-typed (literal.Bool b) span = primitive-typed base.Bool refl
  literal-typed literal.Null span = of_null

  pub literal-values : (l : Literal) (span : Span) → Gives (IsValue q body heads) (literal_of l span)
  literal-values l span = values (literal_of l span) (literals_fit q body heads l span) (literal-typed l span)

  -- ---- JLS 15.15

  plus-typed : (at span : Span) (t : TypedNode) → Gives Typed (plus at span t)
  unfolding plus
  plus-typed at span t = behind-need Typed BadOperand at (promoted t.type) _ (λ b e. primitive-typed b (of-promoted (promoted-is t.type b e)))

  pub plus-values : (at span : Span) (t : TypedNode) → IsValue q body heads t → Gives (IsValue q body heads) (plus at span t)
  plus-values at span t v = values (plus at span t) (plus_fits q body heads at span t v.fits) (plus-typed at span t)

  unary-typed : (o : UnOp) (at span : Span) (t : TypedNode) → Gives Typed (unary o at span t)
  unfolding unary
  unary-typed o at span t = behind-need Typed BadOperand at (operand_base o t.type) _ (λ b e. primitive-typed b (operand-primitive o t.type b e))

  pub unary-values : (o : UnOp) (at span : Span) (t : TypedNode) → IsValue q body heads t → Gives (IsValue q body heads) (unary o at span t)
  unary-values o at span t v = values (unary o at span t) (unary_fit q body heads o at span t v.fits) (unary-typed o at span t)

  -- ---- JLS 15.17 to 15.24

  operation-typed : (o : BinOp) (at span : Span) (l r : TypedNode) → Gives Typed (primitive_operation o at span l r)
  unfolding primitive_operation
  operation-typed o at span l r = behind-need Typed BadOperand at (operands (sort_of o) l.type r.type) _
      (λ x e. primitive-typed (result_base (sort_of o) x.left) (result-primitive (sort_of o) x.left (operands-primitive (sort_of o) l.type r.type x e)))

  concatenation-typed : (at span : Span) (l r : TypedNode) → Gives Typed (concatenation at span l r)
  unfolding concatenation
  concatenation-typed at span l r = behind-check Typed BadOperand at _ _ (λ e. string-typed)

  equality-typed : (o : BinOp) (at span : Span) (l r : TypedNode) → Gives Typed (reference_equality heads o at span l r)
  unfolding reference_equality
  equality-typed o at span l r = behind-check Typed BadOperand at _ _ (λ e. primitive-typed base.Bool refl)

  logical-typed : (x : Bool) (at span : Span) (l r : TypedNode) → Gives Typed (logical x at span l r)
  unfolding logical
  logical-typed x at span l r = behind-check Typed BadOperand at _ _ (λ e. primitive-typed base.Bool refl)

  joined-strings : (o : BinOp) (s t : SourceType) → joins o s t ≡ true → (is_string s || is_string t) ≡ true
  joined-strings op.Add s t h = h
  joined-strings op.Sub s t h = absurd cc
  joined-strings op.Mul s t h = absurd cc
  joined-strings op.Div s t h = absurd cc
  joined-strings op.Rem s t h = absurd cc
  joined-strings op.Shl s t h = absurd cc
  joined-strings op.Shr s t h = absurd cc
  joined-strings op.Ushr s t h = absurd cc
  joined-strings op.Lt s t h = absurd cc
  joined-strings op.Gt s t h = absurd cc
  joined-strings op.Le s t h = absurd cc
  joined-strings op.Ge s t h = absurd cc
  joined-strings op.Eq s t h = absurd cc
  joined-strings op.Ne s t h = absurd cc
  joined-strings op.BitAnd s t h = absurd cc
  joined-strings op.BitXor s t h = absurd cc
  joined-strings op.BitOr s t h = absurd cc

  operation-values : (o : BinOp) (at span : Span) (l r : TypedNode) → IsValue q body heads l → IsValue q body heads r → Gives (IsValue q body heads) (operation heads o at span l r)
  operation-values o at span l r v w = bool_cases (λ b. Gives (IsValue q body heads) (if b then concatenation at span l r else if compares_references o l.type r.type then reference_equality heads o at span l r else primitive_operation o at span l r)) (joins o l.type r.type)
      (λ e. values (concatenation at span l r) (concatenations_fit q body heads at span l r known.bounds (joined-strings o l.type r.type e) v.fits w.fits) (concatenation-typed at span l r))
      (λ _. bool_cases (λ b. Gives (IsValue q body heads) (if b then reference_equality heads o at span l r else primitive_operation o at span l r)) (compares_references o l.type r.type)
      (λ e. values (reference_equality heads o at span l r) (reference_equalities_fit q body heads o at span l r known.bounds (equality-is (sort_of o) (two {a = is_equality (sort_of o)} e).0) v.fits w.fits) (equality-typed o at span l r))
      (λ _. values (primitive_operation o at span l r) (operations_fit q body heads o at span l r v.fits w.fits) (operation-typed o at span l r)))

  pub binary-values : (o : BinaryOp) (at span : Span) (l r : TypedNode) → IsValue q body heads l → IsValue q body heads r → Gives (IsValue q body heads) (binary heads o at span l r)
  unfolding binary
  binary-values o at span l r v w = by (core_op o)
    where
      by : (c : Option BinOp) → Gives (IsValue q body heads) (operation_or_logical heads o c at span l r)
      by None = values (logical (is_and o) at span l r) (logical_fit q body heads (is_and o) at span l r v.fits w.fits) (logical-typed (is_and o) at span l r)
      by (Some c) = operation-values c at span l r v w

  -- ---- JLS 15.16, 15.20.2

  primitive-cast-typed : (b : Base) (type_span span : Span) (t : TypedNode) → is_primitive_base b ≡ true → Gives Typed (primitive_cast b type_span span t)
  unfolding primitive_cast
  primitive-cast-typed b type_span span t h = behind-check Typed BadCast type_span _ _ (λ e. primitive-typed b h)

  reference-cast-typed : (to : SourceType) (type_span span : Span) (t : TypedNode) → IsSound q heads 255 to → Gives Typed (reference_cast heads to type_span span t)
  unfolding reference_cast
  reference-cast-typed to type_span span t s = behind-check Typed BadCast type_span _ _ (λ e. a_type s)

  test-typed : (to : SourceType) (type_span at span : Span) (t : TypedNode) → Gives Typed (instance_of heads to type_span at span t)
  unfolding instance_of
  test-typed to type_span at span t = behind-check Typed BadInstanceOf type_span _ _ (λ e. primitive-typed base.Bool refl)

  pub cast-values : (to : SourceType) (type_span span : Span) (t : TypedNode) → IsSound q heads 255 to → IsValue q body heads t → Gives (IsValue q body heads) (cast heads to type_span span t)
  unfolding cast
  cast-values to type_span span t s v = by (primitive to) refl
    where
      by : (o : Option Base) → primitive to ≡ o → Gives (IsValue q body heads) (cast_to heads to o type_span span t)
      by (Some b) e = let k = primitive-is to b e in values (primitive_cast b type_span span t) (casts_fit q body heads b type_span span t k.known v.fits) (primitive-cast-typed b type_span span t k.known)
      by None e = values (reference_cast heads to type_span span t) (reference_casts_fit q body heads to type_span span t known.bounds (sound-variable q heads known (omega arith) s) v.fits) (reference-cast-typed to type_span span t s)

  pub test-values : (to : SourceType) (type_span at span : Span) (t : TypedNode) → IsSound q heads 255 to → IsValue q body heads t → Gives (IsValue q body heads) (instance_of heads to type_span at span t)
  test-values to type_span at span t s v = values (instance_of heads to type_span at span t) (type_tests_fit q body heads to type_span at span t known.bounds (sound-variable q heads known (omega arith) s) v.fits) (test-typed to type_span at span t)

  -- ---- JLS 15.25

  number-choice-primitive : (a b c : Base) (v w : Option Value) → is_primitive_base a ≡ true → is_primitive_base b ≡ true → number_choice a b v w ≡ Some c → is_primitive_base c ≡ true
  number-choice-primitive a b c v w h k e = bool_cases
      (λ x. (if x then Some base.Short else if takes_constant a b w then Some a else if takes_constant b a v then Some b else wider_if (promoted_base a) (promoted_base b)) ≡ Some c → is_primitive_base c ≡ true) (is_byte_or_short a && is_byte_or_short b)
      (λ _ g. ap is_primitive_base (sym (same_Some base.Short c g)))
      (λ _. bool_cases (λ x. (if x then Some a else if takes_constant b a v then Some b else wider_if (promoted_base a) (promoted_base b)) ≡ Some c → is_primitive_base c ≡ true) (takes_constant a b w)
      (λ _ g. ap is_primitive_base (sym (same_Some a c g)) ∙ h)
      (λ _. bool_cases (λ x. (if x then Some b else wider_if (promoted_base a) (promoted_base b)) ≡ Some c → is_primitive_base c ≡ true) (takes_constant b a v)
      (λ _ g. ap is_primitive_base (sym (same_Some b c g)) ∙ k)
      (λ _ g. of-promoted (together-is (plain a 0) (plain b 0) c g)))) e

  primitive-choice-primitive : (a b c : Base) (v w : Option Value) → is_primitive_base a ≡ true → is_primitive_base b ≡ true → primitive_choice a b v w ≡ Some c → is_primitive_base c ≡ true
  primitive-choice-primitive a b c v w h k e = bool_cases (λ x. (if x then Some a else number_choice a b v w) ≡ Some c → is_primitive_base c ≡ true) (same_base a b)
      (λ _ g. ap is_primitive_base (sym (same_Some a c g)) ∙ h) (λ _ g. number-choice-primitive a b c v w h k g) e

  mapped-primitive : (o : Option Base) (t : SourceType) → ((c : Base) → o ≡ Some c → is_primitive_base c ≡ true) → option_map primitive_type o ≡ Some t → IsType q heads t
  mapped-primitive None t f e = absurd (none-some t e)
  mapped-primitive (Some c) t f e = subst (IsType q heads) (same_Some (plain c 0) t e) (primitive-typed c (f c refl))

  choice-typed : (y n : TypedNode) (t : SourceType) → IsType q heads y.type → IsType q heads n.type → choice_type heads y n ≡ Some t → IsType q heads t
  choice-typed y n t i j e = by (primitive y.type) refl (primitive n.type) refl e
    where
      by : (o : Option Base) → primitive y.type ≡ o → (k : Option Base) → primitive n.type ≡ k → choice_of heads y n o k ≡ Some t → IsType q heads t
      by (Some a) f (Some b) g h = mapped-primitive (primitive_choice a b (constant_value y.node) (constant_value n.node)) t
          (λ c. primitive-choice-primitive a b c (constant_value y.node) (constant_value n.node) (primitive-is y.type a f).known (primitive-is n.type b g).known) h
      by None f None g h = bool_cases (λ x. (if x then Some n.type else if is_subtype heads n.type y.type then Some y.type else None) ≡ Some t → IsType q heads t) (is_subtype heads y.type n.type)
          (λ _ z. subst (IsType q heads) (same_Some n.type t z) j)
          (λ _. bool_cases (λ x. (if x then Some y.type else None) ≡ Some t → IsType q heads t) (is_subtype heads n.type y.type) (λ _ z. subst (IsType q heads) (same_Some y.type t z) i) (λ _ z. absurd (none-some t z))) h
      by (Some a) f None g h = absurd (none-some t h)
      by None f (Some b) g h = absurd (none-some t h)

  choices-typed : (at condition_span span : Span) (c y n : TypedNode) → IsType q heads y.type → IsType q heads n.type → Gives Typed (choice heads at condition_span span c y n)
  unfolding choice
  choices-typed at condition_span span c y n i j = behind-need Typed BadOperand at (choice_type heads y n) _ (λ t e. behind-check Typed BadCondition condition_span (is_boolean c.type) _ (λ h. choice-typed y n t i j e))

  pub choice-values : (at condition_span span : Span) (c y n : TypedNode) → is_void y.type ≡ false → is_void n.type ≡ false → IsValue q body heads c → IsValue q body heads y → IsValue q body heads n
      → Gives (IsValue q body heads) (choice heads at condition_span span c y n)
  choice-values at condition_span span c y n h k u v w = values (choice heads at condition_span span c y n)
      (choices_fit q body heads at condition_span span c y n known (type-dims q heads v.type) (type-dims q heads w.type) h k u.fits v.fits w.fits) (choices-typed at condition_span span c y n v.type w.type)
