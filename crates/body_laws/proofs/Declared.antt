-- Declarations of locals (JLS 14.4): what they come to fits.
use Rattle.std.proofs.Common.{◌≡◌, ℕ, zero, suc, ◌+◌, ◌<◌, ◌≤◌, List, [], ◌∷◌, ◌++◌, length, Option, Some, None, refl, sym, ap, ◌∙◌, subst, arith, min}
use Rattle.std.specs.Prelude.{Bool, true, false, option_map, slice_get, if◌then◌else◌}
use Rattle.std.specs.List.{All}
use Rattle.std.proofs.lemmas.List.Elements.{All-append, All-cons, All-nil}
use Rattle.std.proofs.lemmas.Option.{none-some, slice_get_within}
use Rattle.je_base.specs.declared.span.Span.{Span}
use Rattle.je_core.specs.declared.types.Base.{Base}
use Rattle.je_core.specs.declared.types.Base.TheVariants as base
use Rattle.je_core.specs.declared.types.Ty.{Ty}
use Rattle.je_core.specs.declared.value.Value.{Value}
use Rattle.je_core.specs.Core.{Core, CoreProgram, CoreStmt, stmt_form_of}
use Rattle.je_ast.specs.declared.name.Identifier.{Identifier}
use Rattle.je_ast.specs.Spans as written
use Rattle.je_ast.specs.Trees.{Expression, MaybeExpression, Variables}
use Rattle.je_ast.specs.Trees as tree
use Rattle.je_ast.specs.Types.{TypeName}
use Rattle.je_classes.proofs.Lists.{bool_cases}
use Rattle.je_classes.proofs.Sets.{in-left}
use Rattle.je_fitting.specs.Expressions.{Body}
use Rattle.je_fitting.specs.Expressions as fits
use Rattle.je_fitting.specs.Statements.{Targets, is_loop_form}
use Rattle.je_fitting.specs.Types.{is_variable_type, of}
use Rattle.je_scopes.specs.SourceTypes.{SourceType, SourceTypes, more_source_types, of_class, of_variable, plain, with_dims}
use Rattle.name_types.specs.View.{all_in_limit, in_limit}
use Rattle.source_types.specs.Erasure.{erased}
use Rattle.source_types.specs.Subtypes.{dims_of}
use Rattle.source_types.proofs.Same.{same-equal}
use Rattle.je_typing.specs.declared.fault.TypeRule.TheVariants.{BadArray, LocalTwice}
use Rattle.je_typing.specs.Constants.{constant_text, constant_value, value_in}
use Rattle.je_typing.specs.Conversions.{assigned}
use Rattle.je_typing.specs.Typed.{TypedNode, is_primitive_base, is_string, is_void, primitive, string_type}
use Rattle.name_typing.specs.Program.{Constant, LocalVariable, Program, text_constant, value_constant}
use Rattle.name_typing.specs.Variables.{typed_local}
use Rattle.body_typing.specs.Bodies.{Done, Met, Progress, behind, first_of, local_of, met_in_expression, next_number, with_local, with_number}
use Rattle.body_typing.specs.ConstantVariables.{constant_as, constant_text_if, variable_constant}
use Rattle.body_typing.specs.Expressions.{Known, expression, initial, value}
use Rattle.body_typing.specs.FinalVariables.{Scope}
use Rattle.body_typing.specs.LocalVariables as declared
use Rattle.body_typing.specs.LocalVariables.{new_name}
use Rattle.typing_laws.specs.Fitting.{FitsAs, FitsAsVariable, Gives, with_texts}
use Rattle.typing_laws.specs.Passing.{PassesAs}
use Rattle.typing_laws.proofs.Assignments.{agrees-itself, assign-fits}
use Rattle.typing_laws.proofs.Erased.{erased-not-void}
use Rattle.typing_laws.proofs.Values.{HasType, typed-in}
use Rattle.fitting_laws.specs.Methods.{HasMethods}
use Rattle.fitting_laws.specs.Represented.{IsConstantOf, Represents, a_text, a_value}
use Rattle.fitting_laws.specs.Sound.{AreSound, IsSound, more_arguments, no_arguments, sound_class, sound_primitive, sound_variable}
use Rattle.fitting_laws.specs.Values.{IsValue}
use Rattle.fitting_laws.proofs.Gives.{behind-check}
use Rattle.fitting_laws.proofs.Gives as chain
use Rattle.fitting_laws.proofs.Sound.{sound-dims, sound-variable, type-dims}
use Rattle.body_laws.specs.Bodies.{BodyStands, IsInBody}
use Rattle.body_laws.specs.Fitting.{DoneFits, EachFits, none_fits, one_fits}
use Rattle.body_laws.specs.Written.{IsWritten, IsWrittenIf, VariablesAreWritten}
use Rattle.body_laws.proofs.Grows.{Knows, met-there, number-there}
use Rattle.body_laws.proofs.Typed.{Grown, before, grows-met, grows-not, grows-number, on, under-claim}
use Rattle.body_laws.proofs.Scopes.{with-local}
use Rattle.body_laws.proofs.Values.{Begins, Used, initial-fits, passes, performed-fits}

-- ---- constant variables (JLS 4.12.4)

data IsPrimitiveOf : SourceType → Base → Type 0 where
  primitive_of : {b : Base} → IsPrimitiveOf (plain b 0) b

primitive-is : (t : SourceType) (b : Base) → primitive t ≡ Some b → IsPrimitiveOf t b
primitive-is (plain a zero) b = bool_cases (λ x. (if x then Some a else None) ≡ Some b → IsPrimitiveOf (plain a 0) b) (is_primitive_base a)
    (λ _ e. subst (IsPrimitiveOf (plain a 0)) (same-some e) primitive_of) (λ _ e. absurd (none-some b e))
  where
    base_or : Option Base → Base
    base_or (Some x) = x
    base_or None = a

    same-some : {c d : Base} → ◌≡◌ {A = Option Base} (Some c) (Some d) → c ≡ d
    same-some e = ap base_or e
primitive-is (plain a (suc n)) b = λ e. absurd (none-some b e)
primitive-is (of_class c ts n) b = λ e. absurd (none-some b e)
primitive-is (of_variable c at n) b = λ e. absurd (none-some b e)

same-constant : (k c : Constant) → ◌≡◌ {A = Option Constant} (Some k) (Some c) → k ≡ c
same-constant k c e = ap constant_or e
  where
    constant_or : Option Constant → Constant
    constant_or (Some x) = x
    constant_or None = k

value-constant : (b : Base) (o : Option Value) (k : Constant) → HasType (of b) o → option_map value_constant o ≡ Some k → IsConstantOf (plain b 0) k
value-constant b None k h e = absurd (none-some k e)
value-constant b (Some v) k h e = subst (IsConstantOf (plain b 0)) (same-constant (value_constant v) k e) (a_value h)

text-constant : (o : Option (List ℕ)) (k : Constant) → option_map text_constant o ≡ Some k → IsConstantOf string_type k
text-constant None k e = absurd (none-some k e)
text-constant (Some units) k e = subst (IsConstantOf string_type) (same-constant (text_constant units) k e) a_text

base-constant : (t : SourceType) (b : Base) (n : Core) (k : Constant) → IsPrimitiveOf t b → option_map value_constant (value_in b (constant_value n)) ≡ Some k → IsConstantOf t k
base-constant _ b n k primitive_of f = value-constant b (value_in b (constant_value n)) k (typed-in b (constant_value n)) f

pub constant-of : (is_final : Bool) (t : SourceType) (n : Core) (k : Constant) → variable_constant is_final t n ≡ Some k → IsConstantOf t k
unfolding variable_constant
constant-of false t n k e = absurd (none-some k e)
constant-of true t n k e = by (primitive t) refl e
  where
    by-text : (b : Bool) → is_string t ≡ b → constant_text_if b n ≡ Some k → IsConstantOf t k
    by-text false s f = absurd (none-some k f)
    by-text true s f = subst (λ (u : SourceType). IsConstantOf u k) (sym (same-equal t string_type s)) (text-constant (constant_text n) k f)

    by : (o : Option Base) → primitive t ≡ o → constant_as t o n ≡ Some k → IsConstantOf t k
    by (Some b) is f = base-constant t b n k (primitive-is t b is) f
    by None is f = by-text (is_string t) refl f

-- ---- lists

-- the first one is a loop
abbrev pub loops : List CoreStmt → Bool
loops cs = is_loop_form (stmt_form_of (first_of cs))

loops-append : (cs ds : List CoreStmt) → loops cs ≡ false → loops ds ≡ false → loops (cs ++ ds) ≡ false
loops-append [] ds g h = h
loops-append (c ∷ cs) ds g h = g

pub all-fit : {q : CoreProgram} {body : Body} {j : Targets} {cs ds : List CoreStmt} → EachFits q body j cs → EachFits q body j ds → EachFits q body j (cs ++ ds)
all-fit none_fits h = h
all-fit (one_fits c cs) h = one_fits c (all-fit cs h)

module _ (q : CoreProgram) (p : Program) where
  abbrev Sound : SourceType → Type 0
  Sound t = IsSound q p.heads 255 t

  -- ---- the type of a variable

  primitive-value : (b : Base) (n : ℕ) → is_primitive_base b ≡ true → is_void (plain b n) ≡ false
  primitive-value base.Bool zero h = refl
  primitive-value base.Byte zero h = refl
  primitive-value base.Short zero h = refl
  primitive-value base.Char zero h = refl
  primitive-value base.Int zero h = refl
  primitive-value base.Long zero h = refl
  primitive-value base.Null zero h = absurd cc
  primitive-value base.Void zero h = absurd cc
  primitive-value (base.Class c) zero h = absurd cc
  primitive-value b (suc n) h = refl

  pub sound-value : {t : SourceType} → Sound t → is_void t ≡ false
  sound-value (sound_primitive {b = b} {n = n} h few) = primitive-value b n h
  sound-value (sound_class h few args) = refl
  sound-value (sound_variable h few) = refl

  mutual
    limit-same : {t : SourceType} → Sound t → in_limit t ≡ t
    limit-same (sound_primitive {b = b} {n = n} h few) = ap (plain b) (let e : min 255 n ≡ n = omega (arith, few) in e)
    limit-same (sound_class {c = c} {args = args} {n = n} h few given) = ap (λ (ts : SourceTypes). of_class c ts (min 255 n)) (limits-same given) ∙ ap (of_class c args) (let e : min 255 n ≡ n = omega (arith, few) in e)
    limit-same (sound_variable {c = c} {at = at} {n = n} h few) = ap (of_variable c at) (let e : min 255 n ≡ n = omega (arith, few) in e)

    limits-same : {c at : ℕ} {ts : SourceTypes} → AreSound q p.heads 255 c at ts → all_in_limit ts ≡ ts
    limits-same no_arguments = refl
    limits-same (more_arguments {t = t} {ts = ts} s h rest) = ap (λ (u : SourceType). more_source_types u (all_in_limit ts)) (limit-same s) ∙ ap (more_source_types t) (limits-same rest)

  pub variable-sound : (dims : ℕ) {t : SourceType} → Sound t → Sound (in_limit (with_dims t dims))
  variable-sound dims (sound_primitive h few) = sound_primitive h (omega arith)
  variable-sound dims (sound_class {c = c} {n = n} h few given) = subst (λ (ts : SourceTypes). Sound (of_class c ts (min 255 (n + dims)))) (sym (limits-same given)) (sound_class h (omega arith) given)
  variable-sound dims (sound_variable h few) = sound_variable h (omega arith)

module _ (p : Program) (k : Known) (q : CoreProgram) (body : Body) (first : Scope) (met : List Met) (represents : Represents p q) (has : HasMethods p q) (known : BodyStands p k q body first met) where
  abbrev Within : Scope → Type 0
  Within s = IsInBody p k q body first s

  -- ---- a local at its number

  pub local-variable : (v : LocalVariable) (at : Span) → is_void v.type ≡ false → slice_get body.locals v.number ≡ Some (erased p.heads v.type) → FitsAsVariable q body p.heads (typed_local p v at)
  local-variable v at value there = record {
    node = λ texts h. fits.local there;
    takes = λ texts. agrees-itself (with_texts q texts) (erased p.heads v.type).base (erased p.heads v.type).dims (erased-not-void p.heads represents.heads.bounds v.type value);
  }

  pub one-number : (n : ℕ) (t : Ty) → slice_get body.locals n ≡ Some t → All (λ i. i < length body.locals) (n ∷ [])
  one-number n t there = All-cons (λ i. i < length body.locals) n [] (slice_get_within body.locals n t there) (All-nil _)

  module _ (is_final : Bool) (start : Span) (written_type : TypeName) (of : SourceType) (j : Targets) where
    abbrev initialized : Scope → Progress → Identifier → SourceType → Expression → TypedNode → Core → Done
    initialized = declared.initialized p k is_final start written_type of

    module _ (s : Scope) (pr : Progress) (id : Identifier) (t : SourceType) (e : Expression) (from : TypedNode) (n : Core) where
      abbrev v : LocalVariable
      v = local_of id.name t is_final (next_number pr) (variable_constant is_final t from.node)

      abbrev blank : LocalVariable
      blank = local_of id.name t is_final (next_number pr) None

      abbrev numbered : Progress
      numbered = with_number p.heads id.name t is_final id.span pr

      initialized-fits : (Begins p k q body first met represents has known is_final blank s e t → Used p k q body first met represents has known from)
          → (IsValue q body p.heads from × (dims_of t ≤ 255) → PassesAs q body p.heads t n)
          → Knows body met (initialized s pr id t e from n).progress → Within s → IsSound q p.heads 255 t → DoneFits p k q body first j (initialized s pr id t e from n)
      initialized-fits value pass knows h sound =
          let earlier : Knows body met numbered = record { locals = knows.locals; met = λ m i. knows.met m (in-left (met_in_expression p (with_local is_final v s) e) i) } in
          let there : slice_get body.locals (next_number pr) ≡ Some (erased p.heads t) = number-there p.heads id.name t is_final id.span pr earlier in
          let few = sound-dims q p.heads (omega arith) sound in
          let used = value (
            variable_constant is_final t from.node,
            met-there (met_in_expression p (with_local is_final v s) e) numbered knows,
            with-local p k q body first is_final blank s h (record { type = sound; constant = λ c f. absurd (none-some c f) }) there,
            sound,
          ) in
          let passed = pass (used.0, few) in
          let node : FitsAs q body p.heads _ = assign-fits q body p.heads id.span id.span (written.span_of e) (written.join id.span (written.span_of e)) (typed_local p v id.span) from represents.heads few (type-dims q p.heads used.0.type)
          fits.a_local (local-variable v id.span (sound-value q p sound) there) used.0.fits n passed in
          record {
            code = one_fits (performed-fits q body j start _ node.node) none_fits;
            numbers = one-number (next_number pr) (erased p.heads t) there;
            scope = with-local p k q body first is_final v s h (record { type = sound; constant = λ c f. constant-of is_final t from.node c f }) there;
          }

    -- what grows where a scope stands and a type is sound
    abbrev Grew : Scope → SourceType → Progress → Progress → Type 0
    Grew s t = Grown q body met (Within s × IsSound q p.heads 255 t)

    variable : {s : Scope} {t : SourceType} → Within s × IsSound q p.heads 255 t → is_variable_type q (erased p.heads t) ≡ true
    variable h = sound-variable q p.heads represents.heads (omega arith) h.1

    -- variables of a type are declared, and nothing loops
    abbrev pub Claim : Scope → Progress → SourceType → Done → Type 0
    Claim s pr t d = Grew s t pr d.progress × (Knows body met d.progress → Within s → IsSound q p.heads 255 t → DoneFits p k q body first j d) × (loops d.code ≡ false)

    with-initializer : (s : Scope) (pr : Progress) (id : Identifier) (dims : ℕ) (t : SourceType) (e : Expression) → IsWritten e → Gives (Claim s pr t) (declared.with_initializer p k is_final start written_type of s pr id dims t e)
    with-initializer s pr id dims t e lengths =
        chain.behind (λ from. Begins p k q body first met represents has known is_final (blank-of s pr id t) s e t → Used p k q body first met represents has known from) (Claim s pr t)
        (value (expression p k (with_local is_final (blank-of s pr id t) s) (initial t) e)) _ (initial-fits p k q body first met represents has known s e t is_final (blank-of s pr id t) lengths)
        (λ from used. behind-check (Claim s pr t) LocalTwice id.span _ _ (λ _.
        chain.behind (λ n. IsValue q body p.heads from × (dims_of t ≤ 255) → PassesAs q body p.heads t n) (Claim s pr t) (assigned p.heads t (written.span_of e) from) _
        (passes p k q body first met represents has known t (written.span_of e) from)
        (λ n pass. behind-check (Claim s pr t) BadArray id.span _ _ (λ _. (grown s pr id t e from, initialized-fits s pr id t e from n used pass, refl)))))
      where
        blank-of : Scope → Progress → Identifier → SourceType → LocalVariable
        blank-of s pr id t = local_of id.name t is_final (next_number pr) None

        grown : (s : Scope) (pr : Progress) (id : Identifier) (t : SourceType) (e : Expression) (from : TypedNode) →
            Grew s t pr (behind p (with_local is_final (local_of id.name t is_final (next_number pr) (variable_constant is_final t from.node)) s) e (with_number p.heads id.name t is_final id.span pr))
        grown s pr id t e from = on (grows-number p.heads id.name t is_final id.span pr variable) (grows-met _ (with_number p.heads id.name t is_final id.span pr))

    without-initializer : (s : Scope) (pr : Progress) (id : Identifier) (dims : ℕ) (t : SourceType) → Gives (Claim s pr t) (declared.without_initializer p k is_final start written_type of s pr id dims t)
    without-initializer s pr id dims t = behind-check (Claim s pr t) LocalTwice id.span _ _ (λ _. behind-check (Claim s pr t) BadArray id.span _ _ (λ _. (
      grows-number p.heads id.name t is_final id.span pr variable,
      λ knows h sound. let there = number-there p.heads id.name t is_final id.span pr knows in record {
        code = none_fits;
        numbers = one-number (next_number pr) (erased p.heads t) there;
        scope = with-local p k q body first false (local_of id.name t is_final (next_number pr) None) s h (record { type = sound; constant = λ c f. absurd (none-some c f) }) there;
      },
      refl,
    )))

    one-variable : (s : Scope) (pr : Progress) (id : Identifier) (dims : ℕ) (e : MaybeExpression) → IsWrittenIf e → Gives (Claim s pr (declared.variable_type p k is_final start written_type of dims)) (declared.variable p k is_final start written_type of s pr id dims e)
    one-variable s pr id dims tree.no_expression lengths = without-initializer s pr id dims (declared.variable_type p k is_final start written_type of dims)
    one-variable s pr id dims (tree.an_expression e) lengths = with-initializer s pr id dims (declared.variable_type p k is_final start written_type of dims) e lengths

    pub variables-fit : (s : Scope) (pr : Progress) (vs : Variables) → VariablesAreWritten vs → Gives (Claim s pr of) (declared.variables p k is_final start written_type of s pr vs)
    variables-fit s pr tree.no_variables lengths = (grows-not pr, λ knows h sound. record { code = none_fits; numbers = All-nil _; scope = h }, refl)
    variables-fit s pr (tree.more_variables id dims e vs) lengths =
        chain.behind (Claim s pr (declared.variable_type p k is_final start written_type of dims)) (Claim s pr of) (declared.variable p k is_final start written_type of s pr id dims e) _ (one-variable s pr id dims e lengths.0)
        (λ d first-done. chain.behind (Claim d.scope d.progress of) (Claim s pr of) (declared.variables p k is_final start written_type of d.scope d.progress vs) _ (variables-fit d.scope d.progress vs lengths.1)
        (λ rest further. (
          on (under-claim (λ knows h. (h.0, variable-sound q p dims h.1)) first-done.0)
              (under-claim (λ knows h. ((first-done.1 (before further.0 knows) h.0 (variable-sound q p dims h.1)).scope, h.1)) further.0),
          λ knows h sound.
              let one = first-done.1 (before further.0 knows) h (variable-sound q p dims sound) in
              let more = further.1 knows one.scope sound in
              record { code = all-fit one.code more.code; numbers = All-append (λ i. i < length body.locals) d.numbers rest.numbers one.numbers more.numbers; scope = more.scope },
          loops-append d.code rest.code first-done.2 further.2,
        )))
