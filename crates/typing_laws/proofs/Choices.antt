-- The conditional operator fits where its operands do.
use Rattle.std.proofs.Common.{◌≡◌, ℕ, ℤ, ◌+◌, ◌≤◌, List, [], ◌∷◌, ◌++◌, Option, Some, None, option_map, refl, sym, ap, ◌∙◌, subst, inl, inr}
use Rattle.std.specs.Prelude.{Bool, true, false, cond, ◌&&◌, ◌||◌, count_by, nat_eq, if◌then◌else◌}
use Rattle.std.specs.Str.{bytes_eq}
use Rattle.std.proofs.lemmas.Bool.{eqb-true, eq-eqb}
use Rattle.std.proofs.lemmas.Slice.Eq.{bytes_eq-Decides}
use Rattle.std.proofs.lemmas.Option.{none-some, same_Some}
use Rattle.je_base.specs.declared.span.Span.{Span}
use Rattle.je_core.specs.declared.expr.Use.{Use}
use Rattle.je_core.specs.declared.types.Base.{Base}
use Rattle.je_core.specs.declared.types.Base.TheVariants as base
use Rattle.je_core.specs.declared.types.Ty.{Ty}
use Rattle.je_core.specs.declared.value.Value.{Value}
use Rattle.je_core.specs.declared.value.Value.TheVariants as value
use Rattle.je_core.specs.Core.{Core, CoreForm, CoreProgram, node, form_of, ty_of}
use Rattle.je_core.specs.Core as core
use Rattle.je_classes.specs.Subtypes as types
use Rattle.je_classes.specs.Subtypes.{same_base}
use Rattle.je_classes.proofs.Lists.{bool_cases}
use Rattle.je_classes.proofs.Same.{same_base-equal, same_base-refl}
use Rattle.je_fitting.specs.Expressions.{Body, Fits, are_there}
use Rattle.je_fitting.specs.Expressions as fits
use Rattle.je_fitting.specs.Types.{agrees, bool, is_bool, is_number_base, of, string}
use Rattle.je_fitting.proofs.Booleans.{two, both}
use Rattle.je_scopes.specs.SourceTypes.{SourceType, plain}
use Rattle.plain_programs.specs.Nodes.{every}
use Rattle.source_types.specs.Erasure.{erased}
use Rattle.source_types.specs.Heads.{ClassHead}
use Rattle.source_types.specs.Subtypes.{dims_of, is_subtype}
use Rattle.je_typing.specs.declared.fault.TypeRule.TheVariants.{BadCondition, BadOperand}
use Rattle.je_typing.specs.Conditionals.{choice, choice_form, choice_node, choice_of, choice_type, choice_uses, chosen_form, constant_form, form_or, is_byte_or_short, number_choice, primitive_choice, reference_choice, takes_constant}
use Rattle.je_typing.specs.Constants.{constant_text, constant_value, uses_of, value_in}
use Rattle.je_typing.specs.Conversions.{converted, converted_if, holds_if, small_number}
use Rattle.je_typing.specs.Judged.{bind, check, gives, need}
use Rattle.je_typing.specs.Promotion.{promoted_base, wider, wider_if}
use Rattle.je_typing.specs.Typed.{TypedNode, is_boolean, is_primitive_base, is_void, primitive, primitive_type}
use Rattle.typing_laws.specs.Correspondence.{HasHeads}
use Rattle.typing_laws.specs.Fitting.{FitsAs, Gives, stands_once, with_texts}
use Rattle.typing_laws.specs.Laws.{ChoicesFit}
use Rattle.typing_laws.specs.Passing.{PassesAs}
use Rattle.typing_laws.proofs.Assigned.{primitive-is, by-subtype, held-number, to-base}
use Rattle.typing_laws.proofs.Assignments.{agrees-itself}
use Rattle.typing_laws.proofs.Erased.{erased-not-void}
use Rattle.typing_laws.proofs.Nodes.{CanBe, boolean-type, converted-type, erased-plain, no-uses, uses-together}
use Rattle.typing_laws.proofs.Operators.{boolean-operand, wider-number}
use Rattle.typing_laws.proofs.Subtypes.{or-left, or-right}
use Rattle.typing_laws.proofs.Values.{HasType, typed-in}

-- ---- primitive operands: the type of the whole is that of one, or both are numbers

both-numbers : (a b c : Base) → is_number_base a ≡ true → is_number_base b ≡ true → is_number_base c ≡ true → CanBe a c × CanBe b c
both-numbers a b c h k n = (inr (h, n), inr (k, n))

promoted-number : (a c : Base) → promoted_base a ≡ Some c → (is_number_base a ≡ true) × (is_number_base c ≡ true)
promoted-number base.Byte c e = (refl, ap is_number_base (sym (same_Some base.Int c e)))
promoted-number base.Short c e = (refl, ap is_number_base (sym (same_Some base.Int c e)))
promoted-number base.Char c e = (refl, ap is_number_base (sym (same_Some base.Int c e)))
promoted-number base.Int c e = (refl, ap is_number_base (sym (same_Some base.Int c e)))
promoted-number base.Long c e = (refl, ap is_number_base (sym (same_Some base.Long c e)))
promoted-number base.Bool c e = absurd (none-some c e)
promoted-number base.Null c e = absurd (none-some c e)
promoted-number base.Void c e = absurd (none-some c e)
promoted-number (base.Class d) c e = absurd (none-some c e)

small-number : (a : Base) → is_byte_or_short a ≡ true → is_number_base a ≡ true
small-number base.Byte h = refl
small-number base.Short h = refl
small-number base.Char h = absurd cc
small-number base.Int h = absurd cc
small-number base.Long h = absurd cc
small-number base.Bool h = absurd cc
small-number base.Null h = absurd cc
small-number base.Void h = absurd cc
small-number (base.Class d) h = absurd cc

-- an int constant that fits the other type: both are numbers
constant-number : (a b : Base) (v : Option Value) → takes_constant a b v ≡ true → (is_number_base a ≡ true) × (is_number_base b ≡ true)
constant-number a base.Int None h = absurd cc
constant-number a base.Int (Some v) h = (held (small_number v) h, refl)
  where
    held : (o : Option ℤ) → holds_if a o ≡ true → is_number_base a ≡ true
    held None k = absurd cc
    held (Some z) k = held-number a z k
constant-number a base.Byte v h = absurd cc
constant-number a base.Short v h = absurd cc
constant-number a base.Char v h = absurd cc
constant-number a base.Long v h = absurd cc
constant-number a base.Bool v h = absurd cc
constant-number a base.Null v h = absurd cc
constant-number a base.Void v h = absurd cc
constant-number a (base.Class d) v h = absurd cc

wider-choice : (a b c : Base) → wider_if (promoted_base a) (promoted_base b) ≡ Some c → CanBe a c × CanBe b c
wider-choice a b c e = by (promoted_base a) refl (promoted_base b) refl e
  where
    by : (x : Option Base) → promoted_base a ≡ x → (y : Option Base) → promoted_base b ≡ y → wider_if x y ≡ Some c → CanBe a c × CanBe b c
    by None p y q h = absurd (none-some c h)
    by (Some d) p None q h = absurd (none-some c h)
    by (Some d) p (Some f) q h =
        let m = promoted-number a d p in let n = promoted-number b f q in
        both-numbers a b c m.0 n.0 (ap is_number_base (sym (same_Some (wider d f) c h)) ∙ wider-number d f n.1)

number-choices : (a b c : Base) (v w : Option Value) → number_choice a b v w ≡ Some c → CanBe a c × CanBe b c
number-choices a b c v w e = bool_cases (λ t. (is_byte_or_short a && is_byte_or_short b) ≡ t
    → (if t then Some base.Short else (if takes_constant a b w then Some a else (if takes_constant b a v then Some b else wider_if (promoted_base a) (promoted_base b)))) ≡ Some c → CanBe a c × CanBe b c) (is_byte_or_short a && is_byte_or_short b)
    (λ _ k h. let m = two {a = is_byte_or_short a} k in both-numbers a b c (small-number a m.0) (small-number b m.1) (ap is_number_base (sym (same_Some base.Short c h))))
    (λ _ k h. bool_cases (λ t. takes_constant a b w ≡ t → (if t then Some a else (if takes_constant b a v then Some b else wider_if (promoted_base a) (promoted_base b))) ≡ Some c → CanBe a c × CanBe b c) (takes_constant a b w)
    (λ _ m x. let n = constant-number a b w m in both-numbers a b c n.0 n.1 (ap is_number_base (sym (same_Some a c x)) ∙ n.0))
    (λ _ m x. bool_cases (λ t. takes_constant b a v ≡ t → (if t then Some b else wider_if (promoted_base a) (promoted_base b)) ≡ Some c → CanBe a c × CanBe b c) (takes_constant b a v)
    (λ _ q y. let n = constant-number b a v q in both-numbers a b c n.1 n.0 (ap is_number_base (sym (same_Some b c y)) ∙ n.0))
    (λ _ q y. wider-choice a b c y) refl x) refl h) refl e

choices : (a b c : Base) (v w : Option Value) → primitive_choice a b v w ≡ Some c → CanBe a c × CanBe b c
choices a b c v w e = bool_cases (λ t. same_base a b ≡ t → (if t then Some a else number_choice a b v w) ≡ Some c → CanBe a c × CanBe b c) (same_base a b)
    (λ _ k h. let m : a ≡ c = same_Some a c h in (inl m, inl (sym (same_base-equal a b k) ∙ m)))
    (λ _ k h. number-choices a b c v w h) refl e

-- it is primitive
chosen-primitive : (a b c : Base) → is_primitive_base a ≡ true → CanBe a c → is_primitive_base c ≡ true
chosen-primitive a b c k (inl e) = ap is_primitive_base (sym e) ∙ k
chosen-primitive a b c k (inr q) = number-primitive c q.1
  where
    number-primitive : (c : Base) → is_number_base c ≡ true → is_primitive_base c ≡ true
    number-primitive base.Byte h = refl
    number-primitive base.Short h = refl
    number-primitive base.Char h = refl
    number-primitive base.Int h = refl
    number-primitive base.Long h = refl
    number-primitive base.Bool h = absurd cc
    number-primitive base.Null h = absurd cc
    number-primitive base.Void h = absurd cc
    number-primitive (base.Class d) h = absurd cc

-- ---- of three constants one

-- a text stands once in the list of it alone
stands-alone : (u : List ℕ) (us : List Use) (ty : Ty) (span at : Span) → every (stands_once (u ∷ [])) (node (core.Text u us) ty span at) ≡ true
stands-alone u us ty span at = ap (λ b. nat_eq (0 + cond b 1 0) 1 && true) ((bytes_eq-Decides u u).1 refl)

-- what a form is, if there is one
abbrev IfForm : (CoreForm → Type 0) → Option CoreForm → Type 0
IfForm P None = Unit {0}
IfForm P (Some form) = P form

if-some : (P : CoreForm → Type 0) (o : Option CoreForm) (form : CoreForm) → IfForm P o → o ≡ Some form → P form
if-some P None form h e = absurd (none-some form e)
if-some P (Some f) form h e = subst P (same_Some f form e) h

-- both are there where one is chosen
chosen-is : (P : CoreForm → Type 0) (c : Option Value) (first other : Option CoreForm) → ((f g : CoreForm) → first ≡ Some f → other ≡ Some g → P f × P g) → IfForm P (chosen_form c first other)
chosen-is P (Some (value.Bool true)) (Some y) (Some n) h = (h y n refl refl).0
chosen-is P (Some (value.Bool false)) (Some y) (Some n) h = (h y n refl refl).1
chosen-is P _ _ _ h = tt

module _ (p : CoreProgram) (body : Body) (heads : List ClassHead) (at condition_span span : Span) (condition first other : TypedNode) (known : HasHeads p heads)
    (c : FitsAs p body heads condition) (y : FitsAs p body heads first) (n : FitsAs p body heads other) where
  abbrev uses : List Use
  uses = choice_uses condition.node first.node other.node

  uses-there : are_there p uses
  uses-there = uses-together p body heads (uses_of condition.node ++ uses_of first.node) (uses_of other.node)
      (uses-together p body heads (uses_of condition.node) (uses_of first.node) c.uses y.uses) n.uses

  -- the two values of a whole of a type
  record Sides (t : SourceType) (b : Option Base) : Type 0 where
    left : PassesAs p body heads t (converted_if b first.node)
    right : PassesAs p body heads t (converted_if b other.node)
    one : (types.same_type (ty_of (converted_if b first.node)) (erased heads t) || types.same_type (ty_of (converted_if b other.node)) (erased heads t)) ≡ true

  -- a constant of a type
  abbrev FitsForm : SourceType → CoreForm → Type 0
  FitsForm t form = FitsAs p body heads (record { node = node form (erased heads t) span at; type = t })

  choose-fits : (t : SourceType) (b : Option Base) → Sides t b → ty_of condition.node ≡ bool → FitsForm t (core.Choose condition.node (converted_if b first.node) (converted_if b other.node))
  choose-fits t b s k = record {
    node = λ texts h.
        let both-sides = two {a = every (stands_once texts) condition.node && every (stands_once texts) (converted_if b first.node)} h in
        let sides = two {a = every (stands_once texts) condition.node} both-sides.0 in
        fits.choose (c.node texts sides.0) (ap is_bool k) (s.left.node texts sides.1) (s.left.agree texts) (s.right.node texts both-sides.1) (s.right.agree texts) s.one;
    uses = no-uses p body heads;
    type = refl;
  }

  form-fits : (t : SourceType) (b : Option Base) (o : Option CoreForm) → IfForm (FitsForm t) o → FitsForm t (core.Choose condition.node (converted_if b first.node) (converted_if b other.node))
      → FitsForm t (form_or o (core.Choose condition.node (converted_if b first.node) (converted_if b other.node)))
  form-fits t b None h k = k
  form-fits t b (Some form) h k = h

  whole-fits : (t : SourceType) (b : Option Base) → primitive t ≡ b → Sides t b
      → ((f g : CoreForm) → constant_form b first.node uses ≡ Some f → constant_form b other.node uses ≡ Some g → FitsForm t f × FitsForm t g)
      → ty_of condition.node ≡ bool → FitsAs p body heads (record { node = choice_node heads t at span condition.node first.node other.node; type = t })
  whole-fits t b e s h q = subst (λ x. FitsForm t (choice_form x condition.node first.node other.node)) (sym e)
      (form-fits t b (chosen_form (constant_value condition.node) (constant_form b first.node uses) (constant_form b other.node uses))
      (chosen-is (FitsForm t) (constant_value condition.node) (constant_form b first.node uses) (constant_form b other.node uses) h)
      (choose-fits t b s q))

  -- ---- numbers and booleans

  own-type : (t : TypedNode) → FitsAs p body heads t → (a : Base) → t.type ≡ plain a 0 → ty_of t.node ≡ of a
  own-type t fit a e = fit.type ∙ ap (erased heads) e ∙ erased-plain heads a

  const-form : (b : Base) (o : Option Value) → HasType (of b) o → IfForm (FitsForm (plain b 0)) (option_map (λ v. core.Const v uses) o)
  const-form b None h = tt
  const-form b (Some v) h = record { node = λ texts k. fits.const (h ∙ ap Some (sym (erased-plain heads b))) uses-there; uses = uses-there; type = refl }

  primitive-fits : (a b d : Base) → primitive first.type ≡ Some a → primitive other.type ≡ Some b → primitive_choice a b (constant_value first.node) (constant_value other.node) ≡ Some d → ty_of condition.node ≡ bool
      → FitsAs p body heads (record { node = choice_node heads (plain d 0) at span condition.node first.node other.node; type = plain d 0 })
  primitive-fits a b d e f g q =
      let i = primitive-is first.type a e in
      let j = primitive-is other.type b f in
      let can = choices a b d (constant_value first.node) (constant_value other.node) g in
      let prim = chosen-primitive a b d i.known can.0 in
      let kept : primitive (plain d 0) ≡ Some d = ap (λ x. if x then Some d else None) prim in
      whole-fits (plain d 0) (Some d) kept
      (record {
        left = to-base p body heads first known y d a prim (own-type first y a i.is) can.0;
        right = to-base p body heads other known n d b prim (own-type other n b j.is) can.1;
        one = or-left (types.same_type (ty_of (converted d first.node)) (erased heads (plain d 0))) (types.same_type (ty_of (converted d other.node)) (erased heads (plain d 0)))
            (ap (λ (u : Ty). types.same_type u (erased heads (plain d 0))) (converted-type d first.node) ∙ ap (types.same_type (of d)) (erased-plain heads d) ∙ same_base-refl d);
      })
      (λ f g x z. (
        if-some _ _ f (const-form d (value_in d (constant_value first.node)) (typed-in d (constant_value first.node))) x,
        if-some _ _ g (const-form d (value_in d (constant_value other.node)) (typed-in d (constant_value other.node))) z,
      ))
      q

  -- ---- references

  text-type : (t : TypedNode) → FitsAs p body heads t → (units : List ℕ) → constant_text t.node ≡ Some units → ty_of t.node ≡ string
  text-type t fit units e = by t.node fit.node e
    where
      text-fits : {q : CoreProgram} (u : List ℕ) (us : List Use) (ty : Ty) (sp tok : Span) → Fits q body (node (core.Text u us) ty sp tok) → ty ≡ string
      text-fits u us ty sp tok (fits.text once there) = refl

      by : (m : Core) → ((texts : List (List ℕ)) → every (stands_once texts) m ≡ true → Fits (with_texts p texts) body m) → constant_text m ≡ Some units → ty_of m ≡ string
      by (node (core.Text u us) ty sp tok) f e = text-fits u us ty sp tok (f (u ∷ []) (stands-alone u us ty sp tok))
      by (node _ ty sp tok) f e = absurd (none-some units e)

  text-fits : (t : SourceType) (units : List ℕ) → erased heads t ≡ string → FitsForm t (core.Text units uses)
  text-fits t units h = record {
    node = λ texts k. subst (λ (u : Ty). Fits (with_texts p texts) body (node (core.Text units uses) u span at)) (sym h)
        (fits.text (eqb-true (count_by (λ u. bytes_eq u units) texts) 1 (two {a = nat_eq (count_by (λ u. bytes_eq u units) texts) 1} k).0) uses-there);
    uses = uses-there;
    type = refl;
  }

  -- of two constant strings the whole is one too
  texts-fit : (t : SourceType) → ((ty_of first.node ≡ string) → (ty_of other.node ≡ string) → erased heads t ≡ string)
      → (v w : Option (List ℕ)) → constant_text first.node ≡ v → constant_text other.node ≡ w
      → (f g : CoreForm) → option_map (λ units. core.Text units uses) v ≡ Some f → option_map (λ units. core.Text units uses) w ≡ Some g → FitsForm t f × FitsForm t g
  texts-fit t h None w a b f g x z = absurd (none-some f x)
  texts-fit t h (Some u) None a b f g x z = absurd (none-some g z)
  texts-fit t h (Some u) (Some v) a b f g x z =
      let e = h (text-type first y u a) (text-type other n v b) in
      (subst (FitsForm t) (same_Some (core.Text u uses) f x) (text-fits t u e), subst (FitsForm t) (same_Some (core.Text v uses) g z) (text-fits t v e))

  module _ (few-first : dims_of first.type ≤ 255) (few-other : dims_of other.type ≤ 255) (first-value : is_void first.type ≡ false) (other-value : is_void other.type ≡ false) where
    -- a value is of its own type
    itself : (t : TypedNode) → FitsAs p body heads t → is_void t.type ≡ false → PassesAs p body heads t.type t.node
    itself t fit h = record {
      node = fit.node;
      agree = λ texts. ap (λ (u : Ty). agrees (with_texts p texts) u (erased heads t.type)) fit.type
          ∙ agrees-itself (with_texts p texts) (erased heads t.type).base (erased heads t.type).dims (erased-not-void heads known.bounds t.type h);
    }

    same-erased : (t : TypedNode) → FitsAs p body heads t → types.same_type (ty_of t.node) (erased heads t.type) ≡ true
    same-erased t fit = ap (λ (u : Ty). types.same_type u (erased heads t.type)) fit.type ∙ both (eq-eqb (erased heads t.type).dims (erased heads t.type).dims refl) (same_base-refl (erased heads t.type).base)

    other-type : primitive other.type ≡ None → is_subtype heads first.type other.type ≡ true → ty_of condition.node ≡ bool
        → FitsAs p body heads (record { node = choice_node heads other.type at span condition.node first.node other.node; type = other.type })
    other-type e h q = whole-fits other.type None e
        (record {
          left = by-subtype p body heads first known y other.type few-first few-other h;
          right = itself other n other-value;
          one = or-right (types.same_type (ty_of first.node) (erased heads other.type)) (types.same_type (ty_of other.node) (erased heads other.type)) (same-erased other n);
        })
        (texts-fit other.type (λ a b. sym n.type ∙ b) (constant_text first.node) (constant_text other.node) refl refl) q

    first-type : primitive first.type ≡ None → is_subtype heads other.type first.type ≡ true → ty_of condition.node ≡ bool
        → FitsAs p body heads (record { node = choice_node heads first.type at span condition.node first.node other.node; type = first.type })
    first-type e h q = whole-fits first.type None e
        (record {
          left = itself first y first-value;
          right = by-subtype p body heads other known n first.type few-other few-first h;
          one = or-left (types.same_type (ty_of first.node) (erased heads first.type)) (types.same_type (ty_of other.node) (erased heads first.type)) (same-erased first y);
        })
        (texts-fit first.type (λ a b. sym y.type ∙ a) (constant_text first.node) (constant_text other.node) refl refl) q

    abbrev Whole : SourceType → Type 0
    Whole t = FitsAs p body heads (record { node = choice_node heads t at span condition.node first.node other.node; type = t })

    reference-whole : (t : SourceType) → primitive first.type ≡ None → primitive other.type ≡ None → reference_choice heads first.type other.type ≡ Some t → ty_of condition.node ≡ bool → Whole t
    reference-whole t e f h q = bool_cases (λ x. is_subtype heads first.type other.type ≡ x
        → (if x then Some other.type else (if is_subtype heads other.type first.type then Some first.type else None)) ≡ Some t → Whole t) (is_subtype heads first.type other.type)
        (λ _ k z. subst Whole (same_Some other.type t z) (other-type f k q))
        (λ _ k z. bool_cases (λ x. is_subtype heads other.type first.type ≡ x → (if x then Some first.type else None) ≡ Some t → Whole t) (is_subtype heads other.type first.type)
        (λ _ m w. subst Whole (same_Some first.type t w) (first-type e m q)) (λ _ m w. absurd (none-some t w)) refl z) refl h

    by-type : (t : SourceType) → choice_type heads first other ≡ Some t → ty_of condition.node ≡ bool → Whole t
    by-type t h q = by (primitive first.type) refl (primitive other.type) refl h
      where
        mapped : (o : Option Base) → (a b : Base) → primitive first.type ≡ Some a → primitive other.type ≡ Some b → primitive_choice a b (constant_value first.node) (constant_value other.node) ≡ o → option_map primitive_type o ≡ Some t → Whole t
        mapped None a b e f g z = absurd (none-some t z)
        mapped (Some d) a b e f g z = subst Whole (same_Some (primitive_type d) t z) (primitive-fits a b d e f g q)

        by : (v : Option Base) → primitive first.type ≡ v → (w : Option Base) → primitive other.type ≡ w → choice_of heads first other v w ≡ Some t → Whole t
        by (Some a) e (Some b) f z = mapped (primitive_choice a b (constant_value first.node) (constant_value other.node)) a b e f refl z
        by None e None f z = reference-whole t e f z q
        by (Some a) e None f z = absurd (none-some t z)
        by None e (Some b) f z = absurd (none-some t z)

    behind-type : (t : SourceType) → choice_type heads first other ≡ Some t
        → Gives (FitsAs p body heads) (bind (check BadCondition condition_span (is_boolean condition.type)) (λ u. gives (record { node = choice_node heads t at span condition.node first.node other.node; type = t })))
    unfolding bind check
    behind-type t e = by (is_boolean condition.type) refl
      where
        by : (x : Bool) → is_boolean condition.type ≡ x
            → Gives (FitsAs p body heads) (bind (check BadCondition condition_span x) (λ u. gives (record { node = choice_node heads t at span condition.node first.node other.node; type = t })))
        by false h = tt
        by true h = by-type t e (boolean-type p body heads condition c (boolean-operand condition.type h))

    choice-gives : Gives (FitsAs p body heads) (choice heads at condition_span span condition first other)
    unfolding choice bind need
    choice-gives = by (choice_type heads first other) refl
      where
        by : (o : Option SourceType) → choice_type heads first other ≡ o
            → Gives (FitsAs p body heads) (bind (need BadOperand at o) (λ t. bind (check BadCondition condition_span (is_boolean condition.type)) (λ u. gives (record { node = choice_node heads t at span condition.node first.node other.node; type = t }))))
        by None e = tt
        by (Some t) e = behind-type t e

pub choices_fit : (p : CoreProgram) (body : Body) (heads : List ClassHead) → ChoicesFit p body heads
choices_fit p body heads at condition_span span condition first other known m n first-value other-value c y o = choice-gives p body heads at condition_span span condition first other known c y o m n first-value other-value
