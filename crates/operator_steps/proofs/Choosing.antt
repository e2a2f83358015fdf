-- The constant that `? :` chooses of three, and its type.
use Rattle.std.proofs.Common.{◌≡◌, Bool, true, false, Option, Some, None, refl, sym, ap, ◌∙◌}
use Rattle.std.specs.Prelude.{◌&&◌, is_some, option_map, if◌then◌else◌}
use Rattle.je_core.specs.declared.making.Mark.{Mark}
use Rattle.je_core.specs.declared.types.Base.{Base}
use Rattle.je_core.specs.declared.types.Base.TheVariants as base
use Rattle.je_core.specs.declared.value.Value.{Value}
use Rattle.je_core.specs.declared.value.Value.TheVariants as value
use Rattle.je_core.specs.Core.{Core, CoreForm}
use Rattle.je_classes.specs.Subtypes.{same_base}
use Rattle.je_scopes.specs.SourceTypes.{SourceType}
use Rattle.je_typing.specs.Conditionals.{chosen_form, form_or, is_byte_or_short, number_choice, primitive_choice, takes_constant}
use Rattle.je_typing.specs.Promotion.{promoted_base, wider_if}
use Rattle.je_typing.specs.Typed.{is_primitive_base, primitive}
use Rattle.typed_nodes.specs.way.Kept.{kept_option}
use Rattle.typed_nodes.proofs.PrimitiveBases.{base-kept, wider-kept, primitive_is_primitive}
use Rattle.operator_steps.specs.way.Choosing.{marked, marked_if, truth_in}

-- ---- the type of two primitive operands is primitive

either-kept : (c : Bool) (a : Base) (o : Option Base) → is_primitive_base a ≡ true → kept_option is_primitive_base o ≡ true → kept_option is_primitive_base (if c then Some a else o) ≡ true
either-kept true a o h k = h
either-kept false a o h k = k

chosen-kept : (a b : Base) (v w : Option Value) → is_primitive_base a ≡ true → is_primitive_base b ≡ true → kept_option is_primitive_base (primitive_choice a b v w) ≡ true
chosen-kept a b v w h k =
    either-kept (same_base a b) a (number_choice a b v w) h
    (either-kept (is_byte_or_short a && is_byte_or_short b) base.Short (if takes_constant a b w then Some a else (if takes_constant b a v then Some b else wider_if (promoted_base a) (promoted_base b))) refl
    (either-kept (takes_constant a b w) a (if takes_constant b a v then Some b else wider_if (promoted_base a) (promoted_base b)) h
    (either-kept (takes_constant b a v) b (wider_if (promoted_base a) (promoted_base b)) k
    (wider-kept (promoted_base a) (promoted_base b) (base-kept a) (base-kept b)))))

pub choice_is_kept : (s t : SourceType) (a b : Base) (v w : Option Value) → primitive s ≡ Some a → primitive t ≡ Some b → kept_option is_primitive_base (primitive_choice a b v w) ≡ true
choice_is_kept s t a b v w e f = chosen-kept a b v w (primitive_is_primitive s a e) (primitive_is_primitive t b f)

pub is_kept : (o : Option Base) (b : Base) → o ≡ Some b → kept_option is_primitive_base o ≡ true → is_primitive_base b ≡ true
is_kept o b e h = ap (kept_option is_primitive_base) (sym e) ∙ h

-- ---- of three constants one

pub none_chosen : (v : Option Value) (x y : Option CoreForm) → truth_in v ≡ None → chosen_form v x y ≡ None
none_chosen None x y e = refl
none_chosen (Some (value.Bool b)) x y e = absurd cc
none_chosen (Some (value.Byte z)) x y e = refl
none_chosen (Some (value.Short z)) x y e = refl
none_chosen (Some (value.Char n)) x y e = refl
none_chosen (Some (value.Int z)) x y e = refl
none_chosen (Some (value.Long z)) x y e = refl
none_chosen (Some value.Null) x y e = refl
none_chosen (Some (value.Ref o)) x y e = refl

first-none : (v : Option Value) (y : Option CoreForm) → chosen_form v None y ≡ None
first-none None y = refl
first-none (Some (value.Bool true)) y = refl
first-none (Some (value.Bool false)) y = refl
first-none (Some (value.Byte z)) y = refl
first-none (Some (value.Short z)) y = refl
first-none (Some (value.Char n)) y = refl
first-none (Some (value.Int z)) y = refl
first-none (Some (value.Long z)) y = refl
first-none (Some value.Null) y = refl
first-none (Some (value.Ref o)) y = refl

second-none : (v : Option Value) (x : Option CoreForm) → chosen_form v x None ≡ None
second-none v None = first-none v None
second-none None (Some x) = refl
second-none (Some (value.Bool true)) (Some x) = refl
second-none (Some (value.Bool false)) (Some x) = refl
second-none (Some (value.Byte z)) (Some x) = refl
second-none (Some (value.Short z)) (Some x) = refl
second-none (Some (value.Char n)) (Some x) = refl
second-none (Some (value.Int z)) (Some x) = refl
second-none (Some (value.Long z)) (Some x) = refl
second-none (Some value.Null) (Some x) = refl
second-none (Some (value.Ref o)) (Some x) = refl

pub first_missing : (v : Option Value) (x y : Option CoreForm) → is_some x ≡ false → chosen_form v x y ≡ None
first_missing v None y e = first-none v y
first_missing v (Some x) y e = absurd cc

pub second_missing : (v : Option Value) (x y : Option CoreForm) → is_some y ≡ false → chosen_form v x y ≡ None
second_missing v x None e = second-none v x
second_missing v x (Some y) e = absurd cc

pub one_chosen : (v : Option Value) (x y : Option CoreForm) (b : Bool) → truth_in v ≡ Some b → is_some x ≡ true → is_some y ≡ true → chosen_form v x y ≡ (if b then x else y)
one_chosen (Some (value.Bool true)) (Some x) (Some y) true e f g = refl
one_chosen (Some (value.Bool false)) (Some x) (Some y) false e f g = refl
one_chosen (Some (value.Bool true)) (Some x) (Some y) false e f g = absurd cc
one_chosen (Some (value.Bool false)) (Some x) (Some y) true e f g = absurd cc
one_chosen v None y b e f g = absurd cc
one_chosen v (Some x) None b e f g = absurd cc
one_chosen None (Some x) (Some y) b e f g = absurd cc
one_chosen (Some (value.Byte z)) (Some x) (Some y) b e f g = absurd cc
one_chosen (Some (value.Short z)) (Some x) (Some y) b e f g = absurd cc
one_chosen (Some (value.Char n)) (Some x) (Some y) b e f g = absurd cc
one_chosen (Some (value.Int z)) (Some x) (Some y) b e f g = absurd cc
one_chosen (Some (value.Long z)) (Some x) (Some y) b e f g = absurd cc
one_chosen (Some value.Null) (Some x) (Some y) b e f g = absurd cc
one_chosen (Some (value.Ref o)) (Some x) (Some y) b e f g = absurd cc

pub ruleset chosen = (none_chosen, first_missing, second_missing, one_chosen)

-- ---- the constant, or the node that is made

pub is_formed : (mark : Mark) (o : Option CoreForm) (form : CoreForm) (n : Core) → Some n ≡ marked_if mark o → n ≡ marked mark (form_or o form)
is_formed mark None form n e = absurd cc
is_formed mark (Some k) form n e = cc

pub is_unformed : (mark : Mark) (o : Option CoreForm) (form : CoreForm) → None ≡ marked_if mark o → form_or o form ≡ form
is_unformed mark None form e = refl
is_unformed mark (Some k) form e = absurd cc

pub ruleset formed = (is_formed, is_unformed)
