-- What the functions that read heads give, without where it lies in memory.
use Rattle.std.specs.Prelude.{◌≡◌, ℕ, ◌≤◌, max, List, map, Option, option_map, IfSome, Vec}
use Rattle.std.specs.declared.alloc.Global.{Global}
use Rattle.je_ast.specs.declared.decl.TypeParam.{TypeParam}
use Rattle.je_ast.specs.Types.{type_views_of, type_view_of_option, types_height, TypeParameter, parameter_view}
use Rattle.je_ast.specs.Height.{parameters_height, type_height_if}
use Rattle.parse_laws.specs.way.Tokens.{Read}
use Rattle.parse_laws.specs.way.Members as read
use Rattle.parse_types.specs.declared.rest_of_type.Rest.{Rest}
use Rattle.parse_types.specs.declared.heads.Part.{Part}
use Rattle.parse_types.specs.declared.heads.ClassHead.{ClassHead}
use Rattle.parse_types.specs.declared.heads.InterfaceHead.{InterfaceHead}
use Rattle.parse_types.specs.way.Views.{seen_rest}

abbrev pub seen_part : {T A : Type 0} → (T → A) → Option (Part T) → Read A
seen_part see o = option_map (λ x. (see x.tree, seen_rest x.rest)) o

abbrev pub PartHeight : {T : Type 0} → (T → ℕ) → ℕ → Option (Part T) → Type 0
PartHeight height_of limit o = IfSome o (λ x. (x.height ≡ height_of x.tree) × (x.height ≤ limit))

abbrev pub parameters_view : Vec TypeParam Global → List TypeParameter
parameters_view ps = map parameter_view ps.items

abbrev pub seen_parameter : Option (TypeParam × ℕ × Rest) → Read TypeParameter
seen_parameter o = option_map (λ x. (parameter_view x.0, seen_rest x.2)) o

abbrev pub ParameterHeight : ℕ → Option (TypeParam × ℕ × Rest) → Type 0
ParameterHeight limit o = IfSome o (λ x. (x.1 ≡ type_height_if (parameter_view x.0).bound) × (x.1 ≤ limit))

abbrev pub seen_class_head : Option ClassHead → Read read.ClassHead
seen_class_head o = option_map (λ x. (record { name = x.name; parameters = parameters_view x.params; extends = type_view_of_option x.extends; implements = type_views_of x.implements.items }, x.rest.now)) o

abbrev pub ClassHeadHeight : ℕ → Option ClassHead → Type 0
ClassHeadHeight limit o = IfSome o (λ x. (x.height ≡ max (parameters_height (parameters_view x.params)) (max (type_height_if (type_view_of_option x.extends)) (types_height (type_views_of x.implements.items)))) × (x.height ≤ limit))

abbrev pub seen_interface_head : Option InterfaceHead → Read read.InterfaceHead
seen_interface_head o = option_map (λ x. (record { name = x.name; parameters = parameters_view x.params; extends = type_views_of x.extends.items }, x.rest.now)) o

abbrev pub InterfaceHeadHeight : ℕ → Option InterfaceHead → Type 0
InterfaceHeadHeight limit o = IfSome o (λ x. (x.height ≡ max (parameters_height (parameters_view x.params)) (types_height (type_views_of x.extends.items))) × (x.height ≤ limit))
