-- A written type is seen as its layer.
use Rattle.std.proofs.Common.{◌≡◌, List, [], ◌∷◌, map, refl, ◌∙◌}
use Rattle.je_ast.specs.declared.ty_name.TyName.{TyName, out-TyName, map-TyName, fold_out-TyName}
use Rattle.je_ast.specs.declared.ty_name.TyName.TheOpen as node
use Rattle.je_ast.specs.Types.{TypeName, class_type, name_view, type_view, type_node_view, type_layer, type_names}

gone : (ts : List TyName) → map (λ t. t) (map type_view ts) ≡ map type_view ts
gone [] = refl
gone (t ∷ ts) = rw (gone ts) refl

layered : (f : node.TyName-F TyName) → type_layer (λ t. t) (map-TyName TyName TypeName type_view f) ≡ type_layer type_view f
layered (node.Primitive p dims s) = refl
layered (node.Class n args dims s) = λ i. class_type (name_view n) (type_names (gone args.items i)) dims s

pub type_is : (t : TyName) → type_view t ≡ type_node_view t
unfolding type_view
type_is t = fold_out-TyName TypeName (type_layer (λ t. t)) t ∙ layered (out-TyName t)
