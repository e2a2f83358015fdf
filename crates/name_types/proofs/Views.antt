-- A type is seen as its base, and a base as its layer.
use Rattle.std.proofs.Common.{◌≡◌, ℕ, List, [], ◌∷◌, map, refl, ap, ◌∙◌}
use Rattle.je_scopes.specs.SourceTypes.{SourceType, of_class, source_types}
use Rattle.name_types.specs.declared.types.SrcBase.{SrcBase, out-SrcBase, map-SrcBase, fold_out-SrcBase}
use Rattle.name_types.specs.declared.types.SrcBase.TheOpen as node
use Rattle.name_types.specs.declared.types.SrcTy.{SrcTy, roll-SrcTy, fold_out-SrcTy, fold-roll-SrcTy}
use Rattle.name_types.specs.View.{base_layer, type_layer, shown, base_shown, base_node_shown}

gone : {A B : Type 0} (see : A → B) (xs : List A) → map (λ x. x) (map see xs) ≡ map see xs
gone see [] = refl
gone see (x ∷ xs) = rw (gone see xs) refl

pub type_is : (t : SrcTy) → shown t ≡ base_shown t.base t.dims
unfolding shown base_shown
type_is t = fold_out-SrcTy (ℕ → SourceType) SourceType (base_layer (λ t. t)) (type_layer (λ b. b)) t

base_layered : (f : node.SrcBase-F SrcBase SrcTy) (n : ℕ) → base_layer (λ t. t) (map-SrcBase SrcBase SrcTy (ℕ → SourceType) SourceType base_shown shown f) n ≡ base_layer shown f n
base_layered (node.Plain b) n = refl
base_layered (node.Made c args) n = λ i. of_class c.0 (source_types (gone shown args.items i)) n
base_layered (node.Var c at) n = refl

pub base_is : (b : SrcBase) (n : ℕ) → base_shown b n ≡ base_node_shown b n
unfolding shown base_shown
base_is b n = ap (λ (f : ℕ → SourceType). f n) (fold_out-SrcBase (ℕ → SourceType) SourceType (base_layer (λ t. t)) (type_layer (λ b. b)) b) ∙ base_layered (out-SrcBase b) n

pub rolled_is : (r : node.SrcTy-F SrcBase SrcTy) → shown (roll-SrcTy r) ≡ base_shown r.base r.dims
unfolding shown base_shown
rolled_is r = fold-roll-SrcTy (ℕ → SourceType) SourceType (base_layer (λ t. t)) (type_layer (λ b. b)) r
