-- What contracts see of source types.
use Rattle.std.specs.Prelude.{ℕ, min, List, map}
use Rattle.je_core.specs.declared.types.Base.{Base}
use Rattle.je_core.specs.declared.types.Base.TheVariants as base
use Rattle.je_scopes.specs.SourceTypes.{SourceType, SourceTypes, plain, of_class, of_variable, no_source_types, more_source_types, source_types}
use Rattle.name_types.specs.declared.types.SrcBase.{SrcBase, fold-SrcBase, out-SrcBase}
use Rattle.name_types.specs.declared.types.SrcBase.TheOpen as node
use Rattle.name_types.specs.declared.types.SrcTy.{SrcTy, fold-SrcTy}

-- a plain base of so many dimensions; a class without type arguments is one
abbrev pub plain_shown : Base → ℕ → SourceType
plain_shown (base.Class c) n = of_class c.0 no_source_types n
plain_shown b n = plain b n

-- one layer, whose type arguments are seen as `see` says
abbrev pub base_layer : {B T : Type 0} → (T → SourceType) → node.SrcBase-F B T → ℕ → SourceType
base_layer see (node.Plain b) n = plain_shown b n
base_layer see (node.Made c args) n = of_class c.0 (source_types (map see args.items)) n
base_layer see (node.Var c at) n = of_variable c.0 at n

abbrev pub type_layer : {B T : Type 0} → (B → ℕ → SourceType) → node.SrcTy-F B T → SourceType
type_layer see t = see t.base t.dims

-- a type
unfoldable pub shown : SrcTy → SourceType
shown t = fold-SrcTy (ℕ → SourceType) SourceType (base_layer (λ t. t)) (type_layer (λ b. b)) t

-- its base, with so many dimensions
unfoldable pub base_shown : SrcBase → ℕ → SourceType
base_shown b = fold-SrcBase (ℕ → SourceType) SourceType (base_layer (λ t. t)) (type_layer (λ b. b)) b

abbrev pub all_shown : List SrcTy → SourceTypes
all_shown ts = source_types (map shown ts)

-- a base, one layer opened
abbrev pub base_node_shown : SrcBase → ℕ → SourceType
base_node_shown b n = base_layer shown (out-SrcBase b) n

-- A type of which no more than 255 dimensions count, its own and its type arguments' (JVMS 4.3.2).
abbrev mutual
  pub in_limit : SourceType → SourceType
  in_limit (plain b n) = plain b (min 255 n)
  in_limit (of_class c ts n) = of_class c (all_in_limit ts) (min 255 n)
  in_limit (of_variable c at n) = of_variable c at (min 255 n)

  pub all_in_limit : SourceTypes → SourceTypes
  all_in_limit no_source_types = no_source_types
  all_in_limit (more_source_types t ts) = more_source_types (in_limit t) (all_in_limit ts)
