-- Type arguments put in for type variables, and arrays over what bases show.
use Rattle.std.proofs.Common.{◌≡◌, ℕ, zero, suc, ◌+◌, min, List, [], ◌∷◌, map, refl, sym, ap, ◌∙◌}
use Rattle.std.specs.Prelude.{Bool, true, false, nat_eq, slice_get, if◌then◌else◌}
use Rattle.je_core.specs.declared.types.Base.{Base}
use Rattle.je_core.specs.declared.types.Base.TheVariants as base
use Rattle.je_scopes.specs.SourceTypes.{SourceType, SourceTypes, of_variable, source_types}
use Rattle.name_types.specs.declared.types.SrcBase.{SrcBase, out-SrcBase}
use Rattle.name_types.specs.declared.types.SrcBase.TheOpen as node
use Rattle.name_types.specs.declared.types.SrcTy.{SrcTy}
use Rattle.name_types.specs.View.{base_layer, base_shown, plain_shown, shown}
use Rattle.name_types.proofs.Views.{base_is}
use Rattle.source_types.specs.Substitution.{argument_at, array_over, in_place, substituted, all_substituted}

pub plain-stays : (c : ℕ) (args : SourceTypes) (b : Base) (n : ℕ) → plain_shown b n ≡ substituted c args (plain_shown b n)
plain-stays c args base.Bool n = refl
plain-stays c args base.Byte n = refl
plain-stays c args base.Short n = refl
plain-stays c args base.Char n = refl
plain-stays c args base.Int n = refl
plain-stays c args base.Long n = refl
plain-stays c args base.Null n = refl
plain-stays c args base.Void n = refl
plain-stays c args (base.Class d) n = refl

pub all-put : (c : ℕ) (args : SourceTypes) (ts : List SourceType) → source_types (map (substituted c args) ts) ≡ all_substituted c args (source_types ts)
all-put c args [] = refl
all-put c args (t ∷ ts) = rw (all-put c args ts) refl

pub other-variable : (c d : ℕ) (args : SourceTypes) (at n : ℕ) → nat_eq d c ≡ false → of_variable d at n ≡ substituted c args (of_variable d at n)
other-variable c d args at n e = ap (λ (b : Bool). if b then in_place (argument_at args at) d at n else of_variable d at n) (sym e)

pub own-variable : (c d : ℕ) (args : SourceTypes) (at n : ℕ) → nat_eq d c ≡ true → in_place (argument_at args at) d at n ≡ substituted c args (of_variable d at n)
own-variable c d args at n e = ap (λ (b : Bool). if b then in_place (argument_at args at) d at n else of_variable d at n) (sym e)

pub argument-listed : (ts : List SourceType) (at : ℕ) → slice_get ts at ≡ argument_at (source_types ts) at
argument-listed [] at = refl
argument-listed (t ∷ ts) zero = refl
argument-listed (t ∷ ts) (suc at) = argument-listed ts at

plain-array : (b : Base) (m n : ℕ) → plain_shown b (min 255 (m + n)) ≡ array_over (plain_shown b m) n
plain-array base.Bool m n = refl
plain-array base.Byte m n = refl
plain-array base.Short m n = refl
plain-array base.Char m n = refl
plain-array base.Int m n = refl
plain-array base.Long m n = refl
plain-array base.Null m n = refl
plain-array base.Void m n = refl
plain-array (base.Class c) m n = refl

layer-array : (f : node.SrcBase-F SrcBase SrcTy) (m n : ℕ) → base_layer shown f (min 255 (m + n)) ≡ array_over (base_layer shown f m) n
layer-array (node.Plain b) m n = plain-array b m n
layer-array (node.Made c args) m n = refl
layer-array (node.Var c at) m n = refl

pub array-shown : (b : SrcBase) (m n : ℕ) → base_shown b (min 255 (m + n)) ≡ array_over (base_shown b m) n
array-shown b m n = base_is b (min 255 (m + n)) ∙ layer-array (out-SrcBase b) m n ∙ ap (λ (t : SourceType). array_over t n) (sym (base_is b m))
