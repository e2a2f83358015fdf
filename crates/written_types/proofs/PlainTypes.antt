-- Type arguments that are written of a class without any.
use Rattle.std.proofs.Common.{◌≡◌, ℕ, suc, refl, List}
use Rattle.je_core.specs.declared.types.Base.{Base}
use Rattle.je_core.specs.declared.types.Base.TheVariants as base
use Rattle.je_ast.specs.Types.{TypeNames, no_types, more_types}
use Rattle.je_scopes.specs.SourceTypes.{no_source_types}
use Rattle.name_types.specs.View.{plain_shown}
use Rattle.source_types.specs.Heads.{ClassHead}
use Rattle.std.specs.Prelude.{true, Option, Some, None}
use Rattle.je_scopes.specs.SourceTypes.{SourceType}
use Rattle.je_typing.specs.Judged.{gives, bind, check}
use Rattle.header_typing.specs.WrittenTypes.{bounded, bounded_from, bound_if, is_in_bound}

nothing-to-bound : (heads : List ClassHead) (c : ℕ) (bound : Option SourceType) → is_in_bound heads c no_source_types bound None ≡ true
nothing-to-bound heads c None = refl
nothing-to-bound heads c (Some b) = refl

none-to-bound : (heads : List ClassHead) (c at : ℕ) (ts : TypeNames) → bounded_from heads c no_source_types at ts ≡ gives tt
unfolding bind check
none-to-bound heads c at no_types = refl
none-to-bound heads c at (more_types t ts) = rw (nothing-to-bound heads c (bound_if heads c at)) (none-to-bound heads c (suc at) ts)

pub plain_is_bounded : (heads : List ClassHead) (b : Base) (n : ℕ) (ts : TypeNames) → bounded heads (plain_shown b n) ts ≡ gives tt
unfolding bounded
plain_is_bounded heads base.Bool n ts = refl
plain_is_bounded heads base.Byte n ts = refl
plain_is_bounded heads base.Short n ts = refl
plain_is_bounded heads base.Char n ts = refl
plain_is_bounded heads base.Int n ts = refl
plain_is_bounded heads base.Long n ts = refl
plain_is_bounded heads base.Null n ts = refl
plain_is_bounded heads base.Void n ts = refl
plain_is_bounded heads (base.Class c) n ts = none-to-bound heads c.0 0 ts
