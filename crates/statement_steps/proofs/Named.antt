-- Which class a type in memory names.
use Rattle.std.proofs.Common.{◌≡◌, ℕ, zero, suc, refl, ap, sym, ◌∙◌}
use Rattle.std.specs.Prelude.{Option, Some, None, option_map}
use Rattle.je_core.specs.declared.types.ClassId.{ClassId}
use Rattle.je_scopes.specs.SourceTypes.{SourceType, plain, of_class, of_variable}
use Rattle.source_types.specs.Erasure.{class_numbered}
use Rattle.source_types.specs.Subtypes.{dims_of}
use Rattle.name_types.specs.declared.types.SrcTy.{SrcTy}
use Rattle.name_types.specs.View.{shown}
use Rattle.source_subtypes.proofs.Equal.{shown-dims}
use Rattle.header_typing.specs.Supers.{class_in}
use Rattle.statement_steps.specs.Thrown.{class_named}

found : (t : SourceType) (class : Option ClassId) → dims_of t ≡ 0 → option_map (λ (c : ClassId). c.0) class ≡ class_in t → class ≡ class_named t
found (plain b n) None d e = refl
found (plain b n) (Some c) d e = cc
found (of_class k args zero) None d e = cc
found (of_class k args zero) (Some c) d e = let same : c.0 ≡ k = cc in ap (λ (j : ℕ). Some (class_numbered j)) same
found (of_class k args (suc n)) class d e = cc
found (of_variable k at n) None d e = refl
found (of_variable k at n) (Some c) d e = cc

nothing : (t : SourceType) → (dims_of t ≡ 0 → ⊥) → None ≡ class_named t
nothing (plain b n) h = refl
nothing (of_class k args zero) h = absurd (h refl)
nothing (of_class k args (suc n)) h = refl
nothing (of_variable k at n) h = refl

pub the_class : (t : SrcTy) (class : Option ClassId) → t.dims ≡ 0 → option_map (λ (c : ClassId). c.0) class ≡ class_in (shown t) → class ≡ class_named (shown t)
the_class t class d e = found (shown t) class (shown-dims t ∙ d) e

pub no_class : (t : SrcTy) → (t.dims ≡ 0 → ⊥) → None ≡ class_named (shown t)
no_class t h = nothing (shown t) (λ e. h (sym (shown-dims t) ∙ e))
