-- Selectors by the base of a primitive type.
use Rattle.std.proofs.Common.{◌≡◌, zero, suc, refl}
use Rattle.je_core.specs.declared.types.Base.TheVariants as base
use Rattle.je_scopes.specs.SourceTypes.{SourceType, plain, of_class, of_variable}
use Rattle.je_typing.specs.Typed.{primitive}
use Rattle.statement_steps.specs.Switches.{is_selector}
use Rattle.statement_steps.specs.way.Selecting.{is_selector_if}

pub selector_by_base : (t : SourceType) → is_selector_if (primitive t) ≡ is_selector t
selector_by_base (plain base.Bool zero) = refl
selector_by_base (plain base.Byte zero) = refl
selector_by_base (plain base.Short zero) = refl
selector_by_base (plain base.Char zero) = refl
selector_by_base (plain base.Int zero) = refl
selector_by_base (plain base.Long zero) = refl
selector_by_base (plain base.Null zero) = refl
selector_by_base (plain base.Void zero) = refl
selector_by_base (plain (base.Class c) zero) = refl
selector_by_base (plain b (suc n)) = refl
selector_by_base (of_class c ts n) = refl
selector_by_base (of_variable c i n) = refl
