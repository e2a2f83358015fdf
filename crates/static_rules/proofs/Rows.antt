-- Worked rows: each beside its nearest neighbour.
use Rattle.std.proofs.Common.{◌≡◌, ℕ, List, [], None, refl}
use Rattle.std.specs.Prelude.{Bool, true, false}
use Rattle.je_base.specs.declared.span.Span.{Span}
use Rattle.je_core.specs.declared.program.Access.TheVariants as access
use Rattle.je_core.specs.declared.types.Base.TheVariants as base
use Rattle.je_core.specs.declared.types.Ty.{Ty}
use Rattle.je_core.specs.Core.{CoreField, CoreMethod, CoreProgram}
use Rattle.rule_breaks.specs.declared.rules.ConfinementRule.TheVariants as rule
use Rattle.rule_breaks.specs.Breaks.{none, ◌∪◌, break_at}
use Rattle.overlay_types.specs.Overlay.{has}
use Rattle.static_rules.specs.StaticRules.{static_field_breaks, method_breaks}

at : Span
at = record { file = 0; start = 22; end = 23 }

program : CoreProgram
program = record { classes = []; texts = [] }

int : Ty
int = record { base = base.Int; dims = 0 }

ints : Ty
ints = record { base = base.Int; dims = 1 }

field : Bool → Bool → Ty → CoreField
field is_static is_final t =
    record { name = record { 0 = 0 }; span = at; ty = t; is_static = is_static; is_final = is_final; access = access.Package; constant = None }

method : Bool → Bool → CoreMethod
method is_native is_finalizer = record {
  name = record { 0 = 0 };
  span = at;
  params = [];
  returns = int;
  flags = record { is_static = false; is_final = false; is_abstract = false; is_native = is_native; is_finalizer = is_finalizer; access = access.Package };
  throws = [];
  locals = [];
  body = None;
}

-- `static final int n`, `static int n`, `static final int[] n`, `int n`
fields : (static_field_breaks program [] (field true true int) ≡ none) × (static_field_breaks program [] (field true false int) ≡ break_at rule.StaticField at) × (static_field_breaks program [] (field true true ints) ≡ break_at rule.StaticField at) × (static_field_breaks program [] (field false false int) ≡ none)
unfolding program int ints field has
fields = (refl, refl, refl, refl)

-- a native method, a finalizer, a native finalizer, and neither
methods : (method_breaks (method true false) ≡ (break_at rule.NativeMethod at ∪ none)) × (method_breaks (method false true) ≡ (none ∪ break_at rule.Finalizer at)) × (method_breaks (method true true) ≡ (break_at rule.NativeMethod at ∪ break_at rule.Finalizer at)) × (method_breaks (method false false) ≡ (none ∪ none))
unfolding method
methods = (refl, refl, refl, refl)
