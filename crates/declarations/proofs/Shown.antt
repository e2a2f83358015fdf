-- What types without a name's arguments show.
use Rattle.std.proofs.Common.{◌≡◌, ℕ, Bool, true, false, nat_eq, List, map, refl, sym, ap, ◌∙◌}
use Rattle.std.specs.Prelude.{if◌then◌else◌}
use Rattle.std.proofs.lemmas.Bool.{eqb-true}
use Rattle.je_classes.proofs.Lists.{bool_cases}
use Rattle.je_core.specs.declared.program.Flags.{Flags}
use Rattle.je_core.specs.declared.types.ClassId.{ClassId}
use Rattle.je_core.specs.declared.types.Base.TheVariants as base
use Rattle.je_ast.specs.declared.name.Identifier.{Identifier}
use Rattle.je_core.specs.declared.program.Access.TheVariants as access
use Rattle.je_scopes.specs.Looks.{a_class}
use Rattle.je_scopes.specs.Members.{MethodSite, constant_site, method_part}
use Rattle.je_scopes.specs.Source.{Source}
use Rattle.je_scopes.specs.SourceTypes.{SourceType, plain, of_class, no_source_types, arity_of, null_type, type_for}
use Rattle.declarations.specs.Declarations.{DeclaredField, DeclaredMethod, declared_field, declared_method, flags_of, parameter_type, result_at, thrown_type}
use Rattle.name_types.specs.declared.types.SrcTy.{roll-SrcTy}
use Rattle.name_types.specs.declared.types.SrcBase.{Plain}
use Rattle.name_types.specs.View.{shown}
use Rattle.name_types.proofs.Bases.{plain_base}
use Rattle.name_types.proofs.Views.{rolled_is}

pub class_shown_plain : (c : ClassId) → shown (roll-SrcTy (record { base = Plain (base.Class c); dims = 0 })) ≡ of_class c.0 no_source_types 0
class_shown_plain c = rolled_is _ ∙ plain_base (base.Class c) 0

pub void_shown : shown (roll-SrcTy (record { base = Plain base.Void; dims = 0 })) ≡ plain base.Void 0
void_shown = rolled_is _ ∙ plain_base base.Void 0

-- a constant of an enum, by its type
pub constant_shown : (name : Identifier) (c : ClassId) (t : SourceType) → t ≡ of_class c.0 no_source_types 0 → (p : Source) →
    ◌≡◌ {A = DeclaredField} (record { name = name; ty = t; is_static = true; is_final = true; access = access.Public }) (declared_field p c.0 (constant_site name))
constant_shown name c t e p = ap (λ (k : SourceType). to-field name k) e
  where
    to-field : Identifier → SourceType → DeclaredField
    to-field name k = record { name = name; ty = k; is_static = true; is_final = true; access = access.Public }

-- a class that takes no type arguments, without any; and one that takes some
pub counted : (p : Source) (c : ℕ) → arity_of p c ≡ 0 → of_class c no_source_types 0 ≡ type_for p (a_class c) 0 no_source_types 0
counted p c e = ap (λ (n : ℕ). if nat_eq 0 n then of_class c no_source_types 0 else null_type 0) (sym e)

pub not_counted : (p : Source) (c : ℕ) → (arity_of p c ≡ 0 → ⊥) → null_type 0 ≡ type_for p (a_class c) 0 no_source_types 0
not_counted p c h = ap (λ (b : Bool). if b then of_class c no_source_types 0 else null_type 0) (sym none)
  where
    none : nat_eq 0 (arity_of p c) ≡ false
    none = bool_cases (λ b. b ≡ false) (nat_eq 0 (arity_of p c)) (λ e. absurd (h (sym (eqb-true 0 (arity_of p c) e)))) (λ e. refl)

-- a method, by the types that its head writes and by its flags
pub method_is : (p : Source) (c : ℕ) (m : MethodSite) (parameters throws : List SourceType) (result : SourceType) (flags : Flags) →
    parameters ≡ map (parameter_type p c (method_part m)) m.formals → result ≡ result_at p c (method_part m) m.result → throws ≡ map (thrown_type p c (method_part m)) m.throws → flags ≡ flags_of p c m →
    ◌≡◌ {A = DeclaredMethod} (record { name = m.name; is_constructor = m.is_constructor; parameters = parameters; result = result; throws = throws; flags = flags }) (declared_method p c m)
method_is p c m parameters throws result flags e f g h = λ i. record { name = m.name; is_constructor = m.is_constructor; parameters = e i; result = f i; throws = g i; flags = h i }
