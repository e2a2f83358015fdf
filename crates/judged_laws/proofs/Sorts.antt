-- Sorts of classes.
use Rattle.std.proofs.Common.{◌≡◌, ℕ, Some, refl, ap, ◌∙◌}
use Rattle.std.specs.Prelude.{Bool, true, false, if◌then◌else◌, slice_get}
use Rattle.je_core.specs.declared.program.Kind.{Kind}
use Rattle.je_core.specs.declared.program.Sort.{Sort}
use Rattle.je_core.specs.declared.program.Sort.TheVariants as sort
use Rattle.je_fitting.specs.Expressions as fitting
use Rattle.je_core.specs.Core.{CoreClass, CoreProgram}
use Rattle.je_scopes.specs.Headers.{is_interface_sort, site_at}
use Rattle.je_scopes.specs.Source.{Source}
use Rattle.declarations.specs.Declarations.{DeclaredClass, declared_class, is_enum_sort}
use Rattle.class_typing.specs.Classes.{kind_in}
use Rattle.class_typing.specs.Programs.{classes, with_enum_methods}
use Rattle.elaborated_laws.specs.Elaborated.{IsElaborated, IsMade, captured_by, program_of}
use Rattle.elaborated_laws.proofs.Declared.{classes-are, hidden-there}

pub same-sorts : (s : Sort) → fitting.is_interface_sort s ≡ is_interface_sort s
same-sorts sort.Class = refl
same-sorts sort.Interface = refl
same-sorts sort.Enum = refl
same-sorts sort.Local = refl
same-sorts sort.Anonymous = refl

pub no-interface : (s : Sort) → is_enum_sort s ≡ true → is_interface_sort s ≡ false
no-interface sort.Enum h = refl
no-interface sort.Class h = absurd cc
no-interface sort.Interface h = absurd cc
no-interface sort.Local h = absurd cc
no-interface sort.Anonymous h = absurd cc

pub no-enum : (s : Sort) → is_interface_sort s ≡ true → is_enum_sort s ≡ false
no-enum sort.Interface h = refl
no-enum sort.Class h = absurd cc
no-enum sort.Enum h = absurd cc
no-enum sort.Local h = absurd cc
no-enum sort.Anonymous h = absurd cc

pub kind-kept : (b : Bool) (d : DeclaredClass) (ms : _) → (if b then record d { methods = ms } else d).kind ≡ d.kind
kind-kept true d ms = refl
kind-kept false d ms = refl

-- a class of the core program is of the sort of its site
pub sort-is : (source : Source) (program : CoreProgram) (e : IsElaborated source program) (c : ℕ) (class : CoreClass) →
    IsMade source e.first c class →
    slice_get (classes source) c ≡ Some (with_enum_methods source c (declared_class source c)) →
    class.kind.sort ≡ (site_at source.sites c).sort
unfolding declared_class
sort-is source program e c class made there =
    let p = program_of source e.first in
    let captured = captured_by source e.first in
    let own = with_enum_methods source c (declared_class source c) in
    ap (λ (x : CoreClass). x.kind.sort) made.is
    ∙ ap (λ ds. (kind_in p captured c (slice_get ds c)).sort) (classes-are source e.first)
    ∙ ap (λ o. (kind_in p captured c o).sort) (hidden-there source captured c own there)
    ∙ ap (λ (k : Kind). k.sort) (kind-kept _ (declared_class source c) _)
