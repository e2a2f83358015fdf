-- Types by their class and type arguments, and lists of types.
use Rattle.std.proofs.Common.{◌≡◌, ℕ, List, [], ◌∷◌, refl, ap, ◌∙◌}
use Rattle.std.specs.Prelude.{Bool, ◌&&◌}
use Rattle.je_core.specs.declared.types.Base.{Base}
use Rattle.je_core.specs.declared.types.Base.TheVariants as base
use Rattle.je_scopes.specs.SourceTypes.{SourceType, SourceTypes, plain, of_class, of_variable, same_source_type, same_source_types, source_types}
use Rattle.name_types.specs.View.{plain_shown}
use Rattle.overriding.specs.Methods.{Method, are_same_types, is_another_class, seen_in, unbounded}
use Rattle.class_methods.specs.way.Parts.{Parts, is_other_if, parts_of, seen_if}

pub same_lists : (ts us : List SourceType) → same_source_types (source_types ts) (source_types us) ≡ are_same_types ts us
same_lists [] [] = refl
same_lists [] (u ∷ us) = refl
same_lists (t ∷ ts) [] = refl
same_lists (t ∷ ts) (u ∷ us) = ap (λ (b : Bool). same_source_type t u && b) (same_lists ts us)

pub another_by_parts : (c : ℕ) (t : SourceType) → is_other_if c (parts_of t) ≡ is_another_class c t
another_by_parts c (plain b n) = refl
another_by_parts c (of_class d args n) = refl
another_by_parts c (of_variable d at n) = refl

pub seen_by_parts : (f : ℕ → List Method) (t : SourceType) → seen_if f (parts_of t) ≡ seen_in f t
seen_by_parts f (plain b n) = refl
seen_by_parts f (of_class d args n) = refl
seen_by_parts f (of_variable d at n) = refl

pub plain_unbounded : (b : Base) (n : ℕ) → plain_shown b n ≡ unbounded b n
plain_unbounded base.Bool n = refl
plain_unbounded base.Byte n = refl
plain_unbounded base.Short n = refl
plain_unbounded base.Char n = refl
plain_unbounded base.Int n = refl
plain_unbounded base.Long n = refl
plain_unbounded base.Null n = refl
plain_unbounded base.Void n = refl
plain_unbounded (base.Class c) n = refl

abbrev pub parts : ℕ → SourceTypes → Parts
parts c args = record { class = c; arguments = args }
