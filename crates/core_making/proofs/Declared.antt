-- Fields that a source writes, one at a time.
use Rattle.std.proofs.Common.{◌≡◌, List, [], ◌∷◌, ◌++◌, map, drop, Option, refl, sym, ap, ◌∙◌, append_assoc}
use Rattle.std.specs.Prelude.{option_map}
use Rattle.std.proofs.lemmas.List.{append-nil}
use Rattle.je_core.specs.declared.expr.Expr.{Expr}
use Rattle.je_core.specs.Core.{Core, CoreField}
use Rattle.je_core.specs.View.{view}
use Rattle.declarations.specs.Declarations.{DeclaredField}
use Rattle.declarations.specs.View.{field_shown}
use Rattle.declarations.specs.declared.class.FieldDecl.{FieldDecl}
use Rattle.name_typing.specs.Program.{Program}
use Rattle.core_making.specs.way.Made.{fields_from, next_field}

module _ (p : Program) (start : List CoreField) (ds : List DeclaredField) where
  abbrev seen-of : List (Option Expr) → List (Option Core)
  seen-of ks = map (option_map view) ks

  abbrev due : List (Option Expr) → List CoreField
  due ks = start ++ fields_from p ds (seen-of ks)

  -- with what is left, whatever constants follow those of `ys`
  abbrev pub AllWith : List CoreField → List FieldDecl → List (Option Expr) → Type 0
  AllWith old left ys = (ks : List (Option Expr)) →
      old ++ fields_from p (map field_shown left) (map (option_map view) ks) ≡ start ++ fields_from p ds (map (option_map view) (ys ++ ks))

  no-constants : (fs : List DeclaredField) → fields_from p fs [] ≡ []
  no-constants [] = refl
  no-constants (f ∷ fs) = refl

  next : (left : List FieldDecl) (k : Option Core) (ks : List (Option Core)) →
      next_field p (map field_shown left) k ++ fields_from p (map field_shown (drop 1 left)) ks ≡ fields_from p (map field_shown left) (k ∷ ks)
  next [] k ks = refl
  next (f ∷ fs) k ks = refl

  module _ (old : List CoreField) (left : List FieldDecl) (ys : List (Option Expr)) (so_far : AllWith old left ys) where
    pub field_further : (new : List CoreField) (rest : List FieldDecl) (k : Option Expr) → rest ≡ drop 1 left →
        new ≡ old ++ next_field p (map field_shown left) (option_map view k) → AllWith new rest (ys ++ k ∷ [])
    field_further new rest k behind made ks =
        (λ i. made i ++ fields_from p (map field_shown (behind i)) (seen-of ks))
        ∙ append_assoc old (next_field p (map field_shown left) (option_map view k)) (fields_from p (map field_shown (drop 1 left)) (seen-of ks))
        ∙ ap (λ (fs : List CoreField). old ++ fs) (next left (option_map view k) (seen-of ks))
        ∙ so_far (k ∷ ks)
        ∙ ap due (sym (append_assoc ys (k ∷ []) ks))

    pub all_fields : old ≡ start ++ fields_from p ds (map (option_map view) ys)
    all_fields =
        sym (append-nil old)
        ∙ ap (λ (fs : List CoreField). old ++ fs) (sym (no-constants (map field_shown left)))
        ∙ so_far []
        ∙ ap due (append-nil ys)
