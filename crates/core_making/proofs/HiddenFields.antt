-- The hidden fields of a class, by their names and types.
use Rattle.std.proofs.Common.{◌≡◌, ℕ, List, [], ◌∷◌, ◌++◌, map, Option, Some, None, refl, sym, ap, ◌∙◌, append_assoc}
use Rattle.std.specs.Prelude.{Bool, true, false, codes, if◌then◌else◌}
use Rattle.je_base.specs.declared.span.NameId.{NameId}
use Rattle.je_base.specs.declared.span.Span.{Span}
use Rattle.je_core.specs.Core.{CoreField}
use Rattle.je_fitting.specs.Types.{int, string}
use Rattle.je_scopes.specs.Headers.{site_at, span_in}
use Rattle.je_scopes.specs.SourceTypes.{SourceType}
use Rattle.source_types.specs.Erasure.{erased}
use Rattle.declarations.specs.Declarations.{is_enum_sort}
use Rattle.name_typing.specs.Program.{Program}
use Rattle.class_typing.specs.Classes.{captured_name, enum_names, hidden_from, names_before, outer_names}
use Rattle.class_typing.specs.Programs.{CapturedLocal, captured_type, enclosing, enum_types, number, outer_types, types_before}
use Rattle.core_making.specs.way.HiddenFields.{captured_field, enum_fields, hidden, hidden_fields, outer_field}

module _ (p : Program) (captured : ℕ → List CapturedLocal) (c : ℕ) where
  abbrev span : Span
  span = span_in (site_at p.source.sites c).written

  -- an enum's two
  of-enum : (b : Bool) → hidden_from p captured c (enum_names p captured c b) (enum_types p.source b)
      ≡ (if b then hidden span (number p.source (codes "name")) string ∷ hidden span (number p.source (codes "ordinal")) int ∷ [] else [])
  unfolding erased
  of-enum true = refl
  of-enum false = refl

  -- the captured ones, and others behind them
  of-captured : (ls : List CapturedLocal) (xs : List NameId) (ts : List SourceType) →
      hidden_from p captured c (map (captured_name p captured c) ls ++ xs) (map (captured_type p.source) ls ++ ts)
      ≡ map (captured_field p span) ls ++ hidden_from p captured c xs ts
  of-captured [] xs ts = refl
  of-captured (l ∷ ls) xs ts = ap (λ (fs : List CoreField). captured_field p span l ∷ fs) (of-captured ls xs ts)

  -- that with the instance round it, and others behind it
  of-outer : (o : Option ℕ) (xs : List NameId) (ts : List SourceType) →
      hidden_from p captured c (outer_names p captured c o ++ xs) (outer_types p.source o ++ ts)
      ≡ outer_field p span o ++ hidden_from p captured c xs ts
  unfolding erased
  of-outer None xs ts = refl
  of-outer (Some d) xs ts = refl

  pub hidden_by_kind : hidden_from p captured c (names_before p captured c) (types_before p.source captured c) ≡ hidden_fields p c (captured c)
  hidden_by_kind =
      (λ i. hidden_from p captured c
      (append_assoc (outer_names p captured c (enclosing p.source c)) (map (captured_name p captured c) (captured c))
      (enum_names p captured c (is_enum_sort (site_at p.source.sites c).sort)) i)
      (append_assoc (outer_types p.source (enclosing p.source c)) (map (captured_type p.source) (captured c))
      (enum_types p.source (is_enum_sort (site_at p.source.sites c).sort)) i))
      ∙ of-outer (enclosing p.source c) _ _
      ∙ ap (λ (fs : List CoreField). outer_field p span (enclosing p.source c) ++ fs)
      (of-captured (captured c) _ _
      ∙ ap (λ (fs : List CoreField). map (captured_field p span) (captured c) ++ fs) (of-enum (is_enum_sort (site_at p.source.sites c).sort)))
      ∙ sym (append_assoc (outer_field p span (enclosing p.source c)) (map (captured_field p span) (captured c))
      (enum_fields p span c))
