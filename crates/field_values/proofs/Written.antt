-- The values that are written of fields, class by class.
use Rattle.std.proofs.Common.{◌≡◌, ℕ, zero, suc, ◌<◌, ◌≤◌, List, [], ◌∷◌, ◌++◌, length, map, replicate, refl, sym, ap, ◌∙◌, subst}
use Rattle.std.specs.Prelude.{Option, slice_get, unwrap_or}
use Rattle.std.specs.declared.vec.Vec.{Vec}
use Rattle.std.specs.declared.alloc.Global.{Global}
use Rattle.std.proofs.lemmas.Option.{slice_get_past}
use Rattle.je_ast.specs.declared.name.Identifier.{Identifier}
use Rattle.je_classes.specs.Members.{Member}
use Rattle.je_scopes.specs.Headers.{or_nothing, site_at}
use Rattle.je_scopes.specs.Sites.{Site}
use Rattle.je_scopes.specs.Source.{Source}
use Rattle.je_scopes.proofs.Either.{by_either, within_or_past}
use Rattle.name_typing.specs.Program.{Program}
use Rattle.class_typing.specs.ConstantFields.{constant_value, field_value, hidden_values, unwritten, written_values}
use Rattle.class_typing.specs.ConstantFields as words
use Rattle.field_values.specs.declared.values.FieldValue.{FieldValue}
use Rattle.field_values.specs.Values.{value_at, values_in}

pub all_unwritten : (ids : List Identifier) → map constant_value ids ≡ replicate (length ids) unwritten
all_unwritten [] = refl
all_unwritten (id ∷ ids) = ap (λ (vs : List words.FieldValue). unwritten ∷ vs) (all_unwritten ids)

module _ (p : Program) (hidden : ℕ → ℕ) where
  hidden-all : (n : ℕ) → replicate n unwritten ≡ hidden_values p hidden n
  hidden-all zero = refl
  hidden-all (suc n) = ap (λ (vs : List words.FieldValue). unwritten ∷ vs) (hidden-all n)

  hidden-alone : (n at : ℕ) → unwrap_or (slice_get (hidden_values p hidden n ++ []) at) unwritten ≡ unwritten
  hidden-alone zero at = refl
  hidden-alone (suc n) zero = refl
  hidden-alone (suc n) (suc at) = hidden-alone n at

  module _ (all : List (Vec FieldValue Global)) where
    values-are : length all ≡ length p.source.sites →
        ((c : ℕ) → c < length p.source.sites → values_in (slice_get all c) ≡ replicate (hidden c) unwritten ++ written_values (site_at p.source.sites c).written) →
        value_at all ≡ field_value p hidden
    values-are whole each = λ i. λ m. here m i
      where
        here : (m : Member) → value_at all m ≡ field_value p hidden m
        here m = by_either
            (λ l. ap (λ (vs : List words.FieldValue). unwrap_or (slice_get vs m.at) unwritten)
            (each m.class.0 l ∙ ap (λ (vs : List words.FieldValue). vs ++ written_values (site_at p.source.sites m.class.0).written) (hidden-all (hidden m.class.0))))
            (λ l. ap (λ (o : Option (Vec FieldValue Global)). unwrap_or (slice_get (values_in o) m.at) unwritten)
            (slice_get_past all m.class.0 (subst (λ (n : ℕ). n ≤ m.class.0) (sym whole) l))
            ∙ sym (ap (λ (o : Option Site). unwrap_or (slice_get (hidden_values p hidden (hidden m.class.0) ++ written_values (or_nothing o).written) m.at) unwritten) (slice_get_past p.source.sites m.class.0 l)
            ∙ hidden-alone (hidden m.class.0) m.at))
            (within_or_past m.class.0 (length p.source.sites))

    -- of all classes of a source
    pub values_of_all : (s : Source) → p.source ≡ s → length all ≡ length s.sites →
        ((c : ℕ) → c < length s.sites → values_in (slice_get all c) ≡ replicate (hidden c) unwritten ++ written_values (site_at s.sites c).written) →
        value_at all ≡ field_value p hidden
    values_of_all s e = subst (λ (k : Source). length all ≡ length k.sites →
        ((c : ℕ) → c < length k.sites → values_in (slice_get all c) ≡ replicate (hidden c) unwritten ++ written_values (site_at k.sites c).written) →
        value_at all ≡ field_value p hidden) e values-are
