-- How many first values class variables have, and the place of a constant string.
use Rattle.std.proofs.Common.{◌≡◌, ◌<◌, ℕ, suc, ◌+◌, List, [], ◌∷◌, ◌++◌, length, filter, drop, Some, ap, ◌∙◌, arith}
use Rattle.std.specs.Prelude.{flat_map}
use Rattle.std.specs.List.{sum_by}
use Rattle.std.proofs.Math.Seq.{drop-cons}
use Rattle.std.proofs.Math.ListN.{length-append}
use Rattle.std.proofs.lemmas.List.{length-map}
use Rattle.std.proofs.lemmas.List.Concat.{length-flat_map}
use Rattle.std.proofs.lemmas.List.Sums.{length-filter}
use Rattle.std.proofs.lemmas.Option.{slice_get_within}
use Rattle.je_base.specs.Names.{place_of}
use Rattle.je_base.proofs.Numbering.{place-text}
use Rattle.je_classes.specs.Statics.{is_static, static_count}
use Rattle.je_core.specs.Core.{CoreClass}
use Rattle.je_java.specs.Classes.{statics_of}
use Rattle.je_load.proofs.Beginning.{length-text_references}
use Rattle.je_load.specs.Loading.{first_value, reference, text_references, variables_of}

pub place_within : (texts : List (List ℕ)) (units : List ℕ) (place : ℕ) → place_of texts units ≡ Some place → place < length texts
place_within texts units place e = slice_get_within texts place units (place-text texts units place e)

pub references_step : (number place : ℕ) (texts : List (List ℕ)) → place < length texts →
    text_references (number + place) (drop place texts) ≡ reference (number + place) ∷ text_references (number + (place + 1)) (drop (place + 1) texts)
references_step number place texts below =
    ap (text_references (number + place)) (drop-cons texts place [] below)
    ∙ (λ i. reference (number + place) ∷ text_references (next i) (drop (one i) texts))
  where
    next : suc (number + place) ≡ number + (place + 1)
    next = omega arith

    one : suc place ≡ place + 1
    one = omega arith

length-variables_of : (texts : List (List ℕ)) (number : ℕ) (class : CoreClass) → length (variables_of texts number class) ≡ static_count class
length-variables_of texts number class =
    length-map (filter is_static class.fields) (first_value texts number) ∙ length-filter is_static class.fields

-- as many as there are static fields and constant strings
pub length-statics : (texts : List (List ℕ)) (number : ℕ) (classes : List CoreClass) →
    length (flat_map (variables_of texts number) classes ++ text_references number texts) ≡ statics_of classes + length texts
length-statics texts number classes =
    length-append (flat_map (variables_of texts number) classes) (text_references number texts)
    ∙ (λ i. length-flat_map (variables_of texts number) classes i + length-text_references number texts i)
    ∙ (λ i. sum_by (λ class. length-variables_of texts number class i) classes + length texts)
