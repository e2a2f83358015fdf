-- The classes of `java.lang` by names, name by name.
use Rattle.std.proofs.Common.{◌≡◌, ℕ, ◌+◌, ◌<◌, List, [], ◌∷◌, ◌++◌, length, take, get_or, Option, ◌∙◌, sym, ap}
use Rattle.std.specs.Prelude.{slice_get}
use Rattle.std.proofs.lemmas.List.{map-append, take_more}
use Rattle.std.proofs.lemmas.Option.{slice_get-get_or}
use Rattle.je_base.specs.declared.span.NameId.{NameId}
use Rattle.je_scopes.specs.Source.{or_empty, text_in}
use Rattle.name_sites.specs.Library.{implicit_number, implicit_numbers}

pub implicit_more : (names : List (List ℕ)) (at : ℕ) (id : NameId) (simple : List ℕ) (class : Option ℕ) (old new : List (Option ℕ))
    → at < length names → id.0 ≡ at → simple ≡ text_in names id → class ≡ implicit_number simple → old ≡ implicit_numbers (take at names) → new ≡ old ++ class ∷ []
    → new ≡ implicit_numbers (take (at + 1) names)
implicit_more names at id simple class old new within is text here before step =
    let more : take (at + 1) names ≡ take at names ++ get_or names at [] ∷ [] = take_more names at [] within in
    let there : text_in names id ≡ get_or names at [] = ap (λ (m : ℕ). or_empty (slice_get names m)) is ∙ ap or_empty (slice_get-get_or names at [] within) in
    step
    ∙ ap (λ (os : List (Option ℕ)). os ++ class ∷ []) before
    ∙ ap (λ (o : Option ℕ). implicit_numbers (take at names) ++ o ∷ []) (here ∙ ap (λ (t : List ℕ). implicit_number t) (text ∙ there))
    ∙ sym (ap (λ (ts : List (List ℕ)). implicit_numbers ts) more ∙ map-append implicit_number (take at names) (get_or names at [] ∷ []))
