-- Words of the library have numbers of their own.
use Rattle.std.proofs.Common.{◌≡◌, ℕ, List, refl, arith}
use Rattle.std.specs.Prelude.{true, false}
use Rattle.std.specs.List.{list_any}
use Rattle.std.specs.Str.{bytes_eq}
use Rattle.std.proofs.lemmas.Bool.Decides.{nat_tests}
use Rattle.std.proofs.lemmas.Slice.Eq.{bytes_eq-Decides}
use Rattle.je_base.specs.declared.span.NameId.{NameId}
use Rattle.je_classes.proofs.Lists.{bool_cases}
use Rattle.je_scopes.specs.Headers.{same_name}
use Rattle.je_scopes.specs.Source.{Source}
use Rattle.class_names.specs.Words.{AreNumbered, library_words}
use Rattle.class_typing.specs.Programs.{number}
use Rattle.library_classes.proofs.Standing.{one_text}
use Rattle.elaborated_laws.proofs.Methods.{same-numbers, word-there}

pub same-itself : (x : NameId) → same_name x x ≡ true
same-itself x = grind (arith, nat_tests)

pub names-differ : (source : Source) → AreNumbered source.texts library_words → (v w : List ℕ) →
    list_any (bytes_eq v) library_words ≡ true → list_any (bytes_eq w) library_words ≡ true → bytes_eq v w ≡ false →
    same_name (number source v) (number source w) ≡ false
names-differ source numbered v w there here differ =
    bool_cases (λ b. b ≡ false) (same_name (number source v) (number source w))
    (λ yes. let one : v ≡ w = one_text source.texts numbered v w (word-there v there) (word-there w here)
    (same-numbers (number source v) (number source w) yes) in
    let same : bytes_eq v w ≡ true = (bytes_eq-Decides v w).1 one in absurd cc)
    (λ no. refl)
