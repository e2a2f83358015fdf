-- The numbers of the library's words tell them apart.
use Rattle.std.proofs.Common.{◌≡◌, ℕ, List, Option, Some, None, refl, sym, ap, ◌∙◌}
use Rattle.std.specs.Prelude.{true, is_some, slice_get, unwrap_or}
use Rattle.std.specs.List.{Contains}
use Rattle.je_base.specs.declared.span.NameId.{NameId}
use Rattle.je_base.specs.Names.{name_at, number_of}
use Rattle.je_base.proofs.Numbering.{number-text}
use Rattle.class_names.specs.Words.{AreNumbered, library_words}
use Rattle.library_classes.specs.Laws.{ProgramsStand}
use Rattle.library_classes.specs.Numbers.{number_in}

-- the text of its number
text_there : (names : List (List ℕ)) (word : List ℕ) → is_some (number_of names word) ≡ true → slice_get names (number_in names word).0 ≡ Some word
text_there names word e = by (number_of names word) refl e
  where
    by : (o : Option NameId) → number_of names word ≡ o → is_some o ≡ true → slice_get names (unwrap_or o (name_at 0)).0 ≡ Some word
    by None r h = absurd (cc)
    by (Some id) r h = number-text names word id r

pub one_text : (names : List (List ℕ)) → AreNumbered names library_words → (x y : List ℕ) → Contains library_words x → Contains library_words y →
    number_in names x ≡ number_in names y → x ≡ y
one_text names are x y cx cy e =
    let tx = text_there names x (are x cx) in
    let ty = text_there names y (are y cy) in
    let both : Some x ≡ Some y = sym tx ∙ ap (λ (id : NameId). slice_get names id.0) e ∙ ty in
    cc

pub programs_stand : ProgramsStand
programs_stand names program others are e = record { number = number_in names; one_text = one_text names are; others = others; first = e }
