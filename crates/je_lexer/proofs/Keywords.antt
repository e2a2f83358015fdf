-- A word is read as a keyword just where it is that keyword's text.
use Rattle.std.proofs.Common.{◌≡◌, ℕ, true, List, [], map, get_or, Option, Some, None, option_map, refl, sym, ap, ◌∙◌}
use Rattle.std.specs.List.{slice_get}
use Rattle.std.specs.Str.{bytes_eq}
use Rattle.std.proofs.lemmas.List.Quantifiers.{position-Some}
use Rattle.std.proofs.lemmas.Option.{slice_get-map, get_or_from_slice_get}
use Rattle.std.proofs.lemmas.Slice.Eq.{bytes_eq-Decides}
use Rattle.je_table.specs.Tables.{place_of}
use Rattle.je_table.specs.Words.{keywords}
use Rattle.je_token.specs.Texts.{keyword_text}
use Rattle.je_token.specs.declared.keyword.Keyword.{Keyword}
use Rattle.je_token.specs.declared.keyword.Keyword.TheVariants as keyword
use Rattle.je_lexer.specs.Words.{all_keywords, keyword_at, keyword_of}

-- the keywords' texts are the table's rows
rows : map keyword_text all_keywords ≡ keywords
rows = refl

pub spelled : (text : List ℕ) (k : Keyword) → keyword_of text ≡ Some k → text ≡ keyword_text k
unfolding keyword_of
spelled text k e = by (place_of text keywords) refl e
  where
    by : (o : Option ℕ) → place_of text keywords ≡ o → keyword_at o ≡ Some k → text ≡ keyword_text k
    by None at e = absurd (cc)
    by (Some n) at e =
        let row : slice_get keywords n ≡ Some (keyword_text k) =
        ap (λ (ts : List (List ℕ)). slice_get ts n) (sym rows) ∙ slice_get-map keyword_text all_keywords n ∙ ap (option_map keyword_text) e in
        let first : bytes_eq (get_or keywords n []) text ≡ true = (position-Some (λ row. bytes_eq row text) keywords n [] at).1 in
        sym ((bytes_eq-Decides (get_or keywords n []) text).0 first) ∙ get_or_from_slice_get keywords n (keyword_text k) [] row

pub found : (k : Keyword) → keyword_of (keyword_text k) ≡ Some k
unfolding keyword_of
found keyword.Abstract = refl
found k = refl
