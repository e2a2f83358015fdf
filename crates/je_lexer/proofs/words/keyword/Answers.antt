-- What `get` gives is the element at the place.
use Rattle.std.proofs.Common.{sym, ◌∙◌, ap, ◌≡◌, ◌<◌, ◌≤◌, ℕ, List, Option, Some, None, Bor, length, refl, arith}
use Rattle.std.specs.List.{ItemBy, slice_get}
use Rattle.std.specs.Option.{option_copied}
use Rattle.std.proofs.lemmas.Bool.Decides.{nat_tests}
use Rattle.std.proofs.lemmas.Option.{slice_get_past, slice_get_read}
use Rattle.je_lexer.specs.Words.{keyword_of, keyword_at, all_keywords}
use Rattle.je_lexer.proofs.words.keyword.Goals as goal

get_item : {X : Type 0} (xs : List X) (i : ℕ) (r : Option (Bor X)) → ItemBy (λ (x : Bor X). x.now) xs i i r → option_copied r ≡ slice_get xs i
get_item xs i None item = let test = item.0 in let past : length xs ≤ i = grind (arith, nat_tests, test) in sym (slice_get_past xs i past)
get_item xs i (Some x) item = let test = item.0 in let inside : i < length xs = grind (arith, nat_tests, test) in sym (slice_get_read xs (length xs) i x.now refl inside item.1)

pub returns : goal.returns
unfolding keyword_of
returns c = c.copied.ensures ∙ get_item all_keywords c.in_ok-at.at c.get.result c.get.ensures.lookup ∙ ap keyword_at c.in_ok-at.ensures
