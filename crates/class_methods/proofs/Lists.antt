-- What a filter keeps, one element at a time, and what passes tests.
use Rattle.std.proofs.Common.{◌≡◌, List, [], ◌∷◌, ◌++◌, map, refl, sym, ap, ◌∙◌}
use Rattle.std.specs.Prelude.{Bool, true, false, not, ◌&&◌, ◌||◌, cond, filter}
use Rattle.std.specs.List.{flat_map, list_all, list_any}
use Rattle.std.proofs.lemmas.List.{map-append}
use Rattle.std.proofs.lemmas.List.Elements.{filter-append}
use Rattle.std.proofs.lemmas.List.Folds.{list_any-append}
use Rattle.source_types.specs.Heads.{ClassHead}
use Rattle.overriding.specs.Methods.{Method, abstract_in, is_overridden}
use Rattle.class_methods.specs.Above.{HasSame}

one-of-both : (a b : Bool) → (a && not b) ≡ not (not a || b)
one-of-both true b = refl
one-of-both false b = refl

module _ {A : Type 0} where
  pub filter_kept : (p : A → Bool) (xs : List A) (x : A) → p x ≡ true → filter p (xs ++ x ∷ []) ≡ filter p xs ++ x ∷ []
  filter_kept p xs x e = filter-append p xs (x ∷ []) ∙ ap (λ (b : Bool). filter p xs ++ cond b (x ∷ []) []) e

  append-none : (xs : List A) → xs ++ [] ≡ xs
  append-none [] = refl
  append-none (x ∷ xs) = ap (λ (ys : List A). x ∷ ys) (append-none xs)

  pub filter_left : (p : A → Bool) (xs : List A) (x : A) → p x ≡ false → filter p (xs ++ x ∷ []) ≡ filter p xs
  filter_left p xs x e = filter-append p xs (x ∷ []) ∙ ap (λ (b : Bool). filter p xs ++ cond b (x ∷ []) []) e ∙ append-none (filter p xs)

  pub map_more : {B : Type 0} (f : A → B) (xs : List A) (x : A) → map f (xs ++ x ∷ []) ≡ map f xs ++ f x ∷ []
  map_more f xs x = map-append f xs (x ∷ [])

  -- ---- tests

  kept-test : (test : A → Bool) (x : A) (b : Bool) (ys : List A) → list_any test (cond b (x ∷ ys) ys) ≡ ((b && test x) || list_any test ys)
  kept-test test x true ys = refl
  kept-test test x false ys = refl

  pub any-filter : (test p : A → Bool) (xs : List A) → list_any test (filter p xs) ≡ list_any (λ x. p x && test x) xs
  any-filter test p [] = refl
  any-filter test p (x ∷ xs) = kept-test test x (p x) (filter p xs) ∙ ap (λ (b : Bool). (p x && test x) || b) (any-filter test p xs)

  pub any-flat : {B : Type 0} (test : B → Bool) (f : A → List B) (xs : List A) → list_any test (flat_map f xs) ≡ list_any (λ x. list_any test (f x)) xs
  any-flat test f [] = refl
  any-flat test f (x ∷ xs) = list_any-append test (f x) (flat_map f xs) ∙ ap (λ (b : Bool). list_any test (f x) || b) (any-flat test f xs)

  pub all-any : (p : A → Bool) (xs : List A) → list_all p xs ≡ not (list_any (λ x. not (p x)) xs)
  all-any p [] = refl
  all-any p (x ∷ xs) = ap (λ (b : Bool). p x && b) (all-any p xs) ∙ one-of-both (p x) (list_any (λ x. not (p x)) xs)

  pub same_any : (test : A → Bool) (b : Bool) (xs ys : List A) → HasSame xs ys → b ≡ list_any test xs → b ≡ list_any test ys
  same_any test b xs ys h e = e ∙ h.each test

  pub same_all : (p : A → Bool) (b : Bool) (xs ys : List A) → HasSame xs ys → b ≡ list_all p xs → b ≡ list_all p ys
  same_all p b xs ys h e = e ∙ all-any p xs ∙ ap not (h.each (λ x. not (p x))) ∙ sym (all-any p ys)

-- ---- what a class doesn't override

abbrev pub kept_of : List ClassHead → List Method → Bool → List Method → List Method
kept_of heads own is_interface ms = map (abstract_in is_interface) (filter (λ m. not (is_overridden heads own m)) ms)

pub one_kept : (heads : List ClassHead) (own : List Method) (b : Bool) (ms : List Method) (m : Method) → is_overridden heads own m ≡ false →
    kept_of heads own b (ms ++ m ∷ []) ≡ kept_of heads own b ms ++ abstract_in b m ∷ []
one_kept heads own b ms m e =
    ap (map (abstract_in b)) (filter_kept (λ k. not (is_overridden heads own k)) ms m (ap not e))
    ∙ map_more (abstract_in b) (filter (λ k. not (is_overridden heads own k)) ms) m

pub one_left : (heads : List ClassHead) (own : List Method) (b : Bool) (ms : List Method) (m : Method) → is_overridden heads own m ≡ true →
    kept_of heads own b (ms ++ m ∷ []) ≡ kept_of heads own b ms
one_left heads own b ms m e = ap (map (abstract_in b)) (filter_left (λ k. not (is_overridden heads own k)) ms m (ap not e))

-- what a test says of two lists, one behind the other
pub ruleset appended = (list_any-append)
