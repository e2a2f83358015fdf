-- The first class of which a test holds, one class after the other.
use Rattle.std.proofs.Common.{◌≡◌, ℕ, suc, ◌+◌, ◌<◌, ◌≤◌, Bool, true, false, not, cond, nat_lt, List, [], ◌∷◌, ◌++◌, length, take, get_or, Option, Some, None, option_map, if◌then◌else◌, refl, sym, ap, ◌∙◌, arith}
use Rattle.std.specs.List.{position, position_or_len}
use Rattle.std.proofs.lemmas.Bool.Decides.{nat_tests}
use Rattle.std.proofs.lemmas.List.{take_all, take_more, length-take-le}
use Rattle.std.proofs.lemmas.Option.{slice_get-get_or}
use Rattle.je_base.specs.declared.span.Span.{Span}
use Rattle.je_ast.specs.declared.name.Identifier.{Identifier}
use Rattle.je_scopes.specs.Headers.{or_nothing, site_at}
use Rattle.je_scopes.specs.Sites.{Site, Written, in_library, declared, behind_new}
use Rattle.body_typing.specs.Expressions.{is_behind}
use Rattle.name_sites.specs.ByName.{or_else}
use Rattle.body_typing.specs.LocalClasses.{is_declared_at}
use Rattle.class_spots.specs.Starts.{at_start, name_in, word_in}

-- ---- in a list with one element more

module _ {X : Type 0} (test : X → Bool) where
  first-or-later : (b : Bool) (n l : ℕ) → cond (nat_lt (cond (not b) (1 + n) 0) (suc l)) (Some (cond (not b) (1 + n) 0)) None
      ≡ (if b then Some 0 else option_map suc (cond (nat_lt n l) (Some n) None))
  first-or-later true n l = let e : nat_lt 0 (suc l) ≡ true = grind (arith, nat_tests) in rw e refl
  first-or-later false n l = by (nat_lt n l) refl
    where
      by : (b : Bool) → nat_lt n l ≡ b → cond (nat_lt (1 + n) (suc l)) (Some (1 + n)) None ≡ option_map suc (cond b (Some n) None)
      by true e = let f : nat_lt (1 + n) (suc l) ≡ true = grind (arith, nat_tests) in let g : 1 + n ≡ suc n = omega arith in rw (f, g) refl
      by false e = let f : nat_lt (1 + n) (suc l) ≡ false = grind (arith, nat_tests) in rw f refl

  position-cons : (x : X) (xs : List X) → position test (x ∷ xs) ≡ (if test x then Some 0 else option_map suc (position test xs))
  position-cons x xs = first-or-later (test x) (position_or_len test xs) (length xs)

  one-later : (b c : Bool) (o : Option ℕ) (n : ℕ) → (if b then Some 0 else option_map suc (or_else o (if c then Some n else None)))
      ≡ or_else (if b then Some 0 else option_map suc o) (if c then Some (suc n) else None)
  one-later true c o n = refl
  one-later false true None n = refl
  one-later false true (Some m) n = refl
  one-later false false None n = refl
  one-later false false (Some m) n = refl

  position-push : (xs : List X) (y : X) → position test (xs ++ y ∷ []) ≡ or_else (position test xs) (if test y then Some (length xs) else None)
  position-push [] y = position-cons y []
  position-push (x ∷ xs) y =
      position-cons x (xs ++ y ∷ []) ∙ ap (λ o. if test x then Some 0 else option_map suc o) (position-push xs y)
      ∙ one-later (test x) (test y) (position test xs) (length xs) ∙ ap (λ o. or_else o (if test y then Some (length (x ∷ xs)) else None)) (sym (position-cons x xs))

-- ---- among the classes up to one

module _ (sites : List Site) (at : ℕ) (test : Site → Bool) (old : Option ℕ) (met : old ≡ position test (take at sites)) where
  pub first_on : (new found : Option ℕ) → at < length sites → new ≡ or_else old found → found ≡ (if test (site_at sites at) then Some at else None) → new ≡ position test (take (at + 1) sites)
  first_on new found within e f =
      let s : get_or sites at (site_at sites at) ≡ site_at sites at = sym (ap or_nothing (slice_get-get_or sites at (site_at sites at) within)) in
      let more : take (at + 1) sites ≡ take at sites ++ site_at sites at ∷ [] = take_more sites at (site_at sites at) within ∙ ap (λ (k : Site). take at sites ++ k ∷ []) s in
      let l : length (take at sites) ≡ at = length-take-le at sites (omega (arith, within)) in
      e ∙ ap (λ o. or_else o found) met ∙ ap (or_else (position test (take at sites))) (f ∙ ap (λ (n : ℕ). if test (site_at sites at) then Some n else None) (sym l))
      ∙ sym (position-push test (take at sites) (site_at sites at)) ∙ ap (position test) (sym more)

  pub first_of_all : length sites ≤ at → old ≡ position test sites
  first_of_all past = met ∙ ap (position test) (take_all at sites past)

-- ---- what is found at a class

pub word_there : (word : Span) (w : Written) (c : ℕ) → at_start (word_in w) c word ≡ (if is_behind word w then Some c else None)
word_there word in_library c = refl
word_there word (declared d) c = refl
word_there word (behind_new own t body) c = refl

pub name_there : (id : Identifier) (w : Written) (c : ℕ) → at_start (name_in w) c id.span ≡ (if is_declared_at id w then Some c else None)
name_there id in_library c = refl
name_there id (declared d) c = refl
name_there id (behind_new own t body) c = refl
