-- Which methods of the library are constructors, by their names.
use Rattle.std.proofs.Common.{◌≡◌, ℕ, List, Option, Some, None, refl, sym, ap, subst, ◌∙◌, arith}
use Rattle.std.specs.Prelude.{Bool, true, false, slice_get, codes}
use Rattle.std.specs.List.{Contains, list_any}
use Rattle.std.specs.Str.{bytes_eq}
use Rattle.std.proofs.lemmas.Bool.Decides.{nat_tests}
use Rattle.std.proofs.lemmas.Slice.Eq.{bytes_eq-Decides}
use Rattle.je_base.specs.declared.span.NameId.{NameId}
use Rattle.je_core.specs.declared.types.ClassId.{ClassId}
use Rattle.je_core.specs.Core.{CoreClass, CoreMethod, CoreProgram}
use Rattle.je_classes.specs.Hierarchy.{library_class, object_class}
use Rattle.je_classes.specs.Members.{constructor_place, is_name_of, methods_in, same_name}
use Rattle.je_classes.proofs.Lists.{contains-any}
use Rattle.je_fitting.specs.Expressions.{is_constructor, method_at}
use Rattle.class_names.specs.Words.{class_words, further_words, library_words, member_words}
use Rattle.je_sound.proofs.Library.{there-too}
use Rattle.library_classes.specs.Library.{LibraryStands, all_due, rows}
use Rattle.library_fits.proofs.Table.{apart}

-- Object's constructor
record MakerDue (number : List ℕ → NameId) : Type 0 where
  maker : CoreMethod
  there : slice_get (methods_in (slice_get (all_due number) object_class.0)) constructor_place ≡ Some maker
  name : maker.name ≡ number (codes "new")

maker-due : (number : List ℕ → NameId) → MakerDue number
unfolding library_class object_class all_due rows constructor_place
maker-due number = record { maker = _; there = refl; name = refl }

pub word-there : (word : List ℕ) → list_any (bytes_eq word) library_words ≡ true → Contains library_words word
word-there word h = let p = contains-any (bytes_eq word) library_words h in subst (Contains library_words) (sym ((bytes_eq-Decides word p.element).0 p.passes)) p.there

new-there : list_any (bytes_eq (codes "new")) library_words ≡ true
unfolding library_words class_words member_words further_words
new-there = refl

module _ (p : CoreProgram) (s : LibraryStands p) where
  pub method-there : (k : ClassId) (place : ℕ) (m : CoreMethod) → slice_get (methods_in (slice_get (all_due s.number) k.0)) place ≡ Some m → method_at p k place ≡ Some m
  method-there k place m e = by (slice_get (all_due s.number) k.0) refl e
    where
      by : (o : Option CoreClass) → slice_get (all_due s.number) k.0 ≡ o → slice_get (methods_in o) place ≡ Some m → method_at p k place ≡ Some m
      by None q h = absurd cc
      by (Some c) q h = ap (λ o. slice_get (methods_in o) place) (there-too p s k c q) ∙ h

  -- words under one number are one
  pub same-word : (x y : List ℕ) → list_any (bytes_eq x) library_words ≡ true → list_any (bytes_eq y) library_words ≡ true → same_name (s.number x) (s.number y) ≡ true → x ≡ y
  same-word x y there there' e = let one : s.number x ≡ s.number y = grind (arith, nat_tests) in s.one_text x y (word-there x there) (word-there y there') one

  by-name : (m : CoreMethod) → is_constructor p m ≡ same_name (s.number (codes "new")) m.name
  by-name m = let d = maker-due s.number in ap (is_name_of m.name) (method-there object_class constructor_place d.maker d.there) ∙ ap (λ x. same_name x m.name) d.name

  pub constructor-named : (m : CoreMethod) → m.name ≡ s.number (codes "new") → is_constructor p m ≡ true
  constructor-named m e = by-name m ∙ ap (λ x. same_name (s.number (codes "new")) x) e ∙ same-itself (s.number (codes "new"))
    where
      same-itself : (x : NameId) → same_name x x ≡ true
      same-itself x = grind (arith, nat_tests)

  pub method-named : (m : CoreMethod) (word : List ℕ) → m.name ≡ s.number word → list_any (bytes_eq word) library_words ≡ true → bytes_eq (codes "new") word ≡ false → is_constructor p m ≡ false
  method-named m word e there other = by-name m ∙ ap (λ x. same_name (s.number (codes "new")) x) e ∙ differ _ refl
    where
      differ : (b : Bool) → same_name (s.number (codes "new")) (s.number word) ≡ b → b ≡ false
      differ false q = refl
      differ true q = apart ((bytes_eq-Decides (codes "new") word).1 (same-word (codes "new") word new-there there q)) other
