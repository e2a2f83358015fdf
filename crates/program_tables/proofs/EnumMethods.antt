-- Classes with the methods of enums.
use Rattle.std.proofs.Common.{◌≡◌, ℕ, suc, List, [], ◌∷◌, ◌++◌, drop, take, refl, ap, ◌∙◌}
use Rattle.std.specs.Prelude.{if◌then◌else◌}
use Rattle.je_scopes.specs.Source.{Source}
use Rattle.class_heads.specs.View.{behind}
use Rattle.class_typing.specs.Enums.{enum_methods}
use Rattle.class_typing.specs.Programs.{all_with_methods, classes, library_count, number, with_enum_methods}
use Rattle.declarations.specs.Declarations.{DeclaredClass, is_enum_sort}
use Rattle.je_names.specs.Scopes.{declared_classes}
use Rattle.library_classes.specs.Numbers.{number_in}
use Rattle.library_declarations.specs.Library.{library_declared}
use Rattle.program_tables.proofs.Dropped.{drop_front}

-- nothing of a source but its texts matters
module _ (p q : Source) (same : p.texts ≡ q.texts) where
  one-same : (c : ℕ) (d : DeclaredClass) → with_enum_methods p c d ≡ with_enum_methods q c d
  one-same c d =
      ap (λ (texts : List (List ℕ)).
      if is_enum_sort d.kind.sort then record d { methods = enum_methods (number_in texts) c } else d) same

  same-methods : (c : ℕ) (ds : List DeclaredClass) → all_with_methods p c ds ≡ all_with_methods q c ds
  same-methods c [] = refl
  same-methods c (d ∷ ds) = λ i. one-same c d i ∷ same-methods (suc c) ds i

  pub by_texts : (before now : List DeclaredClass) (n : ℕ) → now ≡ take n before ++ all_with_methods p n (drop n before) →
      now ≡ take n before ++ all_with_methods q n (drop n before)
  by_texts before now n made =
      made ∙ ap (λ (ds : List DeclaredClass). take n before ++ ds) (same-methods n (drop n before))

pub are_classes : (source : Source) (before now : List DeclaredClass) (n : ℕ) → n ≡ library_count source →
    before ≡ declared_classes source → now ≡ take n before ++ all_with_methods source n (drop n before) →
    behind (library_declared (number source)) now ≡ classes source
unfolding classes
are_classes source before now n count declared made =
    ap (behind (library_declared (number source))) made
    ∙ (λ i. library_declared (number source) ++ drop (library_count source)
    (take (count i) (declared i) ++ all_with_methods source (count i) (drop (count i) (declared i))))
    ∙ ap (λ (ds : List DeclaredClass). library_declared (number source) ++ ds)
    (drop_front (library_count source) (declared_classes source) (all_with_methods source (library_count source)) refl)
