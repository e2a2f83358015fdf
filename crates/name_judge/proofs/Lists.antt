-- Lists of numbers are equal where the types that they spell are the same.
use Rattle.std.proofs.Common.{◌≡◌, ℕ, Bool, true, false, nat_eq, List, [], ◌++◌, refl, sym, ap, ◌∙◌, append_assoc}
use Rattle.std.specs.Prelude.{◌&&◌}
use Rattle.std.proofs.lemmas.List.{append-nil}
use Rattle.std.specs.Str.{bytes_eq}
use Rattle.je_classes.specs.Subtypes.{kind_number, number_in_kind, same_base}
use Rattle.je_scopes.specs.Settled.{settled}
use Rattle.je_scopes.specs.SourceTypes.{SourceType, SourceTypes, plain, of_class, of_variable, no_source_types, more_source_types, same_source_type, same_source_types}
use Rattle.je_scopes.specs.Members.{parameter_types}
use Rattle.je_scopes.specs.Faults.{same_sort}
use Rattle.name_judge.specs.Laws.{SameLists}
use Rattle.name_judge.specs.Spelled.{spelled, all_spelled, sort_number, signature_of}

and-assoc : (a b c : Bool) → (a && (b && c)) ≡ ((a && b) && c)
and-assoc true b c = refl
and-assoc false b c = refl

and-true : (a : Bool) → (a && true) ≡ a
and-true true = refl
and-true false = refl

-- what stands behind the two is compared behind them
mutual
  same-spelled : (t u : SourceType) (r s : List ℕ) → bytes_eq (spelled t ++ r) (spelled u ++ s) ≡ (same_source_type t u && bytes_eq r s)
  same-spelled (plain b m) (plain c n) r s =
      and-assoc (nat_eq (kind_number b) (kind_number c)) (nat_eq (number_in_kind b) (number_in_kind c)) (nat_eq m n && bytes_eq r s)
      ∙ and-assoc (same_base b c) (nat_eq m n) (bytes_eq r s)
  same-spelled (plain b m) (of_class d us n) r s = refl
  same-spelled (plain b m) (of_variable d j n) r s = refl
  same-spelled (of_class c ts m) (plain b n) r s = refl
  same-spelled (of_class c ts m) (of_class d us n) r s =
      ap (λ (k : Bool). nat_eq c d && (nat_eq m n && k)) (all-spelled ts us r s)
      ∙ and-assoc (nat_eq c d) (nat_eq m n) (same_source_types ts us && bytes_eq r s)
      ∙ and-assoc (nat_eq c d && nat_eq m n) (same_source_types ts us) (bytes_eq r s)
  same-spelled (of_class c ts m) (of_variable d j n) r s = refl
  same-spelled (of_variable c i m) (plain b n) r s = refl
  same-spelled (of_variable c i m) (of_class d us n) r s = refl
  same-spelled (of_variable c i m) (of_variable d j n) r s =
      and-assoc (nat_eq c d) (nat_eq i j) (nat_eq m n && bytes_eq r s)
      ∙ and-assoc (nat_eq c d && nat_eq i j) (nat_eq m n) (bytes_eq r s)

  all-spelled : (ts us : SourceTypes) (r s : List ℕ) → bytes_eq (all_spelled ts ++ r) (all_spelled us ++ s) ≡ (same_source_types ts us && bytes_eq r s)
  all-spelled no_source_types no_source_types r s = refl
  all-spelled no_source_types (more_source_types u us) r s = refl
  all-spelled (more_source_types t ts) no_source_types r s = refl
  all-spelled (more_source_types t ts) (more_source_types u us) r s =
      (λ i. bytes_eq (append_assoc (spelled t) (all_spelled ts) r i) (append_assoc (spelled u) (all_spelled us) s i))
      ∙ same-spelled t u (all_spelled ts ++ r) (all_spelled us ++ s)
      ∙ ap (λ (k : Bool). same_source_type t u && k) (all-spelled ts us r s)
      ∙ and-assoc (same_source_type t u) (same_source_types ts us) (bytes_eq r s)

same-sorts : (a b : Bool) → nat_eq (sort_number a) (sort_number b) ≡ same_sort a b
same-sorts true true = refl
same-sorts true false = refl
same-sorts false true = refl
same-sorts false false = refl

whole : (ts us : SourceTypes) → bytes_eq (all_spelled ts) (all_spelled us) ≡ same_source_types ts us
whole ts us = sym (λ i. bytes_eq (append-nil (all_spelled ts) i) (append-nil (all_spelled us) i)) ∙ all-spelled ts us [] [] ∙ and-true (same_source_types ts us)

pub same_lists_hold : SameLists
unfolding signature_of
same_lists_hold p c m n =
    (λ i. same-sorts m.is_constructor n.is_constructor i && (nat_eq m.name.name.0 n.name.name.0 && whole (parameter_types p (settled p) c m) (parameter_types p (settled p) c n) i))
    ∙ and-assoc (same_sort m.is_constructor n.is_constructor) (nat_eq m.name.name.0 n.name.name.0) (same_source_types (parameter_types p (settled p) c m) (parameter_types p (settled p) c n))
