-- Types and signatures as lists of numbers.
use Rattle.std.specs.Prelude.{ℕ, Bool, true, false, List, [], ◌∷◌, ◌++◌}
use Rattle.je_base.specs.declared.span.NameId.{NameId}
use Rattle.je_classes.specs.Subtypes.{kind_number, number_in_kind}
use Rattle.je_scopes.specs.Source.{Source}
use Rattle.je_scopes.specs.Settled.{settled}
use Rattle.je_scopes.specs.SourceTypes.{SourceType, SourceTypes, plain, of_class, of_variable, no_source_types, more_source_types}
use Rattle.je_scopes.specs.Members.{MethodSite, parameter_types}

-- what a type is, and its numbers; a class's type arguments stand behind it, each behind a 1, and 0 behind them
abbrev mutual
  pub spelled : SourceType → List ℕ
  spelled (plain b n) = 0 ∷ kind_number b ∷ number_in_kind b ∷ n ∷ []
  spelled (of_class c ts n) = 1 ∷ c ∷ n ∷ all_spelled ts
  spelled (of_variable c at n) = 2 ∷ c ∷ at ∷ n ∷ []

  pub all_spelled : SourceTypes → List ℕ
  all_spelled no_source_types = 0 ∷ []
  all_spelled (more_source_types t ts) = 1 ∷ (spelled t ++ all_spelled ts)

abbrev pub sort_number : Bool → ℕ
sort_number true = 1
sort_number false = 0

-- whether it is a constructor, its name, and its parameters' types
abbrev pub signature : Bool → NameId → SourceTypes → List ℕ
signature is_constructor name ts = sort_number is_constructor ∷ name.0 ∷ all_spelled ts

unfoldable pub signature_of : Source → ℕ → MethodSite → List ℕ
signature_of p c m = signature m.is_constructor m.name.name (parameter_types p (settled p) c m)
