-- Type arguments put in for type variables (JLS 4.5).
use Rattle.std.specs.Prelude.{ℕ, zero, suc, ◌+◌, min, Option, Some, None, nat_eq, if◌then◌else◌}
use Rattle.je_scopes.specs.SourceTypes.{SourceType, SourceTypes, plain, of_class, of_variable, no_source_types, more_source_types}

-- an array of so many dimensions over a type; no type has more than 255 (JVMS 4.3.2)
abbrev pub array_over : SourceType → ℕ → SourceType
array_over (plain b m) n = plain b (min 255 (m + n))
array_over (of_class c ts m) n = of_class c ts (min 255 (m + n))
array_over (of_variable c at m) n = of_variable c at (min 255 (m + n))

abbrev pub argument_at : SourceTypes → ℕ → Option SourceType
argument_at no_source_types at = None
argument_at (more_source_types t ts) zero = Some t
argument_at (more_source_types t ts) (suc at) = argument_at ts at

-- the argument for a variable of this class, under so many dimensions; a variable without argument stays
abbrev pub in_place : Option SourceType → ℕ → ℕ → ℕ → SourceType
in_place None c at n = of_variable c at n
in_place (Some t) c at n = array_over t n

-- a type in which each variable of a class is the argument of its place
abbrev mutual
  pub substituted : ℕ → SourceTypes → SourceType → SourceType
  substituted c args (plain b n) = plain b n
  substituted c args (of_class d ts n) = of_class d (all_substituted c args ts) n
  substituted c args (of_variable d at n) = if nat_eq d c then in_place (argument_at args at) d at n else of_variable d at n

  pub all_substituted : ℕ → SourceTypes → SourceTypes → SourceTypes
  all_substituted c args no_source_types = no_source_types
  all_substituted c args (more_source_types t ts) = more_source_types (substituted c args t) (all_substituted c args ts)
