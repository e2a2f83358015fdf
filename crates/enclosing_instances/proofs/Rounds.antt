-- The instance round a new object, by how many classes outwards it stands.
use Rattle.std.proofs.Common.{◌≡◌, ℕ, suc, List, [], ◌∷◌, Option, Some, None, true, false, refl, sym, ap, ◌∙◌}
use Rattle.std.specs.Prelude.{Bool, not, ◌||◌, if◌then◌else◌}
use Rattle.je_scopes.specs.SourceTypes.{SourceType, plain, of_class, of_variable}
use Rattle.header_typing.specs.Supers.{class_in}
use Rattle.name_typing.specs.Instances.{has_instance}
use Rattle.name_typing.specs.Program.{Frame, Program}
use Rattle.call_typing.specs.Creations.{has_enclosing, has_round, has_round_from, is_inner, is_round}
use Rattle.enclosing_instances.specs.way.Rounds.{first_round, has_instance_if}

module _ (p : Program) (c : ℕ) where
  one : (b : Bool) (n : ℕ) (all : List Frame) (o : Option ℕ) (rest : Bool) → rest ≡ has_instance_if all o →
      (if b then has_instance n all else rest) ≡ has_instance_if all (if b then Some n else o)
  one true n all o rest e = refl
  one false n all o rest e = e

  pub round-first : (n : ℕ) (all fs : List Frame) → has_round_from p c n all fs ≡ has_instance_if all (first_round p c n fs)
  round-first n all [] = refl
  round-first n all (f ∷ fs) = one (is_round p c f) n all (first_round p c (suc n) fs) (has_round_from p c (suc n) all fs) (round-first (suc n) all fs)

pub outer_has : (p : Program) (c : ℕ) (fs : List Frame) → is_inner p c ≡ false → has_round p c fs ≡ true
outer_has p c fs e = ap (λ (b : Bool). not b || has_round_from p c 0 fs fs) e

pub inner_has : (p : Program) (c : ℕ) (fs : List Frame) (o : Option ℕ) → is_inner p c ≡ true → o ≡ first_round p c 0 fs → has_round p c fs ≡ has_instance_if fs o
inner_has p c fs o e f = ap (λ (b : Bool). not b || has_round_from p c 0 fs fs) e ∙ round-first p c 0 fs fs ∙ ap (has_instance_if fs) (sym f)

pub ruleset by_first = (outer_has, inner_has)

-- of a type, by its class
pub class_has : (p : Program) (t : SourceType) (c : ℕ) (fs : List Frame) → class_in t ≡ Some c → has_enclosing p t fs ≡ has_round p c fs
class_has p (of_class d args n) c fs e = let same : d ≡ c = cc in ap (λ k. has_round p k fs) same
class_has p (plain b n) c fs e = absurd (cc)
class_has p (of_variable d at n) c fs e = absurd (cc)

pub no_class_has : (p : Program) (t : SourceType) (fs : List Frame) → class_in t ≡ None → has_enclosing p t fs ≡ true
no_class_has p (plain b n) fs e = refl
no_class_has p (of_class d args n) fs e = absurd (cc)
no_class_has p (of_variable d at n) fs e = refl

pub ruleset enclosing_by_class = (class_has, no_class_has)
