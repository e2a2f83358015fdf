-- How far the methods of a class are judged.
use Rattle.std.specs.Prelude.{◌≡◌, ℕ, List, map, option_map}
use Rattle.je_ast.specs.Types.{name_view, type_view}
use Rattle.je_scopes.specs.Source.{Source}
use Rattle.je_scopes.specs.Members.{MethodSite}
use Rattle.je_scopes.specs.Faults.{Fault, of_methods}
use Rattle.name_faults.specs.declared.faults.Faults.{Faults}
use Rattle.name_faults.proofs.Left.{Left}
use Rattle.name_judge.specs.declared.met.Signatures.{Signatures}
use Rattle.name_judge.specs.Kept.{AreMet, IsHead}
use Rattle.name_judge.specs.declared.methods.Method.{Method}

-- Some methods were judged, whose signatures were met, and these are left.
pub record MethodsLeft (p : Source) (c : ℕ) (start now : Faults) (met : Signatures) (rest : List MethodSite) (whole : List Fault) : Type 0 where
  pub earlier : List MethodSite
  pub have : AreMet p c earlier met
  pub left : Left start now (of_methods p c earlier rest) whole

-- It is this method or constructor.
pub record IsMethod (method : Method) (m : MethodSite) : Type 0 where
  pub head : IsHead method.head m
  pub span : m.name.span ≡ method.span
  pub result : m.result ≡ option_map (λ t. type_view t.now) method.result
  pub throws : m.throws ≡ map name_view method.throws.now
