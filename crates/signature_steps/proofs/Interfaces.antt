-- Interfaces that a class names, one after the other.
use Rattle.std.proofs.Common.{◌≡◌, ℕ, ◌+◌, ◌<◌, List, [], ◌∷◌, ◌++◌, length, drop, get_or, refl, ap, sym}
use Rattle.je_ast.specs.declared.ty_name.TyName.{TyName}
use Rattle.je_ast.specs.Types.{type_view, type_views_of}
use Rattle.je_scopes.specs.Scope.{header}
use Rattle.je_scopes.specs.SourceTypes.{SourceType}
use Rattle.je_typing.specs.declared.fault.Refusal.{Refusal}
use Rattle.je_typing.specs.Answers.{IsFault}
use Rattle.je_typing.specs.Judged.{Judged, gives, bind}
use Rattle.signature_typing.specs.Signatures.{Setting, interface, interfaces_from}
use Rattle.written_types.proofs.Walking.{walk_on, walk_fails}

module _ (s : Setting) (c : ℕ) (ts : List TyName) (i : ℕ) (earlier : List SourceType) (whole : Judged (Unit {0})) (t : TyName) (within : i < length ts) (is : t ≡ get_or ts i t)
    (met : whole ≡ interfaces_from s c earlier (type_views_of (drop i ts))) where
  pub interfaces_on : (later : List SourceType) (done : Unit {0}) → later ≡ earlier ++ s.means c header (type_view t) ∷ [] → interface s c earlier (type_view t) ≡ gives done →
      whole ≡ interfaces_from s c later (type_views_of (drop (i + 1) ts))
  interfaces_on later done e g =
      walk_on (λ (es : List SourceType) (us : List TyName). interfaces_from s c es (type_views_of us)) ts i earlier whole t (interface s c earlier (type_view t)) later
      (λ us. ap (λ (es : List SourceType). bind (interface s c earlier (type_view t)) (λ (d : Unit {0}). interfaces_from s c es (type_views_of us))) (sym e)) within is met done g

  pub interfaces_fail : (r : Refusal) → IsFault (interface s c earlier (type_view t)) r → IsFault whole r
  interfaces_fail r f =
      walk_fails (λ (es : List SourceType) (us : List TyName). interfaces_from s c es (type_views_of us)) ts i earlier whole t (interface s c earlier (type_view t)) (earlier ++ s.means c header (type_view t) ∷ [])
      (λ us. refl) within is met r f
