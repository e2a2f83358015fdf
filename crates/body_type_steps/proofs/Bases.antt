-- What bases of classes show, and dimensions that were held to their limit.
use Rattle.std.proofs.Common.{◌≡◌, ℕ, ◌≤◌, List, [], ◌∷◌, length, refl, sym, ap, ◌∙◌, arith, true≢false}
use Rattle.std.specs.Prelude.{Bool, true, false, nat_le}
use Rattle.std.proofs.lemmas.Bool.Decides.{nat_tests}
use Rattle.je_base.specs.declared.span.Span.{Span}
use Rattle.je_core.specs.declared.types.ClassId.{ClassId}
use Rattle.je_core.specs.declared.types.Base.{Base}
use Rattle.je_core.specs.declared.types.Base.TheVariants as base
use Rattle.je_ast.specs.declared.ty_name.Primitive.{Primitive}
use Rattle.je_scopes.specs.SourceTypes.{SourceType, SourceTypes, base_of, no_source_types, of_class, plain}
use Rattle.header_typing.specs.WrittenTypes.{is_in_limit}
use Rattle.je_typing.specs.declared.fault.TypeRule.{TypeRule}
use Rattle.je_typing.specs.declared.fault.TypeRule.TheVariants.{BadArray}
use Rattle.je_typing.specs.Judged.{Judged, gives, faulty, bind, check}
use Rattle.name_types.specs.declared.types.SrcBase.TheVariants.{Plain}
use Rattle.name_types.specs.declared.types.SrcTy.{SrcTy}
use Rattle.name_types.specs.View.{all_shown, base_shown, plain_shown}
use Rattle.name_types.proofs.Bases.{plain_base}
use Rattle.name_types.proofs.Named.{primitive_plain}
use Rattle.body_type_steps.specs.way.Checked.{sized}

nothing-shown : (types : List SrcTy) → length types ≡ 0 → no_source_types ≡ all_shown types
nothing-shown [] e = refl
nothing-shown (t ∷ types) e = absurd (omega arith)

pub bare_class : (c : ClassId) (types : List SrcTy) (n : ℕ) → length types ≡ 0 → base_shown (Plain (base.Class c)) n ≡ of_class c.0 (all_shown types) n
bare_class c types n e = plain_base (base.Class c) n ∙ ap (λ (ts : SourceTypes). of_class c.0 ts n) (nothing-shown types e)

is-given : Judged (Unit {0}) → Bool
is-given (gives done) = true
is-given (faulty fault) = false

holds : (rule : TypeRule) (span : Span) (b : Bool) (done : Unit {0}) → check rule span b ≡ gives done → b ≡ true
unfolding check is-given
holds rule span true done e = refl
holds rule span false done e = absurd (true≢false (sym (ap is-given e)))

pub held : (rule : TypeRule) (span : Span) (b : Bool) (done : Unit {0}) (n : ℕ) → b ≡ is_in_limit n → check rule span b ≡ gives done → n ≤ 255
held rule span b done n e h = let g : nat_le n 255 ≡ true = sym e ∙ holds rule span b done h in grind (arith, nat_tests)

pub primitive_sized : (w : Primitive) (b : Base) (dims : ℕ) (span : Span) → b ≡ base_of w → sized (base_shown (Plain b)) dims span ≡ sized (plain (base_of w)) dims span
primitive_sized w b dims span e =
    let is : base_shown (Plain b) dims ≡ plain (base_of w) dims = plain_base b dims ∙ ap (λ (k : Base). plain_shown k dims) e ∙ primitive_plain w dims in
    ap (λ (t : SourceType). bind (check BadArray span (is_in_limit dims)) (λ (d : Unit {0}). gives t)) is
