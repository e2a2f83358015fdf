-- Where nothing that was met newly tells where a class stands, no class is asked, and the constants stay.
use Rattle.std.proofs.Common.{◌≡◌, ℕ, zero, suc, List, [], ◌∷◌, ◌++◌, length, Option, None, Some, refl, ap, sym, ◌∙◌}
use Rattle.std.specs.Prelude.{Bool, true, false, ◌||◌, cond, is_some, if◌then◌else◌}
use Rattle.std.specs.List.{find, list_any, sum_by}
use Rattle.je_classes.proofs.Lists.{bool_cases}
use Rattle.je_classes.specs.Members.{Member}
use Rattle.je_scopes.specs.Sites.{Site}
use Rattle.je_scopes.specs.Source.{Source}
use Rattle.declarations.specs.Declarations.{DeclaredClass}
use Rattle.name_typing.specs.Program.{Constant, Frame, Program}
use Rattle.body_typing.specs.Bodies.{Met}
use Rattle.class_typing.specs.ConstantFields.{constant_next, constants_of, constants_within}
use Rattle.class_typing.specs.Elaboration.{constants_behind}
use Rattle.class_typing.specs.Places.{class_standing, in_body, is_placed, met_at, same_number, stands_at}
use Rattle.type_decl.specs.way.Telling.{tells}

no-class : (c : ℕ) (o : Option ℕ) → is_some o ≡ false → same_number c o ≡ false
no-class c None e = refl
no-class c (Some d) e = absurd cc

pub left_false : (a b : Bool) → (a || b) ≡ false → a ≡ false
left_false true b e = e
left_false false b e = refl

pub right_false : (a b : Bool) → (a || b) ≡ false → b ≡ false
right_false true b e = absurd cc
right_false false b e = e

none-stands : (c : ℕ) (ms : List Met) → list_any tells ms ≡ false → find (stands_at c) ms ≡ None
none-stands c [] e = refl
none-stands c (m ∷ ms) e =
    ap (λ (b : Bool). cond b (Some m) (find (stands_at c) ms)) (no-class c (class_standing m) (left_false (tells m) (list_any tells ms) e))
    ∙ none-stands c ms (right_false (tells m) (list_any tells ms) e)

none-met : (sites : List Site) (ms : List Met) → list_any tells ms ≡ false → (o : Option ℕ) → is_some (met_at sites ms o) ≡ false
none-met sites ms e None = refl
none-met sites ms e (Some c) = ap is_some (none-stands c ms e)

none-placed : (sites : List Site) (ms : List Met) → list_any tells ms ≡ false → (c : ℕ) → is_placed sites ms c ≡ false
none-placed sites ms e c = none-met sites ms e (in_body sites c)

module _ (p : Program) (hidden : ℕ → ℕ) (round : ℕ → List Frame) (known : Member → Option Constant) where
  not-asked : (asked : ℕ → Bool) (n : ℕ) (m : Member) → asked m.class.0 ≡ false → constants_within p hidden round n asked known m ≡ known m
  not-asked asked zero m e = refl
  not-asked asked (suc n) m e =
      ap (λ (b : Bool). if b then constant_next p hidden round (constants_within p hidden round n asked known) m else known m) e

  pub nobody_asked : (asked : ℕ → Bool) → ((c : ℕ) → asked c ≡ false) → constants_of p hidden round asked known ≡ known
  unfolding constants_of
  nobody_asked asked e = λ i. λ m. not-asked asked (suc (sum_by (λ (d : DeclaredClass). length d.fields) p.classes)) m (e m.class.0) i

pub nothing_told : (source : Source) (met new : List Met) (known : Member → Option Constant) → list_any tells new ≡ false →
    known ≡ constants_behind source met new known
nothing_told source met new known e = sym (nobody_asked _ _ _ known (is_placed source.sites new) (none-placed source.sites new e))
