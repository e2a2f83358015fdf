-- Where the bodies of a class begin.
use Rattle.std.proofs.Common.{◌≡◌, ℕ, List, [], Option, refl}
use Rattle.std.specs.Prelude.{Bool, true, false}
use Rattle.je_core.specs.Core.{CoreProgram}
use Rattle.je_classes.specs.Members.{In}
use Rattle.je_classes.proofs.Sets.{by_either}
use Rattle.je_fitting.specs.Expressions.{Body}
use Rattle.je_fitting.specs.Expressions as core
use Rattle.je_scopes.specs.Sites.{Context}
use Rattle.source_types.specs.Erasure.{class_numbered}
use Rattle.name_typing.specs.Instances.{is_instance}
use Rattle.name_typing.specs.Program.{Frame, Initializer, LocalVariable, Program, frames}
use Rattle.body_typing.specs.Expressions.{Known}
use Rattle.body_typing.specs.FinalVariables.{Scope, builds, starts}
use Rattle.class_typing.specs.Members.{scope_in}
use Rattle.fitting_laws.specs.Represented.{LocalIsSound}
use Rattle.fitting_laws.proofs.Lists.{in-cases}
use Rattle.body_laws.specs.Bodies.{IsInBody}
use Rattle.class_fitting_laws.specs.Classes.{ClassStands}
use Rattle.std.proofs.Common.{subst}

module _ (p : Program) (k : Known) (q : CoreProgram) (c : ℕ) (round : List Frame) (stands : ClassStands p q c round) where
  abbrev pub scope : Context → Option Initializer → Bool → Scope
  scope context initializer is_constructor = scope_in p k c round context initializer is_constructor

  -- a body of the class, with no locals yet
  pub begins : (body : Body) (context : Context) (initializer : Option Initializer) (is_constructor : Bool) → body.class ≡ class_numbered c → (is_instance context ≡ true → body.is_static ≡ false)
      → (builds p k.is_blank (scope context initializer is_constructor) ≡ true → core.builds body.code ≡ true) → (starts p k.is_blank (scope context initializer is_constructor) ≡ true → core.starts body.code ≡ true)
      → IsInBody p k q body (scope context initializer is_constructor) (scope context initializer is_constructor)
  begins body context initializer is_constructor class this builds starts = record {
    within = record { class = refl; context = refl; initializer = refl; round = refl; is_constructor = refl };
    stands = record {
      place = record {
        class = class;
        there = stands.there;
        this = this;
        locals = λ v i. elim i [ ];
        sound = sound-in;
        round = stands.round;
        named = stands.named context;
        written = stands.written context;
      };
      builds = builds;
      starts = starts;
    };
  }
    where
      none-here : (f : Frame) (v : LocalVariable) → f ≡ (scope context initializer is_constructor).place.here → In f.locals v → LocalIsSound p q v
      none-here f v e m = by (subst (λ (g : Frame). In g.locals v) e m)
        where
          by : In [] v → LocalIsSound p q v
          by i = elim i [ ]

      sound-in : (f : Frame) (v : LocalVariable) → In (frames (scope context initializer is_constructor).place) f → In f.locals v → LocalIsSound p q v
      sound-in f v i m = by_either (λ e. none-here f v e m) (λ r. stands.sound f v r m) (in-cases (scope context initializer is_constructor).place.here f round i)
