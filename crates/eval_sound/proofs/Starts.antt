-- Initializers, and the start of classes.
use Rattle.std.proofs.Common.{◌≡◌, List, [], ◌∷◌, Option, Some, None, refl, sym, ◌∙◌}
use Rattle.std.specs.Prelude.{Bool, true, false, cond, filter}
use Rattle.std.specs.List.{All}
use Rattle.std.proofs.lemmas.List.Elements.{All-head, All-tail}
use Rattle.je_core.specs.declared.object.Obj.{Obj}
use Rattle.je_core.specs.declared.types.ClassId.{ClassId}
use Rattle.je_core.specs.declared.value.Value.{Value}
use Rattle.je_core.specs.declared.value.Value.TheVariants.{Null}
use Rattle.je_core.specs.Core.{Core, CoreInitializer, CoreClass, form_of, ty_of}
use Rattle.je_classes.specs.Hierarchy.{class_at}
use Rattle.je_classes.specs.Subtypes.{class_type}
use Rattle.je_fitting.specs.Expressions.{Fits}
use Rattle.je_fitting.specs.Members.{InitializerFits, initializer_body}
use Rattle.je_fitting.proofs.Booleans.{is_false}
use Rattle.je_fitting.proofs.ClassesDecided.{at-place}
use Rattle.je_java.specs.Constructors.{is_of_instance, instance_initializers}
use Rattle.je_java.specs.Meaning.{Meanings, is_static, static_initializers, run_initializer, run_initializers, start_first, start, started_by, start_if, eval_node}
use Rattle.je_java.specs.Subclasses.{upwards}
use Rattle.je_sound.specs.Values.{ValueFits}
use Rattle.je_sound.proofs.Dispatched.{class-fits}
use Rattle.je_sound.proofs.Lists.{all-places}
use Rattle.eval_sound.specs.Nodes.{Every, Throughout}
use Rattle.eval_sound.specs.Premises.{Premises}
use Rattle.eval_sound.specs.Safety.{Any, Setting, Allowed, ResultFits, Context, starting_in, Safe}
use Rattle.eval_sound.proofs.Bodies.{defaults-fit}
use Rattle.eval_sound.proofs.Forms.{form-safe}
use Rattle.eval_sound.proofs.Moves.{any, fits-more, safe-ret, safe-seq, safe-framed, Quiet, quiet-ret, quiet-bind, quiet-seq, quiet-if, quiet-initializing, quiet-safe}
use Rattle.eval_sound.specs.Laws.{MeaningsAreSafe}
use Rattle.eval_sound.proofs.Steps.{quiet-get_started, quiet-put_started}
use Rattle.eval_sound.proofs.Types.{Known}

-- an initializer that fits, and whose expressions are allowed
pub record InitRuns (S : Setting) (class : ClassId) (i : CoreInitializer) : Type 0 where
  pub fits : InitializerFits S.program class i
  pub allowed : Throughout (Allowed S) i.body

-- some, all of the class itself or all of its instances
pub data InitsRun (S : Setting) (class : ClassId) (static : Bool) : List CoreInitializer → Type 0 where
  no_init : InitsRun S class static []
  an_init : {i : CoreInitializer} {is : List CoreInitializer} → i.is_static ≡ static → InitRuns S class i → InitsRun S class static is → InitsRun S class static (i ∷ is)

module _ {S : Setting} (fit : Known S.program) (premises : Premises S) where
  inits-all : (class : ClassId) (c : CoreClass) → class_at S.program class ≡ Some c → All (InitRuns S class) c.initializers
  inits-all class c there = all-places (InitRuns S class) c.initializers λ at i e. record {
    fits = at-place (InitializerFits S.program class) c.initializers at i (class-fits S.program fit.whole class c there).initializers e;
    allowed = premises.allowed.initializers class c at i there e;
  }

  kept : (class : ClassId) (static : Bool) (test : CoreInitializer → Bool) → ((i : CoreInitializer) → test i ≡ true → i.is_static ≡ static) → (is : List CoreInitializer) → All (InitRuns S class) is → InitsRun S class static (filter test is)
  kept class static test h [] a = no_init
  kept class static test h (i ∷ is) a = by (test i) refl (kept class static test h is (All-tail (InitRuns S class) i is a))
    where
      by : (b : Bool) → test i ≡ b → InitsRun S class static (filter test is) → InitsRun S class static (cond b (i ∷ filter test is) (filter test is))
      by true q more = an_init (h i q) (All-head (InitRuns S class) i is a) more
      by false q more = more

  static-inits : (class : ClassId) → InitsRun S class true (static_initializers (class_at S.program class))
  static-inits class = by (class_at S.program class) refl
    where
      by : (o : Option CoreClass) → class_at S.program class ≡ o → InitsRun S class true (static_initializers o)
      by None q = no_init
      by (Some c) q = kept class true is_static (λ i e. e) c.initializers (inits-all class c q)

  pub instance-inits : (class : ClassId) → InitsRun S class false (instance_initializers (class_at S.program class) 0)
  instance-inits class = by (class_at S.program class) refl
    where
      by : (o : Option CoreClass) → class_at S.program class ≡ o → InitsRun S class false (instance_initializers o 0)
      by None q = no_init
      by (Some c) q = kept class false is_of_instance (λ i e. is_false e) c.initializers (inits-all class c q)

  module _ {m : Meanings} (g : MeaningsAreSafe S m) where
    safe-run_initializer : {c : Context} {w : List Obj} (class : ClassId) (this : Value) (i : CoreInitializer) → InitRuns S class i → (i.is_static ≡ false → ValueFits S.program w (class_type class) this) →
        Safe S c w Any (run_initializer m this i)
    safe-run_initializer class this i r t =
        safe-framed (initializer_body class i) Null (record { this = t; locals = record { each = defaults-fit S.program _ i.locals r.fits.locals } }) (λ later l. any) (λ u q later l v z. any)
        (λ later l. g.exec r.fits.body r.allowed later)

    pub safe-run_initializers : {c : Context} (class : ClassId) {static : Bool} {w : List Obj} (this : Value) {is : List CoreInitializer} → InitsRun S class static is →
        (static ≡ false → ValueFits S.program w (class_type class) this) → Safe S c w Any (run_initializers m this is)
    safe-run_initializers class this no_init t = safe-ret _ any
    safe-run_initializers class this (an_init {i = i} e r rs) t = safe-seq (safe-run_initializer class this i r (λ z. t (sym e ∙ z))) λ later l. safe-run_initializers class this rs (λ z. fits-more l (t z))

    -- the start of a class looks for no way out
    pub quiet-start_first : {c : Context} (classes : List ClassId) (w : List Obj) → Quiet S c w Any (start_first S.program m classes)
    quiet-start_first [] w = quiet-ret _ any
    quiet-start_first {c = c} (class ∷ above) w = quiet-bind (quiet-get_started class) λ later l started q. quiet-if started (quiet-ret _ any)
        (quiet-seq (quiet-put_started class) λ w2 l2. quiet-seq (quiet-start_first above w2) λ w3 l3.
        quiet-initializing class (safe-run_initializers {c = starting_in c} class Null (static-inits class) (λ z. absurd cc)))

    pub quiet-start : {c : Context} (class : ClassId) (w : List Obj) → Quiet S c w Any (start S.program m class)
    unfolding start
    quiet-start class w = quiet-start_first (upwards S.program class) w

    safe-start_if : {c : Context} (class : Option ClassId) (w : List Obj) → Safe S c w Any (start_if S.program m class)
    safe-start_if None w = safe-ret _ any
    safe-start_if (Some class) w = quiet-safe (quiet-start class w)

    -- an expression behind its unit
    pub node-safe : {c : Context} {e : Core} → Fits S.program c.body e → Every (Allowed S) e → (w : List Obj) → Safe S c w (ResultFits S.program (ty_of e)) (eval_node S.program m e)
    node-safe {e = e} f x w = safe-seq (safe-start_if (started_by S.program (form_of e)) w) λ later l. form-safe fit premises g f x later
